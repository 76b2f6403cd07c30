use Rattle.std.proofs.Common.{◌*◌, ◌<◌, ◌∙◌, ap, sym, subst}
use Rattle.ng_rig.specs.Calls.{WriteSpec}
use Rattle.ng_rig.specs.Trace.{items}
use Rattle.ng_file.proofs.sectors.Sectors.write.Goals as goal
use Rattle.ng_file.specs.Promise.{MayHoldBesides}
use Rattle.ng_file.specs.Sectors.{AreHonest, KeepsHonest, trace_of}
use Rattle.ng_file.specs.declared.done.Done.TheVariants.{Put}
use Rattle.ng_file.proofs.SectorLemmas.{faithful-write, honest-now, invariant-now, items-put, model, spec-put, trace-now}

pub invariant_of-self : goal.invariant_of-self
invariant_of-self g c =
    let s = model c.self.inside.file c.self.inside.count c.self.inside.done.values c.self.inside.files.values in
    invariant-now g.S.Storage.content g.S.Storage.promise s c.self.invariant c.put_at-put.new.file
    (MayHoldBesides (512 * c.args.sector) c.args.bytes.now (g.S.Storage.promise s.file)
    (g.S.Storage.promise c.put_at-put.new.file)) c.put_at-put.ensures.promised
    (Put c.args.sector c.args.bytes.now) c.and-self-inside.result.values c.and-self-inside-2.result.values c.and-self-inside.ensures c.and-self-inside-2.ensures
    (λ honest faithful fact. faithful-write c.put_at-put.result c.args.sector c.args.bytes.now faithful
    (subst (λ t. c.args.sector < t.count) (sym c.self.view_is) c.requires) fact c.told-bytes c.put_at-put.ensures.put c.put_at-put.ensures.part)

pub returns-clause-trace : goal.returns-clause-trace
returns-clause-trace g c = λ honest.
    let s = model c.self.inside.file c.self.inside.count c.self.inside.done.values c.self.inside.files.values in
    let before = subst (AreHonest g.S.Storage.content g.S.Storage.promise) (sym c.self.view_is) honest in
    let told = spec-put (g.S.Storage.content c.put_at-put.new.file) (g.S.Storage.promise c.put_at-put.new.file)
    c.args.sector c.args.bytes.now before.1.0
    (subst (λ t. c.args.sector < t.count) (sym c.self.view_is) c.requires)
    (c.put_at-put.ensures.promised.holds before.0.0) c.told-bytes c.put_at-put.result c.put_at-put.ensures.put in
    subst (λ t. WriteSpec c.put_at-put.result c.args.sector c.args.bytes.now (trace_of g.S.Storage.content t) (trace_of g.S.Storage.content
    (model c.put_at-put.new.file s.count c.and-self-inside.result.values c.and-self-inside-2.result.values))) c.self.view_is
    (subst (WriteSpec c.put_at-put.result c.args.sector c.args.bytes.now (trace_of g.S.Storage.content s))
    (sym (trace-now g.S.Storage.content g.S.Storage.promise s (Put c.args.sector c.args.bytes.now)
    c.put_at-put.new.file c.and-self-inside.result.values c.and-self-inside-2.result.values
    c.self.invariant.1 c.and-self-inside.ensures c.and-self-inside-2.ensures)) told)

pub returns-clause-honest : goal.returns-clause-honest
returns-clause-honest g c =
    let s = model c.self.inside.file c.self.inside.count c.self.inside.done.values c.self.inside.files.values in
    subst (λ t. KeepsHonest g.S.Storage.content g.S.Storage.promise t (model c.put_at-put.new.file s.count c.and-self-inside.result.values
    c.and-self-inside-2.result.values)) c.self.view_is
    (honest-now g.S.Storage.content g.S.Storage.promise s c.self.invariant c.put_at-put.new.file
    (MayHoldBesides (512 * c.args.sector) c.args.bytes.now (g.S.Storage.promise s.file)
    (g.S.Storage.promise c.put_at-put.new.file)) c.put_at-put.ensures.promised
    (Put c.args.sector c.args.bytes.now) c.and-self-inside.result.values c.and-self-inside-2.result.values c.and-self-inside.ensures c.and-self-inside-2.ensures
    (λ honest faithful fact. faithful-write c.put_at-put.result c.args.sector c.args.bytes.now faithful
    (subst (λ t. c.args.sector < t.count) (sym c.self.view_is) c.requires) fact c.told-bytes c.put_at-put.ensures.put c.put_at-put.ensures.part))

pub returns-clause-items : goal.returns-clause-items
returns-clause-items g c =
    let s = model c.self.inside.file c.self.inside.count c.self.inside.done.values c.self.inside.files.values in
    ap items (trace-now g.S.Storage.content g.S.Storage.promise s (Put c.args.sector c.args.bytes.now)
    c.put_at-put.new.file c.and-self-inside.result.values c.and-self-inside-2.result.values
    c.self.invariant.1 c.and-self-inside.ensures c.and-self-inside-2.ensures)
    ∙ items-put g.S.Storage.content c.args.sector c.args.bytes.now c.put_at-put.new.file (trace_of g.S.Storage.content s)
    ∙ ap (λ t. items (trace_of g.S.Storage.content t)) c.self.view_is
