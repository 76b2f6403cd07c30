use Rattle.std.proofs.Common.{◌∙◌, ap, subst}
use Rattle.ng_rig.specs.Trace.{Handed}
use Rattle.ng_file.specs.declared.done.Done.TheVariants.{Hand}
use Rattle.ng_file.proofs.StoragePromiseLemmas.{same-promise}
use Rattle.ng_file.specs.Sectors.{KeepsHonest, trace_of}
use Rattle.ng_file.proofs.sectors.Sectors.hand.Goals as goal
use Rattle.ng_file.proofs.SectorLemmas.{faithful-hand, honest-now, invariant-now, model, trace-now}

pub invariant_of-self : goal.invariant_of-self
invariant_of-self g c =
    let s = model c.self.inside.file c.self.inside.count c.self.inside.done.values c.self.inside.files.values in
    invariant-now g.S.Storage.content g.S.Storage.promise s c.self.invariant s.file (Unit {0}) (same-promise (g.S.Storage.promise s.file))
    (Hand c.args.item.now) c.and-self-inside.result.values c.and-self-inside-2.result.values c.and-self-inside.ensures c.and-self-inside-2.ensures
    (λ honest faithful fact. faithful-hand c.args.item.now faithful)

pub returns-clause-trace : goal.returns-clause-trace
returns-clause-trace g c =
    let s = model c.self.inside.file c.self.inside.count c.self.inside.done.values c.self.inside.files.values in
    trace-now g.S.Storage.content g.S.Storage.promise s (Hand c.args.item.now) s.file
    c.and-self-inside.result.values c.and-self-inside-2.result.values c.self.invariant.1
    c.and-self-inside.ensures c.and-self-inside-2.ensures ∙ ap (λ t. Handed c.args.item.now (trace_of g.S.Storage.content t)) c.self.view_is

pub returns-clause-honest : goal.returns-clause-honest
returns-clause-honest g c =
    let s = model c.self.inside.file c.self.inside.count c.self.inside.done.values c.self.inside.files.values in
    subst (λ t. KeepsHonest g.S.Storage.content g.S.Storage.promise t (model s.file s.count c.and-self-inside.result.values
    c.and-self-inside-2.result.values)) c.self.view_is
    (honest-now g.S.Storage.content g.S.Storage.promise s c.self.invariant s.file (Unit {0}) (same-promise (g.S.Storage.promise s.file))
    (Hand c.args.item.now) c.and-self-inside.result.values c.and-self-inside-2.result.values c.and-self-inside.ensures c.and-self-inside-2.ensures
    (λ honest faithful fact. faithful-hand c.args.item.now faithful))
