use Rattle.std.proofs.Common.{◌∙◌, ap, subst}
use Rattle.ng_rig.specs.Trace.{Synced}
use Rattle.ng_file.proofs.sectors.Sectors.sync.Goals as goal
use Rattle.ng_file.specs.Promise.{HoldsNothingNew}
use Rattle.ng_file.specs.Sectors.{KeepsHonest, trace_of}
use Rattle.ng_file.specs.declared.done.Done.TheVariants.{Sync}
use Rattle.ng_file.proofs.SectorLemmas.{faithful-sync, honest-moved, honest-now, invariant-moved, invariant-now, model, trace-now}

pub invariant_of-self : goal.invariant_of-self
invariant_of-self g c =
    let s = model c.self.inside.file c.self.inside.count c.self.inside.done.values c.self.inside.files.values in
    invariant-moved g.S.Storage.content g.S.Storage.promise s c.self.invariant c.sync.new.self
    (HoldsNothingNew (g.S.Storage.promise s.file) (g.S.Storage.promise c.sync.new.self)) c.sync.ensures.promised c.sync.ensures.bytes (λ fact. fact)

pub invariant_of-self-2 : goal.invariant_of-self-2
invariant_of-self-2 g c =
    let s = model c.self.inside.file c.self.inside.count c.self.inside.done.values c.self.inside.files.values in
    invariant-now g.S.Storage.content g.S.Storage.promise s c.self.invariant c.sync.new.self
    (HoldsNothingNew (g.S.Storage.promise s.file) (g.S.Storage.promise c.sync.new.self)) c.sync.ensures.promised
    Sync c.and-self-inside.result.values c.and-self-inside-2.result.values c.and-self-inside.ensures c.and-self-inside-2.ensures
    (λ promised faithful fact. faithful-sync faithful c.sync.ensures.bytes (c.in_ok-sync.ensures.durable promised.0))

pub returns-clause-trace : goal.returns-clause-trace
returns-clause-trace g c =
    let s = model c.self.inside.file c.self.inside.count c.self.inside.done.values c.self.inside.files.values in
    trace-now g.S.Storage.content g.S.Storage.promise s Sync c.sync.new.self c.and-self-inside.result.values
    c.and-self-inside-2.result.values c.self.invariant.1
    c.and-self-inside.ensures c.and-self-inside-2.ensures ∙ ap (λ t. Synced (trace_of g.S.Storage.content t)) c.self.view_is

pub returns-in_err-sync-clause-honest : goal.returns-in_err-sync-clause-honest
returns-in_err-sync-clause-honest g c =
    let s = model c.self.inside.file c.self.inside.count c.self.inside.done.values c.self.inside.files.values in
    subst (λ t. KeepsHonest g.S.Storage.content g.S.Storage.promise t (model c.sync.new.self s.count s.done s.files)) c.self.view_is
    (honest-moved g.S.Storage.content g.S.Storage.promise s c.self.invariant c.sync.new.self
    (HoldsNothingNew (g.S.Storage.promise s.file) (g.S.Storage.promise c.sync.new.self)) c.sync.ensures.promised c.sync.ensures.bytes (λ fact. fact))

pub returns-clause-honest : goal.returns-clause-honest
returns-clause-honest g c =
    let s = model c.self.inside.file c.self.inside.count c.self.inside.done.values c.self.inside.files.values in
    subst (λ t. KeepsHonest g.S.Storage.content g.S.Storage.promise t (model c.sync.new.self s.count c.and-self-inside.result.values
    c.and-self-inside-2.result.values)) c.self.view_is
    (honest-now g.S.Storage.content g.S.Storage.promise s c.self.invariant c.sync.new.self
    (HoldsNothingNew (g.S.Storage.promise s.file) (g.S.Storage.promise c.sync.new.self)) c.sync.ensures.promised
    Sync c.and-self-inside.result.values c.and-self-inside-2.result.values c.and-self-inside.ensures c.and-self-inside-2.ensures
    (λ promised faithful fact. faithful-sync faithful c.sync.ensures.bytes (c.in_ok-sync.ensures.durable promised.0)))
