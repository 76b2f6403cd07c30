use Rattle.std.proofs.Common.{◌≡◌, ◌+◌, ◌*◌, ◌<◌, IfSome, OnOk, subst, sym, arith}
use Rattle.std.specs.Prelude.{slice_range}
use Rattle.ng_rig.specs.Trace.{reads}
use Rattle.ng_file.proofs.sectors.Sectors.read.Goals as goal
use Rattle.ng_file.specs.Promise.{HoldsNothingNew}
use Rattle.ng_file.specs.Sectors.{AreHonest, KeepsHonest, trace_of}
use Rattle.ng_file.proofs.SectorLemmas.{honest-moved, invariant-moved, model, read-bytes}

pub invariant_of-self : goal.invariant_of-self
invariant_of-self g c =
    let s = model c.self.inside.file c.self.inside.count c.self.inside.done.values c.self.inside.files.values in
    invariant-moved g.S.Storage.content g.S.Storage.promise s c.self.invariant c.read_at.new.self
    (HoldsNothingNew (g.S.Storage.promise s.file) (g.S.Storage.promise c.read_at.new.self)) c.read_at.ensures.promised c.read_at.ensures.bytes (λ fact. fact)

pub returns-clause-bytes : goal.returns-clause-bytes
returns-clause-bytes g c = λ honest.
    subst (λ t. OnOk c.read_at.result (c.read_at.new.into ≡ reads (trace_of g.S.Storage.content t) c.args.sector)) c.self.view_is
    (read-bytes c.read_at.result c.args.sector c.read_at.new.into
    (subst (AreHonest g.S.Storage.content g.S.Storage.promise) (sym c.self.view_is) honest).1.0
    (subst (λ t. c.args.sector < t.count) (sym c.self.view_is) c.requires)
    (subst (λ p. OnOk c.read_at.result (IfSome (g.S.Storage.content c.self.inside.file) (λ held. c.read_at.new.into ≡ slice_range held p (p + 512))))
    {x = c.args.sector * 512} {y = 512 * c.args.sector} (omega arith) c.read_at.ensures.value))

pub returns-clause-honest : goal.returns-clause-honest
returns-clause-honest g c =
    let s = model c.self.inside.file c.self.inside.count c.self.inside.done.values c.self.inside.files.values in
    subst (λ t. KeepsHonest g.S.Storage.content g.S.Storage.promise t (model c.read_at.new.self s.count s.done s.files)) c.self.view_is
    (honest-moved g.S.Storage.content g.S.Storage.promise s c.self.invariant c.read_at.new.self
    (HoldsNothingNew (g.S.Storage.promise s.file) (g.S.Storage.promise c.read_at.new.self)) c.read_at.ensures.promised c.read_at.ensures.bytes (λ fact. fact))
