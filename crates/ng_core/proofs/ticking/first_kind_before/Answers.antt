use Rattle.std.proofs.Common.{◌≡◌, ℕ, List, refl, sym, subst}
use Rattle.std.specs.Prelude.{IfOk}
use Rattle.ng_rig.proofs.GuaranteeLemmas.{promised, meaning}
use Rattle.ng_text.specs.LinesBefore.{IsTrueOf}
use Rattle.ng_text.specs.Percent.{first_kind}
use Rattle.ng_text.specs.Programs.{lines_before}
use Rattle.ng_core.proofs.LineBeginLemmas.{finds_known, finds_asked}
use Rattle.ng_core.proofs.ticking.first_kind_before.Goals as goal

pub returns-in-Some-clause-kind : goal.returns-in-Some-clause-kind
returns-in-Some-clause-kind g c = finds_known g.R.Rig.seen c.args.known.now.before c.in-Some.kind c.args.place c.args.journal.now
    (λ program known. c.in-Some.ensures.holds program (subst (λ k. IsTrueOf program k) (sym c.lines_before.ensures) known))

pub returns-in-None-clause-kind : goal.returns-in-None-clause-kind
returns-in-None-clause-kind g c = finds_asked g.R.Rig.seen c.first_kind.result c.args.known.now.before c.args.place
    c.args.journal.now c.first_kind.new.self c.first_kind.ensures.kind

pub returns-in-Some-clause-unwritten : goal.returns-in-Some-clause-unwritten
returns-in-Some-clause-unwritten g c = promised refl

pub returns-in-None-clause-unwritten : goal.returns-in-None-clause-unwritten
returns-in-None-clause-unwritten g c = meaning c.first_kind.ensures.reads (λ read. read.same)

pub returns-in-Some-clause-reads : goal.returns-in-Some-clause-reads
returns-in-Some-clause-reads g c = λ h program held known.
    c.in-Some.ensures.holds program (subst (λ k. IsTrueOf program k) (sym c.lines_before.ensures) known)

pub returns-in-None-clause-reads : goal.returns-in-None-clause-reads
returns-in-None-clause-reads g c = λ h program held known.
    subst (λ (p : List ℕ). IfOk c.first_kind.result (λ kind. kind ≡ first_kind (lines_before p c.args.place)))
    held.program_is (c.first_kind.ensures.reads.holds h).right
