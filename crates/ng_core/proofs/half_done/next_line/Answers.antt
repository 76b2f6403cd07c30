use Rattle.std.proofs.Common.{◌≡◌, ℕ, Option, Some, None, Ok, ◌∙◌, ap, subst, sym}
use Rattle.std.proofs.lemmas.Result.{err_from_is_err_and}
use Rattle.ng_num.specs.declared.fault.Fault.{Fault}
use Rattle.ng_rig.proofs.GuaranteeLemmas.{meaning}
use Rattle.ng_text.specs.Programs.{ProgramLineModel}
use Rattle.ng_core.proofs.LineBeginLemmas.{Reading}
use Rattle.ng_core.proofs.ProgramInForceLemmas.{ReadingInForce}
use Rattle.ng_core.proofs.ResumeLemmas.{finds_next, next_in_force}
use Rattle.ng_text.proofs.PlaceLemmas.{line_next, after_end}
use Rattle.ng_core.proofs.half_done.next_line.Goals as goal

pub returns-in-Some-clause-next : goal.returns-in-Some-clause-next
returns-in-Some-clause-next g c =
    let place = c.place-place.result in
    let at : place ≡ c.args.session.now.stored.place = c.place-place.ensures.value in
    let reading = subst (λ (n : ℕ). Reading {E = Fault} g.R.Rig.seen (Ok (Some c.in-Some.line)) n c.args.journal.now c.program_line.new.self) at
    (subst (λ (l : Option ProgramLineModel). Reading {E = Fault} g.R.Rig.seen (Ok l) place c.args.journal.now
    c.program_line.new.self) c.in-Some.is c.in_ok-line.ensures.line) in
    finds_next {E = Fault} {F = Fault} g.R.Rig.seen (Some c.in-Some.line) c.line.inside.next c.args.session.now c.args.journal.now c.program_line.new.self
    (c.is_programs_line.ensures.yes c.if-not-is_programs_line.false)
    (λ program found. ap (λ (l : ProgramLineModel). l.next) c.line.view_is
    ∙ line_next program c.args.session.now.stored.place c.in-Some.line (sym found)) reading

pub returns-in-None-clause-next : goal.returns-in-None-clause-next
returns-in-None-clause-next g c =
    let place = c.place-place.result in
    let at : place ≡ c.args.session.now.stored.place = c.place-place.ensures.value in
    let reading = subst (λ (n : ℕ). Reading {E = Fault} g.R.Rig.seen (Ok None) n c.args.journal.now c.program_line.new.self) at
    (subst (λ (l : Option ProgramLineModel). Reading {E = Fault} g.R.Rig.seen (Ok l) place c.args.journal.now
    c.program_line.new.self) c.in-None.is c.in_ok-line.ensures.line) in
    finds_next {E = Fault} {F = Fault} g.R.Rig.seen None place c.args.session.now c.args.journal.now c.program_line.new.self
    (c.is_programs_line.ensures.yes c.if-not-is_programs_line.false)
    (λ program end. at ∙ after_end program c.args.session.now.stored.place end) reading

pub returns-in_err-line-clause-next : goal.returns-in_err-line-clause-next
returns-in_err-line-clause-next g c =
    let p = err_from_is_err_and c.from_residual.result c.from_residual.ensures.1 in
    rw p.1 (meaning c.program_line.ensures.line (λ f. λ standing rest. let r = f standing rest in record { same = r.same; at = r.at; next = tt }))

pub returns-in-Some-clause-unwritten : goal.returns-in-Some-clause-unwritten
returns-in-Some-clause-unwritten g c = meaning c.in_ok-line.ensures.reads (λ read. read.same)

pub returns-in-None-clause-unwritten : goal.returns-in-None-clause-unwritten
returns-in-None-clause-unwritten g c = meaning c.in_ok-line.ensures.reads (λ read. read.same)

pub returns-in_err-line-clause-unwritten : goal.returns-in_err-line-clause-unwritten
returns-in_err-line-clause-unwritten g c = meaning c.in_err-line.ensures.reads (λ read. read.same)

pub returns-in-Some-clause-reads : goal.returns-in-Some-clause-reads
returns-in-Some-clause-reads g c =
    let place = c.place-place.result in
    let at : place ≡ c.args.session.now.stored.place = c.place-place.ensures.value in
    let journal = c.args.journal.now in
    let reading = subst (λ (l : Option ProgramLineModel). ReadingInForce g.R.Rig.seen l place journal)
    c.in-Some.is (λ h. (c.in_ok-line.ensures.reads.holds h).right) in
    next_in_force g.R.Rig.seen (Some c.in-Some.line) c.line.inside.next c.args.session.now journal
    (c.is_programs_line.ensures.yes c.if-not-is_programs_line.false)
    (λ program found. ap (λ (l : ProgramLineModel). l.next) c.line.view_is
    ∙ line_next program c.args.session.now.stored.place c.in-Some.line (sym found))
    (subst (λ (n : ℕ). ReadingInForce g.R.Rig.seen (Some c.in-Some.line) n journal) at reading)

pub returns-in-None-clause-reads : goal.returns-in-None-clause-reads
returns-in-None-clause-reads g c =
    let place = c.place-place.result in
    let at : place ≡ c.args.session.now.stored.place = c.place-place.ensures.value in
    let journal = c.args.journal.now in
    let reading = subst (λ (l : Option ProgramLineModel). ReadingInForce g.R.Rig.seen l place journal)
    c.in-None.is (λ h. (c.in_ok-line.ensures.reads.holds h).right) in
    next_in_force g.R.Rig.seen None place c.args.session.now journal
    (c.is_programs_line.ensures.yes c.if-not-is_programs_line.false)
    (λ program end. at ∙ after_end program c.args.session.now.stored.place end)
    (subst (λ (n : ℕ). ReadingInForce g.R.Rig.seen None n journal) at reading)
