use Rattle.ng_text.proofs.LinesBeforeLemmas.{after_known, after_unknown}
use Rattle.ng_text.proofs.lines_before.LinesBefore.after.Goals as goal

pub returns-then-self-place-clause-holds : goal.returns-then-self-place-clause-holds
returns-then-self-place-clause-holds c = λ program known next.
    after_known program c.args.self.now c.args.place c.args.next c.args.first c.first_kind.result c.args.text.now
    c.requires known c.if-self-place.true next c.first_kind.ensures.value

pub returns-else-self-place-clause-holds : goal.returns-else-self-place-clause-holds
returns-else-self-place-clause-holds c = λ program known next. after_unknown program c.args.place c.args.next c.args.first c.args.text.now next
