use Rattle.std.proofs.Common.{sym, ◌∙◌, refl}
use Rattle.ng_words.proofs.CommentLemmas.{skip_goes, skip_stops, skip_outside, HasNoComment-more}
use Rattle.ng_words.proofs.cursor.Cursor.skip.Goals as goal

pub returns-then-ne : goal.returns-then-ne
returns-then-ne c =
    (sym c.loop-expected.invariant.0 ∙ skip_stops _ _ _ _ c.loop-expected-test.true c.peek.ensures (sym c.ne.ensures ∙ c.if-ne.true), refl)

pub advance-requires : goal.advance-requires
advance-requires c =
    skip_outside _ _ _ _ c.loop-expected-test.true c.peek.ensures (sym c.ne.ensures ∙ c.if-ne.false) c.loop-expected.invariant.1

pub loop-expected-preserved : goal.loop-expected-preserved
loop-expected-preserved c = (
  skip_goes _ _ _ _ _ c.loop-expected-test.true c.peek.ensures (sym c.ne.ensures ∙ c.if-ne.false) c.advance.ensures ∙ c.loop-expected.invariant.0,
  HasNoComment-more _ _ c.loop-expected-test.true c.loop-expected.invariant.1,
)
