-- The last comment's bytes are the last of all bytes.
use Rattle.std.proofs.Common.{ap, sym, ◌∙◌, arith}
use Rattle.ng_words.specs.LineStorage.{LineModel, pieces_by}
use Rattle.ng_words.specs.Line.{last_comment}
use Rattle.ng_words.proofs.LineStorageLemmas.{last_within, last_text, last_none}
use Rattle.ng_words.proofs.line.Line.last_comment.Goals as goal

pub overflow_sub-result : goal.overflow_sub-result
overflow_sub-result c =
    let within = last_within _ _ c.in-Some.n c.self.invariant.0 c.self.invariant.1 c.in-Some.is in
    omega (arith, within, c.len.ensures.value)

pub returns-in-Some-clause-text : goal.returns-in-Some-clause-text
returns-in-Some-clause-text c =
    ap (λ (l : LineModel). last_comment (pieces_by l.places)) (sym c.self.view_is)
    ∙ last_text _ _ c.in-Some.n c.len.result c.as_slice.result.now c.self.invariant.0 c.self.invariant.1
    c.in-Some.is c.as_slice.ensures.value c.len.ensures.value

pub returns-in-None-clause-text : goal.returns-in-None-clause-text
returns-in-None-clause-text c =
    ap (λ (l : LineModel). last_comment (pieces_by l.places)) (sym c.self.view_is)
    ∙ last_none _ _ c.self.invariant.0 c.self.invariant.1 c.in-None.is
