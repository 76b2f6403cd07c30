use Rattle.std.proofs.Common.{◌∙◌, refl}
use Rattle.ng_step.proofs.LineStepLemmas.{code_rest, code_more}
use Rattle.ng_step.proofs.spread.Spread.step.Goals as goal

pub returns-then-self-whole : goal.returns-then-self-whole
returns-then-self-whole c = record {
  step = λ n k is h. (code_rest c.args.whole n k c.args.self.now is c.if-self-whole.true h).0;
  axis = λ n k is h. (code_rest c.args.whole n k c.args.self.now is c.if-self-whole.true h).1;
  count = refl;
  forward = refl;
}

pub returns-else-self-whole : goal.returns-else-self-whole
returns-else-self-whole c = record {
  step = λ n k is h. c.moved.ensures ∙ (code_more c.args.whole n k c.args.self.now is c.if-self-whole.false h).0;
  axis = λ n k is h. (code_more c.args.whole n k c.args.self.now is c.if-self-whole.false h).1;
  count = refl;
  forward = refl;
}
