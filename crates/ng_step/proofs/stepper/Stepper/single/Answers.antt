use Rattle.std.proofs.Common.{refl}
use Rattle.ng_step.proofs.HandLemmas.{line_none}
use Rattle.ng_step.proofs.stepper.Stepper.single.Goals as goal

pub returns : goal.returns
returns c = rw (c.new.ensures, line_none _ refl) refl
