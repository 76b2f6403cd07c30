use Rattle.std.proofs.Common.{arith, Ok, Err, rules}
use Rattle.std.proofs.lemmas.Grind.{common_steps}
use Rattle.ng_arc.specs.Asked.{shape_of}
use Rattle.ng_arc.proofs.ArcFaultLemmas.{least, radii_law}
use Rattle.ng_arc.proofs.checking.check_arc.Goals as goal

pub returns-in_err-shape-clause-least : goal.returns-in_err-shape-clause-least
returns-in_err-shape-clause-least c = least c.args.asked.now c.from_residual.result (grind (arith, common_steps))

pub returns-in_err-shape-clause-radii : goal.returns-in_err-shape-clause-radii
returns-in_err-shape-clause-radii c = radii_law c.args.asked.now.unit (shape_of c.args.asked.now)

pub returns-in-Some-clause-least : goal.returns-in-Some-clause-least
returns-in-Some-clause-least c = least c.args.asked.now (Err c.in-Some.fault) (grind (arith, common_steps))

pub returns-in-Some-clause-radii : goal.returns-in-Some-clause-radii
returns-in-Some-clause-radii c = radii_law c.args.asked.now.unit (shape_of c.args.asked.now)

pub returns-in-None-clause-least : goal.returns-in-None-clause-least
returns-in-None-clause-least c = least c.args.asked.now (Ok c.in_ok-shape.shape) (grind (arith, common_steps))

pub returns-in-None-clause-radii : goal.returns-in-None-clause-radii
returns-in-None-clause-radii c = radii_law c.args.asked.now.unit (shape_of c.args.asked.now)

pub shape-requires : goal.shape-requires
shape-requires c = omega arith

pub branch-shape-requires : goal.branch-shape-requires
branch-shape-requires c κs = search rules

pub from_residual-requires : goal.from_residual-requires
from_residual-requires c κs = search rules

pub returns-in_err-shape-clause-value : goal.returns-in_err-shape-clause-value
returns-in_err-shape-clause-value c = grind (arith, common_steps)

pub arc_fault-requires : goal.arc_fault-requires
arc_fault-requires c = omega arith

pub returns-in-Some-clause-value : goal.returns-in-Some-clause-value
returns-in-Some-clause-value c = grind (arith, common_steps)

pub returns-in-None-clause-value : goal.returns-in-None-clause-value
returns-in-None-clause-value c = grind (arith, common_steps)
