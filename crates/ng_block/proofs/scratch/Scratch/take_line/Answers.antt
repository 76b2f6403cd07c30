use Rattle.std.proofs.Common.{rules, arith}
use Rattle.ng_block.specs.Effects.{executed, executed_pieces, in_state}
use Rattle.ng_block.proofs.CauseLemmas.{of_executed}
use Rattle.ng_block.proofs.scratch.Scratch.take_line.Goals as goal

pub returns-clause-does : goal.returns-clause-does
unfolding executed executed_pieces
returns-clause-does g c = search rules

pub returns-clause-first : goal.returns-clause-first
returns-clause-first g c =
    of_executed c.args.state.now c.args.terms.now.tools c.args.terms.now.geometry c.args.text.now
    (in_state c.args.state.now c.take_values.new.self.effect) c.take_values.result (returns-clause-does g c)

pub read-requires : goal.read-requires
read-requires g c = omega arith

pub branch-read-requires : goal.branch-read-requires
branch-read-requires g c κs = search rules

pub from_residual-requires : goal.from_residual-requires
from_residual-requires g c κs = search rules

pub evaluate_into-requires : goal.evaluate_into-requires
evaluate_into-requires g c κs = grind arith

pub branch-evaluate_into-requires : goal.branch-evaluate_into-requires
branch-evaluate_into-requires g c κs = search rules

pub from_residual-requires-in_err-evaluate_into : goal.from_residual-requires-in_err-evaluate_into
from_residual-requires-in_err-evaluate_into g c κs = search rules

pub take_values-requires : goal.take_values-requires
take_values-requires g c κs = grind arith
