use Rattle.std.proofs.Common.{sym}
use Rattle.ng_words.proofs.WalkPlaceLemmas.{closes, closes_none}
use Rattle.ng_words.proofs.value.close.Goals as goal

pub returns-in-Some-clause-closes : goal.returns-in-Some-clause-closes
returns-in-Some-clause-closes c =
    closes _ _ _ _ _ _ _ _ c.nearest.ensures (sym c.in-Some.ensures) c.pop.ensures.rest c.push_node.ensures c.settle.ensures.settles

pub returns-in-None-clause-closes : goal.returns-in-None-clause-closes
returns-in-None-clause-closes c = closes_none _ c.args.stack.now.items _ c.args.nodes.now.items _ c.nearest.ensures (sym c.in-None.ensures)
