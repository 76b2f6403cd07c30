-- The walk ends with the tree's value on top, or with its fault.
use Rattle.ng_expr.proofs.TreeWalkLemmas.{stopped, finished, never_empty}
use Rattle.ng_expr.proofs.walk.walk.Goals as goal

pub returns-in-Err : goal.returns-in-Err
returns-in-Err g c =
    stopped c.args.params.now c.args.nodes.now c.loop-next.next-index c.loop-next.stack c.next-item.result _
    c.requires.tree c.loop-next-test.true c.next-item.is c.loop-next.invariant.walk c.in-Err.ensures.found

pub returns-in-Some : goal.returns-in-Some
returns-in-Some g c =
    finished c.args.params.now c.args.nodes.now c.loop-next.next-index c.loop-next.stack c.in-Some.value _
    c.requires.tree c.loop-next-test.false c.loop-next.invariant.walk c.in-Some.ensures

pub returns-in-None : goal.returns-in-None
returns-in-None g c =
    absurd (never_empty c.args.params.now c.args.nodes.now c.loop-next.next-index c.loop-next.stack c.requires.tree
    c.loop-next-test.false c.loop-next.invariant.walk c.in-None.ensures.0)
