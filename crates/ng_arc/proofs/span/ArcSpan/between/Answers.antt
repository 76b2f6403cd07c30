use Rattle.std.proofs.Common.{◌≡◌}
use Rattle.ng_arc.specs.declared.span.ArcSpan.{ArcSpan}
use Rattle.ng_canon.specs.Plane.{mirror}
use Rattle.ng_canon.specs.Quadrant.{quadrant}
use Rattle.ng_arc.specs.Private.Quadrants.{changes}
use Rattle.ng_arc.proofs.PassageLemmas.{passes_is}
use Rattle.ng_arc.proofs.span.ArcSpan.between.Goals as goal

pub returns-clause-passes : goal.returns-clause-passes
returns-clause-passes c = λ q.
    let p : ArcSpan = record { turn = c.args.turn; from = c.quadrant.result; changes = c.changes.result; square = c.square.result } in
    let from : c.quadrant.result ≡ quadrant (mirror c.args.turn c.args.start) = rw (← c.mirrored-from.ensures.value) c.quadrant.ensures in
    let count : c.changes.result ≡ changes (mirror c.args.turn c.args.start) (mirror c.args.turn c.args.end) =
    rw (← c.mirrored-from.ensures.value, ← c.mirrored-to.ensures.value) c.changes.ensures in
    passes_is p c.args.start c.args.end q from count
