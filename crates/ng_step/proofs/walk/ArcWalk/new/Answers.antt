use Rattle.std.proofs.Common.{◌∙◌}
use Rattle.ng_step.proofs.BeginLemmas.{starts_upright, starts_lying, size_same}
use Rattle.ng_step.proofs.walk.ArcWalk.new.Goals as goal

pub begin-requires-clause-some : goal.begin-requires-clause-some
begin-requires-clause-some c =
    (starts_upright c.args.from c.quadrant-quadrant.result c.unsigned_abs-a.result c.unsigned_abs-b.result
    c.requires.some c.quadrant-quadrant.ensures c.in-First.is
    (size_same c.args.from.a _ c.requires.a c.unsigned_abs-a.ensures.value) (size_same c.args.from.b _ c.requires.b c.unsigned_abs-b.ensures.value)).some

pub begin-requires-in-Second-clause-some : goal.begin-requires-in-Second-clause-some
begin-requires-in-Second-clause-some c =
    (starts_lying c.args.from c.quadrant-quadrant.result c.unsigned_abs-a.result c.unsigned_abs-b.result
    c.requires.some c.quadrant-quadrant.ensures c.in-Second.is
    (size_same c.args.from.a _ c.requires.a c.unsigned_abs-a.ensures.value) (size_same c.args.from.b _ c.requires.b c.unsigned_abs-b.ensures.value)).some

pub returns-in-First-clause-spot : goal.returns-in-First-clause-spot
returns-in-First-clause-spot c = c.begin.ensures.spot ∙
    (starts_upright c.args.from c.quadrant-quadrant.result c.unsigned_abs-a.result c.unsigned_abs-b.result
    c.requires.some c.quadrant-quadrant.ensures c.in-First.is
    (size_same c.args.from.a _ c.requires.a c.unsigned_abs-a.ensures.value) (size_same c.args.from.b _ c.requires.b c.unsigned_abs-b.ensures.value)).is

pub returns-in-Second-clause-spot : goal.returns-in-Second-clause-spot
returns-in-Second-clause-spot c = c.begin-in-Second.ensures.spot ∙
    (starts_lying c.args.from c.quadrant-quadrant.result c.unsigned_abs-a.result c.unsigned_abs-b.result
    c.requires.some c.quadrant-quadrant.ensures c.in-Second.is
    (size_same c.args.from.a _ c.requires.a c.unsigned_abs-a.ensures.value) (size_same c.args.from.b _ c.requires.b c.unsigned_abs-b.ensures.value)).is
