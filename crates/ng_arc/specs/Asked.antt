-- The arc that a line asks for (NISTIR 6556, 3.5.3): I, J and K give its centre relative to its start.
use Rattle.std.specs.Prelude.{ℤ, pos, ◌+ℤ◌, Option, Some, None}
use Rattle.ng_arc.specs.declared.shape.ArcShape.{ArcShape}
use Rattle.ng_arc.specs.declared.asked.AskedArc.{AskedArc}
use Rattle.ng_canon.specs.Plane.{pick_a, pick_b}

-- the offset of a word; that of a missing word is 0
abbrev pub offset_of : Option ℤ → ℤ
offset_of (Some offset) = offset
offset_of None = pos 0

abbrev pub centre_a : AskedArc → ℤ
centre_a asked = pick_a asked.plane asked.start.x asked.start.y asked.start.z +ℤ offset_of (pick_a asked.plane asked.offsets.i asked.offsets.j asked.offsets.k)

abbrev pub centre_b : AskedArc → ℤ
centre_b asked = pick_b asked.plane asked.start.x asked.start.y asked.start.z +ℤ offset_of (pick_b asked.plane asked.offsets.i asked.offsets.j asked.offsets.k)

abbrev pub shape_of : AskedArc → ArcShape
shape_of asked = record {
  plane = asked.plane;
  turn = asked.turn;
  start = asked.start;
  end = asked.end;
  centre_a = centre_a asked;
  centre_b = centre_b asked;
}
