-- Points of the three axes (NISTIR 6556, 2.1.1).
use Rattle.std.specs.Prelude.{pos}
use Rattle.ng_num.specs.declared.point.Point.{Point}

-- the point whose coordinates are all 0
abbrev pub zero_point : Point
zero_point = record { x = pos 0; y = pos 0; z = pos 0 }
