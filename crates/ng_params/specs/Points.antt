-- The points among the parameters, in nanometres: millionths of a millimetre (NISTIR 6556, 3.2.1, table 2).
use Rattle.std.specs.Prelude.{ℕ, ◌+◌, ◌*◌, List, [], ◌∷◌, ℤ, pos}
use Rattle.ng_num.specs.declared.point.Point.{Point}
use Rattle.ng_params.specs.Numbers.{system_in_force, first_of_home, first_of_second_home, first_of_g92, first_of_origin}
use Rattle.ng_params.specs.Params.{at}
use Rattle.ng_params.specs.declared.change.Change.{Change}

-- the point in three parameters
abbrev pub point_at : List ℤ → ℕ → Point
point_at table first = record { x = at table first; y = at table (first + 1); z = at table (first + 2) }

-- the changes that put a point into three parameters
abbrev pub changes_to : ℕ → Point → List Change
changes_to first point = record { index = first; value = point.x } ∷ record { index = first + 1; value = point.y } ∷
    record { index = first + 2; value = point.z } ∷ []

abbrev pub home : List ℤ → Point
home table = point_at table first_of_home

abbrev pub second_home : List ℤ → Point
second_home table = point_at table first_of_second_home

abbrev pub g92_stored : List ℤ → Point
g92_stored table = point_at table first_of_g92

abbrev pub g92_changes : Point → List Change
g92_changes offset = changes_to first_of_g92 offset

abbrev pub origin_of : List ℤ → ℕ → Point
origin_of table n = point_at table (first_of_origin n)

abbrev pub origin_changes : ℕ → Point → List Change
origin_changes n origin = changes_to (first_of_origin n) origin

-- the change that puts system n in force
abbrev pub selection : ℕ → Change
selection n = record { index = system_in_force; value = pos (n * 1_000_000) }
