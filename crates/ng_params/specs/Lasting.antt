-- What survives the end of a program (own).
use Rattle.std.specs.Prelude.{ℕ, ◌+◌, Bool, ◌&&◌, ◌||◌, ◌==◌, nat_le, List, [], ◌∷◌, map, ℤ, pos, if◌then◌else◌}
use Rattle.std.specs.List.{list_any, enumerate_from}
use Rattle.ng_params.specs.Numbers.{system_in_force, first_of_home, first_of_second_home, first_of_g92, first_of_origin}

-- p is one of the three parameters of a point
abbrev pub is_of : ℕ → ℕ → Bool
is_of first p = nat_le first p && nat_le p (first + 2)

abbrev pub systems : List ℕ
systems = 1 ∷ 2 ∷ 3 ∷ 4 ∷ 5 ∷ 6 ∷ 7 ∷ 8 ∷ 9 ∷ []

-- the points that last: homes, G92 offset, origins
abbrev pub points : List ℕ
points = first_of_home ∷ first_of_second_home ∷ first_of_g92 ∷ map first_of_origin systems

-- whether p survives the end of a program
abbrev pub lasts : ℕ → Bool
lasts p = p == system_in_force || list_any (λ first. is_of first p) points

-- the table in which everything else is 0
abbrev pub cleared : List ℤ → List ℤ
cleared table = map (λ (p, value). if lasts p then value else pos 0) (enumerate_from 1 table)
