-- Which numbers are those of parameters and of coordinate systems, and which parameters have a meaning.
use Rattle.std.specs.Prelude.{ℕ, ◌+◌, ◌-◌, ◌*◌, ℤ, pos, negsuc, Option, Some, None, ◌&&◌, nat_le, if◌then◌else◌}

-- n, if it is from 1 to the greatest
abbrev pub from_one_to : ℕ → ℤ → Option ℕ
from_one_to greatest (pos n) = if nat_le 1 n && nat_le n greatest then Some n else None
from_one_to greatest (negsuc _) = None

-- the number of parameters (NISTIR 6556, 3.3.2.2)
abbrev pub parameter_count : ℕ
parameter_count = 5399

-- the parameter with a number (NISTIR 6556, 3.3.2.2)
abbrev pub index_of : ℤ → Option ℕ
index_of n = from_one_to parameter_count n

-- the coordinate system with a number (NISTIR 6556, 3.5.13)
abbrev pub system_of : ℤ → Option ℕ
system_of n = from_one_to 9 n

-- the parameter that holds the number of the system in force, and the first parameter of each point (NISTIR 6556,
-- 3.2.1, table 2)
abbrev pub system_in_force : ℕ
system_in_force = 5220

abbrev pub first_of_home : ℕ
first_of_home = 5161

abbrev pub first_of_second_home : ℕ
first_of_second_home = 5181

abbrev pub first_of_g92 : ℕ
first_of_g92 = 5211

-- the first parameter of the origin of system n
abbrev pub first_of_origin : ℕ → ℕ
first_of_origin n = 5221 + 20 * (n - 1)
