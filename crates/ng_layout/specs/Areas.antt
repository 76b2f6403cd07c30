-- Which sectors of a device are used for what: sectors 0 and 1 hold headers, then come two snapshot areas, two program
-- areas, and the log. In format 2 the log is shorter and is followed by two tool areas. A large device has two larger
-- program areas at its end (own).
use Rattle.std.specs.Prelude.{ℕ, ◌+◌, ◌-◌, ◌*◌, ◌%◌, ◌==◌, Bool, true, false, nat_le, if◌then◌else◌}
use Rattle.ng_layout.specs.declared.header.Format.{Format}
use Rattle.ng_layout.specs.declared.header.Format.TheVariants.{One, Two}
use Rattle.ng_layout.specs.declared.header.Header.{Header}

-- how many sectors hold headers
abbrev pub header_count : ℕ
header_count = 2

-- how many sectors a snapshot area has
abbrev pub snapshot_size : ℕ
snapshot_size = 86

-- the first sector of the snapshot area of an epoch
abbrev pub snapshot_first : ℕ → ℕ
snapshot_first epoch = header_count + snapshot_size * (epoch % 2)

-- the least number of sectors of a large device
abbrev pub large_size : ℕ
large_size = 5806

-- whether a device with this many sectors is large
abbrev pub is_large_size : ℕ → Bool
is_large_size sectors = nat_le large_size sectors

-- the greatest number of a program area, on a large device or on a small one; the least is 0
abbrev pub greatest_area : Bool → ℕ
greatest_area true = 3
greatest_area false = 1

-- how many sectors the program area of this number has
abbrev pub program_size : ℕ → ℕ
program_size area = if nat_le 2 area then 2048 else 256

-- the first sector of the program area of this number
abbrev pub program_first : ℕ → ℕ
program_first area = if nat_le 2 area then 1710 + 2048 * (area - 2) else 174 + 256 * area

-- the program area that a load writes to while this one is in force
abbrev pub spare_area : Bool → ℕ → ℕ
spare_area true area = if area == 2 then 3 else 2
spare_area false area = 1 - area

-- the first sector of the log
abbrev pub log_first : ℕ
log_first = 686

-- the most sectors of a log
abbrev pub longest_log : ℕ
longest_log = 1024

-- how many sectors belong to the log in both formats
abbrev pub shortest_log : ℕ
shortest_log = 1020

-- how many sectors the log of a format has
abbrev pub log_size : Format → ℕ
log_size One = longest_log
log_size Two = shortest_log

-- how many sectors a device needs
abbrev pub least_size : ℕ
least_size = log_first + longest_log

-- how many sectors the log of this header's format has
abbrev pub log_size_of : Header → ℕ
log_size_of h = log_size h.format

-- how many sectors a tool area has, in format 2
abbrev pub tools_size : ℕ
tools_size = 2

-- the first sector of the tool area of an epoch
abbrev pub tools_first : ℕ → ℕ
tools_first epoch = log_first + shortest_log + tools_size * (epoch % 2)
