-- How many sectors a device needs (own).
use Rattle.std.specs.Prelude.{ℕ, Bool, true, false}
use Rattle.ng_layout.specs.Areas.{large_size, least_size}

-- what `format` asks for, for a large device or for any
abbrev pub wanted_size : Bool → ℕ
wanted_size false = least_size
wanted_size true = large_size
