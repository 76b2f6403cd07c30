-- The name of a table or a key that is none, as it is told (own): its first 64 bytes, with a question mark for each
-- that isn't printed.
use Rattle.std.specs.Prelude.{ℕ, Bool, ◌&&◌, List, map, take, nat_le, if◌then◌else◌}
use Rattle.ng_motion.specs.declared.name.KeyName.{KeyName}

-- a blank, or a character of ASCII that is seen
abbrev pub is_printed : ℕ → Bool
is_printed byte = nat_le 32 byte && nat_le byte 126

abbrev pub shown_byte : ℕ → ℕ
shown_byte byte = if is_printed byte then byte else 63

abbrev pub shown_name : List ℕ → List ℕ
shown_name name = map shown_byte (take 64 name)

abbrev pub told : KeyName → List ℕ
told name = take name.length name.bytes
