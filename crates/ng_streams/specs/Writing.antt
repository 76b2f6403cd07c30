-- Bytes that are written, or a beginning of them (own).
use Rattle.std.specs.Prelude.{ℕ, List, Option, Result, Ok, Err, take}
use Rattle.std.specs.Io.KnownBytes.{Appends}

-- these bytes are written, or after an error a beginning of them
abbrev pub WritesOrBeginning : {T E : Type 0} → Option (List ℕ) → Option (List ℕ) → List ℕ → Result T E → Type 0
WritesOrBeginning old new bytes (Ok x) = Appends old new bytes
WritesOrBeginning old new bytes (Err error) = (n : ℕ) × Appends old new (take n bytes)
