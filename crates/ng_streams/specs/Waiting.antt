-- Text that waits before it is written (own).
use Rattle.std.specs.Prelude.{ℕ, ◌≡◌, List, ◌++◌, Option, Result, Ok, Err}
use Rattle.std.specs.Io.KnownBytes.{Appends}

-- a beginning of a text is written
abbrev pub Wrote : Option (List ℕ) → Option (List ℕ) → List ℕ → Type 0
Wrote old new text = (out : List ℕ) × (after : List ℕ) × Appends old new out × (text ≡ out ++ after)

-- what waited is written or still waits; after an error a beginning of it is written
abbrev pub FlushSpec : {T E : Type 0} → Option (List ℕ) → Option (List ℕ) → List ℕ → List ℕ → Result T E → Type 0
FlushSpec old new waiting left (Ok x) = (out : List ℕ) × Appends old new out × (waiting ≡ out ++ left)
FlushSpec old new waiting left (Err error) = Wrote old new waiting
