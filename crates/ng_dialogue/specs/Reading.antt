-- How a reader's bytes are split into lines and the bytes of programs (own).
use Rattle.std.specs.Prelude.{◌≡◌, ◌≢◌, ◌<◌, ◌⊎◌, ℕ, List, [], ◌∷◌, ◌++◌, Option, None, Some, take, length}
use Rattle.std.specs.Io.KnownBytes.{Consumes, IsAtEnd}
use Rattle.ng_text.specs.Split.{HasNoNewline}
use Rattle.ng_dialogue.specs.declared.bytes.TakenBytes.{TakenBytes}
use Rattle.ng_dialogue.specs.declared.bytes.TakenBytes.TheVariants.{Whole, NoMemory, Cut}

-- a text begins with this line, and the rest comes after it; the last line may have no newline
abbrev pub BeginsWithLine : List ℕ → List ℕ → List ℕ → Type 0
BeginsWithLine text line rest = HasNoNewline line × ((text ≡ line ++ 10 ∷ rest) ⊎ ((text ≡ line) × (line ≢ []) × (rest ≡ [])))

-- a line is removed from a text, and a beginning of the line is kept
abbrev pub TakesLine : ℕ → Option (List ℕ) → Option (List ℕ) → List ℕ → Type 0
TakesLine most None new head = Unit {0}
TakesLine most (Some text) None head = ⊥
TakesLine most (Some text) (Some rest) head = (line : List ℕ) × BeginsWithLine text line rest × (head ≡ take most line)

-- this many bytes are removed from a text and kept, or there is no memory for them, or the text ends before
abbrev pub TakesBytes : ℕ → Option (List ℕ) → Option (List ℕ) → List ℕ → TakenBytes → Type 0
TakesBytes n old new head Whole = Consumes old new head × (length head ≡ n)
TakesBytes n old new head NoMemory = (bytes : List ℕ) × Consumes old new bytes × (length bytes ≡ n)
TakesBytes n old new head Cut = (bytes : List ℕ) × Consumes old new bytes × (length bytes < n) × IsAtEnd new
