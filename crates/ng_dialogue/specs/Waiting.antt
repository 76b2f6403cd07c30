-- What waits of the text from a reader, and the end of the text (own).
use Rattle.std.specs.Prelude.{◌≡◌, ℕ, Bool, true, List, [], ◌++◌, Option, if◌then◌else◌}
use Rattle.std.specs.Option.{option_map}
use Rattle.std.specs.Io.KnownBytes.{IsAtEnd}

-- the bytes that were read and not taken yet, and whether the text has ended
pub record Waiting : Type 0 where
  pub bytes : List ℕ
  pub ended : Bool

-- what is known of the text that is left, given what the reader has left: what waits, followed by that; nothing if the
-- text has ended
abbrev pub text_left : Waiting → Option (List ℕ) → Option (List ℕ)
text_left w left = option_map (λ xs. if w.ended then [] else w.bytes ++ xs) left

-- if the text has ended, no bytes wait and the reader has nothing left
abbrev pub EndHolds : Waiting → Option (List ℕ) → Type 0
EndHolds w left = w.ended ≡ true → (w.bytes ≡ []) × IsAtEnd left
