-- Bytes that are all on one line.
use Rattle.std.specs.Prelude.{ℕ, ◌≢◌, List, [], ◌∷◌}

abbrev pub HasNoNewline : List ℕ → Type 0
HasNoNewline [] = Unit {0}
HasNoNewline (b ∷ bs) = (b ≢ 10) × HasNoNewline bs
