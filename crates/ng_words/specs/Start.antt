-- Which lines are blank, which are a percent sign alone, and which begin with the slash of block delete (NISTIR 6556,
-- 3.3).
use Rattle.std.specs.Prelude.{ℕ, List, [], ◌∷◌, Bool, false, ◌==◌, if◌then◌else◌}
use Rattle.ng_words.specs.Plain.{plain}
use Rattle.ng_words.specs.declared.start.LineKind.{LineKind}
use Rattle.ng_words.specs.declared.start.LineKind.TheVariants.{Blank, Percent, Other}

-- the kind of a line, from its bytes that count
abbrev pub kind : List ℕ → LineKind
kind [] = Blank
kind (b ∷ []) = if b == 37 then Percent else Other
kind (b ∷ c ∷ bs) = Other

abbrev pub kind_of : List ℕ → LineKind
kind_of text = kind (plain false text)

abbrev pub begins_with_slash : List ℕ → Bool
begins_with_slash [] = false
begins_with_slash (b ∷ bs) = b == 47

abbrev pub is_deletable : List ℕ → Bool
is_deletable text = begins_with_slash (plain false text)
