-- The first line that isn't blank, of some lines and the line after them.
use Rattle.std.proofs.Common.{◌≡◌, ℕ, List, [], ◌∷◌, ◌++◌, refl, ap, ◌∙◌}
use Rattle.ng_words.specs.Start.{kind_of}
use Rattle.ng_words.specs.declared.start.LineKind.{LineKind}
use Rattle.ng_words.specs.declared.start.LineKind.TheVariants.{Blank, Percent, Other}
use Rattle.ng_text.specs.Percent.{first_kind, kind_before}

pub kind_before-blank : (k : LineKind) → kind_before k Blank ≡ k
kind_before-blank Blank = refl
kind_before-blank Percent = refl
kind_before-blank Other = refl

kind_before-assoc : (a b c : LineKind) → kind_before a (kind_before b c) ≡ kind_before (kind_before a b) c
kind_before-assoc Blank b c = refl
kind_before-assoc Percent b c = refl
kind_before-assoc Other b c = refl

-- a line after some
pub first_kind-after : (before : List (List ℕ)) (l : List ℕ) → first_kind (before ++ l ∷ []) ≡ kind_before (first_kind before) (kind_of l)
first_kind-after [] l = kind_before-blank (kind_of l)
first_kind-after (b ∷ before) l =
    ap (kind_before (kind_of b)) (first_kind-after before l) ∙ kind_before-assoc (kind_of b) (first_kind before) (kind_of l)
