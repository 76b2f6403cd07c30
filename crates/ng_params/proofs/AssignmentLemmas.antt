-- The last assignment of a parameter counts, and all other parameters stay.
use Rattle.std.proofs.Common.{◌≡◌, ◌≤◌, ◌-◌, ℕ, List, [], ◌∷◌, ◌++◌, ℤ, pos, length, refl, ap, ◌∙◌, arith, get_or-set_other, get_or-set_same}
use Rattle.std.proofs.lemmas.List.{length-set}
use Rattle.ng_params.specs.Change.{with_changes}
use Rattle.ng_params.specs.Params.{at, with_value}
use Rattle.ng_params.specs.declared.change.Change.{Change}
use Rattle.ng_params.specs.Assignments.{AreOthers}

length-with_changes : (table : List ℤ) (changes : List Change) → length (with_changes table changes) ≡ length table
length-with_changes table [] = refl
length-with_changes table (c ∷ changes) = length-with_changes (with_value table c.index c.value) changes ∙ length-set table (c.index - 1) c.value

with_changes-append : (table : List ℤ) (before others : List Change) → with_changes table (before ++ others) ≡ with_changes (with_changes table before) others
with_changes-append table [] others = refl
with_changes-append table (c ∷ before) others = with_changes-append (with_value table c.index c.value) before others

-- assignments of other parameters leave p as it was
pub at-others : (table : List ℤ) (changes : List Change) (p : ℕ) → 1 ≤ p → AreOthers p changes → at (with_changes table changes) p ≡ at table p
at-others table [] p some h = refl
at-others table (c ∷ changes) p some h =
    let low = h.0 in
    let other = h.1 in
    at-others (with_value table c.index c.value) changes p some h.2
    ∙ get_or-set_other table (c.index - 1) (p - 1) c.value (pos 0) (λ e. other (omega (arith, low, some, e)))

pub last_counts : (table : List ℤ) (before others : List Change) (c : Change) → 1 ≤ c.index → c.index ≤ length table → AreOthers c.index others
    → at (with_changes table (before ++ c ∷ others)) c.index ≡ c.value
last_counts table before others c some within h =
    let so_far = with_changes table before in
    ap (λ (t : List ℤ). at t c.index) (with_changes-append table before (c ∷ others))
    ∙ at-others (with_value so_far c.index c.value) others c.index some h
    ∙ get_or-set_same so_far (c.index - 1) c.value (pos 0) (omega (arith, length-with_changes table before))
