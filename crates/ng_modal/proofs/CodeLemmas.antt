-- If no row of a table has a number, there is no entry for it.
use Rattle.std.proofs.Common.{◌≡◌, ℕ, ℤ, pos, Bool, true, false, List, [], ◌∷◌, Some, None, refl, sym}
use Rattle.std.specs.Prelude.{if◌then◌else◌}
use Rattle.std.specs.Ordering.{int_eq}
use Rattle.std.proofs.lemmas.Bool.Decides.{Decides-int_eq}
use Rattle.ng_modal.specs.Codes.{lookup}

abbrev pub NoRow : {W : Type 0} → ℤ → List (ℕ × W) → Type 0
NoRow n [] = Unit {0}
NoRow n (row ∷ rows) = (n ≡ pos row.0 → ⊥) × NoRow n rows

pub nothing_found : {W : Type 0} (n : ℤ) (rows : List (ℕ × W)) → NoRow n rows → None ≡ lookup n rows
nothing_found n [] none = refl
nothing_found {W} n (row ∷ rows) none =
    let P : Bool → Type 0 = λ t. int_eq (pos row.0) n ≡ t → None ≡ (if t then Some row.1 else lookup n rows) in
    elim (int_eq (pos row.0) n) as P [
      | true ↦ λ e. absurd (none.0 (sym ((Decides-int_eq _ _).0 e)))
      | false ↦ λ _. nothing_found n rows none.1
    ] refl
