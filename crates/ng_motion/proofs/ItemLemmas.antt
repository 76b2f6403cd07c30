-- Arrays of three items.
use Rattle.std.proofs.Common.{◌≡◌, ◌≢◌, ◌∙◌, ℕ, suc, List, [], ◌∷◌, length, get_or, pos, ap, sym, arith, refl}
use Rattle.toml.specs.Data.{Data, array, integer, item, no_items}
use Rattle.toml.specs.View.{view, items_view}
use Rattle.toml.specs.declared.value.Value.{Value}
use Rattle.ng_settings.specs.Numbers.{listed}

abbrev as_items : Data → List Data
as_items (array items) = listed items
as_items _ = []

listed_length : (vs : List Value) → length (as_items (array (items_view vs))) ≡ length vs
listed_length [] = refl
listed_length (v ∷ vs) = ap suc (listed_length vs)

-- an array of another length isn't one of three
pub not_three : (vs : List Value) (d : Data) (x y z : ℕ) → length vs ≢ 3 → d ≡ array (items_view vs)
    → d ≡ array (item (integer (pos x)) (item (integer (pos y)) (item (integer (pos z)) no_items))) → ⊥
not_three vs d x y z other is three =
    other (sym (listed_length vs) ∙ ap (λ (e : Data). length (as_items e)) (sym is ∙ three))

-- the third of three
pub third_is : (vs : List Value) (v : Value) (d : Data) (x y z : ℕ) → length vs ≡ 3 → v ≡ get_or vs 2 v → d ≡ array (items_view vs)
    → d ≡ array (item (integer (pos x)) (item (integer (pos y)) (item (integer (pos z)) no_items))) → view v ≡ integer (pos z)
third_is [] v d x y z len at is three = absurd (omega (arith, len))
third_is (u ∷ []) v d x y z len at is three = absurd (omega (arith, len))
third_is (u ∷ w ∷ []) v d x y z len at is three = absurd (omega (arith, len))
third_is (u ∷ w ∷ t ∷ []) v d x y z len at is three = ap view at ∙ ap (λ (e : Data). get_or (as_items e) 2 (view t)) (sym is ∙ three)
third_is (u ∷ w ∷ t ∷ s ∷ more) v d x y z len at is three = absurd (omega (arith, len))
