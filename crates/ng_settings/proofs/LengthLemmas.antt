-- The whole numbers of an array from an item on.
use Rattle.std.proofs.Common.{◌≡◌, ℕ, ◌<◌, ◌+◌, List, ◌∷◌, get_or, drop, length, ℤ, Some, None}
use Rattle.std.specs.List.{filter_map}
use Rattle.toml.proofs.Views.{items_view-drop}
use Rattle.toml.specs.Data.{as_integer}
use Rattle.toml.specs.View.{view, items_view}
use Rattle.toml.specs.declared.value.Value.{Value}
use Rattle.ng_settings.specs.Numbers.{listed}

abbrev pub numbers_from : ℕ → List Value → List ℤ
numbers_from i vs = filter_map as_integer (listed (items_view (drop i vs)))

-- an item that is a whole number is the first of them
pub with_number : (vs : List Value) (i : ℕ) (v : Value) (n : ℤ) → i < length vs → v ≡ get_or vs i v
    → as_integer (view v) ≡ Some n → numbers_from i vs ≡ n ∷ numbers_from (i + 1) vs
with_number vs i v n h at e = rw (items_view-drop vs i v h, ← at, e)

-- any other item adds none
pub with_other : (vs : List Value) (i : ℕ) (v : Value) → i < length vs → v ≡ get_or vs i v
    → as_integer (view v) ≡ None → numbers_from i vs ≡ numbers_from (i + 1) vs
with_other vs i v h at e = rw (items_view-drop vs i v h, ← at, e)
