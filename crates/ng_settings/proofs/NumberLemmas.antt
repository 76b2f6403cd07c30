-- The whole numbers of an array, as those of its list.
use Rattle.std.proofs.Common.{◌≡◌, ◌≢◌, ℕ, ◌<◌, ◌&&◌, ◌==◌, Bool, true, false, List, [], ◌∷◌, length, get_or, ℤ}
use Rattle.std.proofs.Common.{Option, Some, None, zero, suc, is_some, refl, ap, sym, ◌∙◌, arith}
use Rattle.std.proofs.Math.Bool.{and-false}
use Rattle.std.proofs.lemmas.Bool.Decides.{nat_tests}
use Rattle.std.specs.List.{list_all, filter_map}
use Rattle.toml.specs.Data.{Data, string, integer, float, boolean, datetime, array, table, Items, as_array, as_integer}
use Rattle.toml.specs.View.{view, items_view}
use Rattle.toml.specs.declared.value.Value.{Value}
use Rattle.ng_settings.specs.Numbers.{is_whole, is_list, is_triple, listed, numbers_of}

pub all_whole : (vs : List Value) → list_all (λ (v : Value). is_some (as_integer (view v))) vs ≡ list_all is_whole (listed (items_view vs))
unfolding is_whole
all_whole [] = refl
all_whole (v ∷ vs) = ap (λ (rest : Bool). is_whole (view v) && rest) (all_whole vs)

-- a value that is an array
pub is_array : (d : Data) (items : Items) → Some items ≡ as_array d → d ≡ array items
is_array (string s) items e = absurd (cc e)
is_array (integer z) items e = absurd (cc e)
is_array (float x) items e = absurd (cc e)
is_array (boolean b) items e = absurd (cc e)
is_array (datetime t) items e = absurd (cc e)
is_array (array ds) items e = let same : items ≡ ds = cc e in ap array (sym same)
is_array (table ms) items e = absurd (cc e)

listed_length : (vs : List Value) → length (listed (items_view vs)) ≡ length vs
listed_length [] = refl
listed_length (v ∷ vs) = ap suc (listed_length vs)

more : (d : Data) (ds : List Data) (found : Option ℤ) → as_integer d ≡ found → (list_all is_whole ds ≡ true → length (filter_map as_integer ds) ≡ length ds)
    → list_all is_whole (d ∷ ds) ≡ true → length (filter_map as_integer (d ∷ ds)) ≡ length (d ∷ ds)
unfolding is_whole
more d ds (Some n) e rest h = rw e (ap suc (rest (rw e at h)))
more d ds None e rest h = absurd (cc (rw e at h))

-- if all items are whole numbers, there are as many numbers as items
pub numbers_length : (ds : List Data) → list_all is_whole ds ≡ true → length (filter_map as_integer ds) ≡ length ds
numbers_length [] h = refl
numbers_length (d ∷ ds) h = more d ds (as_integer d) refl (numbers_length ds) h

-- an array with another number of items isn't a triple
not_three_by : (whole : Bool) (n m : ℕ) → (whole ≡ true → n ≡ m) → m ≢ 3 → (whole && (n == 3)) ≡ false
not_three_by false n m same other = refl
not_three_by true n m same other = let e : n ≡ m = same refl in grind (arith, nat_tests)

pub not_three : (vs : List Value) → length vs ≢ 3 → is_triple (array (items_view vs)) ≡ false
unfolding is_triple is_list numbers_of
not_three vs other =
    not_three_by (list_all is_whole (listed (items_view vs))) (length (filter_map as_integer (listed (items_view vs)))) (length vs)
    (λ (h : list_all is_whole (listed (items_view vs)) ≡ true). numbers_length (listed (items_view vs)) h ∙ listed_length vs) other

-- a value that isn't an array isn't a triple either
pub no_array : (d : Data) → None ≡ as_array d → is_triple d ≡ false
unfolding is_triple is_list
no_array (string s) e = refl
no_array (integer z) e = refl
no_array (float x) e = refl
no_array (boolean b) e = refl
no_array (datetime t) e = refl
no_array (array ds) e = absurd (cc e)
no_array (table ms) e = refl

not_all : (vs : List Value) (k : ℕ) (v : Value) → k < length vs → v ≡ get_or vs k v → None ≡ as_integer (view v)
    → list_all is_whole (listed (items_view vs)) ≡ false
unfolding is_whole
not_all [] k v lt at e = absurd (omega (arith, lt))
not_all (u ∷ vs) zero v lt at e = let none : as_integer (view u) ≡ None = rw at at (sym e) in rw none
not_all (u ∷ vs) (suc k) v lt at e = rw (not_all vs k v (omega (arith, lt)) at e) (and-false (is_some (as_integer (view u))))

-- nor is an array with an item of another type
pub not_whole : (vs : List Value) (k : ℕ) (v : Value) → k < length vs → v ≡ get_or vs k v
    → None ≡ as_integer (view v) → is_triple (array (items_view vs)) ≡ false
unfolding is_triple is_list numbers_of
not_whole vs k v lt at e = rw (not_all vs k v lt at e)

-- three whole numbers
three_of : (x y z : Value) (i j k : ℤ) → as_integer (view x) ≡ Some i → as_integer (view y) ≡ Some j → as_integer (view z) ≡ Some k →
    (is_triple (array (items_view (x ∷ y ∷ z ∷ []))) ≡ true) × (numbers_of (array (items_view (x ∷ y ∷ z ∷ []))) ≡ i ∷ j ∷ k ∷ [])
unfolding is_triple is_list is_whole numbers_of
three_of x y z i j k a b c = rw (a, b, c) (refl, refl)

pub three : (vs : List Value) (x y z : Value) (i j k : ℤ) → length vs ≡ 3 → x ≡ get_or vs 0 x → y ≡ get_or vs 1 y → z ≡ get_or vs 2 z →
    as_integer (view x) ≡ Some i → as_integer (view y) ≡ Some j → as_integer (view z) ≡ Some k →
    (is_triple (array (items_view vs)) ≡ true) × (numbers_of (array (items_view vs)) ≡ i ∷ j ∷ k ∷ [])
three [] x y z i j k len p q r a b c = absurd (omega (arith, len))
three (u ∷ []) x y z i j k len p q r a b c = absurd (omega (arith, len))
three (u ∷ v ∷ []) x y z i j k len p q r a b c = absurd (omega (arith, len))
three (u ∷ v ∷ w ∷ []) x y z i j k len p q r a b c =
    let a' : as_integer (view u) ≡ Some i = rw p at a in
    let b' : as_integer (view v) ≡ Some j = rw q at b in
    let c' : as_integer (view w) ≡ Some k = rw r at c in
    three_of u v w i j k a' b' c'
three (u ∷ v ∷ w ∷ o ∷ vs) x y z i j k len p q r a b c = absurd (omega (arith, len))
