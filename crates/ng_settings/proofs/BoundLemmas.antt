-- Tests of several numbers against their limits.
use Rattle.std.proofs.Common.{◌≡◌, Bool, true, false, ◌||◌, List, [], ◌∷◌, ℤ, Option, Some, None, refl, sym}
use Rattle.std.proofs.lemmas.Bool.{or_parts}
use Rattle.std.proofs.Math.Bool.{or-false}
use Rattle.std.specs.List.{list_any, filter_map}
use Rattle.std.specs.Option.{option_map_or}
use Rattle.toml.specs.Data.{as_integer, Data}
use Rattle.toml.specs.View.{view, items_view}
use Rattle.toml.specs.declared.value.Value.{Value}
use Rattle.ng_settings.specs.Numbers.{listed}
use Rattle.ng_settings.specs.Causes.{is_beyond, are_beyond}
use Rattle.ng_settings.specs.Given.{three}
use Rattle.ng_settings.specs.declared.numbers.PerAxis.{PerAxis}

or_three : (a b c : Bool) → (a || b || c) ≡ (a || (b || (c || false)))
or_three true b c = refl
or_three false true c = refl
or_three false false c = sym (or-false c)

pub one_beyond : (least greatest n : ℤ) → is_beyond least greatest n ≡ are_beyond least greatest (n ∷ [])
unfolding are_beyond
one_beyond least greatest n = sym (or-false (is_beyond least greatest n))

pub three_beyond : (least greatest : ℤ) (t : PerAxis)
    → (is_beyond least greatest t.x || is_beyond least greatest t.y || is_beyond least greatest t.z) ≡ are_beyond
    least greatest (three t)
unfolding are_beyond
three_beyond least greatest t = or_three (is_beyond least greatest t.x) (is_beyond least greatest t.y) (is_beyond least greatest t.z)

more_beyond : (least greatest : ℤ) (d : Data) (found : Option ℤ) (rest : Bool) (ds : List Data)
    → as_integer d ≡ found → rest ≡ are_beyond least greatest (filter_map as_integer ds)
    → (option_map_or (is_beyond least greatest) (as_integer d) false || rest) ≡ are_beyond least greatest (filter_map as_integer (d ∷ ds))
unfolding are_beyond
more_beyond least greatest d (Some n) rest ds e more = rw (e, more) refl
more_beyond least greatest d None rest ds e more = rw (e, more) refl

-- the whole numbers among values
pub list_beyond : (least greatest : ℤ) (vs : List Value)
    → list_any (λ (v : Value). option_map_or (is_beyond least greatest) (as_integer (view v)) false) vs ≡ are_beyond
    least greatest (filter_map as_integer (listed (items_view vs)))
unfolding are_beyond
list_beyond least greatest [] = refl
list_beyond least greatest (v ∷ vs) = more_beyond least greatest (view v) (as_integer (view v)) _ (listed (items_view vs)) refl (list_beyond least greatest vs)

-- the first of several, and the others
pub head_within : (least greatest n : ℤ) (ns : List ℤ) → are_beyond least greatest (n ∷ ns) ≡ false
    → (is_beyond least greatest n ≡ false) × (are_beyond least greatest ns ≡ false)
unfolding are_beyond
head_within least greatest n ns h = or_parts (is_beyond least greatest n) (list_any (λ m. is_beyond least greatest m) ns) h
