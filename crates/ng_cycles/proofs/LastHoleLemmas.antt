-- Whether the holes of a cycle are in range is decided by the last one.
use Rattle.std.proofs.Common.{arith, ℕ, zero, suc, ◌+◌, ◌≡◌, ◌≤◌, ℤ, pos, ◌+ℤ◌, ◌*ℤ◌, Bool, true, false, ◌||◌, List, ◌++◌, flat_map, refl, sym}
use Rattle.std.specs.List.{list_any}
use Rattle.std.proofs.lemmas.List.Folds.{list_any-append}
use Rattle.std.proofs.lemmas.Bool.Decides.{nat_tests}
use Rattle.ng_num.specs.Range.{IsCount}
use Rattle.ng_cycles.specs.Heights.{is_far, repeated}
use Rattle.ng_cycles.specs.Strokes.{numbers_from}
use Rattle.ng_cycles.proofs.CoordinateBetweenLemmas.{between}

pub near-is_far : (n : ℤ) → IsCount n → is_far n ≡ false
near-is_far n h = grind (arith, nat_tests)

pub is_far-near : (n : ℤ) → is_far n ≡ false → IsCount n
is_far-near n h = grind (arith, nat_tests)

or_true : (a b : Bool) → b ≡ true → (a || b) ≡ true
or_true true b e = refl
or_true false b e = e

or_none : (a b : Bool) → (a || b) ≡ false → (a ≡ false) × (b ≡ false)
or_none true b e = absurd (cc e)
or_none false b e = (refl, e)

or_end : (a b : Bool) → (a || b) ≡ true → (a || (b || false)) ≡ true
or_end true b e = refl
or_end false true e = refl
or_end false false e = e

none_far : (p m w : ℤ) (n : ℕ) → IsCount p → IsCount m → IsCount (p +ℤ pos n *ℤ w) → IsCount (m +ℤ pos n *ℤ w) →
    (a j : ℕ) → a + j ≤ suc n → list_any is_far (flat_map (repeated p m w) (numbers_from a j)) ≡ false
none_far p m w n hp hm ep em a zero below = refl
none_far p m w n hp hm ep em a (suc j) below =
    let le : a ≤ n = omega arith in
    let x : is_far (p +ℤ pos a *ℤ w) ≡ false = near-is_far (p +ℤ pos a *ℤ w) (between p w a n le hp ep) in
    let y : is_far (m +ℤ pos a *ℤ w) ≡ false = near-is_far (m +ℤ pos a *ℤ w) (between m w a n le hm em) in
    let rest : list_any is_far (flat_map (repeated p m w) (numbers_from (suc a) j)) ≡ false = none_far p m w n hp hm ep em (suc a) j (omega arith) in
    rw (x, y, rest) refl

some_far : (p m w : ℤ) (n : ℕ) → (is_far (p +ℤ pos n *ℤ w) || is_far (m +ℤ pos n *ℤ w)) ≡ true →
    (j a : ℕ) → a + j ≡ n → list_any is_far (flat_map (repeated p m w) (numbers_from a (suc j))) ≡ true
some_far p m w n far zero a e =
    let here : a ≡ n = omega arith in
    rw here (or_end (is_far (p +ℤ pos n *ℤ w)) (is_far (m +ℤ pos n *ℤ w)) far)
some_far p m w n far (suc j) a e =
    or_true (is_far (p +ℤ pos a *ℤ w)) _ (or_true (is_far (m +ℤ pos a *ℤ w)) _ (some_far p m w n far j (suc a) (omega arith)))

by_last : (p m w : ℤ) (n : ℕ) → 1 ≤ n → IsCount p → IsCount m → (far : Bool) → (is_far (p +ℤ pos n *ℤ w) || is_far (m +ℤ pos n *ℤ w)) ≡ far →
    list_any is_far (flat_map (repeated p m w) (numbers_from 1 n)) ≡ far
by_last p m w zero some hp hm far e = absurd (omega arith)
by_last p m w (suc n) some hp hm true e = some_far p m w (suc n) e n 1 (omega arith)
by_last p m w (suc n) some hp hm false e =
    let last = or_none (is_far (p +ℤ pos (suc n) *ℤ w)) (is_far (m +ℤ pos (suc n) *ℤ w)) e in
    none_far p m w (suc n) hp hm (is_far-near (p +ℤ pos (suc n) *ℤ w) last.0) (is_far-near (m +ℤ pos (suc n) *ℤ w) last.1) 1 (suc n) (omega arith)

-- all holes, by the last one
pub repeated_last : (p m w : ℤ) (n : ℕ) → 1 ≤ n → IsCount p → IsCount m →
    (is_far (p +ℤ pos n *ℤ w) || is_far (m +ℤ pos n *ℤ w)) ≡ list_any is_far (flat_map (repeated p m w) (numbers_from 1 n))
repeated_last p m w n some hp hm = sym (by_last p m w n some hp hm _ refl)

pub last_near : (far : Bool) (n : ℤ) → (far || is_far n) ≡ false → IsCount n
last_near far n e = is_far-near n (or_none far (is_far n) e).1

-- lengths that are checked one after another
pub any_append : (xs ys : List ℤ) → list_any is_far (xs ++ ys) ≡ (list_any is_far xs || list_any is_far ys)
any_append xs ys = list_any-append is_far xs ys
