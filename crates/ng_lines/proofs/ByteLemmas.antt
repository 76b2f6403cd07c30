-- Texts up to a byte.
use Rattle.std.proofs.Common.{◌≡◌, ◌≢◌, ◌∙◌, ◌<◌, ◌≤◌, ◌+◌, ℕ, List, [], ◌∷◌, ◌++◌, length, take, drop, get_or, ap}
use Rattle.std.proofs.Common.{ap₂, arith, refl, subst, sym, true, add-one, ◌-◌, length-drop}
use Rattle.std.proofs.lemmas.List.{take-append-drop, take_all}
use Rattle.std.proofs.Math.Seq.{drop-cons, take-suc}
use Rattle.std.specs.Str.{all_ascii_digits}
use Rattle.std.proofs.lemmas.Str.Parse.{tells_all_ascii_digits}
use Rattle.ng_lines.specs.Parts.{HasNone}

pub HasNone-append : (e : ℕ) (a b : List ℕ) → HasNone e a → HasNone e b → HasNone e (a ++ b)
HasNone-append e [] b p q = q
HasNone-append e (c ∷ cs) b p q = (p.0, HasNone-append e cs b p.1 q)

-- one more byte
pub HasNone-more : (e i : ℕ) (bs : List ℕ) → i < length bs → HasNone e (take i bs) → get_or bs i 0 ≢ e → HasNone e (take (i + 1) bs)
HasNone-more e i bs lt so_far other =
    subst (HasNone e) (sym (ap (λ k. take k bs) (add-one i) ∙ take-suc bs i 0 lt)) (HasNone-append e (take i bs) (get_or bs i 0 ∷ []) so_far (other, tt))

pub HasNone-whole : (e i : ℕ) (bs : List ℕ) → length bs ≤ i → HasNone e (take i bs) → HasNone e bs
HasNone-whole e i bs all none = subst (HasNone e) (take_all i bs all) none

-- a text is split at a byte
pub parts_at : (e i : ℕ) (bs : List ℕ) → i < length bs → get_or bs i 0 ≡ e → bs ≡ take i bs ++ e ∷ take (length bs - (i + 1)) (drop (i + 1) bs)
parts_at e i bs lt there =
    let all : take (length bs - (i + 1)) (drop (i + 1) bs) ≡ drop (i + 1) bs = take_all _ _ (omega (arith, length-drop (i + 1) bs)) in
    sym (take-append-drop i bs)
    ∙ ap (λ (l : List ℕ). take i bs ++ l) (drop-cons bs i 0 lt ∙ ap₂ (λ (c : ℕ) (l : List ℕ). c ∷ l) there (ap (λ k. drop k bs) (sym (add-one i)) ∙ sym all))

head_is : (a b : ℕ) (x y : List ℕ) → a ∷ x ≡ b ∷ y → a ≡ b
head_is a b x y is = ap (λ (l : List ℕ). get_or l 0 0) is

tail_is : (a b : ℕ) (x y : List ℕ) → a ∷ x ≡ b ∷ y → x ≡ y
tail_is a b x y is = ap (drop 1) is

-- there is one first byte of a kind
pub one_first : (e : ℕ) (a b x y : List ℕ) → HasNone e a → HasNone e x → a ++ e ∷ b ≡ x ++ e ∷ y → (a ≡ x) × (b ≡ y)
one_first e [] b [] y p q is = (refl, tail_is _ _ _ _ is)
one_first e [] b (c ∷ cs) y p q is = absurd (q.0 (sym (head_is _ _ _ _ is)))
one_first e (c ∷ cs) b [] y p q is = absurd (p.0 (head_is _ _ _ _ is))
one_first e (c ∷ cs) b (d ∷ ds) y p q is =
    let rest = one_first e cs b ds y p.1 q.1 (tail_is _ _ _ _ is) in
    (ap₂ (λ (h : ℕ) (t : List ℕ). h ∷ t) (head_is _ _ _ _ is) rest.0, rest.1)

-- a text with a byte isn't one without
pub byte_is_there : (e : ℕ) (a b : List ℕ) → HasNone e (a ++ e ∷ b) → ⊥
byte_is_there e [] b p = p.0 refl
byte_is_there e (c ∷ cs) b p = byte_is_there e cs b p.1

-- digits are other bytes than those before them
pub digits_have_none : (e : ℕ) (ds : List ℕ) → e < 48 → all_ascii_digits ds ≡ true → HasNone e ds
digits_have_none e [] small h = tt
digits_have_none e (c ∷ cs) small h =
    let parts = tells_all_ascii_digits.parts c cs h in
    ((λ is. omega (arith, is, small, parts.0.0)), digits_have_none e cs small parts.1)

-- a text without a byte has no part before one
pub no_part : (e : ℕ) (front more text : List ℕ) → HasNone e text → text ≡ front ++ e ∷ more → ⊥
no_part e front more text none is = byte_is_there e front more (subst (HasNone e) is none)
