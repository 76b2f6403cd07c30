-- The lines of bytes, newline by newline.
use Rattle.std.proofs.Common.{arith, ◌≡◌, ◌≢◌, ◌⊎◌, inl, inr, ℕ, zero, suc, ◌+◌, ◌-◌, ◌<◌, ◌≤◌, List, [], ◌∷◌, ◌++◌}
use Rattle.std.proofs.Common.{length, take, drop, map, Bool, true, false, cond, ◌==◌, get_or, refl, sym, ap, ◌∙◌}
use Rattle.std.proofs.Common.{length-append, length-take, append-nil}
use Rattle.std.proofs.lemmas.Bool.Decides.{nat_tests}
use Rattle.std.specs.List.{slice_split, onto_first}
use Rattle.std.specs.Str.Lines.{lines, lines_of_parts, strip_carriage_return}
use Rattle.std.specs.Prelude.{slice_index}
use Rattle.memchr.specs.Find.{is_byte}
use Rattle.ng_text.specs.Split.{HasNoNewline}

abbrev pub parts : List ℕ → List (List ℕ)
parts bs = slice_split (λ b. b == 10) bs

pub not_newline : (b : ℕ) → b ≢ 10 → (b == 10) ≡ false
not_newline b h = grind (arith, nat_tests)

-- there is a first part
pub parts-some : (bs : List ℕ) → (x : List ℕ) × (xs : List (List ℕ)) × (parts bs ≡ x ∷ xs)
parts-some [] = ([], [], refl)
parts-some (b ∷ bs) = at (b == 10) (parts-some bs)
  where
    at : (t : Bool) → ((x : List ℕ) × (xs : List (List ℕ)) × (parts bs ≡ x ∷ xs))
        → (x : List ℕ) × (xs : List (List ℕ)) × (cond t ([] ∷ parts bs) (onto_first b (parts bs)) ≡ x ∷ xs)
    at true tail = ([], parts bs, refl)
    at false tail = (b ∷ tail.0, tail.1, ap (onto_first b) tail.2)

parts-newline : (front more : List ℕ) → parts (front ++ (10 ∷ more)) ≡ parts front ++ parts more
parts-newline [] more = refl
parts-newline (b ∷ front) more = at (b == 10) (parts-newline front more)
  where
    at : (t : Bool) → parts (front ++ (10 ∷ more)) ≡ parts front ++ parts more
        → cond t ([] ∷ parts (front ++ (10 ∷ more))) (onto_first b (parts (front ++ (10 ∷ more)))) ≡ cond t
        ([] ∷ parts front) (onto_first b (parts front)) ++ parts more
    at true same = ap (λ (l : List (List ℕ)). [] ∷ l) same
    at false same =
        let some = parts-some front in
        ap (onto_first b) (same ∙ ap (λ (l : List (List ℕ)). l ++ parts more) some.2)
        ∙ sym (ap (λ (l : List (List ℕ)). onto_first b l ++ parts more) some.2)

parts-alone : (front : List ℕ) → HasNoNewline front → parts front ≡ front ∷ []
parts-alone [] h = refl
parts-alone (b ∷ front) h = rw (not_newline b h.0) (ap (onto_first b) (parts-alone front h.1))

pub lines-newline : (front more : List ℕ) → HasNoNewline front → lines (front ++ (10 ∷ more)) ≡ strip_carriage_return front ∷ lines more
lines-newline front more h =
    let tail = parts-some more in
    let whole : parts (front ++ (10 ∷ more)) ≡ front ∷ parts more = parts-newline front more
    ∙ ap (λ (l : List (List ℕ)). l ++ parts more) (parts-alone front h) in
    ap lines_of_parts (whole ∙ ap (λ l. front ∷ l) tail.2) ∙ ap (λ l. strip_carriage_return front ∷ lines_of_parts l) (sym tail.2)

pub some_length : (n : ℕ) → (suc n == 0) ≡ false
some_length n = grind (arith, nat_tests)

pub lines-alone : (b : ℕ) (front : List ℕ) → HasNoNewline (b ∷ front) → lines (b ∷ front) ≡ (b ∷ front) ∷ []
lines-alone b front h = ap lines_of_parts (parts-alone (b ∷ front) h) ∙ rw (some_length (length front)) refl

parts-onto : (front rest x : List ℕ) (xs : List (List ℕ)) → HasNoNewline front → parts rest ≡ x ∷ xs → parts (front ++ rest) ≡ (front ++ x) ∷ xs
parts-onto [] rest x xs h e = e
parts-onto (b ∷ front) rest x xs h e = rw (not_newline b h.0) (ap (onto_first b) (parts-onto front rest x xs h.1 e))

length-strip : (l : List ℕ) → length l ≤ length (strip_carriage_return l) + 1
length-strip l = length-strip_at l (get_or l (length l - 1) 0 == 13)
  where
    length-strip_at : (l : List ℕ) (t : Bool) → length l ≤ length (cond t (take (length l - 1) l) l) + 1
    length-strip_at l true = simp length-take (omega arith)
    length-strip_at l false = omega arith

-- the first line of a long first part is long
first_long : (x : List ℕ) (xs : List (List ℕ)) → 257 < length x → (l : List ℕ) × (ls : List (List ℕ)) × (lines_of_parts (x ∷ xs) ≡ l ∷ ls) × (256 < length l)
first_long [] xs h = absurd (omega arith)
first_long (b ∷ x) [] h = (b ∷ x, [], rw (some_length (length x)) refl, omega arith)
first_long (b ∷ x) (y ∷ ys) h = (strip_carriage_return (b ∷ x), lines_of_parts (y ∷ ys), refl, let shorter = length-strip (b ∷ x) in omega arith)

-- if the first 258 bytes have no newline, the first line is too long, whatever follows
pub lines-long : (front more : List ℕ) → HasNoNewline front → 257 < length front
    → (l : List ℕ) × (ls : List (List ℕ)) × (lines (front ++ more) ≡ l ∷ ls) × (256 < length l)
lines-long front more h full =
    let tail = parts-some more in
    let whole = parts-onto front more tail.0 tail.1 h tail.2 in
    let long : 257 < length (front ++ tail.0) = simp length-append (omega arith) in
    let found = first_long (front ++ tail.0) tail.1 long in
    (found.0, found.1, ap lines_of_parts whole ∙ found.2, found.3)

-- ---- lines before and after a newline

lines_of-append : (xs : List (List ℕ)) (y : List ℕ) (ys : List (List ℕ))
    → lines_of_parts (xs ++ (y ∷ ys)) ≡ map strip_carriage_return xs ++ lines_of_parts (y ∷ ys)
lines_of-append [] y ys = refl
lines_of-append (x ∷ []) y ys = refl
lines_of-append (x ∷ (z ∷ xs)) y ys = ap (λ (l : List (List ℕ)). strip_carriage_return x ∷ l) (lines_of-append (z ∷ xs) y ys)

pub lines-sides : (front more : List ℕ) → lines (front ++ (10 ∷ more)) ≡ lines (front ++ (10 ∷ [])) ++ lines more
lines-sides front more =
    let some = parts-some more in
    let ended : lines (front ++ (10 ∷ [])) ≡ map strip_carriage_return (parts front) =
    ap lines_of_parts (parts-newline front []) ∙ lines_of-append (parts front) [] []
    ∙ append-nil (map strip_carriage_return (parts front)) in
    ap lines_of_parts (parts-newline front more ∙ ap (λ (l : List (List ℕ)). parts front ++ l) some.2)
    ∙ lines_of-append (parts front) some.0 some.1
    ∙ (λ i. sym ended i ++ lines_of_parts (sym some.2 i))

-- a text is one line without a newline, or its first line and those after it
pub split : (t : List ℕ) → HasNoNewline t ⊎ ((raw : List ℕ) × (rest : List ℕ) × (t ≡ raw ++ (10 ∷ rest)) × HasNoNewline raw)
split [] = inl tt
split (b ∷ t) = by (b == 10) refl (split t)
  where
    by : (x : Bool) → (b == 10) ≡ x → HasNoNewline t ⊎ ((raw : List ℕ) × (rest : List ℕ) × (t ≡ raw ++ (10 ∷ rest)) × HasNoNewline raw)
        → HasNoNewline (b ∷ t) ⊎ ((raw : List ℕ) × (rest : List ℕ) × (b ∷ t ≡ raw ++ (10 ∷ rest)) × HasNoNewline raw)
    by true e s = let is : b ≡ 10 = grind (arith, nat_tests) in inr ([], t, ap (λ (x : ℕ). x ∷ t) is, tt)
    by false e s =
        let other : b ≢ 10 = grind (arith, nat_tests) in
        elim s [
          | inl plain ↦ inl (other, plain)
          | inr p ↦ inr (b ∷ p.0, p.1, ap (λ (l : List ℕ). b ∷ l) p.2, (other, p.3))
        ]

pub HasNoNewline-append : (a b : List ℕ) → HasNoNewline a → HasNoNewline b → HasNoNewline (a ++ b)
HasNoNewline-append [] b h n = n
HasNoNewline-append (x ∷ a) b h n = (h.0, HasNoNewline-append a b h.1 n)

-- ---- the first newline

is_newline : (b : ℕ) → b ≡ 10 → is_byte 10 b ≡ true
is_newline b e = grind (arith, nat_tests)

pub HasNoNewline-take : (bs : List ℕ) (n : ℕ) → ((k : ℕ) → k < n → k < length bs → ¬ (is_byte 10 (slice_index bs k) ≡ true)) → HasNoNewline (take n bs)
HasNoNewline-take [] zero h = tt
HasNoNewline-take [] (suc n) h = tt
HasNoNewline-take (b ∷ bs) zero h = tt
HasNoNewline-take (b ∷ bs) (suc n) h = (
  λ e. h 0 (omega arith) (omega arith) (is_newline b e),
  HasNoNewline-take bs n (λ k below within. h (suc k) (omega arith) (omega arith)),
)

pub HasNoNewline-all : (bs : List ℕ) → ((k : ℕ) → k < length bs → ¬ (is_byte 10 (slice_index bs k) ≡ true)) → HasNoNewline bs
HasNoNewline-all [] h = tt
HasNoNewline-all (b ∷ bs) h = (λ e. h 0 (omega arith) (is_newline b e), HasNoNewline-all bs (λ k within. h (suc k) (omega arith)))

newline_is : (b : ℕ) → is_byte 10 b ≡ true → b ≡ 10
newline_is b e = grind (arith, nat_tests)

-- bytes with a newline at n
pub parted : (bs : List ℕ) (n : ℕ) → n < length bs → is_byte 10 (slice_index bs n) ≡ true → bs ≡ take n bs ++ (10 ∷ drop (suc n) bs)
parted [] n h e = absurd (omega arith)
parted (b ∷ bs) zero h e = ap (λ x. x ∷ bs) (newline_is b e)
parted (b ∷ bs) (suc n) h e = ap (λ l. b ∷ l) (parted bs n (omega arith) e)
