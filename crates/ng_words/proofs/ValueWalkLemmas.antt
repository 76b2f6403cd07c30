-- The walk of value_at: a step takes at least one byte, so allowing more steps than bytes changes nothing.
use Rattle.std.proofs.Common.{ℕ, zero, suc, ◌+◌, ◌<◌, ◌≤◌, ◌≡◌, List, [], ◌∷◌, ◌++◌, length, codes, Bool, true}
use Rattle.std.proofs.Common.{false, cond, ◌==◌, ℤ, Option, Some, None, refl, sym, ap, ◌∙◌, subst, arith}
use Rattle.std.proofs.Common.{length-append}
use Rattle.std.specs.Option.{option_and_then}
use Rattle.std.proofs.lemmas.Bool.Decides.{Decides-eqb}
use Rattle.ng_words.specs.Grammar.{symbol, level, name, Tree, number}
use Rattle.ng_words.specs.Scan.{number_at}
use Rattle.ng_words.specs.Value.{strip_prefix, entry_or, entry_at, Waiting, index, brackets, function, left}
use Rattle.ng_words.specs.Value.{openings, operations, WalkPosition, before, after, settled_value, gathered}
use Rattle.ng_words.specs.Value.{closed, opened, continued, step_at, value_from}
use Rattle.ng_words.specs.declared.tree.Operation.{Operation}
use Rattle.ng_words.specs.declared.tree.Operation.TheVariants.{Power, Times, Over, Modulo, Plus, Minus, Or, Xor, And}
use Rattle.ng_words.specs.declared.tree.Function.TheVariants.{Abs, Fix, Fup, Round, Sqrt}
use Rattle.ng_words.proofs.NumberGrammarLemmas.{option_map_some, number_sound, length-number}

pub and_then_some : {A B : Type 0} (f : A → Option B) (o : Option A) (y : B) → option_and_then f o ≡ Some y → (x : A) × (o ≡ Some x) × (f x ≡ Some y)
and_then_some f None y e = absurd (cc)
and_then_some f (Some x) y e = (x, refl, e)

-- ---- a text at the front

strip_prefix_is_at : (c b : ℕ) (cs bs rest : List ℕ) (t : Bool) → (b == c) ≡ t
    → cond t (strip_prefix cs bs) None ≡ Some rest → (strip_prefix cs bs ≡ Some rest → bs ≡ cs ++ rest)
    → b ∷ bs ≡ c ∷ (cs ++ rest)
strip_prefix_is_at c b cs bs rest true t_is e others = ap (λ d. d ∷ bs) ((Decides-eqb b c).0 t_is) ∙ ap (λ l. c ∷ l) (others e)
strip_prefix_is_at c b cs bs rest false t_is e others = absurd (cc)

-- the text, and then what comes after it
pub strip_prefix_is : (cs bytes rest : List ℕ) → strip_prefix cs bytes ≡ Some rest → bytes ≡ cs ++ rest
strip_prefix_is [] bytes rest e = cc
strip_prefix_is (c ∷ cs) [] rest e = absurd (cc)
strip_prefix_is (c ∷ cs) (b ∷ bs) rest e = strip_prefix_is_at c b cs bs rest (b == c) refl e (strip_prefix_is cs bs rest)

-- each entry of a table has its text
abbrev pub EachEntry : {X : Type 0} → (List ℕ → X → Type 0) → List (List ℕ × X) → Type 0
EachEntry P [] = Unit {0}
EachEntry P (e ∷ es) = P e.0 e.1 × EachEntry P es

abbrev pub FoundEntry : {X : Type 0} → (List ℕ → X → Type 0) → List ℕ → X × List ℕ → Type 0
FoundEntry P bytes y = (text : List ℕ) × (bytes ≡ text ++ y.1) × P text y.0

entry_found_at : {X : Type 0} (P : List ℕ → X → Type 0) (text : List ℕ) (x : X) (es : List (List ℕ × X)) (bytes : List ℕ) (y : X × List ℕ) (o : Option (List ℕ))
    → strip_prefix text bytes ≡ o → P text x → entry_or x o (entry_at es bytes) ≡ Some y
    → (entry_at es bytes ≡ Some y → FoundEntry P bytes y) → FoundEntry P bytes y
entry_found_at P text x es bytes y None o_is p e others = others e
entry_found_at P text x es bytes y (Some rest) o_is p e others =
    let same : (x, rest) ≡ y = cc in
    subst (FoundEntry P bytes) same (text, strip_prefix_is text bytes rest o_is, p)

-- what is found in a table is one of its entries
pub entry_found : {X : Type 0} (P : List ℕ → X → Type 0) (es : List (List ℕ × X)) (bytes : List ℕ) (y : X × List ℕ)
    → EachEntry P es → entry_at es bytes ≡ Some y → FoundEntry P bytes y
entry_found P [] bytes y each e = absurd (cc)
entry_found P (entry ∷ es) bytes y each e =
    entry_found_at P entry.0 entry.1 es bytes y (strip_prefix entry.0 bytes) refl each.0 e (entry_found P es bytes y each.1)

-- what opens a value of each kind
abbrev pub opener : Waiting → List ℕ
opener index = 35 ∷ []
opener brackets = 91 ∷ []
opener (function f) = name f ++ (91 ∷ [])
opener (left op l) = []

-- an opener waits, not an operation
abbrev pub Opens : Waiting → Type 0
Opens index = Unit {0}
Opens brackets = Unit {0}
Opens (function f) = Unit {0}
Opens (left op l) = ⊥

-- the text of an entry of openings
abbrev pub IsOpener : List ℕ → Waiting → Type 0
IsOpener text w = (text ≡ opener w) × Opens w

pub opening_found : (bytes : List ℕ) (y : Waiting × List ℕ) → entry_at openings bytes ≡ Some y → FoundEntry IsOpener bytes y
opening_found bytes y e =
    entry_found IsOpener openings bytes y ((refl, tt), ((refl, tt), ((refl, tt), ((refl, tt), ((refl, tt), ((refl, tt), ((refl, tt), tt))))))) e

-- the text of an entry of operations
abbrev pub IsSymbol : List ℕ → Operation → Type 0
IsSymbol text op = text ≡ symbol op

pub operation_found : (bytes : List ℕ) (y : Operation × List ℕ) → entry_at operations bytes ≡ Some y → FoundEntry IsSymbol bytes y
operation_found bytes y e =
    entry_found IsSymbol operations bytes y (refl, (refl, (refl, (refl, (refl, (refl, (refl, (refl, (refl, tt))))))))) e

pub length-opener : (w : Waiting) → Opens w → 1 ≤ length (opener w)
length-opener index h = omega arith
length-opener brackets h = omega arith
length-opener (function Abs) h = omega arith
length-opener (function Fix) h = omega arith
length-opener (function Fup) h = omega arith
length-opener (function Round) h = omega arith
length-opener (function Sqrt) h = omega arith
length-opener (left op l) h = absurd h

pub length-symbol : (op : Operation) → 1 ≤ length (symbol op)
length-symbol Power = omega arith
length-symbol Times = omega arith
length-symbol Over = omega arith
length-symbol Modulo = omega arith
length-symbol Plus = omega arith
length-symbol Minus = omega arith
length-symbol Or = omega arith
length-symbol Xor = omega arith
length-symbol And = omega arith

-- ---- a step takes at least one byte

shorter : (taken rest bytes others : List ℕ) → bytes ≡ taken ++ rest → 1 ≤ length taken → rest ≡ others → length others < length bytes
shorter taken rest bytes others e h same =
    let sum : length bytes ≡ length taken + length rest = simp length-append at (ap length e) in
    let left_over : length rest ≡ length others = ap length same in
    omega arith

opened_shorter : (ws : List Waiting) (bytes : List ℕ) (x : WalkPosition × List ℕ) (o : Option (Waiting × List ℕ))
    → entry_at openings bytes ≡ o → opened ws bytes o ≡ Some x → length x.1 < length bytes
opened_shorter ws bytes x (Some y) o_is e =
    let f = opening_found bytes y o_is in
    let same : (before (y.0 ∷ ws), y.1) ≡ x = cc in
    let some : 1 ≤ length f.0 = subst (λ (l : List ℕ). 1 ≤ length l) (sym f.2.0) (length-opener y.0 f.2.1) in
    shorter f.0 y.1 bytes x.1 f.1 some (ap (λ z. z.1) same)
opened_shorter ws bytes x None o_is e =
    let v = option_map_some (λ (v : Option ℤ × List ℕ). (settled_value (number v.0) ws, v.1)) (number_at bytes) x e in
    let n = number_sound bytes v.0 v.1 in
    shorter n.0 v.0.1 bytes x.1 n.3 (length-number n.0 n.1 n.2) (ap (λ z. z.1) v.2)

continued_shorter : (t : Tree) (ws : List Waiting) (bytes : List ℕ) (x : WalkPosition × List ℕ)
    (o : Option (List ℕ)) → strip_prefix (codes "]") bytes ≡ o → continued t ws bytes o ≡ Some x
    → length x.1 < length bytes
continued_shorter t ws bytes x (Some rest) o_is e =
    let p = option_map_some (λ (p : WalkPosition). (p, rest)) (closed (gathered 3 t ws).0 (gathered 3 t ws).1) x e in
    shorter (93 ∷ []) rest bytes x.1 (strip_prefix_is (codes "]") bytes rest o_is) (omega arith) (ap (λ z. z.1) p.2)
continued_shorter t ws bytes x None o_is e =
    let y = option_map_some
    (λ (x : Operation × List ℕ).
    (before (left x.0 (gathered (level x.0) t ws).0 ∷ (gathered (level x.0) t ws).1), x.1))
    (entry_at operations bytes) x e in
    let f = operation_found bytes y.0 y.1 in
    let some : 1 ≤ length f.0 = subst (λ (l : List ℕ). 1 ≤ length l) (sym f.2) (length-symbol y.0.0) in
    shorter f.0 y.0.1 bytes x.1 f.1 some (ap (λ z. z.1) y.2)

pub step_shorter : (p : WalkPosition) (bytes : List ℕ) (x : WalkPosition × List ℕ) → step_at p bytes ≡ Some x → length x.1 < length bytes
step_shorter (before ws) bytes x e = opened_shorter ws bytes x (entry_at openings bytes) refl e
step_shorter (after t ws) bytes x e = continued_shorter t ws bytes x (strip_prefix (codes "]") bytes) refl e

-- ---- steps beyond the bytes

no_step : (p : WalkPosition) (bytes : List ℕ) (o : Option (WalkPosition × List ℕ)) → step_at p bytes ≡ o → length bytes ≤ 0 → o ≡ None
no_step p bytes None e h = refl
no_step p bytes (Some x) e h = let less = step_shorter p bytes x e in absurd (omega arith)

-- what n more steps make of a step
abbrev then_from : ℕ → WalkPosition × List ℕ → Option (Tree × List ℕ)
then_from n x = value_from n x.0 x.1

no_step_then : (n : ℕ) (p : WalkPosition) (bytes : List ℕ) → length bytes ≤ 0 → option_and_then (then_from n) (step_at p bytes) ≡ None
no_step_then n p bytes h = ap (option_and_then (then_from n)) (no_step p bytes (step_at p bytes) refl h)

more_at : (m n : ℕ) (p : WalkPosition) (bytes : List ℕ) (o : Option (WalkPosition × List ℕ)) → step_at p bytes ≡ o → length bytes ≤ suc m → length bytes ≤ suc n
    → ((q : WalkPosition) (rest : List ℕ) → length rest ≤ m → length rest ≤ n → value_from m q rest ≡ value_from n q rest)
    → option_and_then (then_from m) o ≡ option_and_then (then_from n) o
more_at m n p bytes None e h k same = refl
more_at m n p bytes (Some x) e h k same =
    let less = step_shorter p bytes x e in
    same x.0 x.1 (omega arith) (omega arith)

-- allowing more steps than there are bytes changes nothing
pub value_from-more : (m n : ℕ) (p : WalkPosition) (bytes : List ℕ) → length bytes ≤ m → length bytes ≤ n → value_from m p bytes ≡ value_from n p bytes
value_from-more m n (after t []) bytes h k = refl
value_from-more zero zero (after t (w ∷ ws)) bytes h k = refl
value_from-more zero (suc n) (after t (w ∷ ws)) bytes h k = sym (no_step_then n (after t (w ∷ ws)) bytes h)
value_from-more (suc m) zero (after t (w ∷ ws)) bytes h k = no_step_then m (after t (w ∷ ws)) bytes k
value_from-more (suc m) (suc n) (after t (w ∷ ws)) bytes h k = more_at m n (after t (w ∷ ws)) bytes
    (step_at (after t (w ∷ ws)) bytes) refl h k (value_from-more m n)
value_from-more zero zero (before ws) bytes h k = refl
value_from-more zero (suc n) (before ws) bytes h k = sym (no_step_then n (before ws) bytes h)
value_from-more (suc m) zero (before ws) bytes h k = no_step_then m (before ws) bytes k
value_from-more (suc m) (suc n) (before ws) bytes h k = more_at m n (before ws) bytes (step_at (before ws) bytes) refl h k (value_from-more m n)

-- ---- one step

-- before a value
pub walk_before : (ws : List Waiting) (bytes : List ℕ) (x : WalkPosition × List ℕ)
    → step_at (before ws) bytes ≡ Some x → value_from (length bytes) (before ws) bytes ≡ value_from (length x.1) x.0
    x.1
walk_before ws [] x e = let less = step_shorter (before ws) [] x e in absurd (omega arith)
walk_before ws (b ∷ bs) x e =
    let less = step_shorter (before ws) (b ∷ bs) x e in
    ap (option_and_then (then_from (length bs))) e ∙ value_from-more (length bs) (length x.1) x.0 x.1 (omega arith) (omega arith)

-- after one
pub walk_after : (t : Tree) (w : Waiting) (ws : List Waiting) (bytes : List ℕ) (x : WalkPosition × List ℕ)
    → step_at (after t (w ∷ ws)) bytes ≡ Some x → value_from (length bytes) (after t (w ∷ ws)) bytes ≡ value_from
    (length x.1) x.0 x.1
walk_after t w ws [] x e = let less = step_shorter (after t (w ∷ ws)) [] x e in absurd (omega arith)
walk_after t w ws (b ∷ bs) x e =
    let less = step_shorter (after t (w ∷ ws)) (b ∷ bs) x e in
    ap (option_and_then (then_from (length bs))) e ∙ value_from-more (length bs) (length x.1) x.0 x.1 (omega arith) (omega arith)

-- if no step can be made, there is no value
pub walk_before_none : (ws : List Waiting) (bytes : List ℕ) → step_at (before ws) bytes ≡ None → value_from (length bytes) (before ws) bytes ≡ None
walk_before_none ws [] e = refl
walk_before_none ws (b ∷ bs) e = ap (option_and_then (then_from (length bs))) e

pub walk_after_none : (t : Tree) (w : Waiting) (ws : List Waiting) (bytes : List ℕ)
    → step_at (after t (w ∷ ws)) bytes ≡ None → value_from (length bytes) (after t (w ∷ ws)) bytes ≡ None
walk_after_none t w ws [] e = refl
walk_after_none t w ws (b ∷ bs) e = ap (option_and_then (then_from (length bs))) e
