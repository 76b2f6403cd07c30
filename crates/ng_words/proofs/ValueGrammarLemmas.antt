-- The value found at the front is the one that the grammar says, in both directions.
use Rattle.std.proofs.Common.{ℕ, zero, suc, ◌+◌, ◌<◌, ◌≤◌, ◌≡◌, ◌≢◌, ◌⊎◌, inl, inr, List, [], ◌∷◌, ◌++◌, length}
use Rattle.std.proofs.Common.{codes, Bool, true, false, cond, ◌==◌, nat_le, ℤ, Option, Some, None, refl, sym, ap}
use Rattle.std.proofs.Common.{◌∙◌, subst, arith, append_assoc, append-nil, length-append}
use Rattle.std.specs.Option.{option_map}
use Rattle.std.proofs.lemmas.Bool.Decides.{nat_tests}
use Rattle.ng_words.specs.Grammar.{AreDigits, IsNumber, symbol, level, name, Tree, number, parameter, bracketed, applied, joined, looseness, IsChain, IsValue}
use Rattle.ng_words.specs.Scan.{number_at}
use Rattle.ng_words.specs.Value.{strip_prefix, entry_or, entry_at, Waiting, index, brackets, function, left}
use Rattle.ng_words.specs.Value.{openings, operations, WalkPosition, before, after, settled_value, gathered}
use Rattle.ng_words.specs.Value.{closed, opened, continued, step_at, value_from, value_at}
use Rattle.ng_words.specs.declared.tree.Operation.{Operation}
use Rattle.ng_words.specs.declared.tree.Operation.TheVariants.{Power, Times, Over, Modulo, Plus, Minus, Or, Xor, And}
use Rattle.ng_words.specs.declared.tree.Function.{Function}
use Rattle.ng_words.specs.declared.tree.Function.TheVariants.{Abs, Fix, Fup, Round, Sqrt}
use Rattle.ng_words.proofs.NumberGrammarLemmas.{Stops, option_map_some, number_again, number_sound}
use Rattle.ng_words.proofs.ValueWalkLemmas.{and_then_some, strip_prefix_is, EachEntry, opener, Opens, opening_found, operation_found, walk_before, walk_after}

-- ---- how loosely chains bind

level_some : (op : Operation) → level op ≢ 0
level_some Power = omega arith
level_some Times = omega arith
level_some Over = omega arith
level_some Modulo = omega arith
level_some Plus = omega arith
level_some Minus = omega arith
level_some Or = omega arith
level_some Xor = omega arith
level_some And = omega arith

level_most : (op : Operation) → level op ≤ 3
level_most Power = omega arith
level_most Times = omega arith
level_most Over = omega arith
level_most Modulo = omega arith
level_most Plus = omega arith
level_most Minus = omega arith
level_most Or = omega arith
level_most Xor = omega arith
level_most And = omega arith

looseness_most : (t : Tree) → looseness t ≤ 3
looseness_most (number z) = omega arith
looseness_most (parameter t) = omega arith
looseness_most (bracketed t) = omega arith
looseness_most (applied f t) = omega arith
looseness_most (joined op l r) = level_most op

-- ---- what may wait around a chain

-- a chain of this looseness may come after what waits
abbrev pub Fits : ℕ → List Waiting → Type 0
Fits n [] = n ≡ 0
Fits n (index ∷ ws) = n ≡ 0
Fits n (brackets ∷ ws) = Unit {0}
Fits n (function f ∷ ws) = Unit {0}
Fits n (left op l ∷ ws) = n < level op

-- no parameter waits for its index
abbrev pub NotIndex : List Waiting → Type 0
NotIndex [] = Unit {0}
NotIndex (index ∷ ws) = ⊥
NotIndex (brackets ∷ ws) = Unit {0}
NotIndex (function f ∷ ws) = Unit {0}
NotIndex (left op l ∷ ws) = Unit {0}

fits_less : (m n : ℕ) (ws : List Waiting) → m ≤ n → Fits n ws → Fits m ws
fits_less m n [] h f = omega arith
fits_less m n (index ∷ ws) h f = omega arith
fits_less m n (brackets ∷ ws) h f = tt
fits_less m n (function g ∷ ws) h f = tt
fits_less m n (left op l ∷ ws) h f = omega arith

settled_not : (t : Tree) (ws : List Waiting) → NotIndex ws → settled_value t ws ≡ after t ws
settled_not t [] h = refl
settled_not t (index ∷ ws) h = absurd h
settled_not t (brackets ∷ ws) h = refl
settled_not t (function f ∷ ws) h = refl
settled_not t (left op l ∷ ws) h = refl

-- nothing that waits binds as tightly
gathered_none : (n : ℕ) (t : Tree) (ws : List Waiting) → Fits n ws → gathered n t ws ≡ (t, ws)
gathered_none n t [] h = refl
gathered_none n t (index ∷ ws) h = refl
gathered_none n t (brackets ∷ ws) h = refl
gathered_none n t (function f ∷ ws) h = refl
gathered_none n t (left op l ∷ ws) h = let looser : nat_le (level op) n ≡ false = grind (arith, nat_tests) in rw looser refl

gathered_more_at : (m n : ℕ) (op : Operation) (l u : Tree) (waits : List Waiting) (x : Tree × List Waiting) (s : Bool) → nat_le (level op) m ≡ s → m ≤ n
    → cond s (gathered m (joined op l u) waits) (u, left op l ∷ waits) ≡ x
    → (gathered m (joined op l u) waits ≡ x → gathered n (joined op l u) waits ≡ gathered n x.0 x.1)
    → gathered n u (left op l ∷ waits) ≡ gathered n x.0 x.1
gathered_more_at m n op l u waits x true s_is h e others = let tight : nat_le (level op) n ≡ true = grind (arith, nat_tests) in rw tight (others e)
gathered_more_at m n op l u waits x false s_is h e others = ap {A = Tree × List Waiting} (λ y. gathered n y.0 y.1) e

-- what was taken at one level goes on at a looser one
gathered_more : (m n : ℕ) (u : Tree) (waits : List Waiting) (x : Tree × List Waiting) → gathered m u waits ≡ x → m ≤ n → gathered n u waits ≡ gathered n x.0 x.1
gathered_more m n u [] x e h = ap {A = Tree × List Waiting} (λ y. gathered n y.0 y.1) e
gathered_more m n u (index ∷ waits) x e h = ap {A = Tree × List Waiting} (λ y. gathered n y.0 y.1) e
gathered_more m n u (brackets ∷ waits) x e h = ap {A = Tree × List Waiting} (λ y. gathered n y.0 y.1) e
gathered_more m n u (function f ∷ waits) x e h = ap {A = Tree × List Waiting} (λ y. gathered n y.0 y.1) e
gathered_more m n u (left op l ∷ waits) x e h =
    gathered_more_at m n op l u waits x (nat_le (level op) m) refl h e (λ f. gathered_more m n (joined op l u) waits x f h)

gathered_joined : (op : Operation) (l r : Tree) (ws : List Waiting) → Fits (level op) ws → gathered (level op) r (left op l ∷ ws) ≡ (joined op l r, ws)
gathered_joined op l r ws h =
    let tight : nat_le (level op) (level op) ≡ true = grind (arith, nat_tests) in
    rw tight (gathered_none (level op) (joined op l r) ws h)

-- ---- how chains begin

-- the first byte of a number: a digit, a sign or a point
pub record BeginsNumber (bytes : List ℕ) : Type 0 where
  pub first : ℕ
  pub others : List ℕ
  pub is : bytes ≡ first ∷ others
  pub low : 43 ≤ first
  pub high : first ≤ 57

unsigned_begins : (whole fraction digits : List ℕ) → AreDigits whole → 0 < length whole + length fraction
    → ((digits ≡ whole) × (fraction ≡ [])) ⊎ (digits ≡ whole ++ (46 ∷ fraction)) → BeginsNumber digits
unsigned_begins [] fraction digits d some (inl e) = let none : length fraction ≡ 0 = ap length e.1 in absurd (omega arith)
unsigned_begins [] fraction digits d some (inr e) = record { first = 46; others = fraction; is = e; low = omega arith; high = omega arith }
unsigned_begins (b ∷ whole) fraction digits d some (inl e) =
    record { first = b; others = whole; is = e.0; low = grind (arith, nat_tests, d.0); high = grind (arith, nat_tests, d.0) }
unsigned_begins (b ∷ whole) fraction digits d some (inr e) =
    record { first = b; others = whole ++ (46 ∷ fraction); is = e; low = grind (arith, nat_tests, d.0); high = grind (arith, nat_tests, d.0) }

pub number_begins : (bytes : List ℕ) (z : ℤ) → IsNumber bytes z → BeginsNumber bytes
number_begins bytes z h =
    let u = h.2 in
    let begins = unsigned_begins u.whole u.fraction h.1 u.whole_digits u.some u.spelled in
    elim h.3 [
      | inl e ↦ record { first = begins.first; others = begins.others; is = e.0 ∙ begins.is; low = begins.low; high = begins.high }
      | inr other ↦ elim other [
        | inl e ↦ record { first = 43; others = h.1; is = e.0; low = omega arith; high = omega arith }
        | inr e ↦ record { first = 45; others = h.1; is = e.0; low = omega arith; high = omega arith }
      ]
    ]

-- the text begins with another byte
abbrev Avoids : ℕ → List ℕ → Type 0
Avoids b [] = ⊥
Avoids b (c ∷ cs) = b ≢ c

entry_none_at : {X : Type 0} (text : List ℕ) (x : X) (es : List (List ℕ × X)) (b : ℕ) (bs : List ℕ) → Avoids b text → entry_at es (b ∷ bs) ≡ None
    → entry_or x (strip_prefix text (b ∷ bs)) (entry_at es (b ∷ bs)) ≡ None
entry_none_at [] x es b bs h e = absurd h
entry_none_at (c ∷ cs) x es b bs h e = let other : (b == c) ≡ false = grind (arith, nat_tests) in rw other e

-- no entry begins with the first byte
entry_none : {X : Type 0} (es : List (List ℕ × X)) (b : ℕ) (bs : List ℕ) → EachEntry (λ text x. Avoids b text) es → entry_at es (b ∷ bs) ≡ None
entry_none [] b bs h = refl
entry_none (e ∷ es) b bs h = entry_none_at e.0 e.1 es b bs h.0 (entry_none es b bs h.1)

no_opening : (b : ℕ) (bs : List ℕ) → 43 ≤ b → b ≤ 57 → entry_at openings (b ∷ bs) ≡ None
no_opening b bs low high =
    entry_none openings b bs (omega arith, (omega arith, (omega arith, (omega arith, (omega arith, (omega arith, (omega arith, tt)))))))

-- the first byte: it doesn't turn a * before it into **
record Begins (bytes : List ℕ) : Type 0 where
  first : ℕ
  others : List ℕ
  is : bytes ≡ first ∷ others
  no_star : first ≢ 42

begins_applied : (f : Function) (bytes inner : List ℕ) → bytes ≡ name f ++ inner → Begins bytes
begins_applied Abs bytes inner e = record { first = 65; others = _; is = e; no_star = omega arith }
begins_applied Fix bytes inner e = record { first = 70; others = _; is = e; no_star = omega arith }
begins_applied Fup bytes inner e = record { first = 70; others = _; is = e; no_star = omega arith }
begins_applied Round bytes inner e = record { first = 82; others = _; is = e; no_star = omega arith }
begins_applied Sqrt bytes inner e = record { first = 83; others = _; is = e; no_star = omega arith }

begins_more : (bytes front back : List ℕ) → bytes ≡ front ++ back → Begins front → Begins bytes
begins_more bytes front back e b =
    record { first = b.first; others = b.others ++ back; is = e ∙ ap (λ l. l ++ back) b.is; no_star = b.no_star }

chain_begins : (t : Tree) (bytes : List ℕ) → IsChain bytes t → Begins bytes
chain_begins (number z) bytes h =
    let b = number_begins bytes h.0 h.1 in
    let low = b.low in
    record { first = b.first; others = b.others; is = b.is; no_star = omega arith }
chain_begins (parameter t) bytes h = record { first = 35; others = _; is = h.1; no_star = omega arith }
chain_begins (bracketed t) bytes h = record { first = 91; others = _; is = h.1; no_star = omega arith }
chain_begins (applied f t) bytes h = begins_applied f bytes _ h.1
chain_begins (joined op l r) bytes h = begins_more bytes h.0 _ h.2 (chain_begins l h.0 h.3)

-- ---- the walk's steps, forwards

-- from a place before some bytes the walk comes to a place before the rest
abbrev Leads : WalkPosition → List ℕ → WalkPosition → List ℕ → Type 0
Leads p bytes q rest = value_from (length bytes) p bytes ≡ value_from (length rest) q rest

-- the same bytes, written in another way
leads_from : (p q : WalkPosition) (bytes same rest : List ℕ) → bytes ≡ same → Leads p same q rest → Leads p bytes q rest
leads_from p q bytes same rest e h = ap (λ l. value_from (length l) p l) e ∙ h

leads_to : (p q r : WalkPosition) (bytes rest : List ℕ) → Leads p bytes q rest → q ≡ r → Leads p bytes r rest
leads_to p q r bytes rest h e = h ∙ ap (λ s. value_from (length rest) s rest) e

-- a bracket closes what waits after the operations
close_leads : (u t : Tree) (waits ws : List Waiting) (w : Waiting) (p : WalkPosition) (rest : List ℕ)
    → gathered 3 u waits ≡ (t, w ∷ ws) → closed t (w ∷ ws) ≡ Some p
    → Leads (after u waits) (93 ∷ rest) p rest
close_leads u t [] ws w p rest e f = let nothing : [] ≡ w ∷ ws = ap (λ x. x.1) e in absurd (cc)
close_leads u t (v ∷ waits) ws w p rest e f =
    walk_after u v waits (93 ∷ rest) (p, rest)
    (ap {A = Tree × List Waiting} (λ x. option_map (λ (p : WalkPosition). (p, rest)) (closed x.0 x.1)) e
    ∙ ap (option_map (λ (p : WalkPosition). (p, rest))) f)

pub no_bracket : (op : Operation) (tail : List ℕ) → strip_prefix (codes "]") (symbol op ++ tail) ≡ None
no_bracket Power tail = refl
no_bracket Times tail = refl
no_bracket Over tail = refl
no_bracket Modulo tail = refl
no_bracket Plus tail = refl
no_bracket Minus tail = refl
no_bracket Or tail = refl
no_bracket Xor tail = refl
no_bracket And tail = refl

Stops_symbol : (op : Operation) (tail : List ℕ) → Stops (symbol op ++ tail)
Stops_symbol Power tail = (refl, omega arith)
Stops_symbol Times tail = (refl, omega arith)
Stops_symbol Over tail = (refl, omega arith)
Stops_symbol Modulo tail = (refl, omega arith)
Stops_symbol Plus tail = (refl, omega arith)
Stops_symbol Minus tail = (refl, omega arith)
Stops_symbol Or tail = (refl, omega arith)
Stops_symbol Xor tail = (refl, omega arith)
Stops_symbol And tail = (refl, omega arith)

operation_again : (op : Operation) (b : ℕ) (bs : List ℕ) → b ≢ 42 → entry_at operations (symbol op ++ (b ∷ bs)) ≡ Some (op, b ∷ bs)
operation_again Power b bs h = refl
operation_again Times b bs h = let other : (b == 42) ≡ false = grind (arith, nat_tests) in rw other refl
operation_again Over b bs h = refl
operation_again Modulo b bs h = refl
operation_again Plus b bs h = refl
operation_again Minus b bs h = refl
operation_again Or b bs h = refl
operation_again Xor b bs h = refl
operation_again And b bs h = refl

operation_before : (op : Operation) (back rest : List ℕ) → Begins back → entry_at operations (symbol op ++ (back ++ rest)) ≡ Some (op, back ++ rest)
operation_before op back rest b =
    let same : back ++ rest ≡ b.first ∷ (b.others ++ rest) = ap (λ l. l ++ rest) b.is in
    subst (λ l. entry_at operations (symbol op ++ l) ≡ Some (op, l)) (sym same) (operation_again op b.first (b.others ++ rest) b.no_star)

-- what an operation makes of the entries that wait
abbrev waits_for : Tree → List Waiting → Operation × List ℕ → WalkPosition × List ℕ
waits_for u waits x = (before (left x.0 (gathered (level x.0) u waits).0 ∷ (gathered (level x.0) u waits).1), x.1)

-- an operation takes what binds as tightly as its left operand
join_leads : (op : Operation) (u l : Tree) (waits ws : List Waiting) (tail : List ℕ) → gathered (level op) u waits ≡ (l, ws) → Fits (level op) ws
    → entry_at operations (symbol op ++ tail) ≡ Some (op, tail) → Leads (after u waits) (symbol op ++ tail) (before (left op l ∷ ws)) tail
join_leads op u l [] ws tail e h f =
    let nothing : [] ≡ ws = ap (λ x. x.1) e in
    let zero_level : level op ≡ 0 = subst (Fits (level op)) (sym nothing) h in
    absurd (level_some op zero_level)
join_leads op u l (w ∷ waits) ws tail e h f =
    walk_after u w waits (symbol op ++ tail) (before (left op l ∷ ws), tail) (
    ap (continued u (w ∷ waits) (symbol op ++ tail)) (no_bracket op tail)
    ∙ ap (option_map (waits_for u (w ∷ waits))) f
    ∙ ap {A = Tree × List Waiting} {B = Option (WalkPosition × List ℕ)} (λ x. Some (before (left op x.0 ∷ x.1), tail)) e
    )

-- ---- a chain is walked

-- a single value, up to where it has settled
abbrev WalkedAlone : Tree → Type 0
WalkedAlone t = looseness t ≡ 0 → (ws : List Waiting) (bytes rest : List ℕ) → IsChain bytes t → Stops rest
    → Leads (before ws) (bytes ++ rest) (settled_value t ws) rest

-- a chain, up to where its parts wait
abbrev WalkedTo : List Waiting → Tree → List ℕ → List ℕ → Type 0
WalkedTo ws t bytes rest = (u : Tree) × (waits : List Waiting) × Leads (before ws) bytes (after u waits) rest × (gathered (looseness t) u waits ≡ (t, ws))

abbrev Walked : Tree → Type 0
Walked t = (ws : List Waiting) (bytes rest : List ℕ) → IsChain bytes t → Stops rest → Fits (looseness t) ws → NotIndex ws → WalkedTo ws t (bytes ++ rest) rest

walked_by : (t : Tree) → looseness t ≡ 0 → WalkedAlone t → WalkedAlone t × Walked t
walked_by t e alone = (
  alone,
  λ ws bytes rest h s fits not_index. (
    t,
    ws,
    leads_to (before ws) (settled_value t ws) (after t ws) (bytes ++ rest) rest
        (alone e ws bytes rest h s) (settled_not t ws not_index),
    gathered_none (looseness t) t ws fits,
  ),
)

number_walked : (value : Option ℤ) → WalkedAlone (number value)
number_walked value e ws bytes rest h s =
    let b = number_begins bytes h.0 h.1 in
    let same : bytes ++ rest ≡ b.first ∷ (b.others ++ rest) = ap (λ l. l ++ rest) b.is in
    let none : entry_at openings (bytes ++ rest) ≡ None = ap (entry_at openings) same ∙ no_opening b.first (b.others ++ rest) b.low b.high in
    walk_before ws (bytes ++ rest) (settled_value (number value) ws, rest) (
    ap (opened ws (bytes ++ rest)) none
    ∙ ap (option_map (λ (v : Option ℤ × List ℕ). (settled_value (number v.0) ws, v.1))) (number_again bytes rest h.0 h.1 s)
    ∙ ap {B = Option (WalkPosition × List ℕ)} (λ c. Some (settled_value (number c) ws, rest)) (sym h.2)
    )

parameter_walked : (t : Tree) → WalkedAlone t → WalkedAlone (parameter t)
parameter_walked t alone e ws bytes rest h s =
    leads_from (before ws) (settled_value (parameter t) ws) (bytes ++ rest) (35 ∷ (h.0 ++ rest)) rest (ap (λ l. l ++ rest) h.1)
    (walk_before ws (35 ∷ (h.0 ++ rest)) (before (index ∷ ws), h.0 ++ rest) refl ∙ alone h.3 (index ∷ ws) h.0 rest h.2 s)

-- a chain, and the closing bracket of what waits
closed_walked : (t : Tree) (w : Waiting) (ws : List Waiting) (p : WalkPosition) (inner rest : List ℕ) → Walked t
    → IsChain inner t → Fits (looseness t) (w ∷ ws) → NotIndex (w ∷ ws)
    → closed t (w ∷ ws) ≡ Some p → Leads (before (w ∷ ws)) (inner ++ (93 ∷ rest)) p rest
closed_walked t w ws p inner rest walked h fits not_index e =
    let to = walked (w ∷ ws) inner (93 ∷ rest) h (refl, omega arith) fits not_index in
    let all : gathered 3 to.0 to.1 ≡ (t, w ∷ ws) =
    gathered_more (looseness t) 3 to.0 to.1 (t, w ∷ ws) to.3 (looseness_most t) ∙ gathered_closed t w ws p e in
    to.2 ∙ close_leads to.0 t to.1 ws w p rest all e
  where
    gathered_closed : (t : Tree) (w : Waiting) (ws : List Waiting) (p : WalkPosition) → closed t (w ∷ ws) ≡ Some p → gathered 3 t (w ∷ ws) ≡ (t, w ∷ ws)
    gathered_closed t index ws p e = refl
    gathered_closed t brackets ws p e = refl
    gathered_closed t (function f) ws p e = refl
    gathered_closed t (left op l) ws p e = absurd (cc)

bracketed_walked : (t : Tree) → Walked t → WalkedAlone (bracketed t)
bracketed_walked t walked e ws bytes rest h s =
    leads_from (before ws) (settled_value (bracketed t) ws) (bytes ++ rest) (91 ∷ (h.0 ++ (93 ∷ rest))) rest
    (ap (λ l. l ++ rest) h.1 ∙ ap (λ l. 91 ∷ l) (append_assoc h.0 (93 ∷ []) rest))
    (
    walk_before ws (91 ∷ (h.0 ++ (93 ∷ rest))) (before (brackets ∷ ws), h.0 ++ (93 ∷ rest)) refl
    ∙ closed_walked t brackets ws (settled_value (bracketed t) ws) h.0 rest walked h.2 tt tt refl
    )

function_opens : (f : Function) (ws : List Waiting) (tail : List ℕ) → step_at (before ws) (name f ++ (91 ∷ tail)) ≡ Some (before (function f ∷ ws), tail)
function_opens Abs ws tail = refl
function_opens Fix ws tail = refl
function_opens Fup ws tail = refl
function_opens Round ws tail = refl
function_opens Sqrt ws tail = refl

applied_walked : (f : Function) (t : Tree) → Walked t → WalkedAlone (applied f t)
applied_walked f t walked e ws bytes rest h s =
    leads_from (before ws) (settled_value (applied f t) ws) (bytes ++ rest) (name f ++ (91 ∷ (h.0 ++ (93 ∷ rest)))) rest
    (ap (λ l. l ++ rest) h.1 ∙ append_assoc (name f) (91 ∷ h.0 ++ 93 ∷ []) rest ∙ ap (λ l. name f ++ (91 ∷ l)) (append_assoc h.0 (93 ∷ []) rest))
    (
    walk_before ws (name f ++ (91 ∷ (h.0 ++ (93 ∷ rest)))) (before (function f ∷ ws), h.0 ++ (93 ∷ rest)) (function_opens f ws (h.0 ++ (93 ∷ rest)))
    ∙ closed_walked t (function f) ws (settled_value (applied f t) ws) h.0 rest walked h.2 tt tt refl
    )

joined_walked : (op : Operation) (l r : Tree) → Walked l → Walked r → Walked (joined op l r)
joined_walked op l r walked_l walked_r ws bytes rest h s fits not_index =
    let tail = h.1 ++ rest in
    let to_l = walked_l ws h.0 (symbol op ++ tail) h.3 (Stops_symbol op tail) (fits_less (looseness l) (level op) ws h.5 fits) not_index in
    let to_r = walked_r (left op l ∷ ws) h.1 rest h.4 s h.6 tt in
    let looser = h.6 in
    let same : bytes ++ rest ≡ h.0 ++ (symbol op ++ tail) =
    ap (λ l. l ++ rest) h.2 ∙ append_assoc h.0 (symbol op ++ h.1) rest ∙ ap (λ l. h.0 ++ l) (append_assoc (symbol op) h.1 rest) in
    let left_part : gathered (level op) to_l.0 to_l.1 ≡ (l, ws) =
    gathered_more (looseness l) (level op) to_l.0 to_l.1 (l, ws) to_l.3 h.5 ∙ gathered_none (level op) l ws fits in (
      to_r.0,
      to_r.1,
      leads_from (before ws) (after to_r.0 to_r.1) (bytes ++ rest) (h.0 ++ (symbol op ++ tail)) rest same (
          to_l.2 ∙ join_leads op to_l.0 l to_l.1 ws tail left_part fits (operation_before op h.1 rest (chain_begins r h.1 h.4)) ∙ to_r.2
          ),
      gathered_more (looseness r) (level op) to_r.0 to_r.1 (r, left op l ∷ ws) to_r.3 (omega arith) ∙ gathered_joined op l r ws fits,
    )

-- by induction on the tree: a single value, and a chain
chain_walked : (t : Tree) → WalkedAlone t × Walked t
chain_walked (number value) = walked_by (number value) refl (number_walked value)
chain_walked (parameter t) = walked_by (parameter t) refl (parameter_walked t (chain_walked t).0)
chain_walked (bracketed t) = walked_by (bracketed t) refl (bracketed_walked t (chain_walked t).1)
chain_walked (applied f t) = walked_by (applied f t) refl (applied_walked f t (chain_walked t).1)
chain_walked (joined op l r) = (λ e. absurd (level_some op e), joined_walked op l r (chain_walked l).1 (chain_walked r).1)

-- each value of the grammar is found
pub value_again : (front rest : List ℕ) (t : Tree) → IsValue front t → Stops rest → value_at (front ++ rest) ≡ Some (t, rest)
value_again front rest t h s = (chain_walked t).0 h.1 [] front rest h.0 s

-- ---- what is found is spelled so

-- these bytes are the entries that wait
abbrev pub Waits : List Waiting → List ℕ → Type 0
Waits [] bytes = bytes ≡ []
Waits (index ∷ ws) bytes = (front : List ℕ) × (bytes ≡ front ++ 35 ∷ []) × Waits ws front
Waits (brackets ∷ ws) bytes = (front : List ℕ) × (bytes ≡ front ++ 91 ∷ []) × Waits ws front
Waits (function f ∷ ws) bytes = (front : List ℕ) × (bytes ≡ front ++ (name f ++ 91 ∷ [])) × Waits ws front
Waits (left op l ∷ ws) bytes = (front : List ℕ) × (back : List ℕ) × (bytes ≡ front ++ (back ++ symbol op)) × IsChain back l
    × (looseness l ≤ level op) × Fits (level op) ws × NotIndex ws × Waits ws front

-- these bytes are the entries that wait, then a single value
abbrev pub StandsAlone : Tree → List Waiting → List ℕ → Type 0
StandsAlone t ws bytes = (front : List ℕ) × (back : List ℕ) × (bytes ≡ front ++ back) × Waits ws front × IsChain back t × (looseness t ≡ 0) × NotIndex ws

-- these bytes are the entries that wait, then a chain no looser than n, which may be there as an operand of an
-- operation of that level
abbrev pub StandsAt : ℕ → Tree → List Waiting → List ℕ → Type 0
StandsAt n t ws bytes = (front : List ℕ) × (back : List ℕ) × (bytes ≡ front ++ back) × Waits ws front
    × IsChain back t × (looseness t ≤ n) × Fits n ws × NotIndex ws

-- these bytes lead to a place
abbrev pub LeadTo : WalkPosition → List ℕ → Type 0
LeadTo (before ws) bytes = Waits ws bytes
LeadTo (after t ws) bytes = StandsAlone t ws bytes

settled_stands : (t : Tree) (ws : List Waiting) (front back bytes : List ℕ) → bytes ≡ front ++ back → Waits ws front
    → IsChain back t → looseness t ≡ 0 → LeadTo (settled_value t ws) bytes
settled_stands t [] front back bytes e w c alone = (front, back, e, w, c, alone, tt)
settled_stands t (index ∷ ws) front back bytes e w c alone =
    settled_stands (parameter t) ws w.0 (35 ∷ back) bytes (e ∙ ap (λ l. l ++ back) w.1 ∙ append_assoc w.0 (35 ∷ []) back) w.2 (back, refl, c, alone) refl
settled_stands t (brackets ∷ ws) front back bytes e w c alone = (front, back, e, w, c, alone, tt)
settled_stands t (function f ∷ ws) front back bytes e w c alone = (front, back, e, w, c, alone, tt)
settled_stands t (left op l ∷ ws) front back bytes e w c alone = (front, back, e, w, c, alone, tt)

-- an operation may come there
abbrev Inside : List Waiting → Type 0
Inside [] = ⊥
Inside (index ∷ ws) = ⊥
Inside (brackets ∷ ws) = Unit {0}
Inside (function f ∷ ws) = Unit {0}
Inside (left op l ∷ ws) = Unit {0}

inside : (ws : List Waiting) (op : Operation) → Fits (level op) ws → NotIndex ws → Inside ws
inside [] op f h = level_some op f
inside (index ∷ ws) op f h = h
inside (brackets ∷ ws) op f h = tt
inside (function g ∷ ws) op f h = tt
inside (left o l ∷ ws) op f h = tt

inside_more : (w : Waiting) (ws : List Waiting) → NotIndex (w ∷ ws) → Inside (w ∷ ws)
inside_more index ws h = h
inside_more brackets ws h = tt
inside_more (function f) ws h = tt
inside_more (left op l) ws h = tt

fits_zero : (n : ℕ) (ws : List Waiting) → n ≡ 0 → Fits n ws
fits_zero n [] e = e
fits_zero n (index ∷ ws) e = e
fits_zero n (brackets ∷ ws) e = tt
fits_zero n (function f ∷ ws) e = tt
fits_zero n (left op l ∷ ws) e = let some = level_some op in omega arith

stands_left_at : (n : ℕ) (op : Operation) (l t : Tree) (ws : List Waiting) (bytes : List ℕ) (s : Bool) → nat_le (level op) n ≡ s
    → (level op ≤ n → StandsAt n (gathered n (joined op l t) ws).0 (gathered n (joined op l t) ws).1 bytes)
    → (n < level op → StandsAt n t (left op l ∷ ws) bytes)
    → StandsAt n (cond s (gathered n (joined op l t) ws) (t, left op l ∷ ws)).0 (cond s (gathered n (joined op l t) ws) (t, left op l ∷ ws)).1 bytes
stands_left_at n op l t ws bytes true e tight loose = tight (grind (arith, nat_tests))
stands_left_at n op l t ws bytes false e tight loose = loose (grind (arith, nat_tests))

-- an operation that waits, with what comes after it
joined_spelled : (bytes front back first part : List ℕ) (op : Operation) → bytes ≡ front ++ back → front ≡ first ++ (part ++ symbol op)
    → bytes ≡ first ++ (part ++ (symbol op ++ back))
joined_spelled bytes front back first part op e f =
    e ∙ ap (λ l. l ++ back) f ∙ append_assoc first (part ++ symbol op) back ∙ ap (λ l. first ++ l) (append_assoc part (symbol op) back)

-- a chain takes the operations that bind as tightly as n
gathered_stands : (n : ℕ) (t : Tree) (ws : List Waiting) (front back bytes : List ℕ) → bytes ≡ front ++ back → Waits ws front → IsChain back t → looseness t ≤ n
    → Fits (looseness t) ws → Inside ws → StandsAt n (gathered n t ws).0 (gathered n t ws).1 bytes
gathered_stands n t [] front back bytes e w c h fits is_inside = absurd is_inside
gathered_stands n t (index ∷ ws) front back bytes e w c h fits is_inside = absurd is_inside
gathered_stands n t (brackets ∷ ws) front back bytes e w c h fits is_inside = (front, back, e, w, c, h, tt, tt)
gathered_stands n t (function f ∷ ws) front back bytes e w c h fits is_inside = (front, back, e, w, c, h, tt, tt)
gathered_stands n t (left op l ∷ ws) front back bytes e w c h fits is_inside =
    stands_left_at n op l t ws bytes (nat_le (level op) n) refl
    (
    λ tight. gathered_stands n (joined op l t) ws w.0 (w.1 ++ (symbol op ++ back)) bytes (joined_spelled bytes front back w.0 w.1 op e w.2) w.7
    (w.1, back, refl, w.3, c, w.4, fits) tight w.5 (inside ws op w.5 w.6)
    )
    (λ loose. (front, back, e, w, c, h, loose, tt))

alone_stands : (n : ℕ) (t : Tree) (w : Waiting) (ws : List Waiting) (bytes : List ℕ) → StandsAlone t (w ∷ ws) bytes
    → StandsAt n (gathered n t (w ∷ ws)).0 (gathered n t (w ∷ ws)).1 bytes
alone_stands n t w ws bytes s =
    let alone = s.5 in
    gathered_stands n t (w ∷ ws) s.0 s.1 bytes s.2 s.3 s.4 (omega arith) (fits_zero (looseness t) (w ∷ ws) s.5) (inside_more w ws s.6)

-- brackets closed around a chain
closed_stands : (t : Tree) (ws : List Waiting) (bytes : List ℕ) (p : WalkPosition) → StandsAt 3 t ws bytes → closed t ws ≡ Some p → LeadTo p (bytes ++ 93 ∷ [])
closed_stands t [] bytes p s e = absurd (cc)
closed_stands t (index ∷ ws) bytes p s e = absurd (cc)
closed_stands t (brackets ∷ ws) bytes p s e =
    let same : settled_value (bracketed t) ws ≡ p = cc in
    let w = s.3 in
    subst (λ q. LeadTo q (bytes ++ 93 ∷ [])) same
    (
    settled_stands (bracketed t) ws w.0 (91 ∷ s.1 ++ 93 ∷ []) (bytes ++ 93 ∷ [])
    (ap (λ l. l ++ 93 ∷ []) (s.2 ∙ ap (λ l. l ++ s.1) w.1 ∙ append_assoc w.0 (91 ∷ []) s.1) ∙ append_assoc w.0 (91 ∷ s.1) (93 ∷ []))
    w.2 (s.1, refl, s.4) refl
    )
closed_stands t (function f ∷ ws) bytes p s e =
    let same : settled_value (applied f t) ws ≡ p = cc in
    let w = s.3 in
    subst (λ q. LeadTo q (bytes ++ 93 ∷ [])) same
    (
    settled_stands (applied f t) ws w.0 (name f ++ (91 ∷ s.1 ++ 93 ∷ [])) (bytes ++ 93 ∷ [])
    (
    ap (λ l. l ++ 93 ∷ []) (s.2 ∙ ap (λ l. l ++ s.1) w.1 ∙ append_assoc w.0 (name f ++ 91 ∷ []) s.1)
    ∙ append_assoc w.0 ((name f ++ 91 ∷ []) ++ s.1) (93 ∷ [])
    ∙ ap (λ l. w.0 ++ (l ++ 93 ∷ [])) (append_assoc (name f) (91 ∷ []) s.1)
    ∙ ap (λ l. w.0 ++ l) (append_assoc (name f) (91 ∷ s.1) (93 ∷ []))
    )
    w.2 (s.1, refl, s.4) refl
    )
closed_stands t (left op l ∷ ws) bytes p s e = absurd (cc)

-- the bytes so far, followed by those that a step takes, lead to the step's place
abbrev pub Stepped : List ℕ → List ℕ → WalkPosition × List ℕ → Type 0
Stepped past bytes x = (taken : List ℕ) × (bytes ≡ taken ++ x.1) × LeadTo x.0 (past ++ taken)

opened_waits : (w : Waiting) (ws : List Waiting) (bytes text : List ℕ) → Waits ws bytes → text ≡ opener w → Opens w → Waits (w ∷ ws) (bytes ++ text)
opened_waits index ws bytes text h e o = (bytes, ap (λ l. bytes ++ l) e, h)
opened_waits brackets ws bytes text h e o = (bytes, ap (λ l. bytes ++ l) e, h)
opened_waits (function f) ws bytes text h e o = (bytes, ap (λ l. bytes ++ l) e, h)
opened_waits (left op l) ws bytes text h e o = absurd o

opened_steps : (ws : List Waiting) (past bytes : List ℕ) (x : WalkPosition × List ℕ) (o : Option (Waiting × List ℕ))
    → Waits ws past → entry_at openings bytes ≡ o → opened ws bytes o ≡ Some x
    → Stepped past bytes x
opened_steps ws past bytes x (Some y) h o_is e =
    let f = opening_found bytes y o_is in
    let same : (before (y.0 ∷ ws), y.1) ≡ x = cc in
    subst (Stepped past bytes) same (f.0, f.1, opened_waits y.0 ws past f.0 h f.2.0 f.2.1)
opened_steps ws past bytes x None h o_is e =
    let v = option_map_some (λ (v : Option ℤ × List ℕ). (settled_value (number v.0) ws, v.1)) (number_at bytes) x e in
    let n = number_sound bytes v.0 v.1 in
    subst (Stepped past bytes) v.2 (n.0, n.3, settled_stands (number v.0.0) ws past n.0 (past ++ n.0) refl h (n.1, n.2, n.4) refl)

operation_waits : (op : Operation) (t : Tree) (ws : List Waiting) (bytes text : List ℕ)
    → StandsAt (level op) t ws bytes → text ≡ symbol op → Waits (left op t ∷ ws) (bytes ++ text)
operation_waits op t ws bytes text s e =
    (s.0, s.1, ap (λ l. l ++ text) s.2 ∙ append_assoc s.0 s.1 text ∙ ap (λ l. s.0 ++ (s.1 ++ l)) e, s.4, s.5, s.6, s.7, s.3)

continued_steps : (t : Tree) (w : Waiting) (ws : List Waiting) (past bytes : List ℕ) (x : WalkPosition × List ℕ)
    (o : Option (List ℕ)) → StandsAlone t (w ∷ ws) past → strip_prefix (codes "]") bytes ≡ o
    → continued t (w ∷ ws) bytes o ≡ Some x → Stepped past bytes x
continued_steps t w ws past bytes x (Some rest) s o_is e =
    let all = gathered 3 t (w ∷ ws) in
    let p = option_map_some (λ (p : WalkPosition). (p, rest)) (closed all.0 all.1) x e in
    subst (Stepped past bytes) p.2 (93 ∷ [], strip_prefix_is (codes "]") bytes rest o_is, closed_stands all.0 all.1 past p.0 (alone_stands 3 t w ws past s) p.1)
continued_steps t w ws past bytes x None s o_is e =
    let y = option_map_some (waits_for t (w ∷ ws)) (entry_at operations bytes) x e in
    let f = operation_found bytes y.0 y.1 in
    let op = y.0.0 in
    let part = gathered (level op) t (w ∷ ws) in
    subst (Stepped past bytes) y.2 (f.0, f.1, operation_waits op part.0 part.1 past f.0 (alone_stands (level op) t w ws past s) f.2)

-- ---- the walk, backwards

abbrev FoundValue : List ℕ → List ℕ → Tree × List ℕ → Type 0
FoundValue past bytes x = (taken : List ℕ) × (bytes ≡ taken ++ x.1) × IsValue (past ++ taken) x.0

found_more : (past bytes : List ℕ) (x : Tree × List ℕ) (y : WalkPosition × List ℕ) (s : Stepped past bytes y)
    → FoundValue (past ++ s.0) y.1 x → FoundValue past bytes x
found_more past bytes x y s f =
    (s.0 ++ f.0, s.1 ∙ ap (λ l. s.0 ++ l) f.1 ∙ sym (append_assoc s.0 f.0 x.1), subst (λ l. IsValue l x.0) (append_assoc past s.0 f.0) f.2)

found_alone : (t : Tree) (past bytes : List ℕ) → StandsAlone t [] past → FoundValue past bytes (t, bytes)
found_alone t past bytes s =
    let all : past ++ [] ≡ s.1 = append-nil past ∙ s.2 ∙ ap (λ l. l ++ s.1) s.3 in
    ([], refl, (subst (λ l. IsChain l t) (sym all) s.4, s.5))

value_walked : (m : ℕ) (p : WalkPosition) (past bytes : List ℕ) (x : Tree × List ℕ) → LeadTo p past → value_from m p bytes ≡ Some x → FoundValue past bytes x
value_walked m (after t []) past bytes x h e =
    let same : (t, bytes) ≡ x = cc in
    subst (FoundValue past bytes) same (found_alone t past bytes h)
value_walked zero (after t (w ∷ ws)) past bytes x h e = absurd (cc)
value_walked zero (before ws) past bytes x h e = absurd (cc)
value_walked (suc m) (after t (w ∷ ws)) past bytes x h e =
    let y = and_then_some (λ (y : WalkPosition × List ℕ). value_from m y.0 y.1) (step_at (after t (w ∷ ws)) bytes) x e in
    let s = continued_steps t w ws past bytes y.0 (strip_prefix (codes "]") bytes) h refl y.1 in
    found_more past bytes x y.0 s (value_walked m y.0.0 (past ++ s.0) y.0.1 x s.2 y.2)
value_walked (suc m) (before ws) past bytes x h e =
    let y = and_then_some (λ (y : WalkPosition × List ℕ). value_from m y.0 y.1) (step_at (before ws) bytes) x e in
    let s = opened_steps ws past bytes y.0 (entry_at openings bytes) h refl y.1 in
    found_more past bytes x y.0 s (value_walked m y.0.0 (past ++ s.0) y.0.1 x s.2 y.2)

-- each value found is in the grammar
pub value_sound : (bytes : List ℕ) (x : Tree × List ℕ) → value_at bytes ≡ Some x → (front : List ℕ) × (bytes ≡ front ++ x.1) × IsValue front x.0
value_sound bytes x e = value_walked (length bytes) (before []) [] bytes x refl e

-- a value that is found has at least one byte
pub length-value_at : (bytes : List ℕ) (x : Tree × List ℕ) → value_at bytes ≡ Some x → length x.1 < length bytes
length-value_at bytes x e =
    let f = value_sound bytes x e in
    let b = chain_begins x.0 f.0 f.2.0 in
    let some : length f.0 ≡ suc (length b.others) = ap length b.is in
    let sum : length bytes ≡ length f.0 + length x.1 = simp length-append at (ap length f.1) in
    omega arith
