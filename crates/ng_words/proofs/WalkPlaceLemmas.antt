-- How the places of a walk are represented in the code, and what each step of the code makes of them.
use Rattle.std.proofs.Common.{ℕ, zero, suc, ◌+◌, ◌-◌, ◌<◌, ◌≡◌, List, [], ◌∷◌, ◌++◌, length, take, codes, Bool}
use Rattle.std.proofs.Common.{true, false, cond, ◌==◌, nat_le, IsTrue, ◌↔◌, rules, OnSome, ℤ, Option, Some, None}
use Rattle.std.proofs.Common.{slice_get, refl, sym, ap, ◌∙◌, subst, arith, append_assoc, append-nil, length-append}
use Rattle.std.proofs.lemmas.List.{length-take}
use Rattle.std.specs.Option.{option_map}
use Rattle.std.proofs.lemmas.Bool.Decides.{nat_tests}
use Rattle.ng_words.specs.Grammar.{Tree, number, parameter, bracketed, applied, joined, level}
use Rattle.ng_words.specs.Scan.{number_at}
use Rattle.ng_words.specs.Value.{strip_prefix, Waiting, index, brackets, function, left, openings, operations}
use Rattle.ng_words.specs.Value.{entry_at, WalkPosition, before, after, settled_value, gathered, closed, opened}
use Rattle.ng_words.specs.Value.{continued, step_at, value_from, value_at}
use Rattle.ng_words.specs.LineStorage.{postfix}
use Rattle.ng_words.specs.Private.Walks.{mark, marks, waiting_nodes, HoldsBefore, HoldsAfter, Stands, nearest}
use Rattle.ng_words.specs.Private.Walks.{is_index, operation_within, closing, IsOpening, function_openings}
use Rattle.ng_words.specs.Private.Walks.{TakesValue, WalkStepSpec, Settles, Gathers, ClosesBrackets, BeginsNumber}
use Rattle.ng_words.specs.declared.tree.Operation.{Operation}
use Rattle.ng_words.specs.declared.tree.Function.{Function}
use Rattle.ng_words.specs.declared.tree.Function.TheVariants.{Abs, Fix, Fup, Round, Sqrt}
use Rattle.ng_words.specs.declared.tree.Node.{Node}
use Rattle.ng_words.specs.declared.tree.Node.TheVariants as node
use Rattle.ng_words.specs.declared.value.Waiting.{Waiting as Mark}
use Rattle.ng_words.specs.declared.value.Waiting.TheVariants as marked
use Rattle.ng_words.proofs.NumberGrammarLemmas.{number_sound, length-number}
use Rattle.ng_words.proofs.ValueGrammarLemmas.{length-value_at, no_bracket, number_begins, value_sound}
use Rattle.ng_words.proofs.ValueWalkLemmas.{opener, IsOpener, entry_found, operation_found, step_shorter}
use Rattle.ng_words.proofs.ValueWalkLemmas.{walk_before, walk_after, walk_before_none, walk_after_none}

-- ---- the end of a list

slice_get-end : {A : Type 0} (xs : List A) (x : A) → slice_get (xs ++ x ∷ []) (length xs) ≡ Some x
slice_get-end [] x = refl
slice_get-end (y ∷ xs) x = slice_get-end xs x

take-end : {A : Type 0} (xs : List A) (x : A) → take (length xs) (xs ++ x ∷ []) ≡ xs
take-end [] x = refl
take-end (y ∷ xs) x = ap (λ l. y ∷ l) (take-end xs x)

length-end : {A : Type 0} (xs : List A) (x : A) → length (xs ++ x ∷ []) - 1 ≡ length xs
length-end xs x = omega (arith, length-append xs (x ∷ []))

-- the innermost entry that waits
abbrev nearest_of : List Waiting → Option Mark
nearest_of [] = None
nearest_of (w ∷ ws) = Some (mark w)

nearest-marks : (ws : List Waiting) (stack : List Mark) → stack ≡ marks ws → nearest stack ≡ nearest_of ws
nearest-marks [] stack e = ap nearest e
nearest-marks (w ∷ ws) stack e = ap nearest e ∙ ap (slice_get (marks ws ++ mark w ∷ [])) (length-end (marks ws) (mark w)) ∙ slice_get-end (marks ws) (mark w)

-- the stack without its last entry
popped : (w : Waiting) (ws : List Waiting) (stack rest : List Mark) → stack ≡ marks (w ∷ ws) → rest ≡ take (length stack - 1) stack → rest ≡ marks ws
popped w ws stack rest e t =
    t ∙ ap (λ l. take (length l - 1) l) e ∙ ap (λ n. take n (marks ws ++ mark w ∷ [])) (length-end (marks ws) (mark w)) ∙ take-end (marks ws) (mark w)

-- if there is an innermost entry, something waits
pub some_waits : (stack : List Mark) (m : Mark) → nearest stack ≡ Some m → 0 < length stack
some_waits [] m e = absurd (cc)
some_waits (x ∷ stack) m e = omega arith

pub one_less : (stack rest : List Mark) → 0 < length stack → rest ≡ take (length stack - 1) stack → length rest + 1 ≡ length stack
one_less stack rest h t = let n : length rest ≡ length (take (length stack - 1) stack) = ap length t in omega (arith, length-take (length stack - 1) stack)

-- ---- a value is settled

abbrev pub IsSettling : List Mark → List Node → List Mark → List Node → Type 0
IsSettling stack_first nodes_first stack nodes =
    (t : Tree) (ws : List Waiting) (base : List Node) → HoldsAfter t ws base stack_first nodes_first
    → (u : Tree) × (vs : List Waiting) × HoldsAfter u vs base stack nodes × (settled_value u vs ≡ settled_value t ws)

pub settling_starts : (stack : List Mark) (nodes : List Node) → IsSettling stack nodes stack nodes
settling_starts stack nodes t ws base h = (t, ws, h, refl)

is_index_some : (o : Option Mark) → is_index o ≡ true → o ≡ Some marked.Index
is_index_some None e = absurd (cc)
is_index_some (Some marked.Index) e = refl
is_index_some (Some marked.Brackets) e = absurd (cc)
is_index_some (Some (marked.Function f)) e = absurd (cc)
is_index_some (Some (marked.Operation op)) e = absurd (cc)

pub index_waits : (stack : List Mark) (o : Option Mark) (b : Bool) → o ≡ nearest stack → b ≡ is_index o → b ≡ true → 0 < length stack
index_waits stack o b e f g = some_waits stack marked.Index (sym e ∙ is_index_some o (sym f ∙ g))

settling_on : (base : List Node) (u : Tree) (vs : List Waiting) (stack stack_then : List Mark)
    (nodes nodes_then : List Node) → HoldsAfter u vs base stack nodes → is_index (nearest_of vs) ≡ true
    → stack_then ≡ take (length stack - 1) stack → nodes_then ≡ nodes ++ node.Parameter ∷ []
    → (v : Tree) × (rest : List Waiting) × HoldsAfter v rest base stack_then nodes_then × (settled_value v rest ≡ settled_value u vs)
settling_on base u [] stack stack_then nodes nodes_then h i s n = absurd (cc)
settling_on base u (index ∷ vs) stack stack_then nodes nodes_then h i s n = (
  parameter u,
  vs,
  record { stack_is = popped index vs stack stack_then h.stack_is s; nodes_are = n ∙ ap (λ l. l ++ node.Parameter ∷ []) h.nodes_are ∙ simp append_assoc },
  refl,
)
settling_on base u (brackets ∷ vs) stack stack_then nodes nodes_then h i s n = absurd (cc)
settling_on base u (function f ∷ vs) stack stack_then nodes nodes_then h i s n = absurd (cc)
settling_on base u (left op l ∷ vs) stack stack_then nodes nodes_then h i s n = absurd (cc)

pub settling_goes : (stack_first stack stack_then : List Mark) (nodes_first nodes nodes_then : List Node)
    (o : Option Mark) (b : Bool) → IsSettling stack_first nodes_first stack nodes
    → o ≡ nearest stack → b ≡ is_index o → b ≡ true → stack_then ≡ take (length stack - 1) stack → nodes_then ≡ nodes ++ node.Parameter ∷ []
    → IsSettling stack_first nodes_first stack_then nodes_then
settling_goes stack_first stack stack_then nodes_first nodes nodes_then o b h e f g s n t ws base holds =
    let was = h t ws base holds in
    let waits : is_index (nearest_of was.1) ≡ true = ap is_index (sym (nearest-marks was.1 stack was.2.stack_is) ∙ sym e) ∙ sym f ∙ g in
    let now = settling_on base was.0 was.1 stack stack_then nodes nodes_then was.2 waits s n in
    (now.0, now.1, now.2, now.3 ∙ was.3)

settling_stops : (u : Tree) (vs : List Waiting) → is_index (nearest_of vs) ≡ false → after u vs ≡ settled_value u vs
settling_stops u [] e = refl
settling_stops u (index ∷ vs) e = absurd (cc)
settling_stops u (brackets ∷ vs) e = refl
settling_stops u (function f ∷ vs) e = refl
settling_stops u (left op l ∷ vs) e = refl

pub settling_ends : (stack_first stack : List Mark) (nodes_first nodes : List Node) (o : Option Mark) (b : Bool)
    → IsSettling stack_first nodes_first stack nodes
    → o ≡ nearest stack → b ≡ is_index o → b ≡ false → Settles stack_first nodes_first stack nodes
settling_ends stack_first stack nodes_first nodes o b h e f g t ws base holds =
    let was = h t ws base holds in
    let none_waits : is_index (nearest_of was.1) ≡ false = ap is_index (sym (nearest-marks was.1 stack was.2.stack_is) ∙ sym e) ∙ sym f ∙ g in
    let P : WalkPosition → Type 0 = λ p. Stands p base true stack nodes in
    subst P (settling_stops was.0 was.1 none_waits ∙ was.3) (refl, was.2)

-- ---- a value is gathered

abbrev pub IsGathering : ℕ → List Mark → List Node → List Mark → List Node → Type 0
IsGathering most stack_first nodes_first stack nodes =
    (t : Tree) (ws : List Waiting) (base : List Node) → HoldsAfter t ws base stack_first nodes_first
    → (u : Tree) × (vs : List Waiting) × HoldsAfter u vs base stack nodes × (gathered most u vs ≡ gathered most t ws)

pub gathering_starts : (most : ℕ) (stack : List Mark) (nodes : List Node) → IsGathering most stack nodes stack nodes
gathering_starts most stack nodes t ws base h = (t, ws, h, refl)

operation_within_some : (most : ℕ) (op : Operation) (o : Option Mark) → operation_within most o ≡ Some op
    → (o ≡ Some (marked.Operation op)) × (nat_le (level op) most ≡ true)
operation_within_some most op None e = absurd (cc)
operation_within_some most op (Some marked.Index) e = absurd (cc)
operation_within_some most op (Some marked.Brackets) e = absurd (cc)
operation_within_some most op (Some (marked.Function f)) e = absurd (cc)
operation_within_some most op (Some (marked.Operation other)) e = tested (nat_le (level other) most) refl e
  where
    tested : (t : Bool) → nat_le (level other) most ≡ t → cond t (Some other) None ≡ Some op
        → (Some (marked.Operation other) ≡ Some (marked.Operation op)) × (nat_le (level op) most ≡ true)
    tested true t e = let same : other ≡ op = cc in (ap (λ x. Some (marked.Operation x)) same, ap (λ x. nat_le (level x) most) (sym same) ∙ t)
    tested false t e = absurd (cc)

operation_within_none : (most : ℕ) (op : Operation) → operation_within most (Some (marked.Operation op)) ≡ None → nat_le (level op) most ≡ false
operation_within_none most op e = tested (nat_le (level op) most) refl e
  where
    tested : (t : Bool) → nat_le (level op) most ≡ t → ◌≡◌ {A = Option Operation} (cond t (Some op) None) None → nat_le (level op) most ≡ false
    tested true t e = absurd (cc)
    tested false t e = t

pub operation_waits : (most : ℕ) (op : Operation) (stack : List Mark) (o : Option Mark) → o ≡ nearest stack
    → operation_within most o ≡ Some op → 0 < length stack
operation_waits most op stack o e f = some_waits stack (marked.Operation op) (sym e ∙ (operation_within_some most op o f).0)

gathering_on : (most : ℕ) (op : Operation) (base : List Node) (u : Tree) (vs : List Waiting)
    (stack stack_then : List Mark) (nodes nodes_then : List Node) → HoldsAfter u vs base stack nodes
    → nearest_of vs ≡ Some (marked.Operation op) → nat_le (level op) most ≡ true
    → stack_then ≡ take (length stack - 1) stack → nodes_then ≡ nodes ++ node.Joined op ∷ []
    → (v : Tree) × (rest : List Waiting) × HoldsAfter v rest base stack_then nodes_then × (gathered most v rest ≡ gathered most u vs)
gathering_on most op base u [] stack stack_then nodes nodes_then h i k s n = absurd (cc)
gathering_on most op base u (index ∷ vs) stack stack_then nodes nodes_then h i k s n = absurd (cc)
gathering_on most op base u (brackets ∷ vs) stack stack_then nodes nodes_then h i k s n = absurd (cc)
gathering_on most op base u (function f ∷ vs) stack stack_then nodes nodes_then h i k s n = absurd (cc)
gathering_on most op base u (left other l ∷ vs) stack stack_then nodes nodes_then h i k s n =
    let same : op ≡ other = cc in
    let within : nat_le (level other) most ≡ true = ap (λ x. nat_le (level x) most) (sym same) ∙ k in (
      joined other l u,
      vs,
      record {
        stack_is = popped (left other l) vs stack stack_then h.stack_is s;
        nodes_are = n ∙ ap (λ x. nodes ++ node.Joined x ∷ []) same ∙ ap (λ m. m ++ node.Joined other ∷ []) h.nodes_are ∙ simp append_assoc;
      },
      rw within refl,
    )

pub gathering_goes : (most : ℕ) (op : Operation) (stack_first stack stack_then : List Mark)
    (nodes_first nodes nodes_then : List Node) (o : Option Mark)
    → IsGathering most stack_first nodes_first stack nodes
    → o ≡ nearest stack → operation_within most o ≡ Some op → stack_then ≡ take (length stack - 1) stack → nodes_then ≡ nodes ++ node.Joined op ∷ []
    → IsGathering most stack_first nodes_first stack_then nodes_then
gathering_goes most op stack_first stack stack_then nodes_first nodes nodes_then o h e f s n t ws base holds =
    let was = h t ws base holds in
    let found = operation_within_some most op o f in
    let now = gathering_on most op base was.0 was.1 stack stack_then nodes nodes_then was.2
    (sym (nearest-marks was.1 stack was.2.stack_is) ∙ sym e ∙ found.0) found.1 s n in
    (now.0, now.1, now.2, now.3 ∙ was.3)

gathering_stops : (most : ℕ) (u : Tree) (vs : List Waiting) → operation_within most (nearest_of vs) ≡ None → gathered most u vs ≡ (u, vs)
gathering_stops most u [] e = refl
gathering_stops most u (index ∷ vs) e = refl
gathering_stops most u (brackets ∷ vs) e = refl
gathering_stops most u (function f ∷ vs) e = refl
gathering_stops most u (left op l ∷ vs) e = let beyond : nat_le (level op) most ≡ false = operation_within_none most op e in rw beyond refl

pub gathering_ends : (most : ℕ) (stack_first stack : List Mark) (nodes_first nodes : List Node) (o : Option Mark)
    → IsGathering most stack_first nodes_first stack nodes
    → o ≡ nearest stack → operation_within most o ≡ None → Gathers most stack_first nodes_first stack nodes
gathering_ends most stack_first stack nodes_first nodes o h e f t ws base holds =
    let was = h t ws base holds in
    let none_waits : operation_within most (nearest_of was.1) ≡ None =
    ap (operation_within most) (sym (nearest-marks was.1 stack was.2.stack_is) ∙ sym e) ∙ f in
    let P : Tree × List Waiting → Type 0 = λ x. HoldsAfter x.0 x.1 base stack nodes in
    subst P (sym (gathering_stops most was.0 was.1 none_waits) ∙ was.3) was.2

-- ---- brackets are closed

pub closing_waits : (stack : List Mark) (o : Option Mark) (n : Node) → o ≡ nearest stack → closing o ≡ Some n → 0 < length stack
closing_waits stack None n e f = absurd (cc)
closing_waits stack (Some m) n e f = some_waits stack m (sym e)

closes_at : (base : List Node) (n : Node) (t : Tree) (ws : List Waiting) (stack stack_then : List Mark)
    (nodes nodes_then : List Node) → HoldsAfter t ws base stack nodes → closing (nearest_of ws) ≡ Some n
    → stack_then ≡ take (length stack - 1) stack → nodes_then ≡ nodes ++ n ∷ []
    → (u : Tree) × (rest : List Waiting) × (closed t ws ≡ Some (settled_value u rest)) × HoldsAfter u rest base stack_then nodes_then
closes_at base n t [] stack stack_then nodes nodes_then h i s m = absurd (cc)
closes_at base n t (index ∷ ws) stack stack_then nodes nodes_then h i s m = absurd (cc)
closes_at base n t (brackets ∷ ws) stack stack_then nodes nodes_then h i s m =
    let same : n ≡ node.Brackets = cc in (
      bracketed t,
      ws,
      refl,
      record {
        stack_is = popped brackets ws stack stack_then h.stack_is s;
        nodes_are = m ∙ ap (λ x. nodes ++ x ∷ []) same ∙ ap (λ l. l ++ node.Brackets ∷ []) h.nodes_are ∙ simp append_assoc;
      },
    )
closes_at base n t (function f ∷ ws) stack stack_then nodes nodes_then h i s m =
    let same : n ≡ node.Applied f = cc in (
      applied f t,
      ws,
      refl,
      record {
        stack_is = popped (function f) ws stack stack_then h.stack_is s;
        nodes_are = m ∙ ap (λ x. nodes ++ x ∷ []) same ∙ ap (λ l. l ++ node.Applied f ∷ []) h.nodes_are ∙ simp append_assoc;
      },
    )
closes_at base n t (left op l ∷ ws) stack stack_then nodes nodes_then h i s m = absurd (cc)

pub closes : (n : Node) (stack stack_then stack_last : List Mark) (nodes nodes_then nodes_last : List Node)
    (o : Option Mark) → o ≡ nearest stack → closing o ≡ Some n
    → stack_then ≡ take (length stack - 1) stack → nodes_then ≡ nodes ++ n ∷ [] → Settles stack_then nodes_then stack_last nodes_last
    → ClosesBrackets stack nodes true stack_last nodes_last
closes n stack stack_then stack_last nodes nodes_then nodes_last o e f s m settles t ws base holds =
    let c = closes_at base n t ws stack stack_then nodes nodes_then holds (ap closing (sym (nearest-marks ws stack holds.stack_is) ∙ sym e) ∙ f) s m in
    (settled_value c.0 c.1, c.2, settles c.0 c.1 base c.3)

closes_none_at : (t : Tree) (ws : List Waiting) → closing (nearest_of ws) ≡ None → closed t ws ≡ None
closes_none_at t [] e = refl
closes_none_at t (index ∷ ws) e = refl
closes_none_at t (brackets ∷ ws) e = absurd (cc)
closes_none_at t (function f ∷ ws) e = absurd (cc)
closes_none_at t (left op l ∷ ws) e = refl

pub closes_none : (stack stack_last : List Mark) (nodes nodes_last : List Node) (o : Option Mark)
    → o ≡ nearest stack → closing o ≡ None → ClosesBrackets stack nodes false stack_last nodes_last
closes_none stack stack_last nodes nodes_last o e f t ws base holds =
    closes_none_at t ws (ap closing (sym (nearest-marks ws stack holds.stack_is) ∙ sym e) ∙ f)

-- ---- what opens a value

-- a function's name and bracket begin with neither of the first two openings
name_opens : (f : Function) (rest : List ℕ) → entry_at openings (opener (function f) ++ rest) ≡ Some (function f, rest)
name_opens Abs rest = refl
name_opens Fix rest = refl
name_opens Fup rest = refl
name_opens Round rest = refl
name_opens Sqrt rest = refl

pub opening_function : (bytes rest : List ℕ) (f : Function)
    → entry_at function_openings bytes ≡ Some (function f, rest) → IsOpening bytes (Some (marked.Function f)) rest
opening_function bytes rest f found =
    let e = entry_found IsOpener function_openings bytes (function f, rest) ((refl, tt), ((refl, tt), ((refl, tt), ((refl, tt), ((refl, tt), tt))))) found in
    (function f, ap (entry_at openings) (e.1 ∙ ap (λ text. text ++ rest) e.2.0) ∙ name_opens f rest, refl, refl)

-- a number has at least one byte
pub number_shorter : (bytes same rest : List ℕ) (value : Option ℤ) → same ≡ bytes → number_at same ≡ Some (value, rest) → length rest < length bytes
number_shorter bytes same rest value e found =
    let n = number_sound same (value, rest) found in
    let some = length-number n.0 n.1 n.2 in
    let sum : length same ≡ length n.0 + length rest = simp length-append at (ap length n.3) in
    let equal : length same ≡ length bytes = ap length e in omega arith

-- a value has at least one byte
pub value_shorter : (bytes rest : List ℕ) (base nodes : List Node) (o : Option ℕ) → TakesValue bytes base o rest nodes → OnSome o (length rest < length bytes)
value_shorter bytes rest base nodes None h = tt
value_shorter bytes rest base nodes (Some n) h = length-value_at bytes (h.0, rest) h.1

-- ---- a step before a value

-- something that opens one
pub begin_opens : (bytes rest : List ℕ) (m : Mark) (stack stack_then : List Mark) (nodes : List Node)
    → IsOpening bytes (Some m) rest → stack_then ≡ stack ++ m ∷ []
    → WalkStepSpec false bytes stack nodes (Some false) rest stack_then nodes
begin_opens bytes rest m stack stack_then nodes h s (before ws) base stands = (
  before (h.0 ∷ ws),
  ap (opened ws bytes) h.1,
  (refl, opens h.0 h.2 h.3),
)
  where
    opens : (w : Waiting) → mark w ≡ m → waiting_nodes (w ∷ []) ≡ [] → HoldsBefore (w ∷ ws) base stack_then nodes
    opens w e n = record {
      stack_is = s ∙ ap (λ l. l ++ m ∷ []) stands.1.stack_is ∙ ap (λ x. marks ws ++ x ∷ []) (sym e);
      nodes_are = stands.1.nodes_are ∙ ap (λ l. base ++ l) (same w n);
    }
      where
        same : (w : Waiting) → waiting_nodes (w ∷ []) ≡ [] → waiting_nodes ws ≡ waiting_nodes (w ∷ ws)
        same index n = refl
        same brackets n = refl
        same (function f) n = refl
        same (left op l) n = sym (append-nil (waiting_nodes ws)) ∙ ap (λ k. waiting_nodes ws ++ k) (sym n)
begin_opens bytes rest m stack stack_then nodes h s (after t ws) base stands = absurd (let e : true ≡ false = sym stands.0 in cc)

-- a number
pub begin_number : (bytes same rest : List ℕ) (value : Option ℤ) (stack stack_last : List Mark)
    (nodes nodes_then nodes_last : List Node) → entry_at openings bytes ≡ None → same ≡ bytes
    → number_at same ≡ Some (value, rest) → nodes_then ≡ nodes ++ node.Number value ∷ [] → Settles stack nodes_then stack_last nodes_last
    → WalkStepSpec false bytes stack nodes (Some true) rest stack_last nodes_last
begin_number bytes same rest value stack stack_last nodes nodes_then nodes_last none e found n settles (before ws) base stands = (
  settled_value (number value) ws,
  ap (opened ws bytes) none ∙ ap (option_map (λ (v : Option ℤ × List ℕ). (settled_value (number v.0) ws, v.1))) (ap number_at (sym e) ∙ found),
  settles (number value) ws base
      (record {
        stack_is = stands.1.stack_is;
        nodes_are = n
            ∙ ap (λ l. l ++ node.Number value ∷ []) stands.1.nodes_are
            ∙ append_assoc base (waiting_nodes ws) (node.Number value ∷ []);
      }),
)
begin_number bytes same rest value stack stack_last nodes nodes_then nodes_last none e found n settles (after t ws)
    base stands = absurd (let f : true ≡ false = sym stands.0 in cc)

-- neither
pub begin_none : (bytes same rest : List ℕ) (stack stack_last : List Mark) (nodes nodes_last : List Node)
    → entry_at openings bytes ≡ None → same ≡ bytes → number_at same ≡ None
    → WalkStepSpec false bytes stack nodes None rest stack_last nodes_last
begin_none bytes same rest stack stack_last nodes nodes_last none e found (before ws) base stands =
    ap (opened ws bytes) none ∙ ap (option_map (λ (v : Option ℤ × List ℕ). (settled_value (number v.0) ws, v.1))) (ap number_at (sym e) ∙ found)
begin_none bytes same rest stack stack_last nodes nodes_last none e found (after t ws) base stands = absurd (let f : true ≡ false = sym stands.0 in cc)

-- ---- a step after a value

-- a closing bracket
pub go_on_closes : (bytes rest : List ℕ) (stack stack_then stack_last : List Mark)
    (nodes nodes_then nodes_last : List Node) → strip_prefix (codes "]") bytes ≡ Some rest
    → Gathers 3 stack nodes stack_then nodes_then → ClosesBrackets stack_then nodes_then true stack_last nodes_last
    → WalkStepSpec true bytes stack nodes (Some true) rest stack_last nodes_last
go_on_closes bytes rest stack stack_then stack_last nodes nodes_then nodes_last found gathers closes (before ws)
    base stands = absurd (let e : true ≡ false = stands.0 in cc)
go_on_closes bytes rest stack stack_then stack_last nodes nodes_then nodes_last found gathers closes (after t ws) base stands =
    let c = closes (gathered 3 t ws).0 (gathered 3 t ws).1 base (gathers t ws base stands.1) in
    (c.0, ap (continued t ws bytes) found ∙ ap (option_map (λ (p : WalkPosition). (p, rest))) c.1, c.2)

-- a closing bracket that closes nothing
pub go_on_unopened : (bytes rest after_it : List ℕ) (stack stack_then stack_last : List Mark)
    (nodes nodes_then nodes_last : List Node) → strip_prefix (codes "]") bytes ≡ Some rest
    → Gathers 3 stack nodes stack_then nodes_then → ClosesBrackets stack_then nodes_then false stack_last nodes_last
    → WalkStepSpec true bytes stack nodes None after_it stack_last nodes_last
go_on_unopened bytes rest after_it stack stack_then stack_last nodes nodes_then nodes_last found gathers closes
    (before ws) base stands = absurd (let e : true ≡ false = stands.0 in cc)
go_on_unopened bytes rest after_it stack stack_then stack_last nodes nodes_then nodes_last found gathers closes (after t ws) base stands =
    ap (continued t ws bytes) found ∙ ap (option_map (λ (p : WalkPosition). (p, rest)))
    (closes (gathered 3 t ws).0 (gathered 3 t ws).1 base (gathers t ws base stands.1))

-- an operation
pub go_on_operation : (bytes rest : List ℕ) (op : Operation) (most : ℕ) (stack stack_then stack_last : List Mark)
    (nodes nodes_then : List Node) → entry_at operations bytes ≡ Some (op, rest) → most ≡ level op
    → Gathers most stack nodes stack_then nodes_then → stack_last ≡ stack_then ++ marked.Operation op ∷ []
    → WalkStepSpec true bytes stack nodes (Some false) rest stack_last nodes_then
go_on_operation bytes rest op most stack stack_then stack_last nodes nodes_then found m gathers s (before ws) base
    stands = absurd (let f : true ≡ false = stands.0 in cc)
go_on_operation bytes rest op most stack stack_then stack_last nodes nodes_then found m gathers s (after t ws) base stands =
    let P : ℕ → Type 0 = λ n. HoldsAfter (gathered n t ws).0 (gathered n t ws).1 base stack_then nodes_then in
    let g = subst P m (gathers t ws base stands.1) in
    let e = operation_found bytes (op, rest) found in
    let none : strip_prefix (codes "]") bytes ≡ None = ap (strip_prefix (codes "]")) (e.1 ∙ ap (λ text. text ++ rest) e.2) ∙ no_bracket op rest in (
      before (left op (gathered (level op) t ws).0 ∷ (gathered (level op) t ws).1),
      ap (continued t ws bytes) none
          ∙ ap (option_map (λ (x : Operation × List ℕ).
          (before (left x.0 (gathered (level x.0) t ws).0 ∷ (gathered (level x.0) t ws).1), x.1))) found,
      (refl, record { stack_is = s ∙ ap (λ l. l ++ marked.Operation op ∷ []) g.stack_is; nodes_are = g.nodes_are }),
    )

-- neither
pub go_on_none : (bytes same rest : List ℕ) (stack stack_last : List Mark) (nodes nodes_last : List Node)
    → strip_prefix (codes "]") bytes ≡ None → same ≡ bytes → entry_at operations same ≡ None
    → WalkStepSpec true bytes stack nodes None rest stack_last nodes_last
go_on_none bytes same rest stack stack_last nodes nodes_last none e found (before ws) base stands = absurd (let f : true ≡ false = stands.0 in cc)
go_on_none bytes same rest stack stack_last nodes nodes_last none e found (after t ws) base stands =
    ap (continued t ws bytes) none
    ∙ ap (option_map (λ (x : Operation × List ℕ).
    (before (left x.0 (gathered (level x.0) t ws).0 ∷ (gathered (level x.0) t ws).1), x.1)))
    (ap (entry_at operations) (sym e) ∙ found)

-- ---- the walk

-- the walk has come to a place; from there it gives the result that it has to give
abbrev pub IsWalking : List ℕ → List Node → List ℕ → Bool → List Mark → List Node → Type 0
IsWalking bytes_first base bytes after_value stack nodes =
    (p : WalkPosition) × (value_from (length bytes) p bytes ≡ value_at bytes_first) × Stands p base after_value stack nodes

pub walking_starts : (bytes : List ℕ) (stack : List Mark) (nodes : List Node) → stack ≡ [] → IsWalking bytes nodes bytes false stack nodes
walking_starts bytes stack nodes e = (before [], refl, (refl, record { stack_is = e; nodes_are = sym (append-nil nodes) }))

walking_goes_at : (bytes_first bytes : List ℕ) (base : List Node) (after_value : Bool) (stack : List Mark)
    (nodes : List Node) (p : WalkPosition) (x : WalkPosition × List ℕ)
    → value_from (length bytes) p bytes ≡ value_at bytes_first → Stands p base after_value stack nodes
    → ((after_value ≡ true) × (stack ≡ []) → ⊥) → step_at p bytes ≡ Some x
    → value_from (length x.1) x.0 x.1 ≡ value_at bytes_first
walking_goes_at bytes_first bytes base after_value stack nodes (before ws) x e h n s = sym (walk_before ws bytes x s) ∙ e
walking_goes_at bytes_first bytes base after_value stack nodes (after t []) x e h n s = absurd (n (h.0, h.1.stack_is))
walking_goes_at bytes_first bytes base after_value stack nodes (after t (w ∷ ws)) x e h n s = sym (walk_after t w ws bytes x s) ∙ e

-- a loop that goes on
pub not_ended : (ended : Bool) (after_value : Bool) (stack : List Mark)
    → (IsTrue ended ↔ ((after_value ≡ true) × (stack ≡ []))) → ended ≡ false → (after_value ≡ true) × (stack ≡ [])
    → ⊥
not_ended true after_value stack h e f = absurd (cc)
not_ended false after_value stack h e f = let t : IsTrue false = h.1 f in grind (arith, nat_tests)

-- a loop that is left
pub has_ended_is : (ended : Bool) (after_value : Bool) (stack : List Mark)
    → (IsTrue ended ↔ ((after_value ≡ true) × (stack ≡ []))) → ended ≡ true → (after_value ≡ true) × (stack ≡ [])
has_ended_is true after_value stack h e = h.0 (search rules)
has_ended_is false after_value stack h e = absurd (cc)

-- one more step
pub walking_goes : (bytes_first bytes rest : List ℕ) (base : List Node) (after_value after_value_then : Bool)
    (stack stack_then : List Mark) (nodes nodes_then : List Node)
    → IsWalking bytes_first base bytes after_value stack nodes → ((after_value ≡ true) × (stack ≡ []) → ⊥)
    → WalkStepSpec after_value bytes stack nodes (Some after_value_then) rest stack_then nodes_then
    → IsWalking bytes_first base rest after_value_then stack_then nodes_then × (length rest < length bytes)
walking_goes bytes_first bytes rest base after_value after_value_then stack stack_then nodes nodes_then h n goes =
    let s = goes h.0 base h.2 in
    ((s.0, walking_goes_at bytes_first bytes base after_value stack nodes h.0 (s.0, rest) h.1 h.2 n s.1, s.2), step_shorter h.0 bytes (s.0, rest) s.1)

walking_none_at : (bytes_first bytes : List ℕ) (base : List Node) (after_value : Bool) (stack : List Mark) (nodes : List Node) (p : WalkPosition)
    → value_from (length bytes) p bytes ≡ value_at bytes_first → Stands p base after_value stack nodes
    → ((after_value ≡ true) × (stack ≡ []) → ⊥) → step_at p bytes ≡ None
    → value_at bytes_first ≡ None
walking_none_at bytes_first bytes base after_value stack nodes (before ws) e h n s = sym e ∙ walk_before_none ws bytes s
walking_none_at bytes_first bytes base after_value stack nodes (after t []) e h n s = absurd (n (h.0, h.1.stack_is))
walking_none_at bytes_first bytes base after_value stack nodes (after t (w ∷ ws)) e h n s = sym e ∙ walk_after_none t w ws bytes s

-- no further step: there is no value
pub walking_none : (bytes_first bytes rest : List ℕ) (base : List Node) (after_value : Bool) (stack stack_then : List Mark) (nodes nodes_then : List Node)
    → IsWalking bytes_first base bytes after_value stack nodes → ((after_value ≡ true) × (stack ≡ []) → ⊥)
    → WalkStepSpec after_value bytes stack nodes None rest stack_then nodes_then → value_at bytes_first ≡ None
walking_none bytes_first bytes rest base after_value stack stack_then nodes nodes_then h n goes =
    walking_none_at bytes_first bytes base after_value stack nodes h.0 h.1 h.2 n (goes h.0 base h.2)

value_from-end : (most : ℕ) (t : Tree) (bytes : List ℕ) → value_from most (after t []) bytes ≡ Some (t, bytes)
value_from-end zero t bytes = refl
value_from-end (suc most) t bytes = refl

walking_ends_at : (bytes_first bytes : List ℕ) (base : List Node) (after_value : Bool) (stack : List Mark) (nodes : List Node) (p : WalkPosition) (n : ℕ)
    → value_from (length bytes) p bytes ≡ value_at bytes_first → Stands p base after_value stack nodes
    → after_value ≡ true → stack ≡ [] → n ≡ length nodes - length base
    → TakesValue bytes_first base (Some n) bytes nodes
walking_ends_at bytes_first bytes base after_value stack nodes (before ws) n e h b s l = absurd (let f : true ≡ false = sym b ∙ h.0 in cc)
walking_ends_at bytes_first bytes base after_value stack nodes (after t []) n e h b s l =
    let sum : length nodes ≡ length base + (0 + length (postfix t)) = simp length-append at (ap length h.1.nodes_are) in
    (t, sym e ∙ value_from-end (length bytes) t bytes, h.1.nodes_are, omega arith)
walking_ends_at bytes_first bytes base after_value stack nodes (after t (w ∷ ws)) n e h b s l =
    let none : length (marks ws ++ mark w ∷ []) ≡ 0 = ap length (sym h.1.stack_is ∙ s) in absurd (omega (arith, length-append (marks ws) (mark w ∷ [])))

-- nothing waits after a value, so it is taken
pub walking_ends : (bytes_first bytes : List ℕ) (base : List Node) (after_value : Bool) (stack : List Mark) (nodes : List Node) (n : ℕ)
    → IsWalking bytes_first base bytes after_value stack nodes → (after_value ≡ true) × (stack ≡ []) → n ≡ length nodes - length base
    → TakesValue bytes_first base (Some n) bytes nodes
walking_ends bytes_first bytes base after_value stack nodes n h ended l =
    walking_ends_at bytes_first bytes base after_value stack nodes h.0 n h.1 h.2 ended.0 ended.1 l

-- ---- a number, which needs no walk

number_first : (b : ℕ) (bs : List ℕ) → BeginsNumber (b ∷ bs) → entry_at openings (b ∷ bs) ≡ None
number_first b bs h =
    let not_sign : (b == 35) ≡ false = grind (arith, nat_tests, h) in
    let not_bracket : (b == 91) ≡ false = grind (arith, nat_tests, h) in
    let not_a : (b == 65) ≡ false = grind (arith, nat_tests, h) in
    let not_f : (b == 70) ≡ false = grind (arith, nat_tests, h) in
    let not_r : (b == 82) ≡ false = grind (arith, nat_tests, h) in
    let not_s : (b == 83) ≡ false = grind (arith, nat_tests, h) in
    rw (not_sign, not_bracket, not_a, not_f, not_r, not_s) refl

pub no_opening : (bytes : List ℕ) → BeginsNumber bytes → entry_at openings bytes ≡ None
no_opening [] h = absurd h
no_opening (b ∷ bs) h = number_first b bs h

-- the result of a test of the first byte
pub begins_so : (t : Bool) (bytes : List ℕ) → (IsTrue t ↔ BeginsNumber bytes) → t ≡ true → BeginsNumber bytes
begins_so true bytes h e = h.0 (search rules)
begins_so false bytes h e = absurd (cc)

pub begins_otherwise : (t : Bool) (bytes : List ℕ) → (IsTrue t ↔ BeginsNumber bytes) → t ≡ false → BeginsNumber bytes → ⊥
begins_otherwise true bytes h e b = absurd (cc)
begins_otherwise false bytes h e b = let t : IsTrue false = h.1 b in grind (arith, nat_tests)

-- a number is the value
pub number_value : (bytes rest : List ℕ) (value : Option ℤ) → BeginsNumber bytes
    → number_at bytes ≡ Some (value, rest) → value_at bytes ≡ Some (number value, rest)
number_value bytes rest value h e =
    let stepped : step_at (before []) bytes ≡ Some (after (number value) [], rest) =
    ap (opened [] bytes) (no_opening bytes h) ∙ ap (option_map (λ (v : Option ℤ × List ℕ). (settled_value (number v.0) [], v.1))) e in
    walk_before [] bytes (after (number value) [], rest) stepped ∙ value_from-end (length rest) (number value) rest

pub number_taken : (bytes rest : List ℕ) (value : Option ℤ) (nodes nodes_then : List Node) → BeginsNumber bytes → number_at bytes ≡ Some (value, rest)
    → nodes_then ≡ nodes ++ node.Number value ∷ [] → TakesValue bytes nodes (Some 1) rest nodes_then
number_taken bytes rest value nodes nodes_then h e n = (number value, number_value bytes rest value h e, n, refl)

-- a value that is a number alone begins so
pub value_begins : (bytes rest : List ℕ) (value : Option ℤ) → value_at bytes ≡ Some (number value, rest) → BeginsNumber bytes
value_begins bytes rest value e =
    let found = value_sound bytes (number value, rest) e in
    let first = number_begins found.0 found.2.0.0 found.2.0.1 in
    subst BeginsNumber (sym (found.1 ∙ ap (λ l. l ++ rest) first.is)) (first.low, first.high)

pub number_missing : (bytes : List ℕ) → BeginsNumber bytes → number_at bytes ≡ None → value_at bytes ≡ None
number_missing bytes h e =
    walk_before_none [] bytes (ap (opened [] bytes) (no_opening bytes h) ∙ ap (option_map (λ (v : Option ℤ × List ℕ). (settled_value (number v.0) [], v.1))) e)
