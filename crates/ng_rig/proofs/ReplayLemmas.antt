-- Images from recorded calls.
use Rattle.std.proofs.Common.{◌≡◌, inl, inr, ℕ, zero, suc, ◌+◌, ◌<◌, ◌≤◌, ◌==◌, nat_lt, Bool, false, ◌&&◌}
use Rattle.std.proofs.Common.{if◌then◌else◌, true, List, [], ◌∷◌, ◌++◌, length, take, drop, get_or, set}
use Rattle.std.proofs.Common.{slice_index, refl, sym, ◌∙◌, ap, subst, arith}
use Rattle.std.specs.List.{list_all}
use Rattle.std.proofs.lemmas.List.Folds.{list_all-append}
use Rattle.std.proofs.lemmas.Bool.{cases_eq, and_parts}
use Rattle.std.proofs.lemmas.Bool.Decides.{nat_tests}
use Rattle.std.proofs.lemmas.List.{get_or-set_other, get_or-set_same, length-set}
use Rattle.std.proofs.lemmas.Grind.{get_or-set_at}
use Rattle.std.proofs.lemmas.List.Sums.{AllPass-from_list_all, list_all-from_AllPass}
use Rattle.std.proofs.lemmas.List.Elements.{All-get_or, All-drop, All-take}
use Rattle.ng_rig.specs.Trace.{Trace, Began, Wrote, reads}
use Rattle.ng_rig.specs.RecordedCalls.{after_call, trace_after, trace_of_calls, contents, is_call_within, AllWithin, EndsSynced, IsWhole}
use Rattle.ng_rig.specs.Stops.{unsynced, durable, durable_image}
use Rattle.ng_rig.specs.declared.call.Call.{Call}
use Rattle.ng_rig.specs.declared.call.Call.TheVariants.{Write, Sync, Hand}
use Rattle.ng_rig.proofs.TraceLemmas.{trace_of_calls-push, trace_of_calls-split}

-- an element doesn't depend on the default for places past the end
pub default_is : {X : Type 0} (xs : List X) (i : ℕ) (d e : X) → i < length xs → get_or xs i d ≡ get_or xs i e
default_is [] i d e lt = absurd (omega arith)
default_is (x ∷ xs) zero d e lt = refl
default_is (x ∷ xs) (suc i) d e lt = default_is xs i d e (omega arith)

-- a sector with a content may be replaced by another
pub whole_set : (sectors new : List (List ℕ)) (m : ℕ) (bytes : List ℕ) → new ≡ set sectors m bytes → 0 < length bytes → IsWhole sectors → IsWhole new
whole_set sectors new m bytes is some whole = subst (λ (s : List (List ℕ)). IsWhole s) (sym is) (record { each = each }) where
  each : (n : ℕ) → n < length (set sectors m bytes) → 0 < length (get_or (set sectors m bytes) n [])
  each n below =
      let lengths = length-set sectors m bytes in
      elim (cases_eq n m) [
        | inl same ↦ rw (same, get_or-set_same sectors m bytes [] (omega (arith, lengths, below, same))) some
        | inr other ↦ rw (get_or-set_other sectors m n bytes [] other) (whole.each n (omega (arith, lengths, below)))
      ]

below-lt : (a b : ℕ) → nat_lt a b ≡ true → a < b
below-lt a b h = grind (arith, nat_tests)

-- a write among these calls is of a sector below the size, and its content isn't empty
pub within_at : (size : ℕ) (calls : List Call) (i : ℕ) (d : Call) (n : ℕ) (bytes : List ℕ) → AllWithin size calls
    → i < length calls → get_or calls i d ≡ Write n bytes → (n < size) × (0 < length bytes)
within_at size calls i d n bytes all lt is =
    let h : (nat_lt n size && nat_lt 0 (length bytes)) ≡ true = sym (ap (λ (c : Call). is_call_within size c) is)
    ∙ All-get_or (λ c. is_call_within size c ≡ true) calls i d lt
    (AllPass-from_list_all (is_call_within size) calls all) in
    let parts = and_parts (nat_lt n size) (nat_lt 0 (length bytes)) h in
    (below-lt n size parts.0, below-lt 0 (length bytes) parts.1)

pub within_take : (size : ℕ) (calls : List Call) (i : ℕ) → AllWithin size calls → AllWithin size (take i calls)
within_take size calls i all = list_all-from_AllPass (is_call_within size) (take i calls)
    (All-take (λ c. is_call_within size c ≡ true) i calls (AllPass-from_list_all (is_call_within size) calls all))

pub within_drop : (size : ℕ) (calls : List Call) (i : ℕ) → AllWithin size calls → AllWithin size (drop i calls)
within_drop size calls i all = list_all-from_AllPass (is_call_within size) (drop i calls)
    (All-drop (λ c. is_call_within size c ≡ true) i calls (AllPass-from_list_all (is_call_within size) calls all))

-- after a write its sector holds it, and each other sector what it held
pub contents-set : (image : List (List ℕ)) (m : ℕ) (bytes : List ℕ) (n : ℕ) → m < length image
    → contents (set image m bytes) n ≡ (if n == m then bytes else contents image n)
contents-set image m bytes n lt = elim (cases_eq n m) [
  | inl same ↦ let e : bytes ≡ (if n == m then bytes else contents image n) = grind (arith, nat_tests) in get_or-set_at image m n bytes [] same lt ∙ e
  | inr other ↦ let e : contents image n ≡ (if n == m then bytes else contents image n) =
      grind (arith, nat_tests) in get_or-set_other image m n bytes [] other ∙ e
]

-- after a number is set its place holds it, and each other place what it held
pub number-set : (numbers : List ℕ) (m x n : ℕ) → m < length numbers → slice_index (set numbers m x) n ≡ (if n == m then x else slice_index numbers n)
number-set numbers m x n lt = elim (cases_eq n m) [
  | inl same ↦ let e : x ≡ (if n == m then x else slice_index numbers n) = grind (arith, nat_tests) in get_or-set_at numbers m n x 0 same lt ∙ e
  | inr other ↦ let e : slice_index numbers n ≡ (if n == m then x else slice_index numbers n) =
      grind (arith, nat_tests) in get_or-set_other numbers m n x 0 other ∙ e
]

-- two traces with the same stops by numbers and the same reads
pub record SameStops (a b : Trace) : Type 0 where
  pub read : (n : ℕ) → reads a n ≡ reads b n
  pub count : (n : ℕ) → unsynced a n ≡ unsynced b n
  pub stop : (n k : ℕ) → durable a n k ≡ durable b n k

same_after : (call : Call) (a b : Trace) → SameStops a b → SameStops (after_call call a) (after_call call b)
same_after (Write m bytes) a b same = record {
  read = λ n. ap (λ (c : List ℕ). if n == m then bytes else c) (same.read n);
  count = λ n. ap (λ (u : ℕ). if n == m then u + 1 else u) (same.count n);
  stop = λ n k j. if n == m then (if nat_lt (same.count n j) k then bytes else same.stop n k j) else same.stop n k j;
}
same_after Sync a b same = record { read = same.read; count = λ n. refl; stop = λ n k. same.read n }
same_after (Hand item) a b same = record { read = same.read; count = same.count; stop = same.stop }

pub same_trace : (a b : Trace) (calls : List Call) → SameStops a b → SameStops (trace_after a calls) (trace_after b calls)
same_trace a b [] same = same
same_trace a b (call ∷ calls) same = same_trace (after_call call a) (after_call call b) calls (same_after call a b same)

-- a trace with nothing unsynced
record IsSettled (trace : Trace) : Type 0 where
  count : (n : ℕ) → unsynced trace n ≡ 0
  stop : (n k : ℕ) → durable trace n k ≡ reads trace n

settled : (sectors : List (List ℕ)) (calls : List Call) → EndsSynced calls → IsSettled (trace_of_calls sectors calls)
settled sectors calls (inl none) = subst (λ (cs : List Call). IsSettled (trace_of_calls sectors cs)) (sym none)
    (record { count = λ n. refl; stop = λ n k. refl })
settled sectors calls (inr some) =
    subst (λ (cs : List Call). IsSettled (trace_of_calls sectors cs)) (sym some.1)
    (subst (λ (l : Trace). IsSettled l) (sym (trace_of_calls-push sectors some.0 Sync))
    (record { count = λ n. refl; stop = λ n k. refl }))

-- a device that holds what such a trace reads as has the same stops
pub settled_same : (sectors image : List (List ℕ)) (calls : List Call) → EndsSynced calls
    → contents image ≡ reads (trace_of_calls sectors calls)
    → SameStops (trace_of_calls sectors calls) (Began (contents image))
settled_same sectors image calls ends is =
    let rest = settled sectors calls ends in
    let same : (n : ℕ) → reads (trace_of_calls sectors calls) n ≡ contents image n = λ n. sym (ap (λ (f : ℕ → List ℕ). f n) is) in
    record { read = same; count = rest.count; stop = λ n k. rest.stop n k ∙ same n }

-- one write replayed
pub reads_write : (trace : Trace) (old new : List (List ℕ)) (m : ℕ) (bytes : List ℕ) → m < length old
    → new ≡ set old m bytes → ((n : ℕ) → contents old n ≡ reads trace n) → (n : ℕ)
    → contents new n ≡ reads (Wrote m bytes trace) n
reads_write trace old new m bytes lt is h n =
    ap (λ (xs : List (List ℕ)). contents xs n) is ∙ contents-set old m bytes n lt ∙ ap (λ (c : List ℕ). if n == m then bytes else c) (h n)

chosen : (n m u k : ℕ) (bytes c : List ℕ) → (n ≡ m → u < k) → (if n == m then bytes else c) ≡ (if n == m then (if nat_lt u k then bytes else c) else c)
chosen n m u k bytes c lt = elim (cases_eq n m) [
  | inl same ↦ let h = lt same in grind (arith, nat_tests)
  | inr other ↦ grind (arith, nat_tests)
]

passed : (n m u k : ℕ) (bytes c : List ℕ) → (n ≡ m → k ≤ u) → c ≡ (if n == m then (if nat_lt u k then bytes else c) else c)
passed n m u k bytes c le = elim (cases_eq n m) [
  | inl same ↦ let h = le same in grind (arith, nat_tests)
  | inr other ↦ grind (arith, nat_tests)
]

-- one write replayed that is durable
pub durable_write : (trace : Trace) (keep : List ℕ) (old new : List (List ℕ)) (m : ℕ) (bytes : List ℕ) → m < length old
    → unsynced trace m < slice_index keep m → new ≡ set old m bytes
    → ((n : ℕ) → contents old n ≡ durable trace n (slice_index keep n)) → (n : ℕ)
    → contents new n ≡ durable (Wrote m bytes trace) n (slice_index keep n)
durable_write trace keep old new m bytes lt wanted is h n =
    ap (λ (xs : List (List ℕ)). contents xs n) is ∙ contents-set old m bytes n lt ∙ ap (λ (c : List ℕ). if n == m then bytes else c) (h n)
    ∙ chosen n m (unsynced trace n) (slice_index keep n) bytes (durable trace n (slice_index keep n))
    (λ same. subst (λ (x : ℕ). unsynced trace x < slice_index keep x) (sym same) wanted)

-- and one that isn't
pub durable_passed : (trace : Trace) (keep : List ℕ) (old new : List (List ℕ)) (m : ℕ) (bytes : List ℕ)
    → slice_index keep m ≤ unsynced trace m → new ≡ old
    → ((n : ℕ) → contents old n ≡ durable trace n (slice_index keep n)) → (n : ℕ)
    → contents new n ≡ durable (Wrote m bytes trace) n (slice_index keep n)
durable_passed trace keep old new m bytes enough is h n =
    ap (λ (xs : List (List ℕ)). contents xs n) is ∙ h n
    ∙ passed n m (unsynced trace n) (slice_index keep n) bytes (durable trace n (slice_index keep n))
    (λ same. subst (λ (x : ℕ). slice_index keep x ≤ unsynced trace x) (sym same) enough)

counted : (n m u v : ℕ) → (n ≡ m → u ≡ v) → (if n == m then u + 1 else v) ≡ (if n == m then v + 1 else v)
counted n m u v e = elim (cases_eq n m) [
  | inl same ↦ let h = e same in grind (arith, nat_tests)
  | inr other ↦ grind (arith, nat_tests)
]

pub count_write : (trace : Trace) (old new : List ℕ) (m : ℕ) (bytes : List ℕ) → m < length old
    → new ≡ set old m (slice_index old m + 1) → ((n : ℕ) → slice_index old n ≡ unsynced trace n) → (n : ℕ)
    → slice_index new n ≡ unsynced (Wrote m bytes trace) n
count_write trace old new m bytes lt is h n =
    ap (λ (xs : List ℕ). slice_index xs n) is ∙ number-set old m (slice_index old m + 1) n lt
    ∙ counted n m (slice_index old m) (slice_index old n) (λ same. ap (λ (x : ℕ). slice_index old x) (sym same))
    ∙ ap (λ (u : ℕ). if n == m then u + 1 else u) (h n)

below_choice : (n m x y k : ℕ) → x ≤ k → y ≤ k → (if n == m then x + 1 else y) ≤ k + 1
below_choice n m x y k hx hy = grind (arith, nat_tests)

pub bound_write : (old new : List ℕ) (m k : ℕ) → m < length old → new ≡ set old m (slice_index old m + 1)
    → ((n : ℕ) → slice_index old n ≤ k) → (n : ℕ) → slice_index new n ≤ k + 1
bound_write old new m k lt is h n =
    let e = ap (λ (xs : List ℕ). slice_index xs n) is ∙ number-set old m (slice_index old m + 1) n lt in
    let b = below_choice n m (slice_index old m) (slice_index old n) k (h m) (h n) in
    omega (arith, e, b)

-- a stop after all of the calls is a stop after those since the last sync, over what was synced
pub durable_split : (first image : List (List ℕ)) (calls rest : List Call) (i : ℕ) (keep : List ℕ)
    → rest ≡ drop i calls → EndsSynced (take i calls) → contents image ≡ reads (trace_of_calls first (take i calls))
    → durable_image (trace_of_calls image rest) keep ≡ durable_image (trace_of_calls first calls) keep
durable_split first image calls rest i keep is ends held =
    let same = same_trace (trace_of_calls first (take i calls)) (Began (contents image)) (drop i calls) (settled_same first image (take i calls) ends held) in
    let split = trace_of_calls-split first calls i in
    λ j n. (ap (λ (cs : List Call). durable (trace_of_calls image cs) n (slice_index keep n)) is
    ∙ sym (same.stop n (slice_index keep n)) ∙ sym (ap (λ (l : Trace). durable l n (slice_index keep n)) split)) j

pub within-push : (size : ℕ) (calls new : List Call) (call : Call) → new ≡ calls ++ call ∷ [] → AllWithin size calls
    → is_call_within size call ≡ true → AllWithin size new
within-push size calls new call is all here =
    ap (λ (cs : List Call). list_all (is_call_within size) cs) is ∙ list_all-append (is_call_within size) calls (call ∷ []) ∙ (λ i. all i && (here i && true))

-- a call that isn't a write doesn't change what a read returns
pub reads-push : (first present : List (List ℕ)) (calls new : List Call) (call : Call) → new ≡ calls ++ call ∷ []
    → reads (after_call call (trace_of_calls first calls)) ≡ reads (trace_of_calls first calls)
    → contents present ≡ reads (trace_of_calls first calls) → contents present ≡ reads (trace_of_calls first new)
reads-push first present calls new call is quiet held =
    held ∙ sym quiet ∙ sym (ap (λ (cs : List Call). reads (trace_of_calls first cs)) is ∙ ap (λ (l : Trace). reads l) (trace_of_calls-push first calls call))

pub reads-push_write : (first present : List (List ℕ)) (calls new : List Call) (m : ℕ) (bytes : List ℕ)
    → new ≡ calls ++ Write m bytes ∷ [] → m < length present → contents present ≡ reads (trace_of_calls first calls)
    → contents (set present m bytes) ≡ reads (trace_of_calls first new)
reads-push_write first present calls new m bytes is lt held =
    let e : (n : ℕ) → contents (set present m bytes) n ≡ reads (Wrote m bytes (trace_of_calls first calls)) n =
    reads_write (trace_of_calls first calls) present (set present m bytes) m bytes lt refl
    (λ n. ap (λ (f : ℕ → List ℕ). f n) held) in
    (λ i n. e n i) ∙ sym (ap (λ (cs : List Call). reads (trace_of_calls first cs)) is
    ∙ ap (λ (l : Trace). reads l) (trace_of_calls-push first calls (Write m bytes)))

pub trace-push : (first : List (List ℕ)) (calls new : List Call) (call : Call) → new ≡ calls ++ call ∷ []
    → trace_of_calls first new ≡ after_call call (trace_of_calls first calls)
trace-push first calls new call is = ap (λ (cs : List Call). trace_of_calls first cs) is ∙ trace_of_calls-push first calls call

-- a call that is recorded, or not if there was no memory for it
pub within-maybe : (b : Bool) (size : ℕ) (calls new : List Call) (call : Call)
    → new ≡ (if b then calls ++ call ∷ [] else calls) → AllWithin size calls → is_call_within size call ≡ true
    → AllWithin size new
within-maybe true size calls new call is all here = within-push size calls new call is all here
within-maybe false size calls new call is all here = subst (λ (cs : List Call). AllWithin size cs) (sym is) all

pub reads-maybe : (b : Bool) (first present : List (List ℕ)) (calls new : List Call) (call : Call)
    → new ≡ (if b then calls ++ call ∷ [] else calls) → reads (after_call call (trace_of_calls first calls)) ≡ reads
    (trace_of_calls first calls) → contents present ≡ reads (trace_of_calls first calls)
    → contents present ≡ reads (trace_of_calls first new)
reads-maybe true first present calls new call is quiet held = reads-push first present calls new call is quiet held
reads-maybe false first present calls new call is quiet held = held ∙ sym (ap (λ (cs : List Call). reads (trace_of_calls first cs)) is)
