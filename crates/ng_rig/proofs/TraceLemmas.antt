-- A trace in terms of its calls: one more call, some of them, and the trace at a moment.
use Rattle.std.proofs.Common.{◌≡◌, ◌⊎◌, inl, inr, ℕ, zero, suc, ◌+◌, ◌-◌, ◌<◌, ◌≤◌, List, [], ◌∷◌, ◌++◌, length}
use Rattle.std.proofs.Common.{take, drop, get_or, nat_lt, if◌then◌else◌, refl, sym, ◌∙◌, ap, arith}
use Rattle.std.proofs.lemmas.Bool.Decides.{nat_tests}
use Rattle.std.proofs.lemmas.List.{take_more, take-append-drop}
use Rattle.ng_rig.specs.Trace.{Trace, Began, Wrote, Synced, Handed, moment, trace_at}
use Rattle.ng_rig.specs.RecordedCalls.{after_call, trace_after, trace_of_calls, contents}
use Rattle.ng_rig.specs.declared.call.Call.{Call}
use Rattle.ng_rig.specs.declared.call.Call.TheVariants.{Write, Sync, Hand}

pub trace_after-append : (trace : Trace) (xs ys : List Call) → trace_after trace (xs ++ ys) ≡ trace_after (trace_after trace xs) ys
trace_after-append trace [] ys = refl
trace_after-append trace (x ∷ xs) ys = trace_after-append (after_call x trace) xs ys

pub trace_of_calls-push : (sectors : List (List ℕ)) (calls : List Call) (call : Call)
    → trace_of_calls sectors (calls ++ call ∷ []) ≡ after_call call (trace_of_calls sectors calls)
trace_of_calls-push sectors calls call = trace_after-append (Began (contents sectors)) calls (call ∷ [])

pub trace_of_calls-next : (sectors : List (List ℕ)) (calls : List Call) (i : ℕ) (d call : Call) → i < length calls
    → get_or calls i d ≡ call → trace_of_calls sectors (take (i + 1) calls) ≡ after_call call
    (trace_of_calls sectors (take i calls))
trace_of_calls-next sectors calls i d call h is =
    ap (λ (cs : List Call). trace_of_calls sectors cs) (take_more calls i d h)
    ∙ trace_of_calls-push sectors (take i calls) (get_or calls i d)
    ∙ ap (λ (k : Call). after_call k (trace_of_calls sectors (take i calls))) is

-- the calls up to one of them, and those after it
pub trace_of_calls-split : (sectors : List (List ℕ)) (calls : List Call) (i : ℕ)
    → trace_of_calls sectors calls ≡ trace_after (trace_of_calls sectors (take i calls)) (drop i calls)
trace_of_calls-split sectors calls i =
    ap (λ (cs : List Call). trace_of_calls sectors cs) (sym (take-append-drop i calls))
    ∙ trace_after-append (Began (contents sectors)) (take i calls) (drop i calls)

pub moment-after_call : (call : Call) (trace : Trace) → moment (after_call call trace) ≡ moment trace + 1
moment-after_call (Write n bytes) trace = refl
moment-after_call Sync trace = refl
moment-after_call (Hand item) trace = refl

pub moment-trace_after : (trace : Trace) (calls : List Call) → moment (trace_after trace calls) ≡ moment trace + length calls
moment-trace_after trace [] = omega arith
moment-trace_after trace (call ∷ calls) = omega (arith, moment-trace_after (after_call call trace) calls, moment-after_call call trace)

pub moment-trace_of_calls : (sectors : List (List ℕ)) (calls : List Call) → moment (trace_of_calls sectors calls) ≡ length calls
moment-trace_of_calls sectors calls = omega (arith, moment-trace_after (Began (contents sectors)) calls)

same_choice : (t m : ℕ) (new old : Trace) → t ≤ m → (if nat_lt m t then new else old) ≡ old
same_choice t m new old le = grind (arith, nat_tests)

new_choice : (t m : ℕ) (new old : Trace) → m < t → (if nat_lt m t then new else old) ≡ new
new_choice t m new old lt = grind (arith, nat_tests)

-- a call after the moment isn't seen
trace_at-after_call : (t : ℕ) (call : Call) (trace : Trace) → t ≤ moment trace → trace_at t (after_call call trace) ≡ trace_at t trace
trace_at-after_call t (Write n bytes) trace le = same_choice t (moment trace) (Wrote n bytes trace) (trace_at t trace) le
trace_at-after_call t Sync trace le = same_choice t (moment trace) (Synced trace) (trace_at t trace) le
trace_at-after_call t (Hand item) trace le = same_choice t (moment trace) (Handed item trace) (trace_at t trace) le

-- at a moment that hasn't come before the last call, the trace is as it is
trace_at-later : (t : ℕ) (call : Call) (trace : Trace) → moment trace < t → trace_at t (after_call call trace) ≡ after_call call trace
trace_at-later t (Write n bytes) trace lt = new_choice t (moment trace) (Wrote n bytes trace) (trace_at t trace) lt
trace_at-later t Sync trace lt = new_choice t (moment trace) (Synced trace) (trace_at t trace) lt
trace_at-later t (Hand item) trace lt = new_choice t (moment trace) (Handed item trace) (trace_at t trace) lt

trace_at-trace_before : (t : ℕ) (trace : Trace) (calls : List Call) → t ≤ moment trace → trace_at t (trace_after trace calls) ≡ trace_at t trace
trace_at-trace_before t trace [] le = refl
trace_at-trace_before t trace (call ∷ calls) le =
    trace_at-trace_before t (after_call call trace) calls (omega (arith, le, moment-after_call call trace)) ∙ trace_at-after_call t call trace le

≤_cases : (a b : ℕ) → (a ≤ b) ⊎ (b < a)
≤_cases a b = grind arith

take-nil : (n : ℕ) → take n [] ≡ (let none : List Call = [] in none)
take-nil zero = refl
take-nil (suc n) = refl

trace_at-trace_after : (t : ℕ) (trace : Trace) (calls : List Call) → moment trace ≤ t → trace_at t trace ≡ trace
    → trace_at t (trace_after trace calls) ≡ trace_after trace (take (t - moment trace) calls)
trace_at-trace_after t trace [] le here = here ∙ ap (λ (cs : List Call). trace_after trace cs) (sym (take-nil (t - moment trace)))
trace_at-trace_after t trace (call ∷ calls) le here = elim (≤_cases t (moment trace)) [
  | inl early ↦
      let none : 0 ≡ t - moment trace = omega arith in
      trace_at-trace_before t trace (call ∷ calls) early ∙ here ∙ ap (λ (k : ℕ). trace_after trace (take k (call ∷ calls))) none
  | inr late ↦
      let step = moment-after_call call trace in
      let one : suc (t - moment (after_call call trace)) ≡ t - moment trace = omega arith in
      trace_at-trace_after t (after_call call trace) calls (omega arith) (trace_at-later t call trace late)
      ∙ ap (λ (k : ℕ). trace_after trace (take k (call ∷ calls))) one
]

-- the trace at a moment is the trace of the calls before it
pub trace_at-trace_of_calls : (t : ℕ) (sectors : List (List ℕ)) (calls : List Call)
    → trace_at t (trace_of_calls sectors calls) ≡ trace_of_calls sectors (take t calls)
trace_at-trace_of_calls t sectors calls =
    let all : t - 0 ≡ t = omega arith in
    trace_at-trace_after t (Began (contents sectors)) calls (omega arith) refl ∙ ap (λ (k : ℕ). trace_of_calls sectors (take k calls)) all
