-- A loss of power leaves a stop.
use Rattle.std.proofs.Common.{◌⊎◌, inl, inr, ℕ, ◌<◌, ◌≤◌, List, [], refl, sym, subst, get_or, Option, arith}
use Rattle.ng_rig.specs.Trace.{Image, Trace, MayHold, moment, trace_at, items, IsStop}
use Rattle.ng_file.specs.Promise.{Promise, IsLeft}
use Rattle.ng_file.specs.Sectors.{HaveStops, IsFaithful}

side : (a b : ℕ) → (a < b) ⊎ (b ≤ a)
side a b = grind arith

-- each sector of the image is one that a stop may leave
is_stop : (count : ℕ) (promise : Promise) (trace : Trace) (image : Image) → IsLeft count promise image
    → ((n : ℕ) (c : List ℕ) → n < count → promise.may_hold n c → MayHold trace n c) → ((n : ℕ) → count ≤ n → MayHold trace n [])
    → IsStop trace image (items trace)
is_stop count promise trace image left stops past = (each, refl)
  where
    each : (n : ℕ) → MayHold trace n (image n)
    each n = elim (side n count) [
      | inl within ↦ stops n (image n) within (left.within n within)
      | inr outside ↦ subst (MayHold trace n) (sym (left.past n outside)) (past n outside)
    ]

pub stop-now : {count : ℕ} {trace : Trace} (bytes : Option (List ℕ)) (promise : Promise) (image : Image) → IsFaithful count bytes promise trace
    → IsLeft count promise image → IsStop trace image (items trace)
stop-now {count} {trace} bytes promise image f left = is_stop count promise trace image left f.stops f.past

pub stop-at : {S : Type 0} {count : ℕ} {promise : S → Promise} {files : List S} {trace : Trace} (t : ℕ) (other : S) (image : Image) → HaveStops count promise files trace
    → t ≤ moment trace → IsLeft count (promise (get_or files t other)) image → IsStop (trace_at t trace) image (items (trace_at t trace))
stop-at {count = count} {promise} {files} {trace} t other image before until left =
    is_stop count (promise (get_or files t other)) (trace_at t trace) image left
    (λ n c within may. before.stops t other (omega (arith, until, before.clock)) n c within may) (λ n outside. before.past t n outside)
