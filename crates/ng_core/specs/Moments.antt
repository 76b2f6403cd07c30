-- Stops at the moments of a device's trace, and how many events were answered by then (own).
use Rattle.std.specs.Prelude.{◌≡◌, ◌≤◌, ℕ, suc, List, [], ◌∷◌, if◌then◌else◌, nat_lt}
use Rattle.ng_canon.specs.declared.item.Item.{Item}
use Rattle.ng_rig.specs.Trace.{Image, Trace, moment, trace_at, IsStop}

-- The new trace continues the old one; and this holds of each stop from the old one's last moment until now, with its
-- moment.
pub record AtEachStop (old new : Trace) (Said : ℕ → Image → List Item → Type 0) : Type 0 where
  pub was : trace_at (moment old) new ≡ old
  pub each : (t : ℕ) (image : ℕ → List ℕ) (handed : List Item) → moment old ≤ t → t ≤ moment new → IsStop (trace_at t new) image handed → Said t image handed

-- rising moments, from one to another
abbrev pub IsRising : ℕ → ℕ → List ℕ → Type 0
IsRising first last [] = first ≤ last
IsRising first last (t ∷ ts) = (first ≤ t) × IsRising t last ts

-- how many events were answered by the moment t, given the moments at which they were answered
abbrev pub answered_by : ℕ → List ℕ → ℕ
answered_by t [] = 0
answered_by t (answered ∷ more) = if nat_lt t answered then answered_by t more else suc (answered_by t more)
