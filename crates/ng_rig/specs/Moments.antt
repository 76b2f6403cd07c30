-- Stops at the moments of a trace (own).
use Rattle.std.specs.Prelude.{◌≤◌, ℕ, List}
use Rattle.ng_canon.specs.declared.item.Item.{Item}
use Rattle.ng_rig.specs.Trace.{Image, Trace, moment, trace_at, IsStop}

-- a stop at some moment from t until now
pub record StopsBetween (trace : Trace) (t : ℕ) (image : Image) (handed : List Item) : Type 0 where
  pub at : ℕ
  pub from : t ≤ at
  pub until : at ≤ moment trace
  pub stop : IsStop (trace_at at trace) image handed
