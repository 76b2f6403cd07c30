-- What each call of C promises of the handle at its pointer, before and after it.
use Rattle.std.specs.Prelude.{ℕ, ◌+◌, ◌*◌, ◌<◌, ◌≤◌, ◌≡◌, ◌↔◌, min, Bool, None, IsTrue, IsFalse, IfSome, IsSomeAnd, [], length, nat_le}
use Rattle.ng_pace.specs.declared.limits.Limits.{Limits}
use Rattle.ng_pace.specs.declared.stepping.Given.{Given}
use Rattle.ng_pace.specs.Axes.{AccelerateTooLittle, AccelerateTooMuch, AreLimits, GoTooFast, HaveAxes}
use Rattle.ng_pace.specs.Due.{IsNoPercent}
use Rattle.ng_pace.specs.Stream.{Flow}
use Rattle.ng_pace.specs.Calls.{IsEmpty, IsEnded, IsFlowGiven, IsPut}
use Rattle.ng_pace.specs.Paced.{Waits}
use Rattle.ng_pace.specs.Wanted.{wanted_at}
use Rattle.ng_pace_c.specs.declared.shapes.PaceGiven.{PaceGiven}
use Rattle.ng_pace_c.specs.declared.shapes.PaceLine.{PaceLine}
use Rattle.ng_pace_c.specs.declared.calls.Handle.{Handle}
use Rattle.ng_pace_c.specs.Shapes.{item_of}

-- a stream is begun, in the place of the one before, and the answer is 0; or there is none, and the answer says why. It is
-- 9 where memory refuses
pub record IsBegun (after : Handle) (limits : Limits) (capacity answer : ℕ) : Type 0 where
  pub made : answer ≡ 0 → IsSomeAnd after.stream (λ s. IsEmpty s limits capacity)
  pub none : 0 < answer → after.stream ≡ None
  pub no_acceleration : (answer ≡ 1) ↔ AccelerateTooLittle limits
  pub acceleration_too_great : (answer ≡ 2) ↔ AccelerateTooMuch limits
  pub rate_too_great : (answer ≡ 3) ↔ GoTooFast limits
  pub no_corner : (answer ≡ 4) ↔ (HaveAxes limits × (limits.half ≡ 0))
  pub no_slack : (answer ≡ 5) ↔ (HaveAxes limits × (0 < limits.half) × (limits.slack ≡ 0))
  pub slack_too_great : (answer ≡ 6) ↔ (HaveAxes limits × (0 < limits.half) × (1000 < limits.slack))
  pub no_percent : (answer ≡ 7) ↔ (HaveAxes limits × (0 < limits.half) × (0 < limits.slack) × (limits.slack ≤ 1000) × IsNoPercent limits.most_percent)
  pub no_capacity : (answer ≡ 8) ↔ (AreLimits limits × (capacity ≡ 0))
  pub no_other : answer ≤ 9

-- it is said whether there is no room for a line; where there is no stream, there is none
pub record IsFullSaid (before after : Handle) (answer : Bool) : Type 0 where
  pub full : IfSome before.stream (λ s. answer ≡ nat_le s.motion.capacity (length s.motion.known + length s.waiting))
  pub known : IfSome before.stream (λ s. IsTrue answer → 5 * s.limits.half + 15 ≤ s.motion.capacity → 0 < length s.motion.known)
  pub none : before.stream ≡ None → IsTrue answer
  pub same : after ≡ before

-- a line is taken, after all that are known; or there is no room for it, and nothing is changed
pub record IsPutOrFull (before after : Handle) (line : PaceLine) (answer : Bool) : Type 0 where
  pub put : IsTrue answer → IsSomeAnd before.stream (λ s. IsSomeAnd after.stream (λ t. IsPut s t (item_of line)))
  pub full : IsFalse answer → IfSome before.stream (λ s. s.motion.capacity ≤ length s.motion.known + length s.waiting)
  pub same : IsFalse answer → after ≡ before

-- nothing more is known to come
pub record IsEnd (before after : Handle) : Type 0 where
  pub ended : IfSome before.stream (λ s. IsSomeAnd after.stream (λ t. IsEnded s t))
  pub none : before.stream ≡ None → after.stream ≡ None

-- a line is given out, and of it are told its time, by how much its square may change either way, and whether everything stands still after it
pub record IsTold (old new : Flow) (wanted : ℕ) (told : PaceGiven) : Type 0 where
  pub given : Given
  pub is_given : IsFlowGiven old new wanted given
  pub ns : told.ns ≡ given.ns
  pub ramp : told.ramp ≡ min given.line.ramp.up given.line.ramp.down
  pub rests : IsTrue told.is_at_rest → new.motion.square ≡ 0
  pub goes : IsFalse told.is_at_rest → 0 < new.motion.square

-- the next line is given out; or none is, and nothing is changed
pub record IsAnswered (before after : Handle) (wanted : ℕ) (answer : PaceGiven) : Type 0 where
  pub given : IsTrue answer.is_given → IsSomeAnd before.stream (λ s. IsSomeAnd after.stream (λ t. IsTold s t wanted answer))
  pub waits : IsFalse answer.is_given → IfSome before.stream (λ s. Waits s.motion wanted)
  pub same : IsFalse answer.is_given → after ≡ before

-- the square that is wanted at so many percent is said
pub record IsWanted (before after : Handle) (percent answer : ℕ) : Type 0 where
  pub wanted : IfSome before.stream (λ s. answer ≡ wanted_at s.limits.most_percent percent s.motion.known)
  pub same : after ≡ before

-- it is said whether a line can be given out; where there is no stream, none can
pub record IsReadySaid (before after : Handle) (answer : Bool) : Type 0 where
  pub ready : IsTrue answer → IsSomeAnd before.stream (λ s. 0 < length s.motion.known)
  pub none : IsFalse answer → IfSome before.stream (λ s. s.motion.known ≡ [])
  pub same : after ≡ before
