use Rattle.std.proofs.Common.{◌≡◌, ◌<◌, Result, Err, arith, inl, inr, refl, rules}
use Rattle.ng_pace.specs.Axes.{AccelerateTooLittle, AccelerateTooMuch, AreLimits, GoTooFast}
use Rattle.ng_pace.specs.Due.{IsNoPercent}
use Rattle.ng_pace.specs.declared.fault.PaceFault.{PaceFault}
use Rattle.ng_pace.specs.declared.fault.PaceFault.TheVariants.{StartTooSmall, NoAcceleration, AccelerationTooGreat}
use Rattle.ng_pace.specs.declared.fault.PaceFault.TheVariants.{RateTooGreat, NoCorner, NoSlack, SlackTooGreat}
use Rattle.ng_pace.specs.declared.fault.PaceFault.TheVariants.{NoPercent, NoCapacity, OutOfMemory}
use Rattle.ng_pace.specs.declared.limits.Limits.{Limits}
use Rattle.ng_schedule.specs.declared.ending.ScheduleFault.TheVariants.{Memory}
use Rattle.ng_schedule.proofs.giving.Schedule.new.Goals as goal

-- limits that can be met are refused for want of memory alone
module _ (limits : Limits) (met : AreLimits limits) where
  little : AccelerateTooLittle limits → ⊥
  little some = elim some [
    | inl x ↦ omega (arith, met.accel.x, x)
    | inr other ↦ elim other [ inl y ↦ omega (arith, met.accel.y, y) | inr z ↦ omega (arith, met.accel.z, z) ]
  ]

  much : AccelerateTooMuch limits → ⊥
  much h = elim h.much [
    | inl x ↦ omega (arith, met.accel_at_most.x, x)
    | inr other ↦ elim other [
      | inl y ↦ omega (arith, met.accel_at_most.y, y)
      | inr z ↦ omega (arith, met.accel_at_most.z, z)
    ]
  ]

  fast : GoTooFast limits → ⊥
  fast h = elim h.fast [
    | inl x ↦ omega (arith, met.rate_at_most.x, x)
    | inr other ↦ elim other [
      | inl y ↦ omega (arith, met.rate_at_most.y, y)
      | inr z ↦ omega (arith, met.rate_at_most.z, z)
    ]
  ]

  no_percent : IsNoPercent limits.most_percent → ⊥
  no_percent none = elim none [ inl low ↦ omega (arith, met.percent.0, low) | inr high ↦ omega (arith, met.percent.1, high) ]

  refused_for_memory : {S : Type 0} (r : Result S PaceFault) (fault : PaceFault) → r ≡ Err fault
      → ((r ≡ Err NoAcceleration) → AccelerateTooLittle limits)
      → ((r ≡ Err AccelerationTooGreat) → AccelerateTooMuch limits)
      → ((r ≡ Err RateTooGreat) → GoTooFast limits)
      → ((r ≡ Err NoCorner) → limits.half ≡ 0)
      → ((r ≡ Err NoSlack) → limits.slack ≡ 0)
      → ((r ≡ Err SlackTooGreat) → 1000 < limits.slack)
      → ((r ≡ Err NoPercent) → IsNoPercent limits.most_percent)
      → ((r ≡ Err NoCapacity) → ⊥)
      → ((r ≡ Err StartTooSmall) → ⊥)
      → fault ≡ OutOfMemory
  refused_for_memory r NoAcceleration is a b d e f g h i j = absurd (little (a is))
  refused_for_memory r AccelerationTooGreat is a b d e f g h i j = absurd (much (b is))
  refused_for_memory r RateTooGreat is a b d e f g h i j = absurd (fast (d is))
  refused_for_memory r NoCorner is a b d e f g h i j = absurd (omega (arith, met.half, e is))
  refused_for_memory r NoSlack is a b d e f g h i j = absurd (omega (arith, met.slack, f is))
  refused_for_memory r SlackTooGreat is a b d e f g h i j = absurd (omega (arith, met.slack_at_most, g is))
  refused_for_memory r NoPercent is a b d e f g h i j = absurd (no_percent (h is))
  refused_for_memory r NoCapacity is a b d e f g h i j = absurd (i is)
  refused_for_memory r StartTooSmall is a b d e f g h i j = absurd (j is)
  refused_for_memory r OutOfMemory is a b d e f g h i j = refl

pub new-requires : goal.new-requires
new-requires g c κs = grind arith

pub returns-in-Err-clause-empty : goal.returns-in-Err-clause-empty
returns-in-Err-clause-empty g c = omega arith

pub returns-in-Err-clause-text : goal.returns-in-Err-clause-text
returns-in-Err-clause-text g c = omega arith

pub returns-in-Err-clause-shown : goal.returns-in-Err-clause-shown
returns-in-Err-clause-shown g c = omega arith

pub returns-in-Err-clause-due : goal.returns-in-Err-clause-due
returns-in-Err-clause-due g c = omega arith

pub returns-in-Err-clause-number : goal.returns-in-Err-clause-number
returns-in-Err-clause-number g c = omega arith

pub returns-in-Err-clause-limits : goal.returns-in-Err-clause-limits
returns-in-Err-clause-limits g c met is =
    let h = c.new.ensures in
    let memory : c.in-Err.fault ≡ OutOfMemory = refused_for_memory c.args.limits met c.new.result c.in-Err.fault c.in-Err.is
    h.no_acceleration.0 h.acceleration_too_great.0 h.rate_too_great.0 (λ e. (h.no_corner.0 e).1) (λ e. (h.no_slack.0 e).2)
    (λ e. (h.slack_too_great.0 e).2) (λ e. (h.no_percent.0 e).4) (λ e. absurd (cc (h.no_capacity.0 e).1)) h.no_other in
    let told : c.fault_of.result ≡ Memory = c.fault_of.ensures memory in
    cc

pub with_capacity-requires : goal.with_capacity-requires
with_capacity-requires g c κs = search rules

pub drop-stream-inside-requires : goal.drop-stream-inside-requires
drop-stream-inside-requires g c κs = search rules

pub returns-in-Ok-with_capacity-clause-empty : goal.returns-in-Ok-with_capacity-clause-empty
returns-in-Ok-with_capacity-clause-empty g c = grind arith

pub returns-in-Ok-with_capacity-clause-text : goal.returns-in-Ok-with_capacity-clause-text
returns-in-Ok-with_capacity-clause-text g c = grind arith

pub returns-in-Ok-with_capacity-clause-shown : goal.returns-in-Ok-with_capacity-clause-shown
returns-in-Ok-with_capacity-clause-shown g c = grind arith

pub returns-in-Ok-with_capacity-clause-due : goal.returns-in-Ok-with_capacity-clause-due
returns-in-Ok-with_capacity-clause-due g c = omega arith

pub returns-in-Ok-with_capacity-clause-number : goal.returns-in-Ok-with_capacity-clause-number
returns-in-Ok-with_capacity-clause-number g c = omega arith

pub returns-in-Err-with_capacity-clause-empty : goal.returns-in-Err-with_capacity-clause-empty
returns-in-Err-with_capacity-clause-empty g c = omega arith

pub returns-in-Err-with_capacity-clause-text : goal.returns-in-Err-with_capacity-clause-text
returns-in-Err-with_capacity-clause-text g c = omega arith

pub returns-in-Err-with_capacity-clause-shown : goal.returns-in-Err-with_capacity-clause-shown
returns-in-Err-with_capacity-clause-shown g c = omega arith

pub returns-in-Err-with_capacity-clause-due : goal.returns-in-Err-with_capacity-clause-due
returns-in-Err-with_capacity-clause-due g c = omega arith

pub returns-in-Err-with_capacity-clause-number : goal.returns-in-Err-with_capacity-clause-number
returns-in-Err-with_capacity-clause-number g c = omega arith
