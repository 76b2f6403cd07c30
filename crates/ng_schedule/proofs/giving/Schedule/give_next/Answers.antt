use Rattle.std.proofs.Common.{◌≡◌, ◌≤◌, ◌<◌, ◌+◌, ◌-◌, ◌^◌, arith, refl}
use Rattle.ng_schedule.proofs.ScheduleRunLemmas.{cut, cut_in_line, gives, long_enough, too_late}
use Rattle.ng_schedule.proofs.giving.Schedule.give_next.Goals as goal

pub returns-then-over_ns-clause-step : goal.returns-then-over_ns-clause-step
returns-then-over_ns-clause-step g c ended limits start bytes partial here full =
    let h = c.in-Some.ensures.given in
    let beyond : 2 ^ 64 - 1 ≤ c.args.self.now.due_ns + c.in-Some.given.ns = omega (arith, c.saturating_add-over_ns.ensures, c.if-over_ns.true) in
    too_late limits start _ bytes partial c.args.self.now _ c.in-Some.given here full h h.given_out.least beyond refl refl refl

pub returns-in-Ok-clause-step : goal.returns-in-Ok-clause-step
returns-in-Ok-clause-step g c ended limits start bytes partial here full =
    let h = c.in-Some.ensures.given in
    let fits : c.args.self.now.due_ns + c.in-Some.given.ns < 2 ^ 64 - 1 = omega (arith, c.saturating_add-over_ns.ensures, c.if-over_ns.false) in
    let sum : c.saturating_add-over_ns.result ≡ c.args.self.now.due_ns + c.in-Some.given.ns = omega (arith, c.saturating_add-over_ns.ensures, fits) in
    gives limits start _ _ bytes partial c.args.self.now _ c.in-Some.given here full h
    (long_enough c.args.self.now.stream.motion.percent c.in-Some.given.line.item c.args.self.now.due_ns
    c.in-Some.given.ns h.given_out.least fits) refl sum c.in-Some-checked_add.ensures.1 c.in-Ok.ensures.moves

pub returns-in-Err-clause-step : goal.returns-in-Err-clause-step
returns-in-Err-clause-step g c ended limits start bytes partial here full =
    let h = c.in-Some.ensures.given in
    let fits : c.args.self.now.due_ns + c.in-Some.given.ns < 2 ^ 64 - 1 = omega (arith, c.saturating_add-over_ns.ensures, c.if-over_ns.false) in (
      c.in-Err.ensures.limits,
      cut_in_line limits start _ _ bytes partial c.args.self.now (record c.args.self.now { stream = c.next.new.self }) c.in-Some.given here full h
          (long_enough c.args.self.now.stream.motion.percent c.in-Some.given.line.item c.args.self.now.due_ns
          c.in-Some.given.ns h.given_out.least fits) refl c.in-Err.ensures.moves,
    )

pub returns-in_default-checked_add-clause-step : goal.returns-in_default-checked_add-clause-step
returns-in_default-checked_add-clause-step g c ended limits start bytes partial here full =
    (λ is. cc, cut limits start _ bytes partial c.args.self.now c.args.self.now.shown refl here)
