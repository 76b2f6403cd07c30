use Rattle.std.proofs.Common.{arith, ◌≡◌, ◌+◌, ◌*◌, ◌<◌, ◌∷◌, [], length}
use Rattle.std.proofs.lemmas.List.{map-append, length-map}
use Rattle.ng_pace.specs.Legs.{step_of, steps_along}
use Rattle.ng_pace.proofs.chord.Chord.take.Goals as goal

pub returns-clause-takes : goal.returns-clause-takes
returns-clause-takes c = λ pulses cones count short.
    let next : c.saturating_add-pulses.result ≡ length pulses + 1 = omega (arith, c.saturating_add-pulses.ensures, count, short) in
    let fits : 2 * c.saturating_add-pulses.result + c.args.limits.now.slack < 4294967296 = omega (arith, next, short, c.requires.slack_at_most) in
    let x : length (steps_along 0 pulses) + 1 ≡ c.saturating_add-pulses.result = omega (arith, length-map pulses (step_of 0), next) in
    let y : length (steps_along 1 pulses) + 1 ≡ c.saturating_add-pulses.result = omega (arith, length-map pulses (step_of 1), next) in
    let z : length (steps_along 2 pulses) + 1 ≡ c.saturating_add-pulses.result = omega (arith, length-map pulses (step_of 2), next) in (
      record {
        x = λ d. rw (map-append (step_of 0) pulses (c.args.pulse.now ∷ [])) (c.after.ensures (steps_along 0 pulses) (cones.x _) x fits);
        y = λ d. rw (map-append (step_of 1) pulses (c.args.pulse.now ∷ [])) (c.after-2.ensures (steps_along 1 pulses) (cones.y _) y fits);
        z = λ d. rw (map-append (step_of 2) pulses (c.args.pulse.now ∷ [])) (c.after-3.ensures (steps_along 2 pulses) (cones.z _) z fits);
      },
      next,
    )
