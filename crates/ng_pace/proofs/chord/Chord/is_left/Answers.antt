use Rattle.std.proofs.Common.{arith, ◌∷◌, [], sym, ◌∙◌}
use Rattle.std.proofs.lemmas.List.{map-append, length-map}
use Rattle.ng_pace.specs.Legs.{step_of, steps_along}
use Rattle.ng_pace.proofs.chord.Chord.is_left.Goals as goal
use Rattle.ng_pace.proofs.chord.Chord.is_left.Goals.{then-is_left, else-is_left}

pub returns-then-is_left-2-clause-leaves : goal.returns-then-is_left-2-clause-leaves
returns-then-is_left-2-clause-leaves c = λ slack pulses cones count leaves chord. elim c.if-is_left.branch [
  | then-is_left w ↦
      c.is_left.ensures.leaves slack (steps_along 0 pulses) (cones.x _) (omega (arith, length-map pulses (step_of 0), count)) (omega (arith, count, chord.1))
      w.if-is_left.true
      (rw (map-append (step_of 0) pulses (c.args.pulse.now ∷ [])) at chord.0.x)
  | else-is_left w ↦
      w.is_left-else-is_left.ensures.leaves slack (steps_along 1 pulses) (cones.y _) (omega (arith, length-map pulses (step_of 1), count))
      (omega (arith, count, chord.1)) (sym w.value-is ∙ leaves)
      (rw (map-append (step_of 1) pulses (c.args.pulse.now ∷ [])) at chord.0.y)
]

pub returns-else-is_left-2-clause-leaves : goal.returns-else-is_left-2-clause-leaves
returns-else-is_left-2-clause-leaves c = λ slack pulses cones count leaves chord.
    c.is_left-else-is_left-2.ensures.leaves slack (steps_along 2 pulses) (cones.z _) (omega (arith, length-map pulses (step_of 2), count))
    (omega (arith, count, chord.1)) leaves
    (rw (map-append (step_of 2) pulses (c.args.pulse.now ∷ [])) at chord.0.z)
