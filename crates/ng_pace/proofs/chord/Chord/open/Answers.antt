use Rattle.ng_pace.proofs.chord.Chord.open.Goals as goal

pub returns-clause-cones : goal.returns-clause-cones
returns-clause-cones c = λ slack. record { x = λ d. c.new.ensures slack; y = λ d. c.new-2.ensures slack; z = λ d. c.new-3.ensures slack }
