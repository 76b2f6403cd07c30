use Rattle.std.proofs.Common.{drop, ◌∙◌, ap, arith, length-drop}
use Rattle.std.proofs.lemmas.List.{take_all}
use Rattle.ng_layout.specs.Decoding.{decoded_state_of}
use Rattle.ng_layout.proofs.part.decoded_state_of_part.Goals as goal

pub returns-clause-value : goal.returns-clause-value
returns-clause-value c = c.decode.ensures.value
    ∙ ap (decoded_state_of c.args.length)
    (take_all 480 (drop 32 c.args.sector.now) (omega (arith, length-drop 32 c.args.sector.now, c.told-sector)))
