use Rattle.std.proofs.Common.{◌∙◌, ap, sym}
use Rattle.ng_state.specs.declared.modes.Motion.{Motion}
use Rattle.ng_state.specs.declared.modes.Modes.{Modes}
use Rattle.ng_block.proofs.ModeLemmas.{modes_after-same}
use Rattle.ng_block.proofs.after.put_modes_after.Goals as goal

pub returns-then-keeps_modes : goal.returns-then-keeps_modes
returns-then-keeps_modes c =
    ap (λ (motion : Motion). let modes : Modes = c.args.modes.now in record modes { motion = motion }) c.motion_after-place.ensures
    ∙ modes_after-same c.args.block.now c.args.modes.now (sym c.keeps_modes.ensures ∙ c.if-keeps_modes.true)
