use Rattle.std.proofs.Common.{◌∷◌, ◌++◌}
use Rattle.ng_commands.proofs.FirstBlankLemmas.{no_tool, refused_tool, tooled}
use Rattle.ng_commands.proofs.lengths.slot_and_length.Goals as goal

pub returns-in_err-digits : goal.returns-in_err-digits
returns-in_err-digits c = refused_tool _ _ c.from_residual.ensures (no_tool _ c.in_err-digits.ensures)

pub returns-in_err-slot : goal.returns-in_err-slot
returns-in_err-slot c =
    refused_tool _ _ c.from_residual-in_err-slot.ensures
    (λ slot nm writes. let are = tooled _ _ _ c.in_ok-digits.ensures.0 c.in_ok-digits.ensures.1 slot nm
    writes in c.in_err-slot.ensures slot are.0 are.1)

pub returns-in_err-length : goal.returns-in_err-length
returns-in_err-length c =
    refused_tool _ _ c.from_residual-in_err-length.ensures
    (λ slot nm writes. let are = tooled _ _ _ c.in_ok-digits.ensures.0 c.in_ok-digits.ensures.1 slot nm
    writes in c.in_err-length.ensures nm are.2)

pub returns : goal.returns
returns c = (
  c.in_ok-digits.digits.now,
  c.in_ok-digits.text.now,
  c.in_ok-digits.ensures.0,
  c.in_ok-slot.ensures.0,
  c.in_ok-slot.ensures.1,
  c.in_ok-length.ensures,
)
