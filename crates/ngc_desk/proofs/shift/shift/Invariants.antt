use Rattle.std.specs.Prelude.{Some}
use Rattle.ngc_desk.proofs.shift.shift.Given as goal

abbrev pub ghosts-shift_at-O-Ledger : goal.ghosts-shift_at-O-Ledger
ghosts-shift_at-O-Ledger g a = record { name = a.blank.name; parts = a.blank.parts }

abbrev pub ghosts-shift_at-O-Origin : goal.ghosts-shift_at-O-Origin
ghosts-shift_at-O-Origin g a = record { start = Some a.controller }
