use Rattle.std.specs.Prelude.{Some}
use Rattle.ng_desk_tests.proofs.callers.day_at_a_fresh_desk.Given as goal

abbrev pub ghosts-day-O-Ledger : goal.ghosts-day-O-Ledger
ghosts-day-O-Ledger g a = record { name = a.blank.name; parts = a.blank.parts }

abbrev pub ghosts-day-O-Origin : goal.ghosts-day-O-Origin
ghosts-day-O-Origin g a = record { start = Some a.controller }
