use Rattle.std.specs.Prelude.{Some}
use Rattle.ng_desk_tests.proofs.memory.came_of.Given as goal

abbrev pub ghosts-call_once-O-Ledger : goal.ghosts-call_once-O-Ledger
ghosts-call_once-O-Ledger g a = record { name = a.blank.name; parts = a.blank.parts }

abbrev pub ghosts-call_once-O-Origin : goal.ghosts-call_once-O-Origin
ghosts-call_once-O-Origin g a = record { start = Some a.controller }
