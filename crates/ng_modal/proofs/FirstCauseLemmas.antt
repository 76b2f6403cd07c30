-- The first fault whose cause holds: no cause before it holds.
use Rattle.std.proofs.Common.{◌≡◌, ℕ, List, refl}
use Rattle.std.specs.Prelude.{Result, Ok, Err, MatchResult}
use Rattle.ng_num.specs.declared.fault.Fault.{Fault}
use Rattle.ng_expr.specs.declared.word.Word.{Word}
use Rattle.ng_modal.specs.BlockOfWords.{block_of}
use Rattle.ng_num.specs.Causes.{first_fault, NoneHolds, IsFirstFault}
use Rattle.ng_num.proofs.FirstFaultLemmas.{first_of}
use Rattle.ng_modal.specs.Checking.{faults, checked}
use Rattle.ng_modal.specs.declared.block.Block.{Block}
use Rattle.ng_state.specs.declared.modes.Modes.{Modes}

pub least : (ws : List Word) (m : Modes) (slots : ℕ) (r : Result Block Fault) → checked ws m slots ≡ r →
    MatchResult r (λ _. NoneHolds (faults ws m slots)) (λ fault. IsFirstFault (faults ws m slots) fault)
least ws m slots r e =
    rw (← e) (first_of (faults ws m slots) (block_of ws m) (first_fault (faults ws m slots)) refl)

-- the first fault, for an answer whose block is stored elsewhere
pub least_by : (ws : List Word) (m : Modes) (slots : ℕ) (b : Block) (r : Result (Unit {0}) Fault) →
    MatchResult r (λ _. checked ws m slots ≡ Ok b) (λ fault. checked ws m slots ≡ Err fault) →
    MatchResult r (λ _. NoneHolds (faults ws m slots)) (λ fault. IsFirstFault (faults ws m slots) fault)
least_by ws m slots b (Ok _) e = least ws m slots (Ok b) e
least_by ws m slots b (Err fault) e = least ws m slots (Err fault) e
