-- A line that does something isn't too long.
use Rattle.std.proofs.Common.{◌≡◌, inl, inr, ℕ, ◌<◌, ◌≤◌, List, length, Result, Ok, Err, MatchResult, OnOk}
use Rattle.std.proofs.lemmas.Bool.{cases_lt}
use Rattle.ng_num.specs.declared.fault.Fault.{Fault}
use Rattle.ng_num.specs.declared.fault.Fault.TheVariants.{LineTooLong}
use Rattle.ng_words.specs.declared.start.LineKind.{LineKind}
use Rattle.ng_block.specs.Program.{TermsModel, executed_unless_deleted, executed_after}
use Rattle.ng_block.specs.Effects.{Done}
use Rattle.ng_state.specs.State.{StateModel}
use Rattle.ng_block.proofs.LineLemmas.{executed_unless_deleted-long, executed_after-long}

short_by : {T : Type 0} (r : Result T Fault) (l : List ℕ) (does : Result Done Fault) (done : Done) → (256 < length l → does ≡ Err LineTooLong)
    → MatchResult r (λ x. does ≡ Ok done) (λ fault. does ≡ Err fault) → OnOk r (length l ≤ 256)
short_by (Ok x) l does done long h = elim (cases_lt 256 (length l)) [
  | inl more ↦ let refused = long more in cc
  | inr less ↦ less
]
short_by (Err fault) l does done long h = tt

-- a line by itself
pub alone_short : {T : Type 0} (r : Result T Fault) (t : TermsModel) (s : StateModel) (l : List ℕ) (done : Done)
    → MatchResult r (λ x. executed_unless_deleted t s l ≡ Ok done) (λ fault. executed_unless_deleted t s l ≡ Err fault) → OnOk r (length l ≤ 256)
alone_short r t s l done h = short_by r l _ done (executed_unless_deleted-long t s l) h

-- a line after others
pub after_short : {T : Type 0} (r : Result T Fault) (t : TermsModel) (first : LineKind) (s : StateModel) (l : List ℕ) (done : Done)
    → MatchResult r (λ x. executed_after t first s l ≡ Ok done) (λ fault. executed_after t first s l ≡ Err fault) → OnOk r (length l ≤ 256)
after_short r t first s l done h = short_by r l _ done (executed_after-long t first s l) h
