-- What C has at a pointer.
use base.Fraction.{full_share}
use base.Fml.{Fml, fex}
use denote.RattleType.{RattleType}
use denote.RawPtr.{Ptr, lies_at}
use Rattle.ng_pace_c.specs.contracts.calls.Handle.{the_row}

abbrev pub handle_row : RattleType
handle_row = the_row

-- a value of a type lies at a pointer, and is such
abbrev pub lies_such : (R : RattleType) → Ptr → (R.Denot → Type 0) → Fml
lies_such R p P = fex R.Denot (λ x. fex (P x) (λ _. lies_at R full_share p x))
