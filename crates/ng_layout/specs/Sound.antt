-- What holds of each state that is read (own).
use Rattle.std.specs.Prelude.{◌≤◌, ℕ, IfSome}
use Rattle.ng_layout.specs.Limits.{greatest_count}
use Rattle.ng_layout.specs.Storable.{IsStorableModalState, IsStorableHalf}
use Rattle.ng_layout.specs.Stored.{DecodedStateModel}

-- it can be stored again, for a program of this length
pub record IsSound (length : ℕ) (decoded : DecodedStateModel) : Type 0 where
  pub entries : decoded.entries ≤ greatest_count
  pub place : decoded.place ≤ length
  pub modal : IsStorableModalState decoded.modal
  pub half : IfSome decoded.half IsStorableHalf
