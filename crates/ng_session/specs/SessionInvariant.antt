-- The invariant of a session, and what it gives to be stored (own).
use Rattle.std.specs.Prelude.{◌≡◌, ◌≤◌, ◌+◌, Option, IfSome}
use Rattle.std.specs.Option.{ForSome}
use Rattle.ng_params.specs.Change.{with_changes}
use Rattle.ng_params.specs.Differences.{differences}
use Rattle.ng_layout.specs.Limits.{greatest_count}
use Rattle.ng_layout.specs.Storable.{IsStorable, IsStorableChange}
use Rattle.ng_layout.specs.Stored.{StoredModel}
use Rattle.ng_layout.specs.Update.{UpdateModel, updated}
use Rattle.ng_session.specs.BareBlock.{BareBlock, IsReady}

-- The update is that of one more entry, which can be stored: its changes are the differences that they make, each
-- parameter once.
pub record IsNextEntry (x : StoredModel) (update : UpdateModel) : Type 0 where
  pub count : update.decoded.entries ≡ x.entries + 1
  pub settled : update.changes ≡ differences x.setup.params (with_changes x.setup.params update.changes)
  pub slot : ForSome update.slot (IsStorableChange x.tools)
  pub storable : IsStorable (updated x update)

-- the state can be stored, and so can that after the current block
pub record IsSessionInvariant (x : StoredModel) (current : Option BareBlock) : Type 0 where
  pub count : x.entries ≤ greatest_count
  pub storable : IsStorable x
  pub ready : IfSome current (IsReady x)
