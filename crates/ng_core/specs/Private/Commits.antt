-- Entries that are committed, not loaded (own).
use Rattle.std.specs.Prelude.{◌≡◌}
use Rattle.ng_layout.specs.Stored.{StoredModel}
use Rattle.ng_journal.specs.Storing.{Commit}
use Rattle.ng_session.specs.Entries.{Entry}
use Rattle.ng_core.specs.Causes.{with_entry}

abbrev pub IsCommitted : Entry → Type 0
IsCommitted entry = (saved : StoredModel) → with_entry saved entry ≡ Commit saved
