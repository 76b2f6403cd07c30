-- What writing a program's text leaves, and what a load leaves.
use Rattle.std.specs.Prelude.{◌≡◌, ℕ, List, Result, Ok, OnOk}
use Rattle.ng_rig.specs.Trace.{Trace, reads, items}
use Rattle.ng_rig.specs.Continuation.{IsContinuation}
use Rattle.ng_rig.specs.Only.{WritesOnly}
use Rattle.ng_layout.specs.declared.header.Header.{Header}
use Rattle.ng_layout.specs.Stands.{stands}
use Rattle.ng_layout.specs.Stored.{DurableState}
use Rattle.ng_log.specs.AtEnd.{no_records, IsAtEnd}
use Rattle.ng_journal.specs.AtRest.{IsEither, next_header}
use Rattle.ng_journal.specs.Loads.{BelongsToText, IsTextAt}

-- Only the text is written to a program area, each part in its place; after Ok all of it is there.
pub record WritesText {T E : Type 0} (result : Result T E) (area : ℕ) (text : List ℕ) (old new : Trace) : Type 0 where
  pub writes : WritesOnly (λ m bytes. BelongsToText text area m bytes) old new
  pub parts : OnOk result (IsTextAt area text (reads new))

-- Each stop since stands for the old state or for the new one with its program, and after Ok only for the latter; its
-- log has no record.
pub record LoadSpec {T E : Type 0} (result : Result T E) (area : ℕ) (header : Header) (loaded : DurableState) (old new : Trace) : Type 0 where
  pub stops : IsContinuation old new (IsEither (stands (reads old)) (Ok loaded) (items old))
  pub items_are : items new ≡ items old
  pub at : OnOk result (IsAtEnd new (next_header header area loaded.saved.length) loaded no_records)
