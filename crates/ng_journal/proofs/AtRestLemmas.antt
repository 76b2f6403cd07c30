-- A device at rest, and an item handed out from there.
use Rattle.std.proofs.Common.{◌≡◌, ◌⊎◌, ℕ, List, [], ◌∷◌, ◌++◌, Result, Ok, Err, sym, ◌∙◌, ap, subst}
use Rattle.std.specs.Prelude.{OnOk}
use Rattle.ng_canon.specs.declared.item.Item.{Item}
use Rattle.ng_rig.specs.Trace.{Image, Trace, Handed, reads, items, moment, StopSince}
use Rattle.ng_rig.specs.Calls.{HandOutSpec}
use Rattle.ng_rig.specs.Continuation.{HasBesides}
use Rattle.ng_rig.proofs.ContinuationLemmas.{weaker, stop_now, one_image, hands}
use Rattle.ng_layout.specs.declared.header.Header.{Header}
use Rattle.ng_layout.specs.Stands.{in_force, stands, IsWritten}
use Rattle.ng_layout.specs.Stored.{DurableState}
use Rattle.ng_log.specs.declared.log_end.LogEnd.{LogEnd}
use Rattle.ng_log.specs.AtEnd.{EndsIn, IsAtEnd}
use Rattle.ng_log.proofs.LogEndLemmas.{ends-stand}
use Rattle.ng_journal.specs.declared.storing.Tip.{Tip}
use Rattle.ng_journal.specs.AtRest.{IsImageUnder}
use Rattle.ng_journal.specs.Journal.{JournalModel, IsDurablyAt, StandsFor, JournalHandOutSpec}
use Rattle.ng_journal.specs.Private.Records.{tip_of}
use Rattle.ng_journal.specs.Storing.{ledger_of}

stands_for : (trace : Trace) (header : Header) (standing : DurableState) (given : List Item) (image : Image)
    (handed : List Item) → IsImageUnder trace header standing → image ≡ reads trace → handed ≡ given
    → StandsFor standing given image handed
stands_for trace header standing given image handed at same is = record {
  state = ap stands same ∙ at.stands_for;
  modern = record { header = header; force = ap in_force same ∙ at.force; format = at.format };
  written = subst IsWritten (sym same) at.written;
  handed_is = is;
}

pub at_rest : {end : LogEnd} (trace : Trace) (header : Header) (standing : DurableState)
    → IsAtEnd trace header standing end → IsImageUnder trace header standing
at_rest {end = end} trace header standing at = record {
  synced = at.synced;
  force = at.image.force;
  format = at.image.format;
  stands_for = ends-stand (reads trace) header standing end at.image;
  written = at.image.written;
}

pub rests_alone : (trace : Trace) (header : Header) (standing : DurableState) (image : Image) (handed : List Item)
    → IsImageUnder trace header standing → StopSince trace (moment trace) image handed
    → StandsFor standing (items trace) image handed
rests_alone trace header standing image handed at since =
    let stop = stop_now trace image handed since in
    stands_for trace header standing (items trace) image handed at (one_image trace image handed at.synced stop) stop.1

pub alone : {end : LogEnd} (trace : Trace) (header : Header) (standing : DurableState) (image : Image)
    (handed : List Item) → IsAtEnd trace header standing end → StopSince trace (moment trace) image handed
    → StandsFor standing (items trace) image handed
alone trace header standing image handed at since = rests_alone trace header standing image handed (at_rest trace header standing at) since

given_by : {T E : Type 0} (result : Result T E) (item : Item) (old new : Trace) → HandOutSpec result item old new
    → OnOk result (items new ≡ items old ++ item ∷ [])
given_by (Ok v) item old new is = ap items is
given_by (Err e) item old new is = tt

-- Handing an item out changes nothing that is read.
pub handed_out : {R T E : Type 0} (result : Result T E) (journal before : JournalModel R) (standing : DurableState)
    (item : Item) (old new : Trace) → tip_of (ledger_of journal) ≡ tip_of (ledger_of before)
    → journal.saved ≡ before.saved → IsDurablyAt old before standing → HandOutSpec result item old new
    → JournalHandOutSpec result journal standing item old new
handed_out result journal before standing item old new same saved_is rest is =
    let h = hands result item old new rest.at.synced is in
    record {
      stops = weaker old new (HasBesides old item) (StandsFor standing (items old ++ item ∷ [])) h.stops
          (λ image handed p. stands_for old before.header standing (items old ++ item ∷ []) image handed
          (at_rest old before.header standing rest.at) p.image_is p.handed_is);
      items_are = h.items_are;
      given = given_by result item old new is;
      at = record {
        at = subst (λ (t : Tip). IsAtEnd new t.header standing t.end) (sym same) (record {
          synced = h.synced;
          image = subst (λ (image : Image). EndsIn image before.header standing before.end) (sym h.reads_are) rest.at.image;
        });
        saved_is = rest.saved_is ∙ sym saved_is;
      };
    }

-- if that failed, the item or nothing was handed out
pub perhaps_handed : {R T F : Type 0} (f : F) (journal before : JournalModel R) (standing : DurableState)
    (item : Item) (old new : Trace) → tip_of (ledger_of journal) ≡ tip_of (ledger_of before)
    → journal.saved ≡ before.saved → IsDurablyAt old before standing → (new ≡ old) ⊎ (new ≡ Handed item old)
    → JournalHandOutSpec {T = T} (Err f) journal standing item old new
perhaps_handed f journal before standing item old new same saved_is rest is =
    let err : Result ℕ ℕ = Err 0 in
    let out = handed_out err journal before standing item old new same saved_is rest is in
    record { stops = out.stops; items_are = out.items_are; given = tt; at = out.at }
