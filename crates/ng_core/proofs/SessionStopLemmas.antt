-- The sessions that the stops of a device leave, from the contracts of its calls.
use Rattle.std.proofs.Common.{◌≡◌, ◌≤◌, inl, inr, ⊎_elim, ℕ, ℤ, suc, List, [], ◌∷◌, ◌++◌, take, Ok, refl, sym, ◌∙◌, ap, subst, append_assoc, arith}
use Rattle.std.proofs.lemmas.List.{append-nil}
use Rattle.ng_canon.specs.declared.item.Item.{Item}
use Rattle.ng_rig.specs.Rig.{Device}
use Rattle.ng_rig.specs.Trace.{Image, Trace, reads, items, moment, IsStop}
use Rattle.ng_rig.specs.Continuation.{IsSynced}
use Rattle.ng_rig.proofs.ContinuationLemmas.{stop_now, one_image, may_hold-reads, trace_now}
use Rattle.ng_layout.specs.Stands.{stands_beside, recovered, IsWritten}
use Rattle.ng_layout.specs.Stored.{DurableState}
use Rattle.ng_layout.proofs.ImageLemmas.{modern-beside}
use Rattle.ng_journal.specs.Journal.{StandsBeside}
use Rattle.ng_journal.specs.Recovery.{IsEitherBeside, recovered_of}
use Rattle.ng_canon.specs.declared.geometry.Geometry.{Geometry}
use Rattle.ng_session.specs.Entries.{Entry}
use Rattle.ng_session.specs.Fold.{items_all}
use Rattle.ng_session.specs.Runs.{CrashState, session_at_power_on, entries_of, under_way, dones, lines_given}
use Rattle.ng_core.specs.Moments.{IsRising, answered_by}
use Rattle.ng_core.specs.Runs.{tried_events}
use Rattle.ng_core.specs.Headline.{IsAccounted}
use Rattle.ng_core.specs.Lives.{CutSession, IsSession, LeavesSession, LeavesSessionBy, SessionsWithinPowerOn, SessionsAfterPowerOn, SessionsAnew}
use Rattle.ng_core.proofs.MomentLemmas.{one_call, weaker_said}

-- ---- within power on

left_within : (geometry : Geometry) (tools : List ℤ) (x : DurableState) (old : Trace) (image : Image)
    (handed : List Item) → stands_beside tools (reads old) ≡ Ok x → IsWritten (reads old)
    → IsEitherBeside tools (stands_beside tools (reads old)) (recovered_of (stands_beside tools (reads old)))
    (items old) image handed → LeavesSession geometry tools (reads old) (items old) [] [] [] 0 image handed
left_within geometry tools x old image handed state written p = record {
  items = [];
  handed_is = p.handed_is ∙ sym (append-nil (items old));
  session = record {
    standing = x;
    state = state;
    written = written;
    cut = inl (record {
      executed = refl;
      acknowledged = refl;
      stands_for = elim p.state [
        | inl before ↦ inl (record { state = before ∙ state; written = p.written; handed_is = refl })
        | inr after ↦ inr (record { state = after ∙ ap recovered_of state; written = p.written; handed_is = refl })
      ];
    });
  };
}

-- a stop of a synced device leaves the image that is read
pub left_synced : (tools : List ℤ) (old : Trace) (image : Image) (handed : List Item) → IsSynced old → IsWritten (reads old) → IsStop old image handed
    → IsEitherBeside tools (stands_beside tools (reads old)) (recovered_of (stands_beside tools (reads old))) (items old) image handed
left_synced tools old image handed synced written stop =
    let same : image ≡ reads old = one_image old image handed synced stop in
    record { state = inl (ap (stands_beside tools) same); written = subst IsWritten (sym same) written; handed_is = stop.1 }

pub within_power_on : {R : Type 0} (seen : R → Device) → SessionsWithinPowerOn seen
within_power_on seen geometry tools x result old new p state written =
    let stops = (p.recovers.keeps written).stops in
    let left = λ (image : Image) (handed : List Item). left_within geometry tools x old image handed state written in (
      one_call old new _ _ stops (λ t image handed either. ⊎_elim (λ since. inl (stop_now old image handed since)) (λ e. inr (left image handed e)) either),
      λ synced. one_call old new _ _ stops
          (λ t image handed either.
          left image handed (⊎_elim
          (λ since. left_synced tools old image handed synced written (stop_now old image handed since))
          (λ e. e) either)),
    )

-- ---- after it

left_after : (geometry : Geometry) (tools : List ℤ) (lines : List (List ℕ)) (x : DurableState) (first : Image)
    (before : List Item) (executed begun : List Entry) (acknowledged : ℕ) (image : Image) (handed : List Item)
    → stands_beside tools first ≡ Ok x → IsWritten first → IsAccounted geometry lines (recovered x) before executed begun acknowledged image handed
    → LeavesSession geometry tools first before lines executed begun acknowledged image handed
left_after geometry tools lines x first before executed begun acknowledged image handed state written p =
    let entries = take p.count executed in
    let given = items_all geometry (recovered x) entries ++ p.cut.more in
    let left : CrashState = record { standing = p.left.standing; items = given } in
    record {
      items = given;
      handed_is = p.stands_for.handed_is ∙ p.cut.items ∙ append_assoc before (items_all geometry (recovered x) entries) p.cut.more;
      session = record {
        standing = x;
        state = state;
        written = written;
        cut = inr (record {
          count = p.count;
          all = p.all;
          few = p.few;
          within = p.within;
          left = left;
          cut = record { valid = p.cut.valid; program = p.cut.program; more = p.cut.more; items = refl; follows = p.cut.follows };
          stands_for = record { state = p.stands_for.state; modern = p.stands_for.modern; written = p.stands_for.written; handed_is = refl };
        });
      };
    }

pub after_power_on : {R : Type 0} (A : Type 0) (seen : R → Device) → SessionsAfterPowerOn A seen
after_power_on A seen tools image x events replies moments first now p state written =
    weaker_said (seen first.journal.rig).trace (seen now.journal.rig).trace _ _ p.stops
    (λ t left handed from a.
    let n = answered_by t moments in
    let tried = tried_events (take (suc n) events) p.passes.answers in
    let scene = session_at_power_on (recovered x) in
    left_after first.geometry tools (lines_given (take (suc n) events)) x image
    (items (seen first.journal.rig).trace) (entries_of first.geometry scene tried)
    (under_way first.geometry scene tried) (dones (take n replies)) left handed state written a)

-- ---- power on again

rising_last : (first last : ℕ) (moments : List ℕ) → IsRising first last moments → first ≤ last
rising_last first last [] rising = rising
rising_last first last (m ∷ ms) rising = omega (arith, rising.0, rising_last m last ms rising.1)

-- an image with which a power on may begin
record IsSound (tools : List ℤ) (image : Image) : Type 0 where
  standing : DurableState
  state : stands_beside tools image ≡ Ok standing
  written : IsWritten image

sound : (tools : List ℤ) (standing : DurableState) (given : List Item) (image : Image) (handed : List Item)
    → StandsBeside tools standing given image handed → IsSound tools image
sound tools standing given image handed p = record { standing = standing; state = p.state; written = p.written }

-- a session leaves such an image
left_sound : (geometry : Geometry) (tools : List ℤ) (image : Image) (s : CutSession) → IsSession geometry tools image s → IsSound tools s.image
left_sound geometry tools image s p = elim p.cut [
  | inl within ↦ ⊎_elim (λ q. sound tools p.standing [] s.image s.items q) (λ q. sound tools (recovered p.standing) [] s.image s.items q) within.stands_for
  | inr after ↦ record {
    standing = after.left.standing;
    state = modern-beside tools s.image after.stands_for.modern
        ∙ after.stands_for.state;
    written = after.stands_for.written;
  }
]

pub anew : {R : Type 0} (A : Type 0) (seen : R → Device) → SessionsAnew A seen
anew A seen tools image x events replies moments first now p geometry result new state written powers =
    let old = (seen now.journal.rig).trace in
    let stops = after_power_on A seen tools image x events replies moments first now p state written in
    let leaves : (left : Image) (handed : List Item) → IsStop old left handed
    → LeavesSessionBy seen tools image x events replies moments first now p (moment old) left handed =
    λ left handed stop.
    stops.each (moment old) left handed (rising_last (moment (seen first.journal.rig).trace) (moment old) moments p.passes.rising) (omega arith)
    (subst (λ (l : Trace). IsStop l left handed) (sym (trace_now old)) stop) in
    let here = leaves (reads old) (items old) (λ n. may_hold-reads old n, refl) in
    let begins = left_sound _ tools _ _ here.session in (
      here,
      weaker_said old new _ _ (within_power_on seen geometry tools begins.standing result old new powers begins.state begins.written).0
          (λ t left handed from either. ⊎_elim (λ stop. inl (leaves left handed stop)) (λ e. inr e) either),
    )
