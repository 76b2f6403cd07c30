-- The lifetime of a device, session by session.
use Rattle.std.proofs.Common.{◌≡◌, inl, inr, ⊎_elim, ℕ, ℤ, suc, Bool, true, false, Option, None, Some, List, []}
use Rattle.std.proofs.Common.{◌∷◌, ◌++◌, take, Ok, Err, refl, sym, ◌∙◌, ap, subst, append_assoc}
use Rattle.std.specs.Prelude.{pos}
use Rattle.std.proofs.lemmas.List.{append-nil, append_cancel_left}
use Rattle.ng_canon.specs.declared.geometry.Geometry.{Geometry}
use Rattle.ng_canon.specs.declared.item.Item.{Item}
use Rattle.ng_rig.specs.Rig.{Device}
use Rattle.ng_rig.specs.Trace.{Image, reads, items}
use Rattle.ng_rig.specs.Calls.{IfHonest}
use Rattle.ng_rig.proofs.ContinuationLemmas.{stop_now}
use Rattle.ng_layout.specs.Stands.{stands, stands_beside, recovered, IsModern, IsWritten}
use Rattle.ng_layout.specs.Stored.{DurableState}
use Rattle.ng_layout.proofs.ImageLemmas.{modern-beside}
use Rattle.ng_journal.specs.Formatting.{fresh_standing}
use Rattle.ng_journal.specs.Growth.{grown_of}
use Rattle.ng_journal.specs.Journal.{StandsBeside}
use Rattle.ng_journal.specs.Recovery.{IsEitherBeside, IsTableOver, recovered_of}
use Rattle.ng_journal.proofs.GrownDeviceLemmas.{grown_stands}
use Rattle.ng_journal.proofs.FormatTwoLemmas.{any_table, formatted_stands, longer, modern_same, own_tools, table_same}
use Rattle.ng_session.specs.Entries.{Entry}
use Rattle.ng_session.specs.Fold.{items_all}
use Rattle.ng_session.specs.Runs.{CrashState, session_at_power_on, entries_of, under_way, dones, lines_given}
use Rattle.ng_core.specs.Moments.{answered_by}
use Rattle.ng_core.specs.Runs.{tried_events}
use Rattle.ng_core.specs.Power.{PowerOnResult, PowerOnSpec, PowerOnSpecIfHonest, power_on_rig}
use Rattle.ng_core.specs.Headline.{IsAccounted, IsPast, IsPoweredOn, Accounts}
use Rattle.ng_core.specs.Lives.{CommittedSession, state_after_session, items_of_session}
use Rattle.ng_core.specs.Lifetime.{GivenEvents, DeviceSession, EndsSession, IsFoundAs, IsDeviceSession}
use Rattle.ng_core.specs.Lifetime.{IsLifetime, cut_within, cut_after, KeepsToEntries, state_found, LifetimeHolds}
use Rattle.ng_core.specs.Lifetime.{KeepsFromFormat, KeepsFromImage}
use Rattle.ng_core.proofs.AccountLemmas.{accounts}
use Rattle.ng_core.proofs.LivesLemmas.{IsLived, lived_within, lived_since}
use Rattle.ng_core.proofs.PastLemmas.{powered_on}
use Rattle.ng_core.proofs.SessionStopLemmas.{left_synced}
use Rattle.ng_core.proofs.MomentLemmas.{within_call}

-- what came of a session, whatever was given in it
record HoldsBy {A R : Type 0} (seen : R → Device) (geometry : Geometry) (tools : List ℤ) (x : DurableState)
    (s : DeviceSession A R) (given : Option (GivenEvents A R)) : Type 0 where
  committed : Option CommittedSession
  entries : KeepsToEntries seen geometry x s given committed
  stands_for : StandsBeside tools (state_after_session geometry x committed) (items_of_session geometry x committed) s.image s.items

-- ---- within power on

-- the stop leaves what was there or the recovered state
left_either : {A R : Type 0} (seen : R → Device) (tools : List ℤ) (s : DeviceSession A R) → IsWritten (reads (seen s.rig).trace)
    → PowerOnSpecIfHonest tools s.answer (seen s.rig).trace (seen (power_on_rig s.answer)).trace → EndsSession seen s None
    → let old = (seen s.rig).trace in let before = stands_beside tools (reads old) in
    IsEitherBeside tools before (recovered_of before) (items old) s.image (items old ++ s.items)
left_either seen tools s written p ends =
    let old = (seen s.rig).trace in
    let handed : List Item = items old ++ s.items in
    let stops = (p.recovers.keeps written).stops in
    let which = within_call s.image handed old (seen (power_on_rig s.answer)).trace _ s.at stops ends.0.from ends.0.until ends.0.stop in
    elim which [
      | inl since ↦
          let stop = stop_now old s.image handed since in
          elim ends.1 [ inl synced ↦ left_synced tools old s.image handed synced written stop | inr never ↦ absurd (never stop) ]
      | inr either ↦ either
    ]

holds_within : {A R : Type 0} (seen : R → Device) (geometry : Geometry) (tools : List ℤ) (x : DurableState) (s : DeviceSession A R)
    → stands_beside tools (reads (seen s.rig).trace) ≡ Ok x → IsWritten (reads (seen s.rig).trace)
    → PowerOnSpecIfHonest tools s.answer (seen s.rig).trace (seen (power_on_rig s.answer)).trace → EndsSession seen s None
    → HoldsBy seen geometry tools x s None
holds_within seen geometry tools x s state written p ends =
    let old = (seen s.rig).trace in
    let e = left_either seen tools s written p ends in
    let nothing : s.items ≡ [] = append_cancel_left (items old) s.items [] (e.handed_is ∙ sym (append-nil (items old))) in
    let l : IsLived geometry tools x (cut_within s) = lived_within geometry tools x (cut_within s) (record {
      executed = refl;
      acknowledged = refl;
      stands_for = ⊎_elim
          (λ before. inl (record { state = before ∙ state; written = e.written; handed_is = nothing }))
          (λ after. inr (record { state = after ∙ ap recovered_of state; written = e.written; handed_is = nothing }))
          e.state;
    }) in
    record { committed = l.committed; entries = l.keeps; stands_for = l.stands_for }

-- ---- after it

-- the items that were handed out before are left out
from_here : (geometry : Geometry) (lines : List (List ℕ)) (x : DurableState) (before given : List Item) (executed begun : List Entry)
    (acknowledged : ℕ) (image : Image) → IsAccounted geometry lines x before executed begun acknowledged image (before ++ given)
    → IsAccounted geometry lines x [] executed begun acknowledged image given
from_here geometry lines x before given executed begun acknowledged image p =
    let entries = take p.count executed in
    let all : List Item = items_all geometry x entries ++ p.cut.more in
    let left : CrashState = record { standing = p.left.standing; items = all } in
    record {
      count = p.count;
      all = p.all;
      few = p.few;
      within = p.within;
      left = left;
      cut = record { valid = p.cut.valid; program = p.cut.program; more = p.cut.more; items = refl; follows = p.cut.follows };
      stands_for = record {
        state = p.stands_for.state;
        modern = p.stands_for.modern;
        written = p.stands_for.written;
        handed_is = append_cancel_left before given all
            (p.stands_for.handed_is ∙ p.cut.items ∙ append_assoc before (items_all geometry x entries) p.cut.more);
      };
    }

-- what a session that was cut after power on left
record HoldsAfter {A R : Type 0} (seen : R → Device) (geometry : Geometry) (tools : List ℤ) (x : DurableState)
    (s : DeviceSession A R) (g : GivenEvents A R) : Type 0 where
  by_given : HoldsBy seen geometry tools x s (Some g)
  modern : IsModern s.image

module _ {A R : Type 0} (seen : R → Device) (tools : List ℤ) (x : DurableState) (s : DeviceSession A R) (g : GivenEvents A R) where
  -- what was executed and begun by a moment, in terms of entries
  abbrev IsAccountedBy : Accounts seen (recovered x) g.events g.replies g.moments g.first g.now → (before handed : List Item) → Type 0
  IsAccountedBy a before handed =
      let scene = session_at_power_on (recovered x) in
      let n = answered_by s.at g.moments in
      let tried = tried_events (take (suc n) g.events) a.passes.answers in
      IsAccounted g.first.geometry (lines_given (take (suc n) g.events)) (recovered x) before (entries_of g.first.geometry scene tried)
      (under_way g.first.geometry scene tried) (dones (take n g.replies)) s.image handed

  -- by what the past accounts for
  by_accounts : items (seen g.first.journal.rig).trace ≡ items (seen s.rig).trace
      → Accounts seen (recovered x) g.events g.replies g.moments g.first g.now → EndsSession seen s (Some g)
      → HoldsAfter seen g.first.geometry tools x s g
  by_accounts same a ends =
      let before = items (seen g.first.journal.rig).trace in
      let tried = tried_events (take (suc (answered_by s.at g.moments)) g.events) a.passes.answers in
      let here = a.stops.each s.at s.image (items (seen s.rig).trace ++ s.items) ends.0.from ends.0.until ends.0.stop in
      let rest : IsAccountedBy a [] s.items =
      from_here g.first.geometry _ (recovered x) before s.items _ _ _ s.image
      (subst (λ (l : List Item). IsAccountedBy a before (l ++ s.items)) (sym same) here) in
      let l = lived_since g.first.geometry tools x (cut_after g.first.geometry x s g tried) rest in
      record {
        by_given = record { committed = Some l.committed; entries = (a.passes, l.keeps); stands_for = l.stands_for };
        modern = rest.stands_for.modern;
      }

  holds_after : (geometry : Geometry) → stands_beside tools (reads (seen s.rig).trace) ≡ Ok x → IsWritten (reads (seen s.rig).trace)
      → (seen s.rig).honest → s.settings.geometry ≡ geometry → PowerOnSpec seen s.settings s.rig s.answer
      → IfHonest (seen s.rig) (seen (power_on_rig s.answer)) (PowerOnSpecIfHonest tools s.answer (seen s.rig).trace (seen (power_on_rig s.answer)).trace)
      → EndsSession seen s (Some g) → HoldsAfter seen geometry tools x s g
  holds_after geometry state written honest geometry_is spec powers ends =
      let old = (seen s.rig).trace in
      let told : PowerOnResult R = Ok g.first in
      let power : PowerOnSpec seen s.settings s.rig told = subst (λ (a : PowerOnResult R). PowerOnSpec seen s.settings s.rig a) ends.1 spec in
      let p : IfHonest (seen s.rig) (seen g.first.journal.rig) (PowerOnSpecIfHonest tools told old (seen g.first.journal.rig).trace) =
      subst (λ (a : PowerOnResult R). IfHonest (seen s.rig) (seen (power_on_rig a)) (PowerOnSpecIfHonest tools a old (seen (power_on_rig a)).trace))
      ends.1 powers in
      let began : IsPoweredOn seen (recovered x) g.first =
      powered_on tools seen g.first old (recovered x) (power.rests.0, power.rests.1) ((p.holds honest).rests written) (ap recovered_of state) in
      let past : IsPast seen (recovered x) g.events g.replies g.moments g.first g.now = record { began = began; exchanges = ends.2.0; answered = ends.2.1 } in
      let a = accounts seen (recovered x) g.events g.replies g.moments g.first g.now (p.keeps honest) past in
      let r = (p.holds honest).recovers.renews in
      subst (λ (l : Geometry). HoldsAfter seen l tools x s g) (power.geometry ∙ geometry_is) (by_accounts (r.second.items_are ∙ r.first.items_are) a ends)

-- ---- a session

-- what power on found stands for what was left, on a grown device with a greater limit
record IsFoundFor (found left : Image) (tools : List ℤ) (x : DurableState) : Type 0 where
  table : (given table : List ℤ) → IsTableOver given table left → IsTableOver given table found
  modern : IsModern left → IsModern found
  state : stands_beside tools found ≡ Ok x
  written : IsWritten found

found_for : (found left : Image) (tools : List ℤ) (x : DurableState) → stands_beside tools left ≡ Ok x → IsWritten left
    → (is_grown : Bool) → IsFoundAs is_grown left found → IsFoundFor found left tools (state_found is_grown found x)
found_for found left tools x state written false same =
    record {
      table = λ given table over. subst (IsTableOver given table) (sym same) over;
      modern = λ m. subst IsModern (sym same) m;
      state = ap (stands_beside tools) same ∙ state;
      written = subst IsWritten (sym same) written;
    }
found_for found left tools x state written true grown =
    let g = grown_stands left found grown in
    record {
      table = λ given table over. table_same found left g given table over;
      modern = λ m. modern_same found left g m;
      state = g.state tools ∙ ap (grown_of found) state;
      written = g.written written;
    }

module _ {A R : Type 0} (seen : R → Device) (geometry : Geometry) (left : Image) (s : DeviceSession A R) (is : IsDeviceSession seen geometry left s) where
  powers_by : (tools : List ℤ) → IsTableOver s.settings.tools tools (reads (seen s.rig).trace)
      → IfHonest (seen s.rig) (seen (power_on_rig s.answer)) (PowerOnSpecIfHonest tools s.answer (seen s.rig).trace (seen (power_on_rig s.answer)).trace)
  powers_by tools table = is.powers.powers is.enough tools table

  holds_by : (tools : List ℤ) (x : DurableState) → stands_beside tools (reads (seen s.rig).trace) ≡ Ok x → IsWritten (reads (seen s.rig).trace)
      → IsTableOver s.settings.tools tools (reads (seen s.rig).trace) → (given : Option (GivenEvents A R)) → EndsSession seen s given
      → HoldsBy seen geometry tools x s given
  holds_by tools x state written table None ends = holds_within seen geometry tools x s state written ((powers_by tools table).holds is.honest) ends
  holds_by tools x state written table (Some g) ends =
      (holds_after seen tools x s g geometry state written is.honest is.geometry_is is.powers (powers_by tools table) ends).by_given

  session_holds : (tools : List ℤ) (x : DurableState) → stands_beside tools left ≡ Ok x → IsWritten left
      → IsTableOver s.settings.tools tools left → HoldsBy seen geometry tools (state_found s.is_grown (reads (seen s.rig).trace) x) s s.given
  session_holds tools x state written table =
      let found = reads (seen s.rig).trace in
      let f = found_for found left tools x state written s.is_grown is.found in
      holds_by tools (state_found s.is_grown found x) f.state f.written (f.table s.settings.tools tools table) s.given is.ends

-- ---- format 2 stays

stays_modern : {A R : Type 0} (seen : R → Device) (geometry : Geometry) (left : Image) (s : DeviceSession A R)
    (is : IsDeviceSession seen geometry left s) (x : DurableState) → stands left ≡ Ok x → IsWritten left → IsModern left → IsModern s.image
stays_modern {A} {R} seen geometry left s is x state written m = by s.given is.ends
  where
    old : Image
    old = reads (seen s.rig).trace

    found : (tools : List ℤ) → IsFoundFor old left tools (state_found s.is_grown old x)
    found tools = found_for old left tools x (modern-beside tools left m ∙ state) written s.is_grown is.found

    is_modern : IsModern old
    is_modern = (found []).modern m

    powers : (tools : List ℤ) → IfHonest (seen s.rig) (seen (power_on_rig s.answer))
        (PowerOnSpecIfHonest tools s.answer (seen s.rig).trace (seen (power_on_rig s.answer)).trace)
    powers tools = powers_by seen geometry left s is tools (any_table s.settings.tools tools old is_modern)

    by : (given : Option (GivenEvents A R)) → EndsSession seen s given → IsModern s.image
    by None ends =
        let y = state_found s.is_grown old x in
        let tools : List ℤ = pos 0 ∷ y.saved.tools in
        let f = found tools in
        let e = left_either seen tools s f.written ((powers tools).holds is.honest) ends in
        ⊎_elim
        (λ before. own_tools s.image tools y (before ∙ f.state) (longer y.saved.tools))
        (λ after. own_tools s.image tools (recovered y) (after ∙ ap recovered_of f.state) (longer y.saved.tools))
        e.state
    by (Some g) ends =
        let f = found [] in
        let y = state_found s.is_grown old x in
        (holds_after seen [] y s g geometry f.state f.written is.honest is.geometry_is is.powers (powers []) ends).modern

-- ---- a lifetime

pub holds_from_image : {R : Type 0} (A : Type 0) (seen : R → Device) → KeepsFromImage A seen
holds_from_image A seen geometry tools left x [] state written table is = tt
holds_from_image A seen geometry tools left x (s ∷ ss) state written table is =
    let one = session_holds seen geometry left s is.0 tools x state written table.0 in
    let after = state_after_session geometry (state_found s.is_grown (reads (seen s.rig).trace) x) one.committed in
    let rest = holds_from_image A seen geometry tools s.image after ss one.stands_for.state one.stands_for.written table.1 is.1 in
    (one.committed, (record { entries = one.entries; stands_for = one.stands_for }, rest))

holds_modern : {A R : Type 0} (seen : R → Device) (geometry : Geometry) (tools : List ℤ) (left : Image) (x : DurableState)
    (life : List (DeviceSession A R)) → stands_beside tools left ≡ Ok x → IsWritten left → IsModern left
    → IsLifetime seen geometry left life → LifetimeHolds seen geometry tools x life
holds_modern seen geometry tools left x [] state written m is = tt
holds_modern seen geometry tools left x (s ∷ ss) state written m is =
    let one = session_holds seen geometry left s is.0 tools x state written (any_table s.settings.tools tools left m) in
    let next = stays_modern seen geometry left s is.0 x (sym (modern-beside tools left m) ∙ state) written m in
    let after = state_after_session geometry (state_found s.is_grown (reads (seen s.rig).trace) x) one.committed in
    let rest = holds_modern seen geometry tools s.image after ss one.stands_for.state one.stands_for.written next is.1 in
    (one.committed, (record { entries = one.entries; stands_for = one.stands_for }, rest))

pub holds_from_format : {R : Type 0} (A : Type 0) (seen : R → Device) → KeepsFromFormat A seen
holds_from_format A seen (Ok v) most old new f = λ geometry tools life is.
    let r = formatted_stands v most old new f in
    let state = modern-beside tools (reads new) r.modern ∙ r.state in
    holds_modern seen geometry tools (reads new) (fresh_standing most) life state r.written r.modern is
holds_from_format A seen (Err e) most old new f = tt
