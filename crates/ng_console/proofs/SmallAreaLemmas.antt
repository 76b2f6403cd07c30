-- While a device is small its headers name areas 0 and 1, whatever is called and wherever power is cut: each header that
-- is written names the area of the one in force, or the spare one of the two.
use Rattle.std.proofs.Common.{◌≡◌, ◌≢◌, ◌⊎◌, inl, inr, zero, suc, ◌+◌, ◌<◌, ◌≤◌, Bool, true, false, if◌then◌else◌, nat_le, ⊎_elim, ℕ, [], ℤ}
use Rattle.std.proofs.Common.{List, ◌∷◌, ◌++◌, replicate, Option, Some, None, Result, Ok, Err, OnOk, refl, sym, ◌∙◌, ap, subst, arith}
use Rattle.ng_num.specs.declared.fault.Fault.{Fault}
use Rattle.ng_num.specs.declared.fault.Fault.TheVariants.{DeviceFailed}
use Rattle.ng_canon.specs.declared.item.Item.{Item}
use Rattle.ng_rig.specs.Rig.{Device}
use Rattle.ng_rig.specs.Calls.{IfHonest}
use Rattle.ng_rig.specs.Only.{WritesOnly}
use Rattle.ng_rig.specs.Trace.{Image, Trace, Began, Handed, MayHold, reads, items, moment, trace_at, IsStop, StopSince}
use Rattle.ng_rig.proofs.ContinuationLemmas.{may_hold-reads}
use Rattle.ng_rig.proofs.LaterStopLemmas.{between-since}
use Rattle.ng_layout.specs.Areas.{is_large_size, least_size, program_first, spare_area}
use Rattle.ng_layout.specs.Codes.{format_of}
use Rattle.ng_layout.specs.Decoding.{and_then}
use Rattle.ng_layout.specs.Fields.{number_at}
use Rattle.ng_layout.specs.declared.header.Format.{Format}
use Rattle.ng_layout.specs.declared.header.Format.TheVariants.{Two}
use Rattle.ng_layout.specs.declared.header.Header.{Header}
use Rattle.ng_layout.specs.Header.{header_at, header_by, header_in}
use Rattle.ng_layout.specs.Limits.{sector_size}
use Rattle.ng_layout.specs.Stands.{in_force, is_large}
use Rattle.ng_layout.specs.Stored.{DurableState, StoredModel, fresh_stored}
use Rattle.ng_layout.proofs.ImageLemmas.{newer-force, some-is}
use Rattle.ng_layout.proofs.SectorLemmas.{number-zeros}
use Rattle.ng_journal.specs.AtRest.{BelongsTo, next_header, migrated}
use Rattle.ng_journal.specs.Failures.{is_device_failure}
use Rattle.ng_journal.specs.Formatting.{FormatSpec, first_header}
use Rattle.ng_journal.specs.Loads.{BelongsToLoad}
use Rattle.ng_journal.specs.Recovery.{BelongsToNext, BelongsToMigration, IsNextEpoch, Renews, renewed_header}
use Rattle.ng_journal.specs.Storing.{BelongsToStoring, IsLedgerAfter, Ledger, Storing, Commit, Open, Load}
use Rattle.ng_journal.specs.Storing.{ledger_of, renewed}
use Rattle.ng_session.specs.Session.{Transition}
use Rattle.ng_session.specs.declared.event.Event.{Event}
use Rattle.ng_session.specs.declared.reply.Reply.{Reply}
use Rattle.ng_core.specs.AnsweredEvents.{AreAnsweredEvents, IsAnsweredEvent}
use Rattle.ng_core.specs.Causes.{stored_for, transition_of}
use Rattle.ng_core.specs.Events.{CallsFor, CarriesOutEvent, Handles, HandsAll, IsStoredAfter, MakesCalls, handed_all}
use Rattle.ng_core.specs.Lifetime.{DeviceSession, EndsSession, GivenEvents}
use Rattle.ng_core.specs.Model.{ControllerModel}
use Rattle.ng_core.specs.Power.{PowerOnResult, PowerOnSpec, PowerOnSpecIfHonest, power_on_rig}
use Rattle.ng_console.specs.Lengthening.{NamesSmallAreas}

-- the area that a sector names, if it is one of a header
abbrev Small : List ℕ → Type 0
Small c = (header_at Two c).area ≤ 1

-- Up to now only such contents were in the sectors of headers, at each stop too.
record KeepsSmallAreas (trace : Trace) : Type 0 where
  holds : (n : ℕ) (c : List ℕ) → n < 2 → MayHold trace n c → Small c
  stops : (image : Image) (handed : List Item) → StopSince trace 0 image handed → NamesSmallAreas image

-- ---- the calls of a device

began : (image : Image) → NamesSmallAreas image → KeepsSmallAreas (Began image)
began image small = record {
  holds = λ n c lt is. subst Small (sym is) (small n lt);
  stops = λ other handed stop n lt. subst Small (sym (stop.0 n)) (small n lt);
}

reads-small : (trace : Trace) → KeepsSmallAreas trace → NamesSmallAreas (reads trace)
reads-small trace k n lt = k.holds n (reads trace n) lt (may_hold-reads trace n)

only : (May : ℕ → List ℕ → Type 0) (old new : Trace) → ((n : ℕ) (c : List ℕ) → n < 2 → May n c → Small c) → WritesOnly May old new
    → KeepsSmallAreas old → KeepsSmallAreas new
only May old new small w k = record {
  holds = λ n c lt may. ⊎_elim (λ was. k.holds n c lt was) (λ it. small n c lt it) (w.holds n c may);
  stops = λ image handed since n lt. ⊎_elim (λ was. k.stops image handed was n lt)
      (λ mix. ⊎_elim (λ was. k.holds n (image n) lt was) (λ it. small n (image n) lt it) (mix.each n))
      (w.stops.each 0 image handed (omega arith) since);
}

hands_out : (items : List Item) (trace : Trace) → KeepsSmallAreas trace → KeepsSmallAreas (handed_all items trace)
hands_out [] trace k = k
hands_out (item ∷ more) trace k = hands_out more (Handed item trace) (record {
  holds = k.holds;
  stops = λ image handed since n lt. ⊎_elim (λ now. k.holds n (image n) lt (now.0 n)) (λ before. k.stops image handed before.1 n lt) since;
})

hands : {T E : Type 0} (answer : Result T E) (items : List Item) (old new : Trace) → HandsAll answer items old new → KeepsSmallAreas old → KeepsSmallAreas new
hands (Ok _) items old new is k = subst KeepsSmallAreas (sym is) (hands_out items old k)
hands (Err _) items old new (inl none) k = subst KeepsSmallAreas (sym none) k
hands (Err _) items old new (inr all) k = subst KeepsSmallAreas (sym all) (hands_out items old k)

-- a stop at a moment
left : (trace : Trace) (t : ℕ) (image : Image) (handed : List Item) → KeepsSmallAreas trace → t ≤ moment trace → IsStop (trace_at t trace) image handed
    → NamesSmallAreas image
left trace t image handed k until stop =
    k.stops image handed (between-since image handed trace 0 (record { at = t; from = omega arith; until = until; stop = stop }))

-- ---- what belongs in the sectors of headers

belongs : (h : Header) (saved : StoredModel) (n : ℕ) (c : List ℕ) → h.area ≤ 1 → n < 2 → BelongsTo h saved n c → Small c
unfolding header_at
belongs h saved n c few lt (inl (inl area)) = let e = area.is in absurd (omega arith)
belongs h saved n c few lt (inl (inr tools)) = let e = tools.1.is in absurd (omega arith)
belongs h saved n c few lt (inr header) = let e : number_at 8 24 c ≡ h.area = ap (λ (x : Header). x.area) header.1.header in omega arith

above_headers : (area : ℕ) → 2 ≤ program_first area
above_headers area = either (nat_le 2 area) (omega arith) (omega arith)
  where
    either : (b : Bool) {x y : ℕ} → 2 ≤ x → 2 ≤ y → 2 ≤ (if b then x else y)
    either true p q = p
    either false p q = q

stored : (l : Ledger) (saved : StoredModel) (n : ℕ) (c : List ℕ) → l.header.area ≤ 1 → n < 2 → BelongsToStoring l saved n c → Small c
stored l saved n c few lt (inl room) = let high = room.1.log in absurd (omega arith)
stored l saved n c few lt (inr full) = elim full.1 [
  | inl own ↦ belongs (renewed l).header l.saved n c few lt own
  | inr part ↦ let high = part.log in absurd (omega arith)
]

loaded : (area : ℕ) (h : Header) (x : DurableState) (n : ℕ) (c : List ℕ) → area ≤ 1 → n < 2 → BelongsToLoad area h x n c → Small c
loaded area h x n c few lt (inl text) = let high = above_headers area in let e = text.is in absurd (omega arith)
loaded area h x n c few lt (inr own) = belongs (next_header h area x.saved.length) x.saved n c few lt own

-- the spare area of a small device
spare : (sectors area : ℕ) → is_large_size sectors ≡ false → spare_area (is_large_size sectors) area ≤ 1
spare sectors area small = subst (λ (large : Bool). spare_area large area ≤ 1) (sym small) (omega arith)

-- ---- the header in force

chosen : (b : Bool) (x y : Header) → (if b then Some x else None) ≡ Some y → x ≡ y
chosen true x y is = some-is is
chosen false x y is = absurd (cc)

header-area : (large : Bool) (k : ℕ) (c : List ℕ) (h : Header) → header_in large k c ≡ Some h → (header_at Two c).area ≡ h.area
unfolding header_in header_at
header-area large k c h is = go (format_of (number_at 4 8 c)) is
  where
    go : (o : Option Format) → and_then o (λ format. header_by large k c (header_at format c)) ≡ Some h → (header_at Two c).area ≡ h.area
    go None none = absurd (cc)
    go (Some format) some = ap (λ (x : Header). x.area) (chosen _ (header_at format c) h some)

force-small : (image : Image) (h : Header) → NamesSmallAreas image → in_force image ≡ Some h → h.area ≤ 1
unfolding in_force
force-small image h small is = ⊎_elim
    (λ even. subst (λ (n : ℕ). n ≤ 1) (header-area (is_large image) 0 (image 0) h even) (small 0 (omega arith)))
    (λ odd. subst (λ (n : ℕ). n ≤ 1) (header-area (is_large image) 1 (image 1) h odd) (small 1 (omega arith)))
    (newer-force (header_in (is_large image) 0 (image 0)) (header_in (is_large image) 1 (image 1)) h is).one

-- ---- power on

renews-small : (tools : List ℤ) (old new : Trace) → Renews tools old new → KeepsSmallAreas old → KeepsSmallAreas new
renews-small tools old new r k =
    let small = reads-small old k in
    let first = only (BelongsToNext (reads old)) old r.middle
    (λ n c lt own. belongs (renewed_header own.header own.standing.saved) own.standing.saved n c
    (force-small (reads old) own.header small own.force) lt own.said) r.first k in
    only (BelongsToMigration tools (reads old)) r.middle new
    (λ n c lt own. belongs (migrated (renewed_header own.header own.standing.saved)) (record own.standing.saved { tools = tools }) n c
    (force-small (reads old) own.header small own.force) lt own.said.1) r.second first

next-small : (header : Header) (image : Image) → NamesSmallAreas image → IsNextEpoch header image → header.area ≤ 1
next-small header image small next =
    subst (λ (n : ℕ). n ≤ 1) (ap (λ (h : Header). h.area) (sym next.is)) (force-small image next.before small next.force)

-- ---- an event

called : (answer : Result Reply Fault) (out : Transition) (sectors : ℕ) (l : Ledger) (old new : Trace) → is_large_size sectors ≡ false
    → l.header.area ≤ 1 → CallsFor answer out sectors l old new → KeepsSmallAreas old → KeepsSmallAreas new
called answer out sectors l old new small few c k = by (stored_for out out.reply) c.calls
  where
    by : (o : Option Storing) → MakesCalls answer o out sectors l old new → KeepsSmallAreas new
    by None calls = hands answer out.items old new calls k
    by (Some (Commit saved)) calls = only _ old new (λ n c lt own. stored l saved n c few lt own) calls.writes k
    by (Some (Open half)) calls = only _ old new (λ n c lt own. stored l (record l.saved { half = Some half }) n c few lt own) calls.writes k
    by (Some (Load saved)) calls = only _ old new
        (λ n c lt own. loaded (spare_area (is_large_size sectors) l.header.area) l.header (record { saved = saved; program = out.program }) n c
        (spare sectors l.header.area small) lt own) calls.writes k

recorded : (old : Ledger) (saved : StoredModel) (new : Ledger) → old.header.area ≤ 1 → IsLedgerAfter old saved new → new.header.area ≤ 1
recorded old saved new few l = elim (side (old.end.sector + _) _) [
  | inl room ↦ subst (λ (x : Ledger). x.header.area ≤ 1) (sym (l.room room)) few
  | inr full ↦ subst (λ (x : Ledger). x.header.area ≤ 1) (sym (l.full full)) few
]
  where
    side : (n m : ℕ) → (n ≤ m) ⊎ (m < n)
    side n m = grind arith

kept-small : (o : Option Storing) (sectors : ℕ) (old new : Ledger) → is_large_size sectors ≡ false → old.header.area ≤ 1
    → IsStoredAfter o sectors old new → new.header.area ≤ 1
kept-small None sectors old new small few is = subst (λ (x : Ledger). x.header.area ≤ 1) (sym is) few
kept-small (Some (Commit saved)) sectors old new small few is = recorded old saved new few is
kept-small (Some (Open half)) sectors old new small few is = recorded old (record old.saved { half = Some half }) new few is
kept-small (Some (Load saved)) sectors old new small few is =
    subst (λ (x : Ledger). x.header.area ≤ 1) (sym is) (spare sectors old.header.area small)

-- a controller over a small device; once a call has failed nothing more is called
record IsSmall {R : Type 0} (seen : R → Device) (c : ControllerModel R) : Type 0 where
  honest : (seen c.journal.rig).honest
  sectors : is_large_size (seen c.journal.rig).sectors ≡ false
  keeps : KeepsSmallAreas (seen c.journal.rig).trace
  few : c.journal.broken ≡ false → c.journal.header.area ≤ 1

module _ {A R : Type 0} (seen : R → Device) where
  -- unless the device failed, the header names such an area afterwards
  few-after : (event : Event A) (answer : Result Reply Fault) (old new : ControllerModel R) → CarriesOutEvent seen event answer old new
      → is_large_size (seen old.journal.rig).sectors ≡ false → old.journal.header.area ≤ 1 → new.journal.broken ≡ false → new.journal.header.area ≤ 1
  few-after event (Ok r) old new c small few still =
      kept-small _ (seen old.journal.rig).sectors (ledger_of old.journal) (ledger_of new.journal) small few (c.ledger [])
  few-after event (Err fault) old new c small few still =
      let none : fault ≢ DeviceFailed = λ is. let failure : is_device_failure fault ≡ true = ap is_device_failure is in absurd (cc (still, c.broken, failure)) in
      subst (λ (l : Ledger). l.header.area ≤ 1) (sym (c.comes.ledger none)) few

  handled : (event : Event A) (r : Reply) (old new : ControllerModel R) → old.journal.broken ≡ false → Handles seen event r old new
      → IsSmall seen old → IsSmall seen new
  handled event r old new whole h k = record {
    honest = h.carried.does.keeps k.honest;
    sectors = ap is_large_size h.carried.size ∙ k.sectors;
    keeps = called h.answer (transition_of old [] event) (seen old.journal.rig).sectors (ledger_of old.journal) (seen old.journal.rig).trace
        (seen new.journal.rig).trace k.sectors (k.few whole) (h.carried.calls k.honest []) k.keeps;
    few = few-after event h.answer old new h.carried k.sectors (k.few whole);
  }

  answered : (event : Event A) (r : Reply) (broken : Bool) (old new : ControllerModel R) → old.journal.broken ≡ broken
      → IsAnsweredEvent seen event r old new → IsSmall seen old → IsSmall seen new
  answered event r false old new is t k = handled event r old new is (t.serves is) k
  answered event r true old new is t k = subst (λ (c : ControllerModel R). IsSmall seen c) (sym (t.refuses is).0) k

  all-answered : (events : List (Event A)) (replies : List Reply) (old new : ControllerModel R) → AreAnsweredEvents seen events replies old new
      → IsSmall seen old → IsSmall seen new
  all-answered [] [] old new t k = subst (λ (c : ControllerModel R). IsSmall seen c) (sym t) k
  all-answered [] (r ∷ replies) old new t k = absurd t
  all-answered (event ∷ events) [] old new t k = absurd t
  all-answered (event ∷ events) (r ∷ replies) old new t k =
      all-answered events replies t.0 new t.1.1 (answered event r old.journal.broken old t.0 refl t.1.0 k)

  -- ---- a session

  module _ (s : DeviceSession A R) (honest : (seen s.rig).honest) (small : is_large_size (seen s.rig).sectors ≡ false)
      (enough : least_size ≤ (seen s.rig).sectors) (spec : PowerOnSpec seen s.settings s.rig s.answer) (k : KeepsSmallAreas (seen s.rig).trace) where
    powers : IfHonest (seen s.rig) (seen (power_on_rig s.answer))
        (PowerOnSpecIfHonest s.settings.tools s.answer (seen s.rig).trace (seen (power_on_rig s.answer)).trace)
    powers = spec.powers enough s.settings.tools (λ header force one. refl)

    powered : KeepsSmallAreas (seen (power_on_rig s.answer)).trace
    powered = renews-small s.settings.tools (seen s.rig).trace (seen (power_on_rig s.answer)).trace (powers.holds honest).recovers.renews k

    first-small : (c : ControllerModel R) → s.answer ≡ Ok c → IsSmall seen c
    first-small c is =
        let old = (seen s.rig).trace in
        let told : PowerOnResult R = Ok c in
        let p : PowerOnSpecIfHonest s.settings.tools told old (seen c.journal.rig).trace =
        subst (λ (a : PowerOnResult R). PowerOnSpecIfHonest s.settings.tools a old (seen (power_on_rig a)).trace) is (powers.holds honest) in
        record {
          honest = subst (λ (a : PowerOnResult R). (seen (power_on_rig a)).honest) is (powers.keeps honest);
          sectors = ap is_large_size (subst (λ (a : PowerOnResult R). (seen (power_on_rig a)).sectors ≡ (seen s.rig).sectors) is spec.size) ∙ small;
          keeps = subst (λ (a : PowerOnResult R). KeepsSmallAreas (seen (power_on_rig a)).trace) is powered;
          few = λ whole. next-small c.journal.header (reads old) (reads-small old k) p.recovers.finds.1;
        }

    ended : (given : Option (GivenEvents A R)) → EndsSession seen s given → NamesSmallAreas s.image
    ended None ends = left (seen (power_on_rig s.answer)).trace s.at s.image (items (seen s.rig).trace ++ s.items) powered ends.0.until ends.0.stop
    ended (Some g) ends =
        let now = all-answered g.events g.replies g.first g.now ends.2.0 (first-small g.first ends.1) in
        left (seen g.now.journal.rig).trace s.at s.image (items (seen s.rig).trace ++ s.items) now.keeps ends.0.until ends.0.stop

  -- a session of a small device whose headers named such areas leaves one
  pub session-small : (s : DeviceSession A R) (image : Image) → (seen s.rig).trace ≡ Began image → NamesSmallAreas image → (seen s.rig).honest
      → is_large_size (seen s.rig).sectors ≡ false → least_size ≤ (seen s.rig).sectors → PowerOnSpec seen s.settings s.rig s.answer
      → EndsSession seen s s.given → NamesSmallAreas s.image
  session-small s image begins small honest few enough spec ends =
      ended s honest few enough spec (subst (λ (trace : Trace). KeepsSmallAreas trace) (sym begins) (began image small)) s.given ends

-- ---- a new device

pub format-small : (result : Result (Unit {0}) Fault) (most : ℕ) (old new : Trace) → FormatSpec result most old new → OnOk result (NamesSmallAreas (reads new))
unfolding header_at
format-small (Err e) most old new f = tt
format-small (Ok v) most old new f = at
  where
    zeros : (c : List ℕ) → c ≡ replicate sector_size 0 → Small c
    zeros c is = let e : number_at 8 24 c ≡ 0 = ap (number_at 8 24) is ∙ number-zeros 8 24 sector_size in omega arith

    at : NamesSmallAreas (reads new)
    at zero lt = zeros (reads new 0) (f.zeros 0 (inl refl))
    at (suc zero) lt = belongs first_header (fresh_stored most) 1 (reads new 1) (omega arith) (omega arith) (f.laid 1 (inr refl))
    at (suc (suc k)) lt = absurd (omega arith)
