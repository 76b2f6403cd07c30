-- A stop leaves at least as many entries as were acknowledged by then. So no implementation takes an acknowledged entry
-- away, not even for a moment.
use Rattle.std.proofs.Common.{◌≡◌, ◌≤◌, ◌<◌, ◌+◌, ℕ, ℤ, zero, suc, List, [], ◌∷◌, ◌++◌, length, take, Option, Some}
use Rattle.std.proofs.Common.{None, Result, Ok, Err, refl, sym, ◌∙◌, ap, subst, arith}
use Rattle.std.proofs.lemmas.List.{length-take-le}
use Rattle.ng_num.specs.declared.fault.Fault.{Fault}
use Rattle.ng_num.specs.declared.point.Point.{Point}
use Rattle.ng_canon.specs.declared.item.Item.{Item}
use Rattle.ng_rig.specs.Rig.{Device}
use Rattle.ng_rig.specs.Trace.{Image, moment, trace_at, IsStop}
use Rattle.ng_block.specs.Effects.{Done}
use Rattle.ng_layout.specs.Stands.{stands_beside}
use Rattle.ng_layout.specs.Stored.{HalfModel, StoredModel, DurableState}
use Rattle.ng_layout.specs.declared.half.Source.{Source}
use Rattle.ng_layout.proofs.ImageLemmas.{modern-beside}
use Rattle.ng_canon.specs.declared.geometry.Geometry.{Geometry}
use Rattle.ng_session.specs.Entries.{Entry, Block, Loaded, Referenced, Approached, Abandoned, Tooled, referenced, reached_by, abandoned}
use Rattle.ng_session.specs.Fold.{after, after_all, durable_state_after, durable_state_reached, approach_in, approach_to, FollowsFold, FollowFold}
use Rattle.ng_session.specs.Cuts.{UncommittedTail, Nothing_open, Approach_open, Segment_open}
use Rattle.ng_session.specs.Runs.{dones}
use Rattle.ng_session.specs.declared.event.Event.{Event}
use Rattle.ng_session.specs.declared.reply.Reply.{Reply}
use Rattle.ng_session.specs.declared.stage.Approach.{Approach}
use Rattle.ng_core.specs.Model.{ControllerModel}
use Rattle.ng_core.specs.Moments.{IsRising, answered_by}
use Rattle.ng_core.specs.AnsweredEvents.{AreAnsweredEvents, answered_at}
use Rattle.ng_core.specs.Headline.{IsAccounted, IsPast, Accounts, AddsToPast, CountsAcknowledged}
use Rattle.ng_core.proofs.MomentLemmas.{one_by, none_by}
use Rattle.ng_core.proofs.AccountLemmas.{accounts}

-- ---- each entry is counted

counts_block : (x : DurableState) (from : Source) (r : Result Done Fault) (done : Done) → r ≡ Ok done
    → (durable_state_after x from r).saved.entries ≡ x.saved.entries + 1
counts_block x from (Ok d) done is = refl
counts_block x from (Err f) done is = absurd (let z : (let e : Result Done Fault = Err f in e) ≡ Ok done = is in cc)

counts_reference : (x : StoredModel) (point : Point) (half : Option HalfModel) → (referenced x point half).entries ≡ x.entries + 1
counts_reference x point None = refl
counts_reference x point (Some half) = refl

counts_reached : (x : StoredModel) (half : Option HalfModel) (point : Point) (q : Geometry) (a : Approach)
    → approach_to q x half ≡ Some a → (reached_by x half point).entries ≡ x.entries + 1
counts_reached x (Some half) point q a is = refl
counts_reached x None point q a is = absurd (let z : (let o : Option Approach = None in o) ≡ Some a = is in cc)

counts_way : (x : DurableState) (q : Geometry) (o : Option Approach) (a : Approach) → o ≡ Some a
    → approach_in q x ≡ Some a → (durable_state_reached x o).saved.entries ≡ x.saved.entries + 1
counts_way x q None a is way = absurd (let z : (let o : Option Approach = None in o) ≡ Some a = is in cc)
counts_way x q (Some b) a is way = counts_reached x.saved x.saved.half b.to.point q a way

counts_abandon : (x : StoredModel) (o : Option HalfModel) (half : HalfModel) → o ≡ Some half → (abandoned x o).entries ≡ x.entries + 1
counts_abandon x (Some h) half is = refl
counts_abandon x None half is = absurd (let z : (let o : Option HalfModel = None in o) ≡ Some half = is in cc)

counts_one : (q : Geometry) (lines : List (List ℕ)) (x : DurableState) (entry : Entry) → FollowsFold q lines x entry
    → (after q x entry).saved.entries ≡ x.saved.entries + 1
counts_one q lines x (Block from text block_delete) is = counts_block x from _ is.0 is.1.does
counts_one q lines x (Loaded text) is = refl
counts_one q lines x (Referenced point) is = counts_reference x.saved point x.saved.half
counts_one q lines x Approached is = counts_way x q (approach_in q x) is.0 is.1 is.1
counts_one q lines x Abandoned is = counts_abandon x.saved x.saved.half is.0 is.1
counts_one q lines x (Tooled slot nm) is = refl

counts_all : (q : Geometry) (lines : List (List ℕ)) (x : DurableState) (entries : List Entry)
    → FollowFold q lines x entries → (after_all q x entries).saved.entries ≡ x.saved.entries + length entries
counts_all q lines x [] are = omega arith
counts_all q lines x (entry ∷ entries) are =
    let one = counts_one q lines x entry are.0 in
    let rest = counts_all q lines (after q x entry) entries are.1 in
    omega (arith, one, rest)

counts_tail : (q : Geometry) (lines : List (List ℕ)) (x : DurableState) (next : List Entry) (saved : StoredModel)
    (given : List Item) → UncommittedTail q lines x next saved given → saved.entries ≡ x.saved.entries
counts_tail q lines x next _ _ Nothing_open = refl
counts_tail q lines x next _ _ (Approach_open half approach begun left later comes held way whole) = refl
counts_tail q lines x next _ _ (Segment_open from text block_delete done before segment rest begun left later comes is split whole) = refl

same_state : (x y : DurableState) → (let found : Result DurableState Fault = Ok x in found) ≡ Ok y → x ≡ y
same_state x y is = cc

counted : (q : Geometry) (lines : List (List ℕ)) (x : DurableState) (before : List Item)
    (executed begun : List Entry) (acknowledged : ℕ) (image : Image) (handed : List Item) (tools : List ℤ)
    (y : DurableState)
    → IsAccounted q lines x before executed begun acknowledged image handed → stands_beside tools image ≡ Ok y
    → (x.saved.entries + acknowledged ≤ y.saved.entries) × (y.saved.entries ≤ x.saved.entries + acknowledged + 1)
counted q lines x before executed begun acknowledged image handed tools y p is =
    let entries = take p.count executed in
    let there : p.left.standing ≡ y = same_state p.left.standing y (sym p.stands_for.state ∙ sym (modern-beside tools image p.stands_for.modern) ∙ is) in
    let tail = counts_tail q lines (after_all q x entries) _ p.left.standing.saved p.cut.more p.cut.follows in
    let all = counts_all q lines x entries p.cut.valid in
    let same : p.left.standing.saved.entries ≡ y.saved.entries = ap (λ (s : DurableState). s.saved.entries) there in
    let taken = length-take-le p.count executed p.within in
    (omega (arith, tail, all, same, p.all, taken), omega (arith, tail, all, same, p.few, taken))

pub counts_acknowledged : {A R : Type 0} (seen : R → Device) (x : DurableState) (events : List (Event A))
    (replies : List Reply) (moments : List ℕ) (first now : ControllerModel R)
    → Accounts seen x events replies moments first now
    → CountsAcknowledged seen x replies moments first now
counts_acknowledged seen x events replies moments first now p t image handed tools y from until stop is =
    counted first.geometry _ x _ _ _ (dones (take (answered_by t moments) replies)) image handed tools y (p.stops.each t image handed from until stop) is

-- ---- what `on` says of the past alone rules out an implementation that takes an entry away during an event

-- by a later moment, all earlier events were answered
answered_before : (first t m : ℕ) (before : List ℕ) (last : ℕ) → IsRising first last before → last ≤ t → t < m
    → answered_by t (before ++ m ∷ []) ≡ length before
answered_before first t m [] last rising late early = none_by t m m [] early (omega arith)
answered_before first t m (s ∷ before) last rising late early =
    let rest = answered_before s t m before last rising.1 late early in
    let here : s ≤ t = omega (arith, rising_to s last before rising.1, late) in
    one_by t s (before ++ m ∷ []) here ∙ ap (λ (n : ℕ). suc n) rest
  where
    rising_to : (a b : ℕ) (ms : List ℕ) → IsRising a b ms → a ≤ b
    rising_to a b [] r = r
    rising_to a b (k ∷ ms) r = omega (arith, r.0, rising_to k b ms r.1)

each_answered : {A R : Type 0} (seen : R → Device) (events : List (Event A)) (replies : List Reply) (old new : ControllerModel R)
    → (t : AreAnsweredEvents seen events replies old new) → length (answered_at seen events replies old new t) ≡ length replies
each_answered seen [] [] old new t = refl
each_answered seen [] (r ∷ replies) old new t = absurd t
each_answered seen (event ∷ events) [] old new t = absurd t
each_answered seen (event ∷ events) (r ∷ replies) old new t = ap (λ (n : ℕ). suc n) (each_answered seen events replies t.0 new t.1.1)

take_told : {X : Type 0} (n : ℕ) (told more : List X) → n ≡ length told → take n (told ++ more) ≡ told
take_told zero [] more is = refl
take_told zero (r ∷ told) more is = absurd (omega (arith, is))
take_told (suc n) [] more is = absurd (omega (arith, is))
take_told {X} (suc n) (r ∷ told) more is = ap (λ (l : List X). r ∷ l) (take_told n told more (omega (arith, is)))

-- A stop within an event has all entries that were acknowledged before it. This follows from `past` of `on` alone.
pub none_taken_away : {A R : Type 0} (seen : R → Device) (e : Event A) (r : Reply) (old new : ControllerModel R)
    → AddsToPast {A = A} seen (e ∷ []) (r ∷ []) (moment (seen new.journal.rig).trace ∷ []) old new
    → (x : DurableState) (events : List (Event A)) (told : List Reply) (before : List ℕ) (first : ControllerModel R)
    → (seen first.journal.rig).honest → IsPast seen x events told before first old
    → (t : ℕ) (image : Image) (handed : List Item) (tools : List ℤ) (y : DurableState)
    → moment (seen old.journal.rig).trace ≤ t → t < moment (seen new.journal.rig).trace
    → IsStop (trace_at t (seen new.journal.rig).trace) image handed → stands_beside tools image ≡ Ok y → x.saved.entries + dones told ≤ y.saved.entries
none_taken_away seen e r old new past x events told before first h is t image handed tools y from until stop left =
    let m = moment (seen new.journal.rig).trace in
    let was = accounts seen x events told before first old h is in
    let rising = was.passes.rising in
    let n : answered_by t (before ++ m ∷ []) ≡ length before = answered_before _ t m before _ rising from until in
    let each : length before ≡ length told = ap (λ (l : List ℕ). length l) is.answered ∙ each_answered seen events told first old is.exchanges in
    let some : take (answered_by t (before ++ m ∷ [])) (told ++ r ∷ []) ≡ told = take_told _ told (r ∷ []) (n ∙ each) in
    let begins : moment (seen first.journal.rig).trace ≤ t = omega (arith, from, begins_before _ _ before rising) in
    subst (λ (l : List Reply). x.saved.entries + dones l ≤ y.saved.entries) some
    (counts_acknowledged seen x (events ++ e ∷ []) (told ++ r ∷ []) (before ++ m ∷ []) first new
    (past x events told before first is).1 t image handed tools y begins (omega (arith, until)) stop left).0
  where
    begins_before : (a b : ℕ) (ms : List ℕ) → IsRising a b ms → a ≤ b
    begins_before a b [] r = r
    begins_before a b (k ∷ ms) r = omega (arith, r.0, begins_before k b ms r.1)
