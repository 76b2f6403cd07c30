-- Each event keeps the session tied to the fold.
use Rattle.std.proofs.Common.{◌≡◌, ◌⊎◌, ◌≤◌, ℕ, ℤ, ◌==◌, nat_lt, Bool, true, false, not, ◌&&◌, ◌||◌, if◌then◌else◌}
use Rattle.std.proofs.Common.{List, [], ◌∷◌, ◌++◌, drop, length, Option, None, Some, Result, Ok, Err, refl, sym, ap}
use Rattle.std.proofs.Common.{subst, ◌∙◌, inl, inr, arith}
use Rattle.std.specs.Prelude.{Contains}
use Rattle.std.specs.Option.{is_some, is_none}
use Rattle.std.proofs.lemmas.Bool.Decides.{nat_tests}
use Rattle.std.proofs.lemmas.List.{append-nil}
use Rattle.ng_num.specs.declared.fault.Fault.{Fault}
use Rattle.ng_num.specs.declared.fault.Fault.TheVariants as fault
use Rattle.ng_num.specs.declared.point.Point.{Point}
use Rattle.ng_canon.specs.Geometry.{is_inside}
use Rattle.ng_canon.specs.declared.item.Item.{Item}
use Rattle.ng_canon.specs.declared.segment.Segment.{Segment}
use Rattle.ng_block.specs.Effects.{Done}
use Rattle.ng_offsets.specs.Tools.{is_tool_length}
use Rattle.ng_layout.specs.Tools.{takes_slot}
use Rattle.ng_text.specs.Programs.{ProgramLineModel, program_line_at, next_line_start}
use Rattle.ng_layout.specs.Stored.{HalfModel, StoredModel, DurableState}
use Rattle.ng_layout.specs.declared.half.Source.{Source}
use Rattle.ng_layout.specs.declared.half.Source.TheVariants as source
use Rattle.ng_canon.specs.declared.geometry.Geometry.{Geometry}
use Rattle.ng_session.specs.Entries.{Entry, Block, Loaded, Referenced, Approached, Abandoned, Tooled, done_of}
use Rattle.ng_session.specs.Entries.{done_again, place_after, after_block, after_load, after_reference, referenced}
use Rattle.ng_session.specs.Entries.{after_abandon, abandoned, after_tool}
use Rattle.ng_session.specs.Session.{CurrentBlockModel, SessionModel, Transition, answers, begun, is_running, is_idle}
use Rattle.ng_session.specs.Session.{is_at_rest, accepts_load}
use Rattle.ng_session.specs.Operator.{next_place_after, refuses_mdi, start, hold, resume_held, mdi, mdi_by, load}
use Rattle.ng_session.specs.Operator.{load_unless, load_refusal, reference, reference_unless, reference_refusal}
use Rattle.ng_session.specs.Operator.{abandon, abandon_unless, abandon_refusal, tool, tool_unless, tool_refusal}
use Rattle.ng_session.specs.Operator.{resume, resume_by, resume_from, resume_half, session_status}
use Rattle.ng_session.specs.Ticking.{begin, begin_by, end, hand_next, first_of, tick}
use Rattle.ng_session.specs.Step.{step}
use Rattle.ng_session.specs.Fold.{first_to_do, after, items, items_done, items_on_way, durable_state_after}
use Rattle.ng_session.specs.Fold.{block_done, IsTextOf, IsGiven, IsLineAt, IsBlock, FollowsFold}
use Rattle.ng_session.specs.Runs.{given_by}
use Rattle.ng_session.specs.declared.activity.Activity.{Activity}
use Rattle.ng_session.specs.declared.activity.Activity.TheVariants as activity
use Rattle.ng_session.specs.declared.reply.Reply.{Reply}
use Rattle.ng_session.specs.declared.reply.Reply.TheVariants as reply
use Rattle.ng_session.specs.declared.event.Event.{Event}
use Rattle.ng_session.specs.declared.event.Event.TheVariants as event
use Rattle.ng_session.specs.declared.stage.Stage.{Stage}
use Rattle.ng_session.specs.declared.stage.Stage.TheVariants as stage
use Rattle.ng_session.proofs.BlockFoldLemmas.{IsOnBlock, IsWorked, Tied, worked_item, worked_segment, worked_way}
use Rattle.ng_session.proofs.BlockFoldLemmas.{worked_block, way_is, way_done, all_given, after_is_it}
use Rattle.ng_text.proofs.PlaceLemmas.{line_next}

-- an event leaves the fold's state as it is, or adds an entry that may be committed and whose items are those handed
-- out
pub data Next (q : Geometry) (lines : List (List ℕ)) (p : DurableState) (given : List Item) (out : Transition) : Type 0 where
  Stays : out.entries ≡ [] → out.program ≡ p.program → Tied q lines p (given ++ out.items) out.next.stored
      out.next.activity out.next.current → Next q lines p given out
  Adds : (entry : Entry) → out.entries ≡ entry ∷ [] → out.items ≡ [] → FollowsFold q lines p entry
      → out.program ≡ (after q p entry).program → given ≡ items q p entry
      → Tied q lines (after q p entry) [] out.next.stored out.next.activity out.next.current → Next q lines p given out

-- the session is tied to the fold
abbrev pub Ties : Geometry → List (List ℕ) → DurableState → List Item → SessionModel → Type 0
Ties q lines p given s = Tied q lines p given s.stored s.activity s.current

by_if : (q : Geometry) (lines : List (List ℕ)) (p : DurableState) (given : List Item) (b : Bool) (x y : Transition)
    → (b ≡ true → Next q lines p given x) → (b ≡ false → Next q lines p given y)
    → Next q lines p given (if b then x else y)
by_if q lines p given true x y f g = f refl
by_if q lines p given false x y f g = g refl

-- a reply that leaves the current block unchanged
stays : (q : Geometry) (lines : List (List ℕ)) (p : DurableState) (given : List Item) (P : List ℕ) (r : Reply)
    (u : SessionModel) → P ≡ p.program → Ties q lines p given u → Next q lines p given (answers P r u)
stays q lines p given P r u is tied = Stays refl is (subst (λ l. Ties q lines p l u) (sym (append-nil given)) tied)

none_of : {T : Type 0} (o : Option T) → is_none o ≡ true → o ≡ None
none_of None h = refl
none_of (Some x) h = cc

none_or : {T : Type 0} (o : Option T) → is_some o ≡ false → o ≡ None
none_or None h = refl
none_or (Some x) h = cc

not_true : (b : Bool) → not b ≡ false → b ≡ true
not_true true h = refl
not_true false h = cc

not_false : (b : Bool) → not b ≡ true → b ≡ false
not_false true h = cc
not_false false h = refl

and_left : (a b : Bool) → a && b ≡ true → a ≡ true
and_left true b h = refl
and_left false b h = cc

and_right : (a b : Bool) → a && b ≡ true → b ≡ true
and_right true b h = h
and_right false b h = cc

or_left : (a b : Bool) → a || b ≡ false → a ≡ false
or_left true b h = cc
or_left false b h = refl

or_right : (a b : Bool) → a || b ≡ false → b ≡ false
or_right true b h = cc
or_right false b h = h

-- a session at rest has no block
rest_none : (s : SessionModel) → is_at_rest s ≡ true → s.current ≡ None
rest_none s rests = none_of s.current (and_left _ _ (and_left _ _ rests))

-- with no block, the stored state is the fold's
stands_at : (q : Geometry) (lines : List (List ℕ)) (p : DurableState) (given : List Item) (s : SessionModel)
    → s.current ≡ None → Ties q lines p given s → Tied q lines p given s.stored s.activity None
stands_at q lines p given s none t = subst (Tied q lines p given s.stored s.activity) none t

-- a program that isn't idle has no half-done block
no_half : (q : Geometry) (lines : List (List ℕ)) (p : DurableState) (given : List Item) (x : StoredModel)
    (a : Activity) → is_idle a ≡ false → Tied q lines p given x a None → x.half ≡ None
no_half q lines p given x a busy t = ap (λ (y : StoredModel). y.half) t.0 ∙ by t.2
  where
    by : (is_idle a ≡ true) ⊎ (p.saved.half ≡ None) → p.saved.half ≡ None
    by (inl idle) = absurd (let e : true ≡ false = sym idle ∙ busy in cc)
    by (inr none) = none

runs_busy : (a : Activity) → is_running a ≡ true → is_idle a ≡ false
runs_busy activity.Idle h = cc
runs_busy activity.Running h = refl
runs_busy activity.Stopped h = cc

abbrev here : List ℕ → SessionModel → DurableState
here P s = record { saved = s.stored; program = P }

-- a session with no block has the fold's state
here_is : (q : Geometry) (lines : List (List ℕ)) (p : DurableState) (given : List Item) (P : List ℕ)
    (x : StoredModel) (a : Activity) → P ≡ p.program → Tied q lines p given x a None
    → record { saved = x; program = P } ≡ p
here_is q lines p given P x a is t =
    ap (λ (z : StoredModel). let s : DurableState = record { saved = z; program = P } in s) t.0
    ∙ ap (λ (z : List ℕ). let s : DurableState = record { saved = p.saved; program = z } in s) is

-- from the session's state to the fold's
to_fold : (q : Geometry) (lines : List (List ℕ)) (p : DurableState) (given : List Item) (P : List ℕ)
    (s : SessionModel) (out : Transition) → P ≡ p.program → s.current ≡ None → Ties q lines p given s
    → (Tied q lines (here P s) [] s.stored s.activity None → Next q lines (here P s) [] out) → Next q lines p given out
to_fold q lines p given P s out is none t f =
    let at = stands_at q lines p given s none t in
    let same = here_is q lines p given P s.stored s.activity is at in
    let third : (is_idle s.activity ≡ true) ⊎ (s.stored.half ≡ None) =
    subst (λ (z : DurableState). (is_idle s.activity ≡ true) ⊎ (z.saved.half ≡ None)) (sym same) at.2 in
    subst (λ l. Next q lines p l out) (sym at.1) (subst (λ z. Next q lines z [] out) same (f (refl, refl, third)))

-- a session that still has no block stays tied
ties_here : (q : Geometry) (lines : List (List ℕ)) (P : List ℕ) (s : SessionModel) → s.current ≡ None
    → Tied q lines (here P s) [] s.stored s.activity None → Ties q lines (here P s) [] s
ties_here q lines P s none t = subst (Tied q lines (here P s) [] s.stored s.activity) (sym none) t

-- ---- a line is begun

fresh_block : (q : Geometry) (lines : List (List ℕ)) (P : List ℕ) (s : SessionModel) (from : Source) (text : List ℕ)
    (delete : Bool) (done : Done) → s.stored.half ≡ None → IsGiven lines (here P s) from text
    → done_of q P s.stored from text delete ≡ Ok done → IsBlock q lines (here P s) from text delete done
fresh_block q lines P s from text delete done none given does = record {
  does = ap (λ (o : Option HalfModel). block_done q (here P s) o from text delete) none ∙ does;
  text_is = subst (λ (o : Option HalfModel). IsTextOf lines (here P s) o from text delete done) (sym none) given;
}

begun_here : (q : Geometry) (lines : List (List ℕ)) (P : List ℕ) (s : SessionModel) (from : Source) (text : List ℕ)
    (delete : Bool) (next : ℕ) (done : Done) → s.stored.half ≡ None → IsGiven lines (here P s) from text
    → done_of q P s.stored from text delete ≡ Ok done → place_after next s.stored.place from done.stop ≡ place_after
    (next_line_start P s.stored.place) s.stored.place from done.stop
    → IsOnBlock q lines (here P s) [] s.stored (begun s.stored from text delete next done)
begun_here q lines P s from text delete next done none given does same = record {
  done = done;
  block = fresh_block q lines P s from text delete done none given does;
  leaves = record { setup = refl; place = same };
  stage = inl (record {
    stands = refl;
    given_is = refl;
    items = refl;
    left = ap (λ (o : Option HalfModel). drop (first_to_do o) done.segments) (sym none);
    index = ap first_to_do (sym none);
  });
}

mdi_here : (q : Geometry) (lines : List (List ℕ)) (P : List ℕ) (s : SessionModel) (text : List ℕ)
    (r : Result Done Fault) → s.stored.half ≡ None → Contains lines text
    → done_of q P s.stored source.Mdi text s.block_delete ≡ r
    → Ties q lines (here P s) [] s → Next q lines (here P s) [] (mdi_by P s text r)
mdi_here q lines P s text (Err f) none given does t = Stays refl refl t
mdi_here q lines P s text (Ok done) none given does t =
    Stays refl refl (begun_here q lines P s source.Mdi text s.block_delete s.stored.place done none given does refl)

line_here : (q : Geometry) (lines : List (List ℕ)) (P : List ℕ) (s : SessionModel) (line : ProgramLineModel)
    (r : Result Done Fault) → s.stored.half ≡ None → s.current ≡ None → program_line_at P s.stored.place ≡ Some line
    → done_of q P s.stored source.Program line.text s.block_delete ≡ r
    → Next q lines (here P s) [] (begin_by P s line r)
line_here q lines P s line (Err f) half none at does =
    Stays refl refl (subst (Tied q lines (here P s) [] s.stored activity.Stopped) (sym none) (refl, refl, inr half))
line_here q lines P s line (Ok done) half none at does =
    Stays refl refl (begun_here q lines P s source.Program line.text s.block_delete line.next done half
    (subst (λ (o : Option ProgramLineModel). IsLineAt o line.text) (sym at) refl) does
    (ap (λ (n : ℕ). place_after n s.stored.place source.Program done.stop) (line_next P s.stored.place line at)))

begin_here : (q : Geometry) (lines : List (List ℕ)) (P : List ℕ) (s : SessionModel) (o : Option ProgramLineModel)
    → s.stored.half ≡ None → s.current ≡ None → program_line_at P s.stored.place ≡ o
    → Next q lines (here P s) [] (begin q P s o)
begin_here q lines P s None half none is = Stays refl refl (subst (Tied q lines (here P s) [] s.stored activity.Stopped) (sym none) (refl, refl, inr half))
begin_here q lines P s (Some line) half none is = line_here q lines P s line _ half none is refl

-- ---- the operator's events

next_load : (q : Geometry) (lines : List (List ℕ)) (p : DurableState) (given : List Item) (P : List ℕ)
    (s : SessionModel) (text : List ℕ) → P ≡ p.program → Ties q lines p given s
    → Next q lines p given (load P s text)
next_load q lines p given P s text is t = by_refusal (load_refusal s text) refl
  where
    free_of : (b c : Bool) → (if not b then Some fault.Busy else if c then Some fault.ProgramTooLong else None) ≡ None → b ≡ true
    free_of true c h = refl
    free_of false c h = cc

    short_of : (b c : Bool) → (if not b then Some fault.Busy else if c then Some fault.ProgramTooLong else None) ≡ None → c ≡ false
    short_of true true h = cc
    short_of true false h = refl
    short_of false c h = cc

    within : (a b : ℕ) → nat_lt a b ≡ false → b ≤ a
    within a b h = grind (arith, nat_tests, h)

    by_refusal : (o : Option Fault) → load_refusal s text ≡ o → Next q lines p given (load_unless P s text o)
    by_refusal (Some f) h = stays q lines p given P _ s is t
    by_refusal None h =
        let free = free_of (accepts_load s) (nat_lt s.stored.program_limit (length text)) h in
        let short = short_of (accepts_load s) (nat_lt s.stored.program_limit (length text)) h in
        let none = rest_none s (and_left _ _ free) in
        let at = stands_at q lines p given s none t in
        let half : p.saved.half ≡ None = ap (λ (x : StoredModel). x.half) (sym at.0) ∙ none_of s.stored.half (and_right _ _ free) in
        let fits : length text ≤ p.saved.program_limit = subst (λ (x : StoredModel). length text ≤ x.program_limit) at.0 (within s.stored.program_limit
        (length text) short) in
        Adds (Loaded text) refl refl (fits, half) refl at.1
        (subst (Tied q lines (after q p (Loaded text)) [] (after_load s.stored (length text)) activity.Idle)
        (sym none) (ap (λ (x : StoredModel). after_load x (length text)) at.0, refl, inl refl))

next_start : (q : Geometry) (lines : List (List ℕ)) (p : DurableState) (given : List Item) (P : List ℕ)
    (s : SessionModel) → P ≡ p.program → Ties q lines p given s → Next q lines p given (start P s)
next_start q lines p given P s is t =
    by_if q lines p given (not (accepts_load s)) _ _ (λ b. stays q lines p given P _ s is t) (λ b.
    let free = not_true (accepts_load s) b in
    let none = rest_none s (and_left _ _ free) in
    let at = stands_at q lines p given s none t in
    let half : p.saved.half ≡ None = ap (λ (x : StoredModel). x.half) (sym at.0) ∙ none_of s.stored.half (and_right _ _ free) in
    by_if q lines p given (not s.stored.setup.modal.point_known) _ _ (λ b. stays q lines p given P _ s is t) (λ b.
    by_if q lines p given (s.stored.length == 0) _ _ (λ b. stays q lines p given P _ s is t) (λ b.
    stays q lines p given P _ (record s { activity = activity.Running }) is
    (subst (Tied q lines p given s.stored activity.Running) (sym none) (at.0, at.1, inr half)))))

next_hold : (q : Geometry) (lines : List (List ℕ)) (p : DurableState) (given : List Item) (P : List ℕ)
    (s : SessionModel) → P ≡ p.program → Ties q lines p given s → Next q lines p given (hold P s)
next_hold q lines p given P s is t =
    by_if q lines p given (is_running s.activity || is_some s.current) _ _
    (λ b. stays q lines p given P _ (record s { held = true }) is t) (λ b. stays q lines p given P _ s is t)

next_go : (q : Geometry) (lines : List (List ℕ)) (p : DurableState) (given : List Item) (P : List ℕ)
    (s : SessionModel) → P ≡ p.program → Ties q lines p given s → Next q lines p given (resume_held P s)
next_go q lines p given P s is t =
    by_if q lines p given s.held _ _ (λ b. stays q lines p given P _ (record s { held = false }) is t) (λ b.
    by_if q lines p given (is_running s.activity || is_some s.current) _ _ (λ b. stays q lines p given P _ s is t) (λ quiet.
    by_if q lines p given (is_idle s.activity) _ _ (λ b. stays q lines p given P _ s is t) (λ busy.
    let none = none_or s.current (or_right _ _ quiet) in
    let at = stands_at q lines p given s none t in
    let half : p.saved.half ≡ None = ap (λ (x : StoredModel). x.half) (sym at.0) ∙ no_half q lines p given s.stored s.activity busy at in
    stays q lines p given P _ (record s { activity = activity.Running }) is
    (subst (Tied q lines p given s.stored activity.Running) (sym none) (at.0, at.1, inr half)))))

next_mdi : (q : Geometry) (lines : List (List ℕ)) (p : DurableState) (given : List Item) (P : List ℕ)
    (s : SessionModel) (text : List ℕ) → Contains lines text → P ≡ p.program → Ties q lines p given s
    → Next q lines p given (mdi q P s text)
next_mdi q lines p given P s text told is t =
    by_if q lines p given (refuses_mdi s) _ _ (λ b. stays q lines p given P _ s is t) (λ quiet.
    let half = none_or s.stored.half (or_right _ _ quiet) in
    let none = none_or s.current (or_left _ _ (or_left _ _ quiet)) in
    by_if q lines p given (not s.stored.setup.modal.point_known) _ _ (λ b. stays q lines p given P _ s is t) (λ b.
    to_fold q lines p given P s _ is none t (λ at. mdi_here q lines P s text _ half told refl (ties_here q lines P s none at))))

-- ---- a half-done block

referenced_none : (x : StoredModel) (point : Point) → x.half ≡ None → (after_reference x point).half ≡ None
referenced_none x point none = ap (λ (o : Option HalfModel). (referenced x point o).half) none

next_reference : (q : Geometry) (lines : List (List ℕ)) (p : DurableState) (given : List Item) (P : List ℕ)
    (s : SessionModel) (point : Point) → P ≡ p.program → Ties q lines p given s
    → Next q lines p given (reference q P s point)
next_reference q lines p given P s point is t = by_refusal (reference_refusal q s point) refl
  where
    rests_of : (b c : Bool) → (if not b then Some fault.Busy else if not c then Some fault.OutsideTravel else None) ≡ None → b ≡ true
    rests_of true c h = refl
    rests_of false c h = cc

    inside_of : (b c : Bool) → (if not b then Some fault.Busy else if not c then Some fault.OutsideTravel else None) ≡ None → c ≡ true
    inside_of true true h = refl
    inside_of true false h = cc
    inside_of false c h = cc

    third : (is_idle s.activity ≡ true) ⊎ (p.saved.half ≡ None) → (is_idle s.activity ≡ true) ⊎ ((after_reference p.saved point).half ≡ None)
    third (inl idle) = inl idle
    third (inr none) = inr (referenced_none p.saved point none)

    by_refusal : (o : Option Fault) → reference_refusal q s point ≡ o → Next q lines p given (reference_unless P s point o)
    by_refusal (Some f) h = stays q lines p given P _ s is t
    by_refusal None h =
        let none = rest_none s (rests_of (is_at_rest s) (is_inside q point) h) in
        let at = stands_at q lines p given s none t in
        Adds (Referenced point) refl refl (inside_of (is_at_rest s) (is_inside q point) h) is at.1
        (subst (Tied q lines (after q p (Referenced point)) [] (after_reference s.stored point) s.activity)
        (sym none) (ap (λ (x : StoredModel). after_reference x point) at.0, refl, third at.2))

some_of : (o : Option HalfModel) → is_none o ≡ false → (half : HalfModel) × (o ≡ Some half)
some_of None h = cc
some_of (Some half) h = (half, refl)

next_abandon : (q : Geometry) (lines : List (List ℕ)) (p : DurableState) (given : List Item) (P : List ℕ)
    (s : SessionModel) → P ≡ p.program → Ties q lines p given s → Next q lines p given (abandon P s)
next_abandon q lines p given P s is t = by_refusal (abandon_refusal s) refl
  where
    rests_of : (b c : Bool) → (if not b then Some fault.Busy else if c then Some fault.NothingHalfDone else None) ≡ None → b ≡ true
    rests_of true c h = refl
    rests_of false c h = cc

    half_of : (b c : Bool) → (if not b then Some fault.Busy else if c then Some fault.NothingHalfDone else None) ≡ None → c ≡ false
    half_of true true h = cc
    half_of true false h = refl
    half_of false c h = cc

    by_refusal : (o : Option Fault) → abandon_refusal s ≡ o → Next q lines p given (abandon_unless P s o)
    by_refusal (Some f) h = stays q lines p given P _ s is t
    by_refusal None h =
        let none = rest_none s (rests_of (is_at_rest s) (is_none s.stored.half) h) in
        let at = stands_at q lines p given s none t in
        let half = some_of s.stored.half (half_of (is_at_rest s) (is_none s.stored.half) h) in
        let there : p.saved.half ≡ Some half.0 = ap (λ (x : StoredModel). x.half) (sym at.0) ∙ half.1 in
        Adds Abandoned refl refl (half.0, there) is at.1
        (subst (Tied q lines (after q p Abandoned) [] (after_abandon s.stored) s.activity) (sym none)
        (ap after_abandon at.0, refl, inr (ap (λ (o : Option HalfModel). (abandoned p.saved o).half) there)))

next_tool : (q : Geometry) (lines : List (List ℕ)) (p : DurableState) (given : List Item) (P : List ℕ)
    (s : SessionModel) (slot : ℕ) (nm : ℤ) → P ≡ p.program → Ties q lines p given s
    → Next q lines p given (tool P s slot nm)
next_tool q lines p given P s slot nm is t = by_refusal (tool_refusal s slot nm) refl
  where
    parts_of : (a b c : Bool)
        → (if not a then Some fault.Busy else if not b then Some fault.BadSlot else if not c then Some
        fault.OutOfRange else None) ≡ None → (a ≡ true) × (b ≡ true) × (c ≡ true)
    parts_of true true true h = (refl, refl, refl)
    parts_of true true false h = cc
    parts_of true false c h = cc
    parts_of false b c h = cc

    by_refusal : (o : Option Fault) → tool_refusal s slot nm ≡ o → Next q lines p given (tool_unless P s slot nm o)
    by_refusal (Some f) h = stays q lines p given P _ s is t
    by_refusal None h =
        let parts = parts_of (accepts_load s) (takes_slot s.stored.tools slot) (is_tool_length nm) h in
        let none = rest_none s (and_left _ _ parts.0) in
        let at = stands_at q lines p given s none t in
        let half : p.saved.half ≡ None = ap (λ (x : StoredModel). x.half) (sym at.0) ∙ none_of s.stored.half (and_right _ _ parts.0) in
        let slot_is : takes_slot p.saved.tools slot ≡ true = ap (λ (x : StoredModel). takes_slot x.tools slot) (sym at.0) ∙ parts.1 in
        Adds (Tooled slot nm) refl refl (slot_is, parts.2, half) is at.1
        (subst (Tied q lines (after q p (Tooled slot nm)) [] (after_tool s.stored slot nm) s.activity) (sym none)
        (ap (λ (x : StoredModel). after_tool x slot nm) at.0, refl, inr half))

place_same : (P : List ℕ) (place : ℕ) (from : Source) (done : Done)
    → place_after (next_place_after P place from) place from done.stop ≡ place_after (next_line_start P place) place
    from done.stop
place_same P place source.Program done = refl
place_same P place source.Mdi done = refl

resume_done : (q : Geometry) (lines : List (List ℕ)) (P : List ℕ) (s : SessionModel) (half : HalfModel)
    (from : Point) (r : Result Done Fault) → s.stored.half ≡ Some half → half.at ≡ Some from
    → done_again q s.stored half.text ≡ r
    → Ties q lines (here P s) [] s → Next q lines (here P s) [] (resume_by P s half from r)
resume_done q lines P s half from (Err f) held at does t = Stays refl refl t
resume_done q lines P s half from (Ok done) held at does t = Stays refl refl (record {
  resumed = record {
    half = half;
    held = held;
    done = done;
    does = does;
    from = at;
    to = refl;
    source = refl;
    text = refl;
    block_delete = refl;
    index = refl;
    left = refl;
    leaves = record { setup = refl; place = place_same P s.stored.place half.source done };
  };
  stands = refl;
  given_is = refl;
  items = refl;
})

resume_at : (q : Geometry) (lines : List (List ℕ)) (P : List ℕ) (s : SessionModel) (half : HalfModel)
    (o : Option Point) → s.stored.half ≡ Some half → half.at ≡ o → Ties q lines (here P s) [] s
    → Next q lines (here P s) [] (resume_from q P s half o)
resume_at q lines P s half None held at t = Stays refl refl t
resume_at q lines P s half (Some from) held at t = resume_done q lines P s half from _ held at refl t

resume_here : (q : Geometry) (lines : List (List ℕ)) (P : List ℕ) (s : SessionModel) (o : Option HalfModel)
    → s.stored.half ≡ o → Ties q lines (here P s) [] s → Next q lines (here P s) [] (resume_half q P s o)
resume_here q lines P s None held t = Stays refl refl t
resume_here q lines P s (Some half) held t = resume_at q lines P s half half.at held refl t

next_resume : (q : Geometry) (lines : List (List ℕ)) (p : DurableState) (given : List Item) (P : List ℕ)
    (s : SessionModel) → P ≡ p.program → Ties q lines p given s → Next q lines p given (resume q P s)
next_resume q lines p given P s is t =
    by_if q lines p given (not (is_at_rest s)) _ _ (λ b. stays q lines p given P _ s is t) (λ b.
    let none = rest_none s (not_true (is_at_rest s) b) in
    to_fold q lines p given P s _ is none t (λ at. resume_here q lines P s s.stored.half refl (ties_here q lines P s none at)))

-- ---- a Tick

-- the entry of a block has the same effect as the block that was worked
block_after : (q : Geometry) (lines : List (List ℕ)) (p : DurableState) (given : List Item) (x : StoredModel)
    (c : CurrentBlockModel) (w : IsOnBlock q lines p given x c)
    → after q p (Block c.source c.text c.block_delete) ≡ record p { saved = after_block (next_line_start p.program p.saved.place) p.saved c.source w.done }
block_after q lines p given x c w = ap (durable_state_after p c.source) w.block.does

work : (q : Geometry) (lines : List (List ℕ)) (p : DurableState) (given : List Item) (P : List ℕ) (s : SessionModel)
    (c : CurrentBlockModel) (g : Stage) (its : List Item) (left : List Segment) → P ≡ p.program
    → IsWorked q lines p given s.stored (record c { stage = g; items = its; left = left }) g
    → Next q lines p given (hand_next q P (record s { current = Some (record c { stage = g; items = its; left = left }) }) (first_of its))
work q lines p given P s c g (item ∷ its) left is w = Stays refl is (worked_item q lines p given s.stored (record c { stage = g; left = left }) item its g w)
work q lines p given P s c (stage.ToApproach a) [] left is w =
    Stays refl is (worked_way q p given s.stored (record c { stage = stage.ToApproach a; left = left }) a w)
work q lines p given P s c (stage.OnApproach a) [] left is w =
    let d : CurrentBlockModel = record c { stage = stage.OnApproach a; items = []; left = left } in
    let there = way_done q p d a w.resumed in
    let way = way_is q p d a w.resumed in
    Adds Approached refl refl (a, way) (is ∙ sym (ap (λ (z : DurableState). z.program) there)) (sym (append-nil given) ∙ w.rest ∙ sym (ap (items_on_way q) way))
    (worked_block q lines p s.stored (record c { stage = stage.OnApproach a; left = left }) a given w)
work q lines p given P s c stage.OnBlock [] (segment ∷ left) is w =
    Stays refl is (worked_segment q lines p given s.stored (record c { stage = stage.OnBlock }) segment left w)
work q lines p given P s c stage.OnBlock [] [] is w =
    let d : CurrentBlockModel = record c { stage = stage.OnBlock; items = []; left = [] } in
    let there = block_after q lines p given s.stored d w in
    Adds (Block c.source c.text c.block_delete) refl refl (w.done, w.block) (is ∙ sym (ap (λ (z : DurableState). z.program) there))
    (all_given q p given s.stored (record c { stage = stage.OnBlock }) w.done w.stage ∙ sym (ap (items_done q p) w.block.does)) (
      after_is_it q p given s.stored d w.done w.leaves w.stage ∙ sym (ap (λ (z : DurableState). z.saved) there),
      refl,
      inr (ap (λ (z : DurableState). z.saved.half) there),
    )

next_end : (q : Geometry) (lines : List (List ℕ)) (p : DurableState) (given : List Item) (P : List ℕ)
    (s : SessionModel) → P ≡ p.program → s.current ≡ None → Ties q lines p given s
    → Next q lines p given (end q P s None)
next_end q lines p given P s is none t =
    by_if q lines p given (is_running s.activity) _ _ (λ runs.
    let half = no_half q lines p given s.stored s.activity (runs_busy s.activity runs) (stands_at q lines p given s none t) in
    to_fold q lines p given P s _ is none t (λ at. begin_here q lines P s _ half none refl)) (λ b. stays q lines p given P _ s is t)

next_work : (q : Geometry) (lines : List (List ℕ)) (p : DurableState) (given : List Item) (P : List ℕ)
    (s : SessionModel) (o : Option CurrentBlockModel) → P ≡ p.program → Tied q lines p given s.stored s.activity o
    → Next q lines p given (tick q P (record s { current = o }))
next_work q lines p given P s None is t =
    by_if q lines p given s.held _ _ (λ b. stays q lines p given P _ (record s { current = None }) is t)
    (λ b. next_end q lines p given P (record s { current = None }) is refl t)
next_work q lines p given P s (Some c) is t =
    by_if q lines p given s.held _ _ (λ b. stays q lines p given P _ (record s { current = Some c }) is t)
    (λ b. work q lines p given P s c c.stage c.items c.left is t)

pub next_step : {A : Type 0} (q : Geometry) (lines : List (List ℕ)) (p : DurableState) (given : List Item)
    (P : List ℕ) (s : SessionModel) (e : Event A)
    → ((text : List ℕ) → Contains (given_by e) text → Contains lines text)
    → P ≡ p.program → Ties q lines p given s → Next q lines p given (step q P s e)
next_step q lines p given P s (event.Load text) told is t = next_load q lines p given P s text is t
next_step q lines p given P s event.Start told is t = next_start q lines p given P s is t
next_step q lines p given P s event.Hold told is t = next_hold q lines p given P s is t
next_step q lines p given P s event.Continue told is t = next_go q lines p given P s is t
next_step q lines p given P s (event.Mdi text) told is t = next_mdi q lines p given P s text (told text (0, omega arith, refl)) is t
next_step q lines p given P s (event.Reference point) told is t = next_reference q lines p given P s point is t
next_step q lines p given P s event.Resume told is t = next_resume q lines p given P s is t
next_step q lines p given P s event.Abandon told is t = next_abandon q lines p given P s is t
next_step q lines p given P s (event.Tool slot nm) told is t = next_tool q lines p given P s slot nm is t
next_step q lines p given P s (event.OptionalStop wanted) told is t = stays q lines p given P reply.Taken (record s { optional_stop = wanted }) is t
next_step q lines p given P s (event.BlockDelete on) told is t = stays q lines p given P reply.Taken (record s { block_delete = on }) is t
next_step q lines p given P s event.Status told is t = stays q lines p given P (reply.Status (session_status s)) s is t
next_step q lines p given P s event.Tick told is t = next_work q lines p given P s s.current is t
