-- The law of power cuts.
use Rattle.std.proofs.Common.{◌≡◌, ◌⊎◌, ℕ, ℤ, ◌==◌, Bool, true, false, not, ◌||◌, if◌then◌else◌, Option, None, Some}
use Rattle.std.proofs.Common.{List, [], ◌∷◌, ◌++◌, length, Result, Ok, Err, refl, sym, ap, subst, ◌∙◌, inl, inr}
use Rattle.std.proofs.Common.{arith, append_assoc, length-append}
use Rattle.std.specs.Prelude.{Contains}
use Rattle.std.specs.Option.{is_some}
use Rattle.std.proofs.lemmas.List.{append-nil}
use Rattle.std.proofs.lemmas.List.Elements.{Contains-append_left, Contains-append_right}
use Rattle.ng_num.specs.declared.fault.Fault.{Fault}
use Rattle.ng_num.specs.declared.point.Point.{Point}
use Rattle.ng_canon.specs.declared.item.Item.{Item}
use Rattle.ng_canon.specs.declared.segment.Segment.{Segment}
use Rattle.ng_block.specs.Effects.{Done}
use Rattle.ng_text.specs.Programs.{ProgramLineModel, program_line_at}
use Rattle.ng_layout.specs.Stored.{StoredModel, HalfModel, DurableState}
use Rattle.ng_layout.specs.declared.half.Source.TheVariants as source
use Rattle.ng_layout.specs.declared.half.Opened.{Opened}
use Rattle.ng_layout.specs.declared.half.Opened.TheVariants as open_part
use Rattle.ng_canon.specs.declared.geometry.Geometry.{Geometry}
use Rattle.ng_session.specs.Entries.{Entry, Block, Approached, done_of, done_again}
use Rattle.ng_session.specs.Session.{CurrentBlockModel, SessionModel, Transition, answers, idleness, is_running}
use Rattle.ng_session.specs.Session.{is_idle, accepts_load, is_at_rest}
use Rattle.ng_session.specs.Operator.{refuses_mdi, mdi_by, load_unless, load_refusal, reference_unless}
use Rattle.ng_session.specs.Operator.{reference_refusal, abandon_unless, abandon_refusal, tool_unless, tool_refusal}
use Rattle.ng_session.specs.Operator.{resume_by, resume_from, resume_half}
use Rattle.ng_session.specs.Ticking.{entry_on, opening_reply, begin, begin_by, end, open_next, opening_of, hand_next}
use Rattle.ng_session.specs.Ticking.{first_of, item_of}
use Rattle.ng_session.specs.Step.{step}
use Rattle.ng_session.specs.Fold.{after, items, after_all, items_all, IsBlock, FollowsFold, FollowFold}
use Rattle.ng_session.specs.Runs.{ProgramSession, CrashState, session_at_power_on, leads_to, session_of_transition}
use Rattle.ng_session.specs.Runs.{replies_of, items_of, entries_of, entry_of, under_way, session_after, crash_in}
use Rattle.ng_session.specs.Runs.{crash_after, done_count, dones, given_by, lines_given}
use Rattle.ng_session.specs.Cuts.{UncommittedTail, Nothing_open, Approach_open, Segment_open, IsCut, CrashAfterEvents}
use Rattle.ng_session.specs.declared.activity.Activity.{Activity}
use Rattle.ng_session.specs.declared.activity.Activity.TheVariants as activity
use Rattle.ng_session.specs.declared.reply.Reply.{Reply}
use Rattle.ng_session.specs.declared.event.Event.{Event}
use Rattle.ng_session.specs.declared.event.Event.TheVariants as event
use Rattle.ng_session.specs.declared.stage.Stage.{Stage}
use Rattle.ng_session.specs.declared.stage.Stage.TheVariants as stage
use Rattle.ng_session.proofs.BlockFoldLemmas.{IsFresh, IsMidst, IsWorked, Tied, way_is}
use Rattle.ng_session.proofs.SessionFoldLemmas.{Next, Stays, Adds, Ties, next_step}

-- the current block may follow the entries, if it comes next

block_follows : (q : Geometry) (lines : List (List ℕ)) (p : DurableState) (given : List Item) (x : StoredModel)
    (c : CurrentBlockModel) (done : Done) → IsBlock q lines p c.source c.text c.block_delete done
    → IsFresh p given x c done ⊎ IsMidst q p given x c done → UncommittedTail q lines p (Block c.source c.text c.block_delete ∷ []) x given
block_follows q lines p given x c done is (inl f) = rw (f.stands, f.given_is) Nothing_open
block_follows q lines p given x c done is (inr m) =
    rw (m.stands, m.given_is) (Segment_open c.source c.text c.block_delete done m.before m.segment c.left m.begun
    c.items [] refl is m.split m.rest)

stage_follows : (q : Geometry) (lines : List (List ℕ)) (p : DurableState) (given : List Item) (x : StoredModel)
    (c : CurrentBlockModel) (g : Stage) → IsWorked q lines p given x c g
    → UncommittedTail q lines p (entry_on c g ∷ []) x given
stage_follows q lines p given x c (stage.ToApproach a) w = rw (w.stands, w.given_is) Nothing_open
stage_follows q lines p given x c (stage.OnApproach a) w =
    let r = w.resumed in
    let same : record p.saved { half = Some (record r.half { at = None; opened = Some open_part.Approach }) } ≡ x =
    (λ i. let z : StoredModel =
    record p.saved {
      half =
          Some (record {
            text = sym r.text i;
            source = sym r.source i;
            index = sym r.index i;
            at = None;
            opened =
                Some open_part.Approach;
          });
    } in z) ∙ sym w.stands in
    subst (λ (y : StoredModel). UncommittedTail q lines p (Approached ∷ []) y given) same
    (Approach_open r.half a given c.items [] refl r.held (way_is q p c a r) w.rest)
stage_follows q lines p given x c stage.OnBlock w = block_follows q lines p given x c w.done w.block w.stage

follows_of : (q : Geometry) (lines : List (List ℕ)) (p : DurableState) (given : List Item) (x : StoredModel)
    (activity : Activity) (o : Option CurrentBlockModel) → Tied q lines p given x activity o
    → UncommittedTail q lines p (entry_of o) x given
follows_of q lines p given x activity None t = rw (t.0, t.1) Nothing_open
follows_of q lines p given x activity (Some c) t = stage_follows q lines p given x c c.stage t

after_all-more : (q : Geometry) (x : DurableState) (es : List Entry) (e : Entry) → after_all q x (es ++ e ∷ []) ≡ after q (after_all q x es) e
after_all-more q x [] e = refl
after_all-more q x (d ∷ es) e = after_all-more q (after q x d) es e

items_all-more : (q : Geometry) (x : DurableState) (es : List Entry) (e : Entry)
    → items_all q x (es ++ e ∷ []) ≡ items_all q x es ++ items q (after_all q x es) e
items_all-more q x [] e = append-nil (items q x e)
items_all-more q x (d ∷ es) e =
    ap (λ l. items q x d ++ l) (items_all-more q (after q x d) es e)
    ∙ sym (append_assoc (items q x d) (items_all q (after q x d) es) (items q (after_all q (after q x d) es) e))

valid-more : (q : Geometry) (lines : List (List ℕ)) (x : DurableState) (es : List Entry) (e : Entry)
    → FollowFold q lines x es → FollowsFold q lines (after_all q x es) e → FollowFold q lines x (es ++ e ∷ [])
valid-more q lines x [] e all one = (one, tt)
valid-more q lines x (d ∷ es) e all one = (all.0, valid-more q lines (after q x d) es e all.1 one)

left_split : {A : Type 0} (q : Geometry) (s : ProgramSession) (h : List Item) (e : Event A) (events : List (Event A))
    → crash_after q s h (e ∷ events) ≡ crash_after q (session_of_transition (leads_to q s e)) (h ++ (leads_to q s e).items) events
left_split q s h e events =
    ap (λ l. crash_in (session_after q (session_of_transition (leads_to q s e)) events) l)
    (sym (append_assoc h (leads_to q s e).items (items_of q (session_of_transition (leads_to q s e)) events)))

-- the operator gave no other lines
abbrev Told : {A : Type 0} → List (List ℕ) → List (Event A) → Type 0
Told lines events = (text : List ℕ) → Contains (lines_given events) text → Contains lines text

-- a run of a session that is tied to the fold ends in a cut
abbrev Cuts : {A : Type 0} → Geometry → List (List ℕ) → DurableState → List Item → ProgramSession → List (Event A) → Type 0
Cuts q lines x before s events = (es : List Entry) (given h : List Item) → FollowFold q lines x es
    → h ≡ (before ++ items_all q x es) ++ given → s.program ≡ (after_all q x es).program
    → Ties q lines (after_all q x es) given s.session → IsCut q lines x before (es ++ entries_of q s events) (under_way q s events) (crash_after q s h events)

cut_next : {A : Type 0} (q : Geometry) (lines : List (List ℕ)) (x : DurableState) (before : List Item)
    (es : List Entry) (given h : List Item) (s : ProgramSession) (e : Event A) (events : List (Event A))
    → FollowFold q lines x es → h ≡ (before ++ items_all q x es) ++ given
    → Next q lines (after_all q x es) given (leads_to q s e)
    → Cuts q lines x before (session_of_transition (leads_to q s e)) events
    → IsCut q lines x before (es ++ entries_of q s (e ∷ events)) (under_way q s (e ∷ events)) (crash_after q s h (e ∷ events))
cut_next q lines x before es given h s e events valid is (Stays none same t) ih =
    let more = ih es (given ++ (leads_to q s e).items) (h ++ (leads_to q s e).items) valid
    (ap (λ l. l ++ (leads_to q s e).items) is ∙ append_assoc (before ++ items_all q x es) given (leads_to q s e).items) same t in
    subst (IsCut q lines x before (es ++ entries_of q s (e ∷ events)) (under_way q s (e ∷ events))) (sym (left_split q s h e events))
    (subst (λ l. IsCut q lines x before (es ++ (l ++ entries_of q (session_of_transition (leads_to q s e)) events))
    (under_way q s (e ∷ events))
    (crash_after q (session_of_transition (leads_to q s e)) (h ++ (leads_to q s e).items) events)) (sym none)
    more)
cut_next q lines x before es given h s e events valid is (Adds d one none may same all t) ih =
    let es' = es ++ d ∷ [] in
    let there : after_all q x es' ≡ after q (after_all q x es) d = after_all-more q x es d in
    let handed : h ++ (leads_to q s e).items ≡ (before ++ items_all q x es') ++ [] =
    ap (λ l. h ++ l) none ∙ append-nil h ∙ is ∙ ap (λ l. (before ++ items_all q x es) ++ l) all
    ∙ append_assoc before (items_all q x es) (items q (after_all q x es) d)
    ∙ ap (λ l. before ++ l) (sym (items_all-more q x es d)) ∙ sym (append-nil (before ++ items_all q x es')) in
    let more = ih es' [] (h ++ (leads_to q s e).items) (valid-more q lines x es d valid may) handed (same ∙ ap (λ (z : DurableState). z.program) (sym there))
    (subst (λ z. Ties q lines z [] (leads_to q s e).next) (sym there) t) in
    let entries : es' ++ entries_of q (session_of_transition (leads_to q s e)) events ≡ es ++ entries_of q s (e ∷ events) =
    append_assoc es (d ∷ []) (entries_of q (session_of_transition (leads_to q s e)) events)
    ∙ ap (λ l. es ++ (l ++ entries_of q (session_of_transition (leads_to q s e)) events)) (sym one) in
    subst (IsCut q lines x before (es ++ entries_of q s (e ∷ events)) (under_way q s (e ∷ events))) (sym (left_split q s h e events))
    (subst (λ l. IsCut q lines x before l (under_way q s (e ∷ events))
    (crash_after q (session_of_transition (leads_to q s e)) (h ++ (leads_to q s e).items) events)) entries more)

cut_events : {A : Type 0} (q : Geometry) (lines : List (List ℕ)) (x : DurableState) (before : List Item)
    (s : ProgramSession) (events : List (Event A)) → Told lines events → Cuts q lines x before s events
cut_events q lines x before s [] told es given h valid is same t = rw (append-nil es) (record {
  valid = valid;
  program = same;
  more = given;
  items = append-nil h ∙ is;
  follows = follows_of q lines (after_all q x es) given s.session.stored s.session.activity s.session.current t;
})
cut_events q lines x before s (e ∷ events) told es given h valid is same t =
    cut_next q lines x before es given h s e events valid is
    (next_step q lines (after_all q x es) given s.program s.session e
    (λ text c. told text (Contains-append_left (given_by e) (lines_given events) text c)) same t)
    (cut_events q lines x before (session_of_transition (leads_to q s e)) events
    (λ text c. told text (Contains-append_right (given_by e) (lines_given events) text c)))

-- ---- an entry is committed exactly if the reply is Done

abbrev Counts : Transition → Type 0
Counts out = length out.entries ≡ done_count out.reply

counts_if : (b : Bool) (x y : Transition) → Counts x → Counts y → Counts (if b then x else y)
counts_if true x y m n = m
counts_if false x y m n = n

counts_idle : (a : Activity) → 0 ≡ done_count (idleness a)
counts_idle activity.Idle = refl
counts_idle activity.Running = refl
counts_idle activity.Stopped = refl

counts_load : (P : List ℕ) (s : SessionModel) (text : List ℕ) (o : Option Fault) → Counts (load_unless P s text o)
counts_load P s text (Some f) = refl
counts_load P s text None = refl

counts_mdi : (P : List ℕ) (s : SessionModel) (text : List ℕ) (r : Result Done Fault) → Counts (mdi_by P s text r)
counts_mdi P s text (Ok done) = refl
counts_mdi P s text (Err f) = refl

counts_reference : (P : List ℕ) (s : SessionModel) (point : Point) (o : Option Fault) → Counts (reference_unless P s point o)
counts_reference P s point (Some f) = refl
counts_reference P s point None = refl

counts_abandon : (P : List ℕ) (s : SessionModel) (o : Option Fault) → Counts (abandon_unless P s o)
counts_abandon P s (Some f) = refl
counts_abandon P s None = refl

counts_tool : (P : List ℕ) (s : SessionModel) (slot : ℕ) (nm : ℤ) (o : Option Fault) → Counts (tool_unless P s slot nm o)
counts_tool P s slot nm (Some f) = refl
counts_tool P s slot nm None = refl

counts_by : (P : List ℕ) (s : SessionModel) (half : HalfModel) (from : Point) (r : Result Done Fault) → Counts (resume_by P s half from r)
counts_by P s half from (Ok done) = refl
counts_by P s half from (Err f) = refl

counts_from : (q : Geometry) (P : List ℕ) (s : SessionModel) (half : HalfModel) (o : Option Point) → Counts (resume_from q P s half o)
counts_from q P s half None = refl
counts_from q P s half (Some from) = counts_by P s half from (done_again q s.stored half.text)

counts_half : (q : Geometry) (P : List ℕ) (s : SessionModel) (o : Option HalfModel) → Counts (resume_half q P s o)
counts_half q P s None = refl
counts_half q P s (Some half) = counts_from q P s half half.at

opening_counts : (n : ℕ) (o : Option Opened) → 0 ≡ done_count (opening_reply n o)
opening_counts n None = refl
opening_counts n (Some open_part.Segment) = refl
opening_counts n (Some open_part.Approach) = refl

counts_line : (P : List ℕ) (s : SessionModel) (line : ProgramLineModel) (r : Result Done Fault) → Counts (begin_by P s line r)
counts_line P s line (Ok done) = refl
counts_line P s line (Err f) = refl

counts_begin : (q : Geometry) (P : List ℕ) (s : SessionModel) (o : Option ProgramLineModel) → Counts (begin q P s o)
counts_begin q P s None = refl
counts_begin q P s (Some line) = counts_line P s line (done_of q P s.stored source.Program line.text s.block_delete)

counts_end : (q : Geometry) (P : List ℕ) (s : SessionModel) (o : Option CurrentBlockModel) → Counts (end q P s o)
counts_end q P s (Some c) = refl
counts_end q P s None = counts_if (is_running s.activity) _ _ (counts_begin q P s (program_line_at P s.stored.place)) (counts_idle s.activity)

counts_open : (q : Geometry) (P : List ℕ) (s : SessionModel) (o : Option HalfModel) → Counts (open_next q P s o)
counts_open q P s (Some half) = opening_counts half.index half.opened
counts_open q P s None = counts_end q P s s.current

counts_hand : (q : Geometry) (P : List ℕ) (s : SessionModel) (o : Option Item) → Counts (hand_next q P s o)
counts_hand q P s (Some item) = refl
counts_hand q P s None = counts_open q P s (opening_of s.current)

counts : {A : Type 0} (q : Geometry) (P : List ℕ) (s : SessionModel) (e : Event A) → Counts (step q P s e)
counts q P s (event.Load text) = counts_load P s text (load_refusal s text)
counts q P s event.Start = counts_if (not (accepts_load s)) _ _ refl
    (counts_if (not s.stored.setup.modal.point_known) _ _ refl (counts_if (s.stored.length == 0) _ _ refl refl))
counts q P s event.Hold = counts_if (is_running s.activity || is_some s.current) _ _ refl (counts_idle s.activity)
counts q P s event.Continue =
    counts_if s.held _ _ refl
    (counts_if (is_running s.activity || is_some s.current) _ _ refl (counts_if (is_idle s.activity) _ _ refl refl))
counts q P s (event.Mdi text) =
    counts_if (refuses_mdi s) _ _ refl
    (counts_if (not s.stored.setup.modal.point_known) _ _ refl
    (counts_mdi P s text (done_of q P s.stored source.Mdi text s.block_delete)))
counts q P s (event.Reference point) = counts_reference P s point (reference_refusal q s point)
counts q P s event.Resume = counts_if (not (is_at_rest s)) _ _ refl (counts_half q P s s.stored.half)
counts q P s event.Abandon = counts_abandon P s (abandon_refusal s)
counts q P s (event.Tool slot nm) = counts_tool P s slot nm (tool_refusal s slot nm)
counts q P s (event.OptionalStop wanted) = refl
counts q P s (event.BlockDelete on) = refl
counts q P s event.Status = refl
counts q P s event.Tick = counts_if s.held _ _ refl (counts_hand q P s (item_of s.current))

counts_all : {A : Type 0} (q : Geometry) (s : ProgramSession) (events : List (Event A)) → length (entries_of q s events) ≡ dones (replies_of q s events)
counts_all q s [] = refl
counts_all q s (e ∷ events) =
    omega (
      arith,
      length-append (leads_to q s e).entries
          (entries_of q (session_of_transition (leads_to q s e)) events),
      counts q s.program s.session e,
      counts_all q (session_of_transition (leads_to q s e)) events,
    )

pub crash_after_events : (A : Type 0) → CrashAfterEvents A
crash_after_events A q x before events = (
  cut_events q (lines_given events) x before (session_at_power_on x) events (λ text c. c) [] [] before tt
      (sym (append-nil (before ++ []) ∙ append-nil before)) refl (refl, refl, inl refl),
  counts_all q (session_at_power_on x) events,
)

-- ---- what is under way comes next

-- the next entry of a session stays the next one until it is committed
abbrev Keeps : Entry → Transition → Type 0
Keeps next out = ((out.entries ≡ []) × (entry_of out.next.current ≡ next ∷ [])) ⊎ (out.entries ≡ next ∷ [])

keeps_if : (next : Entry) (b : Bool) (x y : Transition) → Keeps next x → Keeps next y → Keeps next (if b then x else y)
keeps_if next true x y p q = p
keeps_if next false x y p q = q

-- a reply that leaves the block unchanged
keeps_block : (P : List ℕ) (r : Reply) (u : SessionModel) (next : Entry) → entry_of u.current ≡ next ∷ [] → Keeps next (answers P r u)
keeps_block P r u next is = inl (refl, is)

keeps_work : (q : Geometry) (P : List ℕ) (s : SessionModel) (c : CurrentBlockModel) (g : Stage) (its : List Item) (left : List Segment)
    → Keeps (entry_on c g) (hand_next q P (record s { current = Some (record c { stage = g; items = its; left = left }) }) (first_of its))
keeps_work q P s c g (item ∷ its) left = inl (refl, refl)
keeps_work q P s c (stage.ToApproach a) [] left = inl (refl, refl)
keeps_work q P s c (stage.OnApproach a) [] left = inr refl
keeps_work q P s c stage.OnBlock [] (segment ∷ left) = inl (refl, refl)
keeps_work q P s c stage.OnBlock [] [] = inr refl

keeps : {A : Type 0} (q : Geometry) (P : List ℕ) (s : SessionModel) (c : CurrentBlockModel) (e : Event A)
    → Keeps (entry_on c c.stage) (step q P (record s { current = Some c }) e)
keeps q P s c (event.Load text) = inl (refl, refl)
keeps q P s c event.Start = inl (refl, refl)
keeps q P s c event.Hold = keeps_if _ (is_running s.activity || true) _ _ (inl (refl, refl)) (inl (refl, refl))
keeps q P s c event.Continue =
    keeps_if _ s.held _ _ (inl (refl, refl)) (keeps_if _ (is_running s.activity || true) _ _ (inl (refl, refl))
    (keeps_if _ (is_idle s.activity) _ _ (inl (refl, refl)) (inl (refl, refl))))
keeps q P s c (event.Mdi text) = inl (refl, refl)
keeps q P s c (event.Reference point) = inl (refl, refl)
keeps q P s c event.Resume = inl (refl, refl)
keeps q P s c event.Abandon = inl (refl, refl)
keeps q P s c (event.Tool slot nm) = inl (refl, refl)
keeps q P s c (event.OptionalStop wanted) = inl (refl, refl)
keeps q P s c (event.BlockDelete on) = inl (refl, refl)
keeps q P s c event.Status = inl (refl, refl)
keeps q P s c event.Tick = keeps_if _ s.held _ _ (inl (refl, refl)) (keeps_work q P s c c.stage c.items c.left)

-- what a session commits from now on, and then has under way, begins with what it has under way now
abbrev pub Follows : {A : Type 0} → Geometry → ProgramSession → Entry → List (Event A) → Type 0
Follows q s next events = (later : List Entry) × (entries_of q s events ++ under_way q s events ≡ next ∷ later)

follow_next : {A : Type 0} (q : Geometry) (s : ProgramSession) (next : Entry) (e : Event A) (events : List (Event A)) → Keeps next (leads_to q s e)
    → (entry_of (leads_to q s e).next.current ≡ next ∷ [] → Follows q (session_of_transition (leads_to q s e)) next events) → Follows q s next (e ∷ events)
follow_next q s next e events (inl k) on =
    let rest = on k.1 in
    let after = session_of_transition (leads_to q s e) in
    (rest.0, ap (λ (l : List Entry). (l ++ entries_of q after events) ++ under_way q after events) k.0 ∙ rest.1)
follow_next q s next e events (inr k) on =
    let after = session_of_transition (leads_to q s e) in
    (entries_of q after events ++ under_way q after events, ap (λ (l : List Entry). (l ++ entries_of q after events) ++ under_way q after events) k)

same_head : (a b : Entry) (more : List Entry) → a ∷ [] ≡ b ∷ more → a ≡ b
same_head a b more is = cc

keeps_of : {A : Type 0} (q : Geometry) (P : List ℕ) (s : SessionModel) (o : Option CurrentBlockModel) (next : Entry)
    (more : List Entry) (e : Event A) → entry_of o ≡ next ∷ more
    → Keeps next (step q P (record s { current = o }) e)
keeps_of q P s None next more e is = absurd (let z : [] ≡ next ∷ more = is in cc)
keeps_of q P s (Some c) next more e is = subst (λ (n : Entry). Keeps n (step q P (record s { current = Some c }) e))
    (same_head (entry_on c c.stage) next more is) (keeps q P s c e)

follow_all : {A : Type 0} (q : Geometry) (s : ProgramSession) (next : Entry) (more : List Entry)
    (events : List (Event A)) → entry_of s.session.current ≡ next ∷ more → Follows q s next events
follow_all q s next more [] is = (more, is)
follow_all q s next more (e ∷ events) is =
    follow_next q s next e events (keeps_of q s.program s.session s.session.current next more e is)
    (λ there. follow_all q (session_of_transition (leads_to q s e)) next [] events there)

tail_later : {A : Type 0} (q : Geometry) (lines : List (List ℕ)) (x : DurableState) (s : ProgramSession)
    (events : List (Event A)) (saved : StoredModel) (given : List Item)
    → UncommittedTail q lines x (entry_of s.session.current) saved given
    → UncommittedTail q lines x (entries_of q s events ++ under_way q s events) saved given
tail_later q lines x s events _ _ Nothing_open = Nothing_open
tail_later q lines x s events _ _ (Approach_open half approach begun left later next held way whole) =
    let more = follow_all q s Approached later events next in
    Approach_open half approach begun left more.0 more.1 held way whole
tail_later q lines x s events _ _ (Segment_open from text block_delete done before segment rest begun left later next is split whole) =
    let more = follow_all q s (Block from text block_delete) later events next in
    Segment_open from text block_delete done before segment rest begun left more.0 more.1 is split whole

-- a cut is still one if everything that later events lead to comes next
pub cut_later : {A : Type 0} (q : Geometry) (lines : List (List ℕ)) (x : DurableState) (before : List Item)
    (entries : List Entry) (s : ProgramSession) (events : List (Event A)) (left : CrashState)
    → IsCut q lines x before entries (entry_of s.session.current) left → IsCut q lines x before entries (entries_of q s events ++ under_way q s events) left
cut_later q lines x before entries s events left cut = record {
  valid = cut.valid;
  program = cut.program;
  more = cut.more;
  items = cut.items;
  follows = tail_later q lines (after_all q x entries) s events left.standing.saved cut.more cut.follows;
}
