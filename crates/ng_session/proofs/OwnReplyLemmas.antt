-- A session refuses only for causes of its own: its replies report neither a lack of memory, nor a counter, nor a
-- failed device.
use Rattle.std.proofs.Common.{◌≡◌, ◌==◌, ℕ, ℤ, Bool, true, false, not, ◌||◌, if◌then◌else◌, nat_lt, List, length, Option, Some, None, Result, Ok, Err, refl}
use Rattle.std.specs.Option.{is_some, is_none}
use Rattle.ng_num.specs.declared.fault.Fault.{Fault}
use Rattle.ng_num.specs.declared.point.Point.{Point}
use Rattle.ng_words.specs.declared.start.LineKind.{LineKind}
use Rattle.ng_words.specs.declared.start.LineKind.TheVariants.{Blank, Percent, Other}
use Rattle.ng_text.specs.Percent.{first_kind, missing_end}
use Rattle.ng_text.specs.Programs.{ProgramLineModel, lines_before, program_line_at}
use Rattle.ng_block.specs.Effects.{Done}
use Rattle.ng_canon.specs.Geometry.{is_inside}
use Rattle.ng_offsets.specs.Tools.{is_tool_length}
use Rattle.ng_layout.specs.Tools.{takes_slot}
use Rattle.ng_layout.specs.Stored.{HalfModel}
use Rattle.ng_layout.specs.declared.half.Opened.{Opened}
use Rattle.ng_layout.specs.declared.half.Opened.TheVariants as open_part
use Rattle.ng_layout.specs.declared.half.Source.TheVariants as source
use Rattle.ng_canon.specs.declared.geometry.Geometry.{Geometry}
use Rattle.ng_session.specs.Entries.{done_of, done_again}
use Rattle.ng_session.specs.Session.{SessionModel, Transition, idleness, accepts_load, is_at_rest, is_idle, is_running}
use Rattle.ng_session.specs.Operator.{start, hold, resume_held, mdi, mdi_by, refuses_mdi, load, load_unless}
use Rattle.ng_session.specs.Operator.{load_refusal, reference, reference_unless, reference_refusal, abandon}
use Rattle.ng_session.specs.Operator.{abandon_unless, abandon_refusal, tool, tool_unless, tool_refusal, resume}
use Rattle.ng_session.specs.Operator.{resume_half, resume_from, resume_by}
use Rattle.ng_session.specs.Ticking.{tick, begin, begin_by, open_part_of, opening_of, opening_reply, item_of, commit}
use Rattle.ng_session.specs.Ticking.{if_some, hand_out}
use Rattle.ng_session.specs.Step.{step}
use Rattle.ng_session.specs.declared.activity.Activity.{Activity}
use Rattle.ng_session.specs.declared.activity.Activity.TheVariants as activity
use Rattle.ng_session.specs.declared.event.Event.{Event}
use Rattle.ng_session.specs.declared.event.Event.TheVariants as event
use Rattle.ng_session.specs.declared.reply.Reply.{Reply}
use Rattle.ng_session.specs.declared.reply.Reply.TheVariants as reply
use Rattle.ng_session.proofs.OwnFaultLemmas.{is_own, RefusesOwn, own_done, own_again}

-- a reply that isn't a refusal, or a refusal for a cause of the session's own
abbrev pub TellsOwn : Reply → Type 0
TellsOwn (reply.Refused fault) = is_own fault ≡ true
TellsOwn _ = Unit {0}

own_if : (b : Bool) (x y : Transition) → TellsOwn x.reply → TellsOwn y.reply → TellsOwn (if b then x else y).reply
own_if true x y one other = one
own_if false x y one other = other

own_idleness : (a : Activity) → TellsOwn (idleness a)
own_idleness activity.Idle = tt
own_idleness activity.Running = tt
own_idleness activity.Stopped = tt

-- ---- the operator's events

own_start : (program : List ℕ) (s : SessionModel) → TellsOwn (start program s).reply
own_start program s =
    own_if (not (accepts_load s)) _ _ refl (own_if (not s.stored.setup.modal.point_known) _ _ refl (own_if (s.stored.length == 0) _ _ refl tt))

own_hold : (program : List ℕ) (s : SessionModel) → TellsOwn (hold program s).reply
own_hold program s = own_if (is_running s.activity || is_some s.current) _ _ tt (own_idleness s.activity)

own_continue : (program : List ℕ) (s : SessionModel) → TellsOwn (resume_held program s).reply
own_continue program s =
    own_if s.held _ _ tt (own_if (is_running s.activity || is_some s.current) _ _ refl (own_if (is_idle s.activity) _ _ refl tt))

own_mdi_by : (program : List ℕ) (s : SessionModel) (text : List ℕ) (r : Result Done Fault) → RefusesOwn r → TellsOwn (mdi_by program s text r).reply
own_mdi_by program s text (Ok done) own = tt
own_mdi_by program s text (Err fault) own = own

own_mdi : (geometry : Geometry) (program : List ℕ) (s : SessionModel) (text : List ℕ) → TellsOwn (mdi geometry program s text).reply
own_mdi geometry program s text =
    own_if (refuses_mdi s) _ _ refl (own_if (not s.stored.setup.modal.point_known) _ _ refl
    (own_mdi_by program s text (done_of geometry program s.stored source.Mdi text s.block_delete)
    (own_done geometry program s.stored source.Mdi text s.block_delete)))

-- the reason why something is refused, if it is, is the session's own
abbrev IsOwn : Option Fault → Type 0
IsOwn None = Unit {0}
IsOwn (Some fault) = is_own fault ≡ true

own_unless : (b : Bool) (one other : Option Fault) → IsOwn one → IsOwn other → IsOwn (if b then one else other)
own_unless true one other first second = first
own_unless false one other first second = second

own_load_unless : (program : List ℕ) (s : SessionModel) (text : List ℕ) (o : Option Fault) → IsOwn o → TellsOwn (load_unless program s text o).reply
own_load_unless program s text None own = tt
own_load_unless program s text (Some fault) own = own

own_load : (program : List ℕ) (s : SessionModel) (text : List ℕ) → TellsOwn (load program s text).reply
own_load program s text =
    own_load_unless program s text (load_refusal s text)
    (own_unless (not (accepts_load s)) _ _ refl (own_unless (nat_lt s.stored.program_limit (length text)) _ _ refl tt))

own_reference_unless : (program : List ℕ) (s : SessionModel) (point : Point) (o : Option Fault) → IsOwn o → TellsOwn (reference_unless program s point o).reply
own_reference_unless program s point None own = tt
own_reference_unless program s point (Some fault) own = own

own_reference : (geometry : Geometry) (program : List ℕ) (s : SessionModel) (point : Point) → TellsOwn (reference geometry program s point).reply
own_reference geometry program s point =
    own_reference_unless program s point (reference_refusal geometry s point)
    (own_unless (not (is_at_rest s)) _ _ refl (own_unless (not (is_inside geometry point)) _ _ refl tt))

own_abandon_unless : (program : List ℕ) (s : SessionModel) (o : Option Fault) → IsOwn o → TellsOwn (abandon_unless program s o).reply
own_abandon_unless program s None own = tt
own_abandon_unless program s (Some fault) own = own

own_abandon : (program : List ℕ) (s : SessionModel) → TellsOwn (abandon program s).reply
own_abandon program s =
    own_abandon_unless program s (abandon_refusal s) (own_unless (not (is_at_rest s)) _ _ refl (own_unless (is_none s.stored.half) _ _ refl tt))

own_tool_unless : (program : List ℕ) (s : SessionModel) (slot : ℕ) (nm : ℤ) (o : Option Fault) → IsOwn o → TellsOwn (tool_unless program s slot nm o).reply
own_tool_unless program s slot nm None own = tt
own_tool_unless program s slot nm (Some fault) own = own

own_tool : (program : List ℕ) (s : SessionModel) (slot : ℕ) (nm : ℤ) → TellsOwn (tool program s slot nm).reply
own_tool program s slot nm =
    own_tool_unless program s slot nm (tool_refusal s slot nm)
    (own_unless (not (accepts_load s)) _ _ refl (own_unless (not (takes_slot s.stored.tools slot)) _ _ refl (own_unless (not (is_tool_length nm)) _ _ refl tt)))

own_resume_by : (program : List ℕ) (s : SessionModel) (half : HalfModel) (from : Point) (r : Result Done Fault)
    → RefusesOwn r → TellsOwn (resume_by program s half from r).reply
own_resume_by program s half from (Ok done) own = tt
own_resume_by program s half from (Err fault) own = own

own_resume_from : (geometry : Geometry) (program : List ℕ) (s : SessionModel) (half : HalfModel) (at : Option Point)
    → TellsOwn (resume_from geometry program s half at).reply
own_resume_from geometry program s half None = refl
own_resume_from geometry program s half (Some from) = own_resume_by program s half from
    (done_again geometry s.stored half.text) (own_again geometry s.stored half.text)

own_resume_half : (geometry : Geometry) (program : List ℕ) (s : SessionModel) (half : Option HalfModel) → TellsOwn (resume_half geometry program s half).reply
own_resume_half geometry program s None = refl
own_resume_half geometry program s (Some half) = own_resume_from geometry program s half half.at

own_resume : (geometry : Geometry) (program : List ℕ) (s : SessionModel) → TellsOwn (resume geometry program s).reply
own_resume geometry program s = own_if (not (is_at_rest s)) _ _ refl (own_resume_half geometry program s s.stored.half)

-- ---- a Tick

own_if_some : {T : Type 0} (o : Option T) (found : T → Transition) (otherwise : Transition)
    → ((x : T) → TellsOwn (found x).reply) → TellsOwn otherwise.reply → TellsOwn (if_some o found otherwise).reply
own_if_some None found otherwise one other = other
own_if_some (Some x) found otherwise one other = one x

own_opening : (index : ℕ) (o : Option Opened) → TellsOwn (opening_reply index o)
own_opening index None = tt
own_opening index (Some open_part.Segment) = tt
own_opening index (Some open_part.Approach) = tt

own_missing_end : (kind : LineKind) → is_own (missing_end kind) ≡ true
own_missing_end Blank = refl
own_missing_end Percent = refl
own_missing_end Other = refl

own_begin_by : (program : List ℕ) (s : SessionModel) (line : ProgramLineModel) (r : Result Done Fault)
    → RefusesOwn r → TellsOwn (begin_by program s line r).reply
own_begin_by program s line (Ok done) own = tt
own_begin_by program s line (Err fault) own = own

pub own_begin : (geometry : Geometry) (program : List ℕ) (s : SessionModel) (line : Option ProgramLineModel) → TellsOwn (begin geometry program s line).reply
own_begin geometry program s None = own_missing_end (first_kind (lines_before program s.stored.place))
own_begin geometry program s (Some line) =
    own_begin_by program s line (done_of geometry program s.stored source.Program line.text s.block_delete)
    (own_done geometry program s.stored source.Program line.text s.block_delete)

own_tick : (geometry : Geometry) (program : List ℕ) (s : SessionModel) → TellsOwn (tick geometry program s).reply
own_tick geometry program s =
    own_if s.held _ _ tt (own_if_some (item_of s.current) (λ item. hand_out program s item) _ (λ item. tt)
    (own_if_some (opening_of s.current) (λ half. open_part_of geometry program s half) _ (λ half. own_opening half.index half.opened)
    (own_if_some s.current (λ c. commit program s c) _ (λ c. tt)
    (own_if (is_running s.activity) _ _ (own_begin geometry program s (program_line_at program s.stored.place)) (own_idleness s.activity)))))

-- ---- an event

pub own_step : {A : Type 0} (geometry : Geometry) (program : List ℕ) (s : SessionModel) (e : Event A) → TellsOwn (step geometry program s e).reply
own_step geometry program s (event.Load text) = own_load program s text
own_step geometry program s event.Start = own_start program s
own_step geometry program s event.Hold = own_hold program s
own_step geometry program s event.Continue = own_continue program s
own_step geometry program s (event.Mdi text) = own_mdi geometry program s text
own_step geometry program s (event.Reference point) = own_reference geometry program s point
own_step geometry program s event.Resume = own_resume geometry program s
own_step geometry program s event.Abandon = own_abandon program s
own_step geometry program s (event.Tool slot nm) = own_tool program s slot nm
own_step geometry program s (event.OptionalStop wanted) = tt
own_step geometry program s (event.BlockDelete on) = tt
own_step geometry program s event.Status = tt
own_step geometry program s event.Tick = own_tick geometry program s
