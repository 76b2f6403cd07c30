-- For each event: the reply, what is handed out and committed, the session after it, and what it needs (own).
use Rattle.std.specs.Prelude.{◌≡◌, ℕ, Bool, true, false, ◌||◌, Option, None, Some, List}
use Rattle.std.specs.Option.{is_some}
use Rattle.ng_canon.specs.declared.geometry.Geometry.{Geometry}
use Rattle.ng_layout.specs.Stored.{HalfModel}
use Rattle.ng_layout.specs.declared.half.Source.TheVariants as source
use Rattle.ng_session.specs.declared.reply.Reply.TheVariants as reply
use Rattle.ng_session.specs.declared.event.Event.{Event}
use Rattle.ng_session.specs.declared.event.Event.TheVariants as event
use Rattle.ng_session.specs.Session.{SessionModel, Transition, answers, is_running}
use Rattle.ng_session.specs.Operator.{start, hold, resume_held, mdi, load_refusal, load, reference_refusal, reference}
use Rattle.ng_session.specs.Operator.{abandon_refusal, abandon, resume_refusal, resume, tool_refusal, tool}
use Rattle.ng_session.specs.Operator.{session_status}
use Rattle.ng_session.specs.Ticking.{tick}

abbrev pub step : {A : Type 0} → Geometry → List ℕ → SessionModel → Event A → Transition
step geometry program s (event.Load text) = load program s text
step geometry program s event.Start = start program s
step geometry program s event.Hold = hold program s
step geometry program s event.Continue = resume_held program s
step geometry program s (event.Mdi text) = mdi geometry program s text
step geometry program s (event.Reference point) = reference geometry program s point
step geometry program s event.Resume = resume geometry program s
step geometry program s event.Abandon = abandon program s
step geometry program s (event.Tool slot nm) = tool program s slot nm
step geometry program s (event.OptionalStop wanted) = answers program reply.Taken (record s { optional_stop = wanted })
step geometry program s (event.BlockDelete on) = answers program reply.Taken (record s { block_delete = on })
step geometry program s event.Status = answers program (reply.Status (session_status s)) s
step geometry program s event.Tick = tick geometry program s

-- a block is current, or the program runs
abbrev pub has_work : SessionModel → Bool
has_work s = is_running s.activity || is_some s.current

-- the program runs, and no block is current
abbrev pub IsBetweenLines : SessionModel → Type 0
IsBetweenLines s = (s.current ≡ None) × (is_running s.activity ≡ true)

-- the half-done block is a line of the program
abbrev pub IsProgramsLine : Option HalfModel → Type 0
IsProgramsLine None = ⊥
IsProgramsLine (Some half) = half.source ≡ source.Program

-- For each event:

-- The event needs memory: a program that is loaded.
abbrev pub TakesMemory : {A : Type 0} → Geometry → SessionModel → Event A → Type 0
TakesMemory geometry s (event.Load text) = load_refusal s text ≡ None
TakesMemory geometry s event.Start = ⊥
TakesMemory geometry s event.Hold = ⊥
TakesMemory geometry s event.Continue = ⊥
TakesMemory geometry s (event.Mdi text) = ⊥
TakesMemory geometry s (event.Reference point) = ⊥
TakesMemory geometry s event.Resume = ⊥
TakesMemory geometry s event.Abandon = ⊥
TakesMemory geometry s (event.Tool slot nm) = ⊥
TakesMemory geometry s (event.OptionalStop wanted) = ⊥
TakesMemory geometry s (event.BlockDelete on) = ⊥
TakesMemory geometry s event.Status = ⊥
TakesMemory geometry s event.Tick = ⊥

-- The event needs the device: what is committed, a line of the program that goes on, a Tick that finds something to do.
abbrev pub AsksDevice : {A : Type 0} → Geometry → SessionModel → Event A → Type 0
AsksDevice geometry s (event.Load text) = load_refusal s text ≡ None
AsksDevice geometry s event.Start = ⊥
AsksDevice geometry s event.Hold = ⊥
AsksDevice geometry s event.Continue = ⊥
AsksDevice geometry s (event.Mdi text) = ⊥
AsksDevice geometry s (event.Reference point) = reference_refusal geometry s point ≡ None
AsksDevice geometry s event.Resume = (resume_refusal geometry s ≡ None) × IsProgramsLine s.stored.half
AsksDevice geometry s event.Abandon = abandon_refusal s ≡ None
AsksDevice geometry s (event.Tool slot nm) = tool_refusal s slot nm ≡ None
AsksDevice geometry s (event.OptionalStop wanted) = ⊥
AsksDevice geometry s (event.BlockDelete on) = ⊥
AsksDevice geometry s event.Status = ⊥
AsksDevice geometry s event.Tick = (s.held ≡ false) × (has_work s ≡ true)

-- A line of the program is read for the event: the next one, or the one of a half-done block, to find where the next
-- begins.
abbrev pub NeedsProgramLine : {A : Type 0} → Geometry → SessionModel → Event A → Type 0
NeedsProgramLine geometry s (event.Load text) = ⊥
NeedsProgramLine geometry s event.Start = ⊥
NeedsProgramLine geometry s event.Hold = ⊥
NeedsProgramLine geometry s event.Continue = ⊥
NeedsProgramLine geometry s (event.Mdi text) = ⊥
NeedsProgramLine geometry s (event.Reference point) = ⊥
NeedsProgramLine geometry s event.Resume = (resume_refusal geometry s ≡ None) × IsProgramsLine s.stored.half
NeedsProgramLine geometry s event.Abandon = ⊥
NeedsProgramLine geometry s (event.Tool slot nm) = ⊥
NeedsProgramLine geometry s (event.OptionalStop wanted) = ⊥
NeedsProgramLine geometry s (event.BlockDelete on) = ⊥
NeedsProgramLine geometry s event.Status = ⊥
NeedsProgramLine geometry s event.Tick = (s.held ≡ false) × IsBetweenLines s

-- The session replies without the device: it is neither read nor written, and nothing is handed out.
abbrev pub IsQuiet : {A : Type 0} → Event A → Type 0
IsQuiet (event.Load text) = ⊥
IsQuiet event.Start = Unit {0}
IsQuiet event.Hold = Unit {0}
IsQuiet event.Continue = Unit {0}
IsQuiet (event.Mdi text) = Unit {0}
IsQuiet (event.Reference point) = ⊥
IsQuiet event.Resume = ⊥
IsQuiet event.Abandon = ⊥
IsQuiet (event.Tool slot nm) = ⊥
IsQuiet (event.OptionalStop wanted) = Unit {0}
IsQuiet (event.BlockDelete on) = Unit {0}
IsQuiet event.Status = Unit {0}
IsQuiet event.Tick = ⊥
