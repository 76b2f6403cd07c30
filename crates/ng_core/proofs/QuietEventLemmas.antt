-- An event that needs no device leaves the stored state unchanged.
use Rattle.std.proofs.Common.{◌≡◌, ℕ, ◌==◌, Bool, true, false, not, ◌||◌, if◌then◌else◌, List, [], Option, None, Some, Result, Ok, Err, refl}
use Rattle.std.specs.Option.{is_some}
use Rattle.ng_num.specs.declared.fault.Fault.{Fault}
use Rattle.ng_block.specs.Effects.{Done}
use Rattle.ng_text.specs.Programs.{ProgramLineModel}
use Rattle.ng_layout.specs.Stored.{StoredModel}
use Rattle.ng_layout.specs.declared.half.Source.TheVariants as source
use Rattle.ng_canon.specs.declared.geometry.Geometry.{Geometry}
use Rattle.ng_session.specs.Entries.{done_of}
use Rattle.ng_session.specs.Session.{SessionModel, Transition, is_running, is_idle, accepts_load, answers, idleness}
use Rattle.ng_session.specs.Operator.{refuses_mdi, start, hold, resume_held, mdi, mdi_by}
use Rattle.ng_session.specs.Ticking.{begin, begin_by, rest}
use Rattle.ng_session.specs.Step.{step, IsQuiet, NeedsProgramLine}
use Rattle.ng_session.specs.declared.event.Event.{Event}
use Rattle.ng_session.specs.declared.activity.Activity.{Activity}
use Rattle.ng_session.specs.declared.activity.Activity.TheVariants as activity
use Rattle.ng_core.specs.Causes.{stored_for}
use Rattle.ng_session.specs.declared.event.Event.TheVariants as event

-- nothing is stored and nothing handed out
pub record IsStill (program : List ℕ) (stored : StoredModel) (out : Transition) : Type 0 where
  pub items : out.items ≡ []
  pub program_is : out.program ≡ program
  pub stored_is : out.next.stored ≡ stored
  pub nothing : stored_for out out.reply ≡ None

pub still : {program : List ℕ} {stored : StoredModel} {out : Transition} → out.items ≡ [] → out.program ≡ program
    → out.next.stored ≡ stored → stored_for out out.reply ≡ None → IsStill program stored out
still items program stored nothing = record { items = items; program_is = program; stored_is = stored; nothing = nothing }

-- nothing is stored for the reply of a session that has nothing to do
pub idle_stores : (out : Transition) (a : Activity) → stored_for out (idleness a) ≡ None
idle_stores out activity.Idle = refl
idle_stores out activity.Running = refl
idle_stores out activity.Stopped = refl

by_if : (P : List ℕ) (x : StoredModel) (b : Bool) (o q : Transition) → IsStill P x o → IsStill P x q → IsStill P x (if b then o else q)
by_if P x true o q f g = f
by_if P x false o q f g = g

still_start : (P : List ℕ) (s : SessionModel) → IsStill P s.stored (start P s)
still_start P s =
    by_if P s.stored (not (accepts_load s)) _ _ (still refl refl refl refl)
    (by_if P s.stored (not s.stored.setup.modal.point_known) _ _ (still refl refl refl refl)
    (by_if P s.stored (s.stored.length == 0) _ _ (still refl refl refl refl) (still refl refl refl refl)))

still_hold : (P : List ℕ) (s : SessionModel) → IsStill P s.stored (hold P s)
still_hold P s =
    by_if P s.stored (is_running s.activity || is_some s.current) _ _ (still refl refl refl refl)
    (still refl refl refl (idle_stores (answers P (idleness s.activity) s) s.activity))

still_go : (P : List ℕ) (s : SessionModel) → IsStill P s.stored (resume_held P s)
still_go P s =
    by_if P s.stored s.held _ _ (still refl refl refl refl)
    (by_if P s.stored (is_running s.activity || is_some s.current) _ _ (still refl refl refl refl)
    (by_if P s.stored (is_idle s.activity) _ _ (still refl refl refl refl) (still refl refl refl refl)))

still_mdi_by : (P : List ℕ) (s : SessionModel) (text : List ℕ) (done : Result Done Fault) → IsStill P s.stored (mdi_by P s text done)
still_mdi_by P s text (Ok done) = still refl refl refl refl
still_mdi_by P s text (Err fault) = still refl refl refl refl

still_mdi : (q : Geometry) (P : List ℕ) (s : SessionModel) (text : List ℕ) → IsStill P s.stored (mdi q P s text)
still_mdi q P s text =
    by_if P s.stored (refuses_mdi s) _ _ (still refl refl refl refl)
    (by_if P s.stored (not s.stored.setup.modal.point_known) _ _ (still refl refl refl refl)
    (still_mdi_by P s text (done_of q P s.stored source.Mdi text s.block_delete)))

-- an event that neither writes to the device nor hands anything out
pub still_step : {A : Type 0} (q : Geometry) (P : List ℕ) (s : SessionModel) (e : Event A) → IsQuiet e → IsStill P s.stored (step q P s e)
still_step q P s (event.Load text) quiet = absurd quiet
still_step q P s event.Start quiet = still_start P s
still_step q P s event.Hold quiet = still_hold P s
still_step q P s event.Continue quiet = still_go P s
still_step q P s (event.Mdi text) quiet = still_mdi q P s text
still_step q P s (event.Reference point) quiet = absurd quiet
still_step q P s event.Resume quiet = absurd quiet
still_step q P s event.Abandon quiet = absurd quiet
still_step q P s (event.Tool slot nm) quiet = absurd quiet
still_step q P s (event.OptionalStop wanted) quiet = still refl refl refl refl
still_step q P s (event.BlockDelete on) quiet = still refl refl refl refl
still_step q P s event.Status quiet = still refl refl refl refl
still_step q P s event.Tick quiet = absurd quiet

-- and no line is read for it
pub quiet_unread : {A : Type 0} (q : Geometry) (s : SessionModel) (e : Event A) → IsQuiet e → NeedsProgramLine q s e → ⊥
quiet_unread q s (event.Load text) quiet read = read
quiet_unread q s event.Start quiet read = read
quiet_unread q s event.Hold quiet read = read
quiet_unread q s event.Continue quiet read = read
quiet_unread q s (event.Mdi text) quiet read = read
quiet_unread q s (event.Reference point) quiet read = read
quiet_unread q s event.Resume quiet read = quiet
quiet_unread q s event.Abandon quiet read = read
quiet_unread q s (event.Tool slot nm) quiet read = read
quiet_unread q s (event.OptionalStop wanted) quiet read = read
quiet_unread q s (event.BlockDelete on) quiet read = read
quiet_unread q s event.Status quiet read = read
quiet_unread q s event.Tick quiet read = quiet

-- a Tick finds nothing to do
pub still_rest : (P : List ℕ) (s : SessionModel) → IsStill P s.stored (rest P s)
still_rest P s = still refl refl refl (idle_stores (rest P s) s.activity)

still_begin_by : (P : List ℕ) (s : SessionModel) (line : ProgramLineModel) (done : Result Done Fault) → IsStill P s.stored (begin_by P s line done)
still_begin_by P s line (Ok done) = still refl refl refl refl
still_begin_by P s line (Err fault) = still refl refl refl refl

-- a line of the program is begun, or the program stops
pub still_begin : (q : Geometry) (P : List ℕ) (s : SessionModel) (line : Option ProgramLineModel) → IsStill P s.stored (begin q P s line)
still_begin q P s None = still refl refl refl refl
still_begin q P s (Some line) = still_begin_by P s line (done_of q P s.stored source.Program line.text s.block_delete)
