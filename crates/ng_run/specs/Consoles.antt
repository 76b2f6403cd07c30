-- What a console does: what it is asked and answers, and what happens to its controller and device (own).
use Rattle.std.specs.Prelude.{◌≡◌, ◌≤◌, ◌<◌, ℕ, Bool, false, List, [], ◌∷◌, ◌++◌, Option, Result, Ok, Err, All}
use Rattle.std.specs.Prelude.{IfOk, IfErr, IfSome, IsErrAnd, length, take, flat_map}
use Rattle.std.specs.Io.KnownBytes.{Appends}
use Rattle.ng_num.specs.declared.fault.Fault.{Fault}
use Rattle.ng_num.specs.declared.fault.Fault.TheVariants.{NotFormatted, OutOfMemory}
use Rattle.ng_rig.specs.Rig.{Device}
use Rattle.ng_rig.specs.Calls.{IfHonest}
use Rattle.ng_settings.specs.declared.standard.Settings.{Settings}
use Rattle.ng_layout.specs.Storable.{IsStorable}
use Rattle.ng_journal.specs.Journal.{CountsFailure}
use Rattle.ng_commands.specs.Replies.{refused_line, tick_line}
use Rattle.ng_session.specs.Session.{resting}
use Rattle.ng_session.specs.declared.reply.Reply.{Reply}
use Rattle.ng_dialogue.specs.Hearing.{EndsText}
use Rattle.ng_dialogue.specs.declared.order.Order.{Order}
use Rattle.ng_dialogue.specs.declared.order.Order.TheVariants.{Ticks}
use Rattle.ng_dialogue.specs.declared.telling.OutputError.{OutputError}
use Rattle.ng_core.specs.Events.{program_session_of}
use Rattle.ng_core.specs.Power.{PowerOnResult, PowerOnSpec}
use Rattle.ng_core.specs.Runs.{PassesAsSession}
use Rattle.ng_core.specs.Model.{ControllerModel, IsAtRestWith}
use Rattle.ng_run.specs.Ending.{ended_by, status_of}
use Rattle.ng_run.specs.Talks.{AreBrokenOff, AreTicks, Exchange, Hears, IsAnswered, IsBegun, events_in, events_of, replies_in, words_in, words_of}
use Rattle.ng_core.specs.AnsweredEvents.{AreAnsweredEvents, answered_at}
use Rattle.ng_run.specs.declared.ending.ConsoleEnd.{ConsoleEnd}
use Rattle.ng_run.specs.declared.ending.ConsoleEnd.TheVariants.{NotPowered}
use Rattle.ng_run.specs.declared.ending.ConsoleAbort.{ConsoleAbort}
use Rattle.ng_run.specs.declared.ending.ConsoleAbort.TheVariants.{Input, Output}

-- ---- one order

-- there are this many replies to the ticks of one command, and their lines are written; or the ticks are broken off
abbrev pub MakesTicks : {E : Type 0} → ℕ → Result ℕ E → List Reply → Option (List ℕ) → Option (List ℕ) → Type 0
MakesTicks most (Ok made) replies old new = AreTicks most replies × (made ≡ length replies) × Appends old new (flat_map tick_line replies)
MakesTicks most (Err fault) replies old new = (written : List ℕ) × AreBrokenOff most replies written × Appends old new written

-- The controller is given ticks, and the lines of their replies are written; or the ticks are broken off in the last
-- line.
pub record TickOnSpec {R : Type 0} (A : Type 0) (seen : R → Device) (most : ℕ) (made : Result ℕ OutputError)
    (old new : Option (List ℕ)) (before after : ControllerModel R) : Type 0 where
  pub replies : List Reply
  pub given : AreAnsweredEvents seen (events_of {A = A} (Ticks most) replies) replies before after
  pub makes : MakesTicks most made replies old new

-- an answer is written, or a beginning of it
abbrev pub Told : {A T : Type 0} → Exchange A → Result T OutputError → Option (List ℕ) → Option (List ℕ) → Type 0
Told x (Ok done) old new = IsAnswered x × Appends old new (words_of x.order x.replies)
Told x (Err fault) old new = (written : List ℕ) × IsBegun x written × Appends old new written

-- The controller is given what an order asks, and the answer is written.
pub record AnswerSpec {A R T : Type 0} (seen : R → Device) (order : Order A) (result : Result T OutputError)
    (old new : Option (List ℕ)) (before after : ControllerModel R) : Type 0 where
  pub replies : List Reply
  pub given : AreAnsweredEvents seen (events_of order replies) replies before after
  pub tells : Told (record { order = order; replies = replies }) result old new

-- ---- the text

-- How a conversation ends, with this rest of its text, and with this much written of an answer that was broken off, if
-- one was.
abbrev pub EndsConversation : {A : Type 0} → Result ConsoleEnd ConsoleAbort → Bool → Option (List ℕ) → List (Exchange A) → List ℕ → Type 0
EndsConversation (Ok ended) broken rest begun written = (ended ≡ ended_by broken) × IfSome rest EndsText × (begun ≡ []) × (written ≡ [])
EndsConversation (Err Input) broken rest begun written = (begun ≡ []) × (written ≡ [])
EndsConversation {A} (Err Output) broken rest begun written = (last : Exchange A) × (begun ≡ last ∷ []) × IsBegun last written

-- A text is read and answered step by step: the events that it asks for are given, and the lines of the answers are
-- written. Over an honest device each stop leaves the state after the events answered by then, perhaps with the effect
-- of the event under way, and the items handed out are those of the session.
pub record Conversation {R : Type 0} (A : Type 0) (seen : R → Device) (ended : Result ConsoleEnd ConsoleAbort)
    (text old new : Option (List ℕ)) (before after : ControllerModel R) : Type 0 where
  pub answered : List (Exchange A)
  pub begun : List (Exchange A)
  pub rest : Option (List ℕ)
  pub written : List ℕ
  pub each : All IsAnswered answered
  pub hears : Hears text (answered ++ begun) rest
  pub given : AreAnsweredEvents seen (events_in (answered ++ begun)) (replies_in (answered ++ begun)) before after
  pub tells : Appends old new (words_in answered ++ written)
  pub closes : EndsConversation ended after.journal.broken rest begun written
  pub passes : before.journal.broken ≡ false → IfHonest (seen before.journal.rig) (seen after.journal.rig)
      ((program : List ℕ) → IsAtRestWith (seen before.journal.rig).trace before program
      → PassesAsSession seen (events_in (answered ++ begun)) (replies_in (answered ++ begun))
      (answered_at seen (events_in (answered ++ begun)) (replies_in (answered ++ begun)) before after given)
      before.geometry (program_session_of program before) (seen before.journal.rig).trace after)

-- ---- the console

-- a fault of power on is reported, or a beginning of the line is written
abbrev pub RefuseSpec : Fault → Result ConsoleEnd ConsoleAbort → Option (List ℕ) → Option (List ℕ) → Type 0
RefuseSpec fault (Ok ended) old new = (ended ≡ NotPowered) × Appends old new (refused_line fault)
RefuseSpec fault (Err stop) old new = (stop ≡ Output) × ((n : ℕ) × Appends old new (take n (refused_line fault)))

-- what happens after power on, and the device that is left
abbrev pub ConsoleAfterPowerOn : {R : Type 0} → Type 0 → (R → Device) → PowerOnResult R
    → Result ConsoleEnd ConsoleAbort → R → Option (List ℕ) → Option (List ℕ) → Option (List ℕ) → Type 0
ConsoleAfterPowerOn {R} A seen (Ok c) ended left text old new = (after : ControllerModel R)
    × Conversation A seen ended text old new c after × (left ≡ after.journal.rig)
ConsoleAfterPowerOn {R} A seen (Err e) ended left text old new = (left ≡ e.1) × RefuseSpec e.0 ended old new

-- A console over a device: power on, and what happens after it.
pub record ConsoleRunSpec {R : Type 0} (A : Type 0) (seen : R → Device) (settings : Settings) (rig : R)
    (text old new : Option (List ℕ)) (result : Result ConsoleEnd ConsoleAbort × R) : Type 0 where
  pub powered : PowerOnResult R
  pub starts : PowerOnSpec seen settings rig powered
  pub continues_ticks : ConsoleAfterPowerOn A seen powered result.0 result.1 text old new

-- the same, with the exit status
abbrev pub ConsoleSpec : {R : Type 0} → Type 0 → (R → Device) → Settings → R → Option (List ℕ) → Option (List ℕ) → Option (List ℕ) → ℕ × R → Type 0
ConsoleSpec A seen settings rig text old new result =
    (ended : Result ConsoleEnd ConsoleAbort) × (result.0 ≡ status_of ended) × ConsoleRunSpec A seen settings rig text old new (ended, result.1)
