-- What is known while a run is under way; only for private functions and proofs.
use Rattle.std.specs.Prelude.{ℕ, ◌+◌, ◌-◌, ◌^◌, ◌≤◌, ◌<◌, ◌≡◌, ◌≢◌, List, [], ◌∷◌, ◌++◌, Option, Result, Ok, Err, Bool, false, true, length}
use Rattle.std.specs.Io.KnownBytes.{Appends}
use Rattle.ng_canon.specs.declared.item.Item.{Item}
use Rattle.ng_lines.specs.Lines.{item_line}
use Rattle.ng_pace.specs.Calls.{IsEmpty}
use Rattle.ng_pace.specs.Due.{least_ns}
use Rattle.ng_pace.specs.Stream.{Flow, all_items}
use Rattle.ng_pace.specs.Rest.{CanRest}
use Rattle.ng_pace.specs.Run.{Event, IsRun, lines_given}
use Rattle.ng_pace.specs.declared.limits.Limits.{Limits}
use Rattle.ng_schedule.specs.Schedule.{AreNeverSooner, ArePaced, AskAtEnd, AskForMost, AskWhereFull, capacity}
use Rattle.ng_schedule.specs.Schedule.{BeginsNoLine, Timed, lines_of, span, timed_text, times_of}
use Rattle.ng_schedule.specs.declared.ending.Shown.{Shown}
use Rattle.ng_schedule.specs.declared.ending.Halt.{Halt}
use Rattle.ng_schedule.specs.declared.ending.Halt.TheVariants as halt
use Rattle.ng_schedule.specs.declared.ending.ScheduleFault.TheVariants as schedule_fault
use Rattle.ng_schedule.specs.declared.ending.Stop.{Stop}
use Rattle.ng_schedule.specs.declared.ending.Stop.TheVariants as stop
use Rattle.ng_schedule.specs.declared.giving.Schedule.{Schedule}

-- the lines of items
abbrev pub item_lines : List Item → List ℕ
item_lines [] = []
item_lines (item ∷ items) = item_line item ++ item_lines items

-- lines may still come, or the end is told
abbrev pub AskLateSoFar : Bool → List Event → Type 0
AskLateSoFar false events = AskWhereFull 0 false events
AskLateSoFar true events = AskAtEnd events

-- a stream has come from rest to here, and gave out these lines
pub record IsStreamed (ended : Bool) (limits : Limits) (timed : List Timed) (flow : Flow) : Type 0 where
  pub first : Flow
  pub events : List Event
  pub empty : IsEmpty first limits capacity
  pub run : IsRun first events flow
  pub haste : AskForMost events
  pub late : AskLateSoFar ended events
  pub capacity_is : flow.motion.capacity ≡ capacity
  pub times : timed ≡ times_of (lines_given events)
  pub percent : flow.motion.percent ≡ limits.most_percent
  pub rests : CanRest flow.motion.square flow.motion.known

-- lines were given, of which a part is written and the rest waits
pub record HasGiven (percent : ℕ) (shown : Shown) (old new : Option (List ℕ)) (timed : List Timed) (text : List ℕ) : Type 0 where
  pub never_sooner : AreNeverSooner percent timed
  pub out : List ℕ
  pub written : Appends old new out
  pub waits : timed_text shown 0 timed ≡ out ++ text

-- of the bytes so far: those that are given, those that are known, and the beginning of a line
pub record IsAt {Z : Type 0} (ended : Bool) (limits : Limits) (old new : Option (List ℕ)) (bytes partial : List ℕ) (s : Schedule Z) : Type 0 where
  pub timed : List Timed
  pub given : HasGiven limits.most_percent s.shown old new timed s.text.items
  pub streamed : IsStreamed ended limits timed s.stream
  pub lines : bytes ≡ (lines_of timed ++ item_lines (all_items s.stream)) ++ partial
  pub due : s.due_ns ≡ span timed
  pub number : s.number ≡ length timed + 1

-- the same, as long as lines may still come
abbrev pub IsUnderWay : {Z : Type 0} → Limits → Option (List ℕ) → Option (List ℕ) → List ℕ → List ℕ → Schedule Z → Type 0
IsUnderWay limits old new bytes partial s = IsAt false limits old new bytes partial s

-- what follows all that is known isn't a line, whatever comes
pub record IsStopped {Z : Type 0} (limits : Limits) (old new : Option (List ℕ)) (bytes : List ℕ) (s : Schedule Z) : Type 0 where
  pub before : List ℕ
  pub under_way : IsUnderWay limits old new before [] s
  pub rest : List ℕ
  pub parts : bytes ≡ before ++ rest
  pub some : rest ≢ []
  pub other : (more : List ℕ) → BeginsNoLine (rest ++ more)

-- the next line would be over too late
pub record IsTooLate {Z : Type 0} (limits : Limits) (old new : Option (List ℕ)) (bytes : List ℕ) (s : Schedule Z) : Type 0 where
  pub timed : List Timed
  pub given : HasGiven limits.most_percent s.shown old new timed s.text.items
  pub late : Timed
  pub least : least_ns limits.most_percent late.item ≤ late.ns
  pub before : ℕ
  pub paced : ArePaced limits timed before
  pub left : ℕ
  pub paced_late : ArePaced limits (timed ++ late ∷ []) left
  pub rest : List ℕ
  pub lines : bytes ≡ lines_of timed ++ (item_line late.item ++ rest)
  pub beyond : 2 ^ 64 - 1 ≤ span timed + late.ns
  pub number : s.number ≡ length timed + 1

-- a beginning was written
pub record IsCut (limits : Limits) (shown : Shown) (old new : Option (List ℕ)) (bytes : List ℕ) : Type 0 where
  pub timed : List Timed
  pub never_sooner : AreNeverSooner limits.most_percent timed
  pub left : ℕ
  pub paced : ArePaced limits timed left
  pub rest : List ℕ
  pub lines : bytes ≡ lines_of timed ++ rest
  pub out : List ℕ
  pub written : Appends old new out
  pub after : List ℕ
  pub begins : timed_text shown 0 timed ≡ out ++ after

-- no more lines are given, and not for limits that can't be met
abbrev pub HaltSpec : {Z : Type 0} → Limits → Option (List ℕ) → Option (List ℕ) → List ℕ → Schedule Z → Halt → Type 0
HaltSpec limits old new bytes s halt.TooLate = IsTooLate limits old new bytes s
HaltSpec limits old new bytes s (halt.Fault fault) = (fault ≢ schedule_fault.Limits) × IsCut limits s.shown old new bytes

-- no more lines are taken
abbrev pub StopSpec : {Z : Type 0} → Limits → Option (List ℕ) → Option (List ℕ) → List ℕ → Schedule Z → Stop → Type 0
StopSpec limits old new bytes s stop.NotALine = IsStopped limits old new bytes s
StopSpec limits old new bytes s (stop.Halted why) = HaltSpec limits old new bytes s why

-- a step that gave lines, where the beginning of a line is kept
abbrev pub GiveSpec : {Z T : Type 0} → Bool → Limits → Option (List ℕ) → Option (List ℕ) → List ℕ → List ℕ → Schedule Z → Result T Halt → Type 0
GiveSpec ended limits old new bytes partial s (Ok x) = IsAt ended limits old new bytes partial s
GiveSpec ended limits old new bytes partial s (Err why) = HaltSpec limits old new bytes s why

-- a step that took bytes, and keeps the beginning of a line
abbrev pub TakeSpec : {Z T : Type 0} → Limits → Option (List ℕ) → Option (List ℕ) → List ℕ → List ℕ → Schedule Z → Result T Stop → Type 0
TakeSpec limits old new bytes partial s (Ok x) = IsUnderWay limits old new bytes partial s
TakeSpec limits old new bytes partial s (Err why) = StopSpec limits old new bytes s why

-- one more line doesn't fit
abbrev pub IsFull : {Z : Type 0} → Schedule Z → Type 0
IsFull s = s.stream.motion.capacity ≤ length s.stream.motion.known + length s.stream.waiting

-- one more line fits
abbrev pub IsNotFull : {Z : Type 0} → Schedule Z → Type 0
IsNotFull s = length s.stream.motion.known + length s.stream.waiting < s.stream.motion.capacity
