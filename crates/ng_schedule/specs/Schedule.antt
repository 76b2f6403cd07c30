-- What a run writes, and how it ends (own): the lines in their order, each behind the time at which it is due.
use Rattle.std.specs.Prelude.{ℕ, ◌+◌, ◌-◌, ◌^◌, ◌≤◌, ◌≡◌, ◌≢◌, ◌⊎◌, List, [], ◌∷◌, ◌++◌, Option, Some, None, Result}
use Rattle.std.specs.Prelude.{Ok, Err, Bool, false, true, IsTrue, length, codes}
use Rattle.std.specs.Fmt.{decimal}
use Rattle.std.specs.Io.KnownBytes.{Appends}
use Rattle.ng_canon.specs.declared.item.Item.{Item}
use Rattle.ng_lines.specs.Lines.{IsItem, item_line}
use Rattle.ng_pace.specs.Calls.{IsEmpty}
use Rattle.ng_pace.specs.Due.{due_ns, least_ns}
use Rattle.ng_pace.specs.Stream.{Flow}
use Rattle.ng_pace.specs.Paths.{KeepsToPaths}
use Rattle.ng_pace.specs.Run.{ArePassed, AsksOnly, Event, put, end, ask, IsRun, lines_given}
use Rattle.ng_pace.specs.Speed.{KeepAcceleration}
use Rattle.ng_pace.specs.Start.{start_of}
use Rattle.ng_pace.specs.declared.limits.Limits.{Limits}
use Rattle.ng_pace.specs.declared.stepping.Given.{Given}
use Rattle.ng_schedule.specs.declared.ending.Shown.{Shown}
use Rattle.ng_schedule.specs.declared.ending.Shown.TheVariants.{Lines, Total}
use Rattle.ng_schedule.specs.declared.ending.Ended.{Ended}
use Rattle.ng_schedule.specs.declared.ending.Ended.TheVariants.{Done, NotALine, TooLate}
use Rattle.ng_schedule.specs.declared.ending.ScheduleFault.{ScheduleFault}

-- a line, and the nanoseconds until the next
pub record Timed : Type 0 where
  pub item : Item
  pub ns : ℕ

-- the lines as they were handed out
abbrev pub lines_of : List Timed → List ℕ
lines_of [] = []
lines_of (t ∷ ts) = item_line t.item ++ lines_of ts

-- how long they take
abbrev pub span : List Timed → ℕ
span [] = 0
span (t ∷ ts) = t.ns + span ts

-- no line is over sooner than OUT says, at so many percent of its rates
abbrev pub AreNeverSooner : ℕ → List Timed → Type 0
AreNeverSooner percent [] = Unit {0}
AreNeverSooner percent (t ∷ ts) = (due_ns percent t.item ≤ t.ns) × AreNeverSooner percent ts

-- lines that a stream gave out, with the times that it gave them
abbrev pub times_of : List Given → List Timed
times_of [] = []
times_of (given ∷ rest) = (record { item = given.line.item; ns = given.ns }) ∷ times_of rest

-- each line was asked for with the greatest of all squares
abbrev pub AskForMost : List Event → Type 0
AskForMost [] = Unit {0}
AskForMost (put item ∷ rest) = AskForMost rest
AskForMost (end ∷ rest) = AskForMost rest
AskForMost (ask wanted answer ∷ rest) = (wanted ≡ 2 ^ 64 - 1) × AskForMost rest

-- so many lines fit
abbrev pub capacity : ℕ
capacity = 8192

-- as long as lines come, one is asked for only where no more fit; so many are known. And where none has
-- its limits then, since one was just asked for in vain, the end is told, so that what is known comes to rest
abbrev pub AskWhereFull : ℕ → Bool → List Event → Type 0
AskWhereFull known in_vain [] = Unit {0}
AskWhereFull known in_vain (put item ∷ rest) = AskWhereFull (known + 1) false rest
AskWhereFull known in_vain (ask wanted (Some given) ∷ rest) = (capacity ≤ known) × AskWhereFull (known - 1) false rest
AskWhereFull known in_vain (ask wanted None ∷ rest) = (capacity ≤ known) × AskWhereFull known true rest
AskWhereFull known in_vain (end ∷ rest) = IsTrue in_vain × AskWhereFull known false rest

-- once no more lines come, the end is told, and lines are asked for alone
pub record AskAtEnd (events : List Event) : Type 0 where
  pub before : List Event
  pub rest : List Event
  pub parts : events ≡ before ++ end ∷ rest
  pub full : AskWhereFull 0 false before
  pub asks : AsksOnly rest

-- no line is asked for, and no end told, before that has to be
abbrev pub AskLate : List Event → Type 0
AskLate events = AskWhereFull 0 false events ⊎ AskAtEnd events

-- these are the times of a stream with these limits that was empty and at rest at first, whatever was put in since, and
-- as fast as may be; this is the square of the rate that is left
pub record ArePaced (limits : Limits) (timed : List Timed) (left : ℕ) : Type 0 where
  pub first : Flow
  pub events : List Event
  pub last : Flow
  pub empty : IsEmpty first limits capacity
  pub run : IsRun first events last
  pub haste : AskForMost events
  pub late : AskLate events
  pub times : timed ≡ times_of (lines_given events)
  -- from rest, the square goes from line to line within the ramp of each, and each takes the time of its squares
  pub squares : ArePassed (start_of limits) limits.most_percent 0 (lines_given events) left
  -- from pulse to pulse the rate changes as the ramps allow
  pub speeds : KeepAcceleration (lines_given events)
  -- no axis is asked for more than its acceleration and its greatest rate
  pub axes : KeepsToPaths limits (start_of limits) events last

-- what is written of a line that is due at a time
abbrev pub due_text : Shown → ℕ → Item → List ℕ
due_text Lines due item = decimal due ++ 32 ∷ item_line item
due_text Total due item = []

-- what is written of lines, of which the first is due at a time
abbrev pub timed_text : Shown → ℕ → List Timed → List ℕ
timed_text shown due [] = []
timed_text shown due (t ∷ ts) = due_text shown due t.item ++ timed_text shown (due + t.ns) ts

-- what is written behind them
abbrev pub end_text : Shown → ℕ → List ℕ
end_text Lines ns = []
end_text Total ns = decimal ns ++ codes "\n"

abbrev pub not_a_line_text : ℕ → List ℕ
not_a_line_text number = codes "refused line " ++ decimal number ++ codes ": not a line of OUT\n"

abbrev pub too_late_text : ℕ → List ℕ
too_late_text number = codes "refused line " ++ decimal number ++ codes ": over after more than 584 years\n"

-- no item's line is at the beginning of these bytes
abbrev pub BeginsNoLine : List ℕ → Type 0
BeginsNoLine bytes = (item : Item) (after : List ℕ) → IsItem item → bytes ≡ item_line item ++ after → ⊥

-- all is lines, and everything stands still at their end
pub record IsWhole (limits : Limits) (shown : Shown) (text : List ℕ) (written : List ℕ) : Type 0 where
  pub timed : List Timed
  pub never_sooner : AreNeverSooner limits.most_percent timed
  pub paced : ArePaced limits timed 0
  pub lines : text ≡ lines_of timed
  pub writes : written ≡ timed_text shown 0 timed ++ end_text shown (span timed)

-- what follows the lines before this number isn't a line; everything stands still at their end
pub record StopsAtOther (limits : Limits) (shown : Shown) (text : List ℕ) (number : ℕ) (written : List ℕ) : Type 0 where
  pub timed : List Timed
  pub never_sooner : AreNeverSooner limits.most_percent timed
  pub paced : ArePaced limits timed 0
  pub rest : List ℕ
  pub lines : text ≡ lines_of timed ++ rest
  pub some : rest ≢ []
  pub other : BeginsNoLine rest
  pub counted : number ≡ length timed + 1
  pub writes : written ≡ timed_text shown 0 timed ++ not_a_line_text number

-- the line of this number would be over after more than 584 years
pub record StopsTooLate (limits : Limits) (shown : Shown) (text : List ℕ) (number : ℕ) (written : List ℕ) : Type 0 where
  pub timed : List Timed
  pub never_sooner : AreNeverSooner limits.most_percent timed
  pub late : Timed
  pub least : least_ns limits.most_percent late.item ≤ late.ns
  pub left : ℕ
  pub paced : ArePaced limits (timed ++ late ∷ []) left
  pub rest : List ℕ
  pub lines : text ≡ lines_of timed ++ (item_line late.item ++ rest)
  pub beyond : 2 ^ 64 - 1 ≤ span timed + late.ns
  pub counted : number ≡ length timed + 1
  pub writes : written ≡ timed_text shown 0 timed ++ too_late_text number

-- a beginning of such a text
pub record IsBroken (limits : Limits) (shown : Shown) (text : List ℕ) (written : List ℕ) : Type 0 where
  pub timed : List Timed
  pub never_sooner : AreNeverSooner limits.most_percent timed
  pub paced : (timed ≡ []) ⊎ ((left : ℕ) × ArePaced limits timed left)
  pub rest : List ℕ
  pub lines : text ≡ lines_of timed ++ rest
  pub last : List ℕ
  pub ends : (last ≡ []) ⊎ ((last ≡ end_text shown (span timed)) ⊎ ((last ≡ not_a_line_text (length timed + 1)) ⊎ (last ≡ too_late_text (length timed + 1))))
  pub after : List ℕ
  pub begins : timed_text shown 0 timed ++ last ≡ written ++ after

abbrev pub EndsSo : Limits → Shown → List ℕ → Result Ended ScheduleFault → List ℕ → Type 0
EndsSo limits shown text (Ok Done) written = IsWhole limits shown text written
EndsSo limits shown text (Ok (NotALine number)) written = StopsAtOther limits shown text number written
EndsSo limits shown text (Ok (TooLate number)) written = StopsTooLate limits shown text number written
EndsSo limits shown text (Err fault) written = IsBroken limits shown text written

-- a run over a text wrote what it had to, and returns how it ended
abbrev pub ScheduleSpec : Limits → Shown → List ℕ → Option (List ℕ) → Option (List ℕ) → Result Ended ScheduleFault → Type 0
ScheduleSpec limits shown text old new result = (written : List ℕ) × Appends old new written × EndsSo limits shown text result written
