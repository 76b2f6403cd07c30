-- The lines that the console writes in reply (own).
use Rattle.std.specs.Prelude.{ℕ, Bool, true, false, Option, Some, None, List, [], ◌++◌, codes}
use Rattle.std.specs.Fmt.{decimal}
use Rattle.ng_num.specs.Printing.{number_text}
use Rattle.ng_num.specs.Fault.{text as fault_text}
use Rattle.ng_num.specs.declared.fault.Fault.{Fault}
use Rattle.ng_num.specs.declared.point.Point.{Point}
use Rattle.ng_layout.specs.declared.half.Source.{Source}
use Rattle.ng_layout.specs.declared.half.Source.TheVariants as source
use Rattle.ng_session.specs.declared.reply.Condition.{Condition}
use Rattle.ng_session.specs.declared.reply.Condition.TheVariants as condition
use Rattle.ng_session.specs.declared.reply.HalfShown.{HalfShown}
use Rattle.ng_session.specs.declared.reply.Status.{Status}
use Rattle.ng_session.specs.declared.reply.Reply.{Reply}
use Rattle.ng_session.specs.declared.reply.Reply.TheVariants as reply

-- X, Y and Z in millimetres, a blank after each
abbrev pub point_text : Point → List ℕ
point_text p = (number_text p.x ++ codes " ") ++ (number_text p.y ++ codes " ") ++ (number_text p.z ++ codes " ")

-- whether the machine's position is known
abbrev pub known_text : Bool → List ℕ
known_text true = codes "known"
known_text false = codes "unknown"

abbrev pub source_text : Source → List ℕ
source_text source.Program = codes "program "
source_text source.Mdi = codes "mdi "

-- where a half-done block came from, and the segment that is open or next
abbrev pub half_text : Option HalfShown → List ℕ
half_text None = codes "none"
half_text (Some half) = source_text half.source ++ decimal half.index

abbrev pub condition_text : Condition → List ℕ
condition_text condition.Idle = codes " idle\n"
condition_text condition.Running = codes " running\n"
condition_text condition.Stopped = codes " stopped\n"
condition_text condition.Held = codes " held\n"
condition_text condition.Broken = codes " broken\n"

-- a number with words before and after it
abbrev pub between : List ℕ → ℕ → List ℕ → List ℕ
between before n after = before ++ decimal n ++ after

abbrev pub counts_text : Status → List ℕ
counts_text s = between (codes "status entries ") s.entries (codes " place ") ++ between [] s.place (codes " at ")

abbrev pub machine_text : Status → List ℕ
machine_text s = point_text s.point ++ known_text s.point_known ++ codes " half "

abbrev pub status_line : Status → List ℕ
status_line s = counts_text s ++ machine_text s ++ half_text s.half ++ condition_text s.condition

abbrev pub refused_line : Fault → List ℕ
refused_line fault = codes "refused " ++ fault_text fault ++ codes "\n"

-- the count of entries after one that was committed
abbrev pub done_line : ℕ → List ℕ
done_line entries = codes "done " ++ decimal entries ++ codes "\n"

-- the line of a reply; an item handed out, or a segment opened, by a tick has none
abbrev pub reply_line : Reply → List ℕ
reply_line (reply.Done entries) = done_line entries
reply_line reply.Going = codes "going\n"
reply_line reply.Held = codes "held\n"
reply_line reply.Idle = codes "idle\n"
reply_line reply.Stopped = codes "stopped\n"
reply_line reply.Begun = codes "begun\n"
reply_line reply.Taken = codes "taken\n"
reply_line reply.Moved = []
reply_line (reply.Opened index) = []
reply_line reply.Approaching = []
reply_line (reply.Status status) = status_line status
reply_line (reply.Refused fault) = refused_line fault

-- the line of a tick's reply; the beginning of a line of the program has none
abbrev pub tick_line : Reply → List ℕ
tick_line (reply.Done entries) = reply_line (reply.Done entries)
tick_line reply.Going = reply_line reply.Going
tick_line reply.Held = reply_line reply.Held
tick_line reply.Idle = reply_line reply.Idle
tick_line reply.Stopped = reply_line reply.Stopped
tick_line reply.Begun = []
tick_line reply.Taken = reply_line reply.Taken
tick_line reply.Moved = reply_line reply.Moved
tick_line (reply.Opened index) = reply_line (reply.Opened index)
tick_line reply.Approaching = reply_line reply.Approaching
tick_line (reply.Status status) = reply_line (reply.Status status)
tick_line (reply.Refused fault) = reply_line (reply.Refused fault)

-- the last line of a command of ticks: how many were made
abbrev pub ticks_line : ℕ → List ℕ
ticks_line count = codes "ticks " ++ decimal count ++ codes "\n"

-- whether a command of ticks continues after this reply
abbrev pub continues_ticks : Reply → Bool
continues_ticks (reply.Done entries) = true
continues_ticks reply.Going = true
continues_ticks reply.Held = false
continues_ticks reply.Idle = false
continues_ticks reply.Stopped = false
continues_ticks reply.Begun = true
continues_ticks reply.Taken = true
continues_ticks reply.Moved = true
continues_ticks (reply.Opened index) = true
continues_ticks reply.Approaching = true
continues_ticks (reply.Status status) = true
continues_ticks (reply.Refused fault) = false
