-- A session, what an event leads to, and a block as it is begun (own).
use Rattle.std.specs.Prelude.{ℕ, Bool, true, false, not, ◌&&◌, Option, None, List, [], ◌∷◌}
use Rattle.std.specs.Option.{is_none}
use Rattle.ng_num.specs.declared.fault.Fault.{Fault}
use Rattle.ng_canon.specs.declared.item.Item.{Item}
use Rattle.ng_canon.specs.declared.segment.Segment.{Segment}
use Rattle.ng_block.specs.Effects.{Done}
use Rattle.ng_state.specs.State.{StateModel}
use Rattle.ng_block.specs.declared.effect.ProgramFlow.{ProgramFlow}
use Rattle.ng_layout.specs.Stored.{StoredModel}
use Rattle.ng_layout.specs.declared.half.Source.{Source}
use Rattle.ng_session.specs.Entries.{Entry, place_after}
use Rattle.ng_session.specs.declared.activity.Activity.{Activity}
use Rattle.ng_session.specs.declared.activity.Activity.TheVariants as activity
use Rattle.ng_session.specs.declared.reply.Reply.{Reply}
use Rattle.ng_session.specs.declared.reply.Reply.TheVariants as reply
use Rattle.ng_session.specs.declared.stage.Stage.{Stage}
use Rattle.ng_session.specs.declared.stage.Stage.TheVariants as stage

-- the current block, as it was begun, and what is left of it
pub record CurrentBlockModel : Type 0 where
  pub source : Source
  pub text : List ℕ
  pub block_delete : Bool
  pub stage : Stage
  -- the number of the segment that opens next, after the approach if there is one
  pub index : ℕ
  -- the segments that weren't opened yet, and the items of the open one that weren't handed out
  pub left : List Segment
  pub items : List Item
  -- the state after it, where the next line of the program begins then, and how the program goes on
  pub setup : StateModel
  pub place : ℕ
  pub stop : ProgramFlow

-- a session: what a controller keeps between two events
pub record SessionModel : Type 0 where
  -- the stored state
  pub stored : StoredModel
  pub activity : Activity
  pub held : Bool
  pub optional_stop : Bool
  pub block_delete : Bool
  pub current : Option CurrentBlockModel

-- what an event leads to
pub record Transition : Type 0 where
  pub reply : Reply
  -- at most one
  pub items : List Item
  -- at most one
  pub entries : List Entry
  pub program : List ℕ
  pub next : SessionModel

-- a session at power on
abbrev pub resting : StoredModel → SessionModel
resting x = record { stored = x; activity = activity.Idle; held = false; optional_stop = false; block_delete = false; current = None }

-- a reply, and the session after it
abbrev pub answers : List ℕ → Reply → SessionModel → Transition
answers program reply next = record { reply = reply; items = []; entries = []; program = program; next = next }

-- a refusal changes nothing
abbrev pub refuses : List ℕ → Fault → SessionModel → Transition
refuses program fault s = answers program (reply.Refused fault) s

-- an entry is committed, and this is the stored state after it
abbrev pub commits : List ℕ → Entry → SessionModel → Transition
commits program entry next = record { reply = reply.Done next.stored.entries; items = []; entries = entry ∷ []; program = program; next = next }

abbrev pub is_running : Activity → Bool
is_running activity.Idle = false
is_running activity.Running = true
is_running activity.Stopped = false

abbrev pub is_idle : Activity → Bool
is_idle activity.Idle = true
is_idle activity.Running = false
is_idle activity.Stopped = false

-- no block is current, the program doesn't run, and nothing is held
abbrev pub is_at_rest : SessionModel → Bool
is_at_rest s = is_none s.current && not (is_running s.activity) && not s.held

-- at rest, with no half-done block
abbrev pub accepts_load : SessionModel → Bool
accepts_load s = is_at_rest s && is_none s.stored.half

-- the reply of a session that has nothing to do
abbrev pub idleness : Activity → Reply
idleness activity.Idle = reply.Idle
idleness activity.Running = reply.Idle
idleness activity.Stopped = reply.Stopped

-- a block as it is begun, before its first segment
abbrev pub begun : StoredModel → Source → List ℕ → Bool → ℕ → Done → CurrentBlockModel
begun x source text block_delete next done = record {
  source = source;
  text = text;
  block_delete = block_delete;
  stage = stage.OnBlock;
  index = 0;
  left = done.segments;
  items = [];
  setup = done.setup;
  place = place_after next x.place source done.stop;
  stop = done.stop;
}
