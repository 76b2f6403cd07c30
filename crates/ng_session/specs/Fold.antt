-- The plain interpreter (own): one fold over what was committed. It knows nothing of sessions.
use Rattle.std.specs.Prelude.{◌≡◌, ◌≤◌, ℕ, List, [], ◌∷◌, ◌++◌, drop, Bool, true, false, Option, Some, None, Result, Ok, Err, length}
use Rattle.std.specs.List.{Contains}
use Rattle.ng_num.specs.declared.fault.Fault.{Fault}
use Rattle.ng_num.specs.declared.point.Point.{Point}
use Rattle.ng_canon.specs.Geometry.{is_inside}
use Rattle.ng_canon.specs.declared.item.Item.{Item}
use Rattle.ng_canon.specs.declared.segment.Segment.{Segment}
use Rattle.ng_step.specs.Hands.{hand}
use Rattle.ng_block.specs.Effects.{Done}
use Rattle.ng_offsets.specs.Tools.{is_tool_length}
use Rattle.ng_layout.specs.Tools.{takes_slot}
use Rattle.ng_layout.specs.Stored.{HalfModel, StoredModel, DurableState}
use Rattle.ng_layout.specs.declared.half.Source.{Source}
use Rattle.ng_layout.specs.declared.half.Source.TheVariants as source
use Rattle.ng_text.specs.Programs.{ProgramLineModel, program_line_at, next_line_start}
use Rattle.ng_canon.specs.declared.geometry.Geometry.{Geometry}
use Rattle.ng_session.specs.Entries.{Entry, Block, Loaded, Referenced, Approached, Abandoned, Tooled, done_of}
use Rattle.ng_session.specs.Entries.{done_again, after_block, after_load, motion_state_before, hand_approach}
use Rattle.ng_session.specs.Entries.{after_reference, after_approach, after_abandon, after_tool}
use Rattle.ng_session.specs.declared.stage.Approach.{Approach}

-- what a block does: the half-done block, if there is one
abbrev pub block_done : Geometry → DurableState → Option HalfModel → Source → List ℕ → Bool → Result Done Fault
block_done geometry x None source text block_delete = done_of geometry x.program x.saved source text block_delete
block_done geometry x (Some half) source text block_delete = done_again geometry x.saved text

abbrev pub done_in : Geometry → DurableState → Source → List ℕ → Bool → Result Done Fault
done_in geometry x source text block_delete = block_done geometry x x.saved.half source text block_delete

-- the number of its first segment that is still to do
abbrev pub first_to_do : Option HalfModel → ℕ
first_to_do None = 0
first_to_do (Some half) = half.index

abbrev pub still_to_do : DurableState → Done → List Segment
still_to_do x done = drop (first_to_do x.saved.half) done.segments

-- the approach that the half-done block needs, from its machine's point; `None` if that isn't known, or if the block's
-- text is refused
abbrev pub approach_from : StoredModel → HalfModel → Option Point → Result Done Fault → Option Approach
approach_from x half None done = None
approach_from x half (Some from) (Err fault) = None
approach_from x half (Some from) (Ok done) = Some (record { from = from; to = motion_state_before x.setup done half.index })

abbrev pub approach_to : Geometry → StoredModel → Option HalfModel → Option Approach
approach_to geometry x None = None
approach_to geometry x (Some half) = approach_from x half half.at (done_again geometry x half.text)

abbrev pub approach_in : Geometry → DurableState → Option Approach
approach_in geometry x = approach_to geometry x.saved x.saved.half

-- ---- the state after an entry

-- a block that is refused is never committed
abbrev pub durable_state_after : DurableState → Source → Result Done Fault → DurableState
durable_state_after x source (Err fault) = x
durable_state_after x source (Ok done) = record x { saved = after_block (next_line_start x.program x.saved.place) x.saved source done }

abbrev pub durable_state_reached : DurableState → Option Approach → DurableState
durable_state_reached x None = x
durable_state_reached x (Some a) = record x { saved = after_approach x.saved a.to.point }

abbrev pub after : Geometry → DurableState → Entry → DurableState
after geometry x (Block source text block_delete) = durable_state_after x source (done_in geometry x source text block_delete)
after geometry x (Loaded text) = record { saved = after_load x.saved (length text); program = text }
after geometry x (Referenced point) = record x { saved = after_reference x.saved point }
after geometry x Approached = durable_state_reached x (approach_in geometry x)
after geometry x Abandoned = record x { saved = after_abandon x.saved }
after geometry x (Tooled slot nm) = record x { saved = after_tool x.saved slot nm }

-- ---- what an entry hands out

-- the items of some segments, in order
abbrev pub hand_all : Geometry → List Segment → List Item
hand_all geometry [] = []
hand_all geometry (segment ∷ segments) = hand segment geometry ++ hand_all geometry segments

abbrev pub items_done : Geometry → DurableState → Result Done Fault → List Item
items_done geometry x (Err fault) = []
items_done geometry x (Ok done) = hand_all geometry (still_to_do x done)

abbrev pub items_on_way : Geometry → Option Approach → List Item
items_on_way geometry None = []
items_on_way geometry (Some a) = hand_approach geometry a

abbrev pub items : Geometry → DurableState → Entry → List Item
items geometry x (Block source text block_delete) = items_done geometry x (done_in geometry x source text block_delete)
items geometry x (Loaded text) = []
items geometry x (Referenced point) = []
items geometry x Approached = items_on_way geometry (approach_in geometry x)
items geometry x Abandoned = []
items geometry x (Tooled slot nm) = []

abbrev pub after_all : Geometry → DurableState → List Entry → DurableState
after_all geometry x [] = x
after_all geometry x (entry ∷ entries) = after_all geometry (after geometry x entry) entries

abbrev pub items_all : Geometry → DurableState → List Entry → List Item
items_all geometry x [] = []
items_all geometry x (entry ∷ entries) = items geometry x entry ++ items_all geometry (after geometry x entry) entries

-- ---- what may be committed in a state, given the operator's lines

-- a half-done block goes on if its machine is at the point before its next segment
abbrev pub ResumesHalf : StoredModel → HalfModel → List ℕ → Done → Type 0
ResumesHalf x half text done = (text ≡ half.text) × (half.at ≡ Some (motion_state_before x.setup done half.index).point)

abbrev pub IsLineAt : Option ProgramLineModel → List ℕ → Type 0
IsLineAt None text = ⊥
IsLineAt (Some line) text = text ≡ line.text

abbrev pub IsGiven : List (List ℕ) → DurableState → Source → List ℕ → Type 0
IsGiven lines x source.Program text = IsLineAt (program_line_at x.program x.saved.place) text
IsGiven lines x source.Mdi text = Contains lines text

-- the text is that of the half-done block, which goes on from its machine's point; else that of the program's line at
-- its place, or of a line that the operator gave
abbrev pub IsTextOf : List (List ℕ) → DurableState → Option HalfModel → Source → List ℕ → Bool → Done → Type 0
IsTextOf lines x None source text block_delete done = IsGiven lines x source text
IsTextOf lines x (Some half) source text block_delete done = (source ≡ half.source) × (block_delete ≡ false) × ResumesHalf x.saved half text done

-- a block that may be worked: it isn't refused
pub record IsBlock (geometry : Geometry) (lines : List (List ℕ)) (x : DurableState) (source : Source)
    (text : List ℕ) (block_delete : Bool) (done : Done) : Type 0 where
  pub does : done_in geometry x source text block_delete ≡ Ok done
  pub text_is : IsTextOf lines x x.saved.half source text block_delete done

abbrev pub FollowsFold : Geometry → List (List ℕ) → DurableState → Entry → Type 0
FollowsFold geometry lines x (Block source text block_delete) = (done : Done) × IsBlock geometry lines x source text block_delete done
FollowsFold geometry lines x (Loaded text) = (length text ≤ x.saved.program_limit) × (x.saved.half ≡ None)
FollowsFold geometry lines x (Referenced point) = is_inside geometry point ≡ true
FollowsFold geometry lines x Approached = (a : Approach) × (approach_in geometry x ≡ Some a)
FollowsFold geometry lines x Abandoned = (half : HalfModel) × (x.saved.half ≡ Some half)
FollowsFold geometry lines x (Tooled slot nm) = (takes_slot x.saved.tools slot ≡ true) × (is_tool_length nm ≡ true) × (x.saved.half ≡ None)

abbrev pub FollowFold : Geometry → List (List ℕ) → DurableState → List Entry → Type 0
FollowFold geometry lines x [] = Unit {0}
FollowFold geometry lines x (entry ∷ entries) = FollowsFold geometry lines x entry × FollowFold geometry lines (after geometry x entry) entries
