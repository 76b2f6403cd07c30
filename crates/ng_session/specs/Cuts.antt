-- What a power cut leaves (own), in terms of the fold alone; and the law that every list of events obeys.
use Rattle.std.specs.Prelude.{◌≡◌, ◌+◌, ℕ, min, List, [], ◌∷◌, ◌++◌, length, Bool, Some, None}
use Rattle.ng_canon.specs.declared.item.Item.{Item}
use Rattle.ng_canon.specs.declared.segment.Segment.{Segment}
use Rattle.ng_step.specs.Hands.{hand}
use Rattle.ng_block.specs.Effects.{Done}
use Rattle.ng_layout.specs.Stored.{HalfModel, StoredModel, DurableState}
use Rattle.ng_layout.specs.declared.half.Source.{Source}
use Rattle.ng_layout.specs.declared.half.Opened.TheVariants as open_part
use Rattle.ng_canon.specs.declared.geometry.Geometry.{Geometry}
use Rattle.ng_session.specs.Entries.{Entry, Block, Approached, hand_approach}
use Rattle.ng_session.specs.Ticking.{greatest_index}
use Rattle.ng_session.specs.Fold.{first_to_do, still_to_do, approach_in, IsBlock, FollowFold, after_all, items_all, hand_all}
use Rattle.ng_session.specs.Runs.{CrashState, session_at_power_on, replies_of, entries_of, under_way, crash_after, dones, lines_given}
use Rattle.ng_session.specs.declared.event.Event.{Event}
use Rattle.ng_session.specs.declared.stage.Approach.{Approach}

-- the number of the segment after these, but at most the greatest number of 64 bits
abbrev pub number_after : ℕ → List Segment → ℕ
number_after first [] = first
number_after first (segment ∷ segments) = number_after (min (first + 1) greatest_index) segments

-- What may be stored and may have been handed out after the committed entries. Given are the state after them, the
-- lines that the operator gave, and the entries that come next. There are three cases. Nothing more; or, if an approach
-- comes next, a beginning of that of the half-done block; or, if a block comes next that may be worked, the whole
-- segments of it before one, from the first that is still to do, and a beginning of that one. What was begun is stored
-- as open.
pub data UncommittedTail (geometry : Geometry) (lines : List (List ℕ)) (x : DurableState) (next : List Entry) : StoredModel → List Item → Type 0 where
  Nothing_open : UncommittedTail geometry lines x next x.saved []
  Approach_open : (half : HalfModel) (approach : Approach) (begun left : List Item) (later : List Entry)
      → next ≡ Approached ∷ later
      → x.saved.half ≡ Some half
      → approach_in geometry x ≡ Some approach
      → begun ++ left ≡ hand_approach geometry approach
      → UncommittedTail geometry lines x next (record x.saved { half = Some (record half { at = None; opened = Some open_part.Approach }) }) begun
  Segment_open : (source : Source) (text : List ℕ) (block_delete : Bool) (done : Done) (before : List Segment)
      (segment : Segment) (rest : List Segment) (begun left : List Item) (later : List Entry)
      → next ≡ Block source text block_delete ∷ later
      → IsBlock geometry lines x source text block_delete done
      → still_to_do x done ≡ before ++ segment ∷ rest
      → begun ++ left ≡ hand segment geometry
      → UncommittedTail geometry lines x next
      (record x.saved {
        half =
            Some (record {
              text = text;
              source = source;
              index = number_after (first_to_do x.saved.half) before;
              at =
                  None;
              opened = Some open_part.Segment;
            });
      })
      (hand_all geometry before ++ begun)

-- What a power cut leaves, given the committed entries and those that come next. Each entry may be committed where it
-- comes. The stored state is the fold's, and so are the items handed out, each with what may follow.
pub record IsCut (geometry : Geometry) (lines : List (List ℕ)) (x : DurableState) (before : List Item)
    (entries next : List Entry) (left : CrashState) : Type 0 where
  pub valid : FollowFold geometry lines x entries
  pub program : left.standing.program ≡ (after_all geometry x entries).program
  pub more : List Item
  pub items : left.items ≡ (before ++ items_all geometry x entries) ++ more
  pub follows : UncommittedTail geometry lines (after_all geometry x entries) next left.standing.saved more

-- After any list of events, a power cut leaves a cut of the entries that the events committed, with what is under way
-- coming next. Each of these entries was acknowledged.
abbrev pub CrashAfterEvents : Type 0 → Type 0
CrashAfterEvents A = (geometry : Geometry) (x : DurableState) (before : List Item) (events : List (Event A)) →
    IsCut geometry (lines_given events) x before (entries_of geometry (session_at_power_on x) events)
    (under_way geometry (session_at_power_on x) events)
    (crash_after geometry (session_at_power_on x) before events)
    × (length (entries_of geometry (session_at_power_on x) events) ≡ dones (replies_of geometry (session_at_power_on x) events))
