-- Lines of the program that are executed before they are begun (own).
use Rattle.std.specs.Prelude.{◌≡◌, ◌≢◌, ℕ, Bool, true, false, if◌then◌else◌, List, [], ◌∷◌, Option, None, Some, Ok}
use Rattle.ng_words.specs.declared.start.LineKind.{LineKind}
use Rattle.ng_words.specs.declared.start.LineKind.TheVariants.{Blank}
use Rattle.ng_text.specs.LinesBefore.{IsTrueOf, IsLineBetween}
use Rattle.ng_text.specs.Percent.{first_kind}
use Rattle.ng_text.specs.Programs.{lines_before}
use Rattle.ng_text.specs.declared.lines_before.LinesBefore.{LinesBefore}
use Rattle.ng_block.specs.Effects.{Done}
use Rattle.ng_block.specs.Program.{executed_after, is_end}
use Rattle.ng_layout.specs.Stored.{StoredModel}
use Rattle.ng_layout.specs.declared.half.Source.TheVariants as source
use Rattle.ng_canon.specs.declared.geometry.Geometry.{Geometry}
use Rattle.ng_session.specs.Entries.{terms_of}
use Rattle.ng_session.specs.BareBlock.{BareBlock, block_on, IsReady}
use Rattle.ng_session.specs.Session.{CurrentBlockModel, SessionModel, begun}
use Rattle.ng_session.specs.Ticking.{after_current_block, after_current_approach, begin}
use Rattle.ng_session.specs.declared.event.Event.{Event}
use Rattle.ng_session.specs.declared.event.Event.TheVariants as event
use Rattle.ng_session.specs.declared.reply.Reply.{Reply}
use Rattle.ng_session.specs.declared.stage.Stage.{Stage}
use Rattle.ng_session.specs.declared.stage.Stage.TheVariants as stage

-- a line that was read ahead: the places at which it and the next one begin, the kind of the first line before it that
-- isn't blank, and its block, as it will be begun
pub record PlannedModel : Type 0 where
  pub place : ℕ
  pub first : LineKind
  pub next : ℕ
  pub block : BareBlock

-- what is known of a program's lines: of those before a place, and those that were read ahead, in order; and while there
-- are any of these, what will be stored after the last
pub record KnownModel : Type 0 where
  pub before : LinesBefore
  pub ahead : List PlannedModel
  pub base : StoredModel

-- the line is one of the program's
abbrev pub IsLineOf : List ℕ → PlannedModel → Type 0
IsLineOf program p = IsLineBetween program p.place p.first p.block.text p.next

abbrev pub AreLinesOf : List ℕ → List PlannedModel → Type 0
AreLinesOf program [] = Unit {0}
AreLinesOf program (p ∷ ps) = IsLineOf program p × AreLinesOf program ps

-- everything known is true of a program
abbrev pub IsKnownOf : List ℕ → KnownModel → Type 0
IsKnownOf program known = IsTrueOf program known.before × AreLinesOf program known.ahead

-- events after which the planned lines no longer come: another line comes first, or another program, or the lines do
-- something else
abbrev pub drops_plan : {A : Type 0} → Event A → Bool
drops_plan (event.Load text) = true
drops_plan event.Start = false
drops_plan event.Hold = false
drops_plan event.Continue = false
drops_plan (event.Mdi text) = true
drops_plan (event.Reference point) = true
drops_plan event.Resume = true
drops_plan event.Abandon = true
drops_plan (event.Tool slot nm) = true
drops_plan (event.OptionalStop wanted) = false
drops_plan (event.BlockDelete on) = true
drops_plan event.Status = false
drops_plan event.Tick = false

-- what is known, without the lines that were read ahead
abbrev pub forgotten : KnownModel → KnownModel
forgotten known = record known { ahead = [] }

abbrev pub forgotten_for : {A : Type 0} → Event A → KnownModel → KnownModel
forgotten_for event known = if drops_plan event then forgotten known else known

-- what a line is planned on: what will be stored when it is begun, and whether block delete is on
pub record Base : Type 0 where
  pub stored : StoredModel
  pub block_delete : Bool

-- what will be stored once nothing is left of the current block
abbrev pub base_on : StoredModel → CurrentBlockModel → Stage → StoredModel
base_on x c (stage.ToApproach a) = after_current_block (after_current_approach x c a.to.point) c
base_on x c (stage.OnApproach a) = after_current_block (after_current_approach x c a.to.point) c
base_on x c stage.OnBlock = after_current_block x c

abbrev pub base_after : StoredModel → Option CurrentBlockModel → StoredModel
base_after x None = x
base_after x (Some c) = base_on x c c.stage

abbrev pub base_of : SessionModel → Base
base_of s = record { stored = base_after s.stored s.current; block_delete = s.block_delete }

-- what the next line is planned on
abbrev pub base_then : Base → PlannedModel → Base
base_then base p = record { stored = after_current_block base.stored (block_on base.stored.setup.params p.block); block_delete = base.block_delete }

abbrev pub base_at_end : Base → List PlannedModel → Base
base_at_end base [] = base
base_at_end base (p ∷ ps) = base_at_end (base_then base p) ps

-- whether the program ends there: by the last planned line, or else by the current block
abbrev pub ends_after : Option CurrentBlockModel → Bool
ends_after None = false
ends_after (Some c) = is_end c.stop

abbrev pub ends_at_end : Bool → List PlannedModel → Bool
ends_at_end ends [] = ends
ends_at_end ends (p ∷ ps) = ends_at_end (is_end p.block.stop) ps

-- The line at the place that will be stored is valid then, and the block is what the line does then. There is no line
-- before the program's beginning.
pub record IsPlannedOn (geometry : Geometry) (base : Base) (p : PlannedModel) : Type 0 where
  pub place : p.place ≡ base.stored.place
  pub beginning : p.place ≡ 0 → p.first ≡ Blank
  pub does : Done
  pub does_is : executed_after (terms_of geometry base.stored.tools base.block_delete) p.first base.stored.setup p.block.text ≡ Ok does
  pub begun_is : block_on base.stored.setup.params p.block ≡ begun base.stored source.Program p.block.text base.block_delete p.next does
  pub ready : IsReady base.stored p.block

-- each line is planned on the state after the one before it
abbrev pub ArePlannedOn : Geometry → Base → List PlannedModel → Type 0
ArePlannedOn geometry base [] = Unit {0}
ArePlannedOn geometry base (p ∷ ps) = IsPlannedOn geometry base p × ArePlannedOn geometry (base_then base p) ps

-- the lines are planned so, and this is what the next one is planned on if there are any
pub record IsPlan (geometry : Geometry) (base : Base) (ahead : List PlannedModel) (next : StoredModel) : Type 0 where
  pub lines : ArePlannedOn geometry base ahead
  pub next_is : ahead ≢ [] → next ≡ (base_at_end base ahead).stored

-- the first planned line is begun just as if it were read then, and the others stay planned
pub record IsBegunAhead (geometry : Geometry) (told : Reply) (old new : SessionModel) (known_old known_new : KnownModel) : Type 0 where
  pub planned : PlannedModel
  pub front : known_old.ahead ≡ planned ∷ known_new.ahead
  pub before : known_new.before ≡ known_old.before
  pub place : planned.place ≡ old.stored.place
  pub beginning : planned.place ≡ 0 → planned.first ≡ Blank
  pub told_is : (program : List ℕ) → planned.first ≡ first_kind (lines_before program old.stored.place)
      → told ≡ (begin geometry program old (Some (record { text = planned.block.text; next = planned.next }))).reply
  pub next : (program : List ℕ) → planned.first ≡ first_kind (lines_before program old.stored.place)
      → new ≡ (begin geometry program old (Some (record { text = planned.block.text; next = planned.next }))).next
  pub plan : IsPlan geometry (base_of new) known_new.ahead known_new.base
