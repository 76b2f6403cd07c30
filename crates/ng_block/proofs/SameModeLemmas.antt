-- A second line with the same modes changes none.
use Rattle.std.proofs.Common.{◌≡◌, ◌∙◌, ℕ, ℤ, Bool, true, false, ◌||◌, if◌then◌else◌, List, Option, Some, None, Ok, refl, sym, ap}
use Rattle.std.specs.Prelude.{unwrap_or}
use Rattle.ng_canon.specs.declared.geometry.Geometry.{Geometry}
use Rattle.ng_modal.specs.declared.block.Block.{Block}
use Rattle.ng_state.specs.State.{StateModel}
use Rattle.ng_canon.specs.declared.plane.Plane.TheVariants.{Xy}
use Rattle.ng_state.specs.declared.modes.Modes.{Modes}
use Rattle.ng_state.specs.declared.modes.Motion.TheVariants.{Feed}
use Rattle.ng_state.specs.declared.modes.Distance.TheVariants.{Absolute}
use Rattle.ng_state.specs.declared.modes.FeedMode.TheVariants.{PerMinute}
use Rattle.ng_block.specs.After.{modes_after}
use Rattle.ng_block.specs.Effects.{Done, executed}
use Rattle.ng_block.specs.Ends.{ends}
use Rattle.ng_block.specs.OffsetsAlone.{AsksFor}
use Rattle.ng_block.specs.SameModes.{HasSameModes}
use Rattle.ng_block.proofs.AcceptedLemmas.{accepted}
use Rattle.ng_block.proofs.EndLemmas.{same_block}

-- a mode that a line or the program's end sets already has that value
set_again : {X : Type 0} (is_end : Bool) (at_end : X) (word : Option X) (mode : X)
    → (if is_end then at_end else unwrap_or word (if is_end then at_end else unwrap_or word mode)) ≡ (if is_end then at_end else unwrap_or word mode)
set_again true at_end word mode = refl
set_again false at_end (Some w) mode = refl
set_again false at_end None mode = refl

worded_again : {X : Type 0} (word : Option X) (mode : X) → unwrap_or word (unwrap_or word mode) ≡ unwrap_or word mode
worded_again (Some w) mode = refl
worded_again None mode = refl

allowed_again : (is_end : Bool) (word : Option Bool) (mode : Bool)
    → (is_end || unwrap_or word (is_end || unwrap_or word mode)) ≡ (is_end || unwrap_or word mode)
allowed_again true word mode = refl
allowed_again false (Some w) mode = refl
allowed_again false None mode = refl

modes_again : (b : Block) (m : Modes) → modes_after b (modes_after b m) ≡ modes_after b m
modes_again b m =
    let motion = set_again (ends b.m.stop) Feed b.g.motion m.motion in
    let plane = set_again (ends b.m.stop) Xy b.g.plane m.plane in
    let distance = set_again (ends b.m.stop) Absolute b.g.distance m.distance in
    let feed_mode = set_again (ends b.m.stop) PerMinute b.g.feed_mode m.feed_mode in
    let unit = worded_again b.g.unit m.unit in
    let retract = worded_again b.g.retract m.retract in
    let system = set_again (ends b.m.stop) 1 b.g.system m.system in
    let path = worded_again b.g.path m.path in
    let overrides = allowed_again (ends b.m.stop) b.m.overrides m.overrides in
    (λ i. record {
      motion = motion i;
      plane = plane i;
      distance = distance i;
      feed_mode = feed_mode i;
      unit = unit i;
      retract = retract i;
      system = system i;
      path = path i;
      overrides = overrides i;
    })

modes_of_same : (one other : Block) (m : Modes) → HasSameModes one other → modes_after other m ≡ modes_after one m
modes_of_same one other m same =
    (λ i. record {
      motion = if ends (same.stop i) then Feed else unwrap_or (same.motion i) m.motion;
      plane = if ends (same.stop i) then Xy else unwrap_or (same.plane i) m.plane;
      distance = if ends (same.stop i) then Absolute else unwrap_or (same.distance i) m.distance;
      feed_mode = if ends (same.stop i) then PerMinute else unwrap_or (same.feed_mode i) m.feed_mode;
      unit = unwrap_or (same.unit i) m.unit;
      retract = unwrap_or (same.retract i) m.retract;
      system = if ends (same.stop i) then 1 else unwrap_or (same.system i) m.system;
      path = unwrap_or (same.path i) m.path;
      overrides = ends (same.stop i) || unwrap_or (same.overrides i) m.overrides;
    })

modes_left : (s : StateModel) (tools : List ℤ) (geometry : Geometry) (text : List ℕ) (done : Done) (b : Block)
    → executed s tools geometry text ≡ Ok done → AsksFor s text b
    → done.setup.modal.modes ≡ modes_after b s.modal.modes
modes_left s tools geometry text done b e asks =
    let a = accepted s tools geometry text done e in
    ap (λ (d : Done). d.setup.modal.modes) (sym a.done_is) ∙ ap (λ (x : Block). modes_after x s.modal.modes)
    (sym (same_block s tools geometry text done b a asks))

pub modes_same : (s : StateModel) (tools : List ℤ) (geometry : Geometry) (text again : List ℕ) (done next : Done)
    (one other : Block) → executed s tools geometry text ≡ Ok done → AsksFor s text one
    → executed done.setup tools geometry again ≡ Ok next → AsksFor done.setup again other → HasSameModes one other
    → next.setup.modal.modes ≡ done.setup.modal.modes
modes_same s tools geometry text again done next one other e asks f asks_again same =
    let left : done.setup.modal.modes ≡ modes_after one s.modal.modes = modes_left s tools geometry text done one e asks in
    modes_left done.setup tools geometry again next other f asks_again
    ∙ modes_of_same one other done.setup.modal.modes same
    ∙ ap (modes_after one) left
    ∙ modes_again one s.modal.modes
    ∙ sym left
