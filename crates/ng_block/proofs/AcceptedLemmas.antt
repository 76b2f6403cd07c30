-- What is known of an accepted line: its block, and the goal that has its path.
use Rattle.std.proofs.Common.{◌≡◌, ◌∙◌, ℕ, ℤ, List, length, Option, Some, None, Result, Ok, Err, refl, sym, ap}
use Rattle.ng_num.specs.Results.{and_then}
use Rattle.ng_num.specs.declared.fault.Fault.{Fault}
use Rattle.ng_params.specs.Change.{with_changes}
use Rattle.ng_params.specs.declared.change.Change.{Change}
use Rattle.ng_canon.specs.Printing.{CanonModel}
use Rattle.ng_canon.specs.declared.geometry.Geometry.{Geometry}
use Rattle.ng_words.specs.Reading.{read}
use Rattle.ng_words.specs.Grammar.{ParsedLine}
use Rattle.ng_words.specs.Line.{last_comment}
use Rattle.ng_expr.specs.Settle.{Settled, settled_pieces}
use Rattle.ng_modal.specs.BlockOfWords.{block_of}
use Rattle.ng_num.specs.Causes.{first_fault}
use Rattle.ng_num.proofs.FirstFaultLemmas.{unless_ok}
use Rattle.ng_modal.specs.Checking.{checked, faults}
use Rattle.ng_modal.specs.declared.block.Block.{Block}
use Rattle.ng_state.specs.declared.kept_words.KeptWords.{KeptWords}
use Rattle.ng_block.specs.declared.path.Path.{Path}
use Rattle.ng_block.specs.Asked.{Move, move_by}
use Rattle.ng_block.specs.Motion.{feed_of}
use Rattle.ng_block.specs.Cycles.{kept_of}
use Rattle.ng_block.specs.Effects.{Done, unless_refused, block_done, executed_values, executed_pieces, executed}
use Rattle.ng_block.specs.Faults.{path_faults}
use Rattle.ng_block.specs.Goal.{Bearings, bearings_of, bearings_after, Goal, goal_with, goal_of, path_of, path_after_bearings}
use Rattle.ng_block.specs.Remarks.{remark_of}
use Rattle.ng_state.specs.State.{StateModel}
use Rattle.ng_block.proofs.CauseLemmas.{path_by, path_is}

-- ---- results, one after another

pub then_ok : {X Y : Type 0} (r : Result X Fault) (next : X → Result Y Fault) (y : Y) → and_then r next ≡ Ok y → (x : X) × (r ≡ Ok x) × (next x ≡ Ok y)
then_ok (Ok x) next y e = (x, refl, e)
then_ok (Err fault) next y e = absurd (cc e)

pub same_ok : {X : Type 0} (x y : X) → (let found : Result X Fault = Ok x in found ≡ Ok y) → x ≡ y
same_ok x y e = cc e

unless_refused_ok : {X : Type 0} (found : Option Fault) (x y : X) → unless_refused found (Ok x) ≡ Ok y → (found ≡ None) × (x ≡ y)
unless_refused_ok None x y e = (refl, cc e)
unless_refused_ok (Some fault) x y e = absurd (cc e)

-- ---- a line

pub record IsAccepted (s : StateModel) (tools : List ℤ) (geometry : Geometry) (text : List ℕ) (done : Done) : Type 0 where
  pub line : ParsedLine
  pub read_is : read text ≡ Ok line
  pub values : Settled
  pub settled_is : settled_pieces line.pieces s.params ≡ Ok values
  pub block : Block
  pub block_is : block ≡ block_of values.words s.modal.modes
  pub goal : Goal
  pub goal_is : goal_of block values.assignments s tools geometry ≡ Ok goal
  pub none : first_fault (path_faults goal.path geometry) ≡ None
  pub done_is : block_done block goal (remark_of (last_comment line.pieces)) s ≡ done

pub accepted : (s : StateModel) (tools : List ℤ) (geometry : Geometry) (text : List ℕ) (done : Done)
    → executed s tools geometry text ≡ Ok done → IsAccepted s tools geometry text done
unfolding executed executed_pieces executed_values
accepted s tools geometry text done e =
    let line = then_ok (read text) (λ line. executed_pieces s line.pieces tools geometry) done e in
    let values = then_ok (settled_pieces line.0.pieces s.params)
    (λ values. executed_values s (remark_of (last_comment line.0.pieces)) values tools geometry) done line.2 in
    let block = then_ok (checked values.0.words s.modal.modes (length tools)) (λ b.
    and_then (goal_of b values.0.assignments s tools geometry) (λ goal.
    unless_refused (first_fault (path_faults goal.path geometry)) (Ok (block_done b goal (remark_of (last_comment line.0.pieces)) s)))) done values.2 in
    let goal = then_ok (goal_of block.0 values.0.assignments s tools geometry) (λ goal.
    unless_refused (first_fault (path_faults goal.path geometry)) (Ok (block_done block.0 goal (remark_of (last_comment line.0.pieces)) s))) done block.2 in
    let unrefused = unless_refused_ok (first_fault (path_faults goal.0.path geometry))
    (block_done block.0 goal.0 (remark_of (last_comment line.0.pieces)) s) done goal.2 in
    record {
      line = line.0;
      read_is = line.1;
      values = values.0;
      settled_is = values.1;
      block = block.0;
      block_is = sym (unless_ok (first_fault (faults values.0.words s.modal.modes (length tools))) (block_of values.0.words s.modal.modes) block.0 block.1).1;
      goal = goal.0;
      goal_is = goal.1;
      none = unrefused.0;
      done_is = unrefused.1;
    }

-- ---- its goal

pub record IsReached (b : Block) (assignments : List Change) (s : StateModel) (tools : List ℤ) (geometry : Geometry) (goal : Goal) : Type 0 where
  pub feed : ℤ
  pub at : Bearings
  pub path_found : path_of b s.modal at.offsets (with_changes s.params assignments) feed geometry ≡ Ok goal.path
  pub move : Move
  pub move_is : move_by b s.modal at.offsets (with_changes s.params assignments) feed ≡ Ok move
  pub path_found_by : path_by s.modal.point geometry move ≡ Ok goal.path
  pub kept_is : kept_of b s.modal ≡ Ok goal.kept
  pub goal_is : goal_with feed (bearings_after b s.params at) goal.path goal.kept ≡ goal

pub reached : (b : Block) (assignments : List Change) (s : StateModel) (tools : List ℤ) (geometry : Geometry)
    (goal : Goal) → goal_of b assignments s tools geometry ≡ Ok goal → IsReached b assignments s tools geometry goal
reached b assignments s tools geometry goal e =
    let table = with_changes s.params assignments in
    let feed = then_ok (feed_of b s.modal) (λ feed.
    and_then (path_after_bearings b assignments s tools feed geometry) (λ way.
    and_then (kept_of b s.modal) (λ kept. Ok (goal_with feed (bearings_after b s.params way.0) way.1 kept)))) goal e in
    let way = then_ok (path_after_bearings b assignments s tools feed.0 geometry) (λ way.
    and_then (kept_of b s.modal) (λ kept. Ok (goal_with feed.0 (bearings_after b s.params way.0) way.1 kept))) goal feed.2 in
    let kept = then_ok (kept_of b s.modal) (λ kept. Ok (goal_with feed.0 (bearings_after b s.params way.0.0) way.0.1 kept)) goal way.2 in
    let at = then_ok (bearings_of b assignments s tools)
    (λ at. and_then (path_of b s.modal at.offsets table feed.0 geometry) (λ path. Ok (at, path))) way.0 way.1 in
    let path = then_ok (path_of b s.modal at.0.offsets table feed.0 geometry) (λ path. Ok (at.0, path)) way.0 at.2 in
    let both : Bearings × Path = (at.0, path.0) in
    let way_is : both ≡ way.0 = same_ok both way.0 path.2 in
    let made = goal_with feed.0 (bearings_after b s.params way.0.0) way.0.1 kept.0 in
    let same : made ≡ goal = same_ok made goal kept.2 in
    let there : path.0 ≡ goal.path = ap (λ (w : Bearings × Path). w.1) way_is ∙ ap (λ (g : Goal). g.path) same in
    let found : path_of b s.modal at.0.offsets table feed.0 geometry ≡ Ok goal.path = path.1 ∙ ap {B = Result Path Fault} Ok there in
    let move = then_ok (move_by b s.modal at.0.offsets table feed.0) (path_by s.modal.point geometry) goal.path
    (sym (path_is b s.modal at.0.offsets table feed.0 geometry) ∙ found) in
    record {
      feed = feed.0;
      at = at.0;
      path_found = found;
      move = move.0;
      move_is = move.1;
      path_found_by = move.2;
      kept_is = kept.1 ∙ ap {B = Result KeptWords Fault} (λ (g : Goal). Ok g.kept) same;
      goal_is =
          ap (λ (w : Bearings). goal_with feed.0 (bearings_after b s.params w) goal.path goal.kept) (ap (λ (w : Bearings × Path). w.0) way_is)
          ∙ ap (λ (g : Goal). goal_with feed.0 (bearings_after b s.params way.0.0) g.path g.kept) (sym same)
          ∙ same;
    }
