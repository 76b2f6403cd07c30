-- Offsets move nothing; and the state after the program's end.
use Rattle.std.proofs.Common.{arith, ◌≡◌, ◌≢◌, ◌∙◌, ℕ, ◌≤◌, ℤ, Bool, true, false, not, ◌&&◌, ◌||◌, List, [], ◌∷◌}
use Rattle.std.proofs.Common.{◌++◌, Option, Some, None, Result, Ok, refl, sym, ap, subst, if◌then◌else◌, length}
use Rattle.std.specs.Option.{is_some, option_and_then}
use Rattle.ng_params.specs.Change.{with_changes}
use Rattle.ng_params.specs.Points.{origin_of, selection}
use Rattle.ng_params.specs.Params.{at, with_value}
use Rattle.ng_params.specs.declared.change.Change.{Change}
use Rattle.ng_params.proofs.AssignmentLemmas.{at-others, last_counts}
use Rattle.ng_canon.specs.declared.geometry.Geometry.{Geometry}
use Rattle.ng_words.specs.Grammar.{ParsedLine}
use Rattle.ng_words.proofs.ReadLemmas.{reads_iff}
use Rattle.ng_expr.specs.Settle.{Settled, settled_pieces}
use Rattle.ng_expr.specs.declared.word.Word.{Word}
use Rattle.ng_modal.specs.BlockOfWords.{block_of}
use Rattle.ng_modal.specs.ByLetter.{has_axis}
use Rattle.ng_modal.specs.Block.{takes_axes, motion_by}
use Rattle.ng_modal.specs.Movement.{movement_of}
use Rattle.ng_modal.specs.declared.movement.Movement.{Movement}
use Rattle.ng_modal.specs.declared.movement.Movement.TheVariants as movement
use Rattle.ng_modal.specs.declared.requests.NonModal.{NonModal}
use Rattle.ng_modal.specs.declared.requests.NonModal.TheVariants.{Dwell, SetOrigin, Home, SecondHome}
use Rattle.ng_modal.specs.declared.requests.NonModal.TheVariants.{MachineCoordinates, SetOffset, CancelOffsetAndParameters}
use Rattle.ng_modal.specs.declared.requests.NonModal.TheVariants.{CancelOffset, RestoreOffset}
use Rattle.ng_modal.specs.declared.requests.StopWord.{StopWord}
use Rattle.ng_modal.specs.declared.requests.StopWord.TheVariants as word
use Rattle.ng_modal.specs.declared.block.Block.{Block}
use Rattle.ng_num.specs.declared.fault.Fault.{Fault}
use Rattle.ng_state.specs.declared.modes.Modes.{Modes}
use Rattle.ng_state.specs.declared.modes.Motion.{Motion}
use Rattle.ng_offsets.specs.declared.offsets.Offsets.{Offsets}
use Rattle.ng_state.specs.KeptWords.{no_words, in_force}
use Rattle.ng_state.specs.declared.kept_words.KeptWords.{KeptWords}
use Rattle.ng_block.specs.declared.effect.ProgramFlow.TheVariants.{Ends}
use Rattle.ng_state.specs.declared.modal_state.ModalState.{ModalState}
use Rattle.ng_block.specs.declared.path.Path.{Path}
use Rattle.ng_block.specs.declared.path.Path.TheVariants.{Still}
use Rattle.ng_block.specs.Cycles.{own_words, kept_for, kept_beside, kept_after}
use Rattle.ng_block.specs.Effects.{Done, executed}
use Rattle.ng_block.specs.Ends.{ends, stop_of}
use Rattle.ng_block.specs.Goal.{Bearings, ended, bearings_after, Goal, path_of}
use Rattle.ng_block.specs.Homes.{home_on}
use Rattle.ng_block.specs.OffsetsAlone.{AsksFor, sets_at_most, SetsOffsetsAlone}
use Rattle.ng_block.specs.Path.{point_after}
use Rattle.ng_block.specs.ProgramEnd.{IsEnded}
use Rattle.ng_state.specs.State.{StateModel}
use Rattle.ng_block.proofs.AcceptedLemmas.{then_ok, same_ok, IsAccepted, accepted, reached}

-- ---- a block that only sets offsets

none_moves : (w : Option Motion) (calls : Bool) (mode : Motion) → w ≡ None → calls ≡ false → motion_by w calls mode ≡ None
none_moves None false mode e h = refl
none_moves None true mode e h = absurd (cc h)
none_moves (Some w) calls mode e h = absurd (cc e)

no_movement : (words : List Word) (m : Modes) → SetsOffsetsAlone (block_of words m) → (block_of words m).movement ≡ None
no_movement words m h =
    let b = block_of words m in
    ap (option_and_then movement_of) (none_moves b.g.motion (has_axis b.values && not (takes_axes b.g.non_modal)) m.motion h.no_motion h.no_axis)

no_home : (w : Option NonModal) (table : List ℤ) → sets_at_most w ≡ true → home_on w table ≡ None
no_home None table e = refl
no_home (Some SetOrigin) table e = refl
no_home (Some SetOffset) table e = refl
no_home (Some CancelOffsetAndParameters) table e = refl
no_home (Some CancelOffset) table e = refl
no_home (Some RestoreOffset) table e = refl
no_home (Some MachineCoordinates) table e = refl
no_home (Some Dwell) table e = refl
no_home (Some Home) table e = absurd (cc e)
no_home (Some SecondHome) table e = absurd (cc e)

stays : (b : Block) (m : ModalState) (o : Offsets) (table : List ℤ) (feed : ℤ) (geometry : Geometry) → b.movement ≡ None → home_on b.g.non_modal table ≡ None →
    path_of b m o table feed geometry ≡ Ok Still
stays b m o table feed geometry e h = rw (e, h) refl

-- one text asks for one block
pub same_block : (s : StateModel) (tools : List ℤ) (geometry : Geometry) (text : List ℕ) (done : Done) (b : Block)
    (a : IsAccepted s tools geometry text done) → AsksFor s text b → b ≡ a.block
same_block s tools geometry text done b a asks =
    let line : asks.line ≡ a.line = same_ok asks.line a.line (sym ((reads_iff text asks.line).1 asks.is_line) ∙ a.read_is) in
    let values : asks.values ≡ a.values =
    same_ok asks.values a.values (sym asks.have_values ∙ ap (λ (w : ParsedLine). settled_pieces w.pieces s.params) line ∙ a.settled_is) in
    asks.block_is ∙ ap (λ (v : Settled). block_of v.words s.modal.modes) values ∙ sym a.block_is

pub alone : (s : StateModel) (tools : List ℤ) (geometry : Geometry) (text : List ℕ) (done : Done) (b : Block)
    → executed s tools geometry text ≡ Ok done → AsksFor s text b → SetsOffsetsAlone b →
    done.setup.modal.point ≡ s.modal.point
alone s tools geometry text done b e asks h =
    let a = accepted s tools geometry text done e in
    let g = reached a.block a.values.assignments s tools geometry a.goal a.goal_is in
    let unmoved : b.movement ≡ None = ap (λ (x : Block). x.movement) asks.block_is
    ∙ no_movement asks.values.words s.modal.modes (subst SetsOffsetsAlone asks.block_is h) in
    let table = with_changes s.params a.values.assignments in
    let path : path_of b s.modal g.at.offsets table g.feed geometry ≡ Ok Still = stays b s.modal g.at.offsets table
    g.feed geometry unmoved (no_home b.g.non_modal table h.no_way_home) in
    let same : a.goal.path ≡ Still =
    same_ok a.goal.path Still (sym g.path_found
    ∙ ap (λ (x : Block). path_of x s.modal g.at.offsets table g.feed geometry)
    (sym (same_block s tools geometry text done b a asks)) ∙ path) in
    ap (λ (d : Done). d.setup.modal.point) (sym a.done_is) ∙ ap (λ (p : Path). point_after p s.modal.point) same

-- ---- the program's end

ends_is : (w : Option StopWord) → stop_of w ≡ Ends → ends w ≡ true
ends_is None e = absurd (cc e)
ends_is (Some word.Program) e = absurd (cc e)
ends_is (Some word.Optional) e = absurd (cc e)
ends_is (Some word.Shuttle) e = absurd (cc e)
ends_is (Some word.End) e = refl
ends_is (Some word.EndWithShuttle) e = refl

after_end : (b : Block) (params : List ℤ) (there : Bearings) → ends b.m.stop ≡ true → bearings_after b params there ≡ ended params there
after_end b params there e = rw e refl

-- no other parameter is the number of the system in force
others_stay : (params : List ℤ) (changes : List Change) (p : ℕ) → 1 ≤ p → 5220 ≢ p
    → at (with_changes params (changes ++ selection 1 ∷ [])) p ≡ at (with_changes params changes) p
others_stay params [] p some other = at-others params (selection 1 ∷ []) p some (omega arith, other, tt)
others_stay params (c ∷ changes) p some other = others_stay (with_value params c.index c.value) changes p some other

origin_stays : (params : List ℤ) (changes : List Change) → origin_of (with_changes params changes) 1 ≡ origin_of
    (with_changes params (changes ++ selection 1 ∷ [])) 1
origin_stays params changes =
    let x = others_stay params changes 5221 (omega arith) (λ e. absurd (omega (arith, e))) in
    let y = others_stay params changes 5222 (omega arith) (λ e. absurd (omega (arith, e))) in
    let z = others_stay params changes 5223 (omega arith) (λ e. absurd (omega (arith, e))) in
    rw (x, y, z) refl

dropped_words : (a c : Bool) (kept : KeptWords) → c ≡ true → (if a || c then no_words else kept) ≡ no_words
dropped_words true c kept e = refl
dropped_words false true kept e = refl
dropped_words false false kept e = absurd (cc e)

beside_none : (b : Block) (m : ModalState) (kept : KeptWords) → ends b.m.stop ≡ true
    → (let found : Result KeptWords Fault = Ok (kept_beside b m) in found ≡ Ok kept) → kept ≡ no_words
beside_none b m kept e h = sym (same_ok (kept_beside b m) kept h) ∙ dropped_words (is_some b.g.motion) (ends b.m.stop) m.kept e

kept_none : (moves : Option Movement) (b : Block) (m : ModalState) (kept : KeptWords) → ends b.m.stop ≡ true → kept_after moves b m ≡ Ok kept → kept ≡ no_words
kept_none (Some (movement.Straight kind)) b m kept e h = beside_none b m kept e h
kept_none (Some (movement.Arc turn)) b m kept e h = beside_none b m kept e h
kept_none None b m kept e h = beside_none b m kept e h
kept_none (Some (movement.Cycle kind)) b m kept e h =
    let own = then_ok (own_words b m.modes) (λ own. Ok (if ends b.m.stop then no_words else in_force own (kept_for kind m))) kept h in
    let words = in_force own.0 (kept_for kind m) in
    sym (same_ok (if ends b.m.stop then no_words else words) kept own.2) ∙ dropped_words false (ends b.m.stop) words e

pub ended_by : (s : StateModel) (tools : List ℤ) (geometry : Geometry) (text : List ℕ) (done : Done)
    → length s.params ≡ 5399 → executed s tools geometry text ≡ Ok done → done.stop ≡ Ends → IsEnded done.setup
ended_by s tools geometry text done all e stop =
    let a = accepted s tools geometry text done e in
    let b = a.block in
    let g = reached b a.values.assignments s tools geometry a.goal a.goal_is in
    let end : ends b.m.stop ≡ true = ends_is b.m.stop (ap (λ (d : Done). d.stop) a.done_is ∙ stop) in
    let after = after_end b s.params g.at end in
    let offsets : a.goal.offsets ≡ (ended s.params g.at).offsets = ap (λ (x : Goal). x.offsets) (sym g.goal_is) ∙ ap (λ (w : Bearings). w.offsets) after in
    let changes : a.goal.changes ≡ g.at.changes ++ selection 1 ∷ [] = ap (λ (x : Goal). x.changes) (sym g.goal_is) ∙ ap (λ (w : Bearings). w.changes) after in
    let params : with_changes s.params a.goal.changes ≡ with_changes s.params (g.at.changes ++ selection 1 ∷ []) = ap (with_changes s.params) changes in
    subst (λ (d : Done). IsEnded d.setup) a.done_is (record {
      g92_2 = ap (λ (o : Offsets). o.g92) offsets;
      g54 = rw end refl;
      g54_stored = ap (λ (t : List ℤ). at t 5220) params ∙ last_counts s.params g.at.changes [] (selection 1) (omega arith) (omega (arith, all)) tt;
      g54_origin = ap (λ (o : Offsets). o.origin) offsets ∙ origin_stays s.params g.at.changes ∙ ap (λ (t : List ℤ). origin_of t 1) (sym params);
      g17 = rw end refl;
      g90 = rw end refl;
      g94 = rw end refl;
      m48 = rw end refl;
      m5 = rw end refl;
      m9_mist = rw end refl;
      m9_flood = rw end refl;
      g1 = rw end refl;
      no_cycle = kept_none b.movement b s.modal a.goal.kept end g.kept_is;
    })
