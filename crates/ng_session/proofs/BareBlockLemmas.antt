-- The block that is kept with its changes: what they make of the table, and that each state after it can be stored.
use Rattle.std.proofs.Common.{◌≡◌, ℕ, ◌≤◌, ℤ, false, true, List, [], ◌∷◌, length, MatchOption, Option, None, Some, sym, ◌∙◌, ap, subst}
use Rattle.std.specs.Option.{option_map}
use Rattle.ng_num.specs.declared.point.Point.{Point}
use Rattle.ng_params.specs.Change.{with_changes}
use Rattle.ng_params.specs.Differences.{differences}
use Rattle.ng_params.specs.declared.change.Change.{Change}
use Rattle.ng_params.proofs.DifferenceLemmas.{differences-restore}
use Rattle.ng_layout.specs.Storable.{IsStorable, IsStorableModalState}
use Rattle.ng_layout.specs.Stored.{StoredModel}
use Rattle.ng_session.specs.BareBlock.{BareBlock, block_on, left_of, IsReady}
use Rattle.ng_session.specs.Entries.{place_after}
use Rattle.ng_session.specs.Planned.{base_on, base_after}
use Rattle.ng_session.specs.Session.{CurrentBlockModel}
use Rattle.ng_session.specs.Ticking.{after_current_block, after_current_approach}
use Rattle.ng_session.specs.SessionInvariant.{IsSessionInvariant}
use Rattle.ng_session.specs.declared.stage.Stage.{Stage}
use Rattle.ng_session.specs.declared.stage.Stage.TheVariants as stage
use Rattle.ng_session.proofs.StorableStateLemmas.{long-after, place-within}

-- the differences that changes make, in place of the changes
pub settled_restore : (params : List ℤ) (changes settled : List Change) → length params ≡ 5399
    → settled ≡ differences params (with_changes params changes) → with_changes params settled ≡ with_changes params changes
settled_restore params changes settled long is =
    ap (with_changes params) is ∙ differences-restore params (with_changes params changes) long (long-after params changes ∙ long)

pub settled_again : (params : List ℤ) (changes settled : List Change) → length params ≡ 5399
    → settled ≡ differences params (with_changes params changes) → settled ≡ differences params (with_changes params settled)
settled_again params changes settled long is = is ∙ ap (differences params) (sym (settled_restore params changes settled long is))

-- ---- the states after it

pub block_storable : (x : StoredModel) (b : BareBlock) → IsStorable x → IsReady x b
    → IsStorable (after_current_block x (block_on x.setup.params b))
block_storable x b was ready = record {
  table = long-after x.setup.params b.changes ∙ was.table;
  modal = ready.modal;
  half = tt;
  place = ready.place;
  program = was.program;
  program_limit = was.program_limit;
  tools = was.tools;
}

pub approach_storable : (x : StoredModel) (b : BareBlock) (point : Point) → IsStorable x → IsReady x b
    → IsStorable (after_current_approach x (block_on x.setup.params b) point)
approach_storable x b point was ready = record {
  table = was.table;
  modal = was.modal;
  half = record { unknown = λ none. let e : false ≡ true = none in cc; text = ready.text };
  place = was.place;
  program = was.program;
  program_limit = was.program_limit;
  tools = was.tools;
}

-- the block stays ready after its approach
pub ready_after : (x : StoredModel) (b : BareBlock) (c : CurrentBlockModel) (point : Point) → IsReady x b → IsReady (after_current_approach x c point) b
ready_after x b c point ready = record { settled = ready.settled; modal = ready.modal; place = ready.place; text = ready.text }

pub base_on_storable : (x : StoredModel) (b : BareBlock) (g : Stage) → IsStorable x → IsReady x b
    → IsStorable (base_on x (block_on x.setup.params b) g)
base_on_storable x b (stage.ToApproach a) was ready =
    let c = block_on x.setup.params b in
    block_storable (after_current_approach x c a.to.point) b (approach_storable x b a.to.point was ready) (ready_after x b c a.to.point ready)
base_on_storable x b (stage.OnApproach a) was ready =
    let c = block_on x.setup.params b in
    block_storable (after_current_approach x c a.to.point) b (approach_storable x b a.to.point was ready) (ready_after x b c a.to.point ready)
base_on_storable x b stage.OnBlock was ready = block_storable x b was ready

pub base_storable : (x : StoredModel) (o : Option BareBlock) → IsSessionInvariant x o
    → IsStorable (base_after x (option_map (block_on x.setup.params) o))
base_storable x None valid = valid.storable
base_storable x (Some b) valid = base_on_storable x b b.stage valid.storable valid.ready

-- a table stays as long as it is
pub base_on_long : (x : StoredModel) (b : BareBlock) (g : Stage) → length (base_on x (block_on x.setup.params b) g).setup.params ≡ length x.setup.params
base_on_long x b (stage.ToApproach a) = long-after x.setup.params b.changes
base_on_long x b (stage.OnApproach a) = long-after x.setup.params b.changes
base_on_long x b stage.OnBlock = long-after x.setup.params b.changes

-- ---- a block that is begun

pub begun_ready : (x : StoredModel) (b : BareBlock) (changes : List Change) (next : ℕ) → IsStorable x → next ≤ x.length
    → b.changes ≡ differences x.setup.params (with_changes x.setup.params changes)
    → b.place ≡ place_after next x.place b.source b.stop → IsStorableModalState b.modal → length b.text ≤ 256 → IsReady x b
begun_ready x b changes next was within made place modal text = record {
  settled = settled_again x.setup.params changes b.changes was.table made;
  modal = modal;
  place = subst (λ (p : ℕ). p ≤ x.length) (sym place) (place-within next x.place x.length b.source b.stop within was.place);
  text = text;
}

pub left_taken : {T : Type 0} (r : Option T) (old new : List T) → MatchOption r ((old ≡ []) × (new ≡ [])) (λ x. old ≡ x ∷ new) → left_of r new ≡ old
left_taken None old new h = sym h.0
left_taken (Some x) old new h = sym h
