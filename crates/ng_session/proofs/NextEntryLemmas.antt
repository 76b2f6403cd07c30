-- An update of what is stored by one more entry, which can be stored.
use Rattle.std.proofs.Common.{◌≡◌, ◌≢◌, ◌==◌, ℕ, ◌+◌, ◌-◌, ℤ, Bool, true, false, if◌then◌else◌, List, [], ◌∷◌, ◌++◌}
use Rattle.std.proofs.Common.{length, set, Option, None, Some, refl, sym, ◌∙◌, ap, subst, arith}
use Rattle.std.specs.Option.{ForSome}
use Rattle.std.proofs.lemmas.Bool.Decides.{nat_tests}
use Rattle.std.proofs.lemmas.List.{length_push, length-set}
use Rattle.std.proofs.lemmas.List.Elements.{All-set, All-push}
use Rattle.ng_num.specs.declared.point.Point.{Point}
use Rattle.ng_params.specs.Change.{with_changes}
use Rattle.ng_params.specs.Differences.{differences}
use Rattle.ng_params.specs.declared.change.Change.{Change}
use Rattle.ng_params.proofs.DifferenceLemmas.{differences-none}
use Rattle.ng_offsets.specs.Tools.{AreTools, IsToolLength, is_tool_length, with_slot}
use Rattle.ng_offsets.specs.declared.tools.SlotChange.{SlotChange}
use Rattle.ng_layout.specs.Storable.{IsStorable, IsStorableChange}
use Rattle.ng_layout.specs.Stored.{HalfModel, StoredModel}
use Rattle.ng_layout.specs.Tools.{takes_slot}
use Rattle.ng_layout.specs.Update.{UpdateModel, updated}
use Rattle.ng_session.specs.Entries.{abandoned, after_abandon, after_tool}
use Rattle.ng_session.specs.BareBlock.{BareBlock, block_on, IsReady}
use Rattle.ng_session.specs.Planned.{base_on}
use Rattle.ng_session.specs.Session.{CurrentBlockModel, SessionModel}
use Rattle.ng_session.specs.Ticking.{after_current_block, after_current_approach, committed_on}
use Rattle.ng_session.specs.SessionInvariant.{IsNextEntry}
use Rattle.ng_session.specs.declared.stage.Stage.{Stage}
use Rattle.ng_session.specs.declared.stage.Stage.TheVariants as stage
use Rattle.ng_session.proofs.BareBlockLemmas.{block_storable, approach_storable}
use Rattle.ng_session.proofs.StorableStateLemmas.{abandon_storable, tool_storable}
use Rattle.ng_session.proofs.ToolSlotLemmas.{slot_valid, slot_most, tool_within}

pub no_slot : {T : Type 0} (o : Option T) (P : T → Type 0) → o ≡ None → ForSome o P
no_slot {T} o P none x some = let e : None ≡ Some x = sym none ∙ some in cc

-- an update that leaves the parameters and the tools
pub holds_next : (x : StoredModel) (u : UpdateModel) → u.changes ≡ [] → u.slot ≡ None → (updated x u).entries ≡ x.entries + 1
    → IsStorable (updated x u) → IsNextEntry x u
holds_next x u changes slot count storable = record {
  count = count;
  settled =
      (let P : List Change → Type 0 = λ l. l ≡ differences x.setup.params (with_changes x.setup.params l) in
      subst P (sym changes) (sym (differences-none x.setup.params)));
  slot = no_slot u.slot (IsStorableChange x.tools) slot;
  storable = storable;
}

-- ---- the current block

module _ (x : StoredModel) (b : BareBlock) (u : UpdateModel) (was : IsStorable x) (ready : IsReady x b) (slot : u.slot ≡ None) where
  pub block_next : u.changes ≡ b.changes → updated x u ≡ after_current_block x (block_on x.setup.params b) → IsNextEntry x u
  block_next changes is = record {
    count = ap (λ (y : StoredModel). y.entries) is;
    settled =
        (let P : List Change → Type 0 = λ l. l ≡ differences x.setup.params (with_changes x.setup.params l) in
        subst P (sym changes) ready.settled);
    slot = no_slot u.slot (IsStorableChange x.tools) slot;
    storable = subst IsStorable (sym is) (block_storable x b was ready);
  }

  pub approach_next : (point : Point) → u.changes ≡ [] → updated x u ≡ after_current_approach x (block_on x.setup.params b) point → IsNextEntry x u
  approach_next point changes is =
      holds_next x u changes slot (ap (λ (y : StoredModel). y.entries) is) (subst IsStorable (sym is) (approach_storable x b point was ready))

-- what the block is committed as, at its stage
pub on_approach : (s : SessionModel) (x : StoredModel) (c : CurrentBlockModel) (point : Point) (g : Stage) (a : Stage)
    → s.stored ≡ x → g ≡ a → (committed_on s c a).stored ≡ after_current_approach s.stored c point
    → after_current_approach x c point ≡ (committed_on s c g).stored
on_approach s x c point g a same is there =
    ap (λ (y : StoredModel). after_current_approach y c point) (sym same) ∙ sym there ∙ ap (λ (h : Stage). (committed_on s c h).stored) (sym is)

pub on_block : (s : SessionModel) (x : StoredModel) (c : CurrentBlockModel) (g : Stage) → s.stored ≡ x → g ≡ stage.OnBlock
    → after_current_block x c ≡ (committed_on s c g).stored
on_block s x c g same is =
    ap (λ (y : StoredModel). after_current_block y c) (sym same) ∙ ap (λ (h : Stage). (committed_on s c h).stored) (sym is)

-- once nothing is left of the block, nor of its approach
pub finished_is : (x : StoredModel) (b : BareBlock) (g : Stage) (entries : ℕ) (u : UpdateModel)
    → (g ≡ stage.OnBlock → entries ≡ x.entries) → (g ≢ stage.OnBlock → entries ≡ x.entries + 1)
    → ((y : StoredModel) → y.entries ≡ entries → updated y u ≡ after_current_block y (block_on y.setup.params b))
    → updated x u ≡ base_on x (block_on x.setup.params b) g
finished_is x b (stage.ToApproach a) entries u block approach by =
    by (after_current_approach x (block_on x.setup.params b) a.to.point) (sym (approach (λ e. cc)))
finished_is x b (stage.OnApproach a) entries u block approach by =
    by (after_current_approach x (block_on x.setup.params b) a.to.point) (sym (approach (λ e. cc)))
finished_is x b stage.OnBlock entries u block approach by = by x (sym (block refl))

-- ---- a half-done block that is given up, a tool's length

pub abandon_next : (x : StoredModel) (u : UpdateModel) (half : HalfModel) → IsStorable x → x.half ≡ Some half → u.changes ≡ [] → u.slot ≡ None
    → updated x u ≡ after_abandon x → IsNextEntry x u
abandon_next x u half was there changes slot is = holds_next x u changes slot
    (ap (λ (y : StoredModel). y.entries) is ∙ ap (λ (o : Option HalfModel). (abandoned x o).entries) there)
    (abandon_storable x (updated x u) was is)

tools_hold : (lengths : List ℤ) (change : SlotChange) → AreTools lengths → IsStorableChange lengths change → AreTools (with_slot change lengths)
tools_hold lengths change tools valid = by (change.slot == length lengths + 1) refl
  where
    by : (b : Bool) → (change.slot == length lengths + 1) ≡ b
        → AreTools (if b then lengths ++ change.length ∷ [] else set lengths (change.slot - 1) change.length)
    by true more =
        let last : change.slot ≡ length lengths + 1 = grind (arith, nat_tests) in
        record {
          few = omega (arith, last, valid.most, length_push lengths change.length);
          each = All-push IsToolLength lengths change.length tools.each valid.tool;
        }
    by false less = record {
      few = omega (arith, tools.few, length-set lengths (change.slot - 1) change.length);
      each = All-set IsToolLength lengths (change.slot - 1) change.length valid.tool tools.each;
    }

pub tool_next : (x : StoredModel) (u : UpdateModel) (slot : ℕ) (nm : ℤ) → IsStorable x → takes_slot x.tools slot ≡ true → is_tool_length nm ≡ true
    → u.changes ≡ [] → u.slot ≡ Some (record { slot = slot; length = nm }) → updated x u ≡ after_tool x slot nm → IsNextEntry x u
tool_next x u slot nm was takes short changes put is =
    let change : SlotChange = record { slot = slot; length = nm } in
    let valid : IsStorableChange x.tools change =
    record { slot = slot_valid x.tools change takes; most = slot_most x.tools slot takes; tool = tool_within nm short } in
    record {
      count = ap (λ (y : StoredModel). y.entries) is;
      settled =
          (let P : List Change → Type 0 = λ l. l ≡ differences x.setup.params (with_changes x.setup.params l) in
          subst P (sym changes) (sym (differences-none x.setup.params)));
      slot = (let Q : Option SlotChange → Type 0 = λ o. ForSome o (IsStorableChange x.tools) in subst Q (sym put) (some_slot change valid));
      storable = subst IsStorable (sym is) (tool_storable x (with_slot change x.tools) (x.entries + 1) was (tools_hold x.tools change was.tools valid));
    }
  where
    some_slot : (change : SlotChange) → IsStorableChange x.tools change → ForSome (Some change) (IsStorableChange x.tools)
    some_slot change valid other same = let e : change ≡ other = cc in subst (IsStorableChange x.tools) e valid
