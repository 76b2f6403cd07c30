-- The value of one parameter while changes are made in order.
use Rattle.std.proofs.Common.{◌≡◌, ◌≢◌, ℕ, ◌-◌, ◌≤◌, List, [], ◌∷◌, length, ℤ, pos, get_or, refl, sym, ap, ◌∙◌, arith}
use Rattle.std.proofs.lemmas.List.{get_or-set_other, get_or_read, length-set}
use Rattle.std.proofs.lemmas.Grind.{get_or-set_at}
use Rattle.ng_params.specs.Params.{at, with_value}
use Rattle.ng_params.specs.Change.{with_changes}
use Rattle.ng_params.specs.declared.change.Change.{Change}

-- a table between the old and the new one, in which the parameter has the value; the remaining changes lead to the new
-- one
pub record IsAhead (old : List ℤ) (index : ℕ) (changes : List Change) (value : ℤ) (rest : List Change) : Type 0 where
  pub table : List ℤ
  pub long : length table ≡ 5399
  pub value_is : value ≡ at table index
  pub leads : with_changes table rest ≡ with_changes old changes

pub ahead_start : (items old : List ℤ) (index : ℕ) (changes : List Change) (value : ℤ) → items ≡ old → length items ≡ 5399 → 1 ≤ index → index ≤ 5399
    → value ≡ get_or items (index - 1) value → IsAhead old index changes value changes
ahead_start items old index changes value same long low high v = record {
  table = old;
  long = ap length (sym same) ∙ long;
  value_is = get_or_read items (index - 1) value (omega (arith, long)) v (pos 0) ∙ ap (λ l. at l index) same;
  leads = refl;
}

-- a change of this parameter
pub ahead_same : (old : List ℤ) (index : ℕ) (changes : List Change) (value : ℤ) (change : Change) (rest : List Change)
    → 1 ≤ index → index ≤ 5399 → change.index ≡ index → IsAhead old index changes value (change ∷ rest) → IsAhead old index changes change.value rest
ahead_same old index changes value change rest low high same h = record {
  table = with_value h.table change.index change.value;
  long = length-set h.table (change.index - 1) change.value ∙ h.long;
  value_is = sym (get_or-set_at h.table (change.index - 1) (index - 1) change.value (pos 0) (omega arith) (omega (arith, h.long)));
  leads = h.leads;
}

-- a change of another parameter
pub ahead_other : (old : List ℤ) (index : ℕ) (changes : List Change) (value : ℤ) (change : Change) (rest : List Change)
    → 1 ≤ index → 1 ≤ change.index → change.index ≢ index → IsAhead old index changes value (change ∷ rest) → IsAhead old index changes value rest
ahead_other old index changes value change rest low some other h = record {
  table = with_value h.table change.index change.value;
  long = length-set h.table (change.index - 1) change.value ∙ h.long;
  value_is = h.value_is ∙ sym (get_or-set_other h.table (change.index - 1) (index - 1) change.value (pos 0) (λ e. other (omega arith)));
  leads = h.leads;
}

pub ahead_end : (old : List ℤ) (index : ℕ) (changes : List Change) (value : ℤ) (rest : List Change) → rest ≡ []
    → IsAhead old index changes value rest → value ≡ at (with_changes old changes) index
ahead_end old index changes value rest none h = h.value_is ∙ ap (λ t. at t index) (ap (with_changes h.table) (sym none) ∙ h.leads)
