use Rattle.std.proofs.Common.{◌∙◌, ap, sym, subst, List, ℤ, arith}
use Rattle.ng_layout.specs.Storable.{IsStorableChange}
use Rattle.ng_layout.specs.Stored.{StoredModel}
use Rattle.ng_layout.specs.Update.{UpdateModel}
use Rattle.ng_journal.proofs.storing.slot_of.Goals as goal

pub changed_slot-requires : goal.changed_slot-requires
changed_slot-requires g c =
    let tools_is = ap (λ (s : StoredModel). s.tools) c.stored.view_is in
    λ change is. subst (λ (tools : List ℤ). IsStorableChange tools change) (sym tools_is)
    (c.requires change (ap (λ (u : UpdateModel). u.slot) (sym c.update.view_is) ∙ is))

pub returns : goal.returns
returns g c = grind arith
