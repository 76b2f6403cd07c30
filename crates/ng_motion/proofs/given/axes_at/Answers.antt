use Rattle.std.proofs.Common.{◌∙◌, ap, refl, sym}
use Rattle.toml.specs.Data.{get_member}
use Rattle.toml.specs.View.{table_view, view}
use Rattle.ng_motion.proofs.FitLemmas.{unfit_axes}
use Rattle.ng_motion.proofs.given.axes_at.Goals as goal

pub returns-in-None-axes_in : goal.returns-in-None-axes_in
returns-in-None-axes_in c =
    let d = view c.in-Some.value.now in (
      refl,
      (
        d,
        ap (λ k. get_member k (table_view c.args.table.now)) (sym c.name.ensures) ∙ sym c.in-Some.ensures,
        unfit_axes c.args.key d c.requires c.in-None-axes_in.ensures.none,
      ),
    )
