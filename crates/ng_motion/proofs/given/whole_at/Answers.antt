use Rattle.std.proofs.Common.{◌∙◌, ap, refl, sym}
use Rattle.toml.specs.Data.{get_member}
use Rattle.toml.specs.View.{table_view, view}
use Rattle.ng_motion.proofs.FitLemmas.{unfit_whole}
use Rattle.ng_motion.proofs.given.whole_at.Goals as goal

pub returns-in-None-whole_in : goal.returns-in-None-whole_in
returns-in-None-whole_in c =
    let d = view c.in-Some.value.now in (
      refl,
      (
        d,
        ap (λ k. get_member k (table_view c.args.table.now)) (sym c.name.ensures) ∙ sym c.in-Some.ensures,
        unfit_whole c.args.key d c.requires c.in-None-whole_in.ensures.none,
      ),
    )
