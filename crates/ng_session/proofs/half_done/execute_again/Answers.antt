use Rattle.std.proofs.Common.{◌∙◌, ap, sym, Ok, arith}
use Rattle.ng_block.specs.Effects.{executed}
use Rattle.ng_block.specs.Program.{TermsModel}
use Rattle.ng_session.specs.Entries.{done_again}
use Rattle.ng_session.proofs.StorableStateLemmas.{again-stands}
use Rattle.ng_session.proofs.half_done.execute_again.Goals as goal

pub returns-in-Ok : goal.returns-in-Ok
unfolding done_again
returns-in-Ok g c =
    rw (← c.half.view_is, ← c.as_slice.ensures.value) (record {
      done = ap (λ (t : TermsModel). executed c.args.stored.now.setup t.tools t.geometry c.as_slice.result.now)
          (sym c.terms_over-terms.ensures.terms) ∙ rw (← c.stored.view_is) c.in-Ok.ensures.does;
      stands = rw (← c.stored.view_is) (again-stands (Ok c.in-Ok.effect) _ _ _ _ _ c.terms_over-terms.ensures.few c.in-Ok.ensures.does);
    })

pub terms_over-terms-requires : goal.terms_over-terms-requires
terms_over-terms-requires g c κs = grind arith

pub as_slice-requires : goal.as_slice-requires
as_slice-requires g c = omega arith

pub execute-requires : goal.execute-requires
execute-requires g c κs = grind arith
