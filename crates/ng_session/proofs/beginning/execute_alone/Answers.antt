use Rattle.std.proofs.Common.{◌∙◌, ap, sym, Ok, arith}
use Rattle.ng_block.specs.Program.{TermsModel, executed_unless_deleted}
use Rattle.ng_session.specs.Entries.{done_of}
use Rattle.ng_session.proofs.ShortLineLemmas.{alone_short}
use Rattle.ng_session.proofs.StorableStateLemmas.{alone-stands}
use Rattle.ng_session.proofs.beginning.execute_alone.Goals as goal

pub returns-in-Ok : goal.returns-in-Ok
unfolding done_of
returns-in-Ok g c =
    record {
      done = λ program. ap (λ (t : TermsModel). executed_unless_deleted t c.args.stored.now.setup c.args.text.now)
          (sym c.terms_over-terms.ensures.terms) ∙ rw (← c.stored.view_is) c.in-Ok.ensures;
      short = alone_short (Ok c.in-Ok.effect) _ _ c.args.text.now _ c.in-Ok.ensures;
      stands = rw (← c.stored.view_is) (alone-stands (Ok c.in-Ok.effect) _ _ c.args.text.now _ c.terms_over-terms.ensures.few c.in-Ok.ensures);
    }

pub terms_over-terms-requires : goal.terms_over-terms-requires
terms_over-terms-requires g c κs = grind arith

pub execute_unless_deleted-requires : goal.execute_unless_deleted-requires
execute_unless_deleted-requires g c κs = grind arith
