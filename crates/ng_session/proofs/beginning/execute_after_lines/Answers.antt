use Rattle.std.proofs.Common.{◌∙◌, ap, sym, Ok, arith}
use Rattle.ng_block.specs.Program.{TermsModel, executed_after}
use Rattle.ng_session.specs.Entries.{done_of}
use Rattle.ng_session.proofs.ShortLineLemmas.{after_short}
use Rattle.ng_session.proofs.StorableStateLemmas.{after-stands}
use Rattle.ng_session.proofs.beginning.execute_after_lines.Goals as goal

pub returns-in-Ok : goal.returns-in-Ok
unfolding done_of
returns-in-Ok g c =
    record {
      does = ap (λ (t : TermsModel). executed_after t c.args.first c.args.stored.now.setup c.args.text.now)
          (sym c.terms_over-terms.ensures.terms) ∙ rw (← c.stored.view_is) c.in-Ok.ensures;
      done = λ program e. rw (← e)
          (ap (λ (t : TermsModel). executed_after t c.args.first c.args.stored.now.setup c.args.text.now)
          (sym c.terms_over-terms.ensures.terms) ∙ rw (← c.stored.view_is) c.in-Ok.ensures);
      short = after_short (Ok c.in-Ok.effect) _ _ _ c.args.text.now _ c.in-Ok.ensures;
      stands = rw (← c.stored.view_is) (after-stands (Ok c.in-Ok.effect) _ _ _ c.args.text.now _ c.terms_over-terms.ensures.few c.in-Ok.ensures);
    }

pub terms_over-terms-requires : goal.terms_over-terms-requires
terms_over-terms-requires g c κs = grind arith

pub execute_after-requires : goal.execute_after-requires
execute_after-requires g c κs = grind arith
