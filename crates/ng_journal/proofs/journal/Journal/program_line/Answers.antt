use Rattle.std.proofs.Common.{sym, subst}
use Rattle.ng_rig.specs.Trace.{Trace}
use Rattle.ng_rig.proofs.GuaranteeLemmas.{meaning}
use Rattle.ng_log.specs.AtEnd.{IsAtEnd}
use Rattle.ng_journal.proofs.LineReadLemmas.{line_in_force}
use Rattle.ng_journal.proofs.journal.Journal.program_line.Goals as goal

pub returns-in-Ok-clause-line : goal.returns-in-Ok-clause-line
returns-in-Ok-clause-line g c =
    rw (← c.self.view_is) (meaning c.in-Ok.ensures.read (λ r. λ standing rest. record {
      same = r.same;
      at = record {
        at = subst (λ (l : Trace). IsAtEnd l c.self.inside.tip.header standing c.self.inside.tip.end)
            (sym r.same) rest.at;
        saved_is = rest.saved_is;
      };
      line = line_in_force _ c.self.inside.tip.header standing c.args.place c.in-Ok.line rest.at r.right;
    }))
