use Rattle.std.proofs.Common.{◌≡◌, ◌≤◌, ◌∙◌, sym, ap, subst, arith}
use Rattle.ng_rig.specs.Trace.{Trace}
use Rattle.ng_rig.proofs.GuaranteeLemmas.{meaning}
use Rattle.ng_log.specs.AtEnd.{IsAtEnd}
use Rattle.ng_journal.proofs.FirstKindReadLemmas.{first_in_force, kind_under}
use Rattle.ng_journal.proofs.journal.Journal.first_kind.Goals as goal

pub returns-in-Ok-clause-reads : goal.returns-in-Ok-clause-reads
returns-in-Ok-clause-reads g c =
    let long : c.args.self.now.saved.length ≡ c.self.inside.tip.header.length = sym (ap (λ v. v.saved.length) c.self.view_is) ∙ c.self.invariant.tip.long in
    let within : c.args.place ≤ c.self.inside.tip.header.length = omega (arith, c.requires.place, long) in
    rw (← c.self.view_is)
    (meaning c.in-Ok.ensures.read
    (λ r. record {
      same = r.same;
      right = kind_under _ c.self.inside.tip.header c.args.place c.in-Ok.kind within
          r.right;
    }))

pub returns-in-Ok-clause-kind : goal.returns-in-Ok-clause-kind
returns-in-Ok-clause-kind g c =
    let long : c.args.self.now.saved.length ≡ c.self.inside.tip.header.length = sym (ap (λ v. v.saved.length) c.self.view_is) ∙ c.self.invariant.tip.long in
    let within : c.args.place ≤ c.self.inside.tip.header.length = omega (arith, c.requires.place, long) in
    rw (← c.self.view_is) (meaning c.in-Ok.ensures.read (λ r. λ standing rest. record {
      same = r.same;
      at = record {
        at = subst (λ (l : Trace). IsAtEnd l c.self.inside.tip.header standing c.self.inside.tip.end)
            (sym r.same) rest.at;
        saved_is = rest.saved_is;
      };
      kind = first_in_force _ c.self.inside.tip.header standing c.args.place c.in-Ok.kind rest.at within r.right;
    }))
