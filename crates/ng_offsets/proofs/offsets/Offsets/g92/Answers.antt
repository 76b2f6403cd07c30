use Rattle.ng_offsets.proofs.offsets.Offsets.g92.Goals as goal

pub returns-clause-wanted : goal.returns-clause-wanted
returns-clause-wanted c = rw c.in_ok-printed.ensures.same c.in_ok-g92.ensures.wanted
