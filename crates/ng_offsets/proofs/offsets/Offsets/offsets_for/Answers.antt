use Rattle.ng_offsets.proofs.WantedLemmas.{stands_on, stands_on_z}
use Rattle.ng_offsets.proofs.offsets.Offsets.offsets_for.Goals as goal

pub returns-clause-wanted : goal.returns-clause-wanted
returns-clause-wanted c =
    let o = c.args.self.now in
    let w = c.args.wanted.now in
    let m = c.args.machine in
    record {
      x = stands_on w.x o.origin.x o.g92.x m.x c.in_ok-x.x (rw c.x.ensures at c.in_ok-x.ensures);
      y = stands_on w.y o.origin.y o.g92.y m.y c.in_ok-y.y (rw c.y.ensures at c.in_ok-y.ensures);
      z = stands_on_z w.z o.origin.z o.g92.z o.tool_length m.z c.in_ok-z.z (rw c.z.ensures at c.in_ok-z.ensures);
    }
