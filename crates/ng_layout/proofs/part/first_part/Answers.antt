use Rattle.std.proofs.Common.{◌∙◌, lit≤}
use Rattle.ng_layout.specs.Part.{label_of}
use Rattle.ng_layout.proofs.PartLemmas.{label-below}
use Rattle.ng_layout.proofs.ByteLemmas.{number-from, signed-from, bytes-from}
use Rattle.ng_layout.proofs.SectorLemmas.{bytes-zeros}
use Rattle.ng_layout.proofs.part.first_part.Goals as goal

pub returns-clause-label : goal.returns-clause-label
returns-clause-label g c =
    label-below (label_of c.args.label) 32 c.put_change.new.sector c.put_state.new.sector c.put_state.ensures.label
    (lit≤ tt)
    (label-below (label_of c.args.label) 488 c.sector-sector.result c.put_change.new.sector
    c.put_change.ensures.below (lit≤ tt) c.sector-sector.ensures.label)

pub returns-clause-state : goal.returns-clause-state
returns-clause-state g c =
    let p = c.put_state.ensures in
    let q = c.put_change.ensures in
    let old = c.sector-sector.result in
    let mid = c.put_change.new.sector in
    let new = c.put_state.new.sector in
    let none = c.sector-sector.ensures.rest in
    record {
      state = p.state;
      slot = number-from 2 488 488 mid new p.beyond (lit≤ tt) ∙ q.slot;
      tool = signed-from 488 496 mid new p.beyond (lit≤ tt) ∙ q.tool;
      between = bytes-from 6 488 490 mid new p.beyond (lit≤ tt) ∙ q.between
          ∙ bytes-from 6 22 490 _ old none (lit≤ tt) ∙ bytes-zeros 6 490 512 (lit≤ tt);
      rest = bytes-from 8 488 504 mid new p.beyond (lit≤ tt) ∙ bytes-from 8 504 504 old mid q.beyond (lit≤ tt)
          ∙ bytes-from 8 22 504 _ old none (lit≤ tt) ∙ bytes-zeros 8 504 512 (lit≤ tt);
    }
