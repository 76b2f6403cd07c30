use Rattle.std.proofs.Common.{◌++◌, codes}
use Rattle.ng_num.specs.Printing.{point_text}
use Rattle.ng_canon.specs.Printing.{round_text}
use Rattle.ng_canon.proofs.TextAppendLemmas.{by_pairs, last_within}
use Rattle.ng_canon.proofs.printing.push_arc.Goals as goal

pub returns-clause-ok : goal.returns-clause-ok
returns-clause-ok g c =
    let arc = c.args.arc in
    by_pairs c.push_round.result c.args.text.now.items (codes "ARC_FEED(") (codes "") (point_text arc.end) (codes ", ") (round_text arc) (codes ")\n")
    c.extend_from_slice.new.self.items c.print_point.new.text.items c.push_round.new.text.items
    c.in_ok-extend_from_slice.ensures.items c.in_ok-print_point.ensures.ok c.push_round.ensures.ok

pub returns-clause-err : goal.returns-clause-err
returns-clause-err g c =
    last_within c.push_round.result c.args.text.now.items (codes "ARC_FEED(") (point_text c.args.arc.end ++ codes ", ")
    c.extend_from_slice.new.self.items c.print_point.new.text.items c.push_round.new.text.items
    c.in_ok-extend_from_slice.ensures.items c.in_ok-print_point.ensures.ok c.push_round.ensures.err
