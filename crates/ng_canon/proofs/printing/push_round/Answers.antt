use Rattle.std.proofs.Common.{◌++◌, codes}
use Rattle.ng_num.specs.Printing.{number_text}
use Rattle.ng_canon.specs.Printing.{turn_text}
use Rattle.ng_canon.proofs.TextAppendLemmas.{by_pairs, last_within, unchanged_within}
use Rattle.ng_canon.proofs.printing.push_round.Goals as goal

pub returns-clause-ok : goal.returns-clause-ok
returns-clause-ok g c =
    let arc = c.args.arc in
    by_pairs c.push_turn.result c.args.text.now.items (number_text arc.centre_a) (codes ", ")
    (number_text arc.centre_b) (codes ", ") (turn_text arc.turn) (codes ")\n")
    c.print_length.new.text.items c.print_length-2.new.text.items c.push_turn.new.text.items
    c.in_ok-print_length.ensures.ok c.in_ok-print_length-2.ensures.ok c.push_turn.ensures.ok

pub returns-clause-err : goal.returns-clause-err
returns-clause-err g c =
    let arc = c.args.arc in
    let two = c.print_length-2.new.text.items in
    last_within c.push_turn.result c.args.text.now.items (number_text arc.centre_a ++ codes ", ") (number_text arc.centre_b ++ codes ", ")
    c.print_length.new.text.items two c.push_turn.new.text.items
    c.in_ok-print_length.ensures.ok c.in_ok-print_length-2.ensures.ok
    (unchanged_within c.push_turn.result two c.push_turn.new.text.items c.push_turn.ensures.err)
