use Rattle.std.proofs.Common.{rules, arith}
use Rattle.ng_modal.specs.Codes.{g_word_of, g_table}
use Rattle.ng_modal.proofs.CodeLemmas.{nothing_found}
use Rattle.ng_modal.proofs.codes.g_word_of.Goals as goal

pub returns-in_default : goal.returns-in_default
unfolding g_word_of
returns-in_default c = nothing_found c.args.tenths g_table (search rules)

pub system-requires : goal.system-requires
system-requires c = omega arith

pub system-requires-in-550 : goal.system-requires-in-550
system-requires-in-550 c = omega arith

pub system-requires-in-560 : goal.system-requires-in-560
system-requires-in-560 c = omega arith

pub system-requires-in-570 : goal.system-requires-in-570
system-requires-in-570 c = omega arith

pub system-requires-in-580 : goal.system-requires-in-580
system-requires-in-580 c = omega arith

pub system-requires-in-590 : goal.system-requires-in-590
system-requires-in-590 c = omega arith

pub system-requires-in-591 : goal.system-requires-in-591
system-requires-in-591 c = omega arith

pub system-requires-in-592 : goal.system-requires-in-592
system-requires-in-592 c = omega arith

pub system-requires-in-593 : goal.system-requires-in-593
system-requires-in-593 c = omega arith
