use Rattle.ng_words.proofs.ReadLemmas.{reads_iff, one_line, too_long_iff, unreadable_iff}
use Rattle.ng_words.proofs.laws.lines.Goals as goal

pub returns-clause-reads : goal.returns-clause-reads
returns-clause-reads c = reads_iff

pub returns-clause-one : goal.returns-clause-one
returns-clause-one c = one_line

pub returns-clause-too_long : goal.returns-clause-too_long
returns-clause-too_long c = too_long_iff

pub returns-clause-unreadable : goal.returns-clause-unreadable
returns-clause-unreadable c = unreadable_iff
