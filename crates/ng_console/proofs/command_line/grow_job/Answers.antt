use Rattle.std.proofs.Common.{codes}
use Rattle.clap.specs.Words.{found_of}
use Rattle.ng_console.proofs.ClapValueLemmas.{never_none, value_is}
use Rattle.ng_console.proofs.command_line.grow_job.Goals as goal

pub unreachable-requires : goal.unreachable-requires
unreachable-requires c = never_none (found_of c.args.matches.now) (codes "DEVICE") c.get_str.result c.requires c.get_str.ensures c.in-None.is

pub returns-clause-files : goal.returns-clause-files
returns-clause-files c = value_is (found_of c.args.matches.now) (codes "DEVICE") c.get_str.result c.in-Some.device c.get_str.ensures c.in-Some.is
