use Rattle.std.proofs.Common.{codes}
use Rattle.clap.specs.Words.{found_of}
use Rattle.ng_console.proofs.ClapValueLemmas.{never_none, value_is}
use Rattle.ng_console.proofs.command_line.run_job.Goals as goal

pub unreachable-requires : goal.unreachable-requires
unreachable-requires c = never_none (found_of c.args.matches.now) (codes "DEVICE") c.get_str.result c.requires.device c.get_str.ensures c.in_default.is

pub unreachable-requires-in_default-get_str : goal.unreachable-requires-in_default-get_str
unreachable-requires-in_default-get_str c =
    never_none (found_of c.args.matches.now) (codes "SETTINGS") c.get_str-2.result c.requires.settings c.get_str-2.ensures c.in_default-get_str.is

pub unreachable-requires-in_default-get_str-2 : goal.unreachable-requires-in_default-get_str-2
unreachable-requires-in_default-get_str-2 c =
    never_none (found_of c.args.matches.now) (codes "OUT") c.get_str-3.result c.requires.out c.get_str-3.ensures c.in_default-get_str-2.is

pub returns-clause-files : goal.returns-clause-files
returns-clause-files c =
    let found = found_of c.args.matches.now in (
      value_is found (codes "DEVICE") c.get_str.result c.in-Some.device c.get_str.ensures c.in-Some.is,
      value_is found (codes "SETTINGS") c.get_str-2.result c.in-Some-get_str.settings c.get_str-2.ensures c.in-Some-get_str.is,
      value_is found (codes "OUT") c.get_str-3.result c.in-Some-get_str-2.out c.get_str-3.ensures c.in-Some-get_str-2.is,
    )
