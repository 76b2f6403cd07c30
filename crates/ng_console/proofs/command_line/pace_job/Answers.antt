use Rattle.std.proofs.Common.{codes, Bool, true, false, ◌≡◌, ◌∙◌}
use Rattle.clap.specs.Words.{found_of, rows_of}
use Rattle.clap.proofs.WalkLemmas.{one_text-rows}
use Rattle.ng_console.specs.Words.{SaysFlag}
use Rattle.ng_console.proofs.ClapValueLemmas.{never_none, value_is}
use Rattle.ng_console.proofs.command_line.pace_job.Goals as goal

pub unreachable-requires : goal.unreachable-requires
unreachable-requires c = never_none (found_of c.args.matches.now) (codes "SETTINGS") c.get_str.result c.requires.settings c.get_str.ensures c.in_default.is

pub unreachable-requires-in-None : goal.unreachable-requires-in-None
unreachable-requires-in-None c = never_none (found_of c.args.matches.now) (codes "MACHINE") c.get_str-2.result
    c.requires.machine c.get_str-2.ensures c.in-None.is

pub returns-clause-files : goal.returns-clause-files
returns-clause-files c =
    let found = found_of c.args.matches.now in (
      value_is found (codes "SETTINGS") c.get_str.result c.in-Some.settings c.get_str.ensures c.in-Some.is,
      value_is found (codes "MACHINE") c.get_str-2.result c.in-Some-get_str.machine c.get_str-2.ensures c.in-Some-get_str.is,
    )

pub returns-clause-flags : goal.returns-clause-flags
returns-clause-flags c = go c.requires.flag.0 c.requires.flag.1
  where
    go : (is_on : Bool) → SaysFlag (codes "total") (rows_of (found_of c.args.matches.now)) is_on
        → SaysFlag (codes "total") (rows_of (found_of c.args.matches.now)) c.get_flag-total.result
    go true says =
        let on : c.get_flag-total.result ≡ true = c.get_flag-total.ensures.value (one_text-rows (found_of c.args.matches.now) (codes "total") ∙ says) in
        rw on says
    go false says =
        let off : c.get_flag-total.result ≡ false = c.get_flag-total.ensures.other (one_text-rows (found_of c.args.matches.now) (codes "total") ∙ says) in
        rw off says
