use Rattle.std.proofs.Common.{codes, Bool, true, false, ◌≡◌, ◌∙◌}
use Rattle.clap.specs.Words.{found_of, rows_of}
use Rattle.clap.proofs.WalkLemmas.{one_text-rows}
use Rattle.ng_console.specs.Words.{SaysFlag}
use Rattle.ng_console.proofs.ClapValueLemmas.{never_none, value_is}
use Rattle.ng_console.proofs.command_line.format_job.Goals as goal

pub unreachable-requires : goal.unreachable-requires
unreachable-requires c = never_none (found_of c.args.matches.now) (codes "DEVICE") c.get_str.result c.requires.device c.get_str.ensures c.in-None.is

pub returns-clause-files : goal.returns-clause-files
returns-clause-files c = value_is (found_of c.args.matches.now) (codes "DEVICE") c.get_str.result c.in-Some.device c.get_str.ensures c.in-Some.is

pub returns-clause-flags : goal.returns-clause-flags
returns-clause-flags c = go c.requires.flag.0 c.requires.flag.1
  where
    go : (is_on : Bool) → SaysFlag (codes "large") (rows_of (found_of c.args.matches.now)) is_on
        → SaysFlag (codes "large") (rows_of (found_of c.args.matches.now)) c.get_flag-large.result
    go true says =
        let on : c.get_flag-large.result ≡ true = c.get_flag-large.ensures.value (one_text-rows (found_of c.args.matches.now) (codes "large") ∙ says) in
        rw on says
    go false says =
        let off : c.get_flag-large.result ≡ false = c.get_flag-large.ensures.other (one_text-rows (found_of c.args.matches.now) (codes "large") ∙ says) in
        rw off says
