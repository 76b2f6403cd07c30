use Rattle.std.proofs.Common.{sym, codes, Bool, true, false, ◌≡◌, ◌∙◌}
use Rattle.clap.specs.Words.{found_of, rows_of}
use Rattle.clap.proofs.WalkLemmas.{first_value-rows, one_text-rows}
use Rattle.ng_console.specs.Words.{SaysFlag}
use Rattle.ng_console.proofs.ClapValueLemmas.{never_none, value_is}
use Rattle.ng_console.proofs.command_line.dry_job.Goals as goal

pub unreachable-requires : goal.unreachable-requires
unreachable-requires c = never_none (found_of c.args.matches.now) (codes "PROGRAM") c.get_str.result c.requires.program c.get_str.ensures c.in-None.is

pub returns-clause-files : goal.returns-clause-files
returns-clause-files c =
    let found = found_of c.args.matches.now in (
      value_is found (codes "PROGRAM") c.get_str.result c.in-Some.program c.get_str.ensures c.in-Some.is,
      sym (first_value-rows found (codes "from")) ∙ sym c.get_str-from.ensures,
      sym (first_value-rows found (codes "settings")) ∙ sym c.get_str-settings.ensures,
    )

pub returns-clause-flags : goal.returns-clause-flags
returns-clause-flags c = go c.requires.flag.0 c.requires.flag.1
  where
    go : (is_on : Bool) → SaysFlag (codes "block-delete") (rows_of (found_of c.args.matches.now)) is_on
        → SaysFlag (codes "block-delete") (rows_of (found_of c.args.matches.now)) c.get_flag-block_delete.result
    go true says =
        let on : c.get_flag-block_delete.result ≡ true = c.get_flag-block_delete.ensures.value
        (one_text-rows (found_of c.args.matches.now) (codes "block-delete") ∙ says) in
        rw on says
    go false says =
        let off : c.get_flag-block_delete.result ≡ false = c.get_flag-block_delete.ensures.other
        (one_text-rows (found_of c.args.matches.now) (codes "block-delete") ∙ says) in
        rw off says
