use Rattle.std.proofs.Common.{ap, ap₂, codes, ◌≡◌, ◌∙◌, true, false}
use Rattle.std.proofs.lemmas.Result.{IfOk-weaker}
use Rattle.clap.specs.Words.{App, app_of, new_app, with_subcommand}
use Rattle.clap.specs.Simple.{app_of_fields}
use Rattle.clap.specs.declared.builder.command.Command.TheViews.{out-Command}
use Rattle.clap.proofs.SimpleLemmas.{plain_fields}
use Rattle.ng_console.specs.Words.{dry_app, format_app, grow_app, only_by_subcommands, pace_app, run_app}
use Rattle.ng_console.proofs.command_line.command.Goals as goal

-- a command with a version has a flag for it
abbrev versioned : App → App
versioned app = record app { top = record app.top { has_version = true } }

pub returns : goal.returns
returns c =
    let ngc_is : app_of c.arg_required_else_help.result ≡ only_by_subcommands (new_app (codes "ngc")) =
    ap app_of_fields c.arg_required_else_help.ensures
    ∙ (ap (λ f. app_of_fields (record f { arg_required_else_help = true })) c.subcommand_required.ensures
    ∙ (ap (λ f. app_of_fields (record f { subcommand_required = true; arg_required_else_help = true })) c.after_help.ensures
    ∙ (ap (λ f. app_of_fields (record f { subcommand_required = true; arg_required_else_help = true })) c.version.ensures
    ∙ (ap (λ f. versioned (app_of_fields (record f { subcommand_required = true; arg_required_else_help = true }))) c.about.ensures
    ∙ ap only_by_subcommands c.new.ensures.app)))) in
    let dry_is : app_of c.in_ok-dry_command.field-0 ≡ dry_app = c.in_ok-dry_command.ensures in
    let local : (out-Command c.in_ok-dry_command.field-0).has_globals ≡ false =
    (plain_fields c.in_ok-dry_command.field-0 (ap (λ (a : App). a.top.is_plain) dry_is)).globals in
    let with_dry : app_of c.in_ok-subcommand.field-0 ≡ with_subcommand (only_by_subcommands (new_app (codes "ngc"))) dry_app.top =
    c.in_ok-subcommand.ensures.shape local ∙ ap₂ with_subcommand ngc_is (ap (λ (a : App). a.top) dry_is) in
    let format_is : app_of c.in_ok-format_command.field-0 ≡ format_app = c.in_ok-format_command.ensures in
    let format_local : (out-Command c.in_ok-format_command.field-0).has_globals ≡ false =
    (plain_fields c.in_ok-format_command.field-0 (ap (λ (a : App). a.top.is_plain) format_is)).globals in
    let with_format : app_of c.in_ok-subcommand-2.field-0 ≡ with_subcommand
    (with_subcommand (only_by_subcommands (new_app (codes "ngc"))) dry_app.top) format_app.top =
    c.in_ok-subcommand-2.ensures.shape format_local ∙ ap₂ with_subcommand with_dry (ap (λ (a : App). a.top) format_is) in
    let grow_is : app_of c.in_ok-grow_command.field-0 ≡ grow_app = c.in_ok-grow_command.ensures in
    let grow_local : (out-Command c.in_ok-grow_command.field-0).has_globals ≡ false =
    (plain_fields c.in_ok-grow_command.field-0 (ap (λ (a : App). a.top.is_plain) grow_is)).globals in
    let with_grow : app_of c.in_ok-subcommand-3.field-0 ≡ with_subcommand
    (with_subcommand (with_subcommand (only_by_subcommands (new_app (codes "ngc"))) dry_app.top) format_app.top)
    grow_app.top =
    c.in_ok-subcommand-3.ensures.shape grow_local ∙ ap₂ with_subcommand with_format (ap (λ (a : App). a.top) grow_is) in
    let run_is : app_of c.in_ok-run_command.field-0 ≡ run_app = c.in_ok-run_command.ensures in
    let run_local : (out-Command c.in_ok-run_command.field-0).has_globals ≡ false =
    (plain_fields c.in_ok-run_command.field-0 (ap (λ (a : App). a.top.is_plain) run_is)).globals in
    let with_run : app_of c.in_ok-subcommand-4.field-0 ≡ with_subcommand
    (with_subcommand (with_subcommand
    (with_subcommand (only_by_subcommands (new_app (codes "ngc"))) dry_app.top) format_app.top) grow_app.top)
    run_app.top =
    c.in_ok-subcommand-4.ensures.shape run_local ∙ ap₂ with_subcommand with_grow (ap (λ (a : App). a.top) run_is) in
    let pace_is : app_of c.in_ok-pace_command.field-0 ≡ pace_app = c.in_ok-pace_command.ensures in
    let pace_local : (out-Command c.in_ok-pace_command.field-0).has_globals ≡ false =
    (plain_fields c.in_ok-pace_command.field-0 (ap (λ (a : App). a.top.is_plain) pace_is)).globals in
    IfOk-weaker c.subcommand-5.result _ _ (λ r h. h.shape pace_local ∙ ap₂ with_subcommand with_run (ap (λ (a : App). a.top) pace_is)) c.subcommand-5.ensures
