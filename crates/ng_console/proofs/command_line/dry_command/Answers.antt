use Rattle.std.proofs.Common.{ap, ap₂, codes, Some, true, false, ◌≡◌, ◌∙◌}
use Rattle.std.proofs.lemmas.Result.{IfOk-weaker}
use Rattle.clap.specs.Words.{Rule, app_of, new_app, rule_of, with_rule}
use Rattle.clap.specs.Simple.{app_of_fields}
use Rattle.clap.specs.declared.builder.arg.Arg.{Arg}
use Rattle.clap.specs.declared.builder.action.ArgAction.TheVariants.{Set, SetTrue}
use Rattle.ng_console.specs.Words.{block_delete_rule, from_rule, program_rule, settings_rule}
use Rattle.ng_console.proofs.command_line.dry_command.Goals as goal

global_as : {a b : Arg} → a ≡ b → a.global ≡ b.global
global_as same = ap (λ (x : Arg). x.global) same

pub returns : goal.returns
returns c =
    let program_is : rule_of c.required-program.result ≡ program_rule =
    ap rule_of c.required-program.ensures
    ∙ (ap (λ a. record (rule_of a) { required = true }) c.action.ensures
    ∙ (ap (λ a. record (rule_of a) { action = Some Set; required = true }) c.help.ensures
    ∙ ap (λ (r : Rule). record r { action = Some Set; required = true }) c.new.ensures.rule)) in
    let from_is : rule_of c.action-from.result ≡ from_rule =
    ap rule_of c.action-from.ensures
    ∙ (ap (λ a. record (rule_of a) { action = Some Set }) c.help-2.ensures
    ∙ (ap (λ a. record (rule_of a) { action = Some Set }) c.value_name.ensures
    ∙ (ap (λ a. record (rule_of a) { action = Some Set; value_names = 1 }) c.long.ensures
    ∙ ap (λ (r : Rule). record r { long = Some (codes "from"); action = Some Set; value_names = 1 }) c.new-2.ensures.rule))) in
    let settings_is : rule_of c.action-settings.result ≡ settings_rule =
    ap rule_of c.action-settings.ensures
    ∙ (ap (λ a. record (rule_of a) { action = Some Set }) c.help-3.ensures
    ∙ (ap (λ a. record (rule_of a) { action = Some Set }) c.value_name-2.ensures
    ∙ (ap (λ a. record (rule_of a) { action = Some Set; value_names = 1 }) c.long-2.ensures
    ∙ ap (λ (r : Rule). record r { long = Some (codes "settings"); action = Some Set; value_names = 1 }) c.new-3.ensures.rule))) in
    let flag_is : rule_of c.action-block_delete.result ≡ block_delete_rule =
    ap rule_of c.action-block_delete.ensures
    ∙ (ap (λ a. record (rule_of a) { action = Some SetTrue }) c.help-4.ensures
    ∙ (ap (λ a. record (rule_of a) { action = Some SetTrue }) c.long-3.ensures
    ∙ ap (λ (r : Rule). record r { long = Some (codes "block-delete"); action = Some SetTrue }) c.new-4.ensures.rule)) in
    let program_own : c.required-program.result.global ≡ false = global_as c.required-program.ensures
    ∙ (global_as c.action.ensures ∙ (global_as c.help.ensures ∙ c.new.ensures.optional.1)) in
    let from_own : c.action-from.result.global ≡ false =
    global_as c.action-from.ensures
    ∙ (global_as c.help-2.ensures
    ∙ (global_as c.value_name.ensures ∙ (global_as c.long.ensures ∙ c.new-2.ensures.optional.1))) in
    let settings_own : c.action-settings.result.global ≡ false =
    global_as c.action-settings.ensures
    ∙ (global_as c.help-3.ensures
    ∙ (global_as c.value_name-2.ensures ∙ (global_as c.long-2.ensures ∙ c.new-3.ensures.optional.1))) in
    let flag_own : c.action-block_delete.result.global ≡ false =
    global_as c.action-block_delete.ensures ∙ (global_as c.help-4.ensures ∙ (global_as c.long-3.ensures ∙ c.new-4.ensures.optional.1)) in
    let dry_is : app_of c.after_help.result ≡ new_app (codes "dry") = ap app_of_fields c.after_help.ensures
    ∙ (ap app_of_fields c.about.ensures ∙ c.new-5.ensures.app) in
    let first : app_of c.in_ok-arg.field-0 ≡ with_rule (new_app (codes "dry")) program_rule =
    c.in_ok-arg.ensures.shape program_own ∙ ap₂ with_rule dry_is program_is in
    let second : app_of c.in_ok-arg-2.field-0 ≡ with_rule (with_rule (new_app (codes "dry")) program_rule) from_rule
    = c.in_ok-arg-2.ensures.shape from_own ∙ ap₂ with_rule first from_is in
    let third : app_of c.in_ok-arg-3.field-0 ≡ with_rule
    (with_rule (with_rule (new_app (codes "dry")) program_rule) from_rule) settings_rule =
    c.in_ok-arg-3.ensures.shape settings_own ∙ ap₂ with_rule second settings_is in
    IfOk-weaker c.arg-4.result _ _ (λ r h. h.shape flag_own ∙ ap₂ with_rule third flag_is) c.arg-4.ensures
