use Rattle.std.proofs.Common.{ap, ap₂, codes, Some, true, false, ◌≡◌, ◌∙◌}
use Rattle.std.proofs.lemmas.Result.{IfOk-weaker}
use Rattle.clap.specs.Words.{Rule, app_of, new_app, rule_of, with_rule}
use Rattle.clap.specs.Simple.{app_of_fields}
use Rattle.clap.specs.declared.builder.arg.Arg.{Arg}
use Rattle.clap.specs.declared.builder.action.ArgAction.TheVariants.{Set, SetTrue}
use Rattle.ng_console.specs.Words.{machine_rule, settings_file_rule, total_rule}
use Rattle.ng_console.proofs.command_line.pace_command.Goals as goal

global_as : {a b : Arg} → a ≡ b → a.global ≡ b.global
global_as same = ap (λ (x : Arg). x.global) same

pub returns : goal.returns
returns c =
    let settings_is : rule_of c.action-settings.result ≡ settings_file_rule =
    ap rule_of c.action-settings.ensures
    ∙ (ap (λ a. record (rule_of a) { action = Some Set }) c.required.ensures
    ∙ (ap (λ a. record (rule_of a) { action = Some Set; required = true }) c.help.ensures
    ∙ ap (λ (r : Rule). record r { action = Some Set; required = true }) c.new.ensures.rule)) in
    let machine_is : rule_of c.action-machine.result ≡ machine_rule =
    ap rule_of c.action-machine.ensures
    ∙ (ap (λ a. record (rule_of a) { action = Some Set }) c.required-2.ensures
    ∙ (ap (λ a. record (rule_of a) { action = Some Set; required = true }) c.help-2.ensures
    ∙ ap (λ (r : Rule). record r { action = Some Set; required = true }) c.new-2.ensures.rule)) in
    let flag_is : rule_of c.action-total.result ≡ total_rule =
    ap rule_of c.action-total.ensures
    ∙ (ap (λ a. record (rule_of a) { action = Some SetTrue }) c.help-3.ensures
    ∙ (ap (λ a. record (rule_of a) { action = Some SetTrue }) c.long.ensures
    ∙ ap (λ (r : Rule). record r { long = Some (codes "total"); action = Some SetTrue }) c.new-3.ensures.rule)) in
    let settings_own : c.action-settings.result.global ≡ false = global_as c.action-settings.ensures
    ∙ (global_as c.required.ensures ∙ (global_as c.help.ensures ∙ c.new.ensures.optional.1)) in
    let machine_own : c.action-machine.result.global ≡ false = global_as c.action-machine.ensures
    ∙ (global_as c.required-2.ensures ∙ (global_as c.help-2.ensures ∙ c.new-2.ensures.optional.1)) in
    let flag_own : c.action-total.result.global ≡ false = global_as c.action-total.ensures
    ∙ (global_as c.help-3.ensures ∙ (global_as c.long.ensures ∙ c.new-3.ensures.optional.1)) in
    let pace_is : app_of c.after_help.result ≡ new_app (codes "pace") = ap app_of_fields c.after_help.ensures
    ∙ (ap app_of_fields c.about.ensures ∙ c.new-4.ensures.app) in
    let first : app_of c.in_ok-arg.field-0 ≡ with_rule (new_app (codes "pace")) settings_file_rule =
    c.in_ok-arg.ensures.shape settings_own ∙ ap₂ with_rule pace_is settings_is in
    let second : app_of c.in_ok-arg-2.field-0 ≡ with_rule (with_rule (new_app (codes "pace")) settings_file_rule)
    machine_rule = c.in_ok-arg-2.ensures.shape machine_own ∙ ap₂ with_rule first machine_is in
    IfOk-weaker c.arg-3.result _ _ (λ r h. h.shape flag_own ∙ ap₂ with_rule second flag_is) c.arg-3.ensures
