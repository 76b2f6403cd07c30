use Rattle.std.proofs.Common.{ap, ap₂, codes, Some, true, false, ◌≡◌, ◌∙◌}
use Rattle.std.proofs.lemmas.Result.{IfOk-weaker}
use Rattle.clap.specs.Words.{Rule, app_of, new_app, rule_of, with_rule}
use Rattle.clap.specs.Simple.{app_of_fields}
use Rattle.clap.specs.declared.builder.arg.Arg.{Arg}
use Rattle.clap.specs.declared.builder.action.ArgAction.TheVariants.{Set}
use Rattle.ng_console.specs.Words.{device_rule, settings_file_rule, out_rule}
use Rattle.ng_console.proofs.command_line.run_command.Goals as goal

global_as : {a b : Arg} → a ≡ b → a.global ≡ b.global
global_as same = ap (λ (x : Arg). x.global) same

pub returns : goal.returns
returns c =
    let device_is : rule_of c.action-device.result ≡ device_rule =
    ap rule_of c.action-device.ensures
    ∙ (ap (λ a. record (rule_of a) { action = Some Set }) c.required.ensures
    ∙ (ap (λ a. record (rule_of a) { action = Some Set; required = true }) c.help.ensures
    ∙ ap (λ (r : Rule). record r { action = Some Set; required = true }) c.new.ensures.rule)) in
    let settings_is : rule_of c.action-settings.result ≡ settings_file_rule =
    ap rule_of c.action-settings.ensures
    ∙ (ap (λ a. record (rule_of a) { action = Some Set }) c.required-2.ensures
    ∙ (ap (λ a. record (rule_of a) { action = Some Set; required = true }) c.help-2.ensures
    ∙ ap (λ (r : Rule). record r { action = Some Set; required = true }) c.new-2.ensures.rule)) in
    let out_is : rule_of c.action-out.result ≡ out_rule =
    ap rule_of c.action-out.ensures
    ∙ (ap (λ a. record (rule_of a) { action = Some Set }) c.required-3.ensures
    ∙ (ap (λ a. record (rule_of a) { action = Some Set; required = true }) c.help-3.ensures
    ∙ ap (λ (r : Rule). record r { action = Some Set; required = true }) c.new-3.ensures.rule)) in
    let device_own : c.action-device.result.global ≡ false = global_as c.action-device.ensures
    ∙ (global_as c.required.ensures ∙ (global_as c.help.ensures ∙ c.new.ensures.optional.1)) in
    let settings_own : c.action-settings.result.global ≡ false = global_as c.action-settings.ensures
    ∙ (global_as c.required-2.ensures ∙ (global_as c.help-2.ensures ∙ c.new-2.ensures.optional.1)) in
    let out_own : c.action-out.result.global ≡ false = global_as c.action-out.ensures
    ∙ (global_as c.required-3.ensures ∙ (global_as c.help-3.ensures ∙ c.new-3.ensures.optional.1)) in
    let run_is : app_of c.after_help.result ≡ new_app (codes "run") = ap app_of_fields c.after_help.ensures
    ∙ (ap app_of_fields c.about.ensures ∙ c.new-4.ensures.app) in
    let first : app_of c.in_ok-arg.field-0 ≡ with_rule (new_app (codes "run")) device_rule =
    c.in_ok-arg.ensures.shape device_own ∙ ap₂ with_rule run_is device_is in
    let second : app_of c.in_ok-arg-2.field-0 ≡ with_rule (with_rule (new_app (codes "run")) device_rule)
    settings_file_rule = c.in_ok-arg-2.ensures.shape settings_own ∙ ap₂ with_rule first settings_is in
    IfOk-weaker c.arg-3.result _ _ (λ r h. h.shape out_own ∙ ap₂ with_rule second out_is) c.arg-3.ensures
