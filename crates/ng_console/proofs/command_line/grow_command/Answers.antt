use Rattle.std.proofs.Common.{ap, ap₂, codes, Some, true, false, ◌≡◌, ◌∙◌}
use Rattle.std.proofs.lemmas.Result.{IfOk-weaker}
use Rattle.clap.specs.Words.{Rule, app_of, new_app, rule_of, with_rule}
use Rattle.clap.specs.Simple.{app_of_fields}
use Rattle.clap.specs.declared.builder.arg.Arg.{Arg}
use Rattle.clap.specs.declared.builder.action.ArgAction.TheVariants.{Set}
use Rattle.ng_console.specs.Words.{device_rule}
use Rattle.ng_console.proofs.command_line.grow_command.Goals as goal

global_as : {a b : Arg} → a ≡ b → a.global ≡ b.global
global_as same = ap (λ (x : Arg). x.global) same

pub returns : goal.returns
returns c =
    let device_is : rule_of c.action-device.result ≡ device_rule =
    ap rule_of c.action-device.ensures
    ∙ (ap (λ a. record (rule_of a) { action = Some Set }) c.required.ensures
    ∙ (ap (λ a. record (rule_of a) { action = Some Set; required = true }) c.help.ensures
    ∙ ap (λ (r : Rule). record r { action = Some Set; required = true }) c.new.ensures.rule)) in
    let device_own : c.action-device.result.global ≡ false = global_as c.action-device.ensures
    ∙ (global_as c.required.ensures ∙ (global_as c.help.ensures ∙ c.new.ensures.optional.1)) in
    let grow_is : app_of c.after_help.result ≡ new_app (codes "grow") = ap app_of_fields c.after_help.ensures
    ∙ (ap app_of_fields c.about.ensures ∙ c.new-2.ensures.app) in
    IfOk-weaker c.arg.result _ _ (λ r h. h.shape device_own ∙ ap₂ with_rule grow_is device_is) c.arg.ensures
