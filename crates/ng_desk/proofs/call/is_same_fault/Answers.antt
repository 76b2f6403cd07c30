use Rattle.std.proofs.Common.{rules, sym, ◌∙◌}
use denote.Enum.Bare.{same_true, true_same}
use Rattle.ng_num.specs.contracts.fault.Fault.{the_type}
use Rattle.ng_desk.proofs.call.is_same_fault.Goals as goal

pub returns : goal.returns
returns c = (λ is. same_true the_type (search rules) _ _ (sym c.eq.ensures ∙ is), λ same. c.eq.ensures ∙ true_same the_type _ _ same)
