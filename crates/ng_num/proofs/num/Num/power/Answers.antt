use Rattle.std.proofs.Common.{◌≡◌, Some, None, Err, ◌∙◌, sym}
use Rattle.ng_num.specs.Power.{power_of}
use Rattle.ng_num.specs.declared.fault.Fault.TheVariants.{BadArithmetic}
use Rattle.ng_num.proofs.PowerLemmas.{power_by_close, power_by_exponent, power_by_other}
use Rattle.ng_num.proofs.num.Num.power.Goals as goal

multiplied : (c : goal.After-multiplied) → c.multiplied.result ≡ power_of c.args.self c.args.exponent
multiplied c = c.multiplied.ensures ∙ sym (power_by_exponent c.args.self c.args.exponent (Some c.in-Some.times) (sym c.in-Some.is ∙ c.exponent.ensures))

refused : (c : goal.In-None) → Err BadArithmetic ≡ power_of c.args.self c.args.exponent
refused c = sym (power_by_exponent c.args.self c.args.exponent None (sym c.in-None.is ∙ c.exponent.ensures))

pub returns-in-Some-clause-value : goal.returns-in-Some-clause-value
returns-in-Some-clause-value c = multiplied c

pub returns-in-Some-clause-whole : goal.returns-in-Some-clause-whole
returns-in-Some-clause-whole c = λ n is. multiplied c ∙ power_by_close c.args.self c.args.exponent n is

pub returns-in-Some-clause-other : goal.returns-in-Some-clause-other
returns-in-Some-clause-other c = λ none. multiplied c ∙ power_by_other c.args.self c.args.exponent none

pub returns-in-None-clause-value : goal.returns-in-None-clause-value
returns-in-None-clause-value c = refused c

pub returns-in-None-clause-whole : goal.returns-in-None-clause-whole
returns-in-None-clause-whole c = λ n is. refused c ∙ power_by_close c.args.self c.args.exponent n is
