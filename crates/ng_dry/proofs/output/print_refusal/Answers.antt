use Rattle.std.proofs.Common.{ℕ, List, ◌++◌, ◌∙◌, ap, codes}
use Rattle.std.specs.Fmt.{decimal}
use Rattle.ng_dry.specs.Dry.{refusal_text}
use Rattle.ng_dry.proofs.output.print_refusal.Goals as goal

pub returns-in-Ok-clause-ok : goal.returns-in-Ok-clause-ok
unfolding refusal_text
returns-in-Ok-clause-ok g c =
    c.in-Ok.ensures.ok ∙ ap
    (λ (why : List ℕ). c.args.text.now.items ++ (codes "REFUSED line " ++ decimal c.args.number ++ codes
    ": " ++ (why ++ codes "\n"))) c.text.ensures
