use Rattle.std.proofs.Common.{◌∙◌, ◌-◌, ap, take, length}
use Rattle.std.specs.Prelude.{vec_len}
use Rattle.ng_num.specs.Printing.{number_text}
use Rattle.ng_commands.proofs.BlankLemmas.{one_blank}
use Rattle.ng_commands.proofs.replies.push_length.Goals as goal

pub returns : goal.returns
returns g c =
    let printed = c.in_ok-print_length.ensures.ok in
    let text = c.print_length.new.text in
    c.pop.ensures.rest ∙ (ap (λ items. take (vec_len text - 1) items) printed
    ∙ one_blank c.args.text.now.items (number_text c.args.length) (vec_len text)
    (text.ok.0 ∙ ap length printed))
