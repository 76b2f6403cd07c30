use Rattle.std.proofs.Common.{◌≡◌, ◌++◌, ◌∙◌, ◌-◌, List, ℕ, ap, codes, length, sym, take}
use Rattle.ng_lines.specs.Lines.{item_line}
use Rattle.ng_lines.proofs.ItemLineLemmas.{without_end}
use Rattle.ng_lines.proofs.laws.read_back.Goals as goal

pub returns : goal.returns
returns g c =
    let item = c.args.item.now in
    let text_is : c.as_slice-line.result.now ≡ item_line item =
    c.as_slice-line.ensures.value ∙ c.in_ok-push_item.ensures ∙ ap (λ (l : List ℕ). l ++ item_line item) c.new-text.ensures.items in
    c.read_item.ensures.only item c.are_in_range.ensures
    ((without_end item).0 ∙ ap (λ (l : List ℕ). take (length l - 1) l ++ codes "\n") (sym text_is))
