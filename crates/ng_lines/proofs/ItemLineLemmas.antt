-- The lines of items, with their ends.
use Rattle.std.proofs.Common.{◌≡◌, ◌∙◌, ◌<◌, ◌+◌, ◌-◌, ℕ, List, ◌++◌, length, take, ap, arith, refl, sym, codes, length-append}
use Rattle.std.proofs.Math.Seq.{take-append_seam}
use Rattle.std.specs.Fmt.{decimal}
use Rattle.ng_canon.specs.declared.item.Item.{Item}
use Rattle.ng_canon.specs.declared.item.Item.TheVariants.{Pulse, Dwell, Switch}
use Rattle.ng_lines.specs.Lines.{item_line, slots_text, step_text, spinning_text}

abbrev EndsLine : List ℕ → Type 0
EndsLine line = (front : List ℕ) × (line ≡ front ++ codes "\n")

-- an item's line ends in a newline
ends_line : (item : Item) → EndsLine (item_line item)
ends_line (Pulse p) = (codes "P " ++ step_text p.x ++ codes " " ++ step_text p.y ++ codes " " ++ step_text p.z ++ codes " " ++ decimal p.period_us, refl)
ends_line (Dwell us) = (codes "D " ++ decimal us, refl)
ends_line (Switch o) = (codes "S " ++ spinning_text o ++ slots_text o, refl)

pub without_end : (item : Item) → (item_line item ≡ take (length (item_line item) - 1) (item_line item) ++ codes "\n") × (0 < length (item_line item))
without_end item = go (item_line item) (ends_line item)
  where
    go : (line : List ℕ) → EndsLine line → (line ≡ take (length line - 1) line ++ codes "\n") × (0 < length line)
    go line (front, is) =
        let len : length line ≡ length front + 1 = ap length is ∙ length-append front (codes "\n") in
        let at : length line - 1 ≡ length front = omega arith in
        let front_is : take (length line - 1) line ≡ front = ap (λ k. take k line) at ∙ ap (take (length front)) is ∙ take-append_seam front (codes "\n") in
        (is ∙ ap (λ (l : List ℕ). l ++ codes "\n") (sym front_is), omega arith)
