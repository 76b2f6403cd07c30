use Rattle.std.proofs.Common.{◌≡◌, ℕ, ◌+◌, ◌-◌, ◌≤◌, ◌++◌, List, length, take, drop, ap, ◌∙◌, arith}
use Rattle.std.proofs.Math.Seq.{take-append-add}
use Rattle.std.proofs.lemmas.List.{take-take}
use Rattle.ng_num.proofs.printing.push_first_half.Goals as goal

-- more is appended than is wanted, and what is too much is cut off
cut_off : (old grown cut bytes : List ℕ) (end wanted copied : ℕ) → grown ≡ old ++ take copied bytes → cut ≡ take end grown → end ≡ length old + wanted
    → wanted ≤ copied
    → cut ≡ old ++ take wanted bytes
cut_off old grown cut bytes end wanted copied grows cuts ends fewer =
    cuts ∙ ap (λ n. take n grown) ends ∙ ap (take (length old + wanted)) grows ∙ take-append-add old (take copied bytes) wanted
    ∙ ap (λ l. old ++ l) (take-take wanted copied bytes fewer)

pub returns-clause-ok : goal.returns-clause-ok
returns-clause-ok g c =
    let start = c.args.start in
    let same : start + 51 - start ≡ 51 = omega arith in
    cut_off c.args.text.now.items c.extend_from_slice.new.self.items _ (drop start c.args.buffer.now) _ (51 - start) (start + 51 - start)
    c.in_ok-extend_from_slice.ensures.items c.truncate.ensures.items (omega arith) (omega arith)
