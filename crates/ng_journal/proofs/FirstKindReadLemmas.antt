-- The first line of a program's beginning, from the sectors that hold it.
use Rattle.std.proofs.Common.{◌≡◌, ℕ, ◌+◌, ◌-◌, ◌*◌, ◌≤◌, min, List, ◌++◌, length, take, sym, ◌∙◌, ap, subst, arith}
use Rattle.std.proofs.lemmas.List.{take_all, get_or-take, length-take-le}
use Rattle.ng_words.specs.declared.start.LineKind.{LineKind}
use Rattle.ng_text.specs.Percent.{first_kind}
use Rattle.ng_rig.specs.Trace.{Image, Trace, reads}
use Rattle.ng_text.specs.Programs.{lines_before}
use Rattle.ng_layout.specs.Sectors.{program_text}
use Rattle.ng_layout.specs.Areas.{program_first, program_size}
use Rattle.ng_layout.specs.Stands.{stretch, program_under}
use Rattle.ng_layout.specs.Stored.{DurableState}
use Rattle.ng_layout.specs.declared.header.Header.{Header}
use Rattle.ng_log.specs.declared.log_end.LogEnd.{LogEnd}
use Rattle.ng_log.specs.AtEnd.{IsAtEnd}
use Rattle.ng_text.specs.FirstLine.{kind_in, shortest, DecidesFirstLine}
use Rattle.ng_journal.specs.Private.LineParts.{IsPart}
use Rattle.ng_text.specs.declared.first_line.FirstLine.{FirstLine}
use Rattle.ng_text.proofs.FirstLineLemmas.{decides_more}
use Rattle.ng_journal.proofs.LineReadLemmas.{front, take_min, length-text, text-at, same_lists}

pub decides_part : (text part : List ℕ) (n : ℕ) (old new : FirstLine) → IsPart text 0 (512 * n) part
    → DecidesFirstLine (take (512 * n) text) old → DecidesFirstLine (shortest old ++ part) new
    → DecidesFirstLine (take (512 * (n + 1)) text) new
decides_part text part n old new p told more_told =
    let at : 512 * n - 0 ≡ 512 * n = omega arith in
    let joined : take (512 * n - 0 + length part) text ≡ take (512 * n - 0) text ++ part =
    front text 0 (512 * n) (length part) part p (omega arith) ∙ ap (λ (l : List ℕ). take (512 * n - 0) text ++ l) (take_all (length part) part (omega arith)) in
    let sum : 512 * n - 0 + length part ≡ min (length text) (512 * (n + 1)) = omega (arith, p.whole) in
    let whole : take (512 * n) text ++ part ≡ take (512 * (n + 1)) text =
    ap (λ (k : ℕ). take k text ++ part) (sym at) ∙ sym joined ∙ ap (λ (k : ℕ). take k text) sum ∙ take_min text (512 * (n + 1)) in
    subst (λ (l : List ℕ). DecidesFirstLine l new) whole (decides_more (take (512 * n) text) part old new told more_told)

-- the beginning of a program
text_of-take : (m n : ℕ) (row : ℕ → List ℕ) → m ≤ n → program_text m row ≡ take m (program_text n row)
text_of-take m n row le =
    same_lists m (program_text m row) (take m (program_text n row)) (length-text m row)
    (length-take-le m (program_text n row) (omega (arith, length-text n row)))
    (λ k lt. text-at m row k lt ∙ sym (text-at n row k (omega arith)) ∙ sym (get_or-take m (program_text n row) k 0 lt))

-- the lines of the program that a header names
pub kind_under : (image : Image) (header : Header) (place : ℕ) (kind : LineKind) → place ≤ header.length
    → kind ≡ kind_in (program_text place (stretch (program_first header.area) (program_size header.area) image))
    → kind ≡ first_kind (lines_before (program_under header image) place)
kind_under image header place kind within found =
    found ∙ ap kind_in (text_of-take place header.length (stretch (program_first header.area) (program_size header.area) image) within)

pub first_in_force : {end : LogEnd} (old : Trace) (header : Header) (standing : DurableState) (place : ℕ)
    (kind : LineKind) → IsAtEnd old header standing end → place ≤ header.length
    → kind ≡ kind_in (program_text place
    (stretch (program_first header.area) (program_size header.area) (reads old)))
    → kind ≡ first_kind (lines_before standing.program place)
first_in_force old header standing place kind at within found =
    kind_under (reads old) header place kind within found
    ∙ ap (λ (l : List ℕ). first_kind (lines_before l place)) at.image.program
