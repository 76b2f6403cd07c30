-- The line of a program at a place, from the sectors that hold it.
use Rattle.std.proofs.Common.{◌≡◌, ◌⊎◌, inl, inr, ℕ, zero, suc, ◌+◌, ◌-◌, ◌*◌, ◌/◌, ◌%◌, ◌<◌, ◌≤◌, ◌==◌, min, max}
use Rattle.std.proofs.Common.{Bool, true, false, List, [], ◌∷◌, ◌++◌, length, take, drop, get_or, slice_index}
use Rattle.std.proofs.Common.{Option, Some, None, Result, Ok, Err, if◌then◌else◌, refl, sym, ◌∙◌, ap, subst, arith}
use Rattle.std.proofs.Common.{length-append, length-drop}
use Rattle.std.specs.Prelude.{IsOk, OnOk, ◌↔◌}
use Rattle.std.proofs.lemmas.Bool.Decides.{nat_tests}
use Rattle.std.proofs.Math.Seq.{take-append_seam}
use Rattle.std.proofs.lemmas.List.{take_all, take-take, take-append-drop, get_or-take, get_or-drop, length-take-le}
use Rattle.std.proofs.lemmas.List.FromFn.{fill_by_all, get_or-map-range_with_len, length-map-range_with_len}
use Rattle.ng_rig.specs.Trace.{Trace, reads}
use Rattle.ng_layout.specs.Sectors.{program_text}
use Rattle.ng_layout.specs.declared.header.Header.{Header}
use Rattle.ng_layout.specs.Areas.{program_first, program_size}
use Rattle.ng_layout.specs.Stands.{stretch}
use Rattle.ng_layout.specs.Stored.{DurableState}
use Rattle.ng_log.specs.declared.log_end.LogEnd.{LogEnd}
use Rattle.ng_log.specs.AtEnd.{IsAtEnd}
use Rattle.ng_layout.proofs.ImageLemmas.{stretch-at}
use Rattle.std.specs.Str.Lines.{lines, strip_carriage_return}
use Rattle.ng_text.specs.Split.{HasNoNewline}
use Rattle.ng_text.proofs.NewlineLemmas.{HasNoNewline-append, parted, lines-newline, lines-alone}
use Rattle.ng_text.specs.Programs.{ProgramLineModel, span, next_line_start, first_line, program_line_at}
use Rattle.ng_text.proofs.PlaceLemmas.{span-newline, span-alone}
use Rattle.ng_journal.specs.Private.LineParts.{IsPart, KeepsLineFront, IsEnd, TakesPart}

take_over : (xs ys : List ℕ) (capacity n : ℕ) → length xs + capacity ≡ n → take n (xs ++ ys) ≡ xs ++ take capacity ys
take_over [] ys capacity n is = let e : n ≡ capacity = omega arith in ap (λ (k : ℕ). take k ys) e
take_over (x ∷ xs) ys capacity zero is = absurd (omega arith)
take_over (x ∷ xs) ys capacity (suc n) is = ap (λ (l : List ℕ). x ∷ l) (take_over xs ys capacity n (omega arith))

pub take_min : (ys : List ℕ) (capacity : ℕ) → take (min (length ys) capacity) ys ≡ take capacity ys
take_min ys capacity = elim (le_cases (length ys) capacity) [
  | inl short ↦ let e : min (length ys) capacity ≡ length ys = omega arith in ap (λ (k : ℕ). take k ys) e
      ∙ take_all (length ys) ys (omega arith) ∙ sym (take_all capacity ys short)
  | inr long ↦ let e : min (length ys) capacity ≡ capacity = omega arith in ap (λ (k : ℕ). take k ys) e
]
  where
    le_cases : (m n : ℕ) → (m ≤ n) ⊎ (n ≤ m)
    le_cases m n = grind arith

on_ok : {T E P : Type 0} (r : Result T E) → IsOk r → OnOk r P → P
on_ok (Ok v) ok p = p
on_ok (Err e) ok p = absurd (cc)

-- bytes taken as far as they fit
pub head_more : {T E : Type 0} (r : Result T E) (xs ys new : List ℕ) (capacity m : ℕ) → capacity + length xs ≡ 257
    → m ≡ min (length ys) capacity → (IsOk r ↔ (length xs + length (take m ys) ≤ 257)) → OnOk r (new ≡ xs ++ take m ys)
    → new ≡ take 257 (xs ++ ys)
head_more r xs ys new capacity m is m_is fits ok =
    let short : length (take m ys) ≡ m = length-take-le m ys (omega arith) in
    let e = on_ok r (fits.1 (omega arith)) ok in
    e ∙ ap (λ (k : ℕ). xs ++ take k ys) m_is ∙ ap (λ (l : List ℕ). xs ++ l) (take_min ys capacity) ∙ sym (take_over xs ys capacity 257 (omega arith))

pub same_lists : (n : ℕ) (xs ys : List ℕ) → length xs ≡ n → length ys ≡ n → ((k : ℕ) → k < n → get_or xs k 0 ≡ get_or ys k 0) → xs ≡ ys
same_lists n xs ys long_xs long_ys each = fill_by_all (λ k. get_or ys k 0) xs n 0 long_xs each
    ∙ sym (fill_by_all (λ k. get_or ys k 0) ys n 0 long_ys (λ k lt. refl))

pub length-text : (n : ℕ) (row : ℕ → List ℕ) → length (program_text n row) ≡ n
unfolding program_text
length-text n row = length-map-range_with_len (λ i. get_or (row (i / 512)) (i % 512) 0) 0 n

pub text-at : (n : ℕ) (row : ℕ → List ℕ) (i : ℕ) → i < n → get_or (program_text n row) i 0 ≡ get_or (row (i / 512)) (i % 512) 0
unfolding program_text
text-at n row i lt = get_or-map-range_with_len (λ i. get_or (row (i / 512)) (i % 512) 0) 0 n i i 0 lt (omega arith)

-- a part of a sector is the same part of the text
part_same : (row : ℕ → List ℕ) (sector : List ℕ) (size place n from to skipped : ℕ) → length sector ≡ 512
    → sector ≡ row n → from ≤ to → to ≤ 512 → 512 * n + to ≤ size → place + skipped ≡ 512 * n + from
    → take (to - from) (drop from sector) ≡ take (to - from) (drop skipped (drop place (program_text size row)))
part_same row sector size place n from to skipped full is ordered within inside placed =
    same_lists (to - from) _ _
    (length-take-le (to - from) (drop from sector) (omega (arith, length-drop from sector)))
    (length-take-le (to - from) (drop skipped (drop place (program_text size row)))
    (omega (
      arith,
      length-drop skipped (drop place (program_text size row)),
      length-drop place (program_text size row),
      length-text size row,
    )))
    (λ k lt. here k lt ∙ sym (there k lt))
  where
    here : (k : ℕ) → k < to - from → get_or (take (to - from) (drop from sector)) k 0 ≡ get_or (row n) (from + k) 0
    here k lt = get_or-take (to - from) (drop from sector) k 0 lt ∙ get_or-drop from sector k 0 ∙ ap (λ (l : List ℕ). get_or l (from + k) 0) is

    there : (k : ℕ) → k < to - from → get_or (take (to - from) (drop skipped (drop place (program_text size row)))) k 0 ≡ get_or (row n) (from + k) 0
    there k lt =
        let i = place + (skipped + k) in
        let sector_is : i / 512 ≡ n = omega arith in
        let byte_is : i % 512 ≡ from + k = omega arith in
        get_or-take (to - from) (drop skipped (drop place (program_text size row))) k 0 lt
        ∙ get_or-drop skipped (drop place (program_text size row)) k 0
        ∙ get_or-drop place (program_text size row) (skipped + k) 0
        ∙ text-at size row i (omega arith)
        ∙ (λ j. get_or (row (sector_is j)) (byte_is j) 0)

pub part_is : (row : ℕ → List ℕ) (sector : List ℕ) (size place n from to : ℕ) → length sector ≡ 512 → sector ≡ row n
    → place ≤ size → place < 512 * n + 512 → 512 * n < size → from ≡ max place (512 * n) - 512 * n
    → to ≡ min 512 (size - 512 * n)
    → IsPart (program_text size row) place (512 * n) (take (to - from) (drop from sector))
part_is row sector size place n from to full is place_in begins ends from_is to_is =
    let ordered : from ≤ to = omega arith in
    let long : length (take (to - from) (drop from sector)) ≡ to - from =
    length-take-le (to - from) (drop from sector) (omega (arith, length-drop from sector)) in
    let same = part_same row sector size place n from to (512 * n - place) full is ordered (omega arith) (omega arith) (omega arith) in
    record {
      is = same ∙ ap (λ (k : ℕ). take k (drop (512 * n - place) (drop place (program_text size row)))) (sym long);
      whole = omega (arith, long, length-text size row);
    }

newline_at : (front rest : List ℕ) → slice_index (front ++ 10 ∷ rest) (length front) ≡ 10
newline_at [] rest = refl
newline_at (b ∷ front) rest = newline_at front rest

-- a part that goes on after its first line
pub line_taken : (old new front rest : List ℕ) → HasNoNewline front → new ≡ take 257 (old ++ front)
    → TakesPart old new (front ++ 10 ∷ rest) (Some (length front))
line_taken old new front rest plain head =
    let same = take-append_seam front (10 ∷ rest) in (
      subst HasNoNewline (sym same) plain,
      omega (arith, length-append front (10 ∷ rest)),
      newline_at front rest,
      head ∙ ap (λ l. take 257 (old ++ l)) (sym same),
    )

-- Parts taken one after another.
keep_keep : (n : ℕ) (xs ys : List ℕ) → take n (take n xs ++ ys) ≡ take n (xs ++ ys)
keep_keep zero xs ys = refl
keep_keep (suc n) [] ys = refl
keep_keep (suc n) (x ∷ xs) ys = ap (λ (l : List ℕ). x ∷ l) (keep_keep n xs ys)

take_sum : (m k : ℕ) (xs : List ℕ) → m ≤ length xs → take (m + k) xs ≡ take m xs ++ take k (drop m xs)
take_sum m k xs within =
    ap (λ (l : List ℕ). take (m + k) l) (sym (take-append-drop m xs))
    ∙ take_over (take m xs) (drop m xs) k (m + k) (omega (arith, length-take-le m xs within))

pub none_in_head : (rest head : List ℕ) (n : ℕ) → n ≡ 0 → head ≡ [] → KeepsLineFront rest n head
none_in_head rest head n is none = subst (λ (k : ℕ). KeepsLineFront rest k head) (sym is) (record { plain = tt; head_is = none })

-- the text from a place on
abbrev rest_of : List ℕ → ℕ → List ℕ
rest_of text place = drop place text

within_rest : (text : List ℕ) (place start : ℕ) (part : List ℕ) → IsPart text place start part → start - place + length part ≤ length (rest_of text place)
within_rest text place start part p = omega (arith, p.whole, length-drop place text)

pub front : (text : List ℕ) (place start n : ℕ) (part : List ℕ) → IsPart text place start part → n ≤ length part
    → take (start - place + n) (rest_of text place) ≡ take (start - place) (rest_of text place) ++ take n part
front text place start n part p le =
    let m = start - place in
    let rest = rest_of text place in
    take_sum m n rest (omega (arith, within_rest text place start part p))
    ∙ ap (λ (l : List ℕ). take m rest ++ l) (sym (take-take n (length part) (drop m rest) le) ∙ ap (λ (l : List ℕ). take n l) (sym p.is))

head_front : (text old new : List ℕ) (place start n : ℕ) (part : List ℕ) → IsPart text place start part
    → n ≤ length part → KeepsLineFront (rest_of text place) (start - place) old → HasNoNewline (take n part)
    → new ≡ take 257 (old ++ take n part) → KeepsLineFront (rest_of text place) (start - place + n) new
head_front text old new place start n part p le so_far plain is =
    let m = start - place in
    let rest = rest_of text place in
    let joined = front text place start n part p le in
    record {
      plain = subst HasNoNewline (sym joined) (HasNoNewline-append (take m rest) (take n part) so_far.plain plain);
      head_is = is ∙ ap (λ (l : List ℕ). take 257 (l ++ take n part)) so_far.head_is
          ∙ keep_keep 257 (take m rest) (take n part) ∙ ap (λ (l : List ℕ). take 257 l) (sym joined);
    }

pub part_in_head : (text old new : List ℕ) (place n : ℕ) (part : List ℕ) → IsPart text place (512 * n) part
    → KeepsLineFront (drop place text) (512 * n - place) old → TakesPart old new part None
    → KeepsLineFront (drop place text) (512 * (n + 1) - place) new
part_in_head text old new place n part p so_far taken =
    let rest = rest_of text place in
    let all : take (length part) part ≡ part = take_all (length part) part (omega arith) in
    let k = head_front text old new place (512 * n) (length part) part p (omega arith) so_far
    (subst HasNoNewline (sym all) taken.0) (taken.1 ∙ ap (λ (l : List ℕ). take 257 (old ++ l)) (sym all)) in
    let sum : 512 * n - place + length part ≡ min (length rest) (512 * (n + 1) - place) = omega (arith, p.whole, length-drop place text) in
    let whole : take (512 * n - place + length part) rest ≡ take (512 * (n + 1) - place) rest =
    ap (λ (x : ℕ). take x rest) sum ∙ take_min rest (512 * (n + 1) - place) in
    record { plain = subst HasNoNewline whole k.plain; head_is = k.head_is ∙ ap (λ (l : List ℕ). take 257 l) whole }

pub end_found : (text old new : List ℕ) (place n i : ℕ) (part : List ℕ) → IsPart text place (512 * n) part
    → KeepsLineFront (drop place text) (512 * n - place) old → TakesPart old new part (Some i)
    → IsEnd (drop place text) new (Some (512 * n - place + i))
end_found text old new place n i part p so_far taken =
    let m = 512 * n - place in
    let rest = rest_of text place in (
      head_front text old new place (512 * n) i part p (let lt = taken.1 in omega arith) so_far taken.0 taken.3,
      (let lt = taken.1 in omega (arith, within_rest text place (512 * n) part p)),
      sym (get_or-drop m rest i 0) ∙ sym (get_or-take (length part) (drop m rest) i 0 taken.1) ∙ ap (λ (l : List ℕ). get_or l i 0) (sym p.is) ∙ taken.2,
    )

pub all_in_head : (rest head : List ℕ) (n : ℕ) → length rest ≤ n → KeepsLineFront rest n head → IsEnd rest head None
all_in_head rest head n all k =
    let whole : take n rest ≡ take (length rest) rest = take_all n rest all ∙ sym (take_all (length rest) rest (omega arith)) in
    record { plain = subst HasNoNewline whole k.plain; head_is = k.head_is ∙ ap (λ (l : List ℕ). take 257 l) whole }

strip_short : (l : List ℕ) → length l ≤ 257 → take 257 (strip_carriage_return l) ≡ strip_carriage_return l
strip_short l short = go (slice_index l (length l - 1) == 13)
  where
    go : (t : Bool) → take 257 (if t then take (length l - 1) l else l) ≡ (if t then take (length l - 1) l else l)
    go true = take_all 257 (take (length l - 1) l) (omega (arith, length-take-le (length l - 1) l (omega arith)))
    go false = take_all 257 l short

strip_long : (l : List ℕ) → 257 < length l → take 257 (strip_carriage_return l) ≡ take 257 l
strip_long l long = go (slice_index l (length l - 1) == 13)
  where
    go : (t : Bool) → take 257 (if t then take (length l - 1) l else l) ≡ take 257 l
    go true = take-take 257 (length l - 1) l (omega arith)
    go false = refl

whole_rest : (rest head : List ℕ) (n : ℕ) → IsEnd rest head (Some n) → rest ≡ take n rest ++ (10 ∷ drop (suc n) rest)
whole_rest rest head n e = parted rest n e.1 (let is = e.2 in grind (arith, nat_tests))

found_line : (program head text : List ℕ) (place n : ℕ) → IsEnd (drop place program) head (Some n)
    → take 257 (strip_carriage_return (take n (drop place program))) ≡ text
    → Some (record { text = text; next = place + n + 1 }) ≡ program_line_at program place
unfolding program_line_at next_line_start
found_line program head text place n e is =
    let rest = drop place program in
    let raw = take n rest in
    let more = drop (suc n) rest in
    let whole = whole_rest rest head n e in
    let long : length raw ≡ n = length-take-le n rest (let lt = e.1 in omega arith) in
    let lines_are : lines rest ≡ strip_carriage_return raw ∷ lines more = ap lines whole ∙ lines-newline raw more e.0.plain in
    let spanned : span rest ≡ n + 1 = ap span whole ∙ span-newline raw more e.0.plain ∙ omega (arith, long) in
    let next : place + span rest ≡ place + n + 1 = omega (arith, spanned) in
    sym ((λ i. first_line (lines_are i) (next i)) ∙ ap (λ (l : List ℕ). Some (record { text = l; next = place + n + 1 })) is)

pub short_line : (program head text : List ℕ) (place n : ℕ) → IsEnd (drop place program) head (Some n) → n ≤ 257
    → text ≡ strip_carriage_return head → Some (record { text = text; next = place + n + 1 }) ≡ program_line_at
    program place
short_line program head text place n e short is =
    let raw = take n (drop place program) in
    let long : length raw ≡ n = length-take-le n (drop place program) (let lt = e.1 in omega arith) in
    let head_is : head ≡ raw = e.0.head_is ∙ take_all 257 raw (omega arith) in
    found_line program head text place n e (strip_short raw (omega arith) ∙ ap strip_carriage_return (sym head_is) ∙ sym is)

pub long_line : (program head text : List ℕ) (place n : ℕ) → IsEnd (drop place program) head (Some n) → 257 < n
    → text ≡ head → Some (record { text = text; next = place + n + 1 }) ≡ program_line_at program place
long_line program head text place n e long is =
    let raw = take n (drop place program) in
    let size : length raw ≡ n = length-take-le n (drop place program) (let lt = e.1 in omega arith) in
    found_line program head text place n e (strip_long raw (omega arith) ∙ sym e.0.head_is ∙ sym is)

alone : (rest head : List ℕ) (next : ℕ) → 0 < length rest → KeepsLineFront rest (length rest) head
    → first_line (lines rest) next ≡ Some (record { text = head; next = next })
alone [] head next some k = absurd (omega arith)
alone (b ∷ rest) head next some k =
    let all : take (length (b ∷ rest)) (b ∷ rest) ≡ b ∷ rest = take_all (length (b ∷ rest)) (b ∷ rest) (omega arith) in
    ap (λ (l : List (List ℕ)). first_line l next) (lines-alone b rest (subst HasNoNewline all k.plain))
    ∙ ap (λ (l : List ℕ). Some (record { text = l; next = next })) (sym (k.head_is ∙ ap (λ (l : List ℕ). take 257 l) all))

pub last_line : (program head : List ℕ) (place size : ℕ) → length program ≡ size → place < size
    → IsEnd (drop place program) head None → Some (record { text = head; next = size }) ≡ program_line_at program
    place
unfolding program_line_at next_line_start
last_line program head place size long lt k =
    let rest = drop place program in
    let all : take (length rest) rest ≡ rest = take_all (length rest) rest (omega arith) in
    let spanned = span-alone rest (subst HasNoNewline all k.plain) in
    let next : place + span rest ≡ size = omega (arith, spanned, length-drop place program) in
    sym (ap (λ (n : ℕ). first_line (lines rest) n) next ∙ alone rest head size (omega (arith, length-drop place program)) k)

empty : (l : List ℕ) → length l ≡ 0 → l ≡ []
empty [] none = refl
empty (x ∷ l) none = absurd (omega arith)

pub no_line : (program : List ℕ) (place size : ℕ) → length program ≡ size → place ≡ size → None ≡ program_line_at program place
unfolding program_line_at next_line_start
no_line program place size long end =
    let none = empty (drop place program) (omega (arith, length-drop place program)) in
    sym (ap (λ (l : List ℕ). first_line (lines l) (place + span l)) none)

-- A sector read of a program area.
pub sector_at : (area first n : ℕ) (begun now : Trace) (sector : List ℕ) → first ≡ program_first area
    → n < program_size area → now ≡ begun → sector ≡ reads now (first + n)
    → sector ≡ stretch (program_first area) (program_size area) (reads begun) n
sector_at area first n begun now sector at lt same is = is ∙ (λ i. reads (same i) (at i + n))
    ∙ sym (stretch-at (program_first area) (program_size area) (reads begun) n lt)

pub end_some : (rest head : List ℕ) (o : Option ℕ) (n : ℕ) → o ≡ Some n → IsEnd rest head o → IsEnd rest head (Some n)
end_some rest head o n is e = subst (IsEnd rest head) is e

pub end_none : (rest head : List ℕ) (o : Option ℕ) → o ≡ None → IsEnd rest head o → IsEnd rest head None
end_none rest head o is e = subst (IsEnd rest head) is e

-- The program of the durable state is that of the area in force.
pub line_in_force : {end : LogEnd} (old : Trace) (header : Header) (standing : DurableState) (place : ℕ)
    (line : Option ProgramLineModel) → IsAtEnd old header standing end
    → line ≡ program_line_at
    (program_text header.length (stretch (program_first header.area) (program_size header.area) (reads old))) place
    → line ≡ program_line_at standing.program place
line_in_force old header standing place line at found = found ∙ ap (λ (l : List ℕ). program_line_at l place) at.image.program
