-- The lines before the next place of a line are those before the line, and the line itself.
use Rattle.std.proofs.Common.{◌≡◌, inl, inr, ℕ, zero, suc, ◌+◌, ◌≤◌, List, [], ◌∷◌, ◌++◌, length, take, drop, Some}
use Rattle.std.proofs.Common.{None, refl, sym, ◌∙◌, ap, subst, arith, append_assoc, append-nil, length-take}
use Rattle.std.proofs.Common.{length-drop, length-append, take-append-drop}
use Rattle.std.specs.Str.Lines.{lines, strip_carriage_return}
use Rattle.std.proofs.lemmas.List.{take_all, append_cancel_right}
use Rattle.ng_words.specs.Start.{kind_of}
use Rattle.ng_words.specs.declared.start.LineKind.{LineKind}
use Rattle.ng_text.specs.Split.{HasNoNewline}
use Rattle.ng_text.specs.Percent.{first_kind, kind_before}
use Rattle.ng_text.specs.Programs.{lines_before, program_line_at, first_line, next_line_start, span}
use Rattle.ng_text.specs.LinesBefore.{IsTrueOf, IsLineBetween}
use Rattle.ng_text.specs.declared.lines_before.LinesBefore.{LinesBefore}
use Rattle.ng_text.proofs.NewlineLemmas.{lines-newline, lines-alone, lines-sides, split}
use Rattle.ng_text.proofs.PercentLemmas.{first_kind-after}
use Rattle.ng_text.proofs.PlaceLemmas.{span-newline, span-alone, first_found}

-- the next place splits the lines, and the line is the first of those from its place on
record Passes (program : List ℕ) (place next : ℕ) (l : List ℕ) : Type 0 where
  pub parts : lines program ≡ lines_before program next ++ lines (drop next program)
  pub line : lines (drop place program) ≡ l ∷ lines (drop next program)

drop_all : {A : Type 0} (n : ℕ) (l : List A) → length l ≤ n → drop n l ≡ []
drop_all zero [] h = refl
drop_all zero (x ∷ l) h = absurd (omega arith)
drop_all (suc n) [] h = refl
drop_all (suc n) (x ∷ l) h = drop_all n l (omega arith)

take_front : (front more : List ℕ) → take (length front) (front ++ more) ≡ front
take_front [] more = refl
take_front (x ∷ front) more = ap (λ (l : List ℕ). x ∷ l) (take_front front more)

drop_front : (front more : List ℕ) → drop (length front) (front ++ more) ≡ more
drop_front [] more = refl
drop_front (x ∷ front) more = drop_front front more

passes-alone : (program : List ℕ) (place next : ℕ) (b : ℕ) (rest : List ℕ) → drop place program ≡ b ∷ rest
    → HasNoNewline (b ∷ rest) → next ≡ place + length (b ∷ rest) → Passes program place next (b ∷ rest)
passes-alone program place next b rest is plain end =
    let long : length program ≤ next = omega (arith, length-drop place program, ap length is) in
    let none : drop next program ≡ [] = drop_all next program long in
    let all : take next program ≡ program = take_all next program long in
    record {
      parts = sym (append-nil (lines program)) ∙ (λ i. lines (sym all i) ++ lines (sym none i));
      line = ap lines is ∙ lines-alone b rest plain ∙ ap (λ (l : List ℕ). (b ∷ rest) ∷ lines l) (sym none);
    }

passes-newline : (program : List ℕ) (place next : ℕ) (raw more : List ℕ) → drop place program ≡ raw ++ (10 ∷ more)
    → HasNoNewline raw → next ≡ place + (length raw + 1) → Passes program place next (strip_carriage_return raw)
passes-newline program place next raw more is plain end =
    let front = take place program ++ raw in
    let ended = front ++ (10 ∷ []) in
    let inside : place ≤ length program = omega (arith, length-drop place program, ap length is, length-append raw (10 ∷ more)) in
    let whole : program ≡ ended ++ more =
    sym (take-append-drop place program) ∙ ap (λ (l : List ℕ). take place program ++ l) is
    ∙ sym (append_assoc (take place program) raw (10 ∷ more)) ∙ sym (append_assoc front (10 ∷ []) more) in
    let long : length ended ≡ next = omega (arith, length-append front (10 ∷ []), length-append (take place program) raw, length-take place program) in
    let before : take next program ≡ ended = ap (λ (n : ℕ). take n program) (sym long) ∙ ap (take (length ended)) whole ∙ take_front ended more in
    let after : drop next program ≡ more = ap (λ (n : ℕ). drop n program) (sym long) ∙ ap (drop (length ended)) whole ∙ drop_front ended more in
    record {
      parts = ap lines (whole ∙ append_assoc front (10 ∷ []) more) ∙ lines-sides front more ∙ (λ i. lines (sym before i) ++ lines (sym after i));
      line = ap lines is ∙ lines-newline raw more plain ∙ ap (λ (l : List ℕ). strip_carriage_return raw ∷ lines l) (sym after);
    }

passes_at : (program : List ℕ) (place : ℕ) (rest : List ℕ) (text : List ℕ) (next : ℕ) → drop place program ≡ rest
    → first_line (lines rest) (place + span rest) ≡ Some (record { text = text; next = next })
    → (l : List ℕ) × (take 257 l ≡ text) × Passes program place next l
passes_at program place [] text next is e = absurd (cc e)
passes_at program place (b ∷ rest) text next is e = elim (split (b ∷ rest)) [
  | inl plain ↦
      let f = first_found (lines (b ∷ rest)) _ _ e in
      let same : f.0 ∷ f.1 ≡ (b ∷ rest) ∷ [] = sym f.2 ∙ lines-alone b rest plain in
      let here : f.0 ≡ b ∷ rest = cc same in (
        b ∷ rest,
        sym (ap (take 257) here) ∙ f.3,
        passes-alone program place next b rest is plain
            (sym f.4 ∙ ap (λ (n : ℕ). place + n) (span-alone (b ∷ rest) plain)),
      )
  | inr p ↦
      let f = first_found (lines (b ∷ rest)) _ _ e in
      let same : f.0 ∷ f.1 ≡ strip_carriage_return p.0 ∷ lines p.1 = sym f.2 ∙ ap lines p.2 ∙ lines-newline p.0 p.1 p.3 in
      let here : f.0 ≡ strip_carriage_return p.0 = cc same in (
        strip_carriage_return p.0,
        sym (ap (take 257) here)
            ∙ f.3,
        passes-newline program place next p.0 p.1 (is ∙ p.2) p.3
            (sym f.4 ∙ ap (λ (n : ℕ). place + n) (ap span p.2 ∙ span-newline p.0 p.1 p.3)),
      )
]

passes : (program : List ℕ) (place : ℕ) (text : List ℕ) (next : ℕ)
    → program_line_at program place ≡ Some (record { text = text; next = next }) → (l : List ℕ)
    × (take 257 l ≡ text) × Passes program place next l
unfolding program_line_at next_line_start
passes program place text next e = passes_at program place (drop place program) text next refl e

uncut : (l text : List ℕ) → take 257 l ≡ text → length text ≤ 256 → l ≡ text
uncut l text is short =
    let small : length l ≤ 257 = omega (arith, length-take 257 l, ap length is) in
    sym (take_all 257 l small) ∙ is

-- ---- what is known

pub none_true : (program : List ℕ) → IsTrueOf program (record { place = 0; first = Some LineKind.Blank })
none_true program = record { parts = refl; first = refl }

pub after_unknown : (program : List ℕ) (place next : ℕ) (first : LineKind) (text : List ℕ)
    → IsLineBetween program place first text next → IsTrueOf program (record { place = next; first = None })
after_unknown program place next first text n = let p = passes program place text next n.line in record { parts = p.2.parts; first = tt }

pub after_known : (program : List ℕ) (old : LinesBefore) (place next : ℕ) (first kind : LineKind) (text : List ℕ)
    → length text ≤ 256 → IsTrueOf program old → old.place ≡ place → IsLineBetween program place first text next
    → kind ≡ kind_before first (kind_of text) → IsTrueOf program (record { place = next; first = Some kind })
after_known program old place next first kind text short known at n is =
    let p = passes program place text next n.line in
    let l : List ℕ = p.0 in
    let text_is : l ≡ text = uncut l text p.1 short in
    let split_at : lines program ≡ lines_before program place ++ lines (drop place program) =
    subst (λ (x : ℕ). lines program ≡ lines_before program x ++ lines (drop x program)) at known.parts in
    let both : lines_before program next ++ lines (drop next program) ≡ (lines_before program place ++ (l ∷ [])) ++ lines (drop next program) =
    sym p.2.parts ∙ split_at ∙ ap (λ (ls : List (List ℕ)). lines_before program place ++ ls) p.2.line
    ∙ sym (append_assoc (lines_before program place) (l ∷ []) (lines (drop next program))) in
    let before : lines_before program next ≡ lines_before program place ++ (l ∷ []) = append_cancel_right _ _ (lines (drop next program)) both in
    record {
      parts = p.2.parts;
      first =
          is
          ∙ (λ i. kind_before (n.kind i) (kind_of (sym text_is i)))
          ∙ sym (first_kind-after (lines_before program place) l)
          ∙ sym (ap first_kind before);
    }
