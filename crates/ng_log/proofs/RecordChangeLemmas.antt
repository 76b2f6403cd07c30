-- The changes of a record, part by part.
use Rattle.std.proofs.Common.{◌≡◌, inl, inr, ℕ, zero, suc, ◌+◌, ◌-◌, ◌*◌, ◌/◌, ◌%◌, ◌<◌, ◌≤◌, min, List, [], ◌∷◌}
use Rattle.std.proofs.Common.{◌++◌, length, take, drop, Option, Some, None, refl, sym, ◌∙◌, ap, arith, append_assoc}
use Rattle.std.proofs.Common.{append-nil, length-take, length-drop}
use Rattle.std.proofs.Math.Seq.{take-add}
use Rattle.std.proofs.lemmas.Bool.{cases_eq}
use Rattle.std.proofs.lemmas.List.{take_all}
use Rattle.ng_params.specs.declared.change.Change.{Change}
use Rattle.ng_rig.specs.Trace.{Image}
use Rattle.ng_layout.specs.Log.{change_at, changes_of}
use Rattle.ng_layout.specs.Part.{changes_in, piece}
use Rattle.ng_layout.specs.Decoding.{and_then}
use Rattle.ng_layout.proofs.PartLemmas.{no_changes}

abbrev Changes : Type 0
Changes = Option (List Change)

-- some changes and then others
abbrev pub then_more : Changes → Changes → Changes
then_more earlier later = and_then earlier (λ a. and_then later (λ b. Some (a ++ b)))

one_more : (o s : Changes) (ch : Option Change)
    → and_then (then_more o s) (λ earlier. and_then ch (λ c. Some (earlier ++ c ∷ []))) ≡ then_more o
    (and_then s (λ earlier. and_then ch (λ c. Some (earlier ++ c ∷ []))))
one_more None s ch = refl
one_more (Some a) None ch = refl
one_more (Some a) (Some b) None = refl
one_more (Some a) (Some b) (Some c) = ap (λ (l : List Change). Some l) (append_assoc a b (c ∷ []))

none_more : (o : Changes) → o ≡ then_more o (Some [])
none_more None = refl
none_more (Some a) = ap (λ (l : List Change). Some l) (sym (append-nil a))

-- the changes in a record's parts before one of them, and those of that part
pub changes-join : (log : Image) (at i n : ℕ) → n ≤ 48
    → changes_of log at (48 * i + n) ≡ then_more (changes_of log at (48 * i)) (changes_in (log (at + 1 + i)) n)
unfolding changes_of changes_in
changes-join log at i zero le = let e : 48 * i + 0 ≡ 48 * i = omega arith in ap (changes_of log at) e ∙ none_more (changes_of log at (48 * i))
changes-join log at i (suc n) le =
    let m = 48 * i + n in
    let e : 48 * i + suc n ≡ suc m = omega arith in
    let sector : m / 48 ≡ i = omega arith in
    let place : m % 48 ≡ n = omega arith in
    let before = changes-join log at i n (omega arith) in
    ap (changes_of log at) e
    ∙ (λ k. and_then (before k) (λ earlier. and_then (change_at (log (at + 1 + sector k)) (32 + 10 * place k)) (λ change. Some (earlier ++ change ∷ []))))
    ∙ one_more (changes_of log at (48 * i)) (changes_in (log (at + 1 + i)) n) (change_at (log (at + 1 + i)) (32 + 10 * n))

none-suc : (log : Image) (at n : ℕ) → changes_of log at n ≡ None → changes_of log at (suc n) ≡ None
unfolding changes_of
none-suc log at n none = λ k.
    and_then (none k) (λ earlier. and_then (change_at (log (at + 1 + n / 48)) (32 + 10 * (n % 48)))
    (λ change. Some (earlier ++ change ∷ [])))

pub none-later : (log : Image) (at n k : ℕ) → changes_of log at n ≡ None → changes_of log at (n + k) ≡ None
none-later log at n zero none = let e : n + 0 ≡ n = omega arith in ap (changes_of log at) e ∙ none
none-later log at n (suc k) none = let e : n + suc k ≡ suc (n + k) = omega arith in ap (changes_of log at) e
    ∙ none-suc log at (n + k) (none-later log at n k none)

pub no-changes : (log : Image) (at : ℕ) → changes_of log at 0 ≡ Some []
unfolding changes_of
no-changes log at = refl

piece_long : (i : ℕ) (changes : List Change) → length (piece i changes) ≡ min 48 (length changes - 48 * i)
piece_long i changes = length-take 48 (drop (48 * i) changes) ∙ ap (λ (n : ℕ). min 48 n) (length-drop (48 * i) changes)

module _ (log : Image) (at : ℕ) (changes : List Change) (each : (i : ℕ) → 48 * i < length changes
    → changes_in (log (at + 1 + i)) (length (piece i changes)) ≡ Some (piece i changes)) where
  changes_to : (i : ℕ) → 48 * i ≤ length changes → changes_of log at (48 * i) ≡ Some (take (48 * i) changes)
  changes_to zero le = no-changes log at
  changes_to (suc i) le =
      let e : 48 * suc i ≡ 48 * i + 48 = omega arith in
      let long : length (piece i changes) ≡ 48 = piece_long i changes ∙ omega arith in
      let before = changes_to i (omega arith) in
      let here = ap (changes_in (log (at + 1 + i))) (sym long) ∙ each i (omega arith) in
      ap (changes_of log at) e ∙ changes-join log at i 48 (omega arith)
      ∙ (λ k. then_more (before k) (here k))
      ∙ ap (λ (l : List Change). Some l) (sym (take-add (48 * i) 48 changes) ∙ ap (λ (n : ℕ). take n changes) (sym e))

  -- all of them, if each part has its piece
  pub changes-whole : changes_of log at (length changes) ≡ Some changes
  changes-whole =
      let i = length changes / 48 in
      let n = length changes % 48 in
      let e : length changes ≡ 48 * i + n = omega arith in
      let before = changes_to i (omega arith) in
      let small : n ≤ 48 = omega arith in
      ap (changes_of log at) e ∙ changes-join log at i n small
      ∙ elim (cases_eq n 0) [
        | inl none ↦
            let here : changes_in (log (at + 1 + i)) n ≡ Some [] = ap (changes_in (log (at + 1 + i))) none ∙ no_changes (log (at + 1 + i)) in
            (λ k. then_more (before k) (here k))
            ∙ ap (λ (l : List Change). Some l) (append-nil (take (48 * i) changes) ∙ take_all (48 * i) changes (omega arith))
        | inr some ↦
            let long : length (piece i changes) ≡ n = piece_long i changes ∙ omega arith in
            let here = ap (changes_in (log (at + 1 + i))) (sym long) ∙ each i (omega arith) in
            (λ k. then_more (before k) (here k))
            ∙ ap (λ (l : List Change). Some l) (sym (take-add (48 * i) 48 changes) ∙ take_all (48 * i + 48) changes (omega arith))
      ]
