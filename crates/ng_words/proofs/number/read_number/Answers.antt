use Rattle.std.proofs.Common.{ℤ, refl, sym, ◌∙◌, ap, Some}
use Rattle.ng_words.specs.Grammar.{IsNumber}
use Rattle.ng_words.specs.Scan.{number_at}
use Rattle.ng_words.proofs.BlanklessNumberLemmas.{number_blank, answer_value, answer_reads, answer_unreadable, no_number, goes_on}
use Rattle.ng_words.proofs.number.read_number.Goals.{in_default-via-in-Some+else-is_empty, in_default-via-in_default}
use Rattle.ng_words.proofs.number.read_number.Goals as goal

pub returns-then-has_blank-clause-value : goal.returns-then-has_blank-clause-value
returns-then-has_blank-clause-value c = λ z is.
    let none = c.has_blank.ensures ∙ number_blank c.args.text.now z is in absurd cc

pub returns-then-has_blank-clause-unreadable : goal.returns-then-has_blank-clause-unreadable
returns-then-has_blank-clause-unreadable c = (λ e z is. let none = c.has_blank.ensures ∙ number_blank c.args.text.now z is in absurd cc, λ none. refl)

pub returns-in-Some-clause-value : goal.returns-in-Some-clause-value
returns-in-Some-clause-value c =
    answer_value c.args.text.now _ _ (sym c.has_blank.ensures ∙ c.if-has_blank.false)
    (ap number_at (sym c.new-cursor.ensures) ∙ c.in-Some.ensures
    ∙ ap (λ rest. Some (c.in-Some.value, rest)) (c.is_empty.ensures.0 c.if-is_empty.true)) c.ok_or.ensures.value

pub returns-in-Some-clause-reads : goal.returns-in-Some-clause-reads
returns-in-Some-clause-reads c =
    answer_reads c.args.text.now _ _ (sym c.has_blank.ensures ∙ c.if-has_blank.false)
    (ap number_at (sym c.new-cursor.ensures) ∙ c.in-Some.ensures
    ∙ ap (λ rest. Some (c.in-Some.value, rest)) (c.is_empty.ensures.0 c.if-is_empty.true)) c.ok_or.ensures.value

pub returns-in-Some-clause-unreadable : goal.returns-in-Some-clause-unreadable
returns-in-Some-clause-unreadable c =
    answer_unreadable c.args.text.now _ _ (sym c.has_blank.ensures ∙ c.if-has_blank.false)
    (ap number_at (sym c.new-cursor.ensures) ∙ c.in-Some.ensures
    ∙ ap (λ rest. Some (c.in-Some.value, rest)) (c.is_empty.ensures.0 c.if-is_empty.true)) c.ok_or.ensures.value

not_number : (c : goal.In_default) (z : ℤ) → IsNumber c.args.text.now z → ⊥
not_number c z is = elim c.in_default.branch [
  | in_default-via-in-Some+else-is_empty w ↦
      let over = w.is_empty.ensures.1 (goes_on c.args.text.now _ _ z is (ap number_at (sym c.new-cursor.ensures) ∙ w.in-Some.ensures)) in
      absurd (cc (over, w.if-is_empty.false))
  | in_default-via-in_default w ↦ no_number c.args.text.now z is (ap number_at (sym c.new-cursor.ensures) ∙ w.in_default.ensures)
]

pub returns-in_default-clause-value : goal.returns-in_default-clause-value
returns-in_default-clause-value c = λ z is. absurd (not_number c z is)

pub returns-in_default-clause-unreadable : goal.returns-in_default-clause-unreadable
returns-in_default-clause-unreadable c = (λ e z is. not_number c z is, λ none. refl)
