-- The parts of a run, each for every continuation of the program.
use Rattle.std.proofs.Common.{◌≡◌, ℕ, ◌+◌, ◌<◌, List, [], ◌∷◌, ◌++◌, length, Option, None, Some, Result, Ok, Err, sym, ap, ◌∙◌, append_assoc}
use Rattle.std.specs.Str.Lines.{lines, strip_carriage_return}
use Rattle.ng_words.specs.Start.{kind_of}
use Rattle.ng_num.specs.declared.fault.Fault.TheVariants.{LineTooLong}
use Rattle.ng_text.specs.Percent.{kind_before}
use Rattle.ng_dry.specs.Dry.{Output, onto, after_line, refused, DryRunSpec}
use Rattle.ng_dry.specs.Private.Parts.{DryRunModel, outcome_by, due, rest_of, Goes, EndsRun, Breaks, LineStepSpec}
use Rattle.ng_text.specs.Split.{HasNoNewline}
use Rattle.ng_dry.specs.declared.ending.Ended.{Ended}
use Rattle.ng_dry.specs.declared.ending.DryFault.{DryFault}
use Rattle.ng_block.proofs.LineLemmas.{executed_after-long}
use Rattle.ng_text.proofs.NewlineLemmas.{lines-newline, lines-long}
use Rattle.ng_streams.proofs.KnownBytesLemmas.{Appends-trans}

-- a part that begins at an equal place
pub LineStepSpec-from : {X : Type 0} (a b : Option (List ℕ)) (f before g : X → Output)
    (r : Result (Option Ended) DryFault) → ((more : X) → before more ≡ f more) → LineStepSpec a b f g r
    → LineStepSpec a b before g r
LineStepSpec-from a b f before g (Ok None) e h = record { text = h.text; appends = h.appends; rest = λ more. e more ∙ h.rest more }
LineStepSpec-from a b f before g (Ok (Some end)) e h = record { text = h.text; appends = h.appends; rest = λ more. e more ∙ h.rest more }
LineStepSpec-from a b f before g (Err fault) e h =
    record {
      text = h.text;
      appends = h.appends;
      rest = λ more. let x =
          h.rest more in (x.0, ap (λ (o : Output). o.text) (e more) ∙ x.1);
    }

-- a part that continues at an equal place
pub LineStepSpec-onto : {X : Type 0} (a b : Option (List ℕ)) (f g after : X → Output)
    (r : Result (Option Ended) DryFault) → ((more : X) → g more ≡ after more) → LineStepSpec a b f g r
    → LineStepSpec a b f after r
LineStepSpec-onto a b f g after (Ok None) e h = record { text = h.text; appends = h.appends; rest = λ more. h.rest more ∙ ap (onto h.text) (e more) }
LineStepSpec-onto a b f g after (Ok (Some end)) e h = h
LineStepSpec-onto a b f g after (Err fault) e h = h

-- a part for some of the continuations
pub LineStepSpec-at : {X Y : Type 0} (a b : Option (List ℕ)) (at : Y → X) (f g : X → Output)
    (r : Result (Option Ended) DryFault) → LineStepSpec a b f g r
    → LineStepSpec a b (λ more. f (at more)) (λ more. g (at more)) r
LineStepSpec-at a b at f g (Ok None) h = record { text = h.text; appends = h.appends; rest = λ more. h.rest (at more) }
LineStepSpec-at a b at f g (Ok (Some end)) h = record { text = h.text; appends = h.appends; rest = λ more. h.rest (at more) }
LineStepSpec-at a b at f g (Err fault) h = record { text = h.text; appends = h.appends; rest = λ more. h.rest (at more) }

onto-onto : (s t : List ℕ) (o : Output) → onto s (onto t o) ≡ onto (s ++ t) o
onto-onto s t o = ap (λ l. record { text = l; ended = o.ended }) (sym (append_assoc s t o.text))

-- a part after another
pub LineStepSpec-after : {X : Type 0} (a b c : Option (List ℕ)) (f g h : X → Output)
    (r : Result (Option Ended) DryFault) → Goes a b f g → LineStepSpec b c g h r → LineStepSpec a c f h r
LineStepSpec-after a b c f g h (Ok None) p q = record {
  text = p.text ++ q.text;
  appends = Appends-trans a b c p.text q.text p.appends q.appends;
  rest = λ more. p.rest more ∙ ap (onto p.text) (q.rest more) ∙ onto-onto p.text q.text (h more);
}
LineStepSpec-after a b c f g h (Ok (Some end)) p q = record {
  text = p.text ++ q.text;
  appends = Appends-trans a b c p.text q.text p.appends q.appends;
  rest = λ more. p.rest more ∙ ap (onto p.text) (q.rest more);
}
LineStepSpec-after a b c f g h (Err fault) p q = record {
  text = p.text ++ q.text;
  appends = Appends-trans a b c p.text q.text p.appends q.appends;
  rest = λ more.
      let x = q.rest more in
      (x.0, ap (λ (o : Output). o.text) (p.rest more) ∙ ap (λ l. p.text ++ l) x.1 ∙ sym (append_assoc p.text q.text x.0));
}

-- the run has ended, or was aborted at its end
pub EndsRun-finished : {X : Type 0} (a b : Option (List ℕ)) (f : X → Output) (o : Output) (end : Ended)
    → ((more : X) → f more ≡ o) → DryRunSpec a b o (Ok end) → EndsRun a b f end
EndsRun-finished a b f o end e h = record { text = o.text; appends = h.0; rest = λ more. e more ∙ ap (λ x. record { text = o.text; ended = x }) (sym h.1) }

pub Breaks-finished : {X : Type 0} (a b : Option (List ℕ)) (f : X → Output) (o : Output) (fault : DryFault)
    → ((more : X) → f more ≡ o) → DryRunSpec a b o (Err fault) → Breaks a b f
Breaks-finished a b f o fault e h = record { text = h.0; appends = h.3; rest = λ more. (h.1, ap (λ (x : Output). x.text) (e more) ∙ h.2) }

-- the end of a line
pub LineStepSpec-line : (a b : Option (List ℕ)) (p q : DryRunModel) (partial line left stripped : List ℕ)
    (r : Result (Option Ended) DryFault) → HasNoNewline (partial ++ line)
    → stripped ≡ strip_carriage_return (partial ++ line) → left ≡ []
    → LineStepSpec a b (λ more. due p (stripped ∷ more)) (λ more. due q more) r
    → LineStepSpec a b (λ more. rest_of p partial (line ++ (10 ∷ more))) (λ more. rest_of q left more) r
LineStepSpec-line a b p q partial line left stripped r none is nothing h =
    LineStepSpec-onto a b _ (λ more. due q (lines more)) _ r (λ more. ap (λ l. rest_of q l more) (sym nothing))
    (LineStepSpec-from a b (λ more. due p (stripped ∷ lines more)) _ (λ more. due q (lines more)) r
    (λ more. ap (λ l. due p (lines l)) (sym (append_assoc partial line (10 ∷ more)))
    ∙ ap (due p) (lines-newline (partial ++ line) more none) ∙ ap (λ l. due p (l ∷ lines more)) (sym is))
    (LineStepSpec-at a b lines _ _ r h))

-- a line that is too long
due-long : (p : DryRunModel) (front more : List ℕ) → HasNoNewline front → 257 < length front
    → due p (lines (front ++ more)) ≡ onto p.text (refused p.number LineTooLong)
due-long p front more none long =
    let found = lines-long front more none long in
    ap (due p) found.2 ∙ ap
    (λ r. onto p.text (after_line p.number r
    (λ after. outcome_by p.terms (kind_before p.first (kind_of found.0)) after (p.number + 1) found.1)))
    (executed_after-long p.terms p.first p.setup found.0 found.3)

pub rest_of-long : (p : DryRunModel) (partial bytes more : List ℕ) → HasNoNewline (partial ++ bytes)
    → 257 < length (partial ++ bytes) → rest_of p partial (bytes ++ more) ≡ onto p.text (refused p.number LineTooLong)
rest_of-long p partial bytes more none long = ap (λ l. due p (lines l)) (sym (append_assoc partial bytes more)) ∙ due-long p (partial ++ bytes) more none long

-- the end of the next line of what is left
pub LineStepSpec-next : (a b c : Option (List ℕ)) (p : DryRunModel) (partial left line after : List ℕ)
    (before g : List ℕ → Output) (r : Result (Option Ended) DryFault)
    → Goes a b before (λ more. rest_of p partial (left ++ more)) → left ≡ line ++ (10 ∷ after)
    → LineStepSpec b c (λ more. rest_of p partial (line ++ (10 ∷ more))) g r
    → LineStepSpec a c before (λ more. g (after ++ more)) r
LineStepSpec-next a b c p partial left line after before g r goes parts h =
    LineStepSpec-after a b c before (λ more. rest_of p partial (left ++ more)) (λ more. g (after ++ more)) r goes
    (LineStepSpec-from b c (λ more. rest_of p partial (line ++ (10 ∷ (after ++ more)))) _ _ r
    (λ more. ap (λ l. rest_of p partial (l ++ more)) parts ∙ ap (rest_of p partial) (append_assoc line (10 ∷ after) more))
    (LineStepSpec-at b c (λ more. after ++ more) (λ more. rest_of p partial (line ++ (10 ∷ more))) g r h))
