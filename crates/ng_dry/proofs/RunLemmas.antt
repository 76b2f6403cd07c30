-- A run between two lines.
use Rattle.std.proofs.Common.{◌≡◌, ℕ, ◌+◌, List, ◌∷◌, ◌++◌, Option, Bool, true, false, Result, Ok, Err, subst, refl, ap, sym, ◌∙◌, append_assoc, append-nil, []}
use Rattle.std.specs.Io.KnownBytes.{Appends}
use Rattle.ng_num.specs.declared.fault.Fault.{Fault}
use Rattle.ng_words.specs.Start.{kind_of}
use Rattle.ng_block.specs.Effects.{Done}
use Rattle.ng_block.specs.Program.{is_end, executed_after}
use Rattle.ng_text.specs.Percent.{kind_before}
use Rattle.ng_dry.specs.Dry.{Output, onto, after_line, commands_text, refused, DryRunSpec}
use Rattle.ng_streams.specs.Waiting.{FlushSpec}
use Rattle.ng_dry.specs.Private.Parts.{DryRunModel, outcome_by, due, Goes, Breaks}
use Rattle.ng_dry.specs.declared.ending.Ended.{Ended}
use Rattle.ng_dry.specs.declared.ending.Ended.TheVariants as ended
use Rattle.ng_dry.specs.declared.ending.DryFault.{DryFault}
use Rattle.ng_streams.proofs.KnownBytesLemmas.{Appends-trans}

-- what a line does
due-line : (here start : DryRunModel) (line : List ℕ) (r : Result Done Fault) (more : List (List ℕ)) → here ≡ start
    → executed_after here.terms here.first here.setup line ≡ r
    → due start (line ∷ more) ≡ onto here.text
    (after_line here.number r (λ after. outcome_by here.terms (kind_before here.first (kind_of line)) after
    (here.number + 1) more))
due-line here start line r more same is =
    ap (λ p. due p (line ∷ more)) (sym same)
    ∙ ap (λ answer. onto here.text
    (after_line here.number answer (λ after. outcome_by here.terms (kind_before here.first (kind_of line)) after
    (here.number + 1) more))) is

-- a line that is refused
pub due-refused : (here start : DryRunModel) (line : List ℕ) (fault : Fault) (more : List (List ℕ)) → here ≡ start
    → executed_after here.terms here.first here.setup line ≡ Err fault
    → due start (line ∷ more) ≡ onto here.text (refused here.number fault)
due-refused here start line fault more same is = due-line here start line (Err fault) more same is

-- a line that ends the program
pub due-end : (here start : DryRunModel) (line : List ℕ) (done : Done) (more : List (List ℕ)) → here ≡ start
    → executed_after here.terms here.first here.setup line ≡ Ok done → is_end done.stop ≡ true
    → due start (line ∷ more) ≡ record { text = here.text ++ commands_text done.commands; ended = ended.Done }
due-end here start line done more same is end = due-line here start line (Ok done) more same is ∙ rw end refl

-- a line after which the run continues
pub due-next : (here start : DryRunModel) (line : List ℕ) (done : Done) (more : List (List ℕ)) → here ≡ start
    → executed_after here.terms here.first here.setup line ≡ Ok done → is_end done.stop ≡ false
    → due start (line ∷ more) ≡ onto (here.text ++ commands_text done.commands)
    (outcome_by here.terms (kind_before here.first (kind_of line)) done.setup (here.number + 1) more)
due-next here start line done more same is goes =
    let o = outcome_by here.terms (kind_before here.first (kind_of line)) done.setup (here.number + 1) more in
    due-line here start line (Ok done) more same is
    ∙ rw goes (ap (λ l. record { text = l; ended = o.ended })
    (sym (append_assoc here.text (commands_text done.commands) o.text)))

-- what is to be written begins with what the line prints
pub due-begins : (here start : DryRunModel) (line : List ℕ) (done : Done) (more : List (List ℕ)) → here ≡ start
    → executed_after here.terms here.first here.setup line ≡ Ok done
    → (after : List ℕ) × ((due start (line ∷ more)).text ≡ (here.text ++ commands_text done.commands) ++ after)
due-begins here start line done more same is = due-begins_at (is_end done.stop) refl
  where
    due-begins_at : (t : Bool) → is_end done.stop ≡ t → (after : List ℕ)
        × ((due start (line ∷ more)).text ≡ (here.text ++ commands_text done.commands) ++ after)
    due-begins_at true e = (
      [],
      ap (λ (o : Output). o.text) (due-end here start line done more same is e)
          ∙ sym (append-nil (here.text ++ commands_text done.commands)),
    )
    due-begins_at false e = (
      (outcome_by here.terms (kind_before here.first (kind_of line)) done.setup (here.number + 1) more).text,
      ap (λ (o : Output). o.text) (due-next here start line done more same is e),
    )

-- what waits was written or still waits, and then the run ended
pub DryRunSpec-drained : {T : Type 0} (a b c : Option (List ℕ)) (waiting left : List ℕ) (end : Ended) (x : T)
    (r : Result Ended DryFault) → FlushSpec {E = DryFault} a b waiting left (Ok x)
    → DryRunSpec b c (record { text = left; ended = end }) r
    → DryRunSpec a c (record { text = waiting; ended = end }) r
DryRunSpec-drained a b c waiting left end x (Ok e) w f = (subst (Appends a c) (sym w.2) (Appends-trans a b c w.0 left w.1 f.0), f.1)
DryRunSpec-drained a b c waiting left end x (Err fault) w f = (
  w.0 ++ f.0,
  f.1,
  w.2 ∙ ap (λ l. w.0 ++ l) f.2 ∙ sym (append_assoc w.0 f.0 f.1),
  Appends-trans a b c w.0 f.0 w.1 f.3,
)

-- what waits was written or still waits
pub Goes-drained : {X T : Type 0} (a b : Option (List ℕ)) (f : X → Output) (waiting left : List ℕ) (o : X → Output)
    (x : T) → ((more : X) → f more ≡ onto waiting (o more)) → FlushSpec {E = DryFault} a b waiting left (Ok x)
    → Goes a b f (λ more. onto left (o more))
Goes-drained a b f waiting left o x e w = record {
  text = w.0;
  appends = w.1;
  rest = λ more. e more ∙ ap (λ l. onto l (o more)) w.2 ∙ ap (λ l. record { text = l; ended = (o more).ended }) (append_assoc w.0 left (o more).text);
}

pub Breaks-drained : {X : Type 0} (T : Type 0) (a b : Option (List ℕ)) (f : X → Output) (waiting left : List ℕ)
    (fault : DryFault) → ((more : X) → (after : List ℕ) × ((f more).text ≡ waiting ++ after))
    → FlushSpec {T = T} a b waiting left (Err fault) → Breaks a b f
Breaks-drained T a b f waiting left fault e w = record {
  text = w.0;
  appends = w.2;
  rest = λ more. let x = e more in (w.1 ++ x.0, x.1 ∙ ap (λ l. l ++ x.0) w.3 ∙ append_assoc w.0 w.1 x.0);
}
