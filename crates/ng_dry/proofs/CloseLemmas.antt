-- The end of a program, and the whole of a run.
use Rattle.std.proofs.Common.{◌≡◌, ◌≢◌, ℕ, List, [], ◌∷◌, ◌++◌, length, take, Bool, false, ◌==◌, Option, None, Some}
use Rattle.std.proofs.Common.{Result, Ok, Err, IfSome, refl, sym, ap, ◌∙◌, subst, append_assoc, append-nil}
use Rattle.std.specs.Str.Lines.{lines}
use Rattle.std.specs.Io.KnownBytes.{Appends, Consumes, IsAtEnd}
use Rattle.ng_block.specs.Program.{TermsModel}
use Rattle.ng_dry.specs.Dry.{Output, onto, DryRunSpec, output_from}
use Rattle.ng_streams.specs.Waiting.{Wrote}
use Rattle.ng_dry.specs.Private.Parts.{DryRunModel, begun, outcome_by, due, rest_of, Goes, EndsRun, Breaks}
use Rattle.ng_text.specs.Split.{HasNoNewline}
use Rattle.ng_dry.specs.declared.ending.Ended.{Ended}
use Rattle.ng_dry.specs.declared.ending.DryFault.{DryFault}
use Rattle.ng_state.specs.State.{StateModel}
use Rattle.ng_text.proofs.NewlineLemmas.{lines-alone}
use Rattle.ng_dry.proofs.OutcomeLemmas.{outcome_is}
use Rattle.ng_streams.proofs.KnownBytesLemmas.{Appends-nil, Appends-trans, Consumes-nil}

pub DryRunSpec-from : (a b : Option (List ℕ)) (o before : Output) (r : Result Ended DryFault) → before ≡ o → DryRunSpec a b o r → DryRunSpec a b before r
DryRunSpec-from a b o before r e h = subst (λ x. DryRunSpec a b x r) (sym e) h

pub not_empty : (xs : List ℕ) (t : Bool) → t ≡ (length xs == 0) → t ≡ false → xs ≢ []
not_empty [] t e f h = cc
not_empty (x ∷ xs) t e f h = cc

-- the last line, which has no newline
pub rest_of-alone : (p : DryRunModel) (partial line : List ℕ) → HasNoNewline partial → partial ≢ [] → line ≡ partial → rest_of p partial [] ≡ due p (line ∷ [])
rest_of-alone p [] line h some is = absurd (some refl)
rest_of-alone p (b ∷ partial) line h some is = ap (rest_of p []) (append-nil (b ∷ partial)) ∙ ap (due p) (lines-alone b partial h)
    ∙ ap (λ l. due p (l ∷ [])) (sym is)

-- nothing was read
pub Consumes-none : (a b : Option (List ℕ)) (n : ℕ) (xs : List ℕ) → n ≡ 0 → Consumes a b (take n xs) → Consumes a b []
Consumes-none a b n xs e h = subst (λ k. Consumes a b (take k xs)) e h

pub DryRunSpec-onto : (a b c : Option (List ℕ)) (text : List ℕ) (o : Output) (r : Result Ended DryFault)
    → Appends a b text → DryRunSpec b c o r → DryRunSpec a c (onto text o) r
DryRunSpec-onto a b c text o (Ok end) p q = (Appends-trans a b c text o.text p q.0, q.1)
DryRunSpec-onto a b c text o (Err fault) p q = (text ++ q.0, q.1, ap (λ l. text ++ l) q.2 ∙ sym (append_assoc text q.0 q.1), Appends-trans a b c text q.0 p q.3)

pub run_end : (r0 r1 r2 w0 w1 w2 : Option (List ℕ)) (before : List ℕ) (out g : List ℕ → Output)
    (r : Result Ended DryFault) → Consumes r0 r1 before → Consumes r1 r2 [] → IsAtEnd r2
    → Goes w0 w1 (λ more. out (before ++ more)) g → DryRunSpec w1 w2 (g []) r → IfSome r0 (λ program. DryRunSpec w0 w2 (out program) r)
run_end None r1 r2 w0 w1 w2 before out g r p q e run f = tt
run_end (Some x) None r2 w0 w1 w2 before out g r p q e run f = absurd p
run_end (Some x) (Some y) None w0 w1 w2 before out g r p q e run f = absurd q
run_end (Some x) (Some y) (Some z) w0 w1 w2 before out g r p q e run f =
    let all : out x ≡ onto run.text (g []) = ap out (p ∙ ap (λ l. before ++ l) (q ∙ e)) ∙ run.rest [] in
    subst (λ o. DryRunSpec w0 w2 o r) (sym all) (DryRunSpec-onto w0 w1 w2 run.text (g []) r run.appends f)

pub run_breaks : (r0 r1 r2 w0 w1 w2 : Option (List ℕ)) (before bytes : List ℕ) (out g : List ℕ → Output)
    (fault : DryFault) → Consumes r0 r1 before → Consumes r1 r2 bytes
    → Goes w0 w1 (λ more. out (before ++ more)) g → Breaks w1 w2 (λ more. g (bytes ++ more)) → IfSome r0 (λ program. DryRunSpec w0 w2 (out program) (Err fault))
run_breaks None r1 r2 w0 w1 w2 before bytes out g fault p q run b = tt
run_breaks (Some x) None r2 w0 w1 w2 before bytes out g fault p q run b = absurd p
run_breaks (Some x) (Some y) None w0 w1 w2 before bytes out g fault p q run b = absurd q
run_breaks (Some x) (Some y) (Some z) w0 w1 w2 before bytes out g fault p q run b =
    let after = b.rest z in (
      run.text ++ b.text,
      after.0,
      ap (λ (o : Output). o.text) (ap out p ∙ run.rest y)
          ∙ ap (λ l. run.text ++ l) (ap (λ l. (g l).text) q ∙ after.1) ∙ sym (append_assoc run.text b.text after.0),
      Appends-trans w0 w1 w2 run.text b.text run.appends b.appends,
    )

pub run_ends : (r0 r1 r2 w0 w1 w2 : Option (List ℕ)) (before bytes : List ℕ) (out g : List ℕ → Output) (end : Ended)
    → Consumes r0 r1 before → Consumes r1 r2 bytes
    → Goes w0 w1 (λ more. out (before ++ more)) g → EndsRun w1 w2 (λ more. g (bytes ++ more)) end
    → IfSome r0 (λ program. DryRunSpec w0 w2 (out program) (Ok end))
run_ends None r1 r2 w0 w1 w2 before bytes out g end p q run b = tt
run_ends (Some x) None r2 w0 w1 w2 before bytes out g end p q run b = absurd p
run_ends (Some x) (Some y) None w0 w1 w2 before bytes out g end p q run b = absurd q
run_ends (Some x) (Some y) (Some z) w0 w1 w2 before bytes out g end p q run b =
    let all : out x ≡ onto run.text (record { text = b.text; ended = end }) = ap out p ∙ run.rest y
    ∙ ap (λ l. onto run.text (g l)) q ∙ ap (onto run.text) (b.rest z) in (
      subst (Appends w0 w2) (ap (λ (o : Output). o.text) (sym all))
          (Appends-trans w0 w1 w2 run.text b.text run.appends b.appends),
      ap (λ (o : Output). o.ended) (sym all),
    )

pub run_goes : (w0 w1 w2 : Option (List ℕ)) (before bytes : List ℕ) (out g h : List ℕ → Output)
    → Goes w0 w1 (λ more. out (before ++ more)) g → Goes w1 w2 (λ more. g (bytes ++ more)) h → Goes w0 w2 (λ more. out ((before ++ bytes) ++ more)) h
run_goes w0 w1 w2 before bytes out g h p q = record {
  text = p.text ++ q.text;
  appends = Appends-trans w0 w1 w2 p.text q.text p.appends q.appends;
  rest = λ more. ap out (append_assoc before bytes more) ∙ p.rest (bytes ++ more) ∙ ap (onto p.text) (q.rest more)
      ∙ ap (λ l. record { text = l; ended = (h more).ended }) (sym (append_assoc p.text q.text (h more).text));
}

-- a run that was never begun
pub run_none : (r w : Option (List ℕ)) (out : List ℕ → Output) (fault : DryFault) → IfSome r (λ program. DryRunSpec w w (out program) (Err fault))
run_none None w out fault = tt
run_none (Some x) w out fault = ([], (out x).text, refl, Appends-nil w)

-- a run that was aborted between two reads
pub run_stops : (r0 r1 w0 w1 w2 : Option (List ℕ)) (before : List ℕ) (out : List ℕ → Output) (p : DryRunModel)
    (partial : List ℕ) (fault : DryFault) → Consumes r0 r1 before
    → Goes w0 w1 (λ more. out (before ++ more)) (λ more. rest_of p partial more) → Wrote w1 w2 p.text
    → IfSome r0 (λ program. DryRunSpec w0 w2 (out program) (Err fault))
run_stops r0 r1 w0 w1 w2 before out p partial fault read run wrote =
    run_breaks r0 r1 r1 w0 w1 w2 before [] out (λ more. rest_of p partial more) fault read (Consumes-nil r1) run (record {
      text = wrote.0;
      appends = wrote.2;
      rest = λ more.
          let o = outcome_by p.terms p.first p.setup p.number (lines (partial ++ more)) in
          (wrote.1 ++ o.text, ap (λ l. l ++ o.text) wrote.3 ∙ append_assoc wrote.0 wrote.1 o.text);
    })

-- a run before the first read
pub Goes-begun : (a : Option (List ℕ)) (terms : TermsModel) (setup : StateModel) (p : DryRunModel) (partial : List ℕ) → p ≡ begun terms setup → partial ≡ []
    → Goes a a (λ more. output_from terms setup ([] ++ more)) (λ more. rest_of p partial more)
Goes-begun a terms setup p partial e f = record {
  text = [];
  appends = Appends-nil a;
  rest = λ more. outcome_is terms [] setup (lines more) ∙ ap (λ q. onto [] (rest_of q [] more)) (sym e) ∙ ap (λ k. onto [] (rest_of p k more)) (sym f);
}

-- the last line was executed, and then the text ended
pub DryRunSpec-stepped : (a b c : Option (List ℕ)) (f g : List (List ℕ) → Output) (o : Output)
    (r : Result Ended DryFault) → o ≡ f [] → Goes a b f g → DryRunSpec b c (g []) r → DryRunSpec a c o r
DryRunSpec-stepped a b c f g o r e run h = subst (λ x. DryRunSpec a c x r) (sym (e ∙ run.rest [])) (DryRunSpec-onto a b c run.text (g []) r run.appends h)

pub DryRunSpec-ends : (a b : Option (List ℕ)) (f : List (List ℕ) → Output) (o : Output) (end : Ended) → o ≡ f [] → EndsRun a b f end → DryRunSpec a b o (Ok end)
DryRunSpec-ends a b f o end e run = let all = e
    ∙ run.rest [] in (
      subst (Appends a b) (ap (λ (x : Output). x.text) (sym all)) run.appends,
      ap (λ (x : Output). x.ended) (sym all),
    )

pub DryRunSpec-breaks : (a b : Option (List ℕ)) (f : List (List ℕ) → Output) (o : Output) (fault : DryFault)
    → o ≡ f [] → Breaks a b f → DryRunSpec a b o (Err fault)
DryRunSpec-breaks a b f o fault e run = let x = run.rest [] in (run.text, x.0, ap (λ (y : Output). y.text) e ∙ x.1, run.appends)
