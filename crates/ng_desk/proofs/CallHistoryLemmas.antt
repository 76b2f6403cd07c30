-- A history with one more call, and what its events did.
use Rattle.std.proofs.Common.{◌≡◌, ◌+◌, ℕ, List, [], ◌∷◌, ◌++◌, Option, Some, length, refl, sym, ◌∙◌, ap, subst, arith}
use Rattle.std.proofs.lemmas.List.{map-append, length-append}
use Rattle.ng_rig.specs.Rig.{Device}
use Rattle.ng_rig.specs.Trace.{moment}
use Rattle.ng_session.specs.declared.event.Event.{Event}
use Rattle.ng_session.specs.declared.reply.Reply.{Reply}
use Rattle.ng_core.specs.Model.{ControllerModel}
use Rattle.ng_core.specs.AnsweredEvents.{IsAnsweredEvent, AreAnsweredEvents, answered_at}
use Rattle.ng_core.proofs.ExchangeLemmas.{exchanges_joined_at, exchanges_fail, exchanges_geometry}
use Rattle.ng_core.proofs.PastLemmas.{are_run}
use Rattle.ng_desk.specs.declared.call.Call.{Call}
use Rattle.ng_desk.specs.Calls.{NumberedFrom, events_of, replies_of}
use Rattle.ng_desk.specs.Running.{IsPromisedRun, RunsFrom}

-- ---- one more call

pub events_more : {A : Type 0} (history : List (Call A)) (call : Call A) → events_of (history ++ call ∷ []) ≡ events_of history ++ call.event ∷ []
events_more {A} history call = map-append (λ (c : Call A). c.event) history (call ∷ [])

pub replies_more : {A : Type 0} (history : List (Call A)) (call : Call A) → replies_of (history ++ call ∷ []) ≡ replies_of history ++ call.reply ∷ []
replies_more {A} history call = map-append (λ (c : Call A). c.reply) history (call ∷ [])

pub numbered_more : {A : Type 0} (number : ℕ) (history : List (Call A)) (call : Call A)
    → NumberedFrom number history → call.number ≡ number + length history
    → NumberedFrom number (history ++ call ∷ [])
numbered_more number [] call numbered is = (omega arith, tt)
numbered_more number (first ∷ history) call numbered is = (numbered.0, numbered_more (number + 1) history call numbered.1 (omega arith))

-- ---- what the events did; all of it follows from their being answered in order

module _ {A R : Type 0} (seen : R → Device) where
  run_of : (events : List (Event A)) (replies : List Reply) (moments : List ℕ) (old new : ControllerModel R) → length replies ≡ length events
      → (exchanges : AreAnsweredEvents seen events replies old new) → moments ≡ answered_at seen events replies old new exchanges
      → (seen new.journal.rig).sectors ≡ (seen old.journal.rig).sectors → IsPromisedRun seen events replies moments old new
  run_of events replies moments old new each exchanges answered size =
      record {
        runs = are_run seen events replies moments old new exchanges answered;
        each = each;
        failures = exchanges_fail seen events replies old new exchanges;
        geometry = exchanges_geometry seen events replies old new exchanges;
        size = size;
      }

  run_more : (events : List (Event A)) (replies : List Reply) (moments : List ℕ) (event : Event A) (reply : Reply)
      (old mid new : ControllerModel R) → IsPromisedRun seen events replies moments old mid
      → IsAnsweredEvent seen event reply mid new → (seen new.journal.rig).sectors ≡ (seen mid.journal.rig).sectors
      → IsPromisedRun seen (events ++ event ∷ []) (replies ++ reply ∷ []) (moments ++ moment (seen new.journal.rig).trace ∷ []) old new
  run_more events replies moments event reply old mid new run exchange size =
      let at = moment (seen new.journal.rig).trace in
      let joined = exchanges_joined_at seen events (event ∷ []) replies (reply ∷ []) old mid new run.runs.exchanges (new, (exchange, refl)) in
      run_of (events ++ event ∷ []) (replies ++ reply ∷ []) (moments ++ at ∷ []) old new
      (omega (arith, length-append replies (reply ∷ []), length-append events (event ∷ []), run.each))
      joined.0 (ap (λ (l : List ℕ). l ++ at ∷ []) run.runs.answered ∙ sym joined.1)
      (size ∙ run.size)

  -- a history begins
  pub runs_none : (start : Option (ControllerModel R)) (c : ControllerModel R) → start ≡ Some c → RunsFrom {A = A} seen start [] [] c
  runs_none start c is first from =
      subst (λ (old : ControllerModel R). IsPromisedRun {A = A} seen [] [] [] old c)
      (some_same c first (sym is ∙ from)) (run_of [] [] [] c c refl refl refl refl)
    where
      some_same : (a b : ControllerModel R) → (let s : Option (ControllerModel R) = Some a in s) ≡ Some b → a ≡ b
      some_same a b e = cc

  -- and continues
  pub runs_more : (start : Option (ControllerModel R)) (history : List (Call A)) (moments : List ℕ) (call : Call A)
      (mid new : ControllerModel R) → RunsFrom seen start history moments mid
      → IsAnsweredEvent seen call.event call.reply mid new → (seen new.journal.rig).sectors ≡ (seen mid.journal.rig).sectors
      → RunsFrom seen start (history ++ call ∷ []) (moments ++ moment (seen new.journal.rig).trace ∷ []) new
  runs_more start history moments call mid new runs exchange size first from =
      let now = moments ++ moment (seen new.journal.rig).trace ∷ [] in
      subst (λ (es : List (Event A)). IsPromisedRun seen es (replies_of (history ++ call ∷ [])) now first new) (sym (events_more history call))
      (subst (λ (rs : List Reply). IsPromisedRun seen (events_of history ++ call.event ∷ []) rs now first new) (sym (replies_more history call))
      (run_more (events_of history) (replies_of history) moments call.event call.reply first mid new (runs first from) exchange size))
