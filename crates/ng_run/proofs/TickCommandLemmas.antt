-- The ticks of one command, one after the other.
use Rattle.std.proofs.Common.{◌≡◌, ◌<◌, ◌+◌, ℕ, true, false, List, [], ◌∷◌, ◌++◌, length, map, take, Option, Ok}
use Rattle.std.proofs.Common.{Err, refl, sym, ◌∙◌, subst, inl, inr, arith, length-append}
use Rattle.std.specs.List.{AllPass, flat_map}
use Rattle.std.proofs.lemmas.List.{map-append}
use Rattle.std.specs.Io.KnownBytes.{Appends}
use Rattle.std.proofs.lemmas.List.Elements.{All-push}
use Rattle.ng_streams.proofs.KnownBytesLemmas.{Appends-trans}
use Rattle.ng_rig.specs.Rig.{Device}
use Rattle.ng_commands.specs.Replies.{continues_ticks, tick_line}
use Rattle.ng_session.specs.declared.event.Event.{Event}
use Rattle.ng_session.specs.declared.event.Event.TheVariants as event
use Rattle.ng_session.specs.declared.reply.Reply.{Reply}
use Rattle.ng_dialogue.specs.declared.telling.OutputError.{OutputError}
use Rattle.ng_core.specs.Model.{ControllerModel}
use Rattle.ng_run.specs.Consoles.{TickOnSpec}
use Rattle.ng_core.specs.AnsweredEvents.{IsAnsweredEvent, AreAnsweredEvents}
use Rattle.ng_run.proofs.AskedOrderLemmas.{one_more}
use Rattle.ng_core.proofs.ExchangeLemmas.{exchanges_joined, exchanges_one}

abbrev tick_for : (A : Type 0) → Reply → Event A
tick_for A r = event.Tick

-- a tick for each reply
abbrev pub ticks_of : (A : Type 0) → List Reply → List (Event A)
ticks_of A replies = map (tick_for A) replies

-- this many ticks were made, and all of them continue
pub record Ticked {R : Type 0} (A : Type 0) (seen : R → Device) (count : ℕ) (old new : Option (List ℕ)) (before after : ControllerModel R) : Type 0 where
  pub replies : List Reply
  pub go_on : AllPass continues_ticks replies
  pub count_is : length replies ≡ count
  pub given : AreAnsweredEvents seen (ticks_of A replies) replies before after
  pub tells : Appends old new (flat_map tick_line replies)

given_more : {R : Type 0} (A : Type 0) (seen : R → Device) (replies : List Reply) (r : Reply) (before mid after : ControllerModel R)
    → AreAnsweredEvents seen (ticks_of A replies) replies before mid → IsAnsweredEvent {A = A} seen event.Tick r mid after
    → AreAnsweredEvents seen (ticks_of A (replies ++ r ∷ [])) (replies ++ r ∷ []) before after
given_more A seen replies r before mid after p t =
    subst (λ (l : List (Event A)). AreAnsweredEvents seen l (replies ++ r ∷ []) before after) (sym (map-append (tick_for A) replies (r ∷ [])))
    (exchanges_joined seen (ticks_of A replies) (event.Tick ∷ []) replies (r ∷ []) before mid after p (exchanges_one seen event.Tick r mid after t))

tells_more : (old mid new : Option (List ℕ)) (replies : List Reply) (r : Reply)
    → Appends old mid (flat_map tick_line replies) → Appends mid new (tick_line r)
    → Appends old new (flat_map tick_line (replies ++ r ∷ []))
tells_more old mid new replies r p q =
    subst (λ (l : List ℕ). Appends old new l) (one_more tick_line replies r) (Appends-trans old mid new (flat_map tick_line replies) (tick_line r) p q)

one_longer : {X : Type 0} (xs : List X) (x : X) (n : ℕ) → length xs ≡ n → length (xs ++ x ∷ []) ≡ n + 1
one_longer xs x n e = omega (arith, length-append xs (x ∷ []), e)

pub ticked_more : {R : Type 0} (A : Type 0) (seen : R → Device) (count : ℕ) (r : Reply) (old mid new : Option (List ℕ)) (before now after : ControllerModel R)
    → Ticked A seen count old mid before now → IsAnsweredEvent {A = A} seen event.Tick r now after → continues_ticks r ≡ true → Appends mid new (tick_line r)
    → Ticked A seen (count + 1) old new before after
ticked_more A seen count r old mid new before now after p t on told = record {
  replies = p.replies ++ r ∷ [];
  go_on = All-push (λ (x : Reply). continues_ticks x ≡ true) p.replies r p.go_on on;
  count_is = one_longer p.replies r count p.count_is;
  given = given_more A seen p.replies r before now after p.given t;
  tells = tells_more old mid new p.replies r p.tells told;
}

-- a reply ends them
pub ticks_end : {R : Type 0} (A : Type 0) (seen : R → Device) (most count : ℕ) (r : Reply)
    (old mid new : Option (List ℕ)) (before now after : ControllerModel R)
    → Ticked A seen count old mid before now → count < most → IsAnsweredEvent {A = A} seen event.Tick r now after
    → continues_ticks r ≡ false → Appends mid new (tick_line r)
    → TickOnSpec A seen most (Ok (count + 1)) old new before after
ticks_end A seen most count r old mid new before now after p below t off told =
    let longer = one_longer p.replies r count p.count_is in
    record {
      replies = p.replies ++ r ∷ [];
      given = given_more A seen p.replies r before now after p.given t;
      makes = (
        inr (p.replies, r, (refl, p.go_on, omega (arith, longer, below)), off),
        sym longer,
        tells_more old mid new p.replies r p.tells told,
      );
    }

-- all were made
pub ticks_all : {R : Type 0} (A : Type 0) (seen : R → Device) (most count : ℕ) (old new : Option (List ℕ)) (before after : ControllerModel R)
    → Ticked A seen count old new before after → count ≡ most → TickOnSpec A seen most (Ok most) old new before after
ticks_all A seen most count old new before after p all = record {
  replies = p.replies;
  given = p.given;
  makes = (inl (p.go_on, p.count_is ∙ all), sym (p.count_is ∙ all), p.tells);
}

-- a line can't be written
pub ticks_break : {R : Type 0} (A : Type 0) (seen : R → Device) (most count : ℕ) (r : Reply) (fault : OutputError)
    (old mid new : Option (List ℕ)) (before now after : ControllerModel R)
    → Ticked A seen count old mid before now → count < most → IsAnsweredEvent {A = A} seen event.Tick r now after
    → (n : ℕ) × Appends mid new (take n (tick_line r))
    → TickOnSpec A seen most (Err fault) old new before after
ticks_break A seen most count r fault old mid new before now after p below t told =
    let begun = flat_map tick_line p.replies ++ take told.0 (tick_line r) in
    let longer = one_longer p.replies r count p.count_is in
    record {
      replies = p.replies ++ r ∷ [];
      given = given_more A seen p.replies r before now after p.given t;
      makes = (
        begun,
        (p.replies, r, (refl, p.go_on, omega (arith, longer, below)), (told.0, refl)),
        Appends-trans old mid new (flat_map tick_line p.replies) (take told.0 (tick_line r)) p.tells told.1,
      );
    }
