-- A conversation, order by order.
use Rattle.std.proofs.Common.{◌≡◌, ℕ, List, [], ◌∷◌, ◌++◌, Option, Some, Result, Ok, Err, All, IfSome, refl, sym, subst, append-nil}
use Rattle.std.specs.Io.KnownBytes.{Appends}
use Rattle.std.proofs.lemmas.List.Elements.{All-nil, All-push}
use Rattle.ng_streams.proofs.KnownBytesLemmas.{Appends-nil, Appends-trans}
use Rattle.ng_rig.specs.Rig.{Device}
use Rattle.ng_session.specs.declared.event.Event.{Event}
use Rattle.ng_session.specs.declared.reply.Reply.{Reply}
use Rattle.ng_dialogue.specs.Hearing.{EndsText, TakesOrder}
use Rattle.ng_dialogue.specs.declared.order.Order.{Order}
use Rattle.ng_dialogue.specs.declared.telling.OutputError.{OutputError}
use Rattle.ng_core.specs.Model.{ControllerModel}
use Rattle.ng_run.specs.Consoles.{AnswerSpec, EndsConversation, Conversation}
use Rattle.ng_run.specs.Ending.{ended_by}
use Rattle.ng_run.specs.Talks.{Exchange, Hears, IsAnswered, events_in, events_of, replies_in, words_in, words_of}
use Rattle.ng_core.specs.AnsweredEvents.{AreAnsweredEvents}
use Rattle.ng_run.specs.declared.ending.ConsoleEnd.{ConsoleEnd}
use Rattle.ng_run.specs.declared.ending.ConsoleAbort.{ConsoleAbort}
use Rattle.ng_run.specs.declared.ending.ConsoleAbort.TheVariants.{Input, Output}
use Rattle.ng_run.proofs.AskedOrderLemmas.{hears_more, hears_none, one_more}
use Rattle.ng_core.proofs.ExchangeLemmas.{exchanges_joined, exchanges_pass}

-- this part of the text was read and is answered in full
pub record Talked {R : Type 0} (A : Type 0) (seen : R → Device) (text rest old new : Option (List ℕ)) (before after : ControllerModel R) : Type 0 where
  pub talk : List (Exchange A)
  pub each : All IsAnswered talk
  pub hears : Hears text talk rest
  pub given : AreAnsweredEvents seen (events_in talk) (replies_in talk) before after
  pub tells : Appends old new (words_in talk)

pub talked_none : {R : Type 0} (A : Type 0) (seen : R → Device) (text old : Option (List ℕ)) (c : ControllerModel R)
    → Talked A seen text text old old c c
talked_none A seen text old c = record {
  talk = [];
  each = All-nil (IsAnswered {A = A});
  hears = hears_none A text;
  given = refl;
  tells = Appends-nil old;
}

-- the events of one more exchange
given_more : {R : Type 0} (A : Type 0) (seen : R → Device) (talk : List (Exchange A)) (x : Exchange A) (before mid after : ControllerModel R)
    → AreAnsweredEvents seen (events_in talk) (replies_in talk) before mid → AreAnsweredEvents seen (events_of x.order x.replies) x.replies mid after
    → AreAnsweredEvents seen (events_in (talk ++ x ∷ [])) (replies_in (talk ++ x ∷ [])) before after
given_more A seen talk x before mid after p q =
    let joined = exchanges_joined seen (events_in talk) (events_of x.order x.replies) (replies_in talk) x.replies before mid after p q in
    subst (λ (l : List Reply). AreAnsweredEvents seen (events_in (talk ++ x ∷ [])) l before after) (one_more (λ (y : Exchange A). y.replies) talk x)
    (subst (λ (l : List (Event A)). AreAnsweredEvents seen l (replies_in talk ++ x.replies) before after)
    (one_more (λ (y : Exchange A). events_of y.order y.replies) talk x) joined)

pub talked_more : {R T : Type 0} (A : Type 0) (seen : R → Device) (order : Order A) (done : T)
    (text rest next old mid new : Option (List ℕ)) (before now after : ControllerModel R)
    → Talked A seen text rest old mid before now → TakesOrder rest next (Some order) → AnswerSpec seen order (Ok done) mid new now after
    → Talked A seen text next old new before after
talked_more A seen order done text rest next old mid new before now after p asked a =
    let x : Exchange A = record { order = order; replies = a.replies } in
    record {
      talk = p.talk ++ x ∷ [];
      each = All-push (IsAnswered {A = A}) p.talk x p.each a.tells.0;
      hears = hears_more text rest next p.talk x p.hears asked;
      given = given_more A seen p.talk x before now after p.given a.given;
      tells = subst (λ (l : List ℕ). Appends old new l) (one_more (λ (y : Exchange A). words_of y.order y.replies) p.talk x)
          (Appends-trans old mid new (words_in p.talk) (words_of order a.replies) p.tells a.tells.1);
    }

-- a conversation, in terms of what was answered in full and what was begun
conversed : {R : Type 0} (A : Type 0) (seen : R → Device) (ended : Result ConsoleEnd ConsoleAbort)
    (text rest old new : Option (List ℕ)) (before after : ControllerModel R)
    (answered begun talk : List (Exchange A)) (written : List ℕ) → answered ++ begun ≡ talk → All IsAnswered answered → Hears text talk rest
    → AreAnsweredEvents seen (events_in talk) (replies_in talk) before after → Appends old new (words_in answered ++ written)
    → EndsConversation ended after.journal.broken rest begun written → Conversation A seen ended text old new before after
conversed A seen ended text rest old new before after answered begun talk written parts each hears given tells closes =
    let given_all = subst (λ (l : List (Exchange A)). AreAnsweredEvents seen (events_in l) (replies_in l) before after) (sym parts) given in
    record {
      answered = answered;
      begun = begun;
      rest = rest;
      written = written;
      each = each;
      hears = subst (λ (l : List (Exchange A)). Hears text l rest) (sym parts) hears;
      given = given_all;
      tells = tells;
      closes = closes;
      passes = exchanges_pass seen (events_in (answered ++ begun)) (replies_in (answered ++ begun)) before after given_all;
    }

-- nothing is begun
conversed_whole : {R : Type 0} (A : Type 0) (seen : R → Device) (ended : Result ConsoleEnd ConsoleAbort)
    (text rest old new : Option (List ℕ)) (before after : ControllerModel R)
    → (p : Talked A seen text rest old new before after) → EndsConversation {A = A} ended after.journal.broken rest [] []
    → Conversation A seen ended text old new before after
conversed_whole A seen ended text rest old new before after p closes =
    conversed A seen ended text rest old new before after p.talk [] p.talk [] (append-nil p.talk) p.each p.hears p.given
    (subst (λ (l : List ℕ). Appends old new l) (sym (append-nil (words_in p.talk))) p.tells) closes

pub ends_whole : {R : Type 0} (A : Type 0) (seen : R → Device) (ended : ConsoleEnd) (text rest old new : Option (List ℕ)) (before after : ControllerModel R)
    → Talked A seen text rest old new before after → IfSome rest EndsText → ended ≡ ended_by after.journal.broken
    → Conversation A seen (Ok ended) text old new before after
ends_whole A seen ended text rest old new before after p end is =
    conversed_whole A seen (Ok ended) text rest old new before after p (is, end, refl, refl)

pub ends_deaf : {R : Type 0} (A : Type 0) (seen : R → Device) (text rest old new : Option (List ℕ)) (before after : ControllerModel R)
    → Talked A seen text rest old new before after → Conversation A seen (Err Input) text old new before after
ends_deaf A seen text rest old new before after p =
    conversed_whole A seen (Err Input) text rest old new before after p (refl, refl)

pub ends_mute : {R T : Type 0} (A : Type 0) (seen : R → Device) (order : Order A) (fault : OutputError)
    (text rest next old mid new : Option (List ℕ)) (before now after : ControllerModel R)
    → Talked A seen text rest old mid before now → TakesOrder rest next (Some order) → AnswerSpec {T = T} seen order (Err fault) mid new now after
    → Conversation A seen (Err Output) text old new before after
ends_mute A seen order fault text rest next old mid new before now after p asked a =
    let x : Exchange A = record { order = order; replies = a.replies } in
    conversed A seen (Err Output) text next old new before after p.talk (x ∷ []) (p.talk ++ x ∷ []) a.tells.0 refl p.each
    (hears_more text rest next p.talk x p.hears asked) (given_more A seen p.talk x before now after p.given a.given)
    (Appends-trans old mid new (words_in p.talk) a.tells.0 p.tells a.tells.2)
    (x, refl, a.tells.1)
