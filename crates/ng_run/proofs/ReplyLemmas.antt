-- The answer to one order.
use Rattle.std.proofs.Common.{ℕ, List, [], ◌∷◌, ◌++◌, take, Option, Result, Ok, Err, refl, sym, subst, inl, inr, append-nil}
use Rattle.std.specs.Io.KnownBytes.{Appends}
use Rattle.ng_streams.proofs.KnownBytesLemmas.{Appends-nil, Appends-trans}
use Rattle.ng_num.specs.declared.fault.Fault.{Fault}
use Rattle.ng_rig.specs.Rig.{Device}
use Rattle.ng_commands.specs.Replies.{refused_line, reply_line, ticks_line}
use Rattle.ng_session.specs.declared.event.Event.{Event}
use Rattle.ng_session.specs.declared.reply.Reply.{Reply}
use Rattle.ng_streams.specs.Writing.{WritesOrBeginning}
use Rattle.ng_dialogue.specs.declared.order.Order.TheVariants.{Give, Ticks, Refuse}
use Rattle.ng_dialogue.specs.declared.telling.OutputError.{OutputError}
use Rattle.ng_core.specs.Model.{ControllerModel}
use Rattle.ng_run.specs.Consoles.{AnswerSpec, TickOnSpec, Told}
use Rattle.ng_run.specs.Talks.{Exchange, IsAnswered, last_line, earlier_lines}
use Rattle.ng_core.specs.AnsweredEvents.{IsAnsweredEvent}
use Rattle.ng_core.proofs.ExchangeLemmas.{exchanges_one}

-- the lines before the last are written; then the last is written, or it is broken off
told_after : {A T : Type 0} (x : Exchange A) (result : Result T OutputError) (old mid new : Option (List ℕ))
    → IsAnswered x → Appends old mid (earlier_lines x.order x.replies)
    → WritesOrBeginning mid new (last_line x.order x.replies) result → Told x result old new
told_after x (Ok done) old mid new answered p q = (answered, Appends-trans old mid new (earlier_lines x.order x.replies) (last_line x.order x.replies) p q)
told_after x (Err fault) old mid new answered p q =
    let lines = earlier_lines x.order x.replies in
    let line = take q.0 (last_line x.order x.replies) in
    (lines ++ line, inl (answered, (q.0, refl)), Appends-trans old mid new lines line p q.1)

pub answers_event : {A R T : Type 0} (seen : R → Device) (event : Event A) (r : Reply)
    (result : Result T OutputError) (old new : Option (List ℕ)) (before after : ControllerModel R)
    → IsAnsweredEvent seen event r before after → WritesOrBeginning old new (reply_line r) result
    → AnswerSpec seen (Give event) result old new before after
answers_event {A} seen event r result old new before after t p = record {
  replies = r ∷ [];
  given = exchanges_one seen event r before after t;
  tells = told_after {A = A} (record { order = Give event; replies = r ∷ [] }) result old old new refl (Appends-nil old)
      (subst (λ (l : List ℕ). WritesOrBeginning old new l result) (sym (append-nil (reply_line r))) p);
}

pub answers_refusal : {A R T : Type 0} (seen : R → Device) (fault : Fault) (result : Result T OutputError) (old new : Option (List ℕ)) (c : ControllerModel R)
    → WritesOrBeginning old new (refused_line fault) result → AnswerSpec {A = A} seen (Refuse fault) result old new c c
answers_refusal {A} seen fault result old new c p = record {
  replies = [];
  given = refl;
  tells = told_after {A = A} (record { order = Refuse fault; replies = [] }) result old old new refl (Appends-nil old) p;
}

-- after the lines of ticks, how many were made
pub answers_ticks : {A R T : Type 0} (seen : R → Device) (most made : ℕ) (result : Result T OutputError)
    (old mid new : Option (List ℕ)) (before after : ControllerModel R)
    → TickOnSpec A seen most (Ok made) old mid before after → WritesOrBeginning mid new (ticks_line made) result
    → AnswerSpec {A = A} seen (Ticks most) result old new before after
answers_ticks {A} seen most made result old mid new before after p q = record {
  replies = p.replies;
  given = p.given;
  tells = told_after {A = A} (record { order = Ticks most; replies = p.replies }) result old mid new p.makes.0 p.makes.2
      (subst (λ (n : ℕ). WritesOrBeginning mid new (ticks_line n) result) p.makes.1 q);
}

pub answers_ticks_broken : {A R T : Type 0} (seen : R → Device) (most : ℕ) (fault told : OutputError)
    (old new : Option (List ℕ)) (before after : ControllerModel R)
    → TickOnSpec A seen most (Err fault) old new before after → AnswerSpec {A = A} {T = T} seen (Ticks most) (Err told) old new before after
answers_ticks_broken {A} seen most fault told old new before after p = record {
  replies = p.replies;
  given = p.given;
  tells = (p.makes.0, inr (most, refl, p.makes.1), p.makes.2);
}
