use Rattle.std.proofs.Common.{◌≡◌, ℕ, List, [], ◌∷◌, ◌++◌, length, ap, ◌∙◌, sym, subst, arith, length-append}
use Rattle.ng_session.specs.declared.event.Event.{Event}
use Rattle.ng_session.specs.declared.reply.Reply.{Reply}
use Rattle.ng_core.specs.AnsweredEvents.{IsAnsweredEvent}
use Rattle.ng_desk.specs.declared.call.Call.{Call}
use Rattle.ng_desk.specs.Calls.{NumberedFrom}
use Rattle.ng_desk.specs.Running.{RunsFrom}
use Rattle.ng_desk.proofs.CallHistoryLemmas.{numbered_more, runs_more}
use Rattle.ng_desk.proofs.book.Book.give.Goals as goal

pub invariant_of-self : goal.invariant_of-self
invariant_of-self g c = subst (λ (l : List (Call g.row.A.Denot)). (length l ≡ c.self.inside.calls.total)
    × (c.self.inside.spare.parts ≡ 0) × NumberedFrom 0 l
    × RunsFrom g.R.Rig.seen g.O.Origin.start l c.self.inside.moments c.self.inside.controller)
    (sym c.reserve.ensures.items) c.self.invariant

pub invariant_of-self-in_err-copy : goal.invariant_of-self-in_err-copy
invariant_of-self-in_err-copy g c = subst (λ (l : List (Call g.row.A.Denot)). (length l ≡ c.self.inside.calls.total)
    × (c.self.inside.spare.parts ≡ 0) × NumberedFrom 0 l
    × RunsFrom g.R.Rig.seen g.O.Origin.start l c.self.inside.moments c.self.inside.controller)
    (sym c.reserve.ensures.items) c.self.invariant

pub invariant_of-self-in_err-told : goal.invariant_of-self-in_err-told
invariant_of-self-in_err-told g c = subst (λ (l : List (Call g.row.A.Denot)). (length l ≡ c.self.inside.calls.total)
    × (c.self.inside.spare.parts ≡ 0) × NumberedFrom 0 l
    × RunsFrom g.R.Rig.seen g.O.Origin.start l c.self.inside.moments c.self.inside.controller)
    (sym c.reserve.ensures.items) c.self.invariant

pub invariant_of-self-in_err-given : goal.invariant_of-self-in_err-given
invariant_of-self-in_err-given g c =
    subst (λ (l : List (Call g.row.A.Denot)). (length l ≡ c.self.inside.calls.total)
    × (c.self.inside.spare.parts ≡ 0) × NumberedFrom 0 l
    × RunsFrom g.R.Rig.seen g.O.Origin.start l c.self.inside.moments c.self.inside.controller)
    (sym c.reserve.ensures.items) c.self.invariant

pub invariant_of-self-2 : goal.invariant_of-self-2
invariant_of-self-2 g c =
    let call = c.of.result in
    let old = c.self.inside.history.items in
    let was = c.self.inside.controller in
    let is = c.on-reply.new.self in
    let now : c.push_reserved.new.self.items ≡ old ++ call ∷ [] = c.push_reserved.ensures.items
    ∙ ap (λ (l : List (Call g.row.A.Denot)). l ++ call ∷ []) c.reserve.ensures.items in
    let number : call.number ≡ c.len-number.result = ap (λ (x : Call g.row.A.Denot). x.number) c.of.ensures in
    let event : c.in_ok-given.given ≡ call.event = c.in_ok-given.ensures ∙ sym c.in_ok-copy.ensures
    ∙ sym (ap (λ (x : Call g.row.A.Denot). x.event) c.of.ensures) in
    let reply : c.on-reply.result ≡ call.reply = sym (ap (λ (x : Call g.row.A.Denot). x.reply) c.of.ensures) in
    let given : IsAnsweredEvent g.R.Rig.seen c.in_ok-given.given c.on-reply.result was is =
    record { serves = c.on-reply.ensures.serves; refuses = c.on-reply.ensures.broken } in
    let exchange : IsAnsweredEvent g.R.Rig.seen call.event call.reply was is =
    subst (λ (r : Reply). IsAnsweredEvent g.R.Rig.seen call.event r was is) reply
    (subst (λ (e : Event g.row.A.Denot). IsAnsweredEvent g.R.Rig.seen e c.on-reply.result was is) event given) in (
      ap (λ (l : List (Call g.row.A.Denot)). length l) now ∙ omega (arith, length-append old (call ∷ []), c.self.invariant.0, c.add.ensures.total),
      c.self.invariant.1,
      subst (λ (l : List (Call g.row.A.Denot)). NumberedFrom 0 l) (sym now)
          (numbered_more 0 old call c.self.invariant.2
          (omega (
            arith,
            number,
            c.len-number.ensures,
            ap (λ (l : List (Call g.row.A.Denot)). length l)
                c.reserve.ensures.items,
          ))),
      subst (λ (l : List (Call g.row.A.Denot)). RunsFrom g.R.Rig.seen g.O.Origin.start l c.push.new.self is) (sym now)
          (subst (λ (l : List ℕ). RunsFrom g.R.Rig.seen g.O.Origin.start (old ++ call ∷ []) l is) (sym c.push.ensures)
          (runs_more g.R.Rig.seen g.O.Origin.start old c.self.inside.moments call was is c.self.invariant.3 exchange c.on-reply.ensures.size)),
    )

pub returns-clause-exchange : goal.returns-clause-exchange
returns-clause-exchange g c =
    let was = c.self.inside.controller in
    let is = c.on-reply.new.self in
    let given : IsAnsweredEvent g.R.Rig.seen c.in_ok-given.given c.on-reply.result was is =
    record { serves = c.on-reply.ensures.serves; refuses = c.on-reply.ensures.broken } in
    let reply : c.on-reply.result ≡ c.of-2.result.reply =
    sym (ap (λ (x : Call g.row.A.Denot). x.reply) c.of-2.ensures) in
    let exchange : IsAnsweredEvent g.R.Rig.seen c.args.event.now c.of-2.result.reply was is =
    subst (λ (r : Reply). IsAnsweredEvent g.R.Rig.seen c.args.event.now r was is) reply
    (subst (λ (e : Event g.row.A.Denot). IsAnsweredEvent g.R.Rig.seen e c.on-reply.result was is) c.in_ok-given.ensures given) in
    rw (← c.self.view_is) exchange
