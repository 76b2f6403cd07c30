use Rattle.std.proofs.Common.{◌≡◌, ◌≢◌, ◌<◌, Option, Some, MatchBool, refl, sym, ◌∙◌, ap, subst, arith}
use Rattle.std.specs.Prelude.{IfSome}
use Rattle.std.specs.Option.{option_map}
use Rattle.ng_session.specs.BareBlock.{BareBlock, block_on, IsReady}
use Rattle.ng_session.specs.Session.{SessionModel, idleness}
use Rattle.ng_session.specs.SessionInvariant.{IsSessionInvariant}
use Rattle.ng_session.specs.declared.session.Session.TheInside.{Inside}
use Rattle.ng_session.specs.declared.stage.Stage.TheVariants.{OnBlock}
use Rattle.ng_session.proofs.SessionInvariantLemmas.{holds_alone, holds_approach}
use Rattle.ng_session.proofs.session.Session.commit.Goals.{then-not-end_approach, else-not-end_approach}
use Rattle.ng_session.proofs.session.Session.commit.Goals as goal

-- the activity, seen through the session
pub returns-in_default-clause-rest_reply : goal.returns-in_default-clause-rest_reply
returns-in_default-clause-rest_reply g c = λ program none. c.rest.ensures program ∙ ap (λ s. idleness s.activity) c.self.view_is

pub invariant_of-self-2 : goal.invariant_of-self-2
invariant_of-self-2 g c =
    let x = c.self.inside.stored in
    let b : BareBlock = c.in-Some.current in
    let f = block_on x.setup.params in
    let s : SessionModel = record {
      stored = x;
      activity = c.self.inside.activity;
      held = c.self.inside.held;
      optional_stop = c.self.inside.optional_stop;
      block_delete = c.self.inside.block_delete;
      current = option_map f c.self.inside.current;
    } in
    let counts : IfSome s.current (λ _. x.entries < 1_000_000_000_000) =
    subst (λ (t : SessionModel). IfSome t.current (λ _. t.stored.entries < 1_000_000_000_000)) (sym c.self.view_is) c.requires in
    let count : x.entries < 1_000_000_000_000 =
    subst (λ (o : Option BareBlock). IfSome (option_map f o) (λ _. x.entries < 1_000_000_000_000)) c.in-Some.is counts in
    let ready : IsReady x b = subst (λ (o : Option BareBlock). IfSome o (IsReady x)) c.in-Some.is c.self.invariant.ready in
    let update = c.update-update.ensures in
    elim c.if-not-end_approach.branch [
      | then-not-end_approach w ↦ rw w.self-inside-is (holds_alone x _ c.update-update.result count update.next
          (ap (λ (z : Inside g.row.A.Denot). z.stored) w.self-inside.view_is ∙ c.take_update.ensures))
      | else-not-end_approach w ↦
          let off : b.stage ≢ OnBlock = subst (λ t. MatchBool t (b.stage ≢ OnBlock) (b.stage ≡ OnBlock))
          w.if-not-end_approach.false c.end_approach.ensures.way in
          let approach_holds = holds_approach s c.take_update.new.self b c.update-update.result b.stage count update.next
          c.take_update.ensures (update.value s refl) off ready in
          rw w.self-inside-is (subst (λ (z : BareBlock). IsSessionInvariant c.take_update.new.self (Some z)) (sym c.end_approach.ensures.next) approach_holds)
    ]

pub invariant_of-self : goal.invariant_of-self
invariant_of-self g c = grind arith

pub rest-requires : goal.rest-requires
rest-requires g c κs = grind arith

pub returns-in_default-clause-reply : goal.returns-in_default-clause-reply
returns-in_default-clause-reply g c = grind arith

pub returns-in_default-clause-next : goal.returns-in_default-clause-next
returns-in_default-clause-next g c = grind arith

pub returns-in_default-clause-rest_next : goal.returns-in_default-clause-rest_next
returns-in_default-clause-rest_next g c = grind arith

pub update-update-requires-clause-count : goal.update-update-requires-clause-count
update-update-requires-clause-count g c = omega arith

pub update-update-requires-clause-storable : goal.update-update-requires-clause-storable
update-update-requires-clause-storable g c = grind arith

pub update-update-requires-clause-ready : goal.update-update-requires-clause-ready
update-update-requires-clause-ready g c = grind arith

pub take_update-requires : goal.take_update-requires
take_update-requires g c = grind arith

pub end_approach-requires : goal.end_approach-requires
end_approach-requires g c = omega arith

pub after-self-inside-inside-requires : goal.after-self-inside-inside-requires
after-self-inside-inside-requires g c = omega arith

pub invariant_of-self-inside : goal.invariant_of-self-inside
invariant_of-self-inside g c = omega arith

pub returns-clause-reply : goal.returns-clause-reply
returns-clause-reply g c = grind arith

pub returns-clause-next : goal.returns-clause-next
returns-clause-next g c = grind arith

pub returns-clause-rest_reply : goal.returns-clause-rest_reply
returns-clause-rest_reply g c = grind arith

pub returns-clause-rest_next : goal.returns-clause-rest_next
returns-clause-rest_next g c = grind arith
