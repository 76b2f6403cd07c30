use Rattle.std.proofs.Common.{sym, subst, arith}
use Rattle.std.specs.Option.{ForSome}
use Rattle.ng_layout.specs.Storable.{IsStorableChange}
use Rattle.ng_session.specs.Session.{SessionModel}
use Rattle.ng_session.proofs.session.Session.take.Goals as goal

pub take_update-requires : goal.take_update-requires
take_update-requires g c =
    subst (λ (s : SessionModel). ForSome c.args.update.now.slot (IsStorableChange s.stored.tools)) (sym c.self.view_is) c.requires.next.slot

pub invariant_of-self : goal.invariant_of-self
invariant_of-self g c = grind arith

pub returns-clause-reply : goal.returns-clause-reply
returns-clause-reply g c = grind arith

pub returns-clause-next : goal.returns-clause-next
returns-clause-next g c = grind arith
