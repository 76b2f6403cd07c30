use Rattle.std.proofs.Common.{◌≡◌, ◌≤◌, ◌∙◌, ap, subst, arith}
use Rattle.ng_layout.specs.Storable.{IsStorable}
use Rattle.ng_session.specs.Planned.{base_of, base_at_end}
use Rattle.ng_session.specs.Session.{SessionModel}
use Rattle.ng_session.proofs.BareBlockLemmas.{base_storable}
use Rattle.ng_session.proofs.PlannedLineLemmas.{end_storable, end_length, base_length}
use Rattle.ng_session.proofs.session.Session.place_ahead.Goals as goal

pub returns-clause-within : goal.returns-clause-within
returns-clause-within g c =
    let s : SessionModel = c.args.self.now in
    let last = base_at_end (base_of s) c.args.lines.now.ahead in
    let there : c.place_at_end.result ≡ last.stored.place = c.place_at_end.ensures c.self.inside.block_delete
    ∙ ap (λ (x : SessionModel). (base_at_end (base_of x) c.args.lines.now.ahead).stored.place) c.self.view_is in
    let first : IsStorable (base_of s).stored = subst (λ (x : SessionModel). IsStorable (base_of x).stored)
    c.self.view_is (base_storable c.self.inside.stored c.self.inside.current c.self.invariant) in
    let storable = end_storable c.requires.0 (base_of s) c.args.lines.now.ahead c.requires.1.lines first in
    let long : last.stored.length ≡ s.stored.length = end_length (base_of s) c.args.lines.now.ahead ∙ base_length s.stored s.current in
    let within : last.stored.place ≤ last.stored.length = storable.place in
    omega (arith, within, long, there)

pub is_done-requires : goal.is_done-requires
is_done-requires g c κs = grind arith

pub ends_at_end-requires : goal.ends_at_end-requires
ends_at_end-requires g c κs = grind arith

pub returns-then-is_done-clause-place : goal.returns-then-is_done-clause-place
returns-then-is_done-clause-place g c = omega arith

pub returns-then-is_done-clause-within : goal.returns-then-is_done-clause-within
returns-then-is_done-clause-within g c = omega arith

pub returns-then-is_done-clause-end : goal.returns-then-is_done-clause-end
returns-then-is_done-clause-end g c = grind arith

pub place_at_end-requires : goal.place_at_end-requires
place_at_end-requires g c κs = grind arith

pub returns-clause-place : goal.returns-clause-place
returns-clause-place g c = grind arith

pub returns-clause-end : goal.returns-clause-end
returns-clause-end g c = grind arith
