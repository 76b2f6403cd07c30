use Rattle.std.proofs.Common.{◌≡◌, ◌≤◌, sym, ◌∙◌, ap, subst, arith}
use Rattle.ng_layout.specs.Storable.{IsStorable}
use Rattle.ng_layout.specs.Stored.{StoredModel}
use Rattle.ng_session.specs.Planned.{KnownModel, AreLinesOf, Base, IsPlannedOn, IsPlan, base_of, base_at_end}
use Rattle.ng_session.specs.Session.{SessionModel}
use Rattle.ng_session.proofs.BareBlockLemmas.{base_storable}
use Rattle.ng_session.proofs.PlannedLineLemmas.{end_storable, end_length, base_length, found_base, IsOneMore, plan_pushed, lines_pushed}
use Rattle.ng_session.proofs.session.Session.plan.Goals.{in-Some, in-None}
use Rattle.ng_session.proofs.session.Session.plan.Goals as goal

pub plan_line-requires-clause-storable : goal.plan_line-requires-clause-storable
plan_line-requires-clause-storable g c =
    let s : SessionModel = c.args.self.now in
    let f = c.find_base in
    let found = found_base c.args.geometry.now (base_of s) c.args.lines.now f.new.self f.ensures.known c.requires.plan
    (λ none. f.ensures.first none ∙ ap (λ (t : SessionModel). (base_of t).stored) c.self.view_is) f.ensures.later in
    let first : IsStorable (base_of s).stored = subst (λ (t : SessionModel). IsStorable (base_of t).stored)
    c.self.view_is (base_storable c.self.inside.stored c.self.inside.current c.self.invariant) in
    subst IsStorable (sym (c.base-2.ensures ∙ found.1)) (end_storable c.args.geometry.now (base_of s) f.new.self.ahead found.0.lines first)

pub plan_line-requires-clause-within : goal.plan_line-requires-clause-within
plan_line-requires-clause-within g c =
    let s : SessionModel = c.args.self.now in
    let f = c.find_base in
    let found = found_base c.args.geometry.now (base_of s) c.args.lines.now f.new.self f.ensures.known c.requires.plan
    (λ none. f.ensures.first none ∙ ap (λ (t : SessionModel). (base_of t).stored) c.self.view_is) f.ensures.later in
    let long : c.base-2.result.now.length ≡ s.stored.length = ap (λ (x : StoredModel). x.length) (c.base-2.ensures ∙ found.1)
    ∙ end_length (base_of s) f.new.self.ahead ∙ base_length s.stored s.current in
    let within : c.args.next ≤ s.stored.length = c.requires.within in
    omega (arith, within, long)

pub returns-clause-plan : goal.returns-clause-plan
returns-clause-plan g c =
    let s : SessionModel = c.args.self.now in
    let f = c.find_base in
    let found = found_base c.args.geometry.now (base_of s) c.args.lines.now f.new.self f.ensures.known c.requires.plan
    (λ none. f.ensures.first none ∙ ap (λ (t : SessionModel). (base_of t).stored) c.self.view_is) f.ensures.later in
    elim c.match-plan_line.branch [
      | in-Some w ↦
          let p = w.in-Some.planned in
          let on : IsPlannedOn c.args.geometry.now (record { stored = f.new.self.base; block_delete = s.block_delete }) p =
          subst (λ (t : SessionModel). IsPlannedOn c.args.geometry.now
          (let b : Base = record { stored = f.new.self.base; block_delete = t.block_delete } in b) p)
          c.self.view_is (subst (λ (x : StoredModel). IsPlannedOn c.args.geometry.now
          (let b : Base = record { stored = x; block_delete = c.self.inside.block_delete } in b) p) c.base-2.ensures w.in-Some.ensures.planned) in
          plan_pushed c.args.geometry.now (base_of s) f.new.self c.match-plan_line.lines p found.0 found.1 on
          (subst (λ (k : KnownModel). IsOneMore f.new.self p k) (sym w.lines-is) w.push.ensures)
      | in-None w ↦ subst (λ (k : KnownModel). IsPlan c.args.geometry.now (base_of s) k.ahead k.base) (sym (w.lines-is ∙ w.end.ensures)) found.0
    ]

pub returns-clause-holds : goal.returns-clause-holds
returns-clause-holds g c = λ program lines line.
    let s : SessionModel = c.args.self.now in
    let f = c.find_base in
    let found = found_base c.args.geometry.now (base_of s) c.args.lines.now f.new.self f.ensures.known c.requires.plan
    (λ none. f.ensures.first none ∙ ap (λ (t : SessionModel). (base_of t).stored) c.self.view_is) f.ensures.later in
    let ahead = ap (λ (k : KnownModel). k.ahead) f.ensures.known in
    let same : AreLinesOf program f.new.self.ahead = subst (AreLinesOf program) (sym ahead) lines in
    elim c.match-plan_line.branch [
      | in-Some w ↦
          let p = w.in-Some.planned in
          let place : p.place ≡ (base_at_end (base_of s) c.args.lines.now.ahead).stored.place =
          w.in-Some.ensures.planned.place ∙ ap (λ (x : StoredModel). x.place) (c.base-2.ensures ∙ found.1)
          ∙ ap (λ l. (base_at_end (base_of s) l).stored.place) ahead in
          lines_pushed program f.new.self c.match-plan_line.lines p (base_at_end (base_of s) c.args.lines.now.ahead).stored.place
          c.args.first c.args.text.now c.args.next same line place w.in-Some.ensures.first w.in-Some.ensures.text w.in-Some.ensures.next
          (subst (λ (k : KnownModel). IsOneMore f.new.self p k) (sym w.lines-is) w.push.ensures)
      | in-None w ↦ subst (λ (k : KnownModel). AreLinesOf program k.ahead) (sym (w.lines-is ∙ w.end.ensures)) same
    ]

pub find_base-requires : goal.find_base-requires
find_base-requires g c = grind arith

pub base-requires : goal.base-requires
base-requires g c κs = grind arith

pub base-requires-2 : goal.base-requires-2
base-requires-2 g c κs = grind arith

pub plan_line-requires-clause-beginning : goal.plan_line-requires-clause-beginning
plan_line-requires-clause-beginning g c = grind arith

pub push-requires : goal.push-requires
push-requires g c = grind arith

pub end-requires : goal.end-requires
end-requires g c κs = grind arith

pub invariant_of-self : goal.invariant_of-self
invariant_of-self g c = grind arith

pub returns-clause-session : goal.returns-clause-session
returns-clause-session g c = grind arith

pub returns-clause-before : goal.returns-clause-before
returns-clause-before g c = grind arith
