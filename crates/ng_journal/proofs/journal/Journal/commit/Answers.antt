use Rattle.std.proofs.Common.{refl, arith}
use Rattle.ng_rig.proofs.GuaranteeLemmas.{meaning}
use Rattle.ng_journal.proofs.ProgramHeldLemmas.{area_few}
use Rattle.ng_journal.proofs.ProgramLimitLemmas.{with_limit}
use Rattle.ng_journal.proofs.RecordStoreLemmas.{changes_few}
use Rattle.ng_journal.proofs.StoredChangeLemmas.{entry_stored, entry_not_stored}
use Rattle.ng_journal.proofs.journal.Journal.commit.Goals as goal
use Rattle.ng_journal.proofs.journal.Journal.commit.Goals.{in-Ok, in-Err}

pub returns-clause-stores : goal.returns-clause-stores
returns-clause-stores g c =
    let was = c.self.inside.stored in
    let limited = with_limit was.program_limit c.args.stored.now in
    elim c.match-store.branch [
      | in-Ok w ↦ rw w.result-is (rw w.self-inside-is (rw (← c.self.view_is) (meaning w.in-Ok.ensures.stores
          (λ s. entry_stored _ _ _ limited w.in-Ok.tip _ _ (area_few _ _ c.self.invariant.valid.area) (changes_few was limited)
          (record { tip_is = refl; saved_is = w.take_state.ensures }) w.in-Ok.ensures.tip s))))
      | in-Err w ↦ rw w.result-is (rw w.self-inside-is (rw (← c.self.view_is) (meaning c.store.ensures.stores
          (λ s. entry_not_stored _ c.store.result _ _ limited _ _ s))))
    ]

pub is_used_up_between-requires : goal.is_used_up_between-requires
is_used_up_between-requires g c κs = grind arith

pub store-requires-clause-sectors : goal.store-requires-clause-sectors
store-requires-clause-sectors g c = omega arith

pub store-requires-clause-tip : goal.store-requires-clause-tip
store-requires-clause-tip g c = grind arith

pub store-requires-clause-one : goal.store-requires-clause-one
store-requires-clause-one g c = grind arith

pub store-requires-clause-epoch : goal.store-requires-clause-epoch
store-requires-clause-epoch g c = grind arith

pub store-requires-clause-old : goal.store-requires-clause-old
store-requires-clause-old g c = grind arith

pub store-requires-clause-new : goal.store-requires-clause-new
store-requires-clause-new g c = grind arith

pub store-requires-clause-long : goal.store-requires-clause-long
store-requires-clause-long g c = grind arith

pub take_state-requires-clause-own : goal.take_state-requires-clause-own
take_state-requires-clause-own g c = omega arith

pub take_state-requires-clause-other : goal.take_state-requires-clause-other
take_state-requires-clause-other g c = omega arith

pub invariant_of-self : goal.invariant_of-self
invariant_of-self g c = grind arith

pub returns-clause-keeps : goal.returns-clause-keeps
returns-clause-keeps g c = grind arith

pub returns-clause-call : goal.returns-clause-call
returns-clause-call g c = grind arith
