use Rattle.std.proofs.Common.{ℤ, List, sym, ◌∙◌, ap, arith, rules}
use Rattle.ng_layout.specs.Stands.{saved_beside}
use Rattle.ng_layout.specs.declared.header.Format.{Format}
use Rattle.std.proofs.lemmas.Result.{err_from_is_err_and}
use Rattle.ng_rig.proofs.GuaranteeLemmas.{promised}
use Rattle.ng_journal.proofs.MigrationLemmas.{modern_already, nothing_modern, modern_not_stored, modern_stored}
use Rattle.ng_journal.proofs.MigrationLemmas.{modern_failed, modern_made, modern_over, stored_over}
use Rattle.ng_journal.proofs.recovery.modernize.Goals as goal

pub returns-in-Two-clause-modernizes : goal.returns-in-Two-clause-modernizes
returns-in-Two-clause-modernizes g c = promised (λ table over. record {
  stops = λ standing b saved_is. modern_already table c.args.header standing _ c.in-Two.is b;
  writes = nothing_modern table c.args.header c.args.stored.now _ c.in-Two.is;
})

pub returns-in_err-checkpoint-in-One-clause-modernizes : goal.returns-in_err-checkpoint-in-One-clause-modernizes
returns-in_err-checkpoint-in-One-clause-modernizes g c =
    let p = err_from_is_err_and c.from_residual.result c.from_residual.ensures.1 in
    let tools = c.args.tools.now in
    let header = c.args.header in
    let stops = c.checkpoint.ensures.stops in
    let stores = c.checkpoint.ensures.stores in
    rw p.1 (record {
      keeps = stops.keeps;
      back = stops.back;
      holds = λ h table over. record {
        stops = λ standing b saved_is. modern_over tools table _ header standing _ _ (over c.in-One.is)
            (modern_failed tools header c.migrated-last.result c.args.stored.now c.take_tools.new.self standing _ _
            c.in-One.is c.migrated-last.ensures c.take_tools.ensures b saved_is (c.requires.epoch c.in-One.is) p.0
            c.checkpoint.result (stops.holds h c.take_tools.new.self.program_limit));
        writes = stored_over tools table _ header c.args.stored.now _ _ (over c.in-One.is)
            (modern_not_stored p.0 c.checkpoint.result tools header c.migrated-last.result c.args.stored.now
            c.take_tools.new.self _ _ c.in-One.is c.migrated-last.ensures c.take_tools.ensures (stores.holds h));
      };
    })

pub returns-in_ok-checkpoint-in-One-clause-modernizes : goal.returns-in_ok-checkpoint-in-One-clause-modernizes
returns-in_ok-checkpoint-in-One-clause-modernizes g c =
    let tools = c.args.tools.now in
    let header = c.args.header in
    let stops = c.in_ok-checkpoint-in-One.ensures.stops in
    let stores = c.in_ok-checkpoint-in-One.ensures.stores in
    record {
      keeps = stops.keeps;
      back = stops.back;
      holds = λ h table over. record {
        stops = λ standing b saved_is. modern_over tools table _ header standing _ _ (over c.in-One.is)
            (modern_made tools header c.migrated-last.result c.args.stored.now c.take_tools.new.self standing _ _
            c.in-One.is c.migrated-last.ensures c.take_tools.ensures b saved_is (c.requires.epoch c.in-One.is) _
            (stops.holds h c.take_tools.new.self.program_limit));
        writes = stored_over tools table _ header c.args.stored.now _ _ (over c.in-One.is)
            (modern_stored _ tools header c.migrated-last.result c.args.stored.now c.take_tools.new.self _ _
            c.in-One.is c.migrated-last.ensures c.take_tools.ensures (stores.holds h));
      };
    }

pub returns-in-Two-clause-saved : goal.returns-in-Two-clause-saved
returns-in-Two-clause-saved g c = λ table over. ap (λ (f : Format). saved_beside table f c.args.stored.now) (sym c.in-Two.is)

pub returns-in_ok-checkpoint-in-One-clause-saved : goal.returns-in_ok-checkpoint-in-One-clause-saved
returns-in_ok-checkpoint-in-One-clause-saved g c = λ table over.
    c.take_tools.ensures ∙ ap (λ (t : List ℤ). record c.args.stored.now { tools = t }) (sym (over c.in-One.is))
    ∙ ap (λ (f : Format). saved_beside table f c.args.stored.now) (sym c.in-One.is)

pub take_tools-requires : goal.take_tools-requires
take_tools-requires g c κs = grind arith

pub migrated-last-requires : goal.migrated-last-requires
migrated-last-requires g c = omega arith

pub checkpoint-requires-clause-least : goal.checkpoint-requires-clause-least
checkpoint-requires-clause-least g c = omega arith

pub checkpoint-requires-clause-long : goal.checkpoint-requires-clause-long
checkpoint-requires-clause-long g c = grind arith

pub checkpoint-requires-clause-count : goal.checkpoint-requires-clause-count
checkpoint-requires-clause-count g c = grind arith

pub checkpoint-requires-clause-storable : goal.checkpoint-requires-clause-storable
checkpoint-requires-clause-storable g c = grind arith

pub checkpoint-requires-clause-tools : goal.checkpoint-requires-clause-tools
checkpoint-requires-clause-tools g c = grind arith

pub branch-checkpoint-requires : goal.branch-checkpoint-requires
branch-checkpoint-requires g c κs = search rules

pub from_residual-requires : goal.from_residual-requires
from_residual-requires g c κs = search rules

pub returns-in-Two-clause-header : goal.returns-in-Two-clause-header
returns-in-Two-clause-header g c = grind arith

pub returns-in-Two-clause-whole : goal.returns-in-Two-clause-whole
returns-in-Two-clause-whole g c = grind arith

pub returns-in-Two-clause-program_limit : goal.returns-in-Two-clause-program_limit
returns-in-Two-clause-program_limit g c = omega arith

pub returns-in-Two-clause-call : goal.returns-in-Two-clause-call
returns-in-Two-clause-call g c = omega arith

pub returns-in_ok-checkpoint-in-One-clause-call : goal.returns-in_ok-checkpoint-in-One-clause-call
returns-in_ok-checkpoint-in-One-clause-call g c = grind arith
