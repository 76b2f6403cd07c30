use Rattle.std.proofs.Common.{◌≡◌, Some, sym, ap, subst, ◌∙◌, arith, rules}
use Rattle.ng_rig.specs.Trace.{Trace, reads}
use Rattle.ng_layout.specs.declared.header.Header.{Header}
use Rattle.ng_layout.specs.declared.header.Format.TheVariants.{One}
use Rattle.ng_layout.specs.Stands.{in_force}
use Rattle.std.proofs.lemmas.Result.{err_from_is_err_and}
use Rattle.ng_rig.proofs.GuaranteeLemmas.{meaning}
use Rattle.ng_journal.proofs.RestoreLemmas.{one_more, exit_unsynced, exit_failed, exit_found, exit_used}
use Rattle.ng_journal.proofs.RestoreLemmas.{found_under, next_is, within, exit_modern, exit_restored}
use Rattle.ng_journal.proofs.recovery.restore.Goals as goal

pub returns-in_err-sync-clause-restores : goal.returns-in_err-sync-clause-restores
returns-in_err-sync-clause-restores g c =
    let p = err_from_is_err_and c.from_residual.result c.from_residual.ensures.1 in
    rw p.1 (meaning c.in_err-sync.ensures.trace (λ same table over. exit_unsynced table _ _ _ _ same))

pub returns-in_err-fault-clause-restores : goal.returns-in_err-fault-clause-restores
returns-in_err-fault-clause-restores g c =
    let p = err_from_is_err_and c.from_residual-in_err-fault.result c.from_residual-in_err-fault.ensures.1 in
    let sync = c.in_ok-sync.ensures.trace in
    let found = c.in_err-fault.ensures.read in
    rw p.1 (record {
      keeps = λ h. found.keeps (sync.keeps h);
      back = λ h. sync.back (found.back h);
      holds = λ h table over. exit_failed table _ _ _ _ ((found.holds (sync.keeps h)).same ∙ sync.holds h);
    })

pub returns-in-Err-clause-restores : goal.returns-in-Err-clause-restores
returns-in-Err-clause-restores g c =
    let sync = c.in_ok-sync.ensures.trace in
    let found = c.in_ok-fault.ensures.read in
    record {
      keeps = λ h. found.keeps (sync.keeps h);
      back = λ h. sync.back (found.back h);
      holds = λ h table over. let f = found.holds (sync.keeps h) in exit_found table c.in_ok-fault.field-0
          c.in-Err.fault _ _ _ _ c.in-Err.is (sync.holds h) f.same f.right;
    }

pub returns-then-header-epochs_for-gt-GREATEST_COUNT-clause-restores : goal.returns-then-header-epochs_for-gt-GREATEST_COUNT-clause-restores
returns-then-header-epochs_for-gt-GREATEST_COUNT-clause-restores g c =
    let sync = c.in_ok-sync.ensures.trace in
    let found = c.in_ok-fault.ensures.read in
    record {
      keeps = λ h. found.keeps (sync.keeps h);
      back = λ h. sync.back (found.back h);
      holds = λ h table over. let f = found.holds (sync.keeps h) in exit_used table c.in_ok-fault.field-0
          c.in-Ok.header _ _ _ _ c.in-Ok.is (sync.holds h) f.same f.right
          (omega (arith, c.epochs_for.ensures.value, c.if-header-epochs_for-gt-GREATEST_COUNT.true));
    }

pub returns-in_err-checkpoint-in-Ok-clause-restores : goal.returns-in_err-checkpoint-in-Ok-clause-restores
returns-in_err-checkpoint-in-Ok-clause-restores g c =
    let p = err_from_is_err_and c.from_residual-in_err-checkpoint-in-Ok.result c.from_residual-in_err-checkpoint-in-Ok.ensures.1 in
    let sync = c.in_ok-sync.ensures.trace in
    let found = c.in_ok-fault.ensures.read in
    let last = c.checkpoint.ensures.stops in
    let stores = c.checkpoint.ensures.stores in
    let header = c.in-Ok.header in
    rw p.1 (record {
      keeps = λ h. last.keeps (found.keeps (sync.keeps h));
      back = λ h. sync.back (found.back (last.back h));
      holds = λ h table over.
          let more = one_more header (omega (arith, c.epochs_for.ensures.value, c.if-header-epochs_for-gt-GREATEST_COUNT.false)) in
          let f = found.holds (sync.keeps h) in
          let now = f.same ∙ sync.holds h in
          let u = found_under c.in_ok-fault.field-0 header c.found.new.stored _ _ c.in-Ok.is f.same f.right in
          within table header c.found.new.stored c.close.new.self _ _ now u c.close.ensures.value more p.0
          c.checkpoint.result c.next_header-next.result c.close.new.self _
          (next_is header c.next_header-next.result c.found.new.stored c.close.new.self _ u
          c.close.ensures.value c.next_header-next.ensures) (stores.holds (found.keeps (sync.keeps h))).writes
          (last.holds (found.keeps (sync.keeps h)) c.close.new.self.program_limit);
    })

pub returns-in_err-last-in-Ok-clause-restores : goal.returns-in_err-last-in-Ok-clause-restores
returns-in_err-last-in-Ok-clause-restores g c =
    let p = err_from_is_err_and c.from_residual-in_err-last-in-Ok.result c.from_residual-in_err-last-in-Ok.ensures.1 in
    let sync = c.in_ok-sync.ensures.trace in
    let found = c.in_ok-fault.ensures.read in
    let last = c.in_ok-checkpoint-in-Ok.ensures.stops in
    let stores = c.in_ok-checkpoint-in-Ok.ensures.stores in
    let again = c.modernize.ensures.modernizes in
    let header = c.in-Ok.header in
    rw p.1 (record {
      keeps = λ h. again.keeps (last.keeps (found.keeps (sync.keeps h)));
      back = λ h. sync.back (found.back (last.back (again.back h)));
      holds = λ h table over.
          let more = one_more header (omega (arith, c.epochs_for.ensures.value, c.if-header-epochs_for-gt-GREATEST_COUNT.false)) in
          let f = found.holds (sync.keeps h) in
          let now = f.same ∙ sync.holds h in
          let at = found.keeps (sync.keeps h) in
          let u = found_under c.in_ok-fault.field-0 header c.found.new.stored _ _ c.in-Ok.is f.same f.right in
          let force = subst (λ (l : Trace). in_force (reads l) ≡ Some header) now u.force in
          let given : c.next_header-next.result.format ≡ One → table ≡ c.args.tools.now = λ one.
          over header force (sym (ap (λ (x : Header). x.format) c.next_header-next.ensures) ∙ one) in
          let made = again.holds (last.keeps at) table given in
          exit_modern table header c.found.new.stored c.close.new.self _ _ now u c.close.ensures.value more _
          c.next_header-next.result _ _
          (next_is header c.next_header-next.result c.found.new.stored c.close.new.self _ u
          c.close.ensures.value c.next_header-next.ensures) (stores.holds at)
          (last.holds at c.close.new.self.program_limit) p.0 c.modernize.result c.modernize.new.stored
          made.writes made.stops;
    })

pub returns-in_ok-last-in-Ok-clause-restores : goal.returns-in_ok-last-in-Ok-clause-restores
returns-in_ok-last-in-Ok-clause-restores g c =
    let sync = c.in_ok-sync.ensures.trace in
    let found = c.in_ok-fault.ensures.read in
    let last = c.in_ok-checkpoint-in-Ok.ensures.stops in
    let stores = c.in_ok-checkpoint-in-Ok.ensures.stores in
    let again = c.in_ok-last-in-Ok.ensures.modernizes in
    let header = c.in-Ok.header in
    record {
      keeps = λ h. again.keeps (last.keeps (found.keeps (sync.keeps h)));
      back = λ h. sync.back (found.back (last.back (again.back h)));
      holds = λ h table over.
          let more = one_more header (omega (arith, c.epochs_for.ensures.value, c.if-header-epochs_for-gt-GREATEST_COUNT.false)) in
          let f = found.holds (sync.keeps h) in
          let now = f.same ∙ sync.holds h in
          let at = found.keeps (sync.keeps h) in
          let u = found_under c.in_ok-fault.field-0 header c.found.new.stored _ _ c.in-Ok.is f.same f.right in
          let force = subst (λ (l : Trace). in_force (reads l) ≡ Some header) now u.force in
          let given : c.next_header-next.result.format ≡ One → table ≡ c.args.tools.now = λ one.
          over header force (sym (ap (λ (x : Header). x.format) c.next_header-next.ensures) ∙ one) in
          let made = again.holds (last.keeps at) table given in
          exit_restored table header c.found.new.stored c.close.new.self _ _ now u c.close.ensures.value more _
          c.next_header-next.result _ _
          (next_is header c.next_header-next.result c.found.new.stored c.close.new.self _ u
          c.close.ensures.value c.next_header-next.ensures) (stores.holds at)
          (last.holds at c.close.new.self.program_limit) c.in_ok-last-in-Ok.last c.modernize.new.stored
          made.writes made.stops
          c.in_ok-last-in-Ok.ensures.header.0 (c.in_ok-last-in-Ok.ensures.saved table given);
    }

pub sync-requires : goal.sync-requires
sync-requires g c κs = grind arith

pub branch-sync-requires : goal.branch-sync-requires
branch-sync-requires g c κs = search rules

pub from_residual-requires : goal.from_residual-requires
from_residual-requires g c κs = search rules

pub returns-in_err-sync-clause-format : goal.returns-in_err-sync-clause-format
returns-in_err-sync-clause-format g c = grind arith

pub returns-in_err-sync-clause-whole : goal.returns-in_err-sync-clause-whole
returns-in_err-sync-clause-whole g c = grind arith

pub returns-in_err-sync-clause-program_limit : goal.returns-in_err-sync-clause-program_limit
returns-in_err-sync-clause-program_limit g c = omega arith

pub returns-in_err-sync-clause-faults : goal.returns-in_err-sync-clause-faults
returns-in_err-sync-clause-faults g c = grind arith

pub returns-in_err-sync-clause-call : goal.returns-in_err-sync-clause-call
returns-in_err-sync-clause-call g c = grind arith

pub found-requires-clause-least : goal.found-requires-clause-least
found-requires-clause-least g c = omega arith

pub found-requires-clause-large : goal.found-requires-clause-large
found-requires-clause-large g c = grind arith

pub found-requires-clause-program_limit : goal.found-requires-clause-program_limit
found-requires-clause-program_limit g c = omega arith

pub found-requires-clause-long : goal.found-requires-clause-long
found-requires-clause-long g c = omega arith

pub found-requires-clause-none : goal.found-requires-clause-none
found-requires-clause-none g c = grind arith

pub branch-fault-requires : goal.branch-fault-requires
branch-fault-requires g c κs = search rules

pub from_residual-requires-in_err-fault : goal.from_residual-requires-in_err-fault
from_residual-requires-in_err-fault g c κs = search rules

pub returns-in_err-fault-clause-format : goal.returns-in_err-fault-clause-format
returns-in_err-fault-clause-format g c = grind arith

pub returns-in_err-fault-clause-whole : goal.returns-in_err-fault-clause-whole
returns-in_err-fault-clause-whole g c = grind arith

pub returns-in_err-fault-clause-program_limit : goal.returns-in_err-fault-clause-program_limit
returns-in_err-fault-clause-program_limit g c = omega arith

pub returns-in_err-fault-clause-faults : goal.returns-in_err-fault-clause-faults
returns-in_err-fault-clause-faults g c = grind arith

pub returns-in_err-fault-clause-call : goal.returns-in_err-fault-clause-call
returns-in_err-fault-clause-call g c = grind arith

pub epochs_for-requires : goal.epochs_for-requires
epochs_for-requires g c = omega arith

pub overflow_add-header : goal.overflow_add-header
overflow_add-header g c = grind arith

pub close-requires : goal.close-requires
close-requires g c κs = grind arith

pub next_header-next-requires : goal.next_header-next-requires
next_header-next-requires g c = grind arith

pub checkpoint-requires-clause-least : goal.checkpoint-requires-clause-least
checkpoint-requires-clause-least g c = omega arith

pub checkpoint-requires-clause-long : goal.checkpoint-requires-clause-long
checkpoint-requires-clause-long g c = grind arith

pub checkpoint-requires-clause-count : goal.checkpoint-requires-clause-count
checkpoint-requires-clause-count g c = grind arith

pub checkpoint-requires-clause-storable : goal.checkpoint-requires-clause-storable
checkpoint-requires-clause-storable g c = grind arith

pub checkpoint-requires-clause-tools : goal.checkpoint-requires-clause-tools
checkpoint-requires-clause-tools g c = grind arith

pub branch-checkpoint-requires : goal.branch-checkpoint-requires
branch-checkpoint-requires g c κs = search rules

pub returns-in_err-checkpoint-in-Ok-clause-call : goal.returns-in_err-checkpoint-in-Ok-clause-call
returns-in_err-checkpoint-in-Ok-clause-call g c = grind arith

pub modernize-requires-clause-least : goal.modernize-requires-clause-least
modernize-requires-clause-least g c = omega arith

pub modernize-requires-clause-epoch : goal.modernize-requires-clause-epoch
modernize-requires-clause-epoch g c = grind arith

pub modernize-requires-clause-long : goal.modernize-requires-clause-long
modernize-requires-clause-long g c = grind arith

pub modernize-requires-clause-count : goal.modernize-requires-clause-count
modernize-requires-clause-count g c = grind arith

pub modernize-requires-clause-storable : goal.modernize-requires-clause-storable
modernize-requires-clause-storable g c = grind arith

pub modernize-requires-clause-tools : goal.modernize-requires-clause-tools
modernize-requires-clause-tools g c = omega arith

pub branch-last-requires : goal.branch-last-requires
branch-last-requires g c κs = search rules

pub from_residual-requires-in_err-last-in-Ok : goal.from_residual-requires-in_err-last-in-Ok
from_residual-requires-in_err-last-in-Ok g c κs = search rules

pub returns-in_err-last-in-Ok-clause-format : goal.returns-in_err-last-in-Ok-clause-format
returns-in_err-last-in-Ok-clause-format g c = grind arith

pub returns-in_err-last-in-Ok-clause-whole : goal.returns-in_err-last-in-Ok-clause-whole
returns-in_err-last-in-Ok-clause-whole g c = grind arith

pub returns-in_err-last-in-Ok-clause-faults : goal.returns-in_err-last-in-Ok-clause-faults
returns-in_err-last-in-Ok-clause-faults g c = grind arith

pub returns-in_err-last-in-Ok-clause-call : goal.returns-in_err-last-in-Ok-clause-call
returns-in_err-last-in-Ok-clause-call g c = grind arith

pub returns-in-Err-clause-format : goal.returns-in-Err-clause-format
returns-in-Err-clause-format g c = omega arith

pub returns-in-Err-clause-whole : goal.returns-in-Err-clause-whole
returns-in-Err-clause-whole g c = omega arith

pub returns-in-Err-clause-program_limit : goal.returns-in-Err-clause-program_limit
returns-in-Err-clause-program_limit g c = omega arith

pub returns-in-Err-clause-faults : goal.returns-in-Err-clause-faults
returns-in-Err-clause-faults g c = grind arith

pub returns-in-Err-clause-call : goal.returns-in-Err-clause-call
returns-in-Err-clause-call g c = grind arith

pub returns-in_ok-last-in-Ok-clause-format : goal.returns-in_ok-last-in-Ok-clause-format
returns-in_ok-last-in-Ok-clause-format g c = grind arith

pub returns-in_ok-last-in-Ok-clause-whole : goal.returns-in_ok-last-in-Ok-clause-whole
returns-in_ok-last-in-Ok-clause-whole g c = grind arith

pub returns-in_ok-last-in-Ok-clause-faults : goal.returns-in_ok-last-in-Ok-clause-faults
returns-in_ok-last-in-Ok-clause-faults g c = omega arith

pub returns-in_ok-last-in-Ok-clause-call : goal.returns-in_ok-last-in-Ok-clause-call
returns-in_ok-last-in-Ok-clause-call g c = grind arith
