use Rattle.std.proofs.Common.{◌≡◌, ◌∙◌, sym, ap, subst, arith, rules}
use Rattle.ng_rig.specs.Trace.{Trace, reads}
use Rattle.ng_rig.proofs.GuaranteeLemmas.{onto, meaning}
use Rattle.ng_layout.specs.Header.{program_limit_of}
use Rattle.ng_rig.specs.Calls.{IfHonest}
use Rattle.ng_layout.specs.Stands.{in_force, is_large}
use Rattle.ng_log.specs.Reading.{IsRunOf}
use Rattle.ng_journal.specs.Private.SnapshotRead.{IsSnapshotOf}
use Rattle.ng_journal.proofs.FoundStateLemmas.{none_found, damage_found, Snapped, snapped, log_damaged, all_found}
use Rattle.ng_journal.proofs.recovery.found.Goals as goal

pub returns-in-None-clause-read : goal.returns-in-None-clause-read
returns-in-None-clause-read g c = meaning c.in_ok-header_in_force.ensures.read
    (λ p. record { same = p.same; right = none_found _ c.in_ok-header_in_force.field-0 p.right c.in-None.is })

pub returns-then-not-is_whole-clause-read : goal.returns-then-not-is_whole-clause-read
returns-then-not-is_whole-clause-read g c =
    let old = (g.R.Rig.seen c.args.rig.now).trace in
    let header = c.in-Some.header in
    let whole = c.in_ok-is_whole-in-Some.is_whole in
    let snap = c.read_snapshot.new.stored in
    onto _ c.in_ok-header_in_force.ensures.read c.in_ok-is_whole-in-Some.ensures.read (λ p q.
    let here = subst (λ (l : Trace). IsSnapshotOf header snap (reads l) whole) p.same q.right in
    record {
      same = q.same ∙ p.same;
      right = damage_found (reads old) c.in_ok-header_in_force.field-0 header whole
          snap p.right c.in-Some.is here c.if-not-is_whole.true;
    })

pub returns-in-None-2-clause-read : goal.returns-in-None-2-clause-read
returns-in-None-2-clause-read g c =
    let old = (g.R.Rig.seen c.args.rig.now).trace in
    let header = c.in-Some.header in
    let whole = c.in_ok-is_whole-in-Some.is_whole in
    let snap = c.read_snapshot.new.stored in
    let saved = c.read_log.new.stored in
    let answer = c.in_ok-read_log-in-Some.field-0 in
    let Heads = ((g.R.Rig.seen c.read_snapshot.new.rig).trace ≡ old) × Snapped (reads old) header snap in
    let heads = onto Heads c.in_ok-header_in_force.ensures.read c.in_ok-is_whole-in-Some.ensures.read (λ p q.
    let here = subst (λ (l : Trace). IsSnapshotOf header snap (reads l) whole) p.same q.right in
    (q.same ∙ p.same, snapped (reads old) c.in_ok-header_in_force.field-0 header whole snap p.right c.in-Some.is here c.if-not-is_whole.false)) in
    onto _ heads c.in_ok-read_log-in-Some.ensures.read (λ p r.
    let run = subst (λ (l : Trace). IsRunOf header snap saved (reads l) answer) p.0 r.right in
    record { same = r.same ∙ p.0; right = log_damaged (reads old) header snap saved answer p.1 c.in-None-2.is run })

pub returns-in-Some-2-clause-read : goal.returns-in-Some-2-clause-read
returns-in-Some-2-clause-read g c =
    let old = (g.R.Rig.seen c.args.rig.now).trace in
    let header = c.in-Some.header in
    let whole = c.in_ok-is_whole-in-Some.is_whole in
    let snap = c.read_snapshot.new.stored in
    let saved = c.read_log.new.stored in
    let answer = c.in_ok-read_log-in-Some.field-0 in
    let room = rw c.in-Some-2.is at c.in_ok-read_log-in-Some.ensures.room in
    let stays = c.in_ok-read_log-in-Some.ensures.program_limit ∙ c.in_ok-is_whole-in-Some.ensures.program_limit ∙ c.requires.program_limit in
    let force = c.in_ok-header_in_force.ensures.read in
    let Known = ((g.R.Rig.seen c.header_in_force.new.rig).trace ≡ old)
    × (c.in_ok-header_in_force.field-0 ≡ in_force (reads old)) × (is_large (reads old) ≡ c.args.large) in
    let known : IfHonest (g.R.Rig.seen c.args.rig.now) (g.R.Rig.seen c.header_in_force.new.rig) Known =
    record {
      keeps = force.keeps;
      back = force.back;
      holds = λ h.
          ((force.holds h).same, (force.holds h).right, c.requires.large h);
    } in
    let Heads = ((g.R.Rig.seen c.read_snapshot.new.rig).trace ≡ old) × Snapped (reads old) header snap × (is_large (reads old) ≡ c.args.large) in
    let heads = onto Heads known c.in_ok-is_whole-in-Some.ensures.read (λ p q.
    let here = subst (λ (l : Trace). IsSnapshotOf header snap (reads l) whole) p.0 q.right in
    (q.same ∙ p.0, snapped (reads old) c.in_ok-header_in_force.field-0 header whole snap p.1 c.in-Some.is here c.if-not-is_whole.false, p.2)) in
    onto _ heads c.in_ok-read_log-in-Some.ensures.read (λ p r.
    let run = subst (λ (l : Trace). IsRunOf header snap saved (reads l) answer) p.0 r.right in
    record {
      same = r.same ∙ p.0;
      right = all_found (reads old) header snap saved answer c.in-Some-2.field-0 p.1
          c.in-Some-2.is room run (stays ∙ ap program_limit_of (sym p.2));
    })

pub header_in_force-requires-clause-sectors : goal.header_in_force-requires-clause-sectors
header_in_force-requires-clause-sectors g c = omega arith

pub header_in_force-requires-clause-large : goal.header_in_force-requires-clause-large
header_in_force-requires-clause-large g c = grind arith

pub branch-header_in_force-requires : goal.branch-header_in_force-requires
branch-header_in_force-requires g c κs = search rules

pub from_residual-requires : goal.from_residual-requires
from_residual-requires g c κs = search rules

pub returns-in_err-header_in_force-clause-none : goal.returns-in_err-header_in_force-clause-none
returns-in_err-header_in_force-clause-none g c = grind arith

pub returns-in_err-header_in_force-clause-read : goal.returns-in_err-header_in_force-clause-read
returns-in_err-header_in_force-clause-read g c = grind arith

pub returns-in_err-header_in_force-clause-whole : goal.returns-in_err-header_in_force-clause-whole
returns-in_err-header_in_force-clause-whole g c = grind arith

pub returns-in_err-header_in_force-clause-call : goal.returns-in_err-header_in_force-clause-call
returns-in_err-header_in_force-clause-call g c = grind arith

pub read_snapshot-requires-clause-least : goal.read_snapshot-requires-clause-least
read_snapshot-requires-clause-least g c = omega arith

pub read_snapshot-requires-clause-program : goal.read_snapshot-requires-clause-program
read_snapshot-requires-clause-program g c = grind arith

pub read_snapshot-requires-clause-most : goal.read_snapshot-requires-clause-most
read_snapshot-requires-clause-most g c = grind arith

pub read_snapshot-requires-clause-long : goal.read_snapshot-requires-clause-long
read_snapshot-requires-clause-long g c = omega arith

pub read_snapshot-requires-clause-none : goal.read_snapshot-requires-clause-none
read_snapshot-requires-clause-none g c = grind arith

pub branch-is_whole-requires : goal.branch-is_whole-requires
branch-is_whole-requires g c κs = search rules

pub returns-in_err-is_whole-in-Some-clause-none : goal.returns-in_err-is_whole-in-Some-clause-none
returns-in_err-is_whole-in-Some-clause-none g c = grind arith

pub returns-in_err-is_whole-in-Some-clause-read : goal.returns-in_err-is_whole-in-Some-clause-read
returns-in_err-is_whole-in-Some-clause-read g c = grind arith

pub returns-in_err-is_whole-in-Some-clause-call : goal.returns-in_err-is_whole-in-Some-clause-call
returns-in_err-is_whole-in-Some-clause-call g c = grind arith

pub returns-then-not-is_whole-clause-none : goal.returns-then-not-is_whole-clause-none
returns-then-not-is_whole-clause-none g c = omega arith

pub returns-then-not-is_whole-clause-whole : goal.returns-then-not-is_whole-clause-whole
returns-then-not-is_whole-clause-whole g c = omega arith

pub returns-then-not-is_whole-clause-faults : goal.returns-then-not-is_whole-clause-faults
returns-then-not-is_whole-clause-faults g c = grind arith

pub returns-then-not-is_whole-clause-call : goal.returns-then-not-is_whole-clause-call
returns-then-not-is_whole-clause-call g c = grind arith

pub read_log-requires-clause-sectors : goal.read_log-requires-clause-sectors
read_log-requires-clause-sectors g c = omega arith

pub read_log-requires-clause-storable : goal.read_log-requires-clause-storable
read_log-requires-clause-storable g c = grind arith

pub read_log-requires-clause-count : goal.read_log-requires-clause-count
read_log-requires-clause-count g c = grind arith

pub read_log-requires-clause-long : goal.read_log-requires-clause-long
read_log-requires-clause-long g c = grind arith

pub branch-read_log-requires : goal.branch-read_log-requires
branch-read_log-requires g c κs = search rules

pub returns-in_err-read_log-in-Some-clause-none : goal.returns-in_err-read_log-in-Some-clause-none
returns-in_err-read_log-in-Some-clause-none g c = grind arith

pub returns-in_err-read_log-in-Some-clause-read : goal.returns-in_err-read_log-in-Some-clause-read
returns-in_err-read_log-in-Some-clause-read g c = grind arith

pub returns-in_err-read_log-in-Some-clause-call : goal.returns-in_err-read_log-in-Some-clause-call
returns-in_err-read_log-in-Some-clause-call g c = grind arith

pub returns-in-None-clause-none : goal.returns-in-None-clause-none
returns-in-None-clause-none g c = omega arith

pub returns-in-None-clause-whole : goal.returns-in-None-clause-whole
returns-in-None-clause-whole g c = omega arith

pub returns-in-None-clause-program_limit : goal.returns-in-None-clause-program_limit
returns-in-None-clause-program_limit g c = omega arith

pub returns-in-None-clause-faults : goal.returns-in-None-clause-faults
returns-in-None-clause-faults g c = grind arith

pub returns-in-None-clause-call : goal.returns-in-None-clause-call
returns-in-None-clause-call g c = grind arith

pub returns-in-None-2-clause-none : goal.returns-in-None-2-clause-none
returns-in-None-2-clause-none g c = omega arith

pub returns-in-None-2-clause-whole : goal.returns-in-None-2-clause-whole
returns-in-None-2-clause-whole g c = omega arith

pub returns-in-None-2-clause-program_limit : goal.returns-in-None-2-clause-program_limit
returns-in-None-2-clause-program_limit g c = omega arith

pub returns-in-None-2-clause-faults : goal.returns-in-None-2-clause-faults
returns-in-None-2-clause-faults g c = grind arith

pub returns-in-None-2-clause-call : goal.returns-in-None-2-clause-call
returns-in-None-2-clause-call g c = grind arith

pub returns-in-Some-2-clause-none : goal.returns-in-Some-2-clause-none
returns-in-Some-2-clause-none g c = grind arith

pub returns-in-Some-2-clause-whole : goal.returns-in-Some-2-clause-whole
returns-in-Some-2-clause-whole g c = grind arith

pub returns-in-Some-2-clause-program_limit : goal.returns-in-Some-2-clause-program_limit
returns-in-Some-2-clause-program_limit g c = omega arith

pub returns-in-Some-2-clause-faults : goal.returns-in-Some-2-clause-faults
returns-in-Some-2-clause-faults g c = omega arith

pub returns-in-Some-2-clause-call : goal.returns-in-Some-2-clause-call
returns-in-Some-2-clause-call g c = grind arith
