use Rattle.std.proofs.Common.{◌≡◌, ◌≤◌, ◌∙◌, Some, sym, subst, arith, rules}
use Rattle.ng_rig.proofs.GuaranteeLemmas.{onto, meaning}
use Rattle.ng_rig.specs.Trace.{reads}
use Rattle.ng_layout.specs.Areas.{log_size_of}
use Rattle.ng_layout.specs.declared.header.Format.TheVariants.{One}
use Rattle.ng_layout.specs.Storable.{IsStorable}
use Rattle.ng_log.specs.declared.scanning.Next.TheVariants.{Last, Damaged, After}
use Rattle.ng_layout.specs.Stored.{StoredModel}
use Rattle.ng_log.specs.Reading.{IsRunOf}
use Rattle.ng_log.specs.AtEnd.{position_of}
use Rattle.ng_log.specs.Runs.{log_of}
use Rattle.ng_log.proofs.NextRecordLemmas.{none_at_end, runs_damaged, runs_more, runs_end, next_is, on_is, goes_on}
use Rattle.ng_log.proofs.scanning.read_log.Goals as goal

pub returns-in-Damaged-clause-read : goal.returns-in-Damaged-clause-read
returns-in-Damaged-clause-read g c =
    let old = (g.R.Rig.seen c.args.rig.now).trace in
    let h = c.args.header in
    onto _ c.records.invariant.run c.in_ok-next_record.ensures.read (λ p q. record {
      same = q.same ∙ p.0;
      right = runs_damaged h.format h.length (log_of h (reads old)) h.epoch _ _ p.1
          (next_is h c.records.reached c.records.stored c.next_record.new.stored old _ c.in_ok-next_record.field-0
          Damaged p.0 c.in-Damaged.is q.right);
    })

pub records-preserved : goal.records-preserved
records-preserved g c =
    let old = (g.R.Rig.seen c.args.rig.now).trace in
    let h = c.args.header in
    let inv = c.records.invariant in
    let e = c.in_ok-next_record.ensures in
    let after = c.in-After.end in
    let f = on_is h c.records.reached c.in_ok-next_record.field-0 (After after) c.in-After.is e.on in
    let on = f.on in
    let counter = inv.on in
    record {
      room = f.room;
      on = omega arith;
      number = f.number;
      storable = goes_on c.in_ok-next_record.field-0 after (IsStorable c.next_record.new.stored) c.in-After.is e.storable;
      count = goes_on c.in_ok-next_record.field-0 after (c.next_record.new.stored.entries ≤ 1_000_000_000_000) c.in-After.is e.count;
      long = goes_on c.in_ok-next_record.field-0 after (c.next_record.new.stored.length ≡ h.length) c.in-After.is e.long;
      program_limit = e.program_limit ∙ inv.program_limit;
      none = λ one. goes_on c.in_ok-next_record.field-0 after
          (h.format ≡ One → c.next_record.new.stored.tools ≡ c.records.stored.tools) c.in-After.is e.none one
          ∙ inv.none one;
      run = onto _ inv.run e.read (λ p q. (
        q.same ∙ p.0,
        runs_more h.format h.length (log_of h (reads old)) h.epoch _ _ (position_of after c.next_record.new.stored)
            p.1 (next_is h c.records.reached c.records.stored c.next_record.new.stored old _
            c.in_ok-next_record.field-0 (After after) p.0 c.in-After.is q.right).0,
      ));
      size = e.call.size ∙ inv.size;
      failures = e.call.failures ∙ inv.failures;
    }

pub returns-in-Last-clause-read : goal.returns-in-Last-clause-read
returns-in-Last-clause-read g c =
    let old = (g.R.Rig.seen c.args.rig.now).trace in
    let h = c.args.header in
    onto _ c.records.invariant.run c.in_ok-next_record.ensures.read (λ p q.
    let n = next_is h c.records.reached c.records.stored c.next_record.new.stored old _ c.in_ok-next_record.field-0 Last p.0 c.in-Last.is q.right in
    record {
      same = q.same ∙ p.0;
      right = subst (λ (s : StoredModel). IsRunOf h c.args.stored.now s (reads old) (Some c.records.reached))
          (sym n.1) (
            runs_end h.format h.length (log_of h (reads old)) h.epoch _ _ p.1 n.0,
            c.records.invariant.long,
          );
    })

pub returns-clause-read : goal.returns-clause-read
returns-clause-read g c =
    let old = (g.R.Rig.seen c.args.rig.now).trace in
    let h = c.args.header in
    let inv = c.records.invariant in
    let room = inv.room in
    let counter = inv.on in
    let bound = c.log_size-end.ensures.value in
    let last : c.records.reached.sector ≡ log_size_of h = omega arith in
    meaning inv.run (λ p.
    record {
      same = p.0;
      right = (
        runs_end h.format h.length (log_of h (reads old)) h.epoch _ _ p.1
            (none_at_end h c.records.reached c.records.stored (reads old) last),
        inv.long,
      );
    })

pub log_size-end-requires : goal.log_size-end-requires
log_size-end-requires g c = omega arith

pub records-init : goal.records-init
records-init g c = grind arith

pub next_record-requires-clause-sectors : goal.next_record-requires-clause-sectors
next_record-requires-clause-sectors g c = omega arith

pub next_record-requires-clause-room : goal.next_record-requires-clause-room
next_record-requires-clause-room g c = omega arith

pub next_record-requires-clause-number : goal.next_record-requires-clause-number
next_record-requires-clause-number g c = omega arith

pub next_record-requires-clause-storable : goal.next_record-requires-clause-storable
next_record-requires-clause-storable g c = grind arith

pub next_record-requires-clause-count : goal.next_record-requires-clause-count
next_record-requires-clause-count g c = omega arith

pub next_record-requires-clause-long : goal.next_record-requires-clause-long
next_record-requires-clause-long g c = omega arith

pub branch-next_record-requires : goal.branch-next_record-requires
branch-next_record-requires g c κs = search rules

pub from_residual-requires : goal.from_residual-requires
from_residual-requires g c κs = search rules

pub returns-in_err-next_record-clause-read : goal.returns-in_err-next_record-clause-read
returns-in_err-next_record-clause-read g c = grind arith

pub returns-in_err-next_record-clause-room : goal.returns-in_err-next_record-clause-room
returns-in_err-next_record-clause-room g c = grind arith

pub returns-in_err-next_record-clause-number : goal.returns-in_err-next_record-clause-number
returns-in_err-next_record-clause-number g c = grind arith

pub returns-in_err-next_record-clause-storable : goal.returns-in_err-next_record-clause-storable
returns-in_err-next_record-clause-storable g c = grind arith

pub returns-in_err-next_record-clause-count : goal.returns-in_err-next_record-clause-count
returns-in_err-next_record-clause-count g c = grind arith

pub returns-in_err-next_record-clause-long : goal.returns-in_err-next_record-clause-long
returns-in_err-next_record-clause-long g c = grind arith

pub returns-in_err-next_record-clause-none : goal.returns-in_err-next_record-clause-none
returns-in_err-next_record-clause-none g c = grind arith

pub returns-in_err-next_record-clause-call : goal.returns-in_err-next_record-clause-call
returns-in_err-next_record-clause-call g c = grind arith

pub returns-in-Last-clause-room : goal.returns-in-Last-clause-room
returns-in-Last-clause-room g c = omega arith

pub returns-in-Last-clause-number : goal.returns-in-Last-clause-number
returns-in-Last-clause-number g c = omega arith

pub returns-in-Last-clause-storable : goal.returns-in-Last-clause-storable
returns-in-Last-clause-storable g c = grind arith

pub returns-in-Last-clause-count : goal.returns-in-Last-clause-count
returns-in-Last-clause-count g c = grind arith

pub returns-in-Last-clause-long : goal.returns-in-Last-clause-long
returns-in-Last-clause-long g c = grind arith

pub returns-in-Last-clause-none : goal.returns-in-Last-clause-none
returns-in-Last-clause-none g c = grind arith

pub returns-in-Last-clause-program_limit : goal.returns-in-Last-clause-program_limit
returns-in-Last-clause-program_limit g c = omega arith

pub returns-in-Last-clause-call : goal.returns-in-Last-clause-call
returns-in-Last-clause-call g c = grind arith

pub returns-in-Damaged-clause-room : goal.returns-in-Damaged-clause-room
returns-in-Damaged-clause-room g c = omega arith

pub returns-in-Damaged-clause-number : goal.returns-in-Damaged-clause-number
returns-in-Damaged-clause-number g c = omega arith

pub returns-in-Damaged-clause-storable : goal.returns-in-Damaged-clause-storable
returns-in-Damaged-clause-storable g c = omega arith

pub returns-in-Damaged-clause-count : goal.returns-in-Damaged-clause-count
returns-in-Damaged-clause-count g c = omega arith

pub returns-in-Damaged-clause-long : goal.returns-in-Damaged-clause-long
returns-in-Damaged-clause-long g c = omega arith

pub returns-in-Damaged-clause-none : goal.returns-in-Damaged-clause-none
returns-in-Damaged-clause-none g c = omega arith

pub returns-in-Damaged-clause-program_limit : goal.returns-in-Damaged-clause-program_limit
returns-in-Damaged-clause-program_limit g c = omega arith

pub returns-in-Damaged-clause-call : goal.returns-in-Damaged-clause-call
returns-in-Damaged-clause-call g c = grind arith

pub records-smaller : goal.records-smaller
records-smaller g c = omega arith

pub returns-clause-room : goal.returns-clause-room
returns-clause-room g c = omega arith

pub returns-clause-number : goal.returns-clause-number
returns-clause-number g c = omega arith

pub returns-clause-storable : goal.returns-clause-storable
returns-clause-storable g c = grind arith

pub returns-clause-count : goal.returns-clause-count
returns-clause-count g c = omega arith

pub returns-clause-long : goal.returns-clause-long
returns-clause-long g c = omega arith

pub returns-clause-none : goal.returns-clause-none
returns-clause-none g c = grind arith

pub returns-clause-program_limit : goal.returns-clause-program_limit
returns-clause-program_limit g c = omega arith

pub returns-clause-call : goal.returns-clause-call
returns-clause-call g c = omega arith
