use Rattle.std.proofs.Common.{◌∙◌, ◌<◌, ◌≤◌, ◌-◌, ◌*◌, length, drop, arith}
use Rattle.std.proofs.Common.{length-drop}
use Rattle.ng_rig.specs.Trace.{reads}
use Rattle.ng_layout.specs.Sectors.{program_text}
use Rattle.ng_layout.specs.Areas.{program_size, program_first}
use Rattle.ng_layout.specs.Stands.{stretch}
use Rattle.ng_rig.proofs.GuaranteeLemmas.{onto, meaning}
use Rattle.ng_journal.proofs.LineReadLemmas.{sector_at, part_in_head, end_found, all_in_head, length-text}
use Rattle.ng_journal.proofs.line.find_end.Goals as goal

pub returns-in-Some-clause-read : goal.returns-in-Some-clause-read
returns-in-Some-clause-read g c =
    let begun = (g.R.Rig.seen c.args.rig.now).trace in
    let row = stretch (program_first c.args.area) (program_size c.args.area) (reads begun) in
    let few : c.loop-n.n < program_size c.args.area = omega (arith, c.loop-n-test.true, c.div_ceil-n-end.ensures, c.requires.small) in
    onto _ c.loop-n.invariant.read c.in_ok-sector.ensures.read (λ p q. record {
      same = q.same ∙ p.0;
      right = rw c.saturating_sub.ensures (end_found (program_text c.args.program_end row) _ _ c.args.place c.loop-n.n c.in-Some.end _
          (c.part_of.ensures.part row (sector_at c.args.area c.program_first-first.result c.loop-n.n begun _ _
          c.program_first-first.ensures.is few p.0 q.right)) p.1 c.in-Some.ensures.taken);
    })

pub loop-n-preserved : goal.loop-n-preserved
loop-n-preserved g c =
    let begun = (g.R.Rig.seen c.args.rig.now).trace in
    let row = stretch (program_first c.args.area) (program_size c.args.area) (reads begun) in
    let few : c.loop-n.n < program_size c.args.area = omega (arith, c.loop-n-test.true, c.div_ceil-n-end.ensures, c.requires.small) in
    record {
      read = onto _ c.loop-n.invariant.read c.in_ok-sector.ensures.read (λ p q. (
        q.same ∙ p.0,
        part_in_head (program_text c.args.program_end row) _ _ c.args.place c.loop-n.n _
            (c.part_of.ensures.part row (sector_at c.args.area c.program_first-first.result c.loop-n.n begun _ _
            c.program_first-first.ensures.is few p.0 q.right)) p.1 c.in-None.ensures.taken,
      ));
      size = c.in_ok-sector.ensures.call.size ∙ c.loop-n.invariant.size;
      failures = c.in_ok-sector.ensures.call.failures ∙ c.loop-n.invariant.failures;
    }

pub returns-clause-read : goal.returns-clause-read
returns-clause-read g c =
    let row = stretch (program_first c.args.area) (program_size c.args.area) (reads (g.R.Rig.seen c.args.rig.now).trace) in
    let rest = drop c.args.place (program_text c.args.program_end row) in
    let all : length rest ≤ 512 * c.loop-n.n - c.args.place =
    omega (
      arith,
      c.loop-n-test.false,
      c.div_ceil-n-end.ensures,
      length-drop c.args.place (program_text c.args.program_end row),
      length-text c.args.program_end row,
    ) in
    meaning c.loop-n.invariant.read (λ p. record { same = p.0; right = all_in_head rest _ _ all p.1 })
