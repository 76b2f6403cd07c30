use Rattle.std.proofs.Common.{◌∙◌, ◌<◌, ◌≤◌, ◌*◌, length, refl, arith}
use Rattle.ng_rig.specs.Trace.{reads}
use Rattle.ng_layout.specs.Sectors.{program_text}
use Rattle.ng_layout.specs.Areas.{program_size, program_first}
use Rattle.ng_layout.specs.Stands.{stretch}
use Rattle.ng_rig.proofs.GuaranteeLemmas.{promised, onto, meaning}
use Rattle.ng_journal.proofs.LineReadLemmas.{sector_at, length-text}
use Rattle.ng_journal.proofs.FirstKindReadLemmas.{decides_part}
use Rattle.ng_text.proofs.FirstLineLemmas.{known_in, all_in}
use Rattle.ng_journal.proofs.lines_before.read_first_kind.Goals as goal

pub loop-n-init : goal.loop-n-init
loop-n-init g c = record {
  read = promised (refl, λ more. refl);
  size = refl;
  failures = refl;
}

pub returns-in-Some-clause-read : goal.returns-in-Some-clause-read
returns-in-Some-clause-read g c =
    let begun = (g.R.Rig.seen c.args.rig.now).trace in
    let row = stretch (program_first c.args.area) (program_size c.args.area) (reads begun) in
    let few : c.loop-n.n < program_size c.args.area = omega (arith, c.loop-n-test.true, c.div_ceil-n-end.ensures, c.requires.small) in
    onto _ c.loop-n.invariant.read c.in_ok-sector.ensures.read (λ p q. record {
      same = q.same ∙ p.0;
      right = known_in (program_text c.args.place row) _ _ c.in-Some.kind
          (decides_part (program_text c.args.place row) _ c.loop-n.n _ _
          (c.part_of.ensures.part row (sector_at c.args.area c.program_first-first.result c.loop-n.n begun _ _
          c.program_first-first.ensures.is few p.0 q.right)) p.1 c.after_all-seen.ensures)
          c.in-Some.ensures;
    })

pub loop-n-preserved : goal.loop-n-preserved
loop-n-preserved g c =
    let begun = (g.R.Rig.seen c.args.rig.now).trace in
    let row = stretch (program_first c.args.area) (program_size c.args.area) (reads begun) in
    let few : c.loop-n.n < program_size c.args.area = omega (arith, c.loop-n-test.true, c.div_ceil-n-end.ensures, c.requires.small) in
    record {
      read = onto _ c.loop-n.invariant.read c.in_ok-sector.ensures.read (λ p q. (
        q.same ∙ p.0,
        decides_part (program_text c.args.place row) _ c.loop-n.n _ _
            (c.part_of.ensures.part row (sector_at c.args.area c.program_first-first.result c.loop-n.n begun _ _
            c.program_first-first.ensures.is few p.0 q.right)) p.1 c.after_all-seen.ensures,
      ));
      size = c.in_ok-sector.ensures.call.size ∙ c.loop-n.invariant.size;
      failures = c.in_ok-sector.ensures.call.failures ∙ c.loop-n.invariant.failures;
    }

pub returns-clause-read : goal.returns-clause-read
returns-clause-read g c =
    let row = stretch (program_first c.args.area) (program_size c.args.area) (reads (g.R.Rig.seen c.args.rig.now).trace) in
    let all : length (program_text c.args.place row) ≤ 512 * c.loop-n.n =
    omega (arith, c.loop-n-test.false, c.div_ceil-n-end.ensures, length-text c.args.place row) in
    meaning c.loop-n.invariant.read (λ p. record { same = p.0; right = all_in (program_text c.args.place row) _ _ _ all p.1 c.kind.ensures })
