use Rattle.std.proofs.Common.{◌∙◌, ◌<◌, List, drop, refl, ap, arith}
use Rattle.ng_rig.specs.Trace.{reads}
use Rattle.ng_layout.specs.Sectors.{program_text}
use Rattle.ng_layout.specs.Areas.{program_size, program_first}
use Rattle.ng_layout.specs.Stands.{stretch}
use Rattle.ng_rig.proofs.GuaranteeLemmas.{promised, meaning}
use Rattle.ng_journal.proofs.LineReadLemmas.{end_some, end_none, short_line, long_line, last_line, no_line, length-text}
use Rattle.ng_journal.proofs.line.read_line.Goals.{then-end-le-LINE_HEAD, else-end-le-LINE_HEAD}
use Rattle.ng_journal.proofs.line.read_line.Goals as goal

pub returns-then-place-program_end-clause-read : goal.returns-then-place-program_end-clause-read
returns-then-place-program_end-clause-read g c =
    let program : List _ =
    program_text c.args.program_end
    (stretch (program_first c.args.area) (program_size c.args.area) (reads (g.R.Rig.seen c.args.rig.now).trace))
    in
    promised (record { same = refl; right = no_line program c.args.place c.args.program_end (length-text c.args.program_end _) c.if-place-program_end.true })

pub returns-after-end-le-LINE_HEAD-clause-read : goal.returns-after-end-le-LINE_HEAD-clause-read
returns-after-end-le-LINE_HEAD-clause-read g c =
    let program : List _ =
    program_text c.args.program_end
    (stretch (program_first c.args.area) (program_size c.args.area) (reads (g.R.Rig.seen c.args.rig.now).trace))
    in
    meaning c.in_ok-end.ensures.read (λ p.
    let e = end_some (drop c.args.place program) _ c.in_ok-end.field-0 c.in-Some.end c.in-Some.is p.right in
    record {
      same = p.same;
      right = elim c.if-end-le-LINE_HEAD.branch [
        | then-end-le-LINE_HEAD w ↦ short_line program _ _ c.args.place c.in-Some.end e w.if-end-le-LINE_HEAD.true
            (ap (λ v. v.items) w.text-is ∙ w.drop_return.ensures)
        | else-end-le-LINE_HEAD w ↦ long_line program _ _ c.args.place c.in-Some.end e w.if-end-le-LINE_HEAD.false (ap (λ v. v.items) w.text-is)
      ];
    })

pub returns-in-None-clause-read : goal.returns-in-None-clause-read
returns-in-None-clause-read g c =
    let program : List _ =
    program_text c.args.program_end
    (stretch (program_first c.args.area) (program_size c.args.area) (reads (g.R.Rig.seen c.args.rig.now).trace))
    in
    let before : c.args.place < c.args.program_end = omega (arith, c.requires.place, c.if-place-program_end.false) in
    meaning c.in_ok-end.ensures.read (λ p. record {
      same = p.same;
      right = last_line program _ c.args.place c.args.program_end (length-text c.args.program_end _) before
          (end_none (drop c.args.place program) _ c.in_ok-end.field-0 c.in-None.is p.right);
    })
