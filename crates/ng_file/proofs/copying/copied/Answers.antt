use Rattle.std.proofs.Common.{◌∙◌, ◌≤◌, ◌<◌, ℕ, sym, subst}
use Rattle.ng_rig.specs.Memory.{sector_count, trace_of}
use Rattle.ng_rig.specs.Trace.{reads}
use Rattle.ng_file.proofs.ReadingLemmas.{gives_again, gives_twice}
use Rattle.ng_file.proofs.copying.copied.Goals as goal

pub returns-then-not-branch-clause-twice : goal.returns-then-not-branch-clause-twice
returns-then-not-branch-clause-twice g c =
    let gave = g.S.Storage.gave in
    let read = c.in_ok-copy_changes-2.ensures in
    gives_twice c.copy_changes-in-loop.new.copy c.in_ok-sectors.sectors (gave c.args.file.now) (gave c.loop.file) (gave c.copy_changes-in-loop.new.file)
    (reads (trace_of c.loop.copy)) (read.size ∙ c.loop.invariant.size)
    (λ m lt. read.equal c.if-not-branch.true m (subst (λ (k : ℕ). m < k) (sym c.loop.invariant.size) lt))
    c.loop.invariant.gives read.gives

pub loop-preserved : goal.loop-preserved
loop-preserved g c =
    let gave = g.S.Storage.gave in
    let read = c.in_ok-copy_changes-2.ensures in
    let size = read.size ∙ c.loop.invariant.size in
    record {
      stays = read.stays ∙ c.loop.invariant.stays;
      gives = gives_again c.in_ok-sectors.sectors (sector_count c.copy_changes-in-loop.new.copy) (gave c.args.file.now) (gave c.loop.file)
          (gave c.copy_changes-in-loop.new.file) (reads (trace_of c.loop.copy)) (reads (trace_of c.copy_changes-in-loop.new.copy)) size
          c.loop.invariant.gives read.gives;
      size = size;
      past = λ n le. read.past n (subst (λ (k : ℕ). k ≤ n) (sym c.loop.invariant.size) le) ∙ c.loop.invariant.past n le;
    }
