use Rattle.std.proofs.Common.{◌∙◌, arith}
use Rattle.ng_rig.specs.Memory.{trace_of}
use Rattle.ng_rig.specs.Trace.{reads}
use Rattle.ng_file.proofs.ReadingLemmas.{equal_more, gives_more, same_more}
use Rattle.ng_file.proofs.copying.copy_changes.Goals as goal
use Rattle.ng_file.proofs.copying.copy_changes.Goals.{then-branch, else-branch}

pub loop-sector-preserved : goal.loop-sector-preserved
loop-sector-preserved g c =
    let n = c.loop-sector.sector in
    let one = reads (trace_of c.loop-sector.copy) in
    let now = reads (trace_of c.copy_sector.new.copy) in
    let gave = g.S.Storage.gave in
    let read = c.in_ok-copy_sector.ensures in
    let was = c.loop-sector.invariant in
    record {
      same = same_more n (g.S.Storage.content c.args.file.now) (g.S.Storage.content c.loop-sector.file) now one was.stays read.others was.same read.same;
      gives = gives_more n (gave c.args.file.now) (gave c.loop-sector.file) (gave c.copy_sector.new.file) one now
          (λ m lt. read.others m (λ e. omega arith)) was.gives read.gives;
      equal = λ unchanged. elim c.if-branch.branch [
        | then-branch w ↦ absurd (cc (unchanged, w.differs-is))
        | else-branch w ↦ equal_more n now one (reads (trace_of c.args.copy.now)) read.others (was.equal (cc (unchanged, w.differs-is))) was.past (read.equal w.if-branch.false)
      ];
      past = λ m le. read.others m (λ e. omega arith) ∙ was.past m (omega arith);
      size = read.size ∙ was.size;
      stays = read.stays ∙ was.stays;
    }
