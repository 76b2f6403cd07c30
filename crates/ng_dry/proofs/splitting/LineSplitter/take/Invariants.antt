use Rattle.std.proofs.Common.{◌+◌, ◌≤◌, ◌++◌, length}
use Rattle.ng_dry.specs.Private.Parts.{Goes, rest_of}
use Rattle.ng_text.specs.Split.{HasNoNewline}
use Rattle.ng_dry.proofs.splitting.LineSplitter.take.Given as goal

abbrev pub invariant-loop-line : goal.invariant-loop-line
invariant-loop-line g l = record {
  goes : Goes (g.W.Write.contents l.fn.writer) (g.W.Write.contents l.writer)
      (λ more. rest_of l.fn.self.run l.fn.self.partial.items (l.fn.bytes ++ more))
      (λ more. rest_of l.self.run l.self.partial.items (l.left ++ more));
  partial : HasNoNewline l.self.partial.items;
  number : l.self.run.number + length l.left ≤ l.fn.self.run.number + length l.fn.bytes;
}

abbrev pub decreases-loop-line : goal.decreases-loop-line
decreases-loop-line g l = length l.left
