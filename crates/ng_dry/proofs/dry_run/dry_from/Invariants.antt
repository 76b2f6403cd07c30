use Rattle.std.proofs.Common.{ℕ, List, ◌+◌, ◌*◌, ◌≤◌, ◌++◌}
use Rattle.std.specs.Io.KnownBytes.{Consumes}
use Rattle.ng_dry.specs.Dry.{output_from}
use Rattle.ng_dry.specs.Private.Parts.{Goes, rest_of}
use Rattle.ng_text.specs.Split.{HasNoNewline}
use Rattle.ng_dry.proofs.dry_run.dry_from.Given as goal

abbrev pub invariant-loop-pass : goal.invariant-loop-pass
invariant-loop-pass g l =
    ((before : List ℕ) × Consumes (g.R.Read.remaining l.fn.reader) (g.R.Read.remaining l.reader) before
    × Goes (g.W.Write.contents l.fn.writer) (g.W.Write.contents l.writer)
    (λ more. output_from (record {
      block_delete = l.fn.block_delete;
      tools = l.fn.tools;
      geometry =
          l.fn.geometry;
    }) l.fn.state (before ++ more)) (λ more. rest_of l.splitter.run l.splitter.partial.items more))
    × HasNoNewline l.splitter.partial.items
    × (l.splitter.run.number ≤ 1 + 8192 * l.pass)
