use Rattle.std.proofs.Common.{◌≡◌, ◌≤◌, ◌++◌, ℕ, List, [], Some, IfSome}
use Rattle.ng_rig.specs.Memory.{sector_count, trace_of}
use Rattle.ng_rig.specs.Trace.{reads}
use Rattle.ng_file.specs.Copying.{reading}
use Rattle.ng_file.proofs.copying.copied.Given as goal

abbrev pub invariant-loop : goal.invariant-loop
invariant-loop g l = record {
  stays : g.S.Storage.content l.file ≡ g.S.Storage.content l.fn.file;
  gives : IfSome (g.S.Storage.gave l.fn.file) (λ before. (earlier : List (ℕ × List ℕ)) × (g.S.Storage.gave l.file ≡ Some (before ++ (earlier ++ reading l.sectors (reads (trace_of l.copy))))));
  size : sector_count l.copy ≡ l.sectors;
  past : (n : ℕ) → l.sectors ≤ n → reads (trace_of l.copy) n ≡ [];
}
