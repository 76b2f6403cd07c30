use Rattle.std.proofs.Common.{◌≡◌, ◌≤◌, ◌<◌, ◌++◌, ℕ, false, Some, IfSome}
use Rattle.ng_rig.specs.Memory.{sector_count, trace_of}
use Rattle.ng_rig.specs.Trace.{reads}
use Rattle.ng_file.specs.Bytes.{sector_of}
use Rattle.ng_file.specs.Copying.{reading}
use Rattle.ng_file.proofs.copying.copy_changes.Given as goal

abbrev pub invariant-loop-sector : goal.invariant-loop-sector
invariant-loop-sector g l = record {
  same : IfSome (g.S.Storage.content l.fn.file) (λ held. (n : ℕ) → n < l.sector → reads (trace_of l.copy) n ≡ sector_of n held);
  gives : IfSome (g.S.Storage.gave l.fn.file) (λ before. g.S.Storage.gave l.file ≡ Some (before ++ reading l.sector (reads (trace_of l.copy))));
  equal : l.differs ≡ false → (n : ℕ) → n < l.sector → reads (trace_of l.copy) n ≡ reads (trace_of l.fn.copy) n;
  past : (n : ℕ) → l.sector ≤ n → reads (trace_of l.copy) n ≡ reads (trace_of l.fn.copy) n;
  size : sector_count l.copy ≡ sector_count l.fn.copy;
  stays : g.S.Storage.content l.file ≡ g.S.Storage.content l.fn.file;
}
