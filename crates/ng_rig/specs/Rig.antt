-- A device as contracts see it (own).
use Rattle.std.specs.Prelude.{ℕ}
use Rattle.ng_rig.specs.Trace.{Trace}

pub record Device : Type 1 where
  -- the writes, syncs and hand-outs so far
  pub trace : Trace
  -- where it does what it promises about reads and stops
  pub honest : Type 0
  -- its number of sectors
  pub sectors : ℕ
  -- how often a call has failed, modulo 2 ^ 64
  pub failed : ℕ
