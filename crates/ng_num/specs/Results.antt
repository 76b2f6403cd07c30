-- A result computed step by step, or the fault of the first step that fails.
use Rattle.std.specs.Prelude.{Result, Ok, Err}
use Rattle.ng_num.specs.declared.fault.Fault.{Fault}

-- what is computed from a value, if there is one; otherwise its fault
abbrev pub and_then : {X Y : Type 0} → Result X Fault → (X → Result Y Fault) → Result Y Fault
and_then (Ok x) f = f x
and_then (Err fault) f = Err fault
