-- The outputs before anything was switched (NISTIR 6556, 3.6: M5, M9; own).
use Rattle.std.specs.Prelude.{pos, false}
use Rattle.ng_canon.specs.declared.outputs.Outputs.{Outputs}
use Rattle.ng_canon.specs.declared.outputs.Spindle.TheVariants.{Stopped}

abbrev pub fresh_outputs : Outputs
fresh_outputs = record { spindle = Stopped; speed = pos 0; mist = false; flood = false; selected_slot = 0; spindle_slot = 0 }
