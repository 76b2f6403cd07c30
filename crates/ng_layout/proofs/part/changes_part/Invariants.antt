use Rattle.std.proofs.Common.{◌≡◌, ◌+◌, ◌*◌, take, replicate, Some}
use Rattle.ng_layout.specs.Fields.{SameFrom}
use Rattle.ng_layout.specs.Part.{changes_in, label_of, HoldsLabel}
use Rattle.ng_layout.proofs.part.changes_part.Given as goal

abbrev pub invariant-loop-k : goal.invariant-loop-k
invariant-loop-k l = record {
  label : HoldsLabel (label_of l.fn.label) l.sector;
  made : changes_in l.sector l.k ≡ Some (take l.k l.changes);
  rest : SameFrom (32 + 10 * l.k) (replicate 512 0) l.sector;
}
