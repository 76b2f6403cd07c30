use Rattle.std.proofs.Common.{ℕ, List, ◌++◌, length, ap, arith, rules}
use Rattle.std.proofs.lemmas.List.{drop-replicate}
use Rattle.ng_layout.proofs.encoding.text_field.Goals as goal

pub returns : goal.returns
returns c = rw c.copy_from_slice.ensures.after
    (ap (λ (l : List ℕ). c.args.text.now ++ l) (drop-replicate (length c.args.text.now) 256 0))

pub slice_bounds-field-end : goal.slice_bounds-field-end
slice_bounds-field-end c = omega arith

pub slice_bounds-copy_from_slice-end : goal.slice_bounds-copy_from_slice-end
slice_bounds-copy_from_slice-end c = search rules

pub copy_from_slice-requires : goal.copy_from_slice-requires
copy_from_slice-requires c = search rules
