use Rattle.std.proofs.Common.{◌∙◌, w64}
use Rattle.std.proofs.lemmas.Int.{to_z-of_z}
use Rattle.ng_num.proofs.NumberTextLemmas.{point_then}
use Rattle.ng_num.proofs.printing.write_point.Goals as goal

pub returns-clause-text : goal.returns-clause-text
returns-clause-text c =
    let x = to_z-of_z w64 c.nm-3.result (record { sfits = c.nm-3.type_inv }) ∙ c.nm-3.ensures.value in
    let y = to_z-of_z w64 c.nm-2.result (record { sfits = c.nm-2.type_inv }) ∙ c.nm-2.ensures.value in
    let z = to_z-of_z w64 c.nm.result (record { sfits = c.nm.type_inv }) ∙ c.nm.ensures.value in
    point_then c.args.point _ _ _ c.write_count.result c.write_count-y.result c.write_count-z.result c.args.after
    c.args.buffer.now c.write_count-z.new.buffer c.write_count-y.new.buffer c.write_count.new.buffer
    x y z c.write_count-z.ensures.text c.write_count-y.ensures.text c.write_count.ensures.text
