use Rattle.std.proofs.Common.{◌≡◌, ◌<◌, ◌∙◌, ◌∷◌, [], ℤ, List, length, Some, sym, ap, subst, arith, length-append}
use Rattle.std.specs.Int.{w64, cast_signed, cast_unsigned}
use Rattle.std.proofs.lemmas.Int.{to_z-of_z}
use Rattle.ng_layout.specs.Storable.{IsStorableTools}
use Rattle.ng_layout.specs.Tools.{tool_length_of}
use Rattle.ng_layout.proofs.ToolTableLemmas.{lengths-more, lengths-damaged, storable-more}
use Rattle.ng_layout.proofs.tools.take_lengths.Goals as goal

pub returns-in-None-clause-adds : goal.returns-in-None-clause-adds
returns-in-None-clause-adds c = λ area there before.
    let same : cast_signed w64 (cast_unsigned w64 c.get_i64.result) ≡ c.get_i64.result = grind (arith, to_z-of_z) in
    let k = c.loop-k.k in
    let in_part : k < 64 = omega (arith, c.loop-k-test.true, c.requires.count) in
    lengths-damaged area c.args.part k c.args.sector.now there in_part c.args.count c.loop-k.tools
    c.loop-k-test.true (c.loop-k.invariant.adds area there before)
    (ap tool_length_of (sym c.get_i64.ensures ∙ sym same) ∙ sym c.tool_length_of.ensures.value ∙ c.in-None.is)

pub loop-k-preserved : goal.loop-k-preserved
loop-k-preserved c =
    let k = c.loop-k.k in
    let inv = c.loop-k.invariant in
    let same : cast_signed w64 (cast_unsigned w64 c.get_i64.result) ≡ c.get_i64.result = grind (arith, to_z-of_z) in
    let in_part : k < 64 = omega (arith, c.loop-k-test.true, c.requires.count) in
    let small = c.in-Some.ensures.small in
    let fits : length c.loop-k.tools < 128 = omega (arith, inv.long, c.loop-k-test.true, c.requires.fits) in
    record {
      long = ap length c.push.ensures ∙ length-append c.loop-k.tools (c.in-Some.length ∷ []) ∙ omega (arith, inv.long);
      adds = λ area there before.
          lengths-more area c.args.part k c.args.sector.now there in_part c.loop-k.tools c.in-Some.length
          (inv.adds area there before) (ap tool_length_of (sym c.get_i64.ensures ∙ sym same)
          ∙ sym c.tool_length_of.ensures.value ∙ c.in-Some.is)
          ∙ ap (λ (l : List ℤ). Some l) (sym c.push.ensures);
      storable = λ s. subst IsStorableTools (sym c.push.ensures) (storable-more c.loop-k.tools c.in-Some.length fits small (inv.storable s));
    }
