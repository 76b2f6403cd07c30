use Rattle.std.proofs.Common.{ℤ, ◌∙◌, ap}
use Rattle.std.specs.Int.{w64, cast_signed, cast_unsigned}
use Rattle.std.proofs.lemmas.Int.{to_z-of_z}
use Rattle.ng_layout.specs.Fields.{signed_at}
use Rattle.ng_layout.proofs.bytes.put_i64.Goals as goal

pub returns : goal.returns
unfolding signed_at
returns c =
    let e = to_z-of_z w64 c.args.x c.ranges.x in
    record {
      written = ap (cast_signed w64) (c.put_u64.ensures.written ∙ c.cast_unsigned.ensures) ∙ ap (λ (z : ℤ). cast_signed w64 (cast_unsigned w64 z)) e ∙ e;
      below = c.put_u64.ensures.below;
      beyond = c.put_u64.ensures.beyond;
    }
