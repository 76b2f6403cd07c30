use Rattle.std.proofs.lemmas.Grind.{common_steps}
use Rattle.std.proofs.Common.{arith}
use Rattle.ng_block.proofs.LineLemmas.{too_long_to_fit}
use Rattle.ng_text.proofs.NewlineLemmas.{HasNoNewline-append}
use Rattle.ng_dry.proofs.RunPartLemmas.{rest_of-long}
use Rattle.ng_dry.proofs.splitting.LineSplitter.keep.Goals as goal

pub returns-in-Ok-clause-partial : goal.returns-in-Ok-clause-partial
returns-in-Ok-clause-partial g c = rw c.in-Ok.ensures.ok (HasNoNewline-append _ _ c.requires.partial c.requires.bytes)

pub returns-in-Err-clause-step : goal.returns-in-Err-clause-step
returns-in-Err-clause-step g c =
    let long = too_long_to_fit c.args.self.now.partial.items c.args.bytes.now c.in-Err.ensures.variant.1 in
    c.refuse_long.ensures.step _
    (λ more. rest_of-long c.args.self.now.run c.args.self.now.partial.items c.args.bytes.now more
    (HasNoNewline-append _ _ c.requires.partial c.requires.bytes) long)

pub try_extend_from_slice-requires : goal.try_extend_from_slice-requires
try_extend_from_slice-requires g c = omega arith

pub refuse_long-requires : goal.refuse_long-requires
refuse_long-requires g c κs = grind arith

pub returns-in-Ok-clause-step : goal.returns-in-Ok-clause-step
returns-in-Ok-clause-step g c = grind (arith, common_steps)

pub returns-in-Ok-clause-number : goal.returns-in-Ok-clause-number
returns-in-Ok-clause-number g c = omega arith

pub returns-in-Err-clause-partial : goal.returns-in-Err-clause-partial
returns-in-Err-clause-partial g c = grind arith

pub returns-in-Err-clause-number : goal.returns-in-Err-clause-number
returns-in-Err-clause-number g c = omega arith
