use Rattle.std.proofs.lemmas.Grind.{common_steps}
use Rattle.std.proofs.Common.{◌++◌, ap, arith, length, length-append, Ok, Err, None, Some, rules}
use Rattle.ng_dry.specs.Private.Parts.{rest_of}
use Rattle.ng_dry.proofs.RunPartLemmas.{LineStepSpec-next, LineStepSpec-after}
use Rattle.ng_dry.proofs.splitting.LineSplitter.take.Goals as goal

pub loop-line-preserved : goal.loop-line-preserved
loop-line-preserved g c =
    let start = c.args.self.now in
    let here = c.loop-line.self in
    let next = c.end_line.new.self in
    let parts = c.in-Some.ensures.1 in
    let size = simp length-append at (ap length parts) in
    record {
      goes = LineStepSpec-next _ _ _ here.run here.partial.items c.loop-line.left.now c.in-Some.line.now
          c.in-Some.after.now (λ more. rest_of start.run start.partial.items (c.args.bytes.now ++ more))
          (λ more. rest_of next.run next.partial.items more) (Ok None) c.loop-line.invariant.goes parts
          (rw c.in-Ok-None.field-0-is at c.in-Ok-None.ensures.step);
      partial = c.end_line.ensures.partial;
      number = omega (arith, c.end_line.ensures.number, size);
    }

pub returns-in-Ok-Some-clause-step : goal.returns-in-Ok-Some-clause-step
returns-in-Ok-Some-clause-step g c =
    let start = c.args.self.now in
    let here = c.loop-line.self in
    let next = c.end_line.new.self in
    LineStepSpec-next _ _ _ here.run here.partial.items c.loop-line.left.now c.in-Some.line.now c.in-Some.after.now
    (λ more. rest_of start.run start.partial.items (c.args.bytes.now ++ more))
    (λ more. rest_of next.run next.partial.items more) (Ok (Some c.in-Ok-Some.ended)) c.loop-line.invariant.goes
    c.in-Some.ensures.1 (rw c.in-Ok-Some.field-0-is at c.in-Ok-Some.ensures.step)

pub returns-in-Err-clause-step : goal.returns-in-Err-clause-step
returns-in-Err-clause-step g c =
    let start = c.args.self.now in
    let here = c.loop-line.self in
    let next = c.end_line.new.self in
    LineStepSpec-next _ _ _ here.run here.partial.items c.loop-line.left.now c.in-Some.line.now c.in-Some.after.now
    (λ more. rest_of start.run start.partial.items (c.args.bytes.now ++ more))
    (λ more. rest_of next.run next.partial.items more) (Err c.in-Err.broken) c.loop-line.invariant.goes
    c.in-Some.ensures.1 c.in-Err.ensures.step

pub returns-clause-step : goal.returns-clause-step
returns-clause-step g c = LineStepSpec-after _ _ _ _ _ _ _ c.loop-line.invariant.goes c.keep.ensures.step

pub loop-line-init : goal.loop-line-init
loop-line-init g c = search rules

pub split_line-requires : goal.split_line-requires
split_line-requires g c = omega arith

pub end_line-requires-clause-partial : goal.end_line-requires-clause-partial
end_line-requires-clause-partial g c = grind arith

pub end_line-requires-clause-line : goal.end_line-requires-clause-line
end_line-requires-clause-line g c = grind arith

pub end_line-requires-clause-number : goal.end_line-requires-clause-number
end_line-requires-clause-number g c = omega arith

pub loop-line-smaller : goal.loop-line-smaller
loop-line-smaller g c = grind (arith, common_steps)

pub returns-in-Ok-Some-clause-partial : goal.returns-in-Ok-Some-clause-partial
returns-in-Ok-Some-clause-partial g c = grind arith

pub returns-in-Ok-Some-clause-number : goal.returns-in-Ok-Some-clause-number
returns-in-Ok-Some-clause-number g c = grind (arith, common_steps)

pub returns-in-Err-clause-partial : goal.returns-in-Err-clause-partial
returns-in-Err-clause-partial g c = grind arith

pub returns-in-Err-clause-number : goal.returns-in-Err-clause-number
returns-in-Err-clause-number g c = grind (arith, common_steps)

pub keep-requires-clause-partial : goal.keep-requires-clause-partial
keep-requires-clause-partial g c = grind arith

pub keep-requires-clause-bytes : goal.keep-requires-clause-bytes
keep-requires-clause-bytes g c = grind arith

pub returns-clause-partial : goal.returns-clause-partial
returns-clause-partial g c = grind arith

pub returns-clause-number : goal.returns-clause-number
returns-clause-number g c = omega arith
