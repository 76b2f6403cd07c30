use Rattle.std.proofs.lemmas.Grind.{common_steps}
use Rattle.std.proofs.Common.{◌≡◌, ◌++◌, ◌∷◌, ◌∙◌, List, ℕ, [], ap, append_assoc, subst, sym, arith}
use Rattle.ng_lines.specs.Lines.{pulse_line}
use Rattle.ng_schedule.specs.Private.Parts.{IsUnderWay, TakeSpec}
use Rattle.ng_schedule.proofs.RunStepLemmas.{empty_is, goes_on, stops_within, with_nothing}
use Rattle.ng_schedule.proofs.splitting.LineSplitter.take.Goals as goal

pub loop-left-preserved-in-loop-left : goal.loop-left-preserved-in-loop-left
loop-left-preserved-in-loop-left g c =
    let so_far = c.loop-left.invariant.0 in
    let partial = c.loop-left.self.partial.items in
    let none : partial ≡ [] = empty_is partial c.is_empty.result c.is_empty.ensures c.if-is_empty.true in
    let line = pulse_line c.in-Some.pulse in (
      (
        so_far.0 ++ line,
        so_far.1 ∙ ap (λ l. so_far.0 ++ l) c.in-Some.ensures.found ∙ sym (append_assoc so_far.0 line c.in-Some.after.now),
        λ limits start before here.
            goes_on limits start _ before so_far.0 line partial c.take_read.new.self none
            (c.in-Ok.ensures.step limits start (before ++ so_far.0)
            (with_nothing limits start _ (before ++ so_far.0) partial c.loop-left.self.schedule none
            (so_far.2 limits start before here))),
      ),
      c.loop-left.invariant.1,
      c.take_read.ensures.shown ∙ c.loop-left.invariant.2,
    )

pub loop-left-preserved : goal.loop-left-preserved
loop-left-preserved g c =
    let so_far = c.loop-left.invariant.0 in
    let line = c.in-Some-split_line.line.now in
    let first = c.in-Some-split_line.ensures.1 in
    let next = c.end_line.new.self in (
      (
        so_far.0 ++ (line ++ 10 ∷ []),
        so_far.1 ∙ ap (λ l. so_far.0 ++ l)
            (first ∙ sym (append_assoc line (10 ∷ []) c.in-Some-split_line.after.now))
            ∙ sym (append_assoc so_far.0 (line ++ 10 ∷ []) c.in-Some-split_line.after.now),
        λ limits start before here.
            subst (λ (b : List ℕ). IsUnderWay limits start (g.W.Write.contents c.end_line.new.writer) b
            next.partial.items next.schedule) (append_assoc before so_far.0 (line ++ 10 ∷ []))
            (c.in-Ok-end_line.ensures.step limits start (before ++ so_far.0) (so_far.2 limits start before here)),
      ),
      c.end_line.ensures.partial,
      c.end_line.ensures.shown ∙ c.loop-left.invariant.2,
    )

pub returns-in-Err-clause-step : goal.returns-in-Err-clause-step
returns-in-Err-clause-step g c limits start before here =
    let so_far = c.loop-left.invariant.0 in
    let partial = c.loop-left.self.partial.items in
    let none : partial ≡ [] = empty_is partial c.is_empty.result c.is_empty.ensures c.if-is_empty.true in
    stops_within limits start _ before so_far.0 (pulse_line c.in-Some.pulse) c.in-Some.after.now c.args.bytes.now
    c.loop-left.left.now c.take_read.new.self c.in-Err.stop so_far.1 c.in-Some.ensures.found
    (c.in-Err.ensures.step limits start (before ++ so_far.0)
    (with_nothing limits start _ (before ++ so_far.0) partial c.loop-left.self.schedule none
    (so_far.2 limits start before here)))

pub returns-in-Err-end_line-clause-step : goal.returns-in-Err-end_line-clause-step
returns-in-Err-end_line-clause-step g c limits start before here =
    let so_far = c.loop-left.invariant.0 in
    let line = c.in-Some-split_line.line.now in
    let after = c.in-Some-split_line.after.now in
    stops_within limits start _ before so_far.0 (line ++ 10 ∷ []) after c.args.bytes.now c.loop-left.left.now
    c.end_line.new.self.schedule c.in-Err-end_line.stop so_far.1
    (c.in-Some-split_line.ensures.1 ∙ sym (append_assoc line (10 ∷ []) after))
    (c.in-Err-end_line.ensures.step limits start (before ++ so_far.0) (so_far.2 limits start before here))

pub returns-in_default-clause-step : goal.returns-in_default-clause-step
returns-in_default-clause-step g c limits start before here =
    let so_far = c.loop-left.invariant.0 in
    let all : before ++ c.args.bytes.now ≡ (before ++ so_far.0) ++ c.loop-left.left.now =
    ap (λ l. before ++ l) so_far.1 ∙ sym (append_assoc before so_far.0 c.loop-left.left.now) in
    subst (λ (b : List ℕ). TakeSpec limits start (g.W.Write.contents c.loop-left.writer) b
    c.keep.new.self.partial.items c.keep.new.self.schedule c.keep.result) (sym all)
    (c.keep.ensures.step limits start (g.W.Write.contents c.loop-left.writer) (before ++ so_far.0) (so_far.2 limits start before here))

pub loop-left-init : goal.loop-left-init
loop-left-init g c = grind (arith, common_steps)

pub is_empty-requires : goal.is_empty-requires
is_empty-requires g c = omega arith

pub take_pulse-requires : goal.take_pulse-requires
take_pulse-requires g c = omega arith

pub take_read-requires : goal.take_read-requires
take_read-requires g c κs = grind arith

pub returns-in-Err-clause-partial : goal.returns-in-Err-clause-partial
returns-in-Err-clause-partial g c = grind arith

pub returns-in-Err-clause-shown : goal.returns-in-Err-clause-shown
returns-in-Err-clause-shown g c = grind arith

pub loop-left-smaller-in-loop-left : goal.loop-left-smaller-in-loop-left
loop-left-smaller-in-loop-left g c = grind (arith, common_steps)

pub split_line-requires : goal.split_line-requires
split_line-requires g c = omega arith

pub end_line-requires-clause-partial : goal.end_line-requires-clause-partial
end_line-requires-clause-partial g c = grind arith

pub end_line-requires-clause-line : goal.end_line-requires-clause-line
end_line-requires-clause-line g c = grind arith

pub loop-left-smaller : goal.loop-left-smaller
loop-left-smaller g c = grind (arith, common_steps)

pub returns-in-Err-end_line-clause-partial : goal.returns-in-Err-end_line-clause-partial
returns-in-Err-end_line-clause-partial g c = grind arith

pub returns-in-Err-end_line-clause-shown : goal.returns-in-Err-end_line-clause-shown
returns-in-Err-end_line-clause-shown g c = grind arith

pub keep-requires-clause-partial : goal.keep-requires-clause-partial
keep-requires-clause-partial g c = grind arith

pub keep-requires-clause-bytes : goal.keep-requires-clause-bytes
keep-requires-clause-bytes g c = grind arith

pub returns-in_default-clause-partial : goal.returns-in_default-clause-partial
returns-in_default-clause-partial g c = grind arith

pub returns-in_default-clause-shown : goal.returns-in_default-clause-shown
returns-in_default-clause-shown g c = grind arith
