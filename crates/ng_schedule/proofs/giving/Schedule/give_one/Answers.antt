use Rattle.std.proofs.Common.{◌≡◌, ◌∙◌, ◌+◌, ◌≤◌, [], ap, length, refl, subst, sym, false, arith}
use Rattle.ng_pace.specs.Stream.{Flow}
use Rattle.ng_schedule.specs.Private.Parts.{IsFull}
use Rattle.ng_schedule.proofs.ScheduleRunLemmas.{told}
use Rattle.ng_schedule.proofs.StreamLemmas.{still_full}
use Rattle.ng_schedule.proofs.giving.Schedule.give_one.Goals as goal

pub returns-in-Ok-false-give_next-clause-step : goal.returns-in-Ok-false-give_next-clause-step
returns-in-Ok-false-give_next-clause-step g c limits start bytes partial here full =
    let first = c.in-Ok-false.ensures.step false limits start bytes partial here (λ no. full) in
    let same = c.in-Ok-false.ensures.same c.in-Ok-false.field-0-test in
    let none : c.give_next.new.self.stream.motion.known ≡ [] = ap (λ (t : Flow). t.motion.known) same ∙ c.in-Ok-false.ensures.none c.in-Ok-false.field-0-test in
    let full' : IsFull c.give_next.new.self = subst (λ (t : Flow). t.motion.capacity ≤ length t.motion.known + length t.waiting) (sym same) full in
    let ended = told limits start _ bytes partial c.give_next.new.self
    (record c.give_next.new.self { stream = c.end.new.self }) first none full' c.end.ensures refl refl refl
    refl in
    let full'' = still_full c.give_next.new.self.stream c.end.new.self c.end.ensures full' in
    let none' : c.end.new.self.motion.known ≡ [] = c.in-Ok-false-give_next.ensures.none c.in-Ok-false-give_next.field-0-test in
    absurd (omega (arith, full'', ap length none', ap length c.end.ensures.none, ended.streamed.capacity_is))

pub returns-in-Err-give_next-clause-step : goal.returns-in-Err-give_next-clause-step
returns-in-Err-give_next-clause-step g c limits start bytes partial here full =
    let first = c.in-Ok-false.ensures.step false limits start bytes partial here (λ no. full) in
    let same = c.in-Ok-false.ensures.same c.in-Ok-false.field-0-test in
    let none : c.give_next.new.self.stream.motion.known ≡ [] = ap (λ (t : Flow). t.motion.known) same ∙ c.in-Ok-false.ensures.none c.in-Ok-false.field-0-test in
    let full' : IsFull c.give_next.new.self = subst (λ (t : Flow). t.motion.capacity ≤ length t.motion.known + length t.waiting) (sym same) full in
    let ended = told limits start _ bytes partial c.give_next.new.self
    (record c.give_next.new.self { stream = c.end.new.self }) first none full' c.end.ensures refl refl refl
    refl in
    c.in-Err-give_next.ensures.step false limits start bytes partial ended (λ no. still_full c.give_next.new.self.stream c.end.new.self c.end.ensures full')

pub returns-in-Ok-true-give_next-clause-step : goal.returns-in-Ok-true-give_next-clause-step
returns-in-Ok-true-give_next-clause-step g c limits start bytes partial here full =
    let first = c.in-Ok-false.ensures.step false limits start bytes partial here (λ no. full) in
    let same = c.in-Ok-false.ensures.same c.in-Ok-false.field-0-test in
    let none : c.give_next.new.self.stream.motion.known ≡ [] = ap (λ (t : Flow). t.motion.known) same ∙ c.in-Ok-false.ensures.none c.in-Ok-false.field-0-test in
    let full' : IsFull c.give_next.new.self = subst (λ (t : Flow). t.motion.capacity ≤ length t.motion.known + length t.waiting) (sym same) full in
    let ended = told limits start _ bytes partial c.give_next.new.self
    (record c.give_next.new.self { stream = c.end.new.self }) first none full' c.end.ensures refl refl refl
    refl in
    c.in-Ok-true-give_next.ensures.step false limits start bytes partial ended (λ no. still_full c.give_next.new.self.stream c.end.new.self c.end.ensures full')

pub returns-in-Err-clause-step : goal.returns-in-Err-clause-step
returns-in-Err-clause-step g c limits start bytes partial here full = c.in-Err.ensures.step false limits start bytes partial here (λ no. full)

pub give_next-requires : goal.give_next-requires
give_next-requires g c κs = grind arith

pub returns-in-Ok-true-clause-step : goal.returns-in-Ok-true-clause-step
returns-in-Ok-true-clause-step g c = grind arith

pub returns-in-Ok-true-clause-one : goal.returns-in-Ok-true-clause-one
returns-in-Ok-true-clause-one g c = grind arith

pub returns-in-Ok-true-clause-shown : goal.returns-in-Ok-true-clause-shown
returns-in-Ok-true-clause-shown g c = grind arith

pub returns-in-Err-clause-one : goal.returns-in-Err-clause-one
returns-in-Err-clause-one g c = omega arith

pub returns-in-Err-clause-shown : goal.returns-in-Err-clause-shown
returns-in-Err-clause-shown g c = grind arith

pub end-requires : goal.end-requires
end-requires g c κs = grind arith

pub give_next-requires-2 : goal.give_next-requires-2
give_next-requires-2 g c κs = grind arith

pub returns-in-Ok-true-give_next-clause-one : goal.returns-in-Ok-true-give_next-clause-one
returns-in-Ok-true-give_next-clause-one g c = grind arith

pub returns-in-Ok-true-give_next-clause-shown : goal.returns-in-Ok-true-give_next-clause-shown
returns-in-Ok-true-give_next-clause-shown g c = grind arith

pub returns-in-Ok-false-give_next-clause-one : goal.returns-in-Ok-false-give_next-clause-one
returns-in-Ok-false-give_next-clause-one g c = omega arith

pub returns-in-Ok-false-give_next-clause-shown : goal.returns-in-Ok-false-give_next-clause-shown
returns-in-Ok-false-give_next-clause-shown g c = grind arith

pub returns-in-Err-give_next-clause-one : goal.returns-in-Err-give_next-clause-one
returns-in-Err-give_next-clause-one g c = omega arith

pub returns-in-Err-give_next-clause-shown : goal.returns-in-Err-give_next-clause-shown
returns-in-Err-give_next-clause-shown g c = grind arith
