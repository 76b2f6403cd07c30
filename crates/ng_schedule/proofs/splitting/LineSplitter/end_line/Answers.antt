use Rattle.std.proofs.Common.{◌≡◌, List, ℕ, [], refl, subst}
use Rattle.ng_schedule.specs.Private.Parts.{IsUnderWay}
use Rattle.ng_schedule.proofs.RunStepLemmas.{TakeSpec-from, empty_is}
use Rattle.ng_schedule.proofs.splitting.LineSplitter.end_line.Goals as goal

pub returns-then-is_empty-clause-step : goal.returns-then-is_empty-clause-step
returns-then-is_empty-clause-step g c limits start bytes here =
    let partial = c.args.self.now.partial.items in
    let none : partial ≡ [] = empty_is partial c.is_empty.result c.is_empty.ensures c.if-is_empty.true in
    TakeSpec-from limits start _ _ _ [] partial c.take_line.new.self c.take_line.result refl none
    (c.take_line.ensures.step limits start bytes
    (subst (λ (k : List ℕ). IsUnderWay limits start (g.W.Write.contents c.args.writer.now) bytes k
    c.args.self.now.schedule) none here))
