use Rattle.std.proofs.Common.{◌++◌, List, ℕ, [], append-nil, subst}
use Rattle.ng_schedule.specs.Private.Parts.{IsStopped}
use Rattle.ng_schedule.proofs.EndedLineLemmas.{HasNoNewline-append}
use Rattle.ng_schedule.proofs.RunStepLemmas.{keeps_more, too_long_to_fit, stops_at_long}
use Rattle.ng_schedule.proofs.splitting.LineSplitter.keep.Goals as goal

pub returns-in-Ok-clause-partial : goal.returns-in-Ok-clause-partial
returns-in-Ok-clause-partial g c = rw c.in-Ok.ensures.ok (HasNoNewline-append _ _ c.requires.partial c.requires.bytes)

pub returns-in-Ok-clause-step : goal.returns-in-Ok-clause-step
returns-in-Ok-clause-step g c limits start now before here =
    rw c.in-Ok.ensures.ok (keeps_more limits start now before c.args.self.now.partial.items c.args.bytes.now
    c.args.self.now.schedule here)

pub returns-in-Err-clause-step : goal.returns-in-Err-clause-step
returns-in-Err-clause-step g c limits start now before here =
    let partial = c.args.self.now.partial.items in
    let bytes = c.args.bytes.now in
    let long = too_long_to_fit partial bytes c.in-Err.ensures.variant.1 in
    subst (λ (l : List ℕ). IsStopped limits start now (before ++ l) c.args.self.now.schedule) (append-nil bytes)
    (stops_at_long limits start now before partial bytes [] c.args.self.now.schedule here
    (HasNoNewline-append partial bytes c.requires.partial c.requires.bytes) long)
