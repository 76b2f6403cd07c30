use Rattle.std.proofs.Common.{List, sym, ◌∙◌, ap}
use Rattle.std.specs.Option.{option_map}
use Rattle.ng_session.specs.BareBlock.{block_on}
use Rattle.ng_session.specs.Planned.{PlannedModel, ends_after, ends_at_end}
use Rattle.ng_session.proofs.PlannedLineLemmas.{ends_more}
use Rattle.ng_session.proofs.planning.ends_at_end.Goals as goal

pub returns-in-Some : goal.returns-in-Some
returns-in-Some g c = λ params.
    let ends = ends_after (option_map (block_on params) c.args.current.now) in
    c.ends.ensures ∙ sym (ap (λ (l : List PlannedModel). ends_at_end ends l) c.in-Some.ensures.1 ∙ ends_more ends c.in-Some.ensures.0 c.in-Some.planned.now)
