use Rattle.std.proofs.Common.{List, sym, ◌∙◌, ap}
use Rattle.std.specs.Option.{option_map}
use Rattle.ng_session.specs.BareBlock.{block_on}
use Rattle.ng_session.specs.Planned.{PlannedModel, Base, base_after, base_at_end}
use Rattle.ng_session.proofs.PlannedLineLemmas.{end_more}
use Rattle.ng_session.proofs.planning.place_at_end.Goals as goal

pub returns-in-Some : goal.returns-in-Some
returns-in-Some g c = λ block_delete.
    let x = c.args.stored.now in
    let base : Base = record { stored = base_after x (option_map (block_on x.setup.params) c.args.current.now); block_delete = block_delete } in
    c.place_after.ensures ∙ sym (ap (λ (l : List PlannedModel). (base_at_end base l).stored.place) c.in-Some.ensures.1
    ∙ ap (λ (b : Base). b.stored.place) (end_more base c.in-Some.ensures.0 c.in-Some.planned.now))
