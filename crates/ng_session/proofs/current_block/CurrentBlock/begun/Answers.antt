use Rattle.std.proofs.Common.{◌≤◌, [], length, ◌∙◌, ap, arith}
use Rattle.ng_layout.specs.Stored.{StoredModel}
use Rattle.ng_session.specs.Entries.{place_after}
use Rattle.ng_session.specs.declared.stage.Stage.TheVariants.{OnBlock}
use Rattle.ng_session.proofs.BareBlockLemmas.{settled_restore, begun_ready, left_taken}
use Rattle.ng_session.proofs.current_block.CurrentBlock.begun.Goals as goal

pub returns-clause-value : goal.returns-clause-value
returns-clause-value g c =
    let x = c.args.stored.now in
    let effect = c.args.effect.now in
    let left = left_taken c.next-upcoming.result c.block_segments-left.result c.next-upcoming.new.self c.next-upcoming.ensures
    ∙ c.block_segments-left.ensures in
    let changes = settled_restore x.setup.params effect.changes.items c.changes_of.result.items c.requires.storable.table c.changes_of.ensures in
    let place = c.place_after.ensures ∙ ap (λ (y : StoredModel). place_after c.args.next y.place c.args.source effect.stop) c.stored.view_is in
    λ i. record {
      source = c.args.source;
      text = c.text_from.ensures i;
      block_delete = c.args.block_delete;
      stage = OnBlock;
      index = 0;
      left = left i;
      items = [];
      setup = record { params = changes i; modal = effect.modal };
      place = place i;
      stop = effect.stop;
    }

pub returns-clause-ready : goal.returns-clause-ready
returns-clause-ready g c =
    let place = c.place_after.ensures ∙ ap (λ (y : StoredModel). place_after c.args.next y.place c.args.source c.args.effect.now.stop) c.stored.view_is in
    let text : length c.text_from.result.items ≤ 256 = omega (arith, ap length c.text_from.ensures, c.requires.short) in
    begun_ready c.args.stored.now _ c.args.effect.now.changes.items c.args.next c.requires.storable c.requires.within
    c.changes_of.ensures place c.requires.stands text
