use Rattle.std.proofs.Common.{◌≡◌, ◌≤◌, [], false, drop, length, ◌∙◌, ap, arith}
use Rattle.ng_block.specs.Effects.{in_state}
use Rattle.ng_layout.specs.Stored.{HalfModel, StoredModel}
use Rattle.ng_session.specs.Entries.{place_after, motion_state_before}
use Rattle.ng_session.specs.declared.stage.Stage.TheVariants.{ToApproach}
use Rattle.ng_session.proofs.BareBlockLemmas.{settled_restore, begun_ready, left_taken}
use Rattle.ng_session.proofs.current_block.CurrentBlock.begun_again.Goals as goal

pub returns-clause-value : goal.returns-clause-value
returns-clause-value g c =
    let x = c.args.stored.now in
    let effect = c.args.effect.now in
    let half = c.args.half.now in
    let source : c.half.inside.source ≡ half.source = ap (λ (h : HalfModel). h.source) c.half.view_is in
    let index : c.half.inside.index ≡ half.index = ap (λ (h : HalfModel). h.index) c.half.view_is in
    let text = c.text_from.ensures ∙ c.as_slice.ensures.value ∙ ap (λ (h : HalfModel). h.text) c.half.view_is in
    let left = left_taken c.next-upcoming.result c.block_segments_from-left.result.block_segments c.next-upcoming.new.self c.next-upcoming.ensures
    ∙ c.block_segments_from-left.ensures.block_segments ∙ ap (λ n. drop n (in_state x.setup effect).segments) index in
    let to : c.block_segments_from-left.result.motion_state ≡ motion_state_before x.setup (in_state x.setup effect) half.index =
    rw (← c.half.view_is, ← c.start_of.ensures) c.block_segments_from-left.ensures.motion_state in
    let changes = settled_restore x.setup.params effect.changes.items c.changes_of.result.items c.requires.storable.table c.changes_of.ensures in
    let place = c.place_after.ensures ∙ ap (λ (y : StoredModel). place_after c.args.next y.place c.half.inside.source effect.stop) c.stored.view_is
    ∙ ap (λ s. place_after c.args.next x.place s effect.stop) source in
    λ i. record {
      source = source i;
      text = text i;
      block_delete = false;
      stage = ToApproach (record { from = c.args.from; to = to i });
      index = index i;
      left = left i;
      items = [];
      setup = record { params = changes i; modal = effect.modal };
      place = place i;
      stop = effect.stop;
    }

pub returns-clause-ready : goal.returns-clause-ready
returns-clause-ready g c =
    let place = c.place_after.ensures ∙ ap (λ (y : StoredModel). place_after c.args.next y.place c.half.inside.source c.args.effect.now.stop)
    c.stored.view_is in
    let text : length c.text_from.result.items ≤ 256 =
    omega (
      arith,
      ap length (c.text_from.ensures ∙ c.as_slice.ensures.value),
      ap (λ (h : HalfModel). length h.text) c.half.view_is,
      c.requires.short,
    ) in
    begun_ready c.args.stored.now _ c.args.effect.now.changes.items c.args.next c.requires.storable c.requires.within
    c.changes_of.ensures place c.requires.stands text
