use Rattle.std.proofs.Common.{◌∙◌}
use Rattle.std.proofs.lemmas.List.{take_rest}
use Rattle.ng_rig.proofs.ReplayLemmas.{within_take, within_drop, durable_split}
use Rattle.ng_rig.proofs.replay.replay_stop.Goals as goal

pub replay-requires : goal.replay-requires
replay-requires c = within_take _ c.args.calls.now c.synced_calls-synced.result c.requires.within

pub replay_durable-requires-clause-within : goal.replay_durable-requires-clause-within
replay_durable-requires-clause-within c =
    rw (take_rest c.args.calls.now c.synced_calls-synced.result, c.replay.auto.image)
    (within_drop _ c.args.calls.now c.synced_calls-synced.result c.requires.within)

pub returns-clause-whole : goal.returns-clause-whole
returns-clause-whole c = λ was. c.replay_durable.ensures.whole (c.replay.ensures.whole was)

pub returns-clause-image : goal.returns-clause-image
returns-clause-image c = c.replay_durable.ensures.image
    ∙ durable_split c.args.image.now c.replay.new.image c.args.calls.now _ c.synced_calls-synced.result c.args.keep.now
    (take_rest c.args.calls.now c.synced_calls-synced.result) c.synced_calls-synced.ensures.before
    c.replay.ensures.image
