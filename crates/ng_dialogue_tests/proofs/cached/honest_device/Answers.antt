use Rattle.ng_dialogue_tests.proofs.CacheLemmas.{durable, met}
use Rattle.ng_dialogue_tests.proofs.cached.honest_device.Goals as goal

pub returns : goal.returns
returns c =
    met _ c.over.result c.over.ensures.honest tt
    (durable c.in_ok-disk.disk.items c.in_ok-bytes.bytes.items _ c.new.result.items c.in_ok-disk.ensures c.in_ok-bytes.ensures c.new.ensures.items)
