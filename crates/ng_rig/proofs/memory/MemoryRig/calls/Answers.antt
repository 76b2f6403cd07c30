use Rattle.std.proofs.Common.{sym, ◌∙◌}
use Rattle.ng_rig.proofs.TraceLemmas.{moment-trace_of_calls}
use Rattle.ng_rig.proofs.memory.MemoryRig.calls.Goals as goal

pub returns : goal.returns
returns g c = c.len.ensures ∙ c.args.self.now.calls.ok.0 ∙ sym (moment-trace_of_calls c.args.self.now.first.items c.args.self.now.calls.items)
