use Rattle.std.proofs.Common.{refl, is_ok}
use Rattle.ng_rig.proofs.ReplayLemmas.{within-maybe, reads-maybe, trace-push}
use Rattle.ng_rig.specs.declared.call.Call.TheVariants.{Hand}
use Rattle.ng_rig.proofs.memory.MemoryRigRig.hand_out.Goals as goal

pub invariant_of-self : goal.invariant_of-self
invariant_of-self g c = record {
  same_size = c.args.self.now.same_size;
  within = within-maybe (is_ok c.push.result) _ c.args.self.now.calls.items _ (Hand c.args.item) c.push.ensures.items c.args.self.now.within refl;
  first_whole = c.args.self.now.first_whole;
  whole = c.args.self.now.whole;
  present_is = reads-maybe (is_ok c.push.result) _ _ c.args.self.now.calls.items _ (Hand c.args.item) c.push.ensures.items refl c.args.self.now.present_is;
}

pub returns-in-Ok-clause-trace : goal.returns-in-Ok-clause-trace
returns-in-Ok-clause-trace g c = trace-push _ _ _ (Hand c.args.item) c.in-Ok.ensures.items
