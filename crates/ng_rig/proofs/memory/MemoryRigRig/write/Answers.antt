use Rattle.std.proofs.Common.{refl, ◌∙◌, arith, length, length-set, rules}
use Rattle.std.proofs.lemmas.Bool.{lt-ltb, and_from}
use Rattle.ng_rig.proofs.ReplayLemmas.{whole_set, within-push, reads-push_write, trace-push}
use Rattle.ng_rig.specs.declared.call.Call.TheVariants.{Write}
use Rattle.ng_rig.proofs.memory.MemoryRigRig.write.Goals as goal

pub invariant_of-self : goal.invariant_of-self
invariant_of-self g c = record {
  same_size = length-set c.args.self.now.present.items c.args.sector c.args.bytes.now ∙ c.args.self.now.same_size;
  within = within-push _ _ _ (Write c.args.sector c.args.bytes.now) c.in-Ok.ensures.items c.args.self.now.within
      (and_from _ _ (lt-ltb c.args.sector (length c.args.self.now.first.items) c.requires)
      (lt-ltb 0 (length c.args.bytes.now) (omega (arith, c.told-bytes))));
  first_whole = c.args.self.now.first_whole;
  whole = whole_set _ _ c.args.sector c.args.bytes.now refl (omega (arith, c.told-bytes)) c.args.self.now.whole;
  present_is = reads-push_write _ _ _ _ c.args.sector c.args.bytes.now c.in-Ok.ensures.items
      (omega (arith, c.args.self.now.same_size)) c.args.self.now.present_is;
}

pub returns-in-Ok-clause-trace : goal.returns-in-Ok-clause-trace
returns-in-Ok-clause-trace g c = trace-push _ _ _ (Write c.args.sector c.args.bytes.now) c.in-Ok.ensures.items

pub push-requires : goal.push-requires
push-requires g c κs = search rules

pub index_mut-requires : goal.index_mut-requires
index_mut-requires g c = omega arith

pub invariant_of-self-in-Err : goal.invariant_of-self-in-Err
invariant_of-self-in-Err g c = grind arith

pub fail-requires : goal.fail-requires
fail-requires g c κs = grind arith

pub returns-in-Ok-clause-call : goal.returns-in-Ok-clause-call
returns-in-Ok-clause-call g c = omega arith

pub returns-in-Err-clause-trace : goal.returns-in-Err-clause-trace
returns-in-Err-clause-trace g c = grind arith

pub returns-in-Err-clause-call : goal.returns-in-Err-clause-call
returns-in-Err-clause-call g c = omega arith
