use Rattle.std.proofs.Common.{◌<◌, ℕ, List, length, [], ap, subst, sym, ◌∙◌, arith}
use Rattle.std.proofs.lemmas.List.{get_or_past}
use Rattle.ng_rig.proofs.memory.MemoryRigRig.size.Goals as goal

pub returns-clause-extent : goal.returns-clause-extent
returns-clause-extent g c honest =
    let rig = c.args.self.now in
    record {
      within = λ n below. subst (λ (image : ℕ → List ℕ). 0 < length (image n)) rig.present_is (rig.whole.each n (omega (arith, rig.same_size, below)));
      past = λ n above. sym (ap (λ (image : ℕ → List ℕ). image n) rig.present_is) ∙ get_or_past rig.present.items n [] (omega (arith, rig.same_size, above));
    }
