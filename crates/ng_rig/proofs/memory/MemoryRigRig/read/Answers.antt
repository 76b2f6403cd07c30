use Rattle.std.proofs.Common.{[], ℕ, List, ◌∙◌, ap, arith}
use Rattle.ng_rig.proofs.ReplayLemmas.{default_is}
use Rattle.ng_rig.proofs.memory.MemoryRigRig.read.Goals as goal

pub returns-clause-bytes : goal.returns-clause-bytes
returns-clause-bytes g c =
    let size = c.args.self.now.same_size in
    c.index.ensures ∙ default_is c.args.self.now.present.items c.args.sector _ [] (omega arith)
    ∙ ap (λ (image : ℕ → List ℕ). image c.args.sector) c.args.self.now.present_is
