use Rattle.std.proofs.Common.{◌∙◌, ap}
use Rattle.ng_rig.specs.Trace.{items}
use Rattle.ng_file.specs.Sectors.{trace_of}
use Rattle.ng_file.proofs.HandOutLemmas.{given-same, items-synced}
use Rattle.ng_file.proofs.rig.FileRigRig.sync.Goals as goal

pub returns-clause-handed : goal.returns-clause-handed
returns-clause-handed g c = λ first given.
    given-same (ap g.W.Write.contents c.counted.ensures.others.1)
    (ap (λ s. items (trace_of g.S.Storage.content s)) c.counted.ensures.others.0 ∙ items-synced c.sync-synced.result _ _ c.sync-synced.ensures.trace)
    c.counted.ensures.others.2 given
