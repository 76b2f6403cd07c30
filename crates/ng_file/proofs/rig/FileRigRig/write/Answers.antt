use Rattle.std.proofs.Common.{◌∙◌, ap}
use Rattle.ng_rig.specs.Trace.{items}
use Rattle.ng_file.specs.Sectors.{trace_of}
use Rattle.ng_file.proofs.HandOutLemmas.{given-same}
use Rattle.ng_file.proofs.rig.FileRigRig.write.Goals as goal

pub returns-clause-handed : goal.returns-clause-handed
returns-clause-handed g c = λ first given.
    given-same (ap g.W.Write.contents c.counted.ensures.others.1)
    (ap (λ s. items (trace_of g.S.Storage.content s)) c.counted.ensures.others.0 ∙ c.write-put.ensures.items)
    c.counted.ensures.others.2 given
