use Rattle.std.proofs.Common.{◌∙◌, ◌++◌, ◌∷◌, [], ap, sym, subst}
use Rattle.ng_rig.specs.Trace.{items}
use Rattle.ng_file.specs.HandOuts.{AreGiven}
use Rattle.ng_file.specs.Sectors.{trace_of}
use Rattle.ng_file.proofs.HandOutLemmas.{given-else, given-same, given-then}
use Rattle.ng_file.proofs.rig.FileRigRig.hand_out.Goals as goal
use Rattle.ng_file.proofs.rig.FileRigRig.hand_out.Goals.{then-is_ok, else-is_ok}

pub returns-clause-handed : goal.returns-clause-handed
returns-clause-handed g c = λ first given.
    let content = g.S.Storage.content in
    let contents = g.W.Write.contents in
    let put = c.put_next_line-put in
    given-same (ap contents c.counted.ensures.others.1) (ap (λ s. items (trace_of content s)) c.counted.ensures.others.0) c.counted.ensures.others.2
    (elim c.if-is_ok.branch [
      | then-is_ok w ↦
          subst (λ m. AreGiven first (contents m.out) (items (trace_of content m.sectors)) m.cut) (sym w.self-is)
          (given-then put.result c.args.item (sym c.is_ok.ensures.value ∙ w.if-is_ok.true) put.ensures.line put.ensures.was put.ensures.is
          (ap items w.hand.ensures.trace ∙ ap (λ s. items (trace_of content s) ++ c.args.item ∷ []) put.ensures.others.0) given)
      | else-is_ok w ↦
          subst (λ m. AreGiven first (contents m.out) (items (trace_of content m.sectors)) m.cut) (sym w.self-is)
          (given-else put.result c.args.item (sym c.is_ok.ensures.value ∙ w.if-is_ok.false) put.ensures.part put.ensures.is (λ was. ap contents (put.ensures.stays was))
          (ap (λ s. items (trace_of content s)) put.ensures.others.0) given)
    ])
