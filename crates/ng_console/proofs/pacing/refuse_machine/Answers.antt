use Rattle.std.proofs.Common.{◌++◌, ◌∙◌, List, ℕ, ap₂, append_assoc, codes, subst, sym}
use Rattle.std.proofs.lemmas.Result.{on_ok_weaker}
use Rattle.std.specs.Io.KnownBytes.{Appends}
use Rattle.ng_motion.specs.Fault.{cause_text, name_told}
use Rattle.ng_streams.proofs.KnownBytesLemmas.{Appends-trans}
use Rattle.ng_console.proofs.pacing.refuse_machine.Goals as goal

pub returns : goal.returns
returns g c =
    let w = g.W.Write.contents c.args.writer.now in
    let v = g.W.Write.contents c.write_all-4.new.self in
    on_ok_weaker c.write_all-4.result
    (λ h. subst (λ (text : List ℕ). Appends w v (codes "refused MACHINE" ++ text))
    (ap₂ (λ (cause name : List ℕ). cause ++ (name ++ codes "\n")) c.text.ensures c.name.ensures
    ∙ sym (append_assoc (cause_text c.args.fault) (name_told c.args.fault) (codes "\n")))
    (Appends-trans _ _ _ _ _ c.in_ok-write_all.ensures.bytes
    (Appends-trans _ _ _ _ _ c.in_ok-write_all-2.ensures.bytes
    (Appends-trans _ _ _ _ _ c.in_ok-write_all-3.ensures.bytes h)))) c.write_all-4.ensures.bytes
