use Rattle.std.proofs.Common.{◌≡◌, ◌∙◌, ap, inl, inr, refl, sym, subst, ℕ, List, Option, None, Some, Result, Ok, Err, IfSome}
use Rattle.std.specs.Prelude.{IfErr}
use Rattle.std.specs.declared.alloc.Global.{Global}
use Rattle.std.proofs.lemmas.Result.{IfOk-weaker}
use Rattle.ng_rig.specs.Trace.{items}
use Rattle.ng_file.specs.HandOuts.{AreGiven}
use Rattle.ng_file.specs.Rig.{device_of, is_cut, sector_count}
use Rattle.ng_file.specs.Sectors.{image_of}
use Rattle.ng_file.specs.declared.rig.FileRig.{FileRig}
use Rattle.ng_file.proofs.HandOutLemmas.{given-same}
use Rattle.ng_run.specs.Consoles.{ConsoleSpec}
use Rattle.ng_console.specs.Operating.{LeavesFiles, LeavesFilesAlone}
use Rattle.ng_console.proofs.HonestDeviceLemmas.{honest-console}
use Rattle.ng_console.proofs.operating.operate_settled.Goals as goal

-- bytes that are the same
same : (old new : Option (List ℕ)) → new ≡ old → IfSome old (λ held. new ≡ Some held)
same None new is = tt
same (Some held) new is = is

-- what holds in any case
anyway : {T E P : Type 0} (r : Result T E) → P → IfErr r (λ e. P)
anyway (Ok v) p = tt
anyway (Err e) p = p

pub returns-in-Ok-clause-run : goal.returns-in-Ok-clause-run
returns-in-Ok-clause-run g c =
    let content = g.S.Storage.content in
    let contents = g.O.Write.contents in
    let promise = g.S.Storage.promise in
    let seen = device_of content promise in
    let made = c.in-Ok.rig in
    let left = c.console-status.result.1 in
    let text = g.I.Read.remaining c.args.reader.now in
    let old = g.W.Write.contents c.args.writer.now in
    let new = g.W.Write.contents c.console-status.new.writer in
    let ran : ConsoleSpec Global seen c.args.settings made text old new (c.console-status.result.0, left) =
    subst (λ (r : FileRig _ _ _). ConsoleSpec Global seen c.args.settings r text old new (c.console-status.result.0, left)) c.of-rig.ensures
    c.console-status.ensures.console in
    inl (
      made,
      left,
      record {
        bytes = c.in-Ok.ensures.bytes;
        sectors = c.in-Ok.ensures.size;
        hands_out = c.in-Ok.ensures.out;
        failures = c.in-Ok.ensures.failures;
        begins = c.in-Ok.ensures.trace;
        honest = c.in-Ok.ensures.honest;
      },
      ran,
      record {
        device_is = c.into_parts-device.ensures.parts.0;
        out_is = c.into_parts-device.ensures.parts.1;
        sectors = λ honest. let h = honest-console seen c.args.settings made text old new c.console-status.result.0 left ran honest in
            ap (λ file. image_of (sector_count left) (content file)) c.into_parts-device.ensures.parts.0 ∙ sym h.1.0.reads_are;
        lines = subst (λ (first : Option (List ℕ)). AreGiven first (contents c.into_parts-device.result.1) (items (seen left).trace) (is_cut left)) c.requires
            (given-same (ap contents c.into_parts-device.ensures.parts.1) refl refl c.into_parts-device.ensures.handed);
      },
    )

pub returns-in-Err-clause-run : goal.returns-in-Err-clause-run
returns-in-Err-clause-run g c =
    IfOk-weaker c.refuse_storage.result _ _
    (λ status refused. inr (
      c.in-Err.error,
      refused,
      record {
        same = same (g.S.Storage.content c.args.device) (g.S.Storage.content c.in-Err.device) c.in-Err.ensures.back.0;
        out_is = c.in-Err.ensures.back.1;
      },
    ))
    c.refuse_storage.ensures.run

pub returns-in-Err-clause-failed : goal.returns-in-Err-clause-failed
returns-in-Err-clause-failed g c =
    anyway c.refuse_storage.result (record {
      same = same (g.S.Storage.content c.args.device) (g.S.Storage.content c.in-Err.device) c.in-Err.ensures.back.0;
      out_is = c.in-Err.ensures.back.1;
    })
