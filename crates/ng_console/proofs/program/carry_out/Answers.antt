use Rattle.std.proofs.Common.{◌≡◌, ◌∙◌, ◌⊎◌, ap, inl, inr, is_some, subst, sym, ℕ, Result, Ok, Err, IfOk}
use Rattle.std.specs.Result.{result_unwrap_or}
use Rattle.std.proofs.lemmas.Result.{IfOk-weaker}
use Rattle.ng_console.specs.Program.{JobSpec}
use Rattle.ng_console.specs.declared.command_line.Job.TheVariants.{Dry, Format}
use Rattle.ng_console.proofs.program.carry_out.Goals.{in-None, in-None-from, in-Some, in-Some-from}
use Rattle.ng_console.proofs.program.carry_out.Goals as goal

-- a status that is 2 if there is none
told : {E : Type 0} (P : ℕ → Type 0) (r : Result ℕ E) (status : ℕ) → status ≡ result_unwrap_or r 2 → IfOk r P → (status ≡ 2) ⊎ P status
told P (Ok n) status is h = inr (subst P (sym is) h)
told P (Err e) status is h = inl is

pub returns-after-from-clause-run : goal.returns-after-from-clause-run
returns-after-from-clause-run g c =
    let P : ℕ → Type 0 = λ status. JobSpec g.R.File.Read.remaining g.R.File.Write.contents (Dry c.in-Dry.program c.in-Dry.from c.in-Dry.settings c.in-Dry.block_delete)
    (g.I.Read.remaining c.args.reader.now) (g.W.Write.contents c.args.writer.now) (g.W.Write.contents c.run_chosen.new.writer) status in
    let has_settings : is_some c.match-settings.settings ≡ is_some c.in-Dry.settings = elim c.match-settings.branch [
      | in-Some w ↦ ap is_some w.settings-is ∙ sym (ap is_some w.in-Some.is)
      | in-None w ↦ ap is_some w.settings-is ∙ sym (ap is_some w.in-None.is)
    ] in
    let has_device : is_some c.match-from.device ≡ is_some c.in-Dry.from = elim c.match-from.branch [
      | in-Some-from w ↦ ap is_some w.device-is ∙ sym (ap is_some w.in-Some-from.is)
      | in-None-from w ↦ ap is_some w.device-is ∙ sym (ap is_some w.in-None-from.is)
    ] in
    rw c.in-Dry.is (told P c.run_chosen.result c.unwrap_or.result c.unwrap_or.ensures
    (IfOk-weaker c.run_chosen.result _ P
    (λ status h. (
      c.match-settings.settings,
      c.match-from.device,
      c.open-program.result,
      has_settings,
      has_device,
      (c.chosen_settings-chosen.result, c.chosen_settings-chosen.ensures, h),
    ))
    c.run_chosen.ensures.run))

pub returns-in-Format-clause-run : goal.returns-in-Format-clause-run
returns-in-Format-clause-run g c =
    let P : ℕ → Type 0 = λ status. JobSpec g.R.File.Read.remaining g.R.File.Write.contents (Format c.in-Format.device c.in-Format.large) (g.I.Read.remaining c.args.reader.now)
    (g.W.Write.contents c.args.writer.now) (g.W.Write.contents c.format_opened.new.writer) status in
    rw c.in-Format.is (told P c.format_opened.result c.unwrap_or-in-Format.result c.unwrap_or-in-Format.ensures
    (IfOk-weaker c.format_opened.result _ P (λ status h. (c.make_device-opened.result, h)) c.format_opened.ensures.run))
