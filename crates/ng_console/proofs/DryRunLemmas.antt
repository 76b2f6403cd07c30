-- A run with the machine and the tools of settings is a run with these settings; with the tools of a device, from what is
-- stored there, it is a run from that device.
use Rattle.std.specs.Prelude.{ℕ, ◌≡◌, ℤ, Bool, List, Option, Some, None, Result, IfSome, Ok}
use Rattle.std.proofs.Common.{◌∙◌, ap, subst}
use Rattle.ng_dry.specs.Dry.{DryRunSpec, output_from, output_of}
use Rattle.ng_dry.specs.declared.ending.Ended.{Ended}
use Rattle.ng_dry.specs.declared.ending.DryFault.{DryFault}
use Rattle.ng_layout.specs.Stored.{StoredModel}
use Rattle.ng_params.specs.Lasting.{cleared}
use Rattle.ng_settings.specs.declared.standard.Settings.{Settings}
use Rattle.ng_state.specs.State.{StateModel}
use Rattle.ng_console.specs.DryRuns.{IsDryRun, RunsFromFound, status_of, terms_of, terms_over}

pub reports : (settings : Settings) (block_delete : Bool) (program old new : Option (List ℕ)) (ended : Result Ended DryFault) (status : ℕ)
    → status ≡ status_of ended → IfSome program (λ p. DryRunSpec old new (output_of (terms_of block_delete settings) p) ended)
    → IsDryRun settings block_delete program old new status
reports settings block_delete None old new ended status is h = h
reports settings block_delete (Some p) old new ended status is h = (ended, is, h)

reports_from : (settings : Settings) (block_delete : Bool) (saved : StoredModel) (program old new : Option (List ℕ))
    (ended : Result Ended DryFault) (status : ℕ)
    → status ≡ status_of ended
    → IfSome program (λ p.
    DryRunSpec old new (output_from (terms_over block_delete settings saved)
    (record { params = cleared saved.setup.params; modal = saved.setup.modal }) p) ended)
    → RunsFromFound settings block_delete (Ok saved) program old new status
reports_from settings block_delete saved None old new ended status is h = h
reports_from settings block_delete saved (Some p) old new ended status is h = (ended, is, h)

-- the parameters that don't last are 0 before the run
reports_stored : (settings : Settings) (block_delete : Bool) (saved : StoredModel) (params : List ℤ)
    (program old new : Option (List ℕ)) (ended : Result Ended DryFault)
    (status : ℕ) → params ≡ cleared saved.setup.params → status ≡ status_of ended
    → IfSome program (λ p.
    DryRunSpec old new (output_from (terms_over block_delete settings saved)
    (record { params = params; modal = saved.setup.modal }) p) ended)
    → RunsFromFound settings block_delete (Ok saved) program old new status
reports_stored settings block_delete saved params program old new ended status cleared_is is h =
    reports_from settings block_delete saved program old new ended status is
    (subst (λ (values : List ℤ).
    IfSome program (λ p. DryRunSpec old new
    (output_from (terms_over block_delete settings saved)
    (record { params = values; modal = saved.setup.modal }) p) ended))
    cleared_is h)

-- the same where the state was taken out of what is stored
pub reports_taken : (settings : Settings) (block_delete : Bool) (saved within : StoredModel) (inside : StateModel)
    (params : List ℤ) (program old new : Option (List ℕ))
    (ended : Result Ended DryFault) (status : ℕ) → within ≡ saved → inside ≡ within.setup → params ≡ cleared inside.params → status ≡ status_of ended
    → IfSome program (λ p.
    DryRunSpec old new (output_from (terms_over block_delete settings within)
    (record { params = params; modal = inside.modal }) p) ended)
    → RunsFromFound settings block_delete (Ok saved) program old new status
reports_taken settings block_delete saved within inside params program old new ended status saved_is inside_is cleared_is is h =
    let given = subst (λ (x : StateModel).
    IfSome program (λ p. DryRunSpec old new
    (output_from (terms_over block_delete settings within) (record { params = params; modal = x.modal }) p)
    ended))
    inside_is h in
    subst (λ (s : StoredModel). RunsFromFound settings block_delete (Ok s) program old new status) saved_is
    (reports_stored settings block_delete within params program old new ended status
    (cleared_is ∙ ap (λ (x : StateModel). cleared x.params) inside_is) is given)
