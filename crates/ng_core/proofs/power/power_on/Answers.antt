use Rattle.std.proofs.Common.{◌≡◌, inl, ℤ, List, Ok, Err, refl, sym, ◌∙◌, ap, subst, arith}
use Rattle.std.specs.Result.{IsErrAnd}
use Rattle.ng_num.specs.declared.fault.Fault.{Fault}
use Rattle.ng_rig.specs.Rig.{Device}
use Rattle.ng_rig.specs.Trace.{Trace}
use Rattle.ng_settings.specs.declared.standard.Settings.{Settings}
use Rattle.ng_core.specs.Headline.{BeginsPast}
use Rattle.ng_core.specs.Power.{PowerOnResult, PowerOnSpec}
use Rattle.ng_rig.proofs.GuaranteeLemmas.{promised, meaning}
use Rattle.ng_layout.specs.Storable.{IsStorable}
use Rattle.ng_canon.specs.declared.geometry.Geometry.{Geometry}
use Rattle.ng_session.specs.Session.{SessionModel, resting}
use Rattle.ng_journal.proofs.RecoverLemmas.{recovered_nothing}
use Rattle.ng_core.proofs.PastLemmas.{begins_past}
use Rattle.ng_core.proofs.PowerOnLemmas.{powered}
use Rattle.ng_core.proofs.power.power_on.Goals as goal

pub returns-clause-gives : goal.returns-clause-gives
returns-clause-gives g c =
    let geometry : Geometry = c.args.settings.geometry in
    let journal = c.in_ok-journal.ensures.journal in
    let stored = ap (λ (s : SessionModel). s.stored) c.new.ensures in
    record {
      powers = λ least tools table. meaning (c.in_ok-journal.ensures.recovers least tools table)
          (λ r. powered tools c.in_ok-journal.journal c.in_ok-journal.stored c.new.result c.in-Ok.lines geometry _ _ stored journal.1 c.in-Ok.ensures.holds r);
      rests = (journal.0, c.new.ensures ∙ ap (λ x. resting x) (sym journal.1), subst IsStorable (sym stored) journal.2);
      geometry = refl;
      small = λ few. absurd (c.in_ok-journal.ensures.small few);
      faults = tt;
      memory = tt;
      size = c.in_ok-journal.ensures.size;
      failures = c.in_ok-journal.ensures.failures;
    }

-- without memory the device isn't called
pub returns-in-Err-clause-gives : goal.returns-in-Err-clause-gives
returns-in-Err-clause-gives g c = record {
  powers = λ least tools table.
      promised (record {
        recovers = recovered_nothing tools c.args.rig (g.R.Rig.seen c.args.rig).trace;
        rests =
            λ written. tt;
        force = tt;
      });
  rests = tt;
  geometry = tt;
  small = λ few. absurd (omega (arith, few, c.size.ensures.value, c.if-size-lt-LEAST_SIZE.false));
  faults = inl refl;
  memory = λ is. refl;
  size = refl;
  failures = refl;
}

-- what holds of a fault holds of the result that has it
gave : {R : Type 0} (seen : R → Device) (settings : Settings) (rig : R) (e : Fault × R) (answer : PowerOnResult R)
    → IsErrAnd answer (λ f. f ≡ e) → (let err : PowerOnResult R = Err e in PowerOnSpec seen settings rig err) → PowerOnSpec seen settings rig answer
gave seen settings rig e (Ok c) is spec = absurd is
gave {R} seen settings rig e (Err f) is spec =
    subst (λ (x : Fault × R). let err : PowerOnResult R = Err x in PowerOnSpec seen settings rig err) (sym is) spec

pub returns-in_err-journal-clause-gives : goal.returns-in_err-journal-clause-gives
returns-in_err-journal-clause-gives g c =
    let told = c.in_err-journal.ensures in
    gave g.R.Rig.seen c.args.settings c.args.rig c.in_err-journal.field-0.0 c.from_residual.result c.from_residual.ensures.1 (record {
      powers = λ least tools table. meaning (told.recovers least tools table) (λ r. record { recovers = r; rests = λ written. tt; force = tt });
      rests = tt;
      geometry = tt;
      small = told.small;
      faults = told.faults;
      memory = told.memory;
      size = told.size;
      failures = told.failures;
    })

pub returns-clause-past : goal.returns-clause-past
returns-clause-past g c = λ least tools table.
    let journal = c.in_ok-journal.ensures.journal in
    meaning ((returns-clause-gives g c).powers least tools table)
    (λ p. begins_past _ tools g.R.Rig.seen _ (g.R.Rig.seen c.args.rig).trace _ (refl, journal.0, c.new.ensures ∙ ap (λ x. resting x) (sym journal.1)) p)

-- a fault begins no past
none_begun : {R : Type 0} (A : Type 0) (tools : List ℤ) (seen : R → Device) (e : Fault × R) (answer : PowerOnResult R) (old : Trace)
    → IsErrAnd answer (λ f. f ≡ e) → BeginsPast A tools seen answer old
none_begun A tools seen e (Ok c) old is = absurd is
none_begun A tools seen e (Err f) old is = λ written. tt

pub returns-in_err-journal-clause-past : goal.returns-in_err-journal-clause-past
returns-in_err-journal-clause-past g c = λ least tools table.
    meaning ((returns-in_err-journal-clause-gives g c).powers least tools table)
    (λ p. none_begun _ tools g.R.Rig.seen c.in_err-journal.field-0.0 c.from_residual.result (g.R.Rig.seen c.args.rig).trace c.from_residual.ensures.1)
