-- What a Tick chooses is what it does.
use Rattle.std.proofs.Common.{◌≡◌, ℕ, true, false, List, [], ◌∷◌, Option, Some, None, Result, Ok, Err, refl, sym, ◌∙◌, ap, subst}
use Rattle.std.specs.Prelude.{IfErr, IfSome, IsSome}
use Rattle.ng_num.specs.declared.fault.Fault.{Fault}
use Rattle.ng_num.specs.declared.fault.Fault.TheVariants.{DeviceFailed}
use Rattle.ng_canon.specs.declared.item.Item.{Item}
use Rattle.ng_canon.specs.declared.segment.Segment.{Segment}
use Rattle.ng_rig.specs.Rig.{Device}
use Rattle.ng_rig.specs.Trace.{Trace}
use Rattle.ng_rig.proofs.GuaranteeLemmas.{meaning}
use Rattle.ng_text.specs.Programs.{program_line_at}
use Rattle.ng_layout.specs.Stored.{HalfModel}
use Rattle.ng_canon.specs.declared.geometry.Geometry.{Geometry}
use Rattle.ng_session.specs.Session.{CurrentBlockModel, SessionModel, Transition, is_running}
use Rattle.ng_session.specs.Ticking.{tick, end, begin, item_of, handed, opening_of, opening_on, segment_open}
use Rattle.ng_session.specs.declared.reply.Reply.{Reply}
use Rattle.ng_session.specs.declared.stage.Stage.{Stage}
use Rattle.ng_session.specs.declared.stage.Stage.TheVariants as stage
use Rattle.ng_core.specs.Model.{ControllerModel}
use Rattle.ng_core.specs.Events.{IsCarriedOut, IsCarriedOutIfHonest, handing}
use Rattle.ng_core.proofs.TickLemmas.{does_on, tick_item}

-- a controller with this session
abbrev pub with_session : {R : Type 0} → ControllerModel R → SessionModel → ControllerModel R
with_session c s = record { journal = c.journal; session = s; lines = c.lines; geometry = c.geometry }

-- ---- an item

-- the outcome of the item is that of the Tick: the session took the item before, and its status is unchanged
acts_before : {R : Type 0} (answer : Result Reply Fault) (out : Transition) (program : List ℕ) (old new : ControllerModel R) (trace_old trace_new : Trace)
    → IfErr answer (λ e. e ≡ DeviceFailed) → IsCarriedOut answer out program (with_session old (handed old.session))
    new trace_old trace_new → IsCarriedOut answer out program old new trace_old trace_new
acts_before (Ok r) out program old new trace_old trace_new errors acts =
    record { comes = acts.comes; stops = acts.stops; leaves = acts.leaves; untouched = acts.untouched }
acts_before {R} (Err fault) out program old new trace_old trace_new errors acts =
    let Goal : Fault → Type 0 = λ f. IsCarriedOut (Err f) out program (with_session old (handed old.session)) new
    trace_old trace_new → IsCarriedOut (Err f) out program old new trace_old trace_new in
    let lost : Goal DeviceFailed = λ z. record { comes = z.comes; stops = z.stops; leaves = z.leaves; untouched = tt } in
    let goal : Goal fault = subst Goal (sym errors) lost in
    goal acts

does_before : {R : Type 0} (seen : R → Device) (answer : Result Reply Fault) (out : List ℕ → Transition) (old new : ControllerModel R)
    → IfErr answer (λ e. e ≡ DeviceFailed)
    → IsCarriedOutIfHonest seen answer out (with_session old (handed old.session)) new
    → IsCarriedOutIfHonest seen answer out old new
does_before seen answer out old new errors does =
    meaning does (λ f program rests. acts_before answer (out program) program old new (seen old.journal.rig).trace
    (seen new.journal.rig).trace errors (f program rests))

pub does_item : {R : Type 0} (seen : R → Device) (answer : Result Reply Fault) (item : Item) (old new : ControllerModel R) (taken : SessionModel)
    → old.session.held ≡ false → Some item ≡ item_of old.session.current → taken ≡ handed old.session → IfErr answer (λ e. e ≡ DeviceFailed)
    → IsCarriedOutIfHonest seen answer (λ program. handing item program taken) (with_session old taken) new
    → IsCarriedOutIfHonest seen answer (λ program. tick old.geometry program old.session) old new
does_item seen answer item old new taken held is next errors does =
    does_on seen answer (λ program. handing item program (handed old.session)) (λ program. tick old.geometry program old.session) old old new refl
    (λ program. sym (tick_item old.geometry program old.session item held (sym is)))
    (does_before seen answer (λ program. handing item program (handed old.session)) old new errors
    (subst (λ (s : SessionModel). IsCarriedOutIfHonest seen answer (λ program. handing item program s) (with_session old s) new) next does))

-- ---- none

-- ---- an approach or a segment, or none

opens_left : (c : CurrentBlockModel) (left : List Segment) → IfSome (segment_open c left) (λ half. IsSome half.opened)
opens_left c [] = tt
opens_left c (segment ∷ left) = refl

opens_on : (c : CurrentBlockModel) (at : Stage) → IfSome (opening_on c at) (λ half. IsSome half.opened)
opens_on c (stage.ToApproach a) = refl
opens_on c (stage.OnApproach a) = tt
opens_on c stage.OnBlock = opens_left c c.left

opens_of : (o : Option CurrentBlockModel) → IfSome (opening_of o) (λ half. IsSome half.opened)
opens_of None = tt
opens_of (Some c) = opens_on c c.stage

-- in the half-done block that is stored for it, something is open
pub segment_opens : (o : Option CurrentBlockModel) (half : HalfModel) → Some half ≡ opening_of o → IsSome half.opened
segment_opens o half is = subst (λ (x : Option HalfModel). IfSome x (λ h. IsSome h.opened)) (sym is) (opens_of o)

-- ---- no block, and the program runs

pub begins_there : (q : Geometry) (P : List ℕ) (s : SessionModel) → s.current ≡ None → is_running s.activity ≡ true
    → end q P s s.current ≡ begin q P s (program_line_at P s.stored.place)
begins_there q P s none runs = ap (λ (o : Option CurrentBlockModel). end q P s o) none ∙ rw runs refl
