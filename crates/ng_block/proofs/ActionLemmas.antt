-- A block whose words ask for no action; and what is known of lists of actions.
use Rattle.std.proofs.Common.{arith, ◌≡◌, ◌∙◌, ℤ, Bool, true, false, ◌==◌, List, [], ◌∷◌, ◌++◌, length, Option, Some, None, refl, ap}
use Rattle.std.specs.Prelude.{not, ◌||◌, MatchOption, IsSomeAnd}
use Rattle.std.specs.Option.{is_some, option_to_list}
use Rattle.std.proofs.lemmas.Bool.Decides.{nat_tests}
use Rattle.ng_num.specs.declared.unit.Unit.{Unit as LengthUnit}
use Rattle.ng_canon.specs.declared.outputs.Outputs.{Outputs}
use Rattle.ng_canon.specs.declared.outputs.Spindle.{Spindle}
use Rattle.ng_canon.specs.declared.plane.Plane.{Plane}
use Rattle.ng_modal.specs.declared.requests.Coolant.{Coolant}
use Rattle.ng_modal.specs.declared.requests.NonModal.{NonModal}
use Rattle.ng_modal.specs.declared.block.Block.{Block}
use Rattle.ng_state.specs.declared.modes.FeedMode.{FeedMode}
use Rattle.ng_state.specs.declared.modes.FeedMode.TheVariants.{PerMinute, InverseTime}
use Rattle.ng_modal.specs.declared.movement.Movement.{Movement}
use Rattle.ng_block.specs.declared.action.Action.{Action}
use Rattle.ng_block.specs.Actions.{with_value, actions_of, gives_nothing}
use Rattle.ng_block.specs.Motion.{is_inverse, time_word}
use Rattle.ng_block.specs.Shifts.{nothing_shown}

no_time : (mode : FeedMode) (movement : Option Movement) (f : Option ℤ) → is_inverse mode ≡ false → time_word mode movement f ≡ None
no_time PerMinute movement f h = refl
no_time InverseTime movement f h = absurd (cc h)

-- no time, and none of eight words
pub record AreMissing (inverse : Bool) (s t : Option ℤ) (change : Bool) (spindle : Option Spindle)
    (coolant : Option Coolant) (word : Option NonModal) (plane : Option Plane)
    (unit : Option LengthUnit) : Type 0 where
  pub inverse_is : inverse ≡ false
  pub s_is : s ≡ None
  pub t_is : t ≡ None
  pub change_is : change ≡ false
  pub spindle_is : spindle ≡ None
  pub coolant_is : coolant ≡ None
  pub word_is : word ≡ None
  pub plane_is : plane ≡ None
  pub unit_is : unit ≡ None

missing : (inverse : Bool) (s t : Option ℤ) (change : Bool) (spindle : Option Spindle) (coolant : Option Coolant)
    (word : Option NonModal) (plane : Option Plane) (unit : Option LengthUnit) →
    not (inverse || is_some s || is_some t || change || is_some spindle || is_some coolant || is_some word || is_some plane || is_some unit) ≡ true →
    AreMissing inverse s t change spindle coolant word plane unit
missing false None None false None None None None None h =
    record {
      inverse_is = refl;
      s_is = refl;
      t_is = refl;
      change_is = refl;
      spindle_is = refl;
      coolant_is = refl;
      word_is = refl;
      plane_is = refl;
      unit_is = refl;
    }
missing true s t change spindle coolant word plane unit h = absurd (cc h)
missing false (Some _) t change spindle coolant word plane unit h = absurd (cc h)
missing false None (Some _) change spindle coolant word plane unit h = absurd (cc h)
missing false None None true spindle coolant word plane unit h = absurd (cc h)
missing false None None false (Some _) coolant word plane unit h = absurd (cc h)
missing false None None false None (Some _) word plane unit h = absurd (cc h)
missing false None None false None None (Some _) plane unit h = absurd (cc h)
missing false None None false None None None (Some _) unit h = absurd (cc h)
missing false None None false None None None None (Some _) h = absurd (cc h)

pub no_actions : (b : Block) (mode : FeedMode) (before : Outputs) → gives_nothing b mode ≡ true → actions_of b mode before nothing_shown ≡ []
no_actions b mode before h =
    let m = missing (is_inverse mode) b.values.s b.values.t b.m.tool_change b.m.spindle b.m.coolant b.g.non_modal b.g.plane b.g.unit h in
    rw (m.s_is, m.t_is, m.change_is, m.spindle_is, m.coolant_is, m.word_is, m.plane_is, m.unit_is, no_time mode b.movement b.values.f m.inverse_is) refl

-- an empty list
pub no_items : (actions : List Action) → (length actions == 0) ≡ true → actions ≡ []
no_items [] e = refl
no_items (a ∷ actions) e = absurd (grind (arith, nat_tests))

-- a row, and those after it
pub row : {X : Type 0} (to : X → Action) (o value : Option X) (r : Option Action) (xs ys : List Action) → o ≡ value →
    MatchOption o (r ≡ None) (λ x. IsSomeAnd r (λ a. a ≡ to x)) → xs ≡ ys → option_to_list r ++ xs ≡ with_value to value ++ ys
row {X = X} to o value r xs ys same is e = row-at o r is ∙ ap (λ v. with_value to v ++ ys) same
  where
    row-at : (o : Option X) (r : Option Action) → MatchOption o (r ≡ None) (λ x. IsSomeAnd r (λ a. a ≡ to x)) → option_to_list r ++ xs ≡ with_value to o ++ ys
    row-at None r is = ap (λ (v : Option Action). option_to_list v ++ xs) is ∙ e
    row-at (Some x) (Some a) is = ap (λ l. a ∷ l) e ∙ ap (λ b. b ∷ ys) is
    row-at (Some x) None is = absurd is
