-- A line that is executed keeps feed and speed from falling below 0, and the slots within the tool table.
use Rattle.std.proofs.Common.{◌≡◌, ℕ, ◌*◌, ◌≤◌, ℤ, pos, negsuc, Bool, true, false, List, [], ◌∷◌, ◌++◌, Option}
use Rattle.std.proofs.Common.{Some, None, Result, Ok, Err, refl, sym, subst, arith, rules}
use Rattle.std.specs.Prelude.{◌≤ℤ◌, cond, unsigned_abs, nat_le, unwrap_or, IfSome}
use Rattle.ng_num.specs.declared.fault.Fault.{Fault}
use Rattle.ng_num.specs.declared.fault.Fault.TheVariants.{OutOfRange}
use Rattle.ng_num.specs.declared.unit.Unit.{Unit as LengthUnit}
use Rattle.ng_num.specs.declared.unit.Unit.TheVariants.{Inches, Millimetres}
use Rattle.ng_num.specs.Range.{greatest, in_range}
use Rattle.ng_num.specs.Len.{nm_of}
use Rattle.ng_num.specs.Rounding.{nearest}
use Rattle.ng_num.specs.Results.{and_then}
use Rattle.ng_canon.specs.declared.outputs.Outputs.{Outputs}
use Rattle.ng_modal.specs.WholeNumbers.{slot_on, IsSlot, IsFromZero, IsAccepted}
use Rattle.ng_modal.specs.declared.requests.Coolant.{Coolant}
use Rattle.ng_modal.specs.declared.requests.Coolant.TheVariants.{Mist, Flood, Off}
use Rattle.ng_modal.specs.declared.requests.StopWord.{StopWord}
use Rattle.ng_modal.specs.declared.block.Block.{Block}
use Rattle.ng_state.specs.declared.modes.Modes.{Modes}
use Rattle.ng_state.specs.declared.modes.FeedMode.{FeedMode}
use Rattle.ng_state.specs.declared.modes.FeedMode.TheVariants.{PerMinute, InverseTime}
use Rattle.ng_block.specs.declared.action.Action.{Action}
use Rattle.ng_block.specs.declared.action.Action.TheVariants as action
use Rattle.ng_block.specs.declared.shifts.Shown.{Shown}
use Rattle.ng_block.specs.Action.{coolant_outputs, action_outputs, outputs_after}
use Rattle.ng_block.specs.Actions.{slot_changed, dwell_on, with_value, actions_of}
use Rattle.ng_block.specs.Motion.{time_word, feed_by, feed_word, feed_of, feed_mode_after}
use Rattle.ng_block.specs.Ends.{ends, switched_off, stop_outputs}
use Rattle.ng_state.specs.declared.modal_state.ModalState.{ModalState}
use Rattle.ng_layout.specs.Limits.{greatest_slot}
use Rattle.ng_layout.specs.Storable.{IsStorableModalState}

-- ---- results

pub found : {X Y : Type 0} (r : Result X Fault) (f : X → Result Y Fault) (y : Y) → and_then r f ≡ Ok y → (x : X) × (r ≡ Ok x) × (f x ≡ Ok y)
found (Ok x) f y e = (x, refl, e)
found (Err fault) f y e = absurd (cc e)

abbrev pub answered : {X : Type 0} → X → Result X Fault
answered x = Ok x

pub same : {X : Type 0} (x y : X) → answered x ≡ answered y → x ≡ y
same x y e = cc e

-- ---- the feed

natural : (n : ℕ) → pos 0 ≤ℤ pos n
natural n = search rules

length-from_zero : (n : ℤ) (unit : LengthUnit) → pos 0 ≤ℤ n → pos 0 ≤ℤ nm_of n unit
length-from_zero (pos n) Inches low = natural (nearest (n * 254) 10)
length-from_zero (pos n) Millimetres low = low
length-from_zero (negsuc n) unit low = absurd low.le

ranged : (n feed : ℤ) → in_range n ≡ Ok feed → n ≡ feed
ranged n feed e = by (nat_le (unsigned_abs n) greatest) e
  where
    by : (t : Bool) → cond t (Ok n) (Err OutOfRange) ≡ Ok feed → n ≡ feed
    by true e = cc e
    by false e = absurd (cc e)

feed-from_zero : (word : Option ℤ) (unit : LengthUnit) (old feed : ℤ) → IsFromZero word → pos 0 ≤ℤ old → feed_by word unit old ≡ Ok feed → pos 0 ≤ℤ feed
feed-from_zero None unit old feed given low e = subst (λ (n : ℤ). pos 0 ≤ℤ n) (same old feed e) low
feed-from_zero (Some f) unit old feed given low e = subst (λ (n : ℤ). pos 0 ≤ℤ n) (ranged (nm_of f unit) feed e) (length-from_zero f unit given)

word-from_zero : (mode : FeedMode) (word : Option ℤ) → IsFromZero word → IsFromZero (feed_word mode word)
word-from_zero PerMinute word given = given
word-from_zero InverseTime word given = tt

-- ---- the outputs

record Fits (o : Outputs) : Type 0 where
  pub speed : pos 0 ≤ℤ o.speed
  pub selected : o.selected_slot ≤ greatest_slot
  pub held : o.spindle_slot ≤ greatest_slot

IsNear : Option ℕ → Type 0
IsNear slot = IfSome slot (λ n. n ≤ greatest_slot)

-- what an action may carry
abbrev Carries : Action → Type 0
Carries (action.SpindleSpeed speed) = pos 0 ≤ℤ speed
Carries (action.SelectTool slot) = slot ≤ greatest_slot
Carries (action.ChangeTool slot) = slot ≤ greatest_slot
Carries _ = Unit {0}

cools : (word : Coolant) (o : Outputs) → Fits o → Fits (coolant_outputs word o)
cools Mist o fits = record { speed = fits.speed; selected = fits.selected; held = fits.held }
cools Flood o fits = record { speed = fits.speed; selected = fits.selected; held = fits.held }
cools Off o fits = record { speed = fits.speed; selected = fits.selected; held = fits.held }

acts : (a : Action) (o : Outputs) → Carries a → Fits o → Fits (action_outputs o a)
acts (action.SpindleSpeed speed) o can fits = record { speed = can; selected = fits.selected; held = fits.held }
acts (action.SelectTool slot) o can fits = record { speed = fits.speed; selected = can; held = fits.held }
acts (action.ChangeTool slot) o can fits = record { speed = fits.speed; selected = fits.selected; held = can }
acts (action.Spindle spindle) o can fits =
    record { speed = fits.speed; selected = fits.selected; held = fits.held }
acts (action.Coolant coolant) o can fits = cools coolant o fits
acts (action.Dwell seconds) o can fits = fits
acts (action.SelectPlane plane) o can fits = fits
acts (action.LengthUnits unit) o can fits = fits
acts (action.ToolLength length) o can fits = fits
acts (action.OriginOffsets offsets) o can fits = fits
acts (action.InverseTime time) o can fits = fits

abbrev AllCarry : List Action → Type 0
AllCarry [] = Unit {0}
AllCarry (a ∷ actions) = Carries a × AllCarry actions

act : (actions : List Action) (o : Outputs) → AllCarry actions → Fits o → Fits (outputs_after o actions)
act [] o can fits = fits
act (a ∷ actions) o can fits = act actions (action_outputs o a) can.1 (acts a o can.0 fits)

-- the action of a value, also before others
given : {X : Type 0} (to : X → Action) (value : Option X) (later : List Action) →
    IfSome value (λ x. Carries (to x)) → AllCarry later → AllCarry (with_value to value ++ later)
given to None later can others = others
given to (Some x) later can others = (can, others)

any : {X : Type 0} (to : X → Action) (value : Option X) (later : List Action) →
    ((x : X) → Carries (to x)) → AllCarry later → AllCarry (with_value to value ++ later)
any to None later can others = others
any to (Some x) later can others = (can x, others)

stops : (word : Option StopWord) (o : Outputs) → Fits o → Fits (stop_outputs word o)
stops word o fits = by (ends word)
  where
    by : (t : Bool) → Fits (cond t (switched_off o) o)
    by true = record { speed = fits.speed; selected = fits.selected; held = fits.held }
    by false = fits

slot-near : (word : Option ℤ) (slots : ℕ) → slots ≤ greatest_slot → IsSlot word slots → IsNear (slot_on word)
unfolding IsNear
slot-near None slots few slot = tt
slot-near (Some v) slots few slot = subst (λ (o : Option ℕ). IfSome o (λ n. n ≤ greatest_slot)) (sym slot.1) (let small = slot.2 in omega arith)

held-near : (change : Bool) (slot : Option ℕ) (before : ℕ) → before ≤ greatest_slot → IsNear slot → IsNear (cond change (Some (unwrap_or slot before)) None)
unfolding IsNear
held-near false slot before low near = tt
held-near true None before low near = low
held-near true (Some n) before low near = near

actions-carry : (b : Block) (m : Modes) (mode : FeedMode) (slots : ℕ) (o : Outputs) (shown : Shown) → slots ≤ greatest_slot
    → IsAccepted b m slots → Fits o → AllCarry (actions_of b mode o shown)
unfolding IsNear
actions-carry b m mode slots o shown few is fits =
    let slot = slot-near b.values.t slots few is.selected in
    given action.SpindleSpeed b.values.s _ is.speed
    (given action.SelectTool (slot_on b.values.t) _ slot
    (given action.ChangeTool (slot_changed b o) _
    (held-near b.m.tool_change (slot_on b.values.t) o.selected_slot fits.selected slot)
    (any action.Spindle b.m.spindle _ (λ x. tt)
    (any action.Coolant b.m.coolant _ (λ x. tt)
    (any action.Dwell (dwell_on b) _ (λ x. tt)
    (any action.SelectPlane b.g.plane _ (λ x. tt)
    (any action.LengthUnits b.g.unit _ (λ x. tt)
    (any action.ToolLength shown.tool_length _ (λ x. tt)
    (any action.OriginOffsets shown.system _ (λ x. tt)
    (any action.OriginOffsets shown.axis_data _ (λ x. tt)
    (any action.InverseTime (time_word mode b.movement b.values.f) [] (λ x. tt) tt)))))))))))

outputs-fit : (b : Block) (m : Modes) (mode : FeedMode) (slots : ℕ) (o : Outputs) (shown : Shown) → slots ≤ greatest_slot
    → IsAccepted b m slots → Fits o → Fits (stop_outputs b.m.stop (outputs_after o (actions_of b mode o shown)))
outputs-fit b m mode slots o shown few is fits =
    stops b.m.stop _ (act (actions_of b mode o shown) o (actions-carry b m mode slots o shown few is fits) fits)

-- ---- the machine after a block

pub block-stands : (b : Block) (m after : ModalState) (slots : ℕ) (shown : Shown) → slots ≤ greatest_slot → IsAccepted b m.modes slots → IsStorableModalState m
    → feed_of b m ≡ Ok after.feed_per_min
    → after.outputs ≡ stop_outputs b.m.stop
    (outputs_after m.outputs (actions_of b (feed_mode_after b m.modes) m.outputs shown))
    → IsStorableModalState after
block-stands b m after slots shown few is can feed outputs =
    let fits : Fits m.outputs = record { speed = can.speed; selected = can.selected; held = can.held } in
    let out : Fits after.outputs = subst Fits (sym outputs) (outputs-fit b m.modes (feed_mode_after b m.modes) slots m.outputs shown few is fits) in
    record {
      feed = feed-from_zero (feed_word (feed_mode_after b m.modes) b.values.f) m.modes.unit m.feed_per_min
          after.feed_per_min (word-from_zero (feed_mode_after b m.modes) b.values.f is.feed) can.feed feed;
      speed = out.speed;
      selected = out.selected;
      held = out.held;
    }
