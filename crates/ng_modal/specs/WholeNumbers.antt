-- The whole numbers in words, and what is known about the words of an accepted block.
use Rattle.std.specs.Prelude.{◌≡◌, ◌≤◌, ℕ, ℤ, pos, negsuc, ◌≤ℤ◌, true, nat_le, max, if◌then◌else◌, Option, Some, None, IsSome, IfSome}
use Rattle.std.specs.Option.{option_and_then}
use Rattle.ng_num.specs.Whole.{whole_of}
use Rattle.ng_params.specs.Numbers.{system_of}
use Rattle.ng_canon.specs.declared.plane.Plane.TheVariants.{Xy}
use Rattle.ng_modal.specs.Block.{plane_after}
use Rattle.ng_modal.specs.Movement.{is_cycle}
use Rattle.ng_modal.specs.declared.requests.NonModal.TheVariants.{Dwell, SetOrigin}
use Rattle.ng_modal.specs.declared.requests.ToolLength.TheVariants.{OfSlot}
use Rattle.ng_modal.specs.declared.block.Block.{Block}
use Rattle.ng_state.specs.declared.modes.Modes.{Modes}

-- the slot with a number, from 0 to 255
abbrev pub slot_of : ℤ → Option ℕ
slot_of (pos n) = if nat_le n 255 then Some n else None
slot_of (negsuc n) = None

-- the slot that a T or H word names (NISTIR 6556, 3.7.3, 3.5.11)
abbrev pub slot_on : Option ℤ → Option ℕ
slot_on word = option_and_then slot_of (option_and_then whole_of word)

-- the coordinate system that P of G10 names (NISTIR 6556, 3.5.5)
abbrev pub system_on : Option ℤ → Option ℕ
system_on word = option_and_then system_of (option_and_then whole_of word)

-- how often a cycle is repeated: L times, but at least once (NISTIR 6556, 3.5.16)
abbrev pub repeats_by : Option ℤ → ℕ
repeats_by None = 1
repeats_by (Some (pos n)) = max 1 n
repeats_by (Some (negsuc n)) = 1

abbrev pub repeats_on : Option ℤ → ℕ
repeats_on word = repeats_by (option_and_then whole_of word)

-- if there is a word, it names a slot
abbrev pub IsSlot : Option ℤ → ℕ → Type 0
IsSlot word slots = IfSome word (λ _. (n : ℕ) × (slot_on word ≡ Some n) × (n ≤ slots))

-- if there is a word, it isn't negative
abbrev pub IsFromZero : Option ℤ → Type 0
IsFromZero word = IfSome word (λ v. pos 0 ≤ℤ v)

-- what is known about a block that isn't refused, given the modes before it and the number of slots
pub record IsAccepted (b : Block) (m : Modes) (slots : ℕ) : Type 0 where
  pub selected : IsSlot b.values.t slots
  pub of_length : IsSlot b.values.h slots
  pub length_given : b.g.tool_length ≡ Some OfSlot → IsSome b.values.h
  pub feed : IsFromZero b.values.f
  pub speed : IsFromZero b.values.s
  pub dwell : b.g.non_modal ≡ Some Dwell → (p : ℤ) × (b.values.p ≡ Some p) × (pos 0 ≤ℤ p)
  pub system : b.g.non_modal ≡ Some SetOrigin → (n : ℕ) × (system_on b.values.p ≡ Some n)
  pub repeats : is_cycle b.movement ≡ true → IfSome b.values.l (λ v. whole_of v ≡ Some (pos (repeats_on b.values.l)))
  pub plane : is_cycle b.movement ≡ true → plane_after b m ≡ Xy
