-- If no cause holds, the words are as required.
use Rattle.std.proofs.Common.{◌≡◌, ◌≤◌, arith, rules, ℕ, ℤ, pos, negsuc, Bool, true, false, List, Option, Some, None, refl, subst}
use Rattle.std.specs.Prelude.{not, ◌||◌, ◌&&◌, nat_lt, nat_le, ◌≤ℤ◌, max, IsSome, IfSome, Result, Ok, Err, MatchResult, OnOk}
use Rattle.std.specs.Option.{is_none, option_and_then}
use Rattle.std.proofs.lemmas.Bool.{ltb-false}
use Rattle.ng_num.specs.Whole.{whole_of}
use Rattle.ng_num.specs.declared.fault.Fault.{Fault}
use Rattle.ng_params.specs.Numbers.{system_of}
use Rattle.ng_canon.specs.declared.plane.Plane.{Plane}
use Rattle.ng_canon.specs.declared.plane.Plane.TheVariants.{Xy, Xz, Yz}
use Rattle.ng_expr.specs.declared.word.Word.{Word}
use Rattle.ng_modal.specs.Block.{plane_after}
use Rattle.ng_modal.specs.Movement.{is_cycle}
use Rattle.ng_modal.specs.BlockOfWords.{block_of}
use Rattle.ng_modal.specs.Causes.{is_unused_word, is_dwell, is_set_origin, is_of_slot, is_whole_within, is_between, is_negative, is_positive, is_along_z}
use Rattle.ng_num.specs.Causes.{first_fault, NoneHolds}
use Rattle.ng_num.proofs.FirstFaultLemmas.{unless_ok}
use Rattle.ng_modal.specs.Checking.{faults, checked}
use Rattle.ng_modal.specs.WholeNumbers.{slot_of, repeats_by, repeats_on, IsSlot, IsFromZero, IsAccepted}
use Rattle.ng_modal.specs.declared.requests.NonModal.{NonModal}
use Rattle.ng_modal.specs.declared.requests.ToolLength.{ToolLength}
use Rattle.ng_modal.specs.declared.block.Block.{Block}
use Rattle.ng_state.specs.declared.modes.Modes.{Modes}
use Rattle.ng_modal.proofs.FirstCauseLemmas.{least}
use Rattle.ng_modal.proofs.TestLemmas.{and_left, and_right, or_left, or_right, not_true, not_false}

-- a number within limits
slot_within : (slots : ℕ) → slots ≤ 255 → (n : Option ℤ) → is_between (pos 0) (pos slots) n ≡ true → (k : ℕ)
    × (option_and_then slot_of n ≡ Some k) × (k ≤ slots)
slot_within slots few None e = absurd (cc e)
slot_within slots few (Some (negsuc n)) e = absurd (cc e)
slot_within slots few (Some (pos n)) e =
    let inside : nat_lt slots n ≡ false = not_true (nat_lt slots n) (and_right (not (nat_lt n 0)) (not (nat_lt slots n)) e) in
    let at_most : n ≤ slots = ltb-false slots n inside in
    let fits : nat_le n 255 ≡ true = grind arith in
    (n, rw fits refl, at_most)

system_within : (n : Option ℤ) → is_between (pos 1) (pos 9) n ≡ true → (k : ℕ) × (option_and_then system_of n ≡ Some k)
system_within None e = absurd (cc e)
system_within (Some (negsuc n)) e = absurd (cc e)
system_within (Some (pos n)) e =
    let low : 1 ≤ n = ltb-false n 1 (not_true (nat_lt n 1) (and_left (not (nat_lt n 1)) (not (nat_lt 9 n)) e)) in
    let high : n ≤ 9 = ltb-false 9 n (not_true (nat_lt 9 n) (and_right (not (nat_lt n 1)) (not (nat_lt 9 n)) e)) in
    let is_low : nat_le 1 n ≡ true = grind arith in
    let is_high : nat_le n 9 ≡ true = grind arith in
    (n, rw (is_low, is_high) refl)

positive_by : (n : Option ℤ) → is_positive n ≡ true → n ≡ Some (pos (repeats_by n))
positive_by None e = absurd (cc e)
positive_by (Some (negsuc n)) e = absurd (cc e)
positive_by (Some (pos n)) e =
    let low : 1 ≤ n = ltb-false n 1 (not_true (nat_lt n 1) e) in
    let same : max 1 n ≡ n = grind arith in
    rw same refl

-- words
a_slot : (slots : ℕ) → slots ≤ 255 → (word : Option ℤ) → is_unused_word word (is_whole_within (pos 0) (pos slots) word) ≡ false → IsSlot word slots
a_slot slots few None e = tt
a_slot slots few (Some v) e = slot_within slots few (whole_of v) (not_false (is_between (pos 0) (pos slots) (whole_of v)) e)

from_zero : (word : Option ℤ) → is_negative word ≡ false → IsFromZero word
from_zero None e = tt
from_zero (Some (pos n)) e = search rules
from_zero (Some (negsuc n)) e = absurd (cc e)

a_dwell : (p : Option ℤ) → is_none p ≡ false → is_negative p ≡ false → (v : ℤ) × (p ≡ Some v) × (pos 0 ≤ℤ v)
a_dwell None e _ = absurd (cc e)
a_dwell (Some v) e w = (v, refl, from_zero (Some v) w)

is_given : (word : Option ℤ) → is_none word ≡ false → IsSome word
is_given None e = absurd (cc e)
is_given (Some v) e = search rules

a_count : (word : Option ℤ) → is_unused_word word (is_positive (option_and_then whole_of word)) ≡ false
    → IfSome word (λ v. whole_of v ≡ Some (pos (repeats_on word)))
a_count None e = tt
a_count (Some v) e = positive_by (whole_of v) (not_false (is_positive (whole_of v)) e)

is_xy : (plane : Plane) → is_along_z plane ≡ false → plane ≡ Xy
is_xy Xy e = refl
is_xy Xz e = absurd (cc e)
is_xy Yz e = absurd (cc e)

pub accepted : (ws : List Word) (m : Modes) (slots : ℕ) → slots ≤ 255 → NoneHolds (faults ws m slots) → IsAccepted (block_of ws m) m slots
accepted ws m slots few h =
    let b : Block = block_of ws m in
    let v = b.values in
    let from13 = h.1.1.1.1.1.1.1.1.1.1.1.1 in
    let from15 = from13.1.1 in
    let slot_t : Bool = is_unused_word v.t (is_whole_within (pos 0) (pos slots) v.t) in
    let slot_h : Bool = is_unused_word v.h (is_whole_within (pos 0) (pos slots) v.h) in
    let is_still : Bool = is_dwell b.g.non_modal && is_negative v.p in
    let later : (is_negative v.s || is_still) ≡ false = or_right (is_negative v.f) (is_negative v.s || is_still) from13.0 in
    let counts : (is_cycle b.movement && is_unused_word v.l (is_positive (option_and_then whole_of v.l))) ≡ false =
    or_right (is_set_origin b.g.non_modal && not (is_whole_within (pos 2) (pos 2) v.l))
    (is_cycle b.movement && is_unused_word v.l (is_positive (option_and_then whole_of v.l))) from15.0 in
    record {
      selected = a_slot slots few v.t (or_left slot_t slot_h from13.1.0);
      of_length = a_slot slots few v.h (or_right slot_t slot_h from13.1.0);
      length_given = λ is. is_given v.h (let P : Option ToolLength → Type 0 = λ x. (is_of_slot x && is_none v.h) ≡ false in subst P is from15.1.1.1.0);
      feed = from_zero v.f (or_left (is_negative v.f) (is_negative v.s || is_still) from13.0);
      speed = from_zero v.s (or_left (is_negative v.s) is_still later);
      dwell = λ is.
          a_dwell v.p
          (let P : Option NonModal → Type 0 = λ x. (is_dwell x && is_none v.p) ≡ false in subst P is from15.1.1.0)
          (let P : Option NonModal → Type 0 = λ x. (is_dwell x && is_negative v.p) ≡ false in subst P is (or_right (is_negative v.s) is_still later));
      system = λ is.
          system_within (option_and_then whole_of v.p)
          (not_false (is_whole_within (pos 1) (pos 9) v.p)
          (let P : Option NonModal → Type 0 = λ x. (is_set_origin x && not (is_whole_within (pos 1) (pos 9) v.p)) ≡ false in subst P is from15.1.0));
      repeats = λ is. a_count v.l
          (let P : Bool → Type 0 = λ x. (x && is_unused_word v.l (is_positive (option_and_then whole_of v.l)))
          ≡ false in subst P is counts);
      plane = λ is. is_xy (plane_after b m) (let P : Bool → Type 0 = λ x. (x && is_along_z (plane_after b m)) ≡ false in subst P is from15.1.1.1.1.0);
    }

-- an answer whose block is stored elsewhere
pub accepted_by : (ws : List Word) (m : Modes) (slots : ℕ) → slots ≤ 255 → (b : Block) (r : Result (Unit {0}) Fault) →
    MatchResult r (λ _. checked ws m slots ≡ Ok b) (λ fault. checked ws m slots ≡ Err fault) →
    OnOk r (IsAccepted b m slots)
accepted_by ws m slots few b (Ok _) e =
    let Known : Block → Type 0 = λ x. IsAccepted x m slots in
    subst Known (unless_ok (first_fault (faults ws m slots)) (block_of ws m) b e).1 (accepted ws m slots few (least ws m slots (Ok b) e))
accepted_by ws m slots few b (Err fault) e = tt
