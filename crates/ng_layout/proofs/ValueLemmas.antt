-- Each value is read from one number only.
use Rattle.std.proofs.Common.{◌≡◌, ◌==◌, ◌<◌, ◌≤◌, ℕ, ◌+◌, ◌*◌, ◌/◌, ◌%◌, Bool, ℤ, pos, Option, Some, is_some, sym, ◌∙◌}
use Rattle.std.proofs.Common.{arith}
use Rattle.std.proofs.lemmas.Bool.Decides.{nat_tests}
use Rattle.ng_num.specs.declared.unit.Unit.{Unit as LengthUnit}
use Rattle.ng_canon.specs.declared.plane.Plane.{Plane}
use Rattle.ng_canon.specs.declared.outputs.Spindle.{Spindle}
use Rattle.ng_params.specs.Numbers.{index_of, system_of}
use Rattle.ng_state.specs.declared.modes.Motion.{Motion}
use Rattle.ng_state.specs.declared.kept_words.KeptWords.{KeptWords}
use Rattle.ng_state.specs.declared.modes.Distance.{Distance}
use Rattle.ng_state.specs.declared.modes.FeedMode.{FeedMode}
use Rattle.ng_state.specs.declared.modes.Retract.{Retract}
use Rattle.ng_state.specs.declared.modes.PathMode.{PathMode}
use Rattle.ng_layout.specs.Codes.{motion_of, plane_of, distance_of, feed_mode_of, unit_of, retract_of, path_of}
use Rattle.ng_layout.specs.Codes.{spindle_of, truth_of, source_of, opened_of}
use Rattle.ng_layout.specs.Decoding.{up_to, count_of, rate_of}
use Rattle.ng_layout.specs.declared.half.Source.{Source}
use Rattle.ng_layout.specs.declared.half.Opened.{Opened}
use Rattle.ng_layout.proofs.EncodingLemmas.{BitsTell}

pub motion-one : (m n : ℕ) (x : Motion) → motion_of m ≡ Some x → motion_of n ≡ Some x → m ≡ n
motion-one m n x one other = grind (arith, nat_tests)

pub plane-one : (m n : ℕ) (x : Plane) → plane_of m ≡ Some x → plane_of n ≡ Some x → m ≡ n
plane-one m n x one other = grind (arith, nat_tests)

pub distance-one : (m n : ℕ) (x : Distance) → distance_of m ≡ Some x → distance_of n ≡ Some x → m ≡ n
distance-one m n x one other = grind (arith, nat_tests)

pub feed_mode-one : (m n : ℕ) (x : FeedMode) → feed_mode_of m ≡ Some x → feed_mode_of n ≡ Some x → m ≡ n
feed_mode-one m n x one other = grind (arith, nat_tests)

pub unit-one : (m n : ℕ) (x : LengthUnit) → unit_of m ≡ Some x → unit_of n ≡ Some x → m ≡ n
unit-one m n x one other = grind (arith, nat_tests)

pub retract-one : (m n : ℕ) (x : Retract) → retract_of m ≡ Some x → retract_of n ≡ Some x → m ≡ n
retract-one m n x one other = grind (arith, nat_tests)

pub path-one : (m n : ℕ) (x : PathMode) → path_of m ≡ Some x → path_of n ≡ Some x → m ≡ n
path-one m n x one other = grind (arith, nat_tests)

pub spindle-one : (m n : ℕ) (x : Spindle) → spindle_of m ≡ Some x → spindle_of n ≡ Some x → m ≡ n
spindle-one m n x one other = grind (arith, nat_tests)

pub truth-one : (m n : ℕ) (x : Bool) → truth_of m ≡ Some x → truth_of n ≡ Some x → m ≡ n
truth-one m n x one other = grind (arith, nat_tests)

pub source-one : (m n : ℕ) (x : Option Source) → source_of m ≡ Some x → source_of n ≡ Some x → m ≡ n
source-one m n x one other = grind (arith, nat_tests)

pub opened-one : (m n : ℕ) (x : Option Opened) → opened_of m ≡ Some x → opened_of n ≡ Some x → m ≡ n
opened-one m n x one other = grind (arith, nat_tests)

pub most-one : (limit n m : ℕ) → up_to limit n ≡ Some m → n ≡ m
most-one limit n m is = grind (arith, nat_tests)

pub count-one : (n z : ℤ) → count_of n ≡ Some z → n ≡ z
count-one n z is = grind (arith, nat_tests)

pub rate-one : (m n : ℕ) (z : ℤ) → rate_of m ≡ Some z → rate_of n ≡ Some z → m ≡ n
rate-one m n z one other = let a : pos m ≡ pos n = count-one (pos m) z one ∙ sym (count-one (pos n) z other) in cc

pub system-one : (m n s : ℕ) → system_of (pos m) ≡ Some s → system_of (pos n) ≡ Some s → m ≡ n
system-one m n s one other = grind (arith, nat_tests)

pub index-one : (m n s : ℕ) → index_of (pos m) ≡ Some s → index_of (pos n) ≡ Some s → m ≡ n
index-one m n s one other = grind (arith, nat_tests)

bit : (b c : ℕ) (known : Bool) → b < 2 → c < 2 → (b == 1) ≡ known → (c == 1) ≡ known → b ≡ c
bit b c known small small' one other = grind (arith, nat_tests)

parts : (n : ℕ) → n ≡ 8 * (n / 8) + 4 * (n / 4 % 2) + 2 * (n / 2 % 2) + n % 2
parts n = omega arith

most : (limit n : ℕ) → up_to limit n ≡ Some n → n ≤ limit
most limit n is = grind (arith, nat_tests)

-- the bits of the words that are kept
pub bits-one : (m n : ℕ) (kept : KeptWords) → BitsTell m kept → BitsTell n kept → m ≡ n
bits-one m n kept one other =
    let most-m : m ≤ 15 = most 15 m one.all in
    let most-n : n ≤ 15 = most 15 n other.all in
    let r : m % 2 ≡ n % 2 = bit (m % 2) (n % 2) (is_some kept.r) (omega arith) (omega arith) one.r other.r in
    let z : m / 2 % 2 ≡ n / 2 % 2 =
    bit (m / 2 % 2) (n / 2 % 2) (is_some kept.z) (omega arith) (omega arith) one.z other.z in
    let p : m / 4 % 2 ≡ n / 4 % 2 =
    bit (m / 4 % 2) (n / 4 % 2) (is_some kept.p) (omega arith) (omega arith) one.p other.p in
    let q : m / 8 ≡ n / 8 = bit (m / 8) (n / 8) (is_some kept.q) (omega arith) (omega arith) one.q other.q in
    parts m ∙ (λ i. 8 * q i + 4 * p i + 2 * z i + r i) ∙ sym (parts n)
