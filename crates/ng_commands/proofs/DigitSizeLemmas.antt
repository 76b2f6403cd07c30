-- How large the number is that digits stand for.
use Rattle.std.proofs.Common.{◌≡◌, ◌≤◌, ◌<◌, ◌+◌, ◌-◌, ◌*◌, ◌^◌, ℕ, List, [], ◌∷◌, length, arith}
use native.Mathlib.Nat.{pow-le-pow_right}
use Rattle.ng_words.specs.Grammar.{AreDigits, written_after}
use Rattle.ng_words.proofs.SeventhDigitLemmas.{written_lt}
use Rattle.ng_commands.specs.Commands.{AreDigitsOf}

-- more digits stand for at least as large a number
pub written_grows : (n : ℕ) (digits : List ℕ) → n ≤ written_after n digits
written_grows n [] = omega arith
written_grows n (d ∷ ds) =
    let rest : n * 10 + (d - 48) ≤ written_after (n * 10 + (d - 48)) ds = written_grows (n * 10 + (d - 48)) ds in
    omega (arith, rest)

-- if the number of the first digits is above the greatest, so is the number of all
pub too_great : (greatest value : ℕ) (rest digits : List ℕ) → greatest < value → written_after value rest ≡ written_after 0 digits
    → (n : ℕ) → n ≤ greatest → AreDigitsOf digits n → ⊥
too_great greatest value rest digits great same n small writes =
    let grows : value ≤ written_after value rest = written_grows value rest in
    let is : n ≡ written_after 0 digits = writes.2 in
    omega (arith, grows, is, same)

seven_digits : (digits : List ℕ) → AreDigits digits → length digits ≤ 7 → written_after 0 digits ≤ 9_999_999
seven_digits digits are short =
    let most : 10 ^ length digits ≤ 10 ^ 7 = pow-le-pow_right {n = 10} (omega arith) short in
    let below : written_after 0 digits < 10 ^ length digits = written_lt digits are in
    omega (arith, most, below)

-- digits of a number above seven nines aren't a length
pub no_length : (digits : List ℕ) → ((n : ℕ) → n ≤ 9_999_999 → AreDigitsOf digits n → ⊥) → (n : ℕ) → AreDigitsOf digits n → length digits ≤ 7 → ⊥
no_length digits none n writes short =
    let small : written_after 0 digits ≤ 9_999_999 = seven_digits digits writes.0 short in
    let is : n ≡ written_after 0 digits = writes.2 in
    none n (omega (arith, small, is)) writes

three_digits : (digits : List ℕ) → AreDigits digits → length digits ≤ 3 → written_after 0 digits ≤ 999
three_digits digits are short =
    let most : 10 ^ length digits ≤ 10 ^ 3 = pow-le-pow_right {n = 10} (omega arith) short in
    let below : written_after 0 digits < 10 ^ length digits = written_lt digits are in
    omega (arith, most, below)

-- and with a number above three nines they aren't a slot's number
pub no_slot : (digits : List ℕ) → ((n : ℕ) → n ≤ 999 → AreDigitsOf digits n → ⊥) → (n : ℕ) → AreDigitsOf digits n → length digits ≤ 3 → ⊥
no_slot digits none n writes short =
    let small : written_after 0 digits ≤ 999 = three_digits digits writes.0 short in
    let is : n ≡ written_after 0 digits = writes.2 in
    none n (omega (arith, small, is)) writes
