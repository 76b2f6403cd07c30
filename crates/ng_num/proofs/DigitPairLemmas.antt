-- The table of the two digits of each number below 100.
use Rattle.std.proofs.Common.{◌≡◌, ℕ, zero, suc, ◌+◌, ◌-◌, ◌*◌, ◌/◌, ◌%◌, ◌<◌, Bool, true, ◌&&◌, T, eqb, get_or, inl, inr, arith, eq-zero-or-pos, eqb→eq}
use lib.Ieee.Fits.{and_l, and_r}
use Rattle.ng_num.specs.declared.printing.TheConstants.{PAIRS}

-- the table has the two digits of p
abbrev HasPair : ℕ → Type 0
HasPair p = (get_or PAIRS (p * 2) 0 ≡ 48 + p / 10) × (get_or PAIRS (p * 2 + 1) 0 ≡ 48 + p % 10)

-- whether it has those of each number below n
abbrev has_pairs : ℕ → Bool
has_pairs zero = true
has_pairs (suc p) = (eqb (get_or PAIRS (p * 2) 0) (48 + p / 10) && eqb (get_or PAIRS (p * 2 + 1) 0) (48 + p % 10)) && has_pairs p

pair_below : (n p : ℕ) → T (has_pairs n) → p < n → HasPair p
pair_below zero p t h = absurd (omega arith)
pair_below (suc n) p t h =
    elim (eq-zero-or-pos (n - p)) [
      | inl z ↦
          let same : p ≡ n = omega arith in
          let both = and_l _ (has_pairs n) t in
          rw same (eqb→eq _ _ (and_l _ _ both), eqb→eq _ _ (and_r _ _ both))
      | inr g ↦ pair_below n p (and_r _ (has_pairs n) t) (omega arith)
    ]

-- by computation
pub has_pair : (p : ℕ) → p < 100 → HasPair p
has_pair p h = pair_below 100 p tt h
