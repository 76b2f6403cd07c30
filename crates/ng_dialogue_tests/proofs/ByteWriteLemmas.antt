-- What a write leaves of the sectors of bytes that last at once.
use Rattle.std.proofs.Common.{◌≡◌, ◌⊎◌, inl, inr, ℕ, ◌+◌, ◌*◌, ◌≤◌, List, ◌∙◌, ap, sym, subst, length, Result, Ok, Err, arith}
use Rattle.std.proofs.lemmas.Bool.{cases_eq}
use Rattle.ng_file.specs.Bytes.{sector_of, with_bytes}
use Rattle.ng_file.specs.Promise.{Promise, IfPromised, MayHoldBesides}
use Rattle.ng_file.proofs.SectorLemmas.{put-itself, put-other}

besides-at : (m : ℕ) (bytes held : List ℕ) → length bytes ≡ 512 → 512 * m + 512 ≤ length held → (n : ℕ) (c : List ℕ)
    → c ≡ sector_of n (with_bytes (512 * m) bytes held)
    → ((n ≡ m) × (c ≡ bytes)) ⊎ (c ≡ sector_of n held)
besides-at m bytes held whole fits n c is = elim (cases_eq n m) [
  | inl same ↦ inl (same, is ∙ ap (λ (k : ℕ). sector_of k (with_bytes (512 * m) bytes held)) same ∙ put-itself m bytes held whole fits)
  | inr other ↦ inr (is ∙ put-other m n bytes held whole fits other)
]

pub besides : (place : ℕ) (bytes held : List ℕ) → length bytes ≡ 512 → place + 512 ≤ length held → (m : ℕ) → place ≡ 512 * m → (n : ℕ) (c : List ℕ)
    → c ≡ sector_of n (with_bytes place bytes held) → ((n ≡ m) × (c ≡ bytes)) ⊎ (c ≡ sector_of n held)
besides place bytes held whole fits m at n c is =
    besides-at m bytes held whole (subst (λ (p : ℕ). p + 512 ≤ length held) at fits) n c (subst (λ (p : ℕ). c ≡ sector_of n (with_bytes p bytes held)) at is)
