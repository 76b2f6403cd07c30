-- What a write leaves of the sectors of bytes in a cache.
use Rattle.std.proofs.Common.{◌≡◌, ◌⊎◌, inl, inr, ℕ, zero, suc, ◌+◌, ◌*◌, ◌<◌, ◌≤◌, List, [], ◌∷◌, ◌++◌, Contains, ap, sym, subst, ◌∙◌, length, Result, Ok, Err, IfOk, arith}
use Rattle.std.specs.Prelude.{slice_index_or}
use Rattle.std.proofs.lemmas.List.Elements.{Contains-append_cases}
use Rattle.ng_file.specs.Bytes.{sector_of, with_bytes}
use Rattle.ng_dialogue_tests.proofs.ByteWriteLemmas.{besides}

-- the only element of a list
single : {X : Type 0} (x y : X) → Contains (x ∷ []) y → x ≡ y
single {X} x y has = at has.0 has.1 has.2
  where
    at : (k : ℕ) → k < length (x ∷ []) → slice_index_or (x ∷ []) k y ≡ y → x ≡ y
    at zero lt is = is
    at (suc k) lt is = absurd (omega (arith, lt))

-- what a sector may hold: what is on the disk, what a read returns, or what is still to be written
abbrev pub may_hold : List ℕ → List ℕ → List (ℕ × List ℕ) → ℕ → List ℕ → Type 0
may_hold disk held pending n c = (c ≡ sector_of n disk) ⊎ ((c ≡ sector_of n held) ⊎ Contains pending (512 * n, c))

pub besides-cached : (place : ℕ) (bytes held disk : List ℕ) (pending : List (ℕ × List ℕ)) → length bytes ≡ 512 → place + 512 ≤ length held
    → (m : ℕ) → place ≡ 512 * m → (n : ℕ) (c : List ℕ) → may_hold disk (with_bytes place bytes held) (pending ++ (place, bytes) ∷ []) n c
    → ((n ≡ m) × (c ≡ bytes)) ⊎ may_hold disk held pending n c
besides-cached place bytes held disk pending whole fits m at n c (inl is) = inr (inl is)
besides-cached place bytes held disk pending whole fits m at n c (inr (inl is)) = elim (besides place bytes held whole fits m at n c is) [
  | inl put ↦ inl put
  | inr was ↦ inr (inr (inl was))
]
besides-cached place bytes held disk pending whole fits m at n c (inr (inr has)) =
    elim (Contains-append_cases pending ((place, bytes) ∷ []) (512 * n, c) has) [
      | inl was ↦ inr (inr (inr was))
      | inr now ↦
          let is = single (place, bytes) (512 * n, c) now in
          let here : place ≡ 512 * n = ap (λ (w : ℕ × List ℕ). w.0) is in
          inl (omega (arith, here, at), sym (ap (λ (w : ℕ × List ℕ). w.1) is))
    ]

-- what is left where the disk has what a read returns, and nothing is still to be written
pub durable : (disk held zeros : List ℕ) (pending : List (ℕ × List ℕ)) → disk ≡ zeros → held ≡ zeros → pending ≡ [] → (n : ℕ) (c : List ℕ)
    → may_hold disk held pending n c → c ≡ sector_of n held
durable disk held zeros pending on_disk is none n c (inl kept) = kept ∙ ap (sector_of n) (on_disk ∙ sym is)
durable disk held zeros pending on_disk is none n c (inr (inl same)) = same
durable disk held zeros pending on_disk is none n c (inr (inr has)) =
    let empty : Contains [] (512 * n, c) = subst (λ (p : List (ℕ × List ℕ)). Contains p (512 * n, c)) none has in
    absurd (omega (arith, empty.1))

-- what holds of a success under two conditions that hold
pub met : {T E A B : Type 0} (P : T → Type 0) (r : Result T E) → IfOk r (λ v. A → B → P v) → A → B → IfOk r P
met P (Ok v) so a b = so a b
met P (Err e) so a b = tt
