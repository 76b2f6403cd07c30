-- What a storage promises whose failed sync forgets what it couldn't write, as that of Linux does: a read returns it, no
-- later sync writes it, and the disk has it not (own).
use Rattle.std.specs.Prelude.{◌≡◌, ◌⊎◌, ◌-◌, ◌*◌, ◌/◌, ◌<◌, ℕ, List, Option, Result, IfSome, IsOkAnd, OnOk, length}
use Rattle.ng_file.specs.Bytes.{sector_of}

pub record WeakPromise : Type 1 where
  -- where it does what is said below
  pub honest : Type 0
  -- what a sector may hold once power was lost
  pub may_hold : ℕ → List ℕ → Type 0
  -- where a sync may leave the sector as it is on the disk
  pub forgets : ℕ → Type 0

abbrev pub no_weak_promise : WeakPromise
no_weak_promise = record { honest = ⊥; may_hold = λ n c. Unit {0}; forgets = λ n. Unit {0} }

-- A call preserves honesty in both directions, and the fact holds of an honest storage.
pub record IfWeaklyPromised (old new : WeakPromise) (fact : Type 0) : Type 0 where
  pub keeps : old.honest → new.honest
  pub back : new.honest → old.honest
  pub holds : old.honest → fact

-- Each sector may hold nothing that it couldn't hold before, and no other is forgotten.
pub record HoldsNothingMore (old new : WeakPromise) : Type 0 where
  pub holds : (n : ℕ) (c : List ℕ) → new.may_hold n c → old.may_hold n c
  pub forgets : (n : ℕ) → new.forgets n → old.forgets n

-- Nothing but these bytes, in the sector at this place. Once they are written, that sector isn't forgotten.
pub record PutsAnew {T E : Type 0} (result : Result T E) (place : ℕ) (bytes : List ℕ) (old new : WeakPromise) : Type 0 where
  pub holds : (m : ℕ) → place ≡ 512 * m → (n : ℕ) (c : List ℕ) → new.may_hold n c → ((n ≡ m) × (c ≡ bytes)) ⊎ old.may_hold n c
  pub forgets : (n : ℕ) → new.forgets n → old.forgets n
  pub anew : OnOk result ((m : ℕ) → place ≡ 512 * m → new.forgets m → ⊥)

-- A good sync makes all durable but what is forgotten. One that fails may forget anything.
pub record SyncsTheRest {T E : Type 0} (result : Result T E) (content : Option (List ℕ)) (old new : WeakPromise) : Type 0 where
  pub holds : (n : ℕ) (c : List ℕ) → new.may_hold n c → old.may_hold n c
  pub forgets : OnOk result ((n : ℕ) → new.forgets n → old.forgets n)
  pub durable : OnOk result (IfSome content (λ held. (n : ℕ) (c : List ℕ) → (old.forgets n → ⊥) → new.may_hold n c → c ≡ sector_of n held))

-- Sectors were written again as they are read. These aren't forgotten any more.
pub record Rewrote (held : List ℕ) (old new : WeakPromise) (these : ℕ → Type 0) : Type 0 where
  pub holds : (n : ℕ) (c : List ℕ) → new.may_hold n c → (c ≡ sector_of n held) ⊎ old.may_hold n c
  pub forgets : (n : ℕ) → new.forgets n → old.forgets n
  pub anew : (n : ℕ) → these n → new.forgets n → ⊥

-- the same of bytes that are known; these, where the call succeeded
abbrev pub Rewrites : {T E : Type 0} → Result T E → Option (List ℕ) → WeakPromise → WeakPromise → (List ℕ → ℕ → Type 0) → Type 0
Rewrites result content old new these = IfSome content (λ held. Rewrote held old new (λ n. IsOkAnd result (λ _. these held n)))

-- one of the first sectors of these bytes, at most so many, or the last
abbrev pub IsFirstOrLast : ℕ → List ℕ → ℕ → Type 0
IsFirstOrLast most held n = ((n < most) × (n < length held / 512)) ⊎ (n ≡ length held / 512 - 1)
