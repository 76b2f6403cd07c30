-- What a storage promises, and what a loss of power may leave of its bytes (own).
use Rattle.std.specs.Prelude.{◌≡◌, ◌⊎◌, ◌*◌, ◌<◌, ◌≤◌, ℕ, List, [], Option, IfSome}
use Rattle.ng_rig.specs.Trace.{Image}
use Rattle.ng_file.specs.Bytes.{sector_of}

pub record Promise : Type 1 where
  -- where it does what is said below
  pub honest : Type 0
  -- what a sector may hold once power was lost
  pub may_hold : ℕ → List ℕ → Type 0

abbrev pub no_promise : Promise
no_promise = record { honest = ⊥; may_hold = λ n c. Unit {0} }

-- A call preserves honesty in both directions, and the fact holds of an honest storage.
pub record IfPromised (old new : Promise) (fact : Type 0) : Type 0 where
  pub keeps : old.honest → new.honest
  pub back : new.honest → old.honest
  pub holds : old.honest → fact

-- each sector may hold nothing that it couldn't hold before
abbrev pub HoldsNothingNew : Promise → Promise → Type 0
HoldsNothingNew old new = (n : ℕ) (c : List ℕ) → new.may_hold n c → old.may_hold n c

-- nothing but these bytes, in the sector at this place
abbrev pub MayHoldBesides : ℕ → List ℕ → Promise → Promise → Type 0
MayHoldBesides place bytes old new =
    (m : ℕ) → place ≡ 512 * m → (n : ℕ) (c : List ℕ) → new.may_hold n c → ((n ≡ m) × (c ≡ bytes)) ⊎ old.may_hold n c

-- a loss of power leaves of each sector what a read returns
abbrev pub IsDurable : Option (List ℕ) → Promise → Type 0
IsDurable content promise = IfSome content (λ held. (n : ℕ) (c : List ℕ) → promise.may_hold n c → c ≡ sector_of n held)

-- What a loss of power leaves of a storage with so many sectors: of each something that it may hold then, and nothing
-- past them.
pub record IsLeft (count : ℕ) (promise : Promise) (image : Image) : Type 0 where
  pub within : (n : ℕ) → n < count → promise.may_hold n (image n)
  pub past : (n : ℕ) → count ≤ n → image n ≡ []
