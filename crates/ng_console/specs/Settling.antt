-- What is durable of a device's file before power on (own), where a sync that fails forgets what it couldn't write.
use Rattle.std.specs.Prelude.{◌≡◌, ◌⊎◌, ◌/◌, ℕ, List, true, length}
use Rattle.ng_rig.specs.Trace.{Image}
use Rattle.ng_layout.specs.Areas.{large_size}
use Rattle.ng_layout.specs.Stands.{in_force, stands}
use Rattle.ng_file.specs.Bytes.{sector_of}
use Rattle.ng_file.specs.Promise.{IsLeft}
use Rattle.ng_file.specs.WeakPromise.{IsFirstOrLast, WeakPromise}
use Rattle.ng_console.specs.Grow.{is_device}
use Rattle.ng_console.specs.Lengthening.{image_in}

-- The image has the header in force that these bytes have, and stands for what they stand for.
pub record StandsAsRead (held : List ℕ) (image : Image) : Type 0 where
  pub header : in_force image ≡ in_force (image_in held)
  pub state : stands image ≡ stands (image_in held)

-- so it is with each image that a loss of power leaves of these bytes, of as many sectors
abbrev pub LeavesWhatStands : List ℕ → WeakPromise → Type 0
LeavesWhatStands held promise = (image : Image)
    → IsLeft (length held / 512) (record { honest = promise.honest; may_hold = promise.may_hold }) image
    → StandsAsRead held image

-- A file with these bytes was settled. A sector may hold what is read of it, or what it could hold. It can't hold anything
-- but what is read, unless it had been forgotten; and of a device not even then, if a large device has it or it is the
-- last: none of these is forgotten any more. So a loss of power leaves what stands for what is read, by which power on
-- goes.
pub record SettlesTheRest (held : List ℕ) (old new : WeakPromise) : Type 0 where
  pub holds : (n : ℕ) (c : List ℕ) → new.may_hold n c → (c ≡ sector_of n held) ⊎ old.may_hold n c
  pub others : (n : ℕ) (c : List ℕ) → (old.forgets n → ⊥) → new.may_hold n c → c ≡ sector_of n held
  pub device : is_device held ≡ true → (n : ℕ) (c : List ℕ) → IsFirstOrLast large_size held n → new.may_hold n c → c ≡ sector_of n held
  pub anew : is_device held ≡ true → (n : ℕ) → IsFirstOrLast large_size held n → new.forgets n → ⊥
  pub leaves : is_device held ≡ true → LeavesWhatStands held new
