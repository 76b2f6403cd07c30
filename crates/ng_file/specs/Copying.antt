-- A copy in memory of the device in a file (own).
use Rattle.std.specs.Prelude.{ℕ, zero, suc, ◌≡◌, ◌<◌, ◌≤◌, ◌*◌, ◌/◌, List, [], ◌∷◌, ◌++◌, Option, Some, length, min}
use Rattle.ng_rig.specs.Memory.{trace_of, sector_count}
use Rattle.ng_rig.specs.Trace.{Image, reads}
use Rattle.ng_rig.specs.declared.memory.MemoryRig.{MemoryRig}
use Rattle.ng_file.specs.Bytes.{sector_of}

-- how many sectors there are in these bytes, up to a number of them: all that are whole
abbrev pub sectors_in : ℕ → List ℕ → ℕ
sectors_in most held = min (length held / 512) most

-- the image of a device that has these sectors and no other
pub record IsImageOf (most : ℕ) (held : List ℕ) (image : Image) : Type 0 where
  pub within : (n : ℕ) → n < sectors_in most held → image n ≡ sector_of n held
  pub past : (n : ℕ) → sectors_in most held ≤ n → image n ≡ []

-- The device in memory has that image and as many sectors.
pub record IsCopy {A : Type 0} (most : ℕ) (held : List ℕ) (copy : MemoryRig A) : Type 0 where
  pub size : sector_count copy ≡ sectors_in most held
  pub image : IsImageOf most held (reads (trace_of copy))

-- what a reading of so many sectors gives if this is what they hold: each with its place, from the first on
abbrev pub reading : ℕ → Image → List (ℕ × List ℕ)
reading zero image = []
reading (suc n) image = reading n image ++ (512 * n, image n) ∷ []

-- The last reads were two readings of the device, one after the other, and both gave what the copy holds.
pub record IsReadTwice {A : Type 0} (copy : MemoryRig A) (before : List (ℕ × List ℕ)) (gave : Option (List (ℕ × List ℕ))) : Type 0 where
  pub earlier : List (ℕ × List ℕ)
  pub is : let last = reading (sector_count copy) (reads (trace_of copy)) in gave ≡ Some (before ++ (earlier ++ (last ++ last)))
