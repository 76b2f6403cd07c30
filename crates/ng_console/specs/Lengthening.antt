-- A small device in a file that is lengthened between two sessions (own).
use Rattle.std.specs.Prelude.{◌≡◌, ◌⊎◌, ◌≤◌, ◌<◌, ◌/◌, Bool, true, false, if◌then◌else◌, List, ◌∷◌, Option, Some, IfSome, length, ℕ, []}
use Rattle.ng_rig.specs.Trace.{Image}
use Rattle.ng_layout.specs.Areas.{greatest_area, header_count, least_size}
use Rattle.ng_layout.specs.declared.header.Format.TheVariants.{Two}
use Rattle.ng_layout.specs.Header.{header_at}
use Rattle.ng_layout.specs.Stands.{is_large}
use Rattle.ng_core.specs.Lifetime.{DeviceSession}
use Rattle.ng_file.specs.Sectors.{image_of}

-- A small device was lengthened, to a large one or in part: its sectors stay. Of its headers nothing is asked.
pub record IsLengthened (old new : Image) : Type 0 where
  pub small : is_large old ≡ false
  pub same : (n : ℕ) → n < least_size → new n ≡ old n

-- What power on finds: the image that was left, or that of the device lengthened since.
abbrev pub IsFoundInFile : Bool → Image → Image → Type 0
IsFoundInFile false left found = found ≡ left
IsFoundInFile true left found = IsLengthened left found

-- the device is grown before one of these sessions
abbrev pub grows : {A R : Type 0} → List (DeviceSession A R) → Bool
grows [] = false
grows (s ∷ ss) = if s.is_grown then true else grows ss

-- Both sectors of headers name an area that a small device has, be they valid or not. The number of the area is in the
-- same place in both formats.
abbrev pub NamesSmallAreas : Image → Type 0
NamesSmallAreas image = (k : ℕ) → k < header_count → (header_at Two (image k)).area ≤ greatest_area false

-- these bytes as an image, of as many sectors as are whole
abbrev pub image_in : List ℕ → Image
image_in held = image_of (length held / 512) (Some held)

-- The bytes stay, or they were those of a small device that was lengthened.
abbrev pub StayOrAreLengthened : Option (List ℕ) → Option (List ℕ) → Type 0
StayOrAreLengthened old new =
    IfSome old (λ held. (new ≡ old) ⊎ ((more : List ℕ) × ((new ≡ Some more) × IsLengthened (image_in held) (image_in more))))
