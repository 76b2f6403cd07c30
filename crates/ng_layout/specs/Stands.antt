-- What an image of a device stands for (own).
use Rattle.std.specs.Prelude.{◌≡◌, ℕ, ◌+◌, ◌-◌, Bool, length, ◌<◌, ◌≤◌, nat_lt, nat_le, List, [], ℤ, unsigned_abs}
use Rattle.std.specs.Prelude.{Option, Some, None, is_some, Result, Ok, Err, if◌then◌else◌}
use Rattle.std.specs.Option.{option_map}
use Rattle.std.specs.List.{list_all}
use Rattle.ng_num.specs.Range.{greatest}
use Rattle.ng_num.specs.declared.fault.Fault.{Fault}
use Rattle.ng_num.specs.declared.fault.Fault.TheVariants.{NotFormatted, Damaged}
use Rattle.ng_params.specs.Numbers.{parameter_count}
use Rattle.ng_layout.specs.Fields.{number_at}
use Rattle.ng_layout.specs.declared.header.Header.{Header}
use Rattle.ng_layout.specs.Header.{header_in, program_limit_of}
use Rattle.ng_layout.specs.Decoding.{and_then, decoded_state_of}
use Rattle.ng_layout.specs.Sectors.{values, program_text}
use Rattle.ng_layout.specs.Areas.{large_size, snapshot_size, snapshot_first, tools_size, tools_first, program_size}
use Rattle.ng_layout.specs.Areas.{program_first, log_first, log_size_of, shortest_log}
use Rattle.ng_layout.specs.Tools.{tools_in}
use Rattle.ng_layout.specs.declared.header.Format.{Format}
use Rattle.ng_layout.specs.declared.header.Format.TheVariants.{One, Two}
use Rattle.ng_layout.specs.Log.{ReplayState, run}
use Rattle.ng_layout.specs.Stored.{HalfModel, StoredModel, DurableState}

-- this many sectors of an image from the first on, and nothing past them
unfoldable pub stretch : ℕ → ℕ → (ℕ → List ℕ) → ℕ → List ℕ
stretch first size image n = if nat_lt n size then image (first + n) else []

-- the text of the program that a header names
abbrev pub program_under : Header → (ℕ → List ℕ) → List ℕ
program_under h image = program_text h.length (stretch (program_first h.area) (program_size h.area) image)

-- of two valid headers the one with the greater epoch
abbrev pub newer : Option Header → Option Header → Option Header
newer None b = b
newer (Some a) None = Some a
newer (Some a) (Some b) = if nat_lt a.epoch b.epoch then Some b else Some a

-- the device has all sectors of a large one
abbrev pub is_large : (ℕ → List ℕ) → Bool
is_large image = nat_lt 0 (length (image (large_size - 1)))

-- the header in force
unfoldable pub in_force : (ℕ → List ℕ) → Option Header
in_force image = newer (header_in (is_large image) 0 (image 0)) (header_in (is_large image) 1 (image 1))

-- these values, if each is within the range
abbrev pub all_counts : List ℤ → Option (List ℤ)
all_counts params = if list_all (λ n. nat_le (unsigned_abs n) greatest) params then Some params else None

-- what a snapshot and its tool area say
unfoldable pub snapshot : Format → ℕ → (ℕ → List ℕ) → (ℕ → List ℕ) → Option ReplayState
snapshot format length row area =
    and_then (decoded_state_of length (row 0))
    (λ decoded. and_then (all_counts (values parameter_count row))
    (λ params. and_then (tools_in format (row 0) area) (λ tools.
    Some (record { decoded = decoded; params = params; tools = tools }))))

-- the state that was found, with the program and the limit of one
abbrev pub standing : ℕ → Option ReplayState → List ℕ → ℕ → Result DurableState Fault
standing program_limit None program length = Err Damaged
standing program_limit (Some f) program length = Ok (record {
  saved = record {
    entries = f.decoded.entries;
    setup = record { params = f.params; modal = f.decoded.modal };
    tools = f.tools;
    place = f.decoded.place;
    length = length;
    program_limit = program_limit;
    half = f.decoded.half;
  };
  program = program;
})

-- what a header, its snapshot, its tool area, its program and the log stand for on a device with this program limit
unfoldable pub durable_state_under : ℕ → Header → (ℕ → List ℕ) → (ℕ → List ℕ) → (ℕ → List ℕ) → (ℕ → List ℕ) → Result DurableState Fault
durable_state_under program_limit h area tools text log =
    standing program_limit (run (log_size_of h) h.format h.length log h.epoch
    (record { at = 0; number = 0; found = snapshot h.format h.length area tools })).found
    (program_text h.length text) h.length

abbrev pub by_header : Option Header → (Header → Result DurableState Fault) → Result DurableState Fault
by_header None f = Err NotFormatted
by_header (Some h) f = f h

-- what an image stands for by itself; a device of format 1 has no tool table
unfoldable pub stands : (ℕ → List ℕ) → Result DurableState Fault
stands image = by_header (in_force image)
    (λ h. durable_state_under (program_limit_of (is_large image)) h
    (stretch (snapshot_first h.epoch) snapshot_size image) (stretch (tools_first h.epoch) tools_size image)
    (stretch (program_first h.area) (program_size h.area) image) (stretch log_first (log_size_of h) image))

-- the epoch in force, 0 if there is none
abbrev pub epoch_in_force : Option Header → ℕ
epoch_in_force None = 0
epoch_in_force (Some h) = h.epoch

-- what is stored, with this table if the format has none
abbrev pub saved_beside : List ℤ → Format → StoredModel → StoredModel
saved_beside tools One s = record s { tools = tools }
saved_beside tools Two s = s

abbrev pub beside_format : List ℤ → Format → DurableState → DurableState
beside_format tools format s = record s { saved = saved_beside tools format s.saved }

abbrev pub beside_header : List ℤ → Option Header → Result DurableState Fault → Result DurableState Fault
beside_header tools None x = x
beside_header tools (Some h) (Ok s) = Ok (beside_format tools h.format s)
beside_header tools (Some h) (Err e) = Err e

-- what an image stands for, given the table of the settings, which counts if the header in force is of format 1
unfoldable pub stands_beside : List ℤ → (ℕ → List ℕ) → Result DurableState Fault
stands_beside tools image = beside_header tools (in_force image) (stands image)

-- The header in force is of format 2, so the table of the settings doesn't count.
pub record IsModern (image : ℕ → List ℕ) : Type 0 where
  pub header : Header
  pub force : in_force image ≡ Some header
  pub format : header.format ≡ Two

-- The sectors that belong to the log in both formats hold no part of an epoch still to come. This holds of each image
-- that the journal leaves.
pub record IsWritten (image : ℕ → List ℕ) : Type 0 where
  pub past : (m : ℕ) → m < shortest_log → number_at 8 0 (image (log_first + m)) ≤ epoch_in_force (in_force image)

-- nothing open; if something was open, the machine's position isn't known
abbrev pub closed : HalfModel → HalfModel
closed half = record half { at = if is_some half.opened then None else half.at; opened = None }

-- what power on makes of a durable state
abbrev pub recovered : DurableState → DurableState
recovered s = record s { saved = record s.saved { half = option_map closed s.saved.half } }
