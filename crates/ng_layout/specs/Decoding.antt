-- What the bytes of a state field say; None if a number in them is out of range (own).
use Rattle.std.specs.Prelude.{ℕ, ◌+◌, ◌/◌, ◌%◌, ◌==◌, ◌&&◌, ◌||◌, Bool, true, false, not, nat_le, is_none, ℤ, pos}
use Rattle.std.specs.Prelude.{List, Option, Some, None, if◌then◌else◌}
use Rattle.std.specs.Bool.{then_some}
use Rattle.std.specs.Option.{option_map}
use Rattle.std.specs.Result.{result_ok}
use Rattle.ng_num.specs.Range.{in_range}
use Rattle.ng_num.specs.declared.point.Point.{Point}
use Rattle.ng_canon.specs.declared.outputs.Outputs.{Outputs}
use Rattle.ng_params.specs.Numbers.{system_of}
use Rattle.ng_state.specs.declared.modes.Modes.{Modes}
use Rattle.ng_state.specs.declared.modal_state.ModalState.{ModalState}
use Rattle.ng_offsets.specs.declared.offsets.Offsets.{Offsets}
use Rattle.ng_state.specs.declared.kept_words.KeptWords.{KeptWords}
use Rattle.ng_layout.specs.Codes.{motion_of, plane_of, distance_of, feed_mode_of, unit_of, retract_of, path_of}
use Rattle.ng_layout.specs.Codes.{spindle_of, truth_of, source_of, opened_of}
use Rattle.ng_layout.specs.Fields.{number_at, signed_at, bytes_at}
use Rattle.ng_layout.specs.Limits.{greatest_count, greatest_slot, longest_text}
use Rattle.ng_layout.specs.Stored.{HalfModel, DecodedStateModel}
use Rattle.ng_layout.specs.declared.half.Source.{Source}
use Rattle.ng_layout.specs.declared.half.Opened.{Opened}

-- what follows from a value, if there is one
abbrev pub and_then : {A B : Type 0} → Option A → (A → Option B) → Option B
and_then None f = None
and_then (Some x) f = f x

abbrev pub up_to : ℕ → ℕ → Option ℕ
up_to limit n = if nat_le n limit then Some n else None

-- a length or a number within the range of both
abbrev pub count_of : ℤ → Option ℤ
count_of n = result_ok (in_range n)

-- a feed or a speed
abbrev pub rate_of : ℕ → Option ℤ
rate_of n = count_of (pos n)

-- the point whose coordinates begin at this byte
abbrev pub point_at : ℕ → List ℕ → Option Point
point_at at bytes =
    and_then (count_of (signed_at at bytes)) (λ x.
    and_then (count_of (signed_at (at + 8) bytes)) (λ y.
    and_then (count_of (signed_at (at + 16) bytes)) (λ z.
    Some (record { x = x; y = y; z = z }))))

abbrev pub modes_in : List ℕ → Option Modes
modes_in bytes =
    and_then (motion_of (number_at 1 144 bytes)) (λ motion.
    and_then (plane_of (number_at 1 145 bytes)) (λ plane.
    and_then (distance_of (number_at 1 146 bytes)) (λ distance.
    and_then (feed_mode_of (number_at 1 147 bytes)) (λ feed_mode.
    and_then (unit_of (number_at 1 148 bytes)) (λ unit.
    and_then (retract_of (number_at 1 149 bytes)) (λ retract.
    and_then (system_of (pos (number_at 1 150 bytes))) (λ system.
    and_then (path_of (number_at 1 151 bytes)) (λ path.
    and_then (truth_of (number_at 1 155 bytes)) (λ overrides.
    Some (record {
      motion = motion;
      plane = plane;
      distance = distance;
      feed_mode = feed_mode;
      unit = unit;
      retract = retract;
      system = system;
      path = path;
      overrides = overrides;
    }))))))))))

abbrev pub outputs_in : List ℕ → Option Outputs
outputs_in bytes =
    and_then (spindle_of (number_at 1 152 bytes)) (λ spindle.
    and_then (rate_of (number_at 8 48 bytes)) (λ speed.
    and_then (truth_of (number_at 1 153 bytes)) (λ mist.
    and_then (truth_of (number_at 1 154 bytes)) (λ flood.
    and_then (up_to greatest_slot (number_at 2 158 bytes)) (λ selected_slot.
    and_then (up_to greatest_slot (number_at 2 160 bytes)) (λ spindle_slot.
    Some (record {
      spindle = spindle;
      speed = speed;
      mist = mist;
      flood = flood;
      selected_slot = selected_slot;
      spindle_slot = spindle_slot;
    })))))))

abbrev pub offsets_in : List ℕ → Option Offsets
offsets_in bytes =
    and_then (point_at 80 bytes) (λ origin.
    and_then (point_at 56 bytes) (λ g92.
    and_then (count_of (signed_at 104 bytes)) (λ tool_length.
    Some (record { origin = origin; g92 = g92; tool_length = tool_length }))))

-- a word that a cycle keeps; its number has to be within the range even if its bit says that it isn't kept
abbrev pub word_of : Bool → ℤ → Option (Option ℤ)
word_of kept n = and_then (count_of n) (λ count. Some (then_some kept count))

-- the words that a cycle keeps, by a bit for each of R, Z, P, Q
abbrev pub kept_by : ℕ → List ℕ → Option KeptWords
kept_by kept bytes =
    and_then (word_of (kept % 2 == 1) (signed_at 112 bytes)) (λ r.
    and_then (word_of (kept / 2 % 2 == 1) (signed_at 120 bytes)) (λ z.
    and_then (word_of (kept / 4 % 2 == 1) (signed_at 128 bytes)) (λ p.
    and_then (word_of (kept / 8 == 1) (signed_at 136 bytes)) (λ q.
    Some (record { r = r; z = z; p = p; q = q })))))

abbrev pub kept_in : List ℕ → Option KeptWords
kept_in bytes = and_then (up_to 15 (number_at 1 157 bytes)) (λ kept. kept_by kept bytes)

abbrev pub modal_state_in : List ℕ → Option ModalState
modal_state_in bytes =
    and_then (modes_in bytes) (λ modes.
    and_then (rate_of (number_at 8 40 bytes)) (λ feed.
    and_then (outputs_in bytes) (λ outputs.
    and_then (offsets_in bytes) (λ offsets.
    and_then (kept_in bytes) (λ kept.
    and_then (point_at 16 bytes) (λ point.
    and_then (truth_of (number_at 1 156 bytes)) (λ point_known.
    Some (record {
      modes = modes;
      feed_per_min = feed;
      outputs = outputs;
      offsets = offsets;
      kept = kept;
      point = point;
      point_known = point_known;
    }))))))))

-- where the machine stands in a half-done block; the numbers matter only if that is known
abbrev pub known_point : Bool → List ℕ → Option (Option Point)
known_point false bytes = Some None
known_point true bytes = option_map Some (point_at 176 bytes)

-- Without a half-done block nothing is open and no point is known. While something is open no point is known.
abbrev pub half_by : List ℕ → Option Opened → Bool → Option Source → Option (Option HalfModel)
half_by bytes opened known None = if is_none opened && not known then Some None else None
half_by bytes opened known (Some source) =
    let length = number_at 2 166 bytes in
    if nat_le length longest_text && (is_none opened || not known)
    then and_then (known_point known bytes) (λ at.
    Some (Some (record {
      text = bytes_at length 200 bytes;
      source = source;
      index = number_at 8 168 bytes;
      at = at;
      opened = opened;
    })))
    else None

abbrev pub half_in : List ℕ → Option (Option HalfModel)
half_in bytes =
    and_then (opened_of (number_at 1 163 bytes)) (λ opened.
    and_then (truth_of (number_at 1 164 bytes)) (λ known.
    and_then (source_of (number_at 1 162 bytes)) (λ source.
    half_by bytes opened known source)))

-- the whole field, for a program of this length
unfoldable pub decoded_state_of : ℕ → List ℕ → Option DecodedStateModel
decoded_state_of length bytes =
    and_then (up_to greatest_count (number_at 8 0 bytes)) (λ entries.
    and_then (up_to length (number_at 8 8 bytes)) (λ place.
    and_then (modal_state_in bytes) (λ modal.
    and_then (half_in bytes) (λ half.
    Some (record { entries = entries; place = place; modal = modal; half = half })))))
