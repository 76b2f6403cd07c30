-- The log: records of several parts after a snapshot, and the longest run of complete ones (own).
use Rattle.std.specs.Prelude.{ℕ, zero, suc, ◌+◌, ◌-◌, ◌*◌, ◌/◌, ◌%◌, ◌==◌, ◌&&◌, ◌++◌, Bool, true, nat_le, List, []}
use Rattle.std.specs.Prelude.{◌∷◌, drop, ℤ, pos, Option, Some, None, if◌then◌else◌}
use Rattle.ng_params.specs.Numbers.{index_of}
use Rattle.ng_params.specs.Change.{with_changes}
use Rattle.ng_params.specs.declared.change.Change.{Change}
use Rattle.ng_layout.specs.Areas.{log_size}
use Rattle.ng_layout.specs.Limits.{content_first, change_size, part_changes}
use Rattle.ng_layout.specs.Tools.{tools_after}
use Rattle.ng_layout.specs.declared.header.Format.{Format}
use Rattle.ng_layout.specs.Fields.{number_at, signed_at}
use Rattle.ng_layout.specs.Decoding.{and_then, count_of, decoded_state_of}
use Rattle.ng_layout.specs.Stored.{DecodedStateModel}

-- the label of a part
pub record PartHeader : Type 0 where
  pub epoch : ℕ
  pub number : ℕ
  pub part : ℕ
  pub parts : ℕ
  pub changes : ℕ

unfoldable pub is_part : PartHeader → List ℕ → Bool
is_part l sector = (number_at 8 0 sector == l.epoch) && (number_at 8 8 sector == l.number) &&
    (number_at 2 16 sector == l.part) && (number_at 2 18 sector == l.parts) && (number_at 2 20 sector == l.changes)

-- the first n parts of a record are in the sectors from this one on
unfoldable pub parts_stand : (ℕ → List ℕ) → ℕ → PartHeader → ℕ → Bool
parts_stand row at l zero = true
parts_stand row at l (suc n) = is_part (record l { part = n }) (row (at + n)) && parts_stand row at l n

-- the n-th change of a record; None if its index or its value is out of range
abbrev pub change_at : List ℕ → ℕ → Option Change
change_at sector at = and_then (index_of (pos (number_at 2 at sector)))
    (λ index. and_then (count_of (signed_at (at + 2) sector))
    (λ value. Some (record { index = index; value = value })))

-- the first n changes of the record that begins at this sector, 48 in each part but its first
unfoldable pub changes_of : (ℕ → List ℕ) → ℕ → ℕ → Option (List Change)
changes_of row at zero = Some []
changes_of row at (suc n) =
    and_then (changes_of row at n)
    (λ earlier. and_then (change_at (row (at + 1 + n / part_changes))
    (content_first + change_size * (n % part_changes))) (λ change. Some (earlier ++ change ∷ [])))

-- the state so far, with the parameters and the tools
pub record ReplayState : Type 0 where
  pub decoded : DecodedStateModel
  pub params : List ℤ
  pub tools : List ℤ

-- where a record begins, its number, and the state before it; None if that is damaged
pub record LogPosition : Type 0 where
  pub at : ℕ
  pub number : ℕ
  pub found : Option ReplayState

-- the state with a record: its state field, and the parameters and the tools with its changes
abbrev pub with_record : Format → ℕ → (ℕ → List ℕ) → ℕ → ℕ → ReplayState → Option ReplayState
with_record format length row at changes before =
    and_then (decoded_state_of length (drop content_first (row at)))
    (λ decoded. and_then (changes_of row at changes)
    (λ made. and_then (tools_after format (row at) before.tools) (λ tools.
    Some (record { decoded = decoded; params = with_changes before.params made; tools = tools }))))

-- how many parts a record with this many changes has
abbrev pub parts_for : ℕ → ℕ
parts_for changes = 1 + (changes + (part_changes - 1)) / part_changes

-- the position after the record that begins here, if it is complete and within the log of its format
unfoldable pub next : Format → ℕ → (ℕ → List ℕ) → ℕ → LogPosition → Option LogPosition
next format length row epoch p =
    let parts = number_at 2 18 (row p.at) in
    let changes = number_at 2 20 (row p.at) in
    if (parts == parts_for changes) && nat_le (p.at + parts) (log_size format) && parts_stand row p.at
    (record { epoch = epoch; number = p.number; part = 0; parts = parts; changes = changes }) parts
    then Some (record { at = p.at + parts; number = p.number + 1; found = and_then p.found (λ before. with_record format length row p.at changes before) })
    else None

abbrev pub after_step : Option LogPosition → (LogPosition → LogPosition) → LogPosition → LogPosition
after_step None go p = p
after_step (Some q) go p = go q

-- the position after at most this many complete records
unfoldable pub run : ℕ → Format → ℕ → (ℕ → List ℕ) → ℕ → LogPosition → LogPosition
run zero format length row epoch p = p
run (suc n) format length row epoch p = after_step (next format length row epoch p) (λ q. run n format length row epoch q) p
