-- What a device in a file has written of what it handed out (own).
use Rattle.std.specs.Prelude.{◌≡◌, ◌⊎◌, ℕ, Bool, true, List, [], ◌++◌, Option, flat_map, take}
use Rattle.std.specs.Io.KnownBytes.{Appends}
use Rattle.ng_canon.specs.declared.item.Item.{Item}
use Rattle.ng_lines.specs.Lines.{item_line}
use Rattle.ng_rig.specs.Trace.{items}
use Rattle.ng_file.specs.Rig.{is_cut, outlet}
use Rattle.ng_file.specs.Sectors.{trace_of}
use Rattle.ng_file.specs.declared.rig.FileRig.{FileRig}

-- the lines of these items, one after another
abbrev pub lines_of : List Item → List ℕ
lines_of given = flat_map item_line given

-- a beginning of a line, perhaps none of it or all
abbrev pub IsPartOfLine : List ℕ → Type 0
IsPartOfLine part = (item : Item) × (n : ℕ) × (part ≡ take n (item_line item))

-- After the first bytes come the lines of these items, in order, and nothing else; or if a line was cut off, a beginning
-- of one more.
pub record AreGiven (first now : Option (List ℕ)) (given : List Item) (cut : Bool) : Type 0 where
  pub rest : List ℕ
  pub bytes : Appends first now (lines_of given ++ rest)
  pub is_part : (rest ≡ []) ⊎ ((cut ≡ true) × IsPartOfLine rest)

module _ {S W A : Type 0} (content : S → Option (List ℕ)) (contents : W → Option (List ℕ)) where
  -- since its writer held these bytes, the device has written the items of its trace
  abbrev pub HasHandedOut : Option (List ℕ) → FileRig S W A → Type 0
  HasHandedOut first rig = AreGiven first (contents (outlet rig)) (items (trace_of content rig.sectors)) (is_cut rig)

  -- so it has after a call, whatever the writer held at first
  abbrev pub KeepsHandedOut : FileRig S W A → FileRig S W A → Type 0
  KeepsHandedOut old new = (first : Option (List ℕ)) → HasHandedOut first old → HasHandedOut first new
