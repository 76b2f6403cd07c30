-- The values that a key may have (own).
use Rattle.std.specs.Prelude.{◌≡◌, ◌⊎◌, ℕ, ◌≤◌, pos}
use Rattle.toml.specs.Data.{Data, array, integer, item, no_items}
use Rattle.ng_motion.specs.declared.key.Key.{Key}
use Rattle.ng_motion.specs.declared.key.Key.TheVariants.{Accel, Rate, Start, Slack, Most}
use Rattle.ng_motion.specs.declared.values.PerAxis.{PerAxis}
use Rattle.ng_motion.specs.Key.{least, greatest}

abbrev pub IsInRange : Key → ℕ → Type 0
IsInRange key n = (least key ≤ n) × (n ≤ greatest key)

-- a whole number in the key's range
abbrev pub IsWhole : Key → Data → ℕ → Type 0
IsWhole key d n = (d ≡ integer (pos n)) × IsInRange key n

-- an array of three, for X, Y and Z
abbrev pub IsTriple : Key → Data → PerAxis → Type 0
IsTriple key d a =
    (d ≡ array (item (integer (pos a.x)) (item (integer (pos a.y)) (item (integer (pos a.z)) no_items))))
    × IsInRange key a.x × IsInRange key a.y × IsInRange key a.z

-- the value is one that the key may have: three numbers, or one
abbrev pub IsFit : Key → Data → Type 0
IsFit Accel d = (a : PerAxis) × IsTriple Accel d a
IsFit Rate d = (a : PerAxis) × IsTriple Rate d a
IsFit Start d = (a : PerAxis) × IsTriple Start d a
IsFit Slack d = (n : ℕ) × IsWhole Slack d n
IsFit Most d = (n : ℕ) × IsWhole Most d n

-- the keys of three numbers, and those of one
abbrev pub HasAxes : Key → Type 0
HasAxes key = (key ≡ Accel) ⊎ (key ≡ Rate) ⊎ (key ≡ Start)

abbrev pub HasWhole : Key → Type 0
HasWhole key = (key ≡ Slack) ⊎ (key ≡ Most)
