-- What [motion] gives, and its faults (own).
use Rattle.std.specs.Prelude.{◌≡◌, ◌⊎◌, ℕ, List, not, Some, None, Option}
use Rattle.std.specs.List.{find}
use Rattle.toml.specs.Data.{Data, Members, get_member}
use Rattle.ng_settings.specs.Causes.{names}
use Rattle.ng_motion.specs.declared.key.Key.{Key}
use Rattle.ng_motion.specs.declared.key.Key.TheVariants.{Accel, Rate, Start, Slack, Most}
use Rattle.ng_motion.specs.declared.fault.MotionFault.{MotionFault}
use Rattle.ng_motion.specs.declared.fault.MotionFault.TheVariants.{UnknownKey, NoAcceleration, OutOfRange}
use Rattle.ng_motion.specs.declared.values.PerAxis.{PerAxis}
use Rattle.ng_motion.specs.declared.given.Given.{Given}
use Rattle.ng_motion.specs.Key.{is_key, key_name}
use Rattle.ng_motion.specs.Name.{shown_name, told}
use Rattle.ng_motion.specs.Values.{IsFit, IsTriple, IsWhole}

-- the first name that isn't a key
unfoldable pub unknown_key : Members → Option (List ℕ)
unknown_key table = find (λ name. not (is_key name)) (names table)

-- the numbers of a key, if it is there
abbrev pub AxesAt : Members → Key → Option PerAxis → Type 0
AxesAt table key None = get_member (key_name key) table ≡ None
AxesAt table key (Some a) = (d : Data) × (get_member (key_name key) table ≡ Some d) × IsTriple key d a

abbrev pub WholeAt : Members → Key → Option ℕ → Type 0
WholeAt table key None = get_member (key_name key) table ≡ None
WholeAt table key (Some n) = (d : Data) × (get_member (key_name key) table ≡ Some d) × IsWhole key d n

-- the same, or a default if it isn't there
abbrev pub AxesOrZeros : Members → Key → PerAxis → Type 0
AxesOrZeros table key a = AxesAt table key (Some a) ⊎ (AxesAt table key None × ((a.x ≡ 0) × (a.y ≡ 0) × (a.z ≡ 0)))

abbrev pub WholeOr : Members → Key → ℕ → ℕ → Type 0
WholeOr table key default n = WholeAt table key (Some n) ⊎ (WholeAt table key None × (n ≡ default))

-- a key is there with a value that it may not have
abbrev pub IsUnfit : Members → Key → Type 0
IsUnfit table key = (d : Data) × (get_member (key_name key) table ≡ Some d) × (IsFit key d → ⊥)

-- this is what the table gives
pub record Gives (table : Members) (given : Given) : Type 0 where
  pub known : unknown_key table ≡ None
  pub accel : AxesAt table Accel (Some given.accel)
  pub rate : AxesOrZeros table Rate given.rate
  pub start : AxesOrZeros table Start given.start
  pub slack : WholeOr table Slack 2 given.slack
  pub most : WholeOr table Most 100 given.most_percent

-- each name is a key, and each key up to this one, in their order, gives what it may
abbrev pub GivesAccel : Members → Type 0
GivesAccel table = (unknown_key table ≡ None) × ((a : PerAxis) × AxesAt table Accel (Some a))

abbrev pub GivesRate : Members → Type 0
GivesRate table = GivesAccel table × ((a : PerAxis) × AxesOrZeros table Rate a)

abbrev pub GivesStart : Members → Type 0
GivesStart table = GivesRate table × ((a : PerAxis) × AxesOrZeros table Start a)

abbrev pub GivesSlack : Members → Type 0
GivesSlack table = GivesStart table × ((n : ℕ) × WholeOr table Slack 2 n)

-- the same of the keys before this one
abbrev pub GivesBefore : Members → Key → Type 0
GivesBefore table Accel = unknown_key table ≡ None
GivesBefore table Rate = GivesAccel table
GivesBefore table Start = GivesRate table
GivesBefore table Slack = GivesStart table
GivesBefore table Most = GivesSlack table

-- the first fault of the table
abbrev pub IsTableFault : Members → MotionFault → Type 0
IsTableFault table (UnknownKey name) = (key : List ℕ) × (unknown_key table ≡ Some key) × (told name ≡ shown_name key)
IsTableFault table NoAcceleration = GivesBefore table Accel × AxesAt table Accel None
IsTableFault table (OutOfRange key) = GivesBefore table key × IsUnfit table key
IsTableFault table _ = ⊥
