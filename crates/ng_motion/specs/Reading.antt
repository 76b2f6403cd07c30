-- The limits that a text gives, or its fault (own).
use Rattle.std.specs.Prelude.{◌≡◌, ◌⊎◌, ℕ, List, Option, None, Some, codes, not}
use Rattle.std.specs.List.{find}
use Rattle.toml.specs.Data.{Members, get_member, table}
use Rattle.toml.specs.Errors.{IsBlank}
use Rattle.ng_canon.specs.declared.geometry.Geometry.{Geometry}
use Rattle.ng_pace.specs.declared.limits.Limits.{Limits}
use Rattle.ng_settings.specs.Causes.{names}
use Rattle.ng_settings.specs.Reading.{IsToml}
use Rattle.ng_motion.specs.declared.fault.MotionFault.{MotionFault}
use Rattle.ng_motion.specs.declared.fault.MotionFault.TheVariants.{NotToml, OutOfMemory, UnknownTable, NotATable, NoTable}
use Rattle.ng_motion.specs.declared.name.KeyName.{KeyName}
use Rattle.ng_motion.specs.declared.table.TableName.{TableName}
use Rattle.ng_motion.specs.Name.{shown_name, told}
use Rattle.ng_motion.specs.Table.{is_table, other_value}
use Rattle.ng_motion.specs.declared.given.Given.{Given}
use Rattle.ng_motion.specs.Given.{Gives, IsTableFault}
use Rattle.ng_motion.specs.Steps.{AreLimits, IsStepFault}

-- the first name at the top that is none of a machine's file
unfoldable pub unknown_table : Members → Option (List ℕ)
unknown_table root = find (λ name. not (is_table name)) (names root)

-- there is such a name, and this is what is told of it
abbrev pub HasUnknownTable : Members → KeyName → Type 0
HasUnknownTable root name = (unknown : List ℕ) × (unknown_table root ≡ Some unknown) × (told name ≡ shown_name unknown)

-- the table [motion] of a table
abbrev pub IsMotion : Members → Members → Type 0
IsMotion root motion = get_member (codes "motion") root ≡ Some (table motion)

-- these are the limits of the table, on a machine with these steps
abbrev pub GivesLimits : Members → Geometry → Limits → Type 0
GivesLimits motion machine limits = (given : Given) × Gives motion given × AreLimits given machine limits

-- the first fault of [motion]
abbrev pub IsMotionFault : Members → Geometry → MotionFault → Type 0
IsMotionFault motion machine fault = IsTableFault motion fault ⊎ ((given : Given) × Gives motion given × IsStepFault given machine fault)

-- each name at the top is that of a table, and has one
abbrev pub HasTables : Members → Type 0
HasTables root = (unknown_table root ≡ None) × (other_value root ≡ None)

-- the first fault of the table of a text: it has a name at the top that is none of a machine's file, one of those has
-- another value than a table, it has no [motion], or that has a fault
abbrev pub IsRootFault : Members → Geometry → MotionFault → Type 0
IsRootFault root machine fault =
    ((name : KeyName) × (fault ≡ UnknownTable name) × HasUnknownTable root name)
    ⊎ ((unknown_table root ≡ None) × ((name : TableName) × (fault ≡ NotATable name) × (other_value root ≡ Some name)))
    ⊎ (HasTables root × (fault ≡ NoTable) × ((motion : Members) → IsMotion root motion → ⊥))
    ⊎ (HasTables root × ((motion : Members) × IsMotion root motion × IsMotionFault motion machine fault))

abbrev pub GivesAtRoot : Members → Geometry → Limits → Type 0
GivesAtRoot root machine limits =
    HasTables root × ((motion : Members) × IsMotion root motion × GivesLimits motion machine limits)

abbrev pub AreLimitsOf : List ℕ → Geometry → Limits → Type 0
AreLimitsOf text machine limits = (root : Members) × IsToml text root × GivesAtRoot root machine limits

-- a text gives no limits because memory ran out, which can't happen with a blank text; because it isn't TOML; or
-- because of its table
abbrev pub IsRefused : List ℕ → Geometry → MotionFault → Type 0
IsRefused text machine fault =
    ((fault ≡ OutOfMemory) × ¬ IsBlank text)
    ⊎ ((fault ≡ NotToml) × ((root : Members) → ¬ IsToml text root))
    ⊎ ((root : Members) × IsToml text root × IsRootFault root machine fault)
