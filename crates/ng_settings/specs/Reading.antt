-- The settings of a text, or its first fault: the causes in the order in which they are checked (own).
use Rattle.std.specs.Prelude.{◌≡◌, ℕ, Bool, ◌⊎◌, List, [], ◌∷◌, Some, IsUtf8}
use Rattle.ng_num.specs.Causes.{NoneHolds, IsFirstFault}
use Rattle.ng_num.specs.declared.fault.Fault.{Fault}
use Rattle.ng_num.specs.declared.fault.Fault.TheVariants.{NotToml, MissingKey, UnknownKey, WrongType, OutOfLimits, TooManyTools, OutOfMemory}
use Rattle.toml.specs.Data.{Members}
use Rattle.toml.specs.Errors.{IsBlank}
use Rattle.toml.specs.Parse.{parse_document}
use Rattle.ng_settings.specs.Numbers.{numbers_in}
use Rattle.ng_settings.specs.Causes.{has_missing_key, has_unknown_key, has_wrong_type, is_beyond_limits, has_many_tools}
use Rattle.ng_settings.specs.Given.{numbers_set}
use Rattle.ng_settings.specs.declared.standard.Settings.{Settings}

-- S2 to S6 of a table, each with its cause
abbrev pub faults : Members → List (Bool × Fault)
faults table =
    (has_missing_key table, MissingKey)
    ∷ ((has_unknown_key table, UnknownKey)
    ∷ ((has_wrong_type table, WrongType)
    ∷ ((is_beyond_limits (numbers_in table), OutOfLimits)
    ∷ ((has_many_tools (numbers_in table), TooManyTools)
    ∷ []))))

-- a text stands for this table, by TOML's grammar and rules
pub record IsToml (text : List ℕ) (table : Members) : Type 0 where
  pub utf8 : IsUtf8 text
  pub parsed : parse_document text ≡ Some table

-- these are the settings of a text: the numbers of its table, which has no fault
pub record AreSettings (text : List ℕ) (settings : Settings) : Type 0 where
  pub table : Members
  pub read : IsToml text table
  pub valid : NoneHolds (faults table)
  pub numbers : numbers_set settings ≡ numbers_in table

-- this is the first fault of the table of a text
pub record IsTableFault (text : List ℕ) (fault : Fault) : Type 0 where
  pub table : Members
  pub read : IsToml text table
  pub least : IsFirstFault (faults table) fault

-- a text is refused because memory ran out, which can't happen with a blank text; because it doesn't stand for a table;
-- or because of its table's fault
abbrev pub IsRefused : List ℕ → Fault → Type 0
IsRefused text fault =
    ((fault ≡ OutOfMemory) × ¬ IsBlank text)
    ⊎ ((fault ≡ NotToml) × ((table : Members) → ¬ IsToml text table))
    ⊎ IsTableFault text fault
