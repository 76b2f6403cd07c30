-- The tables of a machine's file (own).
use Rattle.std.specs.Prelude.{ℕ, Bool, false, List, [], ◌∷◌, ◌++◌, Option, None, Some, codes, is_some, not}
use Rattle.std.specs.List.{find, list_any}
use Rattle.std.specs.Str.{bytes_eq}
use Rattle.toml.specs.Data.{Data, Members, as_table, get_member}
use Rattle.ng_motion.specs.declared.table.TableName.{TableName}
use Rattle.ng_motion.specs.declared.table.TableName.TheVariants.{Backlash, Home, Inputs, Motion, Setter, Sink, Spindle, Wait, Window}

abbrev pub table_name : TableName → List ℕ
table_name Backlash = codes "backlash"
table_name Home = codes "home"
table_name Inputs = codes "inputs"
table_name Motion = codes "motion"
table_name Setter = codes "setter"
table_name Sink = codes "sink"
table_name Spindle = codes "spindle"
table_name Wait = codes "wait"
table_name Window = codes "window"

-- the motors' limits, and what only a player reads, in the order of their names
abbrev pub tables : List TableName
tables = Backlash ∷ Home ∷ Inputs ∷ Motion ∷ Setter ∷ Sink ∷ Spindle ∷ Wait ∷ Window ∷ []

-- whether a name is that of one of them
unfoldable pub is_table : List ℕ → Bool
is_table name = list_any (λ table. bytes_eq name (table_name table)) tables

-- whether a table's name has another value than a table
abbrev pub is_other : Option Data → Bool
is_other None = false
is_other (Some value) = not (is_some (as_table value))

-- the first of the tables whose name has another value
unfoldable pub other_value : Members → Option TableName
other_value root = find (λ table. is_other (get_member (table_name table) root)) tables

-- what is told of it
abbrev pub no_table_text : TableName → List ℕ
no_table_text table = codes ": " ++ (table_name table ++ (codes " isn't a table: [" ++ (table_name table ++ codes "], and its keys below it")))
