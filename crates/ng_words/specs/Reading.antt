-- Reading a line, as a function: the line, or the fault. `laws::lines` says that this is the grammar; how it walks over
-- the bytes serves the proofs.
use Rattle.std.specs.Prelude.{ℕ, List, length, Bool, false, Option, Some, None, Result, Ok, Err, if◌then◌else◌}
use Rattle.std.specs.Option.{option_map, option_and_then}
use Rattle.ng_num.specs.declared.fault.Fault.{Fault}
use Rattle.ng_num.specs.declared.fault.Fault.TheVariants.{Unreadable, LineTooLong}
use Rattle.ng_words.specs.Plain.{plain}
use Rattle.ng_words.specs.Grammar.{ParsedLine, is_too_long}
use Rattle.ng_words.specs.Scan.{slash_at, block_number_at}
use Rattle.ng_words.specs.Pieces.{pieces_at}

-- the block number and the pieces
abbrev pub body_at : Bool → List ℕ → Option ParsedLine
body_at deletable bytes =
    option_and_then (λ x. option_map (λ ps. record { deletable = deletable; number = x.0; pieces = ps }) (pieces_at (length x.1) x.1)) (block_number_at bytes)

abbrev pub parse_line : List ℕ → Option ParsedLine
parse_line bytes = body_at (slash_at bytes).0 (slash_at bytes).1

abbrev pub or_unreadable : Option ParsedLine → Result ParsedLine Fault
or_unreadable None = Err Unreadable
or_unreadable (Some w) = Ok w

-- what a line holds, or why it can't be read; the length is checked first
unfoldable pub read : List ℕ → Result ParsedLine Fault
read text = if is_too_long text then Err LineTooLong else or_unreadable (parse_line (plain false text))
