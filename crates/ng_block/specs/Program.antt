-- What a line does in a program, unless it is deleted, and after the lines before it (NISTIR 6556, 3.3, and own).
use Rattle.std.specs.Prelude.{ℕ, ℤ, List, [], Bool, true, false, ◌&&◌, Option, Some, None, Result, Ok, Err, if◌then◌else◌}
use Rattle.ng_num.specs.declared.fault.Fault.{Fault}
use Rattle.ng_num.specs.declared.fault.Fault.TheVariants.{LineTooLong}
use Rattle.ng_canon.specs.declared.geometry.Geometry.{Geometry}
use Rattle.ng_words.specs.Grammar.{is_too_long}
use Rattle.ng_words.specs.Start.{is_deletable}
use Rattle.ng_words.specs.declared.start.LineKind.{LineKind}
use Rattle.ng_state.specs.State.{StateModel}
use Rattle.ng_block.specs.Effects.{Done, executed}
use Rattle.ng_block.specs.declared.effect.ProgramFlow.{ProgramFlow}
use Rattle.ng_block.specs.declared.effect.ProgramFlow.TheVariants.{GoesOn, Stops, StopsIfWanted, Ends}
use Rattle.std.specs.Option.{option_map}
use Rattle.ng_text.specs.Percent.{percent_line_at, percent_line_by}
use Rattle.ng_text.specs.declared.percent.PercentLine.{PercentLine}
use Rattle.ng_text.specs.declared.percent.PercentLine.TheVariants.{Opens, Closes}

-- what a program is run with
pub record TermsModel : Type 0 where
  pub block_delete : Bool
  pub tools : List ℤ
  pub geometry : Geometry

-- a line without an effect
abbrev pub idle : StateModel → ProgramFlow → Done
idle setup stop = record { setup = setup; before = setup.modal.outputs; segments = []; commands = []; stop = stop }

-- a deleted line does nothing; only its length is checked
abbrev pub deleted : StateModel → List ℕ → Result Done Fault
deleted setup line = if is_too_long line then Err LineTooLong else Ok (idle setup GoesOn)

-- what a line of the program does if it isn't a percent line
abbrev pub executed_unless_deleted : TermsModel → StateModel → List ℕ → Result Done Fault
executed_unless_deleted terms setup line =
    if terms.block_delete && is_deletable line then deleted setup line
    else executed setup terms.tools terms.geometry line

-- how the program goes on after a percent line
abbrev pub stop_after : PercentLine → ProgramFlow
stop_after Opens = GoesOn
stop_after Closes = Ends

-- how the program goes on after a percent line, given the lines before it; `None` if the line isn't one
abbrev pub percent_at : List (List ℕ) → List ℕ → Option ProgramFlow
percent_at lines_before line = option_map stop_after (percent_line_at lines_before line)

-- a percent line does nothing else
abbrev pub framed : Option ProgramFlow → StateModel → Result Done Fault → Result Done Fault
framed None setup done = done
framed (Some stop) setup done = Ok (idle setup stop)

-- what a line of the program does after the lines before it
abbrev pub executed_in_program : TermsModel → List (List ℕ) → StateModel → List ℕ → Result Done Fault
executed_in_program terms lines_before setup line = framed (percent_at lines_before line) setup (executed_unless_deleted terms setup line)

abbrev pub is_end : ProgramFlow → Bool
is_end GoesOn = false
is_end Stops = false
is_end StopsIfWanted = false
is_end Ends = true

-- how the program goes on after a line, given the kind of the first line before it that isn't blank
abbrev pub percent_by : LineKind → List ℕ → Option ProgramFlow
percent_by first line = option_map stop_after (percent_line_by first line)

-- what a line does, given that kind
abbrev pub executed_after : TermsModel → LineKind → StateModel → List ℕ → Result Done Fault
executed_after terms first setup line = framed (percent_by first line) setup (executed_unless_deleted terms setup line)
