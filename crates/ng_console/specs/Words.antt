-- The command line of `ngc` (own), in clap's terms for how a command reads its words.
use Rattle.std.specs.Prelude.{◌≡◌, Bool, List, Some, true, codes, option_map}
use Rattle.clap.specs.Words.{App, Row, Rule, Text, first_of, new_app, new_rule, one_of, subcommand_of, with_rule, with_subcommand}
use Rattle.clap.specs.declared.builder.ArgAction.TheVariants.{Set, SetTrue}
use Rattle.clap.specs.Values.{bool_text}
use Rattle.ng_console.specs.declared.command_line.Job.{Job}
use Rattle.ng_console.specs.declared.command_line.Job.TheVariants.{Dry, Format, Grow, Run, Pace}

-- PROGRAM, a file that has to be named
abbrev pub program_rule : Rule
program_rule = record (new_rule (codes "PROGRAM")) { action = Some Set; required = true }

-- --from DEVICE and --settings FILE, files that may be named
abbrev pub from_rule : Rule
from_rule = record (new_rule (codes "from")) { long = Some (codes "from"); action = Some Set; value_names = 1 }

abbrev pub settings_rule : Rule
settings_rule = record (new_rule (codes "settings")) { long = Some (codes "settings"); action = Some Set; value_names = 1 }

-- --block-delete, a flag that is off if it isn't given
abbrev pub block_delete_rule : Rule
block_delete_rule = record (new_rule (codes "block-delete")) { long = Some (codes "block-delete"); action = Some SetTrue }

-- dry PROGRAM [--from DEVICE] [--settings FILE] [--block-delete]
abbrev pub dry_app : App
dry_app = with_rule (with_rule (with_rule (with_rule (new_app (codes "dry")) program_rule) from_rule) settings_rule) block_delete_rule

-- DEVICE, a file that has to be named
abbrev pub device_rule : Rule
device_rule = record (new_rule (codes "DEVICE")) { action = Some Set; required = true }

-- --large, a flag that is off if it isn't given
abbrev pub large_rule : Rule
large_rule = record (new_rule (codes "large")) { long = Some (codes "large"); action = Some SetTrue }

-- format DEVICE [--large]
abbrev pub format_app : App
format_app = with_rule (with_rule (new_app (codes "format")) device_rule) large_rule

-- grow DEVICE
abbrev pub grow_app : App
grow_app = with_rule (new_app (codes "grow")) device_rule

-- SETTINGS and OUT, files that have to be named
abbrev pub settings_file_rule : Rule
settings_file_rule = record (new_rule (codes "SETTINGS")) { action = Some Set; required = true }

abbrev pub out_rule : Rule
out_rule = record (new_rule (codes "OUT")) { action = Some Set; required = true }

-- run DEVICE SETTINGS OUT
abbrev pub run_app : App
run_app = with_rule (with_rule (with_rule (new_app (codes "run")) device_rule) settings_file_rule) out_rule

-- MACHINE, a file that has to be named
abbrev pub machine_rule : Rule
machine_rule = record (new_rule (codes "MACHINE")) { action = Some Set; required = true }

-- --total, a flag that is off if it isn't given
abbrev pub total_rule : Rule
total_rule = record (new_rule (codes "total")) { long = Some (codes "total"); action = Some SetTrue }

-- pace SETTINGS MACHINE [--total]
abbrev pub pace_app : App
pace_app = with_rule (with_rule (with_rule (new_app (codes "pace")) settings_file_rule) machine_rule) total_rule

-- a command line names one of the subcommands; --version, and help in either form, print their text
abbrev pub only_by_subcommands : App → App
only_by_subcommands app = record app { top = record app.top { has_version = true; subcommand_required = true; arg_required_else_help = true } }

-- ngc dry PROGRAM [--from DEVICE] [--settings FILE] [--block-delete], ngc format DEVICE [--large], ngc grow DEVICE,
-- ngc run DEVICE SETTINGS OUT, or ngc pace SETTINGS MACHINE [--total]
abbrev pub ngc_app : App
ngc_app =
    with_subcommand (with_subcommand
    (with_subcommand (with_subcommand
    (with_subcommand (only_by_subcommands (new_app (codes "ngc"))) dry_app.top) format_app.top) grow_app.top)
    run_app.top) pace_app.top

-- the name of the job's subcommand
abbrev pub subcommand_name : Job → Text
subcommand_name (Dry program from settings block_delete) = codes "dry"
subcommand_name (Format device large) = codes "format"
subcommand_name (Grow device) = codes "grow"
subcommand_name (Run device settings out) = codes "run"
subcommand_name (Pace settings machine total) = codes "pace"

-- the job's files are those that the subcommand's matches name
abbrev pub HasFiles : List Row → Job → Type 0
HasFiles rows (Dry program from settings block_delete) =
    (first_of (codes "PROGRAM") rows ≡ Some program.now) × (first_of (codes "from") rows ≡ option_map (λ file. file.now) from)
    × (first_of (codes "settings") rows ≡ option_map (λ file. file.now) settings)
HasFiles rows (Format device large) = first_of (codes "DEVICE") rows ≡ Some device.now
HasFiles rows (Grow device) = first_of (codes "DEVICE") rows ≡ Some device.now
HasFiles rows (Run device settings out) =
    (first_of (codes "DEVICE") rows ≡ Some device.now) × (first_of (codes "SETTINGS") rows ≡ Some settings.now) × (first_of (codes "OUT") rows ≡ Some out.now)
HasFiles rows (Pace settings machine total) = (first_of (codes "SETTINGS") rows ≡ Some settings.now) × (first_of (codes "MACHINE") rows ≡ Some machine.now)

-- the matches say of the flag that it is on, or off
abbrev pub SaysFlag : Text → List Row → Bool → Type 0
SaysFlag flag rows is_on = one_of flag rows ≡ Some (bool_text is_on)

-- the matches say of the flag whether it is on
abbrev pub HasFlag : Text → List Row → Type 0
HasFlag flag rows = (is_on : Bool) × SaysFlag flag rows is_on

-- the job's switches are the flags of the subcommand's matches
abbrev pub HasFlags : List Row → Job → Type 0
HasFlags rows (Dry program from settings block_delete) = SaysFlag (codes "block-delete") rows block_delete
HasFlags rows (Format device large) = SaysFlag (codes "large") rows large
HasFlags rows (Grow device) = Unit {0}
HasFlags rows (Run device settings out) = Unit {0}
HasFlags rows (Pace settings machine total) = SaysFlag (codes "total") rows total

-- the job is what the words mean by clap's definition: the subcommand that they name, its files and its flags
abbrev pub RequestsJob : List Text → Job → Type 0
RequestsJob words job = (rows : List Row) × (subcommand_of ngc_app words ≡ Some (subcommand_name job, rows)) × HasFiles rows job × HasFlags rows job
