use Rattle.std.proofs.Common.{false, true, ap, sym, refl, ◌≡◌, ◌∙◌, map, List, ℕ, Bor, Some, rules}
use Rattle.std.specs.Prelude.{is_some}
use Rattle.clap.specs.Words.{app_of, takes, found_of as found_in, rows_of, Row, Text}
use Rattle.clap.proofs.TakesLemmas.{passed_up}
use Rattle.ng_console.specs.Words.{ngc_app}
use Rattle.clap.specs.Matches.{subcommand_name_of}
use Rattle.ng_console.proofs.JobWordLemmas.{Subcommand, dry, format, grow, run, pace, found_of, is_asked, name_found, name_of}
use Rattle.ng_console.proofs.command_line.words.Goals as goal

pub returns-in_err-matches-clause-taken : goal.returns-in_err-matches-clause-taken
returns-in_err-matches-clause-taken c =
    let command_is : app_of c.in_ok-command.field-0 ≡ ngc_app = c.in_ok-command.ensures in
    passed_up _ _ _ c.from_residual-in_err-matches.ensures.1
    (λ t. c.in_err-matches.ensures.passes
    (ap (λ a. takes a (map (λ (s : Bor (List ℕ)). s.now) c.args.words.now)) command_is ∙ t))

pub unreachable-requires : goal.unreachable-requires
unreachable-requires c =
    let texts = map (λ (s : Bor (List ℕ)). s.now) c.args.words.now in
    let no_dry : is_some c.subcommand_matches.result ≡ false = search rules in
    let no_format : is_some c.subcommand_matches-2.result ≡ false = search rules in
    let no_grow : is_some c.subcommand_matches-3.result ≡ false = search rules in
    let no_run : is_some c.subcommand_matches-4.result ≡ false = search rules in
    let no_pace : is_some c.subcommand_matches-5.result ≡ false = search rules in
    let (subcommand, named) = name_found texts _ c.in_ok-matches.matches c.in_ok-command.ensures
    c.in_ok-matches.ensures.kinds c.in_ok-matches.ensures.matches in
    elim subcommand as (λ (s : Subcommand). subcommand_name_of c.in_ok-matches.matches ≡ Some (name_of s) → ⊥) [
      | dry ↦ λ met. let found : is_some c.subcommand_matches.result ≡ true = c.subcommand_matches.ensures.found.1 met in cc
      | format ↦ λ met. let found : is_some c.subcommand_matches-2.result ≡ true = c.subcommand_matches-2.ensures.found.1 met in cc
      | grow ↦ λ met. let found : is_some c.subcommand_matches-3.result ≡ true = c.subcommand_matches-3.ensures.found.1 met in cc
      | run ↦ λ met. let found : is_some c.subcommand_matches-4.result ≡ true = c.subcommand_matches-4.ensures.found.1 met in cc
      | pace ↦ λ met. let found : is_some c.subcommand_matches-5.result ≡ true = c.subcommand_matches-5.ensures.found.1 met in cc
    ] named

pub dry_job-requires-clause-program : goal.dry_job-requires-clause-program
dry_job-requires-clause-program c =
    let texts = map (λ (s : Bor (List ℕ)). s.now) c.args.words.now in
    let met = found_of dry texts _ c.in_ok-matches.matches (rows_of (found_in c.in-Some.dry.now))
    c.in_ok-command.ensures c.in_ok-matches.ensures.kinds c.in_ok-matches.ensures.matches c.in-Some.ensures.rows
    (c.in-Some.ensures.found.0 refl) in
    met.1.0

pub dry_job-requires-clause-flag : goal.dry_job-requires-clause-flag
dry_job-requires-clause-flag c =
    let texts = map (λ (s : Bor (List ℕ)). s.now) c.args.words.now in
    let met = found_of dry texts _ c.in_ok-matches.matches (rows_of (found_in c.in-Some.dry.now))
    c.in_ok-command.ensures c.in_ok-matches.ensures.kinds c.in_ok-matches.ensures.matches c.in-Some.ensures.rows
    (c.in-Some.ensures.found.0 refl) in
    met.1.1

pub returns-in-Some-clause-job : goal.returns-in-Some-clause-job
returns-in-Some-clause-job c =
    let texts = map (λ (s : Bor (List ℕ)). s.now) c.args.words.now in
    let rows : List Row = rows_of (found_in c.in-Some.dry.now) in
    let met = found_of dry texts _ c.in_ok-matches.matches (rows_of (found_in c.in-Some.dry.now))
    c.in_ok-command.ensures c.in_ok-matches.ensures.kinds c.in_ok-matches.ensures.matches c.in-Some.ensures.rows
    (c.in-Some.ensures.found.0 refl) in
    is_asked texts c.dry_job.result rows
    (met.0 ∙ ap (λ (name : Text). Some (name, rows)) (sym c.dry_job.ensures.name)) c.dry_job.ensures.files
    c.dry_job.ensures.flags

pub format_job-requires-clause-device : goal.format_job-requires-clause-device
format_job-requires-clause-device c =
    let texts = map (λ (s : Bor (List ℕ)). s.now) c.args.words.now in
    let met = found_of format texts _ c.in_ok-matches.matches
    (rows_of (found_in c.in-Some-subcommand_matches.format.now)) c.in_ok-command.ensures
    c.in_ok-matches.ensures.kinds c.in_ok-matches.ensures.matches c.in-Some-subcommand_matches.ensures.rows
    (c.in-Some-subcommand_matches.ensures.found.0 refl) in
    met.1.0

pub format_job-requires-clause-flag : goal.format_job-requires-clause-flag
format_job-requires-clause-flag c =
    let texts = map (λ (s : Bor (List ℕ)). s.now) c.args.words.now in
    let met = found_of format texts _ c.in_ok-matches.matches
    (rows_of (found_in c.in-Some-subcommand_matches.format.now)) c.in_ok-command.ensures
    c.in_ok-matches.ensures.kinds c.in_ok-matches.ensures.matches c.in-Some-subcommand_matches.ensures.rows
    (c.in-Some-subcommand_matches.ensures.found.0 refl) in
    met.1.1

pub returns-in-Some-subcommand_matches-clause-job : goal.returns-in-Some-subcommand_matches-clause-job
returns-in-Some-subcommand_matches-clause-job c =
    let texts = map (λ (s : Bor (List ℕ)). s.now) c.args.words.now in
    let rows : List Row = rows_of (found_in c.in-Some-subcommand_matches.format.now) in
    let met = found_of format texts _ c.in_ok-matches.matches
    (rows_of (found_in c.in-Some-subcommand_matches.format.now)) c.in_ok-command.ensures
    c.in_ok-matches.ensures.kinds c.in_ok-matches.ensures.matches c.in-Some-subcommand_matches.ensures.rows
    (c.in-Some-subcommand_matches.ensures.found.0 refl) in
    is_asked texts c.format_job.result rows
    (met.0 ∙ ap (λ (name : Text). Some (name, rows)) (sym c.format_job.ensures.name)) c.format_job.ensures.files
    c.format_job.ensures.flags

pub grow_job-requires : goal.grow_job-requires
grow_job-requires c =
    let texts = map (λ (s : Bor (List ℕ)). s.now) c.args.words.now in
    let met = found_of grow texts _ c.in_ok-matches.matches
    (rows_of (found_in c.in-Some-subcommand_matches-2.grow.now)) c.in_ok-command.ensures
    c.in_ok-matches.ensures.kinds c.in_ok-matches.ensures.matches c.in-Some-subcommand_matches-2.ensures.rows
    (c.in-Some-subcommand_matches-2.ensures.found.0 refl) in
    met.1

pub returns-in-Some-subcommand_matches-2-clause-job : goal.returns-in-Some-subcommand_matches-2-clause-job
returns-in-Some-subcommand_matches-2-clause-job c =
    let texts = map (λ (s : Bor (List ℕ)). s.now) c.args.words.now in
    let rows : List Row = rows_of (found_in c.in-Some-subcommand_matches-2.grow.now) in
    let met = found_of grow texts _ c.in_ok-matches.matches
    (rows_of (found_in c.in-Some-subcommand_matches-2.grow.now)) c.in_ok-command.ensures
    c.in_ok-matches.ensures.kinds c.in_ok-matches.ensures.matches c.in-Some-subcommand_matches-2.ensures.rows
    (c.in-Some-subcommand_matches-2.ensures.found.0 refl) in
    is_asked texts c.grow_job.result rows
    (met.0 ∙ ap (λ (name : Text). Some (name, rows)) (sym c.grow_job.ensures.name)) c.grow_job.ensures.files
    c.grow_job.ensures.flags

pub run_job-requires-clause-device : goal.run_job-requires-clause-device
run_job-requires-clause-device c =
    let texts = map (λ (s : Bor (List ℕ)). s.now) c.args.words.now in
    let met = found_of run texts _ c.in_ok-matches.matches
    (rows_of (found_in c.in-Some-subcommand_matches-3.run'.now)) c.in_ok-command.ensures
    c.in_ok-matches.ensures.kinds c.in_ok-matches.ensures.matches c.in-Some-subcommand_matches-3.ensures.rows
    (c.in-Some-subcommand_matches-3.ensures.found.0 refl) in
    met.1.0

pub run_job-requires-clause-settings : goal.run_job-requires-clause-settings
run_job-requires-clause-settings c =
    let texts = map (λ (s : Bor (List ℕ)). s.now) c.args.words.now in
    let met = found_of run texts _ c.in_ok-matches.matches
    (rows_of (found_in c.in-Some-subcommand_matches-3.run'.now)) c.in_ok-command.ensures
    c.in_ok-matches.ensures.kinds c.in_ok-matches.ensures.matches c.in-Some-subcommand_matches-3.ensures.rows
    (c.in-Some-subcommand_matches-3.ensures.found.0 refl) in
    met.1.1

pub run_job-requires-clause-out : goal.run_job-requires-clause-out
run_job-requires-clause-out c =
    let texts = map (λ (s : Bor (List ℕ)). s.now) c.args.words.now in
    let met = found_of run texts _ c.in_ok-matches.matches
    (rows_of (found_in c.in-Some-subcommand_matches-3.run'.now)) c.in_ok-command.ensures
    c.in_ok-matches.ensures.kinds c.in_ok-matches.ensures.matches c.in-Some-subcommand_matches-3.ensures.rows
    (c.in-Some-subcommand_matches-3.ensures.found.0 refl) in
    met.1.2

pub returns-in-Some-subcommand_matches-3-clause-job : goal.returns-in-Some-subcommand_matches-3-clause-job
returns-in-Some-subcommand_matches-3-clause-job c =
    let texts = map (λ (s : Bor (List ℕ)). s.now) c.args.words.now in
    let rows : List Row = rows_of (found_in c.in-Some-subcommand_matches-3.run'.now) in
    let met = found_of run texts _ c.in_ok-matches.matches
    (rows_of (found_in c.in-Some-subcommand_matches-3.run'.now)) c.in_ok-command.ensures
    c.in_ok-matches.ensures.kinds c.in_ok-matches.ensures.matches c.in-Some-subcommand_matches-3.ensures.rows
    (c.in-Some-subcommand_matches-3.ensures.found.0 refl) in
    is_asked texts c.run_job.result rows
    (met.0 ∙ ap (λ (name : Text). Some (name, rows)) (sym c.run_job.ensures.name)) c.run_job.ensures.files
    c.run_job.ensures.flags

pub pace_job-requires-clause-settings : goal.pace_job-requires-clause-settings
pace_job-requires-clause-settings c =
    let texts = map (λ (s : Bor (List ℕ)). s.now) c.args.words.now in
    let met = found_of pace texts _ c.in_ok-matches.matches
    (rows_of (found_in c.in-Some-subcommand_matches-4.pace.now)) c.in_ok-command.ensures
    c.in_ok-matches.ensures.kinds c.in_ok-matches.ensures.matches c.in-Some-subcommand_matches-4.ensures.rows
    (c.in-Some-subcommand_matches-4.ensures.found.0 refl) in
    met.1.0

pub pace_job-requires-clause-machine : goal.pace_job-requires-clause-machine
pace_job-requires-clause-machine c =
    let texts = map (λ (s : Bor (List ℕ)). s.now) c.args.words.now in
    let met = found_of pace texts _ c.in_ok-matches.matches
    (rows_of (found_in c.in-Some-subcommand_matches-4.pace.now)) c.in_ok-command.ensures
    c.in_ok-matches.ensures.kinds c.in_ok-matches.ensures.matches c.in-Some-subcommand_matches-4.ensures.rows
    (c.in-Some-subcommand_matches-4.ensures.found.0 refl) in
    met.1.1

pub pace_job-requires-clause-flag : goal.pace_job-requires-clause-flag
pace_job-requires-clause-flag c =
    let texts = map (λ (s : Bor (List ℕ)). s.now) c.args.words.now in
    let met = found_of pace texts _ c.in_ok-matches.matches
    (rows_of (found_in c.in-Some-subcommand_matches-4.pace.now)) c.in_ok-command.ensures
    c.in_ok-matches.ensures.kinds c.in_ok-matches.ensures.matches c.in-Some-subcommand_matches-4.ensures.rows
    (c.in-Some-subcommand_matches-4.ensures.found.0 refl) in
    met.1.2

pub returns-clause-job : goal.returns-clause-job
returns-clause-job c =
    let texts = map (λ (s : Bor (List ℕ)). s.now) c.args.words.now in
    let rows : List Row = rows_of (found_in c.in-Some-subcommand_matches-4.pace.now) in
    let met = found_of pace texts _ c.in_ok-matches.matches
    (rows_of (found_in c.in-Some-subcommand_matches-4.pace.now)) c.in_ok-command.ensures
    c.in_ok-matches.ensures.kinds c.in_ok-matches.ensures.matches c.in-Some-subcommand_matches-4.ensures.rows
    (c.in-Some-subcommand_matches-4.ensures.found.0 refl) in
    is_asked texts c.pace_job.result rows
    (met.0 ∙ ap (λ (name : Text). Some (name, rows)) (sym c.pace_job.ensures.name)) c.pace_job.ensures.files
    c.pace_job.ensures.flags
