-- If clap finds no fault in a command line of `ngc`, it has met one of the subcommands, with a value for each of its
-- files and its flags on or off.
use Rattle.std.proofs.Common.{drop, get_or, ◌≡◌, ◌∙◌, refl, sym, ap, subst, Bool, true, false, List, [], ◌∷◌, ℕ, Option, Some, None, is_some, codes, arith}
use Rattle.std.specs.Prelude.{◌&&◌, ◌||◌, not, if◌then◌else◌, option_map, unwrap_or, Box}
use Rattle.std.specs.Option.{option_map_or}
use Rattle.std.specs.List.{list_any}
use Rattle.std.specs.Str.{bytes_eq}
use Rattle.std.specs.Box.{box_value}
use Rattle.std.proofs.lemmas.Slice.Eq.{bytes_eq-Decides}
use Rattle.clap.specs.Faults.{walk_fault, check_fault, entered_fault, fault_of, is_simple_and_free, level_fault}
use Rattle.clap.specs.Facts.{explicit_source}
use Rattle.clap.specs.Kinds.{Kinds, check_kinds, or_else}
use Rattle.clap.specs.Simple.{App, HasMatchesOf, Shape, argument_words, built, entered, label_of, matches_of}
use Rattle.clap.specs.Simple.{names_of, new_shape, is_simple, rows_at, subcommand_of, subcommand_rows}
use Rattle.clap.specs.Simple.{subcommand_rows_of}
use Rattle.clap.specs.Takes.{is_given}
use Rattle.clap.specs.Walk.{Names, Row, Text, answers_to, first_of, nothing_held, rows_after, stop_after, walk_from}
use Rattle.clap.specs.Matches.{subcommand_name_of}
use Rattle.clap.specs.declared.parser.matches.ArgMatches.{ArgMatches}
use Rattle.clap.specs.declared.parser.matches.ArgMatches.TheViews.{out-ArgMatches, out-SubCommand}
use Rattle.clap.specs.declared.parser.matches.SubCommand.{SubCommand}
use Rattle.ng_console.specs.Words.{RequestsJob, HasFiles, HasFlag, HasFlags, ngc_app, subcommand_name}
use Rattle.ng_console.specs.declared.command_line.Job.{Job}
use Rattle.ng_console.specs.declared.command_line.Job.TheVariants.{Dry, Format, Grow, Run, Pace}
use Rattle.ng_console.proofs.HelpWordLemmas.{IsNotHelp, enters_no_help}
use Rattle.ng_console.proofs.CommandRowLemmas.{Each, IsDistinct, all_given, apart_distinct, flag_distinct}

-- the subcommands
pub data Subcommand : Type 0 where
  dry : Subcommand
  format : Subcommand
  grow : Subcommand
  run : Subcommand
  pace : Subcommand

abbrev pub name_of : Subcommand → Text
name_of dry = codes "dry"
name_of format = codes "format"
name_of grow = codes "grow"
name_of run = codes "run"
name_of pace = codes "pace"

abbrev first_letter : Subcommand → ℕ
first_letter dry = 100
first_letter format = 102
first_letter grow = 103
first_letter run = 114
first_letter pace = 112

first_of_name : (a : Subcommand) → get_or (name_of a) 0 0 ≡ first_letter a
first_of_name dry = refl
first_of_name format = refl
first_of_name grow = refl
first_of_name run = refl
first_of_name pace = refl

same_letter : (a b : Subcommand) → first_letter a ≡ first_letter b → a ≡ b
same_letter dry dry e = refl
same_letter format format e = refl
same_letter grow grow e = refl
same_letter run run e = refl
same_letter pace pace e = refl
same_letter dry pace e = absurd (omega arith)
same_letter format pace e = absurd (omega arith)
same_letter grow pace e = absurd (omega arith)
same_letter run pace e = absurd (omega arith)
same_letter pace dry e = absurd (omega arith)
same_letter pace format e = absurd (omega arith)
same_letter pace grow e = absurd (omega arith)
same_letter pace run e = absurd (omega arith)
same_letter dry grow e = absurd (omega arith)
same_letter format grow e = absurd (omega arith)
same_letter run grow e = absurd (omega arith)
same_letter grow dry e = absurd (omega arith)
same_letter grow format e = absurd (omega arith)
same_letter grow run e = absurd (omega arith)
same_letter dry format e = absurd (omega arith)
same_letter dry run e = absurd (omega arith)
same_letter format dry e = absurd (omega arith)
same_letter format run e = absurd (omega arith)
same_letter run dry e = absurd (omega arith)
same_letter run format e = absurd (omega arith)

-- no two have the same name
same_name : (a b : Subcommand) → name_of a ≡ name_of b → a ≡ b
same_name a b e = same_letter a b (sym (first_of_name a) ∙ ap (λ (t : Text). get_or t 0 0) e ∙ first_of_name b)

-- what is in the matches of each
abbrev pub Has : Subcommand → List Row → Type 0
Has dry rows = (is_some (first_of (codes "PROGRAM") rows) ≡ true) × HasFlag (codes "block-delete") rows
Has format rows = (is_some (first_of (codes "DEVICE") rows) ≡ true) × HasFlag (codes "large") rows
Has grow rows = is_some (first_of (codes "DEVICE") rows) ≡ true
Has run rows = (is_some (first_of (codes "DEVICE") rows) ≡ true)
    × (is_some (first_of (codes "SETTINGS") rows) ≡ true) × (is_some (first_of (codes "OUT") rows) ≡ true)
Has pace rows = (is_some (first_of (codes "SETTINGS") rows) ≡ true) × (is_some (first_of (codes "MACHINE") rows) ≡ true) × HasFlag (codes "total") rows

-- ---- as clap builds them

abbrev first_shape : List Shape → Shape
first_shape [] = new_shape []
first_shape (s ∷ ss) = s

abbrev shape_of : Subcommand → Shape
shape_of dry = first_shape (built ngc_app).subs
shape_of format = first_shape (drop 1 (built ngc_app).subs)
shape_of grow = first_shape (drop 2 (built ngc_app).subs)
shape_of run = first_shape (drop 3 (built ngc_app).subs)
shape_of pace = first_shape (drop 4 (built ngc_app).subs)

-- the subcommand `help` that clap adds
abbrev help_built : Shape
help_built = first_shape (drop 5 (built ngc_app).subs)

-- no argument of a subcommand has the name of another kind of argument
distinct : (s : Subcommand) → Each (IsDistinct (shape_of s).rules) (shape_of s).rules
distinct dry = (
  apart_distinct _ _ refl,
  (
    apart_distinct _ _ refl,
    (
      apart_distinct _ _ refl,
      (
        flag_distinct _ _ (record { takes_none = refl; no_place = refl; used = (true, refl); unused = (false, refl) }) refl refl,
        (apart_distinct _ _ refl, tt),
      ),
    ),
  ),
)
distinct format = (
  apart_distinct _ _ refl,
  (
    flag_distinct _ _ (record { takes_none = refl; no_place = refl; used = (true, refl); unused = (false, refl) }) refl refl,
    (apart_distinct _ _ refl, tt),
  ),
)
distinct grow = (apart_distinct _ _ refl, (apart_distinct _ _ refl, tt))
distinct run = (apart_distinct _ _ refl, (apart_distinct _ _ refl, (apart_distinct _ _ refl, (apart_distinct _ _ refl, tt))))
distinct pace = (
  apart_distinct _ _ refl,
  (
    apart_distinct _ _ refl,
    (
      flag_distinct _ _ (record { takes_none = refl; no_place = refl; used = (true, refl); unused = (false, refl) }) refl refl,
      (apart_distinct _ _ refl, tt),
    ),
  ),
)

-- the command is one whose faults clap defines
is_plain : is_simple_and_free ngc_app ≡ true
is_plain = refl

-- ---- no fault

neither : (a b : Kinds) → or_else a b ≡ [] → (a ≡ []) × (b ≡ [])
neither [] b h = (refl, h)
neither (k ∷ ks) b h = cc

-- nothing is wrong with the words of a level
walk_right : (s : Shape) (names : Names) (words : List Text) (has : Bool) (below : Kinds) → level_fault s names nothing_held words has below ≡ []
    → walk_fault s names (walk_from nothing_held) words ≡ []
walk_right s names words has below h = (neither _ _ h).0

-- nothing is wrong at a level: neither below it nor in its last checks
level_right : (s : Shape) (names : Names) (words : List Text) (has : Bool) (below : Kinds) → level_fault s names nothing_held words has below ≡ []
    → (below ≡ []) × (check_fault s (rows_after s.rules names words) has ≡ [])
level_right s names words has below h =
    let past_walk = (neither _ _ h).1 in
    let past_below = neither _ _ past_walk in
    let past_settling = (neither _ _ past_below.1).1 in
    (past_below.0, (neither _ _ past_settling).1)

wanted_none : (wants_help wants_subcommand wants_argument : Bool) → check_kinds wants_help wants_subcommand wants_argument ≡ []
    → (wants_subcommand ≡ false) × (wants_argument ≡ false)
wanted_none true s a h = cc
wanted_none false true a h = cc
wanted_none false false true h = cc
wanted_none false false false h = (refl, refl)

-- the last checks found that neither a subcommand nor an argument is missing
nothing_wanted : (s : Shape) (rows : List Row) (has : Bool) → check_fault s rows has ≡ []
    → ((not has && s.subcommand_required) ≡ false)
    × ((not (s.subcommand_negates_reqs && has) && list_any (λ a. a.required && not (is_given a.id rows)) s.rules) ≡ false)
nothing_wanted s rows has h =
    wanted_none (not has && (s.arg_required_else_help && not (list_any (λ r. explicit_source r.source) rows))) (not has && s.subcommand_required)
    (not (s.subcommand_negates_reqs && has) && list_any (λ a. a.required && not (is_given a.id rows)) s.rules) h

-- no argument is missing
none_wanting : (s : Shape) (words : List Text) → level_fault s [] nothing_held words false [] ≡ []
    → (not (s.subcommand_negates_reqs && false) && list_any (λ a. a.required && not (is_given a.id (rows_after s.rules [] words))) s.rules) ≡ false
none_wanting s words h = (nothing_wanted s (rows_after s.rules [] words) false (level_right s [] words false [] h).1).1

-- a subcommand without a fault has its files and its flags
right : (s : Subcommand) (words : List Text) → level_fault (shape_of s) [] nothing_held words false [] ≡ [] → Has s (rows_after (shape_of s).rules [] words)
right dry words h =
    let given = all_given (shape_of dry).rules (distinct dry) [] words (none_wanting (shape_of dry) words h) in
    (given.0.0 refl refl, given.1.1.1.0.1 refl)
right format words h =
    let given = all_given (shape_of format).rules (distinct format) [] words (none_wanting (shape_of format) words h) in
    (given.0.0 refl refl, given.1.0.1 refl)
right grow words h =
    let given = all_given (shape_of grow).rules (distinct grow) [] words (none_wanting (shape_of grow) words h) in
    given.0.0 refl refl
right run words h =
    let given = all_given (shape_of run).rules (distinct run) [] words (none_wanting (shape_of run) words h) in
    (given.0.0 refl refl, given.1.0.0 refl refl, given.1.1.0.0 refl refl)
right pace words h =
    let given = all_given (shape_of pace).rules (distinct pace) [] words (none_wanting (shape_of pace) words h) in
    (given.0.0 refl refl, given.1.0.0 refl refl, given.1.1.0.1 refl)

-- the words name this subcommand, with these matches
abbrev pub IsNamed : Subcommand → Option (Text × List Row) → List Row → Type 0
IsNamed s met rows = (met ≡ Some (name_of s, rows)) × Has s rows

abbrev pub IsOneNamed : Option (Text × List Row) → Type 0
IsOneNamed met = (s : Subcommand) × (rows : List Row) × IsNamed s met rows

-- if clap's definition finds no fault, the words name one of the subcommands
names_one : (words : List Text) → fault_of ngc_app words ≡ [] → IsOneNamed (subcommand_of ngc_app words)
names_one words h =
    let app = built ngc_app in
    let rest = argument_words ngc_app words in
    let no_help = enters_no_help app.top (names_of app) (walk_from nothing_held) rest refl tt (walk_right app.top (names_of app) rest _ _ h) in
    go (stop_after app.top.rules (names_of app) rest) no_help (level_right app.top (names_of app) rest _ _ h)
  where
    met : (b f w r a d : Bool) (p : Text × List Text) (top : List Row) → d ≡ false
        → option_map_or (λ s. level_fault s [] nothing_held p.1 false [])
        (if b then Some (shape_of dry) else
        (if f then Some (shape_of format) else
        (if w then Some (shape_of grow) else
        (if r then Some (shape_of run) else
        (if a then Some (shape_of pace) else (if d then Some help_built else None)))))) [] ≡ []
        → check_fault (built ngc_app).top top
        (is_some (option_map (λ s. rows_at s p.1)
        (if b then Some (shape_of dry) else
        (if f then Some (shape_of format) else
        (if w then Some (shape_of grow) else
        (if r then Some (shape_of run) else
        (if a then Some (shape_of pace) else (if d then Some help_built else None)))))))) ≡ []
        → IsOneNamed (option_map (λ s. rows_at s p.1)
        (if b then Some (shape_of dry) else
        (if f then Some (shape_of format) else
        (if w then Some (shape_of grow) else
        (if r then Some (shape_of run) else
        (if a then Some (shape_of pace) else (if d then Some help_built else None)))))))
    met true f w r a d p top no_help below checked = (dry, rows_after (shape_of dry).rules [] p.1, (refl, right dry p.1 below))
    met false true w r a d p top no_help below checked = (format, rows_after (shape_of format).rules [] p.1, (refl, right format p.1 below))
    met false false true r a d p top no_help below checked = (grow, rows_after (shape_of grow).rules [] p.1, (refl, right grow p.1 below))
    met false false false true a d p top no_help below checked = (run, rows_after (shape_of run).rules [] p.1, (refl, right run p.1 below))
    met false false false false true d p top no_help below checked = (pace, rows_after (shape_of pace).rules [] p.1, (refl, right pace p.1 below))
    met false false false false false false p top no_help below checked =
        let no : true ≡ false = (nothing_wanted (built ngc_app).top top false checked).0 in
        cc
    met false false false false false true p top no_help below checked = cc

    is_no_help : (p : Text × List Text) → bytes_eq p.0 (codes "help") ≡ false → answers_to p.0 (label_of help_built) ≡ false
    is_no_help p differs = go_help (bytes_eq (codes "help") p.0) refl
      where
        go_help : (b : Bool) → bytes_eq (codes "help") p.0 ≡ b → (b || false) ≡ false
        go_help false is = refl
        go_help true is =
            let back : bytes_eq p.0 (codes "help") ≡ true = (bytes_eq-Decides p.0 (codes "help")).1 (sym ((bytes_eq-Decides (codes "help") p.0).0 is)) in
            cc

    go : (stop : Option (Text × List Text)) → IsNotHelp stop
        → (entered_fault (built ngc_app) stop ≡ []) × (check_fault (built ngc_app).top (matches_of ngc_app words) (is_some (entered (built ngc_app) stop)) ≡ [])
        → IsOneNamed (entered (built ngc_app) stop)
    go None differs right =
        let no : true ≡ false = (nothing_wanted (built ngc_app).top (matches_of ngc_app words) false right.1).0 in
        cc
    go (Some p) differs right =
        met (answers_to p.0 (label_of (shape_of dry))) (answers_to p.0 (label_of (shape_of format)))
        (answers_to p.0 (label_of (shape_of grow))) (answers_to p.0 (label_of (shape_of run)))
        (answers_to p.0 (label_of (shape_of pace))) (answers_to p.0 (label_of help_built)) p
        (matches_of ngc_app words) (is_no_help p differs) right.0 right.1

-- ---- what clap's matches then say

same_rows : (name : Text) (met : Option (Text × List Row)) (rows found : List Row) → met ≡ Some (name, rows)
    → option_map (λ p. p.1) met ≡ Some found → rows ≡ found
same_rows name met rows found is has = ap (λ o. unwrap_or o rows) (sym (ap (option_map (λ p. p.1)) is) ∙ has)

-- what clap's matches say of the subcommand is what the words name
met_by_words : (words : List Text) (app : App) (matches : ArgMatches) → app ≡ ngc_app
    → HasMatchesOf app words matches → subcommand_rows_of matches ≡ subcommand_of ngc_app words
met_by_words words app matches is_ngc has = (has (ap is_simple is_ngc)).1 ∙ ap (λ a. subcommand_of a words) is_ngc

name_met : (words : List Text) (app : App) (matches : ArgMatches) → app ≡ ngc_app → HasMatchesOf app words matches
    → subcommand_name_of matches ≡ option_map (λ p. p.0) (subcommand_of ngc_app words)
name_met words app matches is_ngc has = sym (first (out-ArgMatches matches).subcommand) ∙ ap (option_map (λ p. p.0)) (met_by_words words app matches is_ngc has)
  where
    first : {Z : Type 0} (met : Option (Box SubCommand Z))
        → option_map (λ p. p.0) (subcommand_rows met) ≡ option_map (λ b. (out-SubCommand (box_value b)).name.now)
        met
    first None = refl
    first (Some b) = refl

one_met : (words : List Text) (app : App) → app ≡ ngc_app → (is_simple_and_free app ≡ true → fault_of app words ≡ []) → IsOneNamed (subcommand_of ngc_app words)
one_met words app is_ngc kinds = names_one words (ap (λ a. fault_of a words) (sym is_ngc) ∙ kinds (ap is_simple_and_free is_ngc ∙ is_plain))

-- if clap found no fault and the matches name a subcommand, its matches are what the words name, with its files and its
-- flags
pub found_of : (s : Subcommand) (words : List Text) (app : App) (matches : ArgMatches) (found : List Row) → app ≡ ngc_app
    → (is_simple_and_free app ≡ true → fault_of app words ≡ []) → HasMatchesOf app words matches
    → option_map (λ p. p.1) (subcommand_rows_of matches) ≡ Some found
    → subcommand_name_of matches ≡ Some (name_of s) → IsNamed s (subcommand_of ngc_app words) found
found_of s words app matches found is_ngc kinds has below named = go (one_met words app is_ngc kinds)
  where
    go : IsOneNamed (subcommand_of ngc_app words) → IsNamed s (subcommand_of ngc_app words) found
    go (other, rows, names) =
        let same : other ≡ s =
        same_name other s (ap (λ o. unwrap_or o []) (sym (ap (option_map (λ p. p.0)) names.0)
        ∙ (sym (name_met words app matches is_ngc has) ∙ named))) in
        let these : rows ≡ found = same_rows (name_of other) _ rows found names.0
        (sym (ap (option_map (λ p. p.1)) (met_by_words words app matches is_ngc has)) ∙ below) in
        subst (λ t. IsNamed t (subcommand_of ngc_app words) found) same (subst (IsNamed other (subcommand_of ngc_app words)) these names)

pub is_asked : (words : List Text) (job : Job) (found : List Row) → subcommand_of ngc_app words ≡ Some (subcommand_name job, found)
    → HasFiles found job → HasFlags found job → RequestsJob words job
is_asked words (Dry program from settings block_delete) found named files flags = (found, named, files, flags)
is_asked words (Format device large) found named files flags = (found, named, files, flags)
is_asked words (Grow device) found named files flags = (found, named, files, flags)
is_asked words (Run device settings out) found named files flags = (found, named, files, flags)
is_asked words (Pace settings machine total) found named files flags = (found, named, files, flags)

-- if clap found no fault, the matches name one of the subcommands
pub name_found : (words : List Text) (app : App) (matches : ArgMatches) → app ≡ ngc_app → (is_simple_and_free app ≡ true → fault_of app words ≡ [])
    → HasMatchesOf app words matches → (s : Subcommand) × (subcommand_name_of matches ≡ Some (name_of s))
name_found words app matches is_ngc kinds has = go (one_met words app is_ngc kinds)
  where
    go : IsOneNamed (subcommand_of ngc_app words) → (s : Subcommand) × (subcommand_name_of matches ≡ Some (name_of s))
    go (s, rows, names) = (s, name_met words app matches is_ngc has ∙ ap (option_map (λ p. p.0)) names.0)
