-- A walk over words in which clap finds no fault doesn't stop at the subcommand `help`, which always prints help.
use Rattle.std.proofs.Common.{◌≡◌, sym, subst, Bool, true, false, List, [], ◌∷◌, Option, Some, None, codes, refl}
use Rattle.std.specs.Prelude.{◌&&◌, not, ⊤, fold, if◌then◌else◌, is_some}
use Rattle.std.specs.Str.{bytes_eq}
use Rattle.clap.specs.Lexer.{long_of, short_of}
use Rattle.clap.specs.Faults.{other_fault, step_fault, turn_fault, walk_fault, word_fault}
use Rattle.clap.specs.Kinds.{Kinds, or_else}
use Rattle.clap.specs.Simple.{Shape}
use Rattle.clap.specs.declared.error.kind.ErrorKind.TheVariants as kind
use Rattle.clap.specs.Walk.{Held, Names, Outcome, Rule, Step, Text, Waiting, Walk, after_flag, after_step}
use Rattle.clap.specs.Walk.{arg_by_index, bundle, long_met, arg_by_long, long_or_other, plain_word, short_or_plain}
use Rattle.clap.specs.Walk.{subcommand_met, subcommand_or_other, to_positional, walked, walked_from, word_met}
use Rattle.clap.specs.Walk.{done, waits, plain, refused, idle, option, positional, next, trailing, subcommand, value}

-- what was entered isn't help
abbrev pub IsNotHelp : Option (Text × List Text) → Type 0
IsNotHelp None = ⊤
IsNotHelp (Some p) = bytes_eq p.0 (codes "help") ≡ false

-- the word names no subcommand
abbrev pub Enters : Step → Type 0
Enters (subcommand name) = bytes_eq name (codes "help") ≡ false
Enters _ = ⊤

plain_enters : (c : List Rule) (waiting : Waiting) (word : Text) (h : Held) → Enters (plain_word c waiting word h).1
plain_enters c (option id) word h = tt
plain_enters c idle word h = tt
plain_enters c positional word h = tt

flag_enters : (c : List Rule) (waiting : Waiting) (word : Text) (h : Held) (o : Outcome) → Enters (after_flag c waiting word h o).1
flag_enters c waiting word h done = tt
flag_enters c waiting word h (waits id) = tt
flag_enters c waiting word h plain = plain_enters c waiting word h
flag_enters c waiting word h refused = plain_enters c waiting word h

short_enters : (c : List Rule) (waiting : Waiting) (word : Text) (flags : Option Text) (h : Held) → Enters (short_or_plain c waiting word flags h).1
short_enters c waiting word (Some flags) h = flag_enters c waiting word (bundle c flags h).0 (bundle c flags h).1
short_enters c waiting word None h = plain_enters c waiting word h

long_enters : (c : List Rule) (waiting : Waiting) (word : Text) (name : Option (Text × Option Text)) (h : Held) → Enters (long_or_other c waiting word name h).1
long_enters c waiting word (Some p) h = flag_enters c waiting word (long_met c (arg_by_long c p.0) p.1 h).0 (long_met c (arg_by_long c p.0) p.1 h).1
long_enters c waiting word None h = short_enters c waiting word (short_of word) h

first_none : (a b : Kinds) → or_else a b ≡ [] → a ≡ []
first_none [] b h = refl
first_none (k ∷ ks) b h = cc

rest_none : (a b : Kinds) → or_else a b ≡ [] → b ≡ []
rest_none [] b h = h
rest_none (k ∷ ks) b h = cc

other_enters : (s : Shape) (met : Option Text) (waiting : Waiting) (position : _) (word : Text) (h : Held)
    → s.disable_help_subcommand ≡ false → other_fault s met word h ≡ [] → Enters (subcommand_or_other s.rules met waiting position word h).1
other_enters s (Some name) waiting position word h help none = go (bytes_eq name (codes "help")) s.disable_help_subcommand help none
  where
    go : (same disabled : Bool) → disabled ≡ false → (if same && not disabled then kind.DisplayHelp ∷ kind.InvalidSubcommand ∷ [] else []) ≡ [] → same ≡ false
    go true false d e = cc
    go true true d e = cc
    go false disabled d e = refl
other_enters s None waiting position word h help none = go (bytes_eq word (45 ∷ 45 ∷ []))
  where
    go : (b : Bool) → Enters (if b then (h, trailing position) else long_or_other s.rules waiting word (long_of word) h).1
    go true = tt
    go false = long_enters s.rules waiting word (long_of word) h

word_enters : (s : Shape) (names : Names) (is_trailing : Bool) (waiting : Waiting) (position : _) (word : Text) (h : Held)
    → s.disable_help_subcommand ≡ false → word_fault s names is_trailing waiting word h ≡ []
    → Enters (word_met s.rules names is_trailing waiting position word h).1
word_enters s names true waiting position word h help none = tt
word_enters s names false waiting position word h help none = other_enters s (subcommand_met names waiting word) waiting position word h help none

to_positional_enters : (c : List Rule) (a : Option Rule) (word : Text) (w : Walk) (h : Held) → IsNotHelp w.stopped
    → IsNotHelp (to_positional c a word w h).stopped
to_positional_enters c None word w h so_far = so_far
to_positional_enters c (Some a) word w h so_far = tt

step_enters : (c : List Rule) (word : Text) (w : Walk) (h : Held) (step : Step) → IsNotHelp w.stopped → Enters step
    → IsNotHelp (after_step c word w h step).stopped
step_enters c word w h (next waiting) so_far enters = so_far
step_enters c word w h (trailing position) so_far enters = so_far
step_enters c word w h (subcommand name) so_far enters = enters
step_enters c word w h value so_far enters = to_positional_enters c (arg_by_index c w.position) word w h so_far

turn_enters : (s : Shape) (names : Names) (w : Walk) (word : Text) (stopped : Option (Text × List Text)) → w.stopped ≡ stopped
    → s.disable_help_subcommand ≡ false → IsNotHelp stopped
    → (if is_some stopped then [] else or_else (word_fault s names w.is_trailing w.waiting word w.held)
    (step_fault s w.position (word_met s.rules names w.is_trailing w.waiting w.position word w.held).0
    (word_met s.rules names w.is_trailing w.waiting w.position word w.held).1)) ≡ []
    → IsNotHelp (walked_from s.rules names stopped w word).stopped
turn_enters s names w word (Some p) same help so_far none = so_far
turn_enters s names w word None same help so_far none =
    let met = word_met s.rules names w.is_trailing w.waiting w.position word w.held in
    let before : IsNotHelp w.stopped = subst IsNotHelp (sym same) tt in
    step_enters s.rules word w met.0 met.1 before (word_enters s names w.is_trailing w.waiting w.position word w.held help (first_none _ _ none))

walked_enters : (s : Shape) (names : Names) (w : Walk) (word : Text) → s.disable_help_subcommand ≡ false → IsNotHelp w.stopped
    → turn_fault s names w word ≡ [] → IsNotHelp (walked s.rules names w word).stopped
unfolding walked
walked_enters s names w word help so_far none = turn_enters s names w word w.stopped refl help so_far none

-- no walk without a fault enters help
pub enters_no_help : (s : Shape) (names : Names) (w : Walk) (words : List Text) → s.disable_help_subcommand ≡ false → IsNotHelp w.stopped
    → walk_fault s names w words ≡ [] → IsNotHelp (fold (walked s.rules names) w words).stopped
unfolding walk_fault
enters_no_help s names w [] help so_far none = so_far
enters_no_help s names w (word ∷ rest) help so_far none =
    enters_no_help s names (walked s.rules names w word) rest help
    (walked_enters s names w word help so_far (first_none _ _ none)) (rest_none _ _ none)
