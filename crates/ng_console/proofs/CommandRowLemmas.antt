-- What any words leave in the rows of a command of one level: the row of a positional has a value, since only a word
-- becomes a value of it, and the row of a flag says on or off.
use Rattle.std.proofs.Common.{ℕ, zero, suc, ◌<◌, ◌==◌, ◌≡◌, ◌++◌, Bool, true, false, List, [], ◌∷◌, length, Option}
use Rattle.std.proofs.Common.{Some, None, is_some, drop, cond, refl, sym, ap, ◌∙◌, arith, find, fold, slice_get}
use Rattle.std.proofs.Common.{option_map, option_and_then, encode_utf8, bytes_eq, chars}
use Rattle.std.specs.Prelude.{◌&&◌, ◌||◌, not, nat_lt, if◌then◌else◌, ⊤}
use Rattle.std.specs.List.{list_any}
use Rattle.std.specs.Option.{option_map_or}
use Rattle.std.proofs.lemmas.List.{length-append}
use Rattle.std.proofs.lemmas.Slice.Eq.{bytes_eq-Decides}
use Rattle.clap.specs.Lexer.{long_of, short_of}
use Rattle.clap.specs.Walk.{Held, Outcome, Names, Row, Rule, Step, Text, Waiting, Walk, action_of, after_flag}
use Rattle.clap.specs.Walk.{after_step, arg_by_id, arg_by_index, arg_by_long, arg_by_short, attached_value}
use Rattle.clap.specs.Walk.{bundle_met, bundle_step, default_rows, first_of, flag_met, has_long, has_row, has_short}
use Rattle.clap.specs.Walk.{is_multiple, is_pending, long_met, long_or_other, more_values, most_values}
use Rattle.clap.specs.Walk.{nothing_held, option_met, option_word, pending_count, plain_word, positional_held}
use Rattle.clap.specs.Walk.{pushed, reacted, reading_by, row_text, rows_after, settled, settled_rows, short_met}
use Rattle.clap.specs.Walk.{short_or_plain, started, subcommand_met, subcommand_or_other, takes_several}
use Rattle.clap.specs.Walk.{takes_values, to_positional, used, used_as, used_by_id, values_or_missing, walk}
use Rattle.clap.specs.Walk.{walk_from, walked, walked_from, with_default, with_values, without, word_met}
use Rattle.clap.specs.Walk.{done, waits, plain, refused, idle, option, positional, next, trailing, subcommand, value}
use Rattle.clap.specs.Facts.{explicit_source}
use Rattle.clap.specs.Takes.{is_given}
use Rattle.clap.specs.Values.{bool_text, read_as}
use Rattle.clap.specs.declared.builder.action.ArgAction.{ArgAction}
use Rattle.clap.specs.declared.builder.action.ArgAction.TheVariants.{Append, Count, Help, HelpLong, HelpShort, Set, SetFalse, SetTrue, Version}
use Rattle.clap.specs.declared.builder.value_parser.Reading.{Reading}
use Rattle.clap.specs.declared.parser.matches.ValueSource.{ValueSource}
use Rattle.clap.specs.declared.parser.matches.ValueSource.TheVariants.{CommandLine, DefaultValue}
use Rattle.ng_console.specs.Words.{HasFlag}

abbrev is_counting : ArgAction → Bool
is_counting Count = true
is_counting _ = false

abbrev is_setting : ArgAction → Bool
is_setting SetTrue = true
is_setting _ = false

-- the values say on or off, as they are read
abbrev pub SayBy : Reading → List Text → Type 0
SayBy how values = (is_on : Bool) × (option_map (read_as how) (slice_get values 0) ≡ Some (bool_text is_on))

abbrev pub Says : Row → Type 0
Says r = SayBy r.reading r.values

-- a flag: it takes no value and has no place, and says so whether it is used or not
pub record IsFlag (a : Rule) : Type 0 where
  pub takes_none : takes_values a ≡ false
  pub no_place : is_some a.index ≡ false
  pub used : SayBy (reading_by a) a.missing
  pub unused : SayBy (reading_by a) a.defaults

-- further values don't change the first
still_say : (how : Reading) (before more : List Text) → SayBy how before → SayBy how (before ++ more)
still_say how [] more says = let e = says.1 in cc
still_say how (v ∷ vs) more says = says

-- what is used in place of missing values
given_some : (a : Rule) (values : List Text) → 0 < length values → 0 < length (values_or_missing a values)
given_some a [] some = absurd (omega arith)
given_some a (v ∷ vs) some = some

-- one name differs from another
differ : {X : Type 0} → true ≡ false → X
differ e = cc

not_both : {X : Type 0} (b : Bool) → b ≡ true → b ≡ false → X
not_both b is isnt = differ (sym is ∙ isnt)

is_false : (b : Bool) → (b ≡ true → ⊥) → b ≡ false
is_false true never = absurd (never refl)
is_false false _ = refl

abbrev pub Each : {X : Type 0} → (X → Type 0) → List X → Type 0
Each P [] = ⊤
Each P (x ∷ xs) = P x × Each P xs

-- what is found passed the test; what is true of nothing, and of each that could be found, is true of what is found
found_so : {X : Type 0} (test : X → Bool) (P : X → Type 0) (Q : Option X → Type 0) (xs : List X) → Each P xs → Q None
    → ((x : X) → P x → test x ≡ true → Q (Some x)) → Q (find test xs)
found_so test P Q [] all none some = none
found_so test P Q (x ∷ xs) all none some = go (test x) refl (found_so test P Q xs all.1 none some)
  where
    go : (b : Bool) → test x ≡ b → Q (find test xs) → Q (cond b (Some x) (find test xs))
    go true is rest = some x all.0 is
    go false is rest = rest

free : (b c : Bool) → (not b && c) ≡ true → b ≡ false
free false c h = refl
free true c h = cc

placed_at : (place : Option ℕ) (i : ℕ) → option_map_or (λ k. k == i) place false ≡ true → is_some place ≡ true
placed_at None i h = cc
placed_at (Some k) i h = refl

-- ---- a flag has a row after the defaults

set_has : (id : Text) (how : Reading) (source : ValueSource) (values : List Text) (rows : List Row) → has_row id (with_values id how source values rows) ≡ true
set_has id how source values [] = ap (λ b. b || false) ((bytes_eq-Decides id id).1 refl)
set_has id how source values (r ∷ rs) = go (bytes_eq r.id id) refl (set_has id how source values rs)
  where
    go : (b : Bool) → bytes_eq r.id id ≡ b → has_row id (with_values id how source values rs) ≡ true
        → has_row id (if b then more_values source values r ++ rs else r ∷ with_values id how source values rs) ≡ true
    go true e rest = rw e refl
    go false e rest = rw (e, rest) refl

or_keeps : (same before after : Bool) → (same || before) ≡ true → (before ≡ true → after ≡ true) → (same || after) ≡ true
or_keeps true before after has keeps = refl
or_keeps false before after has keeps = keeps has

set_keeps : (id other : Text) (how : Reading) (source : ValueSource) (values : List Text) (rows : List Row) → has_row id rows ≡ true
    → has_row id (with_values other how source values rows) ≡ true
set_keeps id other how source values [] has = cc
set_keeps id other how source values (r ∷ rs) has = go (bytes_eq r.id other) (set_keeps id other how source values rs)
  where
    go : (b : Bool) → (has_row id rs ≡ true → has_row id (with_values other how source values rs) ≡ true)
        → has_row id (if b then more_values source values r ++ rs else r ∷ with_values other how source values rs) ≡ true
    go true rest = has
    go false rest = or_keeps (bytes_eq r.id id) (has_row id rs) (has_row id (with_values other how source values rs)) has rest

default_keeps : (id : Text) (rows : List Row) (a : Rule) → has_row id rows ≡ true → has_row id (with_default rows a) ≡ true
default_keeps id rows a has = go (has_row a.id rows)
  where
    of : (values : List Text) → has_row id (default_rows a.id (reading_by a) values rows) ≡ true
    of [] = has
    of (v ∷ vs) = set_keeps id a.id (reading_by a) DefaultValue (v ∷ vs) rows has

    go : (b : Bool) → has_row id (if b then rows else default_rows a.id (reading_by a) a.defaults rows) ≡ true
    go true = has
    go false = of a.defaults

default_has : (rows : List Row) (a : Rule) → IsFlag a → has_row a.id (with_default rows a) ≡ true
default_has rows a flag = go (has_row a.id rows) refl
  where
    of : (values : List Text) → SayBy (reading_by a) values → has_row a.id (default_rows a.id (reading_by a) values rows) ≡ true
    of [] says = let e = says.1 in cc
    of (v ∷ vs) says = set_has a.id (reading_by a) DefaultValue (v ∷ vs) rows

    go : (b : Bool) → has_row a.id rows ≡ b → has_row a.id (if b then rows else default_rows a.id (reading_by a) a.defaults rows) ≡ true
    go true is = is
    go false is = of a.defaults flag.unused

defaults_keep : (id : Text) (xs : List Rule) (rows : List Row) → has_row id rows ≡ true → has_row id (fold with_default rows xs) ≡ true
defaults_keep id [] rows has = has
defaults_keep id (a ∷ rest) rows has = defaults_keep id rest (with_default rows a) (default_keeps id rows a has)

defaults_have : (xs : List Rule) (rows : List Row) → Each (λ a. IsFlag a → has_row a.id (fold with_default rows xs) ≡ true) xs
defaults_have [] rows = tt
defaults_have (a ∷ rest) rows = (λ flag. defaults_keep a.id rest (with_default rows a) (default_has rows a flag), defaults_have rest (with_default rows a))

-- ---- each argument that has to be given is given

abbrev Wanted : List Row → Rule → Type 0
Wanted rows a = a.required ≡ true → is_given a.id rows ≡ true

wanted_given : (rows : List Row) (xs : List Rule) → list_any (λ a. a.required && not (is_given a.id rows)) xs ≡ false → Each (Wanted rows) xs
wanted_given rows [] h = tt
wanted_given rows (a ∷ rest) h = go a.required (is_given a.id rows) h (wanted_given rows rest)
  where
    go : (required given : Bool) → ((required && not given) || list_any (λ (x : Rule). x.required && not (is_given x.id rows)) rest) ≡ false
        → (list_any (λ (x : Rule). x.required && not (is_given x.id rows)) rest ≡ false → Each (Wanted rows) rest)
        → (required ≡ true → given ≡ true) × Each (Wanted rows) rest
    go false given h others = (λ e. differ (sym e), others h)
    go true true h others = (λ e. refl, others h)
    go true false h others = cc

module _ (rules : List Rule) where
  -- whether the argument of this name has a place among the words
  abbrev pub has_place : Text → Bool
  has_place id = option_map_or (λ a. is_some a.index) (arg_by_id rules id) false

  -- whether it is turned on and off
  abbrev pub is_switch : Text → Bool
  is_switch id = option_map_or (λ a. is_setting (action_of a)) (arg_by_id rules id) false

  -- the argument has a different name from those of other kinds, and isn't a counter
  pub record IsDistinct (a : Rule) : Type 0 where
    pub placeless : is_some a.index ≡ false → has_place a.id ≡ false
    pub flag : is_switch a.id ≡ true → IsFlag a
    pub counts_nothing : is_counting (action_of a) ≡ false

  -- a positional or an option whose name isn't that of a flag
  abbrev pub is_apart : Rule → Bool
  is_apart a = not (is_counting (action_of a)) && (not (is_switch a.id) && (is_some a.index || not (has_place a.id)))

  pub apart_distinct : (a : Rule) → is_apart a ≡ true → IsDistinct a
  apart_distinct a h = go (is_counting (action_of a)) refl (is_switch a.id) refl (is_some a.index) refl (has_place a.id) refl h
    where
      go : (c : Bool) → is_counting (action_of a) ≡ c → (s : Bool) → is_switch a.id ≡ s → (i : Bool) → is_some a.index ≡ i → (p : Bool) → has_place a.id ≡ p
          → (not c && (not s && (i || not p))) ≡ true → IsDistinct a
      go true counts s is i placed p place h = cc
      go false counts true is i placed p place h = cc
      go false counts false is false placed true place h = cc
      go false counts false is false placed false place h = record { placeless = λ e. place; flag = λ e. not_both _ e is; counts_nothing = counts }
      go false counts false is true placed p place h = record { placeless = λ e. not_both _ placed e; flag = λ e. not_both _ e is; counts_nothing = counts }

  pub flag_distinct : (a : Rule) → IsFlag a → has_place a.id ≡ false → is_counting (action_of a) ≡ false → IsDistinct a
  flag_distinct a flag nowhere counts = record { placeless = λ e. nowhere; flag = λ e. flag; counts_nothing = counts }

  -- the row has a value if it is a positional's, and says on or off if it is a flag's
  abbrev pub Right : Text → Reading → List Text → Type 0
  Right id how values = (has_place id ≡ true → 0 < length values) × (is_switch id ≡ true → SayBy how values)

  abbrev pub Full : List Row → Type 0
  Full [] = ⊤
  Full (r ∷ rs) = Right r.id r.reading r.values × Full rs

  -- what waits isn't a flag, and has a value if it is a positional
  abbrev Waits : Option (Text × List Text) → Type 0
  Waits None = ⊤
  Waits (Some p) = (has_place p.0 ≡ true → 0 < length p.1) × (is_switch p.0 ≡ false)

  abbrev Good : Held → Type 0
  Good h = Full h.rows × Waits h.pending

  -- no flag waits for a word
  abbrev Settles : Outcome → Type 0
  Settles (waits id) = is_switch id ≡ false
  Settles _ = ⊤

  abbrev Steady : Waiting → Type 0
  Steady (option id) = is_switch id ≡ false
  Steady _ = ⊤

  abbrev Steps : Step → Type 0
  Steps (next waiting) = Steady waiting
  Steps _ = ⊤

  -- a word of flags, and any other word, keep this good
  abbrev FlagGood : Held × Outcome → Type 0
  FlagGood f = Good f.0 × Settles f.1

  abbrev WordGood : Held × Step → Type 0
  WordGood m = Good m.0 × Steps m.1

  abbrev WalkGood : Walk → Type 0
  WalkGood w = Good w.held × Steady w.waiting

  -- ---- rows

  without_full : (id : Text) (rows : List Row) → Full rows → Full (without id rows)
  without_full id [] h = tt
  without_full id (r ∷ rs) h = go (bytes_eq r.id id) (without_full id rs h.1)
    where
      go : (b : Bool) → Full (without id rs) → Full (if b then rs else r ∷ without id rs)
      go true rest = h.1
      go false rest = (h.0, rest)

  more_right : (id : Text) (how : Reading) (before more : List Text) → Right id how before → Right id how (before ++ more)
  more_right id how before more right = (
    λ placed. let some = right.0 placed in rw (length-append before more) (omega arith),
    λ switch. still_say how before more (right.1 switch),
  )

  set_full : (id : Text) (how : Reading) (source : ValueSource) (values : List Text) (rows : List Row) → Right id how values → Full rows
      → Full (with_values id how source values rows)
  set_full id how source values [] right h = (right, tt)
  set_full id how source values (r ∷ rs) right h = go (bytes_eq r.id id) (set_full id how source values rs right h.1)
    where
      go : (b : Bool) → Full (with_values id how source values rs)
          → Full (if b then more_values source values r ++ rs else r ∷ with_values id how source values rs)
      go true rest = (more_right r.id r.reading r.values values h.0, h.1)
      go false rest = (h.0, rest)

  -- a use with values, or of a flag without values
  used_full : (a : Rule) (values : List Text) (rows : List Row) → IsDistinct a → (has_place a.id ≡ true → 0 < length values)
      → (is_switch a.id ≡ true → values ≡ []) → Full rows → Full (used a values rows)
  used_full a values rows valid some bare h = go (action_of a) valid.counts_nothing
    where
      flagged : (vs : List Text) → vs ≡ [] → IsFlag a → SayBy (reading_by a) (values_or_missing a vs)
      flagged [] none flag = flag.used
      flagged (v ∷ vs) none flag = cc

      right : Right a.id (reading_by a) (values_or_missing a values)
      right = (λ placed. given_some a values (some placed), λ switch. flagged values (bare switch) (valid.flag switch))

      alone : Full (with_values a.id (reading_by a) CommandLine (values_or_missing a values) (without a.id rows))
      alone = set_full a.id (reading_by a) CommandLine (values_or_missing a values) (without a.id rows) right (without_full a.id rows h)

      go : (x : ArgAction) → is_counting x ≡ false → Full (used_as x a.id (reading_by a) (values_or_missing a values) rows)
      go Set _ = alone
      go SetTrue _ = alone
      go SetFalse _ = alone
      go Append _ = set_full a.id (reading_by a) CommandLine (values_or_missing a values) rows right h
      go Count other = cc
      go Help _ = h
      go HelpShort _ = h
      go HelpLong _ = h
      go Version _ = h

  module _ (all : Each IsDistinct rules) where
    -- what waits is used
    by_id_full : (id : Text) (values : List Text) (rows : List Row) → Waits (Some (id, values)) → Full rows → Full (used_by_id (arg_by_id rules id) values rows)
    by_id_full id values rows waiting h =
        found_so (λ a. bytes_eq a.id id) IsDistinct (λ found. Full (used_by_id found values rows)) rules all h
        (λ a own met. of a own ((bytes_eq-Decides a.id id).0 met))
      where
        of : (a : Rule) → IsDistinct a → a.id ≡ id → Full (used a values rows)
        of a own same =
            used_full a values rows own (λ placed. waiting.0 (ap has_place (sym same) ∙ placed))
            (λ switch. not_both (is_switch id) (ap is_switch (sym same) ∙ switch) waiting.1) h

    settled_full : (h : Held) → Good h → Full (settled rules h).rows
    settled_full h good = go h.pending good.1
      where
        go : (p : Option (Text × List Text)) → Waits p → Full (settled_rows rules p h.rows)
        go None w = good.0
        go (Some p) w = by_id_full p.0 p.1 h.rows w good.0

    reacted_good : (a : Rule) (values : List Text) (h : Held) → IsDistinct a → (has_place a.id ≡ true → 0 < length values)
        → (is_switch a.id ≡ true → values ≡ []) → Good h → Good (reacted rules a values h)
    reacted_good a values h own some bare good = (used_full a values (settled rules h).rows own some bare (settled_full h good), tt)

    -- one more word of what waits, or the first one of an argument that isn't a flag
    pushed_good : (id word : Text) (h : Held) → is_switch id ≡ false → Good h → Good (pushed id word h)
    pushed_good id word h no_switch good = (good.0, go h.pending good.1)
      where
        go : (p : Option (Text × List Text)) → Waits p → Waits (Some ((started id p).0, (started id p).1 ++ word ∷ []))
        go None w = (λ placed. omega arith, no_switch)
        go (Some p) w = (λ placed. rw (length-append p.1 (word ∷ [])) (omega arith), w.1)

    -- ---- the flags of a word

    option_good : (a : Rule) (v : Option Text) (h : Held) → IsDistinct a → is_some a.index ≡ false
        → takes_values a ≡ true → Good h → FlagGood (option_met rules a v h)
    option_good a v h own nowhere takes good = go v
      where
        no_switch : is_switch a.id ≡ false
        no_switch = is_false (is_switch a.id) (λ switch. not_both (takes_values a) takes (own.flag switch).takes_none)

        go : (v : Option Text) → FlagGood (option_met rules a v h)
        go (Some t) = (reacted_good a (t ∷ []) h own (λ placed. omega arith) (λ switch. not_both (is_switch a.id) switch no_switch) good, tt)
        go None = ((settled_full h good, (λ placed. not_both (has_place a.id) placed (own.placeless nowhere), no_switch)), no_switch)

    bare_good : (a : Rule) (h : Held) → IsDistinct a → is_some a.index ≡ false → Good h → Good (reacted rules a [] h)
    bare_good a h own nowhere good =
        reacted_good a [] h own (λ placed. not_both (has_place a.id) placed (own.placeless nowhere)) (λ switch. refl) good

    long_good : (name : Text) (v : Option Text) (h : Held) → Good h → FlagGood (long_met rules (arg_by_long rules name) v h)
    long_good name v h good =
        found_so (λ a. not (is_some a.index) && has_long a name) IsDistinct (λ found. FlagGood (long_met rules found v h)) rules all (good, tt)
        (λ a own met. of a own (free (is_some a.index) (has_long a name) met))
      where
        of : (a : Rule) → IsDistinct a → is_some a.index ≡ false → FlagGood (if takes_values a then option_met rules a v h else flag_met rules a v h)
        of a own nowhere = go (takes_values a) refl
          where
            flag : (w : Option Text) → FlagGood (flag_met rules a w h)
            flag (Some t) = (good, tt)
            flag None = (bare_good a h own nowhere good, tt)

            go : (b : Bool) → takes_values a ≡ b → FlagGood (if b then option_met rules a v h else flag_met rules a v h)
            go true takes = option_good a v h own nowhere takes good
            go false takes = flag v

    short_good : (c : ℕ) (rest : Text) (h : Held) (others : Held → Held × Outcome) → ((g : Held) → Good g → FlagGood (others g)) → Good h
        → FlagGood (short_met rules (arg_by_short rules c) rest h others)
    short_good c rest h others each good =
        found_so (λ a. not (is_some a.index) && has_short a c) IsDistinct (λ found. FlagGood (short_met rules found rest h others)) rules all (good, tt)
        (λ a own met. of a own (free (is_some a.index) (has_short a c) met))
      where
        of : (a : Rule) → IsDistinct a → is_some a.index ≡ false
            → FlagGood (if takes_values a then option_met rules a (attached_value rest) h else others (reacted rules a [] h))
        of a own nowhere = go (takes_values a) refl
          where
            go : (b : Bool) → takes_values a ≡ b → FlagGood (if b then option_met rules a (attached_value rest) h else others (reacted rules a [] h))
            go true takes = option_good a (attached_value rest) h own nowhere takes good
            go false takes = each (reacted rules a [] h) (bare_good a h own nowhere good)

    flags_good : (c : Option ℕ) (flags : Text) (skip : ℕ) (so_far : Outcome) (h : Held) (rest : Text → ℕ → Outcome → Held → Held × Outcome)
        → ((f : Text) (n : ℕ) (o : Outcome) (g : Held) → Settles o → Good g → FlagGood (rest f n o g)) → Settles so_far → Good h
        → FlagGood (bundle_step rules c flags skip so_far h rest)
    flags_good None flags skip so_far h rest each settles good = (good, settles)
    flags_good (Some x) flags zero so_far h rest each settles good =
        let after = drop (length (encode_utf8 x)) flags in
        short_good x after h (rest after 0 done) (λ g. each after 0 done g tt) good
    flags_good (Some x) flags (suc n) so_far h rest each settles good = each (drop (length (encode_utf8 x)) flags) n so_far h settles good

    bundle_good : (k : ℕ) (flags : Text) (skip : ℕ) (so_far : Outcome) (h : Held) → Settles so_far → Good h → FlagGood (bundle_met rules k flags skip so_far h)
    unfolding bundle_met
    bundle_good zero flags skip so_far h settles good = (good, settles)
    bundle_good (suc k) flags skip so_far h settles good = flags_good (slice_get (chars flags) 0) flags skip so_far
        h (bundle_met rules k) (bundle_good k) settles good

    -- ---- a word

    plain_good : (waiting : Waiting) (word : Text) (h : Held) → Steady waiting → Good h → WordGood (plain_word rules waiting word h)
    plain_good idle word h steady good = (good, tt)
    plain_good (option id) word h steady good = go (arg_by_id rules id)
      where
        go : (a : Option Rule) → Good (option_word a id word h).0 × Steady (option_word a id word h).1
        go None = (good, steady)
        go (Some a) = (pushed_good id word h steady good, waits_on (nat_lt (pending_count a (pushed id word h).pending) (most_values a)))
          where
            waits_on : (b : Bool) → Steady (if b then option id else idle)
            waits_on true = steady
            waits_on false = tt
    plain_good positional word h steady good = (good, tt)

    flag_good : (waiting : Waiting) (word : Text) (h : Held) (met : Outcome) → Steady waiting → Settles met → Good h
        → WordGood (after_flag rules waiting word h met)
    flag_good waiting word h done steady settles good = (good, tt)
    flag_good waiting word h (waits id) steady settles good = (good, settles)
    flag_good waiting word h plain steady settles good = plain_good waiting word h steady good
    flag_good waiting word h refused steady settles good = plain_good waiting word h steady good

    short_word_good : (flags : Option Text) (waiting : Waiting) (word : Text) (h : Held) → Steady waiting → Good h
        → WordGood (short_or_plain rules waiting word flags h)
    short_word_good None waiting word h steady good = plain_good waiting word h steady good
    short_word_good (Some flags) waiting word h steady good =
        let met = bundle_good (length flags) flags h.skip plain (record h { skip = 0 }) tt good in
        flag_good waiting word _ _ steady met.1 met.0

    long_word_good : (p : Option (Text × Option Text)) (waiting : Waiting) (word : Text) (h : Held) → Steady waiting
        → Good h → WordGood (long_or_other rules waiting word p h)
    long_word_good None waiting word h steady good = short_word_good (short_of word) waiting word h steady good
    long_word_good (Some p) waiting word h steady good =
        let met = long_good p.0 p.1 h good in
        flag_good waiting word _ _ steady met.1 met.0

    other_good : (met : Option Text) (waiting : Waiting) (position : ℕ) (word : Text) (h : Held) → Steady waiting → Good h
        → WordGood (subcommand_or_other rules met waiting position word h)
    other_good (Some name) waiting position word h steady good = (good, tt)
    other_good None waiting position word h steady good = go (bytes_eq word (45 ∷ 45 ∷ []))
      where
        go : (b : Bool) → WordGood (if b then (h, trailing position) else long_or_other rules waiting word (long_of word) h)
        go true = (good, tt)
        go false = long_word_good (long_of word) waiting word h steady good

    word_good : (names : Names) (is_trailing : Bool) (waiting : Waiting) (position : ℕ) (word : Text) (h : Held) → Steady waiting → Good h
        → WordGood (word_met rules names is_trailing waiting position word h)
    word_good names true waiting position word h steady good = (good, tt)
    word_good names false waiting position word h steady good = other_good (subcommand_met names waiting word) waiting position word h steady good

    -- ---- the walk

    place_good : (i : ℕ) (word : Text) (w : Walk) (h : Held) → Steady w.waiting → Good h → WalkGood (to_positional rules (arg_by_index rules i) word w h)
    place_good i word w h steady good =
        found_so (λ a. option_map_or (λ k. k == i) a.index false) IsDistinct (λ found. WalkGood (to_positional rules found word w h)) rules all (good, steady)
        (λ a own met. of a own (placed_at a.index i met))
      where
        of : (a : Rule) → IsDistinct a → is_some a.index ≡ true → Good (positional_held rules a word h) × Steady (if is_multiple a then positional else idle)
        of a own placed = (held (is_pending a h.pending && takes_several a), stays (is_multiple a))
          where
            no_switch : is_switch a.id ≡ false
            no_switch = is_false (is_switch a.id) (λ switch. not_both (is_some a.index) placed (own.flag switch).no_place)

            held : (b : Bool) → Good (pushed a.id word (if b then h else settled rules h))
            held true = pushed_good a.id word h no_switch good
            held false = pushed_good a.id word (settled rules h) no_switch (settled_full h good, tt)

            stays : (b : Bool) → Steady (if b then positional else idle)
            stays true = tt
            stays false = tt

    step_good : (word : Text) (w : Walk) (h : Held) (step : Step) → Steady w.waiting → Steps step → Good h → WalkGood (after_step rules word w h step)
    step_good word w h (next waiting) steady steps good = (good, steps)
    step_good word w h (trailing position) steady steps good = (good, steady)
    step_good word w h (subcommand name) steady steps good = (good, steady)
    step_good word w h value steady steps good = place_good w.position word w h steady good

    walked_good : (names : Names) (w : Walk) (word : Text) → WalkGood w → WalkGood (walked rules names w word)
    unfolding walked
    walked_good names w word good = go w.stopped
      where
        go : (stop : Option (Text × List Text)) → WalkGood (walked_from rules names stop w word)
        go None =
            let met = word_good names w.is_trailing w.waiting w.position word w.held good.1 good.0 in
            step_good word w _ _ good.1 met.1 met.0
        go (Some p) = good

    walk_good : (names : Names) (words : List Text) (w : Walk) → WalkGood w → WalkGood (fold (walked rules names) w words)
    walk_good names [] w good = good
    walk_good names (word ∷ rest) w good = walk_good names rest (walked rules names w word) (walked_good names w word good)

    -- ---- defaults

    default_full : (a : Rule) (rows : List Row) → IsDistinct a → Full rows → Full (with_default rows a)
    default_full a rows own h = go (has_row a.id rows)
      where
        of : (values : List Text) → (is_switch a.id ≡ true → SayBy (reading_by a) values) → Full (default_rows a.id (reading_by a) values rows)
        of [] say = h
        of (v ∷ vs) say = set_full a.id (reading_by a) DefaultValue (v ∷ vs) rows (λ placed. omega arith, say) h

        go : (b : Bool) → Full (if b then rows else default_rows a.id (reading_by a) a.defaults rows)
        go true = h
        go false = of a.defaults (λ switch. (own.flag switch).unused)

    defaults_full : (xs : List Rule) (rows : List Row) → Each IsDistinct xs → Full rows → Full (fold with_default rows xs)
    defaults_full [] rows each h = h
    defaults_full (a ∷ rest) rows each h = defaults_full rest (with_default rows a) each.1 (default_full a rows each.0 h)

    -- after any words the rows are full
    rows_full : (names : Names) (words : List Text) → Full (rows_after rules names words)
    rows_full names words =
        let held = (walk rules names nothing_held words).held in
        defaults_full rules (settled rules held).rows all (settled_full held (walk_good names words (walk_from nothing_held) ((tt, tt), tt)).0)

    -- ---- what the rows then say

    some_value : (vs : List Text) → 0 < length vs → is_some (slice_get vs 0) ≡ true
    some_value [] some = absurd (omega arith)
    some_value (v ∷ vs) some = refl

    -- the row that is found is the first with its name
    value_said : (id : Text) (rows : List Row) → has_place id ≡ true → Full rows → is_given id rows ≡ true → is_some (first_of id rows) ≡ true
    value_said id [] place full given = cc
    value_said id (r ∷ rs) place full given = go (bytes_eq r.id id) refl given (value_said id rs place full.1)
      where
        go : (b : Bool) → bytes_eq r.id id ≡ b
            → option_map_or (λ (x : Row). explicit_source x.source) (if b then Some r else find (λ (x : Row). bytes_eq x.id id) rs) false ≡ true
            → (is_given id rs ≡ true → is_some (first_of id rs) ≡ true)
            → is_some (option_and_then (λ (x : Row). slice_get x.values 0) (if b then Some r else find (λ (x : Row). bytes_eq x.id id) rs)) ≡ true
        go true is given rest = some_value r.values (full.0.0 (ap has_place ((bytes_eq-Decides r.id id).0 is) ∙ place))
        go false is given rest = rest given

    flag_said : (id : Text) (rows : List Row) → is_switch id ≡ true → Full rows → has_row id rows ≡ true → HasFlag id rows
    flag_said id [] switch full has = cc
    flag_said id (r ∷ rs) switch full has = go (bytes_eq r.id id) refl has (flag_said id rs switch full.1)
      where
        go : (b : Bool) → bytes_eq r.id id ≡ b → (b || has_row id rs) ≡ true → (has_row id rs ≡ true → HasFlag id rs)
            → (is_on : Bool) × (option_and_then row_text (if b then Some r else find (λ (x : Row). bytes_eq x.id id) rs) ≡ Some (bool_text is_on))
        go true is has rest = full.0.1 (ap is_switch ((bytes_eq-Decides r.id id).0 is) ∙ switch)
        go false is has rest = rest has

    -- a positional that has to be given has a first value, and a flag is on or off
    abbrev pub Given : List Row → Rule → Type 0
    Given rows a = (a.required ≡ true → has_place a.id ≡ true → is_some (first_of a.id rows) ≡ true) × (is_switch a.id ≡ true → HasFlag a.id rows)

    each_given : (rows : List Row) (xs : List Rule) → Full rows → Each IsDistinct xs → Each (Wanted rows) xs
        → Each (λ a. IsFlag a → has_row a.id rows ≡ true) xs
        → Each (Given rows) xs
    each_given rows [] full own wanted has = tt
    each_given rows (a ∷ rest) full own wanted has = (
      (λ required place. value_said a.id rows place full (wanted.0 required), λ switch. flag_said a.id rows switch full (has.0 (own.0.flag switch))),
      each_given rows rest full own.1 wanted.1 has.1,
    )

    -- if no argument is missing, each is given
    pub all_given : (names : Names) (words : List Text) → list_any (λ a. a.required && not (is_given a.id (rows_after rules names words))) rules ≡ false
        → Each (Given (rows_after rules names words)) rules
    all_given names words none_wanting =
        let rows = rows_after rules names words in
        each_given rows rules (rows_full names words) all (wanted_given rows rules none_wanting)
        (defaults_have rules (settled rules (walk rules names nothing_held words).held).rows)
