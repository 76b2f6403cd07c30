-- The words that a canned cycle keeps (NISTIR 6556, 3.5.16).
use Rattle.std.specs.Prelude.{None}
use Rattle.std.specs.Option.{option_or}
use Rattle.ng_state.specs.declared.kept_words.KeptWords.{KeptWords}

abbrev pub no_words : KeptWords
no_words = record { r = None; z = None; p = None; q = None }

-- the words in force: the line's own, and for those that it doesn't have the kept ones
abbrev pub in_force : KeptWords → KeptWords → KeptWords
in_force own kept = record { r = option_or own.r kept.r; z = option_or own.z kept.z; p = option_or own.p kept.p; q = option_or own.q kept.q }
