-- Causes of faults, in terms of the values under the keys; the first cause that holds.
use Rattle.std.proofs.Common.{◌≡◌, Bool, true, false, List, [], ◌∷◌, refl}
use Rattle.ng_num.specs.declared.fault.Fault.{Fault}
use Rattle.ng_num.specs.declared.fault.Fault.TheVariants.{MissingKey, UnknownKey, WrongType, OutOfLimits, TooManyTools}
use Rattle.toml.specs.Data.{Members}
use Rattle.ng_settings.specs.Causes.{has_missing_key, has_wrong_type}
use Rattle.ng_num.specs.Causes.{IsFirstFault}
use Rattle.ng_num.proofs.FirstFaultLemmas.{holds_first, holds_later}
use Rattle.ng_settings.specs.Given.{AreFound, has_other_type, numbers_found}
use Rattle.ng_settings.specs.Numbers.{numbers_in}
use Rattle.ng_settings.specs.declared.key_values.KeyValues.{KeyValues}

pub all_there : (table : Members) (found : KeyValues) → AreFound table found → has_missing_key table ≡ false
unfolding has_missing_key
all_there table found at = rw (at.steps, at.lows, at.highs, at.traverse, at.period, at.tools) refl

pub same_types : (table : Members) (found : KeyValues) → AreFound table found → has_wrong_type table ≡ has_other_type found
unfolding has_wrong_type has_other_type
same_types table found at = rw (at.steps, at.lows, at.highs, at.traverse, at.period, at.tools) refl

pub same_numbers : (table : Members) (found : KeyValues) → AreFound table found → numbers_in table ≡ numbers_found found
same_numbers table found at = rw (at.steps, at.lows, at.highs, at.traverse, at.period, at.tools) refl

abbrev pub five : Bool → Bool → Bool → Bool → Bool → List (Bool × Fault)
five a b c d e = (a, MissingKey) ∷ ((b, UnknownKey) ∷ ((c, WrongType) ∷ ((d, OutOfLimits) ∷ ((e, TooManyTools) ∷ []))))

pub is_missing : (a b c d e : Bool) → a ≡ true → IsFirstFault (five a b c d e) MissingKey
is_missing a b c d e p = holds_first a MissingKey _ p

pub is_unknown : (a b c d e : Bool) → a ≡ false → b ≡ true → IsFirstFault (five a b c d e) UnknownKey
is_unknown a b c d e p q = holds_later a MissingKey UnknownKey _ p (holds_first b UnknownKey _ q)

pub is_wrong : (a b c d e : Bool) → a ≡ false → b ≡ false → c ≡ true → IsFirstFault (five a b c d e) WrongType
is_wrong a b c d e p q r = holds_later a MissingKey WrongType _ p (holds_later b UnknownKey WrongType _ q (holds_first c WrongType _ r))

pub is_beyond : (a b c d e : Bool) → a ≡ false → b ≡ false → c ≡ false → d ≡ true → IsFirstFault (five a b c d e) OutOfLimits
is_beyond a b c d e p q r s =
    holds_later a MissingKey OutOfLimits _ p
    (holds_later b UnknownKey OutOfLimits _ q
    (holds_later c WrongType OutOfLimits _ r (holds_first d OutOfLimits _ s)))

pub are_many : (a b c d e : Bool) → a ≡ false → b ≡ false → c ≡ false → d ≡ false → e ≡ true → IsFirstFault (five a b c d e) TooManyTools
are_many a b c d e p q r s t =
    holds_later a MissingKey TooManyTools _ p
    (holds_later b UnknownKey TooManyTools _ q
    (holds_later c WrongType TooManyTools _ r
    (holds_later d OutOfLimits TooManyTools _ s (holds_first e TooManyTools _ t))))
