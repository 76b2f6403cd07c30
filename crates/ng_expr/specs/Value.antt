-- The value of a tree in a table of parameters (NISTIR 6556, 3.3.2.2 to 3.3.2.4; range, rounding and faults own).
use Rattle.std.specs.Prelude.{ℕ, ℤ, pos, unsigned_abs, ◌+ℤ◌, ◌-ℤ◌, List, Bool, not, ◌&&◌, ◌||◌, Option, Result, Ok, if◌then◌else◌}
use Rattle.std.specs.Option.{ok_or, option_and_then}
use Rattle.std.specs.Ordering.{int_eq}
use Rattle.ng_num.specs.Arithmetic.{million, product, quotient_of, remainder_of}
use Rattle.ng_num.specs.Power.{power_of}
use Rattle.ng_num.specs.Range.{in_range}
use Rattle.ng_num.specs.Results.{and_then}
use Rattle.ng_num.specs.Root.{root_of}
use Rattle.ng_num.specs.Whole.{fix, fup, round, whole_of}
use Rattle.ng_num.specs.declared.fault.Fault.{Fault}
use Rattle.ng_num.specs.declared.fault.Fault.TheVariants.{OutOfRange, BadIndex}
use Rattle.ng_params.specs.Numbers.{index_of}
use Rattle.ng_params.specs.Params.{at}
use Rattle.ng_words.specs.Grammar.{Tree, number, parameter, bracketed, applied, joined}
use Rattle.ng_words.specs.declared.tree.Operation.{Operation}
use Rattle.ng_words.specs.declared.tree.Operation.TheVariants.{Power, Times, Over, Modulo, Plus, Minus, Or, Xor, And}
use Rattle.ng_words.specs.declared.tree.Function.{Function}
use Rattle.ng_words.specs.declared.tree.Function.TheVariants.{Abs, Fix, Fup, Round, Sqrt}

-- a number as written; `None` means that it is out of range
abbrev pub written : Option ℤ → Result ℤ Fault
written z = ok_or z OutOfRange

-- the parameter that a value names: one that counts as a whole number from 1 to 5399
abbrev pub named : ℤ → Result ℕ Fault
named z = ok_or (option_and_then index_of (whole_of z)) BadIndex

-- the value of the parameter that a value names
abbrev pub parameter_value : List ℤ → ℤ → Result ℤ Fault
parameter_value table z = and_then (named z) (λ p. Ok (at table p))

-- a function of a value
abbrev pub apply : Function → ℤ → Result ℤ Fault
apply Abs z = Ok (pos (unsigned_abs z))
apply Fix z = in_range (fix z)
apply Fup z = in_range (fup z)
apply Round z = in_range (round z)
apply Sqrt z = root_of z

-- zero is false, everything else is true
abbrev pub truth : ℤ → Bool
truth z = not (int_eq z (pos 0))

-- 1 for true, 0 for false
abbrev pub of_truth : Bool → ℤ
of_truth t = if t then million else pos 0

-- an operation on two values
abbrev pub join : Operation → ℤ → ℤ → Result ℤ Fault
join Power a b = power_of a b
join Times a b = in_range (product a b)
join Over a b = quotient_of a b
join Modulo a b = remainder_of a b
join Plus a b = in_range (a +ℤ b)
join Minus a b = in_range (a -ℤ b)
join Or a b = Ok (of_truth (truth a || truth b))
join Xor a b = Ok (of_truth (if truth a then not (truth b) else truth b))
join And a b = Ok (of_truth (truth a && truth b))

-- the value of a tree: the values of its parts from left to right, then what joins them; both operands are always
-- evaluated
abbrev pub value : Tree → List ℤ → Result ℤ Fault
value (number z) table = written z
value (parameter t) table = and_then (value t table) (parameter_value table)
value (bracketed t) table = value t table
value (applied f t) table = and_then (value t table) (apply f)
value (joined op l r) table = and_then (value l table) (λ a. and_then (value r table) (λ b. join op a b))
