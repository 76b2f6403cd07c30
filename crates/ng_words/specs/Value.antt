-- A value at the front of a list of bytes, and what is left, found in one walk over the bytes with a list of what
-- waits. It serves the proofs only; the contract is the grammar (`laws::lines`).
use Rattle.std.specs.Prelude.{ℕ, zero, suc, List, [], ◌∷◌, ◌++◌, length, codes, ◌==◌, Option, Some, None, if◌then◌else◌, nat_le}
use Rattle.std.specs.Option.{option_map, option_and_then}
use Rattle.ng_words.specs.Grammar.{symbol, level, name, Tree, number, parameter, bracketed, applied, joined}
use Rattle.ng_words.specs.Scan.{number_at}
use Rattle.ng_words.specs.declared.tree.Operation.{Operation}
use Rattle.ng_words.specs.declared.tree.Operation.TheVariants.{Power, Times, Over, Modulo, Plus, Minus, Or, Xor, And}
use Rattle.ng_words.specs.declared.tree.Function.{Function}
use Rattle.ng_words.specs.declared.tree.Function.TheVariants.{Abs, Fix, Fup, Round, Sqrt}

-- what comes after a text, if the bytes begin with it
abbrev pub strip_prefix : List ℕ → List ℕ → Option (List ℕ)
strip_prefix [] bytes = Some bytes
strip_prefix (c ∷ cs) [] = None
strip_prefix (c ∷ cs) (b ∷ bs) = if b == c then strip_prefix cs bs else None

-- the first entry of a table whose text the bytes begin with, and what comes after it
abbrev pub entry_or : {X : Type 0} → X → Option (List ℕ) → Option (X × List ℕ) → Option (X × List ℕ)
entry_or x None others = others
entry_or x (Some rest) others = Some (x, rest)

abbrev pub entry_at : {X : Type 0} → List (List ℕ × X) → List ℕ → Option (X × List ℕ)
entry_at [] bytes = None
entry_at (e ∷ es) bytes = entry_or e.1 (strip_prefix e.0 bytes) (entry_at es bytes)

-- what waits for the value to its right: a parameter for its index, brackets or a function for their chain, an
-- operation, with its left operand
pub data Waiting : Type 0 where
  index : Waiting
  brackets : Waiting
  function : Function → Waiting
  left : Operation → Tree → Waiting

-- what opens a value
abbrev pub openings : List (List ℕ × Waiting)
openings =
    (codes "#", index) ∷ (codes "[", brackets) ∷ (name Abs ++ codes "[", function Abs) ∷ (name Fix ++ codes "[", function Fix)
    ∷ (name Fup ++ codes "[", function Fup) ∷ (name Round ++ codes "[", function Round) ∷ (name Sqrt ++ codes "[", function Sqrt) ∷ []

-- the operations; ** comes before *
abbrev pub operations : List (List ℕ × Operation)
operations =
    (symbol Power, Power) ∷ (symbol Times, Times) ∷ (symbol Over, Over) ∷ (symbol Modulo, Modulo) ∷ (symbol Plus, Plus)
    ∷ (symbol Minus, Minus) ∷ (symbol Or, Or) ∷ (symbol Xor, Xor) ∷ (symbol And, And) ∷ []

-- a place in the walk: before a value, or after one; what waits, the innermost first
pub data WalkPosition : Type 0 where
  before : List Waiting → WalkPosition
  after : Tree → List Waiting → WalkPosition

-- a single value: the parameters that wait take it as their index
abbrev pub settled_value : Tree → List Waiting → WalkPosition
settled_value t [] = after t []
settled_value t (index ∷ ws) = settled_value (parameter t) ws
settled_value t (brackets ∷ ws) = after t (brackets ∷ ws)
settled_value t (function f ∷ ws) = after t (function f ∷ ws)
settled_value t (left op l ∷ ws) = after t (left op l ∷ ws)

-- the waiting operations that bind as tightly as n or more tightly take the value as their right operand
abbrev pub gathered : ℕ → Tree → List Waiting → Tree × List Waiting
gathered n t [] = (t, [])
gathered n t (index ∷ ws) = (t, index ∷ ws)
gathered n t (brackets ∷ ws) = (t, brackets ∷ ws)
gathered n t (function f ∷ ws) = (t, function f ∷ ws)
gathered n t (left op l ∷ ws) = if nat_le (level op) n then gathered n (joined op l t) ws else (t, left op l ∷ ws)

-- the waiting brackets are closed around a chain
abbrev pub closed : Tree → List Waiting → Option WalkPosition
closed t [] = None
closed t (index ∷ ws) = None
closed t (brackets ∷ ws) = Some (settled_value (bracketed t) ws)
closed t (function f ∷ ws) = Some (settled_value (applied f t) ws)
closed t (left op l ∷ ws) = None

-- a step of the walk: before a value, something that opens one, or a number
abbrev pub opened : List Waiting → List ℕ → Option (Waiting × List ℕ) → Option (WalkPosition × List ℕ)
opened ws bytes (Some x) = Some (before (x.0 ∷ ws), x.1)
opened ws bytes None = option_map (λ v. (settled_value (number v.0) ws, v.1)) (number_at bytes)

-- after a value, a closing bracket or an operation
abbrev pub continued : Tree → List Waiting → List ℕ → Option (List ℕ) → Option (WalkPosition × List ℕ)
continued t ws bytes (Some rest) = option_map (λ p. (p, rest)) (closed (gathered 3 t ws).0 (gathered 3 t ws).1)
continued t ws bytes None =
    option_map (λ x. (before (left x.0 (gathered (level x.0) t ws).0 ∷ (gathered (level x.0) t ws).1), x.1)) (entry_at operations bytes)

abbrev pub step_at : WalkPosition → List ℕ → Option (WalkPosition × List ℕ)
step_at (before ws) bytes = opened ws bytes (entry_at openings bytes)
step_at (after t ws) bytes = continued t ws bytes (strip_prefix (codes "]") bytes)

-- the walk up to a value after which nothing waits; the first argument limits the number of steps
abbrev pub value_from : ℕ → WalkPosition → List ℕ → Option (Tree × List ℕ)
value_from most (after t []) bytes = Some (t, bytes)
value_from zero (after t (w ∷ ws)) bytes = None
value_from zero (before ws) bytes = None
value_from (suc most) (after t (w ∷ ws)) bytes = option_and_then (λ x. value_from most x.0 x.1) (step_at (after t (w ∷ ws)) bytes)
value_from (suc most) (before ws) bytes = option_and_then (λ x. value_from most x.0 x.1) (step_at (before ws) bytes)

-- the value at the front, and what is left; each step takes at least one byte
abbrev pub value_at : List ℕ → Option (Tree × List ℕ)
value_at bytes = value_from (length bytes) (before []) bytes
