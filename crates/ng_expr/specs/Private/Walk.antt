-- The walk over a tree's nodes with a list of the values found so far, the latest first.
use Rattle.std.specs.Prelude.{List, [], ◌∷◌, ℤ, Result, Ok, Err}
use Rattle.ng_num.specs.declared.fault.Fault.{Fault}
use Rattle.ng_num.specs.declared.fault.Fault.TheVariants.{BadArithmetic}
use Rattle.ng_words.specs.declared.tree.Node.{Node}
use Rattle.ng_words.specs.declared.tree.Node.TheVariants as node
use Rattle.ng_num.specs.Results.{and_then}
use Rattle.ng_expr.specs.Value.{written, parameter_value, apply, join}

-- a value is pushed
abbrev pub onto : List ℤ → Result ℤ Fault → Result (List ℤ) Fault
onto found answer = and_then answer (λ z. Ok (z ∷ found))

-- what the latest value gives, or the latest two; a node whose parts are missing doesn't belong to any tree
abbrev pub of_one : (ℤ → Result ℤ Fault) → List ℤ → Result (List ℤ) Fault
of_one f [] = Err BadArithmetic
of_one f (z ∷ found) = onto found (f z)

abbrev pub of_two : (ℤ → ℤ → Result ℤ Fault) → List ℤ → Result (List ℤ) Fault
of_two f (b ∷ a ∷ found) = onto found (f a b)
of_two f found = Err BadArithmetic

-- the values found after one node
abbrev pub after_node : List ℤ → Node → List ℤ → Result (List ℤ) Fault
after_node table (node.Number z) found = onto found (written z)
after_node table node.Parameter found = of_one (parameter_value table) found
after_node table node.Brackets found = Ok found
after_node table (node.Applied f) found = of_one (apply f) found
after_node table (node.Joined op) found = of_two (join op) found

-- the values found after all nodes
abbrev pub after_nodes : List ℤ → List Node → List ℤ → Result (List ℤ) Fault
after_nodes table [] found = Ok found
after_nodes table (n ∷ nodes) found = and_then (after_node table n found) (λ more. after_nodes table nodes more)
