-- The values of the words and assignments of a line, in order.
use Rattle.std.specs.Prelude.{ℕ, ℤ, List, [], ◌∷◌, ◌++◌, Result, Ok}
use Rattle.ng_num.specs.declared.fault.Fault.{Fault}
use Rattle.ng_params.specs.declared.change.Change.{Change}
use Rattle.ng_words.specs.Grammar.{Tree, Piece, word, assignment, comment}
use Rattle.ng_num.specs.Results.{and_then}
use Rattle.ng_expr.specs.Value.{named, value}
use Rattle.ng_expr.specs.declared.word.Word.{Word}
use Rattle.ng_expr.specs.declared.values.Values.{Values}

-- words with their values, and the parameters' new values
pub record Settled : Type 0 where
  pub words : List Word
  pub assignments : List Change

-- nothing yet
abbrev pub nothing : Settled
nothing = record { words = []; assignments = [] }

-- one, and then the other
abbrev pub followed : Settled → Settled → Settled
followed a b = record { words = a.words ++ b.words; assignments = a.assignments ++ b.assignments }

-- what is there, followed by an answer's values
abbrev pub followed_if_ok : Settled → Result Settled Fault → Result Settled Fault
followed_if_ok a answer = and_then answer (λ b. Ok (followed a b))

-- a word alone, an assignment alone
abbrev pub one_word : Word → Settled
one_word w = record { words = w ∷ []; assignments = [] }

abbrev pub one_assignment : Change → Settled
one_assignment c = record { words = []; assignments = c ∷ [] }

-- the parameter that a tree's value names
abbrev pub index : List ℤ → Tree → Result ℕ Fault
index table t = and_then (value t table) named

-- an assignment: its index, which has to be a parameter's, and then its value (NISTIR 6556, 3.3.3; the order own)
abbrev pub change : List ℤ → Tree → Tree → Result Change Fault
change table i v = and_then (index table i) (λ p. and_then (value v table) (λ z. Ok (record { index = p; value = z })))

-- the values of a piece (NISTIR 6556, 3.3.2, 3.3.3); a comment has none
abbrev pub given : List ℤ → Piece → Result Settled Fault
given table (word l t) = and_then (value t table) (λ z. Ok (one_word (record { letter = l; value = z })))
given table (assignment i v) = and_then (change table i v) (λ c. Ok (one_assignment c))
given table (comment text) = Ok nothing

-- the values of a line's pieces, each with the table as it was before the line (NISTIR 6556, 3.3.3); the first piece
-- without a value decides the fault
abbrev pub settled_pieces : List Piece → List ℤ → Result Settled Fault
settled_pieces [] table = Ok nothing
settled_pieces (p ∷ pieces) table = and_then (given table p) (λ first. followed_if_ok first (settled_pieces pieces table))

-- the values that the places hold
abbrev pub settled_of : Values → Settled
settled_of v = record { words = v.words.items; assignments = v.assignments.items }
