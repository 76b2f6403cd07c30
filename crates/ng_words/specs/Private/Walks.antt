-- For the proofs of the reader only: what its parts have to show, how the places of a walk are represented in the code,
-- and what each step does.
use Rattle.std.specs.Prelude.{ℕ, ◌+◌, ◌-◌, ◌<◌, ◌≤◌, ◌≡◌, List, [], ◌∷◌, ◌++◌, length, take, drop, Bool, true}
use Rattle.std.specs.Prelude.{false, Option, Some, None, slice_get, nat_le, if◌then◌else◌}
use Rattle.std.specs.Option.{option_and_then}
use Rattle.ng_words.specs.Plain.{plain}
use Rattle.ng_words.specs.Grammar.{Tree, level, Piece, word, assignment, comment}
use Rattle.ng_words.specs.Value.{Waiting, index, brackets, function, left, openings, entry_at, WalkPosition}
use Rattle.ng_words.specs.Value.{before, after, settled_value, gathered, closed, step_at, value_at}
use Rattle.ng_words.specs.Pieces.{comment_at, set_at, piece_at, pieces_at}
use Rattle.ng_words.specs.LineStorage.{postfix, item_of, nodes_of, bytes_of, PieceStore, EncodesPieces}
use Rattle.ng_words.specs.declared.tree.Operation.{Operation}
use Rattle.ng_words.specs.declared.tree.Function.{Function}
use Rattle.ng_words.specs.declared.letter.Letter.{Letter}
use Rattle.ng_words.specs.declared.piece_entry.PieceEntry.{PieceEntry}
use Rattle.ng_words.specs.declared.tree.Node.{Node}
use Rattle.ng_words.specs.declared.tree.Node.TheVariants as node
use Rattle.ng_words.specs.declared.value.Waiting.{Waiting as Mark}
use Rattle.ng_words.specs.declared.value.Waiting.TheVariants as marked

-- a comment with these bytes closes after the first n of them
abbrev pub ClosesAt : List ℕ → ℕ → Type 0
ClosesAt bytes n = (n < length bytes) × (comment_at (plain true bytes) ≡ Some (take n bytes, plain false (drop (n + 1) bytes)))

-- ---- the walk over a value

-- what is on the stack for an entry that waits: an operation without its left operand
abbrev pub mark : Waiting → Mark
mark index = marked.Index
mark brackets = marked.Brackets
mark (function f) = marked.Function f
mark (left op l) = marked.Operation op

-- the stack: the innermost is last
abbrev pub marks : List Waiting → List Mark
marks [] = []
marks (w ∷ ws) = marks ws ++ mark w ∷ []

-- the nodes of the left operands of the waiting operations
abbrev pub waiting_nodes : List Waiting → List Node
waiting_nodes [] = []
waiting_nodes (index ∷ ws) = waiting_nodes ws
waiting_nodes (brackets ∷ ws) = waiting_nodes ws
waiting_nodes (function f ∷ ws) = waiting_nodes ws
waiting_nodes (left op l ∷ ws) = waiting_nodes ws ++ postfix l

-- the stack and the nodes hold what waits
pub record HoldsBefore (ws : List Waiting) (base : List Node) (stack : List Mark) (nodes : List Node) : Type 0 where
  pub stack_is : stack ≡ marks ws
  pub nodes_are : nodes ≡ base ++ waiting_nodes ws

-- the stack and the nodes hold a value and what waits
pub record HoldsAfter (t : Tree) (ws : List Waiting) (base : List Node) (stack : List Mark) (nodes : List Node) : Type 0 where
  pub stack_is : stack ≡ marks ws
  pub nodes_are : nodes ≡ base ++ (waiting_nodes ws ++ postfix t)

-- a place of the walk, as the code represents it: whether a value is complete, the stack, the nodes after the base
abbrev pub Stands : WalkPosition → List Node → Bool → List Mark → List Node → Type 0
Stands (before ws) base after_value stack nodes = (after_value ≡ false) × HoldsBefore ws base stack nodes
Stands (after t ws) base after_value stack nodes = (after_value ≡ true) × HoldsAfter t ws base stack nodes

-- a step from a place: none, or one to the place that is now represented
abbrev pub IsWalkStep : WalkPosition → List Node → List ℕ → Option Bool → List ℕ → List Mark → List Node → Type 0
IsWalkStep p base bytes None rest stack nodes = step_at p bytes ≡ None
IsWalkStep p base bytes (Some after_value) rest stack nodes = (q : WalkPosition) × (step_at p bytes ≡ Some (q, rest)) × Stands q base after_value stack nodes

-- the innermost entry of the stack
abbrev pub nearest : List Mark → Option Mark
nearest stack = slice_get stack (length stack - 1)

abbrev pub is_index : Option Mark → Bool
is_index None = false
is_index (Some marked.Index) = true
is_index (Some marked.Brackets) = false
is_index (Some (marked.Function f)) = false
is_index (Some (marked.Operation op)) = false

-- an operation that binds as tightly as n or more tightly
abbrev pub operation_within : ℕ → Option Mark → Option Operation
operation_within n None = None
operation_within n (Some marked.Index) = None
operation_within n (Some marked.Brackets) = None
operation_within n (Some (marked.Function f)) = None
operation_within n (Some (marked.Operation op)) = if nat_le (level op) n then Some op else None

-- the node that closes brackets
abbrev pub closing : Option Mark → Option Node
closing None = None
closing (Some marked.Index) = None
closing (Some marked.Brackets) = Some node.Brackets
closing (Some (marked.Function f)) = Some (node.Applied f)
closing (Some (marked.Operation op)) = None

-- the openings without the first two: those of functions
abbrev pub function_openings : List (List ℕ × Waiting)
function_openings = drop 2 openings

-- a function's name and bracket, as an entry of the table of openings
abbrev pub IsFunction : List ℕ → Option Function → List ℕ → Type 0
IsFunction bytes None rest = (entry_at function_openings bytes ≡ None) × (rest ≡ bytes)
IsFunction bytes (Some f) rest = entry_at function_openings bytes ≡ Some (function f, rest)

-- what opens a value, and its entry on the stack
abbrev pub IsOpening : List ℕ → Option Mark → List ℕ → Type 0
IsOpening bytes None rest = (entry_at openings bytes ≡ None) × (rest ≡ bytes)
IsOpening bytes (Some m) rest = (w : Waiting) × (entry_at openings bytes ≡ Some (w, rest)) × (mark w ≡ m) × (waiting_nodes (w ∷ []) ≡ [])

-- a value was taken: its nodes, and how many there are
abbrev pub TakesValue : List ℕ → List Node → Option ℕ → List ℕ → List Node → Type 0
TakesValue bytes base None rest nodes = value_at bytes ≡ None
TakesValue bytes base (Some n) rest nodes = (t : Tree) × (value_at bytes ≡ Some (t, rest)) × (nodes ≡ base ++ postfix t) × (n ≡ length (postfix t))

-- wherever the walk is, it makes its step
abbrev pub WalkStepSpec : Bool → List ℕ → List Mark → List Node → Option Bool → List ℕ → List Mark → List Node → Type 0
WalkStepSpec after_value bytes stack nodes to rest stack_then nodes_then =
    (p : WalkPosition) (base : List Node) → Stands p base after_value stack nodes → IsWalkStep p base bytes to rest stack_then nodes_then

-- wherever a value is, it is settled
abbrev pub Settles : List Mark → List Node → List Mark → List Node → Type 0
Settles stack nodes stack_then nodes_then =
    (t : Tree) (ws : List Waiting) (base : List Node) → HoldsAfter t ws base stack nodes → Stands (settled_value t ws) base true stack_then nodes_then

-- wherever a value is, the operations that bind as tightly as n or more tightly gather it
abbrev pub Gathers : ℕ → List Mark → List Node → List Mark → List Node → Type 0
Gathers n stack nodes stack_then nodes_then =
    (t : Tree) (ws : List Waiting) (base : List Node) → HoldsAfter t ws base stack nodes
    → HoldsAfter (gathered n t ws).0 (gathered n t ws).1 base stack_then nodes_then

-- wherever a chain is, the waiting brackets are closed around it
abbrev pub ClosesBrackets : List Mark → List Node → Bool → List Mark → List Node → Type 0
ClosesBrackets stack nodes false stack_then nodes_then =
    (t : Tree) (ws : List Waiting) (base : List Node) → HoldsAfter t ws base stack nodes → closed t ws ≡ None
ClosesBrackets stack nodes true stack_then nodes_then =
    (t : Tree) (ws : List Waiting) (base : List Node) → HoldsAfter t ws base stack nodes → (p : WalkPosition)
    × (closed t ws ≡ Some p) × Stands p base true stack_then nodes_then

-- a byte from the plus to the nine comes first: of all values, only a number begins so
abbrev pub BeginsNumber : List ℕ → Type 0
BeginsNumber [] = ⊥
BeginsNumber (b ∷ bs) = (43 ≤ b) × (b ≤ 57)

-- ---- the pieces

abbrev pub store_of : List PieceEntry → List Node → List ℕ → PieceStore
store_of items nodes bytes = record { items = items; nodes = nodes; bytes = bytes }

-- a value was taken after a letter: its word is added
abbrev pub AddsWord : Letter → List ℕ → List ℕ → List PieceEntry → List PieceEntry → List Node → List Node → Type 0
AddsWord letter bytes rest items items_then nodes nodes_then =
    (v : Tree) × (value_at bytes ≡ Some (v, rest)) × (items_then ≡ items ++ item_of (word letter v) ∷ []) × (nodes_then ≡ nodes ++ nodes_of (word letter v))

-- what comes after an assignment's sign
abbrev pub assignment_at : List ℕ → Option (Piece × List ℕ)
assignment_at bytes = option_and_then (λ i. set_at i.0 i.1) (value_at bytes)

-- an assignment was taken: it is added
abbrev pub AddsAssignment : List ℕ → List ℕ → List PieceEntry → List PieceEntry → List Node → List Node → Type 0
AddsAssignment bytes rest items items_then nodes nodes_then =
    (i : Tree) × (v : Tree) × (assignment_at bytes ≡ Some (assignment i v, rest)) × (items_then ≡ items ++ item_of (assignment i v) ∷ [])
    × (nodes_then ≡ nodes ++ (postfix i ++ postfix v))

-- a comment was taken: it is added
abbrev pub AddsComment : List ℕ → List ℕ → List PieceEntry → List PieceEntry → List ℕ → List ℕ → Type 0
AddsComment bytes rest items items_then texts texts_then =
    (text : List ℕ) × (comment_at (drop 1 bytes) ≡ Some (text, rest)) × (items_then ≡ items ++ item_of (comment text) ∷ []) × (texts_then ≡ texts ++ text)

-- a piece's item, nodes and bytes come after those that were there
pub record Adds (p : Piece) (old new : PieceStore) : Type 0 where
  pub items_more : new.items ≡ old.items ++ item_of p ∷ []
  pub nodes_more : new.nodes ≡ old.nodes ++ nodes_of p
  pub bytes_more : new.bytes ≡ old.bytes ++ bytes_of p

-- a piece was taken, or there is none
abbrev pub TakesPiece : List ℕ → Bool → List ℕ → PieceStore → PieceStore → Type 0
TakesPiece bytes false rest old new = piece_at bytes ≡ None
TakesPiece bytes true rest old new = (p : Piece) × (piece_at bytes ≡ Some (p, rest)) × Adds p old new

-- all pieces were taken, or the bytes aren't made of pieces
abbrev pub TakesPieces : List ℕ → Bool → PieceStore → Type 0
TakesPieces bytes false new = pieces_at (length bytes) bytes ≡ None
TakesPieces bytes true new = (pieces : List Piece) × (pieces_at (length bytes) bytes ≡ Some pieces) × EncodesPieces new pieces
