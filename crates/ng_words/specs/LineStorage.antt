-- How a line is stored in a fixed size (own): trees as lists of nodes, each node after its parts.
use Rattle.std.specs.Prelude.{ℕ, ◌≡◌, List, [], ◌∷◌, ◌++◌, length, map, flat_map, take, drop, Bool, Option, None}
use Rattle.ng_words.specs.Grammar.{Tree, number, parameter, bracketed, applied, joined, Piece, word, assignment, comment, ParsedLine}
use Rattle.ng_words.specs.declared.letter.Letter.{Letter}
use Rattle.ng_words.specs.declared.tree.Node.{Node}
use Rattle.ng_words.specs.declared.tree.Node.TheVariants as node
use Rattle.ng_words.specs.declared.piece_entry.PieceEntry.{PieceEntry}
use Rattle.ng_words.specs.declared.piece_entry.PieceEntry.TheVariants as item

-- the nodes of a tree, each after its parts
abbrev pub postfix : Tree → List Node
postfix (number value) = node.Number value ∷ []
postfix (parameter t) = postfix t ++ node.Parameter ∷ []
postfix (bracketed t) = postfix t ++ node.Brackets ∷ []
postfix (applied f t) = postfix t ++ node.Applied f ∷ []
postfix (joined op l r) = postfix l ++ (postfix r ++ node.Joined op ∷ [])

-- these nodes are a tree's
abbrev pub IsTree : List Node → Type 0
IsTree nodes = (t : Tree) × (nodes ≡ postfix t)

-- the trees that nodes build on top of those that are there, the latest first; nodes out of order build nothing
abbrev pub built : List Tree → List Node → List Tree
built ts [] = ts
built ts (node.Number value ∷ nodes) = built (number value ∷ ts) nodes
built (t ∷ ts) (node.Parameter ∷ nodes) = built (parameter t ∷ ts) nodes
built (t ∷ ts) (node.Brackets ∷ nodes) = built (bracketed t ∷ ts) nodes
built (t ∷ ts) (node.Applied f ∷ nodes) = built (applied f t ∷ ts) nodes
built (r ∷ l ∷ ts) (node.Joined op ∷ nodes) = built (joined op l r ∷ ts) nodes
built ts (node ∷ nodes) = ts

-- the latest tree
abbrev pub latest : List Tree → Tree
latest [] = number None
latest (t ∷ ts) = t

-- the tree of a list of nodes
abbrev pub tree_by : List Node → Tree
tree_by nodes = latest (built [] nodes)

-- ---- the pieces of a line: an item for each; its nodes or bytes come after those of the pieces before it

-- a word whose value is a number alone is stored as its letter and its only node, any other as its letter and the number
-- of its nodes
abbrev pub word_item : Letter → Tree → PieceEntry
word_item letter (number value) = item.Number letter (node.Number value)
word_item letter t = item.Word letter (length (postfix t))

abbrev pub word_nodes : Tree → List Node
word_nodes (number value) = []
word_nodes t = postfix t

-- a word; the numbers of nodes of an index and a value; the number of bytes of a comment
abbrev pub item_of : Piece → PieceEntry
item_of (word letter t) = word_item letter t
item_of (assignment index value) = item.Assignment (length (postfix index)) (length (postfix value))
item_of (comment text) = item.Comment (length text)

abbrev pub nodes_of : Piece → List Node
nodes_of (word letter t) = word_nodes t
nodes_of (assignment index value) = postfix index ++ postfix value
nodes_of (comment text) = []

abbrev pub bytes_of : Piece → List ℕ
bytes_of (word letter t) = []
bytes_of (assignment index value) = []
bytes_of (comment text) = text

-- the places that keep pieces
pub record PieceStore : Type 0 where
  pub items : List PieceEntry
  pub nodes : List Node
  pub bytes : List ℕ

-- these places keep these pieces
pub record EncodesPieces (places : PieceStore) (pieces : List Piece) : Type 0 where
  pub items_are : places.items ≡ map item_of pieces
  pub nodes_are : places.nodes ≡ flat_map nodes_of pieces
  pub bytes_are : places.bytes ≡ flat_map bytes_of pieces

-- they keep some pieces
abbrev pub AreEncodedPieces : PieceStore → Type 0
AreEncodedPieces places = (pieces : List Piece) × EncodesPieces places pieces

-- the pieces that items, nodes and bytes keep
abbrev pub pieces_from : List PieceEntry → List Node → List ℕ → List Piece
pieces_from [] nodes bytes = []
pieces_from (item.Number letter n ∷ items) nodes bytes = word letter (tree_by (n ∷ [])) ∷ pieces_from items nodes bytes
pieces_from (item.Word letter n ∷ items) nodes bytes = word letter (tree_by (take n nodes)) ∷ pieces_from items (drop n nodes) bytes
pieces_from (item.Assignment i n ∷ items) nodes bytes =
    assignment (tree_by (take i nodes)) (tree_by (take n (drop i nodes))) ∷ pieces_from items (drop n (drop i nodes)) bytes
pieces_from (item.Comment n ∷ items) nodes bytes = comment (take n bytes) ∷ pieces_from items nodes (drop n bytes)

abbrev pub pieces_by : PieceStore → List Piece
pieces_by places = pieces_from places.items places.nodes places.bytes

-- the places that keep a line, and the line
pub record LineModel : Type 0 where
  pub deletable : Bool
  pub number : Option ℕ
  pub places : PieceStore

abbrev pub written_by : LineModel → ParsedLine
written_by l = record { deletable = l.deletable; number = l.number; pieces = pieces_by l.places }
