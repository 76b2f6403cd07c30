-- What is stored in places is read back unchanged.
use Rattle.std.proofs.Common.{ℕ, suc, ◌+◌, ◌-◌, ◌≤◌, ◌≡◌, List, [], ◌∷◌, ◌++◌, length, take, drop, map, Bool, true}
use Rattle.std.proofs.Common.{false, ℤ, Option, Some, None, ◌⊎◌, inl, inr, refl, sym, ap, ◌∙◌, subst, arith}
use Rattle.std.proofs.Common.{append_assoc, length-append}
use Rattle.std.specs.List.{flat_map}
use Rattle.std.specs.Option.{option_or}
use Rattle.std.proofs.lemmas.List.{append-nil, take_at, drop_at, take_rest}
use Rattle.std.proofs.Math.Seq.{take-append_seam, drop-append_seam, drop-append-add}
use Rattle.ng_words.specs.Grammar.{Tree, number, parameter, bracketed, applied, joined, Piece, word, assignment, comment}
use Rattle.ng_words.specs.LineStorage.{postfix, IsTree, built, latest, tree_by, word_item, word_nodes, item_of, nodes_of}
use Rattle.ng_words.specs.LineStorage.{bytes_of, PieceStore, EncodesPieces, AreEncodedPieces, pieces_from, pieces_by}
use Rattle.ng_words.specs.Private.Items.{last_size}
use Rattle.ng_words.specs.Line.{last_comment}
use Rattle.ng_words.specs.declared.letter.Letter.{Letter}
use Rattle.ng_words.specs.declared.tree.Node.{Node}
use Rattle.ng_words.specs.declared.tree.Node.TheVariants as node
use Rattle.ng_words.specs.declared.piece_entry.PieceEntry.{PieceEntry}
use Rattle.ng_words.specs.declared.piece_entry.PieceEntry.TheVariants as item

-- ---- trees

-- the nodes of a tree build it on top of what is there: its parts first, then what joins them
pub built-postfix : (t : Tree) (ts : List Tree) (more : List Node) → built ts (postfix t ++ more) ≡ built (t ∷ ts) more
built-postfix (number value) ts more = refl
built-postfix (parameter t) ts more = ap (built ts) (append_assoc (postfix t) (node.Parameter ∷ []) more) ∙ built-postfix t ts (node.Parameter ∷ more)
built-postfix (bracketed t) ts more = ap (built ts) (append_assoc (postfix t) (node.Brackets ∷ []) more) ∙ built-postfix t ts (node.Brackets ∷ more)
built-postfix (applied f t) ts more = ap (built ts) (append_assoc (postfix t) (node.Applied f ∷ []) more) ∙ built-postfix t ts (node.Applied f ∷ more)
built-postfix (joined op l r) ts more =
    let right : List Node = postfix r ++ (node.Joined op ∷ more) in
    ap (built ts) (append_assoc (postfix l) (postfix r ++ node.Joined op ∷ []) more
    ∙ ap (λ (x : List Node). postfix l ++ x) (append_assoc (postfix r) (node.Joined op ∷ []) more))
    ∙ built-postfix l ts right ∙ built-postfix r (l ∷ ts) (node.Joined op ∷ more)

pub tree_by-postfix : (t : Tree) → tree_by (postfix t) ≡ t
tree_by-postfix t = ap latest (ap (built []) (sym (append-nil (postfix t))) ∙ built-postfix t [] [])

-- ---- pieces

-- a word is stored by its only node, if its value is a number alone, or by its nodes
pub word_stored : (letter : Letter) (t : Tree)
    → ((value : Option ℤ) × (t ≡ number value)) ⊎ ((word_item letter t ≡ item.Word letter (length (postfix t))) × (word_nodes t ≡ postfix t))
word_stored letter (number value) = inl (value, refl)
word_stored letter (parameter t) = inr (refl, refl)
word_stored letter (bracketed t) = inr (refl, refl)
word_stored letter (applied f t) = inr (refl, refl)
word_stored letter (joined op l r) = inr (refl, refl)

pieces_stored : (pieces : List Piece) → pieces_from (map item_of pieces) (flat_map nodes_of pieces) (flat_map bytes_of pieces) ≡ pieces
pieces_stored [] = refl
pieces_stored (word letter t ∷ ps) =
    let nodes = flat_map nodes_of ps in
    let P : Tree → Type 0 = λ u. pieces_from (word_item letter u ∷ map item_of ps) (word_nodes u ++ nodes) (flat_map bytes_of ps) ≡ word letter u ∷ ps in
    elim (word_stored letter t) [
      | inl k ↦ subst P (sym k.1) (ap (λ (x : List Piece). word letter (number k.0) ∷ x) (pieces_stored ps))
      | inr k ↦ rw (k.0, k.1, take-append_seam (postfix t) nodes, drop-append_seam (postfix t) nodes, tree_by-postfix t)
          (ap (λ (x : List Piece). word letter t ∷ x) (pieces_stored ps))
    ]
pieces_stored (assignment i v ∷ ps) =
    let nodes = flat_map nodes_of ps in
    rw (
      append_assoc (postfix i) (postfix v) nodes,
      take-append_seam (postfix i) (postfix v ++ nodes),
      drop-append_seam (postfix i) (postfix v ++ nodes),
      take-append_seam (postfix v) nodes,
      drop-append_seam (postfix v) nodes,
      tree_by-postfix i,
      tree_by-postfix v,
    )
    (ap (λ (x : List Piece). assignment i v ∷ x) (pieces_stored ps))
pieces_stored (comment text ∷ ps) =
    let bytes = flat_map bytes_of ps in
    rw (take-append_seam text bytes, drop-append_seam text bytes) (ap (λ (x : List Piece). comment text ∷ x) (pieces_stored ps))

-- places that keep pieces give them back
pub stored_is : (places : PieceStore) (pieces : List Piece) → EncodesPieces places pieces → pieces_by places ≡ pieces
stored_is places pieces k =
    ap (λ (x : List PieceEntry). pieces_from x places.nodes places.bytes) k.items_are
    ∙ ap (λ (x : List Node). pieces_from (map item_of pieces) x places.bytes) k.nodes_are
    ∙ ap (λ (x : List ℕ). pieces_from (map item_of pieces) (flat_map nodes_of pieces) x) k.bytes_are
    ∙ pieces_stored pieces

-- a piece for each item
pub length-pieces_from : (items : List PieceEntry) (nodes : List Node) (bytes : List ℕ) → length (pieces_from items nodes bytes) ≡ length items
length-pieces_from [] nodes bytes = refl
length-pieces_from (item.Number letter value ∷ items) nodes bytes = ap suc (length-pieces_from items nodes bytes)
length-pieces_from (item.Word letter n ∷ items) nodes bytes = ap suc (length-pieces_from items (drop n nodes) bytes)
length-pieces_from (item.Assignment i n ∷ items) nodes bytes = ap suc (length-pieces_from items (drop n (drop i nodes)) bytes)
length-pieces_from (item.Comment n ∷ items) nodes bytes = ap suc (length-pieces_from items nodes (drop n bytes))

-- ---- the first piece, taken from the places

-- a word that is stored by its only node comes first
pub record NumberFirst (n : Node) (items : List PieceEntry) (nodes : List Node) (bytes : List ℕ) : Type 0 where
  pub tree : IsTree (n ∷ [])
  pub encoded : AreEncodedPieces (record { items = items; nodes = nodes; bytes = bytes })

number_first : (pieces : List Piece) (letter : Letter) (n : Node) (items : List PieceEntry) (nodes : List Node) (bytes : List ℕ)
    → item.Number letter n ∷ items ≡ map item_of pieces → nodes ≡ flat_map nodes_of pieces → bytes ≡ flat_map bytes_of pieces → NumberFirst n items nodes bytes
number_first [] letter n items nodes bytes e f g = absurd (cc)
number_first (word l t ∷ ps) letter n items nodes bytes e f g = elim (word_stored l t) [
  | inl k ↦
      let same : item.Number letter n ∷ items ≡ item.Number l (node.Number k.0) ∷ map item_of ps = e ∙ ap (λ (u : Tree). word_item l u ∷ map item_of ps) k.1 in
      let only : n ≡ node.Number k.0 = cc in
      let others : items ≡ map item_of ps = cc in
      record {
        tree = (number k.0, ap (λ (m : Node). m ∷ []) only);
        encoded = (ps, record { items_are = others; nodes_are = f ∙ ap (λ (u : Tree). word_nodes u ++ flat_map nodes_of ps) k.1; bytes_are = g });
      }
  | inr k ↦
      let same : item.Number letter n ∷ items ≡ item.Word l (length (postfix t)) ∷ map item_of ps = e ∙ ap (λ (x : PieceEntry). x ∷ map item_of ps) k.0 in
      absurd (cc)
]
number_first (assignment i v ∷ ps) letter n items nodes bytes e f g = absurd (cc)
number_first (comment text ∷ ps) letter n items nodes bytes e f g = absurd (cc)

pub stored_number : (places : PieceStore) (first : PieceEntry) (letter : Letter) (n : Node) (items : List PieceEntry)
    → AreEncodedPieces places → places.items ≡ first ∷ items → first ≡ item.Number letter n
    → NumberFirst n items places.nodes places.bytes
stored_number places first letter n items k e is =
    number_first k.0 letter n items places.nodes places.bytes (ap (λ (x : PieceEntry). x ∷ items) (sym is) ∙ sym e ∙ k.1.items_are) k.1.nodes_are k.1.bytes_are

-- a word that is stored by its nodes comes first: what holds of them and of what is left
pub record WordFirst (n : ℕ) (items : List PieceEntry) (nodes : List Node) (bytes : List ℕ) : Type 0 where
  pub within : n ≤ length nodes
  pub tree : IsTree (take n nodes)
  pub encoded : AreEncodedPieces (record { items = items; nodes = drop n nodes; bytes = bytes })

word_first : (pieces : List Piece) (letter : Letter) (n : ℕ) (items : List PieceEntry) (nodes : List Node) (bytes : List ℕ)
    → item.Word letter n ∷ items ≡ map item_of pieces → nodes ≡ flat_map nodes_of pieces → bytes ≡ flat_map bytes_of pieces → WordFirst n items nodes bytes
word_first [] letter n items nodes bytes e f g = absurd (cc)
word_first (word l t ∷ ps) letter n items nodes bytes e f g = elim (word_stored l t) [
  | inl k ↦
      let same : item.Word letter n ∷ items ≡ item.Number l (node.Number k.0) ∷ map item_of ps = e ∙ ap (λ (u : Tree). word_item l u ∷ map item_of ps) k.1 in
      absurd (cc)
  | inr k ↦
      let same : item.Word letter n ∷ items ≡ item.Word l (length (postfix t)) ∷ map item_of ps = e ∙ ap (λ (x : PieceEntry). x ∷ map item_of ps) k.0 in
      let count : length (postfix t) ≡ n = cc in
      let others : items ≡ map item_of ps = cc in
      let rest = flat_map nodes_of ps in
      let parts : nodes ≡ postfix t ++ rest = f ∙ ap (λ (l : List Node). l ++ rest) k.1 in
      record {
        within = omega (arith, count, ap length parts, length-append (postfix t) rest);
        tree = (t, ap (take n) parts ∙ take_at (postfix t) rest n count);
        encoded = (ps, record { items_are = others; nodes_are = ap (drop n) parts ∙ drop_at (postfix t) rest n count; bytes_are = g });
      }
]
word_first (assignment i v ∷ ps) letter n items nodes bytes e f g = absurd (cc)
word_first (comment text ∷ ps) letter n items nodes bytes e f g = absurd (cc)

pub stored_word : (places : PieceStore) (first : PieceEntry) (letter : Letter) (n : ℕ) (items : List PieceEntry)
    → AreEncodedPieces places → places.items ≡ first ∷ items → first ≡ item.Word letter n
    → WordFirst n items places.nodes places.bytes
stored_word places first letter n items k e is =
    word_first k.0 letter n items places.nodes places.bytes (ap (λ (x : PieceEntry). x ∷ items) (sym is) ∙ sym e ∙ k.1.items_are) k.1.nodes_are k.1.bytes_are

-- the item of an assignment or a comment is no word's
abbrev is_word : PieceEntry → Bool
is_word (item.Number letter value) = true
is_word (item.Word letter n) = true
is_word (item.Assignment i n) = false
is_word (item.Comment n) = false

word_is_word : (l : Letter) (t : Tree) → is_word (word_item l t) ≡ true
word_is_word l (number value) = refl
word_is_word l (parameter t) = refl
word_is_word l (bracketed t) = refl
word_is_word l (applied f t) = refl
word_is_word l (joined op left right) = refl

other_item : (l : Letter) (t : Tree) (x : PieceEntry) (items others : List PieceEntry) → x ∷ items ≡ word_item l t ∷ others → is_word x ≡ false → ⊥
other_item l t x items others e none =
    let same : x ≡ word_item l t = cc in
    let both : false ≡ true = sym none ∙ ap is_word same ∙ word_is_word l t in
    absurd (cc)

-- an assignment comes first
pub record AssignmentFirst (i n : ℕ) (items : List PieceEntry) (nodes : List Node) (bytes : List ℕ) : Type 0 where
  pub index_within : i ≤ length nodes
  pub value_within : n ≤ length (drop i nodes)
  pub index : IsTree (take i nodes)
  pub value : IsTree (take n (drop i nodes))
  pub encoded : AreEncodedPieces (record { items = items; nodes = drop n (drop i nodes); bytes = bytes })

assignment_first : (pieces : List Piece) (i n : ℕ) (items : List PieceEntry) (nodes : List Node) (bytes : List ℕ)
    → item.Assignment i n ∷ items ≡ map item_of pieces → nodes ≡ flat_map nodes_of pieces
    → bytes ≡ flat_map bytes_of pieces → AssignmentFirst i n items nodes bytes
assignment_first [] i n items nodes bytes e f g = absurd (cc)
assignment_first (word l t ∷ ps) i n items nodes bytes e f g = absurd (other_item l t (item.Assignment i n) items (map item_of ps) e refl)
assignment_first (assignment t u ∷ ps) i n items nodes bytes e f g =
    let index_count : length (postfix t) ≡ i = cc in
    let count : length (postfix u) ≡ n = cc in
    let others : items ≡ map item_of ps = cc in
    let rest = flat_map nodes_of ps in
    let parts : nodes ≡ postfix t ++ (postfix u ++ rest) = f ∙ append_assoc (postfix t) (postfix u) rest in
    let after : drop i nodes ≡ postfix u ++ rest = ap (drop i) parts ∙ drop_at (postfix t) (postfix u ++ rest) i index_count in
    record {
      index_within = omega (arith, index_count, ap length parts, length-append (postfix t) (postfix u ++ rest));
      value_within = omega (arith, count, ap length after, length-append (postfix u) rest);
      index = (t, ap (take i) parts ∙ take_at (postfix t) (postfix u ++ rest) i index_count);
      value = (u, ap (take n) after ∙ take_at (postfix u) rest n count);
      encoded = (ps, record { items_are = others; nodes_are = ap (drop n) after ∙ drop_at (postfix u) rest n count; bytes_are = g });
    }
assignment_first (comment text ∷ ps) i n items nodes bytes e f g = absurd (cc)

pub stored_assignment : (places : PieceStore) (first : PieceEntry) (i n : ℕ) (items : List PieceEntry)
    → AreEncodedPieces places → places.items ≡ first ∷ items → first ≡ item.Assignment i n
    → AssignmentFirst i n items places.nodes places.bytes
stored_assignment places first i n items k e is =
    assignment_first k.0 i n items places.nodes places.bytes (ap (λ (x : PieceEntry). x ∷ items) (sym is) ∙ sym e ∙ k.1.items_are) k.1.nodes_are k.1.bytes_are

-- a comment comes first
pub record CommentFirst (n : ℕ) (items : List PieceEntry) (nodes : List Node) (bytes : List ℕ) : Type 0 where
  pub within : n ≤ length bytes
  pub encoded : AreEncodedPieces (record { items = items; nodes = nodes; bytes = drop n bytes })

comment_first : (pieces : List Piece) (n : ℕ) (items : List PieceEntry) (nodes : List Node) (bytes : List ℕ)
    → item.Comment n ∷ items ≡ map item_of pieces → nodes ≡ flat_map nodes_of pieces → bytes ≡ flat_map bytes_of pieces → CommentFirst n items nodes bytes
comment_first [] n items nodes bytes e f g = absurd (cc)
comment_first (word l t ∷ ps) n items nodes bytes e f g = absurd (other_item l t (item.Comment n) items (map item_of ps) e refl)
comment_first (assignment i v ∷ ps) n items nodes bytes e f g = absurd (cc)
comment_first (comment text ∷ ps) n items nodes bytes e f g =
    let count : length text ≡ n = cc in
    let others : items ≡ map item_of ps = cc in
    let rest = flat_map bytes_of ps in
    record {
      within = omega (arith, count, ap length g, length-append text rest);
      encoded = (ps, record { items_are = others; nodes_are = f; bytes_are = ap (drop n) g ∙ drop_at text rest n count });
    }

pub stored_comment : (places : PieceStore) (first : PieceEntry) (n : ℕ) (items : List PieceEntry)
    → AreEncodedPieces places → places.items ≡ first ∷ items → first ≡ item.Comment n
    → CommentFirst n items places.nodes places.bytes
stored_comment places first n items k e is =
    comment_first k.0 n items places.nodes places.bytes (ap (λ (x : PieceEntry). x ∷ items) (sym is) ∙ sym e ∙ k.1.items_are) k.1.nodes_are k.1.bytes_are

-- ---- the last comment

-- the item of a word or an assignment, which comes after others
last_passed : (items : List PieceEntry) (x : PieceEntry) → last_size (x ∷ []) ≡ None → last_size (items ++ x ∷ []) ≡ last_size items
last_passed [] x none = none
last_passed (item.Number letter value ∷ items) x none = last_passed items x none
last_passed (item.Word letter n ∷ items) x none = last_passed items x none
last_passed (item.Assignment i n ∷ items) x none = last_passed items x none
last_passed (item.Comment n ∷ items) x none = ap (λ (o : Option ℕ). option_or o (Some n)) (last_passed items x none)

pub last_after_word : (items : List PieceEntry) (l : Letter) (t : Tree) → last_size (items ++ word_item l t ∷ []) ≡ last_size items
last_after_word items l (number value) = last_passed items (item.Number l (node.Number value)) refl
last_after_word items l (parameter t) = last_passed items (word_item l (parameter t)) refl
last_after_word items l (bracketed t) = last_passed items (word_item l (bracketed t)) refl
last_after_word items l (applied f t) = last_passed items (word_item l (applied f t)) refl
last_after_word items l (joined op left right) = last_passed items (word_item l (joined op left right)) refl

pub last_after_assignment : (items : List PieceEntry) (i n : ℕ) → last_size (items ++ item.Assignment i n ∷ []) ≡ last_size items
last_after_assignment items i n = last_passed items (item.Assignment i n) refl

-- the item of a comment
pub last_after_comment : (items : List PieceEntry) (n : ℕ) → last_size (items ++ item.Comment n ∷ []) ≡ Some n
last_after_comment [] n = refl
last_after_comment (item.Number letter value ∷ items) n = last_after_comment items n
last_after_comment (item.Word letter m ∷ items) n = last_after_comment items n
last_after_comment (item.Assignment i m ∷ items) n = last_after_comment items n
last_after_comment (item.Comment m ∷ items) n = ap (λ (o : Option ℕ). option_or o (Some m)) (last_after_comment items n)

-- if there is no comment, there are no bytes; otherwise its bytes are the last of all bytes
abbrev pub IsLastIn : List Piece → List ℕ → Option ℕ → Type 0
IsLastIn pieces bytes None = (last_comment pieces ≡ None) × (bytes ≡ [])
IsLastIn pieces bytes (Some n) = (last_comment pieces ≡ Some (drop (length bytes - n) bytes)) × (n ≤ length bytes)

last_after : (text rest : List ℕ) (pieces : List Piece) (o : Option ℕ) → IsLastIn pieces rest o
    → IsLastIn (comment text ∷ pieces) (text ++ rest) (option_or o (Some (length text)))
last_after text rest pieces None h =
    let all : text ++ rest ≡ text = ap (λ (l : List ℕ). text ++ l) h.1 ∙ append-nil text in
    let P : List ℕ → Type 0 = λ l. (option_or (last_comment pieces) (Some text) ≡ Some (drop (length l - length text) l)) × (length text ≤ length l) in
    let none : length text - length text ≡ 0 = omega arith in
    subst P (sym all) (ap (λ (o : Option (List ℕ)). option_or o (Some text)) h.0 ∙ ap (λ (n : ℕ). Some (drop n text)) (sym none), omega arith)
last_after text rest pieces (Some n) h =
    let far : length (text ++ rest) - n ≡ length text + (length rest - n) = omega (arith, length-append text rest, h.1) in (
      ap (λ (o : Option (List ℕ)). option_or o (Some text)) h.0
          ∙ ap (λ (l : List ℕ). Some l) (sym (drop-append-add text rest (length rest - n)))
          ∙ ap (λ (k : ℕ). Some (drop k (text ++ rest))) (sym far),
      omega (arith, length-append text rest, h.1),
    )

last_in : (pieces : List Piece) → IsLastIn pieces (flat_map bytes_of pieces) (last_size (map item_of pieces))
last_in [] = (refl, refl)
last_in (word l t ∷ ps) = subst (IsLastIn (word l t ∷ ps) (flat_map bytes_of ps))
    (sym (passed l t (map item_of ps))) (last_word l t ps (last_size (map item_of ps)) (last_in ps))
  where
    passed : (l : Letter) (t : Tree) (items : List PieceEntry) → last_size (word_item l t ∷ items) ≡ last_size items
    passed l (number value) items = refl
    passed l (parameter t) items = refl
    passed l (bracketed t) items = refl
    passed l (applied f t) items = refl
    passed l (joined op left right) items = refl

    last_word : (l : Letter) (t : Tree) (ps : List Piece) (o : Option ℕ) → IsLastIn ps (flat_map bytes_of ps) o
        → IsLastIn (word l t ∷ ps) (flat_map bytes_of ps) o
    last_word l t ps None h = h
    last_word l t ps (Some n) h = h
last_in (assignment i v ∷ ps) = last_assignment i v ps (last_size (map item_of ps)) (last_in ps)
  where
    last_assignment : (i v : Tree) (ps : List Piece) (o : Option ℕ) → IsLastIn ps (flat_map bytes_of ps) o
        → IsLastIn (assignment i v ∷ ps) (flat_map bytes_of ps) o
    last_assignment i v ps None h = h
    last_assignment i v ps (Some n) h = h
last_in (comment text ∷ ps) = last_after text (flat_map bytes_of ps) ps (last_size (map item_of ps)) (last_in ps)

pub stored_last : (places : PieceStore) → AreEncodedPieces places → IsLastIn (pieces_by places) places.bytes (last_size places.items)
stored_last places k =
    let P : List Piece → Type 0 = λ ps. IsLastIn ps places.bytes (last_size places.items) in
    let Q : List ℕ → Type 0 = λ bytes. IsLastIn k.0 bytes (last_size places.items) in
    let R : List PieceEntry → Type 0 = λ items. IsLastIn k.0 (flat_map bytes_of k.0) (last_size items) in
    subst P (sym (stored_is places k.0 k.1)) (subst Q (sym k.1.bytes_are) (subst R (sym k.1.items_are) (last_in k.0)))

-- what is stored of the last comment says where it is
last_by : (places : PieceStore) (o answer : Option ℕ) → AreEncodedPieces places → o ≡ last_size places.items
    → o ≡ answer → IsLastIn (pieces_by places) places.bytes answer
last_by places o answer k is was = subst (IsLastIn (pieces_by places) places.bytes) (sym is ∙ was) (stored_last places k)

-- the last comment has at most as many bytes as there are
pub last_within : (places : PieceStore) (o : Option ℕ) (n : ℕ) → AreEncodedPieces places → o ≡ last_size places.items → o ≡ Some n → n ≤ length places.bytes
last_within places o n k is was = (last_by places o (Some n) k is was).1

-- the bytes from there on are the last comment's
pub last_text : (places : PieceStore) (o : Option ℕ) (n size : ℕ) (bytes : List ℕ) → AreEncodedPieces places → o ≡ last_size places.items → o ≡ Some n
    → bytes ≡ places.bytes → size ≡ length places.bytes → last_comment (pieces_by places) ≡ Some (take (length bytes - (size - n)) (drop (size - n) bytes))
last_text places o n size bytes k is was bytes_are size_is =
    (last_by places o (Some n) k is was).0
    ∙ ap (λ (b : List ℕ). Some (drop (length places.bytes - n) b)) (sym bytes_are)
    ∙ ap (λ (s : ℕ). Some (drop (s - n) bytes)) (sym size_is)
    ∙ ap (λ (b : List ℕ). Some b) (sym (take_rest bytes (size - n)))

-- if none is stored, there is none
pub last_none : (places : PieceStore) (o : Option ℕ) → AreEncodedPieces places → o ≡ last_size places.items → o ≡ None → last_comment (pieces_by places) ≡ None
last_none places o k is was = (last_by places o None k is was).0
