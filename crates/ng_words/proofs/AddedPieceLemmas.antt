-- What the reader's calls have to show about pieces: each is added to the places after those that are there.
use Rattle.std.proofs.Common.{ℕ, ◌+◌, ◌≤◌, ◌≡◌, List, [], ◌∷◌, ◌++◌, length, drop, Bool, true, false, ◌==◌, ℤ}
use Rattle.std.proofs.Common.{Option, Some, None, MatchBool, IsTrue, inl, inr, refl, sym, ap, ◌∙◌, arith}
use Rattle.std.proofs.Common.{append-nil, length-append, length-drop}
use Rattle.std.specs.List.{flat_map}
use Rattle.std.specs.Option.{option_map, option_and_then}
use Rattle.std.proofs.lemmas.List.{map-append}
use Rattle.std.proofs.lemmas.Grind.{flat_map-append}
use Rattle.std.proofs.lemmas.Bool.Decides.{nat_tests, Decides-eqb}
use Rattle.ng_words.specs.Plain.{StartsWithByte}
use Rattle.ng_words.specs.Grammar.{Tree, number, Piece, word, assignment, comment}
use Rattle.ng_words.specs.Scan.{letter_of, number_at}
use Rattle.ng_words.specs.Value.{strip_prefix, value_at}
use Rattle.ng_words.specs.Pieces.{comment_at, piece_at, pieces_at}
use Rattle.ng_words.specs.LineStorage.{item_of, nodes_of, bytes_of, PieceStore, EncodesPieces, pieces_by}
use Rattle.ng_words.specs.Private.Items.{last_size}
use Rattle.ng_words.specs.Private.Walks.{store_of, AddsWord, assignment_at, AddsAssignment, AddsComment, Adds}
use Rattle.ng_words.specs.Private.Walks.{TakesPiece, TakesPieces, TakesValue, BeginsNumber}
use Rattle.ng_words.specs.declared.letter.Letter.{Letter}
use Rattle.ng_words.specs.declared.piece_entry.PieceEntry.{PieceEntry}
use Rattle.ng_words.specs.declared.piece_entry.PieceEntry.TheVariants as item
use Rattle.ng_words.specs.declared.tree.Node.{Node}
use Rattle.ng_words.specs.declared.tree.Node.TheVariants as node
use Rattle.ng_words.proofs.LineStorageLemmas.{word_stored, last_after_word, last_after_assignment, stored_is}
use Rattle.ng_words.proofs.ValueWalkLemmas.{strip_prefix_is}
use Rattle.ng_words.proofs.WalkPlaceLemmas.{number_value, value_begins}
use Rattle.ng_words.proofs.PieceGrammarLemmas.{comment_sound, length-piece_at, found_before, found_before_start, found_before_more}

-- ---- how many bytes are left

-- a comment's bytes are between its parentheses
pub comment_size : (bytes text rest : List ℕ) → StartsWithByte bytes 40
    → comment_at (drop 1 bytes) ≡ Some (text, rest) → length text + length rest + 2 ≡ length bytes
comment_size [] text rest s e = absurd s
comment_size (b ∷ bs) text rest s e =
    let sum : length bs ≡ length (text ++ 41 ∷ rest) = ap length (comment_sound bs (text, rest) e).0 in
    omega (arith, length-append text (41 ∷ rest))

pub strip_prefix_shorter : (text bytes rest : List ℕ) → strip_prefix text bytes ≡ Some rest → length rest ≤ length bytes
strip_prefix_shorter text bytes rest e =
    let sum : length bytes ≡ length (text ++ rest) = ap length (strip_prefix_is text bytes rest e) in
    omega (arith, length-append text rest)

pub advanced_shorter : (bytes rest : List ℕ) → rest ≡ drop 1 bytes → length rest ≤ length bytes
advanced_shorter bytes rest e = let same : length rest ≡ length (drop 1 bytes) = ap length e in omega (arith, length-drop 1 bytes)

-- a piece has at least two bytes
pub piece_shorter : (bytes rest : List ℕ) (taken : Bool) (old new : PieceStore)
    → TakesPiece bytes taken rest old new → IsTrue taken → length rest + 2 ≤ length bytes
piece_shorter bytes rest true old new h t = length-piece_at bytes (h.0, rest) h.1
piece_shorter bytes rest false old new h t = absurd (cc)

-- ---- the piece that a byte begins

-- a comment
pub takes_comment : (bytes rest : List ℕ) (b : ℕ) (taken : Bool) (items items_then : List PieceEntry)
    (nodes : List Node) (texts texts_then : List ℕ) → StartsWithByte bytes b → b ≡ 40
    → MatchBool taken (AddsComment bytes rest items items_then texts texts_then) (comment_at (drop 1 bytes) ≡ None)
    → TakesPiece bytes taken rest (store_of items nodes texts) (store_of items_then nodes texts_then)
takes_comment [] rest b taken items items_then nodes texts texts_then s e h = absurd s
takes_comment (c ∷ bs) rest b true items items_then nodes texts texts_then s e h =
    let begins : (c == 40) ≡ true = (Decides-eqb c 40).1 (s ∙ e) in (
      comment h.0,
      rw begins (ap (option_map (λ (x : List ℕ × List ℕ). (comment x.0, x.1))) h.1),
      record { items_more = h.2; nodes_more = sym (append-nil nodes); bytes_more = h.3 },
    )
takes_comment (c ∷ bs) rest b false items items_then nodes texts texts_then s e h =
    let begins : (c == 40) ≡ true = (Decides-eqb c 40).1 (s ∙ e) in
    rw begins (ap (option_map (λ (x : List ℕ × List ℕ). (comment x.0, x.1))) h)

-- an assignment
pub takes_assignment : (bytes after_it rest : List ℕ) (b : ℕ) (taken : Bool) (items items_then : List PieceEntry)
    (nodes nodes_then : List Node) (texts : List ℕ) → StartsWithByte bytes b → b ≡ 35
    → after_it ≡ drop 1 bytes → MatchBool taken (AddsAssignment after_it rest items items_then nodes nodes_then) (assignment_at after_it ≡ None)
    → TakesPiece bytes taken rest (store_of items nodes texts) (store_of items_then nodes_then texts)
takes_assignment [] after_it rest b taken items items_then nodes nodes_then texts s e d h = absurd s
takes_assignment (c ∷ bs) after_it rest b true items items_then nodes nodes_then texts s e d h =
    let other : (c == 40) ≡ false = grind (arith, nat_tests, s ∙ e) in
    let begins : (c == 35) ≡ true = (Decides-eqb c 35).1 (s ∙ e) in (
      assignment h.0 h.1,
      rw (other, begins) (ap assignment_at (sym d) ∙ h.2),
      record { items_more = h.3; nodes_more = h.4; bytes_more = sym (append-nil texts) },
    )
takes_assignment (c ∷ bs) after_it rest b false items items_then nodes nodes_then texts s e d h =
    let other : (c == 40) ≡ false = grind (arith, nat_tests, s ∙ e) in
    let begins : (c == 35) ≡ true = (Decides-eqb c 35).1 (s ∙ e) in
    rw (other, begins) (ap assignment_at (sym d) ∙ h)

-- a letter is neither
no_letter : (b n : ℕ) (l : Letter) → Some l ≡ letter_of b → letter_of n ≡ None → (b == n) ≡ false
no_letter b n l e none = at (b == n) refl
  where
    at : (t : Bool) → (b == n) ≡ t → (b == n) ≡ false
    at true t = let same : b ≡ n = (Decides-eqb b n).0 t in let found : letter_of n ≡ Some l = ap letter_of (sym same) ∙ sym e in absurd (cc)
    at false t = t

-- a word whose value is a number alone
pub number_word : (letter : Letter) (bytes rest : List ℕ) (value : Option ℤ) (items items_then : List PieceEntry)
    (nodes : List Node) → BeginsNumber bytes → number_at bytes ≡ Some (value, rest)
    → items_then ≡ items ++ item.Number letter (node.Number value) ∷ [] → AddsWord letter bytes rest items items_then nodes nodes
number_word letter bytes rest value items items_then nodes h e i = (number value, number_value bytes rest value h e, i, sym (append-nil nodes))

-- another word
pub walked_word : (letter : Letter) (bytes rest : List ℕ) (n : ℕ) (items items_then : List PieceEntry) (nodes nodes_then : List Node) → (BeginsNumber bytes → ⊥)
    → TakesValue bytes nodes (Some n) rest nodes_then → items_then ≡ items ++ item.Word letter n ∷ []
    → AddsWord letter bytes rest items items_then nodes nodes_then
walked_word letter bytes rest n items items_then nodes nodes_then other h i = elim (word_stored letter h.0) [
  | inl k ↦ absurd (other (value_begins bytes rest k.0 (h.1 ∙ ap {B = Option (Tree × List ℕ)} (λ (t : Tree). Some (t, rest)) k.1)))
  | inr k ↦ (
    h.0,
    h.1,
    i ∙ ap (λ (m : ℕ). items ++ item.Word letter m ∷ []) h.3 ∙ ap (λ (x : PieceEntry). items ++ x ∷ []) (sym k.0),
    h.2 ∙ ap (λ (l : List Node). nodes ++ l) (sym k.1),
  )
]

-- a word
pub takes_word : (bytes after_it rest : List ℕ) (b : ℕ) (l : Letter) (taken : Bool)
    (items items_then : List PieceEntry) (nodes nodes_then : List Node) (texts : List ℕ) → StartsWithByte bytes b
    → Some l ≡ letter_of b → after_it ≡ drop 1 bytes → MatchBool taken (AddsWord l after_it rest items items_then nodes nodes_then) (value_at after_it ≡ None)
    → TakesPiece bytes taken rest (store_of items nodes texts) (store_of items_then nodes_then texts)
takes_word [] after_it rest b l taken items items_then nodes nodes_then texts s e d h = absurd s
takes_word (c ∷ bs) after_it rest b l taken items items_then nodes nodes_then texts s e d h =
    takes taken h
  where
    is_letter : letter_of c ≡ Some l
    is_letter = ap letter_of s ∙ sym e

    found : (o : Option (Tree × List ℕ)) → value_at after_it ≡ o → piece_at (c ∷ bs) ≡ option_map (λ (v : Tree × List ℕ). (word l v.0, v.1)) o
    found o v =
        let no_comment : (c == 40) ≡ false = no_letter c 40 l (sym is_letter) refl in
        let no_assignment : (c == 35) ≡ false = no_letter c 35 l (sym is_letter) refl in
        rw (no_comment, no_assignment) (
        ap (option_and_then (λ (m : Letter). option_map (λ (v : Tree × List ℕ). (word m v.0, v.1)) (value_at bs))) is_letter
        ∙ ap (option_map (λ (v : Tree × List ℕ). (word l v.0, v.1))) (ap value_at (sym d) ∙ v)
        )

    takes : (taken : Bool) → MatchBool taken (AddsWord l after_it rest items items_then nodes nodes_then) (value_at after_it ≡ None)
        → TakesPiece (c ∷ bs) taken rest (store_of items nodes texts) (store_of items_then nodes_then texts)
    takes true h = (word l h.0, found (Some (h.0, rest)) h.1, record { items_more = h.2; nodes_more = h.3; bytes_more = sym (append-nil texts) })
    takes false h = found None h

-- ---- a word or an assignment leaves the last comment

pub word_last : (letter : Letter) (bytes rest : List ℕ) (taken : Bool) (items items_then : List PieceEntry) (nodes nodes_then : List Node)
    → MatchBool taken (AddsWord letter bytes rest items items_then nodes nodes_then) (value_at bytes ≡ None)
    → IsTrue taken → last_size items_then ≡ last_size items
word_last letter bytes rest true items items_then nodes nodes_then h t = ap last_size h.2 ∙ last_after_word items letter h.0
word_last letter bytes rest false items items_then nodes nodes_then h t = absurd (cc)

pub assignment_last : (bytes rest : List ℕ) (taken : Bool) (items items_then : List PieceEntry) (nodes nodes_then : List Node)
    → MatchBool taken (AddsAssignment bytes rest items items_then nodes nodes_then) (assignment_at bytes ≡ None)
    → IsTrue taken → last_size items_then ≡ last_size items
assignment_last bytes rest true items items_then nodes nodes_then h t = ap last_size h.3 ∙ last_after_assignment items _ _
assignment_last bytes rest false items items_then nodes nodes_then h t = absurd (cc)

-- ---- the loop over the pieces

-- the places keep pieces; together with those that follow, they are the pieces of the bytes
abbrev pub IsTaking : List ℕ → List ℕ → PieceStore → Type 0
IsTaking bytes_first bytes places = (found : List Piece) × (found_before found bytes ≡ pieces_at (length bytes_first) bytes_first) × EncodesPieces places found

pub taking_starts : (bytes : List ℕ) (items : List PieceEntry) (nodes : List Node) (texts : List ℕ) → items ≡ []
    → nodes ≡ [] → texts ≡ [] → IsTaking bytes bytes (store_of items nodes texts)
taking_starts bytes items nodes texts i n t = ([], found_before_start [] bytes refl, record { items_are = i; nodes_are = n; bytes_are = t })

keeps_more : (p : Piece) (found : List Piece) (old new : PieceStore) → EncodesPieces old found → Adds p old new → EncodesPieces new (found ++ p ∷ [])
keeps_more p found old new k a = record {
  items_are = a.items_more ∙ ap (λ (l : List PieceEntry). l ++ item_of p ∷ []) k.items_are ∙ sym (map-append item_of found (p ∷ []));
  nodes_are = a.nodes_more ∙ ap (λ (l : List Node). l ++ nodes_of p) k.nodes_are
      ∙ ap (λ (l : List Node). flat_map nodes_of found ++ l) (sym (append-nil (nodes_of p)))
      ∙ sym (flat_map-append nodes_of found (p ∷ []));
  bytes_are = a.bytes_more ∙ ap (λ (l : List ℕ). l ++ bytes_of p) k.bytes_are
      ∙ ap (λ (l : List ℕ). flat_map bytes_of found ++ l) (sym (append-nil (bytes_of p)))
      ∙ sym (flat_map-append bytes_of found (p ∷ []));
}

-- one more piece
pub taking_goes : (bytes_first bytes rest : List ℕ) (taken : Bool) (old new : PieceStore)
    → IsTaking bytes_first bytes old → TakesPiece bytes taken rest old new → taken ≡ true
    → IsTaking bytes_first rest new
taking_goes bytes_first bytes rest true old new h p t =
    (h.0 ++ p.0 ∷ [], found_before_more h.0 (h.0 ++ p.0 ∷ []) bytes (p.0, rest) _ h.1 p.1 refl, keeps_more p.0 h.0 old new h.2 p.2)
taking_goes bytes_first bytes rest false old new h p t = absurd (cc)

-- one more item
pub one_item_more : (bytes rest : List ℕ) (taken : Bool) (old new : PieceStore)
    → TakesPiece bytes taken rest old new → taken ≡ true → length new.items ≡ length old.items + 1
one_item_more bytes rest true old new h t = simp length-append at (ap length h.2.items_more)
one_item_more bytes rest false old new h t = absurd (cc)

-- the pieces that were taken are those that the places keep
pub pieces_taken : (bytes : List ℕ) (places : PieceStore) → TakesPieces bytes true places → pieces_at (length bytes) bytes ≡ Some (pieces_by places)
pieces_taken bytes places h = h.1 ∙ ap {B = Option (List Piece)} Some (sym (stored_is places h.0 h.2))
