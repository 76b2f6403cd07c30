-- A text or a comment at the front, byte by byte.
use Rattle.std.proofs.Common.{ℕ, ◌+◌, ◌<◌, ◌≤◌, ◌≡◌, ◌≢◌, List, [], ◌∷◌, ◌++◌, length, drop, take, get_or}
use Rattle.std.proofs.Common.{append-nil, append_assoc, Bool, true, false, not, ◌==◌, Option, Some, None, refl, sym}
use Rattle.std.proofs.Common.{ap, ◌∙◌, subst, arith, add-one, drop-cons, MatchOption, eqb}
use Rattle.std.specs.Option.{option_map, option_eq}
use Rattle.std.proofs.Math.Seq.{take-suc}
use Rattle.std.proofs.lemmas.List.{drop_all}
use Rattle.std.proofs.lemmas.Bool.Decides.{nat_tests, Decides-eqb}
use Rattle.ng_words.specs.Plain.{plain, StartsWithByte, IsOutside, HasNoComment}
use Rattle.ng_words.specs.Value.{strip_prefix}
use Rattle.ng_words.specs.Pieces.{comment_at}
use Rattle.ng_words.specs.Private.Walks.{ClosesAt}

-- ---- a text

-- the text from one of its bytes on
pub text_from : (text : List ℕ) (i : ℕ) → i < length text → drop i text ≡ get_or text i 0 ∷ drop (i + 1) text
text_from text i h = rw add-one (drop-cons text i 0 h)

strip_prefix_first : (b c : ℕ) (cs bs : List ℕ) → b ≡ c → strip_prefix (c ∷ cs) (b ∷ bs) ≡ strip_prefix cs bs
strip_prefix_first b c cs bs e = grind (arith, nat_tests)

strip_prefix_other : (b c : ℕ) (cs bs : List ℕ) → b ≢ c → strip_prefix (c ∷ cs) (b ∷ bs) ≡ None
strip_prefix_other b c cs bs n = grind (arith, nat_tests)

skip_goes_at : (c : ℕ) (cs bytes : List ℕ) → StartsWithByte bytes c → strip_prefix (c ∷ cs) bytes ≡ strip_prefix cs (drop 1 bytes)
skip_goes_at c cs [] s = absurd s
skip_goes_at c cs (b ∷ bs) s = strip_prefix_first b c cs bs s

-- the result of a test of the next byte
next_same : (o : Option ℕ) (c : ℕ) → not (option_eq eqb o (Some c)) ≡ false → o ≡ Some c
next_same None c e = absurd (cc)
next_same (Some b) c e = ap {B = Option ℕ} Some (next_same_at (eqb b c) refl e)
  where
    next_same_at : (t : Bool) → eqb b c ≡ t → not t ≡ false → b ≡ c
    next_same_at true f g = (Decides-eqb b c).0 f
    next_same_at false f g = absurd (cc)

next_other : (o : Option ℕ) (c : ℕ) → not (option_eq eqb o (Some c)) ≡ true → o ≢ Some c
next_other None c e = λ f. absurd (cc)
next_other (Some b) c e = λ f. let same : b ≡ c = cc in grind (arith, nat_tests)

-- the next byte is that of the text
pub skip_goes : (text : List ℕ) (i : ℕ) (bytes after : List ℕ) (o : Option ℕ) → i < length text → MatchOption o (bytes ≡ []) (λ b. StartsWithByte bytes b)
    → not (option_eq eqb o (Some (get_or text i 0))) ≡ false → after ≡ drop 1 bytes → strip_prefix (drop (i + 1) text) after ≡ strip_prefix (drop i text) bytes
skip_goes text i bytes after None h m o a = absurd (cc)
skip_goes text i bytes after (Some b) h m o a =
    let it : Some b ≡ Some (get_or text i 0) = next_same (Some b) (get_or text i 0) o in
    let same : b ≡ get_or text i 0 = cc in
    ap (strip_prefix (drop (i + 1) text)) a ∙ sym (skip_goes_at _ _ bytes (subst (StartsWithByte bytes) same m))
    ∙ ap (λ t. strip_prefix t bytes) (sym (text_from text i h))

skip_stops_at : (c b : ℕ) (cs bytes : List ℕ) → StartsWithByte bytes b → b ≢ c → strip_prefix (c ∷ cs) bytes ≡ None
skip_stops_at c b cs [] s n = refl
skip_stops_at c b cs (d ∷ bs) s n = strip_prefix_other d c cs bs (λ e. n (sym s ∙ e))

-- the next byte isn't that of the text
pub skip_stops : (text : List ℕ) (i : ℕ) (bytes : List ℕ) (o : Option ℕ) → i < length text → MatchOption o (bytes ≡ []) (λ b. StartsWithByte bytes b)
    → not (option_eq eqb o (Some (get_or text i 0))) ≡ true → strip_prefix (drop i text) bytes ≡ None
skip_stops text i bytes None h m n = ap (λ t. strip_prefix t bytes) (text_from text i h) ∙ ap (strip_prefix (get_or text i 0 ∷ drop (i + 1) text)) m
skip_stops text i bytes (Some b) h m n =
    ap (λ t. strip_prefix t bytes) (text_from text i h) ∙ skip_stops_at _ b _ bytes m (λ f. next_other (Some b) (get_or text i 0) n (ap {B = Option ℕ} Some f))

IsOutside_at : (c : ℕ) (bytes : List ℕ) → StartsWithByte bytes c → c ≢ 40 → IsOutside bytes
IsOutside_at c [] s n = absurd s
IsOutside_at c (b ∷ bs) s n = λ e. n (sym s ∙ e)

HasNoComment-next : (text : List ℕ) (i : ℕ) → i < length text → HasNoComment (drop i text) → (get_or text i 0 ≢ 40) × HasNoComment (drop (i + 1) text)
HasNoComment-next text i h n = let P : List ℕ → Type 0 = HasNoComment in subst P (text_from text i h) n

-- no comment begins at a text's byte
pub skip_outside : (text : List ℕ) (i : ℕ) (bytes : List ℕ) (o : Option ℕ) → i < length text → MatchOption o (bytes ≡ []) (λ b. StartsWithByte bytes b)
    → not (option_eq eqb o (Some (get_or text i 0))) ≡ false → HasNoComment (drop i text) → IsOutside bytes
skip_outside text i bytes None h m o n = absurd (cc)
skip_outside text i bytes (Some b) h m o n =
    let it : Some b ≡ Some (get_or text i 0) = next_same (Some b) (get_or text i 0) o in
    let same : b ≡ get_or text i 0 = cc in
    IsOutside_at b bytes m (λ f. (HasNoComment-next text i h n).0 (sym same ∙ f))

pub HasNoComment-more : (text : List ℕ) (i : ℕ) → i < length text → HasNoComment (drop i text) → HasNoComment (drop (i + 1) text)
HasNoComment-more text i h n = (HasNoComment-next text i h n).1

-- ---- a comment

-- what is found later, after bytes that belong to the comment
abbrev pub found_after : List ℕ → Option (List ℕ × List ℕ) → Option (List ℕ × List ℕ)
found_after front o = option_map (λ x. (front ++ x.0, x.1)) o

pub found_after-nothing : (o : Option (List ℕ × List ℕ)) → found_after [] o ≡ o
found_after-nothing None = refl
found_after-nothing (Some x) = refl

plain_from : (bytes : List ℕ) (i : ℕ) → i < length bytes → plain true (drop i bytes) ≡ get_or bytes i 0 ∷ plain
    (not (get_or bytes i 0 == 41)) (drop (i + 1) bytes)
plain_from bytes i h = ap (plain true) (text_from bytes i h)

-- a closing parenthesis
pub comment_closes : (bytes : List ℕ) (i : ℕ) → i < length bytes → get_or bytes i 0 ≡ 41
    → found_after (take i bytes) (comment_at (plain true (drop i bytes))) ≡ comment_at (plain true bytes)
    → ClosesAt bytes i
comment_closes bytes i h e f =
    let shown : comment_at (plain true bytes) ≡ Some (take i bytes, plain false (drop (i + 1) bytes)) =
    sym f ∙ ap (λ l. found_after (take i bytes) (comment_at l)) (plain_from bytes i h) ∙ closed (get_or bytes i 0) e in (h, shown)
  where
    closed : (b : ℕ) → b ≡ 41
        → found_after (take i bytes) (comment_at (b ∷ plain (not (b == 41)) (drop (i + 1) bytes))) ≡ Some
        (take i bytes, plain false (drop (i + 1) bytes))
    closed b e = let t : (b == 41) ≡ true =
        (Decides-eqb b 41).1 e in rw t
        (ap {B = Option (List ℕ × List ℕ)} (λ l. Some (l, plain false (drop (i + 1) bytes)))
        (append-nil (take i bytes)))

-- an opening parenthesis
pub comment_opens : (bytes : List ℕ) (i : ℕ) → i < length bytes → get_or bytes i 0 ≡ 40
    → found_after (take i bytes) (comment_at (plain true (drop i bytes))) ≡ comment_at (plain true bytes)
    → comment_at (plain true bytes) ≡ None
comment_opens bytes i h e f =
    sym f ∙ ap (λ l. found_after (take i bytes) (comment_at l)) (plain_from bytes i h) ∙ opened (get_or bytes i 0) e
  where
    opened : (b : ℕ) → b ≡ 40 → found_after (take i bytes) (comment_at (b ∷ plain (not (b == 41)) (drop (i + 1) bytes))) ≡ None
    opened b e =
        let t : (b == 40) ≡ true = (Decides-eqb b 40).1 e in
        let u : (b == 41) ≡ false = grind (arith, nat_tests) in rw (u, t) refl

-- any other byte
pub comment_goes : (bytes : List ℕ) (i : ℕ) → i < length bytes → get_or bytes i 0 ≢ 41 → get_or bytes i 0 ≢ 40
    → found_after (take i bytes) (comment_at (plain true (drop i bytes))) ≡ comment_at (plain true bytes)
    → found_after (take (i + 1) bytes) (comment_at (plain true (drop (i + 1) bytes))) ≡ comment_at (plain true bytes)
comment_goes bytes i h n m f =
    ap (λ l. found_after l (comment_at (plain true (drop (i + 1) bytes)))) longer ∙ moved (comment_at (plain true (drop (i + 1) bytes)))
    ∙ sym (goes (get_or bytes i 0) n m) ∙ ap (λ l. found_after (take i bytes) (comment_at l)) (sym (plain_from bytes i h)) ∙ f
  where
    longer : take (i + 1) bytes ≡ take i bytes ++ (get_or bytes i 0 ∷ [])
    longer = rw add-one (take-suc bytes i 0 h)

    moved : (o : Option (List ℕ × List ℕ)) → found_after (take i bytes ++ (get_or bytes i 0 ∷ [])) o ≡ found_after
        (take i bytes) (option_map (λ x. (get_or bytes i 0 ∷ x.0, x.1)) o)
    moved None = refl
    moved (Some x) = ap {B = Option (List ℕ × List ℕ)} (λ l. Some (l, x.1)) (append_assoc (take i bytes) (get_or bytes i 0 ∷ []) x.0)

    goes : (b : ℕ) → b ≢ 41 → b ≢ 40 → found_after (take i bytes) (comment_at (b ∷ plain (not (b == 41)) (drop (i + 1) bytes)))
        ≡ found_after (take i bytes) (option_map (λ x. (b ∷ x.0, x.1)) (comment_at (plain true (drop (i + 1) bytes))))
    goes b n m =
        let t : (b == 41) ≡ false = grind (arith, nat_tests) in
        let u : (b == 40) ≡ false = grind (arith, nat_tests) in rw (t, u) refl

-- no closing parenthesis
pub comment_ends : (bytes : List ℕ) (i : ℕ) → length bytes ≤ i
    → found_after (take i bytes) (comment_at (plain true (drop i bytes))) ≡ comment_at (plain true bytes) → comment_at (plain true bytes) ≡ None
comment_ends bytes i e f = sym f ∙ ap (λ l. found_after (take i bytes) (comment_at (plain true l))) (drop_all i bytes (omega arith))
