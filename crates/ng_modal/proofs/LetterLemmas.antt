-- The values by letter as they are packed, and one more word in front of those added before.
use Rattle.std.proofs.Common.{◌≡◌, ◌<◌, ◌-◌, ◌*◌, ◌%◌, ◌^◌, ℕ, ℤ, pos, Bool, true, false, List, [], ◌∷◌, length}
use Rattle.std.proofs.Common.{Some, None, refl, sym, ap, ◌∙◌, subst, arith, slice_index_or, slice_set, bit_or, w32}
use Rattle.std.specs.Prelude.{◌==◌, if◌then◌else◌}
use Rattle.std.specs.Int.{bit_at}
use Rattle.std.specs.Option.{is_some}
use Rattle.std.proofs.lemmas.Bool.Decides.{Decides-eqb}
use Rattle.std.proofs.lemmas.List.{get_or-set_same, get_or-set_other, get_or_default}
use Rattle.std.proofs.lemmas.Nat.Bits.{bit_at_set_same, bit_at_set_other}
use Rattle.ng_words.specs.declared.letter.Letter.{Letter}
use Rattle.ng_words.specs.declared.letter.Letter.TheVariants.{A, B, C, D, F, G, H, I, J, K, L, M, P, Q, R, S, T, X, Y, Z}
use Rattle.ng_expr.specs.declared.word.Word.{Word}
use Rattle.ng_modal.specs.Words.{byte_of, has_byte, of_letter, first}
use Rattle.ng_modal.specs.ByLetterModel.{ByLetterModel, index_of, unpacked_at, unpacked}
use Rattle.ng_modal.specs.ByLetter.{by_letter, takes_value, value_of}

-- a letter that takes a value is a field of its own
value_unpacked : (l : Letter) (present : ℕ) (numbers : List ℤ) → takes_value l ≡ true → value_of (unpacked present numbers) l ≡ unpacked_at present numbers l
value_unpacked G present numbers e = absurd (cc e)
value_unpacked M present numbers e = absurd (cc e)
value_unpacked _ present numbers e = refl

value_by_letter : (l : Letter) (ws : List Word) → takes_value l ≡ true → value_of (by_letter ws) l ≡ first (of_letter l ws)
value_by_letter G ws e = absurd (cc e)
value_by_letter M ws e = absurd (cc e)
value_by_letter _ ws e = refl

below_32 : (l : Letter) → index_of l < 32
below_32 G = omega arith
below_32 _ = omega arith

below_20 : (l : Letter) → index_of l < 20
below_20 G = omega arith
below_20 _ = omega arith

-- a letter's byte determines its index, and its index determines its byte
abbrev index_at : ℕ → ℕ
index_at byte = slice_index_or (0 ∷ 1 ∷ 2 ∷ 3 ∷ 0 ∷ 4 ∷ 5 ∷ 6 ∷ 7 ∷ 8 ∷ 9 ∷ 10 ∷ 11 ∷ 0 ∷ 0 ∷ 12 ∷ 13 ∷ 14 ∷ 15 ∷ 16
    ∷ 0 ∷ 0 ∷ 0 ∷ 17 ∷ 18 ∷ 19 ∷ []) (byte - 65) 0

abbrev byte_at : ℕ → ℕ
byte_at index = slice_index_or (65 ∷ 66 ∷ 67 ∷ 68 ∷ 70 ∷ 71 ∷ 72 ∷ 73 ∷ 74 ∷ 75 ∷ 76 ∷ 77 ∷ 80 ∷ 81 ∷ 82 ∷ 83 ∷ 84 ∷ 88 ∷ 89 ∷ 90 ∷ []) index 0

index_by_byte : (l : Letter) → index_of l ≡ index_at (byte_of l)
index_by_byte G = refl
index_by_byte _ = refl

byte_by_index : (l : Letter) → byte_of l ≡ byte_at (index_of l)
byte_by_index G = refl
byte_by_index _ = refl

same_index : (l k : Letter) → has_byte (byte_of l) k ≡ true → index_of l ≡ index_of k
same_index l k e = rw (index_by_byte l, (Decides-eqb (byte_of l) (byte_of k)).0 e) (sym (index_by_byte k))

other_index : (l k : Letter) → has_byte (byte_of l) k ≡ false → index_of l ≡ index_of k → ⊥
other_index l k e same =
    let same_byte : byte_of l ≡ byte_of k = rw (byte_by_index l, same) (sym (byte_by_index k)) in
    let has : has_byte (byte_of l) k ≡ true = (Decides-eqb (byte_of l) (byte_of k)).1 same_byte in
    cc

-- the value packed for a letter
pub value_present : (l : Letter) (present : ℕ) (numbers : List ℤ) (index : ℕ) (default : ℤ) →
    takes_value l ≡ true → index ≡ index_of l → length numbers ≡ 20 → (bit_at present index == 1) ≡ true →
    Some (slice_index_or numbers index default) ≡ value_of (unpacked present numbers) l
value_present l present numbers index default takes is long set =
    let is_set : (bit_at present (index_of l) == 1) ≡ true = rw (← is) set in
    let inside : index_of l < length numbers = rw long (below_20 l) in
    rw (value_unpacked l present numbers takes, is_set, is, get_or_default numbers (index_of l) default (pos 0) inside) refl

pub value_absent : (l : Letter) (present : ℕ) (numbers : List ℤ) (index : ℕ) →
    takes_value l ≡ true → index ≡ index_of l → (bit_at present index == 1) ≡ false →
    None ≡ value_of (unpacked present numbers) l
value_absent l present numbers index takes is unset =
    let is_unset : (bit_at present (index_of l) == 1) ≡ false = rw (← is) unset in
    rw (value_unpacked l present numbers takes, is_unset) refl

-- a letter has a value exactly if its bit is set
is_unpacked : (t : Bool) (x : ℤ) → is_some (if t then Some x else None) ≡ t
is_unpacked true x = refl
is_unpacked false x = refl

pub was_unpacked : (l : Letter) (ws : List Word) (present : ℕ) (numbers : List ℤ) (index : ℕ) →
    takes_value l ≡ true → index ≡ index_of l → unpacked present numbers ≡ by_letter ws →
    (bit_at present index == 1) ≡ is_some (first (of_letter l ws))
was_unpacked l ws present numbers index takes is before =
    rw (← value_by_letter l ws takes, ← before, value_unpacked l present numbers takes, is)
    (sym (is_unpacked (bit_at present (index_of l) == 1) (slice_index_or numbers (index_of l) (pos 0))))

-- one more word: its letter has its value, and the others have what they had
first_in_front : (t : Bool) (x : ℤ) (xs : List ℤ) → first (if t then x ∷ xs else xs) ≡ (if t then Some x else first xs)
first_in_front true x xs = refl
first_in_front false x xs = refl

unpacked_with : (l k : Letter) (x : ℤ) (present : ℕ) (numbers : List ℤ) → length numbers ≡ 20 →
    unpacked_at (bit_or present (1 * 2 ^ index_of k % 4294967296)) (slice_set numbers (index_of k) x) l
    ≡ (if has_byte (byte_of l) k then Some x else unpacked_at present numbers l)
unpacked_with l k x present numbers long =
    let after : ℕ = bit_or present (1 * 2 ^ index_of k % 4294967296) in
    let values : List ℤ = slice_set numbers (index_of k) x in
    let inside : index_of k < length numbers = rw long (below_20 k) in
    let P : Bool → Type 0 = λ t. has_byte (byte_of l) k ≡ t → unpacked_at after values l ≡ (if t then Some x else unpacked_at present numbers l) in
    elim (has_byte (byte_of l) k) as P [
      | true ↦ λ e.
          let same : index_of l ≡ index_of k = same_index l k e in
          rw (same, bit_at_set_same w32 present (index_of k) (below_32 k), get_or-set_same numbers (index_of k) x (pos 0) inside) refl
      | false ↦ λ e.
          let other : index_of l ≡ index_of k → ⊥ = other_index l k e in
          rw (
            bit_at_set_other w32 present (index_of k) (below_32 k) (index_of l) other,
            get_or-set_other numbers (index_of k) (index_of l) x (pos 0) other,
          ) refl
    ] refl

value_with : (l k : Letter) (x : ℤ) (ws : List Word) (present : ℕ) (numbers : List ℤ) →
    length numbers ≡ 20 → unpacked present numbers ≡ by_letter ws → takes_value l ≡ true →
    value_of (unpacked (bit_or present (1 * 2 ^ index_of k % 4294967296)) (slice_set numbers (index_of k) x)) l
    ≡ value_of (by_letter (record { letter = k; value = x } ∷ ws)) l
value_with l k x ws present numbers long before takes =
    let after : ℕ = bit_or present (1 * 2 ^ index_of k % 4294967296) in
    let values : List ℤ = slice_set numbers (index_of k) x in
    let was : unpacked_at present numbers l ≡ first (of_letter l ws) = sym (value_unpacked l present numbers takes)
    ∙ (ap (λ v. value_of v l) before ∙ value_by_letter l ws takes) in
    let now : unpacked_at after values l ≡ first (of_letter l (record { letter = k; value = x } ∷ ws)) =
    rw (unpacked_with l k x present numbers long, was) (sym (first_in_front (has_byte (byte_of l) k) x (of_letter l ws))) in
    value_unpacked l after values takes ∙ (now ∙ sym (value_by_letter l (record { letter = k; value = x } ∷ ws) takes))

-- values are the same if they are for each letter that takes one
same_values : (u v : ByLetterModel) → ((l : Letter) → takes_value l ≡ true → value_of u l ≡ value_of v l) → u ≡ v
same_values u v same =
    let same_a : u.a ≡ v.a = same A refl in
    let same_b : u.b ≡ v.b = same B refl in
    let same_c : u.c ≡ v.c = same C refl in
    let same_d : u.d ≡ v.d = same D refl in
    let same_f : u.f ≡ v.f = same F refl in
    let same_h : u.h ≡ v.h = same H refl in
    let same_i : u.i ≡ v.i = same I refl in
    let same_j : u.j ≡ v.j = same J refl in
    let same_k : u.k ≡ v.k = same K refl in
    let same_l : u.l ≡ v.l = same L refl in
    let same_p : u.p ≡ v.p = same P refl in
    let same_q : u.q ≡ v.q = same Q refl in
    let same_r : u.r ≡ v.r = same R refl in
    let same_s : u.s ≡ v.s = same S refl in
    let same_t : u.t ≡ v.t = same T refl in
    let same_x : u.x ≡ v.x = same X refl in
    let same_y : u.y ≡ v.y = same Y refl in
    let same_z : u.z ≡ v.z = same Z refl in
    let all : record {
      a = u.a;
      b = u.b;
      c = u.c;
      d = u.d;
      f = u.f;
      h = u.h;
      i = u.i;
      j = u.j;
      k = u.k;
      l = u.l;
      p =
          u.p;
      q = u.q;
      r = u.r;
      s = u.s;
      t = u.t;
      x = u.x;
      y = u.y;
      z = u.z;
    } ≡ v =
    rw (same_a, same_b, same_c, same_d, same_f, same_h, same_i, same_j, same_k, same_l, same_p, same_q, same_r, same_s, same_t, same_x, same_y, same_z) refl in
    all

pub unpacked_with_word : (k : Letter) (x : ℤ) (ws : List Word) (present : ℕ) (numbers : List ℤ) (index : ℕ) →
    index ≡ index_of k → length numbers ≡ 20 → unpacked present numbers ≡ by_letter ws →
    unpacked (bit_or present (1 * 2 ^ index % 4294967296)) (slice_set numbers index x)
    ≡ by_letter (record { letter = k; value = x } ∷ ws)
unpacked_with_word k x ws present numbers index is long before =
    let after : List Word = record { letter = k; value = x } ∷ ws in
    let P : ℕ → Type 0 = λ n. unpacked (bit_or present (1 * 2 ^ n % 4294967296)) (slice_set numbers n x) ≡ by_letter after in
    subst P (sym is) (same_values _ (by_letter after) (λ l takes. value_with l k x ws present numbers long before takes))
