-- What is put at a position in a sequence of bytes, and what is before and after it.
use Rattle.std.proofs.Common.{◌≡◌, ℕ, ◌+◌, ◌-◌, ◌^◌, ◌<◌, ◌≤◌, List, ◌++◌, length, take, drop, refl, sym, ◌∙◌, ap}
use Rattle.std.proofs.Common.{arith, append_assoc, length-append, length-take, length-drop, take-append-drop}
use Rattle.std.proofs.lemmas.List.{take-take, drop_at, drop-drop, drop-append-le, drop-take, length-take-le, take_at}
use borrow.Rule.Slice.PartMut.{put_mid, mid_of, post_of, take_put, drop_put}
use Rattle.byteorder.specs.Endian.{little_number, little_bytes}
use Rattle.byteorder.specs.Numbers.{little_number-reads_back, length-bytes_low_first, little_from-take}
use Rattle.std.specs.Int.{w64, cast_signed}
use Rattle.ng_layout.specs.Fields.{number_at, signed_at, bytes_at, SameBelow, SameFrom, Puts}

-- a number written to a part of a sequence that begins at a position
module _ (w at x size : ℕ) (xs ys : List ℕ) (sized : length xs ≡ size) (inside : at + w ≤ size)
    (is : ys ≡ little_bytes w x ++ drop w (mid_of at (size - at) xs)) where
  front : length (take at xs) ≡ at
  front = length-take-le at xs (omega (arith, inside, sized))

  put-number : x < 256 ^ w → number_at w at (put_mid at (size - at) xs ys) ≡ x
  unfolding number_at
  put-number fits =
      ap (little_number w) (drop_at (take at xs) (ys ++ post_of at (size - at) xs) at front
      ∙ ap (λ (l : List ℕ). l ++ post_of at (size - at) xs) is
      ∙ append_assoc (little_bytes w x) (drop w (mid_of at (size - at) xs)) (post_of at (size - at) xs))
      ∙ little_number-reads_back w x (drop w (mid_of at (size - at) xs) ++ post_of at (size - at) xs) fits

  put-beyond : drop (at + w) (put_mid at (size - at) xs ys) ≡ drop (at + w) xs
  put-beyond =
      let k = size - at in
      let mid = mid_of at k xs in
      let post = post_of at k xs in
      let long : w ≤ length mid = simp (length-take, length-drop) (omega (arith, inside, sized)) in
      let all : length (little_bytes w x) ≡ w = length-bytes_low_first 0 w x in
      let tail : drop w ys ≡ drop w mid = ap (λ (l : List ℕ). drop w l) is ∙ drop_at (little_bytes w x) (drop w mid) w all in
      let enough : w ≤ length ys = omega (arith, ap length is, length-append (little_bytes w x) (drop w mid), all) in
      sym (drop-drop w at (put_mid at k xs ys))
      ∙ ap (λ (l : List ℕ). drop w l) (drop_at (take at xs) (ys ++ post) at front)
      ∙ drop-append-le w ys post enough
      ∙ ap (λ (l : List ℕ). l ++ post) tail
      ∙ sym (drop-append-le w mid post long)
      ∙ ap (λ (l : List ℕ). drop w l) (take-append-drop k (drop at xs))
      ∙ drop-drop w at xs

  pub put : x < 256 ^ w → Puts (number_at w at) at (at + w) x xs (put_mid at (size - at) xs ys)
  put fits = record {
    written = put-number fits;
    below = record { same = take_put at (size - at) xs ys (omega (arith, inside, sized)) };
    beyond = record { same = put-beyond };
  }

-- only what is before the position matters
pub number-below : (w o at : ℕ) (old new : List ℕ) → SameBelow at old new → o + w ≤ at → number_at w o new ≡ number_at w o old
unfolding number_at
number-below w o at old new s le =
    let cut : (l : List ℕ) → little_number w (drop o l) ≡ little_number w (drop o (take at l)) = λ l.
    let m = at - o in
    let sum : o + m ≡ at = omega arith in
    sym (little_from-take 0 w m (drop o l) (omega arith)) ∙ ap (little_number w) (sym (drop-take o m l) ∙ ap (λ (n : ℕ). drop o (take n l)) sum) in
    cut new ∙ ap (λ (l : List ℕ). little_number w (drop o l)) s.same ∙ sym (cut old)

pub signed-below : (o at : ℕ) (old new : List ℕ) → SameBelow at old new → o + 8 ≤ at → signed_at o new ≡ signed_at o old
unfolding signed_at
signed-below o at old new s le = ap (cast_signed w64) (number-below 8 o at old new s le)

-- one write and then others further on
pub below-more : (a b : ℕ) (old mid new : List ℕ) → SameBelow a old mid → SameBelow b mid new → a ≤ b → SameBelow a old new
below-more a b old mid new s t le = record { same = cut new ∙ ap (λ (l : List ℕ). take a l) t.same ∙ sym (cut mid) ∙ s.same }
  where
    cut : (l : List ℕ) → take a l ≡ take a (take b l)
    cut l = sym (take-take a b l le)

pub below-none : (a : ℕ) (l : List ℕ) → SameBelow a l l
below-none a l = record { same = refl }

-- what is after it stays
pub from-further : (m n : ℕ) (old new : List ℕ) → SameFrom m old new → m ≤ n → SameFrom n old new
from-further m n old new s le =
    let k = n - m in
    let sum : m + k ≡ n = omega arith in
    let cut : (l : List ℕ) → drop n l ≡ drop k (drop m l) = λ l. ap (λ (x : ℕ). drop x l) (sym sum) ∙ sym (drop-drop k m l) in
    record { same = cut new ∙ ap (λ (l : List ℕ). drop k l) s.same ∙ sym (cut old) }

pub from-more : (a b : ℕ) (old mid new : List ℕ) → SameFrom a old mid → SameFrom b mid new → a ≤ b → SameFrom b old new
from-more a b old mid new s t le = record { same = t.same ∙ (from-further a b old mid s le).same }

pub number-from : (w m o : ℕ) (old new : List ℕ) → SameFrom m old new → m ≤ o → number_at w o new ≡ number_at w o old
unfolding number_at
number-from w m o old new s le = ap (little_number w) (from-further m o old new s le).same

pub signed-from : (m o : ℕ) (old new : List ℕ) → SameFrom m old new → m ≤ o → signed_at o new ≡ signed_at o old
unfolding signed_at
signed-from m o old new s le = ap (cast_signed w64) (number-from 8 m o old new s le)

pub bytes-from : (n m o : ℕ) (old new : List ℕ) → SameFrom m old new → m ≤ o → bytes_at n o new ≡ bytes_at n o old
unfolding bytes_at
bytes-from n m o old new s le = ap (λ (l : List ℕ). take n l) (from-further m o old new s le).same

pub bytes-below : (n o at : ℕ) (old new : List ℕ) → SameBelow at old new → o + n ≤ at → bytes_at n o new ≡ bytes_at n o old
unfolding bytes_at
bytes-below n o at old new s le =
    let m = at - o in
    let sum : o + m ≡ at = omega arith in
    let cut : (l : List ℕ) → take n (drop o l) ≡ take n (drop o (take at l)) = λ l.
    sym (take-take n m (drop o l) (omega arith))
    ∙ ap (λ (x : List ℕ). take n x) (sym (drop-take o m l) ∙ ap (λ (k : ℕ). drop o (take k l)) sum) in
    cut new ∙ ap (λ (l : List ℕ). take n (drop o l)) s.same ∙ sym (cut old)

-- the same for what is from a position on
pub from-drop : (o at : ℕ) (old new : List ℕ) → SameFrom at (drop o old) (drop o new) → SameFrom (o + at) old new
from-drop o at old new s =
    let cut : (l : List ℕ) → drop (o + at) l ≡ drop at (drop o l) = λ l. sym (drop-drop at o l) in
    record { same = cut new ∙ s.same ∙ sym (cut old) }

-- bytes copied to a part of a sequence
pub put-bytes : (n at : ℕ) (xs ys : List ℕ) → at + n ≤ length xs → length ys ≡ n → Puts (bytes_at n at) at (at + n) ys xs (put_mid at (at + n - at) xs ys)
unfolding bytes_at
put-bytes n at xs ys inside long =
    let front : length (take at xs) ≡ at = length-take-le at xs (omega arith) in
    record {
      written = ap (λ (l : List ℕ). take n l) (drop_at (take at xs) (ys ++ post_of at (at + n - at) xs) at front)
          ∙ take_at ys (post_of at (at + n - at) xs) n long;
      below = record { same = take_put at (at + n - at) xs ys (omega arith) };
      beyond = record { same = drop_put at (at + n) xs ys (omega arith) inside (omega arith) };
    }
