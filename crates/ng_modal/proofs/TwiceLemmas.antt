-- One more word: then there are two of a kind if there were two before, or if there was one of the word's kind.
use Rattle.std.proofs.Common.{◌≡◌, ℕ, ℤ, Bool, true, false, List, [], ◌∷◌, refl, ap, ◌∙◌, subst}
use Rattle.std.specs.Prelude.{◌||◌, ◌&&◌, ◌==◌, if◌then◌else◌}
use Rattle.std.specs.Option.{is_some}
use Rattle.std.specs.List.{list_any}
use Rattle.std.proofs.lemmas.Bool.Decides.{Decides-eqb}
use Rattle.ng_words.specs.declared.letter.Letter.{Letter}
use Rattle.ng_words.specs.declared.letter.Letter.TheVariants.{G}
use Rattle.ng_expr.specs.declared.word.Word.{Word}
use Rattle.ng_modal.specs.Groups.{groups, m_groups, group_of, m_group_of}
use Rattle.ng_modal.specs.Words.{byte_of, value_letters, of_byte, of_letter, of_group, of_m_group, first, is_twice}
use Rattle.ng_modal.specs.ByLetter.{takes_value}
use Rattle.ng_modal.specs.WordCauses.{is_repeated, is_group_twice, is_m_group_twice}
use Rattle.ng_modal.specs.declared.codes.GWord.{GWord}
use Rattle.ng_modal.specs.declared.codes.GWord.TheVariants.{Motion}
use Rattle.ng_modal.specs.declared.codes.MWord.{MWord}
use Rattle.ng_modal.specs.declared.codes.MWord.TheVariants.{Stop}

-- the key in question is that of the word
same_key : {X : Type 0} (x : X) (xs : List X) (others here : Bool)
    → (is_twice (x ∷ xs) || (others || (here && is_some (first xs))))
    ≡ ((is_twice xs || others) || ((true || here) && is_some (first xs)))
same_key x [] true here = refl
same_key x [] false true = refl
same_key x [] false false = refl
same_key x (y ∷ []) true here = refl
same_key x (y ∷ []) false here = refl
same_key x (y ∷ (z ∷ zs)) others here = refl

-- it is another key
other_key : (twice others here was : Bool) → (twice || (others || (here && was))) ≡ ((twice || others) || ((false || here) && was))
other_key true others here was = refl
other_key false true here was = refl
other_key false false here was = refl

-- lists under keys, one of which grew at its front: a key's list has two elements if one had before, or if the list
-- that grew is that of the key and wasn't empty
one_more : {K X : Type 0} (key : K → ℕ) (under : ℕ → List X) (n : ℕ) (x : X) (ks : List K) →
    list_any (λ k. is_twice (if key k == n then x ∷ under (key k) else under (key k))) ks
    ≡ (list_any (λ k. is_twice (under (key k))) ks || (list_any (λ k. key k == n) ks && is_some (first (under n))))
one_more key under n x [] = refl
one_more {K} {X} key under n x (k ∷ ks) =
    let before : Bool = list_any (λ q. is_twice (under (key q))) ks in
    let here : Bool = list_any (λ q. key q == n) ks in
    let rest : list_any (λ q. is_twice (if key q == n then x ∷ under (key q) else under (key q)))
    ks ≡ (before || (here && is_some (first (under n)))) = one_more key under n x ks in
    let Goal : Bool → Type 0 = λ t. (key k == n) ≡ t →
    (is_twice (if t then x ∷ under (key k) else under (key k)) || (before || (here && is_some (first (under n)))))
    ≡ ((is_twice (under (key k)) || before) || ((t || here) && is_some (first (under n)))) in
    ap (λ b. is_twice (if key k == n then x ∷ under (key k) else under (key k)) || b) rest ∙
    (elim (key k == n) as Goal [
      | true ↦ λ e.
          let At : ℕ → Type 0 = λ m.
          (is_twice (x ∷ under (key k)) || (before || (here && is_some (first (under m)))))
          ≡ ((is_twice (under (key k)) || before) || ((true || here) && is_some (first (under m)))) in
          subst At ((Decides-eqb (key k) n).0 e) (same_key x (under (key k)) before here)
      | false ↦ λ _. other_key (is_twice (under (key k))) before here (is_some (first (under n)))
    ] refl)

-- a word's letter is among the value letters if it takes a value
is_value_letter : (l : Letter) → list_any (λ k. byte_of k == byte_of l) value_letters ≡ takes_value l
is_value_letter G = refl
is_value_letter _ = refl

pub repeated_with : (l : Letter) (v : ℤ) (ws : List Word)
    → is_repeated (record { letter = l; value = v } ∷ ws)
    ≡ (is_repeated ws || (takes_value l && is_some (first (of_letter l ws))))
repeated_with l v ws =
    one_more byte_of (λ n. of_byte n ws) (byte_of l) v value_letters ∙
    ap (λ b. is_repeated ws || (b && is_some (first (of_letter l ws)))) (is_value_letter l)

is_a_group : (w : GWord) → list_any (λ k. k == group_of w) groups ≡ true
is_a_group (Motion _) = refl
is_a_group _ = refl

is_an_m_group : (w : MWord) → list_any (λ k. k == m_group_of w) m_groups ≡ true
is_an_m_group (Stop _) = refl
is_an_m_group _ = refl

-- there are two words of a group now if there were two before, or if there was one of the word's group
pub group_twice_with : (w : GWord) (ws : List GWord) → is_group_twice (w ∷ ws) ≡ (is_group_twice ws || is_some (first (of_group (group_of w) ws)))
group_twice_with w ws =
    one_more (λ n. n) (λ n. of_group n ws) (group_of w) w groups ∙
    ap (λ b. is_group_twice ws || (b && is_some (first (of_group (group_of w) ws)))) (is_a_group w)

pub m_group_twice_with : (w : MWord) (ws : List MWord) → is_m_group_twice (w ∷ ws) ≡ (is_m_group_twice ws || is_some (first (of_m_group (m_group_of w) ws)))
m_group_twice_with w ws =
    one_more (λ n. n) (λ n. of_m_group n ws) (m_group_of w) w m_groups ∙
    ap (λ b. is_m_group_twice ws || (b && is_some (first (of_m_group (m_group_of w) ws)))) (is_an_m_group w)
