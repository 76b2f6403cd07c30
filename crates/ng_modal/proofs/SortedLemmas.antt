-- One more word in front of those added before.
use Rattle.std.proofs.Common.{◌≡◌, ℕ, ℤ, Bool, true, false, List, [], ◌∷◌, Some, None, refl, ap, ◌∙◌}
use Rattle.std.specs.Prelude.{◌||◌, ◌&&◌}
use Rattle.std.specs.Option.{is_some}
use Rattle.ng_words.specs.declared.letter.Letter.{Letter}
use Rattle.ng_words.specs.declared.letter.Letter.TheVariants.{A, B, C, D, G, M}
use Rattle.ng_expr.specs.declared.word.Word.{Word}
use Rattle.ng_modal.specs.Codes.{g_word, m_word}
use Rattle.ng_modal.specs.Words.{of_letter, g_word_on, m_word_on, g_words_of, m_words_of, has_byte, first}
use Rattle.ng_modal.specs.ByLetter.{by_letter, takes_value, has_left_out_letter}
use Rattle.ng_modal.specs.ByGroup.{g_words, m_words, has_word, has_m_word}
use Rattle.ng_modal.specs.WordCauses.{has_left_out, has_left_out_code, is_repeated, is_unknown_on, is_left_out_code, is_left_out_code_on, count_of_m}
use Rattle.ng_modal.specs.Sorted.{sorted}
use Rattle.ng_modal.specs.declared.codes.GWord.{GWord}
use Rattle.ng_modal.specs.declared.codes.MWord.{MWord}
use Rattle.ng_modal.specs.declared.by_letter.ByLetter.{ByLetter}
use Rattle.ng_modal.specs.declared.by_group.GWords.{GWords}
use Rattle.ng_modal.specs.declared.by_group.MWords.{MWords}
use Rattle.ng_modal.specs.declared.sorted.Sorted.{Sorted}
use Rattle.ng_modal.proofs.GroupLemmas.{has_word_is, has_m_word_is}
use Rattle.ng_modal.proofs.TwiceLemmas.{repeated_with, group_twice_with, m_group_twice_with}

-- a G word that is a code
pub sorted_with_g : (v : ℤ) (ws : List Word) (old : Sorted) (word : GWord) (g : GWords) (was left_out : Bool) →
    old ≡ sorted ws →
    g_word v ≡ Some word →
    g ≡ g_words (word ∷ g_words_of ws) →
    was ≡ has_word word old.block.g →
    left_out ≡ is_left_out_code (Some word) →
    record old { block = record old.block { g = g }; group_twice = old.group_twice || was; left_out = left_out || old.left_out }
    ≡ sorted (record { letter = G; value = v } ∷ ws)
sorted_with_g v ws old word g was left_out before is taken was_is left_out_is =
    rw (
      was_is,
      before,
      has_word_is word (g_words_of ws),
      ← group_twice_with word (g_words_of ws),
      taken,
      left_out_is,
      is,
    )
    refl

-- a G word that isn't a code
pub sorted_with_unknown_g : (v : ℤ) (ws : List Word) (old : Sorted) →
    old ≡ sorted ws →
    g_word v ≡ None →
    record old { unknown = true } ≡ sorted (record { letter = G; value = v } ∷ ws)
sorted_with_unknown_g v ws old before is = rw (before, is) refl

-- an M word that is a code
pub sorted_with_m : (v : ℤ) (ws : List Word) (old : Sorted) (word : MWord) (m : MWords) (was : Bool) (count : ℕ) →
    old ≡ sorted ws →
    m_word v ≡ Some word →
    m ≡ m_words (word ∷ m_words_of ws) →
    was ≡ has_m_word word old.block.m →
    count ≡ count_of_m (record { letter = M; value = v } ∷ ws) →
    record old { block = record old.block { m = m }; m_group_twice = old.m_group_twice || was; m_count = count }
    ≡ sorted (record { letter = M; value = v } ∷ ws)
sorted_with_m v ws old word m was count before is taken was_is counted =
    rw (
      was_is,
      before,
      has_m_word_is word (m_words_of ws),
      ← m_group_twice_with word (m_words_of ws),
      taken,
      counted,
      is,
    )
    refl

pub sorted_with_unknown_m : (v : ℤ) (ws : List Word) (old : Sorted) (count : ℕ) →
    old ≡ sorted ws →
    m_word v ≡ None →
    count ≡ count_of_m (record { letter = M; value = v } ∷ ws) →
    record old { unknown = true; m_count = count } ≡ sorted (record { letter = M; value = v } ∷ ws)
sorted_with_unknown_m v ws old count before is counted = rw (before, counted, is) refl

-- a word with another letter isn't a code
no_g_code : (l : Letter) (v : ℤ) → takes_value l ≡ true → g_word_on l v ≡ None
no_g_code G v e = absurd (cc e)
no_g_code _ v e = refl

no_m_code : (l : Letter) (v : ℤ) → takes_value l ≡ true → m_word_on l v ≡ None
no_m_code M v e = absurd (cc e)
no_m_code _ v e = refl

is_known : (l : Letter) (v : ℤ) → takes_value l ≡ true → is_unknown_on l v ≡ false
is_known G v e = absurd (cc e)
is_known M v e = absurd (cc e)
is_known _ v e = refl

is_no_m : (l : Letter) → takes_value l ≡ true → has_byte 77 l ≡ false
is_no_m M e = absurd (cc e)
is_no_m _ e = refl

is_no_left_out_code : (l : Letter) (v : ℤ) → takes_value l ≡ true → is_left_out_code_on l v ≡ false
is_no_left_out_code G v e = absurd (cc e)
is_no_left_out_code _ v e = refl

repeated_with_value : (l : Letter) (v : ℤ) (ws : List Word) → takes_value l ≡ true →
    is_repeated (record { letter = l; value = v } ∷ ws) ≡ (is_repeated ws || is_some (first (of_letter l ws)))
repeated_with_value l v ws takes =
    repeated_with l v ws ∙ ap (λ t. is_repeated ws || (t && is_some (first (of_letter l ws)))) takes

pub sorted_with_value : (l : Letter) (v : ℤ) (ws : List Word) (old : Sorted) (values : ByLetter) (was : Bool) →
    takes_value l ≡ true →
    old ≡ sorted ws →
    values ≡ by_letter (record { letter = l; value = v } ∷ ws) →
    was ≡ is_some (first (of_letter l ws)) →
    record old { block = record old.block { values = values }; repeated = old.repeated || was }
    ≡ sorted (record { letter = l; value = v } ∷ ws)
sorted_with_value l v ws old values was takes before taken was_is =
    rw (
      was_is,
      before,
      ← repeated_with_value l v ws takes,
      taken,
      is_no_left_out_code l v takes,
      no_g_code l v takes,
      no_m_code l v takes,
      is_known l v takes,
      is_no_m l takes,
    )
    refl

-- a word is left out by its code or by its letter
or_first : (code rest : Bool) → true ≡ (code || (true || rest))
or_first true rest = refl
or_first false rest = refl

or_second : (code a rest : Bool) → true ≡ (code || (a || (true || rest)))
or_second code true rest = or_first code true
or_second code false rest = or_first code rest

or_third : (code a b rest : Bool) → true ≡ (code || (a || (b || (true || rest))))
or_third code true b rest = or_first code true
or_third code false b rest = or_second code b rest

or_fourth : (code a b c : Bool) → true ≡ (code || (a || (b || (c || true))))
or_fourth code true b c = or_first code true
or_fourth code false true c = or_first code true
or_fourth code false false true = or_first code true
or_fourth code false false false = or_first code true

or_after : (here code letters : Bool) → (here || (code || letters)) ≡ ((here || code) || letters)
or_after true code letters = refl
or_after false code letters = refl

abbrev has_letter : Letter → List Word → Bool
has_letter l ws = is_some (first (of_letter l ws))

left_out_with : (l : Letter) (v : ℤ) (ws : List Word) → has_left_out ws ≡ (has_left_out_code ws || has_left_out_letter (by_letter ws)) →
    has_left_out (record { letter = l; value = v } ∷ ws)
    ≡ (has_left_out_code (record { letter = l; value = v } ∷ ws) || has_left_out_letter (by_letter (record { letter = l; value = v } ∷ ws)))
left_out_with A v ws e = or_first (has_left_out_code ws) (has_letter B ws || (has_letter C ws || has_letter D ws))
left_out_with B v ws e = or_second (has_left_out_code ws) (has_letter A ws) (has_letter C ws || has_letter D ws)
left_out_with C v ws e = or_third (has_left_out_code ws) (has_letter A ws) (has_letter B ws) (has_letter D ws)
left_out_with D v ws e = or_fourth (has_left_out_code ws) (has_letter A ws) (has_letter B ws) (has_letter C ws)
left_out_with G v ws e = rw e (or_after (is_left_out_code (g_word v)) (has_left_out_code ws) (has_left_out_letter (by_letter ws)))
left_out_with _ v ws e = e

pub left_out_by : (ws : List Word) → has_left_out ws ≡ (has_left_out_code ws || has_left_out_letter (by_letter ws))
left_out_by [] = refl
left_out_by (w ∷ ws) = left_out_with w.letter w.value ws (left_out_by ws)
