-- The causes of B1 to B5: what a line may not have in any modes (NISTIR 6556, 3.3.5 and 3.4; numbers own).
use Rattle.std.specs.Prelude.{ℕ, ℤ, Bool, true, false, ◌||◌, List, length, min, nat_lt, Option, Some}
use Rattle.std.specs.Option.{is_none}
use Rattle.std.specs.List.{list_any}
use Rattle.ng_words.specs.declared.letter.Letter.{Letter}
use Rattle.ng_words.specs.declared.letter.Letter.TheVariants.{A, B, C, D, G, M}
use Rattle.ng_expr.specs.declared.word.Word.{Word}
use Rattle.ng_modal.specs.Codes.{g_word, m_word}
use Rattle.ng_modal.specs.Groups.{groups, m_groups}
use Rattle.ng_modal.specs.Words.{value_letters, of_letter, g_words_of, m_words_of, of_group, of_m_group, is_twice}
use Rattle.ng_modal.specs.declared.codes.GWord.{GWord}
use Rattle.ng_modal.specs.declared.codes.GWord.TheVariants.{LeftOutMotion, LeftOutCompensation}
use Rattle.ng_modal.specs.declared.codes.MWord.{MWord}

-- B1: two words with one letter other than G and M
abbrev pub is_repeated : List Word → Bool
is_repeated ws = list_any (λ letter. is_twice (of_letter letter ws)) value_letters

-- B2: a G or M word that isn't a code
abbrev pub is_unknown_on : Letter → ℤ → Bool
is_unknown_on G value = is_none (g_word value)
is_unknown_on M value = is_none (m_word value)
is_unknown_on _ value = false

abbrev pub has_unknown : List Word → Bool
has_unknown ws = list_any (λ w. is_unknown_on w.letter w.value) ws

-- probing, cutter radius compensation, tapping, back boring and boring with manual retraction are left out
abbrev pub is_left_out_code : Option GWord → Bool
is_left_out_code (Some LeftOutMotion) = true
is_left_out_code (Some LeftOutCompensation) = true
is_left_out_code _ = false

-- and words of rotary axes, and of the number of a cutter's radius
abbrev pub is_left_out_letter : Letter → Bool
is_left_out_letter A = true
is_left_out_letter B = true
is_left_out_letter C = true
is_left_out_letter D = true
is_left_out_letter _ = false

abbrev pub is_left_out_on : Letter → ℤ → Bool
is_left_out_on G value = is_left_out_code (g_word value)
is_left_out_on letter value = is_left_out_letter letter

-- B3: a word that is left out, by its letter or by its code
abbrev pub has_left_out : List Word → Bool
has_left_out ws = list_any (λ w. is_left_out_on w.letter w.value) ws

-- the part of it that is a code
abbrev pub is_left_out_code_on : Letter → ℤ → Bool
is_left_out_code_on G value = is_left_out_code (g_word value)
is_left_out_code_on _ value = false

abbrev pub has_left_out_code : List Word → Bool
has_left_out_code ws = list_any (λ w. is_left_out_code_on w.letter w.value) ws

-- two words of one group
abbrev pub is_group_twice : List GWord → Bool
is_group_twice words = list_any (λ group. is_twice (of_group group words)) groups

abbrev pub is_m_group_twice : List MWord → Bool
is_m_group_twice words = list_any (λ group. is_twice (of_m_group group words)) m_groups

-- B4: two words of one G group or of one M group
abbrev pub has_group_twice : List Word → Bool
has_group_twice ws = is_group_twice (g_words_of ws) || is_m_group_twice (m_words_of ws)

-- B5: more than four M words
abbrev pub has_many_m : List Word → Bool
has_many_m ws = nat_lt 4 (length (of_letter M ws))

-- the number of M words; it stops at 5
abbrev pub count_of_m : List Word → ℕ
count_of_m ws = min 5 (length (of_letter M ws))
