-- There is a word of a group exactly if there is a word that asks for something in the group.
use Rattle.std.proofs.Common.{◌≡◌, ℕ, Bool, true, false, List, [], ◌∷◌, refl}
use Rattle.std.specs.Prelude.{◌==◌, if◌then◌else◌, Option}
use Rattle.std.specs.Option.{is_some, option_and_then}
use Rattle.ng_modal.specs.Groups.{group_of, m_group_of}
use Rattle.ng_modal.specs.Words.{first, with_group, of_group, of_m_group}
use Rattle.ng_modal.specs.ByGroup.{non_modal_of, plane_of, distance_of, feed_mode_of, unit_of, tool_length_of}
use Rattle.ng_modal.specs.ByGroup.{retract_of, system_of_word, path_of, stop_of, spindle_of, coolant_of}
use Rattle.ng_modal.specs.ByGroup.{overrides_of, g_words, m_words, has_word, has_m_word}
use Rattle.ng_modal.specs.declared.codes.GWord.{GWord}
use Rattle.ng_modal.specs.declared.codes.GWord.TheVariants as word
use Rattle.ng_modal.specs.declared.codes.MWord.{MWord}
use Rattle.ng_modal.specs.declared.codes.MWord.TheVariants as m_word

-- a word that isn't of the group is skipped
first_asks : {W X : Type 0} (group : W → ℕ) (asks : W → Option X) (n : ℕ) →
    ((w : W) → is_some (asks w) ≡ (n == group w)) →
    (ws : List W) → is_some (option_and_then asks (first (with_group group n ws))) ≡ is_some (first (with_group group n ws))
first_asks group asks n same [] = refl
first_asks {W} {X} group asks n same (w ∷ ws) =
    let Goal : Bool → Type 0 = λ t. is_some (asks w) ≡ t →
    is_some (option_and_then asks (first (if t then w ∷ with_group group n ws else with_group group n ws)))
    ≡ is_some (first (if t then w ∷ with_group group n ws else with_group group n ws)) in
    elim (n == group w) as Goal [
      | true ↦ λ e. e
      | false ↦ λ _. first_asks group asks n same ws
    ] (same w)

-- a word that asks for something in the group is of the group, and conversely
non_modal_asks : (w : GWord) → is_some (non_modal_of w) ≡ (0 == group_of w)
non_modal_asks (word.NonModal _) = refl
non_modal_asks _ = refl

plane_asks : (w : GWord) → is_some (plane_of w) ≡ (2 == group_of w)
plane_asks (word.Plane _) = refl
plane_asks _ = refl

distance_asks : (w : GWord) → is_some (distance_of w) ≡ (3 == group_of w)
distance_asks (word.Distance _) = refl
distance_asks _ = refl

feed_mode_asks : (w : GWord) → is_some (feed_mode_of w) ≡ (5 == group_of w)
feed_mode_asks (word.FeedMode _) = refl
feed_mode_asks _ = refl

unit_asks : (w : GWord) → is_some (unit_of w) ≡ (6 == group_of w)
unit_asks (word.Unit _) = refl
unit_asks _ = refl

tool_length_asks : (w : GWord) → is_some (tool_length_of w) ≡ (8 == group_of w)
tool_length_asks (word.ToolLength _) = refl
tool_length_asks _ = refl

retract_asks : (w : GWord) → is_some (retract_of w) ≡ (10 == group_of w)
retract_asks (word.Retract _) = refl
retract_asks _ = refl

system_asks : (w : GWord) → is_some (system_of_word w) ≡ (12 == group_of w)
system_asks (word.System _) = refl
system_asks _ = refl

path_asks : (w : GWord) → is_some (path_of w) ≡ (13 == group_of w)
path_asks (word.Path _) = refl
path_asks _ = refl

stop_asks : (w : MWord) → is_some (stop_of w) ≡ (4 == m_group_of w)
stop_asks (m_word.Stop _) = refl
stop_asks _ = refl

spindle_asks : (w : MWord) → is_some (spindle_of w) ≡ (7 == m_group_of w)
spindle_asks (m_word.Spindle _) = refl
spindle_asks _ = refl

coolant_asks : (w : MWord) → is_some (coolant_of w) ≡ (8 == m_group_of w)
coolant_asks (m_word.Coolant _) = refl
coolant_asks _ = refl

overrides_asks : (w : MWord) → is_some (overrides_of w) ≡ (9 == m_group_of w)
overrides_asks (m_word.Overrides _) = refl
overrides_asks _ = refl

pub has_word_is : (w : GWord) (ws : List GWord) → has_word w (g_words ws) ≡ is_some (first (of_group (group_of w) ws))
has_word_is (word.NonModal _) ws = first_asks group_of non_modal_of 0 non_modal_asks ws
has_word_is (word.Motion _) ws = refl
has_word_is word.LeftOutMotion ws = refl
has_word_is (word.Plane _) ws = first_asks group_of plane_of 2 plane_asks ws
has_word_is (word.Distance _) ws = first_asks group_of distance_of 3 distance_asks ws
has_word_is (word.FeedMode _) ws = first_asks group_of feed_mode_of 5 feed_mode_asks ws
has_word_is (word.Unit _) ws = first_asks group_of unit_of 6 unit_asks ws
has_word_is word.NoCompensation ws = refl
has_word_is word.LeftOutCompensation ws = refl
has_word_is (word.ToolLength _) ws = first_asks group_of tool_length_of 8 tool_length_asks ws
has_word_is (word.Retract _) ws = first_asks group_of retract_of 10 retract_asks ws
has_word_is (word.System _) ws = first_asks group_of system_of_word 12 system_asks ws
has_word_is (word.Path _) ws = first_asks group_of path_of 13 path_asks ws

pub has_m_word_is : (w : MWord) (ws : List MWord) → has_m_word w (m_words ws) ≡ is_some (first (of_m_group (m_group_of w) ws))
has_m_word_is (m_word.Stop _) ws = first_asks m_group_of stop_of 4 stop_asks ws
has_m_word_is m_word.ToolChange ws = refl
has_m_word_is (m_word.Spindle _) ws = first_asks m_group_of spindle_of 7 spindle_asks ws
has_m_word_is (m_word.Coolant _) ws = first_asks m_group_of coolant_of 8 coolant_asks ws
has_m_word_is (m_word.Overrides _) ws = first_asks m_group_of overrides_of 9 overrides_asks ws
