-- A straight move that asks for nothing that may be refused is valid.
use Rattle.std.proofs.Common.{◌≡◌, ◌≤◌, arith, ℕ, ℤ, Bool, true, false, List, Option, Some, None, refl, length}
use Rattle.std.specs.Prelude.{not, ◌||◌, ◌&&◌, nat_lt, min, unwrap_or}
use Rattle.std.specs.Option.{is_some, option_and_then}
use Rattle.std.proofs.lemmas.Bool.{ltb-false, le-ltb}
use Rattle.ng_words.specs.declared.letter.Letter.TheVariants.{M}
use Rattle.ng_expr.specs.declared.word.Word.{Word}
use Rattle.ng_modal.specs.Words.{of_letter}
use Rattle.ng_modal.specs.ByLetter.{has_axis}
use Rattle.ng_modal.specs.Block.{takes_axes, movement_of_word, motion_by, motion_after}
use Rattle.ng_modal.specs.Movement.{movement_of, is_straight, is_cycle}
use Rattle.ng_modal.specs.BlockOfWords.{block_of}
use Rattle.ng_modal.specs.WordCauses.{is_repeated, has_unknown, has_left_out, has_group_twice, has_many_m}
use Rattle.ng_modal.specs.Causes.{is_off, is_negative, takes_axes_twice, leaves_axis_unused, moves_no_axis}
use Rattle.ng_modal.specs.Causes.{sets_nothing, has_bad_g53, has_radius_arc, leaves_word_unused, has_negative}
use Rattle.ng_modal.specs.Causes.{has_bad_slot, has_bad_l, has_bad_system, has_no_dwell, has_no_h, has_cycle_plane}
use Rattle.ng_num.specs.Causes.{first_fault, NoneHolds}
use Rattle.ng_num.proofs.FirstFaultLemmas.{none_first}
use Rattle.ng_modal.specs.Checking.{faults, faults_of}
use Rattle.ng_modal.specs.Sorted.{sorted_in, is_marked, has_others, is_plain}
use Rattle.ng_modal.specs.declared.block.Block.{Block}
use Rattle.ng_state.specs.declared.modes.Modes.{Modes}
use Rattle.ng_state.specs.declared.modes.Motion.{Motion}
use Rattle.ng_state.specs.declared.modes.Motion.TheVariants.{Off}
use Rattle.ng_modal.specs.declared.movement.Movement.{Movement}
use Rattle.ng_modal.specs.declared.movement.Movement.TheVariants.{Straight}
use Rattle.ng_modal.specs.declared.sorted.Sorted.{Sorted}
use Rattle.ng_modal.proofs.TestLemmas.{and_left, and_right, or_left, or_right, not_true, and_false, nothing_there}

-- if a line makes a straight move, the mode after it is that of a straight move
straight_after : (word : Option Motion) (calls : Bool) (mode : Motion) → is_straight (option_and_then movement_of (motion_by word calls mode)) ≡ true
    → is_off (unwrap_or word mode) ≡ false
straight_after (Some Off) calls mode e = absurd (cc e)
straight_after (Some _) calls mode e = refl
straight_after None true Off e = absurd (cc e)
straight_after None true _ e = refl
straight_after None false mode e = absurd (cc e)

straight_no_cycle : (movement : Option Movement) → is_straight movement ≡ true → is_cycle movement ≡ false
straight_no_cycle None e = refl
straight_no_cycle (Some (Straight kind)) e = refl
straight_no_cycle (Some _) e = absurd (cc e)

few : (n : ℕ) → nat_lt 4 (min 5 n) ≡ false → nat_lt 4 n ≡ false
few n e =
    let at_most : min 5 n ≤ 4 = ltb-false 4 (min 5 n) e in
    le-ltb 4 n (grind arith)

-- none of the causes of a block holds
valid_block : (ws : List Word) (b : Block) (m : Modes) (slots : ℕ) →
    is_repeated ws ≡ false → has_unknown ws ≡ false → has_left_out ws ≡ false → has_group_twice ws ≡ false → has_many_m ws ≡ false →
    b.values.h ≡ None → b.values.i ≡ None → b.values.j ≡ None → b.values.k ≡ None → b.values.l ≡ None → b.values.p ≡ None →
    b.values.q ≡ None → b.values.r ≡ None → b.values.s ≡ None → b.values.t ≡ None →
    b.g.non_modal ≡ None → b.g.tool_length ≡ None →
    is_negative b.values.f ≡ false → has_axis b.values ≡ true → is_off (motion_after b m) ≡ false → is_cycle b.movement ≡ false →
    NoneHolds (faults_of ws b m slots)
valid_block ws b m slots c1 c2 c3 c4 c5 h i j k l p q r s t non_modal tool_length feed axis on cycle =
    let c6 : takes_axes_twice b ≡ false = rw non_modal (and_false (is_some (movement_of_word b))) in
    let c7 : leaves_axis_unused b m ≡ false = rw (axis, on) refl in
    let c8 : moves_no_axis b ≡ false = rw axis (and_false (is_straight (movement_of_word b))) in
    let c9 : sets_nothing b ≡ false = rw non_modal refl in
    let c10 : has_bad_g53 b m ≡ false = rw non_modal refl in
    let c11 : has_radius_arc b ≡ false = rw r refl in
    let c12 : leaves_word_unused b m ≡ false = rw (h, i, j, k, l, p, q, r) refl in
    let c13 : has_negative b ≡ false = rw (feed, s, non_modal) refl in
    let c14 : has_bad_slot b slots ≡ false = rw (t, h) refl in
    let c15 : has_bad_l b ≡ false = rw (non_modal, cycle) refl in
    let c16 : has_bad_system b ≡ false = rw non_modal refl in
    let c17 : has_no_dwell b ≡ false = rw non_modal refl in
    let c18 : has_no_h b ≡ false = rw tool_length refl in
    let c19 : has_cycle_plane b m ≡ false = rw cycle refl in
    (c1, (c2, (c3, (c4, (c5, (c6, (c7, (c8, (c9, (c10, (c11, (c12, (c13, (c14, (c15, (c16, (c17, (c18, (c19, tt)))))))))))))))))))

-- the test of six marks, or of ten words, says this about each
marks : (s : Sorted) → is_marked s ≡ false →
    (s.repeated ≡ false) × (s.unknown ≡ false) × (s.left_out ≡ false) × (s.group_twice ≡ false) × (s.m_group_twice ≡ false) × (nat_lt 4 s.m_count ≡ false)
marks s e =
    let e5 = or_left (s.repeated || s.unknown || s.left_out || s.group_twice || s.m_group_twice) (nat_lt 4 s.m_count) e in
    let e4 = or_left (s.repeated || s.unknown || s.left_out || s.group_twice) s.m_group_twice e5 in
    let e3 = or_left (s.repeated || s.unknown || s.left_out) s.group_twice e4 in
    let e2 = or_left (s.repeated || s.unknown) s.left_out e3 in (
      or_left s.repeated s.unknown e2,
      or_right s.repeated s.unknown e2,
      or_right (s.repeated || s.unknown) s.left_out e3,
      or_right (s.repeated || s.unknown || s.left_out) s.group_twice e4,
      or_right (s.repeated || s.unknown || s.left_out || s.group_twice) s.m_group_twice e5,
      or_right (s.repeated || s.unknown || s.left_out || s.group_twice || s.m_group_twice) (nat_lt 4 s.m_count) e,
    )

-- each of two lists of words without one
none_of_five : (a b c d e : Option ℤ) → (is_some a || is_some b || is_some c || is_some d || is_some e) ≡ false →
    (a ≡ None) × (b ≡ None) × (c ≡ None) × (d ≡ None) × (e ≡ None)
none_of_five None None None None None h = (refl, refl, refl, refl, refl)
none_of_five (Some _) b c d e h = absurd (cc h)
none_of_five None (Some _) c d e h = absurd (cc h)
none_of_five None None (Some _) d e h = absurd (cc h)
none_of_five None None None (Some _) e h = absurd (cc h)
none_of_five None None None None (Some _) h = absurd (cc h)

none_of_ten : (a b c d e f g h i j : Option ℤ) →
    (is_some a || is_some b || is_some c || is_some d || is_some e || is_some f || is_some g || is_some h || is_some i || is_some j) ≡ false →
    ((a ≡ None) × (b ≡ None) × (c ≡ None) × (d ≡ None) × (e ≡ None)) × ((f ≡ None) × (g ≡ None) × (h ≡ None) × (i ≡ None) × (j ≡ None))
none_of_ten None None None None None f g h i j w = ((refl, refl, refl, refl, refl), none_of_five f g h i j w)
none_of_ten (Some _) b c d e f g h i j w = absurd (cc w)
none_of_ten None (Some _) c d e f g h i j w = absurd (cc w)
none_of_ten None None (Some _) d e f g h i j w = absurd (cc w)
none_of_ten None None None (Some _) e f g h i j w = absurd (cc w)
none_of_ten None None None None (Some _) f g h i j w = absurd (cc w)

pub plain_is_valid : (ws : List Word) (m : Modes) (slots : ℕ) → is_plain (sorted_in ws m) ≡ true → first_fault (faults ws m slots) ≡ None
plain_is_valid ws m slots plain =
    let s : Sorted = sorted_in ws m in
    let b : Block = block_of ws m in
    let takers : Bool = is_some b.g.non_modal || is_some b.g.tool_length in
    let refused : Bool = is_marked s || has_others b.values || takers in
    let fed : Bool = not (is_negative b.values.f) && not refused in
    let moves : Bool = has_axis b.values && fed in
    let straight : is_straight b.movement ≡ true = and_left (is_straight b.movement) moves plain in
    let has_moves : moves ≡ true = and_right (is_straight b.movement) moves plain in
    let axis : has_axis b.values ≡ true = and_left (has_axis b.values) fed has_moves in
    let is_fed : fed ≡ true = and_right (has_axis b.values) fed has_moves in
    let feed : is_negative b.values.f ≡ false = not_true (is_negative b.values.f) (and_left (not (is_negative b.values.f)) (not refused) is_fed) in
    let accepted : refused ≡ false = not_true refused (and_right (not (is_negative b.values.f)) (not refused) is_fed) in
    let quiet : (is_marked s || has_others b.values) ≡ false = or_left (is_marked s || has_others b.values) takers accepted in
    let untaken : takers ≡ false = or_right (is_marked s || has_others b.values) takers accepted in
    let marked = marks s (or_left (is_marked s) (has_others b.values) quiet) in
    let v = b.values in
    let words = none_of_ten v.h v.i v.j v.k v.l v.p v.q v.r v.s v.t (or_right (is_marked s) (has_others b.values) quiet) in
    let twice : has_group_twice ws ≡ false = rw (marked.3, marked.4) refl in
    let non_modal : b.g.non_modal ≡ None = nothing_there b.g.non_modal (or_left (is_some b.g.non_modal) (is_some b.g.tool_length) untaken) in
    let tool_length : b.g.tool_length ≡ None = nothing_there b.g.tool_length (or_right (is_some b.g.non_modal) (is_some b.g.tool_length) untaken) in
    none_first (faults ws m slots) (valid_block ws b m slots
    marked.0 marked.1 marked.2 twice (few (length (of_letter M ws)) marked.5)
    words.0.0 words.0.1 words.0.2 words.0.3 words.0.4 words.1.0 words.1.1 words.1.2 words.1.3 words.1.4
    non_modal tool_length feed axis
    (straight_after b.g.motion (has_axis v && not (takes_axes b.g.non_modal)) m.motion straight)
    (straight_no_cycle b.movement straight))
