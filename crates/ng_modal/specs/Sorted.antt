-- What is known about a line's words together, while they are added from the last to the first.
use Rattle.std.specs.Prelude.{Bool, not, ◌||◌, ◌&&◌, nat_lt, List, None}
use Rattle.std.specs.Option.{is_some}
use Rattle.ng_expr.specs.declared.word.Word.{Word}
use Rattle.ng_modal.specs.Words.{g_words_of, m_words_of}
use Rattle.ng_modal.specs.ByLetter.{by_letter, has_axis}
use Rattle.ng_modal.specs.ByGroup.{g_words, m_words}
use Rattle.ng_modal.specs.WordCauses.{is_repeated, has_unknown, has_left_out, has_left_out_code, is_group_twice, is_m_group_twice, count_of_m}
use Rattle.ng_modal.specs.Movement.{is_straight}
use Rattle.ng_modal.specs.BlockOfWords.{block_of}
use Rattle.ng_modal.specs.Causes.{is_negative}
use Rattle.ng_modal.specs.declared.by_letter.ByLetter.{ByLetter}
use Rattle.ng_state.specs.declared.modes.Modes.{Modes}
use Rattle.ng_modal.specs.declared.sorted.Sorted.{Sorted}

-- the movement and the letters that are left out are found after all words were added
abbrev pub sorted : List Word → Sorted
sorted ws = record {
  block = record {
    values = by_letter ws;
    g = g_words (g_words_of ws);
    m = m_words (m_words_of ws);
    movement = None;
  };
  repeated = is_repeated ws;
  unknown = has_unknown ws;
  left_out = has_left_out_code ws;
  group_twice = is_group_twice (g_words_of ws);
  m_group_twice = is_m_group_twice (m_words_of ws);
  m_count = count_of_m ws;
}

abbrev pub sorted_in : List Word → Modes → Sorted
sorted_in ws m = record (sorted ws) { block = block_of ws m; left_out = has_left_out ws }

-- a cause of B1 to B5
abbrev pub is_marked : Sorted → Bool
is_marked s = s.repeated || s.unknown || s.left_out || s.group_twice || s.m_group_twice || nat_lt 4 s.m_count

-- a word that a straight move doesn't use
abbrev pub has_others : ByLetter → Bool
has_others v = is_some v.h || is_some v.i || is_some v.j || is_some v.k || is_some v.l || is_some v.p || is_some
    v.q || is_some v.r || is_some v.s || is_some v.t

-- a straight move, and nothing that may be refused
abbrev pub is_plain : Sorted → Bool
is_plain s =
    is_straight s.block.movement
    && (has_axis s.block.values
    && (not (is_negative s.block.values.f)
    && not (is_marked s || has_others s.block.values || (is_some s.block.g.non_modal || is_some s.block.g.tool_length))))
