-- What a line's words ask for, given the modes before it.
use Rattle.std.specs.Prelude.{List}
use Rattle.ng_expr.specs.declared.word.Word.{Word}
use Rattle.ng_modal.specs.Words.{g_words_of, m_words_of}
use Rattle.ng_modal.specs.ByLetter.{by_letter}
use Rattle.ng_modal.specs.ByGroup.{g_words, m_words}
use Rattle.ng_modal.specs.Block.{movement_for}
use Rattle.ng_modal.specs.declared.block.Block.{Block}
use Rattle.ng_state.specs.declared.modes.Modes.{Modes}

abbrev pub block_of : List Word → Modes → Block
block_of ws m = record {
  values = by_letter ws;
  g = g_words (g_words_of ws);
  m = m_words (m_words_of ws);
  movement = movement_for (g_words (g_words_of ws)) (by_letter ws) m.motion;
}
