use Rattle.ng_modal.specs.Words.{m_words_of}
use Rattle.ng_modal.proofs.sorted.Sorted.take_m.Given as goal

abbrev pub ghost-take : goal.ghost-take
ghost-take g a = m_words_of g.ws

abbrev pub ghost-with_one_more : goal.ghost-with_one_more
ghost-with_one_more g a = g.ws
