use Rattle.ng_modal.specs.Words.{g_words_of}
use Rattle.ng_modal.proofs.sorted.Sorted.take_g.Given as goal

abbrev pub ghost-take : goal.ghost-take
ghost-take g a = g_words_of g.ws
