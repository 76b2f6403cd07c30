use Rattle.ng_modal.proofs.sorted.Sorted.take_at.Given as goal

abbrev pub ghost-take : goal.ghost-take
ghost-take g a = g.ws
