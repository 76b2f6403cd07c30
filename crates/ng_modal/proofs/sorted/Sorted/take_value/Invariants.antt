use Rattle.ng_modal.proofs.sorted.Sorted.take_value.Given as goal

abbrev pub ghost-take : goal.ghost-take
ghost-take g a = g.ws
