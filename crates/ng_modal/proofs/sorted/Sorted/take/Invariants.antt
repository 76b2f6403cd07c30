use Rattle.ng_modal.proofs.sorted.Sorted.take.Given as goal

abbrev pub ghost-take_g : goal.ghost-take_g
ghost-take_g g a = g.ws

abbrev pub ghost-take_m : goal.ghost-take_m
ghost-take_m g a = g.ws

abbrev pub ghost-take_value : goal.ghost-take_value
ghost-take_value g a = g.ws
