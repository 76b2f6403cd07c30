use Rattle.ng_console.proofs.operating.operate_device.Given as goal

abbrev pub ghosts-operate_settled : goal.ghosts-operate_settled
ghosts-operate_settled g a = record { first = g.O.Write.contents a.out }
