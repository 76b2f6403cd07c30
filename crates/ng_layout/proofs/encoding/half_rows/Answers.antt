use Rattle.ng_layout.proofs.encoding.half_rows.Goals as goal

pub returns-in-None-clause-means : goal.returns-in-None-clause-means
returns-in-None-clause-means c = rw c.in-None.is c.no_block_rows.ensures.means
