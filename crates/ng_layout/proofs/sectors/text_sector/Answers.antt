use Rattle.ng_layout.proofs.SectorLemmas.{holds_text}
use Rattle.ng_layout.proofs.sectors.text_sector.Goals as goal

pub returns : goal.returns
returns c = holds_text c.args.text.now c.padded.result c.args.first c.min-end.result c.requires.within c.min-end.ensures c.padded.ensures
