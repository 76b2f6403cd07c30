use Rattle.std.proofs.Common.{List, [], ◌∷◌, ◌∙◌, replicate, refl, lit≤, arith}
use Rattle.ng_layout.specs.Part.{label_of}
use Rattle.ng_layout.specs.declared.rows.Number.TheVariants.{U8, U16, U64}
use Rattle.ng_layout.proofs.ByteLemmas.{bytes-from}
use Rattle.ng_layout.proofs.PartLemmas.{labelled}
use Rattle.ng_layout.proofs.RowLemmas.{Row, row-fits}
use Rattle.ng_layout.proofs.SectorLemmas.{bytes-zeros}
use Rattle.ng_layout.proofs.part.PartLabel.sector.Goals as goal

pub put_rows-requires : goal.put_rows-requires
put_rows-requires c =
    let l = c.args.self in
    let rows : List Row = (0, U64 l.epoch) ∷ (8, U64 l.number) ∷ (16, U16 l.part) ∷ (18, U16 l.parts) ∷
    (20, U16 l.changes) ∷ [] in
    λ i d lt. omega (arith, row-fits rows 22 i d refl lt)

pub returns-clause-rest : goal.returns-clause-rest
returns-clause-rest c = c.put_rows.ensures.beyond 0 22 refl

pub returns-clause-label : goal.returns-clause-label
returns-clause-label c =
    let none : Row = (0, U8 0) in
    let sector = c.put_rows.new.bytes in
    let are = c.put_rows.ensures.are 0 22 refl in
    record {
      is = labelled (label_of c.args.self) sector (are 0 none (lit≤ tt)) (are 1 none (lit≤ tt))
          (are 2 none (lit≤ tt)) (are 3 none (lit≤ tt)) (are 4 none (lit≤ tt));
      gap = bytes-from 10 22 22 (replicate 512 0) sector (returns-clause-rest c) (lit≤ tt)
          ∙ bytes-zeros 10 22 512 (lit≤ tt);
    }
