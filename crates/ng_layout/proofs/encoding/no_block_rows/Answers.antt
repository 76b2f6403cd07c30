use Rattle.std.proofs.Common.{ap, refl, lit≤, pos}
use Rattle.ng_num.specs.Point.{zero_point}
use Rattle.ng_layout.specs.Codes.{truth_of, source_of, opened_of}
use Rattle.ng_layout.specs.Decoding.{and_then, half_by}
use Rattle.ng_layout.specs.declared.rows.Number.TheVariants.{U8}
use Rattle.ng_layout.proofs.RowLemmas.{Row}
use Rattle.ng_layout.proofs.EncodingLemmas.{point-back}
use Rattle.ng_layout.proofs.encoding.no_block_rows.Goals as goal

pub returns-clause-means : goal.returns-clause-means
returns-clause-means c = λ bytes are text.
    let none : Row = (0, U8 0) in
    let source = ap source_of (are 0 none (lit≤ tt)) in
    let opened = ap opened_of (are 1 none (lit≤ tt)) in
    let known = ap truth_of (are 2 none (lit≤ tt)) in (
      (λ i. and_then (opened i) (λ o. and_then (known i) (λ k. and_then (source i) (λ s. half_by bytes o k s)))),
      record {
        unused = are 3 none (lit≤ tt);
        text_length = are 4 none (lit≤ tt);
        index = are 5 none (lit≤ tt);
        point = point-back 176 bytes zero_point (pos 0) (pos 0) (pos 0) (are 6 none (lit≤ tt))
            (are 7 none (lit≤ tt)) (are 8 none (lit≤ tt)) refl refl refl;
        text = text;
      },
    )
