use Rattle.std.proofs.Common.{◌≡◌, ◌∙◌, ◌-◌, ◌++◌, ap, lit≤, Some, sym, subst, length, replicate, Bool, unwrap_or}
use Rattle.ng_num.specs.declared.point.Point.{Point}
use Rattle.ng_layout.specs.Codes.{truth_of, source_of, opened_of}
use Rattle.ng_layout.specs.Decoding.{half_in}
use Rattle.ng_layout.specs.Encoding.{HoldsHalf}
use Rattle.ng_layout.specs.Fields.{bytes_at}
use Rattle.ng_layout.specs.Storable.{IsStorableHalf}
use Rattle.ng_layout.specs.Stored.{HalfModel}
use Rattle.ng_layout.specs.declared.rows.Number.TheVariants.{U8}
use Rattle.ng_layout.proofs.CodecLemmas.{wrapped}
use Rattle.ng_layout.proofs.RowLemmas.{Row}
use Rattle.ng_layout.proofs.EncodingLemmas.{half-back, point-back}
use Rattle.ng_layout.proofs.encoding.block_rows.Goals as goal

pub returns-clause-means : goal.returns-clause-means
returns-clause-means c = λ bytes are text.
    let none : Row = (0, U8 0) in
    let p = c.coordinates-at.ensures in
    let half : HalfModel = record {
      text = c.half.inside.text.items;
      source = c.half.inside.source;
      index =
          c.half.inside.index;
      at = c.half.inside.at;
      opened = c.half.inside.opened;
    } in
    let can : IsStorableHalf half = subst IsStorableHalf (sym c.half.view_is) c.requires in
    let source = ap source_of (are 0 none (lit≤ tt)) ∙ c.code_of_source.ensures in
    let opened = ap opened_of (are 1 none (lit≤ tt)) ∙ c.code_of_opened.ensures in
    let known = ap truth_of (are 2 none (lit≤ tt)) ∙ c.code_of_truth.ensures
    ∙ ap (λ (b : Bool). Some b) c.is_some.ensures in
    let long = are 4 none (lit≤ tt) ∙ c.len.ensures.value in
    let index = are 5 none (lit≤ tt) in
    let at = c.coordinates-at.result in
    let point = point-back 176 bytes c.unwrap_or.result _ _ _ (are 6 none (lit≤ tt)) (are 7 none (lit≤ tt))
    (are 8 none (lit≤ tt)) (wrapped at.0 _ p.x) (wrapped at.1 _ p.y) (wrapped at.2 _ p.z)
    ∙ ap (λ (x : Point). Some x) (c.unwrap_or.ensures ∙ ap (unwrap_or half.at) c.zero.ensures) in
    let same = subst (λ (h : HalfModel). bytes_at 256 200 bytes ≡ h.text ++ replicate (256 - length h.text) 0)
    (sym c.half.view_is) text in
    subst (λ (h : HalfModel). (half_in bytes ≡ Some (Some h)) × HoldsHalf (Some h) bytes) c.half.view_is (
      half-back bytes half can source opened known long index point same,
      record { unused = are 3 none (lit≤ tt); text_length = long; index = index; point = point; text = same },
    )
