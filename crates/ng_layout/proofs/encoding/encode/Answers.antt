use Rattle.std.proofs.Common.{◌∙◌, [], ◌∷◌, ap, refl, lit≤, arith, Some}
use Rattle.ng_layout.specs.Decoding.{and_then, up_to, decoded_state_of}
use Rattle.ng_layout.specs.Limits.{greatest_count}
use Rattle.ng_layout.specs.declared.rows.Number.TheVariants.{U8, U64}
use Rattle.ng_layout.proofs.ByteLemmas.{bytes-from, from-further, from-more}
use Rattle.ng_layout.proofs.CodecLemmas.{up_to-back}
use Rattle.ng_layout.proofs.RowLemmas.{Row, row-fits, rows-from, starts, follows}
use Rattle.ng_layout.proofs.encoding.encode.Goals as goal

abbrev none : Row
none = (0, U8 0)

pub put_rows-requires : goal.put_rows-requires
put_rows-requires c = λ i d lt.
    omega (
      arith,
      row-fits c.half_rows.result 200 i d
          (follows c.half_rows.result 162 200 c.half_rows.ensures.joined) lt,
      c.requires.fits,
      c.put_text.auto.bytes,
    )

pub put_rows-requires-2 : goal.put_rows-requires-2
put_rows-requires-2 c = λ i d lt.
    omega (
      arith,
      row-fits c.modal_rows.result 162 i d
          (follows c.modal_rows.result 16 162 c.modal_rows.ensures.joined) lt,
      c.requires.fits,
      c.put_text.auto.bytes,
      c.put_rows.auto.bytes,
    )

pub put_rows-requires-3 : goal.put_rows-requires-3
put_rows-requires-3 c = λ i d lt.
    omega (
      arith,
      row-fits ((0, U64 c.args.entries) ∷ (8, U64 c.args.place) ∷ []) 16 i d refl lt,
      c.requires.fits,
      c.put_text.auto.bytes,
      c.put_rows.auto.bytes,
      c.put_rows-2.auto.bytes,
    )

pub returns-clause-beyond : goal.returns-clause-beyond
returns-clause-beyond c =
    let s0 = c.args.bytes.now in let s1 = c.put_text.new.bytes in let s2 = c.put_rows.new.bytes in let s3 =
    c.put_rows-2.new.bytes in let s4 = c.put_rows-3.new.bytes in
    let half = from-further 200 456 s1 s2 (c.put_rows.ensures.beyond 162 200 c.half_rows.ensures.joined) (lit≤ tt) in
    let modal = from-further 162 456 s2 s3 (c.put_rows-2.ensures.beyond 16 162 c.modal_rows.ensures.joined) (lit≤ tt) in
    let counts = from-further 16 456 s3 s4 (c.put_rows-3.ensures.beyond 0 16 refl) (lit≤ tt) in
    from-more 456 456 s0 s1 s4 c.put_text.ensures.beyond
    (from-more 456 456 s1 s2 s4 half (from-more 456 456 s2 s3 s4 modal counts (lit≤ tt)) (lit≤ tt)) (lit≤ tt)

pub returns-clause-holds : goal.returns-clause-holds
unfolding decoded_state_of
returns-clause-holds c = λ program within.
    let s1 = c.put_text.new.bytes in let s2 = c.put_rows.new.bytes in let s3 = c.put_rows-2.new.bytes in let s4 =
    c.put_rows-3.new.bytes in
    let half_follow = follows c.half_rows.result 162 200 c.half_rows.ensures.joined in
    let half_starts = starts c.half_rows.result 162 200 c.half_rows.ensures.joined in
    let modal_follow = follows c.modal_rows.result 16 162 c.modal_rows.ensures.joined in
    let modal_starts = starts c.modal_rows.result 16 162 c.modal_rows.ensures.joined in
    let half = c.put_rows.ensures.beyond 162 200 c.half_rows.ensures.joined in
    let modal = c.put_rows-2.ensures.beyond 16 162 c.modal_rows.ensures.joined in
    let counts = c.put_rows-3.ensures.beyond 0 16 refl in
    let text = bytes-from 256 16 200 s3 s4 counts (lit≤ tt) ∙ bytes-from 256 162 200 s2 s3 modal (lit≤ tt)
    ∙ bytes-from 256 200 200 s1 s2 half (lit≤ tt) ∙ c.put_text.ensures.written ∙ c.half_text.ensures in
    let half_rows = rows-from c.half_rows.result 200 16 s3 s4 half_follow (omega (arith, half_starts)) counts
    (rows-from c.half_rows.result 200 162 s2 s3 half_follow (omega (arith, half_starts)) modal
    (c.put_rows.ensures.are 162 200 c.half_rows.ensures.joined)) in
    let modal_rows = rows-from c.modal_rows.result 162 16 s3 s4 modal_follow (omega (arith, modal_starts)) counts
    (c.put_rows-2.ensures.are 16 162 c.modal_rows.ensures.joined) in
    let are = c.put_rows-3.ensures.are 0 16 refl in
    let entries = ap (up_to greatest_count) (are 0 none (lit≤ tt))
    ∙ up_to-back greatest_count c.args.entries c.requires.count in
    let place = ap (up_to program) (are 1 none (lit≤ tt)) ∙ up_to-back program c.args.place within in
    let modal_is = c.modal_rows.ensures.means s4 modal_rows in
    let half_is = c.half_rows.ensures.means s4 half_rows text in
    record {
      read = λ i. and_then (entries i)
          (λ a. and_then (place i)
          (λ b. and_then (modal_is i)
          (λ c. and_then (half_is.0 i) (λ d. Some (record { entries = a; place = b; modal = c; half = d })))));
      words = c.modal_rows.ensures.words s4 modal_rows;
      half = half_is.1;
    }
