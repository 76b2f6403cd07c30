use Rattle.std.proofs.Common.{◌≡◌, ◌≢◌, ◌+◌, [], ◌∷◌, ◌++◌, length, take, get_or, ap, sym, ◌∙◌, arith, get_or-set_other}
use Rattle.std.specs.Prelude.{sum_by}
use Rattle.std.proofs.lemmas.List.{take_more}
use Rattle.std.proofs.lemmas.List.Elements.{All-get_or}
use Rattle.std.proofs.lemmas.List.Sums.{sum_by-append}
use Rattle.std.proofs.Math.Seq.{map-set_same}
use Rattle.ng_desk.specs.Calls.{Seated, calls_of}
use Rattle.ng_desk.proofs.desk.gather.Goals as goal

pub take_share-requires : goal.take_share-requires
take_share-requires g c =
    rw (c.loop-seat.invariant.same c.loop-seat.seat-index (omega arith) c.seat-item.result)
    (All-get_or (λ (s : Seated g.row.A.Denot). s.parts ≡ 1) c.args.seats.now c.loop-seat.seat-index
    c.seat-item.result (omega arith) c.requires.ones)

pub loop-seat-preserved : goal.loop-seat-preserved
loop-seat-preserved g c =
    let i = c.loop-seat.seat-index in
    let first = c.args.seats.now in
    let seat = c.seat-item.result in
    let size = λ (s : Seated g.row.A.Denot). length s.calls in
    let at : get_or first i seat ≡ seat = sym (c.loop-seat.invariant.same i (omega arith) seat) ∙ sym c.seat-item.is in
    let summed : sum_by size (take (i + 1) first) ≡ sum_by size (take i first) + (0 + length seat.calls) =
    ap (sum_by size) (take_more first i seat (omega arith)
    ∙ ap (λ (x : Seated g.row.A.Denot). take i first ++ x ∷ []) at)
    ∙ sum_by-append size (take i first) (seat ∷ []) in
    let calls : length (get_or c.loop-seat.seats i seat).calls ≡ length seat.calls = ap size (sym c.seat-item.is) in
    record {
      parts = omega (arith, c.merge.ensures.parts, c.take_share.ensures.parts, c.loop-seat.invariant.parts);
      amount = omega (arith, c.merge.ensures.amount, c.take_share.ensures.amount, c.loop-seat.invariant.amount, summed, calls);
      same = λ k le d. let ne : k ≢ i = omega arith in rw get_or-set_other (c.loop-seat.invariant.same k (omega arith) d);
      lists = map-set_same calls_of c.loop-seat.seats i c.take_share.new.self seat c.take_share.ensures.calls ∙ c.loop-seat.invariant.lists;
    }
