use Rattle.std.proofs.Common.{◌≡◌, ◌∙◌, ap, lit≤, pos, ℕ, Some}
use Rattle.ng_params.specs.Numbers.{system_of}
use Rattle.ng_layout.specs.Codes.{motion_of, plane_of, distance_of, feed_mode_of, unit_of, retract_of, path_of}
use Rattle.ng_layout.specs.Codes.{spindle_of, truth_of}
use Rattle.ng_layout.specs.Decoding.{and_then, up_to, count_of, rate_of, offsets_in}
use Rattle.ng_layout.specs.Limits.{greatest_slot}
use Rattle.ng_layout.specs.declared.rows.Number.TheVariants.{U8}
use Rattle.ng_layout.proofs.CodecLemmas.{up_to-back, system-back, wrapped, wrap}
use Rattle.ng_layout.proofs.RowLemmas.{Row}
use Rattle.ng_layout.proofs.EncodingLemmas.{point-back, modes-back, outputs-back, kept-back}
use Rattle.ng_layout.proofs.encoding.modal_rows.Goals as goal

pub returns-clause-means : goal.returns-clause-means
returns-clause-means c = λ bytes are.
    let m = c.args.modal.now in
    let none : Row = (0, U8 0) in
    let p = c.coordinates-point.ensures in
    let g = c.coordinates-g92.ensures in
    let o = c.coordinates-origin.ensures in
    let point = point-back 16 bytes m.point _ _ _ (are 0 none (lit≤ tt)) (are 1 none (lit≤ tt))
    (are 2 none (lit≤ tt)) (wrapped c.coordinates-point.result.0 _ p.x)
    (wrapped c.coordinates-point.result.1 _ p.y) (wrapped c.coordinates-point.result.2 _ p.z) in
    let feed = ap rate_of (are 3 none (lit≤ tt)) ∙ c.feed_number.ensures in
    let g92 = point-back 56 bytes m.offsets.g92 _ _ _ (are 5 none (lit≤ tt)) (are 6 none (lit≤ tt))
    (are 7 none (lit≤ tt)) (wrapped c.coordinates-g92.result.0 _ g.x) (wrapped c.coordinates-g92.result.1 _ g.y)
    (wrapped c.coordinates-g92.result.2 _ g.z) in
    let origin = point-back 80 bytes m.offsets.origin _ _ _ (are 8 none (lit≤ tt)) (are 9 none (lit≤ tt))
    (are 10 none (lit≤ tt)) (wrapped c.coordinates-origin.result.0 _ o.x)
    (wrapped c.coordinates-origin.result.1 _ o.y) (wrapped c.coordinates-origin.result.2 _ o.z) in
    let tool = ap count_of (are 11 none (lit≤ tt)) ∙ wrapped c.count.result _ c.count.ensures in
    let offsets : offsets_in bytes ≡ Some m.offsets = λ i.
    and_then (origin i) (λ a.
    and_then (g92 i) (λ b. and_then (tool i) (λ c. Some (record { origin = a; g92 = b; tool_length = c })))) in
    let kept = kept-back bytes c.kept_bits.result m.kept c.kept_len.result c.kept_len-2.result c.kept_num.result
    c.kept_len-3.result (are 29 none (lit≤ tt))
    (record {
      all = up_to-back 15 c.kept_bits.result c.kept_bits.ensures.all;
      r = c.kept_bits.ensures.r;
      z =
          c.kept_bits.ensures.z;
      p = c.kept_bits.ensures.p;
      q = c.kept_bits.ensures.q;
    })
    (are 12 none (lit≤ tt) ∙ wrap _ c.kept_len.ensures.range) (are 13 none (lit≤ tt)
    ∙ wrap _ c.kept_len-2.ensures.range) (are 14 none (lit≤ tt) ∙ wrap _ c.kept_num.ensures.range)
    (are 15 none (lit≤ tt) ∙ wrap _ c.kept_len-3.ensures.range)
    c.kept_len.ensures.word c.kept_len-2.ensures.word c.kept_num.ensures.word c.kept_len-3.ensures.word in
    let modes = modes-back bytes m.modes
    (ap motion_of (are 16 none (lit≤ tt)) ∙ c.code_of_motion.ensures)
    (ap plane_of (are 17 none (lit≤ tt)) ∙ c.code_of_plane.ensures)
    (ap distance_of (are 18 none (lit≤ tt)) ∙ c.code_of_distance.ensures)
    (ap feed_mode_of (are 19 none (lit≤ tt)) ∙ c.code_of_feed_mode.ensures)
    (ap unit_of (are 20 none (lit≤ tt)) ∙ c.code_of_unit.ensures)
    (ap retract_of (are 21 none (lit≤ tt)) ∙ c.code_of_retract.ensures)
    (ap (λ (n : ℕ). system_of (pos n)) (are 22 none (lit≤ tt) ∙ c.number.ensures.value)
    ∙ system-back m.modes.system c.number.ensures.low c.number.ensures.high)
    (ap path_of (are 23 none (lit≤ tt)) ∙ c.code_of_path.ensures)
    (ap truth_of (are 27 none (lit≤ tt)) ∙ c.code_of_truth-3.ensures) in
    let outputs = outputs-back bytes m.outputs
    (ap spindle_of (are 24 none (lit≤ tt)) ∙ c.code_of_spindle.ensures)
    (ap rate_of (are 4 none (lit≤ tt)) ∙ c.speed_number.ensures)
    (ap truth_of (are 25 none (lit≤ tt)) ∙ c.code_of_truth.ensures)
    (ap truth_of (are 26 none (lit≤ tt)) ∙ c.code_of_truth-2.ensures)
    (ap (up_to greatest_slot) (are 30 none (lit≤ tt) ∙ c.from.ensures)
    ∙ up_to-back greatest_slot m.outputs.selected_slot c.requires.selected)
    (ap (up_to greatest_slot) (are 31 none (lit≤ tt) ∙ c.from-2.ensures)
    ∙ up_to-back greatest_slot m.outputs.spindle_slot c.requires.held) in
    let known = ap truth_of (are 28 none (lit≤ tt)) ∙ c.code_of_truth-4.ensures in
    λ i. and_then (modes i)
    (λ a. and_then (feed i)
    (λ b. and_then (outputs i)
    (λ c. and_then (offsets i) (λ d. and_then (kept i) (λ e. and_then (point i) (λ f. and_then (known i) (λ g.
    Some (record { modes = a; feed_per_min = b; outputs = c; offsets = d; kept = e; point = f; point_known = g }))))))))

pub returns-clause-words : goal.returns-clause-words
returns-clause-words c = λ bytes are.
    let none : Row = (0, U8 0) in
    record {
      r = are 12 none (lit≤ tt) ∙ wrap _ c.kept_len.ensures.range ∙ c.kept_len.ensures.is;
      z = are 13 none (lit≤ tt) ∙ wrap _ c.kept_len-2.ensures.range ∙ c.kept_len-2.ensures.is;
      p = are 14 none (lit≤ tt) ∙ wrap _ c.kept_num.ensures.range ∙ c.kept_num.ensures.is;
      q = are 15 none (lit≤ tt) ∙ wrap _ c.kept_len-3.ensures.range ∙ c.kept_len-3.ensures.is;
    }
