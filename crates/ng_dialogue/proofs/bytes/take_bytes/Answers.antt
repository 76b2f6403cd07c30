use Rattle.std.proofs.Common.{rules, ◌≡◌, ◌≤◌, ◌++◌, ◌∙◌, List, ℕ, [], true, false, refl, sym, subst, ap, take, length, arith, length-append}
use Rattle.std.specs.Io.KnownBytes.{Consumes}
use Rattle.ng_streams.proofs.KnownBytesLemmas.{Consumes-nil}
use Rattle.ng_dialogue.specs.Waiting.{text_left}
use Rattle.ng_dialogue.proofs.BufferLemmas.{nonempty, some_taken, taken_length}
use Rattle.ng_dialogue.proofs.ReaderBytesLemmas.{ended_for_good, ended_still, holds_on, left_bytes, left_on, step_on, taken_still, text_over}
use Rattle.ng_dialogue.proofs.bytes.take_bytes.Goals as goal

pub loop-left-init : goal.loop-left-init
loop-left-init g c = ([], Consumes-nil _, omega arith, λ e. c.reserve_exact.ensures.items ∙ c.requires, λ h. h, λ e. (refl, refl))

pub loop-left-preserved : goal.loop-left-preserved
loop-left-preserved g c =
    let so_far = c.loop-left.invariant in
    let old = text_left c.args.input.now (g.R.Read.remaining c.args.reader.now) in
    let now = text_left c.loop-left.input (g.R.Read.remaining c.loop-left.reader) in
    let w = c.waiting-waiting.result.now in
    let n = c.min-taken.result in
    let front = take n w in
    let going : c.in_ok-fill.field-0 ≡ true = search rules in
    let on : c.fill.new.self.ended ≡ false = (c.in_ok-fill.ensures.some going).1 in
    let after = c.consume.new.self in
    let going_on : after.ended ≡ false = left_on c.fill.new.self after n c.consume.ensures on in
    let parts = some_taken c.fill.new.self.bytes w after.bytes n c.waiting-waiting.ensures (left_bytes c.fill.new.self after n c.consume.ensures) in
    let count : length front ≡ n = taken_length w c.fill.new.self.bytes n c.loop-left.left c.waiting-waiting.ensures c.min-taken.ensures in
    let sum = length-append so_far.0 front in (
      so_far.0 ++ front,
      step_on old now (g.R.Read.remaining c.fill.new.reader) so_far.0 front c.fill.new.self after so_far.1 c.fill.ensures.keeps on going_on parts,
      omega (arith, sum, count, so_far.2, c.min-taken.ensures),
      λ e. let both = c.keep_on-head.ensures e in both.1 ∙ ap (λ l. l ++ front) (so_far.3 both.0),
      λ before. holds_on after (g.R.Read.remaining c.fill.new.reader) going_on,
      λ ended.
          let still = ended_still c.args.input.now c.loop-left.input (so_far.5 ended).0 ended in
          ended_for_good c.loop-left.input c.fill.new.self (c.fill.ensures.last still).1 still on,
    )

pub loop-left-smaller : goal.loop-left-smaller
loop-left-smaller g c =
    let going : c.in_ok-fill.field-0 ≡ true = search rules in
    let some : 1 ≤ length c.fill.new.self.bytes = nonempty c.fill.new.self.bytes (c.in_ok-fill.ensures.some going).0 in
    let same = ap length c.waiting-waiting.ensures in
    omega (arith, some, same, c.min-taken.ensures)

pub returns-then-not-branch-clause-bytes : goal.returns-then-not-branch-clause-bytes
returns-then-not-branch-clause-bytes g c =
    let so_far = c.loop-left.invariant in
    let old = text_left c.args.input.now (g.R.Read.remaining c.args.reader.now) in
    let now = text_left c.loop-left.input (g.R.Read.remaining c.loop-left.reader) in
    let new = text_left c.fill.new.self (g.R.Read.remaining c.fill.new.reader) in
    let stop : c.in_ok-fill.field-0 ≡ false = search rules in
    let over = text_over c.fill.new.self (g.R.Read.remaining c.fill.new.reader) (c.in_ok-fill.ensures.end stop).1 in
    (so_far.0, taken_still old now new so_far.0 so_far.1 c.fill.ensures.keeps, omega (arith, so_far.2), over)

pub returns-then-has_memory-clause-bytes : goal.returns-then-has_memory-clause-bytes
returns-then-has_memory-clause-bytes g c =
    let so_far = c.loop-left.invariant in
    let old = text_left c.args.input.now (g.R.Read.remaining c.args.reader.now) in
    let now = text_left c.loop-left.input (g.R.Read.remaining c.loop-left.reader) in
    let is = so_far.3 c.if-has_memory.true in
    let P : List ℕ → Type 0 = λ l. Consumes old now l in
    (subst P (sym is) so_far.1, omega (arith, ap length is, so_far.2))

pub returns-else-has_memory-clause-bytes : goal.returns-else-has_memory-clause-bytes
returns-else-has_memory-clause-bytes g c =
    let so_far = c.loop-left.invariant in
    (so_far.0, so_far.1, omega (arith, so_far.2))
