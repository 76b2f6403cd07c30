use Rattle.std.proofs.Common.{rules, ◌≡◌, ◌∷◌, ◌++◌, ◌+◌, ◌∙◌, true, false, refl, sym, ap, take, drop, length}
use Rattle.ng_text.proofs.NewlineLemmas.{HasNoNewline-append}
use Rattle.ng_dialogue.specs.Waiting.{text_left}
use Rattle.ng_dialogue.proofs.BufferLemmas.{all_taken, after_newline, cut_on, some_passed}
use Rattle.ng_dialogue.proofs.ReaderBytesLemmas.{ended_for_good, ended_still, holds_on, last_line, left_bytes, left_on, line_ends, step_on, text_over}
use Rattle.ng_dialogue.proofs.listening.next_line.Goals as goal

pub returns-then-not-branch-clause-some : goal.returns-then-not-branch-clause-some
returns-then-not-branch-clause-some g c =
    let so_far = c.loop-pass.invariant in
    let old = text_left c.args.input.now (g.R.Read.remaining c.args.reader.now) in
    let now = text_left c.loop-pass.input (g.R.Read.remaining c.loop-pass.reader) in
    let new = text_left c.fill.new.self (g.R.Read.remaining c.fill.new.reader) in
    let stop : c.in_ok-fill.field-0 ≡ false = search rules in
    let over = text_over c.fill.new.self (g.R.Read.remaining c.fill.new.reader) (c.in_ok-fill.ensures.end stop).1 in
    λ more. last_line old now new 301 so_far.0 c.loop-pass.line.items so_far.3 c.fill.ensures.keeps over so_far.1
    (some_passed c.loop-pass.line.items so_far.0 c.is_empty.result c.is_empty.ensures more so_far.2) so_far.2

pub returns-in-Some-clause-some : goal.returns-in-Some-clause-some
returns-in-Some-clause-some g c =
    let so_far = c.loop-pass.invariant in
    let old = text_left c.args.input.now (g.R.Read.remaining c.args.reader.now) in
    let now = text_left c.loop-pass.input (g.R.Read.remaining c.loop-pass.reader) in
    let front = c.in-Some.front.now in
    let rest = c.in-Some.field-0-1.now in
    let going : c.in_ok-fill.field-0 ≡ true = search rules in
    let on : c.fill.new.self.ended ≡ false = (c.in_ok-fill.ensures.some going).1 in
    let parts : c.fill.new.self.bytes ≡ front ++ 10 ∷ rest = sym c.waiting-waiting.ensures ∙ c.in-Some.ensures.1 in
    let left : c.consume.new.self.bytes ≡ rest = left_bytes c.fill.new.self c.consume.new.self (length front + 1)
    c.consume.ensures ∙ ap (drop (length front + 1)) parts ∙ after_newline front rest (length front + 1) refl in
    λ more. line_ends old now (g.R.Read.remaining c.fill.new.reader) 301 so_far.0 front rest c.keep.new.line.items
    c.fill.new.self c.consume.new.self so_far.3 c.fill.ensures.keeps on
    (left_on c.fill.new.self c.consume.new.self (length front + 1) c.consume.ensures on) so_far.1
    c.in-Some.ensures.0 parts left (c.keep.ensures ∙ ap (λ l. take 301 (l ++ front)) so_far.2
    ∙ cut_on 301 so_far.0 front)

pub loop-pass-preserved : goal.loop-pass-preserved
loop-pass-preserved g c =
    let so_far = c.loop-pass.invariant in
    let old = text_left c.args.input.now (g.R.Read.remaining c.args.reader.now) in
    let now = text_left c.loop-pass.input (g.R.Read.remaining c.loop-pass.reader) in
    let w = c.waiting-waiting.result.now in
    let going : c.in_ok-fill.field-0 ≡ true = search rules in
    let on : c.fill.new.self.ended ≡ false = (c.in_ok-fill.ensures.some going).1 in
    let after = c.consume-in-None.new.self in
    let going_on : after.ended ≡ false = left_on c.fill.new.self after (length w) c.consume-in-None.ensures on in
    let parts = all_taken c.fill.new.self.bytes w after.bytes c.waiting-waiting.ensures
    (left_bytes c.fill.new.self after (length w) c.consume-in-None.ensures) in (
      so_far.0 ++ w,
      HasNoNewline-append so_far.0 w so_far.1 c.in-None.ensures,
      c.keep-in-None.ensures ∙ ap (λ l. take 301 (l ++ w)) so_far.2 ∙ cut_on 301 so_far.0 w,
      step_on old now (g.R.Read.remaining c.fill.new.reader) so_far.0 w c.fill.new.self after so_far.3 c.fill.ensures.keeps on going_on parts,
      λ before. holds_on after (g.R.Read.remaining c.fill.new.reader) going_on,
      λ ended.
          let still = ended_still c.args.input.now c.loop-pass.input (so_far.5 ended).0 ended in
          ended_for_good c.loop-pass.input c.fill.new.self (c.fill.ensures.last still).1 still on,
    )
