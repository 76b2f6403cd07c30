use Rattle.std.proofs.Common.{rules, ◌≡◌, ℕ, List, true, refl, sym, subst}
use Rattle.ng_dialogue.specs.Waiting.{text_left}
use Rattle.ng_dialogue.specs.Reading.{TakesLine}
use Rattle.ng_dialogue.proofs.HeardOrderLemmas.{heard_none, heard_ok}
use Rattle.ng_dialogue.proofs.hearing.next_order.Goals as goal

pub returns-in-None-clause-order : goal.returns-in-None-clause-order
returns-in-None-clause-order g c =
    let old = text_left c.args.input.now (g.R.Read.remaining c.args.reader.now) in
    let new = text_left c.next_line.new.input (g.R.Read.remaining c.next_line.new.reader) in
    let more : c.in_ok-next_line.field-0 ≡ true = search rules in
    let P : List ℕ → Type 0 = λ l. TakesLine 301 old new l in
    heard_none old new c.as_slice.result.now _ (subst P (sym c.as_slice.ensures.value) (c.in_ok-next_line.ensures.some more)) c.in-None.ensures refl

pub returns-in-Some-clause-order : goal.returns-in-Some-clause-order
returns-in-Some-clause-order g c =
    let old = text_left c.args.input.now (g.R.Read.remaining c.args.reader.now) in
    let mid = text_left c.next_line.new.input (g.R.Read.remaining c.next_line.new.reader) in
    let new = text_left c.ask.new.input (g.R.Read.remaining c.ask.new.reader) in
    let more : c.in_ok-next_line.field-0 ≡ true = search rules in
    let P : List ℕ → Type 0 = λ l. TakesLine 301 old mid l in
    heard_ok old mid new c.as_slice.result.now c.in-Some.command c.ask.result
    (subst P (sym c.as_slice.ensures.value) (c.in_ok-next_line.ensures.some more)) c.in-Some.ensures
    c.ask.ensures.order
