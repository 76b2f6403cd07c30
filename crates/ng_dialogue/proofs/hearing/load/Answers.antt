use Rattle.std.proofs.Common.{◌≡◌, ap, inl, inr, refl, subst}
use Rattle.ng_dialogue.specs.Waiting.{text_left}
use Rattle.ng_session.specs.declared.event.Event.TheVariants as event
use Rattle.ng_dialogue.specs.Reading.{TakesBytes}
use Rattle.ng_dialogue.specs.declared.bytes.TakenBytes.{TakenBytes}
use Rattle.ng_dialogue.specs.declared.bytes.TakenBytes.TheVariants.{Whole, NoMemory, Cut}
use Rattle.ng_dialogue.specs.declared.order.Order.TheVariants.{Give}
use Rattle.ng_dialogue.proofs.HeardOrderLemmas.{taken_short, taken_whole}
use Rattle.ng_dialogue.proofs.hearing.load.Goals as goal

pub returns-in-Whole-clause-order : goal.returns-in-Whole-clause-order
returns-in-Whole-clause-order g c =
    let old = text_left c.args.input.now (g.R.Read.remaining c.args.reader.now) in
    let new = text_left c.take_bytes.new.input (g.R.Read.remaining c.take_bytes.new.reader) in
    let P : TakenBytes → Type 0 = λ p. TakesBytes c.args.length old new c.take_bytes.new.text.items p in
    let is : c.in_ok-take_bytes.field-0 ≡ Whole = cc in
    let got : P Whole = subst P is c.in_ok-take_bytes.ensures.bytes in
    taken_whole old new c.args.length c.take_bytes.new.text.items _ got.0 got.1 (inl (ap (λ l. Give (event.Load l)) c.of.ensures))

pub returns-in-NoMemory-clause-order : goal.returns-in-NoMemory-clause-order
returns-in-NoMemory-clause-order g c =
    let old = text_left c.args.input.now (g.R.Read.remaining c.args.reader.now) in
    let new = text_left c.take_bytes.new.input (g.R.Read.remaining c.take_bytes.new.reader) in
    let P : TakenBytes → Type 0 = λ p. TakesBytes c.args.length old new c.take_bytes.new.text.items p in
    let is : c.in_ok-take_bytes.field-0 ≡ NoMemory = cc in
    let got : P NoMemory = subst P is c.in_ok-take_bytes.ensures.bytes in
    taken_whole old new c.args.length got.0 _ got.1 got.2 (inr refl)

pub returns-in-Cut-clause-order : goal.returns-in-Cut-clause-order
returns-in-Cut-clause-order g c =
    let old = text_left c.args.input.now (g.R.Read.remaining c.args.reader.now) in
    let new = text_left c.take_bytes.new.input (g.R.Read.remaining c.take_bytes.new.reader) in
    let P : TakenBytes → Type 0 = λ p. TakesBytes c.args.length old new c.take_bytes.new.text.items p in
    let is : c.in_ok-take_bytes.field-0 ≡ Cut = cc in
    let got : P Cut = subst P is c.in_ok-take_bytes.ensures.bytes in
    taken_short old new c.args.length got.0 _ got.1 got.2 got.3 refl
