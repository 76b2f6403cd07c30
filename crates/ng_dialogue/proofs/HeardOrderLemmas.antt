-- What is asked, in terms of the parts of a text.
use Rattle.std.proofs.Common.{◌≡◌, ◌≤◌, ◌<◌, ◌⊎◌, ℕ, List, Option, None, Some, Result, Ok, Err, IfOk, length, take}
use Rattle.std.proofs.Common.{refl, sym, ap, ◌∙◌, subst, inl, inr, arith, length-append, length-take}
use Rattle.std.proofs.lemmas.List.{take_all}
use Rattle.std.specs.Io.KnownBytes.{Consumes, IsAtEnd}
use Rattle.ng_num.specs.declared.fault.Fault.TheVariants.{BadCommand, OutOfMemory}
use Rattle.ng_commands.specs.Commands.{IsCommand, IsNoCommand}
use Rattle.ng_commands.specs.declared.asked.ConsoleCommand.{ConsoleCommand}
use Rattle.ng_commands.specs.declared.asked.ConsoleCommand.TheVariants.{Load}
use Rattle.ng_session.specs.declared.event.Event.TheVariants as event
use Rattle.ng_dialogue.specs.Reading.{TakesLine}
use Rattle.ng_dialogue.specs.Hearing.{AfterCommand, TakesCommand, Means, TakesOrder}
use Rattle.ng_dialogue.specs.declared.order.Order.{Order}
use Rattle.ng_dialogue.specs.declared.order.Order.TheVariants.{Give, Refuse}

-- the bytes of a program were taken
pub taken_whole : {A : Type 0} (old new : Option (List ℕ)) (n : ℕ) (bytes : List ℕ) (order : Order A) → Consumes old new bytes → length bytes ≡ n
    → (order ≡ Give (event.Load bytes)) ⊎ (order ≡ Refuse OutOfMemory) → AfterCommand (Load n) old new order
taken_whole None new n bytes order p size is = tt
taken_whole (Some more) None n bytes order p size is = absurd p
taken_whole (Some more) (Some rest) n bytes order p size is = inl (bytes, size, p, is)

-- the text ended before
pub taken_short : {A : Type 0} (old new : Option (List ℕ)) (n : ℕ) (bytes : List ℕ) (order : Order A) → Consumes old new bytes → length bytes < n → IsAtEnd new
    → order ≡ Refuse BadCommand → AfterCommand (Load n) old new order
taken_short None new n bytes order p size end is = tt
taken_short (Some more) None n bytes order p size end is = absurd p
taken_short (Some more) (Some rest) n bytes order p size end is =
    let whole = simp length-append at (ap length p) in
    let none : length rest ≡ 0 = ap length end in
    inr (omega (arith, whole, none, size), end, is)

-- nothing but the line was taken
pub taken_alone : {A : Type 0} (old : Option (List ℕ)) (command : ConsoleCommand) (order : Order A)
    → ((more : List ℕ) → Means command more order more) → AfterCommand command old old order
taken_alone None command order h = tt
taken_alone (Some more) command order h = h more

-- if what is kept of a line isn't long, it is the whole line
head_whole : (line head : List ℕ) → head ≡ take 301 line → length head ≤ 300 → head ≡ line
head_whole line head is short =
    let size = simp length-take at (ap length is) in
    is ∙ take_all 301 line (omega (arith, size, short))

command_whole : (line head : List ℕ) (command : ConsoleCommand) → head ≡ take 301 line → IsCommand head command → IsCommand line command
command_whole line head command is asked = let P : List ℕ → Type 0 = λ l. IsCommand l command in subst P (head_whole line head is asked.0) asked

-- a short line is kept whole
none_whole : (line head : List ℕ) → head ≡ take 301 line → IsNoCommand head → IsNoCommand line
none_whole line head is none command asked =
    let short : length line ≤ 300 = asked.0 in
    let same : line ≡ head = sym (is ∙ take_all 301 line (omega (arith, short))) in
    let P : List ℕ → Type 0 = λ l. IsCommand l command in
    none command (subst P same asked)

-- a line that isn't a command
pub heard_none : {A : Type 0} (old new : Option (List ℕ)) (head : List ℕ) (order : Order A)
    → TakesLine 301 old new head → IsNoCommand head → order ≡ Refuse BadCommand → TakesOrder old new (Some order)
heard_none None new head order took none is = tt
heard_none (Some text) None head order took none is = absurd took
heard_none (Some text) (Some rest) head order took none is = (took.0, rest, took.1, inl (none_whole took.0 head took.2 none, is, refl))

-- a command
pub heard : {A : Type 0} (old mid new : Option (List ℕ)) (head : List ℕ) (command : ConsoleCommand)
    (order : Option (Order A)) → TakesLine 301 old mid head → IsCommand head command
    → TakesCommand command mid new order → TakesOrder old new order
heard None mid new head command None took asked follows = tt
heard None mid new head command (Some order) took asked follows = tt
heard (Some text) None new head command None took asked follows = absurd took
heard (Some text) None new head command (Some order) took asked follows = absurd took
heard (Some text) (Some more) new head command None took asked follows =
    let P : ConsoleCommand → Type 0 = λ c. IsCommand took.0 c in
    inr (took.0, more, took.1, subst P follows (command_whole took.0 head command took.2 asked))
heard (Some text) (Some more) None head command (Some order) took asked follows = absurd follows
heard (Some text) (Some more) (Some rest) head command (Some order) took asked follows =
    (took.0, more, took.1, inr (command, command_whole took.0 head command took.2 asked, follows))

-- the same, if the reader or the allocation may have failed
pub heard_ok : {A E : Type 0} (old mid new : Option (List ℕ)) (head : List ℕ) (command : ConsoleCommand)
    (r : Result (Option (Order A)) E) → TakesLine 301 old mid head → IsCommand head command
    → IfOk r (TakesCommand command mid new) → IfOk r (TakesOrder old new)
heard_ok old mid new head command (Ok order) took asked follows = heard old mid new head command order took asked follows
heard_ok old mid new head command (Err fault) took asked follows = tt
