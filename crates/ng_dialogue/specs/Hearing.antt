-- What the console is asked to do, line by line (own).
use Rattle.std.specs.Prelude.{◌≡◌, ◌<◌, ◌⊎◌, ℕ, List, [], ◌++◌, Option, None, Some, IfSome, length}
use Rattle.ng_num.specs.declared.fault.Fault.TheVariants.{BadCommand, OutOfMemory}
use Rattle.ng_commands.specs.Commands.{IsCommand, IsNoCommand}
use Rattle.ng_commands.specs.declared.asked.ConsoleCommand.{ConsoleCommand}
use Rattle.ng_commands.specs.declared.asked.ConsoleCommand.TheVariants.{Load, Start, Hold, Continue, Mdi, Reference}
use Rattle.ng_commands.specs.declared.asked.ConsoleCommand.TheVariants.{Resume, Abandon, Tool, OptionalStop}
use Rattle.ng_commands.specs.declared.asked.ConsoleCommand.TheVariants.{BlockDelete, Tick, Status, Quit}
use Rattle.ng_session.specs.declared.event.Event.TheVariants as event
use Rattle.ng_dialogue.specs.Reading.{BeginsWithLine}
use Rattle.ng_dialogue.specs.declared.order.Order.{Order}
use Rattle.ng_dialogue.specs.declared.order.Order.TheVariants.{Give, Ticks, Refuse}

-- storing a program with this many bytes is asked, or there was no memory for it; a program that is cut off by the end
-- is refused
abbrev pub TakesProgram : {A : Type 0} → ℕ → List ℕ → Order A → List ℕ → Type 0
TakesProgram n more order rest =
    ((program : List ℕ) × (length program ≡ n) × (more ≡ program ++ rest) × ((order ≡ Give (event.Load program)) ⊎ (order ≡ Refuse OutOfMemory)))
    ⊎ ((length more < n) × (rest ≡ []) × (order ≡ Refuse BadCommand))

-- what a command asks if this text follows its line, and what is left of the text
abbrev pub Means : {A : Type 0} → ConsoleCommand → List ℕ → Order A → List ℕ → Type 0
Means (Load n) more order rest = TakesProgram n more order rest
Means Start more order rest = (order ≡ Give event.Start) × (rest ≡ more)
Means Hold more order rest = (order ≡ Give event.Hold) × (rest ≡ more)
Means Continue more order rest = (order ≡ Give event.Continue) × (rest ≡ more)
Means (Mdi line) more order rest = (order ≡ Give (event.Mdi line.now)) × (rest ≡ more)
Means (Reference point) more order rest = (order ≡ Give (event.Reference point)) × (rest ≡ more)
Means Resume more order rest = (order ≡ Give event.Resume) × (rest ≡ more)
Means Abandon more order rest = (order ≡ Give event.Abandon) × (rest ≡ more)
Means (Tool slot nm) more order rest = (order ≡ Give (event.Tool slot nm)) × (rest ≡ more)
Means (OptionalStop is_on) more order rest = (order ≡ Give (event.OptionalStop is_on)) × (rest ≡ more)
Means (BlockDelete is_on) more order rest = (order ≡ Give (event.BlockDelete is_on)) × (rest ≡ more)
Means (Tick n) more order rest = (order ≡ Ticks n) × (rest ≡ more)
Means Status more order rest = (order ≡ Give event.Status) × (rest ≡ more)
Means Quit more order rest = ⊥

-- a text begins with a line that asks this, and the rest follows; a line that isn't a command is refused
abbrev pub BeginsWithOrder : {A : Type 0} → List ℕ → Order A → List ℕ → Type 0
BeginsWithOrder text order rest =
    (line : List ℕ) × (more : List ℕ) × BeginsWithLine text line more
    × ((IsNoCommand line × (order ≡ Refuse BadCommand) × (rest ≡ more)) ⊎ ((command : ConsoleCommand) × IsCommand line command × Means command more order rest))

-- a text asks no more: it is at its end, or it asks to quit
abbrev pub EndsText : List ℕ → Type 0
EndsText text = (text ≡ []) ⊎ ((line : List ℕ) × (more : List ℕ) × BeginsWithLine text line more × IsCommand line Quit)

-- what was asked is removed from what is known of a text
abbrev pub TakesOrder : {A : Type 0} → Option (List ℕ) → Option (List ℕ) → Option (Order A) → Type 0
TakesOrder old new None = IfSome old EndsText
TakesOrder None new (Some order) = Unit {0}
TakesOrder (Some text) None (Some order) = ⊥
TakesOrder (Some text) (Some rest) (Some order) = BeginsWithOrder text order rest

-- what a command asks if this is known of the text after its line
abbrev pub AfterCommand : {A : Type 0} → ConsoleCommand → Option (List ℕ) → Option (List ℕ) → Order A → Type 0
AfterCommand command None new order = Unit {0}
AfterCommand command (Some more) None order = ⊥
AfterCommand command (Some more) (Some rest) order = Means command more order rest

-- the same for a command that may end the dialogue
abbrev pub TakesCommand : {A : Type 0} → ConsoleCommand → Option (List ℕ) → Option (List ℕ) → Option (Order A) → Type 0
TakesCommand command old new None = command ≡ Quit
TakesCommand command old new (Some order) = AfterCommand command old new order
