-- The commands of the console, one on a line, their words separated by one blank (own).
use Rattle.std.specs.Prelude.{◌≡◌, ◌≢◌, ◌≤◌, ◌<◌, ℕ, ℤ, Bool, true, false, List, [], ◌∷◌, ◌++◌, length, codes}
use Rattle.ng_num.specs.declared.point.Point.{Point}
use Rattle.ng_num.specs.Range.{IsCount}
use Rattle.ng_words.specs.Grammar.{AreDigits, IsNumber, written_after}
use Rattle.ng_commands.specs.declared.asked.ConsoleCommand.{ConsoleCommand}
use Rattle.ng_commands.specs.declared.asked.ConsoleCommand.TheVariants.{Load, Start, Hold, Continue, Mdi, Reference}
use Rattle.ng_commands.specs.declared.asked.ConsoleCommand.TheVariants.{Resume, Abandon, Tool, OptionalStop}
use Rattle.ng_commands.specs.declared.asked.ConsoleCommand.TheVariants.{BlockDelete, Tick, Status, Quit}

-- digits that stand for this number, with any leading zeros
abbrev pub AreDigitsOf : List ℕ → ℕ → Type 0
AreDigitsOf digits n = AreDigits digits × (0 < length digits) × (n ≡ written_after 0 digits)

-- A text stands for a length of this many nanometres. It is a number in millimetres as in a line of a program, of any
-- length, and its rounded value is in range.
abbrev pub SpellsLength : List ℕ → ℤ → Type 0
SpellsLength text nm = IsNumber text nm × IsCount nm

-- three words, separated by one blank, are the coordinates of a point
abbrev pub SpellsPoint : List ℕ → Point → Type 0
SpellsPoint words p =
    (x y z : List ℕ) × (words ≡ x ++ (codes " " ++ (y ++ (codes " " ++ z)))) × SpellsLength x p.x × SpellsLength y p.y × SpellsLength z p.z

-- two words, separated by one blank, are a slot's number, with one to three digits, and a tool's length
abbrev pub SpellsTool : List ℕ → ℕ → ℤ → Type 0
SpellsTool words slot nm = (digits text : List ℕ) × (words ≡ digits ++ (codes " " ++ text))
    × AreDigitsOf digits slot × (length digits ≤ 3) × SpellsLength text nm

abbrev pub switch_word : Bool → List ℕ
switch_word true = codes "on"
switch_word false = codes "off"

-- the words ask for this
abbrev pub SpellsCommand : List ℕ → ConsoleCommand → Type 0
SpellsCommand words (Load n) = (digits : List ℕ) × (words ≡ codes "load " ++ digits) × AreDigitsOf digits n × (length digits ≤ 7)
SpellsCommand words Start = words ≡ codes "start"
SpellsCommand words Hold = words ≡ codes "hold"
SpellsCommand words Continue = words ≡ codes "continue"
SpellsCommand words (Mdi line) = words ≡ codes "mdi " ++ line.now
SpellsCommand words (Reference point) = (coordinates : List ℕ) × (words ≡ codes "reference " ++ coordinates) × SpellsPoint coordinates point
SpellsCommand words Resume = words ≡ codes "resume"
SpellsCommand words Abandon = words ≡ codes "abandon"
SpellsCommand words (Tool slot nm) = (rest : List ℕ) × (words ≡ codes "tool " ++ rest) × SpellsTool rest slot nm
SpellsCommand words (OptionalStop is_on) = words ≡ codes "optional " ++ switch_word is_on
SpellsCommand words (BlockDelete is_on) = words ≡ codes "delete " ++ switch_word is_on
SpellsCommand words (Tick n) = (digits : List ℕ) × (words ≡ codes "tick " ++ digits) × AreDigitsOf digits n × (1 ≤ n) × (n ≤ 1_000_000)
SpellsCommand words Status = words ≡ codes "status"
SpellsCommand words Quit = words ≡ codes "quit"

-- a line is this command; a line of over 300 bytes isn't a command
abbrev pub IsCommand : List ℕ → ConsoleCommand → Type 0
IsCommand line command = (length line ≤ 300) × SpellsCommand line command

-- a line isn't a command
abbrev pub IsNoCommand : List ℕ → Type 0
IsNoCommand line = (command : ConsoleCommand) → IsCommand line command → ⊥

-- a command of fixed words
abbrev pub IsPlain : ConsoleCommand → Type 0
IsPlain (Load n) = ⊥
IsPlain Start = Unit {0}
IsPlain Hold = Unit {0}
IsPlain Continue = Unit {0}
IsPlain (Mdi line) = ⊥
IsPlain (Reference point) = ⊥
IsPlain Resume = Unit {0}
IsPlain Abandon = Unit {0}
IsPlain (Tool slot nm) = ⊥
IsPlain (OptionalStop is_on) = Unit {0}
IsPlain (BlockDelete is_on) = Unit {0}
IsPlain (Tick n) = ⊥
IsPlain Status = Unit {0}
IsPlain Quit = Unit {0}

-- a line isn't the command of a switch
abbrev pub IsNoSwitch : List ℕ → Type 0
IsNoSwitch line = (is_on : Bool) → (line ≢ codes "optional " ++ switch_word is_on) × (line ≢ codes "delete " ++ switch_word is_on)

-- no byte of a text is this one
abbrev pub HasNo : ℕ → List ℕ → Type 0
HasNo b [] = Unit {0}
HasNo b (c ∷ bytes) = (c ≢ b) × HasNo b bytes
