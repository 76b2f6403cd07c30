-- Which commands are possible, given the start of a line.
use Rattle.std.proofs.Common.{◌≡◌, ◌≢◌, ◌≤◌, ℕ, ℤ, List, ◌++◌, length, drop, get_or, codes, Option, Some, None, MatchOption, sym, ◌∙◌, ap, subst, arith}
use Rattle.ng_num.specs.declared.point.Point.{Point}
use Rattle.ng_commands.specs.Commands.{SpellsCommand, IsNoCommand, IsNoSwitch, IsPlain, AreDigitsOf, SpellsPoint, SpellsTool, switch_word}
use Rattle.ng_commands.specs.declared.asked.ConsoleCommand.{ConsoleCommand}
use Rattle.ng_commands.specs.declared.asked.ConsoleCommand.TheVariants.{Load, Start, Hold, Continue, Mdi, Reference}
use Rattle.ng_commands.specs.declared.asked.ConsoleCommand.TheVariants.{Resume, Abandon, Tool, OptionalStop}
use Rattle.ng_commands.specs.declared.asked.ConsoleCommand.TheVariants.{BlockDelete, Tick, Status, Quit}

-- a line can't equal two texts that begin differently
apart : (line xs ys : List ℕ) → line ≡ xs → line ≡ ys → get_or xs 0 0 ≢ get_or ys 0 0 → ⊥
apart line xs ys is also differ = differ (ap (λ l. get_or l 0 0) (sym is ∙ also))

-- nor two whose third bytes differ
apart_after : (line xs ys : List ℕ) → line ≡ xs → line ≡ ys → get_or xs 2 0 ≢ get_or ys 2 0 → ⊥
apart_after line xs ys is also differ = differ (ap (λ l. get_or l 2 0) (sym is ∙ also))

pub not_loaded : (line digits : List ℕ) → line ≡ codes "load " ++ digits → ((n : ℕ) → AreDigitsOf digits n → length digits ≤ 7 → ⊥) → IsNoCommand line
not_loaded line digits is none (Load n) (short, asks) =
    let same : digits ≡ asks.0 = ap (λ l. drop 5 l) (sym is ∙ asks.1) in
    let P : List ℕ → Type 0 = λ ds. AreDigitsOf ds n in
    let Q : List ℕ → Type 0 = λ ds. length ds ≤ 7 in
    none n (subst P (sym same) asks.2) (subst Q (sym same) asks.3)
not_loaded line digits is none Start (short, asks) = apart line (codes "load " ++ digits) (codes "start") is asks (omega arith)
not_loaded line digits is none Hold (short, asks) = apart line (codes "load " ++ digits) (codes "hold") is asks (omega arith)
not_loaded line digits is none Continue (short, asks) = apart line (codes "load " ++ digits) (codes "continue") is asks (omega arith)
not_loaded line digits is none (Mdi text) (short, asks) = apart line (codes "load " ++ digits) (codes "mdi " ++ text.now) is asks (omega arith)
not_loaded line digits is none (Reference point) (short, asks) = apart line (codes "load " ++ digits) (codes "reference " ++ asks.0) is asks.1 (omega arith)
not_loaded line digits is none Resume (short, asks) = apart line (codes "load " ++ digits) (codes "resume") is asks (omega arith)
not_loaded line digits is none Abandon (short, asks) = apart line (codes "load " ++ digits) (codes "abandon") is asks (omega arith)
not_loaded line digits is none (Tool slot nm) (short, asks) = apart line (codes "load " ++ digits) (codes "tool " ++ asks.0) is asks.1 (omega arith)
not_loaded line digits is none (OptionalStop is_on) (short, asks) = apart line (codes "load " ++ digits)
    (codes "optional " ++ switch_word is_on) is asks (omega arith)
not_loaded line digits is none (BlockDelete is_on) (short, asks) = apart line (codes "load " ++ digits)
    (codes "delete " ++ switch_word is_on) is asks (omega arith)
not_loaded line digits is none (Tick n) (short, asks) = apart line (codes "load " ++ digits) (codes "tick " ++ asks.0) is asks.1 (omega arith)
not_loaded line digits is none Status (short, asks) = apart line (codes "load " ++ digits) (codes "status") is asks (omega arith)
not_loaded line digits is none Quit (short, asks) = apart line (codes "load " ++ digits) (codes "quit") is asks (omega arith)

pub not_ticked : (line digits : List ℕ) → line ≡ codes "tick " ++ digits → ((n : ℕ) → AreDigitsOf digits n → 1 ≤ n → n ≤ 1_000_000 → ⊥) → IsNoCommand line
not_ticked line digits is none (Tick n) (short, asks) =
    let same : digits ≡ asks.0 = ap (λ l. drop 5 l) (sym is ∙ asks.1) in
    let P : List ℕ → Type 0 = λ ds. AreDigitsOf ds n in
    none n (subst P (sym same) asks.2) asks.3 asks.4
not_ticked line digits is none (Load n) (short, asks) = apart line (codes "tick " ++ digits) (codes "load " ++ asks.0) is asks.1 (omega arith)
not_ticked line digits is none Start (short, asks) = apart line (codes "tick " ++ digits) (codes "start") is asks (omega arith)
not_ticked line digits is none Hold (short, asks) = apart line (codes "tick " ++ digits) (codes "hold") is asks (omega arith)
not_ticked line digits is none Continue (short, asks) = apart line (codes "tick " ++ digits) (codes "continue") is asks (omega arith)
not_ticked line digits is none (Mdi text) (short, asks) = apart line (codes "tick " ++ digits) (codes "mdi " ++ text.now) is asks (omega arith)
not_ticked line digits is none (Reference point) (short, asks) = apart line (codes "tick " ++ digits) (codes "reference " ++ asks.0) is asks.1 (omega arith)
not_ticked line digits is none Resume (short, asks) = apart line (codes "tick " ++ digits) (codes "resume") is asks (omega arith)
not_ticked line digits is none Abandon (short, asks) = apart line (codes "tick " ++ digits) (codes "abandon") is asks (omega arith)
not_ticked line digits is none (Tool slot nm) (short, asks) = apart_after line (codes "tick " ++ digits) (codes "tool " ++ asks.0) is asks.1 (omega arith)
not_ticked line digits is none (OptionalStop is_on) (short, asks) = apart line (codes "tick " ++ digits)
    (codes "optional " ++ switch_word is_on) is asks (omega arith)
not_ticked line digits is none (BlockDelete is_on) (short, asks) = apart line (codes "tick " ++ digits)
    (codes "delete " ++ switch_word is_on) is asks (omega arith)
not_ticked line digits is none Status (short, asks) = apart line (codes "tick " ++ digits) (codes "status") is asks (omega arith)
not_ticked line digits is none Quit (short, asks) = apart line (codes "tick " ++ digits) (codes "quit") is asks (omega arith)

pub not_placed : (line words : List ℕ) → line ≡ codes "reference " ++ words → ((p : Point) → SpellsPoint words p → ⊥) → IsNoCommand line
not_placed line words is none (Reference point) (short, asks) =
    let same : words ≡ asks.0 = ap (λ l. drop 10 l) (sym is ∙ asks.1) in
    let P : List ℕ → Type 0 = λ ws. SpellsPoint ws point in
    none point (subst P (sym same) asks.2)
not_placed line words is none (Load n) (short, asks) = apart line (codes "reference " ++ words) (codes "load " ++ asks.0) is asks.1 (omega arith)
not_placed line words is none Start (short, asks) = apart line (codes "reference " ++ words) (codes "start") is asks (omega arith)
not_placed line words is none Hold (short, asks) = apart line (codes "reference " ++ words) (codes "hold") is asks (omega arith)
not_placed line words is none Continue (short, asks) = apart line (codes "reference " ++ words) (codes "continue") is asks (omega arith)
not_placed line words is none (Mdi text) (short, asks) = apart line (codes "reference " ++ words) (codes "mdi " ++ text.now) is asks (omega arith)
not_placed line words is none Resume (short, asks) = apart_after line (codes "reference " ++ words) (codes "resume") is asks (omega arith)
not_placed line words is none Abandon (short, asks) = apart line (codes "reference " ++ words) (codes "abandon") is asks (omega arith)
not_placed line words is none (Tool slot nm) (short, asks) = apart line (codes "reference " ++ words) (codes "tool " ++ asks.0) is asks.1 (omega arith)
not_placed line words is none (OptionalStop is_on) (short, asks) = apart line (codes "reference " ++ words)
    (codes "optional " ++ switch_word is_on) is asks (omega arith)
not_placed line words is none (BlockDelete is_on) (short, asks) = apart line (codes "reference " ++ words)
    (codes "delete " ++ switch_word is_on) is asks (omega arith)
not_placed line words is none (Tick n) (short, asks) = apart line (codes "reference " ++ words) (codes "tick " ++ asks.0) is asks.1 (omega arith)
not_placed line words is none Status (short, asks) = apart line (codes "reference " ++ words) (codes "status") is asks (omega arith)
not_placed line words is none Quit (short, asks) = apart line (codes "reference " ++ words) (codes "quit") is asks (omega arith)

pub not_tooled : (line words : List ℕ) → line ≡ codes "tool " ++ words → ((slot : ℕ) (nm : ℤ) → SpellsTool words slot nm → ⊥) → IsNoCommand line
not_tooled line words is none (Tool slot nm) (short, asks) =
    let same : words ≡ asks.0 = ap (λ l. drop 5 l) (sym is ∙ asks.1) in
    let P : List ℕ → Type 0 = λ ws. SpellsTool ws slot nm in
    none slot nm (subst P (sym same) asks.2)
not_tooled line words is none (Load n) (short, asks) = apart line (codes "tool " ++ words) (codes "load " ++ asks.0) is asks.1 (omega arith)
not_tooled line words is none Start (short, asks) = apart line (codes "tool " ++ words) (codes "start") is asks (omega arith)
not_tooled line words is none Hold (short, asks) = apart line (codes "tool " ++ words) (codes "hold") is asks (omega arith)
not_tooled line words is none Continue (short, asks) = apart line (codes "tool " ++ words) (codes "continue") is asks (omega arith)
not_tooled line words is none (Mdi text) (short, asks) = apart line (codes "tool " ++ words) (codes "mdi " ++ text.now) is asks (omega arith)
not_tooled line words is none (Reference point) (short, asks) = apart line (codes "tool " ++ words) (codes "reference " ++ asks.0) is asks.1 (omega arith)
not_tooled line words is none Resume (short, asks) = apart line (codes "tool " ++ words) (codes "resume") is asks (omega arith)
not_tooled line words is none Abandon (short, asks) = apart line (codes "tool " ++ words) (codes "abandon") is asks (omega arith)
not_tooled line words is none (OptionalStop is_on) (short, asks) = apart line (codes "tool " ++ words)
    (codes "optional " ++ switch_word is_on) is asks (omega arith)
not_tooled line words is none (BlockDelete is_on) (short, asks) = apart line (codes "tool " ++ words)
    (codes "delete " ++ switch_word is_on) is asks (omega arith)
not_tooled line words is none (Tick n) (short, asks) = apart_after line (codes "tool " ++ words) (codes "tick " ++ asks.0) is asks.1 (omega arith)
not_tooled line words is none Status (short, asks) = apart line (codes "tool " ++ words) (codes "status") is asks (omega arith)
not_tooled line words is none Quit (short, asks) = apart line (codes "tool " ++ words) (codes "quit") is asks (omega arith)

-- a line isn't a command if it doesn't begin with a word that takes a number or a text, and isn't a command with fixed
-- words
pub not_asked : (line : List ℕ) → ((rest : List ℕ) → line ≢ codes "mdi " ++ rest)
    → ((rest : List ℕ) → line ≢ codes "load " ++ rest) → ((rest : List ℕ) → line ≢ codes "tick " ++ rest)
    → ((rest : List ℕ) → line ≢ codes "reference " ++ rest) → ((rest : List ℕ) → line ≢ codes "tool " ++ rest)
    → ((c : ConsoleCommand) → IsPlain c → SpellsCommand line c → ⊥) → IsNoCommand line
not_asked line mdi load tick place tool plain (Load n) (short, asks) = load asks.0 asks.1
not_asked line mdi load tick place tool plain Start (short, asks) = plain Start tt asks
not_asked line mdi load tick place tool plain Hold (short, asks) = plain Hold tt asks
not_asked line mdi load tick place tool plain Continue (short, asks) = plain Continue tt asks
not_asked line mdi load tick place tool plain (Mdi text) (short, asks) = mdi text.now asks
not_asked line mdi load tick place tool plain (Reference point) (short, asks) = place asks.0 asks.1
not_asked line mdi load tick place tool plain Resume (short, asks) = plain Resume tt asks
not_asked line mdi load tick place tool plain Abandon (short, asks) = plain Abandon tt asks
not_asked line mdi load tick place tool plain (Tool slot nm) (short, asks) = tool asks.0 asks.1
not_asked line mdi load tick place tool plain (OptionalStop is_on) (short, asks) = plain (OptionalStop is_on) tt asks
not_asked line mdi load tick place tool plain (BlockDelete is_on) (short, asks) = plain (BlockDelete is_on) tt asks
not_asked line mdi load tick place tool plain (Tick n) (short, asks) = tick asks.0 asks.1
not_asked line mdi load tick place tool plain Status (short, asks) = plain Status tt asks
not_asked line mdi load tick place tool plain Quit (short, asks) = plain Quit tt asks

no_plain : (line : List ℕ) → line ≢ codes "start" → line ≢ codes "hold" → line ≢ codes "continue"
    → line ≢ codes "resume" → line ≢ codes "abandon" → line ≢ codes "status" → line ≢ codes "quit" → IsNoSwitch line
    → (c : ConsoleCommand) → IsPlain c → SpellsCommand line c → ⊥
no_plain line start hold goes resume abandon status quit switch (Load n) plain asks = plain
no_plain line start hold goes resume abandon status quit switch Start plain asks = start asks
no_plain line start hold goes resume abandon status quit switch Hold plain asks = hold asks
no_plain line start hold goes resume abandon status quit switch Continue plain asks = goes asks
no_plain line start hold goes resume abandon status quit switch (Mdi text) plain asks = plain
no_plain line start hold goes resume abandon status quit switch (Reference point) plain asks = plain
no_plain line start hold goes resume abandon status quit switch Resume plain asks = resume asks
no_plain line start hold goes resume abandon status quit switch Abandon plain asks = abandon asks
no_plain line start hold goes resume abandon status quit switch (Tool slot nm) plain asks = plain
no_plain line start hold goes resume abandon status quit switch (OptionalStop is_on) plain asks = (switch is_on).0 asks
no_plain line start hold goes resume abandon status quit switch (BlockDelete is_on) plain asks = (switch is_on).1 asks
no_plain line start hold goes resume abandon status quit switch (Tick n) plain asks = plain
no_plain line start hold goes resume abandon status quit switch Status plain asks = status asks
no_plain line start hold goes resume abandon status quit switch Quit plain asks = quit asks

-- a switch's words, if no other fixed words match
pub plain_of : (line : List ℕ) (r : Option ConsoleCommand) → line ≢ codes "start" → line ≢ codes "hold"
    → line ≢ codes "continue" → line ≢ codes "resume" → line ≢ codes "abandon" → line ≢ codes "status"
    → line ≢ codes "quit"
    → MatchOption r (IsNoSwitch line) (SpellsCommand line) → MatchOption r ((c : ConsoleCommand) → IsPlain c → SpellsCommand line c → ⊥) (SpellsCommand line)
plain_of line None start hold goes resume abandon status quit switch = no_plain line start hold goes resume abandon status quit switch
plain_of line (Some c) start hold goes resume abandon status quit asks = asks
