-- Writing a line.
use Rattle.std.proofs.Common.{◌≡◌, ℕ, List, Option, None, Some, Result, sym, ◌∙◌, subst, take, length, arith}
use Rattle.std.proofs.lemmas.List.{take_all}
use Rattle.std.specs.Io.KnownBytes.{Appends, Keeps}
use Rattle.ng_streams.specs.Writing.{WritesOrBeginning}
use Rattle.ng_dialogue.specs.declared.telling.OutputError.{OutputError}

pub sends_as : {T : Type 0} (a b : Option (List ℕ)) (line text : List ℕ) (r : Result T OutputError) → line ≡ text
    → WritesOrBeginning a b line r → WritesOrBeginning a b text r
sends_as a b line text r e h = subst (λ (l : List ℕ). WritesOrBeginning a b l r) e h

-- a flush doesn't change what was written
pub appends_still : (a b c : Option (List ℕ)) (line : List ℕ) → Appends a b line → Keeps b c → Appends a c line
appends_still None b c line p k = tt
appends_still (Some x) None c line p k = absurd p
appends_still (Some x) (Some y) None line p k = absurd k
appends_still (Some x) (Some y) (Some z) line p k = k ∙ p

pub sends_unflushed : (a b c : Option (List ℕ)) (line : List ℕ) → Appends a b line → Keeps b c → (n : ℕ) × Appends a c (take n line)
sends_unflushed a b c line p k =
    let P : List ℕ → Type 0 = λ l. Appends a c l in
    (length line, subst P (sym (take_all (length line) line (omega arith))) (appends_still a b c line p k))
