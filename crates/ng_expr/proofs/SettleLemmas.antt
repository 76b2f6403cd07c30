-- The values of a line, found piece by piece.
use Rattle.std.proofs.Common.{◌≡◌, ℤ, List, ◌∷◌, ◌++◌, Result, Ok, Err, refl, sym, ap, ◌∙◌, append_assoc}
use Rattle.ng_num.specs.declared.fault.Fault.{Fault}
use Rattle.ng_params.specs.declared.change.Change.{Change}
use Rattle.ng_words.specs.Grammar.{Piece}
use Rattle.ng_expr.specs.declared.word.Word.{Word}
use Rattle.ng_num.specs.Results.{and_then}
use Rattle.ng_expr.specs.Settle.{Settled, followed, followed_if_ok, given, settled_pieces}

followed_assoc : (a b c : Settled) → followed a (followed b c) ≡ followed (followed a b) c
followed_assoc a b c =
    ap (λ (l : List Word). let s : Settled =
    record { words = l; assignments = a.assignments ++ (b.assignments ++ c.assignments) } in s)
    (sym (append_assoc a.words b.words c.words))
    ∙ ap (λ (l : List Change). let s : Settled =
    record { words = (a.words ++ b.words) ++ c.words; assignments = l } in s)
    (sym (append_assoc a.assignments b.assignments c.assignments))

followed_if_ok_twice : (a b : Settled) (r : Result Settled Fault) → followed_if_ok a (followed_if_ok b r) ≡ followed_if_ok (followed a b) r
followed_if_ok_twice a b (Ok c) = ap (λ (s : Settled). Ok s) (followed_assoc a b c)
followed_if_ok_twice a b (Err e) = refl

step_at : (a b : Settled) (first others : Result Settled Fault) → followed_if_ok a first ≡ Ok b
    → followed_if_ok a (and_then first (λ f. followed_if_ok f others)) ≡ followed_if_ok b others
step_at a b (Ok f) others e = followed_if_ok_twice a f others ∙ ap (λ (s : Settled). followed_if_ok s others) (cc)
step_at a b (Err f) others e = absurd (cc)

-- one more piece
pub settled_step : (table : List ℤ) (a b : Settled) (p : Piece) (all pieces : List Piece) (whole : Result Settled Fault) → all ≡ p ∷ pieces
    → followed_if_ok a (given table p) ≡ Ok b → followed_if_ok a (settled_pieces all table) ≡ whole → followed_if_ok b (settled_pieces pieces table) ≡ whole
settled_step table a b p all pieces whole is e walk =
    sym (step_at a b (given table p) (settled_pieces pieces table) e) ∙ ap (λ (l : List Piece). followed_if_ok a (settled_pieces l table)) (sym is) ∙ walk
