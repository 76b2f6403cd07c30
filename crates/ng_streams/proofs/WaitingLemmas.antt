-- Text that waits and is written piece by piece.
use Rattle.std.proofs.Common.{◌≡◌, ℕ, List, [], ◌++◌, Option, Result, Ok, Err, subst, refl, sym, ap, ◌∙◌}
use Rattle.std.proofs.Common.{append_assoc, append-nil, take, drop, take-append-drop}
use Rattle.std.specs.Io.KnownBytes.{Appends}
use Rattle.ng_streams.specs.Waiting.{FlushSpec}
use Rattle.ng_streams.proofs.KnownBytesLemmas.{Appends-nil, Appends-trans}

-- nothing is written yet
pub Waits : {T : Type 0} (E : Type 0) (a : Option (List ℕ)) (waiting left : List ℕ) (x : T) → left ≡ waiting
    → FlushSpec {E = E} a a waiting left (Ok x)
Waits E a waiting left x e = ([], Appends-nil a, sym e)

pub Waits-broken : (T : Type 0) {E : Type 0} (a : Option (List ℕ)) (waiting left : List ℕ) (error : E)
    → FlushSpec {T = T} a a waiting left (Err error)
Waits-broken T a waiting left error = ([], waiting, Appends-nil a, refl)

-- everything is written
pub FlushSpec-all : {T : Type 0} (E : Type 0) (a b : Option (List ℕ)) (waiting left : List ℕ) (x : T) → left ≡ []
    → Appends a b waiting → FlushSpec {E = E} a b waiting left (Ok x)
FlushSpec-all E a b waiting left x e w = (waiting, w, sym (append-nil waiting) ∙ ap (λ l. waiting ++ l) (sym e))

-- a beginning is written
pub FlushSpec-broken : (T : Type 0) {E : Type 0} (a b : Option (List ℕ)) (waiting left : List ℕ) (n : ℕ) (error : E)
    → Appends a b (take n waiting) → FlushSpec {T = T} a b waiting left (Err error)
FlushSpec-broken T a b waiting left n error w = (take n waiting, drop n waiting, w, sym (take-append-drop n waiting))

-- a piece printed after what waits
pub FlushSpec-piece : {T E : Type 0} (a b c : Option (List ℕ)) (all here piece rest left : List ℕ) (r : Result T E)
    → (out : List ℕ) × Appends a b out × (all ≡ out ++ (here ++ (piece ++ rest))) → FlushSpec b c (here ++ piece) left r
    → FlushSpec a c all (left ++ rest) r
FlushSpec-piece a b c all here piece rest left (Ok x) p q = (
  p.0 ++ q.0,
  Appends-trans a b c p.0 q.0 p.1 q.1,
  p.2 ∙ ap (λ l. p.0 ++ l) (sym (append_assoc here piece rest) ∙ ap (λ l. l ++ rest) q.2
      ∙ append_assoc q.0 left rest) ∙ sym (append_assoc p.0 q.0 (left ++ rest)),
)
FlushSpec-piece a b c all here piece rest left (Err error) p q = (
  p.0 ++ q.0,
  q.1 ++ rest,
  Appends-trans a b c p.0 q.0 p.1 q.2,
  p.2 ∙ ap (λ l. p.0 ++ l) (sym (append_assoc here piece rest) ∙ ap (λ l. l ++ rest) q.3
      ∙ append_assoc q.0 q.1 rest) ∙ sym (append_assoc p.0 q.0 (q.1 ++ rest)),
)

-- what waited, written in another way
pub FlushSpec-from : {T E : Type 0} (a b : Option (List ℕ)) (waiting before left : List ℕ) (r : Result T E)
    → before ≡ waiting → FlushSpec a b waiting left r → FlushSpec a b before left r
FlushSpec-from a b waiting before left r e w = subst (λ l. FlushSpec a b l left r) (sym e) w

-- a piece printed after what was printed before
pub FlushSpec-after : {T U E : Type 0} (a b c : Option (List ℕ)) (all first here piece left : List ℕ) (x : T)
    (r : Result U E) → all ≡ first ++ piece → FlushSpec {E = E} a b first here (Ok x)
    → FlushSpec b c (here ++ piece) left r → FlushSpec a c all left r
FlushSpec-after a b c all first here piece left x (Ok y) e p q = (
  p.0 ++ q.0,
  Appends-trans a b c p.0 q.0 p.1 q.1,
  e ∙ ap (λ l. l ++ piece) p.2 ∙ append_assoc p.0 here piece ∙ ap (λ l. p.0 ++ l) q.2 ∙ sym (append_assoc p.0 q.0 left),
)
FlushSpec-after a b c all first here piece left x (Err error) e p q = (
  p.0 ++ q.0,
  q.1,
  Appends-trans a b c p.0 q.0 p.1 q.2,
  e ∙ ap (λ l. l ++ piece) p.2 ∙ append_assoc p.0 here piece ∙ ap (λ l. p.0 ++ l) q.3 ∙ sym (append_assoc p.0 q.0 q.1),
)

-- if printing was aborted before a piece
pub FlushSpec-short : (T U : Type 0) {E : Type 0} (a b : Option (List ℕ)) (all first piece left : List ℕ) (error : E)
    → all ≡ first ++ piece → FlushSpec {T = T} a b first left (Err error) → FlushSpec {T = U} a b all left (Err error)
FlushSpec-short T U a b all first piece left error e w =
    (w.0, w.1 ++ piece, w.2, e ∙ ap (λ l. l ++ piece) w.3 ∙ append_assoc w.0 w.1 piece)
