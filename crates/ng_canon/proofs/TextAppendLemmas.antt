-- Texts appended one after another, by calls each of which says what it appended. The last call's result is r.
use Rattle.std.proofs.Common.{◌≡◌, ◌∙◌, ap, sym, ℕ, List, [], ◌++◌, append_assoc, Result, Ok, Err, is_ok, if◌then◌else◌, OnOk, OnErr}
use Rattle.std.proofs.lemmas.List.{append-nil}
use Rattle.std.proofs.lemmas.Result.{on_ok_weaker, on_err_weaker}
use Rattle.ng_canon.specs.Printing.{StaysWithin}

-- two texts appended one after the other are their concatenation, appended
joined : (old a b mid new : List ℕ) → mid ≡ old ++ a → new ≡ mid ++ b → new ≡ old ++ (a ++ b)
joined old a b mid new h e = e ∙ ap (λ l. l ++ b) h ∙ append_assoc old a b

-- ---- one text

pub by_one : {T E : Type 0} (r : Result T E) (old text new : List ℕ) → new ≡ (if is_ok r then old ++ text else old) → OnOk r (new ≡ old ++ text)
by_one (Ok _) old text new e = e
by_one (Err _) old text new e = tt

by_one_unchanged : {T E : Type 0} (r : Result T E) (old text new : List ℕ) → new ≡ (if is_ok r then old ++ text else old) → OnErr r (new ≡ old)
by_one_unchanged (Ok _) old text new e = tt
by_one_unchanged (Err _) old text new e = e

pub unchanged_within : {T E : Type 0} (r : Result T E) (old new : List ℕ) → OnErr r (new ≡ old) → OnErr r (StaysWithin old new)
unchanged_within r old new = on_err_weaker r (λ e. ([], e ∙ sym (append-nil old)))

pub by_one_within : {T E : Type 0} (r : Result T E) (old text new : List ℕ) → new ≡ (if is_ok r then old ++ text else old) → OnErr r (StaysWithin old new)
by_one_within r old text new e = unchanged_within r old new (by_one_unchanged r old text new e)

-- ---- three texts, each of two parts

pub by_pairs : {T E : Type 0} (r : Result T E) (old a b c d e f mid two new : List ℕ) → mid ≡ old ++ (a ++ b) → two ≡ mid ++ (c ++ d)
    → OnOk r (new ≡ two ++ (e ++ f)) → OnOk r (new ≡ old ++ (a ++ b ++ c ++ d ++ e ++ f))
by_pairs r old a b c d e f mid two new h k =
    on_ok_weaker r (λ i. joined old (a ++ b ++ (c ++ d)) (e ++ f) two new (joined old (a ++ b) (c ++ d) mid two h k) i ∙ ap (λ l. old ++ l) (simp append_assoc))

-- the last of three stays within the first two
pub last_within : {T E : Type 0} (r : Result T E) (old a b mid two new : List ℕ) → mid ≡ old ++ a → two ≡ mid ++ b
    → OnErr r (StaysWithin two new) → OnErr r (StaysWithin old new)
last_within r old a b mid two new h k =
    on_err_weaker r (λ w. (a ++ b ++ w.0, joined old (a ++ b) w.0 two new (joined old a b mid two h k) w.1))
