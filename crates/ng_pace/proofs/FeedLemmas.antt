-- How fast the items of lines that are made are in their own times.
use Rattle.std.proofs.Common.{arith, ℕ, zero, suc, ◌+◌, ◌<◌, ◌≤◌, ◌≡◌, ◌∙◌, ap, sym, min, List, [], ◌∷◌, ◌++◌, length, slice_index_or}
use Rattle.std.proofs.lemmas.List.{append_cancel_left}
use Rattle.ng_pace.specs.declared.line.Line.{Line}
use Rattle.ng_pace.specs.declared.line.Ramp.{Ramp}
use Rattle.ng_pace.specs.declared.chord.Waiting.{Waiting}
use Rattle.ng_pace.specs.Pacer.{Motion}
use Rattle.ng_pace.specs.Stream.{Keeps, Timed, timed_lines, timed_waiting}
use Rattle.ng_pace.specs.Making.{Makes}

-- lines that are made have the times of the items that waited
made-order : {old new : Motion} {waited waits : List Waiting} → Keeps old new waited waits → (made : List Line) → new.known ≡ old.known ++ made
    → timed_lines made ++ timed_waiting waits ≡ timed_waiting waited
made-order {old} {new} {waited} {waits} keeps made known =
    let same : keeps.settles.settled ≡ made = append_cancel_left old.known keeps.settles.settled made (sym keeps.settles.known ∙ known) in
    ap (λ t. timed_lines t ++ timed_waiting waits) (sym same) ∙ keeps.settles.order

same-feeds : (xs ys : List Waiting) (k : ℕ) (w : Waiting) → timed_waiting xs ≡ timed_waiting ys → (slice_index_or xs k w).feed ≡ (slice_index_or ys k w).feed
same-feeds [] [] k w e = cc
same-feeds [] (y ∷ ys) k w e = absurd (cc)
same-feeds (x ∷ xs) [] k w e = absurd (cc)
same-feeds (x ∷ xs) (y ∷ ys) zero w e =
    let a : Timed = record { item = x.item; full = x.feed } in
    let b : Timed = record { item = y.item; full = y.feed } in
    let same : a ≡ b = cc in
    ap (λ (t : Timed). t.full) same
same-feeds (x ∷ xs) (y ∷ ys) (suc k) w e = same-feeds xs ys k w (cc)

line-feed : (made : List Line) (waits waited : List Waiting) (k : ℕ) (d : Line) (w : Waiting) → timed_lines made ++ timed_waiting waits ≡ timed_waiting waited
    → k < length made → (slice_index_or made k d).full ≡ (slice_index_or waited k w).feed
line-feed [] waits waited k d w e short = absurd (omega (arith, short))
line-feed (x ∷ xs) waits [] k d w e short = absurd (cc)
line-feed (x ∷ xs) waits (v ∷ vs) zero d w e short =
    let a : Timed = record { item = x.item; full = x.full } in
    let b : Timed = record { item = v.item; full = v.feed } in
    let same : a ≡ b = cc in
    ap (λ (t : Timed). t.full) same
line-feed (x ∷ xs) waits (v ∷ vs) (suc k) d w e short = line-feed xs waits vs k d w (cc) (omega (arith, short))

later-feed : (made : List Line) (waits waited : List Waiting) (k : ℕ) (w : Waiting) → timed_lines made ++ timed_waiting waits ≡ timed_waiting waited
    → (slice_index_or waits k w).feed ≡ (slice_index_or waited (length made + k) w).feed
later-feed [] waits waited k w e = let none : 0 + k ≡ k = omega arith in rw none (same-feeds waits waited k w e)
later-feed (x ∷ xs) waits [] k w e = absurd (cc)
later-feed (x ∷ xs) waits (v ∷ vs) k w e =
    let next : length (x ∷ xs) + k ≡ suc (length xs + k) = omega arith in rw next (later-feed xs waits vs k w (cc))

-- of two groups of lines those of the second are no faster than their items
pub made-feeds : (old mid new : Motion) (waited left waits : List Waiting)
    (most : ℕ) (ramp : Ramp) (stop most' : ℕ) (ramp' : Ramp) (stop' count pulses to feed : ℕ) → Keeps old mid waited left
    → (first : Makes old mid waited left most ramp stop count) → Keeps mid new left waits → (then : Makes mid new left waits most' ramp' stop' pulses)
    → to ≡ min (count + pulses) 18446744073709551615 → length waited ≤ 18446744073709551615
    → ((k : ℕ) (w : Waiting) → count ≤ k → k < to → k < length waited → (slice_index_or waited k w).feed ≤ feed)
    → (k : ℕ) (d : Line) → k < length then.made → (slice_index_or then.made k d).full ≤ feed
made-feeds old mid new waited left waits most ramp stop most' ramp' stop' count pulses to feed keeps first keeps' then to_is few feeds k d short =
    let w : Waiting = record { item = d.item; feed = 0 } in
    let own : (slice_index_or then.made k d).full ≡ (slice_index_or left k w).feed
    = line-feed then.made waits left k d w (made-order keeps' then.made then.known) short in
    let its : (slice_index_or left k w).feed ≡ (slice_index_or waited (length first.made + k) w).feed
    = later-feed first.made left waited k w (made-order keeps first.made first.known) in
    let most : (slice_index_or waited (length first.made + k) w).feed ≤ feed
    = feeds (length first.made + k) w (omega (arith, first.count_is, first.rest, then.count_is, short))
    (omega (arith, first.count_is, first.rest, then.count_is, short, to_is, few))
    (omega (arith, first.rest, then.count_is, short)) in
    omega (arith, own, its, most)
