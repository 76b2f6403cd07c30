-- A loop that writes the sectors of a stretch one after another.
use Rattle.std.proofs.Common.{◌≡◌, ◌≢◌, inl, inr, ℕ, ◌+◌, ◌<◌, ◌≤◌, List, Result, Ok, Err, refl, sym, ◌∙◌, ap, subst, arith}
use Rattle.std.proofs.lemmas.Bool.{cases_eq}
use Rattle.std.specs.Prelude.{OnOk}
use Rattle.ng_rig.specs.Rig.{Device}
use Rattle.ng_rig.specs.Trace.{Trace, Wrote, Synced, reads}
use Rattle.ng_rig.specs.Calls.{IfHonest, IsCall, WriteSpec}
use Rattle.ng_rig.specs.Only.{WritesOnly}
use Rattle.ng_rig.proofs.GuaranteeLemmas.{onto, promised, meaning}
use Rattle.ng_rig.proofs.WritesOnlyLemmas.{only_none, only_more, only_write, only_synced, only_wider}
use Rattle.ng_layout.specs.Spare.{IsAmong}
use Rattle.ng_journal.specs.Area.{BelongsIn}
use Rattle.ng_journal.specs.Private.Overwrites.{Overwrites}
use Rattle.ng_journal.proofs.WrittenSectorLemmas.{there, elsewhere}

-- Only what is right for its place is written to a stretch. The first n of its sectors are right, and a read of any
-- other sector returns what it did before.
pub record OverwritesTo (n first size : ℕ) (IsRight : ℕ → List ℕ → Type 0) (old new : Trace) : Type 0 where
  pub writes : WritesOnly (BelongsIn first size IsRight) old new
  pub outside : (m : ℕ) → ¬ IsAmong first size m → reads new m ≡ reads old m
  pub parts : (j : ℕ) → j < n → IsRight j (reads new (first + j))

-- what the loop has done to its device after n writes: no call failed
pub record HasWritten (n first many : ℕ) (IsRight : ℕ → List ℕ → Type 0) (start now : Device) : Type 0 where
  pub trace : IfHonest start now (OverwritesTo n first many IsRight start.trace now.trace)
  pub size : now.sectors ≡ start.sectors
  pub failures : now.failed ≡ start.failed

-- what a read of another sector returns after a write that may have failed
untouched : {T E : Type 0} (result : Result T E) (m n : ℕ) (bytes : List ℕ) (old new : Trace) → m ≢ n
    → WriteSpec result n bytes old new → reads new m ≡ reads old m
untouched (Ok _) m n bytes old new other is = ap (λ (l : Trace). reads l m) is ∙ elsewhere m n bytes old other
untouched (Err _) m n bytes old new other (inl is) = ap (λ (l : Trace). reads l m) is
untouched (Err _) m n bytes old new other (inr (inl is)) = ap (λ (l : Trace). reads l m) is ∙ elsewhere m n bytes old other
untouched (Err _) m n bytes old new other (inr (inr is)) = ap (λ (l : Trace). reads l m) is

-- One more sector of a stretch is right.
module _ (n at first size : ℕ) (IsRight : ℕ → List ℕ → Type 0) (bytes : List ℕ) (old mid : Trace) (lt : n < size)
    (at_is : at ≡ first + n) (right : IsRight n bytes) (w : OverwritesTo n first size IsRight old mid) where
  abbrev May : ℕ → List ℕ → Type 0
  May m c = BelongsIn first size IsRight m c

  may : BelongsIn first size IsRight at bytes
  may = record { place = n; within = lt; is = at_is; right = right }

  beside_it : (m : ℕ) → ¬ IsAmong first size m → m ≢ at
  beside_it m out e = out (record { from = omega arith; to = omega arith })

  written : (new : Trace) → new ≡ Wrote at bytes mid → OverwritesTo (n + 1) first size IsRight old new
  written new is =
      let ok : Result ℕ ℕ = Ok 0 in
      let there_is : reads (Wrote at bytes mid) (first + n) ≡ bytes = ap (λ (m : ℕ). reads (Wrote at bytes mid) m) (sym at_is) ∙ there at bytes mid in
      subst (λ (l : Trace). OverwritesTo (n + 1) first size IsRight old l) (sym is) (record {
        writes = only_more May old mid (Wrote at bytes mid) w.writes (only_write May ok at bytes mid (Wrote at bytes mid) may refl);
        outside = λ m out. elsewhere m at bytes mid (beside_it m out) ∙ w.outside m out;
        parts = λ j below. elim (cases_eq j n) [
          | inl same ↦ subst (λ (x : ℕ). IsRight x (reads (Wrote at bytes mid) (first + x))) (sym same) (subst (IsRight n) (sym there_is) right)
          | inr other ↦ subst (IsRight j) (sym (elsewhere (first + j) at bytes mid (λ e. other (omega arith)))) (w.parts j (omega arith))
        ];
      })

  -- or its write failed
  not_written : {T E F : Type 0} (e : E) (result : Result T F) (new : Trace) → WriteSpec result at bytes mid new
      → Overwrites {T = T} (Err e) first size IsRight old new
  not_written e result new is = record {
    writes = only_more May old mid new w.writes (only_write May result at bytes mid new may is);
    outside = λ m out. untouched result m at bytes mid new (beside_it m out) is ∙ w.outside m out;
    parts = tt;
  }

-- A sync changes nothing of that.
written_on : (n first size : ℕ) (IsRight : ℕ → List ℕ → Type 0) (old mid new : Trace)
    → OverwritesTo n first size IsRight old mid → new ≡ Synced mid → OverwritesTo n first size IsRight old new
written_on n first size IsRight old mid new w is = subst (λ (l : Trace). OverwritesTo n first size IsRight old l)
    (sym is) (record {
      writes = only_synced (λ m c. BelongsIn first size IsRight m c) old mid w.writes;
      outside =
          w.outside;
      parts = w.parts;
    })

not_synced : {T E : Type 0} (e : E) (n first size : ℕ) (IsRight : ℕ → List ℕ → Type 0) (old mid new : Trace)
    → OverwritesTo n first size IsRight old mid → new ≡ mid → Overwrites {T = T} (Err e) first size IsRight old new
not_synced {T = T} {E = E} e n first size IsRight old mid new w same =
    subst (λ (l : Trace). Overwrites {T = T} {E = E} (Err e) first size IsRight old l) (sym same)
    (record { writes = w.writes; outside = w.outside; parts = tt })

-- before the first write
pub begun : (first many : ℕ) (IsRight : ℕ → List ℕ → Type 0) (now : Device) → HasWritten 0 first many IsRight now now
begun first many IsRight now = record {
  trace = promised (record { writes = only_none (BelongsIn first many IsRight) now.trace; outside = λ m out. refl; parts = λ j lt. absurd (omega arith) });
  size = refl;
  failures = refl;
}

-- one more write
pub more : {T E : Type 0} {v : T} (n at first many : ℕ) (IsRight : ℕ → List ℕ → Type 0) (bytes : List ℕ) (start mid now : Device)
    → n < many → at ≡ first + n → IsRight n bytes → HasWritten n first many IsRight start mid
    → IfHonest mid now (WriteSpec {T = T} {E = E} (Ok v) at bytes mid.trace now.trace) → IsCall {T = T} {E = E} (Ok v) mid now
    → HasWritten (n + 1) first many IsRight start now
more n at first many IsRight bytes start mid now lt at_is right w write call = record {
  trace = onto _ w.trace write (λ before is. written n at first many IsRight bytes start.trace mid.trace lt at_is right before now.trace is);
  size = call.size ∙ w.size;
  failures = call.failures ∙ w.failures;
}

-- or it fails
pub fails : {T E F : Type 0} (e : E) (result : Result T F) (n at first many : ℕ) (IsRight : ℕ → List ℕ → Type 0) (bytes : List ℕ)
    (start mid now : Device) → n < many → at ≡ first + n → IsRight n bytes → HasWritten n first many IsRight start mid
    → IfHonest mid now (WriteSpec result at bytes mid.trace now.trace)
    → IfHonest start now (Overwrites {T = T} (Err e) first many IsRight start.trace now.trace)
fails e result n at first many IsRight bytes start mid now lt at_is right w write =
    onto _ w.trace write (λ before is. not_written n at first many IsRight bytes start.trace mid.trace lt at_is right before e result now.trace is)

-- a sync
pub synced : {T E : Type 0} {v : T} (n first many : ℕ) (IsRight : ℕ → List ℕ → Type 0) (start mid now : Device)
    → HasWritten n first many IsRight start mid → IfHonest mid now (now.trace ≡ Synced mid.trace)
    → IsCall {T = T} {E = E} (Ok v) mid now → HasWritten n first many IsRight start now
synced n first many IsRight start mid now w sync call = record {
  trace = onto _ w.trace sync (λ before is. written_on n first many IsRight start.trace mid.trace now.trace before is);
  size = call.size ∙ w.size;
  failures = call.failures ∙ w.failures;
}

-- or that fails
pub sync_fails : {T E : Type 0} (e : E) (n first many : ℕ) (IsRight : ℕ → List ℕ → Type 0) (start mid now : Device)
    → HasWritten n first many IsRight start mid → IfHonest mid now (now.trace ≡ mid.trace)
    → IfHonest start now (Overwrites {T = T} (Err e) first many IsRight start.trace now.trace)
sync_fails e n first many IsRight start mid now w sync =
    onto _ w.trace sync (λ before same. not_synced e n first many IsRight start.trace mid.trace now.trace before same)

-- the whole stretch is written
pub whole : {T E : Type 0} (v : T) (n first many : ℕ) (IsRight : ℕ → List ℕ → Type 0) (start now : Device) → many ≤ n
    → HasWritten n first many IsRight start now → IfHonest start now (Overwrites {E = E} (Ok v) first many IsRight start.trace now.trace)
whole v n first many IsRight start now all w =
    meaning w.trace (λ t. record { writes = t.writes; outside = t.outside; parts = λ j lt. t.parts j (omega arith) })

-- from what is right in each of several ways to one of them
pub wider : {T E : Type 0} (result : Result T E) (first many : ℕ) (Fewer More : ℕ → List ℕ → Type 0) (old new : Trace)
    → ((j : ℕ) (bytes : List ℕ) → Fewer j bytes → More j bytes) → Overwrites result first many Fewer old new
    → Overwrites result first many More old new
wider {T = T} {E = E} result first many Fewer More old new wide w = record {
  writes = only_wider (BelongsIn first many Fewer) (BelongsIn first many More) old new
      (λ n bytes b. record { place = b.place; within = b.within; is = b.is; right = wide b.place bytes b.right }) w.writes;
  outside = w.outside;
  parts = all result w.parts;
}
  where
    all : (r : Result T E) → OnOk r ((j : ℕ) → j < many → Fewer j (reads new (first + j)))
        → OnOk r ((j : ℕ) → j < many → More j (reads new (first + j)))
    all (Ok _) parts = λ j lt. wide j (reads new (first + j)) (parts j lt)
    all (Err _) parts = tt
