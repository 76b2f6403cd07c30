-- Writes of contents that may be written.
use Rattle.std.proofs.Common.{◌≡◌, inl, inr, ⊎_elim, ℕ, List, refl, sym, ◌∙◌, subst, Result, Ok, Err}
use Rattle.ng_rig.specs.Trace.{Trace, Wrote, Perhaps, Synced, MayHold, reads, items}
use Rattle.ng_rig.specs.Calls.{WriteSpec, SyncSpec}
use Rattle.ng_rig.specs.Continuation.{IsContinuation}
use Rattle.ng_rig.specs.Only.{IsMixOf, WritesOnly}
use Rattle.ng_rig.proofs.ContinuationLemmas.{may_hold-reads, stays, joined, weaker, on_write, on_perhaps, on_sync}

module _ (May : ℕ → List ℕ → Type 0) where
  pub only_none : (trace : Trace) → WritesOnly May trace trace
  only_none trace = record { stops = stays trace (IsMixOf trace May); holds = λ n c may. inl may; items_are = refl }

  here : (n m : ℕ) (c bytes : List ℕ) → May m bytes → n ≡ m → c ≡ bytes → May n c
  here n m c bytes may same is = subst (λ (x : List ℕ). May n x) (sym is) (subst (λ (k : ℕ). May k bytes) (sym same) may)

  only_one : (trace : Trace) (m : ℕ) (bytes : List ℕ) → May m bytes → WritesOnly May trace (Wrote m bytes trace)
  only_one trace m bytes may = record {
    stops = on_write trace m bytes (IsMixOf trace May)
        (λ image handed s. record {
          each = λ n. ⊎_elim (λ new. inr (here n m (image n) bytes may new.0 new.1))
              (λ old. inl old) (s.0 n);
          handed_is = s.1;
        });
    holds = λ n c h. ⊎_elim (λ new. inr (here n m c bytes may new.0 new.1)) (λ old. inl old) h;
    items_are = refl;
  }

  only_perhaps : (trace : Trace) (m : ℕ) (bytes : List ℕ) → May m bytes → WritesOnly May trace (Perhaps m bytes trace)
  only_perhaps trace m bytes may = record {
    stops = on_perhaps trace m bytes (IsMixOf trace May)
        (λ image handed s. record {
          each = λ n. ⊎_elim (λ new. inr (here n m (image n) bytes may new.0 new.1))
              (λ old. inl old) (s.0 n);
          handed_is = s.1;
        });
    holds = λ n c h. ⊎_elim (λ new. inr (here n m c bytes may new.0 new.1)) (λ old. inl old) h;
    items_are = refl;
  }

  pub only_more : (old mid new : Trace) → WritesOnly May old mid → WritesOnly May mid new → WritesOnly May old new
  only_more old mid new a b = record {
    stops = joined old mid new (IsMixOf old May) a.stops
        (weaker mid new (IsMixOf mid May) (IsMixOf old May) b.stops
        (λ image handed p. record {
          each = λ n. ⊎_elim (λ m. a.holds n (image n) m) (λ r. inr r) (p.each n);
          handed_is = p.handed_is ∙ a.items_are;
        }));
    holds = λ n c h. ⊎_elim (λ m. a.holds n c m) (λ r. inr r) (b.holds n c h);
    items_are = b.items_are ∙ a.items_are;
  }

  -- a write, also one that fails
  pub only_write : {T E : Type 0} (result : Result T E) (m : ℕ) (bytes : List ℕ) (old new : Trace) → May m bytes
      → WriteSpec result m bytes old new → WritesOnly May old new
  only_write (Ok _) m bytes old new may is = subst (λ (l : Trace). WritesOnly May old l) (sym is) (only_one old m bytes may)
  only_write (Err _) m bytes old new may (inl none) = subst (λ (l : Trace). WritesOnly May old l) (sym none) (only_none old)
  only_write (Err _) m bytes old new may (inr (inl is)) = subst (λ (l : Trace). WritesOnly May old l) (sym is) (only_one old m bytes may)
  only_write (Err _) m bytes old new may (inr (inr is)) = subst (λ (l : Trace). WritesOnly May old l) (sym is) (only_perhaps old m bytes may)

  -- what a read returns is such a mix
  pub reads_blend : (old new : Trace) → WritesOnly May old new → IsMixOf old May (reads new) (items new)
  reads_blend old new w = record { each = λ n. w.holds n (reads new n) (may_hold-reads new n); handed_is = w.items_are }

  -- and so is each stop up to a sync and at it
  pub only_sync : (old mid : Trace) → WritesOnly May old mid → IsContinuation old (Synced mid) (IsMixOf old May)
  only_sync old mid w = joined old mid (Synced mid) (IsMixOf old May) w.stops
      (on_sync mid (IsMixOf old May)
      (λ image handed s. record {
        each = λ n. w.holds n (image n)
            (subst (λ (c : List ℕ). MayHold mid n c) (sym (s.0 n)) (may_hold-reads mid n));
        handed_is = s.1
            ∙ w.items_are;
      }))

  -- a sequence continues over a sync
  pub only_synced : (old mid : Trace) → WritesOnly May old mid → WritesOnly May old (Synced mid)
  only_synced old mid w = record {
    stops = only_sync old mid w;
    holds = λ n c h. w.holds n c (subst (λ (x : List ℕ). MayHold mid n x) (sym h) (may_hold-reads mid n));
    items_are = w.items_are;
  }

  -- also over a sync that fails
  pub only_syncs : {T E : Type 0} (result : Result T E) (old mid new : Trace) → WritesOnly May old mid → SyncSpec result mid new → WritesOnly May old new
  only_syncs (Ok _) old mid new w is = subst (λ (l : Trace). WritesOnly May old l) (sym is) (only_synced old mid w)
  only_syncs (Err _) old mid new w is = subst (λ (l : Trace). WritesOnly May old l) (sym is) w

-- from fewer allowed contents to more
pub only_wider : (Fewer More : ℕ → List ℕ → Type 0) (old new : Trace)
    → ((n : ℕ) (c : List ℕ) → Fewer n c → More n c) → WritesOnly Fewer old new → WritesOnly More old new
only_wider Fewer More old new wider w = record {
  stops = weaker old new (IsMixOf old Fewer) (IsMixOf old More) w.stops
      (λ image handed b. record {
        each = λ n. ⊎_elim (λ was. inl was) (λ may. inr (wider n (image n) may))
            (b.each n);
        handed_is = b.handed_is;
      });
  holds = λ n c h. ⊎_elim (λ was. inl was) (λ may. inr (wider n c may)) (w.holds n c h);
  items_are = w.items_are;
}
