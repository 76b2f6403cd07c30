-- One more item is handed out, or one can't be.
use Rattle.std.proofs.Common.{◌≡◌, ◌⊎◌, inl, inr, ℕ, Bool, true, false, List, [], ◌∷◌, ◌++◌, Option, None, Some, Result, Ok, Err}
use Rattle.std.proofs.Common.{OnOk, OnErr, refl, sym, ◌∙◌, ap, subst, append-nil, take, is_err, is_ok}
use Rattle.std.proofs.lemmas.Grind.{flat_map-append}
use Rattle.std.specs.Io.KnownBytes.{Appends}
use Rattle.ng_canon.specs.declared.item.Item.{Item}
use Rattle.ng_lines.specs.Lines.{item_line}
use Rattle.ng_rig.specs.Calls.{SyncSpec}
use Rattle.ng_rig.specs.Trace.{Trace, items}
use Rattle.ng_file.specs.Bytes.{AppendsBeginning}
use Rattle.ng_file.specs.HandOuts.{AreGiven, lines_of}
use Rattle.ng_streams.proofs.KnownBytesLemmas.{Appends-trans}

lines_of-more : (given : List Item) (item : Item) → lines_of (given ++ item ∷ []) ≡ lines_of given ++ item_line item
lines_of-more given item = flat_map-append item_line given (item ∷ []) ∙ ap (λ (l : List ℕ). lines_of given ++ l) (append-nil (item_line item))

-- no line was cut off, so nothing follows the lines
no-rest : {rest : List ℕ} {P : Type 0} (cut : Bool) → cut ≡ false → (rest ≡ []) ⊎ ((cut ≡ true) × P) → rest ≡ []
no-rest cut is (inl none) = none
no-rest cut is (inr part) = absurd (cc)

whole : {first now : Option (List ℕ)} {given : List Item} {cut : Bool} → AreGiven first now given cut → cut ≡ false → Appends first now (lines_of given)
whole {first} {now} {given} {cut} g is =
    subst (Appends first now) (ap (λ (l : List ℕ). lines_of given ++ l) (no-rest cut is g.is_part) ∙ append-nil (lines_of given)) g.bytes

module _ {first old new : Option (List ℕ)} {given : List Item} {was : Bool} (item : Item) (before : AreGiven first old given was) where
  next : was ≡ false → Appends old new (item_line item) → AreGiven first new (given ++ item ∷ []) false
  next none line =
      record {
        rest = [];
        bytes =
            subst (Appends first new) (sym (append-nil (lines_of (given ++ item ∷ [])) ∙ lines_of-more given item))
            (Appends-trans first old new (lines_of given) (item_line item) (whole before none) line);
        is_part = inl refl;
      }

  part : was ≡ false → AppendsBeginning old new (item_line item) → AreGiven first new given true
  part none line =
      record {
        rest = take line.0 (item_line item);
        bytes = Appends-trans first old new (lines_of given) (take line.0 (item_line item)) (whole before none) line.1;
        is_part = inr (refl, (item, line.0, refl));
      }

-- the same bytes and items
pub given-same : {first old new : Option (List ℕ)} {before after : List Item} {was is : Bool} → new ≡ old → after ≡ before → is ≡ was
    → AreGiven first old before was → AreGiven first new after is
given-same {first} {old} {new} {before} {after} {was} {is} bytes same cut g =
    subst (λ (n : Option (List ℕ)). AreGiven first n after is) (sym bytes)
    (subst (λ (i : List Item). AreGiven first old i is) (sym same) (subst (AreGiven first old before) (sym cut) g))

-- none yet
pub given-none : (first : Option (List ℕ)) (cut : Bool) {given : List Item} → given ≡ [] → AreGiven first first given cut
given-none first cut {given} none = record { rest = []; bytes = subst (λ (i : List Item). Appends first first (lines_of i ++ [])) (sym none) (stays first); is_part = inl refl }
  where
    stays : (held : Option (List ℕ)) → Appends held held []
    stays None = tt
    stays (Some bytes) = sym (append-nil bytes)

module _ {T E : Type 0} (r : Result T E) {first old new : Option (List ℕ)} {before after : List Item} {was is : Bool} (item : Item) where
  -- one that succeeded
  pub given-then : is_ok r ≡ true → OnOk r (Appends old new (item_line item)) → OnOk r (was ≡ false) → is ≡ is_err r → after ≡ before ++ item ∷ []
      → AreGiven first old before was → AreGiven first new after is
  given-then good line none now more g = done r good line none now
    where
      done : (r : Result T E) → is_ok r ≡ true → OnOk r (Appends old new (item_line item)) → OnOk r (was ≡ false) → is ≡ is_err r → AreGiven first new after is
      done (Ok _) good line none now = given-same refl more now (next item g none line)
      done (Err _) good line none now = absurd (cc)

  -- one that failed
  pub given-else : is_ok r ≡ false → OnErr r (AppendsBeginning old new (item_line item)) → is ≡ is_err r → (was ≡ true → new ≡ old) → after ≡ before
      → AreGiven first old before was → AreGiven first new after is
  given-else bad line now stays same g = done r was bad line now stays g
    where
      done : (r : Result T E) (was : Bool) → is_ok r ≡ false → OnErr r (AppendsBeginning old new (item_line item)) → is ≡ is_err r → (was ≡ true → new ≡ old)
          → AreGiven first old before was → AreGiven first new after is
      done (Ok _) was bad line now stays g = absurd (cc)
      done (Err _) true bad line now stays g = given-same (stays refl) same now g
      done (Err _) false bad line now stays g = given-same refl same now (part item g refl line)

-- a sync hands nothing out
pub items-synced : {T E : Type 0} (r : Result T E) (old new : Trace) → SyncSpec r old new → items new ≡ items old
items-synced (Ok _) old new is = ap items is
items-synced (Err _) old new is = ap items is
