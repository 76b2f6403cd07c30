-- Images of format 2: over them any table of the settings may be named. And which images have the same format.
use Rattle.std.proofs.Common.{◌≡◌, ℕ, ℤ, suc, Option, None, Some, List}
use Rattle.std.proofs.Common.{◌∷◌, length, Result, Ok, Err, refl, sym, ◌∙◌, ap, arith}
use Rattle.std.specs.Prelude.{pos}
use Rattle.ng_num.specs.declared.fault.Fault.{Fault}
use Rattle.ng_num.specs.declared.fault.Fault.TheVariants.{NotFormatted}
use Rattle.ng_rig.specs.Trace.{Image, Trace, reads}
use Rattle.ng_layout.specs.declared.header.Format.{Format}
use Rattle.ng_layout.specs.declared.header.Format.TheVariants.{One, Two}
use Rattle.ng_layout.specs.declared.header.Header.{Header}
use Rattle.ng_layout.specs.Stands.{in_force, stands, stands_beside, beside_header, beside_format, IsModern, IsWritten}
use Rattle.ng_layout.specs.Stored.{DurableState}
use Rattle.ng_journal.specs.AtRest.{IsImageUnder}
use Rattle.ng_journal.specs.Formatting.{FormatSpec, first_header, fresh_standing}
use Rattle.ng_journal.specs.Growth.{StandsGrown}
use Rattle.ng_journal.specs.Recovery.{IsTableOver}
use Rattle.ng_journal.proofs.FoundStateLemmas.{none_found}
use Rattle.ng_journal.proofs.AtRestLemmas.{at_rest}
use Rattle.ng_journal.proofs.RestoreLemmas.{beside-under}

ok_is : {u v : DurableState} → (let a : Result DurableState Fault = Ok u in a) ≡ Ok v → u ≡ v
ok_is e = cc

no_state : (r : Result DurableState Fault) (y : DurableState) (e : Fault) → r ≡ Ok y → r ≡ Err e → ⊥
no_state r y e p q = cc

-- over format 1 the tools are those of the table
one_table : (tools : List ℤ) (r : Result DurableState Fault) (h : Header) (y : DurableState)
    → h.format ≡ One → beside_header tools (Some h) r ≡ Ok y → y.saved.tools ≡ tools
one_table tools (Ok z) h y one is =
    ap (λ (u : DurableState). u.saved.tools) (sym (ok_is is)) ∙ ap (λ (f : Format). (beside_format tools f z).saved.tools) one
one_table tools (Err e) h y one is = absurd (cc)

-- so an image with other tools is of format 2
pub own_tools : (image : Image) (tools : List ℤ) (y : DurableState) → stands_beside tools image ≡ Ok y → (y.saved.tools ≡ tools → ⊥) → IsModern image
unfolding stands_beside
own_tools image tools y is other = go (in_force image) refl
  where
    by : (h : Header) → in_force image ≡ Some h → (f : Format) → h.format ≡ f → IsModern image
    by h some One one = absurd (other (one_table tools (stands image) h y one (sym (beside-under tools image h some) ∙ is)))
    by h some Two two = record { header = h; force = some; format = two }

    go : (o : Option Header) → in_force image ≡ o → IsModern image
    go None none =
        let state : stands image ≡ Ok y = sym (λ i. beside_header tools (none i) (stands image)) ∙ is in
        absurd (no_state (stands image) y NotFormatted state (none_found image None (sym none) refl))
    go (Some h) some = by h some h.format refl

-- a table with one more slot is another
pub longer : (tools : List ℤ) → (tools ≡ pos 0 ∷ tools → ⊥)
longer tools e = let n : length tools ≡ suc (length tools) = ap (λ (l : List ℤ). length l) e in omega arith

-- over format 2 any table may be named
pub any_table : (given tools : List ℤ) (image : Image) → IsModern image → IsTableOver given tools image
any_table given tools image m header force format = absurd (cc (m.force, m.format))

-- ---- a grown device is of the format that it was

pub table_same : (found left : Image) → StandsGrown left found → (given table : List ℤ) → IsTableOver given table left → IsTableOver given table found
table_same found left g given table over header force format = over header (sym g.force ∙ force) format

pub modern_same : (found left : Image) → StandsGrown left found → IsModern left → IsModern found
modern_same found left g m = record { header = m.header; force = g.force ∙ m.force; format = m.format }

-- ---- a formatted device is of format 2

pub record IsFresh (most : ℕ) (image : Image) : Type 0 where
  pub modern : IsModern image
  pub state : stands image ≡ Ok (fresh_standing most)
  pub written : IsWritten image

pub formatted_stands : (v : Unit {0}) (most : ℕ) (old new : Trace)
    → (let ok : Result (Unit {0}) Fault = Ok v in FormatSpec ok most old new) → IsFresh most (reads new)
formatted_stands v most old new f =
    let r : IsImageUnder new first_header (fresh_standing most) = at_rest new first_header (fresh_standing most) f.at in
    record { modern = record { header = first_header; force = r.force; format = refl }; state = r.stands_for; written = r.written }
