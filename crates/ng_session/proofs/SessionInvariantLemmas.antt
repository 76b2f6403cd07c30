-- The invariant of a session holds, with a block and without one.
use Rattle.std.proofs.Common.{◌≡◌, ◌≢◌, refl, ◌<◌, ℕ, Bool, true, not, ◌&&◌, List, Option, None, Some, sym, subst, arith}
use Rattle.std.specs.Option.{is_none, option_map}
use Rattle.ng_canon.specs.declared.item.Item.{Item}
use Rattle.ng_canon.specs.declared.segment.Segment.{Segment}
use Rattle.ng_num.specs.declared.point.Point.{Point}
use Rattle.ng_layout.specs.Storable.{IsStorableHalf}
use Rattle.ng_layout.specs.Stored.{HalfModel, StoredModel}
use Rattle.ng_layout.specs.Update.{UpdateModel, updated}
use Rattle.ng_session.specs.BareBlock.{BareBlock, block_on, IsReady}
use Rattle.ng_session.specs.Session.{CurrentBlockModel, SessionModel}
use Rattle.ng_session.specs.Ticking.{after_current_approach, committed_on}
use Rattle.ng_session.specs.SessionInvariant.{IsNextEntry, IsSessionInvariant}
use Rattle.ng_session.specs.declared.stage.Stage.{Stage}
use Rattle.ng_session.specs.declared.stage.Stage.TheVariants as stage
use Rattle.ng_session.proofs.StorableStateLemmas.{half_storable}

pub holds_free : (f : BareBlock → CurrentBlockModel) (x : StoredModel) (o : Option BareBlock) (runs held half : Bool)
    → is_none (option_map f o) && not runs && not held && half ≡ true → IsSessionInvariant x None → IsSessionInvariant x o
holds_free f x None runs held half free valid = valid
holds_free f x (Some b) runs held half free valid = cc

-- a block was begun
pub holds_ready : (x : StoredModel) (o : Option BareBlock) (b : BareBlock) → IsSessionInvariant x o → IsReady x b → IsSessionInvariant x (Some b)
holds_ready x o b valid ready = record { count = valid.count; storable = valid.storable; ready = ready }

-- the approach or a segment of the block is opened
pub holds_open : (x : StoredModel) (half : HalfModel) (b c : BareBlock) (g : Stage) (index : ℕ) (left : List Segment) (items : List Item)
    → IsSessionInvariant x (Some b) → IsStorableHalf half
    → c ≡ record b { stage = g; index = index; left = left; items = items }
    → IsSessionInvariant (record x { half = Some half }) (Some c)
holds_open x half b c g index left items valid waits is = record {
  count = valid.count;
  storable = half_storable x half valid.storable waits;
  ready = subst (λ (z : BareBlock). IsReady (record x { half = Some half }) z) (sym is)
      (record { settled = valid.ready.settled; modal = valid.ready.modal; place = valid.ready.place; text = valid.ready.text });
}

-- an update is taken, and no block is left
pub holds_alone : (x y : StoredModel) (u : UpdateModel) → x.entries < 1_000_000_000_000 → IsNextEntry x u → y ≡ updated x u → IsSessionInvariant y None
holds_alone x y u count next is =
    let P : StoredModel → Type 0 = λ z. IsSessionInvariant z None in
    subst P (sym is) (record { count = omega (arith, count, next.count); storable = next.storable; ready = tt })

pub holds_update : (f : BareBlock → CurrentBlockModel) (x y : StoredModel) (o : Option BareBlock) (u : UpdateModel)
    → option_map f o ≡ None → x.entries < 1_000_000_000_000 → IsNextEntry x u → y ≡ updated x u → IsSessionInvariant y o
holds_update f x y None u free count next is = holds_alone x y u count next is
holds_update f x y (Some b) u free count next is = cc

-- the approach is committed, and its block goes on
pub holds_approach : (s : SessionModel) (y : StoredModel) (b : BareBlock) (u : UpdateModel) (g : Stage)
    → s.stored.entries < 1_000_000_000_000 → IsNextEntry s.stored u → y ≡ updated s.stored u
    → updated s.stored u ≡ (committed_on s (block_on s.stored.setup.params b) g).stored → g ≢ stage.OnBlock
    → IsReady s.stored b → IsSessionInvariant y (Some (record b { stage = stage.OnBlock }))
holds_approach s y b u g count next is made off ready = by g made off
  where
    there : (point : Point) → updated s.stored u ≡ after_current_approach s.stored (block_on s.stored.setup.params b) point
        → IsSessionInvariant y (Some (record b { stage = stage.OnBlock }))
    there point way =
        let P : StoredModel → Type 0 = λ z. IsSessionInvariant z (Some (record b { stage = stage.OnBlock })) in
        let Q : StoredModel → Type 0 = λ z. IsReady z (record b { stage = stage.OnBlock }) in
        subst P (sym is) (record {
          count = omega (arith, count, next.count);
          storable = next.storable;
          ready = subst Q (sym way) (record { settled = ready.settled; modal = ready.modal; place = ready.place; text = ready.text });
        })

    by : (g : Stage) → updated s.stored u ≡ (committed_on s (block_on s.stored.setup.params b) g).stored → g ≢ stage.OnBlock
        → IsSessionInvariant y (Some (record b { stage = stage.OnBlock }))
    by (stage.ToApproach a) made off = there a.to.point made
    by (stage.OnApproach a) made off = there a.to.point made
    by stage.OnBlock made off = absurd (off refl)
