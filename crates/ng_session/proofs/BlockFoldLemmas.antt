-- How the current block relates to the fold over what was committed.
use Rattle.std.proofs.Common.{◌≡◌, ◌⊎◌, ℕ, ◌+◌, min, true, false, List, [], ◌∷◌, ◌++◌, drop, length, Option, None}
use Rattle.std.proofs.Common.{Some, Ok, refl, sym, ap, subst, ◌∙◌, inl, inr, append_assoc}
use Rattle.std.proofs.lemmas.List.{append-nil}
use Rattle.ng_num.specs.declared.point.Point.{Point}
use Rattle.ng_canon.specs.declared.item.Item.{Item}
use Rattle.ng_canon.specs.declared.segment.Segment.{Segment}
use Rattle.ng_step.specs.Hands.{hand}
use Rattle.ng_block.specs.Effects.{Done}
use Rattle.ng_text.specs.Programs.{next_line_start}
use Rattle.ng_layout.specs.Stored.{HalfModel, StoredModel, DurableState}
use Rattle.ng_layout.specs.declared.half.Opened.TheVariants as open_part
use Rattle.ng_canon.specs.declared.geometry.Geometry.{Geometry}
use Rattle.ng_session.specs.Entries.{Approached, done_again, place_after, after_block, reached, reached_by, motion_state_before, hand_approach}
use Rattle.ng_session.specs.Session.{CurrentBlockModel, is_idle}
use Rattle.ng_session.specs.Ticking.{greatest_index, half_open, after_current_block, after_current_approach}
use Rattle.ng_session.specs.Fold.{first_to_do, still_to_do, approach_in, approach_to, approach_from, durable_state_reached, after, hand_all, IsBlock}
use Rattle.ng_session.specs.Cuts.{number_after}
use Rattle.ng_session.specs.declared.activity.Activity.{Activity}
use Rattle.ng_session.specs.declared.stage.Approach.{Approach}
use Rattle.ng_session.specs.declared.stage.Stage.{Stage}
use Rattle.ng_session.specs.declared.stage.Stage.TheVariants as stage

-- before the block's first segment
pub record IsFresh (p : DurableState) (given : List Item) (x : StoredModel) (c : CurrentBlockModel) (done : Done) : Type 0 where
  pub stands : x ≡ p.saved
  pub given_is : given ≡ []
  pub items : c.items ≡ []
  pub left : c.left ≡ still_to_do p done
  pub index : c.index ≡ first_to_do p.saved.half

-- what is stored while a given segment of the block is open
abbrev half_at : DurableState → CurrentBlockModel → ℕ → StoredModel
half_at p c n = record p.saved { half = Some (record { text = c.text; source = c.source; index = n; at = None; opened = Some open_part.Segment }) }

-- some segments are done, one is open
pub record IsMidst (q : Geometry) (p : DurableState) (given : List Item) (x : StoredModel) (c : CurrentBlockModel) (done : Done) : Type 0 where
  pub before : List Segment
  pub segment : Segment
  pub begun : List Item
  pub split : still_to_do p done ≡ before ++ segment ∷ c.left
  pub given_is : given ≡ hand_all q before ++ begun
  pub rest : begun ++ c.items ≡ hand segment q
  pub index : c.index ≡ number_after (first_to_do p.saved.half) (before ++ segment ∷ [])
  pub stands : x ≡ record p.saved {
    half = Some (record {
      text = c.text;
      source = c.source;
      index = number_after (first_to_do p.saved.half)
          before;
      at = None;
      opened = Some open_part.Segment;
    });
  }

-- the state after the block is the one that its line leads to
pub record Leaves (p : DurableState) (c : CurrentBlockModel) (done : Done) : Type 0 where
  pub setup : c.setup ≡ done.setup
  pub place : c.place ≡ place_after (next_line_start p.program p.saved.place) p.saved.place c.source done.stop

-- the block is the fold's next one
pub record IsOnBlock (q : Geometry) (lines : List (List ℕ)) (p : DurableState) (given : List Item) (x : StoredModel) (c : CurrentBlockModel) : Type 0 where
  pub done : Done
  pub block : IsBlock q lines p c.source c.text c.block_delete done
  pub leaves : Leaves p c done
  pub stage : IsFresh p given x c done ⊎ IsMidst q p given x c done

-- the half-done block goes on after an approach
pub record IsResumed (q : Geometry) (p : DurableState) (c : CurrentBlockModel) (a : Approach) : Type 0 where
  pub half : HalfModel
  pub held : p.saved.half ≡ Some half
  pub done : Done
  pub does : done_again q p.saved half.text ≡ Ok done
  pub from : half.at ≡ Some a.from
  pub to : a.to ≡ motion_state_before p.saved.setup done half.index
  pub source : c.source ≡ half.source
  pub text : c.text ≡ half.text
  pub block_delete : c.block_delete ≡ false
  pub index : c.index ≡ half.index
  pub left : c.left ≡ drop half.index done.segments
  pub leaves : Leaves p c done

pub record IsBeforeWay (q : Geometry) (p : DurableState) (given : List Item) (x : StoredModel) (c : CurrentBlockModel) (a : Approach) : Type 0 where
  pub resumed : IsResumed q p c a
  pub stands : x ≡ p.saved
  pub given_is : given ≡ []
  pub items : c.items ≡ []

pub record IsOnWay (q : Geometry) (p : DurableState) (given : List Item) (x : StoredModel) (c : CurrentBlockModel) (a : Approach) : Type 0 where
  pub resumed : IsResumed q p c a
  pub stands : x ≡ record p.saved { half = Some (record { text = c.text; source = c.source; index = c.index; at = None; opened = Some open_part.Approach }) }
  pub rest : given ++ c.items ≡ hand_approach q a

abbrev pub IsWorked : Geometry → List (List ℕ) → DurableState → List Item → StoredModel → CurrentBlockModel → Stage → Type 0
IsWorked q lines p given x c (stage.ToApproach a) = IsBeforeWay q p given x c a
IsWorked q lines p given x c (stage.OnApproach a) = IsOnWay q p given x c a
IsWorked q lines p given x c stage.OnBlock = IsOnBlock q lines p given x c

-- with no current block: if a block is half-done, the program wasn't started since
abbrev pub Tied : Geometry → List (List ℕ) → DurableState → List Item → StoredModel → Activity → Option CurrentBlockModel → Type 0
Tied q lines p given x activity None = (x ≡ p.saved) × (given ≡ []) × ((is_idle activity ≡ true) ⊎ (p.saved.half ≡ None))
Tied q lines p given x activity (Some c) = IsWorked q lines p given x c c.stage

-- ---- an item is handed out

resumed_items : (q : Geometry) (p : DurableState) (c : CurrentBlockModel) (a : Approach) (g : Stage)
    (its : List Item) → IsResumed q p c a → IsResumed q p (record c { stage = g; items = its }) a
resumed_items q p c a g its r = record {
  half = r.half;
  held = r.held;
  done = r.done;
  does = r.does;
  from = r.from;
  to = r.to;
  source = r.source;
  text = r.text;
  block_delete = r.block_delete;
  index = r.index;
  left = r.left;
  leaves = record { setup = r.leaves.setup; place = r.leaves.place };
}

item_stage : (q : Geometry) (p : DurableState) (given : List Item) (x : StoredModel) (c : CurrentBlockModel) (done : Done) (item : Item) (rest : List Item)
    → IsFresh p given x (record c { items = item ∷ rest }) done ⊎ IsMidst q p given x (record c { items = item ∷ rest }) done
    → IsFresh p (given ++ item ∷ []) x (record c { items = rest }) done ⊎ IsMidst q p (given ++ item ∷ []) x (record c { items = rest }) done
item_stage q p given x c done item rest (inl f) = absurd (let none : item ∷ rest ≡ [] = f.items in cc)
item_stage q p given x c done item rest (inr m) = inr (record {
  before = m.before;
  segment = m.segment;
  begun = m.begun ++ item ∷ [];
  split = m.split;
  given_is = ap (λ l. l ++ item ∷ []) m.given_is ∙ append_assoc (hand_all q m.before) m.begun (item ∷ []);
  rest = append_assoc m.begun (item ∷ []) rest ∙ m.rest;
  index = m.index;
  stands = m.stands;
})

pub worked_item : (q : Geometry) (lines : List (List ℕ)) (p : DurableState) (given : List Item) (x : StoredModel)
    (c : CurrentBlockModel) (item : Item) (rest : List Item) (g : Stage)
    → IsWorked q lines p given x (record c { items = item ∷ rest }) g → IsWorked q lines p (given ++ item ∷ []) x (record c { items = rest }) g
worked_item q lines p given x c item rest (stage.ToApproach a) w = absurd (let none : item ∷ rest ≡ [] = w.items in cc)
worked_item q lines p given x c item rest (stage.OnApproach a) w = record {
  resumed = resumed_items q p (record c { items = item ∷ rest }) a c.stage rest w.resumed;
  stands = w.stands;
  rest = append_assoc given (item ∷ []) rest ∙ w.rest;
}
worked_item q lines p given x c item rest stage.OnBlock w = record {
  done = w.done;
  block = w.block;
  leaves = record { setup = w.leaves.setup; place = w.leaves.place };
  stage = item_stage q p given x c w.done item rest w.stage;
}

-- ---- a segment is opened

pub hand_all-more : (q : Geometry) (ss : List Segment) (s : Segment) → hand_all q (ss ++ s ∷ []) ≡ hand_all q ss ++ hand s q
hand_all-more q [] s = append-nil (hand s q)
hand_all-more q (t ∷ ss) s = ap (λ l. hand t q ++ l) (hand_all-more q ss s) ∙ sym (append_assoc (hand t q) (hand_all q ss) (hand s q))

number_after-more : (n : ℕ) (ss : List Segment) (s : Segment) → number_after n (ss ++ s ∷ []) ≡ min (number_after n ss + 1) greatest_index
number_after-more n [] s = refl
number_after-more n (t ∷ ss) s = number_after-more (min (n + 1) greatest_index) ss s

segment_stage : (q : Geometry) (p : DurableState) (given : List Item) (x : StoredModel) (c : CurrentBlockModel)
    (done : Done) (segment : Segment) (left : List Segment)
    → IsFresh p given x (record c { items = []; left = segment ∷ left }) done ⊎ IsMidst q p given x (record c { items = []; left = segment ∷ left }) done
    → IsMidst q p (given ++ []) (record x { half = Some (half_open c open_part.Segment) })
    (record c { index = min (c.index + 1) greatest_index; left = left; items = hand segment q }) done
segment_stage q p given x c done segment left (inl f) =
    let stored : record x { half = Some (half_open c open_part.Segment) } ≡ half_at p c c.index =
    ap (λ (y : StoredModel). let z : StoredModel = record y { half = Some (half_open c open_part.Segment) } in
    z) f.stands in
    record {
      before = [];
      segment = segment;
      begun = [];
      split = sym f.left;
      given_is = append-nil given ∙ f.given_is;
      rest = refl;
      index = ap (λ n. min (n + 1) greatest_index) f.index;
      stands = stored ∙ ap (half_at p c) f.index;
    }
segment_stage q p given x c done segment left (inr m) =
    let whole : m.begun ≡ hand m.segment q = sym (append-nil m.begun) ∙ m.rest in
    let stored : record x { half = Some (half_open c open_part.Segment) } ≡ half_at p c c.index =
    ap (λ (y : StoredModel). let z : StoredModel = record y { half = Some (half_open c open_part.Segment) } in
    z) m.stands in
    record {
      before = m.before ++ m.segment ∷ [];
      segment = segment;
      begun = [];
      split = m.split ∙ sym (append_assoc m.before (m.segment ∷ []) (segment ∷ left));
      given_is = append-nil given ∙ m.given_is ∙ ap (λ l. hand_all q m.before ++ l) whole
          ∙ sym (hand_all-more q m.before m.segment) ∙ sym (append-nil (hand_all q (m.before ++ m.segment ∷ [])));
      rest = refl;
      index = ap (λ n. min (n + 1) greatest_index) m.index ∙ sym (number_after-more (first_to_do p.saved.half) (m.before ++ m.segment ∷ []) segment);
      stands = stored ∙ ap (half_at p c) m.index;
    }

pub worked_segment : (q : Geometry) (lines : List (List ℕ)) (p : DurableState) (given : List Item) (x : StoredModel)
    (c : CurrentBlockModel) (segment : Segment) (left : List Segment)
    → IsOnBlock q lines p given x (record c { items = []; left = segment ∷ left })
    → IsOnBlock q lines p (given ++ []) (record x { half = Some (half_open c open_part.Segment) })
    (record c { index = min (c.index + 1) greatest_index; left = left; items = hand segment q })
worked_segment q lines p given x c segment left w = record {
  done = w.done;
  block = w.block;
  leaves = record { setup = w.leaves.setup; place = w.leaves.place };
  stage = inr (segment_stage q p given x c w.done segment left w.stage);
}

-- nothing is left: all items of the block were handed out

pub all_given : (q : Geometry) (p : DurableState) (given : List Item) (x : StoredModel) (c : CurrentBlockModel) (done : Done)
    → IsFresh p given x (record c { items = []; left = [] }) done
    ⊎ IsMidst q p given x (record c { items = []; left = [] }) done → given ≡ hand_all q (still_to_do p done)
all_given q p given x c done (inl f) = f.given_is ∙ ap (hand_all q) f.left
all_given q p given x c done (inr m) =
    let whole : m.begun ≡ hand m.segment q = sym (append-nil m.begun) ∙ m.rest in
    m.given_is ∙ ap (λ l. hand_all q m.before ++ l) whole ∙ sym (hand_all-more q m.before m.segment) ∙ ap (hand_all q) (sym m.split)

-- the state after the block
leaves_block : (p : DurableState) (x : StoredModel) (c : CurrentBlockModel) (done : Done)
    → x.entries ≡ p.saved.entries → x.length ≡ p.saved.length → x.tools ≡ p.saved.tools → x.program_limit ≡ p.saved.program_limit
    → Leaves p c done
    → after_current_block x c ≡ after_block (next_line_start p.program p.saved.place) p.saved c.source done
leaves_block p x c done entries length tools program_limit l = λ i.
    record {
      entries = entries i + 1;
      setup = l.setup i;
      tools = tools i;
      place = l.place i;
      length = length i;
      program_limit = program_limit i;
      half = None;
    }

pub after_is_it : (q : Geometry) (p : DurableState) (given : List Item) (x : StoredModel) (c : CurrentBlockModel)
    (done : Done) → Leaves p c done → IsFresh p given x c done ⊎ IsMidst q p given x c done
    → after_current_block x c ≡ after_block (next_line_start p.program p.saved.place) p.saved c.source done
after_is_it q p given x c done l (inl f) = leaves_block p x c done (ap (λ (y : StoredModel). y.entries) f.stands)
    (ap (λ (y : StoredModel). y.length) f.stands) (ap (λ (y : StoredModel). y.tools) f.stands)
    (ap (λ (y : StoredModel). y.program_limit) f.stands) l
after_is_it q p given x c done l (inr m) = leaves_block p x c done (ap (λ (y : StoredModel). y.entries) m.stands)
    (ap (λ (y : StoredModel). y.length) m.stands) (ap (λ (y : StoredModel). y.tools) m.stands)
    (ap (λ (y : StoredModel). y.program_limit) m.stands) l

-- ---- the approach

pub worked_way : (q : Geometry) (p : DurableState) (given : List Item) (x : StoredModel) (c : CurrentBlockModel)
    (a : Approach) → IsBeforeWay q p given x (record c { items = [] }) a
    → IsOnWay q p (given ++ []) (record x { half = Some (half_open c open_part.Approach) })
    (record c { stage = stage.OnApproach a; items = hand_approach q a }) a
worked_way q p given x c a w = record {
  resumed = resumed_items q p (record c { items = [] }) a (stage.OnApproach a) (hand_approach q a) w.resumed;
  stands = ap (λ (y : StoredModel). let z : StoredModel = record y { half = Some (half_open c open_part.Approach) } in z) w.stands;
  rest = ap (λ l. l ++ hand_approach q a) (append-nil given ∙ w.given_is);
}

-- the approach is the one that the fold has
pub way_is : (q : Geometry) (p : DurableState) (c : CurrentBlockModel) (a : Approach) → IsResumed q p c a → approach_in q p ≡ Some a
way_is q p c a r =
    ap (approach_to q p.saved) r.held ∙ ap (λ (o : Option Point). approach_from p.saved r.half o (done_again q p.saved r.half.text)) r.from
    ∙ ap (approach_from p.saved r.half (Some a.from)) r.does ∙ (λ i. Some (record { from = a.from; to = sym r.to i }))

-- the fold's state after the approach
abbrev stands_reached : DurableState → HalfModel → Point → DurableState
stands_reached p half point = record p { saved = reached p.saved half point }

pub way_done : (q : Geometry) (p : DurableState) (c : CurrentBlockModel) (a : Approach) (r : IsResumed q p c a)
    → after q p Approached ≡ stands_reached p r.half a.to.point
way_done q p c a r =
    ap (durable_state_reached p) (way_is q p c a r)
    ∙ ap (λ (o : Option HalfModel). let z : DurableState = record p { saved = reached_by p.saved o a.to.point } in z) r.held

again_same : (q : Geometry) (x y : StoredModel) (text : List ℕ) → x.setup ≡ y.setup → x.tools ≡ y.tools → done_again q x text ≡ done_again q y text
unfolding done_again
again_same q x y text same tools = rw (same, tools) refl

on_block : (q : Geometry) (lines : List (List ℕ)) (p : DurableState) (c : CurrentBlockModel) (a : Approach)
    (r : IsResumed q p c a) → IsBlock q lines (stands_reached p r.half a.to.point) c.source c.text c.block_delete
    r.done
on_block q lines p c a r = record {
  does = ap (done_again q (stands_reached p r.half a.to.point).saved) r.text
      ∙ again_same q (stands_reached p r.half a.to.point).saved p.saved r.half.text refl refl ∙ r.does;
  text_is = (r.source, r.block_delete, (r.text, ap (λ (t : Rattle.ng_cycles.specs.declared.motion_state.MotionState.MotionState). Some t.point) r.to));
}

pub worked_block : (q : Geometry) (lines : List (List ℕ)) (p : DurableState) (x : StoredModel)
    (c : CurrentBlockModel) (a : Approach) (given : List Item) (w : IsOnWay q p given x (record c { items = [] }) a)
    → IsOnBlock q lines (after q p Approached) [] (after_current_approach x c a.to.point) (record c { stage = stage.OnBlock; items = [] })
worked_block q lines p x c a given w =
    let r = w.resumed in
    let same : after_current_approach x c a.to.point ≡ (stands_reached p r.half a.to.point).saved =
    ap (λ (y : StoredModel). after_current_approach y c a.to.point) w.stands
    ∙ (λ i. record p.saved {
      entries = p.saved.entries + 1;
      half = Some (record { text = r.text i; source = r.source i; index = r.index i; at = Some a.to.point; opened = None });
    }) in
    subst (λ (z : DurableState). IsOnBlock q lines z [] (after_current_approach x c a.to.point)
    (record c { stage = stage.OnBlock; items = [] })) (sym (way_done q p (record c { items = [] }) a r))
    (record {
      done = r.done;
      block = on_block q lines p (record c { items = [] }) a r;
      leaves = record { setup = r.leaves.setup; place = r.leaves.place };
      stage = inl (record { stands = same; given_is = refl; items = refl; left = r.left; index = r.index });
    })
