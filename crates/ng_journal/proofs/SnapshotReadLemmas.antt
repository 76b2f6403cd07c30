-- Reading a snapshot: its state field, then its parameters.
use Rattle.std.proofs.Common.{◌≡◌, ℕ, ◌+◌, List, [], ℤ, Bool, true, false, Option, Some, None, sym, ◌∙◌, ap, subst, arith}
use Rattle.ng_rig.specs.Trace.{Trace, Image, reads}
use Rattle.ng_layout.specs.Decoding.{and_then, decoded_state_of}
use Rattle.ng_layout.specs.Log.{ReplayState}
use Rattle.ng_layout.specs.Sectors.{values}
use Rattle.ng_layout.specs.Snapshot.{decoded_state_in}
use Rattle.ng_layout.specs.Areas.{snapshot_first, snapshot_size, tools_first, tools_size}
use Rattle.ng_layout.specs.Tools.{tools_in}
use Rattle.ng_layout.specs.declared.header.Header.{Header}
use Rattle.ng_layout.specs.declared.header.Format.{Format}
use Rattle.ng_layout.specs.declared.header.Format.TheVariants.{One, Two}
use Rattle.std.specs.Prelude.{MatchBool}
use Rattle.ng_layout.specs.Stands.{all_counts, snapshot, stretch}
use Rattle.ng_layout.specs.Stored.{DecodedStateModel, StoredModel}
use Rattle.ng_layout.proofs.ImageLemmas.{stretch-at}
use Rattle.ng_journal.specs.Private.SnapshotRead.{IsTableOf, IsToolsOf, IsSnapshotOf}

-- the parameters read, with what the state field says
abbrev pub taken : List ℤ → List ℤ → DecodedStateModel → ℕ → ℕ → StoredModel
taken table tools r length most = record {
  entries = r.entries;
  setup = record { params = table; modal = r.modal };
  tools = tools;
  place = r.place;
  length = length;
  program_limit = most;
  half = r.half;
}

row-first : (first : ℕ) (image : Image) (bytes : List ℕ) → bytes ≡ image first → stretch first snapshot_size image 0 ≡ bytes
row-first first image bytes is =
    let place : first + 0 ≡ first = omega arith in
    stretch-at first snapshot_size image 0 (omega arith) ∙ ap image place ∙ sym is

module _ (header : Header) (image : Image) (bytes : List ℕ) (o : Option DecodedStateModel)
    (there : bytes ≡ image (snapshot_first header.epoch)) (is : o ≡ decoded_state_of header.length bytes) where
  abbrev row : ℕ → List ℕ
  row = stretch (snapshot_first header.epoch) snapshot_size image

  abbrev area : ℕ → List ℕ
  area = stretch (tools_first header.epoch) tools_size image

  decoded-at : (v : Option DecodedStateModel) → o ≡ v → decoded_state_of header.length (row 0) ≡ v
  decoded-at v o_is = ap (λ (s : List ℕ). decoded_state_of header.length s) (row-first (snapshot_first header.epoch) image bytes there) ∙ sym is ∙ o_is

  pub no_state : (saved : StoredModel) → o ≡ None → IsSnapshotOf header saved image false
  unfolding snapshot
  no_state saved none =
      let e = decoded-at None none in
      λ i. and_then (e i) (λ decoded. and_then (all_counts (values 5399 row))
      (λ params. and_then (tools_in header.format (row 0) area)
      (λ tools. Some (record { decoded = decoded; params = params; tools = tools }))))

  module _ (r : DecodedStateModel) (some : o ≡ Some r) where
    pub no_table : (table : List ℤ) (saved : StoredModel) → IsTableOf (snapshot_first header.epoch) table image false → IsSnapshotOf header saved image false
    unfolding snapshot
    no_table table saved none =
        let e = decoded-at (Some r) some in
        λ i. and_then (e i) (λ decoded.
        and_then (none i) (λ params. and_then (tools_in header.format (row 0) area)
        (λ tools. Some (record { decoded = decoded; params = params; tools = tools }))))

    tools-at : (v : Option (List ℤ)) → tools_in header.format bytes area ≡ v → tools_in header.format (row 0) area ≡ v
    tools-at v t = ap (λ (s : List ℕ). tools_in header.format s area) (row-first (snapshot_first header.epoch) image bytes there) ∙ t

    module _ (table tools : List ℤ) (whole : IsTableOf (snapshot_first header.epoch) table image true) where
      counted : all_counts (values 5399 row) ≡ Some table
      counted = whole.1 ∙ ap (λ (xs : List ℤ). Some xs) (sym whole.0)

      pub no_tools : (saved : StoredModel) → IsToolsOf header bytes tools image false → IsSnapshotOf header saved image false
      unfolding snapshot
      no_tools saved none =
          let e = decoded-at (Some r) some in
          let n = tools-at None none in
          λ i. and_then (e i) (λ decoded.
          and_then (counted i) (λ params.
          and_then (n i) (λ tools. Some (record { decoded = decoded; params = params; tools = tools }))))

      pub whole_snapshot : (new : StoredModel) (most : ℕ) → IsToolsOf header bytes tools image true
          → new ≡ taken table tools r header.length most → IsSnapshotOf header new image true
      unfolding snapshot
      whole_snapshot new most found after =
          let e = decoded-at (Some r) some in
          let t = tools-at (Some tools) found in
          let made : snapshot header.format header.length row area ≡ Some
          (record { decoded = r; params = table; tools = tools }) = λ i.
          and_then (e i) (λ decoded.
          and_then (counted i) (λ params.
          and_then (t i) (λ tools. Some (record { decoded = decoded; params = params; tools = tools })))) in
          let same : ◌≡◌ {A = ReplayState} (record { decoded = r; params = table; tools = tools })
          (record { decoded = decoded_state_in new; params = new.setup.params; tools = new.tools }) = λ i.
          let s = sym after i in record {
            decoded = decoded_state_in s;
            params = s.setup.params;
            tools =
                s.tools;
          } in
          (made ∙ ap (λ (f : ReplayState). Some f) same, ap (λ (s : StoredModel). s.length) after)

-- what was read, with its result, if the device has not changed
pub table_as : (first area : ℕ) (table : List ℤ) (old mid : Trace) (b v : Bool) → first ≡ area → mid ≡ old → b ≡ v
    → IsTableOf first table (reads mid) b → IsTableOf area table (reads old) v
table_as first area table old mid b v place same is t = subst (λ (x : Bool). IsTableOf area table (reads old) x) is
    (subst (λ (n : ℕ). IsTableOf n table (reads old) b) place
    (subst (λ (l : Trace). IsTableOf first table (reads l) b) same t))

pub tools_as : (header : Header) (bytes : List ℕ) (tools : List ℤ) (old mid : Trace) (b v : Bool) → mid ≡ old
    → b ≡ v → IsToolsOf header bytes tools (reads mid) b → IsToolsOf header bytes tools (reads old) v
tools_as header bytes tools old mid b v same is t = subst (λ (x : Bool). IsToolsOf header bytes tools (reads old) x)
    is (subst (λ (l : Trace). IsToolsOf header bytes tools (reads l) b) same t)

pub snapshot_as : (header : Header) (saved : StoredModel) (image : Image) (b v : Bool) → b ≡ v
    → IsSnapshotOf header saved image v → IsSnapshotOf header saved image b
snapshot_as header saved image b v is s = subst (λ (x : Bool). IsSnapshotOf header saved image x) (sym is) s

-- the tool table of a header: empty in format 1, that of its area in format 2
pub no_table_in_one : (header : Header) (bytes : List ℕ) (tools : List ℤ) (image : Image) → header.format ≡ One
    → tools ≡ [] → IsToolsOf header bytes tools image true
no_table_in_one header bytes tools image one none =
    ap (λ (f : Format). tools_in f bytes (stretch (tools_first header.epoch) tools_size image)) one
    ∙ ap (λ (l : List ℤ). Some l) (sym none)

pub table_in_two : (header : Header) (bytes lower upper : List ℕ) (tools : List ℤ) (old mid : Trace) (at : ℕ)
    (b : Bool) → header.format ≡ Two → at ≡ tools_first header.epoch → mid ≡ old → lower ≡ reads old at
    → upper ≡ reads mid (at + 1)
    → ((area : ℕ → List ℕ) → area 0 ≡ lower → area 1 ≡ upper → MatchBool b (tools_in Two bytes area ≡ Some tools)
    (tools_in Two bytes area ≡ None)) → IsToolsOf header bytes tools (reads old) b
table_in_two header bytes lower upper tools old mid at b two place same low high found =
    let area = stretch (tools_first header.epoch) tools_size (reads old) in
    let first : tools_first header.epoch + 0 ≡ at = omega arith in
    let second : tools_first header.epoch + 1 ≡ at + 1 = omega arith in
    let zero_is : area 0 ≡ lower = stretch-at (tools_first header.epoch) tools_size (reads old) 0 (omega arith) ∙ ap (reads old) first ∙ sym low in
    let one_is : area 1 ≡ upper = stretch-at (tools_first header.epoch) tools_size (reads old) 1 (omega arith)
    ∙ ap (reads old) second ∙ ap (λ (l : Trace). reads l (at + 1)) (sym same) ∙ sym high in
    subst (λ (f : Format). MatchBool b (tools_in f bytes area ≡ Some tools) (tools_in f bytes area ≡ None)) (sym two) (found area zero_is one_is)
