-- What was read from a log, step by step.
use Rattle.std.proofs.Common.{◌≡◌, inl, inr, ℕ, ◌+◌, ◌-◌, ◌*◌, ◌<◌, min, Bool, true, false, List, [], ◌∷◌, ◌++◌}
use Rattle.std.proofs.Common.{length, drop, ℤ, Option, Some, None, refl, sym, ◌∙◌, ap, subst, arith}
use Rattle.ng_params.specs.Change.{with_changes}
use Rattle.ng_params.specs.Params.{with_value}
use Rattle.ng_params.specs.declared.change.Change.{Change}
use Rattle.ng_rig.specs.Trace.{Trace, Image, reads}
use Rattle.ng_layout.specs.Log.{PartHeader, is_part, parts_stand, changes_of, ReplayState}
use Rattle.ng_layout.specs.Part.{changes_in, Makes}
use Rattle.ng_layout.specs.Decoding.{and_then, decoded_state_of}
use Rattle.ng_layout.specs.Tools.{tools_after}
use Rattle.ng_layout.specs.declared.header.Format.{Format}
use Rattle.std.specs.Prelude.{MatchBool}
use Rattle.ng_layout.specs.Areas.{log_first}
use Rattle.ng_layout.specs.Stored.{DecodedStateModel, StoredModel}
use Rattle.std.proofs.lemmas.Bool.{cases_eq}
use Rattle.std.proofs.lemmas.List.{length-set}
use Rattle.ng_log.specs.AtEnd.{replay_state_in}
use Rattle.ng_log.specs.Private.ReadSteps.{from_log, MakesAll, MakesAllOrDamaged, FindsRecord}
use Rattle.ng_log.proofs.RecordChangeLemmas.{changes-join, no-changes, none-later, then_more}
use Rattle.ng_log.proofs.RecordRunLemmas.{parts-part}

-- a sector read from a device that hasn't changed
pub sector_here : (old mid : Trace) (n m : ℕ) (sector : List ℕ) → n ≡ log_first + m → mid ≡ old → sector ≡ reads mid n → sector ≡ from_log (reads old) m
sector_here old mid n m sector place same is = is ∙ ap (λ (l : Trace). reads l n) same ∙ ap (reads old) place

-- the later parts of a record are there, up to the n-th
abbrev pub StandTo : ℕ → ℕ → PartHeader → Image → Type 0
StandTo n at first image = (j : ℕ) → 0 < j → j < n → is_part (record first { part = j }) (from_log image (at + j)) ≡ true

pub stand_none : (at : ℕ) (first : PartHeader) (image : Image) → StandTo 1 at first image
stand_none at first image = λ j some below. absurd (omega arith)

pub stand_more : (n at : ℕ) (first : PartHeader) (image : Image) (sector : List ℕ) (b : Bool)
    → sector ≡ from_log image (at + n) → b ≡ is_part (record first { part = n }) sector → b ≡ true
    → StandTo n at first image → StandTo (n + 1) at first image
stand_more n at first image sector b there is on before = λ j some below. elim (cases_eq j n) [
  | inl same ↦ subst (λ (k : ℕ). is_part (record first { part = k }) (from_log image (at + k)) ≡ true) (sym same)
      (ap (is_part (record first { part = n })) (sym there) ∙ sym is ∙ on)
  | inr other ↦ before j some (omega arith)
]

not_both : (a b : Bool) → (a ≡ true → b ≡ true) → b ≡ false → a ≡ false
not_both true b imply off = let on = imply refl in cc
not_both false b imply off = refl

pub part_missing : (log : Image) (at : ℕ) (l : PartHeader) (n j : ℕ) (sector : List ℕ) (b : Bool) → j < n
    → sector ≡ log (at + j) → b ≡ is_part (record l { part = j }) sector → b ≡ false
    → parts_stand log at l n ≡ false
part_missing log at l n j sector b lt there is off = not_both (parts_stand log at l n)
    (is_part (record l { part = j }) (log (at + j))) (λ stand. parts-part log at l n j stand lt)
    (ap (is_part (record l { part = j })) (sym there) ∙ sym is ∙ off)

-- The changes of a record, part by part.

with_append : (table : List ℤ) (a b : List Change) → with_changes table (a ++ b) ≡ with_changes (with_changes table a) b
with_append table [] b = refl
with_append table (c ∷ a) b = with_append (with_value table c.index c.value) a b

pub with_long : (table : List ℤ) (changes : List Change) → length (with_changes table changes) ≡ length table
with_long table [] = refl
with_long table (c ∷ changes) = with_long (with_value table c.index c.value) changes ∙ length-set table (c.index - 1) c.value

pub makes_no_changes : (log : Image) (at changes : ℕ) (table : List ℤ) → MakesAll log at (min 0 changes) table table
makes_no_changes log at changes table =
    let none : min 0 changes ≡ 0 = omega arith in
    record { changes = []; there = ap (changes_of log at) none ∙ no-changes log at; is = refl }

pub makes_part : (log : Image) (at i count changes : ℕ) (sector : List ℕ) (old mid new : List ℤ)
    → MakesAll log at (min (48 * i) changes) old mid → 48 * i < changes → count ≡ min 48 (changes - 48 * i)
    → sector ≡ log (at + 1 + i) → Makes sector count mid new → MakesAll log at (min (48 * (i + 1)) changes) old new
makes_part log at i count changes sector old mid new before lt count_is there m =
    let from : 48 * i ≡ min (48 * i) changes = omega arith in
    let to : min (48 * (i + 1)) changes ≡ 48 * i + count = omega arith in
    let first : changes_of log at (48 * i) ≡ Some before.changes = ap (changes_of log at) from ∙ before.there in
    let later : changes_in (log (at + 1 + i)) count ≡ Some m.changes = ap (λ (s : List ℕ). changes_in s count) (sym there) ∙ m.there in
    record {
      changes = before.changes ++ m.changes;
      there = ap (changes_of log at) to ∙ changes-join log at i count (omega arith) ∙ (λ k. then_more (first k) (later k));
      is = m.is ∙ ap (λ (t : List ℤ). with_changes t m.changes) before.is ∙ sym (with_append old before.changes m.changes);
    }

pub damaged_part : (log : Image) (at i count changes : ℕ) (sector : List ℕ) (old mid : List ℤ)
    → MakesAll log at (min (48 * i) changes) old mid → 48 * i < changes → count ≡ min 48 (changes - 48 * i)
    → sector ≡ log (at + 1 + i) → changes_in sector count ≡ None → changes_of log at changes ≡ None
damaged_part log at i count changes sector old mid before lt count_is there none =
    let from : 48 * i ≡ min (48 * i) changes = omega arith in
    let rest : changes ≡ 48 * i + count + (changes - (48 * i + count)) = omega arith in
    let first : changes_of log at (48 * i) ≡ Some before.changes = ap (changes_of log at) from ∙ before.there in
    let later : changes_in (log (at + 1 + i)) count ≡ None = ap (λ (s : List ℕ). changes_in s count) (sym there) ∙ none in
    ap (changes_of log at) rest ∙ none-later log at (48 * i + count) (changes - (48 * i + count))
    (changes-join log at i count (omega arith) ∙ (λ k. then_more (first k) (later k)))

-- Everything that a record says.

-- the parameters that were read, with what the state field says
abbrev pub taken : List ℤ → List ℤ → DecodedStateModel → ℕ → ℕ → StoredModel
taken table tools r length most = record {
  entries = r.entries;
  setup = record { params = table; modal = r.modal };
  tools = tools;
  place = r.place;
  length = length;
  program_limit = most;
  half = r.half;
}

-- what the state field in a record's first part says, if it was read
module _ (format : Format) (length at changes : ℕ) (old new : StoredModel) (image : Image) (sector : List ℕ)
    (o : Option DecodedStateModel) (there : sector ≡ from_log image at)
    (is : o ≡ decoded_state_of length (drop 32 sector)) where
  decodes : (v : Option DecodedStateModel) → o ≡ v → decoded_state_of length (drop 32 (from_log image at)) ≡ v
  decodes v o_is = ap (λ (s : List ℕ). decoded_state_of length (drop 32 s)) (sym there) ∙ sym is ∙ o_is

  pub no_state : o ≡ None → FindsRecord format length at changes old new image false
  no_state none =
      let e = decodes None none in
      λ i. and_then (e i) (λ decoded. and_then (changes_of (from_log image) at changes)
      (λ made. and_then (tools_after format (from_log image at) old.tools)
      (λ tools. Some (record {
        decoded = decoded;
        params = with_changes old.setup.params made;
        tools =
            tools;
      }))))

  module _ (r : DecodedStateModel) (some : o ≡ Some r) where
    -- the slot that changes is out of range
    pub no_slot : (tools : List ℤ) (was : List ℤ) (b : Bool) → b ≡ false → was ≡ old.tools
        → MatchBool b (tools_after format sector was ≡ Some tools) (tools_after format sector was ≡ None)
        → FindsRecord format length at changes old new image false
    no_slot tools was b off was_is made =
        let e = decodes (Some r) some in
        let none : tools_after format sector was ≡ None =
        subst (λ (x : Bool). MatchBool x (tools_after format sector was ≡ Some tools)
        (tools_after format sector was ≡ None)) off made in
        let t : tools_after format (from_log image at) old.tools ≡ None = (λ i. tools_after format (sym there i) (sym was_is i)) ∙ none in
        (λ i. and_then (e i) (λ decoded. and_then (changes_of (from_log image) at changes)
        (λ made. and_then (t i)
        (λ tools. Some (record {
          decoded = decoded;
          params = with_changes old.setup.params made;
          tools =
              tools;
        }))))) ∙ never (changes_of (from_log image) at changes)
      where
        never : (o : Option (List Change))
            → and_then o (λ made.
            and_then {B = ReplayState} None
            (λ (tools : List ℤ). Some
            (record { decoded = r; params = with_changes old.setup.params made; tools = tools }))) ≡ None
        never None = refl
        never (Some x) = refl

    no_changes_made : changes_of (from_log image) at changes ≡ None → FindsRecord format length at changes old new image false
    no_changes_made none =
        let e = decodes (Some r) some in
        λ i. and_then (e i) (λ decoded.
        and_then (none i) (λ made. and_then (tools_after format (from_log image at) old.tools)
        (λ tools. Some (record {
          decoded = decoded;
          params = with_changes old.setup.params made;
          tools =
              tools;
        }))))

    all_taken : (table tools : List ℤ) (most : ℕ) → MakesAll (from_log image) at changes old.setup.params table
        → tools_after format (from_log image at) old.tools ≡ Some tools → new ≡ taken table tools r length most
        → FindsRecord format length at changes old new image true
    all_taken table tools most m t after =
        let e = decodes (Some r) some in
        let same : ◌≡◌ {A = ReplayState}
        (record { decoded = r; params = with_changes old.setup.params m.changes; tools = tools })
        (replay_state_in new) = (λ i. record { decoded = r; params = (sym m.is) i; tools = tools })
        ∙ ap replay_state_in (sym after) in (
          (λ i. and_then (e i) (λ decoded.
              and_then (m.there i) (λ made.
              and_then (t i) (λ tools.
              Some (record { decoded = decoded; params = with_changes old.setup.params made; tools = tools })))))
              ∙ ap (λ (f : ReplayState). Some f) same,
          ap (λ (s : StoredModel). s.length) after,
        )

    pub exit_all : (was table was_tools tools : List ℤ) (most : ℕ) (b s : Bool) → b ≡ true → s ≡ true
        → was ≡ old.setup.params → was_tools ≡ old.tools → MakesAllOrDamaged at changes was table image b
        → MatchBool s (tools_after format sector was_tools ≡ Some tools)
        (tools_after format sector was_tools ≡ None) → new ≡ taken table tools r length most
        → FindsRecord format length at changes old new image b
    exit_all was table was_tools tools most b s whole slot params_are tools_are made slot_made after =
        let some_tools : tools_after format sector was_tools ≡ Some tools =
        subst (λ (x : Bool). MatchBool x (tools_after format sector was_tools ≡ Some tools)
        (tools_after format sector was_tools ≡ None)) slot slot_made in
        let t : tools_after format (from_log image at) old.tools ≡ Some tools = (λ i. tools_after format (sym there i) (sym tools_are i)) ∙ some_tools in
        let m : MakesAll (from_log image) at changes old.setup.params table =
        subst (λ (t : List ℤ). MakesAll (from_log image) at changes t table) params_are
        (subst (λ (x : Bool). MakesAllOrDamaged at changes was table image x) whole made) in
        subst (λ (x : Bool). FindsRecord format length at changes old new image x) (sym whole) (all_taken table tools most m t after)

    pub exit_not_all : (was table : List ℤ) (b : Bool) → b ≡ false → MakesAllOrDamaged at changes was table image b
        → FindsRecord format length at changes old new image b
    exit_not_all was table b broken made =
        let none : changes_of (from_log image) at changes ≡ None = subst (λ (x : Bool). MakesAllOrDamaged at changes was table image x) broken made in
        subst (λ (x : Bool). FindsRecord format length at changes old new image x) (sym broken) (no_changes_made none)
