-- What each number of a state field says, if the field is read as a state.
use Rattle.std.proofs.Common.{◌≡◌, ◌==◌, ℕ, ◌+◌, ◌/◌, ◌%◌, Bool, true, false, List, ℤ, pos, Option, Some, None, is_some}
use Rattle.std.proofs.Common.{if◌then◌else◌, refl, sym, ◌∙◌, ap, subst}
use Rattle.std.specs.Bool.{then_some}
use Rattle.std.specs.Option.{option_map}
use Rattle.std.proofs.lemmas.Option.{none-some, same_Some}
use Rattle.ng_num.specs.declared.point.Point.{Point}
use Rattle.ng_canon.specs.declared.outputs.Outputs.{Outputs}
use Rattle.ng_params.specs.Numbers.{system_of}
use Rattle.ng_state.specs.declared.modes.Modes.{Modes}
use Rattle.ng_state.specs.declared.modal_state.ModalState.{ModalState}
use Rattle.ng_state.specs.declared.kept_words.KeptWords.{KeptWords}
use Rattle.ng_offsets.specs.declared.offsets.Offsets.{Offsets}
use Rattle.ng_layout.specs.Codes.{motion_of, plane_of, distance_of, feed_mode_of, unit_of, retract_of, path_of}
use Rattle.ng_layout.specs.Codes.{spindle_of, truth_of, source_of, opened_of}
use Rattle.ng_layout.specs.Decoding.{and_then, up_to, count_of, rate_of, word_of, point_at, modes_in, outputs_in}
use Rattle.ng_layout.specs.Decoding.{offsets_in, kept_by, kept_in, modal_state_in, known_point, half_by, half_in}
use Rattle.ng_layout.specs.Decoding.{decoded_state_of}
use Rattle.ng_layout.specs.Encoding.{half_point}
use Rattle.ng_layout.specs.Fields.{number_at, signed_at}
use Rattle.ng_layout.specs.Limits.{greatest_count, greatest_slot}
use Rattle.ng_layout.specs.Stored.{HalfModel, DecodedStateModel}
use Rattle.ng_layout.specs.declared.half.Source.{Source}
use Rattle.ng_layout.specs.declared.half.Opened.{Opened}
use Rattle.ng_layout.proofs.EncodingLemmas.{BitsTell}
use Rattle.ng_layout.proofs.ValueLemmas.{most-one, count-one}

-- What follows from an option follows from a value.
pub taken : {A B P : Type 0} (o : Option A) (f : A → Option B) (y : B) → and_then o f ≡ Some y
    → ((x : A) → o ≡ Some x → f x ≡ Some y → P) → P
taken None f y is go = absurd (none-some y is)
taken (Some x) f y is go = go x refl is

-- the coordinates that begin at a byte
pub record PointSays (at : ℕ) (bytes : List ℕ) (point : Point) : Type 0 where
  pub x : signed_at at bytes ≡ point.x
  pub y : signed_at (at + 8) bytes ≡ point.y
  pub z : signed_at (at + 16) bytes ≡ point.z

pub point-says : (at : ℕ) (bytes : List ℕ) (point : Point) → point_at at bytes ≡ Some point → PointSays at bytes point
point-says at bytes point is =
    taken (count_of (signed_at at bytes)) _ point is (λ x a a'.
    taken (count_of (signed_at (at + 8) bytes)) _ point a' (λ y b b'.
    taken (count_of (signed_at (at + 16) bytes)) _ point b' (λ z c c'.
    subst (λ (p : Point). PointSays at bytes p) (same_Some _ point c') (record {
      x = count-one _ x a;
      y = count-one _ y b;
      z = count-one _ z c;
    }))))

pub record ModesSay (bytes : List ℕ) (modes : Modes) : Type 0 where
  pub motion : motion_of (number_at 1 144 bytes) ≡ Some modes.motion
  pub plane : plane_of (number_at 1 145 bytes) ≡ Some modes.plane
  pub distance : distance_of (number_at 1 146 bytes) ≡ Some modes.distance
  pub feed_mode : feed_mode_of (number_at 1 147 bytes) ≡ Some modes.feed_mode
  pub unit : unit_of (number_at 1 148 bytes) ≡ Some modes.unit
  pub retract : retract_of (number_at 1 149 bytes) ≡ Some modes.retract
  pub system : system_of (pos (number_at 1 150 bytes)) ≡ Some modes.system
  pub path : path_of (number_at 1 151 bytes) ≡ Some modes.path
  pub overrides : truth_of (number_at 1 155 bytes) ≡ Some modes.overrides

modes-say : (bytes : List ℕ) (modes : Modes) → modes_in bytes ≡ Some modes → ModesSay bytes modes
modes-say bytes modes is =
    taken (motion_of (number_at 1 144 bytes)) _ modes is (λ motion a a'.
    taken (plane_of (number_at 1 145 bytes)) _ modes a' (λ plane b b'.
    taken (distance_of (number_at 1 146 bytes)) _ modes b' (λ distance c c'.
    taken (feed_mode_of (number_at 1 147 bytes)) _ modes c' (λ feed_mode d d'.
    taken (unit_of (number_at 1 148 bytes)) _ modes d' (λ unit e e'.
    taken (retract_of (number_at 1 149 bytes)) _ modes e' (λ retract f f'.
    taken (system_of (pos (number_at 1 150 bytes))) _ modes f' (λ system g g'.
    taken (path_of (number_at 1 151 bytes)) _ modes g' (λ path h h'.
    taken (truth_of (number_at 1 155 bytes)) _ modes h' (λ overrides j j'.
    subst (λ (m : Modes). ModesSay bytes m) (same_Some _ modes j') (record {
      motion = a;
      plane = b;
      distance = c;
      feed_mode = d;
      unit = e;
      retract = f;
      system = g;
      path = h;
      overrides = j;
    }))))))))))

pub record OutputsSay (bytes : List ℕ) (outputs : Outputs) : Type 0 where
  pub spindle : spindle_of (number_at 1 152 bytes) ≡ Some outputs.spindle
  pub speed : rate_of (number_at 8 48 bytes) ≡ Some outputs.speed
  pub mist : truth_of (number_at 1 153 bytes) ≡ Some outputs.mist
  pub flood : truth_of (number_at 1 154 bytes) ≡ Some outputs.flood
  pub selected_slot : up_to greatest_slot (number_at 2 158 bytes) ≡ Some outputs.selected_slot
  pub spindle_slot : up_to greatest_slot (number_at 2 160 bytes) ≡ Some outputs.spindle_slot

outputs-say : (bytes : List ℕ) (outputs : Outputs) → outputs_in bytes ≡ Some outputs → OutputsSay bytes outputs
outputs-say bytes outputs is =
    taken (spindle_of (number_at 1 152 bytes)) _ outputs is (λ spindle a a'.
    taken (rate_of (number_at 8 48 bytes)) _ outputs a' (λ speed b b'.
    taken (truth_of (number_at 1 153 bytes)) _ outputs b' (λ mist c c'.
    taken (truth_of (number_at 1 154 bytes)) _ outputs c' (λ flood d d'.
    taken (up_to greatest_slot (number_at 2 158 bytes)) _ outputs d' (λ selected e e'.
    taken (up_to greatest_slot (number_at 2 160 bytes)) _ outputs e' (λ held f f'.
    subst (λ (o : Outputs). OutputsSay bytes o) (same_Some _ outputs f') (record {
      spindle = a;
      speed = b;
      mist = c;
      flood = d;
      selected_slot = e;
      spindle_slot = f;
    })))))))

pub record OffsetsSay (bytes : List ℕ) (offsets : Offsets) : Type 0 where
  pub origin : point_at 80 bytes ≡ Some offsets.origin
  pub g92 : point_at 56 bytes ≡ Some offsets.g92
  pub tool_length : signed_at 104 bytes ≡ offsets.tool_length

offsets-say : (bytes : List ℕ) (offsets : Offsets) → offsets_in bytes ≡ Some offsets → OffsetsSay bytes offsets
offsets-say bytes offsets is =
    taken (point_at 80 bytes) _ offsets is (λ origin a a'.
    taken (point_at 56 bytes) _ offsets a' (λ g92 b b'.
    taken (count_of (signed_at 104 bytes)) _ offsets b' (λ tool c c'.
    subst (λ (o : Offsets). OffsetsSay bytes o) (same_Some _ offsets c') (record {
      origin = a;
      g92 = b;
      tool_length = count-one _ tool c;
    }))))

word-kept : (kept : Bool) (n : ℤ) (word : Option ℤ) → word_of kept n ≡ Some word → kept ≡ is_some word
word-kept kept n word is = taken (count_of n) _ word is (λ count a a'.
    told kept count ∙ ap (λ (w : Option ℤ). is_some w) (same_Some (then_some kept count) word a'))
  where
    told : (kept : Bool) (count : ℤ) → kept ≡ is_some (then_some kept count)
    told true count = refl
    told false count = refl

bits-tell : (bytes : List ℕ) (bits : ℕ) (kept : KeptWords) → up_to 15 bits ≡ Some bits → kept_by bits bytes ≡ Some kept
    → BitsTell bits kept
bits-tell bytes bits kept all is =
    taken (word_of (bits % 2 == 1) (signed_at 112 bytes)) _ kept is (λ r a a'.
    taken (word_of (bits / 2 % 2 == 1) (signed_at 120 bytes)) _ kept a' (λ z b b'.
    taken (word_of (bits / 4 % 2 == 1) (signed_at 128 bytes)) _ kept b' (λ p c c'.
    taken (word_of (bits / 8 == 1) (signed_at 136 bytes)) _ kept c' (λ q d d'.
    subst (λ (k : KeptWords). BitsTell bits k) (same_Some _ kept d') (record {
      all = all;
      r = word-kept _ (signed_at 112 bytes) r a;
      z = word-kept _ (signed_at 120 bytes) z b;
      p = word-kept _ (signed_at 128 bytes) p c;
      q = word-kept _ (signed_at 136 bytes) q d;
    })))))

kept-say : (bytes : List ℕ) (kept : KeptWords) → kept_in bytes ≡ Some kept → BitsTell (number_at 1 157 bytes) kept
kept-say bytes kept is =
    taken (up_to 15 (number_at 1 157 bytes)) _ kept is (λ bits a a'.
    let same : number_at 1 157 bytes ≡ bits = most-one 15 _ bits a in
    let all : up_to 15 bits ≡ Some bits = sym (ap (λ (n : ℕ). up_to 15 n) same) ∙ a in
    subst (λ (n : ℕ). BitsTell n kept) (sym same) (bits-tell bytes bits kept all a'))

pub record ModalSays (bytes : List ℕ) (modal : ModalState) : Type 0 where
  pub modes : ModesSay bytes modal.modes
  pub feed : rate_of (number_at 8 40 bytes) ≡ Some modal.feed_per_min
  pub outputs : OutputsSay bytes modal.outputs
  pub offsets : OffsetsSay bytes modal.offsets
  pub kept : BitsTell (number_at 1 157 bytes) modal.kept
  pub point : point_at 16 bytes ≡ Some modal.point
  pub point_known : truth_of (number_at 1 156 bytes) ≡ Some modal.point_known

modal-says : (bytes : List ℕ) (modal : ModalState) → modal_state_in bytes ≡ Some modal → ModalSays bytes modal
modal-says bytes modal is =
    taken (modes_in bytes) _ modal is (λ modes a a'.
    taken (rate_of (number_at 8 40 bytes)) _ modal a' (λ feed b b'.
    taken (outputs_in bytes) _ modal b' (λ outputs c c'.
    taken (offsets_in bytes) _ modal c' (λ offsets d d'.
    taken (kept_in bytes) _ modal d' (λ kept e e'.
    taken (point_at 16 bytes) _ modal e' (λ point f f'.
    taken (truth_of (number_at 1 156 bytes)) _ modal f' (λ known g g'.
    subst (λ (m : ModalState). ModalSays bytes m) (same_Some _ modal g') (record {
      modes = modes-say bytes modes a;
      feed = b;
      outputs = outputs-say bytes outputs c;
      offsets = offsets-say bytes offsets d;
      kept = kept-say bytes kept e;
      point = f;
      point_known = g;
    }))))))))

-- where a half-done block's line is from, and what part of it is open
abbrev pub half_source : Option HalfModel → Option Source
half_source None = None
half_source (Some half) = Some half.source

abbrev pub half_opened : Option HalfModel → Option Opened
half_opened None = None
half_opened (Some half) = half.opened

record IsOf (opened : Option Opened) (known : Bool) (source : Option Source) (half : Option HalfModel) : Type 0 where
  opened_is : opened ≡ half_opened half
  known_is : known ≡ is_some (half_point half)
  source_is : source ≡ half_source half

known-says : (known : Bool) (bytes : List ℕ) (at : Option Point) → known_point known bytes ≡ Some at → known ≡ is_some at
known-says false bytes at is = ap (λ (p : Option Point). is_some p) (same_Some None at is)
known-says true bytes at is = some (point_at 176 bytes) is
  where
    some : (o : Option Point) → option_map Some o ≡ Some at → true ≡ is_some at
    some None is = absurd (none-some at is)
    some (Some point) is = ap (λ (p : Option Point). is_some p) (same_Some (Some point) at is)

if-so : {A : Type 0} (so : Bool) (o : Option A) (y : A) → (if so then o else None) ≡ Some y → o ≡ Some y
if-so true o y is = is
if-so false o y is = absurd (none-some y is)

half-of : (bytes : List ℕ) (opened : Option Opened) (known : Bool) (source : Option Source) (half : Option HalfModel)
    → half_by bytes opened known source ≡ Some half → IsOf opened known source half
half-of bytes None false None half is = subst (λ (h : Option HalfModel). IsOf None false None h) (same_Some None half is)
    (record { opened_is = refl; known_is = refl; source_is = refl })
half-of bytes None true None half is = absurd (none-some half is)
half-of bytes (Some part) known None half is = absurd (none-some half is)
half-of bytes opened known (Some source) half is =
    taken (known_point known bytes) _ half (if-so _ _ half is) (λ at a a'.
    subst (λ (h : Option HalfModel). IsOf opened known (Some source) h) (same_Some _ half a')
    (record { opened_is = refl; known_is = known-says known bytes at a; source_is = refl }))

pub record HalfSays (bytes : List ℕ) (half : Option HalfModel) : Type 0 where
  pub source : source_of (number_at 1 162 bytes) ≡ Some (half_source half)
  pub opened : opened_of (number_at 1 163 bytes) ≡ Some (half_opened half)
  pub known : truth_of (number_at 1 164 bytes) ≡ Some (is_some (half_point half))

half-says : (bytes : List ℕ) (half : Option HalfModel) → half_in bytes ≡ Some half → HalfSays bytes half
half-says bytes half is =
    taken (opened_of (number_at 1 163 bytes)) _ half is (λ opened a a'.
    taken (truth_of (number_at 1 164 bytes)) _ half a' (λ known b b'.
    taken (source_of (number_at 1 162 bytes)) _ half b' (λ source c c'.
    let of = half-of bytes opened known source half c' in
    record {
      source = c ∙ ap (λ (s : Option Source). Some s) of.source_is;
      opened = a ∙ ap (λ (o : Option Opened). Some o) of.opened_is;
      known = b ∙ ap (λ (k : Bool). Some k) of.known_is;
    })))

pub record FieldSays (program : ℕ) (bytes : List ℕ) (state : DecodedStateModel) : Type 0 where
  pub entries : number_at 8 0 bytes ≡ state.entries
  pub place : number_at 8 8 bytes ≡ state.place
  pub modal : ModalSays bytes state.modal
  pub half : HalfSays bytes state.half

pub field-says : (program : ℕ) (bytes : List ℕ) (state : DecodedStateModel) → decoded_state_of program bytes ≡ Some state
    → FieldSays program bytes state
unfolding decoded_state_of
field-says program bytes state is =
    taken (up_to greatest_count (number_at 8 0 bytes)) _ state is (λ entries a a'.
    taken (up_to program (number_at 8 8 bytes)) _ state a' (λ place b b'.
    taken (modal_state_in bytes) _ state b' (λ modal c c'.
    taken (half_in bytes) _ state c' (λ half d d'.
    subst (λ (s : DecodedStateModel). FieldSays program bytes s) (same_Some _ state d') (record {
      entries = most-one greatest_count _ entries a;
      place = most-one program _ place b;
      modal = modal-says bytes modal c;
      half = half-says bytes half d;
    })))))
