-- What is read of a state field that was written.
use Rattle.std.proofs.Common.{◌≡◌, ℕ, ◌≤◌, ◌+◌, ◌-◌, ◌%◌, ◌/◌, ◌==◌, ◌&&◌, ◌||◌, ◌++◌, not, nat_le, true, List}
use Rattle.std.proofs.Common.{length, take, drop, replicate, ℤ, pos, Option, Some, None, is_some, is_none}
use Rattle.std.proofs.Common.{unwrap_or, IsSome, IsNone, if◌then◌else◌, refl, sym, ◌∙◌, ap, subst, arith}
use Rattle.std.proofs.lemmas.Bool.Decides.{nat_tests}
use Rattle.std.proofs.lemmas.List.{take-take, take_at}
use Rattle.ng_num.specs.Point.{zero_point}
use Rattle.ng_num.specs.declared.point.Point.{Point}
use Rattle.ng_canon.specs.declared.outputs.Outputs.{Outputs}
use Rattle.ng_params.specs.Numbers.{system_of}
use Rattle.ng_state.specs.declared.modes.Modes.{Modes}
use Rattle.ng_state.specs.declared.kept_words.KeptWords.{KeptWords}
use Rattle.ng_layout.specs.Codes.{motion_of, plane_of, distance_of, feed_mode_of, unit_of, retract_of, path_of}
use Rattle.ng_layout.specs.Codes.{spindle_of, truth_of, source_of, opened_of}
use Rattle.ng_layout.specs.Decoding.{and_then, up_to, count_of, rate_of, word_of, point_at, modes_in, outputs_in}
use Rattle.ng_layout.specs.Decoding.{kept_by, kept_in, known_point, half_by, half_in}
use Rattle.ng_layout.specs.Encoding.{HoldsDecodedState}
use Rattle.ng_layout.specs.Fields.{number_at, signed_at, bytes_at}
use Rattle.ng_layout.specs.Limits.{greatest_slot, longest_text}
use Rattle.ng_layout.specs.Storable.{IsStorableHalf}
use Rattle.ng_layout.specs.Stored.{HalfModel, DecodedStateModel}
use Rattle.ng_layout.specs.declared.half.Opened.{Opened}

pub point-back : (at : ℕ) (bytes : List ℕ) (point : Point) (x y z : ℤ) → signed_at at bytes ≡ x
    → signed_at (at + 8) bytes ≡ y → signed_at (at + 16) bytes ≡ z
    → count_of x ≡ Some point.x → count_of y ≡ Some point.y → count_of z ≡ Some point.z → point_at at bytes ≡ Some point
point-back at bytes point x y z x-is y-is z-is x-back y-back z-back =
    λ i. and_then ((ap count_of x-is ∙ x-back) i)
    (λ a. and_then ((ap count_of y-is ∙ y-back) i)
    (λ b. and_then ((ap count_of z-is ∙ z-back) i) (λ c. Some (record { x = a; y = b; z = c }))))

pub modes-back : (bytes : List ℕ) (m : Modes) → motion_of (number_at 1 144 bytes) ≡ Some m.motion
    → plane_of (number_at 1 145 bytes) ≡ Some m.plane
    → distance_of (number_at 1 146 bytes) ≡ Some m.distance
    → feed_mode_of (number_at 1 147 bytes) ≡ Some m.feed_mode → unit_of (number_at 1 148 bytes) ≡ Some m.unit
    → retract_of (number_at 1 149 bytes) ≡ Some m.retract → system_of (pos (number_at 1 150 bytes)) ≡ Some m.system
    → path_of (number_at 1 151 bytes) ≡ Some m.path
    → truth_of (number_at 1 155 bytes) ≡ Some m.overrides → modes_in bytes ≡ Some m
modes-back bytes m a b c d e f g h j =
    λ i. and_then (a i) (λ a'.
    and_then (b i) (λ b'.
    and_then (c i) (λ c'.
    and_then (d i) (λ d'.
    and_then (e i) (λ e'.
    and_then (f i) (λ f'. and_then (g i) (λ g'. and_then (h i) (λ h'. and_then (j i) (λ j'.
    Some (record {
      motion = a';
      plane = b';
      distance = c';
      feed_mode = d';
      unit = e';
      retract = f';
      system = g';
      path = h';
      overrides = j';
    }))))))))))

pub outputs-back : (bytes : List ℕ) (o : Outputs) → spindle_of (number_at 1 152 bytes) ≡ Some o.spindle
    → rate_of (number_at 8 48 bytes) ≡ Some o.speed
    → truth_of (number_at 1 153 bytes) ≡ Some o.mist → truth_of (number_at 1 154 bytes) ≡ Some o.flood
    → up_to greatest_slot (number_at 2 158 bytes) ≡ Some o.selected_slot
    → up_to greatest_slot (number_at 2 160 bytes) ≡ Some o.spindle_slot → outputs_in bytes ≡ Some o
outputs-back bytes o a b c d e f =
    λ i. and_then (a i) (λ a'.
    and_then (b i) (λ b'.
    and_then (c i) (λ c'. and_then (d i) (λ d'. and_then (e i) (λ e'. and_then (f i) (λ f'.
    Some (record { spindle = a'; speed = b'; mist = c'; flood = d'; selected_slot = e'; spindle_slot = f' })))))))

-- the bits tell which words are kept
pub record BitsTell (bits : ℕ) (kept : KeptWords) : Type 0 where
  pub all : up_to 15 bits ≡ Some bits
  pub r : (bits % 2 == 1) ≡ is_some kept.r
  pub z : (bits / 2 % 2 == 1) ≡ is_some kept.z
  pub p : (bits / 4 % 2 == 1) ≡ is_some kept.p
  pub q : (bits / 8 == 1) ≡ is_some kept.q

pub kept-back : (bytes : List ℕ) (bits : ℕ) (kept : KeptWords) (r z p q : ℤ) → number_at 1 157 bytes ≡ bits
    → BitsTell bits kept
    → signed_at 112 bytes ≡ r → signed_at 120 bytes ≡ z → signed_at 128 bytes ≡ p → signed_at 136 bytes ≡ q
    → word_of (is_some kept.r) r ≡ Some kept.r → word_of (is_some kept.z) z ≡ Some kept.z
    → word_of (is_some kept.p) p ≡ Some kept.p → word_of (is_some kept.q) q ≡ Some kept.q
    → kept_in bytes ≡ Some kept
kept-back bytes bits kept r z p q is tell r-is z-is p-is q-is r-back z-back p-back q-back =
    (λ i. and_then (up_to 15 (is i)) (λ k. kept_by k bytes)) ∙ (λ i. and_then (tell.all i) (λ k. kept_by k bytes))
    ∙ (λ i. and_then (((λ j. word_of (tell.r j) (r-is j)) ∙ r-back) i)
    (λ a. and_then (((λ j. word_of (tell.z j) (z-is j)) ∙ z-back) i)
    (λ b. and_then (((λ j. word_of (tell.p j) (p-is j)) ∙ p-back) i)
    (λ c. and_then (((λ j. word_of (tell.q j) (q-is j)) ∙ q-back) i) (λ d.
    Some (record { r = a; z = b; p = c; q = d }))))))

-- the text of a half-done block
text-back : (bytes text : List ℕ) → length text ≤ longest_text → bytes_at longest_text 200 bytes ≡ text ++ replicate
    (longest_text - length text) 0 → bytes_at (length text) 200 bytes ≡ text
unfolding bytes_at
text-back bytes text few is = sym (take-take (length text) longest_text (drop 200 bytes) few)
    ∙ ap (λ (l : List ℕ). take (length text) l) is ∙ take_at text (replicate (longest_text - length text) 0)
    (length text) refl

known-back : (bytes : List ℕ) (at : Option Point) → point_at 176 bytes ≡ Some (unwrap_or at zero_point)
    → known_point (is_some at) bytes ≡ Some at
known-back bytes None is = refl
known-back bytes (Some point) is = rw is refl

pub half-back : (bytes : List ℕ) (half : HalfModel) → IsStorableHalf half
    → source_of (number_at 1 162 bytes) ≡ Some (Some half.source)
    → opened_of (number_at 1 163 bytes) ≡ Some half.opened
    → truth_of (number_at 1 164 bytes) ≡ Some (is_some half.at) → number_at 2 166 bytes ≡ length half.text
    → number_at 8 168 bytes ≡ half.index → point_at 176 bytes ≡ Some (unwrap_or half.at zero_point)
    → bytes_at longest_text 200 bytes ≡ half.text ++ replicate (longest_text - length half.text) 0
    → half_in bytes ≡ Some (Some half)
half-back bytes half can source opened known long index point text =
    (λ i. and_then (opened i) (λ o. and_then (known i) (λ k. and_then (source i) (λ s. half_by bytes o k s))))
    ∙ (λ i. if fits i then and_then (known-back bytes half.at point i)
    (λ at. Some (Some (record {
      text = text-is i;
      source = half.source;
      index = index i;
      at = at;
      opened =
          half.opened;
    }))) else None)
  where
    shut : (o : Option Opened) (at : Option Point) → (IsSome o → IsNone at) → (is_none o || not (is_some at)) ≡ true
    shut None at unknown = refl
    shut (Some x) None unknown = refl
    shut (Some x) (Some y) unknown = sym (unknown refl)

    small : nat_le (number_at 2 166 bytes) longest_text ≡ true
    small = let few = can.text in grind (arith, nat_tests)

    fits : (nat_le (number_at 2 166 bytes) longest_text && (is_none half.opened || not (is_some half.at))) ≡ true
    fits = (λ i. small i && shut half.opened half.at can.unknown i)

    text-is : bytes_at (number_at 2 166 bytes) 200 bytes ≡ half.text
    text-is = (λ i. bytes_at (long i) 200 bytes) ∙ text-back bytes half.text can.text text

pub holds-as : (program : ℕ) (state same : DecodedStateModel) (bytes : List ℕ)
    → ((n : ℕ) → state.place ≤ n → HoldsDecodedState n state bytes) → state ≡ same → same.place ≤ program
    → HoldsDecodedState program same bytes
holds-as program state same bytes holds is within =
    subst (λ (s : DecodedStateModel). HoldsDecodedState program s bytes) is
    (holds program (subst (λ (s : DecodedStateModel). s.place ≤ program) (sym is) within))
