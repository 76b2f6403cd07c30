-- The lines of items in parts, each the beginning of what is left; only for private functions and proofs.
use Rattle.std.specs.Prelude.{ℕ, ◌/◌, ◌≢◌, List, [], ◌∷◌, ◌++◌}
use Rattle.std.specs.Fmt.{decimal}
use Rattle.ng_num.specs.Printing.{number_text, six_digits}
use Rattle.ng_canon.specs.declared.item.Pulse.{Pulse}
use Rattle.ng_canon.specs.declared.outputs.Outputs.{Outputs}
use Rattle.ng_lines.specs.Lines.{step_text, spindle_text, truth_digit}

-- the line of a pulse after its letter and a blank, without its end
abbrev pub pulse_rest : Pulse → List ℕ
pulse_rest p = step_text p.x ++ 32 ∷ (step_text p.y ++ 32 ∷ (step_text p.z ++ 32 ∷ decimal p.period_us))

-- the line of a pulse after its letter and a blank, and what follows the line
abbrev pub pulse_onward : Pulse → List ℕ → List ℕ
pulse_onward p more = step_text p.x ++ 32 ∷ (step_text p.y ++ 32 ∷ (step_text p.z ++ 32 ∷ (decimal p.period_us ++ 10 ∷ more)))

-- the line of all outputs, as that of a pulse
abbrev pub outputs_rest : Outputs → List ℕ
outputs_rest o =
    spindle_text o.spindle ++ 32 ∷ (number_text o.speed ++ 32 ∷ (truth_digit o.mist ∷ 32
    ∷ (truth_digit o.flood ∷ 32 ∷ (decimal o.selected_slot ++ 32 ∷ decimal o.spindle_slot))))

-- a number that isn't below 0
abbrev pub size_text : ℕ → List ℕ
size_text n = decimal (n / 1_000_000) ++ 46 ∷ six_digits n

-- no byte is this one
abbrev pub HasNone : ℕ → List ℕ → Type 0
HasNone byte [] = Unit {0}
HasNone byte (b ∷ bs) = (b ≢ byte) × HasNone byte bs
