-- The keys of [motion], and their ranges (own).
use Rattle.std.specs.Prelude.{ℕ, Bool, List, [], ◌∷◌, codes}
use Rattle.std.specs.List.{list_any}
use Rattle.std.specs.Str.{bytes_eq}
use Rattle.ng_motion.specs.declared.key.Key.{Key}
use Rattle.ng_motion.specs.declared.key.Key.TheVariants.{Accel, Rate, Start, Slack, Most}

abbrev pub key_name : Key → List ℕ
key_name Accel = codes "accel_mm_s2"
key_name Rate = codes "rate_mm_min"
key_name Start = codes "start_mm_min"
key_name Slack = codes "slack_steps"
key_name Most = codes "most_percent"

abbrev pub least : Key → ℕ
least Accel = 1
least Rate = 0
least Start = 0
least Slack = 1
least Most = 100

abbrev pub greatest : Key → ℕ
greatest Accel = 1_000_000
greatest Rate = 100_000
greatest Start = 100_000
greatest Slack = 64
greatest Most = 200

-- whether a name is a key
unfoldable pub is_key : List ℕ → Bool
is_key name = list_any (λ key. bytes_eq name (key_name key)) (Accel ∷ Rate ∷ Start ∷ Slack ∷ Most ∷ [])
