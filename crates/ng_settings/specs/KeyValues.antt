-- The keys of the settings (own).
use Rattle.std.specs.Prelude.{ℕ, Bool, List, [], ◌∷◌, codes}
use Rattle.std.specs.List.{list_any}
use Rattle.std.specs.Str.{bytes_eq}

abbrev pub step_nm : List ℕ
step_nm = codes "step_nm"

abbrev pub low_nm : List ℕ
low_nm = codes "low_nm"

abbrev pub high_nm : List ℕ
high_nm = codes "high_nm"

abbrev pub traverse_nm_per_min : List ℕ
traverse_nm_per_min = codes "traverse_nm_per_min"

abbrev pub period_us : List ℕ
period_us = codes "period_us"

abbrev pub tools_nm : List ℕ
tools_nm = codes "tools_nm"

abbrev pub keys : List (List ℕ)
keys = step_nm ∷ low_nm ∷ high_nm ∷ traverse_nm_per_min ∷ period_us ∷ tools_nm ∷ []

-- whether a name is a key
unfoldable pub is_key : List ℕ → Bool
is_key name = list_any (λ key. bytes_eq name key) keys
