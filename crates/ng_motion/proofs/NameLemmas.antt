-- The names of a table, as the keys of its map.
use Rattle.std.proofs.Common.{◌≡◌, ℕ, Bool, true, false, List, [], ◌∷◌, Option, Some, not, String, Global, string_bytes, ap, refl, cond}
use Rattle.std.specs.Prelude.{option_map}
use Rattle.std.specs.List.{find}
use Rattle.std.specs.Map.{keys_of}
use Rattle.toml.proofs.Views.{Entry}
use Rattle.toml.specs.View.{members_view}
use Rattle.ng_settings.specs.Causes.{names}

-- a name of which a test doesn't hold
abbrev pub is_unknown : (List ℕ → Bool) → String Global → Bool
is_unknown is_known name = not (is_known (string_bytes name))

by_test : (name : List ℕ) (key : String Global) (b : Bool) (keys : Option (String Global))
    (others : Option (List ℕ)) → string_bytes key ≡ name → option_map string_bytes keys ≡ others
    → option_map string_bytes (cond b (Some key) keys) ≡ cond b (Some name) others
by_test name key true keys others same is = ap Some same
by_test name key false keys others same is = is

pub unknown_in_names : (is_known : List ℕ → Bool) (es : List Entry)
    → option_map string_bytes (find (is_unknown is_known) (keys_of es)) ≡ find (λ name. not (is_known name)) (names (members_view es))
unknown_in_names is_known [] = refl
unknown_in_names is_known (e ∷ es) = by_test _ e.0 (is_unknown is_known e.0) (find (is_unknown is_known) (keys_of es)) _ refl (unknown_in_names is_known es)
