-- What clap's matches return for a value.
use Rattle.std.proofs.Common.{◌≡◌, ◌∙◌, Bor, None, Option, Some, true, ap, sym, is_some, option_map}
use Rattle.clap.specs.Words.{Text, first_of, first_value, rows_of}
use Rattle.clap.specs.declared.parser.matches.Found.{Found}
use Rattle.clap.proofs.WalkLemmas.{first_value-rows}

-- a value that is there was found
pub never_none : {X : Type 0} (found : Found) (name : Text) (got : Option (Bor Text)) → is_some (first_of name (rows_of found)) ≡ true
    → option_map (λ s. s.now) got ≡ first_value found name → got ≡ None → X
never_none found name got there is none =
    let missing : None ≡ first_of name (rows_of found) = ap (option_map (λ (s : Bor Text). s.now)) (sym none) ∙ (is ∙ first_value-rows found name) in
    let bad = rw (← missing) at there in
    cc

-- a value that was returned is the first one
pub value_is : (found : Found) (name : Text) (got : Option (Bor Text)) (value : Bor Text)
    → option_map (λ s. s.now) got ≡ first_value found name → got ≡ Some value
    → first_of name (rows_of found) ≡ Some value.now
value_is found name got value is some = sym (first_value-rows found name) ∙ (sym is ∙ ap (option_map (λ (s : Bor Text). s.now)) some)
