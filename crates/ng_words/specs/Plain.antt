-- Which bytes of a line count: outside comments, blanks and tabs are dropped and letters are made capitals (NISTIR
-- 6556, 3.3).
use Rattle.std.specs.Prelude.{ℕ, ◌-◌, List, [], ◌∷◌, Bool, true, false, not, ◌&&◌, ◌||◌, ◌==◌, nat_le, if◌then◌else◌, ◌≡◌, ◌≢◌}

-- a blank or a tab
abbrev pub is_blank : ℕ → Bool
is_blank b = (b == 32) || (b == 9)

abbrev pub capital : ℕ → ℕ
capital b = if nat_le 97 b && nat_le b 122 then b - 32 else b

-- the bytes that count, from inside a comment or from outside
abbrev pub plain : Bool → List ℕ → List ℕ
plain inside [] = []
plain true (b ∷ bs) = b ∷ plain (not (b == 41)) bs
plain false (b ∷ bs) = if is_blank b then plain false bs else (capital b ∷ plain (b == 40) bs)

-- b is the first of the bytes
abbrev pub StartsWithByte : List ℕ → ℕ → Type 0
StartsWithByte [] b = ⊥
StartsWithByte (c ∷ bs) b = c ≡ b

-- there is a first byte, and no comment begins there
abbrev pub IsOutside : List ℕ → Type 0
IsOutside [] = ⊥
IsOutside (b ∷ bs) = b ≢ 40

-- the first byte counts, if there is one
abbrev pub AtPlain : List ℕ → Type 0
AtPlain [] = Unit {0}
AtPlain (b ∷ bs) = is_blank b ≡ false

-- no comment begins in a text
abbrev pub HasNoComment : List ℕ → Type 0
HasNoComment [] = Unit {0}
HasNoComment (b ∷ bs) = (b ≢ 40) × HasNoComment bs
