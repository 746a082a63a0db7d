-- The text of a value (this project's format).
use Rattle.std.specs.Prelude.{ℕ, zero, suc, ◌+◌, ◌-◌, ◌==◌, ◌≡◌, nat_abs, ℤ, pos, negsuc, Bool, true, false, List, [], ◌∷◌, ◌++◌, length, map, drop, replicate, codes}
use Rattle.std.specs.Int.Digits.{digits_of}

-- a positive number in decimal
abbrev pub numeral : ℕ → List ℕ
numeral n = map (λ digit. 48 + digit) (digits_of 10 n)

-- `-`, or else `+` where a term stands before
abbrev pub sign_text : Bool → ℤ → List ℕ
sign_text later (negsuc n) = codes "-"
sign_text true (pos n) = codes "+"
sign_text false (pos n) = []

-- the letter z and the power, where it is above 0
abbrev pub power_text : ℕ → List ℕ
power_text zero = []
power_text (suc p) = codes "z" ++ numeral (suc p)

-- the term c x^p; `later` says whether a term stands before
abbrev pub term_text : Bool → ℕ → ℤ → List ℕ
term_text later p c = sign_text later c ++ (numeral (nat_abs c) ++ power_text p)

-- the terms whose coefficient isn't 0, of coefficients from that of x^p on
unfoldable pub terms_text : Bool → ℕ → List ℤ → List ℕ
terms_text later p [] = []
terms_text later p (c ∷ cs) = elim (nat_abs c == 0) [ true ↦ terms_text later (suc p) cs | false ↦ term_text later p c ++ terms_text true (suc p) cs ]

-- `0` where there is no term
abbrev pub or_nought : List ℕ → List ℕ
or_nought [] = codes "0"
or_nought (byte ∷ bytes) = byte ∷ bytes

-- the text of the value with these coefficients
unfoldable pub value_text : List ℤ → List ℕ
value_text cs = or_nought (terms_text false 0 cs)

-- the text is that of these 42 coefficients, which are 0 from phi on
pub record Spells (text : List ℕ) (phi : ℕ) (cs : List ℤ) : Type 0 where
  pub count : length cs ≡ 42
  pub ends : drop phi cs ≡ replicate (42 - phi) (pos 0)
  pub spelled : value_text cs ≡ text
