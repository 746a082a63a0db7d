-- A number that isn't refused is in the range of its kind, and lists that are read off by place have their lengths.
use Rattle.qd_doc.proofs.Names.{Bool, Conductor, ConductorNumber, DocRefusal, Err, Lexeme, List, None, NotNumber, Ok, OrderNumber, RootsNumber, Some, Syntax, What, and_true, arith, cond, drop, entry_at, false, is_conductor, last_below, leb-true, length, length-drop, length-map, length-map-range_with_len, length-take-le, nat_le, number_of, number_refusal, numbers_at, refl, refusal, sparse_exponents, take, true, unwrap_or, value, value_refusal, ℕ, ◌&&◌, ◌*◌, ◌+◌, ◌∙◌, ◌≡◌, ◌≤◌}
use Rattle.qd_text.specs.declared.natural.NumberFault.TheVariants.{Wide}
use Rattle.qd_doc.specs.declared.refusal.DocRefusal.TheVariants.{Order, Roots}

abbrev pub IsBetween : ℕ → ℕ → ℕ → Type 0
IsBetween least most n = (least ≤ n) × (n ≤ most)

passes : (b : Bool) (r : DocRefusal) → cond b None (Some r) ≡ None → b ≡ true
passes true r e = refl
passes false r e = absurd cc

between : (least most n : ℕ) (r : DocRefusal) → cond (nat_le least n && nat_le n most) None (Some r) ≡ None → IsBetween least most n
between least most n r e =
    let both = and_true (nat_le least n) (nat_le n most) (passes _ r e) in
    (leb-true _ _ both.0, leb-true _ _ both.1)

-- what isn't refused as a number is not refused for its value
value_fits : (kind : What) (start v : ℕ) (bad small : Bool)
    → number_refusal kind start (cond bad (Err NotNumber) (cond small (Ok v) (Err Wide))) ≡ None → value_refusal kind start v ≡ None
value_fits kind start v true small e = absurd cc
value_fits kind start v false true e = e
value_fits kind start v false false e = absurd cc

pub order_in_range : (token : Lexeme) → refusal OrderNumber token ≡ None → IsBetween 1 60 (value token.text)
unfolding refusal number_of
order_in_range token fits = between 1 60 (value token.text) (Order (value token.text)) (value_fits OrderNumber token.start (value token.text) _ _ fits)

pub roots_in_range : (token : Lexeme) → refusal RootsNumber token ≡ None → IsBetween 1 64 (value token.text)
unfolding refusal number_of
roots_in_range token fits = between 1 64 (value token.text) (Roots (value token.text)) (value_fits RootsNumber token.start (value token.text) _ _ fits)

pub conductor_in_table : (token : Lexeme) → refusal ConductorNumber token ≡ None → is_conductor (value token.text) ≡ true
unfolding refusal number_of
conductor_in_table token fits =
    passes (is_conductor (value token.text)) (Syntax token.start Conductor) (value_fits ConductorNumber token.start (value token.text) _ _ fits)

pub length-numbers_at : (all : List Lexeme) (place count : ℕ) → place + count ≤ length all → length (numbers_at all place count) ≡ count
length-numbers_at all place count within =
    length-map (take count (drop place all)) (λ (token : Lexeme). value token.text)
    ∙ length-take-le count (drop place all) (omega (arith, length-drop place all))

pub length-sparse_exponents : (all : List Lexeme) (n start count : ℕ) → length (sparse_exponents all n start count) ≡ n * n * n
unfolding sparse_exponents
length-sparse_exponents all n start count =
    length-map-range_with_len (λ place. unwrap_or (last_below count (entry_at all n start place)) 0) 0 (n * n * n)
