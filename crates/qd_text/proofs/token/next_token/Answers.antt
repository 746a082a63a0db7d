use Rattle.qd_text.proofs.Names.{◌≡◌, ◌∙◌, ◌+◌, ◌<◌, ◌≤◌, ◌∷◌, sym, ap, List, ℕ, take, drop, length, false, get_or, arith, tokens_from, is_separator}
use Rattle.qd_text.proofs.Lexemes.{front_len, token_at, token_ends, filled_at, front_len-slice, nothing_left}
use Rattle.qd_text.proofs.token.next_token.Goals as goal

pub returns-then-start-len-clause-none : goal.returns-then-start-len-clause-none
returns-then-start-len-clause-none c =
    sym (rw c.deref.ensures.value at c.token_start-start.ensures.same) ∙ nothing_left false c.token_start-start.result c.args.bytes.now.items (omega arith)

len : (c : goal.After-token_len-len) → c.token_len-len.result ≡ front_len (drop c.token_start-start.result c.args.bytes.now.items)
len c = (rw c.deref-2.ensures.value at c.token_len-len.ensures.len) ∙ front_len-slice c.args.bytes.now.items c.token_start-start.result

within : (c : goal.After-token_len-len) → c.token_start-start.result < length c.args.bytes.now.items
within c = omega arith

begins : (c : goal.After-token_len-len) → is_separator (get_or c.args.bytes.now.items c.token_start-start.result 0) ≡ false
begins c = (rw c.deref.ensures.value at c.token_start-start.ensures.begins) (within c)

ends : (c : goal.After-token_len-len) → c.token_start-start.result + c.token_len-len.result ≤ length c.args.bytes.now.items
ends c = omega (arith, len c, token_ends c.args.bytes.now.items c.token_start-start.result (within c))

pub overflow_cast-result-2 : goal.overflow_cast-result-2
overflow_cast-result-2 c = omega (arith, ends c)

token_of_len : (bytes : List ℕ) (start n : ℕ) → n ≡ front_len (drop start bytes) → start < length bytes → is_separator (get_or bytes start 0) ≡ false
    → tokens_from start bytes ≡ (record { start = start; text = take n (drop start bytes) }) ∷ tokens_from (start + n) bytes
token_of_len bytes start n e within begins =
    token_at bytes start within begins ∙ ap (λ k. (record { start = start; text = take k (drop start bytes) }) ∷ tokens_from (start + k) bytes) (sym e)

pub returns-clause-token : goal.returns-clause-token
returns-clause-token c =
    sym (rw c.deref.ensures.value at c.token_start-start.ensures.same) ∙ token_of_len c.args.bytes.now.items c.token_start-start.result c.token_len-len.result (len c) (within c) (begins c)

pub returns-clause-inside : goal.returns-clause-inside
returns-clause-inside c = record {
  filled = omega (arith, len c, filled_at c.args.bytes.now.items c.token_start-start.result (within c) (begins c));
  ends = ends c;
}
