-- The extension of a group by roots of unity that a normalised 2-cocycle gives, over groups whose elements are a type (Schur 1904).
use Rattle.central_ext.proofs.Names.{Below, Group, IsConjugationPhase, IsTwoCocycle, Same, arith, below_equal, carry, carry_move, mod-eq_of_lt, mod-lt, op_cancel_right, same_add, same_lin, same_mod, same_multiple, same_sym, sym, ℕ, ◌%◌, ◌+◌, ◌-◌, ◌<◌, ◌∙◌, ◌≡◌}

-- an element of the group, and an exponent modulo n
pub record Lift (G : Type 0) (n : ℕ) : Type 0 where
  pub over : G
  pub root : Below n

pub lift_equal : {G : Type 0} {n : ℕ} (a b : Lift G n) → a.over ≡ b.over → a.root ≡ b.root → a ≡ b
lift_equal a b e f = λ i. record { over = e i; root = f i }

-- -v, modulo n
pub negative : (n v : ℕ) → 0 < n → Same n ((n - v % n) % n + v) 0
negative n v positive =
    let below : v % n < n = mod-lt v positive in
    same_lin n ((n - v % n) % n + v) 0 _ _ (same_add (same_mod n (n - v % n)) (same_add (same_sym (same_mod n v)) (same_multiple n 1))) (omega arith)

module _ {G : Type 0} (P : Group G) (n : ℕ) (positive : 0 < n) (t : G → G → ℕ) (T : IsTwoCocycle P n t) where
  abbrev pub reduced : ℕ → Below n
  reduced v = record { value = v % n; below = mod-lt v positive }

  pub reduced_same : (v w : ℕ) → Same n v w → reduced v ≡ reduced w
  reduced_same v w h = below_equal (reduced v) (reduced w) h.same

  pub reduced_is : (v : ℕ) (r : Below n) → Same n v r.value → reduced v ≡ r
  reduced_is v r h = below_equal (reduced v) r (h.same ∙ mod-eq_of_lt r.below)

  pub root_assoc : (a b c x y z w : ℕ) → Same n (x + y) (z + w) → Same n ((a + b + x) % n + c + y) (a + (b + c + w) % n + z)
  root_assoc a b c x y z w law =
      same_lin n ((a + b + x) % n + c + y) (a + (b + c + w) % n + z) _ _
      (same_add (same_mod n (a + b + x)) (same_add (same_sym (same_mod n (b + c + w))) law))
      (omega arith)

  -- th(x^-1,x) = th(x,x^-1)
  pub inverse_phases : (x : G) → Same n (t (P.inv x) x) (t x (P.inv x))
  inverse_phases x =
      let law : Same n (t x (P.inv x) + t P.one x) (t x P.one + t (P.inv x) x) = rw (P.op_inv x, P.inv_op x) at (T.law x (P.inv x) x) in
      same_lin n (t (P.inv x) x) (t x (P.inv x)) _ _ (same_add (same_sym law) (same_add (T.at_one_left x) (same_sym (T.at_one_right x)))) (omega arith)

  -- the group of lifts
  abbrev pub lifts : Group (Lift G n)
  lifts = record {
    op = λ a b. record { over = P.op a.over b.over; root = reduced (a.root.value + b.root.value + t a.over b.over) };
    inv = λ a. record { over = P.inv a.over; root = reduced (n - (a.root.value + t a.over (P.inv a.over)) % n) };
    one = record { over = P.one; root = record { value = 0; below = positive } };
    op_assoc = λ a b c. lift_equal _ _ (P.op_assoc a.over b.over c.over)
        (reduced_same _ _ (root_assoc a.root.value b.root.value c.root.value (t a.over b.over) (t (P.op a.over b.over) c.over) (t a.over (P.op b.over c.over)) (t b.over c.over)
        (T.law a.over b.over c.over)));
    one_op = λ a. lift_equal _ a (P.one_op a.over)
        (reduced_is (0 + a.root.value + t P.one a.over) a.root (same_lin n (0 + a.root.value + t P.one a.over) a.root.value _ _ (T.at_one_left a.over) (omega arith)));
    op_one = λ a. lift_equal _ a (P.op_one a.over)
        (reduced_is (a.root.value + 0 + t a.over P.one) a.root (same_lin n (a.root.value + 0 + t a.over P.one) a.root.value _ _ (T.at_one_right a.over) (omega arith)));
    inv_op = λ a. lift_equal _ _ (P.inv_op a.over)
        (reduced_is _ (record { value = 0; below = positive })
        (let v : ℕ = a.root.value + t a.over (P.inv a.over) in
        same_lin n ((n - v % n) % n + a.root.value + t (P.inv a.over) a.over) 0 _ _ (same_add (negative n v positive) (inverse_phases a.over)) (omega arith)));
    op_inv = λ a. lift_equal _ _ (P.op_inv a.over)
        (reduced_is _ (record { value = 0; below = positive })
        (let v : ℕ = a.root.value + t a.over (P.inv a.over) in
        same_lin n (a.root.value + (n - v % n) % n + t a.over (P.inv a.over)) 0 _ _ (negative n v positive) (omega arith)));
  }

  -- (c,k)(x,i)(c,k)^-1 = (c x c^-1, i + ka(c,x))
  pub carry_lift : (k : G → G → ℕ) → IsConjugationPhase P n t k → (c a : Lift G n)
      → carry lifts c a ≡ record { over = carry P c.over a.over; root = reduced (a.root.value + k c.over a.over) }
  carry_lift k K c a =
      let x : G = a.over in
      let y : G = carry P c.over x in
      let v : ℕ = a.root.value + k c.over x in
      let b : Lift G n = record { over = y; root = reduced v } in
      let moved : lifts.op b c ≡ lifts.op c a =
      lift_equal (lifts.op b c) (lifts.op c a) (carry_move P c.over x)
      (reduced_same (v % n + c.root.value + t y c.over) (c.root.value + a.root.value + t c.over x)
      (same_lin n (v % n + c.root.value + t y c.over) (c.root.value + a.root.value + t c.over x) _ _ (same_add (same_mod n v) (K.difference c.over x)) (omega arith))) in
      op_cancel_right lifts c (carry lifts c a) b (carry_move lifts c a ∙ sym moved)
