-- Laws that follow from those of a group, and of x^-1 g x.
use Rattle.algebra.proofs.Names.{◌≡◌, refl, sym, ◌∙◌, ap, Group, conj}

module _ {G : Type 0} (P : Group G) where
  pub op_assoc : (x y z : G) → P.op (P.op x y) z ≡ P.op x (P.op y z)
  op_assoc = P.op_assoc

  pub one_op : (x : G) → P.op P.one x ≡ x
  one_op = P.one_op

  pub op_one : (x : G) → P.op x P.one ≡ x
  op_one = P.op_one

  pub inv_op : (x : G) → P.op (P.inv x) x ≡ P.one
  inv_op = P.inv_op

  pub op_inv : (x : G) → P.op x (P.inv x) ≡ P.one
  op_inv = P.op_inv

  pub inv_op_op : (x y : G) → P.op (P.inv x) (P.op x y) ≡ y
  inv_op_op x y = sym (P.op_assoc (P.inv x) x y) ∙ ap (λ a. P.op a y) (P.inv_op x) ∙ P.one_op y

  pub op_inv_op : (x y : G) → P.op x (P.op (P.inv x) y) ≡ y
  op_inv_op x y = sym (P.op_assoc x (P.inv x) y) ∙ ap (λ a. P.op a y) (P.op_inv x) ∙ P.one_op y

  pub op_op_inv : (x y : G) → P.op (P.op y x) (P.inv x) ≡ y
  op_op_inv x y = P.op_assoc y x (P.inv x) ∙ ap (λ a. P.op y a) (P.op_inv x) ∙ P.op_one y

  pub op_inv_cancel : (x y : G) → P.op (P.op y (P.inv x)) x ≡ y
  op_inv_cancel x y = P.op_assoc y (P.inv x) x ∙ ap (λ a. P.op y a) (P.inv_op x) ∙ P.op_one y

  pub op_cancel_left : (x y z : G) → P.op x y ≡ P.op x z → y ≡ z
  op_cancel_left x y z h = sym (inv_op_op x y) ∙ ap (λ a. P.op (P.inv x) a) h ∙ inv_op_op x z

  pub op_cancel_right : (x y z : G) → P.op y x ≡ P.op z x → y ≡ z
  op_cancel_right x y z h = sym (op_op_inv x y) ∙ ap (λ a. P.op a (P.inv x)) h ∙ op_op_inv x z

  -- what x takes to one is its inverse
  pub inv_unique : (x y : G) → P.op x y ≡ P.one → y ≡ P.inv x
  inv_unique x y h = op_cancel_left x y (P.inv x) (h ∙ sym (P.op_inv x))

  pub inv_inv : (x : G) → P.inv (P.inv x) ≡ x
  inv_inv x = sym (inv_unique (P.inv x) x (P.inv_op x))

  pub inv_one : P.inv P.one ≡ P.one
  inv_one = sym (inv_unique P.one P.one (P.one_op P.one))

  pub inv_of_op : (x y : G) → P.inv (P.op x y) ≡ P.op (P.inv y) (P.inv x)
  inv_of_op x y = sym (inv_unique (P.op x y) (P.op (P.inv y) (P.inv x)) (simp (P.op_assoc, op_inv_op, P.op_inv)))

-- sorts brackets and lets inverse neighbours vanish
pub ruleset group_rules = (op_assoc, one_op, op_one, inv_op, op_inv, inv_op_op, op_inv_op, inv_inv, inv_one, inv_of_op)

module _ {G : Type 0} (P : Group G) where
  pub conj_is : (g x : G) → conj P g x ≡ P.op (P.inv x) (P.op g x)
  unfolding conj
  conj_is g x = refl

  -- by a product: first by its left factor
  pub conj_op : (g x y : G) → conj P g (P.op x y) ≡ conj P (conj P g x) y
  conj_op g x y = simp (conj_is, group_rules, P)

  -- of a product: factor by factor
  pub op_conj : (g h x : G) → conj P (P.op g h) x ≡ P.op (conj P g x) (conj P h x)
  op_conj g h x = simp (conj_is, group_rules, P)

  pub conj_one : (g : G) → conj P g P.one ≡ g
  conj_one g = simp (conj_is, group_rules, P)

  pub one_conj : (x : G) → conj P P.one x ≡ P.one
  one_conj x = simp (conj_is, group_rules, P)

  pub inv_conj : (g x : G) → conj P (P.inv g) x ≡ P.inv (conj P g x)
  inv_conj g x = simp (conj_is, group_rules, P)

  pub conj_self : (x : G) → conj P x x ≡ x
  conj_self x = simp (conj_is, group_rules, P)

  -- x (x^-1 g x) = g x
  pub move : (g x : G) → P.op x (conj P g x) ≡ P.op g x
  move g x = simp (conj_is, group_rules, P)

  pub move_left : (g x y : G) → P.op x (P.op (conj P g x) y) ≡ P.op g (P.op x y)
  move_left g x y = simp (conj_is, group_rules, P)

  pub conj_inv : (g x : G) → conj P (conj P g x) (P.inv x) ≡ g
  conj_inv g x = simp (conj_is, group_rules, P)

  pub conj_of_inv : (g x : G) → conj P (conj P g (P.inv x)) x ≡ g
  conj_of_inv g x = simp (conj_is, group_rules, P)

  -- x commutes with g exactly where x^-1 g x = g
  pub conj_of_commuting : (g x : G) → P.op g x ≡ P.op x g → conj P g x ≡ g
  conj_of_commuting g x h = conj_is g x ∙ ap (λ a. P.op (P.inv x) a) h ∙ inv_op_op P x g

  pub commuting_of_conj : (g x : G) → conj P g x ≡ g → P.op g x ≡ P.op x g
  commuting_of_conj g x h = sym (move g x) ∙ ap (λ a. P.op x a) h

  -- commuting goes both ways
  pub conj_symmetric : (g x : G) → conj P g x ≡ g → conj P x g ≡ x
  conj_symmetric g x h = conj_of_commuting x g (sym (commuting_of_conj g x h))

  pub conj_injective : (g h x : G) → conj P g x ≡ conj P h x → g ≡ h
  conj_injective g h x e = sym (conj_inv g x) ∙ ap (λ a. conj P a (P.inv x)) e ∙ conj_inv h x

-- words of products and of x^-1 g x, with no inverse: brackets to the right, conjugation inwards
pub ruleset conj_rules = (op_assoc, one_op, op_one, conj_op, op_conj, conj_one, one_conj, conj_self, move, move_left)
