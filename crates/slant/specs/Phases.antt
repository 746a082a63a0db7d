-- The phases of a 3-cochain w of a group by its table, as exponents modulo the number of roots. An exponent is taken off by adding
-- its distance to the number of roots. Every index is an element of the group.
use Rattle.std.specs.Prelude.{ℕ, ◌+◌, ◌-◌, ◌%◌}
use Rattle.group_table.specs.Group.{Table, product, inverse}
use Rattle.cochain.specs.Cochain.{Cochain, value}
use Rattle.classes.specs.Conjugacy.{conjugate}

-- x^-1 g x
abbrev pub carried : Table → ℕ → ℕ → ℕ
carried t g x = product t (inverse t x) (product t g x)

-- th_g(x,y) = w(g,x,y) w(x,y,(xy)^-1 g xy) / w(x, x^-1 g x, y), the slant product (Dijkgraaf, Pasquier, Roche 1990)
unfoldable pub theta : Cochain → ℕ → ℕ → ℕ → ℕ
theta w g x y =
    (value w g x y + value w x y (carried w.group g (product w.group x y)) + (w.roots - value w x (carried w.group g x) y)) % w.roots

-- ga_x(g,h) = w(g,h,x) w(x, x^-1 g x, x^-1 h x) / w(g, x, x^-1 h x), the coproduct phase (Dijkgraaf, Pasquier, Roche 1990)
unfoldable pub gamma : Cochain → ℕ → ℕ → ℕ → ℕ
gamma w x g h =
    (value w g h x + value w x (carried w.group g x) (carried w.group h x) + (w.roots - value w g x (carried w.group h x))) % w.roots

-- th_g(x,k) / th_g(k, k^-1 x k), by which u_x of the algebra of g is carried along k (Dijkgraaf, Pasquier, Roche 1990)
unfoldable pub transport_phase : Cochain → ℕ → ℕ → ℕ → ℕ
transport_phase w g x k = (theta w g x k + (w.roots - theta w g k (carried w.group x k))) % w.roots

-- ka(c,x) = th_a(c,x) / th_a(c x c^-1, c), by which u_c carries u_x in the algebra of a (textbook)
unfoldable pub kappa : Cochain → ℕ → ℕ → ℕ → ℕ
kappa w a c x = (theta w a c x + (w.roots - theta w a (conjugate w.group c x) c)) % w.roots
