-- The phases of a 3-cochain w, as exponents modulo n. An exponent is taken off by adding its distance to n.
use Rattle.std.specs.Prelude.{ℕ, ◌+◌, ◌-◌, ◌%◌}
use Rattle.algebra.specs.Groups.{Group, conj}

-- slant product: w(g,x,y) w(x,y,(xy)^-1 g xy) / w(x, x^-1 g x, y) (Dijkgraaf, Pasquier, Roche 1990)
unfoldable pub theta : {G : Type 0} → Group G → ℕ → (G → G → G → ℕ) → G → G → G → ℕ
theta P n w g x y = (w g x y + w x y (conj P g (P.op x y)) + (n - w x (conj P g x) y)) % n

-- coproduct phase: w(g,h,x) w(x, x^-1 g x, x^-1 h x) / w(g, x, x^-1 h x) (Dijkgraaf, Pasquier, Roche 1990)
unfoldable pub gamma : {G : Type 0} → Group G → ℕ → (G → G → G → ℕ) → G → G → G → ℕ
gamma P n w x g h = (w g h x + w x (conj P g x) (conj P h x) + (n - w g x (conj P h x))) % n

-- transport phase of x in the algebra of g, along k: th_g(x,k) / th_g(k, k^-1 x k) (Dijkgraaf, Pasquier, Roche 1990)
unfoldable pub transport_phase : {G : Type 0} → Group G → ℕ → (G → G → G → ℕ) → G → G → G → ℕ
transport_phase P n w g x k = (theta P n w g x k + (n - theta P n w g k (conj P x k))) % n

-- conjugation phase of x by c in the algebra of a: th_a(c,x) / th_a(c x c^-1, c) (textbook)
unfoldable pub kappa : {G : Type 0} → Group G → ℕ → (G → G → G → ℕ) → G → G → G → ℕ
kappa P n w a c x = (theta P n w a c x + (n - theta P n w a (P.op (P.op c x) (P.inv c)) c)) % n
