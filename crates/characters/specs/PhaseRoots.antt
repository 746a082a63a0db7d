-- The roots of the phases of the cocycle (Dijkgraaf, Pasquier, Roche 1990).
use Rattle.phases.specs.Phases.{theta, gamma, transport_phase, kappa}
use Rattle.characters.specs.Setting.{Setting}

module _ {A G : Type 0} (T : Setting A G) where
  -- the slant product th_a(x,y), by which u_x u_y is u_xy in the algebra of a
  unfoldable pub slant_root : G → G → G → A
  slant_root a x y = T.roots.root (theta T.group T.modulus T.cochain a x y)

  -- th_g(x,k) / th_g(k, k^-1 x k), by which the value at x in the algebra of g is carried along k
  unfoldable pub transport_root : G → G → G → A
  transport_root g x k = T.roots.root (transport_phase T.group T.modulus T.cochain g x k)

  -- th_a(c,x) / th_a(c x c^-1, c), by which u_c carries u_x in the algebra of a
  unfoldable pub conjugation_root : G → G → G → A
  conjugation_root a c x = T.roots.root (kappa T.group T.modulus T.cochain a c x)

  -- the coproduct phase ga_x(g,h), by which the parts at g and h of u_x come together
  unfoldable pub coproduct_root : G → G → G → A
  coproduct_root x g h = T.roots.root (gamma T.group T.modulus T.cochain x g h)
