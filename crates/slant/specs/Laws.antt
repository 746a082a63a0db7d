-- The identities of the phases of each normalised 3-cocycle, as congruences of exponents modulo the number of roots
-- (Dijkgraaf, Pasquier, Roche 1990). Every variable is an element of the group.
use Rattle.std.specs.Prelude.{◌≡◌, ℕ, ◌+◌, ◌<◌}
use Rattle.algebra.specs.Congruences.{Same}
use Rattle.group_table.specs.Group.{product, inverse, identity_of, Commute}
use Rattle.cochain.specs.Cochain.{Cochain, value, IsCocycle}
use Rattle.classes.specs.Conjugacy.{conjugate}
use Rattle.slant.specs.Phases.{carried, theta, gamma, transport_phase, kappa}

-- x is an element of the group
abbrev pub IsElement : Cochain → ℕ → Type 0
IsElement w x = x < w.group.order

-- every phase is below the number of roots
abbrev pub PhasesBelow : Type 0
PhasesBelow =
    (w : Cochain) → IsCocycle w → (g x y : ℕ) → IsElement w g → IsElement w x → IsElement w y →
    (theta w g x y < w.roots) × (gamma w g x y < w.roots) × (transport_phase w g x y < w.roots) × (kappa w g x y < w.roots)

-- th_e(x,y), th_x(e,y) and th_x(y,e) are no phase
abbrev pub ThetaNormalised : Type 0
ThetaNormalised =
    (w : Cochain) → IsCocycle w → (x y : ℕ) → IsElement w x → IsElement w y →
    (theta w (identity_of w.group) x y ≡ 0) × (theta w x (identity_of w.group) y ≡ 0) × (theta w x y (identity_of w.group) ≡ 0)

-- ga_e(g,h), ga_g(e,h) and ga_g(h,e) are no phase
abbrev pub GammaNormalised : Type 0
GammaNormalised =
    (w : Cochain) → IsCocycle w → (g h : ℕ) → IsElement w g → IsElement w h →
    (gamma w (identity_of w.group) g h ≡ 0) × (gamma w g (identity_of w.group) h ≡ 0) × (gamma w g h (identity_of w.group) ≡ 0)

-- th_g(x,y) th_g(xy,z) = th_g(x,yz) th_h(y,z) with h = x^-1 g x
abbrev pub ThetaAssociative : Type 0
ThetaAssociative =
    (w : Cochain) → IsCocycle w → (g x y z : ℕ) → IsElement w g → IsElement w x → IsElement w y → IsElement w z →
    Same w.roots (theta w g x y + theta w g (product w.group x y) z) (theta w g x (product w.group y z) + theta w (carried w.group g x) y z)

-- th_g(x,y) th_h(x,y) ga_x(g,h) ga_y(x^-1 g x, x^-1 h x) = th_gh(x,y) ga_xy(g,h)
abbrev pub ThetaGammaCompatible : Type 0
ThetaGammaCompatible =
    (w : Cochain) → IsCocycle w → (g h x y : ℕ) → IsElement w g → IsElement w h → IsElement w x → IsElement w y →
    Same w.roots
    (theta w g x y + theta w h x y + gamma w x g h + gamma w y (carried w.group g x) (carried w.group h x))
    (theta w (product w.group g h) x y + gamma w (product w.group x y) g h)

-- ga_b(g,h) = th_b(g,h) for g and h that commute with b
abbrev pub GammaIsTheta : Type 0
GammaIsTheta =
    (w : Cochain) → IsCocycle w → (b g h : ℕ) → IsElement w b → IsElement w g → IsElement w h → Commute w.group g b → Commute w.group h b →
    gamma w b g h ≡ theta w b g h

-- for g and x that commute, the transport phases of x in the algebra of g and of g in that of x are inverse to each other
abbrev pub TransportPhasesInverse : Type 0
TransportPhasesInverse =
    (w : Cochain) → IsCocycle w → (g x k : ℕ) → IsElement w g → IsElement w x → IsElement w k → Commute w.group g x →
    Same w.roots (transport_phase w g x k + transport_phase w x g k) 0

-- th_g(g,x) = th_g(x,g) = w(g,x,g) for g and x that commute
abbrev pub ThetaAtItself : Type 0
ThetaAtItself =
    (w : Cochain) → IsCocycle w → (g x : ℕ) → IsElement w g → IsElement w x → Commute w.group g x →
    (theta w g g x ≡ value w g x g) × (theta w g x g ≡ value w g x g)

-- th_gx(g,x) = th_g(g,x) th_x(x,g) for g and x that commute
abbrev pub ThetaProductIndex : Type 0
ThetaProductIndex =
    (w : Cochain) → IsCocycle w → (g x : ℕ) → IsElement w g → IsElement w x → Commute w.group g x →
    Same w.roots (theta w (product w.group g x) g x) (theta w g g x + theta w x x g)

-- in its own algebra an element is carried with no phase
abbrev pub TransportPhaseOfItself : Type 0
TransportPhaseOfItself = (w : Cochain) → IsCocycle w → (g k : ℕ) → IsElement w g → IsElement w k → transport_phase w g g k ≡ 0

-- along kc: along k, and then along c, for g and x that commute
abbrev pub TransportPhaseComposes : Type 0
TransportPhaseComposes =
    (w : Cochain) → IsCocycle w → (g x k c : ℕ) → IsElement w g → IsElement w x → IsElement w k → IsElement w c → Commute w.group g x →
    Same w.roots (transport_phase w g x (product w.group k c)) (transport_phase w g x k + transport_phase w (carried w.group g k) (carried w.group x k) c)

-- and back along k^-1
abbrev pub TransportPhaseBack : Type 0
TransportPhaseBack =
    (w : Cochain) → IsCocycle w → (g x k : ℕ) → IsElement w g → IsElement w x → IsElement w k → Commute w.group g x →
    Same w.roots (transport_phase w (carried w.group g k) (carried w.group x k) (inverse w.group k) + transport_phase w g x k) 0

-- for x and y that commute with g, carrying along k turns products of the algebra of g into products of that of k^-1 g k
abbrev pub TransportIsAlgebraMap : Type 0
TransportIsAlgebraMap =
    (w : Cochain) → IsCocycle w → (g x y k : ℕ) → IsElement w g → IsElement w x → IsElement w y → IsElement w k → Commute w.group g x → Commute w.group g y →
    Same w.roots
    (theta w g x y + transport_phase w g (product w.group x y) k)
    (transport_phase w g x k + transport_phase w g y k + theta w (carried w.group g k) (carried w.group x k) (carried w.group y k))

-- for g and h that commute with x, the coproduct phase is carried along k
abbrev pub GammaTransport : Type 0
GammaTransport =
    (w : Cochain) → IsCocycle w → (x g h k : ℕ) → IsElement w x → IsElement w g → IsElement w h → IsElement w k → Commute w.group g x → Commute w.group h x →
    Same w.roots
    (gamma w x g h + transport_phase w g x k + transport_phase w h x k)
    (transport_phase w (product w.group g h) x k + gamma w (carried w.group x k) (carried w.group g k) (carried w.group h k))

-- ka(dc,x) = ka(d, c x c^-1) ka(c,x) for c, d and x that commute with a
abbrev pub KappaComposes : Type 0
KappaComposes =
    (w : Cochain) → IsCocycle w → (a d c x : ℕ) → IsElement w a → IsElement w d → IsElement w c → IsElement w x →
    Commute w.group a d → Commute w.group a c → Commute w.group a x →
    Same w.roots (kappa w a (product w.group d c) x) (kappa w a d (conjugate w.group c x) + kappa w a c x)

-- the conjugation phase by c is inverse to the transport phase of c x c^-1 along c
abbrev pub KappaIsTransport : Type 0
KappaIsTransport =
    (w : Cochain) → IsCocycle w → (a c x : ℕ) → IsElement w a → IsElement w c → IsElement w x →
    Same w.roots (kappa w a c x + transport_phase w a (conjugate w.group c x) c) 0
