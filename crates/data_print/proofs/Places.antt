-- The places of the centraliser of a simple.
use Rattle.data_print.proofs.Names.{◌≡◌, ℕ, ◌<◌, length, refl, sym, ap, ◌∙◌, SimplesOver, AreSimples, class_at, over_at}
use Rattle.classes.specs.Conjugacy.{centraliser_of, representative_at}
use Rattle.cochain.specs.Cochain.{Cochain}
use Rattle.slant.specs.Twists.{twist_of}
use Rattle.twisted.specs.Twist.{size}

centraliser_size : (w : Cochain) (a : ℕ) → size (twist_of w a) ≡ length (centraliser_of w.group a)
unfolding twist_of
centraliser_size w a = refl

pub places_of : (k : ℕ) (s : SimplesOver) (i : ℕ) → AreSimples k s → class_at k s i < length s.tables
    → length (centraliser_of s.cocycle.group (representative_at s.cocycle.group (class_at k s i))) ≡ size (over_at k s i)
places_of k s i are inside =
    sym (ap (λ t. size t) (are.tables.over (class_at k s i) inside) ∙ centraliser_size s.cocycle (representative_at s.cocycle.group (class_at k s i)))
