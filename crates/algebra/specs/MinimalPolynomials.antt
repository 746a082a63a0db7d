-- Minimal polynomials and eigenvectors of a linear map, up to a part of the module, such as nought alone (textbook).
use Rattle.std.specs.Prelude.{◌≡◌, ◌<◌, List, [], ◌∷◌, ◌++◌, length}
use Rattle.algebra.specs.Structures.{CommRing}
use Rattle.algebra.specs.Polynomials.{AllNought}
use Rattle.algebra.specs.Modules.{LinearMap, act}

module _ {A V : Type 0} {R : CommRing A} (T : LinearMap R V) (W : V → Type 0) where
  -- f is the minimal polynomial: it is monic and takes everything into W, and a shorter one that does is nought
  pub record IsMinimalPolynomial (f : List A) : Type 0 where
    pub lower : List A
    pub monic : f ≡ lower ++ R.one ∷ []
    pub annihilates : (v : V) → W (act T f v)
    pub least : (g : List A) → length g < length f → ((v : V) → W (act T g v)) → AllNought R g

  -- T v - a v lies in W
  abbrev pub IsScaled : A → V → Type 0
  IsScaled a v = W (T.add (T.map v) (T.scale (R.neg a) v))

  -- only what lies in W is multiplied by a, so that no vector is an eigenvector for a
  abbrev pub HasNoEigenvector : A → Type 0
  HasNoEigenvector a = (v : V) → IsScaled a v → W v
