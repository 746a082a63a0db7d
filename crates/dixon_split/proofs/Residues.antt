-- Lists of residues as elements of an algebra with a structure.
use Rattle.dixon_split.proofs.Names.{◌≡◌, ℕ, ◌+◌, ◌*◌, ◌<◌, ◌≤◌, List, get_or, sym, ◌∙◌, ap, subst, arith, fun_ext, CommRing, sum_below, field, field_residue, IsTabulated, Result, Ok, Err, IfOk, Element, IsElement, constant, image_value, residues, HasStructure, Structure}
use Rattle.dixon_split.proofs.Lists.{rows_below}

pub constant_below : (r t j k : ℕ) → t < r → j < r → k < r → (t * r + j) * r + k < r * r * r
constant_below r t j k t_below j_below k_below =
    let a : t * r + r ≤ r * r = rows_below t r r t_below in
    let b : (t * r + j) * r + r ≤ r * r * r = rows_below (t * r + j) (r * r) r (omega arith) in
    omega arith

-- what holds of an answer holds of what follows from it
pub if_ok : {X E : Type 0} (r : Result X E) (P Q : X → Type 0) → ((x : X) → P x → Q x) → IfOk r P → IfOk r Q
if_ok (Ok x) P Q f h = f x h
if_ok (Err e) P Q f h = tt

module _ (a : Structure) (t : ℕ) (e : List ℕ) where
  pub image_below : (k : ℕ) → image_value a t e k < a.q
  image_below k = (sum_below (field a.q a.listed) a.rank (λ j. (field a.q a.listed).mul (field_residue a.q a.listed (get_or e j 0)) (field_residue a.q a.listed (constant a t j k)))).below

  pub tabulated_element : (next : List ℕ) → IsTabulated a.rank (image_value a t e) next → IsElement a.q a.rank next
  tabulated_element next h = record {
    count = h.count;
    below = λ k below. subst (λ v. v < a.q) (sym (h.each k (let c = h.count in omega arith))) (image_below k);
  }

  pub tabulated_image : t < a.rank → (Z : CommRing (Element a.q a.rank)) (H : HasStructure a Z) → (next : List ℕ) → IsTabulated a.rank (image_value a t e) next
      → residues a next ≡ Z.mul (H.basis t) (residues a e)
  tabulated_image t_below Z H next h =
      fun_ext (λ k. ap (field_residue a.q a.listed) (h.each k.value k.below) ∙ sym (H.image_at t t_below e k))
