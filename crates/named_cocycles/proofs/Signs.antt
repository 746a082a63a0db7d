-- The reflections of a dihedral group give a normalised 3-cocycle: the product of three maps onto the group of order 2.
use Rattle.named_cocycles.proofs.Names.{◌≡◌, ℕ, ◌+◌, ◌*◌, ◌/◌, ◌%◌, ◌<◌, None, refl, ap, subst, arith, mod-lt, mul-add, add-mul, one-mul, pair, dihedral_product, second_of, dihedral_below, cocycle_fault, reflections_value, reflections_cocycle}
use mathlib.Core.Path.{fun_ext}
use Rattle.algebra.specs.Congruences.{Same}
use Rattle.algebra.proofs.CongruenceLaws.{same_of, same_sym, same_trans, same_mod, same_add_left, same_mul_left, same_mul_right}
use Rattle.cochain.specs.Laws.{IsLawful}
use Rattle.cocycle_make.proofs.Cup.{lawful_by, IsCup, cup}

-- products of two signs are a 2-cocycle
closed : (x y z xy yz : ℕ) → Same 2 xy (x + y) → Same 2 yz (y + z) → Same 2 (x * y + xy * z) (y * z + x * yz)
closed x y z xy yz first last =
    let middle : x * y + (x + y) * z ≡ y * z + x * (y + z) = rw (add-mul x y z, mul-add x y z) (omega arith) in
    same_trans (same_add_left (x * y) (same_mul_right z first))
    (same_trans (same_of 2 middle) (same_sym (same_add_left (y * z) (same_mul_left x last))))

module _ (n : ℕ) (positive : 0 < n) where
  abbrev sign : ℕ → ℕ
  sign x = x / n

  -- the sign of a product is the sum of the signs
  sign_of_product : (g h : ℕ) → Same 2 (sign (dihedral_product n g h)) (sign g + sign h)
  sign_of_product g h = same_trans (same_of 2 (second_of n _ ((sign g + sign h) % 2) (mod-lt _ positive))) (same_mod 2 (sign g + sign h))

  sign_of_unit : sign (pair n 0 0) ≡ 0
  sign_of_unit = second_of n 0 0 positive

  C : IsCup (2 * n) (dihedral_product n) (pair n 0 0) 2 2 1 sign (λ y z. sign y * sign z)
  C = record {
    turns = record { same = refl };
    additive = λ g h p q. sign_of_product g h;
    unit = sign_of_unit;
    left = λ h p. rw sign_of_unit (let none : 0 * sign h ≡ 0 = omega arith in none);
    right = λ h p. rw sign_of_unit (let none : sign h * 0 ≡ 0 = omega arith in none);
    closed = λ h k l p q r. closed (sign h) (sign k) (sign l) _ _ (sign_of_product h k) (sign_of_product k l);
  }

  laws : IsLawful (2 * n) (dihedral_product n) (pair n 0 0) 2 (reflections_value n)
  laws =
      subst (λ at. IsLawful (2 * n) (dihedral_product n) (pair n 0 0) 2 at)
      (fun_ext (λ x. fun_ext (λ y. fun_ext (λ z. ap (λ a. a * (sign y * sign z)) (one-mul (sign x))))))
      (cup (2 * n) (dihedral_product n) (pair n 0 0) 2 2 1 sign (λ y z. sign y * sign z) C)

  pub reflections_lawful : cocycle_fault (reflections_cocycle n) ≡ None
  reflections_lawful = lawful_by (2 * n) (pair n 0 0) (dihedral_product n) (dihedral_below n positive) 2 (reflections_value n) laws
