-- The ring of whole numbers, and its laws.
use Rattle.std.proofs.Common.{◌≡◌, ◌*◌, ap, ◌∙◌, arith}
use Rattle.std.specs.Prelude.{ℤ, pos, negsuc, ◌+ℤ◌, ◌*ℤ◌, neg_ℤ}
use borrow.Author.Differences.{up, down, same_in, sum_is_lem, product_is}
use lib.IntN.{+ℤ_assoc, +ℤ_comm, +ℤ_idl, +ℤ_idr, +ℤ_invr, *ℤ_comm}
use Rattle.algebra.specs.Structures.{CommRing}
use Rattle.algebra.proofs.RingLaws as ring

pub times_assoc : (a b c : ℤ) → (a *ℤ b) *ℤ c ≡ a *ℤ (b *ℤ c)
times_assoc a b c =
    let l = product_is a b in
    let r = product_is b c in
    same_in ((a *ℤ b) *ℤ c) (a *ℤ (b *ℤ c))
    (omega
    (arith, product_is (a *ℤ b) c, product_is a (b *ℤ c), ap (λ z. z * up c) l.0, ap (λ z. z * down c) l.0, ap (λ z. z * up c) l.1, ap (λ z. z * down c) l.1, ap (λ z. up a * z) r.0, ap (λ z. down a * z) r.0, ap (λ z. up a * z) r.1, ap (λ z. down a * z) r.1))

pub times_plus : (a b c : ℤ) → a *ℤ (b +ℤ c) ≡ a *ℤ b +ℤ a *ℤ c
times_plus a b c =
    let s = sum_is_lem b c in
    same_in (a *ℤ (b +ℤ c)) (a *ℤ b +ℤ a *ℤ c)
    (omega
    (arith, product_is a (b +ℤ c), ap (λ z. up a * z) s, ap (λ z. down a * z) s, product_is a b, product_is a c, sum_is_lem (a *ℤ b) (a *ℤ c)))

pub one_times : (a : ℤ) → pos 1 *ℤ a ≡ a
one_times a = same_in (pos 1 *ℤ a) a (omega (arith, product_is (pos 1) a))

abbrev pub integers : CommRing ℤ
integers = record {
  add = ◌+ℤ◌;
  nought = pos 0;
  neg = neg_ℤ;
  mul = ◌*ℤ◌;
  one = pos 1;
  add_assoc = +ℤ_assoc;
  add_comm = +ℤ_comm;
  add_nought = +ℤ_idr;
  add_neg = +ℤ_invr;
  mul_assoc = times_assoc;
  mul_comm = *ℤ_comm;
  mul_one = λ a. *ℤ_comm a (pos 1) ∙ one_times a;
  mul_add = times_plus;
}

pub plus_assoc : (a b c : ℤ) → (a +ℤ b) +ℤ c ≡ a +ℤ (b +ℤ c)
plus_assoc a b c = +ℤ_assoc a b c

pub plus_comm : (a b : ℤ) → a +ℤ b ≡ b +ℤ a
plus_comm a b = +ℤ_comm a b

pub zero_plus : (a : ℤ) → pos 0 +ℤ a ≡ a
zero_plus a = +ℤ_idl a

pub plus_zero : (a : ℤ) → a +ℤ pos 0 ≡ a
plus_zero a = +ℤ_idr a

pub plus_neg : (a : ℤ) → a +ℤ neg_ℤ a ≡ pos 0
plus_neg a = +ℤ_invr a

pub times_comm : (a b : ℤ) → a *ℤ b ≡ b *ℤ a
times_comm a b = *ℤ_comm a b

pub plus_times : (a b c : ℤ) → (a +ℤ b) *ℤ c ≡ a *ℤ c +ℤ b *ℤ c
plus_times = ring.add_mul integers

pub zero_times : (a : ℤ) → pos 0 *ℤ a ≡ pos 0
zero_times = ring.nought_mul integers

pub times_zero : (a : ℤ) → a *ℤ pos 0 ≡ pos 0
times_zero = ring.mul_nought integers

pub minus_one_times : (a : ℤ) → negsuc 0 *ℤ a ≡ neg_ℤ a
minus_one_times a = ring.neg_mul integers (pos 1) a ∙ ap neg_ℤ (one_times a)

pub neg_plus : (a b : ℤ) → neg_ℤ (a +ℤ b) ≡ neg_ℤ a +ℤ neg_ℤ b
neg_plus = ring.neg_add integers

pub neg_times : (a b : ℤ) → neg_ℤ a *ℤ b ≡ neg_ℤ (a *ℤ b)
neg_times = ring.neg_mul integers

pub times_neg : (a b : ℤ) → a *ℤ neg_ℤ b ≡ neg_ℤ (a *ℤ b)
times_neg = ring.mul_neg integers
