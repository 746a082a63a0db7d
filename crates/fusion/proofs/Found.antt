-- A number of which a fusion sum is the multiple is its fusion number.
use Rattle.fusion.proofs.Names.{◌≡◌, ℕ, ◌*◌, ◌/◌, ◌<◌, Some, ap, ◌∙◌, SimplesOver, AreSimples, fusion_sum, IsFusionNumber, mul_comm, mul-mod_right, mul-div_cancel, OfAllSimples, order_positive, divides, quotient_at}
use Rattle.fusion.specs.Laws.{NumbersAreFound, NumbersAreOfSums}
use Rattle.fusion.proofs.Quotients.{quotient_found}
use Rattle.fusion.proofs.Faults.{no_fault, number_found, number_of}

quotient_is : (k : ℕ) (s : SimplesOver) → AreSimples k s → (i j l v : ℕ) → IsFusionNumber k s i j l v → quotient_at k s i j l ≡ Some v
quotient_is k s S i j l v is =
    let n = s.cocycle.group.order in
    let positive : 0 < n = order_positive k S.conductor s.cocycle S.cocycle (divides k s S) in
    quotient_found k S.conductor n (fusion_sum k s i j l).value (n * v) is (mul-mod_right n v) ∙ ap Some (ap (λ m. m / n) (mul_comm n v) ∙ mul-div_cancel v positive)

pub numbers_are_found : OfAllSimples NumbersAreFound
numbers_are_found k s S = record {
  number = λ i j l v is. number_found k s i j l v (quotient_is k s S i j l v is);
  no_fault = λ i j l v is. no_fault k s i j l v (quotient_is k s S i j l v is);
}

pub numbers_are_of_sums : OfAllSimples NumbersAreOfSums
numbers_are_of_sums k s S = number_of k s
