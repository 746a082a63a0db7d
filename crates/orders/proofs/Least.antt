-- The least number from 1 on that passes a test, and the scan that finds it.
use Prim.Native.Nat.{◌∣◌}
use Rattle.std.proofs.Common.{◌≡◌, ℕ, zero, suc, ◌+◌, ◌%◌, ◌<◌, ◌≤◌, Bool, true, false, ◌⊎◌, ◌↔◌, Option, Some, None, if◌then◌else◌, unwrap_or, refl, inl, inr, arith, add-one, mod-lt, eq-zero-or-pos}
use Rattle.std.proofs.lemmas.Nat.Gcd.{dvd_of_mod-eq-zero, mod-eq-zero_of_dvd}
use Rattle.std.proofs.lemmas.Bool.{cases_lt}
use Rattle.scan.proofs.Places.{first_some, first_none-at}
use Rattle.scan.proofs.Searches.{let_through, kept_out}
use Rattle.orders.specs.Order.{least_from_one}

-- k is what the scan finds: it is at most n, and the least number from 1 on that passes
pub record IsScanned (n : ℕ) (passes : ℕ → Bool) (k : ℕ) : Type 0 where
  pub found : least_from_one n passes ≡ Some k
  pub positive : 1 ≤ k
  pub at_most : k ≤ n
  pub here : passes k ≡ true
  pub least : (j : ℕ) → 1 ≤ j → passes j ≡ true → k ≤ j

module _ (n : ℕ) (passes : ℕ → Bool) where
  -- a number, if it passes
  abbrev at : ℕ → Option ℕ
  at i = if passes (i + 1) then Some (i + 1) else None

  -- where nothing is found before m, no number from 1 to m passes
  fail_to : (m : ℕ) → ((i : ℕ) → i < m → at i ≡ None) → (j : ℕ) → 1 ≤ j → j ≤ m → passes j ≡ false
  fail_to m none zero p q = absurd (omega arith)
  fail_to m none (suc i) p q = kept_out (passes (suc i)) (suc i) (rw add-one at (none i (omega arith)))

  scan_found : (k : ℕ) → least_from_one n passes ≡ Some k → IsScanned n passes k
  scan_found k found =
      let f = first_some n at k found in
      let (here, same) = let_through (passes (f.place + 1)) (f.place + 1) k f.here in
      let below : f.place < n = f.below in
      record {
        found = found;
        positive = omega arith;
        at_most = omega arith;
        here = rw (← same) here;
        least = λ j p e. elim (cases_lt j k) [
          | inl less ↦ absurd (let fails = fail_to f.place f.before j p (omega arith) in cc)
          | inr most ↦ most
        ];
      }

  -- all numbers from 1 to n fail, or the scan finds the least that passes
  pub scanned : ((j : ℕ) → 1 ≤ j → j ≤ n → passes j ≡ false) ⊎ IsScanned n passes (unwrap_or (least_from_one n passes) 0)
  scanned = by (least_from_one n passes) refl
    where
      by : (o : Option ℕ) → least_from_one n passes ≡ o
          → ((j : ℕ) → 1 ≤ j → j ≤ n → passes j ≡ false) ⊎ IsScanned n passes (unwrap_or (least_from_one n passes) 0)
      by (Some k) e = inr (rw e (scan_found k e))
      by None e = inl (fail_to n (λ i p. first_none-at n i at e p))

-- the multiples of k: a fact that holds at 0, and at a number exactly where it holds at its remainder modulo k, and at no number from 1
-- on before k
module _ (Holds : ℕ → Type 0) (k : ℕ) (positive : 1 ≤ k) (least : (j : ℕ) → 1 ≤ j → Holds j → k ≤ j) (nought : Holds 0)
    (to : (j : ℕ) → Holds (j % k) → Holds j) (from : (j : ℕ) → Holds j → Holds (j % k)) where
  pub divides_exactly : (j : ℕ) → (k ∣ j) ↔ Holds j
  divides_exactly j = (
    λ divides. to j (rw (mod-eq-zero_of_dvd k divides) nought),
    λ holds. elim (eq-zero-or-pos (j % k)) [
      | inl none ↦ dvd_of_mod-eq-zero k none
      | inr some ↦
          let most : k ≤ j % k = least (j % k) some (from j holds) in
          let less : j % k < k = mod-lt j positive in
          absurd (omega arith)
    ],
  )
