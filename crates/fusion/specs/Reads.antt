-- Reads of a web of fusion numbers.
use Rattle.std.specs.Prelude.{ℕ, ◌*◌, ◌/◌, ◌%◌, ◌==◌, Option, List, map}
use Rattle.std.specs.List.{range_with_len}
use Rattle.scan.specs.First.{first}
use Rattle.table_check.specs.Check.{where_holds}
use Rattle.fusion_web.specs.Entries.{WebEntries, count_of}

module _ (web : WebEntries) where
  -- how often l comes in the product of each pair of simples, by the first, then the second
  abbrev pub plane_of : ℕ → List ℕ
  plane_of l = let n = web.simples in map (λ q. count_of web (q / n) (q % n) l) (range_with_len 0 (n * n))

  -- the least simple in whose product with i the vacuum comes once
  abbrev pub dual_of : ℕ → Option ℕ
  dual_of i = first web.simples (λ j. where_holds (count_of web i j 0 == 1) j)
