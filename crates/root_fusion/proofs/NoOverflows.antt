-- Of simples whose values are sums of roots of unity no sum overflows at any site.
use Rattle.root_fusion.proofs.Names.{◌≡◌, ℕ, ◌*◌, ◌/◌, ◌%◌, Bool, true, false, map, ap, range_with_len, inl, inr, full_character, s_sum, tensor_character, fusion_sum, OfRootSimples}
use Rattle.fusion_web.specs.Entries.{count_of}
use Rattle.root_tables.proofs.SimpleRoots.{root_simples_fit}
use Rattle.root_fusion.specs.Overflows.{NumeratorsNeverOverflow, FusionNeverOverflows, PlanesAreNumbers}
use Rattle.root_fusion.proofs.FusionSums.{characters_fit, tensor_products_fit, fusion_sums_fit}

fits_or_not : (fits : Bool) → fits ≡ true → fits ≡ false → ⊥
fits_or_not true fit overflow = absurd cc
fits_or_not false fit overflow = absurd cc

pub numerators_never_overflow : OfRootSimples NumeratorsNeverOverflow
numerators_never_overflow k s S roots site at =
    fits_or_not (s_sum k s site.i site.j).fits (root_simples_fit k s S roots site.i site.j at.i_below at.j_below) at.overflows

pub fusion_never_overflows : OfRootSimples FusionNeverOverflows
fusion_never_overflows k s S roots site at =
    elim at [
      | inl full ↦ fits_or_not (full_character k s site.i site.at site.x).fits (characters_fit k s S roots site.i site.at site.x full.i_below) full.overflows
      | inr products ↦
          elim products [
            | inl tensor ↦
                fits_or_not (tensor_character k s site.i site.j site.at site.x).fits
                (tensor_products_fit k s S roots site.i site.j site.at site.x tensor.i_below tensor.j_below) tensor.overflows
            | inr inner ↦
                fits_or_not (fusion_sum k s site.i site.j site.at).fits
                (fusion_sums_fit k s S roots site.i site.j site.at inner.i_below inner.j_below inner.l_below) inner.overflows
          ]
    ]

pub planes_are_numbers : PlanesAreNumbers
planes_are_numbers k s web same l = ap (λ (n : ℕ). map (λ q. count_of web (q / n) (q % n) l) (range_with_len 0 (n * n))) same
