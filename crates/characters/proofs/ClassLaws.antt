-- Classes from representatives and elements that carry these to their conjugates.
use Rattle.characters.proofs.Names.{◌≡◌, sym, ◌∙◌, ap, Group, conj, group_rules, conj_is, Classes}

module _ {G : Type 0} (P : Group G) where
  -- (k a k^-1) carried back along k
  pub carried_back : (k a : G) → conj P (P.op (P.op k a) (P.inv k)) k ≡ a
  carried_back k a = simp (conj_is, group_rules, P)

  pub conj_is_conjugate : (g c : G) → conj P g c ≡ P.op (P.op (P.inv c) g) (P.inv (P.inv c))
  conj_is_conjugate g c = simp (conj_is, group_rules, P)

  -- from k a k^-1 = g for the representative a and the carrier k of each g
  abbrev pub classes_by_conjugates : (representative carrier : G → G)
      → ((g : G) → P.op (P.op (carrier g) (representative g)) (P.inv (carrier g)) ≡ g)
      → ((k g : G) → representative (P.op (P.op k g) (P.inv k)) ≡ representative g) → Classes P
  classes_by_conjugates representative carrier carries constant = record {
    representative = representative;
    carrier = carrier;
    carries = λ g. ap (λ z. conj P z (carrier g)) (sym (carries g)) ∙ carried_back (carrier g) (representative g);
    constant = λ g c. ap representative (conj_is_conjugate g c) ∙ constant (P.inv c) g;
  }
