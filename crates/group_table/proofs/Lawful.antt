-- A table whose products are a group on the numbers below its order breaks no law.
use Rattle.std.proofs.Common.{◌≡◌, ℕ, ◌*◌, true, nat_eq, nat_lt, cond, Some, None, length, refl, sym, ◌∙◌}
use Rattle.std.specs.Prelude.{is_some}
use Rattle.std.proofs.lemmas.Bool.{eq-eqb, lt-ltb}
use Rattle.scan.proofs.Places.{first_none, all_below-all}
use Rattle.orders.specs.Group.{IsGroupBelow}
use Rattle.group_table.specs.Group.{Table, product, entry_fault, is_identity, two_sided_identity, identity_of, identity_fault, inverse_of, inverse_fault, associates, associativity_fault, group_fault, IsGroup}
use Rattle.group_table.specs.declared.fault.GroupFault.TheVariants.{Entry, NoIdentity, NoInverse, NotAssociative}
use Rattle.group_table.specs.Laws.{GroupExactly}
use Rattle.group_table.proofs.Sentences.{identity_is, group_below}
use Rattle.scan.proofs.Searches.{both, no_fault, let_in, first_finds, is_some_of}

module _ (t : Table) (u : ℕ) (B : IsGroupBelow t.order (product t) u) where
  entries : entry_fault t ≡ None
  entries = first_none t.order _ (λ g p. first_none t.order _ (λ h q. no_fault (nat_lt (product t g h) t.order) (Entry g h) (lt-ltb _ _ (B.closed g h p q))))

  unit_found : is_identity t u ≡ true
  unit_found = all_below-all t.order _ (λ h p. both (nat_eq (product t u h) h) (nat_eq (product t h u) h) (eq-eqb _ _ (B.unit_left h p)) (eq-eqb _ _ (B.unit_right h p)))

  has_identity : identity_fault t ≡ None
  has_identity =
      let (e, here) = first_finds t.order u (λ e. cond (is_identity t e) (Some e) None) u B.unit_below (let_in (is_identity t u) u unit_found) in
      no_fault (is_some (two_sided_identity t)) NoIdentity (is_some_of (two_sided_identity t) e here)

  -- the identity that is found is the unit
  pub identity_is_unit : identity_of t ≡ u
  identity_is_unit =
      let identity = identity_is t has_identity in
      sym (B.unit_right (identity_of t) identity.below) ∙ identity.left u B.unit_below

  inverses : inverse_fault t ≡ None
  inverses =
      first_none t.order _
      (λ g p.
      let (h, below, right) = B.right_inverse g p in
      let (k, here) = first_finds t.order h (λ h. cond (nat_eq (product t g h) (identity_of t)) (Some h) None) h below (let_in (nat_eq (product t g h) (identity_of t)) h (eq-eqb _ _ (right ∙ sym identity_is_unit))) in
      no_fault (is_some (inverse_of t g)) (NoInverse g) (is_some_of (inverse_of t g) k here))

  associativity : associativity_fault t ≡ None
  associativity =
      first_none t.order _ (λ g p. first_none t.order _ (λ h q. first_none t.order _ (λ k r. no_fault (associates t g h k) (NotAssociative g h k) (eq-eqb _ _ (B.associative g h k p q r)))))

  pub lawful : group_fault t ≡ None
  unfolding group_fault
  lawful = rw (entries, has_identity, inverses, associativity) refl

  pub is_group : length t.entries ≡ t.order * t.order → IsGroup t
  is_group square = record { square = square; lawful = lawful }

pub group_exactly : GroupExactly
group_exactly t = (
  λ group. (group.square, (identity_of t, group_below t group)),
  λ sentences. is_group t sentences.1.0 sentences.1.1 sentences.0,
)
