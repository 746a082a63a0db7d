-- The ranks of the classes are as many as these, few and small.
use Rattle.qd_engine.proofs.Names.{◌≡◌, All, ◌<◌, ◌≤◌, length, sym, ap, subst, ◌∙◌, arith, length-map, All-map, Table, Cochain, IsCocycle, representatives, representative_at, representative_at_is, TwistedSubgroup, rank, twist_lawful, class_twists, count_by-le-length, IsTwist, is_regular, class_ranks, IsListOf}
use Rattle.classes.proofs.Counting.{classes_at_most}
use Rattle.qd_steps.proofs.TwistLists.{length-class_twists, twist_at}
use Rattle.qd_engine.specs.declared.class_list.ClassList.{ClassList}

-- there are no more regular classes than places
pub rank_small : (s : TwistedSubgroup) → IsTwist s → rank s ≤ 60
unfolding rank
rank_small s twist =
    let few : length (representatives s.group) ≤ s.group.order = classes_at_most s.group twist.group in
    let counted = count_by-le-length (is_regular s) (representatives s.group) in
    let small = twist.small in
    omega arith

-- one for each class
pub length-class_ranks : (w : Cochain) → length (class_ranks w) ≡ length (representatives w.group)
unfolding class_ranks
length-class_ranks w = length-map (class_twists w) rank ∙ length-class_twists w

-- there are no more classes than elements
pub class_ranks_few : (w : Cochain) → IsCocycle w → length (class_ranks w) ≤ 60
class_ranks_few w cocycle =
    let few : length (representatives w.group) ≤ w.group.order = classes_at_most w.group cocycle.cochain.group in
    let count = length-class_ranks w in
    let small = cocycle.cochain.small.to_sixty in
    omega arith

pub class_ranks_small : (w : Cochain) → IsCocycle w → All (λ r. r ≤ 60) (class_ranks w)
unfolding class_ranks
class_ranks_small w cocycle =
    All-map (λ r. r ≤ 60) rank (class_twists w)
    (λ c d below.
    let in_classes = subst (λ n. c < n) (length-class_twists w) below in
    let lawful = twist_lawful w cocycle (representative_at w.group c) (representative_at_is w.group cocycle.cochain.group c in_classes).below in
    rank_small _ (subst IsTwist (sym (twist_at w c d in_classes)) lawful))

-- ---- of a list of classes
module _ (w : Cochain) (list : ClassList) (is : IsListOf w list) where
  pub ranks_few : length list.ranks ≤ 60
  ranks_few = subst (λ ranks. length ranks ≤ 60) (sym is.ranks) (class_ranks_few w is.cocycle)

  pub ranks_small : All (λ r. r ≤ 60) list.ranks
  ranks_small = subst (All (λ r. r ≤ 60)) (sym is.ranks) (class_ranks_small w is.cocycle)

  pub ranks_number : length list.ranks ≡ length (representatives list.classes)
  ranks_number = ap length is.ranks ∙ length-class_ranks w ∙ ap (λ (t : Table). length (representatives t)) (sym is.classes)
