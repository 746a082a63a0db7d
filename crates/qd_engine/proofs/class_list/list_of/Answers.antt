use Rattle.qd_engine.proofs.Names.{map, ap, ◌∙◌, rank, class_ranks}
use Rattle.qd_engine.proofs.class_list.list_of.Goals as goal

pub returns : goal.returns
unfolding class_ranks
returns c = record {
  list = record {
    cocycle = c.group.ensures.cocycle;
    classes = c.in_ok-classes.ensures.of_group ∙ c.group.ensures.group;
    twists = c.in_ok-twists.ensures.twists;
    ranks = c.in_ok-ranks.ensures.ranks ∙ ap (map rank) c.in_ok-twists.ensures.twists;
  };
}
