use Rattle.fusion_web.proofs.Names.{◌∙◌, ℕ, length, sym, subst, arith, node_at, AreLinked, Row, Into}
use Rattle.fusion_web.proofs.WebLaws.{each_node, distinct_nodes, linked_same, web_same, count_same, intos_same, rows_same}
use Rattle.fusion_web.proofs.links.link_in_both.Goals as goal

pub link-requires-clause-entries : goal.link-requires-clause-entries
link-requires-clause-entries c = each_node c.args.simples c.args.nodes.now c.requires.web

pub link-requires-clause-distinct : goal.link-requires-clause-distinct
link-requires-clause-distinct c = distinct_nodes c.args.simples c.args.nodes.now c.args.place c.requires.web c.requires.place Row

pub link-requires-2-clause-distinct : goal.link-requires-2-clause-distinct
link-requires-2-clause-distinct c =
    distinct_nodes c.args.simples c.link.new.nodes c.args.place (web_same c.args.simples c.args.nodes.now c.link.new.nodes c.link.ensures.entries c.requires.web)
    (c.requires.place ∙ sym (count_same c.args.simples c.args.nodes.now c.link.new.nodes c.link.ensures.entries)) Into

pub link-requires-2-clause-linked : goal.link-requires-2-clause-linked
link-requires-2-clause-linked c =
    linked_same c.args.simples Into c.args.nodes.now c.link.new.nodes c.args.place c.args.into_lasts.now c.link.ensures.entries
    (λ p. intos_same (node_at c.link.new.nodes p) (node_at c.args.nodes.now p) (c.link.ensures.others p)) c.requires.intos

pub returns-clause-linked : goal.returns-clause-linked
returns-clause-linked c = record {
  web = web_same c.args.simples c.args.nodes.now c.link-2.new.nodes (c.link-2.ensures.entries ∙ c.link.ensures.entries) c.requires.web;
  rows = subst (λ (m : ℕ). AreLinked Row c.args.simples c.link-2.new.nodes m c.link.new.lasts)
      (sym (count_same c.args.simples c.link.new.nodes c.link-2.new.nodes c.link-2.ensures.entries))
      (linked_same c.args.simples Row c.link.new.nodes c.link-2.new.nodes (length c.link.new.nodes) c.link.new.lasts c.link-2.ensures.entries
      (λ p. rows_same (node_at c.link-2.new.nodes p) (node_at c.link.new.nodes p) (c.link-2.ensures.others p)) c.link.ensures.linked);
  row_count = omega (arith, c.requires.row_count);
  intos = c.link-2.ensures.linked;
  into_count = omega (arith, c.requires.into_count);
}
