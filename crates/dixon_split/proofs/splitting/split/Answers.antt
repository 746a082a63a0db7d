use Rattle.dixon_split.proofs.Names.{◌∙◌, ◌*◌, ◌%◌, ◌<◌, map, length, ap, sym, subst, arith, length-map, mul-mod_right, residues, AreValues}
use Rattle.dixon_split.proofs.Characters.{gives_characters}
use Rattle.dixon_split.proofs.Values.{map_twice, pieces_count, values_characters}
use Rattle.dixon_split.proofs.splitting.split.Goals as goal

pub values-requires-clause-count : goal.values-requires-clause-count
values-requires-clause-count c =
    let a = c.in_ok-algebra.algebra in
    let G = gives_characters c.args.ring.now c.args.twist.now c.in_ok-algebra.ensures.twist c.requires.over c.requires.period c.in_ok-algebra.algebra c.in_ok-algebra.ensures.centre in
    ap length c.as_slice.ensures.value ∙ sym (length-map c.in_ok-pieces.pieces.items (λ piece. piece.items))
    ∙ pieces_count c.args.ring.now c.args.twist.now a G (map (λ piece. piece.items) c.in_ok-pieces.pieces.items) (map_twice (λ piece. piece.items) (residues c.in_ok-algebra.algebra) c.in_ok-pieces.pieces.items ∙ c.in_ok-pieces.ensures.pieces G.algebra G.test G.structure G.fixed)

pub from_lists-requires-clause-from_one : goal.from_lists-requires-clause-from_one
from_lists-requires-clause-from_one c =
    let some : 0 < c.in_ok-algebra.algebra.rank = (gives_characters c.args.ring.now c.args.twist.now c.in_ok-algebra.ensures.twist c.requires.over c.requires.period c.in_ok-algebra.algebra c.in_ok-algebra.ensures.centre).some in omega arith

pub from_lists-requires-clause-whole : goal.from_lists-requires-clause-whole
from_lists-requires-clause-whole c =
    let rank = c.in_ok-algebra.algebra.rank in
    ap (λ n. n % rank) c.in_ok-values.ensures.values.count ∙ mul-mod_right rank rank

pub returns-clause-characters : goal.returns-clause-characters
returns-clause-characters c =
    let a = c.in_ok-algebra.algebra in
    let G = gives_characters c.args.ring.now c.args.twist.now c.in_ok-algebra.ensures.twist c.requires.over c.requires.period c.in_ok-algebra.algebra c.in_ok-algebra.ensures.centre in
    values_characters c.args.ring.now c.args.twist.now a G (map (λ piece. piece.items) c.in_ok-pieces.pieces.items) (map_twice (λ piece. piece.items) (residues c.in_ok-algebra.algebra) c.in_ok-pieces.pieces.items ∙ c.in_ok-pieces.ensures.pieces G.algebra G.test G.structure G.fixed)
    c.in_ok-values.values (subst (λ xs. AreValues a (map (λ piece. piece.items) xs) (a.rank * a.rank) c.in_ok-values.values) c.as_slice.ensures.value c.in_ok-values.ensures.values)
    c.from_lists.result.lists c.from_lists.ensures.values c.from_lists.ensures.widths
