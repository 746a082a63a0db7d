use Rattle.prime_field.proofs.Names.{w8, ap, ◌∙◌, of_z, to_z, to_z-of_z, whole_modulo}
use Rattle.prime_field.proofs.MonicValues.{negative_modulo, natural_modulo}
use Rattle.prime_field.proofs.cyclotomic_root.residue_of.Goals as goal

pub returns-then-coefficient-lt0 : goal.returns-then-coefficient-lt0
returns-then-coefficient-lt0 c =
    negative_modulo c.args.q c.from.result (to_z w8 (of_z w8 c.args.coefficient)) (c.from.ensures ∙ c.unsigned_abs.ensures.value) c.if-coefficient-lt0.true
    ∙ ap (whole_modulo c.args.q) (to_z-of_z w8 c.args.coefficient c.ranges.coefficient)

pub returns-else-coefficient-lt0 : goal.returns-else-coefficient-lt0
returns-else-coefficient-lt0 c =
    natural_modulo c.args.q c.from.result (to_z w8 (of_z w8 c.args.coefficient)) (c.from.ensures ∙ c.unsigned_abs.ensures.value) c.if-coefficient-lt0.false
    ∙ ap (whole_modulo c.args.q) (to_z-of_z w8 c.args.coefficient c.ranges.coefficient)
