use Rattle.char_lift.proofs.Names.{◌≡◌, ◌*◌, ◌%◌, ◌<◌, get_or, length, sym, ap, ◌∙◌, subst, arith, ap₂, size, central_value, modulus_positive, regular_number, class_factor, length-tabulated, tabulated-at}
use Rattle.char_lift.proofs.RatioLaws.{number_below, factor_below}
use Rattle.char_lift.proofs.ratios.character_ratio.Goals as goal

pub at-requires : goal.at-requires
at-requires c =
    record { in_range = omega (arith, ap length c.requires.numbers, length-tabulated (size c.args.twist.now) (regular_number c.args.twist.now), c.requires.y_below) }

pub value-requires-clause-class : goal.value-requires-clause-class
value-requires-clause-class c =
    let s = c.args.twist.now in
    let number : c.at.result ≡ regular_number s c.args.y =
    c.at.ensures.number ∙ ap (λ xs. get_or xs c.args.y 0) c.requires.numbers ∙ tabulated-at (size s) c.args.y (regular_number s) 0 c.requires.y_below in
    omega (arith, number, number_below s c.requires.some c.args.y, c.requires.width)

pub at-requires-2 : goal.at-requires-2
at-requires-2 c =
    let f = c.args.powers.now in
    record { in_range = omega (arith, ap length c.requires.factors, length-tabulated (size c.args.twist.now) (class_factor c.args.twist.now f.q f.conductor f.root), c.requires.y_below) }

pub product-requires-clause-a_below : goal.product-requires-clause-a_below
product-requires-clause-a_below c =
    let s = c.args.twist.now in
    let number : c.at.result ≡ regular_number s c.args.y =
    c.at.ensures.number ∙ ap (λ xs. get_or xs c.args.y 0) c.requires.numbers ∙ tabulated-at (size s) c.args.y (regular_number s) 0 c.requires.y_below in
    omega (arith, c.value.ensures.value, c.requires.values c.at.result (omega (arith, number, number_below s c.requires.some c.args.y)))

pub product-requires-clause-b_below : goal.product-requires-clause-b_below
product-requires-clause-b_below c =
    let s = c.args.twist.now in
    let f = c.args.powers.now in
    let is : c.at-2.result ≡ class_factor s f.q f.conductor f.root c.args.y =
    c.at-2.ensures.number ∙ ap (λ xs. get_or xs c.args.y 0) c.requires.factors ∙ tabulated-at (size s) c.args.y (class_factor s f.q f.conductor f.root) 0 c.requires.y_below in
    subst (λ a. a < f.q) (sym is) (factor_below s f.q f.conductor f.root (modulus_positive f.q f.listed) c.args.y)

pub returns-clause-ratio : goal.returns-clause-ratio
returns-clause-ratio c =
    let s = c.args.twist.now in
    let f = c.args.powers.now in
    let y = c.args.y in
    let number : c.at.result ≡ regular_number s y =
    c.at.ensures.number ∙ ap (λ xs. get_or xs y 0) c.requires.numbers ∙ tabulated-at (size s) y (regular_number s) 0 c.requires.y_below in
    let factor : c.at-2.result ≡ class_factor s f.q f.conductor f.root y =
    c.at-2.ensures.number ∙ ap (λ xs. get_or xs y 0) c.requires.factors ∙ tabulated-at (size s) y (class_factor s f.q f.conductor f.root) 0 c.requires.y_below in
    c.product.ensures.product
    ∙ ap₂ (λ a b. (a * b) % f.q) (c.value.ensures.value ∙ ap (central_value c.args.central.now c.args.row) number) factor
