use Rattle.transport.proofs.Names.{◌≡◌, ◌*◌, ◌/◌, ◌%◌, ◌==◌, true, Some, None, sym, ap, ap₂, ◌∙◌, subst, eq-eqb, Table, Cochain, class_of, transporter_of, cyclotomic_value, carried, transport_phase, SimplesOver, class_at, AreSimples, root_exponent, element_value, CharactersOrthogonal}
use Rattle.transport.proofs.Distinct.{other_number}
use Rattle.transport.proofs.FullCharacters.{character_formed}
use Rattle.transport.proofs.SMatrixLaws.{characters_orthogonal}
use Rattle.transport.proofs.Transporters.{by_each_transporter, nought_elsewhere}
use Rattle.transport.proofs.simples.Simples.ch.Goals as goal
use Rattle.transport.proofs.simples.Simples.ch.Given.{Over}
use Rattle.transport.proofs.simples.Simples.ch.Goals.{After-try_times}

-- what is formed before the multiplication by the root
record Formed (g : Over) (c : After-try_times g) : Type 0 where
  in_class : (class_of c.args.self.now.cocycle.group c.args.g == class_at g.row.K c.args.self.now c.args.i) ≡ true
  exponent : c.new-root.result.exponent
      ≡ root_exponent g.row.K c.args.self.now.cocycle (transport_phase c.args.self.now.cocycle c.args.g c.args.x (transporter_of c.args.self.now.cocycle.group c.args.g)) % g.row.K
  value : cyclotomic_value g.row.K c.element_value-value.result.coefficients
      ≡ element_value g.row.K c.args.self.now c.args.i (carried c.args.self.now.cocycle.group c.args.x (transporter_of c.args.self.now.cocycle.group c.args.g))

formed : (g : Over) (c : After-try_times g) → Formed g c
formed g c =
    let k = g.row.K in
    let s = c.args.self.now in
    let w : c.self.inside.cocycle ≡ s.cocycle = ap (λ (s : SimplesOver). s.cocycle) c.self.view_is in
    let t : c.self.inside.classes ≡ s.cocycle.group = c.self.invariant.classes_are ∙ ap (λ (w : Cochain). w.group) w in
    let k_is : c.transporter-c.result ≡ transporter_of s.cocycle.group c.args.g = c.transporter-c.ensures.transporter ∙ ap (λ (t : Table). transporter_of t c.args.g) t in
    let phase : c.transport_phase-phase.result ≡ transport_phase s.cocycle c.args.g c.args.x (transporter_of s.cocycle.group c.args.g) =
    c.transport_phase-phase.ensures.phase ∙ ap₂ (λ (w : Cochain) n. transport_phase w c.args.g c.args.x n) w k_is in
    let carried_is : c.carried.result ≡ carried s.cocycle.group c.args.x (transporter_of s.cocycle.group c.args.g) =
    c.carried.ensures.carried ∙ ap₂ (λ (w : Cochain) n. carried w.group c.args.x n) w k_is in
    record {
      in_class = eq-eqb _ _ (sym (c.class_of.ensures.class ∙ ap (λ (t : Table). class_of t c.args.g) t) ∙ c.if-class_of-class.false ∙ c.class.ensures.class);
      exponent = c.new-root.ensures ∙ ap₂ (λ p r. p * (k / r) % k) phase (c.roots.ensures.roots ∙ ap (λ (w : Cochain). w.roots) w);
      value = c.element_value-value.ensures.value ∙ ap (element_value k s c.args.i) carried_is;
    }

pub returns-in-Some-clause-forms : goal.returns-in-Some-clause-forms
returns-in-Some-clause-forms g c =
    let f = formed g (goal.at.returns-in-Some-clause-forms g c).After-try_times in
    character_formed g.row.K c.self.invariant.simples.conductor c.args.self.now c.args.i c.args.g c.args.x c.new-root.result.exponent c.element_value-value.result (Some c.in-Some.value)
    f.in_class f.exponent f.value c.in-Some.ensures.fits c.in-Some.ensures.value

pub returns-in-None-clause-forms : goal.returns-in-None-clause-forms
returns-in-None-clause-forms g c =
    let f = formed g (goal.at.returns-in-None-clause-forms g c).After-try_times in
    character_formed g.row.K c.self.invariant.simples.conductor c.args.self.now c.args.i c.args.g c.args.x c.new-root.result.exponent c.element_value-value.result None
    f.in_class f.exponent f.value c.in-None.ensures.fits tt

pub returns-then-class_of-class-clause-transporter : goal.returns-then-class_of-class-clause-transporter
returns-then-class_of-class-clause-transporter g c =
    let s = c.args.self.now in
    let t : c.self.inside.classes ≡ s.cocycle.group = c.self.invariant.classes_are ∙ ap (λ (s : SimplesOver). s.cocycle.group) c.self.view_is in
    let class : c.class_of.result ≡ class_of s.cocycle.group c.args.g = c.class_of.ensures.class ∙ ap (λ (t : Table). class_of t c.args.g) t in
    let other = other_number (class_of s.cocycle.group c.args.g) (class_at g.row.K s c.args.i) (λ same. c.if-class_of-class.true (class ∙ same ∙ sym c.class.ensures.class)) in
    by_each_transporter g.row.K s (subst (AreSimples g.row.K) c.self.view_is c.self.invariant.simples) c.args.i c.args.g c.args.x
    c.requires.i_below c.requires.g_below c.requires.x_below c.requires.commute _
    (nought_elsewhere g.row.K s c.args.i c.args.g c.args.x _ other c.zero.ensures)

pub returns-in-Some-clause-transporter : goal.returns-in-Some-clause-transporter
returns-in-Some-clause-transporter g c =
    by_each_transporter g.row.K c.args.self.now (subst (AreSimples g.row.K) c.self.view_is c.self.invariant.simples) c.args.i c.args.g c.args.x
    c.requires.i_below c.requires.g_below c.requires.x_below c.requires.commute _
    (returns-in-Some-clause-forms g c).stands

pub returns-then-class_of-class-clause-orthogonal : goal.returns-then-class_of-class-clause-orthogonal
returns-then-class_of-class-clause-orthogonal g c =
    subst (CharactersOrthogonal g.row.K) c.self.view_is (characters_orthogonal g.row.K _ c.self.invariant.simples)

pub returns-in-Some-clause-orthogonal : goal.returns-in-Some-clause-orthogonal
returns-in-Some-clause-orthogonal g c = subst (CharactersOrthogonal g.row.K) c.self.view_is (characters_orthogonal g.row.K _ c.self.invariant.simples)

pub returns-in-None-clause-orthogonal : goal.returns-in-None-clause-orthogonal
returns-in-None-clause-orthogonal g c = subst (CharactersOrthogonal g.row.K) c.self.view_is (characters_orthogonal g.row.K _ c.self.invariant.simples)
