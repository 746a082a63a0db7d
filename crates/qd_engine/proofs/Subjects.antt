-- Cocycles that are made, as documents; and what the test of an input says.
use Rattle.qd_engine.proofs.Names.{◌≡◌, ◌≢◌, ℕ, Bool, true, false, cond, List, Option, Some, None, refl, ap, ◌==◌, nat_le, option_or, Cochain, IsCocycle, MakeRefusal, Maker, maker_fault, stop_of, Form, DocRefusal, bare_document, exponents_of, scan_test, maker_test, input_test, HasInput, Input}
use Rattle.std.specs.Prelude.{◌*◌, ◌%◌, ◌^◌, ◌&&◌}
use Rattle.group_make.specs.Refusal.{size_fault, action_fault}
use Rattle.group_make.specs.declared.refusal.MakeRefusal.TheVariants as makes
use Rattle.named_cocycles.specs.declared.maker.Maker.TheVariants.{Cyclic, Product, TypeTwo, TypeThree, Dihedral, Dicyclic, Semidirect}
use Rattle.qd_doc.specs.declared.refusal.DocRefusal.TheVariants as stops
use Rattle.qd_engine.specs.declared.command.Input.TheVariants.{Read, Made, Sampled}
use Rattle.qd_engine.proofs.CertificateTexts.{exponents_reduced}
use Rattle.qd_engine.proofs.StopLaws.{stop_is_of_text}

-- the document of a cocycle has that cocycle
pub bare_exponents : (w : Cochain) → IsCocycle w → exponents_of (bare_document w) ≡ w
bare_exponents w cocycle = ap (λ exponents. record w { exponents = exponents }) (exponents_reduced w cocycle.cochain)

-- an input that gives a document passes its test
pub input_passes : (input : Input) (form : Form) (bytes : List ℕ) → HasInput input form bytes → input_test input form bytes ≡ None
input_passes Read form bytes has = ap scan_test has
input_passes (Made maker) form bytes has = ap maker_test has
input_passes (Sampled s) form bytes has = refl

-- ---- and no other does

scanned : (stop : Option DocRefusal) → stop ≢ Some stops.Memory → scan_test stop ≡ None → stop ≡ None
scanned None apart none = refl
scanned (Some stops.Memory) apart none = absurd (apart refl)
scanned (Some (stops.Syntax offset expected)) apart none = absurd cc
scanned (Some (stops.Wide offset)) apart none = absurd cc
scanned (Some (stops.Section offset)) apart none = absurd cc
scanned (Some (stops.Order number)) apart none = absurd cc
scanned (Some (stops.Roots number)) apart none = absurd cc

sized : (b : Bool) (order : ℕ) (rest : Option MakeRefusal) → (maker_test rest ≡ None → rest ≡ None) → maker_test (option_or (cond b None (Some (makes.Size order))) rest) ≡ None
    → option_or (cond b None (Some (makes.Size order))) rest ≡ None
sized true order rest later none = later none
sized false order rest later none = absurd cc

only_sized : (b : Bool) (order : ℕ) → maker_test (cond b None (Some (makes.Size order))) ≡ None → cond b None (Some (makes.Size order)) ≡ None
only_sized true order none = refl
only_sized false order none = absurd cc

acted : (b : Bool) (power : ℕ) → maker_test (cond b None (Some (makes.Action power))) ≡ None → cond b None (Some (makes.Action power)) ≡ None
acted true power none = refl
acted false power none = absurd cc

of_size : (order : ℕ) → maker_test (size_fault order) ≡ None → size_fault order ≡ None
of_size order none = only_sized (nat_le 1 order && nat_le order 60) order none

maker_accepts : (maker : Maker) → maker_test (maker_fault maker) ≡ None → maker_fault maker ≡ None
maker_accepts (Cyclic n p) none = of_size n none
maker_accepts (Product a b c) none = of_size (a * b * c) none
maker_accepts (TypeTwo a b p) none = of_size (a * b) none
maker_accepts (TypeThree a b c p) none = of_size (a * b * c) none
maker_accepts (Dihedral n twisted) none = of_size (2 * n) none
maker_accepts (Dicyclic n) none = of_size (4 * n) none
maker_accepts (Semidirect n m r) none =
    sized (nat_le 1 (n * m) && nat_le (n * m) 60) (n * m) (action_fault n m r) (acted (r ^ m % n == 1 % n) (r ^ m % n)) none

pub input_given : (input : Input) (form : Form) (bytes : List ℕ) → input_test input form bytes ≡ None → HasInput input form bytes
input_given Read form bytes none = scanned (stop_of form bytes) (stop_is_of_text form bytes) none
input_given (Made maker) form bytes none = maker_accepts maker none
input_given (Sampled s) form bytes none = tt
