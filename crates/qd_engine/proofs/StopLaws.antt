-- Want of memory is no reason why a text is no document.
use Rattle.qd_engine.proofs.Names.{◌≢◌, ℕ, Bool, true, false, cond, List, length, ◌+◌, Option, Some, None, Result, Ok, Err, subst, nat_le, nat_lt, slice_get, first_some, is_conductor, Lexeme, tokens, number_of, NumberFault, Plain, is_word, stop_of, Form, DocRefusal}
use Rattle.std.specs.Prelude.{◌&&◌, take, codes}
use Rattle.qd_text.specs.Words.{word_of}
use Rattle.qd_text.specs.declared.expected.Expected.TheVariants.{Element, Conductor, End}
use Rattle.qd_text.specs.declared.expected.Expected.TheVariants as expecteds
use Rattle.qd_text.specs.declared.natural.NumberFault.TheVariants as numbers
use Rattle.qd_ring.specs.declared.plain.ValueFault.{ValueFault}
use Rattle.qd_ring.specs.declared.plain.ValueFault.TheVariants as faults
use Rattle.qd_doc.specs.Values.{begins_value, value_of}
use Rattle.qd_doc.specs.Kinds.{What, Word, OrderNumber, RootsNumber, FormWord, ElementBelow, EndWord, NoToken, ConductorNumber, ClassOrEnd, RowClassOrEnd, ValueRowClassOrEnd, is_form, is_class_or_end, is_row_class_or_end, value_refusal, number_refusal, fault_refusal, refusal, missing, judgement}
use Rattle.qd_doc.specs.Grammar.{expected, refusal_at, first_refusal}
use Rattle.qd_doc.specs.declared.refusal.DocRefusal.TheVariants.{Syntax, Section, Order, Roots, Memory}

-- no reason, or one of the text
IsOfText : Option DocRefusal → Type 0
IsOfText None = Unit {0}
IsOfText (Some Memory) = ⊥
IsOfText (Some reason) = Unit {0}

either : (b : Bool) (front back : Option DocRefusal) → IsOfText front → IsOfText back → IsOfText (cond b front back)
either true front back is_front is_back = is_front
either false front back is_front is_back = is_back

of_value : (kind : What) (start n : ℕ) → IsOfText (value_refusal kind start n)
unfolding IsOfText
of_value OrderNumber start n = either (nat_le 1 n && nat_le n 60) None (Some (Order n)) tt tt
of_value RootsNumber start n = either (nat_le 1 n && nat_le n 64) None (Some (Roots n)) tt tt
of_value (ElementBelow order) start n = either (nat_lt n order) None (Some (Syntax start Element)) tt tt
of_value ConductorNumber start n = either (is_conductor n) None (Some (Syntax start Conductor)) tt tt
of_value kind start n = tt

of_number : (kind : What) (start : ℕ) (number : Result ℕ NumberFault) → IsOfText (number_refusal kind start number)
unfolding IsOfText
of_number kind start (Ok n) = of_value kind start n
of_number kind start (Err numbers.NotNumber) = tt
of_number kind start (Err numbers.Wide) = tt

of_fault : (start : ℕ) (value : Result Plain ValueFault) → IsOfText (fault_refusal start value)
unfolding IsOfText
of_fault start (Ok p) = tt
of_fault start (Err faults.NotValue) = tt
of_fault start (Err faults.Wide) = tt

of_token : (kind : What) (token : Lexeme) → IsOfText (refusal kind token)
unfolding refusal IsOfText
of_token (Word wanted) token = either (is_word token.text (word_of wanted)) None (Some (Syntax token.start wanted)) tt tt
of_token FormWord token = either (is_form token.text) None (Some (Syntax token.start expecteds.Form)) tt tt
of_token EndWord token =
    either (is_word token.text (codes "end")) None _ tt
    (either (is_word token.text (codes "characters")) (Some (Section token.start)) (Some (Syntax token.start End)) tt tt)
of_token NoToken token = tt
of_token ClassOrEnd token = either (is_class_or_end token.text) None (Some (Syntax token.start End)) tt tt
of_token RowClassOrEnd token = either (is_row_class_or_end token.text) None (Some (Syntax token.start End)) tt tt
of_token (ValueRowClassOrEnd phi) token =
    either (begins_value token.text) (fault_refusal token.start (value_of phi token.text)) _ (of_fault token.start (value_of phi token.text))
    (either (is_row_class_or_end token.text) None (Some (Syntax token.start End)) tt tt)
of_token kind token = of_number kind token.start (number_of token.text)

of_missing : (kind : What) (offset : ℕ) → IsOfText (missing kind offset)
unfolding missing IsOfText
of_missing NoToken offset = tt
of_missing kind offset = tt

of_judgement : (kind : What) (offset : ℕ) (token : Option Lexeme) → IsOfText (judgement kind offset token)
of_judgement kind offset None = of_missing kind offset
of_judgement kind offset (Some token) = of_token kind token

pub stop_is_of_text : (form : Form) (bytes : List ℕ) → stop_of form bytes ≢ Some Memory
unfolding stop_of first_refusal IsOfText
stop_is_of_text form bytes e =
    let all = tokens bytes in
    let found = first_some (length all + 1) (refusal_at form (length bytes) all) Memory e in
    subst IsOfText found.here (of_judgement (expected form (take found.place all)) (length bytes) (slice_get all found.place))
