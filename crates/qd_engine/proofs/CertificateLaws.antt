-- The certificate of an accepted document is accepted by `verify`.
use Rattle.qd_engine.proofs.Names.{◌≡◌, ℕ, ◌%◌, ◌≤◌, true, List, [], ◌∷◌, length, codes, Some, refl, sym, ap, subst, sum, append-nil, Cochain, IsCocycle, is_conductor, least_conductor, IsGroup, SimplesOver, AreSimples, HasRootRows, root_order, INPUT_LIMIT, Block, Document, Given, simples_over, Cause, lifted_root_rows, IfSome, verify_command, certificate, document_in, table_of, exponents_of, given_in, conductor_of, lifted_by, blocks_of, class_ranks, report_in, parts_text, LateRows, Late, OfRows, AreGood, IsVerified, IsAccepted, AllFit, SourceFits, IsAcceptable, certified_blocks, certificate_document, certificate_text, Lifted}
use Rattle.qd_engine.specs.CertificateLaws.{CertificateIsAcceptable}
use Rattle.qd_engine.proofs.ConductorLaws.{least_is_conductor, multiple_of_factor}
use Rattle.qd_engine.proofs.LiftedRows.{numbers_of_field, field_serves}
use Rattle.qd_engine.proofs.LateLaws.{part_late}
use Rattle.qd_engine.proofs.HeadlineLaws.{good_rows_give_simples}
use Rattle.qd_engine.proofs.CertificateTables.{certified_simples, certified_roots, certified_good, certified_fit, certified_matched, certified_values}
use Rattle.qd_engine.proofs.CertificateTexts.{certificate_is_document, certificate_is_read, certificate_exponents}

-- what is asked of a document to be acceptable to `verify`, but for its text
record Passes (document : Document) : Type 0 where
  pub group : IsGroup (table_of document)
  pub cocycle : IsCocycle (exponents_of document)
  pub verified : OfRows verify_command document IsVerified
  pub fits : OfRows verify_command document SourceFits
  pub sums : (cause : Cause) → Late verify_command document cause → ⊥

-- ---- simples of the conductor that is needed, by tables of sums of roots of unity
module _ (k : ℕ) (s : SimplesOver) (S : AreSimples k s) (roots : HasRootRows k s)
    (conductor : least_conductor (root_order s.cocycle) ≡ Some (conductor_of s.cocycle)) (needed : k ≡ conductor_of s.cocycle) (few : sum (class_ranks s.cocycle) ≤ 256) where
  abbrev certified : List Block
  certified = certified_blocks k s

  abbrev stated : Given
  stated = record { conductor = k; blocks = certified }

  is_verified : IfSome verify_command.rows (IsVerified s.cocycle stated)
  is_verified = record {
    conductor = conductor;
    source = needed;
    few = few;
    numbers = tt;
    rows = subst (λ n. AreGood s.cocycle n certified) needed (record { matched = certified_matched k s S roots; good = certified_good k s S roots });
  }

  are_fitting : IfSome verify_command.rows (SourceFits s.cocycle stated)
  are_fitting = λ source. subst (λ n. AllFit s.cocycle n certified) needed (certified_fit k s S roots)

  nothing_late : (cause : Cause) → LateRows s.cocycle stated verify_command.rows cause → ⊥
  nothing_late cause (i, part, at, late) =
      let t = simples_over s.cocycle certified in
      part_late (conductor_of s.cocycle) t (subst (λ n. AreSimples n t) needed (certified_simples k s S roots)) (subst (λ n. HasRootRows n t) needed (certified_roots k s S roots)) part cause late

  certificate_passes : Passes (certificate_document k s)
  certificate_passes =
      let same = certificate_exponents k s S (certified_values k s S roots) in
      record {
        group = S.cocycle.cochain.group;
        cocycle = subst IsCocycle (sym same) S.cocycle;
        verified = λ report is. subst (λ w. IsVerified w stated report) (sym same) (subst (λ rows. IfSome rows (IsVerified s.cocycle stated)) is is_verified);
        fits = λ report is. subst (λ w. SourceFits w stated report) (sym same) (subst (λ rows. IfSome rows (SourceFits s.cocycle stated)) is are_fitting);
        sums = λ cause late. nothing_late cause (subst (λ w. LateRows w stated verify_command.rows cause) same late);
      }

-- ---- an accepted document
module _ (q : ℕ) (bytes : List ℕ) (accepted : IsAccepted (certificate q) bytes) where
  abbrev w : Cochain
  w = exponents_of (document_in (certificate q) bytes)

  abbrev given : Given
  given = given_in (document_in (certificate q) bytes)

  abbrev k : ℕ
  k = conductor_of w

  abbrev s : SimplesOver
  s = simples_over w (blocks_of (Lifted q) w given)

  found : (is_conductor k ≡ true) × (k % root_order w ≡ 0)
  found = least_is_conductor (root_order w) k (accepted.verified _ refl).conductor

  simples : AreSimples k s
  simples =
      let rows = (accepted.verified _ refl).rows in
      good_rows_give_simples w k (blocks_of (Lifted q) w given) accepted.cocycle found.0 (multiple_of_factor k w.roots _ found.1) rows

  roots : HasRootRows k s
  roots =
      let verified = accepted.verified _ refl in
      let lifted = verified.source in
      let serves = field_serves q w lifted.ring accepted.cocycle verified.conductor lifted.valid lifted.field in
      subst (λ n. HasRootRows n s) (numbers_of_field q k lifted.ring lifted.field).1
      (subst (λ blocks. HasRootRows lifted.ring.conductor (simples_over w blocks)) (sym (ap (lifted_by w) lifted.field)) (lifted_root_rows lifted.ring w serves lifted.lifted))

  text_is : report_in (certificate q) bytes ≡ certificate_text k s
  unfolding parts_text
  text_is = append-nil (certificate_text k s)

  text_acceptable : length (certificate_text k s) ≤ INPUT_LIMIT → IsAcceptable (codes "verify" ∷ []) (certificate_text k s)
  text_acceptable short =
      let verified = accepted.verified _ refl in
      let values = certified_values k s simples roots in
      let passes = subst Passes (sym (certificate_is_read k s simples values)) (certificate_passes k s simples roots verified.conductor refl verified.few) in
      record {
        command = verify_command;
        asked = refl;
        short = short;
        accepted = record { document = certificate_is_document k s simples values; group = passes.group; cocycle = passes.cocycle; verified = passes.verified };
        fits = passes.fits;
        sums = passes.sums;
      }

pub certificate_is_acceptable : CertificateIsAcceptable
certificate_is_acceptable q bytes accepted short =
    let text = text_is q bytes accepted in
    subst (IsAcceptable (codes "verify" ∷ [])) (sym text) (text_acceptable q bytes accepted (subst (λ (t : List ℕ). length t ≤ INPUT_LIMIT) text short))
