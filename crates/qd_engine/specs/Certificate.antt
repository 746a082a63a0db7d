-- The certificate of the simples of a twisted quantum double: the document of their group and their cocycle, with the rows that the
-- simples of each class are.
use Rattle.std.specs.Prelude.{ℕ, List, length, map, Some}
use Rattle.std.specs.List.{range_with_len}
use Rattle.classes.specs.Conjugacy.{representatives, representative_at}
use Rattle.transport.specs.Simples.{SimplesOver}
use Rattle.row_order.specs.SimpleRows.{simple_rows}
use Rattle.qd_doc.specs.Blocks.{Block, block}
use Rattle.qd_doc.specs.Canonical.{canonical_text}
use Rattle.qd_doc.specs.declared.document.Document.{Document}

module _ (k : ℕ) (s : SimplesOver) where
  -- the block of the class c: its representative, and the rows of its simples, in their order
  abbrev pub certified_block : ℕ → Block
  certified_block c = block (representative_at s.cocycle.group c) (simple_rows k s c)

  -- those of all classes, in order
  unfoldable pub certified_blocks : List Block
  certified_blocks = map certified_block (range_with_len 0 (length (representatives s.cocycle.group)))

  -- the document of the group, the cocycle and these rows
  abbrev pub certificate_document : Document
  certificate_document = record {
    order = s.cocycle.group.order;
    table = s.cocycle.group.entries;
    roots = s.cocycle.roots;
    exponents = s.cocycle.exponents;
    characters = Some (record { conductor = k; blocks = certified_blocks });
  }

  -- its canonical text
  abbrev pub certificate_text : List ℕ
  certificate_text = canonical_text certificate_document
