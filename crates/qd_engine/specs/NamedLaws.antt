-- What the documents say that stand for words: the cocycles that the words name.
use Rattle.std.specs.Prelude.{◌≡◌, ℕ, List, Some, None}
use Rattle.cochain.specs.Cochain.{Cochain, IsCocycle}
use Rattle.named_cocycles.specs.declared.maker.Maker.{Maker}
use Rattle.named_cocycles.specs.Makers.{made_cocycle, maker_fault}
use Rattle.named_cocycles.specs.Samples.{sample_cocycle}
use Rattle.qd_doc.specs.declared.document.Document.{Document}
use Rattle.qd_engine.specs.Words.{generate, sample}
use Rattle.qd_engine.specs.Documents.{document_in, exponents_of}

-- the document has this cocycle, which is a normalised 3-cocycle of a group
pub record HasCocycle (document : Document) (w : Cochain) : Type 0 where
  pub lawful : IsCocycle w
  pub is : exponents_of document ≡ w

-- the document of `gen` has the cocycle that the maker names
abbrev pub MadeIsSaid : Type 0
MadeIsSaid = (maker : Maker) (bytes : List ℕ) → maker_fault maker ≡ None → HasCocycle (document_in (generate maker) bytes) (made_cocycle maker)

-- that of `sample` has the sample
abbrev pub SampleIsSaid : Type 0
SampleIsSaid = (s : ℕ) (bytes : List ℕ) → HasCocycle (document_in (sample s) bytes) (sample_cocycle s)
