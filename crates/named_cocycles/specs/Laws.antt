-- What holds of each cocycle that has a name.
use Rattle.std.specs.Prelude.{◌≡◌, ℕ, None}
use Rattle.cochain.specs.Cochain.{IsCocycle}
use Rattle.named_cocycles.specs.declared.maker.Maker.{Maker}
use Rattle.named_cocycles.specs.Makers.{made_cocycle, maker_fault}
use Rattle.named_cocycles.specs.Samples.{sample_cocycle}

-- where the numbers of a maker are not refused, its cocycle is a normalised 3-cocycle of a group of order 1 to 60
abbrev pub MadeIsCocycle : Type 0
MadeIsCocycle = (maker : Maker) → maker_fault maker ≡ None → IsCocycle (made_cocycle maker)

abbrev pub SampleIsCocycle : Type 0
SampleIsCocycle = (s : ℕ) → IsCocycle (sample_cocycle s)
