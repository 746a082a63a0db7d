-- What a reader may have expected, as a word.
use Rattle.std.specs.Prelude.{ℕ, List, codes}
use Rattle.qd_text.specs.declared.expected.Expected.{Expected}
use Rattle.qd_text.specs.declared.expected.Expected.TheVariants.{Qdouble, One, Order, Number, Table, Roots, Omega, Form, Element, Characters, Conductor, Value, End, Nothing}

-- the name in small letters, and `1` for One
abbrev pub word_of : Expected → List ℕ
word_of Qdouble = codes "qdouble"
word_of One = codes "1"
word_of Order = codes "order"
word_of Number = codes "number"
word_of Table = codes "table"
word_of Roots = codes "roots"
word_of Omega = codes "omega"
word_of Form = codes "form"
word_of Element = codes "element"
word_of Characters = codes "characters"
word_of Conductor = codes "conductor"
word_of Value = codes "value"
word_of End = codes "end"
word_of Nothing = codes "nothing"
