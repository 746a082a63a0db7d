-- The line that the program writes when it refuses, for each cause.
use Rattle.std.specs.Prelude.{ℕ, List, codes}
use Rattle.std.specs.Fmt.{decimal}
use Rattle.qd_text.specs.Words.{word_of}
use Rattle.group_table.specs.declared.fault.GroupFault.{GroupFault}
use Rattle.group_table.specs.declared.fault.GroupFault.TheVariants.{Entry, NoIdentity, NoInverse, NotAssociative}
use Rattle.cochain.specs.declared.fault.CocycleFault.{CocycleFault}
use Rattle.cochain.specs.declared.fault.CocycleFault.TheVariants.{NotNormalised, NotCocycle}
use Rattle.prime_field.specs.declared.fault.ModulusFault.{ModulusFault}
use Rattle.prime_field.specs.declared.fault.ModulusFault.TheVariants.{Range, Unlisted, DividesConductor, NoRoot}
use Rattle.qd_ring.specs.ValueText.{value_text}
use Rattle.qd_ring.specs.declared.plain.Plain.{Plain}
use Rattle.qd_ring.specs.declared.site.Part.{Part}
use Rattle.qd_ring.specs.declared.site.Part.TheVariants as parts
use Rattle.qd_ring.specs.declared.site.Site.{Site}
use Rattle.table_check.specs.declared.identity_name.IdentityName.{IdentityName}
use Rattle.table_check.specs.declared.identity_name.IdentityName.TheVariants as names
use Rattle.data_print.specs.Text.{◌⧺◌}
use Rattle.data_print.specs.declared.cause.Cause.{Cause}
use Rattle.data_print.specs.declared.cause.Cause.TheVariants.{Usage, Read, TooLong, Syntax, Wide, Section, Order, Roots, Group, Cocycle, Size, Action, NoConductor, Conductor, Modulus, Simples, Shape, NoDegree, Multiplicity, Count, Identity, NoTwist, NoVacuum, NotWhole, Overflow}
use Rattle.data_print.specs.declared.cause.ShapeFault.{ShapeFault}
use Rattle.data_print.specs.declared.cause.ShapeFault.TheVariants.{Blocks, Representative, Width}

-- a law of a group that fails
abbrev pub group_line : GroupFault → List ℕ
group_line (Entry g h) = codes "refused 4 entry " ⧺ decimal g ⧺ codes " " ⧺ decimal h ⧺ codes "\n"
group_line NoIdentity = codes "refused 4 identity\n"
group_line (NoInverse g) = codes "refused 4 inverse " ⧺ decimal g ⧺ codes "\n"
group_line (NotAssociative g h k) =
    codes "refused 4 associativity " ⧺ decimal g ⧺ codes " " ⧺ decimal h ⧺ codes " " ⧺ decimal k ⧺ codes "\n"

-- a law of a normalised 3-cocycle that fails
abbrev pub cocycle_line : CocycleFault → List ℕ
cocycle_line (NotNormalised g h k) =
    codes "refused 5 normal " ⧺ decimal g ⧺ codes " " ⧺ decimal h ⧺ codes " " ⧺ decimal k ⧺ codes "\n"
cocycle_line (NotCocycle g h k l) =
    codes "refused 5 cocycle " ⧺ decimal g ⧺ codes " " ⧺ decimal h ⧺ codes " " ⧺ decimal k ⧺ codes " " ⧺ decimal l ⧺ codes "\n"

-- a number that is no modulus
abbrev pub modulus_line : ModulusFault → List ℕ
modulus_line (Range q above) = codes "refused 7 range " ⧺ decimal q ⧺ codes "\n"
modulus_line (Unlisted q) = codes "refused 7 unlisted " ⧺ decimal q ⧺ codes "\n"
modulus_line (DividesConductor q conductor) = codes "refused 7 divides " ⧺ decimal q ⧺ codes " " ⧺ decimal conductor ⧺ codes "\n"
modulus_line (NoRoot q conductor) = codes "refused 7 root " ⧺ decimal q ⧺ codes " " ⧺ decimal conductor ⧺ codes "\n"

-- multiplicities that don't add up to the degree
abbrev pub multiplicity_line : ℕ → ℕ → ℕ → ℕ → ℕ → List ℕ
multiplicity_line at row x sum degree =
    codes "refused 8 multiplicity " ⧺ decimal at ⧺ codes " " ⧺ decimal row ⧺ codes " " ⧺ decimal x ⧺ codes " " ⧺ decimal sum
    ⧺ codes " " ⧺ decimal degree ⧺ codes "\n"

-- blocks of characters that don't match the classes
abbrev pub shape_line : ShapeFault → List ℕ
shape_line (Blocks given wanted) = codes "refused 9 blocks " ⧺ decimal given ⧺ codes " " ⧺ decimal wanted ⧺ codes "\n"
shape_line (Representative block given wanted) =
    codes "refused 9 representative " ⧺ decimal block ⧺ codes " " ⧺ decimal given ⧺ codes " " ⧺ decimal wanted ⧺ codes "\n"
shape_line (Width block row given wanted) =
    codes "refused 9 width " ⧺ decimal block ⧺ codes " " ⧺ decimal row ⧺ codes " " ⧺ decimal given ⧺ codes " " ⧺ decimal wanted ⧺ codes "\n"

-- the name of a clause of the check, in small letters
abbrev pub name_word : IdentityName → List ℕ
name_word names.Degree = codes "degree"
name_word names.Unitary = codes "unitary"
name_word names.Central = codes "central"
name_word names.Product = codes "product"
name_word names.Sum = codes "sum"
name_word names.Column = codes "column"

-- an equation of the check that fails, up to its two sides
abbrev pub identity_start : IdentityName → ℕ → ℕ → ℕ → ℕ → List ℕ
identity_start name at i j x =
    codes "refused 9 " ⧺ name_word name ⧺ codes " " ⧺ decimal at ⧺ codes " " ⧺ decimal i ⧺ codes " " ⧺ decimal j ⧺ codes " " ⧺ decimal x ⧺ codes " "

-- a value at the representative that gives no twist, up to the value
abbrev pub twist_start : ℕ → ℕ → List ℕ
twist_start at row = codes "refused 9 twist " ⧺ decimal at ⧺ codes " " ⧺ decimal row ⧺ codes " "

-- a fusion sum that gives no multiplicity, up to the sum
abbrev pub whole_start : ℕ → ℕ → ℕ → List ℕ
whole_start i j k = codes "refused 10 whole " ⧺ decimal i ⧺ codes " " ⧺ decimal j ⧺ codes " " ⧺ decimal k ⧺ codes " "

-- the last value of a line, and its end
abbrev pub last_value : Plain → List ℕ
last_value value = value_text value.coefficients ⧺ codes "\n"

-- the two sides of an equation, and the end of the line
abbrev pub sides_text : Plain → Plain → List ℕ
sides_text left right = value_text left.coefficients ⧺ codes " " ⧺ last_value right

-- the name of a kind of sum, in small letters
abbrev pub part_word : Part → List ℕ
part_word parts.Unitary = codes "unitary"
part_word parts.Twist = codes "twist"
part_word parts.Central = codes "central"
part_word parts.Product = codes "product"
part_word parts.Sum = codes "sum"
part_word parts.Column = codes "column"
part_word parts.Full = codes "full"
part_word parts.S = codes "s"
part_word parts.Tensor = codes "tensor"
part_word parts.Inner = codes "inner"
part_word parts.Indicator = codes "indicator"

-- a listed sum that doesn't fit
abbrev pub overflow_line : Site → List ℕ
overflow_line site =
    codes "refused 11 overflow " ⧺ part_word site.part ⧺ codes " " ⧺ decimal site.at ⧺ codes " " ⧺ decimal site.i
    ⧺ codes " " ⧺ decimal site.j ⧺ codes " " ⧺ decimal site.x ⧺ codes "\n"

-- the line of a refusal for this cause
abbrev pub line_of : Cause → List ℕ
line_of Usage = codes "refused 2 usage\n"
line_of Read = codes "refused 12 read\n"
line_of TooLong = codes "refused 6 bytes 4194304\n"
line_of (Syntax offset expected) = codes "refused 3 syntax " ⧺ decimal offset ⧺ codes " " ⧺ word_of expected ⧺ codes "\n"
line_of (Wide offset) = codes "refused 3 wide " ⧺ decimal offset ⧺ codes "\n"
line_of (Section offset) = codes "refused 3 section " ⧺ decimal offset ⧺ codes "\n"
line_of (Order number) = codes "refused 6 order " ⧺ decimal number ⧺ codes "\n"
line_of (Roots number) = codes "refused 6 roots " ⧺ decimal number ⧺ codes "\n"
line_of (Group fault) = group_line fault
line_of (Cocycle fault) = cocycle_line fault
line_of (Size order) = codes "refused 6 size " ⧺ decimal order ⧺ codes "\n"
line_of (Action power) = codes "refused 4 action " ⧺ decimal power ⧺ codes "\n"
line_of (NoConductor multiple) = codes "refused 6 conductor " ⧺ decimal multiple ⧺ codes "\n"
line_of (Conductor stated needed) = codes "refused 6 stated " ⧺ decimal stated ⧺ codes " needed " ⧺ decimal needed ⧺ codes "\n"
line_of (Modulus fault) = modulus_line fault
line_of (Simples ranks most) = codes "refused 6 simples " ⧺ decimal ranks ⧺ codes "\n"
line_of (Shape fault) = shape_line fault
line_of (NoDegree at row s) = codes "refused 8 degree " ⧺ decimal at ⧺ codes " " ⧺ decimal row ⧺ codes " " ⧺ decimal s ⧺ codes "\n"
line_of (Multiplicity at row x sum degree) = multiplicity_line at row x sum degree
line_of (Count at rows rank) = codes "refused 9 count " ⧺ decimal at ⧺ codes " " ⧺ decimal rows ⧺ codes " " ⧺ decimal rank ⧺ codes "\n"
line_of (Identity name at i j x left right) = identity_start name at i j x ⧺ sides_text left right
line_of (NoTwist at row value) = twist_start at row ⧺ last_value value
line_of (NoVacuum rows) = codes "refused 9 vacuum " ⧺ decimal rows ⧺ codes "\n"
line_of (NotWhole i j k value) = whole_start i j k ⧺ last_value value
line_of (Overflow site) = overflow_line site

-- the line for want of memory
abbrev pub memory_line : List ℕ
memory_line = codes "refused 14 memory\n"
