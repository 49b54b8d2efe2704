-- The code's comparisons as the definitions' ones; images on level 0 and the table that gives them.
use Rattle.std.specs.Prelude.{List, [], ◌∷◌, ◌++◌, ℕ, zero, suc, ◌+◌, ◌*◌, ◌<◌, ◌≤◌, eqb, get_or}
use Rattle.std.proofs.Math.Option.{Option, none, some}
use Rattle.std.proofs.Math.ListN.{get_elem?}
use Rattle.definitions.specs.Lists.{choose}
use Rattle.definitions.specs.Monomial.{Exponents, Monomial, product}
use Rattle.definitions.specs.Order as definition
use Rattle.definitions.specs.Order.{greater, equal, smaller, or_at_tie, numbers, lexicographic, last_differing, exponents_by}
use Rattle.definitions.specs.Packed.{unpack}
use Rattle.definitions.specs.Layout.{Words}
use Rattle.definitions.specs.Places.{most_image, image_length, rank_offset, exponents_offset}
use Rattle.std.specs.declared.cmp.Ordering.{Ordering}
use Rattle.std.specs.declared.cmp.Ordering.TheVariants.{Less, Equal, Greater}
use Rattle.orders.specs.declared.Image.{Image}

abbrev pub comparison_of : Ordering → definition.Comparison
comparison_of Greater = greater
comparison_of Equal = equal
comparison_of Less = smaller

-- ## Keys

-- what a module monomial is compared by: its image's exponents on level 0, the rank of its component's image, its own component
abbrev pub Key : Type 0
Key = Exponents × (ℕ × ℕ)

abbrev pub compare_keys : ℕ → Key → Key → definition.Comparison
compare_keys code a b = or_at_tie (exponents_by code a.0 b.0) (or_at_tie (numbers a.1.0 b.1.0) (numbers a.1.1 b.1.1))

-- for each component the exponents of its image on level 0, and that image's rank
abbrev pub Table : Type 0
Table = List (Exponents × ℕ)

-- components count from 1
abbrev pub looked_up : Table → ℕ → Option (Exponents × ℕ)
looked_up T zero = none
looked_up T (suc i) = get_elem? T i

-- a component that the table lacks has itself for an image, and the lowest rank
abbrev pub key_by : Option (Exponents × ℕ) → Monomial → Key
key_by none m = (m.0, (0, m.1))
key_by (some e) m = (product m.0 e.0, (e.1, m.1))

abbrev pub key : Table → Monomial → Key
key T m = key_by (looked_up T m.1) m

abbrev pub table_order : ℕ → Table → Monomial → Monomial → definition.Comparison
table_order code T m m' = compare_keys code (key T m) (key T m')

abbrev pub key_of : Image → Key
key_of k = (k.exponents, (k.rank, k.component))

-- ## The table's words: rows of ten, the rank second, the image's exponents from the third on

abbrev pub exponents_raw : Words → ℕ → Exponents
exponents_raw s a =
    get_or s a 0 ∷ get_or s (a + 1) 0 ∷ get_or s (a + 2) 0 ∷ get_or s (a + 3) 0 ∷ get_or s (a + 4) 0 ∷ get_or s (a + 5) 0 ∷ get_or s (a + 6) 0 ∷ get_or s (a + 7) 0 ∷ []

abbrev pub entry_at : Words → ℕ → Exponents × ℕ
entry_at s i = (exponents_raw s (i * image_length + exponents_offset), get_or s (i * image_length + rank_offset) 0)

unfoldable pub table_of : ℕ → Words → Table
table_of zero s = []
table_of (suc r) s = table_of r s ++ entry_at s r ∷ []

-- so that an image's exponents, and their sum, fit sixteen bits
abbrev pub Bounded : Words → ℕ → Type 0
Bounded s a = (j : ℕ) → j < 8 → get_or s (a + j) 0 ≤ most_image

abbrev pub Tabled : ℕ → Words → Type 0
Tabled r s = (i : ℕ) → i < r → Bounded s (i * image_length + exponents_offset)

-- the image of a row with exponents e, whose component's exponents begin at word b of the table
abbrev pub row_image : ℕ → Words → ℕ → Exponents
row_image e t b = product (unpack e) (exponents_raw t b)

-- ## What decides, one after the other

-- what two degrees decide: code 1 does not look at them
abbrev pub degrees_by : ℕ → ℕ → ℕ → definition.Comparison
degrees_by code d e = choose (eqb code 1) equal (numbers d e)

-- what the places decide at equal degrees
abbrev pub places_by : ℕ → Exponents → Exponents → definition.Comparison
places_by code x y = choose (eqb code 1) (lexicographic x y) (choose (eqb code 2) (lexicographic x y) (last_differing x y))
