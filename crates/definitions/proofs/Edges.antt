-- Small limits and small files where a slip on 13, 14 or 15 shows, by computation.
use mathlib.Core.Path.{◌≡◌, refl}
use mathlib.Core.Bool.{true}
use mathlib.Core.Option.{some}
use mathlib.Core.List.{List, [], ◌∷◌}
use Rattle.definitions.specs.Limits.{document_01}
use Rattle.definitions.specs.Monomial.{Level}
use Rattle.definitions.specs.Lifting.{Lifting, by_division, by_hybrid, by_tree}
use Rattle.definitions.specs.Problem.{Bytes}
use Rattle.definitions.specs.State.{State, empty}
use Rattle.definitions.specs.Calls.{Call, reading, lifting, fetching}
use Rattle.definitions.proofs.Text.{text}
use Rattle.definitions.proofs.Instances.{xyz, f₁}
use Rattle.definitions.proofs.Views.{limited, seen}

-- a file read, level 1 lifted, its first vector fetched
abbrev first_vector : Bytes → Lifting → List Call
first_vector file way = reading true file ∷ lifting true 1 way ∷ fetching true 1 1 ∷ []

abbrev file_1 : Bytes
file_1 = text ("R,32749,3,1,1" ∷ "T,1,20607,1,1,0,0" ∷ "T,1,28409,1,0,1,0" ∷ "T,1,22511,1,0,0,1" ∷ "T,2,26029,1,1,0,0" ∷ "T,2,22769,1,0,1,0"
    ∷ "T,2,28126,1,0,0,0" ∷ "T,3,9619,1,0,1,0" ∷ "T,3,8451,1,0,0,1" ∷ "T,3,25180,1,0,0,0" ∷ "E,9" ∷ [])

-- A cached subtree that still counted would give 14.
a_part_of_the_cache_counts_nothing : seen (limited 52 128 2048 9 9 5) 999 empty (first_vector file_1 (by_tree 15))
    ≡ some (text ("A,0,0" ∷ "A,0,0" ∷ "A,0,0" ∷ "V,1,2,0,0,0,0,0,0,0,0" ∷ "V,6327,1,0,0,0,0,0,0,0,0" ∷ "V,10734,3,0,0,0,0,0,0,0,0" ∷ []))
a_part_of_the_cache_counts_nothing = refl

abbrev file_2 : Bytes
file_2 = text ("R,251,3,1,16" ∷ "T,1,130,1,1,0,0" ∷ "T,1,233,1,0,1,0" ∷ "T,1,33,1,0,0,1" ∷ "T,2,5,1,1,1,1" ∷ "T,2,6,1,0,2,1" ∷ "T,2,204,1,0,1,2"
    ∷ "T,2,155,1,0,1,1" ∷ "T,3,18,1,0,1,0" ∷ "T,3,88,1,0,0,0" ∷ "T,4,120,1,1,1,1" ∷ "T,4,22,1,0,2,1" ∷ "T,4,127,1,0,1,2" ∷ "T,5,100,1,1,0,0"
    ∷ "T,5,120,1,0,1,0" ∷ "T,5,64,1,0,0,1" ∷ "T,5,88,1,0,0,0" ∷ "E,16" ∷ [])

-- A combined term that became the newest would give 14.
combined_in_place : seen (limited 2 128 2048 10 6 5) 999 empty (first_vector file_2 (by_hybrid 2 10))
    ≡ some (text ("A,0,0" ∷ "A,0,0" ∷ "A,0,0" ∷ "V,1,2,0,0,0,0,0,0,0,0" ∷ "V,222,1,0,1,1,0,0,0,0,0" ∷ "V,138,3,0,1,1,0,0,0,0,0" ∷ []))
combined_in_place = refl

-- The oldest picked by code 2 would finish.
newest_by_code_2 : seen (limited 52 128 2048 11 6 4) 999 empty (first_vector file_1 (by_hybrid 2 11)) ≡ some (text ("A,0,0" ∷ "A,14,1" ∷ "A,11,0" ∷ []))
newest_by_code_2 = refl

abbrev file_3 : Bytes
file_3 = text ("R,2,2,3,1" ∷ "T,1,1,1,0,1" ∷ "T,2,1,1,1,0" ∷ "T,2,1,1,0,1" ∷ "T,3,1,1,1,0" ∷ "T,4,1,1,0,1" ∷ "E,5" ∷ [])

-- A finished uncached subtree that counted nothing would let the lifting finish.
finished_uncached_counts : seen (limited 52 128 2048 6 5 2) 999 empty (first_vector file_3 (by_tree 5))
    ≡ some (text ("A,0,0" ∷ "A,14,1" ∷ "A,11,0" ∷ []))
finished_uncached_counts = refl

abbrev file_4 : Bytes
file_4 = text ("R,2,3,2,1" ∷ "T,1,1,1,0,1,2" ∷ "T,1,1,1,0,0,3" ∷ "T,2,1,1,2,0,0" ∷ "T,2,1,1,0,2,0" ∷ "T,3,1,1,1,1,0" ∷ "T,3,1,1,0,0,2" ∷ "T,4,1,1,1,0,1"
    ∷ "T,4,1,1,0,1,1" ∷ "T,5,1,1,0,2,0" ∷ "T,5,1,1,0,1,1" ∷ "E,10" ∷ [])

-- 13 only for products that are kept would let the lifting finish.
dropped_products_are_tested : seen (limited 4 128 2048 512 11 50) 999 empty (first_vector file_4 (by_hybrid 2 512))
    ≡ some (text ("A,0,0" ∷ "A,13,1" ∷ "A,11,0" ∷ []))
dropped_products_are_tested = refl

abbrev file_5 : Bytes
file_5 = text ("R,5,3,3,1" ∷ "T,1,4,1,0,0,2" ∷ "T,2,3,1,0,1,0" ∷ "T,2,2,1,0,0,1" ∷ "T,3,3,1,1,0,0" ∷ "T,3,3,1,0,1,0" ∷ "T,3,3,1,0,0,1" ∷ "E,6" ∷ [])

-- The newest picked by code 3 would finish.
oldest_by_code_3 : seen (limited 3 128 2048 5 5 3) 999 empty (first_vector file_5 (by_hybrid 3 5)) ≡ some (text ("A,0,0" ∷ "A,14,1" ∷ "A,11,0" ∷ []))
oldest_by_code_3 = refl

abbrev file_6 : Bytes
file_6 = text ("R,5,3,3,1" ∷ "T,1,4,1,1,0,0" ∷ "T,1,3,1,0,1,0" ∷ "T,1,3,1,0,0,1" ∷ "T,2,2,1,0,1,1" ∷ "T,2,2,1,0,0,2" ∷ "T,3,4,1,0,2,0" ∷ "T,3,1,1,0,0,2"
    ∷ "E,7" ∷ [])

-- A cache entry that took no term more than it has would let the lifting finish.
one_term_more : seen (limited 4 128 2048 7 26 4) 999 empty (first_vector file_6 (by_tree 9)) ≡ some (text ("A,0,0" ∷ "A,14,1" ∷ "A,11,0" ∷ []))
one_term_more = refl

-- ## One frame term, counted through
-- f = x + y, y² + 1 of document 01's example: the vector x·e_2 + 6y²·e_1 + 6·e_1 + y·e_2 has four terms, the working value of division at most three

abbrev printed_file : Bytes
printed_file = text ("R,7,2,1,1" ∷ "T,1,1,1,1,0" ∷ "T,1,1,1,0,1" ∷ "T,2,1,1,0,2" ∷ "T,2,1,1,0,0" ∷ "E,4" ∷ [])

-- the state that acceptance leaves
abbrev accepted_file : State
accepted_file = record { parameters = record { p = 7; n = 2; code = 1; s = 1; degrees = 0 ∷ [] }; levels = f₁ ∷ [] }

-- "a 513th term would be stored in a .. vector": four terms fit four places, not three
vector_of_four : seen (limited 255 128 2048 512 4 4096) 99 empty (first_vector printed_file (by_hybrid 2 512))
    ≡ some (text ("A,0,0" ∷ "A,0,0" ∷ "A,0,0" ∷ "V,1,2,1,0,0,0,0,0,0,0" ∷ "V,6,1,0,2,0,0,0,0,0,0" ∷ "V,6,1,0,0,0,0,0,0,0,0" ∷ "V,1,2,0,1,0,0,0,0,0,0"
    ∷ []))
vector_of_four = refl

vector_of_three : seen (limited 255 128 2048 512 3 4096) 99 accepted_file (lifting true 1 by_division ∷ []) ≡ some (text ("A,14,1" ∷ []))
vector_of_three = refl

vector_of_three_by_tree : seen (limited 255 128 2048 512 3 4096) 99 accepted_file (lifting true 1 (by_tree 99) ∷ []) ≡ some (text ("A,14,1" ∷ []))
vector_of_three_by_tree = refl

-- the same while accepting: place 0, and the state is empty
vector_of_three_accepting : seen (limited 255 128 2048 512 3 4096) 99 empty (first_vector printed_file by_division)
    ≡ some (text ("A,14,0" ∷ "A,11,0" ∷ "A,11,0" ∷ []))
vector_of_three_accepting = refl

-- "a 513th term would be stored in a working value"
value_of_two : seen (limited 255 128 2048 2 512 4096) 99 accepted_file (lifting true 1 by_division ∷ []) ≡ some (text ("A,0,0" ∷ []))
value_of_two = refl

value_of_one : seen (limited 255 128 2048 1 512 4096) 99 accepted_file (lifting true 1 by_division ∷ []) ≡ some (text ("A,14,1" ∷ []))
value_of_one = refl

-- "a 2,049th term of a level above 0, when a finished vector is added"
four_terms : seen (limited 255 128 4 512 512 4096) 99 accepted_file (lifting true 1 (by_hybrid 2 512) ∷ []) ≡ some (text ("A,0,0" ∷ []))
four_terms = refl

three_terms : seen (limited 255 128 3 512 512 4096) 99 accepted_file (lifting true 1 (by_hybrid 2 512) ∷ fetching true 1 1 ∷ [])
    ≡ some (text ("A,15,1" ∷ "A,11,0" ∷ []))
three_terms = refl

-- "a 129th frame term, before any division or lifting, acceptance included": f = x², xy + y² is refused 9 where its one frame term is allowed
no_gröbner_basis : Bytes
no_gröbner_basis = text ("R,7,2,1,1" ∷ "T,1,1,1,2,0" ∷ "T,2,1,1,1,1" ∷ "T,2,1,1,0,2" ∷ "E,3" ∷ [])

one_frame_term : seen (limited 255 1 2048 512 512 4096) 99 empty (reading true no_gröbner_basis ∷ [])
    ≡ some (text ("A,9,1" ∷ "V,6,1,0,3,0,0,0,0,0,0" ∷ []))
unfolding no_gröbner_basis
one_frame_term = refl

no_frame_term : seen (limited 255 0 2048 512 512 4096) 99 empty (reading true no_gröbner_basis ∷ []) ≡ some (text ("A,15,0" ∷ []))
unfolding no_gröbner_basis
no_frame_term = refl

-- "A product is tested for 13 before 14": f = x + y + z⁴, z gives x·z, then −z·f_1 whose last product is z⁵. It has no place either
abbrev with_level_0 : Level → State
with_level_0 f = record { parameters = record { p = 7; n = 3; code = 1; s = 1; degrees = 0 ∷ [] }; levels = f ∷ [] }

abbrev three_variables : State
three_variables = with_level_0 (((1, (xyz 1 0 0, 1)) ∷ (1, (xyz 0 1 0, 1)) ∷ (1, (xyz 0 0 4, 1)) ∷ []) ∷ ((1, (xyz 0 0 1, 1)) ∷ []) ∷ [])

thirteen_before_fourteen : seen (limited 4 128 2048 1 512 4096) 99 three_variables (lifting true 1 by_division ∷ []) ≡ some (text ("A,13,1" ∷ []))
thirteen_before_fourteen = refl

fourteen : seen (limited 5 128 2048 1 512 4096) 99 three_variables (lifting true 1 by_division ∷ []) ≡ some (text ("A,14,1" ∷ []))
fourteen = refl

-- "A step first records its multiple": the vector's 14 comes before its products' 13
record_before_products : seen (limited 4 128 2048 512 1 4096) 99 three_variables (lifting true 1 by_division ∷ []) ≡ some (text ("A,14,1" ∷ []))
record_before_products = refl

-- "The cache starts empty at each lifting call": level 1 over 2y, x, z of component 2 leaves yz·e_2 in the cache, which level 2 meets with another
-- meaning
level_2_by_tree : seen document_01 99 empty (
    reading true (text ("R,7,3,1,2" ∷ "T,1,2,2,0,1,0" ∷ "T,2,1,2,1,0,0" ∷ "T,3,1,2,0,0,1" ∷ "E,3" ∷ [])) ∷ lifting true 1 (by_tree 99)
    ∷ lifting true 2 (by_tree 99) ∷ fetching true 2 1 ∷ [])
    ≡ some (text ("A,0,0" ∷ "A,0,0" ∷ "A,0,0" ∷ "A,0,0" ∷ "V,1,3,0,1,0,0,0,0,0,0" ∷ "V,6,2,1,0,0,0,0,0,0,0" ∷ "V,1,1,0,0,1,0,0,0,0,0" ∷ []))
level_2_by_tree = refl

-- "lower order terms are dropped as they arise": f = x + y + z, y² + 1 in two places; y and z of −f_1 would want a third
dropped_as_they_arise : seen (limited 255 128 2048 2 512 4096) 99 (with_level_0
    (((1, (xyz 1 0 0, 1)) ∷ (1, (xyz 0 1 0, 1)) ∷ (1, (xyz 0 0 1, 1)) ∷ []) ∷ ((1, (xyz 0 2 0, 1)) ∷ (1, (xyz 0 0 0, 1)) ∷ []) ∷ []))
    (lifting true 1 (by_hybrid 2 2) ∷ []) ≡ some (text ("A,0,0" ∷ []))
dropped_as_they_arise = refl

-- division drops none
none_dropped : seen (limited 255 128 2048 2 512 4096) 99 (with_level_0
    (((1, (xyz 1 0 0, 1)) ∷ (1, (xyz 0 1 0, 1)) ∷ (1, (xyz 0 0 1, 1)) ∷ []) ∷ ((1, (xyz 0 2 0, 1)) ∷ (1, (xyz 0 0 0, 1)) ∷ []) ∷ []))
    (lifting true 1 by_division ∷ []) ≡ some (text ("A,14,1" ∷ []))
none_dropped = refl
