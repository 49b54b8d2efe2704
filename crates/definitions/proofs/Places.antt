-- The layout's numbers are what Layout's functions give with document 01's limits; levels and rows stand beside each other and fit.
use mathlib.Core.Path.{◌≡◌, refl}
use Prim.Native.Nat.{ℕ, suc, ◌+◌, ◌*◌, ◌^◌, ◌<◌, ◌≤◌}
use native.Mathlib.Omega.{arith}
use Rattle.definitions.specs.Limits.{document_01}
use lib.ListN.{length}
use Rattle.definitions.specs.Layout.{words_of, level_vectors, level_rows, count_place, rows_place, degrees_place, carried_place, state_words}
use Rattle.definitions.specs.Layout.{work_words, out_words, division, tree}
use Rattle.definitions.specs.Places.{exponents_length, most_exponent, most_variables, most_components, most_elements, most_vectors, most_rows, most_terms}
use Rattle.definitions.specs.Places.{most_tree_terms, most_levels, all_levels, packed_length, row_length, image_length, component_offset}
use Rattle.definitions.specs.Places.{exponents_offset, rank_offset, counts_length}
use Rattle.definitions.specs.Places.{rows_start, level_length, state_length, count_offset, ends_offset, rows_offset, value_length, tree_length}
use Rattle.definitions.specs.Places.{vector_length, heads_length, images_length, spans_length, tables_spans, tables_ends, tables_below, tables_above}
use Rattle.definitions.specs.Places.{most_image, tables_length, most_degree, most_carried, degrees_start, carried_start, carried_offset}
use Rattle.definitions.specs.Places.{ends_length, lifted_length, grown_length, file_length, read_length, s_line_length, pair_line_length, s_lines_length}
use Rattle.definitions.specs.Places.{level_lines_length, all_lines_length, sheet_length, cell_length, page_columns, row_shift, page_line_length}
use Rattle.definitions.specs.Places.{page_rows, page_length, most_weight, most_weighted, weights_length, second_base, b_line_length, bidegrees_length}
use Rattle.definitions.specs.Places.{t_line_length, end_line_length, completed_length}

-- ## The numbers

-- of the limits
limits_are : (exponents_length ≡ document_01.variables) × (most_exponent ≡ document_01.exponent) × (most_variables ≡ document_01.variables)
    × (most_components ≡ document_01.components) × (most_elements ≡ document_01.elements) × (most_vectors ≡ document_01.vectors)
    × (most_vectors ≡ level_vectors document_01)
    × (most_rows ≡ document_01.t_lines) × (most_rows ≡ level_rows document_01) × (most_terms ≡ document_01.working)
    × (most_terms ≡ document_01.vector)
    × (most_tree_terms ≡ document_01.tree) × (most_levels ≡ document_01.levels) × (all_levels ≡ suc document_01.levels)
    × (file_length ≡ document_01.file) × (read_length ≡ suc file_length) × (most_image ≡ all_levels * most_exponent)
    × (most_carried ≡ most_degree + all_levels * (exponents_length * most_exponent))
limits_are = (refl, refl, refl, refl, refl, refl, refl, refl, refl, refl, refl, refl, refl, refl, refl, refl, refl, refl)

-- of rows
row_is : (row_length ≡ exponents_offset + packed_length) × (image_length ≡ exponents_offset + exponents_length) × (exponents_offset ≡ suc component_offset)
    × (rank_offset ≡ component_offset) × (packed_length ≡ length (words_of 0))
row_is = (refl, refl, refl, refl, refl)

-- of the state: each is a path in the level's number
counts_are : (k : ℕ) → count_offset k ≡ count_place document_01 k
counts_are k = refl

ends_are : (k : ℕ) → ends_offset k ≡ suc (count_place document_01 k)
ends_are k = omega arith

rows_are : (k : ℕ) → rows_offset k ≡ rows_place document_01 k
rows_are k = refl

carried_are : (k : ℕ) → carried_offset k ≡ carried_place document_01 k
carried_are k = refl

state_is : (state_length ≡ state_words document_01) × (degrees_start ≡ degrees_place document_01) × (carried_start ≡ degrees_start + most_components)
    × (rows_start ≡ count_offset all_levels) × (counts_length ≡ suc (level_vectors document_01)) × (level_length ≡ level_rows document_01 * row_length)
state_is = (refl, refl, refl, refl, refl, refl)

-- of the other buffers
buffers_are : (value_length ≡ work_words document_01 division) × (tree_length ≡ work_words document_01 tree) × (vector_length ≡ out_words document_01)
    × (heads_length ≡ most_vectors * row_length) × (images_length ≡ most_vectors * image_length) × (spans_length ≡ suc most_vectors * 2)
    × (ends_length ≡ most_vectors)
    × (lifted_length ≡ ends_length + level_length)
    × (grown_length ≡ lifted_length + vector_length) × (tables_spans ≡ heads_length) × (tables_ends ≡ tables_spans + spans_length)
    × (tables_below ≡ tables_ends + ends_length)
    × (tables_above ≡ tables_below + images_length) × (tables_length ≡ tables_above + images_length)
buffers_are = (refl, refl, refl, refl, refl, refl, refl, refl, refl, refl, refl, refl, refl, refl)

-- of the sheet's lines
lines_are : (s_lines_length ≡ most_rows * s_line_length) × (level_lines_length ≡ s_lines_length + pair_line_length)
    × (all_lines_length ≡ most_levels * level_lines_length)
lines_are = (refl, refl, refl)

sheet_fits : all_lines_length + pair_line_length ≤ sheet_length
sheet_fits = omega arith

-- of pages
pages_are : (page_line_length ≡ suc (suc page_columns * cell_length)) × (suc row_shift ≡ page_columns) × (page_rows ≡ suc (most_carried + row_shift))
    × (page_length ≡ suc page_rows * page_line_length)
pages_are = (refl, refl, refl, refl)

-- of bidegrees: a number in 20 bits, and lines as `B,10,306255,306000,128`
bidegrees_are : (weights_length ≡ 2 * most_variables) × (most_weighted ≡ most_weight * (most_exponent * (exponents_length * all_levels)))
    × (second_base ≡ 2 ^ 20) × (bidegrees_length ≡ page_columns * (most_vectors * b_line_length))
bidegrees_are = (refl, refl, refl, refl)

second_fits : (most_weighted < second_base) × (most_weighted + most_degree < second_base)
second_fits = (omega arith, omega arith)

-- of completed files
completed_is : completed_length ≡ file_length + most_terms * t_line_length + end_line_length
completed_is = refl

-- ## The laws

-- row i of level k starts at `rows_offset k + i * row_length` and ends within the level
pub row_inside : (k i : ℕ) → i < most_rows → rows_offset k + i * row_length + row_length ≤ rows_offset (suc k)
row_inside k i h = omega arith

-- levels do not overlap
pub rows_apart : (j k : ℕ) → j < k → rows_offset j + level_length ≤ rows_offset k
rows_apart j k h = omega arith

pub counts_apart : (j k : ℕ) → j < k → count_offset j + counts_length ≤ count_offset k
counts_apart j k h = omega arith

-- the counts end where the rows start, the last level's rows where the degrees start, and the last level's degrees where the state ends
pub counts_inside : (k : ℕ) → k < all_levels → count_offset k + counts_length ≤ rows_start
counts_inside k h = omega arith

pub rows_inside : (k : ℕ) → k < all_levels → rows_offset k + level_length ≤ degrees_start
rows_inside k h = omega arith

pub carried_inside : (k : ℕ) → k < all_levels → carried_offset k + most_vectors ≤ state_length
carried_inside k h = omega arith

pub carried_apart : (j k : ℕ) → j < k → carried_offset j + most_vectors ≤ carried_offset k
carried_apart j k h = omega arith
