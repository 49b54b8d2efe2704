-- The numbers of the layout with document 01's limits: each has its one name here. `proofs/Places` says that they are what Layout's functions give at
-- `document_01`, and that levels and rows stand beside each other and fit. The code's names for them are crate `words`.
use Rattle.std.specs.Prelude.{ℕ, ◌+◌, ◌*◌}

-- ## Limits

-- the exponents of a monomial, one for each variable that there can be
abbrev pub exponents_length : ℕ
exponents_length = 8

-- the largest exponent
abbrev pub most_exponent : ℕ
most_exponent = 255

-- the largest degree of a component (A5)
abbrev pub most_degree : ℕ
most_degree = 255

-- the largest degree that a vector can carry: a component's and eight exponents' for each level
abbrev pub most_carried : ℕ
most_carried = 20_655

-- the largest weight of a variable (A14), and a weighted sum at the most: of eight exponents for each level
abbrev pub most_weight : ℕ
most_weight = 15

abbrev pub most_weighted : ℕ
most_weighted = 306_000

-- variables, components, elements of a file
abbrev pub most_variables : ℕ
most_variables = 8

abbrev pub most_components : ℕ
most_components = 16

abbrev pub most_elements : ℕ
most_elements = 64

-- vectors of a level
abbrev pub most_vectors : ℕ
most_vectors = 128

-- terms of a level, T lines of a file
abbrev pub most_rows : ℕ
most_rows = 2_048

-- terms of a working value, and of a vector
abbrev pub most_terms : ℕ
most_terms = 512

-- terms of a working value for which the work area of hybrid must have room (A11)
abbrev pub least_terms : ℕ
least_terms = 32

-- terms of the tree's work area
abbrev pub most_tree_terms : ℕ
most_tree_terms = 4_096

-- the highest level, and how many levels there are with level 0
abbrev pub most_levels : ℕ
most_levels = 9

abbrev pub all_levels : ℕ
all_levels = 10

-- the largest exponent of an image in a table of images: each level below adds most-exponent at the most
abbrev pub most_image : ℕ
most_image = 2_550

-- ## Rows

-- the words of a number that holds eight exponents
abbrev pub packed_length : ℕ
packed_length = 4

-- the words of a row: coefficient, component, packed exponents
abbrev pub row_length : ℕ
row_length = 6

-- the words of a row in a table of images, whose exponents may pass 255 and are not packed: an unused one, the rank, the exponents
abbrev pub image_length : ℕ
image_length = 10

-- where a row's component stands, and the first word of its exponents
abbrev pub component_offset : ℕ
component_offset = 1

abbrev pub exponents_offset : ℕ
exponents_offset = 2

-- where an image's rank stands, in a row of a table of images
abbrev pub rank_offset : ℕ
rank_offset = 1

-- ## The state

-- p, n, the order code, s, how many levels are complete
abbrev pub header_length : ℕ
header_length = 5

-- a level's count of vectors, and the ends of these
abbrev pub counts_length : ℕ
counts_length = 129

-- where the ends of level 0's vectors start
abbrev pub ends_start : ℕ
ends_start = 6

-- where level 0's rows start
abbrev pub rows_start : ℕ
rows_start = 1_295

-- a level's rows
abbrev pub level_length : ℕ
level_length = 12_288

-- where the components' degrees start, behind all rows (A5)
abbrev pub degrees_start : ℕ
degrees_start = 124_175

-- where the degrees start that level 0's elements carry
abbrev pub carried_start : ℕ
carried_start = 124_191

-- the state
abbrev pub state_length : ℕ
state_length = 125_471

-- where level k's count stands
abbrev pub count_offset : ℕ → ℕ
count_offset k = header_length + k * counts_length

-- where the ends of level k's vectors start
abbrev pub ends_offset : ℕ → ℕ
ends_offset k = ends_start + k * counts_length

-- where level k's rows start
abbrev pub rows_offset : ℕ → ℕ
rows_offset k = rows_start + k * level_length

-- where the degrees start that level k's vectors carry
abbrev pub carried_offset : ℕ → ℕ
carried_offset k = carried_start + k * most_vectors

-- ## Other buffers

-- the work area of division and hybrid, and the tree's
abbrev pub value_length : ℕ
value_length = 3_072

abbrev pub tree_length : ℕ
tree_length = 24_576

-- a vector's rows: a fetched vector's buffer
abbrev pub vector_length : ℕ
vector_length = 3_072

-- a row for each vector of a level: leading rows, frame terms
abbrev pub heads_length : ℕ
heads_length = 768

-- an image for each vector of a level
abbrev pub images_length : ℕ
images_length = 1_280

-- the first and the last row of each component, and of none
abbrev pub spans_length : ℕ
spans_length = 258

-- the tables of a lifting in one slice: leading rows, spans, the ends of the level below, images below it, images above it
abbrev pub tables_spans : ℕ
tables_spans = 768

abbrev pub tables_ends : ℕ
tables_ends = 1_026

abbrev pub tables_below : ℕ
tables_below = 1_154

abbrev pub tables_above : ℕ
tables_above = 2_434

abbrev pub tables_length : ℕ
tables_length = 3_714

-- a lifted level before it is stored: an end for each vector, then their rows; the tree needs room for one vector more
abbrev pub ends_length : ℕ
ends_length = 128

abbrev pub lifted_length : ℕ
lifted_length = 12_416

abbrev pub grown_length : ℕ
grown_length = 15_488

-- ## Bytes

-- a file
abbrev pub file_length : ℕ
file_length = 65_536

-- what the program reads of one: a byte more, to tell a file that is too long
abbrev pub read_length : ℕ
read_length = 65_537

-- the sheet's lines at the most: an S line, a W line, a Z or X line; all S lines of a level, and its Z line with them
abbrev pub s_line_length : ℕ
s_line_length = 74

abbrev pub w_line_length : ℕ
w_line_length = 62

abbrev pub pair_line_length : ℕ
pair_line_length = 29

abbrev pub s_lines_length : ℕ
s_lines_length = 151_552

abbrev pub level_lines_length : ℕ
level_lines_length = 151_581

-- the lines of all levels above 0
abbrev pub all_lines_length : ℕ
all_lines_length = 1_364_229

-- the sheet
abbrev pub sheet_length : ℕ
sheet_length = 1_400_000

-- ## Pages (A1)

-- a cell, and a label
abbrev pub cell_length : ℕ
cell_length = 6

-- columns 0 to 10
abbrev pub page_columns : ℕ
page_columns = 11

-- rows are counted from minus this, the number of the last column
abbrev pub row_shift : ℕ
row_shift = 10

-- a line with its end
abbrev pub page_line_length : ℕ
page_line_length = 73

-- rows of a page at the most: degrees from 0 to most-carried, less a column from 0 to row-shift
abbrev pub page_rows : ℕ
page_rows = 20_666

-- a page at the most: a line for each row, and one for the totals
abbrev pub page_length : ℕ
page_length = 1_508_691

-- ## Lines of bidegrees (A14)

-- the numbers of a G line at the most: two weights for each variable
abbrev pub weights_length : ℕ
weights_length = 16

-- a bidegree in one number: the first times this, and the second, which is below it
abbrev pub second_base : ℕ
second_base = 1_048_576

-- a B line at the most, and all of them: one for each generator of eleven columns. A refusal's lines are no longer
abbrev pub b_line_length : ℕ
b_line_length = 23

abbrev pub bidegrees_length : ℕ
bidegrees_length = 32_384

-- ## The Hilbert function (A13)

-- the degrees that are printed, from 0 on
abbrev pub hilbert_degrees : ℕ
hilbert_degrees = 33

-- the rows of Pascal's triangle, and its entries
abbrev pub triangle_rows : ℕ
triangle_rows = 40

abbrev pub triangle_length : ℕ
triangle_length = 820

-- an H line at the most
abbrev pub h_line_length : ℕ
h_line_length = 17

-- all of them; the lines of a refusal are longer: an X line, and a W line for each term of a working value
abbrev pub hilbert_length : ℕ
hilbert_length = 31_773

-- ## Minimal Betti numbers (A7)

-- a level's constants: a row for each vector, in it a word for each generator of the column below
abbrev pub matrix_length : ℕ
matrix_length = 16_384

-- a mark for each generator of eleven columns
abbrev pub marks_length : ℕ
marks_length = 1_408

-- ## Table and sweeps

-- the nodes of the large table at the most, one fewer than a vector may have terms; those of the small one
abbrev pub most_nodes : ℕ
most_nodes = 511

abbrev pub few_nodes : ℕ
few_nodes = 128

-- edges for each node that there is room for
abbrev pub node_edges : ℕ
node_edges = 32

-- the words of a table: two rows for each node; two words for each edge, so many for each node; a word for each place
abbrev pub nodes_length : ℕ
nodes_length = 6_132

abbrev pub few_nodes_length : ℕ
few_nodes_length = 1_536

abbrev pub edges_length : ℕ
edges_length = 32_704

abbrev pub few_edges_length : ℕ
few_edges_length = 8_192

-- two words for each node's span of edges, and behind them, from here on, two for each frame term's
abbrev pub roots_start : ℕ
roots_start = 1_024

abbrev pub table_spans_length : ℕ
table_spans_length = 1_280

-- where nodes are looked for first
abbrev pub slots_length : ℕ
slots_length = 2_048

-- three numbers for each node by which they are sorted; then their first words are the sums of a sweep
abbrev pub keys_length : ℕ
keys_length = 1_533

abbrev pub few_keys_length : ℕ
few_keys_length = 384

-- ## Membership (A12)

-- a V line at the most, where it has the shape: ten numbers of five digits
abbrev pub v_line_length : ℕ
v_line_length = 62

-- what the program reads of its input: a file, 512 V lines and a byte more. No byte behind them changes what is printed
abbrev pub brought_length : ℕ
brought_length = 97_281

-- the M line
abbrev pub m_line_length : ℕ
m_line_length = 4

-- all lines: one for each term of the quotients and of the remainder, and the M line. A refusal's lines are no longer
abbrev pub member_length : ℕ
member_length = 63_492

-- ## Completing (A6)

-- a T line and an E line at the most
abbrev pub t_line_length : ℕ
t_line_length = 68

abbrev pub end_line_length : ℕ
end_line_length = 8

-- a file, the T lines of a working value behind it and an E line: room to add an element before the result's length is tested
abbrev pub completed_length : ℕ
completed_length = 100_360

-- ## Picks recorded in another session (A9)

-- the P lines of a log at the most
abbrev pub most_picks : ℕ
most_picks = 4_096

-- an L line and a P line at the most, where they have the shape: two numbers, nine numbers of five digits
abbrev pub l_line_length : ℕ
l_line_length = 14

abbrev pub p_line_length : ℕ
p_line_length = 56

-- what the program reads of its input: a file, an L line, 4,096 P lines and a byte more. No byte behind them changes what is printed
abbrev pub log_length : ℕ
log_length = 294_927

-- the S lines of a vector. A refusal's lines are no longer
abbrev pub replay_length : ℕ
replay_length = 37_888
