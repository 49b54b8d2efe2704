-- "a constant table of Pascal's triangle, rows 0 to 39, 820 entries, whose rule holds at every entry" (request A13)
use Rattle.std.specs.Prelude.{◌≡◌, ℕ, suc, ◌+◌, ◌<◌, ◌≤◌, length}
use Rattle.definitions.specs.Monomial.{Exponents, degree}
use Rattle.definitions.specs.Pascal.{triangle, entry_place, entry, monomials}
use Rattle.definitions.specs.Standard.{of_degree_in}
use Rattle.definitions.specs.Places.{exponents_length, hilbert_degrees, triangle_rows, triangle_length}
use Rattle.standard_monomials.specs.Notions.{ListsEach}

-- as many monomials as there are of degree 32 in eight variables: entry 7 of row 39
abbrev pub most_monomials : ℕ
most_monomials = 15_380_937

pub record TableRight : Type 0 where
  pub size : length triangle ≡ triangle_length
  -- row m has entries 0 to m, one behind the other, and the next row follows
  pub first_place : entry_place 0 0 ≡ 0
  pub next_place : (m k : ℕ) → entry_place m (suc k) ≡ suc (entry_place m k)
  pub next_row_place : (m : ℕ) → entry_place (suc m) 0 ≡ suc (entry_place m m)
  pub inside : (m k : ℕ) → m < triangle_rows → k ≤ m → entry_place m k < triangle_length
  -- the first and the last entry of a row are 1, each other is the sum of the two above it
  pub first : (m : ℕ) → m < triangle_rows → entry m 0 ≡ 1
  pub last : (m : ℕ) → m < triangle_rows → entry m m ≡ 1
  pub rule : (m k : ℕ) → suc m < triangle_rows → k < m → entry (suc m) (suc k) ≡ entry m k + entry m (suc k)
  -- what is looked up: "the number of monomials" of degree d in n variables
  pub number : (n d : ℕ) → 1 ≤ n → n ≤ exponents_length → d < hilbert_degrees → monomials n d ≡ length (of_degree_in n d)
  -- .. which are the lists of n exponents whose sum is d, each once
  pub ways : (n d : ℕ) → ListsEach (λ (e : Exponents). (length e ≡ n) × (degree e ≡ d)) (of_degree_in n d)
  pub few : (n d : ℕ) → 1 ≤ n → n ≤ exponents_length → d < hilbert_degrees → monomials n d ≤ most_monomials
