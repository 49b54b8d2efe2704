-- How large the numbers of a sound state's lines can be, how long a line and all lines.
use mathlib.Core.Path.{sym, subst}
use mathlib.Core.Bool.{Bool, true, false}
use mathlib.Core.List.{List, [], ◌∷◌, reverse, reverse-cons}
use Prim.Native.Nat.{ℕ, zero, suc, ◌+◌, ◌*◌, ◌≤◌}
use native.Mathlib.Omega.{arith}
use lib.Dec.{T, eqb}
use lib.ListN.{length, replicate, length-append}
use Rattle.definitions.specs.Limits.{Limits}
use Rattle.definitions.specs.Lists.{◌and◌, between, count, map, from}
use Rattle.definitions.specs.Order.{Comparison, greater, equal, smaller}
use Rattle.definitions.specs.Monomial.{Monomial, Level, fits?, leading}
use Rattle.definitions.specs.Problem.{Parameters}
use Rattle.definitions.specs.State.{State, sound?, levels_sound?}
use Rattle.definitions.specs.Degrees.{image_over}
use Rattle.definitions.specs.Columns.{images, columns}
use Rattle.definitions.specs.Bidegrees.{Bidegree, bidegree, same_bidegree?, compare_bidegrees, into_bidegrees, occurring}
use Rattle.definitions.specs.Places.{exponents_length, most_degree, most_vectors, most_levels, all_levels, page_columns, b_line_length}
use Rattle.laws.proofs.Tests.{and_right, between_high}
use Rattle.laws.proofs.Members.{All, all_map, all_append}
use Rattle.laws.proofs.Sound.{sound_says, basis_says, level_says}
use Rattle.laws.proofs.Heights.{Low, levels_low}
use Rattle.betti.proofs.Columns.{Paged}
use Rattle.bigraded.specs.Notions.{Entry, entry_line, entry_lines}
use Rattle.bigraded.specs.Bidegrees.{LinesBounded}
use Rattle.bigraded.proofs.Weighted.{Small, LowBidegree, component_most, bidegree_low}
use Rattle.laws.proofs.Digits.{field_few}
use Rattle.bigraded.proofs.Occurring.{occurring_all}
use Rattle.bigraded.proofs.Columns.{length_map, length_from, length_columns, column_bidegrees, component_bidegree}
use Rattle.bigraded.proofs.Entries.{all_mapped, entry_of, all_entries}

-- ## Columns

-- few generators, of low bidegrees
pub record Column (all : List Bidegree) : Type 0 where
  pub few : length all ≤ most_vectors
  pub low : All LowBidegree all

-- a component as a generator
abbrev unit_of : ℕ → Monomial
unit_of i = (replicate exponents_length 0, i)

all_reverse : {A : Type 0} (P : A → Type 0) (l : List A) → All P l → All P (reverse l)
all_reverse P [] h = tt
all_reverse P (a ∷ l) h = subst (All P) (sym (reverse-cons a l)) (all_append P (reverse l) (a ∷ []) (all_reverse P l h.1) (h.0, tt))

module _ (lim : Limits) (P : Paged lim) where
  levels_few : (q : Parameters) (levels : List Level) → T (levels_sound? lim q levels) → All (λ f. length f ≤ most_vectors) levels
  levels_few q [] t = absurd t
  levels_few q (f ∷ []) t = (let s = basis_says lim q f t in let a = s.few in let b = P.elements in omega (arith, a, b), tt)
  levels_few q (f ∷ g ∷ below) t =
      let s = level_says lim q f g below t in
      (let a = s.few in let b = P.vectors in omega (arith, a, b), levels_few q (g ∷ below) s.under)

  module _ (ws : List (ℕ × ℕ)) (w : Small ws) (d : List ℕ) (t : T (fits? most_degree d)) where
    level_low : (below : List Level) → All (All Low) below → length below ≤ most_levels → (f : Level) → All Low f
        → All LowBidegree (map (bidegree ws d) (map (λ v. image_over below (leading v)) f))
    level_low below h l [] k = tt
    level_low below h l (v ∷ f) k = (bidegree_low ws w d t below h l v k.0, level_low below h l f k.1)

    level_columns : (levels : List Level) → All (All Low) levels → All (λ f. length f ≤ most_vectors) levels → length levels ≤ all_levels
        → All (λ ms. Column (map (bidegree ws d) ms)) (images levels)
    level_columns [] h k l = tt
    level_columns (f ∷ below) h k l = (
      record {
        few = let a = length_map (bidegree ws d) (map (λ v. image_over below (leading v)) f) in
            let b = length_map (λ v. image_over below (leading v)) f in let c = k.0 in omega (arith, a, b, c);
        low = level_low below h.1 (omega (arith, l)) f h.0;
      },
      level_columns below h.1 k.1 (omega (arith, l)),
    )

  pub sound_columns : (ws : List (ℕ × ℕ)) → Small ws → (X : State) → T (sound? lim X) → All Column (column_bidegrees ws X)
  sound_columns ws w X s =
      let S = sound_says lim X s in
      let q = X.parameters in
      let d = q.degrees in
      let fit = and_right (eqb (length d) q.s) (fits? most_degree d) S.degrees in
      let few : q.s ≤ lim.components = between_high 1 q.s lim.components (and_right (between 1 q.code 3) (between 1 q.s lim.components)
      (and_right (between 1 q.n lim.variables) (between 1 q.code 3 and between 1 q.s lim.components) S.ranges)) in
      let components : List Monomial = map unit_of (from 1 q.s) in
      all_mapped Column (map (bidegree ws d)) (columns X) (
        record {
          few = let a = length_map (bidegree ws d) components in let b = length_map unit_of (from 1 q.s) in
              let c = length_from 1 q.s in let e = P.components in omega (arith, a, b, c, few, e);
          low = all_mapped LowBidegree (bidegree ws d) components
              (all_mapped (λ m. LowBidegree (bidegree ws d m)) unit_of (from 1 q.s) (each d fit 1 q.s));
        },
        all_reverse (λ ms. Column (map (bidegree ws d) ms)) (images X.levels)
            (level_columns ws w d fit X.levels (levels_low lim P.exponent q X.levels S.levels) (levels_few q X.levels S.levels)
            (let a = S.height in let b = P.levels in omega (arith, a, b))),
      )
    where
      each : (d : List ℕ) → T (fits? most_degree d) → (a n : ℕ) → All (λ i. LowBidegree (bidegree ws d (unit_of i))) (from a n)
      each d t a zero = tt
      each d t a (suc n) =
          (subst LowBidegree (sym (component_bidegree ws d a)) (let h = component_most d t a in (omega (arith, h), omega arith)), each d t (suc a) n)

-- ## Entries

-- what a line says, with numbers that fit it
pub record LowEntry (e : Entry) : Type 0 where
  pub column : e.column ≤ page_columns
  pub low : LowBidegree (e.first, e.second)
  pub few : e.many ≤ most_vectors

count_most : {A : Type 0} (P : A → Bool) (l : List A) → count P l ≤ length l
count_most P [] = omega arith
count_most P (a ∷ l) = go (P a) (count_most P l)
  where
    go : (b : Bool) → count P l ≤ length l → elim b [ true ↦ suc (count P l) | false ↦ count P l ] ≤ suc (length l)
    go true h = omega (arith, h)
    go false h = omega (arith, h)

length_into : (x : Bidegree) (l : List Bidegree) → length (into_bidegrees x l) ≤ suc (length l)
length_into x [] = omega arith
length_into x (y ∷ l) = go (compare_bidegrees x y) (length_into x l)
  where
    go : (c : Comparison) → length (into_bidegrees x l) ≤ suc (length l)
        → length {A = Bidegree} (elim c [ smaller ↦ x ∷ y ∷ l | equal ↦ y ∷ l | greater ↦ y ∷ into_bidegrees x l ]) ≤ suc (suc (length l))
    go smaller h = omega arith
    go equal h = omega arith
    go greater h = omega (arith, h)

length_occurring : (l : List Bidegree) → length (occurring l) ≤ length l
length_occurring [] = omega arith
length_occurring (x ∷ l) = let a = length_into x (occurring l) in let b = length_occurring l in omega (arith, a, b)

entries_low : (c : ℕ) (cs : List (List Bidegree)) → All Column cs → c + length cs ≤ page_columns → All LowEntry (all_entries c cs)
entries_low c [] h l = tt
entries_low c (all ∷ later) h l =
    all_append LowEntry (map (entry_of c all) (occurring all)) (all_entries (suc c) later)
    (all_mapped LowEntry (entry_of c all) (occurring all)
    (all_map LowBidegree (λ x. LowEntry (entry_of c all x)) (λ x k. record {
      column = omega (arith, l);
      low = k;
      few = let a = count_most (same_bidegree? x) all in let b = h.0.few in omega (arith, a, b);
    }) (occurring all) (occurring_all LowBidegree all h.0.low)))
    (entries_low (suc c) later h.1 (omega (arith, l)))

entries_few : (c : ℕ) (cs : List (List Bidegree)) → All Column cs → length (all_entries c cs) ≤ length cs * most_vectors
entries_few c [] h = omega arith
entries_few c (all ∷ later) h =
    let a = length-append (map (entry_of c all) (occurring all)) (all_entries (suc c) later) in
    let b = length_map (entry_of c all) (occurring all) in
    let k = length_occurring all in
    let f = h.0.few in
    let r = entries_few (suc c) later h.1 in
    omega (arith, a, b, k, f, r)

-- ## Bytes

line_few : (e : Entry) → LowEntry e → length (entry_line e) ≤ b_line_length
line_few e h =
    let c = h.column in
    let x = h.low.0 in
    let y = h.low.1 in
    let m = h.few in
    let a₁ = field_few 1 e.column (omega (arith, c)) (e.first ∷ e.second ∷ e.many ∷ []) in
    let a₂ = field_few 5 e.first (omega (arith, x)) (e.second ∷ e.many ∷ []) in
    let a₃ = field_few 5 e.second (omega (arith, y)) (e.many ∷ []) in
    let a₄ = field_few 2 e.many (omega (arith, m)) [] in
    omega (arith, a₁, a₂, a₃, a₄)

lines_few : (es : List Entry) → All LowEntry es → length (entry_lines es) ≤ length es * b_line_length
lines_few [] h = omega arith
lines_few (e ∷ es) h =
    let a = length-append (entry_line e) (entry_lines es) in
    let b = line_few e h.0 in
    let r = lines_few es h.1 in
    omega (arith, a, b, r)

-- ## The lines of a sound state

module _ (lim : Limits) (P : Paged lim) (ws : List (ℕ × ℕ)) (w : Small ws) (X : State) (s : T (sound? lim X)) where
  abbrev cs : List (List Bidegree)
  cs = column_bidegrees ws X

  abbrev es : List Entry
  es = all_entries 0 cs

  many_columns : length cs ≤ page_columns
  many_columns =
      let a = length_map (map (bidegree ws X.parameters.degrees)) (columns X) in
      let b = length_columns X in
      let c = (sound_says lim X s).height in
      let e = P.levels in
      omega (arith, a, b, c, e)

  all_low : All LowEntry es
  all_low = entries_low 0 cs (sound_columns lim P ws w X s) (let a = many_columns in omega (arith, a))

  pub lines_bounded : LinesBounded es
  lines_bounded = record {
    low = all_map LowEntry (λ e. LowBidegree (e.first, e.second)) (λ e h. h.low) es all_low;
    each = all_map LowEntry (λ e. length (entry_line e) ≤ b_line_length) line_few es all_low;
    short = let a = lines_few es all_low in let b = entries_few 0 cs (sound_columns lim P ws w X s) in let c = many_columns in omega (arith, a, b, c);
  }
