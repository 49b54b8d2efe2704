-- The degrees that the elements carry, from the words of the elements alone.
use mathlib.Core.Path.{◌≡◌, refl, sym, ap, ◌∙◌, subst}
use mathlib.Core.List.{List, [], ◌∷◌, ◌++◌, append_assoc, append-nil}
use Prim.Native.Nat.{ℕ, zero, suc, ◌+◌, ◌-◌, ◌*◌, ◌<◌, ◌≤◌}
use native.Mathlib.Omega.{arith}
use lib.Dec.{T, eqb}
use lib.ListN.{length, get_or, take, drop, replicate, length-append, length-drop, length-replicate, get_or-append}
use lib.Seq.{paste, take_at, take_all, take-take}
use Rattle.definitions.specs.Limits.{document_01}
use Rattle.definitions.specs.Monomial.{Level, fits?}
use Rattle.definitions.specs.Problem.{Parameters}
use Rattle.definitions.specs.State.{sound?, terms_of}
use Rattle.definitions.specs.Degrees.{degrees_of}
use Rattle.definitions.specs.Layout.{Words, rows_of, padded, ends_from, joined, vectors_at, level_at, degrees_at}
use Rattle.definitions.specs.Places.{most_degree, most_components, most_vectors, most_elements, most_rows, row_length, header_length, ends_start, rows_start}
use Rattle.definitions.specs.Places.{degrees_start, carried_start, state_length}
use Rattle.laws.proofs.Tests.{and_right}
use Rattle.laws.proofs.Rows.{length_rows_of}
use Rattle.laws.proofs.Sound.{sound_says, basis_says}
use Rattle.laws.proofs.RoundTrip.{Filled, no_vectors, one_vector, AllHoused, no_level, one_level, all_housed}
use Rattle.laws.proofs.RoundTrip.{vectors_spelled, length_padded, length_joined, length_degrees, s_degrees, few_components}
use Rattle.reducers.specs.tables.Cuts.{start_of, Cut, Light, Weighed}
use Rattle.reducers.proofs.tables.Cutting.{begin_from}
use Rattle.reducers.proofs.tables.Weighing.{weighed_are}
use Rattle.reader.proofs.lines.LineTests.{fits_at}
use Rattle.reader.specs.problem.Reading.{degrees_alone, state_read, words_read, words_laid, Weighable, carried, carrying}
use Rattle.reader.proofs.problem.LevelWords.{rows_laid, ends_laid, count_laid, components_laid, behind_laid, length_laid}
use Rattle.reader.proofs.problem.LevelWords.{paste_zeros, whole, length_whole, whole_laid, read_laid}
use Rattle.reader.proofs.problem.OneTermMore.{length_ends}

-- ## Words that are lent

-- all words from a place on
abbrev pub from_on : ℕ → Words → Words
from_on a s = take (length s - a) (drop a s)

from_on_is : (a : ℕ) (s : Words) → from_on a s ≡ drop a s
from_on_is a s = take_all (length s - a) (drop a s) (omega (arith, length-drop a s))

module _ (s : Words) (k : Weighable s) (r n : ℕ) (er : r ≡ get_or s header_length 0) (en : n ≡ get_or s 3 0) where
  pub parts_cut : Cut r (from_on rows_start s) (from_on ends_start s)
  parts_cut = subst (λ (x : ℕ × Words × Words). Cut x.0 x.1 x.2)
      (λ i. (sym er i, sym (from_on_is rows_start s) i, sym (from_on_is ends_start s) i)) k.cut

  pub parts_light : Light n (from_on degrees_start s)
  parts_light = subst (λ (x : ℕ × Words). Light x.0 x.1) (λ i. (sym en i, sym (from_on_is degrees_start s) i)) k.light

  pub parts_fit : n ≤ length (from_on degrees_start s)
  parts_fit = omega (arith, ap length (from_on_is degrees_start s), length-drop degrees_start s, k.long, k.components)

  -- what the elements weigh
  pub weighed_words : (d : Words) → r ≤ length d → Weighed n (from_on degrees_start s) (from_on rows_start s) (from_on ends_start s) r d
      → take (get_or s header_length 0) d ≡ carried s
  weighed_words d l w =
      (λ i. take (sym er i) d) ∙ weighed_are n (from_on degrees_start s) (from_on rows_start s) (from_on ends_start s) r d parts_cut l w
      ∙ (λ i. degrees_of (take (en i) (from_on_is degrees_start s i)) []
      (vectors_at (from_on_is rows_start s i) 0 (take (er i) (from_on_is ends_start s i))))

-- .. and then carry
pub carried_words : (s z d : Words) (r : ℕ) → z ≡ paste s carried_start d r → r ≡ get_or s header_length 0 → take (get_or s header_length 0) d ≡ carried s
    → z ≡ carrying s
carried_words s z d r e er w =
    let n = get_or s header_length 0 in
    e ∙ ap (paste s carried_start d) er
    ∙ (λ i. take carried_start s ++ (sym (take-take n n d (omega arith)) ∙ ap (take n) w) i ++ drop (carried_start + n) s)

-- ## Elements by their ends

begins_later : (a e : ℕ) (ends : Words) (j : ℕ) → begin_from e ends j ≡ begin_from a (e ∷ ends) (suc j)
begins_later a e ends zero = refl
begins_later a e ends (suc j) = refl

-- each ends behind its begin, and within all rows
ends_rise : (a : ℕ) (f : Level) → Filled f → (j : ℕ) → j < length f
    → (begin_from a (ends_from a f) j < get_or (ends_from a f) j 0) × (get_or (ends_from a f) j 0 ≤ a + terms_of f)
ends_rise a f no_vectors j h = absurd (omega arith)
ends_rise a f (one_vector {v} {f = g} l e hs) zero h = (omega arith, omega arith)
ends_rise a f (one_vector {v} {f = g} l e hs) (suc j) h =
    let r = ends_rise (a + length v) g hs j (omega arith) in
    let ends = ends_from (a + length v) g in (
      subst (λ n. n < get_or ends j 0) (begins_later a (a + length v) ends j) r.0,
      omega (arith, r.1),
    )

starts : (ends more : Words) (j : ℕ) → j ≤ length ends → start_of (ends ++ more) j ≡ begin_from 0 ends j
starts ends more zero h = refl
starts ends more (suc j) h = get_or-append ends more 0 j (omega arith)

-- ## The words of a file that is read

-- the lowest level among one
abbrev FirstFilled : List Level → Type 0
FirstFilled [] = Unit {0}
FirstFilled (f ∷ below) = Filled f

first_filled : {ls : List Level} → AllHoused document_01 ls → FirstFilled ls
first_filled no_level = tt
first_filled (one_level f below h hs) = h.filled

module _ (size : ℕ) (q : Parameters) (f : Level) (h : state_length ≤ size) (sound : T (sound? document_01 (state_read (q, f)))) where
  abbrev ends : Words
  ends = ends_from 0 f

  abbrev terms : Words
  terms = rows_of (joined f)

  abbrev room : ℕ
  room = degrees_start - rows_start

  abbrev degrees : Words
  degrees = padded most_components q.degrees

  -- the words before the elements carry their degrees
  abbrev s₀ : Words
  s₀ = words_laid size (q, f)

  few : length f ≤ most_elements
  few = (basis_says document_01 q f (sound_says document_01 (state_read (q, f)) sound).levels).few

  short : terms_of f ≤ most_rows
  short = (basis_says document_01 q f (sound_says document_01 (state_read (q, f)) sound).levels).short

  filled : Filled f
  filled = first_filled (all_housed document_01 q (omega arith) (f ∷ []) (sound_says document_01 (state_read (q, f)) sound).levels)

  rows_long : length terms ≡ terms_of f * row_length
  rows_long = length_rows_of (joined f) ∙ ap (λ n. n * row_length) (length_joined f)

  most : length ends ≤ most_vectors
  most = omega (arith, length_ends 0 f, few)

  fit : length terms ≤ room
  fit = omega (arith, rows_long, short)

  counted : length q.degrees ≡ q.s
  counted = s_degrees document_01 (omega arith) size (state_read (q, f)) sound

  few_degrees : length q.degrees ≤ most_components
  few_degrees = few_components document_01 (omega arith) size (state_read (q, f)) sound

  degrees_long : length degrees ≡ most_components
  degrees_long = length_padded most_components q.degrees few_degrees

  abbrev alone : Words
  alone = degrees_alone size degrees

  abbrev past_rows : Words
  past_rows = replicate (room - length terms) 0 ++ alone

  abbrev past_ends : Words
  past_ends = replicate (1289 - length ends) 0 ++ (terms ++ past_rows)

  count_is : get_or s₀ header_length 0 ≡ length f
  count_is = count_laid q (length f) ends terms room alone most fit

  components_are : get_or s₀ 3 0 ≡ q.s
  components_are = components_laid q (length f) ends terms room alone most fit

  rows_are : drop rows_start s₀ ≡ terms ++ past_rows
  rows_are = rows_laid q (length f) ends terms room alone most fit

  ends_are : drop ends_start s₀ ≡ ends ++ past_ends
  ends_are = ends_laid q (length f) ends terms room alone most fit ∙ append_assoc ends (replicate (1289 - length ends) 0) (terms ++ past_rows)

  behind_is : drop degrees_start s₀ ≡ alone
  behind_is = behind_laid q (length f) ends terms room alone most fit

  -- ## What they say

  level_is : level_at document_01 s₀ 0 ≡ f
  level_is =
      (λ i. vectors_at (rows_are i) 0 (take (count_is i) (ends_are i)))
      ∙ ap (vectors_at (terms ++ past_rows) 0) (take_at ends past_ends (length f) (length_ends 0 f))
      ∙ vectors_spelled (terms ++ past_rows) 0 f past_rows filled refl

  degrees_are : degrees_at document_01 s₀ ≡ q.degrees
  degrees_are =
      (λ i. take (components_are i) (behind_is i))
      ∙ ap (take q.s) (append_assoc q.degrees (replicate (most_components - length q.degrees) 0) (replicate (size - carried_start) 0))
      ∙ take_at q.degrees (replicate (most_components - length q.degrees) 0 ++ replicate (size - carried_start) 0) q.s counted

  abbrev ds : Words
  ds = degrees_of q.degrees [] f

  carried_are : carried s₀ ≡ ds
  carried_are = λ i. degrees_of (degrees_are i) [] (level_is i)

  ds_long : length ds ≡ length f
  ds_long = length_degrees q.degrees [] f

  -- ## The elements carry their degrees

  abbrev front : Words
  front = whole q (length f) ends terms room alone most fit

  front_long : length (front ++ degrees) ≡ carried_start
  front_long = length-append front degrees ∙ omega (arith, length_whole q (length f) ends terms room alone most fit, degrees_long)

  carried_to : (n : ℕ) → n ≡ length f → paste s₀ carried_start ds n ≡ words_read size (q, f)
  carried_to n e =
      let m : ℕ = size - carried_start in
      let r : size - carried_start - n ≡ size - carried_start - length ds = omega (arith, ds_long) in
      ap (λ s. paste s carried_start ds n) (whole_laid q (length f) ends terms room alone most fit ∙ sym (append_assoc front degrees (replicate m 0))
      ∙ ap (λ l. (front ++ degrees) ++ l) (sym (append-nil (replicate m 0))))
      ∙ paste_zeros (front ++ degrees) [] ds m n carried_start front_long (omega (arith, ds_long)) (omega (arith, few))
      ∙ append_assoc front degrees (take n ds ++ (replicate (m - n) 0 ++ []))
      ∙ (λ i. front ++ (degrees ++ (take_all n ds (omega (arith, ds_long)) i ++ append-nil (replicate (r i) 0) i)))
      ∙ sym (read_laid q f size h most (omega (arith, rows_long, short)) few_degrees (omega (arith, ds_long, few))
      ∙ whole_laid q (length f) ends terms room (degrees ++ (ds ++ replicate (size - carried_start - length ds) 0)) most fit)

  pub carrying_is : carrying s₀ ≡ words_read size (q, f)
  carrying_is = (λ i. paste s₀ carried_start (carried_are i) (get_or s₀ header_length 0)) ∙ carried_to (get_or s₀ header_length 0) count_is

  -- ## What weighing them asks for

  cut : Cut (length f) (terms ++ past_rows) (ends ++ past_ends)
  cut = record {
    ends_fit = omega (arith, length-append ends past_ends, length_ends 0 f);
    rows_fit = λ j l.
        let e : get_or (ends ++ past_ends) j 0 ≡ get_or ends j 0 = get_or-append ends past_ends 0 j (omega (arith, length_ends 0 f)) in
        omega (arith, e, (ends_rise 0 f filled j l).1, rows_long, length-append terms past_rows);
    filled = λ j l.
        let e : get_or (ends ++ past_ends) j 0 ≡ get_or ends j 0 = get_or-append ends past_ends 0 j (omega (arith, length_ends 0 f)) in
        omega (arith, e, starts ends past_ends j (omega (arith, length_ends 0 f)), (ends_rise 0 f filled j l).0);
  }

  light : Light q.s alone
  light i l =
      let d = q.degrees in
      let n : i < length d = omega (arith, counted) in
      let t = and_right (eqb (length d) q.s) (fits? most_degree d) (sound_says document_01 (state_read (q, f)) sound).degrees in
      let e : get_or alone i 0 ≡ get_or d i 0 =
      get_or-append degrees (replicate (size - carried_start) 0) 0 i (omega (arith, degrees_long, few_degrees))
      ∙ get_or-append d (replicate (most_components - length d) 0) 0 i n in
      omega (arith, e, fits_at most_degree d i t)

  long : length s₀ ≡ size
  long =
      length_laid q (length f) ends terms room alone most fit
      ∙ omega (arith, length-append degrees (replicate (size - carried_start) 0), length-replicate {A = ℕ} (size - carried_start) 0, degrees_long)

  pub read_weighable : Weighable s₀
  read_weighable = record {
    long = omega (arith, long);
    few = omega (arith, count_is, few);
    cut = subst (λ (x : ℕ × Words × Words). Cut x.0 x.1 x.2) (λ i. (sym count_is i, sym rows_are i, sym ends_are i)) cut;
    components = omega (arith, components_are, counted, few_degrees);
    light = subst (λ (x : ℕ × Words). Light x.0 x.1) (λ i. (sym components_are i, sym behind_is i)) light;
  }
