-- A level that passes the test can be cut into its vectors, and the tables of images grow by it.
use mathlib.Core.Path.{◌≡◌, refl, sym, ap, ◌∙◌, subst}
use mathlib.Core.List.{[], ◌∷◌, ◌++◌}
use Prim.Native.Nat.{ℕ, zero, suc, ◌+◌, ◌-◌, ◌*◌, ◌<◌, ◌≤◌}
use native.Mathlib.Nat.{not-suc-le-zero, le_of_suc-le-suc}
use native.Mathlib.Omega.{arith}
use lib.Dec.{T, leb, ltb, leb→le, ltb→lt}
use lib.ListN.{length, get_or, take, drop, length-drop}
use lib.Seq.{paste, get_or-take, length-take-le}
use Rattle.definitions.specs.Limits.{document_01}
use Rattle.definitions.specs.Lists.{◌and◌, between}
use Rattle.definitions.specs.Monomial.{Monomial}
use Rattle.definitions.specs.Order.{Comparison}
use Rattle.definitions.specs.Layout.{Words, ends_at}
use Rattle.laws.proofs.Tests.{and_left, and_right, between_high}
use Rattle.definitions.specs.Places.{most_image, most_exponent, most_elements, most_vectors, most_rows, most_terms, all_levels, image_length, rank_offset}
use Rattle.definitions.specs.Places.{exponents_offset, state_length, count_offset, ends_offset, rows_offset}
use Rattle.orders.specs.Images.{Table, entry_at, table_of, table_order, Tabled}
use Rattle.orders.specs.Levels.{table_over}
use Rattle.vectors.proofs.terms.Moving.{getD_paste_in}
use Rattle.reducers.specs.tables.Cuts.{start_of, Cut, cut_level}
use Rattle.reducers.specs.tables.Ranking.{Capped, Raised}
use Rattle.reducers.proofs.tables.Cutting.{begin_from}
use Rattle.reducers.proofs.tables.Keying.{raw_same}
use Rattle.state.specs.declared.soundness.Bounds.{Bounds}
use Rattle.state.specs.soundness.Places.{count_at, count_below, rows_from, ends_from}
use Rattle.state.specs.soundness.Holding.{row_holds?, follows?, all_hold?, vector_holds?, vectors_hold?, level_holds?, level_test?, bounds_of}
use Rattle.state.specs.soundness.Tabled.{Ready, Advanced}
use Rattle.state.proofs.soundness.VectorByVector.{whole_part}

-- ## Cut into vectors

module _ (b : Bounds) (most : ℕ) (order : Monomial → Monomial → Comparison) (s : Words) where
  pub vector_ends : (a e : ℕ) → T (vector_holds? b most order s a e) → (a < e) × (e ≤ most_rows) × (e - a ≤ most)
  vector_ends a e t =
      let x = row_holds? b s a and all_hold? (follows? b order s) (suc a) (e - suc a) in
      let u = and_right (ltb a e) (leb e most_rows and leb (e - a) most and x) t in
      let v = and_right (leb e most_rows) (leb (e - a) most and x) u in (
        ltb→lt a e (and_left (ltb a e) (leb e most_rows and leb (e - a) most and x) t),
        leb→le e most_rows (and_left (leb e most_rows) (leb (e - a) most and x) u),
        leb→le (e - a) most (and_left (leb (e - a) most) x v),
      )

  vectors_cut : (a : ℕ) (es : Words) → T (vectors_hold? b most order s a es) → (j : ℕ) → j < length es → (begin_from a es j < get_or es j 0)
      × (get_or es j 0 ≤ most_rows)
  vectors_cut a [] t j h = absurd (not-suc-le-zero h)
  vectors_cut a (e ∷ es) t zero h = let v = vector_ends a e (and_left (vector_holds? b most order s a e) (vectors_hold? b most order s e es) t) in
      (v.0, v.1)
  vectors_cut a (e ∷ es) t (suc zero) h = vectors_cut e es (and_right (vector_holds? b most order s a e) (vectors_hold? b most order s e es) t) zero
      (le_of_suc-le-suc h)
  vectors_cut a (e ∷ es) t (suc (suc j)) h = vectors_cut e es (and_right (vector_holds? b most order s a e) (vectors_hold? b most order s e es) t)
      (suc j) (le_of_suc-le-suc h)

begin_taken : (ends : Words) (r j : ℕ) → j < r → begin_from 0 (take r ends) j ≡ start_of ends j
begin_taken ends r zero h = refl
begin_taken ends r (suc j) h = get_or-take r ends j 0 (omega arith)

module _ (s : Words) (long : state_length ≤ length s) where
  holds_cut : (low high most : ℕ) (b : Bounds) (order : Monomial → Monomial → Comparison) (k : ℕ) → k < all_levels → high ≤ most_vectors
      → T (level_holds? low high most b order s k) → (count_at s k ≤ most_vectors) × Cut (count_at s k) (rows_from s k) (ends_from s k)
  holds_cut low high most b order k h l t =
      let c : count_at s k ≤ high = between_high low (count_at s k) high
      (and_left (between low (count_at s k) high) (vectors_hold? b most order (rows_from s k) 0 (ends_at document_01 s k)) t) in
      let v = and_right (between low (count_at s k) high) (vectors_hold? b most order (rows_from s k) 0 (ends_at document_01 s k)) t in
      let f : count_at s k ≤ length (ends_from s k) = omega (arith, length-drop (suc (count_offset k)) s) in
      let n : length (ends_at document_01 s k) ≡ count_at s k = length-take-le (count_at s k) (ends_from s k) f in
      let w : (j : ℕ) → j < count_at s k → (start_of (ends_from s k) j < get_or (ends_from s k) j 0) × (get_or (ends_from s k) j 0 ≤ most_rows) = λ j g.
      let x = vectors_cut b most order (rows_from s k) 0 (ends_at document_01 s k) v j (omega arith) in (
        omega (arith, x.0, begin_taken (ends_from s k) (count_at s k) j g, get_or-take (count_at s k) (ends_from s k) j 0 g),
        omega (arith, x.1, get_or-take (count_at s k) (ends_from s k) j 0 g),
      ) in
      (omega arith, record { ends_fit = f; rows_fit = λ j g. omega (arith, (w j g).1, length-drop (rows_offset k) s); filled = λ j g. (w j g).0 })

  pub test_cut : (k : ℕ) (T' : Table) → k < all_levels → T (level_test? s k T') → (count_at s k ≤ most_vectors)
      × Cut (count_at s k) (rows_from s k) (ends_from s k)
  test_cut zero T' h t = holds_cut 1 most_elements most_rows (bounds_of (get_or s 0 0) (get_or s 1 0) (get_or s 3 0)) (table_order (get_or s 2 0) T') 0 h
      (omega arith) t
  test_cut (suc k) T' h t = holds_cut 0 most_vectors most_terms (bounds_of (get_or s 0 0) (get_or s 1 0) (count_at s k)) (table_order (get_or s 2 0) T')
      (suc k) h (omega arith) t

-- ## A table copied

table_same : (n : ℕ) (s z : Words) → ((i : ℕ) → i < n → entry_at z i ≡ entry_at s i) → table_of n z ≡ table_of n s
unfolding table_of
table_same zero s z h = refl
table_same (suc n) s z h = λ i. table_same n s z (λ j l. h j (omega arith)) i ++ h n (omega arith) i ∷ []

module _ (d s : Words) (n : ℕ) (room : n * image_length ≤ length d) (long : n * image_length ≤ length s) where
  copied_word : (k : ℕ) → k < n * image_length → get_or (paste d 0 s (n * image_length)) k 0 ≡ get_or s k 0
  copied_word k h = let z : k ≡ 0 + k = omega arith in ap (λ j. get_or (paste d 0 s (n * image_length)) j 0) z
      ∙ getD_paste_in d 0 s (n * image_length) k 0 (omega arith) long h

  pub copied_table : table_of n (paste d 0 s (n * image_length)) ≡ table_of n s
  copied_table = table_same n s (paste d 0 s (n * image_length)) (λ i h x. (
    raw_same s (paste d 0 s (n * image_length)) (i * image_length + exponents_offset)
        (λ k l. copied_word (i * image_length + exponents_offset + k) (omega arith)) x,
    copied_word (i * image_length + rank_offset) (omega arith) x,
  ))

  pub copied_cap : (b : ℕ) → Capped b n s → Capped b n (paste d 0 s (n * image_length))
  copied_cap b f i h j l = omega (arith, copied_word (i * image_length + exponents_offset + j) (omega arith), f i h j l)

-- ## One level more

pub ready_none : (s table : Words) → Ready s 0 table
unfolding table_of
ready_none s table = record { few = omega arith; made = refl; capped = λ i h. absurd (not-suc-le-zero h) }

pub ready_more : (s : Words) (k : ℕ) (old below above : Words) → count_at s k ≤ most_vectors → Ready s k old → Advanced s k old below above
    → Ready s (k + 1) above
ready_more s k old below above h r a =
    let z : suc k ≡ k + 1 = omega arith in
    let e : k * most_exponent + most_exponent ≡ suc k * most_exponent = omega arith in
    subst (λ n. Ready s n above) z
    (record {
      few = h;
      made = a.made ∙ ap (λ t. table_over t (Rattle.definitions.specs.Layout.level_at document_01 s k)) r.made;
      capped =
          subst (λ b. Capped b (count_at s k) above) e (a.raised (k * most_exponent) r.capped);
    })

pub ready_below : (s : Words) (k : ℕ) (old below above : Words) → Ready s k old → Advanced s k old below above → Ready s k below
ready_below s k old below above r a = record { few = r.few; made = a.copied ∙ r.made; capped = a.kept (k * most_exponent) r.capped }

pub ready_tabled : (s : Words) (k : ℕ) (table : Words) → k ≤ all_levels → Ready s k table → Tabled (count_below s k) table
ready_tabled s k table h r i l j m = omega (arith, r.capped i l j m)

-- what is lent of the state: its words from the level's rows on, and from the ends of its vectors on
pub cut_parts : (s : Words) (k r : ℕ) → r ≡ count_at s k → Cut (count_at s k) (rows_from s k) (ends_from s k)
    → Cut r (take (length s - (rows_offset k)) (drop (rows_offset k) s)) (take (length s - (ends_offset k)) (drop (ends_offset k) s))
cut_parts s k r e c =
    let z : suc (count_offset k) ≡ ends_offset k = omega arith in
    subst (λ n. Cut n (take (length s - (rows_offset k)) (drop (rows_offset k) s)) (take (length s - (ends_offset k)) (drop (ends_offset k) s))) (sym e)
    (subst (λ l. Cut (count_at s k) l (take (length s - (ends_offset k)) (drop (ends_offset k) s))) (sym (whole_part (rows_offset k) s))
    (subst (Cut (count_at s k) (rows_from s k)) (ap (λ n. drop n s) z ∙ sym (whole_part (ends_offset k) s)) c))

pub advanced : (s : Words) (k n r : ℕ) (d old below above : Words) → n ≡ count_below s k → r ≡ count_at s k → n * image_length ≤ length d
    → n * image_length ≤ length old → below ≡ paste d 0 old (n * image_length)
    → table_of r above ≡ table_over (table_of n below) (cut_level r (take (length s - (rows_offset k)) (drop (rows_offset k) s))
    (take (length s - (ends_offset k)) (drop (ends_offset k) s)))
    → Raised n below r above → Advanced s k old below above
advanced s k n r d old below above en er room long e made raised = record {
  made = ap (λ m. table_of m above) (sym er) ∙ made ∙ (λ i. table_over (same i)
      (cut_level (er i) (whole_part (rows_offset k) s i) ((whole_part (ends_offset k) s ∙ ap (λ m. drop m s) z) i)));
  raised = λ b f. subst (λ m. Capped (b + most_exponent) m above) er (raised b (cap b (subst (λ m. Capped b m old) (sym en) f)));
  copied = ap (λ m. table_of m below) (sym en) ∙ same;
  kept = λ b f. subst (λ m. Capped b m below) en (cap b (subst (λ m. Capped b m old) (sym en) f));
}
  where
    z : ends_offset k ≡ suc (count_offset k)
    z = omega arith

    same : table_of n below ≡ table_of (count_below s k) old
    same = ap (table_of n) e ∙ copied_table d old n room long ∙ ap (λ m. table_of m old) en

    cap : (b : ℕ) → Capped b n old → Capped b n below
    cap b f = subst (Capped b n) (sym e) (copied_cap d old n room long b f)

pub copied_tabled : (s : Words) (k n : ℕ) (d old below : Words) → n ≡ count_below s k → n * image_length ≤ length d → n * image_length ≤ length old → below
    ≡ paste d 0 old (n * image_length) → Tabled (count_below s k) old → Tabled n below
copied_tabled s k n d old below en room long e t = subst (Capped most_image n) (sym e)
    (copied_cap d old n room long most_image (subst (λ m. Capped most_image m old) (sym en) t))
