-- One vector more, from its place in the slice.
use mathlib.Core.Path.{◌≡◌, sym, ap, ◌∙◌, subst}
use mathlib.Core.List.{[], ◌∷◌, ◌++◌}
use Prim.Native.Nat.{ℕ, suc, ◌+◌, ◌-◌, ◌*◌, ◌<◌, ◌≤◌}
use native.Mathlib.Omega.{arith}
use lib.Dec.{T}
use lib.ListN.{length, get_or, drop, set}
use lib.Seq.{get_or-drop}
use Rattle.definitions.specs.Limits.{document_01}
use Rattle.definitions.specs.State.{sound?}
use Rattle.definitions.specs.Layout.{Words, rows, encode, decode, all_words_sound?}
use Rattle.laws.proofs.Rows.{rows_same}
use Rattle.definitions.specs.Places.{all_levels, row_length, state_length, count_offset, ends_length}
use Rattle.vectors.proofs.terms.Stored.{same_row}
use Rattle.reducers.specs.tables.Cuts.{start_of}
use Rattle.reducers.proofs.tables.Cutting.{cut_more}
use Rattle.state.specs.writing.LevelSoFar.{appended, finished}
use Rattle.state.specs.writing.AppendLoop.{Grown}
use Rattle.state.specs.degrees.Carrying.{carried_right?, Weighable, with_carried}
use Rattle.state.proofs.writing.Finished.{finish_weighable, finish_carried}
use Rattle.state.proofs.writing.AppendLoop.{grown_more, grown_finished, grown_carried}
use Rattle.runs.specs.frame_terms.Vectors.{lifted_vectors}
use Rattle.level.specs.storing.Stored.{KeptApart, with_level, Appended, Added}

-- rows from row used on, of a slice that begins there
rows_there : (out : Words) (used n : ℕ) → rows (drop ends_length out) used n ≡ rows (drop (ends_length + used * row_length) out) 0 n
rows_there out used n =
    sym (rows_same (drop ends_length out) (drop (ends_length + used * row_length) out) used 0 n λ k h.
    same_row (drop ends_length out) (drop (ends_length + used * row_length) out) (used + k) (0 + k) λ j l.
    let e : ends_length + used * row_length + ((0 + k) * row_length + j) ≡ ends_length + ((used + k) * row_length + j) = omega arith in
    get_or-drop (ends_length + used * row_length) out ((0 + k) * row_length + j) 0 ∙ ap (λ i. get_or out i 0) e
    ∙ sym (get_or-drop ends_length out ((used + k) * row_length + j) 0))

module _ (s out : Words) (k count : ℕ) (long : state_length ≤ length s) (inside : k < all_levels) (a : KeptApart count out) where
  -- what the loop has come to
  abbrev pub Storing : Words → ℕ → ℕ → Type 0
  Storing z i used = (i ≤ count) × (used ≡ start_of out i) × Grown s z k i used (lifted_vectors out i)

  pub storing_on : (z : Words) (i used end : ℕ) (part z' : Words) → i < count → Storing z i used → end ≡ get_or out i 0
      → part ≡ drop (ends_length + used * row_length) out → z' ≡ appended z k i used (rows part 0 (end - used)) (end - used) → Storing z' (i + 1) end
  storing_on z i used end part z' h (m, u, g) e p w =
      let more : lifted_vectors out (i + 1) ≡ lifted_vectors out i ++ rows part 0 (end - used) ∷ [] =
      cut_more i (drop ends_length out) out (omega (arith, a.few, a.long))
      ∙ (λ j. lifted_vectors out i ++ rows (drop ends_length out) (u' j) (e' j - u' j) ∷ [])
      ∙ ap (λ v. lifted_vectors out i ++ v ∷ []) (rows_there out used (end - used) ∙ ap (λ d. rows d 0 (end - used)) (sym p)) in
      let full : used + (end - used) ≡ end = omega (arith, fill, e'') in
      let next : end ≡ start_of out (i + 1) = e ∙ ap (start_of out) one in (
        omega arith,
        next,
        subst (λ y. Grown s y k (i + 1) end (lifted_vectors out (i + 1))) (sym w)
            (subst (λ n. Grown s (appended z k i used (rows part 0 (end - used)) (end - used)) k (i + 1) n (lifted_vectors out (i + 1))) full
            (subst (λ f. Grown s (appended z k i used (rows part 0 (end - used)) (end - used)) k (i + 1) (used + (end - used)) f) (sym more)
            (grown_more s z k i used (lifted_vectors out i) part (end - used) long inside (omega (arith, a.few)) (omega (arith, full, a.room i h, e))
            (omega (arith, fill, e'')) g))),
      )
    where
      u' : start_of out i ≡ used
      u' = sym u

      e' : get_or out i 0 ≡ end
      e' = sym e

      e'' : get_or out i 0 ≡ end
      e'' = sym e

      fill : used < get_or out i 0
      fill = omega (arith, a.filled i h, u)

      one : suc i ≡ i + 1
      one = omega arith

  pub appended_all : (z : Words) (i used : ℕ) → count ≤ i → Storing z i used → Appended s z k count out
  appended_all z i used h (m, u, g) = let e : i ≡ count = omega arith in (used, subst (λ n. Grown s z k n used (lifted_vectors out n)) e g)

-- ## The level complete

module _ (s z out : Words) (k count : ℕ) (A : Appended s z k count out) where
  state_is : finished z k count ≡ with_level s k count out
  state_is = grown_finished s z k count A.0 (lifted_vectors out count) A.1

  pub stored_whole : encode document_01 (length z) (finished z k count) ≡ encode document_01 (length s) (with_level s k count out)
  stored_whole = λ j. encode document_01 (A.1.long j) (state_is j)

  -- what making it complete asks for
  pub grown_sound : T (sound? document_01 (with_level s k count out)) → T (sound? document_01 (finished z k count))
  grown_sound = subst (λ X. T (sound? document_01 X)) (sym state_is)

  pub grown_right : T (carried_right? s k) → T (carried_right? z k)
  grown_right = grown_carried s z k count A.0 (lifted_vectors out count) A.1

  module _ (long : state_length ≤ length s) (inside : k < all_levels) (sound : T (sound? document_01 (with_level s k count out)))
      (right : T (carried_right? s k)) where
    fits : state_length ≤ length z
    fits = omega (arith, long, A.1.long)

    pub complete_weighable : (y : Words) → y ≡ set (set z (count_offset k) count) 4 (k + 1) → Weighable y k
    complete_weighable y e = subst (λ w. Weighable w k) (sym e)
        (finish_weighable z k count fits inside A.1.words_below A.1.words (grown_sound sound) (grown_right right))

    pub added : (y t : Words) → y ≡ set (set z (count_offset k) count) 4 (k + 1) → t ≡ with_carried y k → Added s t k count out
    added y t p q =
        let f = finish_carried z k count fits inside A.1.words_below A.1.words (grown_sound sound) (grown_right right) in
        let e = q ∙ ap (λ w. with_carried w k) p in
        record {
          long = ap length e ∙ f.long ∙ A.1.long;
          height = ap (λ w. get_or w 4 0) e ∙ f.settles.2;
          words = subst (λ w. T (all_words_sound? document_01 w (k + 1))) (sym e) f.settles.4;
          state = ap (decode document_01) e ∙ f.means ∙ state_is;
          carries = subst (λ w. T (carried_right? w (k + 1))) (sym e) f.settles.5;
        }
