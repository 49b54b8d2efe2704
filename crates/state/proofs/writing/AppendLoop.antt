-- A level begun, one vector more, the state when it is finished; the empty state.
use mathlib.Core.Path.{◌≡◌, refl, sym, ap, ◌∙◌}
use mathlib.Core.List.{[], ◌∷◌, ◌++◌}
use Prim.Native.Nat.{ℕ, ◌+◌, ◌-◌, ◌<◌, ◌≤◌}
use native.Mathlib.Omega.{arith}
use lib.Dec.{T}
use lib.ListN.{length, take, drop, replicate, length-drop}
use lib.Seq.{ext_get_or, get_or-drop}
use Rattle.definitions.specs.Limits.{document_01}
use Rattle.definitions.specs.Monomial.{Level}
use Rattle.definitions.specs.State.{empty}
use Rattle.definitions.specs.Layout.{Words, rows, degrees_at, levels_at, all_words_sound?, encode}
use Rattle.laws.proofs.Rows.{length_rows}
use Rattle.laws.proofs.Refusals.{encode_empty}
use Rattle.definitions.specs.Places.{most_vectors, most_rows, all_levels, degrees_start, state_length}
use Rattle.vectors.specs.terms.Rows.{cleared}
use Rattle.state.specs.soundness.Places.{parameters_at}
use Rattle.state.specs.writing.LevelSoFar.{appended, finished}
use Rattle.state.specs.writing.AppendLoop.{Grown}
use Rattle.state.specs.degrees.Carrying.{carried_right?}
use Rattle.state.proofs.writing.Local.{carried_tail}
use Rattle.state.proofs.writing.Copying.{eights_rows}
use Rattle.state.proofs.writing.Appending.{appended_long, appended_front, appended_degrees, appended_below, appended_used, appended_level}
use Rattle.state.proofs.writing.Appending.{appended_words}

-- a level is begun by writing nothing
pub grown_none : (s : Words) (k : ℕ) → T (all_words_sound? document_01 s k) → Grown s s k 0 0 []
grown_none s k t = record {
  long = refl;
  front = λ i a b. refl;
  degrees = λ i a b. refl;
  below = refl;
  words_below = t;
  words = tt;
  level = refl;
  used_is = refl;
}

-- the rows of a value as one vector more
pub grown_more : (s z : Words) (k count used : ℕ) (f : Level) (value : Words) (n : ℕ) → state_length ≤ length s → k < all_levels → count < most_vectors
    → used + n ≤ most_rows → 1 ≤ n → Grown s z k count used f
    → Grown s (appended z k count used (rows value 0 n) n) k (count + 1) (used + n) (f ++ rows value 0 n ∷ [])
grown_more s z k count used f value n long inside few room filled g =
    let l : state_length ≤ length z = omega (arith, g.long) in
    let v = rows value 0 n in
    let e = eights_rows value 0 n in
    let m = length_rows value 0 n in
    let b = appended_below z k count used v n l inside few room e m filled g.words g.used_is g.words_below in
    record {
      long = appended_long z k count used v n l inside few room e m filled g.words g.used_is ∙ g.long;
      front = λ i x y. appended_front z k count used v n l inside few room e m filled g.words g.used_is i x y ∙ g.front i x y;
      degrees = λ i x y. appended_degrees z k count used v n l inside few room e m filled g.words g.used_is i x (omega (arith, g.long))
          ∙ g.degrees i x y;
      below = b.0 ∙ g.below;
      words_below = b.1;
      words = appended_words z k count used v n l inside few room e m filled g.words g.used_is;
      level = appended_level z k count used v n l inside few room e m filled g.words g.used_is ∙ ap (λ w. w ++ v ∷ []) g.level;
      used_is = appended_used z k count used v n l inside few room e m filled g.words g.used_is;
    }

-- all words from the degrees on
pub grown_tail : (s z : Words) (k count used : ℕ) (f : Level) → Grown s z k count used f → drop degrees_start z ≡ drop degrees_start s
grown_tail s z k count used f g =
    ext_get_or 0 (drop degrees_start z) (drop degrees_start s)
    (length-drop degrees_start z ∙ ap (λ n. n - degrees_start) g.long ∙ sym (length-drop degrees_start s))
    (λ i h. get_or-drop degrees_start z i 0 ∙ g.degrees (degrees_start + i) (omega arith) (omega (arith, length-drop degrees_start z, g.long))
    ∙ sym (get_or-drop degrees_start s i 0))

grown_degrees : (s z : Words) (k count used : ℕ) (f : Level) → Grown s z k count used f → degrees_at document_01 z ≡ degrees_at document_01 s
grown_degrees s z k count used f g = λ i. take (g.front 3 (omega arith) (omega arith) i) (grown_tail s z k count used f g i)

-- the levels below carry their degrees still
pub grown_carried : (s z : Words) (k count used : ℕ) (f : Level) → Grown s z k count used f → T (carried_right? s k) → T (carried_right? z k)
grown_carried s z k count used f g =
    carried_tail s z k (grown_tail s z k count used f g) (grown_degrees s z k count used f g) g.below

-- what finish says, in terms of the state that the level grew over
pub grown_finished : (s z : Words) (k count used : ℕ) (f : Level) → Grown s z k count used f → finished z k count
    ≡ record { parameters = parameters_at s; levels = f ∷ levels_at document_01 s k }
grown_finished s z k count used f g = λ i. record {
  parameters = record {
    p = g.front 0 (omega arith) (omega arith) i;
    n = g.front 1 (omega arith) (omega arith) i;
    code =
        g.front 2 (omega arith) (omega arith) i;
    s = g.front 3 (omega arith) (omega arith) i;
    degrees = grown_degrees s z k count used f g i;
  };
  levels = g.level i ∷ g.below i;
}

-- ## The empty state

-- what clearing the whole buffer leaves
pub cleared_empties : (s : Words) → state_length ≤ length s → cleared s 0 ≡ encode document_01 (length s) empty
cleared_empties s h = let z : length s - 0 ≡ length s = omega arith in ap (λ n. replicate n 0) z ∙ sym (encode_empty document_01 (length s) h)
