-- A P line from the bytes that are left, and the lines one by one.
use mathlib.Core.Path.{◌≡◌, refl, sym, ap, ◌∙◌, subst}
use mathlib.Core.Bool.{true}
use mathlib.Core.Option.{Option, none, some}
use mathlib.Core.List.{List, [], ◌∷◌}
use Prim.Native.Nat.{ℕ, zero, suc, ◌+◌, ◌<◌, ◌≤◌}
use native.Mathlib.Omega.{arith}
use lib.ListN.{length, get_or, drop}
use borrow.Author.Tests.{lt-ltb, le-ltb}
use Rattle.std.specs.Prelude.{Option as CodeOption, Some, None, Ok, Err}
use Rattle.std.specs.Option.{ok_or}
use Rattle.definitions.specs.Lists.{◌then◌, empty?}
use Rattle.definitions.specs.Monomial.{Vector}
use Rattle.definitions.specs.Result.{Result, done, refused, unfinished, unless_refused, ◌>>=◌}
use Rattle.definitions.specs.Stage.{Stage}
use Rattle.definitions.specs.Run.{Run}
use Rattle.definitions.specs.Problem.{Bytes, Line, lines, shaped}
use Rattle.definitions.specs.Replay.{letter_P, pick_of, place_from, replayed, p_line, if_zero, p_lines}
use Rattle.definitions.specs.Places.{most_picks}
use Rattle.definitions.specs.Layout.{Words, rows}
use Rattle.laws.proofs.Results.{IfSome}
use Rattle.laws.proofs.Reading.{Counts, shaped_length}
use Rattle.reader.specs.fields.Scanning.{behind, shaped_of, shaped_first, in_sixteen}
use Rattle.reader.proofs.fields.Lines.{first_of}
use Rattle.after.proofs.Cutting.{here, behind_less}
use Rattle.runs.specs.run.Stages.{run_of}
use Rattle.runs.proofs.reduction.Adding.{rows_none}
use Rattle.replaying.specs.picks.Named.{named}
use Rattle.replaying.specs.log.Lines.{p_first}
use Rattle.replaying.proofs.picks.Naming.{named_is}

-- what `ok_or` hands on
pub ok_or_ok : {A E : Type 0} (o : CodeOption A) (e : E) (x : A) → ok_or o e ≡ Ok x → o ≡ Some x
ok_or_ok None e x h = cc
ok_or_ok (Some y) e x h = cc

pub ok_or_err : {A E : Type 0} (o : CodeOption A) (e d : E) → ok_or o e ≡ Err d → (o ≡ None) × (d ≡ e)
ok_or_err None e d h = (refl, cc)
ok_or_err (Some y) e d h = (cc, cc)

none_is_not : {A : Type 0} {a : A} → ◌≡◌ {A = Option A} none (some a) → ⊥
none_is_not e = let z : ◌≡◌ {A = ℕ} 0 1 = cc in omega arith

-- ## One line

module _ (S : Stage) (n k place picks : ℕ) (r : Run) (bytes : Bytes) where
  abbrev first_shape : Option (List ℕ)
  first_shape = shaped_of 65535 letter_P (suc n) (lines bytes)

  abbrev numbers_of : Option (List ℕ) → Option (Words × Bytes)
  numbers_of o = in_sixteen (o then λ v. some (v, behind bytes))

  abbrev turn : Option (List ℕ) → Result (Run × Bytes)
  turn o = p_line most_picks S n k place picks r o >>= λ r'. done (r', behind bytes)

  -- 21: the line lacks its shape
  pub turn_shape : none ≡ in_sixteen (shaped_first 65535 letter_P (suc n) bytes) → refused 21 place [] ≡ p_first S n k place picks r bytes
  turn_shape e = go first_shape e
    where
      go : (o : Option (List ℕ)) → none ≡ numbers_of o → refused 21 place [] ≡ turn o
      go none e = refl
      go (some v) e = absurd (none_is_not e)

  -- 21: at a line more than the limit allows
  pub turn_many : most_picks ≤ picks → refused 21 place [] ≡ p_first S n k place picks r bytes
  turn_many h = go first_shape
    where
      go : (o : Option (List ℕ)) → refused 21 place [] ≡ turn o
      go none = refl
      go (some v) =
          ap (λ b. (unless_refused b 21 place >>= λ u. replayed S k place r (place_from (pick_of n v) 0 r.value)) >>= λ r'. done (r', behind bytes))
          (sym (le-ltb picks most_picks h))

  -- the pick
  pub turn_taken : n ≤ 8 → (w : Words) (rest : Bytes) → some (w, rest) ≡ in_sixteen (shaped_first 65535 letter_P (suc n) bytes) → picks < most_picks
      → (x : Result Run) → x ≡ replayed S k place r (place_from (named n w) 0 r.value) → (x >>= λ r'. done (r', rest)) ≡ p_first S n k place picks r bytes
  turn_taken few w rest e l x h = go first_shape (shaped_counts (lines bytes)) e
    where
      shaped_counts : (ls : List Line) → IfSome (Counts (suc n)) (shaped_of 65535 letter_P (suc n) ls)
      shaped_counts [] = tt
      shaped_counts (line ∷ later) = shaped_length 65535 letter_P (suc n) line

      words_in : Option (Words × Bytes) → Words
      words_in none = w
      words_in (some r) = r.0

      rest_in : Option (Words × Bytes) → Bytes
      rest_in none = rest
      rest_in (some r) = r.1

      go : (o : Option (List ℕ)) → IfSome (Counts (suc n)) o → some (w, rest) ≡ numbers_of o → (x >>= λ r'. done (r', rest)) ≡ turn o
      go none c e = absurd (none_is_not (sym e))
      go (some v) c e =
          (λ i. h i >>= λ r'. done (r', ap rest_in e i))
          ∙ ap (λ u. replayed S k place r (place_from (named n u) 0 r.value) >>= λ r'. done (r', behind bytes)) (ap words_in e)
          ∙ ap (λ m. replayed S k place r (place_from m 0 r.value) >>= λ r'. done (r', behind bytes)) (named_is n v few c)
          ∙ ap (λ b. (unless_refused b 21 place >>= λ u. replayed S k place r (place_from (pick_of n v) 0 r.value)) >>= λ r'. done (r', behind bytes))
          (sym (lt-ltb picks most_picks l))

-- ## The lines one by one

module _ (S : Stage) (n k : ℕ) where
  abbrev rest_of : ℕ → ℕ → Result (Run × Bytes) → Result Vector
  rest_of place picks x = x >>= λ y. p_lines most_picks S 65535 n k (suc place) (suc picks) y.0 (lines y.1)

  abbrev all_from : ℕ → ℕ → Run → Bytes → Result Vector
  all_from place picks r bytes = p_lines most_picks S 65535 n k place picks r (lines bytes)

  one_line : (place picks : ℕ) (r : Run) (b : ℕ) (bytes : Bytes) → all_from place picks r (b ∷ bytes) ≡ rest_of place picks
      (p_first S n k place picks r (b ∷ bytes))
  one_line place picks r b bytes = parted (first_of b bytes)
    where
      later : Result Run → Result Vector
      later x = x >>= λ r'. p_lines most_picks S 65535 n k (suc place) (suc picks) r' (lines (behind (b ∷ bytes)))

      with_rest : Result Run → Result Vector
      with_rest x = rest_of place picks (x >>= λ r'. done (r', behind (b ∷ bytes)))

      same : (x : Result Run) → later x ≡ with_rest x
      same (done r') = refl
      same (refused number at value) = refl
      same unfinished = refl

      parted : (line : Line) × (lines (b ∷ bytes) ≡ line ∷ lines (behind (b ∷ bytes)))
          → all_from place picks r (b ∷ bytes) ≡ rest_of place picks (p_first S n k place picks r (b ∷ bytes))
      parted (line, e) =
          ap (p_lines most_picks S 65535 n k place picks r) e
          ∙ same (p_line most_picks S n k place picks r (shaped 65535 letter_P (suc n) line))
          ∙ sym (ap (λ ls. with_rest (p_line most_picks S n k place picks r (shaped_of 65535 letter_P (suc n) ls))) e)

  -- at a position
  pub line_at : (s : Bytes) (at place picks : ℕ) (r : Run) → at < length s
      → all_from place picks r (drop at s) ≡ rest_of place picks (p_first S n k place picks r (drop at s))
  line_at s at place picks r h =
      subst (λ z. all_from place picks r z ≡ rest_of place picks (p_first S n k place picks r z)) (sym (here true s at h))
      (one_line place picks r (get_or s at 0) (drop (at + 1) s))

  -- a line was gone behind
  pub goes_on : (s : Bytes) (at place picks : ℕ) (r r' : Run) (rest : Bytes) → at < length s → done (r', rest) ≡ p_first S n k place picks r (drop at s)
      → all_from place picks r (drop at s) ≡ all_from (place + 1) (picks + 1) r' rest
  goes_on s at place picks r r' rest h e =
      let a : suc place ≡ place + 1 = omega arith in
      let b : suc picks ≡ picks + 1 = omega arith in
      line_at s at place picks r h ∙ sym (ap (rest_of place picks) e) ∙ (λ i. all_from (a i) (b i) r' rest)

  -- .. or refused
  pub ends_there : (s : Bytes) (at place picks : ℕ) (r : Run) (number there : ℕ) → at < length s
      → refused number there [] ≡ p_first S n k place picks r (drop at s) → all_from place picks r (drop at s) ≡ refused number there []
  ends_there s at place picks r number there h e = line_at s at place picks r h ∙ sym (ap (rest_of place picks) e)

  -- no line is left
  pub at_end : (s : Bytes) (at place picks : ℕ) (r : Run) → length s ≤ at → all_from place picks r (drop at s) ≡ if_zero (empty? r.value) S place r
  at_end s at place picks r h = ap (all_from place picks r) (nothing s at h)
    where
      nothing : (s : Bytes) (at : ℕ) → length s ≤ at → drop at s ≡ []
      nothing [] zero h = refl
      nothing [] (suc at) h = refl
      nothing (b ∷ s) zero h = absurd (omega arith)
      nothing (b ∷ s) (suc at) h = nothing s at (omega arith)

-- what stands behind the line that was taken
behind_of : (S : Stage) (n k place picks : ℕ) (r r' : Run) (bytes rest : Bytes) → done (r', rest) ≡ p_first S n k place picks r bytes → rest ≡ behind bytes
behind_of S n k place picks r r' bytes rest e =
    go (p_line most_picks S n k place picks r (shaped_of 65535 letter_P (suc n) (lines bytes))) e
  where
    never : {A : Type 0} {a : A} {number at : ℕ} {value : Vector} → ◌≡◌ {A = Result A} (done a) (refused number at value) → ⊥
    never e = let z : ◌≡◌ {A = ℕ} 0 1 = cc in omega arith

    still : {A : Type 0} {a : A} → ◌≡◌ {A = Result A} (done a) unfinished → ⊥
    still e = let z : ◌≡◌ {A = ℕ} 0 1 = cc in omega arith

    rest_in : Result (Run × Bytes) → Bytes
    rest_in (done y) = y.1
    rest_in (refused number at value) = rest
    rest_in unfinished = rest

    go : (x : Result Run) → ◌≡◌ {A = Result (Run × Bytes)} (done (r', rest)) (x >>= λ r'. done (r', behind bytes)) → rest ≡ behind bytes
    go (done r'') e = ap rest_in e
    go (refused number at value) e = absurd (never e)
    go unfinished e = absurd (still e)

pub less_left : (S : Stage) (n k place picks : ℕ) (r r' : Run) (s : Bytes) (at : ℕ) (rest : Bytes) → at < length s
    → done (r', rest) ≡ p_first S n k place picks r (drop at s) → length rest < length (drop at s)
less_left S n k place picks r r' s at rest h e = omega (arith, ap length (behind_of S n k place picks r r' (drop at s) rest e), behind_less s at h)

-- ## The value at the end

pub zero_end : (S : Stage) (place : ℕ) (value : Words) (vector : Words) (u m : ℕ) → m ≡ 0
    → if_zero (empty? (rows value 0 m)) S place (run_of value m vector u) ≡ if_zero true S place (run_of value m vector u)
zero_end S place value vector u m e = ap (λ v. if_zero (empty? v) S place (run_of value m vector u)) (ap (rows value 0) e ∙ rows_none value 0)

pub some_end : (S : Stage) (place : ℕ) (value : Words) (vector : Words) (u m : ℕ) → (v : Vector) → length v ≡ m → (m ≡ 0 → ⊥)
    → if_zero (empty? v) S place (run_of value m vector u) ≡ refused 22 place []
some_end S place value vector u m [] l h = absurd (h (sym l))
some_end S place value vector u m (t ∷ v) l h = refl
