-- What lifting asks for and what it gives, over the ground that the code made of a state's level.
use mathlib.Core.Path.{◌≡◌, refl, sym, ap, ◌∙◌, subst, subst₂}
use mathlib.Core.Bool.{Bool, true, false}
use mathlib.Core.List.{List, [], ◌∷◌}
use mathlib.Core.Logic.{inl, inr}
use Prim.Native.Nat.{ℕ, zero, suc, ◌+◌, ◌-◌, ◌*◌, ◌<◌, ◌≤◌}
use native.Mathlib.Omega.{arith}
use lib.Dec.{T, leb}
use lib.ListN.{length, get_or, take, drop, replicate}
use lib.Seq.{length-take-le}
use Rattle.definitions.specs.Limits.{document_01}
use Rattle.definitions.specs.Monomial.{Monomial, Level, leading, leading_monomials}
use Rattle.definitions.specs.Result.{Result, done, refused, refusal, unfinished, ◌>>=◌}
use Rattle.definitions.specs.Reducer.{heads}
use Rattle.definitions.specs.Run.{by_code}
use Rattle.definitions.specs.Frame.{frame}
use Rattle.definitions.specs.Lifting.{limited_frame, if_few, lift_all, accept_from}
use Rattle.definitions.specs.Layout.{Words, row_at, rows, rows_of, padded, level_at, levels_at}
use Rattle.laws.proofs.Rows.{length_rows, rows_spelled}
use Rattle.definitions.specs.Places.{most_vectors, most_terms, row_length, value_length}
use Rattle.ending.specs.Well.{Well}
use Rattle.orders.specs.Images.{table_of, table_order}
use Rattle.laws.proofs.Modular.{prime_says}
use Rattle.state.specs.soundness.Places.{parameters_at, count_at, rows_from, ends_from}
use Rattle.state.proofs.soundness.VectorTests.{length_vectors}
use Rattle.state.specs.preparing.Prepared.{components_at, Led}
use Rattle.state.proofs.preparing.Complete.{complete_count}
use Rattle.state.proofs.writing.Copying.{eights_rows}
use Rattle.frame.specs.Generators.{monomials_of, framed_of, few}
use Rattle.frame.proofs.Components.{frame_components}
use Rattle.runs.specs.reduction.Grounds.{spans_in, ends_in, below_in, above_in, Tables, Family}
use Rattle.runs.specs.declared.reduction.Ground.{Ground}
use Rattle.runs.specs.run.Stages.{Images, order_of, stage_of, strategy_of}
use Rattle.runs.specs.declared.run.Strategy.{Strategy}
use Rattle.runs.specs.frame_terms.Vectors.{Framed, frame_terms, lifts, accepted_of, Left}
use Rattle.runs.proofs.frame_terms.LoopsOverFrame.{left_at}
use Rattle.demands.specs.Notions.{Member}
use Rattle.sweeps.specs.Sizes.{resized, eight_variables}
use Rattle.sweeps.specs.Sweep.{components}
use Rattle.sweeps.proofs.Footing.{footing, footing_resized}
use Rattle.sweeping.specs.Serving.{Grounded}
use Rattle.runs.specs.declared.frame_terms.Accepted.{Accepted}
use Rattle.runs.specs.declared.frame_terms.Accepted.TheVariants.{Yes, Stopped as AcceptedStopped}
use Rattle.std.specs.Prelude.{Option as CodeOption, Some, None, Ok}
use Rattle.level.specs.by_runs.Stages.{Base, with_working, usual, Within, ground_at, stage_at, strategy_at, TablesAt, FramedBy, accepted_with}
use Rattle.level.specs.by_runs.Stages.{value_in, LeftIn}
use Rattle.level.specs.declared.by_runs.Bounds.{Bounds}
use Rattle.level.proofs.by_runs.GroundOfLevel.{sound_levels, prime_at, tables_at, family_at, family_in, images_below, images_above, below_is, stage_is, well_at}

-- ## Leading monomials

monomials_heads : (p : ℕ) (f : Level) → monomials_of (heads p f) ≡ leading_monomials f
monomials_heads p [] = refl
monomials_heads p (f ∷ fs) = ap (λ l. leading f ∷ l) (monomials_heads p fs)

length_leading : (f : Level) → length (leading_monomials f) ≡ length f
length_leading [] = refl
length_leading (f ∷ fs) = ap suc (length_leading fs)

module _ (s : Words) (j : ℕ) (b : Base s j) where
  pub leading_at : (leads spans : Words) → Led s j leads spans → monomials_of (rows leads 0 (count_at s j))
      ≡ leading_monomials (level_at document_01 s j)
  leading_at leads spans l = ap monomials_of l.made ∙ monomials_heads (get_or s 0 0) (level_at document_01 s j)

  length_level : length (leading_monomials (level_at document_01 s j)) ≡ count_at s j
  length_level =
      length_leading (level_at document_01 s j)
      ∙ length_vectors (rows_from s j) 0 (take (count_at s j) (ends_from s j))
      ∙ length-take-le (count_at s j) (ends_from s j) (family_at s j b usual).ends_fit

  pub framed_at : (lim : Bounds) (count : ℕ) (words : Words) → FramedBy s j count words → Framed (ground_at lim s j) count words
  framed_at lim count words f = record {
    few = f.few;
    fits = f.fits;
    components = λ i h.
        let F = leading_monomials (level_at document_01 s j) in
        let c = frame_components (document_01.numbering (get_or s 2 0)) F words count f.terms i h in
        (c.0, omega (arith, c.1, length_level));
  }

  -- ## What lifting asks for

  module _ (tables : Words) (t : TablesAt s j tables) (lim : Bounds) (g : Ground) (level : Words) (eg : g ≡ ground_at lim s j)
      (el : level ≡ rows_from s j) where
    abbrev Asked : ℕ → Words → Ground → Words → Type 0
    Asked count words g level =
        Tables g tables × Family g level (ends_in tables) × Images g.images (below_in tables) × Images g.r (above_in tables)
        × Well (stage_of g level tables (order_of g tables)) ×
        Framed g count words × (g.working ≡ lim.working) × (g.vector ≡ lim.vector) × (g.room ≡ lim.room)

    pub asked : (count : ℕ) (words : Words) → FramedBy s j count words → Asked count words g level
    asked count words f =
        subst₂ (Asked count words) (sym eg) (sym el) (
          tables_at s j b lim tables t,
          family_in s j b lim tables t,
          images_below s j b tables t,
          images_above s j b tables t,
          well_at s j b lim tables t,
          framed_at lim count words f,
          refl,
          refl,
          refl,
        )

    -- ## What it gives

    pub stage_same : stage_of g level tables (table_order g.code (table_of g.r (above_in tables))) ≡ stage_at lim s j
    stage_same = (λ i. stage_of (eg i) (el i) tables (table_order (eg i).code (table_of (eg i).r (above_in tables)))) ∙ stage_is s j b lim tables t

    strategy_same : (w : Strategy) → strategy_of g tables w ≡ strategy_at lim s j w
    strategy_same w =
        (λ i. strategy_of (eg i) tables w)
        ∙ (λ i. record { drops = w.drops; pick = by_code (below_is s j b lim tables t i) w.pick; stops = w.stops })

    pub lifted_same : (w : Strategy) (n : ℕ) (ms : List Monomial) (x : Result Level)
        → x ≡ lift_all (stage_of g level tables (table_order g.code (table_of g.r (above_in tables))))
        (lifts (stage_of g level tables (table_order g.code (table_of g.r (above_in tables)))) (strategy_of g tables w) n) ([], 0) [] ms
        → x ≡ lift_all (stage_at lim s j) (lifts (stage_at lim s j) (strategy_at lim s j w) n) ([], 0) [] ms
    lifted_same w n ms x e = e ∙ (λ i. lift_all (stage_same i) (lifts (stage_same i) (strategy_same w i) n) ([], 0) [] ms)

    pub accepted_same : (n k : ℕ) (ms : List Monomial) (x : Result (Unit {0}))
        → x ≡ accept_from (stage_of g level tables (table_order g.code (table_of g.r (above_in tables)))) n k ms → x
        ≡ accept_from (stage_at lim s j) n k ms
    accepted_same n k ms x e = e ∙ (λ i. accept_from (stage_same i) n k ms)

-- ## The frame first

-- the frame, numbered lexicographically, if a level has room for it
abbrev if_room : ℕ → List Monomial → Result (List Monomial)
if_room code F = if_few (leb (length (frame (document_01.numbering code) F)) most_vectors) (frame (document_01.numbering code) F)

-- more frame terms than a level has vectors
pub too_many : {A : Type 0} (code : ℕ) (f : Level) (F : List Monomial) (go : List Monomial → Result A) → F ≡ leading_monomials f
    → refusal 15 ≡ if_room code F → refusal 15 ≡ (limited_frame document_01 code f >>= go)
too_many code f F go e h = ap (λ r. r >>= go) (h ∙ ap (if_room code) e)

pub few_enough : {A : Type 0} (code : ℕ) (f : Level) (F ms : List Monomial) (go : List Monomial → Result A) → F ≡ leading_monomials f
    → done ms ≡ if_room code F → go ms ≡ (limited_frame document_01 code f >>= go)
few_enough code f F ms go e h = ap (λ r. r >>= go) (h ∙ ap (if_room code) e)

abbrev Says : List Monomial → Result (List Monomial) → Type 0
Says F (done ms) = ms ≡ F
Says F (refused number place value) = Unit {0}
Says F unfinished = Unit {0}

says : (F : List Monomial) (b : Bool) → Says F (if_few b F)
says F true = refl
says F false = tt

-- the frame's terms are all of them
pub whole_frame : (code : ℕ) (F G ms : List Monomial) → F ≡ G → done ms ≡ if_few (leb (length (frame code F)) most_vectors) (frame code F) → ms
    ≡ frame code G
whole_frame code F G ms e h = subst (Says (frame code F)) (sym h) (says (frame code F) (leb (length (frame code F)) most_vectors)) ∙ ap (frame code) e

-- what forming the frame gave, over the tables of a level
module _ (s : Words) (j : ℕ) (b : Base s j) (tables : Words) (t : TablesAt s j tables) (r : ℕ) (er : r ≡ count_at s j) (d : Words) where
  abbrev F : List Monomial
  F = monomials_of (rows tables 0 r)

  lead : F ≡ leading_monomials (level_at document_01 s j)
  lead = ap (λ k. monomials_of (rows tables 0 k)) er ∙ leading_at s j b tables (spans_in tables) t.led

  module _ (o : CodeOption ℕ) (e : framed_of o d ≡ if_few (leb (length (frame 1 (monomials_of (rows tables 0 r)))) most_vectors)
      (frame 1 (monomials_of (rows tables 0 r)))) where
    pub formed : (n : ℕ) → few most_vectors o → most_vectors * row_length ≤ length d → o ≡ Some n → FramedBy s j n d
    formed n h l p =
        let m : n ≤ most_vectors = subst (few most_vectors) p h in
        record {
          few = m;
          fits = omega (arith, m, l);
          terms = whole_frame 1 F (leading_monomials (level_at document_01 s j)) (frame_terms d n) lead (sym (ap (λ y. framed_of y d) p) ∙ e);
        }

    pub formed_on : {A : Type 0} (go : List Monomial → Result A) (n : ℕ) → o ≡ Some n → go (frame_terms d n)
        ≡ (limited_frame document_01 (get_or s 2 0) (level_at document_01 s j) >>= go)
    formed_on go n p =
        few_enough (get_or s 2 0) (level_at document_01 s j) F (frame_terms d n) go lead (sym (ap (λ y. framed_of y d) p) ∙ e)

    pub formed_not : {A : Type 0} (go : List Monomial → Result A) → o ≡ None → refusal 15
        ≡ (limited_frame document_01 (get_or s 2 0) (level_at document_01 s j) >>= go)
    formed_not go p = too_many (get_or s 2 0) (level_at document_01 s j) F go lead (sym (ap (λ y. framed_of y d) p) ∙ e)

-- ## A value without a reducer

pub left_room : (g : Ground) (x : Accepted) (vector work : Words) → g.working ≡ most_terms → Left g (Ok x) → value_length ≤ length vector
    → value_length ≤ length work → LeftIn x vector work
left_room g Yes vector work e l h k = tt
left_room g (AcceptedStopped i n) vector work e l h k = (omega (arith, l, e), omega (arith, l, e), omega (arith, l, e))

pub shown_rows : (vector work : Words) (n : ℕ) → work ≡ padded (length work) (rows_of (rows vector 0 n)) → rows work 0 n ≡ rows vector 0 n
shown_rows vector work n e =
    let v = rows vector 0 n in
    ap (rows work 0) (sym (length_rows vector 0 n)) ∙ rows_spelled work 0 v (replicate (length work - length (rows_of v)) 0) (eights_rows vector 0 n) e

pub answer_same : (x : Accepted) (vector : Words) → accepted_with (Ok x) (value_in x vector) ≡ accepted_of (Ok x) vector
answer_same Yes vector = refl
answer_same (AcceptedStopped i n) vector = refl

pub working_within : (working : ℕ) → working ≤ most_terms → Within (with_working working)
working_within working h = record { working = h; vector = omega arith; filled = omega arith; tree = omega arith; room = omega arith }

pub usual_within : Within usual
usual_within = working_within most_terms (omega arith)

-- ## What tables of nodes ask for

member_drop : (v : ℕ) (l : List Monomial) (x : Monomial) (r : List Monomial) → drop v l ≡ x ∷ r → Member x l
member_drop zero l x r e = subst (Member x) (sym e) (inl refl)
member_drop (suc v) [] x r e = absurd (some_none (sym e))
  where
    some_none : {y : Monomial} {k : List Monomial} → y ∷ k ≡ [] → ⊥
    some_none e = subst T (ap empty_not e) tt
      where
        empty_not : List Monomial → Bool
        empty_not [] = false
        empty_not (y ∷ k) = true
member_drop (suc v) (y ∷ l) x r e = inr (member_drop v l x r e)

module _ (s : Words) (j : ℕ) (b : Base s j) (tables : Words) (t : TablesAt s j tables) (lim : Bounds) (g : Ground) (level : Words) (eg : g ≡ ground_at lim s j)
    (el : level ≡ rows_from s j) where
  components_same : (j : ℕ) → j < get_or s 4 0 → components_at s j + 1 - 1 ≡ components (eight_variables (parameters_at s)) (levels_at document_01 s j)
  components_same zero l = omega arith
  components_same (suc k) l = omega (arith, complete_count s b.long b.holds k (omega (arith, l)))

  pub grounded : (count : ℕ) (words : Words) → FramedBy s j count words → Grounded g level tables words count
  grounded count words f = record {
    lim = resized lim.working lim.vector lim.tree lim.room document_01;
    q = parameters_at s;
    f = level_at document_01 s j;
    below = levels_at document_01 s j;
    footing = footing_resized document_01 (eight_variables (parameters_at s)) (levels_at document_01 s (suc j))
        (footing document_01 (parameters_at s) (omega arith) (prime_says (get_or s 0 0) (prime_at s j b)) (levels_at document_01 s (suc j)) (sound_levels s j b))
        lim.working lim.vector lim.tree lim.room;
    stage = stage_same s j b tables t lim g level eg el;
    ranged = ap (λ (h : Ground). h.components - 1) eg ∙ components_same j b.has;
    members = λ v h.
        subst (Member (row_at words v).1) f.terms (member_drop v (frame_terms words count) (row_at words v).1 (drop (v + 1) (frame_terms words count)) (left_at words count v h));
  }
