-- Exactly the V lines of a vector in range are read, as this; 23 comes exactly at the first line that is none.
use mathlib.Core.Path.{◌≡◌, refl, sym, ap, ◌∙◌, subst}
use mathlib.Core.Logic.{◌⊎◌, inl, inr}
use mathlib.Core.Bool.{Bool, true, false, not}
use mathlib.Core.Option.{Option, none, some}
use mathlib.Core.List.{List, [], ◌∷◌, ◌++◌, append_assoc, append-nil}
use Prim.Native.Nat.{ℕ, suc, ◌+◌, ◌<◌, ◌≤◌}
use native.Mathlib.Omega.{arith}
use lib.Dec.{T, ltb}
use lib.ListN.{length, length-append}
use borrow.Author.Tests.{lt-ltb}
use Rattle.definitions.specs.Limits.{Limits}
use Rattle.definitions.specs.Lists.{◌and◌, every, empty?, rest, last}
use Rattle.definitions.specs.Monomial.{Term, Vector}
use Rattle.definitions.specs.Order.{compare_over, greater?}
use Rattle.definitions.specs.Result.{Result, done, refused, unfinished, unless_refused, ◌>>=◌}
use Rattle.definitions.specs.Vectors.{strictly_descending?}
use Rattle.definitions.specs.Problem.{Bytes, Line, Parameters, newline, lines, shaped, term_of, term_in_range?, below?}
use Rattle.definitions.specs.State.{term_sound?}
use Rattle.definitions.specs.Sheet.{printed, term_fields}
use Rattle.definitions.specs.Membership.{letter_V, v_term?, v_line, v_lines}
use Rattle.laws.proofs.Tests.{true_is, and_left, and_right, and_both}
use Rattle.laws.proofs.Results.{IfSome}
use Rattle.laws.proofs.Elements.{last_later}
use Rattle.files.specs.Files.{Wide, WellFormedParameters, WellFormedTerm}
use Rattle.files.proofs.Lines.{text_of, lines_text, Clean, lines_clean, text_lines, listed, lines_printed, text_printed, shaped_listed, Shape, shaped_only}
use Rattle.files.proofs.Forms.{term_well, term_tested, n_in_eight, term_back, term_count, term_numbers}
use Rattle.files.proofs.Only.{t_numbers}
use Rattle.members.specs.Members.{v_text, Bringable, FirstBad, VLinesRight}
use Rattle.members.proofs.Brought.{Brought, brought_shown, Lines, brings, bad, one_more, lines_brought}

-- ## Results

of_done : Vector → Result Vector → Vector
of_done d (done v) = v
of_done d (refused number place value) = d
of_done d unfinished = d

pub done_is : {a b : Vector} → ◌≡◌ {A = Result Vector} (done a) (done b) → a ≡ b
unfolding of_done
done_is e = ap (of_done []) e

of_refused : {B : Type 0} → B → (ℕ → ℕ → Vector → B) → Result Vector → B
of_refused d f (done v) = d
of_refused d f (refused number place value) = f number place value
of_refused d f unfinished = d

module _ {a i b j : ℕ} {v x : Vector} where
  pub number_is : ◌≡◌ {A = Result Vector} (refused a i v) (refused b j x) → a ≡ b
  unfolding of_refused
  number_is e = ap (of_refused 0 (λ number place value. number)) e

  pub place_is : ◌≡◌ {A = Result Vector} (refused a i v) (refused b j x) → i ≡ j
  unfolding of_refused
  place_is e = ap (of_refused 0 (λ number place value. place)) e

  pub value_is : ◌≡◌ {A = Result Vector} (refused a i v) (refused b j x) → v ≡ x
  unfolding of_refused
  value_is e = ap (of_refused [] (λ number place value. value)) e

pub done_not : {v x : Vector} {number place : ℕ} → ◌≡◌ {A = Result Vector} (done v) (refused number place x) → ⊥
done_not e = let z : ◌≡◌ {A = ℕ} 0 1 = cc in omega arith

pub refused_not : {v x : Vector} {number place : ℕ} → ◌≡◌ {A = Result Vector} (refused number place x) (done v) → ⊥
refused_not e = let z : ◌≡◌ {A = ℕ} 0 1 = cc in omega arith

-- a line has some byte
filled : (line : Line) (later : List Line) → Clean (line ∷ later) → 1 ≤ length (text_of (line ∷ later))
filled (a, true) later c = omega (arith, length-append a (newline ∷ text_of later))
filled (a, false) later c = go a c.1.0
  where
    go : (a : Bytes) → (◌≡◌ {A = Bool} false true) ⊎ ((◌≡◌ {A = Bool} false false) × ((later ≡ []) × T (not (empty? a)))) → 1 ≤ length (a ++ text_of later)
    go [] (inl e) = let z : ◌≡◌ {A = ℕ} 0 1 = cc in absurd (omega arith)
    go [] (inr t) = absurd t.1.1
    go (b ∷ a) t = omega arith

-- ## In front

pub every_front : {A : Type 0} (f : A → Bool) (a b : List A) → T (every f (a ++ b)) → T (every f a)
every_front f [] b h = tt
every_front f (x ∷ a) b h = and_both (f x) (every f a) (and_left (f x) (every f (a ++ b)) h) (every_front f a b (and_right (f x) (every f (a ++ b)) h))

pub every_last : {A : Type 0} (f : A → Bool) (a : List A) (x : A) → T (every f (a ++ x ∷ [])) → T (f x)
every_last f [] x h = and_left (f x) true h
every_last f (y ∷ a) x h = every_last f a x (and_right (f y) (every f (a ++ x ∷ [])) h)

module _ (code : ℕ) where
  abbrev order_test : Vector → Bool
  order_test v = strictly_descending? (compare_over code []) v

  pub front_descends : (a b : Vector) → T (strictly_descending? (compare_over code []) (a ++ b)) → T (strictly_descending? (compare_over code []) a)
  front_descends [] b h = tt
  front_descends (t ∷ []) b h = tt
  front_descends (t ∷ u ∷ a) b h =
      let g = greater? (compare_over code [] t.1 u.1) in
      and_both g (order_test (u ∷ a)) (and_left g (order_test (u ∷ a ++ b)) h) (front_descends (u ∷ a) b (and_right g (order_test (u ∷ a ++ b)) h))

  pub last_below : (v : Vector) (t : Term) → T (strictly_descending? (compare_over code []) (v ++ t ∷ [])) → T (below? code (last v) t)
  last_below [] t h = tt
  last_below (u ∷ []) t h = and_left (greater? (compare_over code [] u.1 t.1)) true h
  last_below (u ∷ w ∷ v) t h =
      subst (λ o. T (below? code o t)) (sym (last_later u w v))
      (last_below (w ∷ v) t (and_right (greater? (compare_over code [] u.1 w.1)) (order_test (w ∷ v ++ t ∷ [])) h))

module _ (lim : Limits) (wide : Wide lim) (q : Parameters) (w : WellFormedParameters lim q) where
  few : q.n ≤ 8
  few = n_in_eight lim wide q w

  abbrev Good : Vector → Type 0
  Good v = Brought lim q few v

  good_front : (a b : Vector) → Good (a ++ b) → Good a
  good_front a b h = record {
    sound = every_front (term_sound? lim q q.s) a b h.sound;
    descends = front_descends q.code a b h.descends;
    short = omega (arith, h.short, length-append a b);
  }

  good_says : (v : Vector) → Bringable lim q v → Good v
  good_says v h =
      let e = every (term_sound? lim q q.s) v in
      let d = strictly_descending? (compare_over q.code []) v in
      record { sound = and_left e d h.0; descends = and_right e d h.0; short = h.1 }

  good_shows : (v : Vector) → Good v → Bringable lim q v
  good_shows v h = (brought_shown lim q few v h, h.short)

  -- ## A line that says a term

  abbrev line_of : Term → Line
  line_of t = (letter_V ∷ listed (term_fields q.n t), true)

  good_step : (place : ℕ) (v : Vector) (t : Term) → Good (v ++ t ∷ []) → (later : List Line)
      → v_lines lim q place v (line_of t ∷ later) ≡ v_lines lim q (suc place) (v ++ t ∷ []) later
  good_step place v t h later =
      ap (λ o. v_line lim q place v o >>= K) shape ∙ (λ i. (unless_refused (v_term? lim q v (back i)) 23 place >>= λ u. done (v ++ back i ∷ [])) >>= K)
      ∙ ap (λ b. (unless_refused b 23 place >>= λ u. done (v ++ t ∷ [])) >>= K) (true_is (v_term? lim q v t) tested)
    where
      K : Vector → Result Vector
      K u = v_lines lim q (suc place) u later

      well : WellFormedTerm lim q t
      well = term_well lim q t (every_last (term_sound? lim q q.s) v t h.sound)

      shape : shaped lim.field letter_V (2 + q.n) (line_of t) ≡ some (term_fields q.n t)
      shape =
          shaped_listed lim.field letter_V (2 + q.n) (λ e. omega (arith, e)) (term_fields q.n t)
          (term_numbers lim wide q w 0 (omega arith) t well).1 (omega (arith, term_count lim wide q w 0 t well))

      back : term_of q.n (0 ∷ term_fields q.n t) ≡ t
      back = term_back lim wide q w 0 t well.eight well.past

      room : length v < lim.working
      room = omega (arith, h.short, length-append v (t ∷ []))

      tested : T (v_term? lim q v t)
      tested =
          and_both (term_in_range? lim q t) (below? q.code (last v) t and ltb (length v) lim.working) (term_tested lim q t well)
          (and_both (below? q.code (last v) t) (ltb (length v) lim.working) (last_below q.code v t h.descends)
          (subst T (sym (lt-ltb (length v) lim.working room)) tt))

  first_line : (place : ℕ) (v : Vector) (t : Term) → Good (v ++ t ∷ []) → (bytes : Bytes)
      → v_lines lim q place v (lines (printed letter_V (term_fields q.n t) ++ bytes)) ≡ v_lines lim q (suc place) (v ++ t ∷ []) (lines bytes)
  first_line place v t h bytes =
      ap (v_lines lim q place v) (lines_printed letter_V (λ e. omega (arith, e)) (term_fields q.n t) bytes) ∙ good_step place v t h (lines bytes)

  -- the V lines of some terms, and what follows them
  good_steps : (u v : Vector) (place : ℕ) (later : Bytes) → Good (v ++ u)
      → v_lines lim q place v (lines (v_text q.n u ++ later)) ≡ v_lines lim q (place + length u) (v ++ u) (lines later)
  good_steps [] v place later h =
      let z : place ≡ place + 0 = omega arith in λ i. v_lines lim q (z i) (sym (append-nil v) i) (lines later)
  good_steps (t ∷ u) v place later h =
      let a : (v ++ t ∷ []) ++ u ≡ v ++ t ∷ u = append_assoc v (t ∷ []) u in
      let z : suc place + length u ≡ place + suc (length u) = omega arith in
      let g : Good ((v ++ t ∷ []) ++ u) = subst Good (sym a) h in
      ap (λ x. v_lines lim q place v (lines x)) (append_assoc (printed letter_V (term_fields q.n t)) (v_text q.n u) later)
      ∙ first_line place v t (good_front (v ++ t ∷ []) u g) (v_text q.n u ++ later) ∙ good_steps u (v ++ t ∷ []) (suc place) later g
      ∙ (λ i. v_lines lim q (z i) (a i) (lines later))

  -- ## What comes of any lines

  data Outcome (place : ℕ) (v : Vector) (ls : List Line) : Result Vector → Type 0 where
    all_good : (u x : Vector) → x ≡ v ++ u → text_of ls ≡ v_text q.n u → Good x → Outcome place v ls (done x)
    some_bad : (u x : Vector) (line : Line) (later : List Line) (at : ℕ) → x ≡ v ++ u → text_of ls ≡ v_text q.n u ++ text_of (line ∷ later)
        → Good x → Clean (line ∷ later) → at ≡ place + length u
        → ((k : ℕ) → v_lines lim q k x (line ∷ later) ≡ refused 23 k []) → Outcome place v ls (refused 23 at [])

  module _ (line : Line) (later : List Line) (c : Clean (line ∷ later)) (place : ℕ) (v : Vector) (h : Good v) where
    here : ((k : ℕ) → v_lines lim q k v (line ∷ later) ≡ refused 23 k []) → Outcome place v (line ∷ later) (refused 23 place [])
    here b = some_bad [] v line later place (sym (append-nil v)) refl h c (omega arith) b

    module _ (vs : List ℕ) (e : shaped lim.field letter_V (2 + q.n) line ≡ some vs) (s : Shape lim.field letter_V (2 + q.n) line vs) where
      abbrev t : Term
      t = term_of q.n (0 ∷ vs)

      numbers_are : 0 ∷ vs ≡ 0 ∷ term_fields q.n t → vs ≡ term_fields q.n t
      numbers_are z = ap (λ (l : List ℕ). rest l) z

      front : text_of (line ∷ later) ≡ printed letter_V (term_fields q.n t) ++ text_of later
      front =
          ap (λ l. text_of (l ∷ later)) s.text ∙ text_printed letter_V vs later
          ∙ ap (λ z. printed letter_V z ++ text_of later) (numbers_are (t_numbers q.n (0 ∷ vs) (omega (arith, s.counted))))

      further : {x : Result Vector} → Outcome (suc place) (v ++ t ∷ []) later x → Outcome place v (line ∷ later) x
      further (all_good u x a b g) =
          all_good (t ∷ u) x (a ∙ append_assoc v (t ∷ []) u) (front ∙ ap (λ z. printed letter_V (term_fields q.n t) ++ z) b) g
      further (some_bad u x l ls at a b g d n k) =
          some_bad (t ∷ u) x l ls at (a ∙ append_assoc v (t ∷ []) u)
          (front ∙ ap (λ z. printed letter_V (term_fields q.n t) ++ z) b
          ∙ sym (append_assoc (printed letter_V (term_fields q.n t)) (v_text q.n u) (text_of (l ∷ ls)))) g d (omega (arith, n)) k

      tested : (b : Bool) → v_term? lim q v t ≡ b → ((place : ℕ) (v : Vector) → Good v → Outcome place v later (v_lines lim q place v later))
          → Outcome place v (line ∷ later) ((unless_refused b 23 place >>= λ u. done (v ++ t ∷ [])) >>= λ x. v_lines lim q (suc place) x later)
      tested false f ih =
          here (λ k. ap (λ o. v_line lim q k v o >>= λ x. v_lines lim q (suc k) x later) e
          ∙ ap (λ b. (unless_refused b 23 k >>= λ u. done (v ++ t ∷ [])) >>= λ x. v_lines lim q (suc k) x later) f)
      tested true f ih = further (ih (suc place) (v ++ t ∷ []) (one_more lim q few v h vs s.counted (subst T (sym f) tt)))

    by_shape : (o : Option (List ℕ)) → shaped lim.field letter_V (2 + q.n) line ≡ o → IfSome (Shape lim.field letter_V (2 + q.n) line) o
        → ((place : ℕ) (v : Vector) → Good v → Outcome place v later (v_lines lim q place v later))
        → Outcome place v (line ∷ later) (v_line lim q place v o >>= λ x. v_lines lim q (suc place) x later)
    by_shape none e s ih = here (λ k. ap (λ o. v_line lim q k v o >>= λ x. v_lines lim q (suc k) x later) e)
    by_shape (some vs) e s ih = tested vs e s (v_term? lim q v (term_of q.n (0 ∷ vs))) refl ih

  outcome : (ls : List Line) → Clean ls → (place : ℕ) (v : Vector) → Good v → Outcome place v ls (v_lines lim q place v ls)
  outcome [] c place v h = all_good [] v (sym (append-nil v)) refl h
  outcome (line ∷ later) c place v h =
      by_shape line later c place v h (shaped lim.field letter_V (2 + q.n) line) refl (shaped_only lim.field letter_V (2 + q.n) line)
      (outcome later c.1.1)

  -- ## Exactly

  module _ (first : ℕ) (rest : Bytes) where
    none_yet : Good []
    none_yet = record { sound = tt; descends = tt; short = omega arith }

    came : Outcome first [] (lines rest) (v_lines lim q first [] (lines rest))
    came = outcome (lines rest) (lines_clean rest) first [] none_yet

    reads : (v : Vector) → {x : Result Vector} → Outcome first [] (lines rest) x → x ≡ done v → (rest ≡ v_text q.n v) × Bringable lim q v
    reads v (all_good u x a b g) e =
        let z : x ≡ v = done_is e in
        (sym (lines_text rest) ∙ b ∙ ap (v_text q.n) (sym a ∙ z), good_shows v (subst Good z g))
    reads v (some_bad u x l ls at a b g d n k) e = absurd (refused_not e)

    is_read : (v : Vector) → (rest ≡ v_text q.n v) × Bringable lim q v → v_lines lim q first [] (lines rest) ≡ done v
    is_read v (e, h) =
        ap (λ z. v_lines lim q first [] (lines z)) (e ∙ sym (append-nil (v_text q.n v))) ∙ good_steps v [] first [] (good_says v h)

    -- a line of a term that may follow is not refused
    not_bad : (good : Vector) (line : Line) (later : List Line) → Clean (line ∷ later)
        → ((k : ℕ) → v_lines lim q k good (line ∷ later) ≡ refused 23 k []) → (t : Term) (behind : Bytes) → Bringable lim q (good ++ t ∷ [])
        → ¬ (text_of (line ∷ later) ≡ printed letter_V (term_fields q.n t) ++ behind)
    not_bad good line later c b t behind h e =
        never (lines_brought lim q few 1 (good ++ t ∷ []) (good_says (good ++ t ∷ []) h) (lines behind))
        (sym (first_line 0 good t (good_says (good ++ t ∷ []) h) behind) ∙ sym (ap (λ z. v_lines lim q 0 good (lines z)) e)
        ∙ ap (v_lines lim q 0 good) (text_lines (line ∷ later) c) ∙ b 0)
      where
        never : {count : ℕ} {x : Result Vector} → Lines lim q few 1 count x → x ≡ refused 23 0 [] → ⊥
        never (brings g) z = done_not z
        never (bad {at = i} l k) z = let y : i ≡ 0 = place_is z in omega arith

    refuses : (place : ℕ) → {x : Result Vector} → Outcome first [] (lines rest) x → x ≡ refused 23 place [] → FirstBad lim q first rest place
    refuses place (all_good u x a b g) e = absurd (done_not e)
    refuses place (some_bad u x l ls at a b g d n k) e = record {
      good = x;
      later = text_of (l ∷ ls);
      whole = sym (lines_text rest) ∙ b ∙ ap (λ z. v_text q.n z ++ text_of (l ∷ ls)) (sym a);
      brings = good_shows x g;
      some_line = filled l ls d;
      numbered = sym (place_is e) ∙ n ∙ ap (λ z. first + length z) (sym a);
      bad = not_bad x l ls d k;
    }

    is_refused : (place : ℕ) → FirstBad lim q first rest place → v_lines lim q first [] (lines rest) ≡ refused 23 place []
    is_refused place f =
        let g = good_says f.good f.brings in
        ap (λ z. v_lines lim q first [] (lines z)) f.whole ∙ good_steps f.good [] first f.later g
        ∙ go (outcome (lines f.later) (lines_clean f.later) (first + length f.good) f.good g) ∙ ap (λ k. refused 23 k []) (sym f.numbered)
      where
        -- no term may follow
        no_more : (t : Term) (u : Vector) (behind : Bytes) → Good (f.good ++ t ∷ u) → f.later ≡ printed letter_V (term_fields q.n t) ++ behind → ⊥
        no_more t u behind h e =
            f.bad t behind (good_shows (f.good ++ t ∷ []) (good_front (f.good ++ t ∷ []) u (subst Good (sym (append_assoc f.good (t ∷ []) u)) h))) e

        go : {x : Result Vector} → Outcome (first + length f.good) f.good (lines f.later) x → x ≡ refused 23 (first + length f.good) []
        go (all_good [] x a b g) =
            let z : f.later ≡ [] = sym (lines_text f.later) ∙ b in
            let l : length f.later ≡ 0 = ap length z in
            absurd (omega (arith, f.some_line, l))
        go (all_good (t ∷ u) x a b g) = absurd (no_more t u (v_text q.n u) (subst Good a g) (sym (lines_text f.later) ∙ b))
        go (some_bad [] x l ls at a b g d n k) = ap (λ i. refused 23 i []) (omega (arith, n))
        go (some_bad (t ∷ u) x l ls at a b g d n k) =
            absurd (no_more t u (v_text q.n u ++ text_of (l ∷ ls)) (subst Good a g) (sym (lines_text f.later) ∙ b
            ∙ append_assoc (printed letter_V (term_fields q.n t)) (v_text q.n u) (text_of (l ∷ ls))))

    others : (number place : ℕ) (value : Vector) → {x : Result Vector} → Outcome first [] (lines rest) x → x ≡ refused number place value
        → (number ≡ 23) × (value ≡ [])
    others number place value (all_good u x a b g) e = absurd (done_not e)
    others number place value (some_bad u x l ls at a b g d n k) e = (sym (number_is e), sym (value_is e))

    pub v_lines_right : VLinesRight lim q first rest
    v_lines_right = record {
      taken = λ v. (λ e. reads v came e, is_read v);
      twenty_three = λ place. (λ e. refuses place came e, is_refused place);
      no_other = λ number place value e. others number place value came e;
    }
