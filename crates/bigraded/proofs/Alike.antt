-- Files alike but for a G line, both of which are read, say the same: every other program and call answers the same.
use mathlib.Core.Path.{◌≡◌, refl, sym, ap, ◌∙◌}
use mathlib.Core.Bool.{Bool, true, false, not}
use mathlib.Core.Option.{Option, none, some}
use mathlib.Core.List.{List, [], ◌∷◌, ◌++◌, append_assoc}
use Prim.Native.Nat.{ℕ, ◌≤◌}
use native.Mathlib.Omega.{arith}
use lib.Dec.{T}
use lib.ListN.{length, length-append}
use Rattle.definitions.specs.Limits.{Limits}
use Rattle.definitions.specs.Lists.{◌then◌, choose}
use Rattle.definitions.specs.Monomial.{Level}
use Rattle.definitions.specs.Result.{done, ◌>>=◌}
use Rattle.definitions.specs.Problem.{Bytes, Line, Parameters, letter_R, letter_D, letter_G, letter_T, lines, problem}
use Rattle.definitions.specs.State.{State}
use Rattle.definitions.specs.Calls.{Call, refuse, settled, accepted, read, call, calls}
use Rattle.definitions.specs.Sheet.{printed, term_fields, variables_of, sheet_of, sheet}
use Rattle.definitions.specs.Layout.{Words, meant, division, long_enough?, Read, read_left, read_call, Lent, Left, lent_call, lent_calls}
use Rattle.definitions.specs.Program.{printed_or_refused}
use Rattle.definitions.specs.Betti.{betti_of, betti}
use Rattle.definitions.specs.Written.{element_lines, end_line}
use Rattle.files.specs.Files.{Given, elements_lines, first_line_of, degrees_line, weights_line, given_lines, file_of, WellFormed}
use Rattle.files.specs.Files.{WellFormedFile}
use Rattle.files.proofs.Lines.{listed, lines_printed, text_of, lines_text}
use Rattle.files.proofs.Heads.{r_numbers}
use Rattle.demands.specs.Demands.{sensible?}
use Rattle.demands.proofs.Reader.{files}
use Rattle.degrees.specs.Notions.{AllAlike, no_more, one_more}
use Rattle.bigraded.specs.Notions.{behind_R, behind_G, without_G, AlikeFiles, BothRead, AlikeCalls, same_call, read_alike, AlikeLent}
use Rattle.bigraded.specs.Notions.{same_lent, read_lent}

-- ## The lines without G

-- the lines but for G
abbrev without_line : Given → Given
without_line given = record { degrees = given.degrees; weights = none }

well_without : (lim : Limits) (given : Given) (q : Parameters) (f : Level) → WellFormed lim given q f → WellFormed lim (without_line given) q f
well_without lim given q f h = record {
  parameters = h.parameters;
  degrees = h.degrees;
  weights = tt;
  some_element = h.some_element;
  few = h.few;
  short = h.short;
  elements = h.elements;
}

-- the T lines and E
abbrev terms_of_file : Parameters → Level → Bytes
terms_of_file q f = elements_lines q.n 1 f ++ end_line f

first_of : Parameters → Line
first_of q = (letter_R ∷ listed (r_numbers q), true)

lines_first : (given : Given) (q : Parameters) (f : Level)
    → lines (file_of given q f) ≡ first_of q ∷ lines (degrees_line given.degrees q ++ (weights_line given.weights ++ terms_of_file q f))
unfolding first_of
lines_first given q f =
    ap (λ z. lines (first_line_of q ++ z)) (append_assoc (degrees_line given.degrees q) (weights_line given.weights) (terms_of_file q f))
    ∙ lines_printed letter_R (λ e. omega (arith, e)) (r_numbers q) (degrees_line given.degrees q ++ (weights_line given.weights ++ terms_of_file q f))

-- the first T line, and what follows it
pub record TermFirst (ls : List Line) : Type 0 where
  pub text : Bytes
  pub rest : List Line
  pub is : ls ≡ (letter_T ∷ text, true) ∷ rest

term_first : (lim : Limits) (given : Given) (q : Parameters) (f : Level) → WellFormed lim given q f → TermFirst (lines (terms_of_file q f))
term_first lim given q [] h = absurd (let l = h.some_element in omega (arith, l))
term_first lim given q ([] ∷ f) h = absurd (let l = h.elements.0.filled in omega (arith, l))
term_first lim given q ((t ∷ v) ∷ f) h =
    let line = printed letter_T (1 ∷ term_fields q.n t) in
    let others = element_lines q.n 1 v in
    let more = elements_lines q.n 2 f in
    let end = end_line ((t ∷ v) ∷ f) in
    let e : ((line ++ others) ++ more) ++ end ≡ line ++ (others ++ (more ++ end)) =
    append_assoc (line ++ others) more end ∙ append_assoc line others (more ++ end) in
    record {
      text = listed (1 ∷ term_fields q.n t);
      rest = lines (others ++ (more ++ end));
      is = ap lines e ∙ lines_printed letter_T (λ x. omega (arith, x)) (1 ∷ term_fields q.n t) (others ++ (more ++ end));
    }

-- G goes, a T line stays
weights_go : (weights : Option (List ℕ)) (q : Parameters) (f : Level) → TermFirst (lines (terms_of_file q f))
    → behind_G (lines (weights_line weights ++ terms_of_file q f)) ≡ lines (terms_of_file q f)
weights_go none q f t = ap behind_G t.is ∙ sym t.is
weights_go (some v) q f t = ap behind_G (lines_printed letter_G (λ e. omega (arith, e)) v (terms_of_file q f))

-- neither is D
not_degrees : (weights : Option (List ℕ)) (q : Parameters) (f : Level) → TermFirst (lines (terms_of_file q f))
    → behind_R (lines (weights_line weights ++ terms_of_file q f)) ≡ behind_G (lines (weights_line weights ++ terms_of_file q f))
not_degrees none q f t = ap behind_R t.is ∙ sym (ap behind_G t.is)
not_degrees (some v) q f t =
    let l = lines_printed letter_G (λ e. omega (arith, e)) v (terms_of_file q f) in
    ap behind_R l ∙ sym (ap behind_G l)

-- D stays
behind : (degrees : Bool) (weights : Option (List ℕ)) (q : Parameters) (f : Level) → TermFirst (lines (terms_of_file q f))
    → behind_R (lines (degrees_line degrees q ++ (weights_line weights ++ terms_of_file q f))) ≡ lines (degrees_line degrees q ++ terms_of_file q f)
behind false weights q f t = not_degrees weights q f t ∙ weights_go weights q f t
behind true weights q f t =
    ap behind_R (lines_printed letter_D (λ e. omega (arith, e)) q.degrees (weights_line weights ++ terms_of_file q f))
    ∙ ap (λ l. (letter_D ∷ listed q.degrees, true) ∷ l) (weights_go weights q f t)
    ∙ sym (lines_printed letter_D (λ e. omega (arith, e)) q.degrees (terms_of_file q f))

without_is : (lim : Limits) (given : Given) (q : Parameters) (f : Level) → WellFormed lim given q f
    → without_G (lines (file_of given q f)) ≡ lines (file_of (without_line given) q f)
unfolding first_of
without_is lim given q f h =
    ap without_G (lines_first given q f)
    ∙ ap (λ l. first_of q ∷ l) (behind given.degrees given.weights q f (term_first lim given q f h))
    ∙ sym (lines_first (without_line given) q f)

module _ (lim : Limits) (o : T (sensible? lim)) where
  pub basis : (bytes bytes' : Bytes) → AlikeFiles bytes bytes' → BothRead lim bytes bytes' → problem lim bytes ≡ problem lim bytes'
  basis bytes bytes' a r =
      let q = r.parameters in
      let f = r.elements in
      let q' = r.parameters' in
      let f' = r.elements' in
      let w = r.well in
      let w' = r.well' in
      let g = without_line w.given in
      let g' = without_line w'.given in
      let text : file_of g q f ≡ file_of g' q' f' =
      sym (lines_text (file_of g q f))
      ∙ ap text_of (sym (without_is lim w.given q f w.well) ∙ ap (λ b. without_G (lines b)) (sym w.text) ∙ a
      ∙ ap (λ b. without_G (lines b)) w'.text ∙ without_is lim w'.given q' f' w'.well)
      ∙ lines_text (file_of g' q' f') in
      (files lim o).taken bytes q f w
      ∙ ap done ((files lim o).once g g' q q' f f' (well_without lim w.given q f w.well) (well_without lim w'.given q' f' w'.well) text).0
      ∙ sym ((files lim o).taken bytes' q' f' w')

  pub left_out : (bytes bytes' : Bytes) (q : Parameters) (f : Level) → WellFormedFile lim bytes q f → lines bytes' ≡ without_G (lines bytes)
      → problem lim bytes' ≡ done (q, f)
  left_out bytes bytes' q f w e =
      let g = without_line w.given in
      let text : bytes' ≡ file_of g q f =
      sym (lines_text bytes') ∙ ap text_of (e ∙ ap (λ b. without_G (lines b)) w.text ∙ without_is lim w.given q f w.well)
      ∙ lines_text (file_of g q f) in
      let long : length (file_of g q f) ≤ length (file_of w.given q f) = shorter w.given q f in
      (files lim o).taken bytes' q f (record {
        given = g;
        text = text;
        well = well_without lim w.given q f w.well;
        fits = let a = ap length text in let b = ap length w.text in let c = w.fits in omega (arith, a, b, c, long);
      })
    where
      shorter : (given : Given) (q : Parameters) (f : Level) → length (file_of (without_line given) q f) ≤ length (file_of given q f)
      shorter given q f =
          let r = first_line_of q in
          let d = degrees_line given.degrees q in
          let t = terms_of_file q f in
          let a₁ = length-append r (given_lines given q ++ t) in
          let a₂ = length-append (given_lines given q) t in
          let a₃ = length-append d (weights_line given.weights) in
          let b₁ = length-append r (given_lines (without_line given) q ++ t) in
          let b₂ = length-append (given_lines (without_line given) q) t in
          let b₃ = length-append d [] in
          omega (arith, a₁, a₂, a₃, b₁, b₂, b₃)

  -- ## What takes parameters and elements alone

  module _ (n : ℕ) (bytes bytes' : Bytes) (a : AlikeFiles bytes bytes') (r : BothRead lim bytes bytes') where
    pub reading_same : read lim n bytes ≡ read lim n bytes'
    reading_same = ap (λ x. x >>= accepted lim n) (basis bytes bytes' a r)

    pub sheets : sheet lim n bytes ≡ sheet lim n bytes'
    sheets = ap (λ x. sheet_of lim n (variables_of x) (x >>= accepted lim n)) (basis bytes bytes' a r)

    pub pages : betti lim n bytes ≡ betti lim n bytes'
    pages = ap (λ x. printed_or_refused (variables_of x) ((x >>= accepted lim n) >>= betti_of lim n)) (basis bytes bytes' a r)

  call_same : (n : ℕ) (X : State) {c c' : Call} → AlikeCalls lim c c' → call lim n X c ≡ call lim n X c'
  call_same n X same_call = refl
  call_same n X (read_alike {long} {bytes} {bytes'} a r) =
      ap (λ x. choose (not long) (some (refuse 16 X)) (settled x)) (reading_same n bytes bytes' a r)

  pub all_calls : (n : ℕ) (X : State) (cs cs' : List Call) → AllAlike (AlikeCalls lim) cs cs' → calls lim n X cs ≡ calls lim n X cs'
  all_calls n X cs cs' no_more = refl
  all_calls n X cs cs' (one_more {l = l} {m = m} h hs) =
      λ i. call_same n X h i then λ a. all_calls n a.state l m hs i then λ replies. some (a ∷ replies)

  -- what a reading leaves
  abbrev left_of : Read → Left
  left_of a = record { number = a.0; place = a.1; state = a.2; out = [] }

  lent_same : (n : ℕ) (state : Words) {c c' : Lent} → AlikeLent lim c c' → lent_call lim n state c ≡ lent_call lim n state c'
  lent_same n state same_lent = refl
  lent_same n state (read_lent {work} {bytes} {bytes'} a r) =
      let long = long_enough? lim division state work in
      let same : read_call lim n bytes state work ≡ read_call lim n bytes' state work =
      ap (λ x. choose (not long) (some (refuse 16 (meant lim state))) (settled x) then λ a. some (read_left lim state work a))
      (reading_same n bytes bytes' a r) in
      ap (λ x. x then λ a. some (left_of a)) same

  pub buffers : (n : ℕ) (state : Words) (cs cs' : List Lent) → AllAlike (AlikeLent lim) cs cs' → lent_calls lim n state cs ≡ lent_calls lim n state cs'
  buffers n state cs cs' no_more = refl
  buffers n state cs cs' (one_more {l = l} {m = m} h hs) =
      λ i. lent_same n state h i then λ a. buffers n a.state l m hs i then λ lefts. some (a ∷ lefts)
