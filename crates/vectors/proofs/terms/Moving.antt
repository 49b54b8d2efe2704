-- Words moved down, moved up, or cleared, one a turn.
use mathlib.Core.Path.{◌≡◌, refl, sym, ap, ◌∙◌}
use mathlib.Core.Logic.{◌⊎◌, inl, inr}
use mathlib.Core.List.{List, [], ◌∷◌, ◌++◌, append_assoc, append-nil}
use Prim.Native.Nat.{ℕ, suc, ◌+◌, ◌-◌, ◌<◌, ◌≤◌}
use native.Mathlib.Omega.{arith}
use native.Mathlib.Numerals.{add-one}
use lib.ListN.{length, take, drop, get_or, set, replicate, length-drop, length-replicate, get_or-replicate, get_or-append, drop_of_length-le}
use lib.Seq.{paste, paste-zero, paste-suc, length-paste, length_paste_head, take-suc, drop-cons, set_at, get_or-append-add, get_or-take, get_or-drop, length-take-le}
use lib.Seq.{take_all}
use Rattle.definitions.specs.Layout.{Words}
use Rattle.definitions.specs.Places.{row_length}
use Rattle.vectors.specs.terms.Rows.{closed, opened, cleared}

-- ## What stands where in a list into which another was pasted

module _ {A : Type 0} where
  pub getD_paste_in : (d : List A) (at : ℕ) (s : List A) (n j : ℕ) (z : A) → at + n ≤ length d → n ≤ length s → j < n → get_or (paste d at s n) (at + j) z
      ≡ get_or s j z
  getD_paste_in d at s n j z h k l =
      let p : length (take at d) ≡ at = length-take-le at d (omega arith) in
      let q : length (take at d ++ take n s) ≡ at + n = length_paste_head d at s n (omega arith) k in
      get_or-append (take at d ++ take n s) (drop (at + n) d) z (at + j) (omega arith)
      ∙ ap (λ i. get_or (take at d ++ take n s) (i + j) z) (sym p) ∙ get_or-append-add (take at d) (take n s) j z ∙ get_or-take n s j z l

  pub getD_paste_below : (d : List A) (at : ℕ) (s : List A) (n j : ℕ) (z : A) → at ≤ length d → j < at → get_or (paste d at s n) j z ≡ get_or d j z
  getD_paste_below d at s n j z h l =
      let p : length (take at d) ≡ at = length-take-le at d h in
      ap (λ x. get_or x j z) (append_assoc (take at d) (take n s) (drop (at + n) d))
      ∙ get_or-append (take at d) (take n s ++ drop (at + n) d) z j (omega arith) ∙ get_or-take at d j z l

  pub getD_paste_above : (d : List A) (at : ℕ) (s : List A) (n j : ℕ) (z : A) → at + n ≤ length d → n ≤ length s → at + n ≤ j
      → get_or (paste d at s n) j z ≡ get_or d j z
  getD_paste_above d at s n j z h k l =
      let q : length (take at d ++ take n s) ≡ at + n = length_paste_head d at s n (omega arith) k in
      let e : j ≡ length (take at d ++ take n s) + (j - (at + n)) = omega arith in
      let f : at + n + (j - (at + n)) ≡ j = omega arith in
      ap (λ i. get_or (paste d at s n) i z) e ∙ get_or-append-add (take at d ++ take n s) (drop (at + n) d) (j - (at + n)) z
      ∙ get_or-drop (at + n) d (j - (at + n)) z ∙ ap (λ i. get_or d i z) f

-- ## Moved down by ten

pub length_closed : (s : Words) (a end : ℕ) → a ≤ end → end + row_length ≤ length s → length (closed s a end) ≡ length s
length_closed s a end h k = length-paste s a (drop (a + row_length) s) (end - a) (omega arith) (omega (arith, length-drop (a + row_length) s))

-- the word to move has not been overwritten
pub closed_ahead : (s : Words) (a k : ℕ) → a ≤ k → k + row_length < length s → get_or (closed s a k) (k + row_length) 0 ≡ get_or s (k + row_length) 0
closed_ahead s a k h l = getD_paste_above s a (drop (a + row_length) s) (k - a) (k + row_length) 0 (omega arith)
    (omega (arith, length-drop (a + row_length) s)) (omega arith)

pub closed_more : (s : Words) (a k : ℕ) → a ≤ k → k + row_length < length s → set (closed s a k) k (get_or s (k + row_length) 0) ≡ closed s a (k + 1)
closed_more s a k h l =
    let e : a + (k - a) ≡ k = omega arith in
    let f : suc (k - a) ≡ k + 1 - a = omega arith in
    let g : a + row_length + (k - a) ≡ k + row_length = omega arith in
    (λ i. set (closed s a k) (sym e i) (get_or s (sym g i) 0))
    ∙ ap (set (closed s a k) (a + (k - a))) (sym (get_or-drop (a + row_length) s (k - a) 0))
    ∙ paste-suc s a (drop (a + row_length) s) (k - a) 0 (omega arith) (omega (arith, length-drop (a + row_length) s))
    ∙ ap (paste s a (drop (a + row_length) s)) f

-- ## Moved up by ten

pub length_opened : (s : Words) (a end : ℕ) → a ≤ end → end + row_length ≤ length s → length (opened s a end) ≡ length s
length_opened s a end h k = length-paste s (a + row_length) (drop a s) (end - a) (omega arith) (omega (arith, length-drop a s))

-- the word to move has not been overwritten
pub opened_below : (s : Words) (a end m : ℕ) → a ≤ end → end + row_length ≤ length s → m < a + row_length → get_or (opened s a end) m 0 ≡ get_or s m 0
opened_below s a end m h k l = getD_paste_below s (a + row_length) (drop a s) (end - a) m 0 (omega arith) l

pub opened_more : (s : Words) (m end : ℕ) → m < end → end + row_length ≤ length s → set (opened s (m + 1) end) (m + row_length) (get_or s m 0)
    ≡ opened s m end
opened_more s m end h k =
    let e₁ : m + 1 + row_length ≡ suc (m + row_length) = omega arith in
    let e₂ : end - m ≡ suc (end - (m + 1)) = omega arith in
    let e₃ : m + row_length + (end - m) ≡ m + 1 + row_length + (end - (m + 1)) = omega arith in
    let l₁ : m + row_length < length s = omega arith in
    let l₂ : m < length s = omega arith in
    let p : Words = take (m + row_length) s in
    let q : Words = take (end - (m + 1)) (drop (m + 1) s) in
    let z : Words = drop (m + 1 + row_length + (end - (m + 1))) s in
    let lp : length p ≡ m + row_length = length-take-le (m + row_length) s (omega arith) in
    let a : take (m + 1 + row_length) s ≡ p ++ (get_or s (m + row_length) 0 ∷ []) = rw e₁ (take-suc s (m + row_length) 0 l₁) in
    let b : take (end - m) (drop m s) ≡ get_or s m 0 ∷ q = rw (e₂, drop-cons s m 0 l₂, add-one) in
    let x : opened s (m + 1) end ≡ p ++ get_or s (m + row_length) 0 ∷ (q ++ z) = simp (a, append_assoc) in
    let y : opened s m end ≡ p ++ get_or s m 0 ∷ (q ++ z) = simp (b, e₃, append_assoc) in
    ap (λ u. set u (m + row_length) (get_or s m 0)) x ∙ set_at p (get_or s (m + row_length) 0) (q ++ z) (get_or s m 0) (m + row_length) lp ∙ sym y

-- ## Cleared

-- the words from a to k are zero
abbrev pub cleared_to : Words → ℕ → ℕ → Words
cleared_to s a k = paste s a (replicate (length s) 0) (k - a)

pub cleared_none : (s : Words) (a : ℕ) → s ≡ cleared_to s a a
cleared_none s a = let z : a - a ≡ 0 = omega arith in rw z (paste-zero s a (replicate (length s) 0))

pub cleared_more : (s : Words) (a k : ℕ) → a ≤ k → k < length s → set (cleared_to s a k) k 0 ≡ cleared_to s a (k + 1)
cleared_more s a k h l =
    let e : a + (k - a) ≡ k = omega arith in
    let f : suc (k - a) ≡ k + 1 - a = omega arith in
    let m : k - a < length (replicate {A = ℕ} (length s) 0) = omega (arith, length-replicate {A = ℕ} (length s) 0) in
    (λ i. set (cleared_to s a k) (sym e i) (sym (get_or-replicate (length s) (k - a) 0 0 (omega arith)) i))
    ∙ paste-suc s a (replicate (length s) 0) (k - a) 0 (omega arith) m
    ∙ ap (paste s a (replicate (length s) 0)) f

pub length_cleared : (s : Words) (a k : ℕ) → a ≤ k → k ≤ length s → length (cleared_to s a k) ≡ length s
length_cleared s a k h l = length-paste s a (replicate (length s) 0) (k - a) (omega arith) (omega (arith, length-replicate {A = ℕ} (length s) 0))

take_replicate : (n m : ℕ) → n ≤ m → take n (replicate {A = ℕ} m 0) ≡ replicate n 0
take_replicate n m h = go n m h
  where
    go : (n m : ℕ) → n ≤ m → take n (replicate {A = ℕ} m 0) ≡ replicate n 0
    go ℕ.zero m h = refl
    go (suc n) ℕ.zero h = absurd (omega arith)
    go (suc n) (suc m) h = ap (λ l. 0 ∷ l) (go n m (omega arith))

pub cleared_all : (s : Words) (a k : ℕ) → a ≤ k → length s ≤ k → k ≤ length s → cleared_to s a k ≡ cleared s a
cleared_all s a k h l m =
    let e : k - a ≡ length s - a = omega arith in
    let f : length s ≤ a + (length s - a) = omega arith in
    ap (paste s a (replicate (length s) 0)) e
    ∙ (λ i. take a s ++ take_replicate (length s - a) (length s) (omega arith) i ++ drop_of_length-le s f i)
    ∙ append-nil (take a s ++ replicate (length s - a) 0)

-- nothing to clear
pub cleared_past : (s : Words) (a : ℕ) → length s ≤ a → s ≡ cleared s a
cleared_past s a h =
    let e : length s - a ≡ 0 = omega arith in
    sym ((λ i. take_all a s h i ++ replicate (e i) 0) ∙ append-nil s)

pub cleared_end : (s : Words) (a k : ℕ) → a ≤ k → length s ≤ k → (k ≡ a) ⊎ (k ≤ length s) → cleared_to s a k ≡ cleared s a
cleared_end s a k h l (inl e) = ap (cleared_to s a) e ∙ sym (cleared_none s a) ∙ cleared_past s a (omega arith)
cleared_end s a k h l (inr m) = cleared_all s a k h l m
