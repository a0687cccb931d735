-- What a page of cells holds: unchanged cells, a number's constraint, and one constraint more. Assumes nothing.
use Rattle.std.proofs.Common.{◌≡◌, ℕ, ◌+◌, ◌-◌, ◌*◌, ◌<◌, ◌≤◌, min, true, ◌≢◌, List, [], ◌∷◌, ◌++◌, length, get_or, take, drop, set, sym, ap, ◌∙◌, subst, arith, below_more}
use Rattle.std.proofs.lemmas.List.FromFn.{map-range_with_len_more}
use Rattle.std.proofs.lemmas.List.{length-take, length-drop, get_or-take, get_or-drop, get_or-set_same, get_or-set_other, length-set, ext_get_or}
use Rattle.qbf.specs.Qbf.{formed}
use Rattle.database.specs.Meaning.{added}
use Rattle.database.proofs.Counted.{counted_same}
use Rattle.list_database.specs.Page.{start, size, held, listed, Lies, WellFormed, Wrote, Stored, page_meaning}

-- a part among cells that are the same is the same
window : (xs ys : List ℕ) (s l u : ℕ) → length ys ≡ length xs → ((i : ℕ) → i < u → get_or ys i 0 ≡ get_or xs i 0) → s + l ≤ u
    → take l (drop s ys) ≡ take l (drop s xs)
window xs ys s l u e same h =
    ext_get_or 0 (take l (drop s ys)) (take l (drop s xs))
    (simp (length-take, length-drop) (ap (λ (n : ℕ). min l (n - s)) e))
    (λ i p.
    let q : i < min l (length ys - s) = simp (length-take, length-drop) at p in
    let r : i < l = omega arith in
    let v : s + i < u = omega arith in
    simp (get_or-take, get_or-drop) (same (s + i) v))

-- cells that are the same at the front and at the back hold the same constraints
module _ (xs ys : List ℕ) (t u n : ℕ) (long : length ys ≡ length xs) (fronts : (i : ℕ) → i < u → get_or ys i 0 ≡ get_or xs i 0)
    (backs : (i : ℕ) → t - 2 * n ≤ i → i < t → get_or ys i 0 ≡ get_or xs i 0) (fit : u + 2 * n ≤ t) where
  start_same : (k : ℕ) → k < n → start ys t k ≡ start xs t k
  start_same k h = backs (t - 2 * k - 2) (omega arith) (omega arith)

  size_same : (k : ℕ) → k < n → size ys t k ≡ size xs t k
  size_same k h = backs (t - 2 * k - 1) (omega arith) (omega arith)

  pub held_same : (k : ℕ) → k < n → start xs t k + size xs t k ≤ u → held ys t k ≡ held xs t k
  held_same k h p =
      let a = start_same k h in
      let b = size_same k h in
      let w : take (size xs t k) (drop (start xs t k) ys) ≡ held xs t k = window xs ys (start xs t k) (size xs t k) u long fronts p in
      (let f : held ys t k ≡ take (size xs t k) (drop (start xs t k) ys) = rw (a, b) in f ∙ w)

  pub lies_same : Lies xs t u n → Lies ys t u n
  lies_same l k h = let a = start_same k h in let b = size_same k h in omega (arith, l k h)

  pub formed_same : Lies xs t u n → WellFormed xs t n → WellFormed ys t n
  formed_same l f k h = subst (λ (C : List ℕ). formed C ≡ true) (sym (held_same k h (l k h))) (f k h)

-- the cells that say where the constraint k starts and how long it is
pub slot_size : (xs : List ℕ) (t k : ℕ) → 2 * k + 2 ≤ t → get_or xs (t - 2 * k - 2 + 1) 0 ≡ size xs t k
slot_size xs t k h = let e : t - 2 * k - 2 + 1 ≡ t - 2 * k - 1 = omega arith in ap (λ (i : ℕ). get_or xs i 0) e

-- one code more is written
pub wrote_more : (xs ys : List ℕ) (u : ℕ) (C : List ℕ) (i v : ℕ) → Wrote xs ys u C i → u + i < length xs → v ≡ get_or C i 0
    → Wrote xs (set ys (u + i) v) u C (i + 1)
wrote_more xs ys u C i v w h e =
    record {
      codes = below_more _ _
          (λ k p. let ne : u + k ≢ u + i = omega arith in get_or-set_other ys (u + i) (u + k) v 0 ne ∙ w.codes k p)
          (get_or-set_same ys (u + i) v 0 (omega (arith, w.long)) ∙ e);
      front = λ k p. let ne : k ≢ u + i = omega arith in get_or-set_other ys (u + i) k v 0 ne ∙ w.front k p;
      back = λ k p. let ne : k ≢ u + i = omega arith in get_or-set_other ys (u + i) k v 0 ne ∙ w.back k (omega arith);
      long = length-set ys (u + i) v ∙ w.long;
    }

-- what the cells mean with one constraint more
module _ (xs ys : List ℕ) (t u n : ℕ) (C : List ℕ) (s : Stored xs ys t u n C) (whole : t ≤ length xs) (fit : u + 2 * n + length C + 2 ≤ t) where
  backs : (k : ℕ) → t - 2 * n ≤ k → k < t → get_or ys k 0 ≡ get_or xs k 0
  backs k h p = s.others k (omega arith) (omega arith) (omega arith)

  held_new : held ys t n ≡ C
  held_new =
      let a : held ys t n ≡ take (length C) (drop u ys) = rw (s.starts, s.sizes) in
      let l : length (take (length C) (drop u ys)) ≡ length C = simp (length-take, length-drop) (omega (arith, s.long)) in
      a ∙ ext_get_or 0 (take (length C) (drop u ys)) C l
      (λ i h. let r : i < length C = omega arith in simp (get_or-take, get_or-drop) (s.codes i r))

  pub lies_new : Lies xs t u n → Lies ys t (u + length C) (n + 1)
  lies_new f = below_more _ _ (λ k h. omega (arith, lies_same xs ys t u n s.long s.front backs (omega arith) f k h)) (omega (arith, s.starts, s.sizes))

  pub formed_new : Lies xs t u n → WellFormed xs t n → formed C ≡ true → WellFormed ys t (n + 1)
  formed_new l f g =
      below_more _ _ (formed_same xs ys t u n s.long s.front backs (omega arith) l f)
      (subst (λ (D : List ℕ). formed D ≡ true) (sym held_new) g)

  pub meaning_added : Lies xs t u n → page_meaning ys t (u + length C) (n + 1) ≡ added (page_meaning xs t u n) C
  meaning_added l =
      let e : listed ys t n ≡ listed xs t n = counted_same (held ys t) (held xs t) n (λ k h. held_same xs ys t u n s.long s.front backs (omega arith) k h (l k h)) in
      let f = held_new in
      let m : listed ys t (n + 1) ≡ listed ys t n ++ held ys t n ∷ [] = map-range_with_len_more (held ys t) 0 n n (omega arith) in
      let g : listed ys t (n + 1) ≡ listed xs t n ++ C ∷ [] = cc in
      let d : t - (u + length C) - 2 * (n + 1) ≡ t - u - 2 * n - (length C + 2) = omega arith in
      cc
