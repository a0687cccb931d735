-- A table of rows: the words of one row, a code more in it, how many bits it has, and a row more in the table. Assumes nothing.
use Rattle.std.proofs.Common.{◌≡◌, ℕ, zero, suc, ◌+◌, ◌-◌, ◌*◌, ◌/◌, ◌%◌, ◌^◌, ◌<◌, ◌≤◌, true, List, [], ◌∷◌, ◌++◌, length, get_or, take, drop, set, Option, None, Some, option_map, Bor, sym, ap, ◌∙◌, subst, append_assoc, ⊎_elim, arith, below_more}
use Rattle.std.specs.Array.{IsFirstChunk}
use Rattle.std.specs.List.{sum_by}
use Rattle.std.specs.Option.{MatchOption}
use lib.Bits.{bit_or}
use lib.Count.{ones}
use Rattle.std.proofs.lemmas.Nat.{one_shl}
use Rattle.std.proofs.lemmas.List.FromFn.{map-range_with_len_more}
use Rattle.std.proofs.lemmas.List.Sums.{sum_by_more}
use Rattle.std.proofs.lemmas.List.{get_or-take, get_or-drop, get_or_append_left, get_or-append_right, take_all, length-take, length-take-le, length-drop, length-append}
use borrow.Rule.Slice.PartMut.{put_mid}
use Rattle.std.proofs.Math.Seq.{get_or-append_seam}
use Rattle.qbf.specs.Qbf.{variable, formed}
use Rattle.qbf.specs.Constraints.{code_at}
use Rattle.qbf.proofs.Formed.{variables_rise}
use Rattle.qbf.proofs.Places.{code_there}
use Rattle.bitset_rows.specs.Rows.{digit, bit, chosen, row, rows}
use Rattle.bitset_rows.proofs.Rows.{row_same, row_moved, row_before, row_set, row_none, row_more, row_at}
use Rattle.database.specs.Meaning.{added}
use Rattle.database.proofs.Counted.{counted_same}
use Rattle.bitset_database.specs.Table.{WellFormed, Stored, table_meaning}

-- a row by its own 16 words, the first of the words from it on, up to place n
pub first_row : (o : Option (Bor (List ℕ))) (ws : List ℕ) (k n : ℕ) → 16 * k + 16 ≤ n → n ≤ length ws
    → MatchOption o (length (take (n - 16 * k) (drop (16 * k) ws)) < 16) (λ y. IsFirstChunk (take (n - 16 * k) (drop (16 * k) ws)) y.now 16)
    → option_map (λ words. row words.now 0) o ≡ Some (row ws k)
first_row None ws k n l w h = absurd (omega (arith, length-take {A = ℕ}, length-drop {A = ℕ}))
first_row (Some y) ws k n l w h =
    ap Some
    (row_moved ws y.now k 0
    (λ i q. let z : 16 * 0 + i ≡ i = omega arith in
    let e = h.same in
    let m : i < n - 16 * k = omega arith in
    ap (λ (j : ℕ). get_or y.now j 0) z ∙ simp (e, get_or-take, get_or-drop)))

-- the row holds the codes before c: no bit from that of c on is set
clear_above : (xs C R : List ℕ) (c : ℕ) → formed C ≡ true → C ≡ row xs 0 ++ c ∷ R → (x : ℕ) → c - 2 ≤ x → x < 1024 → bit xs 0 x ≡ 0
clear_above xs C R c f e x l m =
    ⊎_elim
    (λ (z : bit xs 0 x ≡ 0). z)
    (λ (w : (j : ℕ) × (j < length (row xs 0)) × (get_or (row xs 0) j 0 ≡ x + 2)).
    let i : ℕ = length (row xs 0) in
    let n = ap length e ∙ length-append (row xs 0) (c ∷ R) in
    let a : get_or C w.0 0 ≡ get_or (row xs 0) w.0 0 = ap (λ (D : List ℕ). get_or D w.0 0) e ∙ get_or_append_left (row xs 0) (c ∷ R) 0 w.0 w.1 in
    let b : get_or C i 0 ≡ c = ap (λ (D : List ℕ). get_or D i 0) e ∙ get_or-append_seam (row xs 0) c R 0 in
    let v : variable (get_or C w.0 0) < variable (get_or C i 0) = variables_rise C f w.0 i w.1 (omega arith) in
    absurd (omega (arith, w.2)))
    (row_before xs 0 x m)

-- one more code in the row, as the code writes it
pub row_next : (xs C R : List ℕ) (c : ℕ) → formed C ≡ true → C ≡ row xs 0 ++ c ∷ R → 2 ≤ c → c ≤ 1025 → 16 ≤ length xs
    → C ≡ row (set xs ((c - 2) / 64) (bit_or (get_or xs ((c - 2) / 64) 0) ((1 * 2 ^ ((c - 2) % 64)) % 2 ^ 64))) 0 ++ R
row_next xs C R c f e lo hi room =
    let ys : List ℕ = set xs ((c - 2) / 64) (bit_or (get_or xs ((c - 2) / 64) 0) ((1 * 2 ^ ((c - 2) % 64)) % 2 ^ 64)) in
    let o : (1 * 2 ^ ((c - 2) % 64)) % 2 ^ 64 ≡ 2 ^ ((c - 2) % 64) = one_shl ((c - 2) % 64) 64 (omega arith) in
    let z : (c - 2) / 64 ≡ 16 * 0 + (c - 2) / 64 = omega arith in
    let is : ys ≡ set xs (16 * 0 + (c - 2) / 64) (bit_or (get_or xs (16 * 0 + (c - 2) / 64) 0) (2 ^ ((c - 2) % 64))) =
    ap (λ (w : ℕ). set xs ((c - 2) / 64) (bit_or (get_or xs ((c - 2) / 64) 0) w)) o
    ∙ ap (λ (i : ℕ). set xs i (bit_or (get_or xs i 0) (2 ^ ((c - 2) % 64)))) z in
    let r : row ys 0 ≡ row xs 0 ++ (c - 2 + 2) ∷ [] = row_set xs ys 0 (c - 2) (omega arith) (omega arith) is (clear_above xs C R c f e) in
    let d : c - 2 + 2 ≡ c = omega arith in
    let s : row ys 0 ≡ row xs 0 ++ c ∷ [] = r ∙ ap (λ (x : ℕ). row xs 0 ++ x ∷ []) d in
    e ∙ sym (append_assoc (row xs 0) (c ∷ []) R) ∙ ap (λ (D : List ℕ). D ++ R) (sym s)

-- the codes of the words before the word i, and of that word too
pub bits_more : (ws : List ℕ) (i : ℕ) → get_or ws i 0 < 2 ^ 64 → length (chosen (bit ws 0) (64 * (i + 1))) ≡ length (chosen (bit ws 0) (64 * i)) + ones (get_or ws i 0)
bits_more ws i h =
    let z : i ≡ 16 * 0 + i = omega arith in
    row_more ws 0 i (subst (λ (j : ℕ). get_or ws j 0 < 2 ^ 64) z h) ∙ ap (λ (j : ℕ). length (chosen (bit ws 0) (64 * i)) + ones (get_or ws j 0)) (sym z)

-- the code whose bit is that of the word i at the place p
pub code_here : (ws : List ℕ) (i p left place : ℕ) → i < 16 → p < 64 → digit (get_or ws i 0) p ≡ 1 → ones (get_or ws i 0 % 2 ^ p) + 1 ≡ left → 0 < left
    → length (chosen (bit ws 0) (64 * i)) + left ≡ place → Some (64 * i + p + 2) ≡ code_at (row ws 0) place
code_here ws i p left place hi hp one before some e =
    let z : 16 * 0 + i ≡ i = omega arith in
    let a = row_at ws 0 i p left place hi hp (ap (λ (j : ℕ). digit (get_or ws j 0) p) z ∙ one) (ap (λ (j : ℕ). ones (get_or ws j 0 % 2 ^ p) + 1) z ∙ before) e in
    sym (code_there (row ws 0) place (omega arith) a.0 ∙ ap Some a.1)

-- as many bits are set in the words of a row as it has codes
module _ (ws : List ℕ) (small : (i : ℕ) → get_or ws i 0 < 2 ^ 64) where
  ones_front : (n : ℕ) → n ≤ length ws → length (chosen (bit ws 0) (64 * n)) ≡ sum_by ones (take n ws)
  ones_front zero h = row_none ws 0
  ones_front (suc n) h =
      let e : suc n ≡ n + 1 = omega arith in
      let s = sum_by_more ones ws n 0 (omega arith) in
      rw e (bits_more ws n (small n) ∙ ap (λ (x : ℕ). x + ones (get_or ws n 0)) (ones_front n (omega arith)) ∙ sym s)

  pub ones_row : length ws ≡ 16 → sum_by ones ws ≡ length (row ws 0)
  ones_row l = let t = take_all 16 ws (omega arith) in ap (sum_by ones) (sym t) ∙ sym (ones_front 16 (omega arith))

-- the 16 words of the row n are copied from the row rs
pub stored_part : (xs ws rs : List ℕ) (n : ℕ) (C : List ℕ) → 16 * n + 16 ≤ length xs → length ws ≡ length (take (16 * n + 16 - 16 * n) (drop (16 * n) xs)) → ws ≡ rs → row rs 0 ≡ C
    → Stored xs (put_mid (16 * n) (16 * n + 16 - 16 * n) xs ws) n C
stored_part xs ws rs n C room same is e =
    let l : length ws ≡ 16 = omega (arith, same, length-take {A = ℕ}, length-drop {A = ℕ}) in
    let k : ℕ = 16 * n + 16 - 16 * n in
    let ts : List ℕ = take (16 * n) xs in
    let ps : List ℕ = drop k (drop (16 * n) xs) in
    let lt : length ts ≡ 16 * n = length-take-le (16 * n) xs (omega arith) in
    let lp : length ps ≡ length xs - 16 * n - k = length-drop k (drop (16 * n) xs) ∙ ap (λ (m : ℕ). m - k) (length-drop (16 * n) xs) in
    let inside : (i : ℕ) → i < 16 → get_or (ts ++ (ws ++ ps)) (16 * n + i) 0 ≡ get_or ws i 0 = λ i h.
    let d : 16 * n + i - 16 * n ≡ i = omega arith in
    get_or-append_right ts (ws ++ ps) (16 * n) (16 * n + i) 0 lt (omega arith) ∙ ap (λ (j : ℕ). get_or (ws ++ ps) j 0) d ∙ get_or_append_left ws ps 0 i (omega arith) in
    record {
      codes = row_moved ws (ts ++ (ws ++ ps)) 0 n (λ i h. let z : i ≡ 16 * 0 + i = omega arith in inside i h ∙ ap (λ (j : ℕ). get_or ws j 0) z) ∙ ap (λ (vs : List ℕ). row vs 0) is ∙ e;
      beside = record {
        front = λ i h. get_or_append_left ts (ws ++ ps) 0 i (omega arith) ∙ get_or-take (16 * n) xs i 0 h;
        back = λ i h.
            let d : 16 * n + (k + (i - 16 * n - 16)) ≡ i = omega arith in
            get_or-append_right ts (ws ++ ps) (16 * n) i 0 lt (omega arith) ∙ get_or-append_right ws ps 16 (i - 16 * n) 0 l (omega arith)
            ∙ get_or-drop k (drop (16 * n) xs) (i - 16 * n - 16) 0 ∙ get_or-drop (16 * n) xs (k + (i - 16 * n - 16)) 0 ∙ ap (λ (j : ℕ). get_or xs j 0) d;
        long = omega (arith, length-append ts (ws ++ ps), length-append ws ps);
      };
    }

-- one row more in the table
module _ (xs ys : List ℕ) (n : ℕ) (C : List ℕ) (s : Stored xs ys n C) where
  same : (k : ℕ) → k < n → row ys k ≡ row xs k
  same k h = row_same xs ys k (λ i p q. s.beside.front i (omega arith))

  pub formed_new : WellFormed xs n → formed C ≡ true → WellFormed ys (n + 1)
  formed_new f g =
      below_more _ _ (λ k h. subst (λ (D : List ℕ). formed D ≡ true) (sym (same k h)) (f k h))
      (subst (λ (D : List ℕ). formed D ≡ true) (sym s.codes) g)

  pub meaning_added : (t : ℕ) → table_meaning ys t (n + 1) ≡ added (table_meaning xs t n) C
  meaning_added t =
      let e : rows ys n ≡ rows xs n = counted_same (row ys) (row xs) n same in
      let f : row ys n ≡ C = s.codes in
      let m : rows ys (n + 1) ≡ rows ys n ++ row ys n ∷ [] = map-range_with_len_more (row ys) 0 n n (omega arith) in
      let g : rows ys (n + 1) ≡ rows xs n ++ C ∷ [] = cc in
      let d : t - (n + 1) ≡ t - n - 1 = omega arith in
      cc
