-- Rows of 16 words: the same words, a bit that is set, and how many bits there are up to a word. Assumes nothing.
use Rattle.std.proofs.Common.{◌≡◌, ℕ, ◌+◌, ◌-◌, ◌*◌, ◌/◌, ◌%◌, ◌^◌, ◌<◌, ◌≤◌, ◌≢◌, ◌⊎◌, List, [], ◌∷◌, ◌++◌, length, get_or, set, sym, refl, ap, ◌∙◌, inl, inr, ⊎_elim, mod-eq_of_lt, arith}
use native.Mathlib.Nat.{zero-div}
use lib.Bits.{bit_or}
use lib.Count.{ones}
use Rattle.std.proofs.lemmas.List.{get_or-set_same, get_or-set_other}
use Rattle.std.proofs.lemmas.Bool.{cases_lt, cases_eq}
use Rattle.bitset_rows.specs.Rows.{digit, bit, chosen, row}
use Rattle.bitset_rows.proofs.Digits.{digit_small, digit_set_same, digit_set_other}
use Rattle.bitset_rows.proofs.Chosen.{chosen_same, chosen_none, chosen_set, chosen_word, chosen_at}

-- a row whose words are the same
pub row_same : (xs ys : List ℕ) (k : ℕ) → ((i : ℕ) → 16 * k ≤ i → i < 16 * k + 16 → get_or ys i 0 ≡ get_or xs i 0) → row ys k ≡ row xs k
row_same xs ys k h =
    chosen_same (bit ys k) (bit xs k) 1024 (λ b p. ap (λ (w : ℕ). digit w (b % 64)) (h (16 * k + b / 64) (omega arith) (omega arith)))

-- rows of two tables, or at two places, whose words are the same
pub row_moved : (xs ys : List ℕ) (j k : ℕ) → ((i : ℕ) → i < 16 → get_or ys (16 * k + i) 0 ≡ get_or xs (16 * j + i) 0) → row ys k ≡ row xs j
row_moved xs ys j k h = chosen_same (bit ys k) (bit xs j) 1024 (λ b p. ap (λ (w : ℕ). digit w (b % 64)) (h (b / 64) (omega arith)))

zero_digit : (w p : ℕ) → w ≡ 0 → digit w p ≡ 0
zero_digit w p e = let z : 0 / 2 ^ p ≡ 0 = zero-div (2 ^ p) in rw e (omega arith)

-- a row of zeros
pub row_clear : (xs : List ℕ) (k : ℕ) → ((i : ℕ) → i < 16 → get_or xs (16 * k + i) 0 ≡ 0) → row xs k ≡ []
row_clear xs k h = chosen_none (bit xs k) 1024 (λ b p. zero_digit (get_or xs (16 * k + b / 64) 0) (b % 64) (h (b / 64) (omega arith)))

-- one bit is set
module _ (xs ys : List ℕ) (k b : ℕ) (low : b < 1024) (room : 16 * k + 16 ≤ length xs)
    (is : ys ≡ set xs (16 * k + b / 64) (bit_or (get_or xs (16 * k + b / 64) 0) (2 ^ (b % 64)))) where
  at : ℕ
  at = 16 * k + b / 64

  word : get_or ys (16 * k + b / 64) 0 ≡ bit_or (get_or xs (16 * k + b / 64) 0) (2 ^ (b % 64))
  word = ap (λ (zs : List ℕ). get_or zs (16 * k + b / 64) 0) is ∙ get_or-set_same xs (16 * k + b / 64) _ 0 (omega arith)

  pub bit_same : bit ys k b ≡ 1
  bit_same = ap (λ (w : ℕ). digit w (b % 64)) word ∙ digit_set_same (get_or xs (16 * k + b / 64) 0) (b % 64)

  pub bit_other : (x : ℕ) → x ≢ b → bit ys k x ≡ bit xs k x
  bit_other x ne =
      ⊎_elim
      (λ (e : x / 64 ≡ b / 64).
      let n : x % 64 ≢ b % 64 = omega arith in
      let i : 16 * k + x / 64 ≡ 16 * k + b / 64 = omega arith in
      let u : get_or ys (16 * k + x / 64) 0 ≡ bit_or (get_or xs (16 * k + x / 64) 0) (2 ^ (b % 64)) = rw i word in
      ap (λ (w : ℕ). digit w (x % 64)) u ∙ digit_set_other (get_or xs (16 * k + x / 64) 0) (b % 64) (x % 64) n)
      (λ (e : x / 64 ≡ b / 64 → ⊥).
      let n : 16 * k + x / 64 ≢ 16 * k + b / 64 = λ q. e (omega arith) in
      ap (λ (w : ℕ). digit w (x % 64)) (ap (λ (zs : List ℕ). get_or zs (16 * k + x / 64) 0) is ∙ get_or-set_other xs (16 * k + b / 64) (16 * k + x / 64) _ 0 n))
      (cases_eq (x / 64) (b / 64))

  pub row_set : ((x : ℕ) → b ≤ x → x < 1024 → bit xs k x ≡ 0) → row ys k ≡ row xs k ++ (b + 2) ∷ []
  row_set none = chosen_set (bit xs k) (bit ys k) b 1024 low bit_same bit_other none

-- THE WORDS of a row, one after the other.

bits_of : (ws : List ℕ) (k i q : ℕ) → q < 64 → bit ws k (64 * i + q) ≡ digit (get_or ws (16 * k + i) 0) q
bits_of ws k i q h =
    let a : (64 * i + q) / 64 ≡ i = omega arith in
    let b : (64 * i + q) % 64 ≡ q = omega arith in
    rw (a, b)

-- within the word i, up to its place p
pub row_within : (ws : List ℕ) (k i p : ℕ) → p ≤ 64 → length (chosen (bit ws k) (64 * i + p)) ≡ length (chosen (bit ws k) (64 * i)) + ones (get_or ws (16 * k + i) 0 % 2 ^ p)
row_within ws k i p h = chosen_word (bit ws k) (64 * i) (get_or ws (16 * k + i) 0) (bits_of ws k i) p h

pub row_none : (ws : List ℕ) (k : ℕ) → length (chosen (bit ws k) 0) ≡ 0
unfolding chosen
row_none ws k = refl

-- past the word i
pub row_more : (ws : List ℕ) (k i : ℕ) → get_or ws (16 * k + i) 0 < 2 ^ 64 → length (chosen (bit ws k) (64 * (i + 1))) ≡ length (chosen (bit ws k) (64 * i)) + ones (get_or ws (16 * k + i) 0)
row_more ws k i h =
    let e : 64 * (i + 1) ≡ 64 * i + 64 = omega arith in
    let m : get_or ws (16 * k + i) 0 % 2 ^ 64 ≡ get_or ws (16 * k + i) 0 = mod-eq_of_lt h in
    ap (λ (x : ℕ). length (chosen (bit ws k) x)) e ∙ row_within ws k i 64 (omega arith) ∙ ap (λ (x : ℕ). length (chosen (bit ws k) (64 * i)) + ones x) m

-- the set bit that is the `left`-th of the word i
pub row_at : (ws : List ℕ) (k i p left place : ℕ) → i < 16 → p < 64 → digit (get_or ws (16 * k + i) 0) p ≡ 1 → ones (get_or ws (16 * k + i) 0 % 2 ^ p) + 1 ≡ left
    → length (chosen (bit ws k) (64 * i)) + left ≡ place → (place ≤ length (row ws k)) × (get_or (row ws k) (place - 1) 0 ≡ 64 * i + p + 2)
row_at ws k i p left place hi hp one before e =
    let b : ℕ = 64 * i + p in
    let a = row_within ws k i p (omega arith) in
    let s : bit ws k (64 * i + p) ≡ 1 = bits_of ws k i p hp ∙ one in
    let c = chosen_at (bit ws k) (64 * i + p) 1024 (omega arith) s in
    let d : length (chosen (bit ws k) (64 * i + p)) ≡ place - 1 = omega arith in
    (omega (arith, c.0), ap (λ (x : ℕ). get_or (row ws k) x 0) (sym d) ∙ c.1)

-- what stands before the bit b of a row, if b or a higher bit is set
pub row_before : (ws : List ℕ) (k x : ℕ) → x < 1024 → (digit (get_or ws (16 * k + x / 64) 0) (x % 64) ≡ 0) ⊎ ((j : ℕ) × (j < length (row ws k)) × (get_or (row ws k) j 0 ≡ x + 2))
row_before ws k x h =
    ⊎_elim
    (λ (e : bit ws k x < 1). inl (omega arith))
    (λ (e : 1 ≤ bit ws k x).
    let s : bit ws k x ≡ 1 = omega (arith, digit_small (get_or ws (16 * k + x / 64) 0) (x % 64)) in
    let c = chosen_at (bit ws k) x 1024 h s in
    inr (length (chosen (bit ws k) x), c.0, c.1))
    (cases_lt (bit ws k x) 1)
