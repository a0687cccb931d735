-- Binary digits: those of an `or` with a power of 2, how many are set, and the lowest that is. Assumes nothing.
use Rattle.std.proofs.Common.{◌≡◌, ℕ, zero, suc, ◌+◌, ◌-◌, ◌*◌, ◌/◌, ◌%◌, ◌^◌, ◌<◌, ◌≤◌, ◌≢◌, sym, refl, ap, ◌∙◌, ⊎_elim, add_assoc, add_comm, one-mul, pow-suc, zero-mul, div-one, add-one, one-add, arith, pow_mono}
use native.Mathlib.Nat.{div-eq_of_lt, mod-one}
use lib.Bits.{bit_or}
use lib.Count.{ones, count_trailing_zeros, under, ones_step, ones_cat}
use Rattle.std.proofs.lemmas.Nat.{pow_pos, pow-add, shl-shr, shr-shr, shr_split, shr_le, mod-pow-add, or_shr, or_mod, mod_below, pow_below}
use Rattle.std.proofs.lemmas.Bool.{cases_order, cases_lt}
use Rattle.bitset_rows.specs.Rows.{digit}

pub digit_small : (w p : ℕ) → digit w p < 2
digit_small w p = omega arith

-- THE DIGITS of a power of 2, and of an `or` with it.

pub digit_pow_same : (p : ℕ) → digit (2 ^ p) p ≡ 1
digit_pow_same p =
    let e : 2 ^ p / 2 ^ p ≡ 1 = ap (λ (x : ℕ). x / 2 ^ p) (sym (one-mul (2 ^ p))) ∙ shl-shr 1 p in
    omega arith

pub digit_pow_above : (p q : ℕ) → p < q → digit (2 ^ p) q ≡ 0
digit_pow_above p q h =
    let e : 2 ^ p / 2 ^ q ≡ 0 = div-eq_of_lt (pow_below p q h) in
    omega arith

pub digit_pow_below : (q j : ℕ) → digit (2 ^ (suc j + q)) q ≡ 0
digit_pow_below q j =
    let e : 2 ^ (suc j + q) / 2 ^ q ≡ 2 ^ suc j = ap (λ (x : ℕ). x / 2 ^ q) (pow-add 2 (suc j) q) ∙ shl-shr (2 ^ suc j) q in
    let f : 2 ^ suc j ≡ 2 ^ j * 2 = pow-suc 2 j in
    omega arith

pub digit_pow_other : (p q : ℕ) → q ≢ p → digit (2 ^ p) q ≡ 0
digit_pow_other p q ne =
    ⊎_elim
    (λ (e : q ≡ p). absurd (ne e))
    (⊎_elim
    (λ (h : q < p).
    let e : p ≡ suc (p - q - 1) + q = omega arith in
    ap (λ (x : ℕ). digit (2 ^ x) q) e ∙ digit_pow_below q (p - q - 1))
    (λ (h : p < q). digit_pow_above p q h))
    (cases_order q p)

pub digit_or : (w v q : ℕ) → digit (bit_or w v) q ≡ bit_or (digit w q) (digit v q)
digit_or w v q = ap (λ (x : ℕ). x % 2) (or_shr w v q) ∙ or_mod (w / 2 ^ q) (v / 2 ^ q) 1

or_one : (d : ℕ) → d < 2 → bit_or d 1 ≡ 1
or_one zero h = refl
or_one (suc zero) h = refl
or_one (suc (suc d)) h = absurd (omega arith)

or_nil : (d : ℕ) → d < 2 → bit_or d 0 ≡ d
or_nil zero h = refl
or_nil (suc zero) h = refl
or_nil (suc (suc d)) h = absurd (omega arith)

pub digit_set_same : (w p : ℕ) → digit (bit_or w (2 ^ p)) p ≡ 1
digit_set_same w p = digit_or w (2 ^ p) p ∙ ap (bit_or (digit w p)) (digit_pow_same p) ∙ or_one (digit w p) (digit_small w p)

pub digit_set_other : (w p q : ℕ) → q ≢ p → digit (bit_or w (2 ^ p)) q ≡ digit w q
digit_set_other w p q ne = digit_or w (2 ^ p) q ∙ ap (bit_or (digit w q)) (digit_pow_other p q ne) ∙ or_nil (digit w q) (digit_small w q)

-- HOW MANY digits are set.

ones_zero : ones 0 ≡ 0
unfolding ones
ones_zero = refl

ones_digit : (d : ℕ) → d < 2 → ones d ≡ d
ones_digit zero h = ones_zero
ones_digit (suc zero) h = ones_step 1 ∙ ap (λ (x : ℕ). 1 + x) ones_zero
ones_digit (suc (suc d)) h = absurd (omega arith)

pub ones_below_none : (w : ℕ) → ones (w % 2 ^ 0) ≡ 0
ones_below_none w = ap ones (mod-one w) ∙ ones_zero

-- one more place
pub ones_below_more : (w p : ℕ) → ones (w % 2 ^ (p + 1)) ≡ ones (w % 2 ^ p) + digit w p
ones_below_more w p =
    let a : w % 2 ^ (p + 1) ≡ digit w p * 2 ^ p + w % 2 ^ p = ap (λ (x : ℕ). w % 2 ^ x) (add_comm p 1) ∙ mod-pow-add w 1 p in
    let b : ones (digit w p * 2 ^ p + w % 2 ^ p) ≡ ones (digit w p) + ones (w % 2 ^ p) = ones_cat p (digit w p) (w % 2 ^ p) (mod_below w (2 ^ p) (pow_pos p)) in
    let d : ones (digit w p) ≡ digit w p = ones_digit (digit w p) (digit_small w p) in
    let e : ones (w % 2 ^ (p + 1)) ≡ ones (digit w p) + ones (w % 2 ^ p) = ap ones a ∙ b in
    omega arith

-- the places below p, and the rest
pub ones_split : (w p : ℕ) → ones w ≡ ones (w / 2 ^ p) + ones (w % 2 ^ p)
ones_split w p = ap ones (sym (shr_split w p)) ∙ ones_cat p (w / 2 ^ p) (w % 2 ^ p) (mod_below w (2 ^ p) (pow_pos p))

pub ones_some : (x : ℕ) → 0 < ones x → 0 < x
ones_some zero h = absurd (let e = ones_zero in omega arith)
ones_some (suc x) h = omega arith

-- THE LOWEST digit that is set.

pub record Lowest (x t : ℕ) : Type 0 where
  pub set : digit x t ≡ 1
  pub below : x % 2 ^ t ≡ 0

lowest_more : (x t : ℕ) → x % 2 ≡ 0 → Lowest (x / 2) t → Lowest x (suc t)
lowest_more x t e l =
    let a : x / 2 / 2 ^ t ≡ x / 2 ^ (1 + t) = shr-shr x 1 t in
    let b : x % 2 ^ (t + 1) ≡ (x / 2 % 2 ^ t) * 2 + x % 2 = mod-pow-add x t 1 in
    let s : 1 + t ≡ suc t = one-add t in
    let s' : t + 1 ≡ suc t = add-one t in
    let a' : x / 2 / 2 ^ t ≡ x / 2 ^ suc t = rw s at a in
    let b' : x % 2 ^ suc t ≡ (x / 2 % 2 ^ t) * 2 + x % 2 = rw s' at b in
    record { set = ap (λ (y : ℕ). y % 2) (sym a') ∙ l.set; below = omega (arith, l.below) }

lowest_odd : (x : ℕ) → x % 2 ≡ 1 → Lowest x 0
lowest_odd x e = record { set = ap (λ (y : ℕ). y % 2) (div-one x) ∙ e; below = mod-one x }

pub trailing_lowest : (k x : ℕ) → 0 < x → x < 2 ^ k → Lowest x (count_trailing_zeros k x)
unfolding count_trailing_zeros
trailing_lowest zero x p h = absurd (omega arith)
trailing_lowest (suc k) x p h = go (λ e. trailing_lowest k (x / 2) (omega arith) half) (x % 2) refl
  where
    half : x / 2 < 2 ^ k
    half = let e : 2 ^ suc k ≡ 2 ^ k * 2 = pow-suc 2 k in omega arith

    go : (x % 2 ≡ 0 → Lowest (x / 2) (count_trailing_zeros k (x / 2))) → (d : ℕ) → x % 2 ≡ d → Lowest x (under d (count_trailing_zeros k (x / 2)))
    go rest zero e = lowest_more x (count_trailing_zeros k (x / 2)) e (rest e)
    go rest (suc d) e = lowest_odd x (omega arith)

-- a digit that is set stands within the number
pub digit_within : (k w p : ℕ) → w < 2 ^ k → digit w p ≡ 1 → p < k
digit_within k w p h e =
    ⊎_elim
    (λ (l : p < k). l)
    (λ (l : k ≤ p).
    let m : 2 ^ k ≤ 2 ^ p = pow_mono l in
    let n : w < 2 ^ p = omega arith in
    let z : w / 2 ^ p ≡ 0 = div-eq_of_lt n in
    absurd (omega arith))
    (cases_lt p k)

-- the lowest digit that is set from the place p on, where some digit is
module _ (w p x : ℕ) (is : x ≡ w / 2 ^ p) (fits : w < 2 ^ 64) (more : ones (w % 2 ^ p) < ones w) where
  pub lowest : Lowest x (count_trailing_zeros 64 x)
  lowest =
      let l : w / 2 ^ p ≤ w = shr_le w p in
      let s : ones w ≡ ones (w / 2 ^ p) + ones (w % 2 ^ p) = ones_split w p in
      let n : 0 < w / 2 ^ p = ones_some (w / 2 ^ p) (omega arith) in
      trailing_lowest 64 x (omega arith) (omega arith)

  pub found : digit w (p + count_trailing_zeros 64 x) ≡ 1
  found =
      let t : ℕ = count_trailing_zeros 64 x in
      let e : x / 2 ^ t ≡ w / 2 ^ (p + t) = ap (λ (y : ℕ). y / 2 ^ t) is ∙ shr-shr w p t in
      ap (λ (y : ℕ). y % 2) (sym e) ∙ lowest.set

  pub within : p + count_trailing_zeros 64 x < 64
  within = digit_within 64 w (p + count_trailing_zeros 64 x) fits found

  pub nothing : w % 2 ^ (p + count_trailing_zeros 64 x) ≡ w % 2 ^ p
  nothing =
      let t : ℕ = count_trailing_zeros 64 x in
      let a : w % 2 ^ (t + p) ≡ (w / 2 ^ p % 2 ^ t) * 2 ^ p + w % 2 ^ p = mod-pow-add w t p in
      let b : w / 2 ^ p % 2 ^ t ≡ 0 = ap (λ (y : ℕ). y % 2 ^ t) (sym is) ∙ lowest.below in
      let z : (w / 2 ^ p % 2 ^ t) * 2 ^ p ≡ 0 = ap (λ (y : ℕ). y * 2 ^ p) b ∙ zero-mul (2 ^ p) in
      let c : w % 2 ^ (p + t) ≡ w % 2 ^ (t + p) = ap (λ (y : ℕ). w % 2 ^ y) (add_comm p t) in
      omega arith

  pub shifted : x / 2 ^ count_trailing_zeros 64 x / 2 ≡ w / 2 ^ (p + (count_trailing_zeros 64 x + 1))
  shifted =
      let t : ℕ = count_trailing_zeros 64 x in
      ap (λ (y : ℕ). y / 2 ^ t / 2) is ∙ ap (λ (y : ℕ). y / 2) (shr-shr w p t) ∙ shr-shr w (p + t) 1 ∙ ap (λ (y : ℕ). w / 2 ^ y) (add_assoc p t 1)

  pub counted : ones (w % 2 ^ (p + (count_trailing_zeros 64 x + 1))) ≡ ones (w % 2 ^ p) + 1
  counted =
      let t : ℕ = count_trailing_zeros 64 x in
      let a : ones (w % 2 ^ (p + t + 1)) ≡ ones (w % 2 ^ (p + t)) + digit w (p + t) = ones_below_more w (p + t) in
      let b : ones (w % 2 ^ (p + t)) ≡ ones (w % 2 ^ p) = ap ones nothing in
      let d : ones (w % 2 ^ (p + (t + 1))) ≡ ones (w % 2 ^ (p + t + 1)) = ap (λ (y : ℕ). ones (w % 2 ^ y)) (sym (add_assoc p t 1)) in
      let f = found in
      omega arith
