-- The code at a place, counted from 1. Assumes nothing.
use Rattle.std.proofs.Common.{◌≡◌, ℕ, zero, suc, ◌-◌, ◌<◌, ◌≤◌, true, false, ◌&&◌, leb, ◌⊎◌, List, length, get_or, Some, None, refl, sym, ap, ◌∙◌, inr, ⊎_elim, arith}
use Rattle.std.proofs.lemmas.Bool.{and_from, and_left, and_right, cases_lt, cond-true, cond-false, le-leb, lt-leb}
use Rattle.std.proofs.lemmas.Option.{slice_get-get_or, slice_get_past}
use Rattle.qbf.specs.Constraints.{code_at}
use Rattle.qbf.specs.Items.{item_at}

-- whether a place is one of a list
pub there : (p n : ℕ) → 1 ≤ p → p ≤ n → (leb 1 p && leb p n) ≡ true
there p n a b = and_from (leb 1 p) (leb p n) (le-leb 1 p a) (le-leb p n b)

pub not_there : (p n : ℕ) → (p ≡ 0) ⊎ (n < p) → (leb 1 p && leb p n) ≡ false
not_there p n h =
    ⊎_elim (λ e. and_left (leb 1 p) (leb p n) (lt-leb 1 p (omega arith))) (λ l. and_right (leb 1 p) (leb p n) (lt-leb p n l)) h

pub code_there : (C : List ℕ) (p : ℕ) → 1 ≤ p → p ≤ length C → code_at C p ≡ Some (get_or C (p - 1) 0)
code_there C p a b = cond-true (leb 1 p && leb p (length C)) (Some (get_or C (p - 1) 0)) None (there p (length C) a b)

pub code_none : (C : List ℕ) (p : ℕ) → (p ≡ 0) ⊎ (length C < p) → code_at C p ≡ None
code_none C p h = cond-false (leb 1 p && leb p (length C)) (Some (get_or C (p - 1) 0)) None (not_there p (length C) h)

-- the same by the item of that number
pub item_code : (C : List ℕ) (p : ℕ) → item_at C p ≡ code_at C p
item_code C zero = refl
item_code C (suc k) =
    let e : suc k - 1 ≡ k = omega arith in
    ⊎_elim (λ (h : k < length C). slice_get-get_or C k 0 h ∙ ap (λ (j : ℕ). Some (get_or C j 0)) (sym e) ∙ sym (code_there C (suc k) (omega arith) (omega arith)))
    (λ (h : length C ≤ k). slice_get_past C k h ∙ sym (code_none C (suc k) (inr (omega arith)))) (cases_lt k (length C))
