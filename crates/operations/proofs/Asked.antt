-- Asking each number from 1 on in turn, after as many others: whether one of them has an empty constraint. Assumes nothing.
use Rattle.std.proofs.Common.{◌≡◌, ℕ, zero, suc, ◌+◌, ◌-◌, ◌%◌, ◌^◌, ◌<◌, Bool, true, false, ◌||◌, List, [], ◌∷◌, length, get_or, Some, Option, sym, refl, ap, ap₂, ◌∙◌, arith}
use Rattle.std.specs.Bool.{MatchBool}
use Rattle.std.specs.List.{range_with_len, AllWithin, HoldsAt}
use Rattle.std.proofs.lemmas.Bool.{or_left, or_right}
use Rattle.std.proofs.lemmas.List.FromFn.{length-range_with_len, get_or-range_with_len}
use Rattle.qbf.specs.Qbf.{some}
use Rattle.database.specs.Meaning.{length_at}
use Rattle.database.proofs.Numbers.{length_there}
use Rattle.calculus.specs.State.{is_empty}

-- whether some constraint is empty
empty_size : (C : List ℕ) → length C ≡ 0 → is_empty C ≡ true
empty_size [] e = refl
empty_size (l ∷ C) e = absurd (omega arith)

full_size : (C : List ℕ) → (length C ≡ 0 → ⊥) → is_empty C ≡ false
full_size [] n = absurd (n refl)
full_size (l ∷ C) n = refl

some_empty : (T : List (List ℕ)) (i : ℕ) → i < length T → length (get_or T i []) ≡ 0 → some is_empty T ≡ true
some_empty [] i h e = absurd (omega arith)
some_empty (C ∷ T) zero h e = or_left (is_empty C) (some is_empty T) (empty_size C e)
some_empty (C ∷ T) (suc i) h e = or_right (is_empty C) (some is_empty T) (some_empty T i (omega arith) e)

none_empty : (T : List (List ℕ)) → ((i : ℕ) → i < length T → length (get_or T i []) ≡ 0 → ⊥) → some is_empty T ≡ false
none_empty [] f = refl
none_empty (C ∷ T) f = ap₂ ◌||◌ (full_size C (f 0 (omega arith))) (none_empty T (λ i h. f (suc i) (omega arith)))

module _ (T : List (List ℕ)) where
  -- the constraint behind so many others; a number is below 2^64
  abbrev size_behind : ℕ → Option ℕ
  size_behind n = length_at T ((n + 1) % 2 ^ 64)

  abbrev pub Empty : ℕ → Type 0
  Empty n = size_behind n ≡ Some 0

  abbrev pub Full : ℕ → Type 0
  Full n = size_behind n ≡ Some 0 → ⊥

  module _ (few : length T < 2 ^ 64) where
    size_at : (i : ℕ) → i < length T → size_behind (get_or (range_with_len 0 (length T)) i 0) ≡ Some (length (get_or T i []))
    size_at i h =
        let n = get_or-range_with_len 0 (length T) i 0 h in
        let m : (0 + i + 1) % 2 ^ 64 ≡ i + 1 = omega arith in
        let k : i + 1 - 1 ≡ i = omega arith in
        ap (λ m. size_behind m) n ∙ ap (length_at T) m ∙ length_there T (i + 1) (omega arith) (omega arith) ∙ ap (λ j. Some (length (get_or T j []))) k

    pub empty_among : (r : Bool) → MatchBool r ((k : ℕ) × (k < length (range_with_len 0 (length T))) × HoldsAt Empty (range_with_len 0 (length T)) k) (AllWithin Full (range_with_len 0 (length T)) 0 (length (range_with_len 0 (length T)))) → r ≡ some is_empty T
    empty_among true (k, h, e) =
        let l = length-range_with_len 0 (length T) in
        let i : k < length T = omega arith in
        sym (some_empty T k i (let z : Some (length (get_or T k [])) ≡ Some 0 = sym (size_at k i) ∙ e 0 in cc))
    empty_among false f =
        let l = length-range_with_len 0 (length T) in
        sym (none_empty T (λ i h e. f i 0 (omega arith) (omega arith) (size_at i h ∙ ap Some e)))
