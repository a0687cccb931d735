-- A list of constraints that has f 0 to f (n - 1): what is in it, and the answers by number. Assumes nothing.
use Rattle.std.proofs.Common.{◌≡◌, ℕ, zero, suc, ◌+◌, ◌-◌, ◌<◌, ◌≤◌, ◌⊎◌, List, [], ◌∷◌, map, length, get_or, Some, None, sym, refl, ap, ◌∙◌, subst, ap₂, inl, inr, ⊎_elim, arith}
use Rattle.std.specs.List.{range_with_len}
use Rattle.std.proofs.lemmas.List.FromFn.{length-map-range_with_len, get_or-map-range_with_len}
use Rattle.qbf.specs.Qbf.{In}
use Rattle.database.specs.Meaning.{numbered}
use Rattle.database.proofs.Numbers.{numbered_there, numbered_none}

in_counted : (P : List ℕ → Type 0) (f : ℕ → List ℕ) (a n : ℕ) → ((k : ℕ) → a ≤ k → k < a + n → P (f k)) → (C : List ℕ) → In C (map f (range_with_len a n)) → P C
in_counted P f a zero h C i = absurd i
in_counted P f a (suc n) h C (inl e) = subst P (sym e) (h a (omega arith) (omega arith))
in_counted P f a (suc n) h C (inr i) = in_counted P f (a + 1) n (λ k p q. h k (omega arith) (omega arith)) C i

-- what holds of each of them holds of each member
pub each_counted : (P : List ℕ → Type 0) (f : ℕ → List ℕ) (n : ℕ) → ((k : ℕ) → k < n → P (f k)) → (C : List ℕ) → In C (map f (range_with_len 0 n)) → P C
each_counted P f n h = in_counted P f 0 n (λ k p q. h k (omega arith))

same_counted : (f g : ℕ → List ℕ) (a n : ℕ) → ((k : ℕ) → a ≤ k → k < a + n → f k ≡ g k) → map f (range_with_len a n) ≡ map g (range_with_len a n)
same_counted f g a zero h = refl
same_counted f g a (suc n) h = ap₂ ◌∷◌ (h a (omega arith) (omega arith)) (same_counted f g (a + 1) n (λ k p q. h k (omega arith) (omega arith)))

pub counted_same : (f g : ℕ → List ℕ) (n : ℕ) → ((k : ℕ) → k < n → f k ≡ g k) → map f (range_with_len 0 n) ≡ map g (range_with_len 0 n)
counted_same f g n h = same_counted f g 0 n (λ k p q. h k (omega arith))

module _ (f : ℕ → List ℕ) (n number : ℕ) where
  at_number : 1 ≤ number → number ≤ n → get_or (map f (range_with_len 0 n)) (number - 1) [] ≡ f (number - 1)
  at_number a b = get_or-map-range_with_len f 0 n (number - 1) (number - 1) [] (omega arith) (omega arith)

  beyond : (number ≡ 0) ⊎ (n < number) → (number ≡ 0) ⊎ (length (map f (range_with_len 0 n)) < number)
  beyond h = let l = length-map-range_with_len f 0 n in ⊎_elim (λ e. inl e) (λ p. inr (omega arith)) h

  pub numbered_counted : (i : ℕ) → i + 1 ≡ number → i < n → numbered (map f (range_with_len 0 n)) number ≡ Some (f i)
  numbered_counted i e h =
      let l = length-map-range_with_len f 0 n in
      let k : number - 1 ≡ i = omega arith in
      numbered_there (map f (range_with_len 0 n)) number (omega arith) (omega arith) ∙ ap Some (at_number (omega arith) (omega arith) ∙ ap f k)

  pub numbered_not_counted : (number ≡ 0) ⊎ (n < number) → numbered (map f (range_with_len 0 n)) number ≡ None
  numbered_not_counted h = numbered_none (map f (range_with_len 0 n)) number (beyond h)
