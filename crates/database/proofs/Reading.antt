-- The places of a constraint that is read code by code are few. Assumes nothing.
use Rattle.std.proofs.Common.{◌≡◌, ℕ, zero, suc, ◌-◌, ◌<◌, ◌≤◌, true, ◌⊎◌, List, [], ◌∷◌, length, get_or, slice_get, drop, Some, Option, sym, refl, ap, ◌∙◌, inl, inr, ⊎_elim, arith}
use Rattle.std.proofs.lemmas.Bool.{cases_lt}
use Rattle.std.proofs.lemmas.List.{length-drop}
use Rattle.std.proofs.lemmas.Option.{slice_get_within}
use Rattle.std.specs.Option.{unwrap_or}
use Rattle.qbf.specs.Qbf.{In, formed}
use Rattle.qbf.proofs.Formed.{length_most}
use Rattle.database.specs.Codes.{codes_at, codes_from}
use Rattle.database.proofs.Numbers.{numbered_there, numbered_none}

in_at : (T : List (List ℕ)) (i : ℕ) → i < length T → In (get_or T i []) T
in_at [] i h = absurd (omega arith)
in_at (C ∷ T) zero h = inl refl
in_at (C ∷ T) (suc i) h = inr (in_at T i (omega arith))

-- a constraint of a database is well formed, and its places fit
module _ (T : List (List ℕ)) (n : ℕ) (f : (C : List ℕ) → In C T → formed C ≡ true) where
  there_formed : 1 ≤ n → n ≤ length T → formed (codes_at T n) ≡ true
  there_formed a b =
      let e : codes_at T n ≡ get_or T (n - 1) [] = ap (λ (o : Option (List ℕ)). unwrap_or o []) (numbered_there T n a b) in
      ap formed e ∙ f (get_or T (n - 1) []) (in_at T (n - 1) (omega arith))

  none_formed : (n ≡ 0) ⊎ (length T < n) → formed (codes_at T n) ≡ true
  none_formed h = ap (λ (o : Option (List ℕ)). formed (unwrap_or o [])) (numbered_none T n h)

  pub codes_formed : formed (codes_at T n) ≡ true
  codes_formed =
      ⊎_elim
      (λ (h : n < 1). none_formed (inl (omega arith)))
      (λ (h : 1 ≤ n). ⊎_elim (λ (l : length T < n). none_formed (inr l)) (λ (l : n ≤ length T). there_formed h l) (cases_lt (length T) n))
      (cases_lt n 1)

  pub place_small : (p x : ℕ) → 1 ≤ p → Some x ≡ slice_get (codes_from T n p) 0 → p ≤ 512
  place_small p x a e =
      let C = codes_at T n in
      let w = slice_get_within (drop (p - 1) C) 0 x (sym e) in
      let l = length_most C codes_formed in
      let d = length-drop (p - 1) C in
      omega arith
