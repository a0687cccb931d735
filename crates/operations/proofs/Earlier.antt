-- The walk down from a variable that finds an unset one of an earlier block. Assumes nothing.
use Rattle.std.proofs.Common.{◌≡◌, ℕ, zero, suc, ◌+◌, ◌-◌, ◌<◌, ◌≤◌, Bool, true, false, cond, not, ◌&&◌, ◌||◌, ltb, min, List, [], ◌∷◌, length, take, sym, refl, ap, ◌∙◌, ap₂, ⊎_elim, arith}
use Rattle.std.proofs.lemmas.Bool.{and_from, and_left, and_right, lt-ltb, le-ltb, cases_lt}
use Rattle.std.proofs.lemmas.List.{take_all}
use Rattle.qbf.specs.declared.quantifier.Quantifier.{Quantifier}
use Rattle.qbf.specs.Qbf.{quantifier_of, some, is_set}
use Rattle.calculus.specs.Blocks.{changes, differ, block, variables_from, earlier_unset}
use Rattle.calculus.proofs.Runs.{block_step, mono}
use Rattle.operations.proofs.Joined.{or_none, or_more, or_yes}

-- the variables of a prefix: one more at the end, and those that do not count
some_last : (p : ℕ → Bool) (a k w : ℕ) (qs : List Quantifier) → k < length qs → a + k ≡ w → some p (variables_from a (take (suc k) qs)) ≡ (some p (variables_from a (take k qs)) || p w)
some_last p a k w [] h e = absurd (omega arith)
some_last p a zero w (q ∷ qs) h e = or_none (p a) ∙ ap p (let z : a ≡ w = omega arith in z)
some_last p a (suc k) w (q ∷ qs) h e =
    ap (λ b. p a || b) (some_last p (suc a) k w qs (omega arith) (omega arith)) ∙ sym (or_more (p a) (some p (variables_from (suc a) (take k qs))) (p w))

some_first : (p : ℕ → Bool) (a k : ℕ) (qs : List Quantifier) → ((w : ℕ) → a + k ≤ w → w < a + length qs → p w ≡ false) → some p (variables_from a (take k qs)) ≡ some p (variables_from a qs)
some_first p a k [] f = ap (λ (r : List Quantifier). some p (variables_from a r)) (take_all k [] (omega arith))
some_first p a zero (q ∷ qs) f = ap₂ ◌||◌ (sym (f a (omega arith) (omega arith))) (some_first p (suc a) zero qs (λ w h i. f w (omega arith) (omega arith)))
some_first p a (suc k) (q ∷ qs) f = ap (λ b. p a || b) (some_first p (suc a) k qs (λ w h i. f w (omega arith) (omega arith)))

-- w is unset and of a block before v's
abbrev Unset : List Quantifier → List ℕ → ℕ → ℕ → Bool
Unset prefix A v w = ltb (block prefix w) (block prefix v) && not (is_set A w)

-- down to variable n, which is of an earlier block or of v's own
pub record Walk (prefix : List Quantifier) (A : List ℕ) (v n : ℕ) (earlier : Bool) : Type 0 where
  pub within : n ≤ length prefix
  pub below : block prefix n ≤ block prefix v
  pub told : earlier ≡ ltb (block prefix n) (block prefix v)
  pub rest : some (Unset prefix A v) (variables_from 1 (take (n - 1) prefix)) ≡ earlier_unset prefix A v

module _ (prefix : List Quantifier) (A : List ℕ) (v n : ℕ) where
  -- the beginning, at v or at the last variable
  starts : n ≡ min (length prefix) v → block prefix n ≡ block prefix v
  starts e =
      ⊎_elim (λ (h : v < length prefix). ap (block prefix) (let z : n ≡ v = omega arith in z))
      (λ (h : length prefix ≤ v). ap changes (take_all n prefix (omega arith) ∙ sym (take_all v prefix h))) (cases_lt v (length prefix))

  not_before : block prefix n ≡ block prefix v → (w : ℕ) → n ≤ w → w ≤ length prefix → block prefix v ≤ block prefix w
  not_before e w h i = go n refl
    where
      go : (k : ℕ) → n ≡ k → block prefix v ≤ block prefix w
      go zero q = let z : block prefix n ≡ 0 = ap (block prefix) q in omega arith
      go (suc k) q = let m = mono prefix n (omega arith) w h i in omega arith

  pub begun : n ≡ min (length prefix) v → Walk prefix A v n false
  begun h =
      let e = starts h in
      record {
        within = omega arith;
        below = omega arith;
        told = sym (le-ltb (block prefix n) (block prefix v) (omega arith));
        rest = some_first (Unset prefix A v) 1 (n - 1) prefix
            (λ w a b. and_left (ltb (block prefix w) (block prefix v)) (not (is_set A w)) (le-ltb (block prefix w) (block prefix v) (not_before e w (omega arith) (omega arith))));
      }

-- a turn, from n down to m, the variable before it; d tells whether a block begins between them
module _ (prefix : List Quantifier) (A : List ℕ) (v n m : ℕ) (earlier d : Bool) (h : 1 < n) (o : m ≡ n - 1) (e : d ≡ differ (quantifier_of prefix m) (quantifier_of prefix (m + 1))) (s : Walk prefix A v n earlier) where
  step : block prefix n ≡ cond d (suc (block prefix m)) (block prefix m)
  step =
      let i = s.within in
      ap (block prefix) (let q : n ≡ suc m = omega arith in q) ∙ block_step prefix m (omega arith) (omega arith) ∙ ap (λ b. cond b (suc (block prefix m)) (block prefix m)) (ap (λ x. differ (quantifier_of prefix m) (quantifier_of prefix x)) (let q : suc m ≡ m + 1 = omega arith in q) ∙ sym e)

  now_told : ((earlier || d) ≡ ltb (block prefix m) (block prefix v)) × (block prefix m ≤ block prefix v)
  now_told = go d step
    where
      go : (b : Bool) → block prefix n ≡ cond b (suc (block prefix m)) (block prefix m) → ((earlier || b) ≡ ltb (block prefix m) (block prefix v)) × (block prefix m ≤ block prefix v)
      go true q = let i = s.below in (or_yes earlier ∙ sym (lt-ltb (block prefix m) (block prefix v) (omega arith)), omega arith)
      go false q = let i = s.below in (or_none earlier ∙ s.told ∙ ap (λ x. ltb x (block prefix v)) q, omega arith)

  last_of : (some (Unset prefix A v) (variables_from 1 (take (m - 1) prefix)) || Unset prefix A v m) ≡ earlier_unset prefix A v
  last_of =
      let i = s.within in
      let q : suc (m - 1) ≡ n - 1 = omega arith in
      sym (some_last (Unset prefix A v) 1 (m - 1) m prefix (omega arith) (omega arith)) ∙ ap (λ k. some (Unset prefix A v) (variables_from 1 (take k prefix))) q ∙ s.rest

  pub found : (earlier || d) ≡ true → false ≡ is_set A m → true ≡ earlier_unset prefix A v
  found u f =
      let p : Unset prefix A v m ≡ true = and_from (ltb (block prefix m) (block prefix v)) (not (is_set A m)) (sym now_told.0 ∙ u) (ap not (sym f)) in
      sym (ap (λ b. some (Unset prefix A v) (variables_from 1 (take (m - 1) prefix)) || b) p ∙ or_yes (some (Unset prefix A v) (variables_from 1 (take (m - 1) prefix)))) ∙ last_of

  on : Unset prefix A v m ≡ false → Walk prefix A v m (earlier || d)
  on p =
      let i = s.within in
      let n' = now_told in
      record {
        within = omega arith;
        below = n'.1;
        told = n'.0;
        rest = sym (or_none (some (Unset prefix A v) (variables_from 1 (take (m - 1) prefix)))) ∙ ap (λ b. some (Unset prefix A v) (variables_from 1 (take (m - 1) prefix)) || b) (sym p) ∙ last_of;
      }

  -- the variable is of v's block, or it is set
  pub same_block : (earlier || d) ≡ false → Walk prefix A v m (earlier || d)
  same_block u = on (and_left (ltb (block prefix m) (block prefix v)) (not (is_set A m)) (sym now_told.0 ∙ u))

  pub was_set : true ≡ is_set A m → Walk prefix A v m (earlier || d)
  was_set u = on (and_right (ltb (block prefix m) (block prefix v)) (not (is_set A m)) (ap not (sym u)))
