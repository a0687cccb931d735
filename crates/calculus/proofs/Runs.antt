-- Blocks by the number of changes are the runs of one quantifier. Assumes nothing.
use Rattle.std.proofs.Common.{◌≡◌, ℕ, zero, suc, ◌<◌, ◌≤◌, Bool, true, false, cond, List, [], ◌∷◌, length, get_or, take, sym, refl, ap, ◌∙◌, ⊎_elim, arith}
use Rattle.std.proofs.lemmas.Bool.{both_ways, cases_eq}
use Rattle.qbf.specs.declared.quantifier.Quantifier.{Quantifier}
use Rattle.qbf.specs.declared.quantifier.Quantifier.TheVariants.{Existential, Universal}
use Rattle.qbf.specs.Qbf.{quantifier_of}
use Rattle.calculus.specs.Blocks.{differ, changes, block, Blocks}

change_step : (prefix : List Quantifier) (v : ℕ) → suc v < length prefix
    → changes (take (suc (suc v)) prefix) ≡ cond (differ (get_or prefix v Existential) (get_or prefix (suc v) Existential)) (suc (changes (take (suc v) prefix))) (changes (take (suc v) prefix))
change_step [] v h = absurd (omega arith)
change_step (q ∷ []) v h = absurd (omega arith)
change_step (q ∷ r ∷ rs) zero h = refl
change_step (q ∷ r ∷ rs) (suc v) h =
    ap (λ x. cond (differ q r) (suc x) x) (change_step (r ∷ rs) v (omega arith))
    ∙ go (differ q r) (differ (get_or (r ∷ rs) v Existential) (get_or (r ∷ rs) (suc v) Existential)) (changes (take (suc v) (r ∷ rs)))
  where
    go : (a b : Bool) (y : ℕ) → cond a (suc (cond b (suc y) y)) (cond b (suc y) y) ≡ cond b (suc (cond a (suc y) y)) (cond a (suc y) y)
    go true true y = refl
    go true false y = refl
    go false true y = refl
    go false false y = refl

pub block_step : (prefix : List Quantifier) (v : ℕ) → 1 ≤ v → v < length prefix → block prefix (suc v) ≡ cond (differ (quantifier_of prefix v) (quantifier_of prefix (suc v))) (suc (block prefix v)) (block prefix v)
block_step prefix zero a b = absurd (omega arith)
block_step prefix (suc v) a b = change_step prefix v b

same_quantifier : (q r : Quantifier) → differ q r ≡ false → q ≡ r
same_quantifier Existential Existential e = refl
same_quantifier Existential Universal e = absurd (both_ways true e refl)
same_quantifier Universal Existential e = absurd (both_ways true e refl)
same_quantifier Universal Universal e = refl

differ_not : (q : Quantifier) → differ q q ≡ false
differ_not Existential = refl
differ_not Universal = refl

module _ (prefix : List Quantifier) (w : ℕ) (low : 1 ≤ w) where
  pub mono : (v : ℕ) → w ≤ v → v ≤ length prefix → block prefix w ≤ block prefix v
  mono zero a b = absurd (omega arith)
  mono (suc v) a b =
      let here : w ≡ suc v → block prefix w ≡ block prefix (suc v) = ap (block prefix) in
      grind (arith, here, block_step prefix v, mono v)

  one_run : (v : ℕ) → w ≤ v → v ≤ length prefix → block prefix w ≡ block prefix v → (u : ℕ) → w ≤ u → u ≤ v → quantifier_of prefix u ≡ quantifier_of prefix w
  one_run zero a b e u c d = absurd (omega arith)
  one_run (suc v) a b e u c d =
      ⊎_elim (λ (q : w ≡ suc v). ap (quantifier_of prefix) (let z : u ≡ w = omega arith in z)) (λ (q : w ≡ suc v → ⊥). more (omega arith) (mono v (omega arith) (omega arith)) (one_run v (omega arith) (omega arith))) (cases_eq w (suc v))
    where
      more : w ≤ v → block prefix w ≤ block prefix v → (block prefix w ≡ block prefix v → (u : ℕ) → w ≤ u → u ≤ v → quantifier_of prefix u ≡ quantifier_of prefix w) → quantifier_of prefix u ≡ quantifier_of prefix w
      more f i ih = go (differ (quantifier_of prefix v) (quantifier_of prefix (suc v))) refl (e ∙ block_step prefix v (omega arith) (omega arith))
        where
          go : (x : Bool) → differ (quantifier_of prefix v) (quantifier_of prefix (suc v)) ≡ x → block prefix w ≡ cond x (suc (block prefix v)) (block prefix v) → quantifier_of prefix u ≡ quantifier_of prefix w
          go true p g = absurd (omega arith)
          go false p g =
              ⊎_elim (λ (q : u ≡ suc v). ap (quantifier_of prefix) q ∙ sym (same_quantifier (quantifier_of prefix v) (quantifier_of prefix (suc v)) p) ∙ ih g v f (omega arith))
              (λ (q : u ≡ suc v → ⊥). ih g u c (omega arith)) (cases_eq u (suc v))

  one_block : (v : ℕ) → w ≤ v → v ≤ length prefix → ((u : ℕ) → w ≤ u → u ≤ v → quantifier_of prefix u ≡ quantifier_of prefix w) → block prefix w ≡ block prefix v
  one_block zero a b f = absurd (omega arith)
  one_block (suc v) a b f = grind (arith, block_step prefix v, one_block v, differ_not, f v, f (suc v))

pub blocks : Blocks
blocks prefix w v a b c = (λ e. one_run prefix w a v b c e, λ f. one_block prefix w a v b c f)
