-- The blocks of a prefix. Assumes nothing.
use Rattle.std.specs.Prelude.{◌≡◌, ℕ, suc, ◌≤◌, Bool, true, false, cond, not, ◌&&◌, ◌↔◌, List, [], ◌∷◌, length, take, nat_lt}
use Rattle.qbf.specs.declared.quantifier.Quantifier.{Quantifier}
use Rattle.qbf.specs.declared.quantifier.Quantifier.TheVariants.{Existential, Universal}
use Rattle.qbf.specs.Qbf.{quantifier_of, some, is_set}

abbrev pub differ : Quantifier → Quantifier → Bool
differ Existential Existential = false
differ Existential Universal = true
differ Universal Existential = true
differ Universal Universal = false

-- how often the quantifier changes from one variable to the next
abbrev pub changes : List Quantifier → ℕ
changes [] = 0
changes (q ∷ []) = 0
changes (q ∷ r ∷ prefix) = cond (differ q r) (suc (changes (r ∷ prefix))) (changes (r ∷ prefix))

-- A block is a longest run of neighbouring variables of one quantifier. A variable's block is told by the changes up to it.
abbrev pub block : List Quantifier → ℕ → ℕ
block prefix v = changes (take v prefix)

-- Two variables are in one block exactly if all from the one to the other have one quantifier.
abbrev pub Blocks : Type 0
Blocks =
    (prefix : List Quantifier) (w v : ℕ) → 1 ≤ w → w ≤ v → v ≤ length prefix
    → (block prefix w ≡ block prefix v) ↔ ((u : ℕ) → w ≤ u → u ≤ v → quantifier_of prefix u ≡ quantifier_of prefix w)

-- the variables from v upward, one for each quantifier listed
abbrev pub variables_from : ℕ → List Quantifier → List ℕ
variables_from v [] = []
variables_from v (q ∷ prefix) = v ∷ variables_from (suc v) prefix

-- Some variable of a block before v's is not set.
abbrev pub earlier_unset : List Quantifier → List ℕ → ℕ → Bool
earlier_unset prefix A v = some (λ w. nat_lt (block prefix w) (block prefix v) && not (is_set A w)) (variables_from 1 prefix)
