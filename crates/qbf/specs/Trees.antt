-- What a table entails: every way for the side's own player to win against the table wins against the constraint too. Assumes nothing.
use Rattle.std.specs.Prelude.{◌≡◌, ℕ, suc, Bool, true, false, List, [], ◌∷◌}
use Rattle.qbf.specs.declared.quantifier.Quantifier.{Quantifier}
use Rattle.qbf.specs.declared.side.Side.{Side}
use Rattle.qbf.specs.Qbf.{variable, complement, setting, quantifier_of, has, every, some, In, own, against, reduce, resolve}

-- A constraint is broken when all its literals are against the side: a clause's false, a cube's true.
abbrev pub breaks : Side → List ℕ → List ℕ → Bool
breaks s A C = every (λ l. has A (against s l)) C

-- A strategy of the side's own player, as a tree over the prefix: one setting at each own variable, both at each other.
pub data Tree (s : Side) : List Quantifier → Type 0 where
  done : Tree s []
  mine : {q : Quantifier} {prefix : List Quantifier} → own s q ≡ true → Bool → Tree s prefix → Tree s (q ∷ prefix)
  theirs : {q : Quantifier} {prefix : List Quantifier} → own s q ≡ false → Tree s prefix → Tree s prefix → Tree s (q ∷ prefix)

-- P holds at each leaf, of the literals set on the way to it; the tree begins at variable v, with A set above it.
abbrev pub Leaves : {s : Side} {prefix : List Quantifier} → (List ℕ → Type 0) → ℕ → List ℕ → Tree s prefix → Type 0
Leaves P v A done = P A
Leaves P v A (mine o b t) = Leaves P (suc v) (setting v b ∷ A) t
Leaves P v A (theirs o t u) = Leaves P (suc v) (setting v true ∷ A) t × Leaves P (suc v) (setting v false ∷ A) u

-- At no leaf is a constraint of the table broken.
abbrev pub Unbroken : {s : Side} {prefix : List Quantifier} → List (List ℕ) → Tree s prefix → Type 0
Unbroken {s} T t = Leaves (λ A. some (λ C. breaks s A C) T ≡ false) 1 [] t

-- Every strategy that breaks nothing of T breaks C nowhere.
abbrev pub Entails : Side → List Quantifier → List (List ℕ) → List ℕ → Type 0
Entails s prefix T C = (t : Tree s prefix) → Unbroken T t → Leaves (λ A. breaks s A C ≡ false) 1 [] t

-- What reducing and resolving make of a table. Two constraints are resolved on an own variable that they hold with opposite signs, and no other.
pub data Derived (s : Side) (prefix : List Quantifier) (T : List (List ℕ)) : List ℕ → Type 0 where
  stated : {C : List ℕ} → In C T → Derived s prefix T C
  reducing : {C : List ℕ} → Derived s prefix T C → Derived s prefix T (reduce s prefix C)
  resolving : {C D : List ℕ} (p : ℕ) → own s (quantifier_of prefix (variable p)) ≡ true → has C p ≡ true → has D (complement p) ≡ true
      → ((l : ℕ) → has C l ≡ true → has D (complement l) ≡ true → variable l ≡ variable p)
      → Derived s prefix T C → Derived s prefix T D → Derived s prefix T (resolve C D (variable p))
