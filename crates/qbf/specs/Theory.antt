-- The theorems on tables, each for both sides. Assumes nothing.
use Rattle.std.specs.Prelude.{◌≡◌, ℕ, true, not, ◌↔◌, List, [], ◌∷◌, ◌++◌, map, Some}
use Rattle.qbf.specs.declared.quantifier.Quantifier.{Quantifier}
use Rattle.qbf.specs.declared.side.Side.{Side}
use Rattle.qbf.specs.Qbf.{variable, complement, has, In, rising, value, losing, opposite_side, opposite_quantifier, complemented, implied, reduce, unit, resolve, Consistent, Named}
use Rattle.qbf.specs.Trees.{Tree, Unbroken, Entails, Derived}

-- The law of the sides: with all quantifiers exchanged and all the table's codes complemented, under the same literals set,
-- the other side's table has the opposite value.
abbrev pub LawOfSides : Type 0
LawOfSides =
    (s : Side) (prefix : List Quantifier) (T : List (List ℕ)) (A : List ℕ) → Consistent A → Named prefix T
    → value (opposite_side s) (map opposite_quantifier prefix) (complemented T) A ≡ not (value s prefix T A)

-- A table is not lost exactly if some strategy of the own player breaks nothing of it.
abbrev pub Strategies : Type 0
Strategies =
    (s : Side) (prefix : List Quantifier) (T : List (List ℕ)) → Named prefix T
    → (value s prefix T [] ≡ not (losing s)) ↔ ((t : Tree s prefix) × Unbroken T t)

-- A table entails its constraints.
abbrev pub Members : Type 0
Members = (s : Side) (prefix : List Quantifier) (T : List (List ℕ)) (C : List ℕ) → In C T → Entails s prefix T C

-- Reducing keeps what a table entails.
abbrev pub Reducing : Type 0
Reducing =
    (s : Side) (prefix : List Quantifier) (T : List (List ℕ)) (C : List ℕ) → Named prefix (C ∷ []) → rising C ≡ true
    → Entails s prefix T C → Entails s prefix T (reduce s prefix C)

-- Resolving on the variable of p keeps what a table entails.
abbrev pub Resolving : Type 0
Resolving =
    (s : Side) (prefix : List Quantifier) (T : List (List ℕ)) (C D : List ℕ) (p : ℕ)
    → Named prefix (C ∷ []) → rising C ≡ true → rising D ≡ true → has C p ≡ true → has D (complement p) ≡ true
    → Entails s prefix T C → Entails s prefix T D → Entails s prefix T (resolve C D (variable p))

-- Any choice of entailed constraints, added, leaves the value.
abbrev pub AnyChoice : Type 0
AnyChoice =
    (s : Side) (prefix : List Quantifier) (T S : List (List ℕ)) → Named prefix T → Named prefix S
    → ((C : List ℕ) → In C S → Entails s prefix T C) → value s prefix (T ++ S) [] ≡ value s prefix T []

-- An entailed constraint without literals loses the table.
abbrev pub EmptyLoses : Type 0
EmptyLoses =
    (s : Side) (prefix : List Quantifier) (T : List (List ℕ)) → Named prefix T → Entails s prefix T [] → value s prefix T [] ≡ losing s

-- The same two of whatever reducing and resolving make of a table of rising constraints.
abbrev pub Learning : Type 0
Learning =
    (s : Side) (prefix : List Quantifier) (T S : List (List ℕ)) → Named prefix T → ((C : List ℕ) → In C T → rising C ≡ true)
    → ((C : List ℕ) → In C S → Derived s prefix T C)
    → (value s prefix (T ++ S) [] ≡ value s prefix T []) × (In [] S → value s prefix T [] ≡ losing s)

-- A unit constraint's literal is forced: setting what it implies leaves the value, setting the complement loses the table.
abbrev pub Forcing : Type 0
Forcing =
    (s : Side) (prefix : List Quantifier) (T : List (List ℕ)) (A C : List ℕ) (l : ℕ)
    → Consistent A → Named prefix T → In C T → rising C ≡ true → unit s prefix A C ≡ Some l
    → (value s prefix T (implied s l ∷ A) ≡ value s prefix T A) × (value s prefix T (complement (implied s l) ∷ A) ≡ losing s)
