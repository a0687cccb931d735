-- Worked examples of the definitions. Assumes nothing.
use Rattle.std.specs.Prelude.{◌≡◌, ℕ, true, false, List, [], ◌∷◌, map, Some, None}
use Rattle.qbf.specs.declared.quantifier.Quantifier.{Quantifier}
use Rattle.qbf.specs.declared.quantifier.Quantifier.TheVariants.{Existential, Universal}
use Rattle.qbf.specs.declared.side.Side.TheVariants.{Clause, Cube}
use Rattle.qbf.specs.Qbf.{formed, value, opposite_quantifier, complemented, reduce, unit, resolve}

-- M has variable 1 existential and 2 universal, N the quantifiers exchanged; the tables are the same.
abbrev pub prefix_m : List Quantifier
prefix_m = Existential ∷ Universal ∷ []

abbrev pub prefix_n : List Quantifier
prefix_n = map opposite_quantifier prefix_m

abbrev pub clauses : List (List ℕ)
clauses = (2 ∷ 4 ∷ []) ∷ (3 ∷ 5 ∷ []) ∷ []

abbrev pub cubes : List (List ℕ)
cubes = (2 ∷ 5 ∷ []) ∷ (3 ∷ 4 ∷ []) ∷ []

-- Values: M's tables are false, N's true; a table without clauses holds, one without cubes does not; with variable 1 set, M's clauses are still false.
abbrev pub Values : Type 0
Values =
    (value Clause prefix_m clauses [] ≡ false)
    × (value Cube prefix_m cubes [] ≡ false)
    × (value Clause prefix_n clauses [] ≡ true)
    × (value Cube prefix_n cubes [] ≡ true)
    × (value Clause prefix_m [] [] ≡ true)
    × (value Cube prefix_m [] [] ≡ false)
    × (value Clause prefix_m clauses (3 ∷ []) ≡ false)

-- The law of the sides at M's clauses: complemented, under N's prefix, as cubes, they have the opposite value.
abbrev pub Opposites : Type 0
Opposites = (complemented clauses ≡ (3 ∷ 5 ∷ []) ∷ (2 ∷ 4 ∷ []) ∷ []) × (value Cube prefix_n (complemented clauses) [] ≡ true)

-- Reduced, clause {2,4} is {2} in M and whole in N; a cube with no universal variable becomes empty.
abbrev pub Reductions : Type 0
Reductions =
    (reduce Clause prefix_m (2 ∷ 4 ∷ []) ≡ 2 ∷ [])
    × (reduce Clause prefix_n (2 ∷ 4 ∷ []) ≡ 2 ∷ 4 ∷ [])
    × (reduce Cube prefix_m (2 ∷ 5 ∷ []) ≡ 2 ∷ 5 ∷ [])
    × (reduce Cube prefix_m (2 ∷ []) ≡ [])

-- Resolved on variable 1, {2,4} and {3,4,6} are {4,6}.
abbrev pub Resolvents : Type 0
Resolvents = resolve (2 ∷ 4 ∷ []) (3 ∷ 4 ∷ 6 ∷ []) 1 ≡ 4 ∷ 6 ∷ []

-- In M clause {2,4} is unit with literal 2; then cube {2,5} is unit with literal 5, which implies 4; then clause {3,5} implies nothing.
abbrev pub Units : Type 0
Units =
    (unit Clause prefix_m [] (2 ∷ 4 ∷ []) ≡ Some 2)
    × (unit Cube prefix_m [] (2 ∷ 5 ∷ []) ≡ None)
    × (unit Cube prefix_m (2 ∷ []) (2 ∷ 5 ∷ []) ≡ Some 5)
    × (unit Clause prefix_m (4 ∷ 2 ∷ []) (3 ∷ 5 ∷ []) ≡ None)
    × (unit Clause prefix_m (5 ∷ []) (2 ∷ 5 ∷ []) ≡ None)

-- Codes 2, 5, 9 make a constraint; two codes of one variable, a code below 2 and one above 1025 do not.
abbrev pub Forms : Type 0
Forms =
    (formed (2 ∷ 5 ∷ 9 ∷ []) ≡ true)
    × (formed [] ≡ true)
    × (formed (4 ∷ 5 ∷ []) ≡ false)
    × (formed (5 ∷ 2 ∷ []) ≡ false)
    × (formed (1 ∷ []) ≡ false)
    × (formed (1025 ∷ []) ≡ true)
    × (formed (1026 ∷ []) ≡ false)
