-- Quantified Boolean formulas as tables of clauses and tables of cubes: literals, the value of a table, the two sides,
-- and what the calculus makes of constraints (reduce, unit, resolve). Assumes nothing.
use Rattle.std.specs.Prelude.{◌≡◌, ℕ, suc, pred, ◌+◌, ◌-◌, ◌*◌, ◌/◌, ◌%◌, ◌≤◌, Bool, true, false, cond, not, ◌&&◌, ◌||◌, ◌⊎◌, List, [], ◌∷◌, map, length, Some, None, filter, Option, ◌==◌, ◌≢◌, nat_le, nat_lt, slice_index_or}
use Rattle.qbf.specs.declared.quantifier.Quantifier.{Quantifier}
use Rattle.qbf.specs.declared.quantifier.Quantifier.TheVariants.{Existential, Universal}
use Rattle.qbf.specs.declared.side.Side.{Side}
use Rattle.qbf.specs.declared.side.Side.TheVariants.{Clause, Cube}

-- LITERALS. Variables are numbered from 1; variable v has the vth quantifier of the prefix.

-- The variable of a literal's code: 2v is the code of v itself, 2v + 1 that of its negation.
abbrev pub variable : ℕ → ℕ
variable l = l / 2

-- The complement differs in the last bit only.
abbrev pub complement : ℕ → ℕ
complement l = l + 1 - 2 * (l % 2)

-- The literal that sets v to a value.
abbrev pub setting : ℕ → Bool → ℕ
setting v true = 2 * v
setting v false = 2 * v + 1

abbrev pub quantifier_of : List Quantifier → ℕ → Quantifier
quantifier_of prefix v = slice_index_or prefix (pred v) Existential

-- LISTS. Whether a code is in a list, whether a test holds of every item, or of some; an item of a list.

abbrev pub has : List ℕ → ℕ → Bool
has [] l = false
has (m ∷ ms) l = l == m || has ms l

abbrev pub every : {X : Type 0} → (X → Bool) → List X → Bool
every p [] = true
every p (x ∷ xs) = p x && every p xs

abbrev pub some : {X : Type 0} → (X → Bool) → List X → Bool
some p [] = false
some p (x ∷ xs) = p x || some p xs

abbrev pub In : {X : Type 0} → X → List X → Type 0
In x [] = ⊥
In x (y ∷ ys) = (x ≡ y) ⊎ In x ys

-- CONSTRAINTS are lists of codes; the codes are from 2 to 1025 and the variables strictly rise.

abbrev pub is_code : ℕ → Bool
is_code l = nat_le 2 l && nat_le l 1025

-- Each variable is below all that follow.
abbrev pub rising : List ℕ → Bool
rising [] = true
rising (l ∷ C) = every (λ m. nat_lt (variable l) (variable m)) C && rising C

abbrev pub formed : List ℕ → Bool
formed C = every is_code C && rising C

-- THE VALUE OF A TABLE, a list of constraints, under the literals that are set. A literal is true when its code is among them.

abbrev pub is_set : List ℕ → ℕ → Bool
is_set A v = has A (setting v true) || has A (setting v false)

-- A clause holds when some literal is true, a cube when all are.
abbrev pub holds : Side → List ℕ → List ℕ → Bool
holds Clause C A = some (λ l. has A l) C
holds Cube C A = every (λ l. has A l) C

-- A clause table holds when all its clauses do, a cube table when at least one cube does.
abbrev pub table_holds : Side → List (List ℕ) → List ℕ → Bool
table_holds Clause T A = every (λ C. holds Clause C A) T
table_holds Cube T A = some (λ C. holds Cube C A) T

-- At an existential variable one of the two settings must give true, at a universal one both.
abbrev pub one_or_both : Quantifier → Bool → Bool → Bool
one_or_both Existential a b = a || b
one_or_both Universal a b = a && b

-- From variable v upward, whose quantifiers are listed: a set variable is passed over, and past the last the table must hold.
abbrev pub value_from : ℕ → Side → List Quantifier → List (List ℕ) → List ℕ → Bool
value_from v s [] T A = table_holds s T A
value_from v s (q ∷ prefix) T A =
    cond (is_set A v) (value_from (suc v) s prefix T A)
    (one_or_both q (value_from (suc v) s prefix T (setting v true ∷ A)) (value_from (suc v) s prefix T (setting v false ∷ A)))

abbrev pub value : Side → List Quantifier → List (List ℕ) → List ℕ → Bool
value s prefix T A = value_from 1 s prefix T A

-- THE SIDES. A side's own quantifier, and the value at which its table is lost.

abbrev pub own : Side → Quantifier → Bool
own Clause Existential = true
own Clause Universal = false
own Cube Existential = false
own Cube Universal = true

abbrev pub losing : Side → Bool
losing Clause = false
losing Cube = true

abbrev pub opposite_side : Side → Side
opposite_side Clause = Cube
opposite_side Cube = Clause

abbrev pub opposite_quantifier : Quantifier → Quantifier
opposite_quantifier Existential = Universal
opposite_quantifier Universal = Existential

-- Every code of the table complemented.
abbrev pub complemented : List (List ℕ) → List (List ℕ)
complemented T = map (λ C. map complement C) T

-- The setting that a unit constraint of the side implies of its literal: it makes a clause's literal true, a cube's false.
abbrev pub implied : Side → ℕ → ℕ
implied Clause l = l
implied Cube l = complement l

-- The setting that goes against the side: false of a clause's literal, true of a cube's.
abbrev pub against : Side → ℕ → ℕ
against Clause l = complement l
against Cube l = l

-- THE CALCULUS, for both sides.

-- An own literal of C stands at variable v or after it.
abbrev pub own_from : Side → List Quantifier → List ℕ → ℕ → Bool
own_from s prefix C v = some (λ m. own s (quantifier_of prefix (variable m)) && nat_le v (variable m)) C

-- Reduce: the literals of the other quantifier that come after every own literal go; with no own literal, all go.
abbrev pub reduce : Side → List Quantifier → List ℕ → List ℕ
reduce s prefix C = filter (λ l. own_from s prefix C (variable l)) C

-- The literals of C whose variables are not set.
abbrev pub unset : List ℕ → List ℕ → List ℕ
unset A C = filter (λ l. not (is_set A (variable l))) C

abbrev pub only : List ℕ → Option ℕ
only [] = None
only (l ∷ []) = Some l
only (l ∷ m ∷ C) = None

-- Unit: where no literal of the clause is true (of the cube: false), and without its set literals, reduced, one literal is left, that one.
abbrev pub unit : Side → List Quantifier → List ℕ → List ℕ → Option ℕ
unit s prefix A C = cond (some (λ l. has A (implied s l)) C) None (only (reduce s prefix (unset A C)))

-- A code put into its place among rising codes; one that is there already stays single.
abbrev pub insert : ℕ → List ℕ → List ℕ
insert l [] = l ∷ []
insert l (m ∷ C) = cond (nat_lt l m) (l ∷ m ∷ C) (cond (l == m) (m ∷ C) (m ∷ insert l C))

abbrev pub merge : List ℕ → List ℕ → List ℕ
merge [] D = D
merge (l ∷ C) D = insert l (merge C D)

abbrev pub without : ℕ → List ℕ → List ℕ
without x C = filter (λ l. not (variable l == x)) C

-- Resolve on x: both lists joined without x, the variables rising, a literal of both once.
abbrev pub resolve : List ℕ → List ℕ → ℕ → List ℕ
resolve C D x = merge (without x C) (without x D)

-- CONDITIONS. No literal is set both ways; every literal of the table belongs to a variable of the prefix.

abbrev pub Consistent : List ℕ → Type 0
Consistent A = (l : ℕ) → has A l ≡ true → has A (complement l) ≢ true

abbrev pub Named : List Quantifier → List (List ℕ) → Type 0
Named prefix T = (C : List ℕ) → In C T → (l : ℕ) → has C l ≡ true → (1 ≤ variable l) × (variable l ≤ length prefix)
