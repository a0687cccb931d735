-- A session: what it holds, the grounds on which each call is refused, and what each call makes of the session.
-- Literals are codes and constraints lists of codes; variables and constraints are numbered from 1. Assumes nothing.
use Rattle.std.specs.Prelude.{ℕ, zero, suc, Bool, true, false, cond, not, ◌&&◌, ◌||◌, List, [], ◌∷◌, ◌++◌, map, length, is_none, Some, None, Ok, Err, Option, Result, ◌==◌, nat_le}
use Rattle.qbf.specs.declared.quantifier.Quantifier.{Quantifier}
use Rattle.qbf.specs.declared.side.Side.{Side}
use Rattle.qbf.specs.declared.side.Side.TheVariants.{Clause, Cube}
use Rattle.qbf.specs.Qbf.{variable, complement, setting, quantifier_of, has, some, is_set, own, implied, unit, reduce, resolve}
use Rattle.qbf.specs.Constraints.{last_variable}
use Rattle.faults.specs.declared.refusal.Refusal.{Refusal}
use Rattle.faults.specs.declared.refusal.Refusal.TheVariants.{WrongStage, TooManyVariables, UnnamedVariable, VariableNotAbove, LiteralsWaiting, NoSuchConstraint, VariableSet, EarlierBlockUnset, ImpliesNothing, KeepsEveryDecision, NotOwnQuantifier, NoClash, SecondClash, Full, NoEmptyConstraint}
use Rattle.database.specs.Codes.{codes_at}
use Rattle.database.specs.Meaning.{Meaning, emptied, added, numbered}
use Rattle.calculus.specs.declared.answer.Answer.{Answer}
use Rattle.calculus.specs.declared.answer.Answer.TheVariants.{Taken, Stored, Refused}
use Rattle.calculus.specs.declared.call.Call.{Call}
use Rattle.calculus.specs.declared.call.Call.TheVariants.{Name, EndNaming, Put, Load, EndLoading, Imply, Decide, Undo, Begin, Resolve, Reduce, Store, Abandon, Close}
use Rattle.calculus.specs.declared.stage.Stage.{Stage}
use Rattle.calculus.specs.declared.stage.Stage.TheVariants.{Naming, Loading, Working, Derivation, Closed}
use Rattle.calculus.specs.Blocks.{earlier_unset}
use Rattle.calculus.specs.Verdicts.{side_of}

-- THE STATE.

-- An entry of the trail: a decided literal, or an implied one with the side and the number of the constraint that implied it.
pub data Entry : Type 0 where
  decision : ℕ → Entry
  implication : ℕ → Side → ℕ → Entry

-- the literals that a trail sets
abbrev pub literal_of : Entry → ℕ
literal_of (decision l) = l
literal_of (implication l s n) = l

abbrev pub literals : List Entry → List ℕ
literals t = map literal_of t

-- The trail has its oldest entry first.
pub record State : Type 0 where
  pub prefix : List Quantifier
  pub stage : Stage
  pub trail : List Entry
  pub working : List ℕ
  pub clauses : Meaning
  pub cubes : Meaning

-- The opening empties both databases.
abbrev pub opening : Meaning → Meaning → State
opening m n = record { prefix = []; stage = Naming; trail = []; working = []; clauses = emptied m; cubes = emptied n }

-- what belongs to a side, of the clauses' and the cubes'
abbrev pub of_side : {X : Type 0} → Side → X → X → X
of_side Clause x y = x
of_side Cube x y = y

abbrev pub database : Side → State → Meaning
database s σ = of_side s σ.clauses σ.cubes

-- NOTIONS.

-- the constraint of a number, the empty one where there is none
abbrev pub constraint : List (List ℕ) → ℕ → List ℕ
constraint T n = codes_at T n

abbrev pub is_empty : List ℕ → Bool
is_empty [] = true
is_empty (l ∷ C) = false

-- v is a variable of the prefix
abbrev pub is_named : List Quantifier → ℕ → Bool
is_named prefix v = nat_le 1 v && nat_le v (length prefix)

-- The cells left suffice for the constraint.
abbrev pub fits : Meaning → List ℕ → Bool
fits m C = nat_le (m.cost (length C)) m.left

-- how many decisions stand on the trail
abbrev pub decisions : List Entry → ℕ
decisions [] = 0
decisions (decision l ∷ t) = suc (decisions t)
decisions (implication l s n ∷ t) = decisions t

-- the trail up to just before decision k + 1
abbrev pub cut : ℕ → List Entry → List Entry
cut k [] = []
cut k (implication l s n ∷ t) = implication l s n ∷ cut k t
cut zero (decision l ∷ t) = []
cut (suc k) (decision l ∷ t) = decision l ∷ cut k t

-- The literal that a unit constraint of the side implies.
abbrev pub implied_by : Side → Option ℕ → ℕ
implied_by s None = 0
implied_by s (Some l) = implied s l

-- C and D hold v with opposite signs; they hold another variable with opposite signs.
abbrev pub clash : List ℕ → List ℕ → ℕ → Bool
clash C D v = (has C (setting v true) && has D (setting v false)) || (has C (setting v false) && has D (setting v true))

abbrev pub second_clash : List ℕ → List ℕ → ℕ → Bool
second_clash C D v = some (λ l. not (variable l == v) && has D (complement l)) C

-- the side of a derivation; the other stages have none
abbrev pub derivation_side : Stage → Side
derivation_side Naming = Clause
derivation_side Loading = Clause
derivation_side Working = Clause
derivation_side (Derivation s) = s
derivation_side (Closed v) = Clause

-- REFUSALS. Each stage allows its own calls, and a closed session none.
abbrev pub allows : Stage → Call → Bool
allows Naming (Name q) = true
allows Naming EndNaming = true
allows Loading (Put l) = true
allows Loading (Load s) = true
allows Loading EndLoading = true
allows Working (Imply s n) = true
allows Working (Decide l) = true
allows Working (Undo k) = true
allows Working (Begin s n) = true
allows Working (Close v) = true
allows (Derivation s) (Resolve n v) = true
allows (Derivation s) Reduce = true
allows (Derivation s) Store = true
allows (Derivation s) Abandon = true
allows g c = false

-- A call that the stage allows may pass, another is refused for its stage.
abbrev pub admission : Stage → Call → Result (Unit {0}) Refusal
admission g c = cond (allows g c) (Ok tt) (Err WrongStage)

-- A ground: whether it holds, and the refusal that it is for.
abbrev pub Ground : Type 0
Ground = Bool × Refusal

-- The grounds on which a call may be refused beside its stage, in checking order.
abbrev pub grounds : State → Call → List Ground
grounds σ (Name q) = (nat_le 512 (length σ.prefix), TooManyVariables) ∷ []
grounds σ EndNaming = []
grounds σ (Put l) =
    (not (is_named σ.prefix (variable l)), UnnamedVariable)
    ∷ (nat_le (variable l) (last_variable σ.working), VariableNotAbove) ∷ []
grounds σ (Load s) = (not (fits (database s σ) σ.working), Full s) ∷ []
grounds σ EndLoading = (not (is_empty σ.working), LiteralsWaiting) ∷ []
grounds σ (Imply s n) =
    (is_none (numbered (database s σ).list n), NoSuchConstraint)
    ∷ (is_none (unit s σ.prefix (literals σ.trail) (constraint (database s σ).list n)), ImpliesNothing) ∷ []
grounds σ (Decide l) =
    (not (is_named σ.prefix (variable l)), UnnamedVariable)
    ∷ (is_set (literals σ.trail) (variable l), VariableSet)
    ∷ (earlier_unset σ.prefix (literals σ.trail) (variable l), EarlierBlockUnset) ∷ []
grounds σ (Undo k) = (nat_le (decisions σ.trail) k, KeepsEveryDecision) ∷ []
grounds σ (Begin s n) = (is_none (numbered (database s σ).list n), NoSuchConstraint) ∷ []
grounds σ (Resolve n v) =
    let s = derivation_side σ.stage in
    let D = constraint (database s σ).list n in
    (not (is_named σ.prefix v), UnnamedVariable)
    ∷ (is_none (numbered (database s σ).list n), NoSuchConstraint)
    ∷ (not (own s (quantifier_of σ.prefix v)), NotOwnQuantifier)
    ∷ (not (clash σ.working D v), NoClash)
    ∷ (second_clash σ.working D v, SecondClash) ∷ []
grounds σ Reduce = []
grounds σ Store = let s = derivation_side σ.stage in (not (fits (database s σ) σ.working), Full s) ∷ []
grounds σ Abandon = []
grounds σ (Close v) = (not (some is_empty (database (side_of v) σ).list), NoEmptyConstraint) ∷ []

-- the refusal of the first ground that holds
abbrev pub first : List Ground → Option Refusal
first [] = None
first (g ∷ gs) = cond g.0 (Some g.1) (first gs)

-- A call is refused for its stage first, then by its own grounds.
abbrev pub check : State → Call → Option Refusal
check σ c = first ((not (allows σ.stage c), WrongStage) ∷ grounds σ c)

-- EFFECTS.

-- the session at a stage, with a working constraint; with a trail; with a constraint added to a side's database
abbrev pub at : Stage → List ℕ → State → State
at g C σ = record { prefix = σ.prefix; stage = g; trail = σ.trail; working = C; clauses = σ.clauses; cubes = σ.cubes }

abbrev pub with_trail : List Entry → State → State
with_trail t σ = record { prefix = σ.prefix; stage = Working; trail = t; working = σ.working; clauses = σ.clauses; cubes = σ.cubes }

abbrev pub with_added : Side → List ℕ → State → State
with_added s C σ =
    record {
      prefix = σ.prefix;
      stage = σ.stage;
      trail = σ.trail;
      working = σ.working;
      clauses = of_side s (added σ.clauses C) σ.clauses;
      cubes = of_side s σ.cubes (added σ.cubes C);
    }

-- What a call makes of the session, and its answer, if no ground holds.
abbrev pub effect : State → Call → State × Answer
effect σ (Name q) =
    (record { prefix = σ.prefix ++ (q ∷ []); stage = Naming; trail = σ.trail; working = σ.working; clauses = σ.clauses; cubes = σ.cubes }, Taken)
effect σ EndNaming = (at Loading σ.working σ, Taken)
effect σ (Put l) = (at Loading (σ.working ++ (l ∷ [])) σ, Taken)
effect σ (Load s) = (at Loading [] (with_added s σ.working σ), Taken)
effect σ EndLoading = (at Working σ.working σ, Taken)
effect σ (Imply s n) =
    let l = implied_by s (unit s σ.prefix (literals σ.trail) (constraint (database s σ).list n)) in
    (with_trail (σ.trail ++ (implication l s n ∷ [])) σ, Taken)
effect σ (Decide l) = (with_trail (σ.trail ++ (decision l ∷ [])) σ, Taken)
effect σ (Undo k) = (with_trail (cut k σ.trail) σ, Taken)
effect σ (Begin s n) = (at (Derivation s) (constraint (database s σ).list n) σ, Taken)
effect σ (Resolve n v) =
    let s = derivation_side σ.stage in
    (at (Derivation s) (resolve σ.working (constraint (database s σ).list n) v) σ, Taken)
effect σ Reduce = let s = derivation_side σ.stage in (at (Derivation s) (reduce s σ.prefix σ.working) σ, Taken)
effect σ Store =
    let s = derivation_side σ.stage in
    (at Working [] (with_added s σ.working σ), Stored (suc (length (database s σ).list)))
effect σ Abandon = (at Working [] σ, Taken)
effect σ (Close v) = (at (Closed v) σ.working σ, Taken)

-- A refusal leaves the session as it was.
abbrev pub answered : State → Call → Option Refusal → State × Answer
answered σ c (Some r) = (σ, Refused r)
answered σ c None = effect σ c

abbrev pub step : State → Call → State × Answer
step σ c = answered σ c (check σ c)
