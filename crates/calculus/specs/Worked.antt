-- Worked cases, over the definitions of the session. Assumes nothing.
use Rattle.std.specs.Prelude.{◌≡◌, ℕ, ◌+◌, Bool, true, false, not, ◌&&◌, List, [], ◌∷◌, ◌++◌, map, None, Option, nat_lt}
use Rattle.qbf.specs.declared.quantifier.Quantifier.{Quantifier}
use Rattle.qbf.specs.declared.quantifier.Quantifier.TheVariants.{Existential, Universal}
use Rattle.qbf.specs.declared.side.Side.{Side}
use Rattle.qbf.specs.declared.side.Side.TheVariants.{Clause, Cube}
use Rattle.qbf.specs.Qbf.{variable, quantifier_of, some, is_set, value}
use Rattle.qbf.specs.Worked.{prefix_m, prefix_n, clauses as clauses_m, cubes as cubes_m}
use Rattle.faults.specs.declared.refusal.Refusal.{Refusal}
use Rattle.faults.specs.declared.refusal.Refusal.TheVariants.{UnnamedVariable, VariableSet, EarlierBlockUnset}
use Rattle.faults.specs.Refusals.{number_of}
use Rattle.database.specs.Meaning.{Meaning}
use Rattle.calculus.specs.declared.answer.Answer.{Answer}
use Rattle.calculus.specs.declared.answer.Answer.TheVariants.{Taken, Stored, Refused}
use Rattle.calculus.specs.declared.call.Call.{Call}
use Rattle.calculus.specs.declared.call.Call.TheVariants.{Name, EndNaming, Put, Load, EndLoading, Imply, Decide, Undo, Begin, Resolve, Reduce, Store, Close}
use Rattle.calculus.specs.declared.stage.Stage.TheVariants.{Working, Closed}
use Rattle.calculus.specs.declared.verdict.Verdict.TheVariants.{False, True}
use Rattle.calculus.specs.Blocks.{differ, block, variables_from, earlier_unset}
use Rattle.calculus.specs.State.{State, literals, opening, is_named, first, check, effect, step}

-- A database of so many list cells: a constraint costs its length and 2.
abbrev pub cells_of : ℕ → Meaning
cells_of n = record { list = []; cells = n; left = n; cost = λ k. k + 2 }

abbrev pub opened_with : ℕ → State
opened_with n = opening (cells_of n) (cells_of n)

-- the state after the calls, the first call first, and the numbers of their answers, 0 for one that is taken
abbrev pub after : State → List Call → State
after σ [] = σ
after σ (c ∷ cs) = after (step σ c).0 cs

abbrev pub number : Answer → ℕ
number Taken = 0
number (Stored n) = 0
number (Refused r) = number_of r

abbrev pub answers : State → List Call → List ℕ
answers σ [] = []
answers σ (c ∷ cs) = number (step σ c).1 ∷ answers (step σ c).0 cs

-- the calls that name the variables of a prefix, and those that load a constraint
abbrev pub naming : List Quantifier → List Call
naming [] = EndNaming ∷ []
naming (q ∷ prefix) = Name q ∷ naming prefix

abbrev pub loading : Side → List ℕ → List Call
loading s C = map Put C ++ (Load s ∷ [])

-- M and N, loaded into 100 cells on each side
abbrev pub question : List Quantifier → State
question prefix =
    after (opened_with 100)
    (naming prefix
    ++ (loading Clause (2 ∷ 4 ∷ []) ++ (loading Clause (3 ∷ 5 ∷ [])
    ++ (loading Cube (2 ∷ 5 ∷ []) ++ (loading Cube (3 ∷ 4 ∷ []) ++ (EndLoading ∷ []))))))

abbrev pub M : State
M = question prefix_m

abbrev pub N : State
N = question prefix_n

-- existential, universal, existential, with cube {5}
abbrev pub three_blocks : State
three_blocks = after (opened_with 100) (naming (Existential ∷ Universal ∷ Existential ∷ []) ++ (loading Cube (5 ∷ []) ++ (EndLoading ∷ [])))

-- M's prefix with clause {4} alone
abbrev pub one_clause : State
one_clause = after (opened_with 100) (naming prefix_m ++ (loading Clause (4 ∷ []) ++ (EndLoading ∷ [])))

-- the derivation of the empty clause from M's clauses
abbrev pub derivation : List Call
derivation = Begin Clause 1 ∷ Reduce ∷ Store ∷ Begin Clause 2 ∷ Reduce ∷ Resolve 3 1 ∷ Store ∷ []

-- The grounds of a decision with a test of our own for what comes earlier.
abbrev pub deciding : (List Quantifier → List ℕ → ℕ → Bool) → State → ℕ → Option Refusal
deciding test σ l =
    first
    ((not (is_named σ.prefix (variable l)), UnnamedVariable)
    ∷ (is_set (literals σ.trail) (variable l), VariableSet)
    ∷ (test σ.prefix (literals σ.trail) (variable l), EarlierBlockUnset) ∷ [])

-- A laxer test: only variables of the other quantifier count as earlier.
abbrev pub other_unset : List Quantifier → List ℕ → ℕ → Bool
other_unset prefix A v =
    some (λ w. nat_lt (block prefix w) (block prefix v) && (differ (quantifier_of prefix w) (quantifier_of prefix v) && not (is_set A w))) (variables_from 1 prefix)

pub record Worked : Type 0 where
  -- all of the loading is taken, and the tables are those of the question
  pub m_loaded : (M.stage ≡ Working) × (M.clauses.list ≡ clauses_m) × (M.cubes.list ≡ cubes_m)
  pub n_loaded : (N.stage ≡ Working) × (N.clauses.list ≡ clauses_m) × (N.cubes.list ≡ cubes_m)
  -- both values of M are false, both of N true
  pub m_values : (value Clause M.prefix M.clauses.list [] ≡ false) × (value Cube M.prefix M.cubes.list [] ≡ false)
  pub n_values : (value Clause N.prefix N.clauses.list [] ≡ true) × (value Cube N.prefix N.cubes.list [] ≡ true)
  -- clause {2,4} reduces to {2} in M and stays whole in N
  pub m_reduces : (after M (Begin Clause 1 ∷ Reduce ∷ [])).working ≡ 2 ∷ []
  pub n_whole : (after N (Begin Clause 1 ∷ Reduce ∷ [])).working ≡ 2 ∷ 4 ∷ []
  -- in M clause 1 implies 2, then cube 1 implies 4; next, clause 2 gets 11
  pub m_implies : literals (after M (Imply Clause 1 ∷ Imply Cube 1 ∷ [])).trail ≡ 2 ∷ 4 ∷ []
  pub m_answers : answers M (Imply Clause 1 ∷ Imply Cube 1 ∷ Imply Clause 2 ∷ []) ≡ 0 ∷ 0 ∷ 11 ∷ []
  -- in N clauses 1 and 2 resolved on variable 2 get 15; with the effect that ignoring this would give, N would close with "false"
  pub n_second_clash : answers N (Begin Clause 1 ∷ Resolve 2 2 ∷ []) ≡ 0 ∷ 15 ∷ []
  pub n_ignoring : answers (effect (after N (Begin Clause 1 ∷ [])) (Resolve 2 2)).0 (Reduce ∷ Store ∷ Close False ∷ []) ≡ 0 ∷ 0 ∷ 0 ∷ []
  -- with three blocks cube {5} implies 4, and then deciding 6 gets 10; by the laxer test it would be taken
  pub blocks_implies : literals (after three_blocks (Imply Cube 1 ∷ [])).trail ≡ 4 ∷ []
  pub blocks_refuse : answers three_blocks (Imply Cube 1 ∷ Decide 6 ∷ []) ≡ 0 ∷ 10 ∷ []
  pub blocks_test : check (after three_blocks (Imply Cube 1 ∷ [])) (Decide 6) ≡ deciding earlier_unset (after three_blocks (Imply Cube 1 ∷ [])) 6
  pub blocks_lax : deciding other_unset (after three_blocks (Imply Cube 1 ∷ [])) 6 ≡ None
  -- in M code 5 is taken, 6 and 1 get 5
  pub puts_5 : answers (after (opened_with 100) (naming prefix_m)) (Put 5 ∷ []) ≡ 0 ∷ []
  pub puts_6 : answers (after (opened_with 100) (naming prefix_m)) (Put 6 ∷ []) ≡ 5 ∷ []
  pub puts_1 : answers (after (opened_with 100) (naming prefix_m)) (Put 1 ∷ []) ≡ 5 ∷ []
  -- 5 list cells take {2,4} and refuse the empty constraint with 16, 6 take both
  pub five_cells : answers (after (opened_with 5) (naming prefix_m)) (loading Clause (2 ∷ 4 ∷ []) ++ loading Clause []) ≡ 0 ∷ 0 ∷ 0 ∷ 16 ∷ []
  pub six_cells : answers (after (opened_with 6) (naming prefix_m)) (loading Clause (2 ∷ 4 ∷ []) ++ loading Clause []) ≡ 0 ∷ 0 ∷ 0 ∷ 0 ∷ []
  -- with clause {4} alone closing "false" gets 17, and is taken after begin, reduce, store
  pub one_clause_answers : answers one_clause (Close False ∷ Begin Clause 1 ∷ Reduce ∷ Store ∷ Close False ∷ []) ≡ 17 ∷ 0 ∷ 0 ∷ 0 ∷ 0 ∷ []
  -- without variables or constraints both closings get 17
  pub nothing : answers (after (opened_with 100) (EndNaming ∷ EndLoading ∷ [])) (Close False ∷ Close True ∷ []) ≡ 17 ∷ 17 ∷ []
  -- after one decision undo keeping 0 is taken, and keeping 1 gets 12
  pub undo_0 : answers M (Decide 2 ∷ Undo 0 ∷ []) ≡ 0 ∷ 0 ∷ []
  pub undo_1 : answers M (Decide 2 ∷ Undo 1 ∷ []) ≡ 0 ∷ 12 ∷ []
  -- the derivation for M closes with "false"; with "true" asked instead it gets 17
  pub closes_false : answers M (derivation ++ (Close False ∷ [])) ≡ 0 ∷ 0 ∷ 0 ∷ 0 ∷ 0 ∷ 0 ∷ 0 ∷ 0 ∷ []
  pub closed_false : (after M (derivation ++ (Close False ∷ []))).stage ≡ Closed False
  pub closes_true : answers M (derivation ++ (Close True ∷ [])) ≡ 0 ∷ 0 ∷ 0 ∷ 0 ∷ 0 ∷ 0 ∷ 0 ∷ 17 ∷ []
