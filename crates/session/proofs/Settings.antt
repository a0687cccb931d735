-- Implying and deciding: the literal can be appended, and the trail then is what the rule gives. Assumes nothing.
use Rattle.std.proofs.Common.{◌≡◌, ℕ, ◌≤◌, Bool, true, false, cond, not, leb, List, [], ◌∷◌, ◌++◌, length, is_none, Some, None, Ok, Err, sym, ap, ◌∙◌, subst, arith}
use Rattle.std.proofs.lemmas.Bool.{and_parts, cond-true, cond-false, leb-true}
use Rattle.qbf.specs.declared.quantifier.Quantifier.{Quantifier}
use Rattle.qbf.specs.declared.side.Side.{Side}
use Rattle.qbf.specs.declared.side.Side.TheVariants.{Clause, Cube}
use Rattle.qbf.specs.Qbf.{variable, In, every, is_code, is_set, rising, formed, implied, unit}
use Rattle.qbf.proofs.Basics.{every_in, implied_variable}
use Rattle.qbf.proofs.Complements.{code_complement}
use Rattle.qbf.proofs.Formed.{code_from}
use Rattle.qbf.proofs.Forced.{unit_is, unit_forces}
use Rattle.faults.specs.declared.refusal.Refusal.TheVariants.{NoSuchConstraint, ImpliesNothing, UnnamedVariable, VariableSet as AlreadySet, EarlierBlockUnset}
use Rattle.database.specs.Meaning.{Meaning, Lawful, numbered}
use Rattle.calculus.specs.declared.answer.Answer.{Answer}
use Rattle.calculus.specs.declared.answer.Answer.TheVariants.{Taken}
use Rattle.calculus.specs.declared.call.Call.TheVariants.{Imply, Decide}
use Rattle.calculus.specs.declared.stage.Stage.{Stage}
use Rattle.calculus.specs.declared.stage.Stage.TheVariants.{Working}
use Rattle.calculus.specs.Blocks.{earlier_unset}
use Rattle.calculus.specs.State.{State, Entry, Ground, implication, literals, of_side, database, constraint, is_named, implied_by, allows, check, effect, with_trail}
use Rattle.calculus.proofs.Keeping.{at_home}
use Rattle.operations.specs.declared.trail.NotAppended.TheVariants.{NoCode, VariableSet}
use Rattle.operations.specs.Trails.{may_append}
use Rattle.session.proofs.Steps.{allowed, hit, miss}

in_range : (l : ℕ) → is_code l ≡ true → (2 ≤ l) × (l ≤ 1025)
in_range l c = let p = and_parts (leb 2 l) (leb l 1025) c in (leb-true 2 l p.0, leb-true l 1025 p.1)

implied_code : (s : Side) (l : ℕ) → is_code l ≡ true → is_code (implied s l) ≡ true
implied_code Clause l c = c
implied_code Cube l c = code_complement l c

-- what a unit constraint implies may be appended
pub implied_free : (s : Side) (prefix : List Quantifier) (t : List Entry) (C : List ℕ) (l : ℕ) → formed C ≡ true → unit s prefix (literals t) C ≡ Some l → may_append t (implied s l) ≡ Ok tt
implied_free s prefix t C l f u =
    let codes = (and_parts (every is_code C) (rising C) f).0 in
    let w = unit_forces s prefix (literals t) C l (λ m h. let r = in_range m (every_in is_code C m codes h) in let a = r.0 in omega arith) (unit_is s prefix (literals t) C l u) in
    cond-true (is_code (implied s l)) (cond (is_set (literals t) (variable (implied s l))) (Err VariableSet) (Ok tt)) (Err NoCode) (implied_code s l (every_in is_code C l codes w.1))
    ∙ cond-false (is_set (literals t) (variable (implied s l))) (Err VariableSet) (Ok tt) (subst (λ v. is_set (literals t) v ≡ false) (sym (implied_variable s l)) w.0.free)

-- every constraint of a side's list is well formed
pub side_formed : (s : Side) (m n : Meaning) → Lawful m → Lawful n → (C : List ℕ) → In C (of_side s m n).list → formed C ≡ true
side_formed Clause m n v w = v.formed
side_formed Cube m n v w = w.formed

-- what is appended, where it is taken
pub appended : (taken : Bool) (t u : List Entry) (e : Entry) → u ≡ cond taken (t ++ (e ∷ [])) t → taken ≡ true → u ≡ t ++ (e ∷ [])
appended taken t u e q h = q ∙ cond-true taken (t ++ (e ∷ [])) t h

-- a code of a named variable is a code
pub named_code : (prefix : List Quantifier) (l : ℕ) → length prefix ≤ 512 → is_named prefix (variable l) ≡ true → is_code l ≡ true
named_code prefix l few h =
    let p = and_parts (leb 1 (variable l)) (leb (variable l) (length prefix)) h in
    let a = leb-true 1 (variable l) p.0 in
    let b = leb-true (variable l) (length prefix) p.1 in
    code_from l (omega arith) (omega arith)

pub imply_passes : (σ : State) (s : Side) (n l : ℕ) → allows σ.stage (Imply s n) ≡ true → is_none (numbered (database s σ).list n) ≡ false
    → unit s σ.prefix (literals σ.trail) (constraint (database s σ).list n) ≡ Some l → check σ (Imply s n) ≡ None
imply_passes σ s n l a t u =
    allowed σ (Imply s n) a ∙ miss (is_none (numbered (database s σ).list n)) NoSuchConstraint ((is_none (unit s σ.prefix (literals σ.trail) (constraint (database s σ).list n)), ImpliesNothing) ∷ []) t
    ∙ miss (is_none (unit s σ.prefix (literals σ.trail) (constraint (database s σ).list n))) ImpliesNothing [] (ap is_none u)

-- deciding, refused by each of its grounds
module _ (σ : State) (l : ℕ) (a : allows σ.stage (Decide l) ≡ true) where
  abbrev unset : Ground
  unset = (earlier_unset σ.prefix (literals σ.trail) (variable l), EarlierBlockUnset)

  abbrev already : Ground
  already = (is_set (literals σ.trail) (variable l), AlreadySet)

  pub decide_unnamed : is_named σ.prefix (variable l) ≡ false → check σ (Decide l) ≡ Some UnnamedVariable
  decide_unnamed n = allowed σ (Decide l) a ∙ hit (not (is_named σ.prefix (variable l))) UnnamedVariable (already ∷ unset ∷ []) (ap not n)

  pub decide_set : is_named σ.prefix (variable l) ≡ true → is_set (literals σ.trail) (variable l) ≡ true → check σ (Decide l) ≡ Some AlreadySet
  decide_set n u =
      allowed σ (Decide l) a ∙ miss (not (is_named σ.prefix (variable l))) UnnamedVariable (already ∷ unset ∷ []) (ap not n)
      ∙ hit (is_set (literals σ.trail) (variable l)) AlreadySet (unset ∷ []) u

  pub decide_early : is_named σ.prefix (variable l) ≡ true → is_set (literals σ.trail) (variable l) ≡ false → earlier_unset σ.prefix (literals σ.trail) (variable l) ≡ true
      → check σ (Decide l) ≡ Some EarlierBlockUnset
  decide_early n u e =
      allowed σ (Decide l) a ∙ miss (not (is_named σ.prefix (variable l))) UnnamedVariable (already ∷ unset ∷ []) (ap not n)
      ∙ miss (is_set (literals σ.trail) (variable l)) AlreadySet (unset ∷ []) u
      ∙ hit (earlier_unset σ.prefix (literals σ.trail) (variable l)) EarlierBlockUnset [] e

-- a state with another trail, at the stage Working
pub trailed : (σ : State) (t u : List Entry) → σ.stage ≡ Working → t ≡ u
    → ◌≡◌ {A = State × Answer} (record { prefix = σ.prefix; stage = σ.stage; trail = t; working = σ.working; clauses = σ.clauses; cubes = σ.cubes }, Taken) (with_trail u σ, Taken)
trailed σ t u g e =
    ap (λ (x : Stage). (record { prefix = σ.prefix; stage = x; trail = t; working = σ.working; clauses = σ.clauses; cubes = σ.cubes }, Taken)) g
    ∙ ap (λ (x : List Entry). (with_trail x σ, Taken)) e

pub imply_effect : (σ : State) (s : Side) (n l : ℕ) (t : List Entry) → allows σ.stage (Imply s n) ≡ true
    → unit s σ.prefix (literals σ.trail) (constraint (database s σ).list n) ≡ Some l → t ≡ σ.trail ++ (implication (implied s l) s n ∷ [])
    → ◌≡◌ {A = State × Answer} (record { prefix = σ.prefix; stage = σ.stage; trail = t; working = σ.working; clauses = σ.clauses; cubes = σ.cubes }, Taken) (effect σ (Imply s n))
imply_effect σ s n l t a u e =
    trailed σ t _ (at_home σ.stage (Imply s n) a) (e ∙ ap (λ x. σ.trail ++ (implication x s n ∷ [])) (sym (ap (implied_by s) u)))
