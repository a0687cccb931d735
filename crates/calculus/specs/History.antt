-- What a history tells, in the words of the subject, and what holds of every one. Assumes nothing.
use Rattle.std.specs.Prelude.{◌≡◌, ℕ, ◌≤◌, Bool, true, false, cond, not, ◌&&◌, List, [], ◌∷◌, ◌++◌, map, length, Some, None, filter, Option}
use Rattle.qbf.specs.declared.quantifier.Quantifier.{Quantifier}
use Rattle.qbf.specs.declared.side.Side.{Side}
use Rattle.qbf.specs.declared.side.Side.TheVariants.{Clause, Cube}
use Rattle.qbf.specs.Qbf.{complement, In, formed as is_formed, value, losing, unit, reduce, resolve}
use Rattle.database.specs.Meaning.{Meaning, Lawful}
use Rattle.calculus.specs.declared.answer.Answer.{Answer}
use Rattle.calculus.specs.declared.answer.Answer.TheVariants.{Taken, Stored, Refused}
use Rattle.calculus.specs.declared.call.Call.{Call}
use Rattle.calculus.specs.declared.call.Call.TheVariants.{Name, EndNaming, Put, Load, EndLoading, Imply, Decide, Undo, Begin, Resolve, Reduce, Store, Abandon, Close}
use Rattle.calculus.specs.declared.stage.Stage.{Stage}
use Rattle.calculus.specs.declared.stage.Stage.TheVariants.{Naming, Loading, Working, Derivation, Closed}
use Rattle.calculus.specs.declared.verdict.Verdict.{Verdict}
use Rattle.calculus.specs.Verdicts.{side_of, value_of}
use Rattle.calculus.specs.State.{Entry, decision, implication, literals, State, opening, database, constraint, cut, implied_by, step}

-- A call with its answer.
abbrev pub Event : Type 0
Event = Call × Answer

-- A history from an opening over two databases, the latest event first, and the state after it: each answer is the one that is given.
pub data Happens (m n : Meaning) : List Event → State → Type 0 where
  opened : Happens m n [] (opening m n)
  called : {h : List Event} {σ : State} (c : Call) → Happens m n h σ → Happens m n ((c, (step σ c).1) ∷ h) (step σ c).0

-- A call is taken if its answer is no refusal.
abbrev pub is_taken : Answer → Bool
is_taken Taken = true
is_taken (Stored n) = true
is_taken (Refused r) = false

-- the taken calls, the latest first
abbrev pub taken_calls : List Event → List Call
taken_calls [] = []
taken_calls (e ∷ h) = cond (is_taken e.1) (e.0 ∷ taken_calls h) (taken_calls h)

-- THE WORDS OF A HISTORY, from its taken calls alone.

-- A constraint that a load or a store added to a side.
pub data Origin : Type 0 where
  by_load by_store : Origin

pub record Addition : Type 0 where
  pub side : Side
  pub origin : Origin
  pub codes : List ℕ

pub record Words : Type 0 where
  -- the quantifiers of the variables named
  pub prefix : List Quantifier
  -- the codes put since the last load of either side, or since the opening
  pub waiting : List ℕ
  -- what loads and stores added, in their order
  pub additions : List Addition
  -- the side that the last beginning names, and what it copied, as resolving and reducing changed it since
  pub begun : Side
  pub derived : List ℕ
  -- what implying and deciding appended and no undoing has cut since, the oldest first
  pub trail : List Entry
  -- what the closing states
  pub verdict : Option Verdict

-- The constraints among the additions that pass a test, and those of a side.
abbrev pub picked : (Addition → Bool) → List Addition → List (List ℕ)
picked p xs = map (λ a. a.codes) (filter p xs)

abbrev pub same : Side → Side → Bool
same Clause Clause = true
same Clause Cube = false
same Cube Clause = false
same Cube Cube = true

abbrev pub on_side : Side → List Addition → List (List ℕ)
on_side s xs = picked (λ a. same s a.side) xs

-- The words with one of them changed.
abbrev names : Quantifier → Words → Words
names q w = record { prefix = w.prefix ++ (q ∷ []); waiting = w.waiting; additions = w.additions; begun = w.begun; derived = w.derived; trail = w.trail; verdict = w.verdict }

abbrev waits : List ℕ → Words → Words
waits C w = record { prefix = w.prefix; waiting = C; additions = w.additions; begun = w.begun; derived = w.derived; trail = w.trail; verdict = w.verdict }

abbrev adds : Side → Origin → List ℕ → Words → Words
adds s o C w =
    let a : Addition = record { side = s; origin = o; codes = C } in
    record { prefix = w.prefix; waiting = w.waiting; additions = w.additions ++ (a ∷ []); begun = w.begun; derived = w.derived; trail = w.trail; verdict = w.verdict }

abbrev derives : Side → List ℕ → Words → Words
derives s C w = record { prefix = w.prefix; waiting = w.waiting; additions = w.additions; begun = s; derived = C; trail = w.trail; verdict = w.verdict }

abbrev trails : List Entry → Words → Words
trails t w = record { prefix = w.prefix; waiting = w.waiting; additions = w.additions; begun = w.begun; derived = w.derived; trail = t; verdict = w.verdict }

abbrev closes : Verdict → Words → Words
closes v w = record { prefix = w.prefix; waiting = w.waiting; additions = w.additions; begun = w.begun; derived = w.derived; trail = w.trail; verdict = Some v }

-- What one more taken call tells. Number n on a side is the nth constraint that loads and stores added there.
abbrev pub tells : Words → Call → Words
tells w (Name q) = names q w
tells w EndNaming = w
tells w (Put l) = waits (w.waiting ++ (l ∷ [])) w
tells w (Load s) = waits [] (adds s by_load w.waiting w)
tells w EndLoading = w
tells w (Imply s n) =
    let l = implied_by s (unit s w.prefix (literals w.trail) (constraint (on_side s w.additions) n)) in
    trails (w.trail ++ (implication l s n ∷ [])) w
tells w (Decide l) = trails (w.trail ++ (decision l ∷ [])) w
tells w (Undo k) = trails (cut k w.trail) w
tells w (Begin s n) = derives s (constraint (on_side s w.additions) n) w
tells w (Resolve n v) = derives w.begun (resolve w.derived (constraint (on_side w.begun w.additions) n) v) w
tells w Reduce = derives w.begun (reduce w.begun w.prefix w.derived) w
tells w Store = adds w.begun by_store w.derived w
tells w Abandon = w
tells w (Close v) = closes v w

-- Before the first call nothing is told; no beginning names a side yet.
abbrev pub told : List Call → Words
told [] = record { prefix = []; waiting = []; additions = []; begun = Clause; derived = []; trail = []; verdict = None }
told (c ∷ h) = tells (told h) c

abbrev pub is_load : Origin → Bool
is_load by_load = true
is_load by_store = false

-- The constraints of a side: all of them, the loaded ones, the stored ones.
abbrev pub all_of : Side → List Call → List (List ℕ)
all_of s h = on_side s (told h).additions

abbrev pub loaded_of : Side → List Call → List (List ℕ)
loaded_of s h = picked (λ a. same s a.side && is_load a.origin) (told h).additions

abbrev pub stored_of : Side → List Call → List (List ℕ)
stored_of s h = picked (λ a. same s a.side && not (is_load a.origin)) (told h).additions

-- WHAT HOLDS AFTER EVERY CALL.

pub record Sound (h : List Call) : Type 0 where
  -- closed with "false", the loaded clauses have the value false; with "true", the loaded cubes the value true
  pub verdict : (v : Verdict) → (told h).verdict ≡ Some v → value (side_of v) (told h).prefix (loaded_of (side_of v) h) [] ≡ value_of v
  -- any choice S of a side's stored constraints leaves the value of its loaded ones
  pub stored : (s : Side) (S : List (List ℕ)) → ((C : List ℕ) → In C S → In C (stored_of s h))
      → value s (told h).prefix (loaded_of s h ++ S) [] ≡ value s (told h).prefix (loaded_of s h) []
  -- an implied literal p, set after those before it, keeps the value of all that its side now has, and its complement loses it
  pub forced : (s : Side) (before after : List Entry) (p n : ℕ) → (told h).trail ≡ before ++ (implication p s n ∷ after)
      → (value s (told h).prefix (all_of s h) (p ∷ literals before) ≡ value s (told h).prefix (all_of s h) (literals before))
      × (value s (told h).prefix (all_of s h) (complement p ∷ literals before) ≡ losing s)

abbrev pub EverySound : Type 0
EverySound = (m n : Meaning) (h : List Event) (σ : State) → Happens m n h σ → Sound (taken_calls h)

-- What the history tells is what the session holds: the working constraint waits, or is derived, or is empty.
abbrev pub held : Stage → List Call → List ℕ
held Naming h = (told h).waiting
held Loading h = (told h).waiting
held Working h = []
held (Derivation s) h = (told h).derived
held (Closed v) h = []

abbrev pub verdict_at : Stage → Option Verdict
verdict_at Naming = None
verdict_at Loading = None
verdict_at Working = None
verdict_at (Derivation s) = None
verdict_at (Closed v) = Some v

pub record Agrees (h : List Call) (σ : State) : Type 0 where
  pub prefix : σ.prefix ≡ (told h).prefix
  pub lists : (s : Side) → (database s σ).list ≡ all_of s h
  -- all that were loaded come before all that were stored
  pub parts : (s : Side) → all_of s h ≡ loaded_of s h ++ stored_of s h
  pub trail : σ.trail ≡ (told h).trail
  pub working : σ.working ≡ held σ.stage h
  pub verdict : (told h).verdict ≡ verdict_at σ.stage
  pub side : (s : Side) → σ.stage ≡ Derivation s → (told h).begun ≡ s

abbrev pub EveryAgrees : Type 0
EveryAgrees = (m n : Meaning) (h : List Event) (σ : State) → Happens m n h σ → Agrees (taken_calls h) σ

-- Lawful databases stay lawful, with the cells in all and the costs that they came with; prefix, trail and working constraint stay within bounds.
pub record Within (m n : Meaning) (σ : State) : Type 0 where
  pub clauses : Lawful σ.clauses
  pub cubes : Lawful σ.cubes
  pub same_clauses : (σ.clauses.cells ≡ m.cells) × (σ.clauses.cost ≡ m.cost)
  pub same_cubes : (σ.cubes.cells ≡ n.cells) × (σ.cubes.cost ≡ n.cost)
  pub few : length σ.prefix ≤ 512
  pub formed : is_formed σ.working ≡ true
  pub short : length σ.trail ≤ length σ.prefix

abbrev pub EveryWithin : Type 0
EveryWithin = (m n : Meaning) → Lawful m → Lawful n → (h : List Event) (σ : State) → Happens m n h σ → Within m n σ

-- Any calls make a history.
abbrev pub AnyCalls : Type 0
AnyCalls =
    (m n : Meaning) (calls : List Call) → (h : List Event) × (σ : State) × Happens m n h σ × (map (λ e. e.0) h ≡ calls)

-- What came before a call is a history too.
abbrev pub Prefixes : Type 0
Prefixes = (m n : Meaning) (e : Event) (h : List Event) (σ : State) → Happens m n (e ∷ h) σ → (τ : State) × Happens m n h τ
