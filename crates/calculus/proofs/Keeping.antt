-- What every call keeps, and the theorems on histories. Assumes nothing.
use Rattle.std.proofs.Common.{◌≡◌, ℕ, ◌^◌, ◌<◌, ◌≤◌, Bool, true, false, cond, not, ◌&&◌, eqb, leb, List, [], ◌∷◌, ◌++◌, length, is_none, Some, None, Option, sym, refl, ap, ◌∙◌, subst, ap₂, inl, ⊎_elim, append_assoc, arith, length-append}
use Rattle.std.proofs.lemmas.Bool.{and_parts, and_from, or_cases, both_ways, eqb-true, leb-true, leb-false, not-false, not_from_false}
use Rattle.std.proofs.lemmas.List.{append-nil}
use Rattle.std.proofs.lemmas.Option.{none-some}
use Rattle.qbf.specs.declared.quantifier.Quantifier.{Quantifier}
use Rattle.qbf.specs.declared.side.Side.{Side}
use Rattle.qbf.specs.declared.side.Side.TheVariants.{Clause, Cube}
use Rattle.qbf.specs.Qbf.{variable, complement, setting, quantifier_of, has, every, some, In, is_code, is_set, own, Named, rising, formed as is_formed, value, losing, implied, unit, reduce, resolve}
use Rattle.qbf.specs.Constraints.{last_variable}
use Rattle.qbf.specs.Trees.{Derived, stated, reducing, resolving}
use Rattle.qbf.proofs.Basics.{every_from, setting_variable, implied_variable, some_has}
use Rattle.qbf.proofs.Forced.{forcing}
use Rattle.qbf.proofs.Formed.{code_from, rising_push}
use Rattle.qbf.proofs.Learned.{fit, learning, Fit}
use Rattle.faults.specs.declared.refusal.Refusal.{Refusal}
use Rattle.faults.specs.declared.refusal.Refusal.TheVariants.{WrongStage, TooManyVariables, UnnamedVariable, VariableNotAbove, LiteralsWaiting, NoSuchConstraint, VariableSet, EarlierBlockUnset, ImpliesNothing, NotOwnQuantifier, NoClash, SecondClash, NoEmptyConstraint}
use Rattle.database.specs.Meaning.{Meaning, Lawful, added, numbered}
use Rattle.calculus.specs.declared.call.Call.{Call}
use Rattle.calculus.specs.declared.call.Call.TheVariants.{Name, EndNaming, Put, Load, EndLoading, Imply, Decide, Undo, Begin, Resolve, Reduce, Store, Abandon, Close}
use Rattle.calculus.specs.declared.stage.Stage.{Stage}
use Rattle.calculus.specs.declared.stage.Stage.TheVariants.{Naming, Loading, Working, Derivation, Closed}
use Rattle.calculus.specs.declared.verdict.Verdict.{Verdict}
use Rattle.calculus.specs.declared.verdict.Verdict.TheVariants.{False, True}
use Rattle.calculus.specs.Blocks.{earlier_unset}
use Rattle.calculus.specs.Verdicts.{side_of, value_of}
use Rattle.calculus.specs.State.{Entry, decision, implication, literals, State, opening, database, constraint, is_named, is_empty, cut, implied_by, clash, second_clash, derivation_side, allows, Ground, grounds, first, check, at, with_added, effect, answered, step}
use Rattle.calculus.specs.History.{Event, Happens, opened, called, is_taken, taken_calls, by_load, by_store, Addition, same, is_load, picked, told, all_of, loaded_of, stored_of, Sound, held, verdict_at, EverySound, EveryAgrees, EveryWithin, AnyCalls, Prefixes}
use Rattle.calculus.proofs.Lists.{in_left, in_right, in_last, in_snoc, in_numbered, in_empty, is_some, unit_of, derived_more, picked_snoc, Open, Stands, stands_snoc, stands_cut, stands_at, stands_more, stands_short, has_snoc}

abbrev NamedIn : List Quantifier → List ℕ → Type 0
NamedIn prefix C = (l : ℕ) → has C l ≡ true → (1 ≤ variable l) × (variable l ≤ length prefix)

-- what holds at each stage, of the working constraint C
abbrev Facts : List Call → Stage → List ℕ → Type 0
Facts h Naming C = (C ≡ []) × ((told h).trail ≡ []) × ((told h).additions ≡ [])
Facts h Loading C = (rising C ≡ true) × NamedIn (told h).prefix C × ((s : Side) → stored_of s h ≡ [])
Facts h Working C = C ≡ []
Facts h (Derivation s) C = ((told h).begun ≡ s) × Derived s (told h).prefix (loaded_of s h) C
Facts h (Closed v) C = In [] (all_of (side_of v) h)

abbrev is_added : Side → Addition → Bool
is_added t a = same t a.side

abbrev is_loaded : Side → Addition → Bool
is_loaded t a = same t a.side && is_load a.origin

abbrev is_stored : Side → Addition → Bool
is_stored t a = same t a.side && not (is_load a.origin)

-- Of the prefix P, the additions A and the trail t that a history tells, and the prefix, the trail and the lists of the state:
-- these agree; what was loaded is rising and named; what was added is derived from it; the trail stands.
record Base (P : List Quantifier) (A : List Addition) (t : List Entry) (σ-prefix : List Quantifier) (σ-trail : List Entry) (σ-lists : Side → List (List ℕ)) : Type 0 where
  prefix : σ-prefix ≡ P
  lists : (s : Side) → σ-lists s ≡ picked (is_added s) A
  parts : (s : Side) → picked (is_added s) A ≡ picked (is_loaded s) A ++ picked (is_stored s) A
  trail : σ-trail ≡ t
  fits : (s : Side) (C : List ℕ) → In C (picked (is_loaded s) A) → (rising C ≡ true) × NamedIn P C
  known : (s : Side) (C : List ℕ) → In C (picked (is_added s) A) → Derived s P (picked (is_loaded s) A) C
  stands : Stands P (λ s. picked (is_added s) A) [] t

record Kept (h : List Call) (σ : State) : Type 0 where
  base : Base (told h).prefix (told h).additions (told h).trail σ.prefix σ.trail (λ s. (database s σ).list)
  working : σ.working ≡ held σ.stage h
  verdict : (told h).verdict ≡ verdict_at σ.stage
  facts : Facts h σ.stage σ.working

module _ (h : List Call) (σ : State) (k : Kept h σ) where
  loaded_named : (s : Side) → Named (told h).prefix (loaded_of s h)
  loaded_named s C i = (k.base.fits s C i).1

  fits_all : (s : Side) (C : List ℕ) → In C (all_of s h) → Fit s (told h).prefix (loaded_of s h) C
  fits_all s C i = fit s (told h).prefix (loaded_of s h) (loaded_named s) (λ D j. (k.base.fits s D j).0) (k.base.known s C i)

-- a call that passes: no ground holds
passed : (g : Ground) (gs : List Ground) → first (g ∷ gs) ≡ None → (g.0 ≡ false) × (first gs ≡ None)
passed g gs e = go g.0 refl e
  where
    go : (b : Bool) → g.0 ≡ b → cond b (Some g.1) (first gs) ≡ None → (g.0 ≡ false) × (first gs ≡ None)
    go true p q = absurd (none-some g.1 (sym q))
    go false p q = (p, q)

-- the stage that allows a call; of a derivation with the side of the stage given
abbrev pub home : Stage → Call → Stage
home g (Name q) = Naming
home g EndNaming = Naming
home g (Put l) = Loading
home g (Load s) = Loading
home g EndLoading = Loading
home g (Imply s n) = Working
home g (Decide l) = Working
home g (Undo k) = Working
home g (Begin s n) = Working
home g (Resolve n v) = Derivation (derivation_side g)
home g Reduce = Derivation (derivation_side g)
home g Store = Derivation (derivation_side g)
home g Abandon = Derivation (derivation_side g)
home g (Close v) = Working

pub at_home : (g : Stage) (c : Call) → allows g c ≡ true → g ≡ home g c
at_home Naming (Name q) e = refl
at_home Naming EndNaming e = refl
at_home Loading (Put l) e = refl
at_home Loading (Load s) e = refl
at_home Loading EndLoading e = refl
at_home Working (Imply s n) e = refl
at_home Working (Decide l) e = refl
at_home Working (Undo k) e = refl
at_home Working (Begin s n) e = refl
at_home Working (Close v) e = refl
at_home (Derivation s) (Resolve n v) e = refl
at_home (Derivation s) Reduce e = refl
at_home (Derivation s) Store e = refl
at_home (Derivation s) Abandon e = refl
at_home g c e = absurd (both_ways false refl e)

-- a call that passes is at its stage, and none of its own grounds holds
admitted : (σ : State) (c : Call) → check σ c ≡ None → (σ.stage ≡ home σ.stage c) × (first (grounds σ c) ≡ None)
admitted σ c e = let p = passed (not (allows σ.stage c), WrongStage) (grounds σ c) e in (at_home σ.stage c (not-false (allows σ.stage c) p.0), p.1)

-- equal sides, and the lists after an addition
same_is : (s t : Side) → same s t ≡ true → s ≡ t
same_is Clause Clause e = refl
same_is Clause Cube e = absurd (both_ways false refl e)
same_is Cube Clause e = absurd (both_ways false refl e)
same_is Cube Cube e = refl

database_added : (s t : Side) (C : List ℕ) (σ : State) → (database t (with_added s C σ)).list ≡ cond (same t s) ((database t σ).list ++ (C ∷ [])) (database t σ).list
database_added Clause Clause C σ = refl
database_added Clause Cube C σ = refl
database_added Cube Clause C σ = refl
database_added Cube Cube C σ = refl

-- the facts of a stage that is known
at_stage : (h : List Call) (σ : State) (g : Stage) → σ.stage ≡ g → Kept h σ → Facts h g σ.working × (σ.working ≡ held g h) × ((told h).verdict ≡ verdict_at g)
at_stage h σ g e k = (
  subst (λ x. Facts h x σ.working) e k.facts,
  subst (λ x. σ.working ≡ held x h) e k.working,
  subst (λ x. (told h).verdict ≡ verdict_at x) e k.verdict,
)

keeps_name : (h : List Call) (σ : State) (q : Quantifier) → Kept h σ → check σ (Name q) ≡ None → Kept (Name q ∷ h) (effect σ (Name q)).0
keeps_name h σ q k c =
    let p = admitted σ (Name q) c in
    let f = at_stage h σ Naming p.0 k in
    record {
      base =
          record {
            prefix = ap (λ prefix. prefix ++ (q ∷ [])) k.base.prefix;
            lists = k.base.lists;
            parts = k.base.parts;
            trail = k.base.trail;
            fits = λ s C i. absurd (subst (λ xs. In C (picked (λ a. same s a.side && is_load a.origin) xs)) f.0.2 i);
            known = λ s C i. absurd (subst (λ xs. In C (picked (λ a. same s a.side) xs)) f.0.2 i);
            stands = subst (λ t. Stands (told (Name q ∷ h)).prefix (λ s. all_of s h) [] t) (sym f.0.1) (λ l i j. both_ways false refl i);
          };
      working = f.1;
      verdict = f.2;
      facts = f.0;
    }

keeps_end_naming : (h : List Call) (σ : State) → Kept h σ → check σ EndNaming ≡ None → Kept (EndNaming ∷ h) (effect σ EndNaming).0
keeps_end_naming h σ k c =
    let p = admitted σ EndNaming c in
    let f = at_stage h σ Naming p.0 k in
    record {
      base = k.base;
      working = f.1;
      verdict = f.2;
      facts = (
        subst (λ C. rising C ≡ true) (sym f.0.0) refl,
        subst (λ C. NamedIn (told h).prefix C) (sym f.0.0) (λ l i. absurd (both_ways false refl i)),
        λ s. ap (λ xs. picked (λ a. same s a.side && not (is_load a.origin)) xs) f.0.2,
      );
    }

named_snoc : (prefix : List Quantifier) (C : List ℕ) (l : ℕ) → NamedIn prefix C → is_named prefix (variable l) ≡ true → NamedIn prefix (C ++ (l ∷ []))
named_snoc prefix C l n i m j = ⊎_elim here (λ e. n m e) (or_cases (eqb m l) (has C m) (sym (has_snoc C l m) ∙ j))
  where
    here : eqb m l ≡ true → (1 ≤ variable m) × (variable m ≤ length prefix)
    here e =
        let p = and_parts (leb 1 (variable l)) (leb (variable l) (length prefix)) i in
        let q : variable m ≡ variable l = ap variable (eqb-true m l e) in
        let a = leb-true 1 (variable l) p.0 in
        let b = leb-true (variable l) (length prefix) p.1 in
        (omega arith, omega arith)

keeps_put : (h : List Call) (σ : State) (l : ℕ) → Kept h σ → check σ (Put l) ≡ None → Kept (Put l ∷ h) (effect σ (Put l)).0
keeps_put h σ l k c =
    let p = admitted σ (Put l) c in
    let f = at_stage h σ Loading p.0 k in
    let named = is_named σ.prefix (variable l) in
    let q = passed (not named, UnnamedVariable) ((leb (variable l) (last_variable σ.working), VariableNotAbove) ∷ []) p.1 in
    let r = passed (leb (variable l) (last_variable σ.working), VariableNotAbove) [] q.1 in
    record {
      base = k.base;
      working = ap (λ C. C ++ (l ∷ [])) f.1;
      verdict = f.2;
      facts = (
        rising_push σ.working l f.0.0 (leb-false (variable l) (last_variable σ.working) r.0),
        named_snoc (told h).prefix σ.working l f.0.1 (subst (λ prefix. is_named prefix (variable l) ≡ true) k.base.prefix (not-false named q.0)),
        f.0.2,
      );
    }

keeps_load : (h : List Call) (σ : State) (s : Side) → Kept h σ → check σ (Load s) ≡ None → Kept (Load s ∷ h) (effect σ (Load s)).0
keeps_load h σ s k c =
    record {
      base =
          record {
            prefix = k.base.prefix;
            lists = λ t.
                database_added s t σ.working σ
                ∙ ap₂ (λ L D. cond (same t s) (L ++ (D ∷ [])) L) (k.base.lists t) f.1
                ∙ sym (picked_snoc (is_added t) (told h).additions a);
            parts = λ t.
                picked_snoc (is_added t) (told h).additions a ∙ parted t (same t s)
                ∙ sym (ap₂ ◌++◌ (picked_snoc (is_loaded t) (told h).additions a) (picked_snoc (is_stored t) (told h).additions a));
            trail = k.base.trail;
            fits = λ t C i. fitted t C (same t s) (subst (In C) (picked_snoc (is_loaded t) (told h).additions a) i);
            known = λ t C i.
                subst (λ L. Derived t (told h).prefix L C) (sym (picked_snoc (is_loaded t) (told h).additions a))
                (knows t C (same t s) (subst (In C) (picked_snoc (is_added t) (told h).additions a) i));
            stands =
                stands_more (told h).prefix (λ t. all_of t h) (λ t. all_of t (Load s ∷ h))
                (λ t C i. subst (In C) (sym (picked_snoc (is_added t) (told h).additions a)) (grows t C (same t s) i)) [] (told h).trail k.base.stands;
          };
      working = refl;
      verdict = f.2;
      facts = (refl, (λ l i. absurd (both_ways false refl i)), λ t. picked_snoc (is_stored t) (told h).additions a ∙ unstored t (same t s));
    }
  where
    W : List ℕ
    W = (told h).waiting

    a : Addition
    a = record { side = s; origin = by_load; codes = (told h).waiting }

    f : Facts h Loading σ.working × (σ.working ≡ (told h).waiting) × ((told h).verdict ≡ None)
    f = at_stage h σ Loading (admitted σ (Load s) c).0 k

    parted : (t : Side) (b : Bool) → cond b (all_of t h ++ (W ∷ [])) (all_of t h) ≡ cond (b && true) (loaded_of t h ++ (W ∷ [])) (loaded_of t h) ++ cond (b && false) (stored_of t h ++ (W ∷ [])) (stored_of t h)
    parted t true =
        ap (λ L. L ++ (W ∷ [])) (k.base.parts t ∙ ap (λ S. loaded_of t h ++ S) (f.0.2 t) ∙ append-nil (loaded_of t h))
        ∙ sym (append-nil (loaded_of t h ++ (W ∷ []))) ∙ ap (λ S. (loaded_of t h ++ (W ∷ [])) ++ S) (sym (f.0.2 t))
    parted t false = k.base.parts t

    unstored : (t : Side) (b : Bool) → cond (b && false) (stored_of t h ++ (W ∷ [])) (stored_of t h) ≡ []
    unstored t true = f.0.2 t
    unstored t false = f.0.2 t

    fitted : (t : Side) (C : List ℕ) (b : Bool) → In C (cond (b && true) (loaded_of t h ++ (W ∷ [])) (loaded_of t h)) → (rising C ≡ true) × NamedIn (told h).prefix C
    fitted t C true i =
        ⊎_elim (λ j. k.base.fits t C j) (λ e. let g = f.1 ∙ sym e in (subst (λ D. rising D ≡ true) g f.0.0, subst (λ D. NamedIn (told h).prefix D) g f.0.1))
        (in_snoc C W (loaded_of t h) i)
    fitted t C false i = k.base.fits t C i

    knows : (t : Side) (C : List ℕ) (b : Bool) → In C (cond b (all_of t h ++ (W ∷ [])) (all_of t h)) → Derived t (told h).prefix (cond (b && true) (loaded_of t h ++ (W ∷ [])) (loaded_of t h)) C
    knows t C true i =
        ⊎_elim (λ j. derived_more (W ∷ []) (k.base.known t C j)) (λ e. stated (subst (λ D. In D (loaded_of t h ++ (W ∷ []))) (sym e) (in_last W (loaded_of t h))))
        (in_snoc C W (all_of t h) i)
    knows t C false i = k.base.known t C i

    grows : (t : Side) (C : List ℕ) (b : Bool) → In C (all_of t h) → In C (cond b (all_of t h ++ (W ∷ [])) (all_of t h))
    grows t C true i = in_left C (all_of t h) (W ∷ []) i
    grows t C false i = i

keeps_end_loading : (h : List Call) (σ : State) → Kept h σ → check σ EndLoading ≡ None → Kept (EndLoading ∷ h) (effect σ EndLoading).0
keeps_end_loading h σ k c =
    let p = admitted σ EndLoading c in
    let f = at_stage h σ Loading p.0 k in
    let q = passed (not (is_empty σ.working), LiteralsWaiting) [] p.1 in
    let z = none σ.working (not-false (is_empty σ.working) q.0) in
    record {
      base = k.base;
      working = z;
      verdict = f.2;
      facts = z;
    }
  where
    none : (C : List ℕ) → is_empty C ≡ true → C ≡ []
    none [] e = refl
    none (l ∷ C) e = absurd (both_ways false refl e)

-- calls that change the trail
keeps_imply : (h : List Call) (σ : State) (s : Side) (n : ℕ) → Kept h σ → check σ (Imply s n) ≡ None → Kept (Imply s n ∷ h) (effect σ (Imply s n)).0
keeps_imply h σ s n k c =
    record {
      base =
          record {
            prefix = k.base.prefix;
            lists = k.base.lists;
            parts = k.base.parts;
            trail = ap₂ (λ t o. t ++ (implication (implied_by s o) s n ∷ [])) k.base.trail same_unit;
            fits = k.base.fits;
            known = k.base.known;
            stands =
                stands_snoc (told h).prefix (λ t. all_of t h) [] (told h).trail (implication (implied_by s U) s n) k.base.stands
                (record { because = C; literal = u.0; member = there; is_unit = u.1; is_implied = ap (implied_by s) u.1 })
                (subst (λ l. Open (told h).prefix A l) (sym (ap (implied_by s) u.1)) opens);
          };
      working = f.1;
      verdict = f.2;
      facts = f.0;
    }
  where
    A : List ℕ
    A = literals (told h).trail

    C : List ℕ
    C = constraint (all_of s h) n

    U : Option ℕ
    U = unit s (told h).prefix A C

    V : Option ℕ
    V = unit s σ.prefix (literals σ.trail) (constraint (database s σ).list n)

    same_unit : V ≡ U
    same_unit =
        ap (λ prefix. unit s prefix (literals σ.trail) (constraint (database s σ).list n)) k.base.prefix
        ∙ ap (λ t. unit s (told h).prefix (literals t) (constraint (database s σ).list n)) k.base.trail
        ∙ ap (λ L. unit s (told h).prefix A (constraint L n)) (k.base.lists s)

    p : (σ.stage ≡ home σ.stage (Imply s n)) × (first (grounds σ (Imply s n)) ≡ None)
    p = admitted σ (Imply s n) c

    f : Facts h Working σ.working × (σ.working ≡ []) × ((told h).verdict ≡ None)
    f = at_stage h σ Working p.0 k

    q : (is_none (numbered (database s σ).list n) ≡ false) × (first ((is_none V, ImpliesNothing) ∷ []) ≡ None)
    q = passed (is_none (numbered (database s σ).list n), NoSuchConstraint) ((is_none V, ImpliesNothing) ∷ []) p.1

    r : is_none V ≡ false
    r = (passed (is_none V, ImpliesNothing) [] q.1).0

    u : (l : ℕ) × (U ≡ Some l)
    u = is_some U (subst (λ o. is_none o ≡ false) same_unit r)

    there : In C (all_of s h)
    there = in_numbered (all_of s h) n (subst (λ L. is_none (numbered L n) ≡ false) (k.base.lists s) q.0)

    opens : Open (told h).prefix A (implied s u.0)
    opens =
        let o = unit_of s (told h).prefix A C u.0 u.1 in
        let e = implied_variable s u.0 in
        let i = (fits_all h σ k s C there).named u.0 o.0 in
        (subst (λ w. is_set A w ≡ false) (sym e) o.1, omega arith, omega arith)

keeps_decide : (h : List Call) (σ : State) (l : ℕ) → Kept h σ → check σ (Decide l) ≡ None → Kept (Decide l ∷ h) (effect σ (Decide l)).0
keeps_decide h σ l k c =
    record {
      base =
          record {
            prefix = k.base.prefix;
            lists = k.base.lists;
            parts = k.base.parts;
            trail = ap (λ t. t ++ (decision l ∷ [])) k.base.trail;
            fits = k.base.fits;
            known = k.base.known;
            stands =
                stands_snoc (told h).prefix (λ t. all_of t h) [] (told h).trail (decision l) k.base.stands tt (
                  subst (λ t. is_set (literals t) (variable l) ≡ false) k.base.trail (passed last₁ (last₂ ∷ []) p₁.1).0,
                  leb-true 1 (variable l) q.0,
                  subst (λ prefix. variable l ≤ length prefix) k.base.prefix (leb-true (variable l) (length σ.prefix) q.1),
                );
          };
      working = f.1;
      verdict = f.2;
      facts = f.0;
    }
  where
    last₀ : Ground
    last₀ = (not (is_named σ.prefix (variable l)), UnnamedVariable)

    last₁ : Ground
    last₁ = (is_set (literals σ.trail) (variable l), VariableSet)

    last₂ : Ground
    last₂ = (earlier_unset σ.prefix (literals σ.trail) (variable l), EarlierBlockUnset)

    p : (σ.stage ≡ home σ.stage (Decide l)) × (first (grounds σ (Decide l)) ≡ None)
    p = admitted σ (Decide l) c

    p₁ : (last₀.0 ≡ false) × (first (last₁ ∷ last₂ ∷ []) ≡ None)
    p₁ = passed last₀ (last₁ ∷ last₂ ∷ []) p.1

    q : (leb 1 (variable l) ≡ true) × (leb (variable l) (length σ.prefix) ≡ true)
    q = and_parts (leb 1 (variable l)) (leb (variable l) (length σ.prefix)) (not-false (is_named σ.prefix (variable l)) p₁.0)

    f : Facts h Working σ.working × (σ.working ≡ []) × ((told h).verdict ≡ None)
    f = at_stage h σ Working p.0 k

keeps_undo : (h : List Call) (σ : State) (n : ℕ) → Kept h σ → check σ (Undo n) ≡ None → Kept (Undo n ∷ h) (effect σ (Undo n)).0
keeps_undo h σ n k c =
    let p = admitted σ (Undo n) c in
    let f = at_stage h σ Working p.0 k in
    record {
      base =
          record {
            prefix = k.base.prefix;
            lists = k.base.lists;
            parts = k.base.parts;
            trail = ap (cut n) k.base.trail;
            fits = k.base.fits;
            known = k.base.known;
            stands = stands_cut (told h).prefix (λ t. all_of t h) [] n (told h).trail k.base.stands;
          };
      working = f.1;
      verdict = f.2;
      facts = f.0;
    }

-- calls of a derivation
keeps_begin : (h : List Call) (σ : State) (s : Side) (n : ℕ) → Kept h σ → check σ (Begin s n) ≡ None → Kept (Begin s n ∷ h) (effect σ (Begin s n)).0
keeps_begin h σ s n k c =
    let p = admitted σ (Begin s n) c in
    let f = at_stage h σ Working p.0 k in
    let q = passed (is_none (numbered (database s σ).list n), NoSuchConstraint) [] p.1 in
    let e = k.base.lists s in
    let i = in_numbered (all_of s h) n (subst (λ L. is_none (numbered L n) ≡ false) e q.0) in
    record {
      base = k.base;
      working = ap (λ L. constraint L n) e;
      verdict = f.2;
      facts = (refl, subst (λ L. Derived s (told h).prefix (loaded_of s h) (constraint L n)) (sym e) (k.base.known s (constraint (all_of s h) n) i));
    }

-- what is known of a derivation
record Deriving (h : List Call) (σ : State) : Type 0 where
  its_side : (told h).begun ≡ derivation_side σ.stage
  its_constraint : σ.working ≡ (told h).derived
  is_derived : Derived (derivation_side σ.stage) (told h).prefix (loaded_of (derivation_side σ.stage) h) σ.working
  no_verdict : (told h).verdict ≡ None

deriving_now : (h : List Call) (σ : State) → Kept h σ → σ.stage ≡ Derivation (derivation_side σ.stage) → Deriving h σ
deriving_now h σ k e =
    let f = at_stage h σ (Derivation (derivation_side σ.stage)) e k in
    record { its_side = f.0.0; its_constraint = f.1; is_derived = f.0.1; no_verdict = f.2 }

keeps_reduce : (h : List Call) (σ : State) → Kept h σ → check σ Reduce ≡ None → Kept (Reduce ∷ h) (effect σ Reduce).0
keeps_reduce h σ k c =
    let p = admitted σ Reduce c in
    let d = deriving_now h σ k p.0 in
    let s = derivation_side σ.stage in
    record {
      base = k.base;
      working =
          ap (λ prefix. reduce s prefix σ.working) k.base.prefix
          ∙ ap (λ C. reduce s (told h).prefix C) d.its_constraint
          ∙ ap (λ t. reduce t (told h).prefix (told h).derived) (sym d.its_side);
      verdict = d.no_verdict;
      facts = (d.its_side, subst (λ prefix. Derived s (told h).prefix (loaded_of s h) (reduce s prefix σ.working)) (sym k.base.prefix) (reducing d.is_derived));
    }

resolved_on : (s : Side) (prefix : List Quantifier) (T : List (List ℕ)) (C D : List ℕ) (v : ℕ) → own s (quantifier_of prefix v) ≡ true → clash C D v ≡ true → second_clash C D v ≡ false
    → Derived s prefix T C → Derived s prefix T D → Derived s prefix T (resolve C D v)
resolved_on s prefix T C D v o w n c d =
    ⊎_elim (λ e. let p = and_parts (has C (setting v true)) (has D (setting v false)) e in on (setting v true) (setting_variable v true) p.0 (subst (λ l. has D l ≡ true) (flip true) p.1))
    (λ e. let p = and_parts (has C (setting v false)) (has D (setting v true)) e in on (setting v false) (setting_variable v false) p.0 (subst (λ l. has D l ≡ true) (flip false) p.1))
    (or_cases (has C (setting v true) && has D (setting v false)) (has C (setting v false) && has D (setting v true)) w)
  where
    flip : (b : Bool) → setting v (not b) ≡ complement (setting v b)
    flip true = omega arith
    flip false = omega arith

    only_here : (l : ℕ) → has C l ≡ true → has D (complement l) ≡ true → variable l ≡ v
    only_here l i j = go (eqb (variable l) v) refl
      where
        go : (b : Bool) → eqb (variable l) v ≡ b → variable l ≡ v
        go true e = eqb-true (variable l) v e
        go false e =
            absurd (both_ways (second_clash C D v) n
            (some_has (λ m. not (eqb (variable m) v) && has D (complement m)) C l i
            (and_from (not (eqb (variable l) v)) (has D (complement l)) (not_from_false (eqb (variable l) v) e) j)))

    on : (p : ℕ) → variable p ≡ v → has C p ≡ true → has D (complement p) ≡ true → Derived s prefix T (resolve C D v)
    on p e i j =
        subst (λ x. Derived s prefix T (resolve C D x)) e
        (resolving p (subst (λ x. own s (quantifier_of prefix x) ≡ true) (sym e) o) i j (λ l a b. only_here l a b ∙ sym e) c d)

keeps_resolve : (h : List Call) (σ : State) (n v : ℕ) → Kept h σ → check σ (Resolve n v) ≡ None → Kept (Resolve n v ∷ h) (effect σ (Resolve n v)).0
keeps_resolve h σ n v k c =
    record {
      base = k.base;
      working =
          ap₂ (λ C E. resolve C E v) d.its_constraint (ap (λ L. constraint L n) (k.base.lists s) ∙ ap (λ t. constraint (all_of t h) n) (sym d.its_side));
      verdict = d.no_verdict;
      facts = (
        d.its_side,
        resolved_on s (told h).prefix (loaded_of s h) σ.working D v
            (subst (λ prefix. own s (quantifier_of prefix v) ≡ true) k.base.prefix (not-false (own s (quantifier_of σ.prefix v)) p₃.0))
            (not-false (clash σ.working D v) p₄.0) (passed g₅ [] p₄.1).0 d.is_derived
            (subst (λ L. Derived s (told h).prefix (loaded_of s h) (constraint L n)) (sym (k.base.lists s)) (k.base.known s (constraint (all_of s h) n) there)),
      );
    }
  where
    s : Side
    s = derivation_side σ.stage

    D : List ℕ
    D = constraint (database s σ).list n

    g₁ : Ground
    g₁ = (not (is_named σ.prefix v), UnnamedVariable)

    g₂ : Ground
    g₂ = (is_none (numbered (database s σ).list n), NoSuchConstraint)

    g₃ : Ground
    g₃ = (not (own s (quantifier_of σ.prefix v)), NotOwnQuantifier)

    g₄ : Ground
    g₄ = (not (clash σ.working D v), NoClash)

    g₅ : Ground
    g₅ = (second_clash σ.working D v, SecondClash)

    p₀ : (σ.stage ≡ home σ.stage (Resolve n v)) × (first (grounds σ (Resolve n v)) ≡ None)
    p₀ = admitted σ (Resolve n v) c

    p₁ : (g₁.0 ≡ false) × (first (g₂ ∷ g₃ ∷ g₄ ∷ g₅ ∷ []) ≡ None)
    p₁ = passed g₁ (g₂ ∷ g₃ ∷ g₄ ∷ g₅ ∷ []) p₀.1

    p₂ : (g₂.0 ≡ false) × (first (g₃ ∷ g₄ ∷ g₅ ∷ []) ≡ None)
    p₂ = passed g₂ (g₃ ∷ g₄ ∷ g₅ ∷ []) p₁.1

    p₃ : (g₃.0 ≡ false) × (first (g₄ ∷ g₅ ∷ []) ≡ None)
    p₃ = passed g₃ (g₄ ∷ g₅ ∷ []) p₂.1

    p₄ : (g₄.0 ≡ false) × (first (g₅ ∷ []) ≡ None)
    p₄ = passed g₄ (g₅ ∷ []) p₃.1

    d : Deriving h σ
    d = deriving_now h σ k p₀.0

    there : In (constraint (all_of s h) n) (all_of s h)
    there = in_numbered (all_of s h) n (subst (λ L. is_none (numbered L n) ≡ false) (k.base.lists s) p₂.0)

keeps_abandon : (h : List Call) (σ : State) → Kept h σ → check σ Abandon ≡ None → Kept (Abandon ∷ h) (effect σ Abandon).0
keeps_abandon h σ k c =
    let p = admitted σ Abandon c in
    let d = deriving_now h σ k p.0 in
    record {
      base = k.base;
      working = refl;
      verdict = d.no_verdict;
      facts = refl;
    }

keeps_close : (h : List Call) (σ : State) (v : Verdict) → Kept h σ → check σ (Close v) ≡ None → Kept (Close v ∷ h) (effect σ (Close v)).0
keeps_close h σ v k c =
    let p = admitted σ (Close v) c in
    let f = at_stage h σ Working p.0 k in
    let T = (database (side_of v) σ).list in
    let q = passed (not (some is_empty T), NoEmptyConstraint) [] p.1 in
    record {
      base = k.base;
      working = f.0;
      verdict = refl;
      facts = subst (λ L. In [] L) (k.base.lists (side_of v)) (in_empty T (not-false (some is_empty T) q.0));
    }

keeps_store : (h : List Call) (σ : State) → Kept h σ → check σ Store ≡ None → Kept (Store ∷ h) (effect σ Store).0
keeps_store h σ k c =
    record {
      base =
          record {
            prefix = k.base.prefix;
            lists = λ t.
                database_added s t σ.working σ
                ∙ ap₂ (λ L E. cond (same t s) (L ++ (E ∷ [])) L) (k.base.lists t) d.its_constraint
                ∙ ap (λ r. cond (same t r) (all_of t h ++ (D ∷ [])) (all_of t h)) (sym d.its_side)
                ∙ sym (picked_snoc (is_added t) (told h).additions a);
            parts = λ t.
                picked_snoc (is_added t) (told h).additions a ∙ parted t (same t (told h).begun)
                ∙ sym (ap₂ ◌++◌ (picked_snoc (is_loaded t) (told h).additions a) (picked_snoc (is_stored t) (told h).additions a));
            trail = k.base.trail;
            fits = λ t C i. k.base.fits t C (subst (In C) (loaded_stays t) i);
            known = λ t C i.
                subst (λ L. Derived t (told h).prefix L C) (sym (loaded_stays t)) (knows t C (same t (told h).begun) refl (subst (In C) (picked_snoc (is_added t) (told h).additions a) i));
            stands =
                stands_more (told h).prefix (λ t. all_of t h) (λ t. all_of t (Store ∷ h))
                (λ t C i. subst (In C) (sym (picked_snoc (is_added t) (told h).additions a)) (grows t C (same t (told h).begun) i)) [] (told h).trail k.base.stands;
          };
      working = refl;
      verdict = d.no_verdict;
      facts = refl;
    }
  where
    s : Side
    s = derivation_side σ.stage

    d : Deriving h σ
    d = deriving_now h σ k (admitted σ Store c).0

    D : List ℕ
    D = (told h).derived

    a : Addition
    a = record { side = (told h).begun; origin = by_store; codes = D }

    drop : {X : Type 0} (x y : X) (b : Bool) → cond (b && false) x y ≡ y
    drop x y true = refl
    drop x y false = refl

    loaded_stays : (t : Side) → loaded_of t (Store ∷ h) ≡ loaded_of t h
    loaded_stays t = picked_snoc (is_loaded t) (told h).additions a ∙ drop (loaded_of t h ++ (D ∷ [])) (loaded_of t h) (same t (told h).begun)

    parted : (t : Side) (b : Bool) → cond b (all_of t h ++ (D ∷ [])) (all_of t h) ≡ cond (b && false) (loaded_of t h ++ (D ∷ [])) (loaded_of t h) ++ cond (b && true) (stored_of t h ++ (D ∷ [])) (stored_of t h)
    parted t true = ap (λ L. L ++ (D ∷ [])) (k.base.parts t) ∙ append_assoc (loaded_of t h) (stored_of t h) (D ∷ [])
    parted t false = k.base.parts t

    here : Derived (told h).begun (told h).prefix (loaded_of (told h).begun h) D
    here =
        subst (λ r. Derived r (told h).prefix (loaded_of r h) D) (sym d.its_side)
        (subst (λ E. Derived s (told h).prefix (loaded_of s h) E) d.its_constraint d.is_derived)

    knows : (t : Side) (C : List ℕ) (b : Bool) → same t (told h).begun ≡ b → In C (cond b (all_of t h ++ (D ∷ [])) (all_of t h)) → Derived t (told h).prefix (loaded_of t h) C
    knows t C true e i =
        ⊎_elim (λ j. k.base.known t C j)
        (λ q. subst (λ E. Derived t (told h).prefix (loaded_of t h) E) (sym q) (subst (λ r. Derived r (told h).prefix (loaded_of r h) D) (sym (same_is t (told h).begun e)) here))
        (in_snoc C D (all_of t h) i)
    knows t C false e i = k.base.known t C i

    grows : (t : Side) (C : List ℕ) (b : Bool) → In C (all_of t h) → In C (cond b (all_of t h ++ (D ∷ [])) (all_of t h))
    grows t C true i = in_left C (all_of t h) (D ∷ []) i
    grows t C false i = i

keeps : (h : List Call) (σ : State) (c : Call) → Kept h σ → check σ c ≡ None → Kept (cond (is_taken (effect σ c).1) (c ∷ h) h) (effect σ c).0
keeps h σ (Name q) = keeps_name h σ q
keeps h σ EndNaming = keeps_end_naming h σ
keeps h σ (Put l) = keeps_put h σ l
keeps h σ (Load s) = keeps_load h σ s
keeps h σ EndLoading = keeps_end_loading h σ
keeps h σ (Imply s n) = keeps_imply h σ s n
keeps h σ (Decide l) = keeps_decide h σ l
keeps h σ (Undo k) = keeps_undo h σ k
keeps h σ (Begin s n) = keeps_begin h σ s n
keeps h σ (Resolve n v) = keeps_resolve h σ n v
keeps h σ Reduce = keeps_reduce h σ
keeps h σ Store = keeps_store h σ
keeps h σ Abandon = keeps_abandon h σ
keeps h σ (Close v) = keeps_close h σ v

kept : {m n : Meaning} {h : List Event} {σ : State} → Happens m n h σ → Kept (taken_calls h) σ
kept {m = m} {n = n} opened =
    record {
      base =
          record {
            prefix = refl;
            lists = λ s. none s;
            parts = λ s. refl;
            trail = refl;
            fits = λ s C i. absurd i;
            known = λ s C i. absurd i;
            stands = λ l i j. both_ways false refl i;
          };
      working = refl;
      verdict = refl;
      facts = (refl, refl, refl);
    }
  where
    none : (s : Side) → (database s (opening m n)).list ≡ []
    none Clause = refl
    none Cube = refl
kept (called {h = h} {σ = σ} c H) = go (kept H) (check σ c) refl
  where
    go : Kept (taken_calls h) σ → (o : Option Refusal) → check σ c ≡ o → Kept (cond (is_taken (answered σ c o).1) (c ∷ taken_calls h) (taken_calls h)) (answered σ c o).0
    go k (Some r) e = k
    go k None e = keeps (taken_calls h) σ c k e

-- THE THEOREMS.
module _ (h : List Call) (σ : State) (k : Kept h σ) where
  closed_empty : (v : Verdict) (g : Stage) (C : List ℕ) → verdict_at g ≡ Some v → Facts h g C → In [] (all_of (side_of v) h)
  closed_empty v (Closed w) C e f = let q : w ≡ v = cc in subst (λ x. In [] (all_of (side_of x) h)) q f
  closed_empty v g C e f = absurd (none-some v e)

  losing_is : (v : Verdict) → losing (side_of v) ≡ value_of v
  losing_is False = refl
  losing_is True = refl

  sound : Sound h
  sound =
      record {
        verdict = λ v e.
            let i = closed_empty v σ.stage σ.working (sym k.verdict ∙ e) k.facts in
            (learning (side_of v) (told h).prefix (loaded_of (side_of v) h) ([] ∷ []) (loaded_named h σ k (side_of v)) (λ D j. (k.base.fits (side_of v) D j).0)
            (λ C j. ⊎_elim (λ q. subst (λ E. Derived (side_of v) (told h).prefix (loaded_of (side_of v) h) E) (sym q) (k.base.known (side_of v) [] i)) (λ q. absurd q) j)).1 (inl refl)
            ∙ losing_is v;
        stored = λ s S f.
            (learning s (told h).prefix (loaded_of s h) S (loaded_named h σ k s) (λ D j. (k.base.fits s D j).0)
            (λ C i. k.base.known s C (subst (In C) (sym (k.base.parts s)) (in_right C (loaded_of s h) (stored_of s h) (f C i))))).0;
        forced = λ s before after p n e.
            let w = stands_at (told h).prefix (λ t. all_of t h) [] before after p s n (subst (λ t. Stands (told h).prefix (λ t. all_of t h) [] t) e k.base.stands) in
            let y = w.1 in
            let r =
            forcing s (told h).prefix (all_of s h) (literals before) y.because y.literal w.0 (λ C i. (fits_all h σ k s C i).named) y.member
            (fits_all h σ k s y.because y.member).up y.is_unit in
            subst (λ x. (value s (told h).prefix (all_of s h) (x ∷ literals before) ≡ value s (told h).prefix (all_of s h) (literals before))
            × (value s (told h).prefix (all_of s h) (complement x ∷ literals before) ≡ losing s)) (sym y.is_implied) r;
      }

pub every_sound : EverySound
every_sound m n h σ H = sound (taken_calls h) σ (kept H)

pub every_agrees : EveryAgrees
every_agrees m n h σ H =
    let k = kept H in
    record {
      prefix = k.base.prefix;
      lists = k.base.lists;
      parts = k.base.parts;
      trail = k.base.trail;
      working = k.working;
      verdict = k.verdict;
      side = λ s e. (subst (λ g. Facts (taken_calls h) g σ.working) e k.facts).0;
    }

pub any_calls : AnyCalls
any_calls m n [] = ([], opening m n, opened, refl)
any_calls m n (c ∷ calls) =
    let r = any_calls m n calls in
    ((c, (step r.1 c).1) ∷ r.0, (step r.1 c).0, called c r.2, ap (λ cs. c ∷ cs) r.3)

-- cells and costs stay, and the variables are at most 512
record Sized (m x : Meaning) : Type 0 where
  cells_same : x.cells ≡ m.cells
  cost_same : x.cost ≡ m.cost
  left_within : x.left ≤ m.cells

record Numbers (m n : Meaning) (σ : State) : Type 0 where
  few_named : length σ.prefix ≤ 512
  clauses_sized : Sized m σ.clauses
  cubes_sized : Sized n σ.cubes

sized_adding : (m x : Meaning) (C : List ℕ) → Sized m x → Sized m (added x C)
sized_adding m x C h = record { cells_same = h.cells_same; cost_same = h.cost_same; left_within = (let a = h.left_within in omega arith) }

module _ (m n : Meaning) where
  -- the same numbers in another state
  numbers_added : (σ : State) (s : Side) (C : List ℕ) (g : Stage) → Numbers m n σ → Numbers m n (at g [] (with_added s C σ))
  numbers_added σ Clause C g h = record { few_named = h.few_named; clauses_sized = sized_adding m σ.clauses C h.clauses_sized; cubes_sized = h.cubes_sized }
  numbers_added σ Cube C g h = record { few_named = h.few_named; clauses_sized = h.clauses_sized; cubes_sized = sized_adding n σ.cubes C h.cubes_sized }

  numbers_moved : (σ τ : State) → τ.prefix ≡ σ.prefix → τ.clauses ≡ σ.clauses → τ.cubes ≡ σ.cubes → Numbers m n σ → Numbers m n τ
  numbers_moved σ τ p q r h =
      record {
        few_named = subst (λ prefix. length prefix ≤ 512) (sym p) h.few_named;
        clauses_sized = subst (Sized m) (sym q) h.clauses_sized;
        cubes_sized = subst (Sized n) (sym r) h.cubes_sized;
      }

  numbers_step : (σ : State) (c : Call) → Numbers m n σ → check σ c ≡ None → Numbers m n (effect σ c).0
  numbers_step σ (Name q) h e =
      let p = admitted σ (Name q) e in
      let r = leb-false 512 (length σ.prefix) (passed (leb 512 (length σ.prefix), TooManyVariables) [] p.1).0 in
      record { few_named = omega (arith, length-append σ.prefix (q ∷ [])); clauses_sized = h.clauses_sized; cubes_sized = h.cubes_sized }
  numbers_step σ EndNaming h e = numbers_moved σ (effect σ EndNaming).0 refl refl refl h
  numbers_step σ (Put l) h e = numbers_moved σ (effect σ (Put l)).0 refl refl refl h
  numbers_step σ (Load s) h e = numbers_added σ s σ.working Loading h
  numbers_step σ EndLoading h e = numbers_moved σ (effect σ EndLoading).0 refl refl refl h
  numbers_step σ (Imply s k) h e = numbers_moved σ (effect σ (Imply s k)).0 refl refl refl h
  numbers_step σ (Decide l) h e = numbers_moved σ (effect σ (Decide l)).0 refl refl refl h
  numbers_step σ (Undo k) h e = numbers_moved σ (effect σ (Undo k)).0 refl refl refl h
  numbers_step σ (Begin s k) h e = numbers_moved σ (effect σ (Begin s k)).0 refl refl refl h
  numbers_step σ (Resolve k v) h e = numbers_moved σ (effect σ (Resolve k v)).0 refl refl refl h
  numbers_step σ Reduce h e = numbers_moved σ (effect σ Reduce).0 refl refl refl h
  numbers_step σ Store h e = numbers_added σ (derivation_side σ.stage) σ.working Working h
  numbers_step σ Abandon h e = numbers_moved σ (effect σ Abandon).0 refl refl refl h
  numbers_step σ (Close v) h e = numbers_moved σ (effect σ (Close v)).0 refl refl refl h

  numbers : {h : List Event} {σ : State} → Happens m n h σ → Numbers m n σ
  numbers opened =
      record {
        few_named = omega arith;
        clauses_sized = record { cells_same = refl; cost_same = refl; left_within = omega arith };
        cubes_sized = record { cells_same = refl; cost_same = refl; left_within = omega arith };
      }
  numbers (called {h = h} {σ = σ} c H) = go (numbers H) (check σ c) refl
    where
      go : Numbers m n σ → (o : Option Refusal) → check σ c ≡ o → Numbers m n (answered σ c o).0
      go k (Some r) e = k
      go k None e = numbers_step σ c k e

well_formed : (prefix : List Quantifier) (C : List ℕ) → length prefix ≤ 512 → rising C ≡ true → NamedIn prefix C → is_formed C ≡ true
well_formed prefix C b r n = and_from (every is_code C) (rising C) (every_from is_code C (λ l i. (let p = n l i in code_from l (omega arith) (omega arith)))) r

lawful : (m x : Meaning) → Lawful m → Sized m x → ((C : List ℕ) → In C x.list → is_formed C ≡ true) → Lawful x
lawful m x a z f =
    let b = a.cells in
    let c = z.cells_same in
    let d = z.left_within in
    record { cells = omega arith; left = omega arith; costs = λ k i. subst (λ g. (1 ≤ g k) × (g k < 2 ^ 32)) (sym z.cost_same) (a.costs k i); formed = f }

working_fit : (h : List Call) (σ : State) → Kept h σ → (g : Stage) (C : List ℕ) → Facts h g C → C ≡ held g h → (rising C ≡ true) × NamedIn (told h).prefix C
working_fit h σ k Naming C f e = none_fit (told h).prefix C f.0
  where
    none_fit : (prefix : List Quantifier) (C : List ℕ) → C ≡ [] → (rising C ≡ true) × NamedIn prefix C
    none_fit prefix C e = (subst (λ D. rising D ≡ true) (sym e) refl, subst (λ D. NamedIn prefix D) (sym e) (λ l i. absurd (both_ways false refl i)))
working_fit h σ k Loading C f e = (f.0, f.1)
working_fit h σ k Working C f e = (subst (λ D. rising D ≡ true) (sym f) refl, subst (λ D. NamedIn (told h).prefix D) (sym f) (λ l i. absurd (both_ways false refl i)))
working_fit h σ k (Derivation s) C f e =
    let p = fit s (told h).prefix (loaded_of s h) (loaded_named h σ k s) (λ D j. (k.base.fits s D j).0) f.1 in (p.up, p.named)
working_fit h σ k (Closed v) C f e = (subst (λ D. rising D ≡ true) (sym e) refl, subst (λ D. NamedIn (told h).prefix D) (sym e) (λ l i. absurd (both_ways false refl i)))

pub every_within : EveryWithin
every_within m n a b events σ H =
    record {
      clauses = lawful m σ.clauses a z.clauses_sized (formed Clause);
      cubes = lawful n σ.cubes b z.cubes_sized (formed Cube);
      same_clauses = (z.clauses_sized.cells_same, z.clauses_sized.cost_same);
      same_cubes = (z.cubes_sized.cells_same, z.cubes_sized.cost_same);
      few = z.few_named;
      formed = (let w = working_fit h σ k σ.stage σ.working k.facts k.working in well_formed (told h).prefix σ.working few w.0 w.1);
      short = subst (λ prefix. length σ.trail ≤ length prefix) (sym k.base.prefix) (subst (λ t. length t ≤ length (told h).prefix) (sym k.base.trail) (stands_short (told h).prefix (λ s. all_of s h) (told h).trail k.base.stands));
    }
  where
    h : List Call
    h = taken_calls events

    k : Kept h σ
    k = kept H

    z : Numbers m n σ
    z = numbers m n H

    few : length (told h).prefix ≤ 512
    few = subst (λ prefix. length prefix ≤ 512) k.base.prefix z.few_named

    formed : (s : Side) (C : List ℕ) → In C (database s σ).list → is_formed C ≡ true
    formed s C i = let p = fits_all h σ k s C (subst (In C) (k.base.lists s) i) in well_formed (told h).prefix C few p.up p.named

before : {m n : Meaning} {g : List Event} {σ : State} → Happens m n g σ → (e : Event) (h : List Event) → g ≡ e ∷ h → (τ : State) × Happens m n h τ
before opened e h q = absurd (let z : ◌≡◌ {A = ℕ} 0 1 = cc in omega arith)
before {m = m} {n = n} (called {h = g} {σ = τ} c H) e h q = (τ, subst (λ x. Happens m n x τ) (let r : g ≡ h = cc in r) H)

pub prefixes : Prefixes
prefixes m n e h σ H = before H e h refl
