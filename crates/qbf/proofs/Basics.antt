-- Lists of codes, literals, and what is set. Assumes nothing.
use Rattle.std.proofs.Common.{◌≡◌, ℕ, ◌%◌, ◌<◌, Bool, true, false, cond, ◌||◌, eqb, ltb, ◌⊎◌, List, [], ◌∷◌, filter, sym, refl, ap, ◌∙◌, subst, inl, inr, ⊎_elim, arith}
use Rattle.std.proofs.lemmas.Bool.{and_parts, and_from, or_cases, or_left, or_right, or_parts, both_ways, eq-eqb, eqb-true, ne_eqb, ltb-true, cases_eq}
use Rattle.qbf.specs.declared.side.Side.{Side}
use Rattle.qbf.specs.declared.side.Side.TheVariants.{Clause, Cube}
use Rattle.qbf.specs.Qbf.{variable, complement, setting, has, every, some, In, is_set, rising, against, implied}

-- every, some and filter over lists of codes
pub every_in : (p : ℕ → Bool) (C : List ℕ) (l : ℕ) → every p C ≡ true → has C l ≡ true → p l ≡ true
every_in p [] l e h = absurd (both_ways false refl h)
every_in p (m ∷ C) l e h =
    let e' = and_parts (p m) (every p C) e in
    ⊎_elim (λ q. subst (λ n. p n ≡ true) (sym (eqb-true l m q)) e'.0) (λ q. every_in p C l e'.1 q) (or_cases (eqb l m) (has C l) h)

pub has_head : (m : ℕ) (C : List ℕ) → has (m ∷ C) m ≡ true
has_head m C = or_left (eqb m m) (has C m) (eq-eqb m m refl)

pub has_tail : (m l : ℕ) (C : List ℕ) → has C l ≡ true → has (m ∷ C) l ≡ true
has_tail m l C h = or_right (eqb l m) (has C l) h

pub every_from : (p : ℕ → Bool) (C : List ℕ) → ((l : ℕ) → has C l ≡ true → p l ≡ true) → every p C ≡ true
every_from p [] f = refl
every_from p (m ∷ C) f = and_from (p m) (every p C) (f m (has_head m C)) (every_from p C (λ l h. f l (has_tail m l C h)))

pub some_has : (p : ℕ → Bool) (C : List ℕ) (l : ℕ) → has C l ≡ true → p l ≡ true → some p C ≡ true
some_has p [] l h q = h
some_has p (m ∷ C) l h q =
    ⊎_elim (λ e. or_left (p m) (some p C) (subst (λ n. p n ≡ true) (eqb-true l m e) q)) (λ e. or_right (p m) (some p C) (some_has p C l e q))
    (or_cases (eqb l m) (has C l) h)

pub some_which : (p : ℕ → Bool) (C : List ℕ) → some p C ≡ true → (l : ℕ) × (has C l ≡ true) × (p l ≡ true)
some_which p [] h = absurd (both_ways false refl h)
some_which p (m ∷ C) h =
    ⊎_elim (λ e. (m, has_head m C, e)) (λ e. let r = some_which p C e in (r.0, has_tail m r.0 C r.1, r.2)) (or_cases (p m) (some p C) h)

pub has_keep : (p : ℕ → Bool) (C : List ℕ) (l : ℕ) → has C l ≡ true → p l ≡ true → has (filter p C) l ≡ true
has_keep p [] l h q = h
has_keep p (m ∷ C) l h q = go (λ i. has_keep p C l i q) (p m) refl (or_cases (eqb l m) (has C l) h)
  where
    go : (has C l ≡ true → has (filter p C) l ≡ true) → (b : Bool) → p m ≡ b → (eqb l m ≡ true) ⊎ (has C l ≡ true) → has (cond b (m ∷ filter p C) (filter p C)) l ≡ true
    go ih true e (inl i) = or_left (eqb l m) (has (filter p C) l) i
    go ih true e (inr i) = or_right (eqb l m) (has (filter p C) l) (ih i)
    go ih false e (inl i) = absurd (both_ways (p l) (ap p (eqb-true l m i) ∙ e) q)
    go ih false e (inr i) = ih i

pub keep_has : (p : ℕ → Bool) (C : List ℕ) (l : ℕ) → has (filter p C) l ≡ true → (has C l ≡ true) × (p l ≡ true)
keep_has p [] l h = absurd (both_ways false refl h)
keep_has p (m ∷ C) l h = go (λ i. keep_has p C l i) (p m) refl h
  where
    more : (has C l ≡ true) × (p l ≡ true) → (has (m ∷ C) l ≡ true) × (p l ≡ true)
    more r = (or_right (eqb l m) (has C l) r.0, r.1)

    go : (has (filter p C) l ≡ true → (has C l ≡ true) × (p l ≡ true)) → (b : Bool) → p m ≡ b → has (cond b (m ∷ filter p C) (filter p C)) l ≡ true → (has (m ∷ C) l ≡ true) × (p l ≡ true)
    go ih true e i = ⊎_elim (λ j. (or_left (eqb l m) (has C l) j, ap p (eqb-true l m j) ∙ e)) (λ j. more (ih j)) (or_cases (eqb l m) (has (filter p C) l) i)
    go ih false e i = more (ih i)

-- tables
pub some_in : {X : Type 0} (p : X → Bool) (T : List X) (C : X) → In C T → p C ≡ true → some p T ≡ true
some_in p [] C i q = absurd i
some_in p (D ∷ T) C (inl e) q = or_left (p D) (some p T) (subst (λ x. p x ≡ true) e q)
some_in p (D ∷ T) C (inr i) q = or_right (p D) (some p T) (some_in p T C i q)

pub none_in : {X : Type 0} (p : X → Bool) (T : List X) (C : X) → some p T ≡ false → In C T → p C ≡ false
none_in p [] C e i = absurd i
none_in p (D ∷ T) C e (inl q) = subst (λ x. p x ≡ false) (sym q) (or_parts (p D) (some p T) e).0
none_in p (D ∷ T) C e (inr i) = none_in p T C (or_parts (p D) (some p T) e).1 i

-- literals
pub against_variable : (s : Side) (l : ℕ) → variable (against s l) ≡ variable l
against_variable Clause l = omega arith
against_variable Cube l = refl

pub complement_variable : (l : ℕ) → variable (complement l) ≡ variable l
complement_variable l = omega arith

pub twice : (l : ℕ) → complement (complement l) ≡ l
twice l = omega arith

pub implied_is : (s : Side) (l : ℕ) → implied s l ≡ complement (against s l)
implied_is Clause l = sym (twice l)
implied_is Cube l = refl

pub implied_variable : (s : Side) (l : ℕ) → variable (implied s l) ≡ variable l
implied_variable Clause l = refl
implied_variable Cube l = complement_variable l

pub implied_back : (s : Side) (l : ℕ) → complement (implied s l) ≡ against s l
implied_back Clause l = refl
implied_back Cube l = twice l

pub setting_variable : (v : ℕ) (b : Bool) → variable (setting v b) ≡ v
setting_variable v true = omega arith
setting_variable v false = omega arith

-- a literal of the variable is one of its two settings
pub which : (l : ℕ) → (l ≡ setting (variable l) true) ⊎ (l ≡ setting (variable l) false)
which l = ⊎_elim (λ (e : l % 2 ≡ 0). inl (omega arith)) (λ (e : l % 2 ≡ 0 → ⊥). inr (omega arith)) (cases_eq (l % 2) 0)

-- a set variable has one of its literals in the assignment
pub set_has : (A : List ℕ) (l : ℕ) → is_set A (variable l) ≡ true → (has A l ≡ true) ⊎ (has A (complement l) ≡ true)
set_has A l h = go (which l) (or_cases (has A (setting (variable l) true)) (has A (setting (variable l) false)) h)
  where
    at : (m n : ℕ) → m ≡ n → has A m ≡ true → has A n ≡ true
    at m n e k = subst (λ x. has A x ≡ true) e k

    go : (l ≡ setting (variable l) true) ⊎ (l ≡ setting (variable l) false) → (has A (setting (variable l) true) ≡ true) ⊎ (has A (setting (variable l) false) ≡ true) → (has A l ≡ true) ⊎ (has A (complement l) ≡ true)
    go (inl e) (inl i) = inl (at (setting (variable l) true) l (sym e) i)
    go (inl e) (inr i) = inr (at (setting (variable l) false) (complement l) (omega arith) i)
    go (inr e) (inl i) = inr (at (setting (variable l) true) (complement l) (omega arith) i)
    go (inr e) (inr i) = inl (at (setting (variable l) false) l (sym e) i)

pub has_set : (A : List ℕ) (l : ℕ) → has A l ≡ true → is_set A (variable l) ≡ true
has_set A l h =
    ⊎_elim (λ (e : l ≡ setting (variable l) true). or_left (has A (setting (variable l) true)) (has A (setting (variable l) false)) (subst (λ x. has A x ≡ true) e h))
    (λ (e : l ≡ setting (variable l) false). or_right (has A (setting (variable l) true)) (has A (setting (variable l) false)) (subst (λ x. has A x ≡ true) e h)) (which l)

-- another variable's literal does not set this one
pub has_other : (A : List ℕ) (x l : ℕ) → (variable x ≡ variable l → ⊥) → has (x ∷ A) l ≡ has A l
has_other A x l n = ap (λ b. b || has A l) (ne_eqb l x (λ e. n (ap variable (sym e))))

pub set_other : (A : List ℕ) (x v : ℕ) → (variable x ≡ v → ⊥) → is_set (x ∷ A) v ≡ is_set A v
set_other A x v n = let a = has_other A x (setting v true) (λ e. n (omega arith)) in let b = has_other A x (setting v false) (λ e. n (omega arith)) in cc

pub set_new : (A : List ℕ) (x : ℕ) → is_set (x ∷ A) (variable x) ≡ true
set_new A x = has_set (x ∷ A) x (has_head x A)

-- in a rising list a variable stands once
pub apart : (C : List ℕ) → rising C ≡ true → (l m : ℕ) → has C l ≡ true → has C m ≡ true → variable l ≡ variable m → l ≡ m
apart [] r l m h k e = absurd (both_ways false refl h)
apart (n ∷ C) r l m h k e = go (λ i j. apart C r'.1 l m i j e) (or_cases (eqb l n) (has C l) h) (or_cases (eqb m n) (has C m) k)
  where
    r' : (every (λ x. ltb (variable n) (variable x)) C ≡ true) × (rising C ≡ true)
    r' = and_parts (every (λ x. ltb (variable n) (variable x)) C) (rising C) r

    later : (x : ℕ) → has C x ≡ true → variable n < variable x
    later x i = ltb-true (variable n) (variable x) (every_in (λ y. ltb (variable n) (variable y)) C x r'.0 i)

    go : (has C l ≡ true → has C m ≡ true → l ≡ m) → (eqb l n ≡ true) ⊎ (has C l ≡ true) → (eqb m n ≡ true) ⊎ (has C m ≡ true) → l ≡ m
    go ih (inl i) (inl j) = eqb-true l n i ∙ sym (eqb-true m n j)
    go ih (inl i) (inr j) = absurd (let a = later m j in let b = eqb-true l n i in let c : variable l ≡ variable n = ap variable b in omega arith)
    go ih (inr i) (inl j) = absurd (let a = later l i in let b = eqb-true m n j in let c : variable m ≡ variable n = ap variable b in omega arith)
    go ih (inr i) (inr j) = ih i j
