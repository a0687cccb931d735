-- What reducing and resolving make is rising, named and entailed. Assumes nothing.
use Rattle.std.proofs.Common.{◌≡◌, ℕ, ◌<◌, ◌≤◌, Bool, true, false, cond, not, eqb, ltb, ◌⊎◌, List, [], ◌∷◌, length, filter, sym, refl, ap, subst, inl, inr, ⊎_elim, arith}
use Rattle.std.proofs.lemmas.Bool.{and_parts, and_from, or_cases, or_left, or_right, eq-eqb, eqb-true, eqb-false, ltb-true, ltb-false, lt-ltb, cases_eq, not-true}
use Rattle.qbf.specs.declared.quantifier.Quantifier.{Quantifier}
use Rattle.qbf.specs.declared.side.Side.{Side}
use Rattle.qbf.specs.Qbf.{variable, complement, has, every, In, Named, rising, own_from, insert, merge, without}
use Rattle.qbf.specs.Trees.{Entails, Derived, stated, reducing, resolving}
use Rattle.qbf.specs.Theory.{Learning}
use Rattle.qbf.proofs.Basics.{has_head, has_tail, every_in, every_from, keep_has}
use Rattle.qbf.proofs.Strategies.{members, reducing_keeps, resolving_keeps, any_choice, empty_loses}

-- what is derived is rising, named and entailed
rising_from : (l : ℕ) (C : List ℕ) → ((m : ℕ) → has C m ≡ true → variable l < variable m) → rising C ≡ true → rising (l ∷ C) ≡ true
rising_from l C h r = and_from (every (λ m. ltb (variable l) (variable m)) C) (rising C) (every_from (λ m. ltb (variable l) (variable m)) C (λ m i. lt-ltb (variable l) (variable m) (h m i))) r

pub rising_parts : (l : ℕ) (C : List ℕ) → rising (l ∷ C) ≡ true → ((m : ℕ) → has C m ≡ true → variable l < variable m) × (rising C ≡ true)
rising_parts l C r =
    let p = and_parts (every (λ m. ltb (variable l) (variable m)) C) (rising C) r in
    (λ m h. ltb-true (variable l) (variable m) (every_in (λ m. ltb (variable l) (variable m)) C m p.0 h), p.1)

pub rising_keep : (p : ℕ → Bool) (C : List ℕ) → rising C ≡ true → rising (filter p C) ≡ true
rising_keep p [] r = refl
rising_keep p (l ∷ C) r = let q = rising_parts l C r in go (rising_keep p C q.1) (p l)
  where
    go : rising (filter p C) ≡ true → (b : Bool) → rising (cond b (l ∷ filter p C) (filter p C)) ≡ true
    go ih true = rising_from l (filter p C) (λ m h. (rising_parts l C r).0 m (keep_has p C m h).0) ih
    go ih false = ih

has_insert_cases : (l : ℕ) (D : List ℕ) (x : ℕ) → has (insert l D) x ≡ true → (x ≡ l) ⊎ (has D x ≡ true)
has_insert_cases l [] x h = ⊎_elim (λ e. inl (eqb-true x l e)) (λ e. inr e) (or_cases (eqb x l) false h)
has_insert_cases l (m ∷ D) x h = go (λ k. has_insert_cases l D x k) (ltb l m) (eqb l m) h
  where
    go : (has (insert l D) x ≡ true → (x ≡ l) ⊎ (has D x ≡ true)) → (a b : Bool) → has (cond a (l ∷ m ∷ D) (cond b (m ∷ D) (m ∷ insert l D))) x ≡ true → (x ≡ l) ⊎ (has (m ∷ D) x ≡ true)
    go ih true b k = ⊎_elim (λ e. inl (eqb-true x l e)) (λ e. inr e) (or_cases (eqb x l) (has (m ∷ D) x) k)
    go ih false true k = inr k
    go ih false false k =
        ⊎_elim (λ e. inr (or_left (eqb x m) (has D x) e)) (λ e. ⊎_elim (λ q. inl q) (λ q. inr (or_right (eqb x m) (has D x) q)) (ih e)) (or_cases (eqb x m) (has (insert l D) x) k)

rising_insert : (l : ℕ) (D : List ℕ) → rising D ≡ true → ((m : ℕ) → has D m ≡ true → variable m ≡ variable l → m ≡ l) → rising (insert l D) ≡ true
rising_insert l [] r a = refl
rising_insert l (m ∷ D) r a = go (rising_insert l D (rising_parts m D r).1 (λ x h. a x (has_tail m x D h))) (ltb l m) refl (eqb l m) refl
  where
    past : (x : ℕ) → has D x ≡ true → variable m < variable x
    past x h = (rising_parts m D r).0 x h

    go : rising (insert l D) ≡ true → (x : Bool) → ltb l m ≡ x → (y : Bool) → eqb l m ≡ y → rising (cond x (l ∷ m ∷ D) (cond y (m ∷ D) (m ∷ insert l D))) ≡ true
    go ih true p y q =
        let k = ltb-true l m p in
        let n : variable m ≡ variable l → ⊥ = λ e. (let z = a m (has_head m D) e in omega arith) in
        rising_from l (m ∷ D) (λ x h. ⊎_elim (λ e. let z = eqb-true x m e in let zz : variable x ≡ variable m = ap variable z in omega arith) (λ e. let z = past x e in omega arith) (or_cases (eqb x m) (has D x) h)) r
    go ih false p true q = r
    go ih false p false q =
        let k = ltb-false l m p in
        let n : variable m ≡ variable l → ⊥ = λ e. (eqb-false l m q (sym (a m (has_head m D) e))) in
        rising_from m (insert l D) (λ x h. ⊎_elim (λ e. let zz : variable x ≡ variable l = ap variable e in omega arith) (λ e. past x e) (has_insert_cases l D x h)) ih

pub has_merge_cases : (C D : List ℕ) (x : ℕ) → has (merge C D) x ≡ true → (has C x ≡ true) ⊎ (has D x ≡ true)
has_merge_cases [] D x h = inr h
has_merge_cases (l ∷ C) D x h =
    ⊎_elim (λ e. inl (or_left (eqb x l) (has C x) (eq-eqb x l e))) (λ e. ⊎_elim (λ q. inl (or_right (eqb x l) (has C x) q)) (λ q. inr q) (has_merge_cases C D x e)) (has_insert_cases l (merge C D) x h)

rising_merge : (C D : List ℕ) → rising C ≡ true → rising D ≡ true → ((l m : ℕ) → has C l ≡ true → has D m ≡ true → variable l ≡ variable m → l ≡ m) → rising (merge C D) ≡ true
rising_merge [] D r q a = q
rising_merge (l ∷ C) D r q a =
    let p = rising_parts l C r in
    rising_insert l (merge C D) (rising_merge C D p.1 q (λ x y h. a x y (has_tail l x C h)))
    (λ m h e. ⊎_elim (λ i. absurd (let z = p.0 m i in omega arith)) (λ i. sym (a l m (has_head l C) i (sym e))) (has_merge_cases C D m h))

pub record Fit (s : Side) (prefix : List Quantifier) (T : List (List ℕ)) (C : List ℕ) : Type 0 where
  pub up : rising C ≡ true
  pub named : (l : ℕ) → has C l ≡ true → (1 ≤ variable l) × (variable l ≤ length prefix)
  pub entailed : Entails s prefix T C

one_named : (prefix : List Quantifier) (C : List ℕ) → ((l : ℕ) → has C l ≡ true → (1 ≤ variable l) × (variable l ≤ length prefix)) → Named prefix (C ∷ [])
one_named prefix C h D (inl e) l i = h l (subst (λ E. has E l ≡ true) e i)
one_named prefix C h D (inr e) l i = absurd e

-- two codes of one variable are equal or complements
two : (l m : ℕ) → variable l ≡ variable m → (l ≡ m) ⊎ (m ≡ complement l)
two l m e = ⊎_elim (λ (q : l ≡ m). inl q) (λ (q : l ≡ m → ⊥). inr (omega arith)) (cases_eq l m)

pub fit : (s : Side) (prefix : List Quantifier) (T : List (List ℕ)) → Named prefix T → ((C : List ℕ) → In C T → rising C ≡ true) → {C : List ℕ} → Derived s prefix T C → Fit s prefix T C
fit s prefix T n r (stated {C = C} i) = record { up = r C i; named = n C i; entailed = members s prefix T C i }
fit s prefix T n r (reducing {C = C} d) =
    let f = fit s prefix T n r d in
    record {
      up = rising_keep (λ l. own_from s prefix C (variable l)) C f.up;
      named = λ l h. f.named l (keep_has (λ l. own_from s prefix C (variable l)) C l h).0;
      entailed = reducing_keeps s prefix T C (one_named prefix C f.named) f.up f.entailed;
    }
fit s prefix T n r (resolving {C = C} {D = D} p o h k a c d) =
    let f = fit s prefix T n r c in
    let g = fit s prefix T n r d in
    let test : ℕ → Bool = λ l. not (eqb (variable l) (variable p)) in
    record {
      up =
          rising_merge (without (variable p) C) (without (variable p) D) (rising_keep test C f.up) (rising_keep test D g.up)
          (λ l m i j e.
          let i' = keep_has test C l i in
          let j' = keep_has test D m j in
          ⊎_elim (λ q. q) (λ q. absurd (eqb-false (variable l) (variable p) (not-true (eqb (variable l) (variable p)) i'.1) (a l i'.0 (subst (λ x. has D x ≡ true) q j'.0)))) (two l m e));
      named = λ l i. ⊎_elim (λ q. f.named l (keep_has test C l q).0) (λ q. g.named l (keep_has test D l q).0) (has_merge_cases (without (variable p) C) (without (variable p) D) l i);
      entailed = resolving_keeps s prefix T C D p (one_named prefix C f.named) f.up g.up h k f.entailed g.entailed;
    }

pub learning : Learning
learning s prefix T S n r d = (
  any_choice s prefix T S n (λ C i. (fit s prefix T n r (d C i)).named) (λ C i. (fit s prefix T n r (d C i)).entailed),
  λ i. empty_loses s prefix T n (fit s prefix T n r (d [] i)).entailed,
)
