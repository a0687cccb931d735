-- Two rising constraints by what comes first in them: whether they clash, and what resolving makes. Assumes nothing.
use Rattle.std.proofs.Common.{◌≡◌, ℕ, ◌<◌, ◌≤◌, Bool, true, false, cond, not, ◌&&◌, ◌||◌, eqb, ltb, ◌⊎◌, List, [], ◌∷◌, ◌++◌, slice_get, sym, refl, ap, ◌∙◌, ap₂, inl, inr, ⊎_elim, arith}
use Rattle.std.proofs.lemmas.Bool.{and_parts, and_from, or_cases, or_left, or_right, both_ways, cases_Bool, cond-true, cond-false, lt-ltb, le-ltb, eq-eqb, ne_eqb, eqb-true}
use Rattle.qbf.specs.Qbf.{variable, complement, setting, has, some, rising, insert, merge, without, resolve}
use Rattle.qbf.proofs.Basics.{complement_variable, setting_variable, has_head, has_tail, keep_has, some_has, some_which, which}
use Rattle.qbf.proofs.Learned.{has_merge_cases, rising_parts}
use Rattle.calculus.specs.State.{clash}
use Rattle.operations.specs.Fronts.{Before}

-- tests joined by or
pub or_more : (a b c : Bool) → ((a || b) || c) ≡ (a || (b || c))
or_more true b c = refl
or_more false b c = refl

pub or_none : (a : Bool) → (a || false) ≡ a
or_none true = refl
or_none false = refl

pub or_yes : (a : Bool) → (a || true) ≡ true
or_yes true = refl
or_yes false = refl

-- C and D hold a variable that passes q with opposite signs
abbrev pub opposed : (ℕ → Bool) → List ℕ → List ℕ → Bool
opposed q C D = some (λ l. q (variable l) && has D (complement l)) C

abbrev pub is : ℕ → ℕ → Bool
is x v = eqb v x

abbrev pub isnt : ℕ → ℕ → Bool
isnt x v = not (eqb v x)

-- a clash on x is that of x
both_true : (a b : Bool) → (a ≡ true → b ≡ true) → (b ≡ true → a ≡ true) → a ≡ b
both_true true b f g = sym (f refl)
both_true false true f g = g refl
both_true false false f g = refl

module _ (C D : List ℕ) (x : ℕ) where
  abbrev T : ℕ → Bool
  T l = is x (variable l) && has D (complement l)

  one_way : (b c : Bool) → complement (setting x b) ≡ setting x c → (has C (setting x b) && has D (setting x c)) ≡ true → opposed (is x) C D ≡ true
  one_way b c e h =
      let p = and_parts (has C (setting x b)) (has D (setting x c)) h in
      some_has T C (setting x b) p.0
      (and_from (is x (variable (setting x b))) (has D (complement (setting x b))) (eq-eqb (variable (setting x b)) x (setting_variable x b)) (ap (has D) e ∙ p.1))

  two_ways : (l : ℕ) → has C l ≡ true → T l ≡ true → clash C D x ≡ true
  two_ways l h t =
      let p = and_parts (is x (variable l)) (has D (complement l)) t in
      let v = eqb-true (variable l) x p.0 in
      let A : Bool = has C (setting x true) && has D (setting x false) in
      let B : Bool = has C (setting x false) && has D (setting x true) in
      ⊎_elim
      (λ (e : l ≡ setting (variable l) true).
      let i : l ≡ setting x true = e ∙ ap (λ w. setting w true) v in
      let j : complement l ≡ setting x false = omega arith in
      or_left A B (and_from (has C (setting x true)) (has D (setting x false)) (ap (has C) (sym i) ∙ h) (ap (has D) (sym j) ∙ p.1)))
      (λ (e : l ≡ setting (variable l) false).
      let i : l ≡ setting x false = e ∙ ap (λ w. setting w false) v in
      let j : complement l ≡ setting x true = omega arith in
      or_right A B (and_from (has C (setting x false)) (has D (setting x true)) (ap (has C) (sym i) ∙ h) (ap (has D) (sym j) ∙ p.1)))
      (which l)

  pub clash_is : opposed (is x) C D ≡ clash C D x
  clash_is =
      both_true (opposed (is x) C D) (clash C D x)
      (λ h. let w = some_which T C h in two_ways w.0 w.1 w.2)
      (λ h. ⊎_elim (λ k. one_way true false (omega arith) k) (λ k. one_way false true (omega arith) k)
      (or_cases (has C (setting x true) && has D (setting x false)) (has C (setting x false) && has D (setting x true)) h))

-- all of D lie above the variable v
abbrev pub Above : ℕ → List ℕ → Type 0
Above v D = (m : ℕ) → has D m ≡ true → v < variable m

-- a lesser variable before the first one: all lie above
pub above_all : (c : ℕ) (Y : List ℕ) → rising Y ≡ true → Before c (slice_get Y 0) → Above (variable c) Y
above_all c [] r b m h = absurd (both_ways false refl h)
above_all c (d ∷ Y) r b m h =
    ⊎_elim (λ e. let z : variable m ≡ variable d = ap variable (eqb-true m d e) in omega arith) (λ e. let z = (rising_parts d Y r).0 m e in omega arith) (or_cases (eqb m d) (has Y m) h)

has_none : (v : ℕ) (D : List ℕ) (m : ℕ) → Above v D → variable m ≤ v → has D m ≡ false
has_none v D m f h = ⊎_elim (λ (e : has D m ≡ true). absurd (let z = f m e in omega arith)) (λ e. e) (cases_Bool (has D m))

some_same : (p q : ℕ → Bool) (C : List ℕ) → ((l : ℕ) → has C l ≡ true → p l ≡ q l) → some p C ≡ some q C
some_same p q [] h = refl
some_same p q (l ∷ C) h = ap₂ ◌||◌ (h l (has_head l C)) (some_same p q C (λ m i. h m (has_tail l m C i)))

and_false : (a b : Bool) → ((a && false) || b) ≡ b
and_false true b = refl
and_false false b = refl

and_true : (a b : Bool) → ((a && true) || b) ≡ (a || b)
and_true true b = refl
and_true false b = refl

-- opposed
pub opposed_left : (q : ℕ → Bool) (a : ℕ) (C D : List ℕ) → Above (variable a) D → opposed q (a ∷ C) D ≡ opposed q C D
opposed_left q a C D f = ap (λ b. (q (variable a) && b) || opposed q C D) (has_none (variable a) D (complement a) f (omega (arith, complement_variable a))) ∙ and_false (q (variable a)) (opposed q C D)

pub opposed_right : (q : ℕ → Bool) (C : List ℕ) (b : ℕ) (D : List ℕ) → Above (variable b) C → opposed q C (b ∷ D) ≡ opposed q C D
opposed_right q C b D f =
    some_same (λ l. q (variable l) && has (b ∷ D) (complement l)) (λ l. q (variable l) && has D (complement l)) C
    (λ l h. ap (λ z. q (variable l) && (z || has D (complement l)))
    (ne_eqb (complement l) b (λ e. let z = f l h in let y : variable (complement l) ≡ variable b = ap variable e in let w = complement_variable l in omega arith)))

pub opposed_both : (q : ℕ → Bool) (a : ℕ) (C D : List ℕ) → Above (variable a) C → Above (variable a) D → opposed q (a ∷ C) (a ∷ D) ≡ opposed q C D
opposed_both q a C D f g =
    let e : has (a ∷ D) (complement a) ≡ false =
    ap₂ ◌||◌ (ne_eqb (complement a) a (λ (e : complement a ≡ a). omega arith)) (has_none (variable a) D (complement a) g (omega (arith, complement_variable a))) in
    ap (λ b. (q (variable a) && b) || opposed q C (a ∷ D)) e ∙ and_false (q (variable a)) (opposed q C (a ∷ D)) ∙ opposed_right q C a D f

pub opposed_opposite : (q : ℕ → Bool) (a : ℕ) (C D : List ℕ) → Above (variable a) C → opposed q (a ∷ C) (complement a ∷ D) ≡ (q (variable a) || opposed q C D)
opposed_opposite q a C D f =
    ap (λ b. (q (variable a) && b) || opposed q C (complement a ∷ D)) (has_head (complement a) D) ∙ and_true (q (variable a)) (opposed q C (complement a ∷ D))
    ∙ ap (λ b. q (variable a) || b) (opposed_right q C (complement a) D (λ m h. let z = f m h in let w = complement_variable a in omega arith))

-- insert and merge
insert_front : (a : ℕ) (M : List ℕ) → ((m : ℕ) → has M m ≡ true → a < m) → insert a M ≡ a ∷ M
insert_front a [] f = refl
insert_front a (m ∷ M) f = cond-true (ltb a m) (a ∷ m ∷ M) (cond (eqb a m) (m ∷ M) (m ∷ insert a M)) (lt-ltb a m (f m (has_head m M)))

insert_past : (a b : ℕ) (M : List ℕ) → b < a → insert a (b ∷ M) ≡ b ∷ insert a M
insert_past a b M h =
    cond-false (ltb a b) (a ∷ b ∷ M) (cond (eqb a b) (b ∷ M) (b ∷ insert a M)) (le-ltb a b (omega arith))
    ∙ cond-false (eqb a b) (b ∷ M) (b ∷ insert a M) (ne_eqb a b (λ (e : a ≡ b). omega arith))

insert_same : (a : ℕ) (M : List ℕ) → insert a (a ∷ M) ≡ a ∷ M
insert_same a M =
    cond-false (ltb a a) (a ∷ a ∷ M) (cond (eqb a a) (a ∷ M) (a ∷ insert a M)) (le-ltb a a (omega arith)) ∙ cond-true (eqb a a) (a ∷ M) (a ∷ insert a M) (eq-eqb a a refl)

merge_right : (C : List ℕ) (b : ℕ) (D : List ℕ) → ((m : ℕ) → has C m ≡ true → b < m) → merge C (b ∷ D) ≡ b ∷ merge C D
merge_right [] b D f = refl
merge_right (l ∷ C) b D f = ap (insert l) (merge_right C b D (λ m h. f m (has_tail l m C h))) ∙ insert_past l b (merge C D) (f l (has_head l C))

-- a code, unless it is of the variable x
abbrev pub kept : ℕ → ℕ → List ℕ
kept x l = without x (l ∷ [])

-- resolve
members : (C D : List ℕ) (x m : ℕ) → has (resolve C D x) m ≡ true → (has C m ≡ true) ⊎ (has D m ≡ true)
members C D x m h =
    let t : ℕ → Bool = λ l. not (eqb (variable l) x) in
    ⊎_elim (λ i. inl (keep_has t C m i).0) (λ i. inr (keep_has t D m i).0) (has_merge_cases (without x C) (without x D) m h)

pub resolve_left : (x a : ℕ) (C D : List ℕ) → Above (variable a) C → Above (variable a) D → resolve (a ∷ C) D x ≡ kept x a ++ resolve C D x
resolve_left x a C D f g = go (eqb (variable a) x)
  where
    go : (b : Bool) → merge (cond (not b) (a ∷ without x C) (without x C)) (without x D) ≡ cond (not b) (a ∷ []) [] ++ resolve C D x
    go true = refl
    go false = insert_front a (resolve C D x) (λ m h. ⊎_elim (λ i. let z = f m i in omega arith) (λ i. let z = g m i in omega arith) (members C D x m h))

pub resolve_right : (x : ℕ) (C : List ℕ) (b : ℕ) (D : List ℕ) → Above (variable b) C → resolve C (b ∷ D) x ≡ kept x b ++ resolve C D x
resolve_right x C b D f = go (eqb (variable b) x)
  where
    t : ℕ → Bool
    t l = not (eqb (variable l) x)

    go : (z : Bool) → merge (without x C) (cond (not z) (b ∷ without x D) (without x D)) ≡ cond (not z) (b ∷ []) [] ++ resolve C D x
    go true = refl
    go false = merge_right (without x C) b (without x D) (λ m h. let z = f m (keep_has t C m h).0 in omega arith)

pub resolve_both : (x a : ℕ) (C D : List ℕ) → Above (variable a) C → resolve (a ∷ C) (a ∷ D) x ≡ kept x a ++ resolve C D x
resolve_both x a C D f = go (eqb (variable a) x)
  where
    t : ℕ → Bool
    t l = not (eqb (variable l) x)

    go : (z : Bool) → merge (cond (not z) (a ∷ without x C) (without x C)) (cond (not z) (a ∷ without x D) (without x D)) ≡ cond (not z) (a ∷ []) [] ++ resolve C D x
    go true = refl
    go false = ap (insert a) (merge_right (without x C) a (without x D) (λ m h. let z = f m (keep_has t C m h).0 in omega arith)) ∙ insert_same a (resolve C D x)

pub resolve_opposite : (x a : ℕ) (C D : List ℕ) → variable a ≡ x → resolve (a ∷ C) (complement a ∷ D) x ≡ resolve C D x
resolve_opposite x a C D e = go (eqb (variable a) x) (eq-eqb (variable a) x e) (eqb (variable (complement a)) x) (eq-eqb (variable (complement a)) x (complement_variable a ∙ e))
  where
    go : (y : Bool) → y ≡ true → (z : Bool) → z ≡ true → merge (cond (not y) (a ∷ without x C) (without x C)) (cond (not z) (complement a ∷ without x D) (without x D)) ≡ resolve C D x
    go true i true j = refl
    go true i false j = absurd (both_ways false refl j)
    go false i z j = absurd (both_ways false refl i)
