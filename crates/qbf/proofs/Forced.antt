-- A unit constraint forces its literal. Assumes nothing.
use Rattle.std.proofs.Common.{◌≡◌, ℕ, suc, ◌+◌, ◌<◌, ◌≤◌, Bool, true, false, cond, not, ◌&&◌, ◌||◌, eqb, leb, ◌⊎◌, List, [], ◌∷◌, length, get_or, Some, None, sym, refl, ap, ◌∙◌, subst, ap₂, inl, inr, ⊎_elim, add-zero, zero-add, arith}
use Rattle.std.proofs.lemmas.Bool.{and_parts, and_from, or_cases, or_left, or_right, cases_Bool, both_ways, eqb-true, cond-true, cond-false, cases_eq, le-leb, not-true, not_from_false, cases_lt}
use Rattle.qbf.specs.declared.quantifier.Quantifier.{Quantifier}
use Rattle.qbf.specs.declared.quantifier.Quantifier.TheVariants.{Existential}
use Rattle.qbf.specs.declared.side.Side.{Side}
use Rattle.qbf.specs.declared.side.Side.TheVariants.{Clause, Cube}
use Rattle.qbf.specs.Qbf.{variable, complement, setting, quantifier_of, has, some, In, is_set, own, rising, against, losing, own_from, reduce, unset, only, unit, implied}
use Rattle.qbf.specs.Trees.{breaks}
use Rattle.qbf.specs.Theory.{Forcing}
use Rattle.qbf.proofs.Basics.{set_has, has_head, has_tail, set_new, set_other, setting_variable, complement_variable, against_variable, some_in, every_from, some_which, some_has, has_keep, keep_has, which, apart, implied_is, implied_variable, implied_back}
use Rattle.qbf.proofs.Sides.{both_or_one, broken, is_lost, seen, value_seen, clear_more}

-- K gives the quantifiers listed to the variables from v upward
abbrev pub Kinds : ℕ → List Quantifier → (ℕ → Quantifier) → Type 0
Kinds v [] K = Unit {0}
Kinds v (k ∷ ks) K = (K v ≡ k) × Kinds (suc v) ks K

prefix_kinds_from : (prefix ks : List Quantifier) (i : ℕ) → ((j : ℕ) → get_or ks j Existential ≡ get_or prefix (i + j) Existential) → Kinds (suc i) ks (quantifier_of prefix)
prefix_kinds_from prefix [] i h = tt
prefix_kinds_from prefix (k ∷ ks) i h = (
  sym (h 0 ∙ ap (λ j. get_or prefix j Existential) (add-zero i)),
  prefix_kinds_from prefix ks (suc i) (λ j. h (suc j) ∙ ap (λ n. get_or prefix n Existential) (let e : i + suc j ≡ suc i + j = omega arith in e)),
)

pub prefix_kinds : (prefix : List Quantifier) → Kinds 1 prefix (quantifier_of prefix)
prefix_kinds prefix = prefix_kinds_from prefix prefix 0 (λ j. ap (λ n. get_or prefix n Existential) (sym (zero-add j)))

-- a play depends on which literals are set, and not on their order
abbrev pub Same : List ℕ → List ℕ → Type 0
Same A B = (l : ℕ) → has A l ≡ has B l

pub same_more : (x : ℕ) (A B : List ℕ) → Same A B → Same (x ∷ A) (x ∷ B)
same_more x A B h l = ap (λ b. eqb l x || b) (h l)

swap : (x y : ℕ) (A : List ℕ) → Same (x ∷ y ∷ A) (y ∷ x ∷ A)
swap x y A l = go (eqb l x) (eqb l y)
  where
    go : (a b : Bool) → (a || (b || has A l)) ≡ (b || (a || has A l))
    go true true = refl
    go true false = refl
    go false true = refl
    go false false = refl

breaks_same : (s : Side) (A B C : List ℕ) → Same A B → breaks s A C ≡ breaks s B C
breaks_same s A B [] h = refl
breaks_same s A B (l ∷ C) h = ap₂ ◌&&◌ (h (against s l)) (breaks_same s A B C h)

broken_same : (s : Side) (T : List (List ℕ)) (A B : List ℕ) → Same A B → broken s T A ≡ broken s T B
broken_same s [] A B h = refl
broken_same s (C ∷ T) A B h = ap₂ ◌||◌ (breaks_same s A B C h) (broken_same s T A B h)

pub is_lost_same : (s : Side) (T : List (List ℕ)) (v : ℕ) (ks : List Quantifier) (A B : List ℕ) → Same A B → is_lost s T v ks A ≡ is_lost s T v ks B
is_lost_same s T v [] A B h = broken_same s T A B h
is_lost_same s T v (k ∷ ks) A B h =
    let a = is_lost_same s T (suc v) ks A B h in
    let b = is_lost_same s T (suc v) ks (setting v true ∷ A) (setting v true ∷ B) (same_more (setting v true) A B h) in
    let c = is_lost_same s T (suc v) ks (setting v false ∷ A) (setting v false ∷ B) (same_more (setting v false) A B h) in
    let d = h (setting v true) in
    let e = h (setting v false) in
    cc

-- a literal of C that is not set, of a variable from v upward, and of the other kind
pub record Free (s : Side) (K : ℕ → Quantifier) (v : ℕ) (A : List ℕ) (l : ℕ) : Type 0 where
  pub other : own s (K (variable l)) ≡ false
  pub free : is_set A (variable l) ≡ false
  pub later : v ≤ variable l

-- each literal of C is against, or free
abbrev pub Against : Side → (ℕ → Quantifier) → List ℕ → ℕ → List ℕ → Type 0
Against s K C v A = (l : ℕ) → has C l ≡ true → (has A (against s l) ≡ true) ⊎ Free s K v A l

against_pass : (s : Side) (K : ℕ → Quantifier) (C : List ℕ) (v : ℕ) (A : List ℕ) → is_set A v ≡ true → Against s K C v A → Against s K C (suc v) A
against_pass s K C v A e L l h = ⊎_elim (λ a. inl a) (λ f. inr (record { other = f.other; free = f.free; later = past f })) (L l h)
  where
    past : Free s K v A l → suc v ≤ variable l
    past f = let n : variable l ≡ v → ⊥ = λ q. both_ways (is_set A (variable l)) f.free (subst (λ w. is_set A w ≡ true) (sym q) e) in let m = f.later in omega arith

pub against_step : (s : Side) (K : ℕ → Quantifier) (C : List ℕ) (v : ℕ) (A : List ℕ) (x : ℕ) → variable x ≡ v
    → ((l : ℕ) → has C l ≡ true → variable l ≡ v → own s (K v) ≡ false → against s l ≡ x)
    → Against s K C v A → Against s K C (suc v) (x ∷ A)
against_step s K C v A x e N L l h = ⊎_elim (λ a. inl (has_tail x (against s l) A a)) (λ f. go f (cases_eq (variable l) v)) (L l h)
  where
    go : Free s K v A l → (variable l ≡ v) ⊎ (variable l ≡ v → ⊥) → (has (x ∷ A) (against s l) ≡ true) ⊎ Free s K (suc v) (x ∷ A) l
    go f (inl q) =
        inl (subst (λ y. has (y ∷ A) (against s l) ≡ true) (N l h q (subst (λ w. own s (K w) ≡ false) q f.other)) (has_head (against s l) A))
    go f (inr q) =
        inr (record { other = f.other; free = set_other A x (variable l) (λ t. q (sym t ∙ e)) ∙ f.free; later = (let m = f.later in omega arith) })

-- the setting of v that goes against C
unfoldable pub worst : Side → List ℕ → ℕ → Bool
worst Clause C v = not (has C (setting v true))
worst Cube C v = has C (setting v true)

pub worst_is : (s : Side) (C : List ℕ) → rising C ≡ true → (l : ℕ) → has C l ≡ true → against s l ≡ setting (variable l) (worst s C (variable l))
unfolding worst
worst_is s C r l h = go (which l) s
  where
    v : ℕ
    v = variable l

    go : (l ≡ setting (variable l) true) ⊎ (l ≡ setting (variable l) false) → (t : Side) → against t l ≡ setting (variable l) (worst t C (variable l))
    go (inl e) t = side t (subst (λ x. has C x ≡ true) e h)
      where
        side : (t : Side) → has C (setting (variable l) true) ≡ true → against t l ≡ setting (variable l) (worst t C (variable l))
        side Clause k = rw k (omega arith)
        side Cube k = rw k e
    go (inr e) t = side t (absent (has C (setting (variable l) true)) refl)
      where
        absent : (b : Bool) → has C (setting (variable l) true) ≡ b → has C (setting (variable l) true) ≡ false
        absent true q = absurd (let m = apart C r l (setting (variable l) true) h q (sym (setting_variable (variable l) true)) in omega arith)
        absent false q = q

        side : (t : Side) → has C (setting (variable l) true) ≡ false → against t l ≡ setting (variable l) (worst t C (variable l))
        side Clause k = rw k (omega arith)
        side Cube k = rw k e

pub against_is_lost : (s : Side) (K : ℕ → Quantifier) (T : List (List ℕ)) (C : List ℕ) → In C T → rising C ≡ true → (v : ℕ) (ks : List Quantifier) (A : List ℕ)
    → Kinds v ks K → ((l : ℕ) → has C l ≡ true → variable l < v + length ks) → Against s K C v A → is_lost s T v ks A ≡ true
against_is_lost s K T C i r v [] A k b L =
    some_in (λ D. breaks s A D) T C i (every_from (λ l. has A (against s l)) C (λ l h. ⊎_elim (λ a. a) (λ f. absurd (let m = f.later in let n = b l h in omega arith)) (L l h)))
against_is_lost s K T C i r v (k ∷ ks) A e b L =
    go (λ B M. against_is_lost s K T C i r (suc v) ks B e.1 (λ l h. let m = b l h in omega arith) M) (is_set A v) refl (own s k) refl
  where
    P : List ℕ → Bool
    P B = is_lost s T (suc v) ks B

    step : (x : ℕ) → variable x ≡ v → ((l : ℕ) → has C l ≡ true → variable l ≡ v → own s (K v) ≡ false → against s l ≡ x) → Against s K C (suc v) (x ∷ A)
    step x q N = against_step s K C v A x q N L

    never : own s k ≡ true → own s (K v) ≡ false → (l x : ℕ) → against s l ≡ x
    never p q l x = absurd (both_ways (own s k) (ap (own s) (sym e.0) ∙ q) p)

    mean : (z : Bool) → worst s C v ≡ z → Against s K C (suc v) (setting v z ∷ A)
    mean z q = step (setting v z) (setting_variable v z) (λ l h w o. worst_is s C r l h ∙ subst (λ u. setting u (worst s C u) ≡ setting v z) (sym w) (ap (setting v) q))

    other : ((B : List ℕ) → Against s K C (suc v) B → P B ≡ true) → (z : Bool) → worst s C v ≡ z → (P (setting v true ∷ A) || P (setting v false ∷ A)) ≡ true
    other ih true q = or_left (P (setting v true ∷ A)) (P (setting v false ∷ A)) (ih (setting v true ∷ A) (mean true q))
    other ih false q = or_right (P (setting v true ∷ A)) (P (setting v false ∷ A)) (ih (setting v false ∷ A) (mean false q))

    go : ((B : List ℕ) → Against s K C (suc v) B → P B ≡ true) → (y : Bool) → is_set A v ≡ y → (z : Bool) → own s k ≡ z
        → cond y (P A) (cond z (P (setting v true ∷ A) && P (setting v false ∷ A)) (P (setting v true ∷ A) || P (setting v false ∷ A))) ≡ true
    go ih true q z p = ih A (against_pass s K C v A q L)
    go ih false q true p =
        and_from (P (setting v true ∷ A)) (P (setting v false ∷ A))
        (ih (setting v true ∷ A) (step (setting v true) (setting_variable v true) (λ l h w o. never p o l (setting v true))))
        (ih (setting v false ∷ A) (step (setting v false) (setting_variable v false) (λ l h w o. never p o l (setting v false))))
    go ih false q false p = other ih (worst s C v) refl

-- C has under A the one own literal l, not set, and what else is not set is of the other kind and comes later
pub record Forces (s : Side) (K : ℕ → Quantifier) (C : List ℕ) (v : ℕ) (A : List ℕ) (l : ℕ) : Type 0 where
  pub mine : own s (K (variable l)) ≡ true
  pub free : is_set A (variable l) ≡ false
  pub next : v ≤ variable l
  pub rest : (m : ℕ) → has C m ≡ true → (has A (against s m) ≡ true) ⊎ ((m ≡ l) ⊎ Free s K (suc (variable l)) A m)

-- against l, the table is lost
forces_against : (s : Side) (K : ℕ → Quantifier) (C : List ℕ) (v w : ℕ) (A : List ℕ) (l : ℕ) → w ≤ suc (variable l) → Forces s K C v A l → Against s K C w (against s l ∷ A)
forces_against s K C v w A l b F m h = ⊎_elim (λ a. inl (has_tail (against s l) (against s m) A a)) (λ o. ⊎_elim same free o) (F.rest m h)
  where
    same : m ≡ l → (has (against s l ∷ A) (against s m) ≡ true) ⊎ Free s K w (against s l ∷ A) m
    same e = inl (subst (λ x. has (against s l ∷ A) (against s x) ≡ true) (sym e) (has_head (against s l) A))

    free : Free s K (suc (variable l)) A m → (has (against s l ∷ A) (against s m) ≡ true) ⊎ Free s K w (against s l ∷ A) m
    free f =
        inr (record { other = f.other; free = set_other A (against s l) (variable m) (λ t. let q = against_variable s l in let n = f.later in omega arith) ∙ f.free; later = (let n = f.later in omega arith) })

forces_pass : (s : Side) (K : ℕ → Quantifier) (C : List ℕ) (v : ℕ) (A : List ℕ) (l : ℕ) → (v ≡ variable l → ⊥) → Forces s K C v A l → Forces s K C (suc v) A l
forces_pass s K C v A l n F = record { mine = F.mine; free = F.free; next = (let m = F.next in omega arith); rest = F.rest }

forces_step : (s : Side) (K : ℕ → Quantifier) (C : List ℕ) (v : ℕ) (A : List ℕ) (l x : ℕ) → variable x ≡ v → (v ≡ variable l → ⊥) → Forces s K C v A l → Forces s K C (suc v) (x ∷ A) l
forces_step s K C v A l x e n F =
    record {
      mine = F.mine;
      free = set_other A x (variable l) (λ t. n (sym e ∙ t)) ∙ F.free;
      next = (let m = F.next in omega arith);
      rest =
          λ m h.
          ⊎_elim (λ a. inl (has_tail x (against s m) A a))
          (λ o. inr (⊎_elim (λ q. inl q) (λ (f : Free s K (suc (variable l)) A m). inr (record { other = f.other; free = set_other A x (variable m) (λ t. let a = F.next in let b = f.later in omega arith) ∙ f.free; later = f.later })) o))
          (F.rest m h);
    }

pub forced_is_lost : (s : Side) (K : ℕ → Quantifier) (T : List (List ℕ)) (C : List ℕ) → In C T → rising C ≡ true → (l v : ℕ) (ks : List Quantifier) (A : List ℕ)
    → Kinds v ks K → variable l < v + length ks → ((m : ℕ) → has C m ≡ true → variable m < v + length ks) → Forces s K C v A l
    → is_lost s T v ks (implied s l ∷ A) ≡ is_lost s T v ks A
forced_is_lost s K T C i r l v [] A e u b F = absurd (let m = F.next in omega arith)
forced_is_lost s K T C i r l v (k ∷ ks) A e u b F =
    ⊎_elim here (λ n. there n (λ B G. forced_is_lost s K T C i r l (suc v) ks B e.1 (omega arith) b' G) (is_set A v) refl) (cases_eq v (variable l))
  where
    p : ℕ
    p = implied s l

    q : ℕ
    q = against s l

    b' : (m : ℕ) → has C m ≡ true → variable m < suc v + length ks
    b' m h = let n = b m h in omega arith

    P : List ℕ → Bool
    P B = is_lost s T (suc v) ks B

    p_variable : variable p ≡ variable l
    p_variable = implied_variable s l

    both : (x y : ℕ) → ((q ≡ x) × (p ≡ y)) ⊎ ((q ≡ y) × (p ≡ x)) → P (q ∷ A) ≡ true → (P (x ∷ A) && P (y ∷ A)) ≡ P (p ∷ A)
    both x y (inl d) g = ap (λ z. P (z ∷ A) && P (y ∷ A)) (sym d.0) ∙ ap (λ z. z && P (y ∷ A)) g ∙ ap (λ z. P (z ∷ A)) (sym d.1)
    both x y (inr d) g = ap (λ z. P (x ∷ A) && P (z ∷ A)) (sym d.0) ∙ ap (λ z. P (x ∷ A) && z) g ∙ one (P (x ∷ A)) ∙ ap (λ z. P (z ∷ A)) (sym d.1)
      where
        one : (z : Bool) → (z && true) ≡ z
        one true = refl
        one false = refl

    pair : v ≡ variable l → ((q ≡ setting v true) × (p ≡ setting v false)) ⊎ ((q ≡ setting v false) × (p ≡ setting v true))
    pair w =
        let f = against_variable s l in
        let j : p ≡ complement q = implied_is s l in
        ⊎_elim (λ (g : q ≡ setting (variable q) true). inl (omega arith, omega arith)) (λ (g : q ≡ setting (variable q) false). inr (omega arith, omega arith)) (which q)

    here : v ≡ variable l → is_lost s T v (k ∷ ks) (p ∷ A) ≡ is_lost s T v (k ∷ ks) A
    here w =
        let f : is_set (p ∷ A) v ≡ true = subst (λ z. is_set (p ∷ A) z ≡ true) (p_variable ∙ sym w) (set_new A p) in
        let g : is_set A v ≡ false = subst (λ z. is_set A z ≡ false) (sym w) F.free in
        let o : own s k ≡ true = subst (λ z. own s z ≡ true) e.0 (subst (λ z. own s (K z) ≡ true) (sym w) F.mine) in
        let d : P (q ∷ A) ≡ true = against_is_lost s K T C i r (suc v) ks (q ∷ A) e.1 b' (forces_against s K C v (suc v) A l (omega arith) F) in
        cond-true (is_set (p ∷ A) v) (P (p ∷ A)) (both_or_one s k (P (setting v true ∷ p ∷ A)) (P (setting v false ∷ p ∷ A))) f
        ∙ sym (cond-false (is_set A v) (P A) (both_or_one s k (P (setting v true ∷ A)) (P (setting v false ∷ A))) g
        ∙ cond-true (own s k) (P (setting v true ∷ A) && P (setting v false ∷ A)) (P (setting v true ∷ A) || P (setting v false ∷ A)) o
        ∙ both (setting v true) (setting v false) (pair w) d)

    there : (v ≡ variable l → ⊥) → ((B : List ℕ) → Forces s K C (suc v) B l → P (p ∷ B) ≡ P B) → (z : Bool) → is_set A v ≡ z → is_lost s T v (k ∷ ks) (p ∷ A) ≡ is_lost s T v (k ∷ ks) A
    there n ih true g =
        let f = set_other A p v (λ t. n (sym t ∙ p_variable)) in
        cond-true (is_set (p ∷ A) v) (P (p ∷ A)) (both_or_one s k (P (setting v true ∷ p ∷ A)) (P (setting v false ∷ p ∷ A))) (f ∙ g)
        ∙ ih A (forces_pass s K C v A l n F)
        ∙ sym (cond-true (is_set A v) (P A) (both_or_one s k (P (setting v true ∷ A)) (P (setting v false ∷ A))) g)
    there n ih false g =
        let f = set_other A p v (λ t. n (sym t ∙ p_variable)) in
        cond-false (is_set (p ∷ A) v) (P (p ∷ A)) (both_or_one s k (P (setting v true ∷ p ∷ A)) (P (setting v false ∷ p ∷ A))) (f ∙ g)
        ∙ ap₂ (both_or_one s k) (each true) (each false)
        ∙ sym (cond-false (is_set A v) (P A) (both_or_one s k (P (setting v true ∷ A)) (P (setting v false ∷ A))) g)
      where
        each : (z : Bool) → P (setting v z ∷ p ∷ A) ≡ P (setting v z ∷ A)
        each z =
            is_lost_same s T (suc v) ks (setting v z ∷ p ∷ A) (p ∷ setting v z ∷ A) (swap (setting v z) p A)
            ∙ ih (setting v z ∷ A) (forces_step s K C v A l (setting v z) (setting_variable v z) n F)

-- Under A no literal of C is true (a clause), or false (a cube), and what is not set reduces to l alone.
pub record IsUnit (s : Side) (prefix : List Quantifier) (A C : List ℕ) (l : ℕ) : Type 0 where
  pub open_yet : some (λ m. has A (implied s m)) C ≡ false
  pub left : reduce s prefix (unset A C) ≡ l ∷ []

pub only_is : (C : List ℕ) (l : ℕ) → only C ≡ Some l → C ≡ l ∷ []
only_is [] l e = cc
only_is (m ∷ []) l e = cc
only_is (m ∷ n ∷ C) l e = cc

pub unit_is : (s : Side) (prefix : List Quantifier) (A C : List ℕ) (l : ℕ) → unit s prefix A C ≡ Some l → IsUnit s prefix A C l
unit_is s prefix A C l u = go (some (λ m. has A (implied s m)) C) refl u
  where
    go : (b : Bool) → some (λ m. has A (implied s m)) C ≡ b → cond b None (only (reduce s prefix (unset A C))) ≡ Some l → IsUnit s prefix A C l
    go true e q = absurd (let z : ◌≡◌ {A = ℕ} 0 1 = cc in omega arith)
    go false e q = record { open_yet = e; left = only_is (reduce s prefix (unset A C)) l q }

-- a unit constraint forces its literal
pub unit_forces : (s : Side) (prefix : List Quantifier) (A C : List ℕ) (l : ℕ) → ((m : ℕ) → has C m ≡ true → 1 ≤ variable m) → IsUnit s prefix A C l
    → Forces s (quantifier_of prefix) C 1 A l × (has C l ≡ true)
unit_forces s prefix A C l b u = (record { mine = mine; free = free; next = b l l_in.0; rest = rest }, l_in.0)
  where
    K : ℕ → Quantifier
    K = quantifier_of prefix

    R : List ℕ
    R = unset A C

    l_kept : (has R l ≡ true) × (own_from s prefix R (variable l) ≡ true)
    l_kept = keep_has (λ m. own_from s prefix R (variable m)) R l (subst (λ L. has L l ≡ true) (sym u.left) (has_head l []))

    l_in : (has C l ≡ true) × (not (is_set A (variable l)) ≡ true)
    l_in = keep_has (λ m. not (is_set A (variable m))) C l l_kept.0

    free : is_set A (variable l) ≡ false
    free = not-true (is_set A (variable l)) l_in.1

    only_l : (m n : ℕ) → has R m ≡ true → has R n ≡ true → own s (K (variable n)) ≡ true → variable m ≤ variable n → m ≡ l
    only_l m n h k o le =
        let c : has (l ∷ []) m ≡ true =
        subst (λ L. has L m ≡ true) u.left
        (has_keep (λ x. own_from s prefix R (variable x)) R m h
        (some_has (λ x. own s (K (variable x)) && leb (variable m) (variable x)) R n k (and_from (own s (K (variable n))) (leb (variable m) (variable n)) o (le-leb (variable m) (variable n) le)))) in
        ⊎_elim (λ e. eqb-true m l e) (λ e. absurd (both_ways false refl e)) (or_cases (eqb m l) false c)

    mine : own s (K (variable l)) ≡ true
    mine =
        let w = some_which (λ x. own s (K (variable x)) && leb (variable l) (variable x)) R l_kept.1 in
        let o = and_parts (own s (K (variable w.0))) (leb (variable l) (variable w.0)) w.2 in
        subst (λ x. own s (K (variable x)) ≡ true) (only_l w.0 w.0 w.1 w.1 o.0 (omega arith)) o.0

    rest : (m : ℕ) → has C m ≡ true → (has A (against s m) ≡ true) ⊎ ((m ≡ l) ⊎ Free s K (suc (variable l)) A m)
    rest m h = ⊎_elim was_set (λ (f : is_set A (variable m) ≡ false). inr (not_set f)) (cases_Bool (is_set A (variable m)))
      where
        was_set : is_set A (variable m) ≡ true → (has A (against s m) ≡ true) ⊎ ((m ≡ l) ⊎ Free s K (suc (variable l)) A m)
        was_set e =
            ⊎_elim (λ a. inl a) (λ a. absurd (both_ways (some (λ x. has A (implied s x)) C) u.open_yet (some_has (λ x. has A (implied s x)) C m h (subst (λ x. has A x ≡ true) (sym (implied_is s m)) a))))
            (set_has A (against s m) (subst (λ x. is_set A x ≡ true) (sym (against_variable s m)) e))

        not_set : is_set A (variable m) ≡ false → (m ≡ l) ⊎ Free s K (suc (variable l)) A m
        not_set f = ⊎_elim (λ (e : m ≡ l). inl e) (λ (n : m ≡ l → ⊥). inr (record { other = other n (own s (K (variable m))) refl; free = f; later = ⊎_elim (λ c. c) (λ c. absurd (n (only_l m l in_r l_kept.0 mine c))) (cases_lt (variable l) (variable m)) })) (cases_eq m l)
          where
            in_r : has R m ≡ true
            in_r = has_keep (λ x. not (is_set A (variable x))) C m h (not_from_false (is_set A (variable m)) f)

            other : (m ≡ l → ⊥) → (z : Bool) → own s (K (variable m)) ≡ z → own s (K (variable m)) ≡ false
            other n true e = absurd (n (only_l m m in_r in_r e (omega arith)))
            other n false e = e

seen_losing : (s : Side) → seen s true ≡ losing s
seen_losing Clause = refl
seen_losing Cube = refl

pub forcing : Forcing
forcing s prefix T A C l c n i r w =
    let names = n C i in
    let f = unit_forces s prefix A C l (λ m h. (names m h).0) (unit_is s prefix A C l w) in
    let below : (m : ℕ) → has C m ≡ true → variable m < 1 + length prefix = λ m h. (let z = names m h in omega arith) in
    let p_variable : variable (implied s l) ≡ variable l = implied_variable s l in
    let q_variable : variable (complement (implied s l)) ≡ variable l = complement_variable (implied s l) ∙ p_variable in
    let clear_p = clear_more A (implied s l) c (subst (λ v. is_set A v ≡ false) (sym p_variable) f.0.free) in
    let clear_q = clear_more A (complement (implied s l)) c (subst (λ v. is_set A v ≡ false) (sym q_variable) f.0.free) in (
      value_seen s prefix (implied s l ∷ A) T clear_p n
          ∙ ap (seen s) (forced_is_lost s (quantifier_of prefix) T C i r l 1 prefix A (prefix_kinds prefix) (below l f.1) below f.0)
          ∙ sym (value_seen s prefix A T c n),
      value_seen s prefix (complement (implied s l) ∷ A) T clear_q n
          ∙ ap (seen s) (subst (λ x. is_lost s T 1 prefix (x ∷ A) ≡ true) (sym (implied_back s l))
          (against_is_lost s (quantifier_of prefix) T C i r 1 prefix (against s l ∷ A) (prefix_kinds prefix) below (forces_against s (quantifier_of prefix) C 1 1 A l (omega arith) f.0)))
          ∙ seen_losing s,
    )
