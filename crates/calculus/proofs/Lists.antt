-- Members of lists, rising lists, additions, trails. Assumes nothing.
use Rattle.std.proofs.Common.{◌≡◌, ℕ, zero, suc, ◌+◌, ◌-◌, ◌<◌, ◌≤◌, Bool, true, false, cond, not, ◌&&◌, ◌||◌, eqb, leb, ◌⊎◌, List, [], ◌∷◌, ◌++◌, map, length, get_or, is_none, unwrap_or, Some, None, filter, Option, sym, refl, ap, ◌∙◌, subst, ap₂, inl, inr, ⊎_elim, append_assoc, arith}
use Rattle.std.proofs.lemmas.Bool.{and_parts, both_ways, leb-true, not-true, cases_eq}
use Rattle.std.proofs.lemmas.List.{append-nil, map-append}
use Rattle.std.proofs.lemmas.List.Elements.{filter-append}
use Rattle.std.proofs.lemmas.Option.{none-some}
use Rattle.qbf.specs.declared.quantifier.Quantifier.{Quantifier}
use Rattle.qbf.specs.declared.side.Side.{Side}
use Rattle.qbf.specs.Qbf.{variable, complement, has, some, In, is_set, setting, Consistent, reduce, unset, implied, own_from, only, unit}
use Rattle.qbf.specs.Trees.{Derived, stated, reducing, resolving}
use Rattle.qbf.proofs.Basics.{set_other, set_new, has_head, keep_has}
use Rattle.qbf.proofs.Forced.{only_is}
use Rattle.qbf.proofs.Sides.{clear_more}
use Rattle.database.specs.Meaning.{numbered}
use Rattle.calculus.specs.State.{Entry, decision, implication, literal_of, literals, cut, constraint, is_empty}
use Rattle.calculus.specs.History.{Addition, picked}

pub in_left : {X : Type 0} (x : X) (xs ys : List X) → In x xs → In x (xs ++ ys)
in_left x [] ys i = absurd i
in_left x (y ∷ xs) ys (inl e) = inl e
in_left x (y ∷ xs) ys (inr i) = inr (in_left x xs ys i)

pub in_last : {X : Type 0} (x : X) (xs : List X) → In x (xs ++ (x ∷ []))
in_last x [] = inl refl
in_last x (y ∷ xs) = inr (in_last x xs)

pub in_snoc : {X : Type 0} (x y : X) (xs : List X) → In x (xs ++ (y ∷ [])) → In x xs ⊎ (x ≡ y)
in_snoc x y [] (inl e) = inr e
in_snoc x y [] (inr i) = absurd i
in_snoc x y (z ∷ xs) (inl e) = inl (inl e)
in_snoc x y (z ∷ xs) (inr i) = ⊎_elim (λ j. inl (inr j)) (λ e. inr e) (in_snoc x y xs i)

pub in_right : {X : Type 0} (x : X) (xs ys : List X) → In x ys → In x (xs ++ ys)
in_right x [] ys i = i
in_right x (y ∷ xs) ys i = inr (in_right x xs ys i)

pub in_at : {X : Type 0} (xs : List X) (i : ℕ) (d : X) → i < length xs → In (get_or xs i d) xs
in_at [] i d h = absurd (omega arith)
in_at (x ∷ xs) zero d h = inl refl
in_at (x ∷ xs) (suc i) d h = inr (in_at xs i d (omega arith))

-- the constraint of a number that there is
pub in_numbered : (T : List (List ℕ)) (n : ℕ) → is_none (numbered T n) ≡ false → In (constraint T n) T
in_numbered T n h = go (leb 1 n && leb n (length T)) refl h
  where
    go : (b : Bool) → (leb 1 n && leb n (length T)) ≡ b → is_none (cond b (Some (get_or T (n - 1) [])) None) ≡ false → In (unwrap_or (cond b (Some (get_or T (n - 1) [])) None) []) T
    go true e q =
        let p = and_parts (leb 1 n) (leb n (length T)) e in
        let a = leb-true 1 n p.0 in
        let b = leb-true n (length T) p.1 in
        in_at T (n - 1) [] (omega arith)
    go false e q = absurd (both_ways true q refl)

pub in_empty : (T : List (List ℕ)) → some is_empty T ≡ true → In [] T
in_empty [] h = absurd (both_ways false refl h)
in_empty ([] ∷ T) h = inl refl
in_empty ((l ∷ C) ∷ T) h = inr (in_empty T h)

pub has_snoc : (A : List ℕ) (x l : ℕ) → has (A ++ (x ∷ [])) l ≡ has (x ∷ A) l
has_snoc [] x l = refl
has_snoc (a ∷ A) x l = ap (λ b. eqb l a || b) (has_snoc A x l) ∙ go (eqb l a) (eqb l x)
  where
    go : (a b : Bool) → (a || (b || has A l)) ≡ (b || (a || has A l))
    go true true = refl
    go true false = refl
    go false true = refl
    go false false = refl

pub consistent_snoc : (A : List ℕ) (x : ℕ) → Consistent A → is_set A (variable x) ≡ false → Consistent (A ++ (x ∷ []))
consistent_snoc A x c u l i j = clear_more A x c u l (sym (has_snoc A x l) ∙ i) (sym (has_snoc A x (complement l)) ∙ j)

pub is_some : (o : Option ℕ) → is_none o ≡ false → (l : ℕ) × (o ≡ Some l)
is_some None e = absurd (both_ways true e refl)
is_some (Some l) e = (l, refl)

-- a unit constraint's literal is its own, and not set
pub unit_of : (s : Side) (prefix : List Quantifier) (A C : List ℕ) (l : ℕ) → unit s prefix A C ≡ Some l → (has C l ≡ true) × (is_set A (variable l) ≡ false)
unit_of s prefix A C l u = go (some (λ m. has A (implied s m)) C) u
  where
    go : (b : Bool) → cond b None (only (reduce s prefix (unset A C))) ≡ Some l → (has C l ≡ true) × (is_set A (variable l) ≡ false)
    go true q = absurd (none-some l q)
    go false q =
        let e = only_is (reduce s prefix (unset A C)) l q in
        let i = subst (λ L. has L l ≡ true) (sym e) (has_head l []) in
        let j = keep_has (λ m. own_from s prefix (unset A C) (variable m)) (unset A C) l i in
        let k = keep_has (λ m. not (is_set A (variable m))) C l j.0 in
        (k.0, not-true (is_set A (variable l)) k.1)

-- more constraints derive no less
pub derived_more : {s : Side} {prefix : List Quantifier} {T : List (List ℕ)} {C : List ℕ} (S : List (List ℕ)) → Derived s prefix T C → Derived s prefix (T ++ S) C
derived_more {T = T} S (stated {C = C} i) = stated (in_left C T S i)
derived_more S (reducing d) = reducing (derived_more S d)
derived_more S (resolving p o h k a c d) = resolving p o h k a (derived_more S c) (derived_more S d)

-- picked additions
pub picked_snoc : (p : Addition → Bool) (xs : List Addition) (a : Addition) → picked p (xs ++ (a ∷ [])) ≡ cond (p a) (picked p xs ++ (a.codes ∷ [])) (picked p xs)
picked_snoc p xs a =
    ap (map (λ x. x.codes)) (filter-append p xs (a ∷ []))
    ∙ map-append (λ x. x.codes) (filter p xs) (filter p (a ∷ [])) ∙ go (p a)
  where
    go : (b : Bool) → picked p xs ++ map (λ x. x.codes) (cond b (a ∷ []) []) ≡ cond b (picked p xs ++ (a.codes ∷ [])) (picked p xs)
    go true = refl
    go false = append-nil (picked p xs)

-- Why an implied literal stands: a constraint of its side that is unit under what stood before.
pub record Why (prefix : List Quantifier) (T : Side → List (List ℕ)) (A : List ℕ) (p : ℕ) (s : Side) : Type 0 where
  pub because : List ℕ
  pub literal : ℕ
  pub member : In because (T s)
  pub is_unit : unit s prefix A because ≡ Some literal
  pub is_implied : p ≡ implied s literal

abbrev pub Reason : List Quantifier → (Side → List (List ℕ)) → List ℕ → Entry → Type 0
Reason prefix T A (decision l) = Unit {0}
Reason prefix T A (implication p s n) = Why prefix T A p s

-- a literal that may go on the trail: of a named variable that A does not set
abbrev pub Open : List Quantifier → List ℕ → ℕ → Type 0
Open prefix A p = (is_set A (variable p) ≡ false) × (1 ≤ variable p) × (variable p ≤ length prefix)

-- under A, the trail t stands
abbrev pub Stands : List Quantifier → (Side → List (List ℕ)) → List ℕ → List Entry → Type 0
Stands prefix T A [] = Consistent A
Stands prefix T A (e ∷ t) = Consistent A × Reason prefix T A e × Open prefix A (literal_of e) × Stands prefix T (A ++ (literal_of e ∷ [])) t

-- how many of the variables 1 to n are set
abbrev count : List ℕ → ℕ → ℕ
count A zero = 0
count A (suc v) = cond (is_set A (suc v)) (suc (count A v)) (count A v)

count_le : (A : List ℕ) (n : ℕ) → count A n ≤ n
count_le A zero = omega arith
count_le A (suc v) = go (is_set A (suc v)) (count_le A v)
  where
    go : (b : Bool) → count A v ≤ v → cond b (suc (count A v)) (count A v) ≤ suc v
    go true h = omega arith
    go false h = omega arith

pub is_set_snoc : (A : List ℕ) (x w : ℕ) → is_set (A ++ (x ∷ [])) w ≡ is_set (x ∷ A) w
is_set_snoc A x w = ap₂ ◌||◌ (has_snoc A x (setting w true)) (has_snoc A x (setting w false))

count_other : (A : List ℕ) (x n : ℕ) → n < variable x → count (A ++ (x ∷ [])) n ≡ count A n
count_other A x zero h = refl
count_other A x (suc v) h =
    let e : is_set (A ++ (x ∷ [])) (suc v) ≡ is_set A (suc v) = is_set_snoc A x (suc v) ∙ set_other A x (suc v) (λ q. omega arith) in
    let i = count_other A x v (omega arith) in
    ap₂ (λ b m. cond b (suc m) m) e i

count_new : (A : List ℕ) (x n : ℕ) → is_set A (variable x) ≡ false → 1 ≤ variable x → variable x ≤ n → count (A ++ (x ∷ [])) n ≡ suc (count A n)
count_new A x zero u a b = absurd (omega arith)
count_new A x (suc v) u a b = ⊎_elim here (λ d. there d (count_new A x v u a (omega arith))) (cases_eq (variable x) (suc v))
  where
    here : variable x ≡ suc v → count (A ++ (x ∷ [])) (suc v) ≡ suc (count A (suc v))
    here e =
        let p : is_set (A ++ (x ∷ [])) (suc v) ≡ true = is_set_snoc A x (suc v) ∙ subst (λ w. is_set (x ∷ A) w ≡ true) e (set_new A x) in
        let q : is_set A (suc v) ≡ false = subst (λ w. is_set A w ≡ false) e u in
        ap₂ (λ b m. cond b (suc m) m) p (count_other A x v (omega arith)) ∙ sym (ap (λ b. suc (cond b (suc (count A v)) (count A v))) q)

    there : (variable x ≡ suc v → ⊥) → count (A ++ (x ∷ [])) v ≡ suc (count A v) → count (A ++ (x ∷ [])) (suc v) ≡ suc (count A (suc v))
    there d i =
        let e : is_set (A ++ (x ∷ [])) (suc v) ≡ is_set A (suc v) = is_set_snoc A x (suc v) ∙ set_other A x (suc v) d in
        ap₂ (λ b m. cond b (suc m) m) e i ∙ go (is_set A (suc v))
      where
        go : (b : Bool) → cond b (suc (suc (count A v))) (suc (count A v)) ≡ suc (cond b (suc (count A v)) (count A v))
        go true = refl
        go false = refl

module _ (prefix : List Quantifier) (T : Side → List (List ℕ)) where
  pub stands_snoc : (A : List ℕ) (t : List Entry) (e : Entry) → Stands prefix T A t → Reason prefix T (A ++ literals t) e
      → Open prefix (A ++ literals t) (literal_of e) → Stands prefix T A (t ++ (e ∷ []))
  stands_snoc A [] e h r u =
      let n = append-nil A in
      let u' = subst (λ B. Open prefix B (literal_of e)) n u in
      (h, subst (λ B. Reason prefix T B e) n r, u', consistent_snoc A (literal_of e) h u'.0)
  stands_snoc A (d ∷ t) e h r u =
      let n = sym (append_assoc A (literal_of d ∷ []) (literals t)) in
      (h.0, h.1, h.2, stands_snoc (A ++ (literal_of d ∷ [])) t e h.3 (subst (λ B. Reason prefix T B e) n r) (subst (λ B. Open prefix B (literal_of e)) n u))

  pub stands_cut : (A : List ℕ) (k : ℕ) (t : List Entry) → Stands prefix T A t → Stands prefix T A (cut k t)
  stands_cut A k [] h = h
  stands_cut A k (implication l s n ∷ t) h = (h.0, h.1, h.2, stands_cut (A ++ (l ∷ [])) k t h.3)
  stands_cut A zero (decision l ∷ t) h = h.0
  stands_cut A (suc k) (decision l ∷ t) h = (h.0, h.1, h.2, stands_cut (A ++ (l ∷ [])) k t h.3)

  pub stands_at : (A : List ℕ) (before after : List Entry) (p : ℕ) (s : Side) (n : ℕ) → Stands prefix T A (before ++ (implication p s n ∷ after))
      → Consistent (A ++ literals before) × Why prefix T (A ++ literals before) p s
  stands_at A [] after p s n h = let e = sym (append-nil A) in (subst Consistent e h.0, subst (λ B. Why prefix T B p s) e h.1)
  stands_at A (d ∷ before) after p s n h =
      let e = append_assoc A (literal_of d ∷ []) (literals before) in
      let r = stands_at (A ++ (literal_of d ∷ [])) before after p s n h.3 in
      (subst Consistent e r.0, subst (λ B. Why prefix T B p s) e r.1)

  pub stands_more : (U : Side → List (List ℕ)) → ((s : Side) (C : List ℕ) → In C (T s) → In C (U s)) → (A : List ℕ) (t : List Entry) → Stands prefix T A t → Stands prefix U A t
  stands_more U f A [] h = h
  stands_more U f A (decision l ∷ t) h = (h.0, tt, h.2, stands_more U f (A ++ (l ∷ [])) t h.3)
  stands_more U f A (implication p s n ∷ t) h =
      let w = h.1 in (
        h.0,
        record { because = w.because; literal = w.literal; member = f s w.because w.member; is_unit = w.is_unit; is_implied = w.is_implied },
        h.2,
        stands_more U f (A ++ (p ∷ [])) t h.3,
      )

  stands_count : (A : List ℕ) (t : List Entry) → Stands prefix T A t → length t + count A (length prefix) ≤ length prefix
  stands_count A [] h = let c = count_le A (length prefix) in omega arith
  stands_count A (e ∷ t) h =
      let i = stands_count (A ++ (literal_of e ∷ [])) t h.3 in
      let n = count_new A (literal_of e) (length prefix) h.2.0 h.2.1 h.2.2 in
      omega arith

  pub stands_short : (t : List Entry) → Stands prefix T [] t → length t ≤ length prefix
  stands_short t h = let c = stands_count [] t h in omega arith
