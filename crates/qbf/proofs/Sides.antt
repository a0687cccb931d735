-- The value of a table is whether it is lost, seen from its side; and the law of the sides. Assumes nothing.
use Rattle.std.proofs.Common.{◌≡◌, ℕ, suc, ◌+◌, ◌<◌, ◌≤◌, Bool, true, false, cond, not, ◌&&◌, ◌||◌, eqb, ◌⊎◌, List, [], ◌∷◌, map, length, sym, refl, ap, ◌∙◌, subst, ap₂, inl, inr, ⊎_elim, arith}
use lib.ListN.{length-map}
use Rattle.std.proofs.lemmas.Bool.{or_cases, or_left, or_right, both_ways, eq-eqb, eqb-true, cases_eq}
use Rattle.qbf.specs.declared.quantifier.Quantifier.{Quantifier}
use Rattle.qbf.specs.declared.quantifier.Quantifier.TheVariants.{Existential, Universal}
use Rattle.qbf.specs.declared.side.Side.{Side}
use Rattle.qbf.specs.declared.side.Side.TheVariants.{Clause, Cube}
use Rattle.qbf.specs.Qbf.{variable, complement, setting, has, some, In, is_set, own, Consistent, Named, against, one_or_both, holds, table_holds, value_from, value, opposite_side, opposite_quantifier, complemented}
use Rattle.qbf.specs.Trees.{breaks}
use Rattle.qbf.specs.Theory.{LawOfSides}
use Rattle.qbf.proofs.Basics.{set_has, has_set, has_head, set_new, set_other, setting_variable, twice, complement_variable}

-- One recursion for all that goes through the prefix: `join` says what the answers at the two settings make, `end` how it ended.
abbrev pub play : (Quantifier → Bool → Bool → Bool) → (List ℕ → Bool) → ℕ → List Quantifier → List ℕ → Bool
play join end v [] A = end A
play join end v (k ∷ ks) A =
    cond (is_set A v) (play join end (suc v) ks A)
    (join k (play join end (suc v) ks (setting v true ∷ A)) (play join end (suc v) ks (setting v false ∷ A)))

value_played : (v : ℕ) (s : Side) (ks : List Quantifier) (T : List (List ℕ)) (A : List ℕ) → value_from v s ks T A ≡ play one_or_both (table_holds s T) v ks A
value_played v s [] T A = refl
value_played v s (k ∷ ks) T A =
    let a = value_played (suc v) s ks T A in
    let b = value_played (suc v) s ks T (setting v true ∷ A) in
    let c = value_played (suc v) s ks T (setting v false ∷ A) in
    cc

-- both settings of an own variable must be lost, one of any other
abbrev pub both_or_one : Side → Quantifier → Bool → Bool → Bool
both_or_one s k a b = cond (own s k) (a && b) (a || b)

abbrev pub broken : Side → List (List ℕ) → List ℕ → Bool
broken s T A = some (λ C. breaks s A C) T

-- the table is lost: the variables from v upward have the prefix listed
abbrev pub is_lost : Side → List (List ℕ) → ℕ → List Quantifier → List ℕ → Bool
is_lost s T v ks A = play (both_or_one s) (broken s T) v ks A

abbrev pub seen : Side → Bool → Bool
seen Clause g = not g
seen Cube g = g

-- the assignments that a play comes to
pub record Sound (v : ℕ) (A : List ℕ) : Type 0 where
  pub clear : Consistent A
  pub full : (w : ℕ) → 1 ≤ w → w < v → is_set A w ≡ true

sound_pass : (v : ℕ) (A : List ℕ) → Sound v A → is_set A v ≡ true → Sound (suc v) A
sound_pass v A h e =
    record { clear = h.clear; full = λ w a b. ⊎_elim (λ (q : w ≡ v). subst (λ x. is_set A x ≡ true) (sym q) e) (λ (q : w ≡ v → ⊥). h.full w a (omega arith)) (cases_eq w v) }

pub clear_more : (A : List ℕ) (x : ℕ) → Consistent A → is_set A (variable x) ≡ false → Consistent (x ∷ A)
clear_more A x h e l i j = go (or_cases (eqb l x) (has A l) i) (or_cases (eqb (complement l) x) (has A (complement l)) j)
  where
    no_x : (m : ℕ) → variable m ≡ variable x → has A m ≡ true → ⊥
    no_x m q k = both_ways (is_set A (variable x)) e (subst (λ w. is_set A w ≡ true) q (has_set A m k))

    go : (eqb l x ≡ true) ⊎ (has A l ≡ true) → (eqb (complement l) x ≡ true) ⊎ (has A (complement l) ≡ true) → ⊥
    go (inl a) (inl b) = let a' = eqb-true l x a in let b' = eqb-true (complement l) x b in omega arith
    go (inl a) (inr b) = no_x (complement l) (complement_variable l ∙ ap variable (eqb-true l x a)) b
    go (inr a) (inl b) = no_x l (sym (complement_variable l) ∙ ap variable (eqb-true (complement l) x b)) a
    go (inr a) (inr b) = h l a b

pub full_more : (v : ℕ) (A : List ℕ) (x : ℕ) → variable x ≡ v → ((w : ℕ) → 1 ≤ w → w < v → is_set A w ≡ true) → (w : ℕ) → 1 ≤ w → w < suc v → is_set (x ∷ A) w ≡ true
full_more v A x e h w a b =
    ⊎_elim (λ (q : variable x ≡ w). subst (λ y. is_set (x ∷ A) y ≡ true) q (set_new A x))
    (λ (q : variable x ≡ w → ⊥). set_other A x w q ∙ h w a (let r : w ≡ v → ⊥ = λ t. q (e ∙ sym t) in omega arith)) (cases_eq (variable x) w)

pub sound_more : (v : ℕ) (A : List ℕ) (b : Bool) → Sound v A → is_set A v ≡ false → Sound (suc v) (setting v b ∷ A)
sound_more v A b h e =
    record {
      clear = clear_more A (setting v b) h.clear (subst (λ w. is_set A w ≡ false) (sym (setting_variable v b)) e);
      full = full_more v A (setting v b) (setting_variable v b) h.full;
    }

-- two plays with the same joins, up to a change f of the answers, and ends that agree at what a play comes to
pub play_like : (f : Bool → Bool) (join join' : Quantifier → Bool → Bool → Bool) (end end' : List ℕ → Bool)
    → ((k : Quantifier) (a b : Bool) → join k (f a) (f b) ≡ f (join' k a b))
    → (n : ℕ) → ((A : List ℕ) → Sound n A → end A ≡ f (end' A))
    → (v : ℕ) (ks : List Quantifier) (A : List ℕ) → v + length ks ≡ n → Sound v A → play join end v ks A ≡ f (play join' end' v ks A)
play_like f join join' end end' j n e v [] A m h = e A (subst (λ x. Sound x A) (omega arith) h)
play_like f join join' end end' j n e v (k ∷ ks) A m h =
    go (λ B. play_like f join join' end end' j n e (suc v) ks B (omega arith)) (is_set A v) refl
  where
    P : List ℕ → Bool
    P B = play join end (suc v) ks B

    P' : List ℕ → Bool
    P' B = play join' end' (suc v) ks B

    go : ((B : List ℕ) → Sound (suc v) B → P B ≡ f (P' B)) → (b : Bool) → is_set A v ≡ b
        → cond b (P A) (join k (P (setting v true ∷ A)) (P (setting v false ∷ A))) ≡ f (cond b (P' A) (join' k (P' (setting v true ∷ A)) (P' (setting v false ∷ A))))
    go ih true q = ih A (sound_pass v A h q)
    go ih false q =
        ap₂ (join k) (ih (setting v true ∷ A) (sound_more v A true h q)) (ih (setting v false ∷ A) (sound_more v A false h q))
        ∙ j k (P' (setting v true ∷ A)) (P' (setting v false ∷ A))

sound_start : (A : List ℕ) → Consistent A → Sound 1 A
sound_start A h = record { clear = h; full = λ w a b. absurd (omega arith) }

-- at the end, a clause holds unless it is broken
holds_or : (n : ℕ) (A C : List ℕ) → Sound n A → ((l : ℕ) → has C l ≡ true → (1 ≤ variable l) × (variable l < n)) → holds Clause C A ≡ not (breaks Clause A C)
holds_or n A [] h b = refl
holds_or n A (l ∷ C) h b =
    let r = b l (has_head l C) in
    go (holds_or n A C h (λ m i. b m (or_right (eqb m l) (has C m) i))) (has A l) refl (has A (complement l)) refl (set_has A l (h.full (variable l) r.0 r.1))
  where
    go : some (λ m. has A m) C ≡ not (breaks Clause A C) → (p : Bool) → has A l ≡ p → (q : Bool) → has A (complement l) ≡ q → (has A l ≡ true) ⊎ (has A (complement l) ≡ true)
        → (p || some (λ m. has A m) C) ≡ not (q && breaks Clause A C)
    go ih true e true e' o = absurd (h.clear l e e')
    go ih true e false e' o = refl
    go ih false e true e' o = ih
    go ih false e false e' o = absurd (⊎_elim (λ i. both_ways (has A l) e i) (λ i. both_ways (has A (complement l)) e' i) o)

tables : (n : ℕ) (A : List ℕ) (T : List (List ℕ)) → Sound n A → ((C : List ℕ) → In C T → (l : ℕ) → has C l ≡ true → (1 ≤ variable l) × (variable l < n))
    → table_holds Clause T A ≡ not (broken Clause T A)
tables n A [] h b = refl
tables n A (C ∷ T) h b = ap₂ ◌&&◌ (holds_or n A C h (b C (inl refl))) (tables n A T h (λ D i. b D (inr i))) ∙ morgan (breaks Clause A C) (broken Clause T A)
  where
    morgan : (x y : Bool) → (not x && not y) ≡ not (x || y)
    morgan true y = refl
    morgan false y = refl

not_not : (b : Bool) → not (not b) ≡ b
not_not true = refl
not_not false = refl

pub value_seen : (s : Side) (prefix : List Quantifier) (A : List ℕ) (T : List (List ℕ)) → Consistent A → Named prefix T → value s prefix T A ≡ seen s (is_lost s T 1 prefix A)
value_seen Clause prefix A T c n =
    value_played 1 Clause prefix T A
    ∙ play_like not one_or_both (both_or_one Clause) (table_holds Clause T) (broken Clause T) joins (1 + length prefix)
    (λ B h. tables (1 + length prefix) B T h (λ C i l k. let r = n C i l k in (r.0, omega arith))) 1 prefix A refl (sound_start A c)
  where
    joins : (k : Quantifier) (a b : Bool) → one_or_both k (not a) (not b) ≡ not (both_or_one Clause k a b)
    joins Existential true b = refl
    joins Existential false b = refl
    joins Universal true b = refl
    joins Universal false b = refl
value_seen Cube prefix A T c n =
    value_played 1 Cube prefix T A
    ∙ play_like (λ b. b) one_or_both (both_or_one Cube) (table_holds Cube T) (broken Cube T) joins (1 + length prefix) (λ B h. refl) 1 prefix A refl (sound_start A c)
  where
    joins : (k : Quantifier) (a b : Bool) → one_or_both k a b ≡ both_or_one Cube k a b
    joins Existential a b = refl
    joins Universal a b = refl

-- what is lost is so in the complemented
breaks_complemented : (s : Side) (A C : List ℕ) → breaks (opposite_side s) A (map complement C) ≡ breaks s A C
breaks_complemented s A [] = refl
breaks_complemented s A (l ∷ C) = ap₂ ◌&&◌ (ap (has A) (turned s l)) (breaks_complemented s A C)
  where
    turned : (t : Side) (m : ℕ) → against (opposite_side t) (complement m) ≡ against t m
    turned Clause m = refl
    turned Cube m = twice m

broken_complemented : (s : Side) (T : List (List ℕ)) (A : List ℕ) → broken (opposite_side s) (complemented T) A ≡ broken s T A
broken_complemented s [] A = refl
broken_complemented s (C ∷ T) A = ap₂ ◌||◌ (breaks_complemented s A C) (broken_complemented s T A)

own_opposite : (s : Side) (k : Quantifier) → own (opposite_side s) (opposite_quantifier k) ≡ own s k
own_opposite Clause Existential = refl
own_opposite Clause Universal = refl
own_opposite Cube Existential = refl
own_opposite Cube Universal = refl

is_lost_complemented : (s : Side) (T : List (List ℕ)) (v : ℕ) (ks : List Quantifier) (A : List ℕ) → is_lost (opposite_side s) (complemented T) v (map opposite_quantifier ks) A ≡ is_lost s T v ks A
is_lost_complemented s T v [] A = broken_complemented s T A
is_lost_complemented s T v (k ∷ ks) A =
    let a = is_lost_complemented s T (suc v) ks A in
    let b = is_lost_complemented s T (suc v) ks (setting v true ∷ A) in
    let c = is_lost_complemented s T (suc v) ks (setting v false ∷ A) in
    let o = own_opposite s k in
    cc

has_complemented : (C : List ℕ) (l : ℕ) → has (map complement C) l ≡ true → has C (complement l) ≡ true
has_complemented [] l h = h
has_complemented (m ∷ C) l h =
    ⊎_elim (λ e. or_left (eqb (complement l) m) (has C (complement l)) (eq-eqb (complement l) m (ap complement (eqb-true l (complement m) e) ∙ twice m)))
    (λ e. or_right (eqb (complement l) m) (has C (complement l)) (has_complemented C l e)) (or_cases (eqb l (complement m)) (has (map complement C) l) h)

in_complemented : (T : List (List ℕ)) (C : List ℕ) → In C (complemented T) → (D : List ℕ) × In D T × (C ≡ map complement D)
in_complemented [] C i = absurd i
in_complemented (D ∷ T) C (inl e) = (D, inl refl, e)
in_complemented (D ∷ T) C (inr i) = let r = in_complemented T C i in (r.0, inr r.1, r.2)

named_complemented : (prefix : List Quantifier) (T : List (List ℕ)) → Named prefix T → Named (map opposite_quantifier prefix) (complemented T)
named_complemented prefix T n C i l h =
    let r = in_complemented T C i in
    let q = n r.0 r.1 (complement l) (has_complemented r.0 l (subst (λ D. has D l ≡ true) r.2 h)) in
    let e = complement_variable l in
    let f = length-map prefix opposite_quantifier in
    (omega arith, omega arith)

pub law_of_sides : LawOfSides
law_of_sides Clause prefix T A c n =
    value_seen Cube (map opposite_quantifier prefix) A (complemented T) c (named_complemented prefix T n) ∙ is_lost_complemented Clause T 1 prefix A
    ∙ sym (not_not (is_lost Clause T 1 prefix A)) ∙ ap not (sym (value_seen Clause prefix A T c n))
law_of_sides Cube prefix T A c n =
    value_seen Clause (map opposite_quantifier prefix) A (complemented T) c (named_complemented prefix T n) ∙ ap not (is_lost_complemented Cube T 1 prefix A ∙ sym (value_seen Cube prefix A T c n))
