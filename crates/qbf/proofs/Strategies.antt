-- Strategies of the own player, and what they entail.
use Rattle.std.proofs.Common.{◌≡◌, ℕ, suc, ◌+◌, ◌<◌, ◌≤◌, Bool, true, false, cond, not, ◌&&◌, ◌||◌, eqb, ltb, leb, ◌⊎◌, ◌↔◌, List, [], ◌∷◌, ◌++◌, length, sym, refl, ap, ◌∙◌, subst, inl, inr, ⊎_elim, arith}
use Rattle.std.proofs.lemmas.Bool.{and_parts, and_from, and_cases, or_cases, or_left, or_right, or_parts, or_from, cases_Bool, both_ways, eqb-true, ne_eqb, cond-true, cond-false, cases_eq, leb-true, le-leb, not_from_false, cases_lt, and_left, and_right}
use Rattle.qbf.specs.declared.quantifier.Quantifier.{Quantifier}
use Rattle.qbf.specs.declared.side.Side.{Side}
use Rattle.qbf.specs.declared.side.Side.TheVariants.{Clause, Cube}
use Rattle.qbf.specs.Qbf.{variable, complement, setting, quantifier_of, has, some, In, is_set, own, Consistent, Named, rising, against, losing, own_from, reduce, insert, merge, without, resolve}
use Rattle.qbf.specs.Trees.{breaks, Tree, done, mine, theirs, Leaves}
use Rattle.qbf.specs.Theory.{Strategies, Members, Reducing, Resolving, AnyChoice, EmptyLoses}
use Rattle.qbf.proofs.Basics.{set_has, has_head, has_tail, set_other, has_other, setting_variable, complement_variable, against_variable, none_in, every_in, every_from, some_which, some_has, has_keep, keep_has, apart}
use Rattle.qbf.proofs.Sides.{both_or_one, broken, is_lost, seen, value_seen, Sound, sound_more}
use Rattle.qbf.proofs.Forced.{Kinds, prefix_kinds, Against, against_step, worst, worst_is}

-- nothing from v upward is set
abbrev Fresh : ℕ → List ℕ → Type 0
Fresh v A = (w : ℕ) → v ≤ w → is_set A w ≡ false

fresh_more : (v : ℕ) (A : List ℕ) (b : Bool) → Fresh v A → Fresh (suc v) (setting v b ∷ A)
fresh_more v A b h w l = set_other A (setting v b) w (λ e. let q = setting_variable v b in let r : v ≡ w = sym q ∙ e in omega arith) ∙ h w (omega arith)

-- A table that is not lost has such a strategy, and the other way round.
tree_of : (s : Side) (T : List (List ℕ)) (v : ℕ) (ks : List Quantifier) (A : List ℕ) → Fresh v A → is_lost s T v ks A ≡ false
    → (t : Tree s ks) × Leaves (λ B. broken s T B ≡ false) v A t
tree_of s T v [] A f e = (done, e)
tree_of s T v (k ∷ ks) A f e =
    go (λ b g. tree_of s T (suc v) ks (setting v b ∷ A) (fresh_more v A b f) g) (own s k) refl (sym (cond-false (is_set A v) (P A) (both_or_one s k (P (setting v true ∷ A)) (P (setting v false ∷ A))) (f v (omega arith))) ∙ e)
  where
    P : List ℕ → Bool
    P B = is_lost s T (suc v) ks B

    L : ℕ → List ℕ → Tree s ks → Type 0
    L w B t = Leaves (λ D. broken s T D ≡ false) w B t

    go : ((b : Bool) → P (setting v b ∷ A) ≡ false → (t : Tree s ks) × Leaves (λ B. broken s T B ≡ false) (suc v) (setting v b ∷ A) t)
        → (z : Bool) → own s k ≡ z → cond z (P (setting v true ∷ A) && P (setting v false ∷ A)) (P (setting v true ∷ A) || P (setting v false ∷ A)) ≡ false
        → (t : Tree s (k ∷ ks)) × Leaves (λ B. broken s T B ≡ false) v A t
    go ih true o g =
        ⊎_elim (λ a. let r = ih true a in (mine o true r.0, r.1)) (λ a. let r = ih false a in (mine o false r.0, r.1))
        (and_cases (P (setting v true ∷ A)) (P (setting v false ∷ A)) g)
    go ih false o g =
        let r = or_parts (P (setting v true ∷ A)) (P (setting v false ∷ A)) g in
        let a = ih true r.0 in
        let b = ih false r.1 in
        (theirs o a.0 b.0, (a.1, b.1))

is_lost_of : (s : Side) (T : List (List ℕ)) {ks : List Quantifier} (v : ℕ) (A : List ℕ) → Fresh v A → (t : Tree s ks) → Leaves (λ B. broken s T B ≡ false) v A t → is_lost s T v ks A ≡ false
is_lost_of s T v A f done e = e
is_lost_of s T v A f (mine {q = k} {prefix = ks} o b t) e =
    let g = is_lost_of s T (suc v) (setting v b ∷ A) (fresh_more v A b f) t e in
    cond-false (is_set A v) (P A) (both_or_one s k (P (setting v true ∷ A)) (P (setting v false ∷ A))) (f v (omega arith))
    ∙ cond-true (own s k) (P (setting v true ∷ A) && P (setting v false ∷ A)) (P (setting v true ∷ A) || P (setting v false ∷ A)) o
    ∙ one b g
  where
    P : List ℕ → Bool
    P B = is_lost s T (suc v) ks B

    one : (b : Bool) → P (setting v b ∷ A) ≡ false → (P (setting v true ∷ A) && P (setting v false ∷ A)) ≡ false
    one true g = and_left (P (setting v true ∷ A)) (P (setting v false ∷ A)) g
    one false g = and_right (P (setting v true ∷ A)) (P (setting v false ∷ A)) g
is_lost_of s T v A f (theirs {q = k} {prefix = ks} o t u) e =
    let a = is_lost_of s T (suc v) (setting v true ∷ A) (fresh_more v A true f) t e.0 in
    let b = is_lost_of s T (suc v) (setting v false ∷ A) (fresh_more v A false f) u e.1 in
    cond-false (is_set A v) (P A) (both_or_one s k (P (setting v true ∷ A)) (P (setting v false ∷ A))) (f v (omega arith))
    ∙ cond-false (own s k) (P (setting v true ∷ A) && P (setting v false ∷ A)) (P (setting v true ∷ A) || P (setting v false ∷ A)) o
    ∙ or_from (P (setting v true ∷ A)) (P (setting v false ∷ A)) a b
  where
    P : List ℕ → Bool
    P B = is_lost s T (suc v) ks B

none_clear : Consistent []
none_clear l a b = both_ways false refl a

seen_won : (s : Side) (g : Bool) → (seen s g ≡ not (losing s)) ↔ (g ≡ false)
seen_won Clause true = (λ e. sym e, λ e. sym e)
seen_won Clause false = (λ e. refl, λ e. refl)
seen_won Cube g = (λ e. e, λ e. e)

pub strategies : Strategies
strategies s prefix T n = (
  λ e. tree_of s T 1 prefix [] (λ w l. refl) ((seen_won s (is_lost s T 1 prefix [])).0 (sym (value_seen s prefix [] T none_clear n) ∙ e)),
  λ r. value_seen s prefix [] T none_clear n ∙ (seen_won s (is_lost s T 1 prefix [])).1 (is_lost_of s T 1 [] (λ w l. refl) r.0 r.1),
)

-- leaf by leaf
leaves_both : {s : Side} {ks : List Quantifier} (P Q R : List ℕ → Type 0) (n : ℕ) → ((B : List ℕ) → Sound n B → P B → Q B → R B)
    → (v : ℕ) (A : List ℕ) (t : Tree s ks) → v + length ks ≡ n → Sound v A → Fresh v A → Leaves P v A t → Leaves Q v A t → Leaves R v A t
leaves_both P Q R n e v A done m h f p q = e A (subst (λ x. Sound x A) (omega arith) h) p q
leaves_both P Q R n e v A (mine o b t) m h f p q =
    leaves_both P Q R n e (suc v) (setting v b ∷ A) t (omega arith) (sound_more v A b h (f v (omega arith))) (fresh_more v A b f) p q
leaves_both P Q R n e v A (theirs o t u) m h f p q = (
  leaves_both P Q R n e (suc v) (setting v true ∷ A) t (omega arith) (sound_more v A true h (f v (omega arith))) (fresh_more v A true f) p.0 q.0,
  leaves_both P Q R n e (suc v) (setting v false ∷ A) u (omega arith) (sound_more v A false h (f v (omega arith))) (fresh_more v A false f) p.1 q.1,
)

sound_none : Sound 1 []
sound_none = record { clear = none_clear; full = λ w a b. absurd (omega arith) }

from_root : {s : Side} {ks : List Quantifier} (P Q R : List ℕ → Type 0) → ((B : List ℕ) → Sound (1 + length ks) B → P B → Q B → R B)
    → (t : Tree s ks) → Leaves P 1 [] t → Leaves Q 1 [] t → Leaves R 1 [] t
from_root {ks = ks} P Q R e t p q = leaves_both P Q R (1 + length ks) e 1 [] t refl sound_none (λ w l. refl) p q

pub members : Members
members s prefix T C i t u =
    from_root (λ B. broken s T B ≡ false) (λ B. broken s T B ≡ false) (λ B. breaks s B C ≡ false) (λ B h p q. none_in (λ D. breaks s B D) T C p i) t u u

-- resolve
has_insert_new : (l : ℕ) (D : List ℕ) → has (insert l D) l ≡ true
has_insert_new l [] = has_head l []
has_insert_new l (m ∷ D) = go (has_insert_new l D) (ltb l m) (eqb l m) refl
  where
    go : has (insert l D) l ≡ true → (a b : Bool) → eqb l m ≡ b → has (cond a (l ∷ m ∷ D) (cond b (m ∷ D) (m ∷ insert l D))) l ≡ true
    go ih true b e = has_head l (m ∷ D)
    go ih false true e = or_left (eqb l m) (has D l) e
    go ih false false e = has_tail m l (insert l D) ih

has_insert_old : (l : ℕ) (D : List ℕ) (x : ℕ) → has D x ≡ true → has (insert l D) x ≡ true
has_insert_old l [] x h = absurd (both_ways false refl h)
has_insert_old l (m ∷ D) x h = go (λ k. has_insert_old l D x k) (ltb l m) (eqb l m)
  where
    go : (has D x ≡ true → has (insert l D) x ≡ true) → (a b : Bool) → has (cond a (l ∷ m ∷ D) (cond b (m ∷ D) (m ∷ insert l D))) x ≡ true
    go ih true b = has_tail l x (m ∷ D) h
    go ih false true = h
    go ih false false = ⊎_elim (λ e. or_left (eqb x m) (has (insert l D) x) e) (λ e. or_right (eqb x m) (has (insert l D) x) (ih e)) (or_cases (eqb x m) (has D x) h)

has_merge_left : (C D : List ℕ) (x : ℕ) → has C x ≡ true → has (merge C D) x ≡ true
has_merge_left [] D x h = absurd (both_ways false refl h)
has_merge_left (l ∷ C) D x h =
    ⊎_elim (λ e. subst (λ y. has (insert l (merge C D)) y ≡ true) (sym (eqb-true x l e)) (has_insert_new l (merge C D)))
    (λ e. has_insert_old l (merge C D) x (has_merge_left C D x e)) (or_cases (eqb x l) (has C x) h)

has_merge_right : (C D : List ℕ) (x : ℕ) → has D x ≡ true → has (merge C D) x ≡ true
has_merge_right [] D x h = h
has_merge_right (l ∷ C) D x h = has_insert_old l (merge C D) x (has_merge_right C D x h)

-- C is broken, if its literal p is against and all its others are
half : (s : Side) (B C : List ℕ) (p : ℕ) → rising C ≡ true → has C p ≡ true → has B (against s p) ≡ true
    → ((m : ℕ) → has C m ≡ true → (variable m ≡ variable p → ⊥) → has B (against s m) ≡ true) → breaks s B C ≡ true
half s B C p r h a f =
    every_from (λ m. has B (against s m)) C
    (λ m k. ⊎_elim (λ (e : variable m ≡ variable p). subst (λ x. has B (against s x) ≡ true) (sym (apart C r m p k h e)) a) (λ (n : variable m ≡ variable p → ⊥). f m k n) (cases_eq (variable m) (variable p)))

other_way : (s : Side) (l : ℕ) → complement (against s l) ≡ against s (complement l)
other_way Clause l = refl
other_way Cube l = refl

pub resolving_keeps : Resolving
resolving_keeps s prefix T C D p n r r' h h' a b t u =
    from_root (λ B. breaks s B C ≡ false) (λ B. breaks s B D ≡ false) (λ B. breaks s B (resolve C D (variable p)) ≡ false) leaf t (a t u) (b t u)
  where
    C' : List ℕ
    C' = without (variable p) C

    D' : List ℕ
    D' = without (variable p) D

    test : ℕ → Bool
    test l = not (eqb (variable l) (variable p))

    leaf : (B : List ℕ) → Sound (1 + length prefix) B → breaks s B C ≡ false → breaks s B D ≡ false → breaks s B (resolve C D (variable p)) ≡ false
    leaf B S c d = go (breaks s B (resolve C D (variable p))) refl
      where
        inside : breaks s B (resolve C D (variable p)) ≡ true → (m : ℕ) → has (resolve C D (variable p)) m ≡ true → has B (against s m) ≡ true
        inside e m k = every_in (λ l. has B (against s l)) (resolve C D (variable p)) m e k

        stays : (E : List ℕ) (m : ℕ) → has E m ≡ true → (variable m ≡ variable p → ⊥) → has (without (variable p) E) m ≡ true
        stays E m k q = has_keep test E m k (not_from_false (eqb (variable m) (variable p)) (ne_eqb (variable m) (variable p) q))

        go : (z : Bool) → breaks s B (resolve C D (variable p)) ≡ z → z ≡ false
        go true e =
            let k = n C (inl refl) p h in
            let f : is_set B (variable (against s p)) ≡ true = subst (λ w. is_set B w ≡ true) (sym (against_variable s p)) (S.full (variable p) k.0 (omega arith)) in
            absurd (⊎_elim (λ g. both_ways (breaks s B C) c (half s B C p r h g (λ m i q. inside e m (has_merge_left C' D' m (stays C m i q)))))
            (λ g. both_ways (breaks s B D) d (half s B D (complement p) r' h' (subst (λ w. has B w ≡ true) (other_way s p) g)
            (λ m i q. inside e m (has_merge_right C' D' m (stays D m i (λ w. q (w ∙ sym (complement_variable p))))))))
            (set_has B (against s p) f))
        go false e = refl

-- reduce: where all of C that is not against is free, a tree breaks C at some leaf
against_leaves : {s : Side} {ks : List Quantifier} (K : ℕ → Quantifier) (C : List ℕ) → rising C ≡ true → (v : ℕ) (A : List ℕ) (t : Tree s ks)
    → Kinds v ks K → ((l : ℕ) → has C l ≡ true → variable l < v + length ks) → Against s K C v A → Leaves (λ B. breaks s B C ≡ false) v A t → ⊥
against_leaves {s} K C r v A done k b L e =
    both_ways (breaks s A C) e (every_from (λ l. has A (against s l)) C (λ l h. ⊎_elim (λ a. a) (λ f. absurd (let m = f.later in let n = b l h in omega arith)) (L l h)))
against_leaves {s} K C r v A (mine {q = k'} {prefix = ks} o z t) k b L e =
    against_leaves K C r (suc v) (setting v z ∷ A) t k.1 (λ l h. let m = b l h in omega arith)
    (against_step s K C v A (setting v z) (setting_variable v z) (λ l h w q. absurd (both_ways (own s k') (ap (own s) (sym k.0) ∙ q) o)) L) e
against_leaves {s} K C r v A (theirs {q = k'} {prefix = ks} o t u) k b L e =
    go (λ M. against_leaves K C r (suc v) (setting v true ∷ A) t k.1 (λ l h. let m = b l h in omega arith) M e.0)
    (λ M. against_leaves K C r (suc v) (setting v false ∷ A) u k.1 (λ l h. let m = b l h in omega arith) M e.1) (worst s C v) refl
  where
    mean : (z : Bool) → worst s C v ≡ z → Against s K C (suc v) (setting v z ∷ A)
    mean z q = against_step s K C v A (setting v z) (setting_variable v z) (λ l h w p. worst_is s C r l h ∙ subst (λ x. setting x (worst s C x) ≡ setting v z) (sym w) (ap (setting v) q)) L

    go : (Against s K C (suc v) (setting v true ∷ A) → ⊥) → (Against s K C (suc v) (setting v false ∷ A) → ⊥) → (z : Bool) → worst s C v ≡ z → ⊥
    go f g true q = f (mean true q)
    go f g false q = g (mean false q)

-- what is set above v stays
leaves_keep : {s : Side} {ks : List Quantifier} (n : ℕ) (A₀ : List ℕ) (v : ℕ) (A : List ℕ) (t : Tree s ks) → n ≤ v → ((l : ℕ) → variable l < n → has A l ≡ has A₀ l)
    → Leaves (λ B. (l : ℕ) → variable l < n → has B l ≡ has A₀ l) v A t
leaves_keep n A₀ v A done b h = h
leaves_keep n A₀ v A (mine o z t) b h =
    leaves_keep n A₀ (suc v) (setting v z ∷ A) t (omega arith) (λ l q. has_other A (setting v z) l (λ e. let w = setting_variable v z in let y : v ≡ variable l = sym w ∙ e in omega arith) ∙ h l q)
leaves_keep n A₀ v A (theirs o t u) b h = (
  leaves_keep n A₀ (suc v) (setting v true ∷ A) t (omega arith) (λ l q. has_other A (setting v true) l (λ e. omega arith) ∙ h l q),
  leaves_keep n A₀ (suc v) (setting v false ∷ A) u (omega arith) (λ l q. has_other A (setting v false) l (λ e. omega arith) ∙ h l q),
)

leaves_map : {s : Side} {ks : List Quantifier} (P Q : List ℕ → Type 0) → ((B : List ℕ) → P B → Q B) → (v : ℕ) (A : List ℕ) (t : Tree s ks) → Leaves P v A t → Leaves Q v A t
leaves_map P Q e v A done p = e A p
leaves_map P Q e v A (mine o b t) p = leaves_map P Q e (suc v) (setting v b ∷ A) t p
leaves_map P Q e v A (theirs o t u) p = (leaves_map P Q e (suc v) (setting v true ∷ A) t p.0, leaves_map P Q e (suc v) (setting v false ∷ A) u p.1)

-- what a reduction keeps and what it takes away
pub record Reduces (s : Side) (K : ℕ → Quantifier) (C D : List ℕ) : Type 0 where
  pub kept : (l : ℕ) → has D l ≡ true → (m : ℕ) × (has C m ≡ true) × (own s (K (variable m)) ≡ true) × (variable l ≤ variable m)
  pub gone : (l : ℕ) → has C l ≡ true → has D l ≡ false → (own s (K (variable l)) ≡ false) × ((m : ℕ) → has C m ≡ true → own s (K (variable m)) ≡ true → variable m < variable l)

reduce_reduces : (s : Side) (prefix : List Quantifier) (C : List ℕ) → Reduces s (quantifier_of prefix) C (reduce s prefix C)
reduce_reduces s prefix C =
    record {
      kept =
          λ l h.
          let k = keep_has (λ m. own_from s prefix C (variable m)) C l h in
          let w = some_which (λ m. own s (K (variable m)) && leb (variable l) (variable m)) C k.1 in
          let o = and_parts (own s (K (variable w.0))) (leb (variable l) (variable w.0)) w.2 in
          (w.0, w.1, o.0, leb-true (variable l) (variable w.0) o.1);
      gone = λ l h d. (not_own l h d (own s (K (variable l))) refl, λ m i o. ⊎_elim (λ c. c) (λ c. absurd (never l m h d i o c)) (cases_lt (variable m) (variable l)));
    }
  where
    K : ℕ → Quantifier
    K = quantifier_of prefix

    never : (l m : ℕ) → has C l ≡ true → has (reduce s prefix C) l ≡ false → has C m ≡ true → own s (K (variable m)) ≡ true → variable l ≤ variable m → ⊥
    never l m h d i o c =
        both_ways (has (reduce s prefix C) l) d
        (has_keep (λ x. own_from s prefix C (variable x)) C l h
        (some_has (λ x. own s (K (variable x)) && leb (variable l) (variable x)) C m i (and_from (own s (K (variable m))) (leb (variable l) (variable m)) o (le-leb (variable l) (variable m) c))))

    not_own : (l : ℕ) → has C l ≡ true → has (reduce s prefix C) l ≡ false → (z : Bool) → own s (K (variable l)) ≡ z → own s (K (variable l)) ≡ false
    not_own l h d true e = absurd (never l l h d h e (omega arith))
    not_own l h d false e = e

-- past the last own literal of C: broken down to D above v, the tree would break C; not so broken, no leaf breaks D
past_own : {s : Side} {ks : List Quantifier} (K : ℕ → Quantifier) (C D : List ℕ) → rising C ≡ true → Reduces s K C D → (v : ℕ) (A : List ℕ) (t : Tree s ks)
    → Kinds v ks K → ((l : ℕ) → has C l ≡ true → variable l < v + length ks) → Fresh v A
    → ((l : ℕ) → has C l ≡ true → has D l ≡ false → v ≤ variable l) → ((m : ℕ) → has C m ≡ true → own s (K (variable m)) ≡ true → variable m < v)
    → Leaves (λ B. breaks s B C ≡ false) v A t → Leaves (λ B. breaks s B D ≡ false) v A t
past_own {s} {ks} K C D r R v A t k b f g p e = go (breaks s A D) refl
  where
    lost : breaks s A D ≡ true → Against s K C v A
    lost q l h =
        ⊎_elim (λ (d : has D l ≡ true). inl (every_in (λ m. has A (against s m)) D l q d))
        (λ (d : has D l ≡ false). inr (record { other = (R.gone l h d).0; free = f (variable l) (g l h d); later = g l h d })) (cases_Bool (has D l))

    go : (z : Bool) → breaks s A D ≡ z → Leaves (λ B. breaks s B D ≡ false) v A t
    go true q = absurd (against_leaves K C r v A t k b (lost q) e)
    go false q =
        leaves_map (λ B. (l : ℕ) → variable l < v → has B l ≡ has A l) (λ B. breaks s B D ≡ false) same v A t (leaves_keep v A v A t (omega arith) (λ l h. refl))
      where
        same : (B : List ℕ) → ((l : ℕ) → variable l < v → has B l ≡ has A l) → breaks s B D ≡ false
        same B h =
            ⊎_elim
            (λ (x : breaks s B D ≡ true). absurd (both_ways (breaks s A D) q (every_from (λ l. has A (against s l)) D
            (λ l i. let w = R.kept l i in let y = p w.0 w.1 w.2 in sym (h (against s l) (let c = against_variable s l in let j = w.3 in omega arith)) ∙ every_in (λ m. has B (against s m)) D l x i))))
            (λ (x : breaks s B D ≡ false). x) (cases_Bool (breaks s B D))

-- an own literal of C at v or later, or none
own_left : (s : Side) (prefix : List Quantifier) (C : List ℕ) (v : ℕ)
    → ((m : ℕ) × (has C m ≡ true) × (own s (quantifier_of prefix (variable m)) ≡ true) × (v ≤ variable m)) ⊎ ((m : ℕ) → has C m ≡ true → own s (quantifier_of prefix (variable m)) ≡ true → variable m < v)
own_left s prefix C v = go (own_from s prefix C v) refl
  where
    K : ℕ → Quantifier
    K = quantifier_of prefix

    go : (z : Bool) → own_from s prefix C v ≡ z
        → ((m : ℕ) × (has C m ≡ true) × (own s (K (variable m)) ≡ true) × (v ≤ variable m)) ⊎ ((m : ℕ) → has C m ≡ true → own s (K (variable m)) ≡ true → variable m < v)
    go true e =
        let w = some_which (λ m. own s (K (variable m)) && leb v (variable m)) C e in
        let o = and_parts (own s (K (variable w.0))) (leb v (variable w.0)) w.2 in
        inl (w.0, w.1, o.0, leb-true v (variable w.0) o.1)
    go false e =
        inr (λ m h o. ⊎_elim (λ c. c) (λ c. absurd (both_ways (own_from s prefix C v) e (some_has (λ x. own s (K (variable x)) && leb v (variable x)) C m h (and_from (own s (K (variable m))) (leb v (variable m)) o (le-leb v (variable m) c))))) (cases_lt (variable m) v))

reduce_leaves : {s : Side} {ks : List Quantifier} (prefix : List Quantifier) (C : List ℕ) → rising C ≡ true → (v : ℕ) (A : List ℕ) (t : Tree s ks)
    → Kinds v ks (quantifier_of prefix) → ((l : ℕ) → has C l ≡ true → variable l < v + length ks) → Fresh v A
    → ((l : ℕ) → has C l ≡ true → has (reduce s prefix C) l ≡ false → v ≤ variable l)
    → Leaves (λ B. breaks s B C ≡ false) v A t → Leaves (λ B. breaks s B (reduce s prefix C) ≡ false) v A t
reduce_leaves {s} prefix C r v A done k b f g e =
    ⊎_elim (λ w. absurd (let n = b w.0 w.1 in let m = w.3 in omega arith))
    (λ p. past_own (quantifier_of prefix) C (reduce s prefix C) r (reduce_reduces s prefix C) v A done k b f g p e) (own_left s prefix C v)
reduce_leaves {s} prefix C r v A (mine {prefix = ks} o z t) k b f g e =
    ⊎_elim
    (λ w. reduce_leaves prefix C r (suc v) (setting v z ∷ A) t k.1 (λ l h. let n = b l h in omega arith) (fresh_more v A z f)
    (λ l h d. let n = ((reduce_reduces s prefix C).gone l h d).1 w.0 w.1 w.2 in let m = w.3 in omega arith) e)
    (λ p. past_own (quantifier_of prefix) C (reduce s prefix C) r (reduce_reduces s prefix C) v A (mine o z t) k b f g p e) (own_left s prefix C v)
reduce_leaves {s} prefix C r v A (theirs {prefix = ks} o t u) k b f g e =
    ⊎_elim
    (λ w.
    let g' : (l : ℕ) → has C l ≡ true → has (reduce s prefix C) l ≡ false → suc v ≤ variable l =
    λ l h d. (let n = ((reduce_reduces s prefix C).gone l h d).1 w.0 w.1 w.2 in let m = w.3 in omega arith) in (
      reduce_leaves prefix C r (suc v) (setting v true ∷ A) t k.1 (λ l h. let n = b l h in omega arith) (fresh_more v A true f) g' e.0,
      reduce_leaves prefix C r (suc v) (setting v false ∷ A) u k.1 (λ l h. let n = b l h in omega arith) (fresh_more v A false f) g' e.1,
    ))
    (λ p. past_own (quantifier_of prefix) C (reduce s prefix C) r (reduce_reduces s prefix C) v A (theirs o t u) k b f g p e) (own_left s prefix C v)

pub reducing_keeps : Reducing
reducing_keeps s prefix T C n r a t u =
    reduce_leaves prefix C r 1 [] t (prefix_kinds prefix) (λ l h. let k = n C (inl refl) l h in omega arith) (λ w l. refl) (λ l h d. (n C (inl refl) l h).0) (a t u)

-- any of what is entailed may be any choice
some_append : {X : Type 0} (p : X → Bool) (xs ys : List X) → some p (xs ++ ys) ≡ (some p xs || some p ys)
some_append p [] ys = refl
some_append p (x ∷ xs) ys = ap (λ b. p x || b) (some_append p xs ys) ∙ assoc (p x) (some p xs) (some p ys)
  where
    assoc : (a b c : Bool) → (a || (b || c)) ≡ ((a || b) || c)
    assoc true b c = refl
    assoc false b c = refl

leaves_none : {s : Side} {ks : List Quantifier} (P : List ℕ → Type 0) (t : Tree s ks) → Leaves P 1 [] t → (S : List (List ℕ))
    → ((C : List ℕ) → In C S → Leaves (λ B. breaks s B C ≡ false) 1 [] t) → Leaves (λ B. broken s S B ≡ false) 1 [] t
leaves_none P t p [] f = leaves_map P (λ B. ◌≡◌ {A = Bool} false false) (λ B q. refl) 1 [] t p
leaves_none {s} P t p (C ∷ S) f =
    from_root (λ B. breaks s B C ≡ false) (λ B. broken s S B ≡ false) (λ B. broken s (C ∷ S) B ≡ false) (λ B h a b. or_from (breaks s B C) (broken s S B) a b)
    t (f C (inl refl)) (leaves_none P t p S (λ D i. f D (inr i)))

named_append : (prefix : List Quantifier) (T S : List (List ℕ)) → Named prefix T → Named prefix S → Named prefix (T ++ S)
named_append prefix [] S n m C i = m C i
named_append prefix (D ∷ T) S n m C (inl e) = n C (inl e)
named_append prefix (D ∷ T) S n m C (inr i) = named_append prefix T S (λ E j. n E (inr j)) m C i

pub any_choice : AnyChoice
any_choice s prefix T S n m f =
    value_seen s prefix [] (T ++ S) none_clear (named_append prefix T S n m)
    ∙ ap (seen s) (go (is_lost s (T ++ S) 1 prefix []) refl (is_lost s T 1 prefix []) refl)
    ∙ sym (value_seen s prefix [] T none_clear n)
  where
    fewer : is_lost s (T ++ S) 1 prefix [] ≡ false → is_lost s T 1 prefix [] ≡ false
    fewer e =
        let r = tree_of s (T ++ S) 1 prefix [] (λ w l. refl) e in
        is_lost_of s T 1 [] (λ w l. refl) r.0
        (leaves_map (λ B. broken s (T ++ S) B ≡ false) (λ B. broken s T B ≡ false) (λ B q. (or_parts (broken s T B) (broken s S B) (sym (some_append (λ C. breaks s B C) T S) ∙ q)).0) 1 [] r.0 r.1)

    more : is_lost s T 1 prefix [] ≡ false → is_lost s (T ++ S) 1 prefix [] ≡ false
    more e =
        let r = tree_of s T 1 prefix [] (λ w l. refl) e in
        is_lost_of s (T ++ S) 1 [] (λ w l. refl) r.0
        (from_root (λ B. broken s T B ≡ false) (λ B. broken s S B ≡ false) (λ B. broken s (T ++ S) B ≡ false) (λ B h a b. some_append (λ C. breaks s B C) T S ∙ or_from (broken s T B) (broken s S B) a b)
        r.0 r.1 (leaves_none (λ B. broken s T B ≡ false) r.0 r.1 S (λ C i. f C i r.0 r.1)))

    go : (a : Bool) → is_lost s (T ++ S) 1 prefix [] ≡ a → (b : Bool) → is_lost s T 1 prefix [] ≡ b → a ≡ b
    go true p true q = refl
    go true p false q = absurd (both_ways (is_lost s (T ++ S) 1 prefix []) (more q) p)
    go false p true q = absurd (both_ways (is_lost s T 1 prefix []) (fewer p) q)
    go false p false q = refl

no_leaf : {s : Side} {ks : List Quantifier} (v : ℕ) (A : List ℕ) (t : Tree s ks) → Leaves (λ B. ◌≡◌ {A = Bool} true false) v A t → ⊥
no_leaf v A done e = both_ways true e refl
no_leaf v A (mine o b t) e = no_leaf (suc v) (setting v b ∷ A) t e
no_leaf v A (theirs o t u) e = no_leaf (suc v) (setting v true ∷ A) t e.0

pub empty_loses : EmptyLoses
empty_loses s prefix T n a = value_seen s prefix [] T none_clear n ∙ ap (seen s) (go (is_lost s T 1 prefix []) refl) ∙ away s
  where
    away : (t : Side) → seen t true ≡ losing t
    away Clause = refl
    away Cube = refl

    go : (z : Bool) → is_lost s T 1 prefix [] ≡ z → z ≡ true
    go true e = refl
    go false e = let r = tree_of s T 1 prefix [] (λ w l. refl) e in absurd (no_leaf 1 [] r.0 (a r.0 r.1))
