-- The trail's table over a push and a pop, and that there is room. Assumes nothing.
use Rattle.std.proofs.Common.{◌≡◌, ℕ, ◌<◌, ◌≤◌, Bool, true, false, not, ◌&&◌, ◌||◌, eqb, leb, List, [], ◌∷◌, ◌++◌, length, get_or, set, map, replicate, sym, refl, ap, ◌∙◌, subst, ⊎_elim, arith}
use Rattle.std.proofs.lemmas.Bool.{and_parts, and_from, or_cases, or_left, or_from, both_ways, cases_Bool, eq-eqb, ne_eqb, eqb-true, cases_eq, cases_lt, not-true, not_from_false, leb-true}
use Rattle.std.proofs.lemmas.Map.Steps.{length-le_from_distinct_below}
use Rattle.std.specs.List.{AllByRecursion, IsDistinct, list_any}
use Rattle.std.proofs.lemmas.List.{length-map, get_or-set_same, get_or-set_other, get_or-replicate, get_or_past, length-replicate, length_push}
use Rattle.qbf.specs.Qbf.{variable, has, is_code, is_set}
use Rattle.qbf.proofs.Basics.{has_head, has_tail, has_set, set_other, set_new}
use Rattle.calculus.specs.State.{Entry, literal_of, literals}
use Rattle.calculus.proofs.Lists.{has_snoc, is_set_snoc}
use Rattle.operations.specs.declared.entry.Cause.{Cause}
use Rattle.operations.specs.declared.entry.Cause.TheVariants.{Decided, Implied}
use Rattle.operations.specs.declared.entry.Entry.{Entry as Kept}
use Rattle.operations.specs.Entries.{caused, entry_of, entries_of, Tied, InRange, apart}

-- the literal of a kept entry is its code
literal_caused : (l : ℕ) (c : Cause) → literal_of (caused l c) ≡ l
literal_caused l Decided = refl
literal_caused l (Implied s n) = refl

literals_push : (es : List Kept) (e : Kept) → literals (entries_of (es ++ (e ∷ []))) ≡ literals (entries_of es) ++ (e.code ∷ [])
literals_push [] e = ap (λ l. l ∷ []) (literal_caused e.code e.cause)
literals_push (f ∷ es) e = ap (λ (A : List ℕ). literal_of (entry_of f) ∷ A) (literals_push es e)

literals_length : (es : List Kept) → length (literals (entries_of es)) ≡ length es
literals_length es = length-map (entries_of es) literal_of ∙ length-map es entry_of

-- no variable twice, said of the literals
abbrev distinct : List ℕ → Bool
distinct [] = true
distinct (l ∷ A) = not (is_set A (variable l)) && distinct A

apart_distinct : (t : List Entry) → apart t ≡ distinct (literals t)
apart_distinct [] = refl
apart_distinct (e ∷ t) = ap (λ b. not (is_set (literals t) (variable (literal_of e))) && b) (apart_distinct t)

-- variables of a list and of one more literal
free_parts : (A : List ℕ) (m v : ℕ) → is_set (m ∷ A) v ≡ false → (variable m ≡ v → ⊥) × (is_set A v ≡ false)
free_parts A m v h =
    let n : variable m ≡ v → ⊥ = λ e. both_ways (is_set (m ∷ A) v) h (subst (λ w. is_set (m ∷ A) w ≡ true) e (set_new A m)) in
    (n, sym (set_other A m v n) ∙ h)

distinct_push : (A : List ℕ) (l : ℕ) → is_set A (variable l) ≡ false → distinct A ≡ true → distinct (A ++ (l ∷ [])) ≡ true
distinct_push [] l h a = refl
distinct_push (m ∷ A) l h a =
    let p = and_parts (not (is_set A (variable m))) (distinct A) a in
    let f = free_parts A m (variable l) h in
    let u : is_set (A ++ (l ∷ [])) (variable m) ≡ false = is_set_snoc A l (variable m) ∙ set_other A l (variable m) (λ e. f.0 (sym e)) ∙ not-true (is_set A (variable m)) p.0 in
    and_from (not (is_set (A ++ (l ∷ [])) (variable m))) (distinct (A ++ (l ∷ []))) (not_from_false (is_set (A ++ (l ∷ [])) (variable m)) u) (distinct_push A l f.1 p.1)

distinct_pop : (A : List ℕ) (l : ℕ) → distinct (A ++ (l ∷ [])) ≡ true → (is_set A (variable l) ≡ false) × (distinct A ≡ true)
distinct_pop [] l a = (refl, refl)
distinct_pop (m ∷ A) l a =
    let p = and_parts (not (is_set (A ++ (l ∷ [])) (variable m))) (distinct (A ++ (l ∷ []))) a in
    let i = distinct_pop A l p.1 in
    let f = free_parts A l (variable m) (sym (is_set_snoc A l (variable m)) ∙ not-true (is_set (A ++ (l ∷ [])) (variable m)) p.0) in (
      set_other A m (variable l) (λ e. f.0 (sym e)) ∙ i.0,
      and_from (not (is_set A (variable m))) (distinct A) (not_from_false (is_set A (variable m)) f.1) i.1,
    )

-- the table after a push and after a pop
abbrev TiedTo : List Bool → List ℕ → Type 0
TiedTo table A = (l : ℕ) → get_or table l false ≡ has A l

tied_push : (table : List Bool) (A : List ℕ) (l : ℕ) → l < length table → TiedTo table A → TiedTo (set table l true) (A ++ (l ∷ []))
tied_push table A l h t m =
    ⊎_elim (λ (e : m ≡ l). subst (λ k. get_or (set table l true) k false ≡ (eqb k l || has A k)) (sym e) (get_or-set_same table l true false h ∙ sym (or_left (eqb l l) (has A l) (eq-eqb l l refl))))
    (λ (n : m ≡ l → ⊥). get_or-set_other table l m true false n ∙ t m ∙ sym (ap (λ b. b || has A m) (ne_eqb m l n))) (cases_eq m l)
    ∙ sym (has_snoc A l m)

tied_pop : (table : List Bool) (A : List ℕ) (l : ℕ) → l < length table → has A l ≡ false → TiedTo table (A ++ (l ∷ [])) → TiedTo (set table l false) A
tied_pop table A l h f t m =
    ⊎_elim (λ (e : m ≡ l). subst (λ k. get_or (set table l false) k false ≡ has A k) (sym e) (get_or-set_same table l false false h ∙ sym f))
    (λ (n : m ≡ l → ⊥). get_or-set_other table l m false false n ∙ t m ∙ has_snoc A l m ∙ ap (λ b. b || has A m) (ne_eqb m l n)) (cases_eq m l)

pub tied_none : (n : ℕ) (l : ℕ) → get_or (replicate n false) l false ≡ false
tied_none n l = ⊎_elim (λ (h : l < n). get_or-replicate n l false false h) (λ (h : n ≤ l). get_or_past (replicate n false) l false (omega (arith, length-replicate n false))) (cases_lt l n)

abbrev AllCodes : List ℕ → Type 0
AllCodes A = (l : ℕ) → has A l ≡ true → is_code l ≡ true

codes_push : (A : List ℕ) (l : ℕ) → is_code l ≡ true → AllCodes A → AllCodes (A ++ (l ∷ []))
codes_push A l c w m h =
    ⊎_elim (λ e. subst (λ x. is_code x ≡ true) (sym (eqb-true m l e)) c) (λ e. w m e) (or_cases (eqb m l) (has A m) (sym (has_snoc A l m) ∙ h))

code_variable : (m : ℕ) → is_code m ≡ true → (1 ≤ variable m) × (variable m ≤ 512)
code_variable m c =
    let p = and_parts (leb 2 m) (leb m 1025) c in
    let a = leb-true 2 m p.0 in
    let b = leb-true m 1025 p.1 in
    (omega arith, omega arith)

-- no more literals than variables: their variables and 0 are distinct and below 513
unset_all : (A : List ℕ) (v : ℕ) → is_set A v ≡ false → AllByRecursion (λ y. eqb v y ≡ false) (map variable A)
unset_all [] v e = tt
unset_all (m ∷ A) v e = let f = free_parts A m v e in (ne_eqb v (variable m) (λ z. f.0 (sym z)), unset_all A v f.1)

all_distinct : (A : List ℕ) → distinct A ≡ true → IsDistinct eqb (map variable A)
unfolding IsDistinct
all_distinct [] a = tt
all_distinct (m ∷ A) a = let p = and_parts (not (is_set A (variable m))) (distinct A) a in (unset_all A (variable m) (not-true (is_set A (variable m)) p.0), all_distinct A p.1)

all_below : (A : List ℕ) → AllCodes A → (q : ℕ) → list_any (eqb q) (map variable A) ≡ true → q < 513
all_below [] c q e = absurd (both_ways false refl e)
all_below (m ∷ A) c q e =
    ⊎_elim (λ i. omega (arith, eqb-true q (variable m) i, code_variable m (c m (has_head m A)))) (λ r. all_below A (λ n h. c n (has_tail m n A h)) q r)
    (or_cases (eqb q (variable m)) (list_any (eqb q) (map variable A)) e)

no_zero : (A : List ℕ) → AllCodes A → is_set A 0 ≡ false
no_zero A c =
    let n : (l : ℕ) → is_code l ≡ false → has A l ≡ false = λ l i. ⊎_elim (λ (h : has A l ≡ true). absurd (both_ways (is_code l) i (c l h))) (λ h. h) (cases_Bool (has A l)) in
    or_from (has A 0) (has A 1) (n 0 refl) (n 1 refl)

few : (A : List ℕ) → distinct A ≡ true → AllCodes A → length A ≤ 512
unfolding IsDistinct
few A d c =
    let i = length-le_from_distinct_below (0 ∷ map variable A) 513 (unset_all A 0 (no_zero A c), all_distinct A d)
    (λ q e. ⊎_elim (λ h. omega (arith, eqb-true q 0 h)) (λ h. all_below A c q h) (or_cases (eqb q 0) (list_any (eqb q) (map variable A)) e)) in
    omega (arith, i, length-map A variable)

-- what the trail keeps true
abbrev pub Sound : List Bool → List Kept → Type 0
Sound table es = Tied table (entries_of es) × (apart (entries_of es) ≡ true) × InRange (entries_of es)

abbrev SoundOf : List Bool → List ℕ → Type 0
SoundOf table A = TiedTo table A × (distinct A ≡ true) × AllCodes A

to_literals : (table : List Bool) (es : List Kept) → Sound table es → SoundOf table (literals (entries_of es))
to_literals table es s = (s.0, sym (apart_distinct (entries_of es)) ∙ s.1, s.2)

from_literals : (table : List Bool) (es : List Kept) → SoundOf table (literals (entries_of es)) → Sound table es
from_literals table es s = (s.0, apart_distinct (entries_of es) ∙ s.1, s.2)

-- a push and a pop keep it
pub pushed : (table : List Bool) (es fs : List Kept) (e : Kept) → fs ≡ es ++ (e ∷ []) → is_code e.code ≡ true → is_set (literals (entries_of es)) (variable e.code) ≡ false → length table ≡ 1026
    → Sound table es → Sound (set table e.code true) fs
pushed table es fs e q c h n s =
    let A = literals (entries_of es) in
    let p : literals (entries_of fs) ≡ A ++ (e.code ∷ []) = ap (λ (x : List Kept). literals (entries_of x)) q ∙ literals_push es e in
    let t = to_literals table es s in
    let b = leb-true e.code 1025 (and_parts (leb 2 e.code) (leb e.code 1025) c).1 in
    from_literals (set table e.code true) fs
    (subst (SoundOf (set table e.code true)) (sym p) (tied_push table A e.code (omega arith) t.0, distinct_push A e.code h t.1, codes_push A e.code c t.2))

pub popped : (table : List Bool) (es fs : List Kept) (e : Kept) → es ≡ fs ++ (e ∷ []) → length table ≡ 1026 → Sound table es → (e.code < 1026) × Sound (set table e.code false) fs
popped table es fs e q n s =
    let A = literals (entries_of fs) in
    let l = e.code in
    let p : literals (entries_of es) ≡ A ++ (l ∷ []) = ap (λ (x : List Kept). literals (entries_of x)) q ∙ literals_push fs e in
    let t = subst (SoundOf table) p (to_literals table es s) in
    let c = t.2 l (has_snoc A l l ∙ has_head l A) in
    let b = leb-true l 1025 (and_parts (leb 2 l) (leb l 1025) c).1 in
    let a = distinct_pop A l t.1 in
    let f : has A l ≡ false = ⊎_elim (λ (k : has A l ≡ true). absurd (both_ways (is_set A (variable l)) a.0 (has_set A l k))) (λ k. k) (cases_Bool (has A l)) in
    (omega arith, from_literals (set table l false) fs (tied_pop table A l (omega arith) f t.0, a.1, λ m h. t.2 m (has_snoc A l m ∙ has_tail l m A h)))

-- there is room for a literal of an unset variable
pub room : (es : List Kept) (l : ℕ) → is_code l ≡ true → is_set (literals (entries_of es)) (variable l) ≡ false → apart (entries_of es) ≡ true → InRange (entries_of es) → length es < 512
room es l c h p w =
    let A = literals (entries_of es) in
    let d = distinct_push A l h (sym (apart_distinct (entries_of es)) ∙ p) in
    let i = few (A ++ (l ∷ [])) d (codes_push A l c w) in
    omega (arith, i, length_push A l, literals_length es)
