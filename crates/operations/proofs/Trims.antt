-- Reducing from the right: literals of the other quantifier that no own one follows are dropped. Assumes nothing.
use Rattle.std.proofs.Common.{◌≡◌, ℕ, zero, suc, ◌+◌, ◌<◌, ◌≤◌, Bool, true, false, cond, ◌&&◌, ◌||◌, leb, List, [], ◌∷◌, length, get_or, take, filter, sym, refl, ap, ◌∙◌, subst, ap₂, arith}
use Rattle.std.proofs.lemmas.Bool.{and_parts, and_from, both_ways, le-leb, lt-leb}
use Rattle.qbf.specs.declared.quantifier.Quantifier.{Quantifier}
use Rattle.qbf.specs.declared.side.Side.{Side}
use Rattle.qbf.specs.Qbf.{variable, quantifier_of, has, every, own, rising, formed, is_code, own_from, reduce}
use Rattle.qbf.proofs.Basics.{has_head, has_tail, some_has, some_which, has_keep, keep_has}
use Rattle.qbf.proofs.Learned.{rising_parts}

-- a literal before what is left: it stays if it is own or something is left
abbrev pub put : ℕ → Bool → List ℕ → List ℕ
put l true C = l ∷ C
put l false [] = []
put l false (m ∷ C) = l ∷ m ∷ C

abbrev pub trimmed : Side → List Quantifier → List ℕ → List ℕ
trimmed s prefix [] = []
trimmed s prefix (l ∷ C) = put l (own s (quantifier_of prefix (variable l))) (trimmed s prefix C)

keep_same : (p q : ℕ → Bool) (C : List ℕ) → ((l : ℕ) → has C l ≡ true → p l ≡ q l) → filter p C ≡ filter q C
keep_same p q [] h = refl
keep_same p q (l ∷ C) h =
    let a = h l (has_head l C) in
    let b = keep_same p q C (λ m i. h m (has_tail l m C i)) in
    cc

-- for rising codes that is to reduce
pub trimming : (s : Side) (prefix : List Quantifier) (C : List ℕ) → rising C ≡ true → trimmed s prefix C ≡ reduce s prefix C
trimming s prefix [] r = refl
trimming s prefix (l ∷ C) r =
    ap (put l (own s (K (variable l)))) (trimming s prefix C r'.1)
    ∙ ap (put l (own s (K (variable l)))) (keep_same (λ m. own_from s prefix C (variable m)) (λ m. own_from s prefix (l ∷ C) (variable m)) C same)
    ∙ go (own s (K (variable l))) refl
  where
    K : ℕ → Quantifier
    K = quantifier_of prefix

    r' : ((m : ℕ) → has C m ≡ true → variable l < variable m) × (rising C ≡ true)
    r' = rising_parts l C r

    drop : (a b c : Bool) → b ≡ false → c ≡ ((a && b) || c)
    drop true b c e = sym (ap (λ z. z || c) e)
    drop false b c e = refl

    same : (m : ℕ) → has C m ≡ true → own_from s prefix C (variable m) ≡ own_from s prefix (l ∷ C) (variable m)
    same m h = drop (own s (K (variable l))) (leb (variable m) (variable l)) (own_from s prefix C (variable m)) (lt-leb (variable m) (variable l) (r'.0 m h))

    D : List ℕ
    D = filter (λ m. own_from s prefix (l ∷ C) (variable m)) C

    from : (E : List ℕ) (n v : ℕ) → has E n ≡ true → own s (K (variable n)) ≡ true → v ≤ variable n → own_from s prefix E v ≡ true
    from E n v h o b = some_has (λ x. own s (K (variable x)) && leb v (variable x)) E n h (and_from (own s (K (variable n))) (leb v (variable n)) o (le-leb v (variable n) b))

    in_d : (m n : ℕ) → has C m ≡ true → has C n ≡ true → own s (K (variable n)) ≡ true → variable m ≤ variable n → has D m ≡ true
    in_d m n h i o b = has_keep (λ x. own_from s prefix (l ∷ C) (variable x)) C m h (from (l ∷ C) n (variable m) (has_tail l n C i) o b)

    go : (z : Bool) → own s (K (variable l)) ≡ z → put l z D ≡ cond ((z && leb (variable l) (variable l)) || own_from s prefix C (variable l)) (l ∷ D) D
    go true e = sym (ap (λ b. cond (b || own_from s prefix C (variable l)) (l ∷ D) D) (le-leb (variable l) (variable l) (omega arith)))
    go false e = tail (own_from s prefix C (variable l)) refl D refl
      where
        tail : (b : Bool) → own_from s prefix C (variable l) ≡ b → (E : List ℕ) → D ≡ E → put l false E ≡ cond b (l ∷ E) E
        tail true q [] f =
            let w = some_which (λ x. own s (K (variable x)) && leb (variable l) (variable x)) C q in
            let o = and_parts (own s (K (variable w.0))) (leb (variable l) (variable w.0)) w.2 in
            absurd (both_ways false refl (subst (λ L. has L w.0 ≡ true) f (in_d w.0 w.0 w.1 w.1 o.0 (omega arith))))
        tail true q (m ∷ E) f = refl
        tail false q [] f = refl
        tail false q (m ∷ E) f =
            let h = keep_has (λ x. own_from s prefix (l ∷ C) (variable x)) C m (subst (λ L. has L m ≡ true) (sym f) (has_head m E)) in
            let w = some_which (λ x. own s (K (variable x)) && leb (variable m) (variable x)) C (same m h.0 ∙ h.1) in
            let o = and_parts (own s (K (variable w.0))) (leb (variable m) (variable w.0)) w.2 in
            let b = r'.0 w.0 w.1 in
            absurd (both_ways (own_from s prefix C (variable l)) q (from C w.0 (variable l) w.1 o.0 (omega arith)))

pub formed_rising : (C : List ℕ) → formed C ≡ true → rising C ≡ true
formed_rising C f = (and_parts (every is_code C) (rising C) f).1

-- nothing stays where no literal is own
trimmed_none : (s : Side) (prefix : List Quantifier) (C : List ℕ) → ((k : ℕ) → k < length C → own s (quantifier_of prefix (variable (get_or C k 0))) ≡ false) → trimmed s prefix C ≡ []
trimmed_none s prefix [] f = refl
trimmed_none s prefix (l ∷ C) f = ap₂ (put l) (f 0 (omega arith)) (trimmed_none s prefix C (λ k h. f (suc k) (omega arith)))

put_before : (l m : ℕ) (b : Bool) (C : List ℕ) → put l b (m ∷ C) ≡ l ∷ m ∷ C
put_before l m true C = refl
put_before l m false C = refl

-- all up to the last own one stay
trimmed_last : (s : Side) (prefix : List Quantifier) (C : List ℕ) (i : ℕ) → i < length C → own s (quantifier_of prefix (variable (get_or C i 0))) ≡ true
    → ((k : ℕ) → i + 1 ≤ k → k < length C → own s (quantifier_of prefix (variable (get_or C k 0))) ≡ false) → trimmed s prefix C ≡ take (suc i) C
trimmed_last s prefix [] i h o f = absurd (omega arith)
trimmed_last s prefix (l ∷ C) zero h o f = ap₂ (put l) o (trimmed_none s prefix C (λ k i. f (suc k) (omega arith) (omega arith)))
trimmed_last s prefix (l ∷ []) (suc i) h o f = absurd (omega arith)
trimmed_last s prefix (l ∷ m ∷ C) (suc i) h o f =
    ap (put l (own s (quantifier_of prefix (variable l)))) (trimmed_last s prefix (m ∷ C) i (omega arith) o (λ k a b. f (suc k) (omega arith) (omega arith))) ∙ put_before l m (own s (quantifier_of prefix (variable l))) (take i C)

module _ (s : Side) (prefix : List Quantifier) (C : List ℕ) (f : formed C ≡ true) where
  pub reduced_none : ((k : ℕ) → k < length C → own s (quantifier_of prefix (variable (get_or C k 0))) ≡ false) → [] ≡ reduce s prefix C
  reduced_none g = sym (trimmed_none s prefix C g) ∙ trimming s prefix C (formed_rising C f)

  pub reduced_last : (i : ℕ) → i < length C → own s (quantifier_of prefix (variable (get_or C i 0))) ≡ true
      → ((k : ℕ) → i + 1 ≤ k → k < length C → own s (quantifier_of prefix (variable (get_or C k 0))) ≡ false) → take (i + 1) C ≡ reduce s prefix C
  reduced_last i h o g = ap (λ n. take n C) (let e : i + 1 ≡ suc i = omega arith in e) ∙ sym (trimmed_last s prefix C i h o g) ∙ trimming s prefix C (formed_rising C f)
