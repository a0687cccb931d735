-- The unit literal by one pass from the left. Assumes nothing.
use Rattle.std.proofs.Common.{◌≡◌, ℕ, Bool, true, false, cond, not, ◌||◌, List, [], ◌∷◌, Some, None, Option, sym, refl, ap, ◌∙◌, subst}
use Rattle.std.proofs.lemmas.Bool.{both_ways, cond-true, cond-false}
use Rattle.qbf.specs.declared.quantifier.Quantifier.{Quantifier}
use Rattle.qbf.specs.declared.side.Side.{Side}
use Rattle.qbf.specs.Qbf.{In, variable, quantifier_of, has, some, is_set, own, formed, unset, only, unit, implied}
use Rattle.qbf.proofs.Basics.{has_set, implied_variable}
use Rattle.qbf.proofs.Learned.{rising_keep}
use Rattle.database.specs.Codes.{codes_at}
use Rattle.calculus.specs.State.{constraint}
use Rattle.operations.proofs.ByNumber.{constraint_formed}
use Rattle.operations.proofs.Trims.{put, trimmed, trimming, formed_rising}

-- a literal, where it is an own one
abbrev pub if_own : Side → List Quantifier → Option ℕ → Option ℕ
if_own s prefix None = None
if_own s prefix (Some l) = cond (own s (quantifier_of prefix (variable l))) (Some l) None

-- what the pass answers from C on, with the first unset literal so far
abbrev pub scan : Side → List Quantifier → List ℕ → Option ℕ → List ℕ → Option ℕ
scan s prefix A first [] = if_own s prefix first
scan s prefix A None (l ∷ C) = cond (is_set A (variable l)) (cond (has A (implied s l)) None (scan s prefix A None C)) (scan s prefix A (Some l) C)
scan s prefix A (Some x) (l ∷ C) =
    cond (is_set A (variable l))
    (cond (has A (implied s l)) None (scan s prefix A (Some x) C))
    (cond (own s (quantifier_of prefix (variable l))) None (scan s prefix A (Some x) C))

-- the definition, with `reduce` from the right
abbrev goal : Side → List Quantifier → List ℕ → (List ℕ → Option ℕ) → List ℕ → Option ℕ
goal s prefix A f C = cond (some (λ m. has A (implied s m)) C) None (f (trimmed s prefix (unset A C)))

unset_implied : (s : Side) (A : List ℕ) (l : ℕ) → is_set A (variable l) ≡ false → has A (implied s l) ≡ false
unset_implied s A l e = go (has A (implied s l)) refl
  where
    go : (b : Bool) → has A (implied s l) ≡ b → has A (implied s l) ≡ false
    go true q = absurd (both_ways (is_set A (variable l)) e (subst (λ v. is_set A v ≡ true) (implied_variable s l) (has_set A (implied s l) q)))
    go false q = q

none_cond : (b : Bool) → ◌≡◌ {A = Option ℕ} None (cond b None None)
none_cond true = refl
none_cond false = refl

only_more : (x l : ℕ) (T : List ℕ) → only (x ∷ T) ≡ only (x ∷ put l false T)
only_more x l [] = refl
only_more x l (m ∷ T) = refl

only_none : (l : ℕ) (T : List ℕ) → None ≡ only (put l false T)
only_none l [] = refl
only_none l (m ∷ T) = refl

module _ (s : Side) (prefix : List Quantifier) (A : List ℕ) where
  scan_other : (x : ℕ) (C : List ℕ) → own s (quantifier_of prefix (variable x)) ≡ false → scan s prefix A (Some x) C ≡ None
  scan_other x [] e = cond-false (own s (quantifier_of prefix (variable x))) (Some x) None e
  scan_other x (l ∷ C) e = go (scan_other x C e) (is_set A (variable l)) (has A (implied s l)) (own s (quantifier_of prefix (variable l)))
    where
      go : scan s prefix A (Some x) C ≡ None → (a b o : Bool)
          → cond a (cond b None (scan s prefix A (Some x) C)) (cond o None (scan s prefix A (Some x) C)) ≡ None
      go ih true true o = refl
      go ih true false o = ih
      go ih false b true = refl
      go ih false b false = ih

  scan_own : (x : ℕ) (C : List ℕ) → own s (quantifier_of prefix (variable x)) ≡ true → scan s prefix A (Some x) C ≡ goal s prefix A (λ R. only (x ∷ R)) C
  scan_own x [] e = cond-true (own s (quantifier_of prefix (variable x))) (Some x) None e
  scan_own x (l ∷ C) e = go (scan_own x C e) (is_set A (variable l)) refl (has A (implied s l)) refl (own s (quantifier_of prefix (variable l))) refl
    where
      S : Bool
      S = some (λ m. has A (implied s m)) C

      U : List ℕ
      U = unset A C

      go : scan s prefix A (Some x) C ≡ goal s prefix A (λ R. only (x ∷ R)) C
          → (a : Bool) → is_set A (variable l) ≡ a → (b : Bool) → has A (implied s l) ≡ b → (o : Bool) → own s (quantifier_of prefix (variable l)) ≡ o
          → cond a (cond b None (scan s prefix A (Some x) C)) (cond o None (scan s prefix A (Some x) C))
          ≡ cond (b || S) None (only (x ∷ trimmed s prefix (cond (not a) (l ∷ U) U)))
      go ih true ea true eb o eo = refl
      go ih true ea false eb o eo = ih
      go ih false ea true eb o eo = absurd (both_ways (has A (implied s l)) (unset_implied s A l ea) eb)
      go ih false ea false eb true eo = none_cond S ∙ ap (λ z. cond S None (only (x ∷ put l z (trimmed s prefix U)))) (sym eo)
      go ih false ea false eb false eo = ih ∙ ap (λ z. cond S None z) (only_more x l (trimmed s prefix U)) ∙ ap (λ z. cond S None (only (x ∷ put l z (trimmed s prefix U)))) (sym eo)

  scan_is : (C : List ℕ) → scan s prefix A None C ≡ goal s prefix A only C
  scan_is [] = refl
  scan_is (l ∷ C) = go (scan_is C) (is_set A (variable l)) refl (has A (implied s l)) refl (own s (quantifier_of prefix (variable l))) refl
    where
      S : Bool
      S = some (λ m. has A (implied s m)) C

      U : List ℕ
      U = unset A C

      go : scan s prefix A None C ≡ goal s prefix A only C
          → (a : Bool) → is_set A (variable l) ≡ a → (b : Bool) → has A (implied s l) ≡ b → (o : Bool) → own s (quantifier_of prefix (variable l)) ≡ o
          → cond a (cond b None (scan s prefix A None C)) (scan s prefix A (Some l) C)
          ≡ cond (b || S) None (only (trimmed s prefix (cond (not a) (l ∷ U) U)))
      go ih true ea true eb o eo = refl
      go ih true ea false eb o eo = ih
      go ih false ea true eb o eo = absurd (both_ways (has A (implied s l)) (unset_implied s A l ea) eb)
      go ih false ea false eb true eo = scan_own l C eo ∙ ap (λ z. cond S None (only (put l z (trimmed s prefix U)))) (sym eo)
      go ih false ea false eb false eo =
          scan_other l C eo ∙ none_cond S ∙ ap (λ z. cond S None z) (only_none l (trimmed s prefix U)) ∙ ap (λ z. cond S None (only (put l z (trimmed s prefix U)))) (sym eo)

  -- before the first code
  pub begun : (T : List (List ℕ)) (n : ℕ) → ((C : List ℕ) → In C T → formed C ≡ true) → scan s prefix A None (codes_at T n) ≡ unit s prefix A (constraint T n)
  begun T n f =
      let C = constraint T n in
      let r = formed_rising C (constraint_formed T n f) in
      scan_is C
      ∙ ap (λ R. cond (some (λ m. has A (implied s m)) C) None (only R)) (trimming s prefix (unset A C) (rising_keep (λ l. not (is_set A (variable l))) C r))
