-- Lists of codes whose variables rise: how long they are, one code more at the end, and the same said by places. Assumes nothing.
use Rattle.std.proofs.Common.{◌≡◌, ℕ, zero, suc, ◌+◌, ◌-◌, ◌<◌, ◌≤◌, Bool, true, ◌&&◌, ltb, leb, List, [], ◌∷◌, ◌++◌, length, get_or, take, Some, None, Option, refl, ◌∙◌, add-one, arith}
use Rattle.std.proofs.lemmas.List.{get_or-take, length-take}
use Rattle.std.proofs.lemmas.Bool.{and_parts, and_from, ltb-true, lt-ltb, leb-true, le-leb}
use Rattle.std.specs.Prelude.{MatchOption, slice_get}
use Rattle.std.proofs.lemmas.Option.{slice_get-get_or}
use Rattle.qbf.specs.Qbf.{variable, every, is_code, rising, formed}
use Rattle.qbf.specs.Constraints.{last_variable}

-- the last variable, by its place
pub last_place : (C : List ℕ) (k d : ℕ) → suc k ≡ length C → variable (get_or C k d) ≡ last_variable C
last_place [] k d e = absurd (omega arith)
last_place (l ∷ []) zero d e = refl
last_place (l ∷ []) (suc k) d e = absurd (omega arith)
last_place (l ∷ m ∷ C) zero d e = absurd (omega arith)
last_place (l ∷ m ∷ C) (suc k) d e = last_place (m ∷ C) k d (omega arith)

-- the last variable, by the last code
pub last_got : (C : List ℕ) (o : Option ℕ) (r : ℕ) → o ≡ slice_get C (length C - 1) → MatchOption o (r ≡ 0) (λ x. r ≡ variable x) → r ≡ last_variable C
last_got [] o r e m = let h : MatchOption None (r ≡ 0) (λ x. r ≡ variable x) = rw e at m in h
last_got (l ∷ C) o r e m =
    let k : ℕ = length (l ∷ C) - 1 in
    let s = slice_get-get_or (l ∷ C) k 0 (omega arith) in
    let h : MatchOption (Some (get_or (l ∷ C) k 0)) (r ≡ 0) (λ x. r ≡ variable x) = rw (e, s) at m in
    h ∙ last_place (l ∷ C) k 0 (omega arith)

every_push : {X : Type 0} (p : X → Bool) (xs : List X) (x : X) → every p xs ≡ true → p x ≡ true → every p (xs ++ (x ∷ [])) ≡ true
every_push p [] x e h = and_from (p x) true h refl
every_push p (y ∷ xs) x e h = let q = and_parts (p y) (every p xs) e in and_from (p y) (every p (xs ++ (x ∷ []))) q.0 (every_push p xs x q.1 h)

-- each variable of a rising list is at most the last
below_last : (l : ℕ) (C : List ℕ) → rising (l ∷ C) ≡ true → variable l ≤ last_variable (l ∷ C)
below_last l [] r = omega arith
below_last l (m ∷ C) r =
    let p = and_parts (every (λ x. ltb (variable l) (variable x)) (m ∷ C)) (rising (m ∷ C)) r in
    let q = and_parts (ltb (variable l) (variable m)) (every (λ x. ltb (variable l) (variable x)) C) p.0 in
    let a = ltb-true (variable l) (variable m) q.0 in
    let b = below_last m C p.1 in
    omega arith

pub rising_push : (C : List ℕ) (l : ℕ) → rising C ≡ true → last_variable C < variable l → rising (C ++ (l ∷ [])) ≡ true
rising_push [] l r h = refl
rising_push (m ∷ []) l r h = and_from (ltb (variable m) (variable l) && true) true (and_from (ltb (variable m) (variable l)) true (lt-ltb (variable m) (variable l) h) refl) refl
rising_push (m ∷ n ∷ C) l r h =
    let p = and_parts (every (λ x. ltb (variable m) (variable x)) (n ∷ C)) (rising (n ∷ C)) r in
    let b = below_last m (n ∷ C) r in
    and_from (every (λ x. ltb (variable m) (variable x)) ((n ∷ C) ++ (l ∷ []))) (rising ((n ∷ C) ++ (l ∷ [])))
    (every_push (λ x. ltb (variable m) (variable x)) (n ∷ C) l p.0 (lt-ltb (variable m) (variable l) (omega arith)))
    (rising_push (n ∷ C) l p.1 h)

pub code_from : (l : ℕ) → 2 ≤ l → l ≤ 1025 → is_code l ≡ true
code_from l a b = and_from (leb 2 l) (leb l 1025) (le-leb 2 l a) (le-leb l 1025 b)

-- a code above the last may follow
pub formed_push : (C : List ℕ) (l : ℕ) → formed C ≡ true → is_code l ≡ true → last_variable C < variable l → formed (C ++ (l ∷ [])) ≡ true
formed_push C l f c h =
    let p = and_parts (every is_code C) (rising C) f in
    and_from (every is_code (C ++ (l ∷ []))) (rising (C ++ (l ∷ []))) (every_push is_code C l p.0 c) (rising_push C l p.1 h)

-- a rising list of codes has room up to its last variable
length_last : (l : ℕ) (C : List ℕ) → rising (l ∷ C) ≡ true → variable l + length C ≤ last_variable (l ∷ C)
length_last l [] r = omega arith
length_last l (m ∷ C) r =
    let p = and_parts (every (λ x. ltb (variable l) (variable x)) (m ∷ C)) (rising (m ∷ C)) r in
    let q = and_parts (ltb (variable l) (variable m)) (every (λ x. ltb (variable l) (variable x)) C) p.0 in
    let a = ltb-true (variable l) (variable m) q.0 in
    let b = length_last m C p.1 in
    omega arith

pub length_below : (C : List ℕ) → formed C ≡ true → length C ≤ last_variable C
length_below [] f = omega arith
length_below (l ∷ C) f =
    let p = and_parts (every is_code (l ∷ C)) (rising (l ∷ C)) f in
    let c = and_parts (is_code l) (every is_code C) p.0 in
    let a = leb-true 2 l (and_parts (leb 2 l) (leb l 1025) c.0).0 in
    let b = length_last l C p.1 in
    omega arith

last_code : (C : List ℕ) → every is_code C ≡ true → last_variable C ≤ 512
last_code [] e = omega arith
last_code (l ∷ []) e =
    let c = and_parts (is_code l) true e in
    let a = leb-true l 1025 (and_parts (leb 2 l) (leb l 1025) c.0).1 in
    omega arith
last_code (l ∷ m ∷ C) e = last_code (m ∷ C) (and_parts (is_code l) (every is_code (m ∷ C)) e).1

-- a constraint has at most 512 literals
pub length_most : (C : List ℕ) → formed C ≡ true → length C ≤ 512
length_most C f = let a = length_below C f in let b = last_code C (and_parts (every is_code C) (rising C) f).0 in omega arith

-- there is room below a variable that is above the last
pub room : (C : List ℕ) (l : ℕ) → formed C ≡ true → is_code l ≡ true → last_variable C < variable l → length C < 512
room C l f c h =
    let a = length_below C f in
    let b = leb-true l 1025 (and_parts (leb 2 l) (leb l 1025) c).1 in
    omega arith

-- BY PLACES, counted from 0.

every_at : (p : ℕ → Bool) (C : List ℕ) → every p C ≡ true → (k : ℕ) → k < length C → p (get_or C k 0) ≡ true
every_at p [] e k h = absurd (omega arith)
every_at p (l ∷ C) e zero h = (and_parts (p l) (every p C) e).0
every_at p (l ∷ C) e (suc k) h = every_at p C (and_parts (p l) (every p C) e).1 k (omega arith)

pub code_at_lem : (C : List ℕ) → formed C ≡ true → (k : ℕ) → k < length C → (2 ≤ get_or C k 0) × (get_or C k 0 ≤ 1025)
code_at_lem C f k h =
    let c = every_at is_code C (and_parts (every is_code C) (rising C) f).0 k h in
    let p = and_parts (leb 2 (get_or C k 0)) (leb (get_or C k 0) 1025) c in
    (leb-true 2 (get_or C k 0) p.0, leb-true (get_or C k 0) 1025 p.1)

rising_at : (C : List ℕ) → rising C ≡ true → (j k : ℕ) → j < k → k < length C → variable (get_or C j 0) < variable (get_or C k 0)
rising_at [] r j k i h = absurd (omega arith)
rising_at (l ∷ C) r j zero i h = absurd (omega arith)
rising_at (l ∷ C) r zero (suc k) i h =
    let p = and_parts (every (λ m. ltb (variable l) (variable m)) C) (rising C) r in
    ltb-true (variable l) (variable (get_or C k 0)) (every_at (λ m. ltb (variable l) (variable m)) C p.0 k (omega arith))
rising_at (l ∷ C) r (suc j) (suc k) i h = rising_at C (and_parts (every (λ m. ltb (variable l) (variable m)) C) (rising C) r).1 j k (omega arith) (omega arith)

-- the variable at a place is below that at any later one
pub variables_rise : (C : List ℕ) → formed C ≡ true → (j k : ℕ) → j < k → k < length C → variable (get_or C j 0) < variable (get_or C k 0)
variables_rise C f = rising_at C (and_parts (every is_code C) (rising C) f).1

every_by_places : (p : ℕ → Bool) (C : List ℕ) → ((k : ℕ) → k < length C → p (get_or C k 0) ≡ true) → every p C ≡ true
every_by_places p [] h = refl
every_by_places p (l ∷ C) h = and_from (p l) (every p C) (h 0 (omega arith)) (every_by_places p C (λ k i. h (suc k) (omega arith)))

above_first : (l : ℕ) (C : List ℕ) → ((k : ℕ) → suc k < length (l ∷ C) → variable (get_or (l ∷ C) k 0) < variable (get_or (l ∷ C) (suc k) 0))
    → (k : ℕ) → k < length C → variable l < variable (get_or C k 0)
above_first l C h zero i = h 0 (omega arith)
above_first l C h (suc k) i =
    let a = above_first l C h k (omega arith) in
    let b : variable (get_or C k 0) < variable (get_or C (suc k) 0) = h (suc k) (omega arith) in
    omega arith

rising_by_places : (C : List ℕ) → ((k : ℕ) → suc k < length C → variable (get_or C k 0) < variable (get_or C (suc k) 0)) → rising C ≡ true
rising_by_places [] h = refl
rising_by_places (l ∷ C) h =
    and_from (every (λ m. ltb (variable l) (variable m)) C) (rising C)
    (every_by_places (λ m. ltb (variable l) (variable m)) C (λ k i. lt-ltb (variable l) (variable (get_or C k 0)) (above_first l C h k i)))
    (rising_by_places C (λ k i. h (suc k) (omega arith)))

-- codes whose variables rise from each place to the next are well formed
pub formed_by_places : (C : List ℕ) → ((k : ℕ) → k < length C → (2 ≤ get_or C k 0) × (get_or C k 0 ≤ 1025))
    → ((k : ℕ) → k + 1 < length C → variable (get_or C k 0) < variable (get_or C (k + 1) 0)) → formed C ≡ true
formed_by_places C c r =
    and_from (every is_code C) (rising C)
    (every_by_places is_code C (λ k h. code_from (get_or C k 0) (c k h).0 (c k h).1))
    (rising_by_places C (λ k h. rw add-one at (r k (omega arith))))

-- the first codes are as well formed
pub formed_take : (n : ℕ) (C : List ℕ) → formed C ≡ true → formed (take n C) ≡ true
formed_take n C f =
    formed_by_places (take n C)
    (λ k h. let w = within k h in rw (get_or-take n C k 0 w.0) (code_at_lem C f k w.1))
    (λ k h. let w = within (k + 1) h in let v : k < n = omega (arith, w.0) in rw (get_or-take n C k 0 v, get_or-take n C (k + 1) 0 w.0) (variables_rise C f k (k + 1) (omega arith) w.1))
  where
    within : (k : ℕ) → k < length (take n C) → (k < n) × (k < length C)
    within k h = let e = length-take n C in (omega arith, omega arith)
