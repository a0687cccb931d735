-- A constraint of a database by its number: its codes, that it is well formed, and that each may follow those before it. Assumes nothing.
use Rattle.std.proofs.Common.{◌≡◌, ℕ, zero, suc, ◌+◌, ◌<◌, true, ltb, List, ◌∷◌, ◌++◌, length, get_or, take, Ok, Err, sym, ap, ◌∙◌, arith}
use Rattle.std.proofs.lemmas.Bool.{cond-true, lt-ltb}
use Rattle.std.proofs.lemmas.List.{get_or-take, length-append, length-take-le}
use Rattle.std.proofs.Math.Seq.{take-append_seam, get_or-append_seam}
use Rattle.qbf.specs.Qbf.{In, variable, formed, is_code}
use Rattle.qbf.specs.Constraints.{last_variable, may_follow}
use Rattle.qbf.proofs.Formed.{code_at_lem, code_from, variables_rise, last_place}
use Rattle.database.proofs.Reading.{codes_formed}
use Rattle.calculus.specs.State.{constraint}

-- a constraint of a number is well formed where all are
pub constraint_formed : (T : List (List ℕ)) (n : ℕ) → ((C : List ℕ) → In C T → formed C ≡ true) → formed (constraint T n) ≡ true
constraint_formed T n f = codes_formed T n f

-- the first codes may be followed by the next
last_next : (C : List ℕ) (i : ℕ) → formed C ≡ true → i < length C → last_variable (take i C) < variable (get_or C i 0)
last_next C zero f h = let r = code_at_lem C f 0 h in let a = r.0 in omega arith
last_next C (suc j) f h =
    let l : length (take (suc j) C) ≡ suc j = length-take-le (suc j) C (omega arith) in
    let a = last_place (take (suc j) C) j 0 (omega arith) in
    let b : get_or (take (suc j) C) j 0 ≡ get_or C j 0 = get_or-take (suc j) C j 0 (omega arith) in
    let v : variable (get_or (take (suc j) C) j 0) ≡ variable (get_or C j 0) = ap variable b in
    let r = variables_rise C f j (suc j) (omega arith) h in
    omega arith

pub may_follow_lem : (C : List ℕ) (l : ℕ) → is_code l ≡ true → last_variable C < variable l → may_follow C l ≡ Ok tt
may_follow_lem C l c h = cond-true (is_code l) _ (Err _) c ∙ cond-true (ltb (last_variable C) (variable l)) (Ok tt) (Err _) (lt-ltb (last_variable C) (variable l) h)

next_follows : (C : List ℕ) (i : ℕ) → formed C ≡ true → i < length C → may_follow (take i C) (get_or C i 0) ≡ Ok tt
next_follows C i f h = let r = code_at_lem C f i h in may_follow_lem (take i C) (get_or C i 0) (code_from (get_or C i 0) r.0 r.1) (last_next C i f h)

-- the codes of a constraint may follow one another
follows : (out R : List ℕ) (x : ℕ) → formed (out ++ (x ∷ R)) ≡ true → may_follow out x ≡ Ok tt
follows out R x f =
    let l : length (out ++ (x ∷ R)) ≡ length out + suc (length R) = length-append out (x ∷ R) in
    let n = next_follows (out ++ (x ∷ R)) (length out) f (omega arith) in
    let t = take-append_seam out (x ∷ R) in
    let g = get_or-append_seam out x R 0 in
    cc

pub follows_here : (out S R C : List ℕ) (x : ℕ) → out ++ S ≡ C → S ≡ x ∷ R → formed C ≡ true → may_follow out x ≡ Ok tt
follows_here out S R C x e d f = follows out R x (sym (ap formed (sym e ∙ ap (λ (M : List ℕ). out ++ M) d)) ∙ f)
