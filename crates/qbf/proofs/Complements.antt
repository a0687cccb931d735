-- Constraints and tables with every code complemented. Assumes nothing.
use Rattle.std.proofs.Common.{◌≡◌, ℕ, ◌≤◌, Bool, true, ltb, leb, List, [], ◌∷◌, map, sym, refl, ◌∙◌, subst, ap₂, inl, inr, arith}
use Rattle.std.proofs.lemmas.Bool.{and_parts, and_from, leb-true}
use Rattle.qbf.specs.Qbf.{variable, complement, complemented, every, In, is_code, rising, formed}
use Rattle.qbf.proofs.Basics.{complement_variable, twice}
use Rattle.qbf.proofs.Formed.{code_from}

pub complements_twice : (C : List ℕ) → map complement (map complement C) ≡ C
complements_twice [] = refl
complements_twice (l ∷ C) = ap₂ ◌∷◌ (twice l) (complements_twice C)

pub complemented_twice : (T : List (List ℕ)) → complemented (complemented T) ≡ T
complemented_twice [] = refl
complemented_twice (C ∷ T) = ap₂ ◌∷◌ (complements_twice C) (complemented_twice T)

every_map : (p : ℕ → Bool) (q : ℕ → Bool) (C : List ℕ) → ((l : ℕ) → p l ≡ true → q (complement l) ≡ true) → every p C ≡ true → every q (map complement C) ≡ true
every_map p q [] h e = refl
every_map p q (l ∷ C) h e =
    let a = and_parts (p l) (every p C) e in
    and_from (q (complement l)) (every q (map complement C)) (h l a.0) (every_map p q C h a.1)

-- a number with the variable of a code is one
code_with : (l m : ℕ) → variable m ≡ variable l → 2 ≤ l → l ≤ 1025 → is_code m ≡ true
code_with l m e a b = code_from m (omega arith) (omega arith)

pub code_complement : (l : ℕ) → is_code l ≡ true → is_code (complement l) ≡ true
code_complement l e =
    let p = and_parts (leb 2 l) (leb l 1025) e in
    code_with l (complement l) (complement_variable l) (leb-true 2 l p.0) (leb-true l 1025 p.1)

rising_complement : (C : List ℕ) → rising C ≡ true → rising (map complement C) ≡ true
rising_complement [] r = refl
rising_complement (l ∷ C) r =
    let p = and_parts (every (λ m. ltb (variable l) (variable m)) C) (rising C) r in
    and_from (every (λ m. ltb (variable (complement l)) (variable m)) (map complement C)) (rising (map complement C))
    (every_map (λ m. ltb (variable l) (variable m)) (λ m. ltb (variable (complement l)) (variable m)) C
    (λ m e. ap₂ ltb (complement_variable l) (complement_variable m) ∙ e) p.0)
    (rising_complement C p.1)

-- the complements of a well formed constraint are well formed
pub formed_complement : (C : List ℕ) → formed C ≡ true → formed (map complement C) ≡ true
formed_complement C f =
    let p = and_parts (every is_code C) (rising C) f in
    and_from (every is_code (map complement C)) (rising (map complement C)) (every_map is_code is_code C code_complement p.0) (rising_complement C p.1)

pub formed_complemented : (T : List (List ℕ)) → ((C : List ℕ) → In C T → formed C ≡ true) → (C : List ℕ) → In C (complemented T) → formed C ≡ true
formed_complemented [] f C i = absurd i
formed_complemented (D ∷ T) f C (inl e) = subst (λ (E : List ℕ). formed E ≡ true) (sym e) (formed_complement D (f D (inl refl)))
formed_complemented (D ∷ T) f C (inr i) = formed_complemented T (λ E j. f E (inr j)) C i
