-- What a lent constraint shows, as it stands or complemented. Assumes nothing.
use Rattle.std.proofs.Common.{◌≡◌, ℕ, zero, suc, ◌≤◌, Bool, true, false, not, List, ◌∷◌, map, length, Some, sym, refl, ap, ◌∙◌, subst, ⊎_elim, get_or, drop, ◌+◌, ◌<◌, arith}
use Rattle.std.proofs.lemmas.List.{length-map, drop_more, drop_all}
use Rattle.std.proofs.lemmas.Bool.{cases_lt}
use Rattle.qbf.specs.Qbf.{complement, formed}
use Rattle.std.specs.Option.{option_map}
use Rattle.std.proofs.lemmas.Option.{slice_get-map}
use Rattle.qbf.specs.Constraints.{code_at}
use Rattle.qbf.specs.Items.{item_at}
use Rattle.qbf.specs.Views.{shown, shown_code, codes_left}
use Rattle.qbf.specs.declared.view.codes.Codes.{Codes}
use Rattle.qbf.proofs.Formed.{code_at_lem}
use Rattle.qbf.proofs.Places.{item_code}
use Rattle.qbf.proofs.Complements.{complements_twice, formed_complement}

pub length_shown : (b : Bool) (C : List ℕ) → length (shown b C) ≡ length C
length_shown true C = length-map C complement
length_shown false C = refl

-- the code that is shown at a place
pub code_shown : (b : Bool) (C : List ℕ) (p x : ℕ) → Some x ≡ item_at C p → Some (shown_code b x) ≡ code_at (shown b C) p
code_shown true C zero x e = cc
code_shown true C (suc k) x e = ap (option_map complement) e ∙ sym (slice_get-map complement C k) ∙ item_code (map complement C) (suc k)
code_shown false C p x e = e ∙ item_code C p

pub shown_not : (b : Bool) (C : List ℕ) → shown (not b) C ≡ map complement (shown b C)
shown_not true C = sym (complements_twice C)
shown_not false C = refl

-- what is shown is well formed
pub formed_shown : (b : Bool) (C : List ℕ) → formed C ≡ true → formed (shown b C) ≡ true
formed_shown true C f = formed_complement C f
formed_shown false C f = f

-- the codes that an iterator has left are well formed, and the first is a code
pub formed_left : (s : Codes) → formed (codes_left s) ≡ true
formed_left s = formed_shown s.rest.complemented s.rest.codes.now s.rest.formed

pub code_left : (s : Codes) (x : ℕ) (C : List ℕ) → codes_left s ≡ x ∷ C → (2 ≤ x) × (x ≤ 1025)
code_left s x C e = code_at_lem (x ∷ C) (subst (λ (D : List ℕ). formed D ≡ true) e (formed_left s)) 0 (omega arith)

-- the code that comes after i codes, and what is left then
pub next_code : (C R : List ℕ) (i x : ℕ) → drop i C ≡ x ∷ R → (i < length C) × (x ≡ get_or C i 0) × (drop (i + 1) C ≡ R)
next_code C R i x e =
    ⊎_elim
    (λ (h : i < length C). let d = drop_more C i 0 h in (h, cc, cc))
    (λ (h : length C ≤ i). let d = drop_all i C h in let n : ⊥ = cc in absurd n)
    (cases_lt i (length C))
