-- The pass over two constraints that only looks, step by step. Assumes nothing.
use Rattle.std.proofs.Common.{◌≡◌, ℕ, Bool, true, false, not, ◌||◌, List, ◌∷◌, slice_get, Some, sym, refl, ap, ◌∙◌, subst}
use Rattle.std.proofs.lemmas.Bool.{eq-eqb, ne_eqb}
use Rattle.qbf.specs.Qbf.{In, variable, complement, rising, formed}
use Rattle.qbf.proofs.Learned.{rising_parts}
use Rattle.database.specs.Codes.{codes_at}
use Rattle.calculus.specs.State.{constraint, clash, second_clash}
use Rattle.operations.specs.Fronts.{Before, Steps}
use Rattle.operations.specs.declared.merge.Front.{Front}
use Rattle.operations.specs.declared.merge.Front.TheVariants.{Left, Right, Both, Opposite}
use Rattle.operations.proofs.ByNumber.{constraint_formed}
use Rattle.operations.proofs.Trims.{formed_rising}
use Rattle.operations.proofs.Joined.{or_more, or_none, or_yes, opposed, is, isnt, clash_is, above_all, opposed_left, opposed_right, opposed_both, opposed_opposite}

-- p and what f finds in the rest is P, and q and what g finds is Q
pub record Look (f g : ℕ → Bool) (p q : Bool) (X Y : List ℕ) (P Q : Bool) : Type 0 where
  pub up_x : rising X ≡ true
  pub up_y : rising Y ≡ true
  pub first : (p || opposed f X Y) ≡ P
  pub other : (q || opposed g X Y) ≡ Q

module _ (f g : ℕ → Bool) (p q P Q : Bool) (c : ℕ) (M N : List ℕ) where
  look_left : Before c (slice_get N 0) → Look f g p q (c ∷ M) N P Q → Look f g p q M N P Q
  look_left b s =
      let r = rising_parts c M s.up_x in
      let a = above_all c N s.up_y b in
      record { up_x = r.1; up_y = s.up_y; first = ap (λ b. p || b) (sym (opposed_left f c M N a)) ∙ s.first; other = ap (λ b. q || b) (sym (opposed_left g c M N a)) ∙ s.other }

  look_right : Before c (slice_get M 0) → Look f g p q M (c ∷ N) P Q → Look f g p q M N P Q
  look_right b s =
      let r = rising_parts c N s.up_y in
      let a = above_all c M s.up_x b in
      record { up_x = s.up_x; up_y = r.1; first = ap (λ b. p || b) (sym (opposed_right f M c N a)) ∙ s.first; other = ap (λ b. q || b) (sym (opposed_right g M c N a)) ∙ s.other }

  look_both : Look f g p q (c ∷ M) (c ∷ N) P Q → Look f g p q M N P Q
  look_both s =
      let r = rising_parts c M s.up_x in
      let o = rising_parts c N s.up_y in
      record { up_x = r.1; up_y = o.1; first = ap (λ b. p || b) (sym (opposed_both f c M N r.0 o.0)) ∙ s.first; other = ap (λ b. q || b) (sym (opposed_both g c M N r.0 o.0)) ∙ s.other }

  look_opposite : Look f g p q (c ∷ M) (complement c ∷ N) P Q → Look f g (p || f (variable c)) (q || g (variable c)) M N P Q
  look_opposite s =
      let r = rising_parts c M s.up_x in
      let o = rising_parts (complement c) N s.up_y in
      record {
        up_x = r.1;
        up_y = o.1;
        first = or_more p (f (variable c)) (opposed f M N) ∙ ap (λ b. p || b) (sym (opposed_opposite f c M N r.0)) ∙ s.first;
        other = or_more q (g (variable c)) (opposed g M N) ∙ ap (λ b. q || b) (sym (opposed_opposite g c M N r.0)) ∙ s.other;
      }

-- what was found so far and what the rest gives are the two clashes
abbrev pub Looking : ℕ → Bool → Bool → List ℕ → List ℕ → List ℕ → List ℕ → Type 0
Looking x p q X Y C D = Look (is x) (isnt x) p q X Y (clash C D x) (second_clash C D x)

pub looking : (x : ℕ) (C : List ℕ) (T : List (List ℕ)) (n : ℕ) → formed C ≡ true → ((D : List ℕ) → In D T → formed D ≡ true) → Looking x false false C (codes_at T n) C (constraint T n)
looking x C T n f g =
    let D = constraint T n in
    record { up_x = formed_rising C f; up_y = formed_rising D (constraint_formed T n g); first = clash_is C D x; other = refl }

module _ (x : ℕ) (p q : Bool) (X Y M N C D : List ℕ) (s : Looking x p q X Y C D) where
  moved : (X' Y' : List ℕ) → X ≡ X' → Y ≡ Y' → Looking x p q X' Y' C D
  moved X' Y' e g = subst (λ (Y : List ℕ). Looking x p q X' Y C D) g (subst (λ (X : List ℕ). Looking x p q X Y C D) e s)

  pub look_past : (r : Front) → Steps X Y (Some r) M N → ((c : ℕ) → r ≡ Opposite c → ⊥) → Looking x p q M N C D
  look_past (Left c) h n = look_left (is x) (isnt x) p q _ _ c M N h.2 (moved (c ∷ M) N h.0 h.1)
  look_past (Right c) h n = look_right (is x) (isnt x) p q _ _ c M N h.2 (moved M (c ∷ N) h.0 h.1)
  look_past (Both c) h n = look_both (is x) (isnt x) p q _ _ c M N (moved (c ∷ M) (c ∷ N) h.0 h.1)
  look_past (Opposite c) h n = absurd (n c refl)

  clashing : (c : ℕ) (p' q' : Bool) → Steps X Y (Some (Opposite c)) M N → (p || is x (variable c)) ≡ p' → (q || isnt x (variable c)) ≡ q' → Looking x p' q' M N C D
  clashing c p' q' h e g =
      let l = look_opposite (is x) (isnt x) p q _ _ c M N (moved (c ∷ M) (complement c ∷ N) h.0 h.1) in
      subst (λ (z : Bool). Looking x p' z M N C D) g (subst (λ (z : Bool). Looking x z (q || isnt x (variable c)) M N C D) e l)

  -- r is the code c with its complement, and v the variable of c
  module _ (r : Front) (c v : ℕ) (h : Steps X Y (Some r) M N) (o : r ≡ Opposite c) (w : v ≡ variable c) where
    pub look_pivot : v ≡ x → Looking x true q M N C D
    look_pivot e = let i = eq-eqb (variable c) x (sym w ∙ e) in clashing c true q (subst (λ r. Steps X Y (Some r) M N) o h) (ap (λ z. p || z) i ∙ or_yes p) (ap (λ z. q || not z) i ∙ or_none q)

    pub look_second : (v ≡ x → ⊥) → Looking x p true M N C D
    look_second e = let i = ne_eqb (variable c) x (λ z. e (w ∙ z)) in clashing c p true (subst (λ r. Steps X Y (Some r) M N) o h) (ap (λ z. p || z) i ∙ or_none p) (ap (λ z. q || not z) i ∙ or_yes q)
