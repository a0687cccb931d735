-- The pass over two constraints that joins them, step by step. Assumes nothing.
use Rattle.std.proofs.Common.{◌≡◌, ℕ, ◌<◌, ◌⊎◌, Bool, true, false, cond, not, eqb, leb, List, [], ◌∷◌, ◌++◌, slice_get, Some, Ok, sym, refl, ap, ◌∙◌, subst, ⊎_elim, arith}
use Rattle.std.proofs.lemmas.Bool.{and_parts, or_parts, both_ways, eqb-true, cases_Bool, leb-true}
use Rattle.std.proofs.lemmas.List.{append_assoc, append-nil}
use Rattle.qbf.specs.Qbf.{In, variable, complement, has, every, is_code, rising, formed, resolve}
use Rattle.qbf.specs.Constraints.{last_variable, may_follow}
use Rattle.qbf.proofs.Basics.{every_in, has_head, has_tail}
use Rattle.qbf.proofs.Learned.{rising_parts}
use Rattle.database.specs.Codes.{codes_at}
use Rattle.calculus.specs.State.{constraint, second_clash}
use Rattle.operations.specs.Fronts.{Steps, Before}
use Rattle.operations.specs.declared.merge.Front.{Front}
use Rattle.operations.specs.declared.merge.Front.TheVariants.{Left, Right, Both, Opposite}
use Rattle.operations.proofs.ByNumber.{constraint_formed, may_follow_lem}
use Rattle.operations.proofs.Trims.{formed_rising}
use Rattle.operations.proofs.Joined.{Above, above_all, opposed, isnt, kept, opposed_left, opposed_right, opposed_both, opposed_opposite, resolve_left, resolve_right, resolve_both, resolve_opposite}

-- each code of X can be appended
abbrev Fits : List ℕ → List ℕ → Type 0
Fits out X = (m : ℕ) → has X m ≡ true → (last_variable out < variable m) × (is_code m ≡ true)

-- with X and Y left and no other variable in them that clashes, the pass ends with Z
pub record Pass (x : ℕ) (out X Y Z : List ℕ) : Type 0 where
  pub up_x : rising X ≡ true
  pub up_y : rising Y ≡ true
  pub fit_x : Fits out X
  pub fit_y : Fits out Y
  pub alone : opposed (isnt x) X Y ≡ false
  pub ends : out ++ resolve X Y x ≡ Z

last_push : (out : List ℕ) (c : ℕ) → last_variable (out ++ (c ∷ [])) ≡ variable c
last_push [] c = refl
last_push (m ∷ []) c = refl
last_push (m ∷ n ∷ out) c = last_push (n ∷ out) c

fits_kept : (x : ℕ) (out : List ℕ) (c : ℕ) (X : List ℕ) → Fits out X → Above (variable c) X → Fits (out ++ kept x c) X
fits_kept x out c X f g m h = go (eqb (variable c) x)
  where
    go : (b : Bool) → (last_variable (out ++ cond (not b) (c ∷ []) []) < variable m) × (is_code m ≡ true)
    go true = subst (λ (o : List ℕ). (last_variable o < variable m) × (is_code m ≡ true)) (sym (append-nil out)) (f m h)
    go false = (let e = last_push out c in let z = g m h in omega arith, (f m h).1)

fits_tail : (out : List ℕ) (c : ℕ) (X : List ℕ) → Fits out (c ∷ X) → Fits out X
fits_tail out c X f m h = f m (has_tail c m X h)

-- out after the code c was handed to `keep`
abbrev pub Kept : ℕ → List ℕ → ℕ → List ℕ → Type 0
Kept x out c out' = may_follow out c ≡ Ok tt → out' ≡ out ++ kept x c

was_kept : (x : ℕ) (out : List ℕ) (c : ℕ) (out' X : List ℕ) → Fits out (c ∷ X) → Kept x out c out' → out' ≡ out ++ kept x c
was_kept x out c out' X f k = let z = f c (has_head c X) in k (may_follow_lem out c z.1 z.0)

grown : (x : ℕ) (out : List ℕ) (c : ℕ) (R S : List ℕ) → S ≡ kept x c ++ R → (out ++ kept x c) ++ R ≡ out ++ S
grown x out c R S e = append_assoc out (kept x c) R ∙ ap (λ (T : List ℕ). out ++ T) (sym e)

module _ (x : ℕ) (out : List ℕ) (c : ℕ) (X Y Z : List ℕ) where
  left_at : Pass x out (c ∷ X) Y Z → Before c (slice_get Y 0) → Pass x (out ++ kept x c) X Y Z
  left_at s b =
      let r = rising_parts c X s.up_x in
      let f = r.0 in
      let g = above_all c Y s.up_y b in
      record {
        up_x = r.1;
        up_y = s.up_y;
        fit_x = fits_kept x out c X (fits_tail out c X s.fit_x) f;
        fit_y = fits_kept x out c Y s.fit_y g;
        alone = sym (opposed_left (isnt x) c X Y g) ∙ s.alone;
        ends = grown x out c (resolve X Y x) (resolve (c ∷ X) Y x) (resolve_left x c X Y f g) ∙ s.ends;
      }

  right_at : Pass x out X (c ∷ Y) Z → Before c (slice_get X 0) → Pass x (out ++ kept x c) X Y Z
  right_at s b =
      let r = rising_parts c Y s.up_y in
      let g = r.0 in
      let f = above_all c X s.up_x b in
      record {
        up_x = s.up_x;
        up_y = r.1;
        fit_x = fits_kept x out c X s.fit_x f;
        fit_y = fits_kept x out c Y (fits_tail out c Y s.fit_y) g;
        alone = sym (opposed_right (isnt x) X c Y f) ∙ s.alone;
        ends = grown x out c (resolve X Y x) (resolve X (c ∷ Y) x) (resolve_right x X c Y f) ∙ s.ends;
      }

  both_at : Pass x out (c ∷ X) (c ∷ Y) Z → Pass x (out ++ kept x c) X Y Z
  both_at s =
      let r = rising_parts c X s.up_x in
      let t = rising_parts c Y s.up_y in
      record {
        up_x = r.1;
        up_y = t.1;
        fit_x = fits_kept x out c X (fits_tail out c X s.fit_x) r.0;
        fit_y = fits_kept x out c Y (fits_tail out c Y s.fit_y) t.0;
        alone = sym (opposed_both (isnt x) c X Y r.0 t.0) ∙ s.alone;
        ends = grown x out c (resolve X Y x) (resolve (c ∷ X) (c ∷ Y) x) (resolve_both x c X Y r.0) ∙ s.ends;
      }

  opposite_at : Pass x out (c ∷ X) (complement c ∷ Y) Z → Pass x out X Y Z
  opposite_at s =
      let r = rising_parts c X s.up_x in
      let t = rising_parts (complement c) Y s.up_y in
      let o = or_parts (isnt x (variable c)) (opposed (isnt x) X Y) (sym (opposed_opposite (isnt x) c X Y r.0) ∙ s.alone) in
      let e : variable c ≡ x = ⊎_elim (λ i. eqb-true (variable c) x i) (λ i. absurd (both_ways (isnt x (variable c)) o.0 (ap not i))) (cases_Bool (eqb (variable c) x)) in
      record {
        up_x = r.1;
        up_y = t.1;
        fit_x = fits_tail out c X s.fit_x;
        fit_y = fits_tail out (complement c) Y s.fit_y;
        alone = o.1;
        ends = ap (λ (T : List ℕ). out ++ T) (sym (resolve_opposite x c X Y e)) ∙ s.ends;
      }

-- where no other variable clashes, the rest of the pass ends with what resolving makes
abbrev pub Passing : ℕ → List ℕ → List ℕ → List ℕ → List ℕ → List ℕ → Type 0
Passing x out X Y C D = second_clash C D x ≡ false → Pass x out X Y (resolve C D x)

fits_none : (out C : List ℕ) → out ≡ [] → formed C ≡ true → Fits out C
fits_none out C e f m h =
    let c = every_in is_code C m (and_parts (every is_code C) (rising C) f).0 h in
    let a = leb-true 2 m (and_parts (leb 2 m) (leb m 1025) c).0 in
    (subst (λ (o : List ℕ). last_variable o < variable m) (sym e) (omega arith), c)

pub passing : (x : ℕ) (out C : List ℕ) (T : List (List ℕ)) (n : ℕ) → out ≡ [] → formed C ≡ true → ((D : List ℕ) → In D T → formed D ≡ true) → Passing x out C (codes_at T n) C (constraint T n)
passing x out C T n e f g a =
    let D = constraint T n in
    let k = constraint_formed T n g in
    record {
      up_x = formed_rising C f;
      up_y = formed_rising D k;
      fit_x = fits_none out C e f;
      fit_y = fits_none out D e k;
      alone = a;
      ends = ap (λ (o : List ℕ). o ++ resolve C D x) e;
    }

module _ (x : ℕ) (out X Y M N C D : List ℕ) (s : Passing x out X Y C D) where
  moved : (X' Y' : List ℕ) → X ≡ X' → Y ≡ Y' → Passing x out X' Y' C D
  moved X' Y' e g = subst (λ (Y : List ℕ). Passing x out X' Y C D) g (subst (λ (X : List ℕ). Passing x out X Y C D) e s)

  -- c goes to the end of out, which is then out'
  module _ (c : ℕ) (out' : List ℕ) (k : Kept x out c out') where
    put : (Z : List ℕ) → Fits out (c ∷ Z) → Pass x (out ++ kept x c) M N (resolve C D x) → Pass x out' M N (resolve C D x)
    put Z f = subst (λ (o : List ℕ). Pass x o M N (resolve C D x)) (sym (was_kept x out c out' Z f k))

    pass_left : Steps X Y (Some (Left c)) M N → Passing x out' M N C D
    pass_left h e = let p = moved (c ∷ M) N h.0 h.1 e in put M p.fit_x (left_at x out c M N _ p h.2)

    pass_right : Steps X Y (Some (Right c)) M N → Passing x out' M N C D
    pass_right h e = let p = moved M (c ∷ N) h.0 h.1 e in put N p.fit_y (right_at x out c M N _ p h.2)

    pass_both : Steps X Y (Some (Both c)) M N → Passing x out' M N C D
    pass_both h e = let p = moved (c ∷ M) (c ∷ N) h.0 h.1 e in put M p.fit_x (both_at x out c M N _ p)

    pub pass_kept : (r : Front) → Steps X Y (Some r) M N → (r ≡ Left c) ⊎ ((r ≡ Right c) ⊎ (r ≡ Both c)) → Passing x out' M N C D
    pass_kept r h o =
        let P : Front → Type 0 = λ r. Steps X Y (Some r) M N in
        ⊎_elim (λ e. pass_left (subst P e h)) (λ o. ⊎_elim (λ e. pass_right (subst P e h)) (λ e. pass_both (subst P e h)) o) o

  pub pass_opposite : (r : Front) (c : ℕ) → Steps X Y (Some r) M N → r ≡ Opposite c → Passing x out M N C D
  pass_opposite r c h o e = let i = subst (λ r. Steps X Y (Some r) M N) o h in opposite_at x out c M N _ (moved (c ∷ M) (complement c ∷ N) i.0 i.1 e)
