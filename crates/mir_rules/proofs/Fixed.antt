-- What is defined of definitions to a depth of their number satisfies its own equation, in a crate in which none holds itself by value.
use Rattle.std.proofs.Common.{◌≡◌, refl, sym, ap, ap₂, ◌∙◌, subst, ℕ, zero, suc, Bool, true, false, ◌||◌, ◌==◌, List, [], ◌∷◌, length, Option, Some, None, is_some, slice_get, arith}
use Rattle.std.proofs.Common.{eqb-true, eq-eqb}
use Rattle.std.proofs.lemmas.Bool.{or_right, or_left}
use Rattle.mir_syntax.specs.Tree.{Tree, more, named}
use Rattle.mir_syntax.specs.Crate.{TypedDef, Crate}
use Rattle.mir_syntax.specs.Shapes.{Shape, shapes_from, shapes_of, needs_by, any_needs, needs_of, needs_def, needs_drop}
use Rattle.mir_syntax.proofs.Places.{shapes_from-past}
use Rattle.mir_rules.specs.DefinitionRules.{holds}
use Rattle.mir_rules.specs.Valid.{Valid}
use Rattle.mir_rules.proofs.Depth.{any_mono, is_deep, not_deep}
use Rattle.mir_rules.proofs.ValidCrates.{keeps}

-- a shape names a definition by value
abbrev pub Named : Shape → ℕ → Type 0
Named s k = any_needs (λ j. j == k) s.variants ≡ true

-- ---- any such definition

module _ (D : List Shape) (apart : (d : ℕ) → holds D (length D) d d ≡ false) {X : Type 0} (f : ℕ → ℕ → X) (step : ℕ → (ℕ → X) → Option Shape → X) (z : X) (base : (d : ℕ) → f 0 d ≡ z) (none : (d : ℕ) (g : ℕ → X) → step d g None ≡ z) (next : (n d : ℕ) → f (suc n) d ≡ step d (f n) (slice_get D d)) (by_named : (d : ℕ) (g h : ℕ → X) (s : Shape) → ((k : ℕ) → Named s k → g k ≡ h k) → step d g (Some s) ≡ step d h (Some s)) where
  not_deep_inside : (n k : ℕ) (s : Shape) → any_needs (is_deep D n) s.variants ≡ false → Named s k → is_deep D n k ≡ false
  not_deep_inside n k s shallow inside = go (is_deep D n k) refl
    where
      go : (b : Bool) → is_deep D n k ≡ b → b ≡ false
      go false e = refl
      go true e =
          let deep : any_needs (is_deep D n) s.variants ≡ true = any_mono (λ j. j == k) (is_deep D n) (λ j same. subst (λ i. is_deep D n i ≡ true) (sym (eqb-true j k same)) e) s.variants inside in
          absurd (let t : true ≡ false = sym deep ∙ shallow in grind arith)

  steady : (n d : ℕ) → is_deep D n d ≡ false → f n d ≡ f (suc n) d
  steady zero d shallow = go (slice_get D d) refl
    where
      go : (o : Option Shape) → slice_get D d ≡ o → f 0 d ≡ f 1 d
      go None e = base d ∙ sym (next 0 d ∙ ap (step d (f 0)) e ∙ none d (f 0))
      go (Some s) e = absurd (let t : true ≡ false = sym (ap is_some e) ∙ shallow in grind arith)
  steady (suc n) d shallow = next n d ∙ go (slice_get D d) refl (λ k. steady n k) ∙ sym (next (suc n) d)
    where
      go : (o : Option Shape) → slice_get D d ≡ o → ((k : ℕ) → is_deep D n k ≡ false → f n k ≡ f (suc n) k) → step d (f n) (slice_get D d) ≡ step d (f (suc n)) (slice_get D d)
      go None e inner = rw e (none d (f n) ∙ sym (none d (f (suc n))))
      go (Some s) e inner = rw e (by_named d (f n) (f (suc n)) s (λ k inside. inner k (not_deep_inside n k s (rw e at shallow) inside)))

  -- what holds of a definition, by what holds of those that it names
  pub fixed : (d : ℕ) → f (length D) d ≡ step d (f (length D)) (slice_get D d)
  fixed d = steady (length D) d (not_deep D apart d) ∙ next (length D) d

-- ---- in a valid crate no definition holds itself

holds_nothing : (D : List Shape) (n e d : ℕ) → slice_get D d ≡ None → holds D n e d ≡ false
holds_nothing D zero e d h = refl
holds_nothing D (suc n) e d h = rw h refl

pub apart_in : (C : Crate) → Valid C → (d : ℕ) → holds (shapes_of C) (length (shapes_of C)) d d ≡ false
unfolding shapes_of
apart_in C valid d = go (slice_get C.defs d) refl
  where
    go : (o : Option TypedDef) → slice_get C.defs d ≡ o → holds (shapes_from C.functions 0 C.defs) (length (shapes_from C.functions 0 C.defs)) d d ≡ false
    go None e = holds_nothing (shapes_from C.functions 0 C.defs) (length (shapes_from C.functions 0 C.defs)) d d (shapes_from-past C.functions 0 C.defs d e)
    go (Some def) e = (keeps C valid).defs d def e

-- ---- needs drop

module _ (g h : ℕ → Bool) where
  needs_by_named : (t : Tree) → ((k : ℕ) → needs_by (λ j. j == k) t ≡ true → g k ≡ h k) → needs_by g t ≡ needs_by h t
  needs_by_named (more t ts) same =
      ap₂ (λ a b. a || b) (needs_by_named t (λ k e. same k (or_left (needs_by (λ j. j == k) t) (needs_by (λ j. j == k) ts) e)))
      (needs_by_named ts (λ k e. same k (or_right (needs_by (λ j. j == k) t) (needs_by (λ j. j == k) ts) e)))
  needs_by_named (named d) same = same d (eq-eqb d d refl)
  needs_by_named t same = refl

  any_needs_named : (ts : List Tree) → ((k : ℕ) → any_needs (λ j. j == k) ts ≡ true → g k ≡ h k) → any_needs g ts ≡ any_needs h ts
  any_needs_named [] same = refl
  any_needs_named (t ∷ ts) same =
      ap₂ (λ a b. a || b) (needs_by_named t (λ k e. same k (or_left (needs_by (λ j. j == k) t) (any_needs (λ j. j == k) ts) e)))
      (any_needs_named ts (λ k e. same k (or_right (needs_by (λ j. j == k) t) (any_needs (λ j. j == k) ts) e)))

-- a definition needs drop where it has a destructor or a variant of it holds what needs drop
pub needs_drop_named : (D : List Shape) → ((d : ℕ) → holds D (length D) d d ≡ false) → (d : ℕ) → needs_drop D (named d) ≡ needs_of (λ k. needs_drop D (named k)) (slice_get D d)
unfolding needs_drop
needs_drop_named D apart d =
    fixed D apart (needs_def D) (λ k. needs_of) false (λ k. refl) (λ k g. refl) (λ n k. refl)
    (λ k g h s same. ap (λ b. is_some s.destructor || b) (any_needs_named g h s.variants same)) d
