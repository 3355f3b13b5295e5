-- The size of a definition by the sizes of those that it names, in a crate in which none holds itself by value.
use Rattle.std.proofs.Common.{◌≡◌, refl, ap, ap₂, ◌∙◌, ℕ, suc, ◌+◌, Bool, true, false, ◌==◌, List, [], ◌∷◌, ◌++◌, map, length, is_some, slice_get, arith}
use Rattle.std.proofs.Common.{eq-eqb}
use Rattle.std.specs.Prelude.{fold}
use Rattle.std.proofs.lemmas.Bool.{or_right, or_left}
use Rattle.mir_syntax.specs.declared.body.Proj.{Proj}
use Rattle.mir_syntax.specs.Tree.{Tree, empty, more, named}
use Rattle.mir_syntax.specs.Shapes.{Shape, first_variant, needs_by, any_needs, needs_drop}
use Rattle.mir_rules.specs.DefinitionRules.{holds}
use Rattle.mir_rules.specs.Weights.{nodes_by, nodes_of_variants, nodes_of, nodes_def, nodes, under, units_from, units_of_parts, units_of_shape, units_of, units_def, units, counted, inside_by, variant_weight, inside_variants, inside_of, inside_def}
use Rattle.mir_rules.proofs.Fixed.{fixed}

-- a type names a definition by value
abbrev pub NamedIn : Tree → ℕ → Type 0
NamedIn t k = needs_by (λ j. j == k) t ≡ true

abbrev pub NamedAmong : List Tree → ℕ → Type 0
NamedAmong ts k = any_needs (λ j. j == k) ts ≡ true

in_first : (t : Tree) (ts : List Tree) (k : ℕ) → NamedIn t k → NamedAmong (t ∷ ts) k
in_first t ts k e = or_left (needs_by (λ j. j == k) t) (any_needs (λ j. j == k) ts) e

in_others : (t : Tree) (ts : List Tree) (k : ℕ) → NamedAmong ts k → NamedAmong (t ∷ ts) k
in_others t ts k e = or_right (needs_by (λ j. j == k) t) (any_needs (λ j. j == k) ts) e

-- of the first variant and of the sum over all
module _ {X : Type 0} (g h : ℕ → X) where
  first_same : (by : (ℕ → X) → Tree → ℕ) → ((t : Tree) → ((k : ℕ) → NamedIn t k → g k ≡ h k) → by g t ≡ by h t) → (ts : List Tree) → ((k : ℕ) → NamedAmong ts k → g k ≡ h k) → by g (first_variant ts) ≡ by h (first_variant ts)
  first_same by alike [] same = alike empty (λ k e. absurd (grind arith))
  first_same by alike (t ∷ ts) same = alike t (λ k e. same k (in_first t ts k e))

  sum_same : (by : (ℕ → X) → Tree → ℕ) → ((t : Tree) → ((k : ℕ) → NamedIn t k → g k ≡ h k) → by g t ≡ by h t) → (n : ℕ) (ts : List Tree) → ((k : ℕ) → NamedAmong ts k → g k ≡ h k) → fold (λ a t. a + by g t) n ts ≡ fold (λ a t. a + by h t) n ts
  sum_same by alike n [] same = refl
  sum_same by alike n (t ∷ ts) same =
      ap (λ m. fold (λ a u. a + by g u) (n + m) ts) (alike t (λ k e. same k (in_first t ts k e)))
      ∙ sum_same by alike (n + by h t) ts (λ k e. same k (in_others t ts k e))

-- ---- nodes

module _ (g h : ℕ → ℕ) where
  nodes_same : (t : Tree) → ((k : ℕ) → NamedIn t k → g k ≡ h k) → nodes_by g t ≡ nodes_by h t
  nodes_same (more t ts) same =
      ap₂ (λ a b. a + b) (nodes_same t (λ k e. same k (or_left (needs_by (λ j. j == k) t) (needs_by (λ j. j == k) ts) e)))
      (nodes_same ts (λ k e. same k (or_right (needs_by (λ j. j == k) t) (needs_by (λ j. j == k) ts) e)))
  nodes_same (named d) same = same d (eq-eqb d d refl)
  nodes_same t same = refl

nodes_variants_same : (g h : ℕ → ℕ) (b : Bool) (ts : List Tree) → ((k : ℕ) → NamedAmong ts k → g k ≡ h k) → nodes_of_variants g b ts ≡ nodes_of_variants h b ts
nodes_variants_same g h true ts same = ap suc (sum_same g h (λ f t. nodes_by f t) (nodes_same g h) 0 ts same)
nodes_variants_same g h false ts same = first_same g h (λ f t. nodes_by f t) (nodes_same g h) ts same

-- ---- drop weights

module _ (D : List Shape) (g h : ℕ → ℕ) where
  inside_same : (t : Tree) → ((k : ℕ) → NamedIn t k → g k ≡ h k) → inside_by D g t ≡ inside_by D h t
  inside_same (more t ts) same =
      ap₂ (λ a b. counted (needs_drop D t) a + b) (inside_same t (λ k e. same k (or_left (needs_by (λ j. j == k) t) (needs_by (λ j. j == k) ts) e)))
      (inside_same ts (λ k e. same k (or_right (needs_by (λ j. j == k) t) (needs_by (λ j. j == k) ts) e)))
  inside_same (named d) same = same d (eq-eqb d d refl)
  inside_same t same = refl

  inside_variants_same : (b : Bool) (ts : List Tree) → ((k : ℕ) → NamedAmong ts k → g k ≡ h k) → inside_variants D g b ts ≡ inside_variants D h b ts
  inside_variants_same true ts same = sum_same g h (λ f t. variant_weight D f t) (λ t k. ap (counted (needs_drop D t)) (inside_same t k)) 0 ts same
  inside_variants_same false ts same = first_same g h (λ f t. inside_by D f t) inside_same ts same

-- ---- units of drop

module _ (g h : ℕ → List (List Proj)) where
  units_same : (i : ℕ) (t : Tree) → ((k : ℕ) → NamedIn t k → g k ≡ h k) → units_from g i t ≡ units_from h i t
  units_same i (more t ts) same =
      ap₂ (λ a b. map (under i) a ++ b) (units_same 0 t (λ k e. same k (or_left (needs_by (λ j. j == k) t) (needs_by (λ j. j == k) ts) e)))
      (units_same (suc i) ts (λ k e. same k (or_right (needs_by (λ j. j == k) t) (needs_by (λ j. j == k) ts) e)))
  units_same i (named d) same = same d (eq-eqb d d refl)
  units_same i t same = refl

  units_parts_same : (needs b : Bool) (ts : List Tree) → ((k : ℕ) → NamedAmong ts k → g k ≡ h k) → units_of_parts g needs b ts ≡ units_of_parts h needs b ts
  units_parts_same needs true ts same = refl
  units_parts_same needs false [] same = refl
  units_parts_same needs false (t ∷ ts) same = units_same 0 t (λ k e. same k (in_first t ts k e))

  units_shape_same : (needs b : Bool) (s : Shape) → ((k : ℕ) → NamedAmong s.variants k → g k ≡ h k) → units_of_shape g needs b s ≡ units_of_shape h needs b s
  units_shape_same needs true s same = refl
  units_shape_same needs false s same = units_parts_same needs s.is_enum s.variants same

-- ---- a definition by those that it names

module _ (D : List Shape) (apart : (d : ℕ) → holds D (length D) d d ≡ false) where
  pub nodes_named : (d : ℕ) → nodes D (named d) ≡ nodes_of (λ k. nodes D (named k)) (slice_get D d)
  unfolding nodes
  nodes_named d = fixed D apart (nodes_def D) (λ k. nodes_of) 1 (λ k. refl) (λ k g. refl) (λ n k. refl) (λ k g h s same. nodes_variants_same g h s.is_enum s.variants same) d

  pub units_named : (d : ℕ) → units D (named d) ≡ units_of (λ k. units D (named k)) (needs_drop D (named d)) (slice_get D d)
  unfolding units
  units_named d = fixed D apart (units_def D) (λ k f. units_of f (needs_drop D (named k))) [] (λ k. refl) (λ k g. refl) (λ n k. refl) (λ k g h s same. units_shape_same g h (needs_drop D (named k)) (is_some s.destructor) s same) d

  -- what a definition's parts weigh
  pub inside_named : (d : ℕ) → inside_def D (length D) d ≡ inside_of D (inside_def D (length D)) (slice_get D d)
  inside_named d = fixed D apart (inside_def D) (λ k. inside_of D) 0 (λ k. refl) (λ k g. refl) (λ n k. refl) (λ k g h s same. inside_variants_same D g h s.is_enum s.variants same) d
