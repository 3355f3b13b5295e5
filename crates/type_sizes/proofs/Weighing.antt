-- What is measured is what the limits count.
use Rattle.std.proofs.Common.{◌≡◌, ℕ, zero, suc, ◌+◌, Bool, true, false, List, map, length, Option, None, Some, is_some, slice_get, refl, sym, ap, ap₂, ◌∙◌}
use Rattle.std.specs.Prelude.{sum_by}
use Rattle.std.proofs.Math.Path.{fun_ext}
use Rattle.std.proofs.lemmas.List.{length-append, length-map}
use Rattle.mir_syntax.specs.declared.body.Proj.{Proj}
use Rattle.mir_syntax.specs.Tree.{Tree, more, named}
use Rattle.mir_syntax.specs.Shapes.{Shape, first_variant, needs_drop}
use Rattle.mir_rules.specs.Weights.{nodes_by, nodes_of_variants, nodes_of, nodes_def, nodes, under, units_from, units_of_shape, units_of, units_def, units, counted, inside_by, inside_variants, inside_of, inside_def}
use Rattle.type_sizes.specs.declared.measure.Measure.TheVariants.{Nodes, Units, Inside}
use Rattle.type_sizes.specs.Measures.{size_by, shape_size, with_destructor, whole, level}

module _ (D : List Shape) where
  -- ---- nodes

  nodes_size : (g : ℕ → ℕ) (t : Tree) → size_by D Nodes g t ≡ nodes_by g t
  nodes_size g (more t ts) = ap₂ (λ a b. a + b) (nodes_size g t) (nodes_size g ts)
  nodes_size g (named d) = refl
  nodes_size g t = refl

  nodes_whole : (g : ℕ → ℕ) (needs : Bool) (o : Option Shape) → whole D Nodes g needs o ≡ nodes_of g o
  nodes_whole g needs None = refl
  nodes_whole g needs (Some s) = go s.is_enum
    where
      go : (b : Bool) → shape_size D Nodes g needs b s.variants ≡ nodes_of_variants g b s.variants
      go true = ap (λ (f : Tree → ℕ). suc (sum_by f s.variants)) (fun_ext (nodes_size g))
      go false = nodes_size g (first_variant s.variants)

  nodes_level : (n : ℕ) → level D Nodes n ≡ nodes_def D n
  nodes_level zero = fun_ext (λ d. refl)
  nodes_level (suc n) = fun_ext (λ d. ap (λ (f : ℕ → ℕ). whole D Nodes f (needs_drop D (named d)) (slice_get D d)) (nodes_level n) ∙ nodes_whole (nodes_def D n) (needs_drop D (named d)) (slice_get D d))

  pub nodes_are : (t : Tree) → size_by D Nodes (level D Nodes (length D)) t ≡ nodes D t
  unfolding nodes
  nodes_are t = nodes_size (level D Nodes (length D)) t ∙ ap (λ (f : ℕ → ℕ). nodes_by f t) (nodes_level (length D))

  -- ---- what is inside

  inside_size : (g : ℕ → ℕ) (t : Tree) → size_by D Inside g t ≡ inside_by D g t
  inside_size g (more t ts) = ap₂ (λ a b. counted (needs_drop D t) a + b) (inside_size g t) (inside_size g ts)
  inside_size g (named d) = refl
  inside_size g t = refl

  inside_whole : (g : ℕ → ℕ) (needs : Bool) (o : Option Shape) → whole D Inside g needs o ≡ inside_of D g o
  inside_whole g needs None = refl
  inside_whole g needs (Some s) = go s.is_enum
    where
      go : (b : Bool) → shape_size D Inside g needs b s.variants ≡ inside_variants D g b s.variants
      go true = ap (λ (f : Tree → ℕ). sum_by f s.variants) (fun_ext (λ t. ap (counted (needs_drop D t)) (inside_size g t)))
      go false = inside_size g (first_variant s.variants)

  inside_level : (n : ℕ) → level D Inside n ≡ inside_def D n
  inside_level zero = fun_ext (λ d. refl)
  inside_level (suc n) = fun_ext (λ d. ap (λ (f : ℕ → ℕ). whole D Inside f (needs_drop D (named d)) (slice_get D d)) (inside_level n) ∙ inside_whole (inside_def D n) (needs_drop D (named d)) (slice_get D d))

  pub inside_are : (t : Tree) → size_by D Inside (level D Inside (length D)) t ≡ inside_by D (inside_def D (length D)) t
  inside_are t = inside_size (level D Inside (length D)) t ∙ ap (λ (f : ℕ → ℕ). inside_by D f t) (inside_level (length D))

  -- ---- units of drop

  units_size : (g : ℕ → List (List Proj)) (i : ℕ) (t : Tree) → size_by D Units (λ d. length (g d)) t ≡ length (units_from g i t)
  units_size g i (more t ts) =
      ap₂ (λ a b. a + b) (units_size g 0 t ∙ sym (length-map (units_from g 0 t) (under i))) (units_size g (suc i) ts) ∙ sym (length-append (map (under i) (units_from g 0 t)) (units_from g (suc i) ts))
  units_size g i (named d) = refl
  units_size g i t = refl

  units_whole : (g : ℕ → List (List Proj)) (needs : Bool) (o : Option Shape) → whole D Units (λ d. length (g d)) needs o ≡ length (units_of g needs o)
  units_whole g needs None = refl
  units_whole g needs (Some s) = go (is_some s.destructor) s.is_enum needs
    where
      go : (a b needs : Bool) → with_destructor Units a (shape_size D Units (λ d. length (g d)) needs b s.variants) ≡ length (units_of_shape g needs a (record s { is_enum = b }))
      go true b needs = refl
      go false true true = refl
      go false true false = refl
      go false false needs = units_size g 0 (first_variant s.variants)

  units_level : (n : ℕ) → level D Units n ≡ (λ (d : ℕ). length (units_def D n d))
  units_level zero = fun_ext (λ d. refl)
  units_level (suc n) = fun_ext (λ d. ap (λ (f : ℕ → ℕ). whole D Units f (needs_drop D (named d)) (slice_get D d)) (units_level n) ∙ units_whole (units_def D n) (needs_drop D (named d)) (slice_get D d))

  pub units_are : (t : Tree) → size_by D Units (level D Units (length D)) t ≡ length (units D t)
  unfolding units
  units_are t = ap (λ (f : ℕ → ℕ). size_by D Units f t) (units_level (length D)) ∙ units_size (units_def D (length D)) 0 t
