-- What is visited weighs less than the place that holds it: the number that falls where the target stands still.
use Rattle.std.proofs.Common.{◌≡◌, refl, sym, ap, ◌∙◌, subst, ℕ, zero, suc, ◌+◌, ◌<◌, ◌≤◌, Bool, true, false, if◌then◌else◌, List, [], ◌∷◌, ◌++◌, length, Option, Some, None, slice_get, arith}
use Rattle.std.specs.Prelude.{sum_by}
use Rattle.std.proofs.lemmas.List.Sums.{sum_by-cons}
use Rattle.mir_syntax.specs.declared.body.Proj.TheVariants.{Downcast}
use Rattle.mir_syntax.specs.Tree.{Tree, scalar, empty, more, named}
use Rattle.mir_syntax.specs.Tree as tree
use Rattle.mir_syntax.specs.Shapes.{Shape, first_variant, struct_fields}
use Rattle.mir_rules.specs.DefinitionRules.{holds}
use Rattle.mir_rules.specs.Weights.{nodes_by, nodes_of_variants, nodes_of, nodes_def, nodes}
use Rattle.mir_rules.proofs.FixedWeights.{nodes_named}
use Rattle.mir_semantics.specs.Values.{Addr, Value, variant}
use Rattle.mir_semantics.specs.Memory.{further}
use Rattle.mir_semantics.specs.Step.{Visit, field_visits, variant_visits, enum_visits, shape_visits, visits_of}
use Rattle.drop_elab.proofs.refines.Items.{IsTuple, Proper, ProperShapes}

-- how much is left to visit
abbrev pub weigh : List Shape → List Visit → ℕ
weigh D [] = 0
weigh D (i ∷ is) = nodes D i.ty + weigh D is

pub weigh_append : (D : List Shape) (xs ys : List Visit) → weigh D (xs ++ ys) ≡ weigh D xs + weigh D ys
weigh_append D [] ys = omega arith
weigh_append D (x ∷ xs) ys = let e = weigh_append D xs ys in omega (arith, e)

some_nodes : (of_def : ℕ → ℕ) → ((d : ℕ) → 0 < of_def d) → (t : Tree) → 0 < nodes_by of_def t
some_nodes of_def h (more t ts) = let a = some_nodes of_def h t in omega (arith, a)
some_nodes of_def h (named d) = h d
some_nodes of_def h (scalar s) = omega arith
some_nodes of_def h empty = omega arith
some_nodes of_def h (tree.ref t) = omega arith
some_nodes of_def h (tree.ref_mut t) = omega arith

some_variants : (of_def : ℕ → ℕ) → ((d : ℕ) → 0 < of_def d) → (b : Bool) (ts : List Tree) → 0 < nodes_of_variants of_def b ts
some_variants of_def h true ts = omega arith
some_variants of_def h false [] = omega arith
some_variants of_def h false (t ∷ ts) = some_nodes of_def h t

some_def : (D : List Shape) (n d : ℕ) → 0 < nodes_def D n d
some_def D zero d = omega arith
some_def D (suc n) d = go (slice_get D d) (λ k. some_def D n k)
  where
    go : (o : Option Shape) → ((k : ℕ) → 0 < nodes_def D n k) → 0 < nodes_of (nodes_def D n) o
    go None h = omega arith
    go (Some s) h = some_variants (nodes_def D n) h s.is_enum s.variants

pub nodes_there : (D : List Shape) (t : Tree) → 0 < nodes D t
unfolding nodes
nodes_there D t = some_nodes (nodes_def D (length D)) (λ k. some_def D (length D) k) t

module _ (D : List Shape) (apart : (d : ℕ) → holds D (length D) d d ≡ false) (proper : ProperShapes D) where
  pub weigh_fields : (a : Addr) (n : ℕ) (t : Tree) → IsTuple t → Proper t → weigh D (field_visits a n t) < nodes D t
  unfolding nodes
  weigh_fields a n empty h p = omega arith
  weigh_fields a n (more t ts) h p = let l = weigh_fields a (suc n) ts p.1 p.2 in omega (arith, l)
  weigh_fields a n (scalar s) h p = absurd h
  weigh_fields a n (tree.ref t) h p = absurd h
  weigh_fields a n (tree.ref_mut t) h p = absurd h
  weigh_fields a n (named d) h p = absurd h

  one_of_sum : (g : Tree → ℕ) (ts : List Tree) (k : ℕ) (t : Tree) → slice_get ts k ≡ Some t → g t ≤ sum_by g ts
  one_of_sum g [] k t e = absurd (grind arith)
  one_of_sum g (u ∷ ts) zero t e = let q : u ≡ t = grind arith in let z : g u ≡ g t = ap g q in omega (arith, z, sum_by-cons g u ts)
  one_of_sum g (u ∷ ts) (suc k) t e = let l = one_of_sum g ts k t e in omega (arith, l, sum_by-cons g u ts)

  struct_weighs : (s : Shape) (d : ℕ) → slice_get D d ≡ Some s → s.is_enum ≡ false → nodes D (named d) ≡ nodes D (struct_fields s)
  unfolding nodes
  struct_weighs s d e en = nodes_named D apart d ∙ ap (nodes_of (λ k. nodes_def D (length D) k)) e ∙ ap (λ b. nodes_of_variants (λ k. nodes_def D (length D) k) b s.variants) en

  enum_weighs : (s : Shape) (d k : ℕ) (t : Tree) → slice_get D d ≡ Some s → s.is_enum ≡ true → slice_get s.variants k ≡ Some t → nodes D t < nodes D (named d)
  unfolding nodes
  enum_weighs s d k t e en et =
      let whole : nodes D (named d) ≡ suc (sum_by (nodes_by (nodes_def D (length D))) s.variants) = nodes_named D apart d ∙ ap (nodes_of (λ k. nodes_def D (length D) k)) e ∙ ap (λ b. nodes_of_variants (λ k. nodes_def D (length D) k) b s.variants) en in
      let part = one_of_sum (nodes_by (nodes_def D (length D))) s.variants k t et in
      omega (arith, whole, part)

  pub struct_visits : (s : Shape) (d : ℕ) (a : Addr) (v : Value) → slice_get D d ≡ Some s → s.is_enum ≡ false → visits_of D a (named d) v ≡ field_visits a 0 (struct_fields s)
  struct_visits s d a v e en = ap (λ o. shape_visits a o v) e ∙ ap (λ b. if b then enum_visits a s.variants v else field_visits a 0 (struct_fields s)) en

  pub variant_is : (s : Shape) (d : ℕ) (a : Addr) (k : ℕ) (v : Value) (t : Tree) → slice_get D d ≡ Some s → s.is_enum ≡ true → slice_get s.variants k ≡ Some t → visits_of D a (named d) (variant k v) ≡ field_visits (further a (Downcast k)) 0 t
  variant_is s d a k v t e en et = ap (λ o. shape_visits a o (variant k v)) e ∙ ap (λ b. if b then enum_visits a s.variants (variant k v) else field_visits a 0 (struct_fields s)) en ∙ ap (variant_visits a k) et

  pub struct_lighter : (s : Shape) (d : ℕ) (a : Addr) (v : Value) → slice_get D d ≡ Some s → s.is_enum ≡ false → weigh D (visits_of D a (named d) v) < nodes D (named d)
  struct_lighter s d a v e en = subst (λ vs. weigh D vs < nodes D (named d)) (sym (struct_visits s d a v e en)) (subst (λ n. weigh D (field_visits a 0 (struct_fields s)) < n) (sym (struct_weighs s d e en)) (first s.variants (proper d s e)))
    where
      first : (ts : List Tree) → ((k : ℕ) (t : Tree) → slice_get ts k ≡ Some t → IsTuple t × Proper t) → weigh D (field_visits a 0 (first_variant ts)) < nodes D (first_variant ts)
      first [] h = weigh_fields a 0 empty tt tt
      first (t ∷ ts) h = let (x, y) = h 0 t refl in weigh_fields a 0 t x y

  pub variant_lighter : (s : Shape) (d : ℕ) (a : Addr) (k : ℕ) (v : Value) (t : Tree) → slice_get D d ≡ Some s → s.is_enum ≡ true → slice_get s.variants k ≡ Some t → weigh D (visits_of D a (named d) (variant k v)) < nodes D (named d)
  variant_lighter s d a k v t e en et =
      let (x, y) = proper d s e k t et in
      let lighter = weigh_fields (further a (Downcast k)) 0 t x y in
      let inside = enum_weighs s d k t e en et in
      subst (λ vs. weigh D vs < nodes D (named d)) (sym (variant_is s d a k v t e en et)) (omega (arith, lighter, inside))
