-- The glue of a place by that of the places inside it, and the glue of what a drop has still to visit.
use Rattle.std.proofs.Common.{◌≡◌, refl, ap, ap₂, ◌∙◌, ℕ, suc, Bool, true, false, ◌==◌, if◌then◌else◌, List, [], ◌∷◌, length, Option, Some, None, slice_get, eq-eqb}
use Rattle.mir_syntax.specs.declared.body.Proj.TheVariants.{Field, Downcast}
use Rattle.mir_syntax.specs.declared.body.Place.{Place}
use Rattle.mir_syntax.specs.Tree.{Tree, scalar, empty, more, named}
use Rattle.mir_syntax.specs.Tree as tree
use Rattle.mir_syntax.specs.Shapes.{Shape, first_variant, needs_by, any_needs, needs_drop}
use Rattle.mir_rules.specs.DefinitionRules.{holds}
use Rattle.std.proofs.lemmas.Bool.{or_left, or_right}
use Rattle.mir_rules.proofs.Fixed.{fixed}
use Rattle.mir_rules.proofs.FixedWeights.{NamedIn, NamedAmong}
use Rattle.drop_elab.specs.Plan.{Plan, done, destroy, arm, part, glue_from, arms_of, chosen, glue_inside, glue_shape, glue_of, glue_def, glue}

pointwise : {A B C : Type 0} (f g : A → B → C) → ((a : A) (b : B) → f a b ≡ g a b) → f ≡ g
pointwise f g h i a b = h a b i

in_first : (t : Tree) (ts : List Tree) (k : ℕ) → NamedIn t k → NamedAmong (t ∷ ts) k
in_first t ts k e = or_left (needs_by (λ j. j == k) t) (any_needs (λ j. j == k) ts) e

in_others : (t : Tree) (ts : List Tree) (k : ℕ) → NamedAmong ts k → NamedAmong (t ∷ ts) k
in_others t ts k e = or_right (needs_by (λ j. j == k) t) (any_needs (λ j. j == k) ts) e

pub pointwise1 : {A B : Type 0} (f g : A → B) → ((a : A) → f a ≡ g a) → f ≡ g
pointwise1 f g h i a = h a i

-- ---- the same glue from the same glue of what is named

module _ (D : List Shape) (g h : ℕ → Place → Plan → Plan) where
  from_same : (p : Place) (i : ℕ) (t : Tree) (rest : Plan) → ((k : ℕ) → NamedIn t k → g k ≡ h k) → glue_from g p i t rest ≡ glue_from h p i t rest
  from_same p i (more t ts) rest same =
      ap (glue_from g (part p (Field i)) 0 t) (from_same p (suc i) ts rest (λ k e. same k (or_right (needs_by (λ j. j == k) t) (needs_by (λ j. j == k) ts) e)))
      ∙ from_same (part p (Field i)) 0 t (glue_from h p (suc i) ts rest) (λ k e. same k (or_left (needs_by (λ j. j == k) t) (needs_by (λ j. j == k) ts) e))
  from_same p i (named d) rest same = ap (λ f. f p rest) (same d (eq-eqb d d refl))
  from_same p i (scalar s) rest same = refl
  from_same p i empty rest same = refl
  from_same p i (tree.ref t) rest same = refl
  from_same p i (tree.ref_mut t) rest same = refl

  arms_same : (p : Place) (k : ℕ) (ts : List Tree) → ((k : ℕ) → NamedAmong ts k → g k ≡ h k) → arms_of D g p k ts ≡ arms_of D h p k ts
  arms_same p k [] same = refl
  arms_same p k (t ∷ ts) same = ap₂ (λ q as'. if needs_drop D t then arm k q as' else as') (from_same (part p (Downcast k)) 0 t done (λ j e. same j (in_first t ts j e))) (arms_same p (suc k) ts (λ j e. same j (in_others t ts j e)))

  first_same : (ts : List Tree) (p : Place) (rest : Plan) → ((k : ℕ) → NamedAmong ts k → g k ≡ h k) → glue_from g p 0 (first_variant ts) rest ≡ glue_from h p 0 (first_variant ts) rest
  first_same [] p rest same = refl
  first_same (t ∷ ts) p rest same = from_same p 0 t rest (λ k e. same k (in_first t ts k e))

  inside_same : (s : Shape) (p : Place) (rest : Plan) → ((k : ℕ) → NamedAmong s.variants k → g k ≡ h k) → glue_inside D g s p rest ≡ glue_inside D h s p rest
  inside_same s p rest same = ap₂ (λ as' q. if s.is_enum then chosen p as' rest else q) (arms_same p 0 s.variants same) (first_same s.variants p rest same)

  shape_same : (d : ℕ) (s : Shape) (o : Option ℕ) (p : Place) (rest : Plan) → ((k : ℕ) → NamedAmong s.variants k → g k ≡ h k) → glue_shape D g d s o p rest ≡ glue_shape D h d s o p rest
  shape_same d s None p rest same = inside_same s p rest same
  shape_same d s (Some f) p rest same = ap (destroy p (named d) f) (inside_same s p rest same)

  of_same : (d : ℕ) (b : Bool) (s : Shape) (p : Place) (rest : Plan) → ((k : ℕ) → NamedAmong s.variants k → g k ≡ h k) → glue_of D g d b (Some s) p rest ≡ glue_of D h d b (Some s) p rest
  of_same d true s p rest same = shape_same d s s.destructor p rest same
  of_same d false s p rest same = refl

none_glue : (D : List Shape) (g : ℕ → Place → Plan → Plan) (d : ℕ) (b : Bool) (p : Place) (rest : Plan) → glue_of D g d b None p rest ≡ rest
none_glue D g d true p rest = refl
none_glue D g d false p rest = refl

module _ (D : List Shape) (apart : (d : ℕ) → holds D (length D) d d ≡ false) where
  -- the glue of a definition, given the glue of what it names
  abbrev pub of_def : ℕ → Place → Plan → Plan
  of_def d p rest = glue D p (named d) rest

  pub glue_named : (d : ℕ) (p : Place) (rest : Plan) → glue D p (named d) rest ≡ glue_of D of_def d (needs_drop D (named d)) (slice_get D d) p rest
  unfolding glue
  glue_named d p rest = ap (λ f. f p rest) (fixed D apart (glue_def D) (λ k f o p rest. glue_of D f k (needs_drop D (named k)) o p rest) (λ p rest. rest) (λ k. refl) (λ k f. pointwise _ _ (λ p rest. none_glue D f k (needs_drop D (named k)) p rest)) (λ n k. refl) (λ k f g s same. pointwise _ _ (λ p rest. of_same D f g k (needs_drop D (named k)) s p rest same)) d)
