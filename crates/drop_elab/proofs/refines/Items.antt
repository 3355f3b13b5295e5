-- The plan of what a drop has still to visit inside a unit, and what becomes of it at each visit.
use Rattle.std.proofs.Common.{◌≡◌, ◌⊎◌, inl, inr, refl, sym, ap, ◌∙◌, subst, ℕ, zero, suc, ◌+◌, ◌<◌, Bool, true, false, nat_eq, if◌then◌else◌, List, [], ◌∷◌, ◌++◌, length, Option, Some, None, slice_get, arith}
use Rattle.mir_syntax.specs.declared.body.Proj.TheVariants.{Field, Downcast}
use Rattle.mir_syntax.specs.declared.body.Place.{Place}
use Rattle.mir_syntax.specs.Tree.{Tree, scalar, empty, more, named}
use Rattle.mir_syntax.specs.Tree as tree
use Rattle.mir_syntax.specs.Shapes.{Shape, first_variant, struct_fields, needs_drop}
use Rattle.mir_rules.specs.DefinitionRules.{holds}
use Rattle.mir_rules.proofs.Lists.{or_false-left, or_false-right}
use Rattle.mir_semantics.specs.Values.{Addr}
use Rattle.mir_semantics.specs.Memory.{further}
use Rattle.mir_semantics.specs.Step.{Visit, field_visits}
use Rattle.drop_elab.specs.Tupled as tuples
use Rattle.drop_elab.specs.Plan.{Plan, done, arm, part, glue_from, arms_of, chosen, glue_inside, glue_of, glue_def, glue}
use Rattle.drop_elab.proofs.refines.Places.{Armed, arm_at, with_arm}
use Rattle.drop_elab.proofs.refines.Glue.{of_def, glue_named}

-- the tail of a tuple is one, everywhere in the type
abbrev pub IsTuple : Tree → Type 0
IsTuple = tuples.IsTuple

abbrev pub Proper : Tree → Type 0
Proper = tuples.Tupled

-- so in all definitions
abbrev pub ProperShapes : List Shape → Type 0
ProperShapes D = (d : ℕ) (s : Shape) → slice_get D d ≡ Some s → (k : ℕ) (t : Tree) → slice_get s.variants k ≡ Some t → IsTuple t × Proper t

-- so of the first variant
pub first_proper : (ts : List Tree) → ((k : ℕ) (t : Tree) → slice_get ts k ≡ Some t → IsTuple t × Proper t) → IsTuple (first_variant ts) × Proper (first_variant ts)
first_proper [] h = (tt, tt)
first_proper (t ∷ ts) h = h 0 t refl

-- the place of a frame's own local that an address without a dereference is
abbrev pub place_of : Addr → Place
place_of a = record { local = a.local; proj = a.path }

module _ (D : List Shape) (apart : (d : ℕ) → holds D (length D) d d ≡ false) (proper : ProperShapes D) where
  -- the glue of each place that is left to visit, and then the rest
  abbrev pub inner_plan : List Visit → Plan → Plan
  inner_plan [] rest = rest
  inner_plan (i ∷ is) rest = glue D (place_of i.addr) i.ty (inner_plan is rest)

  pub inner_append : (xs ys : List Visit) (rest : Plan) → inner_plan (xs ++ ys) rest ≡ inner_plan xs (inner_plan ys rest)
  inner_append [] ys rest = refl
  inner_append (x ∷ xs) ys rest = ap (glue D (place_of x.addr) x.ty) (inner_append xs ys rest)

  -- the fields of a tuple
  pub fields_plan : (a : Addr) (n : ℕ) (t : Tree) (rest : Plan) → IsTuple t → Proper t → inner_plan (field_visits a n t) rest ≡ glue_from (of_def D apart) (place_of a) n t rest
  unfolding glue
  fields_plan a n empty rest h p = refl
  fields_plan a n (more t ts) rest h p = ap (glue_from (glue_def D (length D)) (part (place_of a) (Field n)) 0 t) (fields_plan a (suc n) ts rest p.1 p.2)
  fields_plan a n (scalar s) rest h p = absurd h
  fields_plan a n (tree.ref t) rest h p = absurd h
  fields_plan a n (tree.ref_mut t) rest h p = absurd h
  fields_plan a n (named d) rest h p = absurd h

  -- what needs no drop has no glue
  not_needed : (p : Place) (d : ℕ) (rest : Plan) → needs_drop D (named d) ≡ false → glue D p (named d) rest ≡ rest
  not_needed p d rest n = glue_named D apart d p rest ∙ ap (λ b. glue_of D (of_def D apart) d b (slice_get D d) p rest) n

  from_no_need : (p : Place) (n : ℕ) (t : Tree) (rest : Plan) → needs_drop D t ≡ false → glue_from (of_def D apart) p n t rest ≡ rest
  unfolding needs_drop
  from_no_need p n (more t ts) rest e =
      ap (glue_from (of_def D apart) (part p (Field n)) 0 t) (from_no_need p (suc n) ts rest (or_false-right (needs_drop D t) (needs_drop D ts) e))
      ∙ from_no_need (part p (Field n)) 0 t rest (or_false-left (needs_drop D t) (needs_drop D ts) e)
  from_no_need p n (named d) rest e = not_needed p d rest e
  from_no_need p n (scalar s) rest e = refl
  from_no_need p n empty rest e = refl
  from_no_need p n (tree.ref t) rest e = refl
  from_no_need p n (tree.ref_mut t) rest e = refl

  pub no_need : (p : Place) (t : Tree) (rest : Plan) → needs_drop D t ≡ false → glue D p t rest ≡ rest
  unfolding glue
  no_need p t rest e = from_no_need p 0 t rest e

  -- ---- arms

  pub arms_armed : (p : Place) (k : ℕ) (ts : List Tree) → Armed (arms_of D (of_def D apart) p k ts)
  arms_armed p k [] = tt
  arms_armed p k (t ∷ ts) = go (needs_drop D t) (arms_armed p (suc k) ts)
    where
      go : (b : Bool) → Armed (arms_of D (of_def D apart) p (suc k) ts) → Armed (if b then arm k (glue_from (of_def D apart) (part p (Downcast k)) 0 t done) (arms_of D (of_def D apart) p (suc k) ts) else arms_of D (of_def D apart) p (suc k) ts)
      go true h = h
      go false h = h

  -- below the first number there is no arm
  none_below : (p : Place) (j k : ℕ) (ts : List Tree) → j < k → arm_at j (arms_of D (of_def D apart) p k ts) ≡ None
  none_below p j k [] lt = refl
  none_below p j k (t ∷ ts) lt = go (needs_drop D t) (none_below p j (suc k) ts (omega arith))
    where
      other : nat_eq k j ≡ false
      other = Rattle.mir_renaming.proofs.Frames.unequal k j (λ e. omega (arith, e, lt))

      go : (b : Bool) → arm_at j (arms_of D (of_def D apart) p (suc k) ts) ≡ None → arm_at j (if b then arm k (glue_from (of_def D apart) (part p (Downcast k)) 0 t done) (arms_of D (of_def D apart) p (suc k) ts) else arms_of D (of_def D apart) p (suc k) ts) ≡ None
      go true h = rw other h
      go false h = h

  -- the arm of a variant, where it needs drop
  abbrev pub arm_for : Place → ℕ → Tree → Bool → Option Plan
  arm_for p k t true = Some (glue_from (of_def D apart) (part p (Downcast k)) 0 t done)
  arm_for p k t false = None

  pub arm_is : (p : Place) (k n : ℕ) (ts : List Tree) (t : Tree) → slice_get ts n ≡ Some t → arm_at (k + n) (arms_of D (of_def D apart) p k ts) ≡ arm_for p (k + n) t (needs_drop D t)
  arm_is p k n [] t e = absurd (grind arith)
  arm_is p k zero (u ∷ ts) t e =
      let same : u ≡ t = grind arith in
      let z : k + 0 ≡ k = omega arith in
      rw z (subst (λ u. arm_at k (if needs_drop D u then arm k (glue_from (of_def D apart) (part p (Downcast k)) 0 u done) (arms_of D (of_def D apart) p (suc k) ts) else arms_of D (of_def D apart) p (suc k) ts) ≡ arm_for p k t (needs_drop D t)) (sym same) (go (needs_drop D t)))
    where
      go : (b : Bool) → arm_at k (if b then arm k (glue_from (of_def D apart) (part p (Downcast k)) 0 t done) (arms_of D (of_def D apart) p (suc k) ts) else arms_of D (of_def D apart) p (suc k) ts) ≡ arm_for p k t b
      go true = let q : nat_eq k k ≡ true = Rattle.mir_renaming.proofs.Frames.equal k k refl in rw q refl
      go false = none_below p k (suc k) ts (omega arith)
  arm_is p k (suc n) (u ∷ ts) t e = let z : k + suc n ≡ suc k + n = omega arith in rw z (go (needs_drop D u) (arm_is p (suc k) n ts t e))
    where
      other : nat_eq k (suc k + n) ≡ false
      other = Rattle.mir_renaming.proofs.Frames.unequal k (suc k + n) (λ e. omega (arith, e))

      go : (b : Bool) → arm_at (suc k + n) (arms_of D (of_def D apart) p (suc k) ts) ≡ arm_for p (suc k + n) t (needs_drop D t) → arm_at (suc k + n) (if b then arm k (glue_from (of_def D apart) (part p (Downcast k)) 0 u done) (arms_of D (of_def D apart) p (suc k) ts) else arms_of D (of_def D apart) p (suc k) ts) ≡ arm_for p (suc k + n) t (needs_drop D t)
      go true h = rw other h
      go false h = h

  -- ---- what comes after a destructor, or without one

  -- the plan of what is inside a place: that of the fields; or of an enum the choice of an arm, where any variant needs drop
  pub struct_inside : (s : Shape) (d : ℕ) (a : Addr) (rest : Plan) → slice_get D d ≡ Some s → s.is_enum ≡ false → glue_inside D (of_def D apart) s (place_of a) rest ≡ inner_plan (field_visits a 0 (struct_fields s)) rest
  struct_inside s d a rest e en = ap (λ b. if b then chosen (place_of a) (arms_of D (of_def D apart) (place_of a) 0 s.variants) rest else glue_from (of_def D apart) (place_of a) 0 (struct_fields s) rest) en ∙ sym (first s.variants (proper d s e))
    where
      first : (ts : List Tree) → ((k : ℕ) (t : Tree) → slice_get ts k ≡ Some t → IsTuple t × Proper t) → inner_plan (field_visits a 0 (first_variant ts)) rest ≡ glue_from (of_def D apart) (place_of a) 0 (first_variant ts) rest
      first [] h = fields_plan a 0 empty rest tt tt
      first (t ∷ ts) h = let (x, y) = h 0 t refl in fields_plan a 0 t rest x y

  -- what is inside the active variant
  abbrev pub payload_visits : Addr → ℕ → Tree → List Visit
  payload_visits a k t = field_visits (further a (Downcast k)) 0 t

  pub payload_plan : (s : Shape) (d : ℕ) (a : Addr) (k : ℕ) (t : Tree) (rest : Plan) → slice_get D d ≡ Some s → slice_get s.variants k ≡ Some t → inner_plan (payload_visits a k t) rest ≡ glue_from (of_def D apart) (part (place_of a) (Downcast k)) 0 t rest
  payload_plan s d a k t rest e et = let (x, y) = proper d s e k t et in fields_plan (further a (Downcast k)) 0 t rest x y

  -- the plan of the payload, if an arm has it, and then the rest
  pub arm_plans : (s : Shape) (d : ℕ) (a : Addr) (k : ℕ) (t : Tree) (rest : Plan) (ps : List Plan) → slice_get D d ≡ Some s → slice_get s.variants k ≡ Some t → (b : Bool) → needs_drop D t ≡ b → (with_arm (arm_for (place_of a) k t b) (rest ∷ ps) ≡ inner_plan (payload_visits a k t) done ∷ rest ∷ ps) ⊎ ((with_arm (arm_for (place_of a) k t b) (rest ∷ ps) ≡ inner_plan (payload_visits a k t) rest ∷ ps))
  arm_plans s d a k t rest ps e et true n = inl (ap (λ q. q ∷ rest ∷ ps) (sym (payload_plan s d a k t done e et)))
  arm_plans s d a k t rest ps e et false n = inr (ap (λ q. q ∷ ps) (sym (payload_plan s d a k t rest e et ∙ from_no_need (part (place_of a) (Downcast k)) 0 t rest n)))
