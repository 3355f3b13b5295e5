-- Types in whose tuples each tail is a tuple: their parts are such types too.
use Rattle.std.proofs.Common.{◌≡◌, refl, subst, ℕ, zero, suc, Bool, true, false, if◌then◌else◌, List, [], ◌∷◌, Some, None, slice_get, arith}
use Rattle.mir_syntax.specs.declared.body.Proj.{Proj}
use Rattle.mir_syntax.specs.declared.body.Proj.TheVariants.{Field, Downcast, Deref}
use Rattle.mir_syntax.specs.Parts.{is_direct}
use Rattle.mir_syntax.specs.Tree.{Tree, scalar, empty, more, named}
use Rattle.mir_syntax.specs.Tree as tree
use Rattle.mir_syntax.specs.Shapes.{Shape, first_variant, struct_fields, fields_of, field_ty, variant_ty, path_ty}
use Rattle.mir_semantics.specs.Values.{Value, at_path}
use Rattle.mir_syntax.proofs.Binds.{bind_some}
use Rattle.drop_elab.proofs.refines.Items.{IsTuple, Proper, ProperShapes}

-- a tuple is the tuple of its own fields
pub tuple_fields : (D : List Shape) (us : Tree) → IsTuple us → fields_of D us ≡ Some us
tuple_fields D empty h = refl
tuple_fields D (more t ts) h = refl
tuple_fields D (scalar s) h = absurd h
tuple_fields D (tree.ref t) h = absurd h
tuple_fields D (tree.ref_mut t) h = absurd h
tuple_fields D (named d) h = absurd h

module _ (D : List Shape) (proper : ProperShapes D) where
  field_proper : (i : ℕ) (us u : Tree) → Proper us → field_ty us i ≡ Some u → Proper u
  field_proper zero (more t ts) u pr e = subst Proper (let z : t ≡ u = grind arith in z) pr.0
  field_proper (suc i) (more t ts) u pr e = field_proper i ts u pr.2 e
  field_proper zero us u pr e = absurd (grind arith)
  field_proper (suc i) us u pr e = absurd (grind arith)

  first : (ts : List Tree) → ((k : ℕ) (t : Tree) → slice_get ts k ≡ Some t → IsTuple t × Proper t) → Proper (first_variant ts)
  first [] h = tt
  first (t ∷ ts) h = (h 0 t refl).1

  fields_proper : (t us : Tree) → Proper t → fields_of D t ≡ Some us → Proper us
  fields_proper (more t ts) us pr e = subst Proper (let z : more t ts ≡ us = grind arith in z) pr
  fields_proper empty us pr e = subst Proper (let z : empty ≡ us = grind arith in z) pr
  fields_proper (named d) us pr e =
      let (s, e1, e2) = bind_some e in
      go s e1 s.is_enum e2
    where
      go : (s : Shape) → slice_get D d ≡ Some s → (b : Bool) → (if b then None else Some (struct_fields s)) ≡ Some us → Proper us
      go s e1 true e2 = absurd (grind arith)
      go s e1 false e2 = subst Proper (let z : struct_fields s ≡ us = grind arith in z) (first s.variants (proper d s e1))
  fields_proper (scalar s) us pr e = absurd (grind arith)
  fields_proper (tree.ref t) us pr e = absurd (grind arith)
  fields_proper (tree.ref_mut t) us pr e = absurd (grind arith)

  variant_proper : (t us : Tree) (k : ℕ) → variant_ty D t k ≡ Some us → Proper us
  variant_proper (named d) us k e =
      let (s, e1, e2) = bind_some e in
      go s e1 s.is_enum e2
    where
      go : (s : Shape) → slice_get D d ≡ Some s → (b : Bool) → (if b then slice_get s.variants k else None) ≡ Some us → Proper us
      go s e1 true e2 = (proper d s e1 k us e2).1
      go s e1 false e2 = absurd (grind arith)
  variant_proper (scalar s) us k e = absurd (grind arith)
  variant_proper empty us k e = absurd (grind arith)
  variant_proper (more t ts) us k e = absurd (grind arith)
  variant_proper (tree.ref t) us k e = absurd (grind arith)
  variant_proper (tree.ref_mut t) us k e = absurd (grind arith)

  -- at a path of fields
  pub direct_proper : (ps : List Proj) (t u : Tree) → Proper t → is_direct ps ≡ true → path_ty D t ps ≡ Some u → Proper u
  direct_proper [] t u pr di e = subst Proper (let z : t ≡ u = grind arith in z) pr
  direct_proper (Field i ∷ ps) t u pr di e =
      let (t', e1, e2) = bind_some e in
      let (us, f1, f2) = bind_some e1 in
      direct_proper ps t' u (field_proper i us t' (fields_proper t us pr f1) f2) di e2
  direct_proper (Downcast k ∷ ps) t u pr di e = absurd (grind arith)
  direct_proper (Deref ∷ ps) t u pr di e = absurd (grind arith)

  -- at a path at which a value stands
  pub there_proper : (ps : List Proj) (t u : Tree) (v w : Value) → Proper t → path_ty D t ps ≡ Some u → at_path ps v ≡ Some w → Proper u
  there_proper [] t u v w pr e h = subst Proper (let z : t ≡ u = grind arith in z) pr
  there_proper (Field i ∷ ps) t u v w pr e h =
      let (t', e1, e2) = bind_some e in
      let (us, f1, f2) = bind_some e1 in
      let (x, h1, h2) = bind_some h in
      there_proper ps t' u x w (field_proper i us t' (fields_proper t us pr f1) f2) e2 h2
  there_proper (Downcast k ∷ ps) t u v w pr e h =
      let (t', e1, e2) = bind_some e in
      let (x, h1, h2) = bind_some h in
      there_proper ps t' u x w (variant_proper t t' k e1) e2 h2
  there_proper (Deref ∷ ps) t u v w pr e h = absurd (let (x, h1, h2) = bind_some h in grind arith)
