-- The types of a table are tuples of tuples, and within the limits an enum has few variants.
use Rattle.std.proofs.Common.{◌≡◌, sym, ap, ◌∙◌, subst, ℕ, zero, suc, ◌+◌, ◌<◌, ◌≤◌, Bool, true, false, nat_lt, List, [], ◌∷◌, ◌++◌, map, length, get_or, sum_by, Option, Some, None, slice_get, arith}
use Rattle.std.proofs.lemmas.Bool.{ltb-false}
use Rattle.std.proofs.lemmas.List.Sums.{sum_by-cons}
use Rattle.mir_syntax.specs.declared.types.Ty.{Ty}
use Rattle.mir_syntax.specs.declared.types.Ty.TheVariants.{Scalar, Tuple, Ref, RefMut, Named}
use Rattle.mir_syntax.specs.declared.types.TyId.{TyId}
use Rattle.mir_syntax.specs.declared.types.Def.{Def}
use Rattle.mir_syntax.specs.declared.types.Variant.{Variant}
use Rattle.mir_syntax.specs.declared.types.Field.{Field}
use Rattle.mir_syntax.specs.declared.types.ScalarTy.TheVariants as scalar_ty
use Rattle.mir_syntax.specs.declared.body.Body.{Body}
use Rattle.mir_syntax.specs.declared.program.Program.{Program}
use Rattle.mir_syntax.specs.Tree.{Tree, scalar, empty, more, named, at_id, at_ids, node, trees_from, trees_of, tuple_of, ref_mut, ref}
use Rattle.mir_syntax.specs.Crate.{TypedDef, Crate, body_of, crate_of, TypedFunction, variant_of, field_of, def_of}
use Rattle.mir_syntax.specs.Shapes.{Shape, first_variant, fields_tuple, shapes_of, shapes_from, field_ty_of, shape_of}
use Rattle.mir_rules.specs.Limits.{most_functions, most_statements, most_nodes, most_units, is_large_type, definition_passed, outside_passed, locals_passed, functions_passed, types_passed, bodies_passed, statements_passed, passed}
use Rattle.mir_rules.specs.Broken.{definition, gather, if_broken, at_spot}
use Rattle.mir_rules.specs.Valid.{Valid, Within}
use Rattle.mir_rules.specs.Weights.{nodes_by, nodes_of_variants, nodes_of, nodes_def, nodes, units}
use Rattle.mir_rules.proofs.Destructors.{shape_is}
use Rattle.mir_rules.proofs.Fixed.{apart_in}
use Rattle.mir_rules.proofs.FixedWeights.{nodes_named}
use Rattle.mir_rules.proofs.Lists.{or_false-left, append_empty-left, append_empty-right, gather_empty-at, map_empty-source, if_broken_empty}
use Rattle.drop_elab.specs.Tupled.{IsTuple, Tupled, TypesTupled, FewVariants}

-- ---- a table's types

AllTupled : List Tree → Type 0
AllTupled [] = Unit {0}
AllTupled (t ∷ ts) = Tupled t × AllTupled ts

tupled_end : (ts us : List Tree) → AllTupled ts → AllTupled us → AllTupled (ts ++ us)
unfolding AllTupled
tupled_end [] us h k = k
tupled_end (t ∷ ts) us h k = (h.0, tupled_end ts us h.1 k)

tupled_at : (ts : List Tree) (i : ℕ) → AllTupled ts → Tupled (get_or ts i (scalar scalar_ty.Bool))
unfolding AllTupled
tupled_at [] i h = tt
tupled_at (t ∷ ts) zero h = h.0
tupled_at (t ∷ ts) (suc i) h = tupled_at ts i h.1

ids_tupled : (ts : List Tree) (ids : List TyId) → AllTupled ts → IsTuple (at_ids ts ids) × Tupled (at_ids ts ids)
ids_tupled ts [] h = (tt, tt)
ids_tupled ts (id ∷ ids) h = (let (a, b) = ids_tupled ts ids h in (tt, (tupled_at ts id.0 h, a, b)))

node_tupled : (ts : List Tree) (ty : Ty) → AllTupled ts → Tupled (node ts ty)
node_tupled ts (Scalar s) h = tt
node_tupled ts (Tuple ids) h = (ids_tupled ts ids h).1
node_tupled ts (Ref id) h = tt
node_tupled ts (RefMut id) h = tt
node_tupled ts (Named d) h = tt

table_tupled : (ts : List Tree) (tys : List Ty) → AllTupled ts → AllTupled (trees_from ts tys)
unfolding AllTupled
table_tupled ts [] h = h
table_tupled ts (ty ∷ tys) h = table_tupled (ts ++ node ts ty ∷ []) tys (tupled_end ts (node ts ty ∷ []) h (node_tupled ts ty h, tt))

trees_tupled : (tys : List Ty) → AllTupled (trees_of tys)
unfolding AllTupled
trees_tupled tys = table_tupled [] tys tt

map_all : (P : Tree → Type 0) {A : Type 0} (f : A → Tree) (xs : List A) → ((x : A) → P (f x)) → (i : ℕ) (t : Tree) → slice_get (map f xs) i ≡ Some t → P t
map_all P f [] h i t e = absurd (grind arith)
map_all P f (x ∷ xs) h zero t e = subst P (let z : f x ≡ t = grind arith in z) (h x)
map_all P f (x ∷ xs) h (suc i) t e = map_all P f xs h i t e

defs_at : (trees : List Tree) (ds : List Def) (d : ℕ) (def : TypedDef) → slice_get (map (def_of trees) ds) d ≡ Some def → (x : Def) × (def ≡ def_of trees x)
defs_at trees [] d def e = absurd (grind arith)
defs_at trees (x ∷ ds) zero def e = (x, let z : def ≡ def_of trees x = grind arith in z)
defs_at trees (x ∷ ds) (suc d) def e = defs_at trees ds d def e

fields_are : (trees : List Tree) (fs : List Field) → AllTupled trees → IsTuple (tuple_of (map field_ty_of (map (field_of trees) fs))) × Tupled (tuple_of (map field_ty_of (map (field_of trees) fs)))
fields_are trees [] h = (tt, tt)
fields_are trees (f ∷ fs) h = (let (a, b) = fields_are trees fs h in (tt, (tupled_at trees f.ty.0 h, a, b)))

variants_are : (trees : List Tree) (vs : List Variant) → AllTupled trees → (k : ℕ) (t : Tree) → slice_get (map fields_tuple (map (variant_of trees) vs)) k ≡ Some t → Tupled t
variants_are trees [] h k t e = absurd (grind arith)
variants_are trees (v ∷ vs) h zero t e = subst Tupled (let z : fields_tuple (variant_of trees v) ≡ t = grind arith in z) (fields_are trees v.fields h).1
variants_are trees (v ∷ vs) h (suc k) t e = variants_are trees vs h k t e

-- in each crate with the definitions of a program, and in each body that is read through the program's table
pub table_types : (program : Program) (C : Crate) (b : Body) → C.defs ≡ (crate_of program).defs → TypesTupled (shapes_of C) (body_of (trees_of program.types) b)
table_types program C b same = record {
  fields = λ d s e k t q.
      let (def, at, is) = shape_is C d s e in
      let (x, made) = defs_at (trees_of program.types) program.defs d def (ap (λ ds. slice_get ds d) (sym same) ∙ at) in
      variants_are (trees_of program.types) x.variants (trees_tupled program.types) k t (ap (λ (def : TypedDef). slice_get (map fields_tuple def.variants) k) (sym made) ∙ ap (λ (s : Shape). slice_get s.variants k) (sym is) ∙ q);
  locals = map_all Tupled (at_id (trees_of program.types)) b.locals (λ id. tupled_at (trees_of program.types) id.0 (trees_tupled program.types));
}

-- ---- the nodes of an enum

module _ (of_def : ℕ → ℕ) (some : (d : ℕ) → 0 < of_def d) where
  some_nodes : (t : Tree) → 0 < nodes_by of_def t
  some_nodes (more t ts) = (let a = some_nodes t in omega (arith, a))
  some_nodes (named d) = some d
  some_nodes (scalar s) = omega arith
  some_nodes empty = omega arith
  some_nodes (ref t) = omega arith
  some_nodes (ref_mut t) = omega arith

  as_many : (ts : List Tree) → length ts ≤ sum_by (nodes_by of_def) ts
  as_many [] = omega arith
  as_many (t ∷ ts) = (let a = some_nodes t in let b = as_many ts in let z = sum_by-cons (nodes_by of_def) t ts in omega (arith, a, b, z))

  some_shape : (o : Option Shape) → 0 < nodes_of of_def o
  some_shape None = omega arith
  some_shape (Some s) = go s.is_enum
    where
      first : (ts : List Tree) → 0 < nodes_by of_def (first_variant ts)
      first [] = omega arith
      first (t ∷ ts) = some_nodes t

      go : (b : Bool) → 0 < nodes_of_variants of_def b s.variants
      go true = omega arith
      go false = first s.variants

some_def : (D : List Shape) (n d : ℕ) → 0 < nodes_def D n d
some_def D zero d = omega arith
some_def D (suc n) d = some_shape (nodes_def D n) (some_def D n) (slice_get D d)

shape_forth : (fs : List TypedFunction) (n : ℕ) (defs : List TypedDef) (d : ℕ) (def : TypedDef) → slice_get defs d ≡ Some def → slice_get (shapes_from fs n defs) d ≡ Some (shape_of fs (d + n) def)
shape_forth fs n [] d def e = absurd (grind arith)
shape_forth fs n (x ∷ defs) zero def e = (let z : n ≡ 0 + n = omega arith in ap (λ def. Some (shape_of fs n def)) (let z : x ≡ def = grind arith in z) ∙ ap (λ n. Some (shape_of fs n def)) z)
shape_forth fs n (x ∷ defs) (suc d) def e = (let z : d + suc n ≡ suc d + n = omega arith in shape_forth fs (suc n) defs d def e ∙ ap (λ n. Some (shape_of fs n def)) z)

module _ (C : Crate) (valid : Valid C) (within : Within C) where
  abbrev D : List Shape
  D = shapes_of C

  small : (d : ℕ) (def : TypedDef) → slice_get C.defs d ≡ Some def → is_large_type D (named d) ≡ false
  unfolding passed types_passed
  small d def e =
      let of_defs = gather (definition_passed (shapes_of C)) 0 C.defs in
      let of_outsides = gather (outside_passed (shapes_of C)) 0 C.outsides in
      let of_locals = gather (locals_passed (shapes_of C)) 0 C.functions in
      let types = append_empty-left (of_defs ++ (of_outsides ++ of_locals)) (bodies_passed C ++ statements_passed most_statements C) (append_empty-right (functions_passed most_functions C) ((of_defs ++ (of_outsides ++ of_locals)) ++ (bodies_passed C ++ statements_passed most_statements C)) within.limits) in
      let defs = append_empty-left of_defs (of_outsides ++ of_locals) types in
      let z : d + 0 ≡ d = omega arith in
      if_broken_empty (is_large_type D (named d)) 3 (map_empty-source (at_spot (definition d)) (if_broken (is_large_type D (named d)) 3) (subst (λ n. definition_passed D n def ≡ []) z (gather_empty-at (definition_passed D) 0 C.defs d def defs e)))

  nodes_few : (d : ℕ) (def : TypedDef) → slice_get C.defs d ≡ Some def → nodes D (named d) ≤ most_nodes
  unfolding is_large_type
  nodes_few d def e = ltb-false most_nodes (nodes D (named d)) (or_false-left (nat_lt most_nodes (nodes D (named d))) (nat_lt most_units (length (units D (named d)))) (small d def e))

  shape_here : (d : ℕ) (def : TypedDef) → slice_get C.defs d ≡ Some def → slice_get D d ≡ Some (shape_of C.functions d def)
  unfolding shapes_of
  shape_here d def e = (let z : d + 0 ≡ d = omega arith in shape_forth C.functions 0 C.defs d def e ∙ ap (λ n. Some (shape_of C.functions n def)) z)

  many : (d : ℕ) (s : Shape) → slice_get D d ≡ Some s → s.is_enum ≡ true → length s.variants ≤ nodes D (named d)
  unfolding nodes
  many d s e q =
      let apart = apart_in C valid in
      let n = nodes_named D apart d in
      let is : nodes D (named d) ≡ suc (sum_by (nodes_by (λ k. nodes D (named k))) s.variants) = n ∙ ap (nodes_of (λ k. nodes D (named k))) e ∙ ap (λ b. nodes_of_variants (λ k. nodes D (named k)) b s.variants) q in
      let l = as_many (λ k. nodes D (named k)) (λ k. some_def D (length D) k) s.variants in
      omega (arith, is, l)

  -- in each crate with the same definitions
  pub few_variants : (C2 : Crate) → C2.defs ≡ C.defs → FewVariants (shapes_of C2)
  few_variants C2 same d s e q =
      let (def, at, is) = shape_is C2 d s e in
      let there : slice_get C.defs d ≡ Some def = ap (λ ds. slice_get ds d) (sym same) ∙ at in
      let enum : def.is_enum ≡ true = ap (λ (s : Shape). s.is_enum) (sym is) ∙ q in
      let l = many d (shape_of C.functions d def) (shape_here d def there) enum in
      let k = nodes_few d def there in
      let long : length s.variants ≡ length (map fields_tuple def.variants) = ap (λ (s : Shape). length s.variants) is in
      omega (arith, l, k, long)
