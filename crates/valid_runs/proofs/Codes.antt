-- The code of a valid crate is fit to keep its states typed.
use Rattle.std.proofs.Common.{◌≡◌, ◌⊎◌, inl, inr, refl, sym, ap, ◌∙◌, subst, ℕ, zero, suc, Bool, true, false, nat_eq, ◌&&◌, ◌||◌, if◌then◌else◌, List, [], ◌∷◌, length, take, drop, map, get_or, Some, None, slice_get, arith, eqb-true}
use Rattle.std.specs.List.{list_all}
use Rattle.mir_syntax.specs.declared.types.ScalarTy.{ScalarTy}
use Rattle.mir_syntax.specs.declared.types.ScalarTy.TheVariants as scalar_ty
use Rattle.mir_syntax.specs.declared.body.BinOp.{BinOp}
use Rattle.mir_syntax.specs.declared.body.UnOp.{UnOp}
use Rattle.mir_syntax.specs.declared.body.UnOp.TheVariants as un_op
use Rattle.mir_syntax.specs.declared.body.Const.TheVariants as constant
use Rattle.mir_syntax.specs.declared.body.Operand.{Operand}
use Rattle.mir_syntax.specs.declared.body.Operand.TheVariants as operand
use Rattle.mir_syntax.specs.declared.body.Callee.{Callee}
use Rattle.mir_syntax.specs.declared.body.Callee.TheVariants as callee
use Rattle.mir_syntax.specs.declared.body.Term.{Term}
use Rattle.mir_syntax.specs.declared.body.Term.TheVariants as term
use Rattle.mir_syntax.specs.Tree.{Tree, scalar, empty, more, ref, ref_mut, named, tuple_of}
use Rattle.mir_syntax.specs.Crate.{TypedRvalue, «use», binary, overflow, unary, cast, discriminant, tuple, build, TypedStmt, assign, storage_live, storage_dead, set_discriminant, TypedBody, TypedDef, TypedFunction, Crate}
use Rattle.mir_syntax.specs.Crate as rvalue
use Rattle.mir_syntax.specs.Shapes.{Shape, fields_tuple, shapes_of, first_variant, struct_fields, fields_of, fields_of_struct, variant_of_enum, pointee}
use Rattle.mir_rules.specs.Typing as rules
use Rattle.mir_rules.specs.Typing.{Kind, arithmetic, bitwise, comparison, shift, bool_ty, isize_ty, scalar_of, kind_of, takes, made_by, binary_ty, overflow_ty, unary_ty, cast_ty, discriminant_ty, build_ty, rvalue_ty, operands_ty, result_of, is_int}
use Rattle.mir_num.specs.Widths.{is_signed}
use Rattle.mir_rules.specs.Same.{same_tree}
use Rattle.mir_rules.specs.DefinitionRules as def_rules
use Rattle.mir_rules.specs.Formed.{is_formed, def_formed, outside_formed, function_formed, variant_formed}
use Rattle.mir_rules.specs.Valid.{Valid}
use Rattle.mir_syntax.proofs.Binds.{bind_some, some_bind}
use Rattle.mir_rules.proofs.Lists.{then_some_is, and_true-left, list_all_true-at}
use Rattle.mir_rules.proofs.Same.{same_tree_is}
use Rattle.mir_rules.proofs.Statements.{StmtTyped}
use Rattle.mir_rules.proofs.Terminators.{OwnTyped}
use Rattle.mir_rules.proofs.ValidCrates.{result_there, body_formed_at, stmt_at, term_at}
use Rattle.mir_rules.proofs.Destructors.{shape_is, destructor_found, outside_scalar}
use Rattle.mir_rules.proofs.Fixed.{apart_in}
use Rattle.mir_semantics.specs.Values.{blank}
use Rattle.mir_semantics.specs.Step.{body_in, code_of, Here, type_of, operand_ty}
use Rattle.mir_renaming.proofs.Types.{TypeMap, HasTy, is_scalar, H, RvalueTy, OperandsTy, BuiltTy, StmtTy}
use Rattle.mir_renaming.proofs.Typed.{args_of, OpsTy, SomeTys, ResultTy, CalleeTy, TermTy, AskTy, DestructorTy, ValidCode}
use Rattle.valid_runs.proofs.Blanks.{Tuples, shapes_tupled, fields_tupled, blank_typed}

some_is : {A : Type 0} (x y : A) → Some x ≡ Some y → x ≡ y
some_is x y e = grind arith

-- ---- types of rvalues

made_scalar : (k : Kind) (a : ScalarTy) → is_scalar (made_by k a) ≡ true
made_scalar arithmetic a = refl
made_scalar bitwise a = refl
made_scalar comparison a = refl
made_scalar shift a = refl

binary_scalar : (op : BinOp) (u w t : Tree) → binary_ty op u w ≡ Some t → is_scalar t ≡ true
binary_scalar op (scalar a) (scalar b) t e =
    let (_, same) = then_some_is (takes (kind_of op) a b) (made_by (kind_of op) a) t e in
    rw (sym same) (made_scalar (kind_of op) a)
binary_scalar op u w t e = absurd (grind arith)

overflow_is : (u w t : Tree) → overflow_ty u w ≡ Some t → (s z : ScalarTy) × (t ≡ more (scalar s) (more (scalar z) empty))
overflow_is (scalar a) (scalar b) t e =
    let (_, same) = then_some_is (takes arithmetic a b) (more (scalar a) (more bool_ty empty)) t e in
    (a, scalar_ty.Bool, sym same)
overflow_is u w t e = absurd (grind arith)

unary_scalar : (op : UnOp) (u t : Tree) → unary_ty op u ≡ Some t → is_scalar t ≡ true
unary_scalar un_op.Not (scalar a) t e = rw (let same : t ≡ scalar a = grind arith in same) refl
unary_scalar un_op.Neg (scalar a) t e =
    let (_, same) = then_some_is (is_signed a) (scalar a) t e in
    rw (sym same) refl
unary_scalar op u t e = absurd (grind arith)

scalar_there : (t : Tree) (s : ScalarTy) → scalar_of t ≡ Some s → is_scalar t ≡ true
scalar_there (scalar a) s e = refl
scalar_there t s e = absurd (grind arith)

cast_scalar : (to u t : Tree) → cast_ty to u ≡ Some t → is_scalar t ≡ true
cast_scalar to (scalar a) t e =
    let (s, e1, k) = bind_some e in
    let (_, same) = then_some_is (is_int s) to t k in
    rw (sym same) (scalar_there to s e1)
cast_scalar to u t e = absurd (grind arith)

discriminant_scalar : (D : List Shape) (u t : Tree) → discriminant_ty D u ≡ Some t → is_scalar t ≡ true
discriminant_scalar D u t e =
    let (s, e1, k) = bind_some e in
    rw (let same : t ≡ isize_ty = grind arith in same) refl

-- a struct has one variant
abbrev pub OneVariant : List Shape → Type 0
OneVariant D = (d : ℕ) (s : Shape) → slice_get D d ≡ Some s → s.is_enum ≡ false → length s.variants ≡ 1

only_variant : (ts : List Tree) (v : ℕ) (us : Tree) → length ts ≡ 1 → slice_get ts v ≡ Some us → first_variant ts ≡ us
only_variant [] v us l e = absurd (grind arith)
only_variant (t ∷ []) zero us l e = grind arith
only_variant (t ∷ []) (suc v) us l e = absurd (grind arith)
only_variant (t ∷ u ∷ ts) v us l e = absurd (omega (arith, l))

module _ (D : List Shape) (tuples : Tuples D) (one : OneVariant D) where
  built_fits : (d v : ℕ) (us t : Tree) → build_ty D d v us ≡ Some t → BuiltTy D d v us t
  built_fits d v us t e =
      let (s, e1, k1) = bind_some e in
      let (fields, e2, k2) = bind_some k1 in
      let (q, same) = then_some_is (same_tree us fields) (named d) t k2 in
      let there : slice_get s.variants v ≡ Some us = e2 ∙ ap Some (sym (same_tree_is us fields q)) in
      (s, sym same, e1, kind s e1 there s.is_enum refl)
    where
      kind : (s : Shape) → slice_get D d ≡ Some s → slice_get s.variants v ≡ Some us → (b : Bool) → s.is_enum ≡ b → ((variant_of_enum v s ≡ Some us) × (s.is_enum ≡ true) ⊎ (fields_of_struct s ≡ Some us) × (s.is_enum ≡ false) × (fields_of D us ≡ Some us))
      kind s e1 there true en = inl (ap (λ b. if b then slice_get s.variants v else None) en ∙ there, en)
      kind s e1 there false en =
          inr (ap (λ b. if b then None else Some (struct_fields s)) en ∙ ap Some (only_variant s.variants v us (one d s e1 en) there), en, fields_tupled D us (tuples d s e1 v us there))

  module _ (G : TypeMap) (blank_ok : (t : Tree) → HasTy D G t (blank D t)) (ts : List Tree) (f : ℕ) (locals_ok : (x : ℕ) (t : Tree) → slice_get ts x ≡ Some t → G f x ≡ Some t) where
    abbrev here : Here
    here = H D G blank_ok ts f locals_ok

    operand_is : (a : Operand) (t : Tree) → rules.operand_ty D ts a ≡ Some t → operand_ty here a ≡ Some t
    unfolding rules.operand_ty operand_ty type_of
    operand_is (operand.Copy p) t e = e
    operand_is (operand.Move p) t e = e
    operand_is (operand.Const (constant.Int s n)) t e = e
    operand_is (operand.Const (constant.Bool b)) t e = e
    operand_is (operand.Const constant.Unit) t e = e

    operands_fit : (os : List Operand) (t : Tree) → operands_ty D ts os ≡ Some t → OperandsTy D G blank_ok ts f locals_ok os t
    unfolding operands_ty
    operands_fit [] t e = let same : t ≡ empty = grind arith in same
    operands_fit (o ∷ os) t e =
        let (u, e1, k1) = bind_some e in
        let (us, e2, k2) = bind_some k1 in
        (u, us, sym (some_is (more u us) t k2), operand_is o u e1, operands_fit os us e2)

    rvalue_fits : (r : TypedRvalue) (t : Tree) → rvalue_ty D ts r ≡ Some t → RvalueTy D G blank_ok ts f locals_ok r t
    unfolding rvalue_ty type_of
    rvalue_fits («use» a) t e = operand_is a t e
    rvalue_fits (binary op a b) t e =
        let (u, e1, k1) = bind_some e in
        let (w, e2, k2) = bind_some k1 in
        (u, w, binary_scalar op u w t k2, operand_is a u e1, operand_is b w e2)
    rvalue_fits (overflow op a b) t e =
        let (u, e1, k1) = bind_some e in
        let (w, e2, k2) = bind_some k1 in
        let (s, z, same) = overflow_is u w t k2 in
        (u, w, s, z, same, operand_is a u e1, operand_is b w e2)
    rvalue_fits (unary op a) t e = let (u, e1, k1) = bind_some e in (u, unary_scalar op u t k1, operand_is a u e1)
    rvalue_fits (cast a to) t e = let (u, e1, k1) = bind_some e in (u, cast_scalar to u t k1, operand_is a u e1)
    rvalue_fits (rvalue.ref p) t e = let (u, e1, k1) = bind_some e in (u, subst (λ y. pointee y ≡ Some u) (some_is (ref u) t k1) refl, e1)
    rvalue_fits (rvalue.ref_mut p) t e = let (u, e1, k1) = bind_some e in (u, subst (λ y. pointee y ≡ Some u) (some_is (ref_mut u) t k1) refl, e1)
    rvalue_fits (discriminant p) t e = let (u, e1, k1) = bind_some e in discriminant_scalar D u t k1
    rvalue_fits (tuple os) t e = operands_fit os t e
    rvalue_fits (build d v os) t e = let (us, e1, k1) = bind_some e in (us, operands_fit os us e1, built_fits d v us t k1)

    pub stmt_fits : (args : ℕ) (s : TypedStmt) → StmtTyped D args ts s → StmtTy D G blank_ok ts f locals_ok s
    unfolding type_of
    stmt_fits args (assign p r) a = (a.ty, a.place, rvalue_fits r a.ty a.rvalue)
    stmt_fits args (storage_live x) a = tt
    stmt_fits args (storage_dead x) a = tt
    stmt_fits args (set_discriminant p k) a = tt

-- ---- terminators

pub body_there : (fs : List TypedFunction) (i : ℕ) (g : TypedFunction) → slice_get fs i ≡ Some g → slice_get (map body_in fs) i ≡ Some g.body
body_there [] i g e = absurd (grind arith)
body_there (x ∷ fs) zero g e = ap (λ (y : TypedFunction). Some y.body) (some_is x g e)
body_there (x ∷ fs) (suc i) g e = body_there fs i g e

module _ (C : Crate) (ts : List Tree) (f : ℕ) where
  abbrev at_frame : Here
  at_frame = record { shapes = shapes_of C; locals = ts; frame = f }

  operand_as : (a : Operand) (t : Tree) → rules.operand_ty (shapes_of C) ts a ≡ Some t → operand_ty at_frame a ≡ Some t
  unfolding rules.operand_ty operand_ty type_of
  operand_as (operand.Copy p) t e = e
  operand_as (operand.Move p) t e = e
  operand_as (operand.Const (constant.Int s n)) t e = e
  operand_as (operand.Const (constant.Bool b)) t e = e
  operand_as (operand.Const constant.Unit) t e = e

  ops_fit : (n : ℕ) (ls : List Tree) (os : List Operand) (us : Tree) → operands_ty (shapes_of C) ts os ≡ Some us → us ≡ tuple_of (take n ls) → OpsTy at_frame os ls
  unfolding operands_ty
  ops_fit n ls [] us e s = tt
  ops_fit zero ls (o ∷ os) us e s =
      let (u, e1, k1) = bind_some e in
      let (vs, e2, k2) = bind_some k1 in
      absurd (let z : more u vs ≡ empty = some_is (more u vs) us k2 ∙ s in grind arith)
  ops_fit (suc n) [] (o ∷ os) us e s =
      let (u, e1, k1) = bind_some e in
      let (vs, e2, k2) = bind_some k1 in
      absurd (let z : more u vs ≡ empty = some_is (more u vs) us k2 ∙ s in grind arith)
  ops_fit (suc n) (l ∷ ls) (o ∷ os) us e s =
      let (u, e1, k1) = bind_some e in
      let (vs, e2, k2) = bind_some k1 in
      let z : more u vs ≡ more l (tuple_of (take n ls)) = some_is (more u vs) us k2 ∙ s in
      (operand_as o l (e1 ∙ ap Some (let q : u ≡ l = grind arith in q)), ops_fit n ls os vs e2 (grind arith))

  some_fit : (os : List Operand) (us : Tree) → operands_ty (shapes_of C) ts os ≡ Some us → SomeTys at_frame os
  unfolding operands_ty
  some_fit [] us e = tt
  some_fit (o ∷ os) us e =
      let (u, e1, k1) = bind_some e in
      let (vs, e2, k2) = bind_some k1 in
      ((u, operand_as o u e1), some_fit os vs e2)

  all_fit : (os : List Operand) → ((i : ℕ) (o : Operand) → slice_get os i ≡ Some o → (s : ScalarTy) × (rules.operand_ty (shapes_of C) ts o ≡ Some (scalar s))) → SomeTys at_frame os
  all_fit [] h = tt
  all_fit (o ∷ os) h = let (s, e) = h 0 o refl in ((scalar s, operand_as o (scalar s) e), all_fit os (λ i o e. h (suc i) o e))

  result_first : (b : TypedBody) (t : Tree) → slice_get b.locals 0 ≡ Some t → result_of b ≡ t
  result_first b t e = go b.locals e
    where
      go : (ls : List Tree) → slice_get ls 0 ≡ Some t → get_or ls 0 empty ≡ t
      go [] e = absurd (grind arith)
      go (l ∷ ls) e = grind arith

  tail_is : (ls : List Tree) → drop 1 ls ≡ args_of ls
  tail_is [] = refl
  tail_is (l ∷ ls) = refl

  callee_fits : Valid C → (g : Callee) (os : List Operand) (t us : Tree) → rules.callee_result_ty C g ≡ Some t → rules.callee_args_ty C g ≡ Some us → operands_ty (shapes_of C) ts os ≡ Some us → CalleeTy (code_of C) at_frame g os t
  callee_fits valid (callee.Local i) os t us er ea eo =
      let (g, e1, k1) = bind_some er in
      let (g2, e2, k2) = bind_some ea in
      let same : g ≡ g2 = some_is g g2 (sym e1 ∙ e2) in
      let (u, first) = result_there C g.body (body_formed_at C valid i.0 g e1) in
      let is_t : u ≡ t = sym (result_first g.body u first) ∙ some_is (result_of g.body) t k1 in
      let args : us ≡ tuple_of (take g.body.args (args_of g.body.locals)) = sym (some_is (tuple_of (rules.args_of g2.body)) us k2) ∙ ap (λ (h : TypedFunction). tuple_of (rules.args_of h.body)) (sym same) ∙ ap (λ ls. tuple_of (take g.body.args ls)) (tail_is g.body.locals) in
      (g.body, body_there C.functions i.0 g e1, first ∙ ap Some is_t, ops_fit g.body.args (args_of g.body.locals) os us eo args)
  callee_fits valid (callee.Outside o) os t us er ea eo =
      let (out, e1, k1) = bind_some er in
      (out, e1, some_is out.result t k1, some_fit os us eo)

  own_fits : Valid C → (t : Term) → OwnTyped C (shapes_of C) ts t → TermTy (code_of C) at_frame t
  unfolding type_of
  own_fits valid (term.Goto n) h = tt
  own_fits valid (term.Switch a arms n) h = (scalar h.ty, operand_as a (scalar h.ty) h.operand)
  own_fits valid term.Return h = tt
  own_fits valid term.Unreachable h = tt
  own_fits valid (term.Drop p n) h = tt
  own_fits valid (term.Call p g os n) h = (h.ty, h.place, callee_fits valid g os h.ty h.types h.result h.wanted h.operands)
  own_fits valid (term.Assert a c m os n) h = ((bool_ty, operand_as a bool_ty h.condition), all_fit os h.message)

-- ---- the crate

one_variant : (C : Crate) → Valid C → OneVariant (shapes_of C)
unfolding is_formed
one_variant C valid d s e en =
    let (def, at, same) = shape_is C d s e in
    let formed = list_all_true-at (def_formed C) C.defs d def (and_true-left (list_all (def_formed C) C.defs) (list_all (outside_formed C) C.outsides && list_all (function_formed C) C.functions) valid.formed) at in
    let first = and_true-left (def.is_enum || nat_eq (length def.variants) 1) (list_all (variant_formed C) def.variants) formed in
    rw same (length_map def.variants ∙ count def (rw same at en) first)
  where
    length_map : (vs : List rvalue.TypedVariant) → length (map fields_tuple vs) ≡ length vs
    length_map [] = refl
    length_map (v ∷ vs) = ap suc (length_map vs)

    count : (def : TypedDef) → def.is_enum ≡ false → (def.is_enum || nat_eq (length def.variants) 1) ≡ true → length def.variants ≡ 1
    count def en h = eqb-true (length def.variants) 1 (rw en at h)

pub body_back : (fs : List TypedFunction) (i : ℕ) (b : TypedBody) → slice_get (map body_in fs) i ≡ Some b → (g : TypedFunction) × (slice_get fs i ≡ Some g) × (g.body ≡ b)
body_back [] i b e = absurd (grind arith)
body_back (x ∷ fs) zero b e = (x, refl, some_is x.body b e)
body_back (x ∷ fs) (suc i) b e = body_back fs i b e

ask_fits : (t : Tree) → def_rules.is_scalar_or_unit t ≡ true → AskTy t
ask_fits (scalar s) e = inl refl
ask_fits empty e = inr refl
ask_fits t e = absurd (grind arith)

pub valid_code : (C : Crate) → Valid C → ValidCode (code_of C)
valid_code C valid = record {
  blank_ok = blanks;
  stmts = λ G f g b i k n x e1 e2 e3 ok.
      let (h, at, same) = body_back C.functions g b e1 in
      let e2' : slice_get h.body.blocks i ≡ Some k = ap (λ (b : TypedBody). slice_get b.blocks i) same ∙ e2 in
      let typed : StmtTyped (shapes_of C) b.args b.locals x = subst (λ (b : TypedBody). StmtTyped (shapes_of C) b.args b.locals x) same (stmt_at C valid g i n h k x at e2' e3) in
      stmt_fits (shapes_of C) (shapes_tupled C) (one_variant C valid) G (blanks G) b.locals f ok b.args x typed;
  terms = λ f g b i k e1 e2.
      let (h, at, same) = body_back C.functions g b e1 in
      let e2' : slice_get h.body.blocks i ≡ Some k = ap (λ (b : TypedBody). slice_get b.blocks i) same ∙ e2 in
      subst (λ (b : TypedBody). TermTy (code_of C) (record { shapes = shapes_of C; locals = b.locals; frame = f }) k.term) same (own_fits C h.body.locals f valid k.term (term_at C valid g i h k at e2').own);
  result = λ g b e.
      let (h, at, same) = body_back C.functions g b e in
      subst (λ (b : TypedBody). (t : Tree) × ResultTy b.locals t) same (result_there C h.body (body_formed_at C valid g h at));
  asks = λ o out e. ask_fits out.result (outside_scalar C valid o out e).1;
  destructors = λ d df e g eg b eb. destroys d df e g eg b eb;
}
  where
    blanks : (G : TypeMap) (t : Tree) → HasTy (shapes_of C) G t (blank (shapes_of C) t)
    blanks G = blank_typed (shapes_of C) G (shapes_tupled C) (apart_in C valid)

    destroys : (d : ℕ) (df : Shape) → slice_get (shapes_of C) d ≡ Some df → DestructorTy (code_of C) d df
    destroys d df e g eg b eb =
        let (h, at, is) = destructor_found C d g (some_bind _ e eg) in
        let same : h.body ≡ b = some_is h.body b (sym (body_there C.functions g h at) ∙ eb) in
        let locals : b.locals ≡ empty ∷ ref_mut (named d) ∷ is.others = ap (λ (b : TypedBody). b.locals) (sym same) ∙ is.locals in
        rw locals refl
