-- Blanks, part by part.
use Rattle.std.proofs.Common.{◌≡◌, ℕ, zero, suc, ◌-◌, ◌≤◌, Bool, true, false, if◌then◌else◌, List, [], ◌∷◌, map, length, take, slice_get, Option, Some, None, refl, sym, ap, ◌∙◌, arith}
use Rattle.std.proofs.lemmas.List.{take_all, length-map}
use Rattle.mir_syntax.specs.declared.types.TyId.{TyId}
use Rattle.mir_syntax.specs.declared.types.Field.{Field}
use Rattle.mir_syntax.specs.declared.types.Ty.{Ty}
use Rattle.mir_syntax.specs.declared.types.Ty.TheVariants.{Scalar, Tuple, Ref, RefMut, Named}
use Rattle.mir_syntax.specs.declared.program.Program.{Program}
use Rattle.mir_syntax.specs.Tree.{Tree, at_id, at_ids, node, trees_of}
use Rattle.mir_syntax.specs.Crate.{crate_of, def_of}
use Rattle.mir_syntax.specs.Shapes.{Shape, shapes_of, fields_tree, struct_fields}
use Rattle.mir_syntax.proofs.Places.{shapes_from-length}
use Rattle.mir_semantics.specs.Values.{Value, hole, listed, is_unit, blank, blank_by, blank_of, blank_def}
use Rattle.mir_meaning.specs.Programs.{shapes_in, parts_of}

pub blank_ids : (f : ℕ → Value) (trees : List Tree) (ids : List TyId) → blank_by f (at_ids trees ids) ≡ listed (map (λ id. blank_by f (at_id trees id)) ids)
blank_ids f trees [] = refl
blank_ids f trees (id ∷ ids) = rw (blank_ids f trees ids) refl

pub blank_fields : (f : ℕ → Value) (trees : List Tree) (fields : List Field) → blank_by f (fields_tree trees fields) ≡ listed (map (λ x. blank_by f (at_id trees x.ty)) fields)
blank_fields f trees [] = refl
blank_fields f trees (x ∷ fields) = rw (blank_fields f trees fields) refl

pub blank_other : (f : ℕ → Value) (trees : List Tree) (ty : Ty) → ((ids : List TyId) → ty ≡ Tuple ids → ⊥) → ((d : ℕ) → ty ≡ Named d → ⊥) → hole ≡ blank_by f (node trees ty)
blank_other f trees (Scalar s) tuple name = refl
blank_other f trees (Tuple ids) tuple name = absurd (tuple ids refl)
blank_other f trees (Ref a) tuple name = refl
blank_other f trees (RefMut a) tuple name = refl
blank_other f trees (Named d) tuple name = absurd (name d refl)

go_none : (f : ℕ → Value) (o : Option Shape) → None ≡ parts_of o → hole ≡ blank_of f o
go_none f None h = refl
go_none f (Some s) h = by_unit (is_unit s) refl
  where
    by_unit : (b : Bool) → is_unit s ≡ b → hole ≡ blank_of f (Some s)
    by_unit true e = rw e refl
    by_unit false e = absurd (let wrong : None ≡ Some (struct_fields s) = h ∙ ap (λ b. if b then None else Some (struct_fields s)) e in cc)

go_some : (f : ℕ → Value) (o : Option Shape) (t : Tree) → Some t ≡ parts_of o → blank_by f t ≡ blank_of f o
go_some f None t h = absurd cc
go_some f (Some s) t h = by_unit (is_unit s) refl
  where
    by_unit : (b : Bool) → is_unit s ≡ b → blank_by f t ≡ blank_of f (Some s)
    by_unit true e = absurd (let wrong : Some t ≡ None = h ∙ ap (λ b. if b then None else Some (struct_fields s)) e in cc)
    by_unit false e =
        let both : Some t ≡ Some (struct_fields s) = h ∙ ap (λ b. if b then None else Some (struct_fields s)) e in
        let same : t ≡ struct_fields s = cc in
        rw e (ap (blank_by f) same)

pub blank_unit : (D : List Shape) (n d : ℕ) → None ≡ parts_of (slice_get D d) → hole ≡ blank_def D n d
blank_unit D zero d h = refl
blank_unit D (suc n) d h = go_none (blank_def D n) (slice_get D d) h

pub blank_parts : (D : List Shape) (n d : ℕ) (t : Tree) → (n ≡ 0 → ⊥) → Some t ≡ parts_of (slice_get D d) → blank_by (blank_def D (n - 1)) t ≡ blank_def D n d
blank_parts D zero d t h e = absurd (h refl)
blank_parts D (suc n) d t h e = let one : suc n - 1 ≡ n = omega arith in rw one (go_some (blank_def D n) (slice_get D d) t e)

pub blank_last : (D : List Shape) (n d : ℕ) → n ≡ 0 → hole ≡ blank_def D n d
blank_last D zero d h = refl
blank_last D (suc n) d h = absurd (omega arith)

-- ---- where blanks are made

pub made_ids : (f : ℕ → Value) (trees : List Tree) (ids : List TyId) (n : ℕ) (parts : List Value) → parts ≡ map (λ id. blank_by f (at_id trees id)) (take n ids) → length ids ≤ n
    → listed parts ≡ blank_by f (at_ids trees ids)
made_ids f trees ids n parts e h = ap listed (e ∙ ap (map (λ id. blank_by f (at_id trees id))) (take_all n ids h)) ∙ sym (blank_ids f trees ids)

pub made_fields : (f : ℕ → Value) (trees : List Tree) (fields : List Field) (n : ℕ) (parts : List Value) → parts ≡ map (λ x. blank_by f (at_id trees x.ty)) (take n fields) → length fields ≤ n
    → listed parts ≡ blank_by f (fields_tree trees fields)
made_fields f trees fields n parts e h = ap listed (e ∙ ap (map (λ x. blank_by f (at_id trees x.ty))) (take_all n fields h)) ∙ sym (blank_fields f trees fields)

-- there are as many shapes as definitions
pub depth_enough : (p : Program) → length p.defs ≡ length (shapes_in p)
unfolding shapes_of
depth_enough p = sym (shapes_from-length (crate_of p).functions 0 (crate_of p).defs ∙ length-map p.defs (def_of (trees_of p.types)))

pub blank_whole : (p : Program) (t : Tree) (n : ℕ) (v : Value) → n ≡ length p.defs → v ≡ blank_by (blank_def (shapes_in p) n) t → v ≡ blank (shapes_in p) t
unfolding blank
blank_whole p t n v e h = h ∙ ap (λ m. blank_by (blank_def (shapes_in p) m) t) (e ∙ depth_enough p)
