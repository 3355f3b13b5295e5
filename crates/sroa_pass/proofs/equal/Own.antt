-- The fields of a type of the table.
use Rattle.std.proofs.Common.{rules, ◌≡◌, refl, sym, ap, ◌∙◌, ℕ, ◌<◌, IsTrue, List, [], ◌∷◌, map, Some, None}
use Rattle.std.specs.List.{list_all}
use Rattle.std.proofs.lemmas.List.{append-nil}
use Rattle.mir_syntax.specs.declared.types.Field.{Field}
use Rattle.mir_syntax.specs.declared.types.ScalarTy.{ScalarTy}
use Rattle.mir_syntax.specs.declared.types.TyId.{TyId}
use Rattle.mir_syntax.specs.declared.program.Program.{Program}
use Rattle.mir_syntax.specs.Tree.{Tree, scalar, more, ref, ref_mut, named, tuple_of, at_id, at_ids, trees_of}
use Rattle.mir_syntax.specs.Crate.{crate_of, field_of}
use Rattle.mir_syntax.specs.Table.{all_below}
use Rattle.mir_syntax.specs.Ids.{field_below}
use Rattle.mir_syntax.specs.Shapes.{◌>>=◌, Shape, shapes_of, fields_of, fields_tree, field_ty_of, field_id}
use Rattle.sroa_pass.specs.Split.{parts_of, if_any}
use Rattle.sroa_pass.specs.Code.{own_fields, Adds}

parts_of_tuple : (ts : List Tree) → parts_of (tuple_of ts) ≡ Some ts
unfolding ◌>>=◌
parts_of_tuple [] = refl
parts_of_tuple (t ∷ ts) = ap (λ o. o >>= λ us. Some (t ∷ us)) (parts_of_tuple ts)

fields_of_tuple : (D : List Shape) (ts : List Tree) → fields_of D (tuple_of ts) ≡ Some (tuple_of ts)
fields_of_tuple D [] = refl
fields_of_tuple D (t ∷ ts) = refl

module _ (D : List Shape) (trees : List Tree) where
  ids_tuple : (ids : List TyId) → at_ids trees ids ≡ tuple_of (map (at_id trees) ids)
  ids_tuple [] = refl
  ids_tuple (id ∷ ids) = ap (more (at_id trees id)) (ids_tuple ids)

  own_by : (t u : Tree) (ts : List Tree) → fields_of D t ≡ Some u → parts_of u ≡ Some ts → own_fields D t ≡ ts
  unfolding ◌>>=◌
  own_by t u ts e h = ap (λ o. if_any (o >>= parts_of)) e ∙ ap if_any h

  pub own_tuple : (t : Tree) (ids : List TyId) → t ≡ at_ids trees ids → own_fields D t ≡ map (at_id trees) ids
  own_tuple t ids e =
      let ts = map (at_id trees) ids in
      let is : t ≡ tuple_of ts = e ∙ ids_tuple ids in
      own_by t (tuple_of ts) ts (ap (fields_of D) is ∙ fields_of_tuple D ts) (parts_of_tuple ts)

  field_trees : (fields : List Field) → map field_ty_of (map (field_of trees) fields) ≡ map (at_id trees) (map field_id fields)
  field_trees [] = refl
  field_trees (f ∷ fields) = ap (λ ts. at_id trees f.ty ∷ ts) (field_trees fields)

  pub own_struct : (t : Tree) (d : ℕ) (fields : List Field) → t ≡ named d → Some (fields_tree trees fields) ≡ fields_of D (named d) → own_fields D t ≡ map (at_id trees) (map field_id fields)
  own_struct t d fields e h =
      let ts = map field_ty_of (map (field_of trees) fields) in
      own_by t (tuple_of ts) ts (ap (fields_of D) e ∙ sym h) (parts_of_tuple ts) ∙ field_trees fields

  pub own_enum : (t : Tree) (d : ℕ) → t ≡ named d → None ≡ fields_of D (named d) → own_fields D t ≡ []
  unfolding ◌>>=◌
  own_enum t d e h = ap (λ o. if_any (o >>= parts_of)) (ap (fields_of D) e ∙ sym h)

  pub own_scalar : (t : Tree) (s : ScalarTy) → t ≡ scalar s → own_fields D t ≡ []
  unfolding ◌>>=◌
  own_scalar t s e = ap (own_fields D) e

  pub own_ref : (t u : Tree) → t ≡ ref u → own_fields D t ≡ []
  unfolding ◌>>=◌
  own_ref t u e = ap (own_fields D) e

  pub own_ref_mut : (t u : Tree) → t ≡ ref_mut u → own_fields D t ≡ []
  unfolding ◌>>=◌
  own_ref_mut t u e = ap (own_fields D) e

pub ids_of_fields : (n : ℕ) (fields : List Field) → IsTrue (list_all (field_below n) fields) → IsTrue (all_below n (map field_id fields))
ids_of_fields n [] h = h
ids_of_fields n (f ∷ fields) h =
    let both : (f.ty.0 < n) × IsTrue (list_all (field_below n) fields) = search rules in
    let rest = ids_of_fields n fields both.1 in
    let low = both.0 in
    search rules

pub adds_none : (p : Program) (id : TyId) (old : List TyId) → own_fields (shapes_of (crate_of p)) (at_id (trees_of p.types) id) ≡ [] → Adds p id old old
adds_none p id old e = record { added = []; is = sym (append-nil old); types = sym e; in_table = λ h l. refl }
