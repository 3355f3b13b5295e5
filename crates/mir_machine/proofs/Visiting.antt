-- Items of drops, the next one last.
use Rattle.std.proofs.Common.{Bool, true, false, if◌then◌else◌, slice_get, ◌≡◌, ℕ, suc, ◌+◌, ◌<◌, IsTrue, List, [], ◌∷◌, ◌++◌, map, length, drop, get_or, Option, Some, None, refl, sym, ap, subst, ◌∙◌, arith, append_assoc, drop-cons}
use Rattle.std.proofs.lemmas.List.{drop_all, reverse-append}
use Rattle.mir_syntax.specs.declared.types.TyId.{TyId}
use Rattle.mir_syntax.specs.declared.types.Field.{Field}
use Rattle.mir_syntax.specs.declared.body.Proj.{Proj}
use Rattle.mir_syntax.specs.declared.body.Proj.TheVariants as proj
use Rattle.mir_syntax.specs.declared.program.Program.{Program}
use Rattle.mir_syntax.specs.Tree.{Tree, at_id, at_ids, trees_of, node}
use Rattle.mir_syntax.specs.declared.types.Ty.{Ty}
use Rattle.mir_syntax.specs.declared.types.Ty.TheVariants.{Scalar, Tuple, Ref, RefMut, Named}
use Rattle.mir_syntax.specs.Shapes.{Shape, fields_tree, fields_of_struct, struct_fields, variant_of_enum, ◌>>=◌}
use Rattle.mir_syntax.specs.Parts.{path_formed}
use Rattle.mir_semantics.specs.Values.{Addr, Value, number, nil, cons, variant, pointer, hole}
use Rattle.mir_semantics.specs.Memory.{further}
use Rattle.mir_semantics.specs.Step as sem
use Rattle.mir_semantics.specs.Step.{field_visits, visits_of, variant_in, enum_visits, variant_visits, shape_visits}
use Rattle.mir_meaning.specs.Programs.{type_in}
use Rattle.mir_meaning.specs.Views.{addr_of}
use Rattle.mir_meaning.proofs.Walks.{formed_append}
use Rattle.mir_machine.specs.declared.control.Visit.{Visit}
use Rattle.mir_machine.specs.Seen.{visit_in, items_in, path_inside}

pub item_first : (p : Program) (items : List Visit) (v : Visit) → items_in p (items ++ v ∷ []) ≡ visit_in p v ∷ items_in p items
item_first p items v = ap (map (visit_in p)) (reverse-append items (v ∷ []))

abbrev visit_of : Addr → ℕ → Tree → sem.Visit
visit_of a i t = record { addr = further a (proj.Field i); ty = t }

types_at : (trees : List Tree) (a : Addr) (ids : List TyId) (k : ℕ) (d : TyId) → k < length ids
    → field_visits a k (at_ids trees (drop k ids)) ≡ visit_of a k (at_id trees (get_or ids k d)) ∷ field_visits a (suc k) (at_ids trees (drop (suc k) ids))
types_at trees a ids k d h = ap (λ l. field_visits a k (at_ids trees l)) (drop-cons ids k d h)

fields_at : (trees : List Tree) (a : Addr) (fields : List Field) (k : ℕ) (d : Field) → k < length fields
    → field_visits a k (fields_tree trees (drop k fields)) ≡ visit_of a k (at_id trees (get_or fields k d).ty) ∷ field_visits a (suc k) (fields_tree trees (drop (suc k) fields))
fields_at trees a fields k d h = ap (λ l. field_visits a k (fields_tree trees l)) (drop-cons fields k d h)

item_is : (a b : Addr) (t u : Tree) (rest : List sem.Visit) → a ≡ b → t ≡ u → ◌≡◌ {A = List sem.Visit} (record { addr = a; ty = t } ∷ rest) (record { addr = b; ty = u } ∷ rest)
item_is a b t u rest e f = ap (λ x. record { addr = x; ty = t } ∷ rest) e ∙ ap (λ x. record { addr = b; ty = x } ∷ rest) f

pub types_step : (p : Program) (a : Addr) (ids : List TyId) (j k : ℕ) (items old new : List Visit) (v : Visit) (d : TyId) → j ≡ k + 1 → k < length ids → new ≡ items ++ v ∷ [] → addr_of v.at ≡ further a (proj.Field k) → v.ty ≡ get_or ids k d
    → items_in p items ≡ field_visits a j (at_ids (trees_of p.types) (drop j ids)) ++ items_in p old
    → items_in p new ≡ field_visits a k (at_ids (trees_of p.types) (drop k ids)) ++ items_in p old
types_step p a ids j k items old new v d n l e at ty h =
    let one : j ≡ suc k = omega arith in
    ap (items_in p) e ∙ (item_first p items v ∙ (item_is _ _ _ _ _ at (ap (type_in p) ty)
    ∙ (ap (λ l. visit_of a k (type_in p (get_or ids k d)) ∷ l) (h ∙ ap (λ n. field_visits a n (at_ids (trees_of p.types) (drop n ids)) ++ items_in p old) one)
    ∙ ap (λ l. l ++ items_in p old) (sym (types_at (trees_of p.types) a ids k d l)))))

pub fields_step : (p : Program) (a : Addr) (fields : List Field) (j k : ℕ) (items old new : List Visit) (v : Visit) (d : Field) → j ≡ k + 1 → k < length fields → new ≡ items ++ v ∷ [] → addr_of v.at ≡ further a (proj.Field k) → v.ty ≡ (get_or fields k d).ty
    → items_in p items ≡ field_visits a j (fields_tree (trees_of p.types) (drop j fields)) ++ items_in p old
    → items_in p new ≡ field_visits a k (fields_tree (trees_of p.types) (drop k fields)) ++ items_in p old
fields_step p a fields j k items old new v d n l e at ty h =
    let one : j ≡ suc k = omega arith in
    ap (items_in p) e ∙ (item_first p items v ∙ (item_is _ _ _ _ _ at (ap (type_in p) ty)
    ∙ (ap (λ l. visit_of a k (type_in p (get_or fields k d).ty) ∷ l) (h ∙ ap (λ n. field_visits a n (fields_tree (trees_of p.types) (drop n fields)) ++ items_in p old) one)
    ∙ ap (λ l. l ++ items_in p old) (sym (fields_at (trees_of p.types) a fields k d l)))))

pub types_start : (p : Program) (a : Addr) (ids : List TyId) (old : List Visit) (n : ℕ) → n ≡ length ids → items_in p old ≡ field_visits a n (at_ids (trees_of p.types) (drop n ids)) ++ items_in p old
types_start p a ids old n e = ap (λ l. field_visits a n (at_ids (trees_of p.types) l) ++ items_in p old) (sym (drop_all n ids (omega (arith, e))))

pub fields_start : (p : Program) (a : Addr) (fields : List Field) (old : List Visit) (n : ℕ) → n ≡ length fields → items_in p old ≡ field_visits a n (fields_tree (trees_of p.types) (drop n fields)) ++ items_in p old
fields_start p a fields old n e = ap (λ l. field_visits a n (fields_tree (trees_of p.types) l) ++ items_in p old) (sym (drop_all n fields (omega (arith, e))))

pub formed_field : (ps : List Proj) (v : Option ℕ) (k : ℕ) → IsTrue (path_formed ps) → IsTrue (path_formed (path_inside ps v ++ proj.Field k ∷ []))
formed_field ps None k h = formed_append ps (proj.Field k ∷ []) h refl
formed_field ps (Some v) k h = subst (λ l. IsTrue (path_formed l)) (sym (append_assoc ps (proj.Downcast v ∷ []) (proj.Field k ∷ []))) (formed_append ps (proj.Downcast v ∷ (proj.Field k ∷ [])) h refl)

-- ---- the visits of the fields of a place

pub visits_tuple : (D : List Shape) (trees : List Tree) (a : Addr) (ids : List TyId) (v : Value) → visits_of D a (at_ids trees ids) v ≡ field_visits a 0 (at_ids trees ids)
visits_tuple D trees a [] v = refl
visits_tuple D trees a (id ∷ ids) v = refl

pub visits_none : (D : List Shape) (trees : List Tree) (a : Addr) (ty : Ty) (v : Value) → ((ids : List TyId) → ty ≡ Tuple ids → ⊥) → ((d : ℕ) → ty ≡ Named d → ⊥) → visits_of D a (node trees ty) v ≡ []
visits_none D trees a (Scalar s) v tuple name = refl
visits_none D trees a (Tuple ids) v tuple name = absurd (tuple ids refl)
visits_none D trees a (Ref b) v tuple name = refl
visits_none D trees a (RefMut b) v tuple name = refl
visits_none D trees a (Named d) v tuple name = absurd (name d refl)

by_enum : (s : Shape) (P : Type 0) → (s.is_enum ≡ true → P) → (s.is_enum ≡ false → P) → P
by_enum s P when unless = go s.is_enum refl
  where
    go : (b : Bool) → s.is_enum ≡ b → P
    go true e = when e
    go false e = unless e

enum_none : (a : Addr) (ts : List Tree) (v : Value) → variant_in v ≡ None → enum_visits a ts v ≡ []
enum_none a ts (number n) h = refl
enum_none a ts nil h = refl
enum_none a ts (cons v vs) h = refl
enum_none a ts (variant k v) h = absurd cc
enum_none a ts (pointer b) h = refl
enum_none a ts hole h = refl

enum_at : (a : Addr) (ts : List Tree) (v : Value) (k : ℕ) → variant_in v ≡ Some k → enum_visits a ts v ≡ variant_visits a k (slice_get ts k)
enum_at a ts (number n) k h = absurd cc
enum_at a ts nil k h = absurd cc
enum_at a ts (cons v vs) k h = absurd cc
enum_at a ts (variant j v) k h = let same : j ≡ k = cc in ap (λ i. variant_visits a i (slice_get ts i)) same
enum_at a ts (pointer b) k h = absurd cc
enum_at a ts hole k h = absurd cc

pub struct_visits : (a : Addr) (o : Option Shape) (t : Tree) (v : Value) → (o >>= fields_of_struct) ≡ Some t → shape_visits a o v ≡ field_visits a 0 t
unfolding ◌>>=◌
struct_visits a None t v h = absurd cc
struct_visits a (Some s) t v h =
    by_enum s (shape_visits a (Some s) v ≡ field_visits a 0 t)
    (λ e. absurd (let wrong : None ≡ Some t = sym (ap (λ b. if b then None else Some (struct_fields s)) e) ∙ h in cc))
    (λ e. (let same : Some (struct_fields s) ≡ Some t = sym (ap (λ b. if b then None else Some (struct_fields s)) e) ∙ h in
    let fields : struct_fields s ≡ t = cc in rw e (ap (field_visits a 0) fields)))

pub other_visits : (a : Addr) (o : Option Shape) (v : Value) → (o >>= fields_of_struct) ≡ None → variant_in v ≡ None → shape_visits a o v ≡ []
unfolding ◌>>=◌
other_visits a None v h n = refl
other_visits a (Some s) v h n =
    by_enum s (shape_visits a (Some s) v ≡ []) (λ e. rw e (enum_none a s.variants v n))
    (λ e. absurd (let wrong : Some (struct_fields s) ≡ None = sym (ap (λ b. if b then None else Some (struct_fields s)) e) ∙ h in cc))

pub enum_visits_are : (a : Addr) (o : Option Shape) (v : Value) (k : ℕ) → (o >>= fields_of_struct) ≡ None → variant_in v ≡ Some k → shape_visits a o v ≡ variant_visits a k (o >>= variant_of_enum k)
unfolding ◌>>=◌
enum_visits_are a None v k h n = refl
enum_visits_are a (Some s) v k h n =
    by_enum s (shape_visits a (Some s) v ≡ variant_visits a k (variant_of_enum k s)) (λ e. rw e (enum_at a s.variants v k n))
    (λ e. absurd (let wrong : Some (struct_fields s) ≡ None = sym (ap (λ b. if b then None else Some (struct_fields s)) e) ∙ h in cc))
