-- One id for each type: what ids of a table stand for tells them apart.
use Rattle.std.proofs.Common.{IsTrue, ◌≡◌, ℕ, suc, zero, ◌<◌, ◌≤◌, List, [], ◌∷◌, length, slice_get, Some, refl, sym, ap, ap₂, ◌∙◌, arith, rules}
use Rattle.mir_syntax.specs.declared.types.TyId.{TyId}
use Rattle.mir_syntax.specs.declared.types.ScalarTy.{ScalarTy}
use Rattle.mir_syntax.specs.declared.types.Ty.{Ty}
use Rattle.mir_syntax.specs.declared.types.Ty.TheVariants.{Scalar, Tuple, Ref, RefMut, Named}
use Rattle.mir_syntax.specs.Tree.{Tree, scalar, empty, more, ref, ref_mut, named, at_id, at_ids, node, trees_of}
use Rattle.mir_syntax.specs.Table.{IsTable, all_below, ids_below}
use Rattle.mir_syntax.proofs.Trees.{at_id-node}
use Rattle.mir_syntax.proofs.Growth.{lt-more, all_below-more}

-- ---- a type of the table, by what it stands for

-- what stands for a scalar type
pub node-scalar : (trees : List Tree) (ty : Ty) (k : ScalarTy) → node trees ty ≡ scalar k → ty ≡ Scalar k
node-scalar trees (Scalar s) k h = let same : s ≡ k = cc in ap Scalar same
node-scalar trees (Tuple []) k h = absurd cc
node-scalar trees (Tuple (a ∷ rest)) k h = absurd cc
node-scalar trees (Ref a) k h = absurd cc
node-scalar trees (RefMut a) k h = absurd cc
node-scalar trees (Named a) k h = absurd cc

-- what stands for the empty tuple
pub node-empty : (trees : List Tree) (ty : Ty) → node trees ty ≡ empty → ty ≡ Tuple []
node-empty trees (Scalar s) h = absurd cc
node-empty trees (Tuple []) h = refl
node-empty trees (Tuple (a ∷ rest)) h = absurd cc
node-empty trees (Ref a) h = absurd cc
node-empty trees (RefMut a) h = absurd cc
node-empty trees (Named a) h = absurd cc

-- what stands for a tuple with a first part
pub node-more : (trees : List Tree) (ty : Ty) (t ts : Tree) → node trees ty ≡ more t ts → (id : TyId) × ((ids : List TyId) × ((ty ≡ Tuple (id ∷ ids)) × ((at_id trees id ≡ t) × (at_ids trees ids ≡ ts))))
node-more trees (Scalar s) t ts h = absurd cc
node-more trees (Tuple []) t ts h = absurd cc
node-more trees (Tuple (a ∷ rest)) t ts h = let first : at_id trees a ≡ t = cc in let others : at_ids trees rest ≡ ts = cc in (a, (rest, (refl, (first, others))))
node-more trees (Ref a) t ts h = absurd cc
node-more trees (RefMut a) t ts h = absurd cc
node-more trees (Named a) t ts h = absurd cc

-- what stands for a shared reference
pub node-ref : (trees : List Tree) (ty : Ty) (t : Tree) → node trees ty ≡ ref t → (id : TyId) × ((ty ≡ Ref id) × (at_id trees id ≡ t))
node-ref trees (Scalar s) t h = absurd cc
node-ref trees (Tuple []) t h = absurd cc
node-ref trees (Tuple (a ∷ rest)) t h = absurd cc
node-ref trees (Ref a) t h = let same : at_id trees a ≡ t = cc in (a, (refl, same))
node-ref trees (RefMut a) t h = absurd cc
node-ref trees (Named a) t h = absurd cc

-- what stands for a mutable reference
pub node-ref_mut : (trees : List Tree) (ty : Ty) (t : Tree) → node trees ty ≡ ref_mut t → (id : TyId) × ((ty ≡ RefMut id) × (at_id trees id ≡ t))
node-ref_mut trees (Scalar s) t h = absurd cc
node-ref_mut trees (Tuple []) t h = absurd cc
node-ref_mut trees (Tuple (a ∷ rest)) t h = absurd cc
node-ref_mut trees (Ref a) t h = absurd cc
node-ref_mut trees (RefMut a) t h = let same : at_id trees a ≡ t = cc in (a, (refl, same))
node-ref_mut trees (Named a) t h = absurd cc

-- what stands for a definition
pub node-named : (trees : List Tree) (ty : Ty) (d : ℕ) → node trees ty ≡ named d → ty ≡ Named d
node-named trees (Scalar s) d h = absurd cc
node-named trees (Tuple []) d h = absurd cc
node-named trees (Tuple (a ∷ rest)) d h = absurd cc
node-named trees (Ref a) d h = absurd cc
node-named trees (RefMut a) d h = absurd cc
node-named trees (Named a) d h = let same : a ≡ d = cc in ap Named same

-- ---- what ids stand for tells them apart

-- ids below a bound are told apart by what they stand for
abbrev pub TellsApart : List Tree → ℕ → Type 0
TellsApart trees n = (a b : TyId) → a.0 < n → b.0 < n → at_id trees a ≡ at_id trees b → a ≡ b

same_ids : (trees : List Tree) (n : ℕ) → TellsApart trees n → (xs ys : List TyId) → IsTrue (all_below n xs) → IsTrue (all_below n ys) → at_ids trees xs ≡ at_ids trees ys
    → xs ≡ ys
same_ids trees n apart [] [] hx hy e = refl
same_ids trees n apart [] (y ∷ ys) hx hy e = absurd cc
same_ids trees n apart (x ∷ xs) [] hx hy e = absurd cc
same_ids trees n apart (x ∷ xs) (y ∷ ys) hx hy e =
    let left : (x.0 < n) × IsTrue (all_below n xs) = search rules in
    let right : (y.0 < n) × IsTrue (all_below n ys) = search rules in
    let first : at_id trees x ≡ at_id trees y = cc in
    let rest : at_ids trees xs ≡ at_ids trees ys = cc in
    ap₂ (λ z zs. z ∷ zs) (apart x y left.0 right.0 first) (same_ids trees n apart xs ys left.1 right.1 rest)

same_tuple : (trees : List Tree) (n : ℕ) → TellsApart trees n → (xs : List TyId) (ty : Ty) → IsTrue (all_below n xs) → IsTrue (ids_below n ty) → at_ids trees xs ≡ node trees ty
    → Tuple xs ≡ ty
same_tuple trees n apart [] ty hx ht e = sym (node-empty trees ty (sym e))
same_tuple trees n apart (x ∷ xs) ty hx ht e =
    let as_more = node-more trees ty (at_id trees x) (at_ids trees xs) (sym e) in
    let is : ty ≡ Tuple (as_more.0 ∷ as_more.1.0) = as_more.1.1.0 in
    let below : IsTrue (all_below n (as_more.0 ∷ as_more.1.0)) = rw is at ht in
    let parts : at_ids trees (x ∷ xs) ≡ at_ids trees (as_more.0 ∷ as_more.1.0) = ap₂ more (sym as_more.1.1.1.0) (sym as_more.1.1.1.1) in
    ap Tuple (same_ids trees n apart (x ∷ xs) (as_more.0 ∷ as_more.1.0) hx below parts) ∙ sym is

-- types made of ids that are told apart are told apart
pub node-apart : (trees : List Tree) (n : ℕ) → TellsApart trees n → (s t : Ty) → IsTrue (ids_below n s) → IsTrue (ids_below n t) → node trees s ≡ node trees t → s ≡ t
node-apart trees n apart (Scalar s) t hs ht e = sym (node-scalar trees t s (sym e))
node-apart trees n apart (Tuple xs) t hs ht e = same_tuple trees n apart xs t hs ht e
node-apart trees n apart (Ref a) t hs ht e =
    let other = node-ref trees t (at_id trees a) (sym e) in
    let below : IsTrue (ids_below n (Ref other.0)) = rw other.1.0 at ht in
    ap Ref (apart a other.0 (search rules) (search rules) (sym other.1.1)) ∙ sym other.1.0
node-apart trees n apart (RefMut a) t hs ht e =
    let other = node-ref_mut trees t (at_id trees a) (sym e) in
    let below : IsTrue (ids_below n (RefMut other.0)) = rw other.1.0 at ht in
    ap RefMut (apart a other.0 (search rules) (search rules) (sym other.1.1)) ∙ sym other.1.0
node-apart trees n apart (Named d) t hs ht e = sym (node-named trees t d (sym e))

pub ids_below-more : (n m : ℕ) → n ≤ m → (ty : Ty) → IsTrue (ids_below n ty) → IsTrue (ids_below m ty)
ids_below-more n m le (Scalar s) h = refl
ids_below-more n m le (Tuple ids) h = all_below-more n m le ids h
ids_below-more n m le (Ref a) h = lt-more n m a.0 le h
ids_below-more n m le (RefMut a) h = lt-more n m a.0 le h
ids_below-more n m le (Named d) h = refl

one_id : (a b : TyId) → a.0 ≡ b.0 → a ≡ b
one_id a b e = let make : ℕ → TyId = λ n. record { 0 = n } in ap make e

entry : (types : List Ty) (i : ℕ) → i < length types → (ty : Ty) × (slice_get types i ≡ Some ty)
entry [] i h = absurd (omega arith)
entry (ty ∷ types) zero h = (ty, refl)
entry (ty ∷ types) (suc i) h = entry types i (omega arith)

apart-below : (types : List Ty) → IsTable types → (n : ℕ) → n ≤ length types → TellsApart (trees_of types) n
apart-below types table zero h a b ha hb e = absurd (omega arith)
apart-below types table (suc n) h a b ha hb e =
    let trees = trees_of types in
    let s = entry types a.0 (omega arith) in
    let t = entry types b.0 (omega arith) in
    let made_s = ids_below-more a.0 n (omega arith) s.0 (table.made a.0 s.0 s.1) in
    let made_t = ids_below-more b.0 n (omega arith) t.0 (table.made b.0 t.0 t.1) in
    let nodes : node trees s.0 ≡ node trees t.0 = sym (at_id-node types a s.0 table s.1) ∙ e ∙ at_id-node types b t.0 table t.1 in
    let same : s.0 ≡ t.0 = node-apart trees n (apart-below types table n (omega arith)) s.0 t.0 made_s made_t nodes in
    one_id a b (table.once a.0 b.0 s.0 s.1 (t.1 ∙ ap Some (sym same)))

-- one id for each type: ids of a table that stand for one type are one id
pub one-id-each : (types : List Ty) (a b : TyId) → IsTable types → a.0 < length types → b.0 < length types → at_id (trees_of types) a ≡ at_id (trees_of types) b → a ≡ b
one-id-each types a b table ha hb e = apart-below types table (length types) (omega arith) a b ha hb e

-- a type that is made of ids of a table is told from each type there by what it stands for
pub node-injective : (types : List Ty) (s t : Ty) → IsTable types → IsTrue (ids_below (length types) s) → IsTrue (ids_below (length types) t)
    → node (trees_of types) s ≡ node (trees_of types) t → s ≡ t
node-injective types s t table hs ht e = node-apart (trees_of types) (length types) (apart-below types table (length types) (omega arith)) s t hs ht e
