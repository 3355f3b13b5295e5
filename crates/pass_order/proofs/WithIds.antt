-- Of a body whose ids lie in the table these come back.
use Rattle.std.proofs.Common.{◌≡◌, refl, sym, ap, ap₂, ◌∙◌, IsTrue, ℕ, zero, suc, ◌+◌, ◌<◌, Bool, true, false, ◌&&◌, nat_lt, List, [], ◌∷◌, map, length, get_or, arith}
use Rattle.std.specs.Prelude.{if◌then◌else◌}
use Rattle.std.specs.List.{list_all}
use Rattle.std.proofs.lemmas.Bool.Decides.{nat_tests}
use Rattle.mir_syntax.specs.declared.types.TyId.{TyId}
use Rattle.mir_syntax.specs.declared.types.ScalarTy.TheVariants as scalar_ty
use Rattle.mir_syntax.specs.declared.types.Ty.{Ty}
use Rattle.mir_syntax.specs.declared.body.Rvalue.{Rvalue}
use Rattle.mir_syntax.specs.declared.body.Rvalue.TheVariants as rvalue
use Rattle.mir_syntax.specs.declared.body.Stmt.{Stmt}
use Rattle.mir_syntax.specs.declared.body.Stmt.TheVariants as stmt
use Rattle.mir_syntax.specs.declared.body.Block.{Block}
use Rattle.mir_syntax.specs.declared.body.Body.{Body}
use Rattle.mir_syntax.specs.Tree.{Tree, scalar, at_id, trees_of}
use Rattle.mir_syntax.specs.Crate.{rvalue_of, stmt_of, block_of, body_of}
use Rattle.mir_syntax.specs.Table.{IsTable, all_below}
use Rattle.mir_syntax.specs.Ids.{rvalue_below, stmt_below, block_below, BodyInTable}
use Rattle.mir_syntax.proofs.Trees.{length-trees_of}
use Rattle.mir_syntax.proofs.OneId.{one-id-each}
use Rattle.mir_rules.specs.Same.{same_tree}
use Rattle.mir_rules.proofs.Same.{same_tree_is, same_tree_refl}
use Rattle.pass_order.specs.WithIds.{id_from, id_of_type, rvalue_with_ids, stmt_with_ids, block_with_ids, body_with_ids}

-- the id that is found stands for the type
record Found (trees : List Tree) (t : Tree) (i j : ℕ) : Type 0 where
  pub offset : ℕ
  pub is : j ≡ i + offset
  pub low : offset < length trees
  pub there : get_or trees offset (scalar scalar_ty.Bool) ≡ t

found : (trees : List Tree) (t : Tree) (i k : ℕ) → k < length trees → get_or trees k (scalar scalar_ty.Bool) ≡ t → Found trees t i (id_from i trees t)
found [] t i k l e = absurd (omega arith)
found (u ∷ us) t i k l e = go (same_tree u t) refl (λ j lt h. found us t (suc i) j lt h)
  where
    later : (k : ℕ) → k < length (u ∷ us) → get_or (u ∷ us) k (scalar scalar_ty.Bool) ≡ t → same_tree u t ≡ false → (j : ℕ) × (j < length us) × (get_or us j (scalar scalar_ty.Bool) ≡ t)
    later zero l e f = absurd (let s = same_tree_refl u in let r : same_tree u u ≡ false = ap (same_tree u) e ∙ f in grind arith)
    later (suc j) l e f = (j, omega (arith, l), e)

    go : (b : Bool) → same_tree u t ≡ b → ((j : ℕ) → j < length us → get_or us j (scalar scalar_ty.Bool) ≡ t → Found us t (suc i) (id_from (suc i) us t)) → Found (u ∷ us) t i (if b then i else id_from (suc i) us t)
    go true f r = record { offset = 0; is = omega arith; low = omega arith; there = same_tree_is u t f }
    go false f r =
        let n = later k l e f in
        let m = r n.0 n.1 n.2 in
        record { offset = suc m.offset; is = (let s = m.is in omega (arith, s)); low = (let s = m.low in omega (arith, s)); there = m.there }

module _ (types : List Ty) (table : IsTable types) where
  pub id_back : (id : TyId) → id.0 < length types → id_of_type (trees_of types) (at_id (trees_of types) id) ≡ id
  id_back id l =
      let f = found (trees_of types) (at_id (trees_of types) id) 0 id.0 (omega (arith, l, length-trees_of types)) refl in
      let other = id_of_type (trees_of types) (at_id (trees_of types) id) in
      let is = f.is in
      let place : f.offset ≡ other.0 = omega (arith, is) in
      let low : other.0 < length types = (let a = f.low in omega (arith, a, place, length-trees_of types)) in
      one-id-each types other id table low l (sym (ap (λ (n : ℕ). get_or (trees_of types) n (scalar scalar_ty.Bool)) place) ∙ f.there)

  below_is : (a n : ℕ) → IsTrue (nat_lt a n) → a < n
  below_is a n h = grind (arith, nat_tests)

  and_left : (a b : Bool) → IsTrue (a && b) → IsTrue a
  and_left true b h = refl
  and_left false b h = absurd (grind arith)

  and_right : (a b : Bool) → IsTrue (a && b) → IsTrue b
  and_right true b h = h
  and_right false b h = absurd (grind arith)

  ids_back : (ids : List TyId) → IsTrue (all_below (length types) ids) → map (id_of_type (trees_of types)) (map (at_id (trees_of types)) ids) ≡ ids
  ids_back [] h = refl
  ids_back (id ∷ ids) h = ap₂ (λ (x : TyId) (xs : List TyId). x ∷ xs) (id_back id (below_is id.0 (length types) (and_left (nat_lt id.0 (length types)) (all_below (length types) ids) h))) (ids_back ids (and_right (nat_lt id.0 (length types)) (all_below (length types) ids) h))

  rvalue_is : (r : Rvalue) → IsTrue (rvalue_below (length types) r) → rvalue_with_ids (trees_of types) (rvalue_of (trees_of types) r) ≡ r
  rvalue_is (rvalue.Use a) h = refl
  rvalue_is (rvalue.Binary op a b) h = refl
  rvalue_is (rvalue.Overflow op a b) h = refl
  rvalue_is (rvalue.Unary op a) h = refl
  rvalue_is (rvalue.Cast a ty) h = ap (rvalue.Cast a) (id_back ty (below_is ty.0 (length types) h))
  rvalue_is (rvalue.Ref p) h = refl
  rvalue_is (rvalue.RefMut p) h = refl
  rvalue_is (rvalue.Discriminant p) h = refl
  rvalue_is (rvalue.Tuple parts) h = refl
  rvalue_is (rvalue.Build d v parts) h = refl

  stmt_is : (s : Stmt) → IsTrue (stmt_below (length types) s) → stmt_with_ids (trees_of types) (stmt_of (trees_of types) s) ≡ s
  stmt_is (stmt.Assign p r) h = ap (stmt.Assign p) (rvalue_is r h)
  stmt_is (stmt.StorageLive x) h = refl
  stmt_is (stmt.StorageDead x) h = refl
  stmt_is (stmt.SetDiscriminant p k) h = refl

  all_back : {A B : Type 0} (f : A → B) (g : B → A) (p : A → Bool) → ((x : A) → IsTrue (p x) → g (f x) ≡ x) → (xs : List A) → IsTrue (list_all p xs) → map g (map f xs) ≡ xs
  all_back f g p h [] k = refl
  all_back f g p h (x ∷ xs) k = ap₂ (λ y ys. y ∷ ys) (h x (and_left (p x) (list_all p xs) k)) (all_back f g p h xs (and_right (p x) (list_all p xs) k))

  block_is : (k : Block) → IsTrue (block_below (length types) k) → block_with_ids (trees_of types) (block_of (trees_of types) k) ≡ k
  block_is k h = ap (λ ss. let b : Block = record k { stmts = ss } in b) (all_back (stmt_of (trees_of types)) (stmt_with_ids (trees_of types)) (stmt_below (length types)) stmt_is k.stmts h)

  -- a body whose ids lie in the table is told by the body that it is seen as
  pub body_back : (b : Body) → BodyInTable types b → body_with_ids (trees_of types) (body_of (trees_of types) b) ≡ b
  body_back b h =
      let locals = ids_back b.locals (and_left (all_below (length types) b.locals) (list_all (block_below (length types)) b.blocks) h) in
      let blocks = all_back (block_of (trees_of types)) (block_with_ids (trees_of types)) (block_below (length types)) block_is b.blocks (and_right (all_below (length types) b.locals) (list_all (block_below (length types)) b.blocks) h) in
      λ i. record { args = b.args; locals = locals i; blocks = blocks i }
