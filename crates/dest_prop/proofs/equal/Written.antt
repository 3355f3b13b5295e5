-- The body that the code writes is the defined one.
use Rattle.std.proofs.Common.{◌≡◌, refl, sym, ap, ap₂, ◌∙◌, ℕ, Bool, true, false, not, nat_eq, ◌&&◌, cond, if◌then◌else◌, List, [], ◌∷◌, ◌++◌, map, reverse, Option, Some, None}
use Rattle.std.specs.List.{filter, list_all, list_any}
use Rattle.std.proofs.lemmas.List.{reverse-append}
use Rattle.mir_syntax.specs.declared.body.Rvalue.{Rvalue}
use Rattle.mir_syntax.specs.declared.body.Rvalue.TheVariants as rvalue
use Rattle.mir_syntax.specs.declared.body.Stmt.{Stmt}
use Rattle.mir_syntax.specs.declared.body.Stmt.TheVariants as stmt
use Rattle.mir_syntax.specs.declared.body.Block.{Block}
use Rattle.mir_syntax.specs.declared.body.Body.{Body}
use Rattle.mir_syntax.specs.Tree.{Tree, at_id}
use Rattle.mir_syntax.specs.Crate.{TypedStmt, assign, TypedBlock, TypedBody, rvalue_of, stmt_of, block_of, body_of}
use Rattle.mir_syntax.specs.Shapes.{Shape}
use Rattle.mir_syntax.specs.Table.{all_below}
use Rattle.mir_syntax.specs.Ids.{rvalue_below, stmt_below, block_below, body_below}
use Rattle.std.proofs.lemmas.Bool.{and_parts}
use Rattle.dest_prop.specs.declared.candidates.LocalCopy.{LocalCopy}
use Rattle.dest_prop.specs.Merged.{copies, place_home, rvalue_home, stmt_home, term_home, stays, block_home, merged_by, home_of, is_shared, merged}
use Rattle.dest_prop.specs.Code.{bare_copy, goes_home, bare_stays, bare_rvalue_home, bare_stmt_home, bare_stmts_home, bare_block_home}
use Rattle.dest_prop.proofs.equal.Effects.{copies_are, pairs_of}
use Rattle.dest_prop.proofs.equal.Grown.{or_false}

module _ (shared : ℕ → Bool) (home : ℕ → ℕ) where
  -- one statement more, or not
  pub kept_more : (kept kept2 : List Stmt) (s : Stmt) (ss : List Stmt) → kept ≡ reverse (bare_stmts_home shared home ss) → kept2 ≡ (if bare_stays shared home s then kept ++ bare_stmt_home shared home s ∷ [] else kept) → kept2 ≡ reverse (bare_stmts_home shared home (s ∷ ss))
  kept_more kept kept2 s ss e h =
      h ∙ ap (λ xs. if bare_stays shared home s then xs ++ bare_stmt_home shared home s ∷ [] else xs) e ∙ turn (bare_stays shared home s)
    where
      turn : (b : Bool) → (if b then reverse (bare_stmts_home shared home ss) ++ bare_stmt_home shared home s ∷ [] else reverse (bare_stmts_home shared home ss)) ≡ reverse (map (bare_stmt_home shared home) (cond b (s ∷ filter (bare_stays shared home) ss) (filter (bare_stays shared home) ss)))
      turn true = sym (reverse-append (bare_stmt_home shared home s ∷ []) (bare_stmts_home shared home ss))
      turn false = refl

  module _ (trees : List Tree) where
    rvalue_is : (r : Rvalue) → rvalue_of trees (bare_rvalue_home shared home r) ≡ rvalue_home shared home (rvalue_of trees r)
    rvalue_is (rvalue.Use a) = refl
    rvalue_is (rvalue.Binary op a b) = refl
    rvalue_is (rvalue.Overflow op a b) = refl
    rvalue_is (rvalue.Unary op a) = refl
    rvalue_is (rvalue.Cast a ty) = refl
    rvalue_is (rvalue.Ref p) = refl
    rvalue_is (rvalue.RefMut p) = refl
    rvalue_is (rvalue.Discriminant p) = refl
    rvalue_is (rvalue.Tuple parts) = refl
    rvalue_is (rvalue.Build d v parts) = refl

    stmt_is : (s : Stmt) → stmt_of trees (bare_stmt_home shared home s) ≡ stmt_home shared home (stmt_of trees s)
    stmt_is (stmt.Assign p r) = ap (assign (place_home home p)) (rvalue_is r)
    stmt_is (stmt.StorageLive x) = refl
    stmt_is (stmt.StorageDead x) = refl
    stmt_is (stmt.SetDiscriminant p k) = refl

    stays_is : (s : Stmt) → bare_stays shared home s ≡ stays shared home (stmt_of trees s)
    stays_is (stmt.Assign p r) = go (bare_copy (stmt.Assign p r)) (copies_are trees (stmt.Assign p r))
      where
        go : (o : Option LocalCopy) → copies (stmt_of trees (stmt.Assign p r)) ≡ pairs_of o → not (goes_home shared home o) ≡ stays shared home (stmt_of trees (stmt.Assign p r))
        go None e = sym (ap (λ cs. not (list_any (λ c. shared c.0 && nat_eq (home c.0) (home c.1)) cs)) e)
        go (Some c) e = sym (ap (λ cs. not (list_any (λ c. shared c.0 && nat_eq (home c.0) (home c.1)) cs)) e ∙ ap not (or_false (shared c.into && nat_eq (home c.into) (home c.from))))
    stays_is (stmt.StorageLive x) = refl
    stays_is (stmt.StorageDead x) = refl
    stays_is (stmt.SetDiscriminant p k) = refl

    stmts_are : (ss : List Stmt) → map (stmt_of trees) (bare_stmts_home shared home ss) ≡ map (stmt_home shared home) (filter (stays shared home) (map (stmt_of trees) ss))
    stmts_are [] = refl
    stmts_are (s ∷ ss) =
        on (bare_stays shared home s) (stmts_are ss) ∙ ap (λ b. map (stmt_home shared home) (cond b (stmt_of trees s ∷ filter (stays shared home) (map (stmt_of trees) ss)) (filter (stays shared home) (map (stmt_of trees) ss)))) (stays_is s)
      where
        on : (b : Bool) → map (stmt_of trees) (bare_stmts_home shared home ss) ≡ map (stmt_home shared home) (filter (stays shared home) (map (stmt_of trees) ss)) → map (stmt_of trees) (map (bare_stmt_home shared home) (cond b (s ∷ filter (bare_stays shared home) ss) (filter (bare_stays shared home) ss))) ≡ map (stmt_home shared home) (cond b (stmt_of trees s ∷ filter (stays shared home) (map (stmt_of trees) ss)) (filter (stays shared home) (map (stmt_of trees) ss)))
        on true rest = ap₂ (λ (s : TypedStmt) (ss : List TypedStmt). s ∷ ss) (stmt_is s) rest
        on false rest = rest

    blocks_are : (ks : List Block) → map (block_of trees) (map (bare_block_home shared home) ks) ≡ map (block_home shared home) (map (block_of trees) ks)
    blocks_are [] = refl
    blocks_are (k ∷ ks) = ap₂ (λ (k : TypedBlock) (ks : List TypedBlock). k ∷ ks) (ap (λ (ss : List TypedStmt). (let b : TypedBlock = record { stmts = ss; term = term_home shared home k.term } in b)) (stmts_are k.stmts)) (blocks_are ks)

    -- the whole body
    pub is_merged_by : (body : Body) (blocks : List Block) → blocks ≡ map (bare_block_home shared home) body.blocks → body_of trees (record { args = body.args; locals = body.locals; blocks = blocks }) ≡ merged_by shared home (body_of trees body)
    is_merged_by body blocks e = ap (λ (bs : List TypedBlock). (let b : TypedBody = record { args = body.args; locals = map (at_id trees) body.locals; blocks = bs } in b)) (ap (map (block_of trees)) e ∙ blocks_are body.blocks)

  -- ---- ids

  module _ (n : ℕ) where
    rvalue_ids : (r : Rvalue) → rvalue_below n (bare_rvalue_home shared home r) ≡ rvalue_below n r
    rvalue_ids (rvalue.Use a) = refl
    rvalue_ids (rvalue.Binary op a b) = refl
    rvalue_ids (rvalue.Overflow op a b) = refl
    rvalue_ids (rvalue.Unary op a) = refl
    rvalue_ids (rvalue.Cast a ty) = refl
    rvalue_ids (rvalue.Ref p) = refl
    rvalue_ids (rvalue.RefMut p) = refl
    rvalue_ids (rvalue.Discriminant p) = refl
    rvalue_ids (rvalue.Tuple parts) = refl
    rvalue_ids (rvalue.Build d v parts) = refl

    stmt_ids : (s : Stmt) → stmt_below n (bare_stmt_home shared home s) ≡ stmt_below n s
    stmt_ids (stmt.Assign p r) = rvalue_ids r
    stmt_ids (stmt.StorageLive x) = refl
    stmt_ids (stmt.StorageDead x) = refl
    stmt_ids (stmt.SetDiscriminant p k) = refl

    stmts_ids : (ss : List Stmt) → list_all (stmt_below n) ss ≡ true → list_all (stmt_below n) (bare_stmts_home shared home ss) ≡ true
    stmts_ids [] h = refl
    stmts_ids (s ∷ ss) h = go (bare_stays shared home s) (stmts_ids ss (and_parts (stmt_below n s) (list_all (stmt_below n) ss) h).1)
      where
        go : (c : Bool) → list_all (stmt_below n) (bare_stmts_home shared home ss) ≡ true → list_all (stmt_below n) (map (bare_stmt_home shared home) (cond c (s ∷ filter (bare_stays shared home) ss) (filter (bare_stays shared home) ss))) ≡ true
        go true rest = ap₂ (λ a b. a && b) (stmt_ids s ∙ (and_parts (stmt_below n s) (list_all (stmt_below n) ss) h).0) rest
        go false rest = rest

    blocks_ids : (ks : List Block) → list_all (block_below n) ks ≡ true → list_all (block_below n) (map (bare_block_home shared home) ks) ≡ true
    blocks_ids [] h = refl
    blocks_ids (k ∷ ks) h =
        let p = and_parts (block_below n k) (list_all (block_below n) ks) h in
        ap₂ (λ a b. a && b) (stmts_ids k.stmts p.0) (blocks_ids ks p.1)

    pub merged_ids : (body : Body) (blocks : List Block) → blocks ≡ map (bare_block_home shared home) body.blocks → body_below n body ≡ true → body_below n (record { args = body.args; locals = body.locals; blocks = blocks }) ≡ true
    merged_ids body blocks e h =
        let p = and_parts (all_below n body.locals) (list_all (block_below n) body.blocks) h in
        ap₂ (λ a b. a && b) p.0 (ap (list_all (block_below n)) e ∙ blocks_ids body.blocks p.1)

pub merged_is : (D : List Shape) (b : TypedBody) (shared : ℕ → Bool) (home : ℕ → ℕ) → shared ≡ is_shared b (home_of D b) → home ≡ home_of D b → merged_by shared home b ≡ merged D b
unfolding merged
merged_is D b shared home e f = ap₂ (λ (s : ℕ → Bool) (h : ℕ → ℕ). merged_by s h b) e f
