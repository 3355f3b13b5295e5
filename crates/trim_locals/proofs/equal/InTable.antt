-- The ids of a trimmed body lie in the table where the body's do.
use Rattle.std.proofs.Common.{◌≡◌, refl, ap, ap₂, ◌∙◌, ℕ, Bool, true, false, nat_lt, ◌&&◌, cond, List, [], ◌∷◌, map, arith}
use Rattle.std.specs.List.{filter, list_all}
use Rattle.mir_syntax.specs.declared.types.TyId.{TyId}
use Rattle.mir_syntax.specs.declared.body.Rvalue.{Rvalue}
use Rattle.mir_syntax.specs.declared.body.Rvalue.TheVariants as rvalue
use Rattle.mir_syntax.specs.declared.body.Stmt.{Stmt}
use Rattle.mir_syntax.specs.declared.body.Stmt.TheVariants as stmt
use Rattle.mir_syntax.specs.declared.body.Block.{Block}
use Rattle.mir_syntax.specs.declared.body.Body.{Body}
use Rattle.mir_syntax.specs.Table.{all_below}
use Rattle.mir_syntax.specs.Ids.{rvalue_below, stmt_below, block_below, body_below}
use Rattle.trim_locals.specs.Trimmed.{number_in, marked_items}
use Rattle.trim_locals.specs.Code.{bare_renamed_rvalue, bare_renamed_stmt, bare_stays, bare_trimmed_block}

first : (a b : Bool) → (a && b) ≡ true → a ≡ true
first true b e = refl
first false b e = absurd (grind arith)

second : (a b : Bool) → (a && b) ≡ true → b ≡ true
second true b e = e
second false b e = absurd (grind arith)

module _ (n : ℕ) where
  rvalue_same : (f : ℕ → ℕ) (r : Rvalue) → rvalue_below n (bare_renamed_rvalue f r) ≡ rvalue_below n r
  rvalue_same f (rvalue.Use a) = refl
  rvalue_same f (rvalue.Binary op a b) = refl
  rvalue_same f (rvalue.Overflow op a b) = refl
  rvalue_same f (rvalue.Unary op a) = refl
  rvalue_same f (rvalue.Cast a ty) = refl
  rvalue_same f (rvalue.Ref p) = refl
  rvalue_same f (rvalue.RefMut p) = refl
  rvalue_same f (rvalue.Discriminant p) = refl
  rvalue_same f (rvalue.Tuple parts) = refl
  rvalue_same f (rvalue.Build d v parts) = refl

  pub stmt_same : (f : ℕ → ℕ) (s : Stmt) → stmt_below n (bare_renamed_stmt f s) ≡ stmt_below n s
  stmt_same f (stmt.Assign p r) = rvalue_same f r
  stmt_same f (stmt.StorageLive x) = refl
  stmt_same f (stmt.StorageDead x) = refl
  stmt_same f (stmt.SetDiscriminant p k) = refl

  stmts_below : (marks : List Bool) (f : ℕ → ℕ) (ss : List Stmt) → list_all (stmt_below n) ss ≡ true → list_all (stmt_below n) (map (bare_renamed_stmt f) (filter (bare_stays marks) ss)) ≡ true
  stmts_below marks f [] h = refl
  stmts_below marks f (s ∷ ss) h = go (bare_stays marks s) (stmts_below marks f ss (second (stmt_below n s) (list_all (stmt_below n) ss) h))
    where
      go : (c : Bool) → list_all (stmt_below n) (map (bare_renamed_stmt f) (filter (bare_stays marks) ss)) ≡ true → list_all (stmt_below n) (map (bare_renamed_stmt f) (cond c (s ∷ filter (bare_stays marks) ss) (filter (bare_stays marks) ss))) ≡ true
      go true rest = ap₂ (λ a b. a && b) (stmt_same f s ∙ first (stmt_below n s) (list_all (stmt_below n) ss) h) rest
      go false rest = rest

  blocks_below : (marks : List Bool) (numbers : List ℕ) (ks : List Block) → list_all (block_below n) ks ≡ true → list_all (block_below n) (map (bare_trimmed_block marks numbers) ks) ≡ true
  blocks_below marks numbers [] h = refl
  blocks_below marks numbers (k ∷ ks) h =
      ap₂ (λ a b. a && b) (stmts_below marks (number_in numbers) k.stmts (first (block_below n k) (list_all (block_below n) ks) h))
      (blocks_below marks numbers ks (second (block_below n k) (list_all (block_below n) ks) h))

  locals_below : (marks : List Bool) (ids : List TyId) → all_below n ids ≡ true → all_below n (marked_items marks ids) ≡ true
  locals_below [] ids h = refl
  locals_below (m ∷ marks) [] h = refl
  locals_below (true ∷ marks) (id ∷ ids) h = ap₂ (λ a b. a && b) (first (nat_lt id.0 n) (all_below n ids) h) (locals_below marks ids (second (nat_lt id.0 n) (all_below n ids) h))
  locals_below (false ∷ marks) (id ∷ ids) h = locals_below marks ids (second (nat_lt id.0 n) (all_below n ids) h)

  pub trimmed_below : (body : Body) (marks : List Bool) (numbers : List ℕ) (locals : List TyId) (blocks : List Block) → locals ≡ marked_items marks body.locals → blocks ≡ map (bare_trimmed_block marks numbers) body.blocks → body_below n body ≡ true → body_below n (record { args = body.args; locals = locals; blocks = blocks }) ≡ true
  trimmed_below body marks numbers locals blocks e e2 h =
      ap₂ (λ a b. a && b)
      (ap (all_below n) e ∙ locals_below marks body.locals (first (all_below n body.locals) (list_all (block_below n) body.blocks) h))
      (ap (list_all (block_below n)) e2 ∙ blocks_below marks numbers body.blocks (second (all_below n body.locals) (list_all (block_below n) body.blocks) h))
