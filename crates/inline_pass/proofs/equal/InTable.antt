-- The ids of the body in which a call was replaced lie in the table.
use Rattle.std.proofs.Common.{◌≡◌, refl, ◌∙◌, ℕ, zero, suc, ◌+◌, ◌<◌, Bool, true, false, nat_lt, if◌then◌else◌, List, [], ◌∷◌, ◌++◌, map, length}
use Rattle.std.proofs.Common.{lt-ltb}
use Rattle.std.specs.List.{list_all}
use Rattle.std.proofs.lemmas.Bool.{and_parts, and_from}
use Rattle.std.proofs.lemmas.List.Folds.{list_all-append}
use Rattle.mir_syntax.specs.declared.types.TyId.{TyId}
use Rattle.mir_syntax.specs.declared.types.Ty.{Ty}
use Rattle.mir_syntax.specs.declared.body.Place.{Place}
use Rattle.mir_syntax.specs.declared.body.Operand.{Operand}
use Rattle.mir_syntax.specs.declared.body.Rvalue.TheVariants as rvalue
use Rattle.mir_syntax.specs.declared.body.Stmt.{Stmt}
use Rattle.mir_syntax.specs.declared.body.Stmt.TheVariants as stmt
use Rattle.mir_syntax.specs.declared.body.Term.{Term}
use Rattle.mir_syntax.specs.declared.body.Term.TheVariants.{Goto, Switch, Return, Unreachable, Drop, Call, Assert}
use Rattle.mir_syntax.specs.declared.body.Block.{Block}
use Rattle.mir_syntax.specs.declared.body.Body.{Body}
use Rattle.mir_syntax.specs.Table.{all_below}
use Rattle.mir_syntax.specs.Ids.{stmt_below, block_below, BodyInTable}
use Rattle.mir_syntax.specs.Parts.{has_deref}
use Rattle.trim_locals.specs.Code.{bare_renamed_stmt}
use Rattle.trim_locals.proofs.equal.InTable.{stmt_same}
use Rattle.inline_pass.specs.declared.call.Call as call
use Rattle.inline_pass.specs.Spliced.{whole_local, kept_dest}
use Rattle.inline_pass.specs.Code.{shifted, bare_result, bare_block, bare_kept, bare_handed, kept_id, bare_entered, set_by, bare_with_call}

module _ (n : ℕ) where
  ids_append : (xs ys : List TyId) → all_below n xs ≡ true → all_below n ys ≡ true → all_below n (xs ++ ys) ≡ true
  ids_append [] ys a b = b
  ids_append (x ∷ xs) ys a b = let (l, r) = and_parts (nat_lt x.0 n) (all_below n xs) a in and_from (nat_lt x.0 n) (all_below n (xs ++ ys)) l (ids_append xs ys r b)

  all_append : {A : Type 0} (test : A → Bool) (xs ys : List A) → list_all test xs ≡ true → list_all test ys ≡ true → list_all test (xs ++ ys) ≡ true
  all_append test xs ys a b = list_all-append test xs ys ∙ and_from (list_all test xs) (list_all test ys) a b

  stmts_copied : (f : ℕ → ℕ) (ss : List Stmt) → list_all (stmt_below n) ss ≡ true → list_all (stmt_below n) (map (bare_renamed_stmt f) ss) ≡ true
  stmts_copied f [] e = refl
  stmts_copied f (s ∷ ss) e =
      let (l, r) = and_parts (stmt_below n s) (list_all (stmt_below n) ss) e in
      and_from (stmt_below n (bare_renamed_stmt f s)) (list_all (stmt_below n) (map (bare_renamed_stmt f) ss)) (stmt_same n f s ∙ l) (stmts_copied f ss r)

  result_below : (locals : ℕ) (dest : Place) (t : Term) → list_all (stmt_below n) (bare_result locals dest t) ≡ true
  result_below locals dest Return = refl
  result_below locals dest (Goto u) = refl
  result_below locals dest (Switch a arms u) = refl
  result_below locals dest Unreachable = refl
  result_below locals dest (Drop p u) = refl
  result_below locals dest (Call p c os u) = refl
  result_below locals dest (Assert a w x os u) = refl

  blocks_copied : (locals blocks : ℕ) (dest : Place) (next : ℕ) (ks : List Block) → list_all (block_below n) ks ≡ true → list_all (block_below n) (map (bare_block locals blocks dest next) ks) ≡ true
  blocks_copied l b dest next [] e = refl
  blocks_copied l b dest next (k ∷ ks) e =
      let (x, y) = and_parts (block_below n k) (list_all (block_below n) ks) e in
      and_from (block_below n (bare_block l b dest next k)) (list_all (block_below n) (map (bare_block l b dest next) ks))
      (all_append (stmt_below n) (map (bare_renamed_stmt (shifted l)) k.stmts) (bare_result l dest k.term) (stmts_copied (shifted l) k.stmts x) (result_below l dest k.term))
      (blocks_copied l b dest next ks y)

  kept_below : (d : ℕ) (dest : Place) → list_all (stmt_below n) (bare_kept d dest) ≡ true
  kept_below d dest = go (has_deref dest.proj)
    where
      go : (c : Bool) → list_all (stmt_below n) (if c then stmt.Assign (whole_local d) (rvalue.RefMut dest) ∷ [] else []) ≡ true
      go true = refl
      go false = refl

  handed_below : (x : ℕ) (os : List Operand) → list_all (stmt_below n) (bare_handed x os) ≡ true
  handed_below x [] = refl
  handed_below x (o ∷ os) = handed_below (suc x) os

  entered_below : (locals blocks d : ℕ) (c : call.Call) (ks : List Block) (i : ℕ) → list_all (block_below n) ks ≡ true → list_all (block_below n) (set_by (bare_entered locals blocks d c) ks i) ≡ true
  entered_below l b d c [] i e = e
  entered_below l b d c (k ∷ ks) zero e =
      let (x, y) = and_parts (block_below n k) (list_all (block_below n) ks) e in
      and_from (block_below n (bare_entered l b d c k)) (list_all (block_below n) ks) (all_append (stmt_below n) k.stmts (bare_kept d c.dest ++ bare_handed (suc l) c.args) x (all_append (stmt_below n) (bare_kept d c.dest) (bare_handed (suc l) c.args) (kept_below d c.dest) (handed_below (suc l) c.args))) y
  entered_below l b d c (k ∷ ks) (suc i) e =
      let (x, y) = and_parts (block_below n k) (list_all (block_below n) ks) e in
      and_from (block_below n k) (list_all (block_below n) (set_by (bare_entered l b d c) ks i)) x (entered_below l b d c ks i y)

  id_below : (id : TyId) (dest : Place) → id.0 < n → all_below n (kept_id id dest) ≡ true
  id_below id dest lt = go (has_deref dest.proj)
    where
      go : (c : Bool) → all_below n (if c then id ∷ [] else []) ≡ true
      go true = and_from (nat_lt id.0 n) true (lt-ltb id.0 n lt) refl
      go false = refl

pub replaced_below : (types : List Ty) (b : Body) (i : ℕ) (c : call.Call) (callee : Body) (id : TyId) → BodyInTable types b → BodyInTable types callee → id.0 < length types → BodyInTable types (bare_with_call b i c callee id)
replaced_below types b i c callee id hb hc lt =
    let n = length types in
    let (locals, blocks) = and_parts (all_below n b.locals) (list_all (block_below n) b.blocks) hb in
    let (more, copies) = and_parts (all_below n callee.locals) (list_all (block_below n) callee.blocks) hc in
    let made = bare_with_call b i c callee id in
    and_from (all_below n made.locals) (list_all (block_below n) made.blocks)
    (ids_append n b.locals (callee.locals ++ kept_id id c.dest) locals (ids_append n callee.locals (kept_id id c.dest) more (id_below n id c.dest lt)))
    (all_append n (block_below n) (set_by (bare_entered (length b.locals) (length b.blocks) (length b.locals + length callee.locals) c) b.blocks i) (map (bare_block (length b.locals) (length b.blocks) (kept_dest (length b.locals + length callee.locals) c.dest) c.next) callee.blocks)
    (entered_below n (length b.locals) (length b.blocks) (length b.locals + length callee.locals) c b.blocks i blocks)
    (blocks_copied n (length b.locals) (length b.blocks) (kept_dest (length b.locals + length callee.locals) c.dest) c.next callee.blocks copies))
