-- The code's body, seen with its types, is the defined one.
use Rattle.std.proofs.Common.{◌≡◌, refl, sym, ap, ap₂, ◌∙◌, ℕ, zero, suc, ◌+◌, ◌<◌, Bool, true, false, cond, if◌then◌else◌, List, [], ◌∷◌, ◌++◌, map, take, drop, length, get_or, set, replicate, length-append, arith}
use Rattle.std.specs.List.{filter, flat_map, range_with_len}
use Rattle.std.proofs.lemmas.List.{map-append, append-nil, length-map, length-take, length-drop, length-replicate, get_or_default}
use Rattle.std.proofs.lemmas.List.Edits.{map_over_more}
use Rattle.std.proofs.lemmas.List.Sums.{count_by_more_yes, count_by_more_no}
use Rattle.bit_rows.specs.Rows.{row_at, marked, stands, HasSize}
use Rattle.bit_rows.proofs.Marks.{marked-blank, length-marked}
use Rattle.mir_syntax.specs.declared.body.Rvalue.{Rvalue}
use Rattle.mir_syntax.specs.declared.body.Rvalue.TheVariants as rvalue
use Rattle.mir_syntax.specs.declared.body.Stmt.{Stmt}
use Rattle.mir_syntax.specs.declared.body.Stmt.TheVariants as stmt
use Rattle.mir_syntax.specs.declared.body.Term.{Term}
use Rattle.mir_syntax.specs.declared.body.Term.TheVariants as term
use Rattle.mir_syntax.specs.declared.body.Block.{Block}
use Rattle.mir_syntax.specs.declared.body.Body.{Body}
use Rattle.mir_syntax.specs.declared.types.TyId.{TyId}
use Rattle.mir_syntax.specs.Tree.{Tree, at_id}
use Rattle.mir_syntax.specs.Crate.{TypedStmt, assign, TypedBlock, TypedBody, rvalue_of, stmt_of, block_of, body_of}
use Rattle.mir_syntax.specs.Parts.{operand_places}
use Rattle.liveness.specs.Live.{place_local, operand_locals}
use Rattle.liveness.proofs.Carried.{operands_locals, reads_same}
use Rattle.trim_locals.specs.Trimmed.{stmt_uses, term_uses, block_uses, used_locals, used_marks, self, new_number, new_numbers, number_in, renamed_rvalue, renamed_stmt, renamed_term, marked_items, stays, trimmed_block, trimmed}
use Rattle.trim_locals.specs.Code.{bare_stmt_uses, bare_term_uses, bare_block_uses, bare_renamed_rvalue, bare_renamed_stmt, bare_stays, bare_trimmed_stmts, bare_trimmed_block}

-- ---- uses

stmt_same : (trees : List Tree) (s : Stmt) → stmt_uses (stmt_of trees s) ≡ bare_stmt_uses s
stmt_same trees (stmt.Assign p r) = ap (λ xs. xs ++ p.local ∷ []) (reads_same trees r)
stmt_same trees (stmt.StorageLive x) = refl
stmt_same trees (stmt.StorageDead x) = refl
stmt_same trees (stmt.SetDiscriminant p k) = refl

term_same : (t : Term) → term_uses t ≡ bare_term_uses t
term_same (term.Goto next) = refl
term_same (term.Switch a arms other) = ap (map place_local) (append-nil (operand_places a))
term_same term.Return = refl
term_same term.Unreachable = refl
term_same (term.Drop p next) = refl
term_same (term.Call p callee args next) = ap (λ xs. p.local ∷ xs) (operands_locals args)
term_same (term.Assert a expected text args next) = map-append place_local (operand_places a) (flat_map operand_places args) ∙ ap (λ xs. operand_locals a ++ xs) (operands_locals args)

stmts_same : (trees : List Tree) (ss : List Stmt) → flat_map stmt_uses (map (stmt_of trees) ss) ≡ flat_map bare_stmt_uses ss
stmts_same trees [] = refl
stmts_same trees (s ∷ ss) = ap₂ (λ xs ys. xs ++ ys) (stmt_same trees s) (stmts_same trees ss)

blocks_same : (trees : List Tree) (ks : List Block) → flat_map block_uses (map (block_of trees) ks) ≡ flat_map bare_block_uses ks
blocks_same trees [] = refl
blocks_same trees (k ∷ ks) = ap₂ (λ xs ys. xs ++ ys) (ap₂ (λ xs ys. xs ++ ys) (stmts_same trees k.stmts) (term_same k.term)) (blocks_same trees ks)

-- the row that the code makes
pub marks_are : (trees : List Tree) (body : Body) (row : List (List Bool)) → row ≡ marked (replicate (length body.locals) false) (range_with_len 0 (body.args + 1) ++ flat_map bare_block_uses body.blocks) ∷ [] → row_at row 0 ≡ used_marks (body_of trees body)
marks_are trees body row e =
    ap (λ t. row_at t 0) e
    ∙ marked-blank (length body.locals) (range_with_len 0 (body.args + 1) ++ flat_map bare_block_uses body.blocks)
    ∙ ap (λ (us : List ℕ). map (λ x. stands x us) (range_with_len 0 (length body.locals))) (ap₂ (λ (n : ℕ) ys. range_with_len 0 n ++ ys) (let z : body.args + 1 ≡ suc body.args = omega arith in z) (sym (blocks_same trees body.blocks)))
    ∙ ap (λ n. map (λ x. stands x (used_locals (body_of trees body))) (range_with_len 0 n)) (sym (length-map body.locals (at_id trees)))

-- ---- numbers

one_or_none : Bool → ℕ
one_or_none m = cond m 1 0

pub number_next : (marks : List Bool) (i : ℕ) → i < length marks → new_number marks (i + 1) ≡ new_number marks i + cond (get_or marks i false) 1 0
number_next marks i l = go (get_or marks i false) refl
  where
    go : (m : Bool) → get_or marks i false ≡ m → new_number marks (i + 1) ≡ new_number marks i + cond m 1 0
    go true e = count_by_more_yes self marks i false l e
    go false e = count_by_more_no self marks i false l e ∙ (let z : new_number marks i ≡ new_number marks i + 0 = omega arith in z)

-- ---- items

items_next : {A : Type 0} (marks : List Bool) (xs : List A) (i : ℕ) (d : A) → i < length marks → i < length xs → marked_items (take (suc i) marks) (take (suc i) xs) ≡ (if get_or marks i false then marked_items (take i marks) (take i xs) ++ get_or xs i d ∷ [] else marked_items (take i marks) (take i xs))
items_next [] xs i d l h = absurd (omega arith)
items_next (m ∷ marks) [] i d l h = absurd (omega arith)
items_next (true ∷ marks) (x ∷ xs) zero d l h = refl
items_next (false ∷ marks) (x ∷ xs) zero d l h = refl
items_next (true ∷ marks) (x ∷ xs) (suc i) d l h = ap (λ ys. x ∷ ys) (items_next marks xs i d (omega arith) (omega arith)) ∙ inside (get_or marks i false)
  where
    inside : (b : Bool) → (x ∷ (if b then marked_items (take i marks) (take i xs) ++ get_or xs i d ∷ [] else marked_items (take i marks) (take i xs))) ≡ (if b then (x ∷ marked_items (take i marks) (take i xs)) ++ get_or xs i d ∷ [] else x ∷ marked_items (take i marks) (take i xs))
    inside true = refl
    inside false = refl
items_next (false ∷ marks) (x ∷ xs) (suc i) d l h = items_next marks xs i d (omega arith) (omega arith)

pub items_more : {A : Type 0} (marks : List Bool) (xs : List A) (i : ℕ) (d : A) → i < length marks → i < length xs → marked_items (take (i + 1) marks) (take (i + 1) xs) ≡ (if get_or marks i false then marked_items (take i marks) (take i xs) ++ get_or xs i d ∷ [] else marked_items (take i marks) (take i xs))
items_more marks xs i d l h = ap (λ (n : ℕ). marked_items (take n marks) (take n xs)) (let z : i + 1 ≡ suc i = omega arith in z) ∙ items_next marks xs i d l h

items_map : {A B : Type 0} (f : A → B) (marks : List Bool) (xs : List A) → map f (marked_items marks xs) ≡ marked_items marks (map f xs)
items_map f [] xs = refl
items_map f (m ∷ marks) [] = refl
items_map f (true ∷ marks) (x ∷ xs) = ap (λ ys. f x ∷ ys) (items_map f marks xs)
items_map f (false ∷ marks) (x ∷ xs) = items_map f marks xs

-- ---- statements and blocks

rvalue_renamed : (trees : List Tree) (f : ℕ → ℕ) (r : Rvalue) → rvalue_of trees (bare_renamed_rvalue f r) ≡ renamed_rvalue f (rvalue_of trees r)
rvalue_renamed trees f (rvalue.Use a) = refl
rvalue_renamed trees f (rvalue.Binary op a b) = refl
rvalue_renamed trees f (rvalue.Overflow op a b) = refl
rvalue_renamed trees f (rvalue.Unary op a) = refl
rvalue_renamed trees f (rvalue.Cast a ty) = refl
rvalue_renamed trees f (rvalue.Ref p) = refl
rvalue_renamed trees f (rvalue.RefMut p) = refl
rvalue_renamed trees f (rvalue.Discriminant p) = refl
rvalue_renamed trees f (rvalue.Tuple parts) = refl
rvalue_renamed trees f (rvalue.Build d v parts) = refl

pub stmt_renamed : (trees : List Tree) (f : ℕ → ℕ) (s : Stmt) → stmt_of trees (bare_renamed_stmt f s) ≡ renamed_stmt f (stmt_of trees s)
stmt_renamed trees f (stmt.Assign p r) = ap (assign (record { local = f p.local; proj = p.proj })) (rvalue_renamed trees f r)
stmt_renamed trees f (stmt.StorageLive x) = refl
stmt_renamed trees f (stmt.StorageDead x) = refl
stmt_renamed trees f (stmt.SetDiscriminant p k) = refl

stays_same : (trees : List Tree) (marks : List Bool) (s : Stmt) → bare_stays marks s ≡ stays marks (stmt_of trees s)
stays_same trees marks (stmt.Assign p r) = refl
stays_same trees marks (stmt.StorageLive x) = refl
stays_same trees marks (stmt.StorageDead x) = refl
stays_same trees marks (stmt.SetDiscriminant p k) = refl

stmts_trimmed : (trees : List Tree) (marks : List Bool) (numbers : List ℕ) (ss : List Stmt) → map (stmt_of trees) (bare_trimmed_stmts marks numbers ss) ≡ map (renamed_stmt (number_in numbers)) (filter (stays marks) (map (stmt_of trees) ss))
stmts_trimmed trees marks numbers [] = refl
stmts_trimmed trees marks numbers (s ∷ ss) =
    on (bare_stays marks s) (stmts_trimmed trees marks numbers ss) ∙ ap (λ b. map (renamed_stmt (number_in numbers)) (cond b (stmt_of trees s ∷ filter (stays marks) (map (stmt_of trees) ss)) (filter (stays marks) (map (stmt_of trees) ss)))) (stays_same trees marks s)
  where
    on : (b : Bool) → map (stmt_of trees) (bare_trimmed_stmts marks numbers ss) ≡ map (renamed_stmt (number_in numbers)) (filter (stays marks) (map (stmt_of trees) ss)) → map (stmt_of trees) (map (bare_renamed_stmt (number_in numbers)) (cond b (s ∷ filter (bare_stays marks) ss) (filter (bare_stays marks) ss))) ≡ map (renamed_stmt (number_in numbers)) (cond b (stmt_of trees s ∷ filter (stays marks) (map (stmt_of trees) ss)) (filter (stays marks) (map (stmt_of trees) ss)))
    on true rest = ap₂ (λ (s : TypedStmt) (ss : List TypedStmt). s ∷ ss) (stmt_renamed trees (number_in numbers) s) rest
    on false rest = rest

block_trimmed : (trees : List Tree) (marks : List Bool) (k : Block) → block_of trees (bare_trimmed_block marks (new_numbers marks) k) ≡ trimmed_block marks (block_of trees k)
block_trimmed trees marks k = ap (λ (ss : List TypedStmt). (let b : TypedBlock = record { stmts = ss; term = renamed_term (number_in (new_numbers marks)) k.term } in b)) (stmts_trimmed trees marks (new_numbers marks) k.stmts)

blocks_trimmed : (trees : List Tree) (marks : List Bool) (ks : List Block) → map (block_of trees) (map (bare_trimmed_block marks (new_numbers marks)) ks) ≡ map (trimmed_block marks) (map (block_of trees) ks)
blocks_trimmed trees marks [] = refl
blocks_trimmed trees marks (k ∷ ks) = ap₂ (λ (k : TypedBlock) (ks : List TypedBlock). k ∷ ks) (block_trimmed trees marks k) (blocks_trimmed trees marks ks)

-- the whole body
pub is_trimmed : (trees : List Tree) (body : Body) (marks : List Bool) (numbers : List ℕ) (locals : List TyId) (blocks : List Block) → marks ≡ used_marks (body_of trees body) → numbers ≡ new_numbers marks → locals ≡ marked_items marks body.locals → blocks ≡ map (bare_trimmed_block marks numbers) body.blocks → body_of trees (record { args = body.args; locals = locals; blocks = blocks }) ≡ trimmed (body_of trees body)
is_trimmed trees body marks numbers locals blocks em en el eb =
    ap₂ (λ (ls : List Tree) (bs : List TypedBlock). (let b : TypedBody = record { args = body.args; locals = ls; blocks = bs } in b))
    (ap (map (at_id trees)) el ∙ items_map (at_id trees) marks body.locals)
    (ap (map (block_of trees)) (eb ∙ ap (λ ns. map (bare_trimmed_block marks ns) body.blocks) en) ∙ blocks_trimmed trees marks body.blocks)
    ∙ ap (λ ms. (let b : TypedBody = record { args = body.args; locals = marked_items ms (map (at_id trees) body.locals); blocks = map (trimmed_block ms) (map (block_of trees) body.blocks) } in b)) em

-- ---- loops

-- an item is written over
pub over_more : {X : Type 0} (f : X → X) (xs ys : List X) (i : ℕ) (d v : X) → i < length ys → ys ≡ map f (take i xs) ++ drop i xs → v ≡ f (get_or ys i d) → set ys i v ≡ map f (take (i + 1) xs) ++ drop (i + 1) xs
over_more f xs ys i d v l e h =
    let long : length ys ≡ length xs = omega (arith, ap length e, length-append (map f (take i xs)) (drop i xs), length-map (take i xs) f, length-take i xs, length-drop i xs) in
    ap (λ w. set ys i w) h ∙ map_over_more f xs ys i (get_or ys i d) (omega arith) e (get_or_default ys i d (get_or ys i d) l)

pub used_size : (n : ℕ) (us : List ℕ) (row : List (List Bool)) → row ≡ marked (replicate n false) us ∷ [] → HasSize row 1 n
used_size n us row e = record { count_is = ap length e; bits_is = λ r l. ap (λ t. length (row_at t r)) e ∙ first r l }
  where
    first : (r : ℕ) → r < 1 → length (row_at (marked (replicate n false) us ∷ []) r) ≡ n
    first zero l = length-marked (replicate n false) us ∙ length-replicate n false
    first (suc r) l = absurd (omega arith)
