-- What the code makes of a body by edges that stand for its threads.
use Rattle.std.proofs.Common.{◌≡◌, refl, sym, ap, ap₂, ◌∙◌, subst, ℕ, zero, suc, ◌-◌, ◌<◌, ◌≤◌, IsTrue, List, [], ◌∷◌, ◌++◌, map, take, length, get_or, set, Result, Ok, Err, IfOk, slice_get, arith}
use Rattle.std.specs.List.{list_all}
use Rattle.std.proofs.lemmas.List.{length-take}
use Rattle.std.proofs.lemmas.List.Folds.{list_all-append}
use Rattle.std.proofs.lemmas.Bool.{and_parts, and_from}
use Rattle.std.proofs.lemmas.Option.{slice_get_within}
use Rattle.std.proofs.Math.Nat.{min-le_left}
use Rattle.mir_syntax.specs.declared.OutOfMemory.{OutOfMemory}
use Rattle.mir_syntax.specs.declared.types.Ty.{Ty}
use Rattle.mir_syntax.specs.declared.body.Block.{Block}
use Rattle.mir_syntax.specs.declared.body.Body.{Body}
use Rattle.mir_syntax.specs.Tree.{Tree, at_id}
use Rattle.mir_syntax.specs.Crate.{block_of, body_of, TypedBlock, TypedBody}
use Rattle.mir_syntax.specs.Shapes.{Shape}
use Rattle.mir_syntax.specs.Table.{all_below}
use Rattle.mir_syntax.specs.Ids.{stmt_below, block_below, BodyInTable}
use Rattle.mir_rules.specs.Limits.{most_in_body}
use Rattle.const_flow.specs.ConstAt.{Reached, text, const_at}
use Rattle.jump_threading.specs.declared.thread.Edge.{Edge}
use Rattle.jump_threading.specs.Threaded.{Thread, threads_from, threads, threaded_by, threaded}
use Rattle.jump_threading.specs.Code.{stmts_of, bare_copy, bare_link, bare_redirected, StandFor}
use Rattle.jump_threading.proofs.equal.Redirects.{FromThere}
use Rattle.jump_threading.proofs.equal.InOrder.{blocks_are}
use Rattle.jump_threading.proofs.equal.Edges.{stand_length}

-- ---- edges are between blocks that are there, and few

pub all_leave : (ks : List TypedBlock) (n : ℕ) (es : List Edge) (ts : List Thread) → StandFor ks es ts → FromThere n ts → (i : ℕ) (d : Edge) → i < length es → (get_or es i d).from < n
all_leave ks n (e ∷ es) (t ∷ ts) h there zero d lt = subst (λ m. m < n) (sym h.0.0) there.0
all_leave ks n (e ∷ es) (t ∷ ts) h there (suc i) d lt = all_leave ks n es ts h.1 there.1 i d (omega (arith, lt))
all_leave ks n [] ts h there i d lt = absurd (omega (arith, lt))
all_leave ks n (e ∷ es) [] h there i d lt = absurd h

pub all_through : (ks : List TypedBlock) (es : List Edge) (ts : List Thread) → StandFor ks es ts → (i : ℕ) (d : Edge) → i < length es → (get_or es i d).through < length ks
all_through ks (e ∷ es) (t ∷ ts) h zero d lt = slice_get_within ks e.through t.through h.0.1
all_through ks (e ∷ es) (t ∷ ts) h (suc i) d lt = all_through ks es ts h.1 i d (omega (arith, lt))
all_through ks [] ts h i d lt = absurd (omega (arith, lt))
all_through ks (e ∷ es) [] h i d lt = absurd h

pub few_edges : (D : List Shape) (xs : List Reached) (b : TypedBody) (es : List Edge) → StandFor b.blocks es (threads D xs b) → length es ≤ most_in_body - length b.blocks
unfolding threads
few_edges D xs b es h =
    let m = most_in_body - length b.blocks in
    let all = threads_from (text D b) b.blocks 0 b.blocks xs in
    subst (λ n. n ≤ m) (sym (stand_length b.blocks es (take m all) h ∙ length-take m all)) (min-le_left m (length all))

-- ---- the body

abbrev pub made : Body → List Edge → List Block
made b es = bare_redirected b.blocks (length b.blocks) es ++ map (bare_copy b.blocks) es

body_made : (D : List Shape) (trees : List Tree) (b : Body) (es : List Edge) → StandFor (body_of trees b).blocks es (threads D (const_at D (body_of trees b)) (body_of trees b)) → body_of trees (record { args = b.args; locals = b.locals; blocks = made b es }) ≡ threaded D (body_of trees b)
unfolding threaded threaded_by
body_made D trees b es h = ap (λ (ks : List TypedBlock). record (body_of trees b) { blocks = ks }) (blocks_are trees D (const_at D (body_of trees b)) b.args (map (at_id trees) b.locals) b.blocks es h)

pub body_is : (D : List Shape) (trees : List Tree) (b : Body) (es : List Edge) (xs : List Reached) (r : Result Body OutOfMemory) → xs ≡ const_at D (body_of trees b) → StandFor (map (block_of trees) b.blocks) es (threads D xs (body_of trees b))
    → IfOk r (λ left. left.args ≡ b.args) → IfOk r (λ left. left.locals ≡ b.locals) → IfOk r (λ left. left.blocks ≡ made b es) → IfOk r (λ left. body_of trees left ≡ threaded D (body_of trees b))
body_is D trees b es xs (Ok left) rows h args locals blocks =
    ap₂ (λ a (f : Body). record (body_of trees f) { args = a }) args (ap₂ (λ ls ks. let f : Body = record { args = b.args; locals = ls; blocks = ks } in f) locals blocks)
    ∙ body_made D trees b es (subst (λ xs. StandFor (map (block_of trees) b.blocks) es (threads D xs (body_of trees b))) rows h)
body_is D trees b es xs (Err e) rows h args locals blocks = tt

-- ---- its ids

all_set : {A : Type 0} (p : A → _) (xs : List A) (i : ℕ) (x : A) → IsTrue (list_all p xs) → IsTrue (p x) → IsTrue (list_all p (set xs i x))
all_set p [] i x h hx = h
all_set p (y ∷ xs) zero x h hx = and_from (p x) (list_all p xs) hx (and_parts (p y) (list_all p xs) h).1
all_set p (y ∷ xs) (suc i) x h hx = (let parts = and_parts (p y) (list_all p xs) h in and_from (p y) (list_all p (set xs i x)) parts.0 (all_set p xs i x parts.1 hx))

module _ (n : ℕ) where
  stmts_below : (ks : List Block) (i : ℕ) → IsTrue (list_all (block_below n) ks) → IsTrue (list_all (stmt_below n) (stmts_of (slice_get ks i)))
  stmts_below [] i h = refl
  stmts_below (k ∷ ks) zero h = (and_parts (block_below n k) (list_all (block_below n) ks) h).0
  stmts_below (k ∷ ks) (suc i) h = stmts_below ks i (and_parts (block_below n k) (list_all (block_below n) ks) h).1

  redirected_below : (ks : List Block) (m : ℕ) (es : List Edge) → IsTrue (list_all (block_below n) ks) → IsTrue (list_all (block_below n) (bare_redirected ks m es))
  redirected_below ks m [] h = h
  redirected_below ks m (e ∷ es) h = redirected_below (bare_link ks e.from m) (suc m) es (all_set (block_below n) ks e.from _ h (stmts_below ks e.from h))

  copies_below : (ks : List Block) (es : List Edge) → IsTrue (list_all (block_below n) ks) → IsTrue (list_all (block_below n) (map (bare_copy ks) es))
  copies_below ks [] h = refl
  copies_below ks (e ∷ es) h = and_from (block_below n (bare_copy ks e)) (list_all (block_below n) (map (bare_copy ks) es)) (stmts_below ks e.through h) (copies_below ks es h)

  made_below : (b : Body) (es : List Edge) → IsTrue (list_all (block_below n) b.blocks) → IsTrue (list_all (block_below n) (made b es))
  made_below b es h =
      let first = bare_redirected b.blocks (length b.blocks) es in
      let copies = map (bare_copy b.blocks) es in
      list_all-append (block_below n) first copies ∙ and_from (list_all (block_below n) first) (list_all (block_below n) copies) (redirected_below b.blocks (length b.blocks) es h) (copies_below b.blocks es h)

pub still_in_table : (types : List Ty) (b : Body) (es : List Edge) (r : Result Body OutOfMemory) → BodyInTable types b → IfOk r (λ left. left.locals ≡ b.locals) → IfOk r (λ left. left.blocks ≡ made b es) → IfOk r (λ left. BodyInTable types left)
still_in_table types b es (Ok left) h locals blocks =
    let n = length types in
    let was = and_parts (all_below n b.locals) (list_all (block_below n) b.blocks) h in
    and_from (all_below n left.locals) (list_all (block_below n) left.blocks) (ap (all_below n) locals ∙ was.0) (ap (list_all (block_below n)) blocks ∙ made_below n b es was.1)
still_in_table types b es (Err e) h locals blocks = tt
