-- Where the parts of items begin: at places from the item's own on.
use Rattle.std.proofs.Common.{◌≡◌, ℕ, zero, suc, ◌+◌, ◌<◌, true, false, nat_eq, nat_lt, List, [], ◌∷◌, ◌++◌, map, length, drop, refl, arith, rules}
use Rattle.mir_text.specs.Grammar as g
use Rattle.mir_text.specs.Grammar.{Put, Items, each_put}
use Rattle.mir_text.specs.GrammarStatements.{StmtRule}
use Rattle.mir_text.specs.GrammarTerms.{BlockRule, ended_put, block_put}
use Rattle.mir_text.specs.GrammarItems as m
use Rattle.mir_text.specs.GrammarItems.{ArgRule, arg_put, DeclRule, DeclsRule, decl_put, decls_put, FnRule, ItemRule, item_put, FileRule}
use Rattle.mir_text.specs.NameFaults.{each}
use Rattle.mir_text.specs.PartLines.{first_line, past, items_lined, each_lined, block_lined, blocks_lined, scope_front, after_front, after_result}
use Rattle.mir_text.specs.Spans.{Span, arg_span, let_spans, lets_spans, stmt_span, block_spans, fn_spans, inner_spans, items_spans, begins_part, numbers_from}

-- no number of the list is so small
abbrev pub Far : ℕ → List ℕ → Type 0
Far k [] = Unit {0}
Far k (n ∷ ns) = (k < n) × Far k ns

pub far-drop : (k n : ℕ) (ns : List ℕ) → Far k ns → Far k (drop n ns)
far-drop k zero ns far = far
far-drop k (suc n) [] far = tt
far-drop k (suc n) (x ∷ ns) far = far-drop k n ns far.1

pub far-numbers : (k n count : ℕ) → k < n → Far k (numbers_from n count)
far-numbers k n zero below = tt
far-numbers k n (suc count) below = (below, far-numbers k (suc n) count (omega (arith, below)))

pub far-dropped : (k from j count : ℕ) → k < from + j → Far k (drop j (numbers_from from count))
far-dropped k from zero count below = far-numbers k from count (omega (arith, below))
far-dropped k from (suc j) zero below = tt
far-dropped k from (suc j) (suc count) below = far-dropped k (suc from) j count (omega (arith, below))

pub lt-true : (a b : ℕ) → a < b → nat_lt a b ≡ true
lt-true a b below = search rules

-- a part begins elsewhere
abbrev pub Elsewhere : ℕ → List Span → Type 0
Elsewhere k [] = Unit {0}
Elsewhere k (x ∷ xs) = (nat_eq x.from k ≡ false) × Elsewhere k xs

pub elsewhere-append : (k : ℕ) (xs ys : List Span) → Elsewhere k xs → Elsewhere k ys → Elsewhere k (xs ++ ys)
elsewhere-append k [] ys h i = i
elsewhere-append k (x ∷ xs) ys h i = (h.0, elsewhere-append k xs ys h.1 i)

pub elsewhere-begins : (k : ℕ) (xs : List Span) → Elsewhere k xs → begins_part xs k ≡ false
elsewhere-begins k [] h = refl
elsewhere-begins k (x ∷ xs) h = rw (h.0, elsewhere-begins k xs h.1) refl

pub first-far : (k : ℕ) (ns : List ℕ) → 0 < k → Far k ns → nat_eq (first_line ns) k ≡ false
first-far k [] some far = search rules
first-far k (n ∷ ns) some far = let below = far.0 in search rules

module _ (k : ℕ) (some : 0 < k) where
  past-far : {R : Type 0} (put : Put R) (r : R) (ns : List ℕ) → Far k ns → Far k (past put r ns)
  past-far put r ns far = far-drop k (length (put r [])) ns far

  args-elsewhere : (args : Items ArgRule) (ns : List ℕ) → Far k ns → Elsewhere k (map arg_span (items_lined arg_put args ns))
  args-elsewhere g.end ns far = tt
  args-elsewhere (g.last a) ns far = (first-far k ns some far, tt)
  args-elsewhere (g.more a args) ns far = (first-far k ns some far, args-elsewhere args (drop 1 (past arg_put a ns)) (far-drop k 1 (past arg_put a ns) (past-far arg_put a ns far)))

  mutual
    let-elsewhere : (d : DeclRule) (ns : List ℕ) → Far k ns → Elsewhere k (let_spans d ns)
    let-elsewhere (m.«let» mutable x u) ns far = (first-far k ns some far, tt)
    let-elsewhere (m.debug xs) ns far = tt
    let-elsewhere (m.scope n p ds) ns far = lets-elsewhere ds (drop (scope_front (m.scope n p ds)) ns) (far-drop k (scope_front (m.scope n p ds)) ns far)

    lets-elsewhere : (ds : DeclsRule) (ns : List ℕ) → Far k ns → Elsewhere k (lets_spans ds ns)
    lets-elsewhere m.no_decls ns far = tt
    lets-elsewhere (m.decls d ds) ns far =
        elsewhere-append k (let_spans d ns) (lets_spans ds (past decl_put d ns)) (let-elsewhere d ns far) (lets-elsewhere ds (past decl_put d ns) (past-far decl_put d ns far))

  pub stmts-elsewhere : (xs : List StmtRule) (ns : List ℕ) → Far k ns → Elsewhere k (map stmt_span (each_lined ended_put xs ns))
  stmts-elsewhere [] ns far = tt
  stmts-elsewhere (x ∷ xs) ns far = (first-far k ns some far, stmts-elsewhere xs (past ended_put x ns) (past-far ended_put x ns far))

  block-elsewhere : (b : BlockRule) (ns : List ℕ) → Far k ns → Elsewhere k (block_spans (block_lined b ns))
  block-elsewhere b ns far =
      let inside = far-drop k 3 ns far in
      elsewhere-append k (map stmt_span (each_lined ended_put b.stmts (drop 3 ns))) _ (stmts-elsewhere b.stmts (drop 3 ns) inside)
      (first-far k (past (each_put ended_put) b.stmts (drop 3 ns)) some (past-far (each_put ended_put) b.stmts (drop 3 ns) inside), tt)

  pub blocks-elsewhere : (bs : List BlockRule) (ns : List ℕ) → Far k ns → Elsewhere k (each block_spans (blocks_lined bs ns))
  blocks-elsewhere [] ns far = tt
  blocks-elsewhere (b ∷ bs) ns far =
      elsewhere-append k (block_spans (block_lined b ns)) (each block_spans (blocks_lined bs (past block_put b ns))) (block-elsewhere b ns far)
      (blocks-elsewhere bs (past block_put b ns) (past-far block_put b ns far))

  fn-elsewhere : (f : FnRule) (ns : List ℕ) → Far k ns → Elsewhere k (fn_spans f ns)
  fn-elsewhere f ns far =
      let front = past-far m.fn_front_put f ns far in
      let result = past-far m.result_put f.result (past (g.items_put arg_put _) f.args (after_front f ns)) (past-far (g.items_put arg_put _) f.args (after_front f ns) front) in
      elsewhere-append k (map arg_span (items_lined arg_put f.args (after_front f ns)) ++ lets_spans f.locals (after_result f ns)) _
      (elsewhere-append k (map arg_span (items_lined arg_put f.args (after_front f ns))) (lets_spans f.locals (after_result f ns)) (args-elsewhere f.args (after_front f ns) front) (lets-elsewhere f.locals (after_result f ns) result))
      (blocks-elsewhere f.blocks (past decls_put f.locals (after_result f ns)) (past-far decls_put f.locals (after_result f ns) result))

  inner-elsewhere : (item : ItemRule) (ns : List ℕ) → Far k ns → Elsewhere k (inner_spans item ns)
  inner-elsewhere (m.struct p fs) ns far = tt
  inner-elsewhere (m.enum p vs) ns far = tt
  inner-elsewhere (m.extern p us u) ns far = tt
  inner-elsewhere (m.function f) ns far = fn-elsewhere f ns far

  pub items-elsewhere : (items : FileRule) (ns : List ℕ) → Far k ns → Elsewhere k (items_spans items ns)
  items-elsewhere [] ns far = tt
  items-elsewhere (item ∷ items) ns far = (
    first-far k ns some far,
    elsewhere-append k (inner_spans item ns) (items_spans items (past item_put item ns)) (inner-elsewhere item ns far) (items-elsewhere items (past item_put item ns) (past-far item_put item ns far)),
  )
