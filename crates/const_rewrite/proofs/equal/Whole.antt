-- Blocks that are folded one after another, and the body that they make.
use Rattle.std.proofs.Common.{◌≡◌, refl, sym, ap, ap₂, ◌∙◌, ℕ, ◌+◌, ◌<◌, ◌≤◌, IsTrue, List, [], ◌∷◌, ◌++◌, length, map, get_or, set, take, Some, None, arith}
use Rattle.std.specs.List.{list_all}
use Rattle.std.proofs.lemmas.List.{map-append, take_all, length-map, length-take-le}
use Rattle.std.proofs.lemmas.Bool.{and_parts, and_from}
use Rattle.mir_syntax.specs.declared.body.Block.{Block}
use Rattle.mir_syntax.specs.declared.body.Body.{Body}
use Rattle.mir_syntax.specs.declared.types.Ty.{Ty}
use Rattle.mir_syntax.specs.declared.program.Program.{Program}
use Rattle.mir_syntax.specs.Tree.{Tree, trees_of}
use Rattle.mir_syntax.specs.declared.body.Term.{Term}
use Rattle.mir_syntax.specs.Crate.{TypedStmt, TypedBlock, stmt_of, block_of, body_of, crate_of}
use Rattle.mir_syntax.specs.Shapes.{shapes_of}
use Rattle.mir_syntax.specs.Table.{all_below}
use Rattle.mir_syntax.specs.Ids.{block_below, BodyInTable}
use Rattle.mir_semantics.specs.Step.{Here}
use Rattle.const_flow.specs.ConstAt.{Reached, const_at}
use Rattle.const_flow.specs.Sights.{text_of}
use Rattle.const_rewrite.specs.Folded.{folded_stmts, folded_term, folded_block, folded_blocks, folded_by, folded}
use Rattle.const_rewrite.specs.Points.{where_reached}
use Rattle.const_rewrite.proofs.equal.Fronts.{Front, front_long, front_item, front_set, front_none, front_all, take_more}
use Rattle.const_rewrite.proofs.equal.Stmts.{passed, ids_more}

abbrev made : List TypedStmt → Term → TypedBlock
made ss t = record { stmts = ss; term = t }

-- a block of folded statements and a folded terminator
pub block_is : (trees : List Tree) (h : Here) (x : Reached) (k k2 : Block) → map (stmt_of trees) k2.stmts ≡ where_reached (folded_stmts h) x (map (stmt_of trees) k.stmts) → k2.term ≡ where_reached (folded_term h) (passed h (map (stmt_of trees) k.stmts) x) k.term
    → block_of trees k2 ≡ folded_block h (block_of trees k) x
unfolding folded_block
block_is trees h None k k2 e d = ap₂ made e d
block_is trees h (Some fs) k k2 e d = ap₂ made e d

blocks_more : (h : Here) (ks : List TypedBlock) (k : TypedBlock) (xs : List Reached) → folded_blocks h ks xs ++ folded_block h k (get_or xs (length ks) None) ∷ [] ≡ folded_blocks h (ks ++ k ∷ []) xs
unfolding folded_block
blocks_more h [] k [] = refl
blocks_more h [] k (x ∷ xs) = refl
blocks_more h (b ∷ ks) k [] = refl
blocks_more h (b ∷ ks) k (x ∷ xs) = ap (λ ks. folded_block h b x ∷ ks) (blocks_more h ks k xs)

-- the first blocks are folded
pub record Going (trees : List Tree) (h : Here) (rows : List Reached) (old items front : List Block) (at : ℕ) : Type 0 where
  pub here : Front old items front at
  pub done : map (block_of trees) front ≡ folded_blocks h (map (block_of trees) (take at old)) rows
  pub ids : (n : ℕ) → IsTrue (list_all (block_below n) (take at old)) → IsTrue (list_all (block_below n) front)

pub going_none : (trees : List Tree) (h : Here) (rows : List Reached) (old items : List Block) → items ≡ old → Going trees h rows old items [] 0
going_none trees h rows old items e = record { here = front_none old items e; done = refl; ids = λ n e. refl }

pub going_more : (trees : List Tree) (h : Here) (rows : List Reached) (old items front : List Block) (at : ℕ) (d v : Block) → at < length old → Going trees h rows old items front at
    → block_of trees v ≡ folded_block h (block_of trees (get_or items at d)) (get_or rows at None) → ((n : ℕ) → IsTrue (block_below n (get_or items at d)) → IsTrue (block_below n v))
    → Going trees h rows old (set items at v) (front ++ v ∷ []) (at + 1)
going_more trees h rows old items front at d v l g is ids = record {
  here = front_set old items front at v l g.here;
  done =
      map-append (block_of trees) front (v ∷ [])
      ∙ ap₂ (λ xs y. xs ++ y ∷ []) g.done (is ∙ ap₂ (λ k n. folded_block h (block_of trees k) (get_or rows n None)) item (sym count))
      ∙ blocks_more h (map (block_of trees) (take at old)) (block_of trees (get_or old at d)) rows
      ∙ ap (λ ks. folded_blocks h ks rows) taken;
  ids = ids_more block_below old front at d v l g.ids (λ n e. ids n (ap (block_below n) item ∙ e));
}
  where
    item : get_or items at d ≡ get_or old at d
    item = front_item old items front at d l g.here

    count : length (map (block_of trees) (take at old)) ≡ at
    count = length-map (take at old) (block_of trees) ∙ length-take-le at old (omega arith)

    taken : map (block_of trees) (take at old) ++ block_of trees (get_or old at d) ∷ [] ≡ map (block_of trees) (take (at + 1) old)
    taken = sym (map-append (block_of trees) (take at old) (get_or old at d ∷ [])) ∙ ap (map (block_of trees)) (sym (take_more old at d l))

pub all_folded : (trees : List Tree) (h : Here) (rows : List Reached) (old items front : List Block) (at : ℕ) → length items ≤ at → Going trees h rows old items front at
    → (map (block_of trees) items ≡ folded_blocks h (map (block_of trees) old) rows) × ((n : ℕ) → IsTrue (list_all (block_below n) old) → IsTrue (list_all (block_below n) items))
all_folded trees h rows old items front at m g = (
  ap (map (block_of trees)) all ∙ g.done ∙ ap (λ ks. folded_blocks h (map (block_of trees) ks) rows) whole,
  λ n e. ap (list_all (block_below n)) all ∙ g.ids n (ap (list_all (block_below n)) whole ∙ e),
)
  where
    all : items ≡ front
    all = front_all old items front at m g.here

    whole : take at old ≡ old
    whole = take_all at old (let long = front_long old items front at g.here in omega arith)

-- the body with its blocks folded
pub body_is : (p : Program) (b : Body) (rows : List Reached) (blocks : List Block) → rows ≡ const_at (shapes_of (crate_of p)) (body_of (trees_of p.types) b)
    → map (block_of (trees_of p.types)) blocks ≡ folded_blocks (text_of p b) (map (block_of (trees_of p.types)) b.blocks) rows
    → body_of (trees_of p.types) (record { args = b.args; locals = b.locals; blocks = blocks }) ≡ folded (shapes_of (crate_of p)) (body_of (trees_of p.types) b)
unfolding folded folded_by
body_is p b rows blocks r e = ap (λ ks. record (body_of (trees_of p.types) b) { blocks = ks }) (e ∙ ap (folded_blocks (text_of p b) (map (block_of (trees_of p.types)) b.blocks)) r)

pub still_in_table : (types : List Ty) (b : Body) (blocks : List Block) → BodyInTable types b → ((n : ℕ) → IsTrue (list_all (block_below n) b.blocks) → IsTrue (list_all (block_below n) blocks))
    → BodyInTable types (record { args = b.args; locals = b.locals; blocks = blocks })
still_in_table types b blocks h ids =
    let was = and_parts (all_below (length types) b.locals) (list_all (block_below (length types)) b.blocks) h in
    and_from (all_below (length types) b.locals) (list_all (block_below (length types)) blocks) was.0 (ids (length types) was.1)
