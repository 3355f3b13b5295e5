-- What the code solves has what is known at the blocks' starts.
use Rattle.std.proofs.Common.{◌≡◌, sym, ap, ◌∙◌, subst, ℕ, ◌*◌, ◌<◌, List, [], map, length, get_or, Option, Some, slice_get, option_map, arith}
use Rattle.std.specs.List.{All, Contains}
use Rattle.std.proofs.lemmas.List.{length-map, get_or-map}
use Rattle.std.proofs.lemmas.Option.{slice_get_within, slice_get-get_or, get_or_from_slice_get}
use Rattle.mir_syntax.specs.declared.body.Place.{Place}
use Rattle.mir_syntax.specs.declared.body.Block.{Block}
use Rattle.mir_syntax.specs.declared.body.Body.{Body}
use Rattle.mir_syntax.specs.declared.body.Term.TheVariants.{Unreachable}
use Rattle.mir_syntax.specs.Tree.{Tree}
use Rattle.mir_syntax.specs.Crate.{TypedBlock, TypedBody, block_of, body_of}
use Rattle.mir_syntax.specs.Shapes.{Shape}
use Rattle.mir_syntax.specs.Parts.{targets}
use Rattle.mir_cfg.specs.Paths.{block_term, terms_of, exits, Closed}
use Rattle.flow_engine.specs.declared.edges.Edge.{Edge}
use Rattle.flow_engine.specs.Flow.{Least, problem}
use Rattle.flow_engine.proofs.Lists.{length-starts}
use Rattle.const_flow.specs.declared.cell.Cell.{Cell}
use Rattle.const_flow.specs.declared.cell.Cell.TheVariants.{Many}
use Rattle.const_flow.specs.ConstAt.{Reached, join_reached, text, tracked, const_at}
use Rattle.const_flow.specs.Order.{BelowReached}
use Rattle.const_flow.specs.Cells.{facts_of, reached_of, told}
use Rattle.const_flow.specs.Nodes.{at_starts, HasEdges, no_block, flown, begun, cells_of, row_of, IsRow}
use Rattle.const_flow.specs.Carried.{BelowAs, joined_as, started_as, sent_as}
use Rattle.const_flow.specs.Lattice.{cells_of_facts}
use Rattle.const_flow.proofs.EachEdge.{closed_at}
use Rattle.const_flow.proofs.Nodes.{starts_known}

-- the least solution of the problem of the code
abbrev pub LeastRows : List Shape → TypedBody → List Place → ℕ → List Edge → List Edge → List (Option (List Cell)) → Type 0
LeastRows D b ps m es edges ys = Least (IsRow ps) (BelowAs (IsRow ps) BelowReached (reached_of ps)) (problem (joined_as (reached_of ps) row_of join_reached) (started_as row_of (begun b ps)) (sent_as (reached_of ps) row_of (flown (text D b) b.blocks edges)) m es) ys

pub least_rows : (D : List Shape) (b : TypedBody) (ps : List Place) (m : ℕ) (es edges : List Edge) (ys : List (Option (List Cell))) → LeastRows D b ps m es edges ys → All (IsRow ps) ys
least_rows D b ps m es edges ys l k d low = l.facts k (get_or ys k d) (slice_get-get_or ys k d low)

pub rows_long : (D : List Shape) (b : TypedBody) (ps : List Place) (m : ℕ) (es edges : List Edge) (ys : List (Option (List Cell))) → LeastRows D b ps m es edges ys → length ys ≡ m
unfolding problem
rows_long D b ps m es edges ys l = l.solves.same_length ∙ length-starts (started_as row_of (begun b ps)) 0 m

module _ (D : List Shape) (trees : List Tree) (body : Body) where
  abbrev B : TypedBody
  B = body_of trees body

  pub count : length (body_of trees body).blocks ≡ length body.blocks
  count = length-map body.blocks (block_of trees)

  none : Block
  none = record { stmts = []; term = Unreachable }

  same_terms : (i : ℕ) (k : TypedBlock) → slice_get (body_of trees body).blocks i ≡ Some k → exits (terms_of body) i ≡ targets k.term
  same_terms i k e =
      let low : i < length body.blocks = (let m = slice_get_within (body_of trees body).blocks i k e in omega (arith, count)) in
      let here : get_or (body_of trees body).blocks i no_block ≡ k = get_or_from_slice_get (body_of trees body).blocks i k no_block e in
      let typed : get_or (body_of trees body).blocks i no_block ≡ block_of trees (get_or body.blocks i none) = get_or-map (block_of trees) body.blocks i none no_block low in
      let term : get_or (map block_term body.blocks) i Unreachable ≡ block_term (get_or body.blocks i none) = get_or-map block_term body.blocks i none Unreachable low in
      ap targets (term ∙ ap (λ (b : TypedBlock). b.term) (sym typed ∙ here))

  pub starts_of : (ps : List Place) (m : ℕ) (es edges : List Edge) (ys : List (Option (List Cell))) → ps ≡ tracked D (body_of trees body) → m ≡ 3 * length body.blocks → es ≡ edges → HasEdges (terms_of body) (length body.blocks) edges → Closed (terms_of body) → LeastRows D (body_of trees body) ps m es edges ys → map (reached_of ps) (at_starts ys) ≡ const_at D (body_of trees body)
  starts_of ps m es edges ys placed thrice same has closed l =
      let b = body_of trees body in
      let has2 : HasEdges (terms_of body) (length b.blocks) edges = subst (λ n. HasEdges (terms_of body) n edges) (sym count) has in
      let closed2 : (i t : ℕ) → i < length b.blocks → Contains (exits (terms_of body) i) t → t < length b.blocks = closed_at (length b.blocks) (terms_of body) (length-map body.blocks block_term ∙ sym count) closed in
      let thrice2 : m ≡ 3 * length b.blocks = omega (arith, count) in
      let l2 : LeastRows D b (tracked D b) (3 * length b.blocks) edges edges ys = subst (λ qs. LeastRows D b qs (3 * length b.blocks) edges edges ys) placed (subst (λ k. LeastRows D b ps k edges edges ys) thrice2 (subst (λ xs. LeastRows D b ps m xs edges ys) same l)) in
      ap (λ qs. map (reached_of qs) (at_starts ys)) placed ∙ starts_known D b (terms_of body) edges has2 same_terms closed2 ys l2

-- ---- one cell

pub told_some : (ps : List Place) (ks : List Cell) (path : ℕ) (k : Cell) (o : Reached) → length ks ≡ length ps → o ≡ Some (facts_of ps ks) → get_or ks path Many ≡ k → told (Some k) ≡ told (option_map (λ fs. get_or (cells_of fs) path Many) o)
told_some ps ks path k o long is at = ap (λ k. told (Some k)) (sym at ∙ ap (λ xs. get_or xs path Many) (sym (cells_of_facts ps ks long))) ∙ sym (ap (λ o. told (option_map (λ fs. get_or (cells_of fs) path Many) o)) is)
