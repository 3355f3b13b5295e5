-- Rows that are joined, sent and begun, as the facts that they stand for.
use Rattle.std.proofs.Common.{◌≡◌, refl, sym, ap, ◌∙◌, subst, ℕ, ◌<◌, Bool, true, false, ◌||◌, nat_eq, nat_lt, if◌then◌else◌, List, [], ◌∷◌, map, length, Option, Some, None, slice_get, arith}
use Rattle.std.specs.List.{Contains, list_any}
use Rattle.std.proofs.lemmas.Bool.{eqb-true, and_parts}
use Rattle.mir_syntax.specs.declared.body.Place.{Place}
use Rattle.mir_syntax.specs.declared.body.Term.{Term}
use Rattle.mir_syntax.specs.Crate.{TypedBlock, TypedBody}
use Rattle.mir_semantics.specs.Step.{Here}
use Rattle.mir_cfg.specs.Paths.{exits}
use Rattle.flow_engine.specs.declared.edges.Edge.{Edge}
use Rattle.const_flow.specs.declared.cell.Cell.{Cell}
use Rattle.const_flow.specs.declared.cell.Cell.TheVariants.{Nothing, Many}
use Rattle.const_flow.specs.Facts.{Facts, join, after_all, after_term, leads}
use Rattle.const_flow.specs.ConstAt.{join_each, join_reached, sent_if, is_arg, first_fact}
use Rattle.const_flow.specs.Cells.{facts_of, reached_of}
use Rattle.const_flow.specs.Nodes.{is_start, node_block, is_edge, block_at, gone_over, sent_out, along, flown, cells_of, row_of, IsRow, join_cells}
use Rattle.const_flow.specs.Carried.{joined_as, sent_as}
use Rattle.const_flow.specs.Lattice.{cells_of_facts}
use Rattle.const_flow.proofs.EachEdge.{any_there}

abbrev pub joined : List Place → Option (List Cell) → Option (List Cell) → Option (List Cell)
joined ps x y = joined_as (reached_of ps) row_of join_reached x y

-- ---- joins

pub join_nothing : (ps : List Place) (x : Option (List Cell)) → IsRow ps x → x ≡ joined ps x None
join_nothing ps None k = refl
join_nothing ps (Some ks) k = ap Some (sym (cells_of_facts ps ks k))

pub join_first : (ps : List Place) (ls : List Cell) → length ls ≡ length ps → Some ls ≡ joined ps None (Some ls)
join_first ps ls k = ap Some (sym (cells_of_facts ps ls k))

each_joined : (ps : List Place) (ks ls : List Cell) → length ks ≡ length ps → length ls ≡ length ps → cells_of (join_each (facts_of ps ks) (facts_of ps ls)) ≡ join_cells ks ls
each_joined [] [] [] k m = refl
each_joined (p ∷ ps) (a ∷ ks) (b ∷ ls) k m = ap (λ xs. join a b ∷ xs) (each_joined ps ks ls (omega arith) (omega arith))
each_joined [] (a ∷ ks) ls k m = absurd (omega arith)
each_joined [] [] (b ∷ ls) k m = absurd (omega arith)
each_joined (p ∷ ps) [] ls k m = absurd (omega arith)
each_joined (p ∷ ps) (a ∷ ks) [] k m = absurd (omega arith)

pub join_both : (ps : List Place) (ks ls : List Cell) → length ks ≡ length ps → length ls ≡ length ps → Some (join_cells ks ls) ≡ joined ps (Some ks) (Some ls)
join_both ps ks ls k m = ap Some (sym (each_joined ps ks ls k m))

-- ---- along an edge

pub walked_row : (ps : List Place) (ks : List Cell) (fs : Facts) → length ks ≡ length ps → facts_of ps ks ≡ fs → ks ≡ cells_of fs
walked_row ps ks fs k e = sym (cells_of_facts ps ks k) ∙ ap cells_of e

pub out_row : (ps : List Place) (t : Term) (b : ℕ) (fs : Facts) (ks : List Cell) → leads fs t b ≡ true → length ks ≡ length ps → facts_of ps ks ≡ after_term t fs → Some ks ≡ row_of (sent_out t b (Some fs))
out_row ps t b fs ks l k e = ap Some (walked_row ps ks (after_term t fs) k e) ∙ sym (ap (λ c. row_of (sent_if c (after_term t fs))) l)

pub no_row : (t : Term) (b : ℕ) (fs : Facts) → leads fs t b ≡ false → None ≡ row_of (sent_out t b (Some fs))
no_row t b fs l = sym (ap (λ c. row_of (sent_if c (after_term t fs))) l)

module _ (h : Here) (blocks : List TypedBlock) (edges : List Edge) (ps : List Place) where
  abbrev pub sent_row : ℕ → Option (List Cell) → Option (List Cell)
  sent_row i x = sent_as (reached_of ps) row_of (flown h blocks edges) i x

  pub none_sent : (i : ℕ) → None ≡ sent_row i None
  none_sent i = go (slice_get edges i)
    where
      out : (e : Edge) (c : Bool) → None ≡ row_of (if c then gone_over h (block_at blocks (node_block e.from)) None else sent_out (block_at blocks (node_block e.from)).term (node_block e.to) None)
      out e true = refl
      out e false = refl

      go : (o : Option Edge) → None ≡ row_of (along h blocks o None)
      go None = refl
      go (Some e) = out e (is_start e.from)

  pub no_edge_sent : (i : ℕ) (x : Option (List Cell)) → slice_get edges i ≡ None → None ≡ sent_row i x
  no_edge_sent i x e = sym (ap (λ o. row_of (along h blocks o (reached_of ps x))) e)

  pub over_sent : (i : ℕ) (e : Edge) (ks : List Cell) → slice_get edges i ≡ Some e → is_start e.from ≡ true → Some (cells_of (after_all h (block_at blocks (node_block e.from)).stmts (facts_of ps ks))) ≡ sent_row i (Some ks)
  over_sent i e ks at l =
      sym (ap (λ o. row_of (along h blocks o (Some (facts_of ps ks)))) at
      ∙ ap (λ c. row_of (if c then gone_over h (block_at blocks (node_block e.from)) (Some (facts_of ps ks)) else sent_out (block_at blocks (node_block e.from)).term (node_block e.to) (Some (facts_of ps ks)))) l)

  pub out_sent : (i : ℕ) (e : Edge) (ks : List Cell) → slice_get edges i ≡ Some e → is_start e.from ≡ false → row_of (sent_out (block_at blocks (node_block e.from)).term (node_block e.to) (Some (facts_of ps ks))) ≡ sent_row i (Some ks)
  out_sent i e ks at l =
      sym (ap (λ o. row_of (along h blocks o (Some (facts_of ps ks)))) at
      ∙ ap (λ c. row_of (if c then gone_over h (block_at blocks (node_block e.from)) (Some (facts_of ps ks)) else sent_out (block_at blocks (node_block e.from)).term (node_block e.to) (Some (facts_of ps ks)))) l)

-- an edge that passes the test begins at a node of a block
pub edge_within : (n : ℕ) (terms : List Term) (e : Edge) → is_edge n terms e ≡ true → node_block e.from < n
edge_within n terms e t = (let p = and_parts (nat_lt (node_block e.from) n) (is_start e.from || list_any (nat_eq (node_block e.to)) (exits terms (node_block e.from))) t in let q = p.0 in grind arith)

-- and leads to a target of it from its end
pub end_leads : (n : ℕ) (terms : List Term) (e : Edge) → is_edge n terms e ≡ true → is_start e.from ≡ false → Contains (exits terms (node_block e.from)) (node_block e.to)
end_leads n terms e t l =
    let p = and_parts (nat_lt (node_block e.from) n) (is_start e.from || list_any (nat_eq (node_block e.to)) (exits terms (node_block e.from))) t in
    let any : list_any (nat_eq (node_block e.to)) (exits terms (node_block e.from)) ≡ true = ap (λ c. c || list_any (nat_eq (node_block e.to)) (exits terms (node_block e.from))) (sym l) ∙ p.1 in
    let (u, c, s) = any_there (nat_eq (node_block e.to)) (exits terms (node_block e.from)) any in
    subst (Contains (exits terms (node_block e.from))) (sym (eqb-true (node_block e.to) u s)) c

-- ---- at first

abbrev pub first_cell : TypedBody → Place → Cell
first_cell b p = if is_arg b p.local then Many else Nothing

pub first_row : (b : TypedBody) (ps : List Place) → cells_of (map (first_fact b) ps) ≡ map (first_cell b) ps
first_row b [] = refl
first_row b (p ∷ ps) = ap (λ ks. first_cell b p ∷ ks) (first_row b ps)
