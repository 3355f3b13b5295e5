-- What is known of places is a lattice, and the flow over the nodes rises: proofs alone, of the law that `solve` asks for.
use Rattle.std.proofs.Common.{◌≡◌, refl, sym, ap, ◌∙◌, ℕ, suc, Bool, true, false, nat_eq, if◌then◌else◌, List, [], ◌∷◌, map, length, Option, Some, None, slice_get, arith}
use Rattle.mir_syntax.specs.declared.body.Place.{Place}
use Rattle.mir_syntax.specs.declared.body.Term.{Term}
use Rattle.mir_syntax.specs.Crate.{TypedBlock, TypedBody}
use Rattle.mir_semantics.specs.Step.{Here}
use Rattle.flow_engine.specs.declared.edges.Edge.{Edge}
use Rattle.flow_engine.specs.Flow.{Lawful}
use Rattle.const_flow.specs.declared.cell.Cell.{Cell}
use Rattle.const_flow.specs.Facts.{Facts, after_term, leads}
use Rattle.const_flow.specs.ConstAt.{Reached, join_reached, sent_if, first_fact}
use Rattle.const_flow.specs.Order.{BelowReached, places, OkReached, rank, height}
use Rattle.const_flow.specs.Cells.{facts_of, reached_of}
use Rattle.const_flow.specs.Nodes.{is_start, node_block, block_at, gone_over, sent_out, along, flown, begun, cells_of, row_of, IsRow}
use Rattle.const_flow.specs.Carried.{IsNaming, BelowAs, joined_as, started_as, sent_as, rank_as, carried_lawful}
use Rattle.const_flow.specs.Rises.{all_below, term_below, leads_below, all_places, term_places, joined_ok, same_reached, then_reached, left_reached, right_reached, least_reached, rank_reached, rank_equal, rank_high, first_places}

-- ---- along the edges

pub over_ok : (ps : List Place) (h : Here) (k : TypedBlock) (x : Reached) → OkReached ps x → OkReached ps (gone_over h k x)
over_ok ps h k None o = tt
over_ok ps h k (Some fs) o = all_places h k.stmts fs ∙ o

over_below : (h : Here) (k : TypedBlock) (x y : Reached) → BelowReached x y → BelowReached (gone_over h k x) (gone_over h k y)
over_below h k None y b = tt
over_below h k (Some fs) (Some gs) b = all_below h k.stmts fs gs b
over_below h k (Some fs) None b = absurd b

out_ok : (ps : List Place) (t : Term) (b : ℕ) (x : Reached) → OkReached ps x → OkReached ps (sent_out t b x)
out_ok ps t b None o = tt
out_ok ps t b (Some fs) o = go (leads fs t b)
  where
    go : (p : Bool) → OkReached ps (sent_if p (after_term t fs))
    go false = tt
    go true = term_places t fs ∙ o

out_below : (t : Term) (b : ℕ) (x y : Reached) → BelowReached x y → BelowReached (sent_out t b x) (sent_out t b y)
out_below t b None y le = tt
out_below t b (Some fs) (Some gs) le = go (leads fs t b) (leads gs t b) refl refl
  where
    go : (p q : Bool) → leads fs t b ≡ p → leads gs t b ≡ q → BelowReached (sent_if p (after_term t fs)) (sent_if q (after_term t gs))
    go false q e d = tt
    go true true e d = term_below t fs gs le
    go true false e d = absurd (let z : true ≡ false = sym (leads_below fs gs t b le e) ∙ d in grind arith)
out_below t b (Some fs) None le = absurd le

pub along_ok : (ps : List Place) (h : Here) (ks : List TypedBlock) (o : Option Edge) (x : Reached) → OkReached ps x → OkReached ps (along h ks o x)
along_ok ps h ks None x k = tt
along_ok ps h ks (Some e) x k = go (is_start e.from)
  where
    go : (c : Bool) → OkReached ps (if c then gone_over h (block_at ks (node_block e.from)) x else sent_out (block_at ks (node_block e.from)).term (node_block e.to) x)
    go true = over_ok ps h (block_at ks (node_block e.from)) x k
    go false = out_ok ps (block_at ks (node_block e.from)).term (node_block e.to) x k

pub along_below : (h : Here) (ks : List TypedBlock) (o : Option Edge) (x y : Reached) → BelowReached x y → BelowReached (along h ks o x) (along h ks o y)
along_below h ks None x y b = tt
along_below h ks (Some e) x y b = go (is_start e.from)
  where
    go : (c : Bool) → BelowReached (if c then gone_over h (block_at ks (node_block e.from)) x else sent_out (block_at ks (node_block e.from)).term (node_block e.to) x) (if c then gone_over h (block_at ks (node_block e.from)) y else sent_out (block_at ks (node_block e.from)).term (node_block e.to) y)
    go true = over_below h (block_at ks (node_block e.from)) x y b
    go false = out_below (block_at ks (node_block e.from)).term (node_block e.to) x y b

module _ (h : Here) (b : TypedBody) (ps : List Place) (es : List Edge) where
  begun_ok : (node : ℕ) → OkReached ps (begun b ps node)
  begun_ok node = go (nat_eq node 1)
    where
      go : (c : Bool) → OkReached ps (if c then Some (map (first_fact b) ps) else None)
      go true = first_places b ps
      go false = tt

  pub reached_lawful : Lawful (OkReached ps) BelowReached rank (height ps) (begun b ps) join_reached (flown h b.blocks es)
  reached_lawful = record {
    same = λ x k. same_reached ps x;
    then_below = then_reached ps;
    join_ok = joined_ok ps;
    left = left_reached ps;
    right = right_reached ps;
    least = λ x y z k m. least_reached ps x y z;
    rank_below = rank_reached ps;
    rank_same = rank_equal ps;
    rank_high = rank_high ps;
    start_ok = begun_ok;
    flow_ok = λ i x k. along_ok ps h b.blocks (slice_get es i) x k;
    flow_below = λ i x y k m le. along_below h b.blocks (slice_get es i) x y le;
  }

-- ---- facts and cells

pub places_of : (ps : List Place) (ks : List Cell) → length ks ≡ length ps → places (facts_of ps ks) ≡ ps
places_of [] [] e = refl
places_of (p ∷ ps) (k ∷ ks) e = ap (λ qs. p ∷ qs) (places_of ps ks (omega arith))
places_of [] (k ∷ ks) e = absurd (omega arith)
places_of (p ∷ ps) [] e = absurd (omega arith)

pub cells_of_facts : (ps : List Place) (ks : List Cell) → length ks ≡ length ps → cells_of (facts_of ps ks) ≡ ks
cells_of_facts [] [] e = refl
cells_of_facts (p ∷ ps) (k ∷ ks) e = ap (λ qs. k ∷ qs) (cells_of_facts ps ks (omega arith))
cells_of_facts [] (k ∷ ks) e = absurd (omega arith)
cells_of_facts (p ∷ ps) [] e = absurd (omega arith)

cells_long : (ps : List Place) (fs : Facts) → places fs ≡ ps → length (cells_of fs) ≡ length ps
cells_long ps fs e = count fs ∙ ap length e
  where
    count : (fs : Facts) → length (cells_of fs) ≡ length (places fs)
    count [] = refl
    count (f ∷ fs) = ap suc (count fs)

facts_again : (fs : Facts) → facts_of (places fs) (cells_of fs) ≡ fs
facts_again [] = refl
facts_again (f ∷ fs) = ap (λ gs. f ∷ gs) (facts_again fs)

pub rows_name : (ps : List Place) → IsNaming (IsRow ps) (OkReached ps) (reached_of ps) row_of
rows_name ps = record {
  read_ok = read_ok;
  written_ok = written_ok;
  read_written = read_written;
  written_read = written_read;
}
  where
    read_ok : (x : Option (List Cell)) → IsRow ps x → OkReached ps (reached_of ps x)
    read_ok None k = tt
    read_ok (Some ks) k = places_of ps ks k

    written_ok : (y : Reached) → OkReached ps y → IsRow ps (row_of y)
    written_ok None k = tt
    written_ok (Some fs) k = cells_long ps fs k

    read_written : (y : Reached) → OkReached ps y → reached_of ps (row_of y) ≡ y
    read_written None k = refl
    read_written (Some fs) k = ap Some (ap (λ qs. facts_of qs (cells_of fs)) (sym k) ∙ facts_again fs)

    written_read : (x : Option (List Cell)) → IsRow ps x → row_of (reached_of ps x) ≡ x
    written_read None k = refl
    written_read (Some ks) k = ap Some (cells_of_facts ps ks k)

pub const_lawful : (h : Here) (b : TypedBody) (ps : List Place) (es : List Edge) → Lawful (IsRow ps) (BelowAs (IsRow ps) BelowReached (reached_of ps)) (rank_as (reached_of ps) rank) (height ps) (started_as row_of (begun b ps)) (joined_as (reached_of ps) row_of join_reached) (sent_as (reached_of ps) row_of (flown h b.blocks es))
const_lawful h b ps es = carried_lawful (IsRow ps) (OkReached ps) (reached_of ps) row_of (rows_name ps) BelowReached rank (height ps) (begun b ps) join_reached (flown h b.blocks es) (reached_lawful h b ps es)
