-- The problem over the nodes has the halves of the body's, so its least solution has what is known at the blocks' starts.
use Rattle.std.proofs.Common.{◌≡◌, ◌≢◌, ◌⊎◌, inl, inr, refl, sym, ap, ap₂, ◌∙◌, subst, ℕ, zero, suc, ◌+◌, ◌*◌, ◌<◌, false, nat_eq, if◌then◌else◌, List, [], ◌∷◌, ◌++◌, map, length, Option, Some, None, slice_get, arith}
use Rattle.std.specs.List.{Contains}
use Rattle.std.proofs.lemmas.Option.{slice_get_within, slice_get-get_or, get_or_from_slice_get}
use Rattle.mir_syntax.proofs.Lists.{map_back, map_there}
use Rattle.mir_syntax.proofs.Trees.{slice_get-front}
use Rattle.mir_syntax.specs.declared.body.Place.{Place}
use Rattle.mir_syntax.specs.declared.body.Term.{Term}
use Rattle.mir_syntax.specs.Crate.{TypedBlock, TypedBody}
use Rattle.mir_syntax.specs.Shapes.{Shape}
use Rattle.mir_syntax.specs.Parts.{targets}
use Rattle.mir_semantics.specs.Step.{Here}
use Rattle.mir_cfg.specs.Paths.{exits}
use Rattle.flow_engine.specs.declared.edges.Edge.{Edge}
use Rattle.flow_engine.specs.Flow.{Arrow, Least, starts_to, arrows_at, problem}
use Rattle.flow_engine.proofs.Lists.{some_one, length-starts, start_at, IsArrow, arrow_is, arrow_to}
use Rattle.const_flow.specs.declared.cell.Cell.{Cell}
use Rattle.const_flow.specs.ConstAt.{Reached, join_reached, sent, text, tracked, first_fact, unreached, begins, arrow, arrows_from, const_flow, const_at}
use Rattle.const_flow.specs.Order.{BelowReached, OkReached, rank, height}
use Rattle.const_flow.specs.Cells.{reached_of}
use Rattle.const_flow.specs.Nodes.{start_node, is_start, node_block, at_starts, over, out, IsOf, HasEdges, no_block, block_at, gone_over, sent_out, along, flown, begun, row_of, IsRow}
use Rattle.const_flow.specs.Carried.{BelowAs, joined_as, started_as, sent_as}
use Rattle.const_flow.specs.Rises.{same_reached, then_reached}
use Rattle.const_flow.specs.Lattice.{over_ok, along_below, reached_lawful, rows_name}
use Rattle.const_flow.proofs.EachEdge.{contains_at, at_contains}
use Rattle.const_flow.proofs.CarriedLeast.{start_get, carried_least}
use Rattle.const_flow.proofs.Numbering.{IsEnd, end_is, start_block, start_starts, end_block, end_ends}
use Rattle.const_flow.proofs.Halves.{IsOver, IsBehind, IsWay, IsHalves, halves_least, least_one}
use Rattle.const_flow.proofs.Rising.{begins_length, const_laws, const_least}

-- ---- the body's arrows

sent_is : (h : Here) (k : TypedBlock) (b : ℕ) (x : Reached) → sent h k b x ≡ sent_out k.term b (gone_over h k x)
unfolding sent
sent_is h k b None = refl
sent_is h k b (Some fs) = refl

get_later : {A : Type 0} (xs ys : List A) (i : ℕ) (x : A) → slice_get ys i ≡ Some x → slice_get (xs ++ ys) (length xs + i) ≡ Some x
get_later [] ys i x e = subst (λ n. slice_get ys n ≡ Some x) (let z : i ≡ 0 + i = omega arith in z) e
get_later (y ∷ xs) ys i x e = subst (λ n. slice_get (y ∷ (xs ++ ys)) n ≡ Some x) (let z : suc (length xs + i) ≡ suc (length xs) + i = omega arith in z) (get_later xs ys i x e)

-- each target has its arrow
arrow_get : (h : Here) (a : ℕ) (ks : List TypedBlock) (b : ℕ) (k : TypedBlock) (t : ℕ) → slice_get ks b ≡ Some k → Contains (targets k.term) t → (i : ℕ) × (slice_get (arrows_from h a ks) i ≡ Some (arrow h (a + b) k t))
arrow_get h a [] b k t e c = absurd (grind arith)
arrow_get h a (l ∷ ks) zero k t e c =
    let (i, q) = at_contains (targets k.term) t c in
    let same : l ≡ k = some_one e in (
      i,
      slice_get-front (map (arrow h a l) (targets l.term)) (arrows_from h (suc a) ks) i (arrow h (a + 0) k t)
          (subst (λ (m : TypedBlock). slice_get (map (arrow h a m) (targets m.term)) i ≡ Some (arrow h (a + 0) k t)) (sym same) (subst (λ n. slice_get (map (arrow h a k) (targets k.term)) i ≡ Some (arrow h n k t)) (let z : a ≡ a + 0 = omega arith in z) (map_there (arrow h a k) (targets k.term) i t q))),
    )
arrow_get h a (l ∷ ks) (suc b) k t e c =
    let (i, q) = arrow_get h (suc a) ks b k t e c in
    (length (map (arrow h a l) (targets l.term)) + i, subst (λ n. slice_get (map (arrow h a l) (targets l.term) ++ arrows_from h (suc a) ks) (length (map (arrow h a l) (targets l.term)) + i) ≡ Some (arrow h n k t)) (let z : suc a + b ≡ a + suc b = omega arith in z) (get_later (map (arrow h a l) (targets l.term)) (arrows_from h (suc a) ks) i (arrow h (suc a + b) k t) q))

-- and each arrow is a target's
record IsArrowOf (h : Here) (a : ℕ) (ks : List TypedBlock) (e : Arrow Reached) : Type 0 where
  at : ℕ
  block : TypedBlock
  to : ℕ
  there : slice_get ks at ≡ Some block
  target : Contains (targets block.term) to
  same : arrow h (a + at) block to ≡ e

get_parts : {A : Type 0} (xs ys : List A) (i : ℕ) (x : A) → slice_get (xs ++ ys) i ≡ Some x → (slice_get xs i ≡ Some x) ⊎ ((n : ℕ) × (slice_get ys n ≡ Some x))
get_parts [] ys i x e = inr (i, e)
get_parts (a ∷ xs) ys zero x e = inl e
get_parts (a ∷ xs) ys (suc i) x e = get_parts xs ys i x e

arrow_of : (h : Here) (a : ℕ) (ks : List TypedBlock) (i : ℕ) (e : Arrow Reached) → slice_get (arrows_from h a ks) i ≡ Some e → IsArrowOf h a ks e
arrow_of h a [] i e q = absurd (grind arith)
arrow_of h a (k ∷ ks) i e q = elim (get_parts (map (arrow h a k) (targets k.term)) (arrows_from h (suc a) ks) i e q) [
  | inl g ↦ (let (t, u, s) = map_back (arrow h a k) (targets k.term) i e g in
      record { at = 0; block = k; to = t; there = refl; target = contains_at (targets k.term) i t u; same = ap (λ n. arrow h n k t) (let z : a + 0 ≡ a = omega arith in z) ∙ s })
  | inr (n, g) ↦ (let r = arrow_of h (suc a) ks n e g in
      record { at = suc r.at; block = r.block; to = r.to; there = r.there; target = r.target; same = ap (λ n. arrow h n r.block r.to) (let z : a + suc r.at ≡ suc a + r.at = omega arith in z) ∙ r.same })
]

-- ---- the nodes

module _ (D : List Shape) (b : TypedBody) (terms : List Term) (es : List Edge) (has : HasEdges terms (length b.blocks) es) (same_terms : (i : ℕ) (k : TypedBlock) → slice_get b.blocks i ≡ Some k → exits terms i ≡ targets k.term) (closed : (i t : ℕ) → i < length b.blocks → Contains (exits terms i) t → t < length b.blocks) where
  abbrev H : Here
  H = text D b

  abbrev P : List Place
  P = tracked D b

  abbrev N : ℕ
  N = length b.blocks

  abbrev half : ℕ → Reached → Reached
  half i x = gone_over (text D b) (block_at b.blocks i) x

  unreached_get : (ks : List TypedBlock) (i : ℕ) → i < length ks → slice_get (unreached ks) i ≡ Some None
  unreached_get [] i l = absurd (omega arith)
  unreached_get (k ∷ ks) zero l = refl
  unreached_get (k ∷ ks) (suc i) l = unreached_get ks i (omega arith)

  -- nothing is known at first but at bb0's start
  begun_other : (node : ℕ) → node ≢ 1 → begun b (tracked D b) node ≡ None
  begun_other node ne = ap (λ c. if c then Some (map (first_fact b) (tracked D b)) else None) (let z : nat_eq node 1 ≡ false = grind arith in z)

  begins_get : (ks : List TypedBlock) (i : ℕ) → i < length ks → slice_get (begins D b ks) i ≡ Some (begun b (tracked D b) (start_node i))
  begins_get [] i l = absurd (omega arith)
  begins_get (k ∷ ks) zero l = refl
  begins_get (k ∷ ks) (suc i) l = unreached_get ks i (omega arith) ∙ ap Some (sym (begun_other (start_node (suc i)) (λ e. omega arith)))

  along_start : (e : Edge) (i : ℕ) (x : Reached) → e.from ≡ start_node i → along (text D b) b.blocks (Some e) x ≡ half i x
  along_start e i x s =
      ap₂ (λ c j. if c then gone_over (text D b) (block_at b.blocks j) x else sent_out (block_at b.blocks j).term (node_block e.to) x) (ap is_start s ∙ start_starts i) (ap node_block s ∙ start_block i)

  along_end : (e : Edge) (i t : ℕ) (x : Reached) → IsEnd i e.from → e.to ≡ start_node t → along (text D b) b.blocks (Some e) x ≡ sent_out (block_at b.blocks i).term t x
  along_end e i t x s u =
      ap₂ (λ c j. if c then gone_over (text D b) (block_at b.blocks j) x else sent_out (block_at b.blocks j).term (node_block e.to) x) (end_ends i e.from s) (end_block i e.from s)
      ∙ ap (λ u. sent_out (block_at b.blocks i).term u x) (ap node_block u ∙ start_block t)

  block_is : (i : ℕ) → i < length b.blocks → slice_get b.blocks i ≡ Some (block_at b.blocks i)
  block_is i l = slice_get-get_or b.blocks i no_block l

  bottom : (i m : ℕ) (s x : Reached) → IsEnd i m → slice_get (starts_to (begun b (tracked D b)) 0 (3 * length b.blocks)) m ≡ Some s → BelowReached s x
  bottom i m s x k is =
      subst (λ s. BelowReached s x) (sym (start_at (begun b (tracked D b)) 0 (3 * length b.blocks) m s is ∙ begun_other (0 + m) (λ e. elim k [ inl q ↦ (let r = q in omega arith) | inr q ↦ (let r = q in omega arith) ]))) tt

  only : (i : ℕ) (e : Arrow Reached) → slice_get (arrows_at (flown (text D b) b.blocks es) 0 es) i ≡ Some e → ((n : ℕ) × IsOver (length b.blocks) half n e) ⊎ ((j : ℕ) × (a : Arrow Reached) × (slice_get (arrows_from (text D b) 0 b.blocks) j ≡ Some a) × IsBehind (length b.blocks) half a e)
  only i e is = go (has.only w.edge (contains_at es i w.edge w.at))
    where
      w : IsArrow (flown (text D b) b.blocks es) i es e
      w = arrow_is (flown (text D b) b.blocks es) es i e is

      flows : (x : Reached) → e.flow x ≡ along (text D b) b.blocks (Some w.edge) x
      flows x = ap (λ (f : Reached → Reached). f x) w.flows ∙ ap (λ o. along (text D b) b.blocks o x) w.at

      go : (n : ℕ) × (n < length b.blocks) × IsOf terms n w.edge → ((n : ℕ) × IsOver (length b.blocks) half n e) ⊎ ((j : ℕ) × (a : Arrow Reached) × (slice_get (arrows_from (text D b) 0 b.blocks) j ≡ Some a) × IsBehind (length b.blocks) half a e)
      go (n, l, (t, c, inl s)) = inl (
        n,
        record {
          low = l;
          from = w.from ∙ ap (λ (d : Edge). d.from) s;
          to = subst (IsEnd n) (sym (w.to ∙ ap (λ (d : Edge). d.to) s)) (end_is n t);
          flows = λ x. flows x ∙ along_start w.edge n x (ap (λ (d : Edge). d.from) s);
        },
      )
      go (n, l, (t, c, inr s)) =
          let k = block_at b.blocks n in
          let (j, g) = arrow_get (text D b) 0 b.blocks n k t (block_is n l) (subst (λ us. Contains us t) (same_terms n k (block_is n l)) c) in
          let end : IsEnd n w.edge.from = subst (IsEnd n) (sym (ap (λ (d : Edge). d.from) s)) (end_is n t) in
          inr (
            j,
            arrow (text D b) n k t,
            g ∙ ap (λ m. Some (arrow (text D b) m k t)) (let z : 0 + n ≡ n = omega arith in z),
            record {
              low = l;
              low_to = closed n t l c;
              from = subst (IsEnd n) (sym w.from) end;
              to = w.to ∙ ap (λ (d : Edge). d.to) s;
              flows = λ x. sent_is (text D b) k t x ∙ sym (flows (half n x) ∙ along_end w.edge n t (half n x) end (ap (λ (d : Edge). d.to) s));
            },
          )

  -- the arrow of an edge
  flown_at : (d : Edge) → Contains es d → (i : ℕ) × (e : Arrow Reached) × (slice_get (arrows_at (flown (text D b) b.blocks es) 0 es) i ≡ Some e) × (e.from ≡ d.from) × (e.to ≡ d.to) × ((x : Reached) → e.flow x ≡ along (text D b) b.blocks (Some d) x)
  flown_at d c =
      let (i, at) = at_contains es d c in
      let r : Arrow Reached = record { from = d.from; to = d.to; flow = flown (text D b) b.blocks es (0 + i) } in
      (i, r, arrow_to (flown (text D b) b.blocks es) 0 es i d at, refl, refl, λ x. ap (λ o. along (text D b) b.blocks o x) (ap (slice_get es) (let z : 0 + i ≡ i = omega arith in z) ∙ at))

  way : (j : ℕ) (a : Arrow Reached) → slice_get (arrows_from (text D b) 0 b.blocks) j ≡ Some a → a.from < length b.blocks → a.to < length b.blocks → IsWay (length b.blocks) half (arrows_at (flown (text D b) b.blocks es) 0 es) a
  way j a is low low_to =
      let r = arrow_of (text D b) 0 b.blocks j a is in
      let n = r.at in
      let t = r.to in
      let same : arrow (text D b) n r.block t ≡ a = ap (λ m. arrow (text D b) m r.block t) (let z : n ≡ 0 + n = omega arith in z) ∙ r.same in
      let inside = slice_get_within b.blocks n r.block r.there in
      let here : block_at b.blocks n ≡ r.block = get_or_from_slice_get b.blocks n r.block no_block r.there in
      let leads : Contains (exits terms n) t = subst (λ us. Contains us t) (sym (same_terms n r.block r.there)) r.target in
      let (i, e, ie, from, to, flows) = flown_at (over n t) (has.overs n t inside leads) in
      let (k, f, kf, from2, to2, flows2) = flown_at (out n t) (has.outs n t inside leads) in
      subst (λ a. IsWay (length b.blocks) half (arrows_at (flown (text D b) b.blocks es) 0 es) a) same (record {
        first = i;
        over = e;
        over_there = ie;
        is_over = record { low = inside; from = from; to = subst (IsEnd n) (sym to) (end_is n t); flows = λ x. flows x ∙ along_start (over n t) n x refl };
        second = k;
        behind = f;
        behind_there = kf;
        is_behind = record {
          low = inside;
          low_to = subst (λ (a : Arrow Reached). a.to < length b.blocks) (sym same) low_to;
          from = subst (IsEnd n) (sym from2) (end_is n t);
          to = to2;
          flows = λ x. sent_is (text D b) r.block t x ∙ ap (λ (k : TypedBlock). sent_out k.term t (gone_over (text D b) k x)) (sym here) ∙ sym (flows2 (half n x) ∙ along_end (out n t) n t (half n x) (end_is n t) refl);
        };
        meets = to ∙ sym from2;
      })

  halves : IsHalves (OkReached (tracked D b)) BelowReached (length b.blocks) half (const_flow D b) (problem join_reached (begun b (tracked D b)) (flown (text D b) b.blocks es) (3 * length b.blocks) es)
  unfolding const_flow problem
  halves = record {
    short = begins_length D b b.blocks;
    long = length-starts (begun b (tracked D b)) 0 (3 * length b.blocks);
    begin = λ i l. start_get (begun b (tracked D b)) 0 (3 * length b.blocks) (start_node i) (omega arith) ∙ ap (λ n. Some (begun b (tracked D b) n)) (let z : 0 + start_node i ≡ start_node i = omega arith in z) ∙ sym (begins_get b.blocks i l);
    bottom = bottom;
    same = λ x k. same_reached (tracked D b) x;
    then_below = then_reached (tracked D b);
    half_ok = λ i x k. over_ok (tracked D b) (text D b) (block_at b.blocks i) x k;
    rises = λ i e x y is k m le. (let w = arrow_is (flown (text D b) b.blocks es) es i e is in subst (λ (f : Reached → Reached). BelowReached (f x) (f y)) (sym w.flows) (along_below (text D b) b.blocks (slice_get es i) x y le));
    only = only;
    way = way;
  }

  starts_map : {A B : Type 0} (f : A → B) (xs : List A) → map f (at_starts xs) ≡ at_starts (map f xs)
  starts_map f [] = refl
  starts_map f (x ∷ []) = refl
  starts_map f (x ∷ y ∷ []) = refl
  starts_map f (x ∷ y ∷ z ∷ xs) = ap (λ ys. f y ∷ ys) (starts_map f xs)

  -- what is found by cells
  pub starts_known : (ys : List (Option (List Cell))) → Least (IsRow (tracked D b)) (BelowAs (IsRow (tracked D b)) BelowReached (reached_of (tracked D b))) (problem (joined_as (reached_of (tracked D b)) row_of join_reached) (started_as row_of (begun b (tracked D b))) (sent_as (reached_of (tracked D b)) row_of (flown (text D b) b.blocks es)) (3 * length b.blocks) es) ys → map (reached_of (tracked D b)) (at_starts ys) ≡ const_at D b
  starts_known ys l =
      let carried = carried_least (IsRow (tracked D b)) (OkReached (tracked D b)) (reached_of (tracked D b)) row_of (rows_name (tracked D b)) BelowReached rank (height (tracked D b)) (begun b (tracked D b)) join_reached (flown (text D b) b.blocks es) (reached_lawful (text D b) b (tracked D b) es) (3 * length b.blocks) es ys l in
      let least = halves_least (OkReached (tracked D b)) BelowReached (length b.blocks) half (const_flow D b) (problem join_reached (begun b (tracked D b)) (flown (text D b) b.blocks es) (3 * length b.blocks) es) halves (map (reached_of (tracked D b)) ys) carried in
      starts_map (reached_of (tracked D b)) ys
      ∙ least_one (OkReached (tracked D b)) BelowReached rank (height (tracked D b)) (const_flow D b) (const_laws D b) (at_starts (map (reached_of (tracked D b)) ys)) (const_at D b) least (const_least D b)
