-- How many blocks and locals the glue of a place takes: a few for each node that needs drop.
use Rattle.std.proofs.Common.{◌≡◌, refl, ap, ℕ, zero, suc, ◌+◌, ◌*◌, ◌≤◌, Bool, true, false, if◌then◌else◌, List, [], ◌∷◌, ◌++◌, length, sum_by, Option, Some, None, slice_get, arith}
use Rattle.std.proofs.lemmas.List.{length-append}
use Rattle.std.proofs.lemmas.List.Sums.{sum_by-cons}
use Rattle.mir_syntax.specs.declared.body.Place.{Place}
use Rattle.mir_syntax.specs.declared.body.Proj.TheVariants.{Field, Downcast}
use Rattle.mir_syntax.specs.Tree.{Tree, scalar, empty, more, named}
use Rattle.mir_syntax.specs.Tree as tree
use Rattle.mir_syntax.specs.Shapes.{Shape, struct_fields, needs_drop}
use Rattle.mir_rules.specs.Weights.{counted, inside_by, variant_weight, inside_variants, inside_def, inside_of}
use Rattle.mir_rules.proofs.Lists.{or_false-left, or_false-right}
use Rattle.drop_elab.specs.Plan.{Plan, done, destroy, choose, arm, guarded, clear, part, glue_from, arms_of, chosen, glue_inside, glue_shape, glue_of, glue_def, glue, Laid, code, arms_from, lay}
use Rattle.drop_elab.proofs.refines.Items.{IsTuple, Proper, ProperShapes, first_proper}

-- what each piece of a plan costs
pub record Costs : Type 0 where
  pub of_destroy : ℕ
  pub of_choose : ℕ
  pub of_arm : ℕ
  pub of_guard : ℕ

abbrev pub cost : Costs → Plan → ℕ
cost c done = 0
cost c (destroy q t g p) = c.of_destroy + cost c p
cost c (choose q arms p) = c.of_choose + (cost c arms + cost c p)
cost c (arm k q rest) = c.of_arm + (cost c q + cost c rest)
cost c (guarded x q p) = c.of_guard + (cost c q + cost c p)
cost c (clear x p) = cost c p

abbrev pub in_blocks : Costs
in_blocks = record { of_destroy = 1; of_choose = 1; of_arm = 1; of_guard = 2 }

abbrev pub in_locals : Costs
in_locals = record { of_destroy = 2; of_choose = 1; of_arm = 0; of_guard = 0 }

-- ---- code

pub few_blocks : (p : Plan) (l b s : ℕ) → length (lay p l b s).blocks + length (lay p l b s).heads ≤ cost in_blocks p
few_blocks done l b s = omega arith
few_blocks (clear x p) l b s = (let h = few_blocks p l b s in omega (arith, h))
few_blocks (destroy q t g p) l b s = (let h = few_blocks p (suc (suc l)) (suc b) s in omega (arith, h))
few_blocks (guarded x q p) l b s =
    let g : Laid = lay q l (suc (suc b)) (suc b) in
    let r : Laid = lay p (l + length g.locals) (suc (suc b) + length g.blocks) s in
    let h = few_blocks q l (suc (suc b)) (suc b) in
    let k = few_blocks p (l + length g.locals) (suc (suc b) + length g.blocks) s in
    let n = length-append g.blocks r.blocks in
    omega (arith, h, k, n)
few_blocks (choose q arms p) l b s =
    let join = b + length (arms_from b arms) in
    let a : Laid = lay arms (suc l) (suc join) join in
    let r : Laid = lay p (suc l + length a.locals) (suc join + length a.blocks) s in
    let h = few_blocks arms (suc l) (suc join) join in
    let k = few_blocks p (suc l + length a.locals) (suc join + length a.blocks) s in
    let n = length-append a.blocks r.blocks in
    let m = length-append a.heads (code r ∷ (a.blocks ++ r.blocks)) in
    omega (arith, h, k, n, m)
few_blocks (arm v q rest) l b s =
    let g : Laid = lay q l b s in
    let r : Laid = lay rest (l + length g.locals) (b + length g.blocks) s in
    let h = few_blocks q l b s in
    let k = few_blocks rest (l + length g.locals) (b + length g.blocks) s in
    let n = length-append g.blocks r.blocks in
    omega (arith, h, k, n)

pub few_locals : (p : Plan) (l b s : ℕ) → length (lay p l b s).locals ≤ cost in_locals p
few_locals done l b s = omega arith
few_locals (clear x p) l b s = few_locals p l b s
few_locals (destroy q t g p) l b s = (let h = few_locals p (suc (suc l)) (suc b) s in omega (arith, h))
few_locals (guarded x q p) l b s =
    let g : Laid = lay q l (suc (suc b)) (suc b) in
    let r : Laid = lay p (l + length g.locals) (suc (suc b) + length g.blocks) s in
    let h = few_locals q l (suc (suc b)) (suc b) in
    let k = few_locals p (l + length g.locals) (suc (suc b) + length g.blocks) s in
    let n = length-append g.locals r.locals in
    omega (arith, h, k, n)
few_locals (choose q arms p) l b s =
    let join = b + length (arms_from b arms) in
    let a : Laid = lay arms (suc l) (suc join) join in
    let r : Laid = lay p (suc l + length a.locals) (suc join + length a.blocks) s in
    let h = few_locals arms (suc l) (suc join) join in
    let k = few_locals p (suc l + length a.locals) (suc join + length a.blocks) s in
    let n = length-append a.locals r.locals in
    omega (arith, h, k, n)
few_locals (arm v q rest) l b s =
    let g : Laid = lay q l b s in
    let r : Laid = lay rest (l + length g.locals) (b + length g.blocks) s in
    let h = few_locals q l b s in
    let k = few_locals rest (l + length g.locals) (b + length g.blocks) s in
    let n = length-append g.locals r.locals in
    omega (arith, h, k, n)

-- ---- glue

-- where there is need for it, so much and four times what is inside
abbrev pub bound : ℕ → Bool → ℕ → ℕ
bound k true inside = k + 4 * inside
bound k false inside = 0

pub bound_less : (k : ℕ) → k ≤ 4 → (b : Bool) (n : ℕ) → bound k b n ≤ 4 * counted b n
bound_less k l true n = omega (arith, l)
bound_less k l false n = omega arith

module _ (D : List Shape) (proper : ProperShapes D) (c : Costs) (m : ℕ) (small : c.of_destroy + c.of_choose ≤ m) (few : m ≤ 4) (low : c.of_arm ≤ 4) where
  module _ (of_def : ℕ → Place → Plan → Plan) (w : ℕ → ℕ) (ok : (d : ℕ) (q : Place) (rest : Plan) → cost c (of_def d q rest) ≤ bound m (needs_drop D (named d)) (w d) + cost c rest) where
    -- of the rest of a tuple, and of a type
    Row : Tree → Type 0
    Row t = IsTuple t → (q : Place) (i : ℕ) (rest : Plan) → cost c (glue_from of_def q i t rest) ≤ 4 * inside_by D w t + cost c rest

    Whole : Tree → Type 0
    Whole t = (q : Place) (i : ℕ) (rest : Plan) → cost c (glue_from of_def q i t rest) ≤ bound m (needs_drop D t) (inside_by D w t) + cost c rest

    claim : (t : Tree) → Proper t → Row t × Whole t
    unfolding Row Whole needs_drop
    claim (more t ts) pr =
        let (a, b) = claim t pr.0 in
        let (r, s) = claim ts pr.2 in
        let row : (q : Place) (i : ℕ) (rest : Plan) → cost c (glue_from of_def q i (more t ts) rest) ≤ 4 * inside_by D w (more t ts) + cost c rest =
        λ q i rest. (
        let x = b (part q (Field i)) 0 (glue_from of_def q (suc i) ts rest) in
        let y = r pr.1 q (suc i) rest in
        let z = bound_less m few (needs_drop D t) (inside_by D w t) in
        omega (arith, x, y, z))
        in
        (λ tu q i rest. row q i rest, λ q i rest. go q i rest (needs_drop D (more t ts)) refl (row q i rest) (λ n. (let x = b (part q (Field i)) 0 (glue_from of_def q (suc i) ts rest) in let y = s q (suc i) rest in let u = ap (λ c. bound m c (inside_by D w t)) (or_false-left (needs_drop D t) (needs_drop D ts) n) in let v = ap (λ c. bound m c (inside_by D w ts)) (or_false-right (needs_drop D t) (needs_drop D ts) n) in omega (arith, x, y, u, v))))
      where
        go : (q : Place) (i : ℕ) (rest : Plan) (b : Bool) → needs_drop D (more t ts) ≡ b → cost c (glue_from of_def q i (more t ts) rest) ≤ 4 * inside_by D w (more t ts) + cost c rest → (needs_drop D (more t ts) ≡ false → cost c (glue_from of_def q i (more t ts) rest) ≤ cost c rest) → cost c (glue_from of_def q i (more t ts) rest) ≤ bound m b (inside_by D w (more t ts)) + cost c rest
        go q i rest true e row none = omega (arith, row)
        go q i rest false e row none = (let h = none e in omega (arith, h))
    claim (named d) pr = (λ tu q i rest. absurd tu, λ q i rest. ok d q rest)
    claim (scalar s) pr = (λ tu q i rest. absurd tu, λ q i rest. omega arith)
    claim empty pr = (λ tu q i rest. omega arith, λ q i rest. omega arith)
    claim (tree.ref t) pr = (λ tu q i rest. absurd tu, λ q i rest. omega arith)
    claim (tree.ref_mut t) pr = (λ tu q i rest. absurd tu, λ q i rest. omega arith)

    row_cost : (t : Tree) → Proper t → IsTuple t → (q : Place) (i : ℕ) (rest : Plan) → cost c (glue_from of_def q i t rest) ≤ 4 * inside_by D w t + cost c rest
    unfolding Row
    row_cost t pr tu = (claim t pr).0 tu

    whole_cost : (t : Tree) → Proper t → (q : Place) (i : ℕ) (rest : Plan) → cost c (glue_from of_def q i t rest) ≤ bound m (needs_drop D t) (inside_by D w t) + cost c rest
    unfolding Whole
    whole_cost t pr = (claim t pr).1

    arms_cost : (q : Place) (k : ℕ) (ts : List Tree) → ((j : ℕ) (us : Tree) → slice_get ts j ≡ Some us → IsTuple us × Proper us) → cost c (arms_of D of_def q k ts) ≤ 4 * sum_by (variant_weight D w) ts
    arms_cost q k [] h = omega arith
    arms_cost q k (t ∷ ts) h = go (needs_drop D t) refl (arms_cost q (suc k) ts (λ j us e. h (suc j) us e)) (sum_by-cons (variant_weight D w) t ts)
      where
        first : cost c (glue_from of_def (part q (Downcast k)) 0 t done) ≤ 4 * inside_by D w t
        first = (let (tu, pr) = h 0 t refl in let x = row_cost t pr tu (part q (Downcast k)) 0 done in omega (arith, x))

        go : (b : Bool) → needs_drop D t ≡ b → cost c (arms_of D of_def q (suc k) ts) ≤ 4 * sum_by (variant_weight D w) ts → sum_by (variant_weight D w) (t ∷ ts) ≡ variant_weight D w t + sum_by (variant_weight D w) ts → cost c (if b then arm k (glue_from of_def (part q (Downcast k)) 0 t done) (arms_of D of_def q (suc k) ts) else arms_of D of_def q (suc k) ts) ≤ 4 * sum_by (variant_weight D w) (t ∷ ts)
        go true e ih sum = (let f = first in let v : variant_weight D w t ≡ suc (inside_by D w t) = ap (λ b. counted b (inside_by D w t)) e in omega (arith, ih, sum, f, v, low))
        go false e ih sum = omega (arith, ih, sum)

    chosen_cost : (q : Place) (arms rest : Plan) → cost c (chosen q arms rest) ≤ c.of_choose + (cost c arms + cost c rest)
    chosen_cost q done rest = omega arith
    chosen_cost q (arm k p as') rest = omega arith
    chosen_cost q (destroy p u g as') rest = omega arith
    chosen_cost q (choose p as' qs) rest = omega arith
    chosen_cost q (guarded x p as') rest = omega arith
    chosen_cost q (clear x as') rest = omega arith

    inside_cost : (s : Shape) → ((k : ℕ) (t : Tree) → slice_get s.variants k ≡ Some t → IsTuple t × Proper t) → (q : Place) (rest : Plan) → cost c (glue_inside D of_def s q rest) ≤ c.of_choose + (4 * inside_variants D w s.is_enum s.variants + cost c rest)
    inside_cost s h q rest = go s.is_enum
      where
        go : (b : Bool) → cost c (if b then chosen q (arms_of D of_def q 0 s.variants) rest else glue_from of_def q 0 (struct_fields s) rest) ≤ c.of_choose + (4 * inside_variants D w b s.variants + cost c rest)
        go true = (let x = chosen_cost q (arms_of D of_def q 0 s.variants) rest in let y = arms_cost q 0 s.variants h in omega (arith, x, y))
        go false = (let (tu, pr) = first_proper s.variants h in let x = row_cost (struct_fields s) pr tu q 0 rest in omega (arith, x))

  def_cost : (n d : ℕ) (q : Place) (rest : Plan) → cost c (glue_def D n d q rest) ≤ bound m (needs_drop D (named d)) (inside_def D n d) + cost c rest
  def_cost zero d q rest = omega arith
  def_cost (suc n) d q rest = go (needs_drop D (named d)) (slice_get D d) refl (def_cost n)
    where
      Ih : Type 0
      Ih = (d : ℕ) (q : Place) (rest : Plan) → cost c (glue_def D n d q rest) ≤ bound m (needs_drop D (named d)) (inside_def D n d) + cost c rest

      shape : (s : Shape) (o : Option ℕ) → slice_get D d ≡ Some s → ((d : ℕ) (q : Place) (rest : Plan) → cost c (glue_def D n d q rest) ≤ bound m (needs_drop D (named d)) (inside_def D n d) + cost c rest) → cost c (glue_shape D (glue_def D n) d s o q rest) ≤ m + 4 * inside_variants D (inside_def D n) s.is_enum s.variants + cost c rest
      shape s None es ih = (let x = inside_cost (glue_def D n) (inside_def D n) ih s (proper d s es) q rest in omega (arith, x, small))
      shape s (Some g) es ih = (let x = inside_cost (glue_def D n) (inside_def D n) ih s (proper d s es) q rest in omega (arith, x, small))

      go : (b : Bool) (o : Option Shape) → slice_get D d ≡ o → ((d : ℕ) (q : Place) (rest : Plan) → cost c (glue_def D n d q rest) ≤ bound m (needs_drop D (named d)) (inside_def D n d) + cost c rest) → cost c (glue_of D (glue_def D n) d b o q rest) ≤ bound m b (inside_of D (inside_def D n) o) + cost c rest
      go true (Some s) es ih = shape s s.destructor es ih
      go true None es ih = omega arith
      go false o es ih = omega arith

  pub glue_cost : (q : Place) (t : Tree) (rest : Plan) → Proper t → cost c (glue D q t rest) ≤ bound m (needs_drop D t) (inside_by D (inside_def D (length D)) t) + cost c rest
  unfolding glue
  glue_cost q t rest pr = whole_cost (glue_def D (length D)) (inside_def D (length D)) (def_cost (length D)) t pr q 0 rest
