-- Where the end of each block stands in the elaborated body.
use Rattle.std.proofs.Common.{◌≡◌, refl, ap, subst, ℕ, zero, suc, ◌+◌, ◌≤◌, List, [], ◌∷◌, ◌++◌, length, Some, slice_get, arith}
use Rattle.mir_syntax.specs.declared.body.Place.{Place}
use Rattle.mir_syntax.specs.Tree.{Tree}
use Rattle.mir_syntax.specs.Crate.{TypedBlock, TypedBody}
use Rattle.mir_syntax.specs.Shapes.{Shape}
use Rattle.move_paths.specs.Effects.{units_of_body}
use Rattle.drop_elab.specs.Elab.{Inits, statuses_at, want_flags, Flagged, with_flags, flag_locals, with_settings, first_settings, lay_end, LaidBlocks, lay_blocks, elab_by}
use Rattle.drop_elab.specs.Plan.{Laid}
use Rattle.drop_elab.proofs.refines.Places.{StandsIn, Stands, left_stands, right_stands}

module _ (D : List Shape) (body : TypedBody) (us : List Place) (fs : List Flagged) (inits : Inits) where
  abbrev pub end_of : ℕ → TypedBlock → ℕ → ℕ → Laid
  end_of i k l b = lay_end D body.locals fs (statuses_at us inits i k) k.term l b

  abbrev pub block_of : ℕ → TypedBlock → ℕ → ℕ → TypedBlock
  block_of i k l b = record { stmts = first_settings body.args i fs ++ (with_settings fs k.stmts ++ (end_of i k l b).stmts); term = (end_of i k l b).term }

  pub blocks_long : (i : ℕ) (ks : List TypedBlock) (l b : ℕ) → length (lay_blocks D body us fs inits i ks l b).blocks ≡ length ks
  blocks_long i [] l b = refl
  blocks_long i (k ∷ ks) l b = ap suc (blocks_long (suc i) ks _ _)

  -- a block, with its new locals and blocks from some numbers on
  pub laid_block : (all_locals : List Tree) (all_blocks : List TypedBlock) (i : ℕ) (ks : List TypedBlock) (l b j : ℕ) (k : TypedBlock) → slice_get ks j ≡ Some k → StandsIn all_locals l (lay_blocks D body us fs inits i ks l b).new_locals → StandsIn all_blocks b (lay_blocks D body us fs inits i ks l b).new_blocks → (l' b' : ℕ) × (l ≤ l') × (slice_get (lay_blocks D body us fs inits i ks l b).blocks j ≡ Some (block_of (i + j) k l' b')) × StandsIn all_locals l' (end_of (i + j) k l' b').locals × StandsIn all_blocks b' (end_of (i + j) k l' b').blocks
  laid_block all_locals all_blocks i [] l b j k e sl sb = absurd (grind arith)
  laid_block all_locals all_blocks i (h ∷ ks) l b zero k e sl sb =
      let r = lay_blocks D body us fs inits (suc i) ks (l + length (end_of i h l b).locals) (b + length (end_of i h l b).blocks) in
      let same : h ≡ k = grind arith in
      let z : i + 0 ≡ i = omega arith in (
        l,
        b,
        omega arith,
        rw z (ap (λ h. Some (block_of i h l b)) same),
        rw z (subst (λ h. StandsIn all_locals l (end_of i h l b).locals) same (left_stands all_locals l (end_of i h l b).locals r.new_locals sl)),
        rw z (subst (λ h. StandsIn all_blocks b (end_of i h l b).blocks) same (left_stands all_blocks b (end_of i h l b).blocks r.new_blocks sb)),
      )
  laid_block all_locals all_blocks i (h ∷ ks) l b (suc j) k e sl sb =
      let r = lay_blocks D body us fs inits (suc i) ks (l + length (end_of i h l b).locals) (b + length (end_of i h l b).blocks) in
      let z : i + suc j ≡ suc i + j = omega arith in
      let (l', b', le, at, sl', sb') = laid_block all_locals all_blocks (suc i) ks (l + length (end_of i h l b).locals) (b + length (end_of i h l b).blocks) j k e (right_stands all_locals l (end_of i h l b).locals r.new_locals sl) (right_stands all_blocks b (end_of i h l b).blocks r.new_blocks sb) in
      (l', b', omega (arith, le), rw z at, rw z sl', rw z sb')

pub stands_behind : {A : Type 0} (xs ys : List A) → StandsIn (xs ++ ys) (length xs) ys
stands_behind [] ys i x e = let z : 0 + i ≡ i = omega arith in rw z e
stands_behind (h ∷ xs) ys i x e = let z : suc (length xs) + i ≡ suc (length xs + i) = omega arith in rw z (stands_behind xs ys i x e)

pub front_stays : {A : Type 0} (xs ys : List A) (i : ℕ) (x : A) → slice_get xs i ≡ Some x → slice_get (xs ++ ys) i ≡ Some x
front_stays [] ys i x e = absurd (grind arith)
front_stays (h ∷ xs) ys zero x e = e
front_stays (h ∷ xs) ys (suc i) x e = front_stays xs ys i x e

-- the parts of the definition
abbrev pub flags_of : List Shape → TypedBody → Inits → List Flagged
flags_of D body inits = with_flags (length body.locals) (units_of_body D body) (want_flags (units_of_body D body) inits 0 body.blocks)

abbrev pub first_new : List Shape → TypedBody → Inits → ℕ
first_new D body inits = length body.locals + length (flag_locals (want_flags (units_of_body D body) inits 0 body.blocks))

-- each block of the body has its end's code in the elaborated body, with new locals behind the flags
pub elab_block : (D : List Shape) (body : TypedBody) (inits : Inits) (i : ℕ) (k : TypedBlock) → slice_get body.blocks i ≡ Some k → (l b : ℕ) × (first_new D body inits ≤ l) × (slice_get (elab_by D body inits).blocks i ≡ Some (block_of D body (units_of_body D body) (flags_of D body inits) inits i k l b)) × Stands (elab_by D body inits) l b (end_of D body (units_of_body D body) (flags_of D body inits) inits i k l b)
unfolding elab_by
elab_block D body inits i k e = place (laid_block D body us fs inits all_locals all_blocks 0 body.blocks low (length body.blocks) i k e new_locals new_blocks)
  where
    us : List Place
    us = units_of_body D body

    fs : List Flagged
    fs = flags_of D body inits

    low : ℕ
    low = first_new D body inits

    flags : List Tree
    flags = flag_locals (want_flags (units_of_body D body) inits 0 body.blocks)

    w : LaidBlocks
    w = lay_blocks D body (units_of_body D body) (flags_of D body inits) inits 0 body.blocks (first_new D body inits) (length body.blocks)

    all_locals : List Tree
    all_locals = (elab_by D body inits).locals

    all_blocks : List TypedBlock
    all_blocks = (elab_by D body inits).blocks

    new_locals : StandsIn all_locals low w.new_locals
    new_locals = right_stands all_locals (length body.locals) flags w.new_locals (stands_behind body.locals (flags ++ w.new_locals))

    new_blocks : StandsIn all_blocks (length body.blocks) w.new_blocks
    new_blocks = subst (λ n. StandsIn all_blocks n w.new_blocks) (blocks_long D body us fs inits 0 body.blocks low (length body.blocks)) (stands_behind w.blocks w.new_blocks)

    place : (l b : ℕ) × (low ≤ l) × (slice_get w.blocks i ≡ Some (block_of D body us fs inits (0 + i) k l b)) × StandsIn all_locals l (end_of D body us fs inits (0 + i) k l b).locals × StandsIn all_blocks b (end_of D body us fs inits (0 + i) k l b).blocks → (l b : ℕ) × (low ≤ l) × (slice_get all_blocks i ≡ Some (block_of D body us fs inits i k l b)) × Stands (elab_by D body inits) l b (end_of D body us fs inits i k l b)
    place (l, b, le, at, sl, sb) =
        let z : 0 + i ≡ i = omega arith in
        (l, b, le, front_stays w.blocks w.new_blocks i _ (subst (λ n. slice_get w.blocks i ≡ Some (block_of D body us fs inits n k l b)) z at), record { locals = subst (λ n. StandsIn all_locals l (end_of D body us fs inits n k l b).locals) z sl; blocks = subst (λ n. StandsIn all_blocks b (end_of D body us fs inits n k l b).blocks) z sb })
