-- The elaborated body holds no `drop`.
use Rattle.std.proofs.Common.{◌≡◌, refl, sym, ap, ◌∙◌, subst, ℕ, zero, suc, ◌+◌, Bool, true, false, List, [], ◌∷◌, ◌++◌, length, Some, slice_get, arith}
use Rattle.mir_syntax.specs.declared.body.Term.{Term}
use Rattle.mir_syntax.specs.declared.body.Term.TheVariants.{Goto, Switch, Return, Unreachable, Drop, Call, Assert}
use Rattle.mir_syntax.specs.Tree.{Tree}
use Rattle.mir_syntax.specs.Crate.{TypedStmt, TypedBlock, TypedBody}
use Rattle.mir_syntax.specs.Shapes.{Shape}
use Rattle.mir_rules.specs.Drops.{is_drop, NoDrops}
use Rattle.move_paths.specs.Effects.{units_of_body, moved, begun}
use Rattle.mir_syntax.specs.declared.body.Place.{Place}
use Rattle.drop_elab.specs.Plan.{Plan, done, destroy, choose, arm, guarded, clear, Laid, lay, arms_from}
use Rattle.drop_elab.specs.Elab.{Inits, Status, Flagged, settings, only_if, plan_drop, call_end, lay_end, LaidBlocks, lay_blocks, statuses_at, want_flags, with_flags, flag_locals, elab_by, IsElab}

-- no block ends in `drop`
abbrev Free : List TypedBlock → Type 0
Free [] = Unit {0}
Free (k ∷ ks) = (is_drop k.term ≡ false) × Free ks

free_both : (xs ys : List TypedBlock) → Free xs → Free ys → Free (xs ++ ys)
free_both [] ys h k = k
free_both (x ∷ xs) ys h k = (h.0, free_both xs ys h.1 k)

free_at : (ks : List TypedBlock) (i : ℕ) (k : TypedBlock) → Free ks → slice_get ks i ≡ Some k → is_drop k.term ≡ false
free_at [] i k h e = absurd (grind arith)
free_at (x ∷ xs) zero k h e = (let same : x ≡ k = grind arith in subst (λ (k : TypedBlock). is_drop k.term ≡ false) same h.0)
free_at (x ∷ xs) (suc i) k h e = free_at xs i k h.1 e

-- what is laid out holds none
abbrev FreeLaid : Laid → Type 0
FreeLaid r = (is_drop r.term ≡ false) × (Free r.heads × Free r.blocks)

laid_free : (p : Plan) (l b s : ℕ) → FreeLaid (lay p l b s)
laid_free done l b s = (refl, (tt, tt))
laid_free (clear x p) l b s =
    let h = laid_free p l b s in
    (h.0, (tt, h.1.1))
laid_free (destroy q t g p) l b s =
    let h = laid_free p (suc (suc l)) (suc b) s in
    (refl, (tt, (h.0, h.1.1)))
laid_free (guarded x q p) l b s =
    let g = lay q l (suc (suc b)) (suc b) in
    let h = laid_free q l (suc (suc b)) (suc b) in
    let k = laid_free p (l + length g.locals) (suc (suc b) + length g.blocks) s in
    (refl, (tt, (h.0, (k.0, free_both g.blocks (lay p (l + length g.locals) (suc (suc b) + length g.blocks) s).blocks h.1.1 k.1.1))))
laid_free (choose q arms p) l b s =
    let join = b + length (arms_from b arms) in
    let a = lay arms (suc l) (suc join) join in
    let r = lay p (suc l + length a.locals) (suc join + length a.blocks) s in
    let h = laid_free arms (suc l) (suc join) join in
    let k = laid_free p (suc l + length a.locals) (suc join + length a.blocks) s in
    (refl, (tt, free_both a.heads (record { stmts = r.stmts; term = r.term } ∷ (a.blocks ++ r.blocks)) h.1.0 (k.0, free_both a.blocks r.blocks h.1.1 k.1.1)))
laid_free (arm v q rest) l b s =
    let g = lay q l b s in
    let r = lay rest (l + length g.locals) (b + length g.blocks) s in
    let h = laid_free q l b s in
    let k = laid_free rest (l + length g.locals) (b + length g.blocks) s in
    (refl, ((h.0, k.1.0), free_both g.blocks r.blocks h.1.1 k.1.1))

call_free : (clears sets : List TypedStmt) (same moved_on : Term) (next : ℕ) → is_drop same ≡ false → is_drop moved_on ≡ false → FreeLaid (call_end clears same moved_on next sets)
call_free clears [] same moved_on next h k = (h, (tt, tt))
call_free clears (s ∷ sets) same moved_on next h k = (k, (tt, (refl, tt)))

end_free : (D : List Shape) (locals : List Tree) (fs : List Flagged) (ss : List Status) (t : Term) (l b : ℕ) → FreeLaid (lay_end D locals fs ss t l b)
end_free D locals fs ss (Drop p next) l b = laid_free (plan_drop D locals p fs ss) l b next
end_free D locals fs ss (Call p g os next) l b = call_free (settings (λ u. only_if (moved u (Call p g os next)) false) fs) (settings (λ u. only_if (begun u (Call p g os next)) true) fs) (Call p g os next) (Call p g os b) next refl refl
end_free D locals fs ss (Goto next) l b = (refl, (tt, tt))
end_free D locals fs ss (Switch o arms other) l b = (refl, (tt, tt))
end_free D locals fs ss Return l b = (refl, (tt, tt))
end_free D locals fs ss Unreachable l b = (refl, (tt, tt))
end_free D locals fs ss (Assert o e x os next) l b = (refl, (tt, tt))

module _ (D : List Shape) (body : TypedBody) (us : List Place) (fs : List Flagged) (inits : Inits) where
  blocks_free : (i : ℕ) (ks : List TypedBlock) (l b : ℕ) → Free (lay_blocks D body us fs inits i ks l b).blocks × Free (lay_blocks D body us fs inits i ks l b).new_blocks
  blocks_free i [] l b = (tt, tt)
  blocks_free i (k ∷ ks) l b =
      let e = lay_end D body.locals fs (statuses_at us inits i k) k.term l b in
      let r = lay_blocks D body us fs inits (suc i) ks (l + length e.locals) (b + length e.blocks) in
      let h = end_free D body.locals fs (statuses_at us inits i k) k.term l b in
      let rest = blocks_free (suc i) ks (l + length e.locals) (b + length e.blocks) in
      ((h.0, rest.0), free_both e.blocks r.new_blocks h.1.1 rest.1)

module _ (D : List Shape) (body : TypedBody) (inits : Inits) where
  us : List Place
  us = units_of_body D body

  wanted : List Bool
  wanted = want_flags us inits 0 body.blocks

  laid : LaidBlocks
  laid = lay_blocks D body us (with_flags (length body.locals) us wanted) inits 0 body.blocks (length body.locals + length (flag_locals wanted)) (length body.blocks)

  by_rows : Free (elab_by D body inits).blocks
  unfolding elab_by us wanted laid
  by_rows =
      let h = blocks_free D body us (with_flags (length body.locals) us wanted) inits 0 body.blocks (length body.locals + length (flag_locals wanted)) (length body.blocks) in
      free_both laid.blocks laid.new_blocks h.0 h.1

  same_args : (elab_by D body inits).args ≡ body.args
  unfolding elab_by
  same_args = refl

  pub more_locals : (others : List Tree) × ((elab_by D body inits).locals ≡ body.locals ++ others)
  unfolding elab_by us wanted laid
  more_locals = (flag_locals wanted ++ laid.new_locals, refl)

pub no_drop : (D : List Shape) (b e : TypedBody) → IsElab D b e → NoDrops e
no_drop D b e h = record { none = λ i k at. free_at (elab_by D b h.inits).blocks i k (by_rows D b h.inits) (ap (λ (x : TypedBody). slice_get x.blocks i) (sym h.is) ∙ at) }

pub args_stay : (D : List Shape) (b e : TypedBody) → IsElab D b e → e.args ≡ b.args
args_stay D b e h = ap (λ (x : TypedBody). x.args) h.is ∙ same_args D b h.inits

pub locals_stay : (D : List Shape) (b e : TypedBody) → IsElab D b e → (others : List Tree) × (e.locals ≡ b.locals ++ others)
locals_stay D b e h = (let more = more_locals D b h.inits in (more.0, ap (λ (x : TypedBody). x.locals) h.is ∙ more.1))
