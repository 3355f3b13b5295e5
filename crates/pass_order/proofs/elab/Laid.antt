-- The elaborated body calls only what the body calls or may run by a drop.
use Rattle.std.proofs.Common.{◌≡◌, refl, sym, ap, ◌∙◌, subst, ℕ, zero, suc, ◌+◌, Bool, true, false, List, [], ◌∷◌, ◌++◌, length, Some, slice_get, arith}
use Rattle.std.specs.List.{flat_map}
use Rattle.bit_rows.specs.Rows.{stands}
use Rattle.mir_syntax.specs.declared.body.Place.{Place}
use Rattle.mir_syntax.specs.declared.body.Term.{Term}
use Rattle.mir_syntax.specs.declared.body.Term.TheVariants.{Goto, Switch, Return, Unreachable, Drop, Call, Assert}
use Rattle.mir_syntax.specs.Crate.{TypedStmt, TypedBlock, TypedBody}
use Rattle.mir_syntax.specs.Shapes.{Shape}
use Rattle.move_paths.specs.Effects.{units_of_body, moved, begun}
use Rattle.call_graph.specs.Callees.{own_function, called, called_in, all_called, callees}
use Rattle.call_graph.proofs.Once.{stands_first, stands_left, stands_right}
use Rattle.drop_elab.specs.Plan.{Plan, done, destroy, choose, arm, guarded, clear, Laid, lay, arms_from}
use Rattle.drop_elab.specs.Elab.{Inits, Status, Flagged, settings, only_if, plan_drop, call_end, lay_end, LaidBlocks, lay_blocks, statuses_at, want_flags, with_flags, flag_locals, elab_by, IsElab}
use Rattle.pass_order.proofs.compose.Calls.{CallsFn, after_has}
use Rattle.pass_order.proofs.elab.Destroyed.{destroyed, FlaggedFields, fields_of_body, fields_flagged, drop_runs}

-- the functions that a terminator calls
abbrev term_calls : Term → List ℕ
term_calls (Call p g os next) = own_function g
term_calls _ = []

module _ (L : List ℕ) where
  -- all that a terminator calls is listed
  abbrev Fair : Term → Type 0
  Fair t = (x : ℕ) → stands x (term_calls t) ≡ true → stands x L ≡ true

  abbrev AllFair : List TypedBlock → Type 0
  AllFair [] = Unit {0}
  AllFair (k ∷ ks) = Fair k.term × AllFair ks

  silent : (t : Term) → term_calls t ≡ [] → Fair t
  silent t e x h = absurd (let k : stands x [] ≡ true = subst (λ xs. stands x xs ≡ true) e h in cc)

  fair_both : (xs ys : List TypedBlock) → AllFair xs → AllFair ys → AllFair (xs ++ ys)
  fair_both [] ys h k = k
  fair_both (x ∷ xs) ys h k = (h.0, fair_both xs ys h.1 k)

  fair_at : (ks : List TypedBlock) (i : ℕ) (k : TypedBlock) → AllFair ks → slice_get ks i ≡ Some k → Fair k.term
  fair_at [] i k h e = absurd (grind arith)
  fair_at (x ∷ xs) zero k h e = subst (λ (k : TypedBlock). Fair k.term) (let z : x ≡ k = grind arith in z) h.0
  fair_at (x ∷ xs) (suc i) k h e = fair_at xs i k h.1 e

  -- ---- what a plan is laid out as

  abbrev FairLaid : Laid → Type 0
  FairLaid r = Fair r.term × (AllFair r.heads × AllFair r.blocks)

  abbrev Within : Plan → Type 0
  Within p = (x : ℕ) → stands x (destroyed p) ≡ true → stands x L ≡ true

  laid_fair : (p : Plan) (l b s : ℕ) → Within p → FairLaid (lay p l b s)
  laid_fair done l b s w = (silent (Goto s) refl, (tt, tt))
  laid_fair (clear x p) l b s w = let h = laid_fair p l b s w in (h.0, (tt, h.1.1))
  laid_fair (destroy q t g p) l b s w =
      let h = laid_fair p (suc (suc l)) (suc b) s (λ x k. w x (stands_right x (g ∷ []) (destroyed p) k)) in
      ((λ x k. w x (stands_left x (g ∷ []) (destroyed p) k)), (tt, (h.0, h.1.1)))
  laid_fair (guarded y q p) l b s w =
      let g = lay q l (suc (suc b)) (suc b) in
      let h = laid_fair q l (suc (suc b)) (suc b) (λ x k. w x (stands_left x (destroyed q) (destroyed p) k)) in
      let k = laid_fair p (l + length g.locals) (suc (suc b) + length g.blocks) s (λ x k. w x (stands_right x (destroyed q) (destroyed p) k)) in
      ((λ x k. absurd (cc)), (tt, (h.0, (k.0, fair_both g.blocks (lay p (l + length g.locals) (suc (suc b) + length g.blocks) s).blocks h.1.1 k.1.1))))
  laid_fair (choose q arms p) l b s w =
      let join = b + length (arms_from b arms) in
      let a = lay arms (suc l) (suc join) join in
      let r = lay p (suc l + length a.locals) (suc join + length a.blocks) s in
      let h = laid_fair arms (suc l) (suc join) join (λ x k. w x (stands_left x (destroyed arms) (destroyed p) k)) in
      let k = laid_fair p (suc l + length a.locals) (suc join + length a.blocks) s (λ x k. w x (stands_right x (destroyed arms) (destroyed p) k)) in
      ((λ x k. absurd (cc)), (tt, fair_both a.heads (record { stmts = r.stmts; term = r.term } ∷ (a.blocks ++ r.blocks)) h.1.0 (k.0, fair_both a.blocks r.blocks h.1.1 k.1.1)))
  laid_fair (arm v q rest) l b s w =
      let g = lay q l b s in
      let r = lay rest (l + length g.locals) (b + length g.blocks) s in
      let h = laid_fair q l b s (λ x k. w x (stands_left x (destroyed q) (destroyed rest) k)) in
      let k = laid_fair rest (l + length g.locals) (b + length g.blocks) s (λ x k. w x (stands_right x (destroyed q) (destroyed rest) k)) in
      (silent (Goto s) refl, ((h.0, k.1.0), fair_both g.blocks r.blocks h.1.1 k.1.1))

  call_fair : (clears sets : List TypedStmt) (same moved_on : Term) (next : ℕ) → Fair same → Fair moved_on → FairLaid (call_end clears same moved_on next sets)
  call_fair clears [] same moved_on next h k = (h, (tt, tt))
  call_fair clears (s ∷ sets) same moved_on next h k = (k, (tt, (silent (Goto next) refl, tt)))

  -- ---- the blocks of a body

  module _ (D : List Shape) (body : TypedBody) (us : List Place) (fs : List Flagged) (fields : FlaggedFields D fs) (inits : Inits) where
    end_fair : (ss : List Status) (t : Term) (l b : ℕ) → ((x : ℕ) → stands x (called D body.locals t) ≡ true → stands x L ≡ true) → FairLaid (lay_end D body.locals fs ss t l b)
    end_fair ss (Drop p next) l b w = laid_fair (plan_drop D body.locals p fs ss) l b next (λ x k. w x (drop_runs x D body.locals p fs ss fields k))
    end_fair ss (Call p g os next) l b w = call_fair (settings (λ u. only_if (moved u (Call p g os next)) false) fs) (settings (λ u. only_if (begun u (Call p g os next)) true) fs) (Call p g os next) (Call p g os b) next w w
    end_fair ss (Goto next) l b w = (silent (Goto next) refl, (tt, tt))
    end_fair ss (Switch o arms other) l b w = (silent (Switch o arms other) refl, (tt, tt))
    end_fair ss Return l b w = (silent Return refl, (tt, tt))
    end_fair ss Unreachable l b w = (silent Unreachable refl, (tt, tt))
    end_fair ss (Assert o e y os next) l b w = (silent (Assert o e y os next) refl, (tt, tt))

    blocks_fair : (i : ℕ) (ks : List TypedBlock) (l b : ℕ) → ((x : ℕ) → stands x (flat_map (called_in D body.locals) ks) ≡ true → stands x L ≡ true) → AllFair (lay_blocks D body us fs inits i ks l b).blocks × AllFair (lay_blocks D body us fs inits i ks l b).new_blocks
    blocks_fair i [] l b w = (tt, tt)
    blocks_fair i (k ∷ ks) l b w =
        let e = lay_end D body.locals fs (statuses_at us inits i k) k.term l b in
        let r = lay_blocks D body us fs inits (suc i) ks (l + length e.locals) (b + length e.blocks) in
        let h = end_fair (statuses_at us inits i k) k.term l b (λ x s. w x (stands_left x (called_in D body.locals k) (flat_map (called_in D body.locals) ks) s)) in
        let rest = blocks_fair (suc i) ks (l + length e.locals) (b + length e.blocks) (λ x s. w x (stands_right x (called_in D body.locals k) (flat_map (called_in D body.locals) ks) s)) in
        ((h.0, rest.0), fair_both e.blocks r.new_blocks h.1.1 rest.1)

module _ (D : List Shape) (body : TypedBody) (inits : Inits) where
  wanted : List Bool
  wanted = want_flags (units_of_body D body) inits 0 body.blocks

  laid : LaidBlocks
  laid = lay_blocks D body (units_of_body D body) (with_flags (length body.locals) (units_of_body D body) wanted) inits 0 body.blocks (length body.locals + length (flag_locals wanted)) (length body.blocks)

  by_rows : AllFair (all_called D body) (elab_by D body inits).blocks
  unfolding elab_by wanted laid
  by_rows =
      let h = blocks_fair (all_called D body) D body (units_of_body D body) (with_flags (length body.locals) (units_of_body D body) wanted) (fields_flagged D (length body.locals) (units_of_body D body) wanted (fields_of_body D body)) inits 0 body.blocks (length body.locals + length (flag_locals wanted)) (length body.blocks) (λ x k. k) in
      fair_both (all_called D body) laid.blocks laid.new_blocks h.0 h.1

pub elab_calls : (D : List Shape) (b e : TypedBody) → IsElab D b e → (x : ℕ) → CallsFn e x → stands x (callees D b) ≡ true
unfolding callees
elab_calls D b e h x (i, k, p, os, next, at, ends) =
    let fair = fair_at (all_called D b) (elab_by D b h.inits).blocks i k (by_rows D b h.inits) (ap (λ (y : TypedBody). slice_get y.blocks i) (sym h.is) ∙ at) in
    after_has [] (all_called D b) x (fair x (ap (λ t. stands x (term_calls t)) ends ∙ stands_first x [])) refl
