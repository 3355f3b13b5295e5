-- The frames of the changed function at work on both sides: what any pass knows of them.
use Rattle.std.proofs.Common.{◌≡◌, refl, sym, ap, ◌∙◌, subst, ℕ, List, [], Some, slice_get}
use Rattle.mir_syntax.specs.Tree.{Tree}
use Rattle.mir_syntax.specs.Shapes.{Shape}
use Rattle.mir_syntax.specs.Crate.{TypedBlock, TypedBody}
use Rattle.mir_semantics.specs.Values.{Value}
use Rattle.mir_semantics.specs.Step.{Here, State, Next, local_addr, read_at, perform, step}
use Rattle.mir_renaming.specs.Renaming.{Renaming, Sub, MemRel}
use Rattle.mir_renaming.proofs.Statements as text
use Rattle.mir_renaming.proofs.Types.{HasTy, resolve_ty, value_at_ty, blank_fits}
use Rattle.mir_renaming.proofs.Agree.{whole_tight}
use Rattle.mir_renaming.proofs.Items.{step_parts}
use Rattle.mir_relate.specs.Alike.{Same}
use Rattle.mir_relate.specs.Frames.{Change, target, Pass}
use Rattle.mir_relate.specs.Pass.{Valids, Related}
use Rattle.mir_relate.proofs.Leaves.{some_val}
use Rattle.mir_relate.proofs.Others.{read_at_whole}
use Rattle.mir_relate.proofs.Single.{step_is}

module _ {X : Change} {P : Pass} {V : Valids X} {Inv : State → Type 0} {n : ℕ} {s2 s1 : State} (r : Related X P V Inv n s2 s1) (function1 : s1.top.function ≡ X.f) (function2 : s2.top.function ≡ X.f) where
  abbrev D : List Shape
  D = X.source.shapes

  abbrev j : Renaming
  j = r.core.lent

  abbrev H1 : Here
  H1 = record { shapes = X.source.shapes; locals = X.body1.locals; frame = s1.top.frame }

  abbrev H2 : Here
  H2 = record { shapes = X.source.shapes; locals = X.body2.locals; frame = s2.top.frame }

  pub body1_at : slice_get X.source.bodies s1.top.function ≡ Some X.body1
  body1_at = ap (slice_get X.source.bodies) function1 ∙ X.at1

  pub body2_at : slice_get X.bodies s2.top.function ≡ Some X.body2
  body2_at = ap (slice_get X.bodies) function2 ∙ X.at2

  -- the source's locals have the types that the run gave them
  pub locals_ok : (x : ℕ) (t : Tree) → slice_get X.body1.locals x ≡ Some t → r.typed1.types s1.top.frame x ≡ Some t
  locals_ok = r.typed1.top.locals X.body1 body1_at

  -- a step of the source is that of a statement or a terminator of a block of the body
  pub stepped : (x : Next) → step X.source s1 ≡ Some x → (k : TypedBlock) × (slice_get X.body1.blocks s1.top.block ≡ Some k) × (perform X.source H1 s1 k.term (slice_get k.stmts s1.top.at) ≡ Some x)
  stepped x e =
      let (bo, k, ebo, ek, q) = step_parts X.source s1 x e in
      let same : bo ≡ X.body1 = some_val (sym ebo ∙ body1_at) in
      (k, ap (λ (b : TypedBody). slice_get b.blocks s1.top.block) (sym same) ∙ ek, subst (λ (b : TypedBody). perform X.source (record { shapes = D; locals = b.locals; frame = s1.top.frame }) s1 k.term (slice_get k.stmts s1.top.at) ≡ Some x) same q)

  -- and so is one of the target
  pub target_is : (k : TypedBlock) → slice_get X.body2.blocks s2.top.block ≡ Some k → step (target X) s2 ≡ perform (target X) H2 s2 k.term (slice_get k.stmts s2.top.at)
  target_is k e = step_is (target X) s2 X.body2 k body2_at e

  module _ (K : Renaming) (low : Sub r.core.lent K) where
    -- what the target holds of a payload that it sets anew
    pub payloads : text.PayloadsOk D X.body1.locals X.body2.locals s1.top.frame s2.top.frame r.core.lent K low s2.memory
    payloads q b t us k u er et ev e =
        let G2 = r.typed2.types in
        let at = resolve_ty D G2 (V.valid2.blank_ok G2) X.body2.locals s2.top.frame (r.typed2.top.locals X.body2 body2_at) s2.memory q b t r.typed2.mem et er in
        let (us', vt, h) = value_at_ty D G2 s2.memory b t _ r.typed2.mem at e in
        blank_fits D G2 j us u (subst (λ y. HasTy D G2 y u) (some_val (sym vt ∙ ev)) h)

    -- what a return hands over
    pub result : MemRel r.core.lent K s2.memory s1.memory → K s1.top.frame 0 ≡ Some (s2.top.frame, 0) → (v : Value) → read_at s1.memory (local_addr s1.top.frame 0) ≡ Some v → (w : Value) × (read_at s2.memory (local_addr s2.top.frame 0) ≡ Some w) × Same r.core.lent v w
    unfolding local_addr
    result mem h v e =
        let ((w, g, rel), _) = text.read_at_rel D X.body1.locals X.body2.locals s1.top.frame s2.top.frame j K low s2.memory s1.memory (record { frame = s1.top.frame; local = 0; path = [] }) (record { frame = s2.top.frame; local = 0; path = [] }) v (record { root = h; path = refl }) mem e in
        (w, g, (rel, whole_tight j v w rel (read_at_whole s1.memory (record { frame = s1.top.frame; local = 0; path = [] }) v e)))
