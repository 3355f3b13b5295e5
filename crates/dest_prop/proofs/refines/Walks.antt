-- Places without a dereference: what stands where one leads, and that one leads where something stands.
use Rattle.std.proofs.Common.{◌≡◌, refl, sym, ap, ◌∙◌, true, false, List, [], ◌∷◌, Option, Some, None, arith}
use Rattle.mir_syntax.specs.declared.body.Proj.{Proj}
use Rattle.mir_syntax.specs.declared.body.Proj.TheVariants.{Field, Downcast, Deref}
use Rattle.mir_syntax.specs.Parts.{is_direct, has_deref}
use Rattle.mir_syntax.proofs.Binds.{bind_some, some_bind}
use Rattle.mir_semantics.specs.Values.{Addr, Value, at_path}
use Rattle.mir_semantics.specs.Memory.{Memory, value_at, further, there, project, walk}
use Rattle.mir_renaming.specs.Places.{is_nil}
use Rattle.mir_relate.proofs.Leaves.{some_val}
use Rattle.mir_renaming.proofs.Walks.{value_at_further}

there_some : (m : Memory) (a b : Addr) → there (value_at m a) a ≡ Some b → (v : Value) × (value_at m b ≡ Some v)
there_some m a b e = go (value_at m a) refl e
  where
    go : (o : Option Value) → value_at m a ≡ o → there o a ≡ Some b → (v : Value) × (value_at m b ≡ Some v)
    go None h e = absurd (grind arith)
    go (Some v) h e = (v, ap (value_at m) (sym (some_val e)) ∙ h)

-- something stands where a walk ends, after a step at least
walked : (ps : List Proj) (m : Memory) (a b : Addr) (v : Value) → has_deref ps ≡ false → value_at m a ≡ Some v → walk m a ps ≡ Some b → (u : Value) × (value_at m b ≡ Some u)
unfolding walk project
walked [] m a b v h k e = (v, ap (value_at m) (sym (some_val e)) ∙ k)
walked (Field i ∷ ps) m a b v h k e =
    let (c, e1, e2) = bind_some e in
    let (u, k1) = there_some m (further a (Field i)) c e1 in
    walked ps m c b u h k1 e2
walked (Downcast i ∷ ps) m a b v h k e =
    let (c, e1, e2) = bind_some e in
    let (u, k1) = there_some m (further a (Downcast i)) c e1 in
    walked ps m c b u h k1 e2
walked (Deref ∷ ps) m a b v h k e = absurd (grind arith)

pub walk_value : (ps : List Proj) (m : Memory) (a b : Addr) → is_nil ps ≡ false → has_deref ps ≡ false → walk m a ps ≡ Some b → (u : Value) × (value_at m b ≡ Some u)
unfolding walk project
walk_value [] m a b n h e = absurd (grind arith)
walk_value (Field i ∷ ps) m a b n h e =
    let (c, e1, e2) = bind_some e in
    let (u, k1) = there_some m (further a (Field i)) c e1 in
    walked ps m c b u h k1 e2
walk_value (Downcast i ∷ ps) m a b n h e =
    let (c, e1, e2) = bind_some e in
    let (u, k1) = there_some m (further a (Downcast i)) c e1 in
    walked ps m c b u h k1 e2
walk_value (Deref ∷ ps) m a b n h e = absurd (grind arith)

-- a direct path leads on where something stands at it
pub walk_there : (ps : List Proj) (m : Memory) (a : Addr) (v u : Value) → is_direct ps ≡ true → value_at m a ≡ Some v → at_path ps v ≡ Some u → (c : Addr) × (walk m a ps ≡ Some c)
unfolding walk project
walk_there [] m a v u d k e = (a, refl)
walk_there (Field i ∷ ps) m a v u d k e =
    let (w, e1, e2) = bind_some e in
    let k' = value_at_further m a (Field i) v w k e1 in
    let (c, q) = walk_there ps m (further a (Field i)) w u d k' e2 in
    (c, some_bind _ (ap (λ o. there o (further a (Field i))) k') q)
walk_there (Downcast n ∷ ps) m a v u d k e = absurd (grind arith)
walk_there (Deref ∷ ps) m a v u d k e = absurd (grind arith)
