-- Steps that are gentle to the frames below, one after another, and single writes.
use Rattle.std.proofs.Common.{◌≡◌, ◌⊎◌, inl, inr, sym, ap, ap₂, ◌∙◌, subst, ℕ, ◌<◌, ◌≤◌, true, false, List, Some, option_map, arith}
use Rattle.mir_syntax.specs.Tree.{Tree}
use Rattle.mir_syntax.specs.Shapes.{Shape, path_ty, needs_drop}
use Rattle.mir_semantics.specs.Values.{Addr, Value, at_path, put, whole, full}
use Rattle.mir_semantics.specs.Memory.{Memory, local_at, value_at, write, close_frame}
use Rattle.mir_semantics.specs.Step.{State, Next, on, stop, fail}
use Rattle.mir_renaming.specs.Renaming.{RootOf}
use Rattle.mir_syntax.proofs.Binds.{bind_some}
use Rattle.mir_renaming.proofs.Memory.{root_or_not, write_same, write_other}
use Rattle.mir_renaming.proofs.Frames.{close_other}
use Rattle.mir_renaming.proofs.Types.{TypeMap, AddrTy, HasTy, some_eq}
use Rattle.mir_relate.specs.Mild.{Fair, Mild, same, more, Gentle}
use Rattle.mir_relate.specs.Frames.{Change}
use Rattle.mir_relate.specs.Pass.{GentleTo}
use Rattle.mir_relate.proofs.Leaves.{some_val}

mild_then : (D : List Shape) (G : TypeMap) (t : Tree) (v u w : Value) → Mild D G t v u → Mild D G t u w → Mild D G t v w
mild_then D G t v u w a (same _) = a
mild_then D G t v u w a (more _ z y ps b f) = more v z y ps (mild_then D G t v u z a b) f

pub gentle_none : (D : List Shape) (G : TypeMap) (n1 : ℕ) (m1 : Memory) → Gentle D G n1 m1 m1
gentle_none D G n1 m1 = record { mild = λ h x t v l ty e. (v, e, same v) }

pub gentle_then : (D : List Shape) (G : TypeMap) (n1 : ℕ) (m1 m1' m1'' : Memory) → Gentle D G n1 m1' m1 → Gentle D G n1 m1'' m1' → Gentle D G n1 m1'' m1
gentle_then D G n1 m1 m1' m1'' a b = record { mild = λ h x t v l ty e. (let (v', e', k) = a.mild h x t v l ty e in let (v'', e'', k') = b.mild h x t v' l ty e' in (v'', e'', mild_then D G t v v' v'' k k')) }

pub gentle_less : (D : List Shape) (G : TypeMap) (n1 k1 : ℕ) (m1' m1 : Memory) → k1 ≤ n1 → Gentle D G n1 m1' m1 → Gentle D G k1 m1' m1
gentle_less D G n1 k1 m1' m1 le a = record { mild = λ h x t v l ty e. a.mild h x t v (omega (arith, l, le)) ty e }

-- nothing changes below
pub gentle_same : (D : List Shape) (G : TypeMap) (n1 : ℕ) (m1' m1 : Memory) → ((h x : ℕ) (t : Tree) → h < n1 → G h x ≡ Some t → local_at m1' h x ≡ local_at m1 h x) → Gentle D G n1 m1' m1
gentle_same D G n1 m1' m1 is = record { mild = λ h x t v l ty e. (v, is h x t l ty ∙ e, same v) }

-- what is gentle to a memory is so to one that is the same below, and leads to what is the same below
pub gentle_from : (D : List Shape) (G : TypeMap) (n1 : ℕ) (m1' m1 m0 : Memory) → ((h x : ℕ) (t : Tree) → h < n1 → G h x ≡ Some t → local_at m0 h x ≡ local_at m1 h x) → Gentle D G n1 m1' m1 → Gentle D G n1 m1' m0
gentle_from D G n1 m1' m1 m0 is a = record { mild = λ h x t v l ty e. a.mild h x t v l ty (sym (is h x t l ty) ∙ e) }

pub gentle_to : (D : List Shape) (G : TypeMap) (n1 : ℕ) (m1'' m1' m1 : Memory) → ((h x : ℕ) (t : Tree) → h < n1 → G h x ≡ Some t → local_at m1'' h x ≡ local_at m1' h x) → Gentle D G n1 m1' m1 → Gentle D G n1 m1'' m1
gentle_to D G n1 m1'' m1' m1 is a = gentle_then D G n1 m1 m1' m1'' a (gentle_same D G n1 m1'' m1' is)

-- a write in a frame above
pub gentle_above : (D : List Shape) (G : TypeMap) (n1 : ℕ) (m1 : Memory) (a : Addr) (v : Value) → n1 ≤ a.frame → Gentle D G n1 (write m1 a v) m1
gentle_above D G n1 m1 a v le = gentle_same D G n1 (write m1 a v) m1 (λ h x t l ty. write_other m1 a v h x (λ p q. absurd (omega (arith, l, le, p))))

-- a write in a frame above, or a fair one
pub gentle_write : (D : List Shape) (G : TypeMap) (n1 : ℕ) (m1 : Memory) (a : Addr) (v old : Value) (u : Tree) → AddrTy D G a u → value_at m1 a ≡ Some old → HasTy D G u v → (n1 ≤ a.frame) ⊎ (needs_drop D u ≡ false) ⊎ (full D u old ≡ true) × (whole v ≡ true) × HasTy D G u old → Gentle D G n1 (write m1 a v) m1
unfolding value_at
gentle_write D G n1 m1 a v old u at eo hv (inl le) = gentle_above D G n1 m1 a v le
gentle_write D G n1 m1 a v old u at eo hv (inr fair) = record { mild = λ h x t o l ty e. go h x t o ty e (root_or_not a h x) }
  where
    go : (h x : ℕ) (t : Tree) (o : Value) → G h x ≡ Some t → local_at m1 h x ≡ Some o → RootOf a h x ⊎ (h ≡ a.frame → x ≡ a.local → ⊥) → (v' : Value) × (local_at (write m1 a v) h x ≡ Some v') × Mild D G t o v'
    go h x t o ty e (inr n) = (o, write_other m1 a v h x n ∙ e, same o)
    go h x t o ty e (inl root) =
        let (o2, p2, q2) = bind_some eo in
        let here : o2 ≡ o = some_val (sym p2 ∙ ap₂ (local_at m1) (sym root.0) (sym root.1) ∙ e) in
        let lt : at.local ≡ t = some_eq D G at.local t (G h x) (ap₂ G root.0 root.1 ∙ at.is) ty in
        let f : Fair D G t a.path v o = record { part = u; old = old; ty = subst (λ y. path_ty D y a.path ≡ Some u) lt at.path; was = subst (λ o. at_path a.path o ≡ Some old) here q2; fits = hv; fair = fair } in
        (put a.path v o, write_same m1 a v h x root ∙ ap (option_map (put a.path v)) e, more o o v a.path (same o) f)

-- ---- where a step leads

pub gentle_on : (X : Change) (G : TypeMap) (k : ℕ) (m : Memory) (s : State) (x : Next) → GentleTo X G k m x → Some (on s) ≡ Some x → k ≤ s.top.frame → Gentle X.source.shapes G k s.memory m
gentle_on X G k m s x ge e le = subst (GentleTo X G k m) (sym (some_val e)) ge k (omega arith) le

-- once the running frame has closed
pub gentle_closed : (X : Change) (G : TypeMap) (f k : ℕ) (m : Memory) (x : Next) → k < f → GentleTo X G f m x → GentleTo X G k (close_frame m f) x
gentle_closed X G f k m (on s) lt ge = λ n l1 l2. gentle_from X.source.shapes G n s.memory m (close_frame m f) (λ h y t l ty. close_other m f h y (λ p. absurd (omega (arith, p, l, l1, lt)))) (ge n (omega (arith, l1, lt)) l2)
gentle_closed X G f k m (stop o) lt ge = tt
gentle_closed X G f k m (fail t) lt ge = tt
