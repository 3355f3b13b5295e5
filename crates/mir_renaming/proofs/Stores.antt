-- A store in its parts, and locals that are there.
use Rattle.std.proofs.Common.{◌≡◌, ◌⊎◌, inl, inr, sym, ap, ◌∙◌, ℕ, List, [], Option, Some, None, option_map}
use Rattle.mir_syntax.specs.Shapes.{Shape}
use Rattle.mir_semantics.specs.Values.{Addr, Value, at_path, put}
use Rattle.mir_semantics.specs.Memory.{Memory, local_at, value_at, write}
use Rattle.mir_semantics.specs.Step.{Dest, only_if, allows, store}
use Rattle.mir_renaming.specs.Renaming.{RootOf}
use Rattle.mir_syntax.proofs.Binds.{bind_some, some_bind}
use Rattle.mir_renaming.proofs.Memory.{same_pair, root_or_not, write_same, write_other}
use Rattle.mir_renaming.proofs.Statements.{only_true}

pub pair_parts : (a b c d : ℕ) → ◌≡◌ {A = Option (ℕ × ℕ)} (Some (a, b)) (Some (c, d)) → (c ≡ a) × (d ≡ b)
pair_parts a b c d e = let (p, q) = same_pair a b c d e in (sym p, sym q)

pub write_there : (m : Memory) (a : Addr) (v : Value) (f x : ℕ) (o : Value) → local_at m f x ≡ Some o → (u : Value) × (local_at (write m a v) f x ≡ Some u)
write_there m a v f x o e = go (root_or_not a f x)
  where
    go : RootOf a f x ⊎ (f ≡ a.frame → x ≡ a.local → ⊥) → (u : Value) × (local_at (write m a v) f x ≡ Some u)
    go (inl h) = (put a.path v o, write_same m a v f x h ∙ ap (option_map (put a.path v)) e)
    go (inr n) = (o, write_other m a v f x n ∙ e)

-- a store, in parts
pub store_split : (D : List Shape) (m m' : Memory) (d : Dest) (v : Value) → store D m d v ≡ Some m' → (old : Value) × (value_at m d.addr ≡ Some old) × (write m d.addr v ≡ m')
unfolding store
store_split D m m' d v e =
    let (old, e1, k1) = bind_some e in
    let (ok, same) = only_true (allows D d.guard old) (write m d.addr v) m' k1 in
    (old, e1, same)

pub store_made : (D : List Shape) (m : Memory) (d : Dest) (v old : Value) → d.guard ≡ None → value_at m d.addr ≡ Some old → store D m d v ≡ Some (write m d.addr v)
unfolding store
store_made D m d v old g e = some_bind _ e (ap (λ g. only_if (allows D g old) (write m d.addr v)) g)

-- the local_at of what stands somewhere
pub root_of : (m : Memory) (a : Addr) (v : Value) → value_at m a ≡ Some v → (o : Value) × (local_at m a.frame a.local ≡ Some o)
unfolding value_at
root_of m a v e = let (o, e1, e2) = bind_some e in (o, e1)

pub value_of_root : (m : Memory) (a : Addr) (o : Value) → a.path ≡ [] → local_at m a.frame a.local ≡ Some o → value_at m a ≡ Some o
unfolding value_at
value_of_root m a o p e = some_bind _ e (ap (λ q. at_path q o) p)
