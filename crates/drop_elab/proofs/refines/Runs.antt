-- How the code of a plan runs: each piece from the place where it begins.
use Rattle.std.proofs.Common.{◌≡◌, ◌⊎◌, inl, inr, refl, sym, ap, ◌∙◌, subst, ℕ, zero, suc, ◌+◌, ◌≤◌, true, false, nat_eq, List, [], Option, Some, None, slice_get, option_map, arith}
use Rattle.mir_syntax.specs.declared.body.Operand.TheVariants as operand
use Rattle.mir_syntax.specs.Tree.{Tree}
use Rattle.mir_syntax.specs.Crate.{TypedRvalue, assign}
use Rattle.mir_syntax.specs.Shapes.{Shape, place_ty}
use Rattle.mir_semantics.specs.Values.{Addr, Value, number, variant, pointer, hole, blank}
use Rattle.mir_semantics.specs.Memory.{Memory, local_at, value_at, write, walk}
use Rattle.mir_semantics.specs.Step.{Code, Dest, Control, State, Next, on, Here, local_addr, resolve, type_of, guard_of, dest_of, store, const_value, read_at, read, read_all, read_number, eval, exec, to_block, next_stmt, go_on, take_arm, enter, call, finish, perform, step}
use Rattle.mir_syntax.proofs.Binds.{some_bind}
use Rattle.mir_renaming.proofs.Memory.{write_same, write_other, root_or_not}
use Rattle.mir_relate.specs.Simulation.{keep_on, moves}
use Rattle.drop_elab.specs.Plan.{local_place}

-- ---- moves, one after another

pub one_move : (C : Code) (s s' : State) → step C s ≡ Some (on s') → moves C 1 s ≡ Some s'
one_move C s s' e = ap (keep_on (moves C 0)) e

some_on : (a b : State) → Some a ≡ Some b → a ≡ b
some_on a b e = grind arith

pub moves_then : (C : Code) (j k : ℕ) (s s' : State) (x : Option State) → moves C j s ≡ Some s' → moves C k s' ≡ x → moves C (j + k) s ≡ x
moves_then C zero k s s' x e f = let z : 0 + k ≡ k = omega arith in rw z (ap (moves C k) (some_on s s' e) ∙ f)
moves_then C (suc j) k s s' x e f = let z : suc j + k ≡ suc (j + k) = omega arith in rw z (go (step C s) e (λ s1 e1. moves_then C j k s1 s' x e1 f))
  where
    go : (o : Option Next) → keep_on (moves C j) o ≡ Some s' → ((s1 : State) → moves C j s1 ≡ Some s' → moves C (j + k) s1 ≡ x) → keep_on (moves C (j + k)) o ≡ x
    go (Some (on s1)) e ih = ih s1 e
    go (Some (Rattle.mir_semantics.specs.Step.stop o)) e ih = absurd (grind arith)
    go (Some (Rattle.mir_semantics.specs.Step.fail t)) e ih = absurd (grind arith)
    go None e ih = absurd (grind arith)

-- ---- a local is assigned

abbrev pub here_at : (D : List Shape) (ts : List Tree) (f : ℕ) → Here
here_at D ts f = record { shapes = D; locals = ts; frame = f }

module _ (h : Here) where
  pub local_there : (m : Memory) (x : ℕ) (v : Value) → local_at m h.frame x ≡ Some v → value_at m (local_addr h.frame x) ≡ Some v
  unfolding value_at local_addr
  local_there m x v e = some_bind _ e refl

  pub resolve_local : (m : Memory) (x : ℕ) → resolve h m (local_place x) ≡ Some (local_addr h.frame x)
  unfolding resolve walk
  resolve_local m x = refl

  pub type_local : (x : ℕ) (t : Tree) → slice_get h.locals x ≡ Some t → type_of h (local_place x) ≡ Some t
  unfolding type_of place_ty
  type_local x t e = some_bind _ e refl

  pub dest_local : (m : Memory) (x : ℕ) (t : Tree) → slice_get h.locals x ≡ Some t → dest_of h m (local_place x) ≡ Some (record { addr = local_addr h.frame x; guard = None })
  unfolding dest_of guard_of
  dest_local m x t e = some_bind _ (resolve_local m x) (some_bind _ (type_local x t e) refl)

  pub store_local : (m : Memory) (x : ℕ) (v old : Value) → local_at m h.frame x ≡ Some old → store h.shapes m (record { addr = local_addr h.frame x; guard = None }) v ≡ Some (write m (local_addr h.frame x) v)
  unfolding store
  store_local m x v old e = some_bind _ (local_there m x old e) refl

  pub set_local : (m m' : Memory) (x : ℕ) (t : Tree) (r : TypedRvalue) (v old : Value) → eval h m r ≡ Some (v, m') → slice_get h.locals x ≡ Some t → local_at m' h.frame x ≡ Some old → exec h m (assign (local_place x) r) ≡ Some (write m' (local_addr h.frame x) v)
  unfolding exec
  set_local m m' x t r v old er et e = some_bind _ er (some_bind _ (dest_local m' x t et) (store_local m' x v old e))

  -- the local holds what was written, and the others what they did
  pub written : (m : Memory) (x : ℕ) (v old : Value) → local_at m h.frame x ≡ Some old → local_at (write m (local_addr h.frame x) v) h.frame x ≡ Some v
  unfolding local_addr
  written m x v old e = write_same m (record { frame = h.frame; local = x; path = [] }) v h.frame x (refl, refl) ∙ ap (option_map _) e

  pub beside : (m : Memory) (x : ℕ) (v : Value) (f y : ℕ) → (f ≡ h.frame → y ≡ x → ⊥) → local_at (write m (local_addr h.frame x) v) f y ≡ local_at m f y
  unfolding local_addr
  beside m x v f y ne = write_other m (record { frame = h.frame; local = x; path = [] }) v f y ne

  pub move_local : (m : Memory) (x : ℕ) (t : Tree) (v : Value) → local_at m h.frame x ≡ Some v → Rattle.mir_semantics.specs.Values.whole v ≡ true → slice_get h.locals x ≡ Some t → read h m (operand.Move (local_place x)) ≡ Some (v, write m (local_addr h.frame x) (blank h.shapes t))
  unfolding read read_at
  move_local m x t v e w et = some_bind _ (resolve_local m x) (some_bind _ (some_bind _ (local_there m x v e) (ap (λ b. Rattle.mir_semantics.specs.Step.only_if b v) w)) (some_bind _ (type_local x t et) refl))

  pub copy_local : (m : Memory) (x n : ℕ) → local_at m h.frame x ≡ Some (number n) → read_number h m (operand.Copy (local_place x)) ≡ Some (n, m)
  unfolding read_number read read_at
  copy_local m x n e = some_bind _ (some_bind _ (resolve_local m x) (some_bind _ (some_bind _ (local_there m x (number n) e) refl) refl)) (some_bind _ refl refl)

-- what is left as it was, but for locals of a frame from a number on, which stay there
pub record Beyond (f l : ℕ) (m m' : Memory) : Type 0 where
  pub others : (g x : ℕ) → (g ≡ f → l ≤ x → ⊥) → local_at m' g x ≡ local_at m g x
  pub there : (x : ℕ) (v : Value) → local_at m f x ≡ Some v → (w : Value) × (local_at m' f x ≡ Some w)

pub beyond_trans : (f l : ℕ) (m m' m'' : Memory) → Beyond f l m m' → Beyond f l m' m'' → Beyond f l m m''
beyond_trans f l m m' m'' a b = record { others = λ g x ne. b.others g x ne ∙ a.others g x ne; there = λ x v e. (let (w, e') = a.there x v e in b.there x w e') }

pub beyond_refl : (f l : ℕ) (m : Memory) → Beyond f l m m
beyond_refl f l m = record { others = λ g x ne. refl; there = λ x v e. (v, e) }

pub beyond_write : (h : Here) (l x : ℕ) (m : Memory) (v old : Value) → l ≤ x → local_at m h.frame x ≡ Some old → Beyond h.frame l m (write m (local_addr h.frame x) v)
beyond_write h l x m v old le e = record {
  others = λ g y ne. beside h m x v g y (λ p q. ne p (omega (arith, q)));
  there = λ y w e'. go y w e' (Rattle.mir_renaming.proofs.Memory.same_or_not y x);
}
  where
    go : (y : ℕ) (w : Value) → local_at m h.frame y ≡ Some w → ((nat_eq y x ≡ true) × (y ≡ x)) ⊎ ((nat_eq y x ≡ false) × (y ≡ x → ⊥)) → (u : Value) × (local_at (write m (local_addr h.frame x) v) h.frame y ≡ Some u)
    go y w e' (inl (_, q)) = (v, subst (λ z. local_at (write m (local_addr h.frame x) v) h.frame z ≡ Some v) (sym q) (written h m x v old e))
    go y w e' (inr (_, n)) = (w, beside h m x v h.frame y (λ _ q. n q) ∙ e')
