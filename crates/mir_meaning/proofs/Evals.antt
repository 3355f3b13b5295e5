-- What rvalues give.
use Rattle.std.proofs.Common.{◌≡◌, ℕ, ◌%◌, Bool, true, false, not, if◌then◌else◌, List, slice_get, Option, Some, None, is_none, refl, sym, ap, ◌∙◌, arith}
use Rattle.std.specs.Prelude.{ℤ, pos, negsuc}
use Rattle.std.specs.Option.{unwrap_or}
use Rattle.mir_syntax.specs.declared.types.ScalarTy.{ScalarTy}
use Rattle.mir_syntax.specs.declared.types.ScalarTy.TheVariants as scalar_ty
use Rattle.mir_syntax.specs.declared.types.IntTy.TheVariants.{U8}
use Rattle.mir_syntax.specs.declared.types.Def.{Def}
use Rattle.mir_syntax.specs.declared.body.Place.{Place}
use Rattle.mir_syntax.specs.declared.body.Operand.{Operand}
use Rattle.mir_syntax.specs.declared.body.BinOp.{BinOp}
use Rattle.mir_syntax.specs.declared.body.OverOp.{OverOp}
use Rattle.mir_syntax.specs.declared.body.UnOp.{UnOp}
use Rattle.mir_syntax.specs.declared.program.Program.{Program}
use Rattle.mir_syntax.specs.Tree.{Tree}
use Rattle.mir_syntax.specs.Crate as typed
use Rattle.mir_syntax.specs.Shapes.{◌>>=◌}
use Rattle.mir_syntax.proofs.Places.{shape-at, shape-past}
use Rattle.mir_num.specs.Numbers as num
use Rattle.mir_semantics.specs.Values.{Addr, Value, number, variant, pointer, hole, listed}
use Rattle.mir_semantics.specs.Memory.{Memory, value_at}
use Rattle.mir_semantics.specs.Step.{Here, resolve, read, read_all, read_number, read_two, scalar_ty_of, scalar_in, variant_in, pair_of, built, eval}
use Rattle.mir_meaning.specs.Programs.{shapes_in}
use Rattle.mir_meaning.specs.Sight.{Misses, Finds}
use Rattle.mir_syntax.proofs.Binds.{bind_at, bind_gone, bind_dead}
use Rattle.mir_meaning.proofs.Binds.{bind_later}

-- a value that is seen as another
pub same_seen : (v w : Value) (m : Memory) → v ≡ w → ◌≡◌ {A = Option (Value × Memory)} (Some (v, m)) (Some (w, m))
same_seen v w m e = cc

-- ---- numbers

pub first_gone : (h : Here) (m : Memory) (a b : Operand) → read_number h m a ≡ None → read_two h m a b ≡ None
unfolding read_two
first_gone h m a b e = bind_gone _ _ e

pub second_gone : (h : Here) (m m' : Memory) (a b : Operand) (x : ℕ) → read_number h m a ≡ Some (x, m') → read_number h m' b ≡ None → read_two h m a b ≡ None
unfolding read_two
second_gone h m m' a b x e f = bind_at _ (x, m') _ e ∙ bind_gone _ _ f

pub both_read : (h : Here) (m m' m'' : Memory) (a b : Operand) (x y : ℕ) → read_number h m a ≡ Some (x, m') → read_number h m' b ≡ Some (y, m'') → read_two h m a b ≡ Some ((x, y), m'')
unfolding read_two
both_read h m m' m'' a b x y e f = bind_at _ (x, m') _ e ∙ bind_at _ (y, m'') _ f

-- ---- operators

pub binary_untyped : (h : Here) (m : Memory) (op : BinOp) (a b : Operand) → scalar_ty_of h a ≡ None → eval h m (typed.binary op a b) ≡ None
unfolding eval
binary_untyped h m op a b e = bind_gone _ _ e

pub binary_unread : (h : Here) (m : Memory) (op : BinOp) (a b : Operand) → read_two h m a b ≡ None → eval h m (typed.binary op a b) ≡ None
unfolding eval
binary_unread h m op a b e = bind_dead _ _ (λ t. bind_gone _ _ e)

pub binary_none : (h : Here) (m m' : Memory) (op : BinOp) (a b : Operand) (t : ScalarTy) (x y : ℕ) → scalar_ty_of h a ≡ Some t → read_two h m a b ≡ Some ((x, y), m') → num.binop op t x y ≡ None → eval h m (typed.binary op a b) ≡ None
unfolding eval
binary_none h m m' op a b t x y s r e = bind_at _ t _ s ∙ (bind_at _ ((x, y), m') _ r ∙ bind_gone _ _ e)

pub binary_some : (h : Here) (m m' : Memory) (op : BinOp) (a b : Operand) (t : ScalarTy) (x y n : ℕ) → scalar_ty_of h a ≡ Some t → read_two h m a b ≡ Some ((x, y), m') → num.binop op t x y ≡ Some n
    → eval h m (typed.binary op a b) ≡ Some (number n, m')
unfolding eval
binary_some h m m' op a b t x y n s r e = bind_at _ t _ s ∙ (bind_at _ ((x, y), m') _ r ∙ bind_at _ n _ e)

pub overflow_untyped : (h : Here) (m : Memory) (op : OverOp) (a b : Operand) → scalar_ty_of h a ≡ None → eval h m (typed.overflow op a b) ≡ None
unfolding eval
overflow_untyped h m op a b e = bind_gone _ _ e

pub overflow_unread : (h : Here) (m : Memory) (op : OverOp) (a b : Operand) → read_two h m a b ≡ None → eval h m (typed.overflow op a b) ≡ None
unfolding eval
overflow_unread h m op a b e = bind_dead _ _ (λ t. bind_gone _ _ e)

pub overflow_some : (h : Here) (m m' : Memory) (op : OverOp) (a b : Operand) (t : ScalarTy) (x y : ℕ) → scalar_ty_of h a ≡ Some t → read_two h m a b ≡ Some ((x, y), m')
    → eval h m (typed.overflow op a b) ≡ Some (pair_of (num.over op t x y), m')
unfolding eval
overflow_some h m m' op a b t x y s r = bind_at _ t _ s ∙ bind_at _ ((x, y), m') _ r

pub unary_untyped : (h : Here) (m : Memory) (op : UnOp) (a : Operand) → scalar_ty_of h a ≡ None → eval h m (typed.unary op a) ≡ None
unfolding eval
unary_untyped h m op a e = bind_gone _ _ e

pub unary_unread : (h : Here) (m : Memory) (op : UnOp) (a : Operand) → read_number h m a ≡ None → eval h m (typed.unary op a) ≡ None
unfolding eval
unary_unread h m op a e = bind_dead _ _ (λ t. bind_gone _ _ e)

pub unary_some : (h : Here) (m m' : Memory) (op : UnOp) (a : Operand) (t : ScalarTy) (x : ℕ) → scalar_ty_of h a ≡ Some t → read_number h m a ≡ Some (x, m') → eval h m (typed.unary op a) ≡ Some (number (num.unary op t x), m')
unfolding eval
unary_some h m m' op a t x s r = bind_at _ t _ s ∙ bind_at _ (x, m') _ r

pub cast_untyped : (h : Here) (m : Memory) (a : Operand) (u : Tree) → scalar_ty_of h a ≡ None → eval h m (typed.cast a u) ≡ None
unfolding eval
cast_untyped h m a u e = bind_gone _ _ e

pub cast_nowhere : (h : Here) (m : Memory) (a : Operand) (u : Tree) → scalar_in u ≡ None → eval h m (typed.cast a u) ≡ None
unfolding eval
cast_nowhere h m a u e = bind_dead _ _ (λ t. bind_gone _ _ e)

pub cast_unread : (h : Here) (m : Memory) (a : Operand) (u : Tree) → read_number h m a ≡ None → eval h m (typed.cast a u) ≡ None
unfolding eval
cast_unread h m a u e = bind_dead _ _ (λ t. bind_dead _ _ (λ s. bind_gone _ _ e))

pub cast_some : (h : Here) (m m' : Memory) (a : Operand) (u : Tree) (from to : ScalarTy) (x : ℕ) → scalar_ty_of h a ≡ Some from → scalar_in u ≡ Some to → read_number h m a ≡ Some (x, m')
    → eval h m (typed.cast a u) ≡ Some (number (num.cast from to x), m')
unfolding eval
cast_some h m m' a u from to x s w r = bind_at _ from _ s ∙ (bind_at _ to _ w ∙ bind_at _ (x, m') _ r)

-- ---- references and discriminants

pub ref_gone : (h : Here) (m : Memory) (p : Place) → resolve h m p ≡ None → eval h m (typed.ref p) ≡ None
unfolding eval
ref_gone h m p e = bind_gone _ _ e

pub ref_mut_gone : (h : Here) (m : Memory) (p : Place) → resolve h m p ≡ None → eval h m (typed.ref_mut p) ≡ None
unfolding eval
ref_mut_gone h m p e = bind_gone _ _ e

pub ref_found : (h : Here) (m : Memory) (p : Place) (a : Addr) → resolve h m p ≡ Some a → eval h m (typed.ref p) ≡ Some (pointer a, m)
unfolding eval
ref_found h m p a e = bind_at _ a _ e

pub ref_mut_found : (h : Here) (m : Memory) (p : Place) (a : Addr) → resolve h m p ≡ Some a → eval h m (typed.ref_mut p) ≡ Some (pointer a, m)
unfolding eval
ref_mut_found h m p a e = bind_at _ a _ e

pub variant_missed : (h : Here) (m : Memory) (p : Place) → Misses h m p → eval h m (typed.discriminant p) ≡ None
unfolding eval
variant_missed h m p e = bind_later (resolve h m p) (value_at m) (λ a v. variant_in v >>= λ k. Some (number k, m)) e

pub variant_other : (h : Here) (m : Memory) (p : Place) (a : Addr) (v : Value) → Finds h m p a v → variant_in v ≡ None → eval h m (typed.discriminant p) ≡ None
unfolding eval
variant_other h m p a v f e = bind_at _ a _ f.place ∙ (bind_at _ v _ f.value ∙ bind_gone _ _ e)

pub variant_found : (h : Here) (m : Memory) (p : Place) (a : Addr) (v : Value) (k : ℕ) → Finds h m p a v → variant_in v ≡ Some k → eval h m (typed.discriminant p) ≡ Some (number k, m)
unfolding eval
variant_found h m p a v k f e = bind_at _ a _ f.place ∙ (bind_at _ v _ f.value ∙ bind_at _ k _ e)

-- ---- tuples and definitions

pub tuple_gone : (h : Here) (m : Memory) (os : List Operand) → read_all h m os ≡ None → eval h m (typed.tuple os) ≡ None
unfolding eval
tuple_gone h m os e = bind_gone _ _ e

pub tuple_made : (h : Here) (m m' : Memory) (os : List Operand) (vs : List Value) → read_all h m os ≡ Some (vs, m') → eval h m (typed.tuple os) ≡ Some (listed vs, m')
unfolding eval
tuple_made h m m' os vs e = bind_at _ (vs, m') _ e

pub build_gone : (h : Here) (m : Memory) (d k : ℕ) (os : List Operand) → read_all h m os ≡ None → eval h m (typed.build d k os) ≡ None
unfolding eval
build_gone h m d k os e = bind_gone _ _ e

pub build_made : (h : Here) (m m' : Memory) (d k : ℕ) (os : List Operand) (vs : List Value) → read_all h m os ≡ Some (vs, m') → eval h m (typed.build d k os) ≡ Some (built h.shapes d k (listed vs), m')
unfolding eval
build_made h m m' d k os vs e = bind_at _ (vs, m') _ e

pub built_nothing : (p : Program) (d k : ℕ) (v : Value) → slice_get p.defs d ≡ None → hole ≡ built (shapes_in p) d k v
built_nothing p d k v h = rw (shape-past p d h) refl

pub built_enum : (p : Program) (d k : ℕ) (v : Value) (def : Def) → slice_get p.defs d ≡ Some def → def.is_enum ≡ true → variant k v ≡ built (shapes_in p) d k v
built_enum p d k v def h e = rw (shape-at p d def h, e) refl

pub built_struct : (p : Program) (d k : ℕ) (v : Value) (def : Def) → slice_get p.defs d ≡ Some def → def.is_enum ≡ false → v ≡ built (shapes_in p) d k v
built_struct p d k v def h e = rw (shape-at p d def h, e) refl

pub use_is : (h : Here) (m : Memory) (o : Operand) → read h m o ≡ eval h m (typed.«use» o)
unfolding eval
use_is h m o = refl
