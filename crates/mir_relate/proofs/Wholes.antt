-- What is read and evaluated has no holes.
use Rattle.std.proofs.Common.{◌≡◌, refl, sym, subst, ℕ, Bool, true, false, if◌then◌else◌, List, [], ◌∷◌, Some, slice_get, arith}
use Rattle.mir_syntax.specs.declared.body.Const.{Const}
use Rattle.mir_syntax.specs.declared.body.Const.TheVariants as constant
use Rattle.mir_syntax.specs.declared.body.Operand.{Operand}
use Rattle.mir_syntax.specs.declared.body.Operand.TheVariants as operand
use Rattle.mir_syntax.specs.Tree.{Tree}
use Rattle.mir_syntax.specs.Shapes.{Shape}
use Rattle.mir_syntax.specs.Crate.{TypedRvalue, «use», binary, overflow, unary, cast, discriminant, tuple, build}
use Rattle.mir_syntax.specs.Crate as rvalue
use Rattle.mir_semantics.specs.Values.{Addr, Value, number, nil, cons, variant, pointer, hole, listed, whole, blank}
use Rattle.mir_semantics.specs.Memory.{Memory}
use Rattle.mir_semantics.specs.Step.{Here, const_value, read_at, read, read_all, built, built_by, eval}
use Rattle.mir_syntax.proofs.Binds.{bind_some}
use Rattle.std.proofs.lemmas.Bool.{and_from, and_parts}
use Rattle.mir_renaming.proofs.Ghosts.{is_plain, AllPlain}
use Rattle.mir_renaming.proofs.Statements.{only_true}
use Rattle.mir_renaming.proofs.Types.{TypeMap, HasTy, BuiltTy, RvalueTy}
use Rattle.mir_relate.specs.Alike.{AllWhole}
use Rattle.mir_relate.proofs.Leaves.{some_val}

pub read_at_whole : (m : Memory) (a : Addr) (v : Value) → read_at m a ≡ Some v → whole v ≡ true
unfolding read_at
read_at_whole m a v e =
    let (u, e1, e2) = bind_some e in
    let (t, same) = only_true (whole u) u v e2 in
    subst (λ y. whole y ≡ true) same t

const_whole : (c : Const) → whole (const_value c) ≡ true
unfolding const_value
const_whole (constant.Int t n) = refl
const_whole (constant.Bool b) = refl
const_whole constant.Unit = refl

is_whole : (v : Value) (m : Memory) (r : Value × Memory) → Some (v, m) ≡ Some r → whole v ≡ true → whole r.0 ≡ true
is_whole v m r e h = subst (λ (r : Value × Memory). whole r.0 ≡ true) (some_val e) h

plain_whole : (v : Value) → is_plain v ≡ true → whole v ≡ true
plain_whole (number n) h = refl
plain_whole nil h = refl
plain_whole (cons v vs) h = (let (a, b) = and_parts (is_plain v) (is_plain vs) h in and_from (whole v) (whole vs) (plain_whole v a) (plain_whole vs b))
plain_whole (variant k v) h = plain_whole v h
plain_whole (pointer a) h = absurd (grind arith)
plain_whole hole h = absurd (grind arith)

-- what refers to nothing has none
pub all_plain : (vs : List Value) → AllPlain vs → AllWhole vs
all_plain [] h = tt
all_plain (v ∷ vs) h = (plain_whole v h.0, all_plain vs h.1)

listed_whole : (vs : List Value) → AllWhole vs → whole (listed vs) ≡ true
listed_whole [] h = refl
listed_whole (v ∷ vs) h = and_from (whole v) (whole (listed vs)) h.0 (listed_whole vs h.1)

module _ (H : Here) where
  read_whole : (m : Memory) (o : Operand) (r : Value × Memory) → read H m o ≡ Some r → whole r.0 ≡ true
  unfolding read
  read_whole m (operand.Copy p) r e =
      let (a, e1, k1) = bind_some e in
      let (v, e2, k2) = bind_some k1 in
      is_whole v m r k2 (read_at_whole m a v e2)
  read_whole m (operand.Move p) r e =
      let (a, e1, k1) = bind_some e in
      let (v, e2, k2) = bind_some k1 in
      let (t, e3, k3) = bind_some k2 in
      is_whole v _ r k3 (read_at_whole m a v e2)
  read_whole m (operand.Const c) r e = is_whole (const_value c) m r e (const_whole c)

  pub all_whole : (m : Memory) (os : List Operand) (r : List Value × Memory) → read_all H m os ≡ Some r → AllWhole r.0
  unfolding read_all
  all_whole m [] r e = subst (λ (r : List Value × Memory). AllWhole r.0) (some_val e) tt
  all_whole m (o ∷ os) r e =
      let (x, e1, k1) = bind_some e in
      let (y, e2, k2) = bind_some k1 in
      subst (λ (r : List Value × Memory). AllWhole r.0) (some_val k2) (read_whole m o x e1, all_whole x.1 os y e2)

  built_whole : (D : List Shape) (d k : ℕ) (us t : Tree) (v : Value) → BuiltTy D d k us t → whole v ≡ true → whole (built D d k v) ≡ true
  built_whole D d k us t v (s, e, at, kind) h = subst (λ o. whole (built_by k v o) ≡ true) (sym at) (pick s.is_enum)
    where
      pick : (b : Bool) → whole (if b then variant k v else v) ≡ true
      pick true = h
      pick false = h

-- a value of an rvalue that has a type
pub eval_whole : (D : List Shape) (G : TypeMap) (bok : (t : Tree) → HasTy D G t (blank D t)) (ts : List Tree) (f : ℕ) (lok : (x : ℕ) (t : Tree) → slice_get ts x ≡ Some t → G f x ≡ Some t) (m : Memory) (x : TypedRvalue) (t : Tree) (r : Value × Memory) → RvalueTy D G bok ts f lok x t → eval (record { shapes = D; locals = ts; frame = f }) m x ≡ Some r → whole r.0 ≡ true
unfolding eval
eval_whole D G bok ts f lok m («use» o) t r ty e = read_whole (record { shapes = D; locals = ts; frame = f }) m o r e
eval_whole D G bok ts f lok m (binary op a b) t r ty e =
    let (_, e1, k1) = bind_some e in
    let (x, e2, k2) = bind_some k1 in
    let (n, e3, k3) = bind_some k2 in
    is_whole _ _ r k3 refl
eval_whole D G bok ts f lok m (overflow op a b) t r ty e =
    let (_, e1, k1) = bind_some e in
    let (x, e2, k2) = bind_some k1 in
    is_whole _ _ r k2 refl
eval_whole D G bok ts f lok m (unary op a) t r ty e =
    let (_, e1, k1) = bind_some e in
    let (x, e2, k2) = bind_some k1 in
    is_whole _ _ r k2 refl
eval_whole D G bok ts f lok m (cast a to) t r ty e =
    let (_, e1, k1) = bind_some e in
    let (_, e2, k2) = bind_some k1 in
    let (x, e3, k3) = bind_some k2 in
    is_whole _ _ r k3 refl
eval_whole D G bok ts f lok m (rvalue.ref p) t r ty e = let (a, e1, k1) = bind_some e in is_whole _ _ r k1 refl
eval_whole D G bok ts f lok m (rvalue.ref_mut p) t r ty e = let (a, e1, k1) = bind_some e in is_whole _ _ r k1 refl
eval_whole D G bok ts f lok m (discriminant p) t r ty e =
    let (a, e1, k1) = bind_some e in
    let (v, e2, k2) = bind_some k1 in
    let (n, e3, k3) = bind_some k2 in
    is_whole _ _ r k3 refl
eval_whole D G bok ts f lok m (tuple os) t r ty e =
    let (x, e1, k1) = bind_some e in
    is_whole (listed x.0) x.1 r k1 (listed_whole x.0 (all_whole (record { shapes = D; locals = ts; frame = f }) m os x e1))
eval_whole D G bok ts f lok m (build d k os) t r (us, _, bt) e =
    let (x, e1, k1) = bind_some e in
    is_whole (built D d k (listed x.0)) x.1 r k1 (built_whole (record { shapes = D; locals = ts; frame = f }) D d k us t (listed x.0) bt (listed_whole x.0 (all_whole (record { shapes = D; locals = ts; frame = f }) m os x e1)))
