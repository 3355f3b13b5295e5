-- What operands give.
use Rattle.std.proofs.Common.{suc, add-one, drop-cons, ◌≡◌, ℕ, ◌<◌, ◌≤◌, ◌+◌, true, false, List, [], ◌∷◌, ◌++◌, map, length, drop, get_or, Option, Some, None, refl, sym, ap, ◌∙◌, append_assoc}
use Rattle.std.proofs.lemmas.List.{append-nil, drop_all}
use Rattle.mir_syntax.specs.declared.body.Place.{Place}
use Rattle.mir_syntax.specs.declared.body.Operand.{Operand}
use Rattle.mir_syntax.specs.declared.body.Operand.TheVariants.{Copy, Move, Const}
use Rattle.mir_syntax.specs.Tree.{Tree}
use Rattle.mir_syntax.specs.Shapes.{◌>>=◌}
use Rattle.mir_semantics.specs.Values.{Addr, Value, whole, blank, listed}
use Rattle.mir_semantics.specs.Memory.{Memory, value_at, write}
use Rattle.mir_semantics.specs.Step.{Here, resolve, type_of, read_at, read, read_all, read_number, number_in, const_value, const_ty, scalar_in, scalar_ty_of, operand_ty}
use Rattle.mir_syntax.specs.declared.body.Const.{Const as Constant}
use Rattle.mir_meaning.specs.declared.datum.Datum.{Datum, Parts}
use Rattle.mir_meaning.specs.Views.{value_of}
use Rattle.mir_meaning.specs.Sight.{Misses, Finds}
use Rattle.mir_meaning.proofs.Values.{view_parts}
use Rattle.mir_syntax.proofs.Binds.{bind_at, bind_gone}
use Rattle.mir_meaning.proofs.Binds.{bind_later}

read_missed : (m : Memory) (o : Option Addr) → (o >>= value_at m) ≡ None → (o >>= read_at m) ≡ None
unfolding read_at ◌>>=◌
read_missed m None h = refl
read_missed m (Some a) h = rw h refl

read_hole : (m : Memory) (a : Addr) (v : Value) → value_at m a ≡ Some v → whole v ≡ false → read_at m a ≡ None
unfolding read_at ◌>>=◌
read_hole m a v e w = rw (e, w) refl

pub read_whole : (m : Memory) (a : Addr) (v : Value) → value_at m a ≡ Some v → whole v ≡ true → read_at m a ≡ Some v
unfolding read_at ◌>>=◌
read_whole m a v e w = rw (e, w) refl

-- ---- copies

pub copy_missed : (h : Here) (m : Memory) (p : Place) → Misses h m p → read h m (Copy p) ≡ None
unfolding read
copy_missed h m p e = bind_later (resolve h m p) (read_at m) (λ a v. Some (v, m)) (read_missed m (resolve h m p) e)

pub copy_hole : (h : Here) (m : Memory) (p : Place) (a : Addr) (v : Value) → Finds h m p a v → whole v ≡ false → read h m (Copy p) ≡ None
unfolding read
copy_hole h m p a v f w = bind_at _ a _ f.place ∙ bind_gone _ _ (read_hole m a v f.value w)

pub copy_found : (h : Here) (m : Memory) (p : Place) (a : Addr) (v : Value) → Finds h m p a v → whole v ≡ true → read h m (Copy p) ≡ Some (v, m)
unfolding read
copy_found h m p a v f w = bind_at _ a _ f.place ∙ bind_at _ v _ (read_whole m a v f.value w)

-- ---- moves

pub move_missed : (h : Here) (m : Memory) (p : Place) → Misses h m p → read h m (Move p) ≡ None
unfolding read
move_missed h m p e = bind_later (resolve h m p) (read_at m) (λ a v. type_of h p >>= λ t. Some (v, write m a (blank h.shapes t))) (read_missed m (resolve h m p) e)

pub move_hole : (h : Here) (m : Memory) (p : Place) (a : Addr) (v : Value) → Finds h m p a v → whole v ≡ false → read h m (Move p) ≡ None
unfolding read
move_hole h m p a v f w = bind_at _ a _ f.place ∙ bind_gone _ _ (read_hole m a v f.value w)

pub move_untyped : (h : Here) (m : Memory) (p : Place) (a : Addr) (v : Value) → Finds h m p a v → whole v ≡ true → type_of h p ≡ None → read h m (Move p) ≡ None
unfolding read
move_untyped h m p a v f w e = bind_at _ a _ f.place ∙ (bind_at _ v _ (read_whole m a v f.value w) ∙ bind_gone _ _ e)

pub move_found : (h : Here) (m : Memory) (p : Place) (a : Addr) (v : Value) (t : Tree) → Finds h m p a v → whole v ≡ true → type_of h p ≡ Some t → read h m (Move p) ≡ Some (v, write m a (blank h.shapes t))
unfolding read
move_found h m p a v t f w e = bind_at _ a _ f.place ∙ (bind_at _ v _ (read_whole m a v f.value w) ∙ bind_at _ t _ e)

-- ---- several operands

-- what is left of them, after the values so far
abbrev pub then_read : List Value → Option (List Value × Memory) → Option (List Value × Memory)
then_read vs o = o >>= λ rs. Some (vs ++ rs.0, rs.1)

pub all_read : (h : Here) (m : Memory) (os : List Operand) → read_all h m os ≡ then_read [] (read_all h m os)
unfolding ◌>>=◌
all_read h m os = go (read_all h m os)
  where
    go : (o : Option (List Value × Memory)) → o ≡ then_read [] o
    go None = refl
    go (Some r) = refl

pub next_gone : (h : Here) (m : Memory) (o : Operand) (os : List Operand) → read h m o ≡ None → read_all h m (o ∷ os) ≡ None
unfolding read_all
next_gone h m o os e = bind_gone _ _ e

pub next_read : (h : Here) (m m' : Memory) (o : Operand) (os : List Operand) (v : Value) (vs : List Value) → read h m o ≡ Some (v, m') → then_read vs (read_all h m (o ∷ os)) ≡ then_read (vs ++ v ∷ []) (read_all h m' os)
unfolding read_all ◌>>=◌
next_read h m m' o os v vs e = rw e (go (read_all h m' os))
  where
    go : (o : Option (List Value × Memory)) → then_read vs (o >>= λ rs. Some (v ∷ rs.0, rs.1)) ≡ then_read (vs ++ v ∷ []) o
    go None = refl
    go (Some r) = ap (λ l. Some (l, r.1)) (sym (append_assoc vs (v ∷ []) r.0))

pub none_left : (h : Here) (m : Memory) (vs : List Value) → then_read vs (read_all h m []) ≡ Some (vs, m)
unfolding read_all ◌>>=◌
none_left h m vs = ap (λ l. Some (l, m)) (append-nil vs)

pub then_gone : (vs : List Value) (o : Option (List Value × Memory)) → o ≡ None → then_read vs o ≡ None
then_gone vs o e = bind_gone o _ e

pub drop_next : (os : List Operand) (i : ℕ) (o : Operand) → i < length os → o ≡ get_or os i o → drop i os ≡ o ∷ drop (i + 1) os
drop_next os i o h e = rw (add-one, drop-cons os i o h) (ap (λ x. x ∷ drop (suc i) os) (sym e))

pub left_gone : (h : Here) (m : Memory) (os : List Operand) (i : ℕ) (o : Operand) (vs : List Value) → i < length os → o ≡ get_or os i o → read h m o ≡ None → then_read vs (read_all h m (drop i os)) ≡ None
left_gone h m os i o vs l e r = then_gone vs _ (ap (read_all h m) (drop_next os i o l e) ∙ next_gone h m o (drop (i + 1) os) r)

pub left_read : (h : Here) (m m' : Memory) (os : List Operand) (i : ℕ) (o : Operand) (vs : List Value) (v : Value) → i < length os → o ≡ get_or os i o → read h m o ≡ Some (v, m')
    → then_read vs (read_all h m (drop i os)) ≡ then_read (vs ++ v ∷ []) (read_all h m' (drop (i + 1) os))
left_read h m m' os i o vs v l e r = ap (λ l. then_read vs (read_all h m l)) (drop_next os i o l e) ∙ next_read h m m' o (drop (i + 1) os) v vs r

pub left_none : (h : Here) (m : Memory) (os : List Operand) (i : ℕ) (vs : List Value) → length os ≤ i → then_read vs (read_all h m (drop i os)) ≡ Some (vs, m)
left_none h m os i vs l = ap (λ l. then_read vs (read_all h m l)) (drop_all i os l) ∙ none_left h m vs

-- ---- numbers

pub parts_number : (d : Datum) (vs : List Datum) → d ≡ Parts vs → None ≡ number_in (value_of d)
parts_number d vs e = sym (ap (λ x. number_in (value_of x)) e ∙ (ap number_in (view_parts vs) ∙ go vs))
  where
    go : (vs : List Datum) → number_in (listed (map value_of vs)) ≡ None
    go [] = refl
    go (v ∷ vs) = refl

pub number_gone : (h : Here) (m : Memory) (o : Operand) → read h m o ≡ None → read_number h m o ≡ None
unfolding read_number
number_gone h m o e = bind_gone _ _ e

pub number_other : (h : Here) (m m' : Memory) (o : Operand) (v : Value) → read h m o ≡ Some (v, m') → number_in v ≡ None → read_number h m o ≡ None
unfolding read_number
number_other h m m' o v e n = bind_at _ (v, m') _ e ∙ bind_gone _ _ n

pub number_read : (h : Here) (m m' : Memory) (o : Operand) (v : Value) (n : ℕ) → read h m o ≡ Some (v, m') → number_in v ≡ Some n → read_number h m o ≡ Some (n, m')
unfolding read_number
number_read h m m' o v n e i = bind_at _ (v, m') _ e ∙ bind_at _ n _ i

-- what a move leaves
pub moved : (m m' : Memory) (a b : Addr) (v w x y : Value) → w ≡ v → b ≡ a → y ≡ x → m' ≡ write m b y → ◌≡◌ {A = Option (Value × Memory)} (Some (v, write m a x)) (Some (w, m'))
moved m m' a b v w x y e f g h = both v w (write m a x) m' (sym e) (sym (h ∙ (ap (λ c. write m c y) f ∙ ap (write m a) g)))
  where
    both : (v w : Value) (m n : Memory) → v ≡ w → m ≡ n → ◌≡◌ {A = Option (Value × Memory)} (Some (v, m)) (Some (w, n))
    both v w m n p q = cc

-- ---- constants

pub const_read : (h : Here) (m : Memory) (k : Constant) → read h m (Const k) ≡ Some (const_value k, m)
unfolding read
const_read h m k = refl

pub const_is : (h : Here) (k : Constant) → scalar_in (const_ty k) ≡ scalar_ty_of h (Const k)
unfolding scalar_ty_of operand_ty ◌>>=◌
const_is h k = refl
