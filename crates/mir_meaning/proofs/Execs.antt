-- What statements do.
use Rattle.std.proofs.Common.{◌≡◌, ℕ, Bool, true, false, ◌&&◌, if◌then◌else◌, nat_eq, List, [], ◌∷◌, map, slice_get, Option, Some, None, refl, sym, ap, ◌∙◌}
use Rattle.std.specs.Option.{option_map}
use Rattle.std.proofs.lemmas.Option.{slice_get-map}
use Rattle.mir_syntax.specs.declared.body.Proj.{Proj}
use Rattle.mir_syntax.specs.declared.body.Proj.TheVariants.{Field, Downcast, Deref}
use Rattle.mir_syntax.specs.declared.body.Place.{Place}
use Rattle.mir_syntax.specs.declared.types.TyId.{TyId}
use Rattle.mir_syntax.specs.Tree.{Tree}
use Rattle.mir_syntax.specs.Crate as typed
use Rattle.mir_syntax.specs.Shapes.{Shape, needs_drop, variant_ty, ◌>>=◌}
use Rattle.mir_semantics.specs.Values.{Addr, Value, number, nil, cons, variant, pointer, hole, blank}
use Rattle.mir_semantics.specs.Memory.{Memory, value_at, write}
use Rattle.mir_syntax.specs.Parts.{has_deref}
use Rattle.mir_semantics.specs.Step.{Here, Dest, resolve, type_of, local_addr, guard_of, dest_of, store, allows, only_if, variant_in, is_variant, set_blank, write_unless, eval, exec}
use Rattle.mir_meaning.specs.Sight.{Misses, Finds}
use Rattle.mir_syntax.proofs.Binds.{bind_at, bind_gone}
use Rattle.mir_meaning.proofs.Binds.{bind_later}

-- ---- guards

pub guard_if : (D : List Shape) (ps : List Proj) (t : Tree) (b d : Bool) → b ≡ has_deref ps → d ≡ needs_drop D t → guard_of D ps t ≡ (if b && d then Some t else None)
unfolding guard_of
guard_if D ps t b d e f = ap (λ x. if x && needs_drop D t then Some t else None) (sym e) ∙ ap (λ x. if b && x then Some t else None) (sym f)

-- ---- assignments

abbrev dest_is : Here → Place → Addr → Tree → Dest
dest_is h p a t = record { addr = a; guard = guard_of h.shapes p.proj t }

pub assign_missed : (h : Here) (m : Memory) (p : Place) (v : Value) → Misses h m p → (dest_of h m p >>= λ d. store h.shapes m d v) ≡ None
unfolding dest_of store ◌>>=◌
assign_missed h m p v e = go (resolve h m p) (type_of h p) e
  where
    after_type : (a : Addr) (ty : Option Tree) → value_at m a ≡ None
        → ((ty >>= λ t. Some (dest_is h p a t)) >>= λ d. store h.shapes m d v) ≡ None
    after_type a None g = refl
    after_type a (Some t) g = bind_gone _ _ g

    go : (o : Option Addr) (ty : Option Tree) → (o >>= value_at m) ≡ None
        → ((o >>= λ a. ty >>= λ t. Some (dest_is h p a t)) >>= λ d. store h.shapes m d v) ≡ None
    go None ty g = refl
    go (Some a) ty g = after_type a ty g

pub assign_untyped : (h : Here) (m : Memory) (p : Place) (a : Addr) (v : Value) → resolve h m p ≡ Some a → type_of h p ≡ None → (dest_of h m p >>= λ d. store h.shapes m d v) ≡ None
unfolding dest_of
assign_untyped h m p a v e t = bind_gone _ _ (bind_at _ a _ e ∙ bind_gone _ _ t)

pub dest_found : (h : Here) (m : Memory) (p : Place) (a : Addr) (t : Tree) → resolve h m p ≡ Some a → type_of h p ≡ Some t → dest_of h m p ≡ Some (record { addr = a; guard = guard_of h.shapes p.proj t })
unfolding dest_of
dest_found h m p a t e f = bind_at _ a _ e ∙ bind_at _ t _ f

pub store_refused : (D : List Shape) (m : Memory) (d : Dest) (old v : Value) → value_at m d.addr ≡ Some old → allows D d.guard old ≡ false → store D m d v ≡ None
unfolding store
store_refused D m d old v e f = bind_at _ old _ e ∙ ap (λ b. only_if b (write m d.addr v)) f

pub store_done : (D : List Shape) (m : Memory) (d : Dest) (old v : Value) → value_at m d.addr ≡ Some old → allows D d.guard old ≡ true → store D m d v ≡ Some (write m d.addr v)
unfolding store
store_done D m d old v e f = bind_at _ old _ e ∙ ap (λ b. only_if b (write m d.addr v)) f

pub store_gone : (D : List Shape) (m : Memory) (d : Dest) (v : Value) → value_at m d.addr ≡ None → store D m d v ≡ None
unfolding store
store_gone D m d v e = bind_gone _ _ e

pub assign_refused : (h : Here) (m : Memory) (p : Place) (a : Addr) (t : Tree) (g : Option Tree) (old v : Value) (b : Bool) → Finds h m p a old → type_of h p ≡ Some t → g ≡ guard_of h.shapes p.proj t → b ≡ allows h.shapes g old → b ≡ false
    → (dest_of h m p >>= λ d. store h.shapes m d v) ≡ None
assign_refused h m p a t g old v b f e k w n =
    let dest : Dest = dest_is h p a t in
    bind_at _ dest (λ d. store h.shapes m d v) (dest_found h m p a t f.place e)
    ∙ store_refused h.shapes m dest old v f.value (ap (λ x. allows h.shapes x old) (sym k) ∙ (sym w ∙ n))

pub assign_done : (h : Here) (m : Memory) (p : Place) (a : Addr) (t : Tree) (g : Option Tree) (old v : Value) (b : Bool) → Finds h m p a old → type_of h p ≡ Some t → g ≡ guard_of h.shapes p.proj t → b ≡ allows h.shapes g old → b ≡ true
    → (dest_of h m p >>= λ d. store h.shapes m d v) ≡ Some (write m a v)
assign_done h m p a t g old v b f e k w n =
    let dest : Dest = dest_is h p a t in
    bind_at _ dest (λ d. store h.shapes m d v) (dest_found h m p a t f.place e)
    ∙ store_done h.shapes m dest old v f.value (ap (λ x. allows h.shapes x old) (sym k) ∙ (sym w ∙ n))

pub exec_gone : (h : Here) (m : Memory) (p : Place) (r : typed.TypedRvalue) → eval h m r ≡ None → exec h m (typed.assign p r) ≡ None
unfolding exec
exec_gone h m p r e = bind_gone _ _ e

pub exec_goes : (h : Here) (m m' : Memory) (p : Place) (r : typed.TypedRvalue) (v : Value) → eval h m r ≡ Some (v, m') → exec h m (typed.assign p r) ≡ (dest_of h m' p >>= λ d. store h.shapes m' d v)
unfolding exec
exec_goes h m m' p r v e = bind_at _ (v, m') _ e

-- ---- storage

pub blank_nowhere : (h : Here) (m : Memory) (x : ℕ) → slice_get h.locals x ≡ None → set_blank h m x ≡ None
unfolding set_blank
blank_nowhere h m x e = bind_gone _ _ e

pub blank_set : (h : Here) (m m' : Memory) (x : ℕ) (t : Tree) (v : Value) → slice_get h.locals x ≡ Some t → v ≡ blank h.shapes t → m' ≡ write m (record { frame = h.frame; local = x; path = [] }) v → set_blank h m x ≡ Some m'
unfolding set_blank local_addr
blank_set h m m' x t v e f g = bind_at _ t _ e ∙ ap Some (sym (g ∙ ap (write m (record { frame = h.frame; local = x; path = [] })) f))

pub live_is : (h : Here) (m : Memory) (x : ℕ) → exec h m (typed.storage_live x) ≡ set_blank h m x
unfolding exec
live_is h m x = refl

pub dead_is : (h : Here) (m : Memory) (x : ℕ) → exec h m (typed.storage_dead x) ≡ set_blank h m x
unfolding exec
dead_is h m x = refl

-- ---- discriminants

pub other_variant : (k : ℕ) (v : Value) → None ≡ variant_in v → false ≡ is_variant k v
other_variant k (number n) h = refl
other_variant k nil h = refl
other_variant k (cons v vs) h = refl
other_variant k (variant j v) h = absurd cc
other_variant k (pointer a) h = refl
other_variant k hole h = refl

pub some_variant : (k j : ℕ) (v : Value) → Some j ≡ variant_in v → nat_eq j k ≡ is_variant k v
some_variant k j (number n) h = absurd cc
some_variant k j nil h = absurd cc
some_variant k j (cons v vs) h = absurd cc
some_variant k j (variant i v) h = let same : j ≡ i = cc in ap (λ x. nat_eq x k) same
some_variant k j (pointer a) h = absurd cc
some_variant k j hole h = absurd cc

pub set_missed : (h : Here) (m : Memory) (p : Place) (k : ℕ) → Misses h m p → exec h m (typed.set_discriminant p k) ≡ None
unfolding exec
set_missed h m p k e = bind_later (resolve h m p) (value_at m) (λ a v. type_of h p >>= λ t. variant_ty h.shapes t k >>= λ fields. Some (write_unless (is_variant k v) m a (variant k (blank h.shapes fields)))) e

pub set_untyped : (h : Here) (m : Memory) (p : Place) (k : ℕ) (a : Addr) (v : Value) → Finds h m p a v → type_of h p ≡ None → exec h m (typed.set_discriminant p k) ≡ None
unfolding exec
set_untyped h m p k a v f e = bind_at _ a _ f.place ∙ (bind_at _ v _ f.value ∙ bind_gone _ _ e)

pub set_nowhere : (h : Here) (m : Memory) (p : Place) (k : ℕ) (a : Addr) (v : Value) (t : Tree) → Finds h m p a v → type_of h p ≡ Some t → variant_ty h.shapes t k ≡ None → exec h m (typed.set_discriminant p k) ≡ None
unfolding exec
set_nowhere h m p k a v t f e g = bind_at _ a _ f.place ∙ (bind_at _ v _ f.value ∙ (bind_at _ t _ e ∙ bind_gone _ _ g))

set_found : (h : Here) (m : Memory) (p : Place) (k : ℕ) (a : Addr) (v : Value) (t u : Tree) → Finds h m p a v → type_of h p ≡ Some t → variant_ty h.shapes t k ≡ Some u
    → exec h m (typed.set_discriminant p k) ≡ Some (write_unless (is_variant k v) m a (variant k (blank h.shapes u)))
unfolding exec
set_found h m p k a v t u f e g = bind_at _ a _ f.place ∙ (bind_at _ v _ f.value ∙ (bind_at _ t _ e ∙ bind_at _ u _ g))

pub set_same : (h : Here) (m : Memory) (p : Place) (k : ℕ) (a : Addr) (v : Value) (t u : Tree) (b : Bool) → Finds h m p a v → type_of h p ≡ Some t → variant_ty h.shapes t k ≡ Some u → b ≡ is_variant k v → b ≡ true
    → exec h m (typed.set_discriminant p k) ≡ Some m
unfolding write_unless
set_same h m p k a v t u b f e g w n = set_found h m p k a v t u f e g ∙ ap (λ x. Some (write_unless x m a (variant k (blank h.shapes u)))) (sym w ∙ n)

pub set_new : (h : Here) (m m' : Memory) (p : Place) (k : ℕ) (a c : Addr) (v w : Value) (t u : Tree) (b : Bool) → Finds h m p a v → type_of h p ≡ Some t → variant_ty h.shapes t k ≡ Some u → b ≡ is_variant k v → b ≡ false
    → c ≡ a → w ≡ variant k (blank h.shapes u) → m' ≡ write m c w → exec h m (typed.set_discriminant p k) ≡ Some m'
unfolding write_unless
set_new h m m' p k a c v w t u b f e g i n x y z =
    set_found h m p k a v t u f e g ∙ (ap (λ x. Some (write_unless x m a (variant k (blank h.shapes u)))) (sym i ∙ n)
    ∙ ap Some (sym (z ∙ (ap (λ q. write m q w) x ∙ ap (write m a) y))))

pub put_there : (m m' : Memory) (a b : Addr) (v : Value) → b ≡ a → m' ≡ write m b v → Some (write m a v) ≡ Some m'
put_there m m' a b v e f = ap Some (sym (f ∙ ap (λ c. write m c v) e))

pub local_type : (f : TyId → Tree) (locals : List TyId) (x : ℕ) (o : Option TyId) → slice_get locals x ≡ o → slice_get (map f locals) x ≡ option_map f o
local_type f locals x o e = slice_get-map f locals x ∙ ap (option_map f) e
