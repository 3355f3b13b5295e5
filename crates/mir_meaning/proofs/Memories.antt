-- The frames that live, as they are seen.
use Rattle.std.proofs.Common.{◌≡◌, ℕ, zero, suc, nat_eq, if◌then◌else◌, true, false, ◌≤◌, List, [], ◌∷◌, ◌++◌, map, length, take, drop, get_or, slice_get, Option, Some, None, Bor, option_copied, refl, sym, ap, ◌∙◌, arith}
use Rattle.std.specs.Option.{option_map}
use Rattle.std.proofs.Math.ListN.{set}
use Rattle.std.proofs.lemmas.Option.{slice_get-map, get_or_from_slice_get}
use Rattle.mir_meaning.proofs.Values.{unwritten, written}
use Rattle.mir_syntax.specs.Shapes.{◌>>=◌}
use Rattle.mir_semantics.specs.Values as sem_values
use Rattle.mir_semantics.specs.Values.{Value, Addr, at_path}
use Rattle.mir_semantics.specs.Memory as sem
use Rattle.mir_semantics.specs.Memory.{slots_of, local_at, value_at, change_slot, change_local, write, open_frame}
use Rattle.mir_meaning.specs.declared.datum.Datum.{Datum}
use Rattle.mir_meaning.specs.declared.memory.Store.{Store}
use Rattle.mir_meaning.specs.Views.{value_of, store_of, memory_from}
use Rattle.mir_meaning.specs.Newest.{IsNewest, NoneHas}

abbrev same_store : ℕ → List Value → sem.Store
same_store f vs = record { frame = f; slots = vs }

eq_true : (a b : ℕ) → a ≡ b → nat_eq a b ≡ true
eq_true a b e = grind arith

eq_false : (a b : ℕ) → (a ≡ b → ⊥) → nat_eq a b ≡ false
eq_false a b e = grind arith

-- ---- the locals of a frame

pub slots_none : (ss : List Store) (m : sem.Memory) (f : ℕ) → NoneHas ss f → slots_of (memory_from ss m) f ≡ slots_of m f
slots_none [] m f h = refl
slots_none (s ∷ ss) m f h =
    slots_none ss (store_of s ∷ m) f (λ k x e. h (suc k) x e) ∙ ap (λ b. if b then Some (map value_of s.slots) else slots_of m f) (eq_false s.frame f (h zero s refl))

pub slots_at : (ss : List Store) (m : sem.Memory) (f i : ℕ) (h : IsNewest ss f i) → slots_of (memory_from ss m) f ≡ Some (map value_of h.store.slots)
slots_at [] m f i h = absurd (none h.there)
  where
    none : None ≡ Some h.store → ⊥
    none e = cc
slots_at (s ∷ ss) m f zero h =
    let same : s ≡ h.store = one h.there in
    slots_none ss (store_of s ∷ m) f (λ k x e. h.later (suc k) x (omega arith) e) ∙ (ap (λ b. if b then Some (map value_of s.slots) else slots_of m f) (eq_true s.frame f (ap (λ x. x.frame) same ∙ h.same)) ∙ ap (λ x. Some (map value_of x.slots)) same)
  where
    one : Some s ≡ Some h.store → s ≡ h.store
    one e = cc
slots_at (s ∷ ss) m f (suc i) h =
    slots_at ss (store_of s ∷ m) f i (record { store = h.store; there = h.there; same = h.same; later = λ k x b e. h.later (suc k) x (omega arith) e })

-- ---- writes

pub change_none : (ss : List Store) (m : sem.Memory) (f x : ℕ) (g : Value → Value) → NoneHas ss f → change_local (memory_from ss m) f x g ≡ memory_from ss (change_local m f x g)
change_none [] m f x g h = refl
change_none (s ∷ ss) m f x g h =
    change_none ss (store_of s ∷ m) f x g (λ k y e. h (suc k) y e)
    ∙ ap (λ b. memory_from ss (if b then record { frame = s.frame; slots = change_slot x g (map value_of s.slots) } ∷ m else store_of s ∷ change_local m f x g)) (eq_false s.frame f (h zero s refl))

pub change_at : (ss : List Store) (m : sem.Memory) (f i x : ℕ) (g : Value → Value) (h : IsNewest ss f i) (new : Store) → new.frame ≡ h.store.frame → map value_of new.slots ≡ change_slot x g (map value_of h.store.slots)
    → memory_from (set ss i new) m ≡ change_local (memory_from ss m) f x g
change_at [] m f i x g h new a b = absurd (none h.there)
  where
    none : None ≡ Some h.store → ⊥
    none e = cc
change_at (s ∷ ss) m f zero x g h new a b =
    let same : s ≡ h.store = one h.there in
    sym (change_none ss (store_of s ∷ m) f x g (λ k y e. h.later (suc k) y (omega arith) e)
    ∙ (ap (λ t. memory_from ss (if t then record { frame = s.frame; slots = change_slot x g (map value_of s.slots) } ∷ m else store_of s ∷ change_local m f x g)) (eq_true s.frame f (ap (λ y. y.frame) same ∙ h.same))
    ∙ ap (λ y. memory_from ss (y ∷ m)) (stores (ap (λ y. y.frame) same ∙ sym a) (ap (λ y. change_slot x g (map value_of y.slots)) same ∙ sym b))))
  where
    one : Some s ≡ Some h.store → s ≡ h.store
    one e = cc

    stores : s.frame ≡ new.frame → change_slot x g (map value_of s.slots) ≡ map value_of new.slots → same_store s.frame (change_slot x g (map value_of s.slots)) ≡ store_of new
    stores p q = cc
change_at (s ∷ ss) m f (suc i) x g h new a b =
    change_at ss (store_of s ∷ m) f i x g (record { store = h.store; there = h.there; same = h.same; later = λ k y c e. h.later (suc k) y (omega arith) e }) new a b

-- ---- frames that open

pub memory_push : (ss : List Store) (m : sem.Memory) (s : Store) → memory_from (ss ++ s ∷ []) m ≡ store_of s ∷ memory_from ss m
memory_push [] m s = refl
memory_push (x ∷ ss) m s = memory_push ss (store_of x ∷ m) s

pub opened : (ss : List Store) (s : Store) → memory_from (ss ++ s ∷ []) [] ≡ open_frame (memory_from ss []) s.frame (map value_of s.slots)
unfolding open_frame
opened ss s = memory_push ss [] s

-- ---- what stands at an address

pub local_none : (ss slice : List Store) (f x : ℕ) → slice ≡ ss → NoneHas slice f → None ≡ local_at (memory_from ss []) f x
unfolding local_at ◌>>=◌
local_none ss slice f x e h = rw (← e) (sym (ap (λ o. o >>= λ vs. slice_get vs x) (slots_none slice [] f h)))

read_newest : (slice : List Store) (f i : ℕ) (d : Store) (h : IsNewest slice f i) → get_or slice i d ≡ h.store
read_newest slice f i d h = get_or_from_slice_get slice i h.store d h.there

pub local_read : (ss slice : List Store) (f i x : ℕ) (r : Store) (o : Option (Bor Datum)) → slice ≡ ss → IsNewest slice f i → option_copied o ≡ slice_get (get_or slice i r).slots x
    → option_map value_of (option_copied o) ≡ local_at (memory_from ss []) f x
unfolding local_at ◌>>=◌
local_read ss slice f i x r o e h g =
    let same : get_or slice i r ≡ h.store = read_newest slice f i r h in
    rw (← e) (ap (option_map value_of) (g ∙ ap (λ t. slice_get t.slots x) same) ∙ (sym (slice_get-map value_of h.store.slots x) ∙ sym (ap (λ o. o >>= λ vs. slice_get vs x) (slots_at slice [] f i h))))

pub at_none : (m : sem.Memory) (a : Addr) → None ≡ local_at m a.frame a.local → None ≡ value_at m a
unfolding value_at ◌>>=◌
at_none m a e = ap (λ o. o >>= at_path a.path) e

pub at_some : (m : sem.Memory) (a : Addr) (v : Value) (o : Option Value) → Some v ≡ local_at m a.frame a.local → o ≡ at_path a.path v → o ≡ value_at m a
unfolding value_at ◌>>=◌
at_some m a v o e h = h ∙ ap (λ o. o >>= at_path a.path) e

-- ---- a slot that changes

pub slots_set : (vs : List Datum) (x : ℕ) (g : Value → Value) (old new : Datum) → slice_get vs x ≡ Some old → value_of new ≡ g (value_of old) → map value_of (set vs x new) ≡ change_slot x g (map value_of vs)
slots_set [] x g old new h e = absurd cc
slots_set (v ∷ vs) zero g old new h e = let o : v ≡ old = cc in ap (λ w. w ∷ map value_of vs) (e ∙ ap (λ d. g (value_of d)) (sym o))
slots_set (v ∷ vs) (suc x) g old new h e = ap (λ l. value_of v ∷ l) (slots_set vs x g old new h e)

pub slots_past : (vs : List Datum) (x : ℕ) (g : Value → Value) → length vs ≤ x → change_slot x g (map value_of vs) ≡ map value_of vs
slots_past [] zero g h = refl
slots_past [] (suc x) g h = refl
slots_past (v ∷ vs) zero g h = absurd (omega arith)
slots_past (v ∷ vs) (suc x) g h = ap (λ l. value_of v ∷ l) (slots_past vs x g (omega arith))

pub write_none : (ss slice : List Store) (a : Addr) (w : Value) → slice ≡ ss → NoneHas slice a.frame → memory_from (take (length ss) (slice ++ drop (length slice) ss)) [] ≡ write (memory_from ss []) a w
unfolding write
write_none ss slice a w e h = ap (λ l. memory_from l []) (unwritten ss slice e) ∙ rw (← e) (sym (change_none slice [] a.frame a.local (sem_values.put a.path w) h))

pub write_at : (ss slice : List Store) (a : Addr) (w : Value) (i : ℕ) (r new : Store) → slice ≡ ss → IsNewest slice a.frame i → new.frame ≡ (get_or slice i r).frame
    → map value_of new.slots ≡ change_slot a.local (sem_values.put a.path w) (map value_of (get_or slice i r).slots)
    → memory_from (take (length ss) (set slice i new ++ drop (length (set slice i new)) ss)) [] ≡ write (memory_from ss []) a w
unfolding write
write_at ss slice a w i r new e h p q =
    let same : get_or slice i r ≡ h.store = read_newest slice a.frame i r h in
    ap (λ l. memory_from l []) (written ss slice i new e)
    ∙ rw (← e) (change_at slice [] a.frame i a.local (sem_values.put a.path w) h new (p ∙ ap (λ s. s.frame) same) (q ∙ ap (λ s. change_slot a.local (sem_values.put a.path w) (map value_of s.slots)) same))
