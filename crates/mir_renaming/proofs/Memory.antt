-- Values, places and memories under a renaming of locals.
use Rattle.std.proofs.Common.{◌≡◌, ◌⊎◌, inl, inr, refl, sym, ap, ap₂, ◌∙◌, subst, ℕ, zero, suc, Bool, true, false, nat_eq, if◌then◌else◌, List, [], ◌∷◌, ◌++◌, Option, Some, None, slice_get, option_map, arith}
use Rattle.std.proofs.lemmas.Bool.{eqb-true, eqb-false, and_parts, and_from}
use Rattle.mir_syntax.specs.declared.body.Proj.{Proj}
use Rattle.mir_syntax.specs.declared.body.Proj.TheVariants.{Field, Downcast, Deref}
use Rattle.mir_syntax.specs.Shapes.{◌>>=◌}
use Rattle.mir_syntax.proofs.Binds.{bind_some, some_bind}
use Rattle.mir_syntax.proofs.Bools.{if_true}
use Rattle.mir_semantics.specs.Values.{Addr, Value, number, nil, cons, variant, pointer, hole, whole, part, payload, inner, at_path, change_part, change_payload, change_inner, put}
use Rattle.mir_semantics.specs.Memory.{Memory, slots_of, local_at, value_at, change_slot, change_local, write, further, there, referent, project, walk}
use Rattle.mir_renaming.specs.Renaming.{Renaming, AddrRel, ValueRel, SomeRel, Sub, MemRel, AddrThere, RootOf, NoClash}

part_rel : (j : Renaming) (i : ℕ) (v w u : Value) → ValueRel j v w → part i v ≡ Some u → SomeRel j u (part i w)
part_rel j zero (cons v vs) (cons w ws) u h e = (w, refl, subst (λ x. ValueRel j x w) (grind arith) h.0)
part_rel j (suc i) (cons v vs) (cons w ws) u h e = part_rel j i vs ws u h.1 e
part_rel j i v w u h e = absurd (grind arith)

pub same_or_not : (a b : ℕ) → ((nat_eq a b ≡ true) × (a ≡ b)) ⊎ ((nat_eq a b ≡ false) × (a ≡ b → ⊥))
same_or_not a b = go (nat_eq a b) refl
  where
    go : (x : Bool) → nat_eq a b ≡ x → ((nat_eq a b ≡ true) × (a ≡ b)) ⊎ ((nat_eq a b ≡ false) × (a ≡ b → ⊥))
    go true e = inl (e, eqb-true a b e)
    go false e = inr (e, eqb-false a b e)

payload_rel : (j : Renaming) (k : ℕ) (v w u : Value) → ValueRel j v w → payload k v ≡ Some u → SomeRel j u (payload k w)
payload_rel j k (variant i v) (variant i' w) u h e = go (nat_eq i k) refl e
  where
    go : (b : Bool) → nat_eq i k ≡ b → (if b then Some v else None) ≡ Some u → SomeRel j u (if nat_eq i' k then Some w else None)
    go true f e' = (w, subst (λ i. (if nat_eq i k then Some w else None) ≡ Some w) h.0 (if_true (Some w) None f), subst (λ x. ValueRel j x w) (grind arith) h.1)
    go false f e' = absurd (grind arith)
payload_rel j k v w u h e = absurd (grind arith)

inner_rel : (j : Renaming) (p : Proj) (v w u : Value) → ValueRel j v w → inner p v ≡ Some u → SomeRel j u (inner p w)
inner_rel j (Field i) v w u h e = part_rel j i v w u h e
inner_rel j (Downcast k) v w u h e = payload_rel j k v w u h e
inner_rel j Deref v w u h e = absurd (grind arith)

pub at_path_rel : (j : Renaming) (ps : List Proj) (v w u : Value) → ValueRel j v w → at_path ps v ≡ Some u → SomeRel j u (at_path ps w)
at_path_rel j [] v w u h e = (w, refl, subst (λ x. ValueRel j x w) (grind arith) h)
at_path_rel j (p ∷ ps) v w u h e =
    let (x, e1, e2) = bind_some e in
    let (y, f1, h1) = inner_rel j p v w x h e1 in
    let (z, f2, h2) = at_path_rel j ps x y u h1 e2 in
    (z, some_bind _ f1 f2, h2)

-- a change that keeps the relation, at related values
abbrev Keeps : Renaming → (Value → Value) → (Value → Value) → Type 0
Keeps j f g = (v w : Value) → ValueRel j v w → ValueRel j (f v) (g w)

change_part_rel : (j : Renaming) (i : ℕ) (f g : Value → Value) → Keeps j f g → (v w : Value) → ValueRel j v w → ValueRel j (change_part i f v) (change_part i g w)
change_part_rel j zero f g k (cons v vs) (cons w ws) h = (k v w h.0, h.1)
change_part_rel j zero f g k hole w h = tt
change_part_rel j zero f g k nil nil h = tt
change_part_rel j zero f g k (number n) (number m) h = h
change_part_rel j zero f g k (variant n v) (variant m w) h = h
change_part_rel j zero f g k (pointer a) (pointer b) h = h
change_part_rel j (suc i) f g k (cons v vs) (cons w ws) h = (h.0, change_part_rel j i f g k vs ws h.1)
change_part_rel j (suc i) f g k hole w h = tt
change_part_rel j (suc i) f g k nil nil h = tt
change_part_rel j (suc i) f g k (number n) (number m) h = h
change_part_rel j (suc i) f g k (variant n v) (variant m w) h = h
change_part_rel j (suc i) f g k (pointer a) (pointer b) h = h
change_part_rel j i f g k v w h = absurd h

change_payload_rel : (j : Renaming) (k : ℕ) (f g : Value → Value) → Keeps j f g → (v w : Value) → ValueRel j v w → ValueRel j (change_payload k f v) (change_payload k g w)
change_payload_rel j k f g keeps (variant i v) (variant i' w) h = (h.0, go (nat_eq i k) (nat_eq i' k) (ap (λ x. nat_eq x k) h.0))
  where
    go : (b b' : Bool) → b ≡ b' → ValueRel j (if b then f v else v) (if b' then g w else w)
    go true true e = keeps v w h.1
    go false false e = h.1
    go true false e = absurd (grind arith)
    go false true e = absurd (grind arith)
change_payload_rel j k f g keeps hole w h = tt
change_payload_rel j k f g keeps nil nil h = tt
change_payload_rel j k f g keeps (number n) (number m) h = h
change_payload_rel j k f g keeps (cons v vs) (cons w ws) h = h
change_payload_rel j k f g keeps (pointer a) (pointer b) h = h
change_payload_rel j k f g keeps v w h = absurd h

change_inner_rel : (j : Renaming) (p : Proj) (f g : Value → Value) → Keeps j f g → Keeps j (change_inner p f) (change_inner p g)
change_inner_rel j (Field i) f g k v w h = change_part_rel j i f g k v w h
change_inner_rel j (Downcast i) f g k v w h = change_payload_rel j i f g k v w h
change_inner_rel j Deref f g k v w h = h

pub put_rel : (j : Renaming) (ps : List Proj) (v w : Value) → ValueRel j v w → Keeps j (put ps v) (put ps w)
put_rel j [] v w h v' w' h' = h
put_rel j (p ∷ ps) v w h v' w' h' = change_inner_rel j p (put ps v) (put ps w) (put_rel j ps v w h) v' w' h'

pub whole_rel : (j : Renaming) (v w : Value) → ValueRel j v w → whole v ≡ true → whole w ≡ true
whole_rel j (number n) (number m) h e = refl
whole_rel j nil nil h e = refl
whole_rel j (cons v vs) (cons w ws) h e =
    let (a, b) = and_parts (whole v) (whole vs) e in
    and_from (whole w) (whole ws) (whole_rel j v w h.0 a) (whole_rel j vs ws h.1 b)
whole_rel j (variant k v) (variant i w) h e = whole_rel j v w h.1 e
whole_rel j (pointer a) (pointer b) h e = refl
whole_rel j v w h e = absurd (grind arith)

pub sub_addr : (K L : Renaming) → Sub K L → (a b : Addr) → AddrRel K a b → AddrRel L a b
sub_addr K L h a b r = record { root = h a.frame a.local _ r.root; path = r.path }

pub value_at_rel : (j L : Renaming) (m2 m1 : Memory) → MemRel j L m2 m1 → (a b : Addr) → AddrRel L a b → (v : Value) → value_at m1 a ≡ Some v → SomeRel j v (value_at m2 b)
unfolding value_at
value_at_rel j L m2 m1 r a b h v e =
    let (x, e1, e2) = bind_some e in
    let (y, f1, h1) = r.at a.frame a.local b.frame b.local h.root x e1 in
    let (z, f2, h2) = at_path_rel j a.path x y v h1 e2 in
    (z, some_bind _ f1 (subst (λ p. at_path p y ≡ Some z) h.path f2), h2)

pub further_rel : (j : Renaming) (a b : Addr) (p : Proj) → AddrRel j a b → AddrRel j (further a p) (further b p)
further_rel j a b p h = record { root = h.root; path = ap (λ q. q ++ p ∷ []) h.path }

pub referent_rel : (j : Renaming) (v w : Value) (a : Addr) → ValueRel j v w → referent v ≡ Some a → AddrThere j a (referent w)
referent_rel j (pointer a') (pointer b) a h e = (b, refl, subst (λ x. AddrRel j x b) (grind arith) h)
referent_rel j v w a h e = absurd (grind arith)

-- places: K is between what references stand for and what is related now
module _ (j K L : Renaming) (low : Sub j K) (high : Sub K L) (m2 m1 : Memory) (r : MemRel j L m2 m1) where
  pub there_rel : (a b c : Addr) → AddrRel K a b → there (value_at m1 a) a ≡ Some c → AddrThere K c (there (value_at m2 b) b)
  there_rel a b c h e = go (value_at m1 a) refl e
    where
      go : (o : Option Value) → value_at m1 a ≡ o → there o a ≡ Some c → AddrThere K c (there (value_at m2 b) b)
      go None f e' = absurd (grind arith)
      go (Some v) f e' =
          let (w, g, _) = value_at_rel j L m2 m1 r a b (sub_addr K L high a b h) v f in
          (b, ap (λ o. there o b) g, subst (λ x. AddrRel K x b) (grind arith) h)

  project_rel : (a b c : Addr) (p : Proj) → AddrRel K a b → project m1 a p ≡ Some c → AddrThere K c (project m2 b p)
  unfolding project
  project_rel a b c (Field i) h e = there_rel _ _ c (further_rel K a b (Field i) h) e
  project_rel a b c (Downcast k) h e = there_rel _ _ c (further_rel K a b (Downcast k) h) e
  project_rel a b c Deref h e =
      let (a', e1, e4) = bind_some e in
      let (v, e2, e3) = bind_some e1 in
      let (w, f1, h1) = value_at_rel j L m2 m1 r a b (sub_addr K L high a b h) v e2 in
      let (b', f3, h3) = referent_rel j v w a' h1 e3 in
      let (c', f4, h4) = there_rel a' b' c (sub_addr j K low a' b' h3) e4 in
      (c', some_bind _ (some_bind _ f1 f3) f4, h4)

  pub walk_rel : (ps : List Proj) (a b c : Addr) → AddrRel K a b → walk m1 a ps ≡ Some c → AddrThere K c (walk m2 b ps)
  unfolding walk
  walk_rel [] a b c h e = (b, refl, subst (λ x. AddrRel K x b) (grind arith) h)
  walk_rel (p ∷ ps) a b c h e =
      let (a', e1, e2) = bind_some e in
      let (b', f1, h1) = project_rel a b a' p h e1 in
      let (c', f2, h2) = walk_rel ps a' b' c h1 e2 in
      (c', some_bind _ f1 f2, h2)

-- changes of memory
change_slot_same : (x : ℕ) (g : Value → Value) (vs : List Value) → slice_get (change_slot x g vs) x ≡ option_map g (slice_get vs x)
change_slot_same zero g [] = refl
change_slot_same (suc x) g [] = refl
change_slot_same zero g (u ∷ vs) = refl
change_slot_same (suc x) g (u ∷ vs) = change_slot_same x g vs

change_slot_other : (x y : ℕ) (g : Value → Value) (vs : List Value) → (y ≡ x → ⊥) → slice_get (change_slot x g vs) y ≡ slice_get vs y
change_slot_other zero y g [] ne = refl
change_slot_other (suc x) y g [] ne = refl
change_slot_other zero zero g (u ∷ vs) ne = absurd (ne refl)
change_slot_other zero (suc y) g (u ∷ vs) ne = refl
change_slot_other (suc x) zero g (u ∷ vs) ne = refl
change_slot_other (suc x) (suc y) g (u ∷ vs) ne = change_slot_other x y g vs (λ e. ne (ap suc e))

pub change_local_same : (m : Memory) (f x : ℕ) (g : Value → Value) → local_at (change_local m f x g) f x ≡ option_map g (local_at m f x)
unfolding local_at ◌>>=◌
change_local_same [] f x g = refl
change_local_same (s ∷ m) f x g = go (change_local_same m f x g) (nat_eq s.frame f) refl
  where
    go : local_at (change_local m f x g) f x ≡ option_map g (local_at m f x) → (b : Bool) → nat_eq s.frame f ≡ b → local_at (if b then record { frame = s.frame; slots = change_slot x g s.slots } ∷ m else s ∷ change_local m f x g) f x ≡ option_map g ((if b then Some s.slots else slots_of m f) >>= λ vs. slice_get vs x)
    go ih true n = rw n (change_slot_same x g s.slots)
    go ih false n = rw n ih

pub change_local_other : (m : Memory) (f x f' x' : ℕ) (g : Value → Value) → (f' ≡ f → x' ≡ x → ⊥) → local_at (change_local m f x g) f' x' ≡ local_at m f' x'
unfolding local_at ◌>>=◌
change_local_other [] f x f' x' g ne = refl
change_local_other (s ∷ m) f x f' x' g ne = go (change_local_other m f x f' x' g ne) (nat_eq s.frame f) refl
  where
    here : (b : Bool) → nat_eq s.frame f' ≡ b → s.frame ≡ f → ((if b then Some (change_slot x g s.slots) else slots_of m f') >>= λ vs. slice_get vs x') ≡ ((if b then Some s.slots else slots_of m f') >>= λ vs. slice_get vs x')
    here true n e = change_slot_other x x' g s.slots (ne (sym (eqb-true s.frame f' n) ∙ e))
    here false n e = refl

    skip : (b : Bool) → local_at (change_local m f x g) f' x' ≡ local_at m f' x' → ((if b then Some s.slots else slots_of (change_local m f x g) f') >>= λ vs. slice_get vs x') ≡ ((if b then Some s.slots else slots_of m f') >>= λ vs. slice_get vs x')
    skip true ih = refl
    skip false ih = ih

    go : local_at (change_local m f x g) f' x' ≡ local_at m f' x' → (b : Bool) → nat_eq s.frame f ≡ b → local_at (if b then record { frame = s.frame; slots = change_slot x g s.slots } ∷ m else s ∷ change_local m f x g) f' x' ≡ local_at (s ∷ m) f' x'
    go ih true n = here (nat_eq s.frame f') refl (eqb-true s.frame f n)
    go ih false n = skip (nat_eq s.frame f') ih

pub root_or_not : (a : Addr) (f x : ℕ) → RootOf a f x ⊎ (f ≡ a.frame → x ≡ a.local → ⊥)
root_or_not a f x = go (same_or_not f a.frame) (same_or_not x a.local)
  where
    go : ((nat_eq f a.frame ≡ true) × (f ≡ a.frame)) ⊎ ((nat_eq f a.frame ≡ false) × (f ≡ a.frame → ⊥)) → ((nat_eq x a.local ≡ true) × (x ≡ a.local)) ⊎ ((nat_eq x a.local ≡ false) × (x ≡ a.local → ⊥)) → RootOf a f x ⊎ (f ≡ a.frame → x ≡ a.local → ⊥)
    go (inl e) (inl d) = inl (e.1, d.1)
    go (inl e) (inr n) = inr (λ p q. n.1 q)
    go (inr n) d = inr (λ p q. n.1 p)

pub write_same : (m : Memory) (a : Addr) (v : Value) (f x : ℕ) → RootOf a f x → local_at (write m a v) f x ≡ option_map (put a.path v) (local_at m f x)
unfolding write
write_same m a v f x (e, d) = rw (e, d) (change_local_same m a.frame a.local (put a.path v))

pub write_other : (m : Memory) (a : Addr) (v : Value) (f x : ℕ) → (f ≡ a.frame → x ≡ a.local → ⊥) → local_at (write m a v) f x ≡ local_at m f x
unfolding write
write_other m a v f x ne = change_local_other m a.frame a.local f x (put a.path v) ne

-- the same write to memories that agree at a local
pub write_alike : (m m' : Memory) (a : Addr) (v : Value) (f x : ℕ) → local_at m' f x ≡ local_at m f x → local_at (write m' a v) f x ≡ local_at (write m a v) f x
write_alike m m' a v f x e = go (root_or_not a f x)
  where
    go : RootOf a f x ⊎ (f ≡ a.frame → x ≡ a.local → ⊥) → local_at (write m' a v) f x ≡ local_at (write m a v) f x
    go (inl r) = write_same m' a v f x r ∙ ap (option_map (put a.path v)) e ∙ sym (write_same m a v f x r)
    go (inr n) = write_other m' a v f x n ∙ e ∙ sym (write_other m a v f x n)

-- what stands after a write stood before it
pub write_back : (m : Memory) (a : Addr) (v : Value) (f x : ℕ) (u : Value) → local_at (write m a v) f x ≡ Some u → (o : Value) × (local_at m f x ≡ Some o)
write_back m a v f x u e = go (root_or_not a f x)
  where
    mapped : (g : Value → Value) (o : Option Value) → local_at m f x ≡ o → option_map g o ≡ Some u → (o : Value) × (local_at m f x ≡ Some o)
    mapped g None h k = absurd (grind arith)
    mapped g (Some o) h k = (o, h)

    go : RootOf a f x ⊎ (f ≡ a.frame → x ≡ a.local → ⊥) → (o : Value) × (local_at m f x ≡ Some o)
    go (inl h) = mapped (put a.path v) (local_at m f x) refl (sym (write_same m a v f x h) ∙ e)
    go (inr n) = (u, sym (write_other m a v f x n) ∙ e)

pub same_pair : (g y g' y' : ℕ) → ◌≡◌ {A = Option (ℕ × ℕ)} (Some (g, y)) (Some (g', y')) → (g ≡ g') × (y ≡ y')
same_pair g y g' y' e = (ap first e, ap second e)
  where
    first : Option (ℕ × ℕ) → ℕ
    first None = 0
    first (Some p) = p.0

    second : Option (ℕ × ℕ) → ℕ
    second None = 0
    second (Some p) = p.1

-- related writes
pub write_rel : (j L : Renaming) (m2 m1 : Memory) (a b : Addr) (v w : Value) → MemRel j L m2 m1 → AddrRel L a b → ValueRel j v w → NoClash L m1 a b → MemRel j L (write m2 b w) (write m1 a v)
write_rel j L m2 m1 a b v w r h hv nc = record { at = λ f x g y l u e. go f x g y l u e (root_or_not a f x) }
  where
    same : (f x g y : ℕ) (u : Value) → L f x ≡ Some (g, y) → RootOf a f x → (o : Option Value) → local_at m1 f x ≡ o → option_map (put a.path v) o ≡ Some u → SomeRel j u (local_at (write m2 b w) g y)
    same f x g y u l h' None e k = absurd (grind arith)
    same f x g y u l h' (Some o) e k =
        let (o2, f2, r2) = r.at f x g y l o e in
        let to_b : RootOf b g y = same_pair g y b.frame b.local (sym l ∙ ap₂ L h'.0 h'.1 ∙ h.root) in
        let k' : put a.path v o ≡ u = grind arith in
        (put b.path w o2, write_same m2 b w g y to_b ∙ ap (λ x. option_map (put b.path w) x) f2, subst (λ x. ValueRel j x (put b.path w o2)) k' (subst (λ p. ValueRel j (put a.path v o) (put p w o2)) h.path (put_rel j a.path v w hv o o2 r2)))

    go : (f x g y : ℕ) → L f x ≡ Some (g, y) → (u : Value) → local_at (write m1 a v) f x ≡ Some u → RootOf a f x ⊎ (f ≡ a.frame → x ≡ a.local → ⊥) → SomeRel j u (local_at (write m2 b w) g y)
    go f x g y l u e (inl h') = same f x g y u l h' (local_at m1 f x) refl (sym (write_same m1 a v f x h') ∙ e)
    go f x g y l u e (inr n) =
        let e' = sym (write_other m1 a v f x n) ∙ e in
        let (u2, f2, r2) = r.at f x g y l u e' in
        let ne : g ≡ b.frame → y ≡ b.local → ⊥ = λ p q. (let c = nc f x u (l ∙ ap₂ (λ s t. Some (s, t)) p q) e' in n c.0 c.1) in
        (u2, write_other m2 b w g y ne ∙ f2, r2)

-- a write of the target alone, to a local that stands for none
pub write_target : (j L : Renaming) (m2 m1 : Memory) (b : Addr) (w : Value) → MemRel j L m2 m1 → ((f x : ℕ) (u : Value) → L f x ≡ Some (b.frame, b.local) → local_at m1 f x ≡ Some u → ⊥) → MemRel j L (write m2 b w) m1
write_target j L m2 m1 b w r free = record { at = λ f x g y l u e. (let (u2, f2, r2) = r.at f x g y l u e in (u2, write_other m2 b w g y (λ p q. free f x u (l ∙ ap₂ (λ s t. Some (s, t)) p q) e) ∙ f2, r2)) }

-- a write of the source alone, to a local that isn't related now
pub write_source : (j L : Renaming) (m2 m1 : Memory) (a : Addr) (v : Value) → MemRel j L m2 m1 → L a.frame a.local ≡ None → MemRel j L m2 (write m1 a v)
write_source j L m2 m1 a v r none = record { at = λ f x g y l u e. go f x g y l u e (root_or_not a f x) }
  where
    go : (f x g y : ℕ) → L f x ≡ Some (g, y) → (u : Value) → local_at (write m1 a v) f x ≡ Some u → RootOf a f x ⊎ (f ≡ a.frame → x ≡ a.local → ⊥) → SomeRel j u (local_at m2 g y)
    go f x g y l u e (inl h) = absurd (let k = sym none ∙ ap₂ L (sym h.0) (sym h.1) ∙ l in grind arith)
    go f x g y l u e (inr n) = r.at f x g y l u (sym (write_other m1 a v f x n) ∙ e)

-- fewer locals
pub fewer : (j L L' : Renaming) (m2 m1 : Memory) → Sub L' L → MemRel j L m2 m1 → MemRel j L' m2 m1
fewer j L L' m2 m1 s r = record { at = λ f x g y l v e. r.at f x g y (s f x _ l) v e }

-- to put back what is there changes nothing
change_part_same : (i : ℕ) (f : Value → Value) (v u : Value) → part i v ≡ Some u → f u ≡ u → change_part i f v ≡ v
change_part_same zero f (cons v vs) u e h = ap (λ x. cons x vs) (subst (λ x. f x ≡ x) (let k : u ≡ v = grind arith in k) h)
change_part_same (suc i) f (cons v vs) u e h = ap (λ x. cons v x) (change_part_same i f vs u e h)
change_part_same i f v u e h = absurd (grind arith)

change_payload_same : (k : ℕ) (f : Value → Value) (v u : Value) → payload k v ≡ Some u → f u ≡ u → change_payload k f v ≡ v
change_payload_same k f (variant i v) u e h = ap (λ x. variant i x) (go (nat_eq i k) e)
  where
    go : (b : Bool) → (if b then Some v else None) ≡ Some u → (if b then f v else v) ≡ v
    go true e' = subst (λ x. f x ≡ x) (let k : u ≡ v = grind arith in k) h
    go false e' = refl
change_payload_same k f v u e h = absurd (grind arith)

change_inner_same : (p : Proj) (f : Value → Value) (v u : Value) → inner p v ≡ Some u → f u ≡ u → change_inner p f v ≡ v
change_inner_same (Field i) f v u e h = change_part_same i f v u e h
change_inner_same (Downcast k) f v u e h = change_payload_same k f v u e h
change_inner_same Deref f v u e h = refl

pub put_same : (ps : List Proj) (w v : Value) → at_path ps v ≡ Some w → put ps w v ≡ v
put_same [] w v e = grind arith
put_same (p ∷ ps) w v e =
    let (u, e1, e2) = bind_some e in
    change_inner_same p (put ps w) v u e1 (put_same ps w u e2)

pub write_again : (m : Memory) (a : Addr) (w : Value) (f x : ℕ) → value_at m a ≡ Some w → local_at (write m a w) f x ≡ local_at m f x
unfolding value_at
write_again m a w f x e = go (root_or_not a f x)
  where
    same : (o : Value) → local_at m a.frame a.local ≡ Some o → at_path a.path o ≡ Some w → RootOf a f x → option_map (put a.path w) (local_at m f x) ≡ local_at m f x
    same o eo ep h = let e' : local_at m f x ≡ Some o = ap₂ (local_at m) h.0 h.1 ∙ eo in rw e' (ap Some (put_same a.path w o ep))

    go : RootOf a f x ⊎ (f ≡ a.frame → x ≡ a.local → ⊥) → local_at (write m a w) f x ≡ local_at m f x
    go (inl h) = let (o, eo, ep) = bind_some e in write_same m a w f x h ∙ same o eo ep h
    go (inr n) = write_other m a w f x n

-- a whole local is written, and is related from now on; no other local that is related now is kept in the target's
pub write_whole_rel : (j L K : Renaming) (m2 m1 : Memory) (a b : Addr) (v w o : Value) → a.path ≡ [] → b.path ≡ [] → MemRel j L m2 m1 → ValueRel j v w → local_at m2 b.frame b.local ≡ Some o → ((f x g y : ℕ) → K f x ≡ Some (g, y) → (RootOf a f x × RootOf b g y) ⊎ ((L f x ≡ Some (g, y)) × (g ≡ b.frame → y ≡ b.local → ⊥) × (f ≡ a.frame → x ≡ a.local → ⊥))) → MemRel j K (write m2 b w) (write m1 a v)
write_whole_rel j L K m2 m1 a b v w o pa pb r hv ob cases = record { at = λ f x g y l u e. go f x g y u e (cases f x g y l) }
  where
    was : (f x : ℕ) (u : Value) → RootOf a f x → (q : Option Value) → local_at m1 f x ≡ q → option_map (put a.path v) q ≡ Some u → v ≡ u
    was f x u h None e k = absurd (grind arith)
    was f x u h (Some q) e k = let z : put a.path v q ≡ u = grind arith in subst (λ p. put p v q ≡ u) pa z

    go : (f x g y : ℕ) (u : Value) → local_at (write m1 a v) f x ≡ Some u → ((RootOf a f x × RootOf b g y) ⊎ ((L f x ≡ Some (g, y)) × (g ≡ b.frame → y ≡ b.local → ⊥) × (f ≡ a.frame → x ≡ a.local → ⊥))) → SomeRel j u (local_at (write m2 b w) g y)
    go f x g y u e (inl (h, k)) =
        let same = was f x u h (local_at m1 f x) refl (sym (write_same m1 a v f x h) ∙ e) in
        let there : local_at m2 g y ≡ Some o = ap₂ (local_at m2) k.0 k.1 ∙ ob in
        (w, write_same m2 b w g y k ∙ ap (option_map (put b.path w)) there ∙ ap (λ p. Some (put p w o)) pb, subst (λ z. ValueRel j z w) same hv)
    go f x g y u e (inr (l, nb, na)) =
        let (u2, f2, r2) = r.at f x g y l u (sym (write_other m1 a v f x na) ∙ e) in
        (u2, write_other m2 b w g y nb ∙ f2, r2)
