-- The target's memory has what the source's has, and may have more where the source has a hole in a frame of the body that was elaborated.
use Rattle.std.proofs.Common.{◌≡◌, refl, sym, ap, ◌∙◌, subst, ℕ, ◌≤◌, List, [], ◌∷◌, ◌++◌, Some, None, arith}
use Rattle.mir_syntax.specs.declared.body.Proj.{Proj}
use Rattle.mir_syntax.specs.declared.body.Proj.TheVariants.{Field, Downcast, Deref}
use Rattle.mir_semantics.specs.Values.{Addr, Value, number, nil, cons, variant, pointer, hole, at_path}
use Rattle.mir_semantics.specs.Memory.{Memory, local_at, value_at, there, project, walk}
use Rattle.mir_renaming.specs.Renaming.{Renaming, ValueRel}
use Rattle.mir_syntax.proofs.Binds.{bind_some, some_bind}
use Rattle.mir_renaming.proofs.Memory.{at_path_rel}
use Rattle.drop_elab.proofs.refines.Runs.{Beyond}

-- a frame of the source, and what references of the source stand for
pub record Over : Type 0 where
  pub lent : Renaming
  pub frame : ℕ

-- the same place in a frame of the target
abbrev pub over : ℕ → Addr → Addr
over f a = record a { frame = f }

-- the locals of the source's frame stand for the same ones of the target's
pub record Near (own : Over) (f2 : ℕ) (m2 m1 : Memory) : Type 0 where
  pub at : (x : ℕ) (v : Value) → local_at m1 own.frame x ≡ Some v → (w : Value) × (local_at m2 f2 x ≡ Some w) × ValueRel own.lent v w

module _ (own : Over) (f2 : ℕ) (m2 m1 : Memory) (near : Near own f2 m2 m1) where
  pub value_near : (a : Addr) (v : Value) → a.frame ≡ own.frame → value_at m1 a ≡ Some v → (w : Value) × (value_at m2 (over f2 a) ≡ Some w) × ValueRel own.lent v w
  unfolding value_at
  value_near a v q e =
      let (x, e1, e2) = bind_some e in
      let (y, f1, h) = near.at a.local x (ap (λ f. local_at m1 f a.local) (sym q) ∙ e1) in
      let (w, g, r) = at_path_rel own.lent a.path x y v h e2 in
      (w, some_bind _ f1 g, r)

  -- a variant of the source is the same one of the target
  pub variant_near : (a : Addr) (k : ℕ) (v : Value) → a.frame ≡ own.frame → value_at m1 a ≡ Some (variant k v) → (w : Value) × (value_at m2 (over f2 a) ≡ Some (variant k w))
  variant_near a k v q e = let (w, f, h) = value_near a (variant k v) q e in go w f h
    where
      go : (w : Value) → value_at m2 (over f2 a) ≡ Some w → ValueRel own.lent (variant k v) w → (u : Value) × (value_at m2 (over f2 a) ≡ Some (variant k u))
      go (variant i u) f h = (u, f ∙ ap (λ i. Some (variant i u)) (sym h.0))
      go (number n) f h = absurd h
      go nil f h = absurd h
      go (cons x xs) f h = absurd h
      go (pointer b) f h = absurd h
      go hole f h = absurd h

-- what is written beyond the source's locals leaves the target near
pub near_beyond : (own : Over) (f l : ℕ) (m2 m2' m1 : Memory) → ((x : ℕ) → l ≤ x → local_at m1 own.frame x ≡ None) → Beyond f l m2 m2' → Near own f m2 m1 → Near own f m2' m1
near_beyond own f l m2 m2' m1 none b n = record { at = λ x v e. (let (w, e2, h) = n.at x v e in (w, b.others f x (λ p q. (let y : None ≡ Some v = sym (none x q) ∙ e in grind arith)) ∙ e2, h)) }

-- ---- a place without a dereference resolves to itself where a value stands there

abbrev pub Plain : List Proj → Type 0
Plain [] = Unit {0}
Plain (Deref ∷ ps) = ⊥
Plain (Field i ∷ ps) = Plain ps
Plain (Downcast k ∷ ps) = Plain ps

path_split : (xs ys : List Proj) (v w : Value) → at_path (xs ++ ys) v ≡ Some w → (u : Value) × (at_path xs v ≡ Some u)
path_split [] ys v w e = (v, refl)
path_split (x ∷ xs) ys v w e =
    let (y, e1, e2) = bind_some e in
    let (u, e3) = path_split xs ys y w e2 in
    (u, some_bind _ e1 e3)

abbrev addr_at : ℕ → ℕ → List Proj → Addr
addr_at f x ps = record { frame = f; local = x; path = ps }

before : (m : Memory) (f x : ℕ) (xs ys : List Proj) (w : Value) → value_at m (addr_at f x (xs ++ ys)) ≡ Some w → (u : Value) × (value_at m (addr_at f x xs) ≡ Some u)
unfolding value_at
before m f x xs ys w e =
    let (v, e1, e2) = bind_some e in
    let (u, e3) = path_split xs ys v w e2 in
    (u, some_bind _ e1 e3)

end_append : (xs : List Proj) → xs ++ [] ≡ xs
end_append [] = refl
end_append (x ∷ xs) = ap (λ ys. x ∷ ys) (end_append xs)

one_more : (xs : List Proj) (y : Proj) (ys : List Proj) → (xs ++ y ∷ []) ++ ys ≡ xs ++ y ∷ ys
one_more [] y ys = refl
one_more (x ∷ xs) y ys = ap (λ zs. x ∷ zs) (one_more xs y ys)

pub walk_down : (m : Memory) (f x : ℕ) (xs ys : List Proj) (w : Value) → Plain ys → value_at m (addr_at f x (xs ++ ys)) ≡ Some w → walk m (addr_at f x xs) ys ≡ Some (addr_at f x (xs ++ ys))
unfolding walk project
walk_down m f x xs [] w h e = ap (λ zs. Some (addr_at f x zs)) (sym (end_append xs))
walk_down m f x xs (Deref ∷ ys) w h e = absurd h
walk_down m f x xs (Field i ∷ ys) w h e =
    let e' : value_at m (addr_at f x ((xs ++ Field i ∷ []) ++ ys)) ≡ Some w = subst (λ zs. value_at m (addr_at f x zs) ≡ Some w) (sym (one_more xs (Field i) ys)) e in
    let (u, e1) = before m f x (xs ++ Field i ∷ []) ys w e' in
    some_bind _ (ap (λ o. there o (addr_at f x (xs ++ Field i ∷ []))) e1) (walk_down m f x (xs ++ Field i ∷ []) ys w h e' ∙ ap (λ zs. Some (addr_at f x zs)) (one_more xs (Field i) ys))
walk_down m f x xs (Downcast k ∷ ys) w h e =
    let e' : value_at m (addr_at f x ((xs ++ Downcast k ∷ []) ++ ys)) ≡ Some w = subst (λ zs. value_at m (addr_at f x zs) ≡ Some w) (sym (one_more xs (Downcast k) ys)) e in
    let (u, e1) = before m f x (xs ++ Downcast k ∷ []) ys w e' in
    some_bind _ (ap (λ o. there o (addr_at f x (xs ++ Downcast k ∷ []))) e1) (walk_down m f x (xs ++ Downcast k ∷ []) ys w h e' ∙ ap (λ zs. Some (addr_at f x zs)) (one_more xs (Downcast k) ys))
