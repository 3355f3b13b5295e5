-- Memories in which a local of the source stands for several locals of the target, one for each field.
use Rattle.std.proofs.Common.{◌≡◌, ◌⊎◌, inl, inr, refl, sym, ap, ap₂, ◌∙◌, subst, ℕ, zero, suc, ◌+◌, Bool, true, false, if◌then◌else◌, List, [], ◌∷◌, ◌++◌, Option, Some, None, slice_get, option_map, arith}
use Rattle.mir_syntax.specs.declared.body.Proj.{Proj}
use Rattle.mir_syntax.specs.declared.body.Proj.TheVariants.{Field, Downcast, Deref}
use Rattle.mir_syntax.specs.Tree.{Tree, scalar, empty, more, ref, ref_mut, named}
use Rattle.mir_syntax.specs.Shapes.{Shape, struct_fields}
use Rattle.mir_semantics.specs.Values.{Addr, Value, number, nil, cons, variant, pointer, hole, part, at_path, change_part, put, is_unit, blank_by, blank_of, blank_def}
use Rattle.mir_semantics.specs.Memory.{Memory, local_at, value_at, write, further, there, referent, project, walk}
use Rattle.mir_syntax.specs.Parts.{has_deref}
use Rattle.mir_renaming.specs.Renaming.{Renaming, AddrRel, ValueRel, SomeRel, Sub, MemRel, RootOf, AddrThere}
use Rattle.mir_syntax.proofs.Binds.{bind_some, some_bind}
use Rattle.mir_renaming.proofs.Memory.{root_or_not, at_path_rel, value_at_rel, sub_addr, further_rel, put_rel, walk_rel, write_same, write_other, write_back, write_source, write_target}

-- the first of the locals of the fields, for a local that is split; and how many fields there are
abbrev pub Splits : Type 0
Splits = ℕ → Option ℕ

-- field i of a split local of the frame has this local of the target's frame to itself
pub record PartOf (f2 f1 : ℕ) (S : Splits) (Has : ℕ → ℕ → Type 0) (a b : Addr) : Type 0 where
  pub first : ℕ
  pub field : ℕ
  pub frame1 : a.frame ≡ f1
  pub frame2 : b.frame ≡ f2
  pub split : S a.local ≡ Some first
  pub has : Has a.local field
  pub local : b.local ≡ first + field
  pub path : a.path ≡ Field field ∷ b.path

-- memories: each field of a split local is related to its local
pub record Parts (j : Renaming) (f2 f1 : ℕ) (S : Splits) (Has : ℕ → ℕ → Type 0) (m2 m1 : Memory) : Type 0 where
  pub at : (x y i : ℕ) → S x ≡ Some y → Has x i → (v u : Value) → local_at m1 f1 x ≡ Some v → part i v ≡ Some u → SomeRel j u (local_at m2 f2 (y + i))

val : {A : Type 0} {x y : A} → Some x ≡ Some y → x ≡ y
val e = grind arith

-- ---- parts of changed values

abbrev NoList : Value → Type 0
NoList (cons v vs) = ⊥
NoList _ = Unit {0}

no_part : (k : ℕ) (v : Value) {u : Value} → NoList v → part k v ≡ Some u → ⊥
no_part zero (number n) h e = grind arith
no_part zero nil h e = grind arith
no_part zero (variant n v) h e = grind arith
no_part zero (pointer a) h e = grind arith
no_part zero hole h e = grind arith
no_part (suc k) (number n) h e = grind arith
no_part (suc k) nil h e = grind arith
no_part (suc k) (variant n v) h e = grind arith
no_part (suc k) (pointer a) h e = grind arith
no_part (suc k) hole h e = grind arith
no_part k (cons v vs) h e = h

part_change : (i k : ℕ) (g : Value → Value) (v u : Value) → part k (change_part i g v) ≡ Some u → ((k ≡ i) × ((o : Value) × (part i v ≡ Some o) × (g o ≡ u))) ⊎ ((k ≡ i → ⊥) × (part k v ≡ Some u))
part_change zero zero g (cons v vs) u e = inl (refl, (v, refl, val e))
part_change zero (suc k) g (cons v vs) u e = inr ((λ q. absurd (omega (arith, q))), e)
part_change (suc i) zero g (cons v vs) u e = inr ((λ q. absurd (omega (arith, q))), e)
part_change (suc i) (suc k) g (cons v vs) u e = go (part_change i k g vs u e)
  where
    go : ((k ≡ i) × ((o : Value) × (part i vs ≡ Some o) × (g o ≡ u))) ⊎ ((k ≡ i → ⊥) × (part k vs ≡ Some u)) → ((suc k ≡ suc i) × ((o : Value) × (part i vs ≡ Some o) × (g o ≡ u))) ⊎ ((suc k ≡ suc i → ⊥) × (part k vs ≡ Some u))
    go (inl h) = inl (ap suc h.0, h.1)
    go (inr h) = inr ((λ q. h.0 (omega (arith, q))), h.1)
part_change zero k g (number n) u e = absurd (no_part k (number n) tt e)
part_change zero k g nil u e = absurd (no_part k nil tt e)
part_change zero k g (variant n v) u e = absurd (no_part k (variant n v) tt e)
part_change zero k g (pointer a) u e = absurd (no_part k (pointer a) tt e)
part_change zero k g hole u e = absurd (no_part k hole tt e)
part_change (suc i) k g (number n) u e = absurd (no_part k (number n) tt e)
part_change (suc i) k g nil u e = absurd (no_part k nil tt e)
part_change (suc i) k g (variant n v) u e = absurd (no_part k (variant n v) tt e)
part_change (suc i) k g (pointer a) u e = absurd (no_part k (pointer a) tt e)
part_change (suc i) k g hole u e = absurd (no_part k hole tt e)

-- ---- blanks: with fewer definitions inside one another there are only more holes

module _ (j : Renaming) (D : List Shape) where
  pub blank_by_less : (a b : ℕ → Value) → ((d : ℕ) → ValueRel j (a d) (b d)) → (t : Tree) → ValueRel j (blank_by a t) (blank_by b t)
  blank_by_less a b h (scalar s) = tt
  blank_by_less a b h empty = tt
  blank_by_less a b h (more t ts) = (blank_by_less a b h t, blank_by_less a b h ts)
  blank_by_less a b h (ref t) = tt
  blank_by_less a b h (ref_mut t) = tt
  blank_by_less a b h (named d) = h d

  blank_of_less : (a b : ℕ → Value) → ((d : ℕ) → ValueRel j (a d) (b d)) → (o : Option Shape) → ValueRel j (blank_of a o) (blank_of b o)
  blank_of_less a b h None = tt
  blank_of_less a b h (Some s) = go (is_unit s)
    where
      go : (c : Bool) → ValueRel j (if c then hole else blank_by a (struct_fields s)) (if c then hole else blank_by b (struct_fields s))
      go true = tt
      go false = blank_by_less a b h (struct_fields s)

  pub blank_less : (n d : ℕ) → ValueRel j (blank_def D n d) (blank_def D (suc n) d)
  blank_less zero d = tt
  blank_less (suc n) d = blank_of_less (blank_def D n) (blank_def D (suc n)) (blank_less n) (slice_get D d)

-- ---- places and writes

module _ (j L : Renaming) (low : Sub j L) (f2 f1 : ℕ) (S : Splits) (Has : ℕ → ℕ → Type 0) (B : ℕ → Option (ℕ × ℕ)) (back : (x y i : ℕ) → S x ≡ Some y → Has x i → B (y + i) ≡ Some (x, i)) (away : (x y : ℕ) → S x ≡ Some y → L f1 x ≡ None) (free : (f x z : ℕ) → L f x ≡ Some (f2, z) → B z ≡ None) where
  abbrev pub AddrTo : Addr → Addr → Type 0
  AddrTo a b = AddrRel L a b ⊎ PartOf f2 f1 S Has a b

  abbrev pub There : Addr → Option Addr → Type 0
  There a o = (b : Addr) × (o ≡ Some b) × AddrTo a b

  -- no reference leads into a split local
  pub no_reference : (x y : ℕ) → S x ≡ Some y → (r : ℕ × ℕ) → j f1 x ≡ Some r → ⊥
  no_reference x y s r e = (let z : ◌≡◌ {A = Option (ℕ × ℕ)} None (Some r) = sym (away x y s) ∙ low f1 x r e in grind arith)

  -- reading
  pub value_to : (m2 m1 : Memory) → MemRel j L m2 m1 → Parts j f2 f1 S Has m2 m1 → (a b : Addr) (v : Value) → AddrTo a b → value_at m1 a ≡ Some v → SomeRel j v (value_at m2 b)
  unfolding value_at
  value_to m2 m1 r p a b v (inl h) e = value_at_rel j L m2 m1 r a b h v e
  value_to m2 m1 r p a b v (inr h) e =
      let (o, e1, e2) = bind_some e in
      let e3 : at_path (Field h.field ∷ b.path) o ≡ Some v = subst (λ ps. at_path ps o ≡ Some v) h.path e2 in
      let (u, e4, e5) = bind_some e3 in
      let (w, g1, h1) = p.at a.local h.first h.field h.split h.has o u (ap (λ f. local_at m1 f a.local) (sym h.frame1) ∙ e1) e4 in
      let (z, g2, h2) = at_path_rel j b.path u w v h1 e5 in
      (z, some_bind _ (ap₂ (local_at m2) h.frame2 h.local ∙ g1) g2, h2)

  pub further_to : (a b : Addr) (p : Proj) → AddrTo a b → AddrTo (further a p) (further b p)
  further_to a b p (inl h) = inl (further_rel L a b p h)
  further_to a b p (inr h) = inr (record { first = h.first; field = h.field; frame1 = h.frame1; frame2 = h.frame2; split = h.split; has = h.has; local = h.local; path = ap (λ q. q ++ p ∷ []) h.path })

  there_to : (m2 m1 : Memory) → MemRel j L m2 m1 → Parts j f2 f1 S Has m2 m1 → (a b c : Addr) → AddrTo a b → there (value_at m1 a) a ≡ Some c → There c (there (value_at m2 b) b)
  there_to m2 m1 r p a b c h e = go (value_at m1 a) refl e
    where
      go : (o : Option Value) → value_at m1 a ≡ o → there o a ≡ Some c → There c (there (value_at m2 b) b)
      go None q e' = absurd (grind arith)
      go (Some v) q e' =
          let (w, g, _) = value_to m2 m1 r p a b v h q in
          (b, ap (λ o. there o b) g, subst (λ x. AddrTo x b) (val e') h)

  referent_to : (v w : Value) (a : Addr) → ValueRel j v w → referent v ≡ Some a → (b : Addr) × (referent w ≡ Some b) × AddrRel j a b
  referent_to (pointer a') (pointer b) a h e = (b, refl, subst (λ x. AddrRel j x b) (val e) h)
  referent_to v w a h e = absurd (grind arith)

  project_to : (m2 m1 : Memory) → MemRel j L m2 m1 → Parts j f2 f1 S Has m2 m1 → (a b c : Addr) (p : Proj) → AddrTo a b → project m1 a p ≡ Some c → There c (project m2 b p)
  unfolding project
  project_to m2 m1 r p a b c (Field i) h e = there_to m2 m1 r p _ _ c (further_to a b (Field i) h) e
  project_to m2 m1 r p a b c (Downcast k) h e = there_to m2 m1 r p _ _ c (further_to a b (Downcast k) h) e
  project_to m2 m1 r p a b c Deref h e =
      let (a', e1, e4) = bind_some e in
      let (v, e2, e3) = bind_some e1 in
      let (w, g1, h1) = value_to m2 m1 r p a b v h e2 in
      let (b', g3, h3) = referent_to v w a' h1 e3 in
      let (c', g4, h4) = there_to m2 m1 r p a' b' c (inl (sub_addr j L low a' b' h3)) e4 in
      (c', some_bind _ (some_bind _ g1 g3) g4, h4)

  pub walk_to : (m2 m1 : Memory) → MemRel j L m2 m1 → Parts j f2 f1 S Has m2 m1 → (ps : List Proj) (a b c : Addr) → AddrTo a b → walk m1 a ps ≡ Some c → There c (walk m2 b ps)
  unfolding walk
  walk_to m2 m1 r p [] a b c h e = (b, refl, subst (λ x. AddrTo x b) (val e) h)
  walk_to m2 m1 r p (q ∷ ps) a b c h e =
      let (a', e1, e2) = bind_some e in
      let (b', g1, h1) = project_to m2 m1 r p a b a' q h e1 in
      let (c', g2, h2) = walk_to m2 m1 r p ps a' b' c h1 e2 in
      (c', some_bind _ g1 g2, h2)

  -- through a reference: an address that references may lead to
  pub walk_deref_to : (m2 m1 : Memory) → MemRel j L m2 m1 → Parts j f2 f1 S Has m2 m1 → (ps : List Proj) (a b c : Addr) → has_deref ps ≡ true → AddrTo a b → walk m1 a ps ≡ Some c → AddrThere j c (walk m2 b ps)
  unfolding walk project
  walk_deref_to m2 m1 r p [] a b c hd h e = absurd (grind arith)
  walk_deref_to m2 m1 r p (Field i ∷ ps) a b c hd h e =
      let (a', e1, e2) = bind_some e in
      let (b', g1, h1) = project_to m2 m1 r p a b a' (Field i) h e1 in
      let (c', g2, h2) = walk_deref_to m2 m1 r p ps a' b' c hd h1 e2 in
      (c', some_bind _ g1 g2, h2)
  walk_deref_to m2 m1 r p (Downcast k ∷ ps) a b c hd h e =
      let (a', e1, e2) = bind_some e in
      let (b', g1, h1) = project_to m2 m1 r p a b a' (Downcast k) h e1 in
      let (c', g2, h2) = walk_deref_to m2 m1 r p ps a' b' c hd h1 e2 in
      (c', some_bind _ g1 g2, h2)
  walk_deref_to m2 m1 r p (Deref ∷ ps) a b c hd h e =
      let (a', e1, e2) = bind_some e in
      let (b', g1, h1) = deref_rel a b a' h e1 in
      let (c', g2, h2) = walk_rel j j L (λ f x r e. e) low m2 m1 r ps a' b' c h1 e2 in
      (c', some_bind _ g1 g2, h2)
    where
      there_rel : (a b c : Addr) → AddrRel j a b → there (value_at m1 a) a ≡ Some c → AddrThere j c (there (value_at m2 b) b)
      there_rel a b c h e = go (value_at m1 a) refl e
        where
          go : (o : Option Value) → value_at m1 a ≡ o → there o a ≡ Some c → AddrThere j c (there (value_at m2 b) b)
          go None q e' = absurd (grind arith)
          go (Some v) q e' =
              let (w, g, _) = value_at_rel j L m2 m1 r a b (sub_addr j L low a b h) v q in
              (b, ap (λ o. there o b) g, subst (λ x. AddrRel j x b) (val e') h)

      deref_rel : (a b c : Addr) → AddrTo a b → project m1 a Deref ≡ Some c → AddrThere j c (project m2 b Deref)
      deref_rel a b c h e =
          let (a', e1, e4) = bind_some e in
          let (v, e2, e3) = bind_some e1 in
          let (w, g1, h1) = value_to m2 m1 r p a b v h e2 in
          let (b', g3, h3) = referent_to v w a' h1 e3 in
          let (c', g4, h4) = there_rel a' b' c h3 e4 in
          (c', some_bind _ (some_bind _ g1 g3) g4, h4)

  -- a place of field i of a split local is one of the local of field i
  pub resolve_part : (m2 m1 : Memory) → MemRel j L m2 m1 → Parts j f2 f1 S Has m2 m1 → (x y i : ℕ) (ps : List Proj) (c : Addr) → S x ≡ Some y → Has x i → walk m1 (record { frame = f1; local = x; path = [] }) (Field i ∷ ps) ≡ Some c → There c (walk m2 (record { frame = f2; local = y + i; path = [] }) ps)
  unfolding walk project
  resolve_part m2 m1 r p x y i ps c s hi e =
      let (a', e1, e2) = bind_some e in
      walk_to m2 m1 r p ps a' (record { frame = f2; local = y + i; path = [] }) c (inr (field_there a' (value_at m1 (further (record { frame = f1; local = x; path = [] }) (Field i))) e1)) e2
    where
      field_there : (a' : Addr) (o : Option Value) → there o (further (record { frame = f1; local = x; path = [] }) (Field i)) ≡ Some a' → PartOf f2 f1 S Has a' (record { frame = f2; local = y + i; path = [] })
      field_there a' None e = absurd (grind arith)
      field_there a' (Some v) e = subst (λ a. PartOf f2 f1 S Has a (record { frame = f2; local = y + i; path = [] })) (val e) (record { first = y; field = i; frame1 = refl; frame2 = refl; split = s; has = hi; local = refl; path = refl })

  clash : {x : ℕ × ℕ} → ◌≡◌ {A = Option (ℕ × ℕ)} None (Some x) → ⊥
  clash e = grind arith

  -- nothing else is kept in the local of a field
  pub not_there : (x y i : ℕ) → S x ≡ Some y → Has x i → (f z : ℕ) → L f z ≡ Some (f2, y + i) → ⊥
  not_there x y i s hi f z e = clash (sym (free f z (y + i) e) ∙ back x y i s hi)

  same_pair : (s t : ℕ × ℕ) → Some s ≡ Some t → s ≡ t
  same_pair s t e = grind arith

  -- the target alone writes the local of a field: what isn't of that split local stays related
  pub write_field : (m2 m1 : Memory) (b : Addr) (x y i : ℕ) (w : Value) → b.frame ≡ f2 → b.local ≡ y + i → S x ≡ Some y → Has x i → MemRel j L m2 m1 → MemRel j L (write m2 b w) m1
  write_field m2 m1 b x y i w fr lo s hi r = write_target j L m2 m1 b w r (λ g z u e k. not_there x y i s hi g z (e ∙ ap₂ (λ f n. Some (f, n)) fr lo))

  -- writing at a place of a field: what is elsewhere stays
  pub write_part : (m2 m1 : Memory) (a b : Addr) (v w : Value) → MemRel j L m2 m1 → Parts j f2 f1 S Has m2 m1 → PartOf f2 f1 S Has a b → ValueRel j v w → MemRel j L (write m2 b w) (write m1 a v) × Parts j f2 f1 S Has (write m2 b w) (write m1 a v)
  write_part m2 m1 a b v w r p h hv = (write_field m2 (write m1 a v) b a.local h.first h.field w h.frame2 h.local h.split h.has (write_source j L m2 m1 a v r (ap (λ f. L f a.local) h.frame1 ∙ away a.local h.first h.split)), record { at = λ x y i s hi o u e1 e2. part_at x y i s hi o u e1 e2 (root_or_not a f1 x) })
    where
      is_back : B b.local ≡ Some (a.local, h.field)
      is_back = ap B h.local ∙ back a.local h.first h.field h.split h.has

      -- another part's local is another local
      other : (x y i : ℕ) → S x ≡ Some y → Has x i → (x ≡ a.local → i ≡ h.field → ⊥) → (f2 ≡ b.frame → (y + i) ≡ b.local → ⊥)
      other x y i s hi ne q t =
          let z : (x, i) ≡ (a.local, h.field) = same_pair _ _ (sym (back x y i s hi) ∙ ap B t ∙ is_back) in
          ne (ap (λ (c : ℕ × ℕ). c.0) z) (ap (λ (c : ℕ × ℕ). c.1) z)

      inside : (x y i : ℕ) → S x ≡ Some y → Has x i → x ≡ a.local → (o u : Value) → local_at m1 f1 x ≡ Some o → part i (put a.path v o) ≡ Some u → SomeRel j u (local_at (write m2 b w) f2 (y + i))
      inside x y i s hi q o u e1 e2 = go (part_change h.field i (put b.path v) o u (subst (λ ps. part i (put ps v o) ≡ Some u) h.path e2))
        where
          first_is : y ≡ h.first
          first_is = val (sym s ∙ ap S q ∙ h.split)

          go : ((i ≡ h.field) × ((z : Value) × (part h.field o ≡ Some z) × (put b.path v z ≡ u))) ⊎ ((i ≡ h.field → ⊥) × (part i o ≡ Some u)) → SomeRel j u (local_at (write m2 b w) f2 (y + i))
          go (inl (same, (z, pz, is))) =
              let (z2, g2, r2) = p.at x y i s hi o z e1 (ap (λ n. part n o) same ∙ pz) in
              let at_b : RootOf b f2 (y + i) = (sym h.frame2, ap₂ (λ m n. m + n) first_is same ∙ sym h.local) in
              (put b.path w z2, write_same m2 b w f2 (y + i) at_b ∙ ap (option_map (put b.path w)) g2, subst (λ k. ValueRel j k (put b.path w z2)) is (put_rel j b.path v w hv z z2 r2))
          go (inr (ne, pu)) =
              let (z2, g2, r2) = p.at x y i s hi o u e1 pu in
              (z2, write_other m2 b w f2 (y + i) (other x y i s hi (λ c t. ne t)) ∙ g2, r2)

      part_at : (x y i : ℕ) → S x ≡ Some y → Has x i → (o u : Value) → local_at (write m1 a v) f1 x ≡ Some o → part i o ≡ Some u → RootOf a f1 x ⊎ (f1 ≡ a.frame → x ≡ a.local → ⊥) → SomeRel j u (local_at (write m2 b w) f2 (y + i))
      part_at x y i s hi o u e1 e2 (inl q) =
          let (o', e3) = write_back m1 a v f1 x o e1 in
          let is : put a.path v o' ≡ o = val (sym (ap (option_map (put a.path v)) e3) ∙ sym (write_same m1 a v f1 x q) ∙ e1) in
          inside x y i s hi q.1 o' u e3 (ap (part i) is ∙ e2)
      part_at x y i s hi o u e1 e2 (inr n) =
          let (z2, g2, r2) = p.at x y i s hi o u (sym (write_other m1 a v f1 x n) ∙ e1) e2 in
          (z2, write_other m2 b w f2 (y + i) (other x y i s hi (λ c t. n (sym h.frame1) c)) ∙ g2, r2)

  -- writing elsewhere
  pub else_parts : (m2 m1 : Memory) (a b : Addr) (v w : Value) → Parts j f2 f1 S Has m2 m1 → AddrRel L a b → Parts j f2 f1 S Has (write m2 b w) (write m1 a v)
  else_parts m2 m1 a b v w p h = record { at = λ x y i s hi o u e1 e2. part_at x y i s hi o u e1 e2 }
    where
      part_at : (x y i : ℕ) → S x ≡ Some y → Has x i → (o u : Value) → local_at (write m1 a v) f1 x ≡ Some o → part i o ≡ Some u → SomeRel j u (local_at (write m2 b w) f2 (y + i))
      part_at x y i s hi o u e1 e2 =
          let ne : f1 ≡ a.frame → x ≡ a.local → ⊥ = λ c d. clash (sym (away x y s) ∙ ap₂ L c d ∙ h.root) in
          let ne2 : f2 ≡ b.frame → (y + i) ≡ b.local → ⊥ = λ c d. not_there x y i s hi a.frame a.local (h.root ∙ ap₂ (λ f n. Some (f, n)) (sym c) (sym d)) in
          let (z2, g2, r2) = p.at x y i s hi o u (sym (write_other m1 a v f1 x ne) ∙ e1) e2 in
          (z2, write_other m2 b w f2 (y + i) ne2 ∙ g2, r2)

  -- the whole of a split local is written by the source, once the target has written each field, and no other part
  pub write_whole : (m2 m2' m1 : Memory) (x y : ℕ) (v : Value) → S x ≡ Some y → MemRel j L m2' m1 → Parts j f2 f1 S Has m2 m1 → ((z : ℕ) → ((i : ℕ) → B z ≡ Some (x, i) → ⊥) → local_at m2' f2 z ≡ local_at m2 f2 z) → ((i : ℕ) (u : Value) → Has x i → part i v ≡ Some u → SomeRel j u (local_at m2' f2 (y + i))) → MemRel j L m2' (write m1 (record { frame = f1; local = x; path = [] }) v) × Parts j f2 f1 S Has m2' (write m1 (record { frame = f1; local = x; path = [] }) v)
  write_whole m2 m2' m1 x y v s r p same fields = (write_source j L m2' m1 (record { frame = f1; local = x; path = [] }) v r (away x y s), record { at = λ z t i sg hi o u e1 e2. part_at z t i sg hi o u e1 e2 (root_or_not (record { frame = f1; local = x; path = [] }) f1 z) })
    where
      part_at : (z t i : ℕ) → S z ≡ Some t → Has z i → (o u : Value) → local_at (write m1 (record { frame = f1; local = x; path = [] }) v) f1 z ≡ Some o → part i o ≡ Some u → RootOf (record { frame = f1; local = x; path = [] }) f1 z ⊎ (f1 ≡ f1 → z ≡ x → ⊥) → SomeRel j u (local_at m2' f2 (t + i))
      part_at z t i sg hi o u e1 e2 (inl q) =
          let (o', e3) = write_back m1 (record { frame = f1; local = x; path = [] }) v f1 z o e1 in
          let is : v ≡ o = val (sym (ap (option_map (put [] v)) e3) ∙ sym (write_same m1 (record { frame = f1; local = x; path = [] }) v f1 z q) ∙ e1) in
          let first : t ≡ y = val (sym sg ∙ ap S q.1 ∙ s) in
          let (w, a, rel) = fields i u (subst (λ z. Has z i) q.1 hi) (ap (part i) is ∙ e2) in
          (w, ap (λ n. local_at m2' f2 (n + i)) first ∙ a, rel)
      part_at z t i sg hi o u e1 e2 (inr n) =
          let (w, a, rel) = p.at z t i sg hi o u (sym (write_other m1 (record { frame = f1; local = x; path = [] }) v f1 z n) ∙ e1) e2 in
          (w, same (t + i) (λ k e. n refl (ap (λ (c : ℕ × ℕ). c.0) (same_pair _ _ (sym (back z t i sg hi) ∙ e)))) ∙ a, rel)
