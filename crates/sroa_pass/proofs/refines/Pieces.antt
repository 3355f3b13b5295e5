-- The memories of a frame of the body and one of the split body, whose locals stand one for one, but for the split ones.
use Rattle.std.proofs.Common.{◌≡◌, ◌⊎◌, inl, inr, refl, sym, ap, ap₂, ◌∙◌, subst, ℕ, ◌+◌, ◌<◌, ◌≤◌, Bool, true, false, nat_eq, List, [], ◌∷◌, Option, Some, None, slice_get, arith}
use Rattle.mir_syntax.specs.declared.body.Proj.TheVariants.{Field}
use Rattle.mir_syntax.specs.declared.body.Place.{Place}
use Rattle.mir_syntax.specs.Tree.{Tree}
use Rattle.mir_syntax.specs.Shapes.{Shape, needs_drop}
use Rattle.mir_semantics.specs.Values.{Addr, Value, blank}
use Rattle.mir_semantics.specs.Memory.{Memory, local_at, value_at, write, there, project, walk}
use Rattle.mir_semantics.specs.Step.{local_addr, resolve, type_of}
use Rattle.mir_syntax.specs.Parts.{has_deref}
use Rattle.mir_renaming.specs.Renaming.{Renaming, ValueRel, Sub, MemRel, AddrThere}
use Rattle.mir_syntax.proofs.Binds.{bind_some}
use Rattle.mir_renaming.proofs.Memory.{same_or_not, write_back, write_other, write_again, walk_rel}
use Rattle.mir_renaming.proofs.Statements.{Linked, write_linked}
use Rattle.mir_renaming.proofs.Types.{TypeMap, AddrTy, HasTy, MemTy, write_ty, resolve_ty, value_at_ty, blank_any}
use Rattle.mir_syntax.proofs.Bools.{if_true, if_false}
use Rattle.mir_renaming.proofs.Walks.{walk_plain}
use Rattle.mir_renaming.proofs.Agree.{NeedsOk}
use Rattle.mir_renaming.proofs.Stores.{pair_parts}
use Rattle.mir_relate.specs.Alike.{Between, Sides, Same, Refers}
use Rattle.mir_relate.specs.Leaves.{Leaves}
use Rattle.mir_relate.specs.Frames.{in_frame, opened}
use Rattle.mir_relate.proofs.Leaves.{leaves_then, leaves_source, leaves_target}
use Rattle.mir_relate.proofs.Kept as kept
use Rattle.mir_relate.proofs.Near as near
use Rattle.sroa_pass.proofs.refines.Parts as parts
use Rattle.sroa_pass.proofs.refines.Parts.{Parts, PartOf}
use Rattle.sroa_pass.proofs.Plans.{Has, Plan, PlaceTo, place_types as types_same}
use Rattle.sroa_pass.proofs.refines.Spots as spots
use Rattle.mir_relate.proofs.Near.{Nears}

val : {A : Type 0} {x y : A} → Some x ≡ Some y → x ≡ y
val e = grind arith

in_parts : (k g y : ℕ) (o : Option ℕ) → ◌≡◌ {A = Option (ℕ × ℕ)} (in_frame k o) (Some (g, y)) → (g ≡ k) × (o ≡ Some y)
in_parts k g y None e = absurd (grind arith)
in_parts k g y (Some z) e = let (a, b) = pair_parts k z g y e in (a, ap Some (sym b))

-- the memories, and what is left of those that the frame found
pub record Held (D : List Shape) (G : TypeMap) (j K : Renaming) (n2 n1 : ℕ) (m2s m1s m2 m1 : Memory) : Type 0 where
  pub linked : Linked j K m2 m1
  pub typed : MemTy D G m1
  pub leaves : Leaves D G j j n2 n1 m2 m1 m2s m1s
  pub back : (h x : ℕ) (v : Value) → local_at m1 h x ≡ Some v → (u : Value) × (local_at m1s h x ≡ Some u)

-- how references stand in these two frames
pub record Roots (D : List Shape) (ts1 ts2 : List Tree) (P : Plan D ts1 ts2) (f2 f1 : ℕ) (j : Renaming) : Type 0 where
  pub roots : (x y : ℕ) → P.lent x ≡ Some y → j f1 x ≡ Some (f2, y)
  pub none : (x : ℕ) → P.lent x ≡ None → j f1 x ≡ None
  pub only : (h x y : ℕ) → j h x ≡ Some (f2, y) → (h ≡ f1) × (P.lent x ≡ Some y)

module _ (D : List Shape) (ts1 ts2 : List Tree) (P : Plan D ts1 ts2) (f2 f1 : ℕ) (j : Renaming) (R : Roots D ts1 ts2 P f2 f1 j) where
  -- each local that stays stands for itself
  abbrev pub K : Renaming
  K = opened j f2 f1 P.stays

  pub own_at : (x : ℕ) → K f1 x ≡ in_frame f2 (P.stays x)
  own_at x = go (same_or_not f1 f1)
    where
      go : ((nat_eq f1 f1 ≡ true) × (f1 ≡ f1)) ⊎ ((nat_eq f1 f1 ≡ false) × (f1 ≡ f1 → ⊥)) → K f1 x ≡ in_frame f2 (P.stays x)
      go (inl p) = if_true (in_frame f2 (P.stays x)) (j f1 x) p.0
      go (inr p) = absurd (p.1 refl)

  pub both_at : (h x g y : ℕ) → K h x ≡ Some (g, y) → ((h ≡ f1) × (g ≡ f2) × (P.stays x ≡ Some y)) ⊎ ((f1 ≡ h → ⊥) × (j h x ≡ Some (g, y)))
  both_at h x g y e = go (same_or_not f1 h)
    where
      go : ((nat_eq f1 h ≡ true) × (f1 ≡ h)) ⊎ ((nat_eq f1 h ≡ false) × (f1 ≡ h → ⊥)) → ((h ≡ f1) × (g ≡ f2) × (P.stays x ≡ Some y)) ⊎ ((f1 ≡ h → ⊥) × (j h x ≡ Some (g, y)))
      go (inl p) =
          let (a, b) = in_parts f2 g y (P.stays x) (sym (if_true (in_frame f2 (P.stays x)) (j h x) p.0) ∙ e) in
          inl (sym p.1, a, b)
      go (inr p) = inr (p.1, sym (if_false (in_frame f2 (P.stays x)) (j h x) p.0) ∙ e)

  pub at_stays : (x y : ℕ) → P.stays x ≡ Some y → K f1 x ≡ Some (f2, y)
  at_stays x y e = own_at x ∙ ap (in_frame f2) e

  pub low : Sub j K
  low h x r e = go (same_or_not f1 h)
    where
      here : (o : Option ℕ) → P.lent x ≡ o → f1 ≡ h → K h x ≡ Some r
      here None q p = absurd (let z : ◌≡◌ {A = Option (ℕ × ℕ)} None (Some r) = sym (R.none x q) ∙ ap (λ i. j i x) p ∙ e in grind arith)
      here (Some y) q p = ap (λ i. K i x) (sym p) ∙ at_stays x y (P.lends x y q) ∙ sym (R.roots x y q) ∙ ap (λ i. j i x) p ∙ e

      go : ((nat_eq f1 h ≡ true) × (f1 ≡ h)) ⊎ ((nat_eq f1 h ≡ false) × (f1 ≡ h → ⊥)) → K h x ≡ Some r
      go (inl p) = here (P.lent x) refl p.1
      go (inr p) = if_false (in_frame f2 (P.stays x)) (j h x) p.0 ∙ e

  pub nears : Nears j K f2 f1
  nears h x g y e = go (both_at h x g y e)
    where
      here : (o : Option ℕ) → P.lent x ≡ o → h ≡ f1 → g ≡ f2 → P.stays x ≡ Some y → (j h x ≡ Some (g, y)) ⊎ ((j h x ≡ None) × (f1 ≤ h) × (f2 ≤ g) × ((h' x' : ℕ) → j h' x' ≡ Some (g, y) → ⊥))
      here (Some z) q a b s = inl (ap (λ i. j i x) a ∙ R.roots x z q ∙ ap₂ (λ f n. Some (f, n)) (sym b) (let k : z ≡ y = val (sym (P.lends x z q) ∙ s) in k))
      here None q a b s = inr (
        ap (λ i. j i x) a ∙ R.none x q,
        omega (arith, a),
        omega (arith, b),
        λ h' x' e'.
            let (c, d) = R.only h' x' y (e' ∙ ap (λ f. Some (f, y)) b) in
            let same : x' ≡ x = sym (P.same x' y (P.lends x' y d)) ∙ P.same x y s in
            let z : ◌≡◌ {A = Option ℕ} None (Some y) = sym q ∙ ap P.lent (sym same) ∙ d in
            absurd (grind arith),
      )

      go : ((h ≡ f1) × (g ≡ f2) × (P.stays x ≡ Some y)) ⊎ ((f1 ≡ h → ⊥) × (j h x ≡ Some (g, y))) → (j h x ≡ Some (g, y)) ⊎ ((j h x ≡ None) × (f1 ≤ h) × (f2 ≤ g) × ((h' x' : ℕ) → j h' x' ≡ Some (g, y) → ⊥))
      go (inl p) = here (P.lent x) refl p.0 p.1 p.2
      go (inr p) = inl p.1

  -- what stands in the target's frame stands for a local of the source's
  pub into_own : (h x y : ℕ) → K h x ≡ Some (f2, y) → (h ≡ f1) × (P.stays x ≡ Some y)
  into_own h x y e = go (both_at h x f2 y e)
    where
      go : ((h ≡ f1) × (f2 ≡ f2) × (P.stays x ≡ Some y)) ⊎ ((f1 ≡ h → ⊥) × (j h x ≡ Some (f2, y))) → (h ≡ f1) × (P.stays x ≡ Some y)
      go (inl p) = (p.0, p.2)
      go (inr p) = absurd (p.0 (sym (R.only h x y p.1).0))

  pub onces : (m1 : Memory) (x y h x' : ℕ) (v : Value) → K f1 x ≡ Some (f2, y) → K h x' ≡ Some (f2, y) → local_at m1 h x' ≡ Some v → (h ≡ f1) × (x' ≡ x)
  onces m1 x y h x' v e e' q = (let (a, b) = into_own h x' y e' in let (c, d) = into_own f1 x y e in (a, sym (P.same x' y b) ∙ P.same x y d))

  pub away : (x y : ℕ) → P.split x ≡ Some y → K f1 x ≡ None
  away x y s = own_at x ∙ ap (in_frame f2) (P.away x y s)

  pub free : (h x z : ℕ) → K h x ≡ Some (f2, z) → P.owner z ≡ None
  free h x z e = P.free x z (into_own h x z e).1

  -- a split local's fields' locals are lent to nobody
  pub nobody : (x y i : ℕ) → P.split x ≡ Some y → Has D ts1 x i → (h z : ℕ) → j h z ≡ Some (f2, y + i) → ⊥
  nobody x y i s hi h z e = parts.not_there j K low f2 f1 P.split (Has D ts1) P.owner P.back away free x y i s hi h z (low h z _ e)

  abbrev pub AddrTo : Addr → Addr → Type 0
  AddrTo = parts.AddrTo j K low f2 f1 P.split (Has D ts1) P.owner P.back away free

  abbrev pub Fields : Memory → Memory → Type 0
  Fields = Parts j f2 f1 P.split (Has D ts1)

  no_lent : (x y : ℕ) → P.split x ≡ Some y → j f1 x ≡ None
  no_lent x y s = go (P.lent x) refl
    where
      go : (o : Option ℕ) → P.lent x ≡ o → j f1 x ≡ None
      go None q = R.none x q
      go (Some z) q = absurd (let k : ◌≡◌ {A = Option ℕ} None (Some z) = sym (P.away x y s) ∙ P.lends x z q in grind arith)

  -- the source's write at a field of a split local, and the target's at that of the field
  pub leaves_field1 : (G : TypeMap) (m2 m1 : Memory) (a : Addr) (v : Value) (x y : ℕ) → a.frame ≡ f1 → a.local ≡ x → P.split x ≡ Some y → Leaves D G j j f2 f1 m2 (write m1 a v) m2 m1
  leaves_field1 G m2 m1 a v x y fr lo s = leaves_source D G j m2 m1 a v f2 f1 (omega (arith, fr))

  pub leaves_field2 : (G : TypeMap) (m2 m1 : Memory) (b : Addr) (w : Value) (x y i : ℕ) → b.frame ≡ f2 → b.local ≡ y + i → P.split x ≡ Some y → Has D ts1 x i → Leaves D G j j f2 f1 (write m2 b w) m1 m2 m1
  leaves_field2 G m2 m1 b w x y i fr lo s hi = leaves_target D G j m2 m1 b w f2 f1 (λ h z e. nobody x y i s hi h z (e ∙ ap₂ (λ f n. Some (f, n)) fr lo)) (omega (arith, fr))

  -- the source's write at a split local
  pub linked_source : (m2 m1 m2' : Memory) (a : Addr) (v : Value) → Linked j K m2 m1 → MemRel j K m2' (write m1 a v) → Linked j K m2' (write m1 a v)
  linked_source m2 m1 m2' a v l r = record { mem = r; apart = λ f y f' y' q u u' e e' k k'. (let (o, p) = write_back m1 a v f y u k in let (o', p') = write_back m1 a v f' y' u' k' in l.apart f y f' y' q o o' e e' p p') }

  module _ (G : TypeMap) (bok : (t : Tree) → HasTy D G t (blank D t)) (lok : (x : ℕ) (t : Tree) → slice_get ts1 x ≡ Some t → G f1 x ≡ Some t) (needs : NeedsOk D) (m2s m1s : Memory) where
    abbrev pub NearQ : Between
    NearQ = Held D G j K f2 f1 m2s m1s

    -- the memories: locals that stay, and fields of those that are split
    pub record Pieces (m2 m1 : Memory) : Type 0 where
      pub near : NearQ m2 m1
      pub fields : Fields m2 m1

    -- locals that stay one for one, from any memories on
    abbrev NearFrom : Memory → Memory → Between
    NearFrom m2 m1 = near.Q D ts1 ts2 f1 f2 j K low G bok lok needs f2 f1 m2 m1 nears (onces m1)

    abbrev as_kept : (m2 m1 : Memory) → kept.Kept D ts1 ts2 f1 f2 j K low G bok lok (NearFrom m2 m1)
    as_kept m2 m1 = near.near_kept D ts1 ts2 f1 f2 j K low G bok lok needs f2 f1 m2 m1 nears (onces m1)

    begun : (m2 m1 : Memory) → NearQ m2 m1 → NearFrom m2 m1 m2 m1
    begun m2 m1 q = near.near_start D ts1 ts2 f1 f2 j K low G bok lok needs f2 f1 m2 m1 nears (onces m1) q.linked q.typed

    went : (m2 m1 m2' m1' : Memory) → NearQ m2 m1 → NearFrom m2 m1 m2' m1' → NearQ m2' m1'
    went m2 m1 m2' m1' q n = record { linked = n.linked; typed = n.typed; leaves = leaves_then D G j j j f2 f1 m2s m1s m2 m1 m2' m1' q.leaves n.leaves; back = λ h x v e. (let (u, k) = n.back h x v e in q.back h x u k) }

    pub near_clear : (m2 m1 : Memory) (x y : ℕ) (t : Tree) → NearQ m2 m1 → K f1 x ≡ Some (f2, y) → slice_get ts1 x ≡ Some t → NearQ (write m2 (local_addr f2 y) (blank D t)) (write m1 (local_addr f1 x) (blank D t))
    near_clear m2 m1 x y t q e et = went m2 m1 (write m2 (local_addr f2 y) (blank D t)) (write m1 (local_addr f1 x) (blank D t)) q ((as_kept m2 m1).clear m2 m1 x y t (begun m2 m1 q) e et)

    abbrev pub S : Sides
    S = spots.sides D ts1 ts2 f1 f2 j AddrTo (PlaceTo D ts1 ts2 P) G bok lok

    backs : (m2 m1 : Memory) (a : Addr) (v : Value) → NearQ m2 m1 → (h x : ℕ) (u : Value) → local_at (write m1 a v) h x ≡ Some u → (o : Value) × (local_at m1s h x ≡ Some o)
    backs m2 m1 a v q h x u e = let (o, k) = write_back m1 a v h x u e in q.back h x o k

    both_part : (m2 m1 : Memory) (a b : Addr) (t : Tree) (v w : Value) → Pieces m2 m1 → PartOf f2 f1 P.split (Has D ts1) a b → AddrTy D G a t → HasTy D G t v → Same j v w → Pieces (write m2 b w) (write m1 a v)
    both_part m2 m1 a b t v w q h at ty hv =
        let (mem, fs) = parts.write_part j K low f2 f1 P.split (Has D ts1) P.owner P.back away free m2 m1 a b v w q.near.linked.mem q.fields h hv.0 in
        record {
          near = record {
            linked = linked_source m2 m1 (write m2 b w) a v q.near.linked mem;
            typed = write_ty D G m1 a t v q.near.typed at ty;
            leaves = leaves_then D G j j j f2 f1 m2s m1s m2 m1 (write m2 b w) (write m1 a v) q.near.leaves (leaves_then D G j j j f2 f1 m2 m1 m2 (write m1 a v) (write m2 b w) (write m1 a v) (leaves_field1 G m2 m1 a v a.local h.first h.frame1 refl h.split) (leaves_field2 G m2 (write m1 a v) b w a.local h.first h.field h.frame2 h.local h.split h.has));
            back = backs m2 m1 a v q.near;
          };
          fields = fs;
        }

    both_any : (m2 m1 : Memory) (a b : Addr) (t : Tree) (v w old : Value) → Pieces m2 m1 → AddrTo a b → AddrTy D G a t → value_at m1 a ≡ Some old → kept.Fair D ts1 ts2 f1 f2 j K low G bok lok a t old → HasTy D G t v → Same j v w → Pieces (write m2 b w) (write m1 a v)
    both_any m2 m1 a b t v w old q (inl h) at e fair ty hv = record { near = went m2 m1 (write m2 b w) (write m1 a v) q.near ((as_kept m2 m1).both m2 m1 a b t v w old (begun m2 m1 q.near) h at e fair ty hv); fields = parts.else_parts j K low f2 f1 P.split (Has D ts1) P.owner P.back away free m2 m1 a b v w q.fields h }
    both_any m2 m1 a b t v w old q (inr h) at e fair ty hv = both_part m2 m1 a b t v w q h at ty hv

    -- the same in the target's memory
    fields_same : (m2 m2' m1 : Memory) → ((g y : ℕ) → local_at m2' g y ≡ local_at m2 g y) → Fields m2' m1 → Fields m2 m1
    fields_same m2 m2' m1 same p = record { at = λ x y i s hi v u e1 e2. (let (w, g, r) = p.at x y i s hi v u e1 e2 in (w, sym (same f2 (y + i)) ∙ g, r)) }

    mem_same : (m2 m2' m1 : Memory) → ((g y : ℕ) → local_at m2' g y ≡ local_at m2 g y) → MemRel j K m2' m1 → MemRel j K m2 m1
    mem_same m2 m2' m1 same p = record { at = λ f x g y l u e. (let (w, k, r) = p.at f x g y l u e in (w, sym (same g y) ∙ k, r)) }

    alone_any : (m2 m1 : Memory) (a b : Addr) (t : Tree) (v w old : Value) → Pieces m2 m1 → AddrTo a b → AddrTy D G a t → needs_drop D t ≡ false → value_at m1 a ≡ Some old → value_at m2 b ≡ Some w → HasTy D G t v → ValueRel j v w → Pieces m2 (write m1 a v)
    alone_any m2 m1 a b t v w old q (inl h) at nd e1 e2 ty rel = record { near = went m2 m1 m2 (write m1 a v) q.near ((as_kept m2 m1).alone m2 m1 a b t v w old (begun m2 m1 q.near) h at nd e1 e2 ty rel); fields = fields_same m2 (write m2 b w) (write m1 a v) (λ g y. write_again m2 b w g y e2) (parts.else_parts j K low f2 f1 P.split (Has D ts1) P.owner P.back away free m2 m1 a b v w q.fields h) }
    alone_any m2 m1 a b t v w old q (inr h) at nd e1 e2 ty rel =
        let (mem, fs) = parts.write_part j K low f2 f1 P.split (Has D ts1) P.owner P.back away free m2 m1 a b v w q.near.linked.mem q.fields h rel in
        record {
          near = record {
            linked = linked_source m2 m1 m2 a v q.near.linked (mem_same m2 (write m2 b w) (write m1 a v) (λ g y. write_again m2 b w g y e2) mem);
            typed = write_ty D G m1 a t v q.near.typed at ty;
            leaves = leaves_then D G j j j f2 f1 m2s m1s m2 m1 m2 (write m1 a v) q.near.leaves (leaves_field1 G m2 m1 a v a.local h.first h.frame1 refl h.split);
            back = backs m2 m1 a v q.near;
          };
          fields = fields_same m2 (write m2 b w) (write m1 a v) (λ g y. write_again m2 b w g y e2) fs;
        }

    abbrev To : Place → Place → Type 0
    To = PlaceTo D ts1 ts2 P

    pub leads : (m2 m1 : Memory) (p q : Place) (a : Addr) → Pieces m2 m1 → To p q → resolve S.source m1 p ≡ Some a → (b : Addr) × (resolve S.target m2 q ≡ Some b) × AddrTo a b
    unfolding resolve local_addr
    leads m2 m1 p q a l (inl (s, same)) e =
        let (b, g, r) = parts.walk_to j K low f2 f1 P.split (Has D ts1) P.owner P.back away free m2 m1 l.near.linked.mem l.fields p.proj (record { frame = f1; local = p.local; path = [] }) (record { frame = f2; local = q.local; path = [] }) a (inl (record { root = at_stays p.local q.local s; path = refl })) e in
        (b, subst (λ ps. walk m2 (record { frame = f2; local = q.local; path = [] }) ps ≡ Some b) same g, r)
    leads m2 m1 p q a l (inr h) e =
        let (b, g, r) = parts.resolve_part j K low f2 f1 P.split (Has D ts1) P.owner P.back away free m2 m1 l.near.linked.mem l.fields p.local h.first h.field q.proj a h.split h.has (subst (λ ps. walk m1 (record { frame = f1; local = p.local; path = [] }) ps ≡ Some a) h.proj e) in
        (b, subst (λ y. walk m2 (record { frame = f2; local = y; path = [] }) q.proj ≡ Some b) (sym h.local) g, r)

    pub place_types : (p q : Place) → To p q → type_of S.source p ≡ type_of S.target q
    unfolding type_of
    place_types p q h = types_same D ts1 ts2 P p q h

    place_derefs : (p q : Place) → To p q → has_deref p.proj ≡ has_deref q.proj
    place_derefs p q (inl (s, same)) = ap has_deref same
    place_derefs p q (inr h) = ap has_deref h.proj

    pub split_kept : spots.Kept D ts1 ts2 f1 f2 j AddrTo To G bok lok Pieces
    split_kept = record {
      typed = λ m2 m1 q. q.near.typed;
      types = λ p q h t e. sym (place_types p q h) ∙ e;
      scalars = place_types;
      derefs = place_derefs;
      leads = leads;
      values = λ m2 m1 a b v q h e. parts.value_to j K low f2 f1 P.split (Has D ts1) P.owner P.back away free m2 m1 q.near.linked.mem q.fields a b v h e;
      both = both_any;
      alone = alone_any;
    }

    -- references lead to lent locals, or through a reference
    pub refers_through : (p q : Place) → has_deref p.proj ≡ true → To p q → Refers S Pieces p q
    unfolding resolve local_addr walk project
    refers_through p q hd (inl (s, same)) = record { refers = λ m2 m1 a l e. (let (b, g, r) = parts.walk_deref_to j K low f2 f1 P.split (Has D ts1) P.owner P.back away free m2 m1 l.near.linked.mem l.fields p.proj (record { frame = f1; local = p.local; path = [] }) (record { frame = f2; local = q.local; path = [] }) a hd (inl (record { root = at_stays p.local q.local s; path = refl })) e in (b, subst (λ ps. walk m2 (record { frame = f2; local = q.local; path = [] }) ps ≡ Some b) same g, r)) }
    refers_through p q hd (inr h) = record { refers = λ m2 m1 a l e. through m2 m1 a l e }
      where
        at_field : (m1 : Memory) (a' : Addr) → project m1 (record { frame = f1; local = p.local; path = [] }) (Field h.field) ≡ Some a' → PartOf f2 f1 P.split (Has D ts1) a' (record { frame = f2; local = q.local; path = [] })
        at_field m1 a' e = go (value_at m1 (record { frame = f1; local = p.local; path = Field h.field ∷ [] })) e
          where
            go : (o : Option Value) → there o (record { frame = f1; local = p.local; path = Field h.field ∷ [] }) ≡ Some a' → PartOf f2 f1 P.split (Has D ts1) a' (record { frame = f2; local = q.local; path = [] })
            go None e = absurd (grind arith)
            go (Some v) e = subst (λ a. PartOf f2 f1 P.split (Has D ts1) a (record { frame = f2; local = q.local; path = [] })) (val e) (record { first = h.first; field = h.field; frame1 = refl; frame2 = refl; split = h.split; has = h.has; local = h.local; path = refl })

        through : (m2 m1 : Memory) (a : Addr) → Pieces m2 m1 → walk m1 (record { frame = f1; local = p.local; path = [] }) p.proj ≡ Some a → AddrThere j a (walk m2 (record { frame = f2; local = q.local; path = [] }) q.proj)
        through m2 m1 a l e =
            let (a', e1, e2) = bind_some (subst (λ ps. walk m1 (record { frame = f1; local = p.local; path = [] }) ps ≡ Some a) h.proj e) in
            parts.walk_deref_to j K low f2 f1 P.split (Has D ts1) P.owner P.back away free m2 m1 l.near.linked.mem l.fields q.proj a' (record { frame = f2; local = q.local; path = [] }) a (sym (ap has_deref h.proj) ∙ hd) (inr (at_field m1 a' e1)) e2

    pub refers_lent : (p q : Place) → P.lent p.local ≡ Some q.local → p.proj ≡ q.proj → Refers S Pieces p q
    unfolding resolve local_addr
    refers_lent p q s same = record { refers = λ m2 m1 a l e. (let (b, g, r) = walk_rel j j K (λ f x r e. e) low m2 m1 l.near.linked.mem p.proj (record { frame = f1; local = p.local; path = [] }) (record { frame = f2; local = q.local; path = [] }) a (record { root = R.roots p.local q.local s; path = refl }) e in (b, subst (λ ps. walk m2 (record { frame = f2; local = q.local; path = [] }) ps ≡ Some b) same g, r)) }

    -- the same in the source's memory
    pub pieces_same : (m2 m1 m1' : Memory) → ((h x : ℕ) → local_at m1' h x ≡ local_at m1 h x) → Pieces m2 m1 → Pieces m2 m1'
    pieces_same m2 m1 m1' same q = record {
      near = record {
        linked = record { mem = record { at = λ f x g y l v e. q.near.linked.mem.at f x g y l v (sym (same f x) ∙ e) }; apart = λ f x f' x' p u u' e e' k k'. q.near.linked.apart f x f' x' p u u' e e' (sym (same f x) ∙ k) (sym (same f' x') ∙ k') };
        typed = record { at = λ f x t v g e. q.near.typed.at f x t v g (sym (same f x) ∙ e) };
        leaves = record {
          up = q.near.leaves.up;
          same1 = q.near.leaves.same1;
          same2 = q.near.leaves.same2;
          source = λ h x l e. same h x ∙ q.near.leaves.source h x l e;
          target = q.near.leaves.target;
          steady = λ h x g y t v' w' l e ty p k. q.near.leaves.steady h x g y t v' w' l e ty (sym (same h x) ∙ p) k;
        };
        back = λ h x v e. q.near.back h x v (sym (same h x) ∙ e);
      };
      fields = record { at = λ x y i s hi v u e1 e2. q.fields.at x y i s hi v u (sym (same f1 x) ∙ e1) e2 };
    }

    -- of the source alone, at a place of this frame
    leaves_far : (m2 m1 : Memory) (a : Addr) (v : Value) → a.frame ≡ f1 → Leaves D G j j f2 f1 m2 (write m1 a v) m2 m1
    leaves_far m2 m1 a v fr = record {
      up = λ h x r e. e;
      same1 = λ h x l. refl;
      same2 = λ h x g y l e. e;
      source = λ h x l e. same h x l;
      target = λ g y l e. refl;
      steady = λ h x g y t v' w' l e ty p q. record { old1 = v'; old2 = w'; was1 = sym (same h x l) ∙ p; was2 = q; agree = λ z. z };
    }
      where
        same : (h x : ℕ) → h < f1 → local_at (write m1 a v) h x ≡ local_at m1 h x
        same h x l = write_other m1 a v h x (λ c d. omega (arith, c, l, fr))

    alone_far : (m2 m1 : Memory) (a b : Addr) (t : Tree) (v w old : Value) → Pieces m2 m1 → AddrTo a b → AddrTy D G a t → a.frame ≡ f1 → value_at m1 a ≡ Some old → value_at m2 b ≡ Some w → HasTy D G t v → ValueRel j v w → Pieces m2 (write m1 a v)
    alone_far m2 m1 a b t v w old q h at fr e1 e2 ty rel =
        let same : (g y : ℕ) → local_at (write m2 b w) g y ≡ local_at m2 g y = λ g y. write_again m2 b w g y e2 in
        let (l, fs) = both h in
        record {
          near = record {
            linked = record { mem = mem_same m2 (write m2 b w) (write m1 a v) same l.mem; apart = l.apart };
            typed = write_ty D G m1 a t v q.near.typed at ty;
            leaves = leaves_then D G j j j f2 f1 m2s m1s m2 m1 m2 (write m1 a v) q.near.leaves (leaves_far m2 m1 a v fr);
            back = backs m2 m1 a v q.near;
          };
          fields = fields_same m2 (write m2 b w) (write m1 a v) same fs;
        }
      where
        both : AddrTo a b → Linked j K (write m2 b w) (write m1 a v) × Fields (write m2 b w) (write m1 a v)
        both (inl h) = (write_linked j K m2 m1 a b v w old q.near.linked h rel e1, parts.else_parts j K low f2 f1 P.split (Has D ts1) P.owner P.back away free m2 m1 a b v w q.fields h)
        both (inr h) = (let (mem, fs) = parts.write_part j K low f2 f1 P.split (Has D ts1) P.owner P.back away free m2 m1 a b v w q.near.linked.mem q.fields h rel in (linked_source m2 m1 (write m2 b w) a v q.near.linked mem, fs))

    -- a move of the source that is a copy of the target
    pub blank_alone : (m2 m1 : Memory) (p q : Place) (a : Addr) (t : Tree) (v : Value) → Pieces m2 m1 → To p q → (has_deref p.proj ≡ true → needs_drop D t ≡ false) → resolve S.source m1 p ≡ Some a → type_of S.source p ≡ Some t → value_at m1 a ≡ Some v → Pieces m2 (write m1 a (blank D t))
    unfolding resolve local_addr
    blank_alone m2 m1 p q a t v l h mo er et ev =
        let (b, g, r) = leads m2 m1 p q a l h er in
        let (w, gw, rel) = split_kept.values m2 m1 a b v l r ev in
        let at = resolve_ty D G bok ts1 f1 lok m1 p a t l.near.typed et er in
        let ty = value_at_ty D G m1 a t v l.near.typed at ev in
        go b w r at (blank_any D G j t v w ty rel) gw (has_deref p.proj) refl
      where
        go : (b : Addr) (w : Value) → AddrTo a b → AddrTy D G a t → ValueRel j (blank D t) w → value_at m2 b ≡ Some w → (d : Bool) → has_deref p.proj ≡ d → Pieces m2 (write m1 a (blank D t))
        go b w r at rel gw true d = alone_any m2 m1 a b t (blank D t) w v l r at (mo d) ev gw (bok t) rel
        go b w r at rel gw false d = alone_far m2 m1 a b t (blank D t) w v l r at (walk_plain p.proj m1 (record { frame = f1; local = p.local; path = [] }) a d er).0 ev gw (bok t) rel
