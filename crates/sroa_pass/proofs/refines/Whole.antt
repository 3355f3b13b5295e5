-- One split local is written as a whole: the target writes its fields one by one, while nothing is said of them, and then the source writes it.
use Rattle.std.proofs.Common.{◌≡◌, ◌⊎◌, inl, inr, refl, sym, ap, ap₂, ◌∙◌, subst, ℕ, zero, suc, ◌+◌, ◌<◌, true, false, nat_eq, if◌then◌else◌, List, [], ◌∷◌, Option, Some, None, slice_get, option_map, arith}
use Rattle.mir_syntax.specs.declared.body.Proj.TheVariants.{Field}
use Rattle.mir_syntax.specs.declared.body.Place.{Place}
use Rattle.mir_syntax.specs.declared.body.Operand.{Operand}
use Rattle.mir_syntax.specs.Tree.{Tree, scalar, empty, more, ref, ref_mut, named}
use Rattle.mir_syntax.specs.Crate.{«use», TypedStmt, assign}
use Rattle.mir_syntax.specs.Shapes.{Shape, ◌>>=◌, fields_of, field_ty, place_ty}
use Rattle.mir_semantics.specs.Values.{Addr, Value, nil, listed, whole, part, put, blank}
use Rattle.mir_semantics.specs.Memory.{Memory, local_at, value_at, write, walk}
use Rattle.mir_semantics.specs.Step.{Here, Dest, local_addr, set_blank, allows, resolve, type_of, guard_of, dest_of, store, read, read_all, eval, exec}
use Rattle.mir_renaming.specs.Renaming.{Renaming, SomeRel, RootOf}
use Rattle.mir_syntax.proofs.Binds.{bind_some, some_bind}
use Rattle.mir_renaming.proofs.Memory.{same_or_not, root_or_not, write_same, write_other, write_back, write_source}
use Rattle.mir_syntax.proofs.Bools.{if_true, if_false}
use Rattle.mir_renaming.proofs.Statements.{only_true}
use Rattle.mir_renaming.proofs.Types.{TypeMap, HasTy, OperandsTy, write_ty, at_path_ty, blank_any}
use Rattle.mir_renaming.proofs.Agree.{NeedsOk}
use Rattle.mir_relate.specs.Pass.{MoveOk}
use Rattle.mir_relate.specs.Alike.{Between, Sides, Same}
use Rattle.mir_relate.proofs.Leaves.{leaves_then}
use Rattle.sroa_pass.proofs.Plans.{local_place}
use Rattle.sroa_pass.proofs.refines.Parts as parts
use Rattle.sroa_pass.proofs.refines.Parts.{Parts, PartOf}
use Rattle.sroa_pass.proofs.Plans.{Has, Plan, PlaceTo}
use Rattle.mir_relate.proofs.Alike.{all_read}
use Rattle.sroa_pass.proofs.refines.Blanks.{blank_part, blank_under}
use Rattle.sroa_pass.proofs.refines.Rooms.{part_there, rows_ty}
use Rattle.sroa_pass.proofs.Fields.{Rows}
use Rattle.sroa_pass.proofs.refines.Copies.{field_copies, fields_copied}
use Rattle.sroa_pass.proofs.refines.Pieces as pieces
use Rattle.sroa_pass.proofs.refines.Pieces.{Roots}
use Rattle.sroa_pass.proofs.refines.Spots as spots

val : {A : Type 0} {x y : A} → Some x ≡ Some y → x ≡ y
val e = grind arith

-- statements one after another
abbrev pub exec_all : Here → Memory → List TypedStmt → Option Memory
exec_all h m [] = Some m
exec_all h m (s ∷ ss) = exec h m s >>= λ m'. exec_all h m' ss

-- the operands go to locals one after another
abbrev pub writes : ℕ → List Operand → List TypedStmt
writes y [] = []
writes y (o ∷ os) = assign (local_place y) («use» o) ∷ writes (suc y) os

-- a statement for each field, of the locals from one on
abbrev pub marks : (ℕ → TypedStmt) → ℕ → Tree → List TypedStmt
marks f y (more t ts) = f y ∷ marks f (suc y) ts
marks f y t = []

-- but for one local
abbrev pub others : ℕ → (ℕ → Option ℕ) → ℕ → Option ℕ
others x s z = if nat_eq z x then None else s z

pub other_is : (x : ℕ) (s : ℕ → Option ℕ) (z y : ℕ) → others x s z ≡ Some y → (z ≡ x → ⊥) × (s z ≡ Some y)
other_is x s z y e = go (same_or_not z x)
  where
    go : ((nat_eq z x ≡ true) × (z ≡ x)) ⊎ ((nat_eq z x ≡ false) × (z ≡ x → ⊥)) → (z ≡ x → ⊥) × (s z ≡ Some y)
    go (inl p) = absurd (let k : ◌≡◌ {A = Option ℕ} None (Some y) = sym (if_true None (s z) p.0) ∙ e in grind arith)
    go (inr p) = (p.1, sym (if_false None (s z) p.0) ∙ e)

pub other_at : (x : ℕ) (s : ℕ → Option ℕ) (z y : ℕ) → (z ≡ x → ⊥) → s z ≡ Some y → others x s z ≡ Some y
other_at x s z y ne e = go (same_or_not z x)
  where
    go : ((nat_eq z x ≡ true) × (z ≡ x)) ⊎ ((nat_eq z x ≡ false) × (z ≡ x → ⊥)) → others x s z ≡ Some y
    go (inl p) = absurd (ne p.1)
    go (inr p) = if_false None (s z) p.0 ∙ e

no_part : (k : ℕ) (v : Value) → part k nil ≡ Some v → ⊥
no_part zero v e = grind arith
no_part (suc k) v e = grind arith

module _ (D : List Shape) (ts1 ts2 : List Tree) (P : Plan D ts1 ts2) (x0 y0 : ℕ) (s0 : P.split x0 ≡ Some y0) where
  -- the plan without the local
  abbrev pub Without : Plan D ts1 ts2
  Without = record {
    split = others x0 P.split;
    stays = P.stays;
    lent = P.lent;
    owner = P.owner;
    same = P.same;
    kept = P.kept;
    lends = P.lends;
    away = λ x y e. P.away x y (other_is x0 P.split x y e).1;
    back = λ x y i e h. P.back x y i (other_is x0 P.split x y e).1 h;
    free = P.free;
    types = λ x y i e h. P.types x y i (other_is x0 P.split x y e).1 h;
    solid = λ x y e t q. P.solid x y (other_is x0 P.split x y e).1 t q;
  }

  -- places that are none of the local's stand for the same
  pub place_without : (p q : Place) → (p.local ≡ x0 → ⊥) → PlaceTo D ts1 ts2 P p q → PlaceTo D ts1 ts2 Without p q
  place_without p q ne (inl h) = inl h
  place_without p q ne (inr h) = inr (record { first = h.first; field = h.field; split = other_at x0 P.split p.local h.first ne h.split; has = h.has; local = h.local; proj = h.proj })

  module _ (f2 f1 : ℕ) (j : Renaming) (R : Roots D ts1 ts2 P f2 f1 j) where
    abbrev pub roots : Roots D ts1 ts2 Without f2 f1 j
    roots = record { roots = R.roots; none = R.none; only = R.only }

    module _ (G : TypeMap) (bok : (t : Tree) → HasTy D G t (blank D t)) (lok : (x : ℕ) (t : Tree) → slice_get ts1 x ≡ Some t → G f1 x ≡ Some t) (needs : NeedsOk D) (m2s m1s : Memory) where
      abbrev pub All : Between
      All = pieces.Pieces D ts1 ts2 P f2 f1 j R G bok lok needs m2s m1s

      abbrev pub Rest : Between
      Rest = pieces.Pieces D ts1 ts2 Without f2 f1 j roots G bok lok needs m2s m1s

      abbrev pub S : Sides
      S = pieces.S D ts1 ts2 P f2 f1 j R G bok lok needs m2s m1s

      abbrev To : Place → Place → Type 0
      To = PlaceTo D ts1 ts2 Without

      abbrev AddrTo : Addr → Addr → Type 0
      AddrTo = pieces.AddrTo D ts1 ts2 Without f2 f1 j roots

      pub rest : (m2 m1 : Memory) → All m2 m1 → Rest m2 m1
      rest m2 m1 q = record { near = record { linked = q.near.linked; typed = q.near.typed; leaves = q.near.leaves; back = q.near.back }; fields = record { at = λ x y i e h v u e1 e2. q.fields.at x y i (other_is x0 P.split x y e).1 h v u e1 e2 } }

      -- the local has a room for each field
      pub rooms : (m2 m1 : Memory) (v : Value) → All m2 m1 → local_at m1 f1 x0 ≡ Some v → (k : ℕ) → Has D ts1 x0 k → (o : Value) × (local_at m2 f2 (y0 + k) ≡ Some o)
      rooms m2 m1 v q e k h =
          let ty : HasTy D G h.ty v = q.near.typed.at f1 x0 h.ty v (lok x0 h.ty h.is) e in
          let (u, pu) = part_there D G k h.ty h.fields h.field v ty (P.solid x0 y0 s0 h.ty h.is) h.tuple h.at in
          let (w, g, r) = q.fields.at x0 y0 k s0 h v u e pu in
          (w, g)

      -- values of the fields, while nothing is said of them
      abbrev Holds : (ℕ → Option Value) → Memory → Type 0
      Holds F m2 = (k : ℕ) → Has D ts1 x0 k → local_at m2 f2 (y0 + k) ≡ F k

      abbrev With : (ℕ → Option Value) → Between
      With F m2 m1 = Rest m2 m1 × Holds F m2

      same_pair : (s t : ℕ × ℕ) → Some s ≡ Some t → s ≡ t
      same_pair s t e = grind arith

      -- what the rest writes is elsewhere
      elsewhere : (a b : Addr) (k : ℕ) → AddrTo a b → Has D ts1 x0 k → (f2 ≡ b.frame → (y0 + k) ≡ b.local → ⊥)
      elsewhere a b k (inl h) hk q t = parts.not_there j (pieces.K D ts1 ts2 P f2 f1 j R) (pieces.low D ts1 ts2 P f2 f1 j R) f2 f1 P.split (Has D ts1) P.owner P.back (pieces.away D ts1 ts2 P f2 f1 j R) (pieces.free D ts1 ts2 P f2 f1 j R) x0 y0 k s0 hk a.frame a.local (h.root ∙ ap₂ (λ f n. Some (f, n)) (sym q) (sym t))
      elsewhere a b k (inr h) hk q t =
          let (ne, s) = other_is x0 P.split a.local h.first h.split in
          let z : (a.local, h.field) ≡ (x0, k) = same_pair _ _ (sym (P.back a.local h.first h.field s h.has) ∙ ap P.owner (sym h.local ∙ sym t) ∙ P.back x0 y0 k s0 hk) in
          ne (ap (λ (c : ℕ × ℕ). c.0) z)

      abbrev base : spots.Kept D ts1 ts2 f1 f2 j AddrTo To G bok lok Rest
      base = pieces.split_kept D ts1 ts2 Without f2 f1 j roots G bok lok needs m2s m1s

      with_kept : (F : ℕ → Option Value) → spots.Kept D ts1 ts2 f1 f2 j AddrTo To G bok lok (With F)
      with_kept F = record {
        typed = λ m2 m1 q. base.typed m2 m1 q.0;
        types = base.types;
        scalars = base.scalars;
        derefs = base.derefs;
        leads = λ m2 m1 p q a l h e. base.leads m2 m1 p q a l.0 h e;
        values = λ m2 m1 a b v q h e. base.values m2 m1 a b v q.0 h e;
        both = λ m2 m1 a b t v w old q h at e fair ty hv. (base.both m2 m1 a b t v w old q.0 h at e fair ty hv, λ k hk. write_other m2 b w f2 (y0 + k) (elsewhere a b k h hk) ∙ q.1 k hk);
        alone = λ m2 m1 a b t v w old q h at nd e1 e2 ty hv. (base.alone m2 m1 a b t v w old q.0 h at nd e1 e2 ty hv, q.1);
      }

      -- the target writes a field
      pub field_write : (m2 m1 : Memory) (i : ℕ) (w : Value) → Rest m2 m1 → Has D ts1 x0 i → Rest (write m2 (local_addr f2 (y0 + i)) w) m1
      unfolding local_addr
      field_write m2 m1 i w q hi =
          let b : Addr = record { frame = f2; local = y0 + i; path = [] } in
          record {
            near = record {
              linked = record { apart = q.near.linked.apart; mem = parts.write_field j (pieces.K D ts1 ts2 P f2 f1 j R) (pieces.low D ts1 ts2 P f2 f1 j R) f2 f1 P.split (Has D ts1) P.owner P.back (pieces.away D ts1 ts2 P f2 f1 j R) (pieces.free D ts1 ts2 P f2 f1 j R) m2 m1 b x0 y0 i w refl refl s0 hi q.near.linked.mem };
              typed = q.near.typed;
              leaves = leaves_then D G j j j f2 f1 m2s m1s m2 m1 (write m2 b w) m1 q.near.leaves (pieces.leaves_field2 D ts1 ts2 P f2 f1 j R G m2 m1 b w x0 y0 i refl refl s0 hi);
              back = q.near.back;
            };
            fields = record {
              at = λ x y k s hk v u e1 e2. (
                  let (ne, s') = other_is x0 P.split x y s in
                  let (z, g, r) = q.fields.at x y k s hk v u e1 e2 in
                  (z, write_other m2 b w f2 (y + k) (λ c t. ne (ap (λ (c : ℕ × ℕ). c.0) (same_pair (x, k) (x0, i) (sym (P.back x y k s' hk) ∙ ap P.owner t ∙ P.back x0 y0 i s0 hi)))) ∙ g, r));
            };
          }

      -- a local takes an operand
      takes : (m2 : Memory) (y : ℕ) (t : Tree) (p : Operand) (r : Value × Memory) (old : Value) → slice_get ts2 y ≡ Some t → read S.target m2 p ≡ Some r → local_at r.1 f2 y ≡ Some old → exec S.target m2 (assign (local_place y) («use» p)) ≡ Some (write r.1 (local_addr f2 y) r.0)
      unfolding exec eval dest_of resolve walk type_of place_ty store guard_of value_at local_addr
      takes m2 y t p r old ty e o = some_bind _ e (some_bind _ (some_bind _ refl (some_bind _ (some_bind _ ty refl) refl)) (some_bind _ (some_bind _ o refl) refl))

      abbrev H1 : Here
      H1 = S.source

      abbrev pub AllAs : List Operand → List Operand → Type 0
      AllAs = spots.AllAs D ts1 ts2 f1 f2 j AddrTo To G bok lok

      abbrev pub MovesAre : List Operand → Type 0
      MovesAre [] = Unit {0}
      MovesAre (o ∷ os) = MoveOk H1 o × MovesAre os

      -- a field for each operand
      abbrev Long : List Operand → Tree → Type 0
      Long [] us = Unit {0}
      Long (o ∷ os) us = (u us' : Tree) × (us ≡ more u us') × Long os us'

      long_of : (os : List Operand) (us : Tree) → OperandsTy D G bok ts1 f1 lok os us → Long os us
      long_of [] us h = tt
      long_of (o ∷ os) us (u, us', same, ou, tys) = (u, us', same, long_of os us' tys)

      -- so many fields are there from here on
      abbrev Tail : ℕ → Tree → Type 0
      Tail i us = (k : ℕ) (u : Tree) → field_ty us k ≡ Some u → Has D ts1 x0 (i + k)

      abbrev Rooms : Memory → Type 0
      Rooms m2 = (k : ℕ) → Has D ts1 x0 k → (o : Value) × (local_at m2 f2 (y0 + k) ≡ Some o)

      -- after so many operands
      abbrev Written : ℕ → List Value → Memory → Memory → Type 0
      Written i vs m2' m2 = ((k : ℕ) → k < i → Has D ts1 x0 k → local_at m2' f2 (y0 + k) ≡ local_at m2 f2 (y0 + k)) × ((k : ℕ) (v : Value) → part k (listed vs) ≡ Some v → (w : Value) × (local_at m2' f2 (y0 + (i + k)) ≡ Some w) × Same j v w)

      pub builds_run : (i n : ℕ) (us : Tree) (os ps : List Operand) (m2 m1 : Memory) (r : List Value × Memory) → n ≡ y0 + i → Rest m2 m1 → Rooms m2 → AllAs os ps → MovesAre os → Tail i us → Long os us → read_all H1 m1 os ≡ Some r → (m2' : Memory) × (exec_all S.target m2 (writes n ps) ≡ Some m2') × Rest m2' r.1 × Written i r.0 m2' m2
      unfolding read_all local_addr
      builds_run i n us [] [] m2 m1 r ne q ro al mo ta ty e = subst (λ (r : List Value × Memory). (m2' : Memory) × (exec_all S.target m2 [] ≡ Some m2') × Rest m2' r.1 × Written i r.0 m2' m2) (val e) (m2, refl, q, (λ k l h. refl, λ k v e. absurd (no_part k v e)))
      builds_run i n us (o ∷ os) (p ∷ ps) m2 m1 r ne q ro al mo ta ty e =
          let (u, us', same, tys) = ty in
          let (x, e1, k1) = bind_some e in
          let (y, e2, k2) = bind_some k1 in
          let F : ℕ → Option Value = λ k. local_at m2 f2 (y0 + k) in
          let hi : Has D ts1 x0 i = subst (Has D ts1 x0) (let z : i + 0 ≡ i = omega arith in z) (ta 0 u (ap (λ t. field_ty t 0) same)) in
          let (x', g1, hv, (qa, held)) = (spots.reads_as D ts1 ts2 f1 f2 j AddrTo To G bok lok (With F) (with_kept F) o p al.0 mo.0).reads m2 m1 x (q, λ k hk. refl) e1 in
          let (old, eo) = ro i hi in
          let m2b = write x'.1 (local_addr f2 (y0 + i)) x'.0 in
          let there : local_at x'.1 f2 (y0 + i) ≡ Some old = held i hi ∙ eo in
          let qb : Rest m2b x.1 = field_write x'.1 x.1 i x'.0 qa hi in
          let self : local_at m2b f2 (y0 + i) ≡ Some x'.0 = at_self x'.1 x'.0 old i there in
          let far : (k : ℕ) → (k ≡ i → ⊥) → local_at m2b f2 (y0 + k) ≡ local_at x'.1 f2 (y0 + k) = λ k nk. at_far x'.1 x'.0 i k nk in
          let ro' : Rooms m2b = λ k hk. (let (o, eo) = ro k hk in room_after x'.1 x'.0 i k old o there (held k hk ∙ eo)) in
          let ta' : Tail (suc i) us' = λ k t e. subst (Has D ts1 x0) (let z : i + suc k ≡ suc i + k = omega arith in z) (ta (suc k) t (ap (λ t. field_ty t (suc k)) same ∙ e)) in
          let (m2', g2, q', (below, here)) = builds_run (suc i) (suc n) us' os ps m2b x.1 y (omega (arith, ne)) qb ro' al.1 mo.1 ta' tys e2 in
          let ran : exec_all S.target m2 (writes n (p ∷ ps)) ≡ Some m2' = some_bind _ (ap (λ n. exec S.target m2 (assign (local_place n) («use» p))) ne ∙ takes m2 (y0 + i) hi.field p x' old (P.types x0 y0 i s0 hi) g1 there) g2 in
          subst (λ (r : List Value × Memory). (m2' : Memory) × (exec_all S.target m2 (writes n (p ∷ ps)) ≡ Some m2') × Rest m2' r.1 × Written i r.0 m2' m2) (val k2) (
            m2',
            ran,
            q',
            (λ k l hk. below k (omega (arith, l)) hk ∙ far k (λ z. omega (arith, z, l)) ∙ held k hk, λ k v e. after m2' m2b x.0 x'.0 y.0 hi (below i (omega arith) hi ∙ self) hv here k v e),
          )
        where
          at_self : (m : Memory) (w old : Value) (i : ℕ) → local_at m f2 (y0 + i) ≡ Some old → local_at (write m (local_addr f2 (y0 + i)) w) f2 (y0 + i) ≡ Some w
          at_self m w old i o = write_same m (local_addr f2 (y0 + i)) w f2 (y0 + i) (refl, refl) ∙ ap (option_map (put [] w)) o

          at_far : (m : Memory) (w : Value) (i k : ℕ) → (k ≡ i → ⊥) → local_at (write m (local_addr f2 (y0 + i)) w) f2 (y0 + k) ≡ local_at m f2 (y0 + k)
          at_far m w i k nk = write_other m (local_addr f2 (y0 + i)) w f2 (y0 + k) (λ c t. nk (let t' : (y0 + k) ≡ (y0 + i) = t in omega (arith, t')))

          room_after : (m : Memory) (w : Value) (i k : ℕ) (old o : Value) → local_at m f2 (y0 + i) ≡ Some old → local_at m f2 (y0 + k) ≡ Some o → (o : Value) × (local_at (write m (local_addr f2 (y0 + i)) w) f2 (y0 + k) ≡ Some o)
          room_after m w i k old o e1 e2 = go (same_or_not k i)
            where
              go : ((nat_eq k i ≡ true) × (k ≡ i)) ⊎ ((nat_eq k i ≡ false) × (k ≡ i → ⊥)) → (o : Value) × (local_at (write m (local_addr f2 (y0 + i)) w) f2 (y0 + k) ≡ Some o)
              go (inl z) = (w, ap (λ k. local_at (write m (local_addr f2 (y0 + i)) w) f2 (y0 + k)) z.1 ∙ at_self m w old i e1)
              go (inr z) = (o, at_far m w i k z.1 ∙ e2)

          after : (m2' m2b : Memory) (v w : Value) (vs : List Value) → Has D ts1 x0 i → local_at m2' f2 (y0 + i) ≡ Some w → Same j v w → ((k : ℕ) (v : Value) → part k (listed vs) ≡ Some v → (w : Value) × (local_at m2' f2 (y0 + (suc i + k)) ≡ Some w) × Same j v w) → (k : ℕ) (z : Value) → part k (listed (v ∷ vs)) ≡ Some z → (w : Value) × (local_at m2' f2 (y0 + (i + k)) ≡ Some w) × Same j z w
          after m2' m2b v w vs hi g hv here zero z e = (w, ap (local_at m2' f2) (let z : y0 + (i + 0) ≡ y0 + i = omega arith in z) ∙ g, subst (λ v. Same j v w) (val e) hv)
          after m2' m2b v w vs hi g hv here (suc k) z e = let (u, g2, r) = here k z e in (u, ap (local_at m2' f2) (let z : y0 + (i + suc k) ≡ y0 + (suc i + k) = omega arith in z) ∙ g2, r)
      builds_run i n us [] (p ∷ ps) m2 m1 r ne q ro al mo ta ty e = absurd al
      builds_run i n us (o ∷ os) [] m2 m1 r ne q ro al mo ta ty e = absurd al

      -- the source writes the whole local, where the fields' values stand already
      pub whole_done : (m2 m1 : Memory) (t : Tree) (v : Value) → Rest m2 m1 → slice_get ts1 x0 ≡ Some t → HasTy D G t v → ((o : Value) → local_at m1 f1 x0 ≡ Some o → (k : ℕ) (u : Value) → Has D ts1 x0 k → part k v ≡ Some u → SomeRel j u (local_at m2 f2 (y0 + k))) → All m2 (write m1 (local_addr f1 x0) v)
      unfolding local_addr
      whole_done m2 m1 t v q et ty fields =
          let a : Addr = record { frame = f1; local = x0; path = [] } in
          record {
            near = record {
              linked = record {
                mem = write_source j (pieces.K D ts1 ts2 P f2 f1 j R) m2 m1 a v q.near.linked.mem (pieces.away D ts1 ts2 P f2 f1 j R x0 y0 s0);
                apart = λ f y f' y' p u u' e e' k k'. (let (o, c) = write_back m1 a v f y u k in let (o', c') = write_back m1 a v f' y' u' k' in q.near.linked.apart f y f' y' p o o' e e' c c');
              };
              typed = write_ty D G m1 a t v q.near.typed (record { local = t; is = lok x0 t et; path = refl }) ty;
              leaves = leaves_then D G j j j f2 f1 m2s m1s m2 m1 m2 (write m1 a v) q.near.leaves (pieces.leaves_field1 D ts1 ts2 P f2 f1 j R G m2 m1 a v x0 y0 refl refl s0);
              back = λ h x u e. (let (o, k) = write_back m1 a v h x u e in q.near.back h x o k);
            };
            fields = record { at = λ x y i s hi o u e1 e2. part_at x y i s hi o u e1 e2 (root_or_not a f1 x) };
          }
        where
          part_at : (x y i : ℕ) → P.split x ≡ Some y → Has D ts1 x i → (o u : Value) → local_at (write m1 (record { frame = f1; local = x0; path = [] }) v) f1 x ≡ Some o → part i o ≡ Some u → RootOf (record { frame = f1; local = x0; path = [] }) f1 x ⊎ (f1 ≡ f1 → x ≡ x0 → ⊥) → SomeRel j u (local_at m2 f2 (y + i))
          part_at x y i s hi o u e1 e2 (inl z) =
              let (o', e3) = write_back m1 (record { frame = f1; local = x0; path = [] }) v f1 x o e1 in
              let is : v ≡ o = val (sym (ap (option_map (put [] v)) e3) ∙ sym (write_same m1 (record { frame = f1; local = x0; path = [] }) v f1 x z) ∙ e1) in
              let first : y ≡ y0 = val (sym s ∙ ap P.split z.1 ∙ s0) in
              let (w, g, r) = fields o' (ap (local_at m1 f1) (sym z.1) ∙ e3) i u (subst (λ x. Has D ts1 x i) z.1 hi) (ap (part i) is ∙ e2) in
              (w, ap (λ y. local_at m2 f2 (y + i)) first ∙ g, r)
          part_at x y i s hi o u e1 e2 (inr n) = q.fields.at x y i (other_at x0 P.split x y (λ z. n refl z) s) hi o u (sym (write_other m1 (record { frame = f1; local = x0; path = [] }) v f1 x n) ∙ e1) e2

      -- the source stores at the whole local
      whole_store : (m m' : Memory) (d : Dest) (v : Value) → dest_of H1 m (local_place x0) ≡ Some d → store D m d v ≡ Some m' → (o : Value) × (local_at m f1 x0 ≡ Some o) × (write m (local_addr f1 x0) v ≡ m')
      unfolding dest_of resolve walk store value_at local_addr
      whole_store m m' d v e s =
          let (a, e1, k1) = bind_some e in
          let (t, e2, k2) = bind_some k1 in
          let a' : Addr = record { frame = f1; local = x0; path = [] } in
          let is : a' ≡ d.addr = val e1 ∙ ap (λ (d : Dest). d.addr) (val k2) in
          let (old, e3, k3) = bind_some s in
          let (ok, same) = only_true (allows D d.guard old) (write m d.addr v) m' k3 in
          let (o, e4, k4) = bind_some e3 in
          (o, ap (λ (a : Addr). local_at m a.frame a.local) is ∙ e4, ap (λ (a : Addr). write m a v) is ∙ same)

      as_moves : (os : List Operand) → MovesAre os → spots.MovesOk D ts1 ts2 f1 f2 j AddrTo To G bok lok Rest base os
      as_moves [] h = tt
      as_moves (o ∷ os) h = (h.0, as_moves os h.1)

      -- fields are built one by one
      pub built_does : (os ps : List Operand) (t us : Tree) (r : List Value × Memory) (d : Dest) (m1' : Memory) → All m2s m1s → AllAs os ps → MovesAre os → OperandsTy D G bok ts1 f1 lok os us → slice_get ts1 x0 ≡ Some t → fields_of D t ≡ Some us → HasTy D G t (listed r.0) → read_all H1 m1s os ≡ Some r → dest_of H1 r.1 (local_place x0) ≡ Some d → store D r.1 d (listed r.0) ≡ Some m1' → (m2' : Memory) × (exec_all S.target m2s (writes y0 ps) ≡ Some m2') × All m2' m1'
      built_does os ps t us r d m1' q al mo tys et eu ty e ed es =
          let (o, eo, same) = whole_store r.1 m1' d (listed r.0) ed es in
          let (x', g, hv, q1) = all_read S Rest os ps (spots.all_as D ts1 ts2 f1 f2 j AddrTo To G bok lok Rest base os ps al (as_moves os mo)) m2s m1s r (rest m2s m1s q) e in
          let (o1, eo1) = q1.near.back f1 x0 o eo in
          let tail : Tail 0 us = λ k u f. subst (Has D ts1 x0) (let z : k ≡ 0 + k = omega arith in z) (let h : Has D ts1 x0 k = record { ty = t; fields = us; field = u; is = et; tuple = eu; at = f } in h) in
          let (m2', ran, q2, (below, here)) = builds_run 0 y0 us os ps m2s m1s r (omega arith) (rest m2s m1s q) (rooms m2s m1s o1 q eo1) al mo tail (long_of os us tys) e in
          let done = whole_done m2' r.1 t (listed r.0) q2 et ty (λ o' eo' k u hk pu. (let (w, gw, rel) = here k u pu in (w, ap (local_at m2' f2) (let z : y0 + k ≡ y0 + (0 + k) = omega arith in z) ∙ gw, rel.0))) in
          (m2', ran, subst (λ m. All m2' m) same done)

      abbrev Blanked : ℕ → Tree → Memory → Memory → Type 0
      Blanked i us m2' m2 = ((k : ℕ) → k < i → Has D ts1 x0 k → local_at m2' f2 (y0 + k) ≡ local_at m2 f2 (y0 + k)) × ((k : ℕ) (u : Tree) (o : Value) → field_ty us k ≡ Some u → local_at m2 f2 (y0 + (i + k)) ≡ Some o → local_at m2' f2 (y0 + (i + k)) ≡ Some (blank D u))

      abbrev Row : ℕ → Tree → Type 0
      Row i us = (k : ℕ) (u : Tree) → field_ty us k ≡ Some u → Has D ts1 x0 (i + k) × (slice_get ts2 (y0 + (i + k)) ≡ Some u)

      -- blanks are written one by one
      blanks_run : (f : ℕ → TypedStmt) → ((m : Memory) (y : ℕ) → exec S.target m (f y) ≡ set_blank S.target m y) → (i n : ℕ) (us : Tree) (m2 m1 : Memory) → n ≡ y0 + i → Rest m2 m1 → Row i us → (m2' : Memory) × (exec_all S.target m2 (marks f n us) ≡ Some m2') × Rest m2' m1 × Blanked i us m2' m2
      unfolding set_blank local_addr
      blanks_run f fb i n (more u us) m2 m1 ne q ta =
          let (hi0, ty0) = ta 0 u refl in
          let i0 : i + 0 ≡ i = omega arith in
          let hi : Has D ts1 x0 i = subst (Has D ts1 x0) i0 hi0 in
          let ty2 : slice_get ts2 (y0 + i) ≡ Some u = ap (λ i. slice_get ts2 (y0 + i)) (sym i0) ∙ ty0 in
          let m2b = write m2 (record { frame = f2; local = y0 + i; path = [] }) (blank D u) in
          let qb : Rest m2b m1 = field_write m2 m1 i (blank D u) q hi in
          let far : (k : ℕ) → (k ≡ i → ⊥) → local_at m2b f2 (y0 + k) ≡ local_at m2 f2 (y0 + k) = λ k nk. write_other m2 (record { frame = f2; local = y0 + i; path = [] }) (blank D u) f2 (y0 + k) (λ c t. nk (let t' : (y0 + k) ≡ (y0 + i) = t in omega (arith, t'))) in
          let ta' : Row (suc i) us = λ k t e. (let z : i + suc k ≡ suc i + k = omega arith in let (h, g) = ta (suc k) t e in (subst (Has D ts1 x0) z h, ap (λ n. slice_get ts2 (y0 + n)) (sym z) ∙ g)) in
          let (m2', g2, q', (below, here)) = blanks_run f fb (suc i) (suc n) us m2b m1 (omega (arith, ne)) qb ta' in
          let ran : exec_all S.target m2 (marks f n (more u us)) ≡ Some m2' = some_bind _ (ap (λ n. exec S.target m2 (f n)) ne ∙ fb m2 (y0 + i) ∙ some_bind _ ty2 refl) g2 in
          let self = write_same m2 (record { frame = f2; local = y0 + i; path = [] }) (blank D u) f2 (y0 + i) (refl, refl) in
          (m2', ran, q', (λ k l hk. below k (omega (arith, l)) hk ∙ far k (λ z. omega (arith, z, l)), λ k t o e eo. after k t o e eo m2b m2' self (below i (omega arith) hi) (λ k t o e eo. here k t o e (far (suc i + k) (λ z. omega (arith, z)) ∙ eo))))
        where
          after : (k : ℕ) (t : Tree) (o : Value) → field_ty (more u us) k ≡ Some t → local_at m2 f2 (y0 + (i + k)) ≡ Some o → (m2b m2' : Memory) → local_at m2b f2 (y0 + i) ≡ option_map (put [] (blank D u)) (local_at m2 f2 (y0 + i)) → local_at m2' f2 (y0 + i) ≡ local_at m2b f2 (y0 + i) → ((k : ℕ) (t : Tree) (o : Value) → field_ty us k ≡ Some t → local_at m2 f2 (y0 + (suc i + k)) ≡ Some o → local_at m2' f2 (y0 + (suc i + k)) ≡ Some (blank D t)) → local_at m2' f2 (y0 + (i + k)) ≡ Some (blank D t)
          after zero t o e eo m2b m2' w b here =
              let z : y0 + (i + 0) ≡ y0 + i = omega arith in
              ap (local_at m2' f2) z ∙ b ∙ w ∙ ap (option_map (put [] (blank D u))) (ap (local_at m2 f2) (sym z) ∙ eo) ∙ ap (λ t. Some (blank D t)) (val e)
          after (suc k) t o e eo m2b m2' w b here =
              let z : y0 + (i + suc k) ≡ y0 + (suc i + k) = omega arith in
              ap (local_at m2' f2) z ∙ here k t o e (ap (local_at m2 f2) (sym z) ∙ eo)
      blanks_run f fb i n empty m2 m1 ne q ta = (m2, refl, q, (λ k l h. refl, λ k t o e eo. absurd (grind arith)))
      blanks_run f fb i n (scalar z) m2 m1 ne q ta = (m2, refl, q, (λ k l h. refl, λ k t o e eo. absurd (grind arith)))
      blanks_run f fb i n (ref z) m2 m1 ne q ta = (m2, refl, q, (λ k l h. refl, λ k t o e eo. absurd (grind arith)))
      blanks_run f fb i n (ref_mut z) m2 m1 ne q ta = (m2, refl, q, (λ k l h. refl, λ k t o e eo. absurd (grind arith)))
      blanks_run f fb i n (named d) m2 m1 ne q ta = (m2, refl, q, (λ k l h. refl, λ k t o e eo. absurd (grind arith)))

      -- a split local is marked live or dead
      pub stored_does : (f : ℕ → TypedStmt) → ((m : Memory) (y : ℕ) → exec S.target m (f y) ≡ set_blank S.target m y) → (t us : Tree) (m2 m1 m1' : Memory) → All m2 m1 → slice_get ts1 x0 ≡ Some t → fields_of D t ≡ Some us → set_blank H1 m1 x0 ≡ Some m1' → (m2' : Memory) × (exec_all S.target m2 (marks f y0 us) ≡ Some m2') × All m2' m1'
      unfolding set_blank
      stored_does f fb t us m2 m1 m1' q et eu e =
          let (t', e1, k1) = bind_some e in
          let tt' : t' ≡ t = val (sym e1 ∙ et) in
          let has : (k : ℕ) (u : Tree) → field_ty us k ≡ Some u → Has D ts1 x0 k = λ k u f. record { ty = t; fields = us; field = u; is = et; tuple = eu; at = f } in
          let row : Row 0 us = λ k u f. (let z : k ≡ 0 + k = omega arith in (subst (Has D ts1 x0) z (has k u f), ap (λ k. slice_get ts2 (y0 + k)) (sym z) ∙ P.types x0 y0 k s0 (has k u f))) in
          let (m2', ran, q2, (below, here)) = blanks_run f fb 0 y0 us m2 m1 (omega arith) (rest m2 m1 q) row in
          let done = whole_done m2' m1 t (blank D t) q2 et (bok t) (λ o eo k u hk pu. (
          let solid = P.solid x0 y0 s0 t et in
          let z : y0 + k ≡ y0 + (0 + k) = omega arith in
          let (o2, eo2) = rooms m2 m1 o q eo k hk in
          let ht : hk.ty ≡ t = val (sym hk.is ∙ et) in
          let hu : hk.fields ≡ us = val (sym hk.tuple ∙ ap (fields_of D) ht ∙ eu) in
          let at : field_ty us k ≡ Some hk.field = ap (λ us. field_ty us k) (sym hu) ∙ hk.at in
          (blank D hk.field, ap (local_at m2' f2) z ∙ here k hk.field o2 at (ap (local_at m2 f2) (sym z) ∙ eo2), blank_part j D k t us hk.field u eu solid at pu))) in
          (m2', ran, subst (λ m. All m2' m) (ap (λ t. write m1 (local_addr f1 x0) (blank D t)) (sym tt') ∙ val k1) done)

      -- the source alone moves the local's value away
      pub empties : (m2 m1 : Memory) (t : Tree) → All m2 m1 → slice_get ts1 x0 ≡ Some t → All m2 (write m1 (local_addr f1 x0) (blank D t))
      empties m2 m1 t q et = whole_done m2 m1 t (blank D t) (rest m2 m1 q) et (bok t) (λ o eo k u hk pu. (
          let ht : hk.ty ≡ t = val (sym hk.is ∙ et) in
          let tuple : fields_of D t ≡ Some hk.fields = ap (fields_of D) (sym ht) ∙ hk.tuple in
          let solid = P.solid x0 y0 s0 t et in
          let oty : HasTy D G t o = q.near.typed.at f1 x0 t o (lok x0 t et) eo in
          let (z, pz) = part_there D G k t hk.fields hk.field o oty solid tuple hk.at in
          let zty : HasTy D G hk.field z = at_path_ty D G (Field k ∷ []) t hk.field o z oty (some_bind _ (some_bind _ tuple hk.at) refl) (some_bind _ pz refl) in
          let (w, g, r) = q.fields.at x0 y0 k s0 hk o z eo pz in
          (w, g, blank_under j D k t hk.fields hk.field u w tuple solid hk.at pu (blank_any D G j hk.field z w zty r))))

      -- a value is copied field by field from another place
      pub taken_does : (q : Place) (ps : List Operand) (t us : Tree) (a : Addr) (v : Value) (m1r m1' : Memory) (d : Dest) → All m2s m1s → AllAs (field_copies q 0 us) ps → slice_get ts1 x0 ≡ Some t → fields_of D t ≡ Some us → Rows us → (u us' : Tree) → us ≡ more u us' → resolve H1 m1s q ≡ Some a → value_at m1s a ≡ Some v → whole v ≡ true → HasTy D G t v → ((m2' : Memory) → Rest m2' m1s → Rest m2' m1r) → dest_of H1 m1r (local_place x0) ≡ Some d → store D m1r d v ≡ Some m1' → (m2' : Memory) × (exec_all S.target m2s (writes y0 ps) ≡ Some m2') × All m2' m1'
      taken_does q ps t us a v m1r m1' d al as' et eu ro u us' mu er ev wv ty gone ed es =
          let (o, eo, same) = whole_store m1r m1' d v ed es in
          let (o1, eo1) = (gone m2s (rest m2s m1s al)).near.back f1 x0 o eo in
          let tail : Tail 0 us = λ k u f. subst (Has D ts1 x0) (let z : k ≡ 0 + k = omega arith in z) (let h : Has D ts1 x0 k = record { ty = t; fields = us; field = u; is = et; tuple = eu; at = f } in h) in
          let vty : HasTy D G us v = rows_ty D G t us v ty (P.solid x0 y0 s0 t et) eu u us' mu in
          let (vs, er2, same2) = fields_copied D G H1 m1s q a v er ev 0 us v wv vty ro (λ k w e. ap (λ n. part n v) (let z : 0 + k ≡ k = omega arith in z) ∙ e) in
          let (m2', ran, q2, (below, here)) = builds_run 0 y0 us (field_copies q 0 us) ps m2s m1s (vs, m1s) (omega arith) (rest m2s m1s al) (rooms m2s m1s o1 al eo1) as' (still 0 us) tail (long 0 us) er2 in
          let done = whole_done m2' m1r t v (gone m2' q2) et ty (λ o' eo' k u hk pu. (let (w, gw, rel) = here k u (ap (part k) same2 ∙ pu) in (w, ap (local_at m2' f2) (let z : y0 + k ≡ y0 + (0 + k) = omega arith in z) ∙ gw, rel.0))) in
          (m2', ran, subst (λ m. All m2' m) same done)
        where
          still : (i : ℕ) (us : Tree) → MovesAre (field_copies q i us)
          still i (more t ts) = (tt, still (suc i) ts)
          still i empty = tt
          still i (scalar s) = tt
          still i (ref t) = tt
          still i (ref_mut t) = tt
          still i (named d) = tt

          long : (i : ℕ) (us : Tree) → Long (field_copies q i us) us
          long i (more t ts) = (t, ts, refl, long (suc i) ts)
          long i empty = tt
          long i (scalar s) = tt
          long i (ref t) = tt
          long i (ref_mut t) = tt
          long i (named d) = tt
