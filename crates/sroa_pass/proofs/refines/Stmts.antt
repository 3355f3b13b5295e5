-- Statements of the body, and what the split body has for each of them.
use Rattle.std.proofs.Common.{◌≡◌, ◌⊎◌, inl, inr, refl, sym, ap, ◌∙◌, subst, ℕ, true, false, ◌||◌, if◌then◌else◌, Bool, List, [], ◌∷◌, Option, Some, None, is_some, slice_get, option_map, arith}
use Rattle.mir_syntax.specs.declared.body.Place.{Place}
use Rattle.mir_syntax.specs.declared.body.Operand.{Operand}
use Rattle.mir_syntax.specs.declared.body.Operand.TheVariants as operand
use Rattle.mir_syntax.specs.Tree.{Tree, more}
use Rattle.mir_syntax.specs.Shapes.{Shape, ◌>>=◌, fields_of, field_ty, fields_of_struct, variant_of_enum, place_ty}
use Rattle.mir_syntax.specs.Crate.{TypedRvalue, «use», binary, overflow, unary, cast, discriminant, tuple, build, TypedStmt, assign, storage_live, storage_dead, set_discriminant}
use Rattle.mir_syntax.specs.Crate as rvalue
use Rattle.mir_semantics.specs.Values.{Addr, Value, at_path, put, variant, hole, listed, blank}
use Rattle.mir_semantics.specs.Memory.{Memory, local_at, value_at, walk, write}
use Rattle.mir_semantics.specs.Step.{Here, Dest, local_addr, resolve, operand_ty, allows, type_of, dest_of, store, read, eval, built, set_blank, exec}
use Rattle.mir_syntax.specs.Parts.{has_deref}
use Rattle.mir_renaming.specs.Renaming.{Renaming, RootOf}
use Rattle.mir_syntax.proofs.Binds.{bind_some, some_bind}
use Rattle.mir_renaming.proofs.Memory.{root_or_not, write_same, write_other}
use Rattle.mir_renaming.proofs.Types.{TypeMap, HasTy, eval_ty, OperandsTy, StmtTy, can_hole, holds_by}
use Rattle.mir_renaming.proofs.Types.{resolve_ty}
use Rattle.mir_renaming.proofs.Statements.{only_true}
use Rattle.mir_renaming.proofs.Walks.{walk_plain}
use Rattle.mir_relate.specs.Pass.{MoveOk}
use Rattle.mir_renaming.proofs.Agree.{NeedsOk}
use Rattle.mir_relate.specs.Alike.{Between, Sides, Refers}
use Rattle.mir_relate.specs.Pass.{AllMoves, RvalueMoves, StmtMoves}
use Rattle.sroa_pass.proofs.Plans.{local_place}
use Rattle.sroa_pass.proofs.refines.Parts as parts
use Rattle.sroa_pass.proofs.Plans.{Has, Plan, PlaceTo, OperandTo, OperandsTo}
use Rattle.sroa_pass.proofs.refines.Pieces as pieces
use Rattle.sroa_pass.proofs.refines.Pieces.{Roots}
use Rattle.sroa_pass.proofs.refines.Spots as spots
use Rattle.mir_relate.proofs.Operands.{whole_at}
use Rattle.sroa_pass.proofs.Fields.{Rows}
use Rattle.sroa_pass.proofs.refines.Copies.{field_of, field_copies}
use Rattle.sroa_pass.proofs.refines.Nested.{walk_still}
use Rattle.sroa_pass.proofs.refines.Given as given
use Rattle.sroa_pass.proofs.refines.Given.{gives_by}
use Rattle.sroa_pass.proofs.refines.Whole as whole
use Rattle.sroa_pass.proofs.refines.Whole.{exec_all, writes, marks, other_at}

val : {A : Type 0} {x y : A} → Some x ≡ Some y → x ≡ y
val e = grind arith

module _ (D : List Shape) (ts1 ts2 : List Tree) (P : Plan D ts1 ts2) where
  abbrev pub RefTo : Place → Place → Type 0
  RefTo p q = ((P.lent p.local ≡ Some q.local) × (p.proj ≡ q.proj)) ⊎ ((has_deref p.proj ≡ true) × PlaceTo D ts1 ts2 P p q)

  abbrev pub RvalueTo : TypedRvalue → TypedRvalue → Type 0
  RvalueTo («use» o) («use» p) = OperandTo D ts1 ts2 P o p
  RvalueTo (binary op a b) (binary op' c d) = (op ≡ op') × OperandTo D ts1 ts2 P a c × OperandTo D ts1 ts2 P b d
  RvalueTo (overflow op a b) (overflow op' c d) = (op ≡ op') × OperandTo D ts1 ts2 P a c × OperandTo D ts1 ts2 P b d
  RvalueTo (unary op a) (unary op' b) = (op ≡ op') × OperandTo D ts1 ts2 P a b
  RvalueTo (cast a t) (cast b u) = (t ≡ u) × OperandTo D ts1 ts2 P a b
  RvalueTo (rvalue.ref p) (rvalue.ref q) = RefTo p q
  RvalueTo (rvalue.ref_mut p) (rvalue.ref_mut q) = RefTo p q
  RvalueTo (discriminant p) (discriminant q) = PlaceTo D ts1 ts2 P p q
  RvalueTo (tuple os) (tuple ps) = OperandsTo D ts1 ts2 P os ps
  RvalueTo (build d k os) (build d' k' ps) = (d ≡ d') × (k ≡ k') × OperandsTo D ts1 ts2 P os ps
  RvalueTo _ _ = ⊥

  -- a statement of which one is left
  abbrev pub StmtTo : TypedStmt → TypedStmt → Type 0
  StmtTo (assign p x) (assign q y) = PlaceTo D ts1 ts2 P p q × RvalueTo x y
  StmtTo (storage_live x) (storage_live y) = P.stays x ≡ Some y
  StmtTo (storage_dead x) (storage_dead y) = P.stays x ≡ Some y
  StmtTo (set_discriminant p i) (set_discriminant q i') = PlaceTo D ts1 ts2 P p q × (i ≡ i')
  StmtTo _ _ = ⊥

  module _ (f2 f1 : ℕ) (j : Renaming) (R : Roots D ts1 ts2 P f2 f1 j) (G : TypeMap) (bok : (t : Tree) → HasTy D G t (blank D t)) (lok : (x : ℕ) (t : Tree) → slice_get ts1 x ≡ Some t → G f1 x ≡ Some t) (needs : NeedsOk D) (m2s m1s : Memory) where
    abbrev All : Between
    All = pieces.Pieces D ts1 ts2 P f2 f1 j R G bok lok needs m2s m1s

    abbrev S : Sides
    S = pieces.S D ts1 ts2 P f2 f1 j R G bok lok needs m2s m1s

    abbrev A : Addr → Addr → Type 0
    A = pieces.AddrTo D ts1 ts2 P f2 f1 j R

    abbrev To : Place → Place → Type 0
    To = PlaceTo D ts1 ts2 P

    abbrev keeps : spots.Kept D ts1 ts2 f1 f2 j A To G bok lok All
    keeps = pieces.split_kept D ts1 ts2 P f2 f1 j R G bok lok needs m2s m1s

    operand_as : (o p : Operand) → OperandTo D ts1 ts2 P o p → spots.OperandAs D ts1 ts2 f1 f2 j A To G bok lok o p
    operand_as (operand.Copy p) (operand.Copy q) h = h
    operand_as (operand.Move p) (operand.Move q) h = h
    operand_as (operand.Const c) (operand.Const d) h = h
    operand_as o p h = absurd h

    operands_as : (os ps : List Operand) → OperandsTo D ts1 ts2 P os ps → spots.AllAs D ts1 ts2 f1 f2 j A To G bok lok os ps
    operands_as [] [] h = tt
    operands_as (o ∷ os) (p ∷ ps) h = (operand_as o p h.0, operands_as os ps h.1)
    operands_as [] (p ∷ ps) h = absurd h
    operands_as (o ∷ os) [] h = absurd h

    moves_as : (os : List Operand) → AllMoves S.source os → spots.MovesOk D ts1 ts2 f1 f2 j A To G bok lok All keeps os
    moves_as [] h = tt
    moves_as (o ∷ os) h = (h.0, moves_as os h.1)

    refers_as : (p q : Place) → RefTo p q → Refers S All p q
    refers_as p q (inl h) = pieces.refers_lent D ts1 ts2 P f2 f1 j R G bok lok needs m2s m1s p q h.0 h.1
    refers_as p q (inr h) = pieces.refers_through D ts1 ts2 P f2 f1 j R G bok lok needs m2s m1s p q h.0 h.1

    rvalue_as : (x y : TypedRvalue) → RvalueTo x y → RvalueMoves S.source x → spots.RvalueAs D ts1 ts2 f1 f2 j A To G bok lok All keeps x y
    rvalue_as («use» o) («use» p) h m = (operand_as o p h, m)
    rvalue_as (binary op a b) (binary op' c d) h m = (h.0, (operand_as a c h.1, operand_as b d h.2), m)
    rvalue_as (overflow op a b) (overflow op' c d) h m = (h.0, (operand_as a c h.1, operand_as b d h.2), m)
    rvalue_as (unary op a) (unary op' b) h m = (h.0, operand_as a b h.1, m)
    rvalue_as (cast a t) (cast b u) h m = (h.0, operand_as a b h.1, m)
    rvalue_as (rvalue.ref p) (rvalue.ref q) h m = refers_as p q h
    rvalue_as (rvalue.ref_mut p) (rvalue.ref_mut q) h m = refers_as p q h
    rvalue_as (discriminant p) (discriminant q) h m = h
    rvalue_as (tuple os) (tuple ps) h m = (operands_as os ps h, moves_as os m)
    rvalue_as (build d i os) (build d' i' ps) h m = (h.0, h.1, operands_as os ps h.2, moves_as os m)
    rvalue_as x y h m = absurd h

    -- storage of a local that stays
    stays_blank : (x y : ℕ) (m2 m1 m1' : Memory) → P.stays x ≡ Some y → All m2 m1 → set_blank S.source m1 x ≡ Some m1' → (m2' : Memory) × (set_blank S.target m2 y ≡ Some m2') × All m2' m1'
    unfolding set_blank local_addr
    stays_blank x y m2 m1 m1' s q e =
        let (t, e1, k1) = bind_some e in
        let a : Addr = record { frame = f1; local = x; path = [] } in
        let b : Addr = record { frame = f2; local = y; path = [] } in
        let K = pieces.K D ts1 ts2 P f2 f1 j R in
        let low = pieces.low D ts1 ts2 P f2 f1 j R in
        let done : All (write m2 b (blank D t)) (write m1 a (blank D t)) = record {
          near = pieces.near_clear D ts1 ts2 P f2 f1 j R G bok lok needs m2s m1s m2 m1 x y t q.near (pieces.at_stays D ts1 ts2 P f2 f1 j R x y s) e1;
          fields = parts.else_parts j K low f2 f1 P.split (Has D ts1) P.owner P.back (pieces.away D ts1 ts2 P f2 f1 j R) (pieces.free D ts1 ts2 P f2 f1 j R) m2 m1 a b (blank D t) (blank D t) q.fields (record { root = pieces.at_stays D ts1 ts2 P f2 f1 j R x y s; path = refl });
        } in
        (write m2 b (blank D t), some_bind _ (sym (P.kept x y s) ∙ e1) refl, subst (λ m. All (write m2 b (blank D t)) m) (val k1) done)

    -- one statement for one
    pub one_does : (s t : TypedStmt) (m2 m1 m1' : Memory) → StmtTo s t → StmtMoves S.source s → StmtTy D G bok ts1 f1 lok s → spots.PayloadsOk D ts1 ts2 f1 f2 j A To G bok lok All keeps m2 → All m2 m1 → exec S.source m1 s ≡ Some m1' → (m2' : Memory) × (exec S.target m2 t ≡ Some m2') × All m2' m1'
    unfolding exec
    one_does (assign p x) (assign q y) m2 m1 m1' h mo ty pay l e = spots.exec_as D ts1 ts2 f1 f2 j A To G bok lok All keeps (assign p x) (assign q y) (h.0, rvalue_as x y h.1 mo, ty) m2 m1 m1' pay l e
    one_does (storage_live x) (storage_live y) m2 m1 m1' h mo ty pay l e = stays_blank x y m2 m1 m1' h l e
    one_does (storage_dead x) (storage_dead y) m2 m1 m1' h mo ty pay l e = stays_blank x y m2 m1 m1' h l e
    one_does (set_discriminant p i) (set_discriminant q i') m2 m1 m1' h mo ty pay l e = spots.exec_as D ts1 ts2 f1 f2 j A To G bok lok All keeps (set_discriminant p i) (set_discriminant q i') (h.0, h.1, mo) m2 m1 m1' pay l e
    one_does s t m2 m1 m1' h mo ty pay l e = absurd h

    -- storage of a split local
    pub storage_does : (live : Bool) (x y : ℕ) (sp : P.split x ≡ Some y) (t us : Tree) (m1' : Memory) → slice_get ts1 x ≡ Some t → fields_of D t ≡ Some us → All m2s m1s → exec S.source m1s (if live then storage_live x else storage_dead x) ≡ Some m1' → (m2' : Memory) × (exec_all S.target m2s (if live then marks storage_live y us else marks storage_dead y us) ≡ Some m2') × All m2' m1'
    unfolding exec
    storage_does true x y sp t us m1' et eu l e = whole.stored_does D ts1 ts2 P x y sp f2 f1 j R G bok lok needs m2s m1s storage_live (λ m y. refl) t us m2s m1s m1' l et eu e
    storage_does false x y sp t us m1' et eu l e = whole.stored_does D ts1 ts2 P x y sp f2 f1 j R G bok lok needs m2s m1s storage_dead (λ m y. refl) t us m2s m1s m1' l et eu e

-- a split local is built
module _ (D : List Shape) (ts1 ts2 : List Tree) (P : Plan D ts1 ts2) (f2 f1 : ℕ) (j : Renaming) (R : Roots D ts1 ts2 P f2 f1 j) (G : TypeMap) (bok : (t : Tree) → HasTy D G t (blank D t)) (lok : (x : ℕ) (t : Tree) → slice_get ts1 x ≡ Some t → G f1 x ≡ Some t) (needs : NeedsOk D) (m2s m1s : Memory) (x y : ℕ) (sp : P.split x ≡ Some y) where
  abbrev H1 : Here
  H1 = record { shapes = D; locals = ts1; frame = f1 }

  abbrev H2 : Here
  H2 = record { shapes = D; locals = ts2; frame = f2 }

  abbrev Q : Between
  Q = pieces.Pieces D ts1 ts2 P f2 f1 j R G bok lok needs m2s m1s

  still : (os : List Operand) → AllMoves H1 os → whole.MovesAre D ts1 ts2 P x y sp f2 f1 j R G bok lok needs m2s m1s os
  still [] h = tt
  still (o ∷ os) h = (h.0, still os h.1)

  root_ty : (t : Tree) → type_of H1 (local_place x) ≡ Some t → slice_get ts1 x ≡ Some t
  unfolding type_of place_ty
  root_ty t e = let (u, e1, e2) = bind_some e in e1 ∙ e2

  row_of : (os : List Operand) (t : Tree) → OperandsTy D G bok ts1 f1 lok os t → fields_of D t ≡ Some t
  row_of [] t h = ap (fields_of D) h ∙ ap (λ t. Some t) (sym h)
  row_of (o ∷ os) t (u, us, e, h, hs) = ap (fields_of D) e ∙ ap (λ t. Some t) (sym e)

  pub tuple_does : (os ps : List Operand) (m1' : Memory) → OperandsTo D ts1 ts2 (whole.Without D ts1 ts2 P x y sp) os ps → AllMoves H1 os → StmtTy D G bok ts1 f1 lok (assign (local_place x) (tuple os)) → Q m2s m1s → exec H1 m1s (assign (local_place x) (tuple os)) ≡ Some m1' → (m2' : Memory) × (exec_all H2 m2s (writes y ps) ≡ Some m2') × Q m2' m1'
  unfolding exec eval
  tuple_does os ps m1' h mo (t, pt, ty) q e =
      let (v, e1, k1) = bind_some e in
      let (d, e2, k2) = bind_some k1 in
      let (vt, mt) = eval_ty D G bok ts1 f1 lok m1s (tuple os) t v q.near.typed ty e1 in
      let (r, e3, k3) = bind_some e1 in
      let is : (listed r.0, r.1) ≡ v = val k3 in
      whole.built_does D ts1 ts2 P x y sp f2 f1 j R G bok lok needs m2s m1s os ps t t r d m1' q (operands_as D ts1 ts2 (whole.Without D ts1 ts2 P x y sp) f2 f1 j (whole.roots D ts1 ts2 P x y sp f2 f1 j R) G bok lok needs m2s m1s os ps h) (still os mo) ty (root_ty t pt) (row_of os t ty)
      (subst (λ (v : Value × Memory). HasTy D G t v.0) (sym is) vt)
      e3
      (subst (λ (v : Value × Memory). dest_of H1 v.1 (local_place x) ≡ Some d) (sym is) e2)
      (subst (λ (v : Value × Memory). store D v.1 d v.0 ≡ Some m1') (sym is) k2)

  pub build_does : (d0 k : ℕ) (os ps : List Operand) (m1' : Memory) → OperandsTo D ts1 ts2 (whole.Without D ts1 ts2 P x y sp) os ps → AllMoves H1 os → StmtTy D G bok ts1 f1 lok (assign (local_place x) (build d0 k os)) → Q m2s m1s → exec H1 m1s (assign (local_place x) (build d0 k os)) ≡ Some m1' → (m2' : Memory) × (exec_all H2 m2s (writes y ps) ≡ Some m2') × Q m2' m1'
  unfolding exec eval
  build_does d0 k os ps m1' h mo (t, pt, (us, tys, (df, tn, at, kind))) q e =
      let (v, e1, k1) = bind_some e in
      let (d, e2, k2) = bind_some k1 in
      let (vt, mt) = eval_ty D G bok ts1 f1 lok m1s (build d0 k os) t v q.near.typed (us, tys, (df, tn, at, kind)) e1 in
      let (r, e3, k3) = bind_some e1 in
      let et = root_ty t pt in
      let solid : (df.is_enum || is_some df.destructor) ≡ false = ap holds_by (sym at) ∙ ap (can_hole D) (sym tn) ∙ P.solid x y sp t et in
      let (eu, plain) = struct_of df us solid kind in
      let list : built D d0 k (listed r.0) ≡ listed r.0 = ap (λ o. built_of k (listed r.0) o) at ∙ ap (λ b. if b then variant k (listed r.0) else listed r.0) plain in
      let is : (listed r.0, r.1) ≡ v = ap (λ z. let p : Value × Memory = (z, r.1) in p) (sym list) ∙ val k3 in
      whole.built_does D ts1 ts2 P x y sp f2 f1 j R G bok lok needs m2s m1s os ps t us r d m1' q (operands_as D ts1 ts2 (whole.Without D ts1 ts2 P x y sp) f2 f1 j (whole.roots D ts1 ts2 P x y sp f2 f1 j R) G bok lok needs m2s m1s os ps h) (still os mo) tys et (ap (fields_of D) tn ∙ some_bind _ at eu)
      (subst (λ (v : Value × Memory). HasTy D G t v.0) (sym is) vt)
      e3
      (subst (λ (v : Value × Memory). dest_of H1 v.1 (local_place x) ≡ Some d) (sym is) e2)
      (subst (λ (v : Value × Memory). store D v.1 d v.0 ≡ Some m1') (sym is) k2)
    where
      built_of : ℕ → Value → Option Shape → Value
      built_of k v None = hole
      built_of k v (Some s) = if s.is_enum then variant k v else v

      struct_of : (df : Shape) (us : Tree) → (df.is_enum || is_some df.destructor) ≡ false → ((variant_of_enum k df ≡ Some us) × (df.is_enum ≡ true) ⊎ (fields_of_struct df ≡ Some us) × (df.is_enum ≡ false) × (fields_of D us ≡ Some us)) → (fields_of_struct df ≡ Some us) × (df.is_enum ≡ false)
      struct_of df us so (inl (a, b)) = absurd (let z : ◌≡◌ {A = Bool} true false = sym (ap (λ b. b || is_some df.destructor) b) ∙ so in grind arith)
      struct_of df us so (inr (a, b, c)) = (a, b)

  -- what is copied or moved in; a move leaves what the source alone leaves
  pub take_does : (q : Place) (ps : List Operand) (us u us' : Tree) (m1' : Memory) → OperandsTo D ts1 ts2 (whole.Without D ts1 ts2 P x y sp) (field_copies q 0 us) ps → Rows us → us ≡ more u us' → StmtTy D G bok ts1 f1 lok (assign (local_place x) («use» (operand.Copy q))) → ((t : Tree) → slice_get ts1 x ≡ Some t → fields_of D t ≡ Some us) → Q m2s m1s → exec H1 m1s (assign (local_place x) («use» (operand.Copy q))) ≡ Some m1' → (m2' : Memory) × (exec_all H2 m2s (writes y ps) ≡ Some m2') × Q m2' m1'
  unfolding exec eval read
  take_does q ps us u us' m1' h ro mu (t, pt, ty) eu l e =
      let (v, e1, k1) = bind_some e in
      let (d, e2, k2) = bind_some k1 in
      let (vt, mt) = eval_ty D G bok ts1 f1 lok m1s («use» (operand.Copy q)) t v l.near.typed ty e1 in
      let (a, e3, k3) = bind_some e1 in
      let (v0, e4, k4) = bind_some k3 in
      let (at, wh) = whole_at (whole.S D ts1 ts2 P x y sp f2 f1 j R G bok lok needs m2s m1s) (whole.All D ts1 ts2 P x y sp f2 f1 j R G bok lok needs m2s m1s) m1s a v0 e4 in
      let is : (v0, m1s) ≡ v = val k4 in
      let et = root_ty t pt in
      whole.taken_does D ts1 ts2 P x y sp f2 f1 j R G bok lok needs m2s m1s q ps t us a v0 m1s m1' d l (operands_as D ts1 ts2 (whole.Without D ts1 ts2 P x y sp) f2 f1 j (whole.roots D ts1 ts2 P x y sp f2 f1 j R) G bok lok needs m2s m1s (field_copies q 0 us) ps h) et (eu t et) ro u us' mu e3 at wh
      (subst (λ (v : Value × Memory). HasTy D G t v.0) (sym is) vt)
      (λ m2' z. z)
      (subst (λ (v : Value × Memory). dest_of H1 v.1 (local_place x) ≡ Some d) (sym is) e2)
      (subst (λ (v : Value × Memory). store D v.1 d v.0 ≡ Some m1') (sym is) k2)

  pub take_moves : (q q2 : Place) (ps : List Operand) (us u us' : Tree) (m1' : Memory) → PlaceTo D ts1 ts2 (whole.Without D ts1 ts2 P x y sp) q q2 → MoveOk H1 (operand.Move q) → OperandsTo D ts1 ts2 (whole.Without D ts1 ts2 P x y sp) (field_copies q 0 us) ps → Rows us → us ≡ more u us' → StmtTy D G bok ts1 f1 lok (assign (local_place x) («use» (operand.Move q))) → ((t : Tree) → slice_get ts1 x ≡ Some t → fields_of D t ≡ Some us) → Q m2s m1s → exec H1 m1s (assign (local_place x) («use» (operand.Move q))) ≡ Some m1' → (m2' : Memory) × (exec_all H2 m2s (writes y ps) ≡ Some m2') × Q m2' m1'
  unfolding exec eval read
  take_moves q q2 ps us u us' m1' hq mo h ro mu (t, pt, ty) eu l e =
      let (v, e1, k1) = bind_some e in
      let (d, e2, k2) = bind_some k1 in
      let (vt, mt) = eval_ty D G bok ts1 f1 lok m1s («use» (operand.Move q)) t v l.near.typed ty e1 in
      let (a, e3, k3) = bind_some e1 in
      let (v0, e4, k4) = bind_some k3 in
      let (t', e5, k5) = bind_some k4 in
      let (at, wh) = whole_at (whole.S D ts1 ts2 P x y sp f2 f1 j R G bok lok needs m2s m1s) (whole.All D ts1 ts2 P x y sp f2 f1 j R G bok lok needs m2s m1s) m1s a v0 e4 in
      let is : (v0, write m1s a (blank D t')) ≡ v = val k5 in
      let et = root_ty t pt in
      let W = whole.Without D ts1 ts2 P x y sp in
      let RW = whole.roots D ts1 ts2 P x y sp f2 f1 j R in
      whole.taken_does D ts1 ts2 P x y sp f2 f1 j R G bok lok needs m2s m1s q ps t us a v0 (write m1s a (blank D t')) m1' d l (operands_as D ts1 ts2 W f2 f1 j RW G bok lok needs m2s m1s (field_copies q 0 us) ps h) et (eu t et) ro u us' mu e3 at wh
      (subst (λ (v : Value × Memory). HasTy D G t v.0) (sym is) vt)
      (λ m2' z. pieces.blank_alone D ts1 ts2 W f2 f1 j RW G bok lok needs m2s m1s m2' m1s q q2 a t' v0 z hq (λ hd. mo hd t' e5) e3 e5 at)
      (subst (λ (v : Value × Memory). dest_of H1 v.1 (local_place x) ≡ Some d) (sym is) e2)
      (subst (λ (v : Value × Memory). store D v.1 d v.0 ≡ Some m1') (sym is) k2)

  place_root : (z : ℕ) (t : Tree) → type_of H1 (local_place z) ≡ Some t → slice_get ts1 z ≡ Some t
  unfolding type_of place_ty
  place_root z t e = let (u, e1, e2) = bind_some e in e1 ∙ e2

  -- another split local moves in
  pub take_split : (z yz : ℕ) (ps : List Operand) (us u us' : Tree) (m1' : Memory) → (ne : z ≡ x → ⊥) (sz : P.split z ≡ Some yz) → OperandsTo D ts1 ts2 (whole.Without D ts1 ts2 P x y sp) (field_copies (local_place z) 0 us) ps → Rows us → us ≡ more u us' → StmtTy D G bok ts1 f1 lok (assign (local_place x) («use» (operand.Move (local_place z)))) → ((t : Tree) → slice_get ts1 x ≡ Some t → fields_of D t ≡ Some us) → Q m2s m1s → exec H1 m1s (assign (local_place x) («use» (operand.Move (local_place z)))) ≡ Some m1' → (m2' : Memory) × (exec_all H2 m2s (writes y ps) ≡ Some m2') × Q m2' m1'
  unfolding exec eval read resolve walk local_addr
  take_split z yz ps us u us' m1' ne sz h ro mu (t, pt, ty) eu l e =
      let (v, e1, k1) = bind_some e in
      let (d, e2, k2) = bind_some k1 in
      let (vt, mt) = eval_ty D G bok ts1 f1 lok m1s («use» (operand.Move (local_place z))) t v l.near.typed ty e1 in
      let (a, e3, k3) = bind_some e1 in
      let (v0, e4, k4) = bind_some k3 in
      let (t', e5, k5) = bind_some k4 in
      let (at, wh) = whole_at (whole.S D ts1 ts2 P x y sp f2 f1 j R G bok lok needs m2s m1s) (whole.All D ts1 ts2 P x y sp f2 f1 j R G bok lok needs m2s m1s) m1s a v0 e4 in
      let is : (v0, write m1s a (blank D t')) ≡ v = val k5 in
      let et = root_ty t pt in
      let W = whole.Without D ts1 ts2 P x y sp in
      let RW = whole.roots D ts1 ts2 P x y sp f2 f1 j R in
      whole.taken_does D ts1 ts2 P x y sp f2 f1 j R G bok lok needs m2s m1s (local_place z) ps t us a v0 (write m1s a (blank D t')) m1' d l (operands_as D ts1 ts2 W f2 f1 j RW G bok lok needs m2s m1s (field_copies (local_place z) 0 us) ps h) et (eu t et) ro u us' mu e3 at wh
      (subst (λ (v : Value × Memory). HasTy D G t v.0) (sym is) vt)
      (λ m2' r. subst (λ a. pieces.Pieces D ts1 ts2 W f2 f1 j RW G bok lok needs m2s m1s m2' (write m1s a (blank D t'))) (val e3) (whole.empties D ts1 ts2 W z yz (other_at x P.split z yz ne sz) f2 f1 j RW G bok lok needs m2s m1s m2' m1s t' r (place_root z t' e5)))
      (subst (λ (v : Value × Memory). dest_of H1 v.1 (local_place x) ≡ Some d) (sym is) e2)
      (subst (λ (v : Value × Memory). store D v.1 d v.0 ≡ Some m1') (sym is) k2)

  -- a copy of the whole local goes out
  pub give_does : (p : Place) (qs : ℕ → Place) (us u us' : Tree) (m1' : Memory) → has_deref p.proj ≡ false → ((k : ℕ) → has_deref (field_of p k).proj ≡ false) → (p.local ≡ x → ⊥) → ((t : Tree) → slice_get ts1 x ≡ Some t → fields_of D t ≡ Some us) → ((k : ℕ) (u : Tree) → field_ty us k ≡ Some u → type_of H1 (field_of p k) ≡ Some u) → ((k : ℕ) (u : Tree) → field_ty us k ≡ Some u → PlaceTo D ts1 ts2 P (field_of p k) (qs k)) → Rows us → us ≡ more u us' → StmtTy D G bok ts1 f1 lok (assign p («use» (operand.Copy (local_place x)))) → Q m2s m1s → exec H1 m1s (assign p («use» (operand.Copy (local_place x)))) ≡ Some m1' → (m2' : Memory) × (exec_all H2 m2s (gives_by qs y 0 us) ≡ Some m2') × Q m2' m1'
  unfolding exec eval read resolve walk local_addr value_at dest_of store operand_ty
  give_does p qs us u us' m1' plain plains far eu tys tos ro mu (t, pt, ty) l e =
      let (v, e1, k1) = bind_some e in
      let (d, e2, k2) = bind_some k1 in
      let (vt, mt) = eval_ty D G bok ts1 f1 lok m1s («use» (operand.Copy (local_place x))) t v l.near.typed ty e1 in
      let (r, e3, k3) = bind_some e1 in
      let (v0, e4, k4) = bind_some k3 in
      let (at, wh) = whole_at (whole.S D ts1 ts2 P x y sp f2 f1 j R G bok lok needs m2s m1s) (whole.All D ts1 ts2 P x y sp f2 f1 j R G bok lok needs m2s m1s) m1s r v0 e4 in
      let is : (v0, m1s) ≡ v = val k4 in
      let same_r : record { frame = f1; local = x; path = [] } ≡ r = val e3 in
      let (o, eo1, eo2) = bind_some at in
      let ex : local_at m1s f1 x ≡ Some v0 = ap (λ (a : Addr). local_at m1s a.frame a.local) same_r ∙ eo1 ∙ (ap (λ (a : Addr). at_path a.path o) same_r ∙ eo2) in
      let (a, g1, h1) = bind_some (subst (λ (v : Value × Memory). dest_of H1 v.1 p ≡ Some d) (sym is) e2) in
      let (tp, g2, h2) = bind_some h1 in
      let (old, g3, h3) = bind_some (subst (λ (v : Value × Memory). store D v.1 d v.0 ≡ Some m1') (sym is) k2) in
      let (ok, same) = only_true (allows D d.guard old) (write m1s d.addr v0) m1' h3 in
      let da : a ≡ d.addr = ap (λ (d : Dest). d.addr) (val h2) in
      let et = root_ty t ty in
      let addr = resolve_ty D G bok ts1 f1 lok m1s p a t l.near.typed pt g1 in
      let loc : a.local ≡ p.local = (walk_plain p.proj m1s (record { frame = f1; local = p.local; path = [] }) a plain g1).1 in
      let (m2', ran, q) = given.given_does D ts1 ts2 P x y sp f2 f1 j R G bok lok needs m2s m1s p qs t us a v0 plain plains (λ z. far (sym loc ∙ z)) et (eu t et) addr tys tos m1s old u us' refl l mu ro wh (subst (λ (v : Value × Memory). HasTy D G t v.0) (sym is) vt) ex g1 (ap (value_at m1s) da ∙ g3) in
      (m2', ran, subst (λ m. Q m2' m) (ap (λ a. write m1s a v0) da ∙ same) q)

  -- writes at two locals
  commute : (m : Memory) (a b : Addr) (v w : Value) → (a.local ≡ b.local → ⊥) → (h z : ℕ) → local_at (write (write m b w) a v) h z ≡ local_at (write (write m a v) b w) h z
  commute m a b v w ne h z = go (root_or_not a h z) (root_or_not b h z)
    where
      go : RootOf a h z ⊎ (h ≡ a.frame → z ≡ a.local → ⊥) → RootOf b h z ⊎ (h ≡ b.frame → z ≡ b.local → ⊥) → local_at (write (write m b w) a v) h z ≡ local_at (write (write m a v) b w) h z
      go (inl r) (inl s) = absurd (ne (sym r.1 ∙ s.1))
      go (inl r) (inr n) = write_same (write m b w) a v h z r ∙ ap (option_map (put a.path v)) (write_other m b w h z n) ∙ sym (write_other (write m a v) b w h z n ∙ write_same m a v h z r)
      go (inr n) (inl s) = write_other (write m b w) a v h z n ∙ write_same m b w h z s ∙ sym (write_same (write m a v) b w h z s ∙ ap (option_map (put b.path w)) (write_other m a v h z n))
      go (inr n) (inr k) = write_other (write m b w) a v h z n ∙ write_other m b w h z k ∙ sym (write_other (write m a v) b w h z k ∙ write_other m a v h z n)

  other_value : (m : Memory) (c : Addr) (w v : Value) → (c.local ≡ x → ⊥) → value_at (write m (local_addr f1 x) w) c ≡ Some v → value_at m c ≡ Some v
  unfolding value_at local_addr
  other_value m c w v ne e = ap (λ o. o >>= at_path c.path) (sym (write_other m (record { frame = f1; local = x; path = [] }) w c.frame c.local (λ p q. ne q))) ∙ e

  -- a move of the whole local goes out
  pub give_moves : (p : Place) (qs : ℕ → Place) (us u us' : Tree) (m1' : Memory) → has_deref p.proj ≡ false → ((k : ℕ) → has_deref (field_of p k).proj ≡ false) → (p.local ≡ x → ⊥) → ((t : Tree) → slice_get ts1 x ≡ Some t → fields_of D t ≡ Some us) → ((k : ℕ) (u : Tree) → field_ty us k ≡ Some u → type_of H1 (field_of p k) ≡ Some u) → ((k : ℕ) (u : Tree) → field_ty us k ≡ Some u → PlaceTo D ts1 ts2 P (field_of p k) (qs k)) → Rows us → us ≡ more u us' → StmtTy D G bok ts1 f1 lok (assign p («use» (operand.Move (local_place x)))) → Q m2s m1s → exec H1 m1s (assign p («use» (operand.Move (local_place x)))) ≡ Some m1' → (m2' : Memory) × (exec_all H2 m2s (gives_by qs y 0 us) ≡ Some m2') × Q m2' m1'
  unfolding exec eval read resolve walk local_addr value_at dest_of store operand_ty
  give_moves p qs us u us' m1' plain plains far eu tys tos ro mu (t, pt, ty) l e =
      let (v, e1, k1) = bind_some e in
      let (d, e2, k2) = bind_some k1 in
      let (vt, mt) = eval_ty D G bok ts1 f1 lok m1s («use» (operand.Move (local_place x))) t v l.near.typed ty e1 in
      let (r, e3, k3) = bind_some e1 in
      let (v0, e4, k4) = bind_some k3 in
      let (t', e5, k5) = bind_some k4 in
      let (at, wh) = whole_at (whole.S D ts1 ts2 P x y sp f2 f1 j R G bok lok needs m2s m1s) (whole.All D ts1 ts2 P x y sp f2 f1 j R G bok lok needs m2s m1s) m1s r v0 e4 in
      let X : Addr = record { frame = f1; local = x; path = [] } in
      let same_r : X ≡ r = val e3 in
      let mB = write m1s X (blank D t') in
      let is : (v0, mB) ≡ v = ap (λ a. let z : Value × Memory = (v0, write m1s a (blank D t')) in z) same_r ∙ val k5 in
      let (o, eo1, eo2) = bind_some at in
      let ex : local_at m1s f1 x ≡ Some v0 = ap (λ (a : Addr). local_at m1s a.frame a.local) same_r ∙ eo1 ∙ (ap (λ (a : Addr). at_path a.path o) same_r ∙ eo2) in
      let (a, g1, h1) = bind_some (subst (λ (v : Value × Memory). dest_of H1 v.1 p ≡ Some d) (sym is) e2) in
      let (tp, g2, h2) = bind_some h1 in
      let (old, g3, h3) = bind_some (subst (λ (v : Value × Memory). store D v.1 d v.0 ≡ Some m1') (sym is) k2) in
      let (ok, same) = only_true (allows D d.guard old) (write mB d.addr v0) m1' h3 in
      let da : a ≡ d.addr = ap (λ (d : Dest). d.addr) (val h2) in
      let loc : a.local ≡ p.local = (walk_plain p.proj mB (record { frame = f1; local = p.local; path = [] }) a plain g1).1 in
      let far' : a.local ≡ x → ⊥ = λ z. far (sym loc ∙ z) in
      let ga = walk_still p.proj mB m1s (record { frame = f1; local = p.local; path = [] }) a plain g1 (λ c ab z ez. (z, other_value m1s c (blank D t') z (λ q. far' (sym ab.2 ∙ q)) ez)) in
      let eold : value_at m1s a ≡ Some old = other_value m1s a (blank D t') old far' (ap (value_at mB) da ∙ g3) in
      let et = root_ty t ty in
      let addr = resolve_ty D G bok ts1 f1 lok m1s p a t l.near.typed pt ga in
      let (m2', ran, q) = given.given_does D ts1 ts2 P x y sp f2 f1 j R G bok lok needs m2s m1s p qs t us a v0 plain plains far' et (eu t et) addr tys tos m1s old u us' refl l mu ro wh (subst (λ (v : Value × Memory). HasTy D G t v.0) (sym is) vt) ex ga eold in
      let gone = whole.empties D ts1 ts2 P x y sp f2 f1 j R G bok lok needs m2s m1s m2' (write m1s a v0) t' q (root_ty t' e5) in
      let final = pieces.pieces_same D ts1 ts2 P f2 f1 j R G bok lok needs m2s m1s m2' (write (write m1s a v0) X (blank D t')) (write mB a v0) (commute m1s a X v0 (blank D t') far') gone in
      (m2', ran, subst (λ m. Q m2' m) (ap (λ a. write mB a v0) da ∙ same) final)
