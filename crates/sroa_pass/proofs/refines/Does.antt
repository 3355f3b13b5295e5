-- Each statement of the body, and the statements that the split body has for it.
use Rattle.std.proofs.Common.{◌≡◌, ◌⊎◌, inl, inr, refl, sym, ap, ap₂, ◌∙◌, subst, ℕ, suc, ◌+◌, ◌<◌, Bool, true, false, not, nat_eq, if◌then◌else◌, List, [], ◌∷◌, ◌++◌, map, length, Option, Some, None, slice_get, arith, eq-eqb}
use Rattle.std.specs.List.{list_all, flat_map}
use Rattle.mir_syntax.specs.declared.body.Proj.{Proj}
use Rattle.mir_syntax.specs.declared.body.Proj.TheVariants.{Field, Downcast, Deref}
use Rattle.mir_syntax.specs.declared.body.Place.{Place}
use Rattle.mir_syntax.specs.declared.body.Operand.{Operand}
use Rattle.mir_syntax.specs.declared.body.Operand.TheVariants as operand
use Rattle.mir_syntax.specs.Tree.{Tree, scalar, empty, more, ref, ref_mut, named}
use Rattle.mir_syntax.specs.Crate.{TypedRvalue, «use», binary, overflow, unary, cast, discriminant, tuple, build, TypedStmt, assign, storage_live, storage_dead, set_discriminant, TypedBody}
use Rattle.mir_syntax.specs.Crate as rvalue
use Rattle.mir_syntax.specs.Shapes.{Shape, fields_of, field_ty, place_ty}
use Rattle.mir_syntax.specs.Parts.{has_deref, operand_places, rvalue_places}
use Rattle.mir_syntax.proofs.Binds.{bind_some, some_bind}
use Rattle.mir_rules.proofs.Lists.{and_true-left, and_true-right}
use Rattle.mir_semantics.specs.Values.{blank}
use Rattle.mir_semantics.specs.Memory.{Memory}
use Rattle.mir_semantics.specs.Step.{Here, type_of, exec}
use Rattle.mir_renaming.specs.Renaming.{Renaming}
use Rattle.mir_renaming.proofs.Types.{TypeMap, HasTy, StmtTy}
use Rattle.mir_renaming.proofs.Agree.{NeedsOk}
use Rattle.mir_relate.specs.Alike.{Between}
use Rattle.mir_relate.specs.Pass.{StmtMoves}
use Rattle.escape_info.specs.Borrowed.{borrowed}
use Rattle.sroa_pass.specs.Split.{parts_of, spread, is_apart, First, Fields, moved_to, split_place, split_operand, split_rvalue, copies, puts, by_fields, renamed, storages, split_stmt, field_at, fields_at, split_storage}
use Rattle.sroa_pass.proofs.Plans.{local_place, Plan, PlaceTo, OperandTo, OperandsTo}
use Rattle.sroa_pass.proofs.Planned.{val, s, ts2, plan, chosen, split_at, stays_at, lent_at, unlent, Fits, place_local, place_to, AllFit, operand_to, operands_to}
use Rattle.sroa_pass.proofs.Ways.{Known, Whole, field_fits, Filled, Handed, Way, way, field_typed}
use Rattle.sroa_pass.proofs.Uses.{whole_ty, used_ty, used_whole, split_or_fits, built_fit, const_typed, Parts, parts, no_const}
use Rattle.sroa_pass.proofs.refines.Copies.{field_copies}
use Rattle.sroa_pass.proofs.refines.Given.{gives_by}
use Rattle.sroa_pass.proofs.refines.Pieces as pieces
use Rattle.sroa_pass.proofs.refines.Pieces.{Roots}
use Rattle.sroa_pass.proofs.refines.Spots as spots
use Rattle.sroa_pass.proofs.refines.Stmts as stmts
use Rattle.sroa_pass.proofs.refines.Whole.{exec_all, writes, marks, Without, place_without}

not_of : (x y : ℕ) → not (nat_eq x y) ≡ true → x ≡ y → ⊥
not_of x y h e = (let z : true ≡ false = sym h ∙ ap not (eq-eqb x y e) in grind arith)

whole_is : (p : Place) → p.proj ≡ [] → p ≡ local_place p.local
whole_is p n = ap (λ ps. let q : Place = record { local = p.local; proj = ps } in q) n

field_deref : (ps : List Proj) (k : ℕ) → has_deref (ps ++ Field k ∷ []) ≡ has_deref ps
field_deref [] k = refl
field_deref (Field i ∷ ps) k = field_deref ps k
field_deref (Downcast i ∷ ps) k = field_deref ps k
field_deref (Deref ∷ ps) k = refl

module _ (D : List Shape) (b : TypedBody) where
  abbrev S : First
  S = s D b

  abbrev ts : List Tree
  ts = b.locals

  abbrev P : Plan D b.locals (ts2 D b)
  P = plan D b

  abbrev fields : Fields
  fields = fields_at D b.locals

  -- ---- what the text is

  -- field i of a split local is the local of that field
  field_place : (p : Place) (y i : ℕ) → p.proj ≡ [] → s D b p.local ≡ Some y → split_place (s D b) (field_at p i) ≡ local_place (y + i)
  field_place p y i n e = ap₂ (λ o (ps : List Proj). moved_to o (record p { proj = ps ++ Field i ∷ [] }) (ps ++ Field i ∷ [])) e n

  copied_in : (p q : Place) (y : ℕ) → p.proj ≡ [] → s D b p.local ≡ Some y → (us : Tree) (vs : List Tree) → parts_of us ≡ Some vs → (i n : ℕ) → n ≡ y + i → map (renamed (s D b)) (copies p q i vs) ≡ writes n (map (split_operand (s D b)) (field_copies q i us))
  copied_in p q y w e empty vs h i n k = ap (λ vs. map (renamed (s D b)) (copies p q i vs)) (sym (val h))
  copied_in p q y w e (more u us) vs h i n k =
      let (ws, h1, h2) = bind_some h in
      let rest = copied_in p q y w e us ws h1 (suc i) (suc n) (omega (arith, k)) in
      ap (λ vs. map (renamed (s D b)) (copies p q i vs)) (sym (val h2)) ∙ ap₂ (λ z zs. assign z («use» (operand.Copy (split_place (s D b) (field_at q i)))) ∷ zs) (field_place p y i w e ∙ ap local_place (sym k)) rest
  copied_in p q y w e (scalar z) vs h i n k = absurd (grind arith)
  copied_in p q y w e (ref z) vs h i n k = absurd (grind arith)
  copied_in p q y w e (ref_mut z) vs h i n k = absurd (grind arith)
  copied_in p q y w e (named z) vs h i n k = absurd (grind arith)

  put_in : (p : Place) (y : ℕ) → p.proj ≡ [] → s D b p.local ≡ Some y → (os : List Operand) (i n : ℕ) → n ≡ y + i → map (renamed (s D b)) (puts p i os) ≡ writes n (map (split_operand (s D b)) os)
  put_in p y w e [] i n k = refl
  put_in p y w e (o ∷ os) i n k = ap₂ (λ z zs. assign z («use» (split_operand (s D b) o)) ∷ zs) (field_place p y i w e ∙ ap local_place (sym k)) (put_in p y w e os (suc i) (suc n) (omega (arith, k)))

  copied_out : (p q : Place) (y : ℕ) → q.proj ≡ [] → s D b q.local ≡ Some y → (us : Tree) (vs : List Tree) → parts_of us ≡ Some vs → (i : ℕ) → map (renamed (s D b)) (copies p q i vs) ≡ gives_by (λ k. split_place (s D b) (field_at p k)) y i us
  copied_out p q y w e empty vs h i = ap (λ vs. map (renamed (s D b)) (copies p q i vs)) (sym (val h))
  copied_out p q y w e (more u us) vs h i =
      let (ws, h1, h2) = bind_some h in
      ap (λ vs. map (renamed (s D b)) (copies p q i vs)) (sym (val h2)) ∙ ap₂ (λ z zs. assign (split_place (s D b) (field_at p i)) («use» (operand.Copy z)) ∷ zs) (field_place q y i w e) (copied_out p q y w e us ws h1 (suc i))
  copied_out p q y w e (scalar z) vs h i = absurd (grind arith)
  copied_out p q y w e (ref z) vs h i = absurd (grind arith)
  copied_out p q y w e (ref_mut z) vs h i = absurd (grind arith)
  copied_out p q y w e (named z) vs h i = absurd (grind arith)

  marked : (f : ℕ → TypedStmt) (us : Tree) (vs : List Tree) → parts_of us ≡ Some vs → (y : ℕ) → storages f y vs ≡ marks f y us
  marked f empty vs h y = ap (storages f y) (sym (val h))
  marked f (more u us) vs h y = (let (ws, h1, h2) = bind_some h in ap (storages f y) (sym (val h2)) ∙ ap (λ zs. f y ∷ zs) (marked f us ws h1 (suc y)))
  marked f (scalar z) vs h y = absurd (grind arith)
  marked f (ref z) vs h y = absurd (grind arith)
  marked f (ref_mut z) vs h y = absurd (grind arith)
  marked f (named z) vs h y = absurd (grind arith)

  -- ---- what the places stand for

  module _ (x y : ℕ) (sp : (plan D b).split x ≡ Some y) where
    abbrev Rest : Plan D b.locals (ts2 D b)
    Rest = Without D b.locals (ts2 D b) (plan D b) x y sp

    copies_to : (q : Place) → (q.local ≡ x → ⊥) → (us : Tree) (i : ℕ) → ((k : ℕ) (u : Tree) → field_ty us k ≡ Some u → Fits D b (field_at q (i + k))) → OperandsTo D b.locals (ts2 D b) Rest (field_copies q i us) (map (split_operand (s D b)) (field_copies q i us))
    copies_to q ne (more u us) i h =
        let here : Fits D b (field_at q i) = subst (λ n. Fits D b (field_at q n)) (let z : i + 0 ≡ i = omega arith in z) (h 0 u refl) in
        (place_without D b.locals (ts2 D b) (plan D b) x y sp (field_at q i) (split_place (s D b) (field_at q i)) ne (place_to D b (field_at q i) here), copies_to q ne us (suc i) (λ k v e. subst (λ n. Fits D b (field_at q n)) (let z : i + suc k ≡ suc i + k = omega arith in z) (h (suc k) v e)))
    copies_to q ne empty i h = tt
    copies_to q ne (scalar z) i h = tt
    copies_to q ne (ref z) i h = tt
    copies_to q ne (ref_mut z) i h = tt
    copies_to q ne (named z) i h = tt

    apart_to : (os : List Operand) → list_all (is_apart x) (flat_map operand_places os) ≡ true → AllFit D b (flat_map operand_places os) → OperandsTo D b.locals (ts2 D b) Rest os (map (split_operand (s D b)) os)
    apart_to [] h k = tt
    apart_to (operand.Copy p ∷ os) h k = (place_without D b.locals (ts2 D b) (plan D b) x y sp p (split_place (s D b) p) (not_of p.local x (and_true-left (is_apart x p) _ h)) (place_to D b p k.0), apart_to os (and_true-right (is_apart x p) _ h) k.1)
    apart_to (operand.Move p ∷ os) h k = (place_without D b.locals (ts2 D b) (plan D b) x y sp p (split_place (s D b) p) (not_of p.local x (and_true-left (is_apart x p) _ h)) (place_to D b p k.0), apart_to os (and_true-right (is_apart x p) _ h) k.1)
    apart_to (operand.Const c ∷ os) h k = (refl, apart_to os h k)

  refers_to : (q : Place) → Fits D b q → (has_deref q.proj ≡ false → borrowed D b q.local ≡ true) → stmts.RefTo D b.locals (ts2 D b) (plan D b) q (split_place (s D b) q)
  refers_to q h l = go (has_deref q.proj) refl
    where
      here : (o : Option ℕ) → s D b q.local ≡ o → has_deref q.proj ≡ false → stmts.RefTo D b.locals (ts2 D b) (plan D b) q (split_place (s D b) q)
      here None e d = (let same : split_place (s D b) q ≡ q = ap (λ o. moved_to o q q.proj) e in inl (lent_at D b q.local (place_local D b q h.ty h.is) e (l d) ∙ ap (λ (z : Place). Some z.local) (sym same), ap (λ (z : Place). z.proj) (sym same)))
      here (Some y) e d = absurd (let z : true ≡ false = sym (l d) ∙ unlent D b q.local y e in grind arith)

      go : (c : Bool) → has_deref q.proj ≡ c → stmts.RefTo D b.locals (ts2 D b) (plan D b) q (split_place (s D b) q)
      go true d = inr (d, place_to D b q h)
      go false d = here (s D b q.local) refl d

  two_to : (a c : Operand) → AllFit D b (flat_map operand_places (a ∷ c ∷ [])) → OperandTo D b.locals (ts2 D b) (plan D b) a (split_operand (s D b) a) × OperandTo D b.locals (ts2 D b) (plan D b) c (split_operand (s D b) c)
  two_to a c h = let (x, k) = operand_to D b a (c ∷ []) h in (x, (operand_to D b c [] k).0)

  rvalue_to : (p : Place) (r : TypedRvalue) → AllFit D b (rvalue_places r) → Known D b (assign p r) → stmts.RvalueTo D b.locals (ts2 D b) (plan D b) r (split_rvalue (s D b) r)
  rvalue_to p («use» o) h k = (operand_to D b o [] h).0
  rvalue_to p (binary op a c) h k = let (x, y) = two_to a c h in (refl, x, y)
  rvalue_to p (overflow op a c) h k = let (x, y) = two_to a c h in (refl, x, y)
  rvalue_to p (unary op a) h k = (refl, (operand_to D b a [] h).0)
  rvalue_to p (cast a t) h k = (refl, (operand_to D b a [] h).0)
  rvalue_to p (rvalue.ref q) h k = refers_to q h.0 k.lends
  rvalue_to p (rvalue.ref_mut q) h k = refers_to q h.0 k.lends
  rvalue_to p (discriminant q) h k = place_to D b q h.0
  rvalue_to p (tuple os) h k = operands_to D b os h
  rvalue_to p (build d i os) h k = (refl, refl, operands_to D b os h)

  module _ (f2 f1 : ℕ) (j : Renaming) (R : Roots D b.locals (ts2 D b) (plan D b) f2 f1 j) (G : TypeMap) (bok : (t : Tree) → HasTy D G t (blank D t)) (lok : (x : ℕ) (t : Tree) → slice_get b.locals x ≡ Some t → G f1 x ≡ Some t) (needs : NeedsOk D) (m2s m1s : Memory) where
    abbrev All : Between
    All = pieces.Pieces D b.locals (ts2 D b) (plan D b) f2 f1 j R G bok lok needs m2s m1s

    abbrev H1 : Here
    H1 = record { shapes = D; locals = b.locals; frame = f1 }

    abbrev H2 : Here
    H2 = record { shapes = D; locals = ts2 D b; frame = f2 }

    abbrev Did : List TypedStmt → Memory → Type 0
    Did ss m1' = (m2' : Memory) × (exec_all H2 m2s ss ≡ Some m2') × All m2' m1'

    abbrev Ty : TypedStmt → Type 0
    Ty = StmtTy D G bok b.locals f1 lok

    did_by : (ss ss' : List TypedStmt) (m1' : Memory) → ss' ≡ ss → Did ss m1' → Did ss' m1'
    did_by ss ss' m1' e (m, ran, q) = (m, ap (exec_all H2 m2s) e ∙ ran, q)

    field_type : (p : Place) (t us u : Tree) (i : ℕ) → place_ty D b.locals p ≡ Some t → fields_of D t ≡ Some us → field_ty us i ≡ Some u → type_of H1 (field_at p i) ≡ Some u
    unfolding type_of
    field_type p t us u i e g h = field_typed D b.locals p t us u i e g h

    module _ (p : Place) (m1' : Memory) (l : All m2s m1s) where
      -- a copy or move into a split local
      module _ (q : Place) (o : Operand) (i : (o ≡ operand.Copy q) ⊎ (o ≡ operand.Move q)) (w : Filled D b fields p («use» o)) (k : Known D b (assign p («use» o))) where
        abbrev x : ℕ
        x = p.local

        abbrev y : ℕ
        y = w.first

        its : Parts D b p.local w.first k.typed.ty
        its = parts D b p.local w.first k.typed.ty w.chosen (whole_ty D b p k.typed.ty w.whole k.typed.place)

        far : q.local ≡ p.local → ⊥
        far = go i
          where
            go : (o ≡ operand.Copy q) ⊎ (o ≡ operand.Move q) → q.local ≡ p.local → ⊥
            go (inl i) = not_of q.local p.local (and_true-left (is_apart p.local q) true (sym (ap (λ o. list_all (is_apart p.local) (rvalue_places («use» o))) i) ∙ w.apart))
            go (inr i) = not_of q.local p.local (and_true-left (is_apart p.local q) true (sym (ap (λ o. list_all (is_apart p.local) (rvalue_places («use» o))) i) ∙ w.apart))

        its_copies : OperandsTo D b.locals (ts2 D b) (Rest p.local w.first its.sp) (field_copies q 0 its.tuple) (map (split_operand (s D b)) (field_copies q 0 its.tuple))
        unfolding used_whole
        its_copies = copies_to p.local w.first its.sp q far its.tuple 0 (λ n u f. field_fits D b q (used_whole D b p q o i k) its.tuple u (0 + n) its.is (ap (field_ty its.tuple) (let z : 0 + n ≡ n = omega arith in z) ∙ f))

        text : map (renamed (s D b)) (copies p q 0 (fields_at D b.locals p.local)) ≡ writes w.first (map (split_operand (s D b)) (field_copies q 0 its.tuple))
        text = copied_in p q w.first w.whole w.chosen its.tuple (fields_at D b.locals p.local) its.parts 0 w.first (omega arith)

      fill : (r : TypedRvalue) → Filled D b fields p r → Known D b (assign p r) → StmtMoves H1 (assign p r) → Ty (assign p r) → exec H1 m1s (assign p r) ≡ Some m1' → Did (map (renamed (s D b)) (spread (fields_at D b.locals p.local) p r)) m1'
      fill («use» (operand.Copy q)) w k mo ty e =
          let c = its q (operand.Copy q) (inl refl) w k in
          let is = whole_is p w.whole in
          let r : TypedRvalue = «use» (operand.Copy q) in
          did_by _ _ m1' (text q (operand.Copy q) (inl refl) w k)
          (stmts.take_does D b.locals (ts2 D b) (plan D b) f2 f1 j R G bok lok needs m2s m1s p.local w.first c.sp q (map (split_operand (s D b)) (field_copies q 0 c.tuple)) c.tuple c.first c.rest m1' (its_copies q (operand.Copy q) (inl refl) w k) c.rows c.some (subst (λ p. Ty (assign p r)) is ty) c.any l (subst (λ p. exec H1 m1s (assign p r) ≡ Some m1') is e))
      fill («use» (operand.Move q)) w k mo ty e = go (split_or_fits D b p («use» (operand.Move q)) q (used_whole D b p q (operand.Move q) (inr refl) k))
        where
          r : TypedRvalue
          r = «use» (operand.Move q)

          c : Parts D b p.local w.first k.typed.ty
          c = its q (operand.Move q) (inr refl) w k

          apart : q.local ≡ p.local → ⊥
          apart = far q (operand.Move q) (inr refl) w k

          its_to : OperandsTo D b.locals (ts2 D b) (Rest p.local w.first c.sp) (field_copies q 0 c.tuple) (map (split_operand (s D b)) (field_copies q 0 c.tuple))
          its_to = its_copies q (operand.Move q) (inr refl) w k

          same : map (renamed (s D b)) (copies p q 0 (fields_at D b.locals p.local)) ≡ writes w.first (map (split_operand (s D b)) (field_copies q 0 c.tuple))
          same = text q (operand.Move q) (inr refl) w k

          go : ((y : ℕ) × (q.proj ≡ []) × (s D b q.local ≡ Some y)) ⊎ Fits D b q → Did (map (renamed (s D b)) (copies p q 0 (fields_at D b.locals p.local))) m1'
          go (inr h) = did_by _ _ m1' same
              (stmts.take_moves D b.locals (ts2 D b) (plan D b) f2 f1 j R G bok lok needs m2s m1s p.local w.first c.sp q (split_place (s D b) q) (map (split_operand (s D b)) (field_copies q 0 c.tuple)) c.tuple c.first c.rest m1' (place_without D b.locals (ts2 D b) (plan D b) p.local w.first c.sp q (split_place (s D b) q) apart (place_to D b q h)) mo its_to c.rows c.some (subst (λ p. Ty (assign p r)) (whole_is p w.whole) ty) c.any l (subst (λ p. exec H1 m1s (assign p r) ≡ Some m1') (whole_is p w.whole) e))
          go (inl (yz, n, ez)) =
              let iq = whole_is q n in
              let ip = whole_is p w.whole in
              let ty2 = subst (λ q. Ty (assign (local_place p.local) («use» (operand.Move q)))) iq (subst (λ p. Ty (assign p r)) ip ty) in
              let e2 = subst (λ q. exec H1 m1s (assign (local_place p.local) («use» (operand.Move q))) ≡ Some m1') iq (subst (λ p. exec H1 m1s (assign p r) ≡ Some m1') ip e) in
              did_by _ _ m1' (same ∙ ap (λ q. writes w.first (map (split_operand (s D b)) (field_copies q 0 c.tuple))) iq)
              (stmts.take_split D b.locals (ts2 D b) (plan D b) f2 f1 j R G bok lok needs m2s m1s p.local w.first c.sp q.local yz (map (split_operand (s D b)) (field_copies (local_place q.local) 0 c.tuple)) c.tuple c.first c.rest m1' apart (split_at D b q.local yz ez) (subst (λ q. OperandsTo D b.locals (ts2 D b) (Rest p.local w.first c.sp) (field_copies q 0 c.tuple) (map (split_operand (s D b)) (field_copies q 0 c.tuple))) iq its_to) c.rows c.some ty2 c.any l e2)
      fill («use» (operand.Const c)) w k mo ty e = absurd (no_const D b c (parts D b p.local w.first k.typed.ty w.chosen (whole_ty D b p k.typed.ty w.whole k.typed.place)) (const_typed D b c k))
      fill (tuple os) w k mo ty e =
          let is = whole_is p w.whole in
          let sp = split_at D b p.local w.first w.chosen in
          did_by _ _ m1' (put_in p w.first w.whole w.chosen os 0 w.first (omega arith))
          (stmts.tuple_does D b.locals (ts2 D b) (plan D b) f2 f1 j R G bok lok needs m2s m1s p.local w.first sp os (map (split_operand (s D b)) os) m1' (apart_to p.local w.first sp os w.apart (built_fit D b p (tuple os) k (λ x. refl))) mo (subst (λ p. Ty (assign p (tuple os))) is ty) l (subst (λ p. exec H1 m1s (assign p (tuple os)) ≡ Some m1') is e))
      fill (build d v os) w k mo ty e =
          let is = whole_is p w.whole in
          let sp = split_at D b p.local w.first w.chosen in
          did_by _ _ m1' (put_in p w.first w.whole w.chosen os 0 w.first (omega arith))
          (stmts.build_does D b.locals (ts2 D b) (plan D b) f2 f1 j R G bok lok needs m2s m1s p.local w.first sp d v os (map (split_operand (s D b)) os) m1' (apart_to p.local w.first sp os w.apart (built_fit D b p (build d v os) k (λ x. refl))) mo (subst (λ p. Ty (assign p (build d v os))) is ty) l (subst (λ p. exec H1 m1s (assign p (build d v os)) ≡ Some m1') is e))
      fill (binary op a c) w k mo ty e = absurd (let z : false ≡ true = w.gives in grind arith)
      fill (overflow op a c) w k mo ty e = absurd (let z : false ≡ true = w.gives in grind arith)
      fill (unary op a) w k mo ty e = absurd (let z : false ≡ true = w.gives in grind arith)
      fill (cast a t) w k mo ty e = absurd (let z : false ≡ true = w.gives in grind arith)
      fill (rvalue.ref q) w k mo ty e = absurd (let z : false ≡ true = w.gives in grind arith)
      fill (rvalue.ref_mut q) w k mo ty e = absurd (let z : false ≡ true = w.gives in grind arith)
      fill (discriminant q) w k mo ty e = absurd (let z : false ≡ true = w.gives in grind arith)

      -- a split local is handed on
      module _ (q : Place) (o : Operand) (i : (o ≡ operand.Copy q) ⊎ (o ≡ operand.Move q)) (w : Handed D b fields p («use» o)) (k : Known D b (assign p («use» o))) (from : w.from ≡ q) where
        from_whole : q.proj ≡ []
        from_whole = ap (λ (q : Place). q.proj) (sym from) ∙ w.whole

        from_chosen : s D b q.local ≡ Some w.first
        from_chosen = ap (λ (q : Place). s D b q.local) (sym from) ∙ w.chosen

        from_parts : Parts D b q.local w.first k.typed.ty
        from_parts = parts D b q.local w.first k.typed.ty from_chosen (whole_ty D b q k.typed.ty from_whole (used_ty D b p q o i k))

        from_far : p.local ≡ q.local → ⊥
        from_far = not_of p.local q.local (ap (λ (q : Place). is_apart q.local p) (sym from) ∙ w.apart)

        fits_whole : Whole D b p
        fits_whole = record { ty = k.typed.ty; is = k.typed.place; inside = λ y e. inl (w.fits.inside y e) }

        from_text : map (renamed (s D b)) (copies p q 0 (fields_at D b.locals q.local)) ≡ gives_by (λ k. split_place (s D b) (field_at p k)) w.first 0 from_parts.tuple
        from_text = copied_out p q w.first from_whole from_chosen from_parts.tuple (fields_at D b.locals q.local) from_parts.parts 0

      hand : (r : TypedRvalue) (w : Handed D b fields p r) → Known D b (assign p r) → Ty (assign p r) → exec H1 m1s (assign p r) ≡ Some m1' → Did (map (renamed (s D b)) (spread (fields_at D b.locals w.from.local) p r)) m1'
      unfolding fits_whole
      hand («use» (operand.Copy q)) w k ty e =
          let from : w.from ≡ q = val (sym w.used) in
          let o = operand.Copy q in
          let c = from_parts q o (inl refl) w k from in
          let is = whole_is q (from_whole q o (inl refl) w k from) in
          did_by _ _ m1' (ap (λ (z : Place). map (renamed (s D b)) (copies p q 0 (fields_at D b.locals z.local))) from ∙ from_text q o (inl refl) w k from)
          (stmts.give_does D b.locals (ts2 D b) (plan D b) f2 f1 j R G bok lok needs m2s m1s q.local w.first c.sp p (λ k. split_place (s D b) (field_at p k)) c.tuple c.first c.rest m1' w.plain (λ n. field_deref p.proj n ∙ w.plain) (from_far q o (inl refl) w k from) c.any (λ n u f. field_type p k.typed.ty c.tuple u n k.typed.place c.is f) (λ n u f. place_to D b (field_at p n) (field_fits D b p (fits_whole q o (inl refl) w k from) c.tuple u n c.is f)) c.rows c.some (subst (λ q. Ty (assign p («use» (operand.Copy q)))) is ty) l (subst (λ q. exec H1 m1s (assign p («use» (operand.Copy q))) ≡ Some m1') is e))
      hand («use» (operand.Move q)) w k ty e =
          let from : w.from ≡ q = val (sym w.used) in
          let o = operand.Move q in
          let c = from_parts q o (inr refl) w k from in
          let is = whole_is q (from_whole q o (inr refl) w k from) in
          did_by _ _ m1' (ap (λ (z : Place). map (renamed (s D b)) (copies p q 0 (fields_at D b.locals z.local))) from ∙ from_text q o (inr refl) w k from)
          (stmts.give_moves D b.locals (ts2 D b) (plan D b) f2 f1 j R G bok lok needs m2s m1s q.local w.first c.sp p (λ k. split_place (s D b) (field_at p k)) c.tuple c.first c.rest m1' w.plain (λ n. field_deref p.proj n ∙ w.plain) (from_far q o (inr refl) w k from) c.any (λ n u f. field_type p k.typed.ty c.tuple u n k.typed.place c.is f) (λ n u f. place_to D b (field_at p n) (field_fits D b p (fits_whole q o (inr refl) w k from) c.tuple u n c.is f)) c.rows c.some (subst (λ q. Ty (assign p («use» (operand.Move q)))) is ty) l (subst (λ q. exec H1 m1s (assign p («use» (operand.Move q))) ≡ Some m1') is e))
      hand («use» (operand.Const c)) w k ty e = absurd (let z : ◌≡◌ {A = Option Place} None (Some w.from) = w.used in grind arith)
      hand (binary op a c) w k ty e = absurd (let z : ◌≡◌ {A = Option Place} None (Some w.from) = w.used in grind arith)
      hand (overflow op a c) w k ty e = absurd (let z : ◌≡◌ {A = Option Place} None (Some w.from) = w.used in grind arith)
      hand (unary op a) w k ty e = absurd (let z : ◌≡◌ {A = Option Place} None (Some w.from) = w.used in grind arith)
      hand (cast a t) w k ty e = absurd (let z : ◌≡◌ {A = Option Place} None (Some w.from) = w.used in grind arith)
      hand (rvalue.ref q) w k ty e = absurd (let z : ◌≡◌ {A = Option Place} None (Some w.from) = w.used in grind arith)
      hand (rvalue.ref_mut q) w k ty e = absurd (let z : ◌≡◌ {A = Option Place} None (Some w.from) = w.used in grind arith)
      hand (discriminant q) w k ty e = absurd (let z : ◌≡◌ {A = Option Place} None (Some w.from) = w.used in grind arith)
      hand (tuple os) w k ty e = absurd (let z : ◌≡◌ {A = Option Place} None (Some w.from) = w.used in grind arith)
      hand (build d v os) w k ty e = absurd (let z : ◌≡◌ {A = Option Place} None (Some w.from) = w.used in grind arith)

    abbrev Pay : Type 0
    Pay = spots.PayloadsOk D b.locals (ts2 D b) f1 f2 j (pieces.AddrTo D b.locals (ts2 D b) (plan D b) f2 f1 j R) (PlaceTo D b.locals (ts2 D b) (plan D b)) G bok lok All (pieces.split_kept D b.locals (ts2 D b) (plan D b) f2 f1 j R G bok lok needs m2s m1s) m2s

    -- one statement for one
    one : (x t : TypedStmt) (m1' : Memory) → stmts.StmtTo D b.locals (ts2 D b) (plan D b) x t → StmtMoves H1 x → Ty x → Pay → All m2s m1s → exec H1 m1s x ≡ Some m1' → Did (t ∷ []) m1'
    one x t m1' h mo ty pay l e = let (m2', ran, q) = stmts.one_does D b.locals (ts2 D b) (plan D b) f2 f1 j R G bok lok needs m2s m1s x t m2s m1s m1' h mo ty pay l e in (m2', some_bind _ ran refl, q)

    assigned : (p : Place) (r : TypedRvalue) (m1' : Memory) → Known D b (assign p r) → StmtMoves H1 (assign p r) → Ty (assign p r) → Pay → All m2s m1s → exec H1 m1s (assign p r) ≡ Some m1' → Did (split_stmt (s D b) (fields_at D b.locals) (assign p r)) m1'
    assigned p r m1' k mo ty pay l e = go (way D b fields p r k)
      where
        go : Way D b fields p r → Did (map (renamed (s D b)) (by_fields (s D b) fields p r)) m1'
        go (inl w) = did_by _ _ m1' (ap (map (renamed (s D b))) w.spreads) (fill p m1' l r w k mo ty e)
        go (inr (inl w)) = did_by _ _ m1' (ap (map (renamed (s D b))) w.spreads) (hand p m1' l r w k ty e)
        go (inr (inr w)) = did_by _ _ m1' (ap (map (renamed (s D b))) w.stays) (one (assign p r) (assign (split_place (s D b) p) (split_rvalue (s D b) r)) m1' (place_to D b p w.fits, rvalue_to p r w.all k) mo ty pay l e)

    stored : (live : Bool) (x : ℕ) (m1' : Memory) → x < length b.locals → Ty (if live then storage_live x else storage_dead x) → StmtMoves H1 (if live then storage_live x else storage_dead x) → Pay → All m2s m1s → exec H1 m1s (if live then storage_live x else storage_dead x) ≡ Some m1' → Did (split_stmt (s D b) (fields_at D b.locals) (if live then storage_live x else storage_dead x)) m1'
    stored live x m1' below ty mo pay l e = go live (s D b x) refl ty mo e
      where
        go : (live : Bool) (o : Option ℕ) → s D b x ≡ o → Ty (if live then storage_live x else storage_dead x) → StmtMoves H1 (if live then storage_live x else storage_dead x) → exec H1 m1s (if live then storage_live x else storage_dead x) ≡ Some m1' → Did (split_stmt (s D b) (fields_at D b.locals) (if live then storage_live x else storage_dead x)) m1'
        go true None q ty mo e = did_by _ _ m1' (ap (split_storage storage_live (fields_at D b.locals x) x) q) (one (storage_live x) (storage_live x) m1' (stays_at D b x below q) mo ty pay l e)
        go false None q ty mo e = did_by _ _ m1' (ap (split_storage storage_dead (fields_at D b.locals x) x) q) (one (storage_dead x) (storage_dead x) m1' (stays_at D b x below q) mo ty pay l e)
        go true (Some y) q ty mo e =
            let c = chosen D b x y q in
            let ps = parts D b x y c.ty q c.there in
            did_by _ _ m1' (ap (split_storage storage_live (fields_at D b.locals x) x) q ∙ marked storage_live ps.tuple (fields_at D b.locals x) ps.parts y) (stmts.storage_does D b.locals (ts2 D b) (plan D b) f2 f1 j R G bok lok needs m2s m1s true x y ps.sp c.ty ps.tuple m1' c.there ps.is l e)
        go false (Some y) q ty mo e =
            let c = chosen D b x y q in
            let ps = parts D b x y c.ty q c.there in
            did_by _ _ m1' (ap (split_storage storage_dead (fields_at D b.locals x) x) q ∙ marked storage_dead ps.tuple (fields_at D b.locals x) ps.parts y) (stmts.storage_does D b.locals (ts2 D b) (plan D b) f2 f1 j R G bok lok needs m2s m1s false x y ps.sp c.ty ps.tuple m1' c.there ps.is l e)

    pub split_does : (x : TypedStmt) (m1' : Memory) → Known D b x → StmtMoves H1 x → Ty x → Pay → All m2s m1s → exec H1 m1s x ≡ Some m1' → Did (split_stmt (s D b) (fields_at D b.locals) x) m1'
    split_does (assign p r) m1' k mo ty pay l e = assigned p r m1' k mo ty pay l e
    split_does (storage_live x) m1' k mo ty pay l e = stored true x m1' k.there ty mo pay l e
    split_does (storage_dead x) m1' k mo ty pay l e = stored false x m1' k.there ty mo pay l e
    split_does (set_discriminant p i) m1' k mo ty pay l e = one (set_discriminant p i) (set_discriminant (split_place (s D b) p) i) m1' (place_to D b p (record { ty = k.typed.ty; is = k.typed.place; inside = λ y q. k.allowed p.local y q }), refl) mo ty pay l e
