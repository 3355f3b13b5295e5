-- A split body keeps the rules, drops no more and calls nothing else.
use Rattle.std.proofs.Common.{◌≡◌, ◌⊎◌, inl, inr, refl, sym, ap, ap₂, ◌∙◌, subst, ℕ, zero, suc, ◌+◌, ◌<◌, true, false, nat_lt, ◌&&◌, List, [], ◌∷◌, ◌++◌, map, length, Option, Some, None, slice_get, arith, lt-ltb}
use Rattle.std.specs.List.{list_all, flat_map}
use Rattle.std.proofs.lemmas.List.{length-append}
use Rattle.std.proofs.lemmas.Option.{slice_get_within}
use Rattle.mir_syntax.specs.declared.body.Place.{Place}
use Rattle.mir_syntax.specs.declared.body.Operand.{Operand}
use Rattle.mir_syntax.specs.declared.body.Operand.TheVariants as operand
use Rattle.mir_syntax.specs.Tree.{Tree}
use Rattle.mir_syntax.specs.Crate.{TypedRvalue, «use», binary, overflow, unary, cast, discriminant, tuple, build, TypedStmt, assign, storage_live, storage_dead, set_discriminant, TypedField, TypedVariant, TypedDef, TypedBlock, TypedBody, TypedFunction, Crate}
use Rattle.mir_syntax.specs.Crate as rvalue
use Rattle.mir_syntax.specs.Shapes.{Shape, shapes_of, fields_of, field_ty}
use Rattle.mir_syntax.specs.Parts.{rvalue_operands, rvalue_places}
use Rattle.mir_syntax.proofs.Binds.{bind_some}
use Rattle.mir_rules.specs.Formed.{place_formed, operand_formed, shape_formed, stmt_formed, body_formed}
use Rattle.mir_rules.specs.Typing.{build_ty, operands_ty, rvalue_ty}
use Rattle.mir_rules.specs.Valid.{Valid}
use Rattle.mir_rules.proofs.Lists.{and_true-left, and_true-right}
use Rattle.mir_rules.proofs.ValidCrates.{args_below}
use Rattle.sroa_pass.specs.Split.{Fields, copies, spread, by_fields, renamed, storages, split_storage, split_stmt, fields_at, firsts, new_types}
use Rattle.sroa_pass.proofs.Fields.{parts_at}
use Rattle.sroa_pass.proofs.Planned.{val, s, ts2, chosen, chosen_fields, Fits}
use Rattle.sroa_pass.proofs.Ways.{Known, Filled, Handed, Way, way}
use Rattle.sroa_pass.proofs.Uses.{whole_ty, used_ty, used_whole, built_fit, const_typed, Parts, parts, no_const}
use Rattle.sroa_pass.proofs.valid.Types.{place_same, place_there}
use Rattle.sroa_pass.proofs.valid.Spread.{Good, AllGood, good, copies_good, puts_good, struct_built}

-- the types of a tuple of operands are its fields
pub operands_tuple : (D : List Shape) (ts : List Tree) (os : List Operand) (t : Tree) → operands_ty D ts os ≡ Some t → fields_of D t ≡ Some t
unfolding operands_ty
operands_tuple D ts [] t e = ap (fields_of D) (sym (val e)) ∙ e
operands_tuple D ts (o ∷ os) t e =
    let (u, e1, k1) = bind_some e in
    let (us, e2, k2) = bind_some k1 in
    ap (fields_of D) (sym (val k2)) ∙ k2

pub tuple_typed : (D : List Shape) (ts : List Tree) (os : List Operand) (t : Tree) → rvalue_ty D ts (tuple os) ≡ Some t → operands_ty D ts os ≡ Some t
unfolding rvalue_ty
tuple_typed D ts os t e = e

pub build_typed : (D : List Shape) (ts : List Tree) (d v : ℕ) (os : List Operand) (t : Tree) → rvalue_ty D ts (build d v os) ≡ Some t → (us : Tree) × (operands_ty D ts os ≡ Some us) × (build_ty D d v us ≡ Some t)
unfolding rvalue_ty
build_typed D ts d v os t e = bind_some e

module _ (C : Crate) (valid : Valid C) (b b2 : TypedBody) (formed : body_formed C b ≡ true) (same : b2.locals ≡ ts2 (shapes_of C) b) (many : length b2.blocks ≡ length b.blocks) where
  abbrev D : List Shape
  D = shapes_of C

  abbrev fields : Fields
  fields = fields_at (shapes_of C) b.locals

  abbrev Goods : List TypedStmt → Type 0
  Goods = AllGood C valid b b2 formed same many

  field_here : (x y : ℕ) (t : Tree) (c : Parts D b x y t) (k : ℕ) (u : Tree) → slice_get (fields_at (shapes_of C) b.locals x) k ≡ Some u → field_ty c.tuple (0 + k) ≡ Some u
  field_here x y t c k u e = ap (field_ty c.tuple) (let z : 0 + k ≡ k = omega arith in z) ∙ parts_at c.tuple (fields_at (shapes_of C) b.locals x) c.parts k ∙ e

  -- the form of an assignment's parts
  record Form (p : Place) (r : TypedRvalue) : Type 0 where
    pub place : place_formed b p ≡ true
    pub operands : list_all operand_formed (rvalue_operands r) ≡ true
    pub places : list_all (place_formed b) (rvalue_places r) ≡ true

  form : (p : Place) (r : TypedRvalue) → stmt_formed C b (assign p r) ≡ true → Form p r
  unfolding stmt_formed
  form p r h =
      let place = place_formed b p in
      let shape = shape_formed C r in
      let ops = list_all operand_formed (rvalue_operands r) in
      let places = list_all (place_formed b) (rvalue_places r) in
      let f = and_true-right place (shape && (ops && places)) h in
      let f2 = and_true-right shape (ops && places) f in
      record { place = and_true-left place (shape && (ops && places)) h; operands = and_true-left ops places f2; places = and_true-right ops places f2 }

  filled : (p : Place) (r : TypedRvalue) → Filled D b fields p r → Known D b (assign p r) → Form p r → Goods (map (renamed (s D b)) (spread (fields_at (shapes_of C) b.locals p.local) p r))
  unfolding used_whole
  filled p («use» (operand.Copy q)) w k f =
      let c = parts D b p.local w.first k.typed.ty w.chosen (whole_ty D b p k.typed.ty w.whole k.typed.place) in
      copies_good C valid b b2 formed same many p q (record { ty = k.typed.ty; is = k.typed.place; inside = λ y e. inr w.whole }) (used_whole D b p q (operand.Copy q) (inl refl) k) c.tuple c.is c.is f.place (and_true-left (place_formed b q) true f.places) (fields_at (shapes_of C) b.locals p.local) 0 (field_here p.local w.first k.typed.ty c)
  filled p («use» (operand.Move q)) w k f =
      let c = parts D b p.local w.first k.typed.ty w.chosen (whole_ty D b p k.typed.ty w.whole k.typed.place) in
      copies_good C valid b b2 formed same many p q (record { ty = k.typed.ty; is = k.typed.place; inside = λ y e. inr w.whole }) (used_whole D b p q (operand.Move q) (inr refl) k) c.tuple c.is c.is f.place (and_true-left (place_formed b q) true f.places) (fields_at (shapes_of C) b.locals p.local) 0 (field_here p.local w.first k.typed.ty c)
  filled p («use» (operand.Const c)) w k f = absurd (no_const D b c (parts D b p.local w.first k.typed.ty w.chosen (whole_ty D b p k.typed.ty w.whole k.typed.place)) (const_typed D b c k))
  filled p (tuple os) w k f =
      let c = parts D b p.local w.first k.typed.ty w.chosen (whole_ty D b p k.typed.ty w.whole k.typed.place) in
      let ot = tuple_typed D b.locals os k.typed.ty k.typed.rvalue in
      let is : k.typed.ty ≡ c.tuple = val (sym (operands_tuple D b.locals os k.typed.ty ot) ∙ c.is) in
      puts_good C valid b b2 formed same many p (record { ty = k.typed.ty; is = k.typed.place; inside = λ y e. inr w.whole }) c.tuple c.is f.place os k.typed.ty 0 ot (λ n u e. ap₂ (λ t n. field_ty t n) (sym is) (let z : 0 + n ≡ n = omega arith in z) ∙ e) (built_fit D b p (tuple os) k (λ x. refl)) f.operands f.places k.typed.moves
  filled p (build d v os) w k f =
      let c = parts D b p.local w.first k.typed.ty w.chosen (whole_ty D b p k.typed.ty w.whole k.typed.place) in
      let (us, ot, bt) = build_typed D b.locals d v os k.typed.ty k.typed.rvalue in
      let is : us ≡ c.tuple = struct_built C valid d v us k.typed.ty c.tuple bt c.is in
      puts_good C valid b b2 formed same many p (record { ty = k.typed.ty; is = k.typed.place; inside = λ y e. inr w.whole }) c.tuple c.is f.place os us 0 ot (λ n u e. ap₂ (λ t n. field_ty t n) (sym is) (let z : 0 + n ≡ n = omega arith in z) ∙ e) (built_fit D b p (build d v os) k (λ x. refl)) f.operands f.places k.typed.moves
  filled p (binary op a c) w k f = absurd (let z : false ≡ true = w.gives in grind arith)
  filled p (overflow op a c) w k f = absurd (let z : false ≡ true = w.gives in grind arith)
  filled p (unary op a) w k f = absurd (let z : false ≡ true = w.gives in grind arith)
  filled p (cast a t) w k f = absurd (let z : false ≡ true = w.gives in grind arith)
  filled p (rvalue.ref q) w k f = absurd (let z : false ≡ true = w.gives in grind arith)
  filled p (rvalue.ref_mut q) w k f = absurd (let z : false ≡ true = w.gives in grind arith)
  filled p (discriminant q) w k f = absurd (let z : false ≡ true = w.gives in grind arith)

  handed_copies : (p q : Place) (o : Operand) → (o ≡ operand.Copy q) ⊎ (o ≡ operand.Move q) → (w : Handed D b fields p («use» o)) → Known D b (assign p («use» o)) → w.from ≡ q → place_formed b p ≡ true → place_formed b q ≡ true → Goods (map (renamed (s D b)) (copies p q 0 (fields_at (shapes_of C) b.locals w.from.local)))
  unfolding used_whole
  handed_copies p q o i w k from fp fq =
      let n : q.proj ≡ [] = ap (λ (q : Place). q.proj) (sym from) ∙ w.whole in
      let e : s D b q.local ≡ Some w.first = ap (λ (q : Place). s D b q.local) (sym from) ∙ w.chosen in
      let c = parts D b q.local w.first k.typed.ty e (whole_ty D b q k.typed.ty n (used_ty D b p q o i k)) in
      subst (λ (z : Place). Goods (map (renamed (s D b)) (copies p q 0 (fields_at (shapes_of C) b.locals z.local)))) (sym from)
      (copies_good C valid b b2 formed same many p q (record { ty = k.typed.ty; is = k.typed.place; inside = λ y e. inl (w.fits.inside y e) }) (used_whole D b p q o i k) c.tuple c.is c.is fp fq (fields_at (shapes_of C) b.locals q.local) 0 (field_here q.local w.first k.typed.ty c))

  handed : (p : Place) (r : TypedRvalue) (w : Handed D b fields p r) → Known D b (assign p r) → Form p r → Goods (map (renamed (s D b)) (spread (fields_at (shapes_of C) b.locals w.from.local) p r))
  handed p («use» (operand.Copy q)) w k f = handed_copies p q (operand.Copy q) (inl refl) w k (val (sym w.used)) f.place (and_true-left (place_formed b q) true f.places)
  handed p («use» (operand.Move q)) w k f = handed_copies p q (operand.Move q) (inr refl) w k (val (sym w.used)) f.place (and_true-left (place_formed b q) true f.places)
  handed p («use» (operand.Const c)) w k f = absurd (let z : ◌≡◌ {A = Option Place} None (Some w.from) = w.used in grind arith)
  handed p (binary op a c) w k f = absurd (let z : ◌≡◌ {A = Option Place} None (Some w.from) = w.used in grind arith)
  handed p (overflow op a c) w k f = absurd (let z : ◌≡◌ {A = Option Place} None (Some w.from) = w.used in grind arith)
  handed p (unary op a) w k f = absurd (let z : ◌≡◌ {A = Option Place} None (Some w.from) = w.used in grind arith)
  handed p (cast a t) w k f = absurd (let z : ◌≡◌ {A = Option Place} None (Some w.from) = w.used in grind arith)
  handed p (rvalue.ref q) w k f = absurd (let z : ◌≡◌ {A = Option Place} None (Some w.from) = w.used in grind arith)
  handed p (rvalue.ref_mut q) w k f = absurd (let z : ◌≡◌ {A = Option Place} None (Some w.from) = w.used in grind arith)
  handed p (discriminant q) w k f = absurd (let z : ◌≡◌ {A = Option Place} None (Some w.from) = w.used in grind arith)
  handed p (tuple os) w k f = absurd (let z : ◌≡◌ {A = Option Place} None (Some w.from) = w.used in grind arith)
  handed p (build d v os) w k f = absurd (let z : ◌≡◌ {A = Option Place} None (Some w.from) = w.used in grind arith)

  assigned : (p : Place) (r : TypedRvalue) → Known D b (assign p r) → stmt_formed C b (assign p r) ≡ true → Goods (split_stmt (s D b) fields (assign p r))
  assigned p r k h = go (way D b fields p r k)
    where
      go : Way D b fields p r → Goods (map (renamed (s D b)) (by_fields (s D b) fields p r))
      go (inl w) = subst (λ ss. Goods (map (renamed (s D b)) ss)) (sym w.spreads) (filled p r w k (form p r h))
      go (inr (inl w)) = subst (λ ss. Goods (map (renamed (s D b)) ss)) (sym w.spreads) (handed p r w k (form p r h))
      go (inr (inr w)) = subst (λ ss. Goods (map (renamed (s D b)) ss)) (sym w.stays) (good C valid b b2 formed same many p r (record { fits = w.fits; all = w.all; typed = k.typed; form = h }), tt)

  -- ---- storage

  -- a storage statement, of either kind
  record Stores (g : ℕ → TypedStmt) : Type 0 where
    pub good : (z : ℕ) → nat_lt z (length b2.locals) ≡ true → b.args < z → Good C valid b b2 formed same many (g z)

  live : Stores storage_live
  unfolding stmt_formed
  live = record { good = λ z l a. (l, a) }

  dead : Stores storage_dead
  unfolding stmt_formed
  dead = record { good = λ z l a. (l, a) }

  in_range : (z : ℕ) (u : Tree) → slice_get (ts2 D b) z ≡ Some u → nat_lt z (length b2.locals) ≡ true
  in_range z u e = lt-ltb z (length b2.locals) (subst (λ (ts : List Tree). z < length ts) (sym same) (slice_get_within (ts2 D b) z u e))

  each_stored : (g : ℕ → TypedStmt) → Stores g → (vs : List Tree) (y : ℕ) → b.args < y → ((k : ℕ) (u : Tree) → slice_get vs k ≡ Some u → slice_get (ts2 D b) (y + k) ≡ Some u) → Goods (storages g y vs)
  each_stored g h [] y a e = tt
  each_stored g h (v ∷ vs) y a e = (
    h.good y (in_range y v (ap (slice_get (ts2 D b)) (let z : y ≡ y + 0 = omega arith in z) ∙ e 0 v refl)) a,
    each_stored g h vs (suc y) (omega (arith, a)) (λ k u q. ap (slice_get (ts2 D b)) (let z : suc y + k ≡ y + suc k = omega arith in z) ∙ e (suc k) u q),
  )

  stored : (g : ℕ → TypedStmt) → Stores g → (x : ℕ) → x < length b.locals → b.args < x → Goods (split_storage g (fields_at (shapes_of C) b.locals x) x (s D b x))
  stored g h x l a = go (s D b x) refl
    where
      long : length b2.locals ≡ length b.locals + length (new_types D (firsts D b) b.locals)
      long = ap (λ (ts : List Tree). length ts) same ∙ length-append b.locals (new_types D (firsts D b) b.locals)

      go : (o : Option ℕ) → s D b x ≡ o → Goods (split_storage g (fields_at (shapes_of C) b.locals x) x o)
      go None e = (h.good x (lt-ltb x (length b2.locals) (let n = long in omega (arith, n, l))) a, tt)
      go (Some y) e =
          let c = chosen D b x y e in
          let above = c.above in
          let below = args_below C b formed in
          each_stored g h (fields_at (shapes_of C) b.locals x) y (omega (arith, above, below)) (λ k u q. c.types k u (ap (λ vs. slice_get vs k) (sym (chosen_fields D b x y c)) ∙ q))

  set_good : (p : Place) (v : ℕ) → Known D b (set_discriminant p v) → stmt_formed C b (set_discriminant p v) ≡ true → Goods (renamed (s D b) (set_discriminant p v) ∷ [])
  unfolding stmt_formed
  set_good p v k h =
      let fits : Fits D b p = record { ty = k.typed.ty; is = k.typed.place; inside = λ y q. k.allowed p.local y q } in (
        (
          place_there D b C b2 same many p fits h,
          record {
            ty = k.typed.ty;
            place = place_same D b p fits ∙ k.typed.place;
            shape = k.typed.shape;
            enum = k.typed.enum;
            needs_none = k.typed.needs_none;
            fields = k.typed.fields;
            variant = k.typed.variant;
          },
        ),
        tt,
      )

  stmt_good : (x : TypedStmt) → Known D b x → stmt_formed C b x ≡ true → Goods (split_stmt (s D b) fields x)
  stmt_good (assign p r) k h = assigned p r k h
  stmt_good (storage_live x) k h = stored storage_live live x k.there k.typed
  stmt_good (storage_dead x) k h = stored storage_dead dead x k.there k.typed
  stmt_good (set_discriminant p v) k h = set_good p v k h

  goods_append : (ss zs : List TypedStmt) → Goods ss → Goods zs → Goods (ss ++ zs)
  goods_append [] zs h k = k
  goods_append (x ∷ ss) zs h k = (h.0, goods_append ss zs h.1 k)

  pub stmts_good : (ss : List TypedStmt) → ((i : ℕ) (x : TypedStmt) → slice_get ss i ≡ Some x → Known D b x × (stmt_formed C b x ≡ true)) → Goods (flat_map (split_stmt (s D b) fields) ss)
  stmts_good [] h = tt
  stmts_good (x ∷ ss) h = (let (k, f) = h 0 x refl in goods_append (split_stmt (s D b) fields x) (flat_map (split_stmt (s D b) fields) ss) (stmt_good x k f) (stmts_good ss (λ i y e. h (suc i) y e)))

  pub good_at : (ss : List TypedStmt) → Goods ss → (i : ℕ) (t : TypedStmt) → slice_get ss i ≡ Some t → Good C valid b b2 formed same many t
  good_at [] h i t e = absurd (grind arith)
  good_at (x ∷ ss) h zero t e = subst (Good C valid b b2 formed same many) (val e) h.0
  good_at (x ∷ ss) h (suc i) t e = good_at ss h.1 i t e
