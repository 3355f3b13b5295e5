-- A drop that goes on in any frame whose locals agree with what stands for them: the frame says where it stands after an item, and at the end.
use Rattle.std.proofs.Common.{◌≡◌, refl, sym, ap, ap₂, ◌∙◌, subst, ℕ, suc, ◌<◌, Bool, true, false, if◌then◌else◌, List, [], ◌∷◌, ◌++◌, Option, Some, None, slice_get, arith}
use Rattle.mir_syntax.specs.declared.body.Proj.TheVariants.{Field, Downcast}
use Rattle.mir_syntax.specs.Tree.{Tree, scalar, empty, more, ref, ref_mut, named}
use Rattle.mir_syntax.specs.Shapes.{Shape, path_ty, struct_fields, needs_drop, destructor_of}
use Rattle.mir_syntax.specs.Crate.{TypedBody}
use Rattle.mir_semantics.specs.Values.{Addr, Value, number, nil, cons, variant, pointer, hole, is_hole, at_path, blank}
use Rattle.mir_semantics.specs.Memory.{Memory, local_at, value_at, write, further}
use Rattle.mir_semantics.specs.Step.{field_visits, variant_visits, enum_visits, shape_visits, Visit, Dropping, Control, State, Next, on, go_on, to_block, visits_of, work_on, visit, visit_unless, visit_if, work_off, left_in, left_at, destroyed_at, destroyed}
use Rattle.mir_renaming.specs.Renaming.{Renaming, AddrRel, ValueRel}
use Rattle.mir_syntax.proofs.Binds.{bind_some, some_bind}
use Rattle.mir_renaming.proofs.Memory.{value_at_rel, further_rel}
use Rattle.mir_renaming.proofs.Statements.{Linked, blank_rel, write_linked}
use Rattle.mir_renaming.proofs.Types.{TypeMap, AddrTy, some_eq}
use Rattle.mir_renaming.proofs.Typed.{VisitsTy}
use Rattle.mir_renaming.proofs.Agree.{Agree, at_path_agree, tight_agree, tight_self, hole_too, same_hole}
use Rattle.mir_renaming.proofs.Stores.{root_of}
use Rattle.mir_renaming.proofs.Items.{InLocal, Items, OwnDrop, FirstNeeds}
use Rattle.mir_relate.specs.Leaves.{Leaves}
use Rattle.mir_relate.specs.Frames.{Change, target, Pass, VisitRel, VisitsRel, Visiting, AgreesBy, Below, Base}
use Rattle.mir_relate.specs.Pass.{Knows, KnowsAll, Valids, FrameLaws, Goes}
use Rattle.mir_relate.proofs.Leaves.{some_val, leaves_write}
use Rattle.mir_relate.proofs.Enter.{goes_at, goes_by, enter_goes}

-- ---- the visits of related places

pub fields_rel : (j : Renaming) (a b : Addr) (i : ℕ) (t : Tree) → AddrRel j a b → VisitsRel j (field_visits a i t) (field_visits b i t)
fields_rel j a b i (more t ts) h = (record { addr = further_rel j a b (Field i) h; ty = refl }, fields_rel j a b (suc i) ts h)
fields_rel j a b i (scalar s) h = tt
fields_rel j a b i empty h = tt
fields_rel j a b i (ref t) h = tt
fields_rel j a b i (ref_mut t) h = tt
fields_rel j a b i (named d) h = tt

variants_rel : (j : Renaming) (a b : Addr) (k : ℕ) (o : Option Tree) → AddrRel j a b → VisitsRel j (variant_visits a k o) (variant_visits b k o)
variants_rel j a b k None h = tt
variants_rel j a b k (Some t) h = fields_rel j (further a (Downcast k)) (further b (Downcast k)) 0 t (further_rel j a b (Downcast k) h)

enums_rel : (j : Renaming) (a b : Addr) (ts : List Tree) (v w : Value) → AddrRel j a b → ValueRel j v w → (is_hole v ≡ true → is_hole w ≡ true) → VisitsRel j (enum_visits a ts v) (enum_visits b ts w)
enums_rel j a b ts hole hole h r f = tt
enums_rel j a b ts hole (number n) h r f = absurd (let z = f refl in grind arith)
enums_rel j a b ts hole nil h r f = absurd (let z = f refl in grind arith)
enums_rel j a b ts hole (cons w ws) h r f = absurd (let z = f refl in grind arith)
enums_rel j a b ts hole (variant k w) h r f = absurd (let z = f refl in grind arith)
enums_rel j a b ts hole (pointer c) h r f = absurd (let z = f refl in grind arith)
enums_rel j a b ts (variant k v) (variant i w) h r f = subst (λ i. VisitsRel j (variant_visits a k (slice_get ts k)) (variant_visits b i (slice_get ts i))) r.0 (variants_rel j a b k (slice_get ts k) h)
enums_rel j a b ts (number n) (number m) h r f = tt
enums_rel j a b ts nil nil h r f = tt
enums_rel j a b ts (cons v vs) (cons w ws) h r f = tt
enums_rel j a b ts (pointer c) (pointer d) h r f = tt
enums_rel j a b ts v w h r f = absurd r

shapes_rel : (j : Renaming) (a b : Addr) (o : Option Shape) (v w : Value) → AddrRel j a b → ValueRel j v w → (is_hole v ≡ true → is_hole w ≡ true) → VisitsRel j (shape_visits a o v) (shape_visits b o w)
shapes_rel j a b None v w h r f = tt
shapes_rel j a b (Some s) v w h r f = go s.is_enum
  where
    go : (c : Bool) → VisitsRel j (if c then enum_visits a s.variants v else field_visits a 0 (struct_fields s)) (if c then enum_visits b s.variants w else field_visits b 0 (struct_fields s))
    go true = enums_rel j a b s.variants v w h r f
    go false = fields_rel j a b 0 (struct_fields s) h

pub parts_rel : (D : List Shape) (j : Renaming) (a b : Addr) (t : Tree) (v w : Value) → AddrRel j a b → ValueRel j v w → (is_hole v ≡ true → is_hole w ≡ true) → VisitsRel j (visits_of D a t v) (visits_of D b t w)
parts_rel D j a b (named d) v w h r f = shapes_rel j a b (slice_get D d) v w h r f
parts_rel D j a b (scalar s) v w h r f = tt
parts_rel D j a b empty v w h r f = tt
parts_rel D j a b (more u us) v w h r f = fields_rel j a b 0 (more u us) h
parts_rel D j a b (ref u) v w h r f = tt
parts_rel D j a b (ref_mut u) v w h r f = tt

pub append_rel : (j : Renaming) (is ks ls ms : List Visit) → VisitsRel j is ks → VisitsRel j ls ms → VisitsRel j (is ++ ls) (ks ++ ms)
append_rel j [] [] ls ms h g = g
append_rel j (i ∷ is) (k ∷ ks) ls ms h g = (h.0, append_rel j is ks ls ms h.1 g)
append_rel j [] (k ∷ ks) ls ms h g = absurd h
append_rel j (i ∷ is) [] ls ms h g = absurd h

-- ---- what is left of a frame

-- what leaves a frame's locals leaves their agreement
pub agrees_by : (X : Change) (G : TypeMap) (j j' : Renaming) (n2 n1 : ℕ) (m2' m1' m2 m1 : Memory) (c1 : Control) → c1.frame < n1 → Knows X G c1 → Leaves X.source.shapes G j j' n2 n1 m2' m1' m2 m1 → AgreesBy X j c1 m2 m1 → AgreesBy X j' c1 m2' m1'
agrees_by X G j j' n2 n1 m2' m1' m2 m1 c1 lt k l h b x g y t v w eb ex ej e1 e2 =
    let was = sym (l.same1 c1.frame x lt) ∙ ej in
    let s = l.steady c1.frame x g y t v w lt was (k b eb x t ex) e1 e2 in
    s.agree (h b x g y t s.old1 s.old2 eb ex was s.was1 s.was2)

-- the same frame at another place
pub agrees_at : (X : Change) (j : Renaming) (c1 e1 : Control) (m2 m1 : Memory) → e1.function ≡ c1.function → e1.frame ≡ c1.frame → AgreesBy X j c1 m2 m1 → AgreesBy X j e1 m2 m1
agrees_at X j c1 e1 m2 m1 f a h b x g y t v w eb ex ej p1 p2 = h b x g y t v w (ap (slice_get X.source.bodies) (sym f) ∙ eb) ex (ap (λ i. j i x) (sym a) ∙ ej) (ap (λ i. local_at m1 i x) (sym a) ∙ p1) p2

-- the place of a drop that is done is blank on both sides
pub blank_left : (D : List Shape) (G : TypeMap) (j : Renaming) (m2 m1 : Memory) (n2 n1 : ℕ) (a b : Addr) (t : Tree) (old : Value) → Linked j j m2 m1 → AddrRel j a b → AddrTy D G a t → value_at m1 a ≡ Some old → Linked j j (write m2 b (blank D t)) (write m1 a (blank D t)) × Leaves D G j j n2 n1 (write m2 b (blank D t)) (write m1 a (blank D t)) m2 m1
blank_left D G j m2 m1 n2 n1 a b t old l ab at e =
    let (o, eo) = root_of m1 a old e in
    let B = blank D t in
    (write_linked j j m2 m1 a b B B old l ab (blank_rel j D t) e, leaves_write D G j m2 m1 a b B B l.mem ab t at (tight_agree D B B t (tight_self B)) (λ h x u e1 e2. l.apart h x a.frame a.local (b.frame, b.local) u o e1 ab.root e2 eo) n2 n1)

pub no_destroyed : (D : List Shape) (s : State) (c : Control) (x : Next) → c.dropping ≡ None → destroyed D s c ≡ Some x → ⊥
unfolding destroyed
no_destroyed D s c x p e = (let (d, e1, k1) = bind_some e in let z : ◌≡◌ {A = Option Dropping} None (Some d) = sym p ∙ e1 in grind arith)

-- T: where the drop leads on both sides
module _ (X : Change) (P : Pass) (V : Valids X) (Inv : State → Type 0) (G : TypeMap) (j : Renaming) (s2 s1 : State) (c2 c1 : Control) (l : Linked j j s2.memory s1.memory) (ag : AgreesBy X j c1 s2.memory s1.memory) (knows : Knows X G c1) (T : ℕ → ℕ → Type 0)
    (item : (d e : Dropping) → Visiting j d e → T d.target e.target → Goes X P (go_on s2 s2.memory (record c2 { dropping = Some e })) (on (record s1 { top = record c1 { dropping = Some d } })))
    (done : (u1 u2 : ℕ) → T u1 u2 → (a b : Addr) (t : Tree) (old : Value) → AddrRel j a b → AddrTy X.source.shapes G a t → value_at s1.memory a ≡ Some old → a.frame ≡ c1.frame → Goes X P (go_on s2 (write s2.memory b (blank X.source.shapes t)) (to_block u2 c2)) (on (record s1 { memory = write s1.memory a (blank X.source.shapes t); top = to_block u1 c1 }))) where
  abbrev D : List Shape
  D = X.source.shapes

  -- the value of an item
  item_at : (x : ℕ) (lt : Tree) (bo : TypedBody) (i k : Visit) (v : Value) → slice_get X.source.bodies c1.function ≡ Some bo → slice_get bo.locals x ≡ Some lt → InLocal X.source c1.frame x i → AddrTy D G i.addr i.ty → VisitRel j i k → value_at s1.memory i.addr ≡ Some v → (w : Value) × (value_at s2.memory k.addr ≡ Some w) × ValueRel j v w × Agree D i.ty v w
  unfolding value_at
  item_at x lt bo i k v eb ex il at r e =
      let (w, g, rel) = value_at_rel j j s2.memory s1.memory l.mem i.addr k.addr r.addr v e in
      let (o1, p1, q1) = bind_some e in
      let (o2, p2, q2) = bind_some g in
      let types : G i.addr.frame i.addr.local ≡ Some lt = ap₂ G il.0 il.1 ∙ knows bo eb x lt ex in
      let same : at.local ≡ lt = some_eq D G at.local lt (G i.addr.frame i.addr.local) at.is types in
      let here : j c1.frame x ≡ Some (k.addr.frame, k.addr.local) = ap₂ j (sym il.0) (sym il.1) ∙ r.addr.root in
      let a1 : local_at s1.memory c1.frame x ≡ Some o1 = ap₂ (local_at s1.memory) (sym il.0) (sym il.1) ∙ p1 in
      (w, g, rel, at_path_agree D i.addr.path lt i.ty o1 o2 v w (ag bo x k.addr.frame k.addr.local lt o1 o2 eb ex here a1 p2) (subst (λ y. path_ty D y i.addr.path ≡ Some i.ty) same at.path) q1 (subst (λ ps. at_path ps o2 ≡ Some w) (sym r.addr.path) q2))

  work_on_goes : (d e : Dropping) (is js : List Visit) (x : Next) → Visiting j d e → T d.target e.target → VisitsRel j is js → AddrTy D G d.place.addr d.place.ty → d.place.addr.frame ≡ c1.frame → work_on D s1 c1 d is ≡ Some x → Goes X P (work_on D s2 c2 e js) x
  unfolding work_on
  work_on_goes d e [] [] x r tg vs ty pl q =
      let (old, e1, k1) = bind_some q in
      let (old2, g1, _) = value_at_rel j j s2.memory s1.memory l.mem d.place.addr e.place.addr r.place.addr old e1 in
      goes_by X P _ _ x (some_bind _ g1 (ap (λ t. go_on s2 (write s2.memory e.place.addr (blank D t)) (to_block e.target c2)) (sym r.place.ty))) (goes_at X P _ x _ k1 (done d.target e.target tg d.place.addr e.place.addr d.place.ty old r.place.addr ty e1 pl))
  work_on_goes d e (i ∷ is) (k ∷ js) x r tg vs ty pl q = goes_at X P _ x _ q (item (record d { items = i ∷ is }) (record e { items = k ∷ js }) (record { place = r.place; items = vs }) tg)
  work_on_goes d e [] (k ∷ js) x r tg vs ty pl q = absurd vs
  work_on_goes d e (i ∷ is) [] x r tg vs ty pl q = absurd vs

  more_parts : (i k : Visit) (v w : Value) (is js : List Visit) → VisitRel j i k → ValueRel j v w → (is_hole v ≡ true → is_hole w ≡ true) → VisitsRel j is js → VisitsRel j (visits_of D i.addr i.ty v ++ is) (visits_of D k.addr k.ty w ++ js)
  more_parts i k v w is js h r f g = append_rel j (visits_of D i.addr i.ty v) (visits_of D k.addr k.ty w) is js (subst (λ u. VisitsRel j (visits_of D i.addr i.ty v) (visits_of D k.addr u w)) h.ty (parts_rel D j i.addr k.addr i.ty v w h.addr r f)) g

  -- what a destructor left
  left_goes : (x : ℕ) (lt : Tree) (bo : TypedBody) (i k : Visit) (v : Value) → slice_get X.source.bodies c1.function ≡ Some bo → slice_get bo.locals x ≡ Some lt → InLocal X.source c1.frame x i → AddrTy D G i.addr i.ty → needs_drop D i.ty ≡ true → VisitRel j i k → left_at D s1.memory i.addr i.ty ≡ Some v → (w : Value) × (left_at D s2.memory k.addr k.ty ≡ Some w) × ValueRel j v w × (is_hole v ≡ true → is_hole w ≡ true)
  left_goes x lt bo i k v eb ex il at nd r e = subst (λ t. (w : Value) × (left_at D s2.memory k.addr t ≡ Some w) × ValueRel j v w × (is_hole v ≡ true → is_hole w ≡ true)) r.ty (go i.ty e)
    where
      blank_hole : Some hole ≡ Some v → (w : Value) × (Some hole ≡ Some w) × ValueRel j v w × (is_hole v ≡ true → is_hole w ≡ true)
      blank_hole e = (hole, refl, subst (λ v. ValueRel j v hole) (some_val e) tt, λ z. refl)

      in_shape : (o : Option Shape) → left_in s1.memory i.addr o ≡ Some v → (w : Value) × (left_in s2.memory k.addr o ≡ Some w) × ValueRel j v w × (is_hole v ≡ true → is_hole w ≡ true)
      in_shape None e = blank_hole e
      in_shape (Some s) e = pick s.is_enum e
        where
          pick : (c : Bool) → (if c then value_at s1.memory i.addr else Some hole) ≡ Some v → (w : Value) × ((if c then value_at s2.memory k.addr else Some hole) ≡ Some w) × ValueRel j v w × (is_hole v ≡ true → is_hole w ≡ true)
          pick true e = let (w, g, rel, agr) = item_at x lt bo i k v eb ex il at r e in (w, g, rel, λ z. hole_too D i.ty v w nd agr z)
          pick false e = blank_hole e

      go : (t : Tree) → left_at D s1.memory i.addr t ≡ Some v → (w : Value) × (left_at D s2.memory k.addr t ≡ Some w) × ValueRel j v w × (is_hole v ≡ true → is_hole w ≡ true)
      go (named d) e = in_shape (slice_get D d) e
      go (scalar s) e = blank_hole e
      go empty e = blank_hole e
      go (more u us) e = blank_hole e
      go (ref u) e = blank_hole e
      go (ref_mut u) e = blank_hole e

  -- a destructor has returned to the frame
  pub destroyed_goes : (d e : Dropping) (x : Next) → c1.dropping ≡ Some d → c2.dropping ≡ Some e → Visiting j d e → T d.target e.target → OwnDrop X.source c1 d → FirstNeeds X.source d.items → AddrTy D G d.place.addr d.place.ty → VisitsTy X.source V.valid1 G d.items → destroyed D s1 c1 ≡ Some x → Goes X P (destroyed D s2 c2) x
  unfolding destroyed destroyed_at
  destroyed_goes d e x e1 e2 r tg (bo, y, lt, eb, ey, pl, its) fn ty tys q =
      let (d', p1, q1) = bind_some q in
      goes_by X P _ _ x (some_bind _ e2 refl) (at_items d.items e.items its fn tys r.items (subst (λ d. destroyed_at D s1 c1 d d.items ≡ Some x) (some_val (sym p1 ∙ e1)) q1))
    where
      at_items : (is js : List Visit) → Items X.source c1.frame y is → FirstNeeds X.source is → VisitsTy X.source V.valid1 G is → VisitsRel j is js → destroyed_at D s1 c1 d is ≡ Some x → Goes X P (destroyed_at D s2 c2 e js) x
      at_items [] js its fn tys vs q = absurd (grind arith)
      at_items (i ∷ is) (k ∷ js) its fn tys vs q =
          let (v, e1, k1) = bind_some q in
          let (w, g1, rel, f) = left_goes y lt bo i k v eb ey its.0 tys.0 fn vs.0 e1 in
          goes_by X P _ _ x (some_bind _ g1 refl) (work_on_goes d e (visits_of D i.addr i.ty v ++ is) (visits_of D k.addr k.ty w ++ js) x r tg (more_parts i k v w is js vs.0 rel f vs.1) ty pl.0 k1)
      at_items (i ∷ is) [] its fn tys vs q = absurd vs

  -- ---- the frame runs

  module _ (laws : FrameLaws X P V Inv) (top1 : c1 ≡ s1.top) (top2 : c2 ≡ s2.top) (base : Base j s2 s1) (ks : KnowsAll X G (s1.top ∷ s1.callers))
      (holds : (d e : Dropping) → Visiting j d e → T d.target e.target → Below X P j None None s2.next s1.next (record s2.top { dropping = Some e } ∷ s2.callers) (record s1.top { dropping = Some d } ∷ s1.callers) s2.memory s1.memory) where
    work_top : (d e : Dropping) (is js : List Visit) (x : Next) → Visiting j d e → T d.target e.target → VisitsRel j is js → AddrTy D G d.place.addr d.place.ty → d.place.addr.frame ≡ c1.frame → work_on D s1 s1.top d is ≡ Some x → Goes X P (work_on D s2 s2.top e js) x
    work_top d e is js x r tg vs ty pl q = subst (λ c. Goes X P (work_on D s2 c e js) x) top2 (work_on_goes d e is js x r tg vs ty pl (subst (λ c. work_on D s1 c d is ≡ Some x) (sym top1) q))

    visit_goes : (d e : Dropping) (i k : Visit) (is js : List Visit) (v w : Value) (g : Option ℕ) (x : Next) → destructor_of D i.ty ≡ g → Visiting j d e → T d.target e.target → VisitRel j i k → VisitsRel j is js → AddrTy D G d.place.addr d.place.ty → d.place.addr.frame ≡ c1.frame → ValueRel j v w → (is_hole v ≡ true → is_hole w ≡ true) → visit X.source s1 d i is v g ≡ Some x → Goes X P (visit (target X) s2 e k js w g) x
    unfolding visit
    visit_goes d e i k is js v w None x eg r tg h vs ty pl rel f q = work_top d e (visits_of D i.addr i.ty v ++ is) (visits_of D k.addr k.ty w ++ js) x r tg (more_parts i k v w is js h rel f vs) ty pl q
    visit_goes d e i k is js v w (Some g) x eg r tg h vs ty pl rel f q =
        enter_goes X P V Inv laws G j s2 s1 s2.memory s1.memory base l (record s2.top { dropping = Some (record e { items = k ∷ js }) }) (record s1.top { dropping = Some (record d { items = i ∷ is }) }) None None ks
        (holds (record d { items = i ∷ is }) (record e { items = k ∷ js }) (record { place = r.place; items = (h, vs) }) tg)
        (pointer i.addr ∷ []) (pointer k.addr ∷ []) ((h.addr, tt), (tt, tt)) (refl, tt) g x (λ b eb. V.destroys i.ty g b eg eb) q

    unless_goes : (d e : Dropping) (i k : Visit) (is js : List Visit) (v w : Value) (c : Bool) (x : Next) → Visiting j d e → T d.target e.target → VisitRel j i k → VisitsRel j is js → AddrTy D G d.place.addr d.place.ty → d.place.addr.frame ≡ c1.frame → ValueRel j v w → (is_hole v ≡ true → is_hole w ≡ true) → visit_unless X.source s1 d i is v c ≡ Some x → Goes X P (visit_unless (target X) s2 e k js w c) x
    unfolding visit_unless
    unless_goes d e i k is js v w true x r tg h vs ty pl rel f q = work_top d e is js x r tg vs ty pl q
    unless_goes d e i k is js v w false x r tg h vs ty pl rel f q = goes_by X P _ _ x (ap (λ u. visit (target X) s2 e k js w (destructor_of D u)) (sym h.ty)) (visit_goes d e i k is js v w (destructor_of D i.ty) x refl r tg h vs ty pl rel f q)

    if_goes : (d e : Dropping) (i k : Visit) (is js : List Visit) (c : Bool) (x : Next) (y : ℕ) (lt : Tree) (bo : TypedBody) → slice_get X.source.bodies c1.function ≡ Some bo → slice_get bo.locals y ≡ Some lt → InLocal X.source c1.frame y i → AddrTy D G i.addr i.ty → Visiting j d e → T d.target e.target → VisitRel j i k → VisitsRel j is js → AddrTy D G d.place.addr d.place.ty → d.place.addr.frame ≡ c1.frame → needs_drop D i.ty ≡ c → visit_if X.source s1 d i is c ≡ Some x → Goes X P (visit_if (target X) s2 e k js c) x
    unfolding visit_if
    if_goes d e i k is js false x y lt bo eb ey il at r tg h vs ty pl nd q = work_top d e is js x r tg vs ty pl q
    if_goes d e i k is js true x y lt bo eb ey il at r tg h vs ty pl nd q =
        let (v, e1, k1) = bind_some q in
        let (w, g1, rel, agr) = item_at y lt bo i k v eb ey il at h e1 in
        goes_by X P _ _ x (some_bind _ g1 (ap (λ c. visit_unless (target X) s2 e k js w c) (sym (same_hole j D i.ty v w nd rel agr)))) (unless_goes d e i k is js v w (is_hole v) x r tg h vs ty pl rel (λ z. hole_too D i.ty v w nd agr z) k1)

    -- one item of a drop of this frame
    pub work_off_goes : (d e : Dropping) (x : Next) → OwnDrop X.source c1 d → VisitsTy X.source V.valid1 G d.items → Visiting j d e → T d.target e.target → AddrTy D G d.place.addr d.place.ty → work_off X.source s1 d d.items ≡ Some x → Goes X P (work_off (target X) s2 e e.items) x
    unfolding work_off
    work_off_goes d e x (bo, y, lt, eb, ey, pl, its) tys r tg ty q = go d.items e.items its tys r.items q
      where
        go : (is js : List Visit) → Items X.source c1.frame y is → VisitsTy X.source V.valid1 G is → VisitsRel j is js → work_off X.source s1 d is ≡ Some x → Goes X P (work_off (target X) s2 e js) x
        go [] js its tys vs q = absurd (grind arith)
        go (i ∷ is) (k ∷ js) its tys vs q = goes_by X P _ _ x (ap (λ u. visit_if (target X) s2 e k js (needs_drop D u)) (sym vs.0.ty)) (if_goes d e i k is js (needs_drop D i.ty) x y lt bo eb ey its.0 tys.0 r tg vs.0 vs.1 ty pl.0 refl q)
        go (i ∷ is) [] its tys vs q = absurd vs
