-- Text of places that stand for places, for memories in a relation that writes at related addresses keep. Nothing is said of how addresses
-- are related: by a renaming of locals, or by parts of a local that are locals of the target.
use Rattle.std.proofs.Common.{◌≡◌, ◌⊎◌, inl, inr, refl, sym, ap, ◌∙◌, subst, ℕ, Bool, true, false, ◌&&◌, if◌then◌else◌, List, [], ◌∷◌, Some, None, slice_get, arith}
use Rattle.mir_syntax.specs.declared.body.Place.{Place}
use Rattle.mir_syntax.specs.declared.body.Operand.{Operand}
use Rattle.mir_syntax.specs.declared.body.Operand.TheVariants as operand
use Rattle.mir_syntax.specs.Tree.{Tree}
use Rattle.mir_syntax.specs.Crate.{TypedRvalue, «use», binary, overflow, unary, cast, discriminant, tuple, build, TypedStmt, assign, storage_live, storage_dead, set_discriminant}
use Rattle.mir_syntax.specs.Crate as rvalue
use Rattle.mir_syntax.specs.Shapes.{Shape, variant_ty, needs_drop, ◌>>=◌}
use Rattle.mir_semantics.specs.Values.{Addr, Value, variant, whole, blank, full}
use Rattle.mir_semantics.specs.Memory.{Memory, value_at, write}
use Rattle.mir_semantics.specs.Step.{Dest, local_addr, resolve, type_of, const_ty, operand_ty, scalar_ty_of, scalar_in, guard_of, dest_of, allows, store, const_value, read_at, read, is_variant, write_unless, exec}
use Rattle.mir_syntax.specs.Parts.{has_deref}
use Rattle.mir_renaming.specs.Renaming.{Renaming, ValueRel, SomeRel}
use Rattle.mir_syntax.proofs.Binds.{bind_some, some_bind}
use Rattle.mir_renaming.proofs.Memory.{whole_rel}
use Rattle.mir_renaming.proofs.Statements.{only_true, true_only, blank_rel, const_rel, allows_rel, variant_is, variants_same}
use Rattle.mir_renaming.proofs.Types.{TypeMap, AddrTy, HasTy, MemTy, resolve_ty, eval_ty, RvalueTy}
use Rattle.mir_renaming.proofs.Agree.{whole_tight, tight_self}
use Rattle.mir_relate.specs.Pass.{MoveOk}
use Rattle.mir_renaming.proofs.Walks.{walk_plain}
use Rattle.mir_relate.specs.Alike.{Between, Got, GotMemory, Sides, Same, Reads, AllRead, Refers, Shows, Likewise, Evals, Execs}
use Rattle.mir_relate.proofs.Alike.{got_at, got_memory, likewise}

module _ (D : List Shape) (ts1 ts2 : List Tree) (f1 f2 : ℕ) (j : Renaming) (A : Addr → Addr → Type 0) (PlaceAs : Place → Place → Type 0) (G : TypeMap) (blank_ok : (t : Tree) → HasTy D G t (blank D t)) (locals_ok : (x : ℕ) (t : Tree) → slice_get ts1 x ≡ Some t → G f1 x ≡ Some t) where
  abbrev pub sides : Sides
  sides = record { target = record { shapes = D; locals = ts2; frame = f2 }; source = record { shapes = D; locals = ts1; frame = f1 }; lent = j }

  abbrev pub OperandAs : Operand → Operand → Type 0
  OperandAs (operand.Copy p) (operand.Copy q) = PlaceAs p q
  OperandAs (operand.Move p) (operand.Move q) = PlaceAs p q
  OperandAs (operand.Const c) (operand.Const d) = c ≡ d
  OperandAs _ _ = ⊥

  abbrev pub AllAs : List Operand → List Operand → Type 0
  AllAs [] [] = Unit {0}
  AllAs (o ∷ os) (p ∷ ps) = OperandAs o p × AllAs os ps
  AllAs _ _ = ⊥

  -- destinations whose addresses are related
  pub record DestAs (d c : Dest) : Type 0 where
    pub addr : A d.addr c.addr
    pub guard : d.guard ≡ c.guard

  -- what a frame may do to a place: it is one of its own, or its type needs no drop, or none of its units is a hole
  abbrev pub Fair : Addr → Tree → Value → Type 0
  Fair a t old = (a.frame ≡ f1) ⊎ (needs_drop D t ≡ false) ⊎ (full D t old ≡ true)

  -- places of one type that stand for each other lead to related addresses, where related values stand; the relation between memories is kept by
  -- writes of both there, and by those of the source alone where the target has the value already and nothing needs drop
  pub record Kept (Q : Between) : Type 0 where
    pub typed : (m2 m1 : Memory) → Q m2 m1 → MemTy D G m1
    pub types : (p q : Place) → PlaceAs p q → (t : Tree) → type_of sides.source p ≡ Some t → type_of sides.target q ≡ Some t
    pub scalars : (p q : Place) → PlaceAs p q → type_of sides.source p ≡ type_of sides.target q
    pub derefs : (p q : Place) → PlaceAs p q → has_deref p.proj ≡ has_deref q.proj
    pub leads : (m2 m1 : Memory) (p q : Place) (a : Addr) → Q m2 m1 → PlaceAs p q → resolve sides.source m1 p ≡ Some a → (b : Addr) × (resolve sides.target m2 q ≡ Some b) × A a b
    pub values : (m2 m1 : Memory) (a b : Addr) (v : Value) → Q m2 m1 → A a b → value_at m1 a ≡ Some v → SomeRel j v (value_at m2 b)
    pub both : (m2 m1 : Memory) (a b : Addr) (t : Tree) (v w old : Value) → Q m2 m1 → A a b → AddrTy D G a t → value_at m1 a ≡ Some old → Fair a t old → HasTy D G t v → Same j v w → Q (write m2 b w) (write m1 a v)
    pub alone : (m2 m1 : Memory) (a b : Addr) (t : Tree) (v w old : Value) → Q m2 m1 → A a b → AddrTy D G a t → needs_drop D t ≡ false → value_at m1 a ≡ Some old → value_at m2 b ≡ Some w → HasTy D G t v → ValueRel j v w → Q m2 (write m1 a v)

  module _ (Q : Between) (k : Kept Q) where
    val : {A : Type 0} {x y : A} → Some x ≡ Some y → x ≡ y
    val e = grind arith

    place_rel : (m2 m1 : Memory) (p q : Place) (a : Addr) → Q m2 m1 → PlaceAs p q → resolve sides.source m1 p ≡ Some a → (b : Addr) × (resolve sides.target m2 q ≡ Some b) × A a b
    place_rel m2 m1 p q a l h e = k.leads m2 m1 p q a l h e

    -- a value without holes is read at the related address too
    read_there : (m2 m1 : Memory) (a b : Addr) (v : Value) → A a b → Q m2 m1 → read_at m1 a ≡ Some v → SomeRel j v (read_at m2 b) × (value_at m1 a ≡ Some v)
    unfolding read_at
    read_there m2 m1 a b v h l e =
        let (u, e1, e2) = bind_some e in
        let (t, same) = only_true (whole u) u v e2 in
        let at : value_at m1 a ≡ Some v = e1 ∙ ap Some same in
        let (w, g, r) = k.values m2 m1 a b v l h at in
        ((w, some_bind _ g (true_only (whole w) w (whole_rel j v w r (subst (λ y. whole y ≡ true) same t))), r), at)

    plain_frame : (m : Memory) (p : Place) (a : Addr) → has_deref p.proj ≡ false → resolve sides.source m p ≡ Some a → a.frame ≡ f1
    unfolding resolve local_addr
    plain_frame m p a hd e = (walk_plain p.proj m _ a hd e).0

    -- a move is fair
    move_fair : (m : Memory) (p : Place) (a : Addr) (t : Tree) (old : Value) → MoveOk sides.source (operand.Move p) → resolve sides.source m p ≡ Some a → type_of sides.source p ≡ Some t → Fair a t old
    move_fair m p a t old ok e et = go (has_deref p.proj) refl
      where
        go : (b : Bool) → has_deref p.proj ≡ b → Fair a t old
        go true h = inr (inl (ok h t et))
        go false h = inl (plain_frame m p a h e)

    read_at_whole : (m : Memory) (a : Addr) (v : Value) → read_at m a ≡ Some v → whole v ≡ true
    unfolding read_at
    read_at_whole m a v e =
        let (u, e1, e2) = bind_some e in
        let (t, same) = only_true (whole u) u v e2 in
        subst (λ y. whole y ≡ true) same t

    read_as : (o p : Operand) → OperandAs o p → MoveOk sides.source o → (m2 m1 : Memory) (r : Value × Memory) → Q m2 m1 → read sides.source m1 o ≡ Some r → Got (Same j) Q r (read sides.target m2 p)
    unfolding read
    read_as (operand.Copy p) (operand.Copy q) h ok m2 m1 r l e =
        let (a, e1, e2) = bind_some e in
        let (v, e3, e4) = bind_some e2 in
        let (b, g1, h1) = place_rel m2 m1 p q a l h e1 in
        let ((w, g2, h2), at) = read_there m2 m1 a b v h1 l e3 in
        got_at (Same j) Q _ r (read sides.target m2 (operand.Copy q)) e4 ((w, m2), some_bind _ g1 (some_bind _ g2 refl), (h2, whole_tight j v w h2 (read_at_whole m1 a v e3)), l)
    read_as (operand.Move p) (operand.Move q) h ok m2 m1 r l e =
        let (a, e1, e2) = bind_some e in
        let (v, e3, e4) = bind_some e2 in
        let (t, e5, e6) = bind_some e4 in
        let (b, g1, h1) = place_rel m2 m1 p q a l h e1 in
        let ((w, g2, h2), at) = read_there m2 m1 a b v h1 l e3 in
        let ty = resolve_ty D G blank_ok ts1 f1 locals_ok m1 p a t (k.typed m2 m1 l) e5 e1 in
        let l' = k.both m2 m1 a b t (blank D t) (blank D t) v l h1 ty at (move_fair m1 p a t v ok e1 e5) (blank_ok t) (blank_rel j D t, tight_self (blank D t)) in
        got_at (Same j) Q _ r (read sides.target m2 (operand.Move q)) e6 ((w, write m2 b (blank D t)), some_bind _ g1 (some_bind _ g2 (some_bind _ (k.types p q h t e5) refl)), (h2, whole_tight j v w h2 (read_at_whole m1 a v e3)), l')
    read_as (operand.Const c) (operand.Const d) h ok m2 m1 r l e =
        got_at (Same j) Q _ r (read sides.target m2 (operand.Const d)) e ((const_value d, m2), refl, subst (λ x. Same j (const_value c) (const_value x)) h (const_rel j c, tight_self (const_value c)), l)
    read_as o p h ok m2 m1 r l e = absurd h

    scalars_as : (o p : Operand) → OperandAs o p → scalar_ty_of sides.source o ≡ scalar_ty_of sides.target p
    unfolding scalar_ty_of operand_ty
    scalars_as (operand.Copy p) (operand.Copy q) h = ap (λ o. o >>= scalar_in) (k.scalars p q h)
    scalars_as (operand.Move p) (operand.Move q) h = ap (λ o. o >>= scalar_in) (k.scalars p q h)
    scalars_as (operand.Const c) (operand.Const d) h = ap (λ c. Some (const_ty c) >>= scalar_in) h
    scalars_as o p h = absurd h

    pub reads_as : (o p : Operand) → OperandAs o p → MoveOk sides.source o → Reads sides Q o p
    reads_as o p h ok = record { reads = read_as o p h ok; scalars = scalars_as o p h }

    abbrev pub MovesOk : List Operand → Type 0
    MovesOk [] = Unit {0}
    MovesOk (o ∷ os) = MoveOk sides.source o × MovesOk os

    pub all_as : (os ps : List Operand) → AllAs os ps → MovesOk os → AllRead sides Q os ps
    all_as [] [] h ok = tt
    all_as (o ∷ os) (p ∷ ps) h ok = (reads_as o p h.0 ok.0, all_as os ps h.1 ok.1)
    all_as [] (p ∷ ps) h ok = absurd h
    all_as (o ∷ os) [] h ok = absurd h

    pub shows_as : (p q : Place) → PlaceAs p q → Shows sides Q p q
    shows_as p q h = record { shows = λ m2 m1 a v l e ev. (let (b, g, r) = place_rel m2 m1 p q a l h e in (b, g, k.values m2 m1 a b v l r ev)) }

    dest_parts : (m : Memory) (p : Place) (d : Dest) → dest_of sides.source m p ≡ Some d → (a : Addr) × (t : Tree) × (resolve sides.source m p ≡ Some a) × (type_of sides.source p ≡ Some t) × (record { addr = a; guard = guard_of D p.proj t } ≡ d)
    unfolding dest_of
    dest_parts m p d e =
        let (a, e1, k1) = bind_some e in
        let (t, e2, k2) = bind_some k1 in
        (a, t, e1, e2, val k2)

    -- destinations
    pub dest_as : (m2 m1 : Memory) (p q : Place) (d : Dest) → PlaceAs p q → Q m2 m1 → dest_of sides.source m1 p ≡ Some d → (c : Dest) × (dest_of sides.target m2 q ≡ Some c) × DestAs d c
    unfolding dest_of guard_of
    dest_as m2 m1 p q d h l e =
        let (a, e1, k1) = bind_some e in
        let (t, e2, k2) = bind_some k1 in
        let (b, g1, h1) = place_rel m2 m1 p q a l h e1 in
        (record { addr = b; guard = guard_of D q.proj t }, some_bind _ g1 (some_bind _ (k.types p q h t e2) refl), subst (λ d. DestAs d (record { addr = b; guard = guard_of D q.proj t })) (val k2) (let z : DestAs (record { addr = a; guard = guard_of D p.proj t }) (record { addr = b; guard = guard_of D q.proj t }) = record { addr = h1; guard = ap (λ b. if b && needs_drop D t then Some t else None) (k.derefs p q h) } in z))

    -- a place that is written is one of the frame's own, or guarded
    pub dest_fair : (m : Memory) (p : Place) (a : Addr) (t : Tree) (old : Value) → resolve sides.source m p ≡ Some a → allows D (guard_of D p.proj t) old ≡ true → Fair a t old
    unfolding guard_of
    dest_fair m p a t old e ok = go (has_deref p.proj) (needs_drop D t) refl refl ok
      where
        go : (b c : Bool) → has_deref p.proj ≡ b → needs_drop D t ≡ c → allows D (if b && c then Some t else None) old ≡ true → Fair a t old
        go false c h n ok = inl (plain_frame m p a h e)
        go true false h n ok = inr (inl n)
        go true true h n ok = inr (inr ok)

    -- both store such values
    pub store_as : (m2 m1 m1' : Memory) (d c : Dest) (t : Tree) (v w : Value) → ((old : Value) → allows D d.guard old ≡ true → Fair d.addr t old) → DestAs d c → AddrTy D G d.addr t → HasTy D G t v → Same j v w → Q m2 m1 → store D m1 d v ≡ Some m1' → GotMemory Q m1' (store D m2 c w)
    unfolding store
    store_as m2 m1 m1' d c t v w fair h at ty hv l e =
        let (old, e1, k1) = bind_some e in
        let (ok, same) = only_true (allows D d.guard old) (write m1 d.addr v) m1' k1 in
        let (old', g1, h1) = k.values m2 m1 d.addr c.addr old l h.addr e1 in
        let ok' : allows D c.guard old' ≡ true = subst (λ g. allows D g old' ≡ true) h.guard (allows_rel j D d.guard old old' h1 ok) in
        (write m2 c.addr w, some_bind _ g1 (true_only _ (write m2 c.addr w) ok'), subst (λ m. Q (write m2 c.addr w) m) same (k.both m2 m1 d.addr c.addr t v w old l h.addr at e1 (fair old ok) ty hv))

    abbrev pub RvalueAs : TypedRvalue → TypedRvalue → Type 0
    RvalueAs («use» o) («use» p) = OperandAs o p × MoveOk sides.source o
    RvalueAs (binary op a b) (binary op' c d) = (op ≡ op') × (OperandAs a c × OperandAs b d) × (MoveOk sides.source a × MoveOk sides.source b)
    RvalueAs (overflow op a b) (overflow op' c d) = (op ≡ op') × (OperandAs a c × OperandAs b d) × (MoveOk sides.source a × MoveOk sides.source b)
    RvalueAs (unary op a) (unary op' b) = (op ≡ op') × OperandAs a b × MoveOk sides.source a
    RvalueAs (cast a t) (cast b u) = (t ≡ u) × OperandAs a b × MoveOk sides.source a
    RvalueAs (rvalue.ref p) (rvalue.ref q) = Refers sides Q p q
    RvalueAs (rvalue.ref_mut p) (rvalue.ref_mut q) = Refers sides Q p q
    RvalueAs (discriminant p) (discriminant q) = PlaceAs p q
    RvalueAs (tuple os) (tuple ps) = AllAs os ps × MovesOk os
    RvalueAs (build d i os) (build d' i' ps) = (d ≡ d') × (i ≡ i') × AllAs os ps × MovesOk os
    RvalueAs _ _ = ⊥

    likewise_as : (x y : TypedRvalue) → RvalueAs x y → Likewise sides Q x y
    likewise_as («use» o) («use» p) h = reads_as o p h.0 h.1
    likewise_as (binary op a b) (binary op' c d) h = (h.0, reads_as a c h.1.0 h.2.0, reads_as b d h.1.1 h.2.1)
    likewise_as (overflow op a b) (overflow op' c d) h = (h.0, reads_as a c h.1.0 h.2.0, reads_as b d h.1.1 h.2.1)
    likewise_as (unary op a) (unary op' b) h = (h.0, reads_as a b h.1 h.2)
    likewise_as (cast a t) (cast b u) h = (h.0, reads_as a b h.1 h.2)
    likewise_as (rvalue.ref p) (rvalue.ref q) h = h
    likewise_as (rvalue.ref_mut p) (rvalue.ref_mut q) h = h
    likewise_as (discriminant p) (discriminant q) h = shows_as p q h
    likewise_as (tuple os) (tuple ps) h = all_as os ps h.0 h.1
    likewise_as (build d i os) (build d' i' ps) h = (h.0, h.1, all_as os ps h.2 h.3)
    likewise_as x y h = absurd h

    pub evals_as : (x y : TypedRvalue) → RvalueAs x y → Evals sides Q Q x y
    evals_as x y h = likewise sides Q refl x y (likewise_as x y h)

    -- statements
    abbrev pub StmtAs : TypedStmt → TypedStmt → Type 0
    StmtAs (assign p x) (assign q y) = PlaceAs p q × RvalueAs x y × ((t : Tree) × (type_of sides.source p ≡ Some t) × RvalueTy D G blank_ok ts1 f1 locals_ok x t)
    StmtAs (set_discriminant p i) (set_discriminant q i') = PlaceAs p q × (i ≡ i') × ((t : Tree) → type_of sides.source p ≡ Some t → needs_drop D t ≡ false)
    StmtAs _ _ = ⊥

    abbrev pub PayloadsOk : Memory → Type 0
    PayloadsOk m2 = (q : Place) (b : Addr) (t fields : Tree) (k : ℕ) (u : Value) → resolve sides.target m2 q ≡ Some b → type_of sides.target q ≡ Some t → variant_ty D t k ≡ Some fields → value_at m2 b ≡ Some (variant k u) → ValueRel j (blank D fields) u

    set_as : (m2 m1 : Memory) (a b : Addr) (t us : Tree) (v w : Value) (i : ℕ) → Q m2 m1 → A a b → AddrTy D G a t → needs_drop D t ≡ false → value_at m1 a ≡ Some v → value_at m2 b ≡ Some w → ValueRel j v w → variant_ty D t i ≡ Some us → ((u : Value) → w ≡ variant i u → ValueRel j (blank D us) u) → Q (write_unless (is_variant i w) m2 b (variant i (blank D us))) (write_unless (is_variant i v) m1 a (variant i (blank D us)))
    unfolding write_unless
    set_as m2 m1 a b t us v w i l h at nd e1 e2 hv ut hp = go (is_variant i v) (is_variant i w) refl refl
      where
        fresh : HasTy D G t (variant i (blank D us))
        fresh = (us, ut, blank_ok us)

        stay : is_variant i w ≡ true → Q m2 (write m1 a (variant i (blank D us)))
        stay q =
            let (u, same) = variant_is i w q in
            let rel : ValueRel j (variant i (blank D us)) w = subst (λ w. ValueRel j (variant i (blank D us)) w) (sym same) (let z : ValueRel j (variant i (blank D us)) (variant i u) = (refl, hp u same) in z) in
            k.alone m2 m1 a b t (variant i (blank D us)) w v l h at nd e1 e2 fresh rel

        go : (p q : Bool) → is_variant i v ≡ p → is_variant i w ≡ q → Q (write_unless q m2 b (variant i (blank D us))) (write_unless p m1 a (variant i (blank D us)))
        go true true p q = l
        go true false p q = absurd (variants_same j i v w hv p q)
        go false true p q = stay q
        go false false p q = k.both m2 m1 a b t (variant i (blank D us)) (variant i (blank D us)) v l h at e1 (inr (inl nd)) fresh ((refl, blank_rel j D us), tight_self (blank D us))

    pub assign_as : (p q : Place) (x y : TypedRvalue) → StmtAs (assign p x) (assign q y) → (m2 m1 m1' : Memory) → Q m2 m1 → exec sides.source m1 (assign p x) ≡ Some m1' → GotMemory Q m1' (exec sides.target m2 (assign q y))
    unfolding exec
    assign_as p q x y (hp, hx, (t, pt, xt)) m2 m1 m1' l e =
        let (v, e1, k1) = bind_some e in
        let (d, e2, k2) = bind_some k1 in
        let (vt, mt) = eval_ty D G blank_ok ts1 f1 locals_ok m1 x t v (k.typed m2 m1 l) xt e1 in
        let (w, g1, h1, l1) = (evals_as x y hx).evals m2 m1 v l e1 in
        let (c, g2, h2) = dest_as w.1 v.1 p q d hp l1 e2 in
        let (a, u, r1, r2, r3) = dest_parts v.1 p d e2 in
        let ut : u ≡ t = val (sym r2 ∙ pt) in
        let at : AddrTy D G d.addr t = subst (λ (d : Dest). AddrTy D G d.addr t) r3 (resolve_ty D G blank_ok ts1 f1 locals_ok v.1 p a t mt pt r1) in
        let fair : (old : Value) → allows D d.guard old ≡ true → Fair d.addr t old = subst (λ (d : Dest). (old : Value) → allows D d.guard old ≡ true → Fair d.addr t old) r3 (λ old ok. dest_fair v.1 p a t old r1 (subst (λ u. allows D (guard_of D p.proj u) old ≡ true) ut ok)) in
        let (m2', g3, l3) = store_as w.1 v.1 m1' d c t v.0 w.0 fair h2 at vt h1 l1 k2 in
        (m2', some_bind _ g1 (some_bind _ g2 g3), l3)

    pub exec_as : (s s' : TypedStmt) → StmtAs s s' → (m2 m1 m1' : Memory) → PayloadsOk m2 → Q m2 m1 → exec sides.source m1 s ≡ Some m1' → GotMemory Q m1' (exec sides.target m2 s')
    unfolding exec
    exec_as (assign p x) (assign q y) h m2 m1 m1' ok l e = assign_as p q x y h m2 m1 m1' l e
    exec_as (set_discriminant p i) (set_discriminant q i') (hp, hi, calm) m2 m1 m1' ok l e =
        let (a, e1, k1) = bind_some e in
        let (v, e2, k2) = bind_some k1 in
        let (t, e3, k3) = bind_some k2 in
        let (us, e4, k4) = bind_some k3 in
        let (b, g1, h1) = place_rel m2 m1 p q a l hp e1 in
        let (w, g2, h2) = k.values m2 m1 a b v l h1 e2 in
        let ty : type_of sides.target q ≡ Some t = k.types p q hp t e3 in
        let l' = set_as m2 m1 a b t us v w i l h1 (resolve_ty D G blank_ok ts1 f1 locals_ok m1 p a t (k.typed m2 m1 l) e3 e1) (calm t e3) e2 g2 h2 e4 (λ u same. ok q b t us i u g1 ty e4 (g2 ∙ ap Some same)) in
        subst (λ n. GotMemory Q m1' (exec sides.target m2 (set_discriminant q n))) hi (got_memory Q _ m1' _ k4 (write_unless (is_variant i w) m2 b (variant i (blank D us)), some_bind _ g1 (some_bind _ g2 (some_bind _ ty (some_bind _ e4 refl))), l'))
    exec_as s s' h m2 m1 m1' ok l e = absurd h

    pub execs_as : (s s' : TypedStmt) → StmtAs s s' → ((m2 m1 : Memory) → Q m2 m1 → PayloadsOk m2) → Execs sides Q Q s s'
    execs_as s s' h ok = record { execs = λ m2 m1 m1' l e. exec_as s s' h m2 m1 m1' (ok m2 m1 l) l e }
