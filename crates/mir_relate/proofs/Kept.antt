-- The same text on both sides, for memories in a relation that writes at related addresses keep.
use Rattle.std.proofs.Common.{◌≡◌, ◌⊎◌, inl, inr, refl, sym, ap, ◌∙◌, subst, ℕ, Bool, true, false, ◌&&◌, if◌then◌else◌, List, [], ◌∷◌, Some, None, slice_get, arith}
use Rattle.mir_syntax.specs.declared.body.Place.{Place}
use Rattle.mir_syntax.specs.declared.body.Operand.{Operand}
use Rattle.mir_syntax.specs.declared.body.Operand.TheVariants as operand
use Rattle.mir_syntax.specs.Tree.{Tree}
use Rattle.mir_syntax.specs.Crate.{TypedRvalue, «use», binary, overflow, unary, cast, discriminant, tuple, build, TypedStmt, assign, storage_live, storage_dead, set_discriminant}
use Rattle.mir_syntax.specs.Crate as rvalue
use Rattle.mir_syntax.specs.Shapes.{Shape, variant_ty, needs_drop}
use Rattle.mir_semantics.specs.Values.{Addr, Value, variant, blank, full}
use Rattle.mir_semantics.specs.Memory.{Memory, value_at, write, walk}
use Rattle.mir_semantics.specs.Step.{Dest, local_addr, resolve, type_of, guard_of, dest_of, allows, store, const_value, read, set_blank, is_variant, write_unless, exec}
use Rattle.mir_syntax.specs.Parts.{has_deref}
use Rattle.mir_renaming.specs.Renaming.{Renaming, AddrRel, ValueRel, Sub, MemRel, AddrThere}
use Rattle.mir_syntax.proofs.Binds.{bind_some, some_bind}
use Rattle.mir_renaming.proofs.Memory.{value_at_rel}
use Rattle.mir_renaming.proofs.Statements as text
use Rattle.mir_renaming.proofs.Statements.{only_true, true_only, blank_rel, variant_is, variants_same, const_rel, allows_rel, DestRel}
use Rattle.mir_renaming.proofs.Types.{TypeMap, AddrTy, HasTy, MemTy, resolve_ty, eval_ty, RvalueTy}
use Rattle.mir_renaming.proofs.Agree.{whole_tight, tight_self}
use Rattle.mir_relate.specs.Pass.{MoveOk}
use Rattle.mir_renaming.proofs.Walks.{walk_plain, walk_deref_rel}
use Rattle.mir_relate.specs.Alike.{Between, Got, GotMemory, Sides, Same, Reads, AllRead, Refers, Shows, Likewise, Evals, Execs}
use Rattle.mir_relate.proofs.Wholes.{read_at_whole}
use Rattle.mir_relate.proofs.Alike.{got_at, got_memory, likewise}

module _ (D : List Shape) (ts1 ts2 : List Tree) (f1 f2 : ℕ) (j K : Renaming) (low : Sub j K) (G : TypeMap) (blank_ok : (t : Tree) → HasTy D G t (blank D t)) (locals_ok : (x : ℕ) (t : Tree) → slice_get ts1 x ≡ Some t → G f1 x ≡ Some t) where
  abbrev pub sides : Sides
  sides = record { target = record { shapes = D; locals = ts2; frame = f2 }; source = record { shapes = D; locals = ts1; frame = f1 }; lent = j }

  abbrev pub PlaceAs : Renaming → Place → Place → Type 0
  PlaceAs = text.PlaceRel D ts1 ts2 f1 f2 j K low

  abbrev pub OperandAs : Operand → Operand → Type 0
  OperandAs = text.OperandRel D ts1 ts2 f1 f2 j K low

  abbrev pub LocalAs : ℕ → ℕ → Type 0
  LocalAs = text.LocalRel D ts1 ts2 f1 f2 j K low

  -- what a frame may do to a place: it is one of its own, or its type needs no drop, or none of its units is a hole
  abbrev pub Fair : Addr → Tree → Value → Type 0
  Fair a t old = (a.frame ≡ f1) ⊎ (needs_drop D t ≡ false) ⊎ (full D t old ≡ true)

  -- a relation between memories that writes of both at related places keep, and those of the source alone where the target has the value
  -- already and nothing needs drop
  pub record Kept (Q : Between) : Type 0 where
    pub rel : (m2 m1 : Memory) → Q m2 m1 → MemRel j K m2 m1
    pub typed : (m2 m1 : Memory) → Q m2 m1 → MemTy D G m1
    pub both : (m2 m1 : Memory) (a b : Addr) (t : Tree) (v w old : Value) → Q m2 m1 → AddrRel K a b → AddrTy D G a t → value_at m1 a ≡ Some old → Fair a t old → HasTy D G t v → Same j v w → Q (write m2 b w) (write m1 a v)
    pub clear : (m2 m1 : Memory) (x y : ℕ) (t : Tree) → Q m2 m1 → K f1 x ≡ Some (f2, y) → slice_get ts1 x ≡ Some t → Q (write m2 (local_addr f2 y) (blank D t)) (write m1 (local_addr f1 x) (blank D t))
    pub alone : (m2 m1 : Memory) (a b : Addr) (t : Tree) (v w old : Value) → Q m2 m1 → AddrRel K a b → AddrTy D G a t → needs_drop D t ≡ false → value_at m1 a ≡ Some old → value_at m2 b ≡ Some w → HasTy D G t v → ValueRel j v w → Q m2 (write m1 a v)

  module _ (Q : Between) (k : Kept Q) where
    val : {A : Type 0} {x y : A} → Some x ≡ Some y → x ≡ y
    val e = grind arith

    pub place_rel : (m2 m1 : Memory) (p q : Place) (a : Addr) → Q m2 m1 → PlaceAs K p q → resolve sides.source m1 p ≡ Some a → AddrThere K a (resolve sides.target m2 q)
    place_rel m2 m1 p q a l h e = text.resolve_rel D ts1 ts2 f1 f2 j K low K low (λ f x r e. e) m2 m1 p q a h (k.rel m2 m1 l) e

    pub plain_frame : (m : Memory) (p : Place) (a : Addr) → has_deref p.proj ≡ false → resolve sides.source m p ≡ Some a → a.frame ≡ f1
    unfolding resolve local_addr
    plain_frame m p a hd e = (walk_plain p.proj m _ a hd e).0

    -- a move is fair
    move_fair : (m : Memory) (p : Place) (a : Addr) (t : Tree) (old : Value) → MoveOk sides.source (operand.Move p) → resolve sides.source m p ≡ Some a → type_of sides.source p ≡ Some t → Fair a t old
    move_fair m p a t old ok e et = go (has_deref p.proj) refl
      where
        go : (b : Bool) → has_deref p.proj ≡ b → Fair a t old
        go true h = inr (inl (ok h t et))
        go false h = inl (plain_frame m p a h e)

    read_as : (o p : Operand) → OperandAs o p → MoveOk sides.source o → (m2 m1 : Memory) (r : Value × Memory) → Q m2 m1 → read sides.source m1 o ≡ Some r → Got (Same j) Q r (read sides.target m2 p)
    unfolding read
    read_as (operand.Copy p) (operand.Copy q) h ok m2 m1 r l e =
        let (a, e1, e2) = bind_some e in
        let (v, e3, e4) = bind_some e2 in
        let (b, g1, h1) = place_rel m2 m1 p q a l h e1 in
        let ((w, g2, h2), at) = text.read_at_rel D ts1 ts2 f1 f2 j K low m2 m1 a b v h1 (k.rel m2 m1 l) e3 in
        got_at (Same j) Q _ r (read sides.target m2 (operand.Copy q)) e4 ((w, m2), some_bind _ g1 (some_bind _ g2 refl), (h2, whole_tight j v w h2 (read_at_whole m1 a v e3)), l)
    read_as (operand.Move p) (operand.Move q) h ok m2 m1 r l e =
        let (a, e1, e2) = bind_some e in
        let (v, e3, e4) = bind_some e2 in
        let (t, e5, e6) = bind_some e4 in
        let (b, g1, h1) = place_rel m2 m1 p q a l h e1 in
        let ((w, g2, h2), at) = text.read_at_rel D ts1 ts2 f1 f2 j K low m2 m1 a b v h1 (k.rel m2 m1 l) e3 in
        let ty = resolve_ty D G blank_ok ts1 f1 locals_ok m1 p a t (k.typed m2 m1 l) e5 e1 in
        let l' = k.both m2 m1 a b t (blank D t) (blank D t) v l h1 ty at (move_fair m1 p a t v ok e1 e5) (blank_ok t) (blank_rel j D t, tight_self (blank D t)) in
        got_at (Same j) Q _ r (read sides.target m2 (operand.Move q)) e6 ((w, write m2 b (blank D t)), some_bind _ g1 (some_bind _ g2 (some_bind _ (sym (text.place_ty_rel D ts1 ts2 f1 f2 j K low K p q h) ∙ e5) refl)), (h2, whole_tight j v w h2 (read_at_whole m1 a v e3)), l')
    read_as (operand.Const c) (operand.Const d) h ok m2 m1 r l e =
        got_at (Same j) Q _ r (read sides.target m2 (operand.Const d)) e ((const_value d, m2), refl, subst (λ x. Same j (const_value c) (const_value x)) h (const_rel j c, tight_self (const_value c)), l)
    read_as o p h ok m2 m1 r l e = absurd h

    pub reads_as : (o p : Operand) → OperandAs o p → MoveOk sides.source o → Reads sides Q o p
    reads_as o p h ok = record { reads = read_as o p h ok; scalars = text.scalar_ty_rel D ts1 ts2 f1 f2 j K low o p h }

    abbrev pub MovesOk : List Operand → Type 0
    MovesOk [] = Unit {0}
    MovesOk (o ∷ os) = MoveOk sides.source o × MovesOk os

    pub all_as : (os ps : List Operand) → text.OperandsRel D ts1 ts2 f1 f2 j K low os ps → MovesOk os → AllRead sides Q os ps
    all_as [] [] h ok = tt
    all_as (o ∷ os) (p ∷ ps) h ok = (reads_as o p h.0 ok.0, all_as os ps h.1 ok.1)
    all_as [] (p ∷ ps) h ok = absurd h
    all_as (o ∷ os) [] h ok = absurd h

    -- a reference: to a lent local, or through a reference
    abbrev pub RefAs : Place → Place → Type 0
    RefAs p q = PlaceAs j p q ⊎ (has_deref p.proj ≡ true) × PlaceAs K p q

    deref_as : (p q : Place) (m2 m1 : Memory) (a : Addr) → Q m2 m1 → has_deref p.proj ≡ true → PlaceAs K p q → resolve sides.source m1 p ≡ Some a → AddrThere j a (resolve sides.target m2 q)
    unfolding resolve local_addr
    deref_as p q m2 m1 a l hd h e =
        let (b, g, r) = walk_deref_rel j K low m2 m1 (k.rel m2 m1 l) p.proj _ _ a hd (record { root = h.root; path = refl }) e in
        (b, subst (λ ps. walk m2 (record { frame = f2; local = q.local; path = [] }) ps ≡ Some b) h.proj g, r)

    pub refers_as : (p q : Place) → RefAs p q → Refers sides Q p q
    refers_as p q (inl h) = record { refers = λ m2 m1 a l e. text.resolve_rel D ts1 ts2 f1 f2 j K low j (λ f x r e. e) low m2 m1 p q a h (k.rel m2 m1 l) e }
    refers_as p q (inr h) = record { refers = λ m2 m1 a l e. deref_as p q m2 m1 a l h.0 h.1 e }

    pub shows_as : (p q : Place) → PlaceAs K p q → Shows sides Q p q
    shows_as p q h = record { shows = λ m2 m1 a v l e ev. (let (b, g, r) = place_rel m2 m1 p q a l h e in (b, g, value_at_rel j K m2 m1 (k.rel m2 m1 l) a b r v ev)) }

    dest_parts : (m : Memory) (p : Place) (d : Dest) → dest_of sides.source m p ≡ Some d → (a : Addr) × (t : Tree) × (resolve sides.source m p ≡ Some a) × (type_of sides.source p ≡ Some t) × (record { addr = a; guard = guard_of D p.proj t } ≡ d)
    unfolding dest_of
    dest_parts m p d e =
        let (a, e1, k1) = bind_some e in
        let (t, e2, k2) = bind_some k1 in
        (a, t, e1, e2, val k2)

    -- destinations
    pub dest_as : (m2 m1 : Memory) (p q : Place) (d : Dest) → PlaceAs K p q → Q m2 m1 → dest_of sides.source m1 p ≡ Some d → (c : Dest) × (dest_of sides.target m2 q ≡ Some c) × DestRel K d c
    unfolding dest_of
    dest_as m2 m1 p q d h l e =
        let (a, e1, k1) = bind_some e in
        let (t, e2, k2) = bind_some k1 in
        let (b, g1, h1) = place_rel m2 m1 p q a l h e1 in
        (record { addr = b; guard = guard_of D q.proj t }, some_bind _ g1 (some_bind _ (sym (text.place_ty_rel D ts1 ts2 f1 f2 j K low K p q h) ∙ e2) refl), subst (λ d. DestRel K d (record { addr = b; guard = guard_of D q.proj t })) (val k2) (let z : DestRel K (record { addr = a; guard = guard_of D p.proj t }) (record { addr = b; guard = guard_of D q.proj t }) = record { addr = h1; guard = ap (λ ps. guard_of D ps t) h.proj } in z))

    -- and those to what references stand for
    pub dest_far : (m2 m1 : Memory) (p q : Place) (d : Dest) → RefAs p q → Q m2 m1 → dest_of sides.source m1 p ≡ Some d → (c : Dest) × (dest_of sides.target m2 q ≡ Some c) × DestRel j d c
    unfolding dest_of
    dest_far m2 m1 p q d h l e =
        let (a, t, e1, e2, is) = dest_parts m1 p d e in
        let (b, g, ab) = (refers_as p q h).refers m2 m1 a l e1 in
        let (ty, proj) = parts h in
        (record { addr = b; guard = guard_of D q.proj t }, some_bind _ g (some_bind _ (sym ty ∙ e2) refl), subst (λ d. DestRel j d (record { addr = b; guard = guard_of D q.proj t })) is (let z : DestRel j (record { addr = a; guard = guard_of D p.proj t }) (record { addr = b; guard = guard_of D q.proj t }) = record { addr = ab; guard = ap (λ ps. guard_of D ps t) proj } in z))
      where
        parts : RefAs p q → (type_of sides.source p ≡ type_of sides.target q) × (p.proj ≡ q.proj)
        parts (inl h) = (text.place_ty_rel D ts1 ts2 f1 f2 j K low j p q h, h.proj)
        parts (inr h) = (text.place_ty_rel D ts1 ts2 f1 f2 j K low K p q h.1, h.1.proj)

    -- a place that is written is one of the frame's own, or guarded
    pub dest_fair : (m : Memory) (p : Place) (a : Addr) (t : Tree) (old : Value) → resolve sides.source m p ≡ Some a → allows D (guard_of D p.proj t) old ≡ true → Fair a t old
    unfolding guard_of
    dest_fair m p a t old e ok = go (has_deref p.proj) (needs_drop D t) refl refl ok
      where
        go : (b c : Bool) → has_deref p.proj ≡ b → needs_drop D t ≡ c → allows D (if b && c then Some t else None) old ≡ true → Fair a t old
        go false c h n ok = inl (plain_frame m p a h e)
        go true false h n ok = inr (inl n)
        go true true h n ok = inr (inr ok)

    -- both store such values
    pub store_as : (m2 m1 m1' : Memory) (d c : Dest) (t : Tree) (v w : Value) → ((old : Value) → allows D d.guard old ≡ true → Fair d.addr t old) → DestRel K d c → AddrTy D G d.addr t → HasTy D G t v → Same j v w → Q m2 m1 → store D m1 d v ≡ Some m1' → GotMemory Q m1' (store D m2 c w)
    unfolding store
    store_as m2 m1 m1' d c t v w fair h at ty hv l e =
        let (old, e1, k1) = bind_some e in
        let (ok, same) = only_true (allows D d.guard old) (write m1 d.addr v) m1' k1 in
        let (old', g1, h1) = value_at_rel j K m2 m1 (k.rel m2 m1 l) d.addr c.addr h.addr old e1 in
        let ok' : allows D c.guard old' ≡ true = subst (λ g. allows D g old' ≡ true) h.guard (allows_rel j D d.guard old old' h1 ok) in
        (write m2 c.addr w, some_bind _ g1 (true_only _ (write m2 c.addr w) ok'), subst (λ m. Q (write m2 c.addr w) m) same (k.both m2 m1 d.addr c.addr t v w old l h.addr at e1 (fair old ok) ty hv))

    abbrev pub RvalueAs : TypedRvalue → TypedRvalue → Type 0
    RvalueAs («use» o) («use» p) = OperandAs o p × MoveOk sides.source o
    RvalueAs (binary op a b) (binary op' c d) = (op ≡ op') × (OperandAs a c × OperandAs b d) × (MoveOk sides.source a × MoveOk sides.source b)
    RvalueAs (overflow op a b) (overflow op' c d) = (op ≡ op') × (OperandAs a c × OperandAs b d) × (MoveOk sides.source a × MoveOk sides.source b)
    RvalueAs (unary op a) (unary op' b) = (op ≡ op') × OperandAs a b × MoveOk sides.source a
    RvalueAs (cast a t) (cast b u) = (t ≡ u) × OperandAs a b × MoveOk sides.source a
    RvalueAs (rvalue.ref p) (rvalue.ref q) = RefAs p q
    RvalueAs (rvalue.ref_mut p) (rvalue.ref_mut q) = RefAs p q
    RvalueAs (discriminant p) (discriminant q) = PlaceAs K p q
    RvalueAs (tuple os) (tuple ps) = text.OperandsRel D ts1 ts2 f1 f2 j K low os ps × MovesOk os
    RvalueAs (build d i os) (build d' i' ps) = (d ≡ d') × (i ≡ i') × text.OperandsRel D ts1 ts2 f1 f2 j K low os ps × MovesOk os
    RvalueAs _ _ = ⊥

    likewise_as : (x y : TypedRvalue) → RvalueAs x y → Likewise sides Q x y
    likewise_as («use» o) («use» p) h = reads_as o p h.0 h.1
    likewise_as (binary op a b) (binary op' c d) h = (h.0, reads_as a c h.1.0 h.2.0, reads_as b d h.1.1 h.2.1)
    likewise_as (overflow op a b) (overflow op' c d) h = (h.0, reads_as a c h.1.0 h.2.0, reads_as b d h.1.1 h.2.1)
    likewise_as (unary op a) (unary op' b) h = (h.0, reads_as a b h.1 h.2)
    likewise_as (cast a t) (cast b u) h = (h.0, reads_as a b h.1 h.2)
    likewise_as (rvalue.ref p) (rvalue.ref q) h = refers_as p q h
    likewise_as (rvalue.ref_mut p) (rvalue.ref_mut q) h = refers_as p q h
    likewise_as (discriminant p) (discriminant q) h = shows_as p q h
    likewise_as (tuple os) (tuple ps) h = all_as os ps h.0 h.1
    likewise_as (build d i os) (build d' i' ps) h = (h.0, h.1, all_as os ps h.2 h.3)
    likewise_as x y h = absurd h

    pub evals_as : (x y : TypedRvalue) → RvalueAs x y → Evals sides Q Q x y
    evals_as x y h = likewise sides Q refl x y (likewise_as x y h)

    -- statements
    abbrev pub StmtAs : TypedStmt → TypedStmt → Type 0
    StmtAs (assign p x) (assign q y) = PlaceAs K p q × RvalueAs x y × ((t : Tree) × (type_of sides.source p ≡ Some t) × RvalueTy D G blank_ok ts1 f1 locals_ok x t)
    StmtAs (storage_live x) (storage_live y) = LocalAs x y
    StmtAs (storage_dead x) (storage_dead y) = LocalAs x y
    StmtAs (set_discriminant p i) (set_discriminant q i') = PlaceAs K p q × (i ≡ i') × ((t : Tree) → type_of sides.source p ≡ Some t → needs_drop D t ≡ false)
    StmtAs _ _ = ⊥

    blank_as : (x y : ℕ) → LocalAs x y → (m2 m1 m1' : Memory) → Q m2 m1 → set_blank sides.source m1 x ≡ Some m1' → GotMemory Q m1' (set_blank sides.target m2 y)
    unfolding set_blank
    blank_as x y h m2 m1 m1' l e =
        let (t, e1, k1) = bind_some e in
        got_memory Q _ m1' (set_blank sides.target m2 y) k1 (write m2 (local_addr f2 y) (blank D t), some_bind _ (sym h.ty ∙ e1) refl, k.clear m2 m1 x y t l h.root e1)

    set_as : (m2 m1 : Memory) (a b : Addr) (t us : Tree) (v w : Value) (i : ℕ) → Q m2 m1 → AddrRel K a b → AddrTy D G a t → needs_drop D t ≡ false → value_at m1 a ≡ Some v → value_at m2 b ≡ Some w → ValueRel j v w → variant_ty D t i ≡ Some us → ((u : Value) → w ≡ variant i u → ValueRel j (blank D us) u) → Q (write_unless (is_variant i w) m2 b (variant i (blank D us))) (write_unless (is_variant i v) m1 a (variant i (blank D us)))
    unfolding write_unless
    set_as m2 m1 a b t us v w i l h at nd e1 e2 hv ut hp = go (is_variant i v) (is_variant i w) refl refl
      where
        fresh : HasTy D G t (variant i (blank D us))
        fresh = (us, ut, blank_ok us)

        stay : is_variant i w ≡ true → Q m2 (write m1 a (variant i (blank D us)))
        stay q =
            let (u, same) = variant_is i w q in
            let rel : ValueRel j (variant i (blank D us)) w = subst (λ w. ValueRel j (variant i (blank D us)) w) (sym same) (let z : ValueRel j (variant i (blank D us)) (variant i u) = (refl, hp u same) in z) in
            k.alone m2 m1 a b t (variant i (blank D us)) w v l h at nd e1 e2 fresh rel

        go : (p q : Bool) → is_variant i v ≡ p → is_variant i w ≡ q → Q (write_unless q m2 b (variant i (blank D us))) (write_unless p m1 a (variant i (blank D us)))
        go true true p q = l
        go true false p q = absurd (variants_same j i v w hv p q)
        go false true p q = stay q
        go false false p q = k.both m2 m1 a b t (variant i (blank D us)) (variant i (blank D us)) v l h at e1 (inr (inl nd)) fresh ((refl, blank_rel j D us), tight_self (blank D us))

    -- an assignment, where the target's rvalue gives what the source's gives, perhaps by more than Q
    pub assign_as : (p q : Place) (x y : TypedRvalue) (Q0 : Between) → PlaceAs K p q → Evals sides Q0 Q x y → (t : Tree) × (type_of sides.source p ≡ Some t) × RvalueTy D G blank_ok ts1 f1 locals_ok x t → (m2 m1 m1' : Memory) → MemTy D G m1 → Q0 m2 m1 → exec sides.source m1 (assign p x) ≡ Some m1' → GotMemory Q m1' (exec sides.target m2 (assign q y))
    unfolding exec
    assign_as p q x y Q0 hp hx (t, pt, xt) m2 m1 m1' typed l e =
        let (v, e1, k1) = bind_some e in
        let (d, e2, k2) = bind_some k1 in
        let (vt, mt) = eval_ty D G blank_ok ts1 f1 locals_ok m1 x t v typed xt e1 in
        let (w, g1, h1, l1) = hx.evals m2 m1 v l e1 in
        let (c, g2, h2) = dest_as w.1 v.1 p q d hp l1 e2 in
        let (a, u, r1, r2, r3) = dest_parts v.1 p d e2 in
        let ut : u ≡ t = val (sym r2 ∙ pt) in
        let at : AddrTy D G d.addr t = subst (λ (d : Dest). AddrTy D G d.addr t) r3 (resolve_ty D G blank_ok ts1 f1 locals_ok v.1 p a t mt pt r1) in
        let fair : (old : Value) → allows D d.guard old ≡ true → Fair d.addr t old = subst (λ (d : Dest). (old : Value) → allows D d.guard old ≡ true → Fair d.addr t old) r3 (λ old ok. dest_fair v.1 p a t old r1 (subst (λ u. allows D (guard_of D p.proj u) old ≡ true) ut ok)) in
        let (m2', g3, l3) = store_as w.1 v.1 m1' d c t v.0 w.0 fair h2 at vt h1 l1 k2 in
        (m2', some_bind _ g1 (some_bind _ g2 g3), l3)

    pub exec_as : (s s' : TypedStmt) → StmtAs s s' → (m2 m1 m1' : Memory) → (text.IsSet D ts1 ts2 f1 f2 j K low s → text.PayloadsOk D ts1 ts2 f1 f2 j K low m2) → Q m2 m1 → exec sides.source m1 s ≡ Some m1' → GotMemory Q m1' (exec sides.target m2 s')
    unfolding exec
    exec_as (assign p x) (assign q y) (hp, hx, ty) m2 m1 m1' ok l e = assign_as p q x y Q hp (evals_as x y hx) ty m2 m1 m1' (k.typed m2 m1 l) l e
    exec_as (storage_live x) (storage_live y) h m2 m1 m1' ok l e = blank_as x y h m2 m1 m1' l e
    exec_as (storage_dead x) (storage_dead y) h m2 m1 m1' ok l e = blank_as x y h m2 m1 m1' l e
    exec_as (set_discriminant p i) (set_discriminant q i') (hp, hi, calm) m2 m1 m1' ok l e =
        let (a, e1, k1) = bind_some e in
        let (v, e2, k2) = bind_some k1 in
        let (t, e3, k3) = bind_some k2 in
        let (us, e4, k4) = bind_some k3 in
        let (b, g1, h1) = place_rel m2 m1 p q a l hp e1 in
        let (w, g2, h2) = value_at_rel j K m2 m1 (k.rel m2 m1 l) a b h1 v e2 in
        let ty : type_of sides.target q ≡ Some t = sym (text.place_ty_rel D ts1 ts2 f1 f2 j K low K p q hp) ∙ e3 in
        let l' = set_as m2 m1 a b t us v w i l h1 (resolve_ty D G blank_ok ts1 f1 locals_ok m1 p a t (k.typed m2 m1 l) e3 e1) (calm t e3) e2 g2 h2 e4 (λ u same. ok tt q b t us i u g1 ty e4 (g2 ∙ ap Some same)) in
        subst (λ n. GotMemory Q m1' (exec sides.target m2 (set_discriminant q n))) hi (got_memory Q _ m1' _ k4 (write_unless (is_variant i w) m2 b (variant i (blank D us)), some_bind _ g1 (some_bind _ g2 (some_bind _ ty (some_bind _ e4 refl))), l'))
    exec_as s s' h m2 m1 m1' ok l e = absurd h

    pub execs_as : (s s' : TypedStmt) → StmtAs s s' → ((m2 m1 : Memory) → Q m2 m1 → text.IsSet D ts1 ts2 f1 f2 j K low s → text.PayloadsOk D ts1 ts2 f1 f2 j K low m2) → Execs sides Q Q s s'
    execs_as s s' h ok = record { execs = λ m2 m1 m1' l e. exec_as s s' h m2 m1 m1' (ok m2 m1 l) l e }
