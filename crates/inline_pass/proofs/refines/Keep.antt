-- A destination is kept while the callee runs: by its path where that has no dereference, else by a reference in one more local.
use Rattle.std.proofs.Common.{◌≡◌, refl, sym, ap, ap₂, ◌∙◌, subst, ℕ, suc, ◌<◌, Bool, true, false, ◌&&◌, if◌then◌else◌, List, [], ◌∷◌, ◌++◌, Some, None, slice_get, arith, append_assoc}
use Rattle.mir_syntax.specs.declared.body.Proj.{Proj}
use Rattle.mir_syntax.specs.declared.body.Proj.TheVariants.{Field, Downcast, Deref}
use Rattle.mir_syntax.specs.declared.body.Place.{Place}
use Rattle.mir_syntax.specs.Tree.{Tree}
use Rattle.mir_syntax.specs.Tree as tree
use Rattle.mir_syntax.specs.Crate.{ref_mut, assign}
use Rattle.mir_syntax.specs.Shapes.{Shape, place_ty, needs_drop}
use Rattle.mir_semantics.specs.Values.{Addr, Value, pointer, at_path}
use Rattle.mir_semantics.specs.Memory.{Memory, local_at, value_at, write, further, there, project, walk}
use Rattle.mir_semantics.specs.Step.{Dest, Here, local_addr, resolve, type_of, guard_of, dest_of, store, eval, exec}
use Rattle.mir_syntax.specs.Parts.{has_deref}
use Rattle.mir_renaming.specs.Renaming.{Renaming, AddrRel}
use Rattle.mir_syntax.proofs.Binds.{bind_some, some_bind}
use Rattle.mir_renaming.proofs.Statements.{Linked, PlaceRel, resolve_rel}
use Rattle.mir_renaming.proofs.Walks.{walk_plain}
use Rattle.mir_relate.proofs.Leaves.{some_val}
use Rattle.inline_pass.specs.Spliced.{whole_local}
use Rattle.inline_pass.proofs.refines.Into.{Stands, into}
use Rattle.inline_pass.proofs.refines.Onwards.{exec_all}
use Rattle.inline_pass.proofs.refines.Hand.{Writes, Low, set_local, written}

-- ---- a place without a dereference is there where a value stands at its path

at_front : (ps qs : List Proj) (v u : Value) → at_path (ps ++ qs) v ≡ Some u → (w : Value) × (at_path ps v ≡ Some w)
at_front [] qs v u e = (v, refl)
at_front (p ∷ ps) qs v u e =
    let (x, e1, e2) = bind_some e in
    let (w, e3) = at_front ps qs x u e2 in
    (w, some_bind _ e1 e3)

value_front : (m : Memory) (a : Addr) (ps qs : List Proj) (u : Value) → value_at m (record a { path = ps ++ qs }) ≡ Some u → (w : Value) × (value_at m (record a { path = ps }) ≡ Some w)
unfolding value_at
value_front m a ps qs u e =
    let (x, e1, e2) = bind_some e in
    let (w, e3) = at_front ps qs x u e2 in
    (w, some_bind _ e1 e3)

nil_right : (ps : List Proj) → ps ≡ ps ++ []
nil_right [] = refl
nil_right (p ∷ ps) = ap (λ q. p ∷ q) (nil_right ps)

pub walk_there : (ps : List Proj) (m : Memory) (a : Addr) (u : Value) → has_deref ps ≡ false → value_at m (record a { path = a.path ++ ps }) ≡ Some u → walk m a ps ≡ Some (record a { path = a.path ++ ps })
unfolding walk project
walk_there [] m a u n e = ap (λ q. Some (record a { path = q })) (nil_right a.path)
walk_there (Field i ∷ ps) m a u n e =
    let same : (a.path ++ Field i ∷ []) ++ ps ≡ a.path ++ Field i ∷ ps = append_assoc a.path (Field i ∷ []) ps in
    let e' = subst (λ q. value_at m (record a { path = q }) ≡ Some u) (sym same) e in
    let (w, k) = value_front m a (a.path ++ Field i ∷ []) ps u e' in
    some_bind _ (ap (λ o. there o (further a (Field i))) k) (walk_there ps m (further a (Field i)) u n e' ∙ ap (λ q. Some (record a { path = q })) same)
walk_there (Downcast i ∷ ps) m a u n e =
    let same : (a.path ++ Downcast i ∷ []) ++ ps ≡ a.path ++ Downcast i ∷ ps = append_assoc a.path (Downcast i ∷ []) ps in
    let e' = subst (λ q. value_at m (record a { path = q }) ≡ Some u) (sym same) e in
    let (w, k) = value_front m a (a.path ++ Downcast i ∷ []) ps u e' in
    some_bind _ (ap (λ o. there o (further a (Downcast i))) k) (walk_there ps m (further a (Downcast i)) u n e' ∙ ap (λ q. Some (record a { path = q })) same)
walk_there (Deref ∷ ps) m a u n e = absurd (grind arith)

-- ---- before the callee

module _ (D : List Shape) (F : Stands) (n : ℕ) (ts1 ts2 : List Tree) (f1 a0 : ℕ) (below : a0 < n) (p : Place) (d : ℕ) where
  abbrev J : Renaming
  J = into F

  abbrev A1 : Here
  A1 = record { shapes = D; locals = ts1; frame = f1 }

  abbrev A2 : Here
  A2 = record { shapes = D; locals = ts2; frame = a0 }

  -- as Held of Stacks.antt
  abbrev pub Kept : Bool → Memory → Dest → Type 0
  Kept false m2 y = (y.addr ≡ record { frame = f1; local = p.local; path = p.proj }) × (y.guard ≡ None)
  Kept true m2 y = (b : Addr) × (t : Tree) × (local_at m2 a0 d ≡ Some (pointer b)) × AddrRel J y.addr b × (place_ty D ts1 p ≡ Some t) × (y.guard ≡ guard_of D (Deref ∷ []) t)

  abbrev pub Keeps : Bool → Memory → Memory → Dest → Type 0
  Keeps c m2 m1 to = (k2 : Memory) × (exec_all A2 m2 (if c then assign (whole_local d) (ref_mut p) ∷ [] else []) ≡ Some k2) × Linked J J k2 m1 × Writes F n a0 d (suc d) m2 m1 k2 m1 × Kept c k2 to

  addr_is : (a b : Addr) → b.frame ≡ a.frame → b.local ≡ a.local → b.path ≡ a.path → b ≡ a
  addr_is a b e1 e2 e3 = ap₂ (λ (f : ℕ) (q : ℕ × List Proj). record { frame = f; local = q.0; path = q.1 }) e1 (ap₂ (λ x y. (x, y)) e2 e3)

  assigned : (m2 : Memory) (b : Addr) (c : Dest) (k2 : Memory) → resolve A2 m2 p ≡ Some b → dest_of A2 m2 (whole_local d) ≡ Some c → store D m2 c (pointer b) ≡ Some k2 → exec_all A2 m2 (assign (whole_local d) (ref_mut p) ∷ []) ≡ Some k2
  unfolding exec eval
  assigned m2 b c k2 e1 e2 e3 = some_bind _ (some_bind _ (some_bind _ e1 refl) (some_bind _ e2 e3)) refl

  pub keep : (to : Dest) (m2 m1 : Memory) → Linked J J m2 m1 → Low D F n ts1 ts2 f1 a0 below d m1 → PlaceRel D ts1 ts2 f1 a0 J J (λ f x r e. e) J p p → ((t : Tree) → place_ty D ts1 p ≡ Some t → has_deref p.proj ≡ true → slice_get ts2 d ≡ Some (tree.ref_mut t)) → (has_deref p.proj ≡ true → (w : Value) × (local_at m2 a0 d ≡ Some w)) → dest_of A1 m1 p ≡ Some to → Keeps (has_deref p.proj) m2 m1 to
  unfolding dest_of resolve local_addr type_of guard_of
  keep to m2 m1 l low pl ty room e =
      let (a, e1, e2) = bind_some e in
      let (t, e3, e4) = bind_some e2 in
      subst (λ to. Keeps (has_deref p.proj) m2 m1 to) (some_val e4) (go (has_deref p.proj) refl a t e1 e3)
    where
      plain : (a : Addr) (t : Tree) → has_deref p.proj ≡ false → walk m1 (record { frame = f1; local = p.local; path = [] }) p.proj ≡ Some a → Keeps false m2 m1 (record { addr = a; guard = guard_of D p.proj t })
      plain a t q e1 =
          let (x, y, z) = walk_plain p.proj m1 (record { frame = f1; local = p.local; path = [] }) a q e1 in
          (m2, refl, l, record { room = λ c x w l r. (w, r); back = λ i x c z u r l k. (u, k); stay = λ c z w l out free r. r }, (addr_is (record { frame = f1; local = p.local; path = p.proj }) a x y z, ap (λ c. if c && needs_drop D t then Some t else None) q))

      behind : (a : Addr) (t : Tree) → has_deref p.proj ≡ true → walk m1 (record { frame = f1; local = p.local; path = [] }) p.proj ≡ Some a → place_ty D ts1 p ≡ Some t → Keeps true m2 m1 (record { addr = a; guard = guard_of D p.proj t })
      behind a t q e1 e3 =
          let (b, g1, ab) = resolve_rel D ts1 ts2 f1 a0 J J (λ f x r e. e) J (λ f x r e. e) (λ f x r e. e) m2 m1 p p a pl l.mem e1 in
          let (w, at) = room q in
          let (g2, g3, g4) = set_local D F n ts1 ts2 f1 a0 below d d (tree.ref_mut t) m2 w (pointer b) (ty t e3 q) at in
          let (l2, wr) = written D F n ts1 ts2 f1 a0 below d d (suc d) m2 m1 (pointer b) (omega arith) (omega arith) low l in
          (write m2 (local_addr a0 d) (pointer b), assigned m2 b _ _ g1 g2 g3, l2, wr, (b, t, g4, ab, e3, ap (λ c. if c && needs_drop D t then Some t else None) q))

      go : (c : Bool) → has_deref p.proj ≡ c → (a : Addr) (t : Tree) → walk m1 (record { frame = f1; local = p.local; path = [] }) p.proj ≡ Some a → place_ty D ts1 p ≡ Some t → Keeps c m2 m1 (record { addr = a; guard = guard_of D p.proj t })
      go false q a t e1 e3 = plain a t q e1
      go true q a t e1 e3 = behind a t q e1 e3
