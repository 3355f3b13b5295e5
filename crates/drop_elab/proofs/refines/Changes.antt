-- What the source's statements and operands do to the units of its frame, and that its locals stay loose.
use Rattle.std.proofs.Common.{◌≡◌, ◌⊎◌, inl, inr, refl, sym, ap, ap₂, ◌∙◌, subst, ℕ, ◌+◌, Bool, true, false, not, nat_eq, ◌&&◌, ◌||◌, if◌then◌else◌, List, [], ◌∷◌, ◌++◌, length, Option, Some, None, slice_get, option_map, arith}
use Rattle.std.specs.List.{list_any}
use Rattle.std.proofs.lemmas.Bool.{eqb-true}
use Rattle.mir_syntax.specs.declared.body.Place.{Place}
use Rattle.mir_syntax.specs.declared.body.Proj.{Proj}
use Rattle.mir_syntax.specs.declared.body.Proj.TheVariants.{Field, Downcast, Deref}
use Rattle.mir_syntax.specs.declared.body.Operand.{Operand}
use Rattle.mir_syntax.specs.declared.body.Operand.TheVariants as operand
use Rattle.mir_syntax.specs.Tree.{Tree}
use Rattle.mir_syntax.specs.Crate.{TypedRvalue, «use», binary, overflow, unary, cast, discriminant, tuple, build, TypedStmt, assign, storage_live, storage_dead, set_discriminant}
use Rattle.mir_syntax.specs.Crate as rvalue
use Rattle.mir_syntax.specs.Parts.{is_direct, has_deref, rvalue_operands}
use Rattle.mir_syntax.specs.Shapes.{Shape, path_ty, path_through, goes_through_destructor, needs_drop, variant_ty}
use Rattle.mir_rules.specs.DefinitionRules.{holds}
use Rattle.mir_rules.specs.BodyRules.{some_needs_drop, moves_through_destructor, moves_needing_indirectly, breaks_v21, breaks_v22}
use Rattle.mir_rules.specs.Weights.{units}
use Rattle.mir_rules.proofs.Lists.{or_false-left, or_false-right}
use Rattle.mir_semantics.specs.Values.{Addr, Value, put, at_path, whole, blank, variant}
use Rattle.mir_semantics.specs.Memory.{Memory, local_at, value_at, write}
use Rattle.mir_semantics.specs.Step.{Here, Dest, resolve, type_of, guard_of, dest_of, allows, store, local_addr, read_at, read, read_all, read_number, read_two, eval, is_variant, write_unless, set_blank, exec}
use Rattle.mir_renaming.specs.Renaming.{RootOf}
use Rattle.mir_syntax.proofs.Binds.{bind_some, some_bind}
use Rattle.mir_renaming.proofs.Memory.{root_or_not, write_same, write_other}
use Rattle.mir_renaming.proofs.Statements.{only_true}
use Rattle.mir_renaming.proofs.Types.{TypeMap, HasTy, AddrTy, MemTy, StmtTy, some_eq, write_ty, resolve_ty, eval_ty, dest_ty}
use Rattle.mir_renaming.proofs.Agree.{NeedsOk}
use Rattle.mir_renaming.proofs.Frames.{equal}
use Rattle.mir_renaming.proofs.Walks.{walk_plain}
use Rattle.move_paths.specs.Effects.{goes_on, is_under, moved_by_operand, moved_by, ended_if, begun_or_ended, effect}
use Rattle.move_paths.specs.Inits.{after_effect}
use Rattle.drop_elab.specs.Elab.{Inits}
use Rattle.mir_relate.specs.Frames.{Change}
use Rattle.mir_relate.proofs.Leaves.{some_val}
use Rattle.mir_relate.proofs.Single.{set_blank_is}
use Rattle.mir_relate.proofs.Wholes.{eval_whole}
use Rattle.drop_elab.proofs.refines.Items.{Proper, ProperShapes}
use Rattle.drop_elab.proofs.refines.Propers.{there_proper}
use Rattle.drop_elab.proofs.refines.Sound.{Has}
use Rattle.drop_elab.proofs.refines.Puts.{Fields, field_cases}
use Rattle.drop_elab.proofs.refines.Kept.{units_fields}
use Rattle.drop_elab.proofs.refines.Deep.{Loose, Deep, put_loose, put_blank, blank_loose, whole_deep, needless_deep}
use Rattle.drop_elab.proofs.refines.Held.{unit_hole, write_keeps, store_keeps, move_keeps, blank_ends, value_begins, write_beside, write_elsewhere}
use Rattle.drop_elab.proofs.refines.Solid.{unit_of_local}
use Rattle.drop_elab.proofs.refines.Ended.{goes_parts, goes_back}
use Rattle.drop_elab.proofs.refines.Stand as stand
use Rattle.drop_elab.proofs.refines.Stand.{held_in, held}

-- an evaluation reads its operands, one after another
read_one : (h : Here) (m : Memory) (o : Operand) (v : Value) (m' : Memory) → read h m o ≡ Some (v, m') → read_all h m (o ∷ []) ≡ Some (v ∷ [], m')
unfolding read_all
read_one h m o v m' e = some_bind _ e (some_bind _ refl refl)

pub number_reads : (h : Here) (m : Memory) (o : Operand) (r : ℕ × Memory) → read_number h m o ≡ Some r → (v : Value) × (read h m o ≡ Some (v, r.1))
unfolding read_number
number_reads h m o r e =
    let (x, e1, k1) = bind_some e in
    let (n, e2, k2) = bind_some k1 in
    (x.0, e1 ∙ ap (λ (r : ℕ × Memory). Some (x.0, r.1)) (some_val k2))

Reads : Here → Memory → List Operand → Memory → Type 0
Reads h m os m' = (vs : List Value) × (read_all h m os ≡ Some (vs, m'))

one_reads : (h : Here) (m : Memory) (o : Operand) (r : ℕ × Memory) → read_number h m o ≡ Some r → Reads h m (o ∷ []) r.1
unfolding Reads
one_reads h m o r e = (let (v, q) = number_reads h m o r e in (v ∷ [], read_one h m o v r.1 q))

two_reads : (h : Here) (m : Memory) (a b : Operand) (r : (ℕ × ℕ) × Memory) → read_two h m a b ≡ Some r → Reads h m (a ∷ b ∷ []) r.1
unfolding Reads read_two read_all
two_reads h m a b r e =
    let (x, e1, k1) = bind_some e in
    let (y, e2, k2) = bind_some k1 in
    let (v, q1) = number_reads h m a x e1 in
    let (w, q2) = number_reads h x.1 b y e2 in
    (v ∷ (w ∷ []), some_bind _ q1 (some_bind _ (some_bind _ q2 (some_bind _ refl refl)) (ap (λ (r : (ℕ × ℕ) × Memory). Some (v ∷ (w ∷ []), r.1)) (some_val k2))))

eval_reads : (h : Here) (m : Memory) (x : TypedRvalue) (r : Value × Memory) → eval h m x ≡ Some r → Reads h m (rvalue_operands x) r.1
unfolding Reads eval read_all
eval_reads h m («use» o) r e = (r.0 ∷ [], read_one h m o r.0 r.1 e)
eval_reads h m (binary op a b) r e =
    let (t, e1, k1) = bind_some e in
    let (x, e2, k2) = bind_some k1 in
    let (n, e3, k3) = bind_some k2 in
    subst (λ (r : Value × Memory). (vs : List Value) × (read_all h m (a ∷ b ∷ []) ≡ Some (vs, r.1))) (some_val k3) (two_reads h m a b x e2)
eval_reads h m (overflow op a b) r e =
    let (t, e1, k1) = bind_some e in
    let (x, e2, k2) = bind_some k1 in
    subst (λ (r : Value × Memory). (vs : List Value) × (read_all h m (a ∷ b ∷ []) ≡ Some (vs, r.1))) (some_val k2) (two_reads h m a b x e2)
eval_reads h m (unary op a) r e =
    let (t, e1, k1) = bind_some e in
    let (x, e2, k2) = bind_some k1 in
    subst (λ (r : Value × Memory). (vs : List Value) × (read_all h m (a ∷ []) ≡ Some (vs, r.1))) (some_val k2) (one_reads h m a x e2)
eval_reads h m (cast a to) r e =
    let (t, e1, k1) = bind_some e in
    let (s, e2, k2) = bind_some k1 in
    let (x, e3, k3) = bind_some k2 in
    subst (λ (r : Value × Memory). (vs : List Value) × (read_all h m (a ∷ []) ≡ Some (vs, r.1))) (some_val k3) (one_reads h m a x e3)
eval_reads h m (rvalue.ref p) r e = (let (a, e1, k1) = bind_some e in ([], ap (λ (r : Value × Memory). Some ([], r.1)) (some_val k1)))
eval_reads h m (rvalue.ref_mut p) r e = (let (a, e1, k1) = bind_some e in ([], ap (λ (r : Value × Memory). Some ([], r.1)) (some_val k1)))
eval_reads h m (discriminant p) r e =
    let (a, e1, k1) = bind_some e in
    let (v, e2, k2) = bind_some k1 in
    let (n, e3, k3) = bind_some k2 in
    ([], ap (λ (r : Value × Memory). Some ([], r.1)) (some_val k3))
eval_reads h m (tuple os) r e = (let (x, e1, k1) = bind_some e in (x.0, e1 ∙ ap (λ (r : Value × Memory). Some (x.0, r.1)) (some_val k1)))
eval_reads h m (build d k os) r e = (let (x, e1, k1) = bind_some e in (x.0, e1 ∙ ap (λ (r : Value × Memory). Some (x.0, r.1)) (some_val k1)))

value_here : (m : Memory) (g x : ℕ) (v : Value) → local_at m g x ≡ Some v → value_at m (record { frame = g; local = x; path = [] }) ≡ Some v
unfolding value_at
value_here m g x v e = some_bind (at_path []) e refl

-- what the rules say of operands that are read
abbrev pub breaks21 : Change → List Operand → Bool
breaks21 X os = breaks_v21 X.source.shapes X.body1.locals os

abbrev pub breaks22 : Change → List Operand → Bool
breaks22 X os = breaks_v22 X.source.shapes X.body1.locals os

abbrev pub AllReading : Change → List Operand → Type 0
AllReading X os = (breaks21 X os ≡ false) × (breaks22 X os ≡ false)

abbrev pub Reading : Change → Operand → Type 0
Reading X o = AllReading X (o ∷ [])

pub first_reading : (X : Change) (o : Operand) (os : List Operand) → AllReading X (o ∷ os) → Reading X o
first_reading X o os (a, b) = (
  ap (λ c. c || false) (or_false-left (moves_through_destructor X.source.shapes X.body1.locals o) (list_any (moves_through_destructor X.source.shapes X.body1.locals) os) a),
  ap (λ c. c || false) (or_false-left (moves_needing_indirectly X.source.shapes X.body1.locals o) (list_any (moves_needing_indirectly X.source.shapes X.body1.locals) os) b),
)

-- a path of fields goes on only from one of fields
pub indirect_not : (ps us : List Proj) → Fields us → is_direct ps ≡ false → goes_on ps us ≡ false
indirect_not [] us h e = absurd (grind arith)
indirect_not (p ∷ ps) [] h e = refl
indirect_not (Field i ∷ ps) (Field k ∷ us) h e = go (nat_eq i k) (indirect_not ps us h e)
  where
    go : (b : Bool) → goes_on ps us ≡ false → (b && goes_on ps us) ≡ false
    go true q = q
    go false q = refl
indirect_not (Downcast i ∷ ps) (q ∷ us) h e = refl
indirect_not (Deref ∷ ps) (q ∷ us) h e = refl
indirect_not (Field i ∷ ps) (Downcast k ∷ us) h e = absurd h
indirect_not (Field i ∷ ps) (Deref ∷ us) h e = absurd h

pub deref_indirect : (ps : List Proj) → has_deref ps ≡ true → is_direct ps ≡ false
deref_indirect [] e = absurd (grind arith)
deref_indirect (Field i ∷ ps) e = deref_indirect ps e
deref_indirect (Downcast k ∷ ps) e = refl
deref_indirect (Deref ∷ ps) e = refl

pub direct_plain : (ps : List Proj) → is_direct ps ≡ true → has_deref ps ≡ false
direct_plain [] e = refl
direct_plain (Field i ∷ ps) e = direct_plain ps e
direct_plain (Downcast k ∷ ps) e = absurd (grind arith)
direct_plain (Deref ∷ ps) e = absurd (grind arith)

two_ends : (a b : Bool) (h : Bool) → after_effect (ended_if b) (after_effect (ended_if a) h) ≡ after_effect (ended_if (a || b)) h
two_ends true true h = refl
two_ends true false h = refl
two_ends false b h = refl

module _ (X : Change) (inits : Inits) (apart : (d : ℕ) → holds X.source.shapes (length X.source.shapes) d d ≡ false) (proper : ProperShapes X.source.shapes) (proper_locals : (x : ℕ) (t : Tree) → slice_get X.body1.locals x ≡ Some t → Proper t) (needs : NeedsOk X.source.shapes) (G : TypeMap) (bok : (t : Tree) → HasTy X.source.shapes G t (blank X.source.shapes t)) (f : ℕ) (lok : (x : ℕ) (t : Tree) → slice_get X.body1.locals x ≡ Some t → G f x ≡ Some t) where
  abbrev D : List Shape
  D = X.source.shapes

  abbrev us : List Place
  us = stand.us X inits apart proper

  abbrev H : Here
  H = record { shapes = X.source.shapes; locals = X.body1.locals; frame = f }

  -- the frame's locals are there and loose
  pub record Locals (m : Memory) : Type 0 where
    pub typed : MemTy X.source.shapes G m
    pub there : (x : ℕ) (t : Tree) → slice_get X.body1.locals x ≡ Some t → (v : Value) × (local_at m f x ≡ Some v) × Loose X.source.shapes t v

  -- the units have changed so
  abbrev pub Turned : (Place → Option Bool) → Memory → Memory → Type 0
  Turned change m m' = (u : Place) → Has us u → held m' f u ≡ after_effect (change u) (held m f u)

  -- ---- one write

  write_there : (m : Memory) (a : Addr) (w : Value) → ((x : ℕ) (t : Tree) (v : Value) → RootOf a f x → slice_get X.body1.locals x ≡ Some t → local_at m f x ≡ Some v → Loose D t v → Loose D t (put a.path w v)) → Locals m → (x : ℕ) (t : Tree) → slice_get X.body1.locals x ≡ Some t → (v : Value) × (local_at (write m a w) f x ≡ Some v) × Loose D t v
  write_there m a w change h x t e = go (root_or_not a f x)
    where
      go : RootOf a f x ⊎ (f ≡ a.frame → x ≡ a.local → ⊥) → (v : Value) × (local_at (write m a w) f x ≡ Some v) × Loose D t v
      go (inr n) = let (v, ev, lo) = h.there x t e in (v, write_other m a w f x n ∙ ev, lo)
      go (inl r) = let (v, ev, lo) = h.there x t e in (put a.path w v, write_same m a w f x r ∙ ap (option_map (put a.path w)) ev, change x t v r e ev lo)

  path_of : (a : Addr) (t : Tree) → AddrTy D G a t → (x : ℕ) (lt : Tree) → RootOf a f x → slice_get X.body1.locals x ≡ Some lt → path_ty D lt a.path ≡ Some t
  path_of a t at x lt r e = subst (λ y. path_ty D y a.path ≡ Some t) (some_eq D G at.local lt (G a.frame a.local) at.is (ap₂ G (sym r.0) (sym r.1) ∙ lok x lt e)) at.path

  -- of a value without holes where something needs drop
  deep_locals : (m : Memory) (a : Addr) (t : Tree) (w : Value) → AddrTy D G a t → HasTy D G t w → Deep D t w → Locals m → Locals (write m a w)
  deep_locals m a t w at tw dw h = record {
    typed = write_ty D G m a t w h.typed at tw;
    there = write_there m a w (λ x lt v r e ev lo. put_loose D a.path lt t w v dw lo (path_of a t at x lt r e)) h;
  }

  -- units and their locals
  pub of_unit : (u : Place) → Has us u → (lt : Tree) × (slice_get X.body1.locals u.local ≡ Some lt) × (G f u.local ≡ Some lt) × Proper lt × Has (units D lt) u.proj
  of_unit u hu =
      let (y, lt, ul, el, hp) = unit_of_local D 0 X.body1.locals u hu in
      let z : y ≡ u.local = sym (ul ∙ (let z : 0 + y ≡ y = omega arith in z)) in
      (lt, subst (λ y. slice_get X.body1.locals y ≡ Some lt) z el, subst (λ y. G f y ≡ Some lt) z (lok y lt el), proper_locals y lt el, hp)

  pub unit_fields : (u : Place) → Has us u → Fields u.proj
  unit_fields u hu = (let (lt, el, gl, pr, hp) = of_unit u hu in units_fields D apart proper u.proj lt pr hp)

  -- at a place of the frame, which makes this of the units at or under it
  held_put : (m : Memory) (p : Place) (w old : Value) (b : Bool) → value_at m (record { frame = f; local = p.local; path = p.proj }) ≡ Some old → ((lt : Tree) (u rest : List Proj) → G f p.local ≡ Some lt → Proper lt → Has (units D lt) u → u ≡ p.proj ++ rest → unit_hole (write m (record { frame = f; local = p.local; path = p.proj }) w) f p.local u ≡ Some (not b)) → (u : Place) → Has us u → held (write m (record { frame = f; local = p.local; path = p.proj }) w) f u ≡ after_effect (if is_under p u then Some b else None) (held m f u)
  held_put m p w old b ev makes u hu =
      let (lt, el, gl, pr, hp) = of_unit u hu in
      go lt gl pr hp (is_under p u) refl
    where
      A : Addr
      A = record { frame = f; local = p.local; path = p.proj }

      twice : (b : Bool) → not (not b) ≡ b
      twice true = refl
      twice false = refl

      parts : (a b : Bool) → (a && b) ≡ true → (a ≡ true) × (b ≡ true)
      parts true b e = (refl, e)
      parts false b e = absurd (grind arith)

      go : (lt : Tree) → G f u.local ≡ Some lt → Proper lt → Has (units D lt) u.proj → (c : Bool) → is_under p u ≡ c → held (write m (record { frame = f; local = p.local; path = p.proj }) w) f u ≡ after_effect (if is_under p u then Some b else None) (held m f u)
      go lt gl pr hp true e =
          let (ea, eb) = parts (nat_eq p.local u.local) (goes_on p.proj u.proj) e in
          let z : p.local ≡ u.local = eqb-true p.local u.local ea in
          let (rest, r) = goes_parts p.proj u.proj eb in
          ap held_in (ap (λ x. unit_hole (write m (record { frame = f; local = p.local; path = p.proj }) w) f x u.proj) (sym z) ∙ makes lt u.proj rest (ap (G f) z ∙ gl) pr hp r) ∙ twice b ∙ ap (λ c. after_effect (if c then Some b else None) (held m f u)) (sym e)
      go lt gl pr hp false e = ap held_in (by_local (field_cases u.local p.local)) ∙ ap (λ c. after_effect (if c then Some b else None) (held m f u)) (sym e)
        where
          by_local : (u.local ≡ p.local) ⊎ (u.local ≡ p.local → ⊥) → unit_hole (write m (record { frame = f; local = p.local; path = p.proj }) w) f u.local u.proj ≡ unit_hole m f u.local u.proj
          by_local (inr n) = write_elsewhere D apart proper G m (record { frame = f; local = p.local; path = p.proj }) w f u.local u.proj (λ _ q. n q)
          by_local (inl z) = subst (λ x. unit_hole (write m (record { frame = f; local = p.local; path = p.proj }) w) f x u.proj ≡ unit_hole m f x u.proj) (sym z) (write_beside D apart proper G m (record { frame = f; local = p.local; path = p.proj }) w old ev lt u.proj pr hp (λ rest r. absurd (let q : true ≡ false = sym (ap₂ (λ a b. a && b) (equal p.local u.local (sym z)) (ap (goes_on p.proj) r ∙ goes_back p.proj rest (subst Fields r (unit_fields u hu)))) ∙ e in grind arith)))

  ended_is : (c : Bool) → (if c then Some false else None) ≡ ended_if c
  ended_is true = refl
  ended_is false = refl

  -- ---- moves

  plain_addr : (m : Memory) (p : Place) (a : Addr) → has_deref p.proj ≡ false → resolve H m p ≡ Some a → a ≡ record { frame = f; local = p.local; path = p.proj }
  unfolding resolve local_addr
  plain_addr m p a h e = (let (x, y, z) = walk_plain p.proj m _ a h e in addr_is x y z)
    where
      addr_is : a.frame ≡ f → a.local ≡ p.local → a.path ≡ p.proj → a ≡ record { frame = f; local = p.local; path = p.proj }
      addr_is x y z = ap (λ g. record a { frame = g }) x ∙ ap (λ l. let b : Addr = record { frame = f; local = l; path = a.path } in b) y ∙ ap (λ q. let b : Addr = record { frame = f; local = p.local; path = q } in b) z

  place_proper : (m : Memory) (p : Place) (t : Tree) (old : Value) (lt : Tree) → G f p.local ≡ Some lt → Proper lt → AddrTy D G (record { frame = f; local = p.local; path = p.proj }) t → value_at m (record { frame = f; local = p.local; path = p.proj }) ≡ Some old → Proper t
  unfolding value_at
  place_proper m p t old lt gl pr at ev = (let (o, e1, e2) = bind_some ev in there_proper D proper p.proj lt t o old pr (subst (λ y. path_ty D y p.proj ≡ Some t) (some_eq D G at.local lt (G f p.local) at.is gl) at.path) e2)

  -- a blank at a place of fields
  blank_turns : (m : Memory) (p : Place) (t : Tree) (old : Value) → is_direct p.proj ≡ true → goes_through_destructor D X.body1.locals p ≡ false → AddrTy D G (record { frame = f; local = p.local; path = p.proj }) t → value_at m (record { frame = f; local = p.local; path = p.proj }) ≡ Some old → Locals m → Locals (write m (record { frame = f; local = p.local; path = p.proj }) (blank D t)) × Turned (λ u. ended_if (is_under p u)) m (write m (record { frame = f; local = p.local; path = p.proj }) (blank D t))
  blank_turns m p t old di th at ev h = (
    record {
      typed = write_ty D G m A t (blank D t) h.typed at (bok t);
      there = write_there m A (blank D t) (λ x lt v r e ev lo. put_blank D p.proj lt t (blank D t) v (blank_loose D proper t) lo (path_of A t at x lt r e) di (ap (λ o. path_through D o p.proj) (sym (ap (slice_get X.body1.locals) (sym r.1) ∙ e)) ∙ th)) h;
    },
    λ u hu. held_put m p (blank D t) old false ev ends u hu ∙ ap (λ o. after_effect o (held m f u)) (ended_is (is_under p u)),
  )
    where
      A : Addr
      A = record { frame = f; local = p.local; path = p.proj }

      ends : (lt : Tree) (u rest : List Proj) → G f p.local ≡ Some lt → Proper lt → Has (units D lt) u → u ≡ p.proj ++ rest → unit_hole (write m (record { frame = f; local = p.local; path = p.proj }) (blank D t)) f p.local u ≡ Some true
      ends lt u rest gl pr hu eu = (let prt = place_proper m p t old lt gl pr at ev in blank_ends D apart proper G m (record { frame = f; local = p.local; path = p.proj }) t old at prt ev lt u rest gl pr hu eu)

  -- what a `move` takes
  move_turns : (m : Memory) (p : Place) (a : Addr) (t : Tree) (v : Value) → moves_through_destructor D X.body1.locals (operand.Move p) ≡ false → moves_needing_indirectly D X.body1.locals (operand.Move p) ≡ false → resolve H m p ≡ Some a → type_of H p ≡ Some t → value_at m a ≡ Some v → Locals m → Locals (write m a (blank D t)) × Turned (λ u. ended_if (is_under p u)) m (write m a (blank D t))
  unfolding type_of
  move_turns m p a t v th ne e et ev h = go (is_direct p.proj) refl
    where
      at : AddrTy D G a t
      at = resolve_ty D G bok X.body1.locals f lok m p a t h.typed et e

      calm : is_direct p.proj ≡ false → needs_drop D t ≡ false
      calm q = sym (ap₂ (λ b o. not b && some_needs_drop D o) q et) ∙ ne

      go : (b : Bool) → is_direct p.proj ≡ b → Locals (write m a (blank D t)) × Turned (λ u. ended_if (is_under p u)) m (write m a (blank D t))
      go true q =
          let z = plain_addr m p a (direct_plain p.proj q) e in
          subst (λ (a : Addr). Locals (write m a (blank D t)) × Turned (λ u. ended_if (is_under p u)) m (write m a (blank D t))) (sym z) (blank_turns m p t v q th (subst (λ (a : Addr). AddrTy D G a t) z at) (subst (λ (a : Addr). value_at m a ≡ Some v) z ev) h)
      go false q = (
        deep_locals m a t (blank D t) at (bok t) (needless_deep D needs (blank D t) t (calm q)) h,
        λ u hu. (
            let (lt, el, gl, pr, hp) = of_unit u hu in
            ap held_in (move_keeps D apart proper G m a t v h.typed at ev (bok t) (calm q) f u.local lt u.proj gl pr hp)
            ∙ ap (λ b. after_effect (ended_if b) (held m f u)) (sym (ap (λ b. nat_eq p.local u.local && b) (indirect_not p.proj u.proj (unit_fields u hu) q) ∙ no_and (nat_eq p.local u.local)))
            ),
      )
        where
          no_and : (b : Bool) → (b && false) ≡ false
          no_and true = refl
          no_and false = refl

  read_turns : (m : Memory) (o : Operand) (r : Value × Memory) → moves_through_destructor D X.body1.locals o ≡ false → moves_needing_indirectly D X.body1.locals o ≡ false → read H m o ≡ Some r → Locals m → Locals r.1 × Turned (λ u. ended_if (moved_by_operand o u)) m r.1
  unfolding read read_at
  read_turns m (operand.Copy p) r th ne e h =
      let (a, e1, k1) = bind_some e in
      let (v, e2, k2) = bind_some k1 in
      subst (λ (r : Value × Memory). Locals r.1 × Turned (λ u. ended_if (moved_by_operand (operand.Copy p) u)) m r.1) (some_val k2) (h, λ u hu. refl)
  read_turns m (operand.Move p) r th ne e h =
      let (a, e1, k1) = bind_some e in
      let (v, e2, k2) = bind_some k1 in
      let (t, e3, k3) = bind_some k2 in
      let (w, e4, k4) = bind_some e2 in
      subst (λ (r : Value × Memory). Locals r.1 × Turned (λ u. ended_if (moved_by_operand (operand.Move p) u)) m r.1) (some_val k3) (move_turns m p a t w th ne e1 e3 e4 h)
  read_turns m (operand.Const c) r th ne e h = subst (λ (r : Value × Memory). Locals r.1 × Turned (λ u. ended_if (moved_by_operand (operand.Const c) u)) m r.1) (some_val e) (h, λ u hu. refl)

  pub all_turns : (m : Memory) (os : List Operand) (r : List Value × Memory) → breaks_v21 D X.body1.locals os ≡ false → breaks_v22 D X.body1.locals os ≡ false → read_all H m os ≡ Some r → Locals m → Locals r.1 × Turned (λ u. ended_if (moved_by os u)) m r.1
  unfolding read_all
  all_turns m [] r th ne e h = subst (λ (r : List Value × Memory). Locals r.1 × Turned (λ u. ended_if (moved_by [] u)) m r.1) (some_val e) (h, λ u hu. refl)
  all_turns m (o ∷ os) r th ne e h =
      let (x, e1, k1) = bind_some e in
      let (y, e2, k2) = bind_some k1 in
      let (hx, tx) = read_turns m o x (or_false-left (moves_through_destructor D X.body1.locals o) (list_any (moves_through_destructor D X.body1.locals) os) th) (or_false-left (moves_needing_indirectly D X.body1.locals o) (list_any (moves_needing_indirectly D X.body1.locals) os) ne) e1 h in
      let (hy, ty) = all_turns x.1 os y (or_false-right (moves_through_destructor D X.body1.locals o) (list_any (moves_through_destructor D X.body1.locals) os) th) (or_false-right (moves_needing_indirectly D X.body1.locals o) (list_any (moves_needing_indirectly D X.body1.locals) os) ne) e2 hx in
      subst (λ (r : List Value × Memory). Locals r.1 × Turned (λ u. ended_if (moved_by (o ∷ os) u)) m r.1) (some_val k2) (hy, λ u hu. ty u hu ∙ ap (after_effect (ended_if (moved_by os u))) (tx u hu) ∙ two_ends (moved_by_operand o u) (moved_by os u) (held m f u))

  pub number_turns : (m : Memory) (o : Operand) (r : ℕ × Memory) → breaks_v21 D X.body1.locals (o ∷ []) ≡ false → breaks_v22 D X.body1.locals (o ∷ []) ≡ false → read_number H m o ≡ Some r → Locals m → Locals r.1 × Turned (λ u. ended_if (moved_by (o ∷ []) u)) m r.1
  unfolding Reads
  number_turns m o r th ne e h = (let (vs, q) = one_reads H m o r e in all_turns m (o ∷ []) (vs, r.1) th ne q h)

  -- ---- what is assigned

  -- a whole value is stored at a place
  pub store_turns : (m m' : Memory) (p : Place) (d : Dest) (t : Tree) (v : Value) → type_of H p ≡ Some t → dest_of H m p ≡ Some d → HasTy D G t v → whole v ≡ true → store D m d v ≡ Some m' → Locals m → Locals m' × Turned (λ u. if is_under p u then Some true else None) m m'
  unfolding dest_of store guard_of
  store_turns m m' p d t v pt de tv wh e h =
      let (a, e1, k1) = bind_some de in
      let (t2, e2, k2) = bind_some k1 in
      let (old, s1, l1) = bind_some e in
      let (ok, same) = only_true (allows D d.guard old) (write m d.addr v) m' l1 in
      let ad : a ≡ d.addr = ap (λ (d : Dest). d.addr) (some_val k2) in
      let at : AddrTy D G d.addr t = dest_ty D G bok X.body1.locals f lok m p t d h.typed pt de in
      (subst Locals same (deep_locals m d.addr t v at tv (whole_deep D v t wh) h), λ u hu. go a ad t2 (some_val (sym e2 ∙ pt)) (ap (λ (d : Dest). d.guard) (some_val k2)) old s1 same e1 at u hu (has_deref p.proj) refl)
    where
      go : (a : Addr) → a ≡ d.addr → (t2 : Tree) → t2 ≡ t → (if has_deref p.proj && needs_drop D t2 then Some t2 else None) ≡ d.guard → (old : Value) → value_at m d.addr ≡ Some old → write m d.addr v ≡ m' → resolve H m p ≡ Some a → AddrTy D G d.addr t → (u : Place) → Has us u → (b : Bool) → has_deref p.proj ≡ b → held m' f u ≡ after_effect (if is_under p u then Some true else None) (held m f u)
      go a ad t2 tt2 gd old ev same er at u hu true hd =
          let (lt, el, gl, pr, hp) = of_unit u hu in
          ap held_in (store_keeps D apart proper G m m' d t v h.typed at tv wh (λ n. sym gd ∙ ap₂ (λ b c. if b && c then Some t2 else None) hd (ap (needs_drop D) tt2 ∙ n) ∙ ap (λ t. Some t) tt2) e f u.local lt u.proj gl pr hp)
          ∙ ap (λ b. after_effect (if b then Some true else None) (held m f u)) (sym (ap (λ b. nat_eq p.local u.local && b) (indirect_not p.proj u.proj (unit_fields u hu) (deref_indirect p.proj hd)) ∙ no_and (nat_eq p.local u.local)))
        where
          no_and : (b : Bool) → (b && false) ≡ false
          no_and true = refl
          no_and false = refl
      go a ad t2 tt2 gd old ev same er at u hu false hd =
          let z : d.addr ≡ record { frame = f; local = p.local; path = p.proj } = sym ad ∙ plain_addr m p a hd er in
          let at' : AddrTy D G (record { frame = f; local = p.local; path = p.proj }) t = subst (λ (a : Addr). AddrTy D G a t) z at in
          let ev' : value_at m (record { frame = f; local = p.local; path = p.proj }) ≡ Some old = subst (λ (a : Addr). value_at m a ≡ Some old) z ev in
          ap (λ m. held m f u) (sym same ∙ ap (λ (a : Addr). write m a v) z) ∙ held_put m p v old true ev' (λ lt u rest gl pr hu eu. value_begins D apart proper G m (record { frame = f; local = p.local; path = p.proj }) t old v at' (place_proper m p t old lt gl pr at' ev') ev' tv wh lt u rest gl pr hu eu) u hu

  begun_is : (a b : Bool) (h : Bool) → after_effect (if a then Some true else None) (after_effect (ended_if b) h) ≡ after_effect (begun_or_ended a b) h
  begun_is true true h = refl
  begun_is true false h = refl
  begun_is false b h = refl

  storage_turns : (m m' : Memory) (x : ℕ) (s : TypedStmt) → ((u : Place) → effect u s ≡ ended_if (nat_eq x u.local)) → set_blank H m x ≡ Some m' → Locals m → Locals m' × Turned (λ u. effect u s) m m'
  storage_turns m m' x s is e h =
      let (t, et, same) = set_blank_is H m m' x e in
      let (v, ev, lo) = h.there x t et in
      let (l, tu) = blank_turns m (record { local = x; proj = [] }) t v refl refl (record { local = t; is = lok x t et; path = refl }) (at_start v ev) h in
      subst (λ m'. Locals m' × Turned (λ u. effect u s) m m') same (l, λ u hu. tu u hu ∙ ap (λ b. after_effect (ended_if b) (held m f u)) (and_true (nat_eq x u.local)) ∙ ap (λ o. after_effect o (held m f u)) (sym (is u)))
    where
      at_start : (v : Value) → local_at m f x ≡ Some v → value_at m (record { frame = f; local = x; path = [] }) ≡ Some v
      at_start v ev = value_here m f x v ev

      and_true : (b : Bool) → (b && true) ≡ b
      and_true true = refl
      and_true false = refl

  -- a statement
  pub exec_turns : (m m' : Memory) (s : TypedStmt) → StmtTy D G bok X.body1.locals f lok s → ((p : Place) (r : TypedRvalue) → s ≡ assign p r → (breaks_v21 D X.body1.locals (rvalue_operands r) ≡ false) × (breaks_v22 D X.body1.locals (rvalue_operands r) ≡ false)) → ((p : Place) (k : ℕ) (t : Tree) → s ≡ set_discriminant p k → type_of H p ≡ Some t → needs_drop D t ≡ false) → exec H m s ≡ Some m' → Locals m → Locals m' × Turned (λ u. effect u s) m m'
  unfolding exec write_unless Reads
  exec_turns m m' (assign p x) (t, pt, xt) mo calm e h =
      let (v, e1, k1) = bind_some e in
      let (d, e2, k2) = bind_some k1 in
      let (hv, k') = eval_ty D G bok X.body1.locals f lok m x t v h.typed xt e1 in
      let (vs, q) = eval_reads H m x v e1 in
      let (m1, m2) = mo p x refl in
      let (l1, t1) = all_turns m (rvalue_operands x) (vs, v.1) m1 m2 q h in
      let (l2, t2) = store_turns v.1 m' p d t v.0 pt e2 hv (eval_whole D G bok X.body1.locals f lok m x t v xt e1) k2 l1 in
      (l2, λ u hu. t2 u hu ∙ ap (after_effect (if is_under p u then Some true else None)) (t1 u hu) ∙ begun_is (is_under p u) (moved_by (rvalue_operands x) u) (held m f u))
  exec_turns m m' (storage_live x) ty mo calm e h = storage_turns m m' x (storage_live x) (λ u. refl) e h
  exec_turns m m' (storage_dead x) ty mo calm e h = storage_turns m m' x (storage_dead x) (λ u. refl) e h
  exec_turns m m' (set_discriminant p i) ty mo calm e h =
      let (a, e1, k1) = bind_some e in
      let (v, e2, k2) = bind_some k1 in
      let (t, e3, k3) = bind_some k2 in
      let (w, e4, k4) = bind_some k3 in
      subst (λ m'. Locals m' × Turned (λ u. None) m m') (some_val k4) (go a v t w e1 e2 e3 e4 (is_variant i v))
    where
      go : (a : Addr) (v : Value) (t w : Tree) → resolve H m p ≡ Some a → value_at m a ≡ Some v → type_of H p ≡ Some t → variant_ty D t i ≡ Some w → (b : Bool) → Locals (write_unless b m a (variant i (blank D w))) × Turned (λ u. None) m (write_unless b m a (variant i (blank D w)))
      go a v t w e1 e2 e3 e4 true = (h, λ u hu. refl)
      go a v t w e1 e2 e3 e4 false =
          let at : AddrTy D G a t = resolve_ty D G bok X.body1.locals f lok m p a t h.typed e3 e1 in
          let new : HasTy D G t (variant i (blank D w)) = (w, e4, bok w) in
          let nd = calm p i t refl e3 in (
            deep_locals m a t (variant i (blank D w)) at new (needless_deep D needs (variant i (blank D w)) t nd) h,
            λ u hu. (
                let (lt, el, gl, pr, hp) = of_unit u hu in
                ap held_in (write_keeps D apart proper G m a t v (variant i (blank D w)) h.typed at e2 new (λ n. absurd (let z : true ≡ false = sym n ∙ nd in grind arith)) f u.local lt u.proj gl pr hp)
                ),
          )
