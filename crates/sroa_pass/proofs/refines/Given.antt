-- The whole of a split local goes to a place without a dereference, field by field.
use Rattle.std.proofs.Common.{◌≡◌, ◌⊎◌, inl, inr, refl, sym, ap, ap₂, ◌∙◌, subst, ℕ, suc, ◌+◌, true, false, ◌&&◌, if◌then◌else◌, List, [], ◌∷◌, ◌++◌, Option, Some, None, slice_get, option_map, arith}
use Rattle.mir_syntax.specs.declared.body.Proj.{Proj}
use Rattle.mir_syntax.specs.declared.body.Proj.TheVariants.{Field}
use Rattle.mir_syntax.specs.declared.body.Place.{Place}
use Rattle.mir_syntax.specs.declared.body.Operand.TheVariants as operand
use Rattle.mir_syntax.specs.Tree.{Tree, scalar, empty, more, ref, ref_mut, named}
use Rattle.mir_syntax.specs.Crate.{«use», TypedStmt, assign}
use Rattle.mir_syntax.specs.Shapes.{Shape, ◌>>=◌, fields_of, field_ty, place_ty, needs_drop}
use Rattle.mir_semantics.specs.Values.{Addr, Value, number, nil, cons, variant, pointer, hole, whole, part, at_path, put, blank}
use Rattle.mir_semantics.specs.Memory.{Memory, local_at, value_at, write, walk, further}
use Rattle.mir_semantics.specs.Step.{Here, Dest, local_addr, resolve, type_of, guard_of, dest_of, store, read, operand_ty, eval, exec}
use Rattle.mir_syntax.specs.Parts.{has_deref}
use Rattle.mir_renaming.specs.Renaming.{Renaming, RootOf}
use Rattle.mir_syntax.proofs.Binds.{bind_some, some_bind}
use Rattle.mir_renaming.proofs.Memory.{root_or_not, write_same, write_other}
use Rattle.mir_renaming.proofs.Types.{TypeMap, AddrTy, HasTy, value_at_ty, more_eq}
use Rattle.mir_renaming.proofs.Agree.{NeedsOk}
use Rattle.mir_relate.specs.Alike.{Between, Sides}
use Rattle.sroa_pass.proofs.Plans.{local_place}
use Rattle.sroa_pass.proofs.Plans.{Has, Plan, PlaceTo}
use Rattle.sroa_pass.proofs.refines.Rooms.{part_there, rows_ty, part_field, alongside}
use Rattle.sroa_pass.proofs.Fields.{Rows}
use Rattle.sroa_pass.proofs.refines.Copies.{field_of, field_read, field_there, both_true}
use Rattle.sroa_pass.proofs.refines.Nested.{walk_still, value_still, puts, puts_all, Alongside}
use Rattle.sroa_pass.proofs.refines.Whole.{exec_all}
use Rattle.sroa_pass.proofs.refines.Pieces as pieces
use Rattle.sroa_pass.proofs.refines.Pieces.{Roots}
use Rattle.sroa_pass.proofs.refines.Spots as spots

-- one assignment for each value of a list
abbrev pub gives : (ℕ → Place) → ℕ → ℕ → Value → List TypedStmt
gives qs y i (cons w ws) = assign (qs i) («use» (operand.Copy (local_place (y + i)))) ∷ gives qs y (suc i) ws
gives qs y i v = []

-- one for each type of a tuple
abbrev pub gives_by : (ℕ → Place) → ℕ → ℕ → Tree → List TypedStmt
gives_by qs y i (more t ts) = assign (qs i) («use» (operand.Copy (local_place (y + i)))) ∷ gives_by qs y (suc i) ts
gives_by qs y i t = []

module _ (D : List Shape) (G : TypeMap) (qs : ℕ → Place) (y : ℕ) where
  -- a list has as many values as its type has types: it is of the length of each list of the type
  gives_alike : (us : Tree) (i : ℕ) (v : Value) → HasTy D G us v → Rows us → gives qs y i v ≡ gives_by qs y i us
  gives_alike (more t ts) i (cons v vs) (a, as', q, h, hs) ro = let (_, same) = more_eq D G t ts a as' q in ap (λ ss. assign (qs i) («use» (operand.Copy (local_place (y + i)))) ∷ ss) (gives_alike ts (suc i) vs (subst (λ y. HasTy D G y vs) (sym same) hs) ro)
  gives_alike empty i nil h ro = refl
  gives_alike empty i (cons v vs) (a, as', q, h, hs) ro = absurd (let z : ◌≡◌ {A = Option Tree} (Some empty) (Some (more a as')) = q in grind arith)
  gives_alike empty i (number n) h ro = refl
  gives_alike empty i (variant k z) h ro = refl
  gives_alike empty i (pointer z) h ro = refl
  gives_alike empty i hole h ro = refl
  gives_alike (more t ts) i nil h ro = absurd (grind arith)
  gives_alike (more t ts) i (number n) h ro = absurd (grind arith)
  gives_alike (more t ts) i (variant k z) (a, e, h) ro = absurd (grind arith)
  gives_alike (more t ts) i (pointer z) (a, e, h) ro = absurd (grind arith)
  gives_alike (more t ts) i hole h ro = absurd (grind arith)
  gives_alike (scalar s) i v h ro = absurd ro
  gives_alike (ref t) i v h ro = absurd ro
  gives_alike (ref_mut t) i v h ro = absurd ro
  gives_alike (named d) i v h ro = absurd ro

module _ (D : List Shape) (ts1 ts2 : List Tree) (P : Plan D ts1 ts2) (x0 y0 : ℕ) (s0 : P.split x0 ≡ Some y0) (f2 f1 : ℕ) (j : Renaming) (R : Roots D ts1 ts2 P f2 f1 j) (G : TypeMap) (bok : (t : Tree) → HasTy D G t (blank D t)) (lok : (x : ℕ) (t : Tree) → slice_get ts1 x ≡ Some t → G f1 x ≡ Some t) (needs : NeedsOk D) (m2s m1s : Memory) where
  abbrev All : Between
  All = pieces.Pieces D ts1 ts2 P f2 f1 j R G bok lok needs m2s m1s

  abbrev S : Sides
  S = pieces.S D ts1 ts2 P f2 f1 j R G bok lok needs m2s m1s

  abbrev To : Place → Place → Type 0
  To = PlaceTo D ts1 ts2 P

  abbrev keeps : spots.Kept D ts1 ts2 f1 f2 j (pieces.AddrTo D ts1 ts2 P f2 f1 j R) To G bok lok All
  keeps = pieces.split_kept D ts1 ts2 P f2 f1 j R G bok lok needs m2s m1s

  abbrev H1 : Here
  H1 = S.source

  -- where the value goes, of which type, and how its fields' places stand for places of the target
  module _ (p : Place) (qs : ℕ → Place) (t us : Tree) (a : Addr) (v : Value) (plain : has_deref p.proj ≡ false) (plains : (k : ℕ) → has_deref (field_of p k).proj ≡ false) (far : a.local ≡ x0 → ⊥) (et : slice_get ts1 x0 ≡ Some t) (eu : fields_of D t ≡ Some us) (pt : AddrTy D G a t) (tys : (k : ℕ) (u : Tree) → field_ty us k ≡ Some u → type_of H1 (field_of p k) ≡ Some u) (tos : (k : ℕ) (u : Tree) → field_ty us k ≡ Some u → To (field_of p k) (qs k)) where
    -- the source could write one field
    source_does : (m : Memory) (i : ℕ) (u : Tree) (w old : Value) → read H1 m (operand.Copy (field_of (local_place x0) i)) ≡ Some (w, m) → type_of H1 (field_of p i) ≡ Some u → (resolve H1 m (field_of p i) ≡ Some (further a (Field i))) × (value_at m (further a (Field i)) ≡ Some old) → exec H1 m (assign (field_of p i) («use» (operand.Copy (field_of (local_place x0) i)))) ≡ Some (write m (further a (Field i)) w)
    unfolding exec eval dest_of store guard_of
    source_does m i u w old r ty (g1, g2) = some_bind _ r (some_bind _ (some_bind _ g1 (some_bind _ ty (ap (λ b. Some (let d : Dest = record { addr = further a (Field i); guard = if b && needs_drop D u then Some u else None } in d)) (plains i)))) (some_bind _ g2 refl))

    walk_nil : (m : Memory) → resolve H1 m (local_place x0) ≡ Some (record { frame = f1; local = x0; path = [] })
    unfolding resolve walk local_addr
    walk_nil m = refl

    value_root : (m : Memory) (v : Value) → local_at m f1 x0 ≡ Some v → value_at m (record { frame = f1; local = x0; path = [] }) ≡ Some v
    unfolding value_at
    value_root m v e = some_bind _ e refl

    part_type : (i : ℕ) (h : Has D ts1 x0 i) → operand_ty H1 (operand.Copy (field_of (local_place x0) i)) ≡ Some h.field
    unfolding operand_ty type_of place_ty
    part_type i h = some_bind _ h.is (some_bind _ (some_bind _ h.tuple h.at) refl)

    nil_end : (ps : List Proj) → ps ++ [] ≡ ps
    nil_end [] = refl
    nil_end (p ∷ ps) = ap (λ x. p ∷ x) (nil_end ps)

    abbrev Result : ℕ → Value → Memory → Memory → Type 0
    Result i ws m2 m1 = (m2' m1' : Memory) × (exec_all S.target m2 (gives qs y0 i ws) ≡ Some m2') × All m2' m1' × ((h x : ℕ) → RootOf a h x → local_at m1' h x ≡ option_map (puts a.path i ws) (local_at m1 h x)) × ((h x : ℕ) → (h ≡ a.frame → x ≡ a.local → ⊥) → local_at m1' h x ≡ local_at m1 h x)

    given_run : (ws : Value) (i : ℕ) (m2 m1 : Memory) (old : Value) → All m2 m1 → whole ws ≡ true → local_at m1 f1 x0 ≡ Some v → resolve H1 m1 p ≡ Some a → value_at m1 a ≡ Some old → ((k : ℕ) (w : Value) → part k ws ≡ Some w → (part (i + k) v ≡ Some w) × ((u : Tree) × (field_ty us (i + k) ≡ Some u))) → Result i ws m2 m1
    unfolding resolve local_addr
    given_run (cons w ws) i m2 m1 old q wh ex er ev pk =
        let i0 : i + 0 ≡ i = omega arith in
        let (pi0, (u, fu0)) = pk 0 w refl in
        let pi : part i v ≡ Some w = ap (λ n. part n v) (sym i0) ∙ pi0 in
        let fu : field_ty us i ≡ Some u = ap (field_ty us) (sym i0) ∙ fu0 in
        let (w1, w2) = both_true (whole w) (whole ws) wh in
        let hi : Has D ts1 x0 i = record { ty = t; fields = us; field = u; is = et; tuple = eu; at = fu } in
        let oty : HasTy D G t old = value_at_ty D G m1 a t old q.near.typed pt ev in
        let (o, po) = part_there D G i t us u old oty (P.solid x0 y0 s0 t et) eu fu in
        let rd : read H1 m1 (operand.Copy (field_of (local_place x0) i)) ≡ Some (w, m1) = field_read H1 m1 (local_place x0) (record { frame = f1; local = x0; path = [] }) v w i (walk_nil m1) (value_root m1 v ex) pi w1 in
        let ft = field_there H1 m1 p a old o i er ev po in
        let part_to : To (field_of (local_place x0) i) (local_place (y0 + i)) = inr (record { first = y0; field = i; split = s0; has = hi; local = refl; proj = refl }) in
        let m1b = write m1 (further a (Field i)) w in
        let (m2b, g, qb) = spots.assign_as D ts1 ts2 f1 f2 j (pieces.AddrTo D ts1 ts2 P f2 f1 j R) To G bok lok All keeps (field_of p i) (qs i) («use» (operand.Copy (field_of (local_place x0) i))) («use» (operand.Copy (local_place (y0 + i)))) (tos i u fu, (part_to, tt), (u, tys i u fu, part_type i hi)) m2 m1 m1b q (source_does m1 i u w o rd (tys i u fu) ft) in
        let exb : local_at m1b f1 x0 ≡ Some v = write_other m1 (further a (Field i)) w f1 x0 (λ c d. far (sym d)) ∙ ex in
        let erb = walk_still p.proj m1 m1b (record { frame = f1; local = p.local; path = [] }) a plain er (λ c ab z e. value_still m1 a c i w z ab e) in
        let (old', evb) = value_still m1 a a i w old ([], refl, refl, nil_end a.path) ev in
        let (m2', m1', ran, q', at, out) = given_run ws (suc i) m2b m1b old' qb w2 exb erb evb (λ k z e. next k z (pk (suc k) z e)) in (
          m2',
          m1',
          some_bind _ g ran,
          q',
          λ h x r. at h x r ∙ ap (option_map (puts a.path (suc i) ws)) (write_same m1 (further a (Field i)) w h x r) ∙ twice (puts a.path (suc i) ws) (put (a.path ++ Field i ∷ []) w) (local_at m1 h x),
          λ h x n. out h x n ∙ write_other m1 (further a (Field i)) w h x n,
        )
      where
        next : (k : ℕ) (z : Value) → (part (i + suc k) v ≡ Some z) × ((u : Tree) × (field_ty us (i + suc k) ≡ Some u)) → (part (suc i + k) v ≡ Some z) × ((u : Tree) × (field_ty us (suc i + k) ≡ Some u))
        next k z (a, (u, b)) = let s : suc i + k ≡ i + suc k = omega arith in (ap (λ n. part n v) s ∙ a, (u, ap (field_ty us) s ∙ b))

        twice : (g h : Value → Value) (o : Option Value) → option_map g (option_map h o) ≡ option_map (λ x. g (h x)) o
        twice g h None = refl
        twice g h (Some x) = refl
    given_run nil i m2 m1 old q wh ex er ev pk = (m2, m1, refl, q, λ h x r. sym (stays (local_at m1 h x)), λ h x n. refl)
      where
        stays : (o : Option Value) → option_map (puts a.path i nil) o ≡ o
        stays None = refl
        stays (Some x) = refl
    given_run (number n) i m2 m1 old q wh ex er ev pk = (m2, m1, refl, q, λ h x r. sym (stays (local_at m1 h x)), λ h x n. refl)
      where
        stays : (o : Option Value) → option_map (puts a.path i (number n)) o ≡ o
        stays None = refl
        stays (Some x) = refl
    given_run (variant n z) i m2 m1 old q wh ex er ev pk = (m2, m1, refl, q, λ h x r. sym (stays (local_at m1 h x)), λ h x n. refl)
      where
        stays : (o : Option Value) → option_map (puts a.path i (variant n z)) o ≡ o
        stays None = refl
        stays (Some x) = refl
    given_run (pointer z) i m2 m1 old q wh ex er ev pk = (m2, m1, refl, q, λ h x r. sym (stays (local_at m1 h x)), λ h x n. refl)
      where
        stays : (o : Option Value) → option_map (puts a.path i (pointer z)) o ≡ o
        stays None = refl
        stays (Some x) = refl
    given_run hole i m2 m1 old q wh ex er ev pk = (m2, m1, refl, q, λ h x r. sym (stays (local_at m1 h x)), λ h x n. refl)
      where
        stays : (o : Option Value) → option_map (puts a.path i hole) o ≡ o
        stays None = refl
        stays (Some x) = refl

    -- the whole of it
    pub given_does : (m1 : Memory) (old : Value) (u us' : Tree) → m1 ≡ m1s → All m2s m1 → us ≡ more u us' → Rows us → whole v ≡ true → HasTy D G t v → local_at m1 f1 x0 ≡ Some v → resolve H1 m1 p ≡ Some a → value_at m1 a ≡ Some old → (m2' : Memory) × (exec_all S.target m2s (gives_by qs y0 0 us) ≡ Some m2') × All m2' (write m1 a v)
    unfolding value_at
    given_does m1 old u us' first q mu ro wh ty ex er ev =
        let solid = P.solid x0 y0 s0 t et in
        let vty = rows_ty D G t us v ty solid eu u us' mu in
        let oty = rows_ty D G t us old (value_at_ty D G m1 a t old q.near.typed pt ev) solid eu u us' mu in
        let along = alongside D G us v old vty oty ro in
        let (m2', m1', ran, q', at, out) = given_run v 0 m2s m1 old q wh ex er ev (λ k w e. (let z : 0 + k ≡ k = omega arith in let (u, f) = part_field D G k us v w vty ro e in (ap (λ n. part n v) z ∙ e, (u, ap (field_ty us) z ∙ f)))) in
        (m2', ap (exec_all S.target m2s) (sym (gives_alike D G qs y0 us 0 v vty ro)) ∙ ran, pieces.pieces_same D ts1 ts2 P f2 f1 j R G bok lok needs m2s m1s m2' m1' (write m1 a v) (λ h x. same h x m1' at out along ev (root_or_not a h x)) q')
      where
        there : (o : Option Value) → (o >>= at_path a.path) ≡ Some old → Alongside v old → option_map (put a.path v) o ≡ option_map (puts a.path 0 v) o
        there None e al = refl
        there (Some o) e al = ap (λ z. Some z) (sym (puts_all a.path v o old (some_there o e) al))
          where
            some_there : (o : Value) → (Some o >>= at_path a.path) ≡ Some old → at_path a.path o ≡ Some old
            some_there o e = let (z, e1, e2) = bind_some e in ap (at_path a.path) (let k : o ≡ z = grind arith in k) ∙ e2

        same : (h x : ℕ) (m1' : Memory) → ((h x : ℕ) → RootOf a h x → local_at m1' h x ≡ option_map (puts a.path 0 v) (local_at m1 h x)) → ((h x : ℕ) → (h ≡ a.frame → x ≡ a.local → ⊥) → local_at m1' h x ≡ local_at m1 h x) → Alongside v old → (local_at m1 a.frame a.local >>= at_path a.path) ≡ Some old → RootOf a h x ⊎ (h ≡ a.frame → x ≡ a.local → ⊥) → local_at (write m1 a v) h x ≡ local_at m1' h x
        same h x m1' at out al e (inl r) = write_same m1 a v h x r ∙ there (local_at m1 h x) (ap₂ (λ h x. local_at m1 h x >>= at_path a.path) r.0 r.1 ∙ e) al ∙ sym (at h x r)
        same h x m1' at out al e (inr n) = write_other m1 a v h x n ∙ sym (out h x n)
