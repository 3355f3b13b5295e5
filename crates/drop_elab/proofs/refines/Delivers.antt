-- A result comes to a place for a frame of the source: the units at or under the place begin, and all locals stay loose.
use Rattle.std.proofs.Common.{◌≡◌, ◌⊎◌, inl, inr, refl, sym, ap, ap₂, ◌∙◌, subst, ℕ, ◌+◌, Bool, true, false, not, nat_eq, ◌&&◌, if◌then◌else◌, List, [], length, Some, None, slice_get, option_map, arith}
use Rattle.std.proofs.lemmas.List.{append-nil}
use Rattle.std.proofs.lemmas.Bool.{eqb-true}
use Rattle.mir_syntax.specs.declared.body.Place.{Place}
use Rattle.mir_syntax.specs.declared.body.Proj.{Proj}
use Rattle.mir_syntax.specs.Tree.{Tree}
use Rattle.mir_syntax.specs.Parts.{has_deref}
use Rattle.mir_syntax.specs.Shapes.{Shape, path_ty, place_ty, needs_drop}
use Rattle.mir_rules.specs.DefinitionRules.{holds}
use Rattle.mir_rules.specs.Weights.{units}
use Rattle.mir_semantics.specs.Values.{Addr, Value, put, at_path, whole}
use Rattle.mir_semantics.specs.Memory.{Memory, local_at, value_at, write}
use Rattle.mir_semantics.specs.Step.{Dest, allows, store}
use Rattle.mir_renaming.specs.Renaming.{RootOf}
use Rattle.mir_syntax.proofs.Binds.{bind_some, some_bind}
use Rattle.mir_renaming.proofs.Memory.{root_or_not, write_same, write_other}
use Rattle.mir_renaming.proofs.Statements.{only_true}
use Rattle.mir_renaming.proofs.Types.{TypeMap, HasTy, MemTy, at_path_ty}
use Rattle.mir_renaming.proofs.Frames.{equal}
use Rattle.move_paths.specs.Effects.{goes_on, is_under}
use Rattle.move_paths.specs.Inits.{after_effect}
use Rattle.drop_elab.specs.Elab.{Inits}
use Rattle.mir_relate.specs.Frames.{Change}
use Rattle.mir_relate.proofs.Leaves.{some_val}
use Rattle.drop_elab.proofs.refines.Items.{Proper, ProperShapes}
use Rattle.drop_elab.proofs.refines.Propers.{there_proper}
use Rattle.drop_elab.proofs.refines.Sound.{Has}
use Rattle.drop_elab.proofs.refines.Puts.{Fields, hole_at, put_under, put_beside}
use Rattle.drop_elab.proofs.refines.Kept.{units_fields, kept_by_typed, begun_by_whole}
use Rattle.drop_elab.proofs.refines.Deep.{Loose, put_loose, whole_deep}
use Rattle.drop_elab.proofs.refines.Held.{unit_hole, write_elsewhere}
use Rattle.drop_elab.proofs.refines.Solid.{unit_of_local}
use Rattle.drop_elab.proofs.refines.Ended.{goes_parts, goes_back}
use Rattle.drop_elab.proofs.refines.Changes.{indirect_not, deref_indirect}
use Rattle.drop_elab.proofs.refines.Stand as stand
use Rattle.drop_elab.proofs.refines.Stand.{held_in, held}

put_there : (ps : List Proj) (w o old : Value) → at_path ps o ≡ Some old → at_path ps (put ps w o) ≡ Some w
put_there ps w o old e = ap (λ qs. at_path qs (put ps w o)) (sym (append-nil ps)) ∙ put_under ps [] w o old e

module _ (X : Change) (inits : Inits) (apart : (d : ℕ) → holds X.source.shapes (length X.source.shapes) d d ≡ false) (proper : ProperShapes X.source.shapes) (proper_locals : (x : ℕ) (t : Tree) → slice_get X.body1.locals x ≡ Some t → Proper t) where
  abbrev D : List Shape
  D = X.source.shapes

  abbrev us : List Place
  us = stand.us X inits apart proper

  pub of_unit : (u : Place) → Has us u → (lt : Tree) × (slice_get X.body1.locals u.local ≡ Some lt) × Proper lt × Has (units D lt) u.proj
  of_unit u hu =
      let (y, lt, ul, el, hp) = unit_of_local D 0 X.body1.locals u hu in
      let z : y ≡ u.local = sym (ul ∙ (let z : 0 + y ≡ y = omega arith in z)) in
      let el' : slice_get X.body1.locals u.local ≡ Some lt = subst (λ y. slice_get X.body1.locals y ≡ Some lt) z el in
      (lt, el', proper_locals u.local lt el', hp)

  -- what is known of a place of a frame to which a result goes
  pub record Aimed (f : ℕ) (place : Place) (d : Dest) : Type 0 where
    pub direct : has_deref place.proj ≡ false → d.addr ≡ stand.addr_at X inits apart proper f place
    pub through : (lt : Tree) → has_deref place.proj ≡ true → d.addr.frame ≡ f → slice_get X.body1.locals d.addr.local ≡ Some lt → (t : Tree) × (path_ty X.source.shapes lt d.addr.path ≡ Some t) × (needs_drop X.source.shapes t ≡ true → d.guard ≡ Some t)

  module _ (f : ℕ) (m m' : Memory) (place : Place) (t : Tree) (pt : place_ty X.source.shapes X.body1.locals place ≡ Some t) (d : Dest) (v : Value) (wh : whole v ≡ true) (aimed : Aimed f place d) (e : store X.source.shapes m d v ≡ Some m') where
    stored : (old : Value) × (o : Value) × (local_at m d.addr.frame d.addr.local ≡ Some o) × (at_path d.addr.path o ≡ Some old) × (allows X.source.shapes d.guard old ≡ true) × (write m d.addr v ≡ m')
    unfolding store value_at
    stored =
        let (old, e1, k1) = bind_some e in
        let (o, f1, f2) = bind_some e1 in
        let (ok, same) = only_true (allows D d.guard old) (write m d.addr v) m' k1 in
        (old, o, f1, f2, ok, same)

    place_at : (b : Bool) → has_deref place.proj ≡ b → (lt : Tree) → d.addr.frame ≡ f → slice_get X.body1.locals d.addr.local ≡ Some lt → (tp : Tree) × (path_ty X.source.shapes lt d.addr.path ≡ Some tp)
    unfolding place_ty
    place_at true h lt fr el = let (tp, p, g) = aimed.through lt h fr el in (tp, p)
    place_at false h lt fr el =
        let (l, e1, e2) = bind_some pt in
        let z = aimed.direct h in
        let same : l ≡ lt = some_val (sym e1 ∙ ap (λ (a : Addr). slice_get X.body1.locals a.local) (sym z) ∙ el) in
        (t, subst (λ l. path_ty X.source.shapes l d.addr.path ≡ Some t) same (subst (λ (a : Addr). path_ty X.source.shapes l a.path ≡ Some t) (sym z) e2))

    -- the locals are there and loose
    pub loose_after : ((x : ℕ) (t : Tree) → slice_get X.body1.locals x ≡ Some t → (w : Value) × (local_at m f x ≡ Some w) × Loose X.source.shapes t w) → (x : ℕ) (t : Tree) → slice_get X.body1.locals x ≡ Some t → (w : Value) × (local_at m' f x ≡ Some w) × Loose X.source.shapes t w
    loose_after h x lt el = go (root_or_not d.addr f x)
      where
        go : RootOf d.addr f x ⊎ (f ≡ d.addr.frame → x ≡ d.addr.local → ⊥) → (w : Value) × (local_at m' f x ≡ Some w) × Loose X.source.shapes lt w
        go (inr n) = let (old, o, e1, e2, ok, same) = stored in let (w, ew, lo) = h x lt el in (w, ap (λ m. local_at m f x) (sym same) ∙ write_other m d.addr v f x n ∙ ew, lo)
        go (inl r) =
            let (old, o, e1, e2, ok, same) = stored in
            let (w, ew, lo) = h x lt el in
            let (tp, pp) = place_at (has_deref place.proj) refl lt (sym r.0) (ap (slice_get X.body1.locals) (sym r.1) ∙ el) in
            (put d.addr.path v w, ap (λ m. local_at m f x) (sym same) ∙ write_same m d.addr v f x r ∙ ap (option_map (put d.addr.path v)) ew, put_loose D d.addr.path lt tp v w (whole_deep D v tp wh) lo pp)

    twice : (b : Bool) → not (not b) ≡ b
    twice true = refl
    twice false = refl

    no_and : (b : Bool) → (b && false) ≡ false
    no_and true = refl
    no_and false = refl

    -- and the units at or under the place have begun
    pub held_after : (G0 G : TypeMap) → MemTy X.source.shapes G0 m → ((x : ℕ) (t : Tree) → slice_get X.body1.locals x ≡ Some t → G0 f x ≡ Some t) → MemTy X.source.shapes G m' → ((x : ℕ) (t : Tree) → slice_get X.body1.locals x ≡ Some t → G f x ≡ Some t) → (u : Place) → Has us u → held m' f u ≡ after_effect (if is_under place u then Some true else None) (held m f u)
    unfolding place_ty
    held_after G0 G mt0 lok0 mt lok u hu =
        let (lt, el, pr, hp) = of_unit u hu in
        go lt el pr hp (root_or_not d.addr f u.local) (has_deref place.proj) refl
      where
        fields : Fields u.proj
        fields = let (lt, el, pr, hp) = of_unit u hu in units_fields D apart proper u.proj lt pr hp

        not_under : has_deref place.proj ≡ true → is_under place u ≡ false
        not_under h = ap (λ b. nat_eq place.local u.local && b) (indirect_not place.proj u.proj fields (deref_indirect place.proj h)) ∙ no_and (nat_eq place.local u.local)

        same_held : is_under place u ≡ false → unit_hole m' f u.local u.proj ≡ unit_hole m f u.local u.proj → held m' f u ≡ after_effect (if is_under place u then Some true else None) (held m f u)
        same_held n q = ap held_in q ∙ ap (λ b. after_effect (if b then Some true else None) (held m f u)) (sym n)

        typed_local : (lt : Tree) (o : Value) → slice_get X.body1.locals u.local ≡ Some lt → RootOf d.addr f u.local → local_at m' f u.local ≡ Some o → HasTy X.source.shapes G lt o
        typed_local lt o el r q = mt.at f u.local lt o (lok u.local lt el) q

        go : (lt : Tree) → slice_get X.body1.locals u.local ≡ Some lt → Proper lt → Has (units X.source.shapes lt) u.proj → RootOf d.addr f u.local ⊎ (f ≡ d.addr.frame → u.local ≡ d.addr.local → ⊥) → (b : Bool) → has_deref place.proj ≡ b → held m' f u ≡ after_effect (if is_under place u then Some true else None) (held m f u)
        go lt el pr hp (inr n) b hd =
            let (old, o, e1, e2, ok, same) = stored in
            same_held (apart_from b hd) (ap (λ m. unit_hole m f u.local u.proj) (sym same) ∙ write_elsewhere X.source.shapes apart proper G m d.addr v f u.local u.proj n)
          where
            apart_from : (b : Bool) → has_deref place.proj ≡ b → is_under place u ≡ false
            apart_from true h = not_under h
            apart_from false h = by (nat_eq place.local u.local) refl
              where
                by : (c : Bool) → nat_eq place.local u.local ≡ c → is_under place u ≡ false
                by false q = ap (λ c. c && goes_on place.proj u.proj) q
                by true q = absurd (let z = aimed.direct h in n (ap (λ (a : Addr). a.frame) (sym z)) (sym (eqb-true place.local u.local q) ∙ ap (λ (a : Addr). a.local) (sym z)))
        go lt el pr hp (inl r) true hd =
            let (old, o, e1, e2, ok, same) = stored in
            let el' : slice_get X.body1.locals d.addr.local ≡ Some lt = ap (slice_get X.body1.locals) (sym r.1) ∙ el in
            let (tp, pp, guard) = aimed.through lt hd (sym r.0) el' in
            let here : local_at m f u.local ≡ Some o = ap₂ (local_at m) r.0 r.1 ∙ e1 in
            let now : local_at m' f u.local ≡ Some (put d.addr.path v o) = ap (λ m. local_at m f u.local) (sym same) ∙ write_same m d.addr v f u.local r ∙ ap (option_map (put d.addr.path v)) here in
            let tv : HasTy D G tp v = at_path_ty D G d.addr.path lt tp (put d.addr.path v o) v (typed_local lt (put d.addr.path v o) el r now) pp (put_there d.addr.path v o old e2) in
            let told : HasTy D G0 tp old = at_path_ty D G0 d.addr.path lt tp o old (mt0.at f u.local lt o (lok0 u.local lt el) here) pp e2 in
            same_held (not_under hd) (some_bind (hole_at u.proj) {o = local_at m' f u.local} now refl ∙ kept_by_typed D apart proper G0 G u.proj d.addr.path lt tp o old v pr hp pp tv e2 (λ n. (subst (λ q. allows D q old ≡ true) (guard n) ok, wh, told)) ∙ sym (some_bind (hole_at u.proj) {o = local_at m f u.local} here refl))
        go lt el pr hp (inl r) false hd =
            let (old, o, e1, e2, ok, same) = stored in
            let z = aimed.direct hd in
            let zl : u.local ≡ place.local = r.1 ∙ ap (λ (a : Addr). a.local) z in
            let zp : d.addr.path ≡ place.proj = ap (λ (a : Addr). a.path) z in
            let (l, p1, p2) = bind_some pt in
            let sl : l ≡ lt = some_val (sym p1 ∙ ap (slice_get X.body1.locals) (sym zl) ∙ el) in
            let pp : path_ty D lt place.proj ≡ Some t = subst (λ l. path_ty D l place.proj ≡ Some t) sl p2 in
            let here : local_at m f u.local ≡ Some o = ap₂ (local_at m) r.0 r.1 ∙ e1 in
            let e2' : at_path place.proj o ≡ Some old = subst (λ ps. at_path ps o ≡ Some old) zp e2 in
            let now : local_at m' f u.local ≡ Some (put place.proj v o) = ap (λ m. local_at m f u.local) (sym same) ∙ write_same m d.addr v f u.local r ∙ ap (option_map (put d.addr.path v)) here ∙ ap (λ ps. Some (put ps v o)) zp in
            let tv : HasTy D G t v = at_path_ty D G place.proj lt t (put place.proj v o) v (typed_local lt (put place.proj v o) el r now) pp (put_there place.proj v o old e2') in
            let prt : Proper t = there_proper D proper place.proj lt t o old pr pp e2' in
            by o old e2' here now pp tv prt (goes_on place.proj u.proj) refl (sym zl)
          where
            by : (o old : Value) → at_path place.proj o ≡ Some old → local_at m f u.local ≡ Some o → local_at m' f u.local ≡ Some (put place.proj v o) → path_ty X.source.shapes lt place.proj ≡ Some t → HasTy X.source.shapes G t v → Proper t → (c : Bool) → goes_on place.proj u.proj ≡ c → place.local ≡ u.local → held m' f u ≡ after_effect (if is_under place u then Some true else None) (held m f u)
            by o old e2 here now pp tv prt true q zl =
                let (rest, eu) = goes_parts place.proj u.proj q in
                let under : is_under place u ≡ true = ap₂ (λ a b. a && b) (equal place.local u.local zl) q in
                ap held_in (some_bind (hole_at u.proj) {o = local_at m' f u.local} now refl ∙ begun_by_whole D apart proper G u.proj place.proj rest lt t o old v pr hp eu pp prt tv wh e2) ∙ ap (λ b. after_effect (if b then Some true else None) (held m f u)) (sym under)
            by o old e2 here now pp tv prt false q zl =
                let under : is_under place u ≡ false = ap (λ b. nat_eq place.local u.local && b) q ∙ no_and (nat_eq place.local u.local) in
                same_held under (some_bind (hole_at u.proj) {o = local_at m' f u.local} now refl ∙ put_beside place.proj u.proj v o fields (λ a. absurd (let z : true ≡ false = sym (ap (goes_on place.proj) a.1 ∙ goes_back place.proj a.0 (subst Fields a.1 fields)) ∙ q in grind arith)) ∙ sym (some_bind (hole_at u.proj) {o = local_at m f u.local} here refl))
