-- Places of a local that nobody has lent: at its home stands something wherever the source has something there.
use Rattle.std.proofs.Common.{◌≡◌, ◌⊎◌, inl, inr, refl, sym, ap, ◌∙◌, ℕ, true, false, List, [], ◌∷◌, Some}
use Rattle.mir_syntax.specs.declared.body.Proj.{Proj}
use Rattle.mir_syntax.specs.declared.body.Place.{Place}
use Rattle.mir_syntax.specs.Tree.{Tree}
use Rattle.mir_syntax.specs.Shapes.{Shape, place_ty}
use Rattle.mir_syntax.specs.Parts.{is_direct, has_deref}
use Rattle.mir_syntax.proofs.Binds.{bind_some, some_bind}
use Rattle.mir_semantics.specs.Values.{Addr, Value}
use Rattle.mir_semantics.specs.Memory.{Memory, value_at}
use Rattle.mir_semantics.specs.Step.{Here, State, local_addr, resolve, type_of, dest_of}
use Rattle.mir_renaming.specs.Places.{is_nil}
use Rattle.mir_renaming.proofs.Memory.{value_at_rel}
use Rattle.mir_relate.specs.Frames.{Change}
use Rattle.mir_relate.specs.Pass.{Valids}
use Rattle.mir_relate.proofs.Single.{plain_at, dest_there, resolve_whole}
use Rattle.dest_prop.specs.Merged.{home_of, is_shared, place_home, merged_by}
use Rattle.dest_prop.proofs.refines.Fills.{path_there}
use Rattle.dest_prop.proofs.refines.Housed.{homed_at}
use Rattle.dest_prop.proofs.refines.Walks.{walk_value, walk_there}
use Rattle.dest_prop.proofs.refines.Moment as moment
use Rattle.dest_prop.proofs.refines.Moment.{Moment}

pub nil_or : (ps : List Proj) → (ps ≡ []) ⊎ (is_nil ps ≡ false)
nil_or [] = inl refl
nil_or (p ∷ ps) = inr refl

module _ {X : Change} {once : X.body2 ≡ merged_by (is_shared X.body1 (home_of X.source.shapes X.body1)) (home_of X.source.shapes X.body1) X.body1} {V : Valids X} {Inv : State → Type 0} (now : Moment X once V Inv) where
  open now use {s2, s1, r, lives, r.{core.{lent as j}, typed1.{types as G}}, s2.{top.{frame as f2}}, s1.{top.{frame as f1}}, lives.{set as a}}

  abbrev D : List Shape
  D = X.source.shapes

  abbrev home : ℕ → ℕ
  home = home_of X.source.shapes X.body1

  abbrev Q : Memory → Memory → Type 0
  Q = moment.Q now

  abbrev H1 : Here
  H1 = moment.H1 now

  abbrev H2 : Here
  H2 = moment.H2 now

  -- a local that lives, or a direct path
  abbrev pub Reached : Place → Type 0
  Reached p = (a p.local ≡ true) ⊎ (is_direct p.proj ≡ true)

  pub stands : (p : Place) (t : Tree) → moment.lent now p.local ≡ false → type_of H1 p ≡ Some t → Reached p → (m2 m1 : Memory) (o : Value) → Q m2 m1 → value_at m1 (moment.own1 now p.local p.proj) ≡ Some o → (w : Value) × (value_at m2 (moment.own2 now p.local p.proj) ≡ Some w)
  unfolding value_at type_of place_ty
  stands p t nl pt (inl ax) m2 m1 o q e = (let (w, g, rel) = value_at_rel j (moment.L now) m2 m1 (moment.mem now m2 m1 q) (moment.own1 now p.local p.proj) (moment.own2 now p.local p.proj) (record { root = homed_at j f2 f1 home (moment.pl now) (moment.hs now) a p.local ax; path = refl }) o e in (w, g))
  stands p t nl pt (inr d) m2 m1 o q e =
      let (t0, et, e2) = bind_some pt in
      let (v, e1, k1) = bind_some e in
      let (w, g, fl) = q.holds.room p.local v (moment.unlent_at now p.local nl) e1 in
      let hv = q.typed.at f1 p.local t0 v (moment.lok now p.local t0 et) e1 in
      let hw = q.typed2.at f2 (home p.local) t0 w (moment.lok2 now (home p.local) t0 (sym (moment.types_home now p.local) ∙ et)) g in
      let (x, k) = path_there D G r.typed2.types t0 p.proj v w o hv hw fl d k1 in
      (x, some_bind _ g k)

  direct_leads : (p : Place) (t : Tree) → moment.lent now p.local ≡ false → has_deref p.proj ≡ false → type_of H1 p ≡ Some t → is_direct p.proj ≡ true → is_nil p.proj ≡ false → (m2 m1 : Memory) (b1 : Addr) → Q m2 m1 → resolve H1 m1 p ≡ Some b1 → (c : Addr) × (resolve H2 m2 (place_home home p) ≡ Some c)
  unfolding resolve value_at local_addr
  direct_leads p t nl nd pt d nn m2 m1 b1 q e =
      let is = moment.plain now m1 p b1 nd e in
      let (u, ev) = walk_value p.proj m1 (record { frame = f1; local = p.local; path = [] }) b1 nn nd e in
      let (w, k) = stands p t nl pt (inr d) m2 m1 u q (ap (value_at m1) (sym is) ∙ ev) in
      let (v, k1, k2) = bind_some k in
      walk_there p.proj m2 (record { frame = f2; local = home p.local; path = [] }) v w d (some_bind _ k1 refl) k2

  -- so the place leads there
  pub leads : (p : Place) (t : Tree) → moment.lent now p.local ≡ false → has_deref p.proj ≡ false → type_of H1 p ≡ Some t → Reached p → (m2 m1 : Memory) (b1 : Addr) → Q m2 m1 → resolve H1 m1 p ≡ Some b1 → dest_of H2 m2 (place_home home p) ≡ Some (plain_at H2 (place_home home p))
  leads p t nl nd pt reach m2 m1 b1 q e = go reach (nil_or p.proj)
    where
      made : (c : Addr) → resolve H2 m2 (place_home home p) ≡ Some c → dest_of H2 m2 (place_home home p) ≡ Some (plain_at H2 (place_home home p))
      made c g = dest_there H2 m2 (place_home home p) t c nd (moment.ty_home now p ∙ pt) g

      go : Reached p → (p.proj ≡ []) ⊎ (is_nil p.proj ≡ false) → dest_of H2 m2 (place_home home p) ≡ Some (plain_at H2 (place_home home p))
      go (inl ax) o = (let (c, g, ab) = moment.resolved now m2 m1 p b1 (moment.at now p.local (inr ax)) q e in made c g)
      go (inr d) (inl nil) = made (record { frame = H2.frame; local = home p.local; path = [] }) (resolve_whole H2 m2 (place_home home p) nil)
      go (inr d) (inr nn) = (let (c, g) = direct_leads p t nl nd pt d nn m2 m1 b1 q e in made c g)
