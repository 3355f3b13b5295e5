-- What both frames read: the same operands, where a move out of a shared local is a copy now.
use Rattle.std.proofs.Common.{◌≡◌, ◌⊎◌, inl, inr, refl, sym, ap, ◌∙◌, subst, ℕ, Bool, true, false, if◌then◌else◌, List, [], ◌∷◌, map, Some, arith}
use Rattle.mir_syntax.specs.declared.body.Place.{Place}
use Rattle.mir_syntax.specs.declared.body.Const.{Const}
use Rattle.mir_syntax.specs.declared.body.Operand.{Operand}
use Rattle.mir_syntax.specs.declared.body.Operand.TheVariants as operand
use Rattle.mir_syntax.specs.Tree.{Tree}
use Rattle.mir_syntax.specs.Shapes.{Shape}
use Rattle.mir_syntax.specs.Crate.{TypedRvalue, «use», binary, overflow, unary, cast, discriminant, tuple, build}
use Rattle.mir_syntax.specs.Crate as rvalue
use Rattle.mir_syntax.specs.Parts.{has_deref}
use Rattle.mir_syntax.proofs.Binds.{bind_some, some_bind}
use Rattle.mir_semantics.specs.Values.{Addr, Value, blank}
use Rattle.mir_semantics.specs.Memory.{Memory, value_at, write}
use Rattle.mir_semantics.specs.Step.{Here, Dest, State, resolve, type_of, guard_of, dest_of, const_value, read, scalar_ty_of, operand_ty}
use Rattle.mir_renaming.specs.Renaming.{AddrRel}
use Rattle.mir_renaming.proofs.Memory.{value_at_rel}
use Rattle.mir_renaming.proofs.Statements as text
use Rattle.mir_renaming.proofs.Statements.{DestRel, const_rel, blank_rel}
use Rattle.mir_renaming.proofs.Types.{AddrTy, HasTy, resolve_ty, value_at_ty, blank_any}
use Rattle.mir_renaming.proofs.Agree.{tight_self, whole_tight}
use Rattle.mir_renaming.proofs.Among.{OkOperand, OkOperands, OkRvalue}
use Rattle.mir_relate.specs.Alike.{Sides, Same, Reads, AllRead, Likewise, Evals, Got}
use Rattle.mir_relate.specs.Frames.{Change}
use Rattle.mir_relate.specs.Pass.{Valids, MoveOk, AllMoves, RvalueMoves}
use Rattle.mir_relate.proofs.Alike.{got_at, likewise}
use Rattle.mir_relate.proofs.Leaves.{some_val}
use Rattle.mir_relate.proofs.Operands.{Clears, copied, copied_for_move}
use Rattle.mir_relate.proofs.Wholes.{read_at_whole}
use Rattle.dest_prop.specs.Merged.{home_of, is_shared, place_home, operand_home, rvalue_home, merged_by}
use Rattle.dest_prop.proofs.Homes.{unlent}
use Rattle.dest_prop.proofs.refines.Moment as moment
use Rattle.dest_prop.proofs.refines.Moment.{Moment, Known}

module _ {X : Change} {once : X.body2 ≡ merged_by (is_shared X.body1 (home_of X.source.shapes X.body1)) (home_of X.source.shapes X.body1) X.body1} {V : Valids X} {Inv : State → Type 0} (now : Moment X once V Inv) where
  open now use {s2, s1, r, lives, r.{core.{lent as j}, typed1.{types as G}}, s2.{top.{frame as f2}}, s1.{top.{frame as f1}}, lives.{set as a}}

  abbrev D : List Shape
  D = X.source.shapes

  abbrev ts1 : List Tree
  ts1 = X.body1.locals

  abbrev ts2 : List Tree
  ts2 = X.body2.locals

  abbrev home : ℕ → ℕ
  home = home_of X.source.shapes X.body1

  abbrev shared : ℕ → Bool
  shared = is_shared X.body1 (home_of X.source.shapes X.body1)

  abbrev Q : Memory → Memory → Type 0
  Q = moment.Q now

  abbrev S : Sides
  S = moment.S now

  abbrev H1 : Here
  H1 = moment.H1 now

  abbrev H2 : Here
  H2 = moment.H2 now

  abbrev bok : (t : Tree) → HasTy D G t (blank D t)
  bok = V.valid1.blank_ok G

  pub addr_ty : (m2 m1 : Memory) (p : Place) (b1 : Addr) (t : Tree) → Q m2 m1 → type_of H1 p ≡ Some t → resolve H1 m1 p ≡ Some b1 → AddrTy D G b1 t
  addr_ty m2 m1 p b1 t q et e = resolve_ty D G bok ts1 f1 (moment.lok now) m1 p b1 t q.typed et e

  pub addr_ty2 : (m2 m1 : Memory) (p : Place) (b2 : Addr) (t : Tree) → Q m2 m1 → type_of H1 p ≡ Some t → resolve H2 m2 (place_home home p) ≡ Some b2 → AddrTy D r.typed2.types b2 t
  addr_ty2 m2 m1 p b2 t q et e = resolve_ty D r.typed2.types (V.valid2.blank_ok r.typed2.types) ts2 f2 (moment.lok2 now) m2 (place_home home p) b2 t q.typed2 (moment.ty_home now p ∙ et) e

  -- ---- moves

  -- out of a place, by the source alone
  pub clears : (p : Place) → moment.Alive now p.local → shared p.local ≡ true → MoveOk H1 (operand.Move p) → Clears S Q p
  clears p al sh ok = record { clears = λ m2 m1 b1 t v q e et ev. go m2 m1 b1 t v q e et ev (has_deref p.proj) refl }
    where
      ax : moment.Alive now p.local → lives.set p.local ≡ true
      ax (inl l) = absurd (let z : true ≡ false = sym l ∙ unlent X.source.shapes X.body1 p.local sh in grind arith)
      ax (inr h) = h

      go : (m2 m1 : Memory) (b1 : Addr) (t : Tree) (v : Value) → Q m2 m1 → resolve H1 m1 p ≡ Some b1 → type_of H1 p ≡ Some t → value_at m1 b1 ≡ Some v → (b : Bool) → has_deref p.proj ≡ b → Q m2 (write m1 b1 (blank X.source.shapes t))
      go m2 m1 b1 t v q e et ev true d =
          let (b2, g, ab) = moment.behind now m2 m1 p b1 (moment.at now p.local al) d q e in
          let ty = addr_ty m2 m1 p b1 t q et e in
          let (w, ew, rel) = value_at_rel r.core.lent r.core.lent m2 m1 q.linked.mem b1 b2 ab v ev in
          moment.alone_lent now m2 m1 b1 b2 t (blank X.source.shapes t) w v q ab ty (ok d t et) ev ew (V.valid1.blank_ok r.typed1.types t) (blank_any X.source.shapes r.typed1.types r.core.lent t v w (value_at_ty X.source.shapes r.typed1.types m1 b1 t v q.typed ty ev) rel)
      go m2 m1 b1 t v q e et ev false d =
          let is = moment.plain now m1 p b1 d e in
          let ty = subst (λ b. AddrTy X.source.shapes r.typed1.types b t) is (addr_ty m2 m1 p b1 t q et e) in
          subst (λ b. Q m2 (write m1 b (blank X.source.shapes t))) (sym is) (moment.alone_own now m2 m1 p.local p.proj t v (unlent X.source.shapes X.body1 p.local sh) (ax al) q ty (ap (value_at m1) (sym is) ∙ ev))

  -- out of one, by both
  both_clear : (p : Place) → moment.Alive now p.local → shared p.local ≡ false → (m2 m1 : Memory) (b1 b2 : Addr) (t : Tree) (v : Value) → Q m2 m1 → resolve H1 m1 p ≡ Some b1 → resolve H2 m2 (place_home home p) ≡ Some b2 → type_of H1 p ≡ Some t → value_at m1 b1 ≡ Some v → Q (write m2 b2 (blank D t)) (write m1 b1 (blank D t))
  both_clear p al ns m2 m1 b1 b2 t v q e1 e2 et ev = go (moment.far_or_own now p (moment.at now p.local al))
    where
      go : moment.Far now p ⊎ ((moment.lent now p.local ≡ false) × (has_deref p.proj ≡ false)) → Q (write m2 b2 (blank X.source.shapes t)) (write m1 b1 (blank X.source.shapes t))
      go (inl far) =
          let (c, g, ab) = moment.far_resolved now m2 m1 p b1 far q e1 in
          let same : c ≡ b2 = some_val (sym g ∙ e2) in
          moment.both_lent now m2 m1 b1 b2 t (blank X.source.shapes t) (blank X.source.shapes t) v q (subst (λ c. AddrRel r.core.lent b1 c) same ab) (addr_ty m2 m1 p b1 t q et e1) ev (V.valid1.blank_ok r.typed1.types t) (addr_ty2 m2 m1 p b2 t q et e2) (V.valid2.blank_ok r.typed2.types t) (blank_rel r.core.lent X.source.shapes t, tight_self (blank X.source.shapes t))
      go (inr (nl, d)) =
          let is1 = moment.plain now m1 p b1 d e1 in
          let is2 = moment.plain2 now m2 p b2 d e2 in
          let ty = subst (λ b. AddrTy X.source.shapes r.typed1.types b t) is1 (addr_ty m2 m1 p b1 t q et e1) in
          subst (λ b. Q (write m2 b2 (blank X.source.shapes t)) (write m1 b (blank X.source.shapes t))) (sym is1) (subst (λ b. Q (write m2 b (blank X.source.shapes t)) (write m1 (moment.own1 now p.local p.proj) (blank X.source.shapes t))) (sym is2) (moment.both_own now m2 m1 p.local p.proj t (blank X.source.shapes t) (blank X.source.shapes t) nl ns q ty (V.valid1.blank_ok r.typed1.types t) (subst (λ b. AddrTy X.source.shapes r.typed2.types b t) is2 (addr_ty2 m2 m1 p b2 t q et e2)) (V.valid2.blank_ok r.typed2.types t) (blank_rel r.core.lent X.source.shapes t)))

  move_read : (p : Place) → moment.Alive now p.local → shared p.local ≡ false → (m2 m1 : Memory) (x : Value × Memory) → Q m2 m1 → read H1 m1 (operand.Move p) ≡ Some x → Got (Same j) Q x (read H2 m2 (operand.Move (place_home home p)))
  unfolding read
  move_read p al ns m2 m1 x q e =
      let (b1, e1, k1) = bind_some e in
      let (v, e2, k2) = bind_some k1 in
      let (t, e3, k3) = bind_some k2 in
      let (b2, g1, ab) = moment.resolved now m2 m1 p b1 (moment.at now p.local al) q e1 in
      let ((w, g2, rel), ev) = text.read_at_rel D ts1 ts2 f1 f2 j (moment.L now) (moment.low now) m2 m1 b1 b2 v ab (moment.mem now m2 m1 q) e2 in
      let q' = both_clear p al ns m2 m1 b1 b2 t v q e1 g1 e3 ev in
      got_at (Same j) Q _ x (read H2 m2 (operand.Move (place_home home p))) k3 ((w, write m2 b2 (blank D t)), some_bind _ g1 (some_bind _ g2 (some_bind _ (moment.ty_home now p ∙ e3) refl)), (rel, whole_tight j v w rel (read_at_whole m1 b1 v e2)), q')

  -- ---- operands

  const_read : (c : Const) (m2 m1 : Memory) (x : Value × Memory) → Q m2 m1 → read H1 m1 (operand.Const c) ≡ Some x → Got (Same j) Q x (read H2 m2 (operand.Const c))
  unfolding read
  const_read c m2 m1 x q e = got_at (Same j) Q _ x (read H2 m2 (operand.Const c)) e ((const_value c, m2), refl, (const_rel j c, tight_self (const_value c)), q)

  scalars_copy : (p : Place) → moment.Alive now p.local → scalar_ty_of H1 (operand.Copy p) ≡ scalar_ty_of H2 (operand.Copy (place_home home p))
  scalars_copy p al = text.scalar_ty_rel D ts1 ts2 f1 f2 j (moment.L now) (moment.low now) (operand.Copy p) (operand.Copy (place_home home p)) (moment.place_as now p (moment.at now p.local al))

  scalars_moved : (p : Place) → moment.Alive now p.local → scalar_ty_of H1 (operand.Move p) ≡ scalar_ty_of H2 (operand.Copy (place_home home p))
  unfolding scalar_ty_of operand_ty
  scalars_moved p al = scalars_copy p al

  scalars_move : (p : Place) → moment.Alive now p.local → scalar_ty_of H1 (operand.Move p) ≡ scalar_ty_of H2 (operand.Move (place_home home p))
  scalars_move p al = text.scalar_ty_rel D ts1 ts2 f1 f2 j (moment.L now) (moment.low now) (operand.Move p) (operand.Move (place_home home p)) (moment.place_as now p (moment.at now p.local al))

  scalars_const : (c : Const) → scalar_ty_of H1 (operand.Const c) ≡ scalar_ty_of H2 (operand.Const c)
  scalars_const c = text.scalar_ty_rel D ts1 ts2 f1 f2 j (moment.L now) (moment.low now) (operand.Const c) (operand.Const c) refl

  pub operand_reads : (o : Operand) → OkOperand (moment.Alive now) o → MoveOk H1 o → Reads S Q o (operand_home shared home o)
  operand_reads (operand.Copy p) al mo = copied S Q p (place_home home p) (moment.shows now p (moment.at now p.local al)) (scalars_copy p al)
  operand_reads (operand.Move p) al mo = go (shared p.local) refl
    where
      go : (b : Bool) → shared p.local ≡ b → Reads S Q (operand.Move p) (if b then operand.Copy (place_home home p) else operand.Move (place_home home p))
      go true sh = copied_for_move S Q p (place_home home p) (moment.shows now p (moment.at now p.local al)) (clears p al sh mo) (scalars_moved p al)
      go false ns = record { reads = move_read p al ns; scalars = scalars_move p al }
  operand_reads (operand.Const c) al mo = record { reads = const_read c; scalars = scalars_const c }

  pub operands_read : (os : List Operand) → OkOperands (moment.Alive now) os → AllMoves H1 os → AllRead S Q os (map (operand_home shared home) os)
  operands_read [] al mo = tt
  operands_read (o ∷ os) al mo = (operand_reads o al.0 mo.0, operands_read os al.1 mo.1)

  -- ---- rvalues; a reference is to a lent local, or to what is behind one

  abbrev pub Lends : TypedRvalue → Type 0
  Lends (rvalue.ref p) = (has_deref p.proj ≡ true) ⊎ (moment.lent now p.local ≡ true)
  Lends (rvalue.ref_mut p) = (has_deref p.proj ≡ true) ⊎ (moment.lent now p.local ≡ true)
  Lends _ = Unit {0}

  far_of : (p : Place) → moment.Alive now p.local → (has_deref p.proj ≡ true) ⊎ (moment.lent now p.local ≡ true) → moment.Far now p
  far_of p al (inl d) = inr (d, moment.at now p.local al)
  far_of p al (inr l) = inl l

  alike : (x : TypedRvalue) → OkRvalue (moment.Alive now) x → Lends x → RvalueMoves H1 x → Likewise S Q x (rvalue_home shared home x)
  alike («use» o) al le mo = operand_reads o al mo
  alike (binary op b c) al le mo = (refl, operand_reads b al.0 mo.0, operand_reads c al.1 mo.1)
  alike (overflow op b c) al le mo = (refl, operand_reads b al.0 mo.0, operand_reads c al.1 mo.1)
  alike (unary op b) al le mo = (refl, operand_reads b al mo)
  alike (cast b t) al le mo = (refl, operand_reads b al mo)
  alike (rvalue.ref p) al le mo = moment.refers now p (far_of p al le)
  alike (rvalue.ref_mut p) al le mo = moment.refers now p (far_of p al le)
  alike (discriminant p) al le mo = moment.shows now p (moment.at now p.local al)
  alike (tuple os) al le mo = operands_read os al mo
  alike (build d k os) al le mo = (refl, refl, operands_read os al mo)

  pub evals : (x : TypedRvalue) → OkRvalue (moment.Alive now) x → Lends x → RvalueMoves H1 x → Evals S Q Q x (rvalue_home shared home x)
  evals x al le mo = likewise S Q refl x (rvalue_home shared home x) (alike x al le mo)

  -- ---- far destinations

  pub dest_far : (m2 m1 : Memory) (p : Place) (d : Dest) → moment.Far now p → Q m2 m1 → dest_of H1 m1 p ≡ Some d → (c : Dest) × (dest_of H2 m2 (place_home home p) ≡ Some c) × DestRel j d c
  unfolding dest_of
  dest_far m2 m1 p d far q e =
      let (b1, e1, k1) = bind_some e in
      let (t, e2, k2) = bind_some k1 in
      let (b2, g, ab) = moment.far_resolved now m2 m1 p b1 far q e1 in
      (record { addr = b2; guard = guard_of D p.proj t }, some_bind _ g (some_bind _ (moment.ty_home now p ∙ e2) refl), subst (λ d. DestRel j d (record { addr = b2; guard = guard_of D p.proj t })) (some_val k2) (let z : DestRel j (record { addr = b1; guard = guard_of D p.proj t }) (record { addr = b2; guard = guard_of D p.proj t }) = record { addr = ab; guard = refl } in z))
