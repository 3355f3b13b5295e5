-- What a statement writes: in both frames, or by the source alone.
use Rattle.std.proofs.Common.{◌≡◌, ◌⊎◌, inl, inr, refl, sym, ap, ◌∙◌, subst, ℕ, Bool, true, false, nat_eq, ◌||◌, List, [], Some, slice_get, arith, eq-eqb, eqb-true}
use Rattle.std.proofs.lemmas.Bool.{or_cases, or_right}
use Rattle.mir_syntax.specs.declared.body.Proj.{Proj}
use Rattle.mir_syntax.specs.Tree.{Tree}
use Rattle.mir_syntax.specs.Shapes.{Shape}
use Rattle.mir_semantics.specs.Values.{Value, blank}
use Rattle.mir_semantics.specs.Memory.{Memory, local_at, write}
use Rattle.mir_semantics.specs.Step.{Dest, State, store}
use Rattle.mir_renaming.specs.Renaming.{AddrRel, ValueRel, SomeRel}
use Rattle.mir_renaming.proofs.Statements.{DestRel, blank_rel, write_clear}
use Rattle.mir_renaming.proofs.Types.{AddrTy}
use Rattle.mir_renaming.proofs.Agree.{tight_agree, tight_self}
use Rattle.mir_renaming.proofs.Stores.{store_split}
use Rattle.mir_relate.specs.Alike.{Same}
use Rattle.mir_relate.specs.Frames.{Change}
use Rattle.mir_relate.specs.Pass.{Valids}
use Rattle.mir_relate.proofs.Leaves.{leaves_then, leaves_write, leaves_source}
use Rattle.mir_relate.proofs.Near as near
use Rattle.dest_prop.specs.Merged.{home_of, is_shared, merged_by}
use Rattle.dest_prop.proofs.refines.Fills.{Fills, rel_fills, put_both, put_second}
use Rattle.dest_prop.proofs.refines.Housed.{Housed, lent_housed, own_linked, own_leaves, own_housed, gone_housed}
use Rattle.dest_prop.proofs.refines.Frames.{Filled, alone, alone_new}
use Rattle.dest_prop.proofs.refines.Moment as moment
use Rattle.dest_prop.proofs.refines.Moment.{Moment}
use Rattle.mir_relate.proofs.Living.{unlent_linked}

-- one local more
abbrev pub with : ℕ → (ℕ → Bool) → ℕ → Bool
with x a y = nat_eq y x || a y

pub with_new : (x : ℕ) (a : ℕ → Bool) (y : ℕ) → with x a y ≡ true → (y ≡ x → ⊥) → a y ≡ true
with_new x a y e ne = go (or_cases (nat_eq y x) (a y) e)
  where
    go : (nat_eq y x ≡ true) ⊎ (a y ≡ true) → a y ≡ true
    go (inl q) = absurd (ne (eqb-true y x q))
    go (inr h) = h

pub with_old : (x : ℕ) (a : ℕ → Bool) (y : ℕ) → a y ≡ true → with x a y ≡ true
with_old x a y e = or_right (nat_eq y x) (a y) e

pub with_it : (x : ℕ) (a : ℕ → Bool) (y : ℕ) → y ≡ x → with x a y ≡ true
with_it x a y e = ap (λ b. b || a y) (eq-eqb y x e)

module _ {X : Change} {once : X.body2 ≡ merged_by (is_shared X.body1 (home_of X.source.shapes X.body1)) (home_of X.source.shapes X.body1) X.body1} {V : Valids X} {Inv : State → Type 0} (now : Moment X once V Inv) where
  open now use {s2, s1, r, lives, r.{core.{lent as j}, typed1.{types as G}}, s2.{top.{frame as f2}}, s1.{top.{frame as f1}}, lives.{set as a}}

  abbrev D : List Shape
  D = X.source.shapes

  abbrev home : ℕ → ℕ
  home = home_of X.source.shapes X.body1

  abbrev Q : Memory → Memory → Type 0
  Q = moment.Q now

  abbrev Left : Memory → Memory → Type 0
  Left = moment.Left now

  abbrev pub Holds : (ℕ → Bool) → Memory → Memory → Type 0
  Holds = Housed r.core.lent s2.top.frame s1.top.frame (home_of X.source.shapes X.body1) Filled

  -- both write at a local that isn't lent
  pub own_write : (m2 m1 : Memory) (x : ℕ) (ps : List Proj) (v w : Value) → moment.lent now x ≡ false → ValueRel j v w → ((y : ℕ) → home y ≡ home x → (y ≡ x → ⊥) → (o : Value) → Fills o w) → Q m2 m1 → Left (write m2 (moment.own2 now x ps) w) (write m1 (moment.own1 now x ps) v) × Holds (alone home x ps a) (write m2 (moment.own2 now x ps) w) (write m1 (moment.own1 now x ps) v)
  own_write m2 m1 x ps v w nl hv full q = (
    (own_linked j f2 f1 home (moment.pl now) (moment.hs now) Filled a x (moment.unlent_at now x nl) ps m2 m1 v w q.linked, leaves_then D G j j j f2 f1 s2.memory s1.memory m2 m1 (write m2 (moment.own2 now x ps) w) (write m1 (moment.own1 now x ps) v) q.leaves (own_leaves j f2 f1 home (moment.pl now) (moment.hs now) Filled a x (moment.unlent_at now x nl) ps D G m2 m1 v w)),
    own_housed j f2 f1 home (moment.pl now) (moment.hs now) Filled a x (moment.unlent_at now x nl) ps (alone home x ps a) m2 m1 v w (alone_new home x ps a) hv (λ v0 w0 h. put_both ps v w (rel_fills j v w hv) v0 w0 h) (λ y u w0 e ne k g h. put_second ps w (full y e ne) u w0 h) q.holds,
  )

  -- the source alone writes a local as a whole, where its home has such a value
  pub gone_write : (m1 : Memory) (x : ℕ) (v : Value) → moment.lent now x ≡ false → ((o : Value) → local_at m1 f1 x ≡ Some o → SomeRel j v (local_at s2.memory f2 (home x))) → Q s2.memory m1 → Left s2.memory (write m1 (moment.own1 now x []) v) × Holds (with x a) s2.memory (write m1 (moment.own1 now x []) v)
  gone_write m1 x v nl has q = (
    (unlent_linked j s2.memory m1 (moment.own1 now x []) v (moment.unlent_at now x nl) q.linked, leaves_then D G j j j f2 f1 s2.memory s1.memory s2.memory m1 s2.memory (write m1 (moment.own1 now x []) v) q.leaves (leaves_source D G j s2.memory m1 (moment.own1 now x []) v f2 f1 (omega arith))),
    gone_housed j f2 f1 home (moment.pl now) (moment.hs now) Filled a x (moment.unlent_at now x nl) [] (with x a) s2.memory m1 v (with_new x a) (λ b o k. has o k) (λ v0 w0 k g h. fills w0 g (has v0 k)) q.holds,
  )
    where
      fills : (w0 : Value) → local_at s2.memory s2.top.frame (home_of X.source.shapes X.body1 x) ≡ Some w0 → SomeRel r.core.lent v (local_at s2.memory s2.top.frame (home_of X.source.shapes X.body1 x)) → Fills v w0
      fills w0 g (w, g1, rel) = subst (λ w. Fills v w) (let z : Some w ≡ Some w0 = sym g1 ∙ g in let k : w ≡ w0 = grind arith in k) (rel_fills r.core.lent v w rel)

  -- both store at a far place
  pub far_write : (m2 m1 m1' : Memory) (d c : Dest) (t : Tree) (v w : Value) → Q m2 m1 → DestRel j d c → AddrTy D G d.addr t → Same j v w → store D m1 d v ≡ Some m1' → (m2' : Memory) × (store D m2 c w ≡ Some m2') × Left m2' m1' × Holds a m2' m1'
  far_write m2 m1 m1' d c t v w q dr at hv k =
      let (m2', g, l', lv) = near.store_leaves D G j f2 f1 s2.memory s1.memory m2 m1 m1' d c t v w q.linked q.leaves dr at hv k in
      let (old, e1, same1) = store_split D m1 m1' d v k in
      let (old2, e2, same2) = store_split D m2 m2' c w g in
      let h' : Holds a m2' m1' = subst (λ m. Holds a m2' m) same1 (subst (λ m. Holds a m (write m1 d.addr v)) same2 (lent_housed j f2 f1 home (moment.pl now) (moment.hs now) Filled a m2 m1 d.addr c.addr v w dr.addr q.holds)) in
      (m2', g, (l', lv), h')

  -- both make a lent local blank
  pub lent_blank : (x : ℕ) (t : Tree) → moment.lent now x ≡ true → slice_get X.body1.locals x ≡ Some t → Left (write s2.memory (moment.own2 now x []) (blank D t)) (write s1.memory (moment.own1 now x []) (blank D t)) × Holds a (write s2.memory (moment.own2 now x []) (blank D t)) (write s1.memory (moment.own1 now x []) (blank D t))
  lent_blank x t l et =
      let ab : AddrRel j (moment.own1 now x []) (moment.own2 now x []) = record { root = moment.lent_at now x l; path = refl } in
      let at : AddrTy D G (moment.own1 now x []) t = record { local = t; is = moment.lok now x t et; path = refl } in
      let B = blank D t in
      let q = moment.first now in
      let self : home x ≡ x = moment.lent_home now x l in (
        (write_clear j j s2.memory s1.memory (moment.own1 now x []) (moment.own2 now x []) B B q.linked ab (blank_rel j D t) (λ h y u k z. one self h y k), leaves_then D G j j j f2 f1 s2.memory s1.memory s2.memory s1.memory (write s2.memory (moment.own2 now x []) B) (write s1.memory (moment.own1 now x []) B) q.leaves (leaves_write D G j s2.memory s1.memory (moment.own1 now x []) (moment.own2 now x []) B B q.linked.mem ab t at (tight_agree D B B t (tight_self B)) (λ h y u k z. one self h y k) f2 f1)),
        lent_housed j f2 f1 home (moment.pl now) (moment.hs now) Filled a s2.memory s1.memory (moment.own1 now x []) (moment.own2 now x []) B B ab q.holds,
      )
    where
      one : home_of X.source.shapes X.body1 x ≡ x → (h y : ℕ) → r.core.lent h y ≡ Some (s2.top.frame, home_of X.source.shapes X.body1 x) → (h ≡ s1.top.frame) × (y ≡ x)
      one self h y k = (let (p, q) = (moment.pl now).only h y (home_of X.source.shapes X.body1 x) k in (p, q ∙ self))
