-- The code of a plan keeps the rules, where its places and flags do.
use Rattle.std.proofs.Common.{◌≡◌, refl, ap, ap₂, subst, ℕ, suc, ◌+◌, ◌<◌, ◌≤◌, true, false, not, nat_lt, ◌==◌, ◌||◌, ◌^◌, List, ◌∷◌, ◌++◌, length, map, Some, slice_get, arith}
use Rattle.std.specs.List.{list_any}
use Rattle.mir_syntax.specs.declared.types.ScalarTy.TheVariants as scalar_ty
use Rattle.mir_syntax.specs.declared.types.IntTy.TheVariants as int_ty
use Rattle.mir_syntax.specs.declared.body.Arm.{Arm}
use Rattle.mir_syntax.specs.Tree.{Tree, empty, ref_mut}
use Rattle.mir_syntax.specs.Crate.{TypedBody, Crate}
use Rattle.mir_syntax.specs.Shapes.{Shape}
use Rattle.mir_rules.specs.BodyRules.{arm_value, has_twice, has_too_wide}
use Rattle.mir_rules.specs.Typing.{bool_ty, isize_ty, enum_of}
use Rattle.drop_elab.specs.Plan.{Plan, done, destroy, choose, arm, guarded, clear, Laid, code, arms_from, lay}
use Rattle.drop_elab.proofs.refines.Places.{StandsIn, Stands, Armed, heads_long, head_stands, tail_stands, left_stands, right_stands}
use Rattle.drop_elab.proofs.valid.Fine.{Each, each_append}
use Rattle.drop_elab.proofs.valid.Fine as fine

-- arms have rising numbers, from one on, that fit the type of a discriminant
abbrev pub Rising : ℕ → Plan → Type 0
Rising n (arm k q rest) = (n ≤ k) × (nat_lt k (2 ^ 64) ≡ true) × Rising (suc k) rest
Rising n _ = Unit {0}

pub rising_less : (m n : ℕ) (p : Plan) → m ≤ n → Rising n p → Rising m p
rising_less m n (arm k q rest) l h = (let a = h.0 in omega (arith, l, a), h.1, h.2)
rising_less m n done l h = tt
rising_less m n (destroy q t g p) l h = tt
rising_less m n (choose q a p) l h = tt
rising_less m n (guarded x q p) l h = tt
rising_less m n (clear x p) l h = tt

none_equal : (v n c : ℕ) (p : Plan) → v < n → Rising n p → list_any (λ u. u == v) (map arm_value (arms_from c p)) ≡ false
none_equal v n c (arm k q rest) l h = ap₂ (λ a b. a || b) (let a = h.0 in let z : (k == v) ≡ false = grind (arith, l, a) in z) (none_equal v (suc k) (suc c) rest (let a = h.0 in omega (arith, l, a)) h.2)
none_equal v n c done l h = refl
none_equal v n c (destroy q t g p) l h = refl
none_equal v n c (choose q a p) l h = refl
none_equal v n c (guarded x q p) l h = refl
none_equal v n c (clear x p) l h = refl

once : (n c : ℕ) (p : Plan) → Rising n p → has_twice (map arm_value (arms_from c p)) ≡ false
once n c (arm k q rest) h = ap₂ (λ a b. a || b) (none_equal k (suc k) (suc c) rest (omega arith) h.2) (once (suc k) (suc c) rest h.2)
once n c done h = refl
once n c (destroy q t g p) h = refl
once n c (choose q a p) h = refl
once n c (guarded x q p) h = refl
once n c (clear x p) h = refl

fits : (n c : ℕ) (p : Plan) → Rising n p → has_too_wide (Some (scalar_ty.Int int_ty.Isize)) (map arm_value (arms_from c p)) ≡ false
fits n c (arm k q rest) h = ap₂ (λ a b. a || b) (ap not h.1) (fits (suc k) (suc c) rest h.2)
fits n c done h = refl
fits n c (destroy q t g p) h = refl
fits n c (choose q a p) h = refl
fits n c (guarded x q p) h = refl
fits n c (clear x p) h = refl

module _ (C : Crate) (D : List Shape) (e : TypedBody) where
  -- the places and flags of a plan
  abbrev pub PlanFine : Plan → Type 0
  PlanFine done = Unit {0}
  PlanFine (destroy q t g p) = fine.PlaceFine C D e q t × fine.TypeFine C D e t × fine.Destroys C D e t g × PlanFine p
  PlanFine (choose q arms p) = ((t : Tree) × (s : Shape) × fine.PlaceFine C D e q t × (enum_of D t ≡ Some s)) × Armed arms × Rising 0 arms × PlanFine arms × PlanFine p
  PlanFine (arm k q rest) = PlanFine q × PlanFine rest
  PlanFine (guarded x q p) = (slice_get e.locals x ≡ Some bool_ty) × PlanFine q × PlanFine p
  PlanFine (clear x p) = (slice_get e.locals x ≡ Some bool_ty) × PlanFine p

  pub record LaidFine (r : Laid) : Type 0 where
    pub stmts : Each (fine.StmtFine C D e) r.stmts
    pub term : fine.TermFine C D e r.term
    pub locals : Each (fine.TypeFine C D e) r.locals
    pub blocks : Each (fine.BlockFine C D e) r.blocks
    pub heads : Each (fine.BlockFine C D e) r.heads

  pub code_fine : (r : Laid) → LaidFine r → fine.BlockFine C D e (code r)
  code_fine r h = record { stmts = h.stmts; term = h.term }

  -- the arms lead to their heads
  arms_there : (arms : Plan) (l b s c : ℕ) → 0 < c → Armed arms → StandsIn e.blocks c (lay arms l b s).heads → Each (λ (a : Arm). fine.Target C D e a.block) (arms_from c arms)
  arms_there done l b s c lt h st = tt
  arms_there (arm k q rest) l b s c lt h st = (
    fine.target_at C D e c _ lt (head_stands e.blocks c (code (lay q l b s)) (lay rest (l + length (lay q l b s).locals) (b + length (lay q l b s).blocks) s).heads st),
    arms_there rest (l + length (lay q l b s).locals) (b + length (lay q l b s).blocks) s (suc c) (omega arith) h (tail_stands e.blocks c (code (lay q l b s)) (lay rest (l + length (lay q l b s).locals) (b + length (lay q l b s).blocks) s).heads st),
  )
  arms_there (destroy q t g p) l b s c lt h st = absurd h
  arms_there (choose q a p) l b s c lt h st = absurd h
  arms_there (guarded x q p) l b s c lt h st = absurd h
  arms_there (clear x p) l b s c lt h st = absurd h

  pub lay_fine : (p : Plan) (l b s : ℕ) → PlanFine p → fine.Target C D e s → 0 < b → Stands e l b (lay p l b s) → LaidFine (lay p l b s)
  lay_fine done l b s h ts lt st = record { stmts = tt; term = fine.goto_fine C D e s ts; locals = tt; blocks = tt; heads = tt }
  lay_fine (clear x p) l b s h ts lt st =
      let r = lay_fine p l b s h.1 ts lt (record { locals = st.locals; blocks = st.blocks }) in
      record { stmts = (fine.set_fine C D e x false h.0, r.stmts); term = r.term; locals = r.locals; blocks = r.blocks; heads = tt }
  lay_fine (destroy q t g p) l b s h ts lt st =
      let r : Laid = lay p (suc (suc l)) (suc b) s in
      let el = head_stands e.locals l (ref_mut t) (empty ∷ r.locals) st.locals in
      let tl = tail_stands e.locals l (ref_mut t) (empty ∷ r.locals) st.locals in
      let eu = head_stands e.locals (suc l) empty r.locals tl in
      let rf = lay_fine p (suc (suc l)) (suc b) s h.3 ts (omega arith) (record { locals = tail_stands e.locals (suc l) empty r.locals tl; blocks = tail_stands e.blocks b (code r) r.blocks st.blocks }) in
      let tb = fine.target_at C D e b (code r) lt (head_stands e.blocks b (code r) r.blocks st.blocks) in
      record {
        stmts = (fine.borrow_fine C D e l q t el h.0, tt);
        term = fine.destroy_fine C D e l g b t el eu h.2 tb;
        locals = (h.1, (refl, rf.locals));
        blocks = (code_fine r rf, rf.blocks);
        heads = tt;
      }
  lay_fine (guarded x q p) l b s h ts lt st =
      let g : Laid = lay q l (suc (suc b)) (suc b) in
      let r : Laid = lay p (l + length g.locals) (suc (suc b) + length g.blocks) s in
      let t1 = tail_stands e.blocks b (code g) (code r ∷ (g.blocks ++ r.blocks)) st.blocks in
      let t2 = tail_stands e.blocks (suc b) (code r) (g.blocks ++ r.blocks) t1 in
      let tb = fine.target_at C D e b (code g) lt (head_stands e.blocks b (code g) (code r ∷ (g.blocks ++ r.blocks)) st.blocks) in
      let tc = fine.target_at C D e (suc b) (code r) (omega arith) (head_stands e.blocks (suc b) (code r) (g.blocks ++ r.blocks) t1) in
      let gf = lay_fine q l (suc (suc b)) (suc b) h.1 tc (omega arith) (record { locals = left_stands e.locals l g.locals r.locals st.locals; blocks = left_stands e.blocks (suc (suc b)) g.blocks r.blocks t2 }) in
      let rf = lay_fine p (l + length g.locals) (suc (suc b) + length g.blocks) s h.2 ts (omega arith) (record { locals = right_stands e.locals l g.locals r.locals st.locals; blocks = right_stands e.blocks (suc (suc b)) g.blocks r.blocks t2 }) in
      record {
        stmts = tt;
        term = fine.guard_fine C D e x (suc b) b h.0 tc tb;
        locals = each_append (fine.TypeFine C D e) g.locals r.locals gf.locals rf.locals;
        blocks = (code_fine g gf, (code_fine r rf, each_append (fine.BlockFine C D e) g.blocks r.blocks gf.blocks rf.blocks));
        heads = tt;
      }
  lay_fine (choose q arms p) l b s (pq, ar, ri, ha, hp) ts lt st =
      let join = b + length (arms_from b arms) in
      let a : Laid = lay arms (suc l) (suc join) join in
      let r : Laid = lay p (suc l + length a.locals) (suc join + length a.blocks) s in
      let long : length a.heads ≡ length (arms_from b arms) = heads_long arms (suc l) (suc join) join b ar in
      let el = head_stands e.locals l isize_ty (a.locals ++ r.locals) st.locals in
      let tl = tail_stands e.locals l isize_ty (a.locals ++ r.locals) st.locals in
      let hs = left_stands e.blocks b a.heads (code r ∷ (a.blocks ++ r.blocks)) st.blocks in
      let bs = subst (λ n. StandsIn e.blocks (b + n) (code r ∷ (a.blocks ++ r.blocks))) long (right_stands e.blocks b a.heads (code r ∷ (a.blocks ++ r.blocks)) st.blocks) in
      let tj = fine.target_at C D e join (code r) (omega (arith, lt)) (head_stands e.blocks join (code r) (a.blocks ++ r.blocks) bs) in
      let t2 = tail_stands e.blocks join (code r) (a.blocks ++ r.blocks) bs in
      let af = lay_fine arms (suc l) (suc join) join ha tj (omega arith) (record { locals = left_stands e.locals (suc l) a.locals r.locals tl; blocks = left_stands e.blocks (suc join) a.blocks r.blocks t2 }) in
      let rf = lay_fine p (suc l + length a.locals) (suc join + length a.blocks) s hp ts (omega arith) (record { locals = right_stands e.locals (suc l) a.locals r.locals tl; blocks = right_stands e.blocks (suc join) a.blocks r.blocks t2 }) in
      let (t, sh, pf, en) = pq in
      record {
        stmts = (fine.discriminant_fine C D e l q t sh el pf en, tt);
        term = fine.choose_fine C D e l join (arms_from b arms) el (arms_there arms (suc l) (suc join) join b lt ar hs) tj (once 0 b arms ri) (fits 0 b arms ri);
        locals = (refl, each_append (fine.TypeFine C D e) a.locals r.locals af.locals rf.locals);
        blocks = each_append (fine.BlockFine C D e) a.heads (code r ∷ (a.blocks ++ r.blocks)) af.heads (code_fine r rf, each_append (fine.BlockFine C D e) a.blocks r.blocks af.blocks rf.blocks);
        heads = tt;
      }
  lay_fine (arm k q rest) l b s h ts lt st =
      let g : Laid = lay q l b s in
      let r : Laid = lay rest (l + length g.locals) (b + length g.blocks) s in
      let gf = lay_fine q l b s h.0 ts lt (record { locals = left_stands e.locals l g.locals r.locals st.locals; blocks = left_stands e.blocks b g.blocks r.blocks st.blocks }) in
      let rf = lay_fine rest (l + length g.locals) (b + length g.blocks) s h.1 ts (omega (arith, lt)) (record { locals = right_stands e.locals l g.locals r.locals st.locals; blocks = right_stands e.blocks b g.blocks r.blocks st.blocks }) in
      record {
        stmts = tt;
        term = fine.goto_fine C D e s ts;
        locals = each_append (fine.TypeFine C D e) g.locals r.locals gf.locals rf.locals;
        blocks = each_append (fine.BlockFine C D e) g.blocks r.blocks gf.blocks rf.blocks;
        heads = (code_fine g gf, rf.heads);
      }
