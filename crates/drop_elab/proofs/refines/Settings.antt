-- Flags are set, one statement after another.
use Rattle.std.proofs.Common.{◌≡◌, refl, sym, ap, ◌∙◌, subst, ℕ, zero, suc, ◌+◌, Bool, true, false, List, [], ◌∷◌, ◌++◌, drop, Option, Some, None, slice_get, arith}
use Rattle.mir_syntax.specs.declared.body.Place.{Place}
use Rattle.mir_syntax.specs.Tree.{Tree}
use Rattle.mir_syntax.specs.Crate.{TypedStmt, TypedBlock, TypedBody}
use Rattle.mir_num.specs.Numbers.{flag}
use Rattle.mir_semantics.specs.Values.{Value, number}
use Rattle.mir_semantics.specs.Memory.{Memory, local_at, write}
use Rattle.mir_semantics.specs.Step.{Code, Control, State, local_addr}
use Rattle.mir_relate.specs.Simulation.{moves}
use Rattle.drop_elab.specs.Plan.{set_flag, Laid}
use Rattle.drop_elab.specs.Elab.{Flagged, with_flags, set_to, settings}
use Rattle.drop_elab.proofs.refines.Sound.{Has}
use Rattle.drop_elab.proofs.refines.Flags.{flags_range}
use Rattle.drop_elab.proofs.refines.Places.{first_left}
use Rattle.drop_elab.proofs.refines.Runs.{one_move, moves_then, here_at, beside, written, beyond_write}
use Rattle.drop_elab.proofs.refines.Machine.{on_at, stmt_step, flag_set}

-- no two have one flag
abbrev pub Distinct : List Flagged → Type 0
Distinct [] = Unit {0}
Distinct (f ∷ fs) = ((g : Flagged) (x : ℕ) → Has fs g → f.flag ≡ Some x → g.flag ≡ Some x → ⊥) × Distinct fs

pub flags_distinct : (x : ℕ) (us : List Place) (bs : List Bool) → Distinct (with_flags x us bs)
flags_distinct x [] bs = tt
flags_distinct x (u ∷ us) [] = tt
flags_distinct x (u ∷ us) (true ∷ bs) = ((λ g y h e q. (let (lo, hi) = flags_range (suc x) us bs h.0 g y h.1 q in let z : x ≡ y = grind arith in omega (arith, lo, z))), flags_distinct (suc x) us bs)
flags_distinct x (u ∷ us) (false ∷ bs) = ((λ g y h e q. absurd (grind arith)), flags_distinct x us bs)

-- what a flag is after its unit was changed, or wasn't
abbrev pub set_value : Option Bool → Option Value → Option Value
set_value None was = was
set_value (Some b) was = Some (number (flag b))

-- in a frame the flags of units that change are set, and nothing else changes
pub record Sets (f : ℕ) (change : Place → Option Bool) (fs : List Flagged) (m m' : Memory) : Type 0 where
  pub kept : (g y : ℕ) → (g ≡ f → (k : Flagged) → Has fs k → k.flag ≡ Some y → ⊥) → local_at m' g y ≡ local_at m g y
  pub there : (y : ℕ) (v : Value) → local_at m f y ≡ Some v → (w : Value) × (local_at m' f y ≡ Some w)
  pub set : (k : Flagged) (x : ℕ) → Has fs k → k.flag ≡ Some x → local_at m' f x ≡ set_value (change k.unit) (local_at m f x)

sets_none : (f : ℕ) (change : Place → Option Bool) (m : Memory) → Sets f change [] m m
sets_none f change m = record { kept = λ g y n. refl; there = λ y v e. (v, e); set = λ k x h q. absurd (let (i, e) = h in grind arith) }

later : (k k' : Flagged) (fs : List Flagged) → Has fs k → Has (k' ∷ fs) k
later k k' fs (i, e) = (suc i, e)

-- one that isn't set
sets_past : (f : ℕ) (change : Place → Option Bool) (k : Flagged) (fs : List Flagged) (m m' : Memory) → Distinct (k ∷ fs) → ((x : ℕ) → k.flag ≡ Some x → change k.unit ≡ None) → Sets f change fs m m' → Sets f change (k ∷ fs) m m'
sets_past f change k fs m m' di none s = record { kept = λ g y n. s.kept g y (λ p k' h q. n p k' (later k' k fs h) q); there = s.there; set = set }
  where
    set : (k' : Flagged) (x : ℕ) → Has (k ∷ fs) k' → k'.flag ≡ Some x → local_at m' f x ≡ set_value (change k'.unit) (local_at m f x)
    set k' x (zero, e) q =
        let z : k ≡ k' = grind arith in
        let qk : k.flag ≡ Some x = ap (λ (k : Flagged). k.flag) z ∙ q in
        s.kept f x (λ p g h r. di.0 g x h qk r) ∙ subst (λ o. local_at m f x ≡ set_value o (local_at m f x)) (sym (none x qk) ∙ ap (λ (k : Flagged). change k.unit) z) refl
    set k' x (suc i, e) q = s.set k' x (i, e) q

-- where there is nothing to set
pub no_sets : (f : ℕ) (change : Place → Option Bool) (fs : List Flagged) (m : Memory) → Distinct fs → settings change fs ≡ [] → Sets f change fs m m
no_sets f change [] m di e = sets_none f change m
no_sets f change (k ∷ fs) m di e = go k.flag (change k.unit) refl refl e (no_sets f change fs m di.1)
  where
    go : (o : Option ℕ) (b : Option Bool) → k.flag ≡ o → change k.unit ≡ b → set_to o b ++ settings change fs ≡ [] → (settings change fs ≡ [] → Sets f change fs m m) → Sets f change (k ∷ fs) m m
    go None b qo qb e ih = sets_past f change k fs m m di (λ x q. absurd (let z : None ≡ Some x = sym qo ∙ q in grind arith)) (ih e)
    go (Some x) None qo qb e ih = sets_past f change k fs m m di (λ x q. qb) (ih e)
    go (Some x) (Some b) qo qb e ih = absurd (grind arith)

module _ (C : Code) (body : TypedBody) (s : State) (c : Control) (is : slice_get C.bodies c.function ≡ Some body) (change : Place → Option Bool) (i : ℕ) (block : TypedBlock) (at : slice_get body.blocks i ≡ Some block) where
  -- flags are locals of the frame
  abbrev pub FlagsThere : List Flagged → Memory → Type 0
  FlagsThere fs m = (k : Flagged) (x : ℕ) → Has fs k → k.flag ≡ Some x → (t : Tree) × (old : Value) × (slice_get body.locals x ≡ Some t) × (local_at m c.frame x ≡ Some old)

  -- from these statements the run comes to those behind the settings
  abbrev pub Comes : List Flagged → List TypedStmt → Memory → ℕ → Type 0
  Comes fs rest m a = (k a' : ℕ) × (m' : Memory) × (moves C k (on_at s c m i a) ≡ Some (on_at s c m' i a')) × (drop a' block.stmts ≡ rest) × Sets c.frame change fs m m'

  there_after : (fs : List Flagged) (m : Memory) (x : ℕ) (v old : Value) → local_at m c.frame x ≡ Some old → FlagsThere fs m → FlagsThere fs (write m (local_addr c.frame x) v)
  there_after fs m x v old ex h k y hk q =
      let (t, o, et, eo) = h k y hk q in
      let (w, ew) = (beyond_write (here_at C.shapes body.locals c.frame) x x m v old (omega arith) ex).there y o eo in
      (t, w, et, ew)

  pub run_settings : (fs : List Flagged) (rest : List TypedStmt) (m : Memory) (a : ℕ) → Distinct fs → FlagsThere fs m → drop a block.stmts ≡ settings change fs ++ rest → Comes fs rest m a
  run_settings [] rest m a di h e = (0, a, m, refl, e, sets_none c.frame change m)
  run_settings (k ∷ fs) rest m a di h e = go k.flag (change k.unit) refl refl e (λ m a h e. run_settings fs rest m a di.1 h e)
    where
      go : (o : Option ℕ) (b : Option Bool) → k.flag ≡ o → change k.unit ≡ b → drop a block.stmts ≡ (set_to o b ++ settings change fs) ++ rest → ((m : Memory) (a : ℕ) → FlagsThere fs m → drop a block.stmts ≡ settings change fs ++ rest → Comes fs rest m a) → Comes (k ∷ fs) rest m a
      go None b qo qb e ih =
          let (n, a', m', mv, d, st) = ih m a (λ k' x hk q. h k' x (later k' k fs hk) q) e in
          (n, a', m', mv, d, sets_past c.frame change k fs m m' di (λ x q. absurd (let z : None ≡ Some x = sym qo ∙ q in grind arith)) st)
      go (Some x) None qo qb e ih =
          let (n, a', m', mv, d, st) = ih m a (λ k' x hk q. h k' x (later k' k fs hk) q) e in
          (n, a', m', mv, d, sets_past c.frame change k fs m m' di (λ x q. qb) st)
      go (Some x) (Some b) qo qb e ih =
          let (t, old, et, eo) = h k x (0, refl) qo in
          let M = write m (local_addr c.frame x) (number (flag b)) in
          let code : Laid = record { stmts = set_flag x b ∷ (settings change fs ++ rest); term = block.term; locals = []; blocks = []; heads = [] } in
          let first = stmt_step 0 C body s c is m M i a code (set_flag x b) (settings change fs ++ rest) (block, at, e, refl) refl (flag_set 0 C body s c is m x b t old et eo) in
          let (n, a', m', mv, d, st) = ih M (suc a) (there_after fs m x (number (flag b)) old eo (λ k' y hk q. h k' y (later k' k fs hk) q)) (first_left a block.stmts (set_flag x b) (settings change fs ++ rest) e).1 in (
            1 + n,
            a',
            m',
            moves_then C 1 n (on_at s c m i a) (on_at s c M i (suc a)) (Some (on_at s c m' i a')) (one_move C (on_at s c m i a) (on_at s c M i (suc a)) first) mv,
            d,
            record {
              kept = λ g y ne. st.kept g y (λ p k' hk q. ne p k' (later k' k fs hk) q) ∙ beside (here_at C.shapes body.locals c.frame) m x (number (flag b)) g y (λ p q. ne p k (0, refl) (qo ∙ ap (λ x. Some x) (sym q)));
              there = λ y v ev. (let (w, ew) = (beyond_write (here_at C.shapes body.locals c.frame) x x m (number (flag b)) old (omega arith) eo).there y v ev in st.there y w ew);
              set = set M m' eo st;
            },
          )
        where
          set : (M m' : Memory) → local_at m c.frame x ≡ Some (h k x (0, refl) qo).1 → Sets c.frame change fs (write m (local_addr c.frame x) (number (flag b))) m' → (k' : Flagged) (y : ℕ) → Has (k ∷ fs) k' → k'.flag ≡ Some y → local_at m' c.frame y ≡ set_value (change k'.unit) (local_at m c.frame y)
          set M m' eo st k' y (zero, ek) q =
              let z : k ≡ k' = grind arith in
              let qk : k.flag ≡ Some y = ap (λ (k : Flagged). k.flag) z ∙ q in
              let xy : x ≡ y = (let w : Some x ≡ Some y = sym qo ∙ qk in grind arith) in
              st.kept c.frame y (λ p g hg r. di.0 g y hg qk r)
              ∙ subst (λ y. local_at (write m (local_addr c.frame x) (number (flag b))) c.frame y ≡ Some (number (flag b))) xy (written (here_at C.shapes body.locals c.frame) m x (number (flag b)) (h k x (0, refl) qo).1 eo)
              ∙ subst (λ o. Some (number (flag b)) ≡ set_value o (local_at m c.frame y)) (sym qb ∙ ap (λ (k : Flagged). change k.unit) z) refl
          set M m' eo st k' y (suc n, ek) q =
              st.set k' y (n, ek) q ∙ ap (set_value (change k'.unit)) (beside (here_at C.shapes body.locals c.frame) m x (number (flag b)) c.frame y (λ p r. di.0 k' y (n, ek) (qo ∙ ap (λ x. Some x) (sym r)) q))
