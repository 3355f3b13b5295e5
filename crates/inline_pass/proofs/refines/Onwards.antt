-- What writes, frames that open and frames that end keep of the frames below.
use Rattle.std.proofs.Common.{◌≡◌, refl, sym, ap, ap₂, ◌∙◌, ℕ, suc, ◌+◌, ◌≤◌, List, [], ◌∷◌, length, Option, Some, slice_get, arith}
use Rattle.mir_syntax.specs.Crate.{TypedStmt, TypedBlock, TypedBody}
use Rattle.mir_syntax.specs.Shapes.{◌>>=◌}
use Rattle.mir_semantics.specs.Values.{Addr, Value}
use Rattle.mir_semantics.specs.Memory.{Memory, local_at, write, close_frame}
use Rattle.mir_semantics.specs.Step.{Code, Control, State, on, Here, next_stmt, exec, perform, step}
use Rattle.mir_renaming.specs.Renaming.{AddrRel}
use Rattle.mir_syntax.proofs.Binds.{bind_some, some_bind}
use Rattle.mir_renaming.proofs.Memory.{write_other, write_back}
use Rattle.mir_renaming.proofs.Frames.{close_other}
use Rattle.mir_relate.specs.Simulation.{keep_on, moves}
use Rattle.mir_renaming.proofs.Stores.{write_there}
use Rattle.inline_pass.proofs.refines.Into.{Stands, into, close_back}
use Rattle.inline_pass.proofs.refines.Stacks.{Onward}

pub onward_refl : (F : Stands) (n : ℕ) (m2 m1 : Memory) → Onward F n m2 m1 m2 m1
onward_refl F n m2 m1 = record { room = λ a x w l e. (w, e); back = λ e x a z u q l k. (u, k); stay = λ a z w l free e. e }

module _ (F : Stands) (n : ℕ) (m2 m1 : Memory) where
  pub onward_bare : (k2 k1 : Memory) (a b : Addr) (v w : Value) → Onward F n m2 m1 k2 k1 → AddrRel (into F) a b → Onward F n m2 m1 (write k2 b w) (write k1 a v)
  onward_bare k2 k1 a b v w o ab = record {
    room = λ c x t l e. (let (t', e') = o.room c x t l e in write_there k2 b w c x t' e');
    back = λ e x c z t q l k. (let (t', k') = write_back k1 a v e x t k in o.back e x c z t' q l k');
    stay = λ c z t l free e. write_other k2 b w c z (λ p q. free a.frame a.local (ab.root ∙ ap₂ (λ s t. Some (s, t)) (sym p) (sym q))) ∙ o.stay c z t l free e;
  }

  pub onward_both : (k2 k1 : Memory) (a b : Addr) (v w : Value) (x : ℕ) (u : Value) → Onward F n m2 m1 k2 k1 → AddrRel (into F) a b → local_at k1 a.frame a.local ≡ Some u → Onward F n m2 m1 (write k2 b w) (write k1 a v)
  onward_both k2 k1 a b v w y u o ab live = onward_bare k2 k1 a b v w o ab

  pub onward_alone : (k2 k1 : Memory) (a : Addr) (v : Value) → Onward F n m2 m1 k2 k1 → Onward F n m2 m1 k2 (write k1 a v)
  onward_alone k2 k1 a v o = record { room = o.room; back = λ e x c z t q l k. (let (t', k') = write_back k1 a v e x t k in o.back e x c z t' q l k'); stay = o.stay }

-- frames end: the target's has the number
pub onward_close : (F : Stands) (m2 m1 : Memory) (a e : ℕ) → Onward F a m2 m1 (close_frame m2 a) (close_frame m1 e)
onward_close F m2 m1 a e = record {
  room = λ c x w l q. (w, close_other m2 a c x (λ s. omega (arith, s, l)) ∙ q);
  back = λ i x c z u q l k. (u, (close_back m1 e i x u k).1);
  stay = λ c z w l free q. close_other m2 a c z (λ s. omega (arith, s, l)) ∙ q;
}

-- of the source alone
pub onward_close_alone : (F : Stands) (n : ℕ) (m2 m1 : Memory) (e : ℕ) → Onward F n m2 m1 m2 (close_frame m1 e)
onward_close_alone F n m2 m1 e = record { room = λ c x w l q. (w, q); back = λ i x c z u q l k. (u, (close_back m1 e i x u k).1); stay = λ c z w l free q. q }

-- a write of the target alone, to a frame that isn't below the number
pub onward_target : (F : Stands) (n : ℕ) (m2 m1 : Memory) (b : Addr) (w : Value) → n ≤ b.frame → Onward F n m2 m1 (write m2 b w) m1
onward_target F n m2 m1 b w le = record {
  room = λ c x t l e. write_there m2 b w c x t e;
  back = λ e x c z u q l k. (u, k);
  stay = λ c z t l free e. write_other m2 b w c z (λ p q. omega (arith, p, l, le)) ∙ e;
}

-- ---- statements one after the other

abbrev pub exec_all : Here → Memory → List TypedStmt → Option Memory
exec_all h m [] = Some m
exec_all h m (s ∷ ss) = exec h m s >>= λ m'. exec_all h m' ss

abbrev pub farther : Control → ℕ → Control
farther c n = record c { at = c.at + n }

-- the statements that stand in a block from a place on
abbrev pub StandFrom : List TypedStmt → ℕ → List TypedStmt → Type 0
StandFrom ss a [] = Unit {0}
StandFrom ss a (t ∷ ts) = (slice_get ss a ≡ Some t) × StandFrom ss (suc a) ts

pub stmt_moves : (C : Code) (s : State) (b : TypedBody) (k : TypedBlock) (t : TypedStmt) (m : Memory) → slice_get C.bodies s.top.function ≡ Some b → slice_get b.blocks s.top.block ≡ Some k → slice_get k.stmts s.top.at ≡ Some t → exec (record { shapes = C.shapes; locals = b.locals; frame = s.top.frame }) s.memory t ≡ Some m → step C s ≡ Some (on (record s { memory = m; top = next_stmt s.top }))
unfolding step perform
stmt_moves C s b k t m e1 e2 e3 e4 = some_bind _ e1 (some_bind _ e2 (ap (λ o. perform C (record { shapes = C.shapes; locals = b.locals; frame = s.top.frame }) s k.term o) e3 ∙ some_bind _ e4 refl))

pub all_move : (C : Code) (s : State) (b : TypedBody) (k : TypedBlock) (ts : List TypedStmt) (m : Memory) → slice_get C.bodies s.top.function ≡ Some b → slice_get b.blocks s.top.block ≡ Some k → StandFrom k.stmts s.top.at ts → exec_all (record { shapes = C.shapes; locals = b.locals; frame = s.top.frame }) s.memory ts ≡ Some m → (s' : State) × (moves C (length ts) s ≡ Some s') × (s' ≡ record s { memory = m; top = farther s.top (length ts) })
all_move C s b k [] m e1 e2 h e =
    let same : s.memory ≡ m = grind arith in
    let at : s.top.at ≡ s.top.at + 0 = omega arith in
    (s, refl, ap₂ (λ m a. record s { memory = m; top = record s.top { at = a } }) same at)
all_move C s b k (t ∷ ts) m e1 e2 h e =
    let (m', e3, e4) = bind_some e in
    let s' : State = record s { memory = m'; top = next_stmt s.top } in
    let (s'', q, r) = all_move C s' b k ts m e1 e2 h.1 e4 in
    let at : suc s.top.at + length ts ≡ s.top.at + suc (length ts) = omega arith in
    (s'', ap (keep_on (moves C (length ts))) (stmt_moves C s b k t m' e1 e2 h.0 e3) ∙ q, r ∙ ap (λ a. record s { memory = m; top = record s.top { at = a } }) at)
