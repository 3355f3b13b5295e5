-- A call that is replaced in a valid crate: the bodies on both sides, the text of their frames, and what a step owes.
use Rattle.std.proofs.Common.{◌≡◌, ◌⊎◌, inl, inr, refl, sym, ap, ap₂, ◌∙◌, subst, ℕ, zero, suc, ◌+◌, ◌<◌, ◌≤◌, true, false, List, ◌∷◌, length, Option, Some, None, slice_get, arith}
use Rattle.std.proofs.lemmas.Bool.{cases_eq}
use Rattle.std.proofs.lemmas.Option.{slice_get_within}
use Rattle.mir_syntax.specs.declared.types.FnId.{FnId}
use Rattle.mir_syntax.specs.declared.body.Place.{Place}
use Rattle.mir_syntax.specs.declared.body.Operand.{Operand}
use Rattle.mir_syntax.specs.declared.body.Callee.TheVariants as callee
use Rattle.mir_syntax.specs.declared.body.Term.{Term}
use Rattle.mir_syntax.specs.declared.body.Term.TheVariants.{Return, Call}
use Rattle.mir_syntax.specs.Tree.{Tree}
use Rattle.mir_syntax.specs.Crate.{TypedStmt, TypedBlock, TypedBody, TypedFunction, Crate}
use Rattle.mir_syntax.specs.Shapes.{Shape, place_ty}
use Rattle.mir_rules.specs.Formed.{body_formed, term_formed}
use Rattle.mir_rules.specs.Valid.{Valid}
use Rattle.mir_rules.proofs.ValidCrates.{body_formed_at, stmt_formed_at, term_formed_at, result_there}
use Rattle.mir_semantics.specs.Values.{variant}
use Rattle.mir_semantics.specs.Memory.{Memory}
use Rattle.mir_semantics.specs.Step.{Code, code_of, Control, State, Next, next_stmt, go_on, on, stop, fail, finish, perform, step}
use Rattle.mir_renaming.specs.Renaming.{Renaming}
use Rattle.mir_syntax.proofs.Binds.{some_bind}
use Rattle.mir_renaming.proofs.Statements.{PayloadsOk, Linked}
use Rattle.mir_renaming.proofs.Types.{HasTy, value_at_ty, resolve_ty, blank_fits}
use Rattle.mir_renaming.proofs.Typed.{ValidCode, Typed, step_typed}
use Rattle.mir_relate.specs.Simulation.{keep_on, moves}
use Rattle.valid_runs.proofs.Codes.{body_there, body_back}
use Rattle.trim_locals.specs.Trimmed.{renamed_stmt}
use Rattle.mir_relate.specs.Renumbered.{StmtSame}
use Rattle.mir_relate.proofs.Leaves.{some_val}
use Rattle.mir_syntax.proofs.Trees.{slice_get-front}
use Rattle.inline_pass.specs.Spliced.{after}
use Rattle.mir_rules.specs.Drops.{is_drop}
use Rattle.inline_pass.proofs.refines.Into.{Into, Stands, into, into_parts}
use Rattle.inline_pass.proofs.Text.{sum_zero, stmt_ready, term_ready, itself, stmt_itself}
use Rattle.inline_pass.proofs.refines.Stacks as stacks
use Rattle.inline_pass.proofs.refines.Stacks.{OneCall, Onward, own_onward, inner_onward, stack_onward, onward_less}
use Rattle.inline_pass.proofs.refines.Follow as follow
use Rattle.inline_pass.proofs.refines.Follow.{Longer, return_rel}
use Rattle.inline_pass.proofs.refines.Running.{Off}
use Rattle.inline_pass.proofs.Bodies.{b2, calling, own_locals, own_blocks, call_block}

abbrev pub NoReturn : Term → Type 0
NoReturn Return = ⊥
NoReturn _ = Unit {0}

-- a call that is replaced in a valid crate, and the target's bodies
pub record Setting : Type 1 where
  pub C : Crate
  pub valid : Valid C
  pub bodies2 : List TypedBody
  pub f : ℕ
  pub fn : TypedFunction
  pub hn : TypedFunction
  pub fn_at : slice_get C.functions f ≡ Some fn
  pub g : FnId
  pub hn_at : slice_get C.functions g.0 ≡ Some hn
  pub apart : g.0 ≡ f → ⊥
  pub i : ℕ
  pub k : TypedBlock
  pub is_k : slice_get fn.body.blocks i ≡ Some k
  pub p : Place
  pub os : List Operand
  pub next : ℕ
  pub term_is : k.term ≡ Call p (callee.Local g) os next
  pub is2 : slice_get bodies2 f ≡ Some (b2 fn.body hn.body i k is_k p os next)
  pub others : (j : ℕ) → (j ≡ f → ⊥) → slice_get bodies2 j ≡ slice_get (code_of C).bodies j
  pub valid2 : ValidCode (record (code_of C) { bodies = bodies2 })
  pub calm : (j : ℕ) (b : TypedBody) (m : ℕ) (n : TypedBlock) → slice_get (code_of C).bodies j ≡ Some b → slice_get b.blocks m ≡ Some n → is_drop n.term ≡ false
  pub few : suc (length os) ≤ length hn.body.locals
  pub tp : Tree
  pub p_ty : place_ty (code_of C).shapes fn.body.locals p ≡ Some tp
  pub result : (t : Tree) → place_ty (code_of C).shapes fn.body.locals p ≡ Some t → slice_get hn.body.locals 0 ≡ Some t

-- the words in which a setting is spoken of: the code on both sides, the bodies of caller and callee, that of the caller without the call, how many
-- blocks and locals the caller has, and what relates the sides
pub record Words : Type 1 where
  pub X : OneCall
  pub C1 : Code
  pub C2 : Code
  pub D : List Shape
  pub b1 : TypedBody
  pub h : TypedBody
  pub bt : TypedBody
  pub B : ℕ
  pub L : ℕ
  -- the local that keeps the destination
  pub d : ℕ
  pub Rel : State → State → Type 0
  pub Stack : Stands → Memory → Memory → ℕ → List Control → List Control → Type 0
  pub Own : Stands → Memory → Memory → Control → Control → Type 0
  pub Inner : Stands → Memory → Memory → Control → Control → Control → Type 0

module _ (S : Setting) where
  open S use {C, bodies2, f, fn, hn, g, i, k, is_k, p, os, next}

  abbrev pub one_call : OneCall
  one_call = record { C1 = code_of C; bodies2 = bodies2; f = f; g = g.0; b1 = fn.body; h = hn.body; p = p; next = next }

  abbrev pub words : Words
  words = record {
    X = one_call;
    C1 = code_of C;
    C2 = record (code_of C) { bodies = bodies2 };
    D = (code_of C).shapes;
    b1 = fn.body;
    h = hn.body;
    bt = b2 fn.body hn.body i k is_k p os next;
    B = length fn.body.blocks;
    L = length fn.body.locals;
    d = length fn.body.locals + length hn.body.locals;
    Rel = stacks.Rel one_call;
    Stack = stacks.Stack one_call;
    Own = stacks.Own one_call;
    Inner = stacks.Inner one_call;
  }

module _ (S : Setting) where
  open S use {C, valid, bodies2, f, fn, hn, fn_at, g, hn_at, apart, i, k, is_k, p, os, next, term_is, is2, others, valid2, calm, few, tp, p_ty}
  open words S use {X, C1, C2, D, b1, h, bt, B, L, Rel, Stack, Own, Inner}

  pub is1 : slice_get C1.bodies f ≡ Some b1
  is1 = body_there C.functions f fn fn_at

  pub is_h : slice_get C1.bodies g.0 ≡ Some h
  is_h = body_there C.functions g.0 hn hn_at

  pub formed : (j : ℕ) (b : TypedBody) → slice_get C1.bodies j ≡ Some b → body_formed C b ≡ true
  formed j b e =
      let (n, at, same) = body_back C.functions j b e in
      subst (λ (b : TypedBody). body_formed C b ≡ true) same (body_formed_at C valid j n at)

  pub first_of : (j : ℕ) (b : TypedBody) → slice_get C1.bodies j ≡ Some b → (t : Tree) × (slice_get b.locals 0 ≡ Some t)
  first_of j b e = result_there C b (formed j b e)

  pub pairs : (j : ℕ) (bs : TypedBody) → slice_get C1.bodies j ≡ Some bs → (b : TypedBody) × (slice_get bodies2 j ≡ Some b) × Longer b bs
  pairs j bs e = go (cases_eq j f)
    where
      go : (j ≡ f) ⊎ (j ≡ f → ⊥) → (b : TypedBody) × (slice_get bodies2 j ≡ Some b) × Longer b bs
      go (inl q) =
          let same : b1 ≡ bs = some_val (sym is1 ∙ ap (slice_get C1.bodies) (sym q) ∙ e) in
          let (t, at) = first_of j bs e in
          (bt, ap (slice_get bodies2) q ∙ is2, record { types = λ x t e. own_locals b1 h i k is_k p os next x t (ap (λ (b : TypedBody). slice_get b.locals x) same ∙ e); first = t; is_first = at })
      go (inr ne) = let (t, at) = first_of j bs e in (bs, others j ne ∙ e, record { types = λ x t e. e; first = t; is_first = at })

  pub p_in : p.local < L
  p_in =
      let rd = term_ready C b1 (Off 0 L) itself (λ x lt. (lt, sum_zero x)) (Call p (callee.Local g) os next) (ap (term_formed C b1) (sym term_is) ∙ term_formed_at C b1 (formed f b1 is1) i k is_k) in
      rd.0.0.0

  -- ---- blocks of frames that stand alone

  abbrev pub IsSite : ℕ → ℕ → TypedBlock → Type 0
  IsSite j m n = (j ≡ f) × (m ≡ i) × (n ≡ k)

  pub own_block : (j : ℕ) (bs : TypedBody) (m : ℕ) (n : TypedBlock) → slice_get C1.bodies j ≡ Some bs → slice_get bs.blocks m ≡ Some n → (b : TypedBody) × (n2 : TypedBlock) × (slice_get bodies2 j ≡ Some b) × (slice_get b.blocks m ≡ Some n2) × ((x : ℕ) (t : Tree) → slice_get bs.locals x ≡ Some t → slice_get b.locals (0 + x) ≡ Some t) × ((a : ℕ) (st : TypedStmt) → slice_get n.stmts a ≡ Some st → slice_get n2.stmts a ≡ Some st) × (IsSite j m n ⊎ (n2 ≡ n))
  own_block j bs m n e e2 = go (cases_eq j f)
    where
      from_zero : (b : TypedBody) → ((x : ℕ) (t : Tree) → slice_get bs.locals x ≡ Some t → slice_get b.locals x ≡ Some t) → (x : ℕ) (t : Tree) → slice_get bs.locals x ≡ Some t → slice_get b.locals (0 + x) ≡ Some t
      from_zero b same x t e = ap (slice_get b.locals) (sum_zero x) ∙ same x t e

      in_f : j ≡ f → (m ≡ i) ⊎ (m ≡ i → ⊥) → (b : TypedBody) × (n2 : TypedBlock) × (slice_get bodies2 j ≡ Some b) × (slice_get b.blocks m ≡ Some n2) × ((x : ℕ) (t : Tree) → slice_get bs.locals x ≡ Some t → slice_get b.locals (0 + x) ≡ Some t) × ((a : ℕ) (st : TypedStmt) → slice_get n.stmts a ≡ Some st → slice_get n2.stmts a ≡ Some st) × (IsSite j m n ⊎ (n2 ≡ n))
      in_f q (inl r) =
          let same : b1 ≡ bs = some_val (sym is1 ∙ ap (slice_get C1.bodies) (sym q) ∙ e) in
          let is_n : k ≡ n = some_val (sym is_k ∙ ap₂ (λ (b : TypedBody) m. slice_get b.blocks m) same (sym r) ∙ e2) in
          let types : (x : ℕ) (t : Tree) → slice_get bs.locals x ≡ Some t → slice_get bt.locals x ≡ Some t = λ x t e. own_locals b1 h i k is_k p os next x t (ap (λ (b : TypedBody). slice_get b.locals x) same ∙ e) in
          (bt, calling b1 h i k is_k p os next, ap (slice_get bodies2) q ∙ is2, ap (slice_get bt.blocks) r ∙ call_block b1 h i k is_k p os next, from_zero bt types, (λ a st s. slice_get-front k.stmts _ a st (ap (λ (n : TypedBlock). slice_get n.stmts a) is_n ∙ s)), inl (q, r, sym is_n))
      in_f q (inr ne) =
          let same : b1 ≡ bs = some_val (sym is1 ∙ ap (slice_get C1.bodies) (sym q) ∙ e) in
          let types : (x : ℕ) (t : Tree) → slice_get bs.locals x ≡ Some t → slice_get bt.locals x ≡ Some t = λ x t e. own_locals b1 h i k is_k p os next x t (ap (λ (b : TypedBody). slice_get b.locals x) same ∙ e) in
          (bt, n, ap (slice_get bodies2) q ∙ is2, own_blocks b1 h i k is_k p os next m n ne (ap (λ (b : TypedBody). slice_get b.blocks m) same ∙ e2), from_zero bt types, (λ a st s. s), inr refl)

      go : (j ≡ f) ⊎ (j ≡ f → ⊥) → (b : TypedBody) × (n2 : TypedBlock) × (slice_get bodies2 j ≡ Some b) × (slice_get b.blocks m ≡ Some n2) × ((x : ℕ) (t : Tree) → slice_get bs.locals x ≡ Some t → slice_get b.locals (0 + x) ≡ Some t) × ((a : ℕ) (st : TypedStmt) → slice_get n.stmts a ≡ Some st → slice_get n2.stmts a ≡ Some st) × (IsSite j m n ⊎ (n2 ≡ n))
      go (inl q) = in_f q (cases_eq m i)
      go (inr ne) = (bs, n, others j ne ∙ e, e2, from_zero bs (λ x t e. e), (λ a st s. s), inr refl)

  -- ---- the text of frames

  pub stmt_self : (j : ℕ) (bs : TypedBody) (m : ℕ) (n : TypedBlock) (a : ℕ) (st : TypedStmt) → slice_get C1.bodies j ≡ Some bs → slice_get bs.blocks m ≡ Some n → slice_get n.stmts a ≡ Some st → StmtSame (Off 0 (length bs.locals)) st st
  stmt_self j bs m n a st e e2 e3 = subst (StmtSame (Off 0 (length bs.locals)) st) (stmt_itself st) (stmt_ready C bs (Off 0 (length bs.locals)) itself (λ x lt. (lt, sum_zero x)) st (stmt_formed_at C bs (formed j bs e) m a n st e2 e3))

  pub stmt_copy : (m : ℕ) (n : TypedBlock) (a : ℕ) (st : TypedStmt) → slice_get h.blocks m ≡ Some n → slice_get n.stmts a ≡ Some st → StmtSame (Off L (length h.locals)) st (renamed_stmt (after L) st)
  stmt_copy m n a st e2 e3 = stmt_ready C h (Off L (length h.locals)) (after L) (λ x lt. (lt, refl)) st (stmt_formed_at C h (formed g.0 h is_h) m a n st e2 e3)

  -- behind a statement there is the terminator at least
  pub farther : (c : Control) (b : TypedBody) (n : TypedBlock) (st : TypedStmt) → slice_get C1.bodies c.function ≡ Some b → slice_get b.blocks c.block ≡ Some n → slice_get n.stmts c.at ≡ Some st → stacks.Reached X (next_stmt c)
  farther c b n st is at_n at b' k' is' at' =
      let same : b ≡ b' = some_val (sym is ∙ is') in
      let same' : n ≡ k' = some_val (sym at_n ∙ ap (λ (b : TypedBody). slice_get b.blocks c.block) same ∙ at') in
      let lt = slice_get_within n.stmts c.at st at in
      subst (λ (n : TypedBlock). suc c.at ≤ length n.stmts) same' (omega (arith, lt))

  -- ---- what is owed

  abbrev pub Answer : State → Next → Type 0
  Answer s2 (stop o) = step C2 s2 ≡ Some (stop o)
  Answer s2 (fail t) = Unit {0}
  Answer s2 (on s1) = (n : ℕ) × (s : State) × (moves C2 (suc n) s2 ≡ Some s) × Rel s s1

  pub answer_at : (s2 : State) (x y : Next) → Some y ≡ Some x → Answer s2 y → Answer s2 x
  answer_at s2 x y e a = subst (Answer s2) (some_val e) a

  pub by_step : (s2 : State) (x : Next) → follow.Follows X pairs (step C2 s2) x → Answer s2 x
  by_step s2 (stop o) a = a
  by_step s2 (fail t) a = tt
  by_step s2 (on s1) (s, e, r) = (0, s, ap (keep_on (moves C2 0)) e, r)

  pub typed_moves : (n : ℕ) (s s' : State) → Typed C2 valid2 s → moves C2 n s ≡ Some s' → Typed C2 valid2 s'
  typed_moves zero s s' ty e = subst (Typed C2 valid2) (some_val e) ty
  typed_moves (suc n) s s' ty e = go (step C2 s) refl e (λ s0 ty e. typed_moves n s0 s' ty e)
    where
      go : (o : Option Next) → step C2 s ≡ o → keep_on (moves C2 n) o ≡ Some s' → ((s0 : State) → Typed C2 valid2 s0 → moves C2 n s0 ≡ Some s' → Typed C2 valid2 s') → Typed C2 valid2 s'
      go None q e ih = absurd (grind arith)
      go (Some (on s0)) q e ih = ih s0 (step_typed C2 valid2 s (on s0) ty q) e
      go (Some (stop o)) q e ih = absurd (grind arith)
      go (Some (fail t)) q e ih = absurd (grind arith)

  -- what the types of the target give: the payload of a variant that stands, and what a blank is related to
  pub payloads : (s2 : State) (ty : Typed C2 valid2 s2) (b : TypedBody) → slice_get bodies2 s2.top.function ≡ Some b → (ts1 : List Tree) (f1 : ℕ) (j : Renaming) → PayloadsOk D ts1 b.locals f1 s2.top.frame j j (λ f x r e. e) s2.memory
  payloads s2 ty b is ts1 f1 j q a t fields n u e1 e2 e3 e4 =
      let G = ty.types in
      let at = resolve_ty D G (valid2.blank_ok G) b.locals s2.top.frame (λ x t l. ty.top.locals b is x t l) s2.memory q a t ty.mem e2 e1 in
      let (us, e5, hu) = value_at_ty D G s2.memory a t (variant n u) ty.mem at e4 in
      blank_fits D G j fields u (subst (λ us. HasTy D G us u) (some_val (sym e5 ∙ e3)) hu)

  pub term_step : (s2 : State) (b : TypedBody) (n : TypedBlock) → slice_get bodies2 s2.top.function ≡ Some b → slice_get b.blocks s2.top.block ≡ Some n → slice_get n.stmts s2.top.at ≡ None → step C2 s2 ≡ finish C2 (record { shapes = D; locals = b.locals; frame = s2.top.frame }) s2 n.term
  unfolding step perform
  term_step s2 b n e1 e2 e3 = some_bind _ e1 (some_bind _ e2 (ap (λ o. perform C2 (record { shapes = D; locals = b.locals; frame = s2.top.frame }) s2 n.term o) e3))

  pub same_local : (F : Stands) (e x x' a y : ℕ) → into F e x ≡ Some (a, y) → into F e x' ≡ Some (a, y) → x' ≡ x
  same_local F e x x' a y q q' =
      let (j, is, _, _, z) = into_parts F e x a y q in
      let (j', is', _, _, z') = into_parts F e x' a y q' in
      let same : j ≡ j' = some_val (sym is ∙ is') in
      let z'' : j.offset + x' ≡ y = subst (λ (j : Into). j.offset + x' ≡ y) (sym same) z' in
      omega (arith, z, z'')

-- two states that are related, at a step
pub record Moment (S : Setting) : Type 0 where
  pub s2 : State
  pub s1 : State
  pub r : (words S).Rel s2 s1
  pub ty : Typed (words S).C2 S.valid2 s2
  pub below : s2.top.frame < s2.next

-- what stands where, as numbers of locals too, the target's frame, and what a step keeps of memory
pub record Seen : Type 1 where
  pub F : Stands
  pub J : Renaming
  pub a0 : ℕ
  pub On : Memory → Memory → Type 0

module _ (S : Setting) (now : Moment S) where
  open now use {s2, s1, r}

  abbrev pub seen : Seen
  seen = record { F = r.stands; J = into r.stands; a0 = s2.top.frame; On = Onward r.stands s2.next s2.memory s1.memory }

  -- a statement on both sides
  pub stmt_answer : (x : Next) (k2 k1 : Memory) → step (words S).C2 s2 ≡ go_on s2 k2 (next_stmt s2.top) → Linked (into r.stands) (into r.stands) k2 k1 → (words S).Stack r.stands k2 k1 s2.next (next_stmt s2.top ∷ s2.callers) (next_stmt s1.top ∷ s1.callers) → go_on s1 k1 (next_stmt s1.top) ≡ Some x → Answer S s2 x
  stmt_answer x k2 k1 moved l st e =
      answer_at S s2 x _ e (0, _, ap (keep_on (moves (words S).C2 0)) moved, record { stands = r.stands; fresh = r.fresh; low = r.low; answers = r.answers; trace = r.trace; link = l; stack = st })
