-- Steps of a frame that stands alone.
use Rattle.std.proofs.Common.{◌≡◌, ◌⊎◌, inl, inr, refl, sym, ap, ap₂, ◌∙◌, subst, ℕ, suc, ◌+◌, ◌<◌, false, List, [], ◌∷◌, map, length, Option, Some, None, slice_get, arith}
use Rattle.std.proofs.lemmas.Option.{slice_get_within}
use Rattle.mir_syntax.specs.declared.body.Arm.{Arm}
use Rattle.mir_syntax.specs.declared.body.Operand.{Operand}
use Rattle.mir_syntax.specs.declared.body.Callee.TheVariants as callee
use Rattle.mir_syntax.specs.declared.body.Term.{Term}
use Rattle.mir_syntax.specs.declared.body.Term.TheVariants.{Goto, Switch, Return, Unreachable, Drop, Call, Assert}
use Rattle.mir_syntax.specs.Tree.{Tree}
use Rattle.mir_syntax.specs.Crate.{TypedStmt, TypedBlock, TypedBody}
use Rattle.mir_syntax.specs.Shapes.{◌>>=◌}
use Rattle.mir_syntax.proofs.Lists.{slice_get-none}
use Rattle.mir_rules.specs.Formed.{term_formed}
use Rattle.mir_rules.proofs.ValidCrates.{term_formed_at}
use Rattle.mir_semantics.specs.Values.{Value, blank}
use Rattle.mir_semantics.specs.Memory.{Memory, local_at, open_frame, close_frame}
use Rattle.mir_semantics.specs.Step.{Dest, Control, Next, Here, local_addr, exec, to_block, next_stmt, go_on, new_slots, entered, enter, call, finish, step}
use Rattle.mir_renaming.specs.Renaming.{Renaming, AddrRel, ValueRel}
use Rattle.mir_syntax.proofs.Binds.{bind_some, some_bind}
use Rattle.mir_renaming.proofs.Statements.{read_at_rel}
use Rattle.mir_renaming.proofs.Types.{blank_fits}
use Rattle.mir_relate.specs.Simulation.{moves}
use Rattle.mir_renaming.proofs.Ghosts.{Flat}
use Rattle.mir_renaming.proofs.Frames.{new_control}
use Rattle.trim_locals.specs.Trimmed.{renamed_operand}
use Rattle.mir_relate.specs.Renumbered.{Numbering, OperandSame, OperandsSame}
use Rattle.mir_rules.specs.Drops.{is_drop}
use Rattle.mir_relate.proofs.Leaves.{some_val}
use Rattle.inline_pass.proofs.refines.Into.{into_at, close_both}
use Rattle.inline_pass.proofs.Text.{sum_zero, TermReady, term_ready, itself, term_operand_itself, operands_itself, place_lift, operands_lift}
use Rattle.inline_pass.proofs.refines.Stacks as stacks
use Rattle.inline_pass.proofs.refines.Stacks.{Onward, own_onward, inner_onward, stack_onward, onward_less}
use Rattle.inline_pass.proofs.refines.Onwards.{onward_close, stmt_moves}
use Rattle.inline_pass.proofs.refines.Follow as follow
use Rattle.inline_pass.proofs.refines.Follow.{Longer, return_rel}
use Rattle.inline_pass.proofs.refines.Running.{Off, stmt_rel, finish_rel}
use Rattle.inline_pass.proofs.refines.Running as running
use Rattle.inline_pass.proofs.Bodies.{extra, own_locals}
use Rattle.inline_pass.proofs.refines.Site.{site_rel}
use Rattle.inline_pass.proofs.refines.Setting.{NoReturn, Setting, farther, words, Moment, seen, is1, is_h, formed, first_of, pairs, IsSite, stmt_self, Answer, answer_at, stmt_answer, by_step, typed_moves, payloads, term_step, same_local}

module _ (S : Setting) where
  open S use {C, valid, bodies2, f, fn, hn, fn_at, g, hn_at, apart, i, k, is_k, p, os, next, term_is, is2, others, valid2, calm, few, tp, p_ty, result}
  open words S use {X, C1, C2, D, b1, h, bt, B, L, Rel, Stack, Own, Inner}

  module _ (now : Moment S) where
    open now use {s2, s1, r, ty, below}
    open seen S now use {F, J, a0, On}

    site_answer : (x : Next) (to : Dest) (args : List Value × Memory) (m : Memory) → entered D s1 args.1 (to_block next s1.top) g.0 args.0 (Some to) h ≡ Some x → moves C2 (suc (length (extra b1 h i k is_k p os next))) s2 ≡ Some (record s2 { memory = m; top = to_block B (record s2.top { at = s2.top.at + length (extra b1 h i k is_k p os next) }) }) → Rel (record s2 { memory = m; top = to_block B (record s2.top { at = s2.top.at + length (extra b1 h i k is_k p os next) }) }) (record s1 { memory = open_frame args.1 s1.next (new_slots D h.locals args.0); top = new_control g.0 s1.next (Some to); callers = to_block next s1.top ∷ s1.callers; next = suc s1.next }) → Answer S s2 x
    unfolding entered
    site_answer x to args m e moved rel = answer_at S s2 x _ e (length (extra b1 h i k is_k p os next), _, moved, rel)

    -- ---- a frame that stands alone

    module _ (own : Own F s2.memory s1.memory s2.top s1.top) (more : Stack F s2.memory s1.memory a0 s2.callers s1.callers) (n n2 : TypedBlock) (b : TypedBody) (at_n : slice_get own.body.blocks s1.top.block ≡ Some n) (is_b : slice_get bodies2 s1.top.function ≡ Some b) (at_n2 : slice_get b.blocks s1.top.block ≡ Some n2) (types : (x : ℕ) (t : Tree) → slice_get own.body.locals x ≡ Some t → slice_get b.locals (0 + x) ≡ Some t) (same_stmts : (a : ℕ) (st : TypedStmt) → slice_get n.stmts a ≡ Some st → slice_get n2.stmts a ≡ Some st) (kind : IsSite S s1.top.function s1.top.block n ⊎ (n2 ≡ n)) where
      abbrev ts1 : List Tree
      ts1 = own.body.locals

      abbrev A1 : Here
      A1 = record { shapes = D; locals = ts1; frame = s1.top.frame }

      is_b2 : slice_get bodies2 s2.top.function ≡ Some b
      is_b2 = ap (slice_get bodies2) own.function ∙ is_b

      at_b2 : slice_get b.blocks s2.top.block ≡ Some n2
      at_b2 = ap (slice_get b.blocks) own.block ∙ at_n2

      own_clear : (x y : ℕ) → J s1.top.frame x ≡ Some (a0, y) → (e x' : ℕ) (u : Value) → J e x' ≡ Some (a0, y) → local_at s1.memory e x' ≡ Some u → (e ≡ s1.top.frame) × (x' ≡ x)
      own_clear x y q e x' u q' live = let same = own.alone e x' y u q' live in (same, same_local S F s1.top.frame x x' a0 y q (ap (λ e. J e x') (sym same) ∙ q'))

      own_at : (c2 c1 : Control) (k2 k1 : Memory) → c2.function ≡ s2.top.function → c1.function ≡ s1.top.function → c2.frame ≡ a0 → c1.frame ≡ s1.top.frame → c2.dest ≡ s2.top.dest → c1.dest ≡ s1.top.dest → c2.block ≡ c1.block → c2.at ≡ c1.at → c1.dropping ≡ None → stacks.Reached X c1 → On k2 k1 → Own F k2 k1 c2 c1
      own_at c2 c1 k2 k1 q1 q2 q3 q4 q5 q6 q7 q8 q9 far ow =
          let o = own_onward X F s2.next s2.memory s1.memory k2 k1 s2.top s1.top below ow own in
          record {
            function = q1 ∙ o.function ∙ sym q2;
            block = q7;
            place = q8;
            body = o.body;
            is_body = ap (slice_get C1.bodies) q2 ∙ o.is_body;
            ghost = ap F q4 ∙ o.ghost ∙ ap (λ a. Some (record { frame = a; offset = 0; size = length o.body.locals })) (sym q3);
            dest = subst (λ y. stacks.DestsRel X J c1.dest y) (sym q5) (subst (λ y. stacks.DestsRel X J y s2.top.dest) (sym q6) o.dest);
            calm = q9;
            far = far;
            shape = λ e j is at. o.shape e j is (at ∙ q3);
            alone = λ e x z u is live. o.alone e x z u (is ∙ ap (λ a. Some (a, z)) q3) live ∙ sym q4;
            room = λ b is x t at. (let (w, e) = o.room b (ap (slice_get bodies2) (sym q1) ∙ is) x t at in (w, ap (λ a. local_at k2 a x) q3 ∙ e));
          }

      own_stack : (c2 c1 : Control) (k2 k1 : Memory) → c2.frame ≡ a0 → Own F k2 k1 c2 c1 → On k2 k1 → Stack F k2 k1 s2.next (c2 ∷ s2.callers) (c1 ∷ s1.callers)
      own_stack c2 c1 k2 k1 q o ow = (
        subst (λ a. a < s2.next) (sym q) below,
        inl (c1, s1.callers, refl, o, subst (λ a. Stack F k2 k1 a s2.callers s1.callers) (sym q) (stack_onward X F a0 s2.memory s1.memory k2 k1 s2.callers s1.callers (onward_less F s2.next a0 s2.memory s1.memory k2 k1 (omega (arith, below)) ow) more)),
      )

      To : ℕ → ℕ → Type 0
      To t u = t ≡ u

      goes : (t u : ℕ) → To t u → (k2 k1 : Memory) → On k2 k1 → Stack F k2 k1 s2.next (to_block u s2.top ∷ s2.callers) (to_block t s1.top ∷ s1.callers)
      unfolding To
      goes t u q k2 k1 ow = own_stack (to_block u s2.top) (to_block t s1.top) k2 k1 refl (own_at (to_block u s2.top) (to_block t s1.top) k2 k1 refl refl refl refl refl refl (sym q) refl refl (λ b k e s. omega arith) ow) ow

      pub own_stmt : (st : TypedStmt) (x : Next) → slice_get n.stmts s1.top.at ≡ Some st → (exec A1 s1.memory st >>= λ m. go_on s1 m (next_stmt s1.top)) ≡ Some x → Answer S s2 x
      own_stmt st x at e =
          let (k1, e1, e2) = bind_some e in
          let same = stmt_self S s1.top.function own.body s1.top.block n s1.top.at st own.is_body at_n at in
          let (k2, q, l, ow) = stmt_rel X (pairs S) s2 s1 r ts1 b.locals 0 own.ghost types st st k1 same own_clear (λ _. payloads S s2 ty b is_b2 ts1 s1.top.frame J) e1 in
          let at2 : slice_get n2.stmts s2.top.at ≡ Some st = ap (slice_get n2.stmts) own.place ∙ same_stmts s1.top.at st at in
          let moved = stmt_moves C2 s2 b n2 st k2 is_b2 at_b2 at2 q in
          stmt_answer S now x k2 k1 moved l
          (own_stack (next_stmt s2.top) (next_stmt s1.top) k2 k1 refl (own_at (next_stmt s2.top) (next_stmt s1.top) k2 k1 refl refl refl refl refl refl own.block (ap suc own.place) own.calm (farther S s1.top own.body n st own.is_body at_n at) ow) ow)
          e2

      -- ---- its terminators

      abbrev A2 : Here
      A2 = record { shapes = D; locals = b.locals; frame = a0 }

      abbrev R0 : Numbering
      R0 = Off 0 (length ts1)

      zero_off : (x : ℕ) → x < length ts1 → R0 x (itself x)
      zero_off x lt = (lt, sum_zero x)

      abbrev Ready : Term → Type 0
      Ready t = TermReady C own.body R0 itself zero_off t

      ready : Ready n.term
      ready = term_ready C own.body R0 itself zero_off n.term (term_formed_at C own.body (formed S s1.top.function own.body own.is_body) s1.top.block n at_n)

      abbrev TermTo : Term → Term → Type 0
      TermTo = running.TermTo X (pairs S) s2 s1 r ts1 b.locals 0 own.ghost types To goes

      arms_self : (as' : List Arm) → running.ArmsTo X (pairs S) s2 s1 r ts1 b.locals 0 own.ghost types To goes as' as'
      unfolding To
      arms_self [] = tt
      arms_self (a ∷ as') = (refl, refl, arms_self as')

      operand_self : (a : Operand) → OperandSame R0 a (renamed_operand itself a) → OperandSame R0 a a
      operand_self a q = subst (OperandSame R0 a) (term_operand_itself a) q

      operands_self : (os : List Operand) → OperandsSame R0 os (map (renamed_operand itself) os) → OperandsSame R0 os os
      operands_self os q = subst (OperandsSame R0 os) (operands_itself os) q

      term_self : (t : Term) → is_drop t ≡ false → NoReturn t → Ready t → TermTo t t
      unfolding To
      term_self (Goto t) nd nr rd = refl
      term_self (Switch a arms t) nd nr rd = (operand_self a rd, arms_self arms, refl)
      term_self Unreachable nd nr rd = tt
      term_self (Call q w os t) nd nr rd = (rd.0, refl, operands_self os rd.1, refl)
      term_self (Assert a e x os t) nd nr rd = (operand_self a rd.0, refl, refl, operands_self os rd.1, refl)
      term_self (Drop q t) nd nr rd = absurd (grind arith)
      term_self Return nd nr rd = absurd nr

      abbrev Follows : Option Next → Next → Type 0
      Follows = follow.Follows X (pairs S)

      own_return : (x : Next) → finish C1 A1 s1 Return ≡ Some x → Flat x → Follows (finish C2 A2 s2 Return) x
      unfolding finish local_addr
      own_return x e fl =
          let (v, e1, e2) = bind_some e in
          let (t, first) = first_of S s1.top.function own.body own.is_body in
          let root : AddrRel J (record { frame = s1.top.frame; local = 0; path = [] }) (record { frame = a0; local = 0; path = [] }) = record { root = into_at F s1.top.frame 0 _ 0 own.ghost (slice_get_within ts1 0 t first) refl; path = refl } in
          let ((w, e3, vw), _) = read_at_rel D [] [] 0 0 J J (λ f x r e. e) s2.memory s1.memory (record { frame = s1.top.frame; local = 0; path = [] }) (record { frame = a0; local = 0; path = [] }) v root r.link.mem e1 in
          let l = close_both F s2.memory s1.memory s1.top.frame a0 own.alone r.link in
          let st = stack_onward X F a0 s2.memory s1.memory (close_frame s2.memory a0) (close_frame s1.memory s1.top.frame) s2.callers s1.callers (onward_close F s2.memory s1.memory a0 s1.top.frame) more in
          follow.follows_by X (pairs S) _ _ x (some_bind _ e3 refl) (return_rel X (pairs S) s2 s1 r a0 (omega (arith, below)) (close_frame s2.memory a0) (close_frame s1.memory s1.top.frame) l s2.top.dest s1.top.dest s2.callers s1.callers v w x st own.dest vw e2 fl)

      own_finish : (t : Term) (x : Next) → is_drop t ≡ false → Ready t → finish C1 A1 s1 t ≡ Some x → Flat x → Follows (finish C2 A2 s2 t) x
      own_finish Return x nd rd e fl = own_return x e fl
      own_finish (Goto t) x nd rd e fl = finish_rel X (pairs S) s2 s1 r ts1 b.locals 0 own.ghost types To goes (Goto t) (Goto t) x (term_self (Goto t) nd tt rd) e
      own_finish (Switch a arms t) x nd rd e fl = finish_rel X (pairs S) s2 s1 r ts1 b.locals 0 own.ghost types To goes (Switch a arms t) (Switch a arms t) x (term_self (Switch a arms t) nd tt rd) e
      own_finish Unreachable x nd rd e fl = finish_rel X (pairs S) s2 s1 r ts1 b.locals 0 own.ghost types To goes Unreachable Unreachable x (term_self Unreachable nd tt rd) e
      own_finish (Call q w os t) x nd rd e fl = finish_rel X (pairs S) s2 s1 r ts1 b.locals 0 own.ghost types To goes (Call q w os t) (Call q w os t) x (term_self (Call q w os t) nd tt rd) e
      own_finish (Assert a c m os t) x nd rd e fl = finish_rel X (pairs S) s2 s1 r ts1 b.locals 0 own.ghost types To goes (Assert a c m os t) (Assert a c m os t) x (term_self (Assert a c m os t) nd tt rd) e
      own_finish (Drop q t) x nd rd e fl = absurd (grind arith)

      -- the call that is replaced
      own_site : (x : Next) → s1.top.function ≡ f → s1.top.block ≡ i → n ≡ k → slice_get n.stmts s1.top.at ≡ None → finish C1 A1 s1 n.term ≡ Some x → Answer S s2 x
      unfolding finish call enter
      own_site x in_f at_i is past e =
          let body_is : own.body ≡ b1 = some_val (sym own.is_body ∙ ap (slice_get C1.bodies) in_f ∙ is1 S) in
          let e' : finish C1 (record { shapes = D; locals = b1.locals; frame = s1.top.frame }) s1 (Call p (callee.Local g) os next) ≡ Some x = ap₂ (λ (b : TypedBody) t. finish C1 (record { shapes = D; locals = b.locals; frame = s1.top.frame }) s1 t) (sym body_is) (sym (ap (λ (n : TypedBlock). n.term) is ∙ term_is)) ∙ e in
          let (to, e1, k1) = bind_some e' in
          let (args, e2, k2) = bind_some k1 in
          let (h', e3, k3) = bind_some k2 in
          let k3' : entered D s1 args.1 (to_block next s1.top) g.0 args.0 (Some to) h ≡ Some x = subst (λ h. entered D s1 args.1 (to_block next s1.top) g.0 args.0 (Some to) h ≡ Some x) (some_val (sym e3 ∙ is_h S)) k3 in
          let ghost : F s1.top.frame ≡ Some (record { frame = a0; offset = 0; size = L }) = own.ghost ∙ ap (λ (b : TypedBody). Some (record { frame = a0; offset = 0; size = length b.locals })) body_is in
          let types1 : (x : ℕ) (t : Tree) → slice_get b1.locals x ≡ Some t → slice_get bt.locals (0 + x) ≡ Some t = λ x t e. ap (slice_get bt.locals) (sum_zero x) ∙ own_locals b1 h i k is_k p os next x t e in
          let lifts = running.lifts X (pairs S) s2 s1 r b1.locals bt.locals 0 ghost types1 in
          let rd = term_ready C b1 (Off 0 L) itself (λ x lt. (lt, sum_zero x)) (Call p (callee.Local g) os next) (ap (term_formed C b1) (sym term_is) ∙ term_formed_at C b1 (formed S f b1 (is1 S)) i k is_k) in
          let pl = place_lift D b1.locals bt.locals s1.top.frame a0 J (Off 0 L) lifts p p rd.0 in
          let ops = operands_lift D b1.locals bt.locals s1.top.frame a0 J (Off 0 L) lifts os os (subst (OperandsSame (Off 0 L) os) (operands_itself os) rd.1) in
          let at_end : s1.top.at ≡ length k.stmts =
          (let le = own.far own.body n own.is_body at_n in
          let ge = slice_get-none n.stmts s1.top.at past in
          let same : length n.stmts ≡ length k.stmts = ap (λ (n : TypedBlock). length n.stmts) is in
          omega (arith, le, ge, same)) in
          let (m, e4, rel) = site_rel S now own more in_f at_i at_end pl ops to args e1 e2 (λ m moved x t w is at j. fits m in_f moved x t w is at j) in
          site_answer x to args m k3' e4 rel
        where
          fits : (m : Memory) → s1.top.function ≡ f → moves C2 (suc (length (extra b1 h i k is_k p os next))) s2 ≡ Some (record s2 { memory = m; top = to_block B (record s2.top { at = s2.top.at + length (extra b1 h i k is_k p os next) }) }) → (x : ℕ) (t : Tree) (w : Value) → slice_get bt.locals x ≡ Some t → local_at m a0 x ≡ Some w → (j : Renaming) → ValueRel j (blank D t) w
          fits m in_f moved x t w is at j =
              let ty' = typed_moves S (suc (length (extra b1 h i k is_k p os next))) s2 _ ty moved in
              blank_fits D ty'.types j t w (ty'.mem.at a0 x t w (ty'.top.locals bt (ap (slice_get bodies2) (own.function ∙ in_f) ∙ is2) x t is) at)

      pub own_term : (x : Next) → slice_get n.stmts s1.top.at ≡ None → finish C1 A1 s1 n.term ≡ Some x → Flat x → Answer S s2 x
      own_term x past e fl = go kind
        where
          go : IsSite S s1.top.function s1.top.block n ⊎ (n2 ≡ n) → Answer S s2 x
          go (inl (in_f, at_i, is)) = own_site x in_f at_i is past e
          go (inr same) =
              let past2 : slice_get n2.stmts s2.top.at ≡ None = ap₂ (λ (n : TypedBlock) a. slice_get n.stmts a) same own.place ∙ past in
              let is : step C2 s2 ≡ finish C2 A2 s2 n.term = term_step S s2 b n2 is_b2 at_b2 past2 ∙ ap (λ (n : TypedBlock). finish C2 A2 s2 n.term) same in
              by_step S s2 x (follow.follows_by X (pairs S) (step C2 s2) (finish C2 A2 s2 n.term) x is (own_finish n.term x (calm s1.top.function own.body s1.top.block n own.is_body at_n) ready e fl))
