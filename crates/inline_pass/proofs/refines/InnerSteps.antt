-- Steps of the callee's frame in the caller's.
use Rattle.std.proofs.Common.{◌≡◌, ◌⊎◌, inl, inr, refl, sym, ap, ◌∙◌, subst, ℕ, suc, ◌+◌, ◌<◌, false, List, [], ◌∷◌, ◌++◌, map, length, Some, None, slice_get, arith}
use Rattle.std.proofs.lemmas.Option.{slice_get_past}
use Rattle.std.proofs.lemmas.List.{length-append, length-map}
use Rattle.mir_syntax.specs.declared.body.Arm.{Arm}
use Rattle.mir_syntax.specs.declared.body.Place.{Place}
use Rattle.mir_syntax.specs.declared.body.Term.{Term}
use Rattle.mir_syntax.specs.declared.body.Term.TheVariants.{Goto, Switch, Return, Unreachable, Drop, Call, Assert}
use Rattle.mir_syntax.specs.Tree.{Tree}
use Rattle.mir_syntax.specs.Crate.{TypedStmt, TypedBlock}
use Rattle.mir_syntax.specs.Shapes.{◌>>=◌}
use Rattle.mir_syntax.proofs.Lists.{map_there, slice_get-none}
use Rattle.mir_rules.proofs.ValidCrates.{term_formed_at}
use Rattle.mir_semantics.specs.Values.{Value}
use Rattle.mir_semantics.specs.Memory.{Memory, local_at, close_frame}
use Rattle.mir_semantics.specs.Step.{Control, Next, on, Here, exec, to_block, next_stmt, go_on, return_to, finish, step}
use Rattle.mir_syntax.specs.Parts.{has_deref, retargeted_arm}
use Rattle.mir_syntax.proofs.Binds.{bind_some}
use Rattle.mir_relate.specs.Simulation.{moves}
use Rattle.trim_locals.specs.Trimmed.{renamed_stmt}
use Rattle.mir_relate.specs.Renumbered.{Numbering}
use Rattle.mir_relate.proofs.Leaves.{some_val}
use Rattle.mir_syntax.proofs.Trees.{slice_get-front}
use Rattle.inline_pass.specs.Spliced.{after, term_after, block_after, result_to, kept_dest}
use Rattle.mir_rules.specs.Drops.{is_drop}
use Rattle.inline_pass.proofs.refines.Into.{Into, into_parts}
use Rattle.inline_pass.proofs.Text.{TermReady, term_ready}
use Rattle.inline_pass.proofs.refines.Stacks as stacks
use Rattle.inline_pass.proofs.refines.Stacks.{Onward, own_onward, inner_onward, stack_onward, onward_less}
use Rattle.inline_pass.proofs.refines.Onwards.{stmt_moves}
use Rattle.inline_pass.proofs.refines.Follow as follow
use Rattle.inline_pass.proofs.refines.Follow.{Longer, return_rel}
use Rattle.inline_pass.proofs.refines.Running.{Off, stmt_rel, finish_rel}
use Rattle.inline_pass.proofs.refines.Running as running
use Rattle.inline_pass.proofs.Bodies.{copy_locals, copy_blocks}
use Rattle.inline_pass.proofs.refines.Back.{back_rel}
use Rattle.inline_pass.proofs.refines.Setting.{NoReturn, Setting, farther, words, Moment, seen, is_h, formed, pairs, stmt_copy, Answer, answer_at, stmt_answer, by_step, payloads, term_step, same_local}

module _ (S : Setting) where
  open S use {C, valid, bodies2, f, fn, hn, fn_at, g, hn_at, apart, i, k, is_k, p, os, next, term_is, is2, others, valid2, calm, few, tp, p_ty, result}
  open words S use {X, C1, C2, D, b1, h, bt, B, L, Rel, Stack, Own, Inner}

  module _ (now : Moment S) where
    open now use {s2, s1, r, ty, below}
    open seen S now use {F, J, a0, On}

    -- ---- the callee's frame in the caller's

    module _ (c0 : Control) (ds : List Control) (below_it : s1.callers ≡ c0 ∷ ds) (inner : Inner F s2.memory s1.memory s2.top s1.top c0) (more : Stack F s2.memory s1.memory a0 s2.callers ds) (n : TypedBlock) (at_n : slice_get h.blocks s1.top.block ≡ Some n) where
      abbrev dest2 : Place
      dest2 = kept_dest (L + length h.locals) p

      abbrev copy : TypedBlock
      copy = block_after L B dest2 next n

      abbrev H1 : Here
      H1 = record { shapes = D; locals = h.locals; frame = s1.top.frame }

      abbrev H2 : Here
      H2 = record { shapes = D; locals = bt.locals; frame = a0 }

      is_copy : slice_get bodies2 s2.top.function ≡ Some bt
      is_copy = ap (slice_get bodies2) inner.function2 ∙ is2

      at_copy : slice_get bt.blocks s2.top.block ≡ Some copy
      at_copy = ap (slice_get bt.blocks) inner.block ∙ copy_blocks b1 h i k is_k p os next s1.top.block n at_n

      types_copy : (x : ℕ) (t : Tree) → slice_get h.locals x ≡ Some t → slice_get bt.locals (L + x) ≡ Some t
      types_copy x t e = copy_locals b1 h i k is_k p os next x t e

      parts_of : (e x y : ℕ) (j : Into) → F e ≡ Some j → J e x ≡ Some (a0, y) → (x < j.size) × (j.offset + x ≡ y)
      parts_of e x y j is q =
          let (j', is', lt, _, z) = into_parts F e x a0 y q in
          let same : j' ≡ j = some_val (sym is' ∙ is) in
          (subst (λ (j : Into). x < j.size) same lt, subst (λ (j : Into). j.offset + x ≡ y) same z)

      inner_clear : (x y : ℕ) → J s1.top.frame x ≡ Some (a0, y) → (e x' : ℕ) (u : Value) → J e x' ≡ Some (a0, y) → local_at s1.memory e x' ≡ Some u → (e ≡ s1.top.frame) × (x' ≡ x)
      inner_clear x y q e x' u q' live = go (inner.alone e x' y u q' live)
        where
          go : (e ≡ s1.top.frame) ⊎ (e ≡ c0.frame) → (e ≡ s1.top.frame) × (x' ≡ x)
          go (inl same) = (same, same_local S F s1.top.frame x x' a0 y q (ap (λ e. J e x') (sym same) ∙ q'))
          go (inr same) =
              let (_, z) = parts_of s1.top.frame x y _ inner.ghost1 q in
              let (lt, z') = parts_of e x' y _ (ap F same ∙ inner.ghost0) q' in
              absurd (omega (arith, z, lt, z'))

      inner_at : (c2 c1 : Control) (k2 k1 : Memory) → c2.function ≡ s2.top.function → c1.function ≡ s1.top.function → c2.frame ≡ a0 → c1.frame ≡ s1.top.frame → c2.dest ≡ s2.top.dest → c1.dest ≡ s1.top.dest → c2.block ≡ B + c1.block → c2.at ≡ c1.at → c1.dropping ≡ None → stacks.Reached X c1 → On k2 k1 → Inner F k2 k1 c2 c1 c0
      inner_at c2 c1 k2 k1 q1 q2 q3 q4 q5 q6 q7 q8 q9 far ow =
          let o = inner_onward X F s2.next s2.memory s1.memory k2 k1 s2.top s1.top c0 below ow inner in
          record {
            function2 = q1 ∙ o.function2;
            function1 = q2 ∙ o.function1;
            function0 = o.function0;
            block = q7;
            place = q8;
            block0 = o.block0;
            place0 = o.place0;
            ghost1 = ap F q4 ∙ o.ghost1 ∙ ap (λ a. Some (record { frame = a; offset = L; size = length h.locals })) (sym q3);
            ghost0 = o.ghost0 ∙ ap (λ a. Some (record { frame = a; offset = 0; size = L })) (sym q3);
            dest = subst (λ y. stacks.DestsRel X J c0.dest y) (sym q5) o.dest;
            calm1 = q9;
            calm0 = o.calm0;
            far = far;
            shape = λ e j is at. o.shape e j is (at ∙ q3);
            alone = λ e x z u is live. either q4 (o.alone e x z u (is ∙ ap (λ a. Some (a, z)) q3) live);
            room = λ b is x t at. (let (w, e) = o.room b (ap (slice_get bodies2) (sym q1) ∙ is) x t at in (w, ap (λ a. local_at k2 a x) q3 ∙ e));
            to = o.to;
            is_to = q6 ∙ o.is_to;
            held = subst (λ a. stacks.Held X (has_deref p.proj) F k2 o.to a c0.frame) (sym q3) o.held;
          }
        where
          either : {e : ℕ} → c1.frame ≡ s1.top.frame → (e ≡ s1.top.frame) ⊎ (e ≡ c0.frame) → (e ≡ c1.frame) ⊎ (e ≡ c0.frame)
          either q (inl s) = inl (s ∙ sym q)
          either q (inr s) = inr s

      inner_stack : (c2 c1 : Control) (k2 k1 : Memory) → c2.frame ≡ a0 → Inner F k2 k1 c2 c1 c0 → On k2 k1 → Stack F k2 k1 s2.next (c2 ∷ s2.callers) (c1 ∷ s1.callers)
      inner_stack c2 c1 k2 k1 q o ow = (
        subst (λ a. a < s2.next) (sym q) below,
        inr (c1, c0, ds, ap (λ cs. c1 ∷ cs) below_it, o, subst (λ a. Stack F k2 k1 a s2.callers ds) (sym q) (stack_onward X F a0 s2.memory s1.memory k2 k1 s2.callers ds (onward_less F s2.next a0 s2.memory s1.memory k2 k1 (omega (arith, below)) ow) more)),
      )

      To2 : ℕ → ℕ → Type 0
      To2 t u = u ≡ B + t

      goes2 : (t u : ℕ) → To2 t u → (k2 k1 : Memory) → On k2 k1 → Stack F k2 k1 s2.next (to_block u s2.top ∷ s2.callers) (to_block t s1.top ∷ s1.callers)
      unfolding To2
      goes2 t u q k2 k1 ow = inner_stack (to_block u s2.top) (to_block t s1.top) k2 k1 refl (inner_at (to_block u s2.top) (to_block t s1.top) k2 k1 refl refl refl refl refl refl q refl refl (λ b k e s. omega arith) ow) ow

      pub inner_stmt : (st : TypedStmt) (x : Next) → slice_get n.stmts s1.top.at ≡ Some st → (exec H1 s1.memory st >>= λ m. go_on s1 m (next_stmt s1.top)) ≡ Some x → Answer S s2 x
      inner_stmt st x at e =
          let (k1, e1, e2) = bind_some e in
          let same = stmt_copy S s1.top.block n s1.top.at st at_n at in
          let (k2, q, l, ow) = stmt_rel X (pairs S) s2 s1 r h.locals bt.locals L inner.ghost1 types_copy st (renamed_stmt (after L) st) k1 same inner_clear (λ _. payloads S s2 ty bt is_copy h.locals s1.top.frame J) e1 in
          let at2 : slice_get copy.stmts s2.top.at ≡ Some (renamed_stmt (after L) st) = ap (slice_get copy.stmts) inner.place ∙ slice_get-front (map (renamed_stmt (after L)) n.stmts) _ s1.top.at _ (map_there (renamed_stmt (after L)) n.stmts s1.top.at st at) in
          let moved = stmt_moves C2 s2 bt copy (renamed_stmt (after L) st) k2 is_copy at_copy at2 q in
          stmt_answer S now x k2 k1 moved l
          (inner_stack (next_stmt s2.top) (next_stmt s1.top) k2 k1 refl (inner_at (next_stmt s2.top) (next_stmt s1.top) k2 k1 refl refl refl refl refl refl inner.block (ap suc inner.place) inner.calm1 (farther S s1.top h n st (ap (slice_get C1.bodies) inner.function1 ∙ is_h S) at_n at) ow) ow)
          e2

      -- ---- its terminators

      abbrev R1 : Numbering
      R1 = Off L (length h.locals)

      far_off : (x : ℕ) → x < length h.locals → R1 x (after L x)
      far_off x lt = (lt, refl)

      abbrev Ready1 : Term → Type 0
      Ready1 t = TermReady C h R1 (after L) far_off t

      ready1 : Ready1 n.term
      ready1 = term_ready C h R1 (after L) far_off n.term (term_formed_at C h (formed S g.0 h (is_h S)) s1.top.block n at_n)

      abbrev TermTo1 : Term → Term → Type 0
      TermTo1 = running.TermTo X (pairs S) s2 s1 r h.locals bt.locals L inner.ghost1 types_copy To2 goes2

      arms_after : (as' : List Arm) → running.ArmsTo X (pairs S) s2 s1 r h.locals bt.locals L inner.ghost1 types_copy To2 goes2 as' (map (retargeted_arm (after B)) as')
      unfolding To2
      arms_after [] = tt
      arms_after (a ∷ as') = (refl, refl, arms_after as')

      term_copy : (t : Term) → is_drop t ≡ false → NoReturn t → Ready1 t → TermTo1 t (term_after L B next t)
      unfolding To2
      term_copy (Goto t) nd nr rd = refl
      term_copy (Switch a arms t) nd nr rd = (rd, arms_after arms, refl)
      term_copy Unreachable nd nr rd = tt
      term_copy (Call q w os t) nd nr rd = (rd.0, refl, rd.1, refl)
      term_copy (Assert a e x os t) nd nr rd = (rd.0, refl, refl, rd.1, refl)
      term_copy (Drop q t) nd nr rd = absurd (grind arith)
      term_copy Return nd nr rd = absurd nr

      no_result : (t : Term) → NoReturn t → result_to L dest2 t ≡ []
      no_result Return nr = absurd nr
      no_result (Goto t) nr = refl
      no_result (Switch a arms t) nr = refl
      no_result Unreachable nr = refl
      no_result (Call q w os t) nr = refl
      no_result (Assert a e x os t) nr = refl
      no_result (Drop q t) nr = refl

      inner_other : (x : Next) → NoReturn n.term → slice_get n.stmts s1.top.at ≡ None → finish C1 H1 s1 n.term ≡ Some x → Answer S s2 x
      inner_other x nr past e =
          let ss = map (renamed_stmt (after L)) n.stmts in
          let past2 : slice_get copy.stmts s2.top.at ≡ None =
          slice_get_past copy.stmts s2.top.at
          (let ge = slice_get-none n.stmts s1.top.at past in
          let l1 : length copy.stmts ≡ length ss + 0 = ap (λ rs. length (ss ++ rs)) (no_result n.term nr) ∙ length-append ss [] in
          let l2 = length-map n.stmts (renamed_stmt (after L)) in
          let a = inner.place in
          omega (arith, ge, l1, l2, a)) in
          by_step S s2 x (follow.follows_by X (pairs S) (step C2 s2) (finish C2 H2 s2 copy.term) x (term_step S s2 bt copy is_copy at_copy past2) (finish_rel X (pairs S) s2 s1 r h.locals bt.locals L inner.ghost1 types_copy To2 goes2 n.term copy.term x (term_copy n.term (calm g.0 h s1.top.block n (is_h S) at_n) nr ready1) e))

      popped : (x : Next) (m1 : Memory) → Some (on (record s1 { memory = m1; top = c0; callers = ds })) ≡ Some x → (m : Memory) → moves C2 2 s2 ≡ Some (record s2 { memory = m; top = to_block next (next_stmt s2.top) }) → Rel (record s2 { memory = m; top = to_block next (next_stmt s2.top) }) (record s1 { memory = m1; top = c0; callers = ds }) → Answer S s2 x
      popped x m1 e m moved rel = answer_at S s2 x _ e (1, _, moved, rel)

      inner_return : (x : Next) → n.term ≡ Return → slice_get n.stmts s1.top.at ≡ None → finish C1 H1 s1 Return ≡ Some x → Answer S s2 x
      unfolding finish return_to
      inner_return x ends past e =
          let (v, e1, e2) = bind_some e in
          let e3 : return_to D s1 (close_frame s1.memory s1.top.frame) (Some inner.to) (c0 ∷ ds) v ≡ Some x = subst (λ cs. return_to D s1 (close_frame s1.memory s1.top.frame) (Some inner.to) cs v ≡ Some x) below_it (subst (λ y. return_to D s1 (close_frame s1.memory s1.top.frame) y s1.callers v ≡ Some x) inner.is_to e2) in
          let (m1, e4, e5) = bind_some e3 in
          let at_end : s1.top.at ≡ length n.stmts =
          (let le = inner.far h n (ap (slice_get C1.bodies) inner.function1 ∙ is_h S) at_n in
          let ge = slice_get-none n.stmts s1.top.at past in
          omega (arith, le, ge)) in
          let (m, moved, rel) = back_rel S now c0 ds inner more n at_n ends at_end v e1 m1 e4 in
          popped x m1 e5 m moved rel

      pub inner_term : (x : Next) → slice_get n.stmts s1.top.at ≡ None → finish C1 H1 s1 n.term ≡ Some x → Answer S s2 x
      inner_term x past e = go n.term refl
        where
          go : (t : Term) → n.term ≡ t → Answer S s2 x
          go Return q = inner_return x q past (ap (finish C1 H1 s1) (sym q) ∙ e)
          go (Goto t) q = inner_other x (subst NoReturn (sym q) tt) past e
          go (Switch a arms t) q = inner_other x (subst NoReturn (sym q) tt) past e
          go Unreachable q = inner_other x (subst NoReturn (sym q) tt) past e
          go (Call c w os t) q = inner_other x (subst NoReturn (sym q) tt) past e
          go (Assert a c y os t) q = inner_other x (subst NoReturn (sym q) tt) past e
          go (Drop c t) q = inner_other x (subst NoReturn (sym q) tt) past e
