-- The callee returns: the source's frame ends and its caller gets the result; the target assigns it and goes on.
use Rattle.std.proofs.Common.{◌≡◌, ◌⊎◌, inl, inr, refl, sym, ap, ap₂, ◌∙◌, subst, ℕ, suc, ◌+◌, ◌<◌, ◌≤◌, Bool, true, false, ◌&&◌, if◌then◌else◌, List, [], ◌∷◌, ◌++◌, map, length, Some, None, slice_get, arith}
use Rattle.std.proofs.lemmas.List.{length-append, length-map}
use Rattle.std.proofs.lemmas.Option.{slice_get_past}
use Rattle.mir_syntax.specs.declared.body.Proj.TheVariants.{Deref}
use Rattle.mir_syntax.specs.declared.body.Operand.TheVariants as operand
use Rattle.mir_syntax.specs.declared.body.Term.TheVariants.{Goto, Return}
use Rattle.mir_syntax.specs.Tree.{Tree}
use Rattle.mir_syntax.specs.Crate.{«use», TypedStmt, assign, TypedBlock}
use Rattle.mir_syntax.specs.Shapes.{place_ty, needs_drop}
use Rattle.mir_semantics.specs.Values.{Addr, Value, pointer, blank}
use Rattle.mir_semantics.specs.Memory.{Memory, local_at, value_at, write, there, project, walk, close_frame}
use Rattle.mir_semantics.specs.Step.{Dest, Control, State, Here, local_addr, resolve, type_of, guard_of, dest_of, store, read_at, read, eval, exec, to_block, next_stmt, finish, perform, step}
use Rattle.mir_syntax.specs.Parts.{has_deref}
use Rattle.mir_renaming.specs.Renaming.{AddrRel, ValueRel}
use Rattle.mir_syntax.proofs.Binds.{bind_some, some_bind}
use Rattle.mir_renaming.proofs.Memory.{value_at_rel, write_target, write_other}
use Rattle.mir_renaming.proofs.Statements.{Linked, DestRel, read_at_rel, store_rel}
use Rattle.mir_relate.specs.Simulation.{keep_on, moves}
use Rattle.trim_locals.specs.Trimmed.{renamed_stmt}
use Rattle.mir_relate.proofs.Leaves.{some_val}
use Rattle.mir_renaming.proofs.Stores.{write_there}
use Rattle.inline_pass.specs.Spliced.{whole_local, after, referent_of, kept_dest, term_after, block_after, result_to}
use Rattle.inline_pass.proofs.refines.Into.{Into, into, into_parts, into_at, close_back, close_inner}
use Rattle.inline_pass.proofs.refines.Both.{store_both}
use Rattle.inline_pass.proofs.refines.Stacks as stacks
use Rattle.inline_pass.proofs.refines.Stacks.{Onward, onward_trans, stack_onward}
use Rattle.inline_pass.proofs.refines.Onwards.{onward_refl, onward_both, onward_alone, onward_target, onward_close_alone, stmt_moves}
use Rattle.inline_pass.proofs.Bodies.{own_locals, copy_locals, kept_there, copy_blocks, stand_end}
use Rattle.inline_pass.proofs.refines.Keep.{walk_there}
use Rattle.inline_pass.proofs.refines.Setting.{Setting, words, Moment, seen, is1, is_h, first_of, p_in}
use Rattle.inline_pass.proofs.refines.Site.{moves_last}

module _ (S : Setting) where
  open S use {bodies2, f, i, k, is_k, p, os, next, is2, tp, p_ty, result as result_ty}
  open words S use {X, X.{g}, C1, C2, D, b1, h, bt, B, L, d, Rel, Stack, Own, Inner}

  -- the type of the callee's result
  abbrev th : Tree
  th = (first_of S g h (is_h S)).0

  h_first : slice_get h.locals 0 ≡ Some th
  h_first = (first_of S g h (is_h S)).1

  h_long : 0 < length h.locals
  h_long = go h.locals h_first
    where
      go : (ts : List Tree) → slice_get ts 0 ≡ Some th → 0 < length ts
      go [] e = absurd (grind arith)
      go (t ∷ ts) e = omega arith

  p_ty2 : place_ty D bt.locals p ≡ Some tp
  unfolding place_ty
  p_ty2 =
      let (t, e1, e2) = bind_some p_ty in
      some_bind _ (own_locals b1 h i k is_k p os next p.local t e1) e2

  module _ (now : Moment S) (c0 : Control) (ds : List Control) (inner : Inner now.r.stands now.s2.memory now.s1.memory now.s2.top now.s1.top c0) (more : Stack now.r.stands now.s2.memory now.s1.memory now.s2.top.frame now.s2.callers ds) (n : TypedBlock) (is_n : slice_get h.blocks now.s1.top.block ≡ Some n) (ends : n.term ≡ Return) (at_end : now.s1.top.at ≡ length n.stmts) where
    open now use {s2, s1, r, below}
    open seen S now use {F, J, a0}

    abbrev e1 : ℕ
    e1 = s1.top.frame

    abbrev A2 : Here
    A2 = record { shapes = D; locals = bt.locals; frame = a0 }

    abbrev A1 : Here
    A1 = record { shapes = D; locals = h.locals; frame = e1 }

    -- the caller's frame alone stands there then
    alone : (e x z : ℕ) (u : Value) → into F e x ≡ Some (a0, z) → local_at (close_frame s1.memory e1) e x ≡ Some u → (e ≡ c0.frame) × (z < L)
    alone e x z u q live =
        let (ne, live') = close_back s1.memory e1 e x u live in
        go ne (inner.alone e x z u q live')
      where
        go : (e ≡ e1 → ⊥) → (e ≡ e1) ⊎ (e ≡ c0.frame) → (e ≡ c0.frame) × (z < L)
        go ne (inl s) = absurd (ne s)
        go ne (inr s) =
            let (j, is, lt, _, at) = into_parts F e x a0 z q in
            let this : j ≡ record { frame = a0; offset = 0; size = L } = some_val (sym is ∙ ap F s ∙ inner.ghost0) in
            let lt' : x < L = subst (λ (j : Into). x < j.size) this lt in
            let at' : 0 + x ≡ z = subst (λ (j : Into). j.offset + x ≡ z) this at in
            (s, omega (arith, lt', at'))

    -- ---- the result is moved out

    module _ (v : Value) (e_v : read_at s1.memory (local_addr e1 0) ≡ Some v) where
      root : AddrRel J (local_addr e1 0) (local_addr a0 L)
      unfolding local_addr
      root = record { root = into_at F e1 0 _ L inner.ghost1 h_long (omega arith); path = refl }

      result : (w : Value) × (read_at s2.memory (local_addr a0 L) ≡ Some w) × ValueRel J v w
      result = (read_at_rel D [] [] 0 0 J J (λ f x r e. e) s2.memory s1.memory (local_addr e1 0) (local_addr a0 L) v root r.link.mem e_v).0

      abbrev k1 : Memory
      k1 = close_frame s1.memory e1

      abbrev k2 : Memory
      k2 = write s2.memory (local_addr a0 L) (blank D th)

      link_moved : Linked J J k2 k1
      unfolding local_addr
      link_moved =
          let l = close_inner F s2.memory s1.memory e1 r.link in
          record { mem = write_target J J s2.memory k1 (record { frame = a0; local = L; path = [] }) (blank D th) l.mem (λ e x u q live. (let (_, lt) = alone e x L u q live in omega (arith, lt))); apart = l.apart }

      moved_out : (w : Value) → read_at s2.memory (local_addr a0 L) ≡ Some w → read A2 s2.memory (operand.Move (whole_local L)) ≡ Some (w, k2)
      unfolding read resolve walk type_of place_ty
      moved_out w e =
          let z : L + 0 ≡ L = omega arith in
          let ty : slice_get bt.locals L ≡ Some th = ap (slice_get bt.locals) (sym z) ∙ copy_locals b1 h i k is_k p os next 0 th h_first in
          some_bind _ refl (some_bind _ e (some_bind _ (some_bind _ ty refl) refl))

      -- ---- the destination

      module _ (m1 : Memory) (e_m : store D k1 inner.to v ≡ Some m1) where
        old_there : (old : Value) × (value_at k1 inner.to.addr ≡ Some old)
        unfolding store
        old_there = let (old, e, _) = bind_some e_m in (old, e)

        Found : Bool → Type 0
        Found c = (y : Dest) × (dest_of A2 k2 (if c then referent_of d else p) ≡ Some y) × DestRel J inner.to y

        plain : has_deref p.proj ≡ false → (inner.to.addr ≡ record { frame = c0.frame; local = p.local; path = p.proj }) × (inner.to.guard ≡ None) → Found false
        unfolding Found dest_of resolve local_addr type_of guard_of
        plain q (is, gu) =
            let (old, e) = old_there in
            let b : Addr = record { frame = a0; local = p.local; path = p.proj } in
            let ab : AddrRel J inner.to.addr b = record { root = ap (λ (a : Addr). J a.frame a.local) is ∙ into_at F c0.frame p.local _ p.local inner.ghost0 (p_in S) (omega arith); path = ap (λ (a : Addr). a.path) is } in
            let (old2, e2, _) = value_at_rel J J k2 k1 link_moved.mem inner.to.addr b ab old e in
            let w = walk_there p.proj k2 (record { frame = a0; local = p.local; path = [] }) old2 q e2 in
            (record { addr = b; guard = guard_of D p.proj tp }, some_bind _ w (some_bind _ p_ty2 refl), record { addr = ab; guard = gu ∙ sym (ap (λ c. if c && needs_drop D tp then Some tp else None) q) })

        kept_value : (b : Addr) → local_at s2.memory a0 d ≡ Some (pointer b) → value_at k2 (record { frame = a0; local = d; path = [] }) ≡ Some (pointer b)
        unfolding value_at local_addr
        kept_value b at = some_bind _ (write_other s2.memory (record { frame = a0; local = L; path = [] }) (blank D th) a0 d (λ _ q. (let l = h_long in omega (arith, q, l))) ∙ at) refl

        behind_at : (b : Addr) (old2 : Value) → local_at s2.memory a0 d ≡ Some (pointer b) → value_at k2 b ≡ Some old2 → resolve A2 k2 (referent_of d) ≡ Some b
        unfolding resolve walk project local_addr
        behind_at b old2 at e = some_bind _ (some_bind _ (some_bind _ (kept_value b at) refl) (ap (λ o. there o b) e)) refl

        behind_ty : (t : Tree) → has_deref p.proj ≡ true → place_ty D b1.locals p ≡ Some t → type_of A2 (referent_of d) ≡ Some t
        unfolding type_of place_ty
        behind_ty t q ty = some_bind _ (kept_there b1 h i k is_k p os next q t (result_ty t ty)) (some_bind _ refl refl)

        behind : has_deref p.proj ≡ true → (b : Addr) × (t : Tree) × (local_at s2.memory a0 d ≡ Some (pointer b)) × AddrRel J inner.to.addr b × (place_ty D b1.locals p ≡ Some t) × (inner.to.guard ≡ guard_of D (Deref ∷ []) t) → Found true
        unfolding Found dest_of
        behind q (b, t, at, ab, ty, gu) =
            let (old, e) = old_there in
            let (old2, e2, _) = value_at_rel J J k2 k1 link_moved.mem inner.to.addr b ab old e in
            (record { addr = b; guard = guard_of D (Deref ∷ []) t }, some_bind _ (behind_at b old2 at e2) (some_bind _ (behind_ty t q ty) refl), record { addr = ab; guard = gu })

        found : (c : Bool) → has_deref p.proj ≡ c → stacks.Held X c F s2.memory inner.to a0 c0.frame → Found c
        found false q e = plain q e
        found true q e = behind q e

        there_is : (y : Dest) × (dest_of A2 k2 (kept_dest d p) ≡ Some y) × DestRel J inner.to y
        unfolding Found
        there_is = found (has_deref p.proj) refl inner.held

        record Done : Type 0 where
          pub memory : Memory
          pub runs : exec A2 s2.memory (assign (kept_dest d p) («use» (operand.Move (whole_local L)))) ≡ Some memory
          pub link : Linked J J memory m1
          pub onward : Onward F s2.next k2 k1 memory m1

        done : Done
        unfolding exec eval
        done =
            let (w, e_w, vw) = result in
            let (y, e_y, ty) = there_is in
            let (m2, e2, l) = store_rel D J J k2 k1 m1 inner.to y v w ty vw link_moved e_m in
            record {
              memory = m2;
              runs = some_bind _ (moved_out w e_w) (some_bind _ e_y e2);
              link = l;
              onward = store_both D [] [] 0 0 J J (λ f x r e. e) (λ m2 m1. Onward F s2.next k2 k1 m2 m1) (λ k2' k1' a b v w x u. onward_both F s2.next k2 k1 k2' k1' a b v w x u) (λ k2' k1' a v. onward_alone F s2.next k2 k1 k2' k1' a v) k2 k1 m2 m1 inner.to y v w ty e_m e2 (onward_refl F s2.next k2 k1);
            }

        -- ---- the frames then

        abbrev back1 : State
        back1 = record s1 { memory = m1; top = c0; callers = ds }

        abbrev pub back2 : Memory → State
        back2 m = record s2 { memory = m; top = to_block next (next_stmt s2.top) }

        inner_shape : {c n : ℕ} → (c ≤ d) ⊎ (c ≤ d) → (c ≤ n) ⊎ (c ≤ d)
        inner_shape (inl le) = inr le
        inner_shape (inr le) = inr le

        own_back : (q : Done) → Own F q.memory m1 (back2 q.memory).top c0
        unfolding local_addr
        own_back q = record {
          function = inner.function2 ∙ sym inner.function0;
          block = sym inner.block0;
          place = sym inner.place0;
          body = b1;
          is_body = ap (slice_get C1.bodies) inner.function0 ∙ is1 S;
          ghost = inner.ghost0;
          dest = inner.dest;
          calm = inner.calm0;
          far = λ b k e s. (let z = inner.place0 in omega (arith, z));
          shape = λ e j q at. inner_shape (inner.shape e j q at);
          alone = λ e x z u s live. (let (u', live') = q.onward.back e x a0 z u s below live in (alone e x z u' s live').0);
          room = λ b is x t at. (let (w, e) = inner.room b is x t at in let (w', e') = write_there s2.memory (record { frame = a0; local = L; path = [] }) (blank D th) a0 x w e in q.onward.room a0 x w' below e');
        }

        rel_back : (q : Done) → Rel (back2 q.memory) back1
        unfolding local_addr
        rel_back q =
            let o1 : Onward F a0 s2.memory s1.memory k2 s1.memory = onward_target F a0 s2.memory s1.memory (record { frame = a0; local = L; path = [] }) (blank D th) (omega arith) in
            let o2 : Onward F a0 k2 s1.memory k2 k1 = onward_close_alone F a0 k2 s1.memory e1 in
            let o3 : Onward F a0 k2 k1 q.memory m1 = stacks.onward_less F s2.next a0 k2 k1 q.memory m1 (omega (arith, below)) q.onward in
            let o = onward_trans F a0 s2.memory s1.memory k2 k1 q.memory m1 (onward_trans F a0 s2.memory s1.memory k2 s1.memory k2 k1 o1 o2) o3 in
            record {
              stands = F;
              fresh = r.fresh;
              low = r.low;
              answers = r.answers;
              trace = r.trace;
              link = q.link;
              stack = (below, inl (c0, ds, refl, own_back q, stack_onward X F a0 s2.memory s1.memory q.memory m1 s2.callers ds o more));
            }

        abbrev copy : TypedBlock
        copy = block_after L B (kept_dest d p) next n

        stmt_there : slice_get copy.stmts s2.top.at ≡ Some (assign (kept_dest d p) («use» (operand.Move (whole_local L))))
        stmt_there =
            let ss = map (renamed_stmt (after L)) n.stmts in
            let rs : List TypedStmt = assign (kept_dest d p) («use» (operand.Move (whole_local L))) ∷ [] in
            let at : s2.top.at ≡ length ss = inner.place ∙ at_end ∙ sym (length-map n.stmts (renamed_stmt (after L))) in
            let same : copy.stmts ≡ ss ++ rs = ap (λ t. ss ++ result_to L (kept_dest d p) t) ends in
            ap₂ slice_get same at ∙ (stand_end ss rs).0

        moved : (q : Done) → moves C2 2 s2 ≡ Some (back2 q.memory)
        unfolding step perform finish
        moved q =
            let here1 : slice_get bodies2 s2.top.function ≡ Some bt = ap (slice_get bodies2) inner.function2 ∙ is2 in
            let here2 : slice_get bt.blocks s2.top.block ≡ Some copy = ap (slice_get bt.blocks) inner.block ∙ copy_blocks b1 h i k is_k p os next s1.top.block n is_n in
            let s' : State = record s2 { memory = q.memory; top = next_stmt s2.top } in
            let first = stmt_moves C2 s2 bt copy (assign (kept_dest d p) («use» (operand.Move (whole_local L)))) q.memory here1 here2 stmt_there q.runs in
            let ss = map (renamed_stmt (after L)) n.stmts in
            let long : length copy.stmts ≡ suc (length n.stmts) =
            ap (λ t. length (ss ++ result_to L (kept_dest d p) t)) ends ∙ length-append ss (assign (kept_dest d p) («use» (operand.Move (whole_local L))) ∷ []) ∙ (let z = length-map n.stmts (renamed_stmt (after L)) in let y : length ss + 1 ≡ suc (length n.stmts) = omega (arith, z) in y) in
            let past : slice_get copy.stmts (suc s2.top.at) ≡ None = slice_get_past copy.stmts (suc s2.top.at) (let a = inner.place in omega (arith, long, a, at_end)) in
            let goes : copy.term ≡ Goto next = ap (term_after L B next) ends in
            moves_last C2 1 s2 s' (back2 q.memory) (ap (keep_on (moves C2 0)) first) (some_bind _ here1 (some_bind _ here2 (ap (λ o. perform C2 A2 s' copy.term o) past ∙ ap (λ t. finish C2 A2 s' t) goes)))

        -- the source's step is followed
        pub back_rel : (m : Memory) × (moves C2 2 s2 ≡ Some (back2 m)) × Rel (back2 m) back1
        back_rel = (done.memory, moved done, rel_back done)
