-- Statements, and terminators but for returns and the call that is replaced, in the running frames.
use Rattle.std.proofs.Common.{◌≡◌, refl, sym, ap, ap₂, ◌∙◌, ℕ, ◌+◌, ◌<◌, Bool, true, false, nat_eq, if◌then◌else◌, List, [], ◌∷◌, length, Option, Some, slice_get, arith}
use Rattle.std.specs.Prelude.{ℤ}
use Rattle.mir_syntax.specs.declared.body.Arm.{Arm}
use Rattle.mir_syntax.specs.declared.body.Operand.{Operand}
use Rattle.mir_syntax.specs.declared.body.Term.{Term}
use Rattle.mir_syntax.specs.declared.body.Term.TheVariants.{Goto, Switch, Unreachable, Call, Assert}
use Rattle.mir_syntax.specs.Tree.{Tree}
use Rattle.mir_syntax.specs.Crate.{TypedStmt, TypedBody}
use Rattle.mir_syntax.specs.Shapes.{Shape}
use Rattle.mir_num.specs.Numbers.{flag, integer_of}
use Rattle.mir_semantics.specs.Values.{Value}
use Rattle.mir_semantics.specs.Memory.{Memory, local_at}
use Rattle.mir_semantics.specs.Step.{Code, Control, State, aborted, Next, stop, Here, read_number, go_on, integers, to_block, take_arm, check, finish, exec, call}
use Rattle.mir_rules.proofs.Terminators.{slice_get_there}
use Rattle.mir_renaming.specs.Renaming.{Renaming}
use Rattle.mir_syntax.proofs.Binds.{bind_some, some_bind}
use Rattle.mir_renaming.proofs.Statements.{Linked, Got, got_at, scalar_ty_rel, read_all_rel, read_number_rel, dest_rel, IsSet, PayloadsOk, exec_rel}
use Rattle.mir_relate.specs.Renumbered.{Numbering, PlaceSame, OperandSame, OperandsSame, StmtSame}
use Rattle.inline_pass.proofs.refines.Into.{Stands, into, into_at}
use Rattle.inline_pass.proofs.refines.Both.{read_all_both, read_number_both, exec_both}
use Rattle.inline_pass.proofs.Text.{place_lift, operand_lift, operands_lift, stmt_lift}
use Rattle.inline_pass.proofs.refines.Stacks as stacks
use Rattle.inline_pass.proofs.refines.Stacks.{OneCall, Onward}
use Rattle.inline_pass.proofs.refines.Onwards.{onward_refl, onward_bare, onward_both, onward_alone}
use Rattle.inline_pass.proofs.refines.Follow as follow
use Rattle.inline_pass.proofs.refines.Follow.{Longer, follows_at, follows_by, go_rel, call_rel}

-- a local below a number, and the one that stands so much farther
abbrev pub Off : ℕ → ℕ → Numbering
Off o n x y = (x < n) × (o + x ≡ y)

module _ (X : OneCall) (pairs : (k : ℕ) (bs : TypedBody) → slice_get X.C1.bodies k ≡ Some bs → (bt : TypedBody) × (slice_get X.bodies2 k ≡ Some bt) × Longer bt bs) (s2 s1 : State) (r : stacks.Rel X s2 s1) (ts1 ts2 : List Tree) (o : ℕ) (ghost : r.stands s1.top.frame ≡ Some (record { frame = s2.top.frame; offset = o; size = length ts1 })) (types : (x : ℕ) (t : Tree) → slice_get ts1 x ≡ Some t → slice_get ts2 (o + x) ≡ Some t) where
  open X use {C1, bodies2}

  abbrev C2 : Code
  C2 = record C1 { bodies = bodies2 }

  abbrev D : List Shape
  D = C1.shapes

  abbrev F : Stands
  F = r.stands

  abbrev J : Renaming
  J = into F

  abbrev R : Numbering
  R = Off o (length ts1)

  abbrev Stack : Memory → Memory → List Control → List Control → Type 0
  Stack k2 k1 cs2 cs = stacks.Stack X F k2 k1 s2.next cs2 cs

  abbrev On : Memory → Memory → Type 0
  On k2 k1 = Onward F s2.next s2.memory s1.memory k2 k1

  abbrev Follows : Option Next → Next → Type 0
  Follows = follow.Follows X pairs

  abbrev pub A1 : Here
  A1 = record { shapes = D; locals = ts1; frame = s1.top.frame }

  abbrev pub A2 : Here
  A2 = record { shapes = D; locals = ts2; frame = s2.top.frame }

  pub lifts : (x y : ℕ) → R x y → (J s1.top.frame x ≡ Some (s2.top.frame, y)) × (slice_get ts1 x ≡ slice_get ts2 y)
  lifts x y q =
      let (t, at) = slice_get_there ts1 x q.0 in
      (into_at F s1.top.frame x _ y ghost q.0 q.1, at ∙ sym (types x t at) ∙ ap (slice_get ts2) q.1)

  abbrev Q : Memory → Memory → Type 0
  Q k2 k1 = On k2 k1

  -- ---- a statement

  pub stmt_rel : (st su : TypedStmt) (k1 : Memory) → StmtSame R st su → ((x y : ℕ) → J s1.top.frame x ≡ Some (s2.top.frame, y) → (e x' : ℕ) (u : Value) → J e x' ≡ Some (s2.top.frame, y) → local_at s1.memory e x' ≡ Some u → (e ≡ s1.top.frame) × (x' ≡ x)) → (IsSet D ts1 ts2 s1.top.frame s2.top.frame J J (λ f x r e. e) st → PayloadsOk D ts1 ts2 s1.top.frame s2.top.frame J J (λ f x r e. e) s2.memory) → exec A1 s1.memory st ≡ Some k1 → (k2 : Memory) × (exec A2 s2.memory su ≡ Some k2) × Linked J J k2 k1 × On k2 k1
  stmt_rel st su k1 same clear ok e =
      let rel = stmt_lift D ts1 ts2 s1.top.frame s2.top.frame J R lifts st su same in
      let (k2, q, l) = exec_rel D ts1 ts2 s1.top.frame s2.top.frame J J (λ f x r e. e) s2.memory s1.memory k1 st su rel r.link clear ok e in
      (k2, q, l, exec_both D ts1 ts2 s1.top.frame s2.top.frame J J (λ f x r e. e) Q (λ k2' k1' a b v w x u. onward_both F s2.next s2.memory s1.memory k2' k1' a b v w x u) (λ k2' k1' a v. onward_alone F s2.next s2.memory s1.memory k2' k1' a v) (λ k2' k1' a b v w. onward_bare F s2.next s2.memory s1.memory k2' k1' a b v w) s2.memory s1.memory k2 k1 st su rel r.link e q (onward_refl F s2.next s2.memory s1.memory))

  pub number_rel : (a c : Operand) (k2 k1 : Memory) (x : ℕ × Memory) → OperandSame R a c → Linked J J k2 k1 → On k2 k1 → read_number A1 k1 a ≡ Some x → (y : ℕ × Memory) × (read_number A2 k2 c ≡ Some y) × (x.0 ≡ y.0) × Linked J J y.1 x.1 × On y.1 x.1
  number_rel a c k2 k1 x same l on e =
      let rel = operand_lift D ts1 ts2 s1.top.frame s2.top.frame J R lifts a c same in
      let (y, q, v, l') = read_number_rel D ts1 ts2 s1.top.frame s2.top.frame J J (λ f x r e. e) k2 k1 a c x rel l e in
      (y, q, v, l', read_number_both D ts1 ts2 s1.top.frame s2.top.frame J J (λ f x r e. e) Q (λ k2' k1' a b v w x u. onward_both F s2.next s2.memory s1.memory k2' k1' a b v w x u) (λ k2' k1' a v. onward_alone F s2.next s2.memory s1.memory k2' k1' a v) k2 k1 a c x y rel l e q on)

  -- ---- terminators; the source's first

  module _ (To : ℕ → ℕ → Type 0) (goes : (t u : ℕ) → To t u → (k2 k1 : Memory) → On k2 k1 → Stack k2 k1 (to_block u s2.top ∷ s2.callers) (to_block t s1.top ∷ s1.callers)) where
    abbrev pub ArmsTo : List Arm → List Arm → Type 0
    ArmsTo [] [] = Unit {0}
    ArmsTo (a ∷ as') (b ∷ bs) = (a.value ≡ b.value) × To a.block b.block × ArmsTo as' bs
    ArmsTo _ _ = ⊥

    abbrev pub TermTo : Term → Term → Type 0
    TermTo (Goto t) (Goto u) = To t u
    TermTo (Switch a as' t) (Switch c bs u) = OperandSame R a c × ArmsTo as' bs × To t u
    TermTo Unreachable t = Unit {0}
    TermTo (Call q w os t) (Call q' w' ps u) = PlaceSame R q q' × (w ≡ w') × OperandsSame R os ps × To t u
    TermTo (Assert a e x os t) (Assert c e' x' ps u) = OperandSame R a c × (e ≡ e') × (x ≡ x') × OperandsSame R os ps × To t u
    TermTo _ _ = ⊥

    arms_to : (k : ℕ) (as' bs : List Arm) (t u : ℕ) → ArmsTo as' bs → To t u → To (take_arm k as' t) (take_arm k bs u)
    arms_to k [] [] t u q d = d
    arms_to k (a ∷ as') (b ∷ bs) t u q d = go (nat_eq a.value k) (nat_eq b.value k) (ap (λ i. nat_eq i k) q.0) (arms_to k as' bs t u q.2 d)
      where
        go : (c e : Bool) → c ≡ e → To (take_arm k as' t) (take_arm k bs u) → To (if c then a.block else take_arm k as' t) (if e then b.block else take_arm k bs u)
        go true true z i = q.1
        go false false z i = i
        go true false z i = absurd (grind arith)
        go false true z i = absurd (grind arith)
    arms_to k [] (b ∷ bs) t u q d = absurd q
    arms_to k (a ∷ as') [] t u q d = absurd q

    integers_rel : (os ps : List Operand) (k2 k1 : Memory) (x : List ℤ × Memory) → OperandsSame R os ps → Linked J J k2 k1 → integers A1 k1 os ≡ Some x → Got (λ a b. a ≡ b) J J x (integers A2 k2 ps)
    unfolding integers
    integers_rel [] [] k2 k1 x q l e = got_at (λ a b. a ≡ b) J J _ x (Some ([], k2)) e (([], k2), refl, refl, l)
    integers_rel (a ∷ os) (c ∷ ps) k2 k1 x q l e =
        let (t, e1, n1) = bind_some e in
        let (y, e2, n2) = bind_some n1 in
        let (ys, e3, n3) = bind_some n2 in
        let rel = operand_lift D ts1 ts2 s1.top.frame s2.top.frame J R lifts a c q.0 in
        let (z, g2, h2, l2) = read_number_rel D ts1 ts2 s1.top.frame s2.top.frame J J (λ f x r e. e) k2 k1 a c y rel l e2 in
        let (zs, g3, h3, l3) = integers_rel os ps z.1 y.1 ys q.1 l2 e3 in
        got_at (λ a b. a ≡ b) J J _ x (integers A2 k2 (c ∷ ps)) n3 ((integer_of t z.0 ∷ zs.0, zs.1), some_bind _ (sym (scalar_ty_rel D ts1 ts2 s1.top.frame s2.top.frame J J (λ f x r e. e) a c rel) ∙ e1) (some_bind _ g2 (some_bind _ g3 refl)), ap₂ (λ n ns. integer_of t n ∷ ns) h2 h3, l3)
    integers_rel [] (c ∷ ps) k2 k1 x q l e = absurd q
    integers_rel (a ∷ os) [] k2 k1 x q l e = absurd q

    going : (t u : ℕ) (k2 k1 : Memory) (x : Next) → To t u → Linked J J k2 k1 → On k2 k1 → go_on s1 k1 (to_block t s1.top) ≡ Some x → Follows (go_on s2 k2 (to_block u s2.top)) x
    going t u k2 k1 x to l on e = go_rel X pairs s2 s1 r k2 k1 l (to_block u s2.top) (to_block t s1.top) (goes t u to k2 k1 on) x e

    check_rel : (k2 k1 : Memory) (c : Bool) (text : List ℕ) (os ps : List Operand) (t u : ℕ) (x : Next) → Linked J J k2 k1 → On k2 k1 → OperandsSame R os ps → To t u → check A1 s1 k1 c text os t ≡ Some x → Follows (check A2 s2 k2 c text ps u) x
    unfolding check
    check_rel k2 k1 true text os ps t u x l on ho to e = going t u k2 k1 x to l on e
    check_rel k2 k1 false text os ps t u x l on ho to e =
        let (y, e1, e2) = bind_some e in
        let (z, q, v, _) = integers_rel os ps k2 k1 y ho l e1 in
        follows_by X pairs _ _ x (some_bind _ q refl) (follows_at X pairs _ x (stop (aborted text y.0)) e2 (ap (λ vs. Some (stop (aborted text vs))) (sym v)))

    pub finish_rel : (t u : Term) (x : Next) → TermTo t u → finish C1 A1 s1 t ≡ Some x → Follows (finish C2 A2 s2 u) x
    unfolding finish
    finish_rel (Goto t) (Goto u) x to e = going t u s2.memory s1.memory x to r.link (onward_refl F s2.next s2.memory s1.memory) e
    finish_rel (Switch a arms t) (Switch c arms' u) x (ho, ha, to) e =
        let (y, e1, e2) = bind_some e in
        let (z, q, v, l, on) = number_rel a c s2.memory s1.memory y ho r.link (onward_refl F s2.next s2.memory s1.memory) e1 in
        let to' = arms_to y.0 arms arms' t u ha to in
        follows_by X pairs _ _ x (some_bind _ q (ap (λ k. go_on s2 z.1 (to_block (take_arm k arms' u) s2.top)) (sym v))) (going (take_arm y.0 arms t) (take_arm y.0 arms' u) z.1 y.1 x to' l on e2)
    finish_rel Unreachable u x q e = absurd (grind arith)
    finish_rel (Call q w os t) (Call q' w' ps u) x (hp, hw, ho, to) e =
        let (d, e1, e2) = bind_some e in
        let (y, e3, e4) = bind_some e2 in
        let (d', q1, hd) = dest_rel D ts1 ts2 s1.top.frame s2.top.frame J J (λ f x r e. e) s2.memory s1.memory q q' d (place_lift D ts1 ts2 s1.top.frame s2.top.frame J R lifts q q' hp) r.link e1 in
        let rel = operands_lift D ts1 ts2 s1.top.frame s2.top.frame J R lifts os ps ho in
        let (z, q2, v, l) = read_all_rel D ts1 ts2 s1.top.frame s2.top.frame J J (λ f x r e. e) os ps s2.memory s1.memory y rel r.link e3 in
        let on = read_all_both D ts1 ts2 s1.top.frame s2.top.frame J J (λ f x r e. e) Q (λ k2' k1' a b v w x u. onward_both F s2.next s2.memory s1.memory k2' k1' a b v w x u) (λ k2' k1' a v. onward_alone F s2.next s2.memory s1.memory k2' k1' a v) os ps s2.memory s1.memory y z rel r.link e3 q2 (onward_refl F s2.next s2.memory s1.memory) in
        follows_by X pairs _ _ x (some_bind _ q1 (some_bind _ q2 (ap (λ w. call C2 s2 z.1 (to_block u s2.top) d' w z.0) (sym hw)))) (call_rel X pairs s2 s1 r z.1 y.1 l (to_block u s2.top) (to_block t s1.top) (goes t u to z.1 y.1 on) d' d w y.0 z.0 x v hd e4)
    finish_rel (Assert a c text os t) (Assert a' c' text' ps u) x (ha, hc, hx, ho, to) e =
        let (y, e1, e2) = bind_some e in
        let (z, q, v, l, on) = number_rel a a' s2.memory s1.memory y ha r.link (onward_refl F s2.next s2.memory s1.memory) e1 in
        follows_by X pairs _ _ x (some_bind _ q (ap₂ (λ c text. check A2 s2 z.1 (nat_eq z.0 (flag c)) text ps u) (sym hc) (sym hx) ∙ ap (λ n. check A2 s2 z.1 (nat_eq n (flag c)) text ps u) (sym v))) (check_rel z.1 y.1 (nat_eq y.0 (flag c)) text os ps t u x l on ho to e2)
    finish_rel t u x q e = absurd q
