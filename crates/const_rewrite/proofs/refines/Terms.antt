-- The end of a block of the folded body: a step of its terminator and one of the folded terminator.
use Rattle.std.proofs.Common.{◌≡◌, refl, sym, ap, ◌∙◌, subst, ℕ, Bool, true, false, nat_eq, if◌then◌else◌, List, [], Some, None, slice_get, arith}
use Rattle.mir_syntax.specs.declared.body.Place.{Place}
use Rattle.mir_syntax.specs.declared.body.Operand.{Operand}
use Rattle.mir_syntax.specs.declared.body.Callee.{Callee}
use Rattle.mir_syntax.specs.declared.body.Arm.{Arm}
use Rattle.mir_syntax.specs.declared.body.Term.{Term}
use Rattle.mir_syntax.specs.declared.body.Term.TheVariants.{Goto, Switch, Return, Unreachable, Drop, Call, Assert}
use Rattle.mir_syntax.specs.Tree.{Tree}
use Rattle.mir_syntax.specs.Shapes.{Shape}
use Rattle.mir_syntax.specs.Crate.{TypedBlock}
use Rattle.mir_num.specs.Numbers.{flag}
use Rattle.mir_semantics.specs.Values.{Value}
use Rattle.mir_semantics.specs.Memory.{Memory, write}
use Rattle.mir_semantics.specs.Step.{Here, Dest, State, Next, dest_of, read_number, go_on, to_block, take_arm, check, finish}
use Rattle.mir_syntax.proofs.Binds.{bind_some}
use Rattle.mir_rules.specs.Drops.{is_drop}
use Rattle.mir_renaming.specs.Renaming.{Renaming}
use Rattle.mir_renaming.proofs.Ghosts.{Flat}
use Rattle.mir_renaming.proofs.Statements.{DestRel}
use Rattle.mir_renaming.proofs.Stores.{store_split}
use Rattle.mir_renaming.proofs.Typed.{TermTy}
use Rattle.mir_renaming.proofs.Types.{TypeMap, AddrTy, dest_ty}
use Rattle.mir_relate.specs.Alike.{Between, Sides}
use Rattle.mir_relate.specs.Frames.{Change, target, Pass}
use Rattle.mir_relate.specs.Pass.{GentleTo, Valids, TermMoves, ArgsTerm, Goes}
use Rattle.mir_relate.proofs.Kept as kept
use Rattle.mir_relate.proofs.Leaves.{some_val}
use Rattle.mir_relate.proofs.Living.{living_lent}
use Rattle.mir_relate.proofs.Near as near
use Rattle.mir_relate.proofs.Own as own
use Rattle.escape_info.specs.Borrowed.{borrowed}
use Rattle.const_flow.specs.declared.cell.Cell.{Cell}
use Rattle.const_flow.specs.declared.cell.Cell.TheVariants.{Nothing, Num, Many}
use Rattle.const_flow.specs.Facts.{Facts, known, learn, always, moved_all, after_all, after_term, leads}
use Rattle.const_flow.specs.ConstAt.{Reached, text}
use Rattle.const_flow.specs.Order.{BelowFacts}
use Rattle.const_flow.specs.Holding.{NumFits}
use Rattle.const_flow.proofs.sound.Points.{holds_below, take_end, eq_self, switch_leads, can_leads}
use Rattle.const_flow.proofs.sound.Related.{call_holds}
use Rattle.const_flow.proofs.sound.Stands as stands
use Rattle.const_rewrite.specs.Folded.{folded_operand, folded_operands, switch_or, as_expected, folded_term}
use Rattle.mir_relate.proofs.EachLocal as frames
use Rattle.mir_relate.proofs.EachLocal.{all, holds_linked}
use Rattle.mir_relate.proofs.Moment as moment
use Rattle.mir_relate.proofs.Moment.{Moment}
use Rattle.const_rewrite.proofs.refines.Where.{Folds, Known, Paused, words}
use Rattle.const_rewrite.proofs.refines.Values.{Knows, number_is, number_left, plain_read, folded_reads, folded_read}

expected_is : (e : Bool) (k : Cell) → as_expected e k ≡ true → (n : ℕ) × (k ≡ Num n) × (nat_eq n (flag e) ≡ true)
expected_is e (Num n) h = (n, refl, h)
expected_is e Nothing h = absurd (grind arith)
expected_is e Many h = absurd (grind arith)

module _ {X : Change} {xs : List Reached} {V : Valids X} {Inv : State → Type 0} (now : Moment X (words X xs) V Inv) (folds : Folds X xs) (k : TypedBlock) (ek : slice_get X.body1.blocks now.s1.top.block ≡ Some k) (none : slice_get k.stmts now.s1.top.at ≡ None) where
  open now use {lasts, n, s2, s1, r, runs}

  abbrev D : List Shape
  D = X.source.shapes

  abbrev P : Pass
  P = frames.pass X (words X xs)

  abbrev j : Renaming
  j = now.r.core.lent

  abbrev G : TypeMap
  G = now.r.typed1.types

  abbrev f1 : ℕ
  f1 = now.s1.top.frame

  abbrev f2 : ℕ
  f2 = now.s2.top.frame

  abbrev ts : List Tree
  ts = X.body1.locals

  abbrev K : Renaming
  K = moment.K now

  abbrev S : Sides
  S = moment.S now

  abbrev T : Here
  T = text X.source.shapes X.body1

  -- what is known at the end
  abbrev pub last : Facts
  last = after_all T k.stmts now.runs.says.point.facts

  abbrev Q : Between
  Q = Knows now last

  ended : Q s2.memory s1.memory
  ended = record { near = moment.start now; known = subst (λ ss. Known X xs f1 s1.memory (after_all T ss runs.says.point.facts)) (take_end k.stmts s1.top.at none) (runs.says.point.known k ek) }

  left : (m2 m1 : Memory) → Q m2 m1 → moment.Left now m2 m1
  left m2 m1 q = moment.left now m2 m1 q.near

  abbrev To : Memory → Memory → ℕ → ℕ → Type 0
  To = own.To X P V Inv (frames.frames X (words X xs) now.lasts V Inv) now.n now.s2 now.s1 now.r [] now.s1.callers refl (omega arith) now.below S Q left refl ended

  abbrev SameStepIf : Term → Term → Type 0
  SameStepIf = own.SameStepIf X P V Inv (frames.frames X (words X xs) now.lasts V Inv) now.n now.s2 now.s1 now.r [] now.s1.callers refl (omega arith) now.below S Q left refl ended

  abbrev Spent : List Operand → Memory → Type 0
  Spent = own.Spent X P V Inv (frames.frames X (words X xs) now.lasts V Inv) now.n now.s2 now.s1 now.r [] now.s1.callers refl (omega arith) now.below S Q left refl ended

  abbrev GoalIf : (Memory → Type 0) → Dest → Dest → ℕ → ℕ → Type 0
  GoalIf = own.GoalIf X P V Inv (frames.frames X (words X xs) now.lasts V Inv) now.n now.s2 now.s1 now.r [] now.s1.callers refl (omega arith) now.below S Q left refl ended

  same_goes : (t u : Term) (x : Next) → ArgsTerm X.source t → SameStepIf t u → finish X.source S.source s1 t ≡ Some x → Flat x → GentleTo X G f1 s1.memory x → Goes X P (finish (target X) S.target s2 u) x
  same_goes t u x few h e fl ge = own.step_if_goes X P V Inv (frames.frames X (words X xs) lasts V Inv) n s2 s1 r [] s1.callers refl (omega arith) now.below S Q left refl ended refl refl X.body1 (moment.eb now) (λ h x y v e q. ((moment.pl now).only h x y e).0) (λ h x y lt e. (let z = ((moment.pl now).only h x y e).0 in omega (arith, z, lt))) t u x few h e fl ge

  -- ---- edges

  both_stand : (u : ℕ) → frames.Standing X (words X xs) j (to_block u s2.top) (to_block u s1.top)
  both_stand u = moment.moved now (to_block u s2.top) (to_block u s1.top) refl refl refl refl refl

  -- one along which the facts go
  edge : (u : ℕ) → leads last k.term u ≡ true → after_term k.term last ≡ last → (m2 m1 : Memory) → Q m2 m1 → To m2 m1 u u
  edge u l same m2 m1 q =
      let (gs, e, below) = folds.sound.next s1.top.block u k runs.says.point.facts ek runs.says.point.reached l in
      let known = holds_below D ts f1 (λ x. borrowed D X.body1 x ≡ false) m1 last gs (subst (λ fs. BelowFacts fs gs) same below) q.known in
      (0, (refl, record { stand = both_stand u; locals = holds_linked j f2 f1 (moment.pl now) m2 m1 q.near.linked; says = record { block = refl; at = refl; point = stands.starts D X.body1 xs (to_block u s1.top) m1 gs refl e known } }))

  -- the target goes on at once
  jumps : (m1 : Memory) (u2 u1 : ℕ) (x : Next) → u1 ≡ u2 → leads last k.term u1 ≡ true → after_term k.term last ≡ last → Q s2.memory m1 → go_on s1 m1 (to_block u1 s1.top) ≡ Some x → GentleTo X G f1 s1.memory x → Goes X P (go_on s2 s2.memory (to_block u2 s2.top)) x
  jumps m1 u2 u1 x is l same q e ge = own.to_goes X P V Inv (frames.frames X (words X xs) lasts V Inv) n s2 s1 r [] s1.callers refl (omega arith) now.below S Q left refl ended s2.memory m1 u2 u1 x ge q (λ m2 m1 q. subst (λ u. To m2 m1 u u1) is (edge u1 l same m2 m1 q)) e

  -- ---- a switch

  arm_edge : (p : Operand) (arms : List Arm) (u : ℕ) → k.term ≡ Switch p arms u → (i : ℕ) → NumFits (known last p) i → leads last k.term (take_arm i arms u) ≡ true
  unfolding leads
  arm_edge p arms u is i fits = ap (λ t. leads last t (take_arm i arms u)) is ∙ switch_leads (known last p) i arms u fits

  switch_still : (p : Operand) (arms : List Arm) (u : ℕ) → k.term ≡ Switch p arms u → after_term k.term last ≡ last
  unfolding after_term
  switch_still p arms u is = ap (λ t. after_term t last) is

  switches : (p : Operand) (arms : List Arm) (u : ℕ) (x : Next) → k.term ≡ Switch p arms u → TermMoves S.source (Switch p arms u) → finish X.source S.source s1 (Switch p arms u) ≡ Some x → Flat x → GentleTo X G f1 s1.memory x → Goes X P (finish (target X) S.target s2 (switch_or (known last p) p arms u)) x
  unfolding finish
  switches p arms u x is mo e fl ge = go (known last p) refl
    where
      fits : (a : ℕ × Memory) → read_number S.source s1.memory p ≡ Some a → NumFits (known last p) a.0
      fits a e = number_is now last s2.memory s1.memory p a ended e

      plain : Goes X P (finish (target X) S.target s2 (Switch p arms u)) x
      plain = same_goes (Switch p arms u) (Switch p arms u) x tt (plain_read now last p mo, λ i m2 m1 q read. edge (take_arm i arms u) (arm_edge p arms u is i (fits (i, m1) read)) (switch_still p arms u is) m2 m1 q) e fl ge

      go : (c : Cell) → known last p ≡ c → Goes X P (finish (target X) S.target s2 (switch_or c p arms u)) x
      go (Num c) eq =
          let (a, e1, k1) = bind_some e in
          let same : c ≡ a.0 = subst (λ c. NumFits c a.0) eq (fits a e1) in
          jumps a.1 (take_arm c arms u) (take_arm a.0 arms u) x (ap (λ i. take_arm i arms u) (sym same)) (arm_edge p arms u is a.0 (fits a e1)) (switch_still p arms u is) (number_left now last s2.memory s1.memory p a mo ended e1) k1 ge
      go Nothing eq = plain
      go Many eq = plain

  -- ---- an `assert`

  asserts : (p : Operand) (c : Bool) (words : List ℕ) (os : List Operand) (u : ℕ) (x : Next) → k.term ≡ Assert p c words os u → TermMoves S.source (Assert p c words os u) → finish X.source S.source s1 (Assert p c words os u) ≡ Some x → Flat x → GentleTo X G f1 s1.memory x → Goes X P (finish (target X) S.target s2 (if as_expected c (known last p) then Goto u else Assert (folded_operand T last p) c words (folded_operands T last os) u)) x
  unfolding finish leads after_term check
  asserts p c words os u x is mo e fl ge = go (as_expected c (known last p)) refl
    where
      fits : (a : ℕ × Memory) → read_number S.source s1.memory p ≡ Some a → NumFits (known last p) a.0
      fits a e = number_is now last s2.memory s1.memory p a ended e

      there : (i : ℕ) → NumFits (known last p) i → nat_eq i (flag c) ≡ true → leads last k.term u ≡ true
      there i h ok = ap (λ t. leads last t u) is ∙ can_leads c (known last p) i u h ok

      still : after_term k.term last ≡ last
      still = ap (λ t. after_term t last) is

      passes : (m1 : Memory) (b : Bool) → b ≡ true → check S.source s1 m1 b words os u ≡ Some x → go_on s1 m1 (to_block u s1.top) ≡ Some x
      passes m1 b q h = ap (λ b. check S.source s1 m1 b words os u) (sym q) ∙ h

      go : (b : Bool) → as_expected c (known last p) ≡ b → Goes X P (finish (target X) S.target s2 (if b then Goto u else Assert (folded_operand T last p) c words (folded_operands T last os) u)) x
      go true eq =
          let (i, ki, ic) = expected_is c (known last p) eq in
          let (a, e1, k1) = bind_some e in
          let same : i ≡ a.0 = subst (λ c. NumFits c a.0) ki (fits a e1) in
          let ok : nat_eq a.0 (flag c) ≡ true = ap (λ i. nat_eq i (flag c)) (sym same) ∙ ic in
          jumps a.1 u u x refl (there a.0 (fits a e1) ok) still (number_left now last s2.memory s1.memory p a mo.0 ended e1) (passes a.1 (nat_eq a.0 (flag c)) ok k1) ge
      go false eq = same_goes (Assert p c words os u) (Assert (folded_operand T last p) c words (folded_operands T last os) u) x tt (
        folded_reads now last p mo.0,
        refl,
        refl,
        folded_read now last os mo.1,
        λ i ok m2 m1 q read. edge u (there i (fits (i, m1) read) ok) still m2 m1 q,
      ) e fl ge

  -- ---- a call

  -- the facts after it, whatever has come to its destination
  after_call : (p : Place) (g : Callee) (os : List Operand) (u : ℕ) → k.term ≡ Call p g os u → (d : Dest) (m1 : Memory) → dest_of S.source s1.memory p ≡ Some d → Spent os m1 → (gs : Facts) × (slice_get xs u ≡ Some (Some gs)) × ((v : Value) → Known X xs f1 (write m1 d.addr v) gs)
  unfolding leads after_term
  after_call p g os u is d m1 ed (vs, er) =
      let (gs, e, below) = folds.sound.next s1.top.block u k runs.says.point.facts ek runs.says.point.reached (ap (λ t. leads last t u) is ∙ eq_self u) in
      let below' : BelowFacts (learn p (always Many) (moved_all os last)) gs = subst (λ t. BelowFacts (after_term t last) gs) is below in
      (gs, e, λ v. holds_below D ts f1 (λ x. borrowed D X.body1 x ≡ false) (write m1 d.addr v) (learn p (always Many) (moved_all os last)) gs below' (call_holds D X.body1 f1 f2 j K (moment.low now) (moment.itself now) (moment.unlent_at now) (moment.lent_at now) s2.memory s1.memory ended.near.linked.mem last ended.known p os d vs m1 ed er v))

  goal : (p : Place) (g : Callee) (os : List Operand) (u : ℕ) → k.term ≡ Call p g os u → (d2 d1 : Dest) (t : Tree) → dest_of S.source s1.memory p ≡ Some d1 → DestRel K d1 d2 → AddrTy D G d1.addr t → GoalIf (Spent os) d2 d1 u u
  goal p g os u is d2 d1 t ed dr at = record {
    waits = λ m2 m1 q am.
        let (gs, e, later) = after_call p g os u is d1 m1 ed am in
        let says : Paused X xs (Some d1) (to_block u s2.top) (to_block u s1.top) m1 = record { block = refl; at = refl; point = record { start = refl; facts = gs; reached = e; later = λ d e v. subst (λ (d : Dest). Known X xs f1 (write m1 d.addr v) gs) (some_val e) (later v) } } in
        (refl, record { stand = both_stand u; locals = holds_linked j f2 f1 (moment.pl now) m2 m1 q.near.linked; dests = dr; says = says });
    gets = λ m2 m1 m1' v q am hv wh h.
        let (gs, e, later) = after_call p g os u is d1 m1 ed am in
        let (m2', g1, l', lv) = near.store_near D ts ts f1 f2 j K (moment.low now) G (moment.bok now) (moment.lok now) V.needs f2 f1 s2.memory s1.memory (moment.nears now) (moment.onces now) m2 m1 m1' d1 d2 t v v q.near dr at hv h in
        let (old, eo, same) = store_split D m1 m1' d1 v h in
        let point = stands.starts D X.body1 xs (to_block u s1.top) m1' gs refl e (subst (λ m. Known X xs f1 m gs) same (later v)) in
        (m2', g1, (living_lent j f2 f1 (moment.pl now) all m2' m1' l', lv), (0, (refl, record { stand = both_stand u; locals = holds_linked j f2 f1 (moment.pl now) m2' m1' l'; says = record { block = refl; at = refl; point = point } })));
  }

  calls : (p : Place) (g : Callee) (os : List Operand) (u : ℕ) (x : Next) → k.term ≡ Call p g os u → TermMoves S.source (Call p g os u) → TermTy X.source S.source (Call p g os u) → ArgsTerm X.source (Call p g os u) → finish X.source S.source s1 (Call p g os u) ≡ Some x → Flat x → GentleTo X G f1 s1.memory x → Goes X P (finish (target X) S.target s2 (Call p g (folded_operands T last os) u)) x
  calls p g os u x is mo (t, pt, ct) few e fl ge = same_goes (Call p g os u) (Call p g (folded_operands T last os) u) x few (
    refl,
    folded_read now last os mo,
    λ d1 ed.
        let (d2, g1, dr) = kept.dest_as D ts ts f1 f2 j K (moment.low now) G (moment.bok now) (moment.lok now) (moment.Q now) (moment.keeps now) s2.memory s1.memory p p d1 (moment.place_self now p) (moment.start now) ed in
        (d2, g1, goal p g os u is d2 d1 t ed dr (dest_ty D G (moment.bok now) ts f1 (moment.lok now) s1.memory p t d1 r.typed1.mem pt ed)),
  ) e fl ge

  -- ---- each terminator

  pub term_goes : (t : Term) (x : Next) → k.term ≡ t → is_drop t ≡ false → TermMoves S.source t → TermTy X.source S.source t → ArgsTerm X.source t → finish X.source S.source s1 t ≡ Some x → Flat x → GentleTo X G f1 s1.memory x → Goes X P (finish (target X) S.target s2 (folded_term T last t)) x
  unfolding folded_term leads after_term
  term_goes (Goto u) x is nd mo ty few e fl ge = same_goes (Goto u) (Goto u) x tt (λ m2 m1 q. edge u (ap (λ t. leads last t u) is ∙ eq_self u) (ap (λ t. after_term t last) is) m2 m1 q) e fl ge
  term_goes (Switch p arms u) x is nd mo ty few e fl ge = switches p arms u x is mo e fl ge
  term_goes Return x is nd mo ty few e fl ge = same_goes Return Return x tt (refl, moment.result now) e fl ge
  term_goes Unreachable x is nd mo ty few e fl ge = same_goes Unreachable Unreachable x tt tt e fl ge
  term_goes (Drop p u) x is nd mo ty few e fl ge = absurd (grind arith)
  term_goes (Call p g os u) x is nd mo ty few e fl ge = calls p g os u x is mo ty few e fl ge
  term_goes (Assert p c words os u) x is nd mo ty few e fl ge = asserts p c words os u x is mo e fl ge
