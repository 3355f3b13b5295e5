-- What statements, terminators and edges make of facts rises, and facts of the same places are a lattice: proofs alone, of the law that `solve` asks
-- for.
use Rattle.std.proofs.Common.{◌≡◌, refl, sym, ap, ap₂, ◌∙◌, subst, ℕ, zero, suc, ◌*◌, ◌≤◌, Bool, true, false, nat_eq, ◌&&◌, List, [], ◌∷◌, map, length, Option, Some, None, arith}
use Rattle.std.proofs.lemmas.Bool.{eqb-true}
use Rattle.mir_syntax.specs.declared.body.Proj.{Proj}
use Rattle.mir_syntax.specs.declared.body.Proj.TheVariants.{Field, Downcast, Deref}
use Rattle.mir_syntax.specs.declared.body.Place.{Place}
use Rattle.mir_syntax.specs.declared.body.Operand.{Operand}
use Rattle.mir_syntax.specs.declared.body.Operand.TheVariants as operand
use Rattle.mir_syntax.specs.declared.body.Arm.{Arm}
use Rattle.mir_syntax.specs.declared.body.Term.{Term}
use Rattle.mir_syntax.specs.declared.body.Term.TheVariants.{Goto, Switch, Return, Unreachable, Drop, Call, Assert}
use Rattle.mir_syntax.specs.Crate.{TypedRvalue, «use», binary, overflow, unary, cast, discriminant, tuple, build, TypedStmt, assign, storage_live, storage_dead, set_discriminant, TypedBlock, TypedBody}
use Rattle.mir_syntax.specs.Crate as rvalue
use Rattle.mir_num.specs.Numbers as num
use Rattle.mir_syntax.specs.Parts.{rvalue_operands}
use Rattle.mir_semantics.specs.Step.{Here, take_arm}
use Rattle.place_map.specs.Tracked.{way}
use Rattle.const_flow.specs.declared.cell.Cell.{Cell}
use Rattle.const_flow.specs.declared.cell.Cell.TheVariants.{Nothing, Num, Many}
use Rattle.const_flow.specs.Facts.{Fact, Facts, put_known, learn, always, value_known, binary_of, wrapped_of, flag_of, unary_of, cast_of, moved, moved_all, after_stmt, after_all, after_term, any_arm, switch_to, can_be, leads}
use Rattle.const_flow.specs.ConstAt.{Reached, join_reached, sent_if, sent, first_fact}
use Rattle.const_flow.specs.Order.{BelowCell, BelowFacts, BelowReached, places, OkReached, sum, rank, height}
use Rattle.const_flow.specs.Same.{arm_there}
use Rattle.const_flow.specs.Heights.{part_below, known_below, nth_below, one_below, both_below, facts_same, facts_then, facts_left, facts_right, facts_least, join_places, sum_below, sum_same, sum_high}

pub some_one : {A : Type 0} {x y : A} → Some x ≡ Some y → x ≡ y
some_one e = grind arith

value_below : (h : Here) (fs gs : Facts) (x : TypedRvalue) (r : List Proj) → BelowFacts fs gs → BelowCell (value_known h fs x r) (value_known h gs x r)
unfolding value_known
value_below h fs gs («use» o) r k = part_below fs gs o r k
value_below h fs gs (binary op a b) [] k = both_below (binary_of h op a) _ _ _ _ (known_below fs gs a k) (known_below fs gs b k)
value_below h fs gs (binary op a b) (p ∷ r) k = tt
value_below h fs gs (overflow op a b) (Field zero ∷ []) k = both_below (wrapped_of h op a) _ _ _ _ (known_below fs gs a k) (known_below fs gs b k)
value_below h fs gs (overflow op a b) (Field (suc zero) ∷ []) k = both_below (flag_of h op a) _ _ _ _ (known_below fs gs a k) (known_below fs gs b k)
value_below h fs gs (overflow op a b) [] k = tt
value_below h fs gs (overflow op a b) (Field zero ∷ (p ∷ r)) k = tt
value_below h fs gs (overflow op a b) (Field (suc zero) ∷ (p ∷ r)) k = tt
value_below h fs gs (overflow op a b) (Field (suc (suc n)) ∷ r) k = tt
value_below h fs gs (overflow op a b) (Downcast n ∷ r) k = tt
value_below h fs gs (overflow op a b) (Deref ∷ r) k = tt
value_below h fs gs (unary op a) [] k = one_below (unary_of h op a) _ _ (known_below fs gs a k)
value_below h fs gs (unary op a) (p ∷ r) k = tt
value_below h fs gs (cast a t) [] k = one_below (cast_of h a t) _ _ (known_below fs gs a k)
value_below h fs gs (cast a t) (p ∷ r) k = tt
value_below h fs gs (rvalue.ref p) r k = tt
value_below h fs gs (rvalue.ref_mut p) r k = tt
value_below h fs gs (discriminant p) r k = tt
value_below h fs gs (tuple os) [] k = tt
value_below h fs gs (tuple os) (Field i ∷ r) k = nth_below fs gs os i r k
value_below h fs gs (tuple os) (Downcast n ∷ r) k = tt
value_below h fs gs (tuple os) (Deref ∷ r) k = tt
value_below h fs gs (build d v os) [] k = tt
value_below h fs gs (build d v os) (Field i ∷ r) k = nth_below fs gs os i r k
value_below h fs gs (build d v os) (Downcast n ∷ r) k = tt
value_below h fs gs (build d v os) (Deref ∷ r) k = tt

put_below : (q : Place) (new new' : List Proj → Cell) (e d : Fact) (o o' : Option (List Proj)) → o ≡ o' → ((r : List Proj) → BelowCell (new r) (new' r)) → (e.place ≡ d.place) × BelowCell e.known d.known → ((put_known new e o).place ≡ (put_known new' d o').place) × BelowCell (put_known new e o).known (put_known new' d o').known
put_below q new new' e d None None s k h = h
put_below q new new' e d (Some r) (Some r') s k h = (h.0, subst (λ r'. BelowCell (new r) (new' r')) (some_one s) (k r))
put_below q new new' e d None (Some r') s k h = absurd (grind arith)
put_below q new new' e d (Some r) None s k h = absurd (grind arith)

learn_below : (q : Place) (new new' : List Proj → Cell) (fs gs : Facts) → ((r : List Proj) → BelowCell (new r) (new' r)) → BelowFacts fs gs → BelowFacts (learn q new fs) (learn q new' gs)
unfolding learn
learn_below q new new' [] [] k h = tt
learn_below q new new' (e ∷ fs) (d ∷ gs) k h = (put_below q new new' e d (way q e.place) (way q d.place) (ap (way q) h.0.0) k h.0, learn_below q new new' fs gs k h.1)
learn_below q new new' [] (d ∷ gs) k h = absurd h
learn_below q new new' (e ∷ fs) [] k h = absurd h

moved_below : (o : Operand) (fs gs : Facts) → BelowFacts fs gs → BelowFacts (moved o fs) (moved o gs)
unfolding moved
moved_below (operand.Copy p) fs gs h = h
moved_below (operand.Move p) fs gs h = learn_below p (always Nothing) (always Nothing) fs gs (λ r. tt) h
moved_below (operand.Const c) fs gs h = h

moved_all_below : (os : List Operand) (fs gs : Facts) → BelowFacts fs gs → BelowFacts (moved_all os fs) (moved_all os gs)
moved_all_below [] fs gs h = h
moved_all_below (o ∷ os) fs gs h = moved_all_below os (moved o fs) (moved o gs) (moved_below o fs gs h)

stmt_below : (T : Here) (s : TypedStmt) (fs gs : Facts) → BelowFacts fs gs → BelowFacts (after_stmt T s fs) (after_stmt T s gs)
unfolding after_stmt
stmt_below T (assign p x) fs gs h = learn_below p (value_known T fs x) (value_known T gs x) _ _ (λ r. value_below T fs gs x r h) (moved_all_below (rvalue_operands x) fs gs h)
stmt_below T (storage_live x) fs gs h = learn_below _ (always Nothing) (always Nothing) fs gs (λ r. tt) h
stmt_below T (storage_dead x) fs gs h = learn_below _ (always Nothing) (always Nothing) fs gs (λ r. tt) h
stmt_below T (set_discriminant p k) fs gs h = h

pub all_below : (T : Here) (ss : List TypedStmt) (fs gs : Facts) → BelowFacts fs gs → BelowFacts (after_all T ss fs) (after_all T ss gs)
all_below T [] fs gs h = h
all_below T (s ∷ ss) fs gs h = all_below T ss (after_stmt T s fs) (after_stmt T s gs) (stmt_below T s fs gs h)

pub term_below : (t : Term) (fs gs : Facts) → BelowFacts fs gs → BelowFacts (after_term t fs) (after_term t gs)
unfolding after_term
term_below (Goto t) fs gs h = h
term_below (Switch o arms t) fs gs h = h
term_below Return fs gs h = h
term_below Unreachable fs gs h = h
term_below (Drop p t) fs gs h = learn_below p (always Nothing) (always Nothing) fs gs (λ r. tt) h
term_below (Call p g os t) fs gs h = learn_below p (always Many) (always Many) _ _ (λ r. tt) (moved_all_below os fs gs h)
term_below (Assert o e x os t) fs gs h = h

switch_below : (b : ℕ) (k i : Cell) (arms : List Arm) (other : ℕ) → BelowCell k i → switch_to b k arms other ≡ true → switch_to b i arms other ≡ true
switch_below b Nothing i arms other h e = absurd (grind arith)
switch_below b (Num n) (Num m) arms other h e = subst (λ m. nat_eq (take_arm m arms other) b ≡ true) h e
switch_below b (Num n) Many arms other h e = subst (λ b. any_arm b arms other ≡ true) (eqb-true (take_arm n arms other) b e) (arm_there n arms other)
switch_below b Many Many arms other h e = e
switch_below b (Num n) Nothing arms other h e = absurd h
switch_below b Many Nothing arms other h e = absurd h
switch_below b Many (Num m) arms other h e = absurd h

can_below : (ex : Bool) (k i : Cell) (c : Bool) → BelowCell k i → (can_be ex k && c) ≡ true → (can_be ex i && c) ≡ true
can_below ex Nothing i c h e = absurd (grind arith)
can_below ex (Num n) (Num m) c h e = subst (λ m. (nat_eq m (num.flag ex) && c) ≡ true) h e
can_below ex (Num n) Many c h e = second (nat_eq n (num.flag ex)) c e
  where
    second : (a c : Bool) → (a && c) ≡ true → c ≡ true
    second true c e = e
    second false c e = absurd (grind arith)
can_below ex Many Many c h e = e
can_below ex (Num n) Nothing c h e = absurd h
can_below ex Many Nothing c h e = absurd h
can_below ex Many (Num m) c h e = absurd h

pub leads_below : (fs gs : Facts) (t : Term) (b : ℕ) → BelowFacts fs gs → leads fs t b ≡ true → leads gs t b ≡ true
unfolding leads
leads_below fs gs (Goto t) b h e = e
leads_below fs gs (Switch o arms t) b h e = switch_below b _ _ arms t (known_below fs gs o h) e
leads_below fs gs Return b h e = e
leads_below fs gs Unreachable b h e = e
leads_below fs gs (Drop p t) b h e = e
leads_below fs gs (Call p g os t) b h e = e
leads_below fs gs (Assert o ex x os t) b h e = can_below ex _ _ (nat_eq t b) (known_below fs gs o h) e

-- facts of blocks
pub sent_below : (T : Here) (k : TypedBlock) (b : ℕ) (x y : Reached) → BelowReached x y → BelowReached (sent T k b x) (sent T k b y)
unfolding sent
sent_below T k b None y h = tt
sent_below T k b (Some fs) (Some gs) h = go (leads (after_all T k.stmts fs) k.term b) (leads (after_all T k.stmts gs) k.term b) refl refl
  where
    le : BelowFacts (after_all T k.stmts fs) (after_all T k.stmts gs)
    le = all_below T k.stmts fs gs h

    go : (p q : Bool) → leads (after_all T k.stmts fs) k.term b ≡ p → leads (after_all T k.stmts gs) k.term b ≡ q → BelowReached (sent_if p (after_term k.term (after_all T k.stmts fs))) (sent_if q (after_term k.term (after_all T k.stmts gs)))
    go false q e d = tt
    go true true e d = term_below k.term (after_all T k.stmts fs) (after_all T k.stmts gs) le
    go true false e d = absurd (let z : true ≡ false = sym (leads_below (after_all T k.stmts fs) (after_all T k.stmts gs) k.term b le e) ∙ d in grind arith)
sent_below T k b (Some fs) None h = absurd h

-- the places stay
learn_places : (q : Place) (new : List Proj → Cell) (fs : Facts) → places (learn q new fs) ≡ places fs
unfolding learn
learn_places q new [] = refl
learn_places q new (e ∷ fs) = ap₂ (λ p ps. p ∷ ps) (go (way q e.place)) (learn_places q new fs)
  where
    go : (o : Option (List Proj)) → (put_known new e o).place ≡ e.place
    go None = refl
    go (Some r) = refl

moved_places : (o : Operand) (fs : Facts) → places (moved o fs) ≡ places fs
unfolding moved
moved_places (operand.Copy p) fs = refl
moved_places (operand.Move p) fs = learn_places p (always Nothing) fs
moved_places (operand.Const c) fs = refl

moved_all_places : (os : List Operand) (fs : Facts) → places (moved_all os fs) ≡ places fs
moved_all_places [] fs = refl
moved_all_places (o ∷ os) fs = moved_all_places os (moved o fs) ∙ moved_places o fs

stmt_places : (T : Here) (s : TypedStmt) (fs : Facts) → places (after_stmt T s fs) ≡ places fs
unfolding after_stmt
stmt_places T (assign p x) fs = learn_places p (value_known T fs x) _ ∙ moved_all_places (rvalue_operands x) fs
stmt_places T (storage_live x) fs = learn_places _ (always Nothing) fs
stmt_places T (storage_dead x) fs = learn_places _ (always Nothing) fs
stmt_places T (set_discriminant p k) fs = refl

pub all_places : (T : Here) (ss : List TypedStmt) (fs : Facts) → places (after_all T ss fs) ≡ places fs
all_places T [] fs = refl
all_places T (s ∷ ss) fs = all_places T ss (after_stmt T s fs) ∙ stmt_places T s fs

pub term_places : (t : Term) (fs : Facts) → places (after_term t fs) ≡ places fs
unfolding after_term
term_places (Goto t) fs = refl
term_places (Switch o arms t) fs = refl
term_places Return fs = refl
term_places Unreachable fs = refl
term_places (Drop p t) fs = learn_places p (always Nothing) fs
term_places (Call p g os t) fs = learn_places p (always Many) _ ∙ moved_all_places os fs
term_places (Assert o e x os t) fs = refl

pub sent_ok : (ps : List Place) (T : Here) (k : TypedBlock) (b : ℕ) (x : Reached) → OkReached ps x → OkReached ps (sent T k b x)
unfolding sent
sent_ok ps T k b None h = tt
sent_ok ps T k b (Some fs) h = go (leads (after_all T k.stmts fs) k.term b)
  where
    go : (p : Bool) → OkReached ps (sent_if p (after_term k.term (after_all T k.stmts fs)))
    go false = tt
    go true = term_places k.term (after_all T k.stmts fs) ∙ all_places T k.stmts fs ∙ h

module _ (ps : List Place) where
  pub joined_ok : (x y : Reached) → OkReached ps x → OkReached ps y → OkReached ps (join_reached x y)
  joined_ok None y h k = k
  joined_ok (Some fs) None h k = h
  joined_ok (Some fs) (Some gs) h k = join_places fs gs ∙ h

  pub same_reached : (x : Reached) → BelowReached x x
  same_reached None = tt
  same_reached (Some fs) = facts_same fs

  pub then_reached : (x y z : Reached) → BelowReached x y → BelowReached y z → BelowReached x z
  then_reached None y z h k = tt
  then_reached (Some fs) (Some gs) (Some hs) h k = facts_then fs gs hs h k
  then_reached (Some fs) (Some gs) None h k = absurd k
  then_reached (Some fs) None z h k = absurd h

  pub left_reached : (x y : Reached) → OkReached ps x → OkReached ps y → BelowReached x (join_reached x y)
  left_reached None y h k = tt
  left_reached (Some fs) None h k = facts_same fs
  left_reached (Some fs) (Some gs) h k = facts_left fs gs (h ∙ sym k)

  pub right_reached : (x y : Reached) → OkReached ps x → OkReached ps y → BelowReached y (join_reached x y)
  right_reached None y h k = same_reached y
  right_reached (Some fs) None h k = tt
  right_reached (Some fs) (Some gs) h k = facts_right fs gs (h ∙ sym k)

  pub least_reached : (x y z : Reached) → BelowReached x z → BelowReached y z → BelowReached (join_reached x y) z
  least_reached None y z h k = k
  least_reached (Some fs) None z h k = h
  least_reached (Some fs) (Some gs) (Some hs) h k = facts_least fs gs hs h k
  least_reached (Some fs) (Some gs) None h k = absurd h

  pub rank_reached : (x y : Reached) → BelowReached x y → rank x ≤ rank y
  rank_reached None y h = omega arith
  rank_reached (Some fs) (Some gs) h = let a = sum_below fs gs h in omega arith
  rank_reached (Some fs) None h = absurd h

  pub rank_equal : (x y : Reached) → BelowReached x y → rank x ≡ rank y → x ≡ y
  rank_equal None None h e = refl
  rank_equal None (Some gs) h e = absurd (grind arith)
  rank_equal (Some fs) (Some gs) h e = ap Some (sum_same fs gs h (grind arith))
  rank_equal (Some fs) None h e = absurd h

  pub rank_high : (x : Reached) → OkReached ps x → rank x ≤ height ps
  rank_high None h = omega arith
  rank_high (Some fs) h =
      let a : sum fs ≤ length ps * 2 = subst (λ qs. sum fs ≤ length qs * 2) h (sum_high fs) in
      omega arith

pub first_places : (b : TypedBody) (ps : List Place) → places (map (first_fact b) ps) ≡ ps
first_places b [] = refl
first_places b (p ∷ ps) = ap (λ qs. p ∷ qs) (first_places b ps)
