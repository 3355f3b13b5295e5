-- Of what is broken on one line the least code is the first: codes come in ascending order.
use Rattle.std.proofs.Common.{◌≡◌, ℕ, ◌<◌, ◌≤◌, Bool, true, false, nat_lt, List, [], ◌∷◌, ◌++◌, map, Option, Some, None, refl, sym, ap, ◌∙◌, arith, ltb-true, eq-eqb}
use Rattle.std.proofs.lemmas.Bool.{lt-ltb}
use Rattle.mir_syntax.specs.declared.lines.BlockLines.{BlockLines}
use Rattle.mir_syntax.specs.declared.body.Operand.{Operand}
use Rattle.mir_syntax.specs.declared.body.Term.{Term}
use Rattle.mir_syntax.specs.declared.body.Term.TheVariants as term
use Rattle.mir_syntax.specs.Tree.{Tree}
use Rattle.mir_syntax.specs.Crate.{TypedRvalue, «use», binary, overflow, unary, cast, ref, ref_mut, discriminant, tuple, build, TypedStmt, assign, storage_live, storage_dead, set_discriminant, Crate}
use Rattle.mir_syntax.specs.Shapes.{Shape}
use Rattle.mir_text.specs.NameFaults.{comes_first, earlier, first_fault}
use Rattle.mir_syntax.specs.Parts.{rvalue_operands, rvalue_places, term_operands, term_places}
use Rattle.mir_rules.specs.BodyRules.{breaks_v05, breaks_v06, breaks_v08, breaks_v09, breaks_v10, breaks_v11, breaks_v12, breaks_v13, breaks_v14, breaks_v15, breaks_v16, breaks_v17, breaks_v18, breaks_v19, breaks_v20, breaks_v21, breaks_v22, breaks_v23, breaks_v24, breaks_v25}
use Rattle.mir_rules.specs.Typing.{binary_ty, overflow_ty}
use Rattle.mir_rules.specs.Broken.{if_broken, operands_broken, rvalue_broken, statement_broken, own_broken, terminator_broken}
use Rattle.mir_rules.proofs.Lists.{and_true-left, and_true-right}
use Rattle.mir_rules.proofs.Least.{first_fault_append, either_assoc}
use Rattle.mir_validate.specs.Codes.{first_code}
use Rattle.mir_validate.specs.Terms.{ascends_from, ascends}
use Rattle.mir_validate.specs.Walk.{at_line, on_line, statements_broken, blocks_broken}
use Rattle.mir_limits.specs.Answer.{either}
use Rattle.mir_validate.proofs.Seeing.{not_true}

-- ---- ascending codes

later_than : (j k : ℕ) (xs : List ℕ) → j ≤ k → ascends_from k xs ≡ true → ascends_from j xs ≡ true
later_than j k [] h e = refl
later_than j k (x ∷ xs) h e =
    let above : k < x = ltb-true k x (and_true-left (nat_lt k x) (ascends_from x xs) e) in
    rw (lt-ltb j x (omega arith)) (and_true-right (nat_lt k x) (ascends_from x xs) e)

-- a rule in front of rules with greater codes
front : (j k : ℕ) (b : Bool) (xs : List ℕ) → j < k → ascends_from k xs ≡ true → ascends_from j (if_broken b k ++ xs) ≡ true
front j k true xs h e = rw (lt-ltb j k h) e
front j k false xs h e = later_than j k xs (omega arith) e

last : (j k : ℕ) (b : Bool) → j < k → ascends_from j (if_broken b k) ≡ true
last j k true h = rw (lt-ltb j k h) refl
last j k false h = refl

ascends_all : (j : ℕ) (xs : List ℕ) → ascends_from j xs ≡ true → ascends xs ≡ true
ascends_all j [] e = refl
ascends_all j (x ∷ xs) e = and_true-right (nat_lt j x) (ascends_from x xs) e

module _ (D : List Shape) (locals : List Tree) where
  moved : (xs : List Operand) → ascends_from 20 (operands_broken D locals xs) ≡ true
  moved xs = front 20 21 (breaks_v21 D locals xs) (if_broken (breaks_v22 D locals xs) 22) (omega arith) (last 21 22 (breaks_v22 D locals xs) (omega arith))

  -- a value's own rule, in front of rules with greater codes
  valued : (r : TypedRvalue) (xs : List ℕ) → ascends_from 13 xs ≡ true → ascends_from 6 (rvalue_broken D locals r ++ xs) ≡ true
  unfolding rvalue_broken
  valued («use» a) xs e = later_than 6 13 xs (omega arith) e
  valued (binary op a b) xs e = front 6 9 (breaks_v09 D locals (binary_ty op) a b) xs (omega arith) (later_than 9 13 xs (omega arith) e)
  valued (overflow op a b) xs e = front 6 9 (breaks_v09 D locals overflow_ty a b) xs (omega arith) (later_than 9 13 xs (omega arith) e)
  valued (unary op a) xs e = front 6 10 (breaks_v10 D locals op a) xs (omega arith) (later_than 10 13 xs (omega arith) e)
  valued (cast a ty) xs e = front 6 11 (breaks_v11 D locals a ty) xs (omega arith) (later_than 11 13 xs (omega arith) e)
  valued (ref p) xs e = later_than 6 13 xs (omega arith) e
  valued (ref_mut p) xs e = later_than 6 13 xs (omega arith) e
  valued (discriminant p) xs e = front 6 13 (breaks_v13 D locals p) xs (omega arith) e
  valued (tuple parts) xs e = later_than 6 13 xs (omega arith) e
  valued (build d v parts) xs e = front 6 12 (breaks_v12 D locals d v parts) xs (omega arith) (later_than 12 13 xs (omega arith) e)

  pub statement_ascends : (args : ℕ) (s : TypedStmt) → ascends (statement_broken D args locals s) ≡ true
  unfolding statement_broken
  statement_ascends args (assign p r) =
      let moves = operands_broken D locals (rvalue_operands r) in
      let value = if_broken (breaks_v14 D locals p r) 14 ++ moves in
      let own = rvalue_broken D locals r ++ value in
      let untyped = breaks_v06 D locals (p ∷ rvalue_places r) in
      ascends_all 0 (if_broken untyped 6 ++ own) (front 0 6 untyped own (omega arith) (valued r value (front 13 14 (breaks_v14 D locals p r) moves (omega arith) (later_than 14 20 moves (omega arith) (moved (rvalue_operands r))))))
  statement_ascends args (storage_live x) = ascends_all 0 (if_broken (breaks_v08 args x) 8) (last 0 8 (breaks_v08 args x) (omega arith))
  statement_ascends args (storage_dead x) = ascends_all 0 (if_broken (breaks_v08 args x) 8) (last 0 8 (breaks_v08 args x) (omega arith))
  statement_ascends args (set_discriminant p k) =
      let a = breaks_v06 D locals (p ∷ []) in
      let b = breaks_v24 D locals p in
      let d = breaks_v25 D locals p k in
      ascends_all 0 (if_broken a 6 ++ (if_broken b 24 ++ if_broken d 25)) (front 0 6 a (if_broken b 24 ++ if_broken d 25) (omega arith) (front 6 24 b (if_broken d 25) (omega arith) (last 24 25 d (omega arith))))

  module _ (C : Crate) where
    two : (j k l : ℕ) (a b : Bool) (xs : List ℕ) → j < k → k < l → ascends_from l xs ≡ true → ascends_from j ((if_broken a k ++ if_broken b l) ++ xs) ≡ true
    two j k l true b xs h g e = rw (lt-ltb j k h) (front k l b xs g e)
    two j k l false b xs h g e = front j l b xs (omega arith) e

    owned : (t : Term) → ascends_from 6 (own_broken C D locals t ++ operands_broken D locals (term_operands t)) ≡ true
    owned (term.Switch a arms other) = two 6 17 18 (breaks_v17 D locals a) (breaks_v18 D locals a arms) (operands_broken D locals (a ∷ [])) (omega arith) (omega arith) (later_than 18 20 (operands_broken D locals (a ∷ [])) (omega arith) (moved (a ∷ [])))
    owned (term.Call p who args next) = two 6 15 16 (breaks_v15 C D locals who args) (breaks_v16 C D locals who p) (operands_broken D locals args) (omega arith) (omega arith) (later_than 16 20 (operands_broken D locals args) (omega arith) (moved args))
    owned (term.Assert a expected text args next) = two 6 19 20 (breaks_v19 D locals a) (breaks_v20 D locals args) (operands_broken D locals (a ∷ args)) (omega arith) (omega arith) (moved (a ∷ args))
    owned (term.Drop p next) = front 6 23 (breaks_v23 D locals p) [] (omega arith) refl
    owned (term.Goto next) = refl
    owned term.Return = refl
    owned term.Unreachable = refl

    pub terminator_ascends : (t : Term) → ascends (terminator_broken C D locals t) ≡ true
    unfolding terminator_broken
    terminator_ascends t =
        let a = breaks_v05 t in
        let b = breaks_v06 D locals (term_places t) in
        let own = own_broken C D locals t ++ operands_broken D locals (term_operands t) in
        ascends_all 0 (if_broken a 5 ++ (if_broken b 6 ++ own)) (front 0 5 a (if_broken b 6 ++ own) (omega arith) (front 5 6 b own (omega arith) (owned t)))

-- ---- the first on one line

not_first : (line c d : ℕ) → c < d → comes_first (line, d) (line, c) ≡ false
not_first line c d h =
    let same = not_true (nat_lt line line) (λ e. absurd (omega (arith, ltb-true line line e))) in
    let above = not_true (nat_lt d c) (λ e. absurd (omega (arith, ltb-true d c e))) in
    rw (same, eq-eqb line line refl, above) refl

stays : (a b : ℕ × ℕ) → comes_first b a ≡ false → earlier a (Some b) ≡ a
stays a b h = rw h refl

kept : (line c : ℕ) (xs : List ℕ) → ascends_from c xs ≡ true → first_fault (map (at_line line) (c ∷ xs)) ≡ Some (line, c)
kept line c [] e = refl
kept line c (d ∷ xs) e =
    let later = kept line d xs (and_true-right (nat_lt c d) (ascends_from d xs) e) in
    let above : c < d = ltb-true c d (and_true-left (nat_lt c d) (ascends_from d xs) e) in
    ap (λ (o : Option (ℕ × ℕ)). Some (earlier (line, c) o)) later ∙ ap Some (stays (line, c) (line, d) (not_first line c d above))

pub line_first : (line : ℕ) (codes : List ℕ) → ascends codes ≡ true → on_line line (first_code codes) ≡ first_fault (map (at_line line) codes)
line_first line [] e = refl
line_first line (c ∷ codes) e = sym (kept line c codes e)

-- ---- a walk

pub one_more : (found item : Option (ℕ × ℕ)) (xs ys : List (ℕ × ℕ)) (all : List (ℕ × ℕ)) → first_fault all ≡ either found (first_fault (xs ++ ys)) → item ≡ first_fault xs
    → first_fault all ≡ either (either found item) (first_fault ys)
one_more found item xs ys all h e = h ∙ (ap (either found) (first_fault_append xs ys ∙ ap (λ o. either o (first_fault ys)) (sym e)) ∙ either_assoc found item (first_fault ys))

pub either_none : (o : Option (ℕ × ℕ)) → either o None ≡ o
either_none None = refl
either_none (Some a) = refl

pub no_stmts : (D : List Shape) (args : ℕ) (locals trees : List Tree) (lines : List ℕ) → statements_broken D args locals trees lines [] ≡ []
no_stmts D args locals trees [] = refl
no_stmts D args locals trees (line ∷ lines) = refl

pub no_blocks : (C : Crate) (D : List Shape) (args : ℕ) (locals trees : List Tree) (lines : List BlockLines) → blocks_broken C D args locals trees lines [] ≡ []
no_blocks C D args locals trees [] = refl
no_blocks C D args locals trees (line ∷ lines) = refl

-- nothing is left
pub ended : (all : List (ℕ × ℕ)) (found : Option (ℕ × ℕ)) (xs : List (ℕ × ℕ)) → first_fault all ≡ either found (first_fault xs) → xs ≡ [] → found ≡ first_fault all
ended all found xs h e = sym (h ∙ (ap (λ l. either found (first_fault l)) e ∙ either_none found))
