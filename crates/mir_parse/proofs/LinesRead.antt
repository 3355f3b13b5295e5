-- Parsing statements and terminators is the grammar's rule, both ways.
use Rattle.std.proofs.Common.{◌≡◌, ℕ, List, [], ◌∷◌, Ok, refl, sym, ap, ap₂, subst, ◌∙◌}
use Rattle.mir_text.specs.declared.symbol.Symbol.{Symbol}
use Rattle.mir_text.specs.declared.symbol.Symbol.TheVariants as s
use Rattle.mir_text.specs.Grammar.{Items as ItemsRule, items_put, AllItems}
use Rattle.mir_text.specs.GrammarTypes.{PathRule, name, name_in, path_put}
use Rattle.mir_text.specs.GrammarPlaces.{PlaceRule, local, deref, field, variant_field, place_put, OperandRule, copy, move, bare, const, operand_put}
use Rattle.mir_text.specs.GrammarStatements.{BuildRule, plain, tupled, labelled, RvalueRule, «use», cast, binary, overflow, unary, reference, discriminant, nothing, tuple_of, build, parts_put, cast_put, rvalue_put, StmtRule, assign, nop, live, dead, set}
use Rattle.mir_text.specs.GrammarTerms.{UnwindRule, goes_put, goto, returns, never, switch, call, drop, assert}
use Rattle.mir_text.specs.Nesting.{PlaceGood, OperandGood, PartsGood, RvalueGood}
use Rattle.mir_tree.specs.declared.ty.PathText.{PathText}
use Rattle.mir_tree.specs.declared.operand.PlaceText.{PlaceText}
use Rattle.mir_tree.specs.declared.rvalue.RvalueText.TheVariants as r
use Rattle.mir_tree.specs.declared.body.StmtText.{StmtText}
use Rattle.mir_tree.specs.declared.body.StmtText.TheVariants as st
use Rattle.mir_tree.specs.declared.body.TermText.{TermText}
use Rattle.mir_tree.specs.declared.body.TermText.TheVariants as m
use Rattle.mir_tree.specs.Types.{path_text}
use Rattle.mir_tree.specs.Bodies.{stmt_rule}
use Rattle.mir_parse.specs.declared.line.LineText.{LineText}
use Rattle.mir_parse.specs.declared.line.LineText.TheVariants as l
use Rattle.mir_parse.specs.LineRules.{LineRule, stmt, term, line_put, line_rule, LineGood}
use Rattle.mir_parse.specs.Promises.{Semicolon}
use Rattle.mir_parse.specs.Parser.{and_then}
use Rattle.mir_parse.specs.Signs.{close, open_paren, equals, local as local_at}
use Rattle.mir_parse.specs.Rvalues.{place_single, parts, rvalue}
use Rattle.mir_parse.specs.Lines.{after_args, built, build_or_call, assigned, assignment, local_single, set_end, term_or_assignment, line}
use Rattle.mir_parse.proofs.PathsRead.{IsPath, path-complete, path-sound}
use Rattle.mir_parse.proofs.PlacesRead.{place_text, place-back, place-complete, place-sound}
use Rattle.mir_parse.proofs.OperandsRead.{operand_text, operands-complete}
use Rattle.mir_parse.proofs.RvaluesRead.{build_text, rvalue_text, rvalue-back, parts-complete, parts_no_colons, rvalue-complete, rvalue-sound, parts-sound, place_single-sound}
use Rattle.mir_parse.proofs.TermsRead.{unwind_text, term_text, term-back, return_target-complete, return_target-sound, goto-complete, switch-complete, drop-complete, assert-complete, goto-sound, switch-sound, drop-sound, assert-sound, IsTerm}
use Rattle.mir_parse.proofs.Laws.{in_steps, id_steps, ok_same, IsRead, items_text, close-sound, open_paren-sound, equals-sound, local-sound, small_number-complete, small_number-sound}

-- ---- the trees

abbrev pub stmt_text : StmtRule → StmtText
stmt_text (assign q x) = st.Assign (place_text q) (rvalue_text x)
stmt_text nop = st.Nop
stmt_text (live n) = st.StorageLive n
stmt_text (dead n) = st.StorageDead n
stmt_text (set q k) = st.SetDiscriminant (place_text q) k

abbrev pub line_text : LineRule → LineText
line_text (stmt x) = l.Stmt (stmt_text x)
line_text (term x) = l.Term (term_text x)

pub stmt-back : (x : StmtRule) → stmt_rule (stmt_text x) ≡ x
stmt-back (assign q x) = ap₂ assign (place-back q) (rvalue-back x)
stmt-back nop = refl
stmt-back (live n) = refl
stmt-back (dead n) = refl
stmt-back (set q k) = ap (λ y. set y k) (place-back q)

pub line-back : (x : LineRule) → line_rule (line_text x) ≡ x
line-back (stmt x) = ap stmt (stmt-back x)
line-back (term x) = ap term (term-back x)

-- ---- what the grammar puts is read

built-complete : (q : PlaceText) (x : PathText) (b : BuildRule) (rest : List Symbol) → built q x (build_text b) (s.Semicolon ∷ rest) ≡ Ok (l.Stmt (st.Assign q (r.Build x (build_text b))), s.Semicolon ∷ rest)
unfolding built after_args
built-complete q x plain rest = refl
built-complete q x (tupled xs) rest = refl
built-complete q x (labelled xs) rest = refl

assigned-path : (q : PlaceText) (x : PathRule) (rest : List Symbol) → assigned q (path_put x rest) ≡ and_then (build_or_call q (path_put x rest)) (λ y ts. Ok (y, ts))
unfolding assigned
assigned-path q (name n) rest = refl
assigned-path q (name_in n x) rest = refl

assigned-operand : (q : PlaceText) (x : OperandRule) (rest : List Symbol) → assigned q (operand_put x rest) ≡ and_then (rvalue (operand_put x rest)) (λ v ts. Ok (l.Stmt (st.Assign q v), ts))
unfolding assigned
assigned-operand q (copy y) rest = refl
assigned-operand q (move y) rest = refl
assigned-operand q (const y) rest = refl
assigned-operand q (bare (local n)) rest = refl
assigned-operand q (bare (deref y)) rest = refl
assigned-operand q (bare (field y n t)) rest = refl
assigned-operand q (bare (variant_field y name_no n t)) rest = refl

assigned-complete : (q : PlaceText) (x : RvalueRule) (rest : List Symbol) → RvalueGood x → assigned q (rvalue_put x (s.Semicolon ∷ rest)) ≡ Ok (l.Stmt (st.Assign q (rvalue_text x)), s.Semicolon ∷ rest)
unfolding assigned build_or_call
assigned-complete q («use» x) rest g = rw (assigned-operand q x (s.Semicolon ∷ rest), rvalue-complete («use» x) rest g) refl
assigned-complete q (cast x t) rest g = rw (assigned-operand q x (cast_put t (s.Semicolon ∷ rest)), rvalue-complete (cast x t) rest g) refl
assigned-complete q (binary op x y) rest g = rw (rvalue-complete (binary op x y) rest g) refl
assigned-complete q (overflow op x y) rest g = rw (rvalue-complete (overflow op x y) rest g) refl
assigned-complete q (unary op x) rest g = rw (rvalue-complete (unary op x) rest g) refl
assigned-complete q (reference m y) rest g = rw (rvalue-complete (reference m y) rest g) refl
assigned-complete q (discriminant y) rest g = rw (rvalue-complete (discriminant y) rest g) refl
assigned-complete q nothing rest g = rw (rvalue-complete nothing rest g) refl
assigned-complete q (tuple_of x xs) rest g = rw (rvalue-complete (tuple_of x xs) rest g) refl
assigned-complete q (build x b) rest g =
    rw (
      assigned-path q x (parts_put b (s.Semicolon ∷ rest)),
      path-complete x (parts_put b (s.Semicolon ∷ rest)) (parts_no_colons b rest),
      parts-complete b rest g,
      built-complete q (path_text x) b rest,
    ) refl

assigned-call : (q : PlaceText) (x : PathRule) (xs : ItemsRule OperandRule) (b : ℕ) (w : UnwindRule) (rest : List Symbol) → AllItems OperandGood xs
    → assigned q (path_put x (s.Open ∷ items_put operand_put s.Close xs (goes_put s.Return b w rest))) ≡ Ok (l.Term (m.Call q (path_text x) (items_text operand_text xs) b (unwind_text w)), rest)
unfolding build_or_call parts built after_args
assigned-call q x xs b w rest g =
    rw (
      assigned-path q x (s.Open ∷ items_put operand_put s.Close xs (goes_put s.Return b w rest)),
      path-complete x (s.Open ∷ items_put operand_put s.Close xs (goes_put s.Return b w rest)) refl,
      operands-complete xs (goes_put s.Return b w rest) g,
      return_target-complete b w rest,
    ) refl

line-place : (q : PlaceRule) (rest : List Symbol) → line (place_put q rest) ≡ assignment (place_put q rest)
unfolding line term_or_assignment
line-place (local n) rest = id_steps _ ∙ id_steps _
line-place (deref q) rest = id_steps _ ∙ id_steps _
line-place (field q n t) rest = id_steps _ ∙ id_steps _
line-place (variant_field q name_no n t) rest = id_steps _ ∙ id_steps _

pub line-complete : (x : LineRule) (rest : List Symbol) → LineGood x → line (line_put x (s.Semicolon ∷ rest)) ≡ Ok (line_text x, s.Semicolon ∷ rest)
unfolding line term_or_assignment assignment local_single set_end place_single open_paren close equals local_at
line-complete (stmt nop) rest g = refl
line-complete (stmt (live n)) rest g = refl
line-complete (stmt (dead n)) rest g = refl
line-complete (stmt (set q k)) rest g = rw (place-complete q 65 (s.Close ∷ s.Equals ∷ s.Number k ∷ s.Semicolon ∷ rest) g.0.0 g.0.1, small_number-complete k (s.Semicolon ∷ rest) g.1) refl
line-complete (stmt (assign q x)) rest g =
    line-place q (s.Equals ∷ rvalue_put x (s.Semicolon ∷ rest))
    ∙ rw (place-complete q 65 (s.Equals ∷ rvalue_put x (s.Semicolon ∷ rest)) g.0.0 g.0.1, assigned-complete (place_text q) x rest g.1) refl
line-complete (term (goto b)) rest g = rw (goto-complete b (s.Semicolon ∷ rest)) refl
line-complete (term returns) rest g = refl
line-complete (term never) rest g = refl
line-complete (term (switch x arms b)) rest g = rw (switch-complete x arms b (s.Semicolon ∷ rest) g) refl
line-complete (term (drop q b w)) rest g = rw (drop-complete q b w (s.Semicolon ∷ rest) g) refl
line-complete (term (assert expected x message xs b w)) rest g = rw (assert-complete expected x message xs b w (s.Semicolon ∷ rest) g.0 g.1) refl
line-complete (term (call q x xs b w)) rest g =
    let after = path_put x (s.Open ∷ items_put operand_put s.Close xs (goes_put s.Return b w (s.Semicolon ∷ rest))) in
    line-place q (s.Equals ∷ after) ∙ rw (place-complete q 65 (s.Equals ∷ after) g.0.0 g.0.1, assigned-call (place_text q) x xs b w (s.Semicolon ∷ rest) g.1) refl

pub line-ends : (x : LineRule) (rest : List Symbol) → LineGood x → Semicolon rest → line (line_put x rest) ≡ Ok (line_text x, rest)
line-ends x [] g follows = absurd cc
line-ends x (s.Semicolon ∷ rest) g follows = line-complete x rest g
line-ends x (t ∷ rest) g follows = absurd cc

-- ---- what is read is what the grammar puts

abbrev pub IsLine : List Symbol → LineText → List Symbol → Type 0
IsLine = IsRead line_put line_text LineGood

abbrev IsPlace : List Symbol → PlaceText → List Symbol → Type 0
IsPlace = IsRead place_put place_text (PlaceGood 65)

a_term : (ts : List Symbol) (x : TermText) (rest : List Symbol) → IsTerm ts x rest → IsLine ts (l.Term x) rest
a_term ts x rest inner = record { rule = term inner.rule; reads = ap l.Term inner.reads; yields = inner.yields; good = inner.good }

-- a place, `=`, and a build
a_build : (ts past ts2 past2 rest : List Symbol) (q : PlaceText) (x : PathText) (b : BuildRule) → IsPlace ts q past → past ≡ s.Equals ∷ ts2 → IsPath ts2 x past2 → past2 ≡ parts_put b rest → PartsGood b
    → IsLine ts (l.Stmt (st.Assign q (r.Build x (build_text b)))) rest
a_build ts past ts2 past2 rest q x b place is_equals path_is yields good =
    record {
      rule = stmt (assign place.rule (build path_is.rule b));
      reads = ap₂ (λ y z. l.Stmt (st.Assign y (r.Build z (build_text b)))) place.reads path_is.reads;
      yields = place.yields ∙ ap (place_put place.rule) (is_equals ∙ ap (λ k. s.Equals ∷ k) (path_is.yields ∙ ap (path_put path_is.rule) yields));
      good = (place.good, good);
    }

a_call : (ts past ts2 past2 past3 rest : List Symbol) (q : PlaceText) (x : PathText) (xs : ItemsRule OperandRule) (b : ℕ) (w : UnwindRule) → IsPlace ts q past → past ≡ s.Equals ∷ ts2 → IsPath ts2 x past2
    → past2 ≡ s.Open ∷ items_put operand_put s.Close xs past3 → past3 ≡ goes_put s.Return b w rest → AllItems OperandGood xs → IsLine ts (l.Term (m.Call q x (items_text operand_text xs) b (unwind_text w))) rest
a_call ts past ts2 past2 past3 rest q x xs b w place is_equals path_is yields target good =
    record {
      rule = term (call place.rule path_is.rule xs b w);
      reads = ap₂ (λ y z. l.Term (m.Call y z (items_text operand_text xs) b (unwind_text w))) place.reads path_is.reads;
      yields = place.yields ∙ ap (place_put place.rule) (is_equals ∙ ap (λ k. s.Equals ∷ k) (path_is.yields ∙ ap (path_put path_is.rule) (yields ∙ ap (λ k. s.Open ∷ items_put operand_put s.Close xs k) target)));
      good = (place.good, good);
    }

after_args-sound : (ts past ts2 past2 : List Symbol) (q : PlaceText) (x : PathText) (xs : ItemsRule OperandRule) → IsPlace ts q past → past ≡ s.Equals ∷ ts2 → IsPath ts2 x past2
    → (past3 : List Symbol) (y : LineText) (rest : List Symbol) → past2 ≡ s.Open ∷ items_put operand_put s.Close xs past3 → AllItems OperandGood xs → after_args q x (items_text operand_text xs) past3 ≡ Ok (y, rest) → IsLine ts y rest
unfolding after_args
after_args-sound ts past ts2 past2 q x xs place is_equals path_is [] y rest yields good h =
    let P : LineText × List Symbol → Type 0 = λ z. IsLine ts z.0 z.1 in
    subst P (ok_same _ _ h) (a_build ts past ts2 past2 [] q x (tupled xs) place is_equals path_is yields good)
after_args-sound ts past ts2 past2 q x xs place is_equals path_is (s.Arrow ∷ past3) y rest yields good h =
    let P : LineText × List Symbol → Type 0 = λ z. IsLine ts z.0 z.1 in
    in_steps _ _ (y, rest) h (λ g past4 found same_h.
    return_target-sound (s.Arrow ∷ past3) g past4 found (λ w w_is target.
    let call_to : ℕ × _ → LineText = λ z. l.Term (m.Call q x (items_text operand_text xs) z.0 z.1) in
    let made = a_call ts past ts2 past2 (s.Arrow ∷ past3) past4 q x xs g.0 w place is_equals path_is yields target good in
    subst P (ok_same _ _ same_h) (subst (λ z. IsLine ts (call_to z) past4) w_is made)))
after_args-sound ts past ts2 past2 q x xs place is_equals path_is (t ∷ past3) y rest yields good h =
    let P : LineText × List Symbol → Type 0 = λ z. IsLine ts z.0 z.1 in
    subst P (ok_same _ _ h) (a_build ts past ts2 past2 (t ∷ past3) q x (tupled xs) place is_equals path_is yields good)

built-sound : (ts past ts2 past2 past3 : List Symbol) (q : PlaceText) (x : PathText) (b : BuildRule) → IsPlace ts q past → past ≡ s.Equals ∷ ts2 → IsPath ts2 x past2 → past2 ≡ parts_put b past3 → PartsGood b
    → (y : LineText) (rest : List Symbol) → built q x (build_text b) past3 ≡ Ok (y, rest) → IsLine ts y rest
unfolding built
built-sound ts past ts2 past2 past3 q x plain place is_equals path_is yields good y rest h =
    let P : LineText × List Symbol → Type 0 = λ z. IsLine ts z.0 z.1 in
    subst P (ok_same _ _ h) (a_build ts past ts2 past2 past3 q x plain place is_equals path_is yields good)
built-sound ts past ts2 past2 past3 q x (tupled xs) place is_equals path_is yields good y rest h =
    after_args-sound ts past ts2 past2 q x xs place is_equals path_is past3 y rest yields good (sym (id_steps (after_args q x (items_text operand_text xs) past3)) ∙ h)
built-sound ts past ts2 past2 past3 q x (labelled xs) place is_equals path_is yields good y rest h =
    let P : LineText × List Symbol → Type 0 = λ z. IsLine ts z.0 z.1 in
    subst P (ok_same _ _ h) (a_build ts past ts2 past2 past3 q x (labelled xs) place is_equals path_is yields good)

build_or_call-sound : (ts past ts2 : List Symbol) (q : PlaceText) → IsPlace ts q past → past ≡ s.Equals ∷ ts2 → (y : LineText) (rest : List Symbol) → build_or_call q ts2 ≡ Ok (y, rest) → IsLine ts y rest
unfolding build_or_call
build_or_call-sound ts past ts2 q place is_equals y rest h =
    in_steps _ _ (y, rest) h (λ x past2 found h1.
    in_steps _ _ (y, rest) h1 (λ b past3 found2 h2.
    let h3 = sym (id_steps (built q x b past3)) ∙ h2 in
    parts-sound past2 b past3 found2 (λ a is yields good.
    built-sound ts past ts2 past2 past3 q x a place is_equals (path-sound ts2 x past2 found) yields good y rest (ap (λ z. built q x z past3) is ∙ h3))))

assigned-rvalue : (ts past ts2 : List Symbol) (q : PlaceText) → IsPlace ts q past → past ≡ s.Equals ∷ ts2 → (y : LineText) (rest : List Symbol) → and_then (rvalue ts2) (λ v ts. Ok (l.Stmt (st.Assign q v), ts)) ≡ Ok (y, rest) → IsLine ts y rest
assigned-rvalue ts past ts2 q place is_equals y rest h =
    in_steps _ _ (y, rest) h (λ v past2 found same_h.
    let same = ok_same _ _ same_h in
    let value = rvalue-sound ts2 v past2 found in
    record {
      rule = stmt (assign place.rule value.rule);
      reads = ap₂ (λ a b. l.Stmt (st.Assign a b)) place.reads value.reads ∙ ap (λ z. z.0) same;
      yields = place.yields ∙ ap (place_put place.rule) (is_equals ∙ ap (λ k. s.Equals ∷ k) (value.yields ∙ ap (λ z. rvalue_put value.rule z.1) same));
      good = (place.good, value.good);
    })

assigned-sound : (ts past : List Symbol) (q : PlaceText) → IsPlace ts q past → (ts2 : List Symbol) → past ≡ s.Equals ∷ ts2 → (y : LineText) (rest : List Symbol) → assigned q ts2 ≡ Ok (y, rest) → IsLine ts y rest
unfolding assigned
assigned-sound ts past q place [] is_equals y rest h = assigned-rvalue ts past [] q place is_equals y rest h
assigned-sound ts past q place (s.Name n ∷ ts2) is_equals y rest h = build_or_call-sound ts past (s.Name n ∷ ts2) q place is_equals y rest (sym (id_steps (build_or_call q (s.Name n ∷ ts2))) ∙ h)
assigned-sound ts past q place (t ∷ ts2) is_equals y rest h = assigned-rvalue ts past (t ∷ ts2) q place is_equals y rest h

assignment-sound : (ts : List Symbol) (y : LineText) (rest : List Symbol) → and_then (assignment ts) (λ y ts. Ok (y, ts)) ≡ Ok (y, rest) → IsLine ts y rest
unfolding assignment
assignment-sound ts y rest h =
    in_steps _ _ (y, rest) (sym (id_steps (assignment ts)) ∙ h) (λ q past found h1.
    in_steps _ _ (y, rest) h1 (λ a past1 is_equals h2.
    assigned-sound ts past q (place-sound 65 ts q past found) past1 (equals-sound past (a, past1) is_equals) y rest (sym (id_steps (assigned q past1)) ∙ h2)))

local_single-sound : (ts : List Symbol) (n : ℕ) (rest : List Symbol) → local_single ts ≡ Ok (n, rest) → ts ≡ s.Open ∷ s.Local n ∷ s.Close ∷ rest
unfolding local_single
local_single-sound ts n rest h =
    in_steps _ _ (n, rest) h (λ a past opens h1.
    in_steps _ _ (n, rest) h1 (λ x past1 is_local h2.
    in_steps _ _ (n, rest) h2 (λ d past2 closes same_h.
    let same = ok_same _ _ same_h in
    open_paren-sound ts (a, past) opens ∙ ap (λ k. s.Open ∷ k) (local-sound past (x, past1) is_local ∙ ap (λ k. s.Local x ∷ k) (close-sound past1 (d, past2) closes)) ∙ ap (λ y. s.Open ∷ s.Local y.0 ∷ s.Close ∷ y.1) same)))

set-sound : (ts : List Symbol) (x : StmtText) (rest : List Symbol) → set_end ts ≡ Ok (x, rest) → IsLine (s.Discriminant ∷ ts) (l.Stmt x) rest
unfolding set_end
set-sound ts x rest h =
    in_steps _ _ (x, rest) h (λ q past found h1.
    in_steps _ _ (x, rest) h1 (λ a past1 is_equals h2.
    in_steps _ _ (x, rest) h2 (λ k past2 numbered same_h.
    let same = ok_same _ _ same_h in
    place_single-sound ts q past found (λ p is yields good.
    small_number-sound past1 (k, past2) numbered (λ number_is small.
    record {
      rule = stmt (set p k);
      reads = ap (λ z. l.Stmt (st.SetDiscriminant z k)) is ∙ ap (λ z. l.Stmt z.0) same;
      yields = ap (λ t. s.Discriminant ∷ t) (yields ∙ ap (λ t. s.Open ∷ place_put p (s.Close ∷ t)) (equals-sound past (a, past1) is_equals ∙ ap (λ t. s.Equals ∷ t) (number_is ∙ ap (λ z. s.Number k ∷ z.1) same)));
      good = (good, small);
    })))))

term_or_assignment-sound : (ts : List Symbol) (y : LineText) (rest : List Symbol) → term_or_assignment ts ≡ Ok (y, rest) → IsLine ts y rest
unfolding term_or_assignment
term_or_assignment-sound [] y rest h = assignment-sound [] y rest h
term_or_assignment-sound (s.Goto ∷ ts) y rest h =
    in_steps _ _ (y, rest) h (λ x past found same_h.
    let P : LineText × List Symbol → Type 0 = λ z. IsLine (s.Goto ∷ ts) z.0 z.1 in
    subst P (ok_same _ _ same_h) (a_term (s.Goto ∷ ts) x past (goto-sound ts x past found)))
term_or_assignment-sound (s.Return ∷ ts) y rest h = let same = ok_same _ _ h in record { rule = term returns; reads = ap (λ z. z.0) same; yields = ap (λ z. s.Return ∷ z.1) same; good = tt }
term_or_assignment-sound (s.Unreachable ∷ ts) y rest h = let same = ok_same _ _ h in record { rule = term never; reads = ap (λ z. z.0) same; yields = ap (λ z. s.Unreachable ∷ z.1) same; good = tt }
term_or_assignment-sound (s.SwitchInt ∷ ts) y rest h =
    in_steps _ _ (y, rest) h (λ x past found same_h.
    let P : LineText × List Symbol → Type 0 = λ z. IsLine (s.SwitchInt ∷ ts) z.0 z.1 in
    subst P (ok_same _ _ same_h) (a_term (s.SwitchInt ∷ ts) x past (switch-sound ts x past found)))
term_or_assignment-sound (s.Drop ∷ ts) y rest h =
    in_steps _ _ (y, rest) h (λ x past found same_h.
    let P : LineText × List Symbol → Type 0 = λ z. IsLine (s.Drop ∷ ts) z.0 z.1 in
    subst P (ok_same _ _ same_h) (a_term (s.Drop ∷ ts) x past (drop-sound ts x past found)))
term_or_assignment-sound (s.Assert ∷ ts) y rest h =
    in_steps _ _ (y, rest) h (λ x past found same_h.
    let P : LineText × List Symbol → Type 0 = λ z. IsLine (s.Assert ∷ ts) z.0 z.1 in
    subst P (ok_same _ _ same_h) (a_term (s.Assert ∷ ts) x past (assert-sound ts x past found)))
term_or_assignment-sound (t ∷ ts) y rest h = assignment-sound (t ∷ ts) y rest h

term_or-sound : (ts : List Symbol) (y : LineText) (rest : List Symbol) → and_then (term_or_assignment ts) (λ y ts. Ok (y, ts)) ≡ Ok (y, rest) → IsLine ts y rest
term_or-sound ts y rest h = term_or_assignment-sound ts y rest (sym (id_steps (term_or_assignment ts)) ∙ h)

pub line-sound : (ts : List Symbol) (y : LineText) (rest : List Symbol) → line ts ≡ Ok (y, rest) → IsLine ts y rest
unfolding line
line-sound [] y rest h = term_or-sound [] y rest h
line-sound (s.Nop ∷ ts) y rest h = let same = ok_same _ _ h in record { rule = stmt nop; reads = ap (λ z. z.0) same; yields = ap (λ z. s.Nop ∷ z.1) same; good = tt }
line-sound (s.StorageLive ∷ ts) y rest h =
    in_steps _ _ (y, rest) h (λ n past found same_h.
    let same = ok_same _ _ same_h in
    record { rule = stmt (live n); reads = ap (λ z. z.0) same; yields = ap (λ k. s.StorageLive ∷ k) (local_single-sound ts n past found ∙ ap (λ z. s.Open ∷ s.Local n ∷ s.Close ∷ z.1) same); good = tt })
line-sound (s.StorageDead ∷ ts) y rest h =
    in_steps _ _ (y, rest) h (λ n past found same_h.
    let same = ok_same _ _ same_h in
    record { rule = stmt (dead n); reads = ap (λ z. z.0) same; yields = ap (λ k. s.StorageDead ∷ k) (local_single-sound ts n past found ∙ ap (λ z. s.Open ∷ s.Local n ∷ s.Close ∷ z.1) same); good = tt })
line-sound (s.Discriminant ∷ ts) y rest h =
    in_steps _ _ (y, rest) h (λ x past found same_h.
    let P : LineText × List Symbol → Type 0 = λ z. IsLine (s.Discriminant ∷ ts) z.0 z.1 in
    subst P (ok_same _ _ same_h) (set-sound ts x past found))
line-sound (t ∷ ts) y rest h = term_or-sound (t ∷ ts) y rest h
