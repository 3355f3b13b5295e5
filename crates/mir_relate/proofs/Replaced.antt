-- A valid crate with another body at one function: a pass shows its laws, and the crate refines.
use Rattle.std.proofs.Common.{◌≡◌, refl, sym, ap, ap₂, ◌∙◌, subst, ℕ, suc, false, not, ◌&&◌, List, [], ◌∷◌, map, take, set, Some, slice_get}
use Rattle.std.specs.List.{list_any}
use Rattle.mir_syntax.proofs.Lists.{set_there}
use Rattle.mir_syntax.specs.declared.body.Operand.{Operand}
use Rattle.mir_syntax.specs.declared.body.Operand.TheVariants as operand
use Rattle.mir_syntax.specs.declared.body.Term.{Term}
use Rattle.mir_syntax.specs.declared.body.Term.TheVariants.{Goto, Switch, Return, Unreachable, Drop, Call, Assert}
use Rattle.mir_syntax.specs.Crate.{TypedRvalue, «use», binary, overflow, unary, cast, discriminant, tuple, build, TypedStmt, assign, storage_live, storage_dead, set_discriminant, TypedBlock, TypedBody, TypedFunction, Crate}
use Rattle.mir_syntax.specs.Crate as rvalue
use Rattle.mir_syntax.specs.Shapes.{shapes_of}
use Rattle.mir_syntax.specs.Parts.{rvalue_operands, term_operands}
use Rattle.mir_rules.specs.BodyRules.{some_needs_drop, moves_needing_indirectly}
use Rattle.mir_rules.specs.Valid.{Valid, with_body, at_function}
use Rattle.mir_rules.proofs.Lists.{or_false-left, or_false-right}
use Rattle.mir_rules.proofs.Bodies.{Alike, set_alike, shapes_alike}
use Rattle.mir_rules.proofs.Fixed.{apart_in}
use Rattle.mir_rules.proofs.ValidCrates.{stmt_at, term_at}
use Rattle.mir_semantics.specs.Step.{Code, Here, State, body_in, code_of, type_of}
use Rattle.mir_semantics.specs.Entry.{IsEntry}
use Rattle.mir_semantics.specs.Refines.{header, Header, Refines}
use Rattle.mir_renaming.proofs.Typed.{ValidCode}
use Rattle.mir_relate.proofs.Refine.{is_entry}
use Rattle.mir_relate.specs.Pass.{MoveOk, Valids, AllMoves, RvalueMoves, StmtMoves, TermMoves, Laws}
use Rattle.valid_runs.proofs.Blanks.{shapes_tupled}
use Rattle.valid_runs.proofs.Codes.{valid_code, body_there, body_back}
use Rattle.valid_runs.proofs.Starts.{args_plain, start_typed}
use Rattle.valid_runs.proofs.Shown.{Known, start_known}
use Rattle.mir_relate.proofs.Needs.{needs_ok}
use Rattle.mir_relate.proofs.Rules.{deref_indirect, plain, calm_sets, bodies_other, headers_set, calls_all, one_destroyed, all_entry}
use Rattle.mir_relate.specs.Frames.{Change, target, Pass}
use Rattle.mir_relate.proofs.BodyLaw.{law}

module _ (h : Here) where
  move_ok : (o : Operand) → moves_needing_indirectly h.shapes h.locals o ≡ false → MoveOk h o
  unfolding type_of
  move_ok (operand.Copy p) n = tt
  move_ok (operand.Move p) n = λ d t e. sym (ap₂ (λ b o. not b && some_needs_drop h.shapes o) (deref_indirect p.proj d) e) ∙ n
  move_ok (operand.Const c) n = tt

  moves_ok : (os : List Operand) → list_any (moves_needing_indirectly h.shapes h.locals) os ≡ false → AllMoves h os
  moves_ok [] n = tt
  moves_ok (o ∷ os) n = (move_ok o (or_false-left (moves_needing_indirectly h.shapes h.locals o) (list_any (moves_needing_indirectly h.shapes h.locals) os) n), moves_ok os (or_false-right (moves_needing_indirectly h.shapes h.locals o) (list_any (moves_needing_indirectly h.shapes h.locals) os) n))

  rvalue_ok : (r : TypedRvalue) → list_any (moves_needing_indirectly h.shapes h.locals) (rvalue_operands r) ≡ false → RvalueMoves h r
  rvalue_ok («use» o) n = (moves_ok (o ∷ []) n).0
  rvalue_ok (binary op a b) n = (let m = moves_ok (a ∷ b ∷ []) n in (m.0, m.1.0))
  rvalue_ok (overflow op a b) n = (let m = moves_ok (a ∷ b ∷ []) n in (m.0, m.1.0))
  rvalue_ok (unary op a) n = (moves_ok (a ∷ []) n).0
  rvalue_ok (cast a t) n = (moves_ok (a ∷ []) n).0
  rvalue_ok (rvalue.ref p) n = tt
  rvalue_ok (rvalue.ref_mut p) n = tt
  rvalue_ok (discriminant p) n = tt
  rvalue_ok (tuple os) n = moves_ok os n
  rvalue_ok (build d k os) n = moves_ok os n

  term_ok : (t : Term) → list_any (moves_needing_indirectly h.shapes h.locals) (term_operands t) ≡ false → TermMoves h t
  term_ok (Switch o arms u) n = (moves_ok (o ∷ []) n).0
  term_ok (Call p g os u) n = moves_ok os n
  term_ok (Assert o e x os u) n = moves_ok (o ∷ os) n
  term_ok (Goto u) n = tt
  term_ok Return n = tt
  term_ok Unreachable n = tt
  term_ok (Drop p u) n = tt

module _ (C : Crate) (valid : Valid C) (f : ℕ) (g : TypedFunction) (there : slice_get C.functions f ≡ Some g) (b2 : TypedBody) (alike : Alike (with_body g b2) g) (valid_target : Valid (at_function C f g b2)) where
  abbrev pub change : Change
  change = record {
    source = code_of C;
    bodies = map body_in (set C.functions f (with_body g b2));
    f = f;
    body1 = g.body;
    body2 = b2;
    at1 = body_there C.functions f g there;
    at2 = body_there (set C.functions f (with_body g b2)) f (with_body g b2) (set_there C.functions f (with_body g b2) g there);
    others = λ h ne. bodies_other C.functions f h (with_body g b2) ne;
  }

  abbrev crate2 : Crate
  crate2 = at_function C f g b2

  same_code : code_of crate2 ≡ target change
  same_code = ap (λ D. let c : Code = record { shapes = D; outsides = C.outsides; bodies = map body_in (set C.functions f (with_body g b2)) } in c) (shapes_alike C (set C.functions f (with_body g b2)) (set_alike C.functions f g (with_body g b2) there alike))

  stmts_ok : (fr i : ℕ) (b : TypedBody) (j : ℕ) (k : TypedBlock) (n : ℕ) (s : TypedStmt) → slice_get (code_of C).bodies i ≡ Some b → slice_get b.blocks j ≡ Some k → slice_get k.stmts n ≡ Some s → StmtMoves (record { shapes = shapes_of C; locals = b.locals; frame = fr }) s
  unfolding type_of
  stmts_ok fr i b j k n (assign p r) e1 e2 e3 =
      let (h, at, same) = body_back C.functions i b e1 in
      let e2' : slice_get h.body.blocks j ≡ Some k = ap (λ (b : TypedBody). slice_get b.blocks j) same ∙ e2 in
      subst (λ (b : TypedBody). RvalueMoves (record { shapes = shapes_of C; locals = b.locals; frame = fr }) r) same (rvalue_ok (record { shapes = shapes_of C; locals = h.body.locals; frame = fr }) r (stmt_at C valid i j n h k (assign p r) at e2' e3).moves.indirect)
  stmts_ok fr i b j k n (storage_live x) e1 e2 e3 = tt
  stmts_ok fr i b j k n (storage_dead x) e1 e2 e3 = tt
  stmts_ok fr i b j k n (set_discriminant p v) e1 e2 e3 = λ t e. calm_sets C valid i b j k n p v e1 e2 e3 t e

  terms_ok : (fr i : ℕ) (b : TypedBody) (j : ℕ) (k : TypedBlock) → slice_get (code_of C).bodies i ≡ Some b → slice_get b.blocks j ≡ Some k → TermMoves (record { shapes = shapes_of C; locals = b.locals; frame = fr }) k.term
  terms_ok fr i b j k e1 e2 =
      let (h, at, same) = body_back C.functions i b e1 in
      let e2' : slice_get h.body.blocks j ≡ Some k = ap (λ (b : TypedBody). slice_get b.blocks j) same ∙ e2 in
      subst (λ (b : TypedBody). TermMoves (record { shapes = shapes_of C; locals = b.locals; frame = fr }) k.term) same (term_ok (record { shapes = shapes_of C; locals = h.body.locals; frame = fr }) k.term (term_at C valid i j h k at e2').moves.indirect)

  pub valids : Valids change
  valids = record {
    valid1 = valid_code C valid;
    valid2 = subst ValidCode same_code (valid_code crate2 valid_target);
    needs = needs_ok (shapes_of C) (apart_in C valid);
    plain = plain C valid;
    stmts = stmts_ok;
    terms = terms_ok;
    calls = calls_all C valid;
    destroys = one_destroyed C valid;
  }

  -- what is known of the source's runs
  abbrev pub Runs : State → Type 0
  Runs = Known (code_of C) (apart_in C valid) (valid_code C valid)

  same_headers : map header crate2.functions ≡ map header C.functions
  same_headers = headers_set C.functions f g (with_body g b2) there same_header
    where
      same_header : header (with_body g b2) ≡ header g
      same_header =
          let types : take (suc b2.args) b2.locals ≡ take (suc g.body.args) g.body.locals = ap (λ n. take (suc n) b2.locals) alike.args ∙ alike.start in
          ap₂ (λ n ts. let h : Header = record { path = g.path; inlining = g.inlining; is_drop = g.is_drop; args = n; types = ts } in h) alike.args types

  -- a pass that shows its laws
  pub replaced : (P : Pass) → Laws change P valids Runs → Refines crate2 C
  unfolding valids
  replaced P laws =
      let v1 = valid_code C valid in
      let apart = apart_in C valid in
      law change P valids Runs laws crate2 C refl same_code refl refl same_headers (λ e k. args_plain (code_of C) e k) (λ e k. all_entry C valid e k)
      (λ e k answers. start_known (code_of C) apart v1 e k answers (start_typed (code_of C) v1 (shapes_tupled C) e k answers))
      (λ e k answers. start_typed (code_of C) v1 (shapes_tupled C) e k answers)
      (λ e k answers. start_typed (target change) valids.valid2 (shapes_tupled C) e (subst (λ K. IsEntry K e) same_code (is_entry crate2 C refl same_headers e k)) answers)
