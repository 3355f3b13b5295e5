-- A crate breaks no rule exactly where each definition, outside function, header, statement and terminator breaks none.
use Rattle.std.proofs.Common.{◌≡◌, ℕ, ◌+◌, false, List, [], ◌++◌, map, Some, slice_get, arith}
use Rattle.mir_syntax.specs.Crate.{TypedStmt, TypedBlock, TypedBody, TypedDef, TypedOutside, TypedFunction, Crate}
use Rattle.mir_syntax.specs.Shapes.{Shape, shapes_of}
use Rattle.mir_rules.specs.DefinitionRules.{breaks_v01, breaks_v02, breaks_v03, breaks_v04}
use Rattle.mir_rules.specs.Broken.{Spot, definition, outside, header, statement, terminator, gather, if_broken, at_spot, statement_broken, terminator_broken, statement_found, block_found, body_found, header_broken, function_found, definition_found, outside_found, broken}
use Rattle.mir_rules.proofs.Lists.{append_empty, append_empty-left, append_empty-right, map_empty, map_empty-source, gather_empty, gather_empty-at, if_broken_empty, if_broken_none}

-- the items being counted from 0
module _ {A B : Type 0} (find : ℕ → A → List B) (xs : List A) where
  gathered_at : (i : ℕ) (x : A) → gather find 0 xs ≡ [] → slice_get xs i ≡ Some x → find i x ≡ []
  gathered_at i x h e = rw (let k : i + 0 ≡ i = omega arith in k) at (gather_empty-at find 0 xs i x h e)

  gathered : ((i : ℕ) (x : A) → slice_get xs i ≡ Some x → find i x ≡ []) → gather find 0 xs ≡ []
  gathered h = gather_empty find 0 xs (λ i x e. rw (let k : i + 0 ≡ i = omega arith in k) (h i x e))

module _ (C : Crate) where
  abbrev D : List Shape
  D = shapes_of C

  -- ---- a body

  abbrev StmtKeeps : TypedBody → TypedStmt → Type 0
  StmtKeeps b s = statement_broken D b.args b.locals s ≡ []

  abbrev TermKeeps : TypedBody → TypedBlock → Type 0
  TermKeeps b k = terminator_broken C D b.locals k.term ≡ []

  pub record BodyKeeps (b : TypedBody) : Type 0 where
    pub stmts : (j i : ℕ) (k : TypedBlock) (s : TypedStmt) → slice_get b.blocks j ≡ Some k → slice_get k.stmts i ≡ Some s → statement_broken D b.args b.locals s ≡ []
    pub terms : (j : ℕ) (k : TypedBlock) → slice_get b.blocks j ≡ Some k → terminator_broken C D b.locals k.term ≡ []

  pub body_keeps : (f : ℕ) (b : TypedBody) → body_found C D f b ≡ [] → BodyKeeps b
  unfolding body_found
  body_keeps f b h = record {
    stmts = λ j i k s e e2.
        let block = gathered_at (block_found C D b f) b.blocks j k h e in
        let stmts = append_empty-left (gather (statement_found D b f j) 0 k.stmts) (map (at_spot (terminator f j)) (terminator_broken C D b.locals k.term)) block in
        map_empty-source (at_spot (statement f j i)) (statement_broken D b.args b.locals s) (gathered_at (statement_found D b f j) k.stmts i s stmts e2);
    terms = λ j k e.
        let block = gathered_at (block_found C D b f) b.blocks j k h e in
        map_empty-source (at_spot (terminator f j)) (terminator_broken C D b.locals k.term) (append_empty-right (gather (statement_found D b f j) 0 k.stmts) (map (at_spot (terminator f j)) (terminator_broken C D b.locals k.term)) block);
  }

  pub body_found_none : (f : ℕ) (b : TypedBody) → BodyKeeps b → body_found C D f b ≡ []
  unfolding body_found
  body_found_none f b h =
      gathered (block_found C D b f) b.blocks
      (λ j k e. append_empty (gather (statement_found D b f j) 0 k.stmts) (map (at_spot (terminator f j)) (terminator_broken C D b.locals k.term))
      (gathered (statement_found D b f j) k.stmts (λ i s e2. map_empty (at_spot (statement f j i)) (statement_broken D b.args b.locals s) (h.stmts j i k s e e2)))
      (map_empty (at_spot (terminator f j)) (terminator_broken C D b.locals k.term) (h.terms j k e)))

  -- ---- a crate

  pub record CrateKeeps : Type 0 where
    pub defs : (d : ℕ) (def : TypedDef) → slice_get C.defs d ≡ Some def → breaks_v01 D d ≡ false
    pub outsides : (o : ℕ) (out : TypedOutside) → slice_get C.outsides o ≡ Some out → breaks_v02 out ≡ false
    pub destructors : (f : ℕ) (g : TypedFunction) → slice_get C.functions f ≡ Some g → breaks_v03 g ≡ false
    pub one_destructor : (f : ℕ) (g : TypedFunction) → slice_get C.functions f ≡ Some g → breaks_v04 D f g ≡ false
    pub bodies : (f : ℕ) (g : TypedFunction) → slice_get C.functions f ≡ Some g → BodyKeeps g.body

  abbrev of_defs : List (Spot × ℕ)
  of_defs = gather (definition_found D) 0 C.defs

  abbrev of_outsides : List (Spot × ℕ)
  of_outsides = gather outside_found 0 C.outsides

  abbrev of_functions : List (Spot × ℕ)
  of_functions = gather (function_found C D) 0 C.functions

  function_keeps : (f : ℕ) (g : TypedFunction) → function_found C D f g ≡ [] → (breaks_v03 g ≡ false) × (breaks_v04 D f g ≡ false) × BodyKeeps g.body
  function_keeps f g h =
      let head = map_empty-source (at_spot (header f)) (header_broken D f g) (append_empty-left (map (at_spot (header f)) (header_broken D f g)) (body_found C D f g.body) h) in (
        if_broken_empty (breaks_v03 g) 3 (append_empty-left (if_broken (breaks_v03 g) 3) (if_broken (breaks_v04 D f g) 4) head),
        if_broken_empty (breaks_v04 D f g) 4 (append_empty-right (if_broken (breaks_v03 g) 3) (if_broken (breaks_v04 D f g) 4) head),
        body_keeps f g.body (append_empty-right (map (at_spot (header f)) (header_broken D f g)) (body_found C D f g.body) h),
      )

  function_found_none : (f : ℕ) (g : TypedFunction) → breaks_v03 g ≡ false → breaks_v04 D f g ≡ false → BodyKeeps g.body → function_found C D f g ≡ []
  function_found_none f g third fourth body =
      append_empty (map (at_spot (header f)) (header_broken D f g)) (body_found C D f g.body)
      (map_empty (at_spot (header f)) (header_broken D f g) (append_empty (if_broken (breaks_v03 g) 3) (if_broken (breaks_v04 D f g) 4) (if_broken_none (breaks_v03 g) 3 third) (if_broken_none (breaks_v04 D f g) 4 fourth)))
      (body_found_none f g.body body)

  pub crate_keeps : broken C ≡ [] → CrateKeeps
  unfolding broken
  crate_keeps h =
      let rest = append_empty-right of_defs (of_outsides ++ of_functions) h in
      let functions = append_empty-right of_outsides of_functions rest in
      let each = λ (f : ℕ) (g : TypedFunction) (e : slice_get C.functions f ≡ Some g). function_keeps f g (gathered_at (function_found C D) C.functions f g functions e) in
      record {
        defs = λ d def e. if_broken_empty (breaks_v01 D d) 1 (map_empty-source (at_spot (definition d)) (if_broken (breaks_v01 D d) 1) (gathered_at (definition_found D) C.defs d def (append_empty-left of_defs (of_outsides ++ of_functions) h) e));
        outsides = λ o out e. if_broken_empty (breaks_v02 out) 2 (map_empty-source (at_spot (outside o)) (if_broken (breaks_v02 out) 2) (gathered_at outside_found C.outsides o out (append_empty-left of_outsides of_functions rest) e));
        destructors = λ f g e. (each f g e).0;
        one_destructor = λ f g e. (each f g e).1;
        bodies = λ f g e. (each f g e).2;
      }

  pub broken_none : CrateKeeps → broken C ≡ []
  unfolding broken
  broken_none h =
      append_empty of_defs (of_outsides ++ of_functions)
      (gathered (definition_found D) C.defs (λ d def e. map_empty (at_spot (definition d)) (if_broken (breaks_v01 D d) 1) (if_broken_none (breaks_v01 D d) 1 (h.defs d def e))))
      (append_empty of_outsides of_functions
      (gathered outside_found C.outsides (λ o out e. map_empty (at_spot (outside o)) (if_broken (breaks_v02 out) 2) (if_broken_none (breaks_v02 out) 2 (h.outsides o out e))))
      (gathered (function_found C D) C.functions (λ f g e. function_found_none f g (h.destructors f g e) (h.one_destructor f g e) (h.bodies f g e))))
