-- The text of a body under other numbers of locals, and what it is in a frame of each side.
use Rattle.std.proofs.Common.{◌≡◌, refl, ap, ap₂, ℕ, ◌+◌, ◌<◌, true, ◌&&◌, nat_lt, List, [], ◌∷◌, map, length, Some, slice_get, arith}
use Rattle.std.proofs.Common.{ltb-true}
use Rattle.std.specs.List.{list_all, flat_map}
use Rattle.mir_syntax.specs.declared.body.Place.{Place}
use Rattle.mir_syntax.specs.declared.body.Operand.{Operand}
use Rattle.mir_syntax.specs.declared.body.Operand.TheVariants as operand
use Rattle.mir_syntax.specs.declared.body.Term.{Term}
use Rattle.mir_syntax.specs.declared.body.Term.TheVariants.{Goto, Switch, Return, Unreachable, Drop, Call, Assert}
use Rattle.mir_syntax.specs.Tree.{Tree}
use Rattle.mir_syntax.specs.Shapes.{Shape}
use Rattle.mir_syntax.specs.Crate.{TypedRvalue, «use», binary, overflow, unary, cast, discriminant, tuple, build, TypedStmt, assign, storage_live, storage_dead, set_discriminant, TypedBody, Crate}
use Rattle.mir_syntax.specs.Crate as rvalue
use Rattle.mir_syntax.specs.Parts.{operand_places, rvalue_operands, rvalue_places, term_operands, term_places, targets}
use Rattle.mir_rules.specs.Formed.{place_formed, operand_formed, shape_formed, call_formed, block_there, stmt_formed, term_formed}
use Rattle.mir_rules.proofs.Lists.{and_true-left, and_true-right}
use Rattle.trim_locals.specs.Trimmed.{renamed_place, renamed_operand, renamed_rvalue, renamed_stmt}
use Rattle.mir_relate.specs.Renumbered.{Numbering, PlaceSame, OperandSame, OperandsSame, RvalueSame, StmtSame}
use Rattle.mir_renaming.specs.Renaming.{Renaming}
use Rattle.mir_renaming.proofs.Statements.{PlaceRel, OperandRel, OperandsRel, RvalueRel, StmtRel}

-- ---- the renamed text of a formed body

module _ (C : Crate) (b : TypedBody) (R : Numbering) (f : ℕ → ℕ) (ready : (x : ℕ) → x < length b.locals → R x (f x)) where
  abbrev AllFormed : List Place → Type 0
  AllFormed ps = list_all (place_formed b) ps ≡ true

  abbrev places : List Operand → List Place
  places os = flat_map operand_places os

  local_ready : (p : Place) → place_formed b p ≡ true → PlaceSame R p (renamed_place f p)
  local_ready p h = (ready p.local (ltb-true p.local (length b.locals) (and_true-left (nat_lt p.local (length b.locals)) _ h)), refl)

  first_ready : (p : Place) (ps : List Place) → AllFormed (p ∷ ps) → PlaceSame R p (renamed_place f p) × AllFormed ps
  first_ready p ps h = (local_ready p (and_true-left (place_formed b p) (list_all (place_formed b) ps) h), and_true-right (place_formed b p) (list_all (place_formed b) ps) h)

  operand_ready : (o : Operand) (os : List Operand) → AllFormed (places (o ∷ os)) → OperandSame R o (renamed_operand f o) × AllFormed (places os)
  operand_ready (operand.Copy p) os h = first_ready p (places os) h
  operand_ready (operand.Move p) os h = first_ready p (places os) h
  operand_ready (operand.Const c) os h = (refl, h)

  operands_ready : (os : List Operand) → AllFormed (places os) → OperandsSame R os (map (renamed_operand f) os)
  operands_ready [] h = tt
  operands_ready (o ∷ os) h = let (a, k) = operand_ready o os h in (a, operands_ready os k)

  two_ready : (a c : Operand) → AllFormed (places (a ∷ c ∷ [])) → OperandSame R a (renamed_operand f a) × OperandSame R c (renamed_operand f c)
  two_ready a c h = let (x, k) = operand_ready a (c ∷ []) h in (x, (operand_ready c [] k).0)

  rvalue_ready : (r : TypedRvalue) → AllFormed (rvalue_places r) → RvalueSame R r (renamed_rvalue f r)
  rvalue_ready («use» o) h = (operand_ready o [] h).0
  rvalue_ready (binary op a c) h = let (x, y) = two_ready a c h in (refl, x, y)
  rvalue_ready (overflow op a c) h = let (x, y) = two_ready a c h in (refl, x, y)
  rvalue_ready (unary op a) h = (refl, (operand_ready a [] h).0)
  rvalue_ready (cast a t) h = (refl, (operand_ready a [] h).0)
  rvalue_ready (rvalue.ref p) h = (first_ready p [] h).0
  rvalue_ready (rvalue.ref_mut p) h = (first_ready p [] h).0
  rvalue_ready (discriminant p) h = (first_ready p [] h).0
  rvalue_ready (tuple os) h = operands_ready os h
  rvalue_ready (build d k os) h = (refl, refl, operands_ready os h)

  pub stmt_ready : (s : TypedStmt) → stmt_formed C b s ≡ true → StmtSame R s (renamed_stmt f s)
  unfolding stmt_formed
  stmt_ready (assign p r) h =
      (local_ready p (and_true-left (place_formed b p) _ h), rvalue_ready r (and_true-right (list_all operand_formed (rvalue_operands r)) _ (and_true-right (shape_formed C r) _ (and_true-right (place_formed b p) _ h))))
  stmt_ready (storage_live x) h = ready x (ltb-true x (length b.locals) h)
  stmt_ready (storage_dead x) h = ready x (ltb-true x (length b.locals) h)
  stmt_ready (set_discriminant p k) h = (local_ready p h, refl)

  -- a terminator's places and operands
  abbrev pub TermReady : Term → Type 0
  TermReady (Switch o arms t) = OperandSame R o (renamed_operand f o)
  TermReady (Call p g os t) = PlaceSame R p (renamed_place f p) × OperandsSame R os (map (renamed_operand f) os)
  TermReady (Assert o e x os t) = OperandSame R o (renamed_operand f o) × OperandsSame R os (map (renamed_operand f) os)
  TermReady (Drop q t) = PlaceSame R q (renamed_place f q)
  TermReady _ = Unit {0}

  pub term_ready : (t : Term) → term_formed C b t ≡ true → TermReady t
  unfolding term_formed
  term_ready t h = go t (and_true-left (list_all (place_formed b) (term_places t)) (list_all (block_there b) (targets t)) (and_true-right (list_all operand_formed (term_operands t)) (list_all (place_formed b) (term_places t) && list_all (block_there b) (targets t)) (and_true-right (call_formed C t) (list_all operand_formed (term_operands t) && (list_all (place_formed b) (term_places t) && list_all (block_there b) (targets t))) h)))
    where
      go : (t : Term) → AllFormed (term_places t) → TermReady t
      go (Switch o arms t) h = (operand_ready o [] h).0
      go (Call p g os t) h = let (x, k) = first_ready p (places os) h in (x, operands_ready os k)
      go (Assert o e x os t) h = let (y, k) = operand_ready o os h in (y, operands_ready os k)
      go (Goto t) h = tt
      go Return h = tt
      go Unreachable h = tt
      go (Drop q t) h = (first_ready q [] h).0

-- ---- the text itself

pub sum_zero : (x : ℕ) → 0 + x ≡ x
sum_zero x = omega arith

abbrev pub itself : ℕ → ℕ
itself x = x

operand_itself : (o : Operand) → renamed_operand itself o ≡ o
operand_itself (operand.Copy p) = refl
operand_itself (operand.Move p) = refl
operand_itself (operand.Const c) = refl

pub operands_itself : (os : List Operand) → map (renamed_operand itself) os ≡ os
operands_itself [] = refl
operands_itself (o ∷ os) = ap₂ (λ x xs. x ∷ xs) (operand_itself o) (operands_itself os)

rvalue_itself : (r : TypedRvalue) → renamed_rvalue itself r ≡ r
rvalue_itself («use» o) = ap «use» (operand_itself o)
rvalue_itself (binary op a c) = ap₂ (binary op) (operand_itself a) (operand_itself c)
rvalue_itself (overflow op a c) = ap₂ (overflow op) (operand_itself a) (operand_itself c)
rvalue_itself (unary op a) = ap (unary op) (operand_itself a)
rvalue_itself (cast a t) = ap (λ a. cast a t) (operand_itself a)
rvalue_itself (rvalue.ref p) = refl
rvalue_itself (rvalue.ref_mut p) = refl
rvalue_itself (discriminant p) = refl
rvalue_itself (tuple os) = ap tuple (operands_itself os)
rvalue_itself (build d k os) = ap (build d k) (operands_itself os)

pub stmt_itself : (s : TypedStmt) → renamed_stmt itself s ≡ s
stmt_itself (assign p r) = ap (assign p) (rvalue_itself r)
stmt_itself (storage_live x) = refl
stmt_itself (storage_dead x) = refl
stmt_itself (set_discriminant p k) = refl

pub term_operand_itself : (o : Operand) → renamed_operand itself o ≡ o
term_operand_itself o = operand_itself o

-- ---- in a frame of each side

module _ (D : List Shape) (ts1 ts2 : List Tree) (f1 f2 : ℕ) (j : Renaming) (R : Numbering) (lifts : (x y : ℕ) → R x y → (j f1 x ≡ Some (f2, y)) × (slice_get ts1 x ≡ slice_get ts2 y)) where
  pub place_lift : (p q : Place) → PlaceSame R p q → PlaceRel D ts1 ts2 f1 f2 j j (λ f x r e. e) j p q
  place_lift p q h = record { root = (lifts p.local q.local h.0).0; proj = h.1; ty = (lifts p.local q.local h.0).1 }

  pub operand_lift : (o p : Operand) → OperandSame R o p → OperandRel D ts1 ts2 f1 f2 j j (λ f x r e. e) o p
  operand_lift (operand.Copy p) (operand.Copy q) h = place_lift p q h
  operand_lift (operand.Move p) (operand.Move q) h = place_lift p q h
  operand_lift (operand.Const c) (operand.Const d) h = h
  operand_lift o p h = absurd h

  pub operands_lift : (os ps : List Operand) → OperandsSame R os ps → OperandsRel D ts1 ts2 f1 f2 j j (λ f x r e. e) os ps
  operands_lift [] [] h = tt
  operands_lift (o ∷ os) (p ∷ ps) h = (operand_lift o p h.0, operands_lift os ps h.1)
  operands_lift [] (p ∷ ps) h = absurd h
  operands_lift (o ∷ os) [] h = absurd h

  rvalue_lift : (x y : TypedRvalue) → RvalueSame R x y → RvalueRel D ts1 ts2 f1 f2 j j (λ f x r e. e) x y
  rvalue_lift («use» o) («use» p) h = operand_lift o p h
  rvalue_lift (binary op a c) (binary op' c' d) h = (h.0, operand_lift a c' h.1, operand_lift c d h.2)
  rvalue_lift (overflow op a c) (overflow op' c' d) h = (h.0, operand_lift a c' h.1, operand_lift c d h.2)
  rvalue_lift (unary op a) (unary op' c) h = (h.0, operand_lift a c h.1)
  rvalue_lift (cast a t) (cast c u) h = (h.0, operand_lift a c h.1)
  rvalue_lift (rvalue.ref p) (rvalue.ref q) h = place_lift p q h
  rvalue_lift (rvalue.ref_mut p) (rvalue.ref_mut q) h = place_lift p q h
  rvalue_lift (discriminant p) (discriminant q) h = place_lift p q h
  rvalue_lift (tuple os) (tuple ps) h = operands_lift os ps h
  rvalue_lift (build d k os) (build d' k' ps) h = (h.0, h.1, operands_lift os ps h.2)
  rvalue_lift x y h = absurd h

  pub stmt_lift : (s t : TypedStmt) → StmtSame R s t → StmtRel D ts1 ts2 f1 f2 j j (λ f x r e. e) s t
  stmt_lift (assign p x) (assign q y) h = (place_lift p q h.0, rvalue_lift x y h.1)
  stmt_lift (storage_live x) (storage_live y) h = record { root = (lifts x y h).0; ty = (lifts x y h).1 }
  stmt_lift (storage_dead x) (storage_dead y) h = record { root = (lifts x y h).0; ty = (lifts x y h).1 }
  stmt_lift (set_discriminant p k) (set_discriminant q i) h = (place_lift p q h.0, h.1)
  stmt_lift s t h = absurd h
