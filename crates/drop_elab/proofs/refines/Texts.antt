-- The text of a formed body names its own locals, so it is the same text in each frame that has them.
use Rattle.std.proofs.Common.{◌≡◌, refl, ℕ, ◌<◌, true, ◌&&◌, nat_lt, List, [], ◌∷◌, length, ltb-true}
use Rattle.std.specs.List.{list_all, flat_map}
use Rattle.mir_syntax.specs.declared.body.Place.{Place}
use Rattle.mir_syntax.specs.declared.body.Operand.{Operand}
use Rattle.mir_syntax.specs.declared.body.Operand.TheVariants as operand
use Rattle.mir_syntax.specs.declared.body.Term.{Term}
use Rattle.mir_syntax.specs.declared.body.Term.TheVariants.{Goto, Switch, Return, Unreachable, Drop, Call, Assert}
use Rattle.mir_syntax.specs.Crate.{TypedRvalue, «use», binary, overflow, unary, cast, discriminant, tuple, build, TypedStmt, assign, storage_live, storage_dead, set_discriminant, TypedBody, Crate}
use Rattle.mir_syntax.specs.Crate as rvalue
use Rattle.mir_syntax.specs.Parts.{operand_places, rvalue_operands, rvalue_places, term_operands, term_places, targets}
use Rattle.mir_rules.specs.Formed.{place_formed, operand_formed, shape_formed, call_formed, block_there, stmt_formed, term_formed}
use Rattle.mir_rules.proofs.Lists.{and_true-left, and_true-right}
use Rattle.mir_relate.specs.Renumbered.{PlaceSame, OperandSame, OperandsSame, RvalueSame, StmtSame, TermSame}

-- a local of the body, and itself
abbrev pub Itself : TypedBody → ℕ → ℕ → Type 0
Itself b x y = (x < length b.locals) × (x ≡ y)

module _ (C : Crate) (b : TypedBody) where
  abbrev AllFormed : List Place → Type 0
  AllFormed ps = list_all (place_formed b) ps ≡ true

  abbrev places : List Operand → List Place
  places os = flat_map operand_places os

  local_self : (x : ℕ) → nat_lt x (length b.locals) ≡ true → Itself b x x
  local_self x h = (ltb-true x (length b.locals) h, refl)

  place_self : (p : Place) → place_formed b p ≡ true → PlaceSame (Itself b) p p
  place_self p h = (local_self p.local (and_true-left (nat_lt p.local (length b.locals)) _ h), refl)

  first_self : (p : Place) (ps : List Place) → AllFormed (p ∷ ps) → PlaceSame (Itself b) p p × AllFormed ps
  first_self p ps h = (place_self p (and_true-left (place_formed b p) (list_all (place_formed b) ps) h), and_true-right (place_formed b p) (list_all (place_formed b) ps) h)

  operand_self : (o : Operand) (os : List Operand) → AllFormed (places (o ∷ os)) → OperandSame (Itself b) o o × AllFormed (places os)
  operand_self (operand.Copy p) os h = first_self p (places os) h
  operand_self (operand.Move p) os h = first_self p (places os) h
  operand_self (operand.Const c) os h = (refl, h)

  operands_self : (os : List Operand) → AllFormed (places os) → OperandsSame (Itself b) os os
  operands_self [] h = tt
  operands_self (o ∷ os) h = let (a, k) = operand_self o os h in (a, operands_self os k)

  two_self : (a c : Operand) → AllFormed (places (a ∷ c ∷ [])) → OperandSame (Itself b) a a × OperandSame (Itself b) c c
  two_self a c h = let (x, k) = operand_self a (c ∷ []) h in (x, (operand_self c [] k).0)

  rvalue_self : (r : TypedRvalue) → AllFormed (rvalue_places r) → RvalueSame (Itself b) r r
  rvalue_self («use» o) h = (operand_self o [] h).0
  rvalue_self (binary op a c) h = let (x, y) = two_self a c h in (refl, x, y)
  rvalue_self (overflow op a c) h = let (x, y) = two_self a c h in (refl, x, y)
  rvalue_self (unary op a) h = (refl, (operand_self a [] h).0)
  rvalue_self (cast a t) h = (refl, (operand_self a [] h).0)
  rvalue_self (rvalue.ref p) h = (first_self p [] h).0
  rvalue_self (rvalue.ref_mut p) h = (first_self p [] h).0
  rvalue_self (discriminant p) h = (first_self p [] h).0
  rvalue_self (tuple os) h = operands_self os h
  rvalue_self (build d k os) h = (refl, refl, operands_self os h)

  pub stmt_self : (s : TypedStmt) → stmt_formed C b s ≡ true → StmtSame (Itself b) s s
  unfolding stmt_formed
  stmt_self (assign p r) h =
      (place_self p (and_true-left (place_formed b p) _ h), rvalue_self r (and_true-right (list_all operand_formed (rvalue_operands r)) _ (and_true-right (shape_formed C r) _ (and_true-right (place_formed b p) _ h))))
  stmt_self (storage_live x) h = local_self x h
  stmt_self (storage_dead x) h = local_self x h
  stmt_self (set_discriminant p k) h = (place_self p h, refl)

  pub term_self : (t : Term) → term_formed C b t ≡ true → TermSame (Itself b) t t
  unfolding term_formed
  term_self t h = go t (and_true-left (list_all (place_formed b) (term_places t)) (list_all (block_there b) (targets t)) (and_true-right (list_all operand_formed (term_operands t)) (list_all (place_formed b) (term_places t) && list_all (block_there b) (targets t)) (and_true-right (call_formed C t) (list_all operand_formed (term_operands t) && (list_all (place_formed b) (term_places t) && list_all (block_there b) (targets t))) h)))
    where
      go : (t : Term) → AllFormed (term_places t) → TermSame (Itself b) t t
      go (Switch o arms t) h = ((operand_self o [] h).0, refl, refl)
      go (Call p g os t) h = let (x, k) = first_self p (places os) h in (x, refl, operands_self os k, refl)
      go (Assert o e x os t) h = let (y, k) = operand_self o os h in (y, refl, refl, operands_self os k, refl)
      go (Goto t) h = refl
      go Return h = tt
      go Unreachable h = tt
      go (Drop q t) h = ((first_self q [] h).0, refl)
