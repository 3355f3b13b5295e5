-- Places and statements of the code, seen with their types, are those of the definition.
use Rattle.std.proofs.Common.{◌≡◌, refl, sym, ap, ap₂, ◌∙◌, ℕ, ◌+◌, ◌<◌, false, if◌then◌else◌, List, [], ◌∷◌, map, length, Option, Some, None, arith, lt-ltb}
use Rattle.std.specs.List.{flat_map, list_any}
use Rattle.std.proofs.lemmas.Option.{slice_get_within}
use Rattle.mir_syntax.specs.declared.body.Proj.{Proj}
use Rattle.mir_syntax.specs.declared.body.Proj.TheVariants.{Field, Downcast, Deref}
use Rattle.mir_syntax.specs.declared.body.Place.{Place}
use Rattle.mir_syntax.specs.declared.body.Operand.{Operand}
use Rattle.mir_syntax.specs.declared.body.Operand.TheVariants as operand
use Rattle.mir_syntax.specs.declared.body.Rvalue.{Rvalue}
use Rattle.mir_syntax.specs.declared.body.Rvalue.TheVariants as rvalue
use Rattle.mir_syntax.specs.declared.body.Term.{Term}
use Rattle.mir_syntax.specs.declared.body.Term.TheVariants as term
use Rattle.mir_syntax.specs.Tree.{Tree, at_id}
use Rattle.mir_syntax.specs.Crate.{«use», binary, overflow, unary, cast, ref, ref_mut, discriminant, tuple, build, TypedBody, rvalue_of}
use Rattle.mir_syntax.specs.Shapes.{Shape}
use Rattle.mir_syntax.specs.Parts.{operand_places, rvalue_places, term_places}
use Rattle.mir_rules.specs.BodyRules.{breaks_v06}
use Rattle.mir_rules.proofs.Lists.{or_false-right}
use Rattle.mir_rules.proofs.Typed.{missing, place_typed}
use Rattle.sroa_pass.specs.declared.parts.Parts.{Parts}
use Rattle.sroa_pass.specs.Split.{field_types, fields_at, moved_to, split_place, split_operand, split_rvalue, split_term}
use Rattle.sroa_pass.specs.Code.{Table, parts_at, part_of, place_at, put_place, put_operand, put_rvalue, put_term, first_of_parts}
use Rattle.sroa_pass.proofs.Planned.{s, chosen, has_type, chosen_fields, field_has}

-- a table has the new locals of each local that the definition splits
pub record Stands (D : List Shape) (b : TypedBody) (t : Table) : Type 0 where
  pub firsts : (x : ℕ) → first_of_parts (parts_at t x) ≡ s D b x
  pub counts : (x : ℕ) (a : Parts) → parts_at t x ≡ Some a → a.count ≡ length (fields_at D b.locals x)

module _ (D : List Shape) (b : TypedBody) (t : Table) (h : Stands D b t) where
  -- a place in a field of a split local is in one that it has
  abbrev pub Known : Place → Type 0
  Known p = (a : Parts) (i : ℕ) (ps : List Proj) → parts_at t p.local ≡ Some a → p.proj ≡ Field i ∷ ps → i < a.count

  abbrev pub AllKnown : List Place → Type 0
  AllKnown [] = Unit {0}
  AllKnown (p ∷ ps) = Known p × AllKnown ps

  known : (p : Place) (others : List Place) → breaks_v06 D b.locals (p ∷ others) ≡ false → Known p
  known p others e a i ps at is =
      let (ty, typed) = place_typed D b.locals p others e in
      let c = chosen D b p.local a.first (sym (h.firsts p.local) ∙ ap first_of_parts at) in
      let inside = slice_get_within (field_types D c.ty) i _ (has_type D b p.local a.first i c (field_has D b p ty i ps typed is)) in
      let many = h.counts p.local a at ∙ ap length (chosen_fields D b p.local a.first c) in
      omega (arith, inside, many)

  pub all_known : (ps : List Place) → breaks_v06 D b.locals ps ≡ false → AllKnown ps
  all_known [] e = tt
  all_known (p ∷ ps) e = (known p ps e, all_known ps (or_false-right (missing D b.locals p) (list_any (missing D b.locals) ps) e))

  pub place_same : (p : Place) → Known p → put_place t p ≡ split_place (s D b) p
  place_same p k = go (parts_at t p.local) refl p.proj refl ∙ ap (λ o. moved_to o p p.proj) (h.firsts p.local)
    where
      go : (o : Option Parts) → parts_at t p.local ≡ o → (ps : List Proj) → p.proj ≡ ps → put_place t p ≡ moved_to (first_of_parts (parts_at t p.local)) p p.proj
      go None e ps q = ap (λ o. place_at (part_of o p.proj) p) e ∙ sym (ap (λ o. moved_to (first_of_parts o) p p.proj) e)
      go (Some a) e [] q = ap₂ (λ o ps. place_at (part_of o ps) p) e q ∙ sym (ap₂ (λ o ps. moved_to (first_of_parts o) p ps) e q)
      go (Some a) e (Deref ∷ ps) q = ap₂ (λ o ps. place_at (part_of o ps) p) e q ∙ sym (ap₂ (λ o ps. moved_to (first_of_parts o) p ps) e q)
      go (Some a) e (Downcast v ∷ ps) q = ap₂ (λ o ps. place_at (part_of o ps) p) e q ∙ sym (ap₂ (λ o ps. moved_to (first_of_parts o) p ps) e q)
      go (Some a) e (Field i ∷ ps) q =
          ap₂ (λ o ps. place_at (part_of o ps) p) e q ∙ ap (λ c. place_at (if c then Some (a.first + i) else None) p) (lt-ltb i a.count (k a i ps e q))
          ∙ ap (λ (ps : List Proj). place_at (Some (a.first + i)) (record { local = p.local; proj = ps })) q
          ∙ sym (ap₂ (λ o ps. moved_to (first_of_parts o) p ps) e q)

  operand_same : (o : Operand) (os : List Operand) → AllKnown (flat_map operand_places (o ∷ os)) → (put_operand t o ≡ split_operand (s D b) o) × AllKnown (flat_map operand_places os)
  operand_same (operand.Copy p) os k = (ap operand.Copy (place_same p k.0), k.1)
  operand_same (operand.Move p) os k = (ap operand.Move (place_same p k.0), k.1)
  operand_same (operand.Const c) os k = (refl, k)

  pub operands_same : (os : List Operand) → AllKnown (flat_map operand_places os) → map (put_operand t) os ≡ map (split_operand (s D b)) os
  operands_same [] k = refl
  operands_same (o ∷ os) k = let (a, r) = operand_same o os k in ap₂ (λ (o : Operand) os. o ∷ os) a (operands_same os r)

  pub rvalue_same : (trees : List Tree) (r : Rvalue) → AllKnown (rvalue_places (rvalue_of trees r)) → rvalue_of trees (put_rvalue t r) ≡ split_rvalue (s D b) (rvalue_of trees r)
  rvalue_same trees (rvalue.Use a) k = ap «use» (operand_same a [] k).0
  rvalue_same trees (rvalue.Binary op a c) k = (let (e, r) = operand_same a (c ∷ []) k in ap₂ (binary op) e (operand_same c [] r).0)
  rvalue_same trees (rvalue.Overflow op a c) k = (let (e, r) = operand_same a (c ∷ []) k in ap₂ (overflow op) e (operand_same c [] r).0)
  rvalue_same trees (rvalue.Unary op a) k = ap (unary op) (operand_same a [] k).0
  rvalue_same trees (rvalue.Cast a ty) k = ap (λ o. cast o (at_id trees ty)) (operand_same a [] k).0
  rvalue_same trees (rvalue.Ref p) k = ap ref (place_same p k.0)
  rvalue_same trees (rvalue.RefMut p) k = ap ref_mut (place_same p k.0)
  rvalue_same trees (rvalue.Discriminant p) k = ap discriminant (place_same p k.0)
  rvalue_same trees (rvalue.Tuple os) k = ap tuple (operands_same os k)
  rvalue_same trees (rvalue.Build d v os) k = ap (build d v) (operands_same os k)

  pub term_same : (m : Term) → AllKnown (term_places m) → put_term t m ≡ split_term (s D b) m
  term_same (term.Goto next) k = refl
  term_same (term.Switch o arms other) k = ap (λ o. term.Switch o arms other) (operand_same o [] k).0
  term_same term.Return k = refl
  term_same term.Unreachable k = refl
  term_same (term.Drop p next) k = ap (λ p. term.Drop p next) (place_same p k.0)
  term_same (term.Call p callee os next) k = ap₂ (λ p os. term.Call p callee os next) (place_same p k.0) (operands_same os k.1)
  term_same (term.Assert o expected words os next) k = (let (e, r) = operand_same o os k in ap₂ (λ o os. term.Assert o expected words os next) e (operands_same os r))
