-- In a formed body all that is called or may be run by a drop is a function of the crate.
use Rattle.std.proofs.Common.{◌≡◌, refl, ap, ◌∙◌, ℕ, zero, suc, ◌+◌, ◌<◌, Bool, true, false, ◌&&◌, List, [], ◌∷◌, ◌++◌, length, Option, Some, None, slice_get, arith}
use Rattle.std.specs.Prelude.{IsTrue, option_to_list}
use Rattle.std.specs.List.{list_all, flat_map}
use Rattle.std.proofs.lemmas.Bool.Decides.{nat_tests}
use Rattle.mir_syntax.specs.declared.body.Callee.TheVariants as callee
use Rattle.mir_syntax.specs.declared.body.Term.{Term}
use Rattle.mir_syntax.specs.declared.body.Term.TheVariants as term
use Rattle.mir_syntax.specs.Tree.{Tree, more, named}
use Rattle.mir_syntax.specs.Crate.{TypedDef, TypedFunction, TypedBlock, TypedBody, Crate}
use Rattle.mir_syntax.specs.Shapes.{Shape, shapes_from, shapes_of, is_destructor_of, destructor_from, whole_place_ty}
use Rattle.mir_syntax.specs.Parts.{term_operands, term_places, targets}
use Rattle.mir_rules.specs.Formed.{call_formed, operand_formed, place_formed, block_there, term_formed, stmt_formed, block_formed, type_formed, has_start, body_formed}
use Rattle.call_graph.specs.Callees.{destructors_by, destructors_of, destructors_def, destructors_in, dropped_in, called, called_in, all_called}
use Rattle.call_graph.proofs.Entering.{Below}

and_first : (a b : Bool) → IsTrue (a && b) → IsTrue a
and_first a b x = grind arith

and_second : (a b : Bool) → IsTrue (a && b) → IsTrue b
and_second a b x = grind arith

below_none : (n : ℕ) → Below n []
below_none n = λ k d l. absurd (omega arith)

below_one : (n x : ℕ) → x < n → Below n (x ∷ [])
below_one n x lt zero d l = lt
below_one n x lt (suc k) d l = absurd (omega arith)

below_join : (n : ℕ) (xs ys : List ℕ) → Below n xs → Below n ys → Below n (xs ++ ys)
below_join n [] ys a b = b
below_join n (x ∷ xs) ys a b = go (below_join n xs ys (λ k d l. a (suc k) d (omega (arith, l))) b)
  where
    go : Below n (xs ++ ys) → Below n (x ∷ (xs ++ ys))
    go r zero d l = a 0 d (omega arith)
    go r (suc k) d l = r k d (omega (arith, l))

-- ---- destructors are functions

from_below : (d i : ℕ) (fs : List TypedFunction) (k : ℕ) → destructor_from d i fs ≡ Some k → k < i + length fs
from_below d i [] k e = absurd (cc)
from_below d i (f ∷ fs) k e = go (is_destructor_of d f) refl (from_below d (suc i) fs k)
  where
    go : (b : Bool) → is_destructor_of d f ≡ b → (destructor_from d (suc i) fs ≡ Some k → k < suc i + length fs) → k < i + length (f ∷ fs)
    go true is r = (let same : i ≡ k = grind arith in omega (arith, same))
    go false is r = (let l = r (grind arith) in omega (arith, l))

-- the destructors of these shapes are below a number
abbrev DestructorsBelow : ℕ → List Shape → Type 0
DestructorsBelow n D = (d : ℕ) (s : Shape) → slice_get D d ≡ Some s → Below n (option_to_list s.destructor)

own_listed : (n : ℕ) (o : Option ℕ) → ((k : ℕ) → o ≡ Some k → k < n) → Below n (option_to_list o)
own_listed n None h = below_none n
own_listed n (Some k) h = below_one n k (h k refl)

shapes_below : (functions : List TypedFunction) (m : ℕ) (defs : List TypedDef) → DestructorsBelow (length functions) (shapes_from functions m defs)
shapes_below functions m [] d s e = absurd (cc)
shapes_below functions m (x ∷ defs) zero s e =
    let same : destructor_from m 0 functions ≡ s.destructor = (let t : ◌≡◌ {A = Option (Option ℕ)} (Some (destructor_from m 0 functions)) (Some s.destructor) = ap (λ o. destructors o) e in cc) in
    own_listed (length functions) s.destructor (λ k h. let l = from_below m 0 functions k (same ∙ h) in omega (arith, l))
  where
    destructors : Option Shape → Option (Option ℕ)
    destructors None = None
    destructors (Some s) = Some s.destructor
shapes_below functions m (x ∷ defs) (suc d) s e = shapes_below functions (suc m) defs d s e

module _ (n : ℕ) (D : List Shape) (own : DestructorsBelow n D) where
  by_below : (of_def : ℕ → List ℕ) → ((d : ℕ) → Below n (of_def d)) → (t : Tree) → Below n (destructors_by of_def t)
  by_below of_def h (more t ts) = below_join n (destructors_by of_def t) (destructors_by of_def ts) (by_below of_def h t) (by_below of_def h ts)
  by_below of_def h (named d) = h d
  by_below of_def h t = below_none n

  any_below : (of_def : ℕ → List ℕ) → ((d : ℕ) → Below n (of_def d)) → (ts : List Tree) → Below n (flat_map (destructors_by of_def) ts)
  any_below of_def h [] = below_none n
  any_below of_def h (t ∷ ts) = below_join n (destructors_by of_def t) (flat_map (destructors_by of_def) ts) (by_below of_def h t) (any_below of_def h ts)

  def_below : (k d : ℕ) → Below n (destructors_def D k d)
  def_below zero d = below_none n
  def_below (suc k) d = go (slice_get D d) refl (λ j. def_below k j)
    where
      go : (o : Option Shape) → slice_get D d ≡ o → ((j : ℕ) → Below n (destructors_def D k j)) → Below n (destructors_of (destructors_def D k) o)
      go None e inner = below_none n
      go (Some s) e inner = below_join n (option_to_list s.destructor) (flat_map (destructors_by (destructors_def D k)) s.variants) (own d s e) (any_below (destructors_def D k) inner s.variants)

  dropped_below : (o : Option Tree) → Below n (dropped_in D o)
  unfolding destructors_in
  dropped_below None = below_none n
  dropped_below (Some t) = by_below (destructors_def D (length D)) (def_below (length D)) t

-- ---- bodies

module _ (C : Crate) (b : TypedBody) where
  own_all : DestructorsBelow (length C.functions) (shapes_of C)
  unfolding shapes_of
  own_all = shapes_below C.functions 0 C.defs

  called_below : (t : Term) → IsTrue (call_formed C t) → Below (length C.functions) (called (shapes_of C) b.locals t)
  called_below (term.Call p (callee.Local f) args next) h = below_one (length C.functions) f.0 (grind (arith, nat_tests))
  called_below (term.Call p (callee.Outside o) args next) h = below_none (length C.functions)
  called_below (term.Drop p next) h = dropped_below (length C.functions) (shapes_of C) own_all (whole_place_ty (shapes_of C) b.locals p)
  called_below (term.Goto next) h = below_none (length C.functions)
  called_below (term.Switch a arms other) h = below_none (length C.functions)
  called_below term.Return h = below_none (length C.functions)
  called_below term.Unreachable h = below_none (length C.functions)
  called_below (term.Assert a expected text args next) h = below_none (length C.functions)

  call_of : (t : Term) → IsTrue (term_formed C b t) → IsTrue (call_formed C t)
  unfolding term_formed
  call_of t h = and_first (call_formed C t) (list_all operand_formed (term_operands t) && (list_all (place_formed b) (term_places t) && list_all (block_there b) (targets t))) h

  blocks_below : (blocks : List TypedBlock) → IsTrue (list_all (block_formed C b) blocks) → Below (length C.functions) (flat_map (called_in (shapes_of C) b.locals) blocks)
  blocks_below [] h = below_none (length C.functions)
  blocks_below (k ∷ ks) h =
      below_join (length C.functions) (called_in (shapes_of C) b.locals k) (flat_map (called_in (shapes_of C) b.locals) ks)
      (called_below k.term (call_of k.term (and_second (list_all (stmt_formed C b) k.stmts) (term_formed C b k.term) (and_first (block_formed C b k) (list_all (block_formed C b) ks) h))))
      (blocks_below ks (and_second (block_formed C b k) (list_all (block_formed C b) ks) h))

  pub all_inside : IsTrue (body_formed C b) → Below (length C.functions) (all_called (shapes_of C) b)
  unfolding body_formed
  all_inside h =
      blocks_below b.blocks (and_second (list_all (type_formed C) b.locals) (list_all (block_formed C b) b.blocks) (and_second (has_start b) (list_all (type_formed C) b.locals && list_all (block_formed C b) b.blocks) h))
