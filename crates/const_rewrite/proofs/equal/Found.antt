-- What is found of a statement, put into it, is what becomes of it.
use Rattle.std.proofs.Common.{◌≡◌, refl, sym, ap, ap₂, ◌∙◌, subst, ℕ, zero, suc, ◌+◌, ◌<◌, ◌≤◌, ◌^◌, Bool, true, false, nat_eq, nat_lt, IsTrue, List, [], ◌∷◌, ◌++◌, length, map, set, get_or, take, Option, Some, None, arith}
use Rattle.std.proofs.Math.Nat.{mod-eq_of_lt}
use Rattle.std.proofs.lemmas.Bool.Decides.{nat_tests}
use Rattle.std.proofs.lemmas.List.{take_all, length-take-le}
use Rattle.const_rewrite.proofs.equal.Fronts.{Front, front_long, front_item, front_set, front_none, front_all, take_more}
use Rattle.mir_syntax.specs.declared.types.ScalarTy.{ScalarTy}
use Rattle.mir_syntax.specs.declared.types.ScalarTy.TheVariants as scalar_ty
use Rattle.mir_syntax.specs.declared.body.Proj.TheVariants.{Field}
use Rattle.mir_syntax.specs.declared.body.Place.{Place}
use Rattle.mir_syntax.specs.declared.body.BinOp.{BinOp}
use Rattle.mir_syntax.specs.declared.body.OverOp.{OverOp}
use Rattle.mir_syntax.specs.declared.body.UnOp.{UnOp}
use Rattle.mir_syntax.specs.declared.types.TyId.{TyId}
use Rattle.mir_syntax.specs.declared.body.Const.{Const}
use Rattle.mir_syntax.specs.declared.body.Operand.{Operand}
use Rattle.mir_syntax.specs.declared.body.Operand.TheVariants as operand
use Rattle.mir_syntax.specs.declared.body.Rvalue.{Rvalue}
use Rattle.mir_syntax.specs.declared.body.Rvalue.TheVariants as rvalue
use Rattle.mir_syntax.specs.declared.body.Stmt.{Stmt}
use Rattle.mir_syntax.specs.declared.body.Stmt.TheVariants as stmt
use Rattle.mir_syntax.specs.Tree.{Tree, at_id}
use Rattle.mir_syntax.specs.Crate.{TypedRvalue, «use», binary, overflow, unary, cast, tuple, build, assign, rvalue_of, stmt_of}
use Rattle.mir_syntax.specs.Ids.{rvalue_below, stmt_below}
use Rattle.mir_syntax.specs.Parts.{rvalue_operands}
use Rattle.mir_syntax.proofs.Binds.{bind_at, bind_gone}
use Rattle.mir_num.specs.Numbers as num
use Rattle.mir_num.specs.Widths.{width_of}
use Rattle.mir_num.proofs.Patterns.{wrap_below}
use Rattle.mir_rules.specs.Typing.{kind_of, made_by}
use Rattle.mir_semantics.specs.Step.{Here, scalar_in, scalar_ty_of}
use Rattle.const_flow.specs.declared.cell.Cell.{Cell}
use Rattle.const_flow.specs.declared.cell.Cell.TheVariants.{Nothing, Num, Many}
use Rattle.const_flow.specs.Facts.{Facts}
use Rattle.const_flow.specs.Cells.{told}
use Rattle.const_flow.specs.ConstAt.{Reached}
use Rattle.const_rewrite.specs.declared.point.Value.{Value}
use Rattle.const_rewrite.specs.declared.point.Value.TheVariants.{Number, Pair, Operands}
use Rattle.const_rewrite.specs.Folded.{literal, or_constant, number_or, pair_or, binary_result, folded_operand, folded_rvalue, folded_stmt}
use Rattle.const_rewrite.specs.Points.{where_reached, literal_told, literal_at, constant_at, part_at, nth, number_value, pair_value, value_at, put_each, put_constants, put_value, put_stmt}

-- ---- constants

pub no_bool : (n : ℕ) → (n ≡ 0 → ⊥) → (n ≡ 1 → ⊥) → None ≡ literal scalar_ty.Bool n
no_bool zero h k = absurd (h refl)
no_bool (suc zero) h k = absurd (k refl)
no_bool (suc (suc n)) h k = refl

-- a number that fits is left by wrapping
pub fits_is : (t : ScalarTy) (n w : ℕ) → w ≡ num.wrap t n → nat_eq w n ≡ nat_lt n (2 ^ width_of t)
unfolding num.wrap
fits_is t n w e = go (nat_lt n (2 ^ width_of t)) refl
  where
    go : (b : Bool) → nat_lt n (2 ^ width_of t) ≡ b → nat_eq w n ≡ b
    go true h = let small : n < 2 ^ width_of t = grind (arith, h) in let same : w ≡ n = e ∙ mod-eq_of_lt small in rw same (grind (arith, nat_tests))
    go false h = let large : 2 ^ width_of t ≤ n = grind (arith, h) in let below : w < 2 ^ width_of t = rw e (wrap_below t n) in grind (arith, nat_tests, large, below)

pub result_made : (h : Here) (op : BinOp) (a : Operand) (o : Option ScalarTy) (t m : ScalarTy) → o ≡ scalar_ty_of h a → o ≡ Some t → Some m ≡ scalar_in (made_by (kind_of op) t) → Some m ≡ binary_result h op a
unfolding binary_result
result_made h op a o t m e d made = made ∙ sym (bind_at (scalar_ty_of h a) t (λ t. scalar_in (made_by (kind_of op) t)) (sym e ∙ d))

pub no_result : (h : Here) (op : BinOp) (a : Operand) (o : Option ScalarTy) → o ≡ scalar_ty_of h a → o ≡ None → None ≡ binary_result h op a
unfolding binary_result
no_result h op a o e d = sym (bind_gone (scalar_ty_of h a) (λ t. scalar_in (made_by (kind_of op) t)) (sym e ∙ d))

pub told_literal : (t : Option ScalarTy) (k : Option Cell) → literal_told t (told k) ≡ literal_at t k
told_literal None None = refl
told_literal None (Some k) = refl
told_literal (Some t) None = refl
told_literal (Some t) (Some Nothing) = refl
told_literal (Some t) (Some (Num n)) = refl
told_literal (Some t) (Some Many) = refl

-- ---- operands

pub operand_is : (h : Here) (x : Reached) (o : Operand) → or_constant (constant_at h x o) o ≡ where_reached (folded_operand h) x o
unfolding folded_operand
operand_is h None o = refl
operand_is h (Some fs) o = refl

pub each_is : (h : Here) (x : Reached) (os : List Operand) → put_each (map (constant_at h x) os) os ≡ map (where_reached (folded_operand h) x) os
each_is h x [] = refl
each_is h x (o ∷ os) = ap₂ (λ o os. o ∷ os) (operand_is h x o) (each_is h x os)

pub none_reached : (h : Here) (os : List Operand) → map (where_reached (folded_operand h) None) os ≡ os
none_reached h [] = refl
none_reached h (o ∷ os) = ap (λ os. o ∷ os) (none_reached h os)

put_nothing : (cs : List (Option Const)) → put_each cs [] ≡ []
put_nothing [] = refl
put_nothing (c ∷ cs) = refl

each_more : (cs : List (Option Const)) (os : List Operand) (o : Operand) → put_each cs os ++ or_constant (nth cs (length os)) o ∷ [] ≡ put_each cs (os ++ o ∷ [])
each_more [] [] o = refl
each_more (c ∷ cs) [] o = ap (λ os. or_constant c o ∷ os) (sym (put_nothing cs))
each_more [] (q ∷ os) o = refl
each_more (c ∷ cs) (q ∷ os) o = ap (λ os. or_constant c q ∷ os) (each_more cs os o)

pub some_reached : (h : Here) (fs : Facts) (os : List Operand) → map (where_reached (folded_operand h) (Some fs)) os ≡ map (folded_operand h fs) os
some_reached h fs [] = refl
some_reached h fs (o ∷ os) = ap (λ os. folded_operand h fs o ∷ os) (some_reached h fs os)

-- constants stand in the places of the first operands
pub record Putting (cs : List (Option Const)) (old items front : List Operand) (at : ℕ) : Type 0 where
  pub here : Front old items front at
  pub done : front ≡ put_each cs (take at old)

pub putting_none : (cs : List (Option Const)) (old items : List Operand) → items ≡ old → Putting cs old items [] 0
putting_none [] old items e = record { here = front_none old items e; done = refl }
putting_none (c ∷ cs) old items e = record { here = front_none old items e; done = refl }

pub putting_more : (cs : List (Option Const)) (old items front : List Operand) (at : ℕ) (d v : Operand) → at < length items → Putting cs old items front at → v ≡ or_constant (nth cs at) (get_or items at d) → Putting cs old (set items at v) (front ++ v ∷ []) (at + 1)
putting_more cs old items front at d v m p e = record {
  here = front_set old items front at v l p.here;
  done =
      ap₂ (λ os o. os ++ o ∷ []) p.done (e ∙ ap₂ (λ n o. or_constant (nth cs n) o) (sym (length-take-le at old p.here.within)) (front_item old items front at d l p.here))
      ∙ each_more cs (take at old) (get_or old at d) ∙ ap (put_each cs) (sym (take_more old at d l));
}
  where
    l : at < length old
    l = let long = front_long old items front at p.here in omega arith

pub all_put : (cs : List (Option Const)) (old items front : List Operand) (at : ℕ) → length items ≤ at → Putting cs old items front at → items ≡ put_each cs old
all_put cs old items front at m p = front_all old items front at m p.here ∙ p.done ∙ ap (put_each cs) (take_all at old (let long = front_long old items front at p.here in omega arith))

-- ---- rvalues

no_number : (o : Option Const) (r : TypedRvalue) → number_value o ≡ Operands → r ≡ number_or o r
no_number None r e = refl
no_number (Some c) r e = absurd cc

no_pair : (a b : Option Const) (r : TypedRvalue) → pair_value a b ≡ Operands → r ≡ pair_or a b r
no_pair None b r e = refl
no_pair (Some a) None r e = refl
no_pair (Some a) (Some b) r e = absurd cc

pub value_binary : (trees : List Tree) (h : Here) (x : Reached) (r : Rvalue) (op : BinOp) (a b : Operand) (t : Option ScalarTy) → r ≡ rvalue.Binary op a b → t ≡ binary_result h op a
    → number_value (part_at t h x (rvalue_of trees r) []) ≡ value_at h x (rvalue_of trees r)
value_binary trees h x r op a b t is e = subst (λ (r : Rvalue). number_value (part_at t h x (rvalue_of trees r) []) ≡ value_at h x (rvalue_of trees r)) (sym is) (ap (λ (t : Option ScalarTy). number_value (part_at t h x (binary op a b) [])) e)

pub value_overflow : (trees : List Tree) (h : Here) (x : Reached) (r : Rvalue) (op : OverOp) (a b : Operand) (t : Option ScalarTy) → r ≡ rvalue.Overflow op a b → t ≡ scalar_ty_of h a
    → pair_value (part_at t h x (rvalue_of trees r) (Field 0 ∷ [])) (part_at (Some scalar_ty.Bool) h x (rvalue_of trees r) (Field 1 ∷ [])) ≡ value_at h x (rvalue_of trees r)
value_overflow trees h x r op a b t is e = subst (λ (r : Rvalue). pair_value (part_at t h x (rvalue_of trees r) (Field 0 ∷ [])) (part_at (Some scalar_ty.Bool) h x (rvalue_of trees r) (Field 1 ∷ [])) ≡ value_at h x (rvalue_of trees r)) (sym is) (ap (λ (t : Option ScalarTy). pair_value (part_at t h x (overflow op a b) (Field 0 ∷ [])) (part_at (Some scalar_ty.Bool) h x (overflow op a b) (Field 1 ∷ []))) e)

pub value_unary : (trees : List Tree) (h : Here) (x : Reached) (r : Rvalue) (op : UnOp) (a : Operand) (t : Option ScalarTy) → r ≡ rvalue.Unary op a → t ≡ scalar_ty_of h a
    → number_value (part_at t h x (rvalue_of trees r) []) ≡ value_at h x (rvalue_of trees r)
value_unary trees h x r op a t is e = subst (λ (r : Rvalue). number_value (part_at t h x (rvalue_of trees r) []) ≡ value_at h x (rvalue_of trees r)) (sym is) (ap (λ (t : Option ScalarTy). number_value (part_at t h x (unary op a) [])) e)

pub value_cast : (trees : List Tree) (h : Here) (x : Reached) (r : Rvalue) (a : Operand) (ty : TyId) (t : Option ScalarTy) → r ≡ rvalue.Cast a ty → t ≡ scalar_in (at_id trees ty)
    → number_value (part_at t h x (rvalue_of trees r) []) ≡ value_at h x (rvalue_of trees r)
value_cast trees h x r a ty t is e = subst (λ (r : Rvalue). number_value (part_at t h x (rvalue_of trees r) []) ≡ value_at h x (rvalue_of trees r)) (sym is) (ap (λ (t : Option ScalarTy). number_value (part_at t h x (cast a (at_id trees ty)) [])) e)

-- where no value takes its place
operands_put : (trees : List Tree) (h : Here) (x : Reached) (r : Rvalue) → value_at h x (rvalue_of trees r) ≡ Operands
    → rvalue_of trees (put_constants (map (constant_at h x) (rvalue_operands (rvalue_of trees r))) r) ≡ where_reached (folded_rvalue h) x (rvalue_of trees r)
unfolding folded_rvalue folded_operand
operands_put trees h None (rvalue.Use a) e = refl
operands_put trees h None (rvalue.Binary op a b) e = refl
operands_put trees h None (rvalue.Overflow op a b) e = refl
operands_put trees h None (rvalue.Unary op a) e = refl
operands_put trees h None (rvalue.Cast a ty) e = refl
operands_put trees h None (rvalue.Ref p) e = refl
operands_put trees h None (rvalue.RefMut p) e = refl
operands_put trees h None (rvalue.Discriminant p) e = refl
operands_put trees h None (rvalue.Tuple os) e = ap tuple (each_is h None os ∙ none_reached h os)
operands_put trees h None (rvalue.Build d k os) e = ap (build d k) (each_is h None os ∙ none_reached h os)
operands_put trees h (Some fs) (rvalue.Use a) e = refl
operands_put trees h (Some fs) (rvalue.Binary op a b) e = no_number (part_at (binary_result h op a) h (Some fs) (binary op a b) []) (binary op (folded_operand h fs a) (folded_operand h fs b)) e
operands_put trees h (Some fs) (rvalue.Overflow op a b) e = no_pair (part_at (scalar_ty_of h a) h (Some fs) (overflow op a b) (Field 0 ∷ [])) (part_at (Some scalar_ty.Bool) h (Some fs) (overflow op a b) (Field 1 ∷ [])) (overflow op (folded_operand h fs a) (folded_operand h fs b)) e
operands_put trees h (Some fs) (rvalue.Unary op a) e = no_number (part_at (scalar_ty_of h a) h (Some fs) (unary op a) []) (unary op (folded_operand h fs a)) e
operands_put trees h (Some fs) (rvalue.Cast a ty) e = no_number (part_at (scalar_in (at_id trees ty)) h (Some fs) (cast a (at_id trees ty)) []) (cast (folded_operand h fs a) (at_id trees ty)) e
operands_put trees h (Some fs) (rvalue.Ref p) e = refl
operands_put trees h (Some fs) (rvalue.RefMut p) e = refl
operands_put trees h (Some fs) (rvalue.Discriminant p) e = refl
operands_put trees h (Some fs) (rvalue.Tuple os) e = ap tuple (each_is h (Some fs) os ∙ some_reached h fs os)
operands_put trees h (Some fs) (rvalue.Build d k os) e = ap (build d k) (each_is h (Some fs) os ∙ some_reached h fs os)

none_number : (c : Const) → Operands ≡ Number c → ⊥
none_number c e = absurd cc

none_pair : (c d : Const) → Operands ≡ Pair c d → ⊥
none_pair c d e = absurd cc

a_number : (o : Option Const) (r : TypedRvalue) (c : Const) → number_value o ≡ Number c → «use» (operand.Const c) ≡ number_or o r
a_number None r c e = absurd cc
a_number (Some d) r c e = let same : c ≡ d = cc in ap (λ c. «use» (operand.Const c)) same

not_pair_number : (a b : Option Const) (c : Const) → pair_value a b ≡ Number c → ⊥
not_pair_number None b c e = absurd cc
not_pair_number (Some a) None c e = absurd cc
not_pair_number (Some a) (Some b) c e = absurd cc

number_put : (trees : List Tree) (h : Here) (x : Reached) (r : Rvalue) (c : Const) → value_at h x (rvalue_of trees r) ≡ Number c → «use» (operand.Const c) ≡ where_reached (folded_rvalue h) x (rvalue_of trees r)
unfolding folded_rvalue
number_put trees h x (rvalue.Use a) c e = absurd cc
number_put trees h None (rvalue.Binary op a b) c e = absurd (none_number c e)
number_put trees h (Some fs) (rvalue.Binary op a b) c e = a_number (part_at (binary_result h op a) h (Some fs) (binary op a b) []) (binary op (folded_operand h fs a) (folded_operand h fs b)) c e
number_put trees h x (rvalue.Overflow op a b) c e = absurd (not_pair_number (part_at (scalar_ty_of h a) h x (overflow op a b) (Field 0 ∷ [])) (part_at (Some scalar_ty.Bool) h x (overflow op a b) (Field 1 ∷ [])) c e)
number_put trees h None (rvalue.Unary op a) c e = absurd (none_number c e)
number_put trees h (Some fs) (rvalue.Unary op a) c e = a_number (part_at (scalar_ty_of h a) h (Some fs) (unary op a) []) (unary op (folded_operand h fs a)) c e
number_put trees h None (rvalue.Cast a ty) c e = absurd (none_number c e)
number_put trees h (Some fs) (rvalue.Cast a ty) c e = a_number (part_at (scalar_in (at_id trees ty)) h (Some fs) (cast a (at_id trees ty)) []) (cast (folded_operand h fs a) (at_id trees ty)) c e
number_put trees h x (rvalue.Ref p) c e = absurd cc
number_put trees h x (rvalue.RefMut p) c e = absurd cc
number_put trees h x (rvalue.Discriminant p) c e = absurd cc
number_put trees h x (rvalue.Tuple os) c e = absurd cc
number_put trees h x (rvalue.Build d k os) c e = absurd cc

a_pair : (a b : Option Const) (r : TypedRvalue) (c d : Const) → pair_value a b ≡ Pair c d → tuple (operand.Const c ∷ operand.Const d ∷ []) ≡ pair_or a b r
a_pair None b r c d e = absurd cc
a_pair (Some a) None r c d e = absurd cc
a_pair (Some a) (Some b) r c d e = let first : c ≡ a = cc in let second : d ≡ b = cc in ap₂ (λ c d. tuple (operand.Const c ∷ operand.Const d ∷ [])) first second

not_number_pair : (o : Option Const) (c d : Const) → number_value o ≡ Pair c d → ⊥
not_number_pair None c d e = absurd cc
not_number_pair (Some a) c d e = absurd cc

pair_put : (trees : List Tree) (h : Here) (x : Reached) (r : Rvalue) (c d : Const) → value_at h x (rvalue_of trees r) ≡ Pair c d
    → tuple (operand.Const c ∷ operand.Const d ∷ []) ≡ where_reached (folded_rvalue h) x (rvalue_of trees r)
unfolding folded_rvalue
pair_put trees h None (rvalue.Overflow op a b) c d e = absurd (none_pair c d e)
pair_put trees h (Some fs) (rvalue.Overflow op a b) c d e = a_pair (part_at (scalar_ty_of h a) h (Some fs) (overflow op a b) (Field 0 ∷ [])) (part_at (Some scalar_ty.Bool) h (Some fs) (overflow op a b) (Field 1 ∷ [])) (overflow op (folded_operand h fs a) (folded_operand h fs b)) c d e
pair_put trees h x (rvalue.Binary op a b) c d e = absurd (not_number_pair (part_at (binary_result h op a) h x (binary op a b) []) c d e)
pair_put trees h x (rvalue.Unary op a) c d e = absurd (not_number_pair (part_at (scalar_ty_of h a) h x (unary op a) []) c d e)
pair_put trees h x (rvalue.Cast a ty) c d e = absurd (not_number_pair (part_at (scalar_in (at_id trees ty)) h x (cast a (at_id trees ty)) []) c d e)
pair_put trees h x (rvalue.Use a) c d e = absurd cc
pair_put trees h x (rvalue.Ref p) c d e = absurd cc
pair_put trees h x (rvalue.RefMut p) c d e = absurd cc
pair_put trees h x (rvalue.Discriminant p) c d e = absurd cc
pair_put trees h x (rvalue.Tuple os) c d e = absurd cc
pair_put trees h x (rvalue.Build b k os) c d e = absurd cc

pub operands_noted : (trees : List Tree) (h : Here) (x : Reached) (r : Rvalue) (cs : List (Option Const)) → Operands ≡ value_at h x (rvalue_of trees r) → cs ≡ map (constant_at h x) (rvalue_operands (rvalue_of trees r))
    → rvalue_of trees (put_value Operands cs r) ≡ where_reached (folded_rvalue h) x (rvalue_of trees r)
operands_noted trees h x r cs e d = ap (λ cs. rvalue_of trees (put_constants cs r)) d ∙ operands_put trees h x r (sym e)

pub number_noted : (trees : List Tree) (h : Here) (x : Reached) (r : Rvalue) (cs : List (Option Const)) (c : Const) → Number c ≡ value_at h x (rvalue_of trees r)
    → rvalue_of trees (put_value (Number c) cs r) ≡ where_reached (folded_rvalue h) x (rvalue_of trees r)
number_noted trees h x r cs c e = number_put trees h x r c (sym e)

pub pair_noted : (trees : List Tree) (h : Here) (x : Reached) (r : Rvalue) (cs : List (Option Const)) (c d : Const) → Pair c d ≡ value_at h x (rvalue_of trees r)
    → rvalue_of trees (put_value (Pair c d) cs r) ≡ where_reached (folded_rvalue h) x (rvalue_of trees r)
pair_noted trees h x r cs c d e = pair_put trees h x r c d (sym e)

-- ---- statements

pub assign_noted : (trees : List Tree) (h : Here) (x : Reached) (s : Stmt) (p : Place) (r : Rvalue) (v : Value) (cs : List (Option Const)) → s ≡ stmt.Assign p r
    → rvalue_of trees (put_value v cs r) ≡ where_reached (folded_rvalue h) x (rvalue_of trees r)
    → stmt_of trees (put_stmt v cs s) ≡ where_reached (folded_stmt h) x (stmt_of trees s)
assign_noted trees h None s p r v cs is e = subst (λ (s : Stmt). stmt_of trees (put_stmt v cs s) ≡ stmt_of trees s) (sym is) (ap (assign p) e)
assign_noted trees h (Some fs) s p r v cs is e = subst (λ (s : Stmt). stmt_of trees (put_stmt v cs s) ≡ folded_stmt h fs (stmt_of trees s)) (sym is) (ap (assign p) e)

pub other_noted : (trees : List Tree) (h : Here) (x : Reached) (s : Stmt) (cs : List (Option Const)) → ((p : Place) (r : Rvalue) → s ≡ stmt.Assign p r → ⊥)
    → stmt_of trees (put_stmt Operands cs s) ≡ where_reached (folded_stmt h) x (stmt_of trees s)
other_noted trees h x (stmt.Assign p r) cs otherwise = absurd (otherwise p r refl)
other_noted trees h None (stmt.StorageLive y) cs otherwise = refl
other_noted trees h None (stmt.StorageDead y) cs otherwise = refl
other_noted trees h None (stmt.SetDiscriminant p k) cs otherwise = refl
other_noted trees h (Some fs) (stmt.StorageLive y) cs otherwise = refl
other_noted trees h (Some fs) (stmt.StorageDead y) cs otherwise = refl
other_noted trees h (Some fs) (stmt.SetDiscriminant p k) cs otherwise = refl

-- ---- ids

value_ids : (n : ℕ) (v : Value) (cs : List (Option Const)) (r : Rvalue) → IsTrue (rvalue_below n r) → IsTrue (rvalue_below n (put_value v cs r))
value_ids n (Number c) cs r h = refl
value_ids n (Pair c d) cs r h = refl
value_ids n Operands cs (rvalue.Use a) h = refl
value_ids n Operands cs (rvalue.Binary op a b) h = refl
value_ids n Operands cs (rvalue.Overflow op a b) h = refl
value_ids n Operands cs (rvalue.Unary op a) h = refl
value_ids n Operands cs (rvalue.Cast a ty) h = h
value_ids n Operands cs (rvalue.Ref p) h = refl
value_ids n Operands cs (rvalue.RefMut p) h = refl
value_ids n Operands cs (rvalue.Discriminant p) h = refl
value_ids n Operands cs (rvalue.Tuple os) h = refl
value_ids n Operands cs (rvalue.Build d k os) h = refl

-- a constant has no id
pub stmt_ids : (n : ℕ) (v : Value) (cs : List (Option Const)) (s : Stmt) → IsTrue (stmt_below n s) → IsTrue (stmt_below n (put_stmt v cs s))
stmt_ids n v cs (stmt.Assign p r) h = value_ids n v cs r h
stmt_ids n v cs (stmt.StorageLive x) h = refl
stmt_ids n v cs (stmt.StorageDead x) h = refl
stmt_ids n v cs (stmt.SetDiscriminant p k) h = refl
