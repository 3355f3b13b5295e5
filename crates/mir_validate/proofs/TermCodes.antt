-- What a terminator breaks, in the order of its codes.
use Rattle.std.proofs.Common.{◌≡◌, ℕ, zero, suc, ◌<◌, ◌≤◌, ◌+◌, ◌*◌, ◌%◌, ◌^◌, ◌==◌, nat_eq, Bool, true, false, not, ◌||◌, nat_lt, IsTrue, is_none, List, [], ◌∷◌, ◌++◌, map, length, take, drop, get_or, slice_get, Option, Some, None, refl, sym, ap, ◌∙◌, arith, ltb-true, ltb-false, eqb-true, eq-eqb}
use Rattle.std.specs.List.{list_any}
use Rattle.std.specs.Option.{option_map}
use Rattle.std.proofs.lemmas.Option.{slice_get-map}
use Rattle.std.proofs.lemmas.List.{take-map, drop-map}
use Rattle.std.proofs.lemmas.Nat.{pow_pos, mod-mul-add}
use Rattle.mir_num.specs.Widths.{width_of}
use Rattle.mir_num.specs.Numbers.{wrap}
use Rattle.mir_syntax.specs.declared.types.TyId.{TyId}
use Rattle.mir_syntax.specs.declared.types.ScalarTy.{ScalarTy}
use Rattle.mir_syntax.specs.declared.types.ScalarTy.TheVariants as scalar_ty
use Rattle.mir_syntax.specs.declared.types.Outside.{Outside}
use Rattle.mir_syntax.specs.declared.body.Place.{Place}
use Rattle.mir_syntax.specs.declared.body.Operand.{Operand}
use Rattle.mir_syntax.specs.declared.body.Function.{Function}
use Rattle.mir_syntax.specs.declared.body.Callee.{Callee}
use Rattle.mir_syntax.specs.declared.body.Callee.TheVariants as callee
use Rattle.mir_syntax.specs.declared.body.Arm.{Arm}
use Rattle.mir_syntax.specs.declared.body.Term.{Term}
use Rattle.mir_syntax.specs.declared.body.Term.TheVariants as term
use Rattle.mir_syntax.specs.declared.program.Program.{Program}
use Rattle.mir_syntax.specs.Tree.{Tree, scalar, empty, more, ref, ref_mut, named, at_id, trees_of, tuple_of}
use Rattle.mir_syntax.specs.Crate.{Crate, crate_of, function_of, outside_of}
use Rattle.mir_syntax.specs.Shapes.{Shape, place_ty, ◌>>=◌}
use Rattle.mir_syntax.specs.Table.{all_below}
use Rattle.mir_syntax.specs.Ids.{IdsInTable, function_below, outside_below}
use Rattle.mir_syntax.proofs.InTable.{all-at}
use Rattle.mir_rules.proofs.Lists.{and_true-left, and_true-right}
use Rattle.mir_rules.specs.Same.{same_tree}
use Rattle.mir_syntax.specs.Parts.{arm_block, term_operands, term_places}
use Rattle.mir_rules.specs.Formed.{callee_formed}
use Rattle.mir_rules.specs.Typing.{bool_ty, scalar_of, operand_ty, operands_ty, callee_args_ty, callee_result_ty}
use Rattle.mir_rules.specs.BodyRules.{differ, arm_value, has_twice, breaks_v05, breaks_v06, breaks_v20, breaks_v21, breaks_v22}
use Rattle.mir_rules.specs.Broken.{if_broken, own_broken, operands_broken, terminator_broken}
use Rattle.mir_validate.specs.Codes.{place_untyped, operand_untyped, has_type, have_types, moves_code, first_code}
use Rattle.mir_validate.specs.Terms.{arm_goes_back, goes_back, term_untyped, term_any, scalar_operand, is_bool_scalar, agree, callee_takes, switch_broken, call_broken, assert_broken, ascends_from, ascends}
use Rattle.mir_validate.proofs.Seeing.{not_true}
use Rattle.mir_syntax.proofs.Binds.{bind_gone}
use Rattle.mir_validate.proofs.PartTypes.{have_types_is}
use Rattle.mir_validate.proofs.Values.{or_none, any_append, untyped_operands, one_untyped, typed_parts, bind_there, below_there, unfit_none, unfit_some, first_append, first_front, moves_first}

map_any : {A B : Type 0} (q : B → Bool) (f : A → B) (xs : List A) → list_any q (map f xs) ≡ list_any (λ x. q (f x)) xs
map_any q f [] = refl
map_any q f (x ∷ xs) = ap (λ b. q (f x) || b) (map_any q f xs)

back_is : (t : Term) → goes_back t ≡ breaks_v05 t
back_is (term.Goto next) = sym (or_none (next == 0))
back_is (term.Switch a arms other) =
    sym (any_append (λ (i : ℕ). i == 0) (map arm_block arms) (other ∷ []) ∙ (ap (λ b. b || (other == 0 || false)) (map_any (λ (i : ℕ). i == 0) arm_block arms) ∙ ap (λ b. list_any arm_goes_back arms || b) (or_none (other == 0))))
back_is term.Return = refl
back_is term.Unreachable = refl
back_is (term.Drop p next) = sym (or_none (next == 0))
back_is (term.Call p who args next) = sym (or_none (next == 0))
back_is (term.Assert a expected text args next) = sym (or_none (next == 0))

untyped_term : (D : List Shape) (locals : List Tree) (t : Term) → term_untyped D locals t ≡ breaks_v06 D locals (term_places t)
untyped_term D locals (term.Goto next) = refl
untyped_term D locals (term.Switch a arms other) = one_untyped D locals a
untyped_term D locals term.Return = refl
untyped_term D locals term.Unreachable = refl
untyped_term D locals (term.Drop p next) = sym (or_none (place_untyped D locals p))
untyped_term D locals (term.Call p who args next) = ap (λ b. place_untyped D locals p || b) (sym (untyped_operands D locals args))
untyped_term D locals (term.Assert a expected text args next) = sym (untyped_operands D locals (a ∷ args))

pub any_of_term : (test : Operand → Bool) (t : Term) → term_any test t ≡ list_any test (term_operands t)
any_of_term test (term.Goto next) = refl
any_of_term test (term.Switch a arms other) = sym (or_none (test a))
any_of_term test term.Return = refl
any_of_term test term.Unreachable = refl
any_of_term test (term.Drop p next) = refl
any_of_term test (term.Call p who args next) = refl
any_of_term test (term.Assert a expected text args next) = refl

-- ---- switches

pub switch_unfit : (D : List Shape) (locals : List Tree) (a : Operand) (arms : List Arm) → operand_untyped D locals a ≡ false → None ≡ scalar_operand D locals a → Some 17 ≡ first_code (switch_broken D locals a arms)
switch_unfit D locals a arms h e = rw (unfit_none (operand_ty D locals a) scalar_of h (sym e)) refl

pub switch_arms : (D : List Shape) (locals : List Tree) (a : Operand) (arms : List Arm) (s : ScalarTy) (b : Bool) → Some s ≡ scalar_operand D locals a
    → b ≡ (has_twice (map arm_value arms) || list_any (λ v. not (nat_lt v (2 ^ width_of s))) (map arm_value arms))
    → first_code (if_broken b 18) ≡ first_code (switch_broken D locals a arms)
switch_arms D locals a arms s b e same = rw (unfit_some (operand_ty D locals a) scalar_of s (sym e), ← e, same) refl

-- ---- asserts

bool_tree : (t : Tree) → same_tree t bool_ty ≡ is_bool_scalar (scalar_of t)
unfolding same_tree
bool_tree (scalar scalar_ty.Bool) = refl
bool_tree (scalar (scalar_ty.Int i)) = refl
bool_tree empty = refl
bool_tree (more t ts) = refl
bool_tree (ref t) = refl
bool_tree (ref_mut t) = refl
bool_tree (named d) = refl

bool_there : (o : Option Tree) → is_none o ≡ false → differ o (Some bool_ty) ≡ not (is_bool_scalar (o >>= scalar_of))
unfolding ◌>>=◌
bool_there None h = absurd cc
bool_there (Some t) h = ap not (bool_tree t)

pub assert_first : (D : List Shape) (locals : List Tree) (a : Operand) (args : List Operand) → operand_untyped D locals a ≡ false → is_bool_scalar (scalar_operand D locals a) ≡ false → Some 19 ≡ first_code (assert_broken D locals a args)
assert_first D locals a args h e = rw (bool_there (operand_ty D locals a) h, e) refl

pub assert_args : (D : List Shape) (locals : List Tree) (a : Operand) (args : List Operand) (b : Bool) → operand_untyped D locals a ≡ false → is_bool_scalar (scalar_operand D locals a) ≡ true → b ≡ breaks_v20 D locals args
    → first_code (if_broken b 20) ≡ first_code (assert_broken D locals a args)
assert_args D locals a args b h e same = rw (bool_there (operand_ty D locals a) h, e, same) refl

-- ---- calls

pub agree_some : (o : Option Tree) (t : Tree) → has_type o t ≡ agree o (Some t)
agree_some None t = refl
agree_some (Some u) t = refl

pub agree_none : (o : Option Tree) → agree o None ≡ false
agree_none None = refl
agree_none (Some t) = refl

differ_is : (o p : Option Tree) → is_none o ≡ false → is_none p ≡ false → differ o p ≡ not (agree o p)
differ_is None p h k = absurd cc
differ_is (Some t) None h k = absurd cc
differ_is (Some t) (Some u) h k = refl

args_there : (C : Crate) (who : Callee) → callee_formed C who ≡ true → is_none (callee_args_ty C who) ≡ false
args_there C (callee.Local f) h = bind_there (slice_get C.functions f.0) _ (below_there C.functions f.0 (ltb-true f.0 (length C.functions) h))
args_there C (callee.Outside o) h = bind_there (slice_get C.outsides o.0) _ (below_there C.outsides o.0 (ltb-true o.0 (length C.outsides) h))

result_there : (C : Crate) (who : Callee) → callee_formed C who ≡ true → is_none (callee_result_ty C who) ≡ false
result_there C (callee.Local f) h = bind_there (slice_get C.functions f.0) _ (below_there C.functions f.0 (ltb-true f.0 (length C.functions) h))
result_there C (callee.Outside o) h = bind_there (slice_get C.outsides o.0) _ (below_there C.outsides o.0 (ltb-true o.0 (length C.outsides) h))

module _ (C : Crate) (D : List Shape) (locals : List Tree) (who : Callee) (args : List Operand) (p : Place) (formed : callee_formed C who ≡ true) (typed : list_any (operand_untyped D locals) args ≡ false) (there : place_untyped D locals p ≡ false) where
  first_is : (b : Bool) → b ≡ callee_takes C D locals who args → differ (operands_ty D locals args) (callee_args_ty C who) ≡ not b
  first_is b e = differ_is (operands_ty D locals args) (callee_args_ty C who) (typed_parts D locals args typed) (args_there C who formed) ∙ ap not (sym e)

  second_is : (b : Bool) → b ≡ agree (callee_result_ty C who) (place_ty D locals p) → differ (callee_result_ty C who) (place_ty D locals p) ≡ not b
  second_is b e = differ_is (callee_result_ty C who) (place_ty D locals p) (result_there C who formed) there ∙ ap not (sym e)

  pub call_args : false ≡ callee_takes C D locals who args → Some 15 ≡ first_code (call_broken C D locals who args p)
  call_args e = rw (first_is false e) refl

  pub call_result : (b : Bool) → true ≡ callee_takes C D locals who args → b ≡ agree (callee_result_ty C who) (place_ty D locals p) → first_code (if_broken (not b) 16) ≡ first_code (call_broken C D locals who args p)
  call_result b e f = rw (first_is true e, second_is b f) refl

-- ---- what a callee takes and returns

module _ (p : Program) where
  abbrev trees : List Tree
  trees = trees_of p.types

  function_at : (f : ℕ) (o : Option Function) → o ≡ slice_get p.functions f → slice_get (crate_of p).functions f ≡ option_map (function_of trees) o
  function_at f o h = slice_get-map (function_of trees) p.functions f ∙ ap (option_map (function_of trees)) (sym h)

  outside_at : (f : ℕ) (o : Option Outside) → o ≡ slice_get p.outsides f → slice_get (crate_of p).outsides f ≡ option_map (outside_of trees) o
  outside_at f o h = slice_get-map (outside_of trees) p.outsides f ∙ ap (option_map (outside_of trees)) (sym h)

  pub no_function : (f : ℕ) → None ≡ slice_get p.functions f → (callee_args_ty (crate_of p) (callee.Local (record { 0 = f })) ≡ None) × (callee_result_ty (crate_of p) (callee.Local (record { 0 = f })) ≡ None)
  no_function f h = (bind_gone _ _ (function_at f None h), bind_gone _ _ (function_at f None h))

  pub no_outside : (f : ℕ) → None ≡ slice_get p.outsides f → (callee_args_ty (crate_of p) (callee.Outside (record { 0 = f })) ≡ None) × (callee_result_ty (crate_of p) (callee.Outside (record { 0 = f })) ≡ None)
  no_outside f h = (bind_gone _ _ (outside_at f None h), bind_gone _ _ (outside_at f None h))

  pub function_args : (f : ℕ) (g : Function) → Some g ≡ slice_get p.functions f → callee_args_ty (crate_of p) (callee.Local (record { 0 = f })) ≡ Some (tuple_of (map (at_id trees) (take g.body.args (drop 1 g.body.locals))))
  unfolding ◌>>=◌
  function_args f g h = rw (function_at f (Some g) h, drop-map (at_id trees) 1 g.body.locals, take-map (at_id trees) g.body.args (drop 1 g.body.locals)) refl

  pub outside_args : (f : ℕ) (g : Outside) → Some g ≡ slice_get p.outsides f → callee_args_ty (crate_of p) (callee.Outside (record { 0 = f })) ≡ Some (tuple_of (map (at_id trees) g.args))
  unfolding ◌>>=◌
  outside_args f g h = rw (outside_at f (Some g) h) refl

  pub function_result : (f : ℕ) (g : Function) (id : TyId) → Some g ≡ slice_get p.functions f → Some id ≡ slice_get g.body.locals 0 → callee_result_ty (crate_of p) (callee.Local (record { 0 = f })) ≡ Some (at_id trees id)
  unfolding ◌>>=◌
  function_result f g id h e = rw (function_at f (Some g) h) (ap Some (first g.body.locals e))
    where
      first : (locals : List TyId) → Some id ≡ slice_get locals 0 → get_or (map (at_id trees) locals) 0 empty ≡ at_id trees id
      first [] e = absurd cc
      first (x ∷ xs) e = let same : id ≡ x = cc in ap (at_id trees) (sym same)

  pub function_unit : (f : ℕ) (g : Function) → Some g ≡ slice_get p.functions f → None ≡ slice_get g.body.locals 0 → callee_result_ty (crate_of p) (callee.Local (record { 0 = f })) ≡ Some empty
  unfolding ◌>>=◌
  function_unit f g h e = rw (function_at f (Some g) h) (ap Some (none g.body.locals e))
    where
      none : (locals : List TyId) → None ≡ slice_get locals 0 → get_or (map (at_id trees) locals) 0 empty ≡ empty
      none [] e = refl
      none (x ∷ xs) e = absurd cc

  pub outside_result : (f : ℕ) (g : Outside) → Some g ≡ slice_get p.outsides f → callee_result_ty (crate_of p) (callee.Outside (record { 0 = f })) ≡ Some (at_id trees g.result)
  unfolding ◌>>=◌
  outside_result f g h = rw (outside_at f (Some g) h) refl

-- ---- the whole

module _ (C : Crate) (D : List Shape) (locals : List Tree) (t : Term) where
  pub term_back : goes_back t ≡ true → Some 5 ≡ first_code (terminator_broken C D locals t)
  unfolding terminator_broken
  term_back h = rw (sym (back_is t) ∙ h) refl

  module _ (back : goes_back t ≡ false) where
    pub term_parts : term_untyped D locals t ≡ true → Some 6 ≡ first_code (terminator_broken C D locals t)
    unfolding terminator_broken
    term_parts h = rw (sym (back_is t) ∙ back, sym (untyped_term D locals t) ∙ h) refl

    rest_is : term_untyped D locals t ≡ false → terminator_broken C D locals t ≡ own_broken C D locals t ++ operands_broken D locals (term_operands t)
    unfolding terminator_broken
    rest_is h = rw (sym (back_is t) ∙ back, sym (untyped_term D locals t) ∙ h) refl

    pub term_own : (code : ℕ) → term_untyped D locals t ≡ false → Some code ≡ first_code (own_broken C D locals t) → Some code ≡ first_code (terminator_broken C D locals t)
    term_own code h found = rw (rest_is h) (first_front (own_broken C D locals t) _ code found)

    pub term_operands_moved : (a b : Bool) → term_untyped D locals t ≡ false → None ≡ first_code (own_broken C D locals t) → a ≡ breaks_v21 D locals (term_operands t) → b ≡ breaks_v22 D locals (term_operands t)
        → moves_code a b ≡ first_code (terminator_broken C D locals t)
    term_operands_moved a b h none ea eb = rw (rest_is h, first_append (own_broken C D locals t) (operands_broken D locals (term_operands t)) (sym none), ← ea, ← eb) (moves_first a b)

-- ---- values that are too wide

mod_small : (v m : ℕ) → v < m → v % m ≡ v
mod_small v m h = let e : 0 * m + v ≡ v = omega arith in ap (λ n. n % m) (sym e) ∙ mod-mul-add 0 m v h

fits_is : (v m : ℕ) → 0 < m → nat_eq (v % m) v ≡ nat_lt v m
fits_is v m positive = go (nat_lt v m) refl
  where
    go : (b : Bool) → nat_lt v m ≡ b → nat_eq (v % m) v ≡ nat_lt v m
    go true h = rw (h, mod_small v m (ltb-true v m h)) (eq-eqb v v refl)
    go false h = rw h (not_true (nat_eq (v % m) v) (λ e. absurd (omega (arith, eqb-true (v % m) v e, ltb-false v m h))))

pub fits_scalar : (t : ScalarTy) (v : ℕ) → nat_eq (wrap t v) v ≡ nat_lt v (2 ^ width_of t)
unfolding wrap
fits_scalar t v = fits_is v (2 ^ width_of t) (pow_pos (width_of t))

-- ---- ids of callees lie in the table

below_drop : (n : ℕ) (ids : List TyId) → IsTrue (all_below n ids) → IsTrue (all_below n (drop 1 ids))
below_drop n [] h = h
below_drop n (id ∷ ids) h = and_true-right (nat_lt id.0 n) (all_below n ids) h

below_take : (n k : ℕ) (ids : List TyId) → IsTrue (all_below n ids) → IsTrue (all_below n (take k ids))
below_take n zero ids h = refl
below_take n (suc k) [] h = h
below_take n (suc k) (id ∷ ids) h = rw (and_true-left (nat_lt id.0 n) (all_below n ids) h) (below_take n k ids (and_true-right (nat_lt id.0 n) (all_below n ids) h))

below_at : (n : ℕ) (ids : List TyId) (k : ℕ) (id : TyId) → IsTrue (all_below n ids) → Some id ≡ slice_get ids k → IsTrue (nat_lt id.0 n)
below_at n [] k id h e = absurd cc
below_at n (x ∷ ids) zero id h e = let same : x ≡ id = cc in rw same at (and_true-left (nat_lt x.0 n) (all_below n ids) h)
below_at n (x ∷ ids) (suc k) id h e = below_at n ids k id (and_true-right (nat_lt x.0 n) (all_below n ids) h) e

module _ (p : Program) (ids : IdsInTable p) where
  abbrev n : ℕ
  n = length p.types

  locals_below : (f : ℕ) (g : Function) → Some g ≡ slice_get p.functions f → IsTrue (all_below n g.body.locals)
  locals_below f g h = and_true-left (all_below n g.body.locals) _ (all-at (function_below n) p.functions f g ids.functions (sym h))

  pub args_below : (f : ℕ) (g : Function) → Some g ≡ slice_get p.functions f → IsTrue (all_below n (take g.body.args (drop 1 g.body.locals)))
  args_below f g h = below_take n g.body.args (drop 1 g.body.locals) (below_drop n g.body.locals (locals_below f g h))

  pub local_below : (f k : ℕ) (g : Function) (id : TyId) → Some g ≡ slice_get p.functions f → Some id ≡ slice_get g.body.locals k → IsTrue (nat_lt id.0 n)
  local_below f k g id h e = below_at n g.body.locals k id (locals_below f g h) e

  pub outside_args_below : (f : ℕ) (g : Outside) → Some g ≡ slice_get p.outsides f → IsTrue (all_below n g.args)
  outside_args_below f g h = and_true-left (all_below n g.args) (nat_lt g.result.0 n) (all-at (outside_below n) p.outsides f g ids.outsides (sym h))

  pub outside_result_below : (f : ℕ) (g : Outside) → Some g ≡ slice_get p.outsides f → IsTrue (nat_lt g.result.0 n)
  outside_result_below f g h = and_true-right (all_below n g.args) (nat_lt g.result.0 n) (all-at (outside_below n) p.outsides f g ids.outsides (sym h))

pub takes_these : (D : List Shape) (locals : List Tree) (args : List Operand) (ts : List Tree) (o : Option Tree) → o ≡ Some (tuple_of ts) → have_types D locals args ts ≡ agree (operands_ty D locals args) o
takes_these D locals args ts o e = rw e (have_types_is D locals args ts ∙ agree_some (operands_ty D locals args) (tuple_of ts))

-- ---- values that ascend

none_below : (v w : ℕ) (us : List ℕ) → w ≤ v → ascends_from v us ≡ true → list_any (λ u. u == w) us ≡ false
none_below v w [] h e = refl
none_below v w (u ∷ us) h e =
    let above : v < u = ltb-true v u (and_true-left (nat_lt v u) (ascends_from u us) e) in
    let apart : (u == w) ≡ false = not_true (u == w) (λ same. absurd (omega (arith, eqb-true u w same))) in
    rw apart (none_below u w us (omega arith) (and_true-right (nat_lt v u) (ascends_from u us) e))

once_from : (v : ℕ) (us : List ℕ) → ascends_from v us ≡ true → has_twice (v ∷ us) ≡ false
once_from v [] e = refl
once_from v (u ∷ us) e = rw (none_below v v (u ∷ us) (omega arith) e) (once_from u us (and_true-right (nat_lt v u) (ascends_from u us) e))

pub ascends_once : (vs : List ℕ) → ascends vs ≡ true → has_twice vs ≡ false
ascends_once [] e = refl
ascends_once (v ∷ vs) e = once_from v vs e
