-- What a value breaks whose parts have types.
use Rattle.std.proofs.Common.{◌≡◌, ℕ, zero, suc, ◌<◌, ◌≤◌, Bool, true, false, not, ◌||◌, is_none, List, [], ◌∷◌, ◌++◌, flat_map, length, slice_get, Option, Some, None, refl, sym, ap, ◌∙◌, arith}
use Rattle.std.specs.Bool.{then_some}
use Rattle.std.specs.List.{list_any}
use Rattle.std.specs.Option.{option_map}
use Rattle.mir_syntax.specs.declared.types.TyId.{TyId}
use Rattle.mir_syntax.specs.declared.types.Ty.{Ty}
use Rattle.mir_syntax.specs.declared.types.Ty.TheVariants.{Tuple}
use Rattle.mir_syntax.specs.declared.body.Place.{Place}
use Rattle.mir_syntax.specs.declared.body.Operand.{Operand}
use Rattle.mir_syntax.specs.declared.body.Operand.TheVariants as operand
use Rattle.mir_syntax.specs.declared.body.Rvalue.{Rvalue}
use Rattle.mir_syntax.specs.declared.body.Rvalue.TheVariants as rvalue
use Rattle.mir_syntax.specs.Tree.{Tree, more, node}
use Rattle.mir_syntax.specs.Crate.{TypedRvalue, rvalue_of, assign, set_discriminant}
use Rattle.mir_syntax.specs.Shapes.{Shape, place_ty, needs_drop, ◌>>=◌}
use Rattle.mir_rules.specs.Same.{same_tree}
use Rattle.mir_syntax.specs.Parts.{operand_places, rvalue_operands, rvalue_places}
use Rattle.mir_rules.specs.BodyRules.{unfit, unfit_pair, differ, breaks_v06, breaks_v21, breaks_v22}
use Rattle.mir_rules.specs.Broken.{if_broken, rvalue_broken, operands_broken, statement_broken}
use Rattle.mir_rules.specs.Typing.{operand_ty, operands_ty, rvalue_ty, enum_of}
use Rattle.mir_rules.proofs.Lists.{or_false-left, or_false-right}
use Rattle.mir_validate.specs.Codes.{place_untyped, operand_untyped, parts_untyped, untupled_ty, has_type, rvalue_any, own_rule, value_broken, variant_count, moves_code, first_code}
use Rattle.drop_tables.proofs.HeadersOf.{not_unit}
use Rattle.mir_validate.proofs.Seeing.{not_tuple}

-- ---- tests of all parts

pub or_none : (a : Bool) → (a || false) ≡ a
or_none true = refl
or_none false = refl

pub any_append : {A : Type 0} (test : A → Bool) (xs ys : List A) → list_any test (xs ++ ys) ≡ (list_any test xs || list_any test ys)
any_append test [] ys = refl
any_append test (x ∷ xs) ys = ap (λ b. test x || b) (any_append test xs ys) ∙ or_assoc (test x) (list_any test xs) (list_any test ys)
  where
    or_assoc : (a b d : Bool) → (a || (b || d)) ≡ ((a || b) || d)
    or_assoc true b d = refl
    or_assoc false b d = refl

pub any_of_value : (test : Operand → Bool) (trees : List Tree) (r : Rvalue) → rvalue_any test r ≡ list_any test (rvalue_operands (rvalue_of trees r))
any_of_value test trees (rvalue.Use a) = sym (or_none (test a))
any_of_value test trees (rvalue.Binary op a b) = ap (λ x. test a || x) (sym (or_none (test b)))
any_of_value test trees (rvalue.Overflow op a b) = ap (λ x. test a || x) (sym (or_none (test b)))
any_of_value test trees (rvalue.Unary op a) = sym (or_none (test a))
any_of_value test trees (rvalue.Cast a ty) = sym (or_none (test a))
any_of_value test trees (rvalue.Ref p) = refl
any_of_value test trees (rvalue.RefMut p) = refl
any_of_value test trees (rvalue.Discriminant p) = refl
any_of_value test trees (rvalue.Tuple parts) = refl
any_of_value test trees (rvalue.Build d v parts) = refl

module _ (D : List Shape) (locals : List Tree) where
  untyped_operand : (a : Operand) → list_any (place_untyped D locals) (operand_places a) ≡ operand_untyped D locals a
  unfolding operand_ty
  untyped_operand (operand.Copy p) = or_none (place_untyped D locals p)
  untyped_operand (operand.Move p) = or_none (place_untyped D locals p)
  untyped_operand (operand.Const value) = refl

  pub untyped_operands : (parts : List Operand) → breaks_v06 D locals (flat_map operand_places parts) ≡ list_any (operand_untyped D locals) parts
  untyped_operands [] = refl
  untyped_operands (a ∷ parts) = any_append (place_untyped D locals) (operand_places a) (flat_map operand_places parts) ∙ (ap (λ b. b || list_any (place_untyped D locals) (flat_map operand_places parts)) (untyped_operand a) ∙ ap (λ b. operand_untyped D locals a || b) (untyped_operands parts))

  pub one_untyped : (a : Operand) → operand_untyped D locals a ≡ breaks_v06 D locals (flat_map operand_places (a ∷ []))
  one_untyped a = sym (untyped_operands (a ∷ []) ∙ or_none (operand_untyped D locals a))

  two : (a b : Operand) → (operand_untyped D locals a || operand_untyped D locals b) ≡ breaks_v06 D locals (flat_map operand_places (a ∷ b ∷ []))
  two a b = sym (untyped_operands (a ∷ b ∷ []) ∙ ap (λ x. operand_untyped D locals a || x) (or_none (operand_untyped D locals b)))

  pub untyped_value : (trees : List Tree) (r : Rvalue) → parts_untyped D locals r ≡ breaks_v06 D locals (rvalue_places (rvalue_of trees r))
  untyped_value trees (rvalue.Use a) = one_untyped a
  untyped_value trees (rvalue.Binary op a b) = two a b
  untyped_value trees (rvalue.Overflow op a b) = two a b
  untyped_value trees (rvalue.Unary op a) = one_untyped a
  untyped_value trees (rvalue.Cast a ty) = one_untyped a
  untyped_value trees (rvalue.Ref p) = sym (or_none (place_untyped D locals p))
  untyped_value trees (rvalue.RefMut p) = sym (or_none (place_untyped D locals p))
  untyped_value trees (rvalue.Discriminant p) = sym (or_none (place_untyped D locals p))
  untyped_value trees (rvalue.Tuple parts) = sym (untyped_operands parts)
  untyped_value trees (rvalue.Build d v parts) = sym (untyped_operands parts)

  -- operands that have types have one together
  parts_there : (o p : Option Tree) → is_none o ≡ false → is_none p ≡ false → is_none (o >>= λ t. p >>= λ ts. Some (more t ts)) ≡ false
  unfolding ◌>>=◌
  parts_there None p h k = absurd cc
  parts_there (Some t) None h k = absurd cc
  parts_there (Some t) (Some ts) h k = refl

  pub typed_parts : (parts : List Operand) → list_any (operand_untyped D locals) parts ≡ false → is_none (operands_ty D locals parts) ≡ false
  unfolding operands_ty
  typed_parts [] h = refl
  typed_parts (a ∷ parts) h =
      parts_there (operand_ty D locals a) (operands_ty D locals parts) (or_false-left (operand_untyped D locals a) (list_any (operand_untyped D locals) parts) h) (typed_parts parts (or_false-right (operand_untyped D locals a) (list_any (operand_untyped D locals) parts) h))

-- ---- what is made of what is there

pub unfit_none : {A B : Type 0} (o : Option A) (make : A → Option B) → is_none o ≡ false → (o >>= make) ≡ None → unfit o make ≡ true
unfolding ◌>>=◌
unfit_none None make h e = absurd cc
unfit_none (Some a) make h e = rw e refl

pub unfit_some : {A B : Type 0} (o : Option A) (make : A → Option B) (b : B) → (o >>= make) ≡ Some b → unfit o make ≡ false
unfolding ◌>>=◌
unfit_some None make b e = refl
unfit_some (Some a) make b e = rw e refl

pair_none : {A B X : Type 0} (o : Option A) (p : Option B) (make : A → B → Option X) → (is_none o || is_none p) ≡ false → (o >>= λ a. p >>= make a) ≡ None → unfit_pair o p make ≡ true
unfolding ◌>>=◌
pair_none None p make h e = absurd cc
pair_none (Some a) p make h e = unfit_none p (make a) h e

pair_some : {A B X : Type 0} (o : Option A) (p : Option B) (make : A → B → Option X) (x : X) → (o >>= λ a. p >>= make a) ≡ Some x → unfit_pair o p make ≡ false
unfolding ◌>>=◌
pair_some None p make x e = refl
pair_some (Some a) p make x e = unfit_some p (make a) x e

pub bind_there : {A B : Type 0} (o : Option A) (f : A → B) → is_none o ≡ false → is_none (o >>= λ a. Some (f a)) ≡ false
unfolding ◌>>=◌
bind_there None f h = absurd cc
bind_there (Some a) f h = refl

gone : {A : Type 0} (o : Option A) → is_none o ≡ false → o ≡ None → ⊥
gone None h e = absurd cc
gone (Some a) h e = cc

module _ (D : List Shape) (locals : List Tree) (trees : List Tree) where
  -- an rvalue without a type breaks its own rule
  pub value_unfit : (r : Rvalue) → ((parts : List Operand) → r ≡ rvalue.Tuple parts → ⊥) → parts_untyped D locals r ≡ false → None ≡ untupled_ty D locals (rvalue_of trees r)
      → rvalue_broken D locals (rvalue_of trees r) ≡ own_rule r ∷ []
  unfolding rvalue_broken rvalue_ty
  value_unfit (rvalue.Use a) other h e = absurd (gone (operand_ty D locals a) h (sym e))
  value_unfit (rvalue.Binary op a b) other h e = ap (λ x. if_broken x 9) (pair_none (operand_ty D locals a) (operand_ty D locals b) _ h (sym e))
  value_unfit (rvalue.Overflow op a b) other h e = ap (λ x. if_broken x 9) (pair_none (operand_ty D locals a) (operand_ty D locals b) _ h (sym e))
  value_unfit (rvalue.Unary op a) other h e = ap (λ x. if_broken x 10) (unfit_none (operand_ty D locals a) _ h (sym e))
  value_unfit (rvalue.Cast a ty) other h e = ap (λ x. if_broken x 11) (unfit_none (operand_ty D locals a) _ h (sym e))
  value_unfit (rvalue.Ref p) other h e = absurd (gone _ (bind_there (place_ty D locals p) _ h) (sym e))
  value_unfit (rvalue.RefMut p) other h e = absurd (gone _ (bind_there (place_ty D locals p) _ h) (sym e))
  value_unfit (rvalue.Discriminant p) other h e = ap (λ x. if_broken x 13) (unfit_none (place_ty D locals p) _ h (sym e))
  value_unfit (rvalue.Tuple parts) other h e = absurd (other parts refl)
  value_unfit (rvalue.Build d v parts) other h e = ap (λ x. if_broken x 12) (unfit_none (operands_ty D locals parts) _ (typed_parts D locals parts h) (sym e))

  -- and one with a type doesn't
  pub value_fits : (r : Rvalue) (t : Tree) → Some t ≡ untupled_ty D locals (rvalue_of trees r) → (rvalue_broken D locals (rvalue_of trees r) ≡ []) × (rvalue_ty D locals (rvalue_of trees r) ≡ Some t)
  unfolding rvalue_broken rvalue_ty
  value_fits (rvalue.Use a) t e = (refl, sym e)
  value_fits (rvalue.Binary op a b) t e = (ap (λ x. if_broken x 9) (pair_some (operand_ty D locals a) (operand_ty D locals b) _ t (sym e)), sym e)
  value_fits (rvalue.Overflow op a b) t e = (ap (λ x. if_broken x 9) (pair_some (operand_ty D locals a) (operand_ty D locals b) _ t (sym e)), sym e)
  value_fits (rvalue.Unary op a) t e = (ap (λ x. if_broken x 10) (unfit_some (operand_ty D locals a) _ t (sym e)), sym e)
  value_fits (rvalue.Cast a ty) t e = (ap (λ x. if_broken x 11) (unfit_some (operand_ty D locals a) _ t (sym e)), sym e)
  value_fits (rvalue.Ref p) t e = (refl, sym e)
  value_fits (rvalue.RefMut p) t e = (refl, sym e)
  value_fits (rvalue.Discriminant p) t e = (ap (λ x. if_broken x 13) (unfit_some (place_ty D locals p) _ t (sym e)), sym e)
  value_fits (rvalue.Tuple parts) t e = absurd cc
  value_fits (rvalue.Build d v parts) t e = (ap (λ x. if_broken x 12) (unfit_some (operands_ty D locals parts) _ t (sym e)), sym e)

-- ---- as a value of a type

pub code_unfit : (D : List Shape) (locals trees : List Tree) (r : Rvalue) (u : Tree) → ((parts : List Operand) → r ≡ rvalue.Tuple parts → ⊥) → parts_untyped D locals r ≡ false → None ≡ untupled_ty D locals (rvalue_of trees r)
    → Some (own_rule r) ≡ first_code (value_broken D locals (rvalue_of trees r) u)
code_unfit D locals trees r u other h e = rw (value_unfit D locals trees r other h e) refl

pub code_fits : (D : List Shape) (locals trees : List Tree) (r : Rvalue) (t u : Tree) (b : Bool) → Some t ≡ untupled_ty D locals (rvalue_of trees r) → b ≡ same_tree t u
    → first_code (if_broken (not b) 14) ≡ first_code (value_broken D locals (rvalue_of trees r) u)
code_fits D locals trees r t u b e same =
    let fits = value_fits D locals trees r t e in
    rw (fits.0, fits.1, ← same) refl

pub code_tuple : (D : List Shape) (locals trees : List Tree) (parts : List Operand) (u : Tree) (b : Bool) → list_any (operand_untyped D locals) parts ≡ false → b ≡ has_type (operands_ty D locals parts) u
    → first_code (if_broken (not b) 14) ≡ first_code (value_broken D locals (rvalue_of trees (rvalue.Tuple parts)) u)
unfolding rvalue_broken rvalue_ty
code_tuple D locals trees parts u b h same = go (operands_ty D locals parts) refl
  where
    go : (o : Option Tree) → operands_ty D locals parts ≡ o → first_code (if_broken (not b) 14) ≡ first_code (if_broken (differ (operands_ty D locals parts) (Some u)) 14)
    go None e = absurd (gone (operands_ty D locals parts) (typed_parts D locals parts h) e)
    go (Some t) e = rw (same, e) refl

tuple_made : (o p : Option Tree) → ((trees : List Tree) (ty : Ty) → ((ids : List TyId) → ty ≡ Tuple ids → ⊥) → has_type (o >>= λ t. p >>= λ ts. Some (more t ts)) (node trees ty) ≡ false)
unfolding ◌>>=◌
tuple_made None p trees ty h = refl
tuple_made (Some t) None trees ty h = refl
tuple_made (Some t) (Some ts) trees ty h = not_tuple trees t ts ty h

pub no_tuple : (D : List Shape) (locals trees : List Tree) (parts : List Operand) (ty : Ty) → ((ids : List TyId) → ty ≡ Tuple ids → ⊥) → has_type (operands_ty D locals parts) (node trees ty) ≡ false
unfolding operands_ty
no_tuple D locals trees [] ty h = not_unit trees ty h
no_tuple D locals trees (a ∷ parts) ty h = tuple_made (operand_ty D locals a) (operands_ty D locals parts) trees ty h

-- ---- an assignment

pub first_append : (xs ys : List ℕ) → first_code xs ≡ None → first_code (xs ++ ys) ≡ first_code ys
first_append [] ys h = refl
first_append (x ∷ xs) ys h = absurd cc

pub first_front : (xs ys : List ℕ) (code : ℕ) → Some code ≡ first_code xs → Some code ≡ first_code (xs ++ ys)
first_front [] ys code h = absurd cc
first_front (x ∷ xs) ys code h = h

append_append : (xs ys zs : List ℕ) → (xs ++ ys) ++ zs ≡ xs ++ (ys ++ zs)
append_append [] ys zs = refl
append_append (x ∷ xs) ys zs = ap (λ l. x ∷ l) (append_append xs ys zs)

pub moves_first : (a b : Bool) → moves_code a b ≡ first_code (if_broken a 21 ++ if_broken b 22)
moves_first true b = refl
moves_first false true = refl
moves_first false false = refl

module _ (D : List Shape) (locals trees : List Tree) (args : ℕ) (p : Place) (r : Rvalue) where
  abbrev v : TypedRvalue
  v = rvalue_of trees r

  pub assign_place : None ≡ place_ty D locals p → Some 6 ≡ first_code (statement_broken D args locals (assign p v))
  unfolding statement_broken
  assign_place e = rw (← e) refl

  untyped_all : breaks_v06 D locals (rvalue_places v) ≡ true → breaks_v06 D locals (p ∷ rvalue_places v) ≡ true
  untyped_all h = rw h (or_true (place_untyped D locals p))
    where
      or_true : (a : Bool) → (a || true) ≡ true
      or_true true = refl
      or_true false = refl

  pub assign_parts : parts_untyped D locals r ≡ true → Some 6 ≡ first_code (statement_broken D args locals (assign p v))
  unfolding statement_broken
  assign_parts e = rw (untyped_all (sym (untyped_value D locals trees r) ∙ e)) refl

  rest_is : (u : Tree) → Some u ≡ place_ty D locals p → parts_untyped D locals r ≡ false
      → statement_broken D args locals (assign p v) ≡ value_broken D locals v u ++ operands_broken D locals (rvalue_operands v)
  unfolding statement_broken
  rest_is u e h =
      let parts = sym (untyped_value D locals trees r) ∙ h in
      rw (← e, parts) (sym (append_append (rvalue_broken D locals v) (if_broken (differ (rvalue_ty D locals v) (Some u)) 14) (operands_broken D locals (rvalue_operands v))))

  pub assign_value : (u : Tree) (code : ℕ) → Some u ≡ place_ty D locals p → parts_untyped D locals r ≡ false → Some code ≡ first_code (value_broken D locals v u)
      → Some code ≡ first_code (statement_broken D args locals (assign p v))
  assign_value u code e h found = rw (rest_is u e h) (first_front (value_broken D locals v u) _ code found)

  pub assign_moves : (u : Tree) (a b : Bool) → Some u ≡ place_ty D locals p → parts_untyped D locals r ≡ false → None ≡ first_code (value_broken D locals v u)
      → a ≡ breaks_v21 D locals (rvalue_operands v) → b ≡ breaks_v22 D locals (rvalue_operands v)
      → moves_code a b ≡ first_code (statement_broken D args locals (assign p v))
  assign_moves u a b e h none ea eb = rw (rest_is u e h, first_append (value_broken D locals v u) (operands_broken D locals (rvalue_operands v)) (sym none), ← ea, ← eb) (moves_first a b)

-- ---- a discriminant that is set

pub below_there : {A : Type 0} (xs : List A) (i : ℕ) → i < length xs → is_none (slice_get xs i) ≡ false
below_there [] i h = absurd (omega arith)
below_there (x ∷ xs) zero h = refl
below_there (x ∷ xs) (suc i) h = below_there xs i (omega arith)

past_none : {A : Type 0} (xs : List A) (i : ℕ) → length xs ≤ i → is_none (slice_get xs i) ≡ true
past_none [] i h = refl
past_none (x ∷ xs) zero h = absurd (omega arith)
past_none (x ∷ xs) (suc i) h = past_none xs i (omega arith)

module _ (D : List Shape) (args : ℕ) (locals : List Tree) (p : Place) (k : ℕ) where
  pub set_place : None ≡ place_ty D locals p → Some 6 ≡ first_code (statement_broken D args locals (set_discriminant p k))
  unfolding statement_broken
  set_place e = rw (← e) refl

  module _ (t : Tree) (there : Some t ≡ place_ty D locals p) where
    pub set_unfit : None ≡ option_map variant_count (enum_of D t) → Some 24 ≡ first_code (statement_broken D args locals (set_discriminant p k))
    unfolding statement_broken ◌>>=◌
    set_unfit e = rw (← there) (go (enum_of D t) refl)
      where
        go : (o : Option Shape) → enum_of D t ≡ o → Some 24 ≡ first_code (if_broken (is_none (enum_of D t >>= λ s. then_some (not (needs_drop D t)) s)) 24 ++ if_broken (unfit (enum_of D t) (λ s. slice_get s.variants k)) 25)
        go None f = rw f refl
        go (Some s) f = let no : None ≡ Some (variant_count s) = e ∙ ap (option_map variant_count) f in absurd cc

    set_by : (s : Shape) (needs absent : Bool) → enum_of D t ≡ Some s → needs_drop D t ≡ needs → is_none (slice_get s.variants k) ≡ absent
        → first_code (if_broken needs 24 ++ if_broken absent 25) ≡ first_code (statement_broken D args locals (set_discriminant p k))
    unfolding statement_broken ◌>>=◌
    set_by s true absent f g h = rw (← there, f, g) refl
    set_by s false absent f g h = rw (← there, f, g, h) refl

    enum_is : (n : ℕ) → Some n ≡ option_map variant_count (enum_of D t) → (s : Shape) × (enum_of D t ≡ Some s) × (n ≡ length s.variants)
    enum_is n e = go (enum_of D t) refl
      where
        go : (o : Option Shape) → enum_of D t ≡ o → (s : Shape) × (enum_of D t ≡ Some s) × (n ≡ length s.variants)
        go None f = let no : Some n ≡ None = e ∙ ap (option_map variant_count) f in absurd cc
        go (Some s) f = let is : Some n ≡ Some (variant_count s) = e ∙ ap (option_map variant_count) f in let same : n ≡ variant_count s = cc in (s, f, same)

    pub set_needs : (n : ℕ) → Some n ≡ option_map variant_count (enum_of D t) → needs_drop D t ≡ true → Some 24 ≡ first_code (statement_broken D args locals (set_discriminant p k))
    set_needs n e g = let is = enum_is n e in set_by is.0 true (is_none (slice_get is.0.variants k)) is.1 g refl

    pub set_fits : (n : ℕ) → Some n ≡ option_map variant_count (enum_of D t) → needs_drop D t ≡ false → k < n → None ≡ first_code (statement_broken D args locals (set_discriminant p k))
    set_fits n e g h =
        let is = enum_is n e in
        let same : n ≡ length is.0.variants = is.2 in
        set_by is.0 false false is.1 g (below_there is.0.variants k (omega arith))

    pub set_past : (n : ℕ) → Some n ≡ option_map variant_count (enum_of D t) → needs_drop D t ≡ false → n ≤ k → Some 25 ≡ first_code (statement_broken D args locals (set_discriminant p k))
    set_past n e g h =
        let is = enum_is n e in
        let same : n ≡ length is.0.variants = is.2 in
        set_by is.0 false true is.1 g (past_none is.0.variants k (omega arith))
