-- The locals that nothing holds whole are those of which the definition allows each use.
use Rattle.std.proofs.Common.{◌≡◌, ◌⊎◌, inl, inr, refl, sym, ap, ap₂, ◌∙◌, ℕ, ◌+◌, Bool, true, false, not, ◌&&◌, ◌||◌, ◌==◌, nat_eq, nat_lt, if◌then◌else◌, List, [], ◌∷◌, ◌++◌, map, set, length, get_or, arith}
use Rattle.std.specs.List.{flat_map, list_all, range_with_len}
use Rattle.std.proofs.lemmas.Bool.{cases_eq, eq-eqb, ne_eqb, eqb-true}
use Rattle.std.proofs.lemmas.List.{append-nil, length-map}
use Rattle.std.proofs.lemmas.List.Folds.{list_all-append}
use Rattle.std.proofs.lemmas.List.FromFn.{get_or-map-range_with_len, length-range_with_len}
use Rattle.bit_rows.specs.Rows.{row_at, marked, stands}
use Rattle.bit_rows.proofs.Marks.{marked-at}
use Rattle.mir_syntax.specs.declared.body.Place.{Place}
use Rattle.mir_syntax.specs.declared.body.Operand.{Operand}
use Rattle.mir_syntax.specs.declared.body.Operand.TheVariants as operand
use Rattle.mir_syntax.specs.declared.body.Rvalue.{Rvalue}
use Rattle.mir_syntax.specs.declared.body.Rvalue.TheVariants as rvalue
use Rattle.mir_syntax.specs.declared.body.Stmt.{Stmt}
use Rattle.mir_syntax.specs.declared.body.Stmt.TheVariants as stmt
use Rattle.mir_syntax.specs.declared.body.Term.{Term}
use Rattle.mir_syntax.specs.declared.body.Term.TheVariants as term
use Rattle.mir_syntax.specs.declared.body.Block.{Block}
use Rattle.mir_syntax.specs.Tree.{Tree}
use Rattle.mir_syntax.specs.Crate.{TypedBody, rvalue_of, stmt_of, block_of}
use Rattle.mir_syntax.specs.Shapes.{Shape}
use Rattle.mir_syntax.specs.Parts.{has_deref, begins_with_field, operand_places, rvalue_places, term_places}
use Rattle.escape_info.specs.Borrowed.{borrowed}
use Rattle.sroa_pass.specs.Split.{field_types, is_nil, is_of, is_apart, by_field, gives_fields, fills, hands_on, allows_stmt, allows_block}
use Rattle.sroa_pass.specs.Code.{held_place, held_operand, held_rvalue, operand_apart, fills_from, fills_whole, hands_place, held_target, held_source, held_stmt, held_term, held_block, MayBe}

and_one : (b : Bool) → (b && true) ≡ b
and_one true = refl
and_one false = refl

or_none : (b : Bool) → (b || false) ≡ b
or_none true = refl
or_none false = refl

or_all : (b : Bool) → (b || true) ≡ true
or_all true = refl
or_all false = refl

turned : (x y : ℕ) → (x == y) ≡ (y == x)
turned x y = go (cases_eq x y)
  where
    go : (x ≡ y) ⊎ (x ≡ y → ⊥) → (x == y) ≡ (y == x)
    go (inl e) = eq-eqb x y e ∙ sym (eq-eqb y x (sym e))
    go (inr ne) = ne_eqb x y ne ∙ sym (ne_eqb y x (λ e. ne (sym e)))

module _ (x : ℕ) where
  abbrev pub free : List ℕ → Bool
  free xs = not (stands x xs)

  free_append : (xs ys : List ℕ) → not (stands x (xs ++ ys)) ≡ (not (stands x xs) && not (stands x ys))
  free_append [] ys = refl
  free_append (z ∷ xs) ys = go (x == z) (free_append xs ys)
    where
      go : (b : Bool) → not (stands x (xs ++ ys)) ≡ (not (stands x xs) && not (stands x ys)) → not (b || stands x (xs ++ ys)) ≡ (not (b || stands x xs) && not (stands x ys))
      go true h = refl
      go false h = h

  free_place : (p : Place) → not (stands x (held_place p)) ≡ by_field x p
  free_place p = go (begins_with_field p.proj)
    where
      go : (b : Bool) → not (stands x (if b then [] else p.local ∷ [])) ≡ (not (nat_eq p.local x) || b)
      go true = sym (or_all (not (nat_eq p.local x)))
      go false = ap not (or_none (x == p.local) ∙ turned x p.local) ∙ sym (or_none (not (nat_eq p.local x)))

  free_operand : (o : Operand) → not (stands x (held_operand o)) ≡ list_all (by_field x) (operand_places o)
  free_operand (operand.Copy p) = free_place p ∙ sym (and_one (by_field x p))
  free_operand (operand.Move p) = free_place p ∙ sym (and_one (by_field x p))
  free_operand (operand.Const c) = refl

  free_one : (o : Operand) → not (stands x (held_operand o)) ≡ list_all (by_field x) (operand_places o ++ [])
  free_one o = free_operand o ∙ ap (list_all (by_field x)) (sym (append-nil (operand_places o)))

  free_two : (a b : Operand) → not (stands x (held_operand a ++ held_operand b)) ≡ list_all (by_field x) (operand_places a ++ (operand_places b ++ []))
  free_two a b = free_append (held_operand a) (held_operand b) ∙ ap₂ (λ c d. c && d) (free_operand a) (free_one b) ∙ sym (list_all-append (by_field x) (operand_places a) (operand_places b ++ []))

  free_operands : (os : List Operand) → not (stands x (flat_map held_operand os)) ≡ list_all (by_field x) (flat_map operand_places os)
  free_operands [] = refl
  free_operands (o ∷ os) =
      free_append (held_operand o) (flat_map held_operand os) ∙ ap₂ (λ c d. c && d) (free_operand o) (free_operands os)
      ∙ sym (list_all-append (by_field x) (operand_places o) (flat_map operand_places os))

  free_only : (p : Place) → not (stands x (held_place p)) ≡ list_all (by_field x) (p ∷ [])
  free_only p = free_place p ∙ sym (and_one (by_field x p))

  module _ (trees : List Tree) where
    free_rvalue : (r : Rvalue) → not (stands x (held_rvalue r)) ≡ list_all (by_field x) (rvalue_places (rvalue_of trees r))
    free_rvalue (rvalue.Use a) = free_one a
    free_rvalue (rvalue.Binary op a b) = free_two a b
    free_rvalue (rvalue.Overflow op a b) = free_two a b
    free_rvalue (rvalue.Unary op a) = free_one a
    free_rvalue (rvalue.Cast a ty) = free_one a
    free_rvalue (rvalue.Ref p) = free_only p
    free_rvalue (rvalue.RefMut p) = free_only p
    free_rvalue (rvalue.Discriminant p) = free_only p
    free_rvalue (rvalue.Tuple os) = free_operands os
    free_rvalue (rvalue.Build d k os) = free_operands os

    -- ---- assignments

    apart_same : (o : Operand) → operand_apart x o ≡ list_all (is_apart x) (operand_places o)
    apart_same (operand.Copy p) = sym (and_one (is_apart x p))
    apart_same (operand.Move p) = sym (and_one (is_apart x p))
    apart_same (operand.Const c) = refl

    all_apart_same : (os : List Operand) → list_all (operand_apart x) os ≡ list_all (is_apart x) (flat_map operand_places os)
    all_apart_same [] = refl
    all_apart_same (o ∷ os) = ap₂ (λ c d. c && d) (apart_same o) (all_apart_same os) ∙ sym (list_all-append (is_apart x) (operand_places o) (flat_map operand_places os))

    fills_same : (r : Rvalue) → fills_from x r ≡ (gives_fields (rvalue_of trees r) && list_all (is_apart x) (rvalue_places (rvalue_of trees r)))
    fills_same (rvalue.Use a) = apart_same a ∙ ap (list_all (is_apart x)) (sym (append-nil (operand_places a)))
    fills_same (rvalue.Binary op a b) = refl
    fills_same (rvalue.Overflow op a b) = refl
    fills_same (rvalue.Unary op a) = refl
    fills_same (rvalue.Cast a ty) = refl
    fills_same (rvalue.Ref p) = refl
    fills_same (rvalue.RefMut p) = refl
    fills_same (rvalue.Discriminant p) = refl
    fills_same (rvalue.Tuple os) = all_apart_same os
    fills_same (rvalue.Build d k os) = all_apart_same os

    -- a list that is left out where something holds
    unless_held : (c d l : Bool) (xs : List ℕ) → not (stands x xs) ≡ l → c ≡ d → not (stands x (if c then [] else xs)) ≡ (l || d)
    unless_held c true l xs h e = ap (λ c. not (stands x (if c then [] else xs))) e ∙ sym (or_all l)
    unless_held c false l xs h e = ap (λ c. not (stands x (if c then [] else xs))) e ∙ h ∙ sym (or_none l)

    -- and one that holds nothing of this local anyway
    never_held : (c d l : Bool) (xs : List ℕ) → not (stands x xs) ≡ l → l ≡ true → not (stands x (if c then [] else xs)) ≡ (l || d)
    never_held true d l xs h e = sym (ap (λ l. l || d) e)
    never_held false d l xs h e = h ∙ e ∙ sym (ap (λ l. l || d) e)

    free_target : (p : Place) (r : Rvalue) → not (stands x (held_target p r)) ≡ (by_field x p || fills x p (rvalue_of trees r))
    free_target p r = go (nat_eq p.local x) refl
      where
        go : (e : Bool) → nat_eq p.local x ≡ e → not (stands x (held_target p r)) ≡ (by_field x p || fills x p (rvalue_of trees r))
        go false q = never_held (fills_whole p r) (fills x p (rvalue_of trees r)) (by_field x p) (held_place p) (free_place p) (ap (λ e. not e || begins_with_field p.proj) q)
        go true q = unless_held (fills_whole p r) (fills x p (rvalue_of trees r)) (by_field x p) (held_place p) (free_place p)
            (ap (λ y. is_nil p.proj && fills_from y r) (eqb-true p.local x q) ∙ ap (λ b. is_nil p.proj && b) (fills_same r)
            ∙ ap (λ e. (e && is_nil p.proj) && (gives_fields (rvalue_of trees r) && list_all (is_apart x) (rvalue_places (rvalue_of trees r)))) (sym q))

    free_handed : (p q : Place) → not (stands x (if hands_place p q then [] else held_place q)) ≡ (list_all (by_field x) (q ∷ []) || ((is_of x q && is_nil q.proj) && (is_apart x p && not (has_deref p.proj))))
    free_handed p q = go (nat_eq q.local x) refl
      where
        handed : Bool
        handed = (is_of x q && is_nil q.proj) && (is_apart x p && not (has_deref p.proj))

        go : (e : Bool) → nat_eq q.local x ≡ e → not (stands x (if hands_place p q then [] else held_place q)) ≡ (list_all (by_field x) (q ∷ []) || ((is_of x q && is_nil q.proj) && (is_apart x p && not (has_deref p.proj))))
        go false k = never_held (hands_place p q) _ (list_all (by_field x) (q ∷ [])) (held_place q) (free_only q) (ap (λ e. (not e || begins_with_field q.proj) && true) k)
        go true k = unless_held (hands_place p q) _ (list_all (by_field x) (q ∷ [])) (held_place q) (free_only q)
            (ap (λ y. is_nil q.proj && (is_apart y p && not (has_deref p.proj))) (eqb-true q.local x k)
            ∙ ap (λ e. (e && is_nil q.proj) && (is_apart x p && not (has_deref p.proj))) (sym k))

    free_kept : (p : Place) (r : Rvalue) → not (stands x (held_rvalue r)) ≡ (list_all (by_field x) (rvalue_places (rvalue_of trees r)) || false)
    free_kept p r = free_rvalue r ∙ sym (or_none (list_all (by_field x) (rvalue_places (rvalue_of trees r))))

    free_source : (p : Place) (r : Rvalue) → not (stands x (held_source p r)) ≡ (list_all (by_field x) (rvalue_places (rvalue_of trees r)) || hands_on x p (rvalue_of trees r))
    free_source p (rvalue.Use (operand.Copy q)) = free_handed p q
    free_source p (rvalue.Use (operand.Move q)) = free_handed p q
    free_source p (rvalue.Use (operand.Const c)) = refl
    free_source p (rvalue.Binary op a b) = free_kept p (rvalue.Binary op a b)
    free_source p (rvalue.Overflow op a b) = free_kept p (rvalue.Overflow op a b)
    free_source p (rvalue.Unary op a) = free_kept p (rvalue.Unary op a)
    free_source p (rvalue.Cast a ty) = free_kept p (rvalue.Cast a ty)
    free_source p (rvalue.Ref q) = free_kept p (rvalue.Ref q)
    free_source p (rvalue.RefMut q) = free_kept p (rvalue.RefMut q)
    free_source p (rvalue.Discriminant q) = free_kept p (rvalue.Discriminant q)
    free_source p (rvalue.Tuple os) = free_kept p (rvalue.Tuple os)
    free_source p (rvalue.Build d k os) = free_kept p (rvalue.Build d k os)

    -- ---- statements, terminators, blocks

    free_stmt : (s : Stmt) → not (stands x (held_stmt s)) ≡ allows_stmt x (stmt_of trees s)
    free_stmt (stmt.Assign p r) = free_append (held_target p r) (held_source p r) ∙ ap₂ (λ c d. c && d) (free_target p r) (free_source p r)
    free_stmt (stmt.StorageLive y) = refl
    free_stmt (stmt.StorageDead y) = refl
    free_stmt (stmt.SetDiscriminant p k) = free_place p

    free_stmts : (ss : List Stmt) → not (stands x (flat_map held_stmt ss)) ≡ list_all (allows_stmt x) (map (stmt_of trees) ss)
    free_stmts [] = refl
    free_stmts (s ∷ ss) = free_append (held_stmt s) (flat_map held_stmt ss) ∙ ap₂ (λ c d. c && d) (free_stmt s) (free_stmts ss)

    free_term : (t : Term) → not (stands x (held_term t)) ≡ list_all (by_field x) (term_places t)
    free_term (term.Goto next) = refl
    free_term (term.Switch o arms other) = free_one o
    free_term term.Return = refl
    free_term term.Unreachable = refl
    free_term (term.Drop p next) = free_only p
    free_term (term.Call p callee os next) = free_append (held_place p) (flat_map held_operand os) ∙ ap₂ (λ c d. c && d) (free_place p) (free_operands os)
    free_term (term.Assert o expected words os next) =
        free_append (held_operand o) (flat_map held_operand os) ∙ ap₂ (λ c d. c && d) (free_operand o) (free_operands os)
        ∙ sym (list_all-append (by_field x) (operand_places o) (flat_map operand_places os))

    free_blocks : (ks : List Block) → not (stands x (flat_map held_block ks)) ≡ list_all (allows_block x) (map (block_of trees) ks)
    free_blocks [] = refl
    free_blocks (k ∷ ks) =
        free_append (held_block k) (flat_map held_block ks)
        ∙ ap₂ (λ c d. c && d) (free_append (flat_map held_stmt k.stmts) (held_term k.term) ∙ ap₂ (λ c d. c && d) (free_stmts k.stmts) (free_term k.term)) (free_blocks ks)

-- ---- the row

not_or : (a b : Bool) → not (a || b) ≡ (not a && not b)
not_or true b = refl
not_or false b = refl

last_moved : (a b c d e : Bool) → (a && ((b && e) && (c && d))) ≡ (a && (b && (c && (d && e))))
last_moved false b c d e = refl
last_moved true false c d e = refl
last_moved true true c d true = ap (λ d. c && d) (sym (and_one d))
last_moved true true c true false = sym (none c)
  where
    none : (c : Bool) → (c && false) ≡ false
    none true = refl
    none false = refl
last_moved true true c false false = sym (none c)
  where
    none : (c : Bool) → (c && false) ≡ false
    none true = refl
    none false = refl

-- the row of borrowed locals with those that something holds tells which locals may be split
pub may_be : (D : List Shape) (trees : List Tree) (b : TypedBody) (blocks : List Block) (held held2 : List (List Bool)) (n : ℕ) → b.blocks ≡ map (block_of trees) blocks → length b.locals ≡ n
    → held ≡ map (borrowed D b) (range_with_len 0 n) ∷ [] → held2 ≡ set held 0 (marked (row_at held 0) (flat_map held_block blocks)) → MayBe D b b.args (row_at held2 0)
may_be D trees b blocks held held2 n eb el e h x t l =
    let k = length (field_types D t) in
    let us = flat_map held_block blocks in
    let row = map (borrowed D b) (range_with_len 0 n) in
    let z = length-map (range_with_len 0 n) (borrowed D b) in
    let w = length-range_with_len 0 n in
    let bit : get_or (row_at held2 0) x false ≡ (borrowed D b x || stands x us) =
    ap (λ t. get_or (row_at t 0) x false) h ∙ ap (λ t. get_or (row_at (set t 0 (marked (row_at t 0) us)) 0) x false) e
    ∙ marked-at row us x (omega (arith, z, w, l, el))
    ∙ ap (λ c. c || stands x us) (get_or-map-range_with_len (borrowed D b) 0 n x x false (omega (arith, l, el)) (let z : 0 + x ≡ x = omega arith in z)) in
    sym (
    ap (λ c. nat_lt b.args x && (not c && (nat_lt 0 k && nat_lt k 17))) bit
    ∙ ap (λ c. nat_lt b.args x && (c && (nat_lt 0 k && nat_lt k 17))) (not_or (borrowed D b x) (stands x us) ∙ ap (λ c. not (borrowed D b x) && c) (free_blocks x trees blocks ∙ ap (list_all (allows_block x)) (sym eb)))
    ∙ last_moved (nat_lt b.args x) (not (borrowed D b x)) (nat_lt 0 k) (nat_lt k 17) (list_all (allows_block x) b.blocks)
    )
