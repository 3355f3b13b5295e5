-- The candidates that the code finds are those of the definition.
use Rattle.std.proofs.Common.{◌≡◌, refl, sym, ap, ap₂, ◌∙◌, ℕ, zero, suc, ◌<◌, Bool, true, false, cond, not, nat_eq, ◌&&◌, if◌then◌else◌, IsTrue, List, [], ◌∷◌, ◌++◌, map, length, get_or, Option, Some, None, option_map, slice_get, arith, eq-eqb, eqb-true}
use Rattle.std.specs.List.{All, filter, flat_map, range_with_len}
use Rattle.std.proofs.lemmas.List.{map-append, get_or-map, length-map}
use Rattle.std.proofs.lemmas.List.FromFn.{get_or-map-range_with_len}
use Rattle.std.proofs.lemmas.List.Elements.{filter-append}
use Rattle.std.proofs.lemmas.Bool.{and_parts}
use Rattle.std.proofs.lemmas.Option.{slice_get_within, slice_get-map}
use Rattle.mir_syntax.specs.declared.types.TyId.{TyId}
use Rattle.mir_syntax.specs.declared.types.Ty.{Ty}
use Rattle.mir_syntax.specs.declared.body.Stmt.{Stmt}
use Rattle.mir_syntax.specs.declared.body.Block.{Block}
use Rattle.mir_syntax.specs.declared.body.Body.{Body}
use Rattle.mir_syntax.specs.Table.{IsTable, all_below}
use Rattle.mir_syntax.specs.Tree.{Tree, at_id, trees_of}
use Rattle.mir_syntax.specs.Crate.{TypedBlock, TypedBody, stmt_of, block_of, body_of}
use Rattle.mir_syntax.specs.Shapes.{Shape}
use Rattle.mir_syntax.proofs.Bools.{same_tests}
use Rattle.mir_syntax.proofs.InTable.{ids-at}
use Rattle.mir_syntax.proofs.OneId.{one-id-each}
use Rattle.mir_rules.specs.Same.{same_tree}
use Rattle.mir_rules.proofs.Same.{same_tree_is, same_tree_refl}
use Rattle.escape_info.specs.Borrowed.{borrowed}
use Rattle.bit_rows.specs.Rows.{row_at}
use Rattle.dest_prop.specs.declared.candidates.LocalCopy.{LocalCopy}
use Rattle.dest_prop.specs.Merged.{Pair, copies, one_type, may_share, candidates}
use Rattle.dest_prop.specs.Code.{bare_copy, pair_of, one_id, bare_fits, where_fits, fitting, block_copies}
use Rattle.dest_prop.proofs.equal.Effects.{pairs_of, copies_are}

module _ (D : List Shape) (types : List Ty) (body : Body) (table : IsTable types) (below : IsTrue (all_below (length types) body.locals)) where
  abbrev b : TypedBody
  b = body_of (trees_of types) body

  abbrev lent : List Bool
  lent = map (borrowed D (body_of (trees_of types) body)) (range_with_len 0 (length body.locals))

  -- two ids stand for one type where they are one
  same_id : (a c : TyId) → a.0 < length types → c.0 < length types → same_tree (at_id (trees_of types) a) (at_id (trees_of types) c) ≡ nat_eq a.0 c.0
  same_id a c l m = same_tests (same_tree (at_id (trees_of types) a) (at_id (trees_of types) c)) (nat_eq a.0 c.0)
      (λ e. eq-eqb a.0 c.0 (ap (λ (t : TyId). t.0) (one-id-each types a c table l m (same_tree_is (at_id (trees_of types) a) (at_id (trees_of types) c) e))))
      (λ e. ap (λ (n : ℕ). same_tree (at_id (trees_of types) a) (at_id (trees_of types) (record { 0 = n }))) (sym (eqb-true a.0 c.0 e)) ∙ same_tree_refl (at_id (trees_of types) a))

  one_type_is : (o p : Option TyId) → ((a : TyId) → o ≡ Some a → a.0 < length types) → ((a : TyId) → p ≡ Some a → a.0 < length types) → one_type (option_map (at_id (trees_of types)) o) (option_map (at_id (trees_of types)) p) ≡ one_id o p
  one_type_is (Some a) (Some c) h k = same_id a c (h a refl) (k c refl)
  one_type_is (Some a) None h k = refl
  one_type_is None p h k = refl

  lent_is : (x : ℕ) → x < length body.locals → get_or (map (borrowed D (body_of (trees_of types) body)) (range_with_len 0 (length body.locals))) x false ≡ borrowed D (body_of (trees_of types) body) x
  lent_is x l = get_or-map-range_with_len (borrowed D b) 0 (length body.locals) x x false l (omega arith)

  fits_is : (c : LocalCopy) → may_share D (body_of (trees_of types) body) (pair_of c) ≡ bare_fits body.locals (map (borrowed D (body_of (trees_of types) body)) (range_with_len 0 (length body.locals))) c
  fits_is c = go (slice_get body.locals c.into) (slice_get body.locals c.from) refl refl
    where
      ids : (x : ℕ) (a : TyId) → slice_get body.locals x ≡ Some a → a.0 < length types
      ids x a e = ids-at (length types) body.locals x a below e

      types_are : one_type (slice_get (map (at_id (trees_of types)) body.locals) c.into) (slice_get (map (at_id (trees_of types)) body.locals) c.from) ≡ one_id (slice_get body.locals c.into) (slice_get body.locals c.from)
      types_are = ap₂ one_type (slice_get-map (at_id (trees_of types)) body.locals c.into) (slice_get-map (at_id (trees_of types)) body.locals c.from) ∙ one_type_is (slice_get body.locals c.into) (slice_get body.locals c.from) (ids c.into) (ids c.from)

      rest : Bool → Bool → Bool
      rest p q = not p && not q

      go : (o p : Option TyId) → slice_get body.locals c.into ≡ o → slice_get body.locals c.from ≡ p → (one_type (slice_get (map (at_id (trees_of types)) body.locals) c.into) (slice_get (map (at_id (trees_of types)) body.locals) c.from) && (not (borrowed D b c.into) && not (borrowed D b c.from))) ≡ (one_id (slice_get body.locals c.into) (slice_get body.locals c.from) && (not (get_or lent c.into false) && not (get_or lent c.from false)))
      go (Some a) (Some d) e f =
          ap (λ t. t && (not (borrowed D b c.into) && not (borrowed D b c.from))) types_are
          ∙ ap₂ (λ p q. one_id (slice_get body.locals c.into) (slice_get body.locals c.from) && (not p && not q)) (sym (lent_is c.into (slice_get_within body.locals c.into a e))) (sym (lent_is c.from (slice_get_within body.locals c.from d f)))
      go None p e f =
          ap (λ t. t && (not (borrowed D b c.into) && not (borrowed D b c.from))) (types_are ∙ ap (λ o. one_id o (slice_get body.locals c.from)) e)
          ∙ sym (ap (λ t. t && (not (get_or lent c.into false) && not (get_or lent c.from false))) (ap (λ o. one_id o (slice_get body.locals c.from)) e))
      go (Some a) None e f =
          ap (λ t. t && (not (borrowed D b c.into) && not (borrowed D b c.from))) (types_are ∙ ap₂ one_id e f)
          ∙ sym (ap (λ t. t && (not (get_or lent c.into false) && not (get_or lent c.from false))) (ap₂ one_id e f))

  stmt_is : (s : Stmt) → filter (may_share D (body_of (trees_of types) body)) (copies (stmt_of (trees_of types) s)) ≡ map pair_of (fitting body.locals (map (borrowed D (body_of (trees_of types) body)) (range_with_len 0 (length body.locals))) s)
  stmt_is s = ap (filter (may_share D b)) (copies_are (trees_of types) s) ∙ go (bare_copy s)
    where
      go : (o : Option LocalCopy) → filter (may_share D (body_of (trees_of types) body)) (pairs_of o) ≡ map pair_of (where_fits body.locals lent o)
      go None = refl
      go (Some c) = ap (λ t. cond t (pair_of c ∷ []) []) (fits_is c) ∙ turn (bare_fits body.locals lent c)
        where
          turn : (t : Bool) → cond t (pair_of c ∷ []) [] ≡ map pair_of (if t then c ∷ [] else [])
          turn true = refl
          turn false = refl

  stmts_are : (ss : List Stmt) → filter (may_share D (body_of (trees_of types) body)) (flat_map copies (map (stmt_of (trees_of types)) ss)) ≡ map pair_of (flat_map (fitting body.locals (map (borrowed D (body_of (trees_of types) body)) (range_with_len 0 (length body.locals)))) ss)
  stmts_are [] = refl
  stmts_are (s ∷ ss) =
      filter-append (may_share D b) (copies (stmt_of (trees_of types) s)) (flat_map copies (map (stmt_of (trees_of types)) ss))
      ∙ ap₂ (λ (xs ys : List Pair). xs ++ ys) (stmt_is s) (stmts_are ss)
      ∙ sym (map-append pair_of (fitting body.locals lent s) (flat_map (fitting body.locals lent) ss))

  blocks_are : (ks : List Block) → filter (may_share D (body_of (trees_of types) body)) (flat_map (λ (k : TypedBlock). flat_map copies k.stmts) (map (block_of (trees_of types)) ks)) ≡ map pair_of (flat_map (block_copies body.locals (map (borrowed D (body_of (trees_of types) body)) (range_with_len 0 (length body.locals)))) ks)
  blocks_are [] = refl
  blocks_are (k ∷ ks) =
      filter-append (may_share D b) (flat_map copies (map (stmt_of (trees_of types)) k.stmts)) (flat_map (λ (k : TypedBlock). flat_map copies k.stmts) (map (block_of (trees_of types)) ks))
      ∙ ap₂ (λ (xs ys : List Pair). xs ++ ys) (stmts_are k.stmts) (blocks_are ks)
      ∙ sym (map-append pair_of (block_copies body.locals lent k) (flat_map (block_copies body.locals lent) ks))

  pub candidates_are : (row : List (List Bool)) (found : List LocalCopy) → row ≡ map (borrowed D (body_of (trees_of types) body)) (range_with_len 0 (length body.locals)) ∷ [] → found ≡ flat_map (block_copies body.locals (row_at row 0)) body.blocks → map pair_of found ≡ candidates D (body_of (trees_of types) body)
  candidates_are row found e f = ap (map pair_of) (f ∙ ap (λ t. flat_map (block_copies body.locals (row_at t 0)) body.blocks) e) ∙ sym (blocks_are body.blocks)

passes : {A : Type 0} (p : A → Bool) (xs : List A) (i : ℕ) (d : A) → i < length (filter p xs) → p (get_or (filter p xs) i d) ≡ true
passes p [] i d l = absurd (omega arith)
passes {A = A} p (x ∷ xs) i d l = go (p x) refl i l (λ i l. passes p xs i d l)
  where
    go : (t : Bool) → p x ≡ t → (i : ℕ) → i < length (cond t (x ∷ filter p xs) (filter p xs)) → ((i : ℕ) → i < length (filter p xs) → p (get_or (filter p xs) i d) ≡ true) → p (get_or (cond t (x ∷ filter p xs) (filter p xs)) i d) ≡ true
    go true q zero l ih = q
    go true q (suc i) l ih = ih i (omega (arith, l))
    go false q i l ih = ih i l

-- the locals of a candidate are there
pub candidates_in : (D : List Shape) (b : TypedBody) (found : List LocalCopy) (n : ℕ) → map pair_of found ≡ candidates D b → length b.locals ≡ n → All (λ (c : LocalCopy). (c.into < n) × (c.from < n)) found
candidates_in D b found n e long = λ i d l. fitting_in (get_or found i d) (held i d l)
  where
    held : (i : ℕ) (d : LocalCopy) → i < length found → may_share D b (pair_of (get_or found i d)) ≡ true
    held i d l =
        let same : get_or (candidates D b) i (pair_of d) ≡ pair_of (get_or found i d) = ap (λ (cs : List Pair). get_or cs i (pair_of d)) (sym e) ∙ get_or-map pair_of found i d (pair_of d) l in
        ap (may_share D b) (sym same) ∙ passes (may_share D b) (flat_map (λ (k : TypedBlock). flat_map copies k.stmts) b.blocks) i (pair_of d) (omega (arith, l, ap length e, length-map found pair_of))

    fitting_in : (c : LocalCopy) → may_share D b (pair_of c) ≡ true → (c.into < n) × (c.from < n)
    fitting_in c h = go (slice_get b.locals c.into) (slice_get b.locals c.from) refl refl (and_parts (one_type (slice_get b.locals c.into) (slice_get b.locals c.from)) (not (borrowed D b c.into) && not (borrowed D b c.from)) h).0
      where
        go : (o p : Option Tree) → slice_get b.locals c.into ≡ o → slice_get b.locals c.from ≡ p → one_type (slice_get b.locals c.into) (slice_get b.locals c.from) ≡ true → (c.into < n) × (c.from < n)
        go (Some t) (Some u) e1 e2 h = (omega (arith, slice_get_within b.locals c.into t e1, long), omega (arith, slice_get_within b.locals c.from u e2, long))
        go None p e1 e2 h = absurd (let z : false ≡ true = sym (ap (λ o. one_type o (slice_get b.locals c.from)) e1) ∙ h in grind arith)
        go (Some t) None e1 e2 h = absurd (let z : false ≡ true = sym (ap₂ one_type e1 e2) ∙ h in grind arith)
