-- The code's body, seen with its types, is the defined one, and its ids lie in the table.
use Rattle.std.proofs.Common.{◌≡◌, refl, sym, ap, ap₂, ◌∙◌, ℕ, suc, ◌+◌, ◌<◌, Bool, true, false, ◌&&◌, nat_lt, List, [], ◌∷◌, ◌++◌, map, length, get_or, Option, Some, None, slice_get, if◌then◌else◌, ltb-true, arith}
use Rattle.std.specs.List.{flat_map, list_all, range_with_len}
use Rattle.std.proofs.lemmas.Bool.{and_parts}
use Rattle.std.proofs.lemmas.List.{map-append, length-map, get_or-map}
use Rattle.std.proofs.lemmas.Option.{slice_get_within}
use Rattle.std.proofs.Math.ListN as listn
use Rattle.mir_syntax.specs.declared.types.TyId.{TyId}
use Rattle.mir_syntax.specs.declared.program.Program.{Program}
use Rattle.mir_syntax.specs.declared.body.Place.{Place}
use Rattle.mir_syntax.specs.declared.body.Operand.{Operand}
use Rattle.mir_syntax.specs.declared.body.Operand.TheVariants as operand
use Rattle.mir_syntax.specs.declared.body.Rvalue.{Rvalue}
use Rattle.mir_syntax.specs.declared.body.Rvalue.TheVariants as rvalue
use Rattle.mir_syntax.specs.declared.body.Stmt.{Stmt}
use Rattle.mir_syntax.specs.declared.body.Stmt.TheVariants as stmt
use Rattle.mir_syntax.specs.declared.body.Block.{Block}
use Rattle.mir_syntax.specs.declared.body.Body.{Body}
use Rattle.mir_syntax.specs.Tree.{Tree, empty, at_id, trees_of}
use Rattle.mir_syntax.specs.Crate.{TypedStmt, assign, storage_live, storage_dead, set_discriminant, TypedBlock, TypedBody, crate_of, stmt_of, block_of, body_of}
use Rattle.mir_syntax.specs.Shapes.{Shape, shapes_of}
use Rattle.mir_syntax.specs.Table.{all_below}
use Rattle.mir_syntax.specs.Ids.{IdsInTable, rvalue_below, stmt_below, block_below, body_below}
use Rattle.mir_syntax.proofs.Lists.{map_there}
use Rattle.sroa_pass.specs.declared.parts.Parts.{Parts}
use Rattle.sroa_pass.specs.declared.by_fields.Whole.{Whole}
use Rattle.sroa_pass.specs.Split.{field_types, firsts, new_types, fields_at, split_stmt, split_block, split}
use Rattle.sroa_pass.specs.Code.{Table, parts_at, put_operand, put_rvalue, whole_at, copy_field, put_fields, one_assign, fields_between, used_stmts, built_stmts, whole_parts, own, storage, storage_stmts, put_stmt, put_block, first_of_parts, MayBe, SplitLocals, stmt_places, IsTyped}
use Rattle.sroa_pass.proofs.Planned.{s, has_fields, chosen, chosen_fields}
use Rattle.sroa_pass.proofs.equal.Chosen.{below_more}
use Rattle.sroa_pass.proofs.equal.Spread.{Stands, AllKnown, all_known, term_same}
use Rattle.sroa_pass.proofs.equal.Stmts.{FewValues, stmt_same}

-- ---- the table

-- a local that is split has fields
some_fields : (D : List Shape) (b : TypedBody) (x y : ℕ) → s D b x ≡ Some y → 0 < length (fields_at D b.locals x)
some_fields D b x y e =
    let c = chosen D b x y e in
    let some = ltb-true 0 (length (field_types D c.ty)) (has_fields D b x c.ty c.may) in
    let same = ap length (chosen_fields D b x y c) in
    omega (arith, some, same)

module _ (p : Program) (body : Body) (held : List Bool) (now : List TyId) (t : Table) (h : SplitLocals p body.args held body.locals now t)
    (m : MayBe (shapes_of (crate_of p)) (body_of (trees_of p.types) body) body.args held) where
  abbrev D : List Shape
  D = shapes_of (crate_of p)

  abbrev trees : List Tree
  trees = trees_of p.types

  abbrev b : TypedBody
  b = body_of (trees_of p.types) body

  same_firsts : map first_of_parts t ≡ firsts D b
  same_firsts = h.firsts b refl m

  same_first : (x : ℕ) → first_of_parts (parts_at t x) ≡ s D b x
  same_first x = sym (listn.get_or-map first_of_parts t x None) ∙ ap (λ fs. get_or fs x None) same_firsts

  same_count : (x : ℕ) (a : Parts) → parts_at t x ≡ Some a → a.count ≡ length (fields_at D b.locals x)
  same_count x a at =
      let c = chosen D b x a.first (sym (same_first x) ∙ ap first_of_parts at) in
      let inside = slice_get_within b.locals x c.ty c.there in
      let long = length-map body.locals (at_id trees) in
      h.counts x a at ∙ ap (λ u. length (field_types D u)) (sym (get_or-map (at_id trees) body.locals x (record { 0 = 0 }) empty (omega (arith, inside, long))))

  stands : Stands D b t
  stands = record { firsts = same_first; counts = same_count }

  -- ---- blocks

  abbrev Fitting : Stmt → Type 0
  Fitting x = AllKnown D b t stands (stmt_places (stmt_of trees x)) × FewValues D b t stands trees (stmt_of trees x)

  all_stmts : (ss : List Stmt) → ((n : ℕ) (x : Stmt) → slice_get ss n ≡ Some x → Fitting x) → map (stmt_of trees) (flat_map (put_stmt t) ss) ≡ flat_map (split_stmt (s D b) (fields_at D b.locals)) (map (stmt_of trees) ss)
  all_stmts [] g = refl
  all_stmts (x ∷ ss) g =
      map-append (stmt_of trees) (put_stmt t x) (flat_map (put_stmt t) ss)
      ∙ ap₂ (λ (xs ys : List TypedStmt). xs ++ ys) (stmt_same D b t stands trees (some_fields D b) x (g 0 x refl).0 (g 0 x refl).1) (all_stmts ss (λ n y e. g (suc n) y e))

  module _ (typed : IsTyped D b) where
    few_values : (i n : ℕ) (k : TypedBlock) (x : TypedStmt) → slice_get b.blocks i ≡ Some k → slice_get k.stmts n ≡ Some x → FewValues D b t stands trees x
    few_values i n k (assign p r) e f = typed.values i n k p r e f
    few_values i n k (storage_live x) e f = tt
    few_values i n k (storage_dead x) e f = tt
    few_values i n k (set_discriminant p v) e f = tt

    one_block : (i : ℕ) (k : Block) → slice_get b.blocks i ≡ Some (block_of trees k) → block_of trees (put_block t k) ≡ split_block (s D b) (fields_at D b.locals) (block_of trees k)
    one_block i k e =
        ap₂ (λ ss m. (let z : TypedBlock = record { stmts = ss; term = m } in z))
        (all_stmts k.stmts (λ n x f.
        let there = map_there (stmt_of trees) k.stmts n x f in
        (all_known D b t stands (stmt_places (stmt_of trees x)) (typed.stmts i n (block_of trees k) (stmt_of trees x) e there), few_values i n (block_of trees k) (stmt_of trees x) e there)))
        (term_same D b t stands k.term (all_known D b t stands _ (typed.terms i (block_of trees k) e)))

    all_blocks : (ks : List Block) → ((i : ℕ) (k : Block) → slice_get ks i ≡ Some k → (j : ℕ) × (slice_get b.blocks j ≡ Some (block_of trees k)))
        → map (block_of trees) (map (put_block t) ks) ≡ map (split_block (s D b) (fields_at D b.locals)) (map (block_of trees) ks)
    all_blocks [] g = refl
    all_blocks (k ∷ ks) g = (let (j, e) = g 0 k refl in ap₂ (λ (x : TypedBlock) xs. x ∷ xs) (one_block j k e) (all_blocks ks (λ i k f. g (suc i) k f)))

    same_locals : map (at_id trees) now ≡ b.locals ++ new_types D (firsts D b) b.locals
    same_locals =
        ap (map (at_id trees)) h.is ∙ map-append (at_id trees) body.locals h.added
        ∙ ap (λ ts. b.locals ++ ts) (h.types ∙ ap (λ fs. new_types D fs b.locals) same_firsts)

    pub split_is : (blocks : List Block) → blocks ≡ map (put_block t) body.blocks → body_of trees (record { args = body.args; locals = now; blocks = blocks }) ≡ split D b
    unfolding split
    split_is blocks e =
        ap₂ (λ ts ks. (let z : TypedBody = record { args = body.args; locals = ts; blocks = ks } in z)) same_locals
        (ap (map (block_of trees)) e ∙ all_blocks body.blocks (λ i k f. (i, map_there (block_of trees) body.blocks i k f)))

-- ---- ids

module _ (t : Table) (n : ℕ) where
  rvalue_ids : (r : Rvalue) → rvalue_below n (put_rvalue t r) ≡ rvalue_below n r
  rvalue_ids (rvalue.Use a) = refl
  rvalue_ids (rvalue.Binary op a b) = refl
  rvalue_ids (rvalue.Overflow op a b) = refl
  rvalue_ids (rvalue.Unary op a) = refl
  rvalue_ids (rvalue.Cast a ty) = refl
  rvalue_ids (rvalue.Ref p) = refl
  rvalue_ids (rvalue.RefMut p) = refl
  rvalue_ids (rvalue.Discriminant p) = refl
  rvalue_ids (rvalue.Tuple os) = refl
  rvalue_ids (rvalue.Build d v os) = refl

  abbrev Below : List Stmt → Type 0
  Below ss = list_all (stmt_below n) ss ≡ true

  one_ids : (p : Place) (r : Rvalue) → rvalue_below n r ≡ true → Below (one_assign t p r)
  one_ids p r h = ap (λ c. c && true) (rvalue_ids r ∙ h)

  copied_ids : (to from : Whole) (is : List ℕ) → Below (map (copy_field to from) is)
  copied_ids to from [] = refl
  copied_ids to from (i ∷ is) = copied_ids to from is

  fields_ids : (y end : ℕ) (os : List Operand) → Below (put_fields t y end os)
  fields_ids y end [] = refl
  fields_ids y end (o ∷ os) = go (nat_lt y end) (fields_ids (suc y) end os) (fields_ids y end os)
    where
      go : (c : Bool) → Below (put_fields t (suc y) end os) → Below (put_fields t y end os)
          → Below (if c then stmt.Assign (own y) (rvalue.Use (put_operand t o)) ∷ put_fields t (suc y) end os else put_fields t y end os)
      go true h k = h
      go false h k = k

  used_ids : (p : Place) (o : Operand) (q : Place) (c : Option ℕ) → Below (used_stmts t p o q c)
  used_ids p o q (Some m) = copied_ids (whole_at t p) (whole_at t q) (range_with_len 0 m)
  used_ids p o q None = refl

  built_ids : (p : Place) (r : Rvalue) (os : List Operand) (c : Option Parts) → rvalue_below n r ≡ true → Below (built_stmts t p r os c)
  built_ids p r os (Some a) h = fields_ids a.first (a.first + a.count) os
  built_ids p r os None h = one_ids p r h

  stored_ids : (live : Bool) (f : ℕ → ℕ) (is : List ℕ) → Below (map (λ i. storage live (f i)) is)
  stored_ids live f [] = refl
  stored_ids true f (i ∷ is) = stored_ids true f is
  stored_ids false f (i ∷ is) = stored_ids false f is

  storage_ids : (live : Bool) (x : ℕ) (c : Option Parts) → Below (storage_stmts live x c)
  storage_ids live x (Some a) = stored_ids live (λ i. a.first + i) (range_with_len 0 a.count)
  storage_ids true x None = refl
  storage_ids false x None = refl

  stmt_ids : (x : Stmt) → stmt_below n x ≡ true → Below (put_stmt t x)
  stmt_ids (stmt.StorageLive x) h = storage_ids true x (parts_at t x)
  stmt_ids (stmt.StorageDead x) h = storage_ids false x (parts_at t x)
  stmt_ids (stmt.SetDiscriminant p v) h = refl
  stmt_ids (stmt.Assign p (rvalue.Use (operand.Copy q))) h = used_ids p (operand.Copy q) q (fields_between t p q)
  stmt_ids (stmt.Assign p (rvalue.Use (operand.Move q))) h = used_ids p (operand.Move q) q (fields_between t p q)
  stmt_ids (stmt.Assign p (rvalue.Use (operand.Const c))) h = refl
  stmt_ids (stmt.Assign p (rvalue.Binary op a c)) h = refl
  stmt_ids (stmt.Assign p (rvalue.Overflow op a c)) h = refl
  stmt_ids (stmt.Assign p (rvalue.Unary op a)) h = refl
  stmt_ids (stmt.Assign p (rvalue.Cast a ty)) h = one_ids p (rvalue.Cast a ty) h
  stmt_ids (stmt.Assign p (rvalue.Ref q)) h = refl
  stmt_ids (stmt.Assign p (rvalue.RefMut q)) h = refl
  stmt_ids (stmt.Assign p (rvalue.Discriminant q)) h = refl
  stmt_ids (stmt.Assign p (rvalue.Tuple os)) h = built_ids p (rvalue.Tuple os) os (whole_parts t p) h
  stmt_ids (stmt.Assign p (rvalue.Build d v os)) h = built_ids p (rvalue.Build d v os) os (whole_parts t p) h

  more_below : (xs ys : List Stmt) → Below xs → Below ys → Below (xs ++ ys)
  more_below [] ys h k = k
  more_below (x ∷ xs) ys h k = (let p = and_parts (stmt_below n x) (list_all (stmt_below n) xs) h in ap₂ (λ a b. a && b) p.0 (more_below xs ys p.1 k))

  stmts_ids : (ss : List Stmt) → Below ss → Below (flat_map (put_stmt t) ss)
  stmts_ids [] h = refl
  stmts_ids (x ∷ ss) h = (let p = and_parts (stmt_below n x) (list_all (stmt_below n) ss) h in more_below (put_stmt t x) (flat_map (put_stmt t) ss) (stmt_ids x p.0) (stmts_ids ss p.1))

  blocks_ids : (ks : List Block) → list_all (block_below n) ks ≡ true → list_all (block_below n) (map (put_block t) ks) ≡ true
  blocks_ids [] h = refl
  blocks_ids (k ∷ ks) h = (let p = and_parts (block_below n k) (list_all (block_below n) ks) h in ap₂ (λ a b. a && b) (stmts_ids k.stmts p.0) (blocks_ids ks p.1))

pub split_ids : (p : Program) (body : Body) (held : List Bool) (now : List TyId) (t : Table) (blocks : List Block) → SplitLocals p body.args held body.locals now t → blocks ≡ map (put_block t) body.blocks → IdsInTable p → body_below (length p.types) body ≡ true
    → body_below (length p.types) (record { args = body.args; locals = now; blocks = blocks }) ≡ true
split_ids p body held now t blocks h e ids below =
    let both = and_parts (all_below (length p.types) body.locals) (list_all (block_below (length p.types)) body.blocks) below in
    ap₂ (λ a b. a && b) (ap (all_below (length p.types)) h.is ∙ below_more p body.args held (length p.types) body.locals h.added both.0 (h.in_table ids both.0))
    (ap (list_all (block_below (length p.types))) e ∙ blocks_ids t (length p.types) body.blocks both.1)
