-- Statements of the code, seen with their types, are those of the definition.
use Rattle.std.proofs.Common.{◌≡◌, refl, sym, ap, ap₂, ◌∙◌, subst, ℕ, suc, ◌+◌, ◌<◌, ◌≤◌, Bool, true, false, ◌&&◌, if◌then◌else◌, List, [], ◌∷◌, ◌++◌, map, length, Option, Some, None, is_some, arith, lt-ltb}
use Rattle.std.specs.List.{flat_map, range_with_len}
use Rattle.mir_syntax.specs.declared.body.Proj.{Proj}
use Rattle.mir_syntax.specs.declared.body.Proj.TheVariants.{Field, Downcast, Deref}
use Rattle.mir_syntax.specs.declared.body.Place.{Place}
use Rattle.mir_syntax.specs.declared.body.Operand.{Operand}
use Rattle.mir_syntax.specs.declared.body.Operand.TheVariants as operand
use Rattle.mir_syntax.specs.declared.body.Rvalue.{Rvalue}
use Rattle.mir_syntax.specs.declared.body.Rvalue.TheVariants as rvalue
use Rattle.mir_syntax.specs.declared.body.Stmt.{Stmt}
use Rattle.mir_syntax.specs.declared.body.Stmt.TheVariants as stmt
use Rattle.mir_syntax.specs.Tree.{Tree}
use Rattle.mir_syntax.specs.Crate.{TypedRvalue, «use», TypedStmt, assign, storage_live, storage_dead, set_discriminant, TypedBody, rvalue_of, stmt_of}
use Rattle.mir_syntax.specs.Shapes.{Shape}
use Rattle.mir_syntax.specs.Parts.{operand_places, rvalue_places}
use Rattle.sroa_pass.specs.declared.parts.Parts.{Parts}
use Rattle.sroa_pass.specs.Split.{is_nil, fields_at, field_at, copies, puts, spread, moved_to, split_place, split_operand, is_split, used_place, spread_read, by_fields, renamed, storages, split_storage, split_stmt}
use Rattle.sroa_pass.specs.Code.{Table, parts_at, whole_parts, put_place, put_operand, own, whole_of, whole_at, field_in, copy_field, copied_fields, put_fields, one_assign, fields_between, count_of, used_stmts, built_stmts, storage, storage_stmts, put_stmt, first_of_parts, stmt_places, values_of}
use Rattle.sroa_pass.proofs.Planned.{s}
use Rattle.sroa_pass.proofs.equal.Spread.{Stands, Known, AllKnown, place_same, operands_same, rvalue_same}

module _ (D : List Shape) (b : TypedBody) (t : Table) (h : Stands D b t) (trees : List Tree) where
  abbrev us : ℕ → List Tree
  us x = fields_at D b.locals x

  abbrev r_of : TypedStmt → TypedStmt
  r_of x = renamed (s D b) x

  abbrev typed : List Stmt → List TypedStmt
  typed ss = map (stmt_of trees) ss

  -- ---- wholes

  -- what the code finds of a place that may be the whole of a split local
  data_of : (p : Place) (o : Option Parts) → whole_parts t p ≡ o → is_split (s D b) p ≡ is_some o
  data_of p o e = go p.proj refl o e
    where
      go : (ps : List Proj) → p.proj ≡ ps → (o : Option Parts) → whole_parts t p ≡ o → is_split (s D b) p ≡ is_some o
      go [] q None e = ap₂ (λ ps o. is_nil ps && is_some o) q (sym (h.firsts p.local) ∙ ap first_of_parts (sym (ap (λ ps. if is_nil ps then parts_at t p.local else None) q) ∙ e))
      go [] q (Some a) e = ap₂ (λ ps o. is_nil ps && is_some o) q (sym (h.firsts p.local) ∙ ap first_of_parts (sym (ap (λ ps. if is_nil ps then parts_at t p.local else None) q) ∙ e))
      go (x ∷ ps) q None e = ap (λ ps. is_nil ps && is_some (s D b p.local)) q
      go (x ∷ ps) q (Some a) e = absurd (let z : ◌≡◌ {A = Option Parts} None (Some a) = sym (ap (λ ps. if is_nil ps then parts_at t p.local else None) q) ∙ e in grind arith)

  whole_nil : (p : Place) (a : Parts) → whole_parts t p ≡ Some a → (p.proj ≡ []) × (parts_at t p.local ≡ Some a)
  whole_nil p a e = go p.proj refl
    where
      go : (ps : List Proj) → p.proj ≡ ps → (p.proj ≡ []) × (parts_at t p.local ≡ Some a)
      go [] q = (q, sym (ap (λ ps. if is_nil ps then parts_at t p.local else None) q) ∙ e)
      go (x ∷ ps) q = absurd (let z : ◌≡◌ {A = Option Parts} None (Some a) = sym (ap (λ ps. if is_nil ps then parts_at t p.local else None) q) ∙ e in grind arith)

  -- a field of the whole of a split local
  own_field : (p : Place) (a : Parts) (i : ℕ) → whole_parts t p ≡ Some a → split_place (s D b) (field_at p i) ≡ own (a.first + i)
  own_field p a i e =
      let (nil, at) = whole_nil p a e in
      ap₂ (λ o ps. moved_to o (record { local = p.local; proj = ps ++ Field i ∷ [] }) (ps ++ Field i ∷ [])) (sym (h.firsts p.local) ∙ ap first_of_parts at) nil

  -- a field of another place
  far_field : (p : Place) (i : ℕ) → whole_parts t p ≡ None → split_place (s D b) (field_at p i) ≡ field_at (split_place (s D b) p) i
  far_field p i e = go (s D b p.local) refl p.proj refl
    where
      same : (ps : List Proj) → p.proj ≡ ps → field_at p i ≡ record { local = p.local; proj = ps ++ Field i ∷ [] }
      same ps q = ap (λ (ps : List Proj). (let z : Place = record { local = p.local; proj = ps ++ Field i ∷ [] } in z)) q

      go : (o : Option ℕ) → s D b p.local ≡ o → (ps : List Proj) → p.proj ≡ ps → split_place (s D b) (field_at p i) ≡ field_at (split_place (s D b) p) i
      go None k ps q = ap (λ o. moved_to o (field_at p i) (p.proj ++ Field i ∷ [])) k ∙ sym (ap (λ o. field_at (moved_to o p p.proj) i) k)
      go (Some y) k [] q = absurd (
          let at : parts_at t p.local ≡ None = sym (ap (λ ps. if is_nil ps then parts_at t p.local else None) q) ∙ e in
          let z : ◌≡◌ {A = Option ℕ} None (Some y) = sym (ap first_of_parts at) ∙ h.firsts p.local ∙ k in grind arith
          )
      go (Some y) k (Field j ∷ ps) q = ap₂ (λ o ps. moved_to o (field_at p i) (ps ++ Field i ∷ [])) k q ∙ sym (ap₂ (λ o ps. field_at (moved_to o p ps) i) k q)
      go (Some y) k (Deref ∷ ps) q = ap₂ (λ o ps. moved_to o (field_at p i) (ps ++ Field i ∷ [])) k q ∙ sym (ap₂ (λ o ps. field_at (moved_to o p ps) i) k q)
      go (Some y) k (Downcast v ∷ ps) q = ap₂ (λ o ps. moved_to o (field_at p i) (ps ++ Field i ∷ [])) k q ∙ sym (ap₂ (λ o ps. field_at (moved_to o p ps) i) k q)

  field_same : (p : Place) (i : ℕ) → Known D b t h p → field_in (whole_at t p) i ≡ split_place (s D b) (field_at p i)
  field_same p i k = go (whole_parts t p) refl
    where
      go : (o : Option Parts) → whole_parts t p ≡ o → field_in (whole_at t p) i ≡ split_place (s D b) (field_at p i)
      go (Some a) e = ap (λ o. field_in (whole_of o (put_place t p)) i) e ∙ sym (own_field p a i e)
      go None e = ap (λ o. field_in (whole_of o (put_place t p)) i) e ∙ ap (λ q. field_at q i) (place_same D b t h p k) ∙ sym (far_field p i e)

  -- ---- lists of statements

  one : (i : ℕ) → i + 1 ≡ suc i
  one i = omega arith

  copies_same : (p q : Place) → Known D b t h p → Known D b t h q → (i : ℕ) (ts : List Tree) → map (stmt_of trees) (map (copy_field (whole_at t p) (whole_at t q)) (range_with_len i (length ts))) ≡ map (renamed (s D b)) (copies p q i ts)
  copies_same p q k l i [] = refl
  copies_same p q k l i (u ∷ ts) = ap₂ (λ (x : TypedStmt) xs. x ∷ xs) (ap₂ (λ p q. assign p («use» (operand.Copy q))) (field_same p i k) (field_same q i l)) (ap (λ n. map (stmt_of trees) (map (copy_field (whole_at t p) (whole_at t q)) (range_with_len n (length ts)))) (one i) ∙ copies_same p q k l (suc i) ts)

  puts_same : (p : Place) (a : Parts) → whole_parts t p ≡ Some a → (i : ℕ) (os : List Operand) → map (put_operand t) os ≡ map (split_operand (s D b)) os → i + length os ≤ a.count
      → map (stmt_of trees) (put_fields t (a.first + i) (a.first + a.count) os) ≡ map (renamed (s D b)) (puts p i os)
  puts_same p a e i [] k l = refl
  puts_same p a e i (o ∷ os) k l =
      ap (λ c. map (stmt_of trees) (if c then stmt.Assign (own (a.first + i)) (rvalue.Use (put_operand t o)) ∷ put_fields t (suc (a.first + i)) (a.first + a.count) os else put_fields t (a.first + i) (a.first + a.count) os)) (lt-ltb (a.first + i) (a.first + a.count) (omega (arith, l)))
      ∙ ap₂ (λ (x : TypedStmt) xs. x ∷ xs) (ap₂ (λ p o. assign p («use» o)) (sym (own_field p a i e)) first)
      (ap (λ n. map (stmt_of trees) (put_fields t n (a.first + a.count) os)) (let z : suc (a.first + i) ≡ a.first + suc i = omega arith in z) ∙ puts_same p a e (suc i) os rest (omega (arith, l)))
    where
      head_of : Operand → List Operand → Operand
      head_of d [] = d
      head_of d (x ∷ xs) = x

      tail_of : List Operand → List Operand
      tail_of [] = []
      tail_of (x ∷ xs) = xs

      first : put_operand t o ≡ split_operand (s D b) o
      first = ap (head_of o) k

      rest : map (put_operand t) os ≡ map (split_operand (s D b)) os
      rest = ap tail_of k

  stored_same : (f : ℕ → TypedStmt) (g : ℕ → Stmt) → ((x : ℕ) → stmt_of trees (g x) ≡ f x) → (y i : ℕ) (ts : List Tree) → map (stmt_of trees) (map (λ i. g (y + i)) (range_with_len i (length ts))) ≡ storages f (y + i) ts
  stored_same f g e y i [] = refl
  stored_same f g e y i (u ∷ ts) = ap₂ (λ (x : TypedStmt) xs. x ∷ xs) (e (y + i)) (ap (λ n. map (stmt_of trees) (map (λ i. g (y + i)) (range_with_len n (length ts)))) (one i) ∙ stored_same f g e y (suc i) ts ∙ ap (λ n. storages f n ts) (let z : y + suc i ≡ suc (y + i) = omega arith in z))

  storage_same : (f : ℕ → TypedStmt) (live : Bool) → ((x : ℕ) → stmt_of trees (storage live x) ≡ f x) → (x : ℕ) → map (stmt_of trees) (storage_stmts live x (parts_at t x)) ≡ split_storage f (fields_at D b.locals x) x (s D b x)
  storage_same f live e x = go (parts_at t x) refl
    where
      go : (o : Option Parts) → parts_at t x ≡ o → map (stmt_of trees) (storage_stmts live x (parts_at t x)) ≡ split_storage f (fields_at D b.locals x) x (s D b x)
      go None q = ap (λ o. map (stmt_of trees) (storage_stmts live x o)) q ∙ ap (λ (y : TypedStmt). y ∷ []) (e x) ∙ ap (split_storage f (fields_at D b.locals x) x) (sym (ap first_of_parts q) ∙ h.firsts x)
      go (Some a) q =
          ap (λ o. map (stmt_of trees) (storage_stmts live x o)) q
          ∙ ap (λ n. map (stmt_of trees) (map (λ i. storage live (a.first + i)) (range_with_len 0 n))) (h.counts x a q)
          ∙ stored_same f (storage live) e a.first 0 (fields_at D b.locals x)
          ∙ ap (λ n. storages f n (fields_at D b.locals x)) (let z : a.first + 0 ≡ a.first = omega arith in z)
          ∙ ap (split_storage f (fields_at D b.locals x) x) (sym (ap first_of_parts q) ∙ h.firsts x)

  -- ---- assignments

  one_same : (p : Place) (r : Rvalue) → AllKnown D b t h (p ∷ rvalue_places (rvalue_of trees r)) → map (stmt_of trees) (one_assign t p r) ≡ renamed (s D b) (assign p (rvalue_of trees r)) ∷ []
  one_same p r k = ap₂ (λ p r. assign p r ∷ []) (place_same D b t h p k.0) (rvalue_same D b t h trees r k.1)

  -- one assignment stays where neither the place nor what it gets is whole
  stays_one : (p : Place) (r : TypedRvalue) → is_split (s D b) p ≡ false → used_place r ≡ None → by_fields (s D b) (fields_at D b.locals) p r ≡ assign p r ∷ []
  stays_one p r e n = ap (λ c. if c then spread (fields_at D b.locals p.local) p r else spread_read (s D b) (fields_at D b.locals) p r (used_place r)) e ∙ ap (spread_read (s D b) (fields_at D b.locals) p r) n

  to_split : (p : Place) (r : TypedRvalue) → is_split (s D b) p ≡ true → by_fields (s D b) (fields_at D b.locals) p r ≡ spread (fields_at D b.locals p.local) p r
  to_split p r e = ap (λ c. if c then spread (fields_at D b.locals p.local) p r else spread_read (s D b) (fields_at D b.locals) p r (used_place r)) e

  from_split : (p q : Place) (r : TypedRvalue) (c : Bool) → is_split (s D b) p ≡ false → used_place r ≡ Some q → is_split (s D b) q ≡ c → by_fields (s D b) (fields_at D b.locals) p r ≡ (if c then spread (fields_at D b.locals q.local) p r else assign p r ∷ [])
  from_split p q r c e u k =
      ap (λ c. if c then spread (fields_at D b.locals p.local) p r else spread_read (s D b) (fields_at D b.locals) p r (used_place r)) e
      ∙ ap (spread_read (s D b) (fields_at D b.locals) p r) u ∙ ap (λ c. if c then spread (fields_at D b.locals q.local) p r else assign p r ∷ []) k

  -- an assignment that none but these cases take by fields
  plain_same : (p : Place) (r : Rvalue) → ((ts : List Tree) → spread ts p (rvalue_of trees r) ≡ assign p (rvalue_of trees r) ∷ []) → used_place (rvalue_of trees r) ≡ None → AllKnown D b t h (p ∷ rvalue_places (rvalue_of trees r))
      → map (stmt_of trees) (one_assign t p r) ≡ map (renamed (s D b)) (by_fields (s D b) (fields_at D b.locals) p (rvalue_of trees r))
  plain_same p r whole_too n k = one_same p r k ∙ ap (map (renamed (s D b))) (sym (go (is_split (s D b) p) refl))
    where
      go : (c : Bool) → is_split (s D b) p ≡ c → by_fields (s D b) (fields_at D b.locals) p (rvalue_of trees r) ≡ assign p (rvalue_of trees r) ∷ []
      go true e = to_split p (rvalue_of trees r) e ∙ whole_too (fields_at D b.locals p.local)
      go false e = stays_one p (rvalue_of trees r) e n

  fields_same : (p q : Place) (o : Operand) → ((ts : List Tree) → spread ts p («use» o) ≡ copies p q 0 ts) → used_place («use» o) ≡ Some q → operand_places o ≡ q ∷ [] → AllKnown D b t h (p ∷ rvalue_places («use» o))
      → map (stmt_of trees) (used_stmts t p o q (fields_between t p q)) ≡ map (renamed (s D b)) (by_fields (s D b) (fields_at D b.locals) p («use» o))
  fields_same p q o sp u places k = go (whole_parts t p) refl (whole_parts t q) refl
    where
      of : Known D b t h q
      of = (subst (λ ps. AllKnown D b t h (ps ++ [])) places k.1).0

      copied : (x : ℕ) (n : ℕ) → n ≡ length (fields_at D b.locals x) → map (stmt_of trees) (copied_fields (whole_at t p) (whole_at t q) n) ≡ map (renamed (s D b)) (spread (fields_at D b.locals x) p («use» o))
      copied x n e = ap (λ n. map (stmt_of trees) (copied_fields (whole_at t p) (whole_at t q) n)) e ∙ copies_same p q k.0 of 0 (fields_at D b.locals x) ∙ ap (map (renamed (s D b))) (sym (sp (fields_at D b.locals x)))

      go : (o1 : Option Parts) → whole_parts t p ≡ o1 → (o2 : Option Parts) → whole_parts t q ≡ o2
          → map (stmt_of trees) (used_stmts t p o q (fields_between t p q)) ≡ map (renamed (s D b)) (by_fields (s D b) (fields_at D b.locals) p («use» o))
      go (Some a) e o2 f =
          ap (λ o1. map (stmt_of trees) (used_stmts t p o q (count_of o1 (whole_parts t q)))) e
          ∙ copied p.local a.count (h.counts p.local a (whole_nil p a e).1)
          ∙ ap (map (renamed (s D b))) (sym (to_split p («use» o) (data_of p (Some a) e)))
      go None e (Some a) f =
          ap₂ (λ o1 o2. map (stmt_of trees) (used_stmts t p o q (count_of o1 o2))) e f
          ∙ copied q.local a.count (h.counts q.local a (whole_nil q a f).1)
          ∙ ap (map (renamed (s D b))) (sym (from_split p q («use» o) true (data_of p None e) u (data_of q (Some a) f)))
      go None e None f =
          ap₂ (λ o1 o2. map (stmt_of trees) (used_stmts t p o q (count_of o1 o2))) e f
          ∙ one_same p (rvalue.Use o) k
          ∙ ap (map (renamed (s D b))) (sym (from_split p q («use» o) false (data_of p None e) u (data_of q None f)))

  built_same : (p : Place) (r : Rvalue) (os : List Operand) → ((ts : List Tree) → spread ts p (rvalue_of trees r) ≡ puts p 0 os) → used_place (rvalue_of trees r) ≡ None → rvalue_places (rvalue_of trees r) ≡ flat_map operand_places os → AllKnown D b t h (p ∷ rvalue_places (rvalue_of trees r))
      → (p.proj ≡ [] → 0 < length (fields_at D b.locals p.local) → length os ≤ length (fields_at D b.locals p.local)) → ((x y : ℕ) → s D b x ≡ Some y → 0 < length (fields_at D b.locals x))
      → map (stmt_of trees) (built_stmts t p r os (whole_parts t p)) ≡ map (renamed (s D b)) (by_fields (s D b) (fields_at D b.locals) p (rvalue_of trees r))
  built_same p r os sp u places k few some = go (whole_parts t p) refl
    where
      go : (o : Option Parts) → whole_parts t p ≡ o → map (stmt_of trees) (built_stmts t p r os (whole_parts t p)) ≡ map (renamed (s D b)) (by_fields (s D b) (fields_at D b.locals) p (rvalue_of trees r))
      go None e = ap (λ o. map (stmt_of trees) (built_stmts t p r os o)) e ∙ one_same p r k ∙ ap (map (renamed (s D b))) (sym (stays_one p (rvalue_of trees r) (data_of p None e) u))
      go (Some a) e =
          let (nil, at) = whole_nil p a e in
          let count = h.counts p.local a at in
          let within = few nil (some p.local a.first (sym (h.firsts p.local) ∙ ap first_of_parts at)) in
          ap (λ o. map (stmt_of trees) (built_stmts t p r os o)) e
          ∙ ap (λ n. map (stmt_of trees) (put_fields t n (a.first + a.count) os)) (let z : a.first ≡ a.first + 0 = omega arith in z)
          ∙ puts_same p a e 0 os (operands_same D b t h os (subst (AllKnown D b t h) places k.1)) (omega (arith, within, count))
          ∙ ap (map (renamed (s D b))) (sym (to_split p (rvalue_of trees r) (data_of p (Some a) e) ∙ sp (fields_at D b.locals p.local)))

  -- what is known of a statement
  abbrev pub FewValues : TypedStmt → Type 0
  FewValues (assign p r) = p.proj ≡ [] → 0 < length (fields_at D b.locals p.local) → length (values_of r) ≤ length (fields_at D b.locals p.local)
  FewValues x = Unit {0}

  module _ (some : (x y : ℕ) → s D b x ≡ Some y → 0 < length (fields_at D b.locals x)) where
    pub stmt_same : (x : Stmt) → AllKnown D b t h (stmt_places (stmt_of trees x)) → FewValues (stmt_of trees x) → map (stmt_of trees) (put_stmt t x) ≡ split_stmt (s D b) (fields_at D b.locals) (stmt_of trees x)
    stmt_same (stmt.StorageLive x) k f = storage_same storage_live true (λ x. refl) x
    stmt_same (stmt.StorageDead x) k f = storage_same storage_dead false (λ x. refl) x
    stmt_same (stmt.SetDiscriminant p v) k f = ap (λ p. set_discriminant p v ∷ []) (place_same D b t h p k.0)
    stmt_same (stmt.Assign p (rvalue.Use (operand.Copy q))) k f = fields_same p q (operand.Copy q) (λ ts. refl) refl refl k
    stmt_same (stmt.Assign p (rvalue.Use (operand.Move q))) k f = fields_same p q (operand.Move q) (λ ts. refl) refl refl k
    stmt_same (stmt.Assign p (rvalue.Use (operand.Const c))) k f = plain_same p (rvalue.Use (operand.Const c)) (λ ts. refl) refl k
    stmt_same (stmt.Assign p (rvalue.Binary op a c)) k f = plain_same p (rvalue.Binary op a c) (λ ts. refl) refl k
    stmt_same (stmt.Assign p (rvalue.Overflow op a c)) k f = plain_same p (rvalue.Overflow op a c) (λ ts. refl) refl k
    stmt_same (stmt.Assign p (rvalue.Unary op a)) k f = plain_same p (rvalue.Unary op a) (λ ts. refl) refl k
    stmt_same (stmt.Assign p (rvalue.Cast a ty)) k f = plain_same p (rvalue.Cast a ty) (λ ts. refl) refl k
    stmt_same (stmt.Assign p (rvalue.Ref q)) k f = plain_same p (rvalue.Ref q) (λ ts. refl) refl k
    stmt_same (stmt.Assign p (rvalue.RefMut q)) k f = plain_same p (rvalue.RefMut q) (λ ts. refl) refl k
    stmt_same (stmt.Assign p (rvalue.Discriminant q)) k f = plain_same p (rvalue.Discriminant q) (λ ts. refl) refl k
    stmt_same (stmt.Assign p (rvalue.Tuple os)) k f = built_same p (rvalue.Tuple os) os (λ ts. refl) refl refl k f some
    stmt_same (stmt.Assign p (rvalue.Build d v os)) k f = built_same p (rvalue.Build d v os) os (λ ts. refl) refl refl k f some
