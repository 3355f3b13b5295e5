-- A split body is valid in the place of the body; it drops and calls nothing new.
use Rattle.std.proofs.Common.{◌≡◌, refl, sym, ap, ap₂, ◌∙◌, subst, ℕ, zero, suc, ◌≤◌, Bool, true, false, nat_lt, nat_eq, ◌&&◌, ◌||◌, if◌then◌else◌, List, [], ◌∷◌, ◌++◌, map, take, length, Option, Some, None, is_some, slice_get, arith, lt-ltb}
use Rattle.std.proofs.lemmas.Bool.{and_from}
use Rattle.std.proofs.lemmas.List.Folds.{list_all-append}
use Rattle.std.specs.List.{list_all, flat_map}
use Rattle.std.proofs.lemmas.List.{length-map, length-append}
use Rattle.mir_syntax.specs.declared.body.Place.{Place}
use Rattle.mir_syntax.specs.declared.body.Callee.{Callee}
use Rattle.mir_syntax.specs.declared.body.Operand.{Operand}
use Rattle.mir_syntax.specs.declared.body.Term.{Term}
use Rattle.mir_syntax.specs.declared.body.Term.TheVariants.{Goto, Switch, Return, Unreachable, Drop, Call, Assert}
use Rattle.mir_syntax.specs.Tree.{Tree, scalar, empty, more, ref, ref_mut, named, tuple_of}
use Rattle.mir_syntax.specs.Crate.{TypedStmt, TypedField, TypedVariant, TypedDef, TypedBlock, TypedBody, TypedFunction, Crate}
use Rattle.mir_syntax.specs.Shapes.{◌>>=◌, Shape, field_ty_of, fields_tuple, shapes_of, first_variant, struct_fields, fields_of_struct, destructor_of, fields_of}
use Rattle.mir_syntax.proofs.Binds.{bind_some}
use Rattle.mir_syntax.proofs.Lists.{map_back}
use Rattle.mir_rules.specs.Broken.{statement_broken, terminator_broken}
use Rattle.mir_rules.specs.Calls.{AddsNoCall}
use Rattle.mir_rules.specs.Drops.{is_drop, NoDrops}
use Rattle.mir_rules.specs.Formed.{type_formed, field_formed, variant_formed, def_formed, outside_formed, function_formed, is_formed, stmt_formed, term_formed, call_formed, block_formed, has_start, body_formed}
use Rattle.mir_rules.specs.Valid.{Valid, with_body, at_function, ValidAt}
use Rattle.mir_rules.proofs.Bodies.{Alike}
use Rattle.mir_rules.proofs.Destructors.{shape_is}
use Rattle.mir_rules.proofs.Keeps.{BodyKeeps}
use Rattle.mir_rules.proofs.Lists.{and_true-left, and_true-right, list_all_true, list_all_true-at}
use Rattle.mir_rules.proofs.Statements.{typed_stmt}
use Rattle.mir_rules.proofs.Terminators.{term_typed, typed_term}
use Rattle.mir_rules.proofs.ValidCrates.{args_below, stmt_formed_at, term_formed_at, body_formed_at, keeps, holds_body, valid_put, valid_again}
use Rattle.sroa_pass.specs.Split.{parts_of, if_any, field_types, First, Fields, split_term, split_stmt, split_block, firsts, new_types, first_of, fields_at, split_by, split}
use Rattle.sroa_pass.proofs.NewLocals.{few}
use Rattle.sroa_pass.proofs.Planned.{val}
use Rattle.sroa_pass.proofs.KnownAt.{known_at, term_fits}
use Rattle.sroa_pass.proofs.valid.Types.{term_keeps, term_kept}
use Rattle.sroa_pass.proofs.valid.Kept.{stmts_good, good_at}
use Rattle.mir_relate.proofs.Formed.{BlocksFormed}

take_front : {A : Type 0} (n : ℕ) (xs ys : List A) → n ≤ length xs → take n (xs ++ ys) ≡ take n xs
take_front zero xs ys l = refl
take_front (suc n) [] ys l = absurd (omega (arith, l))
take_front (suc n) (x ∷ xs) ys l = ap (λ zs. x ∷ zs) (take_front n xs ys (omega (arith, l)))

-- ---- types of fields

module _ (C : Crate) (valid : Valid C) where
  tuple_formed : (fs : List TypedField) → list_all (field_formed C) fs ≡ true → type_formed C (tuple_of (map field_ty_of fs)) ≡ true
  tuple_formed [] h = refl
  tuple_formed (f ∷ fs) h = and_from _ _ (and_true-left (field_formed C f) (list_all (field_formed C) fs) h) (tuple_formed fs (and_true-right (field_formed C f) (list_all (field_formed C) fs) h))

  def_at : (d : ℕ) (def : TypedDef) → slice_get C.defs d ≡ Some def → list_all (variant_formed C) def.variants ≡ true
  unfolding is_formed
  def_at d def e = and_true-right (def.is_enum || nat_eq (length def.variants) 1) (list_all (variant_formed C) def.variants) (list_all_true-at (def_formed C) C.defs d def (and_true-left (list_all (def_formed C) C.defs) (list_all (outside_formed C) C.outsides && list_all (function_formed C) C.functions) valid.formed) e)

  first_formed : (vs : List TypedVariant) → list_all (variant_formed C) vs ≡ true → type_formed C (first_variant (map fields_tuple vs)) ≡ true
  first_formed [] h = refl
  first_formed (v ∷ vs) h = tuple_formed v.fields (and_true-left (variant_formed C v) (list_all (variant_formed C) vs) h)

  fields_formed : (t us : Tree) → type_formed C t ≡ true → fields_of (shapes_of C) t ≡ Some us → type_formed C us ≡ true
  fields_formed empty us h e = ap (type_formed C) (sym (val e)) ∙ h
  fields_formed (more t ts) us h e = ap (type_formed C) (sym (val e)) ∙ h
  fields_formed (scalar z) us h e = absurd (grind arith)
  fields_formed (ref t) us h e = absurd (grind arith)
  fields_formed (ref_mut t) us h e = absurd (grind arith)
  fields_formed (named d) us h e =
      let (z, e1, k) = bind_some e in
      let (def, at, same) = shape_is C d z e1 in
      let is : type_formed C (struct_fields z) ≡ true = ap (λ (z : Shape). type_formed C (struct_fields z)) same ∙ first_formed def.variants (def_at d def at) in
      go z z.is_enum refl k is
    where
      go : (z : Shape) (c : Bool) → z.is_enum ≡ c → fields_of_struct z ≡ Some us → type_formed C (struct_fields z) ≡ true → type_formed C us ≡ true
      go z true en k is = absurd (let w : ◌≡◌ {A = Option Tree} None (Some us) = sym (ap (λ c. if c then None else Some (struct_fields z)) en) ∙ k in grind arith)
      go z false en k is = ap (type_formed C) (sym (val (sym (ap (λ c. if c then None else Some (struct_fields z)) en) ∙ k))) ∙ is

  parts_formed : (us : Tree) (ts : List Tree) → type_formed C us ≡ true → parts_of us ≡ Some ts → list_all (type_formed C) ts ≡ true
  parts_formed empty ts h e = ap (list_all (type_formed C)) (sym (val e))
  parts_formed (more t us) ts h e =
      let (vs, e1, k) = bind_some e in
      ap (list_all (type_formed C)) (sym (val k)) ∙ and_from _ _ (and_true-left (type_formed C t) (type_formed C us) h) (parts_formed us vs (and_true-right (type_formed C t) (type_formed C us) h) e1)
  parts_formed (scalar z) ts h e = absurd (grind arith)
  parts_formed (ref t) ts h e = absurd (grind arith)
  parts_formed (ref_mut t) ts h e = absurd (grind arith)
  parts_formed (named d) ts h e = absurd (grind arith)

  if_formed : (c : Bool) (o : Option (List Tree)) → ((ts : List Tree) → o ≡ Some ts → list_all (type_formed C) ts ≡ true) → list_all (type_formed C) (if c then [] else if_any o) ≡ true
  if_formed true o h = refl
  if_formed false None h = refl
  if_formed false (Some ts) h = h ts refl

  field_types_formed : (t : Tree) → type_formed C t ≡ true → list_all (type_formed C) (field_types (shapes_of C) t) ≡ true
  field_types_formed t h = if_formed (is_some (destructor_of (shapes_of C) t)) (fields_of (shapes_of C) t >>= parts_of) (λ ts e. (let (us, e1, k) = bind_some e in parts_formed us ts (fields_formed t us h e1) k))

  new_formed : (fs : List (Option ℕ)) (ts : List Tree) → list_all (type_formed C) ts ≡ true → list_all (type_formed C) (new_types (shapes_of C) fs ts) ≡ true
  new_formed [] ts h = refl
  new_formed (Some n ∷ fs) [] h = refl
  new_formed (None ∷ fs) [] h = refl
  new_formed (Some n ∷ fs) (t ∷ ts) h = list_all-append (type_formed C) (field_types (shapes_of C) t) (new_types (shapes_of C) fs ts) ∙ and_from _ _ (field_types_formed t (and_true-left (type_formed C t) (list_all (type_formed C) ts) h)) (new_formed fs ts (and_true-right (type_formed C t) (list_all (type_formed C) ts) h))
  new_formed (None ∷ fs) (t ∷ ts) h = new_formed fs ts (and_true-right (type_formed C t) (list_all (type_formed C) ts) h)

  -- ---- the body

  module _ (b : TypedBody) (formed : body_formed C b ≡ true) (kept : BodyKeeps C b) where
    abbrev D : List Shape
    D = shapes_of C

    abbrev b2 : TypedBody
    b2 = split_by (shapes_of C) (firsts (shapes_of C) b) b

    abbrev S : First
    S = first_of (firsts (shapes_of C) b)

    abbrev fields : Fields
    fields = fields_at (shapes_of C) b.locals

    many : length (split_by (shapes_of C) (firsts (shapes_of C) b) b).blocks ≡ length b.blocks
    many = length-map b.blocks (split_block (first_of (firsts (shapes_of C) b)) (fields_at (shapes_of C) b.locals))

    good : (i n : ℕ) (k : TypedBlock) (t : TypedStmt) → slice_get b.blocks i ≡ Some k → slice_get (flat_map (split_stmt S fields) k.stmts) n ≡ Some t → (stmt_formed C b2 t ≡ true) × (statement_broken D b.args b2.locals t ≡ [])
    good i n k t e e2 = (let g = good_at C valid b b2 formed refl many (flat_map (split_stmt S fields) k.stmts) (stmts_good C valid b b2 formed refl many k.stmts (λ m x at. (known_at C b formed kept i m k x e at, stmt_formed_at C b formed i m k x e at))) n t e2 in (g.0, typed_stmt D b.args b2.locals t g.1))

    blocks_formed : BlocksFormed C b2
    blocks_formed j k2 e =
        let (k, at, same) = map_back (split_block S fields) b.blocks j k2 e in
        let stmts : list_all (stmt_formed C b2) (flat_map (split_stmt S fields) k.stmts) ≡ true = list_all_true (stmt_formed C b2) (flat_map (split_stmt S fields) k.stmts) (λ n t e2. (good j n k t at e2).0) in
        let term = term_kept D b C b2 refl many k.term (term_fits C b formed kept j k at) (term_formed_at C b formed j k at) in
        subst (λ k2. block_formed C b2 k2 ≡ true) same (and_from _ _ stmts term)

    pub split_formed : body_formed C (split_by (shapes_of C) (firsts (shapes_of C) b) b) ≡ true
    unfolding body_formed
    split_formed =
        let locals = list_all (type_formed C) b.locals in
        let blocks = list_all (block_formed C b) b.blocks in
        let types = and_true-left locals blocks (and_true-right (has_start b) (locals && blocks) formed) in
        let start = and_true-left (nat_lt 0 (length b.blocks)) (nat_lt b.args (length b.locals)) (and_true-left (has_start b) (locals && blocks) formed) in
        let long = length-append b.locals (new_types D (firsts D b) b.locals) in
        let below = args_below C b formed in
        and_from _ _ (and_from _ _ (ap (λ n. nat_lt 0 n) many ∙ start) (lt-ltb b.args (length b2.locals) (omega (arith, long, below))))
        (and_from _ _ (list_all-append (type_formed C) b.locals (new_types D (firsts D b) b.locals) ∙ and_from _ _ types (new_formed (firsts D b) b.locals types)) (list_all_true (block_formed C b2) b2.blocks blocks_formed))

    pub split_keeps : BodyKeeps C (split_by (shapes_of C) (firsts (shapes_of C) b) b)
    unfolding term_formed
    split_keeps = record {
      stmts = λ j i k2 t e e2.
          let (k, at, same) = map_back (split_block S fields) b.blocks j k2 e in
          (good j i k t at (ap (λ (k : TypedBlock). slice_get k.stmts i) same ∙ e2)).1;
      terms = λ j k2 e.
          let (k, at, same) = map_back (split_block S fields) b.blocks j k2 e in
          let typed = term_typed C D b.locals k.term (and_true-left (call_formed C k.term) _ (term_formed_at C b formed j k at)) (kept.terms j k at) in
          subst (λ (k2 : TypedBlock). terminator_broken C D b2.locals k2.term ≡ []) same (typed_term C D b2.locals (split_term S k.term) (term_keeps D b C k.term (term_fits C b formed kept j k at) typed));
    }

-- ---- in the place of the body

pub split_is : (D : List Shape) (b : TypedBody) → split_by D (firsts D b) b ≡ split D b
unfolding split
split_is D b = refl

pub alike_by : (C : Crate) (g : TypedFunction) → body_formed C g.body ≡ true → Alike (with_body g (split_by (shapes_of C) (firsts (shapes_of C) g.body) g.body)) g
alike_by C g formed = record { is_drop = refl; args = refl; start = take_front (suc g.body.args) g.body.locals (new_types (shapes_of C) (firsts (shapes_of C) g.body) g.body.locals) (let l = args_below C g.body formed in omega (arith, l)) }

pub valid_by : (C : Crate) → Valid C → (f : ℕ) (g : TypedFunction) → slice_get C.functions f ≡ Some g → Valid (at_function C f g (split_by (shapes_of C) (firsts (shapes_of C) g.body) g.body))
valid_by C valid f g there =
    let formed = body_formed_at C valid f g there in
    let kept = (keeps C valid).bodies f g there in
    valid_put C f g (split_by (shapes_of C) (firsts (shapes_of C) g.body) g.body) valid there (alike_by C g formed) (split_formed C valid g.body formed kept) (split_keeps C valid g.body formed kept)

by_firsts : (C : Crate) (f : ℕ) (b : TypedBody) (v : ValidAt C f b) → ValidAt C f (split_by (shapes_of (at_function C f v.function b)) (firsts (shapes_of (at_function C f v.function b)) b) b)
by_firsts C f b v =
    let C2 = at_function C f v.function b in
    let D = shapes_of C2 in
    let at = holds_body C f b v in
    let formed = body_formed_at C2 v.valid f (with_body v.function b) at in
    let kept = (keeps C2 v.valid).bodies f (with_body v.function b) at in
    let blocks = v.blocks in
    let long = length-append b.locals (new_types D (firsts D b) b.locals) in
    let room = few D b (length b.locals) 0 b.locals v.locals in
    let many = length-map b.blocks (split_block (first_of (firsts D b)) (fields_at D b.locals)) in
    valid_again C f b (split_by D (firsts D b) b) v refl (alike_by C2 (with_body v.function b) formed).start (split_formed C2 v.valid b formed kept) (split_keeps C2 v.valid b formed kept) (omega (arith, many, blocks)) (omega (arith, long, room))

pub split_stays_valid : (C : Crate) (f : ℕ) (b : TypedBody) (v : ValidAt C f b) → ValidAt C f (split (shapes_of (at_function C f v.function b)) b)
split_stays_valid C f b v = subst (ValidAt C f) (split_is (shapes_of (at_function C f v.function b)) b) (by_firsts C f b v)

-- ---- drops and calls

drop_same : (z : First) (t : Term) → is_drop (split_term z t) ≡ is_drop t
drop_same z (Goto u) = refl
drop_same z (Switch o arms u) = refl
drop_same z Return = refl
drop_same z Unreachable = refl
drop_same z (Drop p u) = refl
drop_same z (Call p g os u) = refl
drop_same z (Assert o e x os u) = refl

pub split_no_drops : (D : List Shape) (b : TypedBody) → NoDrops b → NoDrops (split D b)
unfolding split
split_no_drops D b h = record {
  none = λ i k2 e.
      let z = first_of (firsts D b) in
      let (k, at, is) = map_back (split_block z (fields_at D b.locals)) b.blocks i k2 e in
      ap (λ (k : TypedBlock). is_drop k.term) (sym is) ∙ drop_same z k.term ∙ h.none i k at;
}

-- a call of the new text is one of the old
call_back : (z : First) (t : Term) (p : Place) (g : Callee) (os : List Operand) (next : ℕ) → split_term z t ≡ Call p g os next → (q : Place) × (ps : List Operand) × (t ≡ Call q g ps next)
call_back z (Goto u) p g os next e = absurd (grind arith)
call_back z (Switch o arms u) p g os next e = absurd (grind arith)
call_back z Return p g os next e = absurd (grind arith)
call_back z Unreachable p g os next e = absurd (grind arith)
call_back z (Drop q u) p g os next e = absurd (grind arith)
call_back z (Call q h ps u) p g os next e = (q, ps, ap₂ (λ h u. Call q h ps u) (let w : h ≡ g = grind arith in w) (let w : u ≡ next = grind arith in w))
call_back z (Assert o c x ps u) p g os next e = absurd (grind arith)

pub split_adds_no_call : (D : List Shape) (b : TypedBody) → AddsNoCall (split D b) b
unfolding split
split_adds_no_call D b g (i, k2, p, os, next, at, is) =
    let z = first_of (firsts D b) in
    let (k, at1, same) = map_back (split_block z (fields_at D b.locals)) b.blocks i k2 at in
    let (q, ps, is1) = call_back z k.term p g os next (ap (λ (k : TypedBlock). k.term) same ∙ is) in
    (i, k, q, ps, next, at1, is1)
