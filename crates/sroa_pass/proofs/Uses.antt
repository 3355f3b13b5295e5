-- What an assignment that copies, moves or builds says of its places.
use Rattle.std.proofs.Common.{◌≡◌, ◌⊎◌, inl, inr, refl, sym, ap, ap₂, ◌∙◌, ℕ, Bool, true, false, ◌&&◌, List, [], Option, Some, None, is_some, slice_get, arith}
use Rattle.std.specs.List.{list_all}
use Rattle.mir_syntax.specs.declared.body.Place.{Place}
use Rattle.mir_syntax.specs.declared.body.Const.{Const}
use Rattle.mir_syntax.specs.declared.body.Const.TheVariants as constant
use Rattle.mir_syntax.specs.declared.body.Operand.{Operand}
use Rattle.mir_syntax.specs.declared.body.Operand.TheVariants as operand
use Rattle.mir_syntax.specs.Tree.{Tree, empty, more}
use Rattle.mir_syntax.specs.Crate.{TypedRvalue, «use», assign, TypedBody}
use Rattle.mir_syntax.specs.Shapes.{Shape, fields_of, path_ty, place_ty}
use Rattle.mir_syntax.specs.Parts.{rvalue_places}
use Rattle.mir_syntax.proofs.Binds.{bind_some}
use Rattle.mir_rules.specs.Typing.{const_ty, operand_ty, rvalue_ty}
use Rattle.mir_rules.proofs.Lists.{and_true-left}
use Rattle.mir_rules.proofs.Typed.{typed_rvalue}
use Rattle.sroa_pass.specs.Split.{parts_of, field_types, is_nil, is_whole, by_field, takes_whole, hands_on, Fields, is_split, fields_at}
use Rattle.sroa_pass.proofs.Fields.{Rows, parts_rows, parts_more}
use Rattle.sroa_pass.proofs.Planned.{val, s, plan, chosen, chosen_fields, split_at, has_fields, Fits, AllFit, all_fit}
use Rattle.sroa_pass.proofs.Ways.{Known, Whole, read, split_parts, whole_parts}

module _ (D : List Shape) (b : TypedBody) where
  abbrev fields : Fields
  fields = fields_at D b.locals

  -- ---- types

  pub whole_ty : (p : Place) (t : Tree) → p.proj ≡ [] → place_ty D b.locals p ≡ Some t → slice_get b.locals p.local ≡ Some t
  unfolding place_ty
  whole_ty p t n e = let (u, e1, e2) = bind_some e in e1 ∙ sym (ap (λ ps. path_ty D u ps) n) ∙ e2

  pub used_ty : (p q : Place) (o : Operand) → (o ≡ operand.Copy q) ⊎ (o ≡ operand.Move q) → (k : Known D b (assign p («use» o))) → place_ty D b.locals q ≡ Some k.typed.ty
  unfolding rvalue_ty operand_ty
  used_ty p q o (inl i) k = sym (ap (operand_ty D b.locals) i) ∙ k.typed.rvalue
  used_ty p q o (inr i) k = sym (ap (operand_ty D b.locals) i) ∙ k.typed.rvalue

  -- the place that is copied or moved
  unfoldable pub used_whole : (p q : Place) (o : Operand) → (o ≡ operand.Copy q) ⊎ (o ≡ operand.Move q) → (k : Known D b (assign p («use» o))) → Whole D b q
  used_whole p q o i k = record { ty = k.typed.ty; is = used_ty p q o i k; inside = λ y e. go i (read D b fields p («use» o) k q.local y e) }
    where
      at : (o ≡ operand.Copy q) ⊎ (o ≡ operand.Move q) → (list_all (by_field q.local) (rvalue_places («use» o)) ≡ true) → by_field q.local q ≡ true
      at (inl i) h = and_true-left (by_field q.local q) true (sym (ap (λ o. list_all (by_field q.local) (rvalue_places («use» o))) i) ∙ h)
      at (inr i) h = and_true-left (by_field q.local q) true (sym (ap (λ o. list_all (by_field q.local) (rvalue_places («use» o))) i) ∙ h)

      taken : (o ≡ operand.Copy q) ⊎ (o ≡ operand.Move q) → takes_whole q.local («use» o) ≡ true → is_whole q.local q ≡ true
      taken (inl i) h = sym (ap (λ o. takes_whole q.local («use» o)) i) ∙ h
      taken (inr i) h = sym (ap (λ o. takes_whole q.local («use» o)) i) ∙ h

      go : (o ≡ operand.Copy q) ⊎ (o ≡ operand.Move q) → (list_all (by_field q.local) (rvalue_places («use» o)) ≡ true) ⊎ (hands_on q.local p («use» o) ≡ true) → (by_field q.local q ≡ true) ⊎ (q.proj ≡ [])
      go i (inl h) = inl (at i h)
      go i (inr h) = inr (whole_parts D b fields p («use» o) q.local q (taken i (and_true-left (takes_whole q.local («use» o)) _ h))).1

  -- a part that fits, or all of a split local
  pub split_or_fits : (p : Place) (r : TypedRvalue) (q : Place) → Whole D b q → ((y : ℕ) × (q.proj ≡ []) × (s D b q.local ≡ Some y)) ⊎ Fits D b q
  split_or_fits p r q h = go (is_split (s D b) q) refl
    where
      go : (c : Bool) → is_split (s D b) q ≡ c → ((y : ℕ) × (q.proj ≡ []) × (s D b q.local ≡ Some y)) ⊎ Fits D b q
      go true e = inl (split_parts D b fields p r q e)
      go false e = inr (record { ty = h.ty; is = h.is; inside = λ y z. by y z (h.inside y z) })
        where
          by : (y : ℕ) → s D b q.local ≡ Some y → (by_field q.local q ≡ true) ⊎ (q.proj ≡ []) → by_field q.local q ≡ true
          by y z (inl l) = l
          by y z (inr n) = absurd (let k : true ≡ false = sym (ap₂ (λ ps o. is_nil ps && is_some o) n z) ∙ e in grind arith)

  -- what is built is of parts that fit
  pub built_fit : (p : Place) (r : TypedRvalue) → Known D b (assign p r) → ((x : ℕ) → takes_whole x r ≡ false) → AllFit D b (rvalue_places r)
  built_fit p r k none = all_fit D b (rvalue_places r) (typed_rvalue D b.locals r k.typed.ty k.typed.rvalue) (λ x y e. go x (read D b fields p r k x y e))
    where
      go : (x : ℕ) → (list_all (by_field x) (rvalue_places r) ≡ true) ⊎ (hands_on x p r ≡ true) → list_all (by_field x) (rvalue_places r) ≡ true
      go x (inl h) = h
      go x (inr h) = absurd (let z : true ≡ false = sym (and_true-left (takes_whole x r) _ h) ∙ none x in grind arith)

  pub const_typed : {p : Place} (c : Const) (k : Known D b (assign p («use» (operand.Const c)))) → const_ty c ≡ k.typed.ty
  unfolding rvalue_ty operand_ty
  const_typed c k = val k.typed.rvalue

  -- ---- what is done

  -- the fields of a split local
  pub record Parts (x y : ℕ) (t : Tree) : Type 0 where
    pub sp : (plan D b).split x ≡ Some y
    pub tuple : Tree
    pub is : fields_of D t ≡ Some tuple
    pub parts : parts_of tuple ≡ Some (fields_at D b.locals x)
    pub rows : Rows tuple
    pub first : Tree
    pub rest : Tree
    pub some : tuple ≡ more first rest
    pub any : (u : Tree) → slice_get b.locals x ≡ Some u → fields_of D u ≡ Some tuple

  pub parts : (x y : ℕ) (t : Tree) → s D b x ≡ Some y → slice_get b.locals x ≡ Some t → Parts x y t
  parts x y t e h =
      let c = chosen D b x y e in
      let same : t ≡ c.ty = val (sym h ∙ c.there) in
      let tuple = c.splits.tuple in
      let ps : parts_of tuple ≡ Some (fields_at D b.locals x) = c.splits.parts ∙ ap Some (sym (chosen_fields D b x y c)) in
      let (u, us, is) = parts_more tuple (field_types D c.ty) c.splits.parts (has_fields D b x c.ty c.may) in
      record {
        sp = split_at D b x y e;
        tuple = tuple;
        is = ap (fields_of D) same ∙ c.splits.fields;
        parts = ps;
        rows = parts_rows tuple (field_types D c.ty) c.splits.parts;
        first = u;
        rest = us;
        some = is;
        any = λ v g. ap (fields_of D) (let z : v ≡ c.ty = val (sym g ∙ c.there) in z) ∙ c.splits.fields;
      }

  -- no constant has fields
  pub no_const : {x y : ℕ} {t : Tree} (c : Const) → Parts x y t → const_ty c ≡ t → ⊥
  no_const (constant.Int i n) h e = (let z : ◌≡◌ {A = Option Tree} None (Some h.tuple) = ap (fields_of D) e ∙ h.is in grind arith)
  no_const (constant.Bool v) h e = (let z : ◌≡◌ {A = Option Tree} None (Some h.tuple) = ap (fields_of D) e ∙ h.is in grind arith)
  no_const constant.Unit h e = (let z : ◌≡◌ {A = Option Tree} (Some empty) (Some (more h.first h.rest)) = ap (fields_of D) e ∙ h.is ∙ ap Some h.some in grind arith)
