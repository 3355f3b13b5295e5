-- The plan of a split body: which locals are split, and what stands for its places, operands and terminators.
use Rattle.std.proofs.Common.{◌≡◌, inl, inr, refl, sym, ap, ap₂, ◌∙◌, subst, ℕ, zero, suc, ◌+◌, ◌-◌, ◌<◌, ◌≤◌, Bool, true, false, not, ◌&&◌, ◌||◌, nat_eq, nat_lt, if◌then◌else◌, List, [], ◌∷◌, ◌++◌, map, length, get_or, Option, Some, None, slice_get, arith, ltb-true, lt-ltb, le-ltb, eq-eqb}
use Rattle.mir_syntax.proofs.Trees.{slice_get-front}
use Rattle.std.specs.List.{list_all, list_any, flat_map}
use Rattle.std.proofs.lemmas.Option.{slice_get_within}
use Rattle.std.proofs.lemmas.Bool.{not-true}
use Rattle.mir_rules.proofs.Terminators.{slice_get_there}
use Rattle.mir_syntax.specs.declared.body.Proj.{Proj}
use Rattle.mir_syntax.specs.declared.body.Proj.TheVariants.{Field, Downcast, Deref}
use Rattle.mir_syntax.specs.declared.body.Place.{Place}
use Rattle.mir_syntax.specs.declared.body.Operand.{Operand}
use Rattle.mir_syntax.specs.declared.body.Operand.TheVariants as operand
use Rattle.mir_syntax.specs.declared.body.Term.{Term}
use Rattle.mir_syntax.specs.declared.body.Term.TheVariants.{Goto, Switch, Return, Unreachable, Drop, Call, Assert}
use Rattle.mir_syntax.specs.Tree.{Tree, empty}
use Rattle.mir_syntax.specs.Crate.{TypedStmt, TypedBlock, TypedBody}
use Rattle.mir_syntax.specs.Shapes.{Shape, fields_of, field_ty, path_ty, place_ty}
use Rattle.mir_syntax.specs.Parts.{begins_with_field, operand_places, term_places}
use Rattle.mir_syntax.proofs.Binds.{bind_some}
use Rattle.mir_syntax.proofs.Bools.{if_true, if_false}
use Rattle.mir_syntax.proofs.Lists.{slice_get-behind}
use Rattle.mir_rules.specs.BodyRules.{breaks_v06}
use Rattle.mir_rules.proofs.Lists.{and_true-left, and_true-right, or_false-right, list_all_true-at}
use Rattle.mir_rules.proofs.Typed.{missing, place_typed}
use Rattle.mir_renaming.proofs.Types.{can_hole}
use Rattle.escape_info.specs.Borrowed.{borrowed}
use Rattle.sroa_pass.specs.Split.{field_types, by_field, allows_stmt, allows_block, most_fields, may_split, firsts, new_types, First, moved_to, split_place, split_operand, split_term, first_of, fields_at}
use Rattle.sroa_pass.proofs.Fields.{Splits, splits, parts_at}
use Rattle.sroa_pass.proofs.NewLocals.{get_some, owners_from, is_first}
use Rattle.sroa_pass.proofs.Plans.{Has, Plan, PlaceTo, OperandTo, OperandsTo, TermTo}

pub val : {A : Type 0} {x y : A} → Some x ≡ Some y → x ≡ y
val e = grind arith

abbrev pub stays_if : ℕ → Option ℕ → Option ℕ
stays_if x None = Some x
stays_if x (Some y) = None

module _ (D : List Shape) (b : TypedBody) where
  abbrev pub ts1 : List Tree
  ts1 = b.locals

  abbrev pub ts2 : List Tree
  ts2 = b.locals ++ new_types D (firsts D b) b.locals

  abbrev pub s : First
  s = first_of (firsts D b)

  abbrev pub old : ℕ
  old = length b.locals

  pub owner_of : ℕ → Option (ℕ × ℕ)
  owner_of z = if nat_lt z (length b.locals) then None else slice_get (owners_from D b (firsts D b) 0 b.locals) (z - length b.locals)

  -- a local that is split
  pub record Chosen (x y : ℕ) : Type 0 where
    pub ty : Tree
    pub there : slice_get b.locals x ≡ Some ty
    pub may : may_split D b x ty ≡ true
    pub splits : Splits D ty
    pub above : length b.locals ≤ y
    pub types : (k : ℕ) (u : Tree) → slice_get (field_types D ty) k ≡ Some u → slice_get ts2 (y + k) ≡ Some u
    pub owner : (k : ℕ) (u : Tree) → slice_get (field_types D ty) k ≡ Some u → owner_of (y + k) ≡ Some (x, k)

  pub has_fields : (x : ℕ) (t : Tree) → may_split D b x t ≡ true → nat_lt 0 (length (field_types D t)) ≡ true
  has_fields x t h =
      let n = length (field_types D t) in
      let rest = nat_lt n (suc most_fields) && list_all (allows_block x) b.blocks in
      and_true-left (nat_lt 0 n) rest (and_true-right (not (borrowed D b x)) (nat_lt 0 n && rest) (and_true-right (nat_lt b.args x) (not (borrowed D b x) && (nat_lt 0 n && rest)) h))

  pub chosen : (x y : ℕ) → s x ≡ Some y → Chosen x y
  unfolding owner_of
  chosen x y e =
      let f = is_first D b (length b.locals) 0 b.locals x y (get_some (firsts D b) x y e) in
      let x0 : 0 + x ≡ x = omega arith in
      let may = ap (λ x. may_split D b x f.ty) (sym x0) ∙ f.may in
      let d = f.behind in
      let first : y ≡ length b.locals + d = f.first in
      record {
        ty = f.ty;
        there = f.there;
        may = may;
        splits = splits D f.ty (has_fields x f.ty may);
        above = omega (arith, first);
        types = λ k u g. ap (λ n. slice_get ts2 n) (let z : y + k ≡ length b.locals + (d + k) = omega (arith, first) in z) ∙ slice_get-behind b.locals (new_types D (firsts D b) b.locals) (d + k) ∙ f.types k u g;
        owner = λ k u g. (
            let far : length b.locals ≤ y + k = omega (arith, first) in
            let z : (y + k) - length b.locals ≡ d + k = omega (arith, first) in
            if_false None _ (le-ltb (y + k) (length b.locals) far) ∙ ap (slice_get (owners_from D b (firsts D b) 0 b.locals)) z ∙ f.owner k u g ∙ ap (λ x. Some (x, k)) x0);
      }

  -- what it has is among its type's fields
  pub has_type : (x y i : ℕ) (c : Chosen x y) (h : Has D b.locals x i) → slice_get (field_types D c.ty) i ≡ Some h.field
  has_type x y i c h =
      let t : h.ty ≡ c.ty = val (sym h.is ∙ c.there) in
      let u : h.fields ≡ c.splits.tuple = val (sym h.tuple ∙ ap (fields_of D) t ∙ c.splits.fields) in
      sym (parts_at c.splits.tuple (field_types D c.ty) c.splits.parts i) ∙ ap (λ u. field_ty u i) (sym u) ∙ h.at

  abbrev pub stay : ℕ → Option ℕ
  stay x = if nat_lt x (length b.locals) then stays_if x (s x) else None

  pub stay_is : (x y : ℕ) → stay x ≡ Some y → (x < length b.locals) × (s x ≡ None) × (y ≡ x)
  stay_is x y e = go (nat_lt x (length b.locals)) refl
    where
      here : (o : Option ℕ) → s x ≡ o → nat_lt x (length b.locals) ≡ true → stays_if x o ≡ Some y → (x < length b.locals) × (s x ≡ None) × (y ≡ x)
      here None q l k = (ltb-true x (length b.locals) l, q, sym (val k))
      here (Some z) q l k = absurd (grind arith)

      go : (c : Bool) → nat_lt x (length b.locals) ≡ c → (x < length b.locals) × (s x ≡ None) × (y ≡ x)
      go true l = here (s x) refl l (sym (if_true (stays_if x (s x)) None l) ∙ e)
      go false l = absurd (let z : ◌≡◌ {A = Option ℕ} None (Some y) = sym (if_false (stays_if x (s x)) None l) ∙ e in grind arith)

  pub stay_at : (x : ℕ) → x < length b.locals → s x ≡ None → stay x ≡ Some x
  stay_at x l e = if_true (stays_if x (s x)) None (lt-ltb x (length b.locals) l) ∙ ap (stays_if x) e

  abbrev pub lend : ℕ → Option ℕ
  lend x = if borrowed D b x then stay x else None

  pub lend_stays : (x y : ℕ) → lend x ≡ Some y → stay x ≡ Some y
  lend_stays x y e = go (borrowed D b x) refl
    where
      go : (c : Bool) → borrowed D b x ≡ c → stay x ≡ Some y
      go true q = sym (if_true (stay x) None q) ∙ e
      go false q = absurd (let z : ◌≡◌ {A = Option ℕ} None (Some y) = sym (if_false (stay x) None q) ∙ e in grind arith)

  pub away : (x y : ℕ) → s x ≡ Some y → stay x ≡ None
  away x y e = go (stay x) refl
    where
      go : (o : Option ℕ) → stay x ≡ o → stay x ≡ None
      go None q = q
      go (Some z) q = absurd (let (l, n, same) = stay_is x z q in let k : ◌≡◌ {A = Option ℕ} None (Some y) = sym n ∙ e in grind arith)

  pub kept : (x y : ℕ) → stay x ≡ Some y → slice_get b.locals x ≡ slice_get ts2 y
  kept x y e = (let (l, n, same) = stay_is x y e in go (slice_get b.locals x) refl l same)
    where
      go : (o : Option Tree) → slice_get b.locals x ≡ o → x < length b.locals → y ≡ x → slice_get b.locals x ≡ slice_get ts2 y
      go (Some t) q l same = q ∙ sym (ap (slice_get ts2) same ∙ slice_get-front b.locals (new_types D (firsts D b) b.locals) x t q)
      go None q l same = absurd (let (t, at) = slice_get_there b.locals x l in let z : ◌≡◌ {A = Option Tree} None (Some t) = sym q ∙ at in grind arith)

  pub free : (x y : ℕ) → stay x ≡ Some y → owner_of y ≡ None
  unfolding owner_of
  free x y e = (let (l, n, same) = stay_is x y e in if_true None _ (lt-ltb y (length b.locals) (omega (arith, l, same))))

  unfoldable pub plan : Plan D b.locals ts2
  plan = record {
    split = s;
    stays = stay;
    lent = lend;
    owner = owner_of;
    same = λ x y e. (stay_is x y e).2;
    kept = kept;
    lends = lend_stays;
    away = away;
    back = λ x y i e h. (let c = chosen x y e in c.owner i h.field (has_type x y i c h));
    free = free;
    types = λ x y i e h. (let c = chosen x y e in c.types i h.field (has_type x y i c h));
    solid = λ x y e t q. (let c = chosen x y e in ap (can_hole D) (val (sym q ∙ c.there)) ∙ c.splits.solid);
  }

  pub split_at : (x y : ℕ) → s x ≡ Some y → plan.split x ≡ Some y
  unfolding plan
  split_at x y e = e

  pub split_back : (x y : ℕ) → plan.split x ≡ Some y → s x ≡ Some y
  unfolding plan
  split_back x y e = e

  pub stays_at : (x : ℕ) → x < length b.locals → s x ≡ None → plan.stays x ≡ Some x
  unfolding plan
  stays_at x l e = stay_at x l e

  pub lent_at : (x : ℕ) → x < length b.locals → s x ≡ None → borrowed D b x ≡ true → plan.lent x ≡ Some x
  unfolding plan
  lent_at x l e h = if_true (stay x) None h ∙ stay_at x l e

  -- it has its type in the list
  pub chosen_fields : (x y : ℕ) (c : Chosen x y) → fields_at D b.locals x ≡ field_types D c.ty
  chosen_fields x y c = ap (field_types D) (got b.locals x c.ty c.there)
    where
      got : (ts : List Tree) (x : ℕ) (t : Tree) → slice_get ts x ≡ Some t → get_or ts x empty ≡ t
      got [] x t e = absurd (grind arith)
      got (u ∷ ts) zero t e = val e
      got (u ∷ ts) (suc x) t e = got ts x t e

  -- ---- places

  -- a place that fits, in a field of its local where that is split
  pub record Fits (p : Place) : Type 0 where
    pub ty : Tree
    pub is : place_ty D b.locals p ≡ Some ty
    pub inside : (y : ℕ) → s p.local ≡ Some y → by_field p.local p ≡ true

  begins : (ps : List Proj) → begins_with_field ps ≡ true → (i : ℕ) × (qs : List Proj) × (ps ≡ Field i ∷ qs)
  begins (Field i ∷ ps) h = (i, ps, refl)
  begins (Downcast k ∷ ps) h = absurd (grind arith)
  begins (Deref ∷ ps) h = absurd (grind arith)
  begins [] h = absurd (grind arith)

  own_field : (x : ℕ) (c d : Bool) → c ≡ true → (not c || d) ≡ true → d ≡ true
  own_field x true d q h = h
  own_field x false d q h = absurd (grind arith)

  -- a place in a field has its local's field
  pub field_has : (p : Place) (t : Tree) (i : ℕ) (qs : List Proj) → place_ty D b.locals p ≡ Some t → p.proj ≡ Field i ∷ qs → Has D b.locals p.local i
  unfolding place_ty
  field_has p t i qs e q =
      let (ty, e1, k1) = bind_some e in
      let (field, e2, k2) = bind_some (subst (λ ps. path_ty D ty ps ≡ Some t) q k1) in
      let (fields, e3, k3) = bind_some e2 in
      record { ty = ty; fields = fields; field = field; is = e1; tuple = e3; at = k3 }

  pub place_local : (p : Place) (t : Tree) → place_ty D b.locals p ≡ Some t → p.local < length b.locals
  unfolding place_ty
  place_local p t e = let (ty, e1, k1) = bind_some e in slice_get_within b.locals p.local ty e1

  pub place_to : (p : Place) → Fits p → PlaceTo D b.locals ts2 plan p (split_place s p)
  unfolding plan
  place_to p h = go (s p.local) refl
    where
      go : (o : Option ℕ) → s p.local ≡ o → PlaceTo D b.locals ts2 plan p (split_place s p)
      go None q = (let same : split_place s p ≡ p = ap (λ o. moved_to o p p.proj) q in inl (stay_at p.local (place_local p h.ty h.is) q ∙ ap (λ (z : Place). Some z.local) (sym same), ap (λ (z : Place). z.proj) (sym same)))
      go (Some y) q =
          let (i, qs, is) = begins p.proj (own_field p.local (nat_eq p.local p.local) (begins_with_field p.proj) (eq-eqb p.local p.local refl) (h.inside y q)) in
          let to : Place = record { local = y + i; proj = qs } in
          let same : split_place s p ≡ to = ap₂ (λ o ps. moved_to o p ps) q is in
          inr (record { first = y; field = i; split = q; has = field_has p h.ty i qs h.is is; local = ap (λ (z : Place). z.local) same; proj = is ∙ ap (λ (z : Place). Field i ∷ z.proj) (sym same) })

  abbrev pub AllFit : List Place → Type 0
  AllFit [] = Unit {0}
  AllFit (p ∷ ps) = Fits p × AllFit ps

  pub all_fit : (ps : List Place) → breaks_v06 D b.locals ps ≡ false → ((x y : ℕ) → s x ≡ Some y → list_all (by_field x) ps ≡ true) → AllFit ps
  all_fit [] h k = tt
  all_fit (p ∷ ps) h k =
      let (t, e) = place_typed D b.locals p ps h in
      (record { ty = t; is = e; inside = λ y q. and_true-left (by_field p.local p) (list_all (by_field p.local) ps) (k p.local y q) }, all_fit ps (or_false-right (missing D b.locals p) (list_any (missing D b.locals) ps) h) (λ x y q. and_true-right (by_field x p) (list_all (by_field x) ps) (k x y q)))

  -- ---- operands and terminators

  abbrev pub ToOperand : Operand → Operand → Type 0
  ToOperand = OperandTo D b.locals ts2 plan

  pub operand_to : (o : Operand) (os : List Operand) → AllFit (flat_map operand_places (o ∷ os)) → ToOperand o (split_operand s o) × AllFit (flat_map operand_places os)
  operand_to (operand.Copy p) os h = (place_to p h.0, h.1)
  operand_to (operand.Move p) os h = (place_to p h.0, h.1)
  operand_to (operand.Const c) os h = (refl, h)

  pub operands_to : (os : List Operand) → AllFit (flat_map operand_places os) → OperandsTo D b.locals ts2 plan os (map (split_operand s) os)
  operands_to [] h = tt
  operands_to (o ∷ os) h = let (a, r) = operand_to o os h in (a, operands_to os r)

  pub term_to : (t : Term) → AllFit (term_places t) → TermTo D b.locals ts2 plan t (split_term s t)
  term_to (Goto u) h = refl
  term_to (Switch o arms u) h = ((operand_to o [] h).0, refl, refl)
  term_to Return h = tt
  term_to Unreachable h = tt
  term_to (Drop p u) h = (place_to p h.0, refl)
  term_to (Call p g os u) h = (place_to p h.0, refl, operands_to os h.1, refl)
  term_to (Assert o e words os u) h = let (a, r) = operand_to o os h in (a, refl, refl, operands_to os r, refl)

  -- ---- what the conditions say of each statement and terminator

  pub allowed : (x y i : ℕ) (k : TypedBlock) → s x ≡ Some y → slice_get b.blocks i ≡ Some k → allows_block x k ≡ true
  allowed x y i k e at =
      let c = chosen x y e in
      let n = length (field_types D c.ty) in
      let all = list_all (allows_block x) b.blocks in
      let rest = nat_lt n (suc most_fields) && all in
      let h = and_true-right (nat_lt 0 n) rest (and_true-right (not (borrowed D b x)) (nat_lt 0 n && rest) (and_true-right (nat_lt b.args x) (not (borrowed D b x) && (nat_lt 0 n && rest)) c.may)) in
      list_all_true-at (allows_block x) b.blocks i k (and_true-right (nat_lt n (suc most_fields)) all h) at

  pub allowed_stmt : (x y i n : ℕ) (k : TypedBlock) (st : TypedStmt) → s x ≡ Some y → slice_get b.blocks i ≡ Some k → slice_get k.stmts n ≡ Some st → allows_stmt x st ≡ true
  allowed_stmt x y i n k st e at at2 = list_all_true-at (allows_stmt x) k.stmts n st (and_true-left (list_all (allows_stmt x) k.stmts) (list_all (by_field x) (term_places k.term)) (allowed x y i k e at)) at2

  pub allowed_term : (x y i : ℕ) (k : TypedBlock) → s x ≡ Some y → slice_get b.blocks i ≡ Some k → list_all (by_field x) (term_places k.term) ≡ true
  allowed_term x y i k e at = and_true-right (list_all (allows_stmt x) k.stmts) (list_all (by_field x) (term_places k.term)) (allowed x y i k e at)

  -- it is behind the arguments, and nobody has lent it
  pub behind : (x y : ℕ) → s x ≡ Some y → b.args < x
  behind x y e = ltb-true b.args x (and_true-left (nat_lt b.args x) _ (chosen x y e).may)

  pub unlent : (x y : ℕ) → s x ≡ Some y → borrowed D b x ≡ false
  unlent x y e = not-true (borrowed D b x) (and_true-left (not (borrowed D b x)) _ (and_true-right (nat_lt b.args x) _ (chosen x y e).may))
