-- The three ways in which an assignment is split: it fills a split local, hands one on, or stays one assignment.
use Rattle.std.proofs.Common.{◌≡◌, ◌⊎◌, inl, inr, refl, sym, ap, ap₂, ◌∙◌, ℕ, ◌<◌, Bool, true, false, not, ◌&&◌, ◌||◌, nat_eq, List, [], ◌∷◌, ◌++◌, length, Option, Some, None, is_some, arith, eq-eqb, eqb-true}
use Rattle.std.specs.List.{list_all}
use Rattle.std.proofs.lemmas.Bool.{not-true}
use Rattle.mir_syntax.specs.declared.body.Proj.{Proj}
use Rattle.mir_syntax.specs.declared.body.Proj.TheVariants.{Field, Downcast, Deref}
use Rattle.mir_syntax.specs.declared.body.Place.{Place}
use Rattle.mir_syntax.specs.declared.body.Operand.TheVariants as operand
use Rattle.mir_syntax.specs.Tree.{Tree}
use Rattle.mir_syntax.specs.Crate.{TypedRvalue, «use», binary, overflow, unary, cast, discriminant, tuple, build, TypedStmt, assign, storage_live, storage_dead, set_discriminant, TypedBody}
use Rattle.mir_syntax.specs.Crate as rvalue
use Rattle.mir_syntax.specs.Shapes.{◌>>=◌, Shape, fields_of, field_ty, path_ty, place_ty}
use Rattle.mir_syntax.specs.Parts.{has_deref, begins_with_field, rvalue_places}
use Rattle.mir_syntax.proofs.Binds.{bind_some, some_bind}
use Rattle.mir_syntax.proofs.Bools.{if_true, if_false}
use Rattle.mir_rules.proofs.Lists.{and_true-left, and_true-right}
use Rattle.mir_rules.proofs.Statements.{StmtTyped}
use Rattle.mir_rules.proofs.Typed.{typed_rvalue}
use Rattle.escape_info.specs.Borrowed.{borrowed}
use Rattle.sroa_pass.specs.Split.{is_nil, is_whole, is_apart, by_field, gives_fields, takes_whole, fills, hands_on, allows_stmt, First, Fields, used_place, is_split, spread, spread_read, by_fields, field_at}
use Rattle.sroa_pass.proofs.Planned.{val, s, Fits, AllFit, all_fit}

pub or_true : (a b : Bool) → (a || b) ≡ true → (a ≡ true) ⊎ (b ≡ true)
or_true true b h = inl refl
or_true false b h = inr h

pub nil_is : {A : Type 0} (xs : List A) → is_nil xs ≡ true → xs ≡ []
nil_is [] h = refl
nil_is (x ∷ xs) h = absurd (grind arith)

-- a field of a whole local, or of a part in a field
appended : (ps : List Proj) (i : ℕ) → (begins_with_field ps ≡ true) ⊎ (ps ≡ []) → begins_with_field (ps ++ Field i ∷ []) ≡ true
appended [] i h = refl
appended (Field j ∷ ps) i h = refl
appended (Downcast k ∷ ps) i (inl h) = absurd (grind arith)
appended (Deref ∷ ps) i (inl h) = absurd (grind arith)
appended (Downcast k ∷ ps) i (inr h) = absurd (grind arith)
appended (Deref ∷ ps) i (inr h) = absurd (grind arith)

path_end : (D : List Shape) (ps : List Proj) (t u us f : Tree) (i : ℕ) → path_ty D t ps ≡ Some u → fields_of D u ≡ Some us → field_ty us i ≡ Some f → path_ty D t (ps ++ Field i ∷ []) ≡ Some f
path_end D [] t u us f i e g h = some_bind _ (ap (λ t. fields_of D t >>= λ u. field_ty u i) (val e) ∙ some_bind _ g h) refl
path_end D (p ∷ ps) t u us f i e g h = let (v, e1, k) = bind_some e in some_bind _ e1 (path_end D ps v u us f i k g h)

-- the type of a field of a place
pub field_typed : (D : List Shape) (ts : List Tree) (q : Place) (t us f : Tree) (i : ℕ) → place_ty D ts q ≡ Some t → fields_of D t ≡ Some us → field_ty us i ≡ Some f → place_ty D ts (field_at q i) ≡ Some f
unfolding place_ty
field_typed D ts q t us f i e g h = let (v, e1, k) = bind_some e in some_bind _ e1 (path_end D q.proj v t us f i k g h)

module _ (D : List Shape) (b : TypedBody) where
  abbrev S : First
  S = s D b

  abbrev pub Lends : TypedStmt → Type 0
  Lends (assign p (rvalue.ref q)) = has_deref q.proj ≡ false → borrowed D b q.local ≡ true
  Lends (assign p (rvalue.ref_mut q)) = has_deref q.proj ≡ false → borrowed D b q.local ≡ true
  Lends x = Unit {0}

  abbrev pub There : TypedStmt → Type 0
  There (storage_live x) = x < length b.locals
  There (storage_dead x) = x < length b.locals
  There x = Unit {0}

  -- what a valid body says of its statements
  pub record Known (x : TypedStmt) : Type 0 where
    pub typed : StmtTyped D b.args b.locals x
    pub allowed : (z y : ℕ) → s D b z ≡ Some y → allows_stmt z x ≡ true
    pub lends : Lends x
    pub there : There x

  -- a place that fits, or the whole of a local that is split
  pub record Whole (q : Place) : Type 0 where
    pub ty : Tree
    pub is : place_ty D b.locals q ≡ Some ty
    pub inside : (y : ℕ) → s D b q.local ≡ Some y → (by_field q.local q ≡ true) ⊎ (q.proj ≡ [])

  pub field_fits : (q : Place) (h : Whole q) (us f : Tree) (i : ℕ) → fields_of D h.ty ≡ Some us → field_ty us i ≡ Some f → Fits D b (field_at q i)
  field_fits q h us f i g k = record {
    ty = f;
    is = field_typed D b.locals q h.ty us f i h.is g k;
    inside = λ y e. go (h.inside y e);
  }
    where
      own : (c d : Bool) → c ≡ true → (not c || d) ≡ true → d ≡ true
      own true d q h = h
      own false d q h = absurd (grind arith)

      begin : (d : Bool) → begins_with_field (q.proj ++ Field i ∷ []) ≡ true → (not (nat_eq q.local q.local) || begins_with_field (q.proj ++ Field i ∷ [])) ≡ true
      begin d k = by (not (nat_eq q.local q.local)) k
        where
          by : (c : Bool) → begins_with_field (q.proj ++ Field i ∷ []) ≡ true → (c || begins_with_field (q.proj ++ Field i ∷ [])) ≡ true
          by true k = refl
          by false k = k

      go : (by_field q.local q ≡ true) ⊎ (q.proj ≡ []) → by_field q.local (field_at q i) ≡ true
      go (inl l) = begin true (appended q.proj i (inl (own (nat_eq q.local q.local) (begins_with_field q.proj) (eq-eqb q.local q.local refl) l)))
      go (inr l) = begin true (appended q.proj i (inr l))

  module _ (fields : Fields) (p : Place) (r : TypedRvalue) where
    -- a split local is filled
    pub record Filled : Type 0 where
      pub first : ℕ
      pub whole : p.proj ≡ []
      pub chosen : s D b p.local ≡ Some first
      pub gives : gives_fields r ≡ true
      pub apart : list_all (is_apart p.local) (rvalue_places r) ≡ true
      pub spreads : by_fields (s D b) fields p r ≡ spread (fields p.local) p r

    -- a split local is handed on
    pub record Handed : Type 0 where
      pub from : Place
      pub first : ℕ
      pub used : used_place r ≡ Some from
      pub whole : from.proj ≡ []
      pub chosen : s D b from.local ≡ Some first
      pub apart : is_apart from.local p ≡ true
      pub plain : has_deref p.proj ≡ false
      pub fits : Fits D b p
      pub spreads : by_fields (s D b) fields p r ≡ spread (fields from.local) p r

    -- neither
    pub record Stays : Type 0 where
      pub fits : Fits D b p
      pub all : AllFit D b (rvalue_places r)
      pub stays : by_fields (s D b) fields p r ≡ assign p r ∷ []

    abbrev pub Way : Type 0
    Way = Filled ⊎ (Handed ⊎ Stays)

    -- the whole of a split local is not in a field of it
    not_by_field : (x : ℕ) (q : Place) → q.local ≡ x → q.proj ≡ [] → by_field x q ≡ true → ⊥
    not_by_field x q e n h = (
        let z : (not (nat_eq q.local x) || begins_with_field q.proj) ≡ false = ap₂ (λ c ps. not c || begins_with_field ps) (eq-eqb q.local x e) n in
        let k : true ≡ false = sym h ∙ z in
        grind arith)

    is_some_of : (o : Option ℕ) → is_some o ≡ true → (y : ℕ) × (o ≡ Some y)
    is_some_of None h = absurd (grind arith)
    is_some_of (Some y) h = (y, refl)

    -- a place is whole and split, or isn't
    pub split_parts : (q : Place) → is_split (s D b) q ≡ true → (y : ℕ) × (q.proj ≡ []) × (s D b q.local ≡ Some y)
    split_parts q h = let (y, e) = is_some_of (s D b q.local) (and_true-right (is_nil q.proj) (is_some (s D b q.local)) h) in (y, nil_is q.proj (and_true-left (is_nil q.proj) (is_some (s D b q.local)) h), e)

    pub whole_parts : (x : ℕ) (q : Place) → is_whole x q ≡ true → (q.local ≡ x) × (q.proj ≡ [])
    whole_parts x q h = (eqb-true q.local x (and_true-left (nat_eq q.local x) (is_nil q.proj) h), nil_is q.proj (and_true-right (nat_eq q.local x) (is_nil q.proj) h))

    -- the whole of a split local is split
    pub whole_split : (x y : ℕ) (q : Place) → s D b x ≡ Some y → is_whole x q ≡ true → is_split (s D b) q ≡ true
    whole_split x y q e h = let (same, n) = whole_parts x q h in ap₂ (λ ps o. is_nil ps && is_some o) n (ap (s D b) same ∙ e)

    taken : (x : ℕ) → takes_whole x r ≡ true → (q : Place) × (used_place r ≡ Some q) × (is_whole x q ≡ true)
    taken x h = go r h
      where
        go : (r : TypedRvalue) → takes_whole x r ≡ true → (q : Place) × (used_place r ≡ Some q) × (is_whole x q ≡ true)
        go («use» (operand.Copy q)) h = (q, refl, h)
        go («use» (operand.Move q)) h = (q, refl, h)
        go («use» (operand.Const c)) h = absurd (grind arith)
        go (binary op a c) h = absurd (grind arith)
        go (overflow op a c) h = absurd (grind arith)
        go (unary op a) h = absurd (grind arith)
        go (cast a t) h = absurd (grind arith)
        go (rvalue.ref q) h = absurd (grind arith)
        go (rvalue.ref_mut q) h = absurd (grind arith)
        go (discriminant q) h = absurd (grind arith)
        go (tuple os) h = absurd (grind arith)
        go (build d k os) h = absurd (grind arith)

    used_places : (q : Place) → used_place r ≡ Some q → rvalue_places r ≡ q ∷ []
    used_places q h = go r h
      where
        go : (r : TypedRvalue) → used_place r ≡ Some q → rvalue_places r ≡ q ∷ []
        go («use» (operand.Copy p)) h = ap (λ q. q ∷ []) (val h)
        go («use» (operand.Move p)) h = ap (λ q. q ∷ []) (val h)
        go («use» (operand.Const c)) h = absurd (grind arith)
        go (binary op a c) h = absurd (grind arith)
        go (overflow op a c) h = absurd (grind arith)
        go (unary op a) h = absurd (grind arith)
        go (cast a t) h = absurd (grind arith)
        go (rvalue.ref q) h = absurd (grind arith)
        go (rvalue.ref_mut q) h = absurd (grind arith)
        go (discriminant q) h = absurd (grind arith)
        go (tuple os) h = absurd (grind arith)
        go (build d k os) h = absurd (grind arith)

    module _ (known : Known (assign p r)) where
      abbrev Reads : ℕ → Bool
      Reads x = list_all (by_field x) (rvalue_places r) || hands_on x p r

      abbrev Writes : ℕ → Bool
      Writes x = by_field x p || fills x p r

      written : (x y : ℕ) → s D b x ≡ Some y → (by_field x p ≡ true) ⊎ (fills x p r ≡ true)
      written x y e = or_true (by_field x p) (fills x p r) (and_true-left (Writes x) (Reads x) (known.allowed x y e))

      pub read : (x y : ℕ) → s D b x ≡ Some y → (list_all (by_field x) (rvalue_places r) ≡ true) ⊎ (hands_on x p r ≡ true)
      read x y e = or_true (list_all (by_field x) (rvalue_places r)) (hands_on x p r) (and_true-right (Writes x) (Reads x) (known.allowed x y e))

      -- where the place isn't all of a split local, it fits
      fits : is_split (s D b) p ≡ false → Fits D b p
      fits n = record { ty = known.typed.ty; is = known.typed.place; inside = λ y e. go y e (written p.local y e) }
        where
          go : (y : ℕ) → s D b p.local ≡ Some y → (by_field p.local p ≡ true) ⊎ (fills p.local p r ≡ true) → by_field p.local p ≡ true
          go y e (inl h) = h
          go y e (inr h) = absurd (let z : true ≡ false = sym (whole_split p.local y p e (and_true-left (is_whole p.local p) _ h)) ∙ n in grind arith)

      pub way : Way
      way = by_place (is_split (s D b) p) refl
        where
          filled : (y : ℕ) → p.proj ≡ [] → s D b p.local ≡ Some y → is_split (s D b) p ≡ true → (by_field p.local p ≡ true) ⊎ (fills p.local p r ≡ true) → Way
          filled y n e h (inl k) = absurd (not_by_field p.local p refl n k)
          filled y n e h (inr k) =
              let inner = and_true-right (is_whole p.local p) (gives_fields r && list_all (is_apart p.local) (rvalue_places r)) k in
              inl (record { first = y; whole = n; chosen = e; gives = and_true-left (gives_fields r) _ inner; apart = and_true-right (gives_fields r) _ inner; spreads = if_true (spread (fields p.local) p r) (spread_read (s D b) fields p r (used_place r)) h })

          -- no split local is read whole
          stays : is_split (s D b) p ≡ false → ((q : Place) → used_place r ≡ Some q → is_split (s D b) q ≡ false) → by_fields (s D b) fields p r ≡ assign p r ∷ [] → Way
          stays n none same = inr (inr (record { fits = fits n; all = all_fit D b (rvalue_places r) (typed_rvalue D b.locals r known.typed.ty known.typed.rvalue) (λ x y e. each x y e (read x y e)); stays = same }))
            where
              each : (x y : ℕ) → s D b x ≡ Some y → (list_all (by_field x) (rvalue_places r) ≡ true) ⊎ (hands_on x p r ≡ true) → list_all (by_field x) (rvalue_places r) ≡ true
              each x y e (inl h) = h
              each x y e (inr h) = (
                  let (q, u, w) = taken x (and_true-left (takes_whole x r) (is_apart x p && not (has_deref p.proj)) h) in
                  let z : true ≡ false = sym (whole_split x y q e w) ∙ none q u in
                  absurd (grind arith))

          handed : (q : Place) (y : ℕ) → is_split (s D b) p ≡ false → used_place r ≡ Some q → q.proj ≡ [] → s D b q.local ≡ Some y → is_split (s D b) q ≡ true → (list_all (by_field q.local) (rvalue_places r) ≡ true) ⊎ (hands_on q.local p r ≡ true) → Way
          handed q y n u w e h (inl k) = absurd (not_by_field q.local q refl w (and_true-left (by_field q.local q) true (sym (ap (list_all (by_field q.local)) (used_places q u)) ∙ k)))
          handed q y n u w e h (inr k) =
              let inner = and_true-right (takes_whole q.local r) (is_apart q.local p && not (has_deref p.proj)) k in
              inr (inl (record { from = q; first = y; used = u; whole = w; chosen = e; apart = and_true-left (is_apart q.local p) _ inner; plain = not-true (has_deref p.proj) (and_true-right (is_apart q.local p) _ inner); fits = fits n; spreads = if_false _ (spread_read (s D b) fields p r (used_place r)) n ∙ ap (spread_read (s D b) fields p r) u ∙ if_true (spread (fields q.local) p r) (assign p r ∷ []) h }))

          by_read : is_split (s D b) p ≡ false → (o : Option Place) → used_place r ≡ o → Way
          by_read n None u = stays n (λ q k. absurd (let z : ◌≡◌ {A = Option Place} None (Some q) = sym u ∙ k in grind arith)) (if_false _ (spread_read (s D b) fields p r (used_place r)) n ∙ ap (spread_read (s D b) fields p r) u)
          by_read n (Some q) u = go (is_split (s D b) q) refl
            where
              go : (c : Bool) → is_split (s D b) q ≡ c → Way
              go true h = let (y, w, e) = split_parts q h in handed q y n u w e h (read q.local y e)
              go false h = stays n (λ q' k. ap (is_split (s D b)) (val (sym k ∙ u)) ∙ h) (if_false _ (spread_read (s D b) fields p r (used_place r)) n ∙ ap (spread_read (s D b) fields p r) u ∙ if_false (spread (fields q.local) p r) (assign p r ∷ []) h)

          by_place : (c : Bool) → is_split (s D b) p ≡ c → Way
          by_place true h = let (y, n, e) = split_parts p h in filled y n e h (written p.local y e)
          by_place false h = by_read h (used_place r) refl
