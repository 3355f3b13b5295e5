-- The text of a merged body: copies in the place of moves, and then the same text at the locals' homes.
use Rattle.std.proofs.Common.{◌≡◌, refl, sym, ap, ap₂, ◌∙◌, subst, ℕ, zero, suc, Bool, true, false, cond, ◌&&◌, ◌||◌, nat_lt, if◌then◌else◌, List, [], ◌∷◌, ◌++◌, map, length, Some, slice_get, arith}
use Rattle.std.specs.List.{filter, flat_map, list_all, list_any}
use Rattle.mir_syntax.specs.declared.body.Place.{Place}
use Rattle.mir_syntax.specs.declared.body.Operand.{Operand}
use Rattle.mir_syntax.specs.declared.body.Operand.TheVariants as operand
use Rattle.mir_syntax.specs.declared.body.Term.{Term}
use Rattle.mir_syntax.specs.declared.body.Term.TheVariants.{Goto, Switch, Return, Unreachable, Drop, Call, Assert}
use Rattle.mir_syntax.specs.Tree.{Tree, more}
use Rattle.mir_syntax.specs.Crate.{TypedRvalue, «use», binary, overflow, unary, cast, discriminant, tuple, build, TypedStmt, assign, storage_live, storage_dead, set_discriminant, TypedBlock, TypedBody, Crate}
use Rattle.mir_syntax.specs.Crate as rvalue
use Rattle.mir_syntax.specs.Shapes.{◌>>=◌, Shape}
use Rattle.mir_syntax.specs.Parts.{operand_places, rvalue_operands, rvalue_places, term_operands, term_places, targets}
use Rattle.mir_syntax.proofs.Lists.{map_back}
use Rattle.mir_rules.specs.Typing.{binary_ty, overflow_ty, unary_ty, cast_ty, build_ty, operand_ty, operands_ty, rvalue_ty}
use Rattle.mir_rules.specs.BodyRules.{moves_through_destructor, moves_needing_indirectly}
use Rattle.mir_rules.specs.Formed.{operand_formed, place_formed, shape_formed, call_formed, stmt_formed, term_formed}
use Rattle.mir_rules.proofs.Lists.{or_false-left, or_false-right}
use Rattle.mir_rules.proofs.Statements.{MovesKept, StmtTyped}
use Rattle.mir_rules.proofs.Terminators.{TermTyped}
use Rattle.mir_relate.specs.Renumbered.{Numbering, OperandSame, OperandsSame, RvalueSame, StmtSame, TermSame}
use Rattle.dest_prop.specs.Merged.{operand_home, rvalue_home, stmt_home, term_home, stays}

-- ---- the statement that one of the new text comes from

filter_back : {A : Type 0} (p : A → Bool) (xs : List A) (i : ℕ) (x : A) → slice_get (filter p xs) i ≡ Some x → (j : ℕ) × (slice_get xs j ≡ Some x) × (p x ≡ true)
filter_back p [] i x e = absurd (grind arith)
filter_back {A = A} p (y ∷ xs) i x e = go (p y) refl i e (λ i e. filter_back p xs i x e)
  where
    go : (b : Bool) → p y ≡ b → (i : ℕ) → slice_get (cond b (y ∷ filter p xs) (filter p xs)) i ≡ Some x → ((i : ℕ) → slice_get (filter p xs) i ≡ Some x → (j : ℕ) × (slice_get xs j ≡ Some x) × (p x ≡ true)) → (j : ℕ) × (slice_get (y ∷ xs) j ≡ Some x) × (p x ≡ true)
    go true q zero e ih = (0, e, subst (λ z. p z ≡ true) (let s : y ≡ x = grind arith in s) q)
    go true q (suc i) e ih = let (j, a, t) = ih i e in (suc j, a, t)
    go false q i e ih = let (j, a, t) = ih i e in (suc j, a, t)

pub stmt_back : (shared : ℕ → Bool) (home : ℕ → ℕ) (ss : List TypedStmt) (i : ℕ) (t : TypedStmt) → slice_get (map (stmt_home shared home) (filter (stays shared home) ss)) i ≡ Some t → (j : ℕ) × (s : TypedStmt) × (slice_get ss j ≡ Some s) × (stays shared home s ≡ true) × (stmt_home shared home s ≡ t)
stmt_back shared home ss i t e =
    let (s, at, is) = map_back (stmt_home shared home) (filter (stays shared home) ss) i t e in
    let (j, there, st) = filter_back (stays shared home) ss i s at in
    (j, s, there, st, is)

-- ---- copies in the place of moves

module _ (shared : ℕ → Bool) where
  abbrev pub copied : Operand → Operand
  copied (operand.Copy p) = operand.Copy p
  copied (operand.Move p) = if shared p.local then operand.Copy p else operand.Move p
  copied (operand.Const c) = operand.Const c

  abbrev pub copied_rvalue : TypedRvalue → TypedRvalue
  copied_rvalue («use» o) = «use» (copied o)
  copied_rvalue (binary op a c) = binary op (copied a) (copied c)
  copied_rvalue (overflow op a c) = overflow op (copied a) (copied c)
  copied_rvalue (unary op a) = unary op (copied a)
  copied_rvalue (cast a t) = cast (copied a) t
  copied_rvalue (rvalue.ref p) = rvalue.ref p
  copied_rvalue (rvalue.ref_mut p) = rvalue.ref_mut p
  copied_rvalue (discriminant p) = discriminant p
  copied_rvalue (tuple os) = tuple (map copied os)
  copied_rvalue (build d k os) = build d k (map copied os)

  abbrev pub copied_stmt : TypedStmt → TypedStmt
  copied_stmt (assign p r) = assign p (copied_rvalue r)
  copied_stmt s = s

  abbrev pub copied_term : Term → Term
  copied_term (Switch o arms other) = Switch (copied o) arms other
  copied_term (Call p g os next) = Call p g (map copied os) next
  copied_term (Assert o e text os next) = Assert (copied o) e text (map copied os) next
  copied_term t = t

  -- an operand is itself, or a copy where it was a move
  by_operand : (P : Operand → Operand → Type 0) → ((o : Operand) → P o o) → ((p : Place) → P (operand.Move p) (operand.Copy p)) → (o : Operand) → P o (copied o)
  by_operand P self move (operand.Copy p) = self (operand.Copy p)
  by_operand P self move (operand.Move p) = go (shared p.local)
    where
      go : (b : Bool) → P (operand.Move p) (if b then operand.Copy p else operand.Move p)
      go true = move p
      go false = self (operand.Move p)
  by_operand P self move (operand.Const c) = self (operand.Const c)

  module _ (D : List Shape) (ts : List Tree) where
    operand_kept : (o : Operand) → operand_ty D ts (copied o) ≡ operand_ty D ts o
    unfolding operand_ty
    operand_kept o = by_operand (λ o p. operand_ty D ts p ≡ operand_ty D ts o) (λ o. refl) (λ p. refl) o

    operands_kept : (os : List Operand) → operands_ty D ts (map copied os) ≡ operands_ty D ts os
    unfolding operands_ty
    operands_kept [] = refl
    operands_kept (o ∷ os) = ap₂ (λ x y. x >>= λ t. y >>= λ ts. Some (more t ts)) (operand_kept o) (operands_kept os)

    rvalue_kept : (x : TypedRvalue) → rvalue_ty D ts (copied_rvalue x) ≡ rvalue_ty D ts x
    unfolding rvalue_ty
    rvalue_kept («use» o) = operand_kept o
    rvalue_kept (binary op a c) = ap₂ (λ x y. x >>= λ t. y >>= binary_ty op t) (operand_kept a) (operand_kept c)
    rvalue_kept (overflow op a c) = ap₂ (λ x y. x >>= λ t. y >>= overflow_ty t) (operand_kept a) (operand_kept c)
    rvalue_kept (unary op a) = ap (λ x. x >>= unary_ty op) (operand_kept a)
    rvalue_kept (cast a t) = ap (λ x. x >>= cast_ty t) (operand_kept a)
    rvalue_kept (rvalue.ref p) = refl
    rvalue_kept (rvalue.ref_mut p) = refl
    rvalue_kept (discriminant p) = refl
    rvalue_kept (tuple os) = operands_kept os
    rvalue_kept (build d k os) = ap (λ x. x >>= build_ty D d k) (operands_kept os)

    -- what no operand does, no copy does
    fewer : (bad : Operand → Bool) → ((p : Place) → bad (operand.Copy p) ≡ false) → (os : List Operand) → list_any bad os ≡ false → list_any bad (map copied os) ≡ false
    fewer bad no_copy [] h = refl
    fewer bad no_copy (o ∷ os) h = ap₂ (λ a b. a || b) (by_operand (λ o p. bad o ≡ false → bad p ≡ false) (λ o e. e) (λ p e. no_copy p) o (or_false-left (bad o) (list_any bad os) h)) (fewer bad no_copy os (or_false-right (bad o) (list_any bad os) h))

    moves_kept : (os : List Operand) → MovesKept D ts os → MovesKept D ts (map copied os)
    moves_kept os m = record { through = fewer (moves_through_destructor D ts) (λ p. refl) os m.through; indirect = fewer (moves_needing_indirectly D ts) (λ p. refl) os m.indirect }

    operands_in : (x : TypedRvalue) → rvalue_operands (copied_rvalue x) ≡ map copied (rvalue_operands x)
    operands_in («use» o) = refl
    operands_in (binary op a c) = refl
    operands_in (overflow op a c) = refl
    operands_in (unary op a) = refl
    operands_in (cast a t) = refl
    operands_in (rvalue.ref p) = refl
    operands_in (rvalue.ref_mut p) = refl
    operands_in (discriminant p) = refl
    operands_in (tuple os) = refl
    operands_in (build d k os) = refl

    pub stmt_kept : (args : ℕ) (s : TypedStmt) → StmtTyped D args ts s → StmtTyped D args ts (copied_stmt s)
    stmt_kept args (assign p x) a = record { ty = a.ty; place = a.place; rvalue = rvalue_kept x ∙ a.rvalue; moves = subst (MovesKept D ts) (sym (operands_in x)) (moves_kept (rvalue_operands x) a.moves) }
    stmt_kept args (storage_live x) a = a
    stmt_kept args (storage_dead x) a = a
    stmt_kept args (set_discriminant p k) a = a

    pub term_kept : (C : Crate) (t : Term) → TermTyped C D ts t → TermTyped C D ts (copied_term t)
    term_kept C (Goto u) a = a
    term_kept C (Switch o arms u) a = record { targets = a.targets; own = record { ty = a.own.ty; operand = operand_kept o ∙ a.own.operand; once = a.own.once; fits = a.own.fits }; moves = moves_kept (o ∷ []) a.moves }
    term_kept C Return a = a
    term_kept C Unreachable a = a
    term_kept C (Drop p u) a = a
    term_kept C (Call p g os u) a = record {
      targets = a.targets;
      own = record { ty = a.own.ty; place = a.own.place; result = a.own.result; types = a.own.types; operands = operands_kept os ∙ a.own.operands; wanted = a.own.wanted };
      moves = moves_kept os a.moves;
    }
    term_kept C (Assert o c words os u) a = record {
      targets = a.targets;
      own = record { condition = operand_kept o ∙ a.own.condition; message = λ i q e. (let (p, ep, same) = map_back copied os i q e in let (s, es) = a.own.message i p ep in (s, ap (operand_ty D ts) (sym same) ∙ operand_kept p ∙ es)) };
      moves = moves_kept (o ∷ os) a.moves;
    }

  -- ---- formed text

  formed_kept : (o : Operand) → operand_formed o ≡ true → operand_formed (copied o) ≡ true
  formed_kept o h = by_operand (λ o p. operand_formed o ≡ true → operand_formed p ≡ true) (λ o e. e) (λ p e. refl) o h

  operand_same : (o : Operand) → operand_formed (copied o) ≡ operand_formed o
  operand_same o = by_operand (λ o p. operand_formed p ≡ operand_formed o) (λ o. refl) (λ p. refl) o

  operands_same : (os : List Operand) → list_all operand_formed (map copied os) ≡ list_all operand_formed os
  operands_same [] = refl
  operands_same (o ∷ os) = ap₂ (λ a b. a && b) (operand_same o) (operands_same os)

  place_same : (o : Operand) → operand_places (copied o) ≡ operand_places o
  place_same o = by_operand (λ o p. operand_places p ≡ operand_places o) (λ o. refl) (λ p. refl) o

  places_same : (os : List Operand) → flat_map operand_places (map copied os) ≡ flat_map operand_places os
  places_same [] = refl
  places_same (o ∷ os) = ap₂ (λ ps qs. ps ++ qs) (place_same o) (places_same os)

  module _ (C : Crate) (b : TypedBody) where
    shape_same : (x : TypedRvalue) → shape_formed C (copied_rvalue x) ≡ shape_formed C x
    shape_same («use» o) = refl
    shape_same (binary op a c) = refl
    shape_same (overflow op a c) = refl
    shape_same (unary op a) = refl
    shape_same (cast a t) = refl
    shape_same (rvalue.ref p) = refl
    shape_same (rvalue.ref_mut p) = refl
    shape_same (discriminant p) = refl
    shape_same (tuple []) = refl
    shape_same (tuple (o ∷ os)) = refl
    shape_same (build d k os) = refl

    rvalue_operands_same : (x : TypedRvalue) → list_all operand_formed (rvalue_operands (copied_rvalue x)) ≡ list_all operand_formed (rvalue_operands x)
    rvalue_operands_same x = ap (list_all operand_formed) (operands_in [] [] x) ∙ operands_same (rvalue_operands x)

    rvalue_places_same : (x : TypedRvalue) → rvalue_places (copied_rvalue x) ≡ rvalue_places x
    rvalue_places_same («use» o) = places_same (o ∷ [])
    rvalue_places_same (binary op a c) = places_same (a ∷ c ∷ [])
    rvalue_places_same (overflow op a c) = places_same (a ∷ c ∷ [])
    rvalue_places_same (unary op a) = places_same (a ∷ [])
    rvalue_places_same (cast a t) = places_same (a ∷ [])
    rvalue_places_same (rvalue.ref p) = refl
    rvalue_places_same (rvalue.ref_mut p) = refl
    rvalue_places_same (discriminant p) = refl
    rvalue_places_same (tuple os) = places_same os
    rvalue_places_same (build d k os) = places_same os

    pub stmt_formed_kept : (s : TypedStmt) → stmt_formed C b (copied_stmt s) ≡ stmt_formed C b s
    unfolding stmt_formed
    stmt_formed_kept (assign p x) = ap (λ a. place_formed b p && a) (ap₂ (λ a c. a && c) (shape_same x) (ap₂ (λ a c. a && c) (rvalue_operands_same x) (ap (list_all (place_formed b)) (rvalue_places_same x))))
    stmt_formed_kept (storage_live x) = refl
    stmt_formed_kept (storage_dead x) = refl
    stmt_formed_kept (set_discriminant p k) = refl

    term_operands_same : (t : Term) → list_all operand_formed (term_operands (copied_term t)) ≡ list_all operand_formed (term_operands t)
    term_operands_same (Goto u) = refl
    term_operands_same (Switch o arms u) = operands_same (o ∷ [])
    term_operands_same Return = refl
    term_operands_same Unreachable = refl
    term_operands_same (Drop p u) = refl
    term_operands_same (Call p g os u) = operands_same os
    term_operands_same (Assert o c words os u) = operands_same (o ∷ os)

    term_places_same : (t : Term) → term_places (copied_term t) ≡ term_places t
    term_places_same (Goto u) = refl
    term_places_same (Switch o arms u) = places_same (o ∷ [])
    term_places_same Return = refl
    term_places_same Unreachable = refl
    term_places_same (Drop p u) = refl
    term_places_same (Call p g os u) = ap (λ ps. p ∷ ps) (places_same os)
    term_places_same (Assert o c words os u) = places_same (o ∷ os)

    targets_same : (t : Term) → targets (copied_term t) ≡ targets t
    targets_same (Goto u) = refl
    targets_same (Switch o arms u) = refl
    targets_same Return = refl
    targets_same Unreachable = refl
    targets_same (Drop p u) = refl
    targets_same (Call p g os u) = refl
    targets_same (Assert o c words os u) = refl

    call_same : (t : Term) → call_formed C (copied_term t) ≡ call_formed C t
    call_same (Goto u) = refl
    call_same (Switch o arms u) = refl
    call_same Return = refl
    call_same Unreachable = refl
    call_same (Drop p u) = refl
    call_same (Call p g os u) = refl
    call_same (Assert o c words os u) = refl

    pub term_formed_kept : (t : Term) → term_formed C b (copied_term t) ≡ term_formed C b t
    unfolding term_formed
    term_formed_kept t = ap₂ (λ a c. a && c) (call_same t) (ap₂ (λ a c. a && c) (term_operands_same t) (ap₂ (λ a c. a && c) (ap (list_all (place_formed b)) (term_places_same t)) (ap (λ us. list_all (λ i. nat_lt i (length b.blocks)) us) (targets_same t))))

  -- ---- then each place at its home

  module _ (home : ℕ → ℕ) where
    abbrev pub At : Numbering
    At x y = y ≡ home x

    operand_at : (o : Operand) → OperandSame At (copied o) (operand_home shared home o)
    operand_at (operand.Copy p) = (refl, refl)
    operand_at (operand.Move p) = go (shared p.local)
      where
        go : (b : Bool) → OperandSame At (if b then operand.Copy p else operand.Move p) (if b then operand.Copy (record { local = home p.local; proj = p.proj }) else operand.Move (record { local = home p.local; proj = p.proj }))
        go true = (refl, refl)
        go false = (refl, refl)
    operand_at (operand.Const c) = refl

    operands_at : (os : List Operand) → OperandsSame At (map copied os) (map (operand_home shared home) os)
    operands_at [] = tt
    operands_at (o ∷ os) = (operand_at o, operands_at os)

    rvalue_at : (x : TypedRvalue) → RvalueSame At (copied_rvalue x) (rvalue_home shared home x)
    rvalue_at («use» o) = operand_at o
    rvalue_at (binary op a c) = (refl, operand_at a, operand_at c)
    rvalue_at (overflow op a c) = (refl, operand_at a, operand_at c)
    rvalue_at (unary op a) = (refl, operand_at a)
    rvalue_at (cast a t) = (refl, operand_at a)
    rvalue_at (rvalue.ref p) = (refl, refl)
    rvalue_at (rvalue.ref_mut p) = (refl, refl)
    rvalue_at (discriminant p) = (refl, refl)
    rvalue_at (tuple os) = operands_at os
    rvalue_at (build d k os) = (refl, refl, operands_at os)

    pub stmt_at_home : (s : TypedStmt) → StmtSame At (copied_stmt s) (stmt_home shared home s)
    stmt_at_home (assign p x) = ((refl, refl), rvalue_at x)
    stmt_at_home (storage_live x) = refl
    stmt_at_home (storage_dead x) = refl
    stmt_at_home (set_discriminant p k) = ((refl, refl), refl)

    pub term_at_home : (t : Term) → TermSame At (copied_term t) (term_home shared home t)
    term_at_home (Goto u) = refl
    term_at_home (Switch o arms u) = (operand_at o, refl, refl)
    term_at_home Return = tt
    term_at_home Unreachable = tt
    term_at_home (Drop p u) = ((refl, refl), refl)
    term_at_home (Call p g os u) = ((refl, refl), refl, operands_at os, refl)
    term_at_home (Assert o c words os u) = (operand_at o, refl, refl, operands_at os, refl)
