-- A body that holds the statements and terminators of another one, with edges to blocks of its own, keeps the rules that the other keeps.
use Rattle.std.proofs.Common.{◌≡◌, refl, sym, ap, ◌∙◌, subst, ℕ, ◌<◌, true, false, ◌==◌, ◌&&◌, nat_lt, List, [], ◌∷◌, ◌++◌, map, length, Some, slice_get, arith, lt-ltb}
use Rattle.std.specs.List.{All, list_all}
use Rattle.std.proofs.lemmas.Bool.{ne_eqb}
use Rattle.std.proofs.lemmas.Option.{get_or_from_slice_get, slice_get_within}
use Rattle.mir_syntax.specs.declared.body.Arm.{Arm}
use Rattle.mir_syntax.specs.declared.body.Term.{Term}
use Rattle.mir_syntax.specs.declared.body.Term.TheVariants.{Goto, Switch, Return, Unreachable, Drop, Call, Assert}
use Rattle.mir_syntax.specs.Crate.{TypedStmt, TypedBlock, TypedBody, Crate}
use Rattle.mir_syntax.specs.Shapes.{Shape, shapes_of}
use Rattle.mir_syntax.proofs.Lists.{map_back}
use Rattle.mir_syntax.specs.Parts.{term_operands, term_places, arm_block, targets}
use Rattle.mir_rules.specs.BodyRules.{breaks_v05, arm_value, has_twice, has_too_wide}
use Rattle.mir_rules.specs.Formed.{operand_formed, place_formed, call_formed, block_there, type_formed, stmt_formed, term_formed, block_formed, has_start, body_formed}
use Rattle.mir_rules.proofs.Lists.{and_true-left, and_true-right, list_all_true, list_any_false}
use Rattle.mir_rules.proofs.Keeps.{BodyKeeps}
use Rattle.mir_rules.proofs.Statements.{MovesKept}
use Rattle.mir_rules.proofs.Terminators.{OwnTyped, TermTyped, term_typed, typed_term}
use Rattle.mir_rules.proofs.ValidCrates.{stmt_formed_at, term_formed_at}
use Rattle.cfg_simplify.specs.Edges.{retarget, retarget_arm}
use Rattle.mir_relate.proofs.Formed.{same_locals_stmt}

-- ---- a terminator with its edges led elsewhere

arms_led : (f : ℕ → ℕ) (arms : List Arm) (b : ℕ) → map arm_block (map (retarget_arm f) arms) ++ f b ∷ [] ≡ map f (map arm_block arms ++ b ∷ [])
arms_led f [] b = refl
arms_led f (a ∷ arms) b = ap (λ xs. f a.block ∷ xs) (arms_led f arms b)

pub targets_led : (f : ℕ → ℕ) (t : Term) → targets (retarget f t) ≡ map f (targets t)
targets_led f (Goto b) = refl
targets_led f (Switch o arms b) = arms_led f arms b
targets_led f Return = refl
targets_led f Unreachable = refl
targets_led f (Drop p b) = refl
targets_led f (Call p g os b) = refl
targets_led f (Assert o e x os b) = refl

call_led : (C : Crate) (f : ℕ → ℕ) (t : Term) → call_formed C (retarget f t) ≡ call_formed C t
call_led C f (Goto b) = refl
call_led C f (Switch o arms b) = refl
call_led C f Return = refl
call_led C f Unreachable = refl
call_led C f (Drop p b) = refl
call_led C f (Call p g os b) = refl
call_led C f (Assert o e x os b) = refl

operands_led : (f : ℕ → ℕ) (t : Term) → term_operands (retarget f t) ≡ term_operands t
operands_led f (Goto b) = refl
operands_led f (Switch o arms b) = refl
operands_led f Return = refl
operands_led f Unreachable = refl
operands_led f (Drop p b) = refl
operands_led f (Call p g os b) = refl
operands_led f (Assert o e x os b) = refl

places_led : (f : ℕ → ℕ) (t : Term) → term_places (retarget f t) ≡ term_places t
places_led f (Goto b) = refl
places_led f (Switch o arms b) = refl
places_led f Return = refl
places_led f Unreachable = refl
places_led f (Drop p b) = refl
places_led f (Call p g os b) = refl
places_led f (Assert o e x os b) = refl

values_led : (f : ℕ → ℕ) (arms : List Arm) → map arm_value (map (retarget_arm f) arms) ≡ map arm_value arms
values_led f [] = refl
values_led f (a ∷ arms) = ap (λ xs. a.value ∷ xs) (values_led f arms)

pub all_at : {A : Type 0} (P : A → Type 0) (xs : List A) (i : ℕ) (x : A) → All P xs → slice_get xs i ≡ Some x → P x
all_at P xs i x h e = subst P (get_or_from_slice_get xs i x x e) (h i x (slice_get_within xs i x e))

-- each edge of the terminator leads to a block, and none to bb0
abbrev pub Inside : ℕ → (ℕ → ℕ) → Term → Type 0
Inside n f t = All (λ c. (0 < f c) × (f c < n)) (targets t)

each_inside : (n : ℕ) (f : ℕ → ℕ) (t : Term) (i c : ℕ) → Inside n f t → slice_get (targets (retarget f t)) i ≡ Some c → (0 < c) × (c < n)
each_inside n f t i c h e =
    let (x, at, same) = map_back f (targets t) i c (ap (λ xs. slice_get xs i) (sym (targets_led f t)) ∙ e) in
    let both = all_at (λ x. (0 < f x) × (f x < n)) (targets t) i x h at in
    rw same at both

-- ---- the body

-- what the blocks are made of
pub record Rearranged (b : TypedBody) (blocks : List TypedBlock) : Type 0 where
  pub some : 0 < length blocks
  pub stmts : (j i : ℕ) (k2 : TypedBlock) (s : TypedStmt) → slice_get blocks j ≡ Some k2 → slice_get k2.stmts i ≡ Some s → (j1 i1 : ℕ) × (k : TypedBlock) × (slice_get b.blocks j1 ≡ Some k) × (slice_get k.stmts i1 ≡ Some s)
  pub terms : (j : ℕ) (k2 : TypedBlock) → slice_get blocks j ≡ Some k2 → (j1 : ℕ) × (k : TypedBlock) × (f : ℕ → ℕ) × (slice_get b.blocks j1 ≡ Some k) × (k2.term ≡ retarget f k.term) × Inside (length blocks) f k.term

module _ (C : Crate) (b : TypedBody) (blocks : List TypedBlock) (r : Rearranged b blocks) (formed : body_formed C b ≡ true) where
  abbrev b2 : TypedBody
  b2 = record b { blocks = blocks }

  stmts_formed : (j : ℕ) (k2 : TypedBlock) → slice_get blocks j ≡ Some k2 → list_all (stmt_formed C b2) k2.stmts ≡ true
  stmts_formed j k2 e = list_all_true (stmt_formed C b2) k2.stmts (λ i s e2. let (j1, i1, k, at, at2) = r.stmts j i k2 s e e2 in same_locals_stmt C b b2 refl s ∙ stmt_formed_at C b formed j1 i1 k s at at2)

  targets_there : (f : ℕ → ℕ) (t : Term) → Inside (length blocks) f t → list_all (block_there b2) (targets (retarget f t)) ≡ true
  targets_there f t h = list_all_true (block_there b2) (targets (retarget f t)) (λ i c e. lt-ltb c (length blocks) (each_inside (length blocks) f t i c h e).1)

  term_led : (f : ℕ → ℕ) (t : Term) → Inside (length blocks) f t → term_formed C b t ≡ true → term_formed C b2 (retarget f t) ≡ true
  unfolding term_formed
  term_led f t h e =
      let own = call_formed C t in
      let ops = list_all operand_formed (term_operands t) in
      let places = list_all (place_formed b) (term_places t) in
      let all = list_all (block_there b) (targets t) in
      let e1 = and_true-right own (ops && (places && all)) e in
      let e2 = and_true-right ops (places && all) e1 in
      let own2 : call_formed C (retarget f t) ≡ true = call_led C f t ∙ and_true-left own (ops && (places && all)) e in
      let ops2 : list_all operand_formed (term_operands (retarget f t)) ≡ true = ap (list_all operand_formed) (operands_led f t) ∙ and_true-left ops (places && all) e1 in
      let places2 : list_all (place_formed b2) (term_places (retarget f t)) ≡ true = ap (list_all (place_formed b)) (places_led f t) ∙ and_true-left places all e2 in
      rw (own2, ops2, places2) (targets_there f t h)

  block_is : (j : ℕ) (k2 : TypedBlock) → slice_get blocks j ≡ Some k2 → block_formed C b2 k2 ≡ true
  block_is j k2 e =
      let (j1, k, f, at, same, h) = r.terms j k2 e in
      let term : term_formed C b2 k2.term ≡ true = ap (term_formed C b2) same ∙ term_led f k.term h (term_formed_at C b formed j1 k at) in
      rw (stmts_formed j k2 e) term

  pub rearranged_formed : body_formed C b2 ≡ true
  unfolding body_formed
  rearranged_formed =
      let rest = list_all (type_formed C) b.locals && list_all (block_formed C b) b.blocks in
      let first = and_true-left (has_start b) rest formed in
      let types = and_true-left (list_all (type_formed C) b.locals) (list_all (block_formed C b) b.blocks) (and_true-right (has_start b) rest formed) in
      let args = and_true-right (nat_lt 0 (length b.blocks)) (nat_lt b.args (length b.locals)) first in
      rw (lt-ltb 0 (length blocks) r.some, args, types) (list_all_true (block_formed C b2) blocks block_is)

  -- ---- rules

  own_led : (D : List Shape) (f : ℕ → ℕ) (t : Term) → OwnTyped C D b.locals t → OwnTyped C D b.locals (retarget f t)
  own_led D f (Goto n) h = tt
  own_led D f (Switch o arms n) h = record {
    ty = h.ty;
    operand = h.operand;
    once = ap has_twice (values_led f arms) ∙ h.once;
    fits = ap (has_too_wide (Some h.ty)) (values_led f arms) ∙ h.fits;
  }
  own_led D f Return h = tt
  own_led D f Unreachable h = tt
  own_led D f (Drop p n) h = h
  own_led D f (Call p g os n) h = h
  own_led D f (Assert o e x os n) h = h

  not_start : (f : ℕ → ℕ) (t : Term) → Inside (length blocks) f t → breaks_v05 (retarget f t) ≡ false
  not_start f t h = list_any_false (λ i. i == 0) (targets (retarget f t)) (λ i c e. ne_eqb c 0 (λ z. let l = (each_inside (length blocks) f t i c h e).0 in omega (arith, l, z)))

  typed_led : (D : List Shape) (f : ℕ → ℕ) (t : Term) → Inside (length blocks) f t → TermTyped C D b.locals t → TermTyped C D b.locals (retarget f t)
  typed_led D f t h k = record {
    targets = not_start f t h;
    own = own_led D f t k.own;
    moves = subst (MovesKept D b.locals) (sym (operands_led f t)) k.moves;
  }

  pub rearranged_keeps : BodyKeeps C b → BodyKeeps C b2
  unfolding term_formed
  rearranged_keeps kept = record {
    stmts = λ j i k2 s e e2. let (j1, i1, k, at, at2) = r.stmts j i k2 s e e2 in kept.stmts j1 i1 k s at at2;
    terms = λ j k2 e.
        let (j1, k, f, at, same, h) = r.terms j k2 e in
        let typed = term_typed C (shapes_of C) b.locals k.term (and_true-left (call_formed C k.term) _ (term_formed_at C b formed j1 k at)) (kept.terms j1 k at) in
        rw same (typed_term C (shapes_of C) b.locals (retarget f k.term) (typed_led (shapes_of C) f k.term h typed));
  }
