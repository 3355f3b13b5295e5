-- A merged body is valid in the place of a valid body, and it drops and calls nothing that the body doesn't.
use Rattle.std.proofs.Common.{◌≡◌, refl, sym, ap, ap₂, ◌∙◌, subst, ℕ, ◌<◌, ◌≤◌, Bool, true, ◌&&◌, nat_lt, List, [], length, Some, slice_get, arith}
use Rattle.std.specs.List.{list_all}
use Rattle.std.proofs.lemmas.List.{length-map}
use Rattle.mir_syntax.specs.declared.body.Callee.{Callee}
use Rattle.mir_syntax.specs.declared.body.Operand.{Operand}
use Rattle.mir_syntax.specs.declared.body.Place.{Place}
use Rattle.mir_syntax.specs.declared.body.Term.{Term}
use Rattle.mir_syntax.specs.declared.body.Term.TheVariants.{Goto, Switch, Return, Unreachable, Drop, Call, Assert}
use Rattle.mir_syntax.specs.Crate.{TypedStmt, assign, storage_live, storage_dead, set_discriminant, TypedBlock, TypedBody, TypedFunction, Crate}
use Rattle.mir_syntax.specs.Shapes.{Shape, shapes_of}
use Rattle.mir_syntax.proofs.Lists.{map_back}
use Rattle.mir_rules.specs.Broken.{terminator_broken}
use Rattle.mir_rules.specs.Calls.{AddsNoCall}
use Rattle.mir_rules.specs.Drops.{is_drop, NoDrops}
use Rattle.mir_rules.specs.Formed.{type_formed, stmt_formed, term_formed, call_formed, block_formed, has_start, body_formed}
use Rattle.mir_rules.specs.Limits.{most_in_body}
use Rattle.mir_rules.specs.Valid.{Valid, with_body, at_function, ValidAt}
use Rattle.mir_rules.proofs.Bodies.{Alike}
use Rattle.mir_rules.proofs.Keeps.{BodyKeeps}
use Rattle.mir_rules.proofs.Lists.{and_true-left, and_true-right, list_all_true}
use Rattle.mir_rules.proofs.Statements.{StmtTyped, stmt_typed, typed_stmt}
use Rattle.mir_rules.proofs.Terminators.{term_typed, typed_term}
use Rattle.mir_rules.proofs.ValidCrates.{stmt_formed_at, term_formed_at, body_formed_at, keeps, holds_body, valid_put, valid_again}
use Rattle.mir_relate.proofs.Renumbered.{assign_keeps, set_keeps, term_keeps, stmt_formed_same, term_formed_same}
use Rattle.dest_prop.specs.Merged.{home_of, is_shared, stmt_home, term_home, stays, block_home, merged_by, merged}
use Rattle.dest_prop.proofs.Homes.{not_true, types, sole_self}
use Rattle.dest_prop.proofs.Texts.{stmt_back, copied_stmt, copied_term, stmt_kept, term_kept, stmt_formed_kept, term_formed_kept, At, stmt_at_home, term_at_home}
use Rattle.mir_relate.proofs.Formed.{BlocksFormed}

pub merged_is : (D : List Shape) (b : TypedBody) → merged_by (is_shared b (home_of D b)) (home_of D b) b ≡ merged D b
unfolding merged
merged_is D b = refl

module _ (C : Crate) (b : TypedBody) (formed : body_formed C b ≡ true) where
  abbrev D : List Shape
  D = shapes_of C

  abbrev home : ℕ → ℕ
  home = home_of (shapes_of C) b

  abbrev shared : ℕ → Bool
  shared = is_shared b (home_of (shapes_of C) b)

  abbrev b2 : TypedBody
  b2 = merged_by (is_shared b (home_of (shapes_of C) b)) (home_of (shapes_of C) b) b

  types_at : (x y : ℕ) → At shared home x y → slice_get b.locals x ≡ slice_get b2.locals y
  types_at x y e = sym (types (shapes_of C) b x) ∙ ap (slice_get b.locals) (sym e)

  blocks_long : length b2.blocks ≡ length b.blocks
  blocks_long = length-map b.blocks (block_home shared home)

  -- ---- formed

  stmt_formed_home : (s : TypedStmt) → stmt_formed C b2 (stmt_home shared home s) ≡ stmt_formed C b s
  stmt_formed_home s = stmt_formed_same C b b2 (At shared home) types_at blocks_long (copied_stmt shared s) (stmt_home shared home s) (stmt_at_home shared home s) ∙ stmt_formed_kept shared C b s

  term_formed_home : (t : Term) → term_formed C b2 (term_home shared home t) ≡ term_formed C b t
  term_formed_home t = term_formed_same C b b2 (At shared home) types_at blocks_long (copied_term shared t) (term_home shared home t) (term_at_home shared home t) ∙ term_formed_kept shared C b t

  block_formed_home : BlocksFormed C b2
  block_formed_home j k2 e =
      let (k, at, is) = map_back (block_home shared home) b.blocks j k2 e in
      let ss : list_all (stmt_formed C b2) (block_home shared home k).stmts ≡ true = list_all_true (stmt_formed C b2) (block_home shared home k).stmts (λ i t e2. let (n, s, there, st, same) = stmt_back shared home k.stmts i t e2 in ap (stmt_formed C b2) (sym same) ∙ stmt_formed_home s ∙ stmt_formed_at C b formed j n k s at there) in
      let t : term_formed C b2 (term_home shared home k.term) ≡ true = term_formed_home k.term ∙ term_formed_at C b formed j k at in
      subst (λ k2. block_formed C b2 k2 ≡ true) is (ap₂ (λ a c. a && c) ss t)

  merged_formed : body_formed C b2 ≡ true
  unfolding body_formed
  merged_formed =
      let rest = list_all (type_formed C) b.locals && list_all (block_formed C b) b.blocks in
      let tys = and_true-left (list_all (type_formed C) b.locals) (list_all (block_formed C b) b.blocks) (and_true-right (has_start b) rest formed) in
      let first = and_true-left (nat_lt 0 (length b.blocks)) (nat_lt b.args (length b.locals)) (and_true-left (has_start b) rest formed) in
      let some : nat_lt 0 (length b2.blocks) ≡ true = ap (λ n. nat_lt 0 n) blocks_long ∙ first in
      let args = and_true-right (nat_lt 0 (length b.blocks)) (nat_lt b.args (length b.locals)) (and_true-left (has_start b) rest formed) in
      rw (some, args, tys) (list_all_true (block_formed C b2) b2.blocks block_formed_home)

  -- ---- rules

  stmt_keeps : (s : TypedStmt) → stays shared home s ≡ true → StmtTyped D b.args b.locals s → StmtTyped D b.args b2.locals (stmt_home shared home s)
  stmt_keeps (assign p x) st a = (let h = stmt_at_home shared home (assign p x) in assign_keeps D b.locals b2.locals (At shared home) types_at b.args p _ _ _ h.0 h.1 (stmt_kept shared D b.locals b.args (assign p x) a))
  stmt_keeps (storage_live x) st a = subst (λ y. b.args < y) (sym (sole_self D b x (not_true (shared x) st))) a
  stmt_keeps (storage_dead x) st a = subst (λ y. b.args < y) (sym (sole_self D b x (not_true (shared x) st))) a
  stmt_keeps (set_discriminant p k) st a = set_keeps D b.locals b2.locals (At shared home) types_at b.args p _ k k (refl, refl) refl a

  merged_keeps : BodyKeeps C b → BodyKeeps C b2
  unfolding term_formed
  merged_keeps kept = record {
    stmts = λ j i k2 t e e2.
        let (k, at, is) = map_back (block_home shared home) b.blocks j k2 e in
        let (n, s, there, st, same) = stmt_back shared home k.stmts i t (ap (λ (k : TypedBlock). slice_get k.stmts i) is ∙ e2) in
        typed_stmt D b.args b2.locals t (subst (StmtTyped D b.args b2.locals) same (stmt_keeps s st (stmt_typed D b.args b.locals s (kept.stmts j n k s at there))));
    terms = λ j k2 e.
        let (k, at, is) = map_back (block_home shared home) b.blocks j k2 e in
        let typed = term_typed C D b.locals k.term (and_true-left (call_formed C k.term) _ (term_formed_at C b formed j k at)) (kept.terms j k at) in
        subst (λ (k2 : TypedBlock). terminator_broken C D b2.locals k2.term ≡ []) is (typed_term C D b2.locals (term_home shared home k.term) (term_keeps D b.locals b2.locals (At shared home) types_at C (copied_term shared k.term) (term_home shared home k.term) (term_at_home shared home k.term) (term_kept shared D b.locals C k.term typed)));
  }

pub alike : (D : List Shape) (g : TypedFunction) → Alike (with_body g (merged D g.body)) g
unfolding merged
alike D g = record { is_drop = refl; args = refl; start = refl }

pub merged_valid : (C : Crate) → Valid C → (f : ℕ) (g : TypedFunction) → slice_get C.functions f ≡ Some g → Valid (at_function C f g (merged (shapes_of C) g.body))
unfolding merged
merged_valid C valid f g there =
    let formed = body_formed_at C valid f g there in
    valid_put C f g (merged (shapes_of C) g.body) valid there (alike (shapes_of C) g) (merged_formed C g.body formed) (merged_keeps C g.body formed ((keeps C valid).bodies f g there))

pub merged_stays_valid : (C : Crate) (f : ℕ) (b : TypedBody) (v : ValidAt C f b) → ValidAt C f (merged (shapes_of (at_function C f v.function b)) b)
unfolding merged
merged_stays_valid C f b v =
    let C2 = at_function C f v.function b in
    let formed = body_formed_at C2 v.valid f _ (holds_body C f b v) in
    let kept = (keeps C2 v.valid).bodies f _ (holds_body C f b v) in
    let blocks = v.blocks in
    valid_again C f b (merged (shapes_of C2) b) v refl refl (merged_formed C2 b formed) (merged_keeps C2 b formed kept) (subst (λ n. n ≤ most_in_body) (sym (blocks_long C2 b formed)) blocks) v.locals

-- ---- drops and calls

module _ (shared : ℕ → Bool) (home : ℕ → ℕ) where
  drop_same : (t : Term) → is_drop (term_home shared home t) ≡ is_drop t
  drop_same (Goto u) = refl
  drop_same (Switch o arms u) = refl
  drop_same Return = refl
  drop_same Unreachable = refl
  drop_same (Drop p u) = refl
  drop_same (Call p g os u) = refl
  drop_same (Assert o c words os u) = refl

  -- a call of the new text is one of the old
  call_back : (t : Term) (p : Place) (g : Callee) (os : List Operand) (next : ℕ) → term_home shared home t ≡ Call p g os next → (q : Place) × (ps : List Operand) × (t ≡ Call q g ps next)
  call_back (Goto u) p g os next e = absurd (grind arith)
  call_back (Switch o arms u) p g os next e = absurd (grind arith)
  call_back Return p g os next e = absurd (grind arith)
  call_back Unreachable p g os next e = absurd (grind arith)
  call_back (Drop q u) p g os next e = absurd (grind arith)
  call_back (Call q h ps u) p g os next e = (q, ps, ap₂ (λ h u. Call q h ps u) (let z : h ≡ g = grind arith in z) (let z : u ≡ next = grind arith in z))
  call_back (Assert o c words ps u) p g os next e = absurd (grind arith)

  no_drops_by : (b : TypedBody) → NoDrops b → NoDrops (merged_by shared home b)
  no_drops_by b none = record { none = λ i k2 e. (let (k, at, is) = map_back (block_home shared home) b.blocks i k2 e in ap (λ (k : TypedBlock). is_drop k.term) (sym is) ∙ drop_same k.term ∙ none.none i k at) }

  no_calls_by : (b : TypedBody) → AddsNoCall (merged_by shared home b) b
  no_calls_by b g (i, k2, p, os, next, at, is) =
      let (k, at1, same) = map_back (block_home shared home) b.blocks i k2 at in
      let (q, ps, is1) = call_back k.term p g os next (ap (λ (k : TypedBlock). k.term) same ∙ is) in
      (i, k, q, ps, next, at1, is1)

pub merged_no_drops : (D : List Shape) (b : TypedBody) → NoDrops b → NoDrops (merged D b)
merged_no_drops D b none = subst NoDrops (merged_is D b) (no_drops_by (is_shared b (home_of D b)) (home_of D b) b none)

pub merged_adds_no_call : (D : List Shape) (b : TypedBody) → AddsNoCall (merged D b) b
merged_adds_no_call D b = subst (λ b2. AddsNoCall b2 b) (merged_is D b) (no_calls_by (is_shared b (home_of D b)) (home_of D b) b)
