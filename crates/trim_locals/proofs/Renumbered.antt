-- A trimmed body is the same as the body but for the numbers of locals.
use Rattle.std.proofs.Common.{◌≡◌, ◌⊎◌, inl, inr, refl, sym, ap, ◌∙◌, subst, ℕ, zero, suc, ◌+◌, ◌<◌, ◌≤◌, Bool, true, false, ◌&&◌, nat_lt, List, [], ◌∷◌, ◌++◌, length, map, take, get_or, cond, Option, Some, slice_get, arith, ltb-true}
use Rattle.std.specs.List.{Contains, filter, flat_map, list_all, range_with_len}
use Rattle.std.proofs.lemmas.List.Elements.{Contains-append_left, Contains-append_right, Contains-append_cases, Contains-push_cases}
use Rattle.std.proofs.lemmas.List.FromFn.{get_or-map-range_with_len}
use Rattle.mir_syntax.specs.declared.body.Place.{Place}
use Rattle.mir_syntax.specs.declared.body.Operand.{Operand}
use Rattle.mir_syntax.specs.declared.body.Operand.TheVariants as operand
use Rattle.mir_syntax.specs.declared.body.Term.{Term}
use Rattle.mir_syntax.specs.declared.body.Term.TheVariants.{Goto, Switch, Return, Unreachable, Drop, Call, Assert}
use Rattle.mir_syntax.specs.Tree.{Tree}
use Rattle.mir_syntax.specs.Crate.{TypedRvalue, «use», binary, overflow, unary, cast, discriminant, tuple, build, TypedStmt, assign, storage_live, storage_dead, set_discriminant, TypedBlock, TypedBody, Crate}
use Rattle.mir_syntax.specs.Crate as rvalue
use Rattle.mir_syntax.proofs.Lists.{map_there}
use Rattle.mir_syntax.proofs.Members.{has_first as first, has_later as later, has_none as none}
use Rattle.mir_syntax.specs.Parts.{operand_places, rvalue_operands, rvalue_places, term_operands, term_places, targets}
use Rattle.mir_rules.specs.Formed.{place_formed, operand_formed, shape_formed, call_formed, block_there, stmt_formed, term_formed, body_formed}
use Rattle.mir_rules.proofs.Lists.{and_true-left, and_true-right}
use Rattle.mir_rules.proofs.ValidCrates.{args_below, result_there, stmt_formed_at, term_formed_at}
use Rattle.liveness.specs.Live.{place_local}
use Rattle.liveness.specs.Bits.{has_stands}
use Rattle.bit_rows.specs.Rows.{stands}
use Rattle.trim_locals.specs.Trimmed.{stmt_uses, term_uses, block_uses, used_locals, used_marks, new_numbers, number_in, renamed_operand, renamed_rvalue, renamed_stmt, renamed_term, marked_items, stays, trimmed_block, trimmed}
use Rattle.mir_relate.specs.Renumbered.{Numbering, OperandSame, OperandsSame, RvalueSame, StmtSame, TermSame, Gone, StmtsSame}
use Rattle.trim_locals.proofs.Numbers.{ahead, ahead_marked, ahead_is, ahead_fixed, ahead_item, front_items}

-- ---- a body in which each local of the other that stands anywhere has one that stands for it

abbrev pub NonEmpty : List Tree → Type 0
NonEmpty [] = ⊥
NonEmpty (t ∷ ts) = Unit {0}

has_first : (ts : List Tree) (t : Tree) → slice_get ts 0 ≡ Some t → NonEmpty ts
has_first [] t e = absurd (grind arith)
has_first (u ∷ ts) t e = tt

pub record BodySame (B : ℕ → Option ℕ) (b2 b1 : TypedBody) : Type 0 where
  pub types : (x y : ℕ) → B x ≡ Some y → slice_get b1.locals x ≡ slice_get b2.locals y
  pub fixed : (x : ℕ) → x ≤ b1.args → B x ≡ Some x
  pub some1 : NonEmpty b1.locals
  pub some2 : NonEmpty b2.locals
  pub blocks : (i : ℕ) (k1 : TypedBlock) → slice_get b1.blocks i ≡ Some k1 → (k2 : TypedBlock) × (slice_get b2.blocks i ≡ Some k2) × StmtsSame (λ x y. B x ≡ Some y) k1.stmts k2.stmts × TermSame (λ x y. B x ≡ Some y) k1.term k2.term

-- ---- text whose locals have numbers

module _ (R : Numbering) (f : ℕ → ℕ) where
  abbrev Ready : List ℕ → Type 0
  Ready xs = (x : ℕ) → Contains xs x → R x (f x)

  abbrev places : List Operand → List Place
  places os = flat_map operand_places os

  operand_same : (o : Operand) (os : List Operand) → Ready (map place_local (places (o ∷ os))) → OperandSame R o (renamed_operand f o) × Ready (map place_local (places os))
  operand_same (operand.Copy p) os h = ((h p.local (first p.local _), refl), λ x c. h x (later p.local x _ c))
  operand_same (operand.Move p) os h = ((h p.local (first p.local _), refl), λ x c. h x (later p.local x _ c))
  operand_same (operand.Const c) os h = (refl, h)

  operands_same : (os : List Operand) → Ready (map place_local (places os)) → OperandsSame R os (map (renamed_operand f) os)
  operands_same [] h = tt
  operands_same (o ∷ os) h = let (a, b) = operand_same o os h in (a, operands_same os b)

  two_same : (a b : Operand) → Ready (map place_local (places (a ∷ b ∷ []))) → OperandSame R a (renamed_operand f a) × OperandSame R b (renamed_operand f b)
  two_same a b h = let (x, h2) = operand_same a (b ∷ []) h in (x, (operand_same b [] h2).0)

  rvalue_same : (r : TypedRvalue) → Ready (map place_local (rvalue_places r)) → RvalueSame R r (renamed_rvalue f r)
  rvalue_same («use» o) h = (operand_same o [] h).0
  rvalue_same (binary op a b) h = let (x, y) = two_same a b h in (refl, x, y)
  rvalue_same (overflow op a b) h = let (x, y) = two_same a b h in (refl, x, y)
  rvalue_same (unary op a) h = (refl, (operand_same a [] h).0)
  rvalue_same (cast a t) h = (refl, (operand_same a [] h).0)
  rvalue_same (rvalue.ref p) h = (h p.local (first p.local []), refl)
  rvalue_same (rvalue.ref_mut p) h = (h p.local (first p.local []), refl)
  rvalue_same (discriminant p) h = (h p.local (first p.local []), refl)
  rvalue_same (tuple os) h = operands_same os h
  rvalue_same (build d k os) h = (refl, refl, operands_same os h)

  term_same : (t : Term) → Ready (term_uses t) → TermSame R t (renamed_term f t)
  term_same (Goto u) h = refl
  term_same (Switch o arms u) h = ((operand_same o [] h).0, refl, refl)
  term_same Return h = tt
  term_same Unreachable h = tt
  term_same (Drop p u) h = ((h p.local (first p.local []), refl), refl)
  term_same (Call p g os u) h = ((h p.local (first p.local _), refl), refl, operands_same os (λ x c. h x (later p.local x _ c)), refl)
  term_same (Assert o e x os u) h = let (a, h2) = operand_same o os h in (a, refl, refl, operands_same os h2, refl)

  assign_same : (p : Place) (r : TypedRvalue) → Ready (stmt_uses (assign p r)) → StmtSame R (assign p r) (renamed_stmt f (assign p r))
  assign_same p r h = ((h p.local (Contains-append_right (map place_local (rvalue_places r)) (p.local ∷ []) p.local (first p.local [])), refl), rvalue_same r (λ x c. h x (Contains-append_left (map place_local (rvalue_places r)) (p.local ∷ []) x c)))

-- ---- the statements that stay

module _ (marks : List Bool) where
  abbrev R : Numbering
  R x y = ahead marks x ≡ Some y

  abbrev f : ℕ → ℕ
  f = number_in (new_numbers marks)

  kept : (s : TypedStmt) (ss ts : List TypedStmt) → StmtSame R s (renamed_stmt f s) → StmtsSame R ss ts → StmtsSame R (s ∷ ss) (renamed_stmt f s ∷ ts)
  kept s ss ts h k = inr (renamed_stmt f s, ts, refl, h, k)

  storage : (x : ℕ) (c : Bool) → get_or marks x false ≡ c → (s : TypedStmt) → (R x (f x) → StmtSame R s (renamed_stmt f s)) → (((y : ℕ) → R x y → ⊥) → Gone R s) → (ss : List TypedStmt) → StmtsSame R ss (map (renamed_stmt f) (filter (stays marks) ss)) → stays marks s ≡ c → StmtsSame R (s ∷ ss) (map (renamed_stmt f) (filter (stays marks) (s ∷ ss)))
  storage x true e s h g ss k q = subst (λ c. StmtsSame R (s ∷ ss) (map (renamed_stmt f) (cond c (s ∷ filter (stays marks) ss) (filter (stays marks) ss)))) (sym q) (kept s ss (map (renamed_stmt f) (filter (stays marks) ss)) (h (ahead_is marks x e)) k)
  storage x false e s h g ss k q = subst (λ c. StmtsSame R (s ∷ ss) (map (renamed_stmt f) (cond c (s ∷ filter (stays marks) ss) (filter (stays marks) ss)))) (sym q) (inl (g (λ y r. absurd (let z : true ≡ false = sym (ahead_marked marks x y r) ∙ e in grind arith)), k))

  pub stmts_same : (ss : List TypedStmt) → Ready R f (flat_map stmt_uses ss) → StmtsSame R ss (map (renamed_stmt f) (filter (stays marks) ss))
  stmts_same [] h = refl
  stmts_same (assign p r ∷ ss) h = kept (assign p r) ss _ (assign_same R f p r (λ x c. h x (Contains-append_left (stmt_uses (assign p r)) (flat_map stmt_uses ss) x c))) (stmts_same ss (λ x c. h x (Contains-append_right (stmt_uses (assign p r)) (flat_map stmt_uses ss) x c)))
  stmts_same (storage_live x ∷ ss) h = storage x (get_or marks x false) refl (storage_live x) (λ r. r) (λ g. g) ss (stmts_same ss h) refl
  stmts_same (storage_dead x ∷ ss) h = storage x (get_or marks x false) refl (storage_dead x) (λ r. r) (λ g. g) ss (stmts_same ss h) refl
  stmts_same (set_discriminant p k ∷ ss) h = kept (set_discriminant p k) ss _ ((h p.local (first p.local _), refl), refl) (stmts_same ss (λ x c. h x (later p.local x _ c)))

-- ---- the body

flat_there : {A : Type 0} (h : A → List ℕ) (ks : List A) (i : ℕ) (k : A) (x : ℕ) → slice_get ks i ≡ Some k → Contains (h k) x → Contains (flat_map h ks) x
flat_there h [] i k x e c = absurd (grind arith)
flat_there h (y ∷ ks) zero k x e c = Contains-append_left (h y) (flat_map h ks) x (subst (λ z. Contains (h z) x) (let q : k ≡ y = grind arith in q) c)
flat_there h (y ∷ ks) (suc i) k x e c = Contains-append_right (h y) (flat_map h ks) x (flat_there h ks i k x e c)

in_range : (a n x : ℕ) → x < n → Contains (range_with_len a n) (a + x)
in_range a zero x l = absurd (omega (arith, l))
in_range a (suc n) zero l = let z : a + 0 ≡ a = omega arith in subst (λ y. Contains (a ∷ range_with_len (a + 1) n) y) (sym z) (first a (range_with_len (a + 1) n))
in_range a (suc n) (suc x) l = let z : (a + 1) + x ≡ a + suc x = omega arith in later a (a + suc x) (range_with_len (a + 1) n) (subst (λ y. Contains (range_with_len (a + 1) n) y) z (in_range (a + 1) n x (omega (arith, l))))

module _ (C : Crate) (b : TypedBody) (formed : body_formed C b ≡ true) where
  within : List ℕ → Type 0
  within xs = (x : ℕ) → Contains xs x → x < length b.locals

  places_within : (ps : List Place) → list_all (place_formed b) ps ≡ true → within (map place_local ps)
  unfolding within
  places_within [] h x c = absurd (none x c)
  places_within (p ∷ ps) h x c = go (Contains-append_cases (p.local ∷ []) (map place_local ps) x c) (places_within ps (and_true-right (place_formed b p) (list_all (place_formed b) ps) h) x)
    where
      one : Contains ([] ++ p.local ∷ []) x → Contains [] x ⊎ (p.local ≡ x)
      one c = Contains-push_cases [] p.local x c

      here : Contains [] x ⊎ (p.local ≡ x) → x < length b.locals
      here (inl n) = absurd (none x n)
      here (inr e) = subst (λ y. y < length b.locals) e (ltb-true p.local (length b.locals) (and_true-left (nat_lt p.local (length b.locals)) _ (and_true-left (place_formed b p) (list_all (place_formed b) ps) h)))

      go : Contains (p.local ∷ []) x ⊎ Contains (map place_local ps) x → (Contains (map place_local ps) x → x < length b.locals) → x < length b.locals
      go (inl c) ih = here (one c)
      go (inr c) ih = ih c

  stmt_within : (s : TypedStmt) → stmt_formed C b s ≡ true → within (stmt_uses s)
  unfolding stmt_formed within
  stmt_within (assign p r) h x c = go (Contains-append_cases (map place_local (rvalue_places r)) (p.local ∷ []) x c)
    where
      place : place_formed b p ≡ true
      place = and_true-left (place_formed b p) _ h

      all : list_all (place_formed b) (rvalue_places r) ≡ true
      all = and_true-right (list_all operand_formed (rvalue_operands r)) _ (and_true-right (shape_formed C r) _ (and_true-right (place_formed b p) _ h))

      go : Contains (map place_local (rvalue_places r)) x ⊎ Contains (p.local ∷ []) x → x < length b.locals
      go (inl c) = places_within (rvalue_places r) all x c
      go (inr c) = places_within (p ∷ []) (ap (λ t. t && true) place) x c
  stmt_within (storage_live y) h x c = absurd (none x c)
  stmt_within (storage_dead y) h x c = absurd (none x c)
  stmt_within (set_discriminant p k) h x c = places_within (p ∷ []) (ap (λ t. t && true) h) x c

  term_within : (t : Term) → term_formed C b t ≡ true → within (term_uses t)
  unfolding term_formed within
  term_within t h x c = places_within (term_places t) (and_true-left (list_all (place_formed b) (term_places t)) (list_all (block_there b) (targets t)) (and_true-right (list_all operand_formed (term_operands t)) (list_all (place_formed b) (term_places t) && list_all (block_there b) (targets t)) (and_true-right (call_formed C t) (list_all operand_formed (term_operands t) && (list_all (place_formed b) (term_places t) && list_all (block_there b) (targets t))) h))) x c

  stmts_within : (ss : List TypedStmt) → ((i : ℕ) (s : TypedStmt) → slice_get ss i ≡ Some s → stmt_formed C b s ≡ true) → within (flat_map stmt_uses ss)
  unfolding within
  stmts_within [] h x c = absurd (none x c)
  stmts_within (s ∷ ss) h x c = go (Contains-append_cases (stmt_uses s) (flat_map stmt_uses ss) x c) (stmts_within ss (λ i s e. h (suc i) s e) x)
    where
      go : Contains (stmt_uses s) x ⊎ Contains (flat_map stmt_uses ss) x → (Contains (flat_map stmt_uses ss) x → x < length b.locals) → x < length b.locals
      go (inl c) ih = stmt_within s (h 0 s refl) x c
      go (inr c) ih = ih c

  abbrev marks : List Bool
  marks = used_marks b

  mark_at : (x : ℕ) → x < length b.locals → Contains (used_locals b) x → get_or marks x false ≡ true
  mark_at x l c = let z : 0 + x ≡ x = omega arith in get_or-map-range_with_len (λ x. stands x (used_locals b)) 0 (length b.locals) x x false l z ∙ has_stands x (used_locals b) c

  in_block : (i : ℕ) (k : TypedBlock) → slice_get b.blocks i ≡ Some k → (x : ℕ) → Contains (block_uses k) x → x < length b.locals → get_or marks x false ≡ true
  in_block i k e x c l = mark_at x l (Contains-append_right (range_with_len 0 (suc b.args)) (flat_map block_uses b.blocks) x (flat_there block_uses b.blocks i k x e c))

  argument_marked : (x : ℕ) → x ≤ b.args → get_or marks x false ≡ true
  argument_marked x l =
      let a = args_below C b formed in
      let z : 0 + x ≡ x = omega arith in
      mark_at x (omega (arith, l, a)) (Contains-append_left (range_with_len 0 (suc b.args)) (flat_map block_uses b.blocks) x (subst (λ y. Contains (range_with_len 0 (suc b.args)) y) z (in_range 0 (suc b.args) x (omega (arith, l)))))

  pub fixed : (x : ℕ) → x ≤ b.args → ahead marks x ≡ Some x
  fixed x l = ahead_fixed marks x (λ z m. argument_marked z (omega (arith, l, m)))

  pub trimmed_same : BodySame (ahead (used_marks b)) (trimmed b) b
  unfolding within
  trimmed_same = record {
    types = λ x y e. ahead_item marks b.locals x y e;
    fixed = fixed;
    some1 = has_first b.locals (result_there C b formed).0 (result_there C b formed).1;
    some2 = has_first (marked_items marks b.locals) (result_there C b formed).0 (sym (ahead_item marks b.locals 0 0 (fixed 0 (omega arith))) ∙ (result_there C b formed).1);
    blocks = λ i k e. (
      trimmed_block marks k,
      map_there (trimmed_block marks) b.blocks i k e,
      stmts_same marks k.stmts (λ x c. ahead_is marks x (in_block i k e x (Contains-append_left (flat_map stmt_uses k.stmts) (term_uses k.term) x c) (stmts_within k.stmts (λ n s at. stmt_formed_at C b formed i n k s e at) x c))),
      term_same (λ x y. ahead marks x ≡ Some y) (number_in (new_numbers marks)) k.term (λ x c. ahead_is marks x (in_block i k e x (Contains-append_right (flat_map stmt_uses k.stmts) (term_uses k.term) x c) (term_within k.term (term_formed_at C b formed i k e) x c))),
    );
  }

  -- `_0` and the arguments stay
  pub start_stays : take (suc b.args) (trimmed b).locals ≡ take (suc b.args) b.locals
  start_stays = front_items (suc b.args) marks b.locals (λ z l. argument_marked z (omega (arith, l)))
