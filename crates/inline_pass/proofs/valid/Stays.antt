-- The body in which a call is replaced keeps the rules.
use Rattle.std.proofs.Common.{◌≡◌, ◌⊎◌, inl, inr, refl, sym, ap, ap₂, ◌∙◌, subst, ℕ, zero, suc, ◌+◌, ◌<◌, ◌≤◌, true, false, ◌&&◌, ◌==◌, nat_lt, List, [], ◌∷◌, ◌++◌, length, map, Some, slice_get, arith}
use Rattle.std.proofs.Common.{lt-ltb, ltb-true}
use Rattle.std.specs.List.{list_all, list_any}
use Rattle.mir_syntax.specs.declared.body.Arm.{Arm}
use Rattle.mir_syntax.specs.declared.body.Term.{Term}
use Rattle.mir_syntax.specs.declared.body.Term.TheVariants.{Goto, Switch, Return, Unreachable, Drop, Call, Assert}
use Rattle.mir_syntax.specs.Tree.{Tree}
use Rattle.mir_syntax.specs.Crate.{TypedStmt, assign, storage_live, storage_dead, set_discriminant, TypedBlock, TypedBody, Crate}
use Rattle.mir_syntax.specs.Shapes.{Shape}
use Rattle.mir_syntax.specs.Parts.{retargeted_arm, term_operands, term_places, targets, arm_block}
use Rattle.mir_rules.specs.BodyRules.{arm_value, has_twice, has_too_wide, breaks_v05}
use Rattle.mir_rules.specs.Formed.{place_formed, operand_formed, call_formed, block_there, stmt_formed, term_formed}
use Rattle.mir_rules.proofs.Lists.{and_true-left, and_true-right}
use Rattle.mir_rules.proofs.Statements.{StmtTyped}
use Rattle.mir_rules.proofs.Terminators.{TermTyped}
use Rattle.trim_locals.specs.Trimmed.{renamed_term}
use Rattle.mir_relate.specs.Renumbered.{Numbering, StmtSame, TermSame}
use Rattle.mir_relate.proofs.Renumbered.{assign_keeps, set_keeps}
use Rattle.inline_pass.specs.Spliced.{after, term_after}
use Rattle.inline_pass.proofs.Text.{TermReady, itself, term_operand_itself, operands_itself}

-- ---- text

pub same_of : (C : Crate) (b : TypedBody) (R : Numbering) (f : ℕ → ℕ) (ready : (x : ℕ) → x < length b.locals → R x (f x)) (t : Term) → TermReady C b R f ready t → TermSame R t (renamed_term f t)
same_of C b R f ready (Goto t) h = refl
same_of C b R f ready (Switch a arms t) h = (h, refl, refl)
same_of C b R f ready Return h = tt
same_of C b R f ready Unreachable h = tt
same_of C b R f ready (Drop p t) h = (h, refl)
same_of C b R f ready (Call p g os t) h = (h.0, refl, h.1, refl)
same_of C b R f ready (Assert a e x os t) h = (h.0, refl, refl, h.1, refl)

pub term_itself : (t : Term) → renamed_term itself t ≡ t
term_itself (Goto t) = refl
term_itself (Switch a arms t) = ap (λ a. Switch a arms t) (term_operand_itself a)
term_itself Return = refl
term_itself Unreachable = refl
term_itself (Drop p t) = refl
term_itself (Call p g os t) = ap (λ os. Call p g os t) (operands_itself os)
term_itself (Assert a e x os t) = ap₂ (λ a os. Assert a e x os t) (term_operand_itself a) (operands_itself os)

-- a statement of a text that is the same keeps the rules
module _ (D : List Shape) (args1 args2 : ℕ) (ts1 ts2 : List Tree) (R : Numbering) (types : (x y : ℕ) → R x y → slice_get ts1 x ≡ slice_get ts2 y) (above : (x y : ℕ) → R x y → args1 < x → args2 < y) where
  pub stmt_kept : (s t : TypedStmt) → StmtSame R s t → StmtTyped D args1 ts1 s → StmtTyped D args2 ts2 t
  stmt_kept (assign p x) (assign q y) h a = let r = assign_keeps D ts1 ts2 R types args1 p q x y h.0 h.1 a in record { ty = r.ty; place = r.place; rvalue = r.rvalue; moves = r.moves }
  stmt_kept (storage_live x) (storage_live y) h a = above x y h a
  stmt_kept (storage_dead x) (storage_dead y) h a = above x y h a
  stmt_kept (set_discriminant p k) (set_discriminant q i) h a = let r = set_keeps D ts1 ts2 R types args1 p q k i h.0 h.1 a in record { ty = r.ty; place = r.place; shape = r.shape; enum = r.enum; needs_none = r.needs_none; fields = r.fields; variant = r.variant }
  stmt_kept s t h a = absurd h

-- the formedness of a statement doesn't look at blocks
pub stmt_formed_any : (C : Crate) (b : TypedBody) (ks : List TypedBlock) (t : TypedStmt) → stmt_formed C (record b { blocks = ks }) t ≡ stmt_formed C b t
unfolding stmt_formed
stmt_formed_any C b ks (assign p r) = refl
stmt_formed_any C b ks (storage_live x) = refl
stmt_formed_any C b ks (storage_dead x) = refl
stmt_formed_any C b ks (set_discriminant p k) = refl

pub record TermParts (C : Crate) (b : TypedBody) (t : Term) : Type 0 where
  pub call : call_formed C t ≡ true
  pub operands : list_all operand_formed (term_operands t) ≡ true
  pub places : list_all (place_formed b) (term_places t) ≡ true
  pub goals : list_all (block_there b) (targets t) ≡ true

pub term_parts : (C : Crate) (b : TypedBody) (t : Term) → term_formed C b t ≡ true → TermParts C b t
unfolding term_formed
term_parts C b t h =
    let os = list_all operand_formed (term_operands t) in
    let ps = list_all (place_formed b) (term_places t) in
    let gs = list_all (block_there b) (targets t) in
    let h1 = and_true-right (call_formed C t) (os && (ps && gs)) h in
    let h2 = and_true-right os (ps && gs) h1 in
    record { call = and_true-left (call_formed C t) (os && (ps && gs)) h; operands = and_true-left os (ps && gs) h1; places = and_true-left ps gs h2; goals = and_true-right ps gs h2 }

pub parts_term : (C : Crate) (b : TypedBody) (t : Term) → TermParts C b t → term_formed C b t ≡ true
unfolding term_formed
parts_term C b t q = rw (q.call, q.operands, q.places, q.goals) refl

-- ---- the targets of a copy

nonzero : (n : ℕ) → 0 < n → (n == 0) ≡ false
nonzero zero l = absurd (omega (arith, l))
nonzero (suc n) l = grind arith

pub all_more : (n m : ℕ) → n ≤ m → (xs : List ℕ) → list_all (λ i. nat_lt i n) xs ≡ true → list_all (λ i. nat_lt i m) xs ≡ true
all_more n m le [] h = refl
all_more n m le (x ∷ xs) h =
    let l = ltb-true x n (and_true-left (nat_lt x n) (list_all (λ i. nat_lt i n) xs) h) in
    rw (lt-ltb x m (omega (arith, l, le))) (all_more n m le xs (and_true-right (nat_lt x n) (list_all (λ i. nat_lt i n) xs) h))

all_after : (B n m : ℕ) → B + n ≤ m → (xs : List ℕ) → list_all (λ i. nat_lt i n) xs ≡ true → list_all (λ i. nat_lt i m) (map (after B) xs) ≡ true
all_after B n m le [] h = refl
all_after B n m le (x ∷ xs) h =
    let l = ltb-true x n (and_true-left (nat_lt x n) (list_all (λ i. nat_lt i n) xs) h) in
    rw (lt-ltb (B + x) m (omega (arith, l, le))) (all_after B n m le xs (and_true-right (nat_lt x n) (list_all (λ i. nat_lt i n) xs) h))

none_zero : (B : ℕ) → 0 < B → (xs : List ℕ) → list_any (λ i. i == 0) (map (after B) xs) ≡ false
none_zero B l [] = refl
none_zero B l (x ∷ xs) = rw (nonzero (B + x) (omega (arith, l))) (none_zero B l xs)

arms_targets : (B : ℕ) (arms : List Arm) (t : ℕ) → map arm_block (map (retargeted_arm (after B)) arms) ++ (B + t) ∷ [] ≡ map (after B) (map arm_block arms ++ t ∷ [])
arms_targets B [] t = refl
arms_targets B (a ∷ arms) t = ap (λ xs. (B + a.block) ∷ xs) (arms_targets B arms t)

arms_values : (B : ℕ) (arms : List Arm) → map arm_value (map (retargeted_arm (after B)) arms) ≡ map arm_value arms
arms_values B [] = refl
arms_values B (a ∷ arms) = ap (λ vs. a.value ∷ vs) (arms_values B arms)

-- where a copy goes on: as far behind, or where the call returns
pub goals_after : (L B next : ℕ) (t : Term) → (targets (term_after L B next t) ≡ map (after B) (targets t)) ⊎ (targets (term_after L B next t) ≡ next ∷ [])
goals_after L B next (Goto t) = inl refl
goals_after L B next (Switch a arms t) = inl (arms_targets B arms t)
goals_after L B next Return = inr refl
goals_after L B next Unreachable = inl refl
goals_after L B next (Drop p t) = inl refl
goals_after L B next (Call p g os t) = inl refl
goals_after L B next (Assert a e x os t) = inl refl

pub goals_there : (L B next n m : ℕ) (t : Term) → B + n ≤ m → next < m → list_all (λ i. nat_lt i n) (targets t) ≡ true → list_all (λ i. nat_lt i m) (targets (term_after L B next t)) ≡ true
goals_there L B next n m t le lt h = go (goals_after L B next t)
  where
    go : (targets (term_after L B next t) ≡ map (after B) (targets t)) ⊎ (targets (term_after L B next t) ≡ next ∷ []) → list_all (λ i. nat_lt i m) (targets (term_after L B next t)) ≡ true
    go (inl q) = ap (list_all (λ i. nat_lt i m)) q ∙ all_after B n m le (targets t) h
    go (inr q) = ap (list_all (λ i. nat_lt i m)) q ∙ rw (lt-ltb next m lt) refl

pub goals_start : (L B next : ℕ) (t : Term) → 0 < B → 0 < next → breaks_v05 (term_after L B next t) ≡ false
goals_start L B next t l l2 = go (goals_after L B next t)
  where
    go : (targets (term_after L B next t) ≡ map (after B) (targets t)) ⊎ (targets (term_after L B next t) ≡ next ∷ []) → list_any (λ i. i == 0) (targets (term_after L B next t)) ≡ false
    go (inl q) = ap (list_any (λ i. i == 0)) q ∙ none_zero B l (targets t)
    go (inr q) = ap (list_any (λ i. i == 0)) q ∙ rw (nonzero next l2) refl

-- the copy of a terminator keeps the rules that its renamed text keeps
pub after_typed : (C : Crate) (D : List Shape) (ts : List Tree) (L B next : ℕ) (t : Term) → breaks_v05 (term_after L B next t) ≡ false → TermTyped C D ts (renamed_term (after L) t) → TermTyped C D ts (term_after L B next t)
after_typed C D ts L B next (Goto t) q r = record { targets = q; own = tt; moves = r.moves }
after_typed C D ts L B next (Switch a arms t) q r = record {
  targets = q;
  own = record { ty = r.own.ty; operand = r.own.operand; once = subst (λ vs. has_twice vs ≡ false) (sym (arms_values B arms)) r.own.once; fits = subst (λ vs. has_too_wide (Some r.own.ty) vs ≡ false) (sym (arms_values B arms)) r.own.fits };
  moves = r.moves;
}
after_typed C D ts L B next Return q r = record { targets = q; own = tt; moves = r.moves }
after_typed C D ts L B next Unreachable q r = record { targets = q; own = tt; moves = r.moves }
after_typed C D ts L B next (Drop p t) q r = record { targets = q; own = r.own; moves = r.moves }
after_typed C D ts L B next (Call p g os t) q r = record { targets = q; own = r.own; moves = r.moves }
after_typed C D ts L B next (Assert a e x os t) q r = record { targets = q; own = r.own; moves = r.moves }

pub after_formed : (C : Crate) (b : TypedBody) (L B next : ℕ) (t : Term) → list_all (block_there b) (targets (term_after L B next t)) ≡ true → call_formed C (renamed_term (after L) t) ≡ true → list_all operand_formed (term_operands (renamed_term (after L) t)) ≡ true → list_all (place_formed b) (term_places (renamed_term (after L) t)) ≡ true → TermParts C b (term_after L B next t)
after_formed C b L B next (Goto t) q a o s = record { call = a; operands = o; places = s; goals = q }
after_formed C b L B next (Switch c arms t) q a o s = record { call = a; operands = o; places = s; goals = q }
after_formed C b L B next Return q a o s = record { call = a; operands = o; places = s; goals = q }
after_formed C b L B next Unreachable q a o s = record { call = a; operands = o; places = s; goals = q }
after_formed C b L B next (Drop p t) q a o s = record { call = a; operands = o; places = s; goals = q }
after_formed C b L B next (Call p g os t) q a o s = record { call = a; operands = o; places = s; goals = q }
after_formed C b L B next (Assert c e x os t) q a o s = record { call = a; operands = o; places = s; goals = q }
