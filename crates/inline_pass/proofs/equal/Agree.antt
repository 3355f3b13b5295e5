-- The text of a formed body under two ways to number its locals and blocks which agree on those that it has.
use Rattle.std.proofs.Common.{◌≡◌, refl, ap, ap₂, ◌∙◌, ℕ, ◌<◌, true, ◌&&◌, nat_lt, List, [], ◌∷◌, ◌++◌, map, length}
use Rattle.std.proofs.Common.{ltb-true}
use Rattle.std.specs.List.{list_all, flat_map}
use Rattle.mir_syntax.specs.declared.body.Place.{Place}
use Rattle.mir_syntax.specs.declared.body.Operand.{Operand}
use Rattle.mir_syntax.specs.declared.body.Operand.TheVariants as operand
use Rattle.mir_syntax.specs.declared.body.Arm.{Arm}
use Rattle.mir_syntax.specs.declared.body.Term.{Term}
use Rattle.mir_syntax.specs.declared.body.Term.TheVariants.{Goto, Switch, Return, Unreachable, Drop, Call, Assert}
use Rattle.mir_syntax.specs.Crate.{TypedRvalue, «use», binary, overflow, unary, cast, discriminant, tuple, build, TypedStmt, assign, storage_live, storage_dead, set_discriminant, TypedBody, Crate}
use Rattle.mir_syntax.specs.Crate as rvalue
use Rattle.mir_syntax.specs.Parts.{operand_places, rvalue_operands, rvalue_places, term_operands, term_places, arm_block, targets, retargeted, retargeted_arm}
use Rattle.mir_rules.specs.Formed.{place_formed, operand_formed, shape_formed, call_formed, block_there, stmt_formed, term_formed}
use Rattle.mir_rules.proofs.Lists.{and_true-left, and_true-right}
use Rattle.trim_locals.specs.Trimmed.{renamed_place, renamed_operand, renamed_rvalue, renamed_stmt, renamed_term}

module _ (C : Crate) (b : TypedBody) (f g : ℕ → ℕ) (agree : (x : ℕ) → x < length b.locals → f x ≡ g x) where
  abbrev AllFormed : List Place → Type 0
  AllFormed ps = list_all (place_formed b) ps ≡ true

  abbrev places : List Operand → List Place
  places os = flat_map operand_places os

  place_agree : (p : Place) → place_formed b p ≡ true → renamed_place f p ≡ renamed_place g p
  place_agree p h = ap (λ x. record { local = x; proj = p.proj }) (agree p.local (ltb-true p.local (length b.locals) (and_true-left (nat_lt p.local (length b.locals)) _ h)))

  first_agree : (p : Place) (ps : List Place) → AllFormed (p ∷ ps) → (renamed_place f p ≡ renamed_place g p) × AllFormed ps
  first_agree p ps h = (place_agree p (and_true-left (place_formed b p) (list_all (place_formed b) ps) h), and_true-right (place_formed b p) (list_all (place_formed b) ps) h)

  operand_agree : (o : Operand) (os : List Operand) → AllFormed (places (o ∷ os)) → (renamed_operand f o ≡ renamed_operand g o) × AllFormed (places os)
  operand_agree (operand.Copy p) os h = let (e, k) = first_agree p (places os) h in (ap operand.Copy e, k)
  operand_agree (operand.Move p) os h = let (e, k) = first_agree p (places os) h in (ap operand.Move e, k)
  operand_agree (operand.Const c) os h = (refl, h)

  operands_agree : (os : List Operand) → AllFormed (places os) → map (renamed_operand f) os ≡ map (renamed_operand g) os
  operands_agree [] h = refl
  operands_agree (o ∷ os) h = let (e, k) = operand_agree o os h in ap₂ (λ x xs. x ∷ xs) e (operands_agree os k)

  two_agree : (a c : Operand) → AllFormed (places (a ∷ c ∷ [])) → (renamed_operand f a ≡ renamed_operand g a) × (renamed_operand f c ≡ renamed_operand g c)
  two_agree a c h = let (x, k) = operand_agree a (c ∷ []) h in (x, (operand_agree c [] k).0)

  rvalue_agree : (r : TypedRvalue) → AllFormed (rvalue_places r) → renamed_rvalue f r ≡ renamed_rvalue g r
  rvalue_agree («use» o) h = ap «use» (operand_agree o [] h).0
  rvalue_agree (binary op a c) h = let (x, y) = two_agree a c h in ap₂ (binary op) x y
  rvalue_agree (overflow op a c) h = let (x, y) = two_agree a c h in ap₂ (overflow op) x y
  rvalue_agree (unary op a) h = ap (unary op) (operand_agree a [] h).0
  rvalue_agree (cast a t) h = ap (λ a. cast a t) (operand_agree a [] h).0
  rvalue_agree (rvalue.ref p) h = ap rvalue.ref (first_agree p [] h).0
  rvalue_agree (rvalue.ref_mut p) h = ap rvalue.ref_mut (first_agree p [] h).0
  rvalue_agree (discriminant p) h = ap discriminant (first_agree p [] h).0
  rvalue_agree (tuple os) h = ap tuple (operands_agree os h)
  rvalue_agree (build d k os) h = ap (build d k) (operands_agree os h)

  local_agree : (x : ℕ) → nat_lt x (length b.locals) ≡ true → f x ≡ g x
  local_agree x h = agree x (ltb-true x (length b.locals) h)

  pub stmt_agree : (s : TypedStmt) → stmt_formed C b s ≡ true → renamed_stmt f s ≡ renamed_stmt g s
  unfolding stmt_formed
  stmt_agree (assign p r) h =
      ap₂ assign (place_agree p (and_true-left (place_formed b p) _ h)) (rvalue_agree r (and_true-right (list_all operand_formed (rvalue_operands r)) _ (and_true-right (shape_formed C r) _ (and_true-right (place_formed b p) _ h))))
  stmt_agree (storage_live x) h = ap storage_live (local_agree x h)
  stmt_agree (storage_dead x) h = ap storage_dead (local_agree x h)
  stmt_agree (set_discriminant p k) h = ap (λ p. set_discriminant p k) (place_agree p h)

  renamed_agree : (t : Term) → AllFormed (term_places t) → renamed_term f t ≡ renamed_term g t
  renamed_agree (Goto t) h = refl
  renamed_agree (Switch a arms t) h = ap (λ a. Switch a arms t) (operand_agree a [] h).0
  renamed_agree Return h = refl
  renamed_agree Unreachable h = refl
  renamed_agree (Drop p t) h = ap (λ p. Drop p t) (first_agree p [] h).0
  renamed_agree (Call p c os t) h = let (e, k) = first_agree p (places os) h in ap₂ (λ p os. Call p c os t) e (operands_agree os k)
  renamed_agree (Assert a w x os t) h = let (e, k) = operand_agree a os h in ap₂ (λ a os. Assert a w x os t) e (operands_agree os k)

  -- ---- and blocks

  module _ (u v : ℕ → ℕ) (same : (x : ℕ) → x < length b.blocks → u x ≡ v x) where
    abbrev AllThere : List ℕ → Type 0
    AllThere is = list_all (block_there b) is ≡ true

    first_there : (i : ℕ) (is : List ℕ) → AllThere (i ∷ is) → (u i ≡ v i) × AllThere is
    first_there i is h = (same i (ltb-true i (length b.blocks) (and_true-left (block_there b i) (list_all (block_there b) is) h)), and_true-right (block_there b i) (list_all (block_there b) is) h)

    arms_agree : (arms : List Arm) (other : ℕ) → AllThere (map arm_block arms ++ other ∷ []) → (map (retargeted_arm u) arms ≡ map (retargeted_arm v) arms) × (u other ≡ v other)
    arms_agree [] other h = (refl, (first_there other [] h).0)
    arms_agree (a ∷ arms) other h =
        let (e, k) = first_there a.block (map arm_block arms ++ other ∷ []) h in
        let (es, z) = arms_agree arms other k in
        (ap₂ (λ b xs. record { value = a.value; block = b } ∷ xs) e es, z)

    goals_agree : (t : Term) → AllThere (targets t) → retargeted u t ≡ retargeted v t
    goals_agree (Goto t) h = ap Goto (first_there t [] h).0
    goals_agree (Switch a arms t) h = let (es, z) = arms_agree arms t h in ap₂ (Switch a) es z
    goals_agree Return h = refl
    goals_agree Unreachable h = refl
    goals_agree (Drop p t) h = ap (Drop p) (first_there t [] h).0
    goals_agree (Call p c os t) h = ap (Call p c os) (first_there t [] h).0
    goals_agree (Assert a w x os t) h = ap (Assert a w x os) (first_there t [] h).0

    same_goals : (t : Term) → targets (renamed_term f t) ≡ targets t
    same_goals (Goto t) = refl
    same_goals (Switch a arms t) = refl
    same_goals Return = refl
    same_goals Unreachable = refl
    same_goals (Drop p t) = refl
    same_goals (Call p c os t) = refl
    same_goals (Assert a w x os t) = refl

    pub term_agree : (t : Term) → term_formed C b t ≡ true → retargeted u (renamed_term f t) ≡ retargeted v (renamed_term g t)
    unfolding term_formed
    term_agree t h =
        let os = list_all operand_formed (term_operands t) in
        let ps = list_all (place_formed b) (term_places t) in
        let gs = list_all (block_there b) (targets t) in
        let rest = and_true-right os (ps && gs) (and_true-right (call_formed C t) (os && (ps && gs)) h) in
        goals_agree (renamed_term f t) (ap (list_all (block_there b)) (same_goals t) ∙ and_true-right ps gs rest) ∙ ap (retargeted v) (renamed_agree t (and_true-left ps gs rest))
