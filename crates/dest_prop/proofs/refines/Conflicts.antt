-- What is live after a write to a member of a group is no other member, unless the statement goes.
use Rattle.std.proofs.Common.{◌≡◌, ◌⊎◌, inl, inr, refl, sym, ap, ap₂, ◌∙◌, subst, ℕ, zero, suc, ◌+◌, ◌≤◌, Bool, true, false, not, nat_eq, ◌&&◌, ◌||◌, if◌then◌else◌, List, [], ◌∷◌, Some, slice_get, arith, eq-eqb, eqb-true}
use Rattle.std.specs.List.{list_any}
use Rattle.std.proofs.lemmas.Bool.{and_parts, le-leb, or_right}
use Rattle.std.proofs.lemmas.Option.{slice_get_within}
use Rattle.bit_rows.specs.Rows.{stands}
use Rattle.mir_syntax.specs.declared.body.Place.{Place}
use Rattle.mir_syntax.specs.declared.body.Operand.{Operand}
use Rattle.mir_syntax.specs.declared.body.Callee.{Callee}
use Rattle.mir_syntax.specs.declared.body.Term.TheVariants.{Call}
use Rattle.mir_syntax.specs.Crate.{TypedRvalue, TypedStmt, assign, set_discriminant, TypedBlock, TypedBody}
use Rattle.mir_syntax.specs.Shapes.{Shape}
use Rattle.mir_syntax.specs.Parts.{has_deref}
use Rattle.mir_rules.proofs.Lists.{or_false-left, or_false-right}
use Rattle.mir_renaming.proofs.Memory.{same_or_not}
use Rattle.liveness.specs.Live.{Live}
use Rattle.liveness.specs.Decided.{is_live}
use Rattle.liveness.proofs.Decided.{live_told}
use Rattle.dest_prop.specs.Merged.{Pair, copies, written, stmt_writes, is_copy, any_from, stmt_hurts, term_hurts, block_hurts, is_argument, hurts, conflict, home_of, is_shared, stays}
use Rattle.dest_prop.proofs.Homes.{free, shared_of}

none_from : {A : Type 0} (test : ℕ → A → Bool) (n : ℕ) (xs : List A) → any_from test n xs ≡ false → (i : ℕ) (x : A) → slice_get xs i ≡ Some x → test (n + i) x ≡ false
none_from test n [] h i x e = absurd (grind arith)
none_from test n (y ∷ xs) h zero x e =
    let z : n + 0 ≡ n = omega arith in
    ap₂ test z (let q : x ≡ y = grind arith in q) ∙ or_false-left (test n y) (any_from test (suc n) xs) h
none_from test n (y ∷ xs) h (suc i) x e =
    let z : n + suc i ≡ suc n + i = omega arith in
    ap (λ n. test n x) z ∙ none_from test (suc n) xs (or_false-right (test n y) (any_from test (suc n) xs) h) i x e

none_in : {A : Type 0} (test : ℕ → A → Bool) (xs : List A) → any_from test 0 xs ≡ false → (i : ℕ) (x : A) → slice_get xs i ≡ Some x → test i x ≡ false
none_in test xs h i x e = (let z : i ≡ 0 + i = omega arith in ap (λ n. test n x) z) ∙ none_from test 0 xs h i x e

both_true : (a b : Bool) → a ≡ true → (a && b) ≡ false → b ≡ false
both_true true b e h = h
both_true false b e h = absurd (grind arith)

module _ (D : List Shape) (b : TypedBody) where
  abbrev home : ℕ → ℕ
  home = home_of D b

  no_hurt : (x y : ℕ) → home x ≡ home y → (x ≡ y → ⊥) → hurts D b x y ≡ false
  unfolding conflict
  no_hurt x y e ne = or_false-left (hurts D b x y) (hurts D b y x) (free D b x y e ne)

  in_block : (x y : ℕ) → home x ≡ home y → (x ≡ y → ⊥) → (i : ℕ) (k : TypedBlock) → slice_get b.blocks i ≡ Some k → block_hurts D b x y i k ≡ false
  in_block x y e ne i k ek = none_in (block_hurts D b x y) b.blocks (or_false-left (any_from (block_hurts D b x y) 0 b.blocks) (is_argument b x && is_live D b 0 0 y) (no_hurt x y e ne)) i k ek

  direct : (p : Place) → has_deref p.proj ≡ false → stands p.local (written p) ≡ true
  direct p d = subst (λ c. stands p.local (if c then [] else p.local ∷ []) ≡ true) (sym d) (ap (λ c. c || false) (eq-eqb p.local p.local refl))

  module _ (i n : ℕ) (k : TypedBlock) (s : TypedStmt) (ek : slice_get b.blocks i ≡ Some k) (es : slice_get k.stmts n ≡ Some s) where
    copies_it : (x y : ℕ) → stands x (stmt_writes s) ≡ true → home y ≡ home x → (y ≡ x → ⊥) → Live D b i (suc n) y → is_copy s x y ≡ true
    copies_it x y w e ne lv =
        let hurt = none_in (stmt_hurts D b x y i) k.stmts (or_false-left (any_from (stmt_hurts D b x y i) 0 k.stmts) (term_hurts D b x y k.term) (in_block x y (sym e) (λ q. ne (sym q)) i k ek)) n s es in
        let live : is_live D b i (suc n) y ≡ true = live_told D b y i (suc n) k ek (slice_get_within k.stmts n s es) lv in
        not_false' (is_copy s x y) (both_true (is_live D b i (suc n) y) (not (is_copy s x y)) live (both_true (stands x (stmt_writes s)) (is_live D b i (suc n) y && not (is_copy s x y)) w hurt))
      where
        not_false' : (a : Bool) → not a ≡ false → a ≡ true
        not_false' true e = refl
        not_false' false e = absurd (grind arith)

  -- a copy between two members of a group goes
  copy_goes : (p : Place) (r : TypedRvalue) (x y : ℕ) → is_copy (assign p r) x y ≡ true → home y ≡ home x → (y ≡ x → ⊥) → stays (is_shared b (home_of D b)) (home_of D b) (assign p r) ≡ false
  copy_goes p r x y c e ne = ap not (any_goes (copies (assign p r)) c)
    where
      any_goes : (cs : List Pair) → list_any (λ c. nat_eq c.0 x && nat_eq c.1 y) cs ≡ true → list_any (λ c. is_shared b (home_of D b) c.0 && nat_eq (home_of D b c.0) (home_of D b c.1)) cs ≡ true
      any_goes [] h = absurd (grind arith)
      any_goes (c ∷ cs) h = go (nat_eq c.0 x && nat_eq c.1 y) refl h (any_goes cs)
        where
          here : (nat_eq c.0 x && nat_eq c.1 y) ≡ true → (is_shared b (home_of D b) c.0 && nat_eq (home_of D b c.0) (home_of D b c.1)) ≡ true
          here q =
              let t = and_parts (nat_eq c.0 x) (nat_eq c.1 y) q in
              let a : c.0 ≡ x = eqb-true c.0 x t.0 in
              let d : c.1 ≡ y = eqb-true c.1 y t.1 in
              ap₂ (λ a d. a && d) (ap (is_shared b (home_of D b)) a ∙ shared_of D b x y e ne) (eq-eqb (home_of D b c.0) (home_of D b c.1) (ap (home_of D b) a ∙ sym e ∙ ap (home_of D b) (sym d)))

          go : (q : Bool) → (nat_eq c.0 x && nat_eq c.1 y) ≡ q → (q || list_any (λ c. nat_eq c.0 x && nat_eq c.1 y) cs) ≡ true → (list_any (λ c. nat_eq c.0 x && nat_eq c.1 y) cs ≡ true → list_any (λ c. is_shared b (home_of D b) c.0 && nat_eq (home_of D b c.0) (home_of D b c.1)) cs ≡ true) → ((is_shared b (home_of D b) c.0 && nat_eq (home_of D b c.0) (home_of D b c.1)) || list_any (λ c. is_shared b (home_of D b) c.0 && nat_eq (home_of D b c.0) (home_of D b c.1)) cs) ≡ true
          go true q h ih = ap (λ z. z || list_any (λ c. is_shared b (home_of D b) c.0 && nat_eq (home_of D b c.0) (home_of D b c.1)) cs) (here q)
          go false q h ih = or_right (is_shared b (home_of D b) c.0 && nat_eq (home_of D b c.0) (home_of D b c.1)) _ (ih h)

  -- what is live at the start of a block, the test tells
  pub live_start : (u y : ℕ) → Live D b u 0 y → is_live D b u 0 y ≡ true
  live_start u y (zero, lv) = absurd lv
  live_start u y (suc m, (k, ek, lv)) = live_told D b y u 0 k ek (omega arith) (suc m, (k, ek, lv))

  unless_same : (x y : ℕ) → ((y ≡ x → ⊥) → ⊥) → y ≡ x
  unless_same x y h = go (same_or_not y x)
    where
      go : ((nat_eq y x ≡ true) × (y ≡ x)) ⊎ ((nat_eq y x ≡ false) × (y ≡ x → ⊥)) → y ≡ x
      go (inl q) = q.1
      go (inr q) = absurd (h q.1)

  clash : {c : Bool} → c ≡ true → c ≡ false → ⊥
  clash p q = (let z : true ≡ false = sym p ∙ q in grind arith)

  -- an assignment that stays, to a place that isn't behind a reference
  pub clear_assign : (i n : ℕ) (k : TypedBlock) (p : Place) (r : TypedRvalue) → slice_get b.blocks i ≡ Some k → slice_get k.stmts n ≡ Some (assign p r) → stays (is_shared b (home_of D b)) (home_of D b) (assign p r) ≡ true → has_deref p.proj ≡ false → (y : ℕ) → Live D b i (suc n) y → home y ≡ home p.local → y ≡ p.local
  clear_assign i n k p r ek es st d y lv e = unless_same p.local y (λ ne. clash st (copy_goes p r p.local y (copies_it i n k (assign p r) ek es p.local y (direct p d) e ne lv) e ne))

  pub clear_set : (i n : ℕ) (k : TypedBlock) (p : Place) (v : ℕ) → slice_get b.blocks i ≡ Some k → slice_get k.stmts n ≡ Some (set_discriminant p v) → has_deref p.proj ≡ false → (y : ℕ) → Live D b i (suc n) y → home y ≡ home p.local → y ≡ p.local
  clear_set i n k p v ek es d y lv e = unless_same p.local y (λ ne. clash (copies_it i n k (set_discriminant p v) ek es p.local y (direct p d) e ne lv) refl)

  pub clear_call : (i : ℕ) (k : TypedBlock) (p : Place) (c : Callee) (os : List Operand) (u : ℕ) → slice_get b.blocks i ≡ Some k → k.term ≡ Call p c os u → has_deref p.proj ≡ false → (y : ℕ) → Live D b u 0 y → home y ≡ home p.local → y ≡ p.local
  clear_call i k p c os u ek et d y lv e = unless_same p.local y (λ ne. out ne)
    where
      out : (y ≡ p.local → ⊥) → ⊥
      out ne =
          let hurt = or_false-right (any_from (stmt_hurts D b p.local y i) 0 k.stmts) (term_hurts D b p.local y k.term) (in_block p.local y (sym e) (λ q. ne (sym q)) i k ek) in
          let dead : is_live D b u 0 y ≡ false = both_true (stands p.local (written p)) (is_live D b u 0 y) (direct p d) (subst (λ t. term_hurts D b p.local y t ≡ false) et hurt) in
          clash (live_start u y lv) dead

  -- a local that is live at the start isn't in a group with an argument
  pub clear_start : (x y : ℕ) → 1 ≤ x → x ≤ b.args → Live D b 0 0 y → home y ≡ home x → y ≡ x
  clear_start x y l m lv e = unless_same x y (λ ne. out ne)
    where
      out : (y ≡ x → ⊥) → ⊥
      out ne =
          let hurt = or_false-right (any_from (block_hurts D b x y) 0 b.blocks) (is_argument b x && is_live D b 0 0 y) (no_hurt x y (sym e) (λ q. ne (sym q))) in
          clash (live_start 0 y lv) (both_true (is_argument b x) (is_live D b 0 0 y) (ap₂ (λ a c. a && c) (le-leb 1 x l) (le-leb x b.args m)) hurt)
