-- A valid crate stays valid with other bodies that keep their headers, are formed and break no rule.
use Rattle.std.proofs.Common.{◌≡◌, ◌⊎◌, inl, inr, refl, sym, ap, ap₂, ◌∙◌, subst, ℕ, zero, suc, Bool, true, false, nat_eq, nat_lt, ◌&&◌, if◌then◌else◌, List, [], ◌∷◌, length, take, drop, get_or, set, Option, Some, is_none, slice_get, arith}
use Rattle.std.proofs.Common.{eqb-true}
use Rattle.std.specs.List.{list_all}
use Rattle.mir_syntax.specs.declared.body.Callee.{Callee}
use Rattle.mir_syntax.specs.declared.body.Callee.TheVariants as callee
use Rattle.mir_syntax.specs.declared.body.Term.{Term}
use Rattle.mir_syntax.specs.declared.body.Term.TheVariants as term
use Rattle.mir_syntax.specs.Tree.{Tree, empty, ref_mut, named, tuple_of}
use Rattle.mir_syntax.specs.Crate.{TypedStmt, TypedBlock, TypedBody, TypedDef, TypedFunction, Crate}
use Rattle.mir_syntax.specs.Shapes.{◌>>=◌, Shape, drops_locals, is_destructor_of, destructor_from, shape_of, shapes_from, shapes_of}
use Rattle.mir_rules.specs.Typing.{args_of, result_of, callee_args_ty, callee_result_ty}
use Rattle.mir_syntax.specs.Parts.{term_operands, term_places, targets}
use Rattle.mir_rules.specs.Formed.{place_formed, operand_formed, callee_formed, call_formed, block_there, stmt_formed, term_formed, block_formed, has_start, type_formed, body_formed, function_formed, def_formed, outside_formed, is_formed}
use Rattle.mir_rules.specs.Broken.{terminator_broken}
use Rattle.mir_rules.specs.Valid.{Valid}
use Rattle.mir_rules.proofs.Lists.{and_true-left, and_true-right, list_all_true}
use Rattle.mir_rules.proofs.Keeps.{BodyKeeps, CrateKeeps, crate_keeps, broken_none}
use Rattle.mir_rules.specs.DefinitionRules.{dropped_by_locals, dropped_by_args, dropped_by, has_earlier, breaks_v03, breaks_v04}

-- ---- headers

-- the same arguments and result, and both or neither a `drop fn`
pub record Alike (g2 g : TypedFunction) : Type 0 where
  pub is_drop : g2.is_drop ≡ g.is_drop
  pub args : g2.body.args ≡ g.body.args
  pub start : take (suc g.body.args) g2.body.locals ≡ take (suc g.body.args) g.body.locals

-- function by function
abbrev pub AllAlike : List TypedFunction → List TypedFunction → Type 0
AllAlike [] [] = Unit {0}
AllAlike (g2 ∷ fs2) (g ∷ fs) = Alike g2 g × AllAlike fs2 fs
AllAlike _ _ = ⊥

pub alike_refl : (g : TypedFunction) → Alike g g
alike_refl g = record { is_drop = refl; args = refl; start = refl }

pub all_alike_refl : (fs : List TypedFunction) → AllAlike fs fs
all_alike_refl [] = tt
all_alike_refl (g ∷ fs) = (alike_refl g, all_alike_refl fs)

pub set_alike : (fs : List TypedFunction) (f : ℕ) (g g2 : TypedFunction) → slice_get fs f ≡ Some g → Alike g2 g → AllAlike (set fs f g2) fs
set_alike [] f g g2 e h = absurd (grind arith)
set_alike (x ∷ fs) zero g g2 e h = (rw (let same : x ≡ g = grind arith in same) h, all_alike_refl fs)
set_alike (x ∷ fs) (suc f) g g2 e h = (alike_refl x, set_alike fs f g g2 e h)

-- what stands in a changed list
pub set_cases : {A : Type 0} (xs : List A) (f j : ℕ) (v x : A) → slice_get (set xs f v) j ≡ Some x → (x ≡ v) ⊎ (slice_get xs j ≡ Some x)
set_cases [] f j v x e = absurd (grind arith)
set_cases (y ∷ xs) zero zero v x e = inl (grind arith)
set_cases (y ∷ xs) zero (suc j) v x e = inr e
set_cases (y ∷ xs) (suc f) zero v x e = inr e
set_cases (y ∷ xs) (suc f) (suc j) v x e = set_cases xs f j v x e

drops_locals_take : (d : ℕ) (ls : List Tree) → drops_locals d (take 2 ls) ≡ drops_locals d ls
drops_locals_take d (empty ∷ ref_mut (named k) ∷ others) = refl
drops_locals_take d ls = refl

dropped_by_take : (ls : List Tree) → dropped_by_locals (take 2 ls) ≡ dropped_by_locals ls
dropped_by_take (empty ∷ ref_mut (named k) ∷ others) = refl
dropped_by_take ls = refl

one_arg : (g2 g : TypedFunction) → Alike g2 g → nat_eq g.body.args 1 ≡ true → take 2 g2.body.locals ≡ take 2 g.body.locals
one_arg g2 g a e = let one : g.body.args ≡ 1 = eqb-true g.body.args 1 e in subst (λ n. take (suc n) g2.body.locals ≡ take (suc n) g.body.locals) one a.start

destructor_if : (d : ℕ) (g2 g : TypedFunction) → Alike g2 g → (b : Bool) → nat_eq g.body.args 1 ≡ b → (nat_eq g2.body.args 1 && drops_locals d g2.body.locals) ≡ (nat_eq g.body.args 1 && drops_locals d g.body.locals)
destructor_if d g2 g a true e =
    let same : drops_locals d g2.body.locals ≡ drops_locals d g.body.locals = sym (drops_locals_take d g2.body.locals) ∙ ap (drops_locals d) (one_arg g2 g a e) ∙ drops_locals_take d g.body.locals in
    rw (a.args, e) same
destructor_if d g2 g a false e = rw (a.args, e) refl

destructor_alike : (d : ℕ) (g2 g : TypedFunction) → Alike g2 g → is_destructor_of d g2 ≡ is_destructor_of d g
destructor_alike d g2 g a = ap₂ (λ x y. x && y) a.is_drop (destructor_if d g2 g a (nat_eq g.body.args 1) refl)

dropped_args : (n : ℕ) (l2 l : List Tree) → take (suc n) l2 ≡ take (suc n) l → dropped_by_args n l2 ≡ dropped_by_args n l
dropped_args zero l2 l e = refl
dropped_args (suc zero) l2 l e = sym (dropped_by_take l2) ∙ ap dropped_by_locals e ∙ dropped_by_take l
dropped_args (suc (suc n)) l2 l e = refl

pub dropped_alike : (g2 g : TypedFunction) → Alike g2 g → dropped_by g2 ≡ dropped_by g
dropped_alike g2 g a = ap (λ n. dropped_by_args n g2.body.locals) a.args ∙ dropped_args g.body.args g2.body.locals g.body.locals a.start

-- ---- signatures

take_args : (n : ℕ) (ls : List Tree) → take n (drop 1 ls) ≡ drop 1 (take (suc n) ls)
take_args zero [] = refl
take_args (suc n) [] = refl
take_args n (t ∷ ls) = refl

pub args_alike : (g2 g : TypedFunction) → Alike g2 g → args_of g2.body ≡ args_of g.body
args_alike g2 g a =
    ap (λ n. take n (drop 1 g2.body.locals)) a.args
    ∙ take_args g.body.args g2.body.locals ∙ ap (λ ls. drop 1 ls) a.start ∙ sym (take_args g.body.args g.body.locals)

first_of_take : (n : ℕ) (ls : List Tree) → get_or (take (suc n) ls) 0 empty ≡ get_or ls 0 empty
first_of_take n [] = refl
first_of_take n (t ∷ ls) = refl

pub result_alike : (g2 g : TypedFunction) → Alike g2 g → result_of g2.body ≡ result_of g.body
result_alike g2 g a = sym (first_of_take g.body.args g2.body.locals) ∙ ap (λ ls. get_or ls 0 empty) a.start ∙ first_of_take g.body.args g.body.locals

-- ---- lists of functions

pub length_alike : (fs2 fs : List TypedFunction) → AllAlike fs2 fs → length fs2 ≡ length fs
length_alike [] [] h = refl
length_alike (g2 ∷ fs2) (g ∷ fs) h = ap suc (length_alike fs2 fs h.1)
length_alike [] (g ∷ fs) h = absurd h
length_alike (g2 ∷ fs2) [] h = absurd h

pub alike_at : (fs2 fs : List TypedFunction) → AllAlike fs2 fs → (j : ℕ) (g2 : TypedFunction) → slice_get fs2 j ≡ Some g2 → (g : TypedFunction) × (slice_get fs j ≡ Some g) × Alike g2 g
alike_at (x2 ∷ fs2) (x ∷ fs) h zero g2 e = (x, refl, rw (let same : g2 ≡ x2 = grind arith in same) h.0)
alike_at (x2 ∷ fs2) (x ∷ fs) h (suc j) g2 e = alike_at fs2 fs h.1 j g2 e
alike_at [] [] h j g2 e = absurd (grind arith)
alike_at [] (g ∷ fs) h j g2 e = absurd h
alike_at (x2 ∷ fs2) [] h j g2 e = absurd h

-- what is seen of a function by its header alone
seen_alike : {X : Type 0} (see : TypedFunction → X) → ((g2 g : TypedFunction) → Alike g2 g → see g2 ≡ see g) → (fs2 fs : List TypedFunction) → AllAlike fs2 fs → (j : ℕ) → (slice_get fs2 j >>= λ g. Some (see g)) ≡ (slice_get fs j >>= λ g. Some (see g))
unfolding ◌>>=◌
seen_alike see k (g2 ∷ fs2) (g ∷ fs) h zero = ap Some (k g2 g h.0)
seen_alike see k (g2 ∷ fs2) (g ∷ fs) h (suc j) = seen_alike see k fs2 fs h.1 j
seen_alike see k [] [] h j = refl
seen_alike see k [] (g ∷ fs) h j = absurd h
seen_alike see k (g2 ∷ fs2) [] h j = absurd h

destructor_from_alike : (d i : ℕ) (fs2 fs : List TypedFunction) → AllAlike fs2 fs → destructor_from d i fs2 ≡ destructor_from d i fs
destructor_from_alike d i [] [] h = refl
destructor_from_alike d i (g2 ∷ fs2) (g ∷ fs) h = ap₂ (λ b o. if b then Some i else o) (destructor_alike d g2 g h.0) (destructor_from_alike d (suc i) fs2 fs h.1)
destructor_from_alike d i [] (g ∷ fs) h = absurd h
destructor_from_alike d i (g2 ∷ fs2) [] h = absurd h

shapes_from_alike : (fs2 fs : List TypedFunction) (d : ℕ) (defs : List TypedDef) → AllAlike fs2 fs → shapes_from fs2 d defs ≡ shapes_from fs d defs
shapes_from_alike fs2 fs d [] h = refl
shapes_from_alike fs2 fs d (def ∷ defs) h =
    ap₂ (λ (o : Option ℕ) (ss : List Shape). record (shape_of fs d def) { destructor = o } ∷ ss) (destructor_from_alike d 0 fs2 fs h) (shapes_from_alike fs2 fs (suc d) defs h)

-- ---- the crate

module _ (C : Crate) (fs2 : List TypedFunction) (alike : AllAlike fs2 C.functions) where
  abbrev C2 : Crate
  C2 = record C { functions = fs2 }

  pub shapes_alike : shapes_of C2 ≡ shapes_of C
  unfolding shapes_of
  shapes_alike = shapes_from_alike fs2 C.functions 0 C.defs alike

  pub callee_args_alike : (g : Callee) → callee_args_ty C2 g ≡ callee_args_ty C g
  callee_args_alike (callee.Local f) = seen_alike (λ g. tuple_of (args_of g.body)) (λ g2 g a. ap tuple_of (args_alike g2 g a)) fs2 C.functions alike f.0
  callee_args_alike (callee.Outside o) = refl

  pub callee_result_alike : (g : Callee) → callee_result_ty C2 g ≡ callee_result_ty C g
  callee_result_alike (callee.Local f) = seen_alike (λ g. result_of g.body) result_alike fs2 C.functions alike f.0
  callee_result_alike (callee.Outside o) = refl

  -- ---- rules

  term_broken_alike : (D : List Shape) (locals : List Tree) (t : Term) → terminator_broken C2 D locals t ≡ terminator_broken C D locals t
  unfolding terminator_broken
  term_broken_alike D locals (term.Call p g args next) = rw (callee_args_alike g, callee_result_alike g) refl
  term_broken_alike D locals t = refl

  pub body_keeps_alike : (b : TypedBody) → BodyKeeps C b → BodyKeeps C2 b
  body_keeps_alike b h = record {
    stmts = λ j i k s e e2. rw shapes_alike (h.stmts j i k s e e2);
    terms = λ j k e. rw shapes_alike (term_broken_alike (shapes_of C) b.locals k.term ∙ h.terms j k e);
  }

  third_alike : (g2 g : TypedFunction) → Alike g2 g → breaks_v03 g2 ≡ breaks_v03 g
  third_alike g2 g a = ap₂ (λ b o. b && is_none o) a.is_drop (dropped_alike g2 g a)

  fourth_alike : (f : ℕ) (g2 g : TypedFunction) → Alike g2 g → breaks_v04 (shapes_of C2) f g2 ≡ breaks_v04 (shapes_of C) f g
  fourth_alike f g2 g a = rw shapes_alike (ap₂ (λ b o. b && has_earlier (shapes_of C) f o) a.is_drop (dropped_alike g2 g a))

  crate_keeps_alike : CrateKeeps C → ((j : ℕ) (g2 : TypedFunction) → slice_get fs2 j ≡ Some g2 → BodyKeeps C g2.body) → CrateKeeps C2
  crate_keeps_alike h bodies = record {
    defs = λ d def e. rw shapes_alike (h.defs d def e);
    outsides = h.outsides;
    destructors = λ f g2 e. let (g, e2, a) = alike_at fs2 C.functions alike f g2 e in third_alike g2 g a ∙ h.destructors f g e2;
    one_destructor = λ f g2 e. let (g, e2, a) = alike_at fs2 C.functions alike f g2 e in fourth_alike f g2 g a ∙ h.one_destructor f g e2;
    bodies = λ f g2 e. body_keeps_alike g2.body (bodies f g2 e);
  }

  -- ---- formed

  callee_formed_alike : (g : Callee) → callee_formed C2 g ≡ callee_formed C g
  callee_formed_alike (callee.Local f) = ap (λ n. nat_lt f.0 n) (length_alike fs2 C.functions alike)
  callee_formed_alike (callee.Outside o) = refl

  call_formed_alike : (t : Term) → call_formed C2 t ≡ call_formed C t
  call_formed_alike (term.Call p g args next) = callee_formed_alike g
  call_formed_alike t = refl

  term_formed_alike : (b : TypedBody) (t : Term) → term_formed C2 b t ≡ term_formed C b t
  unfolding term_formed
  term_formed_alike b t = ap (λ x. x && (list_all operand_formed (term_operands t) && (list_all (place_formed b) (term_places t) && list_all (block_there b) (targets t)))) (call_formed_alike t)

  stmts_formed_alike : (b : TypedBody) (ss : List TypedStmt) → list_all (stmt_formed C2 b) ss ≡ list_all (stmt_formed C b) ss
  unfolding stmt_formed
  stmts_formed_alike b ss = refl

  blocks_formed_alike : (b : TypedBody) (ks : List TypedBlock) → list_all (block_formed C2 b) ks ≡ list_all (block_formed C b) ks
  blocks_formed_alike b [] = refl
  blocks_formed_alike b (k ∷ ks) = ap₂ (λ x y. x && y) (ap₂ (λ x y. x && y) (stmts_formed_alike b k.stmts) (term_formed_alike b k.term)) (blocks_formed_alike b ks)

  pub body_formed_alike : (b : TypedBody) → body_formed C2 b ≡ body_formed C b
  unfolding body_formed
  body_formed_alike b = ap (λ x. has_start b && (list_all (type_formed C) b.locals && x)) (blocks_formed_alike b b.blocks)

  formed_alike : is_formed C ≡ true → ((j : ℕ) (g2 : TypedFunction) → slice_get fs2 j ≡ Some g2 → body_formed C g2.body ≡ true) → is_formed C2 ≡ true
  unfolding is_formed
  formed_alike h bodies =
      let defs = and_true-left (list_all (def_formed C) C.defs) (list_all (outside_formed C) C.outsides && list_all (function_formed C) C.functions) h in
      let rest = and_true-right (list_all (def_formed C) C.defs) (list_all (outside_formed C) C.outsides && list_all (function_formed C) C.functions) h in
      let outsides = and_true-left (list_all (outside_formed C) C.outsides) (list_all (function_formed C) C.functions) rest in
      let functions : list_all (function_formed C2) fs2 ≡ true = list_all_true (function_formed C2) fs2 (λ j g2 e. body_formed_alike g2.body ∙ bodies j g2 e) in
      rw (defs, outsides) functions

  -- a valid crate with these functions in place of its own is valid, where their bodies are formed and break no rule in it
  pub valid_with : Valid C → ((j : ℕ) (g2 : TypedFunction) → slice_get fs2 j ≡ Some g2 → (body_formed C g2.body ≡ true) × BodyKeeps C g2.body) → Valid C2
  valid_with v bodies = record {
    formed = formed_alike v.formed (λ j g2 e. (bodies j g2 e).0);
    rules = broken_none C2 (crate_keeps_alike (crate_keeps C v.rules) (λ j g2 e. (bodies j g2 e).1));
  }
