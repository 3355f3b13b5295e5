-- A crate with a split body refines the crate.
use Rattle.std.proofs.Common.{◌≡◌, refl, subst, ℕ, ◌≤◌, true, List, [], ◌∷◌, Option, Some, None, slice_get, arith}
use Rattle.std.proofs.lemmas.List.{set-set}
use Rattle.mir_syntax.proofs.Lists.{map_there}
use Rattle.mir_syntax.specs.Tree.{Tree}
use Rattle.mir_syntax.specs.Crate.{TypedStmt, TypedBody, TypedFunction, Crate}
use Rattle.mir_syntax.specs.Shapes.{Shape, shapes_of}
use Rattle.mir_rules.specs.Drops.{NoDrops}
use Rattle.mir_rules.specs.Formed.{body_formed}
use Rattle.mir_rules.specs.Valid.{Valid, with_body, at_function, ValidAt}
use Rattle.mir_rules.proofs.Fixed.{apart_in}
use Rattle.mir_rules.proofs.Keeps.{BodyKeeps}
use Rattle.mir_rules.proofs.ValidCrates.{args_below, result_there, body_formed_at, holds_body, keeps}
use Rattle.mir_semantics.specs.Step.{code_of}
use Rattle.mir_semantics.specs.Refines.{Refines}
use Rattle.valid_runs.proofs.Codes.{valid_code}
use Rattle.valid_runs.proofs.Shown.{step_flat, step_known}
use Rattle.mir_relate.specs.Frames.{Change}
use Rattle.mir_relate.specs.Pass.{Valids}
use Rattle.mir_relate.proofs.Replaced.{change, valids, Runs, replaced}
use Rattle.trim_locals.proofs.Renumbered.{NonEmpty}
use Rattle.sroa_pass.specs.Split.{split_stmt, split_block, firsts, first_of, fields_at, split_by, split}
use Rattle.sroa_pass.proofs.Planned.{s, plan, chosen, behind, stays_at, split_back, term_to}
use Rattle.sroa_pass.proofs.KnownAt.{known_at, term_fits}
use Rattle.mir_syntax.proofs.Trees.{slice_get-front}
use Rattle.sroa_pass.proofs.refines.Does.{split_does}
use Rattle.sroa_pass.proofs.refines.Law.{Texts, StmtLaw, pass, laws}
use Rattle.sroa_pass.proofs.valid.Body.{alike_by, valid_by, split_is}

some_first : (ts : List Tree) (t : Tree) → slice_get ts 0 ≡ Some t → NonEmpty ts
some_first [] t e = absurd (grind arith)
some_first (u ∷ ts) t e = tt

module _ (C : Crate) (valid : Valid C) (f : ℕ) (g : TypedFunction) (there : slice_get C.functions f ≡ Some g) (no_drops : NoDrops g.body) where
  abbrev D : List Shape
  D = shapes_of C

  abbrev b2 : TypedBody
  b2 = split_by (shapes_of C) (firsts (shapes_of C) g.body) g.body

  abbrev X : Change
  X = change C valid f g there b2 (alike_by C g (body_formed_at C valid f g there)) (valid_by C valid f g there)

  abbrev V : Valids X
  V = valids C valid f g there b2 (alike_by C g (body_formed_at C valid f g there)) (valid_by C valid f g there)

  formed : body_formed C g.body ≡ true
  formed = body_formed_at C valid f g there

  kept : BodyKeeps C g.body
  kept = (keeps C valid).bodies f g there

  abbrev st : TypedStmt → List TypedStmt
  st = split_stmt (first_of (firsts (shapes_of C) g.body)) (fields_at (shapes_of C) g.body.locals)

  -- no argument is split
  stays_low : (x : ℕ) → x ≤ g.body.args → (o : Option ℕ) → s (shapes_of C) g.body x ≡ o → s (shapes_of C) g.body x ≡ None
  stays_low x l None e = e
  stays_low x l (Some y) e = absurd (let h = behind (shapes_of C) g.body x y e in omega (arith, l, h))

  texts : Texts X (plan (shapes_of C) g.body) st
  texts = record {
    fixed = λ x l. (let a = args_below C g.body formed in stays_at (shapes_of C) g.body x (omega (arith, l, a)) (stays_low x l (s (shapes_of C) g.body x) refl));
    some1 = some_first g.body.locals (result_there C g.body formed).0 (result_there C g.body formed).1;
    some2 = some_first b2.locals (result_there C g.body formed).0 (slice_get-front g.body.locals _ 0 (result_there C g.body formed).0 (result_there C g.body formed).1);
    behind = λ x y e. (
        let q = split_back (shapes_of C) g.body x y e in
        let a = args_below C g.body formed in
        let above = (chosen (shapes_of C) g.body x y q).above in
        (behind (shapes_of C) g.body x y q, omega (arith, a, above)));
    calm = λ i k e. no_drops.none i k e;
    blocks = λ i k e. (split_block (first_of (firsts (shapes_of C) g.body)) (fields_at (shapes_of C) g.body.locals) k, map_there (split_block (first_of (firsts (shapes_of C) g.body)) (fields_at (shapes_of C) g.body.locals)) g.body.blocks i k e, refl, term_to (shapes_of C) g.body k.term (term_fits C g.body formed kept i k e));
  }

  stmt_law : StmtLaw X V (plan (shapes_of C) g.body) st
  stmt_law = record { does = λ f2 f1 j R G bok lok m2 m1 m1' i n k x e e2 pay q ran. split_does (shapes_of C) g.body f2 f1 j R G bok lok V.needs m2 m1 x m1' (known_at C g.body formed kept i n k x e e2) (V.stmts f1 f g.body i k n x X.at1 e e2) (V.valid1.stmts G f1 f g.body i k n x X.at1 e e2 lok) pay q ran }

  by_firsts : Refines (at_function C f g b2) C
  by_firsts =
      let apart = apart_in C valid in
      let I = Runs C valid f g there b2 (alike_by C g (body_formed_at C valid f g there)) (valid_by C valid f g there) in
      replaced C valid f g there b2 (alike_by C g (body_formed_at C valid f g there)) (valid_by C valid f g there) (pass X (plan (shapes_of C) g.body) st texts V I)
      (laws X (plan (shapes_of C) g.body) st texts V I stmt_law (step_known (code_of C) apart (valid_code C valid)) (λ s x i e. step_flat (code_of C) apart (valid_code C valid) s x i e))

pub of_a_crate : (C : Crate) → Valid C → (f : ℕ) (g : TypedFunction) → slice_get C.functions f ≡ Some g → NoDrops g.body → Refines (at_function C f g (split (shapes_of C) g.body)) C
of_a_crate C valid f g there no_drops = subst (λ b. Refines (at_function C f g b) C) (split_is (shapes_of C) g.body) (by_firsts C valid f g there no_drops)

pub in_its_place : (C : Crate) (f : ℕ) (b : TypedBody) (v : ValidAt C f b) → NoDrops b → Refines (at_function C f v.function (split (shapes_of (at_function C f v.function b)) b)) (at_function C f v.function b)
in_its_place C f b v n =
    let C2 = at_function C f v.function b in
    subst (λ fs. Refines (record C { functions = fs }) C2) (set-set C.functions f (with_body v.function b) (with_body v.function (split (shapes_of C2) b)))
    (of_a_crate C2 v.valid f (with_body v.function b) (holds_body C f b v) n)
