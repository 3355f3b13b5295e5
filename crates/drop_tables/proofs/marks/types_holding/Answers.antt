use Rattle.std.proofs.Common.{suc, ◌+◌, ◌≡◌, ◌<◌, ◌∷◌, [], ◌++◌, map, length, take, ap, ap₂, ◌∙◌, arith}
use Rattle.std.proofs.Math.Seq.{take-length}
use Rattle.mir_syntax.specs.declared.types.ScalarTy.TheVariants as scalar_ty
use Rattle.mir_syntax.specs.Tree.{trees_of, scalar}
use Rattle.mir_syntax.specs.Shapes.{needs_by}
use Rattle.mir_syntax.proofs.Trees.{length-trees_of}
use Rattle.drop_tables.specs.Marks.{is_marked}
use Rattle.drop_tables.proofs.Marking.{map_take}
use Rattle.drop_tables.proofs.marks.types_holding.Goals as goal

pub loop-at-preserved : goal.loop-at-preserved
loop-at-preserved c =
    let trees = trees_of c.args.program.now.types in
    let f = needs_by (is_marked c.args.marks.now) in
    let inside : c.loop-at.at < length trees = omega (arith, length-trees_of c.args.program.now.types) in
    let next : suc c.loop-at.at ≡ c.loop-at.at + 1 = omega arith in
    c.in_ok-push.ensures.ok ∙ (ap₂ (λ l b. l ++ b ∷ []) c.loop-at.invariant c.type_holds.ensures ∙ (map_take f c.loop-at.at trees (scalar scalar_ty.Bool) inside ∙ ap (λ n. map f (take n trees)) next))

pub returns : goal.returns
returns c =
    let trees = trees_of c.args.program.now.types in
    let all : c.loop-at.at ≡ length trees = omega (arith, length-trees_of c.args.program.now.types) in
    c.loop-at.invariant ∙ ap (map (needs_by (is_marked c.args.marks.now))) (ap (λ n. take n trees) all ∙ take-length trees)
