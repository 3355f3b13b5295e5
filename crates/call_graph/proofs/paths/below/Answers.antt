use Rattle.std.proofs.Common.{◌≡◌, refl, sym, ap, ap₂, ◌∙◌, ℕ, zero, suc, ◌<◌, List, [], ◌∷◌, length, map, get_or, arith}
use Rattle.mir_syntax.specs.Tree.{trees_of}
use Rattle.mir_syntax.specs.Crate.{function_of}
use Rattle.mir_syntax.specs.declared.body.Function.{Function}
use Rattle.mir_syntax.specs.Tree.{Tree}
use Rattle.call_graph.specs.Graph.{bytes_below, path_of}
use Rattle.call_graph.proofs.paths.below.Goals as goal

-- the path of a function with and without ids
path_is : (trees : List Tree) (functions : List Function) (f : ℕ) (d : Function) → f < length functions → get_or (map path_of (map (function_of trees) functions)) f [] ≡ (get_or functions f d).path
path_is trees [] f d l = absurd (omega arith)
path_is trees (x ∷ xs) zero d l = refl
path_is trees (x ∷ xs) (suc f) d l = path_is trees xs f d (omega (arith, l))

pub returns : goal.returns
returns c =
    let functions = c.args.program.now.functions in
    let trees = trees_of c.args.program.now.types in
    let e = c.as_slice-functions.ensures in
    let first = c.index-functions-f.result in
    let second = c.index-functions-g.result in
    c.is_below.ensures
    ∙ ap₂ bytes_below
    (c.as_slice-first.ensures ∙ ap (λ (xs : List Function). (get_or xs c.args.f.0 first).path) e ∙ sym (path_is trees functions c.args.f.0 first c.requires.first))
    (c.as_slice-second.ensures ∙ ap (λ (xs : List Function). (get_or xs c.args.g.0 second).path) e ∙ sym (path_is trees functions c.args.g.0 second c.requires.second))
