-- The blocks of a formed program are whole.
use Rattle.std.proofs.Common.{◌≡◌, ◌∙◌, ap, ℕ, IsTrue, true, ◌&&◌, map, slice_get, Some}
use Rattle.std.specs.Option.{option_map}
use Rattle.std.proofs.lemmas.Option.{slice_get-map}
use Rattle.std.specs.List.{list_all}
use Rattle.mir_syntax.specs.declared.body.Block.{Block}
use Rattle.mir_syntax.specs.declared.body.Function.{Function}
use Rattle.mir_syntax.specs.declared.program.Program.{Program}
use Rattle.mir_syntax.specs.Tree.{trees_of}
use Rattle.mir_syntax.specs.Crate.{Crate, block_of, function_of, crate_of}
use Rattle.mir_syntax.specs.Parts.{block_whole}
use Rattle.mir_rules.specs.Formed.{block_formed, body_formed, function_formed, def_formed, outside_formed, is_formed}
use Rattle.mir_rules.proofs.Lists.{and_true-right, list_all_true-at}
use Rattle.mir_rules.proofs.WholeParts.{whole_block, formed_blocks}

formed_functions : (C : Crate) → is_formed C ≡ true → list_all (function_formed C) C.functions ≡ true
unfolding is_formed
formed_functions C h =
    let outsides = list_all (outside_formed C) C.outsides in
    let functions = list_all (function_formed C) C.functions in
    and_true-right outsides functions (and_true-right (list_all (def_formed C) C.defs) (outsides && functions) h)

-- a block of a function of a formed program
pub block_is_whole : (p : Program) (f b : ℕ) (function : Function) (block : Block) → IsTrue (is_formed (crate_of p)) → slice_get p.functions f ≡ Some function → slice_get function.body.blocks b ≡ Some block → IsTrue (block_whole block)
block_is_whole p f b function block h e k =
    let C = crate_of p in
    let trees = trees_of p.types in
    let typed = function_of trees function in
    let there : slice_get C.functions f ≡ Some typed = slice_get-map (function_of trees) p.functions f ∙ ap (option_map (function_of trees)) e in
    let formed : body_formed C typed.body ≡ true = list_all_true-at (function_formed C) C.functions f typed (formed_functions C h) there in
    let at : slice_get typed.body.blocks b ≡ Some (block_of trees block) = slice_get-map (block_of trees) function.body.blocks b ∙ ap (option_map (block_of trees)) k in
    whole_block C typed.body trees block (list_all_true-at (block_formed C typed.body) typed.body.blocks b (block_of trees block) (formed_blocks C typed.body formed) at)
