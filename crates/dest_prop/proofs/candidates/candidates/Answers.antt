use Rattle.std.proofs.Common.{List, length, ap, ◌∙◌}
use Rattle.std.specs.List.{flat_map, list_all}
use Rattle.std.proofs.lemmas.Bool.{and_parts}
use Rattle.std.proofs.lemmas.Result.{IfOk-weaker}
use Rattle.mir_syntax.specs.declared.types.TyId.{TyId}
use Rattle.mir_syntax.specs.declared.body.Block.{Block}
use Rattle.mir_syntax.specs.Table.{all_below}
use Rattle.mir_syntax.specs.Ids.{block_below}
use Rattle.mir_syntax.specs.Crate.{crate_of}
use Rattle.mir_syntax.specs.Shapes.{shapes_of}
use Rattle.bit_rows.specs.Rows.{row_at}
use Rattle.dest_prop.specs.Code.{block_copies}
use Rattle.dest_prop.proofs.equal.Fitting.{candidates_are}
use Rattle.dest_prop.proofs.candidates.candidates.Goals as goal

pub returns : goal.returns
returns c =
    let p = c.args.program.now in
    let body = c.args.body.now in
    let row = c.in_ok-lent.lent in
    IfOk-weaker c.in_blocks.result _ _ (λ found h. candidates_are (shapes_of (crate_of p)) p.types body p.table (and_parts (all_below (length p.types) body.locals) (list_all (block_below (length p.types)) body.blocks) c.requires.body_ids).0 row found c.in_ok-lent.ensures
    (h ∙ ap (λ (ids : List TyId). flat_map (block_copies ids (row_at row 0)) c.as_slice-2.result.now) c.as_slice.ensures ∙ ap (λ (ks : List Block). flat_map (block_copies body.locals (row_at row 0)) ks) c.as_slice-2.ensures)) c.in_blocks.ensures
