use Rattle.std.proofs.Common.{◌≡◌, ℕ, Bool, ◌&&◌, List, ◌∷◌, ◌∙◌, ◌++◌, map, rules, ap, ap₂, sym}
use Rattle.std.specs.List.{list_all}
use Rattle.mir_syntax.specs.declared.types.Field.{Field}
use Rattle.mir_syntax.specs.Tree.{Tree, trees_of}
use Rattle.mir_syntax.specs.Crate.{TypedField, field_of}
use Rattle.mir_syntax.specs.Ids.{field_below}
use Rattle.mir_text.specs.Names.{part_named}
use Rattle.mir_tree.specs.declared.ty.TypeText.{TypeText}
use Rattle.mir_tree.specs.Types.{type_rule}
use Rattle.mir_resolve.specs.Definitions.{is_known_text}
use Rattle.mir_resolve.proofs.Growing.{grown_then}
use Rattle.mir_resolve.proofs.Making.{later_of, first_left, made_step, inside_step, and_step, fields_keep}
use Rattle.mir_resolve.proofs.fields.tuple_fields.Goals as goal

pub types-preserved : goal.types-preserved
types-preserved c =
    let left = c.types.left.now in
    let item = c.ty-item.result in
    let first : left ≡ item ∷ later_of left = first_left left item c.in-len1-up.len_at_least c.ty-item.is in
    let old = c.types.program.types in
    let new = c.read_type.new.program.types in
    let xs = c.types.fields in
    let x : Field = record { name = c.new.result; ty = c.in_ok-read.read.id } in
    let f : TypeText → TypedField = λ u. part_named c.args.strings.now c.args.paths.now (type_rule u) in
    let make : List ℕ → Tree → TypedField = λ n t. record { name = n; ty = t } in
    let known : TypeText → Bool = is_known_text c.args.strings.now c.args.paths.now in
    record {
      told = rw c.in_ok-push.ensures.ok
          (made_step field_of field_below fields_keep old new c.in_ok-read.ensures.grown.types xs x (f item) (map f (later_of left)) _ c.types.invariant.inside
          (ap (λ l. map (field_of (trees_of old)) xs ++ map f l) (sym first) ∙ c.types.invariant.told)
          (ap₂ make c.new.ensures c.in_ok-read.ensures.stands));
      known = rw (c.both-known.ensures, c.in_ok-read.ensures.known)
          (and_step c.types.known (known item) (list_all known (later_of left)) _ (ap (λ l. c.types.known && list_all known l) (sym first) ∙ c.types.invariant.known));
      inside = rw c.in_ok-push.ensures.ok
          (inside_step field_of field_below fields_keep old new c.in_ok-read.ensures.grown.types xs x c.types.invariant.inside (search (rules, c.in_ok-read.ensures.inside)));
      grown = grown_then c.types.invariant.grown c.in_ok-read.ensures.grown;
    }
