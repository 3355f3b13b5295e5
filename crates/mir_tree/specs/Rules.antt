-- Which derivation the tree of an item is, and which derivations a tree stands for.
use Rattle.std.specs.Prelude.{◌≡◌, ℕ, false, List, [], ◌∷◌, map}
use Rattle.mir_syntax.specs.declared.body.Inline.{Inline}
use Rattle.mir_syntax.specs.declared.body.Inline.TheVariants as inlining
use Rattle.mir_text.specs.GrammarItems as g
use Rattle.mir_text.specs.GrammarItems.{FieldRule, FieldsRule, VariantRule, ArgRule, AttrRule, DeclsRule, FnRule, ItemRule, FileRule}
use Rattle.mir_text.specs.GrammarTerms.{BlockRule}
use Rattle.mir_text.specs.PartLines.{LinedBlock, LinedFn, LinedItem, other, function}
use Rattle.mir_text.specs.Naming.{lets_of}
use Rattle.mir_tree.specs.declared.Lined.{Lined}
use Rattle.mir_tree.specs.declared.item.FieldText.{FieldText}
use Rattle.mir_tree.specs.declared.item.FieldsText.{FieldsText}
use Rattle.mir_tree.specs.declared.item.FieldsText.TheVariants as f
use Rattle.mir_tree.specs.declared.item.VariantText.{VariantText}
use Rattle.mir_tree.specs.declared.item.ArgText.{ArgText}
use Rattle.mir_tree.specs.declared.item.FnText.{FnText}
use Rattle.mir_tree.specs.declared.item.ItemText.{ItemText}
use Rattle.mir_tree.specs.declared.item.ItemText.TheVariants as i
use Rattle.mir_tree.specs.declared.item.FileText.{FileText}
use Rattle.mir_tree.specs.Lists.{items_rule}
use Rattle.mir_tree.specs.Types.{path_rule, type_rule, types_rule}
use Rattle.mir_tree.specs.Bodies.{lined, lined_block}

-- ---- fields and variants

abbrev pub field_rule : FieldText → FieldRule
field_rule x = (x.name, type_rule x.ty)

abbrev pub fields_rule : FieldsText → FieldsRule
fields_rule f.Plain = g.plain
fields_rule (f.Tupled types) = g.tupled (types_rule types)
fields_rule (f.Labelled fields) = g.labelled (items_rule field_rule fields)

abbrev pub variant_rule : VariantText → VariantRule
variant_rule x = (x.name, fields_rule x.fields)

-- ---- functions

abbrev pub attr_rule : Inline → AttrRule
attr_rule inlining.Plain = g.none
attr_rule inlining.Hint = g.hint
attr_rule inlining.Always = g.always
attr_rule inlining.Never = g.never

abbrev pub arg_rule : ArgText → ArgRule
arg_rule x = (x.local, type_rule x.ty)

abbrev pub part_arg : Lined ArgText → ArgRule
part_arg x = arg_rule x.part

-- `let` lines with neither scopes nor `debug` lines between them
abbrev pub lets_rule : List ArgRule → DeclsRule
lets_rule [] = g.no_decls
lets_rule (x ∷ xs) = g.decls (g.«let» false x.0 x.1) (lets_rule xs)

-- a block without its lines
abbrev pub block_rule : LinedBlock → BlockRule
block_rule b = record { label = b.label; stmts = map (λ s. s.1) b.stmts; term = b.term.1 }

abbrev pub fn_rule : FnText → FnRule
fn_rule x = record {
  attr = attr_rule x.inline;
  is_drop = x.is_drop;
  path = path_rule x.path;
  args = items_rule part_arg x.args;
  result = type_rule x.result;
  locals = lets_rule (map part_arg x.lets);
  blocks = map (λ b. block_rule (lined_block b)) x.blocks;
}

abbrev pub lined_fn : ℕ → FnText → LinedFn
lined_fn line x = record {
  head = line;
  rule = fn_rule x;
  args = map (lined arg_rule) x.args.items;
  lets = map (lined arg_rule) x.lets;
  blocks = map lined_block x.blocks;
}

-- ---- items

abbrev pub lined_item_at : ℕ → ItemText → LinedItem
lined_item_at line (i.Struct path fields) = other line (g.struct (path_rule path) (fields_rule fields))
lined_item_at line (i.Enum path variants) = other line (g.enum (path_rule path) (items_rule variant_rule variants))
lined_item_at line (i.Extern path args result) = other line (g.extern (path_rule path) (types_rule args) (type_rule result))
lined_item_at line (i.Function x) = function (lined_fn line x)

abbrev pub lined_item : Lined ItemText → LinedItem
lined_item x = lined_item_at x.line x.part

-- the items of a tree, with the lines of their parts
abbrev pub lined_items : FileText → List LinedItem
lined_items file = map lined_item file.items

abbrev pub item_of : LinedItem → ItemRule
item_of (other line item) = item
item_of (function x) = g.function x.rule

abbrev pub file_of : List LinedItem → FileRule
file_of items = map item_of items

-- ---- the derivations of a tree

abbrev pub without_scopes : FnRule → FnRule
without_scopes x = record x { locals = lets_rule (lets_of x.locals) }

-- an item without `debug` lines and scopes
abbrev pub plain_item : LinedItem → LinedItem
plain_item (other line item) = other line item
plain_item (function x) = function (record x { rule = without_scopes x.rule })

-- the tree is that of these items, which may have `debug` lines and scopes beside
abbrev pub IsTreeOf : FileText → List LinedItem → Type 0
IsTreeOf file items = lined_items file ≡ map plain_item items
