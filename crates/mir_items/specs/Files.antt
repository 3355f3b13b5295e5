-- Parsing items and files, and what the tree of a file promises.
use Rattle.std.specs.Prelude.{◌≡◌, ℕ, Bool, true, false, List, [], ◌∷◌, Option, Some, None, Result, Ok, Err, IsSome}
use Rattle.mir_text.specs.declared.symbol.Symbol.{Symbol}
use Rattle.mir_text.specs.declared.symbol.Symbol.TheVariants as s
use Rattle.mir_text.specs.GrammarItems.{ItemRule, item_put, FileRule, file_put}
use Rattle.mir_text.specs.Nesting.{ItemGood, FileGood}
use Rattle.mir_text.specs.PartLines.{item_lined, file_lined}
use Rattle.mir_tree.specs.declared.Lined.{Lined}
use Rattle.mir_tree.specs.declared.item.ItemText.{ItemText}
use Rattle.mir_tree.specs.declared.item.ItemText.TheVariants as i
use Rattle.mir_tree.specs.declared.item.FileText.{FileText}
use Rattle.mir_tree.specs.Rules.{lined_item, plain_item, IsTreeOf}
use Rattle.mir_parse.specs.declared.fault.ParseRefused.{ParseRefused}
use Rattle.mir_parse.specs.declared.fault.ParseRefused.TheVariants as refused
use Rattle.mir_parse.specs.Parser.{Parse, and_then}
use Rattle.mir_items.specs.Lines.{line_of, in_part}
use Rattle.mir_items.specs.Decls.{with_line}
use Rattle.mir_items.specs.Each.{each_at}
use Rattle.mir_items.specs.Items.{struct_item, enum_item, extern_item}
use Rattle.mir_items.specs.Functions.{fn_item}

-- ---- in steps

-- an item by its first word; what is none of the others is a function
unfoldable pub item_part : List ℕ → Parse ItemText
item_part lines (s.Struct ∷ ts) = and_then (struct_item ts) (λ x ts. Ok (x, ts))
item_part lines (s.Enum ∷ ts) = and_then (enum_item ts) (λ x ts. Ok (x, ts))
item_part lines (s.Extern ∷ ts) = and_then (extern_item ts) (λ x ts. Ok (x, ts))
item_part lines ts = and_then (fn_item lines ts) (λ f ts. Ok (i.Function f, ts))

-- an item with its line; a fault in none of its parts is in the item itself
unfoldable pub item : List ℕ → Parse (Lined ItemText)
item lines ts = in_part ts (and_then (item_part lines ts) (λ x rest. Ok (with_line (line_of lines ts) x, rest)))

-- a symbol comes next
abbrev pub more_symbols : List Symbol → Bool
more_symbols [] = false
more_symbols (x ∷ ts) = true

abbrev pub file : List ℕ → Parse (List (Lined ItemText))
file lines ts = each_at more_symbols (item lines) ts

-- ---- what is promised

-- The symbols, which have these lines, are those of a good file. The tree is that of its items, with the lines of their parts.
pub record IsFile (symbols : List Symbol) (lines : List ℕ) (tree : FileText) : Type 0 where
  pub rule : FileRule
  pub derives : symbols ≡ file_put rule []
  pub good : FileGood rule
  pub tree_of : IsTreeOf tree (file_lined rule lines)

-- the tree is that of each good file whose symbols these are
abbrev pub IsOnlyFile : List Symbol → List ℕ → FileText → Type 0
IsOnlyFile symbols lines tree = (rule : FileRule) → FileGood rule → symbols ≡ file_put rule [] → IsTreeOf tree (file_lined rule lines)

-- The symbols, which have these lines, are those of a good item. The tree is that of the item, with the lines of its parts.
pub record IsItem (symbols : List Symbol) (lines : List ℕ) (tree : Lined ItemText) : Type 0 where
  pub rule : ItemRule
  pub derives : symbols ≡ item_put rule []
  pub good : ItemGood rule
  pub tree_of : lined_item tree ≡ plain_item (item_lined rule lines)

-- none is answered only where the symbols are those of no good item
abbrev pub IsItemOrNone : List Symbol → List ℕ → Option (Lined ItemText) → Type 0
IsItemOrNone symbols lines (Some tree) = IsItem symbols lines tree
IsItemOrNone symbols lines None = (rule : ItemRule) → ItemGood rule → symbols ≡ item_put rule [] → ⊥

-- a fault is answered only where the symbols are those of no good file
abbrev pub NoFile : List Symbol → Result FileText ParseRefused → Type 0
NoFile symbols (Ok tree) = Unit {0}
NoFile symbols (Err refused.OutOfMemory) = Unit {0}
NoFile symbols (Err (refused.Fault fault)) = (rule : FileRule) → FileGood rule → symbols ≡ file_put rule [] → ⊥

-- a fault lies in an item, or in a part of one
abbrev pub InItem : Result FileText ParseRefused → Type 0
InItem (Ok tree) = Unit {0}
InItem (Err refused.OutOfMemory) = Unit {0}
InItem (Err (refused.Fault fault)) = IsSome fault.part
