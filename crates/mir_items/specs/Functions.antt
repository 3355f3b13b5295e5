-- Parsing the blocks of a function, and functions.
use Rattle.std.specs.Prelude.{ℕ, Bool, true, false, List, ◌∷◌, Ok}
use Rattle.mir_text.specs.declared.symbol.Symbol.{Symbol}
use Rattle.mir_text.specs.declared.symbol.Symbol.TheVariants as s
use Rattle.mir_tree.specs.declared.body.BlockText.{BlockText}
use Rattle.mir_tree.specs.declared.item.FnText.{FnText}
use Rattle.mir_parse.specs.Parser.{Parse, and_then}
use Rattle.mir_parse.specs.Signs.{close_brace}
use Rattle.mir_parse.specs.Lines.{block_at}
use Rattle.mir_items.specs.Lines.{lines_at}
use Rattle.mir_items.specs.Each.{each_at}
use Rattle.mir_items.specs.Items.{fn_front}

-- the label of a block comes next
unfoldable pub begins_block : List Symbol → Bool
begins_block (s.Block n ∷ ts) = true
begins_block (s.LargeBlock ∷ ts) = true
begins_block ts = false

abbrev pub block_here : List ℕ → Parse BlockText
block_here lines ts = block_at (lines_at lines ts) ts

abbrev pub blocks : List ℕ → Parse (List BlockText)
blocks lines ts = each_at begins_block (block_here lines) ts

abbrev pub with_blocks : FnText → List BlockText → FnText
with_blocks f bs = record f { blocks = bs }

-- blocks and the brace that closes them
unfoldable pub fn_blocks : List ℕ → Parse (List BlockText)
fn_blocks lines ts = and_then (blocks lines ts) (λ bs ts. and_then (close_brace ts) (λ _ ts. Ok (bs, ts)))

unfoldable pub fn_item : List ℕ → Parse FnText
fn_item lines ts = and_then (fn_front lines ts) (λ f ts. and_then (fn_blocks lines ts) (λ bs ts. Ok (with_blocks f bs, ts)))
