-- Parsing structs, enums and outside functions, and functions up to their blocks.
use Rattle.std.specs.Prelude.{ℕ, Bool, List, [], ◌∷◌, Ok, Err}
use Rattle.mir_syntax.specs.declared.body.Inline.{Inline}
use Rattle.mir_text.specs.declared.symbol.Symbol.TheVariants as s
use Rattle.mir_tree.specs.declared.Items.{Items}
use Rattle.mir_tree.specs.declared.Lined.{Lined}
use Rattle.mir_tree.specs.declared.ty.PathText.{PathText}
use Rattle.mir_tree.specs.declared.ty.TypeText.{TypeText}
use Rattle.mir_tree.specs.declared.item.ArgText.{ArgText}
use Rattle.mir_tree.specs.declared.item.FnText.{FnText}
use Rattle.mir_tree.specs.declared.item.ItemText.{ItemText}
use Rattle.mir_tree.specs.declared.item.ItemText.TheVariants as i
use Rattle.mir_parse.specs.Faults.{no_reading}
use Rattle.mir_parse.specs.Parser.{Parse, and_then}
use Rattle.mir_parse.specs.Signs.{open_paren, open_brace, semicolon, arrow}
use Rattle.mir_parse.specs.Paths.{path}
use Rattle.mir_parse.specs.Types.{type_text_at, types_at}
use Rattle.mir_items.specs.Fields.{struct_end, variants}
use Rattle.mir_items.specs.Attrs.{attr, drop_at}
use Rattle.mir_items.specs.Decls.{args, decls_at}

unfoldable pub fn_word : Parse (Unit {0})
fn_word (s.Fn ∷ ts) = Ok (tt, ts)
fn_word ts = Err (no_reading ts)

-- ---- past `struct`, `enum` and `extern`

unfoldable pub struct_item : Parse ItemText
struct_item ts = and_then (path ts) (λ p ts. and_then (struct_end ts) (λ fs ts. Ok (i.Struct p fs, ts)))

unfoldable pub enum_item : Parse ItemText
enum_item ts = and_then (path ts) (λ p ts. and_then (open_brace ts) (λ _ ts. and_then (variants ts) (λ vs ts. Ok (i.Enum p vs, ts))))

-- -> type
unfoldable pub result_type : Parse TypeText
result_type ts = and_then (arrow ts) (λ _ ts. and_then (type_text_at 65 ts) (λ u ts. Ok (u, ts)))

-- -> type ;
unfoldable pub result_end : Parse TypeText
result_end ts = and_then (result_type ts) (λ u ts. and_then (semicolon ts) (λ _ ts. Ok (u, ts)))

-- path (
unfoldable pub path_open : Parse PathText
path_open ts = and_then (path ts) (λ p ts. and_then (open_paren ts) (λ _ ts. Ok (p, ts)))

unfoldable pub extern_item : Parse ItemText
extern_item ts =
    and_then (fn_word ts) (λ _ ts. and_then (path_open ts) (λ p ts. and_then (types_at 65 ts) (λ us ts. and_then (result_end ts) (λ u ts.
    Ok (i.Extern p us u, ts)))))

-- ---- a function up to its blocks

-- fn path (
unfoldable pub fn_path : Parse PathText
fn_path ts = and_then (fn_word ts) (λ _ ts. and_then (path_open ts) (λ p ts. Ok (p, ts)))

-- -> type {
unfoldable pub result_open : Parse TypeText
result_open ts = and_then (result_type ts) (λ u ts. and_then (open_brace ts) (λ _ ts. Ok (u, ts)))

abbrev pub head : Inline → Bool → PathText → Items (Lined ArgText) → TypeText → List (Lined ArgText) → FnText
head inline is_drop p xs u ls = record { inline = inline; is_drop = is_drop; path = p; args = xs; result = u; lets = ls; blocks = [] }

-- behind an attribute and `drop`
unfoldable pub fn_head : List ℕ → Inline → Bool → Parse FnText
fn_head lines inline is_drop ts =
    and_then (fn_path ts) (λ p ts. and_then (args lines ts) (λ xs ts. and_then (result_open ts) (λ u ts. and_then (decls_at lines 65 [] ts) (λ ls ts.
    Ok (head inline is_drop p xs u ls, ts)))))

unfoldable pub fn_front : List ℕ → Parse FnText
fn_front lines ts = and_then (attr ts) (λ w ts. and_then (fn_head lines w (drop_at ts).0 (drop_at ts).1) (λ x ts. Ok (x, ts)))
