-- Parsing fields and variants.
use Rattle.std.specs.Prelude.{◌∷◌, Ok, Err}
use Rattle.mir_text.specs.declared.symbol.Symbol.TheVariants as s
use Rattle.mir_tree.specs.declared.Items.{Items}
use Rattle.mir_tree.specs.declared.item.FieldText.{FieldText}
use Rattle.mir_tree.specs.declared.item.FieldsText.{FieldsText}
use Rattle.mir_tree.specs.declared.item.FieldsText.TheVariants as f
use Rattle.mir_tree.specs.declared.item.VariantText.{VariantText}
use Rattle.mir_parse.specs.Faults.{no_reading}
use Rattle.mir_parse.specs.Parser.{Parse, and_then}
use Rattle.mir_parse.specs.Signs.{name, colon, semicolon}
use Rattle.mir_parse.specs.Lists.{closing_brace, items_at}
use Rattle.mir_parse.specs.Types.{type_text_at, types_at}

-- name : type
unfoldable pub field : Parse FieldText
field ts = and_then (name ts) (λ n ts. and_then (colon ts) (λ _ ts. and_then (type_text_at 65 ts) (λ u ts. Ok (record { name = n; ty = u }, ts))))

-- field,* and the brace that closes it
abbrev pub fields : Parse (Items FieldText)
fields ts = items_at closing_brace field ts

-- behind a struct's path
unfoldable pub struct_end : Parse FieldsText
struct_end (s.Semicolon ∷ ts) = Ok (f.Plain, ts)
struct_end (s.Open ∷ ts) = and_then (types_at 65 ts) (λ us ts. and_then (semicolon ts) (λ _ ts. Ok (f.Tupled us, ts)))
struct_end (s.OpenBrace ∷ ts) = and_then (fields ts) (λ fs ts. Ok (f.Labelled fs, ts))
struct_end ts = Err (no_reading ts)

-- behind a variant's name
unfoldable pub variant_end : Parse FieldsText
variant_end (s.Open ∷ ts) = and_then (types_at 65 ts) (λ us ts. Ok (f.Tupled us, ts))
variant_end (s.OpenBrace ∷ ts) = and_then (fields ts) (λ fs ts. Ok (f.Labelled fs, ts))
variant_end ts = Ok (f.Plain, ts)

unfoldable pub variant : Parse VariantText
variant ts = and_then (name ts) (λ n ts. and_then (variant_end ts) (λ fs ts. Ok (record { name = n; fields = fs }, ts)))

-- variant,* and the brace that closes it
abbrev pub variants : Parse (Items VariantText)
variants ts = items_at closing_brace variant ts
