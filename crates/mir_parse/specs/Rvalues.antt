-- Parsing rvalues.
use Rattle.std.specs.Prelude.{◌∷◌, Ok, Err}
use Rattle.mir_text.specs.declared.symbol.Symbol.TheVariants as s
use Rattle.mir_tree.specs.declared.ty.TypeText.{TypeText}
use Rattle.mir_tree.specs.declared.operand.PlaceText.{PlaceText}
use Rattle.mir_tree.specs.declared.operand.ProjText.TheVariants as p
use Rattle.mir_tree.specs.declared.operand.OperandText.{OperandText}
use Rattle.mir_tree.specs.declared.operand.OperandText.TheVariants as o
use Rattle.mir_tree.specs.declared.rvalue.BuildText.{BuildText}
use Rattle.mir_tree.specs.declared.rvalue.BuildText.TheVariants as u
use Rattle.mir_tree.specs.declared.rvalue.RvalueText.{RvalueText}
use Rattle.mir_tree.specs.declared.rvalue.RvalueText.TheVariants as r
use Rattle.mir_parse.specs.declared.place.BaseText.{BaseText}
use Rattle.mir_parse.specs.declared.place.BaseText.TheVariants as b
use Rattle.mir_parse.specs.Faults.{no_reading}
use Rattle.mir_parse.specs.Parser.{Parse, and_then}
use Rattle.mir_parse.specs.Signs.{comma, close, open_paren, this_name}
use Rattle.mir_parse.specs.Paths.{path}
use Rattle.mir_parse.specs.Types.{type_text_at, mut_at}
use Rattle.mir_parse.specs.Places.{with_proj, place_at, base_at, field_after}
use Rattle.mir_parse.specs.Operands.{operand, operands_at, nameds_at}

-- what is built of a path
unfoldable pub parts : Parse BuildText
parts (s.Open ∷ ts) = and_then (operands_at ts) (λ xs ts. Ok (u.Tupled xs, ts))
parts (s.OpenBrace ∷ ts) = and_then (nameds_at ts) (λ xs ts. Ok (u.Labelled xs, ts))
parts ts = Ok (u.Plain, ts)

unfoldable pub build : Parse RvalueText
build ts = and_then (path ts) (λ ns ts. and_then (parts ts) (λ x ts. Ok (r.Build ns x, ts)))

-- ( operand )
unfoldable pub single : Parse OperandText
single ts = and_then (open_paren ts) (λ _ ts. and_then (operand ts) (λ x ts. and_then (close ts) (λ _ ts. Ok (x, ts))))

-- ( operand , operand )
unfoldable pub pair : Parse (OperandText × OperandText)
pair ts =
    and_then (open_paren ts) (λ _ ts. and_then (operand ts) (λ x ts. and_then (comma ts) (λ _ ts. and_then (operand ts) (λ y ts.
    and_then (close ts) (λ _ ts. Ok ((x, y), ts))))))

-- ( place )
unfoldable pub place_single : Parse PlaceText
place_single ts = and_then (open_paren ts) (λ _ ts. and_then (place_at 65 ts) (λ q ts. and_then (close ts) (λ _ ts. Ok (q, ts))))

-- type ( IntToInt ), which is name 7
unfoldable pub cast_end : Parse TypeText
cast_end ts =
    and_then (type_text_at 65 ts) (λ t ts. and_then (open_paren ts) (λ _ ts. and_then (this_name 7 ts) (λ _ ts. and_then (close ts) (λ _ ts. Ok (t, ts)))))

unfoldable pub cast_or_use : OperandText → Parse RvalueText
cast_or_use x (s.As ∷ ts) = and_then (cast_end ts) (λ t ts. Ok (r.Cast x t, ts))
cast_or_use x ts = Ok (r.Use x, ts)

unfoldable pub use_at : Parse RvalueText
use_at ts = and_then (operand ts) (λ x ts. and_then (cast_or_use x ts) (λ v ts. Ok (v, ts)))

-- the operands of a tuple after the first one and its comma
unfoldable pub tuple_more : OperandText → Parse RvalueText
tuple_more x ts = and_then (operands_at ts) (λ xs ts. Ok (r.Tuple x xs, ts))

-- a tuple past its parenthesis
unfoldable pub tuple : Parse RvalueText
tuple ts = and_then (operand ts) (λ x ts. and_then (comma ts) (λ _ ts. and_then (tuple_more x ts) (λ v ts. Ok (v, ts))))

-- the place that was read is the first operand of a tuple
abbrev pub tuple_of : BaseText → Parse RvalueText
tuple_of (b.Place q) ts = and_then (tuple_more (o.Bare q) ts) (λ v ts. Ok (v, ts))
tuple_of (b.Variant q n) ts = Err (no_reading (s.Comma ∷ ts))

-- behind the first place in a parenthesis
unfoldable pub after_first : BaseText → Parse RvalueText
after_first base (s.Comma ∷ ts) = tuple_of base ts
after_first base ts = and_then (field_after (type_text_at 64) base ts) (λ q ts. and_then (cast_or_use (o.Bare q) ts) (λ v ts. Ok (v, ts)))

-- past the parenthesis that an rvalue begins with
unfoldable pub opened : Parse RvalueText
opened (s.Close ∷ ts) = Ok (r.Nothing, ts)
opened (s.Copy ∷ ts) = and_then (tuple (s.Copy ∷ ts)) (λ v ts. Ok (v, ts))
opened (s.Move ∷ ts) = and_then (tuple (s.Move ∷ ts)) (λ v ts. Ok (v, ts))
opened (s.Const ∷ ts) = and_then (tuple (s.Const ∷ ts)) (λ v ts. Ok (v, ts))
opened (s.Star ∷ ts) = and_then (place_at 64 ts) (λ q ts. and_then (close ts) (λ _ ts. and_then (cast_or_use (o.Bare (with_proj q p.Deref)) ts) (λ v ts. Ok (v, ts))))
opened ts = and_then (base_at 64 ts) (λ x ts. and_then (after_first x ts) (λ v ts. Ok (v, ts)))

unfoldable pub rvalue : Parse RvalueText
rvalue (s.Binary op ∷ ts) = and_then (pair ts) (λ x ts. Ok (r.Binary op x.0 x.1, ts))
rvalue (s.Over op ∷ ts) = and_then (pair ts) (λ x ts. Ok (r.Overflow op x.0 x.1, ts))
rvalue (s.Unary op ∷ ts) = and_then (single ts) (λ x ts. Ok (r.Unary op x, ts))
rvalue (s.Ampersand ∷ ts) = and_then (place_at 65 (mut_at ts).1) (λ q rest. Ok (r.Ref (mut_at ts).0 q, rest))
rvalue (s.Discriminant ∷ ts) = and_then (place_single ts) (λ q ts. Ok (r.Discriminant q, ts))
rvalue (s.Open ∷ ts) = and_then (opened ts) (λ v ts. Ok (v, ts))
rvalue (s.Name n ∷ ts) = and_then (build (s.Name n ∷ ts)) (λ v ts. Ok (v, ts))
rvalue ts = and_then (use_at ts) (λ v ts. Ok (v, ts))
