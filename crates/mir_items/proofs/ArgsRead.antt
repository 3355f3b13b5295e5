-- Parsing arguments is the grammar's rule, both ways.
use Rattle.std.proofs.Common.{◌≡◌, ℕ, false, List, [], ◌∷◌, Ok, None, refl, ap, subst, arith}
use Rattle.mir_text.specs.declared.symbol.Symbol.{Symbol}
use Rattle.mir_text.specs.declared.symbol.Symbol.TheVariants as s
use Rattle.mir_text.specs.Grammar.{Items, items_put, AllItems}
use Rattle.mir_text.specs.GrammarTypes.{type_put}
use Rattle.mir_text.specs.GrammarItems.{ArgRule, arg_put}
use Rattle.mir_text.specs.Nesting.{ArgGood}
use Rattle.mir_tree.specs.declared.Items.{Items as ItemsText}
use Rattle.mir_tree.specs.declared.Lined.{Lined}
use Rattle.mir_tree.specs.declared.item.ArgText.{ArgText}
use Rattle.mir_parse.specs.Promises.{starts_colons}
use Rattle.mir_parse.specs.Lists.{closing_paren}
use Rattle.mir_parse.proofs.Laws.{in_steps, ok_same, paren_closes}
use Rattle.mir_parse.proofs.TypesRead.{type_grows}
use Rattle.mir_items.specs.Lines.{line_of}
use Rattle.mir_items.specs.Decls.{with_line, arg, args}
use Rattle.mir_items.proofs.EachRead.{IsReadAt}
use Rattle.mir_items.proofs.ListsAt.{ItemLawsAt, IsList, list_behind, list-complete, list-sound}
use Rattle.mir_items.proofs.DeclsRead.{arg_text, arg_at-complete}
use Rattle.mir_items.proofs.DeclsSound.{arg_at-sound, part_ok}

-- an argument where it stands, with its line
abbrev pub arg_here : List ℕ → ArgRule → List Symbol → Lined ArgText
arg_here lines a ts = with_line (line_of lines ts) (arg_text a)

pub arg-complete : (lines : List ℕ) (a : ArgRule) (rest : List Symbol) → ArgGood a → starts_colons rest ≡ false → arg lines (arg_put a rest) ≡ Ok (arg_here lines a (arg_put a rest), rest)
unfolding arg
arg-complete lines a rest good e = rw (arg_at-complete a 65 rest good e) refl

pub arg-sound : (lines : List ℕ) (ts : List Symbol) (x : Lined ArgText) (rest : List Symbol) → arg lines ts ≡ Ok (x, rest) → IsReadAt arg_put (arg_here lines) ArgGood ts x rest
unfolding arg
arg-sound lines ts x rest h =
    in_steps _ _ (x, rest) (part_ok ts _ (x, rest) h) (λ a past found same_h.
    let t = arg_at-sound 65 ts a past found in
    let P : Lined ArgText × List Symbol → Type 0 = λ y. IsReadAt arg_put (arg_here lines) ArgGood ts y.0 y.1 in
    subst P (ok_same _ _ same_h) (record { rule = t.rule; reads = ap (with_line (line_of lines ts)) t.reads; yields = t.yields; good = t.good }))

local_no_paren : (n : ℕ) (rest : List Symbol) → closing_paren (s.Local n ∷ rest) ≡ None
unfolding closing_paren
local_no_paren n rest = refl

pub arg_laws : (lines : List ℕ) → ItemLawsAt closing_paren (arg lines) arg_put (arg_here lines) ArgGood s.Close
arg_laws lines = record {
  closes = paren_closes;
  no_item = (λ a rest. local_no_paren a.0 (s.Colon ∷ type_put a.1 rest));
  before_comma = (λ a rest good. arg-complete lines a (s.Comma ∷ rest) good refl);
  before_sign = (λ a rest good. arg-complete lines a (s.Close ∷ rest) good refl);
  sound = arg-sound lines;
  grows = (λ a rest. omega (arith, type_grows a.1 rest));
}

abbrev pub args_text : List ℕ → Items ArgRule → List Symbol → ItemsText (Lined ArgText)
args_text lines xs rest = list_behind arg_put (arg_here lines) s.Close [] xs rest

pub args-complete : (lines : List ℕ) (xs : Items ArgRule) (rest : List Symbol) → AllItems ArgGood xs → args lines (items_put arg_put s.Close xs rest) ≡ Ok (args_text lines xs rest, rest)
args-complete lines xs rest good = list-complete closing_paren (arg lines) arg_put (arg_here lines) ArgGood s.Close (arg_laws lines) xs rest good

pub args-sound : (lines : List ℕ) (ts : List Symbol) (us : ItemsText (Lined ArgText)) (rest : List Symbol) → args lines ts ≡ Ok (us, rest)
    → IsList closing_paren (arg lines) arg_put (arg_here lines) ArgGood s.Close (arg_laws lines) ts [] us rest
args-sound lines ts us rest h = list-sound closing_paren (arg lines) arg_put (arg_here lines) ArgGood s.Close (arg_laws lines) ts us rest h
