-- Parsing a function up to its blocks is the grammar's rule, both ways.
use Rattle.std.proofs.Common.{◌≡◌, ℕ, ◌≤◌, Bool, true, false, List, ◌∷◌, length, Ok, refl}
use Rattle.mir_text.specs.declared.symbol.Symbol.{Symbol}
use Rattle.mir_text.specs.declared.symbol.Symbol.TheVariants as s
use Rattle.mir_text.specs.Grammar.{Items, items_put, AllItems}
use Rattle.mir_text.specs.GrammarTypes.{PathRule, path_put, TypeRule}
use Rattle.mir_text.specs.GrammarItems.{ArgRule, arg_put, AttrRule, attr_put, drop_put, DeclsRule, decls_put, result_put}
use Rattle.mir_text.specs.Nesting.{TypeGood, ArgGood, DeclsGood}
use Rattle.mir_tree.specs.declared.item.FnText.{FnText}
use Rattle.mir_tree.specs.Types.{path_text, type_text}
use Rattle.mir_parse.specs.Signs.{open_brace}
use Rattle.mir_items.specs.Attrs.{attr, drop_at}
use Rattle.mir_items.specs.Items.{fn_word, fn_path, result_open, head, fn_head, fn_front}
use Rattle.mir_items.proofs.AttrsRead.{attr_text, NoAttr, NoDrop, attr-complete, drop-complete}
use Rattle.mir_items.proofs.ArgsRead.{args_text, args-complete}
use Rattle.mir_items.proofs.DeclsRead.{lets_text, EndsDecls, decls_at-complete}
use Rattle.mir_items.proofs.OthersRead.{path_open-complete, result_type-complete}

-- the parts of a function up to its blocks
pub record HeadRule : Type 0 where
  pub attr : AttrRule
  pub is_drop : Bool
  pub path : PathRule
  pub args : Items ArgRule
  pub result : TypeRule
  pub locals : DeclsRule

-- behind the arguments' parenthesis
abbrev pub body_put : HeadRule → List Symbol → List Symbol
body_put f rest = result_put f.result (decls_put f.locals rest)

-- from `fn` on
abbrev pub word_put : HeadRule → List Symbol → List Symbol
word_put f rest = s.Fn ∷ path_put f.path (s.Open ∷ items_put arg_put s.Close f.args (body_put f rest))

abbrev pub head_put : HeadRule → List Symbol → List Symbol
head_put f rest = attr_put f.attr (drop_put f.is_drop (word_put f rest))

abbrev pub HeadGood : HeadRule → Type 0
HeadGood f = AllItems ArgGood f.args × TypeGood f.result × DeclsGood f.locals

abbrev pub head_text : List ℕ → HeadRule → List Symbol → FnText
head_text lines f rest =
    head (attr_text f.attr) f.is_drop (path_text f.path) (args_text lines f.args (body_put f rest)) (type_text f.result) (lets_text lines f.locals (decls_put f.locals rest))

result_open-complete : (u : TypeRule) (rest : List Symbol) → TypeGood u → result_open (result_put u rest) ≡ Ok (type_text u, rest)
unfolding result_open open_brace
result_open-complete u rest good = rw (result_type-complete u (s.OpenBrace ∷ rest) good refl) refl

fn_path-complete : (p : PathRule) (rest : List Symbol) → fn_path (s.Fn ∷ path_put p (s.Open ∷ rest)) ≡ Ok (path_text p, rest)
unfolding fn_path fn_word
fn_path-complete p rest = rw (path_open-complete p rest) refl

word-complete : (lines : List ℕ) (f : HeadRule) (rest : List Symbol) → HeadGood f → length (decls_put f.locals rest) ≤ length lines → EndsDecls rest
    → fn_head lines (attr_text f.attr) f.is_drop (word_put f rest) ≡ Ok (head_text lines f rest, rest)
unfolding fn_head
word-complete lines f rest good within ends =
    rw (
      fn_path-complete f.path (items_put arg_put s.Close f.args (body_put f rest)),
      args-complete lines f.args (body_put f rest) good.0,
      result_open-complete f.result (decls_put f.locals rest) good.1,
      decls_at-complete f.locals lines 65 rest good.2.0 good.2.1 within ends,
    ) refl

-- neither an attribute nor `drop` begins with `fn`
fn-no-attr : (rest : List Symbol) → NoAttr (s.Fn ∷ rest)
unfolding attr
fn-no-attr rest = refl

drop-no-attr : (rest : List Symbol) → NoAttr (s.Drop ∷ rest)
unfolding attr
drop-no-attr rest = refl

fn-no-drop : (rest : List Symbol) → NoDrop (s.Fn ∷ rest)
unfolding drop_at
fn-no-drop rest = refl

no_attr : (is : Bool) (rest : List Symbol) → NoAttr (drop_put is (s.Fn ∷ rest))
no_attr true rest = drop-no-attr (s.Fn ∷ rest)
no_attr false rest = fn-no-attr rest

pub head-complete : (lines : List ℕ) (f : HeadRule) (rest : List Symbol) → HeadGood f → length (decls_put f.locals rest) ≤ length lines → EndsDecls rest
    → fn_front lines (head_put f rest) ≡ Ok (head_text lines f rest, rest)
unfolding fn_front
head-complete lines f rest good within ends =
    let after = path_put f.path (s.Open ∷ items_put arg_put s.Close f.args (body_put f rest)) in
    rw (
      attr-complete f.attr (drop_put f.is_drop (s.Fn ∷ after)) (no_attr f.is_drop after),
      drop-complete f.is_drop (s.Fn ∷ after) (fn-no-drop after),
      word-complete lines f rest good within ends,
    ) refl
