-- Parsing items and files is the grammar's rule, both ways.
use Rattle.std.proofs.Common.{◌≡◌, ℕ, suc, ◌≤◌, Bool, true, false, List, [], ◌∷◌, map, length, Option, Some, None, IsSome, Result, Ok, Err, IfOk, refl, sym, ap, subst, ◌∙◌, arith}
use Rattle.mir_text.specs.declared.symbol.Symbol.{Symbol}
use Rattle.mir_text.specs.declared.symbol.Symbol.TheVariants as s
use Rattle.mir_text.specs.GrammarItems as m
use Rattle.mir_text.specs.GrammarItems.{AttrRule, attr_put, drop_put, FnRule, fn_put, ItemRule, item_put, FileRule, file_put}
use Rattle.mir_text.specs.Nesting.{ItemGood, FileGood}
use Rattle.mir_tree.specs.declared.Lined.{Lined}
use Rattle.mir_tree.specs.declared.item.FnText.{FnText}
use Rattle.mir_tree.specs.declared.item.ItemText.{ItemText}
use Rattle.mir_tree.specs.declared.item.ItemText.TheVariants as i
use Rattle.mir_tree.specs.declared.item.FileText.{FileText}
use Rattle.mir_tree.specs.Rules.{lined_item}
use Rattle.mir_parse.specs.declared.fault.SyntaxFault.{SyntaxFault}
use Rattle.mir_parse.specs.declared.fault.ParseRefused.{ParseRefused}
use Rattle.mir_parse.specs.declared.fault.ParseRefused.TheVariants as refused
use Rattle.mir_parse.specs.Parser.{Found, and_then, Gives}
use Rattle.mir_parse.proofs.Laws.{in_steps, ok_same}
use Rattle.mir_items.specs.Lines.{line_of, lines_at, part_or, fault_within, in_part}
use Rattle.mir_items.specs.Decls.{with_line}
use Rattle.mir_items.specs.Functions.{fn_item}
use Rattle.mir_items.specs.Files.{item_part, item, more_symbols, file, IsFile, IsOnlyFile, NoFile, InItem}
use Rattle.mir_items.proofs.Sizes.{item_size, some_item, first-line, past-lines, all-lines}
use Rattle.mir_items.proofs.EachRead.{IsReadAt, each_text, EachLaws, err_same, each-complete, each-sound, each-fault}
use Rattle.mir_items.proofs.DeclsSound.{part_ok}
use Rattle.mir_items.proofs.OthersRead.{struct_item-complete, struct_item-sound, enum_item-complete, enum_item-sound, extern_item-complete, extern_item-sound}
use Rattle.mir_items.proofs.TreesOf.{part_tree, item_tree, file_tree, file-lined}
use Rattle.mir_items.proofs.FnsRead.{fn-complete, fn-sound}

-- ---- items

abbrev part_here : List ℕ → ItemRule → List Symbol → ItemText
part_here lines x ts = part_tree x (lines_at lines ts)

abbrev pub item_here : List ℕ → ItemRule → List Symbol → Lined ItemText
item_here lines x ts = item_tree x (lines_at lines ts)

-- what begins as a function is read as one
as-function : (lines : List ℕ) (r : AttrRule) (is : Bool) (ts : List Symbol)
    → item_part lines (attr_put r (drop_put is (s.Fn ∷ ts))) ≡ and_then (fn_item lines (attr_put r (drop_put is (s.Fn ∷ ts)))) (λ f ts. Ok (i.Function f, ts))
unfolding item_part
as-function lines m.none true ts = refl
as-function lines m.none false ts = refl
as-function lines m.hint is ts = refl
as-function lines m.always is ts = refl
as-function lines m.never is ts = refl

function-complete : (lines : List ℕ) (f : FnRule) (rest : List Symbol) (x : FnText) → fn_item lines (fn_put f rest) ≡ Ok (x, rest) → item_part lines (fn_put f rest) ≡ Ok (i.Function x, rest)
function-complete lines f rest x h = as-function lines f.attr f.is_drop _ ∙ ap (λ found. and_then found (λ f ts. Ok (i.Function f, ts))) h

part-complete : (lines : List ℕ) (x : ItemRule) (rest : List Symbol) → ItemGood x → length (item_put x rest) ≤ length lines → item_part lines (item_put x rest) ≡ Ok (part_here lines x (item_put x rest), rest)
unfolding item_part
part-complete lines (m.struct p fs) rest good fits = rw (struct_item-complete (p, fs) rest good) refl
part-complete lines (m.enum p vs) rest good fits = rw (enum_item-complete (p, vs) rest good) refl
part-complete lines (m.extern p us u) rest good fits = rw (extern_item-complete (p, us, u) rest good) refl
part-complete lines (m.function f) rest good fits = function-complete lines f rest _ (fn-complete lines f rest good fits)

pub item-complete : (lines : List ℕ) (x : ItemRule) (rest : List Symbol) → ItemGood x → length (item_put x rest) ≤ length lines → item lines (item_put x rest) ≡ Ok (item_here lines x (item_put x rest), rest)
unfolding item
item-complete lines x rest good fits =
    let ts = item_put x rest in
    rw (part-complete lines x rest good fits) (ap (λ n. Ok (with_line n (part_here lines x ts), rest)) (sym (first-line lines ts)))

abbrev IsPart : List ℕ → List Symbol → ItemText → List Symbol → Type 0
IsPart lines ts x rest = IsReadAt item_put (part_here lines) ItemGood ts x rest

function-sound : (lines : List ℕ) (ts : List Symbol) (x : ItemText) (rest : List Symbol) → length ts ≤ length lines
    → and_then (fn_item lines ts) (λ f ts. Ok (i.Function f, ts)) ≡ Ok (x, rest) → IsPart lines ts x rest
function-sound lines ts x rest fits h =
    in_steps _ _ (x, rest) h (λ f past found same_h.
    let q = fn-sound lines ts f past fits found in
    let P : ItemText × List Symbol → Type 0 = λ y. IsPart lines ts y.0 y.1 in
    subst P (ok_same _ _ same_h) (record { rule = m.function q.rule; reads = ap i.Function q.reads; yields = q.yields; good = q.good }))

part-sound : (lines : List ℕ) (ts : List Symbol) (x : ItemText) (rest : List Symbol) → length ts ≤ length lines → item_part lines ts ≡ Ok (x, rest) → IsPart lines ts x rest
unfolding item_part
part-sound lines [] x rest fits h = function-sound lines [] x rest fits h
part-sound lines (s.Struct ∷ ts) x rest fits h =
    in_steps _ _ (x, rest) h (λ y past found same_h.
    let q = struct_item-sound ts y past found in
    let P : ItemText × List Symbol → Type 0 = λ y. IsPart lines (s.Struct ∷ ts) y.0 y.1 in
    subst P (ok_same _ _ same_h) (record { rule = m.struct q.rule.0 q.rule.1; reads = q.reads; yields = ap (λ l. s.Struct ∷ l) q.yields; good = q.good }))
part-sound lines (s.Enum ∷ ts) x rest fits h =
    in_steps _ _ (x, rest) h (λ y past found same_h.
    let q = enum_item-sound ts y past found in
    let P : ItemText × List Symbol → Type 0 = λ y. IsPart lines (s.Enum ∷ ts) y.0 y.1 in
    subst P (ok_same _ _ same_h) (record { rule = m.enum q.rule.0 q.rule.1; reads = q.reads; yields = ap (λ l. s.Enum ∷ l) q.yields; good = q.good }))
part-sound lines (s.Extern ∷ ts) x rest fits h =
    in_steps _ _ (x, rest) h (λ y past found same_h.
    let q = extern_item-sound ts y past found in
    let P : ItemText × List Symbol → Type 0 = λ y. IsPart lines (s.Extern ∷ ts) y.0 y.1 in
    subst P (ok_same _ _ same_h) (record { rule = m.extern q.rule.0 q.rule.1 q.rule.2; reads = q.reads; yields = ap (λ l. s.Extern ∷ l) q.yields; good = q.good }))
part-sound lines (y ∷ ts) x rest fits h = function-sound lines (y ∷ ts) x rest fits h

pub item-sound : (lines : List ℕ) (ts : List Symbol) (x : Lined ItemText) (rest : List Symbol) → length ts ≤ length lines → item lines ts ≡ Ok (x, rest) → IsReadAt item_put (item_here lines) ItemGood ts x rest
unfolding item
item-sound lines ts x rest fits h =
    in_steps _ _ (x, rest) (part_ok ts _ (x, rest) h) (λ y past found same_h.
    let q = part-sound lines ts y past fits found in
    let P : Lined ItemText × List Symbol → Type 0 = λ y. IsReadAt item_put (item_here lines) ItemGood ts y.0 y.1 in
    subst P (ok_same _ _ same_h) (record {
      rule = q.rule;
      reads = ap (λ n. with_line n (part_here lines q.rule ts)) (first-line lines ts) ∙ ap (with_line (line_of lines ts)) q.reads;
      yields = q.yields;
      good = q.good;
    }))

-- ---- files

begins-function : (r : AttrRule) (is : Bool) (ts : List Symbol) → more_symbols (attr_put r (drop_put is (s.Fn ∷ ts))) ≡ true
begins-function m.none true ts = refl
begins-function m.none false ts = refl
begins-function m.hint is ts = refl
begins-function m.always is ts = refl
begins-function m.never is ts = refl

begins-item : (x : ItemRule) (rest : List Symbol) → more_symbols (item_put x rest) ≡ true
begins-item (m.struct p fs) rest = refl
begins-item (m.enum p vs) rest = refl
begins-item (m.extern p us u) rest = refl
begins-item (m.function f) rest = begins-function f.attr f.is_drop _

item_laws : (lines : List ℕ) → EachLaws (length lines) more_symbols (item lines) item_put (item_here lines) ItemGood
item_laws lines = record {
  begin = begins-item;
  complete = item-complete lines;
  sound = item-sound lines;
  grows = (λ x rest. omega (arith, item_size x rest, some_item x));
}

abbrev items_text : List ℕ → FileRule → List (Lined ItemText)
items_text lines xs = each_text item_put (item_here lines) xs []

file-complete : (lines : List ℕ) (xs : FileRule) → FileGood xs → length (file_put xs []) ≤ length lines → file lines (file_put xs []) ≡ Ok (items_text lines xs, [])
file-complete lines xs good fits = each-complete (length lines) more_symbols (item lines) item_put (item_here lines) ItemGood (item_laws lines) xs [] good fits refl

items-at : (lines : List ℕ) (xs : FileRule) → length (file_put xs []) ≤ length lines → items_text lines xs ≡ file_tree xs (lines_at lines (file_put xs []))
items-at lines [] fits = refl
items-at lines (x ∷ xs) fits =
    let over = file_put xs [] in
    let ts = item_put x over in
    let size = item_size x over in
    let less : length over ≤ length lines = omega arith in
    ap (λ l. item_here lines x ts ∷ l) (items-at lines xs less ∙ ap (file_tree xs) (sym (past-lines item_put x lines ts over size fits)))

-- ---- the promises

-- the items that a file's symbols are read as
pub whole-complete : (lines : List ℕ) (ts : List Symbol) (xs : FileRule) → length lines ≡ length ts → FileGood xs → ts ≡ file_put xs [] → file lines ts ≡ Ok (file_tree xs lines, [])
whole-complete lines ts xs same good stands =
    let fits : length ts ≤ length lines = omega arith in
    let put_fits : length (file_put xs []) ≤ length lines = subst (λ (l : List Symbol). length l ≤ length lines) stands fits in
    let whole : lines_at lines (file_put xs []) ≡ lines = ap (lines_at lines) (sym stands) ∙ all-lines lines ts same in
    ap (file lines) stands ∙ file-complete lines xs good put_fits ∙ ap (λ l. Ok (l, [])) (items-at lines xs put_fits ∙ ap (file_tree xs) whole)

is-only : (lines : List ℕ) (ts : List Symbol) (tree : FileText) → length lines ≡ length ts → file lines ts ≡ Ok (tree.items, []) → IsOnlyFile ts lines tree
is-only lines ts tree same h = λ xs good stands.
    let read : tree.items ≡ file_tree xs lines = ap (λ q. q.0) (ok_same _ _ (sym h ∙ whole-complete lines ts xs same good stands)) in
    ap (map lined_item) read ∙ file-lined xs lines

is-file : (lines : List ℕ) (ts : List Symbol) (tree : FileText) → length lines ≡ length ts → file lines ts ≡ Ok (tree.items, []) → IsFile ts lines tree
is-file lines ts tree same h =
    let fits : length ts ≤ length lines = omega arith in
    let q = each-sound (length lines) more_symbols (item lines) item_put (item_here lines) ItemGood (item_laws lines) ts tree.items [] fits h in
    record { rule = q.rules; derives = q.yields; good = q.good; tree_of = is-only lines ts tree same h q.rules q.good q.yields }

pub file-derives : (lines : List ℕ) (ts : List Symbol) (result : Result FileText ParseRefused) → length lines ≡ length ts → Gives (λ tree. (tree.items, [])) result (file lines ts) → IfOk result (λ tree. IsFile ts lines tree)
file-derives lines ts (Ok tree) same h = is-file lines ts tree same h
file-derives lines ts (Err e) same h = tt

pub file-once : (lines : List ℕ) (ts : List Symbol) (result : Result FileText ParseRefused) → length lines ≡ length ts → Gives (λ tree. (tree.items, [])) result (file lines ts) → IfOk result (λ tree. IsOnlyFile ts lines tree)
file-once lines ts (Ok tree) same h = is-only lines ts tree same h
file-once lines ts (Err e) same h = tt

pub file-refuses : (lines : List ℕ) (ts : List Symbol) (result : Result FileText ParseRefused) → length lines ≡ length ts → Gives (λ tree. (tree.items, [])) result (file lines ts) → NoFile ts result
file-refuses lines ts (Ok tree) same h = tt
file-refuses lines ts (Err refused.OutOfMemory) same h = tt
file-refuses lines ts (Err (refused.Fault fault)) same h = λ xs good stands.
    let ok = whole-complete lines ts xs same good stands in
    absurd cc

-- ---- each fault lies in an item

part_some : (n : ℕ) (part : Option ℕ) → IsSome (part_or n part)
part_some n None = refl
part_some n (Some part) = refl

within-some : (ts : List Symbol) (fault : SyntaxFault) → IsSome (fault_within ts fault).part
unfolding fault_within
within-some ts fault = part_some (length ts) fault.part

part-fault : {A : Type 0} (ts : List Symbol) (found : Found A) (e : SyntaxFault) → in_part ts found ≡ Err e → IsSome e.part
part-fault ts (Ok q) e h = absurd cc
part-fault ts (Err d) e h = subst (λ (x : SyntaxFault). IsSome x.part) (err_same _ _ h) (within-some ts d)

item-fault : (lines : List ℕ) (ts : List Symbol) (e : SyntaxFault) → item lines ts ≡ Err e → IsSome e.part
unfolding item
item-fault lines ts e h = part-fault ts _ e h

pub file-in_item : (lines : List ℕ) (ts : List Symbol) (result : Result FileText ParseRefused) → length lines ≡ length ts → Gives (λ tree. (tree.items, [])) result (file lines ts) → InItem result
file-in_item lines ts (Ok tree) same h = tt
file-in_item lines ts (Err refused.OutOfMemory) same h = tt
file-in_item lines ts (Err (refused.Fault fault)) same h =
    each-fault (length lines) more_symbols (item lines) item_put (item_here lines) ItemGood (item_laws lines) (λ e. IsSome e.part) (item-fault lines) (suc (length ts)) ts [] fault (omega arith) (omega arith) h
