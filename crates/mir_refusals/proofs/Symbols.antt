-- When a symbol is refused behind others, and how a function begins.
use Rattle.std.proofs.Common.{◌≡◌, ℕ, Bool, true, false, ◌⊎◌, inl, inr, List, [], ◌∷◌, ◌++◌, sym, ap, ◌∙◌, subst, append_assoc, append-nil}
use Rattle.mir_text.specs.declared.symbol.Symbol.{Symbol}
use Rattle.mir_text.specs.declared.symbol.Symbol.TheVariants as s
use Rattle.mir_text.specs.Grammar as g
use Rattle.mir_text.specs.Grammar.{Items, items_put, each_put}
use Rattle.mir_text.specs.GrammarTypes as t
use Rattle.mir_text.specs.GrammarTypes.{PathRule, path_put}
use Rattle.mir_text.specs.GrammarTerms.{block_put}
use Rattle.mir_text.specs.GrammarItems as n
use Rattle.mir_text.specs.GrammarItems.{ArgRule, arg_put, AttrRule, attr_put, drop_put, result_put, decls_put, FnRule, FileRule, file_put}
use Rattle.mir_text.specs.ReadFaults.{Viable, GoesOn, TooDeep, UnfitHere, TooLarge, Breaks, NoneRefused}

-- ---- lists

pub first-is : {A : Type 0} {x y : A} {xs ys : List A} → x ∷ xs ≡ y ∷ ys → x ≡ y
first-is e = cc

pub rest-is : {A : Type 0} {x y : A} {xs ys : List A} → x ∷ xs ≡ y ∷ ys → xs ≡ ys
rest-is e = cc

pub no-more : {A : Type 0} {x : A} {xs : List A} → [] ≡ x ∷ xs → ⊥
no-more e = absurd cc

no-last : {A : Type 0} (xs : List A) (x : A) (ys : List A) → [] ≡ xs ++ x ∷ ys → ⊥
no-last [] x ys e = absurd cc
no-last (y ∷ xs) x ys e = absurd cc

-- ---- what isn't refused

-- a symbol with which a reading goes on is not refused, where it neither is left out, nor opens too deep, nor is unfit or too large
pub stands : (before : List Symbol) (x : Symbol) → GoesOn before x → (x ≡ s.LeftOut → ⊥) → (TooDeep before x → ⊥) → (UnfitHere before x → ⊥)
    → (TooLarge before x → ⊥) → (code : ℕ) → Breaks before x code → ⊥
stands before x on left deep unfit large code (inl (e, h)) = h.1 on
stands before x on left deep unfit large code (inr (inl (e, h))) = deep h
stands before x on left deep unfit large code (inr (inr (inl (e, h)))) = left h.0
stands before x on left deep unfit large code (inr (inr (inr (inl (e, h))))) = unfit h.1
stands before x on left deep unfit large code (inr (inr (inr (inr (e, h))))) = large h

-- none of these symbols is refused, each behind those before it
abbrev pub AllStand : List Symbol → List Symbol → Type 0
AllStand before [] = Unit {0}
AllStand before (x ∷ xs) = ((code : ℕ) → Breaks before x code → ⊥) × AllStand (before ++ x ∷ []) xs

pub none-behind : (front xs : List Symbol) → AllStand front xs → (before : List Symbol) (x : Symbol) (after : List Symbol) (code : ℕ)
    → xs ≡ before ++ x ∷ after → Breaks (front ++ before) x code → ⊥
none-behind front [] fine before x after code e breaks = no-last before x after e
none-behind front (y ∷ xs) fine [] x after code e breaks =
    fine.0 code (subst (λ z. Breaks front z code) (sym (first-is e)) (subst (λ z. Breaks z x code) (append-nil front) breaks))
none-behind front (y ∷ xs) fine (z ∷ before) x after code e breaks =
    none-behind (front ++ y ∷ []) xs fine.1 before x after code (rest-is e)
    (subst (λ l. Breaks l x code) (ap (λ w. front ++ w ∷ before) (sym (first-is e)) ∙ sym (append_assoc front (y ∷ []) before)) breaks)

pub none-refused : (xs : List Symbol) → AllStand [] xs → NoneRefused xs
none-refused xs fine before x after code e breaks = none-behind [] xs fine before x after code e breaks

-- ---- how a function begins

-- what stands behind the arguments
abbrev pub behind_args : FnRule → FileRule → List Symbol
behind_args f items = result_put f.result (decls_put f.locals (each_put block_put f.blocks (s.CloseBrace ∷ file_put items [])))

-- what stands behind the path's parenthesis
abbrev pub behind_path : FnRule → FileRule → List Symbol
behind_path f items = items_put arg_put s.Close f.args (behind_args f items)

-- a file that begins with `fn` begins with a function that has no attribute
abbrev pub FnFile : FileRule → List Symbol → Type 0
FnFile file more = (f : FnRule) × (items : FileRule) × (path_put f.path (s.Open ∷ behind_path f items) ≡ more)

fn-front : (f : FnRule) (a : AttrRule) (d : Bool) (rest more : List Symbol) → attr_put a (drop_put d (s.Fn ∷ rest)) ≡ s.Fn ∷ more → rest ≡ more
fn-front f n.none true rest more e = absurd cc
fn-front f n.none false rest more e = rest-is e
fn-front f n.hint d rest more e = absurd cc
fn-front f n.always d rest more e = absurd cc
fn-front f n.never d rest more e = absurd cc

pub fn-file : (file : FileRule) (more : List Symbol) → file_put file [] ≡ s.Fn ∷ more → FnFile file more
fn-file [] more e = absurd cc
fn-file (n.struct path fs ∷ items) more e = absurd cc
fn-file (n.enum path vs ∷ items) more e = absurd cc
fn-file (n.extern path us u ∷ items) more e = absurd cc
fn-file (n.function f ∷ items) more e = (f, items, fn-front f f.attr f.is_drop _ more e)

-- a path begins with a name
pub path-first : (p : PathRule) (rest : List Symbol) (x : Symbol) (more : List Symbol) → path_put p rest ≡ x ∷ more → (k : ℕ) × (x ≡ s.Name k)
path-first (t.name k) rest x more e = (k, sym (first-is e))
path-first (t.name_in k p) rest x more e = (k, sym (first-is e))

pub no-path : (p : PathRule) (rest : List Symbol) (x : Symbol) (more : List Symbol) → ((j : ℕ) → x ≡ s.Name j → ⊥) → path_put p rest ≡ x ∷ more → ⊥
no-path p rest x more other e = let (j, is) = path-first p rest x more e in other j is

-- behind the first name of a path stands `::`, or what stands behind the path
pub path-second : (p : PathRule) (rest : List Symbol) (k : ℕ) (more : List Symbol) → path_put p rest ≡ s.Name k ∷ more → (rest ≡ more) ⊎ ((others : List Symbol) × (more ≡ s.Colons ∷ others))
path-second (t.name j) rest k more e = inl (rest-is e)
path-second (t.name_in j p) rest k more e = inr (path_put p rest, sym (rest-is e))

-- a list of arguments begins with a local or is closed
pub args-first : (args : Items ArgRule) (rest : List Symbol) (x : Symbol) (more : List Symbol) → items_put arg_put s.Close args rest ≡ x ∷ more
    → ((x ≡ s.Close) × (rest ≡ more)) ⊎ ((k : ℕ) × (x ≡ s.Local k))
args-first g.end rest x more e = inl (sym (first-is e), rest-is e)
args-first (g.last a) rest x more e = inr (a.0, sym (first-is e))
args-first (g.more a others) rest x more e = inr (a.0, sym (first-is e))

-- behind `fn`, a name and a sign that isn't `::` stand the arguments
pub fn-args : (file : FileRule) (k : ℕ) (more : List Symbol) → file_put file [] ≡ s.Fn ∷ s.Name k ∷ s.Open ∷ more → (f : FnRule) × (items : FileRule) × (behind_path f items ≡ more)
fn-args file k more e = let (f, items, h) = fn-file file (s.Name k ∷ s.Open ∷ more) e in go f items (path-second f.path (s.Open ∷ behind_path f items) k (s.Open ∷ more) h)
  where
    go : (f : FnRule) (items : FileRule) → ((s.Open ∷ behind_path f items ≡ s.Open ∷ more) ⊎ ((others : List Symbol) × (s.Open ∷ more ≡ s.Colons ∷ others)))
        → (f : FnRule) × (items : FileRule) × (behind_path f items ≡ more)
    go f items (inl h) = (f, items, rest-is h)
    go f items (inr (others, h)) = absurd cc

-- ---- symbols that cannot stand there

pub no-second : (x : Symbol) → ((k : ℕ) → x ≡ s.Name k → ⊥) → Viable (s.Fn ∷ x ∷ []) → ⊥
no-second x other v =
    let (f, items, h) = fn-file v.file (x ∷ v.more) v.derives in
    let (k, is) = path-first f.path (s.Open ∷ behind_path f items) x v.more h in
    other k is

pub no-third : (k : ℕ) (x : Symbol) → (x ≡ s.Open → ⊥) → (x ≡ s.Colons → ⊥) → Viable (s.Fn ∷ s.Name k ∷ x ∷ []) → ⊥
no-third k x paren colons v =
    let (f, items, h) = fn-file v.file (s.Name k ∷ x ∷ v.more) v.derives in
    go f items (path-second f.path (s.Open ∷ behind_path f items) k (x ∷ v.more) h)
  where
    go : (f : FnRule) (items : FileRule) → ((s.Open ∷ behind_path f items ≡ x ∷ v.more) ⊎ ((others : List Symbol) × (x ∷ v.more ≡ s.Colons ∷ others))) → ⊥
    go f items (inl h) = paren (sym (first-is h))
    go f items (inr (others, h)) = colons (first-is h)

pub no-fourth : (k : ℕ) (x : Symbol) (xs : List Symbol) → (x ≡ s.Close → ⊥) → ((j : ℕ) → x ≡ s.Local j → ⊥) → Viable (s.Fn ∷ s.Name k ∷ s.Open ∷ x ∷ xs) → ⊥
no-fourth k x xs close other v =
    let (f, items, h) = fn-args v.file k (x ∷ xs ++ v.more) v.derives in
    go (args-first f.args (behind_args f items) x (xs ++ v.more) h)
  where
    go : {A : Type 0} → (((x ≡ s.Close) × A) ⊎ ((j : ℕ) × (x ≡ s.Local j))) → ⊥
    go (inl h) = close h.0
    go (inr (j, is)) = other j is

-- ---- symbols that open nothing too deep

pub name-opens : (k : ℕ) → TooDeep (s.Fn ∷ []) (s.Name k) → ⊥
name-opens k h = no-second h.least (λ j e. let is : s.Bool ≡ s.Name j = sym h.opens ∙ e in absurd cc) h.viable

pub paren-opens : (k : ℕ) → TooDeep (s.Fn ∷ s.Name k ∷ []) s.Open → ⊥
paren-opens k h = go h.opens
  where
    go : (h.least ≡ s.Bool) ⊎ (h.least ≡ s.Local 0) → ⊥
    go (inl is) = no-third k h.least (λ e. let z : s.Bool ≡ s.Open = sym is ∙ e in absurd cc) (λ e. let z : s.Bool ≡ s.Colons = sym is ∙ e in absurd cc) h.viable
    go (inr is) = no-third k h.least (λ e. let z : s.Local 0 ≡ s.Open = sym is ∙ e in absurd cc) (λ e. let z : s.Local 0 ≡ s.Colons = sym is ∙ e in absurd cc) h.viable
