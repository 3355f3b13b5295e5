-- A text can write a made crate, so it is read back.
use Rattle.std.proofs.Common.{◌≡◌, ◌<◌, ◌≤◌, ◌+◌, ℕ, zero, suc, Bool, true, false, List, [], ◌∷◌, Some, map, length, refl, sym, ap, subst, ◌∙◌, arith}
use Rattle.std.specs.Prelude.{◌||◌, get_or}
use Rattle.std.specs.Str.{bytes_eq}
use Rattle.std.proofs.lemmas.Slice.Eq.{bytes_eq-Decides}
use Rattle.mir_syntax.specs.declared.types.ScalarTy.{ScalarTy}
use Rattle.mir_syntax.specs.declared.body.Callee.TheVariants as callee
use Rattle.mir_syntax.specs.Tree.{Tree, scalar}
use Rattle.mir_syntax.specs.Crate.{Crate}
use Rattle.mir_text.specs.Grammar.{AllOf}
use Rattle.mir_text.specs.Words.{place_from, place_in}
use Rattle.mir_text.specs.NameFaults.{Defined, clashes, any_clashes}
use Rattle.mir_text.specs.TermText.{function_paths, callee_path}
use Rattle.mir_text.specs.Text.{text}
use Rattle.mir_text.specs.Reads.{Reads}
use Rattle.mir_round_trip.specs.Names.{IsPath, Proper, IsTy}
use Rattle.mir_round_trip.specs.Bodies.{depth_at, IsPlace, IsOperand, IsRvalue, IsStmt, IsTarget, IsCallee, IsTerm, IsBlock, IsFn}
use Rattle.mir_round_trip.specs.Readable.{fn_defined, AreApart, Readable}
use Rattle.mir_round_trip.proofs.ReadBack.{read_back}
use Rattle.crate_gen.specs.declared.choice.Choice.{Choice}
use Rattle.crate_gen.specs.Made.{choice, after_choice, whole, copied, number, number_ty, bool_ty, comparing, calling, returning, made_path, made_function, made_functions, made_crate}
use Rattle.crate_gen.proofs.Members.{choice_value, choice_bound, choice_below, choice_otherwise}
use Rattle.crate_gen.proofs.Paths.{is_path, same_number, paths_differ, path_is_itself}

-- ---- paths of the functions, in their order

paths_long : (n i more x : ℕ) → length (function_paths (made_functions n i more x)) ≡ more
paths_long n i zero x = refl
paths_long n i (suc more) x = let rest = paths_long n (suc i) more (after_choice x) in omega (arith, rest)

path_at : (n i more x k : ℕ) → k < more → get_or (function_paths (made_functions n i more x)) k [] ≡ made_path (i + k)
path_at n i zero x k low = absurd (omega arith)
path_at n i (suc more) x zero low = ap made_path (let e : i ≡ i + 0 = omega arith in e)
path_at n i (suc more) x (suc k) low = path_at n (suc i) more (after_choice x) k (omega arith) ∙ ap made_path (let e : suc i + k ≡ i + suc k = omega arith in e)

-- a path is at the number that it has
place_at : (n i more x f : ℕ) → i ≤ f → f < i + more → f < 100000 → place_from i (function_paths (made_functions n i more x)) (made_path f) ≡ Some f
place_at n i zero x f low high small = absurd (omega arith)
place_at n i (suc more) x f low high small = go (bytes_eq (made_path i) (made_path f)) refl (λ later. place_at n (suc i) more (after_choice x) f later (omega arith) small)
  where
    rest : List (List ℕ)
    rest = function_paths (made_functions n (suc i) more (after_choice x))

    go : (b : Bool) → bytes_eq (made_path i) (made_path f) ≡ b → (suc i ≤ f → place_from (suc i) rest (made_path f) ≡ Some f) → place_from i (made_path i ∷ rest) (made_path f) ≡ Some f
    go true e later =
        let same : i ≡ f = same_number i f (omega arith) small ((bytes_eq-Decides (made_path i) (made_path f)).0 e) in
        rw e (ap Some same)
    go false e later =
        let apart : i ≡ f → ⊥ = λ same. (let wrong : true ≡ false = sym (path_is_itself i) ∙ subst (λ k. bytes_eq (made_path i) (made_path k) ≡ false) (sym same) e in absurd cc) in
        rw e (later (omega (arith, apart)))

-- ---- no two paths clash

defined : ℕ → Defined
defined j = record { line = 0; is_type = false; is_struct = false; path = made_path j; variants = [] }

-- items whose numbers are below one
abbrev AreBefore : ℕ → List Defined → Type 0
AreBefore i [] = Unit {0}
AreBefore i (b ∷ bs) = ((j : ℕ) × (j < i) × (b ≡ defined j)) × AreBefore i bs

before_more : (i : ℕ) (bs : List Defined) → AreBefore i bs → AreBefore (suc i) bs
before_more i [] before = tt
before_more i (b ∷ bs) ((j, low, is), others) = ((j, omega arith, is), before_more i bs others)

none_clashes : (i : ℕ) (bs : List Defined) → i < 100000 → AreBefore i bs → any_clashes (defined i) bs ≡ false
unfolding defined
none_clashes i [] small before = refl
none_clashes i (b ∷ bs) small ((j, low, is), others) =
    subst (λ d. (clashes (defined i) d || any_clashes (defined i) bs) ≡ false) (sym is)
    (rw (paths_differ i j small (omega arith) (λ same. absurd (omega (arith, same)))) (none_clashes i bs small others))

are_apart : (n i more x : ℕ) (before : List Defined) → i + more ≤ 100000 → AreBefore i before → AreApart before (map fn_defined (made_functions n i more x))
unfolding defined
are_apart n i zero x before few below = tt
are_apart n i (suc more) x before few below =
    (none_clashes i before (omega arith) below, are_apart n (suc i) more (after_choice x) (defined i ∷ before) (omega arith) ((i, omega arith, refl), before_more i before below))

-- ---- the parts of a function

abbrev six : List Tree
six = number_ty ∷ number_ty ∷ number_ty ∷ number_ty ∷ number_ty ∷ bool_ty ∷ []

is_type : (C : Crate) (s : ScalarTy) → IsTy C (scalar s)
unfolding Proper
is_type C s = record { proper = tt; depth = (let e : 1 ≤ 65 = omega arith in e) }

is_place : (C : Crate) (k : ℕ) → k < 6 → IsPlace C six (whole k)
unfolding depth_at
is_place C k low = record { there = low; small = (let e : k < 4294967296 = omega arith in e); path = tt; depth = (let e : 1 ≤ 65 = omega arith in e) }

is_copied : (C : Crate) (k : ℕ) → k < 6 → IsOperand C six (copied k)
unfolding IsOperand
is_copied C k low = is_place C k low

is_number : (C : Crate) (v : ℕ) → v < 100 → IsOperand C six (number v)
unfolding IsOperand
is_number C v low = (let e : v < 4294967296 = omega arith in e)

is_target : (k : ℕ) → k < 4 → IsTarget 4 k
is_target k low = record { there = low; small = (let e : k < 4294967296 = omega arith in e) }

is_comparing : (C : Crate) (c : Choice) → c.value < 100 → c.bound < 100 → IsBlock C six 4 (comparing c)
unfolding IsOperand IsRvalue IsStmt IsTerm
is_comparing C c value bound =
    record {
      stmts = (
        (is_place C 3 (omega arith), is_number C c.value value),
        (
          (is_place C 4 (omega arith), (is_copied C 1 (omega arith), is_copied C 3 (omega arith))),
          ((is_place C 5 (omega arith), (is_copied C 3 (omega arith), is_number C c.bound bound)), tt),
        ),
      );
      term = (is_place C 5 (omega arith), (record { value = (let e : 0 < 340282366920938463463374607431768211456 = omega arith in e); block = is_target 2 (omega arith) }, tt), is_target 1 (omega arith));
    }

is_callee : (start n f : ℕ) → f < n → n ≤ 10000 → IsCallee (made_crate start n) (callee.Local (record { 0 = f }))
unfolding callee_path
is_callee start n f low few =
    let is : callee_path (made_crate start n) (callee.Local (record { 0 = f })) ≡ made_path f = path_at n 0 n start f low ∙ ap made_path (let e : 0 + f ≡ f = omega arith in e) in
    let long = paths_long n 0 n start in
    let there : f < length (function_paths (made_functions n 0 n start)) = omega (arith, long) in
    record {
      path = subst IsPath (sym is) (is_path f);
      is = (there, subst (λ p. place_in (function_paths (made_functions n 0 n start)) p ≡ Some f) (sym is) (place_at n 0 n start f (omega arith) (omega arith) (omega arith)));
    }

is_calling : (start n f a b : ℕ) → f < n → n ≤ 10000 → a < 6 → b < 6 → IsBlock (made_crate start n) six 4 (calling f a b)
unfolding IsTerm
is_calling start n f a b low few in_a in_b =
    let C = made_crate start n in
    record { stmts = tt; term = (is_place C 0 (omega arith), is_callee start n f low few, (is_copied C a in_a, (is_copied C b in_b, tt)), is_target 3 (omega arith)) }

is_returning : (C : Crate) → IsBlock C six 4 returning
unfolding IsTerm
is_returning C = record { stmts = tt; term = tt }

is_fn : (start n j : ℕ) (c : Choice) → n ≤ 10000 → c.value < 100 → c.bound < 100 → c.below < n → c.otherwise < n → IsFn (made_crate start n) (made_function j c)
is_fn start n j c few value bound below otherwise =
    let C = made_crate start n in
    record {
      path = is_path j;
      args = (let e : 2 < 6 = omega arith in e);
      few = (let e : 6 ≤ 4294967296 = omega arith in e);
      types = (is_type C _, (is_type C _, (is_type C _, (is_type C _, (is_type C _, (is_type C _, tt))))));
      some = (let e : 0 < 4 = omega arith in e);
      few_blocks = (let e : 4 ≤ 4294967296 = omega arith in e);
      blocks = (is_comparing C c value bound, (is_calling start n c.below 4 2 below few (omega arith) (omega arith), (is_calling start n c.otherwise 2 4 otherwise few (omega arith) (omega arith), (is_returning C, tt))));
    }

are_fns : (start n i more x : ℕ) → 0 < n → n ≤ 10000 → AllOf (IsFn (made_crate start n)) (made_functions n i more x)
are_fns start n i zero x some few = tt
are_fns start n i (suc more) x some few =
    (is_fn start n i (choice n x) few (choice_value n x) (choice_bound n x) (choice_below n x some) (choice_otherwise n x some), are_fns start n (suc i) more (after_choice x) some few)

readable : (start n : ℕ) → 0 < n → n ≤ 10000 → Readable (made_crate start n)
readable start n some few =
    record {
      written = record { defs = tt; outsides = tt; functions = are_fns start n 0 n start some few };
      apart = are_apart n 0 n start [] (omega arith) tt;
    }

pub reads_back : (start n : ℕ) → 0 < n → n ≤ 10000 → Reads (text (made_crate start n)) (made_crate start n)
reads_back start n some few = read_back (made_crate start n) (readable start n some few)
