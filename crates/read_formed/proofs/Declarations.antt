-- The declarations of a function: with their lines they are the same ones, the types of its locals are formed, and `_0` stands behind the arguments.
use Rattle.std.proofs.Common.{◌≡◌, ◌∙◌, ◌<◌, ℕ, zero, suc, Bool, true, false, nat_eq, List, [], ◌∷◌, ◌++◌, map, length, is_some, refl, ap, ap₂, arith}
use Rattle.std.specs.List.{list_all}
use Rattle.std.proofs.lemmas.Bool.{and_from, and_parts}
use Rattle.std.proofs.lemmas.Bool.Decides.{nat_tests}
use Rattle.std.proofs.lemmas.List.{map-append}
use Rattle.mir_syntax.specs.Tree.{Tree}
use Rattle.mir_syntax.specs.Crate.{Crate}
use Rattle.mir_text.specs.Grammar as G
use Rattle.mir_text.specs.Grammar.{Items, items_of}
use Rattle.mir_text.specs.GrammarItems as m
use Rattle.mir_text.specs.GrammarItems.{ArgRule, arg_put, DeclRule, DeclsRule, decl_put, FnRule}
use Rattle.mir_text.specs.Names.{Names, ty_of}
use Rattle.mir_text.specs.NamedBodies.{Declared, declared_ty}
use Rattle.mir_text.specs.Naming.{lets_in, lets_of, declarations, declares, or_unit, locals_from}
use Rattle.mir_text.specs.PartLines.{LinesFrom, past, Lined, items_lined, lets_lined_in, lets_lined, fn_lined}
use Rattle.mir_text.specs.NameFaults.{on_line, unless, each, type_codes, declaration_faults, args_in_place}
use Rattle.mir_text.proofs.Codes.{unless_met, no_codes}
use Rattle.mir_rules.specs.Formed.{type_formed}
use Rattle.mir_rules.proofs.Lists.{append_empty-left, append_empty-right}
use Rattle.read_formed.proofs.Types.{ty_formed}
use Rattle.read_formed.proofs.Knows.{Knows}

-- ---- with their lines

abbrev pub unlined : Lined ArgRule → ArgRule
unlined a = a.1

pub args_unlined : (xs : Items ArgRule) (lines : LinesFrom) → map unlined (items_lined arg_put xs lines) ≡ items_of (λ a. a) xs
args_unlined G.end lines = refl
args_unlined (G.last x) lines = refl
args_unlined (G.more x xs) lines = ap (λ l. x ∷ l) (args_unlined xs _)

mutual
  lets-unlined-in : (d : DeclRule) (lines : LinesFrom) → map unlined (lets_lined_in d lines) ≡ lets_in d
  lets-unlined-in (m.«let» b x u) lines = refl
  lets-unlined-in (m.debug xs) lines = refl
  lets-unlined-in (m.scope n q ds) lines = lets-unlined ds _

  lets-unlined : (ds : DeclsRule) (lines : LinesFrom) → map unlined (lets_lined ds lines) ≡ lets_of ds
  lets-unlined m.no_decls lines = refl
  lets-unlined (m.decls d ds) lines =
      map-append unlined (lets_lined_in d lines) (lets_lined ds (past decl_put d lines)) ∙ ap₂ (λ a b. a ++ b) (lets-unlined-in d lines) (lets-unlined ds (past decl_put d lines))

pub declarations_unlined : (f : FnRule) (lines : LinesFrom) → map unlined ((fn_lined f lines).args ++ (fn_lined f lines).lets) ≡ declarations f
declarations_unlined f lines =
    map-append unlined (fn_lined f lines).args (fn_lined f lines).lets ∙ ap₂ (λ a b. a ++ b) (args_unlined f.args _) (lets-unlined f.locals _)

-- ---- types

abbrev pub declared_formed : Crate → ℕ × Tree → Bool
declared_formed C d = type_formed C d.1

pub declared_types : (C : Crate) (N : Names) → Knows C N → (xs : List (Lined ArgRule)) → each (declaration_faults N) xs ≡ [] → list_all (declared_formed C) (map (declares N) (map unlined xs)) ≡ true
declared_types C N knows [] h = refl
declared_types C N knows (x ∷ xs) h =
    let codes = no_codes x.0 (type_codes N x.1.1) (append_empty-left (declaration_faults N x) (each (declaration_faults N) xs) h) in
    and_from (type_formed C (ty_of N x.1.1)) (list_all (declared_formed C) (map (declares N) (map unlined xs))) (ty_formed C N knows.paths x.1.1 codes)
    (declared_types C N knows xs (append_empty-right (declaration_faults N x) (each (declaration_faults N) xs) h))

local-by : (C : Crate) (d : ℕ × Tree) (ds : Declared) (x : ℕ) (b : Bool) → nat_eq d.0 x ≡ b → type_formed C d.1 ≡ true → type_formed C (or_unit (declared_ty ds x)) ≡ true → type_formed C (or_unit (declared_ty (d ∷ ds) x)) ≡ true
local-by C d ds x true e h later = rw e h
local-by C d ds x false e h later = rw e later

local-formed : (C : Crate) (L : Declared) (x : ℕ) → list_all (declared_formed C) L ≡ true → type_formed C (or_unit (declared_ty L x)) ≡ true
local-formed C [] x h = refl
local-formed C (d ∷ ds) x h =
    let (first, rest) = and_parts (declared_formed C d) (list_all (declared_formed C) ds) h in
    local-by C d ds x (nat_eq d.0 x) refl first (local-formed C ds x rest)

pub locals_formed : (C : Crate) (L : Declared) (k n : ℕ) → list_all (declared_formed C) L ≡ true → list_all (type_formed C) (locals_from L k n) ≡ true
locals_formed C L k zero h = refl
locals_formed C L k (suc n) h = and_from (type_formed C (or_unit (declared_ty L k))) (list_all (type_formed C) (locals_from L (suc k) n)) (local-formed C L k h) (locals_formed C L (suc k) n h)

-- ---- arguments

not-zero : (x k : ℕ) → nat_eq x (suc k) ≡ true → nat_eq x 0 ≡ false
not-zero x k h = grind (arith, nat_tests)

-- `_0` is no argument, and so it stands behind them where it is declared
pub args_fewer : (N : Names) (k : ℕ) (xs : List (Lined ArgRule)) (ds : Declared) → args_in_place (suc k) xs ≡ [] → is_some (declared_ty (map (declares N) (map unlined xs) ++ ds) 0) ≡ true
    → length xs < length (map (declares N) (map unlined xs) ++ ds)
args_fewer N k [] [] h e = absurd cc
args_fewer N k [] (d ∷ ds) h e = omega arith
args_fewer N k (x ∷ xs) ds h e =
    let codes = no_codes x.0 (unless (nat_eq x.1.0 (suc k)) 14) (append_empty-left (on_line x.0 (unless (nat_eq x.1.0 (suc k)) 14)) (args_in_place (suc (suc k)) xs) h) in
    let other = not-zero x.1.0 k (unless_met (nat_eq x.1.0 (suc k)) 14 codes) in
    let less = args_fewer N (suc k) xs ds (append_empty-right (on_line x.0 (unless (nat_eq x.1.0 (suc k)) 14)) (args_in_place (suc (suc k)) xs) h) (rw other at e) in
    omega (arith, less)
