-- The simplest valid crates: one function, assignments of whole locals and constants, and terminators without operands.
use Rattle.std.proofs.Common.{◌≡◌, ◌≢◌, refl, ℕ, zero, suc, Bool, true, false, ◌==◌, ◌||◌, List, [], ◌∷◌, Some, slice_get, arith}
use Rattle.std.proofs.Common.{eqb-true}
use Rattle.mir_syntax.specs.declared.body.Place.{Place}
use Rattle.mir_syntax.specs.declared.body.Const.{Const}
use Rattle.mir_syntax.specs.declared.body.Operand.{Operand}
use Rattle.mir_syntax.specs.declared.body.Operand.TheVariants as operand
use Rattle.mir_syntax.specs.declared.body.Term.TheVariants as term
use Rattle.mir_syntax.specs.Tree.{Tree}
use Rattle.mir_syntax.specs.Crate.{«use», assign, TypedFunction, Crate}
use Rattle.mir_syntax.specs.Shapes.{Shape, shapes_of, place_ty}
use Rattle.mir_rules.specs.Typing.{operand_ty, rvalue_ty}
use Rattle.mir_rules.specs.Formed.{body_formed, is_formed}
use Rattle.mir_rules.specs.Broken.{statement_broken, terminator_broken}
use Rattle.mir_rules.specs.DefinitionRules.{breaks_v03, breaks_v04}
use Rattle.mir_rules.specs.Valid.{Valid}
use Rattle.mir_syntax.proofs.Binds.{some_bind}
use Rattle.mir_rules.proofs.Keeps.{BodyKeeps, broken_none}
use Rattle.mir_rules.proofs.Statements.{MovesKept, typed_stmt}
use Rattle.mir_rules.proofs.Terminators.{typed_term}

-- the place of a whole local
abbrev pub whole : ℕ → Place
whole x = record { local = x; proj = [] }

-- an operand that is a whole local or a constant
pub data Plain : Operand → Type 0 where
  copied : (x : ℕ) → Plain (operand.Copy (whole x))
  moved : (x : ℕ) → Plain (operand.Move (whole x))
  constant : (c : Const) → Plain (operand.Const c)

module _ (D : List Shape) (locals : List Tree) where
  pub whole_ty : (x : ℕ) (t : Tree) → slice_get locals x ≡ Some t → place_ty D locals (whole x) ≡ Some t
  unfolding place_ty
  whole_ty x t e = some_bind _ e refl

  plain_moves : (a : Operand) → Plain a → MovesKept D locals (a ∷ [])
  plain_moves _ (copied x) = record { through = refl; indirect = refl }
  plain_moves _ (moved x) = record { through = refl; indirect = refl }
  plain_moves _ (constant c) = record { through = refl; indirect = refl }

  -- a local may be assigned what has its type
  pub plain_assignment : (args x : ℕ) (t : Tree) (a : Operand) → Plain a → slice_get locals x ≡ Some t → operand_ty D locals a ≡ Some t → statement_broken D args locals (assign (whole x) («use» a)) ≡ []
  unfolding rvalue_ty
  plain_assignment args x t a plain e f = typed_stmt D args locals (assign (whole x) («use» a)) (record { ty = t; place = whole_ty x t e; rvalue = f; moves = plain_moves a plain })

  pub plain_goto : (C : Crate) (n : ℕ) → n ≢ 0 → terminator_broken C D locals (term.Goto n) ≡ []
  plain_goto C n away = typed_term C D locals (term.Goto n) (record { targets = go (n == 0) refl; own = tt; moves = record { through = refl; indirect = refl } })
    where
      go : (b : Bool) → (n == 0) ≡ b → (b || false) ≡ false
      go true e = absurd (away (eqb-true n 0 e))
      go false e = refl

  pub plain_return : (C : Crate) → terminator_broken C D locals term.Return ≡ []
  unfolding terminator_broken
  plain_return C = refl

  pub plain_unreachable : (C : Crate) → terminator_broken C D locals term.Unreachable ≡ []
  unfolding terminator_broken
  plain_unreachable C = refl

-- ---- a crate of one function

abbrev pub alone : TypedFunction → Crate
alone g = record { defs = []; outsides = []; functions = g ∷ [] }

pub valid_alone : (g : TypedFunction) → g.is_drop ≡ false → body_formed (alone g) g.body ≡ true → BodyKeeps (alone g) g.body → Valid (alone g)
unfolding is_formed
valid_alone g no_drop formed kept = record {
  formed = rw formed refl;
  rules = broken_none (alone g) (record {
    defs = λ d def e. absurd (grind arith);
    outsides = λ o out e. absurd (grind arith);
    destructors = λ f h e. third f h e;
    one_destructor = λ f h e. fourth f h e;
    bodies = λ f h e. body f h e;
  });
}
  where
    third : (f : ℕ) (h : TypedFunction) → slice_get (g ∷ []) f ≡ Some h → breaks_v03 h ≡ false
    third zero h e = rw (let same : h ≡ g = grind arith in same) (rw no_drop refl)
    third (suc f) h e = absurd (grind arith)

    fourth : (f : ℕ) (h : TypedFunction) → slice_get (g ∷ []) f ≡ Some h → breaks_v04 (shapes_of (alone g)) f h ≡ false
    fourth zero h e = rw (let same : h ≡ g = grind arith in same) (rw no_drop refl)
    fourth (suc f) h e = absurd (grind arith)

    body : (f : ℕ) (h : TypedFunction) → slice_get (g ∷ []) f ≡ Some h → BodyKeeps (alone g) h.body
    body zero h e = rw (let same : h ≡ g = grind arith in same) kept
    body (suc f) h e = absurd (grind arith)
