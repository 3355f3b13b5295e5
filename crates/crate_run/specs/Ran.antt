-- What a run of a crate's function shows, and why there is none.
use Rattle.std.specs.Prelude.{◌≡◌, ◌<◌, ℕ, List, map, Some, slice_get}
use Rattle.mir_syntax.specs.declared.number.Number.{Number}
use Rattle.mir_syntax.specs.Tree.{Tree}
use Rattle.mir_syntax.specs.Crate.{TypedFunction, Crate}
use Rattle.mir_syntax.specs.Shapes.{shapes_of}
use Rattle.mir_semantics.specs.Step.{code_of}
use Rattle.mir_semantics.specs.Run.{Entry, run}
use Rattle.mir_semantics.specs.Entry.{IsEntry, AreFlat, arg_types}
use Rattle.mir_machine.specs.Ends.{integer_in}
use Rattle.run_text.specs.RunText.{run_text}

-- the function with this number has the path; those before it don't
pub record IsAt (C : Crate) (path : List ℕ) (k : ℕ) (f : TypedFunction) : Type 0 where
  pub there : slice_get C.functions k ≡ Some f
  pub named : f.path ≡ path
  pub first : (j : ℕ) (g : TypedFunction) → j < k → slice_get C.functions j ≡ Some g → g.path ≡ path → ⊥

-- it is called from outside, with arguments that have this flat form
pub record IsCall (C : Crate) (k : ℕ) (f : TypedFunction) (args : List Number) (e : Entry) : Type 0 where
  pub function : e.function ≡ k
  pub entry : IsEntry (code_of C) e
  pub flat : AreFlat (shapes_of C) (arg_types f.body) (map integer_in args) e.args

-- bytes are the text of a run of the function with the path: of so many steps, or as many as there are
pub record IsRunText (C : Crate) (path : List ℕ) (args : List Number) (answers : List ℕ) (steps : ℕ) (bytes : List ℕ) : Type 0 where
  pub k : ℕ
  pub f : TypedFunction
  pub at : IsAt C path k f
  pub e : Entry
  pub call : IsCall C k f args e
  pub result : Tree
  pub typed : slice_get f.body.locals 0 ≡ Some result
  pub written : bytes ≡ run_text (code_of C) result (run (code_of C) e answers steps)

abbrev pub HasNoFunction : Crate → List ℕ → Type 0
HasNoFunction C path = (k : ℕ) (f : TypedFunction) → slice_get C.functions k ≡ Some f → f.path ≡ path → ⊥

-- nothing calls the function with the path from outside with arguments of this flat form
pub record IsNoEntry (C : Crate) (path : List ℕ) (args : List Number) : Type 0 where
  pub k : ℕ
  pub f : TypedFunction
  pub at : IsAt C path k f
  pub none : (e : Entry) → IsCall C k f args e → ⊥
