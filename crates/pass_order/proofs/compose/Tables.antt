-- The bodies of a program are read through its table, so their types are as in a table.
use Rattle.std.proofs.Common.{◌≡◌, refl, subst, ℕ, zero, suc, List, [], ◌∷◌, map, Some, slice_get, arith}
use Rattle.mir_syntax.specs.declared.body.Function.{Function}
use Rattle.mir_syntax.specs.declared.program.Program.{Program}
use Rattle.mir_syntax.specs.Tree.{trees_of}
use Rattle.mir_syntax.specs.Crate.{TypedFunction, crate_of, function_of}
use Rattle.mir_syntax.specs.Shapes.{shapes_of}
use Rattle.drop_elab.specs.Tupled.{TypesTupled}
use Rattle.drop_elab.proofs.Types.{table_types}
use Rattle.pass_order.specs.Tupled.{BodiesTupled}

each_tupled : (p : Program) (fs : List Function) (f : ℕ) (g : TypedFunction) → slice_get (map (function_of (trees_of p.types)) fs) f ≡ Some g → TypesTupled (shapes_of (crate_of p)) g.body
each_tupled p [] f g e = absurd (grind arith)
each_tupled p (x ∷ xs) zero g e =
    subst (λ (h : TypedFunction). TypesTupled (shapes_of (crate_of p)) h.body) (let s : function_of (trees_of p.types) x ≡ g = grind arith in s) (table_types p (crate_of p) x.body refl)
each_tupled p (x ∷ xs) (suc f) g e = each_tupled p xs f g e

pub bodies_tupled : (p : Program) → BodiesTupled (crate_of p)
bodies_tupled p f g e = each_tupled p p.functions f g e
