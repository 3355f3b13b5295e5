-- Small bodies that are elaborated: a value that is moved on one arm, an argument that is dropped, and a tuple with an enum in it.
use Rattle.std.proofs.Common.{◌≡◌, refl, ℕ, suc, true, false, List, [], ◌∷◌, Some, None}
use Rattle.mir_syntax.specs.declared.body.Place.{Place}
use Rattle.mir_syntax.specs.declared.body.Proj.TheVariants.{Field, Downcast}
use Rattle.mir_syntax.specs.declared.body.Term.TheVariants.{Goto, Switch, Return, Drop, Call}
use Rattle.mir_syntax.specs.declared.types.IntTy.TheVariants.{U32, Isize}
use Rattle.mir_syntax.specs.Tree.{empty, more, ref_mut, named}
use Rattle.mir_syntax.specs.Crate.{TypedBody, TypedBlock, «use», tuple, discriminant, build, assign}
use Rattle.mir_syntax.specs.Crate as rvalue
use Rattle.mir_syntax.specs.Shapes.{◌>>=◌, Shape, needs_drop, place_ty}
use Rattle.mir_rules.specs.Weights.{units}
use Rattle.mir_semantics.proofs.Sample.{int, bool, part_of, place, lit, copy, move, arm, to_function, block, body}
use Rattle.move_paths.proofs.Facts.{shapes, on_one_arm}
use Rattle.drop_elab.specs.Plan.{glue, set_flag}
use Rattle.drop_elab.specs.Elab.{Inits, elab_by}

unfoldable Opened : Type 0
unfolding needs_drop units place_ty ◌>>=◌ glue elab_by
Opened = Unit {0}

abbrev pub its_inits : Inits
its_inits = record {
  maybe = (false ∷ []) ∷ (true ∷ []) ∷ (true ∷ []) ∷ (false ∷ []) ∷ [];
  sure = (false ∷ []) ∷ (true ∷ []) ∷ (false ∷ []) ∷ (false ∷ []) ∷ [];
}

-- flag `_4`, reference `_5` and result `_6`
pub on_one_arm_elaborated : elab_by shapes on_one_arm its_inits ≡ body 1 (empty ∷ bool ∷ named 0 ∷ empty ∷ bool ∷ ref_mut (named 0) ∷ empty ∷ [])
    (block (set_flag 4 false ∷ assign (place 2) (build 0 0 (lit U32 7 ∷ [])) ∷ set_flag 4 true ∷ []) (Switch (copy (place 1)) (arm 0 2 ∷ []) 1)
    ∷ block (set_flag 4 false ∷ []) (Call (place 3) (to_function 1) (move (place 2) ∷ []) 2)
    ∷ block [] (Switch (copy (place 4)) (arm 0 5 ∷ []) 4)
    ∷ block [] Return
    ∷ block (assign (place 5) (rvalue.ref_mut (place 2)) ∷ []) (Call (place 6) (to_function 0) (move (place 5) ∷ []) 6)
    ∷ block [] (Goto 3)
    ∷ block (set_flag 4 false ∷ []) (Goto 5) ∷ [])
unfolding Opened
on_one_arm_elaborated = refl

abbrev pub of_argument : TypedBody
of_argument = body 1 (empty ∷ named 0 ∷ []) (block [] (Drop (place 1) 1) ∷ block [] Return ∷ [])

abbrev pub argument_inits : Inits
argument_inits = record { maybe = (true ∷ []) ∷ (false ∷ []) ∷ []; sure = (true ∷ []) ∷ (false ∷ []) ∷ [] }

-- a static drop has no flag
pub of_argument_elaborated : elab_by shapes of_argument argument_inits ≡ body 1 (empty ∷ named 0 ∷ ref_mut (named 0) ∷ empty ∷ [])
    (block (assign (place 2) (rvalue.ref_mut (place 1)) ∷ []) (Call (place 3) (to_function 0) (move (place 2) ∷ []) 2)
    ∷ block [] Return
    ∷ block [] (Goto 1) ∷ [])
unfolding Opened
of_argument_elaborated = refl

-- ---- a tuple of a struct with a destructor and an enum, which is moved out on one arm; the text is what an independent reading gives

abbrev enum_shapes : List Shape
enum_shapes = record { is_enum = false; variants = more (int U32) empty ∷ []; destructor = Some 0 }
    ∷ record { is_enum = true; variants = empty ∷ more (int U32) (more (named 0) empty) ∷ more (named 0) empty ∷ []; destructor = None }
    ∷ record { is_enum = false; variants = more (named 0) (more (named 1) empty) ∷ []; destructor = Some 1 } ∷ []

abbrev of_enums : TypedBody
of_enums = body 3 (empty ∷ bool ∷ named 2 ∷ named 1 ∷ more (named 2) (more (int U32) (more (named 1) empty)) ∷ named 1 ∷ [])
    (block (assign (place 4) (tuple (move (place 2) ∷ lit U32 3 ∷ move (place 3) ∷ [])) ∷ []) (Switch (copy (place 1)) (arm 0 2 ∷ []) 1)
    ∷ block (assign (place 5) («use» (move (part_of 4 (Field 2 ∷ [])))) ∷ []) (Drop (place 5) 2)
    ∷ block [] (Drop (place 4) 3)
    ∷ block [] (Drop (place 5) 4)
    ∷ block [] Return ∷ [])

abbrev enum_inits : Inits
enum_inits = record {
  maybe = (true ∷ true ∷ false ∷ false ∷ false ∷ []) ∷ (false ∷ false ∷ true ∷ true ∷ false ∷ []) ∷ (false ∷ false ∷ true ∷ true ∷ false ∷ []) ∷ (false ∷ false ∷ false ∷ false ∷ false ∷ []) ∷ (false ∷ false ∷ false ∷ false ∷ false ∷ []) ∷ [];
  sure = (true ∷ true ∷ false ∷ false ∷ false ∷ []) ∷ (false ∷ false ∷ true ∷ true ∷ false ∷ []) ∷ (false ∷ false ∷ true ∷ false ∷ false ∷ []) ∷ (false ∷ false ∷ false ∷ false ∷ false ∷ []) ∷ (false ∷ false ∷ false ∷ false ∷ false ∷ []) ∷ [];
}

abbrev calls : ℕ → Place → ℕ → ℕ → TypedBlock
calls r p g n = block (assign (place r) (rvalue.ref_mut p) ∷ []) (Call (place (suc r)) (to_function g) (move (place r) ∷ []) n)

of_enums_elaborated : elab_by enum_shapes of_enums enum_inits ≡ body 3 (empty ∷ bool ∷ named 2 ∷ named 1 ∷ more (named 2) (more (int U32) (more (named 1) empty)) ∷ named 1 ∷ bool ∷ int Isize ∷ ref_mut (named 0) ∷ empty ∷ ref_mut (named 0) ∷ empty ∷ ref_mut (named 2) ∷ empty ∷ ref_mut (named 0) ∷ empty ∷ int Isize ∷ ref_mut (named 0) ∷ empty ∷ ref_mut (named 0) ∷ empty ∷ int Isize ∷ ref_mut (named 0) ∷ empty ∷ ref_mut (named 0) ∷ empty ∷ [])
    (block (set_flag 6 false ∷ assign (place 4) (tuple (move (place 2) ∷ lit U32 3 ∷ move (place 3) ∷ [])) ∷ set_flag 6 true ∷ []) (Switch (copy (place 1)) (arm 0 2 ∷ []) 1)
    ∷ block (assign (place 5) («use» (move (part_of 4 (Field 2 ∷ [])))) ∷ set_flag 6 false ∷ assign (place 7) (discriminant (place 5)) ∷ []) (Switch (move (place 7)) (arm 1 5 ∷ arm 2 6 ∷ []) 7)
    ∷ calls 12 (part_of 4 (Field 0 ∷ [])) 1 10
    ∷ block [] (Goto 4)
    ∷ block [] Return
    ∷ calls 8 (part_of 5 (Downcast 1 ∷ Field 1 ∷ [])) 0 8
    ∷ calls 10 (part_of 5 (Downcast 2 ∷ Field 0 ∷ [])) 0 9
    ∷ block [] (Goto 2)
    ∷ block [] (Goto 7)
    ∷ block [] (Goto 7)
    ∷ calls 14 (part_of 4 (Field 0 ∷ Field 0 ∷ [])) 0 11
    ∷ block (assign (place 16) (discriminant (part_of 4 (Field 0 ∷ Field 1 ∷ []))) ∷ []) (Switch (move (place 16)) (arm 1 12 ∷ arm 2 13 ∷ []) 14)
    ∷ calls 17 (part_of 4 (Field 0 ∷ Field 1 ∷ Downcast 1 ∷ Field 1 ∷ [])) 0 15
    ∷ calls 19 (part_of 4 (Field 0 ∷ Field 1 ∷ Downcast 2 ∷ Field 0 ∷ [])) 0 16
    ∷ block [] (Switch (copy (place 6)) (arm 0 18 ∷ []) 17)
    ∷ block [] (Goto 14)
    ∷ block [] (Goto 14)
    ∷ block (assign (place 21) (discriminant (part_of 4 (Field 2 ∷ []))) ∷ []) (Switch (move (place 21)) (arm 1 19 ∷ arm 2 20 ∷ []) 21)
    ∷ block [] (Goto 3)
    ∷ calls 22 (part_of 4 (Field 2 ∷ Downcast 1 ∷ Field 1 ∷ [])) 0 22
    ∷ calls 24 (part_of 4 (Field 2 ∷ Downcast 2 ∷ Field 0 ∷ [])) 0 23
    ∷ block (set_flag 6 false ∷ []) (Goto 18)
    ∷ block [] (Goto 21)
    ∷ block [] (Goto 21) ∷ [])
unfolding Opened
of_enums_elaborated = refl
