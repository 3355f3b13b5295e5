-- Runs of small crates with destructors.
use Rattle.std.proofs.Common.{◌≡◌, refl, ℕ, List, [], ◌∷◌, None}
use Rattle.mir_syntax.specs.declared.types.IntTy.TheVariants.{U32}
use Rattle.mir_syntax.specs.declared.body.Proj.TheVariants.{Field, Deref}
use Rattle.mir_syntax.specs.declared.body.Term.TheVariants.{Switch, Return, Drop, Call}
use Rattle.mir_syntax.specs.Tree.{empty, more, ref_mut, named}
use Rattle.mir_syntax.specs.Crate.{TypedBody, TypedFunction, «use», tuple, build, assign, Crate}
use Rattle.mir_syntax.specs.Crate as rvalue
use Rattle.mir_semantics.specs.Values.{Value, number, nil}
use Rattle.mir_semantics.specs.Step.{Code, code_of, Called, returned}
use Rattle.mir_semantics.specs.Run.{going, ended, undefined, Entry, run}
use Rattle.mir_semantics.proofs.Opened.{Opened}
use Rattle.mir_semantics.proofs.Sample.{int, bool, place, part_of, lit, copy, move, arm, to_function, to_outside, block, body, function, destructor, field, struct, variant_with, enum, outside}

abbrev entry : ℕ → List Value → Entry
entry f args = record { function = f; args = args }

abbrev noted : ℕ → List Called
noted n = record { outside = 0; args = n ∷ []; answer = None } ∷ []

-- a struct of a number, whose destructor notes it
abbrev noting : TypedFunction
noting = destructor (body 1 (empty ∷ ref_mut (named 0) ∷ [])
    (block [] (Call (place 0) (to_outside 0) (copy (part_of 1 (Deref ∷ Field 0 ∷ [])) ∷ []) 1) ∷ block [] Return ∷ []))

abbrev eat : TypedFunction
eat = function (body 1 (empty ∷ named 0 ∷ []) (block [] (Drop (place 1) 1) ∷ block [] Return ∷ []))

-- ---- a value that is moved on one arm

abbrev moved_or_kept : Code
moved_or_kept = code_of (record {
  defs = struct (field (int U32) ∷ []) ∷ [];
  outsides = outside (int U32 ∷ []) empty ∷ [];
  functions = noting ∷ eat ∷
      function (body 1 (empty ∷ bool ∷ named 0 ∷ empty ∷ [])
      (block (assign (place 2) (build 0 0 (lit U32 7 ∷ [])) ∷ []) (Switch (copy (place 1)) (arm 0 2 ∷ []) 1)
      ∷ block [] (Call (place 3) (to_function 1) (move (place 2) ∷ []) 2)
      ∷ block [] (Drop (place 2) 3)
      ∷ block [] Return ∷ [])) ∷ [];
})

dropped_where_moved : run moved_or_kept (entry 2 (number 1 ∷ [])) [] 10 ≡ ended (noted 7) (returned nil)
unfolding Opened
dropped_where_moved = refl

ten_steps_where_moved : run moved_or_kept (entry 2 (number 1 ∷ [])) [] 9 ≡ going (noted 7)
unfolding Opened
ten_steps_where_moved = refl

dropped_where_kept : run moved_or_kept (entry 2 (number 0 ∷ [])) [] 7 ≡ ended (noted 7) (returned nil)
unfolding Opened
dropped_where_kept = refl

seven_steps_where_kept : run moved_or_kept (entry 2 (number 0 ∷ [])) [] 6 ≡ going (noted 7)
unfolding Opened
seven_steps_where_kept = refl

call_stands_after_four_steps : run moved_or_kept (entry 2 (number 0 ∷ [])) [] 4 ≡ going (noted 7)
unfolding Opened
call_stands_after_four_steps = refl

-- ---- a destructor that sets another variant: the fields of that one are dropped

abbrev changing : Code
changing = code_of (record {
  defs = struct (field (int U32) ∷ []) ∷ enum (variant_with [] ∷ variant_with (field (named 0) ∷ []) ∷ []) ∷ [];
  outsides = outside (int U32 ∷ []) empty ∷ [];
  functions = noting ∷
      destructor (body 1 (empty ∷ ref_mut (named 1) ∷ named 0 ∷ [])
      (block (assign (place 2) (build 0 0 (lit U32 8 ∷ [])) ∷ assign (part_of 1 (Deref ∷ [])) (build 1 1 (move (place 2) ∷ [])) ∷ []) Return ∷ [])) ∷
      function (body 0 (empty ∷ named 1 ∷ []) (block (assign (place 1) (build 1 0 []) ∷ []) (Drop (place 1) 1) ∷ block [] Return ∷ [])) ∷ [];
})

fields_are_those_after_the_destructor : run changing (entry 2 []) [] 10 ≡ ended (noted 8) (returned nil)
unfolding Opened
fields_are_those_after_the_destructor = refl

ten_steps_of_the_changed_variant : run changing (entry 2 []) [] 9 ≡ going (noted 8)
unfolding Opened
ten_steps_of_the_changed_variant = refl

-- ---- a type that needs no drop: one step

abbrev plain : Code
plain = code_of (record { defs = []; outsides = []; functions = function (body 0 (empty ∷ int U32 ∷ []) (block [] (Drop (place 1) 1) ∷ block [] Return ∷ [])) ∷ [] })

plain_drop_takes_one_step : run plain (entry 0 []) [] 2 ≡ ended [] (returned nil)
unfolding Opened
plain_drop_takes_one_step = refl

-- ---- a tuple of which one unit was moved out, and moved back into a local: only the other one is dropped

abbrev half_moved : Code
half_moved = code_of (record {
  defs = struct (field (int U32) ∷ []) ∷ [];
  outsides = outside (int U32 ∷ []) empty ∷ [];
  functions = noting ∷
      function (body 0 (empty ∷ more (named 0) (more (int U32) (more (named 0) empty)) ∷ named 0 ∷ named 0 ∷ [])
      (block (assign (place 2) (build 0 0 (lit U32 1 ∷ [])) ∷ assign (place 3) (build 0 0 (lit U32 2 ∷ [])) ∷ assign (place 1) (tuple (move (place 2) ∷ lit U32 5 ∷ move (place 3) ∷ [])) ∷ assign (place 2) («use» (move (part_of 1 (Field 0 ∷ [])))) ∷ []) (Drop (place 1) 1)
      ∷ block [] Return ∷ [])) ∷ [];
})

moved_unit_is_not_dropped : run half_moved (entry 1 []) [] 12 ≡ ended (noted 2) (returned nil)
unfolding Opened
moved_unit_is_not_dropped = refl

twelve_steps_where_half_moved : run half_moved (entry 1 []) [] 11 ≡ going (noted 2)
unfolding Opened
twelve_steps_where_half_moved = refl

-- ---- a drop of what was moved already: one step, and nothing is called

abbrev all_moved : Code
all_moved = code_of (record {
  defs = struct (field (int U32) ∷ []) ∷ [];
  outsides = outside (int U32 ∷ []) empty ∷ [];
  functions = noting ∷
      function (body 0 (empty ∷ named 0 ∷ named 0 ∷ []) (block (assign (place 1) (build 0 0 (lit U32 1 ∷ [])) ∷ assign (place 2) («use» (move (place 1))) ∷ []) (Drop (place 1) 1) ∷ block [] Return ∷ [])) ∷ [];
})

drop_of_a_hole_calls_nothing : run all_moved (entry 1 []) [] 4 ≡ ended [] (returned nil)
unfolding Opened
drop_of_a_hole_calls_nothing = refl

-- ---- a write behind a reference, to a place from which a unit was moved

abbrev written_back : Code
written_back = code_of (record {
  defs = struct (field (int U32) ∷ []) ∷ [];
  outsides = outside (int U32 ∷ []) empty ∷ [];
  functions = noting ∷
      function (body 0 (empty ∷ named 0 ∷ named 0 ∷ ref_mut (named 0) ∷ []) (block (assign (place 1) (build 0 0 (lit U32 1 ∷ [])) ∷ assign (place 3) (rvalue.ref_mut (place 1)) ∷ assign (place 2) («use» (move (place 1))) ∷ assign (part_of 3 (Deref ∷ [])) (build 0 0 (lit U32 4 ∷ [])) ∷ []) Return ∷ [])) ∷ [];
})

write_over_a_moved_unit_is_undefined : run written_back (entry 1 []) [] 4 ≡ undefined []
unfolding Opened
write_over_a_moved_unit_is_undefined = refl
