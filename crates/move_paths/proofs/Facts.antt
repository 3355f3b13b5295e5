-- Units and their statuses in small bodies.
use Rattle.std.proofs.Common.{◌≡◌, refl, sym, subst, ℕ, zero, suc, Bool, true, false, List, [], ◌∷◌, Some, None, map, slice_get, arith}
use Rattle.std.specs.List.{Contains}
use Rattle.mir_syntax.specs.declared.types.IntTy.TheVariants.{U32}
use Rattle.mir_syntax.specs.declared.body.Proj.TheVariants.{Field, Downcast, Deref}
use Rattle.mir_syntax.specs.declared.body.Place.{Place}
use Rattle.mir_syntax.specs.declared.body.Term.TheVariants.{Switch, Return, Drop, Call, Goto}
use Rattle.mir_syntax.specs.Tree.{empty, more, named, ref_mut}
use Rattle.mir_syntax.specs.Crate.{TypedBlock, TypedBody, build, assign, «use», storage_live, storage_dead, set_discriminant}
use Rattle.mir_syntax.specs.Parts.{targets}
use Rattle.mir_syntax.specs.Shapes.{Shape, needs_drop}
use Rattle.mir_rules.specs.Weights.{units}
use Rattle.mir_semantics.proofs.Sample.{int, bool, place, part_of, lit, copy, move, arm, to_function, block, body}
use Rattle.move_paths.specs.Effects.{units_of_body, effect, term_effect}
use Rattle.move_paths.specs.Inits.{ComesBy, MaybeAt, SurelyAt}

-- ---- units

-- 0: a struct of a number with a destructor; 1: an enum one variant of which holds it; 2: a struct of both, a number and a reference
abbrev pub shapes : List Shape
shapes =
    record { is_enum = false; variants = more (int U32) empty ∷ []; destructor = Some 0 }
    ∷ record { is_enum = true; variants = empty ∷ more (named 0) empty ∷ []; destructor = None }
    ∷ record { is_enum = false; variants = more (int U32) (more (named 1) (more (ref_mut (named 0)) (more (named 0) empty))) ∷ []; destructor = None }
    ∷ []

-- an enum is one unit, and inside a type with a destructor is none
units_of_a_struct : units shapes (named 2) ≡ (Field 1 ∷ []) ∷ (Field 3 ∷ []) ∷ []
unfolding needs_drop units
units_of_a_struct = refl

units_of_a_tuple : units shapes (more bool (more (named 2) (more (named 0) empty))) ≡ (Field 1 ∷ Field 1 ∷ []) ∷ (Field 1 ∷ Field 3 ∷ []) ∷ (Field 2 ∷ []) ∷ []
unfolding needs_drop units
units_of_a_tuple = refl

-- ---- effects

abbrev part : Place
part = part_of 2 (Field 1 ∷ [])

-- a move of the whole ends a part, one of another part doesn't
whole_moved : effect part (assign (place 3) («use» (move (place 2)))) ≡ Some false
whole_moved = refl

other_part_moved : effect part (assign (place 3) («use» (move (part_of 2 (Field 0 ∷ []))))) ≡ None
other_part_moved = refl

copied : effect part (assign (place 3) («use» (copy (place 2)))) ≡ None
copied = refl

-- what is assigned comes after the moves
moved_and_assigned : effect part (assign (place 2) («use» (move (place 2)))) ≡ Some true
moved_and_assigned = refl

-- behind a reference or inside a variant no unit stands
through_a_reference : effect part (assign (part_of 2 (Deref ∷ [])) («use» (lit U32 1))) ≡ None
through_a_reference = refl

inside_a_variant : effect part (assign (part_of 2 (Field 1 ∷ Downcast 1 ∷ Field 0 ∷ [])) («use» (lit U32 1))) ≡ None
inside_a_variant = refl

storage : map (effect part) (storage_live 2 ∷ storage_dead 2 ∷ storage_live 3 ∷ set_discriminant part 1 ∷ []) ≡ Some false ∷ Some false ∷ None ∷ None ∷ []
storage = refl

-- a call ends what it moves, and its result comes after
called : term_effect part (Call (place 2) (to_function 1) (move part ∷ []) 1) ≡ Some true
called = refl

dropped : term_effect part (Drop (place 2) 1) ≡ Some false
dropped = refl

-- ---- statuses

-- a value is moved on one of two arms, and dropped behind both
abbrev pub on_one_arm : TypedBody
on_one_arm = body 1 (empty ∷ bool ∷ named 0 ∷ empty ∷ [])
    (block (assign (place 2) (build 0 0 (lit U32 7 ∷ [])) ∷ []) (Switch (copy (place 1)) (arm 0 2 ∷ []) 1)
    ∷ block [] (Call (place 3) (to_function 1) (move (place 2) ∷ []) 2)
    ∷ block [] (Drop (place 2) 3)
    ∷ block [] Return ∷ [])

its_one_unit : units_of_body shapes on_one_arm ≡ place 2 ∷ []
unfolding needs_drop units
its_one_unit = refl

abbrev value : Place
value = place 2

at_the_start : ComesBy on_one_arm value 0 0 false
at_the_start = (refl, refl)

-- past the call it is gone
past_the_call : ComesBy on_one_arm value 2 2 false
past_the_call = (1, block [] (Call (place 3) (to_function 1) (move (place 2) ∷ []) 2), true, (0, block (assign (place 2) (build 0 0 (lit U32 7 ∷ [])) ∷ []) (Switch (copy (place 1)) (arm 0 2 ∷ []) 1), false, at_the_start, refl, (1, omega arith, refl), refl), refl, (0, omega arith, refl), refl)

-- straight from the switch it is there
past_the_switch : ComesBy on_one_arm value 1 2 true
past_the_switch = (0, block (assign (place 2) (build 0 0 (lit U32 7 ∷ [])) ∷ []) (Switch (copy (place 1)) (arm 0 2 ∷ []) 1), false, at_the_start, refl, (0, omega arith, refl), refl)

-- where the arms meet it may be there, and surely it isn't
maybe_where_they_meet : MaybeAt on_one_arm value 2
maybe_where_they_meet = (1, past_the_switch)

not_surely_where_they_meet : SurelyAt on_one_arm value 2 → ⊥
not_surely_where_they_meet sure = sure (2, past_the_call)

-- the blocks of a body that no edge leads to are reached by no path: nothing may be initialised there, and all surely is
abbrev pub cut_off : TypedBody
cut_off = body 0 (empty ∷ named 0 ∷ []) (block [] Return ∷ block (assign (place 1) (build 0 0 (lit U32 7 ∷ [])) ∷ []) (Goto 2) ∷ block [] Return ∷ [])

-- nothing comes out of the first block, so each path ends there
all_at_first : (n i : ℕ) (now : Bool) → ComesBy cut_off (place 1) n i now → i ≡ 0
all_at_first zero i now (z, e) = z
all_at_first (suc n) i now (a, k, was, h, is, c, e) = absurd (leads a (all_at_first n a was h) is)
  where
    none : (t : ℕ) → Contains (targets Return) t → ⊥
    none t p = (let l = p.1 in omega arith)

    leads : (a : ℕ) → a ≡ 0 → slice_get cut_off.blocks a ≡ Some k → ⊥
    leads zero z q = (let same : block [] Return ≡ k = grind arith in none i (subst (λ (k : TypedBlock). Contains (targets k.term) i) (sym same) c))
    leads (suc a) z q = absurd (omega arith)

never_behind : MaybeAt cut_off (place 1) 2 → ⊥
never_behind (n, h) = absurd (let z = all_at_first n 2 true h in omega arith)

surely_behind : SurelyAt cut_off (place 1) 2
surely_behind (n, h) = absurd (let z = all_at_first n 2 false h in omega arith)
