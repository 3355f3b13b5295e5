-- The canonical texts of small crates, computed.
use Rattle.std.specs.Prelude.{◌≡◌, refl, ℕ, true, false, List, [], ◌∷◌, ◌++◌, codes}
use Rattle.std.proofs.Common.{arith}
use Rattle.std.proofs.lemmas.Fmt.{decimal_digit}
use Rattle.mir_syntax.specs.declared.types.IntTy.TheVariants as i
use Rattle.mir_syntax.specs.declared.types.ScalarTy.TheVariants as scalar_ty
use Rattle.mir_syntax.specs.declared.types.Form.TheVariants as form
use Rattle.mir_syntax.specs.declared.body.Proj.{Proj}
use Rattle.mir_syntax.specs.declared.body.Proj.TheVariants.{Field, Downcast, Deref}
use Rattle.mir_syntax.specs.declared.body.Place.{Place}
use Rattle.mir_syntax.specs.declared.body.Operand.TheVariants as operand
use Rattle.mir_syntax.specs.declared.body.Const.TheVariants as const
use Rattle.mir_syntax.specs.declared.body.OverOp.TheVariants as over
use Rattle.mir_syntax.specs.declared.body.Inline.TheVariants as inlining
use Rattle.mir_syntax.specs.declared.body.Callee.{Callee}
use Rattle.mir_syntax.specs.declared.body.Callee.TheVariants as callee
use Rattle.mir_syntax.specs.declared.body.Term.{Term}
use Rattle.mir_syntax.specs.declared.body.Term.TheVariants as term
use Rattle.mir_syntax.specs.Tree.{Tree, scalar, empty, more, ref, ref_mut, named}
use Rattle.mir_syntax.specs.Crate as C
use Rattle.mir_syntax.specs.Crate.{TypedDef, TypedOutside, TypedBlock, TypedFunction, Crate, TypedStmt}
use Rattle.mir_syntax.specs.Shapes.{shapes_of, ◌>>=◌}
use Rattle.mir_text.specs.Numbers.{is_negative, size_of}
use Rattle.mir_text.specs.TypeText.{piece, more_items, comma_list, int_name, scalar_text, type_text, rest_text, parts_text, minus_text, const_text}
use Rattle.mir_text.specs.PlaceText.{local_text, local_ty, type_after, variant_name, opening, openings, closing, closings, place_text, operand_text}
use Rattle.mir_text.specs.StatementText.{binary_name, over_name, unary_name, variant_path, more_named, named_text, build_parts, build_text, tuple_text, pair_text, rvalue_text, stmt_text, stmt_line, stmts_text}
use Rattle.mir_text.specs.TermText.{block_name, callee_path, return_text, success_text, arms_text, expected_text, term_text, term_line, block_text, blocks_text}
use Rattle.mir_text.specs.Text.{local_decl, more_args, args_text, let_line, lets_text, body_text, inline_text, drop_text, header_text, function_text, gap_text, functions_text, field_ty_text, field_text, braced_text, fields_text, variant_text, variants_text, struct_text, shape_text, def_word, def_text, defs_text, outside_text, outsides_text, text}

-- ---- makers

abbrev pub of_local : ℕ → Place
of_local x = record { local = x; proj = [] }

abbrev pub at : ℕ → List Proj → Place
at x ps = record { local = x; proj = ps }

abbrev pub block : List TypedStmt → Term → TypedBlock
block ss t = record { stmts = ss; term = t }

abbrev pub fun : List ℕ → ℕ → List Tree → List TypedBlock → TypedFunction
fun path args locals blocks = record { path = path; inlining = inlining.Plain; is_drop = false; body = record { args = args; locals = locals; blocks = blocks } }

-- ---- a function that returns

abbrev pub returning : Crate
returning = record { defs = []; outsides = []; functions = fun (codes "f") 0 (empty ∷ []) (block [] term.Return ∷ []) ∷ [] }

text-of-returning : text returning ≡
    codes "fn f() -> () {\n" ++
    codes "    let mut _0: ();\n" ++
    codes "\n" ++
    codes "    bb0: {\n" ++
    codes "        return;\n" ++
    codes "    }\n" ++
    codes "}\n"
unfolding text defs_text def_text def_word shape_text struct_text variants_text variant_text fields_text braced_text field_text field_ty_text outsides_text outside_text functions_text gap_text function_text inline_text drop_text header_text args_text more_args body_text let_line lets_text local_decl local_text blocks_text block_text block_name stmts_text stmt_line stmt_text rvalue_text pair_text tuple_text build_text build_parts variant_path named_text more_named binary_name over_name unary_name term_line term_text arms_text expected_text return_text success_text callee_path operand_text place_text openings opening closings closing type_after variant_name local_ty const_text minus_text is_negative size_of type_text rest_text parts_text scalar_text int_name comma_list more_items piece shapes_of ◌>>=◌
text-of-returning = rw (decimal_digit 0 (omega arith)) refl

-- ---- a checked addition

abbrev pub i32 : Tree
i32 = scalar (scalar_ty.Int i.I32)

abbrev pub u32 : Tree
u32 = scalar (scalar_ty.Int i.U32)

abbrev pub u8 : Tree
u8 = scalar (scalar_ty.Int i.U8)

abbrev pub bool : Tree
bool = scalar scalar_ty.Bool

abbrev added : TypedBlock
added = block
    (C.assign (of_local 3) (C.overflow over.Add (operand.Copy (of_local 1)) (operand.Copy (of_local 2))) ∷ [])
    (term.Assert (operand.Move (at 3 (Field 1 ∷ []))) false (codes "attempt to compute `{} + {}`, which would overflow")
    (operand.Copy (of_local 1) ∷ operand.Copy (of_local 2) ∷ []) 1)

abbrev taken : TypedBlock
taken = block (C.assign (of_local 0) (C.«use» (operand.Move (at 3 (Field 0 ∷ [])))) ∷ []) term.Return

abbrev pub adding : Crate
adding = record { defs = []; outsides = []; functions = fun (codes "add") 2 (i32 ∷ i32 ∷ i32 ∷ more i32 (more bool empty) ∷ []) (added ∷ taken ∷ []) ∷ [] }

text-of-adding : text adding ≡
    codes "fn add(_1: i32, _2: i32) -> i32 {\n" ++
    codes "    let mut _0: i32;\n" ++
    codes "    let mut _3: (i32, bool);\n" ++
    codes "\n" ++
    codes "    bb0: {\n" ++
    codes "        _3 = AddWithOverflow(copy _1, copy _2);\n" ++
    codes "        assert(!move (_3.1: bool), \"attempt to compute `{} + {}`, which would overflow\", copy _1, copy _2) -> [success: bb1, unwind unreachable];\n" ++
    codes "    }\n" ++
    codes "\n" ++
    codes "    bb1: {\n" ++
    codes "        _0 = move (_3.0: i32);\n" ++
    codes "        return;\n" ++
    codes "    }\n" ++
    codes "}\n"
unfolding text defs_text def_text def_word shape_text struct_text variants_text variant_text fields_text braced_text field_text field_ty_text outsides_text outside_text functions_text gap_text function_text inline_text drop_text header_text args_text more_args body_text let_line lets_text local_decl local_text blocks_text block_text block_name stmts_text stmt_line stmt_text rvalue_text pair_text tuple_text build_text build_parts variant_path named_text more_named binary_name over_name unary_name term_line term_text arms_text expected_text return_text success_text callee_path operand_text place_text openings opening closings closing type_after variant_name local_ty const_text minus_text is_negative size_of type_text rest_text parts_text scalar_text int_name comma_list more_items piece shapes_of ◌>>=◌
text-of-adding = rw (decimal_digit 0 (omega arith), decimal_digit 1 (omega arith), decimal_digit 2 (omega arith), decimal_digit 3 (omega arith)) refl

-- ---- a struct with a reference to itself

abbrev node_def : TypedDef
node_def = record {
  path = codes "N";
  is_enum = false;
  variants = record {
    name = [];
    form = form.Named;
    fields = record { name = codes "v"; ty = i32 } ∷ record { name = codes "next"; ty = ref (named 0) } ∷ [];
  } ∷ [];
}

abbrev walked : TypedBlock
walked = block
    (C.assign (of_local 2) (C.«use» (operand.Copy (at 1 (Deref ∷ [])))) ∷
    C.assign (of_local 2) (C.«use» (operand.Copy (at 2 (Field 1 ∷ Deref ∷ [])))) ∷
    C.assign (of_local 0) (C.«use» (operand.Copy (at 2 (Field 0 ∷ [])))) ∷ [])
    term.Return

abbrev pub walking : Crate
walking = record { defs = node_def ∷ []; outsides = []; functions = fun (codes "h") 1 (i32 ∷ ref (named 0) ∷ named 0 ∷ []) (walked ∷ []) ∷ [] }

abbrev pub walking_text : List ℕ
walking_text =
    codes "struct N { v: i32, next: &N }\n" ++
    codes "\n" ++
    codes "fn h(_1: &N) -> i32 {\n" ++
    codes "    let mut _0: i32;\n" ++
    codes "    let mut _2: N;\n" ++
    codes "\n" ++
    codes "    bb0: {\n" ++
    codes "        _2 = copy (*_1);\n" ++
    codes "        _2 = copy (*(_2.1: &N));\n" ++
    codes "        _0 = copy (_2.0: i32);\n" ++
    codes "        return;\n" ++
    codes "    }\n" ++
    codes "}\n"

text-of-walking : text walking ≡ walking_text
unfolding text defs_text def_text def_word shape_text struct_text variants_text variant_text fields_text braced_text field_text field_ty_text outsides_text outside_text functions_text gap_text function_text inline_text drop_text header_text args_text more_args body_text let_line lets_text local_decl local_text blocks_text block_text block_name stmts_text stmt_line stmt_text rvalue_text pair_text tuple_text build_text build_parts variant_path named_text more_named binary_name over_name unary_name term_line term_text arms_text expected_text return_text success_text callee_path operand_text place_text openings opening closings closing type_after variant_name local_ty const_text minus_text is_negative size_of type_text rest_text parts_text scalar_text int_name comma_list more_items piece shapes_of ◌>>=◌
text-of-walking = rw (decimal_digit 0 (omega arith), decimal_digit 1 (omega arith), decimal_digit 2 (omega arith)) refl

-- ---- a value that is moved on one arm

abbrev guard_def : TypedDef
guard_def = record {
  path = codes "G";
  is_enum = false;
  variants = record { name = []; form = form.Tuple; fields = record { name = []; ty = u32 } ∷ [] } ∷ [];
}

abbrev note_fn : TypedOutside
note_fn = record { path = codes "note"; args = u32 ∷ []; result = empty }

abbrev to_local : ℕ → Callee
to_local f = callee.Local (record { 0 = f })

abbrev to_outside : ℕ → Callee
to_outside o = callee.Outside (record { 0 = o })

abbrev just_returns : TypedBlock
just_returns = block [] term.Return

abbrev drop_g : TypedFunction
drop_g = record {
  path = codes "drop_g";
  inlining = inlining.Plain;
  is_drop = true;
  body = record {
    args = 1;
    locals = empty ∷ ref_mut (named 0) ∷ [];
    blocks = block [] (term.Call (of_local 0) (to_outside 0) (operand.Copy (at 1 (Deref ∷ Field 0 ∷ [])) ∷ []) 1) ∷ just_returns ∷ [];
  };
}

abbrev eat : TypedFunction
eat = record {
  path = codes "eat";
  inlining = inlining.Never;
  is_drop = false;
  body = record { args = 1; locals = empty ∷ named 0 ∷ []; blocks = block [] (term.Drop (of_local 1) 1) ∷ just_returns ∷ [] };
}

abbrev moves : TypedFunction
moves = fun (codes "f") 1 (empty ∷ bool ∷ named 0 ∷ empty ∷ [])
    (block (C.assign (of_local 2) (C.build 0 0 (operand.Const (const.Int i.U32 7) ∷ [])) ∷ [])
    (term.Switch (operand.Copy (of_local 1)) (record { value = 0; block = 2 } ∷ []) 1) ∷
    block [] (term.Call (of_local 3) (to_local 1) (operand.Move (of_local 2) ∷ []) 2) ∷
    block [] (term.Drop (of_local 2) 3) ∷
    just_returns ∷ [])

abbrev pub moving : Crate
moving = record { defs = guard_def ∷ []; outsides = note_fn ∷ []; functions = drop_g ∷ eat ∷ moves ∷ [] }

abbrev pub moving_text : List ℕ
moving_text =
    codes "struct G(u32);\n" ++
    codes "extern fn note(u32) -> ();\n" ++
    codes "\n" ++
    codes "drop fn drop_g(_1: &mut G) -> () {\n" ++
    codes "    let mut _0: ();\n" ++
    codes "\n" ++
    codes "    bb0: {\n" ++
    codes "        _0 = note(copy ((*_1).0: u32)) -> [return: bb1, unwind unreachable];\n" ++
    codes "    }\n" ++
    codes "\n" ++
    codes "    bb1: {\n" ++
    codes "        return;\n" ++
    codes "    }\n" ++
    codes "}\n" ++
    codes "\n" ++
    codes "#[inline(never)]\n" ++
    codes "fn eat(_1: G) -> () {\n" ++
    codes "    let mut _0: ();\n" ++
    codes "\n" ++
    codes "    bb0: {\n" ++
    codes "        drop(_1) -> [return: bb1, unwind unreachable];\n" ++
    codes "    }\n" ++
    codes "\n" ++
    codes "    bb1: {\n" ++
    codes "        return;\n" ++
    codes "    }\n" ++
    codes "}\n" ++
    codes "\n" ++
    codes "fn f(_1: bool) -> () {\n" ++
    codes "    let mut _0: ();\n" ++
    codes "    let mut _2: G;\n" ++
    codes "    let mut _3: ();\n" ++
    codes "\n" ++
    codes "    bb0: {\n" ++
    codes "        _2 = G(const 7_u32);\n" ++
    codes "        switchInt(copy _1) -> [0: bb2, otherwise: bb1];\n" ++
    codes "    }\n" ++
    codes "\n" ++
    codes "    bb1: {\n" ++
    codes "        _3 = eat(move _2) -> [return: bb2, unwind unreachable];\n" ++
    codes "    }\n" ++
    codes "\n" ++
    codes "    bb2: {\n" ++
    codes "        drop(_2) -> [return: bb3, unwind unreachable];\n" ++
    codes "    }\n" ++
    codes "\n" ++
    codes "    bb3: {\n" ++
    codes "        return;\n" ++
    codes "    }\n" ++
    codes "}\n"

text-of-moving : text moving ≡ moving_text
unfolding text defs_text def_text def_word shape_text struct_text variants_text variant_text fields_text braced_text field_text field_ty_text outsides_text outside_text functions_text gap_text function_text inline_text drop_text header_text args_text more_args body_text let_line lets_text local_decl local_text blocks_text block_text block_name stmts_text stmt_line stmt_text rvalue_text pair_text tuple_text build_text build_parts variant_path named_text more_named binary_name over_name unary_name term_line term_text arms_text expected_text return_text success_text callee_path operand_text place_text openings opening closings closing type_after variant_name local_ty const_text minus_text is_negative size_of type_text rest_text parts_text scalar_text int_name comma_list more_items piece shapes_of ◌>>=◌
text-of-moving = rw (decimal_digit 0 (omega arith), decimal_digit 1 (omega arith), decimal_digit 2 (omega arith), decimal_digit 3 (omega arith), decimal_digit 7 (omega arith)) refl

-- ---- a switch on the variant of an enum

abbrev either_def : TypedDef
either_def = record {
  path = codes "E";
  is_enum = true;
  variants =
      record { name = codes "A"; form = form.Unit; fields = [] } ∷
      record { name = codes "B"; form = form.Tuple; fields = record { name = []; ty = u8 } ∷ [] } ∷ [];
}

abbrev looks : TypedFunction
looks = fun (codes "k") 1 (u8 ∷ named 0 ∷ scalar (scalar_ty.Int i.Isize) ∷ [])
    (block (C.assign (of_local 2) (C.discriminant (of_local 1)) ∷ [])
    (term.Switch (operand.Move (of_local 2)) (record { value = 0; block = 1 } ∷ record { value = 1; block = 2 } ∷ []) 3) ∷
    block (C.assign (of_local 0) (C.«use» (operand.Const (const.Int i.U8 0))) ∷ []) (term.Goto 4) ∷
    block (C.assign (of_local 0) (C.«use» (operand.Copy (at 1 (Downcast 1 ∷ Field 0 ∷ [])))) ∷ []) (term.Goto 4) ∷
    block [] term.Unreachable ∷
    just_returns ∷ [])

abbrev pub looking : Crate
looking = record { defs = either_def ∷ []; outsides = []; functions = looks ∷ [] }

abbrev pub looking_text : List ℕ
looking_text =
    codes "enum E { A, B(u8) }\n" ++
    codes "\n" ++
    codes "fn k(_1: E) -> u8 {\n" ++
    codes "    let mut _0: u8;\n" ++
    codes "    let mut _2: isize;\n" ++
    codes "\n" ++
    codes "    bb0: {\n" ++
    codes "        _2 = discriminant(_1);\n" ++
    codes "        switchInt(move _2) -> [0: bb1, 1: bb2, otherwise: bb3];\n" ++
    codes "    }\n" ++
    codes "\n" ++
    codes "    bb1: {\n" ++
    codes "        _0 = const 0_u8;\n" ++
    codes "        goto -> bb4;\n" ++
    codes "    }\n" ++
    codes "\n" ++
    codes "    bb2: {\n" ++
    codes "        _0 = copy ((_1 as B).0: u8);\n" ++
    codes "        goto -> bb4;\n" ++
    codes "    }\n" ++
    codes "\n" ++
    codes "    bb3: {\n" ++
    codes "        unreachable;\n" ++
    codes "    }\n" ++
    codes "\n" ++
    codes "    bb4: {\n" ++
    codes "        return;\n" ++
    codes "    }\n" ++
    codes "}\n"

text-of-looking : text looking ≡ looking_text
unfolding text defs_text def_text def_word shape_text struct_text variants_text variant_text fields_text braced_text field_text field_ty_text outsides_text outside_text functions_text gap_text function_text inline_text drop_text header_text args_text more_args body_text let_line lets_text local_decl local_text blocks_text block_text block_name stmts_text stmt_line stmt_text rvalue_text pair_text tuple_text build_text build_parts variant_path named_text more_named binary_name over_name unary_name term_line term_text arms_text expected_text return_text success_text callee_path operand_text place_text openings opening closings closing type_after variant_name local_ty const_text minus_text is_negative size_of type_text rest_text parts_text scalar_text int_name comma_list more_items piece shapes_of ◌>>=◌
text-of-looking = rw (decimal_digit 0 (omega arith), decimal_digit 1 (omega arith), decimal_digit 2 (omega arith), decimal_digit 3 (omega arith), decimal_digit 4 (omega arith)) refl
