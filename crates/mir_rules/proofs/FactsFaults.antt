-- The fault that is answered, on small crates.
use Rattle.std.proofs.Common.{◌≡◌, refl, ℕ, true, [], ◌∷◌, Option, Some, None}
use Rattle.mir_syntax.specs.declared.body.Term.TheVariants as term
use Rattle.mir_syntax.specs.declared.body.BinOp.TheVariants as bin_op
use Rattle.mir_syntax.specs.declared.lines.Lines.{Lines}
use Rattle.mir_syntax.specs.Tree.{ref}
use Rattle.mir_syntax.specs.Crate.{binary, assign, storage_live, Crate}
use Rattle.mir_text.specs.NameFaults.{first_fault}
use Rattle.mir_rules.specs.Broken.{outside, statement, terminator, broken}
use Rattle.mir_rules.specs.Faults.{line_at, lines_fit, first_rule, first_limit}
use Rattle.mir_rules.proofs.Examples.{Open, u8, bool, l, copy, five, block, fun, outside_of_u8}

-- an outside function whose argument is a reference, and a function whose second statement adds what can't be added and that goes to bb0
abbrev three_faults : Crate
three_faults = record {
  defs = [];
  outsides = outside_of_u8 (ref u8 ∷ []) u8 ∷ [];
  functions = fun 0 (u8 ∷ bool ∷ []) (block (storage_live 1 ∷ assign (l 1) (binary bin_op.Add (copy 1) five) ∷ []) (term.Goto 0) ∷ []) ∷ [];
}

-- the lines of its text, the outside function standing at the end of the file
abbrev lines_of_it : Option ℕ → Lines
lines_of_it wrong_field = record {
  defs = [];
  outsides = 12 ∷ [];
  functions = record { head = 1; locals = 2 ∷ 3 ∷ []; blocks = record { stmts = 6 ∷ 7 ∷ []; term = 8 } ∷ [] } ∷ [];
  wrong_field = wrong_field;
}

lines_have_its_shape : lines_fit (lines_of_it None) three_faults ≡ true
unfolding lines_fit
lines_have_its_shape = refl

three_rules_are_broken : broken three_faults ≡ (outside 0, 2) ∷ (statement 0 0 1, 9) ∷ (terminator 0 0, 5) ∷ []
unfolding Open
three_rules_are_broken = refl

-- the first line is answered, and not the least code
first_line_is_answered : first_rule (lines_of_it None) three_faults ≡ Some (7, 9)
unfolding Open line_at first_rule
first_line_is_answered = refl

-- a written type that isn't the field's stands on an earlier line
wrong_field_joins_in : first_rule (lines_of_it (Some 6)) three_faults ≡ Some (6, 7)
unfolding Open line_at first_rule
wrong_field_joins_in = refl

-- on one line the least code
least_code_of_a_line : first_rule (lines_of_it (Some 7)) three_faults ≡ Some (7, 7)
unfolding Open line_at first_rule
least_code_of_a_line = refl

-- of limits the least code, and not the first line
least_limit_is_answered : first_fault ((5, 3) ∷ (4, 9) ∷ (4, 8) ∷ []) ≡ Some (4, 8)
least_limit_is_answered = refl

no_limit_is_passed : first_limit (lines_of_it None) three_faults ≡ None
unfolding Open line_at first_limit
no_limit_is_passed = refl
