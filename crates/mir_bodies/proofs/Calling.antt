-- What a path calls.
use Rattle.std.proofs.Common.{◌≡◌, ℕ, List, Option, Some, None, refl}
use Rattle.std.specs.Option.{unwrap_or}
use Rattle.mir_syntax.specs.declared.body.Callee.{Callee}
use Rattle.mir_syntax.specs.declared.body.Callee.TheVariants as callee
use Rattle.mir_text.specs.GrammarTypes.{PathRule}
use Rattle.mir_text.specs.Words.{place_in}
use Rattle.mir_text.specs.Names.{Names, path_bytes}
use Rattle.mir_text.specs.NamedBodies.{function_or, called_by, or_first_function}

pub first_or : (o : Option Callee) → unwrap_or o (callee.Local (record { 0 = 0 })) ≡ or_first_function o
first_or None = refl
first_or (Some f) = refl

pub called_same : (names : Names) (strings functions outsides : List (List ℕ)) (rule : PathRule) → names.strings ≡ strings → names.functions ≡ functions → names.outsides ≡ outsides
    → function_or (place_in functions (path_bytes strings rule)) (place_in outsides (path_bytes strings rule)) ≡ called_by names rule
called_same names strings functions outsides rule s f o = rw (s, f, o) refl
