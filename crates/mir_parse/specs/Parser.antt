-- Parsing in steps: what is found at the front of symbols and what is left of them, or the first fault. These definitions follow the code;
-- no public promise rests on them alone, since the laws in proofs/ join them to the grammar.
use Rattle.std.specs.Prelude.{◌≡◌, List, Result, Ok, Err}
use Rattle.mir_text.specs.declared.symbol.Symbol.{Symbol}
use Rattle.mir_parse.specs.declared.fault.SyntaxFault.{SyntaxFault}
use Rattle.mir_parse.specs.declared.fault.ParseRefused.{ParseRefused}
use Rattle.mir_parse.specs.declared.fault.ParseRefused.TheVariants as refused

abbrev pub Found : Type 0 → Type 0
Found A = Result (A × List Symbol) SyntaxFault

abbrev pub Parse : Type 0 → Type 0
Parse A = List Symbol → Found A

abbrev pub and_then : {A B : Type 0} → Found A → (A → Parse B) → Found B
and_then (Ok p) f = f p.0 p.1
and_then (Err e) f = Err e

-- what a call answered is a fault only where parsing gives that fault
abbrev pub Fails : {A : Type 0} → ParseRefused → Found A → Type 0
Fails refused.OutOfMemory found = Unit {0}
Fails (refused.Fault fault) found = found ≡ Err fault

-- what a call answered, seen by a view, is what parsing gives, unless memory ran out
abbrev pub Gives : {X A : Type 0} → (X → A × List Symbol) → Result X ParseRefused → Found A → Type 0
Gives view (Ok x) found = found ≡ Ok (view x)
Gives view (Err e) found = Fails e found

-- what a call answered is the value, unless memory ran out
abbrev pub GivesValue : {X : Type 0} → Result X ParseRefused → X → Type 0
GivesValue (Ok x) value = value ≡ x
GivesValue (Err e) value = e ≡ refused.OutOfMemory
