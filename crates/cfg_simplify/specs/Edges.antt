-- Terminators with their edges led elsewhere.
use Rattle.std.specs.Prelude.{ℕ, map, Option, Some, None}
use Rattle.mir_syntax.specs.declared.body.Arm.{Arm}
use Rattle.mir_syntax.specs.declared.body.Term.{Term}
use Rattle.mir_syntax.specs.declared.body.Term.TheVariants.{Goto, Switch, Return, Unreachable, Drop, Call, Assert}

-- an arm with its edge led elsewhere
abbrev pub retarget_arm : (ℕ → ℕ) → Arm → Arm
retarget_arm f a = record { value = a.value; block = f a.block }

-- a terminator with its edges led elsewhere
abbrev pub retarget : (ℕ → ℕ) → Term → Term
retarget f (Goto b) = Goto (f b)
retarget f (Switch x arms b) = Switch x (map (retarget_arm f) arms) (f b)
retarget f Return = Return
retarget f Unreachable = Unreachable
retarget f (Drop p b) = Drop p (f b)
retarget f (Call p callee xs b) = Call p callee xs (f b)
retarget f (Assert x expected text xs b) = Assert x expected text xs (f b)

-- where a goto leads
abbrev pub goto_block : Term → Option ℕ
goto_block (Goto b) = Some b
goto_block _ = None
