-- What is shown of a run: a line for each call of an outside function, the oldest first, and a line for how the run stands.
use Rattle.std.specs.Prelude.{ℕ, List, [], ◌∷◌, ◌++◌, codes, Option, Some, None, slice_get, ℤ, pos}
use Rattle.std.specs.Fmt.{signed_decimal}
use Rattle.mir_syntax.specs.declared.types.ScalarTy.{ScalarTy}
use Rattle.mir_syntax.specs.Tree.{Tree}
use Rattle.mir_syntax.specs.Crate.{TypedOutside}
use Rattle.mir_num.specs.Numbers.{integer_of}
use Rattle.mir_semantics.specs.Step.{Code, Called, Outcome, returned, aborted, no_answer, scalar_in}
use Rattle.mir_semantics.specs.Run.{Seen, going, ended, undefined}
use Rattle.mir_semantics.specs.Entry.{flat}

-- ---- integers

-- a comma and a space stand between two
abbrev pub integers_text : List ℤ → List ℕ
integers_text [] = []
integers_text (i ∷ []) = signed_decimal i
integers_text (i ∷ j ∷ is) = signed_decimal i ++ (codes ", " ++ integers_text (j ∷ is))

-- behind a word: nothing, or a space and the integers
abbrev pub behind_word : List ℤ → List ℕ
behind_word [] = []
behind_word (i ∷ is) = codes " " ++ integers_text (i ∷ is)

-- ---- calls

abbrev pub integer_by : Option ScalarTy → ℕ → ℤ
integer_by None bits = pos bits
integer_by (Some s) bits = integer_of s bits

-- the integer that bits of a scalar type stand for
abbrev pub integer_at : Tree → ℕ → ℤ
integer_at t bits = integer_by (scalar_in t) bits

abbrev pub arguments : List Tree → List ℕ → List ℤ
arguments [] bits = []
arguments (t ∷ ts) [] = []
arguments (t ∷ ts) (b ∷ bs) = integer_at t b ∷ arguments ts bs

-- `()` takes no answer
abbrev pub answer_text : Tree → Option ℕ → List ℕ
answer_text t None = codes "()"
answer_text t (Some bits) = signed_decimal (integer_at t bits)

abbrev pub call_of : Option TypedOutside → Called → List ℕ
call_of None c = []
call_of (Some o) c =
    codes "call " ++ (o.path ++ (codes "(" ++ (integers_text (arguments o.args c.args) ++ (codes ") = " ++ (answer_text o.result c.answer ++ codes "\n")))))

abbrev pub call_text : Code → Called → List ℕ
call_text C c = call_of (slice_get C.outsides c.outside) c

-- the newest call comes first in a trace, and last in the text
abbrev pub calls_text : Code → List Called → List ℕ
calls_text C [] = []
calls_text C (c ∷ older) = calls_text C older ++ call_text C c

-- ---- how a run stands

-- a value in its flat form; nothing of what is no value of its type
abbrev pub flat_text : Option (List ℤ) → List ℕ
flat_text None = []
flat_text (Some is) = behind_word is

abbrev pub outcome_text : Code → Tree → Outcome → List ℕ
outcome_text C t (returned v) = codes "returned" ++ (flat_text (flat C.shapes t v) ++ codes "\n")
outcome_text C t (aborted text is) = codes "aborted \"" ++ (text ++ (codes "\"" ++ (behind_word is ++ codes "\n")))
outcome_text C t no_answer = codes "no answer\n"

-- what is shown of a run of a function with this result
abbrev pub run_text : Code → Tree → Seen → List ℕ
run_text C t (going calls) = calls_text C calls ++ codes "going\n"
run_text C t (ended calls o) = calls_text C calls ++ outcome_text C t o
run_text C t (undefined calls) = calls_text C calls ++ codes "undefined\n"
