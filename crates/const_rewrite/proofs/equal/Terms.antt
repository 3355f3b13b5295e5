-- What becomes of a terminator.
use Rattle.std.proofs.Common.{◌≡◌, refl, sym, ap, ◌∙◌, ℕ, Bool, true, false, if◌then◌else◌, List, map, Some, None}
use Rattle.mir_syntax.specs.declared.body.Operand.{Operand}
use Rattle.mir_syntax.specs.declared.body.Place.{Place}
use Rattle.mir_syntax.specs.declared.body.Callee.{Callee}
use Rattle.mir_syntax.specs.declared.body.Arm.{Arm}
use Rattle.mir_syntax.specs.declared.body.Term.TheVariants.{Goto, Switch, Return, Unreachable, Drop, Call, Assert}
use Rattle.mir_semantics.specs.Step.{Here, take_arm}
use Rattle.const_flow.specs.declared.cell.Cell.{Cell}
use Rattle.const_flow.specs.declared.cell.Cell.TheVariants.{Nothing, Num, Many}
use Rattle.const_flow.specs.Facts.{known}
use Rattle.const_flow.specs.Cells.{told}
use Rattle.const_flow.specs.ConstAt.{Reached}
use Rattle.const_rewrite.specs.Folded.{switch_or, as_expected, folded_operand, folded_operands, folded_term}
use Rattle.const_rewrite.specs.Points.{where_reached, number_told, number_at, is_flag}
use Rattle.const_rewrite.proofs.equal.Found.{none_reached, some_reached}

number_goes : (k : Cell) (o : Operand) (arms : List Arm) (other n : ℕ) → Some n ≡ number_told (told (Some k)) → Goto (take_arm n arms other) ≡ switch_or k o arms other
number_goes (Num m) o arms other n e = let same : n ≡ m = cc in ap (λ n. Goto (take_arm n arms other)) same
number_goes Nothing o arms other n e = absurd cc
number_goes Many o arms other n e = absurd cc

number_stays : (k : Cell) (o : Operand) (arms : List Arm) (other : ℕ) → None ≡ number_told (told (Some k)) → Switch o arms other ≡ switch_or k o arms other
number_stays (Num m) o arms other e = absurd cc
number_stays Nothing o arms other e = refl
number_stays Many o arms other e = refl

none_told : (n : ℕ) → Some n ≡ number_told (told None) → ⊥
none_told n e = absurd cc

pub switch_goes : (h : Here) (x : Reached) (o : Operand) (arms : List Arm) (other n : ℕ) → Some n ≡ number_at x o → Goto (take_arm n arms other) ≡ where_reached (folded_term h) x (Switch o arms other)
unfolding folded_term
switch_goes h None o arms other n e = absurd (none_told n e)
switch_goes h (Some fs) o arms other n e = number_goes (known fs o) o arms other n e

pub switch_stays : (h : Here) (x : Reached) (o : Operand) (arms : List Arm) (other : ℕ) → None ≡ number_at x o → Switch o arms other ≡ where_reached (folded_term h) x (Switch o arms other)
unfolding folded_term
switch_stays h None o arms other e = refl
switch_stays h (Some fs) o arms other e = number_stays (known fs o) o arms other e

flag_is : (e : Bool) (k : Cell) → is_flag e (number_told (told (Some k))) ≡ as_expected e k
flag_is e (Num n) = refl
flag_is e Nothing = refl
flag_is e Many = refl

no_flag : (e : Bool) → is_flag e (number_told (told None)) ≡ true → ⊥
no_flag e h = absurd cc

pub assert_goes : (h : Here) (x : Reached) (o : Operand) (e : Bool) (text : List ℕ) (os : List Operand) (b : ℕ) → is_flag e (number_at x o) ≡ true
    → Goto b ≡ where_reached (folded_term h) x (Assert o e text os b)
unfolding folded_term
assert_goes h None o e text os b holds = absurd (no_flag e holds)
assert_goes h (Some fs) o e text os b holds = sym (ap (λ t. if t then Goto b else Assert (folded_operand h fs o) e text (folded_operands h fs os) b) (sym (flag_is e (known fs o)) ∙ holds))

pub assert_stays : (h : Here) (x : Reached) (o : Operand) (e : Bool) (text : List ℕ) (os : List Operand) (b : ℕ) → is_flag e (number_at x o) ≡ false
    → Assert (where_reached (folded_operand h) x o) e text (map (where_reached (folded_operand h) x) os) b ≡ where_reached (folded_term h) x (Assert o e text os b)
unfolding folded_term
assert_stays h None o e text os b holds = ap (λ os. Assert o e text os b) (none_reached h os)
assert_stays h (Some fs) o e text os b holds =
    ap (λ os. Assert (folded_operand h fs o) e text os b) (some_reached h fs os)
    ∙ sym (ap (λ t. if t then Goto b else Assert (folded_operand h fs o) e text (folded_operands h fs os) b) (sym (flag_is e (known fs o)) ∙ holds))

pub call_is : (h : Here) (x : Reached) (p : Place) (f : Callee) (os : List Operand) (b : ℕ) → Call p f (map (where_reached (folded_operand h) x) os) b ≡ where_reached (folded_term h) x (Call p f os b)
unfolding folded_term
call_is h None p f os b = ap (λ os. Call p f os b) (none_reached h os)
call_is h (Some fs) p f os b = ap (λ os. Call p f os b) (some_reached h fs os)

pub goto_is : (h : Here) (x : Reached) (b : ℕ) → Goto b ≡ where_reached (folded_term h) x (Goto b)
unfolding folded_term
goto_is h None b = refl
goto_is h (Some fs) b = refl

pub return_is : (h : Here) (x : Reached) → Return ≡ where_reached (folded_term h) x Return
unfolding folded_term
return_is h None = refl
return_is h (Some fs) = refl

pub unreachable_is : (h : Here) (x : Reached) → Unreachable ≡ where_reached (folded_term h) x Unreachable
unfolding folded_term
unreachable_is h None = refl
unreachable_is h (Some fs) = refl

pub drop_is : (h : Here) (x : Reached) (p : Place) (b : ℕ) → Drop p b ≡ where_reached (folded_term h) x (Drop p b)
unfolding folded_term
drop_is h None p b = refl
drop_is h (Some fs) p b = refl
