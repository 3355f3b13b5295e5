-- Texts of calls.
use Rattle.std.proofs.Common.{◌≡◌, ℕ, zero, suc, ◌+◌, ◌<◌, ◌≤◌, min, List, [], ◌∷◌, ◌++◌, map, length, take, get_or, slice_get, Some, refl, sym, ap, ◌∙◌, add-one, append_assoc, arith}
use Rattle.std.proofs.lemmas.List.{take_more, take_all, reverse-append, map-append}
use Rattle.mir_semantics.specs.Step.{Code}
use Rattle.mir_syntax.specs.declared.number.Number.{Number}
use Rattle.mir_syntax.specs.declared.types.TyId.{TyId}
use Rattle.mir_syntax.specs.declared.types.Outside.{Outside}
use Rattle.mir_syntax.specs.declared.program.Program.{Program}
use Rattle.mir_syntax.specs.Tree.{Tree, trees_of}
use Rattle.mir_syntax.specs.Crate.{outside_of}
use Rattle.mir_machine.specs.declared.machine.Called.{Called}
use Rattle.mir_machine.specs.Seen.{code_in, called_as}
use Rattle.mir_machine.specs.Ends.{integer_in, trace_in}
use Rattle.mir_machine.proofs.Ending.{outside_there}
use Rattle.run_text.specs.RunText.{arguments, integer_at, call_of, call_text, calls_text}

-- the line of a call of an outside function that a program has
pub call_there : (p : Program) (c : Called) (out : Outside) → slice_get p.outsides c.out.0 ≡ Some out → call_text (code_in p) (called_as c) ≡ call_of (Some (outside_of (trees_of p.types) out)) (called_as c)
call_there p c out e = ap (λ o. call_of o (called_as c)) (outside_there p c.out.0 out e)

-- the newest of some calls stands first in their trace
newest_first : (calls : List Called) (k : ℕ) (d : Called) → k < length calls → trace_in (take (k + 1) calls) ≡ called_as (get_or calls k d) ∷ trace_in (take k calls)
newest_first calls k d h = ap trace_in (take_more calls k d h) ∙ ap (map called_as) (reverse-append (take k calls) (get_or calls k d ∷ []))

-- one more call, whose line comes last
one_more_call : (C : Code) (calls : List Called) (k : ℕ) (d : Called) → k < length calls
    → calls_text C (trace_in (take (k + 1) calls)) ≡ calls_text C (trace_in (take k calls)) ++ call_text C (called_as (get_or calls k d))
one_more_call C calls k d h = ap (calls_text C) (newest_first calls k d h)

-- a line is put at the end
pub line_put : (C : Code) (calls : List Called) (k : ℕ) (call : Called) (start : List ℕ) {now next : List ℕ} → k < length calls → call ≡ get_or calls k call
    → now ≡ start ++ calls_text C (trace_in (take k calls)) → next ≡ now ++ call_text C (called_as call)
    → next ≡ start ++ calls_text C (trace_in (take (k + 1) calls))
line_put C calls k call start h is e f =
    let older = calls_text C (trace_in (take k calls)) in
    f ∙ (ap (λ t. t ++ call_text C (called_as call)) e ∙ (append_assoc start older (call_text C (called_as call))
    ∙ ap (λ t. start ++ t) (ap (λ c. older ++ call_text C (called_as c)) is ∙ sym (one_more_call C calls k call h))))

pub lines_put : (C : Code) (calls : List Called) (k : ℕ) (start : List ℕ) {now : List ℕ} → length calls ≤ k
    → now ≡ start ++ calls_text C (trace_in (take k calls)) → now ≡ start ++ calls_text C (trace_in calls)
lines_put C calls k start h e = e ∙ ap (λ cs. start ++ calls_text C (trace_in cs)) (take_all k calls h)

-- ---- arguments

-- one more argument
arguments_more : (f : TyId → Tree) (types : List TyId) (bits : List ℕ) (k : ℕ) (t : TyId) (b : ℕ) → k < length types → k < length bits
    → arguments (map f (take (k + 1) types)) (take (k + 1) bits) ≡ arguments (map f (take k types)) (take k bits) ++ integer_at (f (get_or types k t)) (get_or bits k b) ∷ []
arguments_more f types bits k t b h i = rw add-one (go types bits k h i)
  where
    go : (types : List TyId) (bits : List ℕ) (k : ℕ) → k < length types → k < length bits
        → arguments (map f (take (suc k) types)) (take (suc k) bits) ≡ arguments (map f (take k types)) (take k bits) ++ integer_at (f (get_or types k t)) (get_or bits k b) ∷ []
    go [] bs k h i = absurd (omega arith)
    go (u ∷ us) [] k h i = absurd (omega arith)
    go (u ∷ us) (c ∷ cs) zero h i = refl
    go (u ∷ us) (c ∷ cs) (suc k) h i = ap (λ l. integer_at (f u) c ∷ l) (go us cs k (omega arith) (omega arith))

pub argument_put : (f : TyId → Tree) (types : List TyId) (bits : List ℕ) (k n : ℕ) (t : TyId) (b : ℕ) (numbers : List Number) (x : Number) {new : List Number} → n ≡ k + 1
    → (k < length types) × (k < length bits) × ((d : TyId) → t ≡ get_or types k d) × ((d : ℕ) → b ≡ get_or bits k d)
    → map integer_in numbers ≡ arguments (map f (take k types)) (take k bits) → integer_in x ≡ integer_at (f t) b → new ≡ numbers ++ x ∷ []
    → map integer_in new ≡ arguments (map f (take n types)) (take n bits)
argument_put f types bits k n t b numbers x long turn e is push =
    let so_far = arguments (map f (take k types)) (take k bits) in
    ap (map integer_in) push ∙ (map-append integer_in numbers (x ∷ []) ∙ (ap (λ l. l ++ integer_in x ∷ []) e
    ∙ (ap (λ i. so_far ++ i ∷ []) (is ∙ (ap (λ u. integer_at (f u) b) (turn.2 t) ∙ ap (integer_at (f (get_or types k t))) (turn.3 b)))
    ∙ (sym (arguments_more f types bits k t b turn.0 turn.1) ∙ ap (λ j. arguments (map f (take j types)) (take j bits)) (sym long)))))

pub arguments_all : (f : TyId → Tree) (types : List TyId) (bits : List ℕ) (k : ℕ) → k ≡ min (length types) (length bits)
    → arguments (map f (take k types)) (take k bits) ≡ arguments (map f types) bits
arguments_all f [] bits zero e = refl
arguments_all f [] bits (suc k) e = absurd (omega (arith, e))
arguments_all f (t ∷ ts) [] zero e = refl
arguments_all f (t ∷ ts) [] (suc k) e = absurd (omega (arith, e))
arguments_all f (t ∷ ts) (b ∷ bs) zero e = absurd (omega (arith, e))
arguments_all f (t ∷ ts) (b ∷ bs) (suc k) e = ap (λ l. integer_at (f t) b ∷ l) (arguments_all f ts bs k (omega (arith, e)))
