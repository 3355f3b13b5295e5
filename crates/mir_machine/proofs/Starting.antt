-- The start of a run.
use Rattle.std.proofs.Common.{◌≡◌, sym, ap, subst, ◌∙◌, ℕ, suc, List, [], ◌∷◌, map, Some, None, slice_get, arith}
use Rattle.std.specs.Prelude.{reverse}
use Rattle.mir_syntax.specs.declared.program.Program.{Program}
use Rattle.mir_syntax.specs.declared.body.Function.{Function}
use Rattle.mir_syntax.specs.Tree.{trees_of}
use Rattle.mir_syntax.specs.Crate.{body_of}
use Rattle.mir_semantics.specs.Values.{Value}
use Rattle.mir_semantics.specs.Memory as sem
use Rattle.mir_semantics.specs.Memory.{open_frame}
use Rattle.mir_semantics.specs.Step as step
use Rattle.mir_semantics.specs.Step.{new_slots}
use Rattle.mir_semantics.specs.Run.{slots_at, start}
use Rattle.mir_meaning.specs.Programs.{shapes_in}
use Rattle.mir_meaning.specs.Views.{value_of, memory_of}
use Rattle.mir_machine.specs.declared.control.Control.{Control}
use Rattle.mir_machine.specs.declared.machine.Called.{Called}
use Rattle.mir_machine.specs.declared.machine.Machine.{Machine}
use Rattle.mir_machine.specs.declared.state.EntryCall.{EntryCall}
use Rattle.mir_machine.specs.Seen.{code_in, control_in, called_as}
use Rattle.mir_machine.specs.Ordered.{frame_in, stack_in, frames_of, Falling, Framed}
use Rattle.mir_machine.specs.Runs.{entry_in}
use Rattle.mir_machine.proofs.Entering.{body_nowhere, body_there, first_control}

pub no_slots : (p : Program) (g : ℕ) (args slots : List Value) → slice_get p.functions g ≡ None → slots ≡ [] → slots ≡ slots_at (code_in p) args (slice_get (code_in p).bodies g)
no_slots p g args slots e f = f ∙ sym (ap (slots_at (code_in p) args) (body_nowhere p g e))

pub some_slots : (p : Program) (g : ℕ) (f : Function) (args slots : List Value) → slice_get p.functions g ≡ Some f → slots ≡ new_slots (shapes_in p) (body_of (trees_of p.types) f.body).locals args → slots ≡ slots_at (code_in p) args (slice_get (code_in p).bodies g)
some_slots p g f args slots e h = h ∙ sym (ap (slots_at (code_in p) args) (body_there p g f e))

abbrev begun_with : ℕ → sem.Memory → List step.Control → List ℕ → List step.Called → step.State
begun_with g m cs answers trace = record { memory = m; top = first_control g 0 None; callers = cs; next = 1; answers = answers; trace = trace }

pub started : (p : Program) (m : sem.Memory) (cs : List Control) (kept answers : List ℕ) (trace : List Called) (e : EntryCall) (slots : List Value) → m ≡ open_frame [] 0 slots
    → slots ≡ slots_at (code_in p) (map value_of e.args) (slice_get (code_in p).bodies e.f.0) → cs ≡ [] → kept ≡ answers → trace ≡ []
    → begun_with e.f.0 m (map (control_in p) (reverse cs)) kept (map called_as (reverse trace)) ≡ start (code_in p) (entry_in e) answers
unfolding open_frame
started p m cs kept answers trace e slots a b c d f =
    ap (λ x. begun_with e.f.0 x (map (control_in p) (reverse cs)) kept (map called_as (reverse trace))) (a ∙ ap (open_frame [] 0) b)
    ∙ (ap (λ x. begun_with e.f.0 (open_frame [] 0 (slots_at (code_in p) (map value_of e.args) (slice_get (code_in p).bodies e.f.0))) (map (control_in p) (reverse x)) kept (map called_as (reverse trace))) c
    ∙ (ap (λ x. begun_with e.f.0 (open_frame [] 0 (slots_at (code_in p) (map value_of e.args) (slice_get (code_in p).bodies e.f.0))) [] x (map called_as (reverse trace))) d
    ∙ ap (λ x. begun_with e.f.0 (open_frame [] 0 (slots_at (code_in p) (map value_of e.args) (slice_get (code_in p).bodies e.f.0))) [] answers (map called_as (reverse x))) f))

pub framed_start : (m : Machine) (slots : List Value) → memory_of m.memory ≡ open_frame [] 0 slots → m.top.frame ≡ 0 → m.callers ≡ [] → m.last ≡ 0 → Framed m
unfolding open_frame
framed_start m slots a b c d =
    let alone : stack_in m ≡ 0 ∷ [] = ap (λ f. f ∷ map frame_in (reverse m.callers)) b ∙ ap (λ cs. 0 ∷ map frame_in (reverse cs)) c in
    record { frames = ap frames_of a ∙ sym alone; falling = subst (λ n. Falling (suc n) (stack_in m)) (sym d) (subst (Falling 1) (sym alone) (omega arith, tt)) }
