-- The frames of a machine, and of the state that it stands for.
use Rattle.std.proofs.Common.{◌≡◌, refl, sym, ap, subst, ◌∙◌, ℕ, suc, List, [], ◌∷◌, ◌++◌, map, Option, Some, None, MatchOption, true, false}
use Rattle.std.specs.Prelude.{reverse}
use Rattle.mir_syntax.specs.declared.program.Program.{Program}
use Rattle.mir_semantics.specs.Memory as sem
use Rattle.mir_semantics.specs.Values.{Value, whole}
use Rattle.mir_semantics.specs.Memory.{close_frame, value_at}
use Rattle.mir_semantics.specs.Step.{read_at, local_addr, only_if}
use Rattle.mir_meaning.specs.declared.memory.Store.{Store}
use Rattle.mir_meaning.specs.Views.{memory_of, memory_from, store_of, address}
use Rattle.mir_meaning.proofs.Memories.{memory_push}
use Rattle.mir_syntax.proofs.Binds.{bind_at, bind_gone}
use Rattle.mir_machine.specs.declared.control.Control.{Control}
use Rattle.mir_machine.specs.declared.machine.Machine.{Machine}
use Rattle.mir_machine.specs.Seen.{control_in, state_in}
use Rattle.mir_machine.specs.Ordered.{control_frame, frame_in, stack_in, frames_of, Falling, Ordered, Framed}
use Rattle.mir_machine.proofs.Orders.{close_top}

controls : (p : Program) (cs : List Control) → map control_frame (map (control_in p) cs) ≡ map frame_in cs
controls p [] = refl
controls p (c ∷ cs) = ap (λ l. c.frame ∷ l) (controls p cs)

pub framed_ordered : (p : Program) (m : Machine) → Framed m → Ordered (state_in p m)
framed_ordered p m h =
    let same : m.top.frame ∷ map control_frame (map (control_in p) (reverse m.callers)) ≡ stack_in m = ap (λ l. m.top.frame ∷ l) (controls p (reverse m.callers)) in
    record { frames = h.frames ∙ sym same; falling = subst (Falling (suc m.last)) (sym same) h.falling }

pub ordered_framed : (p : Program) (m : Machine) → Ordered (state_in p m) → Framed m
ordered_framed p m h =
    let same : m.top.frame ∷ map control_frame (map (control_in p) (reverse m.callers)) ≡ stack_in m = ap (λ l. m.top.frame ∷ l) (controls p (reverse m.callers)) in
    record { frames = h.frames ∙ same; falling = subst (Falling (suc m.last)) same h.falling }

pub popped_closes : (m : Machine) (left : List Store) (r : Option Store) → MatchOption r ((m.memory.stores ≡ []) × (left ≡ [])) (λ last. m.memory.stores ≡ left ++ last ∷ []) → Framed m → memory_from left [] ≡ close_frame (memory_of m.memory) m.top.frame
popped_closes m left None (e, n) h = absurd (let wrong : [] ≡ stack_in m = sym (ap (λ l. frames_of (memory_from l [])) e) ∙ h.frames in cc)
popped_closes m left (Some last) e h =
    let split : memory_of m.memory ≡ store_of last ∷ memory_from left [] = ap (λ l. memory_from l []) e ∙ memory_push left [] last in
    sym (ap (λ x. close_frame x m.top.frame) split ∙ close_top (store_of last) (memory_from left []) m.top.frame (map frame_in (reverse m.callers)) (sym (ap frames_of split) ∙ h.frames) h.falling.1)

-- ---- what a frame returns

pub result_gone : (m : sem.Memory) (f : ℕ) → value_at m (address f 0 []) ≡ None → read_at m (local_addr f 0) ≡ None
unfolding read_at local_addr
result_gone m f e = bind_gone _ _ e

pub result_hole : (m : sem.Memory) (f : ℕ) (v : Value) → value_at m (address f 0 []) ≡ Some v → whole v ≡ false → read_at m (local_addr f 0) ≡ None
unfolding read_at local_addr
result_hole m f v e h = bind_at _ v _ e ∙ ap (λ b. only_if b v) h

pub result_whole : (m : sem.Memory) (f : ℕ) (v : Value) → value_at m (address f 0 []) ≡ Some v → whole v ≡ true → read_at m (local_addr f 0) ≡ Some v
unfolding read_at local_addr
result_whole m f v e h = bind_at _ v _ e ∙ ap (λ b. only_if b v) h
