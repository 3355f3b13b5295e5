-- One step after another.
use Rattle.std.proofs.Common.{◌≡◌, ◌&&◌, nat_lt, refl, sym, ap, subst, ◌∙◌, ℕ, zero, suc, ◌+◌, ◌-◌, ◌<◌, ◌≤◌, Bool, true, false, List, Option, Some, None, arith}
use Rattle.std.specs.Prelude.{Result, Ok, Err, IfOk, is_ok}
use Rattle.mir_syntax.specs.declared.OutOfMemory.{OutOfMemory}
use Rattle.mir_syntax.specs.declared.program.Program.{Program}
use Rattle.mir_semantics.specs.Step as sem
use Rattle.mir_semantics.specs.Step.{Code, Next, on, stop, fail, step}
use Rattle.mir_semantics.specs.Run as runs
use Rattle.mir_semantics.specs.Run.{Seen, after, steps}
use Rattle.mir_machine.specs.declared.machine.Machine.{Machine}
use Rattle.mir_machine.specs.declared.outcome.Outcome.{Outcome}
use Rattle.mir_machine.specs.declared.outcome.Outcome.TheVariants.{Going, Returned, Aborted, NoAnswer, Undefined}
use Rattle.mir_machine.specs.declared.state.State.{State}
use Rattle.mir_machine.specs.declared.runs.RunResult.{RunResult}
use Rattle.mir_machine.specs.Seen.{code_in, state_in}
use Rattle.mir_machine.specs.Ends.{trace_in}
use Rattle.mir_machine.specs.Ordered.{Ordered, Framed}
use Rattle.mir_machine.specs.Runs.{Progress, going, ended, undefined, come_to, onward, so_far, seen_of, seen_as, progress_in, standing, standing_in, seen_in}
use Rattle.mir_machine.specs.Sound.{goes, Sound}
use Rattle.mir_machine.proofs.Orders.{StaysOrdered, order_ok}
use Rattle.mir_machine.proofs.Frames.{framed_ordered, ordered_framed}

-- ---- what holds of a run that goes on

pub sound_framed : (m : Machine) (n : ℕ) (r : Result Outcome OutOfMemory) → goes r ≡ true → Sound m n r → Framed m × (m.last ≤ n)
sound_framed m n (Ok Going) e h = h
sound_framed m n (Ok (Returned v)) e h = absurd cc
sound_framed m n (Ok (Aborted text ns)) e h = absurd cc
sound_framed m n (Ok NoAnswer) e h = absurd cc
sound_framed m n (Ok Undefined) e h = absurd cc
sound_framed m n (Err x) e h = absurd cc

reached : (p : Program) (new : Machine) (n : ℕ) (t : List sem.Called) (x : Option Next) → StaysOrdered n x → going (state_in p new) ≡ come_to t x → Ordered (state_in p new) × (suc new.last ≤ suc n)
reached p new n t None h e = absurd cc
reached p new n t (Some (on s)) (h, le) e =
    let same : s ≡ state_in p new = cc in
    (subst Ordered same h, subst (λ x. x.next ≤ suc n) same le)
reached p new n t (Some (stop o)) h e = absurd cc
reached p new n t (Some (fail u)) h e = absurd cc

pub sound_next : (p : Program) (old new : Machine) (n k : ℕ) (r : Result Outcome OutOfMemory) → IfOk r (λ o. progress_in p new o ≡ come_to (trace_in old.trace) (step (code_in p) (state_in p old))) → Framed old → old.last ≤ n → (is_ok r ≡ true → k ≡ n + 1) → Sound new k r
sound_next p old new n k (Ok Going) e h le count =
    let (ordered, most) = reached p new (suc old.last) (trace_in old.trace) (step (code_in p) (state_in p old)) (order_ok (code_in p) (state_in p old) (framed_ordered p old h)) e in
    (ordered_framed p new ordered, small (count refl) most le)
  where
    small : k ≡ n + 1 → suc new.last ≤ suc (suc old.last) → old.last ≤ n → new.last ≤ k
    small a b c = omega arith
sound_next p old new n k (Ok (Returned v)) e h le count = tt
sound_next p old new n k (Ok (Aborted text ns)) e h le count = tt
sound_next p old new n k (Ok NoAnswer) e h le count = tt
sound_next p old new n k (Ok Undefined) e h le count = tt
sound_next p old new n k (Err x) e h le count = tt

pub sound_rest : (m : Machine) (n k : ℕ) (r : Result Outcome OutOfMemory) → goes r ≡ false → Sound m k r
sound_rest m n k (Ok Going) e = absurd cc
sound_rest m n k (Ok (Returned v)) e = tt
sound_rest m n k (Ok (Aborted text ns)) e = tt
sound_rest m n k (Ok NoAnswer) e = tt
sound_rest m n k (Ok Undefined) e = tt
sound_rest m n k (Err x) e = tt

-- ---- what a step does

abbrev pub Onward : Program → Result Progress OutOfMemory → Progress → Type 0
Onward p r before = IfOk r (λ after. after ≡ onward (code_in p) before)

pub rests : (p : Program) (m : Machine) (r : Result Outcome OutOfMemory) (before : Progress) → goes r ≡ false → standing p m r ≡ Ok before → Onward p (standing p m r) before
rests p m (Ok Going) before e h = absurd cc
rests p m (Ok (Returned v)) before e h = let same : progress_in p m (Returned v) ≡ before = cc in ap (onward (code_in p)) same
rests p m (Ok (Aborted text ns)) before e h = let same : progress_in p m (Aborted text ns) ≡ before = cc in ap (onward (code_in p)) same
rests p m (Ok NoAnswer) before e h = let same : progress_in p m NoAnswer ≡ before = cc in ap (onward (code_in p)) same
rests p m (Ok Undefined) before e h = let same : progress_in p m Undefined ≡ before = cc in ap (onward (code_in p)) same
rests p m (Err x) before e h = tt

going_is : (p : Program) (m : Machine) (r : Result Outcome OutOfMemory) (before : Progress) → goes r ≡ true → standing p m r ≡ Ok before → going (state_in p m) ≡ before
going_is p m (Ok Going) before e h = cc
going_is p m (Ok (Returned v)) before e h = absurd cc
going_is p m (Ok (Aborted text ns)) before e h = absurd cc
going_is p m (Ok NoAnswer) before e h = absurd cc
going_is p m (Ok Undefined) before e h = absurd cc
going_is p m (Err x) before e h = absurd cc

pub moves : (p : Program) (old new : Machine) (r r' : Result Outcome OutOfMemory) (before : Progress) → goes r ≡ true → standing p old r ≡ Ok before → IfOk r' (λ o. progress_in p new o ≡ come_to (trace_in old.trace) (step (code_in p) (state_in p old))) → Onward p (standing p new r') before
moves p old new r (Ok o) before e h k = k ∙ ap (onward (code_in p)) (going_is p old r before e h)
moves p old new r (Err x) before e h k = tt

-- ---- many steps

-- what is seen when so many steps more were taken
abbrev pub rest_of : Code → ℕ → Progress → Seen
rest_of C k (going s) = steps C k s
rest_of C k (ended t o) = runs.ended t o
rest_of C k (undefined t) = runs.undefined t

after_is : (C : Code) (k : ℕ) (t : List sem.Called) (x : Option Next) → after (steps C k) t x ≡ rest_of C k (come_to t x)
after_is C k t None = refl
after_is C k t (Some (on s)) = refl
after_is C k t (Some (stop o)) = refl
after_is C k t (Some (fail u)) = refl

pub rest_next : (C : Code) (k : ℕ) (x : Progress) → rest_of C (suc k) x ≡ rest_of C k (onward C x)
rest_next C k (going s) = after_is C k s.trace (step C s)
rest_next C k (ended t o) = refl
rest_next C k (undefined t) = refl

pub rest_none : (C : Code) (x : Progress) → rest_of C 0 x ≡ seen_of x
rest_none C (going s) = refl
rest_none C (ended t o) = refl
rest_none C (undefined t) = refl

pub rest_all : (C : Code) (n : ℕ) (x : Progress) → rest_of C n x ≡ seen_of (so_far C n x)
rest_all C zero x = rest_none C x
rest_all C (suc n) x = rest_next C n x ∙ rest_all C n (onward C x)

-- how a machine stands is what is seen of it, where no step is left, or it has stopped
pub shows : (p : Program) (m : Machine) (o : Outcome) → seen_of (progress_in p m o) ≡ seen_as m.trace o
shows p m Going = refl
shows p m (Returned v) = refl
shows p m (Aborted text ns) = refl
shows p m NoAnswer = refl
shows p m Undefined = refl

pub rest_stopped : (p : Program) (m : Machine) (k : ℕ) (o : Outcome) → (goes (Ok o) ≡ true → k ≡ 0) → rest_of (code_in p) k (progress_in p m o) ≡ seen_as m.trace o
rest_stopped p m k Going h = ap (λ n. rest_of (code_in p) n (progress_in p m Going)) (h refl)
rest_stopped p m k (Returned v) h = refl
rest_stopped p m k (Aborted text ns) h = refl
rest_stopped p m k NoAnswer h = refl
rest_stopped p m k Undefined h = refl

-- ---- the loop of a run

going_stands : (p : Program) (m : Machine) (r : Result Outcome OutOfMemory) → goes r ≡ true → standing p m r ≡ Ok (going (state_in p m))
going_stands p m (Ok Going) e = refl
going_stands p m (Ok (Returned v)) e = absurd cc
going_stands p m (Ok (Aborted text ns)) e = absurd cc
going_stands p m (Ok NoAnswer) e = absurd cc
going_stands p m (Ok Undefined) e = absurd cc
going_stands p m (Err x) e = absurd cc

-- what a run of n steps shows, where so many of them were taken
abbrev pub Shows : Program → Seen → ℕ → State → Type 0
Shows p seen n s = (x : Progress) → standing_in p s ≡ Ok x → seen ≡ rest_of (code_in p) (n - s.taken) x

met : (r : Result Progress OutOfMemory) (P : Progress → Type 0) (x : Progress) → r ≡ Ok x → IfOk r P → P x
met (Ok y) P x e h = let same : y ≡ x = cc in subst P same h
met (Err z) P x e h = absurd cc

past : (a n : ℕ) → nat_lt a n ≡ false → n - a ≡ 0
past a n e = grind arith

pub shows_first : (p : Program) (seen : Seen) (n : ℕ) (s : State) (begin : sem.State) → seen ≡ steps (code_in p) n begin → standing_in p s ≡ Ok (going begin) → s.taken ≡ 0 → Shows p seen n s
shows_first p seen n s begin e h k x q =
    let same : going begin ≡ x = cc in
    e ∙ (ap (λ m. rest_of (code_in p) m (going begin)) (whole n s.taken k) ∙ ap (rest_of (code_in p) (n - s.taken)) same)
  where
    whole : (n k : ℕ) → k ≡ 0 → n ≡ n - k
    whole n k e = omega arith

pub shows_next : (p : Program) (seen : Seen) (n : ℕ) (old new : State) → goes old.outcome ≡ true → old.taken < n → ((before : Progress) → standing_in p old ≡ Ok before → IfOk (standing_in p new) (λ after. after ≡ onward (code_in p) before)) → new.taken ≡ old.taken + 1
    → Shows p seen n old → Shows p seen n new
shows_next p seen n old new g l step k h x e =
    let stands : standing_in p old ≡ Ok (going (state_in p old.machine)) = going_stands p old.machine old.outcome g in
    let after : x ≡ onward (code_in p) (going (state_in p old.machine)) = met (standing_in p new) (λ after. after ≡ onward (code_in p) (going (state_in p old.machine))) x e (step (going (state_in p old.machine)) stands) in
    h (going (state_in p old.machine)) stands
    ∙ (ap (λ m. rest_of (code_in p) m (going (state_in p old.machine))) (less n old.taken new.taken l k)
    ∙ (rest_next (code_in p) (n - new.taken) (going (state_in p old.machine)) ∙ ap (rest_of (code_in p) (n - new.taken)) (sym after)))
  where
    less : (n a b : ℕ) → a < n → b ≡ a + 1 → n - a ≡ suc (n - b)
    less n a b h e = omega arith

pub shows_last : (p : Program) (seen : Seen) (n : ℕ) (s : State) (r : RunResult) → s.outcome ≡ Ok r.outcome → r.trace ≡ s.machine.trace → (goes s.outcome && nat_lt s.taken n) ≡ false → Shows p seen n s → seen_in r ≡ seen
shows_last p seen n s r e k ends h =
    let stands : standing_in p s ≡ Ok (progress_in p s.machine r.outcome) = ap (standing p s.machine) e in
    ap (λ t. seen_as t r.outcome) k
    ∙ (sym (rest_stopped p s.machine (n - s.taken) r.outcome (λ g. none (nat_lt s.taken n) refl (ap (λ b. b && nat_lt s.taken n) (sym (ap goes e ∙ g)) ∙ ends)))
    ∙ sym (h (progress_in p s.machine r.outcome) stands))
  where
    none : (b : Bool) → nat_lt s.taken n ≡ b → b ≡ false → n - s.taken ≡ 0
    none true e f = absurd cc
    none false e f = past s.taken n e

pub below : (a n : ℕ) → nat_lt a n ≡ true → a < n
below a n e = grind arith

pub next_within : (a b n : ℕ) → a < n → b ≡ a + 1 → b ≤ n
next_within a b n h e = omega arith

pub shown : (p : Program) (seen : Seen) (n : ℕ) (s : State) (r : Result RunResult OutOfMemory) → IfOk r (λ q. s.outcome ≡ Ok q.outcome) → IfOk r (λ q. q.trace ≡ s.machine.trace) → (goes s.outcome && nat_lt s.taken n) ≡ false → Shows p seen n s → IfOk r (λ q. seen_in q ≡ seen)
shown p seen n s (Ok q) a b e h = shows_last p seen n s q a b e h
shown p seen n s (Err x) a b e h = tt
