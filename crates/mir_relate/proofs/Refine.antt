-- Refinement is reflexive and transitive, and what a simulation gives.
use Rattle.std.proofs.Common.{◌≡◌, ◌⊎◌, inl, inr, refl, sym, ap, ap₂, ◌∙◌, subst, ℕ, zero, suc, Bool, false, ◌&&◌, not, nat_eq, if◌then◌else◌, IsTrue, List, [], ◌∷◌, map, take, drop, Option, Some, None, slice_get, arith}
use Rattle.mir_syntax.specs.Tree.{Tree, scalar, empty, more, ref, ref_mut, named, tuple_of}
use Rattle.mir_syntax.specs.Crate.{TypedBody, TypedFunction, TypedDef, Crate}
use Rattle.mir_syntax.specs.Shapes.{shapes_of, shapes_from, destructor_from, is_destructor_of, drops_locals, fields_tuple}
use Rattle.mir_semantics.specs.Values.{listed}
use Rattle.mir_semantics.specs.Step.{Code, code_of, body_in, State, Next, on, stop, fail, step}
use Rattle.mir_semantics.specs.Run.{Seen, going, ended, undefined, after, steps, Entry, run, start}
use Rattle.mir_semantics.specs.Entry.{IsEntry, holds_reference, has_type, result_and_args, arg_types}
use Rattle.mir_semantics.specs.Refines.{trace_of, Stops, IsUndefined, RunsRefine, Refines, Header, header}
use Rattle.mir_relate.specs.Simulation.{Simulation}
use Rattle.mir_relate.proofs.Law.{runs_refine}

-- two ends of one run are the same
one_end : (C : Code) (n i : ℕ) (s : State) → Stops (steps C n s) → Stops (steps C i s) → steps C n s ≡ steps C i s
one_end C zero i s h k = absurd h
one_end C (suc n) zero s h k = absurd k
one_end C (suc n) (suc i) s h k = go (λ s' h k. one_end C n i s' h k) (step C s) h k
  where
    go : ((s' : State) → Stops (steps C n s') → Stops (steps C i s') → steps C n s' ≡ steps C i s') → (o : Option Next) → Stops (after (steps C n) s.trace o) → Stops (after (steps C i) s.trace o) → after (steps C n) s.trace o ≡ after (steps C i) s.trace o
    go ih None h k = refl
    go ih (Some (stop o)) h k = refl
    go ih (Some (fail t)) h k = refl
    go ih (Some (on s')) h k = ih s' h k

OneEnd : (ℕ → Seen) → Type 0
OneEnd b = (n i : ℕ) → Stops (b n) → Stops (b i) → b n ≡ b i

pub runs_refl : (a : ℕ → Seen) → RunsRefine a a
runs_refl a = record {
  ends = λ n t o e. (n, e);
  goes_on = λ n t e. (n, e);
  stops = λ m h. (m, h);
  traces = λ m. (m, inl refl);
}

runs_trans : (a b c : ℕ → Seen) → OneEnd b → RunsRefine a b → RunsRefine b c → RunsRefine a c
unfolding OneEnd
runs_trans a b c one ab bc = record {
  ends = λ n t o e. let (m, f) = bc.ends n t o e in ab.ends m t o f;
  goes_on = λ n t e. let (m, f) = bc.goes_on n t e in ab.goes_on m t f;
  stops = λ m h. let (n, k) = ab.stops m h in bc.stops n k;
  traces = λ m. traced m (ab.traces m);
}
  where
    -- where the middle run is undefined, the last one is
    undefined_too : (n j : ℕ) → IsUndefined (b n) → Stops (b n) → (x : Seen) → c j ≡ x → Stops x → IsUndefined x
    undefined_too n j u st (going t) e h = absurd h
    undefined_too n j u st (undefined t) e h = tt
    undefined_too n j u st (ended t o) e h =
        let (i, f) = bc.ends j t o e in
        subst IsUndefined (one n i st (subst Stops (sym f) tt) ∙ f) u

    stops_too : (x : Seen) → IsUndefined x → Stops x
    stops_too (going t) h = absurd h
    stops_too (ended t o) h = tt
    stops_too (undefined t) h = tt

    traced : (m : ℕ) → (n : ℕ) × ((trace_of (b n) ≡ trace_of (a m)) ⊎ IsUndefined (b n)) → (j : ℕ) × ((trace_of (c j) ≡ trace_of (a m)) ⊎ IsUndefined (c j))
    traced m (n, inl e) = go (bc.traces n)
      where
        go : (j : ℕ) × ((trace_of (c j) ≡ trace_of (b n)) ⊎ IsUndefined (c j)) → (j : ℕ) × ((trace_of (c j) ≡ trace_of (a m)) ⊎ IsUndefined (c j))
        go (j, inl f) = (j, inl (f ∙ e))
        go (j, inr u) = (j, inr u)
    traced m (n, inr u) =
        let st = stops_too (b n) u in
        let (j, k) = bc.stops n st in
        (j, inr (undefined_too n j u st (c j) refl k))

pub refines_refl : (c : Crate) → Refines c c
refines_refl c = record { defs = refl; outsides = refl; headers = refl; runs = λ e h answers. runs_refl (run (code_of c) e answers) }

-- ---- what headers tell

destructor_by : ℕ → Header → Bool
destructor_by d h = h.is_drop && (nat_eq h.args 1 && drops_locals d h.types)

first_two : (d : ℕ) (locals : List Tree) → drops_locals d locals ≡ drops_locals d (take 2 locals)
first_two d [] = refl
first_two d (scalar s ∷ ts) = refl
first_two d (more t u ∷ ts) = refl
first_two d (ref t ∷ ts) = refl
first_two d (ref_mut t ∷ ts) = refl
first_two d (named k ∷ ts) = refl
first_two d (empty ∷ []) = refl
first_two d (empty ∷ scalar s ∷ ts) = refl
first_two d (empty ∷ empty ∷ ts) = refl
first_two d (empty ∷ more t u ∷ ts) = refl
first_two d (empty ∷ ref t ∷ ts) = refl
first_two d (empty ∷ named k ∷ ts) = refl
first_two d (empty ∷ ref_mut (scalar s) ∷ ts) = refl
first_two d (empty ∷ ref_mut empty ∷ ts) = refl
first_two d (empty ∷ ref_mut (more t u) ∷ ts) = refl
first_two d (empty ∷ ref_mut (ref t) ∷ ts) = refl
first_two d (empty ∷ ref_mut (ref_mut t) ∷ ts) = refl
first_two d (empty ∷ ref_mut (named k) ∷ ts) = refl

by_header : (d : ℕ) (f : TypedFunction) → is_destructor_of d f ≡ destructor_by d (header f)
unfolding destructor_by
by_header d f = ap (λ b. f.is_drop && b) (go f.body.args)
  where
    go : (n : ℕ) → (nat_eq n 1 && drops_locals d f.body.locals) ≡ (nat_eq n 1 && drops_locals d (take (suc n) f.body.locals))
    go zero = refl
    go (suc zero) = first_two d f.body.locals
    go (suc (suc n)) = let z : nat_eq (suc (suc n)) 1 ≡ false = grind arith in ap (λ b. b && drops_locals d f.body.locals) z ∙ sym (ap (λ b. b && drops_locals d (take (suc (suc (suc n))) f.body.locals)) z)

destructor_same : (d i : ℕ) (fs gs : List TypedFunction) → map header fs ≡ map header gs → destructor_from d i fs ≡ destructor_from d i gs
destructor_same d i [] [] h = refl
destructor_same d i [] (g ∷ gs) h = absurd (grind arith)
destructor_same d i (f ∷ fs) [] h = absurd (grind arith)
destructor_same d i (f ∷ fs) (g ∷ gs) h =
    let e : header f ≡ header g = grind arith in
    let same : is_destructor_of d f ≡ is_destructor_of d g = by_header d f ∙ ap (destructor_by d) e ∙ sym (by_header d g) in
    ap₂ (λ b o. if b then Some i else o) same (destructor_same d (suc i) fs gs (grind arith))

shapes_same : (d : ℕ) (defs : List TypedDef) (fs gs : List TypedFunction) → map header fs ≡ map header gs → shapes_from fs d defs ≡ shapes_from gs d defs
shapes_same d [] fs gs h = refl
shapes_same d (def ∷ defs) fs gs h = ap₂ (λ x xs. record { is_enum = def.is_enum; variants = map fields_tuple def.variants; destructor = x } ∷ xs) (destructor_same d 0 fs gs h) (shapes_same (suc d) defs fs gs h)

-- crates with the same definitions and headers have the same shapes
pub same_shapes : (a b : Crate) → a.defs ≡ b.defs → map header a.functions ≡ map header b.functions → shapes_of a ≡ shapes_of b
unfolding shapes_of
same_shapes a b d h = ap (shapes_from a.functions 0) d ∙ shapes_same 0 b.defs a.functions b.functions h

entry_back : (fs gs : List TypedFunction) → map header fs ≡ map header gs → (i : ℕ) (b : TypedBody) → slice_get (map body_in gs) i ≡ Some b → (c : TypedBody) × (slice_get (map body_in fs) i ≡ Some c) × (result_and_args c ≡ result_and_args b)
entry_back [] [] h i b e = absurd (grind arith)
entry_back [] (y ∷ ys) h i b e = absurd (grind arith)
entry_back (x ∷ xs) [] h i b e = absurd (grind arith)
entry_back (x ∷ xs) (y ∷ ys) h zero b e =
    let k : header x ≡ header y = grind arith in
    let l : y.body ≡ b = grind arith in
    (x.body, refl, ap (λ z. z.types) k ∙ ap result_and_args l)
entry_back (x ∷ xs) (y ∷ ys) h (suc i) b e = entry_back xs ys (grind arith) i b e

-- an entry of one is an entry of the other
pub is_entry : (a b : Crate) → a.defs ≡ b.defs → map header a.functions ≡ map header b.functions → (e : Entry) → IsEntry (code_of b) e → IsEntry (code_of a) e
is_entry a b d h e k =
    let (c, at, same) = entry_back a.functions b.functions h e.function k.body k.there in
    let shapes : shapes_of a ≡ shapes_of b = same_shapes a b d h in
    record {
      body = c;
      there = at;
      plain = subst (λ D. IsTrue (not (holds_reference D (tuple_of (result_and_args c))))) (sym shapes) (subst (λ ts. IsTrue (not (holds_reference (shapes_of b) (tuple_of ts)))) (sym same) k.plain);
      typed = subst (λ D. IsTrue (has_type D (tuple_of (arg_types c)) (listed e.args))) (sym shapes) (subst (λ ts. IsTrue (has_type (shapes_of b) (tuple_of (drop 1 ts)) (listed e.args))) (sym same) k.typed);
    }

pub refines_trans : (a b c : Crate) → Refines a b → Refines b c → Refines a c
unfolding OneEnd
refines_trans a b c p q = record {
  defs = p.defs ∙ q.defs;
  outsides = p.outsides ∙ q.outsides;
  headers = p.headers ∙ q.headers;
  runs = λ e h answers. runs_trans (run (code_of a) e answers) (run (code_of b) e answers) (run (code_of c) e answers) (λ n i. one_end (code_of b) n i (start (code_of b) e answers)) (p.runs e (is_entry b c q.defs q.headers e h) answers) (q.runs e h answers);
}

-- a simulation that relates the starts of each entry gives refinement
pub refines_by : (a b : Crate) (R : ℕ → State → State → Type 0) → Simulation (code_of a) (code_of b) R → a.defs ≡ b.defs → a.outsides ≡ b.outsides → map header a.functions ≡ map header b.functions → ((e : Entry) → IsEntry (code_of b) e → (answers : List ℕ) → (n : ℕ) × R n (start (code_of a) e answers) (start (code_of b) e answers)) → Refines a b
refines_by a b R sim d o h starts = record {
  defs = d;
  outsides = o;
  headers = h;
  runs = λ e k answers. let (n, r) = starts e k answers in runs_refine (code_of a) (code_of b) R sim n (start (code_of a) e answers) (start (code_of b) e answers) r;
}
