-- Entries, by what was read of their arguments.
use Rattle.std.proofs.Common.{◌≡◌, ◌∙◌, refl, sym, ap, subst, ℕ, suc, ◌+◌, Bool, true, false, not, List, [], ◌∷◌, map, take, drop, slice_get, Option, Some, None, inl, inr, add-one, ℤ, ◌≤◌, ◌^◌, length, arith}
use Rattle.std.proofs.lemmas.List.{append-nil, length-map, take-map}
use Rattle.std.proofs.lemmas.Option.{slice_get-map}
use Rattle.std.proofs.lemmas.Bool.Decides.{nat_tests}
use Rattle.std.specs.Option.{option_map}
use Rattle.mir_syntax.specs.declared.types.TyId.{TyId}
use Rattle.mir_syntax.specs.declared.body.Body.{Body}
use Rattle.mir_syntax.specs.declared.body.Function.{Function}
use Rattle.mir_syntax.specs.declared.program.Program.{Program}
use Rattle.mir_syntax.specs.Tree.{Tree, empty, more, tuple_of, at_id, at_ids, trees_of}
use Rattle.mir_syntax.specs.Crate.{TypedBody, crate_of, body_of, function_of, def_of, variant_of}
use Rattle.mir_syntax.specs.Shapes.{Shape, shape_of, fields_tuple}
use Rattle.mir_syntax.proofs.Places.{shape-at, shape-past, at_ids-tuple}
use Rattle.mir_rules.proofs.Lists.{list_all_true-at}
use Rattle.mir_semantics.specs.Values.{listed}
use Rattle.mir_semantics.specs.Step.{body_in}
use Rattle.mir_semantics.specs.Run.{Entry}
use Rattle.mir_semantics.specs.Entry.{IsEntry, AreFlat, has_type, flat, holds_reference, result_and_args, arg_types}
use Rattle.mir_meaning.specs.declared.datum.Datum.{Datum}
use Rattle.mir_meaning.specs.Programs.{shapes_in}
use Rattle.mir_meaning.specs.Views.{value_of, fields_of}
use Rattle.mir_machine.specs.declared.state.EntryCall.{EntryCall}
use Rattle.mir_syntax.specs.declared.number.Number.{Number}
use Rattle.mir_machine.specs.Ends.{integer_in}
use Rattle.mir_machine.specs.Seen.{code_in}
use Rattle.mir_machine.specs.Runs.{entry_in}
use Rattle.mir_entry.specs.Readings.{Reading, read_by, read_def, then_read, reading, integers_of, StopsAt}
use Rattle.mir_entry.specs.Misfits.{BeginFlat, StopAt, LeaveOver, Misfits}
use Rattle.std.specs.List.{list_all}
use Rattle.std.specs.Prelude.{◌==◌, Result, Ok, Err, IsErrAnd}
use Rattle.mir_entry.specs.declared.entries.EntryFault.{EntryFault}
use Rattle.mir_entry.specs.declared.entries.EntryFault.TheVariants as fault
use Rattle.mir_syntax.specs.declared.types.Def.{Def}
use Rattle.mir_machine.proofs.Entering.{body_there}
use Rattle.mir_entry.specs.Entering.{few_variants, signature, Enters, Refuses, LeavesOver, Strays}
use Rattle.mir_entry.proofs.Readings.{Few, reading_sound, reading_complete}

-- ---- bodies and their types

body_at : (p : Program) (k : ℕ) → slice_get (code_in p).bodies k ≡ option_map (λ g. body_of (trees_of p.types) g.body) (slice_get p.functions k)
body_at p k =
    slice_get-map body_in (crate_of p).functions k ∙ ap (option_map body_in) (slice_get-map (function_of (trees_of p.types)) p.functions k) ∙ twice (slice_get p.functions k)
  where
    twice : (o : Option Function) → option_map body_in (option_map (function_of (trees_of p.types)) o) ≡ option_map (λ g. body_of (trees_of p.types) g.body) o
    twice None = refl
    twice (Some g) = refl

drop_one : {A B : Type 0} (g : A → B) (xs : List A) → drop 1 (map g xs) ≡ map g (drop 1 xs)
drop_one g [] = refl
drop_one g (x ∷ xs) = refl

signature_types : (trees : List Tree) (b : Body) → result_and_args (body_of trees b) ≡ map (at_id trees) (signature b)
signature_types trees b = take-map (at_id trees) (suc b.args) b.locals ∙ ap (λ n. map (at_id trees) (take n b.locals)) (sym (add-one b.args))

all_types : (trees : List Tree) (b : Body) → at_ids trees (signature b) ≡ tuple_of (result_and_args (body_of trees b))
all_types trees b = at_ids-tuple trees (signature b) ∙ ap tuple_of (sym (signature_types trees b))

arguments_at : (trees : List Tree) (b : Body) → map (at_id trees) (drop 1 (signature b)) ≡ arg_types (body_of trees b)
arguments_at trees b = sym (ap (drop 1) (signature_types trees b) ∙ drop_one (at_id trees) (signature b))

argument_types : (trees : List Tree) (b : Body) → at_ids trees (drop 1 (signature b)) ≡ tuple_of (arg_types (body_of trees b))
argument_types trees b = at_ids-tuple trees (drop 1 (signature b)) ∙ ap tuple_of (arguments_at trees b)

-- ---- entries that are made

pub entered : (p : Program) (g : Function) (is : List ℤ) (call : EntryCall) → slice_get p.functions call.f.0 ≡ Some g → Enters p g.body is call.args → IsEntry (code_in p) (entry_in call)
entered p g is call h enters =
    let trees = trees_of p.types in
    let front = reading_sound (shapes_in p) (at_ids trees (drop 1 (signature g.body))) is (fields_of call.args) [] enters.read in
    let no : holds_reference (shapes_in p) (tuple_of (result_and_args (body_of trees g.body))) ≡ false = ap (holds_reference (shapes_in p)) (sym (all_types trees g.body)) ∙ enters.plain in
    record {
      body = body_of trees g.body;
      there = body_there p call.f.0 g h;
      plain = ap not no;
      typed = ap (λ t. has_type (shapes_in p) t (fields_of call.args)) (sym (argument_types trees g.body)) ∙ front.is_typed;
    }

same_body : (a : Option TypedBody) (b c : TypedBody) → a ≡ Some b → a ≡ Some c → b ≡ c
same_body a b c h k = let both : Some b ≡ Some c = sym h ∙ k in cc

pub entered_flat : (p : Program) (k : ℕ) (g : Function) (is : List ℤ) (args : List Datum) → slice_get p.functions k ≡ Some g → Enters p g.body is args
    → (body : TypedBody) → slice_get (code_in p).bodies k ≡ Some body → AreFlat (shapes_in p) (arg_types body) is (map value_of args)
entered_flat p k g is args h enters body there =
    let trees = trees_of p.types in
    let front = reading_sound (shapes_in p) (at_ids trees (drop 1 (signature g.body))) is (fields_of args) [] enters.read in
    let types = argument_types trees g.body in
    let whole : front.front ≡ is = sym (front.whole ∙ append-nil front.front) in
    let flats : AreFlat (shapes_in p) (arg_types (body_of trees g.body)) is (map value_of args) = record {
      typed = ap (λ t. has_type (shapes_in p) t (fields_of args)) (sym types) ∙ front.is_typed;
      form = ap (λ t. flat (shapes_in p) t (fields_of args)) (sym types) ∙ front.is_form ∙ ap Some whole;
    } in
    subst (λ b. AreFlat (shapes_in p) (arg_types b) is (map value_of args)) (same_body (slice_get (code_in p).bodies k) (body_of trees g.body) body (body_there p k g h) there) flats

-- ---- entries that are refused

pub no_function : (p : Program) (k : ℕ) (body : TypedBody) → slice_get p.functions k ≡ None → slice_get (code_in p).bodies k ≡ Some body → ⊥
no_function p k body h there = let wrong : ◌≡◌ {A = Option TypedBody} None (Some body) = sym (body_at p k ∙ ap (option_map (λ x. body_of (trees_of p.types) x.body)) h) ∙ there in cc

pub not_entered : (p : Program) → Few (shapes_in p) → (k : ℕ) (g : Function) (is : List ℤ) → slice_get p.functions k ≡ Some g → Refuses p g.body is
    → (body : TypedBody) (e : Entry) → slice_get (code_in p).bodies k ≡ Some body → e.function ≡ k → IsEntry (code_in p) e → AreFlat (shapes_in p) (arg_types body) is e.args → ⊥
not_entered p few k g is h (inl refers) body e there at entry flats =
    let trees = trees_of p.types in
    let own : slice_get (code_in p).bodies k ≡ Some entry.body = ap (slice_get (code_in p).bodies) (sym at) ∙ entry.there in
    let same = same_body (slice_get (code_in p).bodies k) (body_of trees g.body) entry.body (body_there p k g h) own in
    let yes : holds_reference (shapes_in p) (tuple_of (result_and_args entry.body)) ≡ true = ap (λ b. holds_reference (shapes_in p) (tuple_of (result_and_args b))) (sym same) ∙ ap (holds_reference (shapes_in p)) (sym (all_types trees g.body)) ∙ refers in
    let wrong : false ≡ true = sym (ap not yes) ∙ entry.plain in
    cc
not_entered p few k g is h (inr none) body e there at entry flats =
    let trees = trees_of p.types in
    let same = same_body (slice_get (code_in p).bodies k) (body_of trees g.body) body (body_there p k g h) there in
    let types : at_ids trees (drop 1 (signature g.body)) ≡ tuple_of (arg_types body) = argument_types trees g.body ∙ ap (λ b. tuple_of (arg_types b)) same in
    let read = reading_complete (shapes_in p) few (tuple_of (arg_types body)) (listed e.args) is [] flats.typed flats.form in
    none (listed e.args) (ap (λ t. reading (shapes_in p) t is) types ∙ ap (reading (shapes_in p) (tuple_of (arg_types body))) (sym (append-nil is)) ∙ read)

-- ---- the argument that isn't given

numbers_left : (ns : List Number) (b : Bool) → b ≡ (length ns == 0) → b ≡ false → map integer_in ns ≡ [] → ⊥
numbers_left [] b e off h = let wrong : true ≡ false = sym e ∙ off in cc
numbers_left (n ∷ ns) b e off h = cc

pub over_read : (p : Program) (b : Body) (is : List ℤ) (args : List Datum) (rest : List Number) (types : List TyId) (none : Bool) → types ≡ drop 1 (signature b) → Some (fields_of args, integers_of rest) ≡ reading (shapes_in p) (at_ids (trees_of p.types) types) is
    → none ≡ (length rest == 0) → none ≡ false → LeavesOver p b is
over_read p b is args rest types none drops read e off = record {
  values = args;
  rest = integers_of rest;
  read = sym (read ∙ ap (λ ids. reading (shapes_in p) (at_ids (trees_of p.types) ids) is) drops);
  some = numbers_left rest none e off;
}

begin_flat : (D : List Shape) (trees : List Tree) (ids : List TyId) (is rest : List ℤ) (values : List Datum) → reading D (at_ids trees ids) is ≡ Some (fields_of values, rest) → BeginFlat D (map (at_id trees) ids) is rest
begin_flat D trees ids is rest values h =
    let front = reading_sound D (at_ids trees ids) is (fields_of values) rest h in
    let types = at_ids-tuple trees ids in
    record {
      front = front.front;
      values = map value_of values;
      flats = record {
        typed = ap (λ t. has_type D t (fields_of values)) (sym types) ∙ front.is_typed;
        form = ap (λ t. flat D t (fields_of values)) (sym types) ∙ front.is_form;
      };
      whole = front.whole;
    }

not_read : (D : List Shape) (t : Tree) (is : List ℤ) → reading D t is ≡ None → reading D (more t empty) is ≡ None
unfolding reading
not_read D t is h = ap (then_read (read_by (read_def D (length D)) empty)) h

none_flat : (D : List Shape) → Few D → (t : Tree) (is behind : List ℤ) → reading D t is ≡ None → BeginFlat D (t ∷ []) is behind → ⊥
none_flat D few t is behind h begin =
    let read = reading_complete D few (more t empty) (listed begin.values) begin.front behind begin.flats.typed begin.flats.form in
    let wrong : ◌≡◌ {A = Reading} None (Some (listed begin.values, behind)) = sym (not_read D t is h) ∙ ap (reading D (more t empty)) begin.whole ∙ read in
    absurd cc

stop_at : (p : Program) → Few (shapes_in p) → (b : Body) (is : List ℤ) (k : ℕ) → StopsAt p (drop 1 (signature b)) is k → StopAt (shapes_in p) (arg_types (body_of (trees_of p.types) b)) is k
stop_at p few b is k stop =
    let trees = trees_of p.types in
    let ids = drop 1 (signature b) in
    let at : StopAt (shapes_in p) (map (at_id trees) ids) is k = record {
      next = at_id trees stop.next;
      rest = stop.rest;
      there = slice_get-map (at_id trees) ids k ∙ ap (option_map (at_id trees)) stop.there;
      before = subst (λ types. BeginFlat (shapes_in p) types is stop.rest) (sym (take-map (at_id trees) k ids)) (begin_flat (shapes_in p) trees (take k ids) is stop.rest stop.values stop.before);
      none = λ behind begin. none_flat (shapes_in p) few (at_id trees stop.next) stop.rest behind stop.none begin;
    } in
    subst (λ types. StopAt (shapes_in p) types is k) (arguments_at trees b) at

leave_over : (p : Program) (b : Body) (is : List ℤ) → LeavesOver p b is → LeaveOver (shapes_in p) (arg_types (body_of (trees_of p.types) b)) is
leave_over p b is over = record {
  rest = over.rest;
  all = subst (λ types. BeginFlat (shapes_in p) types is over.rest) (arguments_at (trees_of p.types) b) (begin_flat (shapes_in p) (trees_of p.types) (drop 1 (signature b)) is over.rest over.values over.read);
  some = over.some;
}

misfits_in : (p : Program) → Few (shapes_in p) → (b : Body) (is : List ℤ) (k : ℕ) → Strays p b is k → Misfits (shapes_in p) (body_of (trees_of p.types) b) is k
misfits_in p few b is k (inl (refers, count)) = inl (ap (holds_reference (shapes_in p)) (sym (all_types (trees_of p.types) b)) ∙ refers, count)
misfits_in p few b is k (inr (plain, inl stop)) = inr (ap not (ap (holds_reference (shapes_in p)) (sym (all_types (trees_of p.types) b)) ∙ plain), inl (stop_at p few b is k stop))
misfits_in p few b is k (inr (plain, inr (over, count))) = inr (ap not (ap (holds_reference (shapes_in p)) (sym (all_types (trees_of p.types) b)) ∙ plain), inr (leave_over p b is over, count))

pub misfits : (p : Program) → Few (shapes_in p) → (f : ℕ) (g : Function) (is : List ℤ) (k : ℕ) → slice_get p.functions f ≡ Some g → Strays p g.body is k
    → (body : TypedBody) → slice_get (code_in p).bodies f ≡ Some body → Misfits (shapes_in p) body is k
misfits p few f g is k h strays body there =
    subst (λ b. Misfits (shapes_in p) b is k) (same_body (slice_get (code_in p).bodies f) (body_of (trees_of p.types) g.body) body (body_there p f g h) there) (misfits_in p few g.body is k strays)

-- ---- programs whose variants have numbers

variants_typed : (p : Program) (d : ℕ) (s : Shape) (o : Option Def) → slice_get p.defs d ≡ o → list_all few_variants p.defs ≡ true → slice_get (shapes_in p) d ≡ Some s → length s.variants ≤ 2 ^ 32
variants_typed p d s None h all e = let wrong : ◌≡◌ {A = Option Shape} None (Some s) = sym (shape-past p d h) ∙ e in absurd cc
variants_typed p d s (Some def) h all e =
    let few = list_all_true-at few_variants p.defs d def all h in
    let same : shape_of (crate_of p).functions (0 + d) (def_of (trees_of p.types) def) ≡ s = let both : ◌≡◌ {A = Option Shape} (Some (shape_of (crate_of p).functions (0 + d) (def_of (trees_of p.types) def))) (Some s) = sym (shape-at p d def h) ∙ e in cc in
    let counts : length (map fields_tuple (map (variant_of (trees_of p.types)) def.variants)) ≡ length def.variants = length-map (map (variant_of (trees_of p.types)) def.variants) fields_tuple ∙ length-map def.variants (variant_of (trees_of p.types)) in
    let small : length def.variants ≤ 2 ^ 32 = grind (arith, nat_tests) in
    subst (λ x. length x.variants ≤ 2 ^ 32) same (rw counts small)

pub few_shapes : (p : Program) → list_all few_variants p.defs ≡ true → Few (shapes_in p)
few_shapes p all = record { few = λ d s e. variants_typed p d s (slice_get p.defs d) refl all e }

pub few_yes : (b c : Bool) → b ≡ c → b ≡ true → c ≡ true
few_yes b c h e = sym h ∙ e

-- the fault of a call is that of the function that makes it
pub fault_on : {A B : Type 0} (r : Result A EntryFault) (s : Result B EntryFault) (e : EntryFault) (k : ℕ) → r ≡ Err e → IsErrAnd s (λ x. x ≡ e) → s ≡ Err (fault.NotFit k) → r ≡ Err (fault.NotFit k)
fault_on r (Ok y) e k h g n = absurd g
fault_on r (Err x) e k h g n = let same : x ≡ fault.NotFit k = cc in h ∙ ap Err (sym g ∙ same)
