-- Destinations, and frames that begin.
use Rattle.std.proofs.Common.{◌≡◌, ℕ, zero, suc, ◌+◌, List, [], ◌∷◌, ◌++◌, map, length, take, drop, slice_get, Option, Some, None, refl, sym, ap, ◌∙◌, arith, append_assoc}
use Rattle.std.specs.Prelude.{reverse}
use Rattle.std.specs.Option.{option_map}
use Rattle.std.proofs.lemmas.Option.{slice_get-map}
use Rattle.std.proofs.lemmas.List.{map-append, reverse-append}
use Rattle.mir_syntax.specs.declared.types.TyId.{TyId}
use Rattle.mir_syntax.specs.declared.body.Place.{Place}
use Rattle.mir_syntax.specs.declared.body.Function.{Function}
use Rattle.mir_syntax.specs.declared.program.Program.{Program}
use Rattle.mir_syntax.specs.Tree.{Tree, trees_of}
use Rattle.mir_syntax.specs.Crate.{TypedBody, function_of, body_of}
use Rattle.mir_syntax.specs.Shapes.{Shape}
use Rattle.mir_semantics.specs.Values.{Addr, Value, blank}
use Rattle.mir_semantics.specs.Memory.{Memory, open_frame}
use Rattle.mir_semantics.specs.Step.{Code, Here, Dest, Control, State, on, body_in, resolve, type_of, dest_of, blanks, first_of, new_slots, entered, enter}
use Rattle.mir_syntax.proofs.Binds.{bind_at, bind_gone}
use Rattle.mir_machine.specs.Seen.{code_in}

-- ---- destinations

pub dest_lost : (h : Here) (m : Memory) (p : Place) → resolve h m p ≡ None → dest_of h m p ≡ None
unfolding dest_of
dest_lost h m p e = bind_gone _ _ e

pub dest_untyped : (h : Here) (m : Memory) (p : Place) (a : Addr) → resolve h m p ≡ Some a → type_of h p ≡ None → dest_of h m p ≡ None
unfolding dest_of
dest_untyped h m p a e t = bind_at _ a _ e ∙ bind_gone _ _ t

pub dest_same : (a b : Addr) (g k : Option Tree) → a ≡ b → g ≡ k → ◌≡◌ {A = Option Dest} (Some (record { addr = a; guard = g })) (Some (record { addr = b; guard = k }))
dest_same a b g k e f = ap (λ x. Some (record { addr = x; guard = g })) e ∙ ap (λ x. Some (record { addr = b; guard = x })) f

-- ---- the locals of a new frame

pub blanks_append : (D : List Shape) (ts us : List Tree) → blanks D (ts ++ us) ≡ blanks D ts ++ blanks D us
blanks_append D ts us = map-append (blank D) ts us

pub first_types : (f : TyId → Tree) (ids rest : List TyId) (id : TyId) → ids ≡ id ∷ rest → first_of (map f ids) ≡ map f (id ∷ [])
first_types f ids rest id e = ap (λ l. first_of (map f l)) e

pub body_nowhere : (p : Program) (g : ℕ) → slice_get p.functions g ≡ None → slice_get (code_in p).bodies g ≡ None
body_nowhere p g e = slice_get-map body_in (map (function_of (trees_of p.types)) p.functions) g ∙ ap (option_map body_in) (slice_get-map (function_of (trees_of p.types)) p.functions g ∙ ap (option_map (function_of (trees_of p.types))) e)

pub body_there : (p : Program) (g : ℕ) (f : Function) → slice_get p.functions g ≡ Some f → slice_get (code_in p).bodies g ≡ Some (body_of (trees_of p.types) f.body)
body_there p g f e = slice_get-map body_in (map (function_of (trees_of p.types)) p.functions) g ∙ ap (option_map body_in) (slice_get-map (function_of (trees_of p.types)) p.functions g ∙ ap (option_map (function_of (trees_of p.types))) e)

pub enter_nowhere : (C : Code) (s : State) (m : Memory) (c : Control) (g : ℕ) (args : List Value) (d : Option Dest) → slice_get C.bodies g ≡ None → enter C s m c g args d ≡ None
unfolding enter
enter_nowhere C s m c g args d e = bind_gone _ _ e

abbrev pub first_control : ℕ → ℕ → Option Dest → Control
first_control g f d = record { function = g; frame = f; block = 0; at = 0; dropping = None; dest = d }

pub enter_there : (C : Code) (s : State) (m m' : Memory) (c t : Control) (g : ℕ) (args slots : List Value) (d : Option Dest) (b : TypedBody) (cs : List Control) (f : ℕ) → slice_get C.bodies g ≡ Some b → slots ≡ new_slots C.shapes b.locals args
    → f ≡ s.next → m' ≡ open_frame m f slots → cs ≡ c ∷ s.callers → t ≡ first_control g f d
    → enter C s m c g args d ≡ Some (on (record { memory = m'; top = t; callers = cs; next = suc f; answers = s.answers; trace = s.trace }))
unfolding enter entered
enter_there C s m m' c t g args slots d b cs f e h q k w z =
    bind_at _ b _ e
    ∙ (ap (λ x. Some (on (record { memory = open_frame m x (new_slots C.shapes b.locals args); top = first_control g x d; callers = c ∷ s.callers; next = suc x; answers = s.answers; trace = s.trace }))) (sym q)
    ∙ (ap (λ x. Some (on (record { memory = x; top = first_control g f d; callers = c ∷ s.callers; next = suc f; answers = s.answers; trace = s.trace }))) (sym (k ∙ ap (open_frame m f) h))
    ∙ (ap (λ x. Some (on (record { memory = m'; top = first_control g f d; callers = x; next = suc f; answers = s.answers; trace = s.trace }))) (sym w)
    ∙ ap (λ x. Some (on (record { memory = m'; top = x; callers = cs; next = suc f; answers = s.answers; trace = s.trace }))) (sym z))))

pub newest_first : {X Y : Type 0} (f : X → Y) (xs : List X) (x : X) → map f (reverse (xs ++ x ∷ [])) ≡ f x ∷ map f (reverse xs)
newest_first f xs x = ap (map f) (reverse-append xs (x ∷ []))

first_is : (f : TyId → Tree) (ids : List TyId) → map f (take 1 ids) ≡ first_of (map f ids)
first_is f [] = refl
first_is f (id ∷ ids) = refl

drop_mapped : (f : TyId → Tree) (n : ℕ) (ids : List TyId) → map f (drop n ids) ≡ drop n (map f ids)
drop_mapped f zero ids = refl
drop_mapped f (suc n) [] = refl
drop_mapped f (suc n) (id ∷ ids) = drop_mapped f n ids

pub slots_made : (D : List Shape) (f : TyId → Tree) (ids : List TyId) (n : ℕ) (args a b c : List Value) → a ≡ [] ++ blanks D (map f (take 1 ids)) → b ≡ a ++ args → c ≡ b ++ blanks D (map f (drop (n + 1) ids)) → n ≡ length args
    → c ≡ new_slots D (map f ids) args
unfolding new_slots
slots_made D f ids n args a b c e g h l =
    let one : n + 1 ≡ suc (length args) = omega (arith, l) in
    h ∙ (ap (λ x. x ++ blanks D (map f (drop (n + 1) ids))) (g ∙ ap (λ x. x ++ args) (e ∙ ap (blanks D) (first_is f ids)))
    ∙ (append_assoc (blanks D (first_of (map f ids))) args (blanks D (map f (drop (n + 1) ids)))
    ∙ ap (λ x. blanks D (first_of (map f ids)) ++ (args ++ blanks D x)) (drop_mapped f (n + 1) ids ∙ ap (λ m. drop m (map f ids)) one)))
