-- How drops go on.
use Rattle.std.proofs.Common.{slice_get, if◌then◌else◌, ◌++◌, not, is_some, ◌≡◌, ℕ, suc, nat_eq, Bool, true, false, List, [], ◌∷◌, length, Option, Some, None, refl, sym, ap, ◌∙◌, arith}
use Rattle.std.specs.Prelude.{reverse}
use Rattle.std.specs.Option.{option_map}
use Rattle.mir_meaning.specs.declared.part.Part.{Part}
use Rattle.mir_meaning.specs.Views.{part_of}
use Rattle.std.proofs.lemmas.List.{length-map, length-reverse}
use Rattle.mir_syntax.specs.declared.body.Place.{Place}
use Rattle.mir_syntax.specs.declared.program.Program.{Program}
use Rattle.mir_syntax.specs.Tree.{Tree, named, node}
use Rattle.mir_syntax.specs.declared.types.Ty.{Ty}
use Rattle.mir_syntax.specs.declared.types.Ty.TheVariants.{Scalar, Tuple, Ref, RefMut, Named}
use Rattle.mir_syntax.specs.declared.types.Def.{Def}
use Rattle.mir_syntax.proofs.Places.{shape-at, shape-past}
use Rattle.mir_meaning.specs.Programs.{shapes_in}
use Rattle.mir_syntax.specs.Shapes.{Shape, needs_drop, destructor_of, ◌>>=◌}
use Rattle.mir_semantics.specs.Values.{Addr, Value, pointer, blank, is_hole, hole}
use Rattle.mir_semantics.specs.Memory.{Memory, value_at, write}
use Rattle.mir_semantics.specs.Step as sem
use Rattle.mir_semantics.specs.Step.{Code, Here, State, Control, Next, on, resolve, type_of, work_on, to_block, visit, visits_of, enter, entered, work_off, visit_if, visit_unless, variant_in, left_at, left_in, destroyed, destroyed_at}
use Rattle.mir_syntax.proofs.Binds.{bind_at, bind_gone}
use Rattle.mir_machine.specs.declared.control.Visit.{Visit}
use Rattle.mir_machine.specs.Seen.{begun, dropped, items_in, visit_in}

pub begun_gone : (h : Here) (m : Memory) (p : Place) (b : ℕ) → resolve h m p ≡ None → begun h m p b ≡ None
begun_gone h m p b e = bind_gone _ _ e

pub begun_untyped : (h : Here) (m : Memory) (p : Place) (b : ℕ) (a : Addr) → resolve h m p ≡ Some a → type_of h p ≡ None → begun h m p b ≡ None
begun_untyped h m p b a e t = bind_at _ a _ e ∙ bind_gone _ _ t

abbrev pub drop_of : Addr → Tree → ℕ → List sem.Visit → sem.Dropping
drop_of a t b items = record { place = record { addr = a; ty = t }; target = b; items = items }

pub begun_there : (h : Here) (m : Memory) (p : Place) (b : ℕ) (a x : Addr) (t : Tree) (items : List sem.Visit) → resolve h m p ≡ Some a → type_of h p ≡ Some t → x ≡ a → items ≡ record { addr = a; ty = t } ∷ []
    → begun h m p b ≡ Some (drop_of x t b items)
begun_there h m p b a x t items e f g k =
    bind_at _ a _ e ∙ (bind_at _ t _ f ∙ (ap (λ y. Some (drop_of a t b y)) (sym k) ∙ ap (λ y. Some (drop_of y t b items)) (sym g)))

pub one_item : (p : Program) (items : List Visit) (v : Visit) (a : Addr) → items ≡ [] → visit_in p v ≡ record { addr = a; ty = (visit_in p v).ty } → (new : List Visit) → new ≡ v ∷ [] → items_in p new ≡ record { addr = a; ty = (visit_in p v).ty } ∷ []
one_item p items v a e f new g = ap (items_in p) g ∙ ap (λ x. x ∷ []) f

-- ---- going on

pub work_more : (D : List Shape) (s : State) (c : Control) (d : sem.Dropping) (items : List sem.Visit) → (items ≡ [] → ⊥) → work_on D s c d items ≡ Some (on (record s { top = record c { dropping = Some (record d { items = items }) } }))
unfolding work_on
work_more D s c d [] h = absurd (h refl)
work_more D s c d (i ∷ is) h = refl

pub work_nowhere : (D : List Shape) (s : State) (c : Control) (d : sem.Dropping) (items : List sem.Visit) → items ≡ [] → value_at s.memory d.place.addr ≡ None → work_on D s c d items ≡ None
unfolding work_on
work_nowhere D s c d [] h e = bind_gone _ _ e
work_nowhere D s c d (i ∷ is) h e = absurd cc

pub work_done : (D : List Shape) (s : State) (c c' : Control) (d : sem.Dropping) (items : List sem.Visit) (old : Value) (m' : Memory) → items ≡ [] → value_at s.memory d.place.addr ≡ Some old → m' ≡ write s.memory d.place.addr (blank D d.place.ty) → c' ≡ to_block d.target c
    → work_on D s c d items ≡ Some (on (record s { memory = m'; top = c' }))
unfolding work_on
work_done D s c c' d [] old m' h e f g =
    bind_at _ old _ e ∙ (ap (λ m. Some (on (record s { memory = m; top = to_block d.target c }))) (sym f) ∙ ap (λ t. Some (on (record s { memory = m'; top = t }))) (sym g))
work_done D s c c' d (i ∷ is) old m' h e f g = absurd cc

items_length : (p : Program) (items : List Visit) → length (items_in p items) ≡ length items
items_length p items = length-map (reverse items) (visit_in p) ∙ length-reverse items

not_zero : (n : ℕ) → nat_eq (suc n) 0 ≡ false
not_zero n = grind arith

pub items_empty : (p : Program) (items : List Visit) (b : Bool) → b ≡ nat_eq (length items) 0 → b ≡ true → items_in p items ≡ []
items_empty p [] b e h = refl
items_empty p (v ∷ items) b e h = absurd (let wrong : false ≡ true = sym (not_zero (length items)) ∙ (sym e ∙ h) in cc)

pub items_left : (p : Program) (items : List Visit) (b : Bool) → b ≡ nat_eq (length items) 0 → b ≡ false → items_in p items ≡ [] → ⊥
items_left p [] b e h n = (let wrong : true ≡ false = sym e ∙ h in cc)
items_left p (v ∷ items) b e h n = (let same : length (items_in p (v ∷ items)) ≡ length (v ∷ items) = items_length p (v ∷ items) in let none : length (items_in p (v ∷ items)) ≡ 0 = ap length n in omega arith)

pub part_gone : (o : Option Part) (b : Bool) (w : Option Value) → is_some o ≡ not b → b ≡ true → option_map part_of o ≡ w → w ≡ None
part_gone None b w e h n = sym n
part_gone (Some x) b w e h n = absurd (let wrong : true ≡ false = e ∙ ap not h in cc)

pub work_done_at : (D : List Shape) (s : State) (c c' : Control) (d : sem.Dropping) (items : List sem.Visit) (o : Option Part) (b : Bool) (m' : Memory) → items ≡ [] → is_some o ≡ not b → b ≡ false → option_map part_of o ≡ value_at s.memory d.place.addr
    → m' ≡ write s.memory d.place.addr (blank D d.place.ty) → c' ≡ to_block d.target c → work_on D s c d items ≡ Some (on (record s { memory = m'; top = c' }))
work_done_at D s c c' d items None b m' h e n w f g = absurd (let wrong : false ≡ true = e ∙ ap not n in cc)
work_done_at D s c c' d items (Some x) b m' h e n w f g = work_done D s c c' d items (part_of x) m' h (sym w) f g

pub work_same : (D : List Shape) (s : State) (c : Control) (d : sem.Dropping) (xs items : List sem.Visit) → work_on D s c (record d { items = xs }) items ≡ work_on D s c d items
unfolding work_on
work_same D s c d xs [] = refl
work_same D s c d xs (i ∷ is) = refl

pub enter_same : (C : Code) (s : State) (t : Control) (m : Memory) (c : Control) (g : ℕ) (args : List Value) (d : Option sem.Dest) → enter C (record s { top = t }) m c g args d ≡ enter C s m c g args d
unfolding enter entered
enter_same C s t m c g args d = refl

pub visit_parts : (C : Code) (s : State) (d : sem.Dropping) (i : sem.Visit) (rest items : List sem.Visit) (v : Value) (o : Option ℕ) → None ≡ o → items ≡ visits_of C.shapes i.addr i.ty v ++ rest
    → visit C s d i rest v o ≡ work_on C.shapes s s.top (record d { items = items }) items
unfolding visit
visit_parts C s d i rest items v None e f = ap (work_on C.shapes s s.top d) (sym f) ∙ sym (work_same C.shapes s s.top d items items)
visit_parts C s d i rest items v (Some g) e f = absurd cc

pub visit_call : (C : Code) (s : State) (d : sem.Dropping) (i : sem.Visit) (rest : List sem.Visit) (v : Value) (o : Option ℕ) (g : ℕ) (t : Control) (args : List Value) → Some g ≡ o
    → t ≡ record s.top { dropping = Some (record d { items = i ∷ rest }) } → args ≡ pointer i.addr ∷ []
    → visit C s d i rest v o ≡ enter C (record s { top = t }) s.memory t g args None
unfolding visit
visit_call C s d i rest v None g t args e f h = absurd cc
visit_call C s d i rest v (Some k) g t args e f h =
    let same : k ≡ g = cc in
    ap (λ x. enter C s s.memory (record s.top { dropping = Some (record d { items = i ∷ rest }) }) x (pointer i.addr ∷ []) None) same
    ∙ (ap (λ x. enter C s s.memory x g (pointer i.addr ∷ []) None) (sym f) ∙ (ap (λ x. enter C s s.memory t g x None) (sym h) ∙ sym (enter_same C s t s.memory t g args None)))

-- ---- one item

pub off_nothing : (C : Code) (s : State) (d : sem.Dropping) (items : List sem.Visit) → items ≡ [] → work_off C s d items ≡ None
unfolding work_off
off_nothing C s d [] h = refl
off_nothing C s d (i ∷ is) h = absurd cc

pub off_plain : (C : Code) (s : State) (d : sem.Dropping) (i : sem.Visit) (rest items : List sem.Visit) (b : Bool) → items ≡ i ∷ rest → b ≡ needs_drop C.shapes i.ty → b ≡ false
    → work_off C s d items ≡ work_on C.shapes s s.top (record d { items = rest }) rest
unfolding work_off visit_if
off_plain C s d i rest items b e f g =
    ap (work_off C s d) e ∙ (ap (visit_if C s d i rest) (sym f ∙ g) ∙ sym (work_same C.shapes s s.top d rest rest))

off_needed : (C : Code) (s : State) (d : sem.Dropping) (i : sem.Visit) (rest items : List sem.Visit) (b : Bool) → items ≡ i ∷ rest → b ≡ needs_drop C.shapes i.ty → b ≡ true
    → work_off C s d items ≡ (value_at s.memory i.addr >>= λ v. visit_unless C s d i rest v (is_hole v))
unfolding work_off visit_if
off_needed C s d i rest items b e f g = ap (work_off C s d) e ∙ ap (visit_if C s d i rest) (sym f ∙ g)

pub off_nowhere : (C : Code) (s : State) (d : sem.Dropping) (i : sem.Visit) (rest items : List sem.Visit) (b : Bool) → items ≡ i ∷ rest → b ≡ needs_drop C.shapes i.ty → b ≡ true → None ≡ value_at s.memory i.addr
    → work_off C s d items ≡ None
off_nowhere C s d i rest items b e f g n = off_needed C s d i rest items b e f g ∙ bind_gone _ _ (sym n)

pub off_hole : (C : Code) (s : State) (d : sem.Dropping) (i : sem.Visit) (rest items : List sem.Visit) (b h : Bool) (v : Value) → items ≡ i ∷ rest → b ≡ needs_drop C.shapes i.ty → b ≡ true → Some v ≡ value_at s.memory i.addr → h ≡ is_hole v → h ≡ true
    → work_off C s d items ≡ work_on C.shapes s s.top (record d { items = rest }) rest
unfolding visit_unless
off_hole C s d i rest items b h v e f g n w x =
    off_needed C s d i rest items b e f g ∙ (bind_at _ v _ (sym n) ∙ (ap (visit_unless C s d i rest v) (sym w ∙ x) ∙ sym (work_same C.shapes s s.top d rest rest)))

visit_same : (C : Code) (s : State) (d : sem.Dropping) (i : sem.Visit) (xs rest : List sem.Visit) (v : Value) (o : Option ℕ) → visit C s (record d { items = xs }) i rest v o ≡ visit C s d i rest v o
unfolding visit
visit_same C s d i xs rest v None = work_same C.shapes s s.top d xs (visits_of C.shapes i.addr i.ty v ++ rest)
visit_same C s d i xs rest v (Some g) = refl

pub off_visit : (C : Code) (s : State) (d : sem.Dropping) (i : sem.Visit) (rest items : List sem.Visit) (b h : Bool) (v : Value) → items ≡ i ∷ rest → b ≡ needs_drop C.shapes i.ty → b ≡ true → Some v ≡ value_at s.memory i.addr → h ≡ is_hole v → h ≡ false
    → work_off C s d items ≡ visit C s (record d { items = rest }) i rest v (destructor_of C.shapes i.ty)
unfolding visit_unless
off_visit C s d i rest items b h v e f g n w x =
    off_needed C s d i rest items b e f g ∙ (bind_at _ v _ (sym n) ∙ (ap (visit_unless C s d i rest v) (sym w ∙ x) ∙ sym (visit_same C s d i rest rest v (destructor_of C.shapes i.ty))))

-- ---- what is said of the drop that has begun isn't read again

abbrev aside : State → Option sem.Dropping → State
aside s x = record s { top = record s.top { dropping = x } }

pub work_aside : (D : List Shape) (s : State) (x : Option sem.Dropping) (d : sem.Dropping) (items : List sem.Visit) → work_on D (aside s x) (aside s x).top d items ≡ work_on D s s.top d items
unfolding work_on
work_aside D s x d [] = refl
work_aside D s x d (i ∷ is) = refl

visit_aside : (C : Code) (s : State) (x : Option sem.Dropping) (d : sem.Dropping) (i : sem.Visit) (rest : List sem.Visit) (v : Value) (o : Option ℕ) → visit C (aside s x) d i rest v o ≡ visit C s d i rest v o
unfolding visit enter entered
visit_aside C s x d i rest v None = work_aside C.shapes s x d (visits_of C.shapes i.addr i.ty v ++ rest)
visit_aside C s x d i rest v (Some g) = refl

unless_aside : (C : Code) (s : State) (x : Option sem.Dropping) (d : sem.Dropping) (i : sem.Visit) (rest : List sem.Visit) (v : Value) (b : Bool) → visit_unless C (aside s x) d i rest v b ≡ visit_unless C s d i rest v b
unfolding visit_unless
unless_aside C s x d i rest v true = work_aside C.shapes s x d rest
unless_aside C s x d i rest v false = visit_aside C s x d i rest v (destructor_of C.shapes i.ty)

if_aside : (C : Code) (s : State) (x : Option sem.Dropping) (d : sem.Dropping) (i : sem.Visit) (rest : List sem.Visit) (b : Bool) → visit_if C (aside s x) d i rest b ≡ visit_if C s d i rest b
unfolding visit_if ◌>>=◌
if_aside C s x d i rest false = work_aside C.shapes s x d rest
if_aside C s x d i rest true = go (value_at s.memory i.addr)
  where
    go : (o : Option Value) → (o >>= λ v. visit_unless C (aside s x) d i rest v (is_hole v)) ≡ (o >>= λ v. visit_unless C s d i rest v (is_hole v))
    go None = refl
    go (Some v) = unless_aside C s x d i rest v (is_hole v)

off_aside : (C : Code) (s : State) (x : Option sem.Dropping) (d : sem.Dropping) (items : List sem.Visit) → work_off C (aside s x) d items ≡ work_off C s d items
unfolding work_off
off_aside C s x d [] = refl
off_aside C s x d (i ∷ is) = if_aside C s x d i is (needs_drop C.shapes i.ty)

pub dropped_more : (C : Code) (h : Here) (s : State) (p : Place) (b : ℕ) (d : sem.Dropping) (x : Option sem.Dropping) (t : Control) → s.top.dropping ≡ Some d → t ≡ record s.top { dropping = x } → dropped C h s p b ≡ work_off C (record s { top = t }) d d.items
unfolding sem.begun
dropped_more C h s p b d x t e f =
    ap (λ o. sem.begun h s p b o >>= λ y. work_off C s y y.items) e ∙ (bind_at _ d (λ y. work_off C s y y.items) refl ∙ (sym (off_aside C s x d d.items) ∙ ap (λ c. work_off C (record s { top = c }) d d.items) (sym f)))

pub dropped_gone : (C : Code) (h : Here) (s : State) (p : Place) (b : ℕ) → s.top.dropping ≡ None → begun h s.memory p b ≡ None → dropped C h s p b ≡ None
unfolding sem.begun
dropped_gone C h s p b e f = ap (λ o. sem.begun h s p b o >>= λ y. work_off C s y y.items) e ∙ bind_gone _ _ f

pub dropped_first : (C : Code) (h : Here) (s : State) (p : Place) (b : ℕ) (d : sem.Dropping) (x : Option sem.Dropping) (t : Control) → s.top.dropping ≡ None → begun h s.memory p b ≡ Some d → t ≡ record s.top { dropping = x } → dropped C h s p b ≡ work_off C (record s { top = t }) d d.items
unfolding sem.begun
dropped_first C h s p b d x t e f g =
    ap (λ o. sem.begun h s p b o >>= λ y. work_off C s y y.items) e ∙ (bind_at _ d (λ y. work_off C s y y.items) f ∙ (sym (off_aside C s x d d.items) ∙ ap (λ c. work_off C (record s { top = c }) d d.items) (sym g)))

-- ---- what a destructor leaves

pub left_plain : (D : List Shape) (m : Memory) (a : Addr) (trees : List Tree) (ty : Ty) → ((d : ℕ) → ty ≡ Named d → ⊥) → option_map variant_in (left_at D m a (node trees ty)) ≡ Some None
left_plain D m a trees (Scalar s) h = refl
left_plain D m a trees (Tuple []) h = refl
left_plain D m a trees (Tuple (id ∷ ids)) h = refl
left_plain D m a trees (Ref b) h = refl
left_plain D m a trees (RefMut b) h = refl
left_plain D m a trees (Named d) h = absurd (h d refl)

pub left_nothing : (p : Program) (m : Memory) (a : Addr) (t : Tree) (d : ℕ) → t ≡ named d → slice_get p.defs d ≡ None → option_map variant_in (left_at (shapes_in p) m a t) ≡ Some None
left_nothing p m a t d e h = ap (λ x. option_map variant_in (left_at (shapes_in p) m a x)) e ∙ ap (λ o. option_map variant_in (left_in m a o)) (shape-past p d h)

pub left_struct : (p : Program) (m : Memory) (a : Addr) (t : Tree) (d : ℕ) (def : Def) → t ≡ named d → slice_get p.defs d ≡ Some def → def.is_enum ≡ false → option_map variant_in (left_at (shapes_in p) m a t) ≡ Some None
left_struct p m a t d def e h n =
    ap (λ x. option_map variant_in (left_at (shapes_in p) m a x)) e ∙ (ap (λ o. option_map variant_in (left_in m a o)) (shape-at p d def h) ∙ ap (λ b. option_map variant_in (if b then value_at m a else Some hole)) n)

pub left_enum : (p : Program) (m : Memory) (a : Addr) (t : Tree) (d : ℕ) (def : Def) (o : Option Value) → t ≡ named d → slice_get p.defs d ≡ Some def → def.is_enum ≡ true → o ≡ value_at m a → option_map variant_in (left_at (shapes_in p) m a t) ≡ option_map variant_in o
left_enum p m a t d def o e h n g =
    ap (λ x. option_map variant_in (left_at (shapes_in p) m a x)) e ∙ (ap (λ o. option_map variant_in (left_in m a o)) (shape-at p d def h) ∙ (ap (λ b. option_map variant_in (if b then value_at m a else Some hole)) n ∙ ap (option_map variant_in) (sym g)))

pub destroyed_never : (D : List Shape) (s : State) (c : Control) → c.dropping ≡ None → destroyed D s c ≡ None
unfolding destroyed
destroyed_never D s c e = bind_gone _ _ e

pub destroyed_empty : (D : List Shape) (s : State) (c : Control) (d : sem.Dropping) → c.dropping ≡ Some d → d.items ≡ [] → destroyed D s c ≡ None
unfolding destroyed destroyed_at
destroyed_empty D s c d e h = bind_at _ d (λ d. destroyed_at D s c d d.items) e ∙ ap (destroyed_at D s c d) h

lost_value : (o : Option Value) → option_map variant_in o ≡ None → o ≡ None
lost_value None h = refl
lost_value (Some v) h = absurd cc

pub destroyed_lost : (D : List Shape) (s : State) (c : Control) (d : sem.Dropping) (i : sem.Visit) (rest : List sem.Visit) → c.dropping ≡ Some d → d.items ≡ i ∷ rest → option_map variant_in (left_at D s.memory i.addr i.ty) ≡ None → destroyed D s c ≡ None
unfolding destroyed destroyed_at
destroyed_lost D s c d i rest e h n = bind_at _ d (λ d. destroyed_at D s c d d.items) e ∙ (ap (destroyed_at D s c d) h ∙ bind_gone _ _ (lost_value (left_at D s.memory i.addr i.ty) n))

pub destroyed_on : (D : List Shape) (s : State) (d : sem.Dropping) (i : sem.Visit) (rest items : List sem.Visit) (k : Option ℕ) (x : Option sem.Dropping) (t : Control) → s.top.dropping ≡ Some d → d.items ≡ i ∷ rest
    → option_map variant_in (left_at D s.memory i.addr i.ty) ≡ Some k → ((v : Value) → variant_in v ≡ k → items ≡ visits_of D i.addr i.ty v ++ rest) → t ≡ record s.top { dropping = x }
    → destroyed D s s.top ≡ work_on D (record s { top = t }) t (record d { items = items }) items
unfolding destroyed destroyed_at ◌>>=◌
destroyed_on D s d i rest items k x t e h n go f =
    bind_at _ d (λ d. destroyed_at D s s.top d d.items) e ∙ (ap (destroyed_at D s s.top d) h ∙ (on_value (left_at D s.memory i.addr i.ty) n
    ∙ (sym (work_same D s s.top d items items) ∙ (sym (work_aside D s x (record d { items = items }) items) ∙ ap (λ c. work_on D (record s { top = c }) c (record d { items = items }) items) (sym f)))))
  where
    on_value : (o : Option Value) → option_map variant_in o ≡ Some k → (o >>= λ v. work_on D s s.top d (visits_of D i.addr i.ty v ++ rest)) ≡ work_on D s s.top d items
    on_value None g = absurd cc
    on_value (Some v) g = let same : variant_in v ≡ k = cc in ap (work_on D s s.top d) (sym (go v same))
