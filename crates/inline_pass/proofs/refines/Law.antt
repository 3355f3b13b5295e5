-- A crate in which one call of one body is replaced by the body of its callee refines the crate.
use Rattle.std.proofs.Common.{◌≡◌, ◌⊎◌, inl, inr, refl, sym, ap, ◌∙◌, subst, ℕ, suc, ◌+◌, ◌<◌, ◌≤◌, true, false, nat_eq, List, [], ◌∷◌, length, map, take, set, Option, Some, None, slice_get, arith}
use Rattle.std.proofs.lemmas.List.{take-append-le}
use Rattle.mir_syntax.specs.Tree.{Tree}
use Rattle.mir_syntax.specs.Crate.{TypedBlock, TypedBody, TypedFunction, Crate}
use Rattle.mir_syntax.specs.Shapes.{shapes_of, place_ty}
use Rattle.mir_syntax.proofs.Lists.{set_there}
use Rattle.mir_rules.specs.Valid.{Valid, with_body, at_function}
use Rattle.mir_rules.proofs.Bodies.{set_alike, shapes_alike}
use Rattle.mir_rules.proofs.Fixed.{apart_in}
use Rattle.mir_rules.proofs.ValidCrates.{body_formed_at, args_below}
use Rattle.mir_semantics.specs.Values.{Value}
use Rattle.mir_semantics.specs.Memory.{Memory, open_frame}
use Rattle.mir_semantics.specs.Step.{Code, body_in, code_of, State, Next, on, stop, fail, type_of, new_slots, step}
use Rattle.mir_semantics.specs.Run.{Entry, start, slots_at}
use Rattle.mir_semantics.specs.Entry.{IsEntry}
use Rattle.mir_semantics.specs.Refines.{header, Header, Refines}
use Rattle.mir_renaming.specs.Renaming.{Renaming, SomeRel}
use Rattle.mir_renaming.proofs.Memory.{same_or_not}
use Rattle.mir_renaming.proofs.Statements.{Linked, ValuesRel}
use Rattle.mir_renaming.proofs.Frames.{open_same, new_control}
use Rattle.mir_renaming.proofs.Ghosts.{plains_self}
use Rattle.mir_renaming.proofs.Typed.{ValidCode, Typed, TermTy}
use Rattle.mir_relate.specs.Simulation.{Simulation, Follows as Owes, moves}
use Rattle.mir_relate.proofs.Refine.{refines_by, is_entry}
use Rattle.valid_runs.proofs.Blanks.{shapes_tupled}
use Rattle.valid_runs.proofs.Codes.{valid_code, body_there, body_back}
use Rattle.valid_runs.proofs.Starts.{args_plain, start_typed}
use Rattle.valid_runs.proofs.Shown.{Known, step_flat, step_known, start_known}
use Rattle.mir_relate.specs.Pass.{ArgsTerm}
use Rattle.mir_relate.proofs.Rules.{bodies_other, headers_set, calls_all}
use Rattle.mir_rules.specs.Drops.{is_drop}
use Rattle.mir_relate.proofs.Leaves.{some_val}
use Rattle.inline_pass.specs.Lent.{DropFree}
use Rattle.inline_pass.proofs.valid.SiteValid.{result_first}
use Rattle.inline_pass.proofs.Bodies.{Site, inlined_body}
use Rattle.inline_pass.proofs.refines.Into.{Into, Stands, into, stand, stand_new, stand_old, into_parts, open_both}
use Rattle.inline_pass.proofs.refines.Slots.{slot_there, slots_both}
use Rattle.inline_pass.proofs.refines.Follow.{Longer}
use Rattle.inline_pass.proofs.refines.Stacks as stacks
use Rattle.inline_pass.proofs.refines.Stacks.{OneCall}
use Rattle.inline_pass.proofs.refines.Setting.{Setting, one_call, pairs, Answer, typed_moves}
use Rattle.inline_pass.proofs.refines.Steps.{step_rel}

abbrev nowhere : Stands
nowhere e = None

empty_linked : Linked (into nowhere) (into nowhere) [] []
empty_linked = record { mem = record { at = λ f x g y e v r. absurd (grind arith) }; apart = λ f x f' x' r u u' e e' k k'. absurd (grind arith) }

-- the starts of an entry are related
module _ (X : OneCall) (e : Entry) (answers : List ℕ) (bs bt : TypedBody) (is1 : slice_get X.C1.bodies e.function ≡ Some bs) (is2 : slice_get X.bodies2 e.function ≡ Some bt) (long : Longer bt bs) (plain : (j : Renaming) → ValuesRel j e.args e.args) where
  open X use {C1}

  abbrev i : Into
  i = record { frame = 0; offset = 0; size = length bs.locals }

  abbrev K : Stands
  K = stand nowhere 0 i

  first_alone : (n : ℕ) (j : Into) → K n ≡ Some j → (n ≡ 0) × (j ≡ i)
  first_alone n j q = go (same_or_not 0 n)
    where
      go : ((nat_eq 0 n ≡ true) × (0 ≡ n)) ⊎ ((nat_eq 0 n ≡ false) × (0 ≡ n → ⊥)) → (n ≡ 0) × (j ≡ i)
      go (inl y) = (sym y.1, some_val (sym q ∙ ap K (sym y.1) ∙ stand_new nowhere 0 i))
      go (inr y) = absurd (let z : None ≡ Some j = sym (stand_old nowhere 0 i n y.1) ∙ q in grind arith)

  abbrev m2 : Memory
  m2 = open_frame [] 0 (new_slots C1.shapes bt.locals e.args)

  abbrev m1 : Memory
  m1 = open_frame [] 0 (new_slots C1.shapes bs.locals e.args)

  own_first : stacks.Own X K m2 m1 (new_control e.function 0 None) (new_control e.function 0 None)
  own_first = record {
    function = refl;
    block = refl;
    place = refl;
    body = bs;
    is_body = is1;
    ghost = stand_new nowhere 0 i;
    dest = tt;
    calm = refl;
    far = λ b k e q. omega arith;
    shape = λ n j q at. inl (let (_, same) = first_alone n j q in subst (λ (j : Into). j.offset + j.size ≤ length bs.locals) (sym same) (omega arith));
    alone = λ n x z u q k. (let (j, is, _, _, _) = into_parts K n x 0 z q in (first_alone n j is).0);
    room = λ b is x t at. (let same : bt ≡ b = some_val (sym is2 ∙ is) in let (w, s) = slot_there C1.shapes bt.locals e.args x t (ap (λ (b : TypedBody). slice_get b.locals x) same ∙ at) in (w, open_same [] 0 (new_slots C1.shapes bt.locals e.args) x ∙ s));
  }

  slots : (x : ℕ) (v : Value) → x < length bs.locals → slice_get (new_slots C1.shapes bs.locals e.args) x ≡ Some v → SomeRel (into K) v (slice_get (new_slots C1.shapes bt.locals e.args) x)
  slots x v lt q = slots_both C1.shapes (into K) bs.locals bt.locals e.args e.args (plain (into K)) long.types long.first long.is_first x v q

  pub first_rel : stacks.Rel X (record (start C1 e answers) { memory = m2 }) (record (start C1 e answers) { memory = m1 })
  first_rel = record {
    stands = K;
    fresh = λ n le. stand_old nowhere 0 i n (λ z. omega (arith, z, le));
    low = λ n j q. (let (_, same) = first_alone n j q in subst (λ (j : Into). j.frame < 1) (sym same) (omega arith));
    answers = refl;
    trace = refl;
    link = open_both nowhere [] [] 0 i (new_slots C1.shapes bs.locals e.args) refl empty_linked (new_slots C1.shapes bt.locals e.args) refl (λ n j q. absurd (grind arith)) slots;
    stack = (omega arith, inl (new_control e.function 0 None, [], refl, own_first, refl));
  }

module _ (C : Crate) (valid : Valid C) (dropless : DropFree C) (f : ℕ) (fn : TypedFunction) (fn_at : slice_get C.functions f ≡ Some fn) (s : Site fn.body) (hn : TypedFunction) (hn_at : slice_get C.functions s.called.0 ≡ Some hn) (apart : s.called.0 ≡ f → ⊥) (valid_with : Valid (at_function C f fn (inlined_body fn.body s hn.body))) where
  abbrev C1 : Code
  C1 = code_of C

  abbrev bt : TypedBody
  bt = inlined_body fn.body s hn.body

  abbrev bodies2 : List TypedBody
  bodies2 = map body_in (set C.functions f (with_body fn bt))

  abbrev C2 : Code
  C2 = record C1 { bodies = bodies2 }

  long : fn.body.args < length fn.body.locals
  long = args_below C fn.body (body_formed_at C valid f fn fn_at)

  front_same : take (suc fn.body.args) bt.locals ≡ take (suc fn.body.args) fn.body.locals
  front_same = take-append-le (suc fn.body.args) fn.body.locals _ (omega (arith, long))

  same_code : code_of (at_function C f fn bt) ≡ C2
  same_code = ap (λ D. let c : Code = record { shapes = D; outsides = C.outsides; bodies = bodies2 } in c) (shapes_alike C (set C.functions f (with_body fn bt)) (set_alike C.functions f fn (with_body fn bt) fn_at (record { is_drop = refl; args = refl; start = front_same })))

  valid1 : ValidCode C1
  valid1 = valid_code C valid

  valid2 : ValidCode C2
  valid2 = subst ValidCode same_code (valid_code (at_function C f fn bt) valid_with)

  is2 : slice_get bodies2 f ≡ Some bt
  is2 = body_there (set C.functions f (with_body fn bt)) f (with_body fn bt) (set_there C.functions f (with_body fn bt) fn fn_at)

  others : (j : ℕ) → (j ≡ f → ⊥) → slice_get bodies2 j ≡ slice_get C1.bodies j
  others j ne = bodies_other C.functions f j (with_body fn bt) ne

  calm : (j : ℕ) (b : TypedBody) (m : ℕ) (n : TypedBlock) → slice_get C1.bodies j ≡ Some b → slice_get b.blocks m ≡ Some n → is_drop n.term ≡ false
  calm j b m n e e2 =
      let (g, at, same) = body_back C.functions j b e in
      (dropless.bodies j g at).none m n (ap (λ (b : TypedBody). slice_get b.blocks m) same ∙ e2)

  few : suc (length s.args) ≤ length hn.body.locals
  few =
      let l = subst (ArgsTerm C1) s.ends (calls_all C valid f fn.body s.block s.found (body_there C.functions f fn fn_at) s.is_found) hn.body (body_there C.functions s.called.0 hn hn_at) in
      let b = args_below C hn.body (body_formed_at C valid s.called.0 hn hn_at) in
      omega (arith, l, b)

  dest_ty : (t : Tree) × (place_ty (shapes_of C) fn.body.locals s.dest ≡ Some t)
  unfolding type_of
  dest_ty = let (t, e, _) = subst (TermTy C1 (record { shapes = C1.shapes; locals = fn.body.locals; frame = 0 })) s.ends (valid1.terms 0 f fn.body s.block s.found (body_there C.functions f fn fn_at) s.is_found) in (t, e)

  setting : Setting
  setting = record {
    C = C;
    valid = valid;
    bodies2 = bodies2;
    f = f;
    fn = fn;
    hn = hn;
    fn_at = fn_at;
    g = s.called;
    hn_at = hn_at;
    apart = apart;
    i = s.block;
    k = s.found;
    is_k = s.is_found;
    p = s.dest;
    os = s.args;
    next = s.next;
    term_is = s.ends;
    is2 = is2;
    others = others;
    valid2 = valid2;
    calm = calm;
    few = few;
    tp = dest_ty.0;
    p_ty = dest_ty.1;
    result = λ t e. result_first C valid f fn fn_at s hn hn_at t e;
  }

  abbrev RelAt : State → State → Type 0
  RelAt = stacks.Rel (one_call setting)

  record Both (n : ℕ) (s2 s1 : State) : Type 0 where
    pub rel : RelAt s2 s1
    pub known : Known C1 (apart_in C valid) valid1 s1
    pub typed : Typed C2 valid2 s2

  abbrev Answers : State → Next → Type 0
  Answers = Answer setting

  sim : Simulation C2 C1 Both
  unfolding setting
  sim = record { same_trace = λ n s2 s1 r. r.rel.trace; follows = λ n s2 s1 r. go n s2 s1 r (step C1 s1) refl }
    where
      answer : (n : ℕ) (s2 s1 : State) (x : Next) → Both n s2 s1 → step C1 s1 ≡ Some x → Answers s2 x
      answer n s2 s1 x r e = step_rel setting s2 s1 r.rel r.typed x e (step_flat C1 (apart_in C valid) valid1 s1 x r.known e)

      typed_on : (k : ℕ) (s2 t : State) → Typed C2 valid2 s2 → moves C2 k s2 ≡ Some t → Typed C2 valid2 t
      typed_on k s2 t ty e = typed_moves setting k s2 t ty e

      goes : (n : ℕ) (s2 s1 s1' : State) → Both n s2 s1 → step C1 s1 ≡ Some (on s1') → Answers s2 (on s1') → Owes C2 Both n s2 (Some (on s1'))
      goes n s2 s1 s1' r e (k, t, m, rel) = (suc k, 0, t, m, record { rel = rel; known = step_known C1 (apart_in C valid) valid1 s1 s1' r.known e; typed = typed_on (suc k) s2 t r.typed m }, inl (omega arith))

      go : (n : ℕ) (s2 s1 : State) → Both n s2 s1 → (o : Option Next) → step C1 s1 ≡ o → Owes C2 Both n s2 o
      go n s2 s1 r None e = tt
      go n s2 s1 r (Some (fail t)) e = tt
      go n s2 s1 r (Some (stop o)) e = (0, s2, refl, answer n s2 s1 (stop o) r e, refl)
      go n s2 s1 r (Some (on s1')) e = goes n s2 s1 s1' r e (answer n s2 s1 (on s1') r e)

  -- ---- the starts

  same_header : header (with_body fn bt) ≡ header fn
  same_header = ap (λ ts. let h : Header = record { path = fn.path; inlining = fn.inlining; is_drop = fn.is_drop; args = fn.body.args; types = ts } in h) front_same

  same_headers : map header (at_function C f fn bt).functions ≡ map header C.functions
  same_headers = headers_set C.functions f fn (with_body fn bt) fn_at same_header

  entry2 : (e : Entry) → IsEntry C1 e → IsEntry C2 e
  entry2 e k = subst (λ K. IsEntry K e) same_code (is_entry (at_function C f fn bt) C refl same_headers e k)

  starts : (e : Entry) → IsEntry C1 e → (answers : List ℕ) → (n : ℕ) × Both n (start C2 e answers) (start C1 e answers)
  unfolding open_frame setting
  starts e k answers =
      let (b, e2, lg) = pairs setting e.function k.body k.there in
      let r = first_rel (one_call setting) e answers k.body b k.there e2 lg (λ j. plains_self j e.args (args_plain C1 e k)) in
      let r2 : RelAt (start C2 e answers) (start C1 e answers) =
      subst (λ o. RelAt (record (start C1 e answers) { memory = record { frame = 0; slots = slots_at C1 e.args o } ∷ [] }) (start C1 e answers)) (sym e2)
      (subst (λ o. RelAt (record (start C1 e answers) { memory = record { frame = 0; slots = new_slots C1.shapes b.locals e.args } ∷ [] }) (record (start C1 e answers) { memory = record { frame = 0; slots = slots_at C1 e.args o } ∷ [] })) (sym k.there) r) in
      (0, record { rel = r2; known = start_known C1 (apart_in C valid) valid1 e k answers (start_typed C1 valid1 (shapes_tupled C) e k answers); typed = start_typed C2 valid2 (shapes_tupled C) e (entry2 e k) answers })

  pub site_refines : Refines (at_function C f fn bt) C
  site_refines =
      refines_by (at_function C f fn bt) C Both (subst (λ K. Simulation K C1 Both) (sym same_code) sim) refl refl same_headers
      (λ e k answers. subst (λ K. (n : ℕ) × Both n (start K e answers) (start C1 e answers)) (sym same_code) (starts e k answers))
