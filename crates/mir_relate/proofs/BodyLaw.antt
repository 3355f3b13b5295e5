-- A pass that shows its laws gives a simulation, and the target refines the source.
use Rattle.std.proofs.Common.{◌≡◌, ◌⊎◌, inl, inr, refl, sym, ap, ◌∙◌, subst, ℕ, zero, suc, ◌<◌, ◌≤◌, true, false, nat_eq, List, [], ◌∷◌, ◌++◌, length, map, Option, Some, None, slice_get, arith}
use Rattle.mir_syntax.specs.Shapes.{Shape}
use Rattle.mir_syntax.specs.Crate.{TypedBody, Crate}
use Rattle.mir_semantics.specs.Values.{Value}
use Rattle.mir_semantics.specs.Memory.{open_frame}
use Rattle.mir_semantics.specs.Step.{Control, State, Next, on, stop, fail, new_slots, code_of, step}
use Rattle.mir_semantics.specs.Run.{Entry, start, slots_at}
use Rattle.mir_semantics.specs.Entry.{IsEntry}
use Rattle.mir_semantics.specs.Refines.{Refines, header}
use Rattle.mir_renaming.specs.Renaming.{Renaming, SomeRel}
use Rattle.mir_renaming.proofs.Memory.{same_or_not}
use Rattle.mir_renaming.proofs.Statements.{Linked, ValuesRel}
use Rattle.mir_renaming.proofs.Frames.{open_same, new_control}
use Rattle.mir_renaming.proofs.Ghosts.{AllPlain, plains_self, Flat}
use Rattle.mir_renaming.proofs.Typed.{Typed, step_typed}
use Rattle.mir_relate.specs.Simulation.{Simulation, Follows as Owes, moves, keep_on}
use Rattle.mir_relate.proofs.Refine.{refines_by}
use Rattle.mir_renaming.proofs.Slots.{slots_rel, value_in}
use Rattle.mir_renaming.proofs.Agree.{tight_agree}
use Rattle.mir_renaming.proofs.Tight.{Tights, slots_tight, tight_in, tights_self}
use Rattle.mir_renaming.proofs.Items.{step_drops}
use Rattle.mir_relate.specs.Alike.{AllSame}
use Rattle.mir_relate.specs.Frames.{Change, target, Pass, lowest, opened, Agrees, Twin, Below, Base, Core}
use Rattle.mir_relate.specs.Pass.{Valids, GentleTo, Laws, Goes, Answers, Related}
use Rattle.mir_relate.proofs.Wholes.{all_plain}
use Rattle.mir_relate.proofs.Leaves.{some_val}
use Rattle.mir_relate.proofs.Opens.{opened_at, opened_parts, opened_old, linked_open}
use Rattle.mir_relate.proofs.Others.{other_step}
use Rattle.mir_relate.proofs.Gentle.{step_gentle, step_fair}

pub goes_answer : (X : Change) (P : Pass) (n : ℕ) (s2 : State) (x : Next) → Goes X P (step (target X) s2) x → Answers X P n s2 x
goes_answer X P n s2 (stop o) h = (0, s2, refl, h, refl)
goes_answer X P n s2 (fail t) h = tt
goes_answer X P n s2 (on s1) (n', s, e, c) = (1, n', s, ap (keep_on (λ s. Some s)) e, c, inl (omega arith))

module _ (X : Change) (P : Pass) (V : Valids X) (Inv : State → Type 0) (laws : Laws X P V Inv) where
  abbrev D : List Shape
  D = X.source.shapes

  -- ---- steps

  typed_moves : (k : ℕ) (s s' : State) → Typed (target X) V.valid2 s → moves (target X) k s ≡ Some s' → Typed (target X) V.valid2 s'
  typed_moves zero s s' t e = subst (Typed (target X) V.valid2) (some_val e) t
  typed_moves (suc k) s s' t e = go (λ t' h m. typed_moves k t' s' h m) (step (target X) s) refl e
    where
      go : ((t' : State) → Typed (target X) V.valid2 t' → moves (target X) k t' ≡ Some s' → Typed (target X) V.valid2 s') → (o : Option Next) → step (target X) s ≡ o → keep_on (moves (target X) k) o ≡ Some s' → Typed (target X) V.valid2 s'
      go ih None q e = absurd (grind arith)
      go ih (Some (on t')) q e = ih t' (step_typed (target X) V.valid2 s (on t') t q) e
      go ih (Some (stop o)) q e = absurd (grind arith)
      go ih (Some (fail t')) q e = absurd (grind arith)

  abbrev pub Rel : ℕ → State → State → Type 0
  Rel = Related X P V Inv

  answers_owe : (n : ℕ) (s2 s1 : State) (x : Next) → Rel n s2 s1 → step X.source s1 ≡ Some x → Answers X P n s2 x → Owes (target X) Rel n s2 (Some x)
  answers_owe n s2 s1 (stop o) r e h = h
  answers_owe n s2 s1 (fail t) r e h = tt
  answers_owe n s2 s1 (on s1') r e (k, n', s, m, c, less) =
      (k, n', s, m, record { core = c; typed1 = step_typed X.source V.valid1 s1 (on s1') r.typed1 e; typed2 = typed_moves k s2 s r.typed2 m; drops = step_drops X.source V.plain s1 s1' r.drops e; dests = step_fair X V s1 r.typed1 r.drops r.dests s1' e; inv = laws.inv_kept s1 s1' r.inv e }, less)

  pub simulation : Simulation (target X) X.source Rel
  simulation = record { same_trace = λ n s2 s1 r. r.core.base.trace; follows = λ n s2 s1 r. go n s2 s1 r (step X.source s1) refl }
    where
      answer : (n : ℕ) (s2 s1 : State) (x : Next) → Rel n s2 s1 → step X.source s1 ≡ Some x → Answers X P n s2 x
      answer n s2 s1 x r e = pick r.core.runs
        where
          fl : Flat x
          fl = laws.flat s1 x r.inv e

          ge : GentleTo X r.typed1.types s1.top.frame s1.memory x
          ge = step_gentle X V s1 r.typed1 r.drops r.dests x e

          pick : (Twin X r.core.lent s2.top s1.top × Agrees X s2.top s1.top s2.memory s1.memory × Below X P r.core.lent s2.top.dest s1.top.dest s2.top.frame s1.top.frame s2.callers s1.callers s2.memory s1.memory) ⊎ ((gs ds : List Control) × (s1.callers ≡ gs ++ ds) × ((lowest s1.top gs).frame ≤ s1.top.frame) × P.own n r.core.lent s2.top s1.top gs s2.memory s1.memory × Below X P r.core.lent s2.top.dest (lowest s1.top gs).dest s2.top.frame (lowest s1.top gs).frame s2.callers ds s2.memory s1.memory) → Answers X P n s2 x
          pick (inl (al, ag, be)) = goes_answer X P n s2 x (other_step X P V Inv laws.frames n s2 s1 r al ag be x e fl ge)
          pick (inr (gs, ds, q, lo, own, be)) = laws.steps n s2 s1 r gs ds x q lo own be e fl ge

      go : (n : ℕ) (s2 s1 : State) → Rel n s2 s1 → (o : Option Next) → step X.source s1 ≡ o → Owes (target X) Rel n s2 o
      go n s2 s1 r None e = tt
      go n s2 s1 r (Some x) e = answers_owe n s2 s1 x r e (answer n s2 s1 x r e)

  -- ---- starts

  nothing : Renaming
  nothing h x = None

  no_memory : Linked nothing nothing [] []
  unfolding nothing
  no_memory = record { mem = record { at = λ f x g y e v r. absurd (grind arith) }; apart = λ f x f' x' r u u' e e' k k'. absurd (grind arith) }

  none1 : (x : ℕ) → nothing 0 x ≡ None
  unfolding nothing
  none1 x = refl

  none2 : (h x g y : ℕ) → nothing h x ≡ Some (g, y) → g < 0
  unfolding nothing
  none2 h x g y e = absurd (grind arith)

  state_of : Entry → List ℕ → List Value → State
  state_of e answers vs = record { memory = record { frame = 0; slots = vs } ∷ []; top = new_control e.function 0 None; callers = []; next = 1; answers = answers; trace = [] }

  base_start : (e : Entry) (answers : List ℕ) (place : ℕ → Option ℕ) (ws vs : List Value) → Base (opened nothing 0 0 place) (state_of e answers ws) (state_of e answers vs)
  unfolding state_of nothing
  base_start e answers place ws vs = record {
    fresh1 = λ k x le. opened_old nothing 0 0 place none1 none2 k x (λ p. absurd (omega (arith, p, le)));
    fresh2 = λ k x g y q. below k x g y (opened_parts nothing 0 0 place none1 none2 k x g y q);
    top1 = omega arith;
    top2 = omega arith;
    answers = refl;
    trace = refl;
  }
    where
      below : (k x g y : ℕ) → ((k ≡ 0) × (g ≡ 0) × (place x ≡ Some y)) ⊎ ((0 ≡ k → ⊥) × (nothing k x ≡ Some (g, y))) → g < 1
      below k x g y (inl p) = (let e = p.1 in omega (arith, e))
      below k x g y (inr p) = (let lt = none2 k x g y p.1 in omega (arith, lt))

  same_args : (j : Renaming) (vs : List Value) → AllPlain vs → AllSame j vs vs
  same_args j vs h = (plains_self j vs h, tights_self vs)

  start_other : (e : Entry) (answers : List ℕ) (b : TypedBody) → AllPlain e.args → (e.function ≡ X.f → ⊥) → slice_get X.source.bodies e.function ≡ Some b → Core X P 0 (state_of e answers (new_slots D b.locals e.args)) (state_of e answers (new_slots D b.locals e.args))
  unfolding state_of open_frame
  start_other e answers b h ne eb =
      let vs = new_slots D b.locals e.args in
      let j' = opened nothing 0 0 Some in
      let rel : ValuesRel j' vs vs = slots_rel j' D b.locals e.args e.args (plains_self j' e.args h) in
      record {
        lent = j';
        base = base_start e answers Some vs vs;
        linked = linked_open nothing 0 0 Some none1 none2 [] [] vs vs no_memory (λ x x' y p q. some_val (p ∙ sym q)) (λ x y q v k. subst (λ y. SomeRel j' v (slice_get vs y)) (some_val q) (value_in j' vs vs x v rel k));
        runs = inl (record { other = ne; function = refl; block = refl; at = refl; roots = λ x. opened_at nothing 0 0 Some none1 none2 x x refl; only = λ i x y q. only i x y (opened_parts nothing 0 0 Some none1 none2 i x 0 y q); drops = tt }, agree vs (slots_tight D b.locals e.args e.args (tights_self e.args)), refl);
      }
    where
      only : (i x y : ℕ) → ((i ≡ 0) × (◌≡◌ {A = ℕ} 0 0) × (Some x ≡ Some y)) ⊎ ((0 ≡ i → ⊥) × (nothing i x ≡ Some (0, y))) → (i ≡ 0) × (x ≡ y)
      only i x y (inl p) = (p.0, some_val p.2)
      only i x y (inr p) = (let lt = none2 i x 0 y p.1 in absurd (omega (arith, lt)))

      agree : (vs : List Value) → Tights vs vs → Agrees X (new_control e.function 0 None) (new_control e.function 0 None) (open_frame [] 0 vs) (open_frame [] 0 vs)
      agree vs t b' x ty v w eb' ex p q = tight_agree D v w ty (tight_in vs vs x v w t (sym (open_same [] 0 vs x) ∙ p) (sym (open_same [] 0 vs x) ∙ q))

  start_own : (e : Entry) (answers : List ℕ) → AllPlain e.args → length e.args ≡ X.body1.args → e.function ≡ X.f → (n : ℕ) × Core X P n (state_of e answers (new_slots D X.body2.locals e.args)) (state_of e answers (new_slots D X.body1.locals e.args))
  unfolding state_of open_frame
  start_own e answers h few p =
      let ws = new_slots D X.body2.locals e.args in
      let vs = new_slots D X.body1.locals e.args in
      let j' = opened nothing 0 0 P.place in
      let l' = linked_open nothing 0 0 P.place none1 none2 [] [] ws vs no_memory laws.frames.once (λ x y q v k. laws.frames.slots j' e.args e.args (same_args j' e.args h) (omega (arith, few)) x y q v k) in
      let (n, own) = laws.frames.begins nothing 0 0 None None [] [] e.args e.args (same_args nothing e.args h) (record { whole = all_plain e.args h; all = few }) none1 none2 l' in (
        n,
        record {
          lent = j';
          base = base_start e answers P.place ws vs;
          linked = l';
          runs = inr ([], [], refl, omega arith, subst (λ g. P.own n j' (new_control g 0 None) (new_control g 0 None) [] (open_frame [] 0 ws) (open_frame [] 0 vs)) (sym p) own, refl);
        },
      )

  pub start_core : (e : Entry) (b : TypedBody) (answers : List ℕ) → slice_get X.source.bodies e.function ≡ Some b → AllPlain e.args → length e.args ≡ b.args → (n : ℕ) × Core X P n (start (target X) e answers) (start X.source e answers)
  unfolding state_of
  start_core e b answers eb h few = go (same_or_not e.function X.f)
    where
      states : (o2 o1 : Option TypedBody) → slice_get X.bodies e.function ≡ o2 → slice_get X.source.bodies e.function ≡ o1 → (n : ℕ) → Core X P n (state_of e answers (slots_at X.source e.args o2)) (state_of e answers (slots_at X.source e.args o1)) → Core X P n (start (target X) e answers) (start X.source e answers)
      states o2 o1 p q n c = subst (λ o. Core X P n (state_of e answers (slots_at X.source e.args o)) (start X.source e answers)) (sym p) (subst (λ o. Core X P n (state_of e answers (slots_at X.source e.args o2)) (state_of e answers (slots_at X.source e.args o))) (sym q) c)

      go : ((nat_eq e.function X.f ≡ true) × (e.function ≡ X.f)) ⊎ ((nat_eq e.function X.f ≡ false) × (e.function ≡ X.f → ⊥)) → (n : ℕ) × Core X P n (start (target X) e answers) (start X.source e answers)
      go (inl p) =
          let (n, c) = start_own e answers h (subst (λ (b : TypedBody). length e.args ≡ b.args) (some_val (sym eb ∙ ap (slice_get X.source.bodies) p.1 ∙ X.at1)) few) p.1 in
          (n, states (Some X.body2) (Some X.body1) (ap (slice_get X.bodies) p.1 ∙ X.at2) (ap (slice_get X.source.bodies) p.1 ∙ X.at1) n c)
      go (inr p) = (0, states (Some b) (Some b) (X.others e.function p.1 ∙ eb) eb 0 (start_other e answers b h p.1 eb))

  -- ---- crates

  pub law : (target' source : Crate) → code_of source ≡ X.source → code_of target' ≡ target X → target'.defs ≡ source.defs → target'.outsides ≡ source.outsides → map header target'.functions ≡ map header source.functions → ((e : Entry) → IsEntry X.source e → AllPlain e.args) → ((e : Entry) (k : IsEntry X.source e) → length e.args ≡ k.body.args) → ((e : Entry) → IsEntry X.source e → (answers : List ℕ) → Inv (start X.source e answers)) → ((e : Entry) → IsEntry X.source e → (answers : List ℕ) → Typed X.source V.valid1 (start X.source e answers)) → ((e : Entry) → IsEntry X.source e → (answers : List ℕ) → Typed (target X) V.valid2 (start (target X) e answers)) → Refines target' source
  law target' source is1 is2 d o h plain few inv ty1 ty2 =
      refines_by target' source Rel (subst (λ C. Simulation (code_of target') C Rel) (sym is1) (subst (λ C. Simulation C X.source Rel) (sym is2) simulation)) d o h
      (λ e k answers. subst (λ C. (n : ℕ) × Rel n (start (code_of target') e answers) (start C e answers)) (sym is1) (subst (λ C. (n : ℕ) × Rel n (start C e answers) (start X.source e answers)) (sym is2) (first e (subst (λ C. IsEntry C e) is1 k) answers)))
    where
      first : (e : Entry) → IsEntry X.source e → (answers : List ℕ) → (n : ℕ) × Rel n (start (target X) e answers) (start X.source e answers)
      first e k answers =
          let (n, c) = start_core e k.body answers k.there (plain e k) (few e k) in
          (n, record { core = c; typed1 = ty1 e k answers; typed2 = ty2 e k answers; drops = record { top = λ d q. absurd (grind arith); callers = tt }; dests = tt; inv = inv e k answers })
