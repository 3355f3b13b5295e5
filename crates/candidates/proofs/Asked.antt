-- The work of an optimised body goes on by one answer.
use Rattle.std.proofs.Common.{◌≡◌, refl, sym, ap, ap₂, ◌∙◌, subst, ℕ, ◌<◌, Bool, true, false, not, ◌&&◌, ◌||◌, List, [], ◌∷◌, ◌++◌, append_assoc, append-nil, length, map, drop, arith}
use Rattle.std.specs.Prelude.{Option, Some, None, if◌then◌else◌, nat_lt, option_map, MatchOption, IfSome}
use Rattle.std.proofs.lemmas.List.{map-append}
use Rattle.bit_rows.specs.Rows.{row_at, stands}
use Rattle.mir_syntax.specs.Drops.{fn_number}
use Rattle.mir_syntax.specs.declared.types.FnId.{FnId}
use Rattle.mir_syntax.specs.declared.program.Program.{Program}
use Rattle.call_graph.specs.Graph.{reach, asks}
use Rattle.call_graph.proofs.Once.{stands_first, stands_right}
use Rattle.query_plan.specs.declared.kind.Kind.TheVariants as kind
use Rattle.query_plan.specs.Queries.{Pipeline, is_never, is_large, qualifies, graph, prom, may_take, takes, cands, opt}
use Rattle.query_plan.specs.Needs.{query, asked, asked_of}
use Rattle.query_plan.specs.Source.{IsSource}
use Rattle.query_plan.proofs.Calls.{asks_of_cand}
use Rattle.candidates.specs.declared.walk.Walk.{Walk}
use Rattle.candidates.specs.declared.asking.Asking.{Asking}
use Rattle.candidates.specs.declared.asking.Part.{Part}
use Rattle.candidates.specs.declared.asking.Part.TheVariants as part
use Rattle.candidates.specs.Walk.{IsWalk, coming_from, coming_with, Took, Brings, never_in}
use Rattle.candidates.specs.Comes.{never_of, brings_of, all_of, comes_in, comes_after}
use Rattle.candidates.specs.Asking.{IsOf, PartBelow, lent_of, left_with, next_of, then_of, ahead, Known, IsBetween, IsAsking, Asks, GoesOn, entered}
use Rattle.candidates.proofs.Walking.{brings_walk, brings_coming}
use Rattle.candidates.proofs.Layers.{in_wanted}

-- the walk's test is that of the pipeline
pub same_never : (p : Program) {B : Type 0} (P : Pipeline B) → IsOf p P → never_in p.functions ≡ never_of P
same_never p P i = λ j g. sym (i.never g) j

module _ {B : Type 0} (P : Pipeline B) (is : IsSource P) (f : ℕ) where
  abbrev n : ℕ
  n = P.functions

  abbrev back : ℕ → Bool
  back g = stands f (reach (graph P) g)

  abbrev both_of : ℕ → List ℕ
  both_of g = query P.functions kind.Qualif g ∷ query P.functions kind.Opt g ∷ []

  abbrev if_asked : Bool → ℕ → List ℕ
  if_asked b g = if b then both_of g else []

  abbrev unless : Bool → ℕ → List ℕ
  unless b g = if b then [] else both_of g

  lent_join : (xs ys : List ℕ) → lent_of P f (xs ++ ys) ≡ lent_of P f xs ++ lent_of P f ys
  lent_join [] ys = refl
  lent_join (x ∷ xs) ys =
      let own : List ℕ = if may_take P f x then x ∷ [] else [] in
      ap (λ (zs : List ℕ). own ++ zs) (lent_join xs ys) ∙ sym (append_assoc own (lent_of P f xs) (lent_of P f ys))

  -- ---- a candidate

  record Cand (g : ℕ) : Type 0 where
    pub cand : stands g (cands P (opt P) f) ≡ true
    pub takable : is_never (P.inlining g) ≡ false

  cand_of : (done rest : List ℕ) (g : ℕ) → all_of P f ≡ done ++ g ∷ rest → Cand g
  cand_of done rest g e =
      let h : stands g (all_of P f) ≡ true = subst (λ (xs : List ℕ). stands g xs ≡ true) (sym e) (stands_right g done (g ∷ rest) (stands_first g rest)) in
      let w = in_wanted (never_of P) g (cands P (opt P) f) h in
      record { cand = w.0; takable = w.1 }

  asks_is : (g : ℕ) → Cand g → asks (graph P) f g ≡ (P.below f g || not (back g))
  asks_is g c = asks_of_cand P is f g c.cand

  -- what is asked of it, given whether its path is above
  asked_is : (g : ℕ) → Cand g → (b : Bool) → P.below f g ≡ b → asked P f g ≡ (if b then [] else query P.functions kind.Reach g ∷ []) ++ if_asked (b || not (back g)) g
  asked_is g c b e =
      ap (λ (v : Bool). let xs : List ℕ = if v then [] else (if P.below f g then [] else query P.functions kind.Reach g ∷ []) ++ if_asked (asks (graph P) f g) g in xs) c.takable
      ∙ ap₂ (λ (u v : Bool). let xs : List ℕ = (if u then [] else query P.functions kind.Reach g ∷ []) ++ if_asked v g in xs) e (asks_is g c ∙ ap (λ (u : Bool). u || not (back g)) e)

  asked_other : (g : ℕ) → Cand g → P.below f g ≡ false → asked P f g ≡ query P.functions kind.Reach g ∷ unless (back g) g
  asked_other g c e = asked_is g c false e ∙ ap (λ (xs : List ℕ). query P.functions kind.Reach g ∷ xs) (turned (back g))
    where
      turned : (b : Bool) → if_asked (not b) g ≡ unless b g
      turned true = refl
      turned false = refl

  -- ---- the next one is at hand

  pub entered_asks : (a : Asking) (v : Walk) (one : Option FnId) → IsBetween P f a → Took a.walk v (option_map fn_number one) → Asks P f (record { part = entered P f one; walk = v; large = a.large; lent = a.lent }) (left_with P f (comes_in P f a.walk))
  entered_asks a v None i t =
      let w = t.walk P.functions i.walk in
      let none : comes_in P f a.walk ≡ [] = t.next (never_of P) (brings_of P f) in
      record {
        is = record { done = i.done; all = i.all ∙ ap (λ (xs : List ℕ). i.done ++ xs) none; stays = record { walk = w.0; part = tt }; known = i.large; lent = i.lent };
        needs = ap (left_with P f) (sym none);
      }
  entered_asks a v (Some g) i t =
      let w = t.walk P.functions i.walk in
      let more : comes_in P f a.walk ≡ g.0 ∷ comes_after P f g.0 v = t.next (never_of P) (brings_of P f) in
      let all : all_of P f ≡ i.done ++ g.0 ∷ comes_after P f g.0 v = i.all ∙ ap (λ (xs : List ℕ). i.done ++ xs) more in
      let c = cand_of i.done (comes_after P f g.0 v) g.0 all in
      go c w.0 w.1 more all (P.below f g.0) refl
    where
      go : Cand g.0 → IsWalk P.functions v → g.0 < P.functions → comes_in P f a.walk ≡ g.0 ∷ comes_after P f g.0 v → all_of P f ≡ i.done ++ g.0 ∷ comes_after P f g.0 v → (b : Bool) → P.below f g.0 ≡ b
          → Asks P f (record { part = if b then part.Qualif g else part.Reach g; walk = v; large = a.large; lent = a.lent }) (left_with P f (comes_in P f a.walk))
      go c w l more all true e = record {
        is = record { done = i.done; all = all; stays = record { walk = w; part = l }; known = (i.large, (let k = asks_is g.0 c in grind arith)); lent = i.lent };
        needs = sym (ap (left_with P f) more ∙ ap (λ (xs : List ℕ). (xs ++ asked_of P f (comes_after P f g.0 v)) ++ query P.functions kind.Elab f ∷ []) (asked_is g.0 c true e));
      }
      go c w l more all false e = record {
        is = record { done = i.done; all = all; stays = record { walk = w; part = l }; known = (i.large, e); lent = i.lent };
        needs = sym (ap (left_with P f) more ∙ ap (λ (xs : List ℕ). (xs ++ asked_of P f (comes_after P f g.0 v)) ++ query P.functions kind.Elab f ∷ []) (asked_other g.0 c e)
            ∙ ap (λ (xs : List ℕ). query P.functions kind.Reach g.0 ∷ xs) (append_assoc (unless (back g.0) g.0) (asked_of P f (comes_after P f g.0 v)) (query P.functions kind.Elab f ∷ [])));
      }

  -- ---- a candidate is done

  between : (a a2 : Asking) (g : ℕ) (done : List ℕ) → all_of P f ≡ done ++ g ∷ comes_after P f g a.walk → IsWalk P.functions a2.walk → comes_in P f a2.walk ≡ comes_after P f g a.walk → a2.large ≡ is_large P f
      → map fn_number a.lent ≡ lent_of P f done → map fn_number a2.lent ≡ map fn_number a.lent ++ lent_of P f (g ∷ []) → IsBetween P f a2
  between a a2 g done all walk comes large was lent = record {
    done = done ++ g ∷ [];
    all = all ∙ sym (append_assoc done (g ∷ []) (comes_after P f g a.walk)) ∙ ap (λ (xs : List ℕ). (done ++ g ∷ []) ++ xs) (sym comes);
    walk = walk;
    large = large;
    lent = lent ∙ ap (λ (xs : List ℕ). xs ++ lent_of P f (g ∷ [])) was ∙ sym (lent_join done (g ∷ []));
  }

  -- who isn't taken brings nobody
  idle : (w : Walk) (g : ℕ) → takes P (opt P) f g ≡ false → comes_in P f w ≡ comes_after P f g w
  idle w g h =
      let none : brings_of P f g ≡ [] = ap (λ (t : Bool). let xs : List ℕ = if t then P.callees (opt P g) else [] in xs) h in
      nobody ∙ ap (λ (xs : List ℕ). coming_with (never_of P) (brings_of P f) w xs) (sym none)
    where
      nobody : comes_in P f w ≡ coming_with (never_of P) (brings_of P f) w []
      nobody = ap (λ (xs : List ℕ). coming_from (never_of P) (brings_of P f) w.layers (row_at w.known 0) xs (drop w.at w.layer)) (sym (append-nil w.fresh))

  then_is : (a : Asking) (q : Part) (xs : List ℕ) (a2 : Asking) → a.part ≡ q → Asks P f a2 xs → then_of P f q a.walk ≡ xs → GoesOn P f a a2
  then_is a q xs a2 p k e = subst (Asks P f a2) (sym (ap (λ (r : Part). then_of P f r a.walk) p ∙ e)) k

  -- ---- the cost came

  pub cost_came : (a : Asking) (large : Bool) (c : ℕ) → IsAsking P f a → a.part ≡ part.Cost → large ≡ nat_lt 2000 c → c ≡ P.cost (prom P f) → IsBetween P f (record { part = a.part; walk = a.walk; large = large; lent = a.lent })
  cost_came a large c i p l e = record {
    done = i.done;
    all = i.all ∙ ap (λ (q : Part). i.done ++ ahead P f q a.walk) p;
    walk = i.stays.walk;
    large = l ∙ ap (nat_lt 2000) e;
    lent = i.lent;
  }

  pub after_cost : (a a2 : Asking) → a.part ≡ part.Cost → Asks P f a2 (left_with P f (comes_in P f a.walk)) → GoesOn P f a a2
  after_cost a a2 p k = then_is a part.Cost (left_with P f (comes_in P f a.walk)) a2 p k refl

  -- ---- whether the candidate reaches f came

  module _ (a : Asking) (g : FnId) (i : IsAsking P f a) (p : a.part ≡ part.Reach g) where
    reach_all : all_of P f ≡ i.done ++ g.0 ∷ comes_after P f g.0 a.walk
    reach_all = i.all ∙ ap (λ (q : Part). i.done ++ ahead P f q a.walk) p

    reach_known : (a.large ≡ is_large P f) × (P.below f g.0 ≡ false)
    reach_known = subst (λ (q : Part). Known P f q a.large) p i.known

    reach_low : g.0 < P.functions
    reach_low = subst (PartBelow P.functions) p i.stays.part

    reach_asks : (b : Bool) → back g.0 ≡ b → asks (graph P) f g.0 ≡ not b
    reach_asks b h = asks_is g.0 (cand_of i.done (comes_after P f g.0 a.walk) g.0 reach_all) ∙ ap₂ (λ (x y : Bool). x || not y) reach_known.1 h

    -- f is reached, so f doesn't ask for g
    pub reach_back : back g.0 ≡ true → IsBetween P f a
    reach_back h =
        let no = reach_asks true h in
        let not_taken : takes P (opt P) f g.0 ≡ false = grind arith in
        let not_lent : may_take P f g.0 ≡ false = grind arith in
        let none : lent_of P f (g.0 ∷ []) ≡ [] = ap (λ (t : Bool). let xs : List ℕ = (if t then g.0 ∷ [] else []) ++ [] in xs) not_lent in
        between a a g.0 i.done reach_all i.stays.walk (idle a.walk g.0 not_taken) reach_known.0 i.lent (sym (append-nil (map fn_number a.lent)) ∙ ap (λ (xs : List ℕ). map fn_number a.lent ++ xs) (sym none))

    pub after_back : (a2 : Asking) → back g.0 ≡ true → Asks P f a2 (left_with P f (comes_in P f a.walk)) → GoesOn P f a a2
    after_back a2 h k =
        let no = reach_asks true h in
        let not_taken : takes P (opt P) f g.0 ≡ false = grind arith in
        then_is a (part.Reach g) (left_with P f (comes_in P f a.walk)) a2 p k
        (ap (λ (t : Bool). let xs : List ℕ = unless t g.0 ++ left_with P f (comes_after P f g.0 a.walk) in xs) h ∙ ap (left_with P f) (sym (idle a.walk g.0 not_taken)))

    pub after_forth : back g.0 ≡ false → GoesOn P f a (record { part = part.Qualif g; walk = a.walk; large = a.large; lent = a.lent })
    after_forth h =
        let yes = reach_asks false h in
        let a2 : Asking = record { part = part.Qualif g; walk = a.walk; large = a.large; lent = a.lent } in
        let k : Asks P f a2 (next_of P f (part.Qualif g) ∷ then_of P f (part.Qualif g) a.walk) = record { is = record { done = i.done; all = reach_all; stays = record { walk = i.stays.walk; part = reach_low }; known = (reach_known.0, yes); lent = i.lent }; needs = refl } in
        then_is a (part.Reach g) (next_of P f (part.Qualif g) ∷ then_of P f (part.Qualif g) a.walk) a2 p k
        (ap (λ (t : Bool). let xs : List ℕ = unless t g.0 ++ left_with P f (comes_after P f g.0 a.walk) in xs) h)

  -- ---- whether it qualifies came

  pub after_qualif : (a : Asking) (g : FnId) (flag : Bool) → IsAsking P f a → a.part ≡ part.Qualif g → flag ≡ qualifies P g.0 → GoesOn P f a (record { part = part.Opt g flag; walk = a.walk; large = a.large; lent = a.lent })
  after_qualif a g flag i p e =
      let known : (a.large ≡ is_large P f) × (asks (graph P) f g.0 ≡ true) = subst (λ (q : Part). Known P f q a.large) p i.known in
      let a2 : Asking = record { part = part.Opt g flag; walk = a.walk; large = a.large; lent = a.lent } in
      let k : Asks P f a2 (next_of P f (part.Opt g flag) ∷ then_of P f (part.Opt g flag) a.walk) = record { is = record { done = i.done; all = i.all ∙ ap (λ (q : Part). i.done ++ ahead P f q a.walk) p; stays = record { walk = i.stays.walk; part = subst (PartBelow P.functions) p i.stays.part }; known = (known.0, known.1, e); lent = i.lent }; needs = refl } in
      then_is a (part.Qualif g) (next_of P f (part.Opt g flag) ∷ then_of P f (part.Opt g flag) a.walk) a2 p k refl

  -- ---- its optimised body came

  module _ (a : Asking) (g : FnId) (q : Bool) (i : IsAsking P f a) (p : a.part ≡ part.Opt g q) where
    opt_all : all_of P f ≡ i.done ++ g.0 ∷ comes_after P f g.0 a.walk
    opt_all = i.all ∙ ap (λ (r : Part). i.done ++ ahead P f r a.walk) p

    opt_known : (a.large ≡ is_large P f) × (asks (graph P) f g.0 ≡ true) × (q ≡ qualifies P g.0)
    opt_known = subst (λ (r : Part). Known P f r a.large) p i.known

    may : may_take P f g.0 ≡ true
    may =
        let yes = opt_known.1 in
        let takable = (cand_of i.done (comes_after P f g.0 a.walk) g.0 opt_all).takable in
        grind arith

    -- whom it brings
    brings_is : (xs : List ℕ) → xs ≡ (if P.takes a.large (P.inlining g.0) q (opt P g.0) then P.callees (opt P g.0) else []) → xs ≡ brings_of P f g.0
    brings_is xs e =
        let known = opt_known in
        let large = known.0 in let flag = known.2 in
        e ∙ (λ j. if P.takes (large j) (P.inlining g.0) (flag j) (opt P g.0) then P.callees (opt P g.0) else [])
        ∙ ap (λ (m : Bool). let ys : List ℕ = if m && P.takes (is_large P f) (P.inlining g.0) (qualifies P g.0) (opt P g.0) then P.callees (opt P g.0) else [] in ys) (sym may)

    pub opt_comes : (v : Walk) (xs : List ℕ) → Brings (never_of P) P.functions a.walk v xs → xs ≡ (if P.takes a.large (P.inlining g.0) q (opt P g.0) then P.callees (opt P g.0) else []) → comes_in P f v ≡ comes_after P f g.0 a.walk
    opt_comes v xs b e = brings_coming (never_of P) P.functions a.walk v xs b (brings_of P f) ∙ ap (λ (ys : List ℕ). coming_with (never_of P) (brings_of P f) a.walk ys) (brings_is xs e)

    -- its body is lent, and whom it brings comes
    pub opt_came : (v : Walk) (lent : List FnId) (xs : List ℕ) → Brings (never_of P) P.functions a.walk v xs → xs ≡ (if P.takes a.large (P.inlining g.0) q (opt P g.0) then P.callees (opt P g.0) else []) → lent ≡ a.lent ++ g ∷ [] → IsBetween P f (record { part = a.part; walk = v; large = a.large; lent = lent })
    opt_came v lent xs b e l =
        let one : lent_of P f (g.0 ∷ []) ≡ g.0 ∷ [] = ap (λ (t : Bool). let ys : List ℕ = (if t then g.0 ∷ [] else []) ++ [] in ys) may in
        between a (record { part = a.part; walk = v; large = a.large; lent = lent }) g.0 i.done opt_all (brings_walk (never_of P) P.functions a.walk v xs i.stays.walk b) (opt_comes v xs b e) opt_known.0 i.lent
        (ap (map fn_number) l ∙ map-append fn_number a.lent (g ∷ []) ∙ ap (λ (ys : List ℕ). map fn_number a.lent ++ ys) (sym one))

    pub after_opt : (v : Walk) (a2 : Asking) → comes_in P f v ≡ comes_after P f g.0 a.walk → Asks P f a2 (left_with P f (comes_in P f v)) → GoesOn P f a a2
    after_opt v a2 comes k = then_is a (part.Opt g q) (left_with P f (comes_in P f v)) a2 p k (ap (left_with P f) (sym comes))

pub taken_below : (n : ℕ) (one : Option FnId) → MatchOption (option_map fn_number one) (Unit {0}) (λ g. g < n) → IfSome one (λ g. g.0 < n)
taken_below n None h = tt
taken_below n (Some g) h = h

-- what was brought by the program's attributes was so by the pipeline's
pub brought_by : (p : Program) {B : Type 0} (P : Pipeline B) → IsOf p P → (w v : Walk) (xs : List ℕ) → Brings (never_in p.functions) (length p.functions) w v xs → Brings (never_of P) P.functions w v xs
brought_by p P i w v xs b =
    subst (λ never. Brings never P.functions w v xs) (same_never p P i) (subst (λ (m : ℕ). Brings (never_in p.functions) m w v xs) (sym i.functions) b)
