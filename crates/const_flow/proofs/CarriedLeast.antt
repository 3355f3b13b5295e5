-- The least solution by other names for the facts is the least one.
use Rattle.std.proofs.Common.{◌≡◌, sym, ap, ◌∙◌, subst, ℕ, suc, zero, ◌+◌, ◌<◌, List, map, Some, slice_get, arith}
use Rattle.std.proofs.lemmas.List.{length-map}
use Rattle.std.proofs.lemmas.Option.{slice_get_within}
use Rattle.mir_syntax.proofs.Lists.{map_back, map_there}
use Rattle.flow_engine.specs.declared.edges.Edge.{Edge}
use Rattle.flow_engine.specs.Flow.{Arrow, Solves, AllFacts, Least, Lawful, starts_to, arrows_at, problem}
use Rattle.flow_engine.proofs.Least.{least_long, least_start, least_edge}
use Rattle.flow_engine.proofs.Lists.{length-starts, start_at, arrow_is, arrow_to}
use Rattle.const_flow.specs.Carried.{IsNaming, BelowAs, joined_as, started_as, sent_as, rank_as, carried_lawful}

pub start_get : {A : Type 0} (start : ℕ → A) (k n b : ℕ) → b < n → slice_get (starts_to start k n) b ≡ Some (start (k + b))
start_get start k zero b l = absurd (omega arith)
start_get start k (suc n) zero l = ap (λ i. Some (start i)) (let z : k ≡ k + 0 = omega arith in z)
start_get start k (suc n) (suc b) l = start_get start (suc k) n b (omega arith) ∙ ap (λ i. Some (start i)) (let z : suc k + b ≡ k + suc b = omega arith in z)

module _ {A B : Type 0} (OkA : A → Type 0) (OkB : B → Type 0) (read : A → B) (written : B → A) (naming : IsNaming OkA OkB read written) (Below : B → B → Type 0) (rank : B → ℕ) (height : ℕ) (start : ℕ → B) (join : B → B → B) (flow : ℕ → B → B) (l : Lawful OkB Below rank height start join flow) (n : ℕ) (es : List Edge) where
  law : Lawful OkA (BelowAs OkA Below read) (rank_as read rank) height (started_as written start) (joined_as read written join) (sent_as read written flow)
  law = carried_lawful OkA OkB read written naming Below rank height start join flow l

  named_below : (x y : B) → OkB x → OkB y → Below x y → BelowAs OkA Below read (written x) (written y)
  named_below x y k m le = ((naming.written_ok x k, naming.written_ok y m), subst (λ v. Below v (read (written y))) (sym (naming.read_written x k)) (subst (Below x) (sym (naming.read_written y m)) le))

  -- a solution by the other names
  module _ (ws : List B) (ok : AllFacts OkB ws) (s : Solves Below (problem join start flow n es) ws) where
    named_ok : AllFacts OkA (map written ws)
    named_ok b x g = let w = map_back written ws b x g in subst OkA w.2 (naming.written_ok w.0 (ok b w.0 w.1))

    named_start : (b : ℕ) (t x : A) → slice_get (starts_to (started_as written start) 0 n) b ≡ Some t → slice_get (map written ws) b ≡ Some x → BelowAs OkA Below read t x
    unfolding problem
    named_start b t x is g =
        let w = map_back written ws b x g in
        let t_is : t ≡ written (start (0 + b)) = start_at (started_as written start) 0 n b t is in
        let low : b < n = (let k = slice_get_within (starts_to (started_as written start) 0 n) b t is in omega (arith, length-starts (started_as written start) 0 n)) in
        let below : Below (start (0 + b)) w.0 = s.start b (start (0 + b)) w.0 (start_get start 0 n b low) w.1 in
        subst (BelowAs OkA Below read t) w.2 (subst (λ t. BelowAs OkA Below read t (written w.0)) (sym t_is) (named_below (start (0 + b)) w.0 (l.start_ok (0 + b)) (ok b w.0 w.1) below))

    named_edge : (i : ℕ) (e : Arrow A) (x y : A) → slice_get (arrows_at (sent_as read written flow) 0 es) i ≡ Some e → slice_get (map written ws) e.from ≡ Some x → slice_get (map written ws) e.to ≡ Some y → BelowAs OkA Below read (e.flow x) y
    unfolding problem
    named_edge i e x y is gx gy =
        let a = arrow_is (sent_as read written flow) es i e is in
        let wx = map_back written ws e.from x gx in
        let wy = map_back written ws e.to y gy in
        let r : Arrow B = record { from = a.edge.from; to = a.edge.to; flow = flow (0 + i) } in
        let first : Below (flow (0 + i) wx.0) wy.0 = s.edge i r wx.0 wy.0 (arrow_to flow 0 es i a.edge a.at) (ap (slice_get ws) (sym a.from) ∙ wx.1) (ap (slice_get ws) (sym a.to) ∙ wy.1) in
        let ox = ok e.from wx.0 wx.1 in
        let below : Below (flow i wx.0) wy.0 = subst (λ k. Below (flow k wx.0) wy.0) (let z : 0 + i ≡ i = omega arith in z) first in
        let named = named_below (flow i wx.0) wy.0 (l.flow_ok i wx.0 ox) (ok e.to wy.0 wy.1) below in
        let flown : written (flow i wx.0) ≡ sent_as read written flow i x = ap (λ v. written (flow i v)) (sym (naming.read_written wx.0 ox)) ∙ ap (sent_as read written flow i) wx.2 in
        subst (BelowAs OkA Below read (e.flow x)) wy.2 (subst (λ v. BelowAs OkA Below read v (written wy.0)) (flown ∙ sym (ap (λ (f : A → A). f x) a.flows)) named)

    named_solves : Solves (BelowAs OkA Below read) (problem (joined_as read written join) (started_as written start) (sent_as read written flow) n es) (map written ws)
    unfolding problem
    named_solves = record {
      same_length = length-map ws written ∙ s.same_length ∙ length-starts start 0 n ∙ sym (length-starts (started_as written start) 0 n);
      start = named_start;
      edge = named_edge;
    }

  module _ (ys : List A) (m : Least OkA (BelowAs OkA Below read) (problem (joined_as read written join) (started_as written start) (sent_as read written flow) n es) ys) where
    read_start : (b : ℕ) (t y : B) → slice_get (starts_to start 0 n) b ≡ Some t → slice_get (map read ys) b ≡ Some y → Below t y
    read_start b t y is g =
        let w = map_back read ys b y g in
        let t_is : t ≡ start b = start_at start 0 n b t is ∙ ap start (let z : 0 + b ≡ b = omega arith in z) in
        let below = least_start OkA (BelowAs OkA Below read) (rank_as read rank) height (started_as written start) (joined_as read written join) (sent_as read written flow) law n es ys m b w.0 w.1 in
        subst (Below t) w.2 (subst (λ v. Below v (read w.0)) (naming.read_written (start b) (l.start_ok b) ∙ sym t_is) below.1)

    read_edge : (i : ℕ) (e : Arrow B) (x y : B) → slice_get (arrows_at flow 0 es) i ≡ Some e → slice_get (map read ys) e.from ≡ Some x → slice_get (map read ys) e.to ≡ Some y → Below (e.flow x) y
    read_edge i e x y is gx gy =
        let a = arrow_is flow es i e is in
        let wx = map_back read ys e.from x gx in
        let wy = map_back read ys e.to y gy in
        let below = least_edge OkA (BelowAs OkA Below read) (rank_as read rank) height (started_as written start) (joined_as read written join) (sent_as read written flow) law n es ys m i a.edge wx.0 wy.0 a.at (ap (slice_get ys) (sym a.from) ∙ wx.1) (ap (slice_get ys) (sym a.to) ∙ wy.1) in
        let flown : read (written (flow i (read wx.0))) ≡ e.flow x = naming.read_written (flow i (read wx.0)) (l.flow_ok i (read wx.0) (naming.read_ok wx.0 (m.facts e.from wx.0 wx.1))) ∙ ap (flow i) wx.2 ∙ sym (ap (λ (f : B → B). f x) a.flows) in
        subst (Below (e.flow x)) wy.2 (subst (λ v. Below v (read wy.0)) flown below.1)

    pub carried_least : Least OkB Below (problem join start flow n es) (map read ys)
    unfolding problem
    carried_least = record {
      solves = record {
        same_length = length-map ys read ∙ least_long OkA (BelowAs OkA Below read) (rank_as read rank) height (started_as written start) (joined_as read written join) (sent_as read written flow) law n es ys m ∙ sym (length-starts start 0 n);
        start = read_start;
        edge = read_edge;
      };
      facts = λ b y g. (let w = map_back read ys b y g in subst OkB w.2 (naming.read_ok w.0 (m.facts b w.0 w.1)));
      least = λ ws ok s b y z gy gz.
          let w = map_back read ys b y gy in
          let below = m.least (map written ws) (named_ok ws ok s) (named_solves ws ok s) b w.0 (written z) w.1 (map_there written ws b z gz) in
          subst (Below y) (naming.read_written z (ok b z gz)) (subst (λ v. Below v (read (written z))) w.2 below.1);
    }
