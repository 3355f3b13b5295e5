-- The search for components at its start.
use Rattle.std.proofs.Common.{◌≡◌, refl, sym, subst, ◌∙◌, ℕ, zero, suc, [], get_or, arith}
use Rattle.std.specs.Prelude.{replicate}
use Rattle.std.proofs.lemmas.List.{length-replicate}
use Rattle.std.proofs.lemmas.List.Sums.{sum_by-cons}
use Rattle.call_graph.specs.declared.components.Mark.TheVariants.{Unseen}
use Rattle.call_graph.specs.Graph.{Graph}
use Rattle.call_graph.specs.Search.{State, unseen_one, unseen, IsSearch}

everywhere : {A : Type 0} (n : ℕ) (x : A) (i : ℕ) → get_or (replicate n x) i x ≡ x
everywhere zero x i = refl
everywhere (suc n) x zero = refl
everywhere (suc n) x (suc i) = everywhere n x i

all_unseen : (n : ℕ) → unseen (replicate n Unseen) ≡ n
all_unseen zero = refl
all_unseen (suc n) = let r = all_unseen n in let k = sum_by-cons unseen_one Unseen (replicate n Unseen) in omega (arith, r, k)

abbrev pub start : ℕ → State
start n = record { marks = replicate n Unseen; looked = replicate n 0; component = replicate n 0; closed = 0; stack = []; starts = []; path = [] }

pub begun : (G : Graph) (n : ℕ) → G.functions ≡ n → IsSearch G (start n)
begun G n e = record {
  sized = record { marks = length-replicate n Unseen ∙ sym e; looked = length-replicate n 0 ∙ sym e; component = length-replicate n 0 ∙ sym e };
  stack = record { within = λ i l. absurd (omega (arith, l)); marked = λ i l. absurd (omega (arith, l)); placed = λ f i m. (let k = sym (everywhere n Unseen f) ∙ m in absurd (cc)) };
  path = record { on_stack = λ p k. absurd (cc); rises = tt; starts_rise = tt; starts_on = λ p k. absurd (cc); first = λ l. absurd (omega (arith, l)) };
  looked = record {
    none = λ f m. everywhere {A = ℕ} n 0 f;
    most = λ f. (let k = everywhere {A = ℕ} n 0 f in omega (arith, k));
    all = λ i l k. absurd (omega (arith, l));
    led = λ i k l h. absurd (omega (arith, l));
  };
  reaches = λ a b l m h. absurd (omega (arith, l));
  closed = record {
    calls = λ f k m l. (let z = sym (everywhere n Unseen f) ∙ m in absurd (cc));
    both = λ f g m k h. (let z = sym (everywhere n Unseen f) ∙ m in absurd (cc));
    below = λ f m. (let z = sym (everywhere n Unseen f) ∙ m in absurd (cc));
  };
  few = (let u = all_unseen n in omega (arith, u, e));
}

pub begun_at : (G : Graph) (n : ℕ) (s : State) → G.functions ≡ n → s.marks ≡ replicate n Unseen → s.looked ≡ replicate {A = ℕ} n 0 → s.component ≡ replicate {A = ℕ} n 0 → s.closed ≡ 0 → s.stack ≡ [] → s.starts ≡ [] → s.path ≡ [] → IsSearch G s
begun_at G n s e marks looked component closed stack starts path =
    let same : start n ≡ s = (λ i. record { marks = (sym marks) i; looked = (sym looked) i; component = (sym component) i; closed = (sym closed) i; stack = (sym stack) i; starts = (sym starts) i; path = (sym path) i }) in
    subst (IsSearch G) same (begun G n e)
