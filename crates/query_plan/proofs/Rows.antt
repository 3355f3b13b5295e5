-- The needs of small crates, computed. Of a body only its calls and its cost count.
use Rattle.std.proofs.Common.{◌≡◌, refl, ℕ, zero, suc, List, [], ◌∷◌}
use Rattle.std.specs.Prelude.{nat_le, nat_lt}
use Rattle.mir_syntax.specs.declared.body.Inline.TheVariants.{Plain}
use Rattle.call_graph.specs.Graph.{next_known, reach, asks, above, weight}
use Rattle.query_plan.specs.declared.kind.Kind.TheVariants.{Opt}
use Rattle.query_plan.specs.Queries.{Pipeline, cands, lent, inlined, optimised, opt}
use Rattle.query_plan.specs.Needs.{needs_of, query}

record Body : Type 0 where
  pub calls : List ℕ
  pub cost : ℕ

made : List ℕ → ℕ → Body
made calls cost = record { calls = calls; cost = cost }

-- so many functions, whose paths are in the order of their numbers. They are in turn as they were read, and after all steps
crate : ℕ → (ℕ → Body) → (ℕ → Body) → Pipeline (ℕ × Body)
crate n read after = record {
  functions = n;
  body = λ f. (f, read f);
  inlining = λ f. Plain;
  below = λ f g. nat_lt f g;
  simple = λ b. b;
  elab = λ b. b;
  qualif = λ b. nat_lt b.1.cost 20;
  callees = λ b. b.1.calls;
  cost = λ b. b.1.cost;
  takes = λ large inline qualifies b. nat_le b.1.cost 50;
  spliced = λ taken b. (b.0, after b.0);
  rest = λ b. b;
}

-- ---- a calls b, which calls a

a_and_b : ℕ → Body
a_and_b zero = made (1 ∷ []) 35
a_and_b _ = made (0 ∷ []) 40

a_and_b_after : ℕ → Body
a_and_b_after f = made (0 ∷ []) 40

mutual_crate : Pipeline (ℕ × Body)
mutual_crate = crate 2 a_and_b a_and_b_after

-- a asks for b: it needs Callees(a), Cost(a), Qualif(b), Opt(b), then Reach(a), since Opt(b) calls a, and Elab(a). b asks for nothing: it needs
-- Callees(b), Cost(b), Reach(a) and Elab(b)
mutual_needs : (needs_of mutual_crate Opt 0 ≡ 6 ∷ 8 ∷ 3 ∷ 15 ∷ 10 ∷ 12 ∷ []) × (needs_of mutual_crate Opt 1 ≡ 7 ∷ 9 ∷ 10 ∷ 13 ∷ [])
unfolding mutual_crate crate made a_and_b a_and_b_after reach next_known asks query opt lent inlined optimised weight above
mutual_needs = (refl, refl)

-- ---- f calls itself: it asks for nothing

itself : ℕ → Body
itself f = made (0 ∷ []) 35

alone : Pipeline (ℕ × Body)
alone = crate 1 itself itself

alone_needs : needs_of alone Opt 0 ≡ 3 ∷ 4 ∷ 5 ∷ 6 ∷ []
unfolding alone crate made itself reach next_known asks query opt lent inlined optimised weight above
alone_needs = refl

-- ---- z calls m: z, whose path isn't below, asks for it and needs its reach first

m_and_z : ℕ → Body
m_and_z zero = made [] 10
m_and_z _ = made (0 ∷ []) 35

m_and_z_after : ℕ → Body
m_and_z_after f = made [] 10

above_crate : Pipeline (ℕ × Body)
above_crate = crate 2 m_and_z m_and_z_after

above_needs : needs_of above_crate Opt 1 ≡ 7 ∷ 9 ∷ 10 ∷ 2 ∷ 14 ∷ 13 ∷ []
unfolding above_crate crate made m_and_z m_and_z_after reach next_known asks query opt lent inlined optimised weight above
above_needs = refl

-- ---- f calls g, and its path is below: it asks for g with no need of its reach

f_and_g : ℕ → Body
f_and_g zero = made (1 ∷ []) 65
f_and_g _ = made [] 15

f_and_g_after : ℕ → Body
f_and_g_after zero = made [] 50
f_and_g_after _ = made [] 15

below_crate : Pipeline (ℕ × Body)
below_crate = crate 2 f_and_g f_and_g_after

below_needs : needs_of below_crate Opt 0 ≡ 6 ∷ 8 ∷ 3 ∷ 15 ∷ 12 ∷ []
unfolding below_crate crate made f_and_g f_and_g_after reach next_known asks query opt lent inlined optimised weight above
below_needs = refl

-- ---- a calls c, b calls c, c calls b: through c the function a asks for b too

three : ℕ → Body
three zero = made (2 ∷ []) 35
three (suc zero) = made (2 ∷ []) 40
three _ = made (1 ∷ []) 40

-- with c in the place of its call b calls itself, as does a with both in place
three_after : ℕ → Body
three_after zero = made (1 ∷ []) 60
three_after (suc zero) = made (1 ∷ []) 45
three_after _ = made (1 ∷ []) 40

three_crate : Pipeline (ℕ × Body)
three_crate = crate 3 three three_after

three_cands : (cands three_crate (opt three_crate) 0 ≡ 2 ∷ 1 ∷ []) × (cands three_crate (opt three_crate) 1 ≡ 2 ∷ 1 ∷ [])
unfolding three_crate crate made three three_after reach next_known asks opt lent inlined optimised weight above
three_cands = (refl, refl)

-- Opt(b) needs Reach(b), since b's own path isn't below itself, and doesn't ask for itself
three_needs : needs_of three_crate Opt 1 ≡ 10 ∷ 13 ∷ 5 ∷ 23 ∷ 16 ∷ 19 ∷ []
unfolding three_crate crate made three three_after reach next_known asks query opt lent inlined optimised weight above
three_needs = refl
