-- Edges that are found block by block, of those blocks that are reached.
use Rattle.std.proofs.Common.{◌≡◌, ◌⊎◌, inl, inr, refl, sym, ap, ◌∙◌, subst, ℕ, zero, suc, ◌+◌, ◌<◌, List, [], ◌∷◌, ◌++◌, map, length, arith}
use Rattle.std.specs.List.{Contains}
use Rattle.std.proofs.lemmas.Bool.{cases_eq}
use Rattle.std.proofs.lemmas.List.Elements.{Contains-append_left, Contains-append_right, Contains-append_cases}
use Rattle.mir_syntax.specs.Crate.{TypedBlock}
use Rattle.mir_syntax.specs.Parts.{targets}
use Rattle.flow_engine.specs.declared.edges.Edge.{Edge}
use Rattle.liveness.specs.Rows.{block_at}
use Rattle.move_paths.specs.Rows.{edge_on, IsOnward}

has_mapped : (at : ℕ) (us : List ℕ) (e : Edge) → Contains (map (edge_on at) us) e → (e.from ≡ at) × Contains us e.to
has_mapped at [] e p = absurd (let l = p.1 in omega arith)
has_mapped at (u ∷ us) e (zero, l, q) = (ap (λ (e : Edge). e.from) (sym q), (0, omega arith, ap (λ (e : Edge). e.to) q))
has_mapped at (u ∷ us) e (suc k, l, q) = (let p = has_mapped at us e (k, omega arith, q) in (p.0, (suc p.1.0, (let m = p.1.1 in omega arith), p.1.2)))

mapped_has : (at : ℕ) (us : List ℕ) (u : ℕ) → Contains us u → Contains (map (edge_on at) us) (edge_on at u)
mapped_has at [] u p = absurd (let l = p.1 in omega arith)
mapped_has at (v ∷ us) u (zero, l, q) = (0, omega arith, ap (edge_on at) q)
mapped_has at (v ∷ us) u (suc k, l, q) = (let p = mapped_has at us u (k, omega arith, q) in (suc p.0, (let m = p.1 in omega arith), p.2))

module _ (Reached : ℕ → Type 0) (blocks : List TypedBlock) where
  pub onward_none : IsOnward Reached blocks 0 []
  onward_none = record { only = λ e p. absurd (let l = p.1 in omega arith); all = λ a t l h c. absurd (omega arith) }

  -- one more block, to which no path leads
  pub onward_skips : (at : ℕ) (edges : List Edge) → IsOnward Reached blocks at edges → (Reached at → ⊥) → IsOnward Reached blocks (at + 1) edges
  onward_skips at edges w no_path = record {
    only = λ e p. (let q = w.only e p in ((let m = q.0 in omega arith), q.1, q.2));
    all = λ a t l h c. elim (cases_eq a at) [ inl s ↦ absurd (no_path (subst Reached s h)) | inr ne ↦ w.all a t (omega arith) h c ];
  }

  -- one more block's edges
  pub onward_more : (at : ℕ) (edges edges2 : List Edge) (us : List ℕ) → IsOnward Reached blocks at edges → Reached at → us ≡ targets (block_at blocks at).term → edges2 ≡ edges ++ map (edge_on at) us → IsOnward Reached blocks (at + 1) edges2
  onward_more at edges edges2 us w reached is e = record { only = λ d p. only d (subst (λ es. Contains es d) e p); all = λ a t l h c. subst (λ es. Contains es (edge_on a t)) (sym e) (all a t l h c (cases_eq a at)) }
    where
      only : (d : Edge) → Contains (edges ++ map (edge_on at) us) d → (d.from < at + 1) × Reached d.from × Contains (targets (block_at blocks d.from).term) d.to
      only d p = elim (Contains-append_cases edges (map (edge_on at) us) d p) [
        | inl old ↦ (let q = w.only d old in ((let m = q.0 in omega arith), q.1, q.2))
        | inr new ↦ (let q = has_mapped at us d new in ((let m = q.0 in omega arith), subst Reached (sym q.0) reached, subst (λ xs. Contains xs d.to) (is ∙ ap (λ i. targets (block_at blocks i).term) (sym q.0)) q.1))
      ]

      all : (a t : ℕ) → a < at + 1 → Reached a → Contains (targets (block_at blocks a).term) t → (a ≡ at) ⊎ (a ≡ at → ⊥) → Contains (edges ++ map (edge_on at) us) (edge_on a t)
      all a t l h c (inl s) = Contains-append_right edges (map (edge_on at) us) (edge_on a t) (subst (λ i. Contains (map (edge_on at) us) (edge_on i t)) (sym s) (mapped_has at us t (subst (λ xs. Contains xs t) (ap (λ i. targets (block_at blocks i).term) s ∙ sym is) c)))
      all a t l h c (inr ne) = Contains-append_left edges (map (edge_on at) us) (edge_on a t) (w.all a t (omega arith) h c)

-- the same of blocks that are reached alike
pub onward_as : (R S : ℕ → Type 0) (blocks : List TypedBlock) (n : ℕ) (edges : List Edge) → ((a : ℕ) → R a → S a) → ((a : ℕ) → S a → R a) → IsOnward R blocks n edges → IsOnward S blocks n edges
onward_as R S blocks n edges f g w = record { only = λ e p. (let q = w.only e p in (q.0, f e.from q.1, q.2)); all = λ a t l h c. w.all a t l (g a h) c }
