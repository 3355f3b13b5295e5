-- The edges of blocks, found block by block.
use Rattle.std.proofs.Common.{◌≡◌, ◌≢◌, ◌⊎◌, inl, inr, refl, sym, ap, ◌∙◌, subst, ℕ, zero, suc, ◌+◌, ◌*◌, ◌<◌, Bool, true, false, ◌&&◌, ◌||◌, nat_eq, nat_lt, if◌then◌else◌, List, [], ◌∷◌, ◌++◌, map, take, length, get_or, Some, slice_get, arith}
use Rattle.std.specs.List.{All, Contains, list_any}
use Rattle.std.proofs.lemmas.Bool.{cases_eq, eqb-true, or_left, or_right, and_from}
use Rattle.std.proofs.lemmas.List.{take_more, append-nil}
use Rattle.std.proofs.lemmas.List.Folds.{list_any-append, list_any-from_Any, Any-from_list_any}
use Rattle.std.proofs.lemmas.Option.{slice_get_within, slice_get-get_or, get_or_from_slice_get}
use Rattle.std.proofs.lemmas.List.Elements.{All-contains, Contains-append_left, Contains-append_right, Contains-append_cases}
use Rattle.mir_syntax.specs.declared.body.Term.{Term}
use Rattle.mir_cfg.specs.Paths.{exits, Closed}
use Rattle.flow_engine.specs.declared.edges.Edge.{Edge}
use Rattle.const_flow.specs.Nodes.{start_node, end_node, is_start, node_block, edge_to, over, out, overs_to, edges_of, IsOf, HasEdges, is_edge}
use Rattle.const_flow.proofs.Numbering.{end_is, start_block, start_starts, end_block, end_low}

pub contains_at : {A : Type 0} (xs : List A) (i : ℕ) (x : A) → slice_get xs i ≡ Some x → Contains xs x
contains_at xs i x e = (i, slice_get_within xs i x e, get_or_from_slice_get xs i x x e)

pub at_contains : {A : Type 0} (xs : List A) (x : A) → Contains xs x → (i : ℕ) × (slice_get xs i ≡ Some x)
at_contains xs x (i, l, e) = (i, slice_get-get_or xs i x l ∙ ap (λ y. Some y) e)

has_mapped : (b : ℕ) (us : List ℕ) (d : Edge) → Contains (map (out b) us) d → (t : ℕ) × Contains us t × (d ≡ out b t)
has_mapped b [] d p = absurd (let l = p.1 in omega arith)
has_mapped b (v ∷ us) d (zero, l, q) = (v, (0, omega arith, refl), sym q)
has_mapped b (v ∷ us) d (suc k, l, q) = (let (t, c, e) = has_mapped b us d (k, omega arith, q) in (t, (suc c.0, (let m = c.1 in omega arith), c.2), e))

mapped_has : (b : ℕ) (us : List ℕ) (t : ℕ) → Contains us t → Contains (map (out b) us) (out b t)
mapped_has b [] t p = absurd (let l = p.1 in omega arith)
mapped_has b (v ∷ us) t (zero, l, q) = (0, omega arith, ap (out b) q)
mapped_has b (v ∷ us) t (suc k, l, q) = (let p = mapped_has b us t (k, omega arith, q) in (suc p.0, (let m = p.1 in omega arith), p.2))

-- ---- one block's edges

any_has : (f : ℕ → Bool) (us : List ℕ) (t : ℕ) → Contains us t → f t ≡ true → list_any f us ≡ true
any_has f us t c e = list_any-from_Any f us (c.0, t, c.1, c.2, e)

pub any_there : (f : ℕ → Bool) (us : List ℕ) → list_any f us ≡ true → (t : ℕ) × Contains us t × (f t ≡ true)
any_there f us e = let (k, t, l, here, s) = Any-from_list_any f us e in (t, (k, l, here), s)

abbrev pub leaves_to : ℕ → ℕ → ℕ → Bool
leaves_to b end t = nat_eq (end_node b t) end

overs_only : (b end : ℕ) (us : List ℕ) (d : Edge) → Contains (overs_to b end us) d → (t : ℕ) × Contains us t × (d ≡ over b t)
overs_only b end us d = go (list_any (leaves_to b end) us) refl
  where
    go : (c : Bool) → list_any (leaves_to b end) us ≡ c → Contains (if c then edge_to (start_node b) end ∷ [] else []) d → (t : ℕ) × Contains us t × (d ≡ over b t)
    go false e p = absurd (let l = p.1 in omega arith)
    go true e (zero, l, q) = (let (t, c, s) = any_there (leaves_to b end) us e in (t, c, sym q ∙ ap (edge_to (start_node b)) (sym (eqb-true (end_node b t) end s))))
    go true e (suc k, l, q) = absurd (omega arith)

overs_has : (b end : ℕ) (us : List ℕ) (t : ℕ) → Contains us t → end ≡ end_node b t → Contains (overs_to b end us) (over b t)
overs_has b end us t c s =
    let some : list_any (leaves_to b end) us ≡ true = any_has (leaves_to b end) us t c (let z : nat_eq (end_node b t) end ≡ true = grind arith in z) in
    subst (λ (k : Bool). Contains (if k then edge_to (start_node b) end ∷ [] else []) (over b t)) (sym some) (0, omega arith, ap (edge_to (start_node b)) s)

pub overs_past : (b end : ℕ) (us : List ℕ) (i : ℕ) → i < length us → end_node b (get_or us i 0) ≢ end → list_any (leaves_to b end) (take i us) ≡ false → list_any (leaves_to b end) (take (i + 1) us) ≡ false
overs_past b end us i l ne none =
    let t = get_or us i 0 in
    ap (list_any (leaves_to b end)) (take_more us i 0 l)
    ∙ list_any-append (leaves_to b end) (take i us) (t ∷ [])
    ∙ ap (λ c. c || (leaves_to b end t || false)) none
    ∙ (let z : nat_eq (end_node b t) end ≡ false = grind arith in ap (λ c. c || false) z)

pub overs_found : (b end : ℕ) (us : List ℕ) (t : ℕ) (edges : List Edge) → Contains us t → end_node b t ≡ end → edges ++ edge_to (start_node b) end ∷ [] ≡ edges ++ overs_to b end us
overs_found b end us t edges c s =
    let some : list_any (leaves_to b end) us ≡ true = any_has (leaves_to b end) us t c (let z : nat_eq (end_node b t) end ≡ true = grind arith in z) in
    ap (λ (k : Bool). edges ++ (if k then edge_to (start_node b) end ∷ [] else [])) (sym some)

pub overs_none : (b end : ℕ) (us : List ℕ) (edges : List Edge) → list_any (leaves_to b end) us ≡ false → edges ≡ edges ++ overs_to b end us
overs_none b end us edges none = sym (append-nil edges) ∙ ap (λ (k : Bool). edges ++ (if k then edge_to (start_node b) end ∷ [] else [])) (sym none)

of_only : (b : ℕ) (us : List ℕ) (d : Edge) → Contains (edges_of b us) d → (t : ℕ) × Contains us t × ((d ≡ over b t) ⊎ (d ≡ out b t))
of_only b us d p = elim (Contains-append_cases (overs_to b (3 * b) us ++ overs_to b (3 * b + 2) us) (map (out b) us) d p) [
  | inl q ↦ elim (Contains-append_cases (overs_to b (3 * b) us) (overs_to b (3 * b + 2) us) d q) [
    | inl first ↦ (let (t, c, s) = overs_only b (3 * b) us d first in (t, c, inl s))
    | inr second ↦ (let (t, c, s) = overs_only b (3 * b + 2) us d second in (t, c, inl s))
  ]
  | inr last ↦ (let (t, c, s) = has_mapped b us d last in (t, c, inr s))
]

of_over : (b : ℕ) (us : List ℕ) (t : ℕ) → Contains us t → Contains (edges_of b us) (over b t)
of_over b us t c = Contains-append_left (overs_to b (3 * b) us ++ overs_to b (3 * b + 2) us) (map (out b) us) (over b t) (elim (end_is b t) [
  | inl s ↦ Contains-append_left (overs_to b (3 * b) us) (overs_to b (3 * b + 2) us) (over b t) (overs_has b (3 * b) us t c (sym s))
  | inr s ↦ Contains-append_right (overs_to b (3 * b) us) (overs_to b (3 * b + 2) us) (over b t) (overs_has b (3 * b + 2) us t c (sym s))
])

of_out : (b : ℕ) (us : List ℕ) (t : ℕ) → Contains us t → Contains (edges_of b us) (out b t)
of_out b us t c = Contains-append_right (overs_to b (3 * b) us ++ overs_to b (3 * b + 2) us) (map (out b) us) (out b t) (mapped_has b us t c)

-- ---- block by block

pub edges_none : (terms : List Term) → HasEdges terms 0 []
edges_none terms = record { only = λ e p. absurd (let l = p.1 in omega arith); overs = λ b t l c. absurd (omega arith); outs = λ b t l c. absurd (omega arith) }

-- one more block's edges
pub edges_more : (terms : List Term) (at : ℕ) (edges edges2 : List Edge) (us : List ℕ) → HasEdges terms at edges → us ≡ exits terms at → edges2 ≡ edges ++ edges_of at us → HasEdges terms (at + 1) edges2
edges_more terms at edges edges2 us w is e = subst (HasEdges terms (at + 1)) (sym e) (record {
  only = only;
  overs = λ b t l c. each b t l c (over b t) (w.overs b t) (λ s d. subst (λ i. Contains (edges_of at us) (over i t)) (sym s) (of_over at us t d)) (cases_eq b at);
  outs = λ b t l c. each b t l c (out b t) (w.outs b t) (λ s d. subst (λ i. Contains (edges_of at us) (out i t)) (sym s) (of_out at us t d)) (cases_eq b at);
})
  where
    only : (d : Edge) → Contains (edges ++ edges_of at us) d → (b : ℕ) × (b < at + 1) × IsOf terms b d
    only d p = elim (Contains-append_cases edges (edges_of at us) d p) [
      | inl old ↦ (let (b, l, o) = w.only d old in (b, omega arith, o))
      | inr new ↦ (let (t, c, s) = of_only at us d new in (at, omega arith, (t, subst (λ xs. Contains xs t) is c, s)))
    ]

    each : (b t : ℕ) → b < at + 1 → Contains (exits terms b) t → (d : Edge) → (b < at → Contains (exits terms b) t → Contains edges d) → (b ≡ at → Contains us t → Contains (edges_of at us) d) → (b ≡ at) ⊎ (b ≡ at → ⊥) → Contains (edges ++ edges_of at us) d
    each b t l c d old new (inl s) = Contains-append_right edges (edges_of at us) d (new s (subst (λ xs. Contains xs t) (ap (exits terms) s ∙ sym is) c))
    each b t l c d old new (inr ne) = Contains-append_left edges (edges_of at us) d (old (omega arith) c)

-- ---- the test of an edge

pub edges_tested : (n : ℕ) (terms : List Term) (edges : List Edge) → HasEdges terms n edges → (i : ℕ) (e : Edge) → slice_get edges i ≡ Some e → is_edge n terms e ≡ true
edges_tested n terms edges h i e at = go (h.only e (contains_at edges i e at))
  where
    tested : (b t : ℕ) (d : Edge) → b < n → node_block d.from ≡ b → (is_start d.from || list_any (nat_eq (node_block d.to)) (exits terms b)) ≡ true → is_edge n terms d ≡ true
    tested b t d l s k = subst (λ i. (nat_lt i n && (is_start d.from || list_any (nat_eq (node_block d.to)) (exits terms i))) ≡ true) (sym s) (and_from (nat_lt b n) (is_start d.from || list_any (nat_eq (node_block d.to)) (exits terms b)) (grind arith) k)

    go : (b : ℕ) × (b < n) × IsOf terms b e → is_edge n terms e ≡ true
    go (b, l, (t, c, inl s)) = subst (λ e. is_edge n terms e ≡ true) (sym s) (tested b t (over b t) l (start_block b) (or_left (is_start (start_node b)) (list_any (nat_eq (node_block (end_node b t))) (exits terms b)) (start_starts b)))
    go (b, l, (t, c, inr s)) =
        let same : node_block (start_node t) ≡ t = start_block t in
        subst (λ e. is_edge n terms e ≡ true) (sym s) (tested b t (out b t) l (end_block b (end_node b t) (end_is b t)) (or_right (is_start (end_node b t)) (list_any (nat_eq (node_block (start_node t))) (exits terms b)) (any_has (nat_eq (node_block (start_node t))) (exits terms b) t c (let z : nat_eq (node_block (start_node t)) t ≡ true = subst (λ k. nat_eq k t ≡ true) (sym same) (grind arith) in z))))

-- they lie among the nodes
pub edges_inside : (n m : ℕ) (terms : List Term) (edges : List Edge) → m ≡ 3 * n → HasEdges terms n edges → ((b t : ℕ) → b < n → Contains (exits terms b) t → t < n) → All (λ e. (e.from < m) × (e.to < m)) edges
edges_inside n m terms edges thrice h closed k d l = go (get_or edges k d) (h.only (get_or edges k d) (contains_at edges k (get_or edges k d) (slice_get-get_or edges k d l)))
  where
    go : (e : Edge) → (b : ℕ) × (b < n) × IsOf terms b e → (e.from < m) × (e.to < m)
    go e (b, low, (t, c, inl s)) = (let q = end_low b (end_node b t) n (end_is b t) low in subst (λ (e : Edge). (e.from < m) × (e.to < m)) (sym s) (omega arith, omega arith))
    go e (b, low, (t, c, inr s)) = (let q = end_low b (end_node b t) n (end_is b t) low in let r = closed b t low c in subst (λ (e : Edge). (e.from < m) × (e.to < m)) (sym s) (omega arith, omega arith))

pub closed_at : (n : ℕ) (terms : List Term) → length terms ≡ n → Closed terms → (b t : ℕ) → b < n → Contains (exits terms b) t → t < n
closed_at n terms long closed b t l c = subst (λ m. t < m) long (All-contains (λ u. u < length terms) (exits terms b) t (closed b) c)
