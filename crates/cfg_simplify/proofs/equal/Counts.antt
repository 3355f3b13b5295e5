-- The counts of edges, and the blocks that are joined by them.
use Rattle.std.proofs.Common.{◌≡◌, ℕ, ◌+◌, min, ◌<◌, ◌≤◌, List, [], ◌∷◌, ◌++◌, map, length, get_or, take, replicate, Bool, true, false, not, cond, ◌&&◌, ◌==◌, inl, inr, Some, None, refl, sym, ap, ap₂, ◌∙◌, arith}
use Rattle.std.specs.List.{All, filter, count_by, flat_map}
use Rattle.std.proofs.lemmas.Bool.{eqb-true, eq-eqb, ne_eqb, cases_eq, cond-true, cond-false}
use Rattle.std.proofs.lemmas.List.{append-nil, length-set, length-replicate, get_or-set_same, get_or-set_other, get_or-replicate, take_more, get_or-map}
use Rattle.std.proofs.lemmas.List.Elements.{All-set, All-replicate, filter-append, All-get_or, All-head}
use Rattle.std.proofs.lemmas.List.Sums.{sum_by-append}
use Rattle.std.proofs.lemmas.Grind.{flat_map-append}
use Rattle.mir_syntax.specs.declared.body.Block.{Block}
use Rattle.mir_syntax.specs.declared.body.Term.{Term}
use Rattle.mir_syntax.specs.declared.body.Term.TheVariants.{Goto, Switch, Return, Unreachable, Drop, Call, Assert}
use Rattle.mir_syntax.specs.Parts.{targets}
use Rattle.mir_cfg.specs.Paths.{exits, Closed, is_reached, block_term}
use Rattle.cfg_simplify.specs.Edges.{goto_block}
use Rattle.cfg_simplify.specs.Simple.{numbers, incoming, joins_to, only_if, joined}
use Rattle.cfg_simplify.specs.Code.{at, one_more, counted, joins_by}
use Rattle.mir_syntax.proofs.Bools.{same_tests}
use Rattle.cfg_simplify.proofs.equal.Lists.{numbers_push}
use Rattle.cfg_simplify.proofs.equal.Terms.{block-closed}

-- ---- counting a list of ends

pub length-counted : (counts bs : List ℕ) → length (counted counts bs) ≡ length counts
length-counted counts [] = refl
length-counted counts (b ∷ bs) = length-counted (one_more counts b) bs ∙ length-set counts b (min 2 (at counts b + 1))

pub capped-counted : (counts bs : List ℕ) → All (λ n. n ≤ 2) counts → All (λ n. n ≤ 2) (counted counts bs)
capped-counted counts [] h = h
capped-counted counts (b ∷ bs) h = capped-counted (one_more counts b) bs (All-set (λ n. n ≤ 2) counts b (min 2 (at counts b + 1)) (omega arith) h)

counted-append : (counts xs ys : List ℕ) → counted counts (xs ++ ys) ≡ counted (counted counts xs) ys
counted-append counts [] ys = refl
counted-append counts (x ∷ xs) ys = counted-append (one_more counts x) xs ys

abbrev pub hit : ℕ → ℕ → ℕ
hit e b = cond (e == b) 1 0

pub at-counted : (counts bs : List ℕ) (b : ℕ) → b < length counts → All (λ n. n ≤ 2) counts → at (counted counts bs) b ≡ min 2 (at counts b + count_by (λ e. e == b) bs)
at-counted counts [] b l h =
    let low : at counts b ≤ 2 = All-get_or (λ n. n ≤ 2) counts b 0 l h in
    omega arith
at-counted counts (e ∷ es) b l h =
    let rest = at-counted (one_more counts e) es b (omega (arith, l, length-set counts e (min 2 (at counts e + 1)))) (All-set (λ n. n ≤ 2) counts e (min 2 (at counts e + 1)) (omega arith) h) in
    let more : count_by (λ x. x == b) (e ∷ es) ≡ (0 + hit e b) + count_by (λ x. x == b) es = sum_by-append (λ (x : ℕ). cond (x == b) 1 0) (e ∷ []) es in
    elim (cases_eq e b) [
      | inl same ↦ (let here : at (one_more counts e) b ≡ min 2 (at counts b + 1) = rw same (get_or-set_same counts b (min 2 (at counts b + 1)) 0 l) in
          let one : hit e b ≡ 1 = cond-true (e == b) 1 0 (eq-eqb e b same) in
          rest ∙ omega (arith, here, one, more))
      | inr apart ↦ (let there : at (one_more counts e) b ≡ at counts b = get_or-set_other counts e b (min 2 (at counts e + 1)) 0 (λ (q : b ≡ e). apart (sym q)) in
          let none : hit e b ≡ 0 = cond-false (e == b) 1 0 (ne_eqb e b apart) in
          rest ∙ omega (arith, there, none, more))
    ]

pub counts_more : (ends : List ℕ) (i d : ℕ) → i < length ends → (first counts counts2 : List ℕ) → counts ≡ counted first (take i ends) → counts2 ≡ one_more counts (get_or ends i d) → counts2 ≡ counted first (take (i + 1) ends)
counts_more ends i d l first counts counts2 e e2 =
    e2 ∙ ap (λ xs. one_more xs (get_or ends i d)) e ∙ sym (counted-append first (take i ends) (get_or ends i d ∷ [])) ∙ ap (counted first) (sym (take_more ends i d l))

-- ---- counting the edges of reached blocks

-- where the edges of the reached ones of the first blocks lead
abbrev pub ends_of : List Term → ℕ → List ℕ
ends_of terms i = flat_map (exits terms) (filter (is_reached terms) (numbers i))

pub record IsCounted (terms : List Term) (i : ℕ) (counts : List ℕ) : Type 0 where
  pub long : length counts ≡ length terms
  pub capped : All (λ n. n ≤ 2) counts
  pub each : (b : ℕ) → b < length terms → at counts b ≡ min 2 (count_by (λ e. e == b) (ends_of terms i))

pub counted-none : (terms : List Term) → IsCounted terms 0 (replicate (length terms) 0)
counted-none terms = record {
  long = length-replicate (length terms) 0;
  capped = All-replicate (λ n. n ≤ 2) (length terms) 0 (omega arith);
  each = λ b l. get_or-replicate (length terms) b 0 0 l;
}

pub ends-step : (terms : List Term) (i : ℕ) → ends_of terms (i + 1) ≡ ends_of terms i ++ flat_map (exits terms) (cond (is_reached terms i) (i ∷ []) [])
ends-step terms i =
    ap (λ xs. flat_map (exits terms) (filter (is_reached terms) xs)) (numbers_push i)
    ∙ ap (flat_map (exits terms)) (filter-append (is_reached terms) (numbers i) (i ∷ []))
    ∙ flat_map-append (exits terms) (filter (is_reached terms) (numbers i)) (cond (is_reached terms i) (i ∷ []) [])

pub counted-skip : (terms : List Term) (i : ℕ) (counts : List ℕ) → IsCounted terms i counts → is_reached terms i ≡ false → IsCounted terms (i + 1) counts
counted-skip terms i counts s skipped =
    let e : ends_of terms (i + 1) ≡ ends_of terms i = ends-step terms i ∙ ap (λ xs. ends_of terms i ++ flat_map (exits terms) xs) (cond-false (is_reached terms i) (i ∷ []) [] skipped) ∙ append-nil (ends_of terms i) in
    record { long = s.long; capped = s.capped; each = λ b l. s.each b l ∙ ap (λ xs. min 2 (count_by (λ e. e == b) xs)) (sym e) }

pub counted-step : (terms : List Term) (i : ℕ) (counts : List ℕ) → IsCounted terms i counts → is_reached terms i ≡ true → IsCounted terms (i + 1) (counted counts (exits terms i))
counted-step terms i counts s taken =
    let e : ends_of terms (i + 1) ≡ ends_of terms i ++ (exits terms i ++ []) = ends-step terms i ∙ ap (λ xs. ends_of terms i ++ flat_map (exits terms) xs) (cond-true (is_reached terms i) (i ∷ []) [] taken) in
    record {
      long = length-counted counts (exits terms i) ∙ s.long;
      capped = capped-counted counts (exits terms i) s.capped;
      each = λ b l.
          (let sums : count_by (λ e. e == b) (ends_of terms (i + 1)) ≡ count_by (λ e. e == b) (ends_of terms i) + count_by (λ e. e == b) (exits terms i) =
          ap (count_by (λ e. e == b)) (e ∙ ap (λ xs. ends_of terms i ++ xs) (append-nil (exits terms i))) ∙ sum_by-append (λ (e : ℕ). cond (e == b) 1 0) (ends_of terms i) (exits terms i) in
          let here = at-counted counts (exits terms i) b (omega (arith, s.long, l)) s.capped in
          let so = s.each b l in
          omega (arith, sums, here, so));
    }

-- ---- joined blocks

pub one-edge : (m n : ℕ) → m ≡ min 2 n → (m == 1) ≡ (n == 1)
one-edge m n e = same_tests (m == 1) (n == 1) (λ h. (let k : m ≡ 1 = eqb-true m 1 h in eq-eqb n 1 (omega arith))) (λ h. (let k : n ≡ 1 = eqb-true n 1 h in eq-eqb m 1 (omega arith)))

only-agree : (p q : ℕ → Bool) (t : Term) → All (λ b. p b ≡ q b) (targets t) → only_if p (goto_block t) ≡ only_if q (goto_block t)
only-agree p q (Goto b) h = ap (λ v. cond v (Some b) None) (All-head (λ b. p b ≡ q b) b [] h)
only-agree p q (Switch x arms b) h = refl
only-agree p q Return h = refl
only-agree p q Unreachable h = refl
only-agree p q (Drop x b) h = refl
only-agree p q (Call x c xs b) h = refl
only-agree p q (Assert x e text xs b) h = refl

pub joined-is : (blocks : List Block) (counts : List ℕ) (a : ℕ) (d : Block) → Closed (map block_term blocks) → ((b : ℕ) → b < length blocks → at counts b ≡ min 2 (incoming (map block_term blocks) b)) → a < length blocks → (flag : Bool) → flag ≡ is_reached (map block_term blocks) a → cond flag (only_if (joins_by counts a) (goto_block (block_term (get_or blocks a d)))) None ≡ joined (map block_term blocks) a
joined-is blocks counts a d closed each l flag same =
    let terms = map block_term blocks in
    let t = block_term (get_or blocks a d) in
    let term : get_or terms a Unreachable ≡ t = get_or-map block_term blocks a d Unreachable l in
    let agree : only_if (joins_by counts a) (goto_block t) ≡ only_if (joins_to terms a) (goto_block t) =
    only-agree (joins_by counts a) (joins_to terms a) t (λ k e m.
    (let b = get_or (targets t) k e in
    ap (λ v. not (b == 0) && (not (b == a) && v)) (one-edge (at counts b) (incoming terms b) (each b (block-closed blocks a d closed l k e m))))) in
    ap₂ (λ f o. cond f o None) same (agree ∙ ap (λ x. only_if (joins_to terms a) (goto_block x)) (sym term))
