-- How many locals and blocks there are: where no local is missing the declared ones are among as many as are declared; and where blocks are in order so are their labels.
use Rattle.std.proofs.Common.{◌≡◌, ◌∙◌, ◌<◌, ◌≤◌, ◌+◌, ℕ, zero, suc, Bool, true, false, ◌||◌, nat_eq, List, [], ◌∷◌, map, length, is_some, refl, sym, ap, subst, arith}
use Rattle.std.proofs.lemmas.Bool.{and_parts, eqb-true}
use Rattle.std.proofs.lemmas.Bool.Decides.{nat_tests}
use Rattle.mir_syntax.specs.Tree.{Tree}
use Rattle.mir_text.specs.GrammarTerms.{BlockRule, block_put}
use Rattle.mir_text.specs.NamedBodies.{Declared, declared_ty}
use Rattle.mir_text.specs.Naming.{locals_from}
use Rattle.mir_text.specs.PartLines.{LinesFrom, past, blocks_lined}
use Rattle.mir_text.specs.NameFaults.{is_among, below_declared, none_missing_in, none_missing, in_order, blocks_in_order}

abbrev IsDeclared : Declared → ℕ → Type 0
IsDeclared L x = is_some (declared_ty L x) ≡ true

-- ---- without the declarations of a local

abbrev kept : Bool → ℕ × Tree → Declared → Declared
kept true d ds = ds
kept false d ds = d ∷ ds

abbrev without : ℕ → Declared → Declared
without n [] = []
without n (d ∷ ds) = kept (nat_eq d.0 n) d (without n ds)

most-by : (b : Bool) (d : ℕ × Tree) (ds es : Declared) → length ds ≤ length es → length (kept b d ds) ≤ length (d ∷ es)
most-by true d ds es h = omega arith
most-by false d ds es h = omega arith

without-most : (n : ℕ) (L : Declared) → length (without n L) ≤ length L
without-most n [] = omega arith
without-most n (d ∷ ds) = most-by (nat_eq d.0 n) d (without n ds) ds (without-most n ds)

less-by : (n : ℕ) (d : ℕ × Tree) (ds : Declared) (b : Bool) → nat_eq d.0 n ≡ b → IsDeclared (d ∷ ds) n → (IsDeclared ds n → length (without n ds) < length ds) → length (without n (d ∷ ds)) < length (d ∷ ds)
less-by n d ds true e h later = let most = without-most n ds in rw e (let k : length (without n ds) < length (d ∷ ds) = omega (arith, most) in k)
less-by n d ds false e h later = let k = later (rw e at h) in rw e (let l : length (d ∷ without n ds) < length (d ∷ ds) = omega (arith, k) in l)

without-less : (n : ℕ) (L : Declared) → IsDeclared L n → length (without n L) < length L
without-less n [] h = absurd cc
without-less n (d ∷ ds) h = less-by n d ds (nat_eq d.0 n) refl h (λ k. without-less n ds k)

head-same : (x : ℕ) (d : ℕ × Tree) (es ds : Declared) (b : Bool) → nat_eq d.0 x ≡ b → declared_ty es x ≡ declared_ty ds x → declared_ty (d ∷ es) x ≡ declared_ty (d ∷ ds) x
head-same x d es ds true e later = rw e refl
head-same x d es ds false e later = rw e later

other-by : (n x : ℕ) (d : ℕ × Tree) (ds : Declared) (b : Bool) → nat_eq d.0 n ≡ b → nat_eq n x ≡ false → declared_ty (without n ds) x ≡ declared_ty ds x → declared_ty (without n (d ∷ ds)) x ≡ declared_ty (d ∷ ds) x
other-by n x d ds true e h later =
    let same : nat_eq d.0 x ≡ false = ap (λ k. nat_eq k x) (eqb-true d.0 n e) ∙ h in
    rw (e, same) later
other-by n x d ds false e h later = rw e (head-same x d (without n ds) ds (nat_eq d.0 x) refl later)

without-other : (n x : ℕ) (L : Declared) → nat_eq n x ≡ false → declared_ty (without n L) x ≡ declared_ty L x
without-other n x [] h = refl
without-other n x (d ∷ ds) h = other-by n x d ds (nat_eq d.0 n) refl h (without-other n x ds h)

differ : (m x : ℕ) → x < m → nat_eq m x ≡ false
differ m x h = grind (arith, nat_tests)

-- the numbers below one are declared: so many are declared at least
as-many-below : (m : ℕ) (L : Declared) → ((x : ℕ) → x < m → IsDeclared L x) → m ≤ length L
as-many-below zero L h = omega arith
as-many-below (suc m) L h =
    let less = without-less m L (h m (omega arith)) in
    let others = as-many-below m (without m L) (λ x below. ap is_some (without-other m x L (differ m x below)) ∙ h x (omega arith)) in
    omega (arith, less, others)

-- ---- none is missing

below-by : (L : Declared) (d : ℕ × Tree) (ds : Declared) (y : ℕ) (b : Bool) → nat_eq d.0 (suc y) ≡ b → none_missing_in L (d ∷ ds) ≡ true → IsDeclared (d ∷ ds) (suc y) → (none_missing_in L ds ≡ true → IsDeclared ds (suc y) → IsDeclared L y) → IsDeclared L y
below-by L d ds y true e h k later = ap (below_declared L) (sym (eqb-true d.0 (suc y) e)) ∙ (and_parts (below_declared L d.0) (none_missing_in L ds) h).0
below-by L d ds y false e h k later = later (and_parts (below_declared L d.0) (none_missing_in L ds) h).1 (rw e at k)

declared-below : (L : Declared) (ds : Declared) (y : ℕ) → none_missing_in L ds ≡ true → IsDeclared ds (suc y) → IsDeclared L y
declared-below L [] y h k = absurd cc
declared-below L (d ∷ ds) y h k = below-by L d ds y (nat_eq d.0 (suc y)) refl h k (declared-below L ds y)

step-by : (L : Declared) (x y : ℕ) (b : Bool) → nat_eq y (suc x) ≡ b → IsDeclared L (suc x) → y < suc (suc x) → (y < suc x → IsDeclared L y) → IsDeclared L y
step-by L x y true e k less later = subst (IsDeclared L) (sym (eqb-true y (suc x) e)) k
step-by L x y false e k less later = later (grind (arith, nat_tests))

all-below : (L : Declared) (x : ℕ) → none_missing_in L L ≡ true → IsDeclared L x → (y : ℕ) → y < suc x → IsDeclared L y
all-below L zero h k y less = let e : y ≡ 0 = omega arith in subst (IsDeclared L) (sym e) k
all-below L (suc x) h k y less = step-by L x y (nat_eq y (suc x)) refl k less (λ below. all-below L x h (declared-below L L x h k) y below)

pub declared_few : (L : Declared) (x : ℕ) → none_missing L ≡ true → is_some (declared_ty L x) ≡ true → x < length L
declared_few L x h k =
    let (start, closed) = and_parts (is_some (declared_ty L 0)) (none_missing_in L L) h in
    let many = as-many-below (suc x) L (all-below L x closed k) in
    omega (arith, many)

-- ---- labels

label-by : (k l n b : ℕ) (x y : Bool) → nat_eq l b ≡ x → nat_eq l k ≡ true → (x || y) ≡ true → (y ≡ true → b < suc k + n) → b < k + suc n
label-by k l n b true y e h o later = let p = eqb-true l b e in let q = eqb-true l k h in omega (arith, p, q)
label-by k l n b false y e h o later = let less = later o in omega (arith, less)

labels-below : (k : ℕ) (ls : List ℕ) (b : ℕ) → in_order k ls ≡ true → is_among ls b ≡ true → b < k + length ls
labels-below k [] b h e = absurd cc
labels-below k (l ∷ ls) b h e =
    let (first, rest) = and_parts (nat_eq l k) (in_order (suc k) ls) h in
    label-by k l (length ls) b (nat_eq l b) (is_among ls b) refl first e (λ f. labels-below (suc k) ls b rest f)

pub labels_few : (ls : List ℕ) (b : ℕ) → blocks_in_order ls ≡ true → is_among ls b ≡ true → b < length ls
labels_few [] b h e = absurd cc
labels_few (l ∷ ls) b h e = let k = labels-below 0 (l ∷ ls) b h e in omega (arith, k)

pub labels_some : (ls : List ℕ) → blocks_in_order ls ≡ true → 0 < length ls
labels_some [] h = absurd cc
labels_some (l ∷ ls) h = omega arith

-- ---- as many as there are

pub locals_from-length : (L : Declared) (k n : ℕ) → length (locals_from L k n) ≡ n
locals_from-length L k zero = refl
locals_from-length L k (suc n) = ap suc (locals_from-length L (suc k) n)

pub blocks_lined-length : (bs : List BlockRule) (lines : LinesFrom) → length (map (λ b. b.label) (blocks_lined bs lines)) ≡ length bs
blocks_lined-length [] lines = refl
blocks_lined-length (b ∷ bs) lines = ap suc (blocks_lined-length bs (past block_put b lines))
