-- The call graph of a crate: what chains of calls lead to, and who asks for whose body. This project's own, after rustc's inliner.
use Rattle.std.specs.Prelude.{◌≡◌, ℕ, zero, suc, ◌+◌, ◌*◌, ◌<◌, ◌≤◌, Bool, true, false, not, nat_lt, ◌==◌, ◌&&◌, ◌||◌, List, [], ◌∷◌, ◌++◌, length, map, Option, Some, None, option_to_list, get_or, if◌then◌else◌}
use Rattle.std.specs.List.{list_any}
use Rattle.bit_rows.specs.Rows.{stands}
use Rattle.mir_syntax.specs.Crate.{Crate, TypedFunction}

pub record Graph : Type 0 where
  -- functions are the numbers below this
  pub functions : ℕ
  -- whom each calls
  pub callees : ℕ → List ℕ
  -- the path of the first is below that of the second
  pub below : ℕ → ℕ → Bool

-- a call leads to a function of the crate, and paths are in order
pub record IsGraph (G : Graph) : Type 0 where
  pub callees_below : (f g : ℕ) → stands g (G.callees f) ≡ true → g < G.functions
  pub irreflexive : (f : ℕ) → G.below f f ≡ false
  pub transitive : (f g h : ℕ) → G.below f g ≡ true → G.below g h ≡ true → G.below f h ≡ true

-- ---- the order of paths

-- the first bytes come before the second: by the first byte that differs, or as the shorter ones
abbrev pub bytes_below : List ℕ → List ℕ → Bool
bytes_below xs [] = false
bytes_below [] (y ∷ ys) = true
bytes_below (x ∷ xs) (y ∷ ys) = nat_lt x y || ((x == y) && bytes_below xs ys)

abbrev pub path_of : TypedFunction → List ℕ
path_of f = f.path

abbrev pub path_at : Crate → ℕ → List ℕ
path_at C f = get_or (map path_of C.functions) f []

-- the path of the first function is below that of the second, by bytes
abbrev pub path_below : Crate → ℕ → ℕ → Bool
path_below C f g = bytes_below (path_at C f) (path_at C g)

-- the call graph of a crate, given whom each function calls
abbrev pub graph_of : Crate → (ℕ → List ℕ) → Graph
graph_of C callees = record { functions = length C.functions; callees = callees; below = path_below C }

-- ---- chains

-- a chain of so many calls leads from one function to another
abbrev pub Chain : Graph → ℕ → ℕ → ℕ → Type 0
Chain G zero g h = g ≡ h
Chain G (suc n) g h = (k : ℕ) × (stands k (G.callees g) ≡ true) × Chain G n k h

-- a chain of calls, or of none, leads from one function to another
abbrev pub Reaches : Graph → ℕ → ℕ → Type 0
Reaches G g h = (n : ℕ) × Chain G n g h

-- ---- what is reached, in the order in which it becomes known

-- one of these functions calls it
abbrev pub called_by : Graph → List ℕ → ℕ → Bool
called_by G ks h = list_any (λ k. stands h (G.callees k)) ks

-- known is g itself, and whom those call whose callees are given
abbrev pub is_known : Graph → ℕ → List ℕ → ℕ → Bool
is_known G g given h = (h == g) || called_by G given h

-- the first of n numbers from i on that passes
abbrev pub least : (ℕ → Bool) → ℕ → ℕ → Option ℕ
least p i zero = None
least p i (suc n) = if p i then Some i else least p (suc i) n

-- the least known function whose callees aren't given
unfoldable pub next_known : Graph → ℕ → List ℕ → Option ℕ
next_known G g given = least (λ h. is_known G g given h && not (stands h given)) 0 G.functions

abbrev pub reach_from : Graph → ℕ → ℕ → List ℕ → List ℕ
reach_from G g zero given = given
reach_from G g (suc n) given = reach_from G g n (given ++ option_to_list (next_known G g given))

-- what g reaches, always the least known one next
unfoldable pub reach : Graph → ℕ → List ℕ
reach G g = reach_from G g G.functions []

-- ---- who asks

-- some of these functions reaches g
abbrev pub some_reaches : Graph → List ℕ → ℕ → Bool
some_reaches G hs g = list_any (λ h. stands g (reach G h)) hs

-- f asks for g where a callee of f reaches g, and either f's path is below g's or g doesn't reach f
unfoldable pub asks : Graph → ℕ → ℕ → Bool
asks G f g = some_reaches G (G.callees f) g && (G.below f g || not (stands f (reach G g)))

-- ---- a number that falls from a function to each that it asks for

abbrev pub one_if : Bool → ℕ
one_if b = if b then 1 else 0

-- how many numbers below this pass
abbrev pub count_below : (ℕ → Bool) → ℕ → ℕ
count_below p zero = 0
count_below p (suc n) = one_if (p n) + count_below p n

-- how many paths are above that of f
unfoldable pub above : Graph → ℕ → ℕ
above G f = count_below (G.below f) G.functions

unfoldable pub weight : Graph → ℕ → ℕ
weight G f = length (reach G f) * suc G.functions + above G f

-- ---- components: functions that reach one another

-- callees first: a call leads to the same component or an earlier one, and in one component each reaches the other
pub record IsComponents (G : Graph) (component : ℕ → ℕ) : Type 0 where
  pub earlier : (f g : ℕ) → f < G.functions → stands g (G.callees f) ≡ true → component g ≤ component f
  pub both : (f g : ℕ) → f < G.functions → g < G.functions → component f ≡ component g → Reaches G f g

-- ---- graphs by lists, in which a number tells of each item which node it is

-- what a node leads to
abbrev pub listed : {A : Type 0} → (A → ℕ) → List (List A) → ℕ → List ℕ
listed number lists f = map number (get_or lists f [])

-- a graph that has these lists
pub record HasLists {A : Type 0} (number : A → ℕ) (G : Graph) (lists : List (List A)) : Type 0 where
  pub nodes : G.functions ≡ length lists
  pub listed : (f : ℕ) → f < length lists → G.callees f ≡ listed number lists f

-- each list has nodes of the graph
abbrev pub StaysInside : {A : Type 0} → (A → ℕ) → List (List A) → Type 0
StaysInside number lists = (f g : ℕ) → stands g (listed number lists f) ≡ true → g < length lists

abbrev pub component_in : List ℕ → ℕ → ℕ
component_in numbers f = get_or numbers f 0

-- of a function g that f reaches by some call: whether f asks for it
abbrev pub asks_by : Graph → (ℕ → ℕ) → ℕ → ℕ → Bool
asks_by G component f g = G.below f g || not (component f == component g)
